use Rattle.std.proofs.Common.{◌≡◌, Option, Some, None, IfSome, IfNone, Err, is_some, is_ok, refl, ◌∙◌}
use Rattle.model_words.specs.declared.refusals.Refusal.TheVariants.{Freed}
use Rattle.mesh_steps.specs.Heap.{Heap, IsReferred, plain_of, referred}
use Rattle.mesh_page_heap.specs.declared.answers.Occupied.{Occupied}
use Rattle.mesh_steps.specs.declared.answers.Ref.{Ref}
use Rattle.mesh_steps.proofs.heap.Heap.is_live.Goals as goal

-- a look-up of a reference finds something exactly where it names a live object
told : (h : Heap) (object : Ref) (o : Option Occupied) → IfSome o (IsReferred h object) → IfNone o (referred (plain_of h) object ≡ Err Freed)
    → is_some o ≡ is_ok (referred (plain_of h) object)
told h object None there none = rw none refl
told h object (Some x) there none = rw there.named refl

pub returns : goal.returns
returns c = c.is_some.ensures ∙ told c.args.self.now c.args.object c.live.result c.live.ensures.there c.live.ensures.none
