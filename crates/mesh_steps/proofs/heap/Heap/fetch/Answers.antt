use Rattle.std.proofs.Common.{◌≡◌, ◌+◌, ℕ, List, ◌++◌, length, take, drop, sym, ap, ◌∙◌, arith}
use Rattle.std.proofs.Math.Seq.{take-append_seam}
use Rattle.std.proofs.lemmas.Grind.{common_steps}
use Rattle.mesh_arena.specs.Pages.{run_of, length-run_of}
use Rattle.mesh_store.specs.Places.{byte_of}
use Rattle.mesh_steps.proofs.Objects.{read_is}
use Rattle.mesh_steps.proofs.Stores.{live_for_fits, live_for_object, live_inside}
use Rattle.mesh_steps.proofs.heap.Heap.fetch.Goals as goal

-- bytes written over as many are all that is there
overlaid : (xs ys : List ℕ) → length xs ≡ length ys → take (length ys) (xs ++ drop (length xs) ys) ≡ xs
overlaid xs ys same =
    ap (λ (n : ℕ). take n (xs ++ drop (length xs) ys)) (sym same) ∙ take-append_seam xs (drop (length xs) ys)

pub overflow_add-object : goal.overflow_add-object
overflow_add-object c =
    omega (arith, live_for_fits _ _ _ _ _ c.self.invariant c.sound.ensures.index c.requires.some (live_inside _ _ _ _ _ c.self.view_is c.requires.live))

pub load-requires-clause-object : goal.load-requires-clause-object
load-requires-clause-object c =
    let long : length c.as_mut_slice.result.now ≡ c.args.len = grind (arith, common_steps) in
    rw long (live_for_object _ _ _ _ _ c.self.invariant (live_inside _ _ _ _ _ c.self.view_is c.requires.live))

pub returns-clause-bytes : goal.returns-clause-bytes
returns-clause-bytes c =
    let long : length c.truncate.new.self.items ≡ c.args.len = grind (arith, common_steps) in
    let slice : length c.as_mut_slice.result.now ≡ c.args.len = grind (arith, common_steps) in
    let out : c.load.new.out ≡ run_of (byte_of c.self.inside.pages.arena c.self.inside.pages.map) (c.args.object.addr + c.args.off) c.args.len
    = rw (← slice) c.load.ensures in
    let same : length c.load.new.out ≡ length c.truncate.new.self.items
    = ap (λ (xs : List ℕ). length xs) out
    ∙ length-run_of (byte_of c.self.inside.pages.arena c.self.inside.pages.map) (c.args.object.addr + c.args.off) c.args.len ∙ sym long in
    rw (← c.self.view_is) (read_is _ _ _ _ _ c.self.invariant (live_inside _ _ _ _ _ c.self.view_is c.requires.live) (overlaid _ _ same ∙ out))
