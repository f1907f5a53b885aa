use Rattle.std.proofs.Common.{◌≡◌, ◌+◌, ◌*◌, ◌/◌, ◌<◌, ◌≤◌, ◌&&◌, if◌then◌else◌, nat_eq, slice_index, refl, sym, subst, arith}
use Rattle.std.proofs.lemmas.Bool.{cond_both}
use Rattle.std.proofs.lemmas.Nat.{mul-le}
use Rattle.model_otherwise.specs.Effects.{copy_len, len_now, span_copied}
use Rattle.model_otherwise.specs.Spots.{byte_at}
use Rattle.model_words.specs.Classes.{pages_of, slots_of}
use Rattle.model_orders.specs.HeapRows.{is_live}
use Rattle.model_orders.proofs.SlotPlaces.{in_slot, out_of_slot}
use Rattle.model_orders.proofs.SpanBytes.{AreApart, span_inside, span_outside, span_source}
use Rattle.model_orders.proofs.heap_laws.slots_are_copied.Goals as goal

pub returns : goal.returns
returns c = λ m memory x k l is k-below l-below.
    let apart : AreApart x.mesh (pages_of x.mesh.class) = record { into = is.into_apart; sides = is.sides_apart } in
    let slots : (k + 1) * x.mesh.class ≤ slots_of x.mesh.class * x.mesh.class = mul-le (k + 1) x.mesh.class (slots_of x.mesh.class) x.mesh.class (omega arith) (omega arith) in
    let span : slots_of x.mesh.class * x.mesh.class ≤ 4096 * pages_of x.mesh.class = is.span in
    let some : 0 < x.mesh.class = is.class in
    let short : x.mesh.class ≤ 4096 = is.short in
    let len : len_now m x.mesh k ≤ x.mesh.class = omega arith in
    record {
      views = λ i below. refl;
      released = refl;
      source = λ offset below. subst (λ seen. byte_at (span_copied x.heap.spots x.mesh (k * x.mesh.class) (copy_len m x.mesh k seen)) (4096 * slice_index x.mesh.from l + offset)
          ≡ byte_at x.heap.spots (4096 * slice_index x.mesh.from l + offset)) (sym is.unseen)
          (span_source x.heap.spots x.mesh (pages_of x.mesh.class) (k * x.mesh.class) (len_now m x.mesh k) l offset apart (omega arith) (omega arith) (omega arith) l-below below);
      destination = λ offset below.
          subst (λ seen. byte_at (span_copied x.heap.spots x.mesh (k * x.mesh.class) (copy_len m x.mesh k seen)) (4096 * slice_index x.mesh.into l + offset)
          ≡ (if is_live m x.mesh (4096 * l + offset) && nat_eq ((4096 * l + offset) / x.mesh.class) k then byte_at x.heap.spots (4096 * slice_index x.mesh.from l + offset)
          else byte_at x.heap.spots (4096 * slice_index x.mesh.into l + offset))) (sym is.unseen)
          (cond_both (is_live m x.mesh (4096 * l + offset) && nat_eq ((4096 * l + offset) / x.mesh.class) k) (byte_at x.heap.spots (4096 * slice_index x.mesh.from l + offset))
          (byte_at x.heap.spots (4096 * slice_index x.mesh.into l + offset))
          (λ byte. byte_at (span_copied x.heap.spots x.mesh (k * x.mesh.class) (len_now m x.mesh k)) (4096 * slice_index x.mesh.into l + offset) ≡ byte)
          (λ live. let within = in_slot (len_now m x.mesh) x.mesh.class k (4096 * l + offset) live in
          span_inside x.heap.spots x.mesh (pages_of x.mesh.class) (k * x.mesh.class) (len_now m x.mesh k) l offset apart (omega arith) (omega arith) (omega arith) l-below below
          within.0 within.1)
          (λ other. span_outside x.heap.spots x.mesh (pages_of x.mesh.class) (k * x.mesh.class) (len_now m x.mesh k) l offset apart (omega arith) (omega arith) (omega arith) l-below below
          (out_of_slot (len_now m x.mesh) x.mesh.class k (4096 * l + offset) some len other)));
      live = λ offset below. refl;
      memory = λ offset below. refl;
    }
