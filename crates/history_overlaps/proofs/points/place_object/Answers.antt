use Rattle.std.proofs.Common.{◌≡◌, ◌≢◌, ℕ, ◌<◌, List, length, map, refl, slice_get, subst, sym}
use Rattle.std.specs.List.{All, AllPairs}
use Rattle.history_object.specs.Orders.{IsIn}
use Rattle.std.proofs.lemmas.List.{length-map}
use Rattle.std.proofs.lemmas.List.Sorted.{All-permutation, IsPermutation-sym}
use Rattle.model_intervals.specs.Intervals.{Call}
use Rattle.model_intervals.specs.Objects.{ExplainsAccesses, object_made}
use Rattle.text_fields.specs.Commands.{plain_command}
use Rattle.text_words.specs.RecordedWords.{plain_reply}
use Rattle.history_reading.specs.CallWords.{plain_call}
use Rattle.text_devices.proofs.LineSteps.{handed_on}
use Rattle.history_overlaps.specs.Followed.{IsStoppedBy, IsStoppedFor}
use Rattle.history_overlaps.specs.OwnOrders.{IsOwnOrder, numbers_of}
use Rattle.history_overlaps.specs.Points.{ArePlacedFrom}
use Rattle.history_overlaps.specs.declared.accesses.Made.{Made}
use Rattle.history_overlaps.proofs.PlacedObjects.{made_from, numbers_below, numbers_once, once_permuted, placed_object, stopped_by}
use Rattle.history_overlaps.proofs.points.place_object.Goals as goal

pub returns-in_default-2-clause-none : goal.returns-in_default-2-clause-none
returns-in_default-2-clause-none c =
    let from = made_from (object_made (plain_command c.args.call.now.entry.command) (plain_reply c.args.call.now.entry.reply)) c.in-Some.made c.in-Some.ensures in
    λ _. (
      from.x,
      from.is,
      subst (λ (made : Made). (order : List Call) → ExplainsAccesses (map plain_call c.args.calls.now) made.cell made.len made.address order → ⊥) from.same
          (c.in_ok-order.ensures.none (rw c.in_default-2.is refl)),
    )

pub place_accesses-requires-clause-numbers : goal.place_accesses-requires-clause-numbers
place_accesses-requires-clause-numbers c =
    let calls = map plain_call c.args.calls.now in
    let own : IsOwnOrder calls c.in-Some.made c.in-Some-2.order.items = (let told = rw c.in-Some-2.is at c.in_ok-order.ensures.order in told) in
    subst (λ (order : List ℕ). All (λ number. number < length c.args.calls.now) order) (sym c.as_slice.ensures.value)
    (subst (λ (count : ℕ). All (λ number. number < count) c.in-Some-2.order.items) (length-map c.args.calls.now plain_call)
    (All-permutation (λ number. number < length calls) (numbers_of c.in-Some.made.cell calls) c.in-Some-2.order.items
    (IsPermutation-sym c.in-Some-2.order.items (numbers_of c.in-Some.made.cell calls) own.same) (numbers_below c.in-Some.made.cell calls)))

pub place_accesses-requires-clause-once : goal.place_accesses-requires-clause-once
place_accesses-requires-clause-once c =
    let calls = map plain_call c.args.calls.now in
    let own : IsOwnOrder calls c.in-Some.made c.in-Some-2.order.items = (let told = rw c.in-Some-2.is at c.in_ok-order.ensures.order in told) in
    subst (λ (order : List ℕ). AllPairs (λ front back. front ≢ back) order) (sym c.as_slice.ensures.value)
    (once_permuted (numbers_of c.in-Some.made.cell calls) c.in-Some-2.order.items
    (IsPermutation-sym c.in-Some-2.order.items (numbers_of c.in-Some.made.cell calls) own.same) (numbers_once c.in-Some.made.cell calls))

pub returns-clause-placed : goal.returns-clause-placed
returns-clause-placed c =
    let calls = map plain_call c.args.calls.now in
    let order = c.in-Some-2.order.items in
    let own : IsOwnOrder calls c.in-Some.made order = (let told = rw c.in-Some-2.is at c.in_ok-order.ensures.order in told) in
    let from = made_from (object_made (plain_command c.args.call.now.entry.command) (plain_reply c.args.call.now.entry.reply)) c.in-Some.made c.in-Some.ensures in
    placed_object calls c.args.points.now.items c.place_accesses.new.points.items (plain_call c.args.call.now) c.in-Some.made order from own
    (subst (λ (some : List ℕ). ArePlacedFrom calls c.place_accesses.new.points.items 0 0 some) c.as_slice.ensures.value c.place_accesses.ensures.placed)
    (subst (λ (some : List ℕ). (i : ℕ) → (IsIn i some → ⊥) → slice_get c.place_accesses.new.points.items i ≡ slice_get c.args.points.now.items i) c.as_slice.ensures.value
    c.place_accesses.ensures.others)

pub returns-in_err-order-clause-stopped : goal.returns-in_err-order-clause-stopped
returns-in_err-order-clause-stopped c =
    let calls = map plain_call c.args.calls.now in
    let from = made_from (object_made (plain_command c.args.call.now.entry.command) (plain_reply c.args.call.now.entry.reply)) c.in-Some.made c.in-Some.ensures in
    let fault = c.in_err-order.field-0.0 in
    handed_on c.from_residual.result fault (IsStoppedBy calls (plain_call c.args.call.now) c.args.most) c.from_residual.ensures.1
    (stopped_by calls (plain_call c.args.call.now) from.x c.args.most fault from.is
    (subst (λ (made : Made). IsStoppedFor calls made c.args.most fault) from.same c.in_err-order.ensures.stopped))
