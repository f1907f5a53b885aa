use Rattle.std.proofs.Common.{rules, ◌≡◌, ℕ, ◌<◌, ◌≤◌, [], List, ◌∷◌, ◌++◌, length, sym, ◌∙◌, ap, subst, arith, None, slice_index_or}
use Rattle.model_memory.specs.Plain.{Entry}
use Rattle.model_memory.specs.Reads.{Kept}
use Rattle.mesh_lock.specs.Seat.{calls_of_seats}
use Rattle.mesh_lock.specs.Walk.{IsFirstLeft, IsStep, Tells}
use Rattle.mesh_lock.proofs.WalkPlaces.{Looks, looks_first}
use Rattle.mesh_lock.proofs.WalkRounds.{ended, few_seen, few_taken, few_told, found_left, found_step, goes_on, goes_to_end, taken_in, written_back}
use Rattle.mesh_lock.proofs.MadeSeats.{calls_many}
use Rattle.mesh_lock.proofs.BuiltHistories.{comes_first}
use Rattle.mesh_lock.proofs.walk.weave.Goals as goal

pub loop-n-init : goal.loop-n-init
loop-n-init c = record {
  looks = subst (λ (l : List (List Kept)). Looks (calls_of_seats c.args.seats.now) c.args.journal.now.entries 0 l None) (sym c.in_ok-rests.ensures.rests)
      (looks_first (calls_of_seats c.args.seats.now) c.args.journal.now.entries (λ w below. c.requires.own w (let m = calls_many c.args.seats.now in omega (arith, below, m))));
  comes = λ _ after walks. comes_first c.new-plain.result c.in_ok-rests.rests.items (calls_of_seats c.args.seats.now) c.args.journal.now.entries c.new-history.result.items after
      c.new-plain.ensures c.in_ok-rests.ensures.rests c.new-history.ensures.items walks;
  memory = c.new-plain.ensures;
}

pub loop-n-preserved : goal.loop-n-preserved
loop-n-preserved c =
    let seats = calls_of_seats c.args.seats.now in
    let plain = c.loop-n.plain in
    let rests = c.loop-n.rests.items in
    let entry : Entry = record { worker = c.next.inside.worker; command = c.next.inside.command; reply = c.next.inside.reply } in
    let many = c.len-n-end.ensures.value in
    let below : c.loop-n.n < length c.args.journal.now.entries = omega (arith, many, c.loop-n-test.true) in
    let at : slice_index_or c.args.journal.now.entries c.loop-n.n entry ≡ entry = sym (c.entry-next.ensures entry) ∙ sym c.next.view_is in
    let known : entry.worker < length seats =
    (let k = subst (λ (e : Entry). e.worker < length c.args.seats.now) at (c.requires.known c.loop-n.n entry below) in let m = calls_many c.args.seats.now in omega (arith, k, m)) in
    let takes = taken_in seats c.loop-n.n plain rests c.as_mut_slice.result.now c.take_all.new.rests c.tell.new.rests.items c.loop-n.rests.len c.loop-n.history.items
    c.take_all.new.history.items c.in_ok-wrong.wrong c.loop-n.told c.tell.new.told c.as_mut_slice.ensures.value c.loop-n.rests.ok.0 c.in_ok-wrong.ensures.length
    c.in_ok-wrong.ensures.left c.in_ok-wrong.ensures.taken c.tell.ensures in
    let stepped : IsStep entry.worker c.tell.new.rests.items c.step-early.new.rests c.step-early.result =
    subst (λ (l : List (List Kept)). IsStep entry.worker l c.step-early.new.rests c.step-early.result) c.as_mut_slice-in-loop-n.ensures.value c.step-early.ensures.step in
    let many' : length c.step-early.new.rests ≡ length c.tell.new.rests.items =
    c.step-early.ensures.length ∙ ap (λ (l : List (List Kept)). length l) c.as_mut_slice-in-loop-n.ensures.value in
    let back' = written_back c.tell.new.rests.items c.step-early.new.rests c.tell.new.rests.len c.tell.new.rests.ok.0 many' in
    let told : Tells seats c.step-early.result c.step-early.new.rests c.tell-in-loop-n.new.rests.items c.tell.new.told c.tell-in-loop-n.new.told =
    subst (λ (l : List (List Kept)). Tells seats c.step-early.result l c.tell-in-loop-n.new.rests.items c.tell.new.told c.tell-in-loop-n.new.told) back' c.tell-in-loop-n.ensures in
    let pushed : c.add.new.history.items ≡ c.take_all.new.history.items ++ entry ∷ [] =
    c.in_ok-add.ensures ∙ ap (λ (e : Entry). c.take_all.new.history.items ++ e ∷ []) (sym c.next.view_is) in
    goes_on seats c.args.journal.now.entries entry c.loop-n.n plain c.apply.new.self rests c.take_all.new.rests c.tell.new.rests.items c.step-early.new.rests c.tell-in-loop-n.new.rests.items
    c.loop-n.history.items c.take_all.new.history.items c.add.new.history.items c.in_ok-wrong.wrong c.step-early.result c.loop-n.told c.tell.new.told c.tell-in-loop-n.new.told
    below at known c.loop-n.invariant takes stepped many' told c.in_ok-apply.ensures.done pushed

pub returns : goal.returns
returns c =
    let seats = calls_of_seats c.args.seats.now in
    let entries = c.args.journal.now.entries in
    let end : length entries ≡ c.loop-n.n = (let m = c.len-n-end.ensures.value in let a = c.loop-n-test.false in let b = c.loop-n.auto.n-end in omega (arith, m, a, b)) in
    let takes = taken_in _ _ _ _ _ _ _ _ _ _ _ _ _ c.as_mut_slice-2.ensures.value c.loop-n.rests.ok.0
    c.in_ok-wrong-2.ensures.length c.in_ok-wrong-2.ensures.left c.in_ok-wrong-2.ensures.taken c.tell-2.ensures in
    let first : IsFirstLeft c.tell-2.new.rests.items c.first_left-late.result =
    subst (λ (l : List (List Kept)). IsFirstLeft l c.first_left-late.result) c.as_slice.ensures.value c.first_left-late.ensures in
    let ends = goes_to_end _ _ _ _ _ _ _ _ _ _ _ _ _ _ _ _ end (c.len.ensures.value ∙ end) c.loop-n.invariant takes first c.tell-3.ensures in
    let out = ended (λ whole. whole.items) seats entries c.loop-n.n c.tell-3.new.rests.items c.take_all-2.new.history.items c.tell-3.new.told c.unless_told.result ends
    c.unless_told.ensures.ok c.unless_told.ensures.fault in
    record { walked = out.0; right = out.1.0; kept = search rules; fault = out.1.1 }

pub tell-requires-clause-as_many : goal.tell-requires-clause-as_many
tell-requires-clause-as_many c = few_taken c.loop-n.rests.items _ c.loop-n.rests.len _ _ c.loop-n.rests.ok.0 c.loop-n.invariant.looks.few (calls_many c.args.seats.now)

pub tell-requires-in-loop-n-clause-as_many : goal.tell-requires-in-loop-n-clause-as_many
tell-requires-in-loop-n-clause-as_many c =
    let few = few_told _ _ _ _ _ _ _ _ _ c.loop-n.rests.ok.0 c.loop-n.invariant.looks.few c.tell.ensures in
    few_taken c.tell.new.rests.items _ c.tell.new.rests.len _ _ c.tell.new.rests.ok.0 few (calls_many _)

pub tell-requires-2-clause-as_many : goal.tell-requires-2-clause-as_many
tell-requires-2-clause-as_many c = few_taken c.loop-n.rests.items _ c.loop-n.rests.len _ _ c.loop-n.rests.ok.0 c.loop-n.invariant.looks.few (calls_many c.args.seats.now)

pub tell-requires-3-clause-as_many : goal.tell-requires-3-clause-as_many
tell-requires-3-clause-as_many c =
    let few = few_told _ _ _ _ _ _ _ _ _ c.loop-n.rests.ok.0 c.loop-n.invariant.looks.few c.tell-2.ensures in
    subst (λ (n : ℕ). length c.tell-2.new.rests.items ≤ n) (calls_many _) few

pub take_all-requires : goal.take_all-requires
take_all-requires c = record { few = few_seen c.loop-n.rests.items c.as_mut_slice.result.now _ _ _ c.as_mut_slice.ensures.value c.loop-n.invariant.looks.few (calls_many c.args.seats.now) c.requires.few }

pub take_all-requires-2 : goal.take_all-requires-2
take_all-requires-2 c = record { few = few_seen c.loop-n.rests.items c.as_mut_slice-2.result.now _ _ _ c.as_mut_slice-2.ensures.value c.loop-n.invariant.looks.few (calls_many c.args.seats.now) c.requires.few }

pub tell-requires-clause-below : goal.tell-requires-clause-below
tell-requires-clause-below c =
    found_left _ _ _ _ _ _ _ c.as_mut_slice.ensures.value c.loop-n.rests.ok.0 c.in_ok-wrong.ensures.length c.in_ok-wrong.ensures.left

pub tell-requires-in-loop-n-clause-below : goal.tell-requires-in-loop-n-clause-below
tell-requires-in-loop-n-clause-below c =
    found_step _ _ _ _ _ _ c.as_mut_slice-in-loop-n.ensures.value c.tell.new.rests.ok.0 c.step-early.ensures.length c.step-early.ensures.step

pub tell-requires-2-clause-below : goal.tell-requires-2-clause-below
tell-requires-2-clause-below c =
    found_left _ _ _ _ _ _ _ c.as_mut_slice-2.ensures.value c.loop-n.rests.ok.0 c.in_ok-wrong-2.ensures.length c.in_ok-wrong-2.ensures.left
