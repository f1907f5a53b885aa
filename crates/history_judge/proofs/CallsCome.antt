-- Calls that are read one by one.
use Rattle.std.proofs.Common.{◌≡◌, ◌⊎◌, ℕ, zero, suc, ◌≤◌, inl, inr, true, nat_le, List, [], ◌∷◌, ◌++◌, Option, Some, None, append-nil, arith, length, map, refl, slice_get, ap, subst, sym, ◌∙◌}
use Rattle.std.specs.List.{list_all}
use Rattle.std.proofs.lemmas.Bool.{and_parts, leb-true}
use Rattle.std.proofs.lemmas.Option.{slice_get_within}
use Rattle.std.proofs.lemmas.List.{map-append}
use Rattle.std.proofs.lemmas.List.Elements.{All-append, All-cons, All-nil}
use Rattle.model_intervals.specs.Intervals.{Call}
use Rattle.history_object.specs.declared.faults.JudgeFault.{JudgeFault}
use Rattle.history_object.specs.declared.faults.JudgeFault.TheVariants.{Memory as OutOfMemory, TooMany, TooManyPending}
use Rattle.history_overlaps.specs.Followed.{IsStopped}
use Rattle.history_reading.proofs.CallInputs.{no_call_came}
use Rattle.history_reading.specs.CallInputs.{HasCome, HasEnded, HasNext, HasRead, IsFresh}
use Rattle.history_reading.specs.CallReadings.{CallFault, CallReading, OfText, OutOfOrder, calls_of, has_ended_before, is_in_order}
use Rattle.history_reading.specs.CallWords.{IsReadCall, plain_call}
use Rattle.history_reading.specs.declared.faults.CallError.{CallError}
use Rattle.history_reading.specs.declared.faults.CallError.TheVariants.{Text, Order, Read, Memory}
use Rattle.history_reading.specs.declared.call_inputs.CallInput.{CallInput}
use Rattle.history_reading.specs.declared.words.TimedCall.{TimedCall}
use Rattle.model_intervals.specs.OverlappingCalls.{IsAt}
use Rattle.history_overlaps.specs.OwnOrders.{BeginInOrder}
use Rattle.history_judge.specs.OrderedHistories.{AreCallsOf, HasFault, HasNoAnswer, order_fault_of, HasStoppedSomewhere, HaveCome, HaveComeSoFar}

-- each of these calls began no later than the next one
begun_before : (calls : List Call) (next : Call) → list_all (λ earlier. nat_le earlier.begin next.begin) calls ≡ true → (i : ℕ) (a : Call) → IsAt calls i a → a.begin ≤ next.begin
begun_before [] next all zero a at = absurd (cc at)
begun_before [] next all (suc i) a at = absurd (cc at)
begun_before (c ∷ calls) next all zero a at =
    let both = and_parts (nat_le c.begin next.begin) (list_all (λ earlier. nat_le earlier.begin next.begin) calls) all in
    let same : c ≡ a = cc at in
    subst (λ (x : Call). x.begin ≤ next.begin) same (leb-true c.begin next.begin both.0)
begun_before (c ∷ calls) next all (suc i) a at =
    begun_before calls next (and_parts (nat_le c.begin next.begin) (list_all (λ earlier. nat_le earlier.begin next.begin) calls) all).1 i a at

-- an item of a list with one more at its end
push_cases : (calls : List Call) (next : Call) (k : ℕ) (a : Call) → IsAt (calls ++ next ∷ []) k a → IsAt calls k a ⊎ ((next ≡ a) × (k ≡ length calls))
push_cases [] next zero a is = inr (cc is, refl)
push_cases [] next (suc zero) a is = absurd (cc is)
push_cases [] next (suc (suc k)) a is = absurd (cc is)
push_cases (c ∷ calls) next zero a is = inl is
push_cases (c ∷ calls) next (suc k) a is = elim (push_cases calls next k a is) [ inl old ↦ inl old | inr new ↦ inr (new.0, ap suc new.1) ]

-- a call that is in order keeps the order of the begins
in_order_more : (calls : List Call) (next : Call) → BeginInOrder calls → is_in_order calls next ≡ true → BeginInOrder (calls ++ next ∷ [])
in_order_more calls next before in_order i j a b lt at_a at_b =
    let begun = (and_parts (list_all (λ earlier. nat_le earlier.begin next.begin) calls)
    (list_all (λ earlier. has_ended_before earlier next.entry.worker next.begin) calls) in_order).0 in
    elim (push_cases calls next i a at_a) [
      | inl old_a ↦ elim (push_cases calls next j b at_b) [
        | inl old_b ↦ before i j a b lt old_a old_b
        | inr new_b ↦ subst (λ (c : Call). a.begin ≤ c.begin) new_b.0 (begun_before calls next begun i a old_a)
      ]
      | inr new_a ↦ elim (push_cases calls next j b at_b) [
        | inl old_b ↦ absurd (let within = slice_get_within calls j b old_b in let e = new_a.1 in omega (arith, lt, within, e))
        | inr new_b ↦ absurd (let e = new_a.1 in let f = new_b.1 in omega (arith, lt, e, f))
      ]
    ]

pub none_came : (history : CallInput) (left : Option (List ℕ)) (calls : List TimedCall) → calls ≡ [] → IsFresh history → HaveComeSoFar history left left calls
none_came history left calls none fresh =
    subst (λ (cs : List TimedCall). HaveComeSoFar history left left cs) (sym none) (record {
      come = no_call_came history left fresh;
      are_read = All-nil IsReadCall;
      in_order = λ i j a b lt at_a at_b. absurd (nothing i a at_a);
    })
  where
    nothing : (i : ℕ) (a : Call) → slice_get [] i ≡ Some a → ⊥
    nothing zero a is = cc is
    nothing (suc i) a is = cc is

-- one more call came
pub one_came : (old new : CallInput) (left before left' : Option (List ℕ)) (calls now : List TimedCall) (call : TimedCall) → HaveComeSoFar old left before calls
    → HasNext new left left' (map plain_call calls) call → IsReadCall call → now ≡ calls ++ call ∷ [] → HaveComeSoFar new left left' now
one_came old new left before left' calls now call far next read is =
    subst (λ (cs : List TimedCall). HaveComeSoFar new left left' cs) (sym is) (record {
      come = subst (λ (cs : List Call). HasCome new left left' cs) (sym (map-append plain_call calls (call ∷ []))) next.come;
      are_read = All-append IsReadCall calls (call ∷ []) far.are_read (All-cons IsReadCall call [] read (All-nil IsReadCall));
      in_order = subst (λ (cs : List Call). BeginInOrder cs) (sym (map-append plain_call calls (call ∷ []))) (in_order_more (map plain_call calls) (plain_call call) far.in_order next.in_order);
    })

-- no more call comes
pub all_came : (old new : CallInput) (left before left' : Option (List ℕ)) (calls : List TimedCall) → HaveComeSoFar old left before calls
    → HasEnded new left left' (map plain_call calls) → HaveCome left left' calls
all_came old new left before left' calls far ended = record {
  text = ended.text;
  taken = ended.taken;
  at_end = ended.at_end;
  are = record { reading = ended.is; are_read = far.are_read; in_order = far.in_order };
}

-- a text that the device has given up to a reading's end reads as this reading
pub reads_as : (text : List ℕ) (left' : Option (List ℕ)) (reading : CallReading) → HasRead (Some text) left' reading → calls_of text ≡ reading
reads_as text None reading read = absurd read.taken
reads_as text (Some rest) reading read = elim read.is_read [
  | inl whatever ↦ ap calls_of read.taken ∙ whatever rest
  | inr whole ↦ ap calls_of (read.taken ∙ ap (λ (l : List ℕ). read.text ++ l) whole.1 ∙ append-nil read.text) ∙ whole.0
]

has_fault : (text now : List ℕ) (left' : Option (List ℕ)) (calls : List Call) (fault : CallFault) → now ≡ text
    → HasRead (Some now) left' (record { calls = calls; fault = Some fault }) → HasFault text
has_fault text now left' calls fault same read =
    let from = subst (λ (l : List ℕ). HasRead (Some l) left' (record { calls = calls; fault = Some fault })) same read in
    (fault, ap (λ (reading : CallReading). reading.fault) (reads_as text left' (record { calls = calls; fault = Some fault }) from))

-- a text at which the reading stopped has a fault
pub fault_stopped : (text now : List ℕ) (left' : Option (List ℕ)) (error : CallError) → now ≡ text → HasStoppedSomewhere (Some now) left' error
    → (error ≡ Read → ⊥) → (error ≡ Memory → ⊥) → HasFault text
fault_stopped text now left' (Text fault) same stopped read memory = has_fault text now left' stopped.0 (OfText fault) same stopped.1
fault_stopped text now left' (Order line) same stopped read memory = has_fault text now left' stopped.0 (OutOfOrder line) same stopped.1
fault_stopped text now left' Read same stopped read memory = absurd (read refl)
fault_stopped text now left' Memory same stopped read memory = absurd (memory refl)

-- no order was found because the judge of an object stopped
pub no_answer : (text : List ℕ) (most : ℕ) (calls : List TimedCall) (fault : JudgeFault) → AreCallsOf text calls → IsStopped (map plain_call calls) most fault
    → HasNoAnswer text most (order_fault_of fault)
no_answer text most calls OutOfMemory are stopped = tt
no_answer text most calls TooMany are stopped = (map plain_call calls, are.reading, inr (inl stopped))
no_answer text most calls TooManyPending are stopped = (map plain_call calls, are.reading, inr (inr stopped))
