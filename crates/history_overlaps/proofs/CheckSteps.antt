-- What is kept from call to call, and what is found at the end.
use Rattle.std.proofs.Common.{◌≡◌, ℕ, zero, suc, ◌+◌, ◌<◌, ◌≤◌, ◌⊎◌, inl, inr, Bool, true, false, ◌&&◌, nat_eq, nat_le, List, [], ◌∷◌, ◌++◌, append_assoc, length, length-append, arith, refl, sym, subst, ◌∙◌, ap, Option, Some, None, Result, Ok, Err, ◌≢◌, ◌^◌}
use Rattle.std.specs.Prelude.{IfOk, IfSome, IfErr}
use Rattle.std.specs.List.{list_all}
use Rattle.std.specs.Io.KnownBytes.{Consumes, IsAtEnd}
use Rattle.std.proofs.lemmas.Bool.Decides.{leb_tells}
use Rattle.std.proofs.lemmas.List.{append-nil}
use Rattle.std.proofs.lemmas.List.Sums.{AllPass-from_list_all}
use Rattle.model_intervals.specs.Completions.{EndsInTime, HasCompletion, never}
use Rattle.model_intervals.specs.Intervals.{Call, IsLinearizable}
use Rattle.model_intervals.specs.Objects.{IsExplainedByObject}
use Rattle.model_intervals.specs.OverlappingCalls.{HasEffect, IsAt, IsHistory, cell_at}
use Rattle.model_intervals.proofs.LaterCalls.{fewer_ended}
use Rattle.model_history.specs.Recorded.{many_cells}
use Rattle.model_words.specs.declared.faults.FaultKind.{FaultKind}
use Rattle.text_fields.proofs.Splits.{some_part}
use Rattle.text_devices.specs.Ends.{is_full, too_long}
use Rattle.text_devices.specs.LineInputs.{unread_of}
use Rattle.history_object.specs.declared.faults.JudgeFault.{JudgeFault}
use Rattle.history_object.specs.declared.faults.JudgeFault.TheVariants.{Memory as NoMemory}
use Rattle.history_reading.specs.CallFiles.{call_head_in, call_in}
use Rattle.history_reading.specs.CallInputs.{HasCome, HasStopped}
use Rattle.history_reading.specs.CallReadings.{CallFault, CallLine, CallReading, Head, OfCall, OfText, OutOfOrder, calls_from, calls_of, call_line, head_line, is_in_order, next_in, read_on}
use Rattle.history_reading.specs.declared.faults.CallError.{CallError}
use Rattle.history_reading.specs.declared.faults.CallError.TheVariants.{Text, Order, Read, Memory}
use Rattle.history_reading.specs.declared.call_inputs.CallInput.{CallInput}
use Rattle.history_overlaps.specs.Checks.{EndedBeforeOne, HasJudged, HasNotJudged, HideNoFlaw, IsJudgedAtEnd, IsJudgedBefore, IsKept, IsTold}
use Rattle.history_overlaps.specs.Ends.{AreEnded, IsRuledOut, NoneBefore, Past}
use Rattle.history_overlaps.specs.Flaws.{IsFlawAt}
use Rattle.history_overlaps.specs.Lives.{BeginFrom}
use Rattle.history_overlaps.specs.Misuses.{IsMisusedAt}
use Rattle.history_overlaps.specs.Queues.{HasEnded, MayBegin, key_of}
use Rattle.history_overlaps.specs.Standing.{Stands, lives_of, starts_of, waits_of}
use Rattle.history_overlaps.specs.Timelines.{FewOpen, StartsWaiting}
use Rattle.history_overlaps.specs.declared.flaws.Flaw.{Flaw}
use Rattle.history_overlaps.specs.declared.misuses.Misuse.{Misuse}
use Rattle.history_overlaps.specs.declared.misuses.Misuse.TheVariants.{CellAgain, NotAfterNew, NotBeforeFree}
use Rattle.history_overlaps.specs.declared.pending.Pending.{Pending}
use Rattle.history_overlaps.specs.declared.stops.Found.{Found}
use Rattle.history_overlaps.specs.declared.stops.Stop.{Stop}
use Rattle.history_overlaps.specs.declared.timeline.Timeline.{Timeline}
use Rattle.history_overlaps.specs.declared.verdicts.CallVerdict.{CallVerdict}
use Rattle.history_overlaps.specs.declared.verdicts.CallVerdict.TheVariants.{Linearizable, Misused, Flawed, Undecided}
use Rattle.history_number_set.specs.Ranges.{Has}
use Rattle.history_overlaps.proofs.BegunWrong.{none_goes_on}
use Rattle.history_overlaps.proofs.CallPlaces.{at_below, at_end, at_front, at_one, at_same}
use Rattle.history_overlaps.proofs.Completed.{completed}
use Rattle.history_overlaps.proofs.LivesWrong.{all_at}
use Rattle.history_overlaps.proofs.NoneCompleted.{none_completed, none_completed_on}
use Rattle.history_overlaps.proofs.PickedHistory.{ended_before}
use Rattle.history_overlaps.proofs.AccessOrders.{tells}

-- ---- the order of the lines

both_true : (a b : Bool) → (a && b) ≡ true → (a ≡ true) × (b ≡ true)
both_true true true is = (refl, refl)
both_true true false is = cc is
both_true false b is = cc is

-- a call in order begins no earlier than each of those before it
pub begins_behind : (calls : List Call) (call : Call) → is_in_order calls call ≡ true → (i : ℕ) (a : Call) → IsAt calls i a → a.begin ≤ call.begin
begins_behind calls call in_order i a is =
    let both = both_true (list_all (λ earlier. nat_le earlier.begin call.begin) calls) _ in_order in
    let pass = all_at (λ (x : Call). nat_le x.begin call.begin ≡ true) calls i a (AllPass-from_list_all (λ earlier. nat_le earlier.begin call.begin) calls both.0) is in
    elim (leb_tells a.begin call.begin) [
      | inl low ↦ low.1
      | inr high ↦ absurd (let not = high.0 in cc (pass, not))
    ]

-- ---- what is read behind calls begins no earlier than they

-- a line that is read as a call is in order
call_in_order : (lines : ℕ) (calls : List Call) (line : List ℕ) (call : Call) → next_in lines calls line ≡ Ok (OfCall call) → is_in_order calls call ≡ true
call_in_order lines calls line call is = elim (tells (is_full lines)) [
  | inl full ↦ absurd (let no = sym (full_next full) ∙ is in cc no)
  | inr room ↦ elim (tells (nat_eq lines 0)) [
    | inl first ↦ absurd (head_no_call (call_head_in line) (sym (first_next room first) ∙ is))
    | inr later ↦ by_call (call_in line) (sym (later_next room later) ∙ is)
  ]
]
  where
    full_next : is_full lines ≡ true → next_in lines calls line ≡ Err (OfText too_long)
    full_next full = rw full refl

    first_next : is_full lines ≡ false → nat_eq lines 0 ≡ true → next_in lines calls line ≡ head_line (call_head_in line)
    first_next room first = rw (room, first) refl

    later_next : is_full lines ≡ false → nat_eq lines 0 ≡ false → next_in lines calls line ≡ call_line lines calls (call_in line)
    later_next room later = rw (room, later) refl

    head_no_call : (head : Result (Unit {0}) FaultKind) → head_line head ≡ Ok (OfCall call) → ⊥
    head_no_call (Ok h) is = cc is
    head_no_call (Err kind) is = cc is

    by_call : (read : Result Call FaultKind) → call_line lines calls read ≡ Ok (OfCall call) → is_in_order calls call ≡ true
    by_call (Err kind) is = cc is
    by_call (Ok one) is = elim (tells (is_in_order calls one)) [
      | inl in_order ↦
          let taken : call_line lines calls (Ok one) ≡ Ok (OfCall one) = rw in_order refl in
          let same : one ≡ call = (let e = sym taken ∙ is in cc e) in
          subst (λ (c : Call). is_in_order calls c ≡ true) same in_order
      | inr not ↦ absurd (let taken : call_line lines calls (Ok one) ≡ Err (OutOfOrder (lines + 1)) = rw not refl in let e = sym taken ∙ is in cc e)
    ]

-- the calls that are read behind some, which begin no earlier
pub record ReadBehind (lines : ℕ) (calls : List Call) (rest : List (List ℕ)) : Type 0 where
  pub later : List Call
  pub are : (calls_from lines calls rest).calls ≡ calls ++ later
  pub in_order : (i j : ℕ) (a b : Call) → IsAt calls i a → IsAt later j b → a.begin ≤ b.begin

nothing_behind : (lines : ℕ) (calls : List Call) (rest : List (List ℕ)) → (calls_from lines calls rest).calls ≡ calls → ReadBehind lines calls rest
nothing_behind lines calls rest is = record { later = []; are = is ∙ sym (append-nil calls); in_order = λ i j a b at_i at_j. absurd (nowhere j b at_j) }
  where
    nowhere : (j : ℕ) (b : Call) → IsAt [] j b → ⊥
    nowhere zero b at = cc at
    nowhere (suc j) b at = cc at

pub read_behind : (lines : ℕ) (calls : List Call) (rest : List (List ℕ)) → ReadBehind lines calls rest
read_behind lines calls [] = nothing_behind lines calls [] refl
read_behind lines calls (line ∷ []) = nothing_behind lines calls (line ∷ []) refl
read_behind lines calls (line ∷ next ∷ more) =
    by_line (next_in lines calls line) refl (λ behind. read_behind (lines + 1) behind (next ∷ more))
  where
    by_line : (read : Result CallLine CallFault) → next_in lines calls line ≡ read → ((behind : List Call) → ReadBehind (lines + 1) behind (next ∷ more))
        → ReadBehind lines calls (line ∷ next ∷ more)
    by_line (Err fault) is on = nothing_behind lines calls (line ∷ next ∷ more)
        (ap (λ (r : Result CallLine CallFault). (read_on r calls (λ behind. calls_from (lines + 1) behind (next ∷ more))).calls) is)
    by_line (Ok Head) is on = let r = on calls in record {
      later = r.later;
      are = ap (λ (r : Result CallLine CallFault). (read_on r calls (λ behind. calls_from (lines + 1) behind (next ∷ more))).calls) is ∙ r.are;
      in_order = r.in_order;
    }
    by_line (Ok (OfCall call)) is on = let r = on (calls ++ call ∷ []) in record {
      later = call ∷ r.later;
      are = ap (λ (r : Result CallLine CallFault). (read_on r calls (λ behind. calls_from (lines + 1) behind (next ∷ more))).calls) is ∙ r.are ∙ append_assoc calls (call ∷ []) r.later;
      in_order = ordered r;
    }
      where
        ordered : (r : ReadBehind (lines + 1) (calls ++ call ∷ []) (next ∷ more)) → (i j : ℕ) (a b : Call) → IsAt calls i a → IsAt (call ∷ r.later) j b → a.begin ≤ b.begin
        ordered r i zero a b at_i at_j = let same : call ≡ b = cc at_j in
            subst (λ (c : Call). a.begin ≤ c.begin) same (begins_behind calls call (call_in_order lines calls line call is) i a at_i)
        ordered r i (suc j) a b at_i at_j = r.in_order i j a b (at_front calls (call ∷ []) i a at_i) at_j

-- ---- verdicts of texts

-- what is read of a text that begins with the lines that were read: the calls so far, the last one, and calls that
-- begin no earlier
pub record HasReadOn (text : List ℕ) (calls : List Call) (call : Call) (more : List ℕ) : Type 0 where
  pub later : List Call
  pub are : (calls_of (text ++ more)).calls ≡ calls ++ call ∷ later
  pub from : BeginFrom call.begin (call ∷ later)

pub read_on_from : (history : CallInput) (left left' : Option (List ℕ)) (calls : List Call) (call : Call) (come : HasCome history left left' (calls ++ call ∷ [])) (more : List ℕ)
    → HasReadOn come.come.text calls call more
read_on_from history left left' calls call come more =
    let parts = some_part 10 (unread_of history.lines ++ more) in
    let reading : calls_of (come.come.text ++ more) ≡ calls_from (length come.lines) (calls ++ call ∷ []) (parts.first ∷ parts.later) =
    ap (calls_from 0 []) (come.come.reads more ∙ ap (λ (behind : List (List ℕ)). come.lines ++ behind) parts.is) ∙ come.read.reads parts.first parts.later in
    let behind = read_behind (length come.lines) (calls ++ call ∷ []) (parts.first ∷ parts.later) in
    record {
      later = behind.later;
      are = ap (λ (r : CallReading). r.calls) reading ∙ behind.are ∙ append_assoc calls (call ∷ []) behind.later;
      from = from behind;
    }
  where
    from : {lines : ℕ} {rest : List (List ℕ)} (behind : ReadBehind lines (calls ++ call ∷ []) rest) → BeginFrom call.begin (call ∷ behind.later)
    from behind zero a is = let same : call ≡ a = cc is in subst (λ (c : Call). call.begin ≤ c.begin) same (omega arith)
    from behind (suc j) a is = behind.in_order (length calls) j call a (at_end calls call) is

-- what is told before a call begins is told of the text
pub judged_before : (history : CallInput) (left left' : Option (List ℕ)) (calls : List Call) (call : Call) → HasCome history left left' (calls ++ call ∷ [])
    → (most : ℕ) (verdict : CallVerdict) → IsJudgedBefore calls call verdict → HasJudged most left left' verdict
judged_before history left left' calls call come most (Linearizable entries) told = absurd told
judged_before history left left' calls call come most (Undecided line fault) told = absurd told
judged_before history left left' calls call come most (Misused line misuse) told = (
  come.come.text,
  come.come.taken,
  record {
    calls = calls ++ call ∷ [];
    number = told.0;
    in_line = told.1;
    misused = told.2;
    completed = told.4;
    first = λ more. let on = read_on_from history left left' calls call come more in (on.later, on.are ∙ sym (append_assoc calls (call ∷ []) on.later));
    none = λ more is_history.
        let on = read_on_from history left left' calls call come more in
        told.3 on.later (λ j a is. on.from (suc j) a is) (subst IsHistory (on.are ∙ sym (append_assoc calls (call ∷ []) on.later)) is_history);
  },
)
judged_before history left left' calls call come most (Flawed line flaw) told = (
  come.come.text,
  come.come.taken,
  record {
    calls = calls;
    number = told.0;
    in_line = told.1;
    history = told.2;
    first_wrong = told.3;
    flawed = told.4;
    unexplained = inl (λ more. let on = read_on_from history left left' calls call come more in (
      (call ∷ on.later, on.are),
      λ history_of_all completion.
          none_completed_on calls (call ∷ on.later) told.0 call.begin told.5 told.6 told.3 on.from (subst IsHistory on.are history_of_all)
          (subst (λ (cs : List Call). HasCompletion cs (EndsInTime cs)) on.are completion),
    ));
  },
)

-- what is told when all calls have ended is told of the text
pub judged_at_end : (left left' : Option (List ℕ)) (text : List ℕ) (calls : List Call) → Consumes left left' text → IsAtEnd left'
    → calls_of text ≡ record { calls = calls; fault = None } → (most : ℕ) (verdict : CallVerdict) → IsJudgedAtEnd calls verdict → HasJudged most left left' verdict
judged_at_end left left' text calls taken at_end is most (Linearizable entries) told = absurd told
judged_at_end left left' text calls taken at_end is most (Misused line misuse) told = absurd told
judged_at_end left left' text calls taken at_end is most (Undecided line fault) told = absurd told
judged_at_end left left' text calls taken at_end is most (Flawed line flaw) told =
    let are : (calls_of text).calls ≡ calls = ap (λ (r : CallReading). r.calls) is in (
      text,
      taken,
      record {
        calls = calls;
        number = told.0;
        in_line = told.1;
        history = told.2;
        first_wrong = told.3;
        flawed = told.4;
        unexplained = inr ((([], are ∙ sym (append-nil calls)), λ history completion. told.5 (subst (λ (cs : List Call). HasCompletion cs (EndsInTime cs)) are completion)), at_end);
      },
    )

-- ---- what is kept

pub kept_first : (t : Timeline) → Stands [] t → FewOpen (lives_of t) 0 → IsKept t []
kept_first t stands few = record {
  stands = stands;
  few = few;
  many = omega arith;
  moment = 0;
  past = λ i a over is. absurd (nowhere i a is);
  reached = inl refl;
  ends = λ i a is. absurd (nowhere i a is);
}
  where
    nowhere : (i : ℕ) (a : Call) → IsAt [] i a → ⊥
    nowhere zero a at = cc at
    nowhere (suc i) a at = cc at

module _ (old : Timeline) (calls : List Call) (kept : IsKept old calls) where
  -- what has ended did so before a call in order begins
  pub kept_past : (call : Call) → is_in_order calls call ≡ true → Past calls (waits_of old) call.begin
  kept_past call in_order i a over is =
      let early = kept.past i a over is in
      elim kept.reached [
        | inl zero_now ↦ omega (arith, early, zero_now)
        | inr by ↦ let reach = by.3 in let first = begins_behind calls call in_order by.0 by.1 by.2 in omega (arith, early, reach, first)
      ]

  module _ (mid new : Timeline) (call : Call) (are : AreEnded old mid call.begin) (none : NoneBefore (waits_of mid) call.begin) (in_order : is_in_order calls call ≡ true)
      (takes_time : call.begin ≤ call.end) (ends : call.end ≤ never) (effect : HasEffect call.entry.command call.entry.reply) (cell : cell_at call < many_cells)
      (room : length calls < 4294967296) where
    pub may_begin : MayBegin calls (waits_of mid) call
    may_begin = record {
      takes_time = takes_time;
      has_effect = effect;
      has_cell = cell;
      last = begins_behind calls call in_order;
      behind = are.past calls (kept_past call in_order);
      within = λ i a is w. let late = none (key_of a i) w.0 w.1 in let below = at_below calls i a is in omega (arith, late, below, room);
      few = room;
    }

    pub kept_on : (Stands calls mid → MayBegin calls (waits_of mid) call → Stands (calls ++ call ∷ []) new)
        → (Past calls (waits_of mid) call.begin → Past (calls ++ call ∷ []) (waits_of new) call.begin) → FewOpen (lives_of new) (length calls + 1)
        → IsKept new (calls ++ call ∷ [])
    kept_on stands past few = record {
      stands = stands (are.stands calls kept.stands) may_begin;
      few = subst (λ (n : ℕ). FewOpen (lives_of new) n) (sym (length-append calls (call ∷ []))) few;
      many = (let long = length-append calls (call ∷ []) in omega (arith, long, room));
      moment = call.begin;
      past = past (are.past calls (kept_past call in_order));
      reached = inr (length calls, call, at_end calls call, omega arith);
      ends = λ i a is. elim (at_one calls call i a is) [
        | inl front ↦ kept.ends i a front
        | inr here ↦ subst (λ (c : Call). (c.begin ≤ c.end) × (c.end ≤ never)) here.1 (takes_time, ends)
      ];
    }

  -- every call has ended that wasn't pending when the recording stopped
  pub kept_finished : (new : Timeline) → AreEnded old new never → NoneBefore (waits_of new) never → IsHistory calls × HasCompletion calls (EndsInTime calls)
  kept_finished new are none =
      let holds = are.stands calls kept.stands in (
        holds.history,
        fewer_ended calls (HasEnded calls (waits_of new)) (EndsInTime calls) over
            (completed calls (waits_of new) (lives_of new) (starts_of new) (Has new.cells) (Has new.serials) (Has new.freed) holds),
      )
    where
      no_wait : (i : ℕ) (a : Call) → IsAt calls i a → a.end < never → (w : Option Pending) → waits_of new (key_of a i) ≡ w → HasEnded calls (waits_of new) i
      no_wait i a is early None gone = (a, is, gone)
      no_wait i a is early (Some p) waits = absurd (
          let late = none (key_of a i) p waits in let small = at_below calls i a is in let many = kept.many in omega (arith, late, early, small, many))

      over : (i : ℕ) → EndsInTime calls i → HasEnded calls (waits_of new) i
      over i (a, is, early) = no_wait i a is early (waits_of new (key_of a i)) refl

  -- the place of a flaw
  pub flaw_below : (number : ℕ) (flaw : Flaw) → IsFlawAt calls number flaw → number < length calls
  flaw_below number flaw at = at_below calls number at.0 at.1

  -- a flaw is found before a call in order begins
  pub kept_flawed_before : (call : Call) (found : Found) → call.begin ≤ never → IsRuledOut old call.begin found
      → IsJudgedBefore calls call (Flawed (found.number + 2) found.flaw)
  kept_flawed_before call found in_time out =
      let told = out calls kept.stands in let last = told.3 in let ahead = last.2 in
      (found.number, refl, kept.stands.history, told.0, told.1, last, (last.0, last.1, omega (arith, ahead, in_time)))

  -- a flaw is found at the end
  pub kept_flawed : (found : Found) → IsRuledOut old never found → IsJudgedAtEnd calls (Flawed (found.number + 2) found.flaw)
  kept_flawed found out =
      let told = out calls kept.stands in
      (found.number, refl, kept.stands.history, told.0, told.1, none_completed calls found.number told.3 told.0)

-- the place of a call that breaks a rule
pub misused_below : (calls : List Call) (number : ℕ) (misuse : Misuse) → IsMisusedAt calls number misuse → number < length calls
misused_below calls number CellAgain at = at_below calls number at.call at.there
misused_below calls number NotAfterNew at = at_below calls number at.call at.there
misused_below calls number NotBeforeFree at = at_below calls number at.call at.there

-- a rule is broken where a call in order begins
pub misused_before : (calls : List Call) (call : Call) (number : ℕ) (misuse : Misuse) → IsMisusedAt (calls ++ call ∷ []) number misuse → is_in_order calls call ≡ true
    → HasCompletion (calls ++ call ∷ []) (EndedBeforeOne (calls ++ call ∷ [])) → IsJudgedBefore calls call (Misused (number + 2) misuse)
misused_before calls call number misuse at in_order completion =
    (number, refl, at, none_goes_on (calls ++ call ∷ []) number misuse call.begin at begun, completion)
  where
    begun : (i : ℕ) (a : Call) → IsAt (calls ++ call ∷ []) i a → a.begin ≤ call.begin
    begun i a is = elim (at_one calls call i a is) [
      | inl old ↦ begins_behind calls call in_order i a old
      | inr new ↦ subst (λ (b : Call). b.begin ≤ call.begin) new.1 (omega arith)
    ]

-- a call that has begun has not ended
pub past_begun : (calls : List Call) (call : Call) (waits waits' : ℕ → Option Pending) (moment : ℕ) (pending : Pending) → length calls < 4294967296
    → StartsWaiting calls call waits waits' pending → Past calls waits moment → Past (calls ++ call ∷ []) waits' moment
past_begun calls call waits waits' moment pending room starting past i a over is = elim (at_one calls call i over.0 over.1) [
  | inl old ↦
      let same = at_same (calls ++ call ∷ []) i over.0 a over.1 is in
      let before = sym (starting.others (key_of over.0 i) (λ e. let below = at_below calls i over.0 old in omega (arith, e, below, room))) ∙ over.2 in
      subst (λ (b : Call). b.end < moment) same (past i over.0 (over.0, old, before) old)
  | inr new ↦ absurd (
      let at = subst (λ (b : Call). waits' (key_of b (length calls)) ≡ Some pending) new.1 starting.now in
      let at' = subst (λ (q : ℕ). waits' (key_of over.0 q) ≡ Some pending) (sym new.0) at in let none = over.2 in cc (at', none))
]

-- ---- verdicts

-- a verdict that was found is told
pub told_found : (found : Result (Option CallVerdict) Stop) (o : Option CallVerdict) → found ≡ Ok o → IfSome o (IsTold found)
told_found found None is = tt
told_found found (Some (Undecided line fault)) is = inl is
told_found found (Some (Linearizable entries)) is = is
told_found found (Some (Misused line misuse)) is = is
told_found found (Some (Flawed line flaw)) is = is

-- a verdict is told of what was found, or of why the judge stops
pub judged_by : (most : ℕ) (left left' : Option (List ℕ)) (found : Result (Option CallVerdict) Stop) (P : CallVerdict → Type 0) (S : Stop → Type 0) → IfOk found (λ f. IfSome f P)
    → IfErr found S → ((verdict : CallVerdict) → P verdict → HasJudged most left left' verdict)
    → ((stop : Stop) (line : ℕ) (fault : JudgeFault) → line ≡ stop.number + 2 → fault ≡ stop.fault → fault ≢ NoMemory → S stop → HasJudged most left left' (Undecided line fault))
    → (verdict : CallVerdict) → IsTold found verdict → HasJudged most left left' verdict
judged_by most left left' found P S h e judge stopped (Undecided line fault) (inl told) =
    judge (Undecided line fault) (subst (λ (r : Result (Option CallVerdict) Stop). IfOk r (λ f. IfSome f P)) told h)
judged_by most left left' found P S h e judge stopped (Undecided line fault) (inr (stop, is, in_line, same, other)) =
    stopped stop line fault in_line same other (subst (λ (r : Result (Option CallVerdict) Stop). IfErr r S) is e)
judged_by most left left' found P S h e judge stopped (Linearizable entries) told =
    judge (Linearizable entries) (subst (λ (r : Result (Option CallVerdict) Stop). IfOk r (λ f. IfSome f P)) told h)
judged_by most left left' found P S h e judge stopped (Misused line misuse) told =
    judge (Misused line misuse) (subst (λ (r : Result (Option CallVerdict) Stop). IfOk r (λ f. IfSome f P)) told h)
judged_by most left left' found P S h e judge stopped (Flawed line flaw) told =
    judge (Flawed line flaw) (subst (λ (r : Result (Option CallVerdict) Stop). IfOk r (λ f. IfSome f P)) told h)

-- no flaw of calls that ended before another one began is hidden
pub none_hidden : (t : Timeline) (calls : List Call) → IsKept t calls → HideNoFlaw calls
none_hidden t calls kept = record {
  history = kept.stands.history;
  completed = fewer_ended calls (HasEnded calls (waits_of t)) (EndedBeforeOne calls) over
      (completed calls (waits_of t) (lives_of t) (starts_of t) (Has t.cells) (Has t.serials) (Has t.freed) kept.stands);
}
  where
    over : (i : ℕ) → EndedBeforeOne calls i → HasEnded calls (waits_of t) i
    over i (a, b, j, at_i, at_j, early) = ended_before calls (waits_of t) kept.stands.queue j b at_j i a at_i early

-- the fault of a text
pub not_judged : (left left' : Option (List ℕ)) (calls : List Call) (error : CallError) → HideNoFlaw calls → HasStopped left left' calls error → HasNotJudged left left' error
not_judged left left' calls (Text fault) hidden stopped = (calls, stopped, hidden)
not_judged left left' calls (Order line) hidden stopped = (calls, stopped, hidden)
not_judged left left' calls Read hidden stopped = tt
not_judged left left' calls Memory hidden stopped = tt
