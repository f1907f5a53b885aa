-- What a run of scripts leaves: a worker's commands, one more at a time.
use Rattle.std.proofs.Common.{◌≡◌, ℕ, zero, suc, ◌+◌, ◌<◌, ◌≤◌, List, [], ◌∷◌, ◌++◌, Option, None, Some, length, map, take, slice_index_or, Bor, ap, refl, sym, ◌∙◌, arith, inl, inr, IfSome, subst}
use Rattle.std.specs.List.{All}
use Rattle.std.proofs.lemmas.List.Elements.{All-cons}
use Rattle.std.proofs.lemmas.List.{length-take-le, map-append, take_all, take_more}
use Rattle.model_memory.specs.Memory.{Memory}
use Rattle.model_memory.specs.Plain.{Entry}
use Rattle.model_memory.specs.Reads.{Kept, call_of, kept_by}
use Rattle.model_memory.specs.Seats.{Call, calls_of}
use Rattle.model_words.specs.declared.commands.Command.{Command}
use Rattle.model_words.specs.declared.commands.Reply.{Reply}
use Rattle.mesh_shared.specs.Runs.{AreServed, AreWorked, HasBegun, HasRun, HasWorked, IsBeginning, commands_by, commands_in, script_of}
use Rattle.mesh_lock.specs.Seat.{Keeps, Seat, calls_of_seats, empty_seats}
use Rattle.mesh_lock.specs.Settle.{IsEnd}
use Rattle.mesh_lock.specs.CallBudgets.{IsUsedUp}
use Rattle.mesh_lock.specs.declared.call_budget.CallBudget.{CallBudget}
use Rattle.mesh_shared.specs.declared.stops.EarlyExit.{EarlyExit}
use Rattle.mesh_shared.specs.declared.worker.Served.{Served}
use Rattle.mesh_shared.specs.declared.worker.Worked.{Worked}

-- what is taken from the front is taken again by its length
taken_again : {A : Type 0} (k : ℕ) (xs : List A) → take k xs ≡ take (length (take k xs)) xs
taken_again zero xs = refl
taken_again (suc k) [] = refl
taken_again {A} (suc k) (x ∷ xs) = ap (λ (l : List A). x ∷ l) (taken_again k xs)

-- commands that are the first ones of a script begin it
pub begins : (k : ℕ) (script commands : List Command) → commands ≡ take k script → IsBeginning commands script
begins k script commands is = is ∙ taken_again k script ∙ ap (λ (l : List Command). take (length l) script) (sym is)

-- a call that was answered is the next command of the script
pub call_answered : (k : ℕ) (d : Command) (script : List Command) (old new : Seat) (command : Command) (reply : Reply)
    → commands_in old.calls ≡ take k script → k < length script → command ≡ slice_index_or script k d → Keeps old new command reply
    → commands_in new.calls ≡ take (k + 1) script
call_answered k d script old new command reply is below at keeps = grind (arith, map-append, take_more)

-- where a try may be made, not all were made at first
pub some_tries : (most : Option ℕ) (tries : CallBudget) → tries.most ≡ most → tries.made ≡ 0 → IfSome most (λ n. 1 ≤ n) → IsUsedUp tries → ⊥
some_tries most tries same none some made =
    let zero : most ≡ Some 0 = sym same ∙ made ∙ ap (λ (n : ℕ). Some n) none in
    let low : 1 ≤ 0 = subst (λ (m : Option ℕ). IfSome m (λ n. 1 ≤ n)) zero some in
    absurd (omega (arith, low))

-- a script that has a command isn't empty
some_command : (k : ℕ) (script : List Command) → k < length script → script ≡ [] → ⊥
some_command k script below empty = let none = ap (λ (l : List Command). length l) empty in omega (arith, below, none)

-- a worker that was stopped before its script's end
pub worked_partly : (tries : Option ℕ) (k : ℕ) (script : List Command) (old new : Seat) (blocked : ℕ) (stop : EarlyExit)
    → commands_in old.calls ≡ take k script → new ≡ old → k < length script → HasWorked tries script new.calls (record { tried = 0; blocked = blocked }) (Some stop)
worked_partly tries k script old new blocked stop is same below = record {
  begun = begins k script (commands_in new.calls) (ap (λ (s : Seat). commands_in s.calls) same ∙ is);
  whole = λ no_end none. absurd (cc none);
  ended = λ none. absurd (cc none);
  blocked = record { none = λ empty. absurd (some_command k script below empty); given_up = omega arith };
}

-- a worker that gave up a command after all its tries
pub gave_up : (tries : Option ℕ) (k : ℕ) (script : List Command) (old new : Seat) (told : Worked)
    → commands_in old.calls ≡ take k script → new ≡ old → k < length script → tries ≡ Some told.tried → told.tried ≤ told.blocked
    → HasWorked tries script new.calls told None
gave_up tries k script old new told is same below all blocked =
    let its : commands_in new.calls ≡ take k script = ap (λ (s : Seat). commands_in s.calls) same ∙ is in
    let long : length (commands_in new.calls) ≡ k = ap (λ (l : List Command). length l) its ∙ length-take-le k script (omega (arith, below)) in record {
      begun = begins k script (commands_in new.calls) its;
      whole = λ no_end none. absurd (cc (no_end, all));
      ended = λ none. inr (all, omega (arith, long, below));
      blocked = record { none = λ empty. absurd (some_command k script below empty); given_up = blocked };
    }

-- a worker that came to its script's end
pub worked_wholly : (tries : Option ℕ) (k : ℕ) (script : List Command) (calls : List Kept) (blocked : ℕ)
    → commands_in calls ≡ take k script → length script ≤ k → k ≤ length script → (k ≡ 0 → blocked ≡ 0)
    → HasWorked tries script calls (record { tried = 0; blocked = blocked }) None
worked_wholly tries k script calls blocked is past within none_blocked =
    let all : commands_in calls ≡ script = is ∙ take_all k script past in record {
      begun = begins k script (commands_in calls) is;
      whole = λ no_end none. all;
      ended = λ none. inl (all, refl);
      blocked = record { none = λ empty. none_blocked (nothing_made empty); given_up = omega arith };
    }
  where
    nothing_made : script ≡ [] → k ≡ 0
    nothing_made empty = let none = ap (λ (l : List Command). length l) empty in omega (arith, within, none)

-- the seat that a worker gave back
pub seat_there : (served : List Served) (w : ℕ) → w < length served
    → (one : Served) × (slice_index_or served w one ≡ one) × (kept_by (calls_of_seats (map (λ one. one.seat) served)) w ≡ one.seat.calls)
    × ((d : Worked) → slice_index_or (map (λ one. one.worked) served) w d ≡ one.worked)
seat_there [] w below = absurd (omega (arith, below))
seat_there (one ∷ rest) zero below = (one, refl, refl, λ d. refl)
seat_there (one ∷ rest) (suc w) below = seat_there rest w (omega (arith, below))

-- the script that is lent to a worker
pub script_there : (scripts : List (Bor (List Command))) (w : ℕ) (d : Bor (List Command)) → w < length scripts
    → script_of (map (λ script. script.now) scripts) w ≡ (slice_index_or scripts w d).now
script_there [] w d below = absurd (omega (arith, below))
script_there (script ∷ scripts) zero d below = refl
script_there (script ∷ scripts) (suc w) d below = script_there scripts w d (omega (arith, below))

-- what holds of each place of a list holds of the list with one element more, where it holds of that
pub each_and_one_more : {A : Type 0} (P : ℕ → A → Type 0) (xs : List A) (x : A)
    → ((i : ℕ) (d : A) → i < length xs → P i (slice_index_or xs i d)) → P (length xs) x → (i : ℕ) (d : A) → i < suc (length xs) → P i (slice_index_or (xs ++ x ∷ []) i d)
each_and_one_more P [] x each last zero d below = last
each_and_one_more P [] x each last (suc i) d below = absurd (omega (arith, below))
each_and_one_more P (y ∷ ys) x each last zero d below = each zero d (omega arith)
each_and_one_more {A} P (y ∷ ys) x each last (suc i) d below =
    each_and_one_more (λ (j : ℕ) (a : A). P (suc j) a) ys x (λ j e b. each (suc j) e (omega (arith, b))) last i d (omega (arith, below))

-- opened seats have no call
pub opened_empty : (k : ℕ) (counts : List ℕ) → All (λ seat. seat.calls ≡ []) (empty_seats k counts)
opened_empty k [] = λ i d none. absurd (omega (arith, none))
opened_empty k (count ∷ counts) =
    All-cons (λ (seat : Seat). seat.calls ≡ []) (record { number = k; calls = []; room = count }) (empty_seats (suc k) counts) refl (opened_empty (suc k) counts)

pub opened_many : (k : ℕ) (counts : List ℕ) → length (empty_seats k counts) ≡ length counts
opened_many k [] = refl
opened_many k (count ∷ counts) = ap (λ (n : ℕ). suc n) (opened_many (suc k) counts)

-- the commands of a worker's entries are those of its seat
commands_are : (w : ℕ) (history : List Entry) (calls : List Kept) → calls_of w history ≡ map call_of calls → commands_by w history ≡ commands_in calls
commands_are w history calls is = ap (λ (l : List Call). map (λ (call : Call). call.command) l) is ∙ through calls
  where
    through : (l : List Kept) → map (λ (call : Call). call.command) (map call_of l) ≡ map (λ (kept : Kept). kept.command) l
    through [] = refl
    through (kept ∷ l) = ap (λ (cs : List Command). kept.command ∷ cs) (through l)

-- what served seats leave of a run
pub run_begun : (tries : Option ℕ) (scripts : List (List Command)) (seats : List Seat) (told : List Worked) (count : ℕ) (entries history : List Entry) (end : Memory)
    → AreServed tries scripts seats told → count ≡ length scripts → IsEnd count seats entries history end → HasBegun scripts history end
run_begun tries scripts seats told count entries history end served many ended = grind (arith, commands_are)

pub run_whole : (tries : Option ℕ) (scripts : List (List Command)) (seats : List Seat) (told : List Worked) (count : ℕ) (entries history : List Entry) (end : Memory)
    → tries ≡ None → AreServed tries scripts seats told → count ≡ length scripts → IsEnd count seats entries history end → HasRun scripts history end
run_whole tries scripts seats told count entries history end no_end served many ended = grind (arith, commands_are)

-- and how its workers ended
pub run_worked : (tries : Option ℕ) (scripts : List (List Command)) (seats : List Seat) (told : List Worked) (count : ℕ) (entries history : List Entry) (end : Memory)
    → AreServed tries scripts seats told → count ≡ length scripts → IsEnd count seats entries history end → AreWorked tries scripts history told
run_worked tries scripts seats told count entries history end served many ended = grind (arith, commands_are)
