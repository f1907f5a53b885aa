-- What a call, and the entry that has it, do to a run.
use Rattle.std.proofs.Common.{◌≡◌, ℕ, ◌+◌, ◌≤◌, List, [], ◌∷◌, ◌++◌, length, length-append, Option, Some, None, Result, Ok, Err, ap, refl, sym, subst, ◌∙◌, arith}
use Rattle.std.specs.Prelude.{max}
use Rattle.model_heap.specs.Table.{Placed}
use Rattle.model_words.specs.Classes.{class_for}
use Rattle.model_words.specs.declared.refusals.Refusal.{Refusal}
use Rattle.savings_report.specs.declared.table.samples.Sample.{Sample}
use Rattle.savings_replay.specs.Followed.{Followed, Goes, Large, Live, NoAddresses as HasNoAddresses, NoObject as HasNoObject, Outcome, Small, aliased, freed, made, object_in, small_placed, step}
use Rattle.savings_replay.specs.Follows.{Follows, IsTaken}
use Rattle.savings_replay.specs.declared.calls.Call.{Call}
use Rattle.savings_replay.specs.declared.calls.Call.TheVariants.{New, Free, Alias}
use Rattle.savings_replay.specs.declared.settings.Settings.{Settings}
use Rattle.savings_replay.specs.declared.taken.Taken.{Taken}
use Rattle.savings_replay.specs.declared.taken.Taken.TheVariants.{Made, NoAddresses, NoObject}
use Rattle.savings_report.specs.Gathered.{IsOf}
use Rattle.savings_report.specs.Reports.{NotHistory, Report, by_call, by_outcome}
use Rattle.savings_report.specs.Runs.{Fails, IsCallTaken, IsPassed, IsRun, IsTakenBy, IsUsedUpBy, Passes, UsesUp}
use Rattle.savings_report.specs.Samples.{sample_of}
use Rattle.savings_report.specs.declared.errors.SavingsError.TheVariants.{NotAHistory}
use Rattle.savings_report.specs.declared.options.SavingsOptions.{SavingsOptions}
use Rattle.savings_report.specs.declared.runs.Run.{Run}

-- a call that is made is counted
abbrev CountsOne : Followed → Outcome → Type 0
CountsOne f (Goes next) = next.counts.calls ≡ f.counts.calls + 1
CountsOne f HasNoObject = Unit {0}
CountsOne f HasNoAddresses = Unit {0}

placed_counts : (settings : Settings) (f : Followed) (cell len class : ℕ) (a b : Result Placed Refusal) → CountsOne f (small_placed settings f cell len class a b)
placed_counts settings f cell len class (Ok a) (Ok b) = refl
placed_counts settings f cell len class (Ok a) (Err refusal) = tt
placed_counts settings f cell len class (Err refusal) b = tt

made_counts : (settings : Settings) (f : Followed) (cell len : ℕ) (class : Option ℕ) → CountsOne f (made settings f cell len class)
made_counts settings f cell len None = refl
made_counts settings f cell len (Some class) = placed_counts settings f cell len class _ _

freed_counts : (settings : Settings) (f : Followed) (cell : ℕ) (held : Option (ℕ × Live)) → CountsOne f (freed settings f cell held)
freed_counts settings f cell None = tt
freed_counts settings f cell (Some (number, Small serial len)) = refl
freed_counts settings f cell (Some (number, Large len)) = refl

aliased_counts : (f : Followed) (to : ℕ) (held : Option (ℕ × Live)) → CountsOne f (aliased f to held)
aliased_counts f to None = tt
aliased_counts f to (Some (number, live)) = refl

step_counts : (settings : Settings) (f : Followed) (call : Call) → CountsOne f (step settings f call)
unfolding step
step_counts settings f (New cell len) = made_counts settings f cell (max len 1) (class_for (max len 1))
step_counts settings f (Free cell) = freed_counts settings f cell (object_in f cell)
step_counts settings f (Alias to from) = aliased_counts f to (object_in f from)

-- a call of this outcome was made, and a sample was taken
made_taken : (old new : Run) (options : SavingsOptions) (f : Followed) (samples : List Sample) (sample : Sample) (outcome : Outcome) → IsRun old options f samples
    → CountsOne f outcome → IsTaken new.savings f outcome Made → new.savings.settings ≡ old.savings.settings
    → ((g : Followed) → Follows new.savings g → sample ≡ sample_of g)
    → ((o : SavingsOptions) (seen : List Sample) → IsOf old.gathered o seen → IsOf new.gathered o (seen ++ sample ∷ []))
    → IsCallTaken new options f samples outcome Made
made_taken old new options f samples sample (Goes next) at counts taken settings is looked =
    let calls : f.counts.calls ≡ length samples = at.calls in
    let len = length-append samples (sample_of next ∷ []) in record {
      settings = settings ∙ at.settings;
      follows = taken;
      gathered = subst (λ (s : Sample). IsOf new.gathered options (samples ++ s ∷ [])) (is next taken) (looked options samples at.gathered);
      calls = omega (arith, counts, calls, len);
    }
made_taken old new options f samples sample HasNoObject at counts taken settings is looked = absurd taken
made_taken old new options f samples sample HasNoAddresses at counts taken settings is looked = absurd taken

pub call_made : (old new : Run) (call : Call) (taken : Taken) (sample : Sample) → taken ≡ Made
    → ((f : Followed) → Follows old.savings f → IsTaken new.savings f (step old.savings.settings f call) taken) → new.savings.settings ≡ old.savings.settings
    → ((g : Followed) → Follows new.savings g → sample ≡ sample_of g)
    → ((o : SavingsOptions) (seen : List Sample) → IsOf old.gathered o seen → IsOf new.gathered o (seen ++ sample ∷ []))
    → IsTakenBy old new (λ options f. step options.settings f call) taken
call_made old new call taken sample made taken-is settings is looked options f samples at =
    let here : IsTaken new.savings f (step options.settings f call) Made
    = subst (λ (t : Taken). IsTaken new.savings f (step options.settings f call) t) made
    (subst (λ (s : Settings). IsTaken new.savings f (step s f call) taken) at.settings (taken-is f at.follows)) in
    subst (λ (t : Taken). IsCallTaken new options f samples (step options.settings f call) t) (sym made)
    (made_taken old new options f samples sample (step options.settings f call) at (step_counts options.settings f call) here settings is looked)

-- the entry of a call that was made
made_passed : (new : Run) (line : ℕ) (call : Call) (options : SavingsOptions) (f : Followed) (samples : List Sample) (outcome : Outcome)
    → step options.settings f call ≡ outcome → length samples + 2 ≤ line → IsCallTaken new options f samples outcome Made
    → IsPassed new line (Some call) options f samples
made_passed new line call options f samples (Goes next) is few taken =
    let len = length-append samples (sample_of next ∷ []) in record {
      next = next;
      seen = samples ++ sample_of next ∷ [];
      at = record { is_run = taken; few = omega (arith, few, len) };
      on = λ later. ap (λ (o : Outcome). by_outcome f samples line o later) is;
    }
made_passed new line call options f samples HasNoObject is few taken = absurd taken
made_passed new line call options f samples HasNoAddresses is few taken = absurd taken

pub entry_passed : (old new : Run) (line : ℕ) (call : Call) (of : Option Call) (taken : Taken) → of ≡ Some call → taken ≡ Made
    → IsTakenBy old new (λ options f. step options.settings f call) taken → Passes old new line of
entry_passed old new line call of taken is made by options f samples at =
    let here : IsCallTaken new options f samples (step options.settings f call) Made
    = subst (λ (t : Taken). IsCallTaken new options f samples (step options.settings f call) t) made (by options f samples at.is_run) in
    subst (λ (o : Option Call). IsPassed new line o options f samples) (sym is)
    (made_passed new line call options f samples (step options.settings f call) refl at.few here)

-- an entry without a call
pub none_passed : (run : Run) (line : ℕ) (of : Option Call) → of ≡ None → Passes run run line of
none_passed run line of is options f samples at =
    let few : length samples + 2 ≤ line = at.few in record {
      next = f;
      seen = samples;
      at = record { is_run = at.is_run; few = omega (arith, few) };
      on = λ later. ap (λ (o : Option Call). by_call options.settings f samples line o later) is;
    }

-- the entry of a `free` or an `alias` of a cell that holds no live object
no_object : (new : Run) (line : ℕ) (call : Call) (options : SavingsOptions) (f : Followed) (samples : List Sample) (outcome : Outcome)
    → step options.settings f call ≡ outcome → IsCallTaken new options f samples outcome NoObject
    → (later : Followed → List Sample → Report) → by_call options.settings f samples line (Some call) later ≡ NotHistory line
no_object new line call options f samples (Goes next) is taken later = absurd taken
no_object new line call options f samples HasNoObject is taken later = ap (λ (o : Outcome). by_outcome f samples line o later) is
no_object new line call options f samples HasNoAddresses is taken later = absurd taken

pub entry_of_none : (old new : Run) (line : ℕ) (call : Call) (of : Option Call) (taken : Taken) → of ≡ Some call → taken ≡ NoObject
    → IsTakenBy old new (λ options f. step options.settings f call) taken → Fails old line of (NotAHistory line)
entry_of_none old new line call of taken is none by options f samples at later =
    let here : IsCallTaken new options f samples (step options.settings f call) NoObject
    = subst (λ (t : Taken). IsCallTaken new options f samples (step options.settings f call) t) none (by options f samples at.is_run) in
    subst (λ (o : Option Call). by_call options.settings f samples line o later ≡ NotHistory line) (sym is)
    (no_object new line call options f samples (step options.settings f call) refl here later)

-- the entry of a `new` for which a heap has no virtual pages left
used_up : (new : Run) (line number : ℕ) (call : Call) (options : SavingsOptions) (f : Followed) (samples : List Sample) (outcome : Outcome)
    → step options.settings f call ≡ outcome → number ≡ length samples + 1 → IsCallTaken new options f samples outcome NoAddresses
    → IsUsedUpBy new line (Some call) number options f samples
used_up new line number call options f samples (Goes next) is count taken = absurd taken
used_up new line number call options f samples HasNoObject is count taken = absurd taken
used_up new line number call options f samples HasNoAddresses is count taken = record {
  is_run = taken;
  ends = λ later. ap (λ (o : Outcome). by_outcome f samples line o later) is ∙ rw count refl;
}

pub entry_used_up : (old new : Run) (line number : ℕ) (call : Call) (of : Option Call) (taken : Taken) → of ≡ Some call → taken ≡ NoAddresses
    → number ≡ old.savings.counts.calls + 1 → IsTakenBy old new (λ options f. step options.settings f call) taken → UsesUp old new line of number
entry_used_up old new line number call of taken is none count by options f samples at =
    let here : IsCallTaken new options f samples (step options.settings f call) NoAddresses
    = subst (λ (t : Taken). IsCallTaken new options f samples (step options.settings f call) t) none (by options f samples at.is_run) in
    let calls : old.savings.counts.calls ≡ length samples = ap (λ counts. counts.calls) at.is_run.follows.counts ∙ at.is_run.calls in
    subst (λ (o : Option Call). IsUsedUpBy new line o number options f samples) (sym is)
    (used_up new line number call options f samples (step options.settings f call) refl (omega (arith, count, calls)) here)
