-- Which lines made the live objects.
use Rattle.std.proofs.Common.{◌≡◌, ◌⊎◌, ℕ, ◌+◌, true, List, [], ◌∷◌, ◌++◌, length, ap, refl, subst, sym, ◌∙◌, inl, inr, Option, Some, None, Result, Ok, Err}
use Rattle.std.specs.Prelude.{IfErr, IfOk, IfSome, IsNone, OnOk}
use Rattle.std.specs.Ordering.{nat_cmp}
use Rattle.std.specs.BTreeMap.{get}
use Rattle.std.specs.declared.alloc.AllocError.{AllocError}
use Rattle.std.proofs.lemmas.Bool.Decides.{eqb_tells}
use Rattle.model_memory.specs.Plain.{Entry}
use Rattle.model_words.specs.declared.commands.Command.{Command}
use Rattle.model_words.specs.declared.commands.Reply.{Reply}
use Rattle.model_words.specs.declared.commands.Reply.TheVariants.{Object as Made}
use Rattle.text_words.specs.declared.recorded.RecordedReply.{RecordedReply}
use Rattle.history_in_order.specs.Judged.{IsTold, is_new}
use Rattle.history_in_order.specs.Lines.{AreLined, IsMadeBy, IsSame, IsOfLive, MakesAtMost, MakesNone, HasLine}
use Rattle.history_in_order.specs.Objects.{LiveObject, with_bytes}
use Rattle.history_in_order.specs.Reasons.{IsDifference}
use Rattle.history_in_order.specs.Stands.{IsRefused, IsSetAt}
use Rattle.history_in_order.specs.declared.faults.CommandError.{CommandError}
use Rattle.history_in_order.specs.declared.faults.CommandError.TheVariants.{Refused as IsRefusedSo, Memory as OfMemory}
use Rattle.history_in_order.specs.declared.memory.Tracked.{Tracked}
use Rattle.history_in_order.specs.declared.reasons.DifferentByte.{DifferentByte}
use Rattle.history_in_order.specs.declared.reasons.Overlap.{Overlap}
use Rattle.history_in_order.specs.declared.reasons.Reason.{Reason}
use Rattle.history_in_order.specs.declared.reasons.Reason.TheVariants.{Differs, NoObject, LiveRefused, SerialAgain, Overlaps}
use Rattle.history_in_order.proofs.Trees.{slice_get_more, slice_get_push}

-- each live object was live before
abbrev pub KeepsAll : (ℕ → Option LiveObject) → (ℕ → Option LiveObject) → Type 0
KeepsAll g g' = (n : ℕ) (live : LiveObject) → g' n ≡ Some live → (was : LiveObject) × (g n ≡ Some was) × IsSame was live

-- or was made by this line, with this answer
abbrev pub KeepsOrMakes : (ℕ → Option LiveObject) → (ℕ → Option LiveObject) → ℕ → Reply → Type 0
KeepsOrMakes g g' line reply = (n : ℕ) (live : LiveObject) → g' n ≡ Some live
    → ((was : LiveObject) × (g n ≡ Some was) × IsSame was live) ⊎ ((live.made_at ≡ line) × (reply ≡ Made live.serial live.object.address))

-- a store makes no object
pub stored_keeps : (g g' : ℕ → Option LiveObject) (n : ℕ) (live : LiveObject) (bytes : List ℕ) → g n ≡ Some live → IsSetAt g g' n (Some (with_bytes live bytes)) → KeepsAll g g'
stored_keeps g g' n live bytes at set q other is = elim (eqb_tells q n) [
  | inl same ↦
      (let this : with_bytes live bytes ≡ other = cc (sym set.0 ∙ ap g' (sym same.1) ∙ is) in (
        live,
        ap g same.1 ∙ at,
        (ap (λ (o : LiveObject). o.made_at) (sym this), ap (λ (o : LiveObject). o.serial) (sym this), ap (λ (o : LiveObject). o.object.address) (sym this)),
      ))
  | inr differs ↦ (other, sym (set.1 q differs.1) ∙ is, (refl, refl, refl))
]

-- nothing that changes nothing makes one
pub same_makes_none : (m : Tracked) → MakesNone m m
same_makes_none m n live at = (live, at, (refl, refl, refl))

-- a `new` makes one
pub set_makes_one : (g g' : ℕ → Option LiveObject) (n line serial address : ℕ) (bytes : List ℕ)
    → IsSetAt g g' n (Some (record { object = record { address = address; bytes = bytes }; serial = serial; made_at = line })) → KeepsOrMakes g g' line (Made serial address)
set_makes_one g g' n line serial address bytes set q other is = elim (eqb_tells q n) [
  | inl same ↦
      (let this : made ≡ other = cc (sym set.0 ∙ ap g' (sym same.1) ∙ is) in
      inr (ap (λ (o : LiveObject). o.made_at) (sym this), ap (λ (o : LiveObject). Made o.serial o.object.address) this))
  | inr differs ↦ inl (other, sym (set.1 q differs.1) ∙ is, (refl, refl, refl))
]
  where
    made : LiveObject
    made = record { object = record { address = address; bytes = bytes }; serial = serial; made_at = line }

-- what is made by a command that is done or refused
pub done_makes_none : (old new : Tracked) (command : Command) (outcome : Result (Unit {0}) CommandError) (told : Result RecordedReply AllocError)
    → OnOk outcome (MakesNone old new) → IfErr outcome (IsRefused old new command) → IsTold outcome told → IfOk told (λ _. MakesNone old new)
done_makes_none old new command (Ok x) (Ok reply) done refused told = done
done_makes_none old new command (Err (IsRefusedSo refusal)) (Ok reply) done refused told =
    subst (λ (m : Tracked). MakesNone old m) (sym refused.0) (same_makes_none old)
done_makes_none old new command (Err OfMemory) (Ok reply) done refused told = absurd told
done_makes_none old new command outcome (Err error) done refused told = tt

-- an entry that made an object did so where more entries follow
more_entries : (entries : List Entry) (entry : Entry) (line serial address : ℕ) → IsMadeBy entries line serial address
    → IsMadeBy (entries ++ entry ∷ []) line serial address
more_entries entries entry line serial address made = record {
  place = made.place;
  entry = made.entry;
  is_line = made.is_line;
  is_entry = slice_get_more entries (entry ∷ []) made.place made.entry made.is_entry;
  asked = made.asked;
  answered = made.answered;
}

-- an object that was live before was made by the entry of its line
was_made : (entries : List Entry) (old : Tracked) (entry : Entry) (n : ℕ) (live : LiveObject) → AreLined entries old
    → ((was : LiveObject) × (get nat_cmp old.objects n ≡ Some was) × IsSame was live) → IsMadeBy (entries ++ entry ∷ []) live.made_at live.serial live.object.address
was_made entries old entry n live lined was =
    let made = lined n was.0 was.1 in
    let same = was.2 in
    more_entries entries entry live.made_at live.serial live.object.address (record {
      place = made.place;
      entry = made.entry;
      is_line = same.0 ∙ made.is_line;
      is_entry = made.is_entry;
      asked = made.asked;
      answered = made.answered ∙ ap (λ (s : ℕ). Made s was.0.object.address) (sym same.1) ∙ ap (λ (a : ℕ). Made live.serial a) (sym same.2);
    })

-- the objects are lined behind an entry that makes none
pub none_lined : (entries : List Entry) (old new : Tracked) (entry : Entry) → MakesNone old new → AreLined entries old → AreLined (entries ++ entry ∷ []) new
none_lined entries old new entry none lined n live at = was_made entries old entry n live lined (none n live at)

-- and behind a `new`
pub one_lined : (entries : List Entry) (old new : Tracked) (entry : Entry) (line : ℕ) → is_new entry.command ≡ true → MakesAtMost old new line entry.reply
    → length entries + 2 ≡ line → AreLined entries old → AreLined (entries ++ entry ∷ []) new
one_lined entries old new entry line asked most is lined n live at = elim (most n live at) [
  | inl was ↦ was_made entries old entry n live lined was
  | inr this ↦ record {
    place = length entries;
    entry = entry;
    is_line = this.0 ∙ sym is;
    is_entry = slice_get_push entries entry (length entries) refl;
    asked = asked;
    answered = this.1;
  }
]

-- the line of an overlap is that of the entry that made the live object
pub told_made : (m : Tracked) (overlap : Overlap) (entries : List Entry) → IsOfLive m overlap → AreLined entries m
    → IsMadeBy entries overlap.made_at overlap.serial overlap.other.from
told_made m overlap entries told lined =
    let made = lined told.number told.live told.is_live in record {
      place = made.place;
      entry = made.entry;
      is_line = told.made_at ∙ made.is_line;
      is_entry = made.is_entry;
      asked = made.asked;
      answered = made.answered ∙ ap (λ (s : ℕ). Made s told.live.object.address) (sym told.serial) ∙ ap (λ (a : ℕ). Made overlap.serial a) (sym told.address);
    }

-- a difference of two answers has no line of an object
pub no_line : (answered wanted : RecordedReply) (byte : Option DifferentByte) (reason : Reason) (entries : List Entry) → IsDifference answered wanted byte reason
    → HasLine entries reason
no_line answered wanted byte (Differs difference) entries is = tt
no_line answered wanted byte (LiveRefused refusal) entries is = tt
no_line answered wanted byte (NoObject reply) entries is = tt
no_line answered wanted byte SerialAgain entries is = tt
no_line answered wanted byte (Overlaps overlap) entries is = absurd is

-- what follows where there is no reason
pub none_more : {X E P Q : Type 0} (found : Result (Option X) E) → (P → Q) → IfOk found (λ reason. IsNone reason → P) → IfOk found (λ reason. IsNone reason → Q)
none_more (Ok reason) more h = λ none. more (h none)
none_more (Err error) more h = tt

pub some_more : {X E : Type 0} (P Q : X → Type 0) (found : Result (Option X) E) → ((x : X) → P x → Q x) → IfOk found (λ reason. IfSome reason P)
    → IfOk found (λ reason. IfSome reason Q)
some_more P Q (Ok None) more h = tt
some_more P Q (Ok (Some reason)) more h = more reason h
some_more P Q (Err error) more h = tt
