-- The texts of flaws and verdicts.
use Rattle.std.proofs.Common.{◌≡◌, ℕ, ◌+◌, List, ◌++◌, append_assoc, codes, decimal, ap, sym, ◌∙◌, ◌∷◌}
use Rattle.std.specs.Prelude.{Result, Ok, Err, OnOk, is_ok, if◌then◌else◌}
use Rattle.history_object.specs.declared.faults.JudgeFault.{JudgeFault}
use Rattle.history_overlaps.specs.declared.flaws.Flaw.{Flaw}
use Rattle.history_overlaps.specs.declared.flaws.Flaw.TheVariants.{Overlaps}
use Rattle.history_overlaps.specs.declared.verdicts.CallVerdict.{CallVerdict}
use Rattle.history_overlaps.specs.declared.verdicts.CallVerdict.TheVariants.{Undecided}
use Rattle.history_overlaps.specs.declared.objects.NewObject.{NewObject}
use Rattle.history_judge.specs.FlawTexts.{flaw_text, object_text}
use Rattle.history_judge.specs.JudgementTexts.{call_text, undecided_text}

four : (old a b c d : List ℕ) → (((old ++ a) ++ b) ++ c) ++ d ≡ old ++ (a ++ (b ++ (c ++ d)))
four old a b c d = append_assoc ((old ++ a) ++ b) c d ∙ append_assoc (old ++ a) b (c ++ d) ∙ append_assoc old a (b ++ (c ++ d))

overlap_text : (serial number : ℕ) → codes "overlaps object " ++ (decimal serial ++ (codes ", made at line " ++ decimal (number + 2))) ≡ flaw_text (Overlaps serial number)
overlap_text serial number =
    sym (append_assoc (codes "overlaps object " ++ decimal serial) (codes ", made at line") (32 ∷ decimal (number + 2))
    ∙ append_assoc (codes "overlaps object ") (decimal serial) (codes ", made at line " ++ decimal (number + 2)))

undecided_call_text : (most line : ℕ) (fault : JudgeFault) → codes "undecided at line " ++ (decimal line ++ (codes ": " ++ undecided_text most fault)) ≡ call_text most (Undecided line fault)
undecided_call_text most line fault =
    sym (append_assoc (codes "undecided at line " ++ decimal line) (codes ": ") (undecided_text most fault)
    ∙ append_assoc (codes "undecided at line ") (decimal line) (codes ": " ++ undecided_text most fault))

-- which object is overlapped, and where it was made
pub overlap_told : (old one two three new : List ℕ) (serial number : ℕ) (flaw : Flaw) → flaw ≡ Overlaps serial number → one ≡ old ++ codes "overlaps object "
    → two ≡ one ++ decimal serial → three ≡ two ++ codes ", made at line " → new ≡ three ++ decimal (number + 2) → new ≡ old ++ flaw_text flaw
overlap_told old one two three new serial number flaw is first second third last =
    last ∙ ap (λ (s : List ℕ). s ++ decimal (number + 2)) (third ∙ ap (λ (s : List ℕ). s ++ codes ", made at line ") (second ∙ ap (λ (s : List ℕ). s ++ decimal serial) first))
    ∙ four old (codes "overlaps object ") (decimal serial) (codes ", made at line ") (decimal (number + 2))
    ∙ ap (λ (t : List ℕ). old ++ t) (overlap_text serial number)
    ∙ ap (λ (f : Flaw). old ++ flaw_text f) (sym is)

-- where the judge stopped, and why
pub undecided_told : (old one two three new : List ℕ) (most line : ℕ) (fault : JudgeFault) (verdict : CallVerdict) → verdict ≡ Undecided line fault
    → one ≡ old ++ codes "undecided at line " → two ≡ one ++ decimal line → three ≡ two ++ codes ": " → new ≡ three ++ undecided_text most fault
    → new ≡ old ++ call_text most verdict
undecided_told old one two three new most line fault verdict is first second third last =
    last ∙ ap (λ (s : List ℕ). s ++ undecided_text most fault) (third ∙ ap (λ (s : List ℕ). s ++ codes ": ") (second ∙ ap (λ (s : List ℕ). s ++ decimal line) first))
    ∙ four old (codes "undecided at line ") (decimal line) (codes ": ") (undecided_text most fault)
    ∙ ap (λ (t : List ℕ). old ++ t) (undecided_call_text most line fault)
    ∙ ap (λ (v : CallVerdict). old ++ call_text most v) (sym is)

-- what is added where the addition is done
pub told_if_ok : {T E : Type 0} (r : Result T E) (new added old : List ℕ) → new ≡ (if is_ok r then added else old) → OnOk r (new ≡ added)
told_if_ok (Ok v) new added old told = told
told_if_ok (Err e) new added old told = tt

object_words : (object : NewObject) → codes " of object " ++ (decimal object.serial ++ (codes " in cell " ++ (decimal object.cell
    ++ (codes ", made at line " ++ decimal (object.number + 2))))) ≡ object_text object
object_words object =
    let a = codes " of object" in let b = 32 ∷ decimal object.serial in let c = codes " in cell" in let d = 32 ∷ decimal object.cell in
    let e = codes ", made at line" in let f = 32 ∷ decimal (object.number + 2) in
    sym (append_assoc ((((a ++ b) ++ c) ++ d)) e f ∙ append_assoc ((a ++ b) ++ c) d (e ++ f) ∙ append_assoc (a ++ b) c (d ++ (e ++ f))
    ∙ append_assoc a b (c ++ (d ++ (e ++ f))))

-- the object of an access, written piece by piece
pub object_told : (old one two three four five new : List ℕ) (object : NewObject) → one ≡ old ++ codes " of object " → two ≡ one ++ decimal object.serial
    → three ≡ two ++ codes " in cell " → four ≡ three ++ decimal object.cell → five ≡ four ++ codes ", made at line "
    → new ≡ five ++ decimal (object.number + 2) → new ≡ old ++ object_text object
object_told old one two three four five new object first serial second cell third line =
    let a = codes " of object " in let b = decimal object.serial in let c = codes " in cell " in let d = decimal object.cell in
    let e = codes ", made at line " in let f = decimal (object.number + 2) in
    line ∙ ap (λ (s : List ℕ). s ++ f) (third ∙ ap (λ (s : List ℕ). s ++ e) (cell ∙ ap (λ (s : List ℕ). s ++ d) (second ∙ ap (λ (s : List ℕ). s ++ c)
    (serial ∙ ap (λ (s : List ℕ). s ++ b) first))))
    ∙ append_assoc ((((old ++ a) ++ b) ++ c) ++ d) e f ∙ append_assoc (((old ++ a) ++ b) ++ c) d (e ++ f) ∙ append_assoc ((old ++ a) ++ b) c (d ++ (e ++ f))
    ∙ append_assoc (old ++ a) b (c ++ (d ++ (e ++ f))) ∙ append_assoc old a (b ++ (c ++ (d ++ (e ++ f)))) ∙ ap (λ (t : List ℕ). old ++ t) (object_words object)
