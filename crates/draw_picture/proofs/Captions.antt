-- The captions after a line was added.
use Rattle.std.proofs.Common.{◌≡◌, ℕ, ◌+◌, ◌≤◌, ◌<◌, List, ◌++◌, ◌∷◌, [], Result, Ok, Err, OnOk, arith, length, set, take, sym, ◌∙◌}
use Rattle.std.proofs.lemmas.List.{length-set, take_all, take_more_set}
use Rattle.draw_picture.specs.Gatherings.{EndsWith, EndsWithLine, IsCaptionOf}
use Rattle.draw_picture.specs.declared.gathering.Caption.{Caption}
use Rattle.draw_picture.specs.declared.gathering.Line.{Line}

-- a list whose last element was replaced
set_last : {X : Type 0} (xs : List X) (i : ℕ) (y : X) → i + 1 ≡ length xs → set xs i y ≡ take i xs ++ y ∷ []
set_last xs i y last =
    let short : length (set xs i y) ≤ i + 1 = omega (arith, length-set xs i y, last) in
    let within : i < length xs = omega (arith, last) in
    sym (take_all (i + 1) (set xs i y) short) ∙ take_more_set xs i y within

-- the last caption was replaced by one of this line
pub merged : (captions : List Caption) (i : ℕ) (caption : Caption) (line : Line) → i + 1 ≡ length captions → IsCaptionOf caption line
    → EndsWithLine (set captions i caption) line
merged captions i caption line last is = (caption, is, (take i captions, set_last captions i caption last))

-- a caption of this line was appended
pub appended : {E : Type 0} (result : Result (Unit {0}) E) (captions : List Caption) (caption : Caption) (line : Line) → IsCaptionOf caption line
    → OnOk result (EndsWith captions caption) → OnOk result (EndsWithLine captions line)
appended (Ok done) captions caption line is ends = (caption, is, ends)
appended (Err error) captions caption line is ends = tt
