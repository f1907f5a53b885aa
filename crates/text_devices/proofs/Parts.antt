-- A text that is written part by part.
use Rattle.std.proofs.Common.{ℕ, ◌+◌, ◌-◌, List, Option, length, take, drop, sym, subst}
use Rattle.std.proofs.lemmas.List.{take_rest}
use Rattle.std.proofs.Math.Seq.{take-add}
use Rattle.std.specs.Io.KnownBytes.{Appends}
use Rattle.std.proofs.KnownBytes.{Appends-trans}
use Rattle.text_devices.specs.Transfer.{AppendsBeginning}

-- a call that took more of the rest of a text
pub wrote_more : (a b c : Option (List ℕ)) (bytes : List ℕ) (done count : ℕ) → Appends a b (take done bytes)
    → Appends b c (take count (take (length bytes - done) (drop done bytes))) → Appends a c (take (done + count) bytes)
wrote_more a b c bytes done count first more =
    let next : Appends b c (take count (drop done bytes)) = subst (λ (part : List ℕ). Appends b c (take count part)) (take_rest bytes done) more in
    subst (λ (part : List ℕ). Appends a c part) (sym (take-add done count bytes)) (Appends-trans a b c (take done bytes) (take count (drop done bytes)) first next)

-- a call that took a beginning of the rest and failed
pub wrote_beginning : (a b c : Option (List ℕ)) (bytes : List ℕ) (done : ℕ) → Appends a b (take done bytes)
    → AppendsBeginning b c (take (length bytes - done) (drop done bytes)) → AppendsBeginning a c bytes
wrote_beginning a b c bytes done first rest = (done + rest.0, wrote_more a b c bytes done rest.0 first rest.1)
