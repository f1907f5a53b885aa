-- Texts that are written piece by piece.
use Rattle.std.proofs.Common.{◌≡◌, ◌++◌, ℕ, List, append_assoc, refl}

-- four texts, one behind another
pub four_written : (t a b c d t1 t2 t3 t4 : List ℕ) → t1 ≡ t ++ a → t2 ≡ t1 ++ b → t3 ≡ t2 ++ c → t4 ≡ t3 ++ d → t4 ≡ t ++ (a ++ b ++ c ++ d)
four_written t a b c d t1 t2 t3 t4 h1 h2 h3 h4 = rw (h4, h3, h2, h1) (simp append_assoc refl)
