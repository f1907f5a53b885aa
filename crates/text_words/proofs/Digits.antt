-- Hexadecimal digits, as the text of answers has them and as a table gives them.
use Rattle.std.proofs.Common.{◌≡◌, ℕ, zero, suc, ◌<◌, ◌/◌, ◌%◌, List, [], ◌∷◌, slice_index, slice_index_or, refl, arith}
use Rattle.hex.specs.Hex.{encode_lower, encode_with, lower_digits}
use Rattle.model_jobs.specs.Texts.{bytes_text, hex_digit}

-- the table has the digit of each value below 16
table_digit : (n : ℕ) → n < 16 → slice_index lower_digits n ≡ hex_digit n
table_digit zero below = refl
table_digit (suc zero) below = refl
table_digit (suc (suc zero)) below = refl
table_digit (suc (suc (suc zero))) below = refl
table_digit (suc (suc (suc (suc zero)))) below = refl
table_digit (suc (suc (suc (suc (suc zero))))) below = refl
table_digit (suc (suc (suc (suc (suc (suc zero)))))) below = refl
table_digit (suc (suc (suc (suc (suc (suc (suc zero))))))) below = refl
table_digit (suc (suc (suc (suc (suc (suc (suc (suc zero)))))))) below = refl
table_digit (suc (suc (suc (suc (suc (suc (suc (suc (suc zero))))))))) below = refl
table_digit (suc (suc (suc (suc (suc (suc (suc (suc (suc (suc zero)))))))))) below = refl
table_digit (suc (suc (suc (suc (suc (suc (suc (suc (suc (suc (suc zero))))))))))) below = refl
table_digit (suc (suc (suc (suc (suc (suc (suc (suc (suc (suc (suc (suc zero)))))))))))) below = refl
table_digit (suc (suc (suc (suc (suc (suc (suc (suc (suc (suc (suc (suc (suc zero))))))))))))) below = refl
table_digit (suc (suc (suc (suc (suc (suc (suc (suc (suc (suc (suc (suc (suc (suc zero)))))))))))))) below = refl
table_digit (suc (suc (suc (suc (suc (suc (suc (suc (suc (suc (suc (suc (suc (suc (suc zero))))))))))))))) below = refl
table_digit (suc (suc (suc (suc (suc (suc (suc (suc (suc (suc (suc (suc (suc (suc (suc (suc n)))))))))))))))) below = absurd (omega (arith, below))

-- bytes are spelt with the table's digits
pub spelt_by_table : (bytes : List ℕ) → ((i : ℕ) → slice_index_or bytes i 0 < 256) → encode_lower bytes ≡ bytes_text bytes
unfolding encode_with
spelt_by_table [] below = refl
spelt_by_table (b ∷ rest) below =
    rw (table_digit (b / 16) (omega (arith, below 0)), table_digit (b % 16) (omega arith), (spelt_by_table rest (λ i. below (suc i)))) refl
