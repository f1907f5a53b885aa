-- Sets of texts, as the lists of their texts in the order in which they were first added.
use Rattle.std.specs.Prelude.{ℕ, Bool, if◌then◌else◌, List, [], ◌∷◌, ◌++◌}
use Rattle.std.specs.List.{list_any}
use Rattle.model_jobs.specs.JobFiles.{are_same}

-- whether the text is one of these
abbrev pub is_in : List (List ℕ) → List ℕ → Bool
is_in texts x = list_any (λ y. are_same y x) texts

-- the texts with one more, if it is none of them
abbrev pub with_text : List (List ℕ) → List ℕ → List (List ℕ)
with_text texts x = if is_in texts x then texts else texts ++ x ∷ []

-- the texts with more, each once
abbrev pub with_texts : List (List ℕ) → List (List ℕ) → List (List ℕ)
with_texts texts [] = texts
with_texts texts (x ∷ xs) = with_texts (with_text texts x) xs

-- the texts, each once
abbrev pub distinct : List (List ℕ) → List (List ℕ)
distinct texts = with_texts [] texts

-- the texts that are none of the others
abbrev pub without : List (List ℕ) → List (List ℕ) → List (List ℕ)
without others [] = []
without others (x ∷ xs) = if is_in others x then without others xs else x ∷ without others xs

-- the texts that are none of the others, each once
abbrev pub missing_in : List (List ℕ) → List (List ℕ) → List (List ℕ)
missing_in others texts = without others (distinct texts)
