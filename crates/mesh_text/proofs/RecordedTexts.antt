-- The text of a recorded history, written entry by entry.
use Rattle.std.proofs.Common.{◌≡◌, ◌∙◌, ℕ, ◌≤◌, List, ◌++◌, ap, length, take}
use Rattle.std.specs.List.{flat_map}
use Rattle.std.proofs.lemmas.List.{take_all}
use Rattle.model_memory.specs.Plain.{Entry}
use Rattle.mesh_text.specs.Recordings.{entry_line, recorded_text}
use Rattle.text_words.specs.RecordedTexts.{recorded_head}

-- the lines of all entries are written
pub all_recorded : (entries : List Entry) (i : ℕ) (text : List ℕ) → length entries ≤ i → text ≡ recorded_head ++ flat_map entry_line (take i entries)
    → text ≡ recorded_text entries
unfolding recorded_text
all_recorded entries i text past is = is ∙ ap (λ (some : List Entry). recorded_head ++ flat_map entry_line some) (take_all i entries past)
