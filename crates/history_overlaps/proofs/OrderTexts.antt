-- The text of calls, written line by line.
use Rattle.std.proofs.Common.{◌≡◌, ◌∙◌, ℕ, List, [], ◌∷◌, ◌++◌, ap, append-nil, append_assoc, sym}
use Rattle.std.specs.List.{flat_map}
use Rattle.std.proofs.lemmas.List.Concat.{flat_map-append}
use Rattle.model_intervals.specs.Intervals.{Call}
use Rattle.text_words.specs.RecordedTexts.{recorded_head}
use Rattle.history_overlaps.specs.OrderTexts.{entry_line, ordered_text}

-- the line of a call
abbrev pub line_of : Call → List ℕ
line_of call = entry_line call.entry

-- one more line is written
pub line_more : (calls more : List Call) (call : Call) (text text' : List ℕ) → text ≡ recorded_head ++ flat_map line_of calls
    → more ≡ calls ++ call ∷ [] → text' ≡ text ++ line_of call → text' ≡ recorded_head ++ flat_map line_of more
line_more calls more call text text' before is added =
    added ∙ ap (λ (front : List ℕ). front ++ line_of call) before
    ∙ append_assoc recorded_head (flat_map line_of calls) (line_of call)
    ∙ ap (λ (lines : List ℕ). recorded_head ++ lines)
    (ap (λ (last : List ℕ). flat_map line_of calls ++ last) (sym (append-nil (line_of call)))
    ∙ sym (flat_map-append line_of calls (call ∷ [])) ∙ ap (λ (some : List Call). flat_map line_of some) (sym is))

-- all lines are written
pub all_lines : (some calls : List Call) (text : List ℕ) → text ≡ recorded_head ++ flat_map line_of some → some ≡ calls → text ≡ ordered_text calls
unfolding ordered_text
all_lines some calls text is same = is ∙ ap (λ (written : List Call). recorded_head ++ flat_map line_of written) same
