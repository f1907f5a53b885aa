-- The texts of pairs and of a report.
use Rattle.std.proofs.Common.{◌≡◌, ℕ, List, [], ◌∷◌, ◌++◌, sym, ap, ◌∙◌, append_assoc, refl}
use Rattle.std.specs.Prelude.{codes, decimal, map}
use Rattle.std.specs.List.{flat_map}
use Rattle.model_heap.specs.Table.{Report}
use Rattle.model_jobs.specs.Texts.{number_field, pair_text, report_text}
use Rattle.mesh_search.specs.Pairs.{pairing}

-- the texts of pairs, from their numbers
pub texts_of_pairs : (xs : List (ℕ × ℕ)) → flat_map (λ pair. pair_text (pairing pair)) xs ≡ flat_map pair_text (map pairing xs)
texts_of_pairs [] = refl
texts_of_pairs (x ∷ xs) = ap (λ (text : List ℕ). pair_text (pairing x) ++ text) (texts_of_pairs xs)

-- one more count is written, its words before it
count_more : (first before now after words count : List ℕ) → now ≡ first ++ before → after ≡ now ++ (words ++ count) → after ≡ first ++ ((before ++ words) ++ count)
count_more first before now after words count is more =
    more ∙ ap (λ text. text ++ (words ++ count)) is ∙ append_assoc first before (words ++ count) ∙ ap (λ text. first ++ text) (sym (append_assoc before words count))

-- the five counts of a report are written one behind another
pub wrote_report : (r : Report) (first text2 text3 text4 text5 text : List ℕ) → text2 ≡ first ++ (codes "report objects " ++ decimal r.objects)
    → text3 ≡ text2 ++ (codes " bytes " ++ decimal r.bytes) → text4 ≡ text3 ++ (codes " mapped " ++ decimal r.mapped)
    → text5 ≡ text4 ++ (codes " taken " ++ decimal r.taken) → text ≡ text5 ++ (codes " saved " ++ decimal r.saved) → text ≡ first ++ report_text r
wrote_report r first text2 text3 text4 text5 text objects bytes mapped taken saved =
    count_more first _ _ _ (codes " saved") (number_field r.saved) (count_more first _ _ _ (codes " taken") (number_field r.taken)
    (count_more first _ _ _ (codes " mapped") (number_field r.mapped)
    (count_more first (codes "report objects" ++ number_field r.objects) _ _ (codes " bytes") (number_field r.bytes) objects bytes) mapped) taken) saved
