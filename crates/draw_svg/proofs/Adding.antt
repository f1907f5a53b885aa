-- What a text is after several appends.
use Rattle.std.proofs.Common.{◌≡◌, ℕ, List, ◌++◌, [], Option, Some, None, IfSome, append_assoc, append-nil, ap, drop, inl, inr, ◌⊎◌, ◌∙◌, codes, refl, sym, subst}
use Rattle.draw_svg.specs.Begins.{Begins}
use Rattle.draw_svg.specs.Files.{opening, root_text}
use Rattle.draw_svg.specs.Texts.{Adds}

-- after an allocation failure nothing changes
pub stays_failed : (old new : Option (List ℕ)) (words : List ℕ) → old ≡ None → Adds old new words → new ≡ None
stays_failed None new words failed adds = adds
stays_failed (Some old) new words failed adds = absurd (cc failed)

-- nothing was appended
pub adds_nothing : (text : Option (List ℕ)) → Adds text text []
adds_nothing None = refl
adds_nothing (Some bytes) = inl (ap Some (sym (append-nil bytes)))

-- words that were appended to a text with these bytes
pub adds_to : (old new : Option (List ℕ)) (bytes words : List ℕ) → old ≡ Some bytes → Adds old new words → (new ≡ Some (bytes ++ words)) ⊎ (new ≡ None)
adds_to old new bytes words is adds = let P : Option (List ℕ) → Type 0 = λ old. Adds old new words in subst P is adds

-- words that were appended in two parts
pub adds_both : (a b c : Option (List ℕ)) (first second : List ℕ) → Adds a b first → Adds b c second → Adds a c (first ++ second)
adds_both None b c first second failed adds = stays_failed b c second failed adds
adds_both (Some a) b c first second (inr failed) adds = inr (stays_failed b c second failed adds)
adds_both (Some a) b c first second (inl one) adds = both (adds_to b c (a ++ first) second one adds)
  where
    both : ((c ≡ Some ((a ++ first) ++ second)) ⊎ (c ≡ None)) → (c ≡ Some (a ++ (first ++ second))) ⊎ (c ≡ None)
    both (inl is) = inl (is ∙ ap Some (append_assoc a first second))
    both (inr failed) = inr failed

-- the text of the root element begins with `<svg`
root_begins : (title : List ℕ) (width height : ℕ) → Begins (codes "<svg") (root_text title width height)
unfolding opening
root_begins title width height = (drop 4 (root_text title width height), refl)

-- a text that was empty before the root element begins with `<svg`
pub begins_file : (old new : Option (List ℕ)) (title : List ℕ) (width height : ℕ) → old ≡ Some [] → Adds old new (root_text title width height)
    → IfSome new (Begins (codes "<svg"))
begins_file old None title width height empty adds = tt
begins_file old (Some new) title width height empty adds = begun (adds_to old (Some new) [] (root_text title width height) empty adds)
  where
    begun : ((Some new ≡ Some (root_text title width height)) ⊎ (Some new ≡ None)) → Begins (codes "<svg") new
    begun (inl is) = let same : root_text title width height ≡ new = cc is in subst (Begins (codes "<svg")) same (root_begins title width height)
    begun (inr failed) = absurd (cc failed)

-- a text to which words are appended begins as it began before
pub begins_on : (old new : Option (List ℕ)) (first words : List ℕ) → IfSome old (Begins first) → Adds old new words → IfSome new (Begins first)
begins_on old None first words begins adds = tt
begins_on None (Some new) first words begins adds = absurd (cc adds)
begins_on (Some old) (Some new) first words (rest, is) (inl one) = (rest ++ words, (let same : new ≡ old ++ words = cc one in same) ∙ ap (λ (bytes : List ℕ). bytes ++ words) is ∙ append_assoc first rest words)
begins_on (Some old) (Some new) first words begins (inr failed) = absurd (cc failed)
