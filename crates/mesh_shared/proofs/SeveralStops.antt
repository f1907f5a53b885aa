-- What is told of several stops.
use Rattle.std.proofs.Common.{◌≡◌, ℕ, zero, suc, ◌+◌, ◌<◌, List, [], ◌∷◌, ◌++◌, Option, Some, None, length, map, take, slice_index_or, ap, arith, refl, sym, ◌∙◌}
use Rattle.std.proofs.lemmas.List.{append_assoc, map-append, take_more}
use Rattle.mesh_shared.specs.Stops.{either_stop, first_of, first_stop}
use Rattle.mesh_shared.specs.declared.stops.EarlyExit.{EarlyExit}
use Rattle.mesh_shared.specs.declared.stops.EarlyExit.TheVariants.{Memory, Thread, History}

-- of three stops
of_three : (a b c : EarlyExit) → first_of a (first_of b c) ≡ first_of (first_of a b) c
of_three Memory b c = refl
of_three Thread Memory c = refl
of_three Thread Thread c = elim c as (λ (x : EarlyExit). first_of Thread (first_of Thread x) ≡ first_of Thread x) [ Memory ↦ refl | Thread ↦ refl | History ↦ refl ]
of_three Thread History c = refl
of_three History b c = refl

-- of three ends
either_three : (a b c : Option EarlyExit) → either_stop a (either_stop b c) ≡ either_stop (either_stop a b) c
either_three None b c = refl
either_three (Some a) None c = refl
either_three (Some a) (Some b) None = refl
either_three (Some a) (Some b) (Some c) = ap (λ (s : EarlyExit). Some s) (of_three a b c)

-- one end more
pub one_more : (stops : List (Option EarlyExit)) (stop : Option EarlyExit) → first_stop (stops ++ stop ∷ []) ≡ either_stop (first_stop stops) stop
one_more [] None = refl
one_more [] (Some stop) = refl
one_more (s ∷ ss) stop = ap (λ (e : Option EarlyExit). either_stop s e) (one_more ss stop) ∙ either_three s (first_stop ss) stop

-- all ends of a list, and those of a beginning of another, and the next one
pub next_other_end : {A : Type 0} (end_of : A → Option EarlyExit) (before : Option EarlyExit) (ends : List (Option EarlyExit)) (others : List A) (k : ℕ) (d : A) → k < length others
    → first_stop (before ∷ ends ++ map end_of (take (k + 1) others)) ≡ either_stop (first_stop (before ∷ ends ++ map end_of (take k others))) (end_of (slice_index_or others k d))
next_other_end {A} end_of before ends others k d below =
    let x : Option EarlyExit = end_of (slice_index_or others k d) in
    ap (λ (l : List A). first_stop (before ∷ ends ++ map end_of l)) (take_more others k d below)
    ∙ ap (λ (l : List (Option EarlyExit)). first_stop (before ∷ (ends ++ l))) (map-append end_of (take k others) (slice_index_or others k d ∷ []))
    ∙ ap (λ (l : List (Option EarlyExit)). first_stop (before ∷ l)) (sym (append_assoc ends (map end_of (take k others)) (x ∷ [])))
    ∙ one_more (before ∷ ends ++ map end_of (take k others)) x

-- where nothing is told of two ends, neither has anything to tell
none_of_two : (a b : Option EarlyExit) → either_stop a b ≡ None → (a ≡ None) × (b ≡ None)
none_of_two None b h = (refl, h)
none_of_two (Some a) None h = absurd (cc h)
none_of_two (Some a) (Some b) h = absurd (cc h)

-- nor has any of a list
pub nothing_first : (stop : Option EarlyExit) (stops : List (Option EarlyExit)) → first_stop (stop ∷ stops) ≡ None → (stop ≡ None) × (first_stop stops ≡ None)
nothing_first stop stops h = none_of_two stop (first_stop stops) h

pub nothing_behind : (ends others : List (Option EarlyExit)) → first_stop (ends ++ others) ≡ None → first_stop others ≡ None
nothing_behind [] others h = h
nothing_behind (end ∷ ends) others h = nothing_behind ends others (none_of_two end (first_stop (ends ++ others)) h).1

pub nothing_ahead : (ends others : List (Option EarlyExit)) → first_stop (ends ++ others) ≡ None → first_stop ends ≡ None
nothing_ahead [] others h = refl
nothing_ahead (end ∷ ends) others h =
    let both = none_of_two end (first_stop (ends ++ others)) h in
    ap (λ (e : Option EarlyExit). either_stop e (first_stop ends)) both.0 ∙ nothing_ahead ends others both.1

-- so none of several threads was stopped
pub none_stopped : {A : Type 0} (end_of : A → Option EarlyExit) (ones : List A) (w : ℕ) (d : A) → first_stop (map end_of ones) ≡ None → w < length ones
    → end_of (slice_index_or ones w d) ≡ None
none_stopped end_of [] w d h below = absurd (omega (arith, below))
none_stopped end_of (one ∷ rest) zero d h below = (none_of_two (end_of one) _ h).0
none_stopped end_of (one ∷ rest) (suc w) d h below = none_stopped end_of rest w d (none_of_two (end_of one) _ h).1 (omega (arith, below))
