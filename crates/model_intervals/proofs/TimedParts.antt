-- In an order of a history's calls that respects time, each cell's `new` comes first and its `free` last.
use Rattle.std.proofs.Common.{◌≡◌, ◌<◌, ℕ, true, false, ◌&&◌, nat_eq, List, [], ◌∷◌, ◌++◌, refl, sym, subst, ap, ◌∙◌, inl, inr}
use Rattle.std.specs.List.Sorted.{IsPermutation}
use Rattle.std.proofs.lemmas.Bool.{and_from, and_parts, eq-eqb, eqb-true, false_from_ne_true}
use Rattle.std.proofs.lemmas.List.Sorted.{IsPermutation-sym}
use Rattle.model_intervals.specs.Intervals.{Call}
use Rattle.model_intervals.specs.Objects.{accesses_of, is_access}
use Rattle.model_intervals.specs.OverlappingCalls.{HasEffect, IsHistory, IsMadeBefore, cell_at}
use Rattle.model_intervals.proofs.AfterStep.{frees_from}
use Rattle.model_intervals.proofs.MiddleForm.{is_free, of_cell}
use Rattle.model_intervals.proofs.Filtered.{filter_none}
use Rattle.model_intervals.proofs.Lists.{Every, Pairs, every_weaker, pairs_weaker, tells}
use Rattle.model_intervals.proofs.CellParts.{access_no_free, and_false, frees_of, is_new, kind, news_of, parts, so_new}
use Rattle.model_intervals.proofs.Permuted.{by_exchanges, every_permuted}
use Rattle.model_intervals.proofs.CellTimes.{IsOneOf, all_one_of, before_free, new_ends}

-- two calls of one cell: if the first is no `new`, the second is none, and if the first is a `free`, the second is one
abbrev pub KindsRise : Call → Call → Type 0
KindsRise a b = cell_at a ≡ cell_at b
    → (is_new a.entry.command ≡ false → is_new b.entry.command ≡ false) × (is_free a.entry.command ≡ true → is_free b.entry.command ≡ true)

-- an order that respects time has the kinds in this order
kinds_in_time : (calls : List Call) (history : IsHistory calls) (a b : Call) → (b.end < a.begin → ⊥) → IsOneOf calls history a → IsOneOf calls history b → KindsRise a b
kinds_in_time calls history a b time one_a one_b same = (
  λ not_new. false_from_ne_true (is_new b.entry.command) (λ new. time (new_ends calls history (cell_at b) one_b.0 b a.begin one_b.1
      (and_from (is_new b.entry.command) (nat_eq (cell_at b) (cell_at b)) new (eq-eqb (cell_at b) (cell_at b) refl))
      (subst (λ c. IsMadeBefore calls c a.begin) same
      (history.after_new one_a.0 a one_a.1 (λ new_a. let clash : true ≡ false = sym (so_new a.entry.command new_a) ∙ not_new in cc clash))))),
  λ free. elim (tells (is_free b.entry.command)) [
    | inl too ↦ too
    | inr other ↦ absurd (time (before_free calls history (cell_at a) b a one_b one_a other (sym same) (frees_from (cell_at a) a free refl)))
  ],
)

pub kinds_rise : (calls order : List Call) → IsHistory calls → IsPermutation order calls → Pairs (λ front back. back.end < front.begin → ⊥) order → Pairs KindsRise order
kinds_rise calls order history same in_time = pairs_weaker (IsOneOf calls history) (λ front back. back.end < front.begin → ⊥) KindsRise order (kinds_in_time calls history) in_time
    (every_permuted (IsOneOf calls history) calls order (IsPermutation-sym order calls same) (all_one_of calls history))

-- behind a call that is no `new`, its cell has no `new`, and behind a `free` no access
no_more_news : (c : ℕ) (call : Call) (calls : List Call) → cell_at call ≡ c → is_new call.entry.command ≡ false → Every (KindsRise call) calls → news_of c calls ≡ []
no_more_news c call calls own not_new rise = filter_none (λ x. is_new x.entry.command && nat_eq (cell_at x) c) calls
    (every_weaker (KindsRise call) (λ x. (is_new x.entry.command && nat_eq (cell_at x) c) ≡ false) calls
    (λ x rises. false_from_ne_true _ (λ is.
    let both = and_parts (is_new x.entry.command) (nat_eq (cell_at x) c) is in
    let clash : true ≡ false = sym both.0 ∙ (rises (own ∙ sym (eqb-true (cell_at x) c both.1))).0 not_new in cc clash)) rise)

no_more_accesses : (c : ℕ) (call : Call) (calls : List Call) → cell_at call ≡ c → is_free call.entry.command ≡ true → Every (KindsRise call) calls → accesses_of c calls ≡ []
no_more_accesses c call calls own free rise = filter_none (λ x. is_access x.entry.command && nat_eq (cell_at x) c) calls
    (every_weaker (KindsRise call) (λ x. (is_access x.entry.command && nat_eq (cell_at x) c) ≡ false) calls
    (λ x rises. false_from_ne_true _ (λ is.
    let both = and_parts (is_access x.entry.command) (nat_eq (cell_at x) c) is in
    access_no_free x.entry.command both.0 ((rises (own ∙ sym (eqb-true (cell_at x) c both.1))).1 free))) rise)

-- so the cell's calls are its `new`, its accesses and its `free`
pub timed_parts : (c : ℕ) (calls : List Call) → Every (λ call. HasEffect call.entry.command call.entry.reply) calls → Pairs KindsRise calls → of_cell c calls ≡ parts c calls
timed_parts c [] effects rise = refl
timed_parts c (call ∷ calls) effects rise = elim (tells (nat_eq (cell_at call) c)) [
  | inl own ↦ elim (kind call.entry.command call.entry.reply effects.0) [
    | inl is ↦ rw (own, is.new_is, is.access_is, is.free_is) (ap (λ (rest : List Call). call ∷ rest) (timed_parts c calls effects.1 rise.1))
    | inr (inl is) ↦
        let no_new = no_more_news c call calls (eqb-true (cell_at call) c own) is.new_is rise.0 in
        let rest : of_cell c calls ≡ accesses_of c calls ++ frees_of c calls =
        timed_parts c calls effects.1 rise.1 ∙ ap (λ (news : List Call). news ++ (accesses_of c calls ++ frees_of c calls)) no_new in
        rw (own, is.new_is, is.access_is, is.free_is, no_new) (ap (λ (xs : List Call). call ∷ xs) rest)
    | inr (inr is) ↦
        let no_new = no_more_news c call calls (eqb-true (cell_at call) c own) is.new_is rise.0 in
        let no_access = no_more_accesses c call calls (eqb-true (cell_at call) c own) is.free_is rise.0 in
        let rest : of_cell c calls ≡ frees_of c calls =
        timed_parts c calls effects.1 rise.1 ∙ ap (λ (news : List Call). news ++ (accesses_of c calls ++ frees_of c calls)) no_new
        ∙ ap (λ (accesses : List Call). accesses ++ frees_of c calls) no_access in
        rw (own, is.new_is, is.access_is, is.free_is, no_new, no_access) (ap (λ (xs : List Call). call ∷ xs) rest)
  ]
  | inr apart ↦ rw (apart, and_false (is_new call.entry.command), and_false (is_access call.entry.command), and_false (is_free call.entry.command)) (timed_parts c calls effects.1 rise.1)
]

-- a permutation of at most one element is the same list
pub few_same : {X : Type 0} (xs ys : List X) → IsPermutation xs ys → Pairs (λ a b. ⊥) xs → xs ≡ ys
few_same {X} xs ys = by_exchanges (λ us vs. Pairs (λ a b. ⊥) us → us ≡ vs) (λ us few. refl) (λ x us vs h few. ap (λ (rest : List X). x ∷ rest) (h few.1))
    (λ x y us few. absurd few.0.0) (λ us vs ws first second few. first few ∙ second (subst (λ zs. Pairs (λ a b. ⊥) zs) (first few) few)) xs ys
