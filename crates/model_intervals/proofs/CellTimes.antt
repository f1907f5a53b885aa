-- The times of a cell's calls in a history: one `new` ends before all others begin, and one `free` begins after all
-- others have ended.
use Rattle.std.proofs.Common.{◌≡◌, ◌≢◌, ℕ, ◌<◌, ◌≤◌, true, false, ◌&&◌, nat_eq, List, arith, sym, subst, ap, ◌∙◌, inl, inr, Some, slice_get}
use Rattle.std.proofs.lemmas.Bool.{and_from, and_parts, eq-eqb, eqb-true}
use Rattle.std.proofs.lemmas.Bool.Decides.{eqb_tells}
use Rattle.model_intervals.specs.Intervals.{Call}
use Rattle.model_intervals.specs.Objects.{is_access}
use Rattle.model_intervals.specs.OverlappingCalls.{IsAt, IsFree, IsHistory, IsMadeBefore, IsNew, MakesOne, cell_at}
use Rattle.model_intervals.proofs.AfterStep.{frees_own}
use Rattle.model_intervals.proofs.MiddleForm.{frees, is_free}
use Rattle.model_intervals.proofs.Filtered.{every_filter, filter_every, has_filter, pairs_filter}
use Rattle.model_intervals.proofs.Lists.{Every, Has, Pairs, every_both, has_weaker, pairs_weaker}
use Rattle.model_intervals.proofs.Places.{every_from, every_from_places, has_from_place, mutual_from_places}
use Rattle.model_intervals.proofs.CellParts.{free_so, frees_of, is_new, makes_new, new_so, news_of, so_new}

-- a place has one call
one_at : (calls : List Call) (i j : ℕ) (a b : Call) → i ≡ j → IsAt calls i a → IsAt calls j b → a ≡ b
one_at calls i j a b same at_i at_j = let both : Some a ≡ Some b = sym at_i ∙ ap (slice_get calls) same ∙ at_j in cc both

-- the call is of a kind, and names the cell
abbrev pub IsNewOf : ℕ → Call → Type 0
IsNewOf c call = (is_new call.entry.command && nat_eq (cell_at call) c) ≡ true

abbrev pub IsFreeOf : ℕ → Call → Type 0
IsFreeOf c call = frees c call ≡ true

abbrev pub IsAccessOf : ℕ → Call → Type 0
IsAccessOf c call = (is_access call.entry.command && nat_eq (cell_at call) c) ≡ true

module _ (calls : List Call) (history : IsHistory calls) where
  -- the cell's `new` is the call that made its object
  pub new_ends : (c i : ℕ) (call : Call) (moment : ℕ) → IsAt calls i call → IsNewOf c call → IsMadeBefore calls c moment → call.end < moment
  new_ends c i call moment here is made =
      let both = and_parts (is_new call.entry.command) (nat_eq (cell_at call) c) is in
      let cell = eqb-true (cell_at call) c both.1 in
      elim (eqb_tells i made.place) [
        | inl same ↦ let one = one_at calls i made.place call made.call same.1 here made.there in
            subst (λ (x : Call). x.end < moment) (sym one) made.ended
        | inr apart ↦ absurd (history.own_cells i made.place call made.call apart.1 here made.there (new_so call.entry.command both.0)
            (makes_new made.call.entry.command made.call.entry.reply made.makes) (cell ∙ sym made.names))
      ]

  -- the call is an element of the history
  abbrev pub IsOneOf : Call → Type 0
  IsOneOf call = (place : ℕ) × IsAt calls place call

  pub all_one_of : Every IsOneOf calls
  all_one_of = every_from_places IsOneOf calls (λ k call is. (k, is))

  -- a cell's `new` ends before any other of its calls begins
  pub new_before : (c : ℕ) (call : Call) → IsOneOf call → (IsNew call.entry.command → ⊥) → cell_at call ≡ c → Every (λ new. new.end < call.begin) (news_of c calls)
  new_before c call one other cell =
      let made = subst (λ d. IsMadeBefore calls d call.begin) cell (history.after_new one.0 call one.1 other) in
      every_both IsOneOf (IsNewOf c) (λ new. new.end < call.begin) (news_of c calls) (λ new here is. new_ends c here.0 new call.begin here.1 is made)
      (every_filter IsOneOf (λ x. is_new x.entry.command && nat_eq (cell_at x) c) calls all_one_of)
      (filter_every (λ x. is_new x.entry.command && nat_eq (cell_at x) c) calls)

  -- each other call of a cell ends before its `free` begins
  pub before_free : (c : ℕ) (call free : Call) → IsOneOf call → IsOneOf free → (is_free call.entry.command ≡ false) → cell_at call ≡ c → IsFreeOf c free → call.end < free.begin
  before_free c call free one one' other cell is =
      let own = frees_own c free is in
      elim (eqb_tells one.0 one'.0) [
        | inl same ↦ absurd (
            let both = one_at calls one.0 one'.0 call free same.1 one.1 one'.1 in
            let clash : true ≡ false = sym own.0 ∙ ap (λ (x : Call). is_free x.entry.command) (sym both) ∙ other in cc clash)
        | inr apart ↦ history.before_free one.0 one'.0 call free apart.1 one.1 one'.1 (free_so free.entry.command own.0) (cell ∙ sym own.1)
      ]

  -- a cell has at most one `new`
  pub one_new : (c : ℕ) → Pairs (λ a b. ⊥) (news_of c calls)
  one_new c = pairs_weaker (IsNewOf c) (λ a b. Apart a b × Apart b a) (λ a b. ⊥) (news_of c calls) clash
      (pairs_filter (λ a b. Apart a b × Apart b a) (λ x. is_new x.entry.command && nat_eq (cell_at x) c) calls
      (mutual_from_places Apart calls (λ i j a b apart at_i at_j new_a new_b. history.own_cells i j a b apart at_i at_j new_a new_b)))
      (filter_every (λ x. is_new x.entry.command && nat_eq (cell_at x) c) calls)
    where
      Apart : Call → Call → Type 0
      Apart a b = IsNew a.entry.command → IsNew b.entry.command → cell_at a ≢ cell_at b

      clash : (a b : Call) → Apart a b × Apart b a → IsNewOf c a → IsNewOf c b → ⊥
      clash a b apart is_a is_b =
          let a_is = and_parts (is_new a.entry.command) (nat_eq (cell_at a) c) is_a in
          let b_is = and_parts (is_new b.entry.command) (nat_eq (cell_at b) c) is_b in
          apart.0 (new_so a.entry.command a_is.0) (new_so b.entry.command b_is.0) (eqb-true (cell_at a) c a_is.1 ∙ sym (eqb-true (cell_at b) c b_is.1))

  -- if no `new` of a cell made an object, no other call names the cell
  pub no_maker : (c : ℕ) → (Has (λ call. MakesOne call.entry.command call.entry.reply) (news_of c calls) → ⊥) → (call : Call) → IsOneOf call
      → (IsNew call.entry.command → ⊥) → cell_at call ≡ c → ⊥
  no_maker c none call one other cell =
      let made = subst (λ d. IsMadeBefore calls d call.begin) cell (history.after_new one.0 call one.1 other) in
      none (has_weaker_new (has_filter Maker (λ x. is_new x.entry.command && nat_eq (cell_at x) c) calls passes
      (has_from_place Maker calls made.place made.call made.there (made.makes, made.names))))
    where
      Maker : Call → Type 0
      Maker x = MakesOne x.entry.command x.entry.reply × (cell_at x ≡ c)

      passes : (x : Call) → Maker x → (is_new x.entry.command && nat_eq (cell_at x) c) ≡ true
      passes x is = and_from (is_new x.entry.command) (nat_eq (cell_at x) c) (so_new x.entry.command (makes_new x.entry.command x.entry.reply is.0)) (eq-eqb (cell_at x) c is.1)

      has_weaker_new : Has Maker (news_of c calls) → Has (λ x. MakesOne x.entry.command x.entry.reply) (news_of c calls)
      has_weaker_new = has_weaker Maker (λ x. MakesOne x.entry.command x.entry.reply) (news_of c calls) (λ x is. is.0)

  -- a cell has at most one `free`
  pub one_free : (c : ℕ) → Pairs (λ a b. ⊥) (frees_of c calls)
  one_free c = pairs_weaker (λ x. IsFreeOf c x × (x.begin ≤ x.end)) (λ a b. Apart a b × Apart b a) (λ a b. ⊥) (frees_of c calls) clash
      (pairs_filter (λ a b. Apart a b × Apart b a) (frees c) calls
      (mutual_from_places Apart calls (λ i j a b apart at_i at_j free cell. history.before_free i j a b apart at_i at_j free cell)))
      (every_both (IsFreeOf c) (λ x. x.begin ≤ x.end) (λ x. IsFreeOf c x × (x.begin ≤ x.end)) (frees_of c calls) (λ x is takes. (is, takes)) (filter_every (frees c) calls)
      (every_filter (λ x. x.begin ≤ x.end) (frees c) calls (every_from (λ x. x.begin ≤ x.end) calls history.take_time)))
    where
      Apart : Call → Call → Type 0
      Apart a b = IsFree b.entry.command → cell_at a ≡ cell_at b → a.end < b.begin

      clash : (a b : Call) → Apart a b × Apart b a → IsFreeOf c a × (a.begin ≤ a.end) → IsFreeOf c b × (b.begin ≤ b.end) → ⊥
      clash a b apart is_a is_b =
          let a_is = frees_own c a is_a.0 in
          let b_is = frees_own c b is_b.0 in
          let first = apart.0 (free_so b.entry.command b_is.0) (a_is.1 ∙ sym b_is.1) in
          let second = apart.1 (free_so a.entry.command a_is.0) (b_is.1 ∙ sym a_is.1) in
          let a_takes = is_a.1 in let b_takes = is_b.1 in
          omega (arith, first, second, a_takes, b_takes)
