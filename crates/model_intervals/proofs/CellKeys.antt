-- The calls of one cell with their keys: `new` 3 * end + 2, the accesses as in `AccessKeys`, `free` 3 * begin. The keys
-- never fall.
use Rattle.std.proofs.Common.{◌≡◌, ℕ, ◌+◌, ◌*◌, ◌<◌, ◌≤◌, true, ◌&&◌, nat_eq, List, [], ◌∷◌, ◌++◌, map, arith, refl, sym, subst, ap, ◌∙◌}
use Rattle.std.specs.List.Sorted.{IsPermutation}
use Rattle.std.proofs.lemmas.Bool.{and_parts, eqb-true, false_from_ne_true}
use Rattle.std.proofs.lemmas.List.{map-append}
use Rattle.std.proofs.lemmas.List.Sorted.{IsPermutation-append_left, IsPermutation-append_right, IsPermutation-sym, IsPermutation-trans}
use Rattle.model_intervals.specs.Intervals.{Call}
use Rattle.model_intervals.specs.KeyedOrders.{Keyed, calls_of, keyed_from}
use Rattle.model_intervals.specs.Objects.{accesses_of, is_access}
use Rattle.model_intervals.specs.OverlappingCalls.{HasEffect, IsHistory, cell_at}
use Rattle.model_intervals.proofs.AfterStep.{frees_own}
use Rattle.model_intervals.proofs.AccessKeys.{IsWithin, keyed_calls, keyed_every, keyed_rise, keyed_within}
use Rattle.model_intervals.proofs.MiddleForm.{frees, is_free, of_cell}
use Rattle.model_intervals.proofs.Filtered.{every_filter, filter_every}
use Rattle.model_intervals.proofs.Lists.{Every, Pairs, every_append, every_both, every_map, every_true, every_turn, every_unmap, every_weaker, pairs_append, pairs_map}
use Rattle.model_intervals.proofs.Places.{every_from, pairs_from}
use Rattle.model_intervals.proofs.CellOrders.{OwnOrder}
use Rattle.model_intervals.proofs.Merged.{Rises}
use Rattle.model_intervals.proofs.CellParts.{access_no_free, access_no_new, free_no_new, frees_of, in_parts, is_new, new_so, news_of, parts}
use Rattle.model_intervals.proofs.Permuted.{every_permuted}
use Rattle.model_intervals.proofs.CellStates.{Leads, CellState, Unmade}
use Rattle.model_intervals.proofs.CellTimes.{IsAccessOf, IsFreeOf, IsNewOf, IsOneOf, all_one_of, before_free, new_before, one_free, one_new}

-- calls with keys that a function computes
abbrev pub keyed_by : (Call → ℕ) → List Call → List Keyed
keyed_by rule calls = map (λ call. record { key = rule call; call = call }) calls

calls_back : (rule : Call → ℕ) (calls : List Call) → calls_of (keyed_by rule calls) ≡ calls
calls_back rule [] = refl
calls_back rule (call ∷ calls) = ap (λ (rest : List Call). call ∷ rest) (calls_back rule calls)

abbrev pub new_key : Call → ℕ
new_key call = 3 * call.end + 2

abbrev pub free_key : Call → ℕ
free_key call = 3 * call.begin

-- if the call is a `new` or a `free`, its key is as above
abbrev pub HasOwnKey : Keyed → Type 0
HasOwnKey p = (is_new p.call.entry.command ≡ true → p.key ≡ new_key p.call) × (is_free p.call.entry.command ≡ true → p.key ≡ free_key p.call)

-- if each call of one list ends before each call of another list begins, keys rise from the first list to the second
rises_across : (ps qs : List Keyed) → Every (λ a. Every (λ b. a.end < b.begin) (calls_of qs)) (calls_of ps) → Every IsWithin ps → Every IsWithin qs
    → Every (λ p. Every (Rises p) qs) ps
rises_across ps qs h within_p within_q = every_both (λ p. Every (λ b. p.call.end < b.begin) (calls_of qs)) IsWithin (λ p. Every (Rises p) qs) ps
    (λ p ends within. every_both (λ q. p.call.end < q.call.begin) IsWithin (Rises p) qs (λ q later w. let high = within.1 in let low = w.0 in omega (arith, later, high, low))
    (every_unmap (λ q. q.call) (λ b. p.call.end < b.begin) qs ends) within_q)
    (every_unmap (λ p. p.call) (λ a. Every (λ b. a.end < b.begin) (calls_of qs)) ps h) within_p

-- a list of keyed calls that is right for the cell
pub record IsLife (calls : List Call) (c : ℕ) (life : List Keyed) : Type 0 where
  pub own : Every (λ p. nat_eq (cell_at p.call) c ≡ true) life
  pub rise : Pairs Rises life
  pub within : Every IsWithin life
  pub keys : Every HasOwnKey life
  pub same : IsPermutation (calls_of life) (of_cell c calls)
  pub taken : (t : CellState) × Leads Unmade (calls_of life) t

module _ (calls : List Call) (history : IsHistory calls) (c : ℕ) (mine : OwnOrder calls c) where
  abbrev pub life : List Keyed
  life = keyed_by new_key (news_of c calls) ++ (keyed_from 0 mine.order ++ keyed_by free_key (frees_of c calls))

  rest_calls : calls_of (keyed_from 0 mine.order ++ keyed_by free_key (frees_of c calls)) ≡ mine.order ++ frees_of c calls
  rest_calls =
      map-append (λ (p : Keyed). p.call) (keyed_from 0 mine.order) (keyed_by free_key (frees_of c calls))
      ∙ ap (λ (xs : List Call). xs ++ calls_of (keyed_by free_key (frees_of c calls))) (keyed_calls 0 mine.order)
      ∙ ap (λ (xs : List Call). mine.order ++ xs) (calls_back free_key (frees_of c calls))

  life_calls : calls_of life ≡ news_of c calls ++ (mine.order ++ frees_of c calls)
  life_calls =
      map-append (λ (p : Keyed). p.call) (keyed_by new_key (news_of c calls)) (keyed_from 0 mine.order ++ keyed_by free_key (frees_of c calls))
      ∙ ap (λ (xs : List Call). xs ++ calls_of (keyed_from 0 mine.order ++ keyed_by free_key (frees_of c calls))) (calls_back new_key (news_of c calls))
      ∙ ap (λ (xs : List Call). news_of c calls ++ xs) rest_calls

  life_same : IsPermutation (calls_of life) (of_cell c calls)
  life_same = subst (λ xs. IsPermutation xs (of_cell c calls)) (sym life_calls)
      (IsPermutation-sym (of_cell c calls) _ (IsPermutation-trans (of_cell c calls) (parts c calls) _
      (in_parts c calls (every_from (λ call. HasEffect call.entry.command call.entry.reply) calls history.have_effects))
      (IsPermutation-append_right (news_of c calls) (accesses_of c calls ++ frees_of c calls) (mine.order ++ frees_of c calls)
      (IsPermutation-append_left (frees_of c calls) (accesses_of c calls) mine.order (IsPermutation-sym mine.order (accesses_of c calls) mine.same)))))

  -- a fact of each of the cell's accesses holds in their order too
  order_every : (P : Call → Type 0) → Every P (accesses_of c calls) → Every P mine.order
  order_every P h = every_permuted P (accesses_of c calls) mine.order (IsPermutation-sym mine.order (accesses_of c calls) mine.same) h

  takes : Every (λ call. call.begin ≤ call.end) calls
  takes = every_from (λ call. call.begin ≤ call.end) calls history.take_time

  -- each call of the order is an access to the cell and a call of the history, and so for the `free`
  access_all : Every (λ call. IsAccessOf c call × IsOneOf calls history call) mine.order
  access_all = order_every (λ call. IsAccessOf c call × IsOneOf calls history call) (every_both (IsAccessOf c) (IsOneOf calls history)
      (λ call. IsAccessOf c call × IsOneOf calls history call) (accesses_of c calls) (λ call is one. (is, one))
      (filter_every (λ call. is_access call.entry.command && nat_eq (cell_at call) c) calls)
      (every_filter (IsOneOf calls history) (λ call. is_access call.entry.command && nat_eq (cell_at call) c) calls (all_one_of calls history)))

  free_all : Every (λ call. IsFreeOf c call × IsOneOf calls history call) (frees_of c calls)
  free_all = every_both (IsFreeOf c) (IsOneOf calls history) (λ call. IsFreeOf c call × IsOneOf calls history call) (frees_of c calls) (λ call is one. (is, one))
      (filter_every (frees c) calls) (every_filter (IsOneOf calls history) (frees c) calls (all_one_of calls history))

  access_is : (call : Call) → IsAccessOf c call → (is_access call.entry.command ≡ true) × (cell_at call ≡ c)
  access_is call is = let both = and_parts (is_access call.entry.command) (nat_eq (cell_at call) c) is in (both.0, eqb-true (cell_at call) c both.1)

  -- the `new` ends before the other calls begin, and the accesses end before the `free` begins
  news_first : Every (λ a. Every (λ b. a.end < b.begin) (mine.order ++ frees_of c calls)) (news_of c calls)
  news_first = every_turn (λ b a. a.end < b.begin) (mine.order ++ frees_of c calls) (news_of c calls)
      (every_append (λ b. Every (λ a. a.end < b.begin) (news_of c calls)) mine.order (frees_of c calls)
      (every_weaker (λ call. IsAccessOf c call × IsOneOf calls history call) (λ b. Every (λ a. a.end < b.begin) (news_of c calls)) mine.order
      (λ call is. let own = access_is call is.0 in new_before calls history c call is.1 (access_no_new call.entry.command own.0) own.1) access_all)
      (every_weaker (λ call. IsFreeOf c call × IsOneOf calls history call) (λ b. Every (λ a. a.end < b.begin) (news_of c calls)) (frees_of c calls)
      (λ call is. let own = frees_own c call is.0 in new_before calls history c call is.1 (free_no_new call.entry.command own.0) own.1) free_all))

  frees_last : Every (λ a. Every (λ b. a.end < b.begin) (frees_of c calls)) mine.order
  frees_last = every_weaker (λ call. IsAccessOf c call × IsOneOf calls history call) (λ a. Every (λ b. a.end < b.begin) (frees_of c calls)) mine.order
      (λ call is. let own = access_is call is.0 in every_weaker (λ free. IsFreeOf c free × IsOneOf calls history free) (λ b. call.end < b.begin) (frees_of c calls)
      (λ free frees. before_free calls history c call free is.1 frees.1
      (false_from_ne_true (is_free call.entry.command) (access_no_free call.entry.command own.0)) own.1 frees.0) free_all) access_all

  -- each key lies within its call
  news_within : Every IsWithin (keyed_by new_key (news_of c calls))
  news_within = every_map (λ call. record { key = new_key call; call = call }) IsWithin (news_of c calls)
      (every_weaker (λ call. call.begin ≤ call.end) (λ call. IsWithin (record { key = new_key call; call = call })) (news_of c calls) (λ call h. (omega (arith, h), omega arith))
      (every_filter (λ call. call.begin ≤ call.end) (λ call. is_new call.entry.command && nat_eq (cell_at call) c) calls takes))

  frees_within : Every IsWithin (keyed_by free_key (frees_of c calls))
  frees_within = every_map (λ call. record { key = free_key call; call = call }) IsWithin (frees_of c calls)
      (every_weaker (λ call. call.begin ≤ call.end) (λ call. IsWithin (record { key = free_key call; call = call })) (frees_of c calls) (λ call h. (omega arith, omega (arith, h)))
      (every_filter (λ call. call.begin ≤ call.end) (frees c) calls takes))

  order_takes : Every (λ call. call.begin ≤ call.end) mine.order
  order_takes = order_every (λ call. call.begin ≤ call.end)
      (every_filter (λ call. call.begin ≤ call.end) (λ call. is_access call.entry.command && nat_eq (cell_at call) c) calls takes)

  accesses_within : Every IsWithin (keyed_from 0 mine.order)
  accesses_within = keyed_within 0 mine.order (every_weaker (λ call. call.begin ≤ call.end) (λ call. 0 ≤ call.end) mine.order (λ call h. omega arith) order_takes) order_takes
      (pairs_from (λ front back. back.end < front.begin → ⊥) mine.order mine.in_time)

  rest_within : Every IsWithin (keyed_from 0 mine.order ++ keyed_by free_key (frees_of c calls))
  rest_within = every_append IsWithin (keyed_from 0 mine.order) (keyed_by free_key (frees_of c calls)) accesses_within frees_within

  -- the keys never fall
  alone_rise : (rule : Call → ℕ) (xs : List Call) → Pairs (λ a b. ⊥) xs → Pairs Rises (keyed_by rule xs)
  alone_rise rule xs one = pairs_map (λ call. record { key = rule call; call = call }) (λ call. Unit {0}) (λ a b. ⊥) Rises xs (λ a b h u v. absurd h) one
      (every_true (λ call. Unit {0}) xs (λ call. tt))

  rest_rise : Pairs Rises (keyed_from 0 mine.order ++ keyed_by free_key (frees_of c calls))
  rest_rise = pairs_append Rises (keyed_from 0 mine.order) (keyed_by free_key (frees_of c calls)) (keyed_rise 0 mine.order)
      (alone_rise free_key (frees_of c calls) (one_free calls history c))
      (rises_across (keyed_from 0 mine.order) (keyed_by free_key (frees_of c calls))
      (subst (λ xs. Every (λ a. Every (λ b. a.end < b.begin) xs) (calls_of (keyed_from 0 mine.order))) (sym (calls_back free_key (frees_of c calls)))
      (subst (λ xs. Every (λ a. Every (λ b. a.end < b.begin) (frees_of c calls)) xs) (sym (keyed_calls 0 mine.order)) frees_last)) accesses_within frees_within)

  life_rise : Pairs Rises life
  life_rise = pairs_append Rises (keyed_by new_key (news_of c calls)) (keyed_from 0 mine.order ++ keyed_by free_key (frees_of c calls))
      (alone_rise new_key (news_of c calls) (one_new calls history c)) rest_rise
      (rises_across (keyed_by new_key (news_of c calls)) (keyed_from 0 mine.order ++ keyed_by free_key (frees_of c calls))
      (subst (λ xs. Every (λ a. Every (λ b. a.end < b.begin) xs) (calls_of (keyed_by new_key (news_of c calls)))) (sym rest_calls)
      (subst (λ xs. Every (λ a. Every (λ b. a.end < b.begin) (mine.order ++ frees_of c calls)) xs) (sym (calls_back new_key (news_of c calls))) news_first)) news_within rest_within)

  -- each call names the cell, and has its kind's key
  news_own : Every (λ call. nat_eq (cell_at call) c ≡ true) (news_of c calls)
  news_own = every_weaker (IsNewOf c) (λ call. nat_eq (cell_at call) c ≡ true) (news_of c calls)
      (λ call is. (and_parts (is_new call.entry.command) (nat_eq (cell_at call) c) is).1) (filter_every (λ call. is_new call.entry.command && nat_eq (cell_at call) c) calls)

  order_own : Every (λ call. nat_eq (cell_at call) c ≡ true) mine.order
  order_own = every_weaker (λ call. IsAccessOf c call × IsOneOf calls history call) (λ call. nat_eq (cell_at call) c ≡ true) mine.order
      (λ call is. (and_parts (is_access call.entry.command) (nat_eq (cell_at call) c) is.0).1) access_all

  frees_own_all : Every (λ call. nat_eq (cell_at call) c ≡ true) (frees_of c calls)
  frees_own_all = every_weaker (IsFreeOf c) (λ call. nat_eq (cell_at call) c ≡ true) (frees_of c calls)
      (λ call is. (and_parts (is_free call.entry.command) (nat_eq (cell_at call) c) is).1) (filter_every (frees c) calls)

  life_own : Every (λ p. nat_eq (cell_at p.call) c ≡ true) life
  life_own = every_unmap (λ (p : Keyed). p.call) (λ call. nat_eq (cell_at call) c ≡ true) life (subst (λ xs. Every (λ call. nat_eq (cell_at call) c ≡ true) xs) (sym life_calls)
      (every_append (λ call. nat_eq (cell_at call) c ≡ true) (news_of c calls) (mine.order ++ frees_of c calls) news_own
      (every_append (λ call. nat_eq (cell_at call) c ≡ true) mine.order (frees_of c calls) order_own frees_own_all)))

  news_keys : Every HasOwnKey (keyed_by new_key (news_of c calls))
  news_keys = every_map (λ call. record { key = new_key call; call = call }) HasOwnKey (news_of c calls)
      (every_weaker (IsNewOf c) (λ call. HasOwnKey (record { key = new_key call; call = call })) (news_of c calls)
      (λ call is. (λ new. refl, λ free. absurd (free_no_new call.entry.command free (new_so call.entry.command (and_parts (is_new call.entry.command) (nat_eq (cell_at call) c) is).0))))
      (filter_every (λ call. is_new call.entry.command && nat_eq (cell_at call) c) calls))

  frees_keys : Every HasOwnKey (keyed_by free_key (frees_of c calls))
  frees_keys = every_map (λ call. record { key = free_key call; call = call }) HasOwnKey (frees_of c calls)
      (every_weaker (IsFreeOf c) (λ call. HasOwnKey (record { key = free_key call; call = call })) (frees_of c calls)
      (λ call is. (λ new. absurd (free_no_new call.entry.command (frees_own c call is).0 (new_so call.entry.command new)), λ free. refl))
      (filter_every (frees c) calls))

  accesses_keys : Every HasOwnKey (keyed_from 0 mine.order)
  accesses_keys = every_weaker (λ p. is_access p.call.entry.command ≡ true) HasOwnKey (keyed_from 0 mine.order)
      (λ p access. (
        λ new. absurd (access_no_new p.call.entry.command access (new_so p.call.entry.command new)),
        λ free. absurd (access_no_free p.call.entry.command access free),
      ))
      (keyed_every (λ call. is_access call.entry.command ≡ true) 0 mine.order (every_weaker (λ call. IsAccessOf c call × IsOneOf calls history call)
      (λ call. is_access call.entry.command ≡ true) mine.order (λ call is. (access_is call is.0).0) access_all))

  pub is_life : IsLife calls c life
  is_life = record {
    own = life_own;
    rise = life_rise;
    within = every_append IsWithin (keyed_by new_key (news_of c calls)) (keyed_from 0 mine.order ++ keyed_by free_key (frees_of c calls)) news_within rest_within;
    keys = every_append HasOwnKey (keyed_by new_key (news_of c calls)) (keyed_from 0 mine.order ++ keyed_by free_key (frees_of c calls)) news_keys
        (every_append HasOwnKey (keyed_from 0 mine.order) (keyed_by free_key (frees_of c calls)) accesses_keys frees_keys);
    same = life_same;
    taken = subst (λ xs. (t : CellState) × Leads Unmade xs t) (sym life_calls) mine.taken;
  }
