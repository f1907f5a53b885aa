-- Calls that are sorted by their keys follow the orders that their points follow.
use Rattle.std.proofs.Common.{◌≡◌, ℕ, ◌+◌, ◌*◌, ◌≤◌, List, [], ap, arith, inl, inr, length, map, refl, subst, sym, ◌∙◌}
use Rattle.std.specs.List.{All, range_with_len}
use Rattle.std.specs.List.Sorted.{IsPermutation}
use Rattle.std.proofs.lemmas.Bool.Decides.{eqb_tells}
use Rattle.std.proofs.lemmas.List.{length-map}
use Rattle.std.proofs.lemmas.List.Sorted.{All-permutation}
use Rattle.model_intervals.specs.Intervals.{Call}
use Rattle.model_intervals.specs.KeyedOrders.{Keyed, calls_of}
use Rattle.model_intervals.specs.OverlappingCalls.{IsFree, IsNew}
use Rattle.model_intervals.proofs.Lists.{Every, Pairs, every_map, every_true, every_weaker, pairs_map}
use Rattle.model_intervals.proofs.Places.{all_from, all_pairs_from, every_from}
use Rattle.history_reading.specs.CallWords.{plain_call}
use Rattle.history_reading.specs.declared.words.TimedCall.{TimedCall}
use Rattle.history_overlaps.specs.Keys.{IsKeyOf}
use Rattle.history_overlaps.specs.Orders.{at_places, calls_in_order}
use Rattle.history_overlaps.specs.Points.{AreSortedByPoints}
use Rattle.history_overlaps.specs.declared.keys.Key.{Key}
use Rattle.history_overlaps.specs.declared.points.Point.{Point}
use Rattle.history_overlaps.proofs.InOrder.{at_places-map, at_within, items_permuted, order_sorted, places_within}
use Rattle.history_overlaps.proofs.KeyOrder.{IsBefore, rank_number, small_rank}
use Rattle.history_overlaps.proofs.KeyedAccesses.{accesses_keyed}
use Rattle.history_overlaps.proofs.KeysOfCalls.{IsKeyAt, call_at, free_key, key_at, keyed_by, keyed_calls, new_key}

-- the moment and the rank as one number
key_rises : (a b : Key) → IsBefore a b → 3 * a.moment + rank_number a.rank ≤ 3 * b.moment + rank_number b.rank
key_rises a b before =
    let moments = before.moments in
    let small = small_rank a.rank in
    elim (eqb_tells a.moment b.moment) [
      | inl same ↦ (let ranks = before.ranks same.1 in omega (arith, moments, ranks))
      | inr other ↦ (let apart = other.1 in omega (arith, moments, apart, small))
    ]

sorted_by_points : (calls : List Call) (points : List Point) (sorted : List Key) → All (IsKeyOf calls points) sorted
    → IsPermutation (range_with_len 0 (length calls)) (map (λ key. key.number) sorted) → Pairs IsBefore sorted
    → AreSortedByPoints calls points (at_places calls (map (λ key. key.number) sorted))
sorted_by_points calls points sorted own all rise orders are = (
  keyed,
  same,
  record {
    same = subst (λ (some : List Call). IsPermutation some calls) (sym same) (items_permuted calls (map (λ key. key.number) sorted) all);
    rise = all_pairs_from (λ front back. front.key ≤ back.key) keyed
        (pairs_map (keyed_by calls) (λ key. Unit {0}) IsBefore (λ p q. p.key ≤ q.key) sorted (λ a b before _ _. key_rises a b before) rise
        (every_true (λ key. Unit {0}) sorted (λ key. tt)));
    news = all_from (λ p. IsNew p.call.entry.command → p.key ≡ 3 * p.call.end + 2) keyed
        (every_map (keyed_by calls) (λ p. IsNew p.call.entry.command → p.key ≡ 3 * p.call.end + 2) sorted
        (every_weaker (IsKeyAt calls points) (λ key. IsNew (call_at calls key.number).entry.command → (keyed_by calls key).key ≡ 3 * (call_at calls key.number).end + 2) sorted
        (λ key is. new_key calls points orders key are is) each));
    frees = all_from (λ p. IsFree p.call.entry.command → p.key ≡ 3 * p.call.begin) keyed
        (every_map (keyed_by calls) (λ p. IsFree p.call.entry.command → p.key ≡ 3 * p.call.begin) sorted
        (every_weaker (IsKeyAt calls points) (λ key. IsFree (call_at calls key.number).entry.command → (keyed_by calls key).key ≡ 3 * (call_at calls key.number).begin) sorted
        (λ key is. free_key calls points orders key are is) each));
    accesses = accesses_keyed calls points sorted each all rise orders are;
  },
)
  where
    keyed : List Keyed
    keyed = map (keyed_by calls) sorted

    each : Every (IsKeyAt calls points) sorted
    each = every_weaker (IsKeyOf calls points) (IsKeyAt calls points) sorted (λ key is. key_at calls points orders key are is) (every_from (IsKeyOf calls points) sorted own)

    same : calls_of keyed ≡ at_places calls (map (λ key. key.number) sorted)
    same = keyed_calls calls sorted
        ∙ sym (at_within calls (call_at [] 0) (map (λ key. key.number) sorted) (places_within (length calls) (map (λ key. key.number) sorted) all))

-- keys of all calls, sorted
pub order_by_points : (calls : List TimedCall) (points : List Point) (keys sorted : List Key) (order : List ℕ) → map (λ key. key.number) keys ≡ range_with_len 0 (length calls)
    → All (IsKeyOf (map plain_call calls) points) keys → IsPermutation keys sorted → Pairs IsBefore sorted → order ≡ map (λ key. key.number) sorted
    → AreSortedByPoints (map plain_call calls) points (calls_in_order calls order)
order_by_points calls points keys sorted order numbers own permuted rise is =
    let plain = map plain_call calls in
    let every = All-permutation (IsKeyOf plain points) keys sorted permuted own in
    let all = order_sorted (λ (key : Key). key.number) keys sorted (length calls) (map (λ key. key.number) sorted) numbers permuted refl in
    let all' = subst (λ n. IsPermutation (range_with_len 0 n) (map (λ key. key.number) sorted)) (sym (length-map calls plain_call)) all in
    let same = ap (λ ns. calls_in_order calls ns) is ∙ at_places-map plain_call calls (map (λ key. key.number) sorted) in
    subst (λ some. AreSortedByPoints plain points some) (sym same) (sorted_by_points plain points sorted every all' rise)
