-- An order that explains the accesses to an object explains those of them that a slice has.
use Rattle.std.proofs.Common.{◌≡◌, ℕ, ◌+◌, ◌<◌, ◌≤◌, inl, inr, Bool, true, false, ◌&&◌, nat_eq, nat_le, nat_lt, List, [], ◌∷◌, length, map, replicate, get_or, arith, refl, sym, ◌∙◌, ap, subst, Option, Some, None, option_and_then}
use Rattle.std.specs.List.{filter}
use Rattle.std.specs.List.Sorted.{IsPermutation}
use Rattle.std.proofs.lemmas.Bool.{and_parts}
use Rattle.std.proofs.lemmas.Bool.Decides.{nat_tests}
use Rattle.std.proofs.lemmas.List.Sorted.{All-permutation, IsPermutation-map, IsPermutation-sym}
use Rattle.model_memory.specs.Memory.{overwritten}
use Rattle.model_memory.proofs.Objects.{overwritten_length}
use Rattle.model_intervals.specs.Completions.{picked}
use Rattle.model_intervals.specs.Intervals.{Call}
use Rattle.model_intervals.specs.Objects.{ExplainsAccesses, accesses_of, bytes_behind, effect_on, is_access}
use Rattle.model_intervals.specs.OverlappingCalls.{IsAt, IsHistory, cell_at}
use Rattle.model_intervals.proofs.Filtered.{every_filter, every_unfilter, filter_every, pairs_filter}
use Rattle.model_intervals.proofs.Lists.{Every, Pairs, every_both, every_map, every_true, every_weaker, pairs_map, pairs_unmap, tells}
use Rattle.model_intervals.proofs.Places.{all_from, all_pairs_from, every_from, pairs_from}
use Rattle.history_witness.specs.Slices.{IsSlice, begin_before, latest_begin, stores_at}
use Rattle.history_witness.proofs.AccessEffects.{Leaves, Stores, does, unwritten, written_same}
use Rattle.history_witness.proofs.LiftedOrders.{lifted}
use Rattle.history_witness.proofs.PlacedCalls.{Placed, accesses, accesses_are, call_of, calls_are, every_placed, placed_accesses, placed_from, taken_accesses_are}
use Rattle.history_witness.proofs.SeenStores.{Goes, IsOwn, LastTaken, begin_of_no_access, goes_on, latest_within, seen}

-- what a chain of two partial steps did first
opened : {A B : Type 0} (o : Option A) (f : A → Option B) (last : B) → option_and_then f o ≡ Some last → (next : A) × (o ≡ Some next) × (f next ≡ Some last)
opened None f last is = cc is
opened (Some next) f last is = (next, refl, is)

module _ (calls : List Call) (taken : ℕ → Bool) (history : IsHistory calls) (slice : IsSlice calls taken) (cell address : ℕ) where
  -- the bytes behind all calls that are done agree with those behind the ones of them that are taken, where the last
  -- store is taken
  record Alike (done : List Placed) (bytes other : List ℕ) : Type 0 where
    pub long : length bytes ≡ length other
    pub same : (at : ℕ) → LastTaken calls taken cell at done → get_or bytes at 0 ≡ get_or other at 0

  -- ---- one access

  module _ (done : List Placed) (p : Placed) (bytes other next : List ℕ) (own : IsOwn calls taken cell p) (alike : Alike done bytes other) where
    -- a byte that a store doesn't write
    unstored : (s : Stores address p.call.entry.command p.call.entry.reply bytes next) → (at : ℕ) → stores_at cell at p.call.entry.command ≡ false
        → (nat_eq cell cell && nat_le s.off at && nat_lt at (s.off + length s.new)) ≡ false
    unstored s at other = subst (λ (c : ℕ). (nat_eq c c && nat_le s.off at && nat_lt at (s.off + length s.new)) ≡ false) own.1
        (sym (s.at_those at) ∙ subst (λ (c : ℕ). stores_at c at p.call.entry.command ≡ false) (sym own.1) other)

    stored : (s : Stores address p.call.entry.command p.call.entry.reply bytes next) → (at : ℕ) → stores_at cell at p.call.entry.command ≡ true
        → (nat_eq cell cell && nat_le s.off at && nat_lt at (s.off + length s.new)) ≡ true
    stored s at stores = subst (λ (c : ℕ). (nat_eq c c && nat_le s.off at && nat_lt at (s.off + length s.new)) ≡ true) own.1
        (sym (s.at_those at) ∙ subst (λ (c : ℕ). stores_at c at p.call.entry.command ≡ true) (sym own.1) stores)

    -- behind a store that is taken
    store_taken : (s : Stores address p.call.entry.command p.call.entry.reply bytes next) → Alike (p ∷ done) next (overwritten other s.off s.new)
    store_taken s =
        let long = alike.long in
        let fits = s.fits in
        let fits' : s.off + length s.new ≤ length other = omega (arith, fits, long) in record {
          long = ap (λ (l : List ℕ). length l) s.is ∙ overwritten_length bytes s.off s.new fits ∙ long ∙ sym (overwritten_length other s.off s.new fits');
          same = λ at last. ap (λ (l : List ℕ). get_or l at 0) s.is ∙ elim (tells (stores_at cell at p.call.entry.command)) [
            | inl stores ↦ written_same cell cell s.off s.new bytes other at fits long (stored s at stores)
            | inr off ↦ unwritten cell s.off s.new bytes at fits (unstored s at off) ∙ alike.same at (last.1 off)
                ∙ sym (unwritten cell s.off s.new other at fits' (unstored s at off))
          ];
        }

    -- behind one that isn't
    store_left : (s : Stores address p.call.entry.command p.call.entry.reply bytes next) → taken p.place ≡ false → Alike (p ∷ done) next other
    store_left s left =
        let fits = s.fits in record {
          long = ap (λ (l : List ℕ). length l) s.is ∙ overwritten_length bytes s.off s.new fits ∙ alike.long;
          same = λ at last. ap (λ (l : List ℕ). get_or l at 0) s.is ∙ elim (tells (stores_at cell at p.call.entry.command)) [
            | inl stores ↦ absurd (let clash : true ≡ false = sym (last.0 stores) ∙ left in cc clash)
            | inr off ↦ unwritten cell s.off s.new bytes at fits (unstored s at off) ∙ alike.same at (last.1 off)
          ];
        }

    -- behind an access that stores nothing
    bytes_left : Leaves address p.call.entry.command p.call.entry.reply bytes next → Alike (p ∷ done) next other
    bytes_left l = record {
      long = ap (λ (b : List ℕ). length b) l.is ∙ alike.long;
      same = λ at last. ap (λ (b : List ℕ). get_or b at 0) l.is ∙ alike.same at (last.1 (l.no_store cell at));
    }

  -- an access that is taken answers the same without the calls that aren't taken
  answers : (done : List Placed) (p : Placed) (rest : List Placed) (bytes other next : List ℕ) → Goes calls taken cell done (p ∷ rest) → Alike done bytes other
      → effect_on address bytes p.call ≡ Some next → taken p.place ≡ true
      → (next' : List ℕ) × (effect_on address other p.call ≡ Some next') × Alike (p ∷ done) next next'
  answers done p rest bytes other next g alike is on = elim (does address p.call.entry.command p.call.entry.reply bytes next is) [
    | inl s ↦ (overwritten other s.off s.new, s.others other alike.long, store_taken done p bytes other next g.own_rest.0 alike s)
    | inr l ↦ (
      other,
      l.others other alike.long (λ at loads. alike.same at (seen calls taken cell history.take_time slice done p rest g on at (l.no_store cell at) loads)),
      bytes_left done p bytes other next g.own_rest.0 alike l,
    )
  ]

  left_out : (done : List Placed) (p : Placed) (rest : List Placed) (bytes other next : List ℕ) → Goes calls taken cell done (p ∷ rest) → Alike done bytes other
      → effect_on address bytes p.call ≡ Some next → taken p.place ≡ false → Alike (p ∷ done) next other
  left_out done p rest bytes other next g alike is off = elim (does address p.call.entry.command p.call.entry.reply bytes next is) [
    | inl s ↦ store_left done p bytes other next g.own_rest.0 alike s off
    | inr l ↦ bytes_left done p bytes other next g.own_rest.0 alike l
  ]

  -- ---- the rest of an order

  answered : (done rest : List Placed) (bytes other last : List ℕ) → Goes calls taken cell done rest → Alike done bytes other
      → bytes_behind address bytes (map call_of rest) ≡ Some last
      → (last' : List ℕ) × (bytes_behind address other (map call_of (filter (λ (p : Placed). taken p.place) rest)) ≡ Some last')
  answered done [] bytes other last g alike is = (other, refl)
  answered done (p ∷ rest) bytes other last g alike is =
      let first = opened (effect_on address bytes p.call) (λ next. bytes_behind address next (map call_of rest)) last is in
      elim (tells (taken p.place)) [
        | inl on ↦ (
            let here = answers done p rest bytes other first.0 g alike first.1 on in
            let later = answered (p ∷ done) rest first.0 here.0 last (goes_on calls taken cell done p rest g) here.2 first.2 in
            (later.0, rw (on, here.1) later.1))
        | inr off ↦ (
            let here = left_out done p rest bytes other first.0 g alike first.1 off in
            let later = answered (p ∷ done) rest first.0 other last (goes_on calls taken cell done p rest g) here first.2 in
            (later.0, rw off later.1))
      ]

  -- ---- an order of all accesses

  -- each is at its place, and names the cell
  own_accesses : Every (IsOwn calls taken cell) (placed_accesses cell calls)
  own_accesses = every_both (λ (p : Placed). IsAt calls p.place p.call) (λ (p : Placed). accesses cell p.call ≡ true) (IsOwn calls taken cell) (placed_accesses cell calls)
      (λ p at access. (at, names p.call access))
      (every_filter (λ (p : Placed). IsAt calls p.place p.call) (λ (p : Placed). accesses cell p.call) (placed_from 0 calls)
      (every_placed (λ (p : Placed). IsAt calls p.place p.call) 0 calls (λ i at call same is. subst (λ (n : ℕ). IsAt calls n call) (let e : i ≡ at = omega (arith, same) in e) is)))
      (filter_every (λ (p : Placed). accesses cell p.call) (placed_from 0 calls))
    where
      names : (call : Call) → accesses cell call ≡ true → cell_at call ≡ cell
      names call access = (let same : nat_eq (cell_at call) cell ≡ true = (and_parts (is_access call.entry.command) (nat_eq (cell_at call) cell) access).1 in grind (arith, nat_tests, same))

  every_same : (P : Placed → Type 0) (from to : List Placed) → IsPermutation from to → Every P from → Every P to
  every_same P from to same every = every_from P to (All-permutation P from to same (all_from P from every))

  -- what bounds the begins of the accesses bounds the latest begin
  latest_of_all : (at moment m : ℕ) → Every (λ p. begin_before cell at moment p.call ≤ m) (placed_accesses cell calls) → latest_begin cell at moment calls ≤ m
  latest_of_all at moment m every = latest_within cell at moment m calls (subst (λ l. Every (λ call. begin_before cell at moment call ≤ m) l) (calls_are 0 calls)
      (every_map call_of (λ call. begin_before cell at moment call ≤ m) (placed_from 0 calls)
      (every_weaker (λ (p : Placed). accesses cell p.call ≡ true → begin_before cell at moment p.call ≤ m) (λ (p : Placed). begin_before cell at moment p.call ≤ m)
      (placed_from 0 calls) (λ p within. either p.call within)
      (every_unfilter (λ (p : Placed). begin_before cell at moment p.call ≤ m) (λ (p : Placed). accesses cell p.call) (placed_from 0 calls) every))))
    where
      either : (call : Call) → (accesses cell call ≡ true → begin_before cell at moment call ≤ m) → begin_before cell at moment call ≤ m
      either call within = elim (tells (accesses cell call)) [ inl access ↦ within access | inr other ↦ begin_of_no_access cell at moment m call other ]

  goes_first : (order : List Placed) → IsPermutation order (placed_accesses cell calls)
      → Pairs (λ (front back : Placed). back.call.end < front.call.begin → ⊥) order → Goes calls taken cell [] order
  goes_first order same times = record {
    own_done = tt;
    own_rest = every_same (IsOwn calls taken cell) (placed_accesses cell calls) order (IsPermutation-sym order (placed_accesses cell calls) same) own_accesses;
    times_done = tt;
    times_rest = times;
    across = tt;
    latest = λ at moment m none every. latest_of_all at moment m (every_same (λ (p : Placed). begin_before cell at moment p.call ≤ m) order (placed_accesses cell calls) same every);
  }

  -- without the calls that aren't taken, the order explains the accesses of the picked calls
  pub slice_accesses : (len : ℕ) (order : List Call) → ExplainsAccesses calls cell len address order
      → (own : List Call) × ExplainsAccesses (picked taken calls) cell len address own
  slice_accesses len order h =
      let test = λ (p : Placed). taken p.place in
      let placed = placed_accesses cell calls in
      let l = lifted call_of test placed order
      (subst (λ xs. IsPermutation xs order) (sym (accesses_are cell calls)) (IsPermutation-sym order (accesses_of cell calls) h.same)) in
      let times = pairs_unmap call_of (λ front back. back.end < front.begin → ⊥) l.from
      (subst (λ xs. Pairs (λ front back. back.end < front.begin → ⊥) xs) (sym l.maps) (pairs_from (λ front back. back.end < front.begin → ⊥) order h.in_time)) in
      let behind = answered [] l.from (replicate len 0) (replicate len 0) h.last (goes_first l.from l.permuted times) (record { long = refl; same = λ at last. refl })
      (subst (λ xs. bytes_behind address (replicate len 0) xs ≡ Some h.last) (sym l.maps) h.answers) in (
        map call_of (filter test l.from),
        record {
          same = subst (λ xs. IsPermutation (map call_of (filter test l.from)) xs) (taken_accesses_are taken cell calls)
              (IsPermutation-map call_of (filter test l.from) (filter test placed) l.passing);
          in_time = all_pairs_from (λ front back. back.end < front.begin → ⊥) (map call_of (filter test l.from))
              (pairs_map call_of (λ p. Unit {0}) (λ (front back : Placed). back.call.end < front.call.begin → ⊥) (λ front back. back.end < front.begin → ⊥) (filter test l.from)
              (λ front back never a b. never)
              (pairs_filter (λ (front back : Placed). back.call.end < front.call.begin → ⊥) test l.from times)
              (every_true (λ p. Unit {0}) (filter test l.from) (λ p. tt)));
          last = behind.0;
          answers = behind.1;
        },
      )
