-- The stores before a load in an order: the last store of each byte that is loaded is taken.
use Rattle.std.proofs.Common.{◌≡◌, ℕ, ◌<◌, ◌≤◌, inl, inr, Bool, true, false, ◌&&◌, nat_eq, nat_lt, List, [], ◌∷◌, arith, sym, ◌∙◌, subst}
use Rattle.std.specs.List.{All}
use Rattle.std.proofs.lemmas.Bool.{and_parts}
use Rattle.std.proofs.lemmas.Bool.Decides.{leb_tells, nat_tests}
use Rattle.model_words.specs.declared.commands.Command.{Command}
use Rattle.model_words.specs.declared.commands.Command.TheVariants.{Put}
use Rattle.model_intervals.specs.Intervals.{Call}
use Rattle.model_intervals.specs.Objects.{is_access}
use Rattle.model_intervals.specs.OverlappingCalls.{IsAt, cell_at, cell_of}
use Rattle.model_intervals.proofs.Lists.{Every, Pairs, every_weaker, tells}
use Rattle.model_intervals.proofs.Places.{every_at, every_from}
use Rattle.history_witness.specs.Slices.{IsSlice, TakesStoresAt, begin_before, latest_begin, loads_at, stores_at}
use Rattle.history_witness.proofs.PlacedCalls.{Placed, accesses}

-- ---- the latest begin of the stores before a moment

not_less : (a b : ℕ) → (a < b → ⊥) → b ≤ a
not_less a b never = elim (leb_tells b a) [ inl le ↦ le.1 | inr lt ↦ absurd (never lt.1) ]

-- a call that doesn't store the byte has no part in it
begin_of_other : (cell at moment m : ℕ) (call : Call) → stores_at cell at call.entry.command ≡ false → begin_before cell at moment call ≤ m
begin_of_other cell at moment m call other = rw other (omega arith)

-- and neither has one that doesn't end before the moment
begin_of_later : (cell at moment m : ℕ) (call : Call) → (call.end < moment → ⊥) → begin_before cell at moment call ≤ m
begin_of_later cell at moment m call later = elim (tells (stores_at cell at call.entry.command && nat_lt call.end moment)) [
  | inl on ↦ absurd (later (let ends : nat_lt call.end moment ≡ true = (and_parts (stores_at cell at call.entry.command) (nat_lt call.end moment) on).1 in grind (arith, nat_tests, ends)))
  | inr off ↦ rw off (omega arith)
]

begin_within : (cell at moment m : ℕ) (call : Call) → call.begin ≤ m → begin_before cell at moment call ≤ m
begin_within cell at moment m call within = elim (tells (stores_at cell at call.entry.command && nat_lt call.end moment)) [
  | inl on ↦ rw on within
  | inr off ↦ rw off (omega arith)
]

pub latest_within : (cell at moment m : ℕ) (calls : List Call) → Every (λ call. begin_before cell at moment call ≤ m) calls → latest_begin cell at moment calls ≤ m
latest_within cell at moment m [] every = omega arith
latest_within cell at moment m (call ∷ calls) every =
    let first = every.0 in let rest = latest_within cell at moment m calls every.1 in omega (arith, first, rest)

-- a store of a byte is an access to its object
store_is_access : (cell at : ℕ) (command : Command) → stores_at cell at command ≡ true → (is_access command && nat_eq (cell_of command) cell) ≡ true
store_is_access cell at (Put c off bytes) stores = (and_parts _ _ (and_parts _ _ stores).0).0
store_is_access cell at command stores = cc stores

pub begin_of_no_access : (cell at moment m : ℕ) (call : Call) → accesses cell call ≡ false → begin_before cell at moment call ≤ m
begin_of_no_access cell at moment m call other = elim (tells (stores_at cell at call.entry.command)) [
  | inl stores ↦ absurd (let access = store_is_access cell at call.entry.command stores in let clash : true ≡ false = sym access ∙ other in cc clash)
  | inr not ↦ begin_of_other cell at moment m call not
]

-- ---- the last store before a load

module _ (calls : List Call) (taken : ℕ → Bool) (cell : ℕ) where
  -- the last of these calls that stores the byte is taken. The last call is the first of the list
  abbrev pub LastTaken : ℕ → List Placed → Type 0
  LastTaken at [] = Unit {0}
  LastTaken at (p ∷ earlier) = (stores_at cell at p.call.entry.command ≡ true → taken p.place ≡ true)
      × (stores_at cell at p.call.entry.command ≡ false → LastTaken at earlier)

  -- it is, if the stores that a load can return are taken, and the calls are those in front of the load
  last_taken : All (λ call. call.begin ≤ call.end) calls → (at : ℕ) (load : Call) → TakesStoresAt calls taken cell at load → (earlier : List Placed)
      → Every (λ p. IsAt calls p.place p.call) earlier
      → Every (λ p. load.end < p.call.begin → ⊥) earlier
      → Pairs (λ back front. back.call.end < front.call.begin → ⊥) earlier
      → ((m : ℕ) → Every (λ p. begin_before cell at load.begin p.call ≤ m) earlier → latest_begin cell at load.begin calls ≤ m)
      → LastTaken at earlier
  last_taken take_time at load takes [] own before times latest = tt
  last_taken take_time at load takes (p ∷ earlier) own before times latest = (
    λ stores. takes p.place p.call own.0 stores (not_less load.end p.call.begin before.0) (latest p.call.end (
      begin_within cell at load.begin p.call.end p.call (every_at (λ call. call.begin ≤ call.end) calls p.place p.call (every_from _ calls take_time) own.0),
      every_weaker (λ (q : Placed). p.call.end < q.call.begin → ⊥) (λ (q : Placed). begin_before cell at load.begin q.call ≤ p.call.end) earlier
          (λ q never. begin_within cell at load.begin p.call.end q.call (not_less p.call.end q.call.begin never)) times.0,
    )),
    λ other. last_taken take_time at load takes earlier own.1 before.1 times.1 (λ m every. latest m (begin_of_other cell at load.begin m p.call other, every)),
  )

  -- ---- an order, of which some calls are done

  abbrev pub IsOwn : Placed → Type 0
  IsOwn p = IsAt calls p.place p.call × (cell_at p.call ≡ cell)

  -- the calls that are done, the last one first, and the rest are an order of all calls that store bytes of the object
  pub record Goes (done rest : List Placed) : Type 0 where
    pub own_done : Every IsOwn done
    pub own_rest : Every IsOwn rest
    pub times_done : Pairs (λ back front. back.call.end < front.call.begin → ⊥) done
    pub times_rest : Pairs (λ front back. back.call.end < front.call.begin → ⊥) rest
    pub across : Every (λ front. Every (λ back. back.call.end < front.call.begin → ⊥) rest) done
    pub latest : (at moment m : ℕ) → Every (λ p. begin_before cell at moment p.call ≤ m) done → Every (λ p. begin_before cell at moment p.call ≤ m) rest
        → latest_begin cell at moment calls ≤ m

  pub goes_on : (done : List Placed) (p : Placed) (rest : List Placed) → Goes done (p ∷ rest) → Goes (p ∷ done) rest
  goes_on done p rest g = record {
    own_done = (g.own_rest.0, g.own_done);
    own_rest = g.own_rest.1;
    times_done = (
      every_weaker (λ (front : Placed). Every (λ (back : Placed). back.call.end < front.call.begin → ⊥) (p ∷ rest))
          (λ (front : Placed). p.call.end < front.call.begin → ⊥) done (λ front each. each.0) g.across,
      g.times_done,
    );
    times_rest = g.times_rest.1;
    across = (
      g.times_rest.0,
      every_weaker (λ (front : Placed). Every (λ (back : Placed). back.call.end < front.call.begin → ⊥) (p ∷ rest))
          (λ (front : Placed). Every (λ (back : Placed). back.call.end < front.call.begin → ⊥) rest) done (λ front each. each.1) g.across,
    );
    latest = λ at moment m in_done in_rest. g.latest at moment m in_done.1 (in_done.0, in_rest);
  }

  -- the last store of a byte that the next call loads is taken, if the call is
  pub seen : All (λ call. call.begin ≤ call.end) calls → IsSlice calls taken → (done : List Placed) (p : Placed) (rest : List Placed) → Goes done (p ∷ rest)
      → taken p.place ≡ true → (at : ℕ) → stores_at cell at p.call.entry.command ≡ false → loads_at (cell_at p.call) at p.call.entry.command ≡ true → LastTaken at done
  seen take_time slice done p rest g on at no_store loads =
      let own = g.own_rest.0 in
      let takes = subst (λ (c : ℕ). TakesStoresAt calls taken c at p.call) own.1 ((slice p.place p.call own.0 on).1 at loads) in
      last_taken take_time at p.call takes done
      (every_weaker IsOwn (λ (q : Placed). IsAt calls q.place q.call) done (λ q o. o.0) g.own_done)
      (every_weaker (λ (front : Placed). Every (λ (back : Placed). back.call.end < front.call.begin → ⊥) (p ∷ rest))
      (λ (front : Placed). p.call.end < front.call.begin → ⊥) done (λ front each. each.0) g.across)
      g.times_done
      (λ m every. g.latest at p.call.begin m every (
        begin_of_other cell at p.call.begin m p.call no_store,
        every_weaker (λ (q : Placed). q.call.end < p.call.begin → ⊥) (λ (q : Placed). begin_before cell at p.call.begin q.call ≤ m) rest
            (λ q never. begin_of_later cell at p.call.begin m q.call never) g.times_rest.0,
      ))
