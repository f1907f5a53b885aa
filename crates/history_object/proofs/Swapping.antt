-- Accesses that read, and accesses that may swap.
use Rattle.std.proofs.Common.{◌≡◌, ℕ, ◌+◌, ◌≤◌, suc, Bool, true, false, List, Option, Some, None, if◌then◌else◌, length, refl, sym, ap, ◌∙◌, arith, inl, inr}
use Rattle.std.proofs.lemmas.Bool.Decides.{leb_tells}
use Rattle.model_intervals.specs.Objects.{ends_past}
use Rattle.history_object.specs.declared.access.Access.TheVariants.{Store, Load, Nothing, Elsewhere}
use Rattle.history_object.specs.ObjectBytes.{State, answers, bytes_of, conflict, effect, meet, reads}
use Rattle.history_object.specs.Parts.{OthersMaySwap}
use Rattle.history_object.specs.Reads.{AreReads}
use Rattle.history_object.proofs.Apart.{AreApart, after_store, answers_stay, end_stays, stores_swap}
use Rattle.history_object.proofs.Offsets.{bytes_of-length}

-- the state where a test passes
where_right : (right : Bool) (s : State) → right ≡ true → (if right then Some s else None) ≡ Some s
where_right true s is = refl
where_right false s is = let never : ⊥ = cc (is) in absurd never

-- the state where a test fails
where_wrong : (wrong : Bool) (s : State) → wrong ≡ false → (if wrong then None else Some s) ≡ Some s
where_wrong true s is = let never : ⊥ = cc (is) in absurd never
where_wrong false s is = refl

-- if there is a state where a test passes, the test passed
was_right : (right : Bool) (s t : State) → (if right then Some s else None) ≡ Some t → (right ≡ true) × (s ≡ t)
was_right true s t is = let same : s ≡ t = cc (is) in (refl, same)
was_right false s t is = let never : ⊥ = cc (is) in absurd never

-- if there is a state where a test fails, the test failed
was_wrong : (wrong : Bool) (s t : State) → (if wrong then None else Some s) ≡ Some t → (wrong ≡ false) × (s ≡ t)
was_wrong true s t is = let never : ⊥ = cc (is) in absurd never
was_wrong false s t is = let same : s ≡ t = cc (is) in (refl, same)

-- the effect of a store of bytes
abbrev store_effect : State → ℕ → List ℕ → Option State
store_effect s off new = if ends_past (bytes_of s) off (length new) then None else Some (after_store s off new)

-- the effect of a load that returned bytes
abbrev load_effect : State → ℕ → ℕ → List ℕ → Option State
load_effect s off len answered = if answers s off len answered then Some s else None

-- a load leaves every state as it is
load_reads : (off len : ℕ) (answered : List ℕ) (s t : State) → load_effect s off len answered ≡ Some t → t ≡ s
load_reads off len answered s t is = sym (was_right (answers s off len answered) s t is).1

-- where the test passes, an access can have its effect, and it only reads
pub accesses_read : AreReads effect reads
accesses_read s (Store off new) is = let never : ⊥ = cc (is) in absurd never
accesses_read s (Load off len answered) is =
    (where_right (answers s off len answered.items) s is, λ r t e. load_reads off len answered.items r t e)
accesses_read s Nothing is = (refl, λ r t e. let same : t ≡ r = cc (e) in same)
accesses_read s (Elsewhere address) is = let never : ⊥ = cc (is) in absurd never

-- a range that doesn't end past the bytes is within them
within : (s : State) (off len : ℕ) → ends_past (bytes_of s) off len ≡ false → off + len ≤ s.len
within s off len is = elim (leb_tells (suc (length (bytes_of s))) (off + len)) [
  | inl past ↦ (let both : false ≡ true = sym is ∙ past.0 in let never : ⊥ = cc (both) in absurd never)
  | inr fits ↦ (let w = fits.1 in let l = bytes_of-length s in omega (arith, w, l))
]

-- ranges that don't meet have no byte in common
apart_where_none_meet : (off len off' len' : ℕ) → meet off len off' len' ≡ false → AreApart off len off' len'
apart_where_none_meet off len off' len' is = elim (leb_tells (suc off) (off' + len')) [
  | inl begins ↦ elim (leb_tells (suc off') (off + len)) [
    | inl begins' ↦ (
        let met : meet off len off' len' ≡ true = rw (begins.0, begins'.0) refl in
        let both : false ≡ true = sym is ∙ met in let never : ⊥ = cc (both) in absurd never)
    | inr before ↦ (let b = before.1 in inl (omega (arith, b)))
  ]
  | inr behind ↦ (let b = behind.1 in inr (omega (arith, b)))
]

-- which of two ranges is named first doesn't matter
turned : (off len off' len' : ℕ) → AreApart off len off' len' → AreApart off' len' off len
turned off len off' len' (inl before) = inr before
turned off len off' len' (inr behind) = inl behind

-- two stores
two_stores : (s t u : State) (off : ℕ) (new : List ℕ) (off' : ℕ) (new' : List ℕ) → AreApart off (length new) off' (length new')
    → store_effect s off new ≡ Some t → store_effect t off' new' ≡ Some u
    → (v : State) × (store_effect s off' new' ≡ Some v) × (store_effect v off new ≡ Some u)
two_stores s t u off new off' new' apart first second =
    let v : State = after_store s off' new' in
    let one = was_wrong (ends_past (bytes_of s) off (length new)) (after_store s off new) t first in
    let two = was_wrong (ends_past (bytes_of t) off' (length new')) (after_store t off' new') u second in
    let room : ends_past (bytes_of s) off' (length new') ≡ false =
    sym (end_stays s off new off' (length new')) ∙ ap (λ (r : State). ends_past (bytes_of r) off' (length new')) one.1 ∙ two.0 in
    let room' : ends_past (bytes_of v) off (length new) ≡ false = end_stays s off' new' off (length new) ∙ one.0 in
    let same : after_store v off new ≡ u =
    sym (stores_swap s off new off' new' apart) ∙ ap (λ (r : State). after_store r off' new') one.1 ∙ two.1 in (
      v,
      where_wrong (ends_past (bytes_of s) off' (length new')) v room,
      where_wrong (ends_past (bytes_of v) off (length new)) (after_store v off new) room' ∙ ap (λ (r : State). Some r) same,
    )

-- a store and then a load
store_and_load : (s t u : State) (off : ℕ) (new : List ℕ) (from len : ℕ) (answered : List ℕ) → AreApart off (length new) from (length answered)
    → store_effect s off new ≡ Some t → load_effect t from len answered ≡ Some u
    → (v : State) × (load_effect s from len answered ≡ Some v) × (store_effect v off new ≡ Some u)
store_and_load s t u off new from len answered apart first second =
    let one = was_wrong (ends_past (bytes_of s) off (length new)) (after_store s off new) t first in
    let two = was_right (answers t from len answered) t u second in
    let right : answers s from len answered ≡ true =
    sym (answers_stay s off new from len answered (within s off (length new) one.0) apart)
    ∙ ap (λ (r : State). answers r from len answered) one.1 ∙ two.0 in
    (s, where_right (answers s from len answered) s right, first ∙ ap (λ (r : State). Some r) two.1)

-- a load and then a store
load_and_store : (s t u : State) (from len : ℕ) (answered : List ℕ) (off : ℕ) (new : List ℕ) → AreApart off (length new) from (length answered)
    → load_effect s from len answered ≡ Some t → store_effect t off new ≡ Some u
    → (v : State) × (store_effect s off new ≡ Some v) × (load_effect v from len answered ≡ Some u)
load_and_store s t u from len answered off new apart first second =
    let one = was_right (answers s from len answered) s t first in
    let two = was_wrong (ends_past (bytes_of t) off (length new)) (after_store t off new) u second in
    let right : answers u from len answered ≡ true =
    ap (λ (r : State). answers r from len answered) (sym two.1)
    ∙ answers_stay t off new from len answered (within t off (length new) two.0) apart
    ∙ ap (λ (r : State). answers r from len answered) (sym one.1) ∙ one.0 in
    (u, ap (λ (r : State). store_effect r off new) one.1 ∙ second, where_right (answers u from len answered) u right)

-- two loads
two_loads : (s t u : State) (off len : ℕ) (answered : List ℕ) (off' len' : ℕ) (answered' : List ℕ)
    → load_effect s off len answered ≡ Some t → load_effect t off' len' answered' ≡ Some u
    → (v : State) × (load_effect s off' len' answered' ≡ Some v) × (load_effect v off len answered ≡ Some u)
two_loads s t u off len answered off' len' answered' first second =
    let one = was_right (answers s off len answered) s t first in
    let two = was_right (answers t off' len' answered') t u second in
    let right : answers s off' len' answered' ≡ true = ap (λ (r : State). answers r off' len' answered') one.1 ∙ two.0 in
    (s, where_right (answers s off' len' answered') s right, first ∙ ap (λ (r : State). Some r) two.1)

-- accesses that don't conflict may swap
pub accesses_swap : OthersMaySwap effect conflict
accesses_swap Nothing b none s t u first second =
    let same : s ≡ t = cc (first) in (u, ap (λ (r : State). effect r b) same ∙ second, refl)
accesses_swap (Elsewhere address) b none s t u first second = let never : ⊥ = cc (first) in absurd never
accesses_swap a Nothing none s t u first second =
    let same : t ≡ u = cc (second) in (s, refl, first ∙ ap (λ (r : State). Some r) same)
accesses_swap a (Elsewhere address) none s t u first second = let never : ⊥ = cc (second) in absurd never
accesses_swap (Store off new) (Store off' new') none s t u first second =
    let apart = apart_where_none_meet off (length new.items) off' (length new'.items) none in
    two_stores s t u off new.items off' new'.items apart first second
accesses_swap (Store off new) (Load from len answered) none s t u first second =
    let apart = apart_where_none_meet off (length new.items) from (length answered.items) none in
    store_and_load s t u off new.items from len answered.items apart first second
accesses_swap (Load from len answered) (Store off new) none s t u first second =
    let apart = apart_where_none_meet from (length answered.items) off (length new.items) none in
    load_and_store s t u from len answered.items off new.items (turned from (length answered.items) off (length new.items) apart) first second
accesses_swap (Load off len answered) (Load off' len' answered') none s t u first second =
    two_loads s t u off len answered.items off' len' answered'.items first second
