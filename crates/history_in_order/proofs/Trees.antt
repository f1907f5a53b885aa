-- What the trees stand for, and for what they stand behind a command.
use Rattle.std.proofs.Common.{◌≡◌, ◌≢◌, ◌↔◌, ◌⊎◌, ℕ, zero, suc, ◌+◌, ◌^◌, ◌<◌, ◌≤◌, Bool, true, false, ◌||◌, nat_eq, eq-eqb, List, [], ◌∷◌, ◌++◌, length, replicate, slice_get, slice_index_or, slice_set, ap, subst, refl, sym, ◌∙◌, arith, inl, inr, Option, Some, None, Ok, Err}
use Rattle.std.proofs.lemmas.Bool.{true≢false}
use Rattle.std.proofs.lemmas.Bool.Decides.{eqb_tells, leb_tells}
use Rattle.std.proofs.lemmas.Grind.{get_or-set_at}
use Rattle.std.proofs.lemmas.List.{get_or-set_other, get_or_append_left, get_or_past, get_or_push, length-replicate, length-set, length_push}
use Rattle.std.proofs.lemmas.List.Folds.{list_any-append}
use Rattle.std.specs.Ordering.{nat_cmp}
use Rattle.std.specs.BTreeMap.{BTreeMap, Updates, get}
use Rattle.model_memory.specs.Memory.{Memory, Object, has_address, holder_of, next_serial, object_of, overwritten, root_of, with_object, with_root}
use Rattle.model_memory.specs.Plain.{IsVacantRange, holding, made}
use Rattle.model_history.specs.Recorded.{Recorded, any_allocator, many_cells, nothing_recorded, was_given}
use Rattle.model_words.specs.declared.refusals.Refusal.TheVariants.{Stray}
use Rattle.history_number_set.specs.Ranges.{Has}
use Rattle.history_in_order.specs.Cells.{CellTable, IsFreed, IsFreedAt, IsNew, IsPointed, number_at}
use Rattle.history_in_order.specs.Objects.{LiveObject, object_in, serial_in, with_bytes}
use Rattle.history_in_order.specs.Stands.{IsNearest, IsOverlapped, IsSetAt, StandsFor, addresses_from, with_memory}
use Rattle.history_in_order.specs.declared.reasons.Overlap.{Overlap}
use Rattle.history_in_order.proofs.Commands.{overwritten_length}
use Rattle.history_in_order.proofs.Ranges.{has_same, has_within, lacks, no_holder, one_holder, other_key, within_has}

-- an object that is there has a number below how many were made
object_below : (m : Memory) (n : ℕ) (o : Object) → object_of m n ≡ Some o → n < next_serial m
object_below m n o at = elim (leb_tells (suc n) (length m.objects)) [
  | inl inside ↦ (let i = inside.1 in omega (arith, i))
  | inr past ↦ let none = get_or_past m.objects n None (let p = past.1 in omega (arith, p)) in absurd (cc (at, none))
]

-- one object set
set_object : (objects : List (Option Object)) (f f' : ℕ → Option Object) (n : ℕ) (v : Option Object) → n < length objects
    → ((q : ℕ) → slice_index_or objects q None ≡ f q) → IsSetAt f f' n v → (q : ℕ) → slice_index_or (slice_set objects n v) q None ≡ f' q
set_object objects f f' n v below is set q = elim (eqb_tells q n) [
  | inl same ↦ get_or-set_at objects n q v None same.1 below ∙ sym (ap f' same.1 ∙ set.0)
  | inr other ↦ get_or-set_other objects n q v None other.1 ∙ is q ∙ sym (set.1 q other.1)
]

-- what starts where another object does
start_there : (s : ℕ → Option ℕ) (x y : Object) (q : ℕ) → y.address ≡ x.address → s y.address ≡ Some q → s x.address ≡ Some q
start_there s x y q same is = ap s (sym same) ∙ is

-- a live object has another number than one that is no longer live
other_live : (f : ℕ → Option Object) (q n : ℕ) (o : Object) → f q ≡ None → f n ≡ Some o → q ≢ n
other_live f q n o none at same = let both : None ≡ Some o = sym none ∙ ap f same ∙ at in cc both

-- a cell of 32 bits is one of the cells
one_of_many : (roots : List (Option ℕ)) (cell : ℕ) → length roots ≡ many_cells → cell < 4294967296 → cell < length roots
unfolding many_cells
one_of_many roots cell cells small = omega (arith, cells, small)

-- a serial was given before, or is the last one
given_by : (serials : List ℕ) (serial q : ℕ) → was_given (serials ++ serial ∷ []) q ≡ (was_given serials q || (nat_eq serial q || false))
given_by serials serial q = list_any-append (λ other. nat_eq other q) serials (serial ∷ [])

given_last : (serials : List ℕ) (serial q : ℕ) → q ≡ serial → was_given (serials ++ serial ∷ []) q ≡ true
given_last serials serial q same = given_by serials serial q ∙ last_of (was_given serials q) (nat_eq serial q) (eq-eqb serial q (sym same))
  where
    last_of : (a b : Bool) → b ≡ true → (a || (b || false)) ≡ true
    last_of true b h = refl
    last_of false true h = refl
    last_of false false h = h

given_more : (serials : List ℕ) (serial q : ℕ) → was_given serials q ≡ true → was_given (serials ++ serial ∷ []) q ≡ true
given_more serials serial q is = given_by serials serial q ∙ ap (λ (b : Bool). b || (nat_eq serial q || false)) is

given_one : (serials : List ℕ) (serial q : ℕ) → was_given (serials ++ serial ∷ []) q ≡ true → (q ≡ serial) ⊎ (was_given serials q ≡ true)
given_one serials serial q is = elim (eqb_tells serial q) [
  | inl same ↦ inl (sym same.1)
  | inr other ↦ inr (first_of_two (was_given serials q) (nat_eq serial q) other.0 (sym (given_by serials serial q) ∙ is))
]
  where
    first_of_two : (a b : Bool) → b ≡ false → (a || (b || false)) ≡ true → a ≡ true
    first_of_two true b h both = refl
    first_of_two false true h both = sym h
    first_of_two false false h both = both

-- the last of a list, and those before it
pub slice_get_push : {A : Type 0} (xs : List A) (x : A) (q : ℕ) → length xs ≡ q → slice_get (xs ++ x ∷ []) q ≡ Some x
slice_get_push [] x zero is = refl
slice_get_push [] x (suc q) is = absurd (cc is)
slice_get_push (y ∷ xs) x zero is = absurd (cc is)
slice_get_push (y ∷ xs) x (suc q) is = slice_get_push xs x q (omega (arith, is))

pub slice_get_more : {A : Type 0} (xs ys : List A) (q : ℕ) (x : A) → slice_get xs q ≡ Some x → slice_get (xs ++ ys) q ≡ Some x
slice_get_more [] ys q x is = absurd (cc is)
slice_get_more (y ∷ xs) ys zero x is = is
slice_get_more (y ∷ xs) ys (suc q) x is = slice_get_more xs ys q x is

module _ (s : ℕ → Option ℕ) (given : List (ℕ × ℕ)) (count : ℕ) (r : Recorded) where
  -- an object's bytes are others, as many as before
  pub stored_stands : (table : CellTable) (f f' : ℕ → Option Object) (h h' : ℕ → Option ℕ) (n : ℕ) (o p : Object) → StandsFor f h s table given count r → f n ≡ Some o
      → IsSetAt f f' n (Some p) → ((q : ℕ) → h' q ≡ h q) → p.address ≡ o.address → length p.bytes ≡ length o.bytes
      → StandsFor f' h' s table given count (with_memory r (with_object r.memory n (Some p)))
  stored_stands table f f' h h' n o p st at set same_serials address len = record {
    count = length-set r.memory.objects n (Some p) ∙ st.count;
    object = set_object r.memory.objects f f' n (Some p) (object_below r.memory n o (st.object n ∙ at)) st.object set;
    cells = st.cells;
    root = st.root;
    freed = λ cell is.
        let was = st.freed cell is in
        (was.0, was.1, was.2, set.1 was.0 (other_live f was.0 n o was.3 at) ∙ was.3);
    empty = st.empty;
    serials = st.serials;
    each = st.each;
    given = λ q x is. st.given q x (sym (same_serials q) ∙ is);
    started = λ q x h. let was = before q x h in start_there s x was.0 q was.2 (st.started q was.0 was.1);
    starts_of = λ a q h. let was = st.starts_of a q h in elim (eqb_tells q n) [
      | inl same ↦
          let is : was.0 ≡ o = cc (sym was.1 ∙ ap f same.1 ∙ at) in
          (p, ap f' same.1 ∙ set.0, address ∙ ap (λ (x : Object). x.address) (sym is) ∙ was.2)
      | inr other ↦ (was.0, set.1 q other.1 ∙ was.1, was.2)
    ];
    filled = λ q x h. let was = before q x h in let some = st.filled q was.0 was.1 in let same = was.3 in omega (arith, some, same);
    ends = λ q x h. let was = before q x h in let end = st.ends q was.0 was.1 in let at = was.2 in let same = was.3 in omega (arith, end, at, same);
    apart = λ q k x y hq hk z hx hy.
        let wasx = before q x hq in let wasy = before k y hk in
        st.apart q k wasx.0 wasy.0 wasx.1 wasy.1 z (has_same x wasx.0 z wasx.2 wasx.3 ∙ hx) (has_same y wasy.0 z wasy.2 wasy.3 ∙ hy);
  }
    where
      before : (q : ℕ) (x : Object) → f' q ≡ Some x → (y : Object) × (f q ≡ Some y) × (y.address ≡ x.address) × (length y.bytes ≡ length x.bytes)
      before q x h = elim (eqb_tells q n) [
        | inl same ↦
            let is : p ≡ x = cc (sym set.0 ∙ ap f' (sym same.1) ∙ h) in
            (o, ap f same.1 ∙ at, sym address ∙ ap (λ (y : Object). y.address) is, sym len ∙ ap (λ (y : Object). length y.bytes) is)
        | inr other ↦ (x, sym (set.1 q other.1) ∙ h, refl, refl)
      ]

  -- an object is no more, and a cell that held its number is kept as one of a freed object
  pub freed_stands : (table table' : CellTable) (f f' : ℕ → Option Object) (h h' s' : ℕ → Option ℕ) (cell n : ℕ) (o : Object) → StandsFor f h s table given count r
      → f n ≡ Some o → number_at table cell ≡ Some n → IsSetAt f f' n None → IsSetAt h h' n None → IsSetAt s s' o.address None → IsFreedAt table table' cell
      → StandsFor f' h' s' table' given count (with_memory r (with_object r.memory n None))
  freed_stands table table' f f' h h' s' cell n o st at holds set set_serials unset freed = record {
    count = length-set r.memory.objects n None ∙ st.count;
    object = set_object r.memory.objects f f' n None (object_below r.memory n o (st.object n ∙ at)) st.object set;
    cells = st.cells;
    root = λ q k is. elim (eqb_tells q cell) [
      | inl same ↦ let none : None ≡ Some k = sym freed.here ∙ ap (number_at table') (sym same.1) ∙ is in absurd (cc none)
      | inr other ↦ st.root q k (sym (freed.others q other.1) ∙ is)
    ];
    freed = λ q is. elim ((freed.freed q).0 is) [
      | inl same ↦ (n, (let below = object_below r.memory n o (st.object n ∙ at) in let c = st.count in omega (arith, below, c)), ap (root_of r.memory) same ∙ st.root cell n holds, set.0)
      | inr was ↦
          let old = st.freed q was in
          (old.0, old.1, old.2, set.1 old.0 (other_live f old.0 n o old.3 at) ∙ old.3)
    ];
    empty = λ q none left. elim (eqb_tells q cell) [
      | inl same ↦ absurd (left ((freed.freed q).1 (inl same.1)))
      | inr other ↦ st.empty q (sym (freed.others q other.1) ∙ none) (λ was. left ((freed.freed q).1 (inr was)))
    ];
    serials = st.serials;
    each = st.each;
    given = λ q x is. elim (eqb_tells q n) [
      | inl same ↦ let none : None ≡ Some x = sym set_serials.0 ∙ ap h' (sym same.1) ∙ is in absurd (cc none)
      | inr other ↦ st.given q x (sym (set_serials.1 q other.1) ∙ is)
    ];
    started = λ q x h.
        let was = before q x h in
        let there = st.started q x was.1 in
        unset.1 x.address (λ same.
        let is : q ≡ n = cc (sym there ∙ ap s same ∙ st.started n o at) in was.0 is) ∙ there;
    starts_of = λ a q h. elim (eqb_tells a o.address) [
      | inl same ↦ let none : None ≡ Some q = sym unset.0 ∙ ap s' (sym same.1) ∙ h in absurd (cc none)
      | inr other ↦
          let was = st.starts_of a q (sym (unset.1 a other.1) ∙ h) in (
            was.0,
            set.1 q (λ same.
                let is : was.0 ≡ o = cc (sym was.1 ∙ ap f same ∙ at) in
                other.1 (sym was.2 ∙ ap (λ (x : Object). x.address) is)) ∙ was.1,
            was.2,
          )
    ];
    filled = λ q x h. st.filled q x (before q x h).1;
    ends = λ q x h. st.ends q x (before q x h).1;
    apart = λ q k x y hq hk z hx hy. st.apart q k x y (before q x hq).1 (before k y hk).1 z hx hy;
  }
    where
      before : (q : ℕ) (x : Object) → f' q ≡ Some x → (q ≢ n) × (f q ≡ Some x)
      before q x h = elim (eqb_tells q n) [
        | inl same ↦ let none : None ≡ Some x = sym set.0 ∙ ap f' (sym same.1) ∙ h in absurd (cc none)
        | inr other ↦ (other.1, sym (set.1 q other.1) ∙ h)
      ]

  -- what cells hold after one holds another number
  pointed_roots : (table table' : CellTable) (cell n q k : ℕ) → length r.memory.roots ≡ many_cells → cell < 4294967296 → IsPointed table table' cell n
      → ((k : ℕ) → number_at table q ≡ Some k → root_of r.memory q ≡ Some k) → number_at table' q ≡ Some k → root_of (with_root r.memory cell n) q ≡ Some k
  pointed_roots table table' cell n q k cells small pointed old is = elim (eqb_tells q cell) [
    | inl same ↦ get_or-set_at r.memory.roots cell q (Some n) None same.1 (one_of_many r.memory.roots cell cells small) ∙ sym pointed.here ∙ ap (number_at table') (sym same.1) ∙ is
    | inr other ↦ get_or-set_other r.memory.roots cell q (Some n) None other.1 ∙ old k (sym (pointed.others q other.1) ∙ is)
  ]

  pointed_empty : (table table' : CellTable) (cell n q : ℕ) → IsPointed table table' cell n
      → (number_at table q ≡ None → (IsFreed table q → ⊥) → root_of r.memory q ≡ None) → number_at table' q ≡ None → (IsFreed table' q → ⊥)
      → root_of (with_root r.memory cell n) q ≡ None
  pointed_empty table table' cell n q pointed old none left = elim (eqb_tells q cell) [
    | inl same ↦ let both : Some n ≡ None = sym pointed.here ∙ ap (number_at table') (sym same.1) ∙ none in absurd (cc both)
    | inr other ↦
        get_or-set_other r.memory.roots cell q (Some n) None other.1
        ∙ old (sym (pointed.others q other.1) ∙ none) (λ was. left ((pointed.freed q).1 (was, other.1)))
  ]

  -- a cell holds another number
  pub pointed_stands : (table table' : CellTable) (f : ℕ → Option Object) (h : ℕ → Option ℕ) (cell n : ℕ) → StandsFor f h s table given count r → cell < 4294967296
      → IsPointed table table' cell n → StandsFor f h s table' given count (with_memory r (with_root r.memory cell n))
  pointed_stands table table' f h cell n st small pointed = record {
    count = st.count;
    object = st.object;
    cells = length-set r.memory.roots cell (Some n) ∙ st.cells;
    root = λ q k. pointed_roots table table' cell n q k st.cells small pointed (st.root q);
    freed = λ q is.
        let both = (pointed.freed q).0 is in
        let was = st.freed q both.0 in (was.0, was.1, get_or-set_other r.memory.roots cell q (Some n) None both.1 ∙ was.2, was.3);
    empty = λ q. pointed_empty table table' cell n q pointed (st.empty q);
    serials = st.serials;
    each = st.each;
    given = st.given;
    started = st.started;
    starts_of = st.starts_of;
    filled = st.filled;
    ends = st.ends;
    apart = st.apart;
  }

  -- an object is made, and a cell names it
  pub made_stands : (table table' : CellTable) (f f' : ℕ → Option Object) (h h' s' : ℕ → Option ℕ) (given' : List (ℕ × ℕ)) (cell len address serial : ℕ)
      → StandsFor f h s table given count r → cell < 4294967296 → 1 ≤ len → address + len < 2 ^ 64 → IsVacantRange r.memory address len
      → IsSetAt f f' count (Some (record { address = address; bytes = replicate len 0 })) → IsSetAt h h' count (Some serial) → IsSetAt s s' address (Some count)
      → IsPointed table table' cell count → ((q : ℕ) → Has given' q ↔ ((q ≡ serial) ⊎ Has given q))
      → StandsFor f' h' s' table' given' (count + 1) (record { memory = made r.memory cell len address; serials = r.serials ++ serial ∷ [] })
  made_stands table table' f f' h h' s' given' cell len address serial st small some small_end vacant set set_serials started pointed more = record {
    count = length_push r.memory.objects (Some new) ∙ ap (λ (n : ℕ). n + 1) st.count;
    object = object_there;
    cells = length-set r.memory.roots cell (Some (next_serial r.memory)) ∙ st.cells;
    root = λ q k. pointed_roots table table' cell (next_serial r.memory) q k st.cells small pointed' (st.root q);
    freed = λ q is.
        let both = (pointed.freed q).0 is in
        let was = st.freed q both.0 in (
          was.0,
          (let below = was.1 in omega (arith, below)),
          get_or-set_other r.memory.roots cell q (Some (next_serial r.memory)) None both.1 ∙ was.2,
          set.1 was.0 (λ same. let below = was.1 in omega (arith, below, same)) ∙ was.3,
        );
    empty = λ q. pointed_empty table table' cell (next_serial r.memory) q pointed' (st.empty q);
    serials = serials_there;
    each = length_push r.serials serial ∙ ap (λ (n : ℕ). n + 1) st.each;
    given = λ q x is. elim (eqb_tells q count) [
      | inl same ↦
          let this : serial ≡ x = cc (sym set_serials.0 ∙ ap h' (sym same.1) ∙ is) in
          slice_get_push r.serials serial q (st.each ∙ sym same.1) ∙ ap (λ (n : ℕ). Some n) this
      | inr other ↦ slice_get_more r.serials (serial ∷ []) q x (st.given q x (sym (set_serials.1 q other.1) ∙ is))
    ];
    started = λ q x h. elim (eqb_tells q count) [
      | inl same ↦
          ap s' (ap (λ (y : Object). y.address) (sym (new_is q x same.1 h))) ∙ started.0 ∙ ap (λ (n : ℕ). Some n) (sym same.1)
      | inr other ↦
          let was = old_is q x other.1 h in
          started.1 x.address (λ same. let has = within_has x address (omega (arith, same)) (let b = st.filled q x was in omega (arith, same, b)) in
          true≢false (sym has ∙ apart_of_new q x was address (omega arith) (omega (arith, some)))) ∙ st.started q x was
    ];
    starts_of = λ a q h. elim (eqb_tells a address) [
      | inl same ↦
          let is : count ≡ q = cc (sym started.0 ∙ ap s' (sym same.1) ∙ h) in (new, ap f' (sym is) ∙ set.0, sym same.1)
      | inr other ↦
          let was = st.starts_of a q (sym (started.1 a other.1) ∙ h) in
          (was.0, set.1 q (λ same. let below = old_below q was.0 was.1 in omega (arith, below, same)) ∙ was.1, was.2)
    ];
    filled = λ q x h. elim (eqb_tells q count) [
      | inl same ↦
          let is = new_is q x same.1 h in
          let l : length x.bytes ≡ len = ap (λ (y : Object). length y.bytes) (sym is) ∙ length-replicate {A = ℕ} len 0 in omega (arith, l, some)
      | inr other ↦ st.filled q x (old_is q x other.1 h)
    ];
    ends = λ q x h. elim (eqb_tells q count) [
      | inl same ↦
          let is = new_is q x same.1 h in
          let l : length x.bytes ≡ len = ap (λ (y : Object). length y.bytes) (sym is) ∙ length-replicate {A = ℕ} len 0 in
          let at : address ≡ x.address = ap (λ (y : Object). y.address) is in omega (arith, l, at, small_end)
      | inr other ↦ st.ends q x (old_is q x other.1 h)
    ];
    apart = λ q k x y hq hk z hx hy. elim (eqb_tells q count) [
      | inl same ↦ elim (eqb_tells k count) [
        | inl same' ↦ same.1 ∙ sym same'.1
        | inr other' ↦ absurd (meets k y (old_is k y other'.1 hk) z (subst (λ (o : Object). has_address o z ≡ true) (sym (new_is q x same.1 hq)) hx) hy)
      ]
      | inr other ↦ elim (eqb_tells k count) [
        | inl same' ↦ absurd (meets q x (old_is q x other.1 hq) z (subst (λ (o : Object). has_address o z ≡ true) (sym (new_is k y same'.1 hk)) hy) hx)
        | inr other' ↦ st.apart q k x y (old_is q x other.1 hq) (old_is k y other'.1 hk) z hx hy
      ]
    ];
  }
    where
      new : Object
      new = record { address = address; bytes = replicate len 0 }

      pointed' : IsPointed table table' cell (next_serial r.memory)
      pointed' = record { here = pointed.here ∙ ap (λ (n : ℕ). Some n) (sym st.count); others = pointed.others; freed = pointed.freed }

      serials_there : (q : ℕ) → Has given' q ↔ (was_given (r.serials ++ serial ∷ []) q ≡ true)
      serials_there q = (
        (λ has. elim ((more q).0 has) [ inl same ↦ given_last r.serials serial q same | inr was ↦ given_more r.serials serial q ((st.serials q).0 was) ]),
        (λ is. elim (given_one r.serials serial q is) [ inl same ↦ (more q).1 (inl same) | inr was ↦ (more q).1 (inr ((st.serials q).1 was)) ]),
      )

      new_is : (q : ℕ) (x : Object) → q ≡ count → f' q ≡ Some x → new ≡ x
      new_is q x same h = let at : Some new ≡ Some x = sym set.0 ∙ ap f' (sym same) ∙ h in cc at

      old_is : (q : ℕ) (x : Object) → q ≢ count → f' q ≡ Some x → f q ≡ Some x
      old_is q x other h = sym (set.1 q other) ∙ h

      old_below : (q : ℕ) (x : Object) → f q ≡ Some x → q < count
      old_below q x h = let below = object_below r.memory q x (st.object q ∙ h) in let n = st.count in omega (arith, below, n)

      apart_of_new : (q : ℕ) (x : Object) → f q ≡ Some x → (z : ℕ) → address ≤ z → z < address + len → has_address x z ≡ false
      apart_of_new q x h z from to = vacant q z x (st.object q ∙ h) from to

      meets : (q : ℕ) (x : Object) → f q ≡ Some x → (z : ℕ) → has_address new z ≡ true → has_address x z ≡ true → ⊥
      meets q x h z there has =
          let within = has_within new z there in
          true≢false (sym has ∙ apart_of_new q x h z within.0 (let t = within.1 in omega (arith, t, length-replicate {A = ℕ} len 0)))

      object_there : (q : ℕ) → slice_index_or (r.memory.objects ++ Some new ∷ []) q None ≡ f' q
      object_there q = elim (eqb_tells q count) [
        | inl same ↦ get_or_push r.memory.objects (Some new) None q (st.count ∙ sym same.1) ∙ sym (ap f' same.1 ∙ set.0)
        | inr other ↦ elim (leb_tells (suc q) (length r.memory.objects)) [
          | inl inside ↦ get_or_append_left r.memory.objects (Some new ∷ []) None q inside.1 ∙ st.object q ∙ sym (set.1 q other.1)
          | inr past ↦ elim (leb_tells (suc (length r.memory.objects)) q) [
            | inl above ↦
                let behind = above.1 in
                get_or_past (r.memory.objects ++ Some new ∷ []) q None (omega (arith, length_push r.memory.objects (Some new), behind))
                ∙ sym (get_or_past r.memory.objects q None (omega (arith, behind))) ∙ st.object q ∙ sym (set.1 q other.1)
            | inr not ↦ absurd (other.1 (let n = st.count in let p = past.1 in let a = not.1 in omega (arith, n, p, a)))
          ]
        ]
      ]

-- an empty map has nothing at any number
pub none_in : {X : Type 0} (m : BTreeMap ℕ X) (k : ℕ) → m.entries ≡ [] → get nat_cmp m k ≡ None
none_in m k none = rw none refl

-- nothing is live, and no cell holds a number, where nothing was recorded
none_at : {X : Type 0} (n k : ℕ) → slice_index_or (replicate {A = Option X} n None) k None ≡ None
none_at zero k = refl
none_at (suc n) zero = refl
none_at (suc n) (suc k) = none_at n k

pub nothing_stands : (f : ℕ → Option Object) (h s : ℕ → Option ℕ) (table : CellTable) (given : List (ℕ × ℕ)) → ((n : ℕ) → f n ≡ None) → ((n : ℕ) → h n ≡ None)
    → ((a : ℕ) → s a ≡ None) → IsNew table → ((n : ℕ) → Has given n → ⊥) → StandsFor f h s table given 0 (nothing_recorded any_allocator)
nothing_stands f h s table given no_object no_serial no_start new none = record {
  count = refl;
  object = λ n. sym (no_object n);
  cells = length-replicate many_cells None;
  root = λ cell n at. let both : None ≡ Some n = sym (new.numbers cell) ∙ at in absurd (cc both);
  freed = λ cell is. absurd (new.freed cell is);
  empty = λ cell _ _. none_at many_cells cell;
  serials = λ q. ((λ has. absurd (none q has)), (λ is. absurd (cc is)));
  each = refl;
  given = λ n x at. let both : None ≡ Some x = sym (no_serial n) ∙ at in absurd (cc both);
  started = λ n o at. let both : None ≡ Some o = sym (no_object n) ∙ at in absurd (cc both);
  starts_of = λ a n at. let both : None ≡ Some n = sym (no_start a) ∙ at in absurd (cc both);
  filled = λ n o at. let both : None ≡ Some o = sym (no_object n) ∙ at in absurd (cc both);
  ends = λ n o at. let both : None ≡ Some o = sym (no_object n) ∙ at in absurd (cc both);
  apart = λ n k o p at. let both : None ≡ Some o = sym (no_object n) ∙ at in absurd (cc both);
}

-- the object whose address is nearest below has it, and is the only one
pub holding_is : (f : ℕ → Option Object) (h s : ℕ → Option ℕ) (table : CellTable) (given : List (ℕ × ℕ)) (count : ℕ) (r : Recorded) (address n : ℕ) (o : Object)
    → StandsFor f h s table given count r → f n ≡ Some o → has_address o address ≡ true → holding r.memory address ≡ Ok (record { serial = n; object = o })
holding_is f h s table given count r address n o st at has =
    let there : object_of r.memory n ≡ Some o = st.object n ∙ at in
    let none : 0 + n ≡ n = omega arith in
    let holder : holder_of r.memory address ≡ Some n
    = one_holder 0 r.memory.objects address n o there has (λ j p at' has'. st.apart j n p o (sym (st.object j) ∙ at') at address has' has) ∙ ap (λ (k : ℕ). Some k) none in
    rw holder (rw there refl)

-- an object that reaches behind the nearest address below is the one that stands there
only_nearest : (f : ℕ → Option Object) (h s : ℕ → Option ℕ) (table : CellTable) (given : List (ℕ × ℕ)) (count : ℕ) (r : Recorded) (b n k x : ℕ) (o p : Object) → StandsFor f h s table given count r
    → f n ≡ Some o → o.address ≡ b → f k ≡ Some p → p.address ≤ b → b ≤ x → has_address p x ≡ true → o ≡ p
only_nearest f h s table given count r b n k x o p st at is at' below above has =
    let there = within_has p b below (let t = (has_within p x has).1 in omega (arith, t, above)) in
    let same = st.apart n k o p at at' b (within_has o b (omega (arith, is)) (omega (arith, is, st.filled n o at))) there in
    let both : Some o ≡ Some p = sym at ∙ ap f same ∙ at' in cc both

-- no object lies where none begins below
pub none_below : (f : ℕ → Option Object) (h s : ℕ → Option ℕ) (table : CellTable) (given : List (ℕ × ℕ)) (count : ℕ) (r : Recorded) (address : ℕ) → StandsFor f h s table given count r
    → IsNearest s address None → (k x : ℕ) (p : Object) → f k ≡ Some p → x ≤ address → has_address p x ≡ false
none_below f h s table given count r address st none k x p at below = lacks p x (λ within.
    let missing = none p.address (let w = within.0 in omega (arith, w, below)) in
    let both : Some k ≡ None = sym (st.started k p at) ∙ missing in cc both)

-- nor behind the one that begins nearest below
pub none_behind : (f : ℕ → Option Object) (h s : ℕ → Option ℕ) (table : CellTable) (given : List (ℕ × ℕ)) (count : ℕ) (r : Recorded) (address n : ℕ) (o : Object) → StandsFor f h s table given count r
    → IsNearest s address (Some n) → f n ≡ Some o → (k x : ℕ) (p : Object) → f k ≡ Some p → o.address + length o.bytes ≤ x → x ≤ address → has_address p x ≡ false
none_behind f h s table given count r address n o st near at k x p at' past below = lacks p x (λ within.
    let b = near.0 in
    let found = st.starts_of b n near.2 in
    let same : found.0 ≡ o = cc (sym found.1 ∙ at) in
    let start : o.address ≡ b = ap (λ (y : Object). y.address) (sym same) ∙ found.2 in
    let first = near.3 p.address k (let w = within.0 in omega (arith, w, below)) (st.started k p at') in
    let is = only_nearest f h s table given count r b n k x o p st at start at' first (omega (arith, past, start)) (within_has p x within.0 within.1) in
    let end = within.1 in omega (arith, (ap (λ (y : Object). y.address + length y.bytes) is), past, end))

-- where no object has an address, none is found
pub stray_is : (m : Memory) (address : ℕ) → ((k : ℕ) (p : Object) → object_of m k ≡ Some p → has_address p address ≡ false) → holding m address ≡ Err Stray
stray_is m address none = let holder : holder_of m address ≡ None = no_holder 0 m.objects address none in rw holder refl

-- where the object that begins nearest below hasn't the address, none has it
pub none_past : (f : ℕ → Option Object) (h s : ℕ → Option ℕ) (table : CellTable) (given : List (ℕ × ℕ)) (count : ℕ) (r : Recorded) (address n : ℕ) (o : Object) → StandsFor f h s table given count r
    → IsNearest s address (Some n) → f n ≡ Some o → has_address o address ≡ false → (k : ℕ) (p : Object) → f k ≡ Some p → has_address p address ≡ false
none_past f h s table given count r address n o st near at lacking k p at' =
    none_behind f h s table given count r address n o st near at k address p at' past (omega arith)
  where
    start : o.address ≤ address
    start = let found = st.starts_of near.0 n near.2 in
        let same : found.0 ≡ o = cc (sym found.1 ∙ at) in
        let first = near.1 in omega (arith, (ap (λ (y : Object). y.address) (sym same) ∙ found.2), first)

    past : o.address + length o.bytes ≤ address
    past = elim (leb_tells (suc address) (o.address + length o.bytes)) [
      | inl within ↦ absurd (true≢false (sym (within_has o address start (let w = within.1 in omega (arith, w))) ∙ lacking))
      | inr behind ↦ let b = behind.1 in omega (arith, b)
    ]

-- the object that begins nearest below begins there
pub nearest_starts : (f : ℕ → Option Object) (h s : ℕ → Option ℕ) (table : CellTable) (given : List (ℕ × ℕ)) (count : ℕ) (r : Recorded) (address n : ℕ) (o : Object) → StandsFor f h s table given count r
    → IsNearest s address (Some n) → f n ≡ Some o → o.address ≤ address
nearest_starts f h s table given count r address n o st near at =
    let found = st.starts_of near.0 n near.2 in
    let same : found.0 ≡ o = cc (sym found.1 ∙ at) in
    let first = near.1 in omega (arith, (ap (λ (y : Object). y.address) (sym same) ∙ found.2), first)

-- a range is not vacant that an object reaches into
pub not_vacant : (f : ℕ → Option Object) (h s : ℕ → Option ℕ) (table : CellTable) (given : List (ℕ × ℕ)) (count : ℕ) (r : Recorded) (address len n : ℕ) (o : Object) → StandsFor f h s table given count r
    → f n ≡ Some o → 1 ≤ len → o.address < address + len → address < o.address + length o.bytes → IsVacantRange r.memory address len → ⊥
not_vacant f h s table given count r address len n o st at some below behind vacant = elim (leb_tells o.address address) [
  | inl from ↦
      true≢false (sym (within_has o address from.1 behind) ∙ vacant n address o (st.object n ∙ at) (omega arith) (omega (arith, some)))
  | inr later ↦
      let has = within_has o o.address (omega arith) (omega (arith, st.filled n o at)) in
      true≢false (sym has ∙ vacant n o.address o (st.object n ∙ at) (let l = later.1 in omega (arith, l)) below)
]

-- an object that reaches into a range overlaps it
pub overlapped_is : (f : ℕ → Option Object) (h s : ℕ → Option ℕ) (table : CellTable) (given : List (ℕ × ℕ)) (count : ℕ) (r : Recorded) (address len n : ℕ) (o : Object)
    (overlap : Overlap) → StandsFor f h s table given count r → f n ≡ Some o → h n ≡ Some overlap.serial → overlap.other ≡ addresses_from o.address (length o.bytes)
    → overlap.range ≡ addresses_from address len → 1 ≤ len → o.address < address + len → address < o.address + length o.bytes → IsOverlapped r address len overlap
overlapped_is f h s table given count r address len n o overlap st at serial other range some below behind = elim (leb_tells o.address address) [
  | inl from ↦ at_place address (omega arith) (omega (arith, some)) (within_has o address from.1 behind)
  | inr later ↦
      at_place o.address (let l = later.1 in omega (arith, l)) below (within_has o o.address (omega arith) (omega (arith, st.filled n o at)))
]
  where
    at_place : (x : ℕ) → address ≤ x → x < address + len → has_address o x ≡ true → IsOverlapped r address len overlap
    at_place x from to has = record {
      number = n;
      object = o;
      is_live = st.object n ∙ at;
      is_given = st.given n overlap.serial serial;
      is_other = other;
      is_range = range;
      place = x;
      from = from;
      to = to;
      has = has;
    }

-- what a change of one live object is for the objects and for their serials
pub objects_set : (g g' : ℕ → Option LiveObject) (n : ℕ) (v : Option LiveObject) → IsSetAt g g' n v
    → IsSetAt (λ q. object_in (g q)) (λ q. object_in (g' q)) n (object_in v)
objects_set g g' n v set = (ap object_in set.0, λ q other. ap object_in (set.1 q other))

pub serials_set : (g g' : ℕ → Option LiveObject) (n : ℕ) (v : Option LiveObject) → IsSetAt g g' n v
    → IsSetAt (λ q. serial_in (g q)) (λ q. serial_in (g' q)) n (serial_in v)
serials_set g g' n v set = (ap serial_in set.0, λ q other. ap serial_in (set.1 q other))

-- bytes are stored in an object
pub overwritten_stands : (s : ℕ → Option ℕ) (table : CellTable) (given : List (ℕ × ℕ)) (count : ℕ) (r : Recorded) (g g' : ℕ → Option LiveObject) (n off : ℕ) (live : LiveObject)
    (bytes slice : List ℕ) → StandsFor (λ q. object_in (g q)) (λ q. serial_in (g q)) s table given count r → g n ≡ Some live → slice ≡ bytes
    → off + length bytes ≤ length live.object.bytes → IsSetAt g g' n (Some (with_bytes live (overwritten live.object.bytes off slice)))
    → StandsFor (λ q. object_in (g' q)) (λ q. serial_in (g' q)) s table given count
    (with_memory r (with_object r.memory n (Some (record live.object { bytes = overwritten live.object.bytes off bytes }))))
overwritten_stands s table given count r g g' n off live bytes slice st at is fits set =
    stored_stands s given count r table (λ q. object_in (g q)) (λ q. object_in (g' q)) (λ q. serial_in (g q)) (λ q. serial_in (g' q)) n live.object after st (ap object_in at)
    (objects_set g g' n (Some (with_bytes live after.bytes)) set') same_serials refl (overwritten_length live.object.bytes off bytes fits)
  where
    after : Object
    after = record { address = live.object.address; bytes = overwritten live.object.bytes off bytes }

    set' : IsSetAt g g' n (Some (with_bytes live (overwritten live.object.bytes off bytes)))
    set' = subst (λ (all : List ℕ). IsSetAt g g' n (Some (with_bytes live (overwritten live.object.bytes off all)))) is set

    same_serials : (q : ℕ) → serial_in (g' q) ≡ serial_in (g q)
    same_serials q = elim (eqb_tells q n) [
      | inl same ↦ ap (λ (k : ℕ). serial_in (g' k)) same.1 ∙ ap serial_in set'.0 ∙ sym (ap serial_in at) ∙ ap (λ (k : ℕ). serial_in (g k)) (sym same.1)
      | inr other ↦ ap serial_in (set'.1 q other.1)
    ]

-- what an update changes, by numbers
pub updated : {X : Type 0} (m n : BTreeMap ℕ X) (k : ℕ) (v : Option X) → Updates nat_cmp m n k v → IsSetAt (get nat_cmp m) (get nat_cmp n) k v
updated m n k v u = (u.1, λ q h. u.2 q (other_key k q h))
