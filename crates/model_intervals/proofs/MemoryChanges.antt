-- How a change of the memory changes the states of its cells.
use Rattle.std.proofs.Common.{◌≡◌, ◌≢◌, ℕ, suc, ◌+◌, ◌<◌, ◌≤◌, ◌⊎◌, inl, inr, [], ◌∷◌, length, replicate, arith, ap, refl, sym, subst, ◌∙◌, Option, Some, None}
use Rattle.std.proofs.lemmas.Bool.Decides.{eqb_tells, leb_tells}
use Rattle.std.proofs.lemmas.List.{get_or-set_same, get_or-set_other, get_or_append_left, get_or_past, get_or_push, length-replicate, length-set, length_push}
use Rattle.model_history.specs.Recorded.{many_cells}
use Rattle.model_memory.specs.Memory.{Memory, Object, next_serial, object_of, root_of, with_object}
use Rattle.model_memory.specs.Plain.{made}
use Rattle.model_memory.proofs.Objects.{live_below}
use Rattle.model_intervals.proofs.CellStates.{CellState, Live, at_index, at_root, state_of, IsLive, IsNamed}

-- the new memory is well formed, one cell has this state, and all other cells keep their states
pub record Changes (m : Memory) (cell : ℕ) (is : CellState) (n : Memory) : Type 0 where
  pub here : state_of n cell ≡ is
  pub others : (d : ℕ) → d ≢ cell → state_of n d ≡ state_of m d
  pub named : IsNamed n

-- an unchanged memory
pub stays : (m : Memory) (cell : ℕ) (n : Memory) → IsNamed m → n ≡ m → Changes m cell (state_of m cell) n
stays m cell n named same = subst (λ x. Changes m cell (state_of m cell) x) (sym same) (record { here = refl; others = λ d apart. refl; named = named })

-- an object, if there is one, has at least one byte
abbrev pub IsFilled : Option Object → Type 0
IsFilled None = Unit {0}
IsFilled (Some object) = 1 ≤ length object.bytes

filled_is : (object : Option Object) (o : Object) → object ≡ Some o → IsFilled object → 1 ≤ length o.bytes
filled_is object o is filled = subst IsFilled is filled

module _ (m : Memory) (cell : ℕ) (was : Object) (named : IsNamed m) (live : IsLive m cell was) (new : Option Object) where
  there : object_of (with_object m live.index new) live.index ≡ new
  there = get_or-set_same m.objects live.index new None (live_below m live.index was live.live)

  elsewhere : (s : ℕ) → s ≢ live.index → object_of (with_object m live.index new) s ≡ object_of m s
  elsewhere s apart = get_or-set_other m.objects live.index s new None apart

  -- a cell that holds another index keeps its state
  same_root : (root : Option ℕ) → (root ≡ Some live.index → ⊥) → at_root (with_object m live.index new) root ≡ at_root m root
  same_root None apart = refl
  same_root (Some s) apart = ap at_index (elsewhere s (λ same. apart (ap Some same)))

  put_object : (s : ℕ) (o : Object) → object_of (with_object m live.index new) s ≡ Some o → ((s ≡ live.index) × (new ≡ Some o)) ⊎ (object_of m s ≡ Some o)
  put_object s o is = elim (eqb_tells s live.index) [
    | inl same ↦ inl (same.1, sym there ∙ ap (object_of (with_object m live.index new)) (sym same.1) ∙ is)
    | inr other ↦ inr (sym (elsewhere s other.1) ∙ is)
  ]

  put_named : (s : ℕ) (o : Object) → object_of (with_object m live.index new) s ≡ Some o → (c : ℕ) × (root_of m c ≡ Some s)
  put_named s o is = elim (put_object s o is) [
    | inl here ↦ (cell, live.root ∙ ap Some (sym here.0))
    | inr old ↦ named.named s o old
  ]

  put_filled : IsFilled new → (s : ℕ) (o : Object) → object_of (with_object m live.index new) s ≡ Some o → 1 ≤ length o.bytes
  put_filled filled s o is = elim (put_object s o is) [
    | inl here ↦ filled_is new o here.1 filled
    | inr old ↦ named.filled s o old
  ]

  -- replacing a live object by another one, or by none
  pub put_changes : IsFilled new → Changes m cell (at_index new) (with_object m live.index new)
  put_changes filled = record {
    here = ap (at_root (with_object m live.index new)) live.root ∙ ap at_index there;
    others = λ d apart. same_root (root_of m d) (λ holds. apart (named.once d cell live.index holds live.root));
    named = record {
      cells = named.cells;
      below = λ c s is. let low = named.below c s is in let long = length-set m.objects live.index new in omega (arith, low, long);
      once = named.once;
      named = put_named;
      filled = put_filled filled;
    };
  }

module _ (m : Memory) (cell len address : ℕ) (named : IsNamed m) (within : cell < many_cells) (empty : root_of m cell ≡ None) where
  room : cell < length m.roots
  room = let cells = named.cells in omega (arith, within, cells)

  held : root_of (made m cell len address) cell ≡ Some (next_serial m)
  held = get_or-set_same m.roots cell (Some (next_serial m)) None room

  held_else : (d : ℕ) → d ≢ cell → root_of (made m cell len address) d ≡ root_of m d
  held_else d apart = get_or-set_other m.roots cell d (Some (next_serial m)) None apart

  newest : object_of (made m cell len address) (next_serial m) ≡ Some (record { address = address; bytes = replicate len 0 })
  newest = get_or_push m.objects (Some (record { address = address; bytes = replicate len 0 })) None (next_serial m) refl

  older : (s : ℕ) → s < next_serial m → object_of (made m cell len address) s ≡ object_of m s
  older s below = get_or_append_left m.objects (Some (record { address = address; bytes = replicate len 0 }) ∷ []) None s below

  longer : next_serial (made m cell len address) ≡ next_serial m + 1
  longer = length_push m.objects (Some (record { address = address; bytes = replicate len 0 }))

  older_root : (root : Option ℕ) → ((s : ℕ) → root ≡ Some s → s < next_serial m) → at_root (made m cell len address) root ≡ at_root m root
  older_root None below = refl
  older_root (Some s) below = ap at_index (older s (below s refl))

  holds_new : (d s : ℕ) → root_of (made m cell len address) d ≡ Some s → ((d ≡ cell) × (s ≡ next_serial m)) ⊎ ((d ≢ cell) × (root_of m d ≡ Some s))
  holds_new d s is = elim (eqb_tells d cell) [
    | inl same ↦ inl (same.1, let both : Some (next_serial m) ≡ Some s = sym held ∙ ap (root_of (made m cell len address)) (sym same.1) ∙ is in cc both)
    | inr other ↦ inr (other.1, sym (held_else d other.1) ∙ is)
  ]

  new_below : (d s : ℕ) → root_of (made m cell len address) d ≡ Some s → s < next_serial (made m cell len address)
  new_below d s is = elim (holds_new d s is) [
    | inl here ↦ let e = here.1 in omega (arith, e, longer)
    | inr old ↦ let low = named.below d s old.1 in omega (arith, low, longer)
  ]

  new_once : (c d s : ℕ) → root_of (made m cell len address) c ≡ Some s → root_of (made m cell len address) d ≡ Some s → c ≡ d
  new_once c d s is is' = elim (holds_new c s is) [
    | inl here ↦ elim (holds_new d s is') [
      | inl here' ↦ here.0 ∙ sym here'.0
      | inr old' ↦ absurd (let low = named.below d s old'.1 in let e = here.1 in omega (arith, low, e))
    ]
    | inr old ↦ elim (holds_new d s is') [
      | inl here' ↦ absurd (let low = named.below c s old.1 in let e = here'.1 in omega (arith, low, e))
      | inr old' ↦ named.once c d s old.1 old'.1
    ]
  ]

  -- an object of the new memory is the new object or an old one
  new_object : (s : ℕ) (o : Object) → object_of (made m cell len address) s ≡ Some o
      → ((s ≡ next_serial m) × (record { address = address; bytes = replicate len 0 } ≡ o)) ⊎ ((s < next_serial m) × (object_of m s ≡ Some o))
  new_object s o is = elim (leb_tells (suc s) (next_serial m)) [
    | inl low ↦ inr (low.1, sym (older s low.1) ∙ is)
    | inr high ↦ elim (eqb_tells s (next_serial m)) [
      | inl same ↦ inl (same.1, let both : Some (record { address = address; bytes = replicate len 0 }) ≡ Some o = sym newest ∙ ap (object_of (made m cell len address)) (sym same.1) ∙ is in cc both)
      | inr other ↦ absurd (let apart = other.1 in let past = high.1 in
          let none : object_of (made m cell len address) s ≡ None = get_or_past (made m cell len address).objects s None (omega (arith, longer, apart, past)) in
          let clash : None ≡ Some o = sym none ∙ is in cc clash)
    ]
  ]

  new_named : (s : ℕ) (o : Object) → object_of (made m cell len address) s ≡ Some o → (c : ℕ) × (root_of (made m cell len address) c ≡ Some s)
  new_named s o is = elim (new_object s o is) [
    | inl here ↦ (cell, held ∙ ap Some (sym here.0))
    | inr old ↦ let c = named.named s o old.1 in
        (c.0, held_else c.0 (λ same. let clash : None ≡ Some s = sym empty ∙ ap (root_of m) (sym same) ∙ c.1 in cc clash) ∙ c.1)
  ]

  new_filled : 1 ≤ len → (s : ℕ) (o : Object) → object_of (made m cell len address) s ≡ Some o → 1 ≤ length o.bytes
  new_filled some s o is = elim (new_object s o is) [
    | inl here ↦ let long : length o.bytes ≡ len = ap (λ (x : Object). length x.bytes) (sym here.1) ∙ length-replicate len 0 in omega (arith, long, some)
    | inr old ↦ named.filled s o old.1
  ]

  -- adding an object whose index is stored in an empty cell
  pub made_changes : 1 ≤ len → Changes m cell (Live (record { address = address; bytes = replicate len 0 })) (made m cell len address)
  made_changes some = record {
    here = ap (at_root (made m cell len address)) held ∙ ap at_index newest;
    others = λ d apart. ap (at_root (made m cell len address)) (held_else d apart) ∙ older_root (root_of m d) (named.below d);
    named = record {
      cells = length-set m.roots cell (Some (next_serial m)) ∙ named.cells;
      below = new_below;
      once = new_once;
      named = new_named;
      filled = new_filled some;
    };
  }
