-- The points of the calls of a history.
use Rattle.std.proofs.Common.{◌≡◌, ◌⊎◌, ℕ, zero, suc, ◌+◌, ◌<◌, inl, inr, true, false, nat_eq, List, [], ◌∷◌, ◌++◌, Option, Some, None, arith, get_or, length, map, option_map, refl, slice_get, sym, ap, subst, ◌∙◌}
use Rattle.std.specs.List.{Contains}
use Rattle.std.proofs.lemmas.Bool.{and_parts, eqb-true}
use Rattle.std.proofs.lemmas.Bool.Decides.{eqb_tells}
use Rattle.std.proofs.lemmas.List.Sorted.{Contains-permutation, IsPermutation-sym}
use Rattle.std.proofs.lemmas.Option.{slice_get-map, slice_get_read, slice_get_within}
use Rattle.model_words.specs.declared.commands.Command.{Command}
use Rattle.model_words.specs.declared.commands.Command.TheVariants.{New, Free}
use Rattle.model_words.specs.declared.commands.Reply.{Reply}
use Rattle.model_words.specs.declared.commands.Reply.TheVariants.{Object as Made}
use Rattle.model_intervals.specs.Intervals.{Call, IsLinearizable}
use Rattle.model_intervals.specs.Objects.{ExplainsAccesses, IsMadeAt, Object, is_access, object_made}
use Rattle.model_intervals.specs.OverlappingCalls.{IsAt, IsFree, IsHistory, IsNew, MakesOne, cell_at, cell_of}
use Rattle.model_intervals.proofs.ByObject.{explained}
use Rattle.history_object.specs.Orders.{IsIn}
use Rattle.history_reading.specs.CallWords.{plain_call}
use Rattle.history_reading.specs.declared.words.TimedCall.{TimedCall}
use Rattle.history_overlaps.specs.Accesses.{PlacedCall, is_access_of, placed_from}
use Rattle.history_overlaps.specs.Orders.{at_places}
use Rattle.history_overlaps.specs.OwnOrders.{numbers_of}
use Rattle.history_overlaps.specs.Points.{AreOwnPoints, ArePlacedFrom, HasNoOrder, HasPlaced, HavePoints, IsPlacedObject, own_moment}
use Rattle.history_overlaps.specs.declared.points.Point.{Point}
use Rattle.history_overlaps.proofs.Follows.{access_timed}
use Rattle.history_overlaps.proofs.PlacedObjects.{contains_in, in_permuted, numbered_in}
use Rattle.history_overlaps.proofs.Placing.{placed_same}

-- ---- points without regard to other calls

pub own_more : (calls : List Call) (points : List Point) (call : Call) (point : Point) → AreOwnPoints calls points
    → point.moment ≡ own_moment call.entry.command call.begin call.end → AreOwnPoints (calls ++ call ∷ []) (points ++ point ∷ [])
own_more [] [] call point own is = (is, tt)
own_more [] (p ∷ points) call point own is = absurd own
own_more (c ∷ calls) [] call point own is = absurd own
own_more (c ∷ calls) (p ∷ points) call point own is = (own.0, own_more calls points call point own.1 is)

pub own_many : (calls : List Call) (points : List Point) → AreOwnPoints calls points → length points ≡ length calls
own_many [] [] own = refl
own_many [] (p ∷ points) own = absurd own
own_many (c ∷ calls) [] own = absurd own
own_many (c ∷ calls) (p ∷ points) own = ap suc (own_many calls points own.1)

own_at : (calls : List Call) (points : List Point) (i : ℕ) (call : Call) (point : Point) → AreOwnPoints calls points → IsAt calls i call → slice_get points i ≡ Some point
    → point.moment ≡ own_moment call.entry.command call.begin call.end
own_at [] points zero call point own at there = absurd (cc at)
own_at [] points (suc i) call point own at there = absurd (cc at)
own_at (c ∷ calls) [] i call point own at there = absurd own
own_at (c ∷ calls) (p ∷ points) zero call point own at there =
    let same_call : c ≡ call = cc at in
    let same_point : p ≡ point = cc there in
    subst (λ (q : Point). q.moment ≡ own_moment call.entry.command call.begin call.end) same_point
    (subst (λ (x : Call). p.moment ≡ own_moment x.entry.command x.begin x.end) same_call own.0)
own_at (c ∷ calls) (p ∷ points) (suc i) call point own at there = own_at calls points i call point own.1 at there

-- ---- commands

-- a call that made an object is a `new` of the object's cell
pub made_is : (command : Command) (reply : Reply) (x : Object) → object_made command reply ≡ Some x → IsNew command × (cell_of command ≡ x.cell)
made_is (New cell len word) (Made serial address) x is =
    let same : record { cell = cell; len = len; serial = serial; address = address } ≡ x = cc is in (tt, ap (λ (o : Object). o.cell) same)
made_is (New cell len word) reply x is = absurd (cc is)
made_is command reply x is = absurd (cc is)

-- a call that makes an object has made one
made_so : (command : Command) (reply : Reply) → MakesOne command reply → (x : Object) × (object_made command reply ≡ Some x)
made_so (New cell len word) (Made serial address) makes = (record { cell = cell; len = len; serial = serial; address = address }, refl)
made_so (New cell len word) reply makes = absurd makes
made_so command reply makes = absurd makes

new_moment : (command : Command) (begin end : ℕ) → IsNew command → (own_moment command begin end ≡ end) × (is_access command ≡ false)
new_moment (New cell len word) begin end new = (refl, refl)
new_moment command begin end new = absurd new

free_moment : (command : Command) (begin end : ℕ) → IsFree command → (own_moment command begin end ≡ begin) × (is_access command ≡ false)
free_moment (Free cell) begin end free = (refl, refl)
free_moment command begin end free = absurd free

access_not_new : (command : Command) → is_access command ≡ true → IsNew command → ⊥
access_not_new (New cell len word) access new = cc access
access_not_new command access new = new

-- ---- the points of the objects of the first calls

-- the points so far: those of accesses to the objects that the first calls made follow their orders
pub record ArePlacedSoFar (calls : List Call) (points : List Point) (count : ℕ) : Type 0 where
  pub many : length points ≡ length calls
  pub own : (j : ℕ) (call : Call) (point : Point) → IsAt calls j call → slice_get points j ≡ Some point → is_access call.entry.command ≡ false
      → point.moment ≡ own_moment call.entry.command call.begin call.end
  pub placed : IsHistory calls → (j : ℕ) (call : Call) (x : Object) → j < count → IsMadeAt calls j call x → IsPlacedObject calls points x

pub first_placed : (calls : List Call) (points : List Point) → AreOwnPoints calls points → ArePlacedSoFar calls points 0
first_placed calls points own = record {
  many = own_many calls points own;
  own = λ j call point at there _. own_at calls points j call point own at there;
  placed = λ history j call x lt. absurd (omega (arith, lt));
}

module _ (calls : List Call) (old new : List Point) (count : ℕ) (call : Call) (here : IsAt calls count call) (before : ArePlacedSoFar calls old count)
    (has : HasPlaced calls old new call) where
  -- an access to an object that another call made isn't one to this call's object
  apart : IsHistory calls → (j : ℕ) (other : Call) (x y : Object) (n : ℕ) → j < count → IsMadeAt calls j other x → object_made call.entry.command call.entry.reply ≡ Some y
      → IsIn n (numbers_of x.cell calls) → IsIn n (numbers_of y.cell calls) → ⊥
  apart history j other x y n lt made makes in_x in_y =
      let one = numbered_in x.cell calls n in_x in
      let two = numbered_in y.cell calls n in_y in
      let of_x = eqb-true (cell_at one.call) x.cell (and_parts (is_access one.call.entry.command) (nat_eq (cell_at one.call) x.cell) one.accesses).1 in
      let of_y = eqb-true (cell_at two.call) y.cell (and_parts (is_access two.call.entry.command) (nat_eq (cell_at two.call) y.cell) two.accesses).1 in
      let both : Some one.call ≡ Some two.call = sym one.there ∙ two.there in
      let same : one.call ≡ two.call = cc both in
      let is_x = made_is other.entry.command other.entry.reply x made.1 in
      let is_y = made_is call.entry.command call.entry.reply y makes in
      history.own_cells j count other call (λ e. omega (arith, lt, e)) made.0 here is_x.0 is_y.0
      (is_x.1 ∙ sym of_x ∙ ap (λ (c : Call). cell_at c) same ∙ of_y ∙ sym is_y.1)

  pub more_placed : length new ≡ length old → ArePlacedSoFar calls new (count + 1)
  more_placed long = record {
    many = long ∙ before.many;
    own = λ j other point at there none. before.own j other point at
        (sym (has.others j (λ x makes in_x. let one = numbered_in x.cell calls j in_x in
        let both : Some one.call ≡ Some other = sym one.there ∙ at in
        let same : one.call ≡ other = cc both in
        let access = (and_parts (is_access one.call.entry.command) (nat_eq (cell_at one.call) x.cell) one.accesses).0 in
        let no : is_access other.entry.command ≡ true = subst (λ (c : Call). is_access c.entry.command ≡ true) same access in cc (no, none))) ∙ there) none;
    placed = λ history j other x lt made. elim (before_or_here j lt) [
      | inl earlier ↦
          let was = before.placed history j other x earlier made in (
            was.0,
            was.1,
            placed_same calls old new 0 0 was.0
                (λ n at. has.others n (λ y makes in_y. apart history j other x y n earlier made makes (in_permuted was.0 (numbers_of x.cell calls) n was.1.same at) in_y)) was.2,
          )
      | inr same ↦
          let both : Some other ≡ Some call = sym made.0 ∙ (ap (λ (k : ℕ). slice_get calls k) same ∙ here) in
          let is : other ≡ call = cc both in
          has.placed x (subst (λ (c : Call). object_made c.entry.command c.entry.reply ≡ Some x) is made.1)
    ];
  }
    where
      before_or_here : (j : ℕ) → j < count + 1 → (j < count) ⊎ (j ≡ count)
      before_or_here j lt = grind (arith, lt)

-- ---- all points

-- the call of a cell that made an object, if there is one
pub record MakerOf (calls : List Call) (cell : ℕ) : Type 0 where
  pub place : ℕ
  pub call : Call
  pub x : Object
  pub made : IsMadeAt calls place call x
  pub names : x.cell ≡ cell

find_made : (calls : List Call) (cell : ℕ) → MakerOf calls cell ⊎ ((i : ℕ) (call : Call) (x : Object) → IsMadeAt calls i call x → x.cell ≡ cell → ⊥)
find_made [] cell = inr (λ i call x made. absurd (nothing i call made.0))
  where
    nothing : (i : ℕ) (call : Call) → slice_get [] i ≡ Some call → ⊥
    nothing zero call is = cc is
    nothing (suc i) call is = cc is
find_made (first ∷ calls) cell = by_first (object_made first.entry.command first.entry.reply) refl (find_made calls cell)
  where
    later : MakerOf calls cell → MakerOf (first ∷ calls) cell
    later maker = record { place = suc maker.place; call = maker.call; x = maker.x; made = maker.made; names = maker.names }

    none_later : ((i : ℕ) (call : Call) (x : Object) → IsMadeAt calls i call x → x.cell ≡ cell → ⊥)
        → ((x : Object) → object_made first.entry.command first.entry.reply ≡ Some x → x.cell ≡ cell → ⊥)
        → (i : ℕ) (call : Call) (x : Object) → IsMadeAt (first ∷ calls) i call x → x.cell ≡ cell → ⊥
    none_later none not zero call x made names =
        let same : first ≡ call = cc made.0 in not x (subst (λ (c : Call). object_made c.entry.command c.entry.reply ≡ Some x) (sym same) made.1) names
    none_later none not (suc i) call x made names = none i call x made names

    by_first : (o : Option Object) → object_made first.entry.command first.entry.reply ≡ o
        → MakerOf calls cell ⊎ ((i : ℕ) (call : Call) (x : Object) → IsMadeAt calls i call x → x.cell ≡ cell → ⊥)
        → MakerOf (first ∷ calls) cell ⊎ ((i : ℕ) (call : Call) (x : Object) → IsMadeAt (first ∷ calls) i call x → x.cell ≡ cell → ⊥)
    by_first o is (inl maker) = inl (later maker)
    by_first None is (inr none) = inr (none_later none (λ x made names. let both : None ≡ Some x = sym is ∙ made in cc both))
    by_first (Some x) is (inr none) = elim (eqb_tells x.cell cell) [
      | inl same ↦ inl (record { place = 0; call = first; x = x; made = (refl, is); names = same.1 })
      | inr apart ↦ inr (none_later none (λ y made names. let both : Some x ≡ Some y = sym is ∙ made in
          let same : x ≡ y = cc both in apart.1 (ap (λ (o : Object). o.cell) same ∙ names)))
    ]

module _ (calls : List Call) (points : List Point) (history : IsHistory calls) (all : ArePlacedSoFar calls points (length calls)) where
  abbrev placed_by : (cell : ℕ) (maker : MakerOf calls cell) → IsPlacedObject calls points maker.x
  placed_by cell maker = all.placed history maker.place maker.call maker.x (slice_get_within calls maker.place maker.call maker.made.0) maker.made

  abbrev order_in : (cell : ℕ) → MakerOf calls cell ⊎ ((i : ℕ) (call : Call) (x : Object) → IsMadeAt calls i call x → x.cell ≡ cell → ⊥) → List ℕ
  order_in cell (inl maker) = (placed_by cell maker).0
  order_in cell (inr none) = []

  abbrev orders : ℕ → List ℕ
  orders cell = order_in cell (find_made calls cell)

  own_in : (cell number : ℕ) (found : MakerOf calls cell ⊎ ((i : ℕ) (call : Call) (x : Object) → IsMadeAt calls i call x → x.cell ≡ cell → ⊥))
      → Contains (order_in cell found) number → (call : Call) × IsAt calls number call × (is_access call.entry.command ≡ true) × (cell_at call ≡ cell)
  own_in cell number (inl maker) at =
      let placed = placed_by cell maker in
      let one = numbered_in maker.x.cell calls number (in_permuted placed.0 (numbers_of maker.x.cell calls) number placed.1.same (contains_in placed.0 number at)) in
      let both = and_parts (is_access one.call.entry.command) (nat_eq (cell_at one.call) maker.x.cell) one.accesses in
      (one.call, one.there, both.0, eqb-true (cell_at one.call) maker.x.cell both.1 ∙ maker.names)
  own_in cell number (inr none) at = absurd (let lt = at.1 in omega (arith, lt))

  all_in : (number : ℕ) (call : Call) (found : MakerOf calls (cell_at call) ⊎ ((i : ℕ) (c : Call) (x : Object) → IsMadeAt calls i c x → x.cell ≡ cell_at call → ⊥))
      → IsAt calls number call → is_access call.entry.command ≡ true → Contains (order_in (cell_at call) found) number
  all_in number call (inl maker) at access =
      let placed = placed_by (cell_at call) maker in
      let own : is_access_of maker.x.cell call ≡ true = rw (access, eq_test (cell_at call) maker.x.cell (sym maker.names)) refl in
      let found = access_timed 0 maker.x.cell calls number call at own in
      let listed : slice_get (numbers_of maker.x.cell calls) found.0 ≡ Some number =
      slice_get-map (λ (p : PlacedCall). p.place) (placed_from 0 maker.x.cell calls) found.0 ∙ ap (λ o. option_map (λ (p : PlacedCall). p.place) o) found.1
      ∙ ap (λ (n : ℕ). Some n) (let e : 0 + number ≡ number = omega arith in e) in
      Contains-permutation (numbers_of maker.x.cell calls) placed.0 number (IsPermutation-sym placed.0 (numbers_of maker.x.cell calls) placed.1.same)
      (contained (numbers_of maker.x.cell calls) found.0 number listed)
    where
      eq_test : (a b : ℕ) → a ≡ b → nat_eq a b ≡ true
      eq_test a b same = elim (eqb_tells a b) [ inl is ↦ is.0 | inr other ↦ absurd (other.1 same) ]

      contained : (xs : List ℕ) (k n : ℕ) → slice_get xs k ≡ Some n → Contains xs n
      contained [] zero n is = absurd (cc is)
      contained [] (suc k) n is = absurd (cc is)
      contained (x ∷ xs) zero n is = (0, omega arith, cc is)
      contained (x ∷ xs) (suc k) n is = let rest = contained xs k n is in (suc rest.0, (let lt = rest.1 in omega (arith, lt)), rest.2)
  all_in number call (inr none) at access =
      let made = history.after_new number call at (access_not_new call.entry.command access) in
      let so = made_so made.call.entry.command made.call.entry.reply made.makes in
      let is = made_is made.call.entry.command made.call.entry.reply so.0 so.1 in
      absurd (none made.place made.call so.0 (made.there, so.1) (sym is.1 ∙ made.names))

  placed_in : (cell : ℕ) (found : MakerOf calls cell ⊎ ((i : ℕ) (call : Call) (x : Object) → IsMadeAt calls i call x → x.cell ≡ cell → ⊥))
      → ArePlacedFrom calls points 0 0 (order_in cell found)
  placed_in cell (inl maker) = (placed_by cell maker).2
  placed_in cell (inr none) = tt

  explained_in : (i : ℕ) (call : Call) (x : Object) (found : MakerOf calls x.cell ⊎ ((j : ℕ) (c : Call) (y : Object) → IsMadeAt calls j c y → y.cell ≡ x.cell → ⊥))
      → IsMadeAt calls i call x → ExplainsAccesses calls x.cell x.len x.address (at_places calls (order_in x.cell found))
  explained_in i call x (inl maker) made = elim (eqb_tells i maker.place) [
    | inl same ↦
        let both : Some call ≡ Some maker.call = sym made.0 ∙ (ap (λ (k : ℕ). slice_get calls k) same.1 ∙ maker.made.0) in
        let is : call ≡ maker.call = cc both in
        let two : Some x ≡ Some maker.x = sym made.1 ∙ (ap (λ (c : Call). object_made c.entry.command c.entry.reply) is ∙ maker.made.1) in
        let one : x ≡ maker.x = cc two in
        subst (λ (y : Object). ExplainsAccesses calls y.cell y.len y.address (at_places calls (placed_by x.cell maker).0)) (sym one) (placed_by x.cell maker).1.explains
    | inr other ↦
        let is_x = made_is call.entry.command call.entry.reply x made.1 in
        let is_y = made_is maker.call.entry.command maker.call.entry.reply maker.x maker.made.1 in
        absurd (history.own_cells i maker.place call maker.call other.1 made.0 maker.made.0 is_x.0 is_y.0 (is_x.1 ∙ sym maker.names ∙ sym is_y.1))
  ]
  explained_in i call x (inr none) made = absurd (none i call x made refl)

  pub have_points : HavePoints calls points
  have_points = (
    orders,
    record {
      many = all.many;
      news = λ i call point at there new. let m = new_moment call.entry.command call.begin call.end new in all.own i call point at there m.1 ∙ m.0;
      frees = λ i call point at there free. let m = free_moment call.entry.command call.begin call.end free in all.own i call point at there m.1 ∙ m.0;
      own = λ cell number at. own_in cell number (find_made calls cell) at;
      all = λ number call at access. all_in number call (find_made calls (cell_at call)) at access;
      placed = λ cell. placed_in cell (find_made calls cell);
    },
    λ i call x made. explained_in i call x (find_made calls x.cell) made,
  )

-- ---- calls of the code

-- the call at a place, as a call of the model
pub at_index : (calls : List TimedCall) (n : ℕ) (call : TimedCall) → n < length calls → call ≡ get_or calls n call → IsAt (map plain_call calls) n (plain_call call)
at_index calls n call lt is = slice_get-map plain_call calls n ∙ ap (λ o. option_map plain_call o) (slice_get_read calls (length calls) n call refl lt is)

-- if no order explains the accesses to some object, no order explains the calls
pub none_explains : (calls : List Call) (i : ℕ) (call : Call) → IsAt calls i call → HasNoOrder calls call → IsHistory calls → IsLinearizable calls → ⊥
none_explains calls i call at none history linearizable =
    let own = (explained calls history linearizable).each i call none.0 (at, none.1) in none.2 own.0 own.1
