-- Both heaps have the same objects, after each call and after all of them.
use Rattle.std.proofs.Common.{◌≡◌, ◌∙◌, ℕ, ◌+◌, Bool, true, false, cond, nat_eq, nat_lt, is_some, List, [], ◌∷◌, ◌++◌, length, map, filter, Option, Some, None, Result, Ok, Err, ap, refl, subst, sym, arith, inl, inr}
use Rattle.std.specs.Prelude.{count_by, max, sum_by}
use Rattle.std.proofs.lemmas.Bool.Decides.{eqb_tells}
use Rattle.std.proofs.lemmas.List.Sums.{sum_by-cons}
use Rattle.model_words.specs.Classes.{class_for}
use Rattle.model_words.specs.declared.refusals.Refusal.{Refusal}
use Rattle.model_words.specs.declared.refusals.Refusal.TheVariants.{Members}
use Rattle.model_heap.proofs.MayBegin.{meshed}
use Rattle.model_heap.proofs.NewObjects.{by_place, new_sound}
use Rattle.model_heap.proofs.TableChanges.{empty_sound, free_sound, sweep_sound, sweep_went, whole_sound}
use Rattle.model_heap.specs.Mesh.{mesh_of_class, mesh_whole}
use Rattle.model_heap.specs.Sound.{IsSound}
use Rattle.model_heap.specs.Table.{Counted, Group, Placed, Slot, Table, empty_table, object_count, place_new, sweep, without_object}
use Rattle.model_search.specs.Search.{Found, Pairing, View, search, view_of}
use Rattle.savings_replay.specs.ClassCounts.{class_objects}
use Rattle.savings_replay.specs.Placement.{supply}
use Rattle.savings_replay.specs.Sweeps.{sweep_each, swept, table_after}
use Rattle.rand_core.specs.Steps.{first_words}
use Rattle.rand_xoshiro.specs.Xoshiro256.{plus_plus}
use Rattle.savings_replay.proofs.ObjectCounts.{but, free_count, mesh_count, new_count, new_one, swept_count}
use Rattle.savings_replay.specs.Alike.{AreAlike, AreSound, Test, count_in, passes}
use Rattle.savings_replay.specs.Followed.{Followed, Goes, Large, Live, NoAddresses, NoObject, Outcome, Small, after_free, aliased, freed, is_due, made, object_in, run, run_on, small_live, small_placed, start, step, without_serial}
use Rattle.savings_replay.specs.Meshing.{Heaps, Meshing, after_mesh, after_round, class_meshed, class_sizes, classes_meshed, members_at, mesh_within, pair_meshed, pairs_meshed, searched}
use Rattle.savings_replay.specs.declared.calls.Call.{Call}
use Rattle.savings_replay.specs.declared.calls.Call.TheVariants.{New, Free, Alias}
use Rattle.savings_replay.specs.declared.settings.Settings.{Settings}

-- a sound table with no running mesh
pub record IsCalm (t : Table) : Type 0 where
  pub sound : IsSound t
  pub none : t.meshes ≡ []

calm_empty : IsCalm (empty_table supply)
calm_empty = record { sound = empty_sound supply; none = refl }

calm_free : (t : Table) (serial : ℕ) → IsCalm t → IsCalm (without_object t serial)
calm_free t serial calm = record { sound = free_sound t serial calm.sound; none = calm.none }

calm_new : (t : Table) (len word serial : ℕ) (placed : Placed) → IsCalm t → place_new t len word serial ≡ Ok placed → IsCalm placed.table
calm_new t len word serial placed calm went = record {
  sound = new_sound t len word serial placed calm.sound went;
  none = by_place (λ (x : Placed). x.table.meshes ≡ []) t len word serial placed calm.sound (λ class g at. calm.none) (λ class at. calm.none) went;
}

calm_sweep : (t : Table) (n : ℕ) (r : Result Counted Refusal) → IsCalm t → sweep t n ≡ r → IsCalm (table_after t r)
calm_sweep t n (Err refusal) calm is = calm
calm_sweep t n (Ok x) calm is = record {
  sound = sweep_sound t n x calm.sound is;
  none = ap (λ (y : Counted). y.table.meshes) (sym (sweep_went t n x is).is) ∙ calm.none;
}

calm_sweeps : (numbers : List ℕ) (t : Table) → IsCalm t → IsCalm (sweep_each numbers t)
calm_sweeps [] t calm = calm
calm_sweeps (n ∷ numbers) t calm = calm_sweeps numbers (table_after t (sweep t n)) (calm_sweep t n (sweep t n) calm refl)

calm_swept : (t : Table) → IsCalm t → IsCalm (swept t)
calm_swept t calm = calm_sweeps (map (λ g. g.number) t.groups) t calm

calm_mesh : (t : Table) (source destination : ℕ) (whole : Counted) → IsCalm t → mesh_whole mesh_of_class t source destination ≡ Ok whole → IsCalm whole.table
calm_mesh t source destination whole calm went = record {
  sound = whole_sound mesh_of_class t source destination whole (λ class idle. rw calm.none refl) calm.sound went;
  none = ap (λ (x : Counted). x.table.meshes) (sym (meshed mesh_of_class t source destination whole went).is) ∙ calm.none;
}

-- a mesh, a search or a round leaves what there is of objects

-- the table is calm, and as many objects pass each test as in another one
pub record IsAs (t u : Table) : Type 0 where
  pub calm : IsCalm u
  pub alike : AreAlike u t

as_mesh : (m : Meshing) (source destination : ℕ) (r : Result Counted Refusal) → IsCalm m.table
    → ((whole : Counted) → r ≡ Ok whole → mesh_whole mesh_of_class m.table source destination ≡ Ok whole) → IsAs m.table (after_mesh m source r).table
as_mesh m source destination (Err refusal) calm went = record { calm = calm; alike = λ test. refl }
as_mesh m source destination (Ok whole) calm went = record {
  calm = calm_mesh m.table source destination whole calm (went whole refl);
  alike = λ test. mesh_count test m.table source destination whole calm.sound (went whole refl);
}

-- a mesh within a number of members is a mesh
pub within_whole : (most : ℕ) (t : Table) (pair : Pairing) (whole : Counted) → mesh_within most t pair ≡ Ok whole
    → mesh_whole mesh_of_class t pair.source pair.destination ≡ Ok whole
within_whole most t pair whole went = go (nat_lt most (members_at t pair.source + members_at t pair.destination)) refl
  where
    go : (b : Bool) → nat_lt most (members_at t pair.source + members_at t pair.destination) ≡ b
        → mesh_whole mesh_of_class t pair.source pair.destination ≡ Ok whole
    go true is = let clash : Err Members ≡ Ok whole = rw is at went in absurd (cc clash)
    go false is = rw is at went

as_pair : (m : Meshing) (pair : Pairing) → IsCalm m.table → IsAs m.table (pair_meshed m pair).table
unfolding pair_meshed
as_pair m pair calm = as_mesh m pair.source pair.destination (mesh_within m.members m.table pair) calm (within_whole m.members m.table pair)

as_on : (t u v : Table) → IsAs t u → IsAs u v → IsAs t v
as_on t u v first second = record { calm = second.calm; alike = λ test. second.alike test ∙ first.alike test }

as_pairs : (m : Meshing) (pairs : List Pairing) → IsCalm m.table → IsAs m.table (pairs_meshed m pairs).table
as_pairs m [] calm = record { calm = calm; alike = λ test. refl }
as_pairs m (pair ∷ pairs) calm =
    let here = as_pair m pair calm in
    as_on m.table (pair_meshed m pair).table (pairs_meshed (pair_meshed m pair) pairs).table here (as_pairs (pair_meshed m pair) pairs here.calm)

as_class : (probe : ℕ) (m : Meshing) (class : ℕ) → IsCalm m.table → IsAs m.table (class_meshed probe m class).table
unfolding class_meshed
as_class probe m class calm =
    let view : View = view_of m.table class in
    let count : ℕ = length view.candidates in
    let found : Found = search view (first_words plus_plus count m.words) probe in as_pairs (searched m count found) found.pairs calm

as_classes : (probe : ℕ) (m : Meshing) (classes : List ℕ) → IsCalm m.table → IsAs m.table (classes_meshed probe m classes).table
as_classes probe m [] calm = record { calm = calm; alike = λ test. refl }
as_classes probe m (class ∷ classes) calm =
    let here = as_class probe m class calm in
    as_on m.table (class_meshed probe m class).table (classes_meshed probe (class_meshed probe m class) classes).table here
    (as_classes probe (class_meshed probe m class) classes here.calm)

as_swept : (t : Table) → IsCalm t → IsAs t (swept t)
as_swept t calm = record { calm = calm_swept t calm; alike = λ test. swept_count test t calm.sound calm.none }

-- both tables are calm and have the same objects
pub record AreSame (h : Heaps) : Type 0 where
  pub without : IsCalm h.without
  pub with : IsCalm h.meshing.table
  pub alike : AreAlike h.without h.meshing.table

same_round : (probe : ℕ) (h : Heaps) → AreSame h → AreSame (after_round probe h)
unfolding after_round
same_round probe h same =
    let a = as_swept h.without same.without in
    let m : Meshing = record h.meshing { table = swept h.meshing.table } in
    let b = as_on h.meshing.table m.table (classes_meshed probe m class_sizes).table (as_swept h.meshing.table same.with)
    (as_classes probe m class_sizes (calm_swept h.meshing.table same.with)) in
    record { without = a.calm; with = b.calm; alike = λ test. a.alike test ∙ same.alike test ∙ sym (b.alike test) }

pub same_free : (h : Heaps) (serial : ℕ) → AreSame h → AreSame (without_serial h serial)
same_free h serial same = record {
  without = calm_free h.without serial same.without;
  with = calm_free h.meshing.table serial same.with;
  alike = λ test. free_count test h.without serial ∙ same.alike (but test serial) ∙ sym (free_count test h.meshing.table serial);
}

same_after_free : (probe : ℕ) (h : Heaps) (due : Bool) → AreSame h → AreSame (after_free probe h due)
same_after_free probe h true same = same_round probe h same
same_after_free probe h false same = same

same_new : (h : Heaps) (len word serial : ℕ) (a b : Placed) → AreSame h → place_new h.without len word serial ≡ Ok a
    → place_new h.meshing.table len word serial ≡ Ok b → AreSame (record { without = a.table; meshing = record h.meshing { table = b.table } })
same_new h len word serial a b same went other = record {
  without = calm_new h.without len word serial a same.without went;
  with = calm_new h.meshing.table len word serial b same.with other;
  alike = λ test. new_count test h.without len word serial a same.without.sound went
      ∙ ap (λ n. n + new_one test (class_for len) serial len) (same.alike test)
      ∙ sym (new_count test h.meshing.table len word serial b same.with.sound other);
}

-- calls

-- where a call leads to a state, its heaps have the same objects
abbrev pub IsSame : Outcome → Type 0
IsSame (Goes f) = AreSame f.heaps
IsSame NoObject = Unit {0}
IsSame NoAddresses = Unit {0}

same_placed : (settings : Settings) (f : Followed) (cell len class word : ℕ) (a b : Result Placed Refusal) → AreSame f.heaps
    → place_new f.heaps.without len word f.counts.small ≡ a → place_new f.heaps.meshing.table len word f.counts.small ≡ b
    → IsSame (small_placed settings f cell len class a b)
same_placed settings f cell len class word (Ok a) (Ok b) same went other = same_new f.heaps len word f.counts.small a b same went other
same_placed settings f cell len class word (Ok a) (Err refusal) same went other = tt
same_placed settings f cell len class word (Err refusal) b same went other = tt

same_made : (settings : Settings) (f : Followed) (cell len : ℕ) (class : Option ℕ) → AreSame f.heaps → IsSame (made settings f cell len class)
same_made settings f cell len None same = same
same_made settings f cell len (Some class) same = same_placed settings f cell len class _ _ _ same refl refl

same_freed : (settings : Settings) (f : Followed) (cell : ℕ) (held : Option (ℕ × Live)) → AreSame f.heaps → IsSame (freed settings f cell held)
same_freed settings f cell None same = tt
same_freed settings f cell (Some (number, Small serial len)) same =
    same_after_free settings.probe (without_serial f.heaps serial) (is_due settings.rounds (f.counts.since + 1) (small_live (without_serial f.heaps serial)))
    (same_free f.heaps serial same)
same_freed settings f cell (Some (number, Large len)) same = same

same_aliased : (f : Followed) (to : ℕ) (held : Option (ℕ × Live)) → AreSame f.heaps → IsSame (aliased f to held)
same_aliased f to None same = tt
same_aliased f to (Some (number, live)) same = same

pub same_step : (settings : Settings) (f : Followed) (call : Call) → AreSame f.heaps → IsSame (step settings f call)
unfolding step
same_step settings f (New cell len) same = same_made settings f cell (max len 1) (class_for (max len 1)) same
same_step settings f (Free cell) same = same_freed settings f cell (object_in f cell) same
same_step settings f (Alias to from) same = same_aliased f to (object_in f from) same

same_run : (settings : Settings) (outcome : Outcome) (calls : List Call) → IsSame outcome → IsSame (run_on settings outcome calls)
same_run settings outcome [] same = same
same_run settings (Goes f) (call ∷ calls) same = same_run settings (step settings f call) calls (same_step settings f call same)
same_run settings NoObject (call ∷ calls) same = tt
same_run settings NoAddresses (call ∷ calls) same = tt

pub run_more : (settings : Settings) (outcome : Outcome) (calls more : List Call)
    → run_on settings outcome (calls ++ more) ≡ run_on settings (run_on settings outcome calls) more
run_more settings outcome [] more = refl
run_more settings (Goes f) (call ∷ calls) more = run_more settings (step settings f call) calls more
run_more settings NoObject (call ∷ calls) [] = refl
run_more settings NoObject (call ∷ calls) (next ∷ more) = refl
run_more settings NoAddresses (call ∷ calls) [] = refl
run_more settings NoAddresses (call ∷ calls) (next ∷ more) = refl

pub same_start : (settings : Settings) → AreSame (start settings).heaps
same_start settings = record { without = calm_empty; with = calm_empty; alike = λ test. refl }

same_heaps : (settings : Settings) (calls : List Call) (f : Followed) → run settings (start settings) calls ≡ Goes f → AreSame f.heaps
same_heaps settings calls f is = subst IsSame is (same_run settings (Goes (start settings)) calls (same_start settings))

pub heaps_sound : (settings : Settings) (calls : List Call) (f : Followed) → run settings (start settings) calls ≡ Goes f → AreSound f.heaps
heaps_sound settings calls f is =
    let same = same_heaps settings calls f is in record { without = same.without.sound; with = same.with.sound }

pub heaps_alike : (settings : Settings) (calls : List Call) (f : Followed) → run settings (start settings) calls ≡ Goes f → AreAlike f.heaps.without f.heaps.meshing.table
heaps_alike settings calls f is = (same_heaps settings calls f is).alike

-- the objects of a class

-- the objects that are of a class
abbrev of_class : ℕ → Test
of_class of class serial len = nat_eq class of

-- 1 where a test holds
abbrev counted : Bool → ℕ
counted b = cond b 1 0

all_of : (of class : ℕ) (slots : List (Option Slot)) → nat_eq class of ≡ true → count_by (passes (of_class of) class) slots ≡ count_by is_some slots
all_of of class [] is = refl
all_of of class (None ∷ slots) is =
    let rest = all_of of class slots is in
    omega (arith, rest, sum_by-cons (λ x. counted (passes (of_class of) class x)) None slots, sum_by-cons (λ (x : Option Slot). counted (is_some x)) None slots)
all_of of class (Some slot ∷ slots) is =
    let rest = all_of of class slots is in
    let here : counted (nat_eq class of) ≡ 1 = ap counted is in
    omega (
      arith,
      rest,
      here,
      sum_by-cons (λ x. counted (passes (of_class of) class x)) (Some slot) slots,
      sum_by-cons (λ (x : Option Slot). counted (is_some x)) (Some slot) slots,
    )

none_of : (of class : ℕ) (slots : List (Option Slot)) → nat_eq class of ≡ false → count_by (passes (of_class of) class) slots ≡ 0
none_of of class [] is = refl
none_of of class (None ∷ slots) is =
    let rest = none_of of class slots is in
    omega (arith, rest, sum_by-cons (λ x. counted (passes (of_class of) class x)) None slots)
none_of of class (Some slot ∷ slots) is =
    let rest = none_of of class slots is in
    let here : counted (nat_eq class of) ≡ 0 = ap counted is in
    omega (arith, rest, here, sum_by-cons (λ x. counted (passes (of_class of) class x)) (Some slot) slots)

class_count : (of : ℕ) (groups : List Group) → sum_by (count_in (of_class of)) groups ≡ sum_by object_count (filter (λ g. nat_eq g.class of) groups)
class_count of [] = refl
class_count of (g ∷ groups) =
    let rest = class_count of groups in
    let first = sum_by-cons (count_in (of_class of)) g groups in
    elim (eqb_tells g.class of) [
      | inl same ↦ let here = all_of of g.class g.slots same.0 in
          rw same.0 (omega (arith, rest, first, here, sum_by-cons object_count g (filter (λ g. nat_eq g.class of) groups)))
      | inr other ↦ let here = none_of of g.class g.slots other.0 in rw other.0 (omega (arith, rest, first, here))
    ]

pub classes_alike : (settings : Settings) (calls : List Call) (f : Followed) (class : ℕ) → run settings (start settings) calls ≡ Goes f
    → class_objects f.heaps.without class ≡ class_objects f.heaps.meshing.table class
classes_alike settings calls f class is =
    sym (class_count class f.heaps.without.groups) ∙ heaps_alike settings calls f is (of_class class) ∙ class_count class f.heaps.meshing.table.groups
