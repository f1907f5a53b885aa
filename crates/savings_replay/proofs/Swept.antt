-- What a sweep of one group, and of all groups in turn, leaves of a placement.
use Rattle.std.proofs.Common.{◌≡◌, ℕ, zero, suc, ◌+◌, ◌-◌, ◌<◌, ◌≤◌, Bool, true, false, not, ◌&&◌, nat_eq, nat_le, nat_lt, count_by, filter, find, is_some, List, [], ◌∷◌, Option, Some, None, Result, Ok, Err, length, map, slice_set, ap, subst, refl, sym, ◌∙◌, arith}
use Rattle.std.proofs.lemmas.Bool.{eqb-false, eqb-true, lt-ltb}
use Rattle.std.proofs.lemmas.Bool.Decides.{nat_tests}
use Rattle.model_heap.proofs.CountedPages.{sweep_counted}
use Rattle.model_heap.proofs.GroupLists.{find_between, find_number, first_or_later}
use Rattle.model_heap.proofs.TableChanges.{sweep_sound, sweep_went}
use Rattle.model_heap.proofs.TiedTables.{sweep_tied}
use Rattle.model_heap.specs.PageCounts.{AreCounted, span_pages}
use Rattle.model_heap.specs.Sound.{AscendBetween, IsSound, IsTied}
use Rattle.model_heap.specs.Table.{Counted, Group, Table, group_of, has_number, sweep}
use Rattle.model_words.specs.declared.refusals.Refusal.{Refusal}
use Rattle.model_words.specs.declared.refusals.Refusal.TheVariants.{NoGroup, NotEmpty}
use Rattle.mesh_class.specs.Classes.{pages_of}
use Rattle.mesh_spans.specs.Groups.{groups_of, is_closed, table_group}
use Rattle.mesh_spans.specs.Index.{AreUnused, GroupEntry, Index, IsIndex, SpanEntry, address_in, group_at, span_at}
use Rattle.savings_replay.proofs.Kept.{taken_within}
use Rattle.mesh_spans.proofs.PairLemmas.{entry_in_table, none_in_table}
use Rattle.savings_replay.proofs.MergedRecords.{retired_records}
use Rattle.savings_replay.specs.Placement.{FirstsAscend, IsPlacement, IsSwept, IsSweptAt, Placement, table_of, supply}
use Rattle.savings_replay.specs.Records.{KeepsRecords}
use Rattle.savings_replay.specs.Sweeps.{sweep_each, swept, table_after}

-- a sweep that is refused leaves the placement
refused_stays : (p : Placement) (n : ℕ) (refusal : Refusal) → sweep (table_of p) n ≡ Err refusal → IsSweptAt p p n
refused_stays p n refusal is = record {
  table = sym (ap (table_after (table_of p)) is);
  serial = refl;
  page = refl;
  spans = refl;
  records = λ span k. refl;
}

-- there is no group to sweep
pub none_stays : (p : Placement) (n : ℕ) → group_at p.index.groups n ≡ None → IsSweptAt p p n
none_stays p n none = refused_stays p n NoGroup (rw (none_in_table p.index n none) refl)

-- it has an object
pub filled_stays : (p : Placement) (n : ℕ) (a : GroupEntry) → group_at p.index.groups n ≡ Some a → nat_eq (count_by is_some a.slots) 0 ≡ false → IsSweptAt p p n
filled_stays p n a there filled =
    let found : group_of (table_of p) n ≡ Some (table_group p.index.spans n a) = entry_in_table p.index n a there in
    let other = eqb-false (count_by is_some a.slots) 0 filled in
    refused_stays p n NotEmpty (rw (found, lt-ltb 0 (count_by is_some a.slots) (omega (arith, other))) refl)

-- the group was taken out of the index
pub record IsRetired (old new : Index) (n : ℕ) : Type 0 where
  pub spans : new.spans ≡ old.spans
  pub groups : new.groups ≡ slice_set old.groups n None
  pub table : groups_of new ≡ filter (λ g. not (has_number n g)) (groups_of old)
  pub closed : (m : ℕ) → is_closed new m ≡ (not (nat_eq m n) && is_closed old m)

module _ (old : Placement) (new : Index) (n pages : ℕ) (a : GroupEntry) (kept : IsPlacement old) (there : group_at old.index.groups n ≡ Some a)
    (empty : nat_eq (count_by is_some a.slots) 0 ≡ true) (pages_are : pages ≡ pages_of a.class) (out : IsRetired old.index new n) where
  abbrev after : Placement
  after = record old { index = new; taken_pages = old.taken_pages - pages }

  -- the table without the group
  abbrev without : Counted
  without = record {
    count = pages_of a.class;
    table = record (table_of old) { free_pages = supply - old.taken_pages + pages_of a.class; groups = filter (λ g. not (has_number n g)) (groups_of old.index) };
  }

  swept_out : sweep (table_of old) n ≡ Ok without
  swept_out =
      let found : group_of (table_of old) n ≡ Some (table_group old.index.spans n a) = entry_in_table old.index n a there in
      let none : nat_lt 0 (count_by is_some a.slots) ≡ false = ap (nat_lt 0) (eqb-true (count_by is_some a.slots) 0 empty) in
      rw (found, none) refl

  counted_out : AreCounted supply without.table
  counted_out = sweep_counted supply (table_of old) n without kept.sound kept.counted swept_out

  pub pages_taken : pages ≤ old.taken_pages
  pages_taken =
      let all : (supply - old.taken_pages) + pages_of a.class + span_pages without.table ≡ supply = (let c = counted_out in omega (arith, c)) in
      let most = taken_within old kept in omega (arith, all, most, pages_are)

  table_is : without.table ≡ table_of after
  table_is =
      let free : (supply - old.taken_pages) + pages_of a.class ≡ supply - (old.taken_pages - pages)
      = (let most = taken_within old kept in let low = pages_taken in omega (arith, most, pages_are, low)) in
      ap (λ (m : ℕ). record (table_of old) { free_pages = m; groups = filter (λ g. not (has_number n g)) (groups_of old.index) }) free
      ∙ ap (λ (gs : List Group). record (table_of old) { free_pages = supply - (old.taken_pages - pages); groups = gs }) (sym out.table)
      ∙ ap (λ (xs : List SpanEntry). record (table_of after) { next_span = length xs }) (sym out.spans)

  pub retired_kept : IsPlacement after
  retired_kept = record {
    sound = subst IsSound table_is (sweep_sound (table_of old) n without kept.sound swept_out);
    named = record {
      memory = kept.named.memory;
      next_is = kept.named.next_is;
      tied = subst (λ (t : Table). IsTied kept.named.memory t) table_is (sweep_tied kept.named.memory (table_of old) n without kept.named.tied swept_out);
    };
    counted = subst (AreCounted supply) table_is counted_out;
    few = let few = kept.few in omega (arith, few);
    unused = subst (λ (xs : List SpanEntry). AreUnused (record { spans = xs; groups = new.groups }) old.next_page) (sym out.spans) kept.unused;
    ascending = subst FirstsAscend (sym out.spans) kept.ascending;
    calm = λ m. out.closed m ∙ ap (λ (b : Bool). not (nat_eq m n) && b) (kept.calm m) ∙ neither (not (nat_eq m n));
  }
    where
      neither : (b : Bool) → (b && false) ≡ false
      neither true = refl
      neither false = refl

  pub retired_now : IsSweptAt old after n
  retired_now = record {
    table = sym (ap (table_after (table_of old)) swept_out ∙ table_is);
    serial = refl;
    page = refl;
    spans = out.spans;
    records = retired_records old.index new n a there (eqb-true (count_by is_some a.slots) 0 empty) out.spans out.groups;
  }

-- the numbers of the groups from a number on
abbrev pub numbers_from : ℕ → List Group → List ℕ
numbers_from n groups = map (λ g. g.number) (filter (λ g. nat_le n g.number) groups)

-- where no group has the number they are those from the next one on
next_numbers : (n : ℕ) (groups : List Group) → find (has_number n) groups ≡ None → numbers_from n groups ≡ numbers_from (n + 1) groups
next_numbers n [] none = refl
next_numbers n (x ∷ xs) none = grind (arith, nat_tests, next_numbers n xs)

-- a group of the number comes first
first_number : (n low high : ℕ) (groups : List Group) (g : Group) → AscendBetween low groups high → find (has_number n) groups ≡ Some g
    → numbers_from n groups ≡ n ∷ numbers_from (n + 1) groups
first_number n low high [] g ascend found = absurd (cc found)
first_number n low high (x ∷ xs) g ascend found =
    grind (
      arith,
      nat_tests,
      first_or_later n low high x xs g ascend found,
      next_numbers n xs,
      first_number n (x.number + 1) high xs g ascend.1,
      find_between (has_number n) (x.number + 1) high xs g ascend.1,
      find_number n xs g,
    )

-- a group taken out has none of the later numbers
later_numbers : (n : ℕ) (groups : List Group) → numbers_from (n + 1) (filter (λ g. not (has_number n g)) groups) ≡ numbers_from (n + 1) groups
later_numbers n [] = refl
later_numbers n (x ∷ xs) = grind (arith, nat_tests, later_numbers n xs)

-- from 0 on they are all
pub all_numbers : (groups : List Group) → numbers_from 0 groups ≡ map (λ g. g.number) groups
all_numbers [] = refl
all_numbers (x ∷ xs) = grind (arith, nat_tests, all_numbers xs)

-- numbers ascend from no more than the bound below which they stay
pub low_below_high : (low high : ℕ) (groups : List Group) → AscendBetween low groups high → low ≤ high
low_below_high low high [] ascend = ascend
low_below_high low high (g ∷ groups) ascend = let rest = low_below_high (g.number + 1) high groups ascend.1 in omega (arith, rest, ascend.0)

-- and from above the last one on there is none
pub no_numbers : (n low high : ℕ) (groups : List Group) → AscendBetween low groups high → high ≤ n → numbers_from n groups ≡ []
no_numbers n low high [] ascend above = refl
no_numbers n low high (x ∷ xs) ascend above =
    let most = low_below_high (x.number + 1) high xs ascend.1 in
    let rest = no_numbers n (x.number + 1) high xs ascend.1 above in grind (arith, nat_tests)

-- a sweep of one number leaves the later ones
after_numbers : (t : Table) (n : ℕ) (r : Result Counted Refusal) → sweep t n ≡ r
    → numbers_from (n + 1) (table_after t r).groups ≡ numbers_from (n + 1) t.groups
after_numbers t n (Err refusal) is = refl
after_numbers t n (Ok x) is =
    ap (λ (y : Counted). numbers_from (n + 1) y.table.groups) (sym (sweep_went t n x is).is) ∙ later_numbers n t.groups

-- the sweeps from a number on are one of it, and those from the next one on
pub sweep_step : (t : Table) (n : ℕ) → IsSound t
    → sweep_each (numbers_from (n + 1) (table_after t (sweep t n)).groups) (table_after t (sweep t n)) ≡ sweep_each (numbers_from n t.groups) t
sweep_step t n sound = go (group_of t n) refl
  where
    go : (o : Option Group) → group_of t n ≡ o
        → sweep_each (numbers_from (n + 1) (table_after t (sweep t n)).groups) (table_after t (sweep t n)) ≡ sweep_each (numbers_from n t.groups) t
    go None none =
        let refused : sweep t n ≡ Err NoGroup = rw none refl in
        ap (λ (r : Result Counted Refusal). sweep_each (numbers_from (n + 1) (table_after t r).groups) (table_after t r)) refused
        ∙ ap (λ (ns : List ℕ). sweep_each ns t) (sym (next_numbers n t.groups none))
    go (Some g) found =
        ap (λ (ns : List ℕ). sweep_each ns (table_after t (sweep t n))) (after_numbers t n (sweep t n) refl)
        ∙ ap (λ (ns : List ℕ). sweep_each ns t) (sym (first_number n 0 t.next_span t.groups g sound.numbers found))

-- the groups of the lower numbers were swept
pub record IsSweptTo (old now : Placement) (n : ℕ) : Type 0 where
  pub rest : sweep_each (numbers_from n (table_of now).groups) (table_of now) ≡ swept (table_of old)
  pub serial : now.next_serial ≡ old.next_serial
  pub page : now.next_page ≡ old.next_page
  pub spans : now.index.spans ≡ old.index.spans
  pub records : KeepsRecords old.index now.index

pub swept_none : (old : Placement) → IsSweptTo old old 0
swept_none old = record {
  rest = ap (λ (ns : List ℕ). sweep_each ns (table_of old)) (all_numbers (groups_of old.index));
  serial = refl;
  page = refl;
  spans = refl;
  records = λ span k. refl;
}

pub swept_more : (old now new : Placement) (n : ℕ) → IsPlacement now → IsSweptTo old now n → IsSweptAt now new n → IsSweptTo old new (n + 1)
swept_more old now new n kept so at = record {
  rest = ap (λ (t : Table). sweep_each (numbers_from (n + 1) t.groups) t) at.table ∙ sweep_step (table_of now) n kept.sound ∙ so.rest;
  serial = at.serial ∙ so.serial;
  page = at.page ∙ so.page;
  spans = at.spans ∙ so.spans;
  records = λ span k. at.records span k ∙ so.records span k;
}

-- there are no more spans than pages were used
pub spans_within : (p : Placement) → IsPlacement p → IsIndex p.index.spans p.index.groups → length p.index.spans ≤ p.next_page
spans_within p kept sound = go (length p.index.spans) refl
  where
    go : (m : ℕ) → length p.index.spans ≡ m → length p.index.spans ≤ p.next_page
    go zero long = omega (arith, long)
    go (suc m) long =
        let below : m < length p.index.spans = omega (arith, long) in
        let few = sound.few m below in let last = kept.unused m below in omega (arith, long, few, last)

pub swept_all : (old now : Placement) (n : ℕ) → IsPlacement now → IsIndex now.index.spans now.index.groups → IsSweptTo old now n → old.next_page ≤ n → IsSwept old now
swept_all old now n kept sound so past = record {
  table =
      let high : length now.index.spans ≤ n = (let few = spans_within now kept sound in let page = so.page in omega (arith, few, page, past)) in
      sym (ap (λ (ns : List ℕ). sweep_each ns (table_of now)) (no_numbers n 0 (length now.index.spans) (groups_of now.index) kept.sound.numbers high)) ∙ so.rest;
  serial = so.serial;
  records = so.records;
  addresses = λ span k below. ap (λ (xs : List SpanEntry). address_in (span_at xs span) k) so.spans;
}
