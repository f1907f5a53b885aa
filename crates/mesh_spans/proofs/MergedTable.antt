-- The groups of an index whose two groups were merged are the table's.
use Rattle.std.proofs.Common.{◌≡◌, ◌≢◌, ℕ, zero, suc, ◌+◌, ◌<◌, Bool, not, find, filter, map, List, [], ◌∷◌, Option, Some, None, length, slice_index, slice_set, ap, refl, sym, ◌∙◌, arith}
use Rattle.model_heap.specs.Mesh.{merged, merged_into, united}
use Rattle.model_heap.specs.Table.{Group, changed_at, has_number}
use Rattle.mesh_spans.specs.Groups.{first_of, groups_from, table_group}
use Rattle.mesh_spans.specs.Index.{GroupEntry, SpanEntry, group_at}
use Rattle.mesh_spans.specs.Changes.{merged_entry, merged_groups, with_flag}
use Rattle.mesh_spans.proofs.FindLemmas.{find_first}
use Rattle.std.specs.Option.{option_map}
use Rattle.std.proofs.lemmas.Bool.{eq-eqb, ne_eqb}
use Rattle.std.proofs.lemmas.List.{map-append, set_comm}
use Rattle.std.proofs.Math.ListN.{length-set}

-- members' first pages are those of other spans that begin there too
firsts_same : (spans spans' : List SpanEntry) (members : List ℕ)
    → ((place : ℕ) → place < length members → first_of spans' (slice_index members place) ≡ first_of spans (slice_index members place))
    → map (first_of spans') members ≡ map (first_of spans) members
firsts_same spans spans' [] same = refl
firsts_same spans spans' (i ∷ members) same =
    rw (same 0 (omega arith), firsts_same spans spans' members (λ place h. same (suc place) (omega (arith, h)))) refl

-- the groups depend on their members' first pages alone
pub groups_spans : (spans spans' : List SpanEntry) (b : ℕ) (groups : List (Option GroupEntry)) → ((n place : ℕ) (x : GroupEntry) → group_at groups n ≡ Some x
    → place < length x.members → first_of spans' (slice_index x.members place) ≡ first_of spans (slice_index x.members place))
    → groups_from spans' b groups ≡ groups_from spans b groups
groups_spans spans spans' b [] same = refl
groups_spans spans spans' b (None ∷ groups) same = groups_spans spans spans' (b + 1) groups (λ n. same (suc n))
groups_spans spans spans' b (Some x ∷ groups) same =
    rw (firsts_same spans spans' x.members (λ place. same 0 place x refl), groups_spans spans spans' (b + 1) groups (λ n. same (suc n))) refl

-- no group of a list numbered from `b` on has a lower number
changed_above : (spans : List SpanEntry) (b n : ℕ) (change : Group → Group) (groups : List (Option GroupEntry)) → n < b
    → map (changed_at n change) (groups_from spans b groups) ≡ groups_from spans b groups
changed_above spans b n change [] below = refl
changed_above spans b n change (None ∷ groups) below = changed_above spans (b + 1) n change groups (omega (arith, below))
changed_above spans b n change (Some x ∷ groups) below =
    rw (ne_eqb b n (λ e. omega (arith, e, below)), changed_above spans (b + 1) n change groups (omega (arith, below))) refl

kept_above : (spans : List SpanEntry) (b n : ℕ) (groups : List (Option GroupEntry)) → n < b
    → filter (λ g. not (has_number n g)) (groups_from spans b groups) ≡ groups_from spans b groups
kept_above spans b n [] below = refl
kept_above spans b n (None ∷ groups) below = kept_above spans (b + 1) n groups (omega (arith, below))
kept_above spans b n (Some x ∷ groups) below =
    rw (ne_eqb b n (λ e. omega (arith, e, below)), kept_above spans (b + 1) n groups (omega (arith, below))) refl

-- a group changed in the index is changed in the table
pub groups_changed : (spans : List SpanEntry) (b i n : ℕ) (change : GroupEntry → GroupEntry) (change' : Group → Group) (groups : List (Option GroupEntry)) → n ≡ b + i
    → ((x : GroupEntry) → change' (table_group spans n x) ≡ table_group spans n (change x))
    → groups_from spans b (slice_set groups i (option_map change (group_at groups i))) ≡ map (changed_at n change') (groups_from spans b groups)
groups_changed spans b i n change change' [] is becomes = refl
groups_changed spans b zero n change change' (None ∷ groups) is becomes = sym (changed_above spans (b + 1) n change' groups (omega (arith, is)))
groups_changed spans b zero n change change' (Some x ∷ groups) is becomes = grind (arith, changed_above)
groups_changed spans b (suc i) n change change' (None ∷ groups) is becomes = groups_changed spans (b + 1) i n change change' groups (omega (arith, is)) becomes
groups_changed spans b (suc i) n change change' (Some x ∷ groups) is becomes =
    rw (ne_eqb b n (λ e. omega (arith, e, is)), groups_changed spans (b + 1) i n change change' groups (omega (arith, is)) becomes) refl

-- a group taken out of the index is taken out of the table
pub groups_without : (spans : List SpanEntry) (b i n : ℕ) (groups : List (Option GroupEntry)) → i < length groups → n ≡ b + i
    → groups_from spans b (slice_set groups i None) ≡ filter (λ g. not (has_number n g)) (groups_from spans b groups)
groups_without spans b i n [] below is = absurd (omega (arith, below))
groups_without spans b zero n (None ∷ groups) below is = sym (kept_above spans (b + 1) n groups (omega (arith, is)))
groups_without spans b zero n (Some x ∷ groups) below is = rw (eq-eqb b n (omega (arith, is))) (sym (kept_above spans (b + 1) n groups (omega (arith, is))))
groups_without spans b (suc i) n (None ∷ groups) below is = groups_without spans (b + 1) i n groups (omega (arith, below)) (omega (arith, is))
groups_without spans b (suc i) n (Some x ∷ groups) below is =
    rw (ne_eqb b n (λ e. omega (arith, e, is)), groups_without spans (b + 1) i n groups (omega (arith, below)) (omega (arith, is))) refl

-- the two groups merged in the index are merged in the table
pub groups_merged : (spans spans' : List SpanEntry) (groups : List (Option GroupEntry)) (s d : ℕ) (a b : GroupEntry) → group_at groups s ≡ Some a → group_at groups d ≡ Some b
    → s ≢ d → s < length groups → ((i : ℕ) → first_of spans' i ≡ first_of spans i)
    → groups_from spans' 0 (merged_groups groups s d a b) ≡ merged (groups_from spans 0 groups) (table_group spans s a) d
groups_merged spans spans' groups s d a b source destination two below firsts =
    groups_spans spans spans' 0 (merged_groups groups s d a b) (λ n place x at within. firsts (slice_index x.members place))
    ∙ ap (λ (gs : List (Option GroupEntry)). groups_from spans 0 gs) (set_comm groups s d None (Some (merged_entry a b)) two)
    ∙ groups_without spans 0 s s (slice_set groups d (Some (merged_entry a b))) (omega (arith, below, length-set groups d (Some (merged_entry a b)))) (omega arith)
    ∙ ap (λ (gs : List Group). filter (λ g. not (has_number s g)) gs)
    (ap (λ (o : Option GroupEntry). groups_from spans 0 (slice_set groups d (option_map (merged_entry a) o))) (sym destination)
    ∙ groups_changed spans 0 d d (merged_entry a) (merged_into (table_group spans s a)) groups (omega arith)
    (λ x. ap (λ (ms : List ℕ). record { number = d; class = x.class; members = ms; slots = united x.slots a.slots }) (sym (map-append (first_of spans) x.members a.members))))

-- whether a group is in a mesh isn't told by the table
pub groups_flagged : (spans : List SpanEntry) (b n : ℕ) (meshing : Bool) (groups : List (Option GroupEntry))
    → groups_from spans b (with_flag groups n meshing) ≡ groups_from spans b groups
groups_flagged spans b n meshing [] = refl
groups_flagged spans b zero meshing (None ∷ groups) = refl
groups_flagged spans b zero meshing (Some x ∷ groups) = refl
groups_flagged spans b (suc n) meshing (None ∷ groups) = groups_flagged spans (b + 1) n meshing groups
groups_flagged spans b (suc n) meshing (Some x ∷ groups) = ap (λ (rest : List Group). table_group spans b x ∷ rest) (groups_flagged spans (b + 1) n meshing groups)

-- the group of a number in the table is that of the index
pub group_found : (spans : List SpanEntry) (b i n : ℕ) (groups : List (Option GroupEntry)) (x : GroupEntry) → group_at groups i ≡ Some x → n ≡ b + i
    → find (has_number n) (groups_from spans b groups) ≡ Some (table_group spans n x)
group_found spans b i n groups x at is = find_first (has_number n) spans b i n groups x (λ j k y low e here. ne_eqb k n (λ same. omega (arith, same, low, e, is)))
    at is (eq-eqb n n refl)
