use Rattle.std.proofs.Common.{◌≡◌, ℕ, zero, suc, ◌+◌, ◌*◌, ◌/◌, ◌%◌, ◌<◌, ◌≤◌, List, Option, Some, option_copied, Fits, w32, length, get_or, slice_index, ap, sym, subst, ◌∙◌, arith}
use Rattle.std.proofs.Math.Nat.{mod-lt}
use Rattle.std.proofs.lemmas.Nat.{div_below}
use Rattle.std.proofs.lemmas.Grind.{get_or_default_zero}
use Rattle.mesh_class.specs.Classes.{pages_of}
use Rattle.mesh_page_heap.specs.Indexes.{class_in, layout_of, members_in}
use Rattle.mesh_page_heap.specs.Layout.{page_total, virtual_page}
use Rattle.mesh_spans.specs.Index.{GroupEntry, Index, IsIndex, IsMember, group_at, span_at}
use Rattle.mesh_page_heap.proofs.steps.virtual_page.Goals as goal

positive : (i a b : ℕ) → i < a * b → 0 < b
positive i a zero h = absurd (omega (arith, h))
positive i a (suc b) h = omega arith

sum_last : (first rest pages at wide : ℕ) → at + wide ≤ 65536 → wide ≡ pages → rest < pages → first ≡ at → first + rest ≤ 65535
sum_last first rest pages at wide last same below is = omega arith

sum_first : (first rest at : ℕ) → first ≡ at → 1 ≤ at → 1 ≤ first + rest
sum_first first rest at is some = omega arith

fits : (n : ℕ) → n ≤ 65535 → Fits w32 n
fits n last = omega arith

-- a page of a member of a group, by what the index says of the two
is_page : (index : Index) (n i pages class : ℕ) (group : GroupEntry) (members : List ℕ) (member first : ℕ)
    → IsIndex index.spans index.groups → group_at index.groups n ≡ Some group → class ≡ group.class → pages ≡ pages_of class → members ≡ group.members
    → member ≡ get_or members (i / pages) member → first ≡ (span_at index.spans member).first → i < page_total (layout_of index) n
    → (first + i % pages ≡ virtual_page (layout_of index) n i) × (first + i % pages ≤ 65535)
is_page index n i pages class group members member first sound known class_is pages_is members_is member_is first_is within =
    let inside : i < length group.members * pages_of group.class
    = subst (λ (entry : Option GroupEntry). i < length (members_in entry) * pages_of (class_in entry)) known within in
    let some : 0 < pages_of group.class = positive i (length group.members) (pages_of group.class) inside in
    let place : ℕ = i / pages_of group.class in
    let below : place < length group.members = div_below i (pages_of group.class) (length group.members) some inside in
    let same : pages ≡ pages_of group.class = pages_is ∙ ap pages_of class_is in
    let read = get_or_default_zero group.members place member below in
    let at : member ≡ slice_index group.members place
    = member_is ∙ ap (λ (xs : List ℕ). get_or xs (i / pages) member) members_is ∙ ap (λ (p : ℕ). get_or group.members (i / p) member) same ∙ read in
    let begins : first ≡ (span_at index.spans (slice_index group.members place)).first
    = first_is ∙ ap (λ (m : ℕ). (span_at index.spans m).first) at in
    let its : IsMember index.spans group n (slice_index group.members place) = sound.members n place group known below in
    let rest : i % pages < pages = subst (λ (p : ℕ). i % p < p) (sym same) (mod-lt i some) in (
      subst (λ (entry : Option GroupEntry). first + i % pages
          ≡ (span_at index.spans (slice_index (members_in entry) (i / pages_of (class_in entry)))).first + i % pages_of (class_in entry)) (sym known)
          (ap (λ (f : ℕ). f + i % pages) begins
          ∙ ap (λ (p : ℕ). (span_at index.spans (slice_index group.members place)).first + i % p) same),
      sum_last first (i % pages) pages _ _ (sound.span _ its.below).last (ap pages_of its.same_class ∙ sym same) rest begins,
    )

page_is : (c : goal.After-first_page) → (c.first_page.result + c.args.i % c.pages-pages.result ≡ virtual_page (layout_of c.args.spans.now) c.args.n c.args.i)
    × (c.first_page.result + c.args.i % c.pages-pages.result ≤ 65535)
page_is c =
    is_page c.args.spans.now c.args.n c.args.i c.pages-pages.result c.class.result c.unwrap-group.result.now c.members.result.now c.index-members-i.result
    c.first_page.result c.sound.ensures (sym c.group.ensures ∙ ap option_copied c.unwrap-group.ensures) c.class.ensures c.pages-pages.ensures.value
    c.members.ensures.value c.index-members-i.is c.first_page.ensures.value c.requires

pub overflow_add-result : goal.overflow_add-result
overflow_add-result c = fits _ (page_is c).1

pub returns-clause-value : goal.returns-clause-value
returns-clause-value c = (page_is c).0

pub returns-clause-first : goal.returns-clause-first
returns-clause-first c = sum_first _ _ _ c.first_page.ensures.value c.first_page.ensures.sound.first

pub returns-clause-last : goal.returns-clause-last
returns-clause-last c = (page_is c).1
