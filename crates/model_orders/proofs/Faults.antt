-- A list that the rule forbids leads to a fault: a client that stores a new byte before each step sees it.
use Rattle.std.proofs.Common.{◌≡◌, ◌≢◌, ℕ, ◌+◌, ◌⊎◌, inl, inr, Bool, true, false, ◌&&◌, not, if◌then◌else◌, List, [], ◌∷◌, arith, ap, refl, sym, subst, ◌∙◌}
use Rattle.std.proofs.lemmas.Bool.{and_cases, and_from, and_parts, both_ways, cases_Bool, not-false}
use Rattle.model_orders.specs.declared.steps.Step.{Step}
use Rattle.model_orders.specs.declared.steps.Step.TheVariants.{Protect, Hide, Copy, Remap, Unprotect, Release}
use Rattle.model_orders.specs.declared.facts.Protection.{Protection}
use Rattle.model_orders.specs.declared.facts.Protection.TheVariants.{ReadWrite, ReadOnly, Hidden}
use Rattle.model_orders.specs.declared.facts.Side.{Side}
use Rattle.model_orders.specs.declared.facts.Side.TheVariants.{Source, Destination}
use Rattle.model_orders.specs.Pages.{Page, Move, Make, Store, after, after_all, after_first, after_step, after_store, is_read_write, is_source, stored, with_at, IsLoadedRight, IsMoved}
use Rattle.model_orders.specs.declared.facts.Truth.{Truth}
use Rattle.model_orders.specs.declared.facts.Truth.TheVariants.{InSource, InBoth, InDestination}
use Rattle.model_orders.specs.Rule.{facts_after, is_found, is_over, is_right, is_right_between, is_right_from, is_settled, may_copy, may_make, may_release, truth_copied, truth_unprotected}
use Rattle.model_orders.specs.RuleLaws.{HasFault, IsFault}
use Rattle.model_orders.proofs.Explained.{IsExplained, explained_moved, explained_right, facts_of, start_explained}
use Rattle.model_orders.proofs.Moves.{moves_explained}
use Rattle.model_orders.proofs.Points.{Agree, copy_agrees, release_agrees, unprotect_agrees}
use Rattle.model_orders.proofs.Witnesses.{started}

-- ---- a list that the rule allows has no fault

no_fault : (page : Page) → IsExplained page → IsFault page → ⊥
no_fault page e (inl wrong) = wrong (explained_right page e)
no_fault page e (inr (inl over)) = over.1 (explained_moved page e over.0)
no_fault page e (inr (inr again)) =
    let right = subst (λ steps. is_right_from (facts_of page e.truth) steps ≡ true) again.1.1 e.right in
    let first = (and_parts (may_make Release (facts_of page e.truth)) _ right).0 in
    let may = (and_parts (may_release page.target e.truth) (not page.released) first).1 in
    let both : not true ≡ true = subst (λ b. not b ≡ true) again.0 may in
    absurd (cc both)

pub allowed_has_none : (steps : List Step) → is_right steps ≡ true → HasFault steps → ⊥
allowed_has_none steps right h =
    no_fault (after_all h.moves h.pages h.place) (moves_explained h.moves h.pages (λ x. start_explained steps (h.pages x) right (h.start x)) h.place) h.fault

-- ---- where the bytes at offset 0 are right, and nowhere else

abbrev Exact : Truth → ℕ → ℕ → ℕ → Type 0
Exact InSource s d m = (s ≡ m) × (d ≢ m)
Exact InBoth s d m = (s ≡ m) × (d ≡ m)
Exact InDestination s d m = (d ≡ m) × (s ≢ m)

agree_of : (t : Truth) (s d m : ℕ) → Exact t s d m → Agree t s d m
agree_of InSource s d m h = h.0
agree_of InBoth s d m h = h
agree_of InDestination s d m h = h.0

record IsExact (page : Page) (t : Truth) : Type 0 where
  pub live : page.live 0 ≡ true
  pub some : 0 ≢ page.memory 0
  pub settled : is_settled page.protection page.target t ≡ true
  pub exact : Exact t (page.source 0) (page.destination 0) (page.memory 0)

-- the same, but a store is still to come where stores are allowed
record IsReady (page : Page) (t : Truth) : Type 0 where
  pub live : page.live 0 ≡ true
  pub some : 0 ≢ page.memory 0
  pub settled : is_settled page.protection page.target t ≡ true
  pub agrees : Agree t (page.source 0) (page.destination 0) (page.memory 0)
  pub exact : is_read_write page.protection ≡ false → Exact t (page.source 0) (page.destination 0) (page.memory 0)

abbrev Leads : (ℕ → Page) → Type 0
Leads pages = (moves : List Move) × IsFault (after_all moves pages 0)

leads_by : (move : Move) (pages : ℕ → Page) → Leads (after move pages) → Leads pages
leads_by move pages leads = (move ∷ leads.0, leads.1)

leads_here : (pages : ℕ → Page) (page : Page) → pages 0 ≡ page → IsFault page → Leads pages
leads_here pages page is fault = ([], subst (λ p. IsFault p) (sym is) fault)

abbrev made : Step → List Step → Page → Page
made step rest page = record (after_step step page) { left = rest }

made_is : (pages : ℕ → Page) (page : Page) (step : Step) (rest : List Step) → pages 0 ≡ page → page.left ≡ step ∷ rest → after (Make 0) pages 0 ≡ made step rest page
made_is pages page step rest is same = ap (λ (p : Page). after_first p.left p) is ∙ ap (λ l. after_first l page) same

-- ---- bytes that are right nowhere

record IsLost (page : Page) : Type 0 where
  pub live : page.live 0 ≡ true
  pub some : 0 ≢ page.memory 0
  pub source : page.source 0 ≢ page.memory 0
  pub destination : page.destination 0 ≢ page.memory 0

chosen_apart : (here : Bool) (s d m : ℕ) → s ≢ m → d ≢ m → (if here then s else d) ≢ m
chosen_apart true s d m x y = x
chosen_apart false s d m x y = y

lost_step : (step : Step) (rest : List Step) (page : Page) → IsLost page → IsLost (made step rest page)
lost_step Protect rest page l = record { live = l.live; some = l.some; source = l.source; destination = l.destination }
lost_step Hide rest page l = record { live = l.live; some = l.some; source = l.source; destination = l.destination }
lost_step Copy rest page l = record {
  live = l.live;
  some = l.some;
  source = l.source;
  destination = chosen_apart (page.live 0) (page.source 0) (page.destination 0) (page.memory 0) l.source l.destination;
}
lost_step Remap rest page l = record { live = l.live; some = l.some; source = l.source; destination = l.destination }
lost_step Unprotect rest page l = record { live = l.live; some = l.some; source = l.source; destination = l.destination }
lost_step Release rest page l = record { live = l.live; some = l.some; source = l.some; destination = l.destination }

lost_load : (page : Page) → IsLost page → page.protection ≢ Hidden → IsLoadedRight page → ⊥
lost_load page l open_page r =
    chosen_apart (is_source page.target) (page.source 0) (page.destination 0) (page.memory 0) l.source l.destination (r.bytes 0 l.live open_page)

lost_over : (protection : Protection) (page : Page) → page.protection ≡ protection → page.left ≡ [] → IsLost page → IsFault page
lost_over Hidden page is over l = inr (inl (over, λ moved. (let both : Hidden ≡ ReadWrite = sym is ∙ moved.protection in absurd (cc both))))
lost_over ReadOnly page is over l = inl (lost_load page l (λ hidden. (let both : ReadOnly ≡ Hidden = sym is ∙ hidden in absurd (cc both))))
lost_over ReadWrite page is over l = inl (lost_load page l (λ hidden. (let both : ReadWrite ≡ Hidden = sym is ∙ hidden in absurd (cc both))))

lost_leads : (left : List Step) (pages : ℕ → Page) (page : Page) → pages 0 ≡ page → page.left ≡ left → IsLost page → Leads pages
lost_leads [] pages page is same l = leads_here pages page is (lost_over page.protection page refl same l)
lost_leads (step ∷ rest) pages page is same l =
    leads_by (Make 0) pages (lost_leads rest (after (Make 0) pages) (made step rest page) (made_is pages page step rest is same) refl (lost_step step rest page l))

-- ---- the client's store

store_exact : (protection : Protection) (side : Side) (t : Truth) (s d : ℕ → ℕ) → is_read_write protection ≡ true → is_settled protection side t ≡ true
    → Exact t (stored (is_source side) 0 ((if is_source side then d 0 else s 0) + 1) s 0) (stored (not (is_source side)) 0 ((if is_source side then d 0 else s 0) + 1) d 0)
    ((if is_source side then d 0 else s 0) + 1)
store_exact Hidden side t s d writable settled = cc writable
store_exact ReadOnly side t s d writable settled = cc writable
store_exact ReadWrite Source InSource s d writable settled = (refl, λ e. omega (arith, e))
store_exact ReadWrite Source InBoth s d writable settled = cc settled
store_exact ReadWrite Source InDestination s d writable settled = cc settled
store_exact ReadWrite Destination InSource s d writable settled = cc settled
store_exact ReadWrite Destination InBoth s d writable settled = cc settled
store_exact ReadWrite Destination InDestination s d writable settled = (refl, λ e. omega (arith, e))

abbrev new_byte : Page → ℕ
new_byte page = (if is_source page.target then page.destination 0 else page.source 0) + 1

abbrev refreshed : Page → Page
refreshed page = record page {
  source = stored (is_source page.target) 0 (new_byte page) page.source;
  destination = stored (not (is_source page.target)) 0 (new_byte page) page.destination;
  memory = with_at page.memory 0 (new_byte page);
}

refreshed_is : (pages : ℕ → Page) (page : Page) → pages 0 ≡ page → is_read_write page.protection ≡ true → page.live 0 ≡ true
    → after (Store 0 0 (new_byte page)) pages 0 ≡ refreshed page
refreshed_is pages page is writable live =
    ap (after_store 0 (new_byte page)) is ∙ ap (λ b. if b then refreshed page else page) (and_from (is_read_write page.protection) (page.live 0) writable live)

refreshed_exact : (page : Page) (t : Truth) → IsReady page t → is_read_write page.protection ≡ true → IsExact (refreshed page) t
refreshed_exact page t r writable = record {
  live = r.live;
  some = λ e. omega (arith, e);
  settled = r.settled;
  exact = store_exact page.protection page.target t page.source page.destination writable r.settled;
}

-- ---- a step that the rule allows

copy_exact : (protection : Protection) (t : Truth) (live : Bool) (s d m : ℕ) → live ≡ true → may_copy t ≡ true → is_read_write protection ≡ false → Exact t s d m
    → Exact (truth_copied protection t) s (if live then s else d) m
copy_exact protection t false s d m is_live may writable h = cc is_live
copy_exact protection InDestination true s d m is_live may writable h = cc may
copy_exact ReadWrite t true s d m is_live may writable h = cc writable
copy_exact ReadOnly InSource true s d m is_live may writable h = (h.0, h.0)
copy_exact ReadOnly InBoth true s d m is_live may writable h = (h.0, h.0)
copy_exact Hidden InSource true s d m is_live may writable h = (h.0, h.0)
copy_exact Hidden InBoth true s d m is_live may writable h = (h.0, h.0)

step_ready : (step : Step) (rest : List Step) (page : Page) (t : Truth) → IsExact page t → may_make step (facts_of page t) ≡ true
    → is_right_between (facts_after step (facts_of page t)) ≡ true → IsReady (made step rest page) (facts_after step (facts_of page t)).truth
step_ready Protect rest page t e may between =
    record { live = e.live; some = e.some; settled = between; agrees = agree_of t _ _ _ e.exact; exact = λ apart. e.exact }
step_ready Hide rest page t e may between =
    record { live = e.live; some = e.some; settled = between; agrees = agree_of t _ _ _ e.exact; exact = λ apart. e.exact }
step_ready Copy rest page t e may between = record {
  live = e.live;
  some = e.some;
  settled = between;
  agrees = copy_agrees page.protection t (page.live 0) (page.source 0) (page.destination 0) (page.memory 0) e.live may (agree_of t _ _ _ e.exact);
  exact = λ apart. copy_exact page.protection t (page.live 0) (page.source 0) (page.destination 0) (page.memory 0) e.live may apart e.exact;
}
step_ready Remap rest page t e may between =
    record { live = e.live; some = e.some; settled = between; agrees = agree_of t _ _ _ e.exact; exact = λ apart. e.exact }
step_ready Unprotect rest page t e may between = record {
  live = e.live;
  some = e.some;
  settled = between;
  agrees = unprotect_agrees page.target t (page.source 0) (page.destination 0) (page.memory 0) (agree_of t _ _ _ e.exact);
  exact = λ apart. cc apart;
}
step_ready Release rest page t e may between =
    let right = release_agrees page.target t (page.source 0) (page.destination 0) (page.memory 0) (and_parts _ _ may).0 (agree_of t _ _ _ e.exact) in
    record { live = e.live; some = e.some; settled = between; agrees = right; exact = λ apart. (right, e.some) }

-- ---- a step after which loads are wrong

wrong_read_only : (side : Side) (t : Truth) (s d m : ℕ) → is_found side t ≡ false → Exact t s d m → (if is_source side then s else d) ≢ m
wrong_read_only Source InSource s d m unfound h = cc unfound
wrong_read_only Source InBoth s d m unfound h = cc unfound
wrong_read_only Source InDestination s d m unfound h = h.1
wrong_read_only Destination InSource s d m unfound h = h.1
wrong_read_only Destination InBoth s d m unfound h = cc unfound
wrong_read_only Destination InDestination s d m unfound h = cc unfound

-- a page that was settled is mapped to the destination
wrong_remapped : (protection : Protection) (side : Side) (t : Truth) (s d m : ℕ) → is_settled protection side t ≡ true → is_settled protection Destination t ≡ false
    → Exact t s d m → (protection ≢ Hidden) × (d ≢ m)
wrong_remapped Hidden side t s d m was unsettled h = cc unsettled
wrong_remapped ReadOnly side InSource s d m was unsettled h = (λ e. cc e, h.1)
wrong_remapped ReadOnly side InBoth s d m was unsettled h = cc unsettled
wrong_remapped ReadOnly side InDestination s d m was unsettled h = cc unsettled
wrong_remapped ReadWrite side InSource s d m was unsettled h = (λ e. cc e, h.1)
wrong_remapped ReadWrite Source InBoth s d m was unsettled h = cc was
wrong_remapped ReadWrite Destination InBoth s d m was unsettled h = cc was
wrong_remapped ReadWrite side InDestination s d m was unsettled h = cc unsettled

wrong_unprotected : (side : Side) (t : Truth) (s d m : ℕ) → is_settled ReadWrite side (truth_unprotected side t) ≡ false → Exact t s d m → (if is_source side then s else d) ≢ m
wrong_unprotected Source InSource s d m unsettled h = cc unsettled
wrong_unprotected Source InBoth s d m unsettled h = cc unsettled
wrong_unprotected Source InDestination s d m unsettled h = h.1
wrong_unprotected Destination InSource s d m unsettled h = h.1
wrong_unprotected Destination InBoth s d m unsettled h = cc unsettled
wrong_unprotected Destination InDestination s d m unsettled h = cc unsettled

still_settled : (protection : Protection) (side : Side) (t : Truth) → is_settled protection side t ≡ true → is_settled protection side (truth_copied protection t) ≡ false → ⊥
still_settled Hidden side t was unsettled = cc unsettled
still_settled ReadOnly Source t was unsettled = cc unsettled
still_settled ReadOnly Destination t was unsettled = cc unsettled
still_settled ReadWrite side t was unsettled = absurd (cc (was, unsettled))

settled_released : (protection : Protection) (side : Side) (t : Truth) → may_release side t ≡ true → is_settled protection side InDestination ≡ false → ⊥
settled_released protection Source t may unsettled = cc may
settled_released Hidden Destination t may unsettled = cc unsettled
settled_released ReadOnly Destination t may unsettled = cc unsettled
settled_released ReadWrite Destination t may unsettled = cc unsettled

step_wrong : (step : Step) (rest : List Step) (page : Page) (t : Truth) → IsExact page t → may_make step (facts_of page t) ≡ true
    → is_right_between (facts_after step (facts_of page t)) ≡ false → IsLoadedRight (made step rest page) → ⊥
step_wrong Protect rest page t e may between r =
    wrong_read_only page.target t (page.source 0) (page.destination 0) (page.memory 0) between e.exact (r.bytes 0 e.live (λ h. cc h))
step_wrong Hide rest page t e may between r = cc between
step_wrong Copy rest page t e may between r = still_settled page.protection page.target t e.settled between
step_wrong Remap rest page t e may between r =
    let wrong = wrong_remapped page.protection page.target t (page.source 0) (page.destination 0) (page.memory 0) e.settled between e.exact in
    wrong.1 (r.bytes 0 e.live wrong.0)
step_wrong Unprotect rest page t e may between r =
    wrong_unprotected page.target t (page.source 0) (page.destination 0) (page.memory 0) between e.exact (r.bytes 0 e.live (λ h. cc h))
step_wrong Release rest page t e may between r = settled_released page.protection page.target t (and_parts _ _ may).0 between

-- ---- a step that the rule doesn't allow

lost_copy : (t : Truth) (live : Bool) (s d m : ℕ) → may_copy t ≡ false → live ≡ true → Exact t s d m → (s ≢ m) × ((if live then s else d) ≢ m)
lost_copy t false s d m may is_live h = cc is_live
lost_copy InSource true s d m may is_live h = cc may
lost_copy InBoth true s d m may is_live h = cc may
lost_copy InDestination true s d m may is_live h = (h.1, h.1)

lost_release : (side : Side) (t : Truth) (s d m : ℕ) → may_release side t ≡ false → Exact t s d m → (side ≡ Source) ⊎ (d ≢ m)
lost_release Source t s d m may h = inl refl
lost_release Destination InSource s d m may h = inr h.1
lost_release Destination InBoth s d m may h = cc may
lost_release Destination InDestination s d m may h = cc may

bad_step : (step : Step) (rest : List Step) (pages : ℕ → Page) (page : Page) (t : Truth) → pages 0 ≡ page → page.left ≡ step ∷ rest → IsExact page t
    → may_make step (facts_of page t) ≡ false → Leads pages
bad_step Protect rest pages page t is same e may = absurd (cc may)
bad_step Hide rest pages page t is same e may = absurd (cc may)
bad_step Copy rest pages page t is same e may =
    let lost = lost_copy t (page.live 0) (page.source 0) (page.destination 0) (page.memory 0) may e.live e.exact in
    leads_by (Make 0) pages (lost_leads rest (after (Make 0) pages) (made Copy rest page) (made_is pages page Copy rest is same) refl
    (record { live = e.live; some = e.some; source = lost.0; destination = lost.1 }))
bad_step Remap rest pages page t is same e may = absurd (cc may)
bad_step Unprotect rest pages page t is same e may = absurd (cc may)
bad_step Release rest pages page t is same e may = elim (and_cases (may_release page.target t) (not page.released) may) [
  | inr again ↦ leads_here pages page is (inr (inr (not-false page.released again, (rest, same))))
  | inl early ↦ elim (lost_release page.target t (page.source 0) (page.destination 0) (page.memory 0) early e.exact) [
    | inl mapped ↦ leads_by (Make 0) pages (leads_here (after (Make 0) pages) (made Release rest page) (made_is pages page Release rest is same)
        (inl (λ r. (let both : true ≡ false = r.held mapped in absurd (cc both)))))
    | inr apart ↦ leads_by (Make 0) pages (lost_leads rest (after (Make 0) pages) (made Release rest page) (made_is pages page Release rest is same) refl
        (record { live = e.live; some = e.some; source = e.some; destination = apart }))
  ]
]

-- ---- the walk

abbrev Goes : List Step → Type 0
Goes left = (pages : ℕ → Page) (page : Page) (t : Truth) → pages 0 ≡ page → page.left ≡ left → IsReady page t
    → is_right_from (facts_of page t) left ≡ false → Leads pages

facts_made : (step : Step) (rest : List Step) (page : Page) (t : Truth)
    → facts_of (made step rest page) (facts_after step (facts_of page t)).truth ≡ facts_after step (facts_of page t)
facts_made Protect rest page t = refl
facts_made Hide rest page t = refl
facts_made Copy rest page t = refl
facts_made Remap rest page t = refl
facts_made Unprotect rest page t = refl
facts_made Release rest page t = refl

not_moved : (page : Page) → IsMoved page → is_over page.protection page.target page.released ≡ false → ⊥
not_moved page moved wrong =
    let over : is_over page.protection page.target page.released ≡ true = rw (moved.protection, moved.target) moved.released in
    let both : true ≡ false = sym over ∙ wrong in
    absurd (cc both)

rest_wrong : (step : Step) (rest : List Step) (page : Page) (t : Truth) → may_make step (facts_of page t) ≡ true
    → is_right_between (facts_after step (facts_of page t)) ≡ true → is_right_from (facts_of page t) (step ∷ rest) ≡ false
    → is_right_from (facts_of (made step rest page) (facts_after step (facts_of page t)).truth) rest ≡ false
rest_wrong step rest page t may between wrong = elim (and_cases (may_make step (facts_of page t)) (is_right_between (facts_after step (facts_of page t)) && is_right_from (facts_after step (facts_of page t)) rest) wrong) [
  | inl one ↦ absurd (both_ways (may_make step (facts_of page t)) one may)
  | inr more ↦ elim (and_cases (is_right_between (facts_after step (facts_of page t))) (is_right_from (facts_after step (facts_of page t)) rest) more) [
    | inl two ↦ absurd (both_ways (is_right_between (facts_after step (facts_of page t))) two between)
    | inr three ↦ subst (λ facts. is_right_from facts rest ≡ false) (sym (facts_made step rest page t)) three
  ]
]

exact_goes : (step : Step) (rest : List Step) → Goes rest → (pages : ℕ → Page) (page : Page) (t : Truth) → pages 0 ≡ page → page.left ≡ step ∷ rest → IsExact page t
    → is_right_from (facts_of page t) (step ∷ rest) ≡ false → Leads pages
exact_goes step rest go pages page t is same e wrong = elim (cases_Bool (may_make step (facts_of page t))) [
  | inr forbidden ↦ bad_step step rest pages page t is same e forbidden
  | inl may ↦ elim (cases_Bool (is_right_between (facts_after step (facts_of page t)))) [
    | inr between ↦ leads_by (Make 0) pages (leads_here (after (Make 0) pages) (made step rest page) (made_is pages page step rest is same)
        (inl (step_wrong step rest page t e may between)))
    | inl between ↦ leads_by (Make 0) pages (go (after (Make 0) pages) (made step rest page) (facts_after step (facts_of page t)).truth
        (made_is pages page step rest is same) refl (step_ready step rest page t e may between) (rest_wrong step rest page t may between wrong))
  ]
]

goes : (left : List Step) → Goes left
goes [] pages page t is same r wrong = leads_here pages page is (inr (inl (same, λ moved. not_moved page moved wrong)))
goes (step ∷ rest) pages page t is same r wrong = elim (cases_Bool (is_read_write page.protection)) [
  | inl writable ↦ leads_by (Store 0 0 (new_byte page)) pages (exact_goes step rest (goes rest) (after (Store 0 0 (new_byte page)) pages) (refreshed page) t
      (refreshed_is pages page is writable r.live) same (refreshed_exact page t r writable) wrong)
  | inr blocked ↦ exact_goes step rest (goes rest) pages page t is same
      (record { live = r.live; some = r.some; settled = r.settled; exact = r.exact blocked }) wrong
]

pub forbidden_has_one : (steps : List Step) → is_right steps ≡ false → HasFault steps
forbidden_has_one steps wrong =
    let leads = goes steps (started steps) (started steps 0) InSource refl refl
    (record { live = refl; some = λ e. omega (arith, e); settled = refl; agrees = refl; exact = λ apart. cc apart }) wrong in
    record {
      pages = started steps;
      moves = leads.0;
      place = 0;
      start = λ other. record { protection = refl; target = refl; released = refl; left = refl; bytes = λ offset live. refl };
      fault = leads.1;
    }
