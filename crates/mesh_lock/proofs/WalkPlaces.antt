-- Where the walk stands in the calls of all seats that are looked at, and what was told.
use Rattle.std.proofs.Common.{◌≡◌, ℕ, suc, ◌+◌, ◌-◌, ◌<◌, ◌≤◌, Bool, true, false, List, [], ◌∷◌, length, nat_eq, take, drop, slice_get, ap, subst, refl, sym, ◌∙◌, arith, inl, inr, Option, Some, None}
use Rattle.std.proofs.lemmas.Bool.Decides.{eqb_tells, leb_tells}
use Rattle.std.proofs.lemmas.List.{get_or-take, get_or_past, length-take, length-take-le}
use Rattle.std.proofs.lemmas.Option.{slice_get_within}
use Rattle.model_memory.specs.Memory.{Memory, empty_memory}
use Rattle.model_memory.specs.Plain.{Entry}
use Rattle.model_memory.specs.Reads.{AreRight, IsRight, Kept, ReadDiffers, kept_by, memory_after, recorded}
use Rattle.model_memory.specs.Seats.{calls_of}
use Rattle.mesh_lock.specs.Walk.{AreLeft, IsFirstLeft, IsLeft, IsStep, StopsAt, Tells, left_of}
use Rattle.mesh_lock.proofs.SeatPlaces.{Stands, Wrong, all_right, held_wrong, left_is_wrong, places_of, stands_past, stands_reads, stands_step, stopped_wrong, wrong_here}
use Rattle.mesh_lock.proofs.BuiltHistories.{stepped_other, stepped_same}

-- nothing was told and all seats are looked at, or the seats below the one that was told are
abbrev pub IsToldAt : List (List Kept) → List Entry → ℕ → Option (ℕ × ℕ) → Type 0
IsToldAt seats entries many None = many ≡ length seats
IsToldAt seats entries many (Some told) = (told.0 ≡ many) × (many < length seats) × Wrong entries many (kept_by seats many) told.1

-- the walk with `n` entries behind it
pub record Looks (seats : List (List Kept)) (entries : List Entry) (n : ℕ) (rests : List (List Kept)) (told : Option (ℕ × ℕ)) : Type 0 where
  pub few : length rests ≤ length seats
  pub stands : (v : ℕ) → v < length rests → Stands entries n v (kept_by seats v) (left_of rests v)
  pub telling : IsToldAt seats entries (length rests) told

-- and it stands before calls for later
abbrev pub AreStopped : ℕ → Memory → List (List Kept) → Type 0
AreStopped n m rests = (v : ℕ) → v < length rests → StopsAt n m false (left_of rests v)

-- the beginning
pub looks_first : (seats : List (List Kept)) (entries : List Entry) → ((w : ℕ) → w < length seats → recorded (kept_by seats w) ≡ calls_of w entries)
    → Looks seats entries 0 seats None
looks_first seats entries own = grind arith

-- from a seat that was found on no seat is looked at
pub looks_told : (seats : List (List Kept)) (entries : List Entry) (n w i : ℕ) (rests rests' : List (List Kept)) (told' : Option (ℕ × ℕ)) → w < length rests
    → length rests ≤ length seats → ((v : ℕ) → v < w → Stands entries n v (kept_by seats v) (left_of rests v)) → Wrong entries w (kept_by seats w) i
    → rests' ≡ take w rests → told' ≡ Some (w, i) → Looks seats entries n rests' told'
looks_told seats entries n w i rests rests' told' inside few stands wrong cut tells = grind (arith, length-take-le, get_or-take)

-- what holds of the seats below the one that is told holds of those that are looked at from then on
stopped_below : (n w : ℕ) (m : Memory) (rests rests' : List (List Kept)) → w ≤ length rests → ((v : ℕ) → v < w → StopsAt n m false (left_of rests v)) → rests' ≡ take w rests
    → AreStopped n m rests'
stopped_below n w m rests rests' inside stops cut v low = grind (arith, length-take-le, get_or-take)

-- the reads of one seat that are right here are taken
stands_left : (seats : List (List Kept)) (entries : List Entry) (n v : ℕ) (m : Memory) (wrong : Bool) (rest left : List Kept) → length entries ≡ n + length (drop n entries)
    → m ≡ memory_after empty_memory (take n entries) → IsLeft n m wrong rest left → Stands entries n v (kept_by seats v) rest → Stands entries n v (kept_by seats v) left
stands_left seats entries n v m wrong rest left many is to s = stands_reads entries n v m (kept_by seats v) rest to.taken left many is to.split to.right s

-- after the reads of this length
pub looks_taken : (seats : List (List Kept)) (entries : List Entry) (n : ℕ) (m : Memory) (rests lefts rests' : List (List Kept)) (found : Option ℕ) (told told' : Option (ℕ × ℕ))
    → length entries ≡ n + length (drop n entries) → m ≡ memory_after empty_memory (take n entries) → length lefts ≡ length rests → Looks seats entries n rests told
    → AreLeft n m rests lefts found → Tells seats found lefts rests' told told' → Looks seats entries n rests' told' × AreStopped n m rests'
looks_taken seats entries n m rests lefts rests' None told told' many is same looks left tells = grind (arith, stands_left)
looks_taken seats entries n m rests lefts rests' (Some w) told told' many is same looks left tells =
    let inside : w < length lefts = (let b = left.0 in omega (arith, b, same)) in
    let stands : (v : ℕ) → v < w → Stands entries n v (kept_by seats v) (left_of lefts v) = λ v low.
    stands_left seats entries n v m false (left_of rests v) (left_of lefts v) many is (left.1 v low) (looks.stands v (let b = left.0 in omega (arith, low, b))) in
    let here = stands_left seats entries n w m true (left_of rests w) (left_of lefts w) many is left.2 (looks.stands w left.0) in
    let i = length (kept_by seats w) - length (left_of lefts w) in
    let wrong = wrong_here entries n w (kept_by seats w) (left_of lefts w) here i refl (stopped_wrong entries n w m (kept_by seats w) (left_of lefts w) here is left.2.stops) in (
      looks_told seats entries n w i lefts rests' told' inside (let f = looks.few in omega (arith, f, same)) stands wrong tells.0 tells.1,
      stopped_below n w m lefts rests' (omega (arith, inside)) (λ v low. (left.1 v low).stops) tells.0,
    )

-- after the next entry
pub looks_stepped : (seats : List (List Kept)) (entries es : List Entry) (e : Entry) (n : ℕ) (m : Memory) (rests mids rests' : List (List Kept)) (found : Option ℕ)
    (told told' : Option (ℕ × ℕ)) → drop n entries ≡ e ∷ es → drop (suc n) entries ≡ es → length entries ≡ n + length (drop n entries) → suc n ≤ length entries
    → length mids ≡ length rests → Looks seats entries n rests told → AreStopped n m rests → IsStep e.worker rests mids found → Tells seats found mids rests' told told'
    → Looks seats entries (suc n) rests' told'
looks_stepped seats entries es e n m rests mids rests' None told told' cut cut_on many inside same looks stopped step tells =
    let stands : (v : ℕ) → v < length mids → Stands entries (suc n) v (kept_by seats v) (left_of mids v) = λ v low.
    let lower : v < length rests = omega (arith, low, same) in
    elim (eqb_tells e.worker v) [
      | inl own ↦
          let stepped = step.0 (let o = own.1 in omega (arith, o, lower)) in
          let first : left_of rests v ≡ stepped.kept ∷ stepped.tail = subst (λ (x : ℕ). left_of rests x ≡ stepped.kept ∷ stepped.tail) own.1 stepped.first in
          let rest : left_of mids v ≡ stepped.tail = subst (λ (x : ℕ). left_of mids x ≡ stepped.tail) own.1 (stepped_same e.worker rests mids stepped) in
          subst (λ (l : List Kept). Stands entries (suc n) v (kept_by seats v) l) (sym rest)
          (stands_step _ _ _ _ _ _ _ _ cut cut_on many own.0 stepped.bare
          (subst (λ (l : List Kept). Stands entries n v (kept_by seats v) l) first (looks.stands v lower)))
      | inr other ↦
          let unmoved : left_of mids v ≡ left_of rests v = elim (leb_tells (suc e.worker) (length rests)) [
            | inl looked_at ↦ stepped_other _ _ _ _ (step.0 looked_at.1) other.1
            | inr past ↦ ap (λ (l : List (List Kept)). left_of l v) (step.1 (let p = past.1 in omega (arith, p)))
          ] in
          subst (λ (l : List Kept). Stands entries (suc n) v (kept_by seats v) l) (sym unmoved)
          (stands_past _ _ _ _ _ m _ _ cut cut_on inside other.0 (stopped v lower) (looks.stands v lower))
    ] in
    let mids_look : Looks seats entries (suc n) mids told = record {
      few = (let f = looks.few in omega (arith, f, same));
      stands = stands;
      telling = subst (λ (k : ℕ). IsToldAt seats entries k told) (sym same) looks.telling;
    } in
    subst (λ (t : Option (ℕ × ℕ)). Looks seats entries (suc n) rests' t) (sym tells.1) (subst (λ (l : List (List Kept)). Looks seats entries (suc n) l told) (sym tells.0) mids_look)
looks_stepped seats entries es e n m rests mids rests' (Some w) told told' cut cut_on many inside same looks stopped step tells =
    let own : nat_eq e.worker w ≡ true = elim (eqb_tells e.worker w) [ inl yes_own ↦ yes_own.0 | inr other ↦ absurd (other.1 (sym step.own)) ] in
    let stands : (v : ℕ) → v < w → Stands entries (suc n) v (kept_by seats v) (left_of rests v) = λ v low.
    let lower : v < length rests = (let b = step.below in omega (arith, b, low)) in
    let apart : nat_eq e.worker v ≡ false = elim (eqb_tells e.worker v) [
      | inl clash ↦ (let o = step.own in let c = clash.1 in absurd (omega (arith, o, c, low)))
      | inr other ↦ other.0
    ] in
    stands_past _ _ _ _ _ m _ _ cut cut_on inside apart (stopped v lower) (looks.stands v lower) in
    let here = looks.stands w step.below in
    let i = length (kept_by seats w) - length (left_of rests w) in
    let wrong = wrong_here _ n _ _ _ here _ refl (held_wrong _ _ _ _ _ m (kept_by seats w) _ here cut own (stopped w step.below) step.no_recorded) in
    looks_told _ _ _ _ _ _ _ _ step.below looks.few stands wrong (tells.0 ∙ ap (λ (l : List (List Kept)). take w l) step.same)
    (tells.1 ∙ ap (λ (l : List (List Kept)). Some (w, length (kept_by seats w) - length (left_of l w))) step.same)

-- after the journal
pub looks_last : (seats : List (List Kept)) (entries : List Entry) (n : ℕ) (m : Memory) (rests rests' : List (List Kept)) (found : Option ℕ) (told told' : Option (ℕ × ℕ))
    → drop n entries ≡ [] → length entries ≡ n → Looks seats entries n rests told → AreStopped n m rests → IsFirstLeft rests found → Tells seats found rests rests' told told'
    → Looks seats entries n rests' told' × ((v : ℕ) → left_of rests' v ≡ [])
looks_last seats entries n m rests rests' None told told' none end looks stopped left tells = (
  subst (λ (t : Option (ℕ × ℕ)). Looks seats entries n rests' t) (sym tells.1) (subst (λ (l : List (List Kept)). Looks seats entries n l told) (sym tells.0) looks),
  λ v. ap (λ (l : List (List Kept)). left_of l v) tells.0 ∙ left v,
)
looks_last seats entries n m rests rests' (Some w) told told' none end looks stopped left tells =
    let here = looks.stands w left.0 in
    let i = length (kept_by seats w) - length (left_of rests w) in
    let wrong = wrong_here _ n _ _ _ here _ refl (left_is_wrong _ _ w m (kept_by seats w) _ here none end (stopped w left.0) left.2) in (
      looks_told _ _ _ _ _ _ _ _ left.0 looks.few (λ v low. looks.stands v (let b = left.0 in omega (arith, low, b))) wrong tells.0 tells.1,
      λ v. ap (λ (l : List (List Kept)). left_of l v) tells.0 ∙ cut_empty v,
    )
  where
    cut_empty : (v : ℕ) → left_of (take w rests) v ≡ []
    cut_empty v = elim (leb_tells (suc v) w) [
      | inl low ↦ get_or-take w rests v [] low.1 ∙ left.1 v low.1
      | inr past ↦ get_or_past (take w rests) v [] (let l = length-take w rests in let p = past.1 in omega (arith, l, p))
    ]

-- a seat that is looked at to its end is right
right_below : (seats : List (List Kept)) (entries : List Entry) (n : ℕ) (rests : List (List Kept)) (told : Option (ℕ × ℕ)) → Looks seats entries n rests told
    → ((v : ℕ) → left_of rests v ≡ []) → (v : ℕ) → v < length rests → (k : ℕ) → IsRight entries (places_of v entries) (kept_by seats v) k
right_below seats entries n rests told looks empty v low k =
    all_right entries n v (kept_by seats v) (subst (λ (l : List Kept). Stands entries n v (kept_by seats v) l) (empty v) (looks.stands v low)) k

-- beyond the seats there is no call
none_beyond : (seats : List (List Kept)) (v k : ℕ) (kept : Kept) → length seats ≤ v → slice_get (kept_by seats v) k ≡ Some kept → ⊥
none_beyond seats v k kept past at =
    omega (arith, slice_get_within (kept_by seats v) k kept at, ap (λ (l : List Kept). length l) (get_or_past seats v [] past))

-- where nothing was told all reads are right
pub looks_right : (seats : List (List Kept)) (entries : List Entry) (n : ℕ) (rests : List (List Kept)) → Looks seats entries n rests None
    → ((v : ℕ) → left_of rests v ≡ []) → AreRight seats entries
looks_right seats entries n rests looks empty w i = elim (leb_tells (suc w) (length rests)) [
  | inl low ↦ right_below seats entries n rests None looks empty w low.1 i
  | inr past ↦ λ kept q at sees. absurd (none_beyond seats w i kept (let p = past.1 in let t = looks.telling in omega (arith, p, t)) at)
]

-- where a read was told it is the first that is not right
pub looks_wrong : (seats : List (List Kept)) (entries : List Entry) (n w i : ℕ) (rests : List (List Kept)) → Looks seats entries n rests (Some (w, i))
    → ((v : ℕ) → left_of rests v ≡ []) → (w < length seats) × ReadDiffers seats entries w i
looks_wrong seats entries n w i rests looks empty =
    let is : w ≡ length rests = looks.telling.0 in
    let wrong : Wrong entries w (kept_by seats w) i = subst (λ (k : ℕ). Wrong entries k (kept_by seats k) i) (sym is) looks.telling.2 in (
      omega (arith, is, looks.telling.1),
      record {
        right_below = λ v low k. right_below seats entries n rests (Some (w, i)) looks empty v (omega (arith, low, is)) k;
        right_before = wrong.right;
        wrong = wrong.here;
      },
    )
