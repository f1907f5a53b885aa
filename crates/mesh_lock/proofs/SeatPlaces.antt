-- Where the walk stands in one seat's calls: all before are right, and what is left begins where it may or is wrong.
use Rattle.std.proofs.Common.{◌≡◌, ℕ, suc, ◌+◌, ◌-◌, ◌<◌, ◌≤◌, true, false, List, [], ◌∷◌, ◌++◌, length, nat_eq, take, drop, slice_get, ap, subst, refl, sym, ◌∙◌, arith, inl, inr, Some, None, append_assoc, append-nil}
use Rattle.std.specs.List.{All}
use Rattle.std.proofs.lemmas.Bool.Decides.{eqb_tells, leb_tells}
use Rattle.std.proofs.lemmas.List.{length-append}
use Rattle.std.proofs.lemmas.Option.{slice_get_within}
use Rattle.std.proofs.Math.Seq.{take-append_seam}
use Rattle.model_memory.specs.Memory.{Memory, empty_memory}
use Rattle.model_memory.specs.Plain.{Entry}
use Rattle.model_memory.specs.Reads.{IsRight, Kept, call_of, is_out_of_place, memory_after, places_from, read_reply, recorded}
use Rattle.model_memory.specs.Seats.{calls_of}
use Rattle.model_memory.proofs.FittingCalls.{drop_at, get_seam}
use Rattle.model_memory.proofs.WovenCalls.{AtLeast, entry_call, first_or, looks, places_least}
use Rattle.mesh_lock.specs.Walk.{IsAnswered, StopsAt}
use Rattle.mesh_lock.proofs.ReadPlaces.{Ascend, Leaves, in_place, leaves_read, leaves_recorded, places_ascend, wrong_after_read, wrong_after_recorded, wrong_before_recorded, wrong_past_end}

-- the indices of a worker's entries
abbrev pub places_of : ℕ → List Entry → List ℕ
places_of v entries = places_from 0 v entries

-- the walk stands before the rest of a seat's calls, with `n` entries behind it
pub record Stands (entries : List Entry) (n v : ℕ) (calls rest : List Kept) : Type 0 where
  pub before : List Kept
  pub split : calls ≡ before ++ rest
  pub right : (i : ℕ) → i < length before → IsRight entries (places_of v entries) calls i
  pub leaves : Leaves (places_of v entries) (length entries) before n (places_from n v (drop n entries))
  pub own : recorded rest ≡ calls_of v (drop n entries)
  pub early : (kept : Kept) (tail : List Kept) (q : ℕ) → rest ≡ kept ∷ tail → kept.seen ≡ Some q → q < n
      → is_out_of_place (places_of v entries) (length entries) before q ≡ true

-- a call that is not right, after calls that are
pub record Wrong (entries : List Entry) (v : ℕ) (calls : List Kept) (i : ℕ) : Type 0 where
  pub right : (k : ℕ) → k < i → IsRight entries (places_of v entries) calls k
  pub here : IsRight entries (places_of v entries) calls i → ⊥

-- one call more stands before
split_more : (calls before tail : List Kept) (kept : Kept) → calls ≡ before ++ kept ∷ tail → calls ≡ (before ++ kept ∷ []) ++ tail
split_more calls before tail kept split = split ∙ sym (append_assoc before (kept ∷ []) tail)

-- the call there is the first one left
call_there : (calls before tail : List Kept) (kept other : Kept) → calls ≡ before ++ kept ∷ tail → slice_get calls (length before) ≡ Some other → kept ≡ other
call_there calls before tail kept other split at =
    let eq : Some kept ≡ Some other = sym (get_seam before tail kept) ∙ ap (λ (l : List Kept). slice_get l (length before)) (sym split) ∙ at in cc eq

-- the calls before it are those that were taken
calls_before : (calls before rest : List Kept) → calls ≡ before ++ rest → take (length before) calls ≡ before
calls_before calls before rest split = ap (λ (l : List Kept). take (length before) l) split ∙ take-append_seam before rest

-- right up to here and right here
right_more : (entries : List Entry) (v : ℕ) (calls before : List Kept) (kept : Kept) → ((i : ℕ) → i < length before → IsRight entries (places_of v entries) calls i)
    → IsRight entries (places_of v entries) calls (length before) → (i : ℕ) → i < length (before ++ kept ∷ []) → IsRight entries (places_of v entries) calls i
right_more entries v calls before kept right here i below = elim (eqb_tells i (length before)) [
  | inl same ↦ subst (λ (k : ℕ). IsRight entries (places_of v entries) calls k) (sym same.1) here
  | inr other ↦ right i (let l = length-append before (kept ∷ []) in let o = other.1 in omega (arith, below, l, o))
]

-- the entries from `n` on, with their places
ascend_from : (entries : List Entry) (n v : ℕ) → length entries ≡ n + length (drop n entries) → Ascend (length entries) (places_from n v (drop n entries))
ascend_from entries n v many = places_ascend (drop n entries) n v (length entries) many

-- a read that is right here is taken
pub stands_read : (entries : List Entry) (n v : ℕ) (m : Memory) (calls tail : List Kept) (kept : Kept) → length entries ≡ n + length (drop n entries)
    → m ≡ memory_after empty_memory (take n entries) → IsAnswered n m kept → Stands entries n v calls (kept ∷ tail) → Stands entries n v calls tail
stands_read entries n v m calls tail kept many is answered s =
    let places = places_of v entries in
    let total = length entries in
    let ps = places_from n v (drop n entries) in
    let fine : is_out_of_place places total s.before n ≡ false = in_place _ _ _ _ _ _ (ascend_from _ _ _ many) s.leaves (omega arith) s.leaves.next in
    let here : IsRight entries places calls (length s.before) = λ other q at sees.
    let same = call_there _ _ _ _ _ s.split at in
    let n_is : n ≡ q = cc (sym answered.0 ∙ ap (λ (k : Kept). k.seen) same ∙ sees) in (
      subst (λ (x : ℕ). is_out_of_place places total (take (length s.before) calls) x ≡ false) n_is
          (subst (λ (b : List Kept). is_out_of_place places total b n ≡ false) (sym (calls_before _ _ _ s.split)) fine),
      subst (λ (x : ℕ). other.reply ≡ read_reply (memory_after empty_memory (take x entries)) other.command) n_is
          (subst (λ (k : Kept). k.reply ≡ read_reply (memory_after empty_memory (take n entries)) k.command) same
          (subst (λ (x : Memory). kept.reply ≡ read_reply x kept.command) is answered.1)),
    ) in
    record {
      before = s.before ++ kept ∷ [];
      split = split_more _ _ _ _ s.split;
      right = right_more _ _ _ _ _ s.right here;
      leaves = leaves_read _ _ _ _ _ _ _ s.leaves answered.0 (omega arith) s.leaves.next;
      own = (let o : recorded (kept ∷ tail) ≡ calls_of v (drop n entries) = s.own in rw answered.0 at o);
      early = λ next rest q at sees below. wrong_after_read places total s.before kept _ _ answered.0 below;
    }

-- and so are several
pub stands_reads : (entries : List Entry) (n v : ℕ) (m : Memory) (calls rest taken left : List Kept) → length entries ≡ n + length (drop n entries)
    → m ≡ memory_after empty_memory (take n entries) → rest ≡ taken ++ left → All (IsAnswered n m) taken → Stands entries n v calls rest → Stands entries n v calls left
stands_reads entries n v m calls rest [] left many is split right s = subst (λ (l : List Kept). Stands entries n v calls l) split s
stands_reads entries n v m calls rest (c ∷ cs) left many is split right s =
    stands_reads entries n v m calls (cs ++ left) cs left many is refl (λ k d below. right (suc k) d (omega (arith, below)))
    (stands_read entries n v m calls (cs ++ left) c many is (right 0 c (omega arith)) (subst (λ (l : List Kept). Stands entries n v calls l) split s))

-- a read out of place is not right
misplaced : (entries : List Entry) (v : ℕ) (calls before tail : List Kept) (kept : Kept) (q : ℕ) → calls ≡ before ++ kept ∷ tail → kept.seen ≡ Some q
    → is_out_of_place (places_of v entries) (length entries) before q ≡ true → IsRight entries (places_of v entries) calls (length before) → ⊥
misplaced entries v calls before tail kept q split sees out right = grind (arith, get_seam before tail kept, calls_before calls before (kept ∷ tail) split)

-- the first call left is wrong
pub wrong_here : (entries : List Entry) (n v : ℕ) (calls rest : List Kept) (s : Stands entries n v calls rest) (i : ℕ) → i ≡ length calls - length rest
    → (IsRight entries (places_of v entries) calls (length s.before) → ⊥) → Wrong entries v calls i
wrong_here entries n v calls rest s i is wrong =
    let same : length s.before ≡ i = omega (arith, length-append s.before rest, (ap (λ (x : List Kept). length x) s.split), is) in
    subst (λ (k : ℕ). Wrong entries v calls k) same (record { right = s.right; here = wrong })

-- a read at which the walk stops is not right
pub stopped_wrong : (entries : List Entry) (n v : ℕ) (m : Memory) (calls rest : List Kept) (s : Stands entries n v calls rest) → m ≡ memory_after empty_memory (take n entries)
    → StopsAt n m true rest → IsRight entries (places_of v entries) calls (length s.before) → ⊥
stopped_wrong entries n v m calls [] s is stops right = absurd (cc stops)
stopped_wrong entries n v m calls (kept ∷ tail) s is stops right = elim (leb_tells (suc stops.0) n) [
  | inl less ↦ misplaced entries v calls s.before tail kept stops.0 s.split stops.1 (s.early kept tail stops.0 refl stops.1 less.1) right
  | inr not_less ↦
      let same : stops.0 ≡ n = (let b = stops.2 in let o = not_less.1 in omega (arith, b, o)) in
      let sees : kept.seen ≡ Some n = stops.1 ∙ ap (λ (x : ℕ). Some x) same in
      let at : slice_get calls (length s.before) ≡ Some kept = ap (λ (l : List Kept). slice_get l (length s.before)) s.split ∙ get_seam s.before tail kept in
      stops.3 (sees, subst (λ (x : Memory). kept.reply ≡ read_reply x kept.command) (sym is) ((right kept n at sees).1))
]

-- another worker's entry is passed
pub stands_past : (entries es : List Entry) (e : Entry) (n v : ℕ) (m : Memory) (calls rest : List Kept) → drop n entries ≡ e ∷ es → drop (suc n) entries ≡ es
    → suc n ≤ length entries → nat_eq e.worker v ≡ false → StopsAt n m false rest → Stands entries n v calls rest → Stands entries (suc n) v calls rest
stands_past entries es e n v m calls rest cut cut_on inside other stops s =
    let same : places_from n v (drop n entries) ≡ places_from (suc n) v (drop (suc n) entries) =
    ap (λ (x : List Entry). places_from n v x) cut ∙ rw other (ap (λ (x : List Entry). places_from (suc n) v x) (sym cut_on)) in
    let calls_same : calls_of v (drop n entries) ≡ calls_of v (drop (suc n) entries) =
    ap (λ (x : List Entry). calls_of v x) cut ∙ rw other (ap (λ (x : List Entry). calls_of v x) (sym cut_on)) in
    record {
      before = s.before;
      split = s.split;
      right = s.right;
      leaves = record {
        cut = s.leaves.cut ∙ same;
        seen = λ q above. s.leaves.seen q (omega (arith, above));
        after = λ q above. s.leaves.after q (omega (arith, above));
        next = first_least (places_from (suc n) v (drop (suc n) entries)) (suc n) (length entries) inside (places_least (drop (suc n) entries) (suc n) v);
      };
      own = s.own ∙ calls_same;
      early = λ kept tail q at sees below. late rest kept tail q at sees below stops;
    }
  where
    first_least : (ps : List ℕ) (k total : ℕ) → k ≤ total → AtLeast k ps → k ≤ first_or total ps
    first_least [] k total h least = h
    first_least (p ∷ ps) k total h least = least.0

    late : (l : List Kept) (kept : Kept) (tail : List Kept) (q : ℕ) → l ≡ kept ∷ tail → kept.seen ≡ Some q → q < suc n → StopsAt n m false l
        → is_out_of_place (places_of v entries) (length entries) s.before q ≡ true
    late [] kept tail q at sees below stop = absurd (cc at)
    late (c ∷ cs) kept tail q at sees below stop =
        let same_call : c ≡ kept = cc at in
        let above : n < q = stop q (ap (λ (k : Kept). k.seen) same_call ∙ sees) in absurd (omega (arith, above, below))

-- its own entry takes a recorded call
pub stands_step : (entries es : List Entry) (e : Entry) (n v : ℕ) (calls tail : List Kept) (kept : Kept) → drop n entries ≡ e ∷ es → drop (suc n) entries ≡ es
    → length entries ≡ n + length (drop n entries) → nat_eq e.worker v ≡ true → kept.seen ≡ None → Stands entries n v calls (kept ∷ tail) → Stands entries (suc n) v calls tail
stands_step entries es e n v calls tail kept cut cut_on many own bare s =
    let places = places_of v entries in
    let total = length entries in
    let ps : places_from n v (drop n entries) ≡ n ∷ places_from (suc n) v (drop (suc n) entries) =
    ap (λ (x : List Entry). places_from n v x) cut ∙ rw own (ap (λ (x : List Entry). n ∷ places_from (suc n) v x) (sym cut_on)) in
    let leaves : Leaves places total s.before n (n ∷ places_from (suc n) v (drop (suc n) entries)) =
    subst (λ (x : List ℕ). Leaves places total s.before n x) ps s.leaves in
    let ascend : Ascend total (n ∷ places_from (suc n) v (drop (suc n) entries)) = subst (λ (x : List ℕ). Ascend total x) ps (ascend_from entries n v many) in
    let there = drop_at places (length (recorded s.before)) n (places_from (suc n) v (drop (suc n) entries)) leaves.cut in
    let calls_same : calls_of v (drop n entries) ≡ entry_call e ∷ calls_of v (drop (suc n) entries) =
    ap (λ (x : List Entry). calls_of v x) cut ∙ rw own (ap (λ (x : List Entry). entry_call e ∷ calls_of v x) (sym cut_on)) in
    let both : call_of kept ∷ recorded tail ≡ entry_call e ∷ calls_of v (drop (suc n) entries) =
    (let o : recorded (kept ∷ tail) ≡ entry_call e ∷ calls_of v (drop (suc n) entries) = s.own ∙ calls_same in rw bare at o) in
    record {
      before = s.before ++ kept ∷ [];
      split = split_more calls s.before tail kept s.split;
      right = right_more entries v calls s.before kept s.right (λ other q at sees.
          let same = call_there calls s.before tail kept other s.split at in
          let clash : None ≡ Some q = sym bare ∙ ap (λ (k : Kept). k.seen) same ∙ sees in absurd (cc clash));
      leaves = leaves_recorded places total s.before kept n n (places_from (suc n) v (drop (suc n) entries)) ascend leaves bare;
      own = cc both;
      early = λ next rest q at sees below. wrong_after_recorded places total s.before kept n q bare there.0 (omega (arith, below));
    }

-- where its own entry finds no recorded call the first call left is not right
pub held_wrong : (entries es : List Entry) (e : Entry) (n v : ℕ) (m : Memory) (calls rest : List Kept) (s : Stands entries n v calls rest) → drop n entries ≡ e ∷ es
    → nat_eq e.worker v ≡ true → StopsAt n m false rest → ((kept : Kept) (tail : List Kept) → rest ≡ kept ∷ tail → kept.seen ≡ None → ⊥)
    → IsRight entries (places_of v entries) calls (length s.before) → ⊥
held_wrong entries es e n v m calls [] s cut own stops no_recorded right =
    let clash : [] ≡ entry_call e ∷ calls_of v es = s.own ∙ (ap (λ (x : List Entry). calls_of v x) cut ∙ rw own refl) in cc clash
held_wrong entries es e n v m calls (kept ∷ tail) s cut own stops no_recorded right = elim (looks kept.seen) [
  | inl bare ↦ no_recorded kept tail refl bare
  | inr some ↦
      let ps : places_from n v (drop n entries) ≡ n ∷ places_from (suc n) v es = ap (λ (x : List Entry). places_from n v x) cut ∙ rw own refl in
      let there = drop_at (places_of v entries) (length (recorded s.before)) n (places_from (suc n) v es) (s.leaves.cut ∙ ps) in
      misplaced entries v calls s.before tail kept some.0 s.split some.1
      (wrong_before_recorded (places_of v entries) (length entries) s.before n some.0 there.0 (stops some.0 some.1)) right
]

-- a call that is left at the journal's end is not right
pub left_is_wrong : (entries : List Entry) (n v : ℕ) (m : Memory) (calls rest : List Kept) (s : Stands entries n v calls rest) → drop n entries ≡ [] → length entries ≡ n
    → StopsAt n m false rest → (rest ≡ [] → ⊥) → IsRight entries (places_of v entries) calls (length s.before) → ⊥
left_is_wrong entries n v m calls [] s none end stops some right = some refl
left_is_wrong entries n v m calls (kept ∷ tail) s none end stops some right = elim (looks kept.seen) [
  | inl bare ↦
      let clash : call_of kept ∷ recorded tail ≡ [] = rw bare at (s.own ∙ ap (λ (x : List Entry). calls_of v x) none) in cc clash
  | inr seen ↦
      let above : n < seen.0 = stops seen.0 seen.1 in
      misplaced entries v calls s.before tail kept seen.0 s.split seen.1 (wrong_past_end (places_of v entries) (length entries) s.before seen.0 (omega (arith, above, end))) right
]

-- where none is left all are right
pub all_right : (entries : List Entry) (n v : ℕ) (calls : List Kept) → Stands entries n v calls [] → (i : ℕ) → IsRight entries (places_of v entries) calls i
all_right entries n v calls s i kept q at sees =
    s.right i (omega (arith, slice_get_within calls i kept at, (ap (λ (x : List Kept). length x) (s.split ∙ append-nil s.before)))) kept q at sees
