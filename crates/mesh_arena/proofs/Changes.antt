-- What a change of one page does, by places.
use Rattle.std.proofs.Common.{◌≡◌, ◌≢◌, ℕ, ◌+◌, ◌<◌, ◌≤◌, true, false, cond, List, [], Option, Some, None, length, set, get_or, replicate, refl, sym, ap, ◌∙◌, arith, rules, length-set, get_or-set_same, get_or-set_other}
use Rattle.std.specs.Prelude.{not, unwrap_or, slice_range}
use Rattle.std.proofs.lemmas.List.{length-replicate, get_or_past, get_or-replicate, places, same_lists}
use Rattle.std.proofs.lemmas.List.FromFn.{length-map-range_with_len, get_or-map-range_with_len}
use Rattle.mesh_arena.specs.Pages.{Pages, IsTaken, is_taken, byte_at, bytes_of, free_count, blank_page, with_run, run_of, Takes, Gives, Writes}
use Rattle.mesh_arena.proofs.Counts.{free_count-set}
use Rattle.mesh_arena.proofs.Taken.{taken-below, is_taken-set_same, is_taken-set_other, is_taken-set_some}

byte_at-set_same : (a : Pages) (p o : ℕ) (bytes : List ℕ) → p < length a → byte_at (set a p (Some bytes)) p o ≡ get_or bytes o 0
unfolding byte_at
byte_at-set_same a p o bytes h = ap (λ (c : Option (List ℕ)). get_or (unwrap_or c []) o 0) (get_or-set_same a p (Some bytes) None h)

byte_at-set_none : (a : Pages) (p o : ℕ) → p < length a → ◌≡◌ {A = ℕ} (byte_at (set a p None) p o) 0
unfolding byte_at
byte_at-set_none a p o h = ap (λ (c : Option (List ℕ)). get_or (unwrap_or c []) o 0) (get_or-set_same a p None None h)

byte_at-set_other : (a : Pages) (p q o : ℕ) (c : Option (List ℕ)) → q ≢ p → byte_at (set a p c) q o ≡ byte_at a q o
unfolding byte_at
byte_at-set_other a p q o c h = ap (λ (d : Option (List ℕ)). get_or (unwrap_or d []) o 0) (get_or-set_other a p q c None h)

byte_at-bytes_of : (a : Pages) (p o : ℕ) → byte_at a p o ≡ get_or (bytes_of a p) o 0
unfolding byte_at
byte_at-bytes_of a p o = refl

get_or-zeros : (n o : ℕ) → ◌≡◌ {A = ℕ} (get_or (replicate n 0) o 0) 0
get_or-zeros n o = grind (arith, get_or-replicate, get_or_past, length-replicate)

get_or-blank_page : (o : ℕ) → ◌≡◌ {A = ℕ} (get_or blank_page o 0) 0
unfolding blank_page
get_or-blank_page o = get_or-zeros 4096 o

-- a page that was filled with zeros is blank
pub refilled : (filled old : List ℕ) → filled ≡ replicate (length old) 0 → length old ≡ 4096 → filled ≡ blank_page
unfolding blank_page
refilled filled old e sized = e ∙ ap (λ m. replicate m 0) sized

-- new bytes for a taken page leave the count of free pages
pub free_count-set_some : (a : Pages) (p : ℕ) (bytes : List ℕ) → IsTaken a p → free_count (set a p (Some bytes)) ≡ free_count a
free_count-set_some a p bytes taken =
    let e : free_count (set a p (Some bytes)) + cond (not true) 1 0 ≡ free_count a + 0 = rw taken at (free_count-set a p (Some bytes) (taken-below a p taken)) in omega arith

run_inside : (page run : List ℕ) (off k : ℕ) → off + length run ≤ length page → k < length run → get_or (with_run page off run) (off + k) 0 ≡ get_or run k 0
run_inside page run off k h l = search (rules, places)

run_before : (page run : List ℕ) (off o : ℕ) → off + length run ≤ length page → o < off → get_or (with_run page off run) o 0 ≡ get_or page o 0
run_before page run off o h l = search (rules, places)

run_after : (page run : List ℕ) (off o : ℕ) → off + length run ≤ length page → off + length run ≤ o → get_or (with_run page off run) o 0 ≡ get_or page o 0
run_after page run off o h l = search (rules, places)

-- a part of a page's bytes is the run of the bytes at its places
pub part-run_of : (a : Pages) (p off len : ℕ) → off + len ≤ length (bytes_of a p) → slice_range (bytes_of a p) off (off + len) ≡ run_of (byte_at a p) off len
unfolding run_of byte_at
part-run_of a p off len fits = same_lists _ _ (search (rules, places, length-map-range_with_len)) (λ k d h. grind (arith, places, get_or-map-range_with_len, length-map-range_with_len))

-- a free page with none below it, taken and cleared
pub takes : (a : Pages) (p : ℕ) → p < length a → is_taken a p ≡ false → ((q : ℕ) → q < p → IsTaken a q) → Takes a (set a p (Some blank_page)) p
takes a p h free below = record {
  in_arena = h;
  was_free = free;
  taken = is_taken-set_same a p (Some blank_page) h;
  zero = λ o. byte_at-set_same a p o blank_page h ∙ get_or-blank_page o;
  lowest = below;
  other_pages = λ q ne. is_taken-set_other a p q (Some blank_page) ne;
  other_bytes = λ q o ne. byte_at-set_other a p q o (Some blank_page) ne;
  fewer = (let e : free_count (set a p (Some blank_page)) + cond (not false) 1 0 ≡ free_count a + 0 = rw free at (free_count-set a p (Some blank_page) h) in omega arith);
  same_length = length-set a p (Some blank_page);
}

-- a taken page, freed
pub gives : (a : Pages) (p : ℕ) → IsTaken a p → Gives a (set a p None) p
gives a p taken = record {
  in_arena = taken-below a p taken;
  was_taken = taken;
  free = is_taken-set_same a p None (taken-below a p taken);
  zero = λ o. byte_at-set_none a p o (taken-below a p taken);
  other_pages = λ q ne. is_taken-set_other a p q None ne;
  other_bytes = λ q o ne. byte_at-set_other a p q o None ne;
  more = (let e : free_count (set a p None) + cond (not true) 1 0 ≡ free_count a + 1 = rw taken at (free_count-set a p None (taken-below a p taken)) in omega arith);
  same_length = length-set a p None;
}

-- a taken page with a run of bytes written into it
pub writes : (a : Pages) (p off : ℕ) (run : List ℕ) → IsTaken a p → off + length run ≤ length (bytes_of a p) → Writes a (set a p (Some (with_run (bytes_of a p) off run))) p off run
writes a p off run taken fits =
    let below : p < length a = taken-below a p taken in
    let new : List ℕ = with_run (bytes_of a p) off run in
    record {
      same_taken = is_taken-set_some a p new taken;
      inside = λ k l. byte_at-set_same a p (off + k) new below ∙ run_inside (bytes_of a p) run off k fits l;
      before = λ o l. byte_at-set_same a p o new below ∙ run_before (bytes_of a p) run off o fits l ∙ sym (byte_at-bytes_of a p o);
      after = λ o l. byte_at-set_same a p o new below ∙ run_after (bytes_of a p) run off o fits l ∙ sym (byte_at-bytes_of a p o);
      other_bytes = λ q o ne. byte_at-set_other a p q o (Some new) ne;
      same_free = free_count-set_some a p new taken;
      same_length = length-set a p (Some new);
    }
