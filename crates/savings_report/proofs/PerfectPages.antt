-- Perfect packing, class by class.
use Rattle.std.proofs.Common.{◌≡◌, ℕ, zero, suc, ◌*◌, ◌<◌, ◌≤◌, List, [], ◌∷◌, length, map, get_or, slice_index, ap, refl, sym, subst, ◌∙◌, arith}
use Rattle.std.specs.Int.{div_ceil}
use Rattle.std.proofs.lemmas.Grind.{div_ceil_times, same_number_lists}
use Rattle.std.specs.List.{All}
use Rattle.model_heap.specs.Table.{Table}
use Rattle.model_words.specs.Classes.{Row, table}
use Rattle.savings_report.specs.FigureSamples.{AreFew, of_class, total}
use Rattle.savings_replay.specs.ClassCounts.{class_objects, held_pages}
use Rattle.savings_replay.specs.ClassLaws.{BytesFitPages, FitsPages, ObjectsFitPages, pages_needed}
use Rattle.savings_replay.specs.Alike.{ClassesAreAlike, HeapsAreSound}
use Rattle.savings_report.specs.Laws.{PerfectIsLeast}
use Rattle.savings_report.specs.Samples.{held_by_class, live_bytes, perfect_pages, sample_of}

-- at a place of the table
row_needed : (t : Table) (rows : List Row) (k : ℕ) → k < length rows
    → pages_needed (get_or (map (λ r. r.size) rows) k 0) (get_or (map (λ row. class_objects t row.size) rows) k 0)
    ≡ get_or (map (λ row. pages_needed row.size (class_objects t row.size)) rows) k 0
row_needed t [] k below = absurd (omega (arith, below))
row_needed t (r ∷ rows) zero below = refl
row_needed t (r ∷ rows) (suc k) below = row_needed t rows k (omega (arith, below))

-- pages that are needed at each place of the table are those of perfect packing
pub are_perfect : (t : Table) (classes objects pages : List ℕ) → classes ≡ map (λ r. r.size) table → objects ≡ map (λ row. class_objects t row.size) table
    → length pages ≡ 10 → ((k : ℕ) → k < 10 → slice_index pages k ≡ pages_needed (slice_index classes k) (slice_index objects k)) → pages ≡ perfect_pages t
are_perfect t classes objects pages classes_are objects_are len each =
    same_number_lists pages (perfect_pages t) len (λ k below.
    let here : k < 10 = omega (arith, below, len) in
    each k here ∙ ap (λ (cs : List ℕ). pages_needed (slice_index cs k) (slice_index objects k)) classes_are
    ∙ ap (λ (os : List ℕ). pages_needed (slice_index (map (λ r. r.size) table) k) (slice_index os k)) objects_are
    ∙ row_needed t table k here)

-- they are few where the physical pages are
rows_few : (t : Table) (rows : List Row) → FitsPages t → All (λ n. n ≤ 65538) (map (λ row. held_pages t row.size) rows)
    → All (λ n. n < 131072) (map (λ row. pages_needed row.size (class_objects t row.size)) rows)
rows_few t [] fits few k d below = absurd (omega (arith, below))
rows_few t (r ∷ rows) fits few zero d below =
    let most : held_pages t r.size ≤ 65538 = few 0 0 (omega arith) in omega (arith, most, fits r.size)
rows_few t (r ∷ rows) fits few (suc k) d below = rows_few t rows fits (λ j e less. few (suc j) e (omega (arith, less))) k d (omega (arith, below))

pub perfect_few : (t : Table) → FitsPages t → All (λ n. n ≤ 65538) (held_by_class t) → AreFew (perfect_pages t)
perfect_few t fits few = rows_few t table fits few

-- fewer pages than a heap has that has as many objects of each class
rows_least : (t u : Table) (rows : List Row) → FitsPages u → ((class : ℕ) → class_objects t class ≡ class_objects u class) → (k : ℕ)
    → of_class k (map (λ row. pages_needed row.size (class_objects t row.size)) rows) ≤ of_class k (map (λ row. held_pages u row.size) rows)
rows_least t u [] fits alike k = omega arith
rows_least t u (r ∷ rows) fits alike zero = subst (λ n. pages_needed r.size n ≤ held_pages u r.size) (sym (alike r.size)) (fits r.size)
rows_least t u (r ∷ rows) fits alike (suc k) = rows_least t u rows fits alike k

-- bytes that fit into pages need no more pages
ceil_within : (bytes pages : ℕ) → bytes ≤ 4096 * pages → div_ceil bytes 4096 ≤ pages
ceil_within bytes pages few = let times = (div_ceil_times bytes 4096 (omega arith)).1 in omega (arith, times, few)

pub perfect_least : ObjectsFitPages → BytesFitPages → HeapsAreSound → ClassesAreAlike → PerfectIsLeast
unfolding sample_of
perfect_least fit bytes sound alike settings calls f is =
    let kept = sound settings calls f is in record {
      without = rows_least f.heaps.without f.heaps.without table (fit f.heaps.without kept.without) (λ class. refl);
      with = rows_least f.heaps.without f.heaps.meshing.table table (fit f.heaps.meshing.table kept.with) (λ class. alike settings calls f class is);
      live = ceil_within (live_bytes f.heaps.without) (total (perfect_pages f.heaps.without)) (bytes f.heaps.without kept.without);
    }
