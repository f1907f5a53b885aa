-- Samples of a run on two heaps: which of them are measured, and the figures of their numbers.
use Rattle.std.specs.Prelude.{ℕ, ◌+◌, ◌-◌, ◌*◌, ◌/◌, ◌^◌, ◌<◌, ◌≤◌, max, Bool, nat_eq, nat_le, if◌then◌else◌, List, [], ◌∷◌, length, map, take, drop, slice_index, sum, Option, Some, None}
use Rattle.std.specs.Int.{div_ceil}
use Rattle.std.specs.List.{All, find, list_all}
use Rattle.savings_report.specs.declared.table.samples.Sample.{Sample}
use Rattle.savings_report.specs.declared.table.samples.Window.{Window}
use Rattle.savings_report.specs.declared.table.moments.Moment.{Moment}
use Rattle.savings_report.specs.declared.table.pages.Both.{Both}
use Rattle.savings_report.specs.declared.table.pages.Pages.{Pages}
use Rattle.savings_report.specs.declared.table.pages.Row.{Row}

-- the samples of the calls from `from` to `to`, counted from 1
abbrev pub measured : Window → List Sample → List Sample
measured window samples = drop (window.from - 1) (take window.to samples)

-- the number of the first call that can be measured
abbrev pub first_call : Window → ℕ
first_call window = window.from - 1 + 1

-- the pages of all classes together
abbrev pub total : List ℕ → ℕ
total pages = sum pages

-- the pages of the class at a place of the class table
abbrev pub of_class : ℕ → List ℕ → ℕ
of_class k pages = slice_index pages k

-- the live bytes in whole pages, rounded up
abbrev pub live_pages : Sample → ℕ
live_pages sample = div_ceil sample.live_bytes 4096

-- the pages of all live objects, small and large, in the heap that doesn't mesh
abbrev pub all_without : Sample → ℕ
all_without sample = total sample.without + sample.large_pages

-- the pages of all live objects, small and large, in the heap that meshes
abbrev pub all_with : Sample → ℕ
all_with sample = total sample.with + sample.large_pages

-- the greatest number, 0 for none
abbrev pub peak : List ℕ → ℕ
peak [] = 0
peak (n ∷ ns) = max n (peak ns)

-- the last number, 0 for none
abbrev pub last : List ℕ → ℕ
last ns = slice_index ns (length ns - 1)

-- a / b, rounded half up
unfoldable pub rounded : ℕ → ℕ → ℕ
rounded a b = (2 * a + b) / (2 * b)

-- the mean of `count` numbers with the sum `whole`, rounded half up; 0 if `count` is 0
abbrev pub mean_of : ℕ → ℕ → ℕ
mean_of whole count = if nat_eq count 0 then 0 else rounded whole count

-- the mean, rounded half up; 0 for none
abbrev pub mean : List ℕ → ℕ
mean ns = mean_of (sum ns) (length ns)

-- a figure (`peak`, `mean` or `last`) of a count (`total` or `of_class k`) of the pages: without meshing, with it, and
-- packed perfectly
abbrev pub pages_by : (List ℕ → ℕ) → (List ℕ → ℕ) → List Sample → Pages
pages_by figure count samples =
    record {
      without = figure (map (λ (s : Sample). count s.without) samples);
      with = figure (map (λ (s : Sample). count s.with) samples);
      perfect = figure (map (λ (s : Sample). count s.perfect) samples);
    }

-- a figure (`peak`, `mean` or `last`) of a count of the samples, first of the heap that doesn't mesh and then of the
-- heap that meshes
abbrev pub both_by : (List ℕ → ℕ) → (Sample → ℕ) → (Sample → ℕ) → List Sample → Both
both_by figure without with samples = record { without = figure (map without samples); with = figure (map with samples) }

-- a figure (`peak`, `mean` or `last`) of the pages of empty spans in both heaps
abbrev pub empty_by : (List ℕ → ℕ) → List Sample → Both
empty_by figure samples = both_by figure (λ (s : Sample). s.empty_without) (λ (s : Sample). s.empty_with) samples

-- a figure (`peak`, `mean` or `last`) of each count of the samples. The figures of all objects are those of the sums
-- `all_without` and `all_with`, and not the sums of two figures
abbrev pub row_by : (List ℕ → ℕ) → List Sample → Row
row_by figure samples =
    record {
      small = pages_by figure total samples;
      live = figure (map live_pages samples);
      large = figure (map (λ (s : Sample). s.large_pages) samples);
      all = both_by figure all_without all_with samples;
    }

-- what was measured after the call with this number
abbrev pub moment : ℕ → Sample → Moment
moment call sample =
    record {
      call = call;
      without = total sample.without;
      with = total sample.with;
      perfect = total sample.perfect;
      live_bytes = sample.live_bytes;
      large_pages = sample.large_pages;
    }

-- what was measured after calls in a row, the first of which has this number
abbrev pub moments_from : ℕ → List Sample → List Moment
moments_from call [] = []
moments_from call (s ∷ samples) = moment call s ∷ moments_from (call + 1) samples

-- whether `without - with` is no less for `a` than for `b`
abbrev pub saves_no_less : Moment → Moment → Bool
saves_no_less a b = nat_le (b.without + a.with) (a.without + b.with)

-- whether the live objects have no fewer bytes at `a` than at `b`
abbrev pub lives_no_less : Moment → Moment → Bool
lives_no_less a b = nat_le b.live_bytes a.live_bytes

-- the first moment that is no less than any other by this comparison, or `None` if there are no moments
abbrev pub first_best : (Moment → Moment → Bool) → List Moment → Option Moment
first_best no_less moments = find (λ a. list_all (no_less a) moments) moments

-- the measured calls' moments
abbrev pub measured_moments : Window → List Sample → List Moment
measured_moments window samples = moments_from (first_call window) (measured window samples)

-- the first measured call after which `without - with` is greatest, or `None` if no call is measured
abbrev pub most_saved : Window → List Sample → Option Moment
most_saved window samples = first_best saves_no_less (measured_moments window samples)

-- the first measured call after which the live small objects have the most bytes, or `None` if no call is measured
abbrev pub most_live : Window → List Sample → Option Moment
most_live window samples = first_best lives_no_less (measured_moments window samples)

-- the live bytes in whole pages, rounded up
abbrev pub moment_live : Moment → ℕ
moment_live m = div_ceil m.live_bytes 4096

-- what was measured at one moment, or zeros if there is none
abbrev pub row_at : Option Moment → Row
row_at None =
    record { small = record { without = 0; with = 0; perfect = 0 }; live = 0; large = 0; all = record { without = 0; with = 0 } }
row_at (Some m) =
    record {
      small = record { without = m.without; with = m.with; perfect = m.perfect };
      live = moment_live m;
      large = m.large_pages;
      all = record { without = m.without + m.large_pages; with = m.with + m.large_pages };
    }

-- the pages of each class are below 131,072
abbrev pub AreFew : List ℕ → Type 0
AreFew pages = All (λ n. n < 131072) pages

-- the numbers of a sample are small enough to be summed over all calls
pub record IsBounded (sample : Sample) : Type 0 where
  pub without : AreFew sample.without
  pub with : AreFew sample.with
  pub perfect : AreFew sample.perfect
  pub bytes : sample.live_bytes < 2 ^ 40
  pub large : sample.large_pages ≤ 2 ^ 84
  pub empty_without : sample.empty_without < 131072
  pub empty_with : sample.empty_with < 131072
