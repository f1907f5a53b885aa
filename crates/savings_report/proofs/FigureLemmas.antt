-- Numbers that come one after another: division rounded half up, peaks, sums and last ones.
use Rattle.std.proofs.Common.{◌≡◌, ℕ, suc, ◌+◌, ◌-◌, ◌*◌, ◌/◌, ◌%◌, ◌<◌, ◌≤◌, max, List, [], ◌∷◌, ◌++◌, length, map, slice_index, sum, get_or, append_assoc, refl, sym, ap, ◌∙◌, subst, arith}
use Rattle.std.specs.List.{All, flat_map, range_with_len}
use Rattle.std.proofs.lemmas.List.{append-nil, map-append, get_or_push, length_push, length-map}
use Rattle.std.proofs.lemmas.List.Sums.{sum_by_push, sum_by-le}
use Rattle.std.proofs.lemmas.Nat.{div-add-mod', div-mul-add, mod_below}
use Rattle.std.proofs.Math.ListN.{get_or-map}
use Rattle.std.proofs.Math.Nat.{add-mul}
use Rattle.savings_report.specs.FigureSamples.{rounded, mean, mean_of, peak, last, total, of_class, live_pages, all_with, all_without, row_by, AreFew}
use Rattle.savings_report.specs.Figures.{IsLevel, IsLevelIn, IsColumn, class_sum, no_sample, last_sample}
use Rattle.savings_report.specs.declared.table.samples.Sample.{Sample}
use Rattle.savings_report.specs.declared.table.levels.Level.{Level}
use Rattle.savings_report.specs.declared.table.levels.Column.{Column}

-- half or more of the divisor is left
pub rounded_up : (a b : ℕ) → 0 < b → b - a % b ≤ a % b → a / b + 1 ≡ rounded a b
unfolding rounded
rounded_up a b pos half =
    let split : a / b * b + a % b ≡ a = div-add-mod' a b in
    let below : a % b < b = mod_below a b pos in
    let small : 2 * (a % b) - b < 2 * b = omega arith in
    let whole : (a / b + 1) * (2 * b) + (2 * (a % b) - b) ≡ 2 * a + b = omega arith in
    sym (subst (λ (n : ℕ). n / (2 * b) ≡ a / b + 1) whole (div-mul-add (a / b + 1) (2 * b) (2 * (a % b) - b) small))

-- less than half of it is left
pub rounded_down : (a b : ℕ) → 0 < b → a % b < b - a % b → a / b ≡ rounded a b
unfolding rounded
rounded_down a b pos half =
    let split : a / b * b + a % b ≡ a = div-add-mod' a b in
    let small : 2 * (a % b) + b < 2 * b = omega arith in
    let whole : a / b * (2 * b) + (2 * (a % b) + b) ≡ 2 * a + b = omega arith in
    sym (subst (λ (n : ℕ). n / (2 * b) ≡ a / b) whole (div-mul-add (a / b) (2 * b) (2 * (a % b) + b) small))

pub peak_push : (ns : List ℕ) (n : ℕ) → peak (ns ++ n ∷ []) ≡ max (peak ns) n
peak_push [] n = omega arith
peak_push (m ∷ ns) n = rw (peak_push ns n) (omega arith)

pub sum_push : (ns : List ℕ) (n : ℕ) → sum (ns ++ n ∷ []) ≡ sum ns + n
sum_push ns n = sum_by_push (λ (x : ℕ). x) ns n

-- one more number
pub level_push : (old new : Level) (ns : List ℕ) (n : ℕ) → new.peak ≡ max old.peak n → new.sum ≡ old.sum + n → IsLevel old ns → IsLevel new (ns ++ n ∷ [])
level_push old new ns n p s h =
    record {
      peak_is = p ∙ ap (λ (m : ℕ). max m n) h.peak_is ∙ sym (peak_push ns n);
      sum_is = s ∙ ap (λ (m : ℕ). m + n) h.sum_is ∙ sym (sum_push ns n);
    }

-- one more sample, whose number is added to the level
pub level_of : (new : Level) (f : Sample → ℕ) (samples : List Sample) (s : Sample) (n : ℕ) → n ≡ f s → IsLevel new (map f samples ++ n ∷ [])
    → IsLevel new (map f (samples ++ s ∷ []))
level_of new f samples s n e h =
    subst (λ (ns : List ℕ). IsLevel new ns) (ap (λ (m : ℕ). map f samples ++ m ∷ []) e ∙ sym (map-append f samples (s ∷ []))) h

-- one more number within bounds
pub level_in_push : (old new : Level) (most count n : ℕ) → new.peak ≡ max old.peak n → new.sum ≡ old.sum + n → n ≤ most → IsLevelIn old most count
    → IsLevelIn new most (count + 1)
level_in_push old new most count n p s small h =
    let more = add-mul count 1 most in record { peak_in = omega (arith, h.peak_in); sum_in = omega (arith, h.sum_in, more) }

-- one more sample
pub column_push : (old new : Column) (samples : List (List ℕ)) (pages : List ℕ)
    → ((ns : List ℕ) → IsLevel old.total ns → IsLevel new.total (ns ++ sum pages ∷ []))
    → ((k : ℕ) → k < 10 → class_sum new k ≡ class_sum old k + slice_index pages k)
    → IsColumn old samples → IsColumn new (samples ++ pages ∷ [])
column_push old new samples pages t s h =
    record {
      total_is =
          subst (λ (ns : List ℕ). IsLevel new.total ns) (sym (map-append total samples (pages ∷ []))) (t (map total samples) h.total_is);
      sums_are = λ k below.
          s k below ∙ ap (λ (m : ℕ). m + slice_index pages k) (h.sums_are k below)
          ∙ sym (ap sum (map-append (of_class k) samples (pages ∷ [])) ∙ sum_push (map (of_class k) samples) (slice_index pages k));
    }

-- the total of ten classes
pub few_total : (pages : List ℕ) → length pages ≡ 10 → AreFew pages → sum pages ≤ 1310720
few_total pages ten few =
    let each : All (λ (n : ℕ). n ≤ 131072) pages = grind (arith, few) in
    let bound : sum pages ≤ length pages * 131072 = sum_by-le (λ (n : ℕ). n) 131072 pages each in
    let ten_times : length pages * 131072 ≡ 1310720 = ap (λ (n : ℕ). n * 131072) ten in
    omega arith

-- what is counted of the last sample is the last of what is counted
pub last_map : (f : Sample → ℕ) (samples : List Sample) → f no_sample ≡ 0 → f (last_sample samples) ≡ last (map f samples)
last_map f samples none =
    sym (get_or-map f samples (length samples - 1) no_sample) ∙ ap (λ (d : ℕ). get_or (map f samples) (length samples - 1) d) none
    ∙ ap (λ (n : ℕ). get_or (map f samples) (n - 1) 0) (sym (length-map samples f))

-- what is computed of the last sample
pub last_of : (f : Sample → ℕ) (samples : List Sample) (end : Sample) (n : ℕ) → end ≡ last_sample samples → f no_sample ≡ 0 → n ≡ f end
    → n ≡ last (map f samples)
last_of f samples end n is none e = e ∙ ap f is ∙ last_map f samples none

pub last_sample_push : (samples : List Sample) (s : Sample) → last_sample (samples ++ s ∷ []) ≡ s
last_sample_push samples s = get_or_push samples s no_sample (length (samples ++ s ∷ []) - 1) (omega (arith, length_push samples s))

-- texts that pieces are added to
pub four_pieces : (o p q r s a b c d : List ℕ) → p ≡ o ++ a → q ≡ p ++ b → r ≡ q ++ c → s ≡ r ++ d → s ≡ o ++ (a ++ b ++ c ++ d)
four_pieces o p q r s a b c d e f g h =
    h ∙ ap (λ (x : List ℕ). x ++ d) (g ∙ ap (λ (x : List ℕ). x ++ c) (f ∙ ap (λ (x : List ℕ). x ++ b) e)) ∙ simp append_assoc

pub five_pieces : (o p q r s t a b c d e : List ℕ) → p ≡ o ++ a → q ≡ p ++ b → r ≡ q ++ c → s ≡ r ++ d → t ≡ s ++ e → t ≡ o ++ (a ++ b ++ c ++ d ++ e)
five_pieces o p q r s t a b c d e f g h i j = j ∙ ap (λ (x : List ℕ). x ++ e) (four_pieces o p q r s a b c d f g h i) ∙ append_assoc o (a ++ b ++ c ++ d) e

pub six_pieces : (o p q r s t u a b c d e f : List ℕ) → p ≡ o ++ a → q ≡ p ++ b → r ≡ q ++ c → s ≡ r ++ d → t ≡ s ++ e → u ≡ t ++ f
    → u ≡ o ++ (a ++ b ++ c ++ d ++ e ++ f)
six_pieces o p q r s t u a b c d e f g h i j k l =
    l ∙ ap (λ (x : List ℕ). x ++ f) (five_pieces o p q r s t a b c d e g h i j k) ∙ append_assoc o (a ++ b ++ c ++ d ++ e) f

pub seven_pieces : (o p q r s t u v a b c d e f g : List ℕ) → p ≡ o ++ a → q ≡ p ++ b → r ≡ q ++ c → s ≡ r ++ d → t ≡ s ++ e → u ≡ t ++ f → v ≡ u ++ g
    → v ≡ o ++ (a ++ b ++ c ++ d ++ e ++ f ++ g)
seven_pieces o p q r s t u v a b c d e f g h i j k l m n =
    n ∙ ap (λ (x : List ℕ). x ++ g) (six_pieces o p q r s t u a b c d e f h i j k l m) ∙ append_assoc o (a ++ b ++ c ++ d ++ e ++ f) g

pub eight_pieces : (o p q r s t u v w a b c d e f g h : List ℕ) → p ≡ o ++ a → q ≡ p ++ b → r ≡ q ++ c → s ≡ r ++ d → t ≡ s ++ e → u ≡ t ++ f → v ≡ u ++ g
    → w ≡ v ++ h → w ≡ o ++ (a ++ b ++ c ++ d ++ e ++ f ++ g ++ h)
eight_pieces o p q r s t u v w a b c d e f g h i j k l m n x y =
    y ∙ ap (λ (z : List ℕ). z ++ h) (seven_pieces o p q r s t u v a b c d e f g i j k l m n x) ∙ append_assoc o (a ++ b ++ c ++ d ++ e ++ f ++ g) h

pub map_twice : {X Y Z : Type 0} (f : X → Y) (g : Y → Z) (xs : List X) → map g (map f xs) ≡ map (λ x. g (f x)) xs
map_twice f g [] = refl
map_twice f g (x ∷ xs) = ap (λ ys. g (f x) ∷ ys) (map_twice f g xs)

-- the line of one more class, and of none
pub lines_step : (line : ℕ → List ℕ) (k : ℕ) (old new : List ℕ) → k < 10 → new ≡ old ++ line k
    → new ++ flat_map line (range_with_len (k + 1) (10 - (k + 1))) ≡ old ++ flat_map line (range_with_len k (10 - k))
lines_step line k old new below e =
    let left : 10 - k ≡ suc (10 - (k + 1)) = omega arith in
    rw (left, e) (append_assoc old (line k) (flat_map line (range_with_len (k + 1) (10 - (k + 1)))))

pub lines_end : (line : ℕ → List ℕ) (k : ℕ) (text : List ℕ) → 10 ≤ k → text ++ flat_map line (range_with_len k (10 - k)) ≡ text
lines_end line k text all = let left : 10 - k ≡ 0 = omega arith in rw left (append-nil text)

-- the row with these numbers
pub row_is : (figure : List ℕ → ℕ) (samples : List Sample) (w m p l g x y : ℕ) → w ≡ figure (map (λ (s : Sample). total s.without) samples)
    → m ≡ figure (map (λ (s : Sample). total s.with) samples) → p ≡ figure (map (λ (s : Sample). total s.perfect) samples)
    → l ≡ figure (map live_pages samples) → g ≡ figure (map (λ (s : Sample). s.large_pages) samples) → x ≡ figure (map all_without samples)
    → y ≡ figure (map all_with samples)
    → record { small = record { without = w; with = m; perfect = p }; live = l; large = g; all = record { without = x; with = y } } ≡ row_by figure samples
row_is figure samples w m p l g x y a b c d e f h = rw (a, b, c, d, e, f, h) refl

-- the level of the totals
pub total_level : (column : Column) (f : Sample → List ℕ) (samples : List Sample) → IsColumn column (map f samples)
    → IsLevel column.total (map (λ s. total (f s)) samples)
total_level column f samples h = subst (IsLevel column.total) (map_twice f total samples) h.total_is

-- the mean of the numbers of a level, from their sum
pub level_mean : (level : Level) (f : Sample → ℕ) (samples : List Sample) (count n : ℕ) → IsLevel level (map f samples) → count ≡ length samples
    → n ≡ mean_of level.sum count → n ≡ mean (map f samples)
level_mean level f samples count n h many e =
    let length_is : count ≡ length (map f samples) = many ∙ sym (length-map samples f) in
    e ∙ ap (λ (m : ℕ). mean_of m count) h.sum_is ∙ ap (mean_of (sum (map f samples))) length_is

-- the mean of a class, from its sum
pub class_mean : (column : Column) (f : Sample → List ℕ) (samples : List Sample) (k count n : ℕ) → k < 10 → IsColumn column (map f samples)
    → count ≡ length samples → n ≡ mean_of (class_sum column k) count → n ≡ mean (map (λ s. of_class k (f s)) samples)
class_mean column f samples k count n below h many e =
    let whole : class_sum column k ≡ sum (map (λ s. of_class k (f s)) samples) = h.sums_are k below ∙ ap sum (map_twice f (of_class k) samples) in
    let length_is : count ≡ length (map (λ s. of_class k (f s)) samples) = many ∙ sym (length-map samples (λ s. of_class k (f s))) in
    e ∙ ap (λ (m : ℕ). mean_of m count) whole ∙ ap (mean_of (sum (map (λ s. of_class k (f s)) samples))) length_is
