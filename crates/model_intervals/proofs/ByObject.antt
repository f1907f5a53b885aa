-- If one order explains all calls, each object by itself is explained.
use Rattle.std.proofs.Common.{◌≡◌, ℕ, ◌+◌, ◌<◌, ◌⊎◌, inl, inr, true, false, ◌&&◌, nat_eq, List, [], ◌∷◌, replicate, ap, sym, subst, ◌∙◌, Option, Some}
use Rattle.std.proofs.lemmas.Bool.{cases_lt, eq-eqb}
use Rattle.std.specs.List.Sorted.{IsPermutation}
use Rattle.std.proofs.lemmas.List.Sorted.{IsPermutation-sym}
use Rattle.model_history.specs.Recorded.{Recorded, any_allocator, many_cells, nothing_recorded}
use Rattle.model_intervals.specs.Intervals.{Call, IsLinearizable, RespectsTime}
use Rattle.model_intervals.specs.Objects.{Object as NewObject, ExplainsAccesses, IsExplainedByObject, IsFairNew, IsFreedBy, IsMadeAt, Meet, accesses_of, bytes_behind, is_access}
use Rattle.model_intervals.specs.OverlappingCalls.{HasEffect, IsAt, IsHistory, IsNew, cell_at}
use Rattle.model_intervals.proofs.CellRuns.{accesses_are, made_answers}
use Rattle.model_intervals.proofs.AfterStep.{frees_own}
use Rattle.model_intervals.proofs.MiddleForm.{AllGoInTime, AreNewApart, GiveApart, GoesInTime, IsLegalFrom, IsReady, made_by, of_cell}
use Rattle.model_intervals.proofs.Filtered.{has_filter, pairs_filter}
use Rattle.model_intervals.proofs.Lists.{Every, Pairs, every_true, every_weaker, pairs_weaker}
use Rattle.model_intervals.proofs.Places.{Mutual, all_from, all_pairs_from, every_from, every_from_places, has_from_place, mutual_from_places, pairs_from, places_from_mutual}
use Rattle.model_intervals.proofs.CellParts.{free_so}
use Rattle.model_intervals.proofs.Permuted.{every_permuted, filter_permuted, has_permuted, mutual_permuted}
use Rattle.model_intervals.proofs.CellStates.{Leads, Unmade, at_root, nothing_is_named, nothing_named, state_of}
use Rattle.model_intervals.proofs.StepFacts.{made_so, new_is_no_free}
use Rattle.model_intervals.proofs.RunToForm.{runs_legal}

-- the empty history's memory
abbrev pub nothing : Recorded
nothing = nothing_recorded any_allocator

pub starts_unmade : (c : ℕ) → state_of nothing.memory c ≡ Unmade
starts_unmade c = ap (at_root nothing.memory) (nothing_named c)

-- any order of a history's calls meets the premises of the middle form
pub ready_first : (calls order : List Call) → IsHistory calls → IsPermutation calls order → IsReady nothing order
ready_first calls order history same = record {
  effects = every_permuted (λ call. HasEffect call.entry.command call.entry.reply) calls order same
      (every_from (λ call. HasEffect call.entry.command call.entry.reply) calls history.have_effects);
  within = every_permuted (λ call. cell_at call < many_cells) calls order same (every_from (λ call. cell_at call < many_cells) calls history.have_cells);
  unmade = every_true (λ call. IsNew call.entry.command → state_of nothing.memory (cell_at call) ≡ Unmade) order (λ call is_new. starts_unmade (cell_at call));
  own = pairs_weaker (λ call. Unit {0}) (λ a b. AreNewApart a b × AreNewApart b a) AreNewApart order (λ a b both u v. both.0)
      (mutual_permuted AreNewApart calls order same
      (mutual_from_places AreNewApart calls (λ i j a b apart at_i at_j new_a new_b. history.own_cells i j a b apart at_i at_j new_a new_b)))
      (every_true (λ call. Unit {0}) order (λ call. tt));
}

-- the call in the back did not end before the one in the front began
abbrev InTime : Call → Call → Type 0
InTime front back = back.end < front.begin → ⊥

-- the call is an element of the list
abbrev IsOneOf : List Call → Call → Type 0
IsOneOf calls call = (place : ℕ) × IsAt calls place call

-- if a call makes an object that meets the range, the cell's `free` begins no later than that call ends
abbrev FreedFor : List Call → ℕ → ℕ → ℕ → Call → Type 0
FreedFor calls cell address len b = (y : NewObject) → made_by b ≡ Some y → address < y.address + y.len → y.address < address + len → IsFreedBy calls cell b.end

freed_in_time : (calls : List Call) (cell address len : ℕ) (rest : List Call) → GoesInTime cell address len rest → Pairs InTime rest → Every (IsOneOf calls) rest
    → Every (FreedFor calls cell address len) rest
freed_in_time calls cell address len [] goes time one = tt
freed_in_time calls cell address len (call ∷ rest) (inl freed) time one =
    let own = frees_own cell call freed in (
      λ y makes low high. absurd (let clash : true ≡ false = sym own.0 ∙ new_is_no_free call.entry.command call.entry.reply y makes in cc clash),
      every_weaker (InTime call) (FreedFor calls cell address len) rest (λ b late y makes low high. record {
        place = one.0.0;
        free = call;
        there = one.0.1;
        frees = free_so call.entry.command own.0;
        names = own.1;
        begun = (elim (cases_lt b.end call.begin) [ inl early ↦ absurd (late early) | inr begun ↦ begun ]);
      }) time.0,
    )
freed_in_time calls cell address len (call ∷ rest) (inr later) time one =
    (λ y makes low high. absurd (later.0 y makes low high), freed_in_time calls cell address len rest later.1 time.1 one.1)

-- the same for two objects in either order
abbrev pub OneIsFreed : List Call → Call → Call → Type 0
OneIsFreed calls a b = (x y : NewObject) → made_by a ≡ Some x → made_by b ≡ Some y → Meet x y → IsFreedBy calls x.cell b.end ⊎ IsFreedBy calls y.cell a.end

first_freed : (calls : List Call) (a b : Call) → ((x : NewObject) → made_by a ≡ Some x → FreedFor calls x.cell x.address x.len b)
    → OneIsFreed calls a b × OneIsFreed calls b a
first_freed calls a b freed = (
  λ x y makes_x makes_y meet. inl (freed x makes_x y makes_y meet.0 meet.1),
  λ y x makes_y makes_x meet. inr (freed x makes_x y makes_y meet.1 meet.0),
)

-- exchanging two quantifiers: over the object of a call, and over the calls of a list
each_object : (P : NewObject → Call → Type 0) (made : Option NewObject) (rest : List Call) → ((x : NewObject) → made ≡ Some x → Every (P x) rest)
    → Every (λ b. (x : NewObject) → made ≡ Some x → P x b) rest
each_object P made [] h = tt
each_object P made (b ∷ rest) h = (λ x makes. (h x makes).0, each_object P made rest (λ x makes. (h x makes).1))

all_freed : (calls order : List Call) → AllGoInTime order → Pairs InTime order → Every (IsOneOf calls) order → Mutual (OneIsFreed calls) order
all_freed calls [] goes time one = tt
all_freed calls (a ∷ rest) goes time one = (
  every_weaker (λ b. (x : NewObject) → made_by a ≡ Some x → FreedFor calls x.cell x.address x.len b) (λ b. OneIsFreed calls a b × OneIsFreed calls b a) rest (first_freed calls a)
      (each_object (λ x b. FreedFor calls x.cell x.address x.len b) (made_by a) rest (λ x makes. freed_in_time calls x.cell x.address x.len rest (goes.0 x makes) time.1 one.1)),
  all_freed calls rest goes.1 time.1 one.1,
)

give_both : (a b : Call) → GiveApart a b → GiveApart a b × GiveApart b a
give_both a b apart = (apart, λ y x makes_y makes_x same. apart x y makes_x makes_y (sym same))

module _ (calls order : List Call) (history : IsHistory calls) (same : IsPermutation order calls) (in_time : RespectsTime order) (legal : IsLegalFrom nothing order) where
  -- an object's accesses, in the given order, answer as recorded
  object_answers : (i : ℕ) (call : Call) (x : NewObject) → IsMadeAt calls i call x
      → (last : List ℕ) × (bytes_behind x.address (replicate x.len 0) (accesses_of x.cell order) ≡ Some last)
  object_answers i call x made =
      let has = has_from_place (λ c. made_by c ≡ Some x) calls i call made.0 made.1 in
      let here = has_permuted (λ c. made_by c ≡ Some x) calls order (IsPermutation-sym order calls same) has in
      let own = has_filter (λ c. made_by c ≡ Some x) (λ c. nat_eq (cell_at c) x.cell) order
      (λ c makes. eq-eqb (cell_at c) x.cell (sym (made_so c.entry.command c.entry.reply x makes).0)) here in
      let run = legal.each x.cell in
      let leads = subst (λ s. Leads s (of_cell x.cell order) run.0) (starts_unmade x.cell) run.1 in
      let answers = made_answers (of_cell x.cell order) run.0 x leads own in
      (answers.0, ap (λ cs. bytes_behind x.address (replicate x.len 0) cs) (sym (accesses_are x.cell order)) ∙ answers.1)

  object_explained : (i : ℕ) (call : Call) (x : NewObject) → IsMadeAt calls i call x → (own : List Call) × ExplainsAccesses calls x.cell x.len x.address own
  object_explained i call x made = (
    accesses_of x.cell order,
    record {
      same = filter_permuted (λ c. is_access c.entry.command && nat_eq (cell_at c) x.cell) order calls same;
      in_time = all_pairs_from InTime (accesses_of x.cell order)
          (pairs_filter InTime (λ c. is_access c.entry.command && nat_eq (cell_at c) x.cell) order (pairs_from InTime order in_time));
      last = (object_answers i call x made).0;
      answers = (object_answers i call x made).1;
    },
  )

  one_of : Every (IsOneOf calls) order
  one_of = every_permuted (IsOneOf calls) calls order (IsPermutation-sym order calls same) (every_from_places (IsOneOf calls) calls (λ k call is. (k, is)))

  pub by_object : IsExplainedByObject calls
  by_object = record {
    fair = all_from (λ call. IsFairNew call.entry.command call.entry.reply) calls (every_permuted (λ call. IsFairNew call.entry.command call.entry.reply) order calls same legal.fair);
    serials_once = λ i j a b x y apart made_x made_y. places_from_mutual GiveApart calls
        (mutual_permuted GiveApart order calls same
        (pairs_weaker (λ c. Unit {0}) GiveApart (λ c d. GiveApart c d × GiveApart d c) order (λ c d give u v. give_both c d give) legal.once (every_true (λ c. Unit {0}) order (λ c. tt))))
        i j a b apart made_x.0 made_y.0 x y made_x.1 made_y.1;
    apart = λ i j a b x y apart made_x made_y meet. places_from_mutual (OneIsFreed calls) calls
        (mutual_permuted (OneIsFreed calls) order calls same (all_freed calls order legal.clear (pairs_from InTime order in_time) one_of))
        i j a b apart made_x.0 made_y.0 x y made_x.1 made_y.1 meet;
    each = object_explained;
  }

pub explained : (calls : List Call) → IsHistory calls → IsLinearizable calls → IsExplainedByObject calls
explained calls history some =
    let order = some.0 in let explains = some.1 in
    let ready = ready_first calls order history (IsPermutation-sym order calls explains.same) in
    by_object calls order history explains.same explains.in_time (runs_legal nothing order explains.end nothing_is_named ready explains.legal)
