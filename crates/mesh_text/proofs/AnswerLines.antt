-- The lines that a replay prints, gathered and written.
use Rattle.std.proofs.Common.{◌≡◌, ℕ, ◌+◌, ◌<◌, List, [], ◌∷◌, ◌++◌, Option, append_assoc, append-nil, drop, get_or, length, map, take, take-append-drop, ap, subst, refl, sym, ◌∙◌}
use Rattle.std.proofs.KnownBytes.{Appends-trans}
use Rattle.std.proofs.Math.Seq.{take-append_seam}
use Rattle.std.proofs.lemmas.Grind.{flat_map-append}
use Rattle.std.specs.Io.KnownBytes.{Appends}
use Rattle.model_jobs.specs.Jobs.{Answer, Job, Line, State, answer, answers_from, initial_state, state_after}
use Rattle.model_jobs.specs.Texts.{answer_text, ended}
use Rattle.text_job.specs.Plan.{line_of}
use Rattle.text_job.specs.declared.plan.PlanLine.{PlanLine}
use Rattle.mesh_mutator.specs.Book.{Book}
use Rattle.text_devices.specs.Transfer.{AppendsBeginning}
use Rattle.mesh_text.specs.Echo.{echo_from, echoed}
use Rattle.mesh_text.specs.Printed.{HasGathered, prefix_text, printed_from, printed_output, printed_up_to}
use Rattle.mesh_text.specs.Turns.{IsAt, IsTold, lines_of, lines_up_to, state_up_to}
use Rattle.mesh_text.specs.declared.printed.Printed.{Printed}
use Rattle.mesh_text.specs.declared.printed.Printed.TheVariants.{Answers, Echo}
use Rattle.mesh_text.proofs.PlanLines.{one_more}

-- the answers to two parts of a plan
answers_after : (job : Job) (state : State) (xs ys : List Line)
    → answers_from job state (xs ++ ys) ≡ answers_from job state xs ++ answers_from job (state_after job state xs) ys
answers_after job state [] ys = refl
answers_after job state (x ∷ xs) ys = let next = answer job state x in ap (λ (told : List Answer). next.answer ∷ told) (answers_after job next.state xs ys)

-- the echo of two parts of a plan
echo_after : (job : Job) (state : State) (xs ys : List Line) → echo_from job state (xs ++ ys) ≡ echo_from job state xs ++ echo_from job (state_after job state xs) ys
echo_after job state [] ys = refl
echo_after job state (x ∷ xs) ys =
    let next = answer job state x in
    let first = ended (echoed state x next.answer) in
    ap (λ later. first ++ later) (echo_after job next.state xs ys) ∙ sym (append_assoc first (echo_from job next.state xs) (echo_from job (state_after job next.state xs) ys))

-- what is printed for two parts of a plan
printed_after : (printed : Printed) (job : Job) (state : State) (xs ys : List Line)
    → printed_from printed job state (xs ++ ys) ≡ printed_from printed job state xs ++ printed_from printed job (state_after job state xs) ys
printed_after Answers job state xs ys =
    ap (λ told. lines_of told) (answers_after job state xs ys)
    ∙ flat_map-append (λ a. ended (answer_text a)) (answers_from job state xs) (answers_from job (state_after job state xs) ys)
printed_after Echo job state xs ys = echo_after job state xs ys

-- what is printed for one line
printed_one : (printed : Printed) (job : Job) (state : State) (line : Line)
    → printed_from printed job state (line ∷ []) ≡ ended (prefix_text printed state line ++ answer_text (answer job state line).answer)
printed_one Answers job state line = append-nil (ended (answer_text (answer job state line).answer))
printed_one Echo job state line = append-nil (ended (echoed state line (answer job state line).answer))

-- where a job stands after two parts of a plan
states_after : (job : Job) (state : State) (xs ys : List Line) → state_after job state (xs ++ ys) ≡ state_after job (state_after job state xs) ys
states_after job state [] ys = refl
states_after job state (x ∷ xs) ys = states_after job (answer job state x).state xs ys

-- where a job stands after one more line
state_more : (job : Job) (n : ℕ) (line : Line) → take (n + 1) job.plan ≡ take n job.plan ++ line ∷ []
    → state_up_to job (n + 1) ≡ (answer job (state_up_to job n) line).state
state_more job n line more = ap (λ lines. state_after job (initial_state job) lines) more ∙ states_after job (initial_state job) (take n job.plan) (line ∷ [])

-- what is printed up to one more line
printed_more : (printed : Printed) (job : Job) (n : ℕ) (line : Line) → take (n + 1) job.plan ≡ take n job.plan ++ line ∷ []
    → printed_up_to printed job (n + 1)
    ≡ printed_up_to printed job n ++ ended (prefix_text printed (state_up_to job n) line ++ answer_text (answer job (state_up_to job n) line).answer)
printed_more printed job n line more =
    ap (λ lines. printed_from printed job (initial_state job) lines) more
    ∙ printed_after printed job (initial_state job) (take n job.plan) (line ∷ [])
    ∙ ap (λ last. printed_up_to printed job n ++ last) (printed_one printed job (state_up_to job n) line)

-- what is printed goes on behind the lines up to here
output_after : (printed : Printed) (job : Job) (n : ℕ)
    → printed_output printed job ≡ printed_up_to printed job n ++ printed_from printed job (state_up_to job n) (drop n job.plan)
output_after printed job n =
    ap (λ lines. printed_from printed job (initial_state job) lines) (sym (take-append-drop n job.plan))
    ∙ printed_after printed job (initial_state job) (take n job.plan) (drop n job.plan)

-- a job stands where its line was answered
next_at : (job : Job) (n : ℕ) (line : Line) (book : Book) (places text text' : List ℕ) → take (n + 1) job.plan ≡ take n job.plan ++ line ∷ []
    → IsTold job (answer job (state_up_to job n) line) book places text text' → IsAt job (state_up_to job (n + 1)) book places
next_at job n line book places text text' more told = subst (λ state. IsAt job state book places) (sym (state_more job n line more)) told.at

-- what was printed before the answer, the answer and the line's end are the printed line
added_line : (printed : Printed) (job : Job) (state : State) (line : Line) (book : Book) (places text text' text'' more : List ℕ)
    → text' ≡ text ++ prefix_text printed state line → IsTold job (answer job state line) book places text' text'' → more ≡ text'' ++ 10 ∷ []
    → more ≡ text ++ ended (prefix_text printed state line ++ answer_text (answer job state line).answer)
added_line printed job state line book places text text' text'' more begun told end =
    let before = prefix_text printed state line in
    let given = answer_text (answer job state line).answer in
    end ∙ ap (λ t. t ++ 10 ∷ []) (told.added ∙ ap (λ t. t ++ given) begun ∙ append_assoc text before given) ∙ append_assoc text (before ++ given) (10 ∷ [])

-- a printed line is gathered
gathered_more : (printed : Printed) (job : Job) (n : ℕ) (line : Line) (old new : Option (List ℕ)) (text more : List ℕ)
    → take (n + 1) job.plan ≡ take n job.plan ++ line ∷ []
    → more ≡ text ++ ended (prefix_text printed (state_up_to job n) line ++ answer_text (answer job (state_up_to job n) line).answer)
    → HasGathered printed job n old new text → HasGathered printed job (n + 1) old new more
gathered_more printed job n line old new text more next added so_far =
    let front = printed_up_to printed job so_far.lines in
    let line' = ended (prefix_text printed (state_up_to job n) line ++ answer_text (answer job (state_up_to job n) line).answer) in
    record {
      lines = so_far.lines;
      wrote = so_far.wrote;
      all = ap (λ t. front ++ t) added ∙ sym (append_assoc front text line') ∙ ap (λ t. t ++ line') so_far.all ∙ sym (printed_more printed job n line next);
    }

-- so where the plan's next line was printed, the job stands behind that line, which is gathered
pub line_gathered : (printed : Printed) (job : Job) (n : ℕ) (lines : List PlanLine) (line : PlanLine) (book : Book) (places : List ℕ) (old new : Option (List ℕ))
    (text text' text'' more : List ℕ) → map line_of lines ≡ job.plan → n < length lines → line ≡ get_or lines n line
    → text' ≡ text ++ prefix_text printed (state_up_to job n) (line_of line) → IsTold job (answer job (state_up_to job n) (line_of line)) book places text' text''
    → HasGathered printed job n old new text → more ≡ text'' ++ 10 ∷ [] → HasGathered printed job (n + 1) old new more × IsAt job (state_up_to job (n + 1)) book places
line_gathered printed job n lines line book places old new text text' text'' more is within this begun told so_far end =
    let next = one_more lines job.plan n line line is within this in
    let added = added_line printed job (state_up_to job n) (line_of line) book places text text' text'' more begun told end in
    (gathered_more printed job n (line_of line) old new text more next added so_far, next_at job n (line_of line) book places text' text'' next told)

-- what was gathered is written
pub all_written : (printed : Printed) (job : Job) (n : ℕ) (old mid new : Option (List ℕ)) (text : List ℕ) → HasGathered printed job n old mid text
    → Appends mid new text → HasGathered printed job n old new []
all_written printed job n old mid new text so_far wrote = record {
  lines = n;
  wrote = subst (λ lines. Appends old new lines) so_far.all (Appends-trans old mid new (printed_up_to printed job so_far.lines) text so_far.wrote wrote);
  all = append-nil (printed_up_to printed job n);
}

-- of what was gathered a beginning is written: it is a beginning of what is printed
pub part_written : (printed : Printed) (job : Job) (n : ℕ) (old mid new : Option (List ℕ)) (text : List ℕ) → HasGathered printed job n old mid text
    → AppendsBeginning mid new text → AppendsBeginning old new (printed_output printed job)
part_written printed job n old mid new text so_far part =
    let front = printed_up_to printed job so_far.lines in
    let behind = printed_from printed job (state_up_to job n) (drop n job.plan) in
    let done : List ℕ = front ++ take part.0 text in
    let rest : List ℕ = drop part.0 text ++ behind in
    let whole : printed_output printed job ≡ done ++ rest
    = output_after printed job n
    ∙ ap (λ lines. lines ++ behind) (sym so_far.all ∙ ap (λ t. front ++ t) (sym (take-append-drop part.0 text)) ∙ sym (append_assoc front (take part.0 text) (drop part.0 text)))
    ∙ append_assoc done (drop part.0 text) behind in
    let is_front : take (length done) (printed_output printed job) ≡ done = ap (λ bytes. take (length done) bytes) whole ∙ take-append_seam done rest in
    (length done, subst (λ bytes. Appends old new bytes) (sym is_front) (Appends-trans old mid new front (take part.0 text) so_far.wrote part.1))

-- all lines of the plan are written
pub output_written : (printed : Printed) (job : Job) (n : ℕ) (old mid new : Option (List ℕ)) (text : List ℕ) → take n job.plan ≡ job.plan
    → HasGathered printed job n old mid text → Appends mid new text → Appends old new (printed_output printed job)
output_written printed job n old mid new text all so_far wrote =
    subst (λ lines. Appends old new (printed_from printed job (initial_state job) lines)) all
    (subst (λ bytes. Appends old new bytes) so_far.all (Appends-trans old mid new (printed_up_to printed job so_far.lines) text so_far.wrote wrote))

-- what one more line leaves where its answer is told alone
pub record IsPlayed (job : Job) (n : ℕ) (book : Book) (places text : List ℕ) : Type 0 where
  pub at : IsAt job (state_up_to job (n + 1)) book places
  pub told : lines_up_to job (n + 1) ≡ lines_up_to job n ++ ended text

pub line_played : (job : Job) (n : ℕ) (lines : List PlanLine) (d line : PlanLine) (book : Book) (places text text' : List ℕ) → map line_of lines ≡ job.plan
    → n < length lines → line ≡ get_or lines n d → IsTold job (answer job (state_up_to job n) (line_of line)) book places text text' → text ≡ []
    → IsPlayed job n book places text'
line_played job n lines d line book places text text' is within this told none =
    let more = one_more lines job.plan n d line is within this in record {
      at = next_at job n (line_of line) book places text text' more told;
      told = printed_more Answers job n (line_of line) more ∙ ap (λ added. lines_up_to job n ++ ended added) (sym (told.added ∙ ap (λ t. t ++ answer_text (answer job (state_up_to job n) (line_of line)).answer) none));
    }
