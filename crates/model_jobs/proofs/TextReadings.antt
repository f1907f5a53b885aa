-- What a text that was read says: it is the text of the job that it was read as.
use Rattle.std.proofs.Common.{◌≡◌, ◌↔◌, ℕ, ◌+◌, ◌≤◌, Bool, true, false, if◌then◌else◌, nat_lt, List, [], ◌∷◌, ◌++◌, map, Result, Ok, Err, length, ap, refl, sym, subst, ◌∙◌, arith, inl, inr, append-nil, append_assoc}
use Rattle.std.specs.Prelude.{codes}
use Rattle.std.specs.List.{All, flat_map, join_with_byte}
use Rattle.std.proofs.lemmas.Bool.Decides.{nat_tests, leb_tells}
use Rattle.std.proofs.lemmas.List.Elements.{All-cons, All-nil}
use Rattle.std.proofs.lemmas.List.Splits.{join_with_byte-slice_split}
use Rattle.model_jobs.specs.JobFiles.{Section, Draft, AtPages, AtVersion, AtHistory, AtWorkers, AtFirstWorker, InScript, InPlan, AtEnd, blank_draft, script_closed, take_line, version_of, fault_at, has_ended, job_of, or_fault, lines_in, read_text, IsValidLine, IsValidCommand, IsValidJob}
use Rattle.model_jobs.specs.Jobs.{Line, Job}
use Rattle.model_jobs.specs.Texts.{number_field, command_text, line_text, ended, sections_from, version_number, job_lines, text}
use Rattle.model_words.specs.declared.commands.Command.{Command}
use Rattle.model_words.specs.declared.faults.FaultKind.{FaultKind}
use Rattle.model_words.specs.declared.versions.Version.{Version}
use Rattle.model_jobs.proofs.Readings.{job_back}
use Rattle.model_words.proofs.Chains.{went_on, refuse_if_went}
use Rattle.model_jobs.proofs.LineReadings.{few_by_test, first_worker_told, heading_told, script_line_told, plan_line_told}

-- a step that gave no fault was not refused
or_fault_told : {A : Type 0} (number : ℕ) (r : Result A FaultKind) (x : A) → or_fault number r ≡ Ok x → r ≡ Ok x
or_fault_told number (Ok y) x h = cc h
or_fault_told number (Err kind) x h = absurd (cc h)

-- a fault in both branches is no value
neither : {A E : Type 0} (b : Bool) (e e' : E) (x : A) → (if b then Err e else Err e') ≡ Ok x → ⊥
neither true e e' x h = absurd (cc h)
neither false e e' x h = absurd (cc h)

-- the first line was taken, and what follows it was read
record FirstTaken (number : ℕ) (draft : Draft) (lines : List (List ℕ)) (job : Job) : Type 0 where
  pub line : List ℕ
  pub rest : List (List ℕ)
  pub draft' : Draft
  pub is : lines ≡ line ∷ rest
  pub taken : take_line draft line ≡ Ok draft'
  pub read : lines_in (number + 1) draft' rest ≡ Ok job

-- a draft that hasn't ended had its first line taken
first_taken : (number : ℕ) (draft : Draft) (line next : List ℕ) (lines : List (List ℕ)) (job : Job) → has_ended draft.section ≡ false
    → lines_in number draft (line ∷ next ∷ lines) ≡ Ok job
    → (draft' : Draft) × (take_line draft line ≡ Ok draft') × (lines_in (number + 1) draft' (next ∷ lines) ≡ Ok job)
first_taken number draft line next lines job going h =
    let step = went_on (or_fault number (take_line draft line)) _ job (rw going at h) in
    (step.value, or_fault_told number (take_line draft line) step.value step.is, step.then)

-- a draft that hasn't ended is not read where only one line is left
not_cut : (number : ℕ) (draft : Draft) (line : List ℕ) (job : Job) → has_ended draft.section ≡ false → lines_in number draft (line ∷ []) ≡ Ok job → ⊥
not_cut number draft line job going h = neither (nat_lt 1024 (length line)) _ _ job (rw going at h)

-- lines that were read have a first one
some_taken : (number : ℕ) (draft : Draft) (lines : List (List ℕ)) (job : Job) → has_ended draft.section ≡ false → lines_in number draft lines ≡ Ok job
    → FirstTaken number draft lines job
some_taken number draft [] job going h = absurd (cc h)
some_taken number draft (line ∷ []) job going h = absurd (not_cut number draft line job going h)
some_taken number draft (line ∷ next ∷ lines) job going h =
    let step = first_taken number draft line next lines job going h in
    record { line = line; rest = next ∷ lines; draft' = step.0; is = refl; taken = step.1; read = step.2 }

-- a draft that has ended is the job, and nothing is left
over : (number : ℕ) (draft : Draft) (lines : List (List ℕ)) (job : Job) → has_ended draft.section ≡ true → lines_in number draft lines ≡ Ok job
    → (lines ≡ [] ∷ []) × (job ≡ job_of draft)
over number draft [] job ended h = absurd (cc h)
over number draft ([] ∷ []) job ended h = let is : Ok (job_of draft) ≡ Ok job = rw ended at h in (refl, cc is)
over number draft ((b ∷ bs) ∷ []) job ended h = let is : Err (fault_at number _) ≡ Ok job = rw ended at h in absurd (cc is)
over number draft (line ∷ next ∷ lines) job ended h = let is : Err (fault_at number _) ≡ Ok job = rw ended at h in absurd (cc is)

-- the lines are those of the rest of the plan, which the job has after the draft's
record PlanRest (draft : Draft) (lines : List (List ℕ)) (job : Job) : Type 0 where
  pub steps : List Line
  pub are : lines ≡ map line_text steps ++ codes "end" ∷ [] ∷ []
  pub valid : All (IsValidLine draft.version draft.workers) steps
  pub is : job ≡ record { version = draft.version; pages = draft.pages; history = draft.history; scripts = draft.finished; plan = draft.plan ++ steps }

-- lines that were read in the plan are those of its rest
plan_rest : (number : ℕ) (draft : Draft) (lines : List (List ℕ)) (job : Job) → draft.section ≡ InPlan → 1 ≤ draft.workers
    → lines_in number draft lines ≡ Ok job → PlanRest draft lines job
plan_rest number draft [] job here some h = absurd (cc h)
plan_rest number draft (line ∷ []) job here some h = absurd (not_cut number draft line job (rw here refl) h)
plan_rest number draft (line ∷ next ∷ lines) job here some h =
    let step = first_taken number draft line next lines job (rw here refl) h in
    elim (plan_line_told draft step.0 line here some step.1) [
      | inl last ↦
          let end : Draft = record draft { section = AtEnd } in
          let read = subst (λ (d : Draft). lines_in (number + 1) d (next ∷ lines) ≡ Ok job) last.1 step.2 in
          let done = over (number + 1) end (next ∷ lines) job refl read in
          record { steps = []; are = cc (last.0, done.0); valid = All-nil (IsValidLine draft.version draft.workers); is = rw (append-nil draft.plan) done.1 }
      | inr more ↦
          let after : Draft = record draft { plan = draft.plan ++ more.0 ∷ [] } in
          let read = subst (λ (d : Draft). lines_in (number + 1) d (next ∷ lines) ≡ Ok job) more.3 step.2 in
          let rest = plan_rest (number + 1) after (next ∷ lines) job here some read in
          record {
            steps = more.0 ∷ rest.steps;
            are = cc (more.1, rest.are);
            valid = All-cons (IsValidLine draft.version draft.workers) more.0 rest.steps more.2 rest.valid;
            is = rest.is ∙ ap (λ (p : List Line). record { version = draft.version; pages = draft.pages; history = draft.history; scripts = draft.finished; plan = p })
                (append_assoc draft.plan (more.0 ∷ []) rest.steps);
          }
    ]

-- the lines of a plan's head, a plan and the end, and what follows the last line end
abbrev plan_lines : List Line → List (List ℕ)
plan_lines steps = codes "plan" ∷ (map line_text steps ++ codes "end" ∷ [] ∷ [])

-- the lines are those of the rest of a script, of the later scripts and of the plan, which the job has after the
-- draft's
record ScriptRest (worker : ℕ) (draft : Draft) (lines : List (List ℕ)) (job : Job) : Type 0 where
  pub commands : List Command
  pub scripts : List (List Command)
  pub steps : List Line
  pub are : lines ≡ map command_text commands ++ (sections_from (worker + 1) scripts ++ plan_lines steps)
  pub valid : All (IsValidCommand draft.version) commands
  pub all_valid : All (λ script. All (IsValidCommand draft.version) script) scripts
  pub steps_valid : All (IsValidLine draft.version draft.workers) steps
  pub count : worker + 1 + length scripts ≡ draft.workers
  pub is : job ≡ record {
    version = draft.version;
    pages = draft.pages;
    history = draft.history;
    scripts = draft.finished ++ (draft.script ++ commands) ∷ scripts;
    plan = draft.plan ++ steps;
  }

-- lines that were read in a worker's section are those of its rest
script_rest : (number worker : ℕ) (draft : Draft) (lines : List (List ℕ)) (job : Job) → draft.section ≡ InScript worker
    → lines_in number draft lines ≡ Ok job → ScriptRest worker draft lines job
script_rest number worker draft [] job here h = absurd (cc h)
script_rest number worker draft (line ∷ []) job here h = absurd (not_cut number draft line job (rw here refl) h)
script_rest number worker draft (line ∷ next ∷ lines) job here h =
    let step = first_taken number draft line next lines job (rw here refl) h in
    let with_scripts : List Line → List (List Command) → Job =
    λ plan scripts. record { version = draft.version; pages = draft.pages; history = draft.history; scripts = scripts; plan = draft.plan ++ plan } in
    elim (script_line_told draft step.0 worker line here step.1) [
      | inl head ↦
          let after : Draft = script_closed draft (InScript (worker + 1)) in
          let read = subst (λ (d : Draft). lines_in (number + 1) d (next ∷ lines) ≡ Ok job) head.2 step.2 in
          let rest = script_rest (number + 1) (worker + 1) after (next ∷ lines) job refl read in
          record {
            commands = [];
            scripts = rest.commands ∷ rest.scripts;
            steps = rest.steps;
            are = cc (
              head.0,
              rest.are,
              append_assoc (map command_text rest.commands) (sections_from (worker + 1 + 1) rest.scripts) (plan_lines rest.steps),
            );
            valid = All-nil (IsValidCommand draft.version);
            all_valid = All-cons (λ script. All (IsValidCommand draft.version) script) rest.commands rest.scripts rest.valid rest.all_valid;
            steps_valid = rest.steps_valid;
            count = omega (arith, rest.count);
            is = rest.is ∙ ap (with_scripts rest.steps)
                (append_assoc draft.finished (draft.script ∷ []) (rest.commands ∷ rest.scripts)
                ∙ ap (λ (s : List Command). draft.finished ++ s ∷ rest.commands ∷ rest.scripts) (sym (append-nil draft.script)));
          }
      | inr others ↦ elim others [
        | inl head ↦
            let after : Draft = script_closed draft InPlan in
            let read = subst (λ (d : Draft). lines_in (number + 1) d (next ∷ lines) ≡ Ok job) head.2 step.2 in
            let rest = plan_rest (number + 1) after (next ∷ lines) job refl (omega (arith, head.1)) read in
            record {
              commands = [];
              scripts = [];
              steps = rest.steps;
              are = cc (head.0, rest.are);
              valid = All-nil (IsValidCommand draft.version);
              all_valid = All-nil (λ script. All (IsValidCommand draft.version) script);
              steps_valid = rest.valid;
              count = omega (arith, head.1);
              is = rest.is
                  ∙ ap (λ (s : List Command). with_scripts rest.steps (draft.finished ++ s ∷ [])) (sym (append-nil draft.script));
            }
        | inr command ↦
            let after : Draft = record draft { script = draft.script ++ command.0 ∷ [] } in
            let read = subst (λ (d : Draft). lines_in (number + 1) d (next ∷ lines) ≡ Ok job) command.3 step.2 in
            let rest = script_rest (number + 1) worker after (next ∷ lines) job here read in
            record {
              commands = command.0 ∷ rest.commands;
              scripts = rest.scripts;
              steps = rest.steps;
              are = cc (command.1, rest.are);
              valid = All-cons (IsValidCommand draft.version) command.0 rest.commands command.2 rest.valid;
              all_valid = rest.all_valid;
              steps_valid = rest.steps_valid;
              count = rest.count;
              is = rest.is ∙ ap (λ (s : List Command). with_scripts rest.steps (draft.finished ++ s ∷ rest.scripts))
                  (append_assoc draft.script (command.0 ∷ []) rest.commands);
            }
      ]
    ]

-- lines, joined by line ends with nothing after the last one, are a text
text_joined : (lines : List (List ℕ)) → join_with_byte 10 (lines ++ [] ∷ []) ≡ flat_map ended lines
text_joined [] = refl
text_joined (line ∷ []) = sym (append-nil (line ++ 10 ∷ []))
text_joined (line ∷ next ∷ lines) = rw (append_assoc line (10 ∷ []) (flat_map ended (next ∷ lines)), text_joined (next ∷ lines)) refl

-- the sections and the plan, and what follows the last line end
sections_end : (scripts : List (List Command)) (steps : List Line)
    → (sections_from 0 scripts ++ codes "plan" ∷ (map line_text steps ++ codes "end" ∷ [])) ++ [] ∷ [] ≡ sections_from 0 scripts ++ plan_lines steps
sections_end scripts steps =
    append_assoc (sections_from 0 scripts) (codes "plan" ∷ (map line_text steps ++ codes "end" ∷ [])) ([] ∷ [])
    ∙ ap (λ (ls : List (List ℕ)). sections_from 0 scripts ++ codes "plan" ∷ ls) (append_assoc (map line_text steps) (codes "end" ∷ []) ([] ∷ []))

-- the lines after the first one were read at the draft that it gave
read_on : {number : ℕ} {draft : Draft} {lines : List (List ℕ)} {job : Job} (first : FirstTaken number draft lines job) (after : Draft)
    → first.draft' ≡ after → lines_in (number + 1) after first.rest ≡ Ok job
read_on {number} {draft} {lines} {job} first after is = subst (λ (d : Draft). lines_in (number + 1) d first.rest ≡ Ok job) is first.read

-- lines whose first one and whose others are known
front : {lines rest rest' : List (List ℕ)} {line line' : List ℕ} → lines ≡ line ∷ rest → line ≡ line' → rest ≡ rest' → lines ≡ line' ∷ rest'
front is first others = cc (is, first, others)

-- a draft in its header
abbrev headed : Version → Section → ℕ → ℕ → ℕ → Draft
headed version section pages history workers =
    record { section = section; version = version; pages = pages; history = history; workers = workers; finished = []; script = []; plan = [] }

-- the lines of a job after its header, with what follows the last line end
abbrev body_lines : Job → List (List ℕ)
body_lines job = sections_from 0 job.scripts ++ plan_lines job.plan

-- the lines from the count of workers on
abbrev workers_lines : Job → List (List ℕ)
workers_lines job = (codes "workers" ++ number_field (length job.scripts)) ∷ body_lines job

-- the lines from the journal's room on
abbrev history_lines : Job → List (List ℕ)
history_lines job = (codes "history" ++ number_field job.history) ∷ workers_lines job

-- the lines from the count of pages on
abbrev pages_lines : Job → List (List ℕ)
pages_lines job = (codes "pages" ++ number_field job.pages) ∷ history_lines job

-- what lines from the first worker on say of their job
abbrev BodyTold : Version → ℕ → ℕ → ℕ → List (List ℕ) → Job → Type 0
BodyTold version pages history workers lines job =
    IsValidJob job × (job.version ≡ version) × (lines ≡ body_lines job) × (job.pages ≡ pages) × (job.history ≡ history) × (length job.scripts ≡ workers)

-- the parts of a job in their ranges, and their lines
parts_told : (version : Version) (pages history workers : ℕ) (commands : List Command) (scripts : List (List Command)) (steps : List Line) (lines : List (List ℕ))
    → 1 ≤ pages → pages ≤ 4096 → history ≤ 65536 → workers ≤ 64 → 1 + length scripts ≡ workers → All (IsValidCommand version) commands
    → All (λ script. All (IsValidCommand version) script) scripts → All (IsValidLine version workers) steps
    → lines ≡ sections_from 0 (commands ∷ scripts) ++ plan_lines steps
    → BodyTold version pages history workers lines (record { version = version; pages = pages; history = history; scripts = commands ∷ scripts; plan = steps })
parts_told version pages history workers commands scripts steps lines some_page most_pages most_history most_workers count valid all_valid steps_valid are =
    let same : workers ≡ length (commands ∷ scripts) = omega (arith, count) in (
      record {
        some_page = some_page;
        most_pages = most_pages;
        most_history = most_history;
        some_worker = omega arith;
        most_workers = omega (arith, same, most_workers);
        commands = All-cons (λ script. All (IsValidCommand version) script) commands scripts valid all_valid;
        lines = subst (λ (n : ℕ). All (IsValidLine version n) steps) same steps_valid;
      },
      refl,
      are,
      refl,
      refl,
      sym same,
    )

-- the first worker's head, and what follows it
first_told : (version : Version) (pages history workers : ℕ) (lines later : List (List ℕ)) (job : Job) → 1 ≤ pages → pages ≤ 4096 → history ≤ 65536 → workers ≤ 64
    → lines ≡ (codes "worker" ++ number_field 0) ∷ later → ScriptRest 0 (headed version (InScript 0) pages history workers) later job
    → BodyTold version pages history workers lines job
first_told version pages history workers lines later job some_page most_pages most_history most_workers is rest =
    let others : later ≡ (map command_text rest.commands ++ sections_from 1 rest.scripts) ++ plan_lines rest.steps =
    rest.are ∙ sym (append_assoc (map command_text rest.commands) (sections_from 1 rest.scripts) (plan_lines rest.steps)) in
    subst (BodyTold version pages history workers lines) (sym rest.is)
    (parts_told version pages history workers rest.commands rest.scripts rest.steps lines some_page most_pages most_history most_workers (omega (arith, rest.count))
    rest.valid rest.all_valid rest.steps_valid (front is refl others))

-- lines that were read from the first worker on
body_told : (version : Version) (number pages history workers : ℕ) (lines : List (List ℕ)) (job : Job) → 1 ≤ pages → pages ≤ 4096 → history ≤ 65536 → workers ≤ 64
    → lines_in number (headed version AtFirstWorker pages history workers) lines ≡ Ok job → BodyTold version pages history workers lines job
body_told version number pages history workers lines job some_page most_pages most_history most_workers h =
    let first = some_taken number (headed version AtFirstWorker pages history workers) lines job refl h in
    let head = first_worker_told (headed version AtFirstWorker pages history workers) first.draft' first.line refl first.taken in
    first_told version pages history workers lines first.rest job some_page most_pages most_history most_workers (front first.is head.0 refl)
    (script_rest (number + 1) 0 (headed version (InScript 0) pages history workers) first.rest job refl
    (read_on first (headed version (InScript 0) pages history workers) head.1))

-- lines that were read from the count of workers on
from_workers_told : (version : Version) (number pages history : ℕ) (lines : List (List ℕ)) (job : Job) → 1 ≤ pages → pages ≤ 4096 → history ≤ 65536
    → lines_in number (headed version AtWorkers pages history 0) lines ≡ Ok job
    → IsValidJob job × (job.version ≡ version) × (lines ≡ workers_lines job) × (job.pages ≡ pages) × (job.history ≡ history)
from_workers_told version number pages history lines job some_page most_pages most_history h =
    let first = some_taken number (headed version AtWorkers pages history 0) lines job refl h in
    let head = heading_told AtWorkers (codes "workers") 1 64 (headed version AtFirstWorker pages history) (headed version AtWorkers pages history 0)
    first.draft' first.line (λ _ _. refl) refl first.taken in
    let body = body_told version (number + 1) pages history head.0 first.rest job some_page most_pages most_history head.3
    (read_on first (headed version AtFirstWorker pages history head.0) head.4) in
    (body.0, body.1, front first.is (head.1 ∙ ap (λ (n : ℕ). codes "workers" ++ number_field n) (sym body.5)) body.2, body.3, body.4)

-- lines that were read from the journal's room on
from_history_told : (version : Version) (number pages : ℕ) (lines : List (List ℕ)) (job : Job) → 1 ≤ pages → pages ≤ 4096
    → lines_in number (headed version AtHistory pages 0 0) lines ≡ Ok job
    → IsValidJob job × (job.version ≡ version) × (lines ≡ history_lines job) × (job.pages ≡ pages)
from_history_told version number pages lines job some_page most_pages h =
    let first = some_taken number (headed version AtHistory pages 0 0) lines job refl h in
    let head = heading_told AtHistory (codes "history") 0 65536 (λ n. headed version AtWorkers pages n 0) (headed version AtHistory pages 0 0)
    first.draft' first.line (λ _ _. refl) refl first.taken in
    let later = from_workers_told version (number + 1) pages head.0 first.rest job some_page most_pages head.3
    (read_on first (headed version AtWorkers pages head.0 0) head.4) in
    (later.0, later.1, front first.is (head.1 ∙ ap (λ (n : ℕ). codes "history" ++ number_field n) (sym later.4)) later.2, later.3)

-- lines that were read from the count of pages on
from_pages_told : (version : Version) (number : ℕ) (lines : List (List ℕ)) (job : Job) → lines_in number (headed version AtPages 0 0 0) lines ≡ Ok job
    → IsValidJob job × (job.version ≡ version) × (lines ≡ pages_lines job)
from_pages_told version number lines job h =
    let first = some_taken number (headed version AtPages 0 0 0) lines job refl h in
    let head = heading_told AtPages (codes "pages") 1 4096 (λ n. headed version AtHistory n 0 0) (headed version AtPages 0 0 0)
    first.draft' first.line (λ _ _. refl) refl first.taken in
    let later = from_history_told version (number + 1) head.0 first.rest job head.2 head.3
    (read_on first (headed version AtHistory head.0 0 0) head.4) in
    (later.0, later.1, front first.is (head.1 ∙ ap (λ (n : ℕ). codes "pages" ++ number_field n) (sym later.3)) later.2)

-- a number from 1 to 2 is that of its version
version_numbered : (n : ℕ) → 1 ≤ n → n ≤ 2 → n ≡ version_number (version_of n)
version_numbered n some few = grind (arith, nat_tests, below n few)
  where
    below : (n : ℕ) → n ≤ 2 → (n ≡ 2 → ⊥) → n ≤ 1
    below n few other = elim (leb_tells n 1) [ inl is ↦ is.1 | inr past ↦ absurd (other (omega (arith, few, past.1))) ]

-- lines that were read are those of their job, which is in its ranges
lines_told : (number : ℕ) (lines : List (List ℕ)) (job : Job) → lines_in number blank_draft lines ≡ Ok job
    → IsValidJob job × (lines ≡ job_lines job ++ [] ∷ [])
lines_told number lines job h =
    let first = some_taken number blank_draft lines job refl h in
    let head = heading_told AtVersion (codes "mesh") 1 2 (λ n. headed (version_of n) AtPages 0 0 0) blank_draft
    first.draft' first.line (λ _ _. refl) refl first.taken in
    let later = from_pages_told (version_of head.0) (number + 1) first.rest job
    (read_on first (headed (version_of head.0) AtPages 0 0 0) head.4) in
    let same : head.0 ≡ version_number job.version =
    version_numbered head.0 head.2 head.3 ∙ ap (λ (v : Version). version_number v) (sym later.1) in (
      later.0,
      front first.is (head.1 ∙ ap (λ (n : ℕ). codes "mesh" ++ number_field n) same)
          (later.2 ∙ ap (λ (body : List (List ℕ)). (codes "pages" ++ number_field job.pages)
          ∷ (codes "history" ++ number_field job.history) ∷ (codes "workers" ++ number_field (length job.scripts)) ∷ body)
          (sym (sections_end job.scripts job.plan))),
    )

-- a text that was read is the text of its job, which is in its ranges
pub text_told : (bytes : List ℕ) (job : Job) → read_text bytes ≡ Ok job → IsValidJob job × (bytes ≡ text job) × (length bytes ≤ 1048576)
text_told bytes job h = grind (arith, nat_tests, refuse_if_went, lines_told, join_with_byte-slice_split 10 bytes, text_joined (job_lines job), few_by_test)

-- a text is read as a job exactly where it is the text of that job, in its ranges and short enough
pub text_exactly : (bytes : List ℕ) (job : Job) → (read_text bytes ≡ Ok job) ↔ (IsValidJob job × (bytes ≡ text job) × (length bytes ≤ 1048576))
text_exactly bytes job = (text_told bytes job, λ told. rw told.1 (job_back job told.0 (subst (λ (b : List ℕ). length b ≤ 1048576) told.1 told.2)))
