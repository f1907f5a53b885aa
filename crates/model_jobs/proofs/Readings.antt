-- The text of a whole job, read back line by line.
use Rattle.std.proofs.lemmas.Bool.Decides.{nat_tests}
use Rattle.std.proofs.Common.{◌≡◌, ℕ, suc, ◌+◌, ◌^◌, ◌<◌, ◌≤◌, true, false, List, [], ◌∷◌, ◌++◌, map, Ok, length, subst, refl, sym, ◌∙◌, arith, append-nil, append_assoc}
use Rattle.std.specs.Prelude.{codes}
use Rattle.std.specs.Fmt.{decimal}
use Rattle.std.specs.List.{All, flat_map}
use Rattle.std.proofs.lemmas.Bool.{le-leb, lt-leb, eq-eqb}
use Rattle.model_jobs.specs.JobFiles.{Draft, AtPages, AtHistory, AtWorkers, AtFirstWorker, InScript, InPlan, AtEnd, blank_draft, script_closed, header_in, take_in, take_line, has_ended, job_of, lines_in, read_text, IsValidCommand, IsValidLine, IsValidJob}
use Rattle.model_jobs.specs.Jobs.{Line, Job}
use Rattle.model_jobs.specs.Texts.{field, number_field, command_text, line_text, sections_from, version_number, job_lines, text}
use Rattle.model_words.specs.declared.commands.Command.{Command}
use Rattle.model_words.specs.declared.versions.Version.{Version}
use Rattle.model_words.specs.declared.versions.Version.TheVariants.{One, Two}
use Rattle.model_jobs.proofs.CommandLines.{short_room, decimal_field, command_taken, command_printable, plan_line_taken, plan_line_printable}
use Rattle.model_jobs.proofs.Fields.{AreWithin, number_back, same_bytes, within_by_test}
use Rattle.model_jobs.proofs.SpelledFields.{IsWord, AreFields, word_by_test, line_taken, line_within, AreLines, lines_append, lines_cut}

-- the lines are taken one after another, from one draft to another
abbrev pub Reads : Draft → List (List ℕ) → Draft → Type 0
Reads draft [] last = draft ≡ last
Reads draft (line ∷ lines) last = (next : Draft) × (has_ended draft.section ≡ false) × (take_line draft line ≡ Ok next) × Reads next lines last

-- lines that are taken up to the end are the draft's job
job_read : (number : ℕ) (draft : Draft) (lines : List (List ℕ)) (last : Draft) → Reads draft lines last → has_ended last.section ≡ true
    → lines_in number draft (lines ++ [] ∷ []) ≡ Ok (job_of last)
job_read number draft [] last reads end = rw (reads, end) refl
job_read number draft (line ∷ []) last reads end = rw (reads.1, reads.2) (job_read (number + 1) reads.0 [] last reads.3 end)
job_read number draft (line ∷ next ∷ lines) last reads end = rw (reads.1, reads.2) (job_read (number + 1) reads.0 (next ∷ lines) last reads.3 end)

-- what is true of each element is true of the later ones
all_later : {A : Type 0} (P : A → Type 0) (x : A) (xs : List A) → All P (x ∷ xs) → All P xs
all_later P x xs all = λ k d h. all (suc k) d (omega (arith, h))

-- the section of a script hasn't ended the text
script_going : (draft : Draft) (worker : ℕ) → draft.section ≡ InScript worker → has_ended draft.section ≡ false
script_going draft worker here = rw here refl

-- a script's lines, and what follows them
script_reads : (draft : Draft) (worker : ℕ) (commands : List Command) (rest : List (List ℕ)) (last : Draft) → draft.section ≡ InScript worker
    → All (IsValidCommand draft.version) commands → Reads (record draft { script = draft.script ++ commands }) rest last
    → Reads draft (map command_text commands ++ rest) last
script_reads draft worker [] rest last here valid reads =
    subst (λ (s : List Command). Reads (record draft { script = s }) rest last) (append-nil draft.script) reads
script_reads draft worker (c ∷ cs) rest last here valid reads = (
  record draft { script = draft.script ++ c ∷ [] },
  script_going draft worker here,
  command_taken draft worker c here (valid 0 c (omega arith)),
  script_reads (record draft { script = draft.script ++ c ∷ [] }) worker cs rest last here (all_later (IsValidCommand draft.version) c cs valid)
      (subst (λ (s : List Command). Reads (record draft { script = s }) rest last) (sym (append_assoc draft.script (c ∷ []) cs)) reads),
)

-- a plan's lines, and the end
plan_reads : (draft : Draft) (plan : List Line) → draft.section ≡ InPlan → draft.workers ≤ 64 → All (IsValidLine draft.version draft.workers) plan
    → Reads draft (map line_text plan ++ codes "end" ∷ []) (record draft { section = AtEnd; plan = draft.plan ++ plan })
plan_reads draft [] here few valid = (
  record draft { section = AtEnd },
  rw here refl,
  line_taken draft (codes "end") [] (word_by_test (codes "end") refl) tt (omega arith) ∙ rw here refl,
  rw (append-nil draft.plan) refl,
)
plan_reads draft (l ∷ ls) here few valid = (
  record draft { plan = draft.plan ++ l ∷ [] },
  rw here refl,
  plan_line_taken draft l here few (valid 0 l (omega arith)),
  subst (λ (p : List Line). Reads (record draft { plan = draft.plan ++ l ∷ [] }) (map line_text ls ++ codes "end" ∷ []) (record draft { section = AtEnd; plan = p }))
      (append_assoc draft.plan (l ∷ []) ls)
      (plan_reads (record draft { plan = draft.plan ++ l ∷ [] }) ls here few (all_later (IsValidLine draft.version draft.workers) l ls valid)),
)

-- a number's field, and its room
number_room : (n : ℕ) → n < 2 ^ 64 → AreFields (decimal n ∷ []) × (length (flat_map field (decimal n ∷ [])) ≤ 1000)
number_room n small = short_room (decimal n ∷ []) (decimal_field n small, tt) (omega arith)

-- a word and one number are taken as its fields
header_taken : (draft : Draft) (word : List ℕ) (n : ℕ) → IsWord word → n < 2 ^ 64
    → take_line draft (word ++ number_field n) ≡ take_in draft.section draft word (decimal n ∷ [])
header_taken draft word n is small = let room = number_room n small in
    subst (λ (digits : List ℕ). take_line draft (word ++ 32 ∷ digits) ≡ take_in draft.section draft word (decimal n ∷ [])) (append-nil (decimal n))
    (line_taken draft word (decimal n ∷ []) is room.0 room.1)

-- a header's word and number are read as the number
header_back : (word : List ℕ) (least most n : ℕ) → n < 2 ^ 64 → least ≤ n → n ≤ most → header_in word least most word (decimal n ∷ []) ≡ Ok n
header_back word least most n small low high = rw (same_bytes word, number_back least most n small low high) refl

-- the sections after a script, the plan's head, and what follows it
sections_read : (draft : Draft) (worker : ℕ) (scripts : List (List Command)) (rest : List (List ℕ)) (last : Draft) → draft.section ≡ InScript worker
    → worker + 1 + length scripts ≡ draft.workers → draft.workers ≤ 64 → All (λ script. All (IsValidCommand draft.version) script) scripts
    → Reads (record draft { section = InPlan; finished = draft.finished ++ draft.script ∷ scripts; script = [] }) rest last
    → Reads draft (sections_from (worker + 1) scripts ++ codes "plan" ∷ rest) last
sections_read draft worker [] rest last here count few valid reads = (
  script_closed draft InPlan,
  script_going draft worker here,
  line_taken draft (codes "plan") [] (word_by_test (codes "plan") refl) tt (omega arith)
      ∙ rw (here, eq-eqb (worker + 1) draft.workers (omega (arith, count))) refl,
  reads,
)
sections_read draft worker (s ∷ ss) rest last here count few valid reads = (
  script_closed draft (InScript (worker + 1)),
  script_going draft worker here,
  header_taken draft (codes "worker") (worker + 1) (word_by_test (codes "worker") refl) (omega (arith, count, few))
      ∙ rw (
        here,
        le-leb (suc (worker + 1)) draft.workers (omega (arith, count)),
        number_back (worker + 1) (worker + 1) (worker + 1) (omega (arith, count, few)) (omega arith) (omega arith),
      ) refl,
  subst (λ (lines : List (List ℕ)). Reads (script_closed draft (InScript (worker + 1))) lines last)
      (sym (append_assoc (map command_text s) (sections_from (worker + 1 + 1) ss) (codes "plan" ∷ rest)))
      (script_reads (script_closed draft (InScript (worker + 1))) (worker + 1) s (sections_from (worker + 1 + 1) ss ++ codes "plan" ∷ rest) last refl
      (valid 0 s (omega arith))
      (sections_read (record draft { section = InScript (worker + 1); finished = draft.finished ++ draft.script ∷ []; script = s }) (worker + 1) ss rest last
      refl (omega (arith, count)) few (all_later (λ script. All (IsValidCommand draft.version) script) s ss valid)
      (subst (λ (f : List (List Command)). Reads (record draft { section = InPlan; finished = f; script = [] }) rest last)
      (sym (append_assoc draft.finished (draft.script ∷ []) (s ∷ ss))) reads))),
)

-- the draft of a whole job that was read to its end
abbrev read_to_end : Version → ℕ → ℕ → List (List Command) → List Line → Draft
read_to_end version pages history scripts plan = record {
  section = AtEnd;
  version = version;
  pages = pages;
  history = history;
  workers = length scripts;
  finished = scripts;
  script = [];
  plan = plan;
}

-- the line of a version is taken
version_taken : (version : Version)
    → take_line blank_draft (codes "mesh" ++ number_field (version_number version)) ≡ Ok (record blank_draft { section = AtPages; version = version })
version_taken One = grind (arith, nat_tests, header_taken blank_draft (codes "mesh") 1, word_by_test (codes "mesh"), header_back (codes "mesh") 1 2 1)
version_taken Two = grind (arith, nat_tests, header_taken blank_draft (codes "mesh") 2, word_by_test (codes "mesh"), header_back (codes "mesh") 1 2 2)

-- the lines of a whole job are taken to its end
whole_read : (version : Version) (pages history : ℕ) (scripts : List (List Command)) (plan : List Line) → 1 ≤ pages → pages ≤ 4096 → history ≤ 65536
    → 1 ≤ length scripts → length scripts ≤ 64 → All (λ script. All (IsValidCommand version) script) scripts → All (IsValidLine version (length scripts)) plan
    → Reads blank_draft (job_lines (record { version = version; pages = pages; history = history; scripts = scripts; plan = plan }))
    (read_to_end version pages history scripts plan)
whole_read version pages history [] plan some_page most_pages most_history some few valid lines = absurd (omega (arith, some))
whole_read version pages history (s ∷ ss) plan some_page most_pages most_history some few valid lines =
    let at_pages : Draft = record blank_draft { section = AtPages; version = version } in
    let at_history : Draft = record at_pages { section = AtHistory; pages = pages } in
    let at_workers : Draft = record at_history { section = AtWorkers; history = history } in
    let at_worker : Draft = record at_workers { section = AtFirstWorker; workers = length (s ∷ ss) } in
    let in_script : Draft = record at_worker { section = InScript 0 } in
    let in_plan : Draft = record at_worker { section = InPlan; finished = s ∷ ss; script = [] } in (
      at_pages,
      refl,
      version_taken version,
      (
        at_history,
        refl,
        header_taken at_pages (codes "pages") pages (word_by_test (codes "pages") refl) (omega (arith, most_pages))
            ∙ rw (header_back (codes "pages") 1 4096 pages (omega (arith, most_pages)) some_page most_pages) refl,
        (
          at_workers,
          refl,
          header_taken at_history (codes "history") history (word_by_test (codes "history") refl) (omega (arith, most_history))
              ∙ rw (header_back (codes "history") 0 65536 history (omega (arith, most_history)) (omega arith) most_history) refl,
          (
            at_worker,
            refl,
            header_taken at_workers (codes "workers") (length (s ∷ ss)) (word_by_test (codes "workers") refl) (omega (arith, few))
                ∙ rw (header_back (codes "workers") 1 64 (length (s ∷ ss)) (omega (arith, few)) some few) refl,
            (
              in_script,
              refl,
              header_taken at_worker (codes "worker") 0 (word_by_test (codes "worker") refl) (omega arith)
                  ∙ rw (header_back (codes "worker") 0 0 0 (omega arith) (omega arith) (omega arith)) refl,
              subst (λ (lines : List (List ℕ)). Reads in_script lines (read_to_end version pages history (s ∷ ss) plan))
                  (sym (append_assoc (map command_text s) (sections_from 1 ss) (codes "plan" ∷ (map line_text plan ++ codes "end" ∷ []))))
                  (script_reads in_script 0 s (sections_from 1 ss ++ codes "plan" ∷ (map line_text plan ++ codes "end" ∷ [])) (read_to_end version pages history (s ∷ ss) plan) refl
                  (valid 0 s (omega arith))
                  (sections_read (record in_script { script = s }) 0 ss (map line_text plan ++ codes "end" ∷ []) (read_to_end version pages history (s ∷ ss) plan) refl
                  (omega arith) few (all_later (λ script. All (IsValidCommand version) script) s ss valid) (plan_reads in_plan plan refl few lines))),
            ),
          ),
        ),
      ),
    )

-- the lines of a script are printable
script_printable : (version : Version) (commands : List Command) → All (IsValidCommand version) commands → AreLines (map command_text commands)
script_printable version [] valid = tt
script_printable version (c ∷ cs) valid =
    (command_printable version c (valid 0 c (omega arith)), script_printable version cs (all_later (IsValidCommand version) c cs valid))

-- the lines of a plan are printable
plan_printable : (version : Version) (workers : ℕ) (plan : List Line) → workers ≤ 64 → All (IsValidLine version workers) plan → AreLines (map line_text plan)
plan_printable version workers [] few valid = tt
plan_printable version workers (l ∷ ls) few valid =
    (plan_line_printable version workers l few (valid 0 l (omega arith)), plan_printable version workers ls few (all_later (IsValidLine version workers) l ls valid))

-- a word and one number are printable
header_printable : (word : List ℕ) (n : ℕ) → IsWord word → n < 2 ^ 64 → AreWithin 32 126 (word ++ number_field n)
header_printable word n is small = subst (λ (digits : List ℕ). AreWithin 32 126 (word ++ 32 ∷ digits)) (append-nil (decimal n))
    (line_within word (decimal n ∷ []) is.0 (number_room n small).0)

-- the lines of the sections are printable
sections_printable : (version : Version) (worker : ℕ) (scripts : List (List Command)) → worker + length scripts ≤ 64
    → All (λ script. All (IsValidCommand version) script) scripts
    → AreLines (sections_from worker scripts)
sections_printable version worker [] few valid = tt
sections_printable version worker (s ∷ ss) few valid = (
  header_printable (codes "worker") worker (word_by_test (codes "worker") refl) (omega (arith, few)),
  lines_append (map command_text s) (sections_from (worker + 1) ss) (script_printable version s (valid 0 s (omega arith)))
      (sections_printable version (worker + 1) ss (omega (arith, few)) (all_later (λ script. All (IsValidCommand version) script) s ss valid)),
)

-- the number of a version is small
version_small : (version : Version) → version_number version < 2 ^ 64
version_small One = omega arith
version_small Two = omega arith

-- the lines of a job are printable
job_printable : (job : Job) → IsValidJob job → AreLines (job_lines job)
job_printable job valid = grind (
  arith,
  nat_tests,
  header_printable (codes "mesh") (version_number job.version),
  word_by_test,
  version_small,
  header_printable (codes "pages") job.pages,
  header_printable (codes "history") job.history,
  header_printable (codes "workers") (length job.scripts),
  lines_append,
  sections_printable job.version 0 job.scripts,
  within_by_test,
  lines_append (map line_text job.plan) (codes "end" ∷ []) (plan_printable job.version (length job.scripts) job.plan valid.most_workers valid.lines),
  plan_printable,
)

-- the text of a job is read as the job
pub job_back : (job : Job) → IsValidJob job → length (text job) ≤ 1048576 → read_text (text job) ≡ Ok job
job_back job valid short =
    rw (lt-leb (suc 1048576) (length (text job)) (omega (arith, short)), lines_cut (job_lines job) (job_printable job valid))
    (job_read 1 blank_draft (job_lines job) (read_to_end job.version job.pages job.history job.scripts job.plan)
    (whole_read job.version job.pages job.history job.scripts job.plan valid.some_page valid.most_pages valid.most_history valid.some_worker valid.most_workers
    valid.commands valid.lines) refl)
