-- The text of a job, part by part.
use Rattle.std.proofs.Common.{◌≡◌, ℕ, ◌+◌, ◌<◌, List, [], ◌∷◌, ◌++◌, Some, None, slice_get, length, map, take, get_or, refl, sym, ap, ◌∙◌, append-nil, append_assoc, arith}
use Rattle.std.specs.Prelude.{codes}
use Rattle.std.specs.List.{flat_map}
use Rattle.std.proofs.lemmas.List.{length-take-le, take_more}
use Rattle.std.proofs.lemmas.Option.{get_or_from_slice_get, slice_get-get_or, slice_get_within}
use Rattle.std.proofs.lemmas.List.Concat.{flat_map-append}
use Rattle.std.proofs.lemmas.List.Folds.{flat_map-map}
use Rattle.model_jobs.specs.Jobs.{Job, Line}
use Rattle.model_jobs.specs.Texts.{command_text, ended, line_text, number_field, sections_from, text, version_number}
use Rattle.model_words.specs.declared.commands.Command.{Command}
use Rattle.text_words.proofs.PartTexts.{wrote_one}
use Rattle.text_job.specs.JobTexts.{begun_text, command_line, line_line, longer_job, sections_text}

-- the line that begins a worker's section, without its end
abbrev worker_head : ℕ → List ℕ
worker_head worker = codes "worker" ++ number_field worker

-- one section more
sections_more : (n k : ℕ) (xs : List (List Command)) (script : List Command) → k ≡ n + length xs
    → sections_from n (xs ++ script ∷ []) ≡ sections_from n xs ++ worker_head k ∷ map command_text script
sections_more n k [] script is =
    let same : k ≡ n = omega arith in
    rw same (ap (λ (ls : List (List ℕ)). worker_head n ∷ ls) (append-nil (map command_text script)))
sections_more n k (x ∷ xs) script is =
    ap (λ (ls : List (List ℕ)). worker_head n ∷ map command_text x ++ ls) (sections_more (n + 1) k xs script (omega arith))
    ∙ sym (append_assoc (worker_head n ∷ map command_text x) (sections_from (n + 1) xs) (worker_head k ∷ map command_text script))

-- the commands of a script, as lines
script_lines : (script : List Command) → flat_map ended (map command_text script) ≡ flat_map command_line script
script_lines script = flat_map-map ended command_text script

plan_lines : (lines : List Line) → flat_map ended (map line_text lines) ≡ flat_map line_line lines
plan_lines lines = flat_map-map ended line_text lines

-- four texts one behind another
four : (a b c d : List ℕ) → a ++ b ++ c ++ d ≡ a ++ (b ++ (c ++ d))
four a b c d = append_assoc (a ++ b) c d ∙ append_assoc a b (c ++ d)

-- one section more is written
pub wrote_section : (scripts : List (List Command)) (script : List Command) (i : ℕ) (before now headed after : List ℕ) → i < length scripts
    → now ≡ before ++ sections_text (take i scripts) → headed ≡ now ++ ended (codes "worker" ++ number_field i) → script ≡ get_or scripts i script
    → after ≡ headed ++ flat_map command_line script → after ≡ before ++ sections_text (take (i + 1) scripts)
wrote_section scripts script i before now headed after inside was head is more =
    let taken : take (i + 1) scripts ≡ take i scripts ++ script ∷ []
    = take_more scripts i script inside ∙ ap (λ (s : List Command). take i scripts ++ s ∷ []) (sym is) in
    let count : i ≡ 0 + length (take i scripts) = (let few = length-take-le i scripts (omega arith) in omega (arith, few)) in
    let sections : sections_text (take (i + 1) scripts) ≡ sections_text (take i scripts) ++ (ended (worker_head i) ++ flat_map command_line script)
    = ap (λ (some : List (List Command)). sections_text some) taken ∙ ap (λ (ls : List (List ℕ)). flat_map ended ls) (sections_more 0 i (take i scripts) script count)
    ∙ flat_map-append ended (sections_from 0 (take i scripts)) (worker_head i ∷ map command_text script)
    ∙ ap (λ (t : List ℕ). sections_text (take i scripts) ++ (ended (worker_head i) ++ t)) (script_lines script) in
    more ∙ ap (λ (t : List ℕ). t ++ flat_map command_line script) (head ∙ ap (λ (t : List ℕ). t ++ ended (worker_head i)) was)
    ∙ four before (sections_text (take i scripts)) (ended (worker_head i)) (flat_map command_line script) ∙ ap (λ (t : List ℕ). before ++ t) (sym sections)

-- the line of one command more is written
pub wrote_command : (script : List Command) (command : Command) (i : ℕ) (before now named after : List ℕ) → slice_get script i ≡ Some command
    → now ≡ before ++ flat_map command_line (take i script) → named ≡ now ++ command_text command → after ≡ named ++ 10 ∷ []
    → after ≡ before ++ flat_map command_line (take (i + 1) script)
wrote_command script command i before now named after there was is end =
    let inside : i < length script = slice_get_within script i command there in
    let read : get_or script i command ≡ command = get_or_from_slice_get script i command command there in
    wrote_one command_line script command i before now after inside was
    (end ∙ ap (λ (t : List ℕ). t ++ 10 ∷ []) is ∙ append_assoc now (command_text command) (10 ∷ []) ∙ ap (λ (c : Command). now ++ command_line c) (sym read))

-- there is a command at each place of a script
pub no_command : (script : List Command) (i : ℕ) → i < length script → slice_get script i ≡ None → ⊥
no_command [] i inside none = (let ne : ⊥ = omega (arith, inside) in ne)
no_command (command ∷ script) i inside none =
    let some : slice_get (command ∷ script) i ≡ Some (get_or (command ∷ script) i command) = slice_get-get_or (command ∷ script) i command inside in
    let both : Some (get_or (command ∷ script) i command) ≡ None = sym some ∙ none in
    cc

-- what follows the header
body_text : (scripts : List (List Command)) (plan more : List Line)
    → flat_map ended (sections_from 0 scripts ++ codes "plan" ∷ (map line_text (plan ++ more) ++ codes "end" ∷ []))
    ≡ sections_text scripts ++ (ended (codes "plan") ++ ((flat_map line_line plan ++ flat_map line_line more) ++ ended (codes "end")))
body_text scripts plan more =
    flat_map-append ended (sections_from 0 scripts) (codes "plan" ∷ (map line_text (plan ++ more) ++ codes "end" ∷ []))
    ∙ ap (λ (t : List ℕ). sections_text scripts ++ (ended (codes "plan") ++ t))
    (flat_map-append ended (map line_text (plan ++ more)) (codes "end" ∷ [])
    ∙ ap (λ (t : List ℕ). t ++ ended (codes "end")) (plan_lines (plan ++ more) ∙ flat_map-append line_line plan more))

-- the parts of a text one behind another
joined : (a b c d s p f m e : List ℕ) → a ++ (b ++ (c ++ (d ++ (s ++ (p ++ ((f ++ m) ++ e)))))) ≡ ((a ++ b ++ c ++ d) ++ s ++ p ++ f) ++ m ++ e
joined a b c d s p f m e = simp append_assoc refl

-- more lines of a plan may be added behind the beginning
pub begun_goes_on : (job : Job) (more : List Line) → text (longer_job job more) ≡ begun_text job ++ flat_map line_line more ++ ended (codes "end")
begun_goes_on job more =
    let mesh : List ℕ = ended (codes "mesh" ++ number_field (version_number job.version)) in
    let pages : List ℕ = ended (codes "pages" ++ number_field job.pages) in
    let history : List ℕ = ended (codes "history" ++ number_field job.history) in
    let workers : List ℕ = ended (codes "workers" ++ number_field (length job.scripts)) in
    ap (λ (t : List ℕ). mesh ++ (pages ++ (history ++ (workers ++ t)))) (body_text job.scripts job.plan more)
    ∙ joined mesh pages history workers (sections_text job.scripts) (ended (codes "plan")) (flat_map line_line job.plan) (flat_map line_line more) (ended (codes "end"))

-- four parts one behind another, all behind a text
behind : (before a b c : List ℕ) → ((before ++ a) ++ b) ++ c ≡ before ++ (a ++ b ++ c)
behind before a b c = simp append_assoc refl

-- the lines of a longer plan are written, and the end
pub wrote_longer : (job : Job) (more : List Line) (before begun written after : List ℕ) → begun ≡ before ++ begun_text job
    → written ≡ begun ++ flat_map line_line more → after ≡ written ++ ended (codes "end") → after ≡ before ++ text (longer_job job more)
wrote_longer job more before begun written after start lines end =
    end ∙ ap (λ (t : List ℕ). t ++ ended (codes "end")) (lines ∙ ap (λ (t : List ℕ). t ++ flat_map line_line more) start)
    ∙ behind before (begun_text job) (flat_map line_line more) (ended (codes "end")) ∙ ap (λ (t : List ℕ). before ++ t) (sym (begun_goes_on job more))
