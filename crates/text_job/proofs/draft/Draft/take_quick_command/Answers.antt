use Rattle.std.proofs.Common.{◌≡◌, ℕ, true, refl, List, ap, rules, subst, sym}
use Rattle.std.proofs.lemmas.Bool.{true≢false}
use Rattle.model_words.specs.declared.commands.Command.{Command}
use Rattle.model_jobs.specs.JobFiles.{InScript, has_ended}
use Rattle.text_job.specs.Draft.{draft_of, is_in_script, section_of}
use Rattle.text_job.specs.declared.draft.Section.{Section}
use Rattle.text_job.specs.declared.draft.Section.TheVariants.{Version, Pages, History, Workers, FirstWorker, Worker, Plan, Ended}
use Rattle.text_job.specs.Reading.{IsReadOn}
use Rattle.text_job.proofs.ScriptLines.{valid_in_range}
use Rattle.text_job.proofs.TextLines.{behind_shorter, spelt_line_taken}
use Rattle.text_job.proofs.draft.Draft.take_quick_command.Goals as goal

-- a section of commands as the definitions have it
record IsInScript (section : Section) : Type 0 where
  pub worker : ℕ
  pub is : section_of section ≡ InScript worker

in_script : (section : Section) → is_in_script section ≡ true → IsInScript section
in_script (Worker worker) is = record { worker = worker; is = refl }
in_script Version is = absurd (true≢false (sym is))
in_script Pages is = absurd (true≢false (sym is))
in_script History is = absurd (true≢false (sym is))
in_script Workers is = absurd (true≢false (sym is))
in_script FirstWorker is = absurd (true≢false (sym is))
in_script Plan is = absurd (true≢false (sym is))
in_script Ended is = absurd (true≢false (sym is))

pub push-requires : goal.push-requires
push-requires c = valid_in_range c.args.self.now.version c.in-Some.command (c.in-Some.ensures.valid c.args.self.now.version)

pub returns : goal.returns
returns c =
    let here = in_script _ c.requires.section in
    let taken = c.lines_read_back.ensures.command (draft_of c.args.self.now) here.worker c.in-Some.command here.is (c.in-Some.ensures.valid c.args.self.now.version) in
    record {
      draft = search rules;
      shorter = behind_shorter _ _ _ c.in-Some.ensures.spelt;
      some = subst (λ (script : List Command). IsReadOn (draft_of c.args.self.now) c.args.text.now (record (draft_of c.args.self.now) { script = script }) c.in-Some.rest.now)
          (sym (search rules)) (spelt_line_taken _ _ _ _ _ c.in-Some.ensures.spelt (ap has_ended here.is) taken);
      none = search rules;
    }
