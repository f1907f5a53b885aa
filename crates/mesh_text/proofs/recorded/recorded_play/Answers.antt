use Rattle.std.proofs.Common.{◌∙◌, List, ap}
use Rattle.std.proofs.lemmas.Result.{IfOk-weaker}
use Rattle.model_memory.specs.Plain.{Entry}
use Rattle.mesh_mutator.specs.Book.{Book}
use Rattle.mesh_text.specs.Recordings.{recorded_text}
use Rattle.mesh_text.proofs.LeftJournals.{journal_is}
use Rattle.mesh_text.proofs.recorded.recorded_play.Goals as goal

pub returns : goal.returns
returns c =
    IfOk-weaker c.recorded_journal.result _ _
    (λ text is.
    is
    ∙ ap (λ (entries : List Entry). recorded_text entries)
    (c.journal.ensures.entries ∙ ap (λ (book : Book). book.entries) c.book.ensures ∙ journal_is _ _ c.in_ok-play_all.ensures)) c.recorded_journal.ensures
