use Rattle.std.proofs.Common.{◌≡◌, ◌+◌, ◌≤◌, None, length}
use Rattle.text_job.specs.Draft.{IsDraft}
use Rattle.text_job.specs.Taken.{IsReadTo}
use Rattle.text_job.proofs.reader.Reading.take_lines.Given as goal

-- each line took a byte at least, so that the number of the next line fits
abbrev pub invariant-loop-self : goal.invariant-loop-self
invariant-loop-self l = record {
  draft : IsDraft l.self.draft;
  sound : l.self.fault ≡ None;
  first : 1 ≤ l.self.number;
  counted : l.self.number + length l.rest ≤ l.initial.self.number + length l.bytes;
  taken : l.self.taken ≡ l.initial.self.taken;
  read : IsReadTo l.initial.self l.bytes l.self l.rest;
}

abbrev pub decreases-loop-self : goal.decreases-loop-self
decreases-loop-self l = length l.rest
