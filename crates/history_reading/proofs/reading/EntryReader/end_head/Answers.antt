use Rattle.std.proofs.Common.{◌≡◌, [], ℕ, ap, rules, refl, sym, ◌∙◌}
use Rattle.history_reading.specs.Readers.{begun_of}
use Rattle.history_reading.specs.Readings.{next_in}
use Rattle.history_reading.proofs.Readings.{head_ended, line_stops, next_kept, next_whole}
use Rattle.history_reading.proofs.reading.EntryReader.end_head.Goals as goal

pub returns-in_err-head_at-clause-fault : goal.returns-in_err-head_at-clause-fault
returns-in_err-head_at-clause-fault c =
    let none : begun_of c.args.self.now ≡ [] = search rules in
    let line = ap (λ (n : ℕ). next_in n c.args.last.now) (sym c.requires.first) ∙ next_whole c.args.self.now c.args.last.now none in
    line_stops c.from_residual.result c.args.self.now c.args.last.now c.in_err-head_at.field-0.0 _ c.requires.unended c.from_residual.ensures.1 line
    c.in_err-head_at.ensures.fault

pub returns-then-is_empty-clause-taken : goal.returns-then-is_empty-clause-taken
returns-then-is_empty-clause-taken c =
    let none : begun_of c.args.self.now ≡ [] = search rules in
    let line = ap (λ (n : ℕ). next_in n c.args.last.now) (sym c.requires.first) ∙ next_whole c.args.self.now c.args.last.now none in
    head_ended c.args.self.now _ c.args.last.now c.requires.unended (sym line ∙ c.in_ok-head_at.ensures.ok) c.requires.first refl none

pub returns-in_err-head_at-2-clause-fault : goal.returns-in_err-head_at-2-clause-fault
returns-in_err-head_at-2-clause-fault c =
    let kept = next_kept c.args.self.now c.keep.new.self c.args.last.now c.as_slice.result.now c.in_ok-keep.ensures.begun c.in_ok-keep.ensures.lines c.as_slice.ensures in
    let line = ap (λ (n : ℕ). next_in n c.as_slice.result.now) (sym (c.in_ok-keep.ensures.lines ∙ c.requires.first)) ∙ kept in
    line_stops c.from_residual-in_err-head_at-2.result c.args.self.now c.args.last.now c.in_err-head_at-2.field-0.0 _ c.requires.unended
    c.from_residual-in_err-head_at-2.ensures.1 line c.in_err-head_at-2.ensures.fault

pub returns-clause-taken : goal.returns-clause-taken
returns-clause-taken c =
    let kept = next_kept c.args.self.now c.keep.new.self c.args.last.now c.as_slice.result.now c.in_ok-keep.ensures.begun c.in_ok-keep.ensures.lines c.as_slice.ensures in
    let line = ap (λ (n : ℕ). next_in n c.as_slice.result.now) (sym (c.in_ok-keep.ensures.lines ∙ c.requires.first)) ∙ kept in
    head_ended c.args.self.now _ c.args.last.now c.requires.unended (sym line ∙ c.in_ok-head_at-2.ensures.ok) c.requires.first refl c.clear.ensures
