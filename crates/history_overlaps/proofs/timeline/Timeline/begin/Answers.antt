use Rattle.std.proofs.Common.{◌≡◌, ℕ, ◌+◌, ◌*◌, ap, ◌∙◌, subst, refl, arith, Some, List, length}
use Rattle.std.specs.Ordering.{nat_cmp}
use Rattle.std.specs.BTreeMap.{BTreeMap, get}
use Rattle.model_intervals.specs.Intervals.{Call}
use Rattle.text_words.specs.RecordedWords.{plain_entry}
use Rattle.history_overlaps.specs.Queues.{key_of}
use Rattle.history_overlaps.specs.Standing.{IsSetAt, waits_of}
use Rattle.history_overlaps.specs.Timelines.{StartsWaiting}
use Rattle.history_overlaps.specs.declared.pending.Pending.{Pending}
use Rattle.history_overlaps.proofs.CheckSteps.{past_begun}
use Rattle.history_overlaps.proofs.MapSteps.{set_at}
use Rattle.history_overlaps.proofs.timeline.Timeline.begin.Goals as goal

module _ (c : goal.In_ok-set) where
  starts : (calls : List Call) (call : Call) → length calls ≡ c.args.number → call.end ≡ c.args.end
      → StartsWaiting calls call (waits_of c.args.self.now) (get nat_cmp c.set.new.map) c.in_ok-pending.pending
  starts calls call long ends =
      let key : c.args.end * 4294967296 + c.from.result ≡ key_of call (length calls) = (let b = c.from.ensures in omega (arith, b, long, ends)) in
      let set = subst (λ (k : ℕ). IsSetAt (get nat_cmp c.begun.new.self.waiting) (get nat_cmp c.set.new.map) k (Some c.in_ok-pending.pending)) key
      (set_at c.begun.new.self.waiting c.set.new.map (c.args.end * 4294967296 + c.from.result) (Some c.in_ok-pending.pending) c.in_ok-set.ensures) in
      record { now = set.0; others = λ q apart. set.1 q apart ∙ ap (λ (m : BTreeMap ℕ Pending). get nat_cmp m q) c.in_ok-pending.ensures.waiting }

pub returns-clause-stands : goal.returns-clause-stands
returns-clause-stands c = λ calls begin long stands may.
    let call : Call = record { begin = begin; end = c.args.end; entry = plain_entry c.args.entry.now } in
    c.in_ok-pending.ensures.begun calls call (get nat_cmp c.set.new.map) long refl stands may (starts c calls call long refl)

pub returns-clause-past : goal.returns-clause-past
returns-clause-past c = λ calls call moment long ends past.
    past_begun calls call (waits_of c.args.self.now) (get nat_cmp c.set.new.map) moment c.in_ok-pending.pending (let small = c.ranges.number.fits in omega (arith, small, long))
    (starts c calls call long ends) past
