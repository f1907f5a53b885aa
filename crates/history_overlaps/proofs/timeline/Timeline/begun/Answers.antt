use Rattle.std.proofs.Common.{ℕ, ap, refl, subst, sym, Result, Ok, Err}
use Rattle.std.specs.Prelude.{OnOk}
use Rattle.std.specs.Ordering.{nat_cmp}
use Rattle.std.specs.BTreeMap.{BTreeMap, get}
use Rattle.std.proofs.lemmas.Result.{IfErr-weaker, IfOk-weaker, on_ok_weaker}
use Rattle.model_intervals.specs.Objects.{is_access}
use Rattle.model_intervals.specs.OverlappingCalls.{cell_of}
use Rattle.text_fields.specs.Commands.{plain_command}
use Rattle.text_fields.specs.declared.commands.SpeltCommand.{SpeltCommand}
use Rattle.text_words.specs.RecordedWords.{plain_entry}
use Rattle.history_overlaps.specs.Standing.{HasBegunSo, IsMisusedSo, lives_of}
use Rattle.history_overlaps.specs.Timelines.{FewOpen}
use Rattle.history_overlaps.specs.declared.life.Life.{Life}
use Rattle.history_overlaps.proofs.BeginSteps.{few_more}
use Rattle.history_overlaps.specs.Stops.{IsStoppedSo, IsWithinLimits}
use Rattle.history_overlaps.proofs.Stopped.{within_limits}
use Rattle.history_overlaps.proofs.timeline.Timeline.begun.Goals as goal

on_ok : {T E P : Type 0} (r : Result T E) → P → OnOk r P
on_ok (Ok x) p = p
on_ok (Err e) p = tt

pub returns-in-New-clause-begun : goal.returns-in-New-clause-begun
returns-in-New-clause-begun c = IfOk-weaker c.new_begun.result _ (HasBegunSo c.args.self.now c.new_begun.new.self c.args.number (plain_entry c.args.entry.now))
    (λ pending begun. begun c.in-New.field-2 (plain_entry c.args.entry.now) (ap (λ (s : SpeltCommand). plain_command s) c.in-New.is) refl) c.new_begun.ensures.begun

pub returns-in-New-clause-misused : goal.returns-in-New-clause-misused
returns-in-New-clause-misused c = IfErr-weaker c.new_begun.result _ (IsMisusedSo c.args.self.now c.args.number (plain_entry c.args.entry.now))
    (λ broken misused. misused c.in-New.field-2 (plain_entry c.args.entry.now) (ap (λ (s : SpeltCommand). plain_command s) c.in-New.is)) c.new_begun.ensures.misused

pub returns-in-New-clause-few : goal.returns-in-New-clause-few
returns-in-New-clause-few c = on_ok c.new_begun.result
    (few_more (get nat_cmp c.new_begun.new.self.lives) c.args.number
    (subst (λ (m : BTreeMap ℕ Life). FewOpen (get nat_cmp m) c.args.number) (sym c.new_begun.ensures.lives) c.requires.few))

pub returns-in-Free-clause-few : goal.returns-in-Free-clause-few
returns-in-Free-clause-few c = on_ok_weaker c.free_begun.result (λ few. few_more (lives_of c.free_begun.new.self) c.args.number (few c.args.number c.requires.few)) c.free_begun.ensures.few

pub returns-in-Free-clause-begun : goal.returns-in-Free-clause-begun
returns-in-Free-clause-begun c = IfOk-weaker c.free_begun.result _ (HasBegunSo c.args.self.now c.free_begun.new.self c.args.number (plain_entry c.args.entry.now))
    (λ pending begun. begun (plain_entry c.args.entry.now) (ap (λ (s : SpeltCommand). plain_command s) c.in-Free.is)) c.free_begun.ensures.begun

pub returns-in-Free-clause-misused : goal.returns-in-Free-clause-misused
returns-in-Free-clause-misused c = IfErr-weaker c.free_begun.result _ (IsMisusedSo c.args.self.now c.args.number (plain_entry c.args.entry.now))
    (λ broken misused. misused (plain_entry c.args.entry.now) (ap (λ (s : SpeltCommand). plain_command s) c.in-Free.is)) c.free_begun.ensures.misused

pub returns-in-Put-clause-begun : goal.returns-in-Put-clause-begun
returns-in-Put-clause-begun c = IfOk-weaker c.access_begun.result _ (HasBegunSo c.args.self.now c.access_begun.new.self c.args.number (plain_entry c.args.entry.now))
    (λ pending begun. begun (ap (λ (s : SpeltCommand). is_access (plain_command s)) c.in-Put.is) (ap (λ (s : SpeltCommand). cell_of (plain_command s)) c.in-Put.is))
    c.access_begun.ensures.begun

pub returns-in-Get-clause-begun : goal.returns-in-Get-clause-begun
returns-in-Get-clause-begun c = IfOk-weaker c.access_begun-in-Get.result _ (HasBegunSo c.args.self.now c.access_begun-in-Get.new.self c.args.number (plain_entry c.args.entry.now))
    (λ pending begun. begun (ap (λ (s : SpeltCommand). is_access (plain_command s)) c.in-Get.is) (ap (λ (s : SpeltCommand). cell_of (plain_command s)) c.in-Get.is))
    c.access_begun-in-Get.ensures.begun

pub returns-in-Addr-clause-begun : goal.returns-in-Addr-clause-begun
returns-in-Addr-clause-begun c = IfOk-weaker c.access_begun-in-Addr.result _ (HasBegunSo c.args.self.now c.access_begun-in-Addr.new.self c.args.number (plain_entry c.args.entry.now))
    (λ pending begun. begun (ap (λ (s : SpeltCommand). is_access (plain_command s)) c.in-Addr.is) (ap (λ (s : SpeltCommand). cell_of (plain_command s)) c.in-Addr.is))
    c.access_begun-in-Addr.ensures.begun

pub returns-in-Put-clause-misused : goal.returns-in-Put-clause-misused
returns-in-Put-clause-misused c = IfErr-weaker c.access_begun.result _ (IsMisusedSo c.args.self.now c.args.number (plain_entry c.args.entry.now))
    (λ broken misused. misused (ap (λ (s : SpeltCommand). is_access (plain_command s)) c.in-Put.is) (ap (λ (s : SpeltCommand). cell_of (plain_command s)) c.in-Put.is))
    c.access_begun.ensures.misused

pub returns-in-Get-clause-misused : goal.returns-in-Get-clause-misused
returns-in-Get-clause-misused c = IfErr-weaker c.access_begun-in-Get.result _ (IsMisusedSo c.args.self.now c.args.number (plain_entry c.args.entry.now))
    (λ broken misused. misused (ap (λ (s : SpeltCommand). is_access (plain_command s)) c.in-Get.is) (ap (λ (s : SpeltCommand). cell_of (plain_command s)) c.in-Get.is))
    c.access_begun-in-Get.ensures.misused

pub returns-in-Addr-clause-misused : goal.returns-in-Addr-clause-misused
returns-in-Addr-clause-misused c = IfErr-weaker c.access_begun-in-Addr.result _ (IsMisusedSo c.args.self.now c.args.number (plain_entry c.args.entry.now))
    (λ broken misused. misused (ap (λ (s : SpeltCommand). is_access (plain_command s)) c.in-Addr.is) (ap (λ (s : SpeltCommand). cell_of (plain_command s)) c.in-Addr.is))
    c.access_begun-in-Addr.ensures.misused

pub returns-in-New-clause-stopped : goal.returns-in-New-clause-stopped
returns-in-New-clause-stopped c = IfErr-weaker c.new_begun.result IsWithinLimits (IsStoppedSo c.args.self.now c.args.number (plain_entry c.args.entry.now))
    (within_limits c.args.self.now c.args.number (plain_entry c.args.entry.now)) c.new_begun.ensures.within

pub returns-in-Free-clause-stopped : goal.returns-in-Free-clause-stopped
returns-in-Free-clause-stopped c = IfErr-weaker c.free_begun.result IsWithinLimits (IsStoppedSo c.args.self.now c.args.number (plain_entry c.args.entry.now))
    (within_limits c.args.self.now c.args.number (plain_entry c.args.entry.now)) c.free_begun.ensures.within

pub returns-in-Put-clause-stopped : goal.returns-in-Put-clause-stopped
returns-in-Put-clause-stopped c = IfErr-weaker c.access_begun.result _ (IsStoppedSo c.args.self.now c.args.number (plain_entry c.args.entry.now))
    (λ not_begun stopped. stopped (ap (λ (s : SpeltCommand). is_access (plain_command s)) c.in-Put.is) (ap (λ (s : SpeltCommand). cell_of (plain_command s)) c.in-Put.is))
    c.access_begun.ensures.stopped

pub returns-in-Get-clause-stopped : goal.returns-in-Get-clause-stopped
returns-in-Get-clause-stopped c = IfErr-weaker c.access_begun-in-Get.result _ (IsStoppedSo c.args.self.now c.args.number (plain_entry c.args.entry.now))
    (λ not_begun stopped. stopped (ap (λ (s : SpeltCommand). is_access (plain_command s)) c.in-Get.is) (ap (λ (s : SpeltCommand). cell_of (plain_command s)) c.in-Get.is))
    c.access_begun-in-Get.ensures.stopped

pub returns-in-Addr-clause-stopped : goal.returns-in-Addr-clause-stopped
returns-in-Addr-clause-stopped c = IfErr-weaker c.access_begun-in-Addr.result _ (IsStoppedSo c.args.self.now c.args.number (plain_entry c.args.entry.now))
    (λ not_begun stopped. stopped (ap (λ (s : SpeltCommand). is_access (plain_command s)) c.in-Addr.is) (ap (λ (s : SpeltCommand). cell_of (plain_command s)) c.in-Addr.is))
    c.access_begun-in-Addr.ensures.stopped
