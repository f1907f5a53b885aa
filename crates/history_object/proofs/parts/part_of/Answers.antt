use Rattle.std.proofs.Common.{◌≡◌, ◌∙◌, List, Bool, false, true, length, sym, ap, arith}
use Rattle.std.proofs.lemmas.List.{length-replicate, length-set}
use Rattle.history_object.specs.Marks.{is_marked}
use Rattle.history_object.proofs.Inside.{looked_more, none_marked, one_less}
use Rattle.history_object.proofs.OneEffect.{mark_here}
use Rattle.history_object.proofs.parts.part_of.Goals as goal

pub loop-next-init : goal.loop-next-init
loop-next-init g c =
    let long : length c.unmarked-inside.result ≡ 64 = ap (λ (xs : List Bool). length xs) c.unmarked-inside.ensures ∙ length-replicate 64 false in
    let within = c.requires.within in
    record {
      long = ap (λ (xs : List Bool). length xs) c.unmarked-looked.ensures ∙ length-replicate 64 false;
      own = mark_here c.unmarked-inside.result c.args.place true (omega (arith, long, within));
      closed = λ q is. (
          let no : is_marked c.unmarked-looked.result q ≡ false = ap (λ (xs : List Bool). is_marked xs q) c.unmarked-looked.ensures ∙ none_marked 64 q in
          let ne : true ≡ false = sym is ∙ no in
          cc (ne));
    }

pub loop-next-preserved : goal.loop-next-preserved
loop-next-preserved g c = record {
  long = length-set c.loop-next.looked c.in-Some.next true ∙ c.loop-next.invariant.long;
  own = c.add_conflicting.ensures.stay c.args.place c.loop-next.invariant.own;
  closed = looked_more g.O.Calls.conflict c.args.pending.now c.loop-next.looked c.loop-next.inside c.add_conflicting.new.inside c.in-Some.next
      c.add_conflicting.ensures.stay c.add_conflicting.ensures.all c.loop-next.invariant.closed;
}

pub loop-next-smaller : goal.loop-next-smaller
loop-next-smaller g c =
    let long = c.loop-next.invariant.long in
    let found = c.in-Some.ensures in
    let lt = found.0 in
    one_less c.loop-next.looked c.in-Some.next (omega (arith, long, lt)) found.1

pub returns : goal.returns
returns g c = record {
  own = c.loop-next.invariant.own;
  apart = λ q is. c.loop-next.invariant.closed q (c.in_default.ensures q is);
}
