use Rattle.std.proofs.Common.{◌≡◌, ◌+◌, [], ◌∷◌, length, subst, sym, arith}
use Rattle.std.proofs.lemmas.List.{length_push, map-append}
use Rattle.savings_report.specs.FigureSamples.{lives_no_less, moment, saves_no_less}
use Rattle.savings_report.specs.Figures.{IsColumn}
use Rattle.savings_report.specs.declared.table.moments.Moment.{Moment}
use Rattle.savings_report.specs.declared.table.samples.Sample.{Sample}
use Rattle.savings_report.proofs.FigureLemmas.{last_sample_push}
use Rattle.savings_report.proofs.MomentLemmas.{most_push}
use Rattle.savings_report.proofs.table.measured.Measured.add.Goals as goal

pub returns-clause-measured : goal.returns-clause-measured
returns-clause-measured c = λ first samples h call.
    let s = c.args.sample.now in
    let next : Moment =
    record {
      call = c.args.call;
      without = c.add-without.result;
      with = c.add-with.result;
      perfect = c.add-perfect.result;
      live_bytes = s.live_bytes;
      large_pages = s.large_pages;
    } in
    let same : next ≡ moment (first + length samples) s =
    rw (call, c.add-without.ensures.total, c.add-with.ensures.total, c.add-perfect.ensures.total) in
    record {
      count_is = omega (arith, h.count_is, length_push samples s);
      end_is = sym (last_sample_push samples s);
      without_is =
          subst (IsColumn c.add-without.new.self) (sym (map-append (λ (t : Sample). t.without) samples (s ∷ [])))
          (c.add-without.ensures.column _ h.without_is);
      with_is =
          subst (IsColumn c.add-with.new.self) (sym (map-append (λ (t : Sample). t.with) samples (s ∷ [])))
          (c.add-with.ensures.column _ h.with_is);
      perfect_is =
          subst (IsColumn c.add-perfect.new.self) (sym (map-append (λ (t : Sample). t.perfect) samples (s ∷ [])))
          (c.add-perfect.ensures.column _ h.perfect_is);
      levels_are = c.add.ensures.levels samples h.levels_are;
      most_saved_is = most_push saves_no_less c.keep_most_saved.new.best first samples s next same (c.keep_most_saved.ensures _ h.most_saved_is);
      most_live_is = most_push lives_no_less c.keep_most_live.new.best first samples s next same (c.keep_most_live.ensures.most _ h.most_live_is);
    }

pub returns-clause-bounds : goal.returns-clause-bounds
returns-clause-bounds c =
    let bounds = c.requires.bounds in
    let count = c.args.self.now.count in
    record {
      without_in = c.add-without.ensures.bounds count bounds.without_in;
      with_in = c.add-with.ensures.bounds count bounds.with_in;
      perfect_in = c.add-perfect.ensures.bounds count bounds.perfect_in;
      levels_in = c.add.ensures.bounds count bounds.levels_in;
      end_in =
          record {
            without_in = omega (arith, c.add-without.ensures.total);
            with_in = omega (arith, c.add-with.ensures.total);
            perfect_in = omega (arith, c.add-perfect.ensures.total);
            large_in = c.requires.bounded.large;
          };
      most_live_in = c.keep_most_live.ensures.bounds;
    }
