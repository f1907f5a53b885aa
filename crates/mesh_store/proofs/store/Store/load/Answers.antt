use Rattle.std.proofs.Common.{◌≡◌, length, arith}
use Rattle.std.proofs.lemmas.Bool.Decides.{nat_tests}
use Rattle.mesh_store.specs.Places.{byte_of}
use Rattle.mesh_store.proofs.Ranges.{run_of-both}
use Rattle.mesh_store.proofs.store.Store.load.Goals as goal

pub returns-then-not-is_empty-clause-run : goal.returns-then-not-is_empty-clause-run
returns-then-not-is_empty-clause-run c =
    run_of-both (byte_of c.args.self.now.arena c.args.self.now.map) c.args.addr c.len_in_page-first.result _ _ c.load_run.new.out c.load_run-then-not-is_empty.new.out
    (omega arith) c.load_run-then-not-is_empty.auto.out
    (λ k l. c.load_run.ensures k (omega arith)) c.load_run-then-not-is_empty.ensures (omega arith)

pub returns-else-not-is_empty-clause-run : goal.returns-else-not-is_empty-clause-run
returns-else-not-is_empty-clause-run c =
    let none : length c.split_at_mut-head.result.1.now ≡ 0 = grind (arith, nat_tests) in
    run_of-both (byte_of c.args.self.now.arena c.args.self.now.map) c.args.addr c.len_in_page-first.result 0 _ c.load_run.new.out c.split_at_mut-head.result.1.now
    (omega arith) none
    (λ k l. c.load_run.ensures k (omega arith)) (λ k l. absurd (omega arith)) (omega arith)
