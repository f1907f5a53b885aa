use Rattle.std.proofs.Common.{sym, ◌∙◌}
use Rattle.heap_tests.proofs.WorkedView.{four_are_named}
use Rattle.heap_tests.proofs.tests.search.numbers.check_four.Goals as goal

pub returns : goal.returns
returns c = λ c'.
    four_are_named c'.args.view.now (sym c'.len.ensures.value ∙ c'.check_count.ensures)
    c'.check_number.ensures c'.check_number-2.ensures c'.check_number-3.ensures c'.check_number-4.ensures
