-- Pages and moves that end in a wrong load. Each byte is 5 at first, a store puts 7, and the destination has zeros.
use Rattle.std.proofs.Common.{◌≡◌, ◌≢◌, ℕ, true, false, List, refl, sym, ◌∙◌}
use Rattle.model_orders.specs.declared.steps.Step.{Step}
use Rattle.model_orders.specs.declared.facts.Protection.TheVariants.{Hidden, ReadWrite}
use Rattle.model_orders.specs.declared.facts.Side.TheVariants.{Source}
use Rattle.model_orders.specs.Pages.{Page, Move, after_all, loaded}
use Rattle.model_orders.specs.RuleLaws.{IsWrong}

abbrev pub started : List Step → ℕ → Page
started steps place = record {
  protection = ReadWrite;
  target = Source;
  released = false;
  source = λ offset. 5;
  destination = λ offset. 0;
  live = λ offset. true;
  memory = λ offset. 5;
  left = steps;
}

pub wrong_by : (steps : List Step) (moves : List Move) (byte right : ℕ) → loaded (after_all moves (started steps) 0) 0 ≡ byte
    → (after_all moves (started steps) 0).memory 0 ≡ right → byte ≢ right → (after_all moves (started steps) 0).live 0 ≡ true
    → (after_all moves (started steps) 0).protection ≢ Hidden → IsWrong steps
wrong_by steps moves byte right got is apart live open_page = record {
  pages = started steps;
  moves = moves;
  place = 0;
  start = λ other. record { protection = refl; target = refl; released = refl; left = refl; bytes = λ offset live. refl };
  wrong = λ r. apart (sym got ∙ (r.bytes 0 live open_page ∙ is));
}

pub wrong_held : (steps : List Step) (moves : List Move) → (after_all moves (started steps) 0).target ≡ Source
    → (after_all moves (started steps) 0).released ≡ true → IsWrong steps
wrong_held steps moves source released = record {
  pages = started steps;
  moves = moves;
  place = 0;
  start = λ other. record { protection = refl; target = refl; released = refl; left = refl; bytes = λ offset live. refl };
  wrong = λ r. (let both : true ≡ false = sym released ∙ r.held source in absurd (cc both));
}
