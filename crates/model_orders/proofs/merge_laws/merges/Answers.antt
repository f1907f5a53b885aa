use Rattle.std.proofs.Common.{◌≡◌, ℕ, true, false, List, [], ◌∷◌, arith, refl}
use Rattle.model_orders.specs.declared.facts.Protection.TheVariants.{ReadWrite}
use Rattle.model_orders.specs.declared.facts.Side.TheVariants.{Source}
use Rattle.model_orders.specs.Merging.{Page, Step, Protect, Copy, Remap, Unprotect, Release, Look, Merge, Free, New, Make}
use Rattle.model_orders.proofs.merge_laws.merges.Goals as goal

abbrev started : List Step → ℕ → Page
started steps place = record {
  protection = ReadWrite;
  target = Source;
  released = false;
  source = λ offset. 5;
  destination = λ offset. 0;
  live = λ offset. true;
  own = λ offset. false;
  memory = λ offset. 5;
  looked = false;
  seen = λ offset. false;
  merged = false;
  left = steps;
}

pub returns : goal.returns
returns c = record {
  judged = (refl, refl, refl);
  after_look = record {
    pages = started (Look ∷ Merge ∷ Protect ∷ Copy ∷ Remap ∷ Unprotect ∷ Release ∷ []);
    moves = Make 0 ∷ Free (λ place offset. true) ∷ Make 0 ∷ New (λ place offset. true) ∷ Make 0 ∷ Make 0 ∷ [];
    place = 0;
    start = λ other. record {
      protection = refl;
      target = refl;
      released = refl;
      looked = refl;
      merged = refl;
      left = refl;
      bytes = λ offset live. refl;
      own = λ offset own. cc own;
      apart = λ offset live. refl;
    };
    wrong = λ r. (let both : 5 ≡ 0 = r.own 0 refl in omega (arith, both));
  };
}
