-- What the command line's words say of an exploration.
use Rattle.std.proofs.Common.{◌≡◌, ◌∙◌, ◌+◌, ◌<◌, ◌≤◌, ◌&&◌, ◌==◌, ℕ, zero, suc, Bool, true, false, List, [], Option, None, Some, ap, ap₂, arith, codes, inl, inr, is_some, length, nat_le, option_map, refl, sym, if◌then◌else◌}
use Rattle.std.proofs.Math.Bool.{and-false}
use Rattle.std.proofs.lemmas.Bool.{eqb-true, le-leb}
use Rattle.std.proofs.lemmas.Bool.Decides.{leb_tells}
use Rattle.std.proofs.lemmas.List.{drop_all}
use Rattle.std.specs.List.{after_first, before_first, position_or_len}
use Rattle.std.specs.Prelude.{option_and_then}
use Rattle.clap.specs.Words.{Text, first_value, matched_of, raw_values, rows_of}
use Rattle.clap.specs.declared.parser.matches.Found.{Found}
use Rattle.clap.proofs.WalkLemmas.{first_value-rows, raw_values-rows}
use Rattle.explore_interleavings.specs.declared.pair.MeshPair.{MeshPair}
use Rattle.run_command_line.specs.CommandLine.{given_in, group_of, is_colon, meshes_in, number_in, pair_from, pair_of, pairs_in}

-- a number that was given
pub given_one : (name : Text) (least most : ℕ) (found : Found) (value : Text) (read : Option ℕ) → Some value ≡ first_value found name
    → read ≡ number_in name least most (rows_of found) → option_map Some read ≡ given_in name least most (rows_of found)
given_one name least most found value read is number =
    ap (option_map Some) number
    ∙ ap (λ (o : Option Text). if is_some o then option_map Some (number_in name least most (rows_of found)) else Some None) (is ∙ first_value-rows found name)

-- one that wasn't
pub given_none : (name : Text) (least most : ℕ) (found : Found) → None ≡ first_value found name → Some None ≡ given_in name least most (rows_of found)
given_none name least most found is =
    ap (λ (o : Option Text). if is_some o then option_map Some (number_in name least most (rows_of found)) else Some None) (is ∙ first_value-rows found name)

-- no pair is without a second group
no_second : (source : Option ℕ) → None ≡ pair_from source None
no_second None = refl
no_second (Some source) = refl

-- a text without a colon is no pair
pub uncut : (text : Text) → position_or_len is_colon text ≡ length text → None ≡ pair_of text
uncut text whole =
    let behind : after_first is_colon text ≡ [] = drop_all (position_or_len is_colon text + 1) text (omega (arith, whole)) in
    no_second (group_of (before_first is_colon text)) ∙ ap (λ part. pair_from (group_of (before_first is_colon text)) (group_of part)) (sym behind)

-- the groups before and behind the first colon of a text
pub cut_at : (text source behind : Text) → source ≡ before_first is_colon text → behind ≡ after_first is_colon text
    → pair_from (group_of source) (group_of behind) ≡ pair_of text
cut_at text source behind before after = ap₂ (λ s b. pair_from (group_of s) (group_of b)) before after

-- so many meshes may be given
abbrev may_be_given : ℕ → Bool
may_be_given n = nat_le 1 n && nat_le n 10

pub none_given : (n : ℕ) → true ≡ (n == 0) → may_be_given n ≡ false
none_given n is = let none : n ≡ 0 = eqb-true n 0 (sym is) in rw none refl

pub some_given : (n : ℕ) → false ≡ (n == 0) → 1 ≤ n
some_given zero is = let bad : false ≡ true = is in absurd (cc bad)
some_given (suc n) is = omega arith

pub too_many_given : (n : ℕ) → 10 < n → may_be_given n ≡ false
too_many_given n many = elim (leb_tells n 10) [ inl few ↦ absurd (omega (arith, few.1, many)) | inr is ↦ rw is.0 (simp and-false) ]

pub enough_given : (n : ℕ) → 1 ≤ n → n ≤ 10 → may_be_given n ≡ true
enough_given n low high = rw (le-leb 1 n low, le-leb n 10 high) refl

module _ (found : Found) where
  -- the meshes that texts are, where there are as many as may be given
  abbrev read : List Text → Option (List MeshPair)
  read texts = if may_be_given (length texts) then pairs_in texts else None

  pub no_text : None ≡ option_map raw_values (matched_of found (codes "mesh")) → None ≡ meshes_in (rows_of found)
  no_text is = ap (option_and_then read) (is ∙ raw_values-rows found (codes "mesh"))

  pub texts_unread : (texts : List Text) → Some texts ≡ option_map raw_values (matched_of found (codes "mesh")) → may_be_given (length texts) ≡ false
      → None ≡ meshes_in (rows_of found)
  texts_unread texts is unfit =
      ap (λ (b : Bool). if b then pairs_in texts else None) (sym unfit) ∙ ap (option_and_then read) (is ∙ raw_values-rows found (codes "mesh"))

  pub texts_read : (texts : List Text) → Some texts ≡ option_map raw_values (matched_of found (codes "mesh")) → may_be_given (length texts) ≡ true
      → pairs_in texts ≡ meshes_in (rows_of found)
  texts_read texts is fit =
      ap (λ (b : Bool). if b then pairs_in texts else None) (sym fit) ∙ ap (option_and_then read) (is ∙ raw_values-rows found (codes "mesh"))
