-- The text of points, gathered and written.
use Rattle.std.proofs.Common.{◌≡◌, ◌≤◌, ◌+◌, ℕ, List, [], ◌++◌, Option, Result, Ok, Err, append-nil, append_assoc, ap, arith, drop, length, min, refl, subst, sym, take, take-append-drop, ◌∙◌}
use Rattle.std.proofs.KnownBytes.{Appends-kept, Appends-nil, Appends-trans}
use Rattle.std.proofs.Math.Seq.{take-append_seam}
use Rattle.std.proofs.lemmas.List.Concat.{flat_map-append}
use Rattle.std.specs.Prelude.{IfErr}
use Rattle.std.specs.Result.{IsErrAnd}
use Rattle.std.specs.Io.KnownBytes.{Appends}
use native.Mathlib.Numerals.{unary_clauses}
use Rattle.model_jobs.specs.Jobs.{Job}
use Rattle.text_devices.specs.Transfer.{AppendsBeginning}
use Rattle.text_devices.specs.declared.faults.ReplayError.{ReplayError}
use Rattle.text_devices.specs.declared.faults.ReplayError.TheVariants.{Read, Write, Text, Memory}
use Rattle.draw_html.specs.Pages.{escaped_byte}
use Rattle.draw_job.specs.Forms.{HasStoppedIn, formed}
use Rattle.draw_job.specs.Texts.{HasParts, HasWrittenUntil, HoldsForAll, IsLineText, IsTextUpTo}
use Rattle.draw_job.specs.declared.forms.Form.{Form}
use Rattle.draw_job.specs.declared.forms.Form.TheVariants.{Plain, Escaped}

-- the form of no text is no text
pub formed_nil : (form : Form) → formed form [] ≡ []
formed_nil Plain = refl
formed_nil Escaped = refl

-- the form of two texts is the forms of both
pub formed_append : (form : Form) (front text : List ℕ) → formed form (front ++ text) ≡ formed form front ++ formed form text
formed_append Plain front text = refl
formed_append Escaped front text = flat_map-append escaped_byte front text

-- the text of the points after some of the first `n` lines was written in this form, and this text is that of the
-- others
pub record HasGathered (form : Form) (from n : ℕ) (job : Job) (written written' : Option (List ℕ)) (text : List ℕ) : Type 0 where
  pub lines : ℕ
  pub within : lines ≤ n
  pub front : List ℕ
  pub is_front : IsTextUpTo job from lines front
  pub wrote : Appends written written' (formed form front)
  pub is_all : IsTextUpTo job from n (front ++ text)

-- nothing is gathered
pub none_gathered : (form : Form) (from : ℕ) (job : Job) (written : Option (List ℕ)) (text : List ℕ) → text ≡ [] → HasGathered form from 0 job written written text
none_gathered form from job written text none = record {
  lines = 0;
  within = search arith;
  front = [];
  is_front = refl;
  wrote = subst (λ (bytes : List ℕ). Appends written written bytes) (sym (formed_nil form)) (Appends-nil written);
  is_all = none;
}

-- the text up to a line, and behind it the text of the next line, is the text up to the next line
text_more : (from n : ℕ) (job : Job) (front text text' : List ℕ) → IsTextUpTo job from n (front ++ text)
    → HasParts (λ first. first ≡ text) (IsLineText job from (n + 1)) text' → IsTextUpTo job from (n + 1) (front ++ text')
text_more from n job front text text' is more =
    let whole : HasParts (IsTextUpTo job from n) (IsLineText job from (n + 1)) (front ++ text') = record {
      first = front ++ text;
      last = more.last;
      is_first = is;
      is_last = more.is_last;
      all = ap (λ t. front ++ t) (more.all ∙ ap (λ t. t ++ more.last) more.is_first) ∙ sym (append_assoc front text more.last);
    } in
    simp unary_clauses (simp unary_clauses at whole)

-- the text of a line is gathered
pub line_gathered : (form : Form) (from n : ℕ) (job : Job) (old new : Option (List ℕ)) (text text' : List ℕ) → HasGathered form from n job old new text
    → HasParts (λ first. first ≡ text) (IsLineText job from (n + 1)) text' → HasGathered form from (n + 1) job old new text'
line_gathered form from n job old new text text' so_far more = record {
  lines = so_far.lines;
  within = let within = so_far.within in search arith;
  front = so_far.front;
  is_front = so_far.is_front;
  wrote = so_far.wrote;
  is_all = text_more from n job so_far.front text text' so_far.is_all more;
}

-- a beginning of what comes behind written bytes is written
pub beginning_behind : (old mid new : Option (List ℕ)) (front bytes : List ℕ) → Appends old mid front → AppendsBeginning mid new bytes
    → AppendsBeginning old new (front ++ bytes)
beginning_behind old mid new front bytes wrote part =
    let done : List ℕ = front ++ take part.0 bytes in
    let whole : front ++ bytes ≡ done ++ drop part.0 bytes
    = ap (λ t. front ++ t) (sym (take-append-drop part.0 bytes)) ∙ sym (append_assoc front (take part.0 bytes) (drop part.0 bytes)) in
    let is_done : take (length done) (front ++ bytes) ≡ done = ap (λ t. take (length done) t) whole ∙ take-append_seam done (drop part.0 bytes) in
    (length done, subst (λ (t : List ℕ). Appends old new t) (sym is_done) (Appends-trans old mid new front (take part.0 bytes) wrote part.1))

module _ (form : Form) (from n : ℕ) (job : Job) (old mid new : Option (List ℕ)) (text : List ℕ) (so_far : HasGathered form from n job old mid text) where
  -- what was gathered is written behind what was written before
  form_written : Appends mid new (formed form text) → Appends old new (formed form (so_far.front ++ text))
  form_written wrote =
      subst (λ (bytes : List ℕ). Appends old new bytes) (sym (formed_append form so_far.front text))
      (Appends-trans old mid new (formed form so_far.front) (formed form text) so_far.wrote wrote)

  -- what was gathered is written
  pub all_written : (text' : List ℕ) → Appends mid new (formed form text) → text' ≡ [] → HasGathered form from n job old new text'
  all_written text' wrote none = record {
    lines = n;
    within = search arith;
    front = so_far.front ++ text;
    is_front = so_far.is_all;
    wrote = form_written wrote;
    is_all = subst (λ (t : List ℕ). IsTextUpTo job from n t) (sym (ap (λ t. (so_far.front ++ text) ++ t) none ∙ append-nil (so_far.front ++ text))) so_far.is_all;
  }

  -- the text of all lines that are asked for is written
  pub text_written : (to : ℕ) → n ≡ min to (length job.plan) → Appends mid new (formed form text)
      → HoldsForAll from to job (λ all. Appends old new (formed form all))
  text_written to last wrote = record {
    text = so_far.front ++ text;
    is_text = subst (λ m. IsTextUpTo job from m (so_far.front ++ text)) last so_far.is_all;
    holds = form_written wrote;
  }

  -- what was written if the text that was gathered can't be written, and if no line was played past those that are
  -- asked for
  pub stopped_behind : (to : ℕ) → n ≤ min to (length job.plan) → (error : ReplayError) → HasStoppedIn (formed form text) mid new error
      → HasWrittenUntil form from to job old new error
  stopped_behind to within Read stopped = absurd stopped
  stopped_behind to within Write stopped = record {
    lines = n;
    within = within;
    text = so_far.front ++ text;
    is_text = so_far.is_all;
    holds =
        subst (λ (bytes : List ℕ). AppendsBeginning old new bytes) (sym (formed_append form so_far.front text))
        (beginning_behind old mid new (formed form so_far.front) (formed form text) so_far.wrote stopped);
  }
  stopped_behind to within (Text fault) stopped = absurd stopped
  stopped_behind to within Memory stopped = record {
    lines = so_far.lines;
    within = let fewer = so_far.within in search arith;
    text = so_far.front;
    is_text = so_far.is_front;
    holds = Appends-kept old mid new (formed form so_far.front) so_far.wrote stopped;
  }

module _ {T : Type 0} where
  -- what holds of an error holds of a result that is this error
  pub ended_by : {E : Type 0} (P : E → Type 0) (error : E) (r : Result T E) → IsErrAnd r (λ e. e ≡ error) → P error → IfErr r P
  ended_by P error (Ok x) told is = absurd told
  ended_by P error (Err e) told is = subst P (sym told) is

  -- what follows of each error follows of a result that is an error
  pub ended_as : (P Q : ReplayError → Type 0) (r : Result T ReplayError) → IfErr r P → ((error : ReplayError) → P error → Q error) → IfErr r Q
  ended_as P Q (Ok x) stopped then_ = tt
  ended_as P Q (Err e) stopped then_ = then_ e stopped
