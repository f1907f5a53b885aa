-- What was written when a session is stopped by an error.
use Rattle.std.proofs.Common.{◌≡◌, ℕ, ◌+◌, ◌<◌, Bool, false, List, [], ◌∷◌, ◌++◌, Option, Result, Ok, Err, append_assoc, append-nil, drop, length, slice_index, take, take-append-drop, ap, refl, sym, subst, ◌∙◌}
use Rattle.std.specs.Prelude.{OnErr}
use Rattle.std.proofs.KnownBytes.{Appends-trans, Consumes-trans}
use Rattle.std.proofs.lemmas.List.{take_more}
use Rattle.std.proofs.Math.Seq.{take-append-add, take-append_seam}
use Rattle.std.specs.Io.KnownBytes.{Appends, Consumes}
use Rattle.model_jobs.specs.Jobs.{initial_state}
use Rattle.model_jobs.specs.Texts.{ended}
use Rattle.text_job.specs.Lines.{text_lines}
use Rattle.text_devices.specs.Transfer.{AppendsBeginning}
use Rattle.run_live.specs.Answers.{told}
use Rattle.run_live.specs.Runs.{HasFed, HasStopped, IsFedPart, IsStopped, Takes, is_end, live_output, told_lines, told_on, told_rest}
use Rattle.run_live.specs.Sessions.{job_of, sizes_of, state_of}
use Rattle.run_live.specs.declared.session.Session.{Session}
use Rattle.run_live.specs.declared.sizes.Sizes.{Sizes}
use Rattle.run_live.proofs.Runs.{HasReadOn, all_told, from_opening, line_told, nothing_read, nothing_written, rest_on}

-- what holds in any case holds of an error
pub on_error : {T E : Type 0} (P : Type 0) (r : Result T E) → P → OnErr r P
on_error P (Ok x) holds = tt
on_error P (Err e) holds = holds

pub on_error_weaker : {T E P Q : Type 0} (r : Result T E) → (P → Q) → OnErr r P → OnErr r Q
on_error_weaker (Ok x) more holds = tt
on_error_weaker (Err e) more holds = more holds

-- nothing is a beginning of any bytes
pub none_begun : (written : Option (List ℕ)) (bytes : List ℕ) → AppendsBeginning written written bytes
none_begun written bytes = (0, nothing_written written)

-- a beginning of some bytes is one of these and others
pub part_begun : (written written' : Option (List ℕ)) (bytes more : List ℕ) → AppendsBeginning written written' bytes → AppendsBeginning written written' (bytes ++ more)
part_begun written written' bytes more part =
    let done : List ℕ = take part.0 bytes in
    let rest : List ℕ = drop part.0 bytes ++ more in
    let whole : bytes ++ more ≡ done ++ rest
    = ap (λ (all : List ℕ). all ++ more) (sym (take-append-drop part.0 bytes)) ∙ append_assoc done (drop part.0 bytes) more in
    let front : take (length done) (bytes ++ more) ≡ done = ap (λ all. take (length done) all) whole ∙ take-append_seam done rest in
    (length done, subst (λ all. Appends written written' all) (sym front) part.1)

-- bytes that were written, and a beginning of others
pub more_begun : (written written' written'' : Option (List ℕ)) (bytes more : List ℕ) → Appends written written' bytes → AppendsBeginning written' written'' more
    → AppendsBeginning written written'' (bytes ++ more)
more_begun written written' written'' bytes more first part = (
  length bytes + part.0,
  subst (λ all. Appends written written'' all) (sym (take-append-add bytes more part.0))
      (Appends-trans written written' written'' bytes (take part.0 more) first part.1),
)

-- the answer to a line was not written whole
pub line_stopped : (session : Session) (kept : List ℕ) (b : ℕ) (written written' : Option (List ℕ)) → b ≡ 10 → is_end kept ≡ false
    → AppendsBeginning written written' (ended (told (sizes_of session) (state_of session) kept).text) → IsStopped session kept (b ∷ []) written written'
line_stopped session kept b written written' at_end going part begun is more =
    let first = told (sizes_of session) (state_of session) kept in
    subst (λ (b : ℕ). AppendsBeginning written written' (told_on false session begun ((b ∷ []) ++ more))) (sym at_end)
    (subst (λ all. AppendsBeginning written written' all) (sym (line_told session begun kept more is going))
    (part_begun written written' (ended first.text) (told_lines (sizes_of session) first.state (text_lines more)) part))

-- a byte was not taken
pub byte_stopped : (session : Session) (kept bytes : List ℕ) (written : Option (List ℕ)) → IsStopped session kept bytes written written
byte_stopped session kept bytes written begun is more = none_begun written (told_on false session begun (bytes ++ more))

-- some of the bytes were taken, and the next one was not
pub next_stopped : (old mid : Session) (kept kept' bytes : List ℕ) (i : ℕ) (written written' written'' : Option (List ℕ)) → i < length bytes
    → Takes false old mid kept kept' (take i bytes) written written' → IsStopped mid kept' (slice_index bytes i ∷ []) written' written''
    → IsStopped old kept bytes written written''
next_stopped old mid kept kept' bytes i written written' written'' within before stopped begun is more =
    let taken = before begun is in
    let b : ℕ = slice_index bytes i in
    let back : List ℕ = drop (i + 1) bytes in
    let whole : bytes ≡ take i bytes ++ (b ∷ back)
    = sym (take-append-drop (i + 1) bytes) ∙ ap (λ (front : List ℕ). front ++ back) (take_more bytes i 0 within) ∙ append_assoc (take i bytes) (b ∷ []) back in
    let all : told_on false old begun (bytes ++ more) ≡ taken.wrote ++ told_on false mid taken.begun' ((b ∷ []) ++ (back ++ more))
    = ap (λ (bs : List ℕ). told_on false old begun (bs ++ more)) whole ∙ ap (told_on false old begun) (append_assoc (take i bytes) (b ∷ back) more)
    ∙ taken.tells ((b ∷ back) ++ more) in
    subst (λ text. AppendsBeginning written written'' text) (sym all)
    (more_begun written written' written'' taken.wrote (told_on false mid taken.begun' ((b ∷ []) ++ (back ++ more))) taken.appended
    (stopped taken.begun' taken.is_kept (back ++ more)))

-- the input could not be read further
pub read_stopped : (times : ℕ) (old mid : Session) (kept : List ℕ) (left left' written written' : Option (List ℕ)) → HasReadOn times old mid kept left left' written written'
    → IsFedPart old left written written'
read_stopped times old mid kept left left' written written' before = record {
  text = before.text;
  rest = left';
  taken = before.taken;
  wrote = subst (λ text. AppendsBeginning written written' (told_on false old [] text)) (append-nil before.text)
      (subst (λ all. AppendsBeginning written written' all) (sym (before.told.tells []))
      (more_begun written written' written' before.told.wrote (told_on false mid before.told.begun' []) before.told.appended (none_begun written' (told_on false mid before.told.begun' []))));
}

-- bytes that were read could not be taken
pub fed_stopped : (times : ℕ) (old mid : Session) (kept bytes : List ℕ) (left left' left'' written written' written'' : Option (List ℕ))
    → HasReadOn times old mid kept left left' written written' → Consumes left' left'' bytes → IsStopped mid kept bytes written' written''
    → IsFedPart old left written written''
fed_stopped times old mid kept bytes left left' left'' written written' written'' before read stopped = record {
  text = before.text ++ bytes;
  rest = left'';
  taken = Consumes-trans left left' left'' before.text bytes before.taken read;
  wrote = subst (λ all. AppendsBeginning written written'' all) (sym (before.told.tells bytes))
      (more_begun written written' written'' before.told.wrote (told_on false mid before.told.begun' bytes) before.told.appended
      (subst (λ text. AppendsBeginning written' written'' (told_on false mid before.told.begun' text)) (append-nil bytes)
      (stopped before.told.begun' before.told.is_kept [])));
}

-- a session that was opened, and stopped before its first byte, among its bytes, or behind them
pub none_stopped : (sizes : Sizes) (left written : Option (List ℕ)) → HasStopped sizes left written written
none_stopped sizes left written = record { text = []; rest = left; taken = nothing_read left; wrote = none_begun written (live_output sizes []) }

pub part_stopped : (session : Session) (left written written' : Option (List ℕ)) → state_of session ≡ initial_state (job_of (sizes_of session))
    → IsFedPart session left written written' → HasStopped (sizes_of session) left written written'
part_stopped session left written written' at_opening fed = record {
  text = fed.text;
  rest = fed.rest;
  taken = fed.taken;
  wrote = subst (λ all. AppendsBeginning written written' all) (from_opening (sizes_of session) session fed.text refl at_opening) fed.wrote;
}

pub rest_stopped : (over : Bool) (old new : Session) (kept : List ℕ) (left left' written written' written'' : Option (List ℕ)) → state_of old ≡ initial_state (job_of (sizes_of old))
    → over ≡ false → HasFed over old new kept left left' written written' → AppendsBeginning written' written'' (told_rest kept) → HasStopped (sizes_of old) left written written''
rest_stopped over old new kept left left' written written' written'' at_opening is fed part = record {
  text = fed.text;
  rest = left';
  taken = fed.taken;
  wrote = subst (λ all. AppendsBeginning written written'' all) (sym (all_told over (sizes_of old) old new kept left left' written written' refl at_opening fed))
      (more_begun written written' written'' fed.told.wrote (rest_on over kept) fed.told.appended
      (subst (λ o. AppendsBeginning written' written'' (rest_on o kept)) (sym is) part));
}
