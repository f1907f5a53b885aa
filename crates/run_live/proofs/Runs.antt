-- The lines of a text, taken byte by byte.
use Rattle.std.proofs.Common.{◌≡◌, ◌⊎◌, ℕ, ◌+◌, ◌<◌, ◌≤◌, ◌^◌, Bool, true, false, ◌||◌, if◌then◌else◌, nat_eq, List, [], ◌∷◌, ◌++◌, Option, Some, None, Err, append_assoc, append-nil, codes, length, drop, take, slice_index, take-append-drop, ap, refl, sym, subst, ◌∙◌, arith, inl, inr}
use Rattle.std.proofs.KnownBytes.{Appends-trans, Consumes-trans}
use Rattle.std.proofs.lemmas.Bool.{le-leb, true≢false}
use Rattle.std.proofs.lemmas.List.{length-append, take-append-le, take_all, take_more}
use Rattle.std.proofs.lemmas.List.Elements.{All-cons, All-nil}
use Rattle.std.proofs.lemmas.List.Splits.{slice_split_at, slice_split_none}
use Rattle.std.specs.Io.KnownBytes.{Appends, Consumes, IsAtEnd}
use Rattle.std.specs.List.{All}
use Rattle.std.specs.Str.{bytes_eq}
use Rattle.model_jobs.specs.JobFiles.{are_same}
use Rattle.model_jobs.proofs.FieldReadings.{same_by_test}
use Rattle.model_jobs.specs.Jobs.{State, initial_state}
use Rattle.model_jobs.specs.Texts.{ended}
use Rattle.model_words.specs.declared.faults.FaultKind.{FaultKind}
use Rattle.model_words.specs.declared.faults.FaultKind.TheVariants.{LongLine}
use Rattle.run_live.specs.LiveLines.{live_line}
use Rattle.text_fields.specs.KeptLines.{IsKept}
use Rattle.text_fields.proofs.KeptLines.{Kept, Long, Whole, both_unended, kept_of, none_kept, rest_too_long}
use Rattle.text_fields.proofs.Splits.{Parts, some_part}
use Rattle.text_job.specs.Lines.{text_lines}
use Rattle.run_live.specs.Answers.{Told, fault_text, told, told_read}
use Rattle.run_live.specs.Runs.{HasFed, HasLived, HasTaken, Keeps, Takes, ends_on, live_output, have_end, is_end, told_lines, told_on, told_rest}
use Rattle.run_live.specs.Sessions.{IsSession, job_of, sizes_of, state_of}
use Rattle.run_live.specs.declared.session.Session.{Session}
use Rattle.run_live.specs.declared.sizes.Sizes.{Sizes}

-- what is told of a line and of those after it
abbrev told_first : Bool → Sizes → List (List ℕ) → Told → List ℕ
told_first over sizes lines first = if over then [] else ended first.text ++ told_lines sizes first.state lines

-- a line of a text and those after it
told_step : (sizes : Sizes) (state : State) (line : List ℕ) (lines : List (List ℕ)) → Parts lines
    → told_lines sizes state (line ∷ lines) ≡ told_first (is_end line) sizes lines (told sizes state line)
told_step sizes state line [] some = absurd (cc some.is)
told_step sizes state line (next ∷ lines) some = refl

end_step : (line : List ℕ) (lines : List (List ℕ)) → Parts lines → have_end (line ∷ lines) ≡ (is_end line || have_end lines)
end_step line [] some = absurd (cc some.is)
end_step line (next ∷ lines) some = refl

-- the first line of a text, which ends there
line_of_text : (line more : List ℕ) → All (λ b. nat_eq b 10 ≡ false) line → text_lines (line ++ 10 ∷ more) ≡ line ∷ text_lines more
line_of_text line more unended = slice_split_at (λ b. nat_eq b 10) line 10 more unended refl

told_of_text : (sizes : Sizes) (state : State) (line more : List ℕ) → All (λ b. nat_eq b 10 ≡ false) line
    → told_lines sizes state (text_lines (line ++ 10 ∷ more)) ≡ told_first (is_end line) sizes (text_lines more) (told sizes state line)
told_of_text sizes state line more unended =
    ap (λ lines. told_lines sizes state lines) (line_of_text line more unended) ∙ told_step sizes state line (text_lines more) (some_part 10 more)

end_of_text : (line more : List ℕ) → All (λ b. nat_eq b 10 ≡ false) line → have_end (text_lines (line ++ 10 ∷ more)) ≡ (is_end line || have_end (text_lines more))
end_of_text line more unended = ap have_end (line_of_text line more unended) ∙ end_step line (text_lines more) (some_part 10 more)

-- bytes that are too many for a line
long_line : (workers : ℕ) (line : List ℕ) → 1024 < length line → live_line workers line ≡ Err LongLine
long_line workers line long = rw (le-leb 1025 (length line) (omega (arith, long))) refl

-- bytes that are too many are not the line `end`
not_end : (line : List ℕ) → 1024 < length line → is_end line ≡ false
not_end line long = go (is_end line) refl
  where
    go : (b : Bool) → is_end line ≡ b → b ≡ false
    go false is = refl
    go true is = absurd (omega (arith, long, ap (λ (bytes : List ℕ). length bytes) (same_by_test line (codes "end") is)))

-- what `==` of two slices tests
pub same_test : (xs ys : List ℕ) → bytes_eq xs ys ≡ are_same xs ys
same_test [] [] = refl
same_test [] (y ∷ ys) = refl
same_test (x ∷ xs) [] = refl
same_test (x ∷ xs) (y ∷ ys) = rw (same_test xs ys) refl

-- so what is kept of a line is told what the line is told, and ends a session where the line does
kept_told : (sizes : Sizes) (state : State) (kept line : List ℕ) → Kept kept line → told sizes state kept ≡ told sizes state line
kept_told sizes state kept line (Whole is) = ap (told sizes state) is
kept_told sizes state kept line (Long over over') =
    ap (told_read sizes state) (long_line sizes.workers kept over ∙ sym (long_line sizes.workers line over'))

kept_ends : (kept line : List ℕ) → Kept kept line → is_end kept ≡ is_end line
kept_ends kept line (Whole is) = ap is_end is
kept_ends kept line (Long over over') = not_end kept over ∙ sym (not_end line over')

-- one more byte of a line, which is kept unless there are too many
more_unended : (begun : List ℕ) (b : ℕ) → All (λ b. nat_eq b 10 ≡ false) begun → nat_eq b 10 ≡ false → All (λ b. nat_eq b 10 ≡ false) (begun ++ b ∷ [])
more_unended begun b unended other = both_unended begun (b ∷ []) unended (All-cons (λ b. nat_eq b 10 ≡ false) b [] other (All-nil (λ b. nat_eq b 10 ≡ false)))

pub keep_one : (kept : List ℕ) (b : ℕ) → nat_eq b 10 ≡ false → length kept ≤ 1024 → Keeps kept b (kept ++ b ∷ [])
keep_one kept b other few begun is = record {
  front = go (kept_of kept begun is.front);
  unended = more_unended begun b is.unended other;
}
  where
    go : Kept kept begun → kept ++ b ∷ [] ≡ take 1025 (begun ++ b ∷ [])
    go (Whole same) =
        let len : length kept ≡ length begun = ap (λ (bytes : List ℕ). length bytes) same in
        ap (λ (bytes : List ℕ). bytes ++ b ∷ []) same ∙ sym (take_all 1025 (begun ++ b ∷ []) (omega (arith, few, len, length-append begun (b ∷ []))))
    go (Long over over') = absurd (omega (arith, few, over))

pub keep_none : (kept : List ℕ) (b : ℕ) → nat_eq b 10 ≡ false → 1024 < length kept → Keeps kept b kept
keep_none kept b other many begun is = record {
  front = is.front ∙ sym (take-append-le 1025 begun (b ∷ []) (go (kept_of kept begun is.front)));
  unended = more_unended begun b is.unended other;
}
  where
    go : Kept kept begun → 1025 ≤ length begun
    go (Whole same) = let len : length kept ≡ length begun = ap (λ (bytes : List ℕ). length bytes) same in omega (arith, many, len)
    go (Long over over') = omega (arith, over')

-- a line ends a session or not, as a test of its bytes told
pub ends_by : (line slice : List ℕ) (result flag : Bool) → slice ≡ line → result ≡ is_end slice → result ≡ flag → is_end line ≡ flag
ends_by line slice result flag same tested is = ap is_end (sym same) ∙ sym tested ∙ is

-- nothing is written by whoever does nothing
pub nothing_written : (written : Option (List ℕ)) → Appends written written []
nothing_written None = tt
nothing_written (Some xs) = sym (append-nil xs)

-- bytes were taken of which nothing is told
nothing_told : (over : Bool) (session : Session) (begun begun' kept bytes : List ℕ) (written : Option (List ℕ)) → IsSession session → IsKept kept begun'
    → ((more : List ℕ) → told_on false session begun (bytes ++ more) ≡ told_on over session begun' more)
    → ((more : List ℕ) → ends_on false begun (bytes ++ more) ≡ ends_on over begun' more) → HasTaken over session session begun kept bytes written written
nothing_told over session begun begun' kept bytes written sound is tells ends = record {
  sound = sound;
  sizes = refl;
  wrote = [];
  appended = nothing_written written;
  begun' = begun';
  is_kept = is;
  tells = tells;
  ends = ends;
}

-- nothing was taken
pub nothing_taken : (session : Session) (kept : List ℕ) (written : Option (List ℕ)) → IsSession session → Takes false session session kept kept [] written written
nothing_taken session kept written sound begun is = nothing_told false session begun begun kept [] written sound is (λ more. refl) (λ more. refl)

-- a byte of a line was taken, which isn't its end
pub byte_taken : (session : Session) (kept kept' : List ℕ) (b : ℕ) (written : Option (List ℕ)) → IsSession session → Keeps kept b kept'
    → Takes false session session kept kept' (b ∷ []) written written
byte_taken session kept kept' b written sound keeps begun is =
    nothing_told false session begun (begun ++ b ∷ []) kept' (b ∷ []) written sound (keeps begun is)
    (λ more. ap (λ text. told_lines (sizes_of session) (state_of session) (text_lines text)) (sym (append_assoc begun (b ∷ []) more)))
    (λ more. ap (λ text. have_end (text_lines text)) (sym (append_assoc begun (b ∷ []) more)))

-- the end of the line `end` was taken
pub end_taken : (session : Session) (kept : List ℕ) (b : ℕ) (written : Option (List ℕ)) → IsSession session → b ≡ 10 → is_end kept ≡ true
    → Takes true session session kept kept (b ∷ []) written written
end_taken session kept b written sound at_end ended begun is =
    let over : is_end begun ≡ true = sym (kept_ends kept begun (kept_of kept begun is.front)) ∙ ended in
    subst (λ (b : ℕ). HasTaken true session session begun kept (b ∷ []) written written) (sym at_end)
    (nothing_told true session begun begun kept (10 ∷ []) written sound is
    (λ more. told_of_text (sizes_of session) (state_of session) begun more is.unended
    ∙ ap (λ (o : Bool). told_first o (sizes_of session) (text_lines more) (told (sizes_of session) (state_of session) begun)) over)
    (λ more. end_of_text begun more is.unended ∙ ap (λ (o : Bool). o || have_end (text_lines more)) over))

-- what is told from the end of a line on that isn't `end`, of which these bytes are kept
pub line_told : (session : Session) (begun kept more : List ℕ) → IsKept kept begun → is_end kept ≡ false
    → told_on false session begun (10 ∷ more) ≡ ended (told (sizes_of session) (state_of session) kept).text
    ++ told_lines (sizes_of session) (told (sizes_of session) (state_of session) kept).state (text_lines more)
line_told session begun kept more is going =
    let same = kept_of kept begun is.front in
    let first : told (sizes_of session) (state_of session) kept ≡ told (sizes_of session) (state_of session) begun
    = kept_told (sizes_of session) (state_of session) kept begun same in
    let on : is_end begun ≡ false = sym (kept_ends kept begun same) ∙ going in
    told_of_text (sizes_of session) (state_of session) begun more is.unended
    ∙ ap (λ (o : Bool). told_first o (sizes_of session) (text_lines more) (told (sizes_of session) (state_of session) begun)) on
    ∙ ap (λ (t : Told). ended t.text ++ told_lines (sizes_of session) t.state (text_lines more)) (sym first)

-- the end of another line was taken, and the line was answered
pub line_taken : (old new : Session) (kept : List ℕ) (b : ℕ) (written written' : Option (List ℕ)) → IsSession new → sizes_of new ≡ sizes_of old
    → state_of new ≡ (told (sizes_of old) (state_of old) kept).state → b ≡ 10 → is_end kept ≡ false
    → Appends written written' (ended (told (sizes_of old) (state_of old) kept).text) → Takes false old new kept [] (b ∷ []) written written'
line_taken old new kept b written written' sound sizes stands at_end going wrote begun is =
    let on : is_end begun ≡ false = sym (kept_ends kept begun (kept_of kept begun is.front)) ∙ going in
    subst (λ (b : ℕ). HasTaken false old new begun [] (b ∷ []) written written') (sym at_end) (record {
      sound = sound;
      sizes = sizes;
      wrote = ended (told (sizes_of old) (state_of old) kept).text;
      appended = wrote;
      begun' = [];
      is_kept = none_kept;
      tells = λ more. line_told old begun kept more is going
          ∙ ap (λ (s : State). ended (told (sizes_of old) (state_of old) kept).text ++ told_lines (sizes_of old) s (text_lines more)) (sym stands)
          ∙ ap (λ (s : Sizes). ended (told (sizes_of old) (state_of old) kept).text ++ told_lines s (state_of new) (text_lines more)) (sym sizes);
      ends = λ more. end_of_text begun more is.unended ∙ ap (λ (o : Bool). o || have_end (text_lines more)) on;
    })

-- bytes were taken, and then others
pub taken_more : (over : Bool) (old mid new : Session) (begun kept kept' bytes more : List ℕ) (written written' written'' : Option (List ℕ))
    → HasTaken false old mid begun kept bytes written written'
    → Takes over mid new kept kept' more written' written'' → HasTaken over old new begun kept' (bytes ++ more) written written''
taken_more over old mid new begun kept kept' bytes more written written' written'' before after =
    let on = after before.begun' before.is_kept in
    record {
      sound = on.sound;
      sizes = on.sizes ∙ before.sizes;
      wrote = before.wrote ++ on.wrote;
      appended = Appends-trans written written' written'' before.wrote on.wrote before.appended on.appended;
      begun' = on.begun';
      is_kept = on.is_kept;
      tells = λ rest. ap (told_on false old begun) (append_assoc bytes more rest) ∙ before.tells (more ++ rest) ∙ ap (λ t. before.wrote ++ t) (on.tells rest)
          ∙ sym (append_assoc before.wrote on.wrote (told_on over new on.begun' rest));
      ends = λ rest. ap (ends_on false begun) (append_assoc bytes more rest) ∙ before.ends (more ++ rest) ∙ on.ends rest;
    }

-- some of the bytes were taken, and then the next one
pub next_taken : (over : Bool) (old mid new : Session) (kept kept' kept'' bytes : List ℕ) (i : ℕ) (written written' written'' : Option (List ℕ)) → i < length bytes
    → Takes false old mid kept kept' (take i bytes) written written' → Takes over mid new kept' kept'' (slice_index bytes i ∷ []) written' written''
    → Takes over old new kept kept'' (take (i + 1) bytes) written written''
next_taken over old mid new kept kept' kept'' bytes i written written' written'' within before after begun is =
    subst (λ some. HasTaken over old new begun kept'' some written written'') (sym (take_more bytes i 0 within))
    (taken_more over old mid new begun kept' kept'' (take i bytes) (slice_index bytes i ∷ []) written written' written'' (before begun is) after)

-- once the line `end` was taken, nothing that follows is told
pub taken_over : (old new : Session) (kept kept' bytes : List ℕ) (n : ℕ) (written written' : Option (List ℕ))
    → Takes true old new kept kept' (take n bytes) written written' → Takes true old new kept kept' bytes written written'
taken_over old new kept kept' bytes n written written' front begun is =
    let taken = front begun is in
    subst (λ all. HasTaken true old new begun kept' all written written') (take-append-drop n bytes) (record {
      sound = taken.sound;
      sizes = taken.sizes;
      wrote = taken.wrote;
      appended = taken.appended;
      begun' = taken.begun';
      is_kept = taken.is_kept;
      tells = λ rest. ap (told_on false old begun) (append_assoc (take n bytes) (drop n bytes) rest) ∙ taken.tells (drop n bytes ++ rest);
      ends = λ rest. ap (ends_on false begun) (append_assoc (take n bytes) (drop n bytes) rest) ∙ taken.ends (drop n bytes ++ rest);
    })

-- what is told of the bytes behind the last line end, of which these are kept, once a text has ended without the line
-- `end`
abbrev pub rest_on : Bool → List ℕ → List ℕ
rest_on true kept = []
rest_on false kept = told_rest kept

kept_rest : (kept begun : List ℕ) → Kept kept begun → told_rest kept ≡ told_rest begun
kept_rest kept begun (Whole is) = ap told_rest is
kept_rest [] begun (Long over over') = absurd (omega (arith, over))
kept_rest (b ∷ bs) [] (Long over over') = absurd (omega (arith, over'))
kept_rest (b ∷ bs) (c ∷ cs) (Long over over') =
    ap (λ (kind : FaultKind). ended (fault_text kind)) (rest_too_long 1024 (b ∷ bs) over ∙ sym (rest_too_long 1024 (c ∷ cs) over'))

rest_told : (over : Bool) (new : Session) (begun kept : List ℕ) → IsKept kept begun → told_on over new begun [] ≡ rest_on over kept
rest_told true new begun kept is = refl
rest_told false new begun kept is =
    ap (λ text. told_lines (sizes_of new) (state_of new) (text_lines text)) (append-nil begun)
    ∙ ap (told_lines (sizes_of new) (state_of new)) (slice_split_none (λ b. nat_eq b 10) begun is.unended)
    ∙ sym (kept_rest kept begun (kept_of kept begun is.front))

-- where a session ended
ended_where : (over : Bool) (text begun : List ℕ) (left : Option (List ℕ)) → (over ≡ false → IsAtEnd left ⊎ (2 ^ 64 ≤ length text + 1))
    → ends_on false [] (text ++ []) ≡ ends_on over begun [] → (IsAtEnd left ⊎ (have_end (text_lines text) ≡ true)) ⊎ (2 ^ 64 ≤ length text + 1)
ended_where true text begun left whole ends = inl (inr (subst (λ t. have_end (text_lines t) ≡ true) (append-nil text) ends))
ended_where false text begun left whole ends = elim (whole refl) [ inl at_end ↦ inl (inl at_end) | inr many ↦ inr many ]

-- what a session that was opened tells of a text
pub from_opening : (sizes : Sizes) (session : Session) (text : List ℕ) → sizes_of session ≡ sizes → state_of session ≡ initial_state (job_of sizes)
    → told_on false session [] text ≡ live_output sizes text
from_opening sizes session text sizes_are at_opening =
    ap (λ (s : State). told_lines (sizes_of session) s (text_lines text)) at_opening
    ∙ ap (λ (z : Sizes). told_lines z (initial_state (job_of sizes)) (text_lines text)) sizes_are

-- all that a session tells that was fed a text
pub all_told : (over : Bool) (sizes : Sizes) (old new : Session) (kept : List ℕ) (left left' written written' : Option (List ℕ)) → sizes_of old ≡ sizes
    → state_of old ≡ initial_state (job_of sizes) → (fed : HasFed over old new kept left left' written written') → live_output sizes fed.text ≡ fed.told.wrote ++ rest_on over kept
all_told over sizes old new kept left left' written written' sizes_are at_opening fed =
    sym (from_opening sizes old fed.text sizes_are at_opening) ∙ ap (told_on false old []) (sym (append-nil fed.text)) ∙ fed.told.tells []
    ∙ ap (λ t. fed.told.wrote ++ t) (rest_told over new fed.told.begun' kept fed.told.is_kept)

-- a session that was opened, fed a text and told what is left of it
pub lived : (over known : Bool) (sizes : Sizes) (old new : Session) (kept : List ℕ) (left left' written written' written'' : Option (List ℕ)) → sizes_of old ≡ sizes
    → state_of old ≡ initial_state (job_of sizes) → over ≡ known → HasFed over old new kept left left' written written' → Appends written' written'' (rest_on known kept)
    → HasLived sizes left left' written written''
lived over known sizes old new kept left left' written written' written'' sizes_are at_opening is fed rest = record {
  text = fed.text;
  taken = fed.taken;
  whole = ended_where over fed.text fed.told.begun' left' fed.whole (fed.told.ends []);
  wrote = subst (λ t. Appends written written'' t) (sym (all_told over sizes old new kept left left' written written' sizes_are at_opening fed))
      (Appends-trans written written' written'' fed.told.wrote (rest_on over kept) fed.told.appended
      (subst (λ o. Appends written' written'' (rest_on o kept)) (sym is) rest));
}

-- a session read so many times, which gave a byte at least each time, and isn't over
pub record HasReadOn (times : ℕ) (old new : Session) (kept : List ℕ) (left left' written written' : Option (List ℕ)) : Type 0 where
  pub text : List ℕ
  pub taken : Consumes left left' text
  pub counted : times ≤ length text
  pub told : HasTaken false old new [] kept text written written'

-- nothing is read by whoever does nothing
pub nothing_read : (left : Option (List ℕ)) → Consumes left left []
nothing_read None = tt
nothing_read (Some xs) = refl

-- one read more, whose bytes were taken
pub read_more : (times : ℕ) (over : Bool) (old mid new : Session) (kept kept' bytes : List ℕ) (left left' left'' written written' written'' : Option (List ℕ))
    → HasReadOn times old mid kept left left' written written' → Consumes left' left'' bytes → 1 ≤ length bytes
    → over ≡ false → Takes over mid new kept kept' bytes written' written'' → HasReadOn (times + 1) old new kept' left left'' written written''
read_more times over old mid new kept kept' bytes left left' left'' written written' written'' before read some is after = record {
  text = before.text ++ bytes;
  taken = Consumes-trans left left' left'' before.text bytes before.taken read;
  counted = let counted = before.counted in omega (arith, counted, some, length-append before.text bytes);
  told = subst (λ o. HasTaken o old new [] kept' (before.text ++ bytes) written written'') is
      (taken_more over old mid new [] kept kept' before.text bytes written written' written'' before.told after);
}

-- one read more, with the line `end` among its bytes
pub read_end : (times : ℕ) (over : Bool) (old mid new : Session) (kept kept' bytes : List ℕ) (left left' left'' written written' written'' : Option (List ℕ))
    → HasReadOn times old mid kept left left' written written' → Consumes left' left'' bytes
    → over ≡ true → Takes over mid new kept kept' bytes written' written'' → HasFed true old new kept' left left'' written written''
read_end times over old mid new kept kept' bytes left left' left'' written written' written'' before read is after = record {
  text = before.text ++ bytes;
  taken = Consumes-trans left left' left'' before.text bytes before.taken read;
  whole = λ going. absurd (true≢false going);
  told = subst (λ o. HasTaken o old new [] kept' (before.text ++ bytes) written written'') is
      (taken_more over old mid new [] kept kept' before.text bytes written written' written'' before.told after);
}

-- no byte was left to read
pub read_all : (times : ℕ) (old new : Session) (kept bytes : List ℕ) (left left' left'' written written' : Option (List ℕ))
    → HasReadOn times old new kept left left' written written' → Consumes left' left'' bytes → bytes ≡ [] → IsAtEnd left''
    → HasFed false old new kept left left'' written written'
read_all times old new kept bytes left left' left'' written written' before read none at_end = record {
  text = before.text;
  taken = subst (λ text. Consumes left left'' text) (ap (λ (b : List ℕ). before.text ++ b) none ∙ append-nil before.text)
      (Consumes-trans left left' left'' before.text bytes before.taken read);
  whole = λ over. inl at_end;
  told = before.told;
}
