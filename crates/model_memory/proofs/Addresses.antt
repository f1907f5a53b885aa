-- What a command leaves of each object: its address and its length, until it is freed.
use Rattle.std.proofs.Common.{◌≡◌, ℕ, ◌+◌, ◌-◌, ◌<◌, ◌≤◌, List, [], ◌∷◌, ◌++◌, length, slice_range, ap, subst, refl, sym, ◌∙◌, arith, ◌⊎◌, inl, inr, Option, Some, None, Result, Ok, Err, append_assoc, length-append, append-nil, replicate}
use Rattle.std.proofs.lemmas.Bool.Decides.{nat_tests, eqb_tells}
use Rattle.std.proofs.lemmas.List.{get_or-set_same, get_or-set_other, get_or_append_left, get_or_push, length-replicate, length-set}
use Rattle.model_memory.proofs.NamedObjects.{holding_held, named_live, within_object, copy_went}
use Rattle.model_words.proofs.Chains.{went_on, refuse_if_went}
use Rattle.model_memory.proofs.Histories.{Runs_end, Runs_more}
use Rattle.model_memory.proofs.Objects.{live_below, overwritten_length}
use Rattle.model_memory.specs.AddressLaws.{Frees, IsAt, IsFreedAfter, IsKeptOrFreed}
use Rattle.model_memory.specs.Memory.{Memory, Object, empty_memory, next_serial, object_of, overwritten, root_of, with_object, with_root}
use Rattle.model_memory.specs.Plain.{Entry, Follows, IsLegal, Named, PlainStep, Runs, copied, ends_outside, holding, made, named_by, plain, stored}
use Rattle.model_words.specs.declared.commands.Command.{Command}
use Rattle.model_words.specs.declared.commands.Command.TheVariants.{Addr, Alias, Copy as CopyBytes, Free, Get, New, Peek, Poke, Put}
use Rattle.model_words.specs.declared.commands.Reply.{Reply}
use Rattle.model_words.specs.declared.commands.Reply.TheVariants.{Object as Made, Done, Refused}
use Rattle.model_words.specs.declared.refusals.Refusal.{Refusal}
use Rattle.model_words.specs.declared.refusals.Refusal.TheVariants.{Outside}

-- each object but one keeps its address and its length, serials without an object get none, and the next serial doesn't
-- fall
record KeepsBut (but : ℕ → Type 0) (m n : Memory) : Type 0 where
  at : (serial address len : ℕ) → IsAt m serial address len → IsAt n serial address len ⊎ but serial
  gone : (serial : ℕ) → serial < next_serial m → object_of m serial ≡ None → object_of n serial ≡ None
  up : next_serial m ≤ next_serial n

-- a memory keeps what it has
same_keeps : (but : ℕ → Type 0) (m n : Memory) → n ≡ m → KeepsBut but m n
same_keeps but m n same = grind (arith, nat_tests)

-- two objects of one serial are one
one_object : (m : Memory) (serial : ℕ) (x y : Object) → object_of m serial ≡ Some x → object_of m serial ≡ Some y → x ≡ y
one_object m serial x y is is' = let both : Some x ≡ Some y = sym is ∙ is' in cc both

-- another object of the same address and length, or none, put in the place of a live one
put_keeps : (but : ℕ → Type 0) (m : Memory) (serial : ℕ) (was : Object) (new : Option Object) → object_of m serial ≡ Some was
    → (((object : Object) × (new ≡ Some object) × (object.address ≡ was.address) × (length object.bytes ≡ length was.bytes)) ⊎ but serial)
    → KeepsBut but m (with_object m serial new)
put_keeps but m serial was new live how = record {
  at = λ s address len is. elim (eqb_tells s serial) [
    | inl same ↦ elim how [
      | inl put ↦ let old : is.object ≡ was = one_object m serial is.object was (ap (object_of m) (sym same.1) ∙ is.live) live in inl (record {
        object = put.0;
        live = ap (object_of (with_object m serial new)) same.1 ∙ there ∙ put.1;
        address_is = put.2 ∙ ap (λ (o : Object). o.address) (sym old) ∙ is.address_is;
        long = put.3 ∙ ap (λ (o : Object). length o.bytes) (sym old) ∙ is.long;
      })
      | inr freed ↦ inr (subst but (sym same.1) freed)
    ]
    | inr other ↦ inl (record {
      object = is.object;
      live = get_or-set_other m.objects serial s new None other.1 ∙ is.live;
      address_is = is.address_is;
      long = is.long;
    })
  ];
  gone = λ s below none. elim (eqb_tells s serial) [
    | inl same ↦ absurd (let clash : Some was ≡ None = sym live ∙ ap (object_of m) (sym same.1) ∙ none in cc clash)
    | inr other ↦ get_or-set_other m.objects serial s new None other.1 ∙ none
  ];
  up = let long = length-set m.objects serial new in omega (arith, long);
}
  where
    there : object_of (with_object m serial new) serial ≡ new
    there = get_or-set_same m.objects serial new None (live_below m serial was live)

-- another serial in a cell
root_keeps : (but : ℕ → Type 0) (m : Memory) (cell serial : ℕ) → KeepsBut but m (with_root m cell serial)
root_keeps but m cell serial = grind arith

-- bytes stored within a live object
stored_keeps : (but : ℕ → Type 0) (m : Memory) (named : Named) (off : ℕ) (bytes : List ℕ) → object_of m named.serial ≡ Some named.object
    → off + length bytes ≤ length named.object.bytes → KeepsBut but m (stored m named off bytes)
stored_keeps but m named off bytes live fits = put_keeps but m named.serial named.object _ live
    (inl (record named.object { bytes = overwritten named.object.bytes off bytes }, refl, refl, overwritten_length named.object.bytes off bytes fits))

-- a new object
made_keeps : (but : ℕ → Type 0) (m : Memory) (cell len address : ℕ) → KeepsBut but m (made m cell len address)
made_keeps but m cell len address = record {
  at = λ serial address' len' is. inl (record {
    object = is.object;
    live = get_or_append_left m.objects _ None serial (live_below m serial is.object is.live) ∙ is.live;
    address_is = is.address_is;
    long = is.long;
  });
  gone = λ serial below none. get_or_append_left m.objects _ None serial below ∙ none;
  up = omega (arith, length-append {A = Option Object});
}

-- a command that is refused keeps all
follow_keeps : (but : ℕ → Type 0) (r : Result (Reply × Memory) Refusal) (m : Memory) (reply : Reply) (n : Memory) → Follows r m reply n
    → ((x : Reply × Memory) → r ≡ Ok x → reply ≡ x.0 → n ≡ x.1 → KeepsBut but m n) → KeepsBut but m n
follow_keeps but (Ok x) m reply n h keeps = keeps x refl h.0 h.1
follow_keeps but (Err refusal) m reply n h keeps = same_keeps but m n h.1

-- a reply, and a memory after it
abbrev said : Reply → Memory → Result (Reply × Memory) Refusal
said reply n = Ok (reply, n)

-- what is left is what was said
left_is : (reply : Reply) (k n : Memory) (x : Reply × Memory) → said reply k ≡ Ok x → n ≡ x.1 → n ≡ k
left_is reply k n x h is = let same : (reply, k) ≡ x = cc h in is ∙ sym (ap (λ (y : Reply × Memory). y.1) same)

-- what is left is kept where what was said is
left_keeps : (but : ℕ → Type 0) (m k n : Memory) (reply : Reply) (x : Reply × Memory) → said reply k ≡ Ok x → n ≡ x.1 → KeepsBut but m k
    → KeepsBut but m n
left_keeps but m k n reply x h is keeps = subst (λ (y : Memory). KeepsBut but m y) (sym (left_is reply k n x h is)) keeps

-- the cell that names an object holds its serial
named_root : (m : Memory) (cell : ℕ) (named : Named) → named_by m cell ≡ Ok named → root_of m cell ≡ Some named.serial
named_root m cell named h = grind arith

-- a command leaves each object but the one that it frees
step_keeps : (m : Memory) (command : Command) (reply : Reply) (n : Memory) → PlainStep m command reply n
    → KeepsBut (λ serial. Frees m serial command reply n) m n
step_keeps m (New cell len word) (Made serial address) n step =
    subst (λ (x : Memory). KeepsBut (λ s. Frees m s (New cell len word) (Made serial address) n) m x) (sym step.4)
    (made_keeps (λ s. Frees m s (New cell len word) (Made serial address) n) m cell len address)
step_keeps m (New cell len word) (Refused refusal) n step = same_keeps (λ s. Frees m s (New cell len word) (Refused refusal) n) m n step.1
step_keeps m (New cell len word) _ n step = absurd step
step_keeps m (Put cell off bytes) reply n step =
    follow_keeps (λ s. Frees m s (Put cell off bytes) reply n) (plain m 0 (Put cell off bytes)) m reply n step (λ x h reply_is is.
    let named = went_on (named_by m cell) _ x h in
    let inside = refuse_if_went Outside (ends_outside named.value.object off (length bytes.items)) _ x named.then in
    left_keeps (λ s. Frees m s (Put cell off bytes) reply n) m (stored m named.value off bytes.items) n Done x inside.1 is
    (stored_keeps (λ s. Frees m s (Put cell off bytes) reply n) m named.value off bytes.items (named_live m cell named.value named.is)
    (within_object named.value.object off (length bytes.items) inside.0)))
step_keeps m (Get cell off len) reply n step =
    follow_keeps (λ s. Frees m s (Get cell off len) reply n) (plain m 0 (Get cell off len)) m reply n step (λ x h reply_is is.
    let named = went_on (named_by m cell) _ x h in
    let inside = refuse_if_went Outside (ends_outside named.value.object off len) _ x named.then in
    same_keeps (λ s. Frees m s (Get cell off len) reply n) m n (left_is _ m n x inside.1 is))
step_keeps m (Free cell) reply n step =
    follow_keeps (λ s. Frees m s (Free cell) reply n) (plain m 0 (Free cell)) m reply n step (λ x h reply_is is.
    let named = went_on (named_by m cell) _ x h in
    let live = named_live m cell named.value named.is in
    let done = named.then in
    let pair : (Done, with_object m named.value.serial None) ≡ x = cc done in
    let left : n ≡ with_object m named.value.serial None = left_is Done (with_object m named.value.serial None) n x done is in
    left_keeps (λ s. Frees m s (Free cell) reply n) m (with_object m named.value.serial None) n Done x done is
    (put_keeps (λ s. Frees m s (Free cell) reply n) m named.value.serial named.value.object None live (inr (record {
      cell = cell;
      command_is = refl;
      done = reply_is ∙ sym (ap (λ (y : Reply × Memory). y.0) pair);
      named = named_root m cell named.value named.is;
      gone = ap (λ (y : Memory). object_of y named.value.serial) left
          ∙ get_or-set_same m.objects named.value.serial None None (live_below m named.value.serial named.value.object live);
    }))))
step_keeps m (Alias to from) reply n step =
    follow_keeps (λ s. Frees m s (Alias to from) reply n) (plain m 0 (Alias to from)) m reply n step (λ x h reply_is is.
    let named = went_on (named_by m from) _ x h in
    left_keeps (λ s. Frees m s (Alias to from) reply n) m (with_root m to named.value.serial) n Done x named.then is
    (root_keeps (λ s. Frees m s (Alias to from) reply n) m to named.value.serial))
step_keeps m (Addr cell) reply n step =
    follow_keeps (λ s. Frees m s (Addr cell) reply n) (plain m 0 (Addr cell)) m reply n step (λ x h reply_is is.
    let named = went_on (named_by m cell) _ x h in same_keeps (λ s. Frees m s (Addr cell) reply n) m n (left_is _ m n x named.then is))
step_keeps m (Peek place) reply n step =
    follow_keeps (λ s. Frees m s (Peek place) reply n) (plain m 0 (Peek place)) m reply n step (λ x h reply_is is.
    let named = went_on (holding m place) _ x h in same_keeps (λ s. Frees m s (Peek place) reply n) m n (left_is _ m n x named.then is))
step_keeps m (Poke place byte) reply n step =
    follow_keeps (λ s. Frees m s (Poke place byte) reply n) (plain m 0 (Poke place byte)) m reply n step (λ x h reply_is is.
    let named = went_on (holding m place) _ x h in let held = holding_held m place named.value named.is in
    left_keeps (λ s. Frees m s (Poke place byte) reply n) m (stored m named.value (place - named.value.object.address) (byte ∷ [])) n Done x named.then is
    (stored_keeps (λ s. Frees m s (Poke place byte) reply n) m named.value (place - named.value.object.address) (byte ∷ []) held.live
    (let from = held.from in let below = held.below in omega (arith, from, below))))
step_keeps m (CopyBytes to to_off from from_off len) reply n step =
    follow_keeps (λ s. Frees m s (CopyBytes to to_off from from_off len) reply n) (plain m 0 (CopyBytes to to_off from from_off len)) m reply n step
    (λ x h reply_is is.
    let went = copy_went m to to_off from from_off len x h in
    left_keeps (λ s. Frees m s (CopyBytes to to_off from from_off len) reply n) m (copied m went.to_named to_off went.from_named from_off len) n Done x went.is is
    (stored_keeps (λ s. Frees m s (CopyBytes to to_off from from_off len) reply n) m went.to_named to_off
    (slice_range went.from_named.object.bytes from_off (from_off + len)) went.to_live went.room))

-- over a command a live object keeps its address and its length, or it is freed
pub live_keeps : (m n : Memory) (command : Command) (reply : Reply) (serial address len : ℕ) → PlainStep m command reply n → IsAt m serial address len
    → IsAt n serial address len ⊎ Frees m serial command reply n
live_keeps m n command reply serial address len step is = (step_keeps m command reply n step).at serial address len is

-- the next serial doesn't fall
pub serials_up : (m n : Memory) (command : Command) (reply : Reply) → PlainStep m command reply n → next_serial m ≤ next_serial n
serials_up m n command reply step = (step_keeps m command reply n step).up

-- a serial that was made and isn't live never is again
pub freed_stays : (m n : Memory) (command : Command) (reply : Reply) (serial : ℕ) → PlainStep m command reply n → serial < next_serial m
    → object_of m serial ≡ None → object_of n serial ≡ None
freed_stays m n command reply serial step below none = (step_keeps m command reply n step).gone serial below none

-- what is freed was made
freed_below : (m n : Memory) (command : Command) (reply : Reply) (serial : ℕ) → PlainStep m command reply n → Frees m serial command reply n
    → serial < next_serial m
freed_below m n command reply serial step frees = grind (arith, nat_tests, by_result (plain m 0 (Free frees.cell)))
  where
    by_result : (r : Result (Reply × Memory) Refusal) → plain m 0 (Free frees.cell) ≡ r → Follows r m Done n → serial < next_serial m
    by_result (Err refusal) is h = let clash : Done ≡ Refused refusal = h.0 in absurd (cc clash)
    by_result (Ok x) is h = grind (arith, nat_tests, went_on (named_by m frees.cell) _ x is, named_root m frees.cell, live_below m, named_live m frees.cell)

-- a serial that was made and isn't live is not after more entries
gone_on : (m n : Memory) (entries : List Entry) (serial : ℕ) → Runs m entries n → serial < next_serial m → object_of m serial ≡ None
    → object_of n serial ≡ None
gone_on m n [] serial run below none = ap (λ (x : Memory). object_of x serial) run ∙ none
gone_on m n (entry ∷ entries) serial run below none =
    grind (arith, nat_tests, step_keeps m entry.command entry.reply run.0 run.1, gone_on run.0 n entries serial run.2)

-- a run of entries is one of the first of them, and then one of the others
pub run_apart : (m n : Memory) (xs ys : List Entry) → Runs m (xs ++ ys) n → (k : Memory) × Runs m xs k × Runs k ys n
run_apart m n [] ys run = (m, refl, run)
run_apart m n (x ∷ xs) ys run = let rest = run_apart run.0 n xs ys run.2 in (rest.0, (run.0, run.1, rest.1), rest.2)

-- what was freed after one entry more was freed after it
freed_later : (m : Memory) (earlier : List Entry) (entry : Entry) (serial : ℕ) (later : List Entry) → IsFreedAfter m (earlier ++ entry ∷ []) serial later
    → IsFreedAfter m earlier serial (entry ∷ later)
freed_later m earlier entry serial later freed = record {
  between = entry ∷ freed.between;
  entry = freed.entry;
  rest = freed.rest;
  here = ap (λ (es : List Entry). entry ∷ es) freed.here;
  before = freed.before;
  after = freed.after;
  runs = subst (λ (es : List Entry). Runs m es freed.before) (append_assoc earlier (entry ∷ []) freed.between) freed.runs;
  step = freed.step;
  frees = freed.frees;
}

-- over more entries a live object keeps its address and its length, or one of them frees it for good
keeps_on : (start : Memory) (earlier : List Entry) (m n : Memory) (entries : List Entry) (serial address len : ℕ) → Runs start earlier m → Runs m entries n
    → IsAt m serial address len → IsKeptOrFreed start earlier serial address len entries n
keeps_on start earlier m n [] serial address len past run is = inl (subst (λ (x : Memory). IsAt x serial address len) (sym run) is)
keeps_on start earlier m n (entry ∷ entries) serial address len past run is =
    elim (live_keeps m run.0 entry.command entry.reply serial address len run.1 is) [
      | inl kept ↦ elim (keeps_on start (earlier ++ entry ∷ []) run.0 n entries serial address len
          (Runs_more start earlier m run.0 entry past run.1) run.2 kept) [
            | inl still ↦ inl still
            | inr freed ↦ inr (freed.0, freed_later start earlier entry serial entries freed.1)
          ]
      | inr frees ↦ let below = freed_below m run.0 entry.command entry.reply serial run.1 frees in
          let up = serials_up m run.0 entry.command entry.reply run.1 in inr (
            gone_on run.0 n entries serial run.2 (omega (arith, below, up)) frees.gone,
            record {
              between = [];
              entry = entry;
              rest = entries;
              here = refl;
              before = m;
              after = run.0;
              runs = subst (λ (es : List Entry). Runs start es m) (sym (append-nil earlier)) past;
              step = run.1;
              frees = frees;
            },
          )
    ]

-- the same from the first entry on
pub runs_keep : (m n : Memory) (entries : List Entry) (serial address len : ℕ) → Runs m entries n → IsAt m serial address len
    → IsKeptOrFreed m [] serial address len entries n
runs_keep m n entries serial address len run is = keeps_on m [] m n entries serial address len refl run is

-- an entry that made an object
abbrev Making : ℕ → ℕ → ℕ → ℕ → ℕ → ℕ → Entry
Making worker cell len word serial address = record { worker = worker; command = New cell len word; reply = Made serial address }

-- the new object is where it was answered
made_at : (m n : Memory) (cell len word serial address : ℕ) → PlainStep m (New cell len word) (Made serial address) n → IsAt n serial address len
made_at m n cell len word serial address step = subst (λ (x : Memory). IsAt x serial address len) (sym step.4) (record {
  object = record { address = address; bytes = replicate len 0 };
  live = ap (object_of (made m cell len address)) step.2 ∙ get_or_push m.objects _ None (next_serial m) refl;
  address_is = refl;
  long = length-replicate len 0;
})

-- in a legal history an object has the address that it was answered, until a later entry frees it
pub made_keeps_address : (before after : List Entry) (worker cell len word serial address : ℕ) (end : Memory)
    → IsLegal (before ++ Making worker cell len word serial address ∷ after) end
    → IsKeptOrFreed empty_memory (before ++ Making worker cell len word serial address ∷ []) serial address len after end
made_keeps_address before after worker cell len word serial address end legal =
    let entry : Entry = Making worker cell len word serial address in
    let parts = run_apart empty_memory end before (entry ∷ after) legal in
    keeps_on empty_memory (before ++ entry ∷ []) parts.2.0 end after serial address len
    (Runs_more empty_memory before parts.0 parts.2.0 entry parts.1 parts.2.1) parts.2.2
    (made_at parts.0 parts.2.0 cell len word serial address parts.2.1)

-- what an entry of a legal history freed isn't live at the end
pub freed_gone : (earlier later : List Entry) (serial : ℕ) (end : Memory) → IsLegal (earlier ++ later) end → IsFreedAfter empty_memory earlier serial later
    → object_of end serial ≡ None
freed_gone earlier later serial end legal freed =
    let split : earlier ++ later ≡ ((earlier ++ freed.between) ++ freed.entry ∷ []) ++ freed.rest
    = ap (λ (es : List Entry). earlier ++ es) freed.here ∙ sym (append_assoc earlier freed.between (freed.entry ∷ freed.rest))
    ∙ sym (append_assoc (earlier ++ freed.between) (freed.entry ∷ []) freed.rest) in
    let parts = run_apart empty_memory end ((earlier ++ freed.between) ++ freed.entry ∷ []) freed.rest
    (subst (λ (es : List Entry). Runs empty_memory es end) split legal) in
    let same : parts.0 ≡ freed.after = Runs_end empty_memory ((earlier ++ freed.between) ++ freed.entry ∷ []) parts.0 freed.after parts.1
    (Runs_more empty_memory (earlier ++ freed.between) freed.before freed.after freed.entry freed.runs freed.step) in
    let below = freed_below freed.before freed.after freed.entry.command freed.entry.reply serial freed.step freed.frees in
    let up = serials_up freed.before freed.after freed.entry.command freed.entry.reply freed.step in
    gone_on freed.after end freed.rest serial (subst (λ (x : Memory). Runs x freed.rest end) same parts.2) (omega (arith, below, up)) freed.frees.gone

-- the same of an object that the history made
pub freed_is_gone : (before after : List Entry) (worker cell len word serial address : ℕ) (end : Memory)
    → IsLegal (before ++ Making worker cell len word serial address ∷ after) end
    → IsFreedAfter empty_memory (before ++ Making worker cell len word serial address ∷ []) serial after → object_of end serial ≡ None
freed_is_gone before after worker cell len word serial address end legal freed =
    let entry : Entry = Making worker cell len word serial address in
    freed_gone (before ++ entry ∷ []) after serial end
    (subst (λ (es : List Entry). Runs empty_memory es end) (sym (append_assoc before (entry ∷ []) after)) legal) freed
