-- What a move of a job's workers or of a mesher does.
use Rattle.std.proofs.Common.{◌≡◌, ℕ, ◌+◌, Bool, true, false, if◌then◌else◌, List, Option, Some, None, Result, Ok, Err, ap, option_and_then, option_map, slice_get, refl, subst, sym, ◌∙◌, arith}
use Rattle.std.specs.List.{list_any}
use Rattle.std.proofs.lemmas.Bool.Decides.{nat_tests}
use Rattle.model_memory.specs.Memory.{Memory}
use Rattle.model_memory.specs.Plain.{holding, named_by, plain}
use Rattle.model_otherwise.specs.Effects.{Meshing, begin, parts_made}
use Rattle.model_otherwise.specs.Groups.{Placed, group_of}
use Rattle.model_otherwise.specs.Heaps.{Heap, Mesh}
use Rattle.model_otherwise.specs.PageMap.{access_of}
use Rattle.model_otherwise.specs.States.{Asking, Before, Over, Pair, Refused as IsRefused, Running, Setting, Stage, State, after_tried, asked, begun_at, command_move, counted, counts, is_busy_for, is_fenced, mesher_at, mesher_move, moved_on, moved_to, next_move, outcome_of, run_by, run_on, with_answered}
use Rattle.model_otherwise.specs.Timed.{attempted, is_plain}
use Rattle.model_otherwise.specs.Tries.{Outcome, access_by, by_access, is_hit, made_at, new_by_access, new_placed, others_tried, place_new, told, tried}
use Rattle.model_otherwise.specs.declared.page_map.Access.{Access}
use Rattle.model_otherwise.specs.declared.page_map.Access.TheVariants.{Reached, Blocked, NoPage as Unmapped}
use Rattle.model_otherwise.specs.declared.steps.Part.{Part}
use Rattle.model_otherwise.proofs.TimedJudged.{tried_not_begun, tried_not_ended}
use Rattle.model_otherwise.specs.declared.steps.Part.{Part}
use Rattle.model_otherwise.specs.declared.tried.Tried.{Tried}
use Rattle.model_otherwise.specs.declared.tried.Tried.TheVariants.{Answered, Begun, Ended, Held, Waits, NoPage, Wrong, Overlaps, GroupGone}
use Rattle.model_words.proofs.Chains.{went_on}
use Rattle.model_words.specs.Replies.{is_refusal}
use Rattle.model_words.specs.declared.commands.Command.{Command}
use Rattle.model_words.specs.declared.commands.Command.TheVariants.{New, Put, Get, Free, Alias, Addr, Peek, Poke, Copy as CopyBytes}
use Rattle.model_words.specs.declared.commands.Reply.{Reply}
use Rattle.model_words.specs.declared.commands.Reply.TheVariants.{Object as Made, Done, Bytes, At, Byte, Refused}
use Rattle.model_words.specs.declared.refusals.Refusal.{Refusal}

-- a reply and the memory after it
abbrev Said : Type 0
Said = Reply × Memory

-- the result of a command that is done
abbrev said : Reply → Memory → Result Said Refusal
said reply n = Ok (reply, n)

-- what is said is no refusal if its reply is none
unrefused : (reply : Reply) (n : Memory) (x : Said) → said reply n ≡ Ok x → is_refusal reply ≡ false → is_refusal x.0 ≡ false
unrefused reply n x h is = let same : (reply, n) ≡ x = cc h in ap (λ (y : Said). is_refusal y.0) (sym same) ∙ is

-- what the reference memory replies if it doesn't refuse is no refusal
plain_replies : (m : Memory) (address : ℕ) (command : Command) (x : Said) → plain m address command ≡ Ok x → is_refusal x.0 ≡ false
plain_replies m address (New cell len word) x h = grind arith
plain_replies m address (Put cell off bytes) x h = grind arith
plain_replies m address (Get cell off len) x h = grind arith
plain_replies m address (Free cell) x h = grind (arith, nat_tests, went_on (named_by m cell) _ x h, unrefused Done)
plain_replies m address (Alias to from) x h = grind (arith, nat_tests, went_on (named_by m from) _ x h, unrefused Done)
plain_replies m address (Addr cell) x h = grind (arith, nat_tests, went_on (named_by m cell) _ x h, unrefused)
plain_replies m address (Peek place) x h = grind (arith, nat_tests, went_on (holding m place) _ x h, unrefused)
plain_replies m address (Poke place byte) x h = grind (arith, nat_tests, went_on (holding m place) _ x h, unrefused Done)
plain_replies m address (CopyBytes to to_off from from_off len) x h = grind arith

-- neither memory nor heap changes
abbrev IsUnchanged : Memory → Heap → Outcome → Type 0
IsUnchanged m heap done = (done.memory ≡ m) × (done.heap ≡ heap)

-- a reply that is no refusal isn't one
not_refused : (r reply : Reply) → is_refusal r ≡ false → reply ≡ r → is_refusal reply ≡ true → ⊥
not_refused r reply done same refused = let clash : true ≡ false = sym refused ∙ ap is_refusal same ∙ done in cc clash

-- if a test decides between an answer and a wrong answer, and the outcome is an answer, it's this one
one_answered : (b : Bool) (reply r x y : Reply) → (if b then Answered r else Wrong x y) ≡ Answered reply → reply ≡ r
one_answered true reply r x y h = cc h
one_answered false reply r x y h = absurd (cc h)

-- an answer told is the reply of the reference memory
told_answered : (loaded : List ℕ) (r reply : Reply) → told loaded r ≡ Answered reply → reply ≡ r
told_answered loaded (Bytes wanted) reply h = one_answered _ reply _ _ _ h
told_answered loaded (Byte wanted) reply h = one_answered _ reply _ _ _ h
told_answered loaded (Made serial address) reply h = cc h
told_answered loaded Done reply h = cc h
told_answered loaded (At address) reply h = cc h
told_answered loaded (Refused refusal) reply h = cc h

-- a command whose accesses were told isn't refused
accessed_refused : (m : Memory) (heap : Heap) (command : Command) (x : Said) (access : Access) (reply : Reply) → is_refusal x.0 ≡ false
    → (by_access m heap command x access).tried ≡ Answered reply → is_refusal reply ≡ true → ⊥
accessed_refused m heap command x Reached reply done h refused = not_refused x.0 reply done (told_answered _ x.0 reply h) refused
accessed_refused m heap command x Blocked reply done h refused = cc h
accessed_refused m heap command x Unmapped reply done h refused = cc h

-- a refusal of a command that makes no object changes nothing
others_refused : (m : Memory) (heap : Heap) (command : Command) (step : Result Said Refusal) (reply : Reply)
    → ((x : Said) → step ≡ Ok x → is_refusal x.0 ≡ false)
    → (others_tried m heap command step).tried ≡ Answered reply → is_refusal reply ≡ true → IsUnchanged m heap (others_tried m heap command step)
others_refused m heap command (Err refusal) reply replies h refused = (refl, refl)
others_refused m heap command (Ok x) reply replies h refused =
    absurd (accessed_refused m heap command x (access_by m heap command) reply (replies x refl) h refused)

-- nor does that of a new object at a place that it may have
made_refused : (m : Memory) (heap : Heap) (len : ℕ) (placed : Placed) (step : Result Said Refusal) (reply : Reply)
    → ((x : Said) → step ≡ Ok x → is_refusal x.0 ≡ false)
    → (made_at m heap len placed step).tried ≡ Answered reply → is_refusal reply ≡ true → IsUnchanged m heap (made_at m heap len placed step)
made_refused m heap len placed (Err refusal) reply replies h refused = (refl, refl)
made_refused m heap len placed (Ok x) reply replies h refused =
    absurd (not_refused x.0 reply (replies x refl) (let same : x.0 ≡ reply = cc h in sym same) refused)

-- nor that of a new object at a place where a live object may be
hit_refused : (m : Memory) (heap : Heap) (command : Command) (len : ℕ) (placed : Placed) (hit : Bool) (reply : Reply)
    → list_any (is_hit placed.address len) m.objects ≡ hit
    → (new_by_access m heap command len placed Reached).tried ≡ Answered reply → is_refusal reply ≡ true
    → IsUnchanged m heap (new_by_access m heap command len placed Reached)
hit_refused m heap command len placed true reply is h refused = absurd (let over = rw is at h in cc over)
hit_refused m heap command len placed false reply is h refused = rw is (
    made_refused m heap len placed (plain m placed.address command) reply (plain_replies m placed.address command) (rw is at h) refused)

-- nor that of a new object at a place
placed_refused : (m : Memory) (heap : Heap) (command : Command) (len : ℕ) (placed : Placed) (access : Access) (reply : Reply)
    → (new_by_access m heap command len placed access).tried ≡ Answered reply → is_refusal reply ≡ true
    → IsUnchanged m heap (new_by_access m heap command len placed access)
placed_refused m heap command len placed Reached reply h refused =
    hit_refused m heap command len placed (list_any (is_hit placed.address len) m.objects) reply refl h refused
placed_refused m heap command len placed Blocked reply h refused = absurd (cc h)
placed_refused m heap command len placed Unmapped reply h refused = absurd (cc h)

-- nor that of a new object
new_refused : (m : Memory) (heap : Heap) (command : Command) (len : ℕ) (place : Result Placed Refusal) (reply : Reply)
    → (new_placed m heap command len place).tried ≡ Answered reply → is_refusal reply ≡ true
    → IsUnchanged m heap (new_placed m heap command len place)
new_refused m heap command len (Err refusal) reply h refused = (refl, refl)
new_refused m heap command len (Ok placed) reply h refused =
    placed_refused m heap command len placed (access_of placed.heap.entries true placed.address len) reply h refused

-- a refusal changes neither memory nor heap
pub refusal_unchanged : (pages : ℕ) (m : Memory) (heap : Heap) (command : Command) (reply : Reply)
    → (tried pages m heap command).tried ≡ Answered reply → is_refusal reply ≡ true
    → ((tried pages m heap command).memory ≡ m) × ((tried pages m heap command).heap ≡ heap)
refusal_unchanged pages m heap (New cell len word) reply h refused = new_refused m heap (New cell len word) len (place_new pages m heap len word) reply h refused
refusal_unchanged pages m heap (Put cell off bytes) reply h refused = others_refused m heap (Put cell off bytes) (plain m 0 (Put cell off bytes)) reply (plain_replies m 0 (Put cell off bytes)) h refused
refusal_unchanged pages m heap (Get cell off len) reply h refused = others_refused m heap (Get cell off len) (plain m 0 (Get cell off len)) reply (plain_replies m 0 (Get cell off len)) h refused
refusal_unchanged pages m heap (Free cell) reply h refused = others_refused m heap (Free cell) (plain m 0 (Free cell)) reply (plain_replies m 0 (Free cell)) h refused
refusal_unchanged pages m heap (Alias to from) reply h refused = others_refused m heap (Alias to from) (plain m 0 (Alias to from)) reply (plain_replies m 0 (Alias to from)) h refused
refusal_unchanged pages m heap (Addr cell) reply h refused = others_refused m heap (Addr cell) (plain m 0 (Addr cell)) reply (plain_replies m 0 (Addr cell)) h refused
refusal_unchanged pages m heap (Peek place) reply h refused = others_refused m heap (Peek place) (plain m 0 (Peek place)) reply (plain_replies m 0 (Peek place)) h refused
refusal_unchanged pages m heap (Poke place byte) reply h refused = others_refused m heap (Poke place byte) (plain m 0 (Poke place byte)) reply (plain_replies m 0 (Poke place byte)) h refused
refusal_unchanged pages m heap (CopyBytes to to_off from from_off len) reply h refused =
    others_refused m heap (CopyBytes to to_off from from_off len) (plain m 0 (CopyBytes to to_off from from_off len)) reply (plain_replies m 0 (CopyBytes to to_off from from_off len)) h refused

-- the command of a move was answered, and the state after it is `u`
pub record IsCommand (x : Setting) (a u : State) (n : ℕ) : Type 0 where
  pub command : Command
  pub reply : Reply
  pub given : asked x a n ≡ Some command
  pub answered : (tried x.pages a.memory a.heap command).tried ≡ Answered reply
  pub memory : u.memory ≡ (tried x.pages a.memory a.heap command).memory
  pub heap : u.heap ≡ (tried x.pages a.memory a.heap command).heap
  pub stages : u.stages ≡ a.stages
  pub entries : u.entries ≡ a.entries + 1

-- where each command is one move, what becomes of it is what one move gives
pub plain_outcome : (x : Setting) (s : State) (n : ℕ) → is_plain x.timing ≡ true → outcome_of x s n ≡ option_map (tried x.pages s.memory s.heap) (asked x s n)
plain_outcome x s n whole =
    elim (asked x s n) as (λ c. option_map (attempted x.timing n x.pages s.memory s.heap) c ≡ option_map (tried x.pages s.memory s.heap) c) [
      | None ↦ refl
      | Some command ↦ rw whole refl
    ]

-- an answer that is a move
counted_command : (x : Setting) (a u : State) (n : ℕ) (command : Command) (reply : Reply) (b : Bool) → asked x a n ≡ Some command
    → (tried x.pages a.memory a.heap command).tried ≡ Answered reply
    → (if b then Some (with_answered a n (tried x.pages a.memory a.heap command)) else None) ≡ Some u → IsCommand x a u n
counted_command x a u n command reply true given answered is =
    let same : with_answered a n (tried x.pages a.memory a.heap command) ≡ u = cc is in
    subst (λ (v : State). IsCommand x a v n) same (record {
      command = command;
      reply = reply;
      given = given;
      answered = answered;
      memory = refl;
      heap = refl;
      stages = refl;
      entries = refl;
    })
counted_command x a u n command reply false given answered is = absurd (cc is)

-- what a command that is a move does
tried_command : (x : Setting) (a u : State) (n : ℕ) (command : Command) (t : Tried) → asked x a n ≡ Some command
    → (tried x.pages a.memory a.heap command).tried ≡ t → after_tried x a n (tried x.pages a.memory a.heap command) t ≡ Some u → IsCommand x a u n
tried_command x a u n command (Answered reply) given answered is = counted_command x a u n command reply (counts x.asking reply) given answered is
tried_command x a u n command Begun given answered is = absurd (tried_not_begun x.pages a.memory a.heap command answered)
tried_command x a u n command (Ended reply) given answered is = absurd (tried_not_ended x.pages a.memory a.heap command reply answered)
tried_command x a u n command Held given answered is = absurd (cc is)
tried_command x a u n command Waits given answered is = absurd (cc is)
tried_command x a u n command NoPage given answered is = absurd (cc is)
tried_command x a u n command (Wrong got wanted) given answered is = absurd (cc is)
tried_command x a u n command (Overlaps address) given answered is = absurd (cc is)
tried_command x a u n command (GroupGone group) given answered is = absurd (cc is)

-- so a move that is a command was answered
pub is_command : (x : Setting) (a u : State) (n : ℕ) → is_plain x.timing ≡ true → command_move x a n ≡ Some u → IsCommand x a u n
is_command x a u n whole is =
    elim (asked x a n) as (λ c. asked x a n ≡ c
    → option_and_then (λ d. after_tried x a n d d.tried) (option_map (tried x.pages a.memory a.heap) c) ≡ Some u → IsCommand x a u n) [
      | None ↦ λ none nowhere. absurd (cc nowhere)
      | Some command ↦ λ given leads. tried_command x a u n command (tried x.pages a.memory a.heap command).tried given refl leads
    ] refl (subst (λ (o : Option Outcome). option_and_then (λ d. after_tried x a n d d.tried) o ≡ Some u) (plain_outcome x a n whole) is)

-- a command that is answered by no refusal is a move, whoever gives it
pub command_made : (y : Setting) (t : State) (n : ℕ) (command : Command) (reply : Reply) (done : Outcome) → is_plain y.timing ≡ true → asked y t n ≡ Some command
    → tried y.pages t.memory t.heap command ≡ done → done.tried ≡ Answered reply → counts y.asking reply ≡ true
    → command_move y t n ≡ Some (with_answered t n done)
command_made y t n command reply done whole given is answered counts_is =
    let after : after_tried y t n done (Answered reply) ≡ Some (with_answered t n done) =
    subst (λ (b : Bool). (if b then Some (with_answered t n done) else None) ≡ Some (with_answered t n done)) (sym counts_is) refl in
    let after_done : after_tried y t n done done.tried ≡ Some (with_answered t n done) =
    subst (λ (v : Tried). after_tried y t n done v ≡ Some (with_answered t n done)) (sym answered) after in
    let after_all : after_tried y t n (tried y.pages t.memory t.heap command) (tried y.pages t.memory t.heap command).tried ≡ Some (with_answered t n done) =
    subst (λ (d : Outcome). after_tried y t n d d.tried ≡ Some (with_answered t n done)) (sym is) after_done in
    let move : option_and_then (λ d. after_tried y t n d d.tried) (option_map (tried y.pages t.memory t.heap) (asked y t n)) ≡ Some (with_answered t n done) =
    subst (λ (c : Option Command). option_and_then (λ d. after_tried y t n d d.tried) (option_map (tried y.pages t.memory t.heap) c) ≡ Some (with_answered t n done))
    (sym given) after_all in
    subst (λ (o : Option Outcome). option_and_then (λ d. after_tried y t n d d.tried) o ≡ Some (with_answered t n done)) (sym (plain_outcome y t n whole)) move

-- the state with other counts and places
abbrev pub with_counts : List ℕ → ℕ → ℕ → State → State
with_counts places entries calls s = record s { places = places; entries = entries; calls = calls }

-- what is explored, with others who give commands, and as many as may be
abbrev pub with_asking : ℕ → Asking → Setting → Setting
with_asking room asking x = record x { room = room; asking = asking }

-- the beginning of a mesh doesn't depend on them
begun_alike : (s : State) (p : List ℕ) (e k i : ℕ) (x : Option Meshing)
    → begun_at (with_counts p e k s) i x ≡ with_counts p e (k + 1) (begun_at s i x)
begun_alike s p e k i None = refl
begun_alike s p e k i (Some x) = refl

-- nor does the end of a mesh
moved_alike : (x : Setting) (r : ℕ) (q : Asking) (s : State) (p : List ℕ) (e k i : ℕ) (m : Meshing) (next : Option (List Part))
    → moved_on (with_asking r q x) (with_counts p e k s) i m next ≡ with_counts p e (k + 1) (moved_on x s i m next)
moved_alike x r q s p e k i m None = refl
moved_alike x r q s p e k i m (Some next) = refl

-- nor a move of a mesh
parts_alike : (x : Setting) (r : ℕ) (q : Asking) (s : State) (p : List ℕ) (e k i : ℕ) (mesh : Mesh) (ps : List Part)
    → run_by (with_asking r q x) (with_counts p e k s) i mesh ps ≡ option_map (with_counts p e (k + 1)) (run_by x s i mesh ps)
parts_alike x r q s p e k i mesh ps =
    let m = counted (parts_made s.memory ps (record { heap = s.heap; mesh = mesh })) in
    elim (is_fenced s.heap ps) as (λ b. (if b then None else Some (moved_to (with_asking r q x) (with_counts p e k s) i m))
    ≡ option_map (with_counts p e (k + 1)) (if b then None else Some (moved_to x s i m))) [
      | true ↦ refl
      | false ↦ ap (λ (t : State). Some t) (moved_alike x r q s p e k i m (next_move x m.mesh))
    ]

run_alike : (x : Setting) (r : ℕ) (q : Asking) (s : State) (p : List ℕ) (e k i : ℕ) (mesh : Mesh)
    → run_on (with_asking r q x) (with_counts p e k s) i mesh ≡ option_map (with_counts p e (k + 1)) (run_on x s i mesh)
run_alike x r q s p e k i mesh =
    elim (next_move x mesh) as (λ parts. option_and_then (run_by (with_asking r q x) (with_counts p e k s) i mesh) parts
    ≡ option_map (with_counts p e (k + 1)) (option_and_then (run_by x s i mesh) parts)) [
      | None ↦ refl
      | Some ps ↦ parts_alike x r q s p e k i mesh ps
    ]

-- nor that of a mesher at a stage
stage_alike : (x : Setting) (r : ℕ) (q : Asking) (s : State) (p : List ℕ) (e k i : ℕ) (pair : Pair) (stage : Stage)
    → mesher_at (with_asking r q x) (with_counts p e k s) i pair stage ≡ option_map (with_counts p e (k + 1)) (mesher_at x s i pair stage)
stage_alike x r q s p e k i pair Before = ap (λ (t : State). Some t)
    (begun_alike s p e k i (begin x.checked (is_busy_for x.version s.stages (group_of s.heap pair.source)) s.memory s.heap pair.source pair.destination))
stage_alike x r q s p e k i pair IsRefused = refl
stage_alike x r q s p e k i pair (Running mesh) = run_alike x r q s p e k i mesh
stage_alike x r q s p e k i pair Over = refl

-- so a mesher's moves don't depend on who gives commands, and how many were given
pub mesher_alike : (x : Setting) (r : ℕ) (q : Asking) (s : State) (p : List ℕ) (e k i : ℕ)
    → mesher_move (with_asking r q x) (with_counts p e k s) i ≡ option_map (with_counts p e (k + 1)) (mesher_move x s i)
mesher_alike x r q s p e k i =
    elim (slice_get x.pairs i) as (λ pair.
    option_and_then (λ o. option_and_then (mesher_at (with_asking r q x) (with_counts p e k s) i o) (slice_get s.stages i)) pair
    ≡ option_map (with_counts p e (k + 1)) (option_and_then (λ o. option_and_then (mesher_at x s i o) (slice_get s.stages i)) pair)) [
      | None ↦ refl
      | Some o ↦ elim (slice_get s.stages i) as (λ stage.
          option_and_then (mesher_at (with_asking r q x) (with_counts p e k s) i o) stage
          ≡ option_map (with_counts p e (k + 1)) (option_and_then (mesher_at x s i o) stage)) [
            | None ↦ refl
            | Some stage ↦ stage_alike x r q s p e k i o stage
          ]
    ]

-- a mesher gives no command
pub mesher_gives_none : (x : Setting) (s t : State) (i : ℕ) → mesher_move x s i ≡ Some t → t.entries ≡ s.entries
mesher_gives_none x s t i is =
    let alike : mesher_move x s i ≡ option_map (with_counts s.places s.entries (s.calls + 1)) (mesher_move x s i) =
    mesher_alike x x.room x.asking s s.places s.entries s.calls i in
    let both : Some t ≡ Some (with_counts s.places s.entries (s.calls + 1) t) =
    subst (λ (o : Option State). o ≡ option_map (with_counts s.places s.entries (s.calls + 1)) o) is alike in
    let same : t ≡ with_counts s.places s.entries (s.calls + 1) t = cc both in
    ap (λ (u : State). u.entries) same
