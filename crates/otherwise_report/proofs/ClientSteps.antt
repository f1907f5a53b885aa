-- A client makes the moves of each job whose commands are among its own.
use Rattle.std.proofs.Common.{◌≡◌, ◌⊎◌, ℕ, suc, ◌+◌, ◌-◌, ◌<◌, ◌≤◌, Bool, true, false, ◌||◌, if◌then◌else◌, nat_lt, not, List, [], ◌∷◌, Option, Some, None, ap, length, option_and_then, option_map, slice_get, slice_index, slice_index_or, refl, subst, sym, ◌∙◌, arith, inl, inr}
use Rattle.std.proofs.lemmas.Bool.Decides.{leb_tells}
use Rattle.std.proofs.lemmas.Option.{slice_get_within}
use Rattle.model_memory.specs.Memory.{Memory}
use Rattle.model_otherwise.specs.Heaps.{Heap}
use Rattle.model_otherwise.specs.Moves.{Phase}
use Rattle.model_otherwise.specs.States.{Asking, Client, Pair, Scripts, Setting, Stage, State, after, asked, asks, command_in, command_move, counts, is_wrong, may_end, mesher_move, moves, with_answered, wrong_at}
use Rattle.model_otherwise.specs.Timed.{is_plain}
use Rattle.model_otherwise.specs.Tries.{Outcome, tried}
use Rattle.model_otherwise.specs.declared.timing.Timing.{Timing}
use Rattle.model_otherwise.specs.declared.tried.Tried.{Tried}
use Rattle.model_words.proofs.Tests.{tells}
use Rattle.model_words.specs.Replies.{is_refusal}
use Rattle.model_words.specs.declared.commands.Command.{Command}
use Rattle.model_words.specs.declared.versions.Version.{Version}
use Rattle.otherwise_report.proofs.ClientMoves.{IsCommand, command_made, is_command, mesher_alike, mesher_gives_none, plain_outcome, refusal_unchanged, with_asking, with_counts}
use Rattle.otherwise_report.specs.ClientLaws.{HasClientFor, IsAlike, IsAnsweredSo, IsCovered}
use Rattle.states_reach.specs.Reach.{AreMoves, IsKept, IsReachable, after_all, going_on}

-- a number below another one passes the test
below : (a b : ℕ) → a < b → nat_lt a b ≡ true
below a b lt = elim (leb_tells (suc a) b) [
  | inl under ↦ under.0
  | inr past ↦ (let high = past.1 in absurd (omega (arith, lt, high)))
]

-- and one that isn't below fails it
not_below : (a b : ℕ) → b ≤ a → nat_lt a b ≡ false
not_below a b le = elim (leb_tells (suc a) b) [
  | inl under ↦ (let lt = under.1 in absurd (omega (arith, lt, le)))
  | inr past ↦ past.0
]

-- a command in a script is one of those of the client
command_kept : (scripts : List (List Command)) (places : List ℕ) (n : ℕ) (command : Command) → command_in (Scripts scripts) places n ≡ Some command
    → IsKept (slice_index_or scripts n []) command
command_kept scripts places n command is = (slice_index places n, is)

-- a command that may be answered is one of those of the asking
given_command : (x : Setting) (s : State) (n : ℕ) (command : Command) → asked x s n ≡ Some command → command_in x.asking s.places n ≡ Some command
given_command x s n command is =
    elim (nat_lt s.entries x.room || may_end x s n) as (λ b. (if b then command_in x.asking s.places n else None) ≡ Some command → command_in x.asking s.places n ≡ Some command) [
      | true ↦ λ here. here
      | false ↦ λ none. absurd (cc none)
    ] is

-- so the client has each command of the workers
has_command : (x y : Setting) (s : State) (n : ℕ) (command : Command) (client : HasClientFor x y) → asked x s n ≡ Some command → IsKept client.commands command
has_command x y s n command client is =
    let given : command_in (Scripts client.scripts) s.places n ≡ Some command =
    subst (λ (asking : Asking). command_in asking s.places n ≡ Some command) client.workers (given_command x s n command is) in
    client.among n command (command_kept client.scripts s.places n command given)

-- and may give it while there is room
client_asked : (y : Setting) (t : State) (commands : List Command) (k : ℕ) (command : Command) → y.asking ≡ Client commands
    → slice_get commands k ≡ Some command → t.entries < y.room → asked y t k ≡ Some command
client_asked y t commands k command client there room =
    let here : command_in y.asking t.places k ≡ Some command =
    subst (λ (asking : Asking). command_in asking t.places k ≡ Some command) (sym client) there in
    subst (λ (b : Bool). (if b || may_end y t k then command_in y.asking t.places k else None) ≡ Some command) (sym (below t.entries y.room room)) here

-- its number is one of a command
client_number : (y : Setting) (commands : List Command) (k : ℕ) (command : Command) → y.asking ≡ Client commands
    → slice_get commands k ≡ Some command → k < asks y.asking
client_number y commands k command client there =
    subst (λ (asking : Asking). k < asks asking) (sym client) (slice_get_within commands k command there)

-- with the same memory and heap a command has the same outcome
same_tried : (p q : ℕ) (m n : Memory) (h i : Heap) (command : Command) → p ≡ q → m ≡ n → h ≡ i → tried p m h command ≡ tried q n i command
same_tried p q m n h i command e f g = cc

-- and so has one in states that are alike
alike_tried : (x y : Setting) (s t : State) (command : Command) → HasClientFor x y → IsAlike s t
    → tried y.pages t.memory t.heap command ≡ tried x.pages s.memory s.heap command
alike_tried x y s t command client alike = same_tried y.pages x.pages t.memory s.memory t.heap s.heap command client.pages alike.memory alike.heap

-- the client comes from `b` to a state that is like `u`, by no more commands than lead from `a` to `u`
record IsStepped (y : Setting) (a b u : State) : Type 0 where
  t : State
  on : (v : State) → IsReachable (after y) (moves y) t v → IsReachable (after y) (moves y) b v
  alike : IsAlike u t
  few : t.entries + a.entries ≤ u.entries + b.entries

-- one move before others
first_move : (y : Setting) (b t v : State) (n : ℕ) → n < moves y → after y b n ≡ Some t → IsReachable (after y) (moves y) t v
    → IsReachable (after y) (moves y) b v
first_move y b t v n few is (path, leads) = (
  n ∷ path,
  record {
    moves_are = (few, leads.moves_are);
    leads = subst (λ (o : Option State). going_on (after_all (after y) path) o ≡ Some v) (sym is) leads.leads;
  },
)

-- where the client gives a command
after_command : (y : Setting) (t u : State) (n : ℕ) → n < asks y.asking → command_move y t n ≡ Some u → after y t n ≡ Some u
after_command y t u n lt is =
    subst (λ (b : Bool). (if b then command_move y t n else mesher_move y t (n - asks y.asking)) ≡ Some u) (sym (below n (asks y.asking) lt)) is

-- where a mesher moves
after_mesher : (y : Setting) (t u : State) (i : ℕ) → mesher_move y t i ≡ Some u → after y t (asks y.asking + i) ≡ Some u
after_mesher y t u i is =
    let number : (asks y.asking + i) - asks y.asking ≡ i = omega arith in
    let there : mesher_move y t ((asks y.asking + i) - asks y.asking) ≡ Some u = subst (λ (k : ℕ). mesher_move y t k ≡ Some u) (sym number) is in
    subst (λ (b : Bool). (if b then command_move y t (asks y.asking + i) else mesher_move y t ((asks y.asking + i) - asks y.asking)) ≡ Some u)
    (sym (not_below (asks y.asking + i) (asks y.asking) (omega arith))) there

-- the client doesn't give a command that is refused
refused_step : (x y : Setting) (a b u : State) (n : ℕ) (made : IsCommand x a u n) → IsAlike a b → is_refusal made.reply ≡ true → IsStepped y a b u
refused_step x y a b u n made alike refused =
    let same = refusal_unchanged x.pages a.memory a.heap made.command made.reply made.answered refused in
    let more = made.entries in
    record {
      t = b;
      on = λ v leads. leads;
      alike = record {
        memory = alike.memory ∙ sym (made.memory ∙ same.0);
        heap = alike.heap ∙ sym (made.heap ∙ same.1);
        stages = alike.stages ∙ sym made.stages;
      };
      few = omega (arith, more);
    }

-- the client's commands are one move each
client_whole : (x y : Setting) → HasClientFor x y → is_plain y.timing ≡ true
client_whole x y client = subst (λ (t : Timing). is_plain t ≡ true) (sym client.timing) client.whole

-- it gives each other command of a worker
answered_step : (x y : Setting) (a b u : State) (n : ℕ) (client : HasClientFor x y) (made : IsCommand x a u n) → IsAlike a b → is_refusal made.reply ≡ false
    → b.entries < y.room → IsStepped y a b u
answered_step x y a b u n client made alike done room =
    let kept = has_command x y a n made.command client made.given in
    let k = kept.0 in
    let outcome = tried x.pages a.memory a.heap made.command in
    let number = client_number y client.commands k made.command client.client kept.1 in
    let counts_is : counts y.asking made.reply ≡ true =
    subst (λ (asking : Asking). counts asking made.reply ≡ true) (sym client.client) (ap not done) in
    let given = client_asked y b client.commands k made.command client.client kept.1 room in
    let leads = command_made y b k made.command made.reply outcome (client_whole x y client) given (alike_tried x y a b made.command client alike) made.answered counts_is in
    let more = made.entries in
    record {
      t = with_answered b k outcome;
      on = λ v. first_move y b (with_answered b k outcome) v k (omega (arith, number)) (after_command y b (with_answered b k outcome) k number leads);
      alike = record {
        memory = sym made.memory;
        heap = sym made.heap;
        stages = alike.stages ∙ sym made.stages;
      };
      few = omega (arith, more);
    }

-- so it covers each command of a worker
command_step : (x y : Setting) (a b u : State) (n : ℕ) → HasClientFor x y → IsCommand x a u n → IsAlike a b → b.entries < y.room → IsStepped y a b u
command_step x y a b u n client made alike room = elim (tells (is_refusal made.reply)) [
  | inl refused ↦ refused_step x y a b u n made alike refused
  | inr done ↦ answered_step x y a b u n client made alike done room
]

-- a setting with these parts
abbrev setting_in : List Phase → Bool → ℕ → Version → ℕ → Asking → Timing → List Pair → Setting
setting_in f c p v r q m i = record { phases = f; checked = c; pages = p; version = v; room = r; asking = q; timing = m; pairs = i }

-- settings with the same parts are equal
same_setting : (f g : List Phase) (s t : Bool) (p q : ℕ) (v w : Version) (m n : Timing) (i j : List Pair) (r : ℕ) (k : Asking)
    → f ≡ g → s ≡ t → p ≡ q → v ≡ w → m ≡ n → i ≡ j → setting_in f s p v r k m i ≡ setting_in g t q w r k n j
same_setting f g s t p q v w m n i j r k a e b c h d = cc

-- the client's setting is that of the workers, with another asking
client_setting : (x y : Setting) → HasClientFor x y → y ≡ with_asking y.room y.asking x
client_setting x y client = same_setting y.phases x.phases y.checked x.checked y.pages x.pages y.version x.version y.timing x.timing y.pairs x.pairs y.room y.asking
    client.phases client.checked client.pages client.version client.timing client.pairs

-- a state with these parts
abbrev state_in : Memory → Heap → List Stage → List ℕ → ℕ → ℕ → State
state_in m h g p e k = record { memory = m; heap = h; stages = g; places = p; entries = e; calls = k }

-- states with the same parts are equal
same_state : (m n : Memory) (h i : Heap) (g f : List Stage) (p : List ℕ) (e k : ℕ) → m ≡ n → h ≡ i → g ≡ f → state_in m h g p e k ≡ state_in n i f p e k
same_state m n h i g f p e k a b c = cc

-- a state that is like another one is that one, with other counts
alike_state : (s t : State) → IsAlike s t → t ≡ with_counts t.places t.entries t.calls s
alike_state s t alike = same_state t.memory s.memory t.heap s.heap t.stages s.stages t.places t.entries t.calls alike.memory alike.heap alike.stages

-- the mesher makes the same move where the client gives commands
mesher_leads : (x y : Setting) (a b u : State) (i : ℕ) → HasClientFor x y → IsAlike a b → mesher_move x a i ≡ Some u
    → mesher_move y b i ≡ Some (with_counts b.places b.entries (b.calls + 1) u)
mesher_leads x y a b u i client alike is =
    let there : mesher_move (with_asking y.room y.asking x) (with_counts b.places b.entries b.calls a) i ≡ Some (with_counts b.places b.entries (b.calls + 1) u) =
    mesher_alike x y.room y.asking a b.places b.entries b.calls i ∙ ap (option_map (with_counts b.places b.entries (b.calls + 1))) is in
    let state : mesher_move (with_asking y.room y.asking x) b i ≡ Some (with_counts b.places b.entries (b.calls + 1) u) =
    subst (λ (s : State). mesher_move (with_asking y.room y.asking x) s i ≡ Some (with_counts b.places b.entries (b.calls + 1) u)) (sym (alike_state a b alike)) there in
    subst (λ (z : Setting). mesher_move z b i ≡ Some (with_counts b.places b.entries (b.calls + 1) u)) (sym (client_setting x y client)) state

-- so it covers each move of a mesher
mesher_step : (x y : Setting) (a b u : State) (i : ℕ) → HasClientFor x y → IsAlike a b → i < length x.pairs → mesher_move x a i ≡ Some u → IsStepped y a b u
mesher_step x y a b u i client alike lt is =
    let t = with_counts b.places b.entries (b.calls + 1) u in
    let pairs : length y.pairs ≡ length x.pairs = ap length client.pairs in
    let none = mesher_gives_none x a u i is in
    record {
      t = t;
      on = λ v. first_move y b t v (asks y.asking + i) (omega (arith, lt, pairs)) (after_mesher y b t i (mesher_leads x y a b u i client alike is));
      alike = record { memory = refl; heap = refl; stages = refl };
      few = omega (arith, none);
    }

-- a move is a command that was answered, or a mesher's
is_move : (x : Setting) (a u : State) (n : ℕ) → is_plain x.timing ≡ true → n < moves x → after x a n ≡ Some u
    → IsCommand x a u n ⊎ ((n - asks x.asking < length x.pairs) × (mesher_move x a (n - asks x.asking) ≡ Some u))
is_move x a u n whole lt is = elim (leb_tells (suc n) (asks x.asking)) [
  | inl under ↦ inl (is_command x a u n whole
      (subst (λ (b : Bool). (if b then command_move x a n else mesher_move x a (n - asks x.asking)) ≡ Some u) under.0 is))
  | inr past ↦ (let high = past.1 in inr (
    omega (arith, lt, high),
    subst (λ (b : Bool). (if b then command_move x a n else mesher_move x a (n - asks x.asking)) ≡ Some u) past.0 is,
  ))
]

-- moves give no fewer commands than none
entries_grow : (x : Setting) (path : List ℕ) (a s : State) → is_plain x.timing ≡ true → AreMoves (moves x) path → after_all (after x) path a ≡ Some s → a.entries ≤ s.entries
entries_grow x [] a s whole all is = let same : a ≡ s = cc is in subst (λ (t : State). a.entries ≤ t.entries) same (omega arith)
entries_grow x (n ∷ path) a s whole all is =
    elim (after x a n) as (λ o. after x a n ≡ o → going_on (after_all (after x) path) o ≡ Some s → a.entries ≤ s.entries) [
      | None ↦ λ none nowhere. absurd (cc nowhere)
      | Some u ↦ λ leads rest. (let grown = entries_grow x path u s whole all.1 rest in elim (is_move x a u n whole all.0 leads) [
        | inl made ↦ (let more = made.entries in omega (arith, grown, more))
        | inr mesher ↦ (let none = mesher_gives_none x a u (n - asks x.asking) mesher.1 in omega (arith, grown, none))
      ])
    ] refl is

-- the client makes each move, while it may give as many commands
one_step : (x y : Setting) (a b u s : State) (n : ℕ) → HasClientFor x y → IsAlike a b → n < moves x → after x a n ≡ Some u → u.entries ≤ s.entries
    → s.entries + b.entries ≤ y.room + a.entries → IsStepped y a b u
one_step x y a b u s n client alike lt is grown few = elim (is_move x a u n client.whole lt is) [
  | inl made ↦ (let more = made.entries in command_step x y a b u n client made alike (omega (arith, grown, few, more)))
  | inr mesher ↦ mesher_step x y a b u (n - asks x.asking) client alike mesher.0 mesher.1
]

-- the sums of commands on the way
sum_on : (s t a b u room : ℕ) → t + a ≤ u + b → s + b ≤ room + a → s + t ≤ room + u
sum_on s t a b u room one few = omega (arith, one, few)

-- and on the whole way
sum_all : (s t v a b u : ℕ) → t + a ≤ u + b → v + u ≤ s + t → v + a ≤ s + b
sum_all s t v a b u one rest = omega (arith, one, rest)

-- and all moves
path_covered : (x y : Setting) (path : List ℕ) (a b s : State) → HasClientFor x y → IsAlike a b → AreMoves (moves x) path
    → after_all (after x) path a ≡ Some s → s.entries + b.entries ≤ y.room + a.entries → IsCovered y a b s
path_covered x y [] a b s client alike all is few =
    let same : a ≡ s = cc is in
    record {
      t = b;
      reachable = ([], record { moves_are = tt; leads = refl });
      alike = subst (λ (u : State). IsAlike u b) same alike;
      few = subst (λ (u : State). b.entries + a.entries ≤ u.entries + b.entries) same (omega arith);
    }
path_covered x y (n ∷ path) a b s client alike all is few =
    elim (after x a n) as (λ o. after x a n ≡ o → going_on (after_all (after x) path) o ≡ Some s → IsCovered y a b s) [
      | None ↦ λ none nowhere. absurd (cc nowhere)
      | Some u ↦ λ leads rest. (
          let step = one_step x y a b u s n client alike all.0 leads (entries_grow x path u s client.whole all.1 rest) few in
          let covered = path_covered x y path u step.t s client step.alike all.1 rest
          (sum_on s.entries step.t.entries a.entries b.entries u.entries y.room step.few few) in
          record {
            t = covered.t;
            reachable = step.on covered.t covered.reachable;
            alike = covered.alike;
            few = sum_all s.entries step.t.entries covered.t.entries a.entries b.entries u.entries step.few covered.few;
          })
    ] refl is

-- the client reaches each state that the workers reach
pub states_covered : (x y : Setting) (a b s : State) → HasClientFor x y → IsAlike a b → IsReachable (after x) (moves x) a s
    → s.entries + b.entries ≤ y.room + a.entries → IsCovered y a b s
states_covered x y a b s client alike (path, leads) few = path_covered x y path a b s client alike leads.moves_are leads.leads few

-- where each command is one move, a wrong answer is one that a move gives
wrong_here : (x : Setting) (s : State) (n : ℕ) → is_plain x.timing ≡ true
    → wrong_at x s n ≡ option_and_then (λ t. if is_wrong t then Some t else None) (option_map (λ d. d.tried) (option_map (tried x.pages s.memory s.heap) (asked x s n)))
wrong_here x s n whole =
    ap (λ (o : Option Outcome). option_and_then (λ (t : Tried). if is_wrong t then Some t else None) (option_map (λ (d : Outcome). d.tried) o)) (plain_outcome x s n whole)

-- the wrong answer to a command that may be answered
wrong_of : (x : Setting) (s : State) (n : ℕ) (command : Command) (o : Outcome) (wrong : Tried) → is_plain x.timing ≡ true → asked x s n ≡ Some command
    → tried x.pages s.memory s.heap command ≡ o → (if is_wrong o.tried then Some o.tried else None) ≡ Some wrong → wrong_at x s n ≡ Some wrong
wrong_of x s n command o wrong whole given is wrong_is =
    let here : (if is_wrong (tried x.pages s.memory s.heap command).tried then Some (tried x.pages s.memory s.heap command).tried else None) ≡ Some wrong =
    subst (λ (d : Outcome). (if is_wrong d.tried then Some d.tried else None) ≡ Some wrong) (sym is) wrong_is in
    wrong_here x s n whole
    ∙ subst (λ (c : Option Command).
    option_and_then (λ t. if is_wrong t then Some t else None) (option_map (λ d. d.tried) (option_map (tried x.pages s.memory s.heap) c)) ≡ Some wrong)
    (sym given) here

-- the client gets each wrong answer that a worker gets
pub answers_covered : (x y : Setting) (s t : State) (worker : ℕ) (wrong : Tried) → HasClientFor x y → IsAlike s t → t.entries < y.room
    → wrong_at x s worker ≡ Some wrong → IsAnsweredSo y t wrong
answers_covered x y s t worker wrong client alike room is =
    elim (asked x s worker) as (λ c. asked x s worker ≡ c
    → option_and_then (λ o. if is_wrong o then Some o else None) (option_map (λ d. d.tried) (option_map (tried x.pages s.memory s.heap) c)) ≡ Some wrong
    → IsAnsweredSo y t wrong) [
      | None ↦ λ none nowhere. absurd (cc nowhere)
      | Some command ↦ λ given here. (
          let kept = has_command x y s worker command client given in
          record {
            n = kept.0;
            is_command = client_number y client.commands kept.0 command client.client kept.1;
            wrong = wrong_of y t kept.0 command (tried x.pages s.memory s.heap command) wrong (client_whole x y client)
                (client_asked y t client.commands kept.0 command client.client kept.1 room) (alike_tried x y s t command client alike) here;
          })
    ] refl (sym (wrong_here x s worker client.whole) ∙ is)
