-- The keys of calls: the call, the point and the rank of each.
use Rattle.std.proofs.Common.{◌≡◌, ℕ, ◌+◌, ◌*◌, true, List, [], ◌∷◌, Some, ap, arith, get_or, map, refl, slice_get, sym, ◌∙◌}
use Rattle.std.proofs.lemmas.Option.{get_or_from_slice_get, slice_get-get_or, slice_get_within}
use Rattle.model_words.specs.declared.commands.Command.{Command}
use Rattle.model_words.specs.declared.commands.Command.TheVariants.{New, Free}
use Rattle.model_words.specs.declared.commands.Reply.TheVariants.{Done}
use Rattle.model_intervals.specs.Intervals.{Call}
use Rattle.model_intervals.specs.KeyedOrders.{Keyed, calls_of}
use Rattle.model_intervals.specs.Objects.{is_access}
use Rattle.model_intervals.specs.OverlappingCalls.{IsAt, IsFree, IsNew}
use Rattle.history_overlaps.specs.Keys.{IsKeyOf, rank_at}
use Rattle.history_overlaps.specs.Points.{ArePoints}
use Rattle.history_overlaps.specs.declared.keys.Key.{Key}
use Rattle.history_overlaps.specs.declared.keys.Rank.TheVariants.{Access as AccessRank}
use Rattle.history_overlaps.specs.declared.points.Point.{Point}
use Rattle.history_overlaps.proofs.KeyOrder.{rank_number}
use Rattle.history_overlaps.proofs.PlacedCalls.{point_at}

-- the ranks of the commands
pub new_rank : (command : Command) → IsNew command → rank_number (rank_at command) ≡ 2
new_rank (New cell len word) new = refl
new_rank command new = absurd new

pub free_rank : (command : Command) → IsFree command → rank_number (rank_at command) ≡ 0
free_rank (Free cell) free = refl
free_rank command free = absurd free

pub access_rank : (command : Command) → is_access command ≡ true → rank_at command ≡ AccessRank
access_rank (New cell len word) access = absurd (cc access)
access_rank (Free cell) access = absurd (cc access)
access_rank command access = refl

-- the call with a number
abbrev pub call_at : List Call → ℕ → Call
call_at calls number = get_or calls number (record { begin = 0; end = 0; entry = record { worker = 0; command = Free 0; reply = Done } })

-- a key with its call
abbrev pub keyed_by : List Call → Key → Keyed
keyed_by calls key = record { key = 3 * key.moment + rank_number key.rank; call = call_at calls key.number }

-- the calls alone
pub keyed_calls : (calls : List Call) (keys : List Key) → calls_of (map (keyed_by calls) keys) ≡ map (λ n. call_at calls n) (map (λ key. key.number) keys)
keyed_calls calls [] = refl
keyed_calls calls (key ∷ keys) = ap (λ (rest : List Call). call_at calls key.number ∷ rest) (keyed_calls calls keys)

-- the key of a call that has a point
pub record IsKeyAt (calls : List Call) (points : List Point) (key : Key) : Type 0 where
  pub there : IsAt calls key.number (call_at calls key.number)
  pub pointed : slice_get points key.number ≡ Some (point_at points key.number)
  pub ranked : key.rank ≡ rank_at (call_at calls key.number).entry.command
  pub moment : key.moment ≡ (point_at points key.number).moment
  pub place : key.place ≡ (point_at points key.number).place

-- each call has a point
pub key_at : (calls : List Call) (points : List Point) (orders : ℕ → List ℕ) (key : Key) → ArePoints calls points orders → IsKeyOf calls points key → IsKeyAt calls points key
key_at calls points orders key are is =
    let within = slice_get_within calls key.number is.call is.there in
    let many = are.many in
    let pointed = slice_get-get_or points key.number (record { moment = 0; place = 0 }) (omega (arith, within, many)) in
    let same = get_or_from_slice_get calls key.number is.call (call_at [] 0) is.there in
    let at_point = is.pointed (point_at points key.number) pointed in record {
      there = is.there ∙ ap (λ (call : Call). Some call) (sym same);
      pointed = pointed;
      ranked = is.ranked ∙ ap (λ (call : Call). rank_at call.entry.command) (sym same);
      moment = at_point.0;
      place = at_point.1;
    }

-- the keys of a `new` and of a `free`
pub new_key : (calls : List Call) (points : List Point) (orders : ℕ → List ℕ) (key : Key) → ArePoints calls points orders → IsKeyAt calls points key
    → IsNew (call_at calls key.number).entry.command → (keyed_by calls key).key ≡ 3 * (call_at calls key.number).end + 2
new_key calls points orders key are is new =
    let moment = is.moment ∙ are.news key.number (call_at calls key.number) (point_at points key.number) is.there is.pointed new in
    let rank = ap rank_number is.ranked ∙ new_rank (call_at calls key.number).entry.command new in
    omega (arith, moment, rank)

pub free_key : (calls : List Call) (points : List Point) (orders : ℕ → List ℕ) (key : Key) → ArePoints calls points orders → IsKeyAt calls points key
    → IsFree (call_at calls key.number).entry.command → (keyed_by calls key).key ≡ 3 * (call_at calls key.number).begin
free_key calls points orders key are is free =
    let moment = is.moment ∙ are.frees key.number (call_at calls key.number) (point_at points key.number) is.there is.pointed free in
    let rank = ap rank_number is.ranked ∙ free_rank (call_at calls key.number).entry.command free in
    omega (arith, moment, rank)
