-- The code's state, and the state of the definitions that it represents.
use Rattle.std.specs.Prelude.{◌≡◌, ℕ, ◌*◌, ◌+◌, ◌-◌, ◌^◌, ◌<◌, ◌≤◌, List, Option, Some, None}
use Rattle.savings_replay.specs.Counts.{IsFew}
use Rattle.savings_replay.specs.Followed.{Followed, Goes, Large as LiveLarge, Live, NoAddresses as HasNoAddresses, NoObject as HasNoObject, Outcome, Small as LiveSmall}
use Rattle.savings_replay.specs.HeapChanges.{HaveSerial, IsAt, heaps_of}
use Rattle.savings_replay.specs.Mesher.{round_tries}
use Rattle.savings_replay.specs.declared.counts.Counts.{Counts}
use Rattle.savings_replay.specs.declared.counts.MeshCounts.{MeshCounts}
use Rattle.savings_replay.specs.declared.heaps.TwoHeaps.{TwoHeaps}
use Rattle.savings_replay.specs.declared.objects.Object.{Object}
use Rattle.savings_replay.specs.declared.objects.Object.TheVariants.{Small, Large}
use Rattle.savings_replay.specs.Objects.{Objects, cell_of, entry_of}
use Rattle.savings_replay.specs.declared.taken.Taken.{Taken}
use Rattle.savings_replay.specs.declared.taken.Taken.TheVariants.{Made, NoAddresses, NoObject}
use Rattle.savings_replay.specs.declared.settings.Settings.{Settings}

-- what the code stores of an object is right for the live object: the places of a small one, the length of a large one
abbrev pub IsKept : TwoHeaps → Option Object → Option Live → Type 0
IsKept h None None = Unit {0}
IsKept h (Some (Small places)) (Some (LiveSmall serial len)) = IsAt h places serial len
IsKept h (Some (Large len)) (Some (LiveLarge size)) = len ≡ size
IsKept h _ _ = ⊥

-- no two small live objects have the same serial
abbrev pub AreApart : (ℕ → Option Live) → Type 0
AreApart live = (m n serial len size : ℕ) → live m ≡ Some (LiveSmall serial len) → live n ≡ Some (LiveSmall serial size) → m ≡ n

-- what the code stores, as contracts see it
pub record Kept : Type 0 where
  pub settings : Settings
  pub objects : Objects
  pub counts : Counts
  pub new_words : List ℕ
  pub heaps : TwoHeaps

-- what the code stores, from its parts
abbrev pub kept_of : Settings → Objects → Counts → List ℕ → TwoHeaps → Kept
kept_of settings objects counts new_words heaps = record {
  settings = settings;
  objects = objects;
  counts = counts;
  new_words = new_words;
  heaps = heaps;
}

-- the code's state represents the state `f`
pub record Follows (code : Kept) (f : Followed) : Type 0 where
  pub cells : (cell : ℕ) → cell_of code.objects cell ≡ f.cells cell
  pub objects : (number : ℕ) → IsKept code.heaps (entry_of code.objects number) (f.live number)
  pub counts : code.counts ≡ f.counts
  pub new_words : code.new_words ≡ f.new_words
  pub heaps : heaps_of code.heaps ≡ f.heaps
  pub without_serial : code.heaps.without.next_serial ≡ f.counts.small
  pub with_serial : code.heaps.mesher.placement.next_serial ≡ f.counts.small
  pub apart : AreApart f.live
  pub below : (number serial len : ℕ) → f.live number ≡ Some (LiveSmall serial len) → serial < f.counts.small

-- the counts of meshes are possible after `rounds` rounds: a round has at most 32,768 pairs in each of 10 classes, and
-- a mesh moves at most 12,288 bytes
pub record AreOfRounds (counts : MeshCounts) (rounds : ℕ) : Type 0 where
  pub counted : counts.meshes + counts.refused ≤ 327680 * rounds
  pub moved : counts.moved ≤ 4026531840 * rounds
  pub tried : counts.tries ≤ round_tries * rounds

-- what always holds of the counts
pub record IsCounted (code : Kept) : Type 0 where
  pub few : IsFew code.counts
  pub numbers : code.objects.live.next ≤ code.counts.made
  pub meshes : AreOfRounds code.heaps.mesher.counts code.counts.rounds

-- there are numbers left for one more call and one more object
pub record HasNumbers (code : Kept) : Type 0 where
  pub calls : code.counts.calls < 2 ^ 32 - 1
  pub heaps : HaveSerial code.heaps

-- the code reports the outcome of the call, and represents the state after it, or the state before it if the call can't
-- be made
abbrev pub IsTaken : Kept → Followed → Outcome → Taken → Type 0
IsTaken new f (Goes next) Made = Follows new next
IsTaken new f HasNoObject NoObject = Follows new f
IsTaken new f HasNoAddresses NoAddresses = Follows new f
IsTaken new f _ _ = ⊥
