-- Which lines made which live objects.
use Rattle.std.specs.Prelude.{◌≡◌, ◌⊎◌, ℕ, ◌+◌, true, List, Some, slice_get}
use Rattle.std.specs.Ordering.{nat_cmp}
use Rattle.std.specs.BTreeMap.{get}
use Rattle.model_memory.specs.Plain.{Entry}
use Rattle.model_words.specs.declared.commands.Reply.{Reply}
use Rattle.model_words.specs.declared.commands.Reply.TheVariants.{Object as Made}
use Rattle.history_in_order.specs.Judged.{is_new}
use Rattle.history_in_order.specs.Objects.{LiveObject}
use Rattle.history_in_order.specs.declared.memory.Tracked.{Tracked}
use Rattle.history_in_order.specs.declared.reasons.Overlap.{Overlap}
use Rattle.history_in_order.specs.declared.reasons.Reason.{Reason}
use Rattle.history_in_order.specs.declared.reasons.Reason.TheVariants.{Overlaps}

-- the entry on this line is a `new`, and is answered by an object with this serial and this address; the first entry is
-- on line 2
pub record IsMadeBy (entries : List Entry) (line serial address : ℕ) : Type 0 where
  pub place : ℕ
  pub entry : Entry
  pub is_line : line ≡ place + 2
  pub is_entry : slice_get entries place ≡ Some entry
  pub asked : is_new entry.command ≡ true
  pub answered : entry.reply ≡ Made serial address

-- each live object was made by the entry on its line
abbrev pub AreLined : List Entry → Tracked → Type 0
AreLined entries m = (n : ℕ) (live : LiveObject) → get nat_cmp m.objects n ≡ Some live → IsMadeBy entries live.made_at live.serial live.object.address

-- both objects have the same line, serial and address
abbrev pub IsSame : LiveObject → LiveObject → Type 0
IsSame old new = (new.made_at ≡ old.made_at) × (new.serial ≡ old.serial) × (new.object.address ≡ old.object.address)

-- the object was live before, with the same line, serial and address
abbrev pub WasLive : Tracked → ℕ → LiveObject → Type 0
WasLive old n live = (was : LiveObject) × (get nat_cmp old.objects n ≡ Some was) × IsSame was live

-- no object is made: each live object was live before
abbrev pub MakesNone : Tracked → Tracked → Type 0
MakesNone old new = (n : ℕ) (live : LiveObject) → get nat_cmp new.objects n ≡ Some live → WasLive old n live

-- each live object was live before, or was made by this line with this answer
abbrev pub MakesAtMost : Tracked → Tracked → ℕ → Reply → Type 0
MakesAtMost old new line reply = (n : ℕ) (live : LiveObject) → get nat_cmp new.objects n ≡ Some live
    → WasLive old n live ⊎ ((live.made_at ≡ line) × (reply ≡ Made live.serial live.object.address))

-- the overlapped object's serial, line and address are those of a live object
pub record IsOfLive (m : Tracked) (overlap : Overlap) : Type 0 where
  pub number : ℕ
  pub live : LiveObject
  pub is_live : get nat_cmp m.objects number ≡ Some live
  pub serial : overlap.serial ≡ live.serial
  pub made_at : overlap.made_at ≡ live.made_at
  pub address : overlap.other.from ≡ live.object.address

-- if the reason is an overlap, its line is that of the `new` that made the overlapped object
abbrev pub HasLine : List Entry → Reason → Type 0
HasLine entries (Overlaps overlap) = IsMadeBy entries overlap.made_at overlap.serial overlap.other.from
HasLine entries reason = Unit {0}
