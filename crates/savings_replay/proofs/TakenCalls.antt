-- What each call leaves stands for the state after it.
use Rattle.std.proofs.Common.{◌≡◌, ◌∙◌, ℕ, ◌+◌, true, false, ◌&&◌, is_ok, is_some, List, Option, Some, None, Result, Ok, Err, ap, refl, subst, sym}
use Rattle.std.specs.Prelude.{sum_by}
use Rattle.model_heap.specs.Table.{Placed, Table, object_count, place_new}
use Rattle.model_words.specs.declared.refusals.Refusal.{Refusal}
use Rattle.savings_replay.specs.Placement.{table_of}
use Rattle.savings_replay.proofs.FollowsLemmas.{Agree, IsHeld, apart_large, apart_small, apart_without, at_other, at_same, below_large, below_small, held_at, held_none, held_some, kept_at, kept_on}
use Rattle.savings_replay.specs.Counts.{alias_counted, large_free_counted, large_new_counted, small_free_counted, small_new_counted}
use Rattle.savings_replay.specs.Followed.{Followed, Large as LiveLarge, Live, NoAddresses as HasNoAddresses, Small as LiveSmall, after_free, aliased, freed, is_due, large_freed, made, object_in, small_freed, small_live, small_made, small_placed, with_at, without_serial}
use Rattle.savings_replay.specs.Follows.{Follows, IsKept, IsTaken, kept_of}
use Rattle.savings_replay.specs.HeapChanges.{AreKept, AreKeptBut, IsAt, IsFreedFrom, IsMadeIn, has_room, heaps_of}
use Rattle.savings_replay.specs.Meshing.{Heaps, Meshing}
use Rattle.savings_replay.specs.LiveObjects.{found as found_in}
use Rattle.savings_replay.specs.Objects.{Objects, IsAliased, IsTakenOut, cell_of, entry_of, number_in}
use Rattle.savings_replay.specs.Words.{after_new_word, new_word}
use Rattle.savings_replay.specs.declared.counts.Counts.{Counts}
use Rattle.savings_replay.specs.declared.heaps.TwoHeaps.{TwoHeaps}
use Rattle.savings_replay.specs.declared.objects.Object.{Object}
use Rattle.savings_replay.specs.declared.objects.Object.TheVariants.{Small, Large}
use Rattle.savings_replay.specs.declared.objects.Places.{Places}
use Rattle.savings_replay.specs.declared.taken.Taken.TheVariants.{Made, NoAddresses, NoObject}
use Rattle.savings_replay.specs.declared.settings.Settings.{Settings}

pub agree : (s : Settings) (o : Objects) (c : Counts) (w : List ℕ) (h : TwoHeaps) (f : Followed) → Follows (kept_of s o c w h) f → Agree o h f
agree s o c w h f fol = record { cells = fol.cells; objects = fol.objects }

-- a cell is given a live object, or there is none

alias_by : (s : Settings) (o n : Objects) (c : Counts) (w : List ℕ) (h : TwoHeaps) (f : Followed) (to from : ℕ) (q : Option ℕ)
    → Follows (kept_of s o c w h) f → number_in o from ≡ q → IsAliased o n to true q → IsTaken (kept_of s n (alias_counted c) w h) f (aliased f to (object_in f from)) Made
alias_by s o n c w h f to from None fol is done = absurd done
alias_by s o n c w h f to from (Some number) fol is done =
    let found : (live : Live) × IsHeld f from number live = held_some o h f from number (agree s o c w h f fol) is in
    let after : Followed = record f { cells = with_at to (Some number) f.cells; counts = alias_counted f.counts } in
    let follows : Follows (kept_of s n (alias_counted c) w h) after = record {
      cells = λ k. done.0 k ∙ at_same to k (Some number) (cell_of o) f.cells (fol.cells k);
      objects = λ k. subst (λ live. IsKept h (found_in k live.list) (f.live k)) (sym done.1) (fol.objects k);
      new_words = fol.new_words;
      heaps = fol.heaps;
      counts = ap alias_counted fol.counts;
      without_serial = fol.without_serial;
      with_serial = fol.with_serial;
      apart = fol.apart;
      below = fol.below;
    } in
    subst (λ held. IsTaken (kept_of s n (alias_counted c) w h) f (aliased f to held) Made) (sym found.1.held) follows

pub alias_taken : (s : Settings) (o n : Objects) (c : Counts) (w : List ℕ) (h : TwoHeaps) (f : Followed) (to from : ℕ)
    → Follows (kept_of s o c w h) f → IsAliased o n to true (number_in o from) → IsTaken (kept_of s n (alias_counted c) w h) f (aliased f to (object_in f from)) Made
alias_taken s o n c w h f to from fol done = alias_by s o n c w h f to from (number_in o from) fol refl done

alias_none_by : (o n : Objects) (to : ℕ) (q : Option ℕ) → IsAliased o n to false q → (q ≡ None) × (n ≡ o)
alias_none_by o n to None done = (refl, done)
alias_none_by o n to (Some number) done = absurd done

pub alias_none : (s : Settings) (o n : Objects) (c : Counts) (w : List ℕ) (h : TwoHeaps) (f : Followed) (to from : ℕ)
    → Follows (kept_of s o c w h) f → IsAliased o n to false (number_in o from) → IsTaken (kept_of s n c w h) f (aliased f to (object_in f from)) NoObject
alias_none s o n c w h f to from fol done =
    let none : (number_in o from ≡ None) × (n ≡ o) = alias_none_by o n to (number_in o from) done in
    let held : object_in f from ≡ None = held_none o h f from (agree s o c w h f fol) none.0 in
    subst (λ held. IsTaken (kept_of s n c w h) f (aliased f to held) NoObject) (sym held) (subst (λ o. Follows (kept_of s o c w h) f) (sym none.1) fol)

-- an object is freed

pub free_none : (s : Settings) (o n : Objects) (c : Counts) (w : List ℕ) (h : TwoHeaps) (f : Followed) (cell : ℕ)
    → Follows (kept_of s o c w h) f → (number_in o cell ≡ None) × (n ≡ o) → IsTaken (kept_of s n c w h) f (freed s f cell (object_in f cell)) NoObject
free_none s o n c w h f cell fol none =
    let held : object_in f cell ≡ None = held_none o h f cell (agree s o c w h f fol) none.0 in
    subst (λ held. IsTaken (kept_of s n c w h) f (freed s f cell held) NoObject) (sym held) (subst (λ o. Follows (kept_of s o c w h) f) (sym none.1) fol)

-- the live object that was taken out
out_held : (o n : Objects) (h : TwoHeaps) (f : Followed) (cell number : ℕ) (object : Object) → Agree o h f → IsTakenOut o n cell number object
    → (live : Live) × (IsHeld f cell number live × IsKept h (Some object) (Some live))
out_held o n h f cell number object agree out =
    let found : (live : Live) × IsHeld f cell number live = held_at o h f cell number agree out.held (ap is_some out.object_is) in
    (found.0, (found.1, subst (λ l. IsKept h (Some object) l) found.1.live_is (subst (λ e. IsKept h e (f.live number)) out.object_is (agree.objects number))))

large_by : (s : Settings) (o n : Objects) (c : Counts) (w : List ℕ) (h : TwoHeaps) (f : Followed) (cell number len : ℕ) (live : Live)
    → Follows (kept_of s o c w h) f → IsTakenOut o n cell number (Large len) → IsHeld f cell number live → IsKept h (Some (Large len)) (Some live)
    → IsTaken (kept_of s n (large_free_counted c len) w h) f (freed s f cell (object_in f cell)) Made
large_by s o n c w h f cell number len (LiveSmall serial size) fol out held kept = absurd kept
large_by s o n c w h f cell number len (LiveLarge size) fol out held kept =
    let follows : Follows (kept_of s n (large_free_counted c len) w h) (large_freed f cell number size) = record {
      cells = λ k. out.cells k ∙ at_same cell k None (cell_of o) f.cells (fol.cells k);
      objects = λ k. subst (λ e. IsKept h e (with_at number None f.live k)) (sym (out.live k)) (kept_at h number None None (entry_of o) f.live k tt (λ other. fol.objects k));
      counts = ap (λ x. large_free_counted x len) fol.counts ∙ ap (large_free_counted f.counts) kept;
      new_words = fol.new_words;
      heaps = fol.heaps;
      without_serial = fol.without_serial;
      with_serial = fol.with_serial;
      apart = apart_without number f.live fol.apart;
      below = λ m serial size at. fol.below m serial size (at_other number m f.live (LiveSmall serial size) at).1;
    } in
    subst (λ found. IsTaken (kept_of s n (large_free_counted c len) w h) f (freed s f cell found) Made) (sym held.held) follows

pub large_free : (s : Settings) (o n : Objects) (c : Counts) (w : List ℕ) (h : TwoHeaps) (f : Followed) (cell number len : ℕ)
    → Follows (kept_of s o c w h) f → IsTakenOut o n cell number (Large len)
    → IsTaken (kept_of s n (large_free_counted c len) w h) f (freed s f cell (object_in f cell)) Made
large_free s o n c w h f cell number len fol out =
    let found : (live : Live) × (IsHeld f cell number live × IsKept h (Some (Large len)) (Some live)) = out_held o n h f cell number (Large len) (agree s o c w h f fol) out in
    large_by s o n c w h f cell number len found.0 fol out found.1.0 found.1.1

-- a round that may follow a free
abbrev after_round_of : Settings → Counts → Heaps → Heaps
after_round_of s c left = after_free s.probe left (is_due s.rounds (c.since + 1) (small_live left))

abbrev counted_free : Settings → Counts → Heaps → Counts
counted_free s c left = small_free_counted c (is_due s.rounds (c.since + 1) (small_live left))

small_by : (s : Settings) (o n : Objects) (c : Counts) (w : List ℕ) (h mid after : TwoHeaps) (f : Followed) (cell number : ℕ) (places : Places) (live : Live)
    → Follows (kept_of s o c w h) f → IsTakenOut o n cell number (Small places) → IsHeld f cell number live → IsKept h (Some (Small places)) (Some live)
    → ((serial len : ℕ) → IsAt h places serial len → IsFreedFrom h mid serial)
    → heaps_of after ≡ after_round_of s c (heaps_of mid) → AreKept mid after
    → IsTaken (kept_of s n (counted_free s c (heaps_of mid)) w after) f (freed s f cell (object_in f cell)) Made
small_by s o n c w h mid after f cell number places (LiveLarge size) fol out held kept left value stay = absurd kept
small_by s o n c w h mid after f cell number places (LiveSmall serial len) fol out held kept left value stay =
    let gone : IsFreedFrom h mid serial = left serial len kept in
    let but : AreKeptBut h after serial = kept_after h mid after serial gone.kept stay in
    let mid_is : heaps_of mid ≡ without_serial f.heaps serial = gone.heaps ∙ ap (λ (x : Heaps). without_serial x serial) fol.heaps in
    let follows : Follows (kept_of s n (counted_free s c (heaps_of mid)) w after) (small_freed s f cell number serial) = record {
      cells = λ k. out.cells k ∙ at_same cell k None (cell_of o) f.cells (fol.cells k);
      objects = λ k. subst (λ e. IsKept after e (with_at number None f.live k)) (sym (out.live k))
          (kept_at after number None None (entry_of o) f.live k tt
          (λ other. kept_on h after (entry_of o k) (f.live k)
          (λ at_places at_serial at_len is at. but.objects at_places at_serial at_len
          (λ same. other (fol.apart number k serial len at_len held.live_is (is ∙ ap (λ x. Some (LiveSmall x at_len)) same))) at) (fol.objects k)));
      counts = ap (λ (x : Counts). counted_free s x (heaps_of mid)) fol.counts ∙ ap (λ (x : Heaps). counted_free s f.counts x) mid_is;
      new_words = fol.new_words;
      heaps = value ∙ ap (λ (x : Counts). after_round_of s x (heaps_of mid)) fol.counts ∙ ap (λ (x : Heaps). after_round_of s f.counts x) mid_is;
      without_serial = but.without_serial ∙ fol.without_serial;
      with_serial = but.with_serial ∙ fol.with_serial;
      apart = apart_without number f.live fol.apart;
      below = λ m other size at. fol.below m other size (at_other number m f.live (LiveSmall other size) at).1;
    } in
    subst (λ found. IsTaken (kept_of s n (counted_free s c (heaps_of mid)) w after) f (freed s f cell found) Made) (sym held.held) follows
  where
    -- what a free keeps, a round after it keeps
    kept_after : (old left new : TwoHeaps) (gone : ℕ) → AreKeptBut old left gone → AreKept left new → AreKeptBut old new gone
    kept_after old left new gone free round = record {
      without_serial = round.without_serial ∙ free.without_serial;
      with_serial = round.with_serial ∙ free.with_serial;
      objects = λ at_places at_serial at_len apart at. round.objects at_places at_serial at_len (free.objects at_places at_serial at_len apart at);
    }

pub small_free : (s : Settings) (o n : Objects) (c : Counts) (w : List ℕ) (h mid after : TwoHeaps) (f : Followed) (cell number : ℕ) (places : Places)
    → Follows (kept_of s o c w h) f → IsTakenOut o n cell number (Small places)
    → ((serial len : ℕ) → IsAt h places serial len → IsFreedFrom h mid serial)
    → heaps_of after ≡ after_round_of s c (heaps_of mid) → AreKept mid after
    → IsTaken (kept_of s n (counted_free s c (heaps_of mid)) w after) f (freed s f cell (object_in f cell)) Made
small_free s o n c w h mid after f cell number places fol out left value stay =
    let found : (live : Live) × (IsHeld f cell number live × IsKept h (Some (Small places)) (Some live)) =
    out_held o n h f cell number (Small places) (agree s o c w h f fol) out in
    small_by s o n c w h mid after f cell number places found.0 fol out found.1.0 found.1.1 left value stay

-- an object is made

-- a new object's cell and number, of the state
pub record IsAdded (o n : Objects) (cell number : ℕ) (object : Object) : Type 0 where
  pub cells : (c : ℕ) → cell_of n c ≡ with_at cell (Some number) (cell_of o) c
  pub live : (k : ℕ) → entry_of n k ≡ with_at number (Some object) (entry_of o) k

number_same : (cell : ℕ) (a b : ℕ) (f : ℕ → Option ℕ) (k : ℕ) → a ≡ b → with_at cell (Some a) f k ≡ with_at cell (Some b) f k
number_same cell a b f k same = ap (λ x. with_at cell (Some x) f k) same

pub large_new : (s : Settings) (o n : Objects) (c : Counts) (w : List ℕ) (h : TwoHeaps) (f : Followed) (cell len : ℕ)
    → Follows (kept_of s o c w h) f → IsAdded o n cell c.made (Large len)
    → IsTaken (kept_of s n (large_new_counted c len) w h) f (made s f cell len None) Made
large_new s o n c w h f cell len fol added =
    let number_is : c.made ≡ f.counts.made = ap (λ (x : Counts). x.made) fol.counts in
    record {
      cells = λ k. added.cells k ∙ at_same cell k (Some c.made) (cell_of o) f.cells (fol.cells k) ∙ number_same cell c.made f.counts.made f.cells k number_is;
      objects = λ k. subst (λ e. IsKept h e (with_at f.counts.made (Some (LiveLarge len)) f.live k))
          (sym (added.live k ∙ ap (λ x. with_at x (Some (Large len)) (entry_of o) k) number_is))
          (kept_at h f.counts.made (Some (Large len)) (Some (LiveLarge len)) (entry_of o) f.live k refl (λ other. fol.objects k));
      counts = ap (λ x. large_new_counted x len) fol.counts;
      new_words = fol.new_words;
      heaps = fol.heaps;
      without_serial = fol.without_serial;
      with_serial = fol.with_serial;
      apart = apart_large f.counts.made len f.live fol.apart;
      below = below_large f.counts.made f.counts.small len f.live fol.below;
    }

-- where one of two heaps has no room, none is made
placed_none : (s : Settings) (f : Followed) (cell len class : ℕ) (a b : Result Placed Refusal) → (is_ok a && is_ok b) ≡ false
    → small_placed s f cell len class a b ≡ HasNoAddresses
placed_none s f cell len class (Ok a) (Ok b) none = absurd (cc none)
placed_none s f cell len class (Ok a) (Err e) none = refl
placed_none s f cell len class (Err e) b none = refl

pub no_room : (s : Settings) (o : Objects) (c : Counts) (w : List ℕ) (h : TwoHeaps) (f : Followed) (cell len class : ℕ)
    → Follows (kept_of s o c w h) f → ((word serial : ℕ) → has_room h len word serial ≡ false)
    → IsTaken (kept_of s o c w h) f (made s f cell len (Some class)) NoAddresses
no_room s o c w h f cell len class fol none =
    let word : ℕ = new_word s.words f.new_words in
    let serial : ℕ = f.counts.small in
    let closed : (is_ok (place_new f.heaps.without len word serial) && is_ok (place_new f.heaps.meshing.table len word serial)) ≡ false =
    subst (λ (x : Heaps). (is_ok (place_new x.without len word serial) && is_ok (place_new x.meshing.table len word serial)) ≡ false) fol.heaps (none word serial)
    in
    subst (λ outcome. IsTaken (kept_of s o c w h) f outcome NoAddresses)
    (sym (placed_none s f cell len class (place_new f.heaps.without len word serial) (place_new f.heaps.meshing.table len word serial) closed)) fol

-- an object is placed in a table of the state as in that of the code
placed_same : (t u : Table) (len word other serial next address : ℕ) (after : Table) → t ≡ u → word ≡ other → serial ≡ next
    → place_new t len word serial ≡ Ok (record { address = address; table = after }) → place_new u len other next ≡ Ok (record { address = address; table = after })
placed_same t u len word other serial next address after tables words serials placed =
    subst (λ (x : Table). place_new x len other next ≡ Ok (record { address = address; table = after })) tables
    (subst (λ x. place_new t len x next ≡ Ok (record { address = address; table = after })) words
    (subst (λ x. place_new t len word x ≡ Ok (record { address = address; table = after })) serials placed))

heaps_same : (m : TwoHeaps) (without table : Table) (x : Meshing) → m.mesher.counts ≡ x.counts → m.mesher.words ≡ x.words → m.mesher.members ≡ x.members
    → record { without = without; meshing = record { table = table; counts = m.mesher.counts; words = m.mesher.words; members = m.mesher.members } }
    ≡ (let after : Heaps = record { without = without; meshing = record x { table = table } } in after)
heaps_same m without table x counts words members = rw (counts, words, members) refl

pub small_new : (s : Settings) (o n : Objects) (c : Counts) (w v : List ℕ) (h m : TwoHeaps) (f : Followed) (cell len class word live : ℕ) (places : Places)
    → Follows (kept_of s o c w h) f → IsMadeIn h m len word places → word ≡ new_word s.words w → v ≡ after_new_word s.words w
    → IsAdded o n cell c.made (Small places) → live ≡ sum_by object_count (table_of m.without).groups
    → IsTaken (kept_of s n (small_new_counted c class live) v m) f (made s f cell len (Some class)) Made
small_new s o n c w v h m f cell len class word live places fol new word_is words added live_is =
    let number_is : c.made ≡ f.counts.made = ap (λ (x : Counts). x.made) fol.counts in
    let drawn : word ≡ new_word s.words f.new_words = word_is ∙ ap (new_word s.words) fol.new_words in
    let without : place_new f.heaps.without len (new_word s.words f.new_words) f.counts.small ≡ Ok (record { address = new.without_address; table = table_of m.without }) =
    placed_same (table_of h.without) f.heaps.without len word (new_word s.words f.new_words) h.without.next_serial f.counts.small new.without_address
    (table_of m.without) (ap (λ (x : Heaps). x.without) fol.heaps) drawn fol.without_serial new.without_placed in
    let with : place_new f.heaps.meshing.table len (new_word s.words f.new_words) f.counts.small
    ≡ Ok (record { address = new.with_address; table = table_of m.mesher.placement }) =
    placed_same (table_of h.mesher.placement) f.heaps.meshing.table len word (new_word s.words f.new_words) h.mesher.placement.next_serial f.counts.small
    new.with_address (table_of m.mesher.placement) (ap (λ (x : Heaps). x.meshing.table) fol.heaps) drawn fol.with_serial new.with_placed in
    let follows : Follows (kept_of s n (small_new_counted c class live) v m) (small_made s f cell len class (table_of m.without) (table_of m.mesher.placement)) = record {
      cells = λ k. added.cells k ∙ at_same cell k (Some c.made) (cell_of o) f.cells (fol.cells k) ∙ number_same cell c.made f.counts.made f.cells k number_is;
      objects = λ k. subst (λ e. IsKept m e (with_at f.counts.made (Some (LiveSmall f.counts.small len)) f.live k))
          (sym (added.live k ∙ ap (λ x. with_at x (Some (Small places)) (entry_of o) k) number_is))
          (kept_at m f.counts.made (Some (Small places)) (Some (LiveSmall f.counts.small len)) (entry_of o) f.live k
          (record {
            without = new.without_recorded ∙ ap (λ x. Some (x, len)) fol.without_serial;
            with = new.with_recorded ∙ ap (λ x. Some (x, len)) fol.with_serial;
          })
          (λ other. kept_on h m (entry_of o k) (f.live k) (λ at_places serial size is at. new.objects at_places serial size at) (fol.objects k)));
      counts = ap (λ x. small_new_counted x class live) fol.counts ∙ ap (small_new_counted f.counts class) live_is;
      new_words = words ∙ ap (after_new_word s.words) fol.new_words;
      heaps = heaps_same m (table_of m.without) (table_of m.mesher.placement) f.heaps.meshing
          (new.counts ∙ ap (λ (x : Heaps). x.meshing.counts) fol.heaps) (new.words ∙ ap (λ (x : Heaps). x.meshing.words) fol.heaps)
          (new.members ∙ ap (λ (x : Heaps). x.meshing.members) fol.heaps);
      without_serial = new.without_serial ∙ ap (λ x. x + 1) fol.without_serial;
      with_serial = new.with_serial ∙ ap (λ x. x + 1) fol.with_serial;
      apart = apart_small f.counts.made f.counts.small len f.live fol.below fol.apart;
      below = below_small f.counts.made f.counts.small len f.live fol.below;
    } in
    subst (λ a. IsTaken (kept_of s n (small_new_counted c class live) v m) f
    (small_placed s f cell len class a (place_new f.heaps.meshing.table len (new_word s.words f.new_words) f.counts.small)) Made) (sym without)
    (subst (λ b. IsTaken (kept_of s n (small_new_counted c class live) v m) f
    (small_placed s f cell len class (Ok (record { address = new.without_address; table = table_of m.without })) b) Made) (sym with) follows)
