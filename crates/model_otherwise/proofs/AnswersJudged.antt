-- An answer that is a move is one of the reference memory, and a wrong answer is none.
use Rattle.std.proofs.Common.{◌≡◌, ℕ, zero, suc, ◌+◌, ◌<◌, ◌≤◌, Bool, true, false, ◌||◌, if◌then◌else◌, nat_eq, nat_le, nat_lt, List, [], ◌∷◌, length, find, slice_index, slice_index_or, Option, Some, None, Result, Ok, Err, refl, sym, subst, inl, inr, arith}
use Rattle.std.specs.Cmp.Lexicographic.{pointwise, other_text}
use Rattle.std.specs.List.{list_any}
use Rattle.std.proofs.lemmas.Bool.Decides.{nat_tests, leb_tells}
use Rattle.model_words.specs.Classes.{class_for, pages_of}
use Rattle.model_words.specs.Words.{◌>>=◌, refuse_if}
use Rattle.model_words.proofs.Chains.{or_refuse_refused, refuse_if_refused}
use Rattle.model_words.proofs.ClassSizes.{class_none, class_some}
use Rattle.model_words.proofs.Tests.{equal, less, not_less, positive, unequal, tells, both_hold}
use Rattle.model_words.specs.declared.commands.Command.{Command}
use Rattle.model_words.specs.declared.commands.Command.TheVariants.{New, Put, Get, Free, Alias, Addr, Peek, Poke, Copy as CopyBytes}
use Rattle.model_words.specs.declared.commands.Reply.{Reply}
use Rattle.model_words.specs.declared.commands.Reply.TheVariants.{Object as Made, Done, Bytes, At, Byte, Refused}
use Rattle.model_words.specs.declared.refusals.Refusal.{Refusal}
use Rattle.model_words.specs.declared.refusals.Refusal.TheVariants.{NoAddresses, NoPages, TooLarge, Zero}
use Rattle.model_memory.specs.Memory.{Memory, Object, has_address, next_serial}
use Rattle.model_memory.specs.Plain.{Follows, IsNewRefusal, IsVacantRange, MakesObject, PlainStep, made, plain}
use Rattle.model_otherwise.specs.Groups.{Placed, place_in_group, takes}
use Rattle.model_otherwise.specs.Heaps.{Group, Heap}
use Rattle.model_otherwise.specs.PageMap.{access_of}
use Rattle.model_otherwise.specs.Tries.{access_by, by_access, is_hit, made_at, new_by_access, new_placed, others_tried, place_new, told, tried}
use Rattle.model_otherwise.specs.declared.page_map.Access.{Access}
use Rattle.model_otherwise.specs.declared.page_map.Access.TheVariants.{Reached, Blocked, NoPage as Unmapped}
use Rattle.model_otherwise.specs.declared.tried.Tried.TheVariants.{Answered, Wrong}

-- if a test decides between an answer and a wrong answer, and the outcome is an answer, it's this one
one_answered : (b : Bool) (reply r x y : Reply) → (if b then Answered r else Wrong x y) ≡ Answered reply → reply ≡ r
one_answered true reply r x y h = cc h
one_answered false reply r x y h = absurd (cc h)

-- and if it's a wrong answer, the test failed
one_wrong : (b : Bool) (r x y got wanted : Reply) → (if b then Answered r else Wrong x y) ≡ Wrong got wanted → (b ≡ false) × (got ≡ x)
one_wrong true r x y got wanted h = absurd (cc h)
one_wrong false r x y got wanted h = (refl, cc h)

-- an answer told is the reply of the reference memory
pub told_answered : (loaded : List ℕ) (r reply : Reply) → told loaded r ≡ Answered reply → reply ≡ r
told_answered loaded (Bytes wanted) reply h = one_answered (pointwise nat_eq loaded wanted.items) reply _ _ _ h
told_answered loaded (Byte wanted) reply h = one_answered (nat_eq (slice_index loaded 0) wanted) reply _ _ _ h
told_answered loaded (Made serial address) reply h = cc h
told_answered loaded Done reply h = cc h
told_answered loaded (At address) reply h = cc h
told_answered loaded (Refused refusal) reply h = cc h

-- a wrong answer told isn't the reply of the reference memory
pub told_wrong : (loaded : List ℕ) (r got wanted : Reply) → told loaded r ≡ Wrong got wanted → got ≡ r → ⊥
told_wrong loaded (Bytes bytes) got wanted h is =
    let wrong = one_wrong (pointwise nat_eq loaded bytes.items) _ _ _ got wanted h in
    other_text loaded bytes.items (sym wrong.0) (let gotten = wrong.1 in cc)
told_wrong loaded (Byte byte) got wanted h is =
    let wrong = one_wrong (nat_eq (slice_index loaded 0) byte) _ _ _ got wanted h in
    unequal (slice_index loaded 0) byte wrong.0 (let gotten = wrong.1 in cc)
told_wrong loaded (Made serial address) got wanted h is = cc h
told_wrong loaded Done got wanted h is = cc h
told_wrong loaded (At address) got wanted h is = cc h
told_wrong loaded (Refused refusal) got wanted h is = cc h

-- an answer after the accesses is the reference memory's, as is the memory
accessed_answered : (m : Memory) (heap : Heap) (command : Command) (x : Reply × Memory) (access : Access) (reply : Reply)
    → (by_access m heap command x access).tried ≡ Answered reply
    → (reply ≡ x.0) × ((by_access m heap command x access).memory ≡ x.1)
accessed_answered m heap command x Reached reply h = (told_answered _ x.0 reply h, refl)
accessed_answered m heap command x Blocked reply h = absurd (cc h)
accessed_answered m heap command x Unmapped reply h = absurd (cc h)

-- a wrong answer after the accesses isn't the reference memory's
accessed_wrong : (m : Memory) (heap : Heap) (command : Command) (x : Reply × Memory) (access : Access) (got wanted : Reply)
    → (by_access m heap command x access).tried ≡ Wrong got wanted → got ≡ x.0 → ⊥
accessed_wrong m heap command x Reached got wanted h is = told_wrong _ x.0 got wanted h is
accessed_wrong m heap command x Blocked got wanted h is = cc h
accessed_wrong m heap command x Unmapped got wanted h is = cc h

-- an answer to a command that makes no object follows the reference memory
others_answered : (m : Memory) (heap : Heap) (command : Command) (step : Result (Reply × Memory) Refusal) (reply : Reply)
    → (others_tried m heap command step).tried ≡ Answered reply → Follows step m reply (others_tried m heap command step).memory
others_answered m heap command (Err refusal) reply h = (cc h, refl)
others_answered m heap command (Ok x) reply h = accessed_answered m heap command x (access_by m heap command) reply h

-- a wrong answer to a command that makes no object doesn't follow the reference memory
others_wrong : (m n : Memory) (heap : Heap) (command : Command) (step : Result (Reply × Memory) Refusal) (got wanted : Reply)
    → (others_tried m heap command step).tried ≡ Wrong got wanted → Follows step m got n → ⊥
others_wrong m n heap command (Err refusal) got wanted h follows = cc h
others_wrong m n heap command (Ok x) got wanted h follows =
    accessed_wrong m heap command x (access_by m heap command) got wanted h follows.0

-- where a test fails for all objects, it fails for each
none_hit : (address len : ℕ) (objects : List (Option Object)) (serial : ℕ) (object : Object) → list_any (is_hit address len) objects ≡ false
    → slice_index_or objects serial None ≡ Some object → is_hit address len (Some object) ≡ false
none_hit address len [] serial object none live = absurd (cc live)
none_hit address len (x ∷ objects) zero object none live = grind (arith, none, live)
none_hit address len (x ∷ objects) (suc serial) object none live = none_hit address len objects serial object (later (is_hit address len x) _ none) live
  where
    later : (a b : Bool) → (a || b) ≡ false → b ≡ false
    later true b h = absurd (cc h)
    later false b h = h

-- an object that isn't hit has no address of the range
apart_from : (address len x : ℕ) (object : Object) → is_hit address len (Some object) ≡ false → address ≤ x → x < address + len → has_address object x ≡ false
apart_from address len x object none from to = elim (tells (has_address object x)) [
  | inl has ↦ absurd (clash (both_hold (nat_le object.address x) (nat_lt x (object.address + length object.bytes)) has))
  | inr other ↦ other
]
  where
    reaches : nat_lt x (object.address + length object.bytes) ≡ true → nat_lt address (object.address + length object.bytes) ≡ true
    reaches h = grind (arith, nat_tests, less x (object.address + length object.bytes) h)

    begins : nat_le object.address x ≡ true → nat_lt object.address (address + len) ≡ true
    begins h = grind (arith, nat_tests)

    clash : (nat_le object.address x ≡ true) × (nat_lt x (object.address + length object.bytes) ≡ true) → ⊥
    clash both = let hit : true ≡ false = rw (reaches both.1, begins both.0) at none in cc hit

-- where no object is hit, the range is vacant
none_vacant : (m : Memory) (address len : ℕ) → list_any (is_hit address len) m.objects ≡ false → IsVacantRange m address len
none_vacant m address len none serial x object live from to = apart_from address len x object (none_hit address len m.objects serial object none live) from to

-- a new object of a class is refused for want of pages or of addresses
group_refused : (pages : ℕ) (m : Memory) (heap : Heap) (class len word : ℕ) (group : Option Group) (refusal : Refusal) → 1 ≤ len → len ≤ 2048
    → place_in_group pages m heap class word group ≡ Err refusal → IsNewRefusal len refusal
group_refused pages m heap class len word (Some group) refusal some few h = absurd (cc h)
group_refused pages m heap class len word None refusal some few h =
    elim (refuse_if_refused NoPages (nat_lt pages (length heap.taken + pages_of class)) _ refusal h) [
      | inl physical ↦ subst (λ (x : Refusal). IsNewRefusal len x) physical.1 (some, few)
      | inr left ↦ elim (refuse_if_refused NoAddresses (nat_lt 65536 (length heap.entries + pages_of class)) _ refusal left.1) [
        | inl virtual ↦ subst (λ (x : Refusal). IsNewRefusal len x) virtual.1 (some, few)
        | inr placed ↦ let went = placed.1 in absurd (cc went)
      ]
    ]

-- a new object is refused for its length, or for want of pages or of addresses
place_refused : (pages : ℕ) (m : Memory) (heap : Heap) (len word : ℕ) (refusal : Refusal) → place_new pages m heap len word ≡ Err refusal
    → IsNewRefusal len refusal
place_refused pages m heap len word refusal h = elim (refuse_if_refused Zero (nat_eq len 0) _ refusal h) [
  | inl none ↦ subst (λ (x : Refusal). IsNewRefusal len x) none.1 (equal len 0 none.0)
  | inr some ↦ elim (or_refuse_refused TooLarge (class_for len) _ refusal some.1) [
    | inl large ↦ subst (λ (x : Refusal). IsNewRefusal len x) large.1 (class_none len large.0)
    | inr class ↦ group_refused pages m heap class.0 len word (find (takes m class.0) heap.groups) refusal (positive len some.0)
        (class_some len class.0 class.1) class.2
  ]
]

-- an answer to a new object at a vacant range is one that the reference memory may give
made_answered : (m : Memory) (heap : Heap) (cell len word : ℕ) (placed : Placed) (zero large : Bool) (reply : Reply)
    → nat_eq len 0 ≡ zero → nat_lt 2048 len ≡ large → IsVacantRange m placed.address len
    → (made_at m heap len placed (refuse_if Zero zero >>= λ _. refuse_if TooLarge large >>= λ _. Ok (Made (next_serial m) placed.address, made m cell len placed.address))).tried ≡ Answered reply
    → MakesObject m cell len reply (made_at m heap len placed (refuse_if Zero zero >>= λ _. refuse_if TooLarge large >>= λ _. Ok (Made (next_serial m) placed.address, made m cell len placed.address))).memory
made_answered m heap cell len word placed true large reply none over vacant h =
    let is : Refused Zero ≡ reply = cc h in
    subst (λ (x : Reply). MakesObject m cell len x m) is (equal len 0 none, refl)
made_answered m heap cell len word placed false true reply some over vacant h =
    let is : Refused TooLarge ≡ reply = cc h in
    subst (λ (x : Reply). MakesObject m cell len x m) is (less 2048 len over, refl)
made_answered m heap cell len word placed false false reply some few vacant h =
    let is : Made (next_serial m) placed.address ≡ reply = cc h in
    subst (λ (x : Reply). MakesObject m cell len x (made m cell len placed.address)) is (positive len some, within (not_less 2048 len few), refl, vacant, refl)
  where
    within : (2048 < len → ⊥) → len ≤ 2048
    within below = elim (leb_tells len 2048) [ inl small ↦ small.1 | inr past ↦ absurd (below past.1) ]

-- a new object at a place where a live object may be
hit_answered : (m : Memory) (heap : Heap) (cell len word : ℕ) (placed : Placed) (hit : Bool) (reply : Reply)
    → list_any (is_hit placed.address len) m.objects ≡ hit
    → (new_by_access m heap (New cell len word) len placed Reached).tried ≡ Answered reply
    → MakesObject m cell len reply (new_by_access m heap (New cell len word) len placed Reached).memory
hit_answered m heap cell len word placed true reply is h = absurd (let over = rw is at h in cc over)
hit_answered m heap cell len word placed false reply is h = rw is (
    made_answered m heap cell len word placed (nat_eq len 0) (nat_lt 2048 len) reply refl refl (none_vacant m placed.address len is) (rw is at h))

-- an answer to a new object at a place is one that the reference memory may give
placed_answered : (m : Memory) (heap : Heap) (cell len word : ℕ) (placed : Placed) (access : Access) (reply : Reply)
    → (new_by_access m heap (New cell len word) len placed access).tried ≡ Answered reply
    → MakesObject m cell len reply (new_by_access m heap (New cell len word) len placed access).memory
placed_answered m heap cell len word placed Reached reply h = hit_answered m heap cell len word placed (list_any (is_hit placed.address len) m.objects) reply refl h
placed_answered m heap cell len word placed Blocked reply h = absurd (cc h)
placed_answered m heap cell len word placed Unmapped reply h = absurd (cc h)

-- an answer to a new object is one that the reference memory may give
new_answered : (pages : ℕ) (m : Memory) (heap : Heap) (cell len word : ℕ) (place : Result Placed Refusal) (reply : Reply)
    → place_new pages m heap len word ≡ place
    → (new_placed m heap (New cell len word) len place).tried ≡ Answered reply
    → MakesObject m cell len reply (new_placed m heap (New cell len word) len place).memory
new_answered pages m heap cell len word (Err refusal) reply is h =
    let same : Refused refusal ≡ reply = cc h in
    subst (λ (x : Reply). MakesObject m cell len x m) same (place_refused pages m heap len word refusal is, refl)
new_answered pages m heap cell len word (Ok placed) reply is h =
    placed_answered m heap cell len word placed (access_of placed.heap.entries true placed.address len) reply h

-- no answer to a new object at a place is wrong
made_right : (m : Memory) (heap : Heap) (len : ℕ) (placed : Placed) (step : Result (Reply × Memory) Refusal) (got wanted : Reply)
    → (made_at m heap len placed step).tried ≡ Wrong got wanted → ⊥
made_right m heap len placed (Err refusal) got wanted h = cc h
made_right m heap len placed (Ok x) got wanted h = cc h

-- no answer to a new object whose place is reached is wrong
hit_right : (m : Memory) (heap : Heap) (command : Command) (len : ℕ) (placed : Placed) (hit : Bool) (got wanted : Reply)
    → list_any (is_hit placed.address len) m.objects ≡ hit → (new_by_access m heap command len placed Reached).tried ≡ Wrong got wanted → ⊥
hit_right m heap command len placed true got wanted is h = let over = rw is at h in cc over
hit_right m heap command len placed false got wanted is h = made_right m heap len placed (plain m placed.address command) got wanted (rw is at h)

-- no answer to a new object with a place is wrong
placed_right : (m : Memory) (heap : Heap) (command : Command) (len : ℕ) (placed : Placed) (access : Access) (got wanted : Reply)
    → (new_by_access m heap command len placed access).tried ≡ Wrong got wanted → ⊥
placed_right m heap command len placed Reached got wanted h = hit_right m heap command len placed (list_any (is_hit placed.address len) m.objects) got wanted refl h
placed_right m heap command len placed Blocked got wanted h = cc h
placed_right m heap command len placed Unmapped got wanted h = cc h

-- no answer to a new object is wrong
new_right : (m : Memory) (heap : Heap) (command : Command) (len : ℕ) (place : Result Placed Refusal) (got wanted : Reply)
    → (new_placed m heap command len place).tried ≡ Wrong got wanted → ⊥
new_right m heap command len (Err refusal) got wanted h = cc h
new_right m heap command len (Ok placed) got wanted h =
    placed_right m heap command len placed (access_of placed.heap.entries true placed.address len) got wanted h

-- an answer that is a move is one that the reference memory may give
pub answered_plain : (pages : ℕ) (m : Memory) (heap : Heap) (command : Command) (reply : Reply)
    → (tried pages m heap command).tried ≡ Answered reply → PlainStep m command reply (tried pages m heap command).memory
answered_plain pages m heap (New cell len word) reply h = new_answered pages m heap cell len word (place_new pages m heap len word) reply refl h
answered_plain pages m heap (Put cell off bytes) reply h = others_answered m heap (Put cell off bytes) (plain m 0 (Put cell off bytes)) reply h
answered_plain pages m heap (Get cell off len) reply h = others_answered m heap (Get cell off len) (plain m 0 (Get cell off len)) reply h
answered_plain pages m heap (Free cell) reply h = others_answered m heap (Free cell) (plain m 0 (Free cell)) reply h
answered_plain pages m heap (Alias to from) reply h = others_answered m heap (Alias to from) (plain m 0 (Alias to from)) reply h
answered_plain pages m heap (Addr cell) reply h = others_answered m heap (Addr cell) (plain m 0 (Addr cell)) reply h
answered_plain pages m heap (Peek place) reply h = others_answered m heap (Peek place) (plain m 0 (Peek place)) reply h
answered_plain pages m heap (Poke place byte) reply h = others_answered m heap (Poke place byte) (plain m 0 (Poke place byte)) reply h
answered_plain pages m heap (CopyBytes to to_off from from_off len) reply h =
    others_answered m heap (CopyBytes to to_off from from_off len) (plain m 0 (CopyBytes to to_off from from_off len)) reply h

-- a wrong answer is none that the reference memory may give
pub wrong_apart : (pages : ℕ) (m n : Memory) (heap : Heap) (command : Command) (got wanted : Reply)
    → (tried pages m heap command).tried ≡ Wrong got wanted → PlainStep m command got n → ⊥
wrong_apart pages m n heap (New cell len word) got wanted h step = new_right m heap (New cell len word) len (place_new pages m heap len word) got wanted h
wrong_apart pages m n heap (Put cell off bytes) got wanted h step = others_wrong m n heap (Put cell off bytes) (plain m 0 (Put cell off bytes)) got wanted h step
wrong_apart pages m n heap (Get cell off len) got wanted h step = others_wrong m n heap (Get cell off len) (plain m 0 (Get cell off len)) got wanted h step
wrong_apart pages m n heap (Free cell) got wanted h step = others_wrong m n heap (Free cell) (plain m 0 (Free cell)) got wanted h step
wrong_apart pages m n heap (Alias to from) got wanted h step = others_wrong m n heap (Alias to from) (plain m 0 (Alias to from)) got wanted h step
wrong_apart pages m n heap (Addr cell) got wanted h step = others_wrong m n heap (Addr cell) (plain m 0 (Addr cell)) got wanted h step
wrong_apart pages m n heap (Peek place) got wanted h step = others_wrong m n heap (Peek place) (plain m 0 (Peek place)) got wanted h step
wrong_apart pages m n heap (Poke place byte) got wanted h step = others_wrong m n heap (Poke place byte) (plain m 0 (Poke place byte)) got wanted h step
wrong_apart pages m n heap (CopyBytes to to_off from from_off len) got wanted h step =
    others_wrong m n heap (CopyBytes to to_off from from_off len) (plain m 0 (CopyBytes to to_off from from_off len)) got wanted h step
