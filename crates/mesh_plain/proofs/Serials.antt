-- How many serials there are after a command.
use Rattle.std.proofs.Common.{◌≡◌, ℕ, ◌+◌, ◌≤◌, Bool, true, false, ◌||◌, nat_eq, nat_lt, length, arith, Option, None, Result, Ok, Err, refl, subst, sym}
use Rattle.std.proofs.Math.ListN.{length-set, length-append}
use Rattle.model_memory.specs.Memory.{Memory, Object, next_serial, with_object}
use Rattle.model_memory.specs.Plain.{Follows, both_named, ends_outside, holding, made, named_by, plain}
use Rattle.model_memory.specs.Reads.{left_by, made_by, memory_or}
use Rattle.model_words.specs.Words.{◌>>=◌, refuse_if}
use Rattle.model_words.specs.declared.commands.Command.{Command}
use Rattle.model_words.specs.declared.commands.Command.TheVariants.{New, Put, Get, Free, Alias, Addr, Peek, Poke, Copy as CopyBytes}
use Rattle.model_words.specs.declared.commands.Reply.{Reply}
use Rattle.model_words.specs.declared.commands.Reply.TheVariants.{Object as Made, Done, Bytes, At, Byte, Refused}
use Rattle.model_words.specs.declared.refusals.Refusal.{Refusal}
use Rattle.model_words.specs.declared.refusals.Refusal.TheVariants.{Outside, TooLarge, Zero}

-- a refusal leaves as many, so a chain does where its end does
chained : {A : Type 0} (m : Memory) (r : Result A Refusal) (next : A → Result (Reply × Memory) Refusal)
    → ((x : A) → next_serial (memory_or m (next x)) ≡ next_serial m) → next_serial (memory_or m (r >>= next)) ≡ next_serial m
chained m (Err e) next h = refl
chained m (Ok x) next h = h x

replaced : (m : Memory) (serial : ℕ) (o : Option Object) → next_serial (with_object m serial o) ≡ next_serial m
replaced m serial o = simp length-set refl

made_more : (m : Memory) (cell len : ℕ) (r : Reply) → next_serial (made_by m cell len r) ≤ next_serial m + 1
made_more m cell len (Made serial address) = simp length-append (omega arith)
made_more m cell len Done = omega arith
made_more m cell len (Bytes bytes) = omega arith
made_more m cell len (At address) = omega arith
made_more m cell len (Byte byte) = omega arith
made_more m cell len (Refused refusal) = omega arith

same_more : (a b : ℕ) → a ≡ b → a ≤ b + 1
same_more a b h = omega (arith, h)

-- a command makes at most one object
pub left_more : (m : Memory) (command : Command) (r : Reply) → next_serial (left_by m command r) ≤ next_serial m + 1
left_more m (New cell len word) r = made_more m cell len r
left_more m (Put cell off bytes) r =
    same_more _ _ (chained m (named_by m cell) _ (λ named. chained m (refuse_if Outside (ends_outside named.object off (length bytes.items))) _ (λ _. replaced m named.serial _)))
left_more m (Get cell off len) r =
    same_more _ _ (chained m (named_by m cell) _ (λ named. chained m (refuse_if Outside (ends_outside named.object off len)) _ (λ _. refl)))
left_more m (Free cell) r = same_more _ _ (chained m (named_by m cell) _ (λ named. replaced m named.serial None))
left_more m (Alias to from) r = same_more _ _ (chained m (named_by m from) _ (λ named. refl))
left_more m (Addr cell) r = same_more _ _ (chained m (named_by m cell) _ (λ named. refl))
left_more m (Peek place) r = same_more _ _ (chained m (holding m place) _ (λ named. refl))
left_more m (Poke place byte) r = same_more _ _ (chained m (holding m place) _ (λ named. replaced m named.serial _))
left_more m (CopyBytes to to_off from from_off len) r = same_more _ _ (chained m (both_named m to from) _ (λ pair. chained m (refuse_if Outside (ends_outside pair.0.object to_off len || ends_outside pair.1.object from_off len)) _ (λ _. replaced m pair.0.serial _)))

-- what follows a step is what it leaves
follows_is : (step : Result (Reply × Memory) Refusal) (m n : Memory) (reply : Reply) → Follows step m reply n → n ≡ memory_or m step
follows_is (Ok x) m n reply f = f.1
follows_is (Err refusal) m n reply f = f.1

new_more : (zero large : Bool) (m : Memory) (cell len address : ℕ)
    → next_serial (memory_or m (refuse_if Zero zero >>= λ _. refuse_if TooLarge large >>= λ _. Ok (Made (next_serial m) address, made m cell len address)))
    ≤ next_serial m + 1
new_more true large m cell len address = omega arith
new_more false true m cell len address = omega arith
new_more false false m cell len address = simp length-append (omega arith)

-- an answered command makes at most one object, wherever it is put
pub answered_more : (m n : Memory) (address : ℕ) (command : Command) (reply : Reply) → Follows (plain m address command) m reply n
    → next_serial n ≤ next_serial m + 1
answered_more m n address (New cell len word) reply f =
    subst (λ k. next_serial k ≤ next_serial m + 1) (sym (follows_is _ _ _ _ f)) (new_more _ _ _ _ _ _)
answered_more m n address (Put cell off bytes) reply f = subst (λ k. next_serial k ≤ next_serial m + 1) (sym (follows_is _ _ _ _ f)) (left_more m (Put cell off bytes) reply)
answered_more m n address (Get cell off len) reply f = subst (λ k. next_serial k ≤ next_serial m + 1) (sym (follows_is _ _ _ _ f)) (left_more m (Get cell off len) reply)
answered_more m n address (Free cell) reply f = subst (λ k. next_serial k ≤ next_serial m + 1) (sym (follows_is _ _ _ _ f)) (left_more m (Free cell) reply)
answered_more m n address (Alias to from) reply f = subst (λ k. next_serial k ≤ next_serial m + 1) (sym (follows_is _ _ _ _ f)) (left_more m (Alias to from) reply)
answered_more m n address (Addr cell) reply f = subst (λ k. next_serial k ≤ next_serial m + 1) (sym (follows_is _ _ _ _ f)) (left_more m (Addr cell) reply)
answered_more m n address (Peek place) reply f = subst (λ k. next_serial k ≤ next_serial m + 1) (sym (follows_is _ _ _ _ f)) (left_more m (Peek place) reply)
answered_more m n address (Poke place byte) reply f = subst (λ k. next_serial k ≤ next_serial m + 1) (sym (follows_is _ _ _ _ f)) (left_more m (Poke place byte) reply)
answered_more m n address (CopyBytes to to_off from from_off len) reply f =
    subst (λ k. next_serial k ≤ next_serial m + 1) (sym (follows_is _ _ _ _ f)) (left_more m (CopyBytes to to_off from from_off len) reply)
