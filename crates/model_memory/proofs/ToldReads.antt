-- At most one read is told, and few objects are made.
use Rattle.std.proofs.lemmas.Bool.Decides.{nat_tests}
use Rattle.std.proofs.Common.{◌≡◌, ℕ, suc, ◌+◌, ◌≤◌, List, [], ◌∷◌, length, refl, arith, Result, Ok, Err}
use Rattle.std.proofs.lemmas.List.{length-append, length-set}
use Rattle.model_memory.proofs.FirstPlaces.{told_once}
use Rattle.model_memory.specs.Memory.{Memory, next_serial}
use Rattle.model_memory.specs.Plain.{Entry, holding, named_by}
use Rattle.model_memory.specs.Reads.{Kept, ReadDiffers, left_by, made_by, memory_after, memory_or}
use Rattle.model_words.specs.Words.{◌>>=◌}
use Rattle.model_words.specs.declared.commands.Command.{Command}
use Rattle.model_words.specs.declared.commands.Command.TheVariants.{New, Put, Get, Free, Alias, Addr, Peek, Poke, Copy}
use Rattle.model_words.specs.declared.commands.Reply.TheVariants.{Object as Made, Done}
use Rattle.model_words.specs.declared.refusals.Refusal.{Refusal}
use Rattle.model_words.specs.declared.commands.Reply.{Reply}

-- at most one read is told
pub differ_once : (seats : List (List Kept)) (entries : List Entry) (w i v j : ℕ) → ReadDiffers seats entries w i → ReadDiffers seats entries v j
    → (w ≡ v) × (i ≡ j)
differ_once seats entries = told_once (ReadDiffers seats entries) (λ w i v j at_w at_v above. at_v.wrong (at_w.right_below v above j))
    (λ w i j at_i at_j above. at_j.wrong (at_i.right_before j above))

-- a result leaves as many objects where each value that goes on does
same_many : {X : Type 0} (m : Memory) (r : Result X Refusal) (f : X → Result (Reply × Memory) Refusal)
    → ((x : X) → next_serial (memory_or m (f x)) ≡ next_serial m) → next_serial (memory_or m (r >>= f)) ≡ next_serial m
same_many m (Ok x) f goes = goes x
same_many m (Err refusal) f goes = refl

-- a reply to a `new` tells of one object or none
made_many : (m : Memory) (cell len : ℕ) (reply : Reply) → next_serial (made_by m cell len reply) ≤ suc (next_serial m)
made_many m cell len (Made serial address) = grind (arith, nat_tests, length-append m.objects)
made_many m cell len Done = omega arith
made_many m cell len reply = omega arith

-- an answered command makes at most one object
pub one_made : (m : Memory) (command : Command) (reply : Reply) → next_serial (left_by m command reply) ≤ suc (next_serial m)
one_made m (New cell len word) reply = made_many m cell len reply
one_made m (Put cell off bytes) reply = grind (arith, length-set)
one_made m (Get cell off len) reply = grind arith
one_made m (Free cell) reply = grind (arith, length-set)
one_made m (Alias to from) reply =
    let same : next_serial (left_by m (Alias to from) reply) ≡ next_serial m = same_many m (named_by m from) _ (λ named. refl) in omega (arith, same)
one_made m (Addr cell) reply =
    let same : next_serial (left_by m (Addr cell) reply) ≡ next_serial m = same_many m (named_by m cell) _ (λ named. refl) in omega (arith, same)
one_made m (Peek place) reply =
    let same : next_serial (left_by m (Peek place) reply) ≡ next_serial m = same_many m (holding m place) _ (λ named. refl) in omega (arith, same)
one_made m (Poke place byte) reply = grind (arith, length-set)
one_made m (Copy to to_off from from_off len) reply = grind (arith, length-set)

-- as many commands make at most as many
pub few_made : (entries : List Entry) (m : Memory) → next_serial (memory_after m entries) ≤ next_serial m + length entries
few_made [] m = omega arith
few_made (e ∷ es) m = let one = one_made m e.command e.reply in let rest = few_made es (left_by m e.command e.reply) in omega (arith, one, rest)
