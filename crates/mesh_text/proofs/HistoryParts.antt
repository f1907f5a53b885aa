-- The parts of a history's text.
use Rattle.std.proofs.Common.{◌≡◌, ℕ, ◌+◌, ◌<◌, true, false, nat_eq, List, [], ◌∷◌, ◌++◌, Vec, Global, length, map, set, get_or, refl, sym, ap, ◌∙◌, append-nil, append_assoc, length-set, inl, inr, arith}
use Rattle.std.specs.List.{flat_map, range_with_len}
use Rattle.std.specs.Vec.{vec_items}
use Rattle.std.proofs.lemmas.Bool.Decides.{eqb_tells}
use Rattle.std.proofs.lemmas.Grind.{get_or-set_at}
use Rattle.std.proofs.lemmas.List.{get_or-map, get_or-set_other, length-map, map-append, map-set}
use Rattle.std.proofs.lemmas.List.Concat.{flat_map-append}
use Rattle.std.proofs.lemmas.List.Folds.{flat_map-map}
use Rattle.std.proofs.lemmas.List.FromFn.{fill_by_all, get_or-map-range_with_len, length-map-range_with_len, map-range_with_len_more}
use Rattle.model_memory.specs.Plain.{Entry}
use Rattle.model_memory.specs.Seats.{Call, calls_of}
use Rattle.model_jobs.specs.Texts.{ended}
use Rattle.model_memory.proofs.WovenCalls.{calls_append}
use Rattle.mesh_text.specs.Histories.{call_line, count_line, history_text, told_text, worker_line, worker_text}

-- one more part is begun
pub begun_more : (n : ℕ) (parts : List (Vec ℕ Global)) (part : Vec ℕ Global) → map vec_items parts ≡ map worker_line (range_with_len 0 n)
    → part.items ≡ worker_line n → map vec_items (parts ++ part ∷ []) ≡ map worker_line (range_with_len 0 (n + 1))
begun_more n parts part so_far is = grind (arith, map-append vec_items parts (part ∷ []), map-range_with_len_more worker_line 0 n n (omega arith))

-- the parts where there is no entry
pub parts_none : (workers : List ℕ) → map worker_line workers ≡ map (worker_text []) workers
parts_none [] = refl
parts_none (w ∷ ws) =
    ap (λ (text : List ℕ). text ∷ map worker_line ws) (sym (append-nil (worker_line w))) ∙ ap (λ (texts : List (List ℕ)). worker_text [] w ∷ texts) (parts_none ws)

-- a worker's part after one more entry of its own
part_own : (history : List Entry) (entry : Entry) (w : ℕ) → nat_eq entry.worker w ≡ true
    → worker_text (history ++ entry ∷ []) w ≡ worker_text history w ++ ended (told_text entry.reply)
part_own history entry w own =
    let call : Call = record { command = entry.command; reply = entry.reply } in
    let last : calls_of w (entry ∷ []) ≡ call ∷ [] = rw own refl in
    ap (λ (calls : List Call). worker_line w ++ flat_map call_line calls) (calls_append w history (entry ∷ []) ∙ ap (λ (calls : List Call). calls_of w history ++ calls) last)
    ∙ ap (λ (text : List ℕ). worker_line w ++ text) (flat_map-append call_line (calls_of w history) (call ∷ []))
    ∙ ap (λ (text : List ℕ). worker_line w ++ (flat_map call_line (calls_of w history) ++ text)) (append-nil (call_line call))
    ∙ sym (append_assoc (worker_line w) (flat_map call_line (calls_of w history)) (call_line call))

-- and after one of another worker
part_other : (history : List Entry) (entry : Entry) (w : ℕ) → nat_eq entry.worker w ≡ false → worker_text (history ++ entry ∷ []) w ≡ worker_text history w
part_other history entry w other =
    ap (λ (calls : List Call). worker_line w ++ flat_map call_line calls)
    (calls_append w history (entry ∷ []) ∙ ap (λ (calls : List Call). calls_of w history ++ calls) (rw other refl) ∙ append-nil (calls_of w history))

-- there are as many parts as workers
pub as_many : (f : ℕ → List ℕ) (n : ℕ) (parts : List (Vec ℕ Global)) → map vec_items parts ≡ map f (range_with_len 0 n) → length parts ≡ n
as_many f n parts is = sym (length-map parts vec_items) ∙ ap (λ (texts : List (List ℕ)). length texts) is ∙ length-map-range_with_len f 0 n

-- one more entry's line is added to its worker's part
pub parts_more : (history : List Entry) (entry : Entry) (n : ℕ) (parts : List (Vec ℕ Global)) (old new : Vec ℕ Global) → entry.worker < n
    → map vec_items parts ≡ map (worker_text history) (range_with_len 0 n) → old ≡ get_or parts entry.worker old → new.items ≡ old.items ++ ended (told_text entry.reply)
    → map vec_items (set parts entry.worker new) ≡ map (worker_text (history ++ entry ∷ [])) (range_with_len 0 n)
parts_more history entry n parts old new below so_far found added =
    map-set vec_items parts entry.worker new
    ∙ fill_by_all (worker_text (history ++ entry ∷ [])) (set (map vec_items parts) entry.worker new.items) n [] (length-set (map vec_items parts) entry.worker new.items ∙ many)
    (λ k inside. elim (eqb_tells entry.worker k) [
      | inl own ↦ get_or-set_at (map vec_items parts) entry.worker k new.items [] (sym own.1) (omega (arith, many, below))
          ∙ added ∙ ap (λ (text : List ℕ). text ++ ended (told_text entry.reply)) was
          ∙ sym (part_own history entry entry.worker (self own.0 own.1)) ∙ ap (λ (w : ℕ). worker_text (history ++ entry ∷ []) w) own.1
      | inr other ↦ get_or-set_other (map vec_items parts) entry.worker k new.items [] (λ (same : k ≡ entry.worker). other.1 (sym same))
          ∙ at k inside ∙ sym (part_other history entry k other.0)
    ])
  where
    many : length (map vec_items parts) ≡ n
    many = ap (λ (texts : List (List ℕ)). length texts) so_far ∙ length-map-range_with_len (worker_text history) 0 n

    at : (k : ℕ) → k < n → get_or (map vec_items parts) k [] ≡ worker_text history k
    at k inside = ap (λ (texts : List (List ℕ)). get_or texts k []) so_far ∙ get_or-map-range_with_len (worker_text history) 0 n k k [] inside (omega arith)

    was : old.items ≡ worker_text history entry.worker
    was = ap (λ (v : Vec ℕ Global). v.items) found ∙ sym (get_or-map vec_items parts entry.worker old [] (let few = length-map parts vec_items in omega (arith, many, below, few))) ∙ at entry.worker below

    self : {k : ℕ} → nat_eq entry.worker k ≡ true → entry.worker ≡ k → nat_eq entry.worker entry.worker ≡ true
    self {k} is same = ap (λ (w : ℕ). nat_eq entry.worker w) same ∙ is

-- the parts one behind another
pub parts_joined : (f : ℕ → List ℕ) (ws : List ℕ) (parts : List (Vec ℕ Global)) → map vec_items parts ≡ map f ws → flat_map vec_items parts ≡ flat_map f ws
parts_joined f ws parts is =
    sym (flat_map-map (λ (text : List ℕ). text) vec_items parts) ∙ ap (λ (texts : List (List ℕ)). flat_map (λ (text : List ℕ). text) texts) is
    ∙ flat_map-map (λ (text : List ℕ). text) f ws

-- the parts and the last line are the text
pub whole_text : (workers : ℕ) (history : List Entry) (parts : List (Vec ℕ Global)) (text : List ℕ)
    → map vec_items parts ≡ map (worker_text history) (range_with_len 0 workers) → text ≡ flat_map vec_items parts ++ count_line (length history)
    → text ≡ history_text workers history
unfolding history_text
whole_text workers history parts text is joined = joined ∙ ap (λ (front : List ℕ). front ++ count_line (length history)) (parts_joined _ _ _ is)
