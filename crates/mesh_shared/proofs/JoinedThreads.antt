-- What joined threads gave back, by the promises of their handles.
use Rattle.std.proofs.Common.{◌≡◌, ℕ, zero, suc, ◌<◌, List, [], ◌∷◌, ◌++◌, ◌+◌, Option, None, Some, Result, Ok, Err, IfOk, OnOk, length, map, slice_index_or, ap, subst, refl, sym, ◌∙◌, arith}
use Rattle.std.specs.Option.{option_or}
use Rattle.std.proofs.lemmas.List.{length-map}
use Rattle.std.specs.declared.thread.PromisedHandle.{PromisedHandle}
use Rattle.model_memory.specs.Reads.{Kept, kept_by}
use Rattle.model_words.specs.declared.commands.Command.{Command}
use Rattle.mesh_shared.specs.Joined.{AreAtWork, AreMeshing, HaveMeshed, HaveServed, stops_of}
use Rattle.mesh_shared.specs.MesherRuns.{AreMeshed, HasMeshed}
use Rattle.mesh_shared.specs.Runs.{AreServed, HasBlocked, HasEnded, HasWorked, IsBeginning, commands_in, script_of}
use Rattle.mesh_lock.specs.Seat.{Seat, calls_of_seats}
use Rattle.mesh_shared.specs.Stops.{first_stop}
use Rattle.mesh_shared.specs.declared.mesher.Meshed.{Meshed}
use Rattle.mesh_shared.specs.declared.mesher.MesherEnd.{MesherEnd}
use Rattle.mesh_shared.specs.declared.mesher.Meshes.{Meshes}
use Rattle.mesh_shared.specs.declared.plan.MeshPlan.{MeshPlan}
use Rattle.mesh_shared.specs.declared.stops.EarlyExit.{EarlyExit}
use Rattle.mesh_shared.specs.declared.worker.Served.{Served}
use Rattle.mesh_shared.specs.declared.worker.Worked.{Worked}
use Rattle.mesh_shared.specs.declared.worker.Works.{Works}
use Rattle.mesh_shared.proofs.WorkerRuns.{each_and_one_more, seat_there}
use Rattle.mesh_shared.proofs.SeveralStops.{none_stopped, nothing_ahead, nothing_behind, nothing_first}
use Rattle.mesh_lock.proofs.BuiltHistories.{index_any}

-- where nothing is told of all threads, nothing stopped a mesher or a worker
pub none_of_all : (refused : Option EarlyExit) (ends : List MesherEnd) (served : List Served) → first_stop (stops_of refused ends served) ≡ None
    → (refused ≡ None) × (first_stop (map (λ one. one.stop) ends) ≡ None) × (first_stop (map (λ one. one.stop) served) ≡ None)
none_of_all refused ends served none =
    let of_ends : List (Option EarlyExit) = map (λ (one : MesherEnd). one.stop) ends in
    let of_served : List (Option EarlyExit) = map (λ (one : Served). one.stop) served in
    let both = nothing_first refused (of_ends ++ of_served) none in
    (both.0, nothing_ahead of_ends of_served both.1, nothing_behind of_ends of_served both.1)

-- what each handle's thread gave back keeps the promise of the handle that stands in its place
all_kept : {T P : Type 0} (Keeps : P → T → Type 0) (handles : List (PromisedHandle T P)) (given : List T)
    → ((w : ℕ) (d : T) → w < length handles → (h : PromisedHandle T P) × (h ≡ slice_index_or handles w h) × Keeps h.promise (slice_index_or given w d))
    → (w : ℕ) (h : PromisedHandle T P) (d : T) → w < length handles → Keeps (slice_index_or handles w h).promise (slice_index_or given w d)
all_kept {T} {P} Keeps handles given promised w h d below =
    let one = promised w d below in
    subst (λ (k : PromisedHandle T P). Keeps k.promise (slice_index_or given w d)) (one.1 ∙ index_any handles w one.0 h below) one.2

-- where each worker kept the promise of its handle
pub have_served : (handles : List (PromisedHandle Served Works)) (served : List Served) → length served ≡ length handles
    → ((w : ℕ) (d : Served) → w < length handles → (h : PromisedHandle Served Works) × (h ≡ slice_index_or handles w h)
    × HasWorked h.promise.tries h.promise.script.now (slice_index_or served w d).seat.calls (slice_index_or served w d).worked (slice_index_or served w d).stop)
    → HaveServed handles served
have_served handles served many worked = record {
  many = many;
  kept = all_kept (λ p one. HasWorked p.tries p.script.now one.seat.calls one.worked one.stop) handles served worked;
}

-- where each mesher kept the promise of its handle
pub have_meshed : (handles : List (PromisedHandle MesherEnd Meshes)) (ends : List MesherEnd) → length ends ≡ length handles
    → ((q : ℕ) (d : MesherEnd) → q < length handles → (h : PromisedHandle MesherEnd Meshes) × (h ≡ slice_index_or handles q h)
    × HasMeshed h.promise.rounds h.promise.number h.promise.most (slice_index_or ends q d).meshed (slice_index_or ends q d).stop)
    → HaveMeshed handles ends
have_meshed handles ends many meshed = record {
  many = many;
  kept = all_kept (λ p one. HasMeshed p.rounds p.number p.most one.meshed one.stop) handles ends meshed;
}

-- an element of a list at a place that there is
there : {A : Type 0} (xs : List A) (k : ℕ) → k < length xs → A
there [] k below = absurd (omega (arith, below))
there (x ∷ xs) zero below = x
there (x ∷ xs) (suc k) below = there xs k (omega (arith, below))

-- where neither of two things is told, neither was
pub none_of_both : {A : Type 0} (a b : Option A) → option_or a b ≡ None → (a ≡ None) × (b ≡ None)
none_of_both None b none = (refl, none)
none_of_both (Some x) b none = absurd (cc none)

-- what the thread of a script that is at work gave back
worked_at : (tries : Option ℕ) (scripts : List (List Command)) (handles : List (PromisedHandle Served Works)) (served : List Served)
    → HaveServed handles served → AreAtWork tries scripts handles → first_stop (map (λ one. one.stop) served) ≡ None → (w : ℕ) → w < length scripts
    → (one : Served) × (kept_by (calls_of_seats (map (λ one. one.seat) served)) w ≡ one.seat.calls)
    × ((d : Worked) → slice_index_or (map (λ one. one.worked) served) w d ≡ one.worked)
    × HasWorked tries (script_of scripts w) one.seat.calls one.worked None
worked_at tries scripts handles served have work none w below =
    let within : w < length handles = omega (arith, work.many, below) in
    let given : w < length served = omega (arith, have.many, within) in
    let found = seat_there served w given in
    let one : Served = found.0 in
    let h : PromisedHandle Served Works = there handles w within in
    let its = work.each w h within in
    let ended : one.stop ≡ None = ap (λ (x : Served). x.stop) (sym found.1) ∙ none_stopped (λ (x : Served). x.stop) served w one none given in
    let did : HasWorked (slice_index_or handles w h).promise.tries (slice_index_or handles w h).promise.script.now one.seat.calls one.worked one.stop
    = subst (λ (x : Served). HasWorked (slice_index_or handles w h).promise.tries (slice_index_or handles w h).promise.script.now x.seat.calls x.worked x.stop)
    found.1 (have.kept w h one within) in
    let of_tries : HasWorked tries (slice_index_or handles w h).promise.script.now one.seat.calls one.worked one.stop
    = subst (λ (t : Option ℕ). HasWorked t (slice_index_or handles w h).promise.script.now one.seat.calls one.worked one.stop) its.0 did in
    let of_script : HasWorked tries (script_of scripts w) one.seat.calls one.worked one.stop
    = subst (λ (l : List Command). HasWorked tries l one.seat.calls one.worked one.stop) its.1 of_tries in
    (one, found.2, found.3, subst (λ (x : Option EarlyExit). HasWorked tries (script_of scripts w) one.seat.calls one.worked x) ended of_script)

-- where all scripts are at work and nothing stopped a worker, all are served
pub all_served : (tries : Option ℕ) (scripts : List (List Command)) (handles : List (PromisedHandle Served Works)) (served : List Served) (seats : List Seat)
    (workers : List Worked) → HaveServed handles served → AreAtWork tries scripts handles → first_stop (map (λ one. one.stop) served) ≡ None
    → seats ≡ map (λ one. one.seat) served → workers ≡ map (λ one. one.worked) served → AreServed tries scripts seats workers
all_served tries scripts handles served seats workers have work none are_seats are_workers = record {
  many = ap (λ (l : List Seat). length l) are_seats ∙ length-map served (λ (one : Served). one.seat) ∙ have.many ∙ work.many;
  begun = λ w below.
      let its = worked_at tries scripts handles served have work none w below in
      subst (λ (l : List Kept). IsBeginning (commands_in l) (script_of scripts w)) (sym (kept w its.0 its.1)) its.3.begun;
  whole = λ no_end w below.
      let its = worked_at tries scripts handles served have work none w below in
      ap (λ (l : List Kept). commands_in l) (kept w its.0 its.1) ∙ its.3.whole no_end refl;
  all_told = ap (λ (l : List Worked). length l) are_workers ∙ length-map served (λ (one : Served). one.worked) ∙ have.many ∙ work.many;
  ended = λ w d below.
      let its = worked_at tries scripts handles served have work none w below in
      let one : Served = its.0 in
      let told : slice_index_or workers w d ≡ one.worked = ap (λ (l : List Worked). slice_index_or l w d) are_workers ∙ its.2 d in
      subst (λ (l : List Kept). HasEnded tries (script_of scripts w) (commands_in l) (slice_index_or workers w d).tried) (sym (kept w one its.1))
      (subst (λ (x : Worked). HasEnded tries (script_of scripts w) (commands_in one.seat.calls) x.tried) (sym told) (its.3.ended refl));
  blocked = λ w d below.
      let its = worked_at tries scripts handles served have work none w below in
      let one : Served = its.0 in
      let told : slice_index_or workers w d ≡ one.worked = ap (λ (l : List Worked). slice_index_or l w d) are_workers ∙ its.2 d in
      subst (λ (x : Worked). HasBlocked (script_of scripts w) x) (sym told) its.3.blocked;
}
  where
    kept : (w : ℕ) (one : Served) → kept_by (calls_of_seats (map (λ one. one.seat) served)) w ≡ one.seat.calls → kept_by (calls_of_seats seats) w ≡ one.seat.calls
    kept w one is = ap (λ (l : List Seat). kept_by (calls_of_seats l) w) are_seats ∙ is

-- what a mesher's thread gave back
end_there : (ends : List MesherEnd) (q : ℕ) → q < length ends
    → (one : MesherEnd) × (slice_index_or ends q one ≡ one) × ((d : Meshed) → slice_index_or (map (λ one. one.meshed) ends) q d ≡ one.meshed)
end_there [] q below = absurd (omega (arith, below))
end_there (one ∷ rest) zero below = (one, refl, λ d. refl)
end_there (one ∷ rest) (suc q) below = end_there rest q (omega (arith, below))

-- where all meshers mesh and nothing stopped one, each tells what it did
pub all_meshed : (plan : MeshPlan) (most : Option ℕ) (handles : List (PromisedHandle MesherEnd Meshes)) (ends : List MesherEnd) (told : List Meshed)
    → HaveMeshed handles ends → AreMeshing plan most handles → first_stop (map (λ one. one.stop) ends) ≡ None → told ≡ map (λ one. one.meshed) ends
    → AreMeshed plan most told
all_meshed plan most handles ends told have meshing none are = record {
  many = ap (λ (l : List Meshed). length l) are ∙ length-map ends (λ (one : MesherEnd). one.meshed) ∙ have.many ∙ meshing.many;
  each = λ q d below.
      let within : q < length handles = omega (arith, meshing.many, below) in
      let given : q < length ends = omega (arith, have.many, within) in
      let found = end_there ends q given in
      let one : MesherEnd = found.0 in
      let h : PromisedHandle MesherEnd Meshes = there handles q within in
      let ended : one.stop ≡ None = ap (λ (x : MesherEnd). x.stop) (sym found.1) ∙ none_stopped (λ (x : MesherEnd). x.stop) ends q one none given in
      let p : Meshes = (slice_index_or handles q h).promise in
      let did : HasMeshed p.rounds p.number p.most one.meshed one.stop
      = subst (λ (x : MesherEnd). HasMeshed p.rounds p.number p.most x.meshed x.stop) found.1 (have.kept q h one within) in
      let of_plan : HasMeshed plan.rounds q most one.meshed one.stop
      = subst (λ (m : Meshes). HasMeshed m.rounds m.number m.most one.meshed one.stop) (meshing.each q h within) did in
      let unstopped : HasMeshed plan.rounds q most one.meshed None = subst (λ (x : Option EarlyExit). HasMeshed plan.rounds q most one.meshed x) ended of_plan in
      let same : slice_index_or told q d ≡ one.meshed = ap (λ (l : List Meshed). slice_index_or l q d) are ∙ found.2 d in
      subst (λ (x : Meshed). HasMeshed plan.rounds q most x None) (sym same) unstopped;
}

-- one more mesher was started, under the next number
pub one_mesher_more : (rounds : ℕ) (most : Option ℕ) (number : ℕ) (handles more : List (PromisedHandle MesherEnd Meshes)) (handle : PromisedHandle MesherEnd Meshes)
    → length handles ≡ number → more ≡ handles ++ handle ∷ [] → handle.promise ≡ record { rounds = rounds; number = number; most = most }
    → ((q : ℕ) (h : PromisedHandle MesherEnd Meshes) → q < number → (slice_index_or handles q h).promise ≡ record { rounds = rounds; number = q; most = most })
    → (q : ℕ) (h : PromisedHandle MesherEnd Meshes) → q < number + 1 → (slice_index_or more q h).promise ≡ record { rounds = rounds; number = q; most = most }
one_mesher_more rounds most number handles more handle many is promise before q h below =
    let P : ℕ → PromisedHandle MesherEnd Meshes → Type 0 = λ i k. k.promise ≡ record { rounds = rounds; number = i; most = most } in
    let last : P (length handles) handle = subst (λ (i : ℕ). P i handle) (sym many) promise in
    subst (λ (l : List (PromisedHandle MesherEnd Meshes)). P q (slice_index_or l q h)) (sym is)
    (each_and_one_more P handles handle (λ i d b. before i d (omega (arith, b, many))) last q h (omega (arith, below, many)))

-- what holds of an answer where several facts of it do
pub if_ok_three : {A E : Type 0} (X : Type 0) (P Q R : A → Type 0) (r : Result A E) → ((a : A) → X → P a → Q a → R a) → OnOk r X → IfOk r P → IfOk r Q → IfOk r R
if_ok_three X P Q R (Ok a) f x p q = f a x p q
if_ok_three X P Q R (Err e) f x p q = q

pub if_ok_both : {A E : Type 0} (X : Type 0) (P Q : A → Type 0) (r : Result A E) → ((a : A) → X → P a → Q a) → OnOk r X → IfOk r P → IfOk r Q
if_ok_both X P Q (Ok a) f x h = f a x h
if_ok_both X P Q (Err e) f x h = h
