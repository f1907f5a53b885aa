-- One cell: if its calls can be taken in an order, the accesses among them answer as recorded.
use Rattle.std.proofs.Common.{◌≡◌, ℕ, ◌⊎◌, inl, inr, true, false, nat_eq, List, [], ◌∷◌, replicate, ap, refl, sym, subst, ◌∙◌, Option, Some, None}
use Rattle.std.specs.List.{filter}
use Rattle.std.specs.Option.{option_map}
use Rattle.model_memory.specs.Memory.{Object}
use Rattle.model_words.specs.declared.commands.Command.{Command}
use Rattle.model_words.specs.declared.commands.Command.TheVariants.{New, Put, Get, Free, Addr}
use Rattle.model_words.specs.declared.commands.Reply.{Reply}
use Rattle.model_words.specs.declared.commands.Reply.TheVariants.{Object as Made, Done, Refused}
use Rattle.model_intervals.specs.Intervals.{Call}
use Rattle.model_intervals.specs.Objects.{Object as NewObject, accessed, accesses_of, bytes_behind, is_access, object_made}
use Rattle.model_intervals.specs.OverlappingCalls.{cell_at}
use Rattle.model_intervals.proofs.MiddleForm.{made_by, of_cell}
use Rattle.model_intervals.proofs.Lists.{Has, tells}
use Rattle.model_intervals.proofs.CellStates.{Gone, Leads, Live, CellState, Unmade, after}
use Rattle.model_intervals.proofs.StepFacts.{gone_ends}

-- the calls that are accesses
abbrev pub accesses : List Call → List Call
accesses calls = filter (λ call. is_access call.entry.command) calls

-- filtering by cell and then by kind gives `accesses_of`
pub accesses_are : (c : ℕ) (calls : List Call) → accesses (of_cell c calls) ≡ accesses_of c calls
accesses_are c [] = refl
accesses_are c (call ∷ calls) = elim (tells (nat_eq (cell_at call) c)) [
  | inl own ↦ elim (tells (is_access call.entry.command)) [
    | inl access ↦ rw (own, access) (ap (λ (rest : List Call). call ∷ rest) (accesses_are c calls))
    | inr other ↦ rw (own, other) (accesses_are c calls)
  ]
  | inr apart ↦ elim (tells (is_access call.entry.command)) [
    | inl access ↦ rw (apart, access) (accesses_are c calls)
    | inr other ↦ rw (apart, other) (accesses_are c calls)
  ]
]

mapped : {A B : Type 0} (f : A → B) (o : Option A) (y : B) → option_map f o ≡ Some y → (x : A) × (o ≡ Some x) × (f x ≡ y)
mapped f None y h = absurd (cc h)
mapped f (Some x) y h = (x, refl, cc h)

-- a call that is an access: the bytes after it, and the state with these bytes
pub record IsAccess (o : Object) (command : Command) (reply : Reply) (u : CellState) : Type 0 where
  pub access : is_access command ≡ true
  pub bytes : List ℕ
  pub answers : accessed o.address command reply o.bytes ≡ Some bytes
  pub is : Live (record o { bytes = bytes }) ≡ u

-- a call that a live object takes is its `free` or an access
pub live_step : (o : Object) (command : Command) (reply : Reply) (u : CellState) → after (Live o) command reply ≡ Some u
    → ((is_access command ≡ false) × (u ≡ Gone)) ⊎ IsAccess o command reply u
live_step o (Free cell) Done u goes = inl (refl, cc goes)
live_step o (Put cell off bytes) reply u goes =
    let went = mapped (λ (xs : List ℕ). Live (record o { bytes = xs })) (accessed o.address (Put cell off bytes) reply o.bytes) u goes in
    inr (record { access = refl; bytes = went.0; answers = went.1; is = went.2 })
live_step o (Get cell off len) reply u goes =
    let went = mapped (λ (xs : List ℕ). Live (record o { bytes = xs })) (accessed o.address (Get cell off len) reply o.bytes) u goes in
    inr (record { access = refl; bytes = went.0; answers = went.1; is = went.2 })
live_step o (Addr cell) reply u goes =
    let went = mapped (λ (xs : List ℕ). Live (record o { bytes = xs })) (accessed o.address (Addr cell) reply o.bytes) u goes in
    inr (record { access = refl; bytes = went.0; answers = went.1; is = went.2 })
live_step o command reply u goes = absurd (cc goes)

-- a live cell takes no `new`
live_makes_none : (o : Object) (command : Command) (reply : Reply) (u : CellState) (x : NewObject) → after (Live o) command reply ≡ Some u → object_made command reply ≡ Some x → ⊥
live_makes_none o (New cell len word) reply u x goes makes = cc goes
live_makes_none o command reply u x goes makes = cc makes

-- an unmade cell takes only a `new`, which makes an object or is refused
pub record IsNewMade (command : Command) (reply : Reply) (u : CellState) : Type 0 where
  pub object : NewObject
  pub makes : object_made command reply ≡ Some object
  pub is : u ≡ Live (record { address = object.address; bytes = replicate object.len 0 })

pub unmade_step : (command : Command) (reply : Reply) (u : CellState) → after Unmade command reply ≡ Some u
    → (is_access command ≡ false) × (((object_made command reply ≡ None) × (u ≡ Unmade)) ⊎ IsNewMade command reply u)
unmade_step (New cell len word) (Made serial address) u goes =
    (refl, inr (record { object = record { cell = cell; len = len; serial = serial; address = address }; makes = refl; is = cc goes }))
unmade_step (New cell len word) (Refused refusal) u goes = (refl, inl (refl, cc goes))
unmade_step command reply u goes = absurd (cc goes)

-- a freed cell takes no call
gone_stops : (calls : List Call) (t : CellState) → Leads Gone calls t → calls ≡ []
gone_stops [] t leads = refl
gone_stops (call ∷ calls) t leads = absurd (gone_ends call.entry.command call.entry.reply leads.0 leads.1)

-- from a live object on, the accesses answer as recorded
pub live_answers : (o : Object) (calls : List Call) (t : CellState) → Leads (Live o) calls t
    → (last : List ℕ) × (bytes_behind o.address o.bytes (accesses calls) ≡ Some last)
live_answers o [] t leads = (o.bytes, refl)
live_answers o (call ∷ calls) t leads = elim (live_step o call.entry.command call.entry.reply leads.0 leads.1) [
  | inl freed ↦
      let none : calls ≡ [] = gone_stops calls t (subst (λ s. Leads s calls t) freed.1 leads.2) in
      (o.bytes, rw (freed.0, none) refl)
  | inr goes ↦
      let later = live_answers (record o { bytes = goes.bytes }) calls t (subst (λ s. Leads s calls t) (sym goes.is) leads.2) in
      (later.0, rw (goes.access, goes.answers) later.1)
]

-- from a live object on, no call makes an object
live_none_made : (o : Object) (calls : List Call) (t : CellState) (x : NewObject) → Leads (Live o) calls t → Has (λ call. made_by call ≡ Some x) calls → ⊥
live_none_made o [] t x leads has = has
live_none_made o (call ∷ calls) t x leads (inl here) = live_makes_none o call.entry.command call.entry.reply leads.0 x leads.1 here
live_none_made o (call ∷ calls) t x leads (inr later) = elim (live_step o call.entry.command call.entry.reply leads.0 leads.1) [
  | inl freed ↦ let none : calls ≡ [] = gone_stops calls t (subst (λ s. Leads s calls t) freed.1 leads.2) in subst (λ cs. Has (λ c. made_by c ≡ Some x) cs) none later
  | inr goes ↦ live_none_made (record o { bytes = goes.bytes }) calls t x (subst (λ s. Leads s calls t) (sym goes.is) leads.2) later
]

-- from an unmade cell on: if one of the calls makes an object, the accesses answer as recorded, starting with zeros
pub made_answers : (calls : List Call) (t : CellState) (x : NewObject) → Leads Unmade calls t → Has (λ call. made_by call ≡ Some x) calls
    → (last : List ℕ) × (bytes_behind x.address (replicate x.len 0) (accesses calls) ≡ Some last)
made_answers [] t x leads has = absurd has
made_answers (call ∷ calls) t x leads has =
    let step = unmade_step call.entry.command call.entry.reply leads.0 leads.1 in
    let rest : (last : List ℕ) × (bytes_behind x.address (replicate x.len 0) (accesses calls) ≡ Some last) = by_case step.1 has (λ u later. made_answers calls t x u later) in
    rw step.0 rest
  where
    by_case : ((object_made call.entry.command call.entry.reply ≡ None) × (leads.0 ≡ Unmade)) ⊎ IsNewMade call.entry.command call.entry.reply leads.0
        → (made_by call ≡ Some x) ⊎ Has (λ c. made_by c ≡ Some x) calls
        → (Leads Unmade calls t → Has (λ c. made_by c ≡ Some x) calls → (last : List ℕ) × (bytes_behind x.address (replicate x.len 0) (accesses calls) ≡ Some last))
        → (last : List ℕ) × (bytes_behind x.address (replicate x.len 0) (accesses calls) ≡ Some last)
    by_case (inl refused) (inl here) again = absurd (let clash : None ≡ Some x = sym refused.0 ∙ here in cc clash)
    by_case (inl refused) (inr later) again = again (subst (λ s. Leads s calls t) refused.1 leads.2) later
    by_case (inr made) (inl here) again =
        let both : Some made.object ≡ Some x = sym made.makes ∙ here in
        let same : made.object ≡ x = cc both in
        subst (λ (y : NewObject). (last : List ℕ) × (bytes_behind y.address (replicate y.len 0) (accesses calls) ≡ Some last)) same
        (live_answers (record { address = made.object.address; bytes = replicate made.object.len 0 }) calls t (subst (λ s. Leads s calls t) made.is leads.2))
    by_case (inr made) (inr later) again =
        absurd (live_none_made (record { address = made.object.address; bytes = replicate made.object.len 0 }) calls t x (subst (λ s. Leads s calls t) made.is leads.2) later)
