-- If each object by itself is explained, a cell's calls can be taken in this order: its `new`, its accesses in the
-- order that explains them, its `free`.
use Rattle.std.proofs.Common.{◌≡◌, ℕ, ◌⊎◌, true, false, ◌&&◌, nat_eq, List, [], ◌∷◌, ◌++◌, replicate, arith, refl, sym, subst, ap, ◌∙◌, inl, inr, Option, Some, None}
use Rattle.std.specs.List.Sorted.{IsPermutation}
use Rattle.std.specs.Option.{option_and_then, option_map}
use Rattle.std.proofs.lemmas.Bool.{and_parts, eqb-true, false_from_ne_true}
use Rattle.std.proofs.lemmas.List.Sorted.{IsPermutation-refl, IsPermutation-sym}
use Rattle.model_memory.specs.Memory.{Object}
use Rattle.model_words.specs.declared.commands.Command.{Command}
use Rattle.model_words.specs.declared.commands.Command.TheVariants.{New, Put, Get, Free, Addr}
use Rattle.model_words.specs.declared.commands.Reply.{Reply}
use Rattle.model_words.specs.declared.commands.Reply.TheVariants.{Object as Made, Done, Refused}
use Rattle.model_intervals.specs.Intervals.{Call, RespectsTime}
use Rattle.model_intervals.specs.Objects.{Object as NewObject, ExplainsAccesses, IsExplainedByObject, IsMadeAt, accessed, accesses_of, bytes_behind, effect_on, is_access, object_made}
use Rattle.model_intervals.specs.OverlappingCalls.{HasEffect, IsHistory, MakesOne, cell_at, cell_of}
use Rattle.model_intervals.proofs.AfterStep.{frees_own}
use Rattle.model_intervals.proofs.MiddleForm.{frees, is_free}
use Rattle.model_intervals.proofs.Filtered.{every_filter, filter_every, filter_none}
use Rattle.model_intervals.proofs.Lists.{Every, Has, Pairs, every_both, every_weaker}
use Rattle.model_intervals.proofs.Places.{every_from}
use Rattle.model_intervals.proofs.CellParts.{access_no_new, free_no_new, frees_of, is_new, news_of}
use Rattle.model_intervals.proofs.Permuted.{every_permuted}
use Rattle.model_intervals.proofs.CellStates.{Gone, Leads, Live, CellState, Unmade, after}
use Rattle.model_intervals.proofs.CellTimes.{IsAccessOf, IsFreeOf, IsNewOf, IsOneOf, all_one_of, no_maker, one_free, one_new}

-- two runs of one cell, one after the other
pub leads_append : (s t u : CellState) (xs ys : List Call) → Leads s xs t → Leads t ys u → Leads s (xs ++ ys) u
leads_append s t u [] ys h k = subst (λ v. Leads v ys u) h k
leads_append s t u (x ∷ xs) ys h k = (h.0, h.1, leads_append h.0 t u xs ys h.2 k)

-- a live cell takes an access that answers as recorded
access_leads : (o : Object) (command : Command) (reply : Reply) (bytes : List ℕ) → is_access command ≡ true → accessed o.address command reply o.bytes ≡ Some bytes
    → after (Live o) command reply ≡ Some (Live (record o { bytes = bytes }))
access_leads o (Put cell off new) reply bytes access h = ap (option_map (λ (xs : List ℕ). Live (record o { bytes = xs }))) h
access_leads o (Get cell off len) reply bytes access h = ap (option_map (λ (xs : List ℕ). Live (record o { bytes = xs }))) h
access_leads o (Addr cell) reply bytes access h = ap (option_map (λ (xs : List ℕ). Live (record o { bytes = xs }))) h
access_leads o command reply bytes access h = absurd (cc access)

next_went : {A B : Type 0} (f : A → Option B) (o : Option A) (y : B) → option_and_then f o ≡ Some y → (x : A) × (o ≡ Some x) × (f x ≡ Some y)
next_went f None y h = absurd (cc h)
next_went f (Some x) y h = (x, refl, h)

-- a live cell takes a list of such accesses
accesses_lead : (o : Object) (order : List Call) (last : List ℕ) → Every (λ call. is_access call.entry.command ≡ true) order
    → bytes_behind o.address o.bytes order ≡ Some last → Leads (Live o) order (Live (record o { bytes = last }))
accesses_lead o [] last all h =
    let same : o.bytes ≡ last = cc h in ap (λ (xs : List ℕ). Live (record o { bytes = xs })) (sym same)
accesses_lead o (call ∷ order) last all h =
    let went = next_went (λ next. bytes_behind o.address next order) (effect_on o.address o.bytes call) last h in
    (Live (record o { bytes = went.0 }), access_leads o call.entry.command call.entry.reply went.0 all.0 went.1, accesses_lead (record o { bytes = went.0 }) order last all.1 went.2)

-- a live cell takes a `free`
free_leads : (o : Object) (command : Command) (reply : Reply) → is_free command ≡ true → HasEffect command reply → after (Live o) command reply ≡ Some Gone
free_leads o (Free cell) Done free effect = refl
free_leads o (Free cell) reply free effect = absurd effect
free_leads o command reply free effect = absurd (cc free)

frees_lead : (o : Object) (free : List Call) → Every (λ call. (is_free call.entry.command ≡ true) × HasEffect call.entry.command call.entry.reply) free → Pairs (λ a b. ⊥) free
    → (t : CellState) × Leads (Live o) free t
frees_lead o [] all one = (Live o, refl)
frees_lead o (call ∷ []) all one = (Gone, (Gone, free_leads o call.entry.command call.entry.reply all.0.0 all.0.1, refl))
frees_lead o (call ∷ other ∷ free) all one = absurd one.0.0

-- a `new` makes an object or is refused
new_kind : (command : Command) (reply : Reply) → is_new command ≡ true → HasEffect command reply
    → ((object : NewObject) × (object_made command reply ≡ Some object) × (object.cell ≡ cell_of command)
    × (after Unmade command reply ≡ Some (Live (record { address = object.address; bytes = replicate object.len 0 }))))
    ⊎ ((MakesOne command reply → ⊥) × (after Unmade command reply ≡ Some Unmade))
new_kind (New cell len word) (Made serial address) new effect = inl (record { cell = cell; len = len; serial = serial; address = address }, refl, refl, refl)
new_kind (New cell len word) (Refused refusal) new effect = inr (λ h. h, refl)
new_kind (New cell len word) reply new effect = absurd effect
new_kind command reply new effect = absurd (cc new)

-- a cell's calls can be taken in this order: its `new`, its accesses in the given order, its `free`
abbrev pub CanBeTaken : List Call → ℕ → List Call → Type 0
CanBeTaken calls c order = (t : CellState) × Leads Unmade (news_of c calls ++ (order ++ frees_of c calls)) t

-- an order of a cell's accesses in which its calls can be taken
pub record OwnOrder (calls : List Call) (c : ℕ) : Type 0 where
  pub order : List Call
  pub same : IsPermutation order (accesses_of c calls)
  pub in_time : RespectsTime order
  pub taken : CanBeTaken calls c order

-- a cell's `new` made an object. The cell's calls can be taken in each order that explains its accesses
pub record HasObject (calls : List Call) (c : ℕ) : Type 0 where
  pub place : ℕ
  pub new : Call
  pub object : NewObject
  pub made : IsMadeAt calls place new object
  pub cell : object.cell ≡ c
  pub taken : (order : List Call) → ExplainsAccesses calls c object.len object.address order → CanBeTaken calls c order

-- a cell has no object, no accesses and no `free`
abbrev pub HasNothing : List Call → ℕ → Type 0
HasNothing calls c = (accesses_of c calls ≡ []) × CanBeTaken calls c []

module _ (calls : List Call) (history : IsHistory calls) (c : ℕ) where
  -- a cell that has no object has no accesses and no `free`
  nothing_else : (Has (λ call. MakesOne call.entry.command call.entry.reply) (news_of c calls) → ⊥) → (accesses_of c calls ≡ []) × (frees_of c calls ≡ [])
  nothing_else none = (
    filter_none (λ x. is_access x.entry.command && nat_eq (cell_at x) c) calls (every_weaker (IsOneOf calls history)
        (λ x. (is_access x.entry.command && nat_eq (cell_at x) c) ≡ false) calls (λ x one. false_from_ne_true _ (λ is.
        let both = and_parts (is_access x.entry.command) (nat_eq (cell_at x) c) is in
        no_maker calls history c none x one (access_no_new x.entry.command both.0) (eqb-true (cell_at x) c both.1))) (all_one_of calls history)),
    filter_none (frees c) calls (every_weaker (IsOneOf calls history) (λ x. frees c x ≡ false) calls (λ x one. false_from_ne_true _ (λ is.
        let own = frees_own c x is in no_maker calls history c none x one (free_no_new x.entry.command own.0) own.1)) (all_one_of calls history)),
  )

  no_object : (t : CellState) → (Has (λ call. MakesOne call.entry.command call.entry.reply) (news_of c calls) → ⊥) → Leads Unmade (news_of c calls) t → HasNothing calls c
  no_object t none leads = (
    (nothing_else none).0,
    (t, subst (λ xs. Leads Unmade (news_of c calls ++ xs) t) (sym (nothing_else none).1) (leads_append Unmade t t (news_of c calls) [] leads refl)),
  )

  -- each call of `frees_of` is a `free` that was done
  all_free : Every (λ call. (is_free call.entry.command ≡ true) × HasEffect call.entry.command call.entry.reply) (frees_of c calls)
  all_free = every_both (IsFreeOf c) (λ call. HasEffect call.entry.command call.entry.reply)
      (λ call. (is_free call.entry.command ≡ true) × HasEffect call.entry.command call.entry.reply) (frees_of c calls) (λ call is effect. ((frees_own c call is).0, effect))
      (filter_every (frees c) calls)
      (every_filter (λ call. HasEffect call.entry.command call.entry.reply) (frees c) calls (every_from (λ call. HasEffect call.entry.command call.entry.reply) calls history.have_effects))

  made_taken : (new : Call) → news_of c calls ≡ new ∷ [] → (x : NewObject)
      → after Unmade new.entry.command new.entry.reply ≡ Some (Live (record { address = x.address; bytes = replicate x.len 0 }))
      → (order : List Call) → ExplainsAccesses calls c x.len x.address order → CanBeTaken calls c order
  made_taken new news x goes order explains =
      let accesses = every_permuted (λ (call : Call). is_access call.entry.command ≡ true) (accesses_of c calls) order
      (IsPermutation-sym order (accesses_of c calls) explains.same)
      (every_weaker (IsAccessOf c) (λ (call : Call). is_access call.entry.command ≡ true) (accesses_of c calls)
      (λ call is. (and_parts (is_access call.entry.command) (nat_eq (cell_at call) c) is).0)
      (filter_every (λ call. is_access call.entry.command && nat_eq (cell_at call) c) calls)) in
      let object : Object = record { address = x.address; bytes = replicate x.len 0 } in
      let last : Object = record { address = x.address; bytes = explains.last } in
      let middle : Leads (Live object) order (Live last) = accesses_lead object order explains.last accesses explains.answers in
      let freed = frees_lead last (frees_of c calls) all_free (one_free calls history c) in
      let first : Leads Unmade (new ∷ []) (Live object) = (Live object, goes, refl) in
      let behind = leads_append (Live object) (Live last) freed.0 order (frees_of c calls) middle freed.1 in (
        freed.0,
        subst (λ ns. Leads Unmade (ns ++ (order ++ frees_of c calls)) freed.0) (sym news)
            (leads_append Unmade (Live object) freed.0 (new ∷ []) (order ++ frees_of c calls) first behind),
      )

  -- by cases: no `new`, a `new` that made an object, or a refused one
  by_new : (news : List Call) → news_of c calls ≡ news → Pairs (λ a b. ⊥) news
      → Every (λ call. IsNewOf c call × HasEffect call.entry.command call.entry.reply × IsOneOf calls history call) news → HasObject calls c ⊎ HasNothing calls c
  by_new [] is one all = inr (no_object Unmade (λ has. subst (λ xs. Has (λ call. MakesOne call.entry.command call.entry.reply) xs) is has)
      (subst (λ xs. Leads Unmade xs Unmade) (sym is) refl))
  by_new (new ∷ []) is one all =
      let test = and_parts (is_new new.entry.command) (nat_eq (cell_at new) c) all.0.0 in
      elim (new_kind new.entry.command new.entry.reply test.0 all.0.1) [
        | inl made ↦ inl (record {
          place = all.0.2.0;
          new = new;
          object = made.0;
          made = (all.0.2.1, made.1);
          cell = made.2 ∙ eqb-true (cell_at new) c test.1;
          taken = made_taken new is made.0 made.3;
        })
        | inr refused ↦ inr (no_object Unmade (λ has. only_refused refused.0 (subst (λ xs. Has (λ call. MakesOne call.entry.command call.entry.reply) xs) is has))
            (subst (λ xs. Leads Unmade xs Unmade) (sym is) (Unmade, refused.1, refl)))
      ]
    where
      only_refused : (MakesOne new.entry.command new.entry.reply → ⊥) → Has (λ call. MakesOne call.entry.command call.entry.reply) (new ∷ []) → ⊥
      only_refused none (inl here) = none here
      only_refused none (inr later) = later
  by_new (new ∷ other ∷ news) is one all = absurd one.0.0

  pub look_object : HasObject calls c ⊎ HasNothing calls c
  look_object = by_new (news_of c calls) refl (one_new calls history c) all
    where
      all : Every (λ call. IsNewOf c call × HasEffect call.entry.command call.entry.reply × IsOneOf calls history call) (news_of c calls)
      all = every_both (IsNewOf c) (λ call. HasEffect call.entry.command call.entry.reply × IsOneOf calls history call)
          (λ call. IsNewOf c call × HasEffect call.entry.command call.entry.reply × IsOneOf calls history call) (news_of c calls) (λ call is both. (is, both.0, both.1))
          (filter_every (λ call. is_new call.entry.command && nat_eq (cell_at call) c) calls)
          (every_filter (λ call. HasEffect call.entry.command call.entry.reply × IsOneOf calls history call) (λ call. is_new call.entry.command && nat_eq (cell_at call) c) calls
          (every_both (λ call. HasEffect call.entry.command call.entry.reply) (IsOneOf calls history) (λ call. HasEffect call.entry.command call.entry.reply × IsOneOf calls history call) calls
          (λ call effect one. (effect, one)) (every_from (λ call. HasEffect call.entry.command call.entry.reply) calls history.have_effects) (all_one_of calls history)))

  pub own_order : IsExplainedByObject calls → OwnOrder calls c
  own_order explained = elim look_object [
    | inl has ↦
        let found = explained.each has.place has.new has.object has.made in
        let explains = subst (λ d. ExplainsAccesses calls d has.object.len has.object.address found.0) has.cell found.1 in
        record { order = found.0; same = explains.same; in_time = explains.in_time; taken = has.taken found.0 explains }
    | inr none ↦ record {
      order = [];
      same = subst (λ xs. IsPermutation [] xs) (sym none.0) (IsPermutation-refl []);
      in_time = λ i j d below within. absurd (omega (arith, within));
      taken = none.1;
    }
  ]
