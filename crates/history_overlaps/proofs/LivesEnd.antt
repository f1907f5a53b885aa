-- Calls end: what is known of the objects.
use Rattle.std.proofs.Common.{◌≡◌, ◌≢◌, ℕ, ◌≤◌, ◌⊎◌, inl, inr, List, refl, sym, subst, ◌∙◌, Option, Some, None}
use Rattle.std.proofs.lemmas.Bool.Decides.{eqb_tells}
use Rattle.model_words.specs.declared.commands.Command.{Command}
use Rattle.model_words.specs.declared.commands.Command.TheVariants.{New}
use Rattle.model_words.specs.declared.commands.Reply.{Reply}
use Rattle.model_words.specs.declared.commands.Reply.TheVariants.{Object as Made}
use Rattle.model_intervals.specs.Intervals.{Call}
use Rattle.model_intervals.specs.Objects.{Object as NewObject, IsFairNew, IsFreedBy, IsMadeAt, Meet, object_made}
use Rattle.model_intervals.specs.OverlappingCalls.{IsAt, IsNew, cell_at, cell_of}
use Rattle.history_overlaps.specs.Lives.{Lives, IsMade, NoneFrees}
use Rattle.history_overlaps.proofs.CallPlaces.{at_same}

-- what makes an object is a `new` of its cell
maker_is_new : (command : Command) (reply : Reply) (x : NewObject) → object_made command reply ≡ Some x → IsNew command × (x.cell ≡ cell_of command)
maker_is_new (New cell len word) (Made serial address) x is =
    let same : record { cell = cell; len = len; serial = serial; address = address } ≡ x = cc is in
    (tt, subst (λ (y : NewObject). y.cell ≡ cell) same refl)
maker_is_new command reply x is = absurd (cc is)

-- whatever is no `new` is fair
pub fair_unless_new : (command : Command) (reply : Reply) → (IsNew command → ⊥) → IsFairNew command reply
fair_unless_new (New cell len word) reply other = absurd (other tt)
fair_unless_new command reply other = tt

-- an object's cell is that of the `new` that made it
pub made_at_cell : (calls : List Call) (i : ℕ) (a : Call) (x : NewObject) → IsMadeAt calls i a x → cell_at a ≡ x.cell
made_at_cell calls i a x h = sym (maker_is_new a.entry.command a.entry.reply x h.1).1

pub made_by_new : (calls : List Call) (i : ℕ) (a : Call) (x : NewObject) → IsMadeAt calls i a x → IsNew a.entry.command
made_by_new calls i a x h = (maker_is_new a.entry.command a.entry.reply x h.1).0

pub is_made_later : (calls : List Call) (ended ended' : ℕ → Type 0) (x : NewObject) → ((i : ℕ) → ended i → ended' i) → IsMade calls ended x → IsMade calls ended' x
is_made_later calls ended ended' x keep m = record { place = m.place; call = m.call; over = keep m.place m.over; there = m.there }

-- the call at a place ends
module _ (calls : List Call) (ended ended' : ℕ → Type 0) (p : ℕ) (a : Call) (there : IsAt calls p a)
    (split : (i : ℕ) → ended' i → ended i ⊎ (i ≡ p)) (keep : (i : ℕ) → ended i → ended' i) (now : ended' p) where
  -- the one that ends, or one that had ended
  which : (i : ℕ) (b : Call) → ended' i → IsAt calls i b → ended i ⊎ ((i ≡ p) × (a ≡ b))
  which i b over is = elim (split i over) [
    | inl old ↦ inl old
    | inr same ↦ inr (same, at_same calls p a b there (subst (λ (q : ℕ). IsAt calls q b) same is))
  ]

  -- it is no `new`
  module _ (other : IsNew a.entry.command → ⊥) where
    old_new : (i : ℕ) (b : Call) → ended' i → IsAt calls i b → IsNew b.entry.command → ended i
    old_new i b over is is_new = elim (which i b over is) [
      | inl old ↦ old
      | inr this ↦ absurd (other (subst (λ (q : Call). IsNew q.entry.command) (sym this.1) is_new))
    ]

    old_made : (i : ℕ) (b : Call) (x : NewObject) → ended' i → IsMadeAt calls i b x → ended i
    old_made i b x over is = old_new i b over is.0 (made_by_new calls i b x is)

    pub another_ends : (live : ℕ → Option NewObject) (serials : ℕ → Type 0) → Lives calls ended live serials → Lives calls ended' live serials
    another_ends live serials h = record {
      fair = λ i b over is. elim (which i b over is) [
        | inl old ↦ h.fair i b old is
        | inr this ↦ subst (λ (q : Call). IsFairNew q.entry.command q.entry.reply) this.1 (fair_unless_new a.entry.command a.entry.reply other)
      ];
      has_serial = λ i b x over is. h.has_serial i b x (old_made i b x over is) is;
      of_serial = λ s has. let m = h.of_serial s has in (m.0, is_made_later calls ended ended' m.0 keep m.1, m.2);
      serials_once = λ i j b d x y apart over_i over_j at_i at_j.
          h.serials_once i j b d x y apart (old_made i b x over_i at_i) (old_made j d y over_j at_j) at_i at_j;
      apart = λ i j b d x y apart over_i over_j at_i at_j meet.
          h.apart i j b d x y apart (old_made i b x over_i at_i) (old_made j d y over_j at_j) at_i at_j meet;
      live_is = λ c x is. let l = h.live_is c x is in (l.0, l.1, is_made_later calls ended ended' x keep l.2);
      made_is = λ i b x over is. h.made_is i b x (old_made i b x over is) is;
    }

  -- it is a `new` of a cell that no ended `new` has
  module _ (is_new : IsNew a.entry.command) (fair : IsFairNew a.entry.command a.entry.reply)
      (live live' : ℕ → Option NewObject) (serials serials' : ℕ → Type 0) (h : Lives calls ended live serials)
      (own : (j : ℕ) (d : Call) → ended j → IsAt calls j d → IsNew d.entry.command → cell_at d ≢ cell_at a) where
    fair' : (i : ℕ) (b : Call) → ended' i → IsAt calls i b → IsFairNew b.entry.command b.entry.reply
    fair' i b over is = elim (which i b over is) [
      | inl old ↦ h.fair i b old is
      | inr this ↦ subst (λ (q : Call). IsFairNew q.entry.command q.entry.reply) this.1 fair
    ]

    -- it was refused
    pub refused_ends : object_made a.entry.command a.entry.reply ≡ None → Lives calls ended' live serials
    refused_ends refused = record {
      fair = fair';
      has_serial = λ i b x over is. h.has_serial i b x (old_made i b x over is) is;
      of_serial = λ s has. let m = h.of_serial s has in (m.0, is_made_later calls ended ended' m.0 keep m.1, m.2);
      serials_once = λ i j b d x y apart over_i over_j at_i at_j.
          h.serials_once i j b d x y apart (old_made i b x over_i at_i) (old_made j d y over_j at_j) at_i at_j;
      apart = λ i j b d x y apart over_i over_j at_i at_j meet.
          h.apart i j b d x y apart (old_made i b x over_i at_i) (old_made j d y over_j at_j) at_i at_j meet;
      live_is = λ c x is. let l = h.live_is c x is in (l.0, l.1, is_made_later calls ended ended' x keep l.2);
      made_is = λ i b x over is. h.made_is i b x (old_made i b x over is) is;
    }
      where
        old_made : (i : ℕ) (b : Call) (x : NewObject) → ended' i → IsMadeAt calls i b x → ended i
        old_made i b x over is = elim (which i b over is.0) [
          | inl old ↦ old
          | inr this ↦ absurd (let made = subst (λ (q : Call). object_made q.entry.command q.entry.reply ≡ None) this.1 refused in let m = is.1 in cc (made, m))
        ]

    -- it made an object in a range of its own
    module _ (y : NewObject) (makes : object_made a.entry.command a.entry.reply ≡ Some y)
        (fresh : serials y.serial → ⊥) (has_serial' : serials' y.serial) (keeps_serials : (s : ℕ) → serials s → serials' s)
        (of_serials : (s : ℕ) → serials' s → serials s ⊎ (s ≡ y.serial))
        (lives_now : live' y.cell ≡ Some y) (others_live : (c : ℕ) → c ≢ y.cell → live' c ≡ live c)
        (unfreed : NoneFrees calls y.cell) (clear : (c : ℕ) (x : NewObject) → live c ≡ Some x → (Meet x y → ⊥))
        (frees_begun : (k : ℕ) (f : Call) → IsAt calls k f → f.begin ≤ a.end) where
      -- the object that ends, or one that had ended
      which_made : (i : ℕ) (b : Call) (x : NewObject) → ended' i → IsMadeAt calls i b x → ended i ⊎ ((i ≡ p) × (a ≡ b) × (x ≡ y))
      which_made i b x over is = elim (which i b over is.0) [
        | inl old ↦ inl old
        | inr this ↦ inr (this.0, this.1, let same = subst (λ (q : Call). object_made q.entry.command q.entry.reply ≡ Some y) this.1 makes in let m = is.1 in cc (same, m))
      ]

      -- an object that met it was freed by its end
      freed_before : (j : ℕ) (d : Call) (x : NewObject) → ended j → IsMadeAt calls j d x → Meet x y → IsFreedBy calls x.cell a.end
      freed_before j d x over is meet = elim (h.made_is j d x over is) [
        | inl alive ↦ absurd (clear x.cell x alive meet)
        | inr freed ↦ record {
          place = freed.place;
          free = freed.free;
          there = freed.there;
          frees = freed.frees;
          names = freed.names;
          begun = frees_begun freed.place freed.free freed.there;
        }
      ]

      -- an old object's cell is another
      cell_apart : (j : ℕ) (d : Call) (x : NewObject) → ended j → IsMadeAt calls j d x → x.cell ≢ y.cell
      cell_apart j d x over is same = own j d over is.0 (made_by_new calls j d x is)
          (made_at_cell calls j d x is ∙ same ∙ sym (made_at_cell calls p a y (there, makes)))

      pub made_ends : Lives calls ended' live' serials'
      made_ends = record {
        fair = fair';
        has_serial = λ i b x over is. elim (which_made i b x over is) [
          | inl old ↦ keeps_serials x.serial (h.has_serial i b x old is)
          | inr this ↦ subst (λ (z : NewObject). serials' z.serial) (sym this.2) has_serial'
        ];
        of_serial = λ s has. elim (of_serials s has) [
          | inl old ↦ let m = h.of_serial s old in (m.0, is_made_later calls ended ended' m.0 keep m.1, m.2)
          | inr same ↦ (y, record { place = p; call = a; over = now; there = (there, makes) }, sym same)
        ];
        serials_once = λ i j b d x z apart over_i over_j at_i at_j same. elim (which_made i b x over_i at_i) [
          | inl old_i ↦ elim (which_made j d z over_j at_j) [
            | inl old_j ↦ h.serials_once i j b d x z apart old_i old_j at_i at_j same
            | inr this_j ↦ fresh (subst (λ (s : ℕ). serials s) (same ∙ sym (subst (λ (w : NewObject). y.serial ≡ w.serial) (sym this_j.2) refl)) (h.has_serial i b x old_i at_i))
          ]
          | inr this_i ↦ elim (which_made j d z over_j at_j) [
            | inl old_j ↦ fresh (subst (λ (s : ℕ). serials s) (sym same ∙ sym (subst (λ (w : NewObject). y.serial ≡ w.serial) (sym this_i.2) refl)) (h.has_serial j d z old_j at_j))
            | inr this_j ↦ apart (this_i.0 ∙ sym this_j.0)
          ]
        ];
        apart = λ i j b d x z apart over_i over_j at_i at_j meet. elim (which_made i b x over_i at_i) [
          | inl old_i ↦ elim (which_made j d z over_j at_j) [
            | inl old_j ↦ h.apart i j b d x z apart old_i old_j at_i at_j meet
            | inr this_j ↦ inl (subst (λ (q : Call). IsFreedBy calls x.cell q.end) this_j.1
                (freed_before i b x old_i at_i (subst (λ (w : NewObject). Meet x w) this_j.2 meet)))
          ]
          | inr this_i ↦ elim (which_made j d z over_j at_j) [
            | inl old_j ↦ inr (subst (λ (q : Call). IsFreedBy calls z.cell q.end) this_i.1
                (freed_before j d z old_j at_j (let turned = subst (λ (w : NewObject). Meet w z) this_i.2 meet in (turned.1, turned.0))))
            | inr this_j ↦ absurd (apart (this_i.0 ∙ sym this_j.0))
          ]
        ];
        live_is = λ c x is. elim (eqb_tells c y.cell) [
          | inl same ↦ let this : x ≡ y = (let e = same.1 in let g = subst (λ (q : ℕ). live' q ≡ Some y) (sym e) lives_now in cc (is, g)) in (
            subst (λ (z : NewObject). z.cell ≡ c) (sym this) (sym same.1),
            subst (λ (q : ℕ). NoneFrees calls q) (sym same.1) unfreed,
            subst (λ (z : NewObject). IsMade calls ended' z) (sym this) (record { place = p; call = a; over = now; there = (there, makes) }),
          )
          | inr apart ↦ let l = h.live_is c x (sym (others_live c apart.1) ∙ is) in (l.0, l.1, is_made_later calls ended ended' x keep l.2)
        ];
        made_is = λ i b x over is. elim (which_made i b x over is) [
          | inl old ↦ elim (h.made_is i b x old is) [
            | inl alive ↦ inl (others_live x.cell (cell_apart i b x old is) ∙ alive)
            | inr freed ↦ inr freed
          ]
          | inr this ↦ inl (subst (λ (z : NewObject). live' z.cell ≡ Some z) (sym this.2) lives_now)
        ];
      }
