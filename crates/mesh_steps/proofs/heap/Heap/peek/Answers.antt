use Rattle.std.proofs.Common.{◌≡◌, ℕ, List, slice_index, sym, ap, subst, ◌∙◌, arith}
use Rattle.mesh_arena.specs.Pages.{slice_index-run_of}
use Rattle.mesh_store.specs.Places.{byte_of}
use Rattle.mesh_steps.specs.Heap.{Heap, IsHeld, arena_of, map_of}
use Rattle.mesh_steps.proofs.Objects.{live_in_object}
use Rattle.mesh_steps.proofs.Stores.{read_held, read_stray}
use Rattle.mesh_steps.proofs.heap.Heap.peek.Goals as goal

pub returns-in_default-clause-refused : goal.returns-in_default-clause-refused
returns-in_default-clause-refused c = read_stray c.args.self.now c.args.addr c.in_default.ensures.none

pub load-requires-clause-object : goal.load-requires-clause-object
load-requires-clause-object c =
    let held = subst (λ (h : Heap). IsHeld h c.args.addr c.in-Some._held) (sym c.self.view_is) c.in-Some.ensures.there in
    rw (← held.at) (live_in_object _ _ _ _ _ c.self.invariant held.recorded (omega (arith, held.within)))

pub returns-clause-byte : goal.returns-clause-byte
returns-clause-byte c =
    let one = slice_index-run_of (byte_of c.self.inside.pages.arena c.self.inside.pages.map) c.args.addr 1 0 (omega arith) in
    let loaded : slice_index c.load.new.out 0 ≡ byte_of c.self.inside.pages.arena c.self.inside.pages.map c.args.addr
    = ap (λ (xs : List ℕ). slice_index xs 0) c.load.ensures ∙ one
    ∙ ap (λ (x : ℕ). byte_of c.self.inside.pages.arena c.self.inside.pages.map x) (omega arith) in
    read_held c.args.self.now c.args.addr (slice_index c.load.new.out 0) c.in-Some._held c.in-Some.ensures.there
    (subst (λ (h : Heap). slice_index c.load.new.out 0 ≡ byte_of (arena_of h) (map_of h) c.args.addr) c.self.view_is loaded)
