use Rattle.mesh_steps.proofs.MadeObjects.{IsFound, IsPut, fault_heap, fault_is, handed_on, new_heap, new_is, placed_sound}
use Rattle.mesh_steps.specs.Heap.{Heap, IsNotMade}
use Rattle.mesh_steps.proofs.heap.Heap.new.Goals as goal
use Rattle.mesh_steps.proofs.heap.Heap.new.Goals.{After-self-1}

-- the heap before the object was made
abbrev before : After-self-1 → Heap
before c = record { pages = c.self.inside.pages; next_serial = c.self.inside.next_serial }

-- the slot that was found
at : (c : After-self-1) → IsFound (before c) c.place.new.self c.in_ok-class.class c.args.len c.args.word c.in_ok-span.span c.in_ok-span.slot
at c = record { heap = c.self.invariant; class_is = c.in_ok-class.ensures.least; some = c.in_ok-class.ensures.some; place = c.in_ok-span.ensures.ok }

-- what was put into it
put : (c : After-self-1) → IsPut c.place.new.self c.put-addr.new.self c.in_ok-span.span c.in_ok-span.slot c.self.inside.next_serial c.args.len c.put-addr.result
put c =
    let is = c.put-addr.ensures in
    record { table = is.table; address = is.address; map = is.map; saves = is.saves; others = is.others }

pub invariant_of-self : goal.invariant_of-self
invariant_of-self c =
    fault_heap _ _ _ _ c.self.invariant c.in_err-span.ensures.err

pub returns-in_err-span-clause-fault : goal.returns-in_err-span-clause-fault
returns-in_err-span-clause-fault c =
    let heap : Heap = record { pages = c.self.inside.pages; next_serial = c.self.inside.next_serial } in
    let new : Heap = record { pages = c.place.new.self; next_serial = c.self.inside.next_serial } in
    rw (← c.self.view_is) (handed_on c.from_residual-in_err-span.result c.in_err-span.field-0.0 (IsNotMade heap new c.args.len c.args.word)
    c.from_residual-in_err-span.ensures.1 (fault_is _ _ _ _ _ _ c.in_ok-class.ensures.least c.in_ok-class.ensures.some c.in_err-span.ensures.err))

pub put-addr-requires-clause-sound : goal.put-addr-requires-clause-sound
put-addr-requires-clause-sound c =
    placed_sound _ _ _ _ _ _ _ (record {
      heap = c.self.invariant;
      class_is = c.in_ok-class.ensures.least;
      some = c.in_ok-class.ensures.some;
      place = c.in_ok-span.ensures.ok;
    })

pub invariant_of-self-2 : goal.invariant_of-self-2
invariant_of-self-2 c =
    new_heap (before c) c.place.new.self _ c.in_ok-class.class c.args.len c.args.word c.in_ok-span.span c.in_ok-span.slot c.put-addr.result (at c) (put c)

pub returns-clause-made : goal.returns-clause-made
returns-clause-made c =
    rw (← c.self.view_is) (new_is _ c.place.new.self _ c.in_ok-class.class _ _ c.in_ok-span.span c.in_ok-span.slot _ (at c) (put c))
