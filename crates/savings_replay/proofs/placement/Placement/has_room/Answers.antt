use Rattle.savings_replay.specs.Placement.{table_of}
use Rattle.savings_replay.proofs.Kept.{seen_of}
use Rattle.savings_replay.proofs.Room.{room_left, slot_room}
use Rattle.savings_replay.proofs.placement.Placement.has_room.Goals as goal

pub returns-then-has_span_room : goal.returns-then-has_span_room
returns-then-has_span_room c =
    room_left (table_of c.args.self.now) c.in-Ok.class c.args.len c.has_span_room.result c.in-Ok.ensures.least c.requires.some c.has_span_room.ensures
    c.if-has_span_room.true

pub returns-else-has_span_room : goal.returns-else-has_span_room
returns-else-has_span_room c =
    slot_room (seen_of c.self.inside) c.args.self.now c.in-Ok.class c.args.len c.open_slot.result c.is_some.result c.has_span_room.result c.self.view_is
    c.self.invariant.0
    c.in-Ok.ensures.least c.requires.some c.is_some.ensures c.open_slot.ensures.picked c.open_slot.ensures.none c.has_span_room.ensures
    c.if-has_span_room.false
