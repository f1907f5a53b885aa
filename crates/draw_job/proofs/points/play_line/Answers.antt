use Rattle.std.proofs.Common.{arith, refl, subst}
use Rattle.mesh_steps.specs.Always.{HasReadOnlyOfMeshes}
use Rattle.mesh_text.specs.Turns.{book_of, places_of}
use Rattle.draw_job.specs.Frames.{IsFrame}
use Rattle.draw_job.proofs.points.play_line.Goals as goal

pub returns-clause-point : goal.returns-clause-point
returns-clause-point c = (
  search arith,
  record {
    book = book_of c.play-2.new.self;
    places = places_of c.play-2.new.self;
    at = c.in_ok-play-2.ensures.stands.at;
    read_only = subst HasReadOnlyOfMeshes c.heap-heap.ensures c.always.ensures.read_only;
    shown = subst (λ h. IsFrame h c.in_ok-frame.frame) c.heap-heap.ensures c.in_ok-frame.ensures;
    before = c.args.place;
    last = refl;
    said = c.in_ok-words.ensures;
    told = c.in_ok-play-2.ensures.told;
  },
)
