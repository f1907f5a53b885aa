use Rattle.model_otherwise.specs.Spots.{moved, is_within, spots_of}
use Rattle.std.proofs.Common.{[], ◌∙◌, refl, length, filter, map}
use Rattle.model_otherwise.proofs.SpotBytes.{byte_inside, byte_moved, byte_of_bytes, byte_outside, has_bytes_only, has_moved_only}
use Rattle.model_otherwise.proofs.laws.bytes_change_alone.Goals as goal

pub returns-clause-stored : goal.returns-clause-stored
returns-clause-stored c = λ spots start bytes place from below.
    byte_inside spots (spots_of start bytes) start (length bytes) place from below ∙ byte_of_bytes start bytes place from below

pub returns-clause-stores : goal.returns-clause-stores
returns-clause-stores c = λ spots start bytes place out.
    byte_outside spots (spots_of start bytes) start (length bytes) place out (has_bytes_only start bytes place out)

pub returns-clause-zeroed : goal.returns-clause-zeroed
returns-clause-zeroed c = λ spots start len place from below. byte_inside spots [] start len place from below

pub returns-clause-zeroes : goal.returns-clause-zeroes
returns-clause-zeroes c = λ spots start len place out. byte_outside spots [] start len place out refl

pub returns-clause-copied : goal.returns-clause-copied
returns-clause-copied c = λ spots to from len place above below.
    byte_inside spots (map (moved to from) (filter (is_within from len) spots)) to len place above below ∙ byte_moved spots to from len place above below

pub returns-clause-copies : goal.returns-clause-copies
returns-clause-copies c = λ spots to from len place out.
    byte_outside spots (map (moved to from) (filter (is_within from len) spots)) to len place out (has_moved_only spots to from len place out)
