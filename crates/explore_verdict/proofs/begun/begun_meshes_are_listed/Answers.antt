use Rattle.explore_verdict.proofs.BegunMeshes.{begun_are_listed}
use Rattle.explore_verdict.proofs.begun.begun_meshes_are_listed.Goals as goal

pub returns : goal.returns
returns c = begun_are_listed
