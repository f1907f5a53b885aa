use Rattle.mesh_plain.proofs.Holders.{holder_is}
use Rattle.mesh_plain.proofs.maps.holder.Goals as goal

pub returns : goal.returns
returns c = holder_is c.args.objects.now c.args.address c.first_reaching.result c.first_reaching.ensures.ordered c.first_reaching.ensures.first
