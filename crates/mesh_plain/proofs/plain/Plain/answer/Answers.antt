use Rattle.mesh_plain.proofs.Serials.{answered_more}
use Rattle.mesh_plain.proofs.plain.Plain.answer.Goals as goal

pub returns-clause-serials : goal.returns-clause-serials
returns-clause-serials c =
    answered_more c.args.self.now c.answer_at.new.self c.args.address c.args.command.now c.in_ok-reply.reply c.in_ok-reply.ensures.follows
