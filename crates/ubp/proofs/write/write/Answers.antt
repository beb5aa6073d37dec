use Rattle.ubp.proofs.OwnCommands.{taken_own, told_own}
use Rattle.ubp.proofs.write.write.Goals as goal

pub returns : goal.returns
returns c = record { written = c.write_message.ensures; taken = taken_own c.args.command.now; told = told_own c.args.command.now }
