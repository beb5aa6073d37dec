use Rattle.ubp.proofs.OwnCommands.{read_back}
use Rattle.ubp.proofs.read.read.Goals as goal

pub returns-clause-back : goal.returns-clause-back
returns-clause-back c =
    read_back c.args.frame.now c.fill.result c.args.into.now c.fill.new.into c.fill.ensures.answer c.fill.ensures.filled
