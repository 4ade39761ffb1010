use Rattle.std.proofs.Common.{refl}
use Rattle.cedar_tool.proofs.Stopping.{shown_ends}
use Rattle.cedar_tool.proofs.run.obey_command.Goals as goal

pub returns-in-Err-Name-clause-ends : goal.returns-in-Err-Name-clause-ends
returns-in-Err-Name-clause-ends g c =
    shown_ends _ g.O.Write.contents c.args.console.now c.misuse.new.console c.misuse.result refl c.misuse.ensures.ends
