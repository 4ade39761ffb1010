use Rattle.std.proofs.Common.{refl}
use Rattle.cedar_tool.proofs.Stopping.{shown_ends}
use Rattle.cedar_tool.proofs.run.obey.Goals as goal

pub returns-in-None-clause-ends : goal.returns-in-None-clause-ends
returns-in-None-clause-ends g c =
    shown_ends _ g.O.Write.contents c.args.console.now c.misuse.new.console c.misuse.result refl c.misuse.ensures.ends
