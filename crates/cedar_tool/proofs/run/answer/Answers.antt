use Rattle.std.proofs.Common.{refl}
use Rattle.cedar_tool.proofs.Stopping.{shown_ends}
use Rattle.cedar_tool.proofs.run.answer.Goals as goal

pub returns-in-Err-clause-ends : goal.returns-in-Err-clause-ends
returns-in-Err-clause-ends g c =
    shown_ends _ g.O.Write.contents c.args.console.now c.show.new.console c.show.result refl c.show.ensures.ends
