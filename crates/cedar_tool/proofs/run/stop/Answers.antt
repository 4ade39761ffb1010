use Rattle.std.proofs.Common.{rules, refl}
use Rattle.cedar_tool.proofs.Stopping.{stopped_by}
use Rattle.cedar_tool.proofs.run.stop.Goals as goal

pub returns-in_default : goal.returns-in_default
returns-in_default g c =
    record { output = refl; stopped = stopped_by _ _ _ c.args.error c.writeln.result (search rules) c.writeln.ensures.left c.requires }
