use Rattle.cedar_tool.proofs.Stopping.{stopped_ends}
use Rattle.cedar_tool.proofs.run.run.Goals as goal

pub returns-in-Ok : goal.returns-in-Ok
returns-in-Ok g c = (c.in-Ok.ending, c.status.ensures, c.in-Ok.ensures.ends)

pub returns-in-Err : goal.returns-in-Err
returns-in-Err g c =
    (c.stop.result, c.status-in-Err.ensures, stopped_ends _ _ _ _ _ _ c.stop.ensures.stopped)
