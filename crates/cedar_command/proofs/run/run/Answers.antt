use Rattle.std.proofs.Common.{refl}
use Rattle.cedar_command.specs.declared.run.Ending.TheVariants.{Answered}
use Rattle.cedar_command.specs.Ends.{Ends}
use Rattle.cedar_command.proofs.Endings.{unasked, stopped}
use Rattle.cedar_command.proofs.run.run.Goals as goal

pub returns-in-None-clause-ends : goal.returns-in-None-clause-ends
returns-in-None-clause-ends g c =
    unasked _ _ _ c.in-None.ensures refl c.tell.ensures

pub returns-in-Ok-clause-ends : goal.returns-in-Ok-clause-ends
returns-in-Ok-clause-ends g c =
    let e = c.in-Ok.ensures in (
      Answered c.in-Ok.verdict,
      c.status.ensures,
      Ends.answered c.in-Some.command c.in-Ok.verdict c.in-Some.ensures e.answered e.read e.flushed refl,
    )

pub returns-in-Err-clause-ends : goal.returns-in-Err-clause-ends
returns-in-Err-clause-ends g c =
    stopped _ _ _ c.in-Some.command _ c.in-Some.ensures c.in-Err.ensures.stops
    c.tell-in-Err.ensures

pub returns-in-Ok-clause-unread : goal.returns-in-Ok-clause-unread
returns-in-Ok-clause-unread g c nothing =
    absurd (nothing c.in-Some.command c.in-Some.ensures)

pub returns-in-Err-clause-unread : goal.returns-in-Err-clause-unread
returns-in-Err-clause-unread g c nothing =
    absurd (nothing c.in-Some.command c.in-Some.ensures)
