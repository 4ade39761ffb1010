use Rattle.cedar_answers.specs.Answers.{TellsFailure}
use Rattle.cedar_answers.proofs.Answering.{told_or_memory}
use Rattle.cedar_answers.proofs.refusals.refused.Goals as goal

pub returns-in-Memory : goal.returns-in-Memory
returns-in-Memory c = TellsFailure.memory c.bare.ensures.status c.bare.ensures.nothing

pub returns-in-Errors : goal.returns-in-Errors
returns-in-Errors c =
    told_or_memory c.args.text.now c.args.failure.now c.in-Errors.faults c.told_faults.result (λ told. told.now) c.with_faults.result c.in-Errors.is c.told_faults.ensures c.with_faults.ensures.ok c.with_faults.ensures.err
