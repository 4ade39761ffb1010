use Rattle.cedar_layout.proofs.InStep.{keeps_steps}
use Rattle.cedar_layout.proofs.laws.lines_begin_in_step.Goals as goal

pub returns : goal.returns
returns c = keeps_steps
