use Rattle.cedar_writer.proofs.LinesCut.{line_cuts}
use Rattle.cedar_writer.proofs.laws.lines_are_cut.Goals as goal

pub returns : goal.returns
returns c = line_cuts
