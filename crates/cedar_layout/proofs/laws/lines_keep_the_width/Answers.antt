use Rattle.cedar_layout.proofs.LineWidths.{keeps_width}
use Rattle.cedar_layout.proofs.laws.lines_keep_the_width.Goals as goal

pub returns : goal.returns
returns c = keeps_width
