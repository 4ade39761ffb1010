use Rattle.cedar_writer.proofs.NumberedSets.{set_itself}
use Rattle.cedar_writer.proofs.laws.numbered_sets_are_themselves.Goals as goal

pub returns : goal.returns
returns c = set_itself
