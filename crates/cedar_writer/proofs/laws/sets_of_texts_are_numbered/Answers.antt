use Rattle.cedar_writer.proofs.SetsOfTexts.{numbered_set}
use Rattle.cedar_writer.proofs.laws.sets_of_texts_are_numbered.Goals as goal

pub returns : goal.returns
returns c = numbered_set
