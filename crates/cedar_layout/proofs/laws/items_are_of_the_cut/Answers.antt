use Rattle.cedar_layout.proofs.Found.{cut_found}
use Rattle.cedar_layout.proofs.laws.items_are_of_the_cut.Goals as goal

pub returns : goal.returns
returns c = cut_found
