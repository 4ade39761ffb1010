use Rattle.cedar_syntax.specs.printing.Printed.{option_texts}
use Rattle.cedar_syntax.specs.printing.Printing.{in_row, node_texts}
use Rattle.cedar_syntax.specs.printing.Pieces.{pieces_texts}
use Rattle.cedar_syntax.specs.trees.Unplaced.{primary_tree, access_tree}
use Rattle.cedar_syntax.proofs.Texts.{texts, member_texts}
use Rattle.cedar_syntax.proofs.Unfolding.{joined, on_ok, renamed}
use Rattle.cedar_syntax.proofs.pieces.MemberUnfold.unfold.Goals as goal

pub returns-clause-texts : goal.returns-clause-texts
returns-clause-texts c = on_ok c.unfold-2.result (λ p. renamed (pieces_texts c.args.rest.now) (member_texts c.args.self.now) (joined ((node_texts (option_texts (texts primary_tree))) c.args.self.now.item) (in_row (node_texts (option_texts (texts access_tree))) c.args.self.now.access) (pieces_texts c.args.rest.now) p (c.in_ok-unfold.ensures.texts))) c.unfold-2.ensures.texts
