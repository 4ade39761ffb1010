use Rattle.cedar_syntax.specs.declared.cst.Unary.{out-Unary}
use Rattle.cedar_syntax.specs.printing.Printed.{option_texts, neg_op_texts}
use Rattle.cedar_syntax.specs.printing.Printing.{node_texts}
use Rattle.cedar_syntax.specs.printing.Pieces.{pieces_texts}
use Rattle.cedar_syntax.specs.trees.Unplaced.{member_tree}
use Rattle.cedar_syntax.proofs.Texts.{texts, unary_texts}
use Rattle.cedar_syntax.proofs.Unfolding.{joined, on_ok, renamed}
use Rattle.cedar_syntax.proofs.pieces.UnaryUnfold.unfold.Goals as goal

pub returns-clause-texts : goal.returns-clause-texts
returns-clause-texts c = on_ok c.unfold-2.result (λ p. renamed (pieces_texts c.args.rest.now) (unary_texts c.args.self.now) (joined (option_texts neg_op_texts (out-Unary c.args.self.now).op) ((node_texts (option_texts (texts member_tree))) (out-Unary c.args.self.now).item) (pieces_texts c.args.rest.now) p (c.in_ok-unfold.ensures.texts))) c.unfold-2.ensures.texts
