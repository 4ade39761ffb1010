use Rattle.cedar_syntax.specs.declared.cst.Mult.{out-Mult}
use Rattle.cedar_syntax.specs.printing.Printed.{option_texts, mult_op_texts}
use Rattle.cedar_syntax.specs.printing.Printing.{in_row, node_texts, pair_texts}
use Rattle.cedar_syntax.specs.printing.Pieces.{pieces_texts}
use Rattle.cedar_syntax.specs.trees.Unplaced.{unary_tree}
use Rattle.cedar_syntax.proofs.Texts.{texts, mult_texts}
use Rattle.cedar_syntax.proofs.Unfolding.{joined, on_ok, renamed}
use Rattle.cedar_syntax.proofs.pieces.MultUnfold.unfold.Goals as goal

pub returns-clause-texts : goal.returns-clause-texts
returns-clause-texts c = on_ok c.unfold-2.result (λ p. renamed (pieces_texts c.args.rest.now) (mult_texts c.args.self.now) (joined ((node_texts (option_texts (texts unary_tree))) (out-Mult c.args.self.now).initial) (in_row (pair_texts mult_op_texts (node_texts (option_texts (texts unary_tree)))) (out-Mult c.args.self.now).extended) (pieces_texts c.args.rest.now) p (c.in_ok-unfold.ensures.texts))) c.unfold-2.ensures.texts
