use Rattle.std.proofs.Common.{ap, codes}
use Rattle.cedar_syntax.specs.declared.cst.Or.{out-Or}
use Rattle.cedar_syntax.specs.printing.Printed.{option_texts}
use Rattle.cedar_syntax.specs.printing.Printing.{texts_behind_mark, node_texts}
use Rattle.cedar_syntax.specs.printing.Pieces.{pieces_texts}
use Rattle.cedar_syntax.specs.trees.Unplaced.{and_tree}
use Rattle.cedar_syntax.proofs.Texts.{texts, or_texts}
use Rattle.cedar_syntax.proofs.Unfolding.{joined, on_ok, renamed}
use Rattle.cedar_syntax.proofs.pieces.OrUnfold.unfold.Goals as goal

pub returns-clause-texts : goal.returns-clause-texts
returns-clause-texts c = on_ok c.unfold.result (λ p. renamed (pieces_texts c.args.rest.now) (or_texts c.args.self.now) (joined ((node_texts (option_texts (texts and_tree))) (out-Or c.args.self.now).initial) (texts_behind_mark (codes "||") (node_texts (option_texts (texts and_tree))) (out-Or c.args.self.now).extended) (pieces_texts c.args.rest.now) p ((renamed (pieces_texts c.args.rest.now) (ap (texts_behind_mark (codes "||") (node_texts (option_texts (texts and_tree)))) c.as_slice.ensures) c.in_ok-unfold_marked.ensures.texts)))) c.unfold.ensures.texts
