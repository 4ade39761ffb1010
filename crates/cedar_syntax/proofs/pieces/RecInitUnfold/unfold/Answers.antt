use Rattle.std.proofs.Common.{◌∷◌, [], ◌++◌, ap, codes}
use Rattle.cedar_syntax.specs.printing.Printed.{option_texts}
use Rattle.cedar_syntax.specs.printing.Printing.{node_texts}
use Rattle.cedar_syntax.specs.printing.Pieces.{pieces_texts}
use Rattle.cedar_syntax.specs.trees.Unplaced.{expr_tree}
use Rattle.cedar_syntax.proofs.Texts.{texts, init_texts}
use Rattle.cedar_syntax.proofs.Unfolding.{joined, on_ok, renamed}
use Rattle.cedar_syntax.proofs.pieces.RecInitUnfold.unfold.Goals as goal

pub returns-clause-texts : goal.returns-clause-texts
returns-clause-texts c = on_ok c.unfold-2.result (λ p. renamed (pieces_texts c.args.rest.now) (init_texts c.args.self.now) (joined ((node_texts (option_texts (texts expr_tree))) c.args.self.now.0) ((codes ":" ∷ []) ++ ((node_texts (option_texts (texts expr_tree))) c.args.self.now.1)) (pieces_texts c.args.rest.now) p (joined (codes ":" ∷ []) ((node_texts (option_texts (texts expr_tree))) c.args.self.now.1) (pieces_texts c.args.rest.now) (ap pieces_texts c.in_ok-push.ensures.ok) (c.in_ok-unfold.ensures.texts)))) c.unfold-2.ensures.texts
