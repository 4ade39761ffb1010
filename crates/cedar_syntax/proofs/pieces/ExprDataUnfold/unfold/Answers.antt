use Rattle.std.proofs.Common.{◌∷◌, [], ◌++◌, ap, codes}
use Rattle.cedar_syntax.specs.printing.Printed.{option_texts}
use Rattle.cedar_syntax.specs.printing.Printing.{node_texts}
use Rattle.cedar_syntax.specs.printing.Pieces.{pieces_texts}
use Rattle.cedar_syntax.specs.trees.Unplaced.{expr_tree}
use Rattle.cedar_syntax.proofs.Texts.{texts, data_or_texts, data_if_texts}
use Rattle.cedar_syntax.proofs.Unfolding.{joined, on_ok, renamed}
use Rattle.cedar_syntax.proofs.pieces.ExprDataUnfold.unfold.Goals as goal

pub returns-in-Or-clause-texts : goal.returns-in-Or-clause-texts
returns-in-Or-clause-texts c = on_ok c.unfold.result (λ p. renamed (pieces_texts c.args.rest.now) (data_or_texts _ _ c.in-Or.is) (p)) c.unfold.ensures.texts

pub returns-in_ok-unfold-in-If-3-clause-texts : goal.returns-in_ok-unfold-in-If-3-clause-texts
returns-in_ok-unfold-in-If-3-clause-texts c = on_ok c.push-in-If-2.result (λ p. renamed (pieces_texts c.args.rest.now) (data_if_texts _ _ _ _ c.in-If.is) (joined (codes "if" ∷ []) (((node_texts (option_texts (texts expr_tree))) c.in-If.guard) ++ ((codes "then" ∷ []) ++ (((node_texts (option_texts (texts expr_tree))) c.in-If.consequent) ++ ((codes "else" ∷ []) ++ ((node_texts (option_texts (texts expr_tree))) c.in-If.alternative))))) (pieces_texts c.args.rest.now) (ap pieces_texts p) (joined ((node_texts (option_texts (texts expr_tree))) c.in-If.guard) ((codes "then" ∷ []) ++ (((node_texts (option_texts (texts expr_tree))) c.in-If.consequent) ++ ((codes "else" ∷ []) ++ ((node_texts (option_texts (texts expr_tree))) c.in-If.alternative)))) (pieces_texts c.args.rest.now) c.in_ok-unfold-in-If-3.ensures.texts (joined (codes "then" ∷ []) (((node_texts (option_texts (texts expr_tree))) c.in-If.consequent) ++ ((codes "else" ∷ []) ++ ((node_texts (option_texts (texts expr_tree))) c.in-If.alternative))) (pieces_texts c.args.rest.now) (ap pieces_texts c.in_ok-push-in-If-2.ensures.ok) (joined ((node_texts (option_texts (texts expr_tree))) c.in-If.consequent) ((codes "else" ∷ []) ++ ((node_texts (option_texts (texts expr_tree))) c.in-If.alternative)) (pieces_texts c.args.rest.now) c.in_ok-unfold-in-If-2.ensures.texts (joined (codes "else" ∷ []) ((node_texts (option_texts (texts expr_tree))) c.in-If.alternative) (pieces_texts c.args.rest.now) (ap pieces_texts c.in_ok-push-in-If.ensures.ok) (c.in_ok-unfold-in-If.ensures.texts))))))) c.push-in-If-2.ensures.ok
