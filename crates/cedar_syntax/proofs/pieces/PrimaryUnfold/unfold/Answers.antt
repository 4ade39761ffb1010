use Rattle.std.proofs.Common.{◌∷◌, [], ◌++◌, ap, codes}
use Rattle.cedar_syntax.specs.printing.Printed.{option_texts}
use Rattle.cedar_syntax.specs.printing.Printing.{between, node_texts}
use Rattle.cedar_syntax.specs.printing.Pieces.{pieces_texts}
use Rattle.cedar_syntax.specs.trees.Unplaced.{expr_tree, init_tree}
use Rattle.cedar_syntax.proofs.Texts.{texts, primary_literal_texts, primary_ref_texts, primary_name_texts, primary_slot_texts, primary_expr_texts, primary_list_texts, primary_inits_texts}
use Rattle.cedar_syntax.proofs.Unfolding.{joined, on_ok, renamed}
use Rattle.cedar_syntax.proofs.pieces.PrimaryUnfold.unfold.Goals as goal

pub returns-in-Literal-clause-texts : goal.returns-in-Literal-clause-texts
returns-in-Literal-clause-texts c = on_ok c.unfold.result (λ p. renamed (pieces_texts c.args.rest.now) (primary_literal_texts _ _ c.in-Literal.is) (p)) c.unfold.ensures.texts

pub returns-in-Ref-clause-texts : goal.returns-in-Ref-clause-texts
returns-in-Ref-clause-texts c = on_ok c.unfold-in-Ref.result (λ p. renamed (pieces_texts c.args.rest.now) (primary_ref_texts _ _ c.in-Ref.is) (p)) c.unfold-in-Ref.ensures.texts

pub returns-in-Name-clause-texts : goal.returns-in-Name-clause-texts
returns-in-Name-clause-texts c = on_ok c.unfold-in-Name.result (λ p. renamed (pieces_texts c.args.rest.now) (primary_name_texts _ _ c.in-Name.is) (p)) c.unfold-in-Name.ensures.texts

pub returns-in-Slot-clause-texts : goal.returns-in-Slot-clause-texts
returns-in-Slot-clause-texts c = on_ok c.unfold-in-Slot.result (λ p. renamed (pieces_texts c.args.rest.now) (primary_slot_texts _ _ c.in-Slot.is) (p)) c.unfold-in-Slot.ensures.texts

pub returns-in_ok-unfold-in-Expr-clause-texts : goal.returns-in_ok-unfold-in-Expr-clause-texts
returns-in_ok-unfold-in-Expr-clause-texts c = on_ok c.push-in-Expr.result (λ p. renamed (pieces_texts c.args.rest.now) (primary_expr_texts _ _ c.in-Expr.is) (joined (codes "(" ∷ []) (((node_texts (option_texts (texts expr_tree))) c.in-Expr.expr) ++ (codes ")" ∷ [])) (pieces_texts c.args.rest.now) (ap pieces_texts p) (joined ((node_texts (option_texts (texts expr_tree))) c.in-Expr.expr) (codes ")" ∷ []) (pieces_texts c.args.rest.now) c.in_ok-unfold-in-Expr.ensures.texts ((ap pieces_texts c.in_ok-push-in-Expr.ensures.ok))))) c.push-in-Expr.ensures.ok

pub returns-in_ok-unfold_listed-in-EList-clause-texts : goal.returns-in_ok-unfold_listed-in-EList-clause-texts
returns-in_ok-unfold_listed-in-EList-clause-texts c = on_ok c.push-in-EList-2.result (λ p. renamed (pieces_texts c.args.rest.now) (primary_list_texts _ _ c.in-EList.is) (joined (codes "[" ∷ []) ((between (codes ",") (node_texts (option_texts (texts expr_tree))) c.in-EList.elements) ++ (codes "]" ∷ [])) (pieces_texts c.args.rest.now) (ap pieces_texts p) (joined (between (codes ",") (node_texts (option_texts (texts expr_tree))) c.in-EList.elements) (codes "]" ∷ []) (pieces_texts c.args.rest.now) (renamed (pieces_texts c.push-in-EList.new.self) (ap (between (codes ",") (node_texts (option_texts (texts expr_tree)))) c.as_slice.ensures) c.in_ok-unfold_listed-in-EList.ensures.texts) ((ap pieces_texts c.in_ok-push-in-EList.ensures.ok))))) c.push-in-EList-2.ensures.ok

pub returns-in_ok-unfold_listed-in-RInits-clause-texts : goal.returns-in_ok-unfold_listed-in-RInits-clause-texts
returns-in_ok-unfold_listed-in-RInits-clause-texts c = on_ok c.push-in-RInits-2.result (λ p. renamed (pieces_texts c.args.rest.now) (primary_inits_texts _ _ c.in-RInits.is) (joined (codes "{" ∷ []) ((between (codes ",") (node_texts (option_texts (texts init_tree))) c.in-RInits.fields) ++ (codes "}" ∷ [])) (pieces_texts c.args.rest.now) (ap pieces_texts p) (joined (between (codes ",") (node_texts (option_texts (texts init_tree))) c.in-RInits.fields) (codes "}" ∷ []) (pieces_texts c.args.rest.now) (renamed (pieces_texts c.push-in-RInits.new.self) (ap (between (codes ",") (node_texts (option_texts (texts init_tree)))) c.as_slice-in-RInits.ensures) c.in_ok-unfold_listed-in-RInits.ensures.texts) ((ap pieces_texts c.in_ok-push-in-RInits.ensures.ok))))) c.push-in-RInits-2.ensures.ok
