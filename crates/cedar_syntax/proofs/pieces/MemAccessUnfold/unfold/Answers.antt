use Rattle.std.proofs.Common.{◌∷◌, [], ◌++◌, ap, codes}
use Rattle.cedar_syntax.specs.printing.Printed.{option_texts}
use Rattle.cedar_syntax.specs.printing.Printing.{between, node_texts}
use Rattle.cedar_syntax.specs.printing.Pieces.{pieces_texts}
use Rattle.cedar_syntax.specs.trees.Unplaced.{expr_tree, ident_tree}
use Rattle.cedar_syntax.proofs.Texts.{texts, access_field_texts, access_call_texts, access_index_texts}
use Rattle.cedar_syntax.proofs.Unfolding.{joined, on_ok, renamed}
use Rattle.cedar_syntax.proofs.pieces.MemAccessUnfold.unfold.Goals as goal

pub returns-in_ok-unfold-in-Field-clause-texts : goal.returns-in_ok-unfold-in-Field-clause-texts
returns-in_ok-unfold-in-Field-clause-texts c = on_ok c.push.result (λ p. renamed (pieces_texts c.args.rest.now) (access_field_texts _ _ c.in-Field.is) (joined (codes "." ∷ []) ((node_texts (option_texts (texts ident_tree))) c.in-Field.field) (pieces_texts c.args.rest.now) (ap pieces_texts p) (c.in_ok-unfold-in-Field.ensures.texts))) c.push.ensures.ok

pub returns-in_ok-unfold_listed-in-Call-clause-texts : goal.returns-in_ok-unfold_listed-in-Call-clause-texts
returns-in_ok-unfold_listed-in-Call-clause-texts c = on_ok c.push-in-Call-2.result (λ p. renamed (pieces_texts c.args.rest.now) (access_call_texts _ _ c.in-Call.is) (joined (codes "(" ∷ []) ((between (codes ",") (node_texts (option_texts (texts expr_tree))) c.in-Call.arguments) ++ (codes ")" ∷ [])) (pieces_texts c.args.rest.now) (ap pieces_texts p) (joined (between (codes ",") (node_texts (option_texts (texts expr_tree))) c.in-Call.arguments) (codes ")" ∷ []) (pieces_texts c.args.rest.now) (renamed (pieces_texts c.push-in-Call.new.self) (ap (between (codes ",") (node_texts (option_texts (texts expr_tree)))) c.as_slice.ensures) c.in_ok-unfold_listed-in-Call.ensures.texts) ((ap pieces_texts c.in_ok-push-in-Call.ensures.ok))))) c.push-in-Call-2.ensures.ok

pub returns-in_ok-unfold-in-Index-clause-texts : goal.returns-in_ok-unfold-in-Index-clause-texts
returns-in_ok-unfold-in-Index-clause-texts c = on_ok c.push-in-Index-2.result (λ p. renamed (pieces_texts c.args.rest.now) (access_index_texts _ _ c.in-Index.is) (joined (codes "[" ∷ []) (((node_texts (option_texts (texts expr_tree))) c.in-Index.index) ++ (codes "]" ∷ [])) (pieces_texts c.args.rest.now) (ap pieces_texts p) (joined ((node_texts (option_texts (texts expr_tree))) c.in-Index.index) (codes "]" ∷ []) (pieces_texts c.args.rest.now) c.in_ok-unfold-in-Index.ensures.texts ((ap pieces_texts c.in_ok-push-in-Index.ensures.ok))))) c.push-in-Index-2.ensures.ok
