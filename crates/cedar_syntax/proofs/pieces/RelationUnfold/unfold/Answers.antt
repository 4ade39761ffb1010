use Rattle.std.proofs.Common.{◌∷◌, [], ◌++◌, ap, sym, ◌∙◌, codes}
use Rattle.cedar_syntax.specs.printing.Printed.{option_texts, rel_op_texts}
use Rattle.cedar_syntax.specs.printing.Printing.{in_row, option_behind_mark, node_texts, pair_texts}
use Rattle.cedar_syntax.specs.printing.Pieces.{pieces_texts, exprs_in}
use Rattle.cedar_syntax.specs.trees.Unplaced.{add_tree}
use Rattle.cedar_syntax.specs.trees.Inside.{option_inside, node_inside, all_inside, operand_inside, add_inside}
use Rattle.cedar_syntax.proofs.Texts.{texts, relation_common_texts, relation_has_texts, relation_like_texts, relation_is_texts}
use Rattle.cedar_syntax.proofs.InsideForms.{relation_common, relation_has, relation_like, relation_is}
use Rattle.cedar_syntax.proofs.Unfolding.{joined, on_ok, renamed}
use Rattle.cedar_syntax.proofs.pieces.RelationUnfold.unfold.Goals as goal

pub returns-in_ok-unfold-in-Common-clause-texts : goal.returns-in_ok-unfold-in-Common-clause-texts
returns-in_ok-unfold-in-Common-clause-texts c = on_ok c.unfold-in-Common.result (λ p. renamed (pieces_texts c.args.rest.now) (relation_common_texts _ _ _ c.in-Common.is) (joined ((node_texts (option_texts (texts add_tree))) c.in-Common.initial) (in_row (pair_texts rel_op_texts (node_texts (option_texts (texts add_tree)))) c.in-Common.extended) (pieces_texts c.args.rest.now) p (c.in_ok-unfold-in-Common.ensures.texts))) c.unfold-in-Common.ensures.texts

pub returns-in_ok-unfold-in-Common-clause-exprs : goal.returns-in_ok-unfold-in-Common-clause-exprs
returns-in_ok-unfold-in-Common-clause-exprs c = on_ok c.unfold-in-Common.result (λ p. renamed (exprs_in c.args.rest.now) (sym (relation_common _ _ _ c.in-Common.is)) (joined ((node_inside add_inside) c.in-Common.initial) (all_inside (operand_inside add_inside) c.in-Common.extended) (exprs_in c.args.rest.now) p (c.in_ok-unfold-in-Common.ensures.exprs))) c.unfold-in-Common.ensures.exprs

pub returns-in_ok-push-in-Has-clause-texts : goal.returns-in_ok-push-in-Has-clause-texts
returns-in_ok-push-in-Has-clause-texts c = on_ok c.unfold-in-Has-2.result (λ p. renamed (pieces_texts c.args.rest.now) (relation_has_texts _ _ _ c.in-Has.is) (joined ((node_texts (option_texts (texts add_tree))) c.in-Has.target) ((codes "has" ∷ []) ++ ((node_texts (option_texts (texts add_tree))) c.in-Has.field)) (pieces_texts c.args.rest.now) p (joined (codes "has" ∷ []) ((node_texts (option_texts (texts add_tree))) c.in-Has.field) (pieces_texts c.args.rest.now) (ap pieces_texts c.in_ok-push-in-Has.ensures.ok) (c.in_ok-unfold-in-Has.ensures.texts)))) c.unfold-in-Has-2.ensures.texts

pub returns-in_ok-push-in-Has-clause-exprs : goal.returns-in_ok-push-in-Has-clause-exprs
returns-in_ok-push-in-Has-clause-exprs c = on_ok c.unfold-in-Has-2.result (λ p. renamed (exprs_in c.args.rest.now) (sym (relation_has _ _ _ c.in-Has.is)) (joined ((node_inside add_inside) c.in-Has.target) ((node_inside add_inside) c.in-Has.field) (exprs_in c.args.rest.now) p ((ap exprs_in c.in_ok-push-in-Has.ensures.ok ∙ c.in_ok-unfold-in-Has.ensures.exprs)))) c.unfold-in-Has-2.ensures.exprs

pub returns-in_ok-push-in-Like-clause-texts : goal.returns-in_ok-push-in-Like-clause-texts
returns-in_ok-push-in-Like-clause-texts c = on_ok c.unfold-in-Like-2.result (λ p. renamed (pieces_texts c.args.rest.now) (relation_like_texts _ _ _ c.in-Like.is) (joined ((node_texts (option_texts (texts add_tree))) c.in-Like.target) ((codes "like" ∷ []) ++ ((node_texts (option_texts (texts add_tree))) c.in-Like.pattern)) (pieces_texts c.args.rest.now) p (joined (codes "like" ∷ []) ((node_texts (option_texts (texts add_tree))) c.in-Like.pattern) (pieces_texts c.args.rest.now) (ap pieces_texts c.in_ok-push-in-Like.ensures.ok) (c.in_ok-unfold-in-Like.ensures.texts)))) c.unfold-in-Like-2.ensures.texts

pub returns-in_ok-push-in-Like-clause-exprs : goal.returns-in_ok-push-in-Like-clause-exprs
returns-in_ok-push-in-Like-clause-exprs c = on_ok c.unfold-in-Like-2.result (λ p. renamed (exprs_in c.args.rest.now) (sym (relation_like _ _ _ c.in-Like.is)) (joined ((node_inside add_inside) c.in-Like.target) ((node_inside add_inside) c.in-Like.pattern) (exprs_in c.args.rest.now) p ((ap exprs_in c.in_ok-push-in-Like.ensures.ok ∙ c.in_ok-unfold-in-Like.ensures.exprs)))) c.unfold-in-Like-2.ensures.exprs

pub returns-in_ok-push-in-IsIn-clause-texts : goal.returns-in_ok-push-in-IsIn-clause-texts
returns-in_ok-push-in-IsIn-clause-texts c = on_ok c.unfold-in-IsIn-2.result (λ p. renamed (pieces_texts c.args.rest.now) (relation_is_texts _ _ _ _ c.in-IsIn.is) (joined ((node_texts (option_texts (texts add_tree))) c.in-IsIn.target) ((codes "is" ∷ []) ++ (((node_texts (option_texts (texts add_tree))) c.in-IsIn.entity_type) ++ (option_behind_mark (codes "in") (node_texts (option_texts (texts add_tree))) c.in-IsIn.in_entity))) (pieces_texts c.args.rest.now) p (joined (codes "is" ∷ []) (((node_texts (option_texts (texts add_tree))) c.in-IsIn.entity_type) ++ (option_behind_mark (codes "in") (node_texts (option_texts (texts add_tree))) c.in-IsIn.in_entity)) (pieces_texts c.args.rest.now) (ap pieces_texts c.in_ok-push-in-IsIn.ensures.ok) (joined ((node_texts (option_texts (texts add_tree))) c.in-IsIn.entity_type) (option_behind_mark (codes "in") (node_texts (option_texts (texts add_tree))) c.in-IsIn.in_entity) (pieces_texts c.args.rest.now) c.in_ok-unfold-in-IsIn.ensures.texts (c.in_ok-unfold_opt_marked-in-IsIn.ensures.texts))))) c.unfold-in-IsIn-2.ensures.texts

pub returns-in_ok-push-in-IsIn-clause-exprs : goal.returns-in_ok-push-in-IsIn-clause-exprs
returns-in_ok-push-in-IsIn-clause-exprs c = on_ok c.unfold-in-IsIn-2.result (λ p. renamed (exprs_in c.args.rest.now) (sym (relation_is _ _ _ _ c.in-IsIn.is)) (joined ((node_inside add_inside) c.in-IsIn.target) (((node_inside add_inside) c.in-IsIn.entity_type) ++ (option_inside (node_inside add_inside) c.in-IsIn.in_entity)) (exprs_in c.args.rest.now) p (joined ((node_inside add_inside) c.in-IsIn.entity_type) (option_inside (node_inside add_inside) c.in-IsIn.in_entity) (exprs_in c.args.rest.now) (ap exprs_in c.in_ok-push-in-IsIn.ensures.ok ∙ c.in_ok-unfold-in-IsIn.ensures.exprs) (c.in_ok-unfold_opt_marked-in-IsIn.ensures.exprs)))) c.unfold-in-IsIn-2.ensures.exprs
