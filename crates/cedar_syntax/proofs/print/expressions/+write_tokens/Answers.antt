use Rattle.std.proofs.Common.{ap, ◌∙◌}
use Rattle.cedar_syntax.specs.printing.Printed.{printed}
use Rattle.cedar_syntax.specs.trees.Unplaced.{data_tree}
use Rattle.cedar_syntax.proofs.Printing.{after, as_texts, prints-of_eq}
use Rattle.cedar_syntax.proofs.Texts.{expr_texts, data_or_texts, data_if_texts, access_field_texts, access_call_texts, access_index_texts, primary_literal_texts, primary_ref_texts, primary_name_texts, primary_slot_texts, primary_expr_texts, primary_list_texts, primary_inits_texts, relation_common_texts, relation_has_texts, relation_like_texts, relation_is_texts, add_texts, and_texts, impl_texts, member_texts, mult_texts, or_texts, init_texts, unary_texts}
use Rattle.cedar_syntax.proofs.print.expressions.+write_tokens.Goals as goal

pub ExprTokens::write_tokens-returns : goal.ExprTokens::write_tokens-returns
ExprTokens::write_tokens-returns g t c =
    let took = g.W.Write.write_str_gives in
    as_texts took (expr_texts _ _ c.inner.ensures) c.in_ok-fresh.ensures

pub ExprDataTokens::write_tokens-returns-in_ok-fresh-in-Or : goal.ExprDataTokens::write_tokens-returns-in_ok-fresh-in-Or
ExprDataTokens::write_tokens-returns-in_ok-fresh-in-Or g t c =
    let took = g.W.Write.write_str_gives in
    as_texts took (data_or_texts _ _ c.in-Or.is) c.in_ok-fresh-in-Or.ensures

pub ExprDataTokens::write_tokens-returns-in_ok-fresh-in-If-6 : goal.ExprDataTokens::write_tokens-returns-in_ok-fresh-in-If-6
ExprDataTokens::write_tokens-returns-in_ok-fresh-in-If-6 g t c =
    let took = g.W.Write.write_str_gives in
    as_texts took (data_if_texts _ _ _ _ c.in-If.is) (after took c.in_ok-fresh-in-If.ensures (after took c.in_ok-fresh-in-If-2.ensures (after took c.in_ok-fresh-in-If-3.ensures (after took c.in_ok-fresh-in-If-4.ensures (after took c.in_ok-fresh-in-If-5.ensures c.in_ok-fresh-in-If-6.ensures)))))

pub MemAccessTokens::write_tokens-returns-in_ok-fresh-in-Field-2 : goal.MemAccessTokens::write_tokens-returns-in_ok-fresh-in-Field-2
MemAccessTokens::write_tokens-returns-in_ok-fresh-in-Field-2 g t c =
    let took = g.W.Write.write_str_gives in
    as_texts took (access_field_texts _ _ c.in-Field.is) (after took c.in_ok-fresh-in-Field.ensures c.in_ok-fresh-in-Field-2.ensures)

pub MemAccessTokens::write_tokens-returns-in_ok-fresh-in-Call-3 : goal.MemAccessTokens::write_tokens-returns-in_ok-fresh-in-Call-3
MemAccessTokens::write_tokens-returns-in_ok-fresh-in-Call-3 g t c =
    let took = g.W.Write.write_str_gives in
    as_texts took (access_call_texts _ _ c.in-Call.is) (after took c.in_ok-fresh-in-Call.ensures (after took c.in_ok-fresh-in-Call-2.ensures c.in_ok-fresh-in-Call-3.ensures))

pub MemAccessTokens::write_tokens-returns-in_ok-fresh-in-Index-3 : goal.MemAccessTokens::write_tokens-returns-in_ok-fresh-in-Index-3
MemAccessTokens::write_tokens-returns-in_ok-fresh-in-Index-3 g t c =
    let took = g.W.Write.write_str_gives in
    as_texts took (access_index_texts _ _ c.in-Index.is) (after took c.in_ok-fresh-in-Index.ensures (after took c.in_ok-fresh-in-Index-2.ensures c.in_ok-fresh-in-Index-3.ensures))

pub PrimaryTokens::write_tokens-returns-in_ok-fresh-in-Literal : goal.PrimaryTokens::write_tokens-returns-in_ok-fresh-in-Literal
PrimaryTokens::write_tokens-returns-in_ok-fresh-in-Literal g t c =
    let took = g.W.Write.write_str_gives in
    as_texts took (primary_literal_texts _ _ c.in-Literal.is) c.in_ok-fresh-in-Literal.ensures

pub PrimaryTokens::write_tokens-returns-in_ok-fresh-in-Ref : goal.PrimaryTokens::write_tokens-returns-in_ok-fresh-in-Ref
PrimaryTokens::write_tokens-returns-in_ok-fresh-in-Ref g t c =
    let took = g.W.Write.write_str_gives in
    as_texts took (primary_ref_texts _ _ c.in-Ref.is) c.in_ok-fresh-in-Ref.ensures

pub PrimaryTokens::write_tokens-returns-in_ok-fresh-in-Name : goal.PrimaryTokens::write_tokens-returns-in_ok-fresh-in-Name
PrimaryTokens::write_tokens-returns-in_ok-fresh-in-Name g t c =
    let took = g.W.Write.write_str_gives in
    as_texts took (primary_name_texts _ _ c.in-Name.is) c.in_ok-fresh-in-Name.ensures

pub PrimaryTokens::write_tokens-returns-in_ok-fresh-in-Slot : goal.PrimaryTokens::write_tokens-returns-in_ok-fresh-in-Slot
PrimaryTokens::write_tokens-returns-in_ok-fresh-in-Slot g t c =
    let took = g.W.Write.write_str_gives in
    as_texts took (primary_slot_texts _ _ c.in-Slot.is) c.in_ok-fresh-in-Slot.ensures

pub PrimaryTokens::write_tokens-returns-in_ok-fresh-in-Expr-3 : goal.PrimaryTokens::write_tokens-returns-in_ok-fresh-in-Expr-3
PrimaryTokens::write_tokens-returns-in_ok-fresh-in-Expr-3 g t c =
    let took = g.W.Write.write_str_gives in
    as_texts took (primary_expr_texts _ _ c.in-Expr.is) (after took c.in_ok-fresh-in-Expr.ensures (after took c.in_ok-fresh-in-Expr-2.ensures c.in_ok-fresh-in-Expr-3.ensures))

pub PrimaryTokens::write_tokens-returns-in_ok-fresh-in-EList-3 : goal.PrimaryTokens::write_tokens-returns-in_ok-fresh-in-EList-3
PrimaryTokens::write_tokens-returns-in_ok-fresh-in-EList-3 g t c =
    let took = g.W.Write.write_str_gives in
    as_texts took (primary_list_texts _ _ c.in-EList.is) (after took c.in_ok-fresh-in-EList.ensures (after took c.in_ok-fresh-in-EList-2.ensures c.in_ok-fresh-in-EList-3.ensures))

pub PrimaryTokens::write_tokens-returns-in_ok-fresh-in-RInits-3 : goal.PrimaryTokens::write_tokens-returns-in_ok-fresh-in-RInits-3
PrimaryTokens::write_tokens-returns-in_ok-fresh-in-RInits-3 g t c =
    let took = g.W.Write.write_str_gives in
    as_texts took (primary_inits_texts _ _ c.in-RInits.is) (after took c.in_ok-fresh-in-RInits.ensures (after took c.in_ok-fresh-in-RInits-2.ensures c.in_ok-fresh-in-RInits-3.ensures))

pub RelationTokens::write_tokens-returns-in_ok-fresh-in-Common-2 : goal.RelationTokens::write_tokens-returns-in_ok-fresh-in-Common-2
RelationTokens::write_tokens-returns-in_ok-fresh-in-Common-2 g t c =
    let took = g.W.Write.write_str_gives in
    as_texts took (relation_common_texts _ _ _ c.in-Common.is) (after took c.in_ok-fresh-in-Common.ensures c.in_ok-fresh-in-Common-2.ensures)

pub RelationTokens::write_tokens-returns-in_ok-fresh-in-Has-3 : goal.RelationTokens::write_tokens-returns-in_ok-fresh-in-Has-3
RelationTokens::write_tokens-returns-in_ok-fresh-in-Has-3 g t c =
    let took = g.W.Write.write_str_gives in
    as_texts took (relation_has_texts _ _ _ c.in-Has.is) (after took c.in_ok-fresh-in-Has.ensures (after took c.in_ok-fresh-in-Has-2.ensures c.in_ok-fresh-in-Has-3.ensures))

pub RelationTokens::write_tokens-returns-in_ok-fresh-in-Like-3 : goal.RelationTokens::write_tokens-returns-in_ok-fresh-in-Like-3
RelationTokens::write_tokens-returns-in_ok-fresh-in-Like-3 g t c =
    let took = g.W.Write.write_str_gives in
    as_texts took (relation_like_texts _ _ _ c.in-Like.is) (after took c.in_ok-fresh-in-Like.ensures (after took c.in_ok-fresh-in-Like-2.ensures c.in_ok-fresh-in-Like-3.ensures))

pub RelationTokens::write_tokens-returns-in_ok-fresh-in-IsIn-4 : goal.RelationTokens::write_tokens-returns-in_ok-fresh-in-IsIn-4
RelationTokens::write_tokens-returns-in_ok-fresh-in-IsIn-4 g t c =
    let took = g.W.Write.write_str_gives in
    as_texts took (relation_is_texts _ _ _ _ c.in-IsIn.is) (after took c.in_ok-fresh-in-IsIn.ensures (after took c.in_ok-fresh-in-IsIn-2.ensures (after took c.in_ok-fresh-in-IsIn-3.ensures c.in_ok-fresh-in-IsIn-4.ensures)))

pub AddTokens::write_tokens-returns : goal.AddTokens::write_tokens-returns
AddTokens::write_tokens-returns g t c =
    let took = g.W.Write.write_str_gives in
    as_texts took (add_texts c.args.self.now) (after took c.in_ok-fresh.ensures c.in_ok-fresh-2.ensures)

pub AndTokens::write_tokens-returns : goal.AndTokens::write_tokens-returns
AndTokens::write_tokens-returns g t c =
    let took = g.W.Write.write_str_gives in
    as_texts took (and_texts c.args.self.now) (after took c.in_ok-fresh.ensures c.in_ok-fresh-2.ensures)

pub ExprImplTokens::write_tokens-returns-then-may_be_deep : goal.ExprImplTokens::write_tokens-returns-then-may_be_deep
ExprImplTokens::write_tokens-returns-then-may_be_deep g t c =
    let took = g.W.Write.write_str_gives in
    prints-of_eq took _ _ _ _ _ _ (ap (λ d. printed (data_tree d)) c.as_ref.ensures ∙ impl_texts c.args.self.now) c.write_unfolded.ensures

pub ExprImplTokens::write_tokens-returns : goal.ExprImplTokens::write_tokens-returns
ExprImplTokens::write_tokens-returns g t c =
    let took = g.W.Write.write_str_gives in
    as_texts took (ap (λ d. printed (data_tree d)) c.as_ref-2.ensures ∙ impl_texts c.args.self.now) c.in_ok-fresh.ensures

pub MemberTokens::write_tokens-returns : goal.MemberTokens::write_tokens-returns
MemberTokens::write_tokens-returns g t c =
    let took = g.W.Write.write_str_gives in
    as_texts took (member_texts c.args.self.now) (after took c.in_ok-fresh.ensures c.in_ok-fresh-2.ensures)

pub MultTokens::write_tokens-returns : goal.MultTokens::write_tokens-returns
MultTokens::write_tokens-returns g t c =
    let took = g.W.Write.write_str_gives in
    as_texts took (mult_texts c.args.self.now) (after took c.in_ok-fresh.ensures c.in_ok-fresh-2.ensures)

pub OrTokens::write_tokens-returns : goal.OrTokens::write_tokens-returns
OrTokens::write_tokens-returns g t c =
    let took = g.W.Write.write_str_gives in
    as_texts took (or_texts c.args.self.now) (after took c.in_ok-fresh.ensures c.in_ok-fresh-2.ensures)

pub RecInitTokens::write_tokens-returns : goal.RecInitTokens::write_tokens-returns
RecInitTokens::write_tokens-returns g t c =
    let took = g.W.Write.write_str_gives in
    as_texts took (init_texts c.args.self.now) (after took c.in_ok-fresh.ensures (after took c.in_ok-fresh-2.ensures c.in_ok-fresh-3.ensures))

pub UnaryTokens::write_tokens-returns : goal.UnaryTokens::write_tokens-returns
UnaryTokens::write_tokens-returns g t c =
    let took = g.W.Write.write_str_gives in
    as_texts took (unary_texts c.args.self.now) (after took c.in_ok-fresh.ensures c.in_ok-fresh-2.ensures)
