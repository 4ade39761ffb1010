use Rattle.std.proofs.Common.{◌∙◌}
use Rattle.cedar_conversion.specs.parts.HasSide.{right_side}
use Rattle.cedar_conversion.specs.machines.Applied.{seen_attributes}
use Rattle.cedar_conversion.proofs.Outcomes.{given_next, gives_at, passed_on, refused_next}
use Rattle.cedar_conversion.proofs.RightSides.{below_mult, below_unary, below_member}
use Rattle.cedar_conversion.proofs.operators.has_side.of_mult.Goals as goal

pub returns-in_err-unary : goal.returns-in_err-unary
returns-in_err-unary g c =
    gives_at seen_attributes c.from_residual.result _ _ (below_mult c.args.side.loc.now c.args.node.now)
    (passed_on seen_attributes c.from_residual.result c.in_err-unary.field-0.0 _ c.from_residual.ensures.1 (refused_next c.in_err-unary.field-0.0 _ (right_side c.args.side.loc.now) c.in_err-unary.ensures))

pub returns-in_err-member : goal.returns-in_err-member
returns-in_err-member g c =
    gives_at seen_attributes c.from_residual-in_err-member.result _ _
    (below_mult c.args.side.loc.now c.args.node.now ∙ given_next _ _ (right_side c.args.side.loc.now) c.in_ok-unary.ensures ∙ below_unary c.args.side.loc.now c.in_ok-unary.unary.now)
    (passed_on seen_attributes c.from_residual-in_err-member.result c.in_err-member.field-0.0 _ c.from_residual-in_err-member.ensures.1 (refused_next c.in_err-member.field-0.0 _ (right_side c.args.side.loc.now) c.in_err-member.ensures))

pub returns-in_err-inner : goal.returns-in_err-inner
returns-in_err-inner g c =
    gives_at seen_attributes c.from_residual-in_err-inner.result _ _
    (below_mult c.args.side.loc.now c.args.node.now ∙ given_next _ _ (right_side c.args.side.loc.now) c.in_ok-unary.ensures ∙ below_unary c.args.side.loc.now c.in_ok-unary.unary.now
    ∙ given_next _ _ (right_side c.args.side.loc.now) c.in_ok-member.ensures ∙ below_member c.args.side.loc.now c.in_ok-member.member.now)
    (passed_on seen_attributes c.from_residual-in_err-inner.result c.in_err-inner.field-0.0 _ c.from_residual-in_err-inner.ensures.1 (refused_next c.in_err-inner.field-0.0 _ _ c.in_err-inner.ensures))

pub returns : goal.returns
returns g c =
    gives_at seen_attributes c.begins_with.result _ _
    (below_mult c.args.side.loc.now c.args.node.now ∙ given_next _ _ (right_side c.args.side.loc.now) c.in_ok-unary.ensures ∙ below_unary c.args.side.loc.now c.in_ok-unary.unary.now
    ∙ given_next _ _ (right_side c.args.side.loc.now) c.in_ok-member.ensures ∙ below_member c.args.side.loc.now c.in_ok-member.member.now ∙ given_next _ _ _ c.in_ok-inner.ensures)
    (rw c.as_slice.ensures at c.begins_with.ensures)
