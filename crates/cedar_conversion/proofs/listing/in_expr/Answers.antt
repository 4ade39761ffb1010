use Rattle.std.proofs.Common.{ap, ◌∙◌}
use Rattle.cedar_syntax.specs.trees.Forms.{expr_form}
use Rattle.cedar_conversion.specs.machines.Nested.{nested_in}
use Rattle.cedar_conversion.proofs.Nested.{none, level, or_data, if_data}
use Rattle.cedar_conversion.proofs.Walked.{at, nothing, on_ok, three}
use Rattle.cedar_conversion.proofs.listing.in_expr.Goals as goal

pub returns-in-Or : goal.returns-in-Or
returns-in-Or c =
    on_ok c.in_or.result (λ h. at _ _ _ _ (level expr_form c.args.node.now _ c.in-Some.is ∙ ap nested_in c.data_of.ensures ∙ or_data _ _ c.in-Or.is) h) c.in_or.ensures

pub returns-in_ok-push-in-If-2 : goal.returns-in_ok-push-in-If-2
returns-in_ok-push-in-If-2 c =
    on_ok c.push-in-If-2.result (λ h. three _ _ _ _ _ _ _ _ (level expr_form c.args.node.now _ c.in-Some.is ∙ ap nested_in c.data_of.ensures ∙ if_data _ _ _ _ c.in-If.is) h c.in_ok-push-in-If-2.ensures.ok c.in_ok-push-in-If.ensures.ok) c.push-in-If-2.ensures.ok

pub returns-in-None : goal.returns-in-None
returns-in-None c = nothing _ _ (none expr_form c.args.node.now c.in-None.is)
