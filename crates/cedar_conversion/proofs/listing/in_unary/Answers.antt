use Rattle.std.proofs.Common.{sym, ◌∙◌}
use Rattle.cedar_syntax.specs.trees.Forms.{unary_form}
use Rattle.cedar_conversion.proofs.Nested.{none, level, counted, uncounted}
use Rattle.cedar_conversion.proofs.Walked.{at, nothing, on_ok}
use Rattle.cedar_conversion.proofs.listing.in_unary.Goals as goal

pub returns-then-is_counted : goal.returns-then-is_counted
returns-then-is_counted c =
    on_ok c.in_member.result (λ h. at _ _ _ _ (level unary_form c.args.node.now _ c.in-Some.is ∙ counted _ (sym c.is_counted.ensures ∙ c.if-is_counted.true)) h) c.in_member.ensures

pub returns-else-is_counted : goal.returns-else-is_counted
returns-else-is_counted c = nothing _ _ (level unary_form c.args.node.now _ c.in-Some.is ∙ uncounted _ (sym c.is_counted.ensures ∙ c.if-is_counted.false))

pub returns-in-None : goal.returns-in-None
returns-in-None c = nothing _ _ (none unary_form c.args.node.now c.in-None.is)
