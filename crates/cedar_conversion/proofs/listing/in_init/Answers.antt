use Rattle.std.proofs.Common.{◌∙◌}
use Rattle.cedar_syntax.specs.trees.Forms.{init_form}
use Rattle.cedar_conversion.proofs.Nested.{none, level, pair}
use Rattle.cedar_conversion.proofs.Walked.{nothing, on_ok, two}
use Rattle.cedar_conversion.proofs.listing.in_init.Goals as goal

pub returns-in_ok-push-in-Some : goal.returns-in_ok-push-in-Some
returns-in_ok-push-in-Some c =
    on_ok c.push-in-Some.result (λ h. two _ _ _ _ _ _ (level init_form c.args.node.now _ c.in-Some.is ∙ pair _) h c.in_ok-push-in-Some.ensures.ok) c.push-in-Some.ensures.ok

pub returns-in-None : goal.returns-in-None
returns-in-None c = nothing _ _ (none init_form c.args.node.now c.in-None.is)
