use Rattle.std.proofs.Common.{Ok, ◌∙◌}
use Rattle.cedar_expressions.specs.declared.atoms.Var.TheVariants as vars
use Rattle.cedar_conversion.specs.outcome.Seen.{itself}
use Rattle.cedar_conversion.proofs.Outcomes.{given_next, gives_at, passed_on, refused_next}
use Rattle.cedar_policy_conversion.proofs.ReferredNodes.{one_entity}
use Rattle.cedar_policy_conversion.proofs.to_ref_or_refs.lone_entity.Goals as goal

pub returns-in_err-uid : goal.returns-in_err-uid
returns-in_err-uid c = gives_at itself c.from_residual.result _ _ (one_entity vars.Action c.args.node.now) (passed_on itself c.from_residual.result c.in_err-uid.field-0.0 _ c.from_residual.ensures.1 (refused_next c.in_err-uid.field-0.0 _ _ c.in_err-uid.ensures))

pub returns : goal.returns
returns c = one_entity vars.Action c.args.node.now ∙ given_next _ _ (λ one. Ok one.0) c.in_ok-uid.ensures
