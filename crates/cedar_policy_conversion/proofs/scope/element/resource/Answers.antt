use Rattle.std.proofs.Common.{Ok, option_copied, sym, ap}
use Rattle.cedar_expressions.specs.declared.atoms.Var.TheVariants as vars
use Rattle.cedar_conversion.specs.strict.Table.{table_of}
use Rattle.cedar_policy_conversion.specs.Scope.{element_outcome}
use Rattle.cedar_policy_conversion.proofs.ScopeParts.{is_there, not_there}
use Rattle.cedar_policy_conversion.proofs.scope.element.resource.Goals as goal

pub returns-in_err-constraint : goal.returns-in_err-constraint
returns-in_err-constraint c =
    not_there vars.Resource (element_outcome (table_of c.args.styles.now) vars.Resource) (λ c. Ok (record { constraint = c })) c.args.before.now (option_copied c.args.node) c.from_residual.result c.in_err-constraint.field-0.0 c.from_residual.ensures.1 c.in_err-constraint.ensures

pub returns : goal.returns
returns c =
    is_there vars.Resource (element_outcome (table_of c.args.styles.now) vars.Resource) (λ c. Ok (record { constraint = c })) c.args.before.now (option_copied c.args.node) c.in_ok-constraint.constraint (Ok c.new.result) c.in_ok-constraint.ensures
    (ap (λ k. Ok (record { constraint = k })) (sym c.new.ensures))
