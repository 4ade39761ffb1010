use Rattle.std.proofs.Common.{Ok, ap, sym, ◌∙◌}
use Rattle.cedar_expressions.specs.declared.atoms.Var.TheVariants as vars
use Rattle.cedar_syntax.specs.declared.cst.RelOp.TheVariants as rel
use Rattle.cedar_conversion.specs.strict.Table.{table_of}
use Rattle.cedar_policy_conversion.specs.References.{one_or_multiple}
use Rattle.cedar_policy_conversion.proofs.LoneValues.{made_right}
use Rattle.cedar_policy_conversion.proofs.scope.action.action_in.Goals as goal

pub returns-in_ok-within-in-Ok : goal.returns-in_ok-within-in-Ok
returns-in_ok-within-in-Ok c =
    made_right (table_of c.args.site.styles.now) one_or_multiple vars.Action rel.In c.args.right.now c.in-Ok.refs _ _ (rw c.in-Ok.is at c.to_ref_or_refs-answer.ensures)
    ∙ ap Ok (sym c.in_ok-within-in-Ok.ensures)
