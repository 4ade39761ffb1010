use Rattle.std.proofs.Common.{sym, ◌∙◌}
use Rattle.cedar_conversion.specs.outcome.Held.{as_expression}
use Rattle.cedar_conversion.specs.outcome.Outcome.{next}
use Rattle.cedar_conversion.specs.strict.Table.{table_of}
use Rattle.cedar_conversion.proofs.Accesses.{as_value, call_of_variable}
use Rattle.cedar_conversion.proofs.Outcomes.{gives_at, given_next, passed_on, refused_next}
use Rattle.cedar_conversion.proofs.primaries.members.of_value.Goals as goal

pub returns-in-Some : goal.returns-in-Some
returns-in-Some g c x a all h k =
    let seen = rw (c.as_slice.ensures.value, k) at (c.called_variable.ensures g.B.ExprBuilderInfallibleBuild.meaning) in
    call_of_variable (table_of c.args.site.styles.now) c.args.site.loc.now g.B.ExprBuilderInfallibleBuild.meaning _ x a all c.in-Some.var c.variable_call.result (sym seen ∙ c.in-Some.is) h c.variable_call.ensures

pub returns-in_err-value : goal.returns-in_err-value
returns-in_err-value g c x a all h k =
    let seen = rw (c.as_slice.ensures.value, k) at (c.called_variable.ensures g.B.ExprBuilderInfallibleBuild.meaning) in
    gives_at _ c.from_residual.result _ _ (as_value (table_of c.args.site.styles.now) c.args.site.loc.now g.B.ExprBuilderInfallibleBuild.meaning _ x a all c.requires (sym seen ∙ c.in_default.is) h)
    (passed_on _ c.from_residual.result c.in_err-value.field-0.0 _ c.from_residual.ensures.1 (refused_next c.in_err-value.field-0.0 _ _ (c.in_err-value.ensures x h)))

pub returns : goal.returns
returns g c x a all h k =
    let seen = rw (c.as_slice.ensures.value, k) at (c.called_variable.ensures g.B.ExprBuilderInfallibleBuild.meaning) in
    gives_at _ c.apply_accesses.result _ _ (as_value (table_of c.args.site.styles.now) c.args.site.loc.now g.B.ExprBuilderInfallibleBuild.meaning _ x a all c.requires (sym seen ∙ c.in_default.is) h ∙ given_next (next x as_expression) _ _ (c.in_ok-value.ensures x h))
    (rw k at c.apply_accesses.ensures)
