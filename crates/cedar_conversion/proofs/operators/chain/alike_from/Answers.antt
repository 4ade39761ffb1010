use Rattle.std.proofs.Common.{◌<◌, length, arith, ap, ◌∙◌}
use Rattle.std.proofs.lemmas.Grind.{common_steps}
use Rattle.cedar_conversion.specs.outcome.Held.{as_expression}
use Rattle.cedar_conversion.specs.outcome.Outcome.{both, next}
use Rattle.cedar_conversion.specs.machines.Views.{plain, alike_outcome}
use Rattle.cedar_conversion.proofs.Outcomes.{behind_refused, given_next, gives_at, passed_on, refused_next}
use Rattle.cedar_conversion.proofs.Parts.{alike_some}
use Rattle.cedar_conversion.proofs.operators.chain.alike_from.Goals as goal

pub returns-in_err-first-in-Ok : goal.returns-in_err-first-in-Ok
returns-in_err-first-in-Ok g c x ps h k =
    let m = g.B.ExprBuilderInfallibleBuild.meaning in
    let some : 0 < length c.in-Ok.rest.items = grind (arith, common_steps) in
    let given = rw c.in-Ok.is at k in
    gives_at (plain m) c.from_residual.result _ _ (ap (λ z. next (both x z) (alike_outcome g.O.JoinsAlike.level c.args.loc.now)) given ∙ alike_some g.O.JoinsAlike.level c.args.loc.now x (λ e. (g.O.JoinsAlike.operator, m e)) c.in-Ok.rest.items some)
    (passed_on (plain m) c.from_residual.result c.in_err-first-in-Ok.field-0.0 _ c.from_residual.ensures.1 (refused_next c.in_err-first-in-Ok.field-0.0 _ _ (c.in_err-first-in-Ok.ensures x h)))

pub returns-in_ok-first-in-Ok : goal.returns-in_ok-first-in-Ok
returns-in_ok-first-in-Ok g c x ps h k =
    let m = g.B.ExprBuilderInfallibleBuild.meaning in
    let some : 0 < length c.in-Ok.rest.items = grind (arith, common_steps) in
    let given = rw c.in-Ok.is at k in
    gives_at (plain m) c.combine.result _ _ (ap (λ z. next (both x z) (alike_outcome g.O.JoinsAlike.level c.args.loc.now)) given ∙ alike_some g.O.JoinsAlike.level c.args.loc.now x (λ e. (g.O.JoinsAlike.operator, m e)) c.in-Ok.rest.items some
    ∙ given_next (next x as_expression) _ _ (c.in_ok-first-in-Ok.ensures x h)) c.combine.ensures

pub returns-in-Err : goal.returns-in-Err
returns-in-Err g c x ps h k =
    refused_next c.behind.result _ _ (behind_refused (plain g.B.ExprBuilderInfallibleBuild.meaning) _ c.in-Err.failure x ps c.behind.result h (rw c.in-Err.is at k) c.behind.ensures)
