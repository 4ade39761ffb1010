use Rattle.std.proofs.Common.{sym, subst, ◌∙◌}
use Rattle.cedar_syntax.specs.faults.ParseErrors.{faults_of}
use Rattle.cedar_conversion.specs.outcome.Seen.{Refuses, named_faults}
use Rattle.cedar_conversion.proofs.Outcomes.{kept_refusal}
use Rattle.cedar_policy_conversion.specs.Policies.{only_static}
use Rattle.cedar_policy_conversion.proofs.PolicySides.{static_faulty}
use Rattle.cedar_policy_conversion.proofs.templates.refused_static.Goals as goal

pub returns-in-Ok : goal.returns-in-Ok
returns-in-Ok c place o h =
    let told = subst (λ f. Refuses f o) (sym c.from.ensures ∙ c.in-Errors.is) h in
    kept_refusal c.of_errors.result _ (only_static place o) c.of_errors.ensures
    (static_faulty place o (named_faults (faults_of c.in-Errors.faults)) (named_faults (faults_of c.add_static_faults.new.faults)) told c.in-Ok.ensures)
