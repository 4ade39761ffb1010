use Rattle.cedar_conversion.proofs.Outcomes.{refuses_with}
use Rattle.cedar_policy_conversion.specs.Policies.{scope_slots, template_parts}
use Rattle.cedar_policy_conversion.proofs.PolicySides.{no_slots, unless_none, unless_some}
use Rattle.cedar_policy_conversion.proofs.templates.only_static.Goals as goal

pub returns-in-Some : goal.returns-in-Some
returns-in-Some c =
    let parts = template_parts c.args.template in
    refuses_with c.found_slot.result _ _ _ _ (unless_some c.args.loc.now (scope_slots parts) parts c.in-Some.slot c.in-Some.ensures) c.found_slot.ensures

pub of_static-requires : goal.of_static-requires
of_static-requires c = no_slots c.args.template c.requires c.in-None.ensures

pub returns-in-None : goal.returns-in-None
returns-in-None c = unless_none c.args.loc.now c.args.template c.of_static.result c.of_static.ensures c.in-None.ensures
