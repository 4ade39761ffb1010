use Rattle.std.proofs.Common.{refl, sym, ◌∙◌}
use Rattle.cedar_policy_store.specs.TemplateSlots.{template_slots}
use Rattle.cedar_policy_store.proofs.FirstSlots.{none_at_all}
use Rattle.cedar_policy_store.proofs.static_policy.unless_slot.Goals as goal

pub invariant_of-result : goal.invariant_of-result
invariant_of-result c = none_at_all (template_slots c.args.template) (sym c.requires ∙ c.in-None.is)

pub returns-in-None : goal.returns-in-None
returns-in-None c = (refl, none_at_all (template_slots c.args.template) (sym c.requires ∙ c.in-None.is))
