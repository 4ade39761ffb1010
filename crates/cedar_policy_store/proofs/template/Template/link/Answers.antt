use Rattle.std.proofs.Common.{◌≡◌, ◌∙◌, subst}
use Rattle.cedar_expressions.specs.declared.atoms.SlotId.TheVariants.{Principal, Resource}
use Rattle.cedar_policy_store.specs.Links.{Fits}
use Rattle.cedar_policy_store.specs.TemplateSlots.{template_slots}
use Rattle.cedar_policy_store.proofs.Linked.{no_slots}
use Rattle.cedar_policy_store.proofs.template.Template.link.Goals as goal

pub of_static-requires : goal.of_static-requires
of_static-requires c =
    let principal : c.as_slice.result.now ≡ template_slots c.args.self.now = c.as_slice.ensures.value ∙ c.in_ok-slots.ensures in
    let resource : c.as_slice-2.result.now ≡ template_slots c.args.self.now = c.as_slice-2.ensures.value ∙ c.in_ok-slots.ensures in
    no_slots c.args.entities.now c.args.self.now c.in_ok-with_entities.field-0 c.args.id c.in_ok-with_entities.ensures
    (subst (λ slots. Fits slots c.args.entities.now Principal) principal c.in_ok-fit.ensures.fits)
    (subst (λ slots. Fits slots c.args.entities.now Resource) resource c.in_ok-fit-2.ensures.fits)
