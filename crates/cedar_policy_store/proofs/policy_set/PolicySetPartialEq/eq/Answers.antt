use Rattle.std.proofs.Common.{sym, ◌∙◌}
use Rattle.cedar_policy_store.specs.TextMap.{same_map_by}
use Rattle.cedar_policy_store.specs.contracts.template.TemplatePartialEq.TheImpl as template_eq
use Rattle.cedar_policy_store.proofs.MapsByText.{same-map_in}
use Rattle.cedar_policy_store.proofs.NamedPolicies.{and_first, and_second}
use Rattle.cedar_policy_store.proofs.policy_set.PolicySetPartialEq.eq.Goals as goal

pub returns-then-eq : goal.returns-then-eq
returns-then-eq c =
    and_second
    (same_map_by template_eq.ghosts.eq c.args.self.now.policies c.args.other.now.policies)
    (same_map_by template_eq.ghosts.eq c.args.self.now.templates c.args.other.now.templates)
    c.eq.result
    c.eq-then-eq.result
    (c.eq.ensures
    ∙ sym (same-map_in template_eq.ghosts.eq c.self.inside.policies c.other.inside.policies c.self.invariant.0 c.other.invariant.0)
    ∙ (λ i. same_map_by template_eq.ghosts.eq (c.self.view_is i).policies (c.other.view_is i).policies))
    c.if-eq.true
    (c.eq-then-eq.ensures
    ∙ sym (same-map_in template_eq.ghosts.eq c.self.inside.templates c.other.inside.templates c.self.invariant.1 c.other.invariant.1)
    ∙ (λ i. same_map_by template_eq.ghosts.eq (c.self.view_is i).templates (c.other.view_is i).templates))

pub returns-else-eq : goal.returns-else-eq
returns-else-eq c =
    and_first
    (same_map_by template_eq.ghosts.eq c.args.self.now.policies c.args.other.now.policies)
    (same_map_by template_eq.ghosts.eq c.args.self.now.templates c.args.other.now.templates)
    c.eq.result
    (c.eq.ensures
    ∙ sym (same-map_in template_eq.ghosts.eq c.self.inside.policies c.other.inside.policies c.self.invariant.0 c.other.invariant.0)
    ∙ (λ i. same_map_by template_eq.ghosts.eq (c.self.view_is i).policies (c.other.view_is i).policies))
    c.if-eq.false
