use Rattle.std.proofs.Common.{◌≡◌, ap, ◌∙◌}
use Rattle.std.specs.Option.{option_copied, option_map}
use Rattle.cedar_expressions.specs.Copies.{copied}
use Rattle.cedar_policy_store.specs.Links.{constraint_with}
use Rattle.cedar_policy_store.proofs.Linked.{condition_means, kept, taken}
use Rattle.cedar_policy_store.proofs.template.Template.with_entities.Goals as goal

pub returns : goal.returns
returns c =
    let es = c.args.entities.now in
    let fifth = kept c.filled_condition-condition.result c.in_ok-parts-4.parts (c.in_ok-parts-5.parts, c.in_ok-parts-5.condition) c.in_ok-parts-5.ensures in
    let fourth = kept c.filled_constraint-resource.result c.in_ok-parts-3.parts c.in_ok-parts-4.parts c.in_ok-parts-4.ensures in
    let third = kept c.try_clone-2.result c.in_ok-parts-2.parts c.in_ok-parts-3.parts c.in_ok-parts-3.ensures in
    let second = kept c.filled_constraint-principal.result c.in_ok-parts.parts c.in_ok-parts-2.parts c.in_ok-parts-2.ensures in
    let first = kept c.try_clone.result c.args.id c.in_ok-parts.parts c.in_ok-parts.ensures in
    let annotations = taken (λ copy. copy ≡ c.annotations.result.now) c.try_clone.result c.args.id c.in_ok-parts.parts c.in_ok-parts.ensures c.try_clone.ensures in
    let principal = taken (λ copy. copy ≡ constraint_with (option_copied c.as_ref.result) c.as_inner.result.now) c.filled_constraint-principal.result c.in_ok-parts.parts c.in_ok-parts-2.parts c.in_ok-parts-2.ensures c.filled_constraint-principal.ensures in
    let action = taken (λ copy. copy ≡ c.action_constraint.result.now) c.try_clone-2.result c.in_ok-parts-2.parts c.in_ok-parts-3.parts c.in_ok-parts-3.ensures c.try_clone-2.ensures in
    let resource = taken (λ copy. copy ≡ constraint_with (option_copied c.as_ref-2.result) c.as_inner-2.result.now) c.filled_constraint-resource.result c.in_ok-parts-3.parts c.in_ok-parts-4.parts c.in_ok-parts-4.ensures c.filled_constraint-resource.ensures in
    let condition = taken (λ copy. copy ≡ option_map (copied es) (option_copied c.non_scope_constraints.result)) c.filled_condition-condition.result c.in_ok-parts-4.parts (c.in_ok-parts-5.parts, c.in_ok-parts-5.condition) c.in_ok-parts-5.ensures c.filled_condition-condition.ensures in
    let whole = c.new-3.ensures.condition ∙ condition ∙ ap (option_map (copied es)) c.non_scope_constraints.ensures in
    record {
      named = c.new-3.ensures.id ∙ ap (λ p. p.0.0.0.0) fifth ∙ ap (λ p. p.0.0.0) fourth ∙ ap (λ p. p.0.0) third ∙ ap (λ p. p.0) second ∙ first;
      place = c.new-3.ensures.place ∙ c.place.ensures;
      annotations = c.new-3.ensures.annotations ∙ ap (λ p. p.0.0.0.1) fifth ∙ ap (λ p. p.0.0.1) fourth ∙ ap (λ p. p.0.1) third ∙ ap (λ p. p.1) second ∙ annotations ∙ c.annotations.ensures;
      effect = c.new-3.ensures.effect ∙ c.effect.ensures;
      principal = ap (λ p. p.constraint) c.new-3.ensures.principal ∙ c.new.ensures ∙ ap (λ p. p.0.0.1) fifth ∙ ap (λ p. p.0.1) fourth ∙ ap (λ p. p.1) third ∙ principal
          ∙ (λ i. constraint_with (c.as_ref.ensures.value i) ((c.as_inner.ensures ∙ ap (λ p. p.constraint) c.principal_constraint.ensures) i));
      action = c.new-3.ensures.action ∙ ap (λ p. p.0.1) fifth ∙ ap (λ p. p.1) fourth ∙ action ∙ c.action_constraint.ensures;
      resource = ap (λ p. p.constraint) c.new-3.ensures.resource ∙ c.new-2.ensures ∙ ap (λ p. p.1) fifth ∙ resource
          ∙ (λ i. constraint_with (c.as_ref-2.ensures.value i) ((c.as_inner-2.ensures ∙ ap (λ p. p.constraint) c.resource_constraint.ensures) i));
      condition = whole;
      meaning = condition_means es c.new-3.result.condition c.args.self.now.condition whole;
    }
