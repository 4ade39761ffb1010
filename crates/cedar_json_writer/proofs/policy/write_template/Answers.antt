use Rattle.std.proofs.Common.{[], ◌∷◌, ◌++◌, List, ℕ, Option, codes, ap, sym, ◌∙◌, subst, map}
use Rattle.std.specs.FinMap.{entries}
use Rattle.std.specs.Option.{option_map}
use Rattle.json.specs.Token.{Token}
use Rattle.json.specs.Tree.{json_tokens, items_tokens, members_tokens}
use Rattle.cedar_expressions.specs.declared.atoms.SlotId.TheVariants as slots
use Rattle.cedar_expressions.specs.declared.expr.Expr.{Expr}
use Rattle.cedar_expressions.specs.Meaning.{unplaced}
use Rattle.cedar_policy_store.specs.PlaceFree.{constraint_meaning, at_value, annotation_value, template_meaning}
use Rattle.cedar_policy_store.specs.PolicyText.{effect_text}
use Rattle.cedar_policy_store.proofs.EqualPolicies.{entries-with_values}
use Rattle.cedar_json_writer.specs.PolicyForms.{constraint_json, action_json, conditions_listed, condition_items, annotations_member}
use Rattle.cedar_json_writer.specs.machines.Outputs.{scope_tokens}
use Rattle.cedar_json_writer.proofs.Policies.{policy_in_turn}
use Rattle.cedar_json_writer.proofs.Steps.{Added, in_turn}
use Rattle.cedar_json_writer.proofs.policy.write_template.Goals as goal

pub returns-clause-tokens : goal.returns-clause-tokens
returns-clause-tokens c =
    let t = c.args.template.now in
    let m = template_meaning t in
    let front : List Token = Token.begin_object ∷ Token.key (codes "effect") ∷ Token.string (effect_text t.effect) ∷ Token.key (codes "principal") ∷ [] in
    let second : Token = Token.key (codes "action") in
    let third : Token = Token.key (codes "resource") in
    let last : Token = Token.key (codes "conditions") in
    let principal : List Token = json_tokens (constraint_json slots.Principal (constraint_meaning t.principal.constraint)) in
    let action : List Token = json_tokens (action_json t.action) in
    let resource : List Token = json_tokens (constraint_json slots.Resource (constraint_meaning t.resource.constraint)) in
    let items : List Token = items_tokens (condition_items (conditions_listed m.condition)) in
    let more : List Token = members_tokens (annotations_member (entries m.annotations)) in
    let conditions = subst (λ (o : Option Expr). Added c.write_scope.new.out c.write_conditions_member.new.out (last ∷ Token.begin_array ∷ items_tokens (condition_items (conditions_listed (option_map unplaced o))))) c.non_scope_constraints.ensures c.in_ok-write_conditions_member.ensures.tokens in
    let annotations = subst (λ (xs : List (List ℕ × List ℕ)). Added c.write_conditions_member.new.out c.write_annotations_member.new.out (members_tokens (annotations_member xs)))
    (ap (λ x. map (at_value annotation_value) (entries x)) c.annotations.ensures ∙ sym (entries-with_values annotation_value t.annotations)) c.in_ok-write_annotations_member.ensures in
    subst (λ (ts : List Token). Added c.args.out.now c.write_annotations_member.new.out ts)
    (policy_in_turn front principal action resource items more second third last Token.begin_array)
    (in_turn c.args.out.now c.write_conditions_member.new.out c.write_annotations_member.new.out (scope_tokens m ++ last ∷ Token.begin_array ∷ items) more
    (in_turn c.args.out.now c.write_scope.new.out c.write_conditions_member.new.out (scope_tokens m) (last ∷ Token.begin_array ∷ items) c.in_ok-write_scope.ensures conditions) annotations)
