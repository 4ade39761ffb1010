use Rattle.std.proofs.Common.{◌≡◌, [], ◌∷◌, ◌++◌, List, codes, ap, ◌∙◌, subst, OnOk}
use Rattle.json.specs.Token.{Token}
use Rattle.json.specs.Tree.{json_tokens}
use Rattle.cedar_expressions.specs.declared.atoms.SlotId.TheVariants as slots
use Rattle.cedar_policy_store.specs.PlaceFree.{constraint_meaning}
use Rattle.cedar_policy_store.specs.PolicyText.{effect_text}
use Rattle.cedar_json_writer.specs.PolicyForms.{constraint_json, action_json}
use Rattle.cedar_json_writer.proofs.Policies.{scope_in_turn}
use Rattle.cedar_json_writer.proofs.Steps.{Added, written, in_turn, finish, same_added}
use Rattle.cedar_json_writer.proofs.policy.write_scope.Goals as goal

pub returns : goal.returns
returns c =
    let t = c.args.template.now in
    let p : c.as_inner-principal.result.now ≡ t.principal.constraint = c.as_inner-principal.ensures ∙ ap (λ x. x.constraint) c.principal_constraint.ensures in
    let r : c.as_inner-resource.result.now ≡ t.resource.constraint = c.as_inner-resource.ensures ∙ ap (λ x. x.constraint) c.resource_constraint.ensures in
    let front : List Token = Token.begin_object ∷ Token.key (codes "effect") ∷ Token.string (effect_text t.effect) ∷ [] in
    let first : Token = Token.key (codes "principal") in
    let second : Token = Token.key (codes "action") in
    let third : Token = Token.key (codes "resource") in
    let principal : List Token = json_tokens (constraint_json slots.Principal (constraint_meaning t.principal.constraint)) in
    let action : List Token = json_tokens (action_json t.action) in
    let resource : List Token = json_tokens (constraint_json slots.Resource (constraint_meaning t.resource.constraint)) in
    let one = in_turn c.args.out.now c.write_effect.new.out c.key.new.self front (first ∷ []) (subst (λ x. Added c.args.out.now c.write_effect.new.out (Token.begin_object ∷ Token.key (codes "effect") ∷ Token.string (effect_text x) ∷ [])) c.effect.ensures c.in_ok-write_effect.ensures) (written c.write_effect.new.out c.key.new.self first c.in_ok-key.ensures) in
    let two = in_turn c.args.out.now c.key.new.self c.write_constraint.new.out (front ++ first ∷ []) principal one (subst (λ x. Added c.key.new.self c.write_constraint.new.out (json_tokens (constraint_json slots.Principal (constraint_meaning x)))) p c.in_ok-write_constraint.ensures) in
    let three = in_turn c.args.out.now c.write_constraint.new.out c.key-2.new.self ((front ++ first ∷ []) ++ principal) (second ∷ []) two (written c.write_constraint.new.out c.key-2.new.self second c.in_ok-key-2.ensures) in
    let four = in_turn c.args.out.now c.key-2.new.self c.write_action.new.out (((front ++ first ∷ []) ++ principal) ++ second ∷ []) action three (subst (λ x. Added c.key-2.new.self c.write_action.new.out (json_tokens (action_json x))) c.action_constraint.ensures c.in_ok-write_action.ensures) in
    let five = in_turn c.args.out.now c.write_action.new.out c.key-3.new.self ((((front ++ first ∷ []) ++ principal) ++ second ∷ []) ++ action) (third ∷ []) four (written c.write_action.new.out c.key-3.new.self third c.in_ok-key-3.ensures) in
    same_added c.write_constraint-2.result c.args.out.now c.write_constraint-2.new.out ((((((front ++ first ∷ []) ++ principal) ++ second ∷ []) ++ action) ++ third ∷ []) ++ resource) _
    (scope_in_turn (front ++ first ∷ []) principal action resource second third)
    (finish c.write_constraint-2.result c.args.out.now c.key-3.new.self c.write_constraint-2.new.out _ resource five (subst (λ x. OnOk c.write_constraint-2.result (Added c.key-3.new.self c.write_constraint-2.new.out (json_tokens (constraint_json slots.Resource (constraint_meaning x))))) r c.write_constraint-2.ensures))
