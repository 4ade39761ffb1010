use Rattle.std.proofs.Common.{[], ◌∷◌, ◌++◌, List, codes, subst}
use Rattle.std.specs.FinMap.{values}
use Rattle.json.specs.Token.{Token}
use Rattle.cedar_json_writer.proofs.Policies.{named_tokens, set_in_turn}
use Rattle.cedar_json_writer.proofs.Steps.{Added, written, in_turn}
use Rattle.cedar_json_writer.proofs.policy.write_set.Goals as goal

pub returns-clause-tokens : goal.returns-clause-tokens
returns-clause-tokens c =
    let out = c.args.out.now in
    let first : Token = Token.key (codes "staticPolicies") in
    let second : Token = Token.key (codes "templates") in
    let front : List Token = Token.begin_object ∷ first ∷ [] in
    let policies : List Token = Token.begin_object ∷ named_tokens (values c.args.set.now.policies) in
    let templates : List Token = Token.begin_object ∷ named_tokens (values c.args.set.now.templates) in
    let links : List Token = Token.key (codes "templateLinks") ∷ Token.begin_array ∷ Token.end_array ∷ Token.end_object ∷ [] in
    let opened = in_turn out c.begin_object.new.self c.key.new.self (Token.begin_object ∷ []) (first ∷ []) (written out c.begin_object.new.self Token.begin_object c.in_ok-begin_object.ensures) (written c.begin_object.new.self c.key.new.self first c.in_ok-key.ensures) in
    let one = in_turn out c.key.new.self c.write_static_policies.new.out front policies opened c.in_ok-write_static_policies.ensures.tokens in
    let two = in_turn out c.write_static_policies.new.out c.key-2.new.self (front ++ policies) (second ∷ []) one (written c.write_static_policies.new.out c.key-2.new.self second c.in_ok-key-2.ensures) in
    let three = in_turn out c.key-2.new.self c.write_templates.new.out ((front ++ policies) ++ second ∷ []) templates two c.in_ok-write_templates.ensures.tokens in
    subst (λ (ts : List Token). Added out c.write_no_links.new.out ts) (set_in_turn front policies templates links second)
    (in_turn out c.write_templates.new.out c.write_no_links.new.out (((front ++ policies) ++ second ∷ []) ++ templates) links three c.in_ok-write_no_links.ensures)
