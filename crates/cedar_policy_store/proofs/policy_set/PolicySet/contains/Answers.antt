use Rattle.std.proofs.Common.{sym, ap, ◌∙◌}
use Rattle.std.specs.FinMap as map
use Rattle.cedar_policy_store.proofs.MapsByText.{contains-map_in}
use Rattle.cedar_policy_store.proofs.NamedPolicies.{or_first, or_second}
use Rattle.cedar_policy_store.proofs.policy_set.PolicySet.contains.Goals as goal

pub returns-then-contains_key : goal.returns-then-contains_key
returns-then-contains_key c =
    or_first (map.contains_key c.args.self.now.policies c.args.id.now) (map.contains_key c.args.self.now.templates c.args.id.now) c.contains_key.result
    (c.contains_key.ensures
    ∙ sym (contains-map_in c.self.inside.policies c.args.id.now c.self.invariant.0)
    ∙ ap (λ s. map.contains_key s.policies c.args.id.now) c.self.view_is)
    c.if-contains_key.true

pub returns-else-contains_key : goal.returns-else-contains_key
returns-else-contains_key c =
    or_second (map.contains_key c.args.self.now.policies c.args.id.now) (map.contains_key c.args.self.now.templates c.args.id.now) c.contains_key.result c.contains_key-else-contains_key.result
    (c.contains_key.ensures
    ∙ sym (contains-map_in c.self.inside.policies c.args.id.now c.self.invariant.0)
    ∙ ap (λ s. map.contains_key s.policies c.args.id.now) c.self.view_is)
    c.if-contains_key.false
    (c.contains_key-else-contains_key.ensures
    ∙ sym (contains-map_in c.self.inside.templates c.args.id.now c.self.invariant.1)
    ∙ ap (λ s. map.contains_key s.templates c.args.id.now) c.self.view_is)
