use Rattle.std.proofs.Common.{sym, ap, ◌∙◌}
use Rattle.std.specs.FinMap as map
use Rattle.cedar_policy_store.proofs.MapsByText.{len-map_in}
use Rattle.cedar_policy_store.proofs.annotation.Annotations.is_empty.Goals as goal

pub returns : goal.returns
returns c =
    let same = sym (ap (λ m. map.len m) c.self.view_is) ∙ len-map_in c.self.inside.by_key c.self.invariant in
    (λ empty. same ∙ c.is_empty.ensures.0 empty, λ none. c.is_empty.ensures.1 (sym same ∙ none))
