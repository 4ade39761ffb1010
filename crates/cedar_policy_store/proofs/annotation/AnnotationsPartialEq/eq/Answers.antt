use Rattle.std.proofs.Common.{sym, ◌∙◌}
use Rattle.cedar_policy_store.specs.TextMap.{same_map_by}
use Rattle.cedar_policy_store.specs.contracts.annotation.AnnotationPartialEq.TheImpl as annotation_eq
use Rattle.cedar_policy_store.proofs.MapsByText.{same-map_in}
use Rattle.cedar_policy_store.proofs.annotation.AnnotationsPartialEq.eq.Goals as goal

pub returns : goal.returns
returns c =
    c.eq.ensures
    ∙ sym (same-map_in annotation_eq.ghosts.eq c.self.inside.by_key c.other.inside.by_key c.self.invariant c.other.invariant)
    ∙ (λ i. same_map_by annotation_eq.ghosts.eq (c.self.view_is i) (c.other.view_is i))
