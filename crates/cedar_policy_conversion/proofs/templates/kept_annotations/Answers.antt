use Rattle.cedar_policy_conversion.proofs.PolicyLists.{kept_all, kept_is}
use Rattle.cedar_policy_conversion.proofs.templates.kept_annotations.Goals as goal

pub returns : goal.returns
returns c =
    let v = c.in_ok-by_key.ensures in
    kept_all _ _ (λ a t e. kept_is a t e.text e.at e.spells e.stands e.says.2.0 e.says.2.1) c.args.policy.now.annotations c.as_slice.result.now v.0 v.1 _ c.from.result c.as_slice.ensures v.2 v.3 v.4 c.from.ensures
