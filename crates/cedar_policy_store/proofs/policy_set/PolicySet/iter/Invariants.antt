-- What is listed are the static policies so far, and then the templates so far.
use Rattle.std.proofs.Common.{◌≡◌, ◌++◌}
use Rattle.std.specs.FinMap as finmap
use Rattle.cedar_policy_store.specs.Listing.{all_lent}
use Rattle.cedar_policy_store.proofs.Listed.{lent_policies, lent_templates, as_policies}
use Rattle.cedar_policy_store.proofs.policy_set.PolicySet.iter.Given as goal

abbrev pub invariant-loop-policy : goal.invariant-loop-policy
invariant-loop-policy l = all_lent l.all.items ≡ lent_policies l.yielded

abbrev pub invariant-loop-template : goal.invariant-loop-template
invariant-loop-template l = all_lent l.all.items ≡ as_policies (finmap.values l.fn.self.policies) ++ lent_templates l.yielded
