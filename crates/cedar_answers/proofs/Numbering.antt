-- The policy that a set has under the name of a number: static, a template, or none.
use Rattle.std.proofs.Common.{◌≡◌, ℕ, List, true, false, Option, Some, None, Result, IfOk, option_map, refl}
use Rattle.std.specs.FinMap.{get}
use Rattle.cedar_policy_store.specs.declared.template.Template.{Template}
use Rattle.cedar_policy_store.specs.PolicyMaps.{PolicyMaps}
use Rattle.cedar_syntax.specs.declared.cst.Policy.{Policy}
use Rattle.cedar_syntax.specs.trees.Trees.{Cell}
use Rattle.cedar_policy_conversion.specs.PolicyMeaning.{policy_id}
use Rattle.cedar_answers.specs.Made.{policy_made}
use Rattle.cedar_answers.specs.Told.{numbered_told, policy_told}
use Rattle.cedar_answers.specs.declared.made.MadePolicy.{MadePolicy}

module _ {E : Type 0} (r : Result (Option MadePolicy) E) (text : List ℕ) (set : PolicyMaps) (n : ℕ) (node : Cell Policy) (policy : Template) where
  pub static_told : get set.policies (policy_id n) ≡ Some policy → IfOk r (λ made. option_map policy_made made ≡ Some (policy_told text node policy false)) → IfOk r (λ made. option_map policy_made made ≡ numbered_told text set n node)
  static_told found is = rw found is

  pub template_told : get set.policies (policy_id n) ≡ None → get set.templates (policy_id n) ≡ Some policy → IfOk r (λ made. option_map policy_made made ≡ Some (policy_told text node policy true))
      → IfOk r (λ made. option_map policy_made made ≡ numbered_told text set n node)
  template_told none found is = rw (none, found) is

pub none_told : (text : List ℕ) (set : PolicyMaps) (n : ℕ) (node : Cell Policy) → get set.policies (policy_id n) ≡ None → get set.templates (policy_id n) ≡ None → option_map policy_made None ≡ numbered_told text set n node
none_told text set n node none neither = rw (none, neither) refl
