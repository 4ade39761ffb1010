-- What a written text is read as, from what it is meant to be read as.
use Rattle.std.proofs.Common.{◌≡◌, List, ℕ, Result, Ok, Err, MatchResult, ap, ◌∙◌}
use Rattle.cedar_lexer.specs.Cut.{Cuts}
use Rattle.cedar_lexer.specs.Token.{Lexeme}
use Rattle.cedar_expressions.specs.Value.{Value}
use Rattle.cedar_expressions.specs.WithoutPlaces.{without_places}
use Rattle.cedar_policy_store.specs.PlaceFree.{Policy, Policies, set_meaning}
use Rattle.cedar_policy_store.specs.PolicyMaps.{PolicyMaps}
use Rattle.cedar_policy_store.specs.declared.template.Template.{Template}
use Rattle.cedar_syntax.specs.tokens.Signs.{sign_limit}
use Rattle.cedar_conversion.specs.strict.Extensions.{Extensions}
use Rattle.cedar_conversion.specs.strict.Strict.{Means, expression}
use Rattle.cedar_policy_conversion.specs.PolicyMeaning.{no_policies, policy_id, with_policy}
use Rattle.cedar_policy_conversion.specs.StrictPolicy.{IsPolicySet, policy_set, more_policies, no_policy}
use Rattle.cedar_writer.specs.NumberedSets.{IsNumberedSet}
use Rattle.cedar_writer.specs.WrittenTexts.{IsTextOf, IsTextOfPolicy, IsTextOfAll, IsTextOfSet, called, numbered, templates_lent}
use Rattle.cedar_writer.proofs.NumberedSets.{set_itself}

on_ok : {A E : Type 0} (P Q : A → Type 0) (R : E → Type 0) (r : Result A E) → ((x : A) → P x → Q x) → MatchResult r P R → MatchResult r Q R
on_ok P Q R (Ok x) f m = f x m
on_ok P Q R (Err e) f m = m

module _ {A E : Type 0} (table : Extensions) (text : List ℕ) (r : Result A E) (R : E → Type 0) where
  pub expression_written : (meaning : A → Value) (w : Value)
      → ((ts : List Lexeme) (v : Value) → Cuts text ts → Means table sign_limit expression ts v → MatchResult r (λ e. meaning e ≡ v) R)
      → IsTextOf table sign_limit w text → MatchResult r (λ e. without_places (meaning e) ≡ without_places w) R
  expression_written meaning w only h = on_ok (λ e. meaning e ≡ h.2.0) (λ e. without_places (meaning e) ≡ without_places w) R r (λ e same. ap without_places same ∙ h.2.2) (only h.0 h.2.0 h.1 h.2.1)

  module _ (meaning : A → Policies) (only : (ts : List Lexeme) (set : Policies) → Cuts text ts → IsPolicySet table sign_limit ts set → MatchResult r (λ e. meaning e ≡ set) R) where
    pub policy_written : (p : Policy) → IsTextOfPolicy table sign_limit p text → MatchResult r (λ e. meaning e ≡ with_policy no_policies (called (policy_id 0) p)) R
    policy_written p h = only h.0 (with_policy no_policies (called (policy_id 0) p)) h.1 (policy_set (more_policies no_policy (h.2 (policy_id 0))))

    pub policies_written : (all : List Template) → IsTextOfAll table sign_limit all text → MatchResult r (λ e. meaning e ≡ numbered all) R
    policies_written all h = only h.0 (numbered all) h.1 h.2

    pub set_written : (set : PolicyMaps) → IsNumberedSet set → IsTextOfSet table sign_limit set text → MatchResult r (λ e. meaning e ≡ set_meaning set) R
    set_written set is h =
        on_ok (λ e. meaning e ≡ numbered (templates_lent h.0)) (λ e. meaning e ≡ set_meaning set) R r (λ e same. same ∙ set_itself set h.0 is h.1) (policies_written (templates_lent h.0) h.3)
