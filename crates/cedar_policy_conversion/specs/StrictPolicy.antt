-- The strict grammar of policies and sets: which tokens mean which. There is no tree and no fault
-- in it. A policy is its annotations, whose keys are all different, its effect, its scope and its
-- conditions, in which no slot stands; a set is policies one behind another, named `policy0`,
-- `policy1` and so on. The rules are those of the policy grammar of Cedar's reference.
use Rattle.std.specs.Prelude.{◌≡◌, ℕ, true, false, List, [], ◌∷◌, ◌++◌, fold, length, codes}
use Rattle.std.specs.FinMap.{FinMap, empty, insert}
use Rattle.std.specs.Map.{keys_of}
use Rattle.cedar_lexer.specs.Token.{Lexeme}
use Rattle.cedar_lexer.specs.declared.token.TokenKind.{TokenKind}
use Rattle.cedar_lexer.specs.declared.token.TokenKind.TheVariants as kind
use Rattle.cedar_expressions.specs.Keys.{repeats_key}
use Rattle.cedar_expressions.specs.Path.{is_identifier}
use Rattle.cedar_expressions.specs.Value as v
use Rattle.cedar_expressions.specs.Value.{Value}
use Rattle.cedar_policy_store.specs.declared.constraints.ActionConstraint.{ActionConstraint}
use Rattle.cedar_policy_store.specs.declared.effect.Effect.{Effect}
use Rattle.cedar_policy_store.specs.declared.effect.Effect.TheVariants as effects
use Rattle.cedar_policy_store.specs.PlaceFree.{Constraint, Policy, Policies}
use Rattle.cedar_policy_store.specs.TextMap.{text_order}
use Rattle.cedar_syntax.specs.tokens.Tokens.{Spot, one}
use Rattle.cedar_conversion.specs.strict.Extensions.{Extensions}
use Rattle.cedar_policy_conversion.specs.PolicyMeaning.{joint_condition, no_policies, policy_id, with_policy}
use Rattle.cedar_conversion.specs.strict.Strict.{Means, expression}
use Rattle.cedar_policy_conversion.specs.StrictScope.{IsScope}
use Rattle.cedar_conversion.specs.strict.StrictWords.{IsIdentifier, IsText}
use Rattle.cedar_expressions.specs.Slots.{slots_of}

-- ---- annotations

-- the nine words that no name may hold
pub data IsReservedWord : TokenKind → List ℕ → Type 0 where
  true_word : IsReservedWord kind.True (codes "true")
  false_word : IsReservedWord kind.False (codes "false")
  if_word : IsReservedWord kind.If (codes "if")
  then_word : IsReservedWord kind.Then (codes "then")
  else_word : IsReservedWord kind.Else (codes "else")
  in_word : IsReservedWord kind.In (codes "in")
  is_word : IsReservedWord kind.Is (codes "is")
  has_word : IsReservedWord kind.Has (codes "has")
  like_word : IsReservedWord kind.Like (codes "like")

-- an annotation's key: any word of the language or any identifier, `__cedar` too
pub data IsAnyWord : List Lexeme → List ℕ → Type 0 where
  reserved : {k : TokenKind} {text : List ℕ} (p : Spot) → IsReservedWord k text
      → IsAnyWord (one k p) text
  unreserved : {ts : List Lexeme} {text : List ℕ} → IsIdentifier ts text → IsAnyWord ts text
  any_identifier : (p : Spot) → is_identifier p.text ≡ true
      → IsAnyWord (one kind.Identifier p) p.text

-- `@`, a key, and a string in parentheses; without one the text is empty
pub data IsAnnotation : List Lexeme → List ℕ → List ℕ → Type 0 where
  key_alone : {ts : List Lexeme} {key : List ℕ} (p : Spot) → IsAnyWord ts key
      → IsAnnotation (one kind.At p ++ ts) key []
  with_text : {ts us : List Lexeme} {key text : List ℕ} (p l m : Spot) → IsAnyWord ts key
      → IsText us text
      → IsAnnotation (one kind.At p ++ ts ++ one kind.OpenParen l ++ us ++ one kind.CloseParen m)
      key text

pub data AreAnnotations : List Lexeme → List (List ℕ × List ℕ) → Type 0 where
  no_annotation : AreAnnotations [] []
  more_annotations : {ts us : List Lexeme} {all : List (List ℕ × List ℕ)} {key text : List ℕ}
      → AreAnnotations ts all → IsAnnotation us key text
      → AreAnnotations (ts ++ us) (all ++ (key, text) ∷ [])

-- annotations by their keys
abbrev pub by_key : List (List ℕ × List ℕ) → FinMap text_order (List ℕ)
by_key all = fold (λ m p. insert m p.0 p.1) empty all

-- ---- effects

pub data IsEffect : TokenKind → Effect → Type 0 where
  permit : IsEffect kind.Permit effects.Permit
  forbid : IsEffect kind.Forbid effects.Forbid

-- under a table of what may be called, and a limit of signs in a row
module _ (table : Extensions) (limit : ℕ) where
  -- ---- conditions

  -- `when` means its expression, `unless` its negation; no slot stands in it
  pub data IsCondition : List Lexeme → Value → Type 0 where
    when : {ts : List Lexeme} {a : Value} (p l m : Spot) → Means table limit expression ts a
        → slots_of a ≡ []
        → IsCondition (one kind.When p ++ one kind.OpenBrace l ++ ts ++ one kind.CloseBrace m) a
    unless : {ts : List Lexeme} {a : Value} (p l m : Spot) → Means table limit expression ts a
        → slots_of a ≡ []
        → IsCondition (one kind.Unless p ++ one kind.OpenBrace l ++ ts ++ one kind.CloseBrace m)
        (v.not a)

  pub data AreConditions : List Lexeme → List Value → Type 0 where
    no_condition : AreConditions [] []
    more_conditions : {ts us : List Lexeme} {cs : List Value} {c : Value} → AreConditions ts cs
        → IsCondition us c → AreConditions (ts ++ us) (cs ++ c ∷ [])

  -- ---- policies

  -- the policy, a static one or a template, that tokens mean under the name `id`
  pub data IsPolicy (id : List ℕ) : List Lexeme → Policy → Type 0 where
    policy : {ts us vs : List Lexeme} {annotations : List (List ℕ × List ℕ)} {k : TokenKind}
        {effect : Effect} {principal resource : Constraint} {action : ActionConstraint}
        {conditions : List Value} (p l m e : Spot) → AreAnnotations ts annotations
        → repeats_key (keys_of annotations) ≡ false → IsEffect k effect
        → IsScope us principal action resource → AreConditions vs conditions
        → IsPolicy id
        (ts ++ one k p ++ one kind.OpenParen l ++ us ++ one kind.CloseParen m ++ vs
        ++ one kind.Semicolon e)
        (record {
          id = id;
          annotations = by_key annotations;
          effect = effect;
          principal = principal;
          action = action;
          resource = resource;
          condition = joint_condition conditions;
        })

  -- policies one behind another, each named after how many stand before it
  pub data ArePolicies : List Lexeme → List Policy → Type 0 where
    no_policy : ArePolicies [] []
    more_policies : {ts us : List Lexeme} {ps : List Policy} {p : Policy} → ArePolicies ts ps
        → IsPolicy (policy_id (length ps)) us p → ArePolicies (ts ++ us) (ps ++ p ∷ [])

  -- the set that tokens mean: each policy is added to the empty one under its name, as a template
  -- where its scope has a slot, else as a static policy
  pub data IsPolicySet : List Lexeme → Policies → Type 0 where
    policy_set : {ts : List Lexeme} {ps : List Policy} → ArePolicies ts ps
        → IsPolicySet ts (fold with_policy no_policies ps)
