-- Where parentheses may be put: tokens that stand, in tokens which mean a set, as the whole
-- expression of a condition, or as an entity or a slot of a scope. One relation for each level of
-- the strict grammar, from the entity outwards: of the tokens before, those that stand so, and
-- those behind. Each level has the strict grammar's premises of all that stands beside, so that
-- the whole means the set.
use Rattle.std.specs.Prelude.{◌≡◌, ℕ, true, false, List, [], ◌∷◌, ◌++◌, fold, length}
use Rattle.std.specs.List.{list_all}
use Rattle.std.specs.Map.{keys_of}
use Rattle.cedar_lexer.specs.Token.{Lexeme}
use Rattle.cedar_lexer.specs.declared.token.TokenKind.{TokenKind}
use Rattle.cedar_lexer.specs.declared.token.TokenKind.TheVariants as kind
use Rattle.cedar_expressions.specs.Keys.{repeats_key}
use Rattle.cedar_expressions.specs.Slots.{slots_of}
use Rattle.cedar_expressions.specs.Value as v
use Rattle.cedar_expressions.specs.Value.{Value}
use Rattle.cedar_expressions.specs.declared.entity.EntityUID.{EntityUID}
use Rattle.cedar_policy_store.specs.declared.constraints.ActionConstraint.{ActionConstraint}
use Rattle.cedar_policy_store.specs.declared.constraints.ActionConstraint.TheVariants as action
use Rattle.cedar_policy_store.specs.declared.effect.Effect.{Effect}
use Rattle.cedar_policy_store.specs.Actions.{is_action}
use Rattle.cedar_policy_store.specs.PlaceFree.{Constraint, equal_to, inside, typed_inside, Reference, Policy, Policies}
use Rattle.cedar_syntax.specs.tokens.Tokens.{Spot, one}
use Rattle.cedar_conversion.specs.strict.Extensions.{Extensions}
use Rattle.cedar_policy_conversion.specs.PolicyMeaning.{joint_condition, no_policies, policy_id, with_policy}
use Rattle.cedar_conversion.specs.strict.Strict.{Means, expression}
use Rattle.cedar_policy_parser.specs.meaning.StrictPolicy.{AreAnnotations, by_key, IsCondition, AreConditions, IsEffect, IsPolicy, ArePolicies}
use Rattle.cedar_policy_parser.specs.meaning.StrictScope.{IsEntityAlone, IsReference, AreEntities, Asks, AsksAction, IsLastComma, IsScope}
use Rattle.cedar_conversion.specs.strict.StrictWords.{IsName, IsEntity, path_value}

-- an entity or a slot itself, or that in parentheses
pub data InReference (slot : TokenKind) : List Lexeme → List Lexeme → List Lexeme → Reference
    → Type 0 where
  itself : {vs : List Lexeme} {r : Reference} → IsReference slot vs r → InReference slot [] vs [] r
  in_parentheses : {b vs a : List Lexeme} {r : Reference} (l m : Spot) → InReference slot b vs a r
      → InReference slot (one kind.OpenParen l ++ b) vs (a ++ one kind.CloseParen m) r

-- an entity itself, or that in parentheses
pub data InEntity : List Lexeme → List Lexeme → List Lexeme → EntityUID → Type 0 where
  itself : {vs : List Lexeme} {uid : EntityUID} → IsEntityAlone vs uid → InEntity [] vs [] uid
  in_parentheses : {b vs a : List Lexeme} {uid : EntityUID} (l m : Spot) → InEntity b vs a uid
      → InEntity (one kind.OpenParen l ++ b) vs (a ++ one kind.CloseParen m) uid

-- in the element of the principal or the resource
pub data InAsks (slot : TokenKind) : List Lexeme → List Lexeme → List Lexeme → Constraint
    → Type 0 where
  to_be : {b vs a : List Lexeme} {r : Reference} (p : Spot) → InReference slot b vs a r
      → InAsks slot (one kind.EqEq p ++ b) vs a (equal_to r)
  to_be_in : {b vs a : List Lexeme} {r : Reference} (p : Spot) → InReference slot b vs a r
      → InAsks slot (one kind.In p ++ b) vs a (inside r)
  to_be_of_type_in : {ts b vs a : List Lexeme} {ids : List (List ℕ)} {id : List ℕ} {r : Reference}
      (p q : Spot) → IsName ts ids id → InReference slot b vs a r
      → InAsks slot (one kind.Is p ++ ts ++ one kind.In q ++ b) vs a
      (typed_inside (record { name = path_value ids id }) r)

-- among the entities of the action's set
pub data InEntities : List Lexeme → List Lexeme → List Lexeme → List EntityUID → Type 0 where
  first : {b vs a : List Lexeme} {uid : EntityUID} → InEntity b vs a uid
      → InEntities b vs a (uid ∷ [])
  last : {ts b vs a : List Lexeme} {uids : List EntityUID} {uid : EntityUID} (p : Spot)
      → AreEntities ts uids → InEntity b vs a uid → InEntities (ts ++ one kind.Comma p ++ b) vs a
      (uids ++ uid ∷ [])
  earlier : {b vs a us : List Lexeme} {uids : List EntityUID} {uid : EntityUID} (p : Spot)
      → InEntities b vs a uids → IsEntityAlone us uid
      → InEntities b vs (a ++ (one kind.Comma p ++ us)) (uids ++ uid ∷ [])

-- right of the action's `in`
pub data InActions : List Lexeme → List Lexeme → List Lexeme → List EntityUID → Type 0 where
  one_action : {vs : List Lexeme} {uid : EntityUID} → IsEntity vs uid
      → InActions [] vs [] (uid ∷ [])
  in_set : {b vs a us : List Lexeme} {uids : List EntityUID} (l m : Spot) → InEntities b vs a uids
      → IsLastComma us → InActions (one kind.OpenBracket l ++ b) vs
      (a ++ (us ++ one kind.CloseBracket m)) uids
  in_parentheses : {b vs a : List Lexeme} {uids : List EntityUID} (l m : Spot)
      → InActions b vs a uids → InActions (one kind.OpenParen l ++ b) vs
      (a ++ one kind.CloseParen m) uids

pub data InAsksAction : List Lexeme → List Lexeme → List Lexeme → ActionConstraint → Type 0 where
  to_be : {b vs a : List Lexeme} {uid : EntityUID} (p : Spot) → InEntity b vs a uid
      → is_action uid ≡ true → InAsksAction (one kind.EqEq p ++ b) vs a (action.Eq uid)
  to_be_in : {b vs a : List Lexeme} {uids : List EntityUID} (p : Spot) → InActions b vs a uids
      → list_all is_action uids ≡ true → InAsksAction (one kind.In p ++ b) vs a (action.In uids)

-- in one of the three elements
pub data InScope : List Lexeme → List Lexeme → List Lexeme → Constraint → ActionConstraint
    → Constraint → Type 0 where
  in_principal : {b xs a us vs ws : List Lexeme} {principal resource : Constraint}
      {c : ActionConstraint} (p l q m r : Spot) → InAsks kind.PrincipalSlot b xs a principal
      → AsksAction us c → Asks kind.ResourceSlot vs resource → IsLastComma ws
      → InScope (one kind.Principal p ++ b) xs
      (a ++ (one kind.Comma l ++ (one kind.Action q ++ us) ++ one kind.Comma m
      ++ (one kind.Resource r ++ vs) ++ ws)) principal c resource
  in_action : {ts b xs a vs ws : List Lexeme} {principal resource : Constraint}
      {c : ActionConstraint} (p l q m r : Spot) → Asks kind.PrincipalSlot ts principal
      → InAsksAction b xs a c → Asks kind.ResourceSlot vs resource → IsLastComma ws
      → InScope ((one kind.Principal p ++ ts) ++ one kind.Comma l ++ one kind.Action q ++ b) xs
      (a ++ (one kind.Comma m ++ (one kind.Resource r ++ vs) ++ ws)) principal c resource
  in_resource : {ts us b xs a ws : List Lexeme} {principal resource : Constraint}
      {c : ActionConstraint} (p l q m r : Spot) → Asks kind.PrincipalSlot ts principal
      → AsksAction us c → InAsks kind.ResourceSlot b xs a resource → IsLastComma ws
      → InScope ((one kind.Principal p ++ ts) ++ one kind.Comma l ++ (one kind.Action q ++ us)
      ++ one kind.Comma m ++ one kind.Resource r ++ b) xs (a ++ ws) principal c resource

-- under a table of what may be called, and a limit of signs in a row
module _ (table : Extensions) (limit : ℕ) where
  -- the whole expression of a condition
  pub data InCondition : List Lexeme → List Lexeme → List Lexeme → Value → Type 0 where
    when : {vs : List Lexeme} {a : Value} (p l m : Spot) → Means table limit expression vs a
        → slots_of a ≡ []
        → InCondition (one kind.When p ++ one kind.OpenBrace l) vs (one kind.CloseBrace m) a
    unless : {vs : List Lexeme} {a : Value} (p l m : Spot) → Means table limit expression vs a
        → slots_of a ≡ []
        → InCondition (one kind.Unless p ++ one kind.OpenBrace l) vs (one kind.CloseBrace m)
        (v.not a)

  pub data InConditions : List Lexeme → List Lexeme → List Lexeme → List Value → Type 0 where
    last : {ts b vs a : List Lexeme} {cs : List Value} {c : Value}
        → AreConditions table limit ts cs → InCondition b vs a c
        → InConditions (ts ++ b) vs a (cs ++ c ∷ [])
    earlier : {b vs a us : List Lexeme} {cs : List Value} {c : Value} → InConditions b vs a cs
        → IsCondition table limit us c → InConditions b vs (a ++ us) (cs ++ c ∷ [])

  pub data InPolicy (id : List ℕ) : List Lexeme → List Lexeme → List Lexeme → Policy → Type 0 where
    in_scope : {ts b xs a vs : List Lexeme} {annotations : List (List ℕ × List ℕ)}
        {k : TokenKind} {effect : Effect} {principal resource : Constraint} {c : ActionConstraint}
        {conditions : List Value} (p l m e : Spot) → AreAnnotations ts annotations
        → repeats_key (keys_of annotations) ≡ false → IsEffect k effect
        → InScope b xs a principal c resource → AreConditions table limit vs conditions
        → InPolicy id (ts ++ one k p ++ one kind.OpenParen l ++ b) xs
        (a ++ (one kind.CloseParen m ++ vs ++ one kind.Semicolon e))
        (record {
          id = id;
          annotations = by_key annotations;
          effect = effect;
          principal = principal;
          action = c;
          resource = resource;
          condition = joint_condition conditions;
        })
    in_conditions : {ts us b xs a : List Lexeme} {annotations : List (List ℕ × List ℕ)}
        {k : TokenKind} {effect : Effect} {principal resource : Constraint} {c : ActionConstraint}
        {conditions : List Value} (p l m e : Spot) → AreAnnotations ts annotations
        → repeats_key (keys_of annotations) ≡ false → IsEffect k effect
        → IsScope us principal c resource → InConditions b xs a conditions
        → InPolicy id (ts ++ one k p ++ one kind.OpenParen l ++ us ++ one kind.CloseParen m ++ b)
        xs (a ++ one kind.Semicolon e)
        (record {
          id = id;
          annotations = by_key annotations;
          effect = effect;
          principal = principal;
          action = c;
          resource = resource;
          condition = joint_condition conditions;
        })

  pub data InPolicies : List Lexeme → List Lexeme → List Lexeme → List Policy → Type 0 where
    last : {ts b vs a : List Lexeme} {ps : List Policy} {p : Policy}
        → ArePolicies table limit ts ps → InPolicy (policy_id (length ps)) b vs a p
        → InPolicies (ts ++ b) vs a (ps ++ p ∷ [])
    earlier : {b vs a us : List Lexeme} {ps : List Policy} {p : Policy} → InPolicies b vs a ps
        → IsPolicy table limit (policy_id (length ps)) us p
        → InPolicies b vs (a ++ us) (ps ++ p ∷ [])

  -- `vs` stands so between `before` and `after`, and all together mean the set
  pub data StandsWhole : List Lexeme → List Lexeme → List Lexeme → Policies → Type 0 where
    in_set : {before vs after : List Lexeme} {ps : List Policy} → InPolicies before vs after ps
        → StandsWhole before vs after (fold with_policy no_policies ps)
