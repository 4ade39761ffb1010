-- The strict grammar of a policy's scope: which tokens ask what of the principal, the action and
-- the resource. There is no tree and no fault in it. The three stand in this order, joined by `,`,
-- and one more `,` or none behind them; entities, slots and the action's set may stand in
-- parentheses to any depth, as the Rust crate's `to_ref_or_refs` takes them.
use Rattle.std.specs.Prelude.{◌≡◌, ℕ, true, List, [], ◌∷◌, ◌++◌}
use Rattle.std.specs.List.{list_all}
use Rattle.cedar_lexer.specs.Token.{Lexeme}
use Rattle.cedar_lexer.specs.declared.token.TokenKind.{TokenKind}
use Rattle.cedar_lexer.specs.declared.token.TokenKind.TheVariants as kind
use Rattle.cedar_expressions.specs.declared.entity.EntityUID.{EntityUID}
use Rattle.cedar_policy_store.specs.declared.constraints.ActionConstraint.{ActionConstraint}
use Rattle.cedar_policy_store.specs.declared.constraints.ActionConstraint.TheVariants as action
use Rattle.cedar_policy_store.specs.Actions.{is_action}
use Rattle.cedar_policy_store.specs.PlaceFree.{Reference, entity, own_slot, Constraint, any, equal_to, inside, typed, typed_inside}
use Rattle.cedar_syntax.specs.tokens.Tokens.{Spot, one}
use Rattle.cedar_conversion.specs.strict.StrictWords.{IsName, IsEntity, path_value}

-- ---- one entity, a slot, a set

-- an entity, in parentheses or not
pub data IsEntityAlone : List Lexeme → EntityUID → Type 0 where
  bare_entity : {ts : List Lexeme} {uid : EntityUID} → IsEntity ts uid → IsEntityAlone ts uid
  entity_in_parentheses : {ts : List Lexeme} {uid : EntityUID} (l m : Spot) → IsEntityAlone ts uid
      → IsEntityAlone (one kind.OpenParen l ++ ts ++ one kind.CloseParen m) uid

-- an entity, or the slot of the variable, which is the token of this kind
pub data IsReference (slot : TokenKind) : List Lexeme → Reference → Type 0 where
  to_entity : {ts : List Lexeme} {uid : EntityUID} → IsEntity ts uid
      → IsReference slot ts (entity uid)
  to_slot : (p : Spot) → IsReference slot (one slot p) own_slot
  in_parentheses : {ts : List Lexeme} {r : Reference} (l m : Spot) → IsReference slot ts r
      → IsReference slot (one kind.OpenParen l ++ ts ++ one kind.CloseParen m) r

-- entities joined by `,`, one or more
pub data AreEntities : List Lexeme → List EntityUID → Type 0 where
  first_entity : {ts : List Lexeme} {uid : EntityUID} → IsEntityAlone ts uid
      → AreEntities ts (uid ∷ [])
  more_entities : {ts us : List Lexeme} {uids : List EntityUID} {uid : EntityUID} (p : Spot)
      → AreEntities ts uids → IsEntityAlone us uid
      → AreEntities (ts ++ one kind.Comma p ++ us) (uids ++ uid ∷ [])

-- what stands between the brackets of a set: nothing, or entities and one more `,` or none
pub data IsEntityList : List Lexeme → List EntityUID → Type 0 where
  no_entities : IsEntityList [] []
  listed : {ts : List Lexeme} {uids : List EntityUID} → AreEntities ts uids → IsEntityList ts uids
  listed_comma : {ts : List Lexeme} {uids : List EntityUID} (p : Spot) → AreEntities ts uids
      → IsEntityList (ts ++ one kind.Comma p) uids

-- right of the action's `in`: one entity, or a set of them
pub data AreActions : List Lexeme → List EntityUID → Type 0 where
  one_action : {ts : List Lexeme} {uid : EntityUID} → IsEntity ts uid → AreActions ts (uid ∷ [])
  action_set : {ts : List Lexeme} {uids : List EntityUID} (l m : Spot) → IsEntityList ts uids
      → AreActions (one kind.OpenBracket l ++ ts ++ one kind.CloseBracket m) uids
  actions_in_parentheses : {ts : List Lexeme} {uids : List EntityUID} (l m : Spot)
      → AreActions ts uids
      → AreActions (one kind.OpenParen l ++ ts ++ one kind.CloseParen m) uids

-- ---- what is asked

-- behind the word of the principal or the resource, whose slot is the token of this kind
pub data Asks (slot : TokenKind) : List Lexeme → Constraint → Type 0 where
  nothing : Asks slot [] any
  to_be : {ts : List Lexeme} {r : Reference} (p : Spot) → IsReference slot ts r
      → Asks slot (one kind.EqEq p ++ ts) (equal_to r)
  to_be_in : {ts : List Lexeme} {r : Reference} (p : Spot) → IsReference slot ts r
      → Asks slot (one kind.In p ++ ts) (inside r)
  to_be_of_type : {ts : List Lexeme} {ids : List (List ℕ)} {id : List ℕ} (p : Spot)
      → IsName ts ids id
      → Asks slot (one kind.Is p ++ ts) (typed (record { name = path_value ids id }))
  to_be_of_type_in : {ts us : List Lexeme} {ids : List (List ℕ)} {id : List ℕ} {r : Reference}
      (p q : Spot) → IsName ts ids id → IsReference slot us r
      → Asks slot (one kind.Is p ++ ts ++ one kind.In q ++ us)
      (typed_inside (record { name = path_value ids id }) r)

-- behind `action`; the last identifier of each entity's type is `Action`
pub data AsksAction : List Lexeme → ActionConstraint → Type 0 where
  nothing : AsksAction [] action.Any
  to_be : {ts : List Lexeme} {uid : EntityUID} (p : Spot) → IsEntityAlone ts uid
      → is_action uid ≡ true → AsksAction (one kind.EqEq p ++ ts) (action.Eq uid)
  to_be_in : {ts : List Lexeme} {uids : List EntityUID} (p : Spot) → AreActions ts uids
      → list_all is_action uids ≡ true → AsksAction (one kind.In p ++ ts) (action.In uids)

-- ---- the scope

-- one more `,` or none
pub data IsLastComma : List Lexeme → Type 0 where
  no_comma : IsLastComma []
  last_comma : (p : Spot) → IsLastComma (one kind.Comma p)

-- what stands between the parentheses of a policy
pub data IsScope : List Lexeme → Constraint → ActionConstraint → Constraint → Type 0 where
  scope : {ts us vs ws : List Lexeme} {principal resource : Constraint} {a : ActionConstraint}
      (p l q m r : Spot) → Asks kind.PrincipalSlot ts principal → AsksAction us a
      → Asks kind.ResourceSlot vs resource → IsLastComma ws
      → IsScope
      (((one kind.Principal p ++ ts) ++ one kind.Comma l ++ (one kind.Action q ++ us))
      ++ one kind.Comma m ++ (one kind.Resource r ++ vs) ++ ws) principal a resource
