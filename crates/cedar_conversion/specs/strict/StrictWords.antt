-- The strict grammar of words: which tokens are an identifier, a name, an attribute, a record's
-- key or an entity. No tree and no fault stands in it. Whether a name may hold a word is told by
-- the token's kind; an IDENTIFIER is held against the rule of names again, so that it is said of
-- tokens that are the cut of no text too.
use Rattle.std.specs.Prelude.{◌≡◌, ℕ, true, List, [], ◌∷◌, ◌++◌, codes}
use Rattle.cedar_lexer.specs.Token.{Lexeme}
use Rattle.cedar_lexer.specs.declared.token.TokenKind.{TokenKind}
use Rattle.cedar_lexer.specs.declared.token.TokenKind.TheVariants as kind
use Rattle.cedar_expressions.specs.declared.entity.EntityUID.{EntityUID}
use Rattle.cedar_expressions.specs.declared.atoms.Var.{Var}
use Rattle.cedar_expressions.specs.declared.atoms.Var.TheVariants as vars
use Rattle.cedar_expressions.specs.Path.{Path, is_unreserved_identifier}
use Rattle.cedar_expressions.specs.Written.{var_text}
use Rattle.cedar_syntax.specs.strings.Piece.{IsUnescaped}
use Rattle.cedar_syntax.specs.tokens.Tokens.{Spot, one, between_quotes}

-- the four variables of a request
pub data IsVariable : TokenKind → Var → Type 0 where
  principal : IsVariable kind.Principal vars.Principal
  action : IsVariable kind.Action vars.Action
  resource : IsVariable kind.Resource vars.Resource
  context : IsVariable kind.Context vars.Context

-- the word of a variable and no more
abbrev pub IsVariableWord : List Lexeme → Type 0
IsVariableWord [] = ⊥
IsVariableWord (t ∷ []) = (x : Var) × IsVariable t.kind x
IsVariableWord (t ∷ u ∷ ts) = ⊥

-- an identifier that names may hold, and its text: an IDENTIFIER but `__cedar`, or one of the
-- words that mean something in few places only; `if`, `true`, `false`, `then`, `else`, `in`, `is`,
-- `has` and `like` are none
pub data IsIdentifier : List Lexeme → List ℕ → Type 0 where
  variable_word : {k : TokenKind} {x : Var} (p : Spot) → IsVariable k x
      → IsIdentifier (one k p) (var_text x)
  permit : (p : Spot) → IsIdentifier (one kind.Permit p) (codes "permit")
  forbid : (p : Spot) → IsIdentifier (one kind.Forbid p) (codes "forbid")
  when : (p : Spot) → IsIdentifier (one kind.When p) (codes "when")
  unless : (p : Spot) → IsIdentifier (one kind.Unless p) (codes "unless")
  identifier : (p : Spot) → is_unreserved_identifier p.text ≡ true
      → IsIdentifier (one kind.Identifier p) p.text

-- a name: identifiers joined by `::`, those before the last one and the last one
pub data IsName : List Lexeme → List (List ℕ) → List ℕ → Type 0 where
  one_identifier : {ts : List Lexeme} {id : List ℕ} → IsIdentifier ts id → IsName ts [] id
  more_identifiers : {ts us : List Lexeme} {ids : List (List ℕ)} {id last : List ℕ} (p : Spot)
      → IsName ts ids id → IsIdentifier us last
      → IsName (ts ++ one kind.ColonColon p ++ us) (ids ++ id ∷ []) last

-- a name as one value
abbrev pub path_value : List (List ℕ) → List ℕ → Path
path_value ids id = record { path = ids; id = id }

-- attributes: identifiers joined by `.`, the first one and those behind it
pub data AreAttributes : List Lexeme → List ℕ → List (List ℕ) → Type 0 where
  one_attribute : {ts : List Lexeme} {id : List ℕ} → IsIdentifier ts id → AreAttributes ts id []
  more_attributes : {ts us : List Lexeme} {first id : List ℕ} {ids : List (List ℕ)} (p : Spot)
      → AreAttributes ts first ids → IsIdentifier us id
      → AreAttributes (ts ++ one kind.Dot p ++ us) first (ids ++ id ∷ [])

-- a string that stands for a text: one STRINGLIT without escape faults
pub data IsText : List Lexeme → List ℕ → Type 0 where
  string : {text : List ℕ} (p : Spot) → IsUnescaped (between_quotes p.text) text
      → IsText (one kind.StringLit p) text

-- right of `has`: attributes, or one string alone
pub data IsSought : List Lexeme → List ℕ → List (List ℕ) → Type 0 where
  attributes : {ts : List Lexeme} {id : List ℕ} {ids : List (List ℕ)} → AreAttributes ts id ids
      → IsSought ts id ids
  text : {ts : List Lexeme} {id : List ℕ} → IsText ts id → IsSought ts id []

-- a record's key: one identifier or one string
pub data IsKey : List Lexeme → List ℕ → Type 0 where
  word : {ts : List Lexeme} {key : List ℕ} → IsIdentifier ts key → IsKey ts key
  text : {ts : List Lexeme} {key : List ℕ} → IsText ts key → IsKey ts key

-- an entity: the name of its type, `::`, and its id as a string
pub data IsEntity : List Lexeme → EntityUID → Type 0 where
  entity : {ts us : List Lexeme} {ids : List (List ℕ)} {id eid : List ℕ} (p : Spot)
      → IsName ts ids id → IsText us eid
      → IsEntity (ts ++ one kind.ColonColon p ++ us)
      (record { entity_type = record { name = path_value ids id }; eid = record { text = eid } })
