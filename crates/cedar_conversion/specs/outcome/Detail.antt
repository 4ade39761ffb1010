-- What a fault tells beside its kind and its place: which word, name, variable, slot, operator,
-- number or part it is about, as the payloads of Cedar's kinds have it. What is made for people
-- alone isn't told: how something is written, a hint.
use Rattle.std.specs.Prelude.{ℕ, List, Option, Some, None}
use Rattle.either.specs.declared.Either.{Either}
use Rattle.cedar_expressions.specs.declared.atoms.Var.{Var}
use Rattle.cedar_expressions.specs.declared.entity.EntityUID.{EntityUID}
use Rattle.cedar_expressions.specs.declared.operators.UnaryOp.{UnaryOp}
use Rattle.cedar_expressions.specs.declared.place.Slot.{Slot}
use Rattle.cedar_expressions.specs.Path.{Path}
use Rattle.cedar_syntax.specs.declared.cst.Ident.{Ident}
use Rattle.cedar_syntax.specs.declared.cst.RelOp.{RelOp}
use Rattle.cedar_syntax.specs.declared.cst.VariableDef.{VariableDef}
use Rattle.cedar_syntax.specs.declared.err.escape.UnescapeError.{UnescapeError}
use Rattle.cedar_syntax.specs.declared.err.parse_errors.Ref.{Ref}

-- the kinds of reference of which one may stand somewhere
abbrev pub ExpectedRef : Type 0
ExpectedRef = Either Ref (Ref × Ref)

pub data Detail : Type 0 where
  nothing : Detail
  -- what is spelled so: an identifier, a name, a key, a slot
  spelling : List ℕ → Detail
  -- what stands where another word is wanted
  word : Ident → Detail
  name : Path → Detail
  -- a name, and what is asked of it: a field, a method or an index
  asked_of : Path → List ℕ → Detail
  variable : Var → Detail
  -- the variable that is wanted, and the one that is there
  variables : Var → Var → Detail
  -- a slot, with the place where it stands
  slot : Slot → Detail
  -- the same of one in a condition, with the condition's word
  condition_slot : Slot → List ℕ → Detail
  -- what stands in a scope behind its three elements
  element : VariableDef → Detail
  -- the kinds of reference that may stand right of an operator, and the one that is there
  references : ExpectedRef → Ref → Detail
  operator : RelOp → Detail
  sign : UnaryOp → Detail
  number : ℕ → Detail
  -- a method, how many arguments it takes, and how many it is called with
  arguments : List ℕ → ℕ → ℕ → Detail
  escape : UnescapeError → Detail
  entities : List EntityUID → Detail

-- a word, if there is one
abbrev pub word_there : Option Ident → Detail
word_there (Some i) = word i
word_there None = nothing

-- what is spelled so, if there is anything
abbrev pub spelling_there : Option (List ℕ) → Detail
spelling_there (Some text) = spelling text
spelling_there None = nothing
