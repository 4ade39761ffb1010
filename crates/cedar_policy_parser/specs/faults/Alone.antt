-- Parts that have values, so that a refusal is of what joins them, and trees that are one node and
-- no more, so that a whole expression is refused for that node.
use Rattle.std.specs.Prelude.{◌≡◌, ℕ, true, List, [], ◌∷◌, ◌++◌, Option, None, Ok}
use Rattle.cedar_expressions.specs.Path.{Path}
use Rattle.cedar_expressions.specs.Value.{Value}
use Rattle.cedar_syntax.specs.declared.loc.Loc.{Loc}
use Rattle.cedar_syntax.specs.declared.node.Node.{Node}
use Rattle.cedar_syntax.specs.declared.cst.MultOp.TheVariants as mul
use Rattle.cedar_syntax.specs.declared.cst.Name.{Name}
use Rattle.cedar_syntax.specs.declared.cst.NegOp.{NegOp}
use Rattle.cedar_syntax.specs.trees.Located as f
use Rattle.cedar_syntax.specs.trees.Located.{Located, Parts, at, only, chain, unary, member, parens, init, none, more}
use Rattle.cedar_syntax.specs.trees.Tree.{Level, Operator, multiply}
use Rattle.cedar_conversion.specs.outcome.Conversion.{Part, Converts, operands, outcome}
use Rattle.cedar_conversion.specs.strict.Extensions.{Extensions}
use Rattle.cedar_conversion.specs.parts.HasSide.{no_sign}
use Rattle.cedar_conversion.specs.outcome.Held.{as_attribute}
use Rattle.cedar_conversion.specs.parts.Names.{name_outcome, named_variable}
use Rattle.cedar_conversion.specs.outcome.Detail.{nothing}
use Rattle.cedar_conversion.specs.outcome.Outcome.{NamedFault, next, unsupported_division, unsupported_modulo}

abbrev pub HasValue : Extensions → Located → Type 0
HasValue e n = (w : Value) × Converts e n w

-- every part behind an operator has one
abbrev pub HaveValues : Extensions → Option Loc → Parts → Type 0
HaveValues e place others = (ps : List Part) × (operands e place others ≡ Ok ps)

-- every operand has one, whatever its operator is
abbrev pub OperandsHaveValues : Extensions → Parts → Type 0
OperandsHaveValues e none = Unit {0}
OperandsHaveValues e (more op n others) = HasValue e n × OperandsHaveValues e others

-- what an operator of a product is refused with: a division and a remainder have no value
abbrev pub quotient : Option Loc → Operator → List NamedFault
quotient place (multiply mul.Divide) = (unsupported_division, place, nothing) ∷ []
quotient place (multiply mul.Mod) = (unsupported_modulo, place, nothing) ∷ []
quotient place _ = []

-- each `/` and `%` in order, at the product's place
abbrev pub quotients : Option Loc → Parts → List NamedFault
quotients place none = []
quotients place (more op n others) = quotient place op ++ quotients place others

-- a key and its value: the one an attribute, the other a value
pub record IsPair (e : Extensions) (n : Located) (pair : List ℕ × Value) : Type 0 where
  pub place : Option Loc
  pub key : Located
  pub value : Located
  pub is : n ≡ at place (init key value)
  pub attribute : next (outcome e key) as_attribute ≡ Ok pair.0
  pub converts : Converts e value pair.1

-- a record's parts are such pairs
abbrev pub ArePairs : Extensions → Parts → List (List ℕ × Value) → Type 0
ArePairs e none [] = Unit {0}
ArePairs e (more op n others) (pair ∷ pairs) = IsPair e n pair × ArePairs e others pairs
ArePairs e _ _ = ⊥

-- ---- a node alone

-- A tree comes to a node below it: an expression that is no conditional is its disjunction, and
-- each level of the grammar with one part is that part, as are an operand without a sign and a
-- primary without an access: Cedar's conversion gives such a level over to its part. No
-- parentheses stand between.
pub data ComesTo : Located → Located → Type 0 where
  itself : {node : Located} → ComesTo node node
  through_only : {place : Option Loc} {part node : Located} → ComesTo part node
      → ComesTo (at place (only part)) node
  through_chain : {place : Option Loc} {level : Level} {part node : Located} → ComesTo part node
      → ComesTo (at place (chain level part none)) node
  through_unary : {place : Option Loc} {op : Option NegOp} {part node : Located}
      → no_sign op ≡ true → ComesTo part node → ComesTo (at place (unary op part)) node
  through_member : {place : Option Loc} {part node : Located} → ComesTo part node
      → ComesTo (at place (member part none)) node

-- A tree is a node and no more, bare or in parentheses to any depth: what stands in parentheses is
-- an expression of its own.
pub data IsAlone : Located → Located → Type 0 where
  bare : {tree node : Located} → ComesTo tree node → IsAlone tree node
  in_parens : {place : Option Loc} {tree part node : Located}
      → ComesTo tree (at place (parens part)) → IsAlone part node → IsAlone tree node

-- a tree that is a name and no more, and no variable; its identifiers convert
pub record IsBareName (tree : Located) (place : Option Loc) (path : Path) : Type 0 where
  pub name : Node (Option Name)
  pub is : IsAlone tree (at place (f.name name))
  pub no_variable : named_variable name.node ≡ None
  pub converts : name_outcome name ≡ Ok path
