-- An expression's syntax tree with its places: one type for the trees of every rule. Names,
-- literals, entities and slots hold no expression; they stand as they are.
use Rattle.std.specs.Prelude.{Option}
use Rattle.cedar_syntax.specs.declared.loc.Loc.{Loc}
use Rattle.cedar_syntax.specs.declared.node.Node.{Node}
use Rattle.cedar_syntax.specs.declared.cst.Ident.{Ident}
use Rattle.cedar_syntax.specs.declared.cst.Literal.{Literal}
use Rattle.cedar_syntax.specs.declared.cst.Name.{Name}
use Rattle.cedar_syntax.specs.declared.cst.NegOp.{NegOp}
use Rattle.cedar_syntax.specs.declared.cst.Ref.{Ref}
use Rattle.cedar_syntax.specs.declared.cst.Slot.{Slot}
use Rattle.cedar_syntax.specs.trees.Tree.{Level, Operator}

mutual
  -- a node: empty, or a form, at its place
  pub data Located : Type 0 where
    missing : Option Loc → Located
    at : Option Loc → Form → Located

  pub data Form : Type 0 where
    -- an expression that is no conditional, so a disjunction
    only : Located → Form
    ite : Located → Located → Located → Form
    -- a disjunction, conjunction, relation of operators, sum or product
    chain : Level → Located → Parts → Form
    has : Located → Located → Form
    like : Located → Located → Form
    is : Located → Located → Form
    is_in : Located → Located → Located → Form
    unary : Option NegOp → Located → Form
    -- a primary and its accesses
    member : Located → Parts → Form
    field : Node (Option Ident) → Form
    call : Parts → Form
    index : Located → Form
    literal : Node (Option Literal) → Form
    name : Node (Option Name) → Form
    slot : Node (Option Slot) → Form
    -- an entity, or a type and fields in braces
    reference : Node (Option Ref) → Form
    parens : Located → Form
    set : Parts → Form
    record_of : Parts → Form
    -- a key of a record and its value
    init : Located → Located → Form

  -- parts behind operators
  pub data Parts : Type 0 where
    none : Parts
    more : Operator → Located → Parts → Parts
