-- What a node lends, and how an empty one is refused.
use Rattle.std.specs.Prelude.{◌≡◌, ◌∷◌, [], Option, Some, None, ⊤}
use Rattle.std.specs.Borrow.{Bor}
use Rattle.cedar_syntax.specs.declared.loc.Loc.{Loc}
use Rattle.cedar_syntax.specs.declared.node.Node.{Node}
use Rattle.cedar_syntax.specs.declared.err.to_ast.ToASTError.{ToASTError}
use Rattle.cedar_syntax.specs.declared.err.to_ast.ToASTErrorKind.TheVariants.{EmptyNodeInvariantViolation}
use Rattle.cedar_syntax.specs.declared.err.faults.ParseError.TheVariants.{ToAST}
use Rattle.cedar_syntax.specs.declared.err.faults.Failure.{Failure}
use Rattle.cedar_syntax.specs.declared.err.faults.Failure.TheVariants.{Memory, Errors}
use Rattle.cedar_syntax.specs.faults.ParseErrors.{faults_of}

-- what is lent is the node's value at the node's place, or nothing where the node is empty
abbrev pub IsLentIn : {T : Type 0} → Node (Option T) → Option (Node (Bor T)) → Type 0
IsLentIn node None = node.node ≡ None
IsLentIn node (Some lent) = (node.node ≡ Some lent.node.now) × (lent.loc ≡ node.loc)

-- the fault of an empty node, at its place
abbrev pub empty_fault : Option Loc → ToASTError
empty_fault place = record { kind = EmptyNodeInvariantViolation; loc = place }

-- the failure is want of memory, or that fault alone
abbrev pub IsRefusedWith : ToASTError → Failure → Type 0
IsRefusedWith fault (Memory error) = ⊤
IsRefusedWith fault (Errors errors) = faults_of errors ≡ ToAST fault ∷ []
