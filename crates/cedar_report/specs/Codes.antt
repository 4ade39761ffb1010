-- The name of a fault's kind: that of its case.
use Rattle.std.specs.Prelude.{ℕ, List, codes}
use Rattle.cedar_syntax.specs.declared.err.to_cst.RawFault.{RawFault}
use Rattle.cedar_syntax.specs.declared.err.to_cst.RawFault.TheVariants.{InvalidToken, UnrecognizedToken, UnrecognizedEof, User, ExtraToken}
use Rattle.cedar_syntax.specs.declared.err.to_ast.ToASTErrorKind.{ToASTErrorKind}
use Rattle.cedar_syntax.specs.declared.err.to_ast.ToASTErrorKind.TheVariants as kind
use Rattle.cedar_syntax.specs.declared.err.faults.ParseError.{ParseError}
use Rattle.cedar_syntax.specs.declared.err.faults.ParseError.TheVariants.{ToCST, ToAST}

-- of a text that has no tree
abbrev pub raw_code : RawFault → List ℕ
raw_code (InvalidToken location) = codes "InvalidToken"
raw_code (UnrecognizedToken start end token expected) = codes "UnrecognizedToken"
raw_code (UnrecognizedEof location expected) = codes "UnrecognizedEof"
raw_code (User error) = codes "User"
raw_code (ExtraToken start end token) = codes "ExtraToken"

-- of a tree that has no value
abbrev pub kind_code : ToASTErrorKind → List ℕ
kind_code (kind.DuplicateTemplateId a) = codes "DuplicateTemplateId"
kind_code (kind.DuplicatePolicyId a) = codes "DuplicatePolicyId"
kind_code (kind.ExpectedStaticPolicy a) = codes "ExpectedStaticPolicy"
kind_code (kind.ExpectedTemplate a) = codes "ExpectedTemplate"
kind_code (kind.DuplicateAnnotation a) = codes "DuplicateAnnotation"
kind_code (kind.SlotsInConditionClause a) = codes "SlotsInConditionClause"
kind_code (kind.MissingScopeVariable a) = codes "MissingScopeVariable"
kind_code (kind.ExtraScopeElement a) = codes "ExtraScopeElement"
kind_code (kind.ReservedIdentifier a) = codes "ReservedIdentifier"
kind_code (kind.InvalidIdentifier a) = codes "InvalidIdentifier"
kind_code kind.InvalidSingleEq = codes "InvalidSingleEq"
kind_code (kind.InvalidEffect a) = codes "InvalidEffect"
kind_code (kind.InvalidCondition a) = codes "InvalidCondition"
kind_code (kind.InvalidScopeVariable a) = codes "InvalidScopeVariable"
kind_code (kind.IncorrectVariable a b) = codes "IncorrectVariable"
kind_code (kind.InvalidScopeOperator a) = codes "InvalidScopeOperator"
kind_code (kind.InvalidActionScopeOperator a) = codes "InvalidActionScopeOperator"
kind_code kind.IsInActionScope = codes "IsInActionScope"
kind_code kind.IsWithEq = codes "IsWithEq"
kind_code (kind.InvalidActionType a) = codes "InvalidActionType"
kind_code (kind.EmptyClause a) = codes "EmptyClause"
kind_code kind.MembershipInvariantViolation = codes "MembershipInvariantViolation"
kind_code (kind.InvalidString a) = codes "InvalidString"
kind_code (kind.ArbitraryVariable a) = codes "ArbitraryVariable"
kind_code (kind.InvalidAttribute a) = codes "InvalidAttribute"
kind_code (kind.InvalidHasRHS a) = codes "InvalidHasRHS"
kind_code (kind.PathAsAttribute a) = codes "PathAsAttribute"
kind_code (kind.FunctionCallOnMethod a) = codes "FunctionCallOnMethod"
kind_code (kind.MethodCallOnFunction a) = codes "MethodCallOnFunction"
kind_code (kind.InvalidPattern a) = codes "InvalidPattern"
kind_code (kind.InvalidIsType a b) = codes "InvalidIsType"
kind_code (kind.WrongNode a b c) = codes "WrongNode"
kind_code kind.AmbiguousOperators = codes "AmbiguousOperators"
kind_code kind.UnsupportedDivision = codes "UnsupportedDivision"
kind_code kind.UnsupportedModulo = codes "UnsupportedModulo"
kind_code (kind.ExpressionConstructionError a) = codes "ExpressionConstructionError"
kind_code (kind.IntegerLiteralTooLarge a) = codes "IntegerLiteralTooLarge"
kind_code (kind.UnaryOpLimit a) = codes "UnaryOpLimit"
kind_code (kind.VariableCall a) = codes "VariableCall"
kind_code (kind.NoMethods a b) = codes "NoMethods"
kind_code (kind.UnknownMethod a b) = codes "UnknownMethod"
kind_code (kind.UnknownFunction a b) = codes "UnknownFunction"
kind_code (kind.InvalidEntityLiteral a) = codes "InvalidEntityLiteral"
kind_code kind.ExpressionCall = codes "ExpressionCall"
kind_code (kind.InvalidAccess a b) = codes "InvalidAccess"
kind_code (kind.InvalidIndex a b) = codes "InvalidIndex"
kind_code kind.NonStringIndex = codes "NonStringIndex"
kind_code kind.TypeConstraints = codes "TypeConstraints"
kind_code (kind.NonNormalizedString a b c) = codes "NonNormalizedString"
kind_code kind.EmptyNodeInvariantViolation = codes "EmptyNodeInvariantViolation"
kind_code (kind.WrongArity a b c) = codes "WrongArity"
kind_code (kind.Unescape a) = codes "Unescape"
kind_code (kind.WrongEntityArgument a) = codes "WrongEntityArgument"
kind_code (kind.InvalidSlot a) = codes "InvalidSlot"
kind_code (kind.ReservedNamespace a) = codes "ReservedNamespace"
kind_code kind.InvertedIsIn = codes "InvertedIsIn"

abbrev pub code_of : ParseError → List ℕ
code_of (ToCST fault) = raw_code fault.raw
code_of (ToAST fault) = kind_code fault.kind
