-- Hints at what to change where a tree has no value; the label and the help of a `ParseError`.
-- The hint on signs is the original's but for a slip; the others are this repository's own.
use Rattle.std.specs.Prelude.{ℕ, List, ◌++◌, ◌≡◌, map, codes, unwrap_or, Option, Some, None}
use Rattle.std.specs.Fmt.{decimal}
use Rattle.cedar_lexer.specs.Names.{kind_name}
use Rattle.cedar_syntax.specs.messages.Kept.{SaysExpected, policy_rules}
use Rattle.cedar_syntax.specs.messages.Messages.{raw_help}
use Rattle.cedar_syntax.specs.faults.RawFault.{expected_of}
use Rattle.cedar_syntax.specs.tokens.Signs.{sign_limit}
use Rattle.cedar_syntax.specs.declared.err.faults.ParseError.{ParseError}
use Rattle.cedar_syntax.specs.declared.err.faults.ParseError.TheVariants.{ToCST, ToAST}
use Rattle.cedar_syntax.specs.declared.err.to_ast.ToASTErrorKind.{ToASTErrorKind}
use Rattle.cedar_syntax.specs.declared.err.to_ast.ToASTErrorKind.TheVariants as kind

abbrev pub scope_help : List ℕ
scope_help = codes "the scope has `principal`, `action` and `resource`, in this order"

-- the hints of the kinds that a policy's form and its scope have, one text each or a part of the
-- fault
abbrev pub policy_help : ToASTErrorKind → Option (List ℕ)
policy_help (kind.InvalidEffect _) = Some (codes "a policy begins with `permit` or `forbid`")
policy_help (kind.InvalidCondition _) = Some (codes "a condition begins with `when` or `unless`")
policy_help (kind.MissingScopeVariable _) = Some scope_help
policy_help (kind.ExtraScopeElement _) = Some scope_help
policy_help (kind.InvalidScopeVariable _) = Some scope_help
policy_help (kind.IncorrectVariable _ _) = Some scope_help
policy_help (kind.InvalidScopeOperator _) = Some (codes "the scope takes `==`, `in` and `is`")
policy_help (kind.InvalidActionScopeOperator _) =
    Some (codes "for the action the scope takes `==` and `in`")
policy_help kind.IsInActionScope = Some (codes "put the `is` into a `when` condition")
policy_help kind.IsWithEq = Some (codes "use `is` with `in`, or `==` alone")
policy_help kind.InvertedIsIn = Some (codes "write `is`, then `in`")
policy_help kind.TypeConstraints = Some (codes "use `is` in place of `:`")
policy_help (kind.InvalidActionType _) = Some
    (codes "the last part of an action's type is `Action`, as in `App::Action::\"view\"`")
policy_help (kind.SlotsInConditionClause _) = Some (codes "slots stand in the scope alone")
policy_help (kind.WrongNode _ _ suggestion) = suggestion
policy_help _ = None

-- those of the kinds that an expression has
abbrev pub expression_help : ToASTErrorKind → Option (List ℕ)
expression_help kind.InvalidSingleEq = Some (codes "use `==` to compare two values")
expression_help (kind.ArbitraryVariable _) =
    Some (codes "the variables are `principal`, `action`, `resource` and `context`")
expression_help (kind.InvalidSlot _) = Some (codes "the slots are `?principal` and `?resource`")
expression_help (kind.IntegerLiteralTooLarge _) =
    Some (codes "the largest number is 9223372036854775807")
expression_help (kind.InvalidEntityLiteral _) =
    Some (codes "an entity is written `User::\"alice\"`")
expression_help (kind.InvalidAttribute _) = Some (codes "a key is an identifier or a string")
expression_help (kind.InvalidHasRHS _) =
    Some (codes "right of `has` stand identifiers joined by `.`, or one string")
expression_help (kind.InvalidIsType _ _) =
    Some (codes "a type is written without quotes, as `User` or `App::User`")
expression_help (kind.VariableCall _) = Some (codes "only functions and methods can be called")
expression_help (kind.FunctionCallOnMethod _) =
    Some (codes "a method is called on a value, behind a `.`")
expression_help (kind.MethodCallOnFunction _) =
    Some (codes "a function is called by its name, with no value before it")
expression_help (kind.UnknownMethod _ hint) =
    Some (unwrap_or hint (codes "the table of extensions has no method of this name"))
expression_help (kind.UnknownFunction _ hint) =
    Some (unwrap_or hint (codes "the table of extensions has no function of this name"))
expression_help _ = None

-- the first of two, where it is there
abbrev pub or_other : Option (List ℕ) → Option (List ℕ) → Option (List ℕ)
or_other None other = other
or_other (Some text) other = Some text

abbrev pub plain_help : ToASTErrorKind → Option (List ℕ)
plain_help fault = or_other (policy_help fault) (expression_help fault)

abbrev pub kind_help : ToASTErrorKind → Option (List ℕ)
kind_help (kind.UnaryOpLimit _) =
    Some (codes "cannot chain more than "
    ++ (decimal sign_limit ++ codes " applications of a unary operator"))
kind_help other = plain_help other

-- what is told beside a fault of a text: what could have stood there; nothing beside a tree's
abbrev pub SaysLabel : ParseError → Option (List ℕ) → Type 0
SaysLabel (ToCST fault) label =
    SaysExpected policy_rules (map kind_name (expected_of fault.raw)) label
SaysLabel (ToAST fault) label = label ≡ None

-- the hint of a fault is that of the one it holds
abbrev pub fault_help : ParseError → Option (List ℕ)
fault_help (ToCST fault) = raw_help fault.src fault.raw
fault_help (ToAST fault) = kind_help fault.kind
