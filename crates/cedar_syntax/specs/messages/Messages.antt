-- The message of each fault, and the hint on quotes, the one hint that a fault of a text without a
-- tree has.
use Rattle.std.specs.Prelude.{ℕ, List, [], ◌++◌, ◌==◌, codes, unwrap_or, slice_get, Option, Some, None, if◌then◌else◌}
use Rattle.std.specs.Fmt.{decimal}
use Rattle.cedar_expressions.specs.Path.{name_text}
use Rattle.cedar_expressions.specs.Shown.{expr_text}
use Rattle.cedar_expressions.specs.Written.{unary_op_text, var_text, duplicate_text, reserved_text}
use Rattle.cedar_syntax.specs.declared.cst.Ident.{Ident}
use Rattle.cedar_syntax.specs.printing.Printed.{tokens_text, printed, rel_op_texts}
use Rattle.cedar_syntax.specs.trees.Unplaced.{ident_tree, variable_def_tree}
use Rattle.cedar_syntax.specs.messages.Faults.{static_policy_message, template_message, condition_slot_message, action_type_message, argument_message}
use Rattle.cedar_syntax.specs.places.Span.{part_of}
use Rattle.cedar_syntax.specs.declared.err.escape.UnescapeError.{UnescapeError}
use Rattle.cedar_syntax.specs.declared.err.escape.UnescapeFailure.{UnescapeFailure}
use Rattle.cedar_syntax.specs.declared.err.escape.UnescapeFailure.TheVariants.{Memory, Errors}
use Rattle.cedar_syntax.specs.declared.err.to_cst.RawFault.{RawFault}
use Rattle.cedar_syntax.specs.declared.err.to_cst.RawFault.TheVariants.{InvalidToken, UnrecognizedToken, UnrecognizedEof, User, ExtraToken}
use Rattle.cedar_syntax.specs.declared.err.to_ast.ToASTErrorKind.{ToASTErrorKind}
use Rattle.cedar_syntax.specs.declared.err.to_ast.ToASTErrorKind.TheVariants as kind
use Rattle.cedar_syntax.specs.declared.err.faults.ParseError.{ParseError}
use Rattle.cedar_syntax.specs.declared.err.faults.ParseError.TheVariants.{ToCST, ToAST}
use Rattle.cedar_syntax.specs.declared.err.literal_parse.LiteralParseError.{LiteralParseError}
use Rattle.cedar_syntax.specs.declared.err.literal_parse.LiteralParseError.TheVariants as literal
use Rattle.cedar_syntax.specs.declared.err.faults.Failure.{Failure}
use Rattle.cedar_syntax.specs.declared.err.faults.Failure.TheVariants as failure

-- the piece of the raw text that is no escape, in backquotes; nothing where its range is none of
-- the text
abbrev pub escape_message : UnescapeError → List ℕ
escape_message fault = codes "the input `"
    ++ (unwrap_or (part_of fault.input fault.range.start fault.range.end) []
    ++ codes "` is not a valid escape")

-- want of memory, or the first piece's
abbrev pub unescape_message : UnescapeFailure → List ℕ
unescape_message (Memory error) = codes "want of memory"
unescape_message (Errors faults) = escape_message faults.head

abbrev pub raw_message : RawFault → List ℕ
raw_message (InvalidToken location) = codes "invalid token"
raw_message (UnrecognizedToken start end token expected) =
    codes "unexpected token `" ++ (token ++ codes "`")
raw_message (UnrecognizedEof location expected) = codes "unexpected end of input"
raw_message (User error) = error.node
raw_message (ExtraToken start end token) = codes "extra token `" ++ (token ++ codes "`")

-- of an invalid token the character that stands there, a quote, tells what may be wrong
abbrev pub quote_help : Option ℕ → Option (List ℕ)
quote_help None = None
quote_help (Some character) =
    if character == 34 then Some (codes "try checking that all strings are closed properly")
    else (if character == 39 then Some
    (codes "strings must use double quotes, not single quotes") else None)

abbrev pub raw_help : List ℕ → RawFault → Option (List ℕ)
raw_help text (InvalidToken location) = quote_help (slice_get text location)
raw_help text (UnrecognizedToken start end token expected) = None
raw_help text (UnrecognizedEof location expected) = None
raw_help text (User error) = None
raw_help text (ExtraToken start end token) = None

-- one argument, or any other number of arguments
abbrev pub arguments_word : ℕ → List ℕ
arguments_word count = if count == 1 then codes "argument" else codes "arguments"

abbrev pub arity_message : List ℕ → ℕ → ℕ → List ℕ
arity_message name expected got =
    codes "call to `" ++ (name ++ (codes "` requires exactly " ++ (decimal expected
    ++ (codes " " ++ (arguments_word expected ++ (codes ", but got " ++ (decimal got
    ++ (codes " " ++ arguments_word got))))))))

-- a condition, with its word where there is one
abbrev pub clause_message : Option Ident → List ℕ
clause_message None = codes "condition clause cannot be empty"
clause_message (Some word) =
    codes "`" ++ (tokens_text (printed (ident_tree word)) ++ codes
    "` condition clause cannot be empty")

abbrev pub unnormalized_message : List ℕ → List ℕ → List ℕ
unnormalized_message what text =
    codes "`" ++ (what ++ (codes "` needs to be normalized (e.g., whitespace removed): " ++ text))

abbrev pub kind_message : ToASTErrorKind → List ℕ
kind_message (kind.DuplicateTemplateId id) =
    codes "a template with id `" ++ (id ++ codes "` already exists in the policy set")
kind_message (kind.DuplicatePolicyId id) =
    codes "a policy with id `" ++ (id ++ codes "` already exists in the policy set")
kind_message (kind.ExpectedStaticPolicy fault) = static_policy_message fault
kind_message (kind.ExpectedTemplate fault) = template_message
kind_message (kind.DuplicateAnnotation key) = codes "duplicate annotation: @" ++ key
kind_message (kind.SlotsInConditionClause fault) = condition_slot_message fault
kind_message (kind.MissingScopeVariable var) =
    codes "this policy is missing the `" ++ (var_text var ++ codes "` variable in the scope")
kind_message (kind.ExtraScopeElement element) =
    codes "this policy has an extra element in the scope: "
    ++ tokens_text (printed (variable_def_tree element))
kind_message (kind.ReservedIdentifier word) =
    codes "this identifier is reserved and cannot be used: " ++ tokens_text
    (printed (ident_tree word))
kind_message (kind.InvalidIdentifier text) = codes "invalid identifier: " ++ text
kind_message kind.InvalidSingleEq = codes "'=' is not a valid operator in Cedar"
kind_message (kind.InvalidEffect word) =
    codes "invalid policy effect: " ++ tokens_text (printed (ident_tree word))
kind_message (kind.InvalidCondition word) =
    codes "invalid policy condition: " ++ tokens_text (printed (ident_tree word))
kind_message (kind.InvalidScopeVariable word) =
    codes "found an invalid variable in the policy scope: " ++ tokens_text
    (printed (ident_tree word))
kind_message (kind.IncorrectVariable expected got) =
    codes "found the variable `" ++ (var_text got
    ++ (codes "` where the variable `" ++ (var_text expected ++ codes "` must be used")))
kind_message (kind.InvalidScopeOperator op) =
    codes "invalid operator in the policy scope: " ++ tokens_text (rel_op_texts op)
kind_message (kind.InvalidActionScopeOperator op) =
    codes "invalid operator in the action scope: " ++ tokens_text (rel_op_texts op)
kind_message kind.IsInActionScope = codes "`is` cannot appear in the action scope"
kind_message kind.IsWithEq = codes "`is` cannot be used together with `==`"
kind_message (kind.InvalidActionType fault) = action_type_message fault
kind_message (kind.EmptyClause word) = clause_message word
kind_message kind.MembershipInvariantViolation =
    codes "internal invariant violated. Membership chain did not resolve to an expression"
kind_message (kind.InvalidString text) = codes "invalid string literal: " ++ text
kind_message (kind.ArbitraryVariable name) = codes "invalid variable: " ++ name
kind_message (kind.InvalidAttribute text) = codes "invalid attribute name: " ++ text
kind_message (kind.InvalidHasRHS text) = codes "invalid RHS of a `has` operation: " ++ text
kind_message (kind.PathAsAttribute path) =
    codes "`" ++ (path ++ codes "` cannot be used as an attribute as it contains a namespace")
kind_message (kind.FunctionCallOnMethod id) =
    codes "`" ++ (id ++ codes "` is a method, not a function")
kind_message (kind.MethodCallOnFunction id) =
    codes "`" ++ (id ++ codes "` is a function, not a method")
kind_message (kind.InvalidPattern text) =
    codes "right hand side of a `like` expression must be a pattern literal, but got `"
    ++ (text ++ codes "`")
kind_message (kind.InvalidIsType lhs rhs) =
    codes "right hand side of an `is` expression must be an entity type name, but got `"
    ++ (rhs ++ codes "`")
kind_message (kind.WrongNode expected got suggestion) =
    codes "expected " ++ (expected.now ++ (codes ", found " ++ got))
kind_message kind.AmbiguousOperators =
    codes "multiple relational operators (>, ==, in, etc.) must be used with parentheses "
    ++ codes "to make ordering explicit"
kind_message kind.UnsupportedDivision = codes "division is not supported"
kind_message kind.UnsupportedModulo = codes "remainder/modulo is not supported"
kind_message (kind.ExpressionConstructionError fault) = duplicate_text fault
kind_message (kind.IntegerLiteralTooLarge number) =
    codes "integer literal `" ++ (decimal number ++ codes "` is too large")
kind_message (kind.UnaryOpLimit op) =
    codes "too many occurrences of `" ++ (unary_op_text op ++ codes "`")
kind_message (kind.VariableCall var) =
    codes "`" ++ (var_text var ++ codes "(...)` is not a valid function call")
kind_message (kind.NoMethods name method) =
    codes "attempted to call `" ++ (name_text name ++ (codes "." ++ (method
    ++ (codes "(...)`, but `" ++ (name_text name ++ codes "` does not have any methods")))))
kind_message (kind.UnknownMethod id hint) = codes "`" ++ (id ++ codes "` is not a valid method")
kind_message (kind.UnknownFunction id hint) =
    codes "`" ++ (name_text id ++ codes "` is not a valid function")
kind_message (kind.InvalidEntityLiteral text) = codes "invalid entity literal: " ++ text
kind_message kind.ExpressionCall =
    codes "function calls must be of the form `<name>(arg1, arg2, ...)`"
kind_message (kind.InvalidAccess lhs field) =
    codes "invalid member access `" ++ (name_text lhs ++ (codes "." ++ (field
    ++ (codes "`, `" ++ (name_text lhs ++ codes "` has no fields or methods")))))
kind_message (kind.InvalidIndex lhs field) =
    codes "`" ++ (name_text lhs
    ++ (codes "` has no attributes, so it cannot be indexed with `" ++ (field ++ codes "`")))
kind_message kind.NonStringIndex =
    codes "the contents of an index expression must be a string literal"
kind_message kind.TypeConstraints = codes "type constraints using `:` are not supported"
kind_message (kind.NonNormalizedString what src normalized) = unnormalized_message what.now src
kind_message kind.EmptyNodeInvariantViolation =
    codes "internal invariant violated. Parsed data node should not be empty"
kind_message (kind.WrongArity name expected got) = arity_message name.now expected got
kind_message (kind.Unescape fault) = escape_message fault
kind_message (kind.WrongEntityArgument fault) = argument_message fault
kind_message (kind.InvalidSlot text) =
    codes "`" ++ (text ++ codes "` is not a valid template slot")
kind_message (kind.ReservedNamespace fault) = reserved_text fault
kind_message kind.InvertedIsIn =
    codes "when `is` and `in` are used together, `is` must come first"

abbrev pub fault_message : ParseError → List ℕ
fault_message (ToCST fault) = raw_message fault.raw
fault_message (ToAST fault) = kind_message fault.kind

-- want of memory, or the first fault's
abbrev pub failure_message : Failure → List ℕ
failure_message (failure.Memory error) = codes "want of memory"
failure_message (failure.Errors list) = fault_message list.faults.head

-- the first fault's, or the expression that is no literal
abbrev pub literal_message : LiteralParseError → List ℕ
literal_message (literal.Parse list) = fault_message list.faults.head
literal_message (literal.InvalidLiteral expression) =
    codes "invalid literal: " ++ expr_text expression
