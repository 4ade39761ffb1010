-- The program's answers seen as outcomes, and its kinds of fault as those of outcomes, without
-- what is there for people alone.
use Rattle.std.specs.Prelude.{◌≡◌, List, map, Result, Ok, Err, None}
use Rattle.cedar_syntax.specs.faults.NonEmpty.{list_of}
use Rattle.cedar_syntax.specs.faults.ParseErrors.{faults_of}
use Rattle.cedar_syntax.specs.declared.err.faults.Failure.{Failure}
use Rattle.cedar_syntax.specs.declared.err.faults.Failure.TheVariants.{Memory, Errors}
use Rattle.cedar_syntax.specs.declared.err.faults.ParseError.{ParseError}
use Rattle.cedar_syntax.specs.declared.err.faults.ParseError.TheVariants.{ToCST, ToAST}
use Rattle.cedar_syntax.specs.declared.err.to_ast.ToASTErrorKind.{ToASTErrorKind}
use Rattle.cedar_syntax.specs.declared.err.to_ast.ToASTErrorKind.TheVariants as kinds
use Rattle.cedar_conversion.specs.outcome.Detail as d
use Rattle.cedar_conversion.specs.outcome.Detail.{Detail}
use Rattle.cedar_conversion.specs.outcome.Outcome as k
use Rattle.cedar_conversion.specs.outcome.Outcome.{Kind, NamedFault, Outcome}

-- each kind without what is told beside
abbrev pub kind_of : ToASTErrorKind → Kind
kind_of (kinds.DuplicateTemplateId a) = k.duplicate_template_id
kind_of (kinds.DuplicatePolicyId a) = k.duplicate_policy_id
kind_of (kinds.ExpectedStaticPolicy a) = k.expected_static_policy
kind_of (kinds.ExpectedTemplate a) = k.expected_template
kind_of (kinds.DuplicateAnnotation a) = k.duplicate_annotation
kind_of (kinds.SlotsInConditionClause a) = k.slots_in_condition_clause
kind_of (kinds.MissingScopeVariable a) = k.missing_scope_variable
kind_of (kinds.ExtraScopeElement a) = k.extra_scope_element
kind_of (kinds.ReservedIdentifier a) = k.reserved_identifier
kind_of (kinds.InvalidIdentifier a) = k.invalid_identifier
kind_of kinds.InvalidSingleEq = k.invalid_single_eq
kind_of (kinds.InvalidEffect a) = k.invalid_effect
kind_of (kinds.InvalidCondition a) = k.invalid_condition
kind_of (kinds.InvalidScopeVariable a) = k.invalid_scope_variable
kind_of (kinds.IncorrectVariable a b) = k.incorrect_variable
kind_of (kinds.InvalidScopeOperator a) = k.invalid_scope_operator
kind_of (kinds.InvalidActionScopeOperator a) = k.invalid_action_scope_operator
kind_of kinds.IsInActionScope = k.is_in_action_scope
kind_of kinds.IsWithEq = k.is_with_eq
kind_of (kinds.InvalidActionType a) = k.invalid_action_type
kind_of (kinds.EmptyClause a) = k.empty_clause
kind_of kinds.MembershipInvariantViolation = k.membership_invariant_violation
kind_of (kinds.InvalidString a) = k.invalid_string
kind_of (kinds.ArbitraryVariable a) = k.arbitrary_variable
kind_of (kinds.InvalidAttribute a) = k.invalid_attribute
kind_of (kinds.InvalidHasRHS a) = k.invalid_has_rhs
kind_of (kinds.PathAsAttribute a) = k.path_as_attribute
kind_of (kinds.FunctionCallOnMethod a) = k.function_call_on_method
kind_of (kinds.MethodCallOnFunction a) = k.method_call_on_function
kind_of (kinds.InvalidPattern a) = k.invalid_pattern
kind_of (kinds.InvalidIsType a b) = k.invalid_is_type
kind_of (kinds.WrongNode a b c) = k.wrong_node
kind_of kinds.AmbiguousOperators = k.ambiguous_operators
kind_of kinds.UnsupportedDivision = k.unsupported_division
kind_of kinds.UnsupportedModulo = k.unsupported_modulo
kind_of (kinds.ExpressionConstructionError a) = k.expression_construction_error
kind_of (kinds.IntegerLiteralTooLarge a) = k.integer_literal_too_large
kind_of (kinds.UnaryOpLimit a) = k.unary_op_limit
kind_of (kinds.VariableCall a) = k.variable_call
kind_of (kinds.NoMethods a b) = k.no_methods
kind_of (kinds.UnknownMethod a b) = k.unknown_method
kind_of (kinds.UnknownFunction a b) = k.unknown_function
kind_of (kinds.InvalidEntityLiteral a) = k.invalid_entity_literal
kind_of kinds.ExpressionCall = k.expression_call
kind_of (kinds.InvalidAccess a b) = k.invalid_access
kind_of (kinds.InvalidIndex a b) = k.invalid_index
kind_of kinds.NonStringIndex = k.non_string_index
kind_of kinds.TypeConstraints = k.type_constraints
kind_of (kinds.NonNormalizedString a b c) = k.non_normalized_string
kind_of kinds.EmptyNodeInvariantViolation = k.empty_node
kind_of (kinds.WrongArity a b c) = k.wrong_arity
kind_of (kinds.Unescape a) = k.unescape
kind_of (kinds.WrongEntityArgument a) = k.wrong_entity_argument
kind_of (kinds.InvalidSlot a) = k.invalid_slot
kind_of (kinds.ReservedNamespace a) = k.reserved_namespace
kind_of kinds.InvertedIsIn = k.inverted_is_in

-- what each kind tells beside itself
abbrev pub detail_of : ToASTErrorKind → Detail
detail_of (kinds.ExpectedStaticPolicy a) = d.slot a.slot
detail_of (kinds.DuplicateAnnotation a) = d.spelling a
detail_of (kinds.SlotsInConditionClause a) = d.condition_slot a.slot a.clause_type.now
detail_of (kinds.MissingScopeVariable a) = d.variable a
detail_of (kinds.ExtraScopeElement a) = d.element a
detail_of (kinds.ReservedIdentifier a) = d.word a
detail_of (kinds.InvalidIdentifier a) = d.spelling a
detail_of (kinds.InvalidEffect a) = d.word a
detail_of (kinds.InvalidCondition a) = d.word a
detail_of (kinds.InvalidScopeVariable a) = d.word a
detail_of (kinds.IncorrectVariable a b) = d.variables a b
detail_of (kinds.InvalidScopeOperator a) = d.operator a
detail_of (kinds.InvalidActionScopeOperator a) = d.operator a
detail_of (kinds.InvalidActionType a) = d.entities (list_of a.euids)
detail_of (kinds.EmptyClause a) = d.word_there a
detail_of (kinds.ArbitraryVariable a) = d.spelling a
detail_of (kinds.FunctionCallOnMethod a) = d.spelling a
detail_of (kinds.MethodCallOnFunction a) = d.spelling a
detail_of (kinds.ExpressionConstructionError a) = d.spelling a.key
detail_of (kinds.IntegerLiteralTooLarge a) = d.number a
detail_of (kinds.UnaryOpLimit a) = d.sign a
detail_of (kinds.VariableCall a) = d.variable a
detail_of (kinds.NoMethods a b) = d.asked_of a b
detail_of (kinds.UnknownMethod a b) = d.spelling a
detail_of (kinds.UnknownFunction a b) = d.name a
detail_of (kinds.InvalidAccess a b) = d.asked_of a b
detail_of (kinds.InvalidIndex a b) = d.asked_of a b
detail_of (kinds.WrongArity a b c) = d.arguments a.now b c
detail_of (kinds.Unescape a) = d.escape a
detail_of (kinds.WrongEntityArgument a) = d.references a.expected a.got
detail_of (kinds.InvalidSlot a) = d.spelling a
detail_of (kinds.ReservedNamespace a) = d.name a.name
detail_of _ = d.nothing

-- a fault of a text, which no conversion tells, is seen as one of a kind that none gives
abbrev pub named_fault : ParseError → NamedFault
named_fault (ToAST fault) = (kind_of fault.kind, fault.loc, detail_of fault.kind)
named_fault (ToCST fault) = (k.membership_invariant_violation, None, d.nothing)

abbrev pub named_faults : List ParseError → List NamedFault
named_faults faults = map named_fault faults

-- A failure tells the outcome's faults. Want of memory may be the answer whatever the outcome is.
abbrev pub Refuses : {Y : Type 0} → Failure → Outcome Y → Type 0
Refuses (Memory error) outcome = Unit {0}
Refuses (Errors errors) outcome = outcome ≡ Err (named_faults (faults_of errors))

-- An answer, seen by view, is the outcome.
abbrev pub Gives : {X Y : Type 0} → (X → Y) → Result X Failure → Outcome Y → Type 0
Gives view (Ok x) outcome = outcome ≡ Ok (view x)
Gives view (Err failure) outcome = Refuses failure outcome

-- what is held is what the outcome gives
abbrev pub itself : {T : Type 0} → T → T
itself x = x
