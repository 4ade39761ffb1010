-- A primary and its accesses: fields, methods, calls by the table, indexes, applied from the left.
use Rattle.std.specs.Prelude.{ℕ, List, [], ◌∷◌, length, Option, Some, None, Ok, if◌then◌else◌}
use Rattle.cedar_syntax.specs.declared.loc.Loc.{Loc}
use Rattle.cedar_expressions.specs.declared.atoms.Var.{Var}
use Rattle.cedar_expressions.specs.Path.{Path}
use Rattle.cedar_expressions.specs.Value as v
use Rattle.cedar_expressions.specs.Value.{Value, values}
use Rattle.cedar_conversion.specs.declared.primaries.methods.Standard.{Standard}
use Rattle.cedar_conversion.specs.declared.primaries.methods.Standard.TheVariants as standard
use Rattle.cedar_conversion.specs.strict.Extensions.{Extensions}
use Rattle.cedar_conversion.specs.outcome.Held.{Held, expression, variable, bare_name, as_expression}
use Rattle.cedar_conversion.specs.outcome.Detail as detail
use Rattle.cedar_conversion.specs.outcome.Outcome.{Outcome, fault_outcome, detailed_outcome, next, variable_call, no_methods, invalid_access, invalid_index, expression_call, wrong_arity, function_call_on_method, method_call_on_function, unknown_method, unknown_function}
use Rattle.cedar_conversion.specs.strict.StrictCalls.{method_word, standard_method, names_method}

-- what an access gives
pub data Access : Type 0 where
  field : List ℕ → Access
  call : List Value → Access
  index : List ℕ → Access

-- ---- methods

-- what one of those of every text makes of an argument, if it takes one
abbrev pub takes_one : Standard → Option (Value → Value → Value)
takes_one standard.Contains = Some v.contains
takes_one standard.ContainsAll = Some v.contains_all
takes_one standard.ContainsAny = Some v.contains_any
takes_one standard.IsEmpty = None
takes_one standard.GetTag = Some v.get_tag
takes_one standard.HasTag = Some v.has_tag

-- how many arguments that are
abbrev pub arity : {X : Type 0} → Option X → ℕ
arity (Some make) = 1
arity None = 0

-- one argument, or none for `isEmpty`
abbrev pub with_arguments : Option Loc → List ℕ → Option (Value → Value → Value) → Value
    → List Value → Outcome Value
with_arguments place word (Some make) x (y ∷ []) = Ok (make x y)
with_arguments place word None x [] = Ok (v.is_empty x)
with_arguments place word make x args =
    detailed_outcome wrong_arity place (detail.arguments word (arity make) (length args))

abbrev pub standard_outcome : Option Loc → Standard → Value → List Value → Outcome Value
standard_outcome place method x args =
    with_arguments place (method_word method) (takes_one method) x args

abbrev pub plain_name : List ℕ → Path
plain_name id = record { path = []; id = id }

-- a method that the table doesn't have may be a function of it
abbrev pub no_method : Extensions → Option Loc → List ℕ → Outcome Value
no_method e place id =
    if e.functions (plain_name id)
    then detailed_outcome method_call_on_function place (detail.spelling id)
    else detailed_outcome unknown_method place (detail.spelling id)

-- a method of the table takes the object first
abbrev pub extension_method : Extensions → Option Loc → List ℕ → Value → List Value → Outcome Value
extension_method e place id x args =
    if e.methods id then Ok (v.call_extension_fn (plain_name id) (values (x ∷ args)))
    else no_method e place id

abbrev pub method_by : Extensions → Option Loc → List ℕ → Option Standard → Value → List Value
    → Outcome Value
method_by e place id (Some method) x args = standard_outcome place method x args
method_by e place id None x args = extension_method e place id x args

-- a method called on a value
abbrev pub method_outcome : Extensions → Option Loc → List ℕ → Value → List Value → Outcome Value
method_outcome e place id x args = method_by e place id (standard_method id) x args

-- ---- functions

-- a call of a name
abbrev pub function_outcome : Extensions → Option Loc → Path → List Value → Outcome Value
function_outcome e place name args =
    if names_method e name.path name.id
    then detailed_outcome function_call_on_method place (detail.spelling name.id)
    else (if e.functions name then Ok (v.call_extension_fn name (values args))
    else detailed_outcome unknown_function place (detail.name name))

-- ---- accesses

-- accesses of a value, from the left; a field and the call behind it are a method's
abbrev pub accesses_of : Extensions → Option Loc → Value → List Access → Outcome Held
accesses_of e place x [] = Ok (expression place x)
accesses_of e place x (call args ∷ rest) = fault_outcome expression_call place
accesses_of e place x (index text ∷ rest) = accesses_of e place (v.get_attr x text) rest
accesses_of e place x (field id ∷ []) = Ok (expression place (v.get_attr x id))
accesses_of e place x (field id ∷ call args ∷ rest) =
    next (method_outcome e place id x args) (λ y. accesses_of e place y rest)
accesses_of e place x (field id ∷ rest) = accesses_of e place (v.get_attr x id) rest

-- what stands behind a name that is no variable is a call, and accesses of what that gives
abbrev pub name_accesses : Extensions → Option Loc → Path → List Access → Outcome Held
name_accesses e place name [] = fault_outcome invalid_access place
name_accesses e place name (call args ∷ rest) =
    next (function_outcome e place name args) (λ y. accesses_of e place y rest)
name_accesses e place name (index text ∷ rest) =
    detailed_outcome invalid_index place (detail.asked_of name text)
name_accesses e place name (field id ∷ call args ∷ rest) =
    detailed_outcome no_methods place (detail.asked_of name id)
name_accesses e place name (field id ∷ rest) =
    detailed_outcome invalid_access place (detail.asked_of name id)

-- a variable can't be called
abbrev pub variable_accesses : Extensions → Option Loc → Var → List Access → Outcome Held
variable_accesses e place x (call args ∷ rest) =
    detailed_outcome variable_call place (detail.variable x)
variable_accesses e place x accesses = accesses_of e place (v.var x) accesses

abbrev pub some_accesses : Extensions → Option Loc → Held → List Access → Outcome Held
some_accesses e place (variable own x) accesses = variable_accesses e place x accesses
some_accesses e place (bare_name own name) accesses = name_accesses e place name accesses
some_accesses e place h accesses =
    next (as_expression h) (λ x. accesses_of e place x accesses)

-- a primary without accesses is itself
abbrev pub member_outcome : Extensions → Option Loc → Held → List Access → Outcome Held
member_outcome e place h [] = Ok h
member_outcome e place h (access ∷ accesses) = some_accesses e place h (access ∷ accesses)
