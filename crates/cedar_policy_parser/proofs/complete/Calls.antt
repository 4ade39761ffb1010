-- A call that means something is converted to that.
use Rattle.std.proofs.Common.{◌≡◌, ℕ, true, false, List, [], ◌∷◌, Option, None, Ok, refl}
use Rattle.cedar_expressions.specs.Value as v
use Rattle.cedar_expressions.specs.Value.{Value, values}
use Rattle.cedar_syntax.specs.declared.loc.Loc.{Loc}
use Rattle.cedar_conversion.specs.declared.primaries.methods.Standard.{Standard}
use Rattle.cedar_conversion.specs.strict.Extensions.{Extensions}
use Rattle.cedar_conversion.specs.parts.Members.{method_outcome, method_by, function_outcome}
use Rattle.cedar_conversion.specs.strict.StrictCalls as m
use Rattle.cedar_conversion.specs.strict.StrictCalls.{CallsMethod, IsFunction, standard_method, names_method}
use Rattle.cedar_conversion.specs.strict.StrictWords.{path_value}

by_table : (e : Extensions) (place : Option Loc) (id : List ℕ) (o : Option Standard) (a : Value) (args : List Value) → o ≡ None → e.methods id ≡ true
    → method_by e place id o a args ≡ Ok (v.call_extension_fn (path_value [] id) (values (a ∷ args)))
by_table e place id o a args h k = rw (h, k) refl

-- a method called on a value
pub method_given : (e : Extensions) (place : Option Loc) {id : List ℕ} {a b : Value} {args : List Value} → CallsMethod e id a args b → method_outcome e place id a args ≡ Ok b
method_given e place m.contains = refl
method_given e place m.contains_all = refl
method_given e place m.contains_any = refl
method_given e place m.is_empty = refl
method_given e place m.get_tag = refl
method_given e place m.has_tag = refl
method_given e place (m.by_table {id = id} {a = a} {args = args} h k) = by_table e place id (standard_method id) a args h k

by_name : (e : Extensions) (place : Option Loc) (ids : List (List ℕ)) (id : List ℕ) (args : List Value) → names_method e ids id ≡ false → e.functions (path_value ids id) ≡ true
    → function_outcome e place (path_value ids id) args ≡ Ok (v.call_extension_fn (path_value ids id) (values args))
by_name e place ids id args h k = rw (h, k) refl

-- a function called by its name
pub function_given : (e : Extensions) (place : Option Loc) (ids : List (List ℕ)) (id : List ℕ) (args : List Value) → IsFunction e ids id → function_outcome e place (path_value ids id) args ≡ Ok (v.call_extension_fn (path_value ids id) (values args))
function_given e place ids id args f = by_name e place ids id args f.0 f.1
