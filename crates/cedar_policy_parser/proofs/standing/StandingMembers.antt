-- Where the faults of members and of the right sides of `has` stand.
use Rattle.std.proofs.Common.{ℕ, List, [], ◌∷◌, Option, Some, None}
use Rattle.cedar_expressions.specs.declared.atoms.Literal.TheVariants as literals
use Rattle.cedar_expressions.specs.Path.{Path}
use Rattle.cedar_expressions.specs.Value as v
use Rattle.cedar_expressions.specs.Value.{Value}
use Rattle.cedar_expressions.specs.Written.{var_text}
use Rattle.cedar_expressions.specs.declared.atoms.Var.{Var}
use Rattle.cedar_syntax.specs.declared.loc.Loc.{Loc}
use Rattle.cedar_syntax.specs.trees.Located as f
use Rattle.cedar_syntax.specs.trees.Located.{Located, Form, Parts}
use Rattle.cedar_conversion.specs.declared.primaries.methods.Standard.{Standard}
use Rattle.cedar_conversion.specs.strict.Extensions.{Extensions}
use Rattle.cedar_conversion.specs.parts.HasSide.{attributes_of, begins_with, beginning_outcome, behind_first, field_form, field_of, fields_of, no_sign, right_form, right_side, string_alone}
use Rattle.cedar_conversion.specs.outcome.Held.{Held, expression, variable, bare_name, bare_truth, bare_string, as_expression}
use Rattle.cedar_conversion.specs.parts.Literals.{literal_outcome}
use Rattle.cedar_conversion.specs.parts.Leaves.{name_leaf}
use Rattle.cedar_conversion.specs.parts.Members.{Access, field, call, index, takes_one, with_arguments, plain_name, extension_method, method_by, method_outcome, function_outcome, accesses_of, name_accesses, variable_accesses, some_accesses, member_outcome}
use Rattle.cedar_conversion.specs.outcome.Outcome.{variable_call, no_methods, invalid_access, invalid_index, expression_call, wrong_arity, function_call_on_method, method_call_on_function, unknown_method, unknown_function, invalid_has_rhs, reserved_identifier, empty_node}
use Rattle.cedar_conversion.specs.strict.StrictCalls.{method_word, standard_method, names_method}
use Rattle.cedar_policy_parser.proofs.standing.Standing.{Origin, LiesIn, anywhere, IsPlain, Stands, Anything, alone, next_stands, then_stands, if_stands}
use Rattle.cedar_policy_parser.proofs.standing.StandingLeaves.{HeldWithin, as_value, text_stands, unqualified_stands, unreserved_stands, literal_stands, named_stands}
use Rattle.cedar_policy_parser.proofs.tidy.Tidy.{Tidy, FormTidy, AccessesTidy, AccessTidy, AccessFormTidy}

-- ---- calls

arguments_stand : (o : Origin) (p : Option Loc) (word : List ℕ) (m : Option (Value → Value → Value)) (x : Value) (args : List Value) → LiesIn o p → Stands IsPlain o Anything (with_arguments p word m x args)
arguments_stand o p word (Some make) x [] h = alone IsPlain o wrong_arity p tt h
arguments_stand o p word (Some make) x (y ∷ []) h = tt
arguments_stand o p word (Some make) x (y ∷ z ∷ args) h = alone IsPlain o wrong_arity p tt h
arguments_stand o p word None x [] h = tt
arguments_stand o p word None x (y ∷ args) h = alone IsPlain o wrong_arity p tt h

extension_stands : (e : Extensions) (o : Origin) (p : Option Loc) (id : List ℕ) (x : Value) (args : List Value) → LiesIn o p → Stands IsPlain o Anything (extension_method e p id x args)
extension_stands e o p id x args h = if_stands IsPlain o Anything (e.methods id) _ _ tt (if_stands IsPlain o Anything (e.functions (plain_name id)) _ _ (alone IsPlain o method_call_on_function p tt h) (alone IsPlain o unknown_method p tt h))

method_by_stands : (e : Extensions) (o : Origin) (p : Option Loc) (id : List ℕ) (m : Option Standard) (x : Value) (args : List Value) → LiesIn o p → Stands IsPlain o Anything (method_by e p id m x args)
method_by_stands e o p id (Some m) x args h = arguments_stand o p (method_word m) (takes_one m) x args h
method_by_stands e o p id None x args h = extension_stands e o p id x args h

method_stands : (e : Extensions) (o : Origin) (p : Option Loc) (id : List ℕ) (x : Value) (args : List Value) → LiesIn o p → Stands IsPlain o Anything (method_outcome e p id x args)
method_stands e o p id x args h = method_by_stands e o p id (standard_method id) x args h

function_stands : (e : Extensions) (o : Origin) (p : Option Loc) (name : Path) (args : List Value) → LiesIn o p → Stands IsPlain o Anything (function_outcome e p name args)
function_stands e o p name args h =
    if_stands IsPlain o Anything (names_method e name.path name.id) _ _ (alone IsPlain o function_call_on_method p tt h) (if_stands IsPlain o Anything (e.functions name) _ _ tt (alone IsPlain o unknown_function p tt h))

-- ---- accesses

accesses_stand : (e : Extensions) (o : Origin) (p : Option Loc) (x : Value) (all : List Access) → LiesIn o p → Stands IsPlain o (HeldWithin o) (accesses_of e p x all)
accesses_stand e o p x [] h = h
accesses_stand e o p x (call args ∷ rest) h = alone IsPlain o expression_call p tt h
accesses_stand e o p x (index text ∷ rest) h = accesses_stand e o p (v.get_attr x text) rest h
accesses_stand e o p x (field id ∷ []) h = h
accesses_stand e o p x (field id ∷ call args ∷ rest) h = then_stands IsPlain o (HeldWithin o) _ _ (method_stands e o p id x args h) (λ y. accesses_stand e o p y rest h)
accesses_stand e o p x (field id ∷ field other ∷ rest) h = accesses_stand e o p (v.get_attr x id) (field other ∷ rest) h
accesses_stand e o p x (field id ∷ index text ∷ rest) h = accesses_stand e o p (v.get_attr x id) (index text ∷ rest) h

name_accesses_stand : (e : Extensions) (o : Origin) (p : Option Loc) (name : Path) (all : List Access) → LiesIn o p → Stands IsPlain o (HeldWithin o) (name_accesses e p name all)
name_accesses_stand e o p name [] h = alone IsPlain o invalid_access p tt h
name_accesses_stand e o p name (call args ∷ rest) h = then_stands IsPlain o (HeldWithin o) _ _ (function_stands e o p name args h) (λ y. accesses_stand e o p y rest h)
name_accesses_stand e o p name (index text ∷ rest) h = alone IsPlain o invalid_index p tt h
name_accesses_stand e o p name (field id ∷ []) h = alone IsPlain o invalid_access p tt h
name_accesses_stand e o p name (field id ∷ call args ∷ rest) h = alone IsPlain o no_methods p tt h
name_accesses_stand e o p name (field id ∷ field other ∷ rest) h = alone IsPlain o invalid_access p tt h
name_accesses_stand e o p name (field id ∷ index text ∷ rest) h = alone IsPlain o invalid_access p tt h

variable_accesses_stand : (e : Extensions) (o : Origin) (p : Option Loc) (x : Var) (all : List Access) → LiesIn o p → Stands IsPlain o (HeldWithin o) (variable_accesses e p x all)
variable_accesses_stand e o p x [] h = h
variable_accesses_stand e o p x (call args ∷ rest) h = alone IsPlain o variable_call p tt h
variable_accesses_stand e o p x (index text ∷ rest) h = accesses_stand e o p (v.var x) (index text ∷ rest) h
variable_accesses_stand e o p x (field id ∷ rest) h = accesses_stand e o p (v.var x) (field id ∷ rest) h

some_stand : (e : Extensions) (o : Origin) (p : Option Loc) (all : List Access) (h : Held) → LiesIn o p → HeldWithin o h → Stands IsPlain o (HeldWithin o) (some_accesses e p h all)
some_stand e o p all (expression own x) w k = accesses_stand e o p x all w
some_stand e o p all (variable own x) w k = variable_accesses_stand e o p x all w
some_stand e o p all (bare_name own name) w k = name_accesses_stand e o p name all w
some_stand e o p all (bare_truth own b) w k = accesses_stand e o p (v.val (literals.Bool b)) all w
some_stand e o p all (bare_string own raw) w k = then_stands IsPlain o (HeldWithin o) (as_expression (bare_string own raw)) _ (as_value o (bare_string own raw) k) (λ x. accesses_stand e o p x all w)

pub member_stands : (e : Extensions) (o : Origin) (p : Option Loc) (all : List Access) (h : Held) → LiesIn o p → HeldWithin o h → Stands IsPlain o (HeldWithin o) (member_outcome e p h all)
member_stands e o p [] h w k = k
member_stands e o p (access ∷ all) h w k = some_stand e o p (access ∷ all) h w k

-- ---- right sides of `has`

field_form_stands : (o : Origin) (p : Option Loc) (u : Form) → LiesIn o p → AccessFormTidy o u → Stands IsPlain o Anything (field_form p u)
field_form_stands o p (f.field n) w h = unreserved_stands o n h
field_form_stands o p u w h = alone IsPlain o invalid_has_rhs p tt w

field_stands : (o : Origin) (n : Located) → AccessTidy o n → Stands IsPlain o Anything (field_of n)
field_stands o (f.missing p) h = alone IsPlain o empty_node p h (anywhere o p h)
field_stands o (f.at p u) h = field_form_stands o p u h.0 h.1

fields_stand : (o : Origin) (ps : Parts) → AccessesTidy o ps → Stands IsPlain o Anything (fields_of ps)
fields_stand o f.none h = tt
fields_stand o (f.more op n ps) h = then_stands IsPlain o Anything _ _ (field_stands o n h.0) (λ id. then_stands IsPlain o Anything _ _ (fields_stand o ps h.1) (λ ids. tt))

behind_stands : (o : Origin) (ps : Parts) (first : List ℕ) → AccessesTidy o ps → Stands IsPlain o Anything (behind_first ps first)
behind_stands o ps first h = then_stands IsPlain o Anything _ _ (fields_stand o ps h) (λ ids. tt)

string_stands : (o : Origin) (w p : Option Loc) (raw : List ℕ) (ps : Parts) → LiesIn o w → LiesIn o p → Stands IsPlain o Anything (string_alone w p raw ps)
string_stands o w p raw f.none k h = then_stands IsPlain o Anything _ _ (text_stands o p raw h) (λ text. tt)
string_stands o w p raw (f.more op n ps) k h = alone IsPlain o invalid_has_rhs w tt k

attributes_stand : (o : Origin) (w : Option Loc) (ps : Parts) (h : Held) → LiesIn o w → AccessesTidy o ps → HeldWithin o h → Stands IsPlain o Anything (attributes_of w ps h)
attributes_stand o w ps (expression p x) k t h = alone IsPlain o invalid_has_rhs p tt h
attributes_stand o w ps (variable p x) k t h = behind_stands o ps (var_text x) t
attributes_stand o w ps (bare_name p x) k t h = then_stands IsPlain o Anything _ _ (unqualified_stands o p x.path x.id h) (λ id. behind_stands o ps id t)
attributes_stand o w ps (bare_truth p x) k t h = alone IsPlain o reserved_identifier p tt h
attributes_stand o w ps (bare_string p raw) k t h = string_stands o w p raw ps k h

begun_stands : (o : Origin) (w : Option Loc) (qs : Parts) (p : Option Loc) (u : Form) → LiesIn o w → AccessesTidy o qs → LiesIn o p → FormTidy o u → Stands IsPlain o Anything (beginning_outcome w qs p u)
begun_stands o w qs p (f.literal n) k t h g = next_stands IsPlain o (HeldWithin o) Anything (literal_outcome n.loc n.node) _ (literal_stands o n.loc n.node g.0 g.1) (λ s i. attributes_stand o w qs s k t i)
begun_stands o w qs p (f.name n) k t h g = next_stands IsPlain o (HeldWithin o) Anything (name_leaf p n) _ (named_stands o p n h g) (λ s i. attributes_stand o w qs s k t i)
begun_stands o w qs p u k t h g = alone IsPlain o invalid_has_rhs p tt h

begins_stands : (o : Origin) (w : Option Loc) (ps : Parts) (n : Located) → LiesIn o w → AccessesTidy o ps → Tidy o n → Stands IsPlain o Anything (begins_with w ps n)
begins_stands o w ps (f.missing p) k t h = alone IsPlain o empty_node p h (anywhere o p h)
begins_stands o w ps (f.at p u) k t h = begun_stands o w ps p u k t h.0 h.1

mutual
  unfolding right_side right_form

  pub right_stands : (o : Origin) (w : Option Loc) (n : Located) → LiesIn o w → Tidy o n → Stands IsPlain o Anything (right_side w n)
  right_stands o w (f.missing p) k h = alone IsPlain o empty_node p h (anywhere o p h)
  right_stands o w (f.at p u) k h = right_form_stands o w u k h.1

  right_form_stands : (o : Origin) (w : Option Loc) (u : Form) → LiesIn o w → FormTidy o u → Stands IsPlain o Anything (right_form w u)
  right_form_stands o w (f.chain level n f.none) k h = right_stands o w n k h.0
  right_form_stands o w (f.unary op n) k h = if_stands IsPlain o Anything (no_sign op) _ _ (right_stands o w n k h) (alone IsPlain o invalid_has_rhs w tt k)
  right_form_stands o w (f.member n ps) k h = begins_stands o w ps n k h.1 h.0
  right_form_stands o w u k h = alone IsPlain o invalid_has_rhs w tt k
