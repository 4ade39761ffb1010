-- Members and the right sides of `has` don't look at places.
use Rattle.std.proofs.Common.{◌≡◌, ℕ, List, [], ◌∷◌, map, Option, Some, None, refl, ap}
use Rattle.cedar_expressions.specs.declared.atoms.Literal.{Literal}
use Rattle.cedar_expressions.specs.declared.atoms.Literal.TheVariants as literals
use Rattle.cedar_expressions.specs.declared.atoms.Var.{Var}
use Rattle.cedar_expressions.specs.Path.{Path}
use Rattle.cedar_expressions.specs.Value as v
use Rattle.cedar_expressions.specs.Value.{Value, values}
use Rattle.cedar_expressions.specs.WithoutPlaces.{without_places}
use Rattle.cedar_expressions.specs.Written.{var_text}
use Rattle.cedar_syntax.specs.declared.loc.Loc.{Loc}
use Rattle.cedar_syntax.specs.trees.Located as f
use Rattle.cedar_syntax.specs.trees.Located.{Located, Form, Parts}
use Rattle.cedar_syntax.specs.trees.Unlocated.{unlocated, unlocated_form, unlocated_parts}
use Rattle.cedar_conversion.specs.declared.primaries.methods.Standard.{Standard}
use Rattle.cedar_conversion.specs.declared.primaries.methods.Standard.TheVariants as standard
use Rattle.cedar_conversion.specs.strict.StrictCalls.{method_word, standard_method, names_method}
use Rattle.cedar_policy_parser.proofs.Alike.{Alike, Same}
use Rattle.cedar_conversion.specs.strict.Extensions.{Extensions}
use Rattle.cedar_conversion.specs.parts.HasSide.{attributes_of, begins_with, beginning_outcome, behind_first, field_form, field_of, fields_of, no_sign, right_form, right_side, string_alone}
use Rattle.cedar_conversion.specs.outcome.Held.{Held}
use Rattle.cedar_conversion.specs.parts.Members.{Access, field, call, index, takes_one, with_arguments, plain_name, extension_method, method_by, method_outcome, function_outcome, accesses_of, name_accesses, variable_accesses, some_accesses, member_outcome}
use Rattle.cedar_policy_parser.proofs.independent.IndependentLeaves.{Equal, Aside, aside_then, values_aside, next_alike, then_alike, if_alike, same_cases, text_alike, text_value_alike, unqualified_alike, unreserved_alike, literal_alike, named_alike}

-- ---- calls

arguments_alike : (p q : Option Loc) (m : Standard) (x : Value) (args : List Value) → Alike Aside (with_arguments p (method_word m) (takes_one m) x args) (with_arguments q (method_word m) (takes_one m) (without_places x) (map without_places args))
unfolding without_places
arguments_alike p q standard.Contains x [] = tt
arguments_alike p q standard.Contains x (y ∷ []) = refl
arguments_alike p q standard.Contains x (y ∷ z ∷ args) = tt
arguments_alike p q standard.ContainsAll x [] = tt
arguments_alike p q standard.ContainsAll x (y ∷ []) = refl
arguments_alike p q standard.ContainsAll x (y ∷ z ∷ args) = tt
arguments_alike p q standard.ContainsAny x [] = tt
arguments_alike p q standard.ContainsAny x (y ∷ []) = refl
arguments_alike p q standard.ContainsAny x (y ∷ z ∷ args) = tt
arguments_alike p q standard.IsEmpty x [] = refl
arguments_alike p q standard.IsEmpty x (y ∷ args) = tt
arguments_alike p q standard.GetTag x [] = tt
arguments_alike p q standard.GetTag x (y ∷ []) = refl
arguments_alike p q standard.GetTag x (y ∷ z ∷ args) = tt
arguments_alike p q standard.HasTag x [] = tt
arguments_alike p q standard.HasTag x (y ∷ []) = refl
arguments_alike p q standard.HasTag x (y ∷ z ∷ args) = tt

-- a call of values, places aside
call_aside : (name : Path) (args : List Value) → without_places (v.call_extension_fn name (values args)) ≡ v.call_extension_fn name (values (map without_places args))
unfolding without_places
call_aside name args = ap (v.call_extension_fn name) (values_aside args)

extension_alike : (e : Extensions) (p q : Option Loc) (id : List ℕ) (x : Value) (args : List Value) → Alike Aside (extension_method e p id x args) (extension_method e q id (without_places x) (map without_places args))
extension_alike e p q id x args = if_alike Aside (e.methods id) _ _ _ _ (call_aside (plain_name id) (x ∷ args)) (if_alike Aside (e.functions (plain_name id)) _ _ _ _ tt tt)

method_by_alike : (e : Extensions) (p q : Option Loc) (id : List ℕ) (m : Option Standard) (x : Value) (args : List Value) → Alike Aside (method_by e p id m x args) (method_by e q id m (without_places x) (map without_places args))
method_by_alike e p q id (Some m) x args = arguments_alike p q m x args
method_by_alike e p q id None x args = extension_alike e p q id x args

method_alike : (e : Extensions) (p q : Option Loc) (id : List ℕ) (x : Value) (args : List Value) → Alike Aside (method_outcome e p id x args) (method_outcome e q id (without_places x) (map without_places args))
method_alike e p q id x args = method_by_alike e p q id (standard_method id) x args

function_alike : (e : Extensions) (p q : Option Loc) (name : Path) (args : List Value) → Alike Aside (function_outcome e p name args) (function_outcome e q name (map without_places args))
function_alike e p q name args = if_alike Aside (names_method e name.path name.id) _ _ _ _ tt (if_alike Aside (e.functions name) _ _ _ _ (call_aside name args) tt)

-- ---- accesses

abbrev pub access_aside : Access → Access
access_aside (field id) = field id
access_aside (call args) = call (map without_places args)
access_aside (index text) = index text

accesses_alike : (e : Extensions) (p q : Option Loc) (x : Value) (all : List Access) → Alike Same (accesses_of e p x all) (accesses_of e q (without_places x) (map access_aside all))
unfolding without_places
accesses_alike e p q x [] = refl
accesses_alike e p q x (call args ∷ rest) = tt
accesses_alike e p q x (index text ∷ rest) = accesses_alike e p q (v.get_attr x text) rest
accesses_alike e p q x (field id ∷ []) = refl
accesses_alike e p q x (field id ∷ call args ∷ rest) = aside_then Same _ _ _ _ (method_alike e p q id x args) (λ y. accesses_alike e p q y rest)
accesses_alike e p q x (field id ∷ field other ∷ rest) = accesses_alike e p q (v.get_attr x id) (field other ∷ rest)
accesses_alike e p q x (field id ∷ index text ∷ rest) = accesses_alike e p q (v.get_attr x id) (index text ∷ rest)

name_accesses_alike : (e : Extensions) (p q : Option Loc) (name : Path) (all : List Access) → Alike Same (name_accesses e p name all) (name_accesses e q name (map access_aside all))
name_accesses_alike e p q name [] = tt
name_accesses_alike e p q name (call args ∷ rest) = aside_then Same _ _ _ _ (function_alike e p q name args) (λ y. accesses_alike e p q y rest)
name_accesses_alike e p q name (index text ∷ rest) = tt
name_accesses_alike e p q name (field id ∷ []) = tt
name_accesses_alike e p q name (field id ∷ call args ∷ rest) = tt
name_accesses_alike e p q name (field id ∷ field other ∷ rest) = tt
name_accesses_alike e p q name (field id ∷ index text ∷ rest) = tt

variable_accesses_alike : (e : Extensions) (p q : Option Loc) (x : Var) (all : List Access) → Alike Same (variable_accesses e p x all) (variable_accesses e q x (map access_aside all))
unfolding without_places
variable_accesses_alike e p q x [] = refl
variable_accesses_alike e p q x (call args ∷ rest) = tt
variable_accesses_alike e p q x (index text ∷ rest) = accesses_alike e p q (v.var x) (index text ∷ rest)
variable_accesses_alike e p q x (field id ∷ rest) = accesses_alike e p q (v.var x) (field id ∷ rest)

-- a constant has no place
constant_accesses_alike : (e : Extensions) (p q : Option Loc) (l : Literal) (all : List Access) → Alike Same (accesses_of e p (v.val l) all) (accesses_of e q (v.val l) (map access_aside all))
unfolding without_places
constant_accesses_alike e p q l all = accesses_alike e p q (v.val l) all

some_alike : (e : Extensions) (p q : Option Loc) (all : List Access) (h k : Held) → Same h k → Alike Same (some_accesses e p h all) (some_accesses e q k (map access_aside all))
some_alike e p q all =
    same_cases (λ h k. Alike Same (some_accesses e p h all) (some_accesses e q k (map access_aside all))) (λ own other x. accesses_alike e p q x all)
    (λ own other x. variable_accesses_alike e p q x all) (λ own other name. name_accesses_alike e p q name all)
    (λ own other b. constant_accesses_alike e p q (literals.Bool b) all)
    (λ own other raw. aside_then Same _ _ _ _ (text_value_alike own other raw) (λ x. accesses_alike e p q x all))

pub member_alike : (e : Extensions) (p q : Option Loc) (all : List Access) (h k : Held) → Same h k → Alike Same (member_outcome e p h all) (member_outcome e q k (map access_aside all))
member_alike e p q [] h k s = s
member_alike e p q (access ∷ all) h k s = some_alike e p q (access ∷ all) h k s

-- ---- right sides of `has`

field_form_alike : (p q : Option Loc) (u : Form) → Alike Equal (field_form p u) (field_form q (unlocated_form u))
unfolding unlocated_form
field_form_alike p q (f.only n) = tt
field_form_alike p q (f.ite a b c) = tt
field_form_alike p q (f.chain level n ps) = tt
field_form_alike p q (f.has m n) = tt
field_form_alike p q (f.like m n) = tt
field_form_alike p q (f.is m n) = tt
field_form_alike p q (f.is_in m n o) = tt
field_form_alike p q (f.unary op n) = tt
field_form_alike p q (f.member n ps) = tt
field_form_alike p q (f.field n) = unreserved_alike n
field_form_alike p q (f.call ps) = tt
field_form_alike p q (f.index n) = tt
field_form_alike p q (f.literal n) = tt
field_form_alike p q (f.name n) = tt
field_form_alike p q (f.slot n) = tt
field_form_alike p q (f.reference n) = tt
field_form_alike p q (f.parens n) = tt
field_form_alike p q (f.set ps) = tt
field_form_alike p q (f.record_of ps) = tt
field_form_alike p q (f.init m n) = tt

field_alike : (n : Located) → Alike Equal (field_of n) (field_of (unlocated n))
unfolding unlocated
field_alike (f.missing p) = tt
field_alike (f.at p u) = field_form_alike p None u

fields_alike : (ps : Parts) → Alike Equal (fields_of ps) (fields_of (unlocated_parts ps))
unfolding unlocated_parts
fields_alike f.none = refl
fields_alike (f.more op n ps) = then_alike Equal _ _ _ _ (field_alike n) (λ id. then_alike Equal _ _ _ _ (fields_alike ps) (λ ids. refl))

behind_alike : (ps : Parts) (first : List ℕ) → Alike Equal (behind_first ps first) (behind_first (unlocated_parts ps) first)
behind_alike ps first = then_alike Equal _ _ _ _ (fields_alike ps) (λ ids. refl)

alone_alike : (w x p q : Option Loc) (raw : List ℕ) (ps : Parts) → Alike Equal (string_alone w p raw ps) (string_alone x q raw (unlocated_parts ps))
unfolding unlocated_parts
alone_alike w x p q raw f.none = then_alike Equal _ _ _ _ (text_alike p q raw) (λ text. refl)
alone_alike w x p q raw (f.more op n ps) = tt

attributes_alike : (w x : Option Loc) (ps : Parts) (h k : Held) → Same h k → Alike Equal (attributes_of w ps h) (attributes_of x (unlocated_parts ps) k)
attributes_alike w x ps =
    same_cases (λ h k. Alike Equal (attributes_of w ps h) (attributes_of x (unlocated_parts ps) k)) (λ p q y. tt) (λ p q y. behind_alike ps (var_text y))
    (λ p q name. then_alike Equal _ _ _ _ (unqualified_alike p q name.path name.id) (behind_alike ps)) (λ p q b. tt) (λ p q raw. alone_alike w x p q raw ps)

begun_alike : (w x : Option Loc) (qs : Parts) (p q : Option Loc) (u : Form) → Alike Equal (beginning_outcome w qs p u) (beginning_outcome x (unlocated_parts qs) q (unlocated_form u))
unfolding unlocated_form
begun_alike w x qs p q (f.only n) = tt
begun_alike w x qs p q (f.ite a b c) = tt
begun_alike w x qs p q (f.chain level n ps) = tt
begun_alike w x qs p q (f.has m n) = tt
begun_alike w x qs p q (f.like m n) = tt
begun_alike w x qs p q (f.is m n) = tt
begun_alike w x qs p q (f.is_in m n o) = tt
begun_alike w x qs p q (f.unary op n) = tt
begun_alike w x qs p q (f.member n ps) = tt
begun_alike w x qs p q (f.field n) = tt
begun_alike w x qs p q (f.call ps) = tt
begun_alike w x qs p q (f.index n) = tt
begun_alike w x qs p q (f.literal n) = next_alike Same Equal _ _ _ _ (literal_alike n.loc None n.node) (attributes_alike w x qs)
begun_alike w x qs p q (f.name n) = next_alike Same Equal _ _ _ _ (named_alike p q n) (attributes_alike w x qs)
begun_alike w x qs p q (f.slot n) = tt
begun_alike w x qs p q (f.reference n) = tt
begun_alike w x qs p q (f.parens n) = tt
begun_alike w x qs p q (f.set ps) = tt
begun_alike w x qs p q (f.record_of ps) = tt
begun_alike w x qs p q (f.init m n) = tt

begins_alike : (w x : Option Loc) (ps : Parts) (n : Located) → Alike Equal (begins_with w ps n) (begins_with x (unlocated_parts ps) (unlocated n))
unfolding unlocated
begins_alike w x ps (f.missing p) = tt
begins_alike w x ps (f.at p u) = begun_alike w x ps p None u

mutual
  unfolding right_side right_form unlocated unlocated_form unlocated_parts

  pub right_alike : (w x : Option Loc) (n : Located) → Alike Equal (right_side w n) (right_side x (unlocated n))
  right_alike w x (f.missing p) = tt
  right_alike w x (f.at p u) = right_form_alike w x u

  right_form_alike : (w x : Option Loc) (u : Form) → Alike Equal (right_form w u) (right_form x (unlocated_form u))
  right_form_alike w x (f.only n) = tt
  right_form_alike w x (f.ite a b c) = tt
  right_form_alike w x (f.chain level n f.none) = right_alike w x n
  right_form_alike w x (f.chain level n (f.more op m ps)) = tt
  right_form_alike w x (f.has m n) = tt
  right_form_alike w x (f.like m n) = tt
  right_form_alike w x (f.is m n) = tt
  right_form_alike w x (f.is_in m n o) = tt
  right_form_alike w x (f.unary op n) = if_alike Equal (no_sign op) _ _ _ _ (right_alike w x n) tt
  right_form_alike w x (f.member n ps) = begins_alike w x ps n
  right_form_alike w x (f.field n) = tt
  right_form_alike w x (f.call ps) = tt
  right_form_alike w x (f.index n) = tt
  right_form_alike w x (f.literal n) = tt
  right_form_alike w x (f.name n) = tt
  right_form_alike w x (f.slot n) = tt
  right_form_alike w x (f.reference n) = tt
  right_form_alike w x (f.parens n) = tt
  right_form_alike w x (f.set ps) = tt
  right_form_alike w x (f.record_of ps) = tt
  right_form_alike w x (f.init m n) = tt
