-- What doesn't look at places below the levels of operators: the joins, and the leaves.
use Rattle.std.proofs.Common.{◌≡◌, ℕ, nat_le, Bool, true, false, cond, List, [], ◌∷◌, map, Option, Some, None, option_map, Ok, Err, refl, ap}
use Rattle.cedar_expressions.specs.declared.atoms.Var.{Var}
use Rattle.cedar_expressions.specs.Path.{Path, is_valid_identifier, is_reserved_namespace, has_reserved_namespace}
use Rattle.cedar_expressions.specs.Value as v
use Rattle.cedar_expressions.specs.Value.{Value, values}
use Rattle.cedar_expressions.specs.WithoutPlaces.{without_places, all_without_places}
use Rattle.cedar_syntax.specs.declared.loc.Loc.{Loc}
use Rattle.cedar_syntax.specs.declared.node.Node.{Node}
use Rattle.cedar_syntax.specs.declared.cst.Ident.{Ident}
use Rattle.cedar_syntax.specs.declared.cst.Ident.TheVariants as words
use Rattle.cedar_syntax.specs.declared.cst.Literal.{Literal}
use Rattle.cedar_syntax.specs.declared.cst.Literal.TheVariants as lit
use Rattle.cedar_syntax.specs.declared.cst.Name.{Name}
use Rattle.cedar_syntax.specs.declared.cst.Ref.{Ref}
use Rattle.cedar_syntax.specs.declared.cst.Ref.TheVariants as refs
use Rattle.cedar_syntax.specs.declared.cst.Slot.{Slot}
use Rattle.cedar_syntax.specs.declared.cst.Slot.TheVariants as slots
use Rattle.cedar_syntax.specs.declared.cst.Str.{Str}
use Rattle.cedar_syntax.specs.declared.cst.Str.TheVariants as str
use Rattle.cedar_syntax.specs.declared.err.escape.UnescapeError.{UnescapeError}
use Rattle.cedar_syntax.specs.trees.Unlocated.{unlocated_cell, unlocated_literal, unlocated_name, unlocated_node, unlocated_ref}
use Rattle.cedar_syntax.specs.strings.Pattern.{pattern_faults, pattern_pieces}
use Rattle.cedar_policy_parser.proofs.Alike.{Alike, Same}
use Rattle.cedar_conversion.specs.outcome.Conversion.{Part}
use Rattle.cedar_conversion.specs.parts.Entities.{id_text, id_outcome, reference_outcome, slot_id}
use Rattle.cedar_conversion.specs.outcome.Held.{Held, expression, variable, bare_name, bare_truth, bare_string, as_expression, as_pattern, as_entity_type, as_string, as_attribute, text_value, unqualified}
use Rattle.cedar_conversion.specs.parts.Leaves.{name_leaf, variable_or_name, slot_leaf, entity_leaf}
use Rattle.cedar_conversion.specs.parts.Literals.{held_string, literal_outcome}
use Rattle.cedar_conversion.specs.parts.Names.{content_outcome, all_of, valid_ident_of, valid_ident, unreserved_ident, path_outcome, name_outcome, named_variable}
use Rattle.cedar_conversion.specs.outcome.Outcome.{Outcome, both, next}
use Rattle.cedar_conversion.specs.strict.Strict.{largest}
use Rattle.cedar_conversion.specs.parts.Strings.{layout, escape_faults, unescaped, unless_faulty, text_outcome, pattern_outcome}

-- ---- the two congruences

abbrev pub Pairs : {X Y : Type 0} → (X → X → Type 0) → (Y → Y → Type 0) → X × Y → X × Y → Type 0
Pairs R S x y = R x.0 y.0 × S x.1 y.1

pub both_alike : {X Y : Type 0} (R : X → X → Type 0) (S : Y → Y → Type 0) (o p : Outcome X) (q r : Outcome Y) → Alike R o p → Alike S q r → Alike (Pairs R S) (both o q) (both p r)
both_alike R S (Ok x) (Ok y) (Ok z) (Ok w) a b = (a, b)
both_alike R S (Ok x) (Ok y) (Err fs) (Err gs) a b = tt
both_alike R S (Err fs) (Err gs) (Ok z) (Ok w) a b = tt
both_alike R S (Err fs) (Err gs) (Err hs) (Err ks) a b = tt
both_alike R S (Ok x) (Err gs) q r a b = absurd a
both_alike R S (Err fs) (Ok y) q r a b = absurd a
both_alike R S o p (Ok z) (Err gs) a b = absurd b
both_alike R S o p (Err fs) (Ok w) a b = absurd b

pub next_alike : {X Y : Type 0} (R : X → X → Type 0) (S : Y → Y → Type 0) (o p : Outcome X) (g h : X → Outcome Y) → Alike R o p → ((x y : X) → R x y → Alike S (g x) (h y)) → Alike S (next o g) (next p h)
next_alike R S (Ok x) (Ok y) g h a k = k x y a
next_alike R S (Ok x) (Err gs) g h a k = absurd a
next_alike R S (Err fs) (Ok y) g h a k = absurd a
next_alike R S (Err fs) (Err gs) g h a k = tt

pub if_alike : {X : Type 0} (R : X → X → Type 0) (b : Bool) (o p q r : Outcome X) → Alike R o p → Alike R q r → Alike R (cond b o q) (cond b p r)
if_alike R true o p q r h k = h
if_alike R false o p q r h k = k

abbrev pub Equal : {X : Type 0} → X → X → Type 0
Equal x y = x ≡ y

-- what comes next is of the same thing
pub then_alike : {X Y : Type 0} (S : Y → Y → Type 0) (o p : Outcome X) (g h : X → Outcome Y) → Alike Equal o p → ((x : X) → Alike S (g x) (h x)) → Alike S (next o g) (next p h)
then_alike S o p g h a k = next_alike Equal S o p g h a (λ x y e. rw e (k y))

-- ---- values, places aside

abbrev pub Aside : Value → Value → Type 0
Aside x y = without_places x ≡ y

abbrev pub part_aside : Part → Part
part_aside p = (p.0, without_places p.1)

abbrev pub PartsAside : List Part → List Part → Type 0
PartsAside ps qs = map part_aside ps ≡ qs

-- what comes next is of the same value, places aside
pub aside_then : {Y : Type 0} (S : Y → Y → Type 0) (o p : Outcome Value) (g h : Value → Outcome Y) → Alike Aside o p → ((x : Value) → Alike S (g x) (h (without_places x))) → Alike S (next o g) (next p h)
aside_then S o p g h a k = next_alike Aside S o p g h a (λ x y e. rw (← e) (k x))

pub values_aside : (xs : List Value) → all_without_places (values xs) ≡ values (map without_places xs)
unfolding all_without_places
values_aside [] = refl
values_aside (x ∷ xs) = ap (v.more (without_places x)) (values_aside xs)

-- ---- strings

unless_alike : {X : Type 0} (p q : Option Loc) (faults : List UnescapeError) (x : X) → Alike Equal (unless_faulty p faults x) (unless_faulty q faults x)
unless_alike p q [] x = refl
unless_alike p q (fault ∷ faults) x = tt

pub text_alike : (p q : Option Loc) (raw : List ℕ) → Alike Equal (text_outcome p raw) (text_outcome q raw)
text_alike p q raw = unless_alike p q (escape_faults raw) (unescaped raw)

pattern_alike : (p q : Option Loc) (raw : List ℕ) → Alike Equal (pattern_outcome p raw) (pattern_outcome q raw)
pattern_alike p q raw = unless_alike p q (pattern_faults raw (layout raw)) (pattern_pieces (layout raw))

-- ---- what a form is

-- two forms that are the same up to places, form by form
pub same_cases : (P : Held → Held → Type 0) → ((p q : Option Loc) (x : Value) → P (expression p x) (expression q (without_places x))) → ((p q : Option Loc) (x : Var) → P (variable p x) (variable q x)) → ((p q : Option Loc) (x : Path) → P (bare_name p x) (bare_name q x))
    → ((p q : Option Loc) (x : Bool) → P (bare_truth p x) (bare_truth q x)) → ((p q : Option Loc) (x : List ℕ) → P (bare_string p x) (bare_string q x)) → (m n : Held) → Same m n → P m n
same_cases P f g h k l (expression p x) (expression q y) e = rw (← e) (f p q x)
same_cases P f g h k l (expression p x) (variable q y) e = absurd e
same_cases P f g h k l (expression p x) (bare_name q y) e = absurd e
same_cases P f g h k l (expression p x) (bare_truth q y) e = absurd e
same_cases P f g h k l (expression p x) (bare_string q y) e = absurd e
same_cases P f g h k l (variable p x) (expression q y) e = absurd e
same_cases P f g h k l (variable p x) (variable q y) e = rw e (g p q y)
same_cases P f g h k l (variable p x) (bare_name q y) e = absurd e
same_cases P f g h k l (variable p x) (bare_truth q y) e = absurd e
same_cases P f g h k l (variable p x) (bare_string q y) e = absurd e
same_cases P f g h k l (bare_name p x) (expression q y) e = absurd e
same_cases P f g h k l (bare_name p x) (variable q y) e = absurd e
same_cases P f g h k l (bare_name p x) (bare_name q y) e = rw e (h p q y)
same_cases P f g h k l (bare_name p x) (bare_truth q y) e = absurd e
same_cases P f g h k l (bare_name p x) (bare_string q y) e = absurd e
same_cases P f g h k l (bare_truth p x) (expression q y) e = absurd e
same_cases P f g h k l (bare_truth p x) (variable q y) e = absurd e
same_cases P f g h k l (bare_truth p x) (bare_name q y) e = absurd e
same_cases P f g h k l (bare_truth p x) (bare_truth q y) e = rw e (k p q y)
same_cases P f g h k l (bare_truth p x) (bare_string q y) e = absurd e
same_cases P f g h k l (bare_string p x) (expression q y) e = absurd e
same_cases P f g h k l (bare_string p x) (variable q y) e = absurd e
same_cases P f g h k l (bare_string p x) (bare_name q y) e = absurd e
same_cases P f g h k l (bare_string p x) (bare_truth q y) e = absurd e
same_cases P f g h k l (bare_string p x) (bare_string q y) e = rw e (l p q y)

pub text_value_alike : (p q : Option Loc) (raw : List ℕ) → Alike Aside (next (text_outcome p raw) text_value) (next (text_outcome q raw) text_value)
unfolding without_places
text_value_alike p q raw = then_alike Aside _ _ _ _ (text_alike p q raw) (λ x. refl)

pub as_value : (h k : Held) → Same h k → Alike Aside (as_expression h) (as_expression k)
unfolding without_places
as_value = same_cases (λ h k. Alike Aside (as_expression h) (as_expression k)) (λ p q x. refl) (λ p q x. refl) (λ p q x. tt) (λ p q x. refl) text_value_alike

pub value_alike : (o p : Outcome Held) → Alike Same o p → Alike Aside (next o as_expression) (next p as_expression)
value_alike o p h = next_alike Same Aside o p as_expression as_expression h as_value

pub as_pattern_alike : (h k : Held) → Same h k → Alike Equal (as_pattern h) (as_pattern k)
as_pattern_alike = same_cases (λ h k. Alike Equal (as_pattern h) (as_pattern k)) (λ p q x. tt) (λ p q x. tt) (λ p q x. tt) (λ p q x. tt) pattern_alike

pub as_type_alike : (h k : Held) → Same h k → Alike Equal (as_entity_type h) (as_entity_type k)
as_type_alike = same_cases (λ h k. Alike Equal (as_entity_type h) (as_entity_type k)) (λ p q x. tt) (λ p q x. refl) (λ p q x. refl) (λ p q x. tt) (λ p q x. tt)

pub as_string_alike : (h k : Held) → Same h k → Alike Equal (as_string h) (as_string k)
as_string_alike = same_cases (λ h k. Alike Equal (as_string h) (as_string k)) (λ p q x. tt) (λ p q x. tt) (λ p q x. tt) (λ p q x. tt) text_alike

pub unqualified_alike : (p q : Option Loc) (path : List (List ℕ)) (id : List ℕ) → Alike Equal (unqualified p path id) (unqualified q path id)
unqualified_alike p q [] id = refl
unqualified_alike p q (x ∷ xs) id = tt

pub as_attribute_alike : (h k : Held) → Same h k → Alike Equal (as_attribute h) (as_attribute k)
as_attribute_alike = same_cases (λ h k. Alike Equal (as_attribute h) (as_attribute k)) (λ p q x. tt) (λ p q x. refl) (λ p q x. unqualified_alike p q x.path x.id) (λ p q x. tt) text_alike

-- ---- identifiers and names

filled_alike : {X : Type 0} (p q : Option Loc) (o : Option X) → Alike Equal (content_outcome p o) (content_outcome q o)
filled_alike p q None = tt
filled_alike p q (Some x) = refl

valid_of_alike : (p q : Option Loc) (i : Ident) → Alike Equal (valid_ident_of p i) (valid_ident_of q i)
valid_of_alike p q words.Principal = refl
valid_of_alike p q words.Action = refl
valid_of_alike p q words.Resource = refl
valid_of_alike p q words.Context = refl
valid_of_alike p q words.True = tt
valid_of_alike p q words.False = tt
valid_of_alike p q words.Permit = refl
valid_of_alike p q words.Forbid = refl
valid_of_alike p q words.When = refl
valid_of_alike p q words.Unless = refl
valid_of_alike p q words.In = tt
valid_of_alike p q words.Has = tt
valid_of_alike p q words.Like = tt
valid_of_alike p q words.Is = tt
valid_of_alike p q words.If = tt
valid_of_alike p q words.Then = tt
valid_of_alike p q words.Else = tt
valid_of_alike p q (words.Ident text) = if_alike Equal (is_valid_identifier text) _ _ _ _ refl tt
valid_of_alike p q (words.Invalid text) = tt

valid_alike : (n : Node (Option Ident)) → Alike Equal (valid_ident n) (valid_ident (unlocated_node n))
valid_alike n = then_alike Equal _ _ _ _ (filled_alike n.loc None n.node) (valid_of_alike n.loc None)

pub unreserved_alike : (n : Node (Option Ident)) → Alike Equal (unreserved_ident n) (unreserved_ident (unlocated_node n))
unreserved_alike n = then_alike Equal _ _ _ _ (valid_alike n) (λ id. if_alike Equal (is_reserved_namespace id) _ _ _ _ tt refl)

path_alike : (ns : List (Node (Option Ident))) → Alike Equal (all_of valid_ident ns) (all_of valid_ident (map unlocated_node ns))
path_alike [] = refl
path_alike (n ∷ ns) = next_alike (Pairs Equal Equal) Equal _ _ _ _ (both_alike Equal Equal _ _ _ _ (valid_alike n) (path_alike ns)) (λ x y e. rw (e.0, e.1) refl)

name_at_alike : (p q : Option Loc) (m : Name) → Alike Equal (path_outcome p m) (path_outcome q (unlocated_name m))
name_at_alike p q m =
    next_alike (Pairs Equal Equal) Equal _ _ _ _ (both_alike Equal Equal _ _ _ _ (valid_alike m.name) (path_alike m.path))
    (λ x y e. rw (e.0, e.1) (if_alike Equal (has_reserved_namespace (record { path = y.1; id = y.0 })) _ _ _ _ tt refl))

name_in_alike : (p q : Option Loc) (o : Option Name) → Alike Equal (next (content_outcome p o) (path_outcome p)) (next (content_outcome q (option_map unlocated_name o)) (path_outcome q))
name_in_alike p q None = tt
name_in_alike p q (Some m) = name_at_alike p q m

name_alike : (n : Node (Option Name)) → Alike Equal (name_outcome n) (name_outcome (unlocated_cell unlocated_name n))
name_alike n = name_in_alike n.loc None n.node

variable_independent : (path : List (Node (Option Ident))) (i : Node (Option Ident)) → named_variable (Some (record { path = map unlocated_node path; name = unlocated_node i })) ≡ named_variable (Some (record { path = path; name = i }))
variable_independent [] i = refl
variable_independent (n ∷ ns) i = refl

named_variable_independent : (o : Option Name) → named_variable (option_map unlocated_name o) ≡ named_variable o
named_variable_independent None = refl
named_variable_independent (Some m) = variable_independent m.path m.name

variable_or_alike : (p q : Option Loc) (o : Option Var) (n : Node (Option Name)) → Alike Same (variable_or_name p o n) (variable_or_name q o (unlocated_cell unlocated_name n))
variable_or_alike p q (Some x) n = refl
variable_or_alike p q None n = then_alike Same _ _ _ _ (name_alike n) (λ x. refl)

pub named_alike : (p q : Option Loc) (n : Node (Option Name)) → Alike Same (name_leaf p n) (name_leaf q (unlocated_cell unlocated_name n))
named_alike p q n = rw (named_variable_independent n.node) (variable_or_alike p q (named_variable n.node) n)

-- ---- entities and slots

id_text_alike : (p q r s : Option Loc) (x : Str) → Alike Equal (id_text p r x) (id_text q s x)
id_text_alike p q r s (str.String raw) = text_alike p q raw
id_text_alike p q r s (str.Invalid raw) = tt

id_alike : (p q : Option Loc) (n : Node (Option Str)) → Alike Equal (id_outcome p n) (id_outcome q (unlocated_node n))
id_alike p q n = then_alike Equal _ _ _ _ (filled_alike n.loc None n.node) (id_text_alike p q n.loc None)

reference_alike : (p q : Option Loc) (r : Ref) → Alike Equal (reference_outcome p r) (reference_outcome q (unlocated_ref r))
reference_alike p q (refs.Uid path eid) = next_alike (Pairs Equal Equal) Equal _ _ _ _ (both_alike Equal Equal _ _ _ _ (name_alike path) (id_alike p q eid)) (λ x y e. rw (e.0, e.1) refl)
reference_alike p q (refs.Ref path inits) = tt

pub entity_in_alike : (p q : Option Loc) (o : Option Ref) → Alike Equal (next (content_outcome p o) (reference_outcome p)) (next (content_outcome q (option_map unlocated_ref o)) (reference_outcome q))
entity_in_alike p q None = tt
entity_in_alike p q (Some r) = reference_alike p q r

pub entity_alike : (n : Node (Option Ref)) → Alike Same (entity_leaf n) (entity_leaf (unlocated_cell unlocated_ref n))
unfolding without_places
entity_alike n = then_alike Same _ _ _ _ (entity_in_alike n.loc None n.node) (λ x. refl)

slot_id_alike : (p q : Option Loc) (s : Slot) → Alike Equal (slot_id p s) (slot_id q s)
slot_id_alike p q slots.Principal = refl
slot_id_alike p q slots.Resource = refl
slot_id_alike p q (slots.Other text) = tt

pub slot_alike : (n : Node (Option Slot)) → Alike Same (slot_leaf n) (slot_leaf (unlocated_node n))
unfolding without_places
slot_alike n = then_alike Same _ _ _ _ (then_alike Equal _ _ _ _ (filled_alike n.loc None n.node) (slot_id_alike n.loc None)) (λ x. refl)

-- ---- literals

quoted_alike : (p q r s : Option Loc) (o : Option Str) → Alike Same (held_string p r o) (held_string q s o)
quoted_alike p q r s None = tt
quoted_alike p q r s (Some (str.String raw)) = refl
quoted_alike p q r s (Some (str.Invalid raw)) = tt

pub literal_alike : (p q : Option Loc) (o : Option Literal) → Alike Same (literal_outcome p o) (literal_outcome q (option_map unlocated_literal o))
unfolding without_places
literal_alike p q None = tt
literal_alike p q (Some lit.True) = refl
literal_alike p q (Some lit.False) = refl
literal_alike p q (Some (lit.Num n)) = if_alike Same (nat_le largest n) _ _ _ _ tt refl
literal_alike p q (Some (lit.Str s)) = quoted_alike p q s.loc None s.node
