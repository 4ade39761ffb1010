-- Where the faults of leaves stand: strings, identifiers, names, literals, entities and slots.
use Rattle.std.proofs.Common.{◌≡◌, ℕ, nat_le, Bool, true, false, ◌&&◌, not, cond, List, [], ◌∷◌, Option, Some, None, Ok, refl, sym, subst}
use Rattle.std.specs.List.{All}
use Rattle.cedar_expressions.specs.declared.atoms.Var.{Var}
use Rattle.cedar_expressions.specs.Path.{is_identifier, is_valid_identifier, is_reserved_word, is_reserved_namespace, has_reserved_namespace}
use Rattle.cedar_syntax.specs.declared.loc.Loc.{Loc}
use Rattle.cedar_syntax.specs.declared.node.Node.{Node}
use Rattle.cedar_syntax.specs.declared.cst.Ident.{Ident}
use Rattle.cedar_syntax.specs.declared.cst.Ident.TheVariants as words
use Rattle.cedar_syntax.specs.declared.cst.Literal.{Literal}
use Rattle.cedar_syntax.specs.declared.cst.Literal.TheVariants as lit
use Rattle.cedar_syntax.specs.declared.cst.Name.{Name}
use Rattle.cedar_syntax.specs.declared.cst.Ref.{Ref}
use Rattle.cedar_syntax.specs.declared.cst.Ref.TheVariants as refs
use Rattle.cedar_syntax.specs.declared.cst.Slot.{Slot}
use Rattle.cedar_syntax.specs.declared.cst.Slot.TheVariants as slots
use Rattle.cedar_syntax.specs.declared.cst.Str.{Str}
use Rattle.cedar_syntax.specs.declared.cst.Str.TheVariants as str
use Rattle.cedar_syntax.specs.declared.err.escape.UnescapeError.{UnescapeError}
use Rattle.cedar_syntax.specs.strings.Pattern.{pattern_faults, pattern_pieces}
use Rattle.cedar_conversion.specs.parts.Entities.{entity_outcome, id_text, id_outcome, reference_outcome, slot_id, slot_outcome}
use Rattle.cedar_conversion.specs.outcome.Held.{Held, expression, variable, bare_name, bare_truth, bare_string, as_expression, as_pattern, as_entity_type, as_string, as_attribute, unqualified}
use Rattle.cedar_conversion.specs.parts.Leaves.{name_leaf, variable_or_name, slot_leaf, entity_leaf}
use Rattle.cedar_conversion.specs.parts.Literals.{held_string, literal_outcome}
use Rattle.cedar_conversion.specs.parts.Names.{content_outcome, all_of, spelling_outcome, valid_text, valid_ident_of, valid_ident, any_ident_of, any_ident, unreserved_ident, path_outcome, name_outcome, named_variable}
use Rattle.cedar_conversion.specs.outcome.Detail.{escape, spelling}
use Rattle.cedar_conversion.specs.outcome.Outcome.{Outcome, detailed_outcome, next, empty_node, arbitrary_variable, invalid_pattern, invalid_is_type, invalid_string, invalid_attribute, path_as_attribute, reserved_identifier, invalid_identifier, reserved_namespace, integer_literal_too_large, invalid_entity_literal, invalid_slot, unescape}
use Rattle.cedar_conversion.specs.strict.Strict.{largest}
use Rattle.cedar_conversion.specs.parts.Strings.{layout, escape_faults, unescaped, string_faults, unless_faulty, text_outcome, pattern_outcome}
use Rattle.cedar_policy_parser.proofs.standing.Standing.{Origin, by_hand, parsed, ByHand, LiesIn, Kinds, IsPlain, KindWithin, Stands, Anything, alone, one_before, some_faults, no_faults, both_any, next_stands, then_stands, if_stands}
use Rattle.cedar_policy_parser.proofs.tidy.Tidy.{Holding, NodeTidy, Each, IsValid, IdentHeld, IdentTidy, NameTidy, LiteralTidy, RefTidy}

-- ---- strings

told_within : (o : Origin) (p : Option Loc) (faults : List UnescapeError) → LiesIn o p → All (KindWithin IsPlain o) (string_faults p faults)
told_within o p [] h = no_faults IsPlain o
told_within o p (fault ∷ faults) h = one_before IsPlain o unescape p _ (string_faults p faults) tt h (told_within o p faults h)

unless_stands : {X : Type 0} (o : Origin) (p : Option Loc) (faults : List UnescapeError) (x : X) → LiesIn o p → Stands IsPlain o Anything (unless_faulty p faults x)
unless_stands o p [] x h = tt
unless_stands o p (fault ∷ faults) x h = some_faults IsPlain o (unescape, p, escape fault) (string_faults p faults) (told_within o p (fault ∷ faults) h)

pub text_stands : (o : Origin) (p : Option Loc) (raw : List ℕ) → LiesIn o p → Stands IsPlain o Anything (text_outcome p raw)
text_stands o p raw h = unless_stands o p (escape_faults raw) (unescaped raw) h

pattern_stands : (o : Origin) (p : Option Loc) (raw : List ℕ) → LiesIn o p → Stands IsPlain o Anything (pattern_outcome p raw)
pattern_stands o p raw h = unless_stands o p (pattern_faults raw (layout raw)) (pattern_pieces (layout raw)) h

-- ---- what a form is

-- where it stands
abbrev pub place_held : Held → Option Loc
place_held (expression p x) = p
place_held (variable p x) = p
place_held (bare_name p x) = p
place_held (bare_truth p x) = p
place_held (bare_string p raw) = p

abbrev pub HeldWithin : Origin → Held → Type 0
HeldWithin o h = LiesIn o (place_held h)

pub as_value : (o : Origin) (h : Held) → HeldWithin o h → Stands IsPlain o Anything (as_expression h)
as_value o (expression p x) w = tt
as_value o (variable p x) w = tt
as_value o (bare_name p x) w = alone IsPlain o arbitrary_variable p tt w
as_value o (bare_truth p x) w = tt
as_value o (bare_string p raw) w = then_stands IsPlain o Anything (text_outcome p raw) _ (text_stands o p raw w) (λ x. tt)

pub value_stands : (o : Origin) (x : Outcome Held) → Stands IsPlain o (HeldWithin o) x → Stands IsPlain o Anything (next x as_expression)
value_stands o x h = next_stands IsPlain o (HeldWithin o) Anything x as_expression h (as_value o)

pub pattern_held : (o : Origin) (h : Held) → HeldWithin o h → Stands IsPlain o Anything (as_pattern h)
pattern_held o (expression p x) w = alone IsPlain o invalid_pattern p tt w
pattern_held o (variable p x) w = alone IsPlain o invalid_pattern p tt w
pattern_held o (bare_name p x) w = alone IsPlain o invalid_pattern p tt w
pattern_held o (bare_truth p x) w = alone IsPlain o invalid_pattern p tt w
pattern_held o (bare_string p raw) w = pattern_stands o p raw w

pub type_held : (o : Origin) (h : Held) → HeldWithin o h → Stands IsPlain o Anything (as_entity_type h)
type_held o (expression p x) w = alone IsPlain o invalid_is_type p tt w
type_held o (variable p x) w = tt
type_held o (bare_name p x) w = tt
type_held o (bare_truth p x) w = alone IsPlain o invalid_is_type p tt w
type_held o (bare_string p raw) w = alone IsPlain o invalid_is_type p tt w

pub string_held : (o : Origin) (h : Held) → HeldWithin o h → Stands IsPlain o Anything (as_string h)
string_held o (expression p x) w = alone IsPlain o invalid_string p tt w
string_held o (variable p x) w = alone IsPlain o invalid_string p tt w
string_held o (bare_name p x) w = alone IsPlain o invalid_string p tt w
string_held o (bare_truth p x) w = alone IsPlain o invalid_string p tt w
string_held o (bare_string p raw) w = text_stands o p raw w

pub unqualified_stands : (o : Origin) (p : Option Loc) (path : List (List ℕ)) (id : List ℕ) → LiesIn o p → Stands IsPlain o Anything (unqualified p path id)
unqualified_stands o p [] id h = tt
unqualified_stands o p (x ∷ xs) id h = alone IsPlain o path_as_attribute p tt h

pub attribute_held : (o : Origin) (h : Held) → HeldWithin o h → Stands IsPlain o Anything (as_attribute h)
attribute_held o (expression p x) w = alone IsPlain o invalid_attribute p tt w
attribute_held o (variable p x) w = tt
attribute_held o (bare_name p x) w = unqualified_stands o p x.path x.id w
attribute_held o (bare_truth p x) w = alone IsPlain o reserved_identifier p tt w
attribute_held o (bare_string p raw) w = text_stands o p raw w

-- ---- identifiers and names

-- a node that isn't empty, and what is made of it
pub filled_then : {X Y : Type 0} (K : Kinds) (o : Origin) (p : Option Loc) (P : X → Type 0) (R : Y → Type 0) (c : Option X) (f : X → Outcome Y) → LiesIn o p × Holding o P c → (ByHand o → K o empty_node) → ((x : X) → P x → Stands K o R (f x)) → Stands K o R (next (content_outcome p c) f)
filled_then K o p P R None f h e k = alone K o empty_node p (e h.1) h.0
filled_then K o p P R (Some x) f h e k = k x h.1

abbrev given_text : List ℕ → Outcome (List ℕ)
given_text text = Ok text

pub first_holds : (a b : Bool) → (a && b) ≡ true → a ≡ true
first_holds true b e = refl
first_holds false b e = e

valid_text_stands : (o : Origin) (p : Option Loc) (text : List ℕ) → LiesIn o p → IsValid o text → Stands IsPlain o Anything (valid_text p text)
valid_text_stands by_hand p text h k = if_stands IsPlain by_hand Anything (is_valid_identifier text) _ _ tt (alone IsPlain by_hand invalid_identifier p tt h)
valid_text_stands (parsed outer) p text h k = subst (λ b. Stands IsPlain (parsed outer) Anything (cond b (given_text text) (detailed_outcome invalid_identifier p (spelling text)))) (sym k) tt

spelled_stands : (o : Origin) (p : Option Loc) (text : List ℕ) → LiesIn o p → IsValid o text → Stands IsPlain o Anything (spelling_outcome p text)
spelled_stands by_hand p text h k = if_stands IsPlain by_hand Anything (is_identifier text) _ _ tt (alone IsPlain by_hand invalid_identifier p tt h)
spelled_stands (parsed outer) p text h k = subst (λ b. Stands IsPlain (parsed outer) Anything (cond b (given_text text) (detailed_outcome invalid_identifier p (spelling text)))) (sym (first_holds (is_identifier text) (not (is_reserved_word text)) k)) tt

valid_of : (o : Origin) (p : Option Loc) (i : Ident) → LiesIn o p → IdentHeld o i → Stands IsPlain o Anything (valid_ident_of p i)
valid_of o p words.Principal h k = tt
valid_of o p words.Action h k = tt
valid_of o p words.Resource h k = tt
valid_of o p words.Context h k = tt
valid_of o p words.Permit h k = tt
valid_of o p words.Forbid h k = tt
valid_of o p words.When h k = tt
valid_of o p words.Unless h k = tt
valid_of o p (words.Ident text) h k = valid_text_stands o p text h k
valid_of o p (words.Invalid text) h k = alone IsPlain o invalid_identifier p k h
valid_of o p i h k = alone IsPlain o reserved_identifier p tt h

pub valid_stands : (o : Origin) (n : Node (Option Ident)) → IdentTidy o n → Stands IsPlain o Anything (valid_ident n)
valid_stands o n h = filled_then IsPlain o n.loc (IdentHeld o) Anything n.node (valid_ident_of n.loc) h (λ e. e) (λ i k. valid_of o n.loc i h.0 k)

any_of : (o : Origin) (p : Option Loc) (i : Ident) → LiesIn o p → IdentHeld o i → Stands IsPlain o Anything (any_ident_of p i)
any_of o p words.True h k = tt
any_of o p words.False h k = tt
any_of o p words.If h k = tt
any_of o p words.Then h k = tt
any_of o p words.Else h k = tt
any_of o p words.In h k = tt
any_of o p words.Is h k = tt
any_of o p words.Has h k = tt
any_of o p words.Like h k = tt
any_of o p (words.Ident text) h k = spelled_stands o p text h k
any_of o p (words.Invalid text) h k = alone IsPlain o invalid_identifier p k h
any_of o p i h k = tt

pub any_stands : (o : Origin) (n : Node (Option Ident)) → IdentTidy o n → Stands IsPlain o Anything (any_ident n)
any_stands o n h = filled_then IsPlain o n.loc (IdentHeld o) Anything n.node (any_ident_of n.loc) h (λ e. e) (λ i k. any_of o n.loc i h.0 k)

pub unreserved_stands : (o : Origin) (n : Node (Option Ident)) → IdentTidy o n → Stands IsPlain o Anything (unreserved_ident n)
unreserved_stands o n h = then_stands IsPlain o Anything (valid_ident n) _ (valid_stands o n h) (λ id. if_stands IsPlain o Anything (is_reserved_namespace id) _ _ (alone IsPlain o reserved_namespace n.loc tt h.0) tt)

-- all of them, joined
pub all_stand : {X Y : Type 0} (K : Kinds) (o : Origin) (P : X → Type 0) (f : X → Outcome Y) (xs : List X) → ((x : X) → P x → Stands K o Anything (f x)) → Each P xs → Stands K o Anything (all_of f xs)
all_stand K o P f [] k h = tt
all_stand K o P f (x ∷ xs) k h = then_stands K o Anything _ _ (both_any K o (f x) (all_of f xs) (k x h.0) (all_stand K o P f xs k h.1)) (λ p. tt)

path_stands : (o : Origin) (p : Option Loc) (m : Name) → LiesIn o p → NameTidy o m → Stands IsPlain o Anything (path_outcome p m)
path_stands o p m w h =
    then_stands IsPlain o Anything _ _ (both_any IsPlain o (valid_ident m.name) (all_of valid_ident m.path) (valid_stands o m.name h.1) (all_stand IsPlain o (IdentTidy o) valid_ident m.path (valid_stands o) h.0))
    (λ q. if_stands IsPlain o Anything (has_reserved_namespace (record { path = q.1; id = q.0 })) _ _ (alone IsPlain o reserved_namespace p tt w) tt)

pub name_stands : (o : Origin) (n : Node (Option Name)) → NodeTidy o (NameTidy o) n → Stands IsPlain o Anything (name_outcome n)
name_stands o n h = filled_then IsPlain o n.loc (NameTidy o) Anything n.node (path_outcome n.loc) h (λ e. e) (λ m k. path_stands o n.loc m h.0 k)

variable_or : (o : Origin) (p : Option Loc) (v : Option Var) (n : Node (Option Name)) → LiesIn o p → NodeTidy o (NameTidy o) n → Stands IsPlain o (HeldWithin o) (variable_or_name p v n)
variable_or o p (Some x) n w h = w
variable_or o p None n w h = then_stands IsPlain o (HeldWithin o) (name_outcome n) _ (name_stands o n h) (λ name. w)

pub named_stands : (o : Origin) (p : Option Loc) (n : Node (Option Name)) → LiesIn o p → NodeTidy o (NameTidy o) n → Stands IsPlain o (HeldWithin o) (name_leaf p n)
named_stands o p n w h = variable_or o p (named_variable n.node) n w h

-- ---- entities and slots

id_text_stands : (o : Origin) (p q : Option Loc) (x : Str) → LiesIn o p → LiesIn o q → Stands IsPlain o Anything (id_text p q x)
id_text_stands o p q (str.String raw) h k = text_stands o p raw h
id_text_stands o p q (str.Invalid raw) h k = alone IsPlain o invalid_string q tt k

pub id_stands : (o : Origin) (p : Option Loc) (n : Node (Option Str)) → LiesIn o p → NodeTidy o Anything n → Stands IsPlain o Anything (id_outcome p n)
id_stands o p n w h = filled_then IsPlain o n.loc Anything Anything n.node (id_text p n.loc) h (λ e. e) (λ x _. id_text_stands o p n.loc x w h.0)

reference_stands : (o : Origin) (p : Option Loc) (r : Ref) → LiesIn o p → RefTidy o r → Stands IsPlain o Anything (reference_outcome p r)
reference_stands o p (refs.Uid path eid) w h = then_stands IsPlain o Anything _ _ (both_any IsPlain o (name_outcome path) (id_outcome p eid) (name_stands o path h.0) (id_stands o p eid w h.1)) (λ q. tt)
reference_stands o p (refs.Ref path inits) w h = alone IsPlain o invalid_entity_literal p tt w

pub entity_stands : (o : Origin) (n : Node (Option Ref)) → NodeTidy o (RefTidy o) n → Stands IsPlain o Anything (entity_outcome n)
entity_stands o n h = filled_then IsPlain o n.loc (RefTidy o) Anything n.node (reference_outcome n.loc) h (λ e. e) (λ r k. reference_stands o n.loc r h.0 k)

pub entity_held_stands : (o : Origin) (n : Node (Option Ref)) → NodeTidy o (RefTidy o) n → Stands IsPlain o (HeldWithin o) (entity_leaf n)
entity_held_stands o n h = then_stands IsPlain o (HeldWithin o) (entity_outcome n) _ (entity_stands o n h) (λ uid. h.0)

slot_id_stands : (o : Origin) (p : Option Loc) (s : Slot) → LiesIn o p → Stands IsPlain o Anything (slot_id p s)
slot_id_stands o p slots.Principal h = tt
slot_id_stands o p slots.Resource h = tt
slot_id_stands o p (slots.Other text) h = alone IsPlain o invalid_slot p tt h

pub slot_stands : (o : Origin) (n : Node (Option Slot)) → NodeTidy o Anything n → Stands IsPlain o (HeldWithin o) (slot_leaf n)
slot_stands o n h =
    then_stands IsPlain o (HeldWithin o) (slot_outcome n) _ (filled_then IsPlain o n.loc Anything Anything n.node (slot_id n.loc) h (λ e. e) (λ s _. slot_id_stands o n.loc s h.0)) (λ id. h.0)

-- ---- literals

quoted_stands : (o : Origin) (p q : Option Loc) (c : Option Str) → LiesIn o p → LiesIn o q → Holding o Anything c → Stands IsPlain o (HeldWithin o) (held_string p q c)
quoted_stands o p q None w k h = alone IsPlain o empty_node q h k
quoted_stands o p q (Some (str.String raw)) w k h = w
quoted_stands o p q (Some (str.Invalid raw)) w k h = alone IsPlain o invalid_string q tt k

pub literal_stands : (o : Origin) (p : Option Loc) (c : Option Literal) → LiesIn o p → Holding o (LiteralTidy o) c → Stands IsPlain o (HeldWithin o) (literal_outcome p c)
literal_stands o p None w h = alone IsPlain o empty_node p h w
literal_stands o p (Some lit.True) w h = w
literal_stands o p (Some lit.False) w h = w
literal_stands o p (Some (lit.Num n)) w h = if_stands IsPlain o (HeldWithin o) (nat_le largest n) _ _ (alone IsPlain o integer_literal_too_large p tt w) w
literal_stands o p (Some (lit.Str s)) w h = quoted_stands o p s.loc s.node w h.0 h.1
