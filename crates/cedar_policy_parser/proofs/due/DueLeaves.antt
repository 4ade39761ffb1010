-- The faults of leaves are due: identifiers, names, literals, entities and slots. And what a node
-- that gives something is.
use Rattle.std.proofs.Common.{◌≡◌, ◌≢◌, ℕ, nat_le, List, [], ◌∷◌, Option, Some, None, refl, sym, subst}
use Rattle.std.specs.List.{Contains}
use Rattle.std.proofs.lemmas.List.Elements.{Contains-append_left, Contains-append_right, Contains-push}
use Rattle.cedar_expressions.specs.declared.atoms.Var.{Var}
use Rattle.cedar_expressions.specs.Path.{is_valid_identifier, is_reserved_namespace, has_reserved_namespace}
use Rattle.cedar_syntax.specs.declared.loc.Loc.{Loc}
use Rattle.cedar_syntax.specs.declared.node.Node.{Node}
use Rattle.cedar_syntax.specs.declared.cst.Ident.{Ident}
use Rattle.cedar_syntax.specs.declared.cst.Ident.TheVariants as words
use Rattle.cedar_syntax.specs.declared.cst.Literal.{Literal}
use Rattle.cedar_syntax.specs.declared.cst.Literal.TheVariants as lit
use Rattle.cedar_syntax.specs.declared.cst.Name.{Name}
use Rattle.cedar_syntax.specs.declared.cst.Ref.{Ref}
use Rattle.cedar_syntax.specs.declared.cst.Ref.TheVariants as refs
use Rattle.cedar_syntax.specs.declared.cst.Slot.{Slot}
use Rattle.cedar_syntax.specs.declared.cst.Slot.TheVariants as slots
use Rattle.cedar_syntax.specs.declared.cst.Str.{Str}
use Rattle.cedar_syntax.specs.declared.cst.Str.TheVariants as str
use Rattle.cedar_syntax.specs.trees.Located as f
use Rattle.cedar_syntax.specs.trees.Located.{Located, Form, at}
use Rattle.cedar_policy_parser.specs.faults.Alone as way
use Rattle.cedar_policy_parser.specs.faults.Alone.{ComesTo}
use Rattle.cedar_conversion.specs.outcome.Conversion.{tree_place}
use Rattle.cedar_policy_parser.specs.faults.DueKinds as due
use Rattle.cedar_policy_parser.specs.faults.DueKinds.{IsDue, IsMisspelled, IsReservedIdent}
use Rattle.cedar_conversion.specs.parts.Entities.{entity_outcome, id_text, id_outcome, reference_outcome, slot_id, slot_outcome}
use Rattle.cedar_conversion.specs.strict.Extensions.{Extensions}
use Rattle.cedar_conversion.specs.outcome.Held.{Held, expression, variable, bare_name, bare_truth, bare_string}
use Rattle.cedar_conversion.specs.parts.Leaves.{name_leaf, variable_or_name, slot_leaf, entity_leaf}
use Rattle.cedar_conversion.specs.parts.Literals.{held_string, literal_outcome}
use Rattle.cedar_conversion.specs.parts.Names.{content_outcome, all_of, valid_ident_of, valid_ident, unreserved_ident, identifiers, path_of, path_outcome, name_outcome, named_variable}
use Rattle.cedar_conversion.specs.outcome.Outcome as k
use Rattle.cedar_conversion.specs.outcome.Outcome.{Outcome, fault_outcome, both, next}
use Rattle.cedar_policy_parser.specs.faults.Sites as site
use Rattle.cedar_policy_parser.specs.faults.Sites.{Site, IsPart, IsNameSite, IsNameNode, IsNamed, IsVariableSite, IsLiteral, IsTruth, IsTruthValue, IsQuoted, IsString, IsSiteOf}
use Rattle.cedar_policy_parser.specs.faults.Standing.{LiesWithin}
use Rattle.cedar_conversion.specs.strict.Strict.{largest}
use Rattle.cedar_conversion.specs.parts.Strings.{escape_faults}
use Rattle.cedar_policy_parser.proofs.standing.Standing.{parsed, self_within, within_within, Anything, BothHold}
use Rattle.cedar_policy_parser.proofs.tidy.Tidy.{Holding, NodeTidy, Each, IdentHeld, IdentTidy, NameTidy, LiteralTidy, RefTidy}
use Rattle.cedar_policy_parser.proofs.Telling.{Sited, Tells, one, both_tell, next_tells, if_tells, Due, here, up, text_tells}

-- ---- what a node is that gives this

abbrev pub place_held : Held → Option Loc
place_held (expression p x) = p
place_held (variable p x) = p
place_held (bare_name p x) = p
place_held (bare_truth p x) = p
place_held (bare_string p raw) = p

abbrev pub Is : Located → Held → Type 0
Is n (expression p x) = Unit {0}
Is n (variable p x) = IsVariableSite n
Is n (bare_name p path) = IsNamed n path
Is n (bare_truth p b) = IsTruthValue n
Is n (bare_string p raw) = (c : Option Literal) × (i : IsLiteral n c) × IsQuoted c raw × LiesWithin i.1 p

-- it is that, and its place lies within the node's
abbrev pub HeldAt : Located → Held → Type 0
HeldAt n h = LiesWithin (tree_place n) (place_held h) × Is n h

comes : (m n : Located) → ((x : Located) → ComesTo n x → ComesTo m x) → (h : Held) → Is n h → Is m h
comes m n g (expression p x) i = tt
comes m n g (variable p x) i = (i.0, (i.1.0, g _ i.1.1), i.2, i.3)
comes m n g (bare_name p x) i = (i.0, (i.1.0, g _ i.1.1), i.2, i.3)
comes m n g (bare_truth p x) i = (i.0, (i.1.0, i.1.1, g _ i.1.2, i.1.3), i.2)
comes m n g (bare_string p x) i = (i.0, (i.1.0, i.1.1, g _ i.1.2, i.1.3), i.2, i.3)

-- a node comes to a node of its own
comes_below : {n t : Located} → ComesTo n t → IsSiteOf (site.node t) (site.node n)
comes_below way.itself = site.itself
comes_below (way.through_only c) = site.below site.through_only (comes_below c)
comes_below (way.through_chain c) = site.below site.through_chain (comes_below c)
comes_below (way.through_unary h c) = site.below (site.through_unary h) (comes_below c)
comes_below (way.through_member c) = site.below site.head (comes_below c)

pub is_string : (n : Located) (p : Option Loc) (raw : List ℕ) → Is n (bare_string p raw) → IsString n raw
is_string n p raw i = (i.0, i.1, i.2)

-- a string's escape faults are due at it
pub string_below : (e : Extensions) (n : Located) (p : Option Loc) (raw : List ℕ) → Is n (bare_string p raw) → escape_faults raw ≢ [] → Due e (site.node n) (k.unescape, p)
string_below e n p raw i g = (site.node (at i.1.1 (f.literal i.1.0)), comes_below i.1.2, due.faulty_string raw (subst (λ c. IsQuoted c raw) (sym i.1.3) i.2) g, i.3)

-- a node that comes to another, within its place, is what that is
pub moved : (m n : Located) → LiesWithin (tree_place m) (tree_place n) → ((x : Located) → ComesTo n x → ComesTo m x) → (h : Held) → HeldAt n h → HeldAt m h
moved m n w g h i = (within_within (tree_place m) (tree_place n) (place_held h) w i.0, comes m n g h i.1)

-- ---- identifiers and names

filled : {X Y : Type 0} (P : Sited → Type 0) (Q : Y → Type 0) (o : Option Loc) (H : X → Type 0) (p : Option Loc) (c : Option X) (g : X → Outcome Y) → Holding (parsed o) H c → ((x : X) → c ≡ Some x → H x → Tells P Q (g x)) → Tells P Q (next (content_outcome p c) g)
filled P Q o H p None g h t = absurd h
filled P Q o H p (Some x) g h t = t x refl h

ident_due : (P : Sited → Type 0) (p : Option Loc) (i : Ident) → (IsReservedIdent i → P (k.reserved_identifier, p)) → (IsMisspelled i → P (k.invalid_identifier, p)) → Tells P Anything (valid_ident_of p i)
ident_due P p words.Principal h g = tt
ident_due P p words.Action h g = tt
ident_due P p words.Resource h g = tt
ident_due P p words.Context h g = tt
ident_due P p words.Permit h g = tt
ident_due P p words.Forbid h g = tt
ident_due P p words.When h g = tt
ident_due P p words.Unless h g = tt
ident_due P p (words.Ident text) h g = if_tells P Anything (is_valid_identifier text) _ _ (λ e. tt) (λ e. one P k.invalid_identifier p _ (g e))
ident_due P p (words.Invalid text) h g = one P k.invalid_identifier p _ (g tt)
ident_due P p i h g = one P k.reserved_identifier p _ (h tt)

pub valid_due : (e : Extensions) (o : Option Loc) (n : Node (Option Ident)) → IdentTidy (parsed o) n → Tells (Due e (site.identifier n)) Anything (valid_ident n)
valid_due e o n h =
    let s : Site = site.identifier n in
    let w = self_within o n.loc h.0 in
    filled (Due e s) Anything o (IdentHeld (parsed o)) n.loc n.node (valid_ident_of n.loc) h.1
    (λ i c _. ident_due (Due e s) n.loc i (λ r. here e s k.reserved_identifier n.loc (due.reserved_word c r) w) (λ r. here e s k.invalid_identifier n.loc (due.misspelled c r) w))

-- a field's
pub unreserved_due : (e : Extensions) (p : Option Loc) (n : Node (Option Ident)) → IdentTidy (parsed p) n → Tells (Due e (site.node (at p (f.field n)))) Anything (unreserved_ident n)
unreserved_due e p n h =
    let s : Site = site.node (at p (f.field n)) in
    next_tells (Due e s) Anything Anything (valid_ident n) _ (up e (site.identifier n) s Anything (valid_ident n) site.its_identifier (valid_due e p n h))
    (λ id c _. if_tells (Due e s) Anything (is_reserved_namespace id) _ _ (λ r. one (Due e s) k.reserved_namespace n.loc _ (here e s k.reserved_namespace n.loc (due.cedar_as_field c r) h.0)) (λ r. tt))

all_due : (e : Extensions) (s : Site) (o : Option Loc) (xs : List (Node (Option Ident))) → ((i : Node (Option Ident)) → Contains xs i → IsPart (site.identifier i) s) → Each (IdentTidy (parsed o)) xs → Tells (Due e s) Anything (all_of valid_ident xs)
all_due e s o [] g h = tt
all_due e s o (x ∷ xs) g h =
    next_tells (Due e s) (BothHold Anything Anything) Anything _ _
    (both_tell (Due e s) Anything Anything (valid_ident x) (all_of valid_ident xs) (up e (site.identifier x) s Anything (valid_ident x) (g x (Contains-append_left (x ∷ []) xs x (Contains-push [] x))) (valid_due e o x h.0)) (all_due e s o xs (λ i r. g i (Contains-append_right (x ∷ []) xs i r)) h.1))
    (λ q c _. tt)

path_due : (e : Extensions) (o : Option Loc) (n : Node (Option Name)) (m : Name) → LiesWithin o n.loc → n.node ≡ Some m → NameTidy (parsed o) m → Tells (Due e (site.name n)) Anything (path_outcome n.loc m)
path_due e o n m w c h =
    let s : Site = site.name n in
    next_tells (Due e s) (BothHold Anything Anything) Anything (identifiers m) _
    (both_tell (Due e s) Anything Anything (valid_ident m.name) (all_of valid_ident m.path) (up e (site.identifier m.name) s Anything (valid_ident m.name) (site.last_identifier c) (valid_due e o m.name h.1)) (all_due e s o m.path (λ i r. site.before_last c r) h.0))
    (λ q d _. if_tells (Due e s) Anything (has_reserved_namespace (path_of q)) _ _ (λ r. one (Due e s) k.reserved_namespace n.loc _ (here e s k.reserved_namespace n.loc (due.cedar_in_name c d r) (self_within o n.loc w))) (λ r. tt))

pub name_due : (e : Extensions) (o : Option Loc) (n : Node (Option Name)) → NodeTidy (parsed o) (NameTidy (parsed o)) n → Tells (Due e (site.name n)) Anything (name_outcome n)
name_due e o n h = filled (Due e (site.name n)) Anything o (NameTidy (parsed o)) n.loc n.node (path_outcome n.loc) h.1 (λ m c i. path_due e o n m h.0 c i)

variable_or : (e : Extensions) (p : Option Loc) (v : Option Var) (n : Node (Option Name)) → LiesWithin p p → named_variable n.node ≡ v → NodeTidy (parsed p) (NameTidy (parsed p)) n → Tells (Due e (site.node (at p (f.name n)))) (HeldAt (at p (f.name n))) (variable_or_name p v n)
variable_or e p (Some x) n w c h = (w, (n, (p, way.itself), x, c))
variable_or e p None n w c h =
    let s : Site = site.node (at p (f.name n)) in
    next_tells (Due e s) Anything (HeldAt (at p (f.name n))) (name_outcome n) _ (up e (site.name n) s Anything (name_outcome n) site.its_name (name_due e p n h)) (λ path d _. (w, (n, (p, way.itself), c, d)))

pub named_due : (e : Extensions) (p : Option Loc) (n : Node (Option Name)) → LiesWithin p p → NodeTidy (parsed p) (NameTidy (parsed p)) n → Tells (Due e (site.node (at p (f.name n)))) (HeldAt (at p (f.name n))) (name_leaf p n)
named_due e p n w h = variable_or e p (named_variable n.node) n w refl h

-- ---- literals

quoted_due : (e : Extensions) (p : Option Loc) (m : Node (Option Literal)) (s : Node (Option Str)) (c : Option Str) → LiesWithin p m.loc → m.node ≡ Some (lit.Str s) → s.node ≡ c → LiesWithin p s.loc → Holding (parsed p) Anything c
    → Tells (Due e (site.node (at p (f.literal m)))) (HeldAt (at p (f.literal m))) (held_string m.loc s.loc c)
quoted_due e p m s None w d g v h = absurd h
quoted_due e p m s (Some (str.String raw)) w d g v h = (w, (Some (lit.Str s), (m, p, way.itself, d), g, w))
quoted_due e p m s (Some (str.Invalid raw)) w d g v h = let t : Site = site.node (at p (f.literal m)) in one (Due e t) k.invalid_string s.loc _ (here e t k.invalid_string s.loc (due.no_string d g) v)

literal_is : (e : Extensions) (p : Option Loc) (m : Node (Option Literal)) (c : Option Literal) → LiesWithin p m.loc → m.node ≡ c → Holding (parsed p) (LiteralTidy (parsed p)) c → Tells (Due e (site.node (at p (f.literal m)))) (HeldAt (at p (f.literal m))) (literal_outcome m.loc c)
literal_is e p m None w d h = absurd h
literal_is e p m (Some lit.True) w d h = (w, (Some lit.True, (m, p, way.itself, d), tt))
literal_is e p m (Some lit.False) w d h = (w, (Some lit.False, (m, p, way.itself, d), tt))
literal_is e p m (Some (lit.Num n)) w d h =
    let t : Site = site.node (at p (f.literal m)) in
    if_tells (Due e t) (HeldAt (at p (f.literal m))) (nat_le largest n) _ _ (λ r. one (Due e t) k.integer_literal_too_large m.loc _ (here e t k.integer_literal_too_large m.loc (due.large_number d r) w)) (λ r. (w, tt))
literal_is e p m (Some (lit.Str s)) w d h = quoted_due e p m s s.node w d refl h.0 h.1

pub literal_due : (e : Extensions) (p : Option Loc) (m : Node (Option Literal)) → NodeTidy (parsed p) (LiteralTidy (parsed p)) m → Tells (Due e (site.node (at p (f.literal m)))) (HeldAt (at p (f.literal m))) (literal_outcome m.loc m.node)
literal_due e p m h = literal_is e p m m.node h.0 refl h.1

-- ---- entities and slots

id_due : (e : Extensions) (p : Option Loc) (n : Node (Option Ref)) (path : Node (Option Name)) (eid : Node (Option Str)) → n.node ≡ Some (refs.Uid path eid) → LiesWithin p n.loc → NodeTidy (parsed p) Anything eid
    → (c : Option Str) → eid.node ≡ c → Holding (parsed p) Anything c → Tells (Due e (site.node (at p (f.reference n)))) Anything (next (content_outcome eid.loc c) (id_text n.loc eid.loc))
id_due e p n path eid d w h None g i = absurd i
id_due e p n path eid d w h (Some (str.String raw)) g i =
    let s : Site = site.node (at p (f.reference n)) in
    text_tells (Due e s) n.loc raw (λ faulty. here e s k.unescape n.loc (due.faulty_id d g faulty) w)
id_due e p n path eid d w h (Some (str.Invalid raw)) g i = let s : Site = site.node (at p (f.reference n)) in one (Due e s) k.invalid_string eid.loc _ (here e s k.invalid_string eid.loc (due.no_id d g) h.0)

reference_due : (e : Extensions) (p : Option Loc) (n : Node (Option Ref)) (r : Ref) → LiesWithin p n.loc → n.node ≡ Some r → RefTidy (parsed p) r → Tells (Due e (site.node (at p (f.reference n)))) Anything (reference_outcome n.loc r)
reference_due e p n (refs.Uid path eid) w d h =
    let s : Site = site.node (at p (f.reference n)) in
    next_tells (Due e s) (BothHold Anything Anything) Anything _ _
    (both_tell (Due e s) Anything Anything (name_outcome path) (id_outcome n.loc eid) (up e (site.name path) s Anything (name_outcome path) (site.its_type d) (name_due e p path h.0)) (id_due e p n path eid d w h.1 eid.node refl h.1.1))
    (λ q c _. tt)
reference_due e p n (refs.Ref path inits) w d h = let s : Site = site.node (at p (f.reference n)) in one (Due e s) k.invalid_entity_literal n.loc _ (here e s k.invalid_entity_literal n.loc (due.braces d) w)

pub entity_due : (e : Extensions) (p : Option Loc) (n : Node (Option Ref)) → NodeTidy (parsed p) (RefTidy (parsed p)) n → Tells (Due e (site.node (at p (f.reference n)))) (HeldAt (at p (f.reference n))) (entity_leaf n)
entity_due e p n h =
    let s : Site = site.node (at p (f.reference n)) in
    next_tells (Due e s) Anything (HeldAt (at p (f.reference n))) (entity_outcome n) _ (filled (Due e s) Anything p (RefTidy (parsed p)) n.loc n.node (reference_outcome n.loc) h.1 (λ r c i. reference_due e p n r h.0 c i)) (λ uid c _. (h.0, tt))

slot_is : (e : Extensions) (p : Option Loc) (n : Node (Option Slot)) (x : Slot) → LiesWithin p n.loc → n.node ≡ Some x → Tells (Due e (site.node (at p (f.slot n)))) Anything (slot_id n.loc x)
slot_is e p n slots.Principal w d = tt
slot_is e p n slots.Resource w d = tt
slot_is e p n (slots.Other text) w d = let s : Site = site.node (at p (f.slot n)) in one (Due e s) k.invalid_slot n.loc _ (here e s k.invalid_slot n.loc (due.other_slot d) w)

pub slot_due : (e : Extensions) (p : Option Loc) (n : Node (Option Slot)) → NodeTidy (parsed p) Anything n → Tells (Due e (site.node (at p (f.slot n)))) (HeldAt (at p (f.slot n))) (slot_leaf n)
slot_due e p n h =
    let s : Site = site.node (at p (f.slot n)) in
    next_tells (Due e s) Anything (HeldAt (at p (f.slot n))) (slot_outcome n) _ (filled (Due e s) Anything p Anything n.loc n.node (slot_id n.loc) h.1 (λ x c i. slot_is e p n x h.0 c)) (λ id c _. (h.0, tt))
