-- What a node is that gives something: no two of these. And where an expression is wanted, a
-- pattern, a type, a string or a key, the faults are due.
use Rattle.std.proofs.Common.{◌≡◌, ◌≢◌, ℕ, List, [], ◌∷◌, Option, Some, None, Ok, Err, refl, sym, ◌∙◌, ap, subst}
use Rattle.cedar_expressions.specs.declared.atoms.Var.{Var}
use Rattle.cedar_expressions.specs.Path.{Path}
use Rattle.cedar_syntax.specs.declared.loc.Loc.{Loc}
use Rattle.cedar_syntax.specs.declared.node.Node.{Node}
use Rattle.cedar_syntax.specs.declared.cst.Literal.{Literal}
use Rattle.cedar_syntax.specs.declared.cst.Literal.TheVariants as lit
use Rattle.cedar_syntax.specs.declared.cst.Name.{Name}
use Rattle.cedar_syntax.specs.declared.cst.Str.{Str}
use Rattle.cedar_syntax.specs.declared.cst.Str.TheVariants as str
use Rattle.cedar_syntax.specs.trees.Located as f
use Rattle.cedar_syntax.specs.trees.Located.{Located, Form, at}
use Rattle.cedar_syntax.specs.strings.Pattern.{pattern_faults, pattern_pieces}
use Rattle.cedar_conversion.specs.outcome.Conversion.{tree_place, outcome, form_outcome}
use Rattle.cedar_policy_parser.specs.faults.DueKinds as due
use Rattle.cedar_policy_parser.specs.faults.DueKinds.{IsDue}
use Rattle.cedar_conversion.specs.strict.Extensions.{Extensions}
use Rattle.cedar_conversion.specs.outcome.Held.{Held, expression, variable, bare_name, bare_truth, bare_string, as_expression, as_pattern, as_entity_type, as_string, as_attribute, unqualified, text_value}
use Rattle.cedar_conversion.specs.parts.Leaves.{variable_or_name}
use Rattle.cedar_conversion.specs.parts.Literals.{held_string, literal_outcome}
use Rattle.cedar_conversion.specs.parts.Names.{name_outcome, named_variable}
use Rattle.cedar_conversion.specs.outcome.Outcome as k
use Rattle.cedar_conversion.specs.outcome.Outcome.{NamedFault, Outcome, both, next}
use Rattle.cedar_policy_parser.specs.faults.Sites as site
use Rattle.cedar_policy_parser.specs.faults.Sites.{Site, IsPart, IsNameSite, IsNameNode, IsNamed, IsVariableSite, IsLiteral, IsTruth, IsTruthValue, IsQuoted, IsString, IsAnyString}
use Rattle.cedar_policy_parser.specs.faults.Standing.{LiesWithin}
use Rattle.cedar_conversion.specs.parts.Strings.{layout, text_outcome}
use Rattle.cedar_policy_parser.proofs.Alone.{comes_to}
use Rattle.cedar_conversion.proofs.Inverted.{ok_is}
use Rattle.cedar_policy_parser.proofs.standing.Standing.{Anything}
use Rattle.cedar_policy_parser.proofs.Telling.{Sited, Tells, one, next_tells, Due, in_part, here, up, text_tells, unless_tells}
use Rattle.cedar_policy_parser.proofs.due.DueLeaves.{HeldAt, is_string, string_below}

-- ---- what a name, a truth value and a string give

abbrev pub OfName : Held → Type 0
OfName (variable p x) = Unit {0}
OfName (bare_name p x) = Unit {0}
OfName _ = ⊥

abbrev pub OfVariable : Held → Type 0
OfVariable (variable p x) = Unit {0}
OfVariable _ = ⊥

abbrev pub OfTruth : Held → Type 0
OfTruth (bare_truth p b) = Unit {0}
OfTruth _ = ⊥

abbrev pub OfString : Held → Type 0
OfString (bare_string p raw) = Unit {0}
OfString _ = ⊥

abbrev pub given : Held → Outcome Held
given h = Ok h

abbrev pub bad : List NamedFault → Outcome Held
bad fs = Err fs

pub no_error : (fs : List NamedFault) (h : Held) → ¬ (bad fs ≡ given h)
no_error fs h e = cc

name_gives : (p : Option Loc) (v : Option Var) (m : Node (Option Name)) (o : Outcome Path) (h : Held) → name_outcome m ≡ o → variable_or_name p v m ≡ Ok h → OfName h
name_gives p (Some x) m o h c e = subst OfName (ok_is e) tt
name_gives p None m (Ok path) h c e = subst OfName (ok_is (sym (ap (λ o. next o (λ name. given (bare_name p name))) c) ∙ e)) tt
name_gives p None m (Err fs) h c e = absurd (no_error fs h (sym (ap (λ o. next o (λ name. given (bare_name p name))) c) ∙ e))

leaf_of_name : (e : Extensions) (p : Option Loc) (m : Node (Option Name)) (h : Held) → outcome e (at p (f.name m)) ≡ Ok h → OfName h
unfolding outcome form_outcome
leaf_of_name e p m h c = name_gives p (named_variable m.node) m (name_outcome m) h refl c

pub of_name : (e : Extensions) (n : Located) (h : Held) → outcome e n ≡ Ok h → ¬ (OfName h) → ¬ (IsNameSite n)
of_name e n h c g i = g (leaf_of_name e i.1.0 i.0 h (sym (comes_to e i.1.1) ∙ c))

variable_gives : (p : Option Loc) (v : Option Var) (m : Node (Option Name)) (x : Var) (h : Held) → v ≡ Some x → variable_or_name p v m ≡ Ok h → OfVariable h
variable_gives p (Some y) m x h c e = subst OfVariable (ok_is e) tt
variable_gives p None m x h c e = cc

leaf_of_variable : (e : Extensions) (p : Option Loc) (m : Node (Option Name)) (x : Var) (h : Held) → named_variable m.node ≡ Some x → outcome e (at p (f.name m)) ≡ Ok h → OfVariable h
unfolding outcome form_outcome
leaf_of_variable e p m x h v c = variable_gives p (named_variable m.node) m x h v c

pub of_variable : (e : Extensions) (n : Located) (h : Held) → outcome e n ≡ Ok h → ¬ (OfVariable h) → ¬ (IsVariableSite n)
of_variable e n h c g i = g (leaf_of_variable e i.1.0 i.0 i.2 h i.3 (sym (comes_to e i.1.1) ∙ c))

truth_gives : (p : Option Loc) (c : Option Literal) (h : Held) → IsTruth c → literal_outcome p c ≡ Ok h → OfTruth h
truth_gives p (Some lit.True) h t e = subst OfTruth (ok_is e) tt
truth_gives p (Some lit.False) h t e = subst OfTruth (ok_is e) tt
truth_gives p (Some (lit.Num n)) h t e = absurd t
truth_gives p (Some (lit.Str s)) h t e = absurd t
truth_gives p None h t e = absurd t

string_gives : (p : Option Loc) (s : Node (Option Str)) (c : Option Str) (raw : List ℕ) (h : Held) → c ≡ Some (str.String raw) → held_string p s.loc c ≡ Ok h → OfString h
string_gives p s (Some (str.String other)) raw h c e = subst OfString (ok_is e) tt
string_gives p s (Some (str.Invalid other)) raw h c e = cc
string_gives p s None raw h c e = cc

quoted_gives : (p : Option Loc) (c : Option Literal) (raw : List ℕ) (h : Held) → IsQuoted c raw → literal_outcome p c ≡ Ok h → OfString h
quoted_gives p (Some (lit.Str s)) raw h t e = string_gives p s s.node raw h t e
quoted_gives p (Some lit.True) raw h t e = absurd t
quoted_gives p (Some lit.False) raw h t e = absurd t
quoted_gives p (Some (lit.Num n)) raw h t e = absurd t
quoted_gives p None raw h t e = absurd t

leaf_of_literal : (e : Extensions) (p : Option Loc) (m : Node (Option Literal)) → outcome e (at p (f.literal m)) ≡ literal_outcome m.loc m.node
unfolding outcome form_outcome
leaf_of_literal e p m = refl

literal_of : (e : Extensions) (n : Located) (h : Held) (c : Option Literal) → outcome e n ≡ Ok h → (i : IsLiteral n c) → literal_outcome i.0.loc c ≡ Ok h
literal_of e n h c d i = ap (λ x. literal_outcome i.0.loc x) (sym i.3) ∙ sym (leaf_of_literal e i.1 i.0) ∙ sym (comes_to e i.2) ∙ d

pub of_truth : (e : Extensions) (n : Located) (h : Held) → outcome e n ≡ Ok h → ¬ (OfTruth h) → ¬ (IsTruthValue n)
of_truth e n h c g i = g (truth_gives i.1.0.loc i.0 h i.2 (literal_of e n h i.0 c i.1))

pub of_string : (e : Extensions) (n : Located) (h : Held) → outcome e n ≡ Ok h → ¬ (OfString h) → ¬ (IsAnyString n)
of_string e n h c g i = g (quoted_gives i.1.1.0.loc i.1.0 i.0 h i.1.2 (literal_of e n h i.1.0 c i.1.1))

-- ---- where an expression is wanted

pub expression_part : {n : Located} → IsPart (site.node n) (site.wanted site.expression n)
expression_part = site.itself refl

pub expression_due : (e : Extensions) (n : Located) (h : Held) → HeldAt n h → Tells (Due e (site.wanted site.expression n)) Anything (as_expression h)
expression_due e n (expression p x) i = tt
expression_due e n (variable p x) i = tt
expression_due e n (bare_name p x) i = let s : Site = site.wanted site.expression n in one (Due e s) k.arbitrary_variable p _ (here e s k.arbitrary_variable p (due.no_variable i.1) i.0)
expression_due e n (bare_truth p b) i = tt
expression_due e n (bare_string p raw) i =
    let s : Site = site.wanted site.expression n in
    next_tells (Due e s) Anything Anything (text_outcome p raw) text_value (text_tells (Due e s) p raw (λ g. in_part e (site.node n) s expression_part _ (string_below e n p raw i.1 g))) (λ x c _. tt)

pub wanted_due : (e : Extensions) (n : Located) (o : Outcome Held) → Tells (Due e (site.node n)) (HeldAt n) o → Tells (Due e (site.wanted site.expression n)) Anything (next o as_expression)
wanted_due e n o h = next_tells (Due e (site.wanted site.expression n)) (HeldAt n) Anything o as_expression (up e (site.node n) (site.wanted site.expression n) (HeldAt n) o expression_part h) (λ x c i. expression_due e n x i)

-- ---- right of `like` and of `is`, in an index, as a key

no_string_due : (e : Extensions) (n : Located) (p : Option Loc) (h : Held) → outcome e n ≡ Ok h → ¬ (OfString h) → LiesWithin (tree_place n) p → Due e (site.wanted site.pattern n) (k.invalid_pattern, p)
no_string_due e n p h c g w = here e (site.wanted site.pattern n) k.invalid_pattern p (due.no_pattern (of_string e n h c g)) w

pub pattern_due : (e : Extensions) (n : Located) (h : Held) → outcome e n ≡ Ok h → HeldAt n h → Tells (Due e (site.wanted site.pattern n)) Anything (as_pattern h)
pattern_due e n (expression p x) c i = one (Due e (site.wanted site.pattern n)) k.invalid_pattern p _ (no_string_due e n p _ c (λ x. x) i.0)
pattern_due e n (variable p x) c i = one (Due e (site.wanted site.pattern n)) k.invalid_pattern p _ (no_string_due e n p _ c (λ x. x) i.0)
pattern_due e n (bare_name p x) c i = one (Due e (site.wanted site.pattern n)) k.invalid_pattern p _ (no_string_due e n p _ c (λ x. x) i.0)
pattern_due e n (bare_truth p x) c i = one (Due e (site.wanted site.pattern n)) k.invalid_pattern p _ (no_string_due e n p _ c (λ x. x) i.0)
pattern_due e n (bare_string p raw) c i =
    unless_tells (Due e (site.wanted site.pattern n)) p (pattern_faults raw (layout raw)) (pattern_pieces (layout raw)) (λ g. here e (site.wanted site.pattern n) k.unescape p (due.faulty_pattern raw (is_string n p raw i.1) g) i.0)

no_type_due : (e : Extensions) (n : Located) (p : Option Loc) (h : Held) → outcome e n ≡ Ok h → ¬ (OfName h) → LiesWithin (tree_place n) p → Due e (site.wanted site.entity_type n) (k.invalid_is_type, p)
no_type_due e n p h c g w = here e (site.wanted site.entity_type n) k.invalid_is_type p (due.no_type (of_name e n h c g)) w

pub type_due : (e : Extensions) (n : Located) (h : Held) → outcome e n ≡ Ok h → HeldAt n h → Tells (Due e (site.wanted site.entity_type n)) Anything (as_entity_type h)
type_due e n (expression p x) c i = one (Due e (site.wanted site.entity_type n)) k.invalid_is_type p _ (no_type_due e n p _ c (λ x. x) i.0)
type_due e n (variable p x) c i = tt
type_due e n (bare_name p x) c i = tt
type_due e n (bare_truth p x) c i = one (Due e (site.wanted site.entity_type n)) k.invalid_is_type p _ (no_type_due e n p _ c (λ x. x) i.0)
type_due e n (bare_string p x) c i = one (Due e (site.wanted site.entity_type n)) k.invalid_is_type p _ (no_type_due e n p _ c (λ x. x) i.0)

pub text_part : {n : Located} → IsPart (site.node n) (site.wanted site.string n)
text_part = site.itself refl

no_text_due : (e : Extensions) (n : Located) (p : Option Loc) (h : Held) → outcome e n ≡ Ok h → ¬ (OfString h) → LiesWithin (tree_place n) p → Due e (site.wanted site.string n) (k.invalid_string, p)
no_text_due e n p h c g w = here e (site.wanted site.string n) k.invalid_string p (due.no_text (of_string e n h c g)) w

pub string_due : (e : Extensions) (n : Located) (h : Held) → outcome e n ≡ Ok h → HeldAt n h → Tells (Due e (site.wanted site.string n)) Anything (as_string h)
string_due e n (expression p x) c i = one (Due e (site.wanted site.string n)) k.invalid_string p _ (no_text_due e n p _ c (λ x. x) i.0)
string_due e n (variable p x) c i = one (Due e (site.wanted site.string n)) k.invalid_string p _ (no_text_due e n p _ c (λ x. x) i.0)
string_due e n (bare_name p x) c i = one (Due e (site.wanted site.string n)) k.invalid_string p _ (no_text_due e n p _ c (λ x. x) i.0)
string_due e n (bare_truth p x) c i = one (Due e (site.wanted site.string n)) k.invalid_string p _ (no_text_due e n p _ c (λ x. x) i.0)
string_due e n (bare_string p raw) c i = text_tells (Due e (site.wanted site.string n)) p raw (λ g. in_part e (site.node n) (site.wanted site.string n) text_part _ (string_below e n p raw i.1 g))

more : (x : List ℕ) (xs : List (List ℕ)) → (x ∷ xs) ≢ []
more x xs e = cc

pub unqualified_due : (P : Sited → Type 0) (p : Option Loc) (path : List (List ℕ)) (id : List ℕ) → (path ≢ [] → P (k.path_as_attribute, p)) → Tells P Anything (unqualified p path id)
unqualified_due P p [] id h = tt
unqualified_due P p (x ∷ xs) id h = one P k.path_as_attribute p _ (h (more x xs))

pub key_part : {n : Located} → IsPart (site.node n) (site.wanted site.key n)
key_part = site.itself refl

pub key_due : (e : Extensions) (n : Located) (h : Held) → outcome e n ≡ Ok h → HeldAt n h → Tells (Due e (site.wanted site.key n)) Anything (as_attribute h)
key_due e n (expression p x) c i =
    let s : Site = site.wanted site.key n in
    one (Due e s) k.invalid_attribute p _ (here e s k.invalid_attribute p (due.no_key (of_name e n _ c (λ x. x)) (of_truth e n _ c (λ x. x)) (of_string e n _ c (λ x. x))) i.0)
key_due e n (variable p x) c i = tt
key_due e n (bare_name p x) c i = let s : Site = site.wanted site.key n in unqualified_due (Due e s) p x.path x.id (λ g. here e s k.path_as_attribute p (due.path_as_key i.1 g) i.0)
key_due e n (bare_truth p x) c i = let s : Site = site.wanted site.key n in one (Due e s) k.reserved_identifier p _ (here e s k.reserved_identifier p (due.truth_as_key i.1) i.0)
key_due e n (bare_string p raw) c i = let s : Site = site.wanted site.key n in text_tells (Due e s) p raw (λ g. in_part e (site.node n) s key_part _ (string_below e n p raw i.1 g))

-- a node that gives nothing is no string
string_given : (p q : Option Loc) (c : Option Str) (raw : List ℕ) (fs : List NamedFault) → c ≡ Some (str.String raw) → ¬ (held_string p q c ≡ Err fs)
string_given p q (Some (str.String x)) raw fs c e = cc
string_given p q (Some (str.Invalid x)) raw fs c e = cc
string_given p q None raw fs c e = cc

quoted_given : (p : Option Loc) (c : Option Literal) (raw : List ℕ) (fs : List NamedFault) → IsQuoted c raw → ¬ (literal_outcome p c ≡ Err fs)
quoted_given p (Some (lit.Str s)) raw fs t e = string_given p s.loc s.node raw fs t e
quoted_given p (Some lit.True) raw fs t e = absurd t
quoted_given p (Some lit.False) raw fs t e = absurd t
quoted_given p (Some (lit.Num n)) raw fs t e = absurd t
quoted_given p None raw fs t e = absurd t

pub no_string_failed : (e : Extensions) (n : Located) (fs : List NamedFault) → outcome e n ≡ Err fs → ¬ (IsAnyString n)
no_string_failed e n fs c i =
    quoted_given i.1.1.0.loc i.1.0 i.0 fs i.1.2 (ap (λ x. literal_outcome i.1.1.0.loc x) (sym i.1.1.3) ∙ sym (leaf_of_literal e i.1.1.1 i.1.1.0) ∙ sym (comes_to e i.1.1.2) ∙ c)
