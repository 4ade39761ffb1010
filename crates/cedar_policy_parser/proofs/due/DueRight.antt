-- The faults of a right side of `has` are due.
use Rattle.std.proofs.Common.{◌≡◌, ◌≢◌, ℕ, Bool, true, false, cond, List, [], ◌∷◌, Option, Some, None, Ok, Err, refl, sym, ◌∙◌, ap, subst}
use Rattle.cedar_expressions.specs.Path.{Path}
use Rattle.cedar_expressions.specs.Value.{Value}
use Rattle.cedar_expressions.specs.Written.{var_text}
use Rattle.cedar_expressions.specs.declared.atoms.Var.{Var}
use Rattle.cedar_syntax.specs.declared.loc.Loc.{Loc}
use Rattle.cedar_syntax.specs.declared.node.Node.{Node}
use Rattle.cedar_syntax.specs.declared.cst.Literal.{Literal}
use Rattle.cedar_syntax.specs.declared.cst.Literal.TheVariants as lit
use Rattle.cedar_syntax.specs.declared.cst.Name.{Name}
use Rattle.cedar_syntax.specs.declared.cst.Str.{Str}
use Rattle.cedar_syntax.specs.declared.cst.Str.TheVariants as str
use Rattle.cedar_syntax.specs.trees.Located as f
use Rattle.cedar_syntax.specs.trees.Located.{Located, Form, Parts, at}
use Rattle.cedar_syntax.specs.trees.Tree.{Operator}
use Rattle.cedar_conversion.specs.outcome.Conversion.{tree_place}
use Rattle.cedar_policy_parser.specs.faults.DueKinds as due
use Rattle.cedar_policy_parser.specs.faults.DueKinds.{IsDue, IsDueRight, AreFields, NamesAttributes}
use Rattle.cedar_conversion.specs.strict.Extensions.{Extensions}
use Rattle.cedar_conversion.specs.parts.HasSide.{attributes_of, begins_with, beginning_outcome, behind_first, field_form, field_of, fields_of, no_sign, right_form, right_side, string_alone}
use Rattle.cedar_conversion.specs.outcome.Held.{Held, expression, variable, bare_name, bare_truth, bare_string, unqualified}
use Rattle.cedar_conversion.specs.parts.Leaves.{name_leaf, variable_or_name}
use Rattle.cedar_conversion.specs.parts.Literals.{held_string, literal_outcome}
use Rattle.cedar_conversion.specs.parts.Names.{name_outcome, named_variable, unreserved_ident}
use Rattle.cedar_conversion.specs.outcome.Detail.{number}
use Rattle.cedar_conversion.specs.outcome.Outcome as k
use Rattle.cedar_conversion.specs.outcome.Outcome.{Kind, Outcome, detailed_outcome, both, next}
use Rattle.cedar_policy_parser.specs.faults.Sites as site
use Rattle.cedar_policy_parser.specs.faults.Sites.{Site, IsPart, IsAmong, IsBeginning, IsFieldForm, IsFieldNode, IsTruth, IsQuoted, one_member}
use Rattle.cedar_policy_parser.specs.faults.Standing.{LiesWithin}
use Rattle.cedar_conversion.specs.parts.Strings.{text_outcome}
use Rattle.cedar_conversion.proofs.Inverted.{ok_is}
use Rattle.cedar_policy_parser.proofs.standing.Nested.{Nested, FormNested, AccessesNested, AccessNested, AccessFormNested}
use Rattle.cedar_policy_parser.proofs.standing.Standing.{self_within, within_within, Anything}
use Rattle.cedar_policy_parser.proofs.Telling.{Sited, Tells, one, next_tells, lift, if_tells, Due, here, text_tells}
use Rattle.cedar_policy_parser.proofs.due.DueLeaves.{HeldAt, place_held, unreserved_due, literal_due, named_due}
use Rattle.cedar_policy_parser.proofs.due.DueSides.{given, unqualified_due, no_error}

-- ---- fields

-- the fields behind the first attribute, of which none is another access

field_form_due : (e : Extensions) (P : Sited → Type 0) (w p : Option Loc) (u : Form) → LiesWithin w p → AccessFormNested p u
    → (IsFieldForm u → (fault : Sited) → Due e (site.node (at p u)) fault → P fault) → (¬ (IsFieldForm u) → (q : Option Loc) → LiesWithin w q → P (k.invalid_has_rhs, q)) → Tells P Anything (field_form p u)
field_form_due e P w p (f.field n) l h below other = lift (Due e (site.node (at p (f.field n)))) P Anything (unreserved_ident n) (below tt) (unreserved_due e p n h)
field_form_due e P w p (f.call items) l h below other = one P k.invalid_has_rhs p _ (other (λ x. x) p l)
field_form_due e P w p (f.index n) l h below other = one P k.invalid_has_rhs p _ (other (λ x. x) p l)
field_form_due e P w p u l h below other = absurd h

field_node_due : (e : Extensions) (P : Sited → Type 0) (w v : Option Loc) (n : Located) → LiesWithin w v → AccessNested v n
    → (IsFieldNode n → (fault : Sited) → Due e (site.node n) fault → P fault) → (¬ (IsFieldNode n) → (q : Option Loc) → LiesWithin w q → P (k.invalid_has_rhs, q)) → Tells P Anything (field_of n)
field_node_due e P w v (f.missing p) l h below other = absurd h
field_node_due e P w v (f.at p u) l h below other = field_form_due e P w p u (within_within w v p l h.0) h.1 below other

fields_due : (e : Extensions) (P : Sited → Type 0) (w v : Option Loc) (ps : Parts) → LiesWithin w v → AccessesNested v ps
    → ((op : Operator) (n : Located) → IsAmong op n ps → IsFieldNode n → (fault : Sited) → Due e (site.node n) fault → P fault) → (¬ (AreFields ps) → (q : Option Loc) → LiesWithin w q → P (k.invalid_has_rhs, q)) → Tells P Anything (fields_of ps)
fields_due e P w v f.none l h below other = tt
fields_due e P w v (f.more op n ps) l h below other =
    next_tells P Anything Anything (field_of n) _ (field_node_due e P w v n l h.0 (below op n site.first) (λ g. other (λ i. g i.0)))
    (λ id c _. next_tells P Anything Anything (fields_of ps) _ (fields_due e P w v ps l h.1 (λ oq m i. below oq m (site.later i)) (λ g. other (λ i. g i.1))) (λ ids d _. tt))

behind_due : (e : Extensions) (P : Sited → Type 0) (w v : Option Loc) (ps : Parts) (first : List ℕ) → LiesWithin w v → AccessesNested v ps
    → ((op : Operator) (n : Located) → IsAmong op n ps → IsFieldNode n → (fault : Sited) → Due e (site.node n) fault → P fault) → (¬ (AreFields ps) → (q : Option Loc) → LiesWithin w q → P (k.invalid_has_rhs, q)) → Tells P Anything (behind_first ps first)
behind_due e P w v ps first l h below other = next_tells P Anything Anything (fields_of ps) _ (fields_due e P w v ps l h below other) (λ ids c _. tt)

-- ---- what begins it

abbrev NameHeld : Node (Option Name) → Held → Type 0
NameHeld m (variable p x) = named_variable m.node ≡ Some x
NameHeld m (bare_name p path) = (named_variable m.node ≡ None) × (name_outcome m ≡ Ok path)
NameHeld m _ = ⊥

name_held : (p : Option Loc) (v : Option Var) (m : Node (Option Name)) (o : Outcome Path) (h : Held) → named_variable m.node ≡ v → name_outcome m ≡ o → variable_or_name p v m ≡ Ok h → NameHeld m h
name_held p (Some x) m o h d c e = subst (NameHeld m) (ok_is e) d
name_held p None m (Ok path) h d c e = subst (NameHeld m) (ok_is (sym (ap (λ o. next o (λ name. given (bare_name p name))) c) ∙ e)) (d, c)
name_held p None m (Err fs) h d c e = absurd (no_error fs h (sym (ap (λ o. next o (λ name. given (bare_name p name))) c) ∙ e))

abbrev LiteralHeld : Option Literal → Held → Type 0
LiteralHeld c (expression p x) = (¬ ((raw : List ℕ) × IsQuoted c raw)) × (¬ (IsTruth c))
LiteralHeld c (bare_truth p b) = IsTruth c
LiteralHeld c (bare_string p raw) = IsQuoted c raw
LiteralHeld c _ = ⊥

string_held : (p : Option Loc) (s : Node (Option Str)) (c : Option Str) (h : Held) → s.node ≡ c → held_string p s.loc c ≡ Ok h → LiteralHeld (Some (lit.Str s)) h
string_held p s (Some (str.String raw)) h d e = subst (LiteralHeld (Some (lit.Str s))) (ok_is e) d
string_held p s (Some (str.Invalid raw)) h d e = cc
string_held p s None h d e = cc

number_held : (p : Option Loc) (n : ℕ) (b : Bool) (h : Held) (x : Value) → cond b (detailed_outcome k.integer_literal_too_large p (number n)) (given (expression p x)) ≡ Ok h → LiteralHeld (Some (lit.Num n)) h
number_held p n true h x e = cc
number_held p n false h x e = subst (LiteralHeld (Some (lit.Num n))) (ok_is e) ((λ i. i.1), (λ i. i))

literal_held : (p : Option Loc) (c : Option Literal) (h : Held) → literal_outcome p c ≡ Ok h → LiteralHeld c h
literal_held p (Some lit.True) h e = subst (LiteralHeld (Some lit.True)) (ok_is e) tt
literal_held p (Some lit.False) h e = subst (LiteralHeld (Some lit.False)) (ok_is e) tt
literal_held p (Some (lit.Num n)) h e = number_held p n _ h _ e
literal_held p (Some (lit.Str s)) h e = string_held p s s.node h refl e
literal_held p None h e = cc

-- a name with its fields

variable_no_path : {A : Type 0} {x : A} (o : Option A) → o ≡ Some x → o ≢ None
variable_no_path o d e = cc

one_path : {o : Outcome Path} {x y : Path} → o ≡ Ok x → o ≡ Ok y → x ≡ y
one_path c d = ok_is (sym c ∙ d)

nothing_before : (q : Option Loc) (path : List (List ℕ)) (id y : List ℕ) → unqualified q path id ≡ Ok y → path ≡ []
nothing_before q [] id y e = refl
nothing_before q (x ∷ path) id y e = cc

name_attributes : (e : Extensions) (P : Sited → Type 0) (w v p : Option Loc) (m : Node (Option Name)) (ps : Parts) (h : Held) → LiesWithin w v → LiesWithin w (place_held h) → AccessesNested v ps → NameHeld m h
    → ((op : Operator) (n : Located) → IsAmong op n ps → IsFieldNode n → (fault : Sited) → Due e (site.node n) fault → P fault) → ((kind : Kind) (q : Option Loc) → IsDueRight kind (Some (at p (f.name m), ps)) → LiesWithin w q → P (kind, q)) → Tells P Anything (attributes_of w ps h)
name_attributes e P w v p m ps (expression q x) l g h c below side = absurd c
name_attributes e P w v p m ps (variable q x) l g h c below side =
    behind_due e P w v ps (var_text x) l h below (λ t r s. side k.invalid_has_rhs r (due.other (λ i. i) (λ i. variable_no_path (named_variable m.node) c i.0) t) s)
name_attributes e P w v p m ps (bare_name q x) l g h c below side =
    next_tells P Anything Anything _ _ (unqualified_due P q x.path x.id (λ t. side k.path_as_attribute q (due.path (c.0, x, c.1, t)) g))
    (λ id d _. behind_due e P w v ps id l h below
    (λ t r s. side k.invalid_has_rhs r (due.other (λ i. i) (λ i. i.3 (ap (λ (y : Path). y.path) (one_path i.2 c.1) ∙ nothing_before q x.path x.id id d)) t) s))
name_attributes e P w v p m ps (bare_truth q x) l g h c below side = absurd c
name_attributes e P w v p m ps (bare_string q x) l g h c below side = absurd c

quoted_no_truth : (c : Option Literal) (raw : List ℕ) → IsQuoted c raw → ¬ (IsTruth c)
quoted_no_truth (Some (lit.Str s)) raw h i = i
quoted_no_truth (Some lit.True) raw h i = h
quoted_no_truth (Some lit.False) raw h i = h
quoted_no_truth (Some (lit.Num n)) raw h i = h
quoted_no_truth None raw h i = h

-- a literal
string_attributes : (e : Extensions) (P : Sited → Type 0) (w p q : Option Loc) (m : Node (Option Literal)) (raw : List ℕ) (ps : Parts) → LiesWithin w w → LiesWithin p q → IsQuoted m.node raw
    → ((fault : Sited) → Due e (site.node (at p (f.literal m))) fault → P fault) → ((kind : Kind) (q : Option Loc) → IsDueRight kind (Some (at p (f.literal m), ps)) → LiesWithin w q → P (kind, q)) → Tells P Anything (string_alone w q raw ps)
string_attributes e P w p q m raw f.none l g c head side = next_tells P Anything Anything (text_outcome q raw) _ (text_tells P q raw (λ t. head _ (here e (site.node (at p (f.literal m))) k.unescape q (due.faulty_string raw c t) g))) (λ text d _. tt)
string_attributes e P w p q m raw (f.more op n ps) l g c head side = one P k.invalid_has_rhs w _ (side k.invalid_has_rhs w (due.other (quoted_no_truth m.node raw c) (λ x. x) (λ x. x)) l)

literal_attributes : (e : Extensions) (P : Sited → Type 0) (w p : Option Loc) (m : Node (Option Literal)) (ps : Parts) (h : Held) → LiesWithin w w → LiesWithin w (place_held h) → LiesWithin p (place_held h) → LiteralHeld m.node h
    → ((fault : Sited) → Due e (site.node (at p (f.literal m))) fault → P fault) → ((kind : Kind) (q : Option Loc) → IsDueRight kind (Some (at p (f.literal m), ps)) → LiesWithin w q → P (kind, q)) → Tells P Anything (attributes_of w ps h)
literal_attributes e P w p m f.none (expression q x) l g r c head side = one P k.invalid_has_rhs q _ (side k.invalid_has_rhs q (due.other c.1 (λ x. x) c.0) g)
literal_attributes e P w p m (f.more op n ps) (expression q x) l g r c head side = one P k.invalid_has_rhs q _ (side k.invalid_has_rhs q (due.other c.1 (λ x. x) (λ x. x)) g)
literal_attributes e P w p m ps (variable q x) l g r c head side = absurd c
literal_attributes e P w p m ps (bare_name q x) l g r c head side = absurd c
literal_attributes e P w p m ps (bare_truth q x) l g r c head side = one P k.reserved_identifier q _ (side k.reserved_identifier q (due.truth c) g)
literal_attributes e P w p m ps (bare_string q raw) l g r c head side = string_attributes e P w p q m raw ps l r c head side

-- the fields behind a name
abbrev FieldsRead : Extensions → (Sited → Type 0) → Located → Parts → Type 0
FieldsRead e P n ps = (p : Option Loc) (m : Node (Option Name)) → n ≡ at p (f.name m) → (op : Operator) (i : Located) → IsAmong op i ps → IsFieldNode i → (fault : Sited) → Due e (site.node i) fault → P fault

-- any primary
begun_due : (e : Extensions) (P : Sited → Type 0) (w v p : Option Loc) (u : Form) (ps : Parts) → LiesWithin w w → LiesWithin w v → LiesWithin v p → FormNested p u → AccessesNested v ps
    → (IsBeginning (at p u) → (fault : Sited) → Due e (site.node (at p u)) fault → P fault) → FieldsRead e P (at p u) ps
    → ((kind : Kind) (q : Option Loc) → IsDueRight kind (Some (at p u, ps)) → LiesWithin w q → P (kind, q)) → Tells P Anything (beginning_outcome w ps p u)
begun_due e P w v p (f.literal m) ps s l g h t head below side =
    let i = within_within w v p l g in
    next_tells P (HeldAt (at p (f.literal m))) Anything (literal_outcome m.loc m.node) _ (lift (Due e (site.node (at p (f.literal m)))) P (HeldAt (at p (f.literal m))) (literal_outcome m.loc m.node) (head tt) (literal_due e p m h))
    (λ x c r. literal_attributes e P w p m ps x s (within_within w p (place_held x) i r.0) r.0 (literal_held m.loc m.node x c) (head tt) side)
begun_due e P w v p (f.name m) ps s l g h t head below side =
    let i = within_within w v p l g in
    next_tells P (HeldAt (at p (f.name m))) Anything (name_leaf p m) _ (lift (Due e (site.node (at p (f.name m)))) P (HeldAt (at p (f.name m))) (name_leaf p m) (head tt) (named_due e p m (self_within v p g) h))
    (λ x c r. name_attributes e P w v p m ps x l (within_within w p (place_held x) i r.0) t (name_held p (named_variable m.node) m (name_outcome m) x refl refl c) (below p m refl) side)
begun_due e P w v p u ps s l g h t head below side = one P k.invalid_has_rhs p _ (side k.invalid_has_rhs p (due.other (λ x. x) (λ x. x) (λ x. x)) (within_within w v p l g))

begins_due : (e : Extensions) (P : Sited → Type 0) (w v : Option Loc) (n : Located) (ps : Parts) → LiesWithin w w → LiesWithin w v → Nested v n → AccessesNested v ps
    → (IsBeginning n → (fault : Sited) → Due e (site.node n) fault → P fault) → FieldsRead e P n ps
    → ((kind : Kind) (q : Option Loc) → IsDueRight kind (Some (n, ps)) → LiesWithin w q → P (kind, q)) → Tells P Anything (begins_with w ps n)
begins_due e P w v (f.missing p) ps s l h t head below side = absurd h
begins_due e P w v (f.at p u) ps s l h t head below side = begun_due e P w v p u ps s l h.0 h.1 t head below side

-- ---- the whole of it

-- what is read of the one member that a node is
abbrev MemberRead : Extensions → (Sited → Type 0) → Option (Located × Parts) → Type 0
MemberRead e P one = (n : Located) (ps : Parts) → one ≡ Some (n, ps) → (IsBeginning n → (fault : Sited) → Due e (site.node n) fault → P fault) × FieldsRead e P n ps

mutual
  unfolding right_side right_form

  -- w is the place of the whole, v that of a node around n
  pub right_due : (e : Extensions) (P : Sited → Type 0) (w v : Option Loc) (n : Located) → LiesWithin w w → LiesWithin w v → Nested v n
      → MemberRead e P (one_member n) → ((kind : Kind) (q : Option Loc) → IsDueRight kind (one_member n) → LiesWithin w q → P (kind, q)) → Tells P Anything (right_side w n)
  right_due e P w v (f.missing p) s l h read side = absurd h
  right_due e P w v (f.at p u) s l h read side = right_form_due e P w p u s (within_within w v p l h.0) h.1 read side

  right_form_due : (e : Extensions) (P : Sited → Type 0) (w p : Option Loc) (u : Form) → LiesWithin w w → LiesWithin w p → FormNested p u
      → MemberRead e P (one_member (at p u)) → ((kind : Kind) (q : Option Loc) → IsDueRight kind (one_member (at p u)) → LiesWithin w q → P (kind, q)) → Tells P Anything (right_form w u)
  right_form_due e P w p (f.chain level n f.none) s l h read side = right_due e P w p n s l h.0 read side
  right_form_due e P w p (f.unary op n) s l h read side =
      if_tells P Anything (no_sign op) _ _
      (λ c. right_due e P w p n s l h (subst (λ b. MemberRead e P (cond b (one_member n) None)) c read) (λ kind q d i. side kind q (subst (λ b. IsDueRight kind (cond b (one_member n) None)) (sym c) d) i))
      (λ c. one P k.invalid_has_rhs w _ (side k.invalid_has_rhs w (subst (λ b. IsDueRight k.invalid_has_rhs (cond b (one_member n) None)) (sym c) (due.other (λ x. x) (λ x. x) (λ x. x))) s))
  right_form_due e P w p (f.member n ps) s l h read side = let r = read n ps refl in begins_due e P w p n ps s l h.0 h.1 r.0 r.1 side
  right_form_due e P w p u s l h read side = one P k.invalid_has_rhs w _ (side k.invalid_has_rhs w (due.other (λ x. x) (λ x. x) (λ x. x)) s)

-- within its own place
pub whole_due : (e : Extensions) (P : Sited → Type 0) (v : Option Loc) (n : Located) → Nested v n
    → MemberRead e P (one_member n) → ((kind : Kind) (q : Option Loc) → IsDueRight kind (one_member n) → LiesWithin (tree_place n) q → P (kind, q)) → Tells P Anything (right_side (tree_place n) n)
unfolding right_side
whole_due e P v (f.missing p) h read side = absurd h
whole_due e P v (f.at p u) h read side = let s = self_within v p h.0 in right_form_due e P p p u s s h.1 read side
