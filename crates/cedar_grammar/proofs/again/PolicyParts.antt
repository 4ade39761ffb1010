-- The parts of a policy that are read are read again from their printed words: annotations,
-- elements of the scope, conditions; and items one behind the other.
use Rattle.std.proofs.Common.{◌≡◌, ℕ, List, [], ◌∷◌, ◌++◌, Option, Some, None, codes, refl, sym, ap, ap₂, ◌∙◌, subst, append_assoc, append-nil}
use Rattle.cedar_lexer.specs.Token.{Lexeme}
use Rattle.cedar_lexer.specs.declared.token.TokenKind.TheVariants as kind
use Rattle.cedar_syntax.specs.declared.cst.Expr.{Expr}
use Rattle.cedar_syntax.specs.declared.cst.Ident.{Ident}
use Rattle.cedar_syntax.specs.declared.cst.Name.{Name}
use Rattle.cedar_grammar.specs.grammar.Grammar.{Rule}
use Rattle.cedar_syntax.specs.trees.Located.{Form}
use Rattle.cedar_grammar.specs.grammar.LooseWords.{ReadsAny}
use Rattle.cedar_grammar.specs.grammar.Place.{placed}
use Rattle.cedar_syntax.specs.printing.Printed.{Texts, printed, in_order, each_behind, ident_texts, option_texts, quoted_text}
use Rattle.cedar_syntax.specs.tokens.Tokens.{Spot, one, between_quotes}
use Rattle.cedar_syntax.specs.trees.Trees.{Cell, annotation_of, variable_def_of, cond_of}
use Rattle.cedar_syntax.specs.trees.Unlocated.{unlocated_name, unlocated_node}
use Rattle.cedar_syntax.specs.trees.Unplaced.{unplaced_tree_form, name_tree, unplaced_node, content, optional, tree_at, annotation_tree}
use Rattle.cedar_lexer.specs.Words.{open_word, close_word, TokenText, words_of}
use Rattle.cedar_grammar.specs.printing.SameWords.{Again}
use Rattle.cedar_grammar.proofs.again.Rereading.{AllSpelled, texts-append, both_spelled, halves, left_of, right_of, ReadAs, same_as, infix_as, beside_as, prefix_as, Reworded, suffix_as}
use Rattle.std.specs.Prelude.{option_map}
use Rattle.std.proofs.lemmas.List.{map-append}
use Rattle.cedar_syntax.specs.declared.cst.Str.{Str}
use Rattle.cedar_syntax.specs.declared.cst.Str.TheVariants as str
use Rattle.cedar_syntax.specs.trees.Tree.{Tree}
use Rattle.cedar_grammar.proofs.again.Expressions.{word, rel_word, rel_spelled, rel_prints, rel_reads}
use Rattle.cedar_grammar.proofs.again.Cases.{name_texts, there}
use Rattle.cedar_syntax.specs.trees.UnlocatedTrees.{bare_cell, bare_cells, rest_cells, unlocated_expr, unlocated_add, unlocated_annotation, BareElement, unlocated_constraint, unlocated_element, BareCondition, unlocated_clause, comparison_of, element_tree, clause_tree}
use Rattle.cedar_grammar.proofs.again.Leaves.{AnyOf, any_again, name_again}
use Rattle.cedar_syntax.specs.declared.cst.Add.{Add}
use Rattle.cedar_syntax.specs.declared.cst.Annotation.{Annotation}
use Rattle.cedar_syntax.specs.declared.cst.Cond.{Cond}
use Rattle.cedar_syntax.specs.declared.cst.RelOp.{RelOp}
use Rattle.cedar_syntax.specs.declared.cst.VariableDef.{VariableDef}
use Rattle.cedar_grammar.specs.grammar.LoosePolicies as l
use Rattle.cedar_grammar.specs.grammar.LoosePolicies.{ReadsMany, ReadsAnnotation, ReadsTypeName, ReadsEntityType, ReadsConstraint, ReadsVariableDef, ReadsBody, ReadsCond, ReadsPolicy, ReadsPolicies}
use Rattle.cedar_grammar.proofs.again.Chains.{print_form, bare}
use Rattle.cedar_grammar.proofs.again.Induction.{expr_again, add_again}
use Rattle.cedar_grammar.proofs.again.Lists.{EachAgain, ReadsId, id, id_again, leaves}

-- ---- items one behind the other

abbrev pub ManyRule : {X : Type 0} → Rule X → Rule (List (Cell X))
ManyRule R src ts xs = ReadsMany src (R src) ts xs

abbrev pub many_print : {F : Type 0} → (F → Tree) → List (Cell F) → Texts
many_print tree cs = in_order (rest_cells tree cs)

abbrev pub ManyOf : {X F : Type 0} → Rule X → (X → F) → (F → Tree) → List (Cell F) → Type 0
ManyOf R bare tree cs = Reworded (ManyRule R) (bare_cells bare) (many_print tree) cs

many_snoc : {F : Type 0} (tree : F → Tree) (cs : List (Cell F)) (a : F) → many_print tree (cs ++ there a ∷ []) ≡ many_print tree cs ++ printed (tree a)
unfolding in_order
many_snoc tree [] a = append-nil (printed (tree a))
many_snoc tree (c ∷ cs) a = ap (λ xs. printed (content (unplaced_node tree c)) ++ xs) (many_snoc tree cs a) ∙ sym (append_assoc (printed (content (unplaced_node tree c))) (many_print tree cs) (printed (tree a)))

no_many : {X F : Type 0} (R : Rule X) (bare : X → F) (tree : F → Tree) → ManyOf R bare tree []
unfolding in_order
no_many R bare tree = record { words = []; spelled = tt; prints = refl; again = λ src us e. empty src us e }
  where
    empty : (src : List ℕ) (us : List Lexeme) → words_of us ≡ [] → Again (ManyRule R) (bare_cells bare) [] src us
    empty src [] e = record { tree = []; reads = l.none; same = refl }
    empty src (u ∷ us) e = absurd (cc)

next_many : {X F : Type 0} (R : Rule X) (bare : X → F) (tree : F → Tree) (cs : List (Cell F)) (a : F) → ManyOf R bare tree cs → Reworded R bare (λ b. printed (tree b)) a → ManyOf R bare tree (cs ++ there a ∷ [])
next_many {F = F} R bare tree cs a h k = record {
  words = h.words ++ k.words;
  spelled = both_spelled h.words k.words h.spelled k.spelled;
  prints = texts-append h.words k.words ∙ ap₂ (λ (xs ys : Texts). xs ++ ys) h.prints k.prints ∙ sym (many_snoc tree cs a);
  again = beside_as {bz = bare_cells bare} {c = cs ++ there a ∷ []} (λ src ts us x y. record {
    tree = x.tree ++ placed src us y.tree ∷ [];
    reads = l.more x.reads y.reads;
    same = map-append (bare_cell bare) x.tree (placed src us y.tree ∷ []) ∙ ap₂ (λ (ds : List (Cell F)) (d : F). ds ++ there d ∷ []) x.same y.same;
  }) h.again k.again;
}

pub many_again : {X F : Type 0} (R : Rule X) (bare : X → F) (tree : F → Tree) {src : List ℕ} → EachAgain R bare tree src → {ts : List Lexeme} {xs : List (Cell X)} → ReadsMany src (R src) ts xs → AllSpelled ts → ManyOf R bare tree (bare_cells bare xs)
many_again R bare tree each l.none s = no_many R bare tree
many_again R bare tree {src = src} each (l.more {ts = ts} {us = us} {xs = xs} {y = y} r q) s =
    subst (ManyOf R bare tree) (sym (map-append (bare_cell bare) xs (placed src us y ∷ [])))
    (next_many R bare tree (bare_cells bare xs) (bare y) (many_again R bare tree each r (halves ts us s).0) (each us y q (halves ts us s).1))

-- ---- annotations

abbrev at_word : TokenText
at_word = word kind.At (codes "@")

abbrev AnnotationOf : Annotation → Type 0
AnnotationOf a = Reworded ReadsAnnotation unlocated_annotation (λ b. printed (annotation_tree b)) a

-- `@` and a key, and the same with `(` and a string, as rules of their own
pub data ReadsKey (src : List ℕ) : List Lexeme → Cell Ident → Type 0 where
  key : {ts : List Lexeme} {i : Ident} (p : Spot) → ReadsAny ts i → ReadsKey src (one kind.At p ++ ts) (placed src ts i)

pub data ReadsKeyed (src : List ℕ) : List Lexeme → Cell Ident × Cell Str → Type 0 where
  keyed : {ts us : List Lexeme} {c : Cell Ident} {raw : List ℕ} (p : Spot) → ReadsKey src ts c → ReadsId src us raw → ReadsKeyed src (ts ++ one kind.OpenParen p ++ us) (c, placed src us (str.String raw))

pub key_read : {src : List ℕ} {ts : List Lexeme} {c : Cell Ident} → ReadsKey src ts c → ReadsAnnotation src ts (annotation_of c None)
key_read (key p r) = l.key_alone p r

pub keyed_read : {src : List ℕ} {ts : List Lexeme} {c : Cell Ident × Cell Str} (m : Spot) → ReadsKeyed src ts c → ReadsAnnotation src (ts ++ one kind.CloseParen m) (annotation_of c.0 (Some c.1))
keyed_read m (keyed q (key p r) (id u)) = l.with_value p q u m r

key_again : (i : Ident) → AnyOf i → Reworded ReadsKey (λ c. unlocated_node c) (λ c. codes "@" ∷ option_texts ident_texts c.node) (there i)
key_again i h = record {
  words = at_word ∷ h.words;
  spelled = (refl, h.spelled);
  prints = ap (λ xs. codes "@" ∷ xs) h.prints;
  again = prefix_as {bz = λ (c : Cell Ident). unlocated_node c} at_word (λ src ts p e x. record { tree = placed src ts x.tree; reads = key p x.reads; same = ap there x.same }) h.again;
}

key_alone_again : (i : Ident) → AnyOf i → AnnotationOf (annotation_of (there i) None)
unfolding printed
key_alone_again i h =
    let k = key_again i h in
    record {
      words = k.words;
      spelled = k.spelled;
      prints = k.prints ∙ ap (λ xs. codes "@" ∷ xs) (sym (append-nil (ident_texts i)));
      again = same_as (λ src ts x. record { tree = annotation_of x.tree None; reads = key_read x.reads; same = ap (λ c. annotation_of c None) x.same }) k.again;
    }

abbrev pub Keyed : Type 0
Keyed = Cell Ident × Cell Str

abbrev pub bare_keyed : Keyed → Keyed
bare_keyed p = (unlocated_node p.0, unlocated_node p.1)

with_value_again : (i : Ident) (raw : List ℕ) → AnyOf i → Reworded ReadsId (λ r. r) (λ r. quoted_text r ∷ []) raw → AnnotationOf (annotation_of (there i) (Some (there (str.String raw))))
unfolding printed
with_value_again i raw h k =
    let g = key_again i h in
    let inner : ReadAs ReadsKeyed bare_keyed (there i, there (str.String raw)) (g.words ++ (open_word ∷ k.words)) =
    infix_as {bz = bare_keyed} {c = (there i, there (str.String raw))} open_word (λ src ts us p e x y. record { tree = (x.tree, placed src us (str.String y.tree)); reads = keyed p x.reads y.reads; same = ap₂ (λ (c : Cell Ident) (v : List ℕ). (c, there (str.String v))) x.same y.same }) g.again k.again in
    record {
      words = (g.words ++ (open_word ∷ k.words)) ++ (close_word ∷ []);
      spelled = both_spelled (g.words ++ (open_word ∷ k.words)) (close_word ∷ []) (both_spelled g.words (open_word ∷ k.words) g.spelled (refl, k.spelled)) (refl, tt);
      prints = texts-append (g.words ++ (open_word ∷ k.words)) (close_word ∷ [])
          ∙ ap (λ xs. xs ++ (codes ")" ∷ [])) (texts-append g.words (open_word ∷ k.words) ∙ ap₂ (λ (xs ys : Texts). xs ++ (codes "(" ∷ ys)) g.prints k.prints)
          ∙ append_assoc (codes "@" ∷ ident_texts i) (codes "(" ∷ (quoted_text raw ∷ [])) (codes ")" ∷ []);
      again = suffix_as close_word (λ src ts p e x. record { tree = annotation_of x.tree.0 (Some x.tree.1); reads = keyed_read p x.reads; same = ap (λ (c : Keyed). annotation_of c.0 (Some c.1)) x.same }) inner;
    }

pub annotation_again : (src : List ℕ) (ts : List Lexeme) (x : Annotation) → ReadsAnnotation src ts x → AllSpelled ts → AnnotationOf (unlocated_annotation x)
annotation_again src _ _ (l.key_alone {ts = ts} {i = i} p r) s = key_alone_again i (any_again r (halves (one kind.At p) ts s).1)
annotation_again src _ _ (l.with_value {ts = ts} {i = i} p o q m r) s =
    let a = (halves (one kind.At p ++ ts ++ one kind.OpenParen o ++ one kind.StringLit q) (one kind.CloseParen m) s).0 in
    let b = halves (one kind.At p ++ ts ++ one kind.OpenParen o) (one kind.StringLit q) a in
    let c = halves (one kind.At p) ts (halves (one kind.At p ++ ts) (one kind.OpenParen o) b.0).0 in
    with_value_again i (between_quotes q.text) (any_again r c.1) (id_again q.text b.1.0)

-- ---- elements of the scope

abbrev type_print : Option (Cell Name) → Texts
type_print o = each_behind (codes ":") (optional (option_map (λ c. tree_at name_tree c) o))

abbrev pub bare_type : Option (Cell Name) → Option (Cell Name)
bare_type o = option_map (λ c. bare_cell unlocated_name c) o

type_again : {src : List ℕ} {ts : List Lexeme} {o : Option (Cell Name)} → ReadsTypeName src ts o → AllSpelled ts → Reworded ReadsTypeName bare_type type_print (bare_type o)
unfolding each_behind
type_again l.no_type_name s = record { words = []; spelled = tt; prints = refl; again = λ src us e. empty src us e }
  where
    empty : (src : List ℕ) (us : List Lexeme) → words_of us ≡ [] → Again ReadsTypeName bare_type None src us
    empty src [] e = record { tree = None; reads = l.no_type_name; same = refl }
    empty src (u ∷ us) e = absurd (cc)
type_again (l.type_name {ts = ts} {x = x} p r) s =
    let h = name_again r (halves (one kind.Colon p) ts s).1 in
    record {
      words = word kind.Colon (codes ":") ∷ h.words;
      spelled = (refl, h.spelled);
      prints = ap (λ xs. codes ":" ∷ xs) (h.prints ∙ sym (append-nil (name_texts (unlocated_name x))));
      again = prefix_as {bz = bare_type} {c = Some (there (unlocated_name x))} (word kind.Colon (codes ":")) (λ src ts p e y. record { tree = Some (placed src ts y.tree); reads = l.type_name p y.reads; same = ap (λ n. Some (there n)) y.same }) h.again;
    }

abbrev entity_print : Option (Cell Form) → Texts
entity_print o = each_behind (codes "is") (optional (option_map (λ c. tree_at unplaced_tree_form c) o))

abbrev pub bare_entity : Option (Cell Add) → Option (Cell Form)
bare_entity o = option_map (λ c. bare_cell unlocated_add c) o

entity_again : {src : List ℕ} {ts : List Lexeme} {o : Option (Cell Add)} → ReadsEntityType src ts o → AllSpelled ts → Reworded ReadsEntityType bare_entity entity_print (bare_entity o)
unfolding each_behind
entity_again l.no_entity_type s = record { words = []; spelled = tt; prints = refl; again = λ src us e. empty src us e }
  where
    empty : (src : List ℕ) (us : List Lexeme) → words_of us ≡ [] → Again ReadsEntityType bare_entity None src us
    empty src [] e = record { tree = None; reads = l.no_entity_type; same = refl }
    empty src (u ∷ us) e = absurd (cc)
entity_again (l.entity_type {ts = ts} {x = x} p r) s =
    let h = add_again leaves r (halves (one kind.Is p) ts s).1 in
    record {
      words = word kind.Is (codes "is") ∷ h.words;
      spelled = (refl, h.spelled);
      prints = ap (λ xs. codes "is" ∷ xs) (h.prints ∙ sym (append-nil (print_form (unlocated_add x))));
      again = prefix_as {bz = bare_entity} {c = Some (there (unlocated_add x))} (word kind.Is (codes "is")) (λ src ts p e y. record { tree = Some (placed src ts y.tree); reads = l.entity_type p y.reads; same = ap (λ n. Some (there n)) y.same }) h.again;
    }

abbrev against_print : Option (RelOp × Cell Form) → Texts
against_print o = in_order (comparison_of o)

abbrev pub bare_against : Option (RelOp × Cell Expr) → Option (RelOp × Cell Form)
bare_against o = option_map unlocated_constraint o

against_again : {src : List ℕ} {ts : List Lexeme} {o : Option (RelOp × Cell Expr)} → ReadsConstraint src ts o → AllSpelled ts → Reworded ReadsConstraint bare_against against_print (bare_against o)
unfolding in_order
against_again l.no_constraint s = record { words = []; spelled = tt; prints = refl; again = λ src us e. empty src us e }
  where
    empty : (src : List ℕ) (us : List Lexeme) → words_of us ≡ [] → Again ReadsConstraint bare_against None src us
    empty src [] e = record { tree = None; reads = l.no_constraint; same = refl }
    empty src (u ∷ us) e = absurd (cc)
against_again (l.constraint {ts = ts} {k = k} {o = o} {x = x} p q r) s =
    let h = expr_again leaves r (halves (one k p) ts s).1 in
    record {
      words = rel_word o ∷ h.words;
      spelled = (rel_spelled o, h.spelled);
      prints = ap₂ (λ (xs ys : Texts). xs ++ ys) (sym (rel_prints o)) (h.prints ∙ sym (append-nil (print_form (unlocated_expr x))));
      again = prefix_as {bz = bare_against} {c = Some (o, there (unlocated_expr x))} (rel_word o) (λ src ts p e y. record { tree = Some (o, placed src ts y.tree); reads = l.constraint p (rel_reads o) y.reads; same = ap (λ n. Some (o, there n)) y.same }) h.again;
    }

abbrev ElementOf : BareElement → Type 0
ElementOf a = Reworded ReadsVariableDef unlocated_element (λ b. printed (element_tree b)) a

-- what stands behind an element's variable, as rules of their own
abbrev pub Ends : Type 0
Ends = Option (Cell Add) × Option (RelOp × Cell Expr)

pub data ReadsEnds (src : List ℕ) : List Lexeme → Ends → Type 0 where
  ends : {vs ws : List Lexeme} {y : Option (Cell Add)} {z : Option (RelOp × Cell Expr)} → ReadsEntityType src vs y → ReadsConstraint src ws z → ReadsEnds src (vs ++ ws) (y, z)

abbrev pub BareEnds : Type 0
BareEnds = Option (Cell Form) × Option (RelOp × Cell Form)

abbrev pub bare_ends : Ends → BareEnds
bare_ends e = (bare_entity e.0, bare_against e.1)

ends_again : (y : Option (Cell Form)) (z : Option (RelOp × Cell Form)) → Reworded ReadsEntityType bare_entity entity_print y → Reworded ReadsConstraint bare_against against_print z → Reworded ReadsEnds bare_ends (λ e. entity_print e.0 ++ against_print e.1) (y, z)
ends_again y z h k = record {
  words = h.words ++ k.words;
  spelled = both_spelled h.words k.words h.spelled k.spelled;
  prints = texts-append h.words k.words ∙ ap₂ (λ (xs ys : Texts). xs ++ ys) h.prints k.prints;
  again = beside_as {bz = bare_ends} {c = (y, z)} (λ src ts us a b. record { tree = (a.tree, b.tree); reads = ends a.reads b.reads; same = ap₂ (λ (c : Option (Cell Form)) (d : Option (RelOp × Cell Form)). (c, d)) a.same b.same }) h.again k.again;
}

pub data ReadsSides (src : List ℕ) : List Lexeme → Option (Cell Name) → Ends → Type 0 where
  sides : {us vs : List Lexeme} {x : Option (Cell Name)} {e : Ends} → ReadsTypeName src us x → ReadsEnds src vs e → ReadsSides src (us ++ vs) x e

pub record SidesTree : Type 0 where
  pub name : Option (Cell Name)
  pub ends : Ends

pub record BareSides : Type 0 where
  pub name : Option (Cell Name)
  pub ends : BareEnds

abbrev pub sides_rule : Rule SidesTree
sides_rule src ts p = ReadsSides src ts p.name p.ends

abbrev pub bare_sides : SidesTree → BareSides
bare_sides p = record { name = bare_type p.name; ends = bare_ends p.ends }

abbrev sides_print : BareSides → Texts
sides_print b = type_print b.name ++ (entity_print b.ends.0 ++ against_print b.ends.1)

sides_again : (b : BareSides) → Reworded ReadsTypeName bare_type type_print b.name → Reworded ReadsEnds bare_ends (λ e. entity_print e.0 ++ against_print e.1) b.ends → Reworded sides_rule bare_sides sides_print b
sides_again b h k = record {
  words = h.words ++ k.words;
  spelled = both_spelled h.words k.words h.spelled k.spelled;
  prints = texts-append h.words k.words ∙ ap₂ (λ (xs ys : Texts). xs ++ ys) h.prints k.prints;
  again = beside_as {bz = bare_sides} {c = b} (λ src ts us x y. record { tree = record { name = x.tree; ends = y.tree }; reads = sides x.reads y.reads; same = ap₂ (λ (c : Option (Cell Name)) (d : BareEnds). record { name = c; ends = d }) x.same y.same }) h.again k.again;
}

pub sides_read : {src : List ℕ} {ts us : List Lexeme} {i : Ident} {x : Option (Cell Name)} {e : Ends} → ReadsAny ts i → ReadsSides src us x e → ReadsVariableDef src (ts ++ us) (variable_def_of (placed src ts i) x e.0 e.1)
sides_read r (sides q (ends y z)) = l.variable_def r q y z

abbrev pub element_of : Ident → BareSides → BareElement
element_of i b = record { variable = there i; type_name = b.name; entity_type = b.ends.0; constraint = b.ends.1 }

element_case : (i : Ident) (b : BareSides) → AnyOf i → Reworded sides_rule bare_sides sides_print b → ElementOf (element_of i b)
unfolding printed
element_case i b h k = record {
  words = h.words ++ k.words;
  spelled = both_spelled h.words k.words h.spelled k.spelled;
  prints = texts-append h.words k.words ∙ ap₂ (λ (xs ys : Texts). xs ++ ys) h.prints k.prints;
  again = beside_as {bz = unlocated_element} {c = element_of i b} (λ src ts us x y. record { tree = variable_def_of (placed src ts x.tree) y.tree.name y.tree.ends.0 y.tree.ends.1; reads = sides_read x.reads y.reads; same = ap₂ element_of x.same y.same }) h.again k.again;
}

pub element_again : (src : List ℕ) (ts : List Lexeme) (x : VariableDef) → ReadsVariableDef src ts x → AllSpelled ts → ElementOf (unlocated_element x)
element_again src _ _ (l.variable_def {ts = ts} {us = us} {vs = vs} {ws = ws} {i = i} {x = x} {y = y} {z = z} r q p c) s =
    let a = halves ts (us ++ (vs ++ ws)) s in
    let b = halves us (vs ++ ws) a.1 in
    let d = halves vs ws b.1 in
    element_case i (record { name = bare_type x; ends = (bare_entity y, bare_against z) }) (any_again r a.0)
    (sides_again (record { name = bare_type x; ends = (bare_entity y, bare_against z) }) (type_again q b.0) (ends_again (bare_entity y) (bare_against z) (entity_again p d.0) (against_again c d.1)))

-- ---- conditions

abbrev body_print : Option (Cell Form) → Texts
body_print None = []
body_print (Some c) = printed (tree_at unplaced_tree_form c)

abbrev pub bare_body : Option (Cell Expr) → Option (Cell Form)
bare_body o = option_map (λ n. bare_cell unlocated_expr n) o

body_again : {src : List ℕ} {ts : List Lexeme} {o : Option (Cell Expr)} → ReadsBody src ts o → AllSpelled ts → Reworded ReadsBody bare_body body_print (bare_body o)
body_again l.no_body s = record { words = []; spelled = tt; prints = refl; again = λ src us e. empty src us e }
  where
    empty : (src : List ℕ) (us : List Lexeme) → words_of us ≡ [] → Again ReadsBody bare_body None src us
    empty src [] e = record { tree = None; reads = l.no_body; same = refl }
    empty src (u ∷ us) e = absurd (cc)
body_again (l.body {x = x} r) s =
    let h = expr_again leaves r s in
    record {
      words = h.words;
      spelled = h.spelled;
      prints = h.prints;
      again = same_as {by = bare_body} {b = Some (there (unlocated_expr x))} (λ src ts y. record { tree = Some (placed src ts y.tree); reads = l.body y.reads; same = ap (λ n. Some (there n)) y.same }) h.again;
    }

abbrev ClauseOf : BareCondition → Type 0
ClauseOf a = Reworded ReadsCond unlocated_clause (λ b. printed (clause_tree b)) a

pub data ReadsBegun (src : List ℕ) : List Lexeme → Cell Ident → Option (Cell Expr) → Type 0 where
  begun : {ts us : List Lexeme} {i : Ident} {x : Option (Cell Expr)} (p : Spot) → ReadsAny ts i → ReadsBody src us x → ReadsBegun src (ts ++ one kind.OpenBrace p ++ us) (placed src ts i) x

pub begun_read : {src : List ℕ} {ts : List Lexeme} {c : Cell Ident} {x : Option (Cell Expr)} (m : Spot) → ReadsBegun src ts c x → ReadsCond src (ts ++ one kind.CloseBrace m) (cond_of c x)
begun_read m (begun p r q) = l.cond p m r q

abbrev pub BegunTree : Type 0
BegunTree = Cell Ident × Option (Cell Expr)

abbrev pub begun_rule : Rule BegunTree
begun_rule src ts p = ReadsBegun src ts p.0 p.1

abbrev pub bare_begun : BegunTree → BareCondition
bare_begun p = record { word = unlocated_node p.0; body = bare_body p.1 }

abbrev pub clause_of : Ident → Option (Cell Form) → BareCondition
clause_of i b = record { word = there i; body = b }

clause_prints : (i : Ident) (b : Option (Cell Form)) → ident_texts i ++ (codes "{" ∷ body_print b) ++ (codes "}" ∷ []) ≡ printed (clause_tree (clause_of i b))
unfolding printed
clause_prints i None = append_assoc (ident_texts i) (codes "{" ∷ []) (codes "}" ∷ [])
clause_prints i (Some c) = append_assoc (ident_texts i) (codes "{" ∷ printed (tree_at unplaced_tree_form c)) (codes "}" ∷ [])

clause_case : (i : Ident) (b : Option (Cell Form)) → AnyOf i → Reworded ReadsBody bare_body body_print b → ClauseOf (clause_of i b)
clause_case i b h k =
    let o = word kind.OpenBrace (codes "{") in
    let m = word kind.CloseBrace (codes "}") in
    let inner : ReadAs begun_rule bare_begun (clause_of i b) (h.words ++ (o ∷ k.words)) =
    infix_as {bz = bare_begun} {c = clause_of i b} o (λ src ts us p e x y. record { tree = (placed src ts x.tree, y.tree); reads = begun p x.reads y.reads; same = ap₂ clause_of x.same y.same }) h.again k.again in
    record {
      words = (h.words ++ (o ∷ k.words)) ++ (m ∷ []);
      spelled = both_spelled (h.words ++ (o ∷ k.words)) (m ∷ []) (both_spelled h.words (o ∷ k.words) h.spelled (refl, k.spelled)) (refl, tt);
      prints = texts-append (h.words ++ (o ∷ k.words)) (m ∷ []) ∙ ap (λ xs. xs ++ (codes "}" ∷ [])) (texts-append h.words (o ∷ k.words) ∙ ap₂ (λ (xs ys : Texts). xs ++ (codes "{" ∷ ys)) h.prints k.prints) ∙ clause_prints i b;
      again = suffix_as {bz = unlocated_clause} {c = clause_of i b} m (λ src ts p e x. record { tree = cond_of x.tree.0 x.tree.1; reads = begun_read p x.reads; same = x.same }) inner;
    }

pub clause_again : (src : List ℕ) (ts : List Lexeme) (x : Cond) → ReadsCond src ts x → AllSpelled ts → ClauseOf (unlocated_clause x)
clause_again src _ _ (l.cond {ts = ts} {us = us} {i = i} {x = x} p m r q) s =
    let a = (halves (ts ++ one kind.OpenBrace p ++ us) (one kind.CloseBrace m) s).0 in
    clause_case i (bare_body x) (any_again r (left_of ts us kind.OpenBrace p a)) (body_again q (right_of ts us kind.OpenBrace p a))
