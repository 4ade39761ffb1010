-- The print law of expressions: what is printed doesn't look at places.
use Rattle.std.proofs.Common.{◌≡◌, ℕ, List, [], ◌∷◌, map, Option, Some, None, refl, ap, ap₂, ◌∙◌}
use Rattle.std.specs.Prelude.{option_map}
use Rattle.cedar_lexer.specs.Token.{Lexeme}
use Rattle.cedar_syntax.specs.declared.cst.Expr.{Expr}
use Rattle.cedar_syntax.specs.declared.cst.Ident.{Ident}
use Rattle.cedar_syntax.specs.declared.cst.Literal.{Literal}
use Rattle.cedar_syntax.specs.declared.cst.Literal.TheVariants as lit
use Rattle.cedar_syntax.specs.declared.cst.Name.{Name}
use Rattle.cedar_syntax.specs.declared.cst.Ref.{Ref}
use Rattle.cedar_syntax.specs.declared.cst.Ref.TheVariants as refs
use Rattle.cedar_syntax.specs.declared.cst.RefInit.{RefInit}
use Rattle.cedar_syntax.specs.trees.Forms.{expr_form}
use Rattle.cedar_syntax.specs.trees.Located as f
use Rattle.cedar_syntax.specs.trees.Located.{Located, Form, Parts}
use Rattle.cedar_grammar.specs.grammar.LooseExpressions.{ReadsExpr}
use Rattle.cedar_syntax.specs.printing.Printed.{printed}
use Rattle.cedar_syntax.specs.trees.Tree as t
use Rattle.cedar_syntax.specs.trees.Tree.{Tree, Rest, beside}
use Rattle.cedar_syntax.specs.trees.Trees.{Cell}
use Rattle.cedar_syntax.specs.trees.Unlocated.{unlocated, unlocated_form, unlocated_parts, unlocated_cell, unlocated_node, unlocated_literal, unlocated_name, unlocated_ref_init, unlocated_ref}
use Rattle.cedar_syntax.specs.trees.Unplaced.{unplaced_tree, unplaced_tree_form, unplaced_tree_parts, literal_in, name_in, ref_in, ref_init_tree, rest_behind, unplaced_node, expr_tree}
use Rattle.cedar_syntax.specs.trees.UnlocatedTrees.{unlocated_expr}
use Rattle.cedar_grammar.proofs.again.Rereading.{AllSpelled, PrintsAgain}
use Rattle.cedar_grammar.proofs.again.Induction.{expr_again}
use Rattle.cedar_grammar.proofs.again.Lists.{leaves}

same_literal : (o : Option Literal) → literal_in (option_map unlocated_literal o) ≡ literal_in o
same_literal None = refl
same_literal (Some lit.True) = refl
same_literal (Some lit.False) = refl
same_literal (Some (lit.Num n)) = refl
same_literal (Some (lit.Str s)) = refl

same_words : (xs : List (Cell Ident)) → map (λ i. i.node) (map unlocated_node xs) ≡ map (λ i. i.node) xs
same_words [] = refl
same_words (x ∷ xs) = ap (λ ys. x.node ∷ ys) (same_words xs)

pub same_name : (o : Option Name) → name_in (option_map unlocated_name o) ≡ name_in o
same_name None = refl
same_name (Some n) = ap (λ ws. t.name ws n.name.node) (same_words n.path)

same_init : (o : Option RefInit) → option_map ref_init_tree (option_map unlocated_ref_init o) ≡ option_map ref_init_tree o
same_init None = refl
same_init (Some i) = ap (λ a. Some (t.ref_init i.0.node a)) (same_literal i.1.node)

same_fields : (cs : List (Cell RefInit)) → rest_behind beside (map (unplaced_node ref_init_tree) (map (unlocated_cell unlocated_ref_init) cs)) ≡ rest_behind beside (map (unplaced_node ref_init_tree) cs)
same_fields [] = refl
same_fields (c ∷ cs) = ap₂ (λ (o : Option Tree) (r : Rest). t.more beside (content_of o) r) (same_init c.node) (same_fields cs)
  where
    content_of : Option Tree → Tree
    content_of None = t.missing
    content_of (Some a) = a

pub same_ref : (o : Option Ref) → ref_in (option_map unlocated_ref o) ≡ ref_in o
same_ref None = refl
same_ref (Some (refs.Uid path eid)) = ap (λ n. t.entity n eid.node) (same_name path.node)
same_ref (Some (refs.Ref path inits)) = ap₂ t.reference (same_name path.node) (same_fields inits)

mutual
  unfolding unlocated unlocated_form unlocated_parts unplaced_tree unplaced_tree_form unplaced_tree_parts

  same_tree : (n : Located) → unplaced_tree (unlocated n) ≡ unplaced_tree n
  same_tree (f.missing p) = refl
  same_tree (f.at p a) = same_form a

  pub same_form : (a : Form) → unplaced_tree_form (unlocated_form a) ≡ unplaced_tree_form a
  same_form (f.only n) = same_tree n
  same_form (f.ite a b c) = ap₂ (λ (x y : Tree). t.ite x y (unplaced_tree (unlocated c))) (same_tree a) (same_tree b) ∙ ap (λ z. t.ite (unplaced_tree a) (unplaced_tree b) z) (same_tree c)
  same_form (f.chain level n ps) = ap₂ (t.chain level) (same_tree n) (same_parts ps)
  same_form (f.has m n) = ap₂ t.has (same_tree m) (same_tree n)
  same_form (f.like m n) = ap₂ t.like (same_tree m) (same_tree n)
  same_form (f.is m n) = ap₂ t.is (same_tree m) (same_tree n)
  same_form (f.is_in a b c) = ap₂ (λ (x y : Tree). t.is_in x y (unplaced_tree (unlocated c))) (same_tree a) (same_tree b) ∙ ap (λ z. t.is_in (unplaced_tree a) (unplaced_tree b) z) (same_tree c)
  same_form (f.unary op n) = ap (t.unary op) (same_tree n)
  same_form (f.member n ps) = ap₂ t.member (same_tree n) (same_parts ps)
  same_form (f.field n) = refl
  same_form (f.call ps) = ap t.call (same_parts ps)
  same_form (f.index n) = ap t.index (same_tree n)
  same_form (f.literal n) = same_literal n.node
  same_form (f.name n) = same_name n.node
  same_form (f.slot n) = refl
  same_form (f.reference n) = same_ref n.node
  same_form (f.parens n) = ap t.parens (same_tree n)
  same_form (f.set ps) = ap t.set (same_parts ps)
  same_form (f.record_of ps) = ap t.record_of (same_parts ps)
  same_form (f.init m n) = ap₂ t.init (same_tree m) (same_tree n)

  same_parts : (ps : Parts) → unplaced_tree_parts (unlocated_parts ps) ≡ unplaced_tree_parts ps
  same_parts f.none = refl
  same_parts (f.more op n ps) = ap₂ (t.more op) (same_tree n) (same_parts ps)

pub expr_prints_again : (src : List ℕ) (ts : List Lexeme) (x : Expr) → ReadsExpr src ts x → AllSpelled ts → PrintsAgain ReadsExpr unlocated_expr expr_tree x
unfolding expr_tree
expr_prints_again src ts x r s =
    let h = expr_again leaves r s in
    record { words = h.words; spelled = h.spelled; prints = h.prints ∙ ap printed (same_form (expr_form x)); again = h.again }
