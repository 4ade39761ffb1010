-- The print law of each rule.
use Rattle.std.proofs.Common.{◌≡◌, ℕ, List, [], ◌∷◌, map, Option, Some, None, refl, sym, ap, ap₂, ◌∙◌, subst}
use Rattle.std.specs.Prelude.{option_map}
use Rattle.cedar_lexer.specs.Cut.{Layout, nothing, skip, token, Cuts}
use Rattle.cedar_lexer.specs.Token.{Lexeme}
use Rattle.cedar_lexer.proofs.Cuts.{one_end, nothing_at_end}
use Rattle.cedar_syntax.specs.declared.cst.Add.{Add}
use Rattle.cedar_syntax.specs.declared.cst.Annotation.{Annotation}
use Rattle.cedar_syntax.specs.declared.cst.Cond.{Cond}
use Rattle.cedar_syntax.specs.declared.cst.Expr.{Expr}
use Rattle.cedar_syntax.specs.declared.cst.Ident.{Ident}
use Rattle.cedar_syntax.specs.declared.cst.Name.{Name}
use Rattle.cedar_syntax.specs.declared.cst.Policies.{Policies}
use Rattle.cedar_syntax.specs.declared.cst.Policy.{Policy}
use Rattle.cedar_syntax.specs.declared.cst.Policy.TheVariants as pol
use Rattle.cedar_syntax.specs.declared.cst.Primary.{Primary}
use Rattle.cedar_syntax.specs.declared.cst.Ref.{Ref}
use Rattle.cedar_syntax.specs.declared.cst.RelOp.{RelOp}
use Rattle.cedar_syntax.specs.declared.cst.Str.{Str}
use Rattle.cedar_syntax.specs.declared.cst.VariableDef.{VariableDef}
use Rattle.cedar_syntax.specs.trees.Forms.{expr_form, add_form, primary_form}
use Rattle.cedar_grammar.specs.grammar.Grammar.{Rule, IsTreeOf}
use Rattle.cedar_grammar.specs.grammar.LooseExpressions.{ReadsExpr, ReadsPrimary}
use Rattle.cedar_grammar.specs.grammar.LoosePolicies.{ReadsPolicy, ReadsPolicies}
use Rattle.cedar_grammar.specs.grammar.LooseWords.{ReadsIdent, ReadsName, ReadsRef}
use Rattle.cedar_grammar.specs.grammar.Place.{placed_or_start}
use Rattle.cedar_syntax.specs.printing.Printed.{tokens_text, printed}
use Rattle.cedar_syntax.specs.trees.Tree as t
use Rattle.cedar_syntax.specs.trees.Tree.{Tree, Rest, beside}
use Rattle.cedar_syntax.specs.trees.Trees.{Cell}
use Rattle.cedar_syntax.specs.trees.Unlocated.{unlocated_name, unlocated_ref}
use Rattle.cedar_syntax.specs.trees.Unplaced.{expr_tree, add_tree, primary_tree, name_tree, ref_tree, ident_tree, annotation_tree, variable_def_tree, comparison_rest, condition_tree, cond_tree, policy_tree, policies_tree, optional, or_missing, tree_at, unplaced_node, rest_behind, unplaced_tree_form}
use Rattle.cedar_syntax.specs.trees.UnlocatedTrees.{unlocated_expr, bare_cell, bare_cells, unlocated_add, unlocated_annotation, unlocated_constraint, unlocated_element, unlocated_clause, unlocated_policy, unlocated_policies, comparison_of, element_tree, clause_with, clause_tree, rest_cells, bare_tree, unlocated_primary, unlocated_ident}
use Rattle.cedar_grammar.proofs.again.Rereading.{AllSpelled, PrintsAgain}
use Rattle.cedar_grammar.specs.printing.PrintLaw.{SameUpToPlaces, HasSameTree, node_text, PrintLaw}
use Rattle.cedar_grammar.specs.faults.FirstFault.{HasOneTree}
use Rattle.cedar_grammar.proofs.again.Induction.{primary_again}
use Rattle.cedar_grammar.proofs.again.Leaves.{any_again, name_again}
use Rattle.cedar_grammar.proofs.again.Lists.{ref_again, leaves}
use Rattle.cedar_grammar.proofs.again.Policies.{policy_again, policies_again}
use Rattle.cedar_lexer.proofs.Spaced.{tokens_from, words_are, words_cut}
use Rattle.cedar_grammar.proofs.again.Whole.{expr_prints_again, same_form, same_name, same_ref}

-- ---- what a text is cut into is spelled

pub all_spelled : {src : List ℕ} {ts : List Lexeme} {i k : ℕ} → Layout src i ts k → AllSpelled ts
all_spelled nothing = tt
all_spelled (skip s more) = all_spelled more
all_spelled (token s more) = (s.spelled.spells, all_spelled more)

pub one_cut : (source : List ℕ) (ts us : List Lexeme) → Cuts source ts → Cuts source us → ts ≡ us
one_cut source ts us c d = (one_end c (nothing_at_end source) d (nothing_at_end source)).0

-- ---- what is printed of policies doesn't look at places

same_annotation : (a : Annotation) → annotation_tree (unlocated_annotation a) ≡ annotation_tree a
same_annotation a = ap (λ o. t.annotation a.key.node o) (value a.value)
  where
    value : (o : Option (Cell Str)) → option_map (λ (v : Cell Str). v.node) (option_map (λ (v : Cell Str). record { node = v.node; loc = None }) o) ≡ option_map (λ v. v.node) o
    value None = refl
    value (Some v) = refl

same_type : (o : Option (Cell Name)) → optional (option_map (λ c. tree_at name_tree c) (option_map (λ c. bare_cell unlocated_name c) o)) ≡ optional (option_map (tree_at name_tree) o)
same_type None = refl
same_type (Some c) = ap (λ a. optional (Some a)) (same_name c.node)

in_add : (o : Option Add) → or_missing (option_map unplaced_tree_form (option_map unlocated_add o)) ≡ or_missing (option_map add_tree o)
unfolding add_tree
in_add None = refl
in_add (Some x) = same_form (add_form x)

in_expr : (o : Option Expr) → or_missing (option_map unplaced_tree_form (option_map unlocated_expr o)) ≡ or_missing (option_map expr_tree o)
unfolding expr_tree
in_expr None = refl
in_expr (Some x) = same_form (expr_form x)

same_entity : (o : Option (Cell Add)) → optional (option_map (λ c. tree_at unplaced_tree_form c) (option_map (λ c. bare_cell unlocated_add c) o)) ≡ optional (option_map (tree_at add_tree) o)
same_entity None = refl
same_entity (Some c) = ap (λ a. optional (Some a)) (in_add c.node)

same_against : (o : Option (RelOp × Cell Expr)) → comparison_of (option_map unlocated_constraint o) ≡ comparison_rest o
same_against None = refl
same_against (Some p) = ap (λ a. t.more (t.compare p.0) a t.none) (in_expr p.1.node)

same_element : (v : VariableDef) → element_tree (unlocated_element v) ≡ variable_def_tree v
same_element v = ap₂ (λ (a b : Rest). t.variable_def v.variable.node a b (comparison_of (option_map unlocated_constraint v.ineq))) (same_type v.unused_type_name) (same_entity v.entity_type)
    ∙ ap (λ c. t.variable_def v.variable.node (optional (option_map (tree_at name_tree) v.unused_type_name)) (optional (option_map (tree_at add_tree) v.entity_type)) c) (same_against v.ineq)

same_clause : (c : Cond) → clause_tree (unlocated_clause c) ≡ cond_tree c
same_clause c = body c.expr
  where
    body : (o : Option (Cell Expr)) → clause_with c.cond.node (option_map (λ n. bare_cell unlocated_expr n) o) ≡ condition_tree c.cond.node o
    body None = refl
    body (Some n) = ap (λ a. t.condition c.cond.node a) (in_expr n.node)

in_cell : {X F : Type 0} (bare : X → F) (tree : F → Tree) (own : X → Tree) → ((x : X) → tree (bare x) ≡ own x) → (o : Option X) → or_missing (option_map tree (option_map bare o)) ≡ or_missing (option_map own o)
in_cell bare tree own e None = refl
in_cell bare tree own e (Some x) = e x

same_cells : {X F : Type 0} (bare : X → F) (tree : F → Tree) (own : X → Tree) → ((x : X) → tree (bare x) ≡ own x) → (cs : List (Cell X)) → rest_cells tree (bare_cells bare cs) ≡ rest_behind beside (map (unplaced_node own) cs)
same_cells bare tree own e [] = refl
same_cells bare tree own e (c ∷ cs) = ap₂ (λ (a : Tree) (r : Rest). t.more beside a r) (in_cell bare tree own e c.node) (same_cells bare tree own e cs)

pub same_policy : (p : Policy) → bare_tree (unlocated_policy p) ≡ policy_tree p
same_policy (pol.Policy p) =
    ap₂ (λ (a b : Rest). t.policy a p.effect.node b (rest_cells clause_tree (bare_cells unlocated_clause p.conds))) (same_cells unlocated_annotation annotation_tree annotation_tree same_annotation p.annotations) (same_cells unlocated_element element_tree variable_def_tree same_element p.variables)
    ∙ ap (λ c. t.policy (rest_behind beside (map (unplaced_node annotation_tree) p.annotations)) p.effect.node (rest_behind beside (map (unplaced_node variable_def_tree) p.variables)) c) (same_cells unlocated_clause clause_tree cond_tree same_clause p.conds)

-- ---- each rule

primary_prints : (src : List ℕ) (ts : List Lexeme) (x : Primary) → ReadsPrimary src ts x → AllSpelled ts → PrintsAgain ReadsPrimary unlocated_primary primary_tree x
unfolding primary_tree
primary_prints src ts x r s = let h = primary_again leaves r s in record { words = h.words; spelled = h.spelled; prints = h.prints ∙ ap printed (same_form (primary_form x)); again = h.again }

ref_prints : (src : List ℕ) (ts : List Lexeme) (x : Ref) → ReadsRef src ts x → AllSpelled ts → PrintsAgain ReadsRef unlocated_ref ref_tree x
ref_prints src ts x r s = let h = ref_again r s in record { words = h.words; spelled = h.spelled; prints = h.prints ∙ ap printed (same_ref (Some x)); again = h.again }

name_prints : (src : List ℕ) (ts : List Lexeme) (x : Name) → ReadsName src ts x → AllSpelled ts → PrintsAgain ReadsName unlocated_name name_tree x
name_prints src ts x r s = let h = name_again r s in record { words = h.words; spelled = h.spelled; prints = h.prints ∙ ap printed (same_name (Some x)); again = h.again }

ident_prints : (src : List ℕ) (ts : List Lexeme) (x : Ident) → ReadsIdent src ts x → AllSpelled ts → PrintsAgain ReadsIdent unlocated_ident ident_tree x
unfolding printed
ident_prints src ts x r s = let h = any_again r s in record { words = h.words; spelled = h.spelled; prints = h.prints; again = λ src us e. let a = h.again src us e in record { tree = a.tree; reads = a.reads; same = a.same } }

pub policy_prints : (src : List ℕ) (ts : List Lexeme) (x : Policy) → ReadsPolicy src ts x → AllSpelled ts → PrintsAgain ReadsPolicy unlocated_policy policy_tree x
policy_prints src ts x r s = let h = policy_again src ts x r s in record { words = h.words; spelled = h.spelled; prints = h.prints ∙ ap printed (same_policy x); again = h.again }

policies_print : (src : List ℕ) (ts : List Lexeme) (x : Policies) → ReadsPolicies src ts x → AllSpelled ts → PrintsAgain ReadsPolicies unlocated_policies policies_tree x
unfolding printed
policies_print src ts x r s = let h = policies_again r s in record { words = h.words; spelled = h.spelled; prints = h.prints ∙ ap (λ r. printed (t.policies r)) (same_cells unlocated_policy bare_tree policy_tree same_policy x.0); again = h.again }

-- ---- the law

node_is : {T F : Type 0} (R : Rule T) (bare : T → F) (tree : T → Tree) → HasOneTree R → ((src : List ℕ) (ts : List Lexeme) (x : T) → R src ts x → AllSpelled ts → PrintsAgain R bare tree x)
    → (text : List ℕ) (ts : List Lexeme) (x : T) → R text ts x → AllSpelled ts → HasSameTree R bare (placed_or_start text ts x) (tokens_text (printed (tree x)))
node_is {T = T} R bare tree one each text ts x r s =
    let h = each text ts x r s in
    let target = tokens_text (printed (tree x)) in
    let us = tokens_from 0 h.words in
    let cut : Cuts target us = subst (λ u. Cuts u us) (ap tokens_text h.prints) (words_cut h.words h.spelled) in
    let a = h.again target us (words_are 0 h.words) in
    record {
      again = placed_or_start target us a.tree;
      stands = record { tokens = us; cut = cut; stands = record { tree = a.tree; reads = a.reads; is = refl } };
      same = placed_same target text us ts a.tree a.same;
      only = λ other o. other_is target us a.tree a.reads cut other o;
    }
  where
    placed_same : (src own : List ℕ) (us ts : List Lexeme) (y : T) → bare y ≡ bare x → SameUpToPlaces bare (placed_or_start src us y) (placed_or_start own ts x)
    placed_same src own [] [] y e = ap Some e
    placed_same src own [] (v ∷ vs) y e = ap Some e
    placed_same src own (u ∷ us) [] y e = ap Some e
    placed_same src own (u ∷ us) (v ∷ vs) y e = ap Some e

    other_is : (target : List ℕ) (us : List Lexeme) (y : T) → R target us y → Cuts target us → (other : Cell T) → IsTreeOf R target other → other ≡ placed_or_start target us y
    other_is target us y q cut other o =
        let same : o.tokens ≡ us = one_cut target o.tokens us o.cut cut in
        let tree : o.stands.tree ≡ y = one target us o.stands.tree y (subst (λ vs. R target vs o.stands.tree) same o.stands.reads) q in
        o.stands.is ∙ ap₂ (λ (vs : List Lexeme) (z : T). placed_or_start target vs z) same tree

law_of : {T F : Type 0} (R : Rule T) (bare : T → F) (tree : T → Tree) → HasOneTree R → ((src : List ℕ) (ts : List Lexeme) (x : T) → R src ts x → AllSpelled ts → PrintsAgain R bare tree x) → PrintLaw R bare tree
law_of {T = T} R bare tree one each text node g =
    subst (λ n. HasSameTree R bare n (node_text tree n)) (sym g.stands.is) (here text g.tokens g.stands.tree (node_is R bare tree one each text g.tokens g.stands.tree g.stands.reads (all_spelled g.cut)))
  where
    here : (text : List ℕ) (ts : List Lexeme) (x : T) → HasSameTree R bare (placed_or_start text ts x) (tokens_text (printed (tree x))) → HasSameTree R bare (placed_or_start text ts x) (node_text tree (placed_or_start text ts x))
    here text [] x h = h
    here text (u ∷ us) x h = h

pub expressions : HasOneTree ReadsExpr → PrintLaw ReadsExpr unlocated_expr expr_tree
expressions one = law_of ReadsExpr unlocated_expr expr_tree one expr_prints_again

pub primaries : HasOneTree ReadsPrimary → PrintLaw ReadsPrimary unlocated_primary primary_tree
primaries one = law_of ReadsPrimary unlocated_primary primary_tree one primary_prints

pub entity_literals : HasOneTree ReadsRef → PrintLaw ReadsRef unlocated_ref ref_tree
entity_literals one = law_of ReadsRef unlocated_ref ref_tree one ref_prints

pub names : HasOneTree ReadsName → PrintLaw ReadsName unlocated_name name_tree
names one = law_of ReadsName unlocated_name name_tree one name_prints

pub identifiers : HasOneTree ReadsIdent → PrintLaw ReadsIdent unlocated_ident ident_tree
identifiers one = law_of ReadsIdent unlocated_ident ident_tree one ident_prints

pub single_policies : HasOneTree ReadsPolicy → PrintLaw ReadsPolicy unlocated_policy policy_tree
single_policies one = law_of ReadsPolicy unlocated_policy policy_tree one policy_prints

pub policies : HasOneTree ReadsPolicies → PrintLaw ReadsPolicies unlocated_policies policies_tree
policies one = law_of ReadsPolicies unlocated_policies policies_tree one policies_print
