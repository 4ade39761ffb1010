-- The tokens of policies reach the depth of their tree; and what is told of a text is the depth
-- that its tokens reach.
use Rattle.std.proofs.Common.{◌≡◌, ℕ, ◌≤◌, max, List, [], ◌∷◌, ◌++◌, map, Option, Some, None, refl, ap, ◌∙◌, arith}
use Rattle.cedar_lexer.specs.Token.{Lexeme}
use Rattle.cedar_lexer.specs.Cut.{Cuts}
use Rattle.cedar_lexer.specs.declared.token.TokenKind.TheVariants as kind
use Rattle.cedar_lexer.proofs.Cuts.{one_end, nothing_at_end}
use Rattle.cedar_lexer.proofs.Runs.{not_both}
use Rattle.cedar_syntax.specs.declared.cst.Annotation.{Annotation}
use Rattle.cedar_syntax.specs.declared.cst.Cond.{Cond}
use Rattle.cedar_syntax.specs.declared.cst.Expr.{Expr}
use Rattle.cedar_syntax.specs.declared.cst.Name.{Name}
use Rattle.cedar_syntax.specs.declared.cst.Policies.{Policies}
use Rattle.cedar_syntax.specs.declared.cst.Policy.{Policy}
use Rattle.cedar_syntax.specs.declared.cst.Primary.{Primary}
use Rattle.cedar_syntax.specs.declared.cst.RelOp.{RelOp}
use Rattle.cedar_syntax.specs.declared.cst.VariableDef.{VariableDef}
use Rattle.cedar_grammar.specs.grammar.Grammar.{Rule, IsTreeOf}
use Rattle.cedar_grammar.specs.grammar.LooseExpressions.{ReadsExpr, ReadsPrimary}
use Rattle.cedar_grammar.specs.grammar.LoosePolicies.{ReadsMany, none, more, ReadsAnnotation, key_alone, with_value, ReadsTypeName, no_type_name, type_name, no_entity_type, entity_type, ReadsConstraint, no_constraint, constraint, ReadsVariableDef, variable_def, no_body, body, ReadsCond, cond, ReadsPolicy, policy, ReadsPolicies, policies}
use Rattle.cedar_grammar.specs.grammar.LooseWords.{ReadsItems, one_item, more_items, ReadsList, no_item, items, items_comma}
use Rattle.cedar_grammar.specs.grammar.Place.{placed, placed_or_start}
use Rattle.cedar_syntax.specs.tokens.Tokens.{one}
use Rattle.cedar_syntax.specs.trees.Tree.{Tree, beside as next_to}
use Rattle.cedar_syntax.specs.trees.Trees.{Cell}
use Rattle.cedar_syntax.specs.trees.Unplaced.{expr_tree, primary_tree, annotation_tree, variable_def_tree, cond_tree, policy_tree, policies_tree, comparison_rest, unplaced_node, content, tree_at, rest_behind}
use Rattle.cedar_text.specs.Nesting.{deepest, IsNesting}
use Rattle.cedar_text.specs.TreeDepth.{tree_depth, rest_depth}
use Rattle.cedar_text.proofs.Spanning.{Spans, end_depth, deepest_append, end_append, lower, nothing_spans, token_spans, beside, followed, led, joined_by}
use Rattle.cedar_text.proofs.Spanned.{stays, behind, comparison_keeps, any_spans, name_spans, rest_snoc, one_more, first_only, expr_spans, add_spans, primary_spans}

many_span : {T : Type 0} (src : List ℕ) (R : List Lexeme → T → Type 0) (f : T → Tree) → ((ts : List Lexeme) (x : T) → R ts x → Spans ts (tree_depth (f x))) → {ts : List Lexeme} {xs : List (Cell T)} →
    ReadsMany src R ts xs → Spans ts (rest_depth (rest_behind next_to (map (unplaced_node f) xs)))
many_span src R f part none = nothing_spans
many_span src R f part (more {us = us} {xs = xs} {y = y} r s) =
    one_more (λ n. (next_to, content n)) (unplaced_node f) xs (placed src us y) (beside (many_span src R f part r) (part us y s))

items_span : {T : Type 0} (src : List ℕ) (R : List Lexeme → T → Type 0) (f : T → Tree) → ((ts : List Lexeme) (x : T) → R ts x → Spans ts (tree_depth (f x))) → {ts : List Lexeme} {xs : List (Cell T)} →
    ReadsItems src R ts xs → Spans ts (rest_depth (rest_behind next_to (map (unplaced_node f) xs)))
items_span src R f part (one_item {ts = ts} {x = x} r) = first_only (part ts x r)
items_span src R f part (more_items {us = us} {xs = xs} {y = y} p r s) =
    one_more (λ n. (next_to, content n)) (unplaced_node f) xs (placed src us y) (joined_by kind.Comma p stays (items_span src R f part r) (part us y s))

list_spans : {T : Type 0} (src : List ℕ) (R : List Lexeme → T → Type 0) (f : T → Tree) → ((ts : List Lexeme) (x : T) → R ts x → Spans ts (tree_depth (f x))) → {ts : List Lexeme} {xs : List (Cell T)} →
    ReadsList src R ts xs → Spans ts (rest_depth (rest_behind next_to (map (unplaced_node f) xs)))
list_spans src R f part no_item = nothing_spans
list_spans src R f part (items r) = items_span src R f part r
list_spans src R f part (items_comma p r) = followed kind.Comma p stays (items_span src R f part r)

-- ---- a policy's parts

annotation_spans : {src : List ℕ} {ts : List Lexeme} {x : Annotation} → ReadsAnnotation src ts x → Spans ts (tree_depth (annotation_tree x))
annotation_spans (key_alone p r) = led kind.At p stays (any_spans r)
annotation_spans (with_value p l q m r) =
    lower (behind kind.OpenParen kind.CloseParen l m (λ depth. refl) (λ depth. refl) (led kind.At p stays (any_spans r)) (token_spans kind.StringLit q stays)) (omega arith)

type_name_spans : {src : List ℕ} {ts : List Lexeme} {x : Option (Cell Name)} → ReadsTypeName src ts x → Spans ts 0
type_name_spans no_type_name = nothing_spans
type_name_spans (type_name p r) = led kind.Colon p stays (name_spans r)

constraint_spans : {src : List ℕ} {ts : List Lexeme} {x : Option (RelOp × Cell Expr)} → ReadsConstraint src ts x → Spans ts (rest_depth (comparison_rest x))
constraint_spans no_constraint = nothing_spans
constraint_spans (constraint {k = k} p o r) = first_only (led k p (comparison_keeps o) (expr_spans r))

variable_def_spans : {src : List ℕ} {ts : List Lexeme} {x : VariableDef} → ReadsVariableDef src ts x → Spans ts (tree_depth (variable_def_tree x))
variable_def_spans (variable_def r a no_entity_type c) =
    lower (beside (any_spans r) (beside (type_name_spans a) (beside nothing_spans (constraint_spans c)))) (omega arith)
variable_def_spans (variable_def r a (entity_type p b) c) =
    lower (beside (any_spans r) (beside (type_name_spans a) (beside (first_only (led kind.Is p stays (add_spans b))) (constraint_spans c)))) (omega arith)

cond_spans : {src : List ℕ} {ts : List Lexeme} {x : Cond} → ReadsCond src ts x → Spans ts (tree_depth (cond_tree x))
cond_spans (cond l m r no_body) = lower (behind kind.OpenBrace kind.CloseBrace l m (λ depth. refl) (λ depth. refl) (any_spans r) nothing_spans) (omega arith)
cond_spans (cond l m r (body b)) = lower (behind kind.OpenBrace kind.CloseBrace l m (λ depth. refl) (λ depth. refl) (any_spans r) (expr_spans b)) (omega arith)

-- ---- policies: each begins where nothing is open

pub record Whole (ts : List Lexeme) (n : ℕ) : Type 0 where
  pub reaches : n ≤ deepest 0 ts
  pub ends : end_depth 0 ts ≡ 0

policy_reaches : {src : List ℕ} {ts : List Lexeme} {x : Policy} → ReadsPolicy src ts x → Whole ts (tree_depth (policy_tree x))
policy_reaches {src = src} (policy {ts = ts} {us = us} {vs = vs} {ws = ws} l m e a r b c) =
    let front = ts ++ us ++ one kind.OpenParen l ++ vs ++ one kind.CloseParen m ++ ws in
    let spans = beside (behind kind.OpenParen kind.CloseParen l m (λ depth. refl) (λ depth. refl)
    (beside (many_span src (ReadsAnnotation src) annotation_tree (λ ts x r. annotation_spans r) a) (any_spans r))
    (list_spans src (ReadsVariableDef src) variable_def_tree (λ ts x r. variable_def_spans r) b))
    (many_span src (ReadsCond src) cond_tree (λ ts x r. cond_spans r) c) in
    let all = deepest_append 0 front (one kind.Semicolon e) in
    let reached = spans.reaches 0 in
    record {
      reaches = omega (arith, all, reached);
      ends = end_append 0 front (one kind.Semicolon e);
    }

policies_reach : {src : List ℕ} {ts : List Lexeme} {xs : List (Cell Policy)} → ReadsMany src (ReadsPolicy src) ts xs → Whole ts (rest_depth (rest_behind next_to (map (unplaced_node policy_tree) xs)))
policies_reach none = record { reaches = omega arith; ends = refl }
policies_reach {src = src} (more {ts = ts} {us = us} {xs = xs} {y = y} r s) =
    let before = policies_reach r in
    let last = policy_reaches s in
    let all : deepest 0 (ts ++ us) ≡ max (deepest 0 ts) (deepest 0 us) = deepest_append 0 ts us ∙ ap (λ depth. max (deepest 0 ts) (deepest depth us)) before.ends in
    let first = before.reaches in
    let second = last.reaches in
    record {
      reaches = let e = rest_snoc (λ n. (next_to, content n)) (unplaced_node policy_tree) xs (placed src us y) in omega (arith, e, all, first, second);
      ends = end_append 0 ts us ∙ (ap (λ depth. end_depth depth us) before.ends ∙ last.ends);
    }

-- ---- what is told of a text

told : {text : List ℕ} {ts : List Lexeme} {n : ℕ} → Cuts text ts → IsNesting text n → n ≡ deepest 0 ts
told {text} {ts} {n} cut (us, None, same, e) = e ∙ ap (λ ts. deepest 0 ts) (one_end same (nothing_at_end text) cut (nothing_at_end text)).0
told {text} {ts} {n} cut (us, Some place, stop, e) = absurd (not_both text ts us place cut stop)

at_tokens : {T : Type 0} (f : T → Tree) (src : List ℕ) (ts : List Lexeme) (x : T) → tree_at f (placed_or_start src ts x) ≡ f x
at_tokens f src [] x = refl
at_tokens f src (t ∷ ts) x = refl

pub within : {T : Type 0} (R : Rule T) (f : T → Tree) → ((src : List ℕ) (ts : List Lexeme) (x : T) → R src ts x → tree_depth (f x) ≤ deepest 0 ts) →
    (text : List ℕ) (n : ℕ) (node : Cell T) → IsNesting text n → IsTreeOf R text node → tree_depth (tree_at f node) ≤ n
within R f part text n node nests tree =
    let low = part text tree.tokens tree.stands.tree tree.stands.reads in
    let told_depth = told tree.cut nests in
    let same : tree_depth (tree_at f node) ≡ tree_depth (f tree.stands.tree) =
    ap (λ n. tree_depth (tree_at f n)) tree.stands.is ∙ ap tree_depth (at_tokens f text tree.tokens tree.stands.tree) in
    omega (arith, low, told_depth, same)

from_start : {ts : List Lexeme} {n : ℕ} → Spans ts n → n ≤ deepest 0 ts
from_start s = let h = s.reaches 0 in omega (arith, h)

pub expr_within : (src : List ℕ) (ts : List Lexeme) (x : Expr) → ReadsExpr src ts x → tree_depth (expr_tree x) ≤ deepest 0 ts
expr_within src ts x r = from_start (expr_spans r)

pub primary_within : (src : List ℕ) (ts : List Lexeme) (x : Primary) → ReadsPrimary src ts x → tree_depth (primary_tree x) ≤ deepest 0 ts
primary_within src ts x r = from_start (primary_spans r)

pub policy_within : (src : List ℕ) (ts : List Lexeme) (x : Policy) → ReadsPolicy src ts x → tree_depth (policy_tree x) ≤ deepest 0 ts
policy_within src ts x r = (policy_reaches r).reaches

pub policies_within : (src : List ℕ) (ts : List Lexeme) (x : Policies) → ReadsPolicies src ts x → tree_depth (policies_tree x) ≤ deepest 0 ts
policies_within src ts x (policies r) = (policies_reach r).reaches
