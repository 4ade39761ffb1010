-- The tokens of an expression reach the depth of its tree.
use Rattle.std.proofs.Common.{◌≡◌, ℕ, ◌+◌, ◌≤◌, max, List, [], ◌∷◌, ◌++◌, map, Option, Some, None, refl, sym, ap, ◌∙◌, subst, append_assoc, arith}
use Rattle.cedar_lexer.specs.Token.{Lexeme}
use Rattle.cedar_lexer.specs.declared.token.TokenKind.{TokenKind}
use Rattle.cedar_lexer.specs.declared.token.TokenKind.TheVariants as kind
use Rattle.cedar_expressions.specs.declared.operators.AddOp.{AddOp}
use Rattle.cedar_syntax.specs.declared.cst.Expr.{Expr}
use Rattle.cedar_syntax.specs.declared.cst.Or.{Or, out-roll-Or}
use Rattle.cedar_syntax.specs.declared.cst.And.{And}
use Rattle.cedar_syntax.specs.declared.cst.RelOp.{RelOp}
use Rattle.cedar_syntax.specs.declared.cst.Relation.{Relation}
use Rattle.cedar_syntax.specs.declared.cst.Add.{Add, out-roll-Add}
use Rattle.cedar_syntax.specs.declared.cst.MultOp.{MultOp}
use Rattle.cedar_syntax.specs.declared.cst.Mult.{Mult, out-roll-Mult}
use Rattle.cedar_syntax.specs.declared.cst.Unary.{Unary, out-roll-Unary}
use Rattle.cedar_syntax.specs.declared.cst.NegOp.{NegOp}
use Rattle.cedar_syntax.specs.declared.cst.Member.{Member}
use Rattle.cedar_syntax.specs.declared.cst.MemAccess.{MemAccess}
use Rattle.cedar_syntax.specs.declared.cst.Primary.{Primary}
use Rattle.cedar_syntax.specs.declared.cst.Literal.{Literal}
use Rattle.cedar_syntax.specs.declared.cst.Name.{Name}
use Rattle.cedar_syntax.specs.declared.cst.Ref.{Ref}
use Rattle.cedar_syntax.specs.declared.cst.RefInit.{RefInit}
use Rattle.cedar_syntax.specs.declared.cst.Slot.{Slot}
use Rattle.cedar_syntax.specs.declared.cst.Ident.{Ident}
use Rattle.cedar_syntax.specs.declared.cst.Ident.TheVariants as ident
use Rattle.cedar_syntax.specs.declared.cst.RecInit.{RecInit}
use Rattle.cedar_grammar.specs.grammar.LooseExpressions.{ReadsSigns, one_sign, more_signs, ReadsAddOp, plus, minus, ReadsRelOp, less, less_eq, greater_eq, greater, not_eq, equal, within, single_eq, ReadsMultOp, times, divide, modulo, ReadsSlot, principal_slot, resource_slot, other_slot, if_name, lone_add, lone_expr, ReadsExpr, or_expr, if_expr, ReadsOr, or, ReadsAnds, one_and, more_and, ReadsAnd, and, ReadsRelations, one_relation, more_relation, ReadsRelation, common, has, has_if, like, is, is_in, ReadsAdds, one_add, more_add, ReadsAdd, add, ReadsMults, one_mult, more_mult, ReadsMult, mult, ReadsUnaries, one_unary, more_unary, ReadsUnary, plain, banged, dashed, ReadsMember, member, ReadsAccesses, no_access, more_access, ReadsAccess, field, call, index, ReadsPrimary, literally, referred, named, slotted, paren, set, in_braces, ReadsExprs, no_expr, exprs, exprs_comma, ReadsExprItems, one_expr, more_exprs, ReadsRecInits, no_init, inits, inits_comma, ReadsInitItems, one_init, more_inits, ReadsRecInit, rec_init, if_init}
use Rattle.cedar_grammar.specs.grammar.LooseWords.{ReadsItems, one_item, more_items, ReadsList, no_item, items, items_comma, ReadsLiteral, truth, falsity, number, string, ReadsAny, any, ReadsPath, one_word, more_words, ReadsName, common as common_name, qualified, ReadsRefInit, ref_init, ReadsRef, uid, with_inits}
use Rattle.cedar_grammar.specs.grammar.Place.{placed}
use Rattle.cedar_syntax.specs.tokens.Tokens.{Spot, one}
use Rattle.cedar_syntax.specs.trees.Tree as t
use Rattle.cedar_syntax.specs.trees.Tree.{Tree, Operator, disjunction, sum, product, beside as next_to, or_or, and_and}
use Rattle.cedar_syntax.specs.trees.Trees.{Cell, expr_of, or_of, and_of, common_of, add_of, mult_of, unary_of, member_of, rec_init_of, name_of, bangs_of, dashes_of}
use Rattle.cedar_syntax.specs.trees.Unplaced.{expr_tree, access_tree, primary_tree, relation_tree, add_tree, and_tree, member_tree, mult_tree, or_tree, init_tree, unary_tree, literal_tree, ref_tree, unplaced_node, content, tree_at, rest_behind, rest_of, rel_part, add_part, mult_part, unplaced_relation_part, unplaced_sum_part, unplaced_product_part}
use Rattle.cedar_syntax.proofs.Levels.{or_out, and_out, add_out, mult_out, unary_out, member_out, init_out, relation_common, relation_has, relation_like, relation_is, relation_is_in, access_field, access_call, access_index, primary_literal, primary_ref, primary_name, primary_slot, primary_expr, primary_list, primary_inits}
use Rattle.cedar_grammar.proofs.MadeExpressions.{expr_tree_made, if_tree_made}
use Rattle.cedar_text.specs.TreeDepth.{tree_depth, rest_depth}
use Rattle.cedar_text.proofs.Spanning.{Spans, Keeps, Opens, Closes, lower, nothing_spans, token_spans, beside, followed, led, joined_by, deeper, bracketed, any_keeps}

-- ---- tokens

pub stays : (depth : ℕ) → depth ≤ depth
stays depth = omega arith

rises : (depth : ℕ) → depth ≤ depth + 1
rises depth = omega arith

pub comparison_keeps : {k : TokenKind} {o : RelOp} → ReadsRelOp k o → Keeps k
comparison_keeps less = stays
comparison_keeps less_eq = stays
comparison_keeps greater_eq = stays
comparison_keeps greater = stays
comparison_keeps not_eq = stays
comparison_keeps equal = stays
comparison_keeps within = stays
comparison_keeps single_eq = stays

sum_keeps : {k : TokenKind} {o : AddOp} → ReadsAddOp k o → Keeps k
sum_keeps plus = stays
sum_keeps minus = stays

product_keeps : {k : TokenKind} {o : MultOp} → ReadsMultOp k o → Keeps k
product_keeps times = stays
product_keeps divide = stays
product_keeps modulo = stays

slot_keeps : {k : TokenKind} {text : List ℕ} {x : Slot} → ReadsSlot k text x → Keeps k
slot_keeps principal_slot = stays
slot_keeps resource_slot = stays
slot_keeps other_slot = stays

-- ---- words

pub any_spans : {ts : List Lexeme} {i : Ident} → ReadsAny ts i → Spans ts 0
any_spans (any {k = k} {i = i} p e) = token_spans k p (any_keeps k p.text i e)

literal_spans : {src : List ℕ} {ts : List Lexeme} {x : Literal} → ReadsLiteral src ts x → Spans ts 0
literal_spans (truth p) = token_spans kind.True p stays
literal_spans (falsity p) = token_spans kind.False p stays
literal_spans (number p f) = token_spans kind.Number p stays
literal_spans (string p) = token_spans kind.StringLit p stays

path_spans : {src : List ℕ} {ts : List Lexeme} {xs : List (Cell Ident)} {x : Cell Ident} → ReadsPath src ts xs x → Spans ts 0
path_spans (one_word r) = any_spans r
path_spans (more_words p r s) = joined_by kind.ColonColon p stays (path_spans r) (any_spans s)

pub name_spans : {src : List ℕ} {ts : List Lexeme} {x : Name} → ReadsName src ts x → Spans ts 0
name_spans (common_name r c) = any_spans r
name_spans (qualified p r s) = joined_by kind.ColonColon p stays (path_spans r) (any_spans s)

ref_init_spans : {src : List ℕ} {ts : List Lexeme} {x : RefInit} → ReadsRefInit src ts x → Spans ts 0
ref_init_spans (ref_init p r s) = joined_by kind.Colon p stays (any_spans r) (literal_spans s)

ref_init_items_span : {src : List ℕ} {ts : List Lexeme} {xs : List (Cell RefInit)} → ReadsItems src (ReadsRefInit src) ts xs → Spans ts 0
ref_init_items_span (one_item r) = ref_init_spans r
ref_init_items_span (more_items p r s) = joined_by kind.Comma p stays (ref_init_items_span r) (ref_init_spans s)

ref_inits_span : {src : List ℕ} {ts : List Lexeme} {xs : List (Cell RefInit)} → ReadsList src (ReadsRefInit src) ts xs → Spans ts 0
ref_inits_span no_item = nothing_spans
ref_inits_span (items r) = ref_init_items_span r
ref_inits_span (items_comma p r) = followed kind.Comma p stays (ref_init_items_span r)

regrouped : (ts us vs ws : List Lexeme) → ts ++ us ++ vs ++ ws ≡ ts ++ (us ++ vs ++ ws)
regrouped ts us vs ws = ap (λ xs. xs ++ ws) (append_assoc ts us vs) ∙ append_assoc ts (us ++ vs) ws

-- brackets behind other tokens
pub behind : {ts us : List Lexeme} {n m : ℕ} (k j : TokenKind) (l r : Spot) → Opens k → Closes j → Spans ts n → Spans us m →
    Spans (ts ++ one k l ++ us ++ one j r) (max n (m + 1))
behind {ts} {us} {n} {m} k j l r opens closes a b =
    subst (λ ws. Spans ws (max n (m + 1))) (sym (regrouped ts (one k l) us (one j r))) (beside a (bracketed k j l r opens closes b))

ref_spans : {src : List ℕ} {ts : List Lexeme} {x : Ref} → ReadsRef src ts x → Spans ts (tree_depth (ref_tree x))
ref_spans (uid p q r) = followed kind.StringLit q stays (followed kind.ColonColon p stays (path_spans r))
ref_spans (with_inits p l m r s) =
    lower (behind kind.OpenBrace kind.CloseBrace l m (λ depth. refl) (λ depth. refl) (followed kind.ColonColon p stays (path_spans r)) (ref_inits_span s)) (omega arith)

literal_reaches : {src : List ℕ} {ts : List Lexeme} {x : Literal} → ReadsLiteral src ts x → Spans ts (tree_depth (literal_tree x))
literal_reaches (truth p) = token_spans kind.True p stays
literal_reaches (falsity p) = token_spans kind.False p stays
literal_reaches (number p f) = token_spans kind.Number p stays
literal_reaches (string p) = token_spans kind.StringLit p stays

signs_span : {k : TokenKind} {ts : List Lexeme} {n : ℕ} → Keeps k → ReadsSigns k ts n → Spans ts 0
signs_span {k} keeps (one_sign p) = token_spans k p keeps
signs_span {k} keeps (more_signs p r) = followed k p keeps (signs_span keeps r)

-- ---- trees

held : {ts : List Lexeme} {t u : Tree} → t ≡ u → Spans ts (tree_depth u) → Spans ts (tree_depth t)
held {ts} e s = subst (λ t. Spans ts (tree_depth t)) (sym e) s

-- one part more
pub rest_snoc : {A B : Type 0} (g : B → Operator × Tree) (h : A → B) (xs : List A) (x : A) →
    rest_depth (rest_of (map g (map h (xs ++ x ∷ [])))) ≡ max (rest_depth (rest_of (map g (map h xs)))) (tree_depth (g (h x)).1)
rest_snoc g h [] x = omega arith
rest_snoc g h (y ∷ xs) x = let more = rest_snoc g h xs x in omega (arith, more)

pub one_more : {A B : Type 0} {ts : List Lexeme} (g : B → Operator × Tree) (h : A → B) (xs : List A) (x : A) →
    Spans ts (max (rest_depth (rest_of (map g (map h xs)))) (tree_depth (g (h x)).1)) → Spans ts (rest_depth (rest_of (map g (map h (xs ++ x ∷ [])))))
one_more {ts = ts} g h xs x s = subst (λ n. Spans ts n) (sym (rest_snoc g h xs x)) s

pub first_only : {ts : List Lexeme} {n : ℕ} → Spans ts n → Spans ts (max n 0)
first_only s = lower s (omega arith)

one_further : {A B : Type 0} {ts : List Lexeme} (first : ℕ) (g : B → Operator × Tree) (h : A → B) (xs : List A) (x : A) →
    Spans ts (max (max first (rest_depth (rest_of (map g (map h xs))))) (tree_depth (g (h x)).1)) → Spans ts (max first (rest_depth (rest_of (map g (map h (xs ++ x ∷ []))))))
one_further first g h xs x s = let e = rest_snoc g h xs x in lower s (omega (arith, e))

or_is : (x : Cell And) (xs : List (Cell And)) → or_tree (or_of x xs) ≡ t.chain disjunction (tree_at and_tree x) (rest_behind or_or (map (unplaced_node and_tree) xs))
or_is x xs = or_out (or_of x xs) ∙ ap (λ r. t.chain disjunction (tree_at and_tree r.initial) (rest_behind or_or (map (unplaced_node and_tree) r.extended))) (out-roll-Or record { initial = x; extended = xs })

add_is : (x : Cell Mult) (xs : List (AddOp × Cell Mult)) → add_tree (add_of x xs) ≡ t.chain sum (tree_at mult_tree x) (rest_of (map add_part (map unplaced_sum_part xs)))
add_is x xs = add_out (add_of x xs) ∙ ap (λ r. t.chain sum (tree_at mult_tree r.initial) (rest_of (map add_part (map unplaced_sum_part r.extended)))) (out-roll-Add record { initial = x; extended = xs })

mult_is : (x : Cell Unary) (xs : List (MultOp × Cell Unary)) → mult_tree (mult_of x xs) ≡ t.chain product (tree_at unary_tree x) (rest_of (map mult_part (map unplaced_product_part xs)))
mult_is x xs = mult_out (mult_of x xs) ∙ ap (λ r. t.chain product (tree_at unary_tree r.initial) (rest_of (map mult_part (map unplaced_product_part r.extended)))) (out-roll-Mult record { initial = x; extended = xs })

unary_is : (o : Option NegOp) (x : Cell Member) → unary_tree (unary_of o x) ≡ t.unary o (tree_at member_tree x)
unary_is o x = unary_out (unary_of o x) ∙ ap (λ r. t.unary r.op (tree_at member_tree r.item)) (out-roll-Unary record { op = o; item = x })

-- a member alone
lone_add_depth : (src : List ℕ) (ts : List Lexeme) (x : Member) → tree_depth (add_tree (lone_add src ts x)) ≡ tree_depth (member_tree x)
lone_add_depth src ts x =
    let u : Cell Unary = placed src ts (unary_of None (placed src ts x)) in
    let m : Cell Mult = placed src ts (mult_of u []) in
    let a : tree_depth (add_tree (add_of m [])) ≡ max (tree_depth (mult_tree (mult_of u []))) 0 = ap tree_depth (add_is m []) in
    let b : tree_depth (mult_tree (mult_of u [])) ≡ max (tree_depth (unary_tree (unary_of None (placed src ts x)))) 0 = ap tree_depth (mult_is u []) in
    let c : tree_depth (unary_tree (unary_of None (placed src ts x))) ≡ tree_depth (member_tree x) = ap tree_depth (unary_is None (placed src ts x)) in
    omega (arith, a, b, c)

lone_expr_depth : (src : List ℕ) (ts : List Lexeme) (x : Member) → tree_depth (expr_tree (lone_expr src ts x)) ≡ tree_depth (member_tree x)
lone_expr_depth src ts x =
    let a : Cell Add = placed src ts (lone_add src ts x) in
    let r : Cell Relation = placed src ts (common_of a []) in
    let n : Cell And = placed src ts (and_of r []) in
    let first : tree_depth (expr_tree (expr_of (placed src ts (or_of n [])))) ≡ tree_depth (or_tree (or_of n [])) = ap tree_depth (expr_tree_made (placed src ts (or_of n []))) in
    let second : tree_depth (or_tree (or_of n [])) ≡ max (tree_depth (and_tree (and_of r []))) 0 = ap tree_depth (or_is n []) in
    let third : tree_depth (and_tree (and_of r [])) ≡ max (tree_depth (relation_tree (common_of a []))) 0 = ap tree_depth (and_out (and_of r [])) in
    let fourth : tree_depth (relation_tree (common_of a [])) ≡ max (tree_depth (add_tree (lone_add src ts x))) 0 = ap tree_depth (relation_common a []) in
    let last = lone_add_depth src ts x in
    omega (arith, first, second, third, fourth, last)

-- the word `if` as a name, and its accesses
if_member_depth : (src : List ℕ) (p : Spot) (xs : List (Cell MemAccess)) → tree_depth (member_tree (member_of (placed src (one kind.If p) (if_name src p)) xs)) ≡ rest_depth (rest_behind next_to (map (unplaced_node access_tree) xs))
if_member_depth src p xs =
    let m : Member = member_of (placed src (one kind.If p) (if_name src p)) xs in
    let accesses = rest_depth (rest_behind next_to (map (unplaced_node access_tree) xs)) in
    let a : tree_depth (member_tree m) ≡ max (tree_depth (primary_tree (if_name src p))) accesses = ap tree_depth (member_out m) in
    let b : tree_depth (primary_tree (if_name src p)) ≡ 0 = ap tree_depth (primary_name (placed src (one kind.If p) (name_of [] (placed src (one kind.If p) ident.If)))) in
    omega (arith, a, b)

-- ---- each rule

mutual
  pub expr_spans : {src : List ℕ} {ts : List Lexeme} {x : Expr} → ReadsExpr src ts x → Spans ts (tree_depth (expr_tree x))
  expr_spans {src = src} (or_expr {ts = ts} {x = x} r) = held (expr_tree_made (placed src ts x)) (or_spans r)
  expr_spans {src = src} (if_expr {ts = ts} {us = us} {vs = vs} {c = c} {x = x} {y = y} l m n r s t) =
      held (if_tree_made (placed src ts c) (placed src us x) (placed src vs y))
      (deeper kind.If l (λ depth. refl) (joined_by kind.Else n stays (joined_by kind.Then m stays (expr_spans r) (expr_spans s)) (expr_spans t)))

  or_spans : {src : List ℕ} {ts : List Lexeme} {x : Or} → ReadsOr src ts x → Spans ts (tree_depth (or_tree x))
  or_spans (or {x = x} {xs = xs} r) = held (or_is x xs) (ands_span r)

  ands_span : {src : List ℕ} {ts : List Lexeme} {x : Cell And} {xs : List (Cell And)} → ReadsAnds src ts x xs → Spans ts (max (tree_depth (tree_at and_tree x)) (rest_depth (rest_behind or_or (map (unplaced_node and_tree) xs))))
  ands_span (one_and r) = first_only (and_spans r)
  ands_span {src = src} (more_and {us = us} {x = x} {y = y} {xs = xs} p r s) =
      one_further (tree_depth (tree_at and_tree x)) (λ n. (or_or, content n)) (unplaced_node and_tree) xs (placed src us y) (joined_by kind.OrOr p stays (ands_span r) (and_spans s))

  and_spans : {src : List ℕ} {ts : List Lexeme} {x : And} → ReadsAnd src ts x → Spans ts (tree_depth (and_tree x))
  and_spans (and {x = x} {xs = xs} r) = held (and_out (and_of x xs)) (relations_span r)

  relations_span : {src : List ℕ} {ts : List Lexeme} {x : Cell Relation} {xs : List (Cell Relation)} → ReadsRelations src ts x xs → Spans ts (max (tree_depth (tree_at relation_tree x)) (rest_depth (rest_behind and_and (map (unplaced_node relation_tree) xs))))
  relations_span (one_relation r) = first_only (relation_spans r)
  relations_span {src = src} (more_relation {us = us} {x = x} {y = y} {xs = xs} p r s) =
      one_further (tree_depth (tree_at relation_tree x)) (λ n. (and_and, content n)) (unplaced_node relation_tree) xs (placed src us y) (joined_by kind.AndAnd p stays (relations_span r) (relation_spans s))

  relation_spans : {src : List ℕ} {ts : List Lexeme} {x : Relation} → ReadsRelation src ts x → Spans ts (tree_depth (relation_tree x))
  relation_spans (common {x = x} {xs = xs} r) = held (relation_common x xs) (adds_span r)
  relation_spans {src = src} (has {ts = ts} {us = us} {x = x} {y = y} p r s) =
      held (relation_has (placed src ts x) (placed src us y)) (joined_by kind.Has p stays (add_spans r) (add_spans s))
  relation_spans {src = src} (has_if {ts = ts} {us = us} {x = x} {xs = xs} p q r s) =
      let whole = one kind.If q ++ us in
      let m : Member = member_of (placed src (one kind.If q) (if_name src q)) xs in
      let a = lone_add_depth src whole m in
      let b = if_member_depth src q xs in
      let accesses = rest_depth (rest_behind next_to (map (unplaced_node access_tree) xs)) in
      let low : max (tree_depth (add_tree x)) (tree_depth (add_tree (lone_add src whole m))) ≤ max (tree_depth (add_tree x)) accesses = omega (arith, a, b) in
      held (relation_has (placed src ts x) (placed src whole (lone_add src whole m)))
      (lower (joined_by kind.Has p stays (add_spans r) (led kind.If q rises (accesses_span s))) low)
  relation_spans {src = src} (like {ts = ts} {us = us} {x = x} {y = y} p r s) =
      held (relation_like (placed src ts x) (placed src us y)) (joined_by kind.Like p stays (add_spans r) (add_spans s))
  relation_spans {src = src} (is {ts = ts} {us = us} {x = x} {y = y} p r s) =
      held (relation_is (placed src ts x) (placed src us y)) (joined_by kind.Is p stays (add_spans r) (add_spans s))
  relation_spans {src = src} (is_in {ts = ts} {us = us} {vs = vs} {x = x} {y = y} {z = z} p q r s t) =
      held (relation_is_in (placed src ts x) (placed src us y) (placed src vs z))
      (joined_by kind.In q stays (joined_by kind.Is p stays (add_spans r) (add_spans s)) (add_spans t))

  adds_span : {src : List ℕ} {ts : List Lexeme} {x : Cell Add} {xs : List (RelOp × Cell Add)} → ReadsAdds src ts x xs → Spans ts (max (tree_depth (tree_at add_tree x)) (rest_depth (rest_of (map rel_part (map unplaced_relation_part xs)))))
  adds_span (one_add r) = first_only (add_spans r)
  adds_span {src = src} (more_add {us = us} {k = k} {o = o} {x = x} {y = y} {xs = xs} p r q s) =
      one_further (tree_depth (tree_at add_tree x)) rel_part unplaced_relation_part xs (o, placed src us y) (joined_by k p (comparison_keeps q) (adds_span r) (add_spans s))

  pub add_spans : {src : List ℕ} {ts : List Lexeme} {x : Add} → ReadsAdd src ts x → Spans ts (tree_depth (add_tree x))
  add_spans (add {x = x} {xs = xs} r) = held (add_is x xs) (mults_span r)

  mults_span : {src : List ℕ} {ts : List Lexeme} {x : Cell Mult} {xs : List (AddOp × Cell Mult)} → ReadsMults src ts x xs → Spans ts (max (tree_depth (tree_at mult_tree x)) (rest_depth (rest_of (map add_part (map unplaced_sum_part xs)))))
  mults_span (one_mult r) = first_only (mult_spans r)
  mults_span {src = src} (more_mult {us = us} {k = k} {o = o} {x = x} {y = y} {xs = xs} p r q s) =
      one_further (tree_depth (tree_at mult_tree x)) add_part unplaced_sum_part xs (o, placed src us y) (joined_by k p (sum_keeps q) (mults_span r) (mult_spans s))

  mult_spans : {src : List ℕ} {ts : List Lexeme} {x : Mult} → ReadsMult src ts x → Spans ts (tree_depth (mult_tree x))
  mult_spans (mult {x = x} {xs = xs} r) = held (mult_is x xs) (unaries_span r)

  unaries_span : {src : List ℕ} {ts : List Lexeme} {x : Cell Unary} {xs : List (MultOp × Cell Unary)} → ReadsUnaries src ts x xs → Spans ts (max (tree_depth (tree_at unary_tree x)) (rest_depth (rest_of (map mult_part (map unplaced_product_part xs)))))
  unaries_span (one_unary r) = first_only (unary_spans r)
  unaries_span {src = src} (more_unary {us = us} {k = k} {o = o} {x = x} {y = y} {xs = xs} p r q s) =
      one_further (tree_depth (tree_at unary_tree x)) mult_part unplaced_product_part xs (o, placed src us y) (joined_by k p (product_keeps q) (unaries_span r) (unary_spans s))

  unary_spans : {src : List ℕ} {ts : List Lexeme} {x : Unary} → ReadsUnary src ts x → Spans ts (tree_depth (unary_tree x))
  unary_spans {src = src} (plain {ts = ts} {x = x} r) = held (unary_is None (placed src ts x)) (member_spans r)
  unary_spans {src = src} (banged {us = us} {n = n} {x = x} b r) =
      held (unary_is (Some (bangs_of n)) (placed src us x)) (lower (beside (signs_span stays b) (member_spans r)) (omega arith))
  unary_spans {src = src} (dashed {us = us} {n = n} {x = x} b r) =
      held (unary_is (Some (dashes_of n)) (placed src us x)) (lower (beside (signs_span stays b) (member_spans r)) (omega arith))

  member_spans : {src : List ℕ} {ts : List Lexeme} {x : Member} → ReadsMember src ts x → Spans ts (tree_depth (member_tree x))
  member_spans {src = src} (member {ts = ts} {x = x} {xs = xs} r s) =
      held (member_out (member_of (placed src ts x) xs)) (beside (primary_spans r) (accesses_span s))

  accesses_span : {src : List ℕ} {ts : List Lexeme} {xs : List (Cell MemAccess)} → ReadsAccesses src ts xs → Spans ts (rest_depth (rest_behind next_to (map (unplaced_node access_tree) xs)))
  accesses_span no_access = nothing_spans
  accesses_span {src = src} (more_access {us = us} {xs = xs} {x = x} r s) =
      one_more (λ n. (next_to, content n)) (unplaced_node access_tree) xs (placed src us x) (beside (accesses_span r) (access_spans s))

  access_spans : {src : List ℕ} {ts : List Lexeme} {x : MemAccess} → ReadsAccess src ts x → Spans ts (tree_depth (access_tree x))
  access_spans {src = src} (field {ts = ts} {i = i} p r) = held (access_field (placed src ts i)) (led kind.Dot p stays (any_spans r))
  access_spans (call {xs = xs} l m r) = held (access_call xs) (bracketed kind.OpenParen kind.CloseParen l m (λ depth. refl) (λ depth. refl) (exprs_span r))
  access_spans {src = src} (index {ts = ts} {x = x} l m r) =
      held (access_index (placed src ts x)) (bracketed kind.OpenBracket kind.CloseBracket l m (λ depth. refl) (λ depth. refl) (expr_spans r))

  pub primary_spans : {src : List ℕ} {ts : List Lexeme} {x : Primary} → ReadsPrimary src ts x → Spans ts (tree_depth (primary_tree x))
  primary_spans {src = src} (literally {ts = ts} {x = x} r) = held (primary_literal (placed src ts x)) (literal_reaches r)
  primary_spans {src = src} (referred {ts = ts} {x = x} r) = held (primary_ref (placed src ts x)) (ref_spans r)
  primary_spans {src = src} (named {ts = ts} {x = x} r) = held (primary_name (placed src ts x)) (name_spans r)
  primary_spans {src = src} (slotted {k = k} {x = x} p r) = held (primary_slot (placed src (one k p) x)) (token_spans k p (slot_keeps r))
  primary_spans {src = src} (paren {ts = ts} {x = x} l m r) =
      held (primary_expr (placed src ts x)) (bracketed kind.OpenParen kind.CloseParen l m (λ depth. refl) (λ depth. refl) (expr_spans r))
  primary_spans (set {xs = xs} l m r) = held (primary_list xs) (bracketed kind.OpenBracket kind.CloseBracket l m (λ depth. refl) (λ depth. refl) (exprs_span r))
  primary_spans (in_braces {xs = xs} l m r) = held (primary_inits xs) (bracketed kind.OpenBrace kind.CloseBrace l m (λ depth. refl) (λ depth. refl) (inits_span r))

  exprs_span : {src : List ℕ} {ts : List Lexeme} {xs : List (Cell Expr)} → ReadsExprs src ts xs → Spans ts (rest_depth (rest_behind next_to (map (unplaced_node expr_tree) xs)))
  exprs_span no_expr = nothing_spans
  exprs_span (exprs r) = expr_items_span r
  exprs_span (exprs_comma p r) = followed kind.Comma p stays (expr_items_span r)

  expr_items_span : {src : List ℕ} {ts : List Lexeme} {xs : List (Cell Expr)} → ReadsExprItems src ts xs → Spans ts (rest_depth (rest_behind next_to (map (unplaced_node expr_tree) xs)))
  expr_items_span (one_expr r) = first_only (expr_spans r)
  expr_items_span {src = src} (more_exprs {us = us} {xs = xs} {y = y} p r s) =
      one_more (λ n. (next_to, content n)) (unplaced_node expr_tree) xs (placed src us y) (joined_by kind.Comma p stays (expr_items_span r) (expr_spans s))

  inits_span : {src : List ℕ} {ts : List Lexeme} {xs : List (Cell RecInit)} → ReadsRecInits src ts xs → Spans ts (rest_depth (rest_behind next_to (map (unplaced_node init_tree) xs)))
  inits_span no_init = nothing_spans
  inits_span (inits r) = init_items_span r
  inits_span (inits_comma p r) = followed kind.Comma p stays (init_items_span r)

  init_items_span : {src : List ℕ} {ts : List Lexeme} {xs : List (Cell RecInit)} → ReadsInitItems src ts xs → Spans ts (rest_depth (rest_behind next_to (map (unplaced_node init_tree) xs)))
  init_items_span (one_init r) = first_only (init_spans r)
  init_items_span {src = src} (more_inits {us = us} {xs = xs} {y = y} p r s) =
      one_more (λ n. (next_to, content n)) (unplaced_node init_tree) xs (placed src us y) (joined_by kind.Comma p stays (init_items_span r) (init_spans s))

  init_spans : {src : List ℕ} {ts : List Lexeme} {x : RecInit} → ReadsRecInit src ts x → Spans ts (tree_depth (init_tree x))
  init_spans {src = src} (rec_init {ts = ts} {us = us} {x = x} {y = y} p r s) =
      held (init_out (rec_init_of (placed src ts x) (placed src us y))) (joined_by kind.Colon p stays (expr_spans r) (expr_spans s))
  init_spans {src = src} (if_init {ts = ts} {y = y} p q r) =
      let m : Member = member_of (placed src (one kind.If p) (if_name src p)) [] in
      let whole = lone_expr src (one kind.If p) m in
      let a = lone_expr_depth src (one kind.If p) m in
      let b : tree_depth (member_tree m) ≡ 0 = if_member_depth src p [] in
      let low : max (tree_depth (expr_tree whole)) (tree_depth (expr_tree y)) ≤ max 0 (tree_depth (expr_tree y)) = omega (arith, a, b) in
      held (init_out (rec_init_of (placed src (one kind.If p) whole) (placed src ts y)))
      (lower (joined_by kind.Colon q stays (token_spans kind.If p rises) (expr_spans r)) low)
