-- An expression that is read is read again from its printed words: the induction.
use Rattle.std.proofs.Common.{◌≡◌, ℕ, List, [], ◌∷◌, ◌++◌, Some, None, codes, refl, sym, ap, ap₂, ◌∙◌, subst}
use Rattle.cedar_lexer.specs.Token.{Lexeme}
use Rattle.cedar_lexer.specs.declared.token.TokenKind.TheVariants as kind
use Rattle.cedar_expressions.specs.declared.operators.AddOp.{AddOp}
use Rattle.cedar_syntax.specs.declared.cst.Expr.{Expr}
use Rattle.cedar_syntax.specs.declared.cst.Or.{Or}
use Rattle.cedar_syntax.specs.declared.cst.And.{And}
use Rattle.cedar_syntax.specs.declared.cst.RelOp.{RelOp}
use Rattle.cedar_syntax.specs.declared.cst.Relation.{Relation}
use Rattle.cedar_syntax.specs.declared.cst.Add.{Add}
use Rattle.cedar_syntax.specs.declared.cst.MultOp.{MultOp}
use Rattle.cedar_syntax.specs.declared.cst.Mult.{Mult}
use Rattle.cedar_syntax.specs.declared.cst.Unary.{Unary}
use Rattle.cedar_syntax.specs.declared.cst.Member.{Member}
use Rattle.cedar_syntax.specs.declared.cst.MemAccess.{MemAccess}
use Rattle.cedar_syntax.specs.declared.cst.MemAccess.TheVariants as accesses
use Rattle.cedar_syntax.specs.declared.cst.Primary.{Primary}
use Rattle.cedar_syntax.specs.declared.cst.Primary.TheVariants as primaries
use Rattle.cedar_syntax.specs.declared.cst.Literal.{Literal}
use Rattle.cedar_syntax.specs.declared.cst.Slot.{Slot}
use Rattle.cedar_syntax.specs.declared.cst.Ident.{Ident}
use Rattle.cedar_syntax.specs.declared.cst.Name.{Name}
use Rattle.cedar_syntax.specs.declared.cst.Ref.{Ref}
use Rattle.cedar_syntax.specs.declared.cst.RecInit.{RecInit}
use Rattle.cedar_syntax.specs.trees.Forms.{located, expr_form, or_form, and_form, relation_form, add_form, mult_form, unary_form, member_form, access_form, primary_form, init_form, or_operand, and_operand, relation_operand, add_operand, mult_operand, listed_access}
use Rattle.cedar_grammar.specs.grammar.Grammar.{Rule}
use Rattle.cedar_syntax.specs.trees.Located as f
use Rattle.cedar_syntax.specs.trees.Located.{Located, Form, at}
use Rattle.cedar_grammar.specs.grammar.LooseExpressions as l
use Rattle.cedar_grammar.specs.grammar.LooseExpressions.{ReadsExpr, ReadsOr, ReadsAnds, ReadsAnd, ReadsRelations, ReadsRelation, ReadsAdds, ReadsAdd, ReadsMults, ReadsMult, ReadsUnaries, ReadsUnary, ReadsMember, ReadsAccesses, ReadsAccess, ReadsPrimary, ReadsExprs, ReadsExprItems, ReadsRecInits, ReadsInitItems, ReadsRecInit, lone_add, lone_expr, if_name}
use Rattle.cedar_grammar.specs.grammar.Place.{placed}
use Rattle.cedar_syntax.specs.printing.Printed.{printed}
use Rattle.cedar_syntax.specs.tokens.Tokens.{Spot, one}
use Rattle.cedar_syntax.specs.trees.Tree as t
use Rattle.cedar_syntax.specs.trees.Tree.{disjunction, conjunction, relation, sum, product}
use Rattle.cedar_syntax.specs.trees.Trees.{Cell, bangs_of, dashes_of, expr_of, or_of, and_of, common_of, has_of, add_of, mult_of, unary_of, member_of, rec_init_of}
use Rattle.cedar_syntax.specs.trees.Unlocated.{unlocated, unlocated_form, unlocated_parts, unlocated_literal, unlocated_name, unlocated_ref}
use Rattle.cedar_syntax.specs.trees.Unplaced.{unplaced_tree, unplaced_tree_form}
use Rattle.cedar_syntax.proofs.FormLevels as form
use Rattle.cedar_lexer.specs.Words.{TokenText}
use Rattle.cedar_grammar.proofs.again.Rereading.{AllSpelled, first_half, second_half, left_of, right_of, inside}
use Rattle.cedar_grammar.proofs.again.Chains.{bare, placed_here, bare_row, snoc, snoc_bare, NodeOf, RowOf, first_of_row, next_of_row, ItemsOf, first_of_list, next_of_list, ListOf, no_items, some_items, bare_items, row_first, row_next}
use Rattle.cedar_grammar.proofs.again.Expressions.{word, lifted, chained, or_bare, and_bare, common_bare, add_bare, mult_bare, unary_bare, member_bare, init_bare, only_bare, if_bare, has_bare, like_bare, is_bare, is_in_bare, lone_sum, lone_whole, lone_sum_bare, lone_whole_bare, rel_word, rel_spelled, rel_prints, rel_reads, add_word, add_spelled, add_prints, add_reads, mult_word, mult_spelled, mult_prints, mult_reads, banged, dashed, some_signs, signed}
use Rattle.cedar_grammar.proofs.again.Cases.{Leaves, there, literal_case, name_case, ref_case, slot_case, field_case, call_case, index_case, bare_accesses, AccessesOf, no_accesses, next_access, member_case, paren_case, set_case, braces_case, conditional_case, is_case, is_in_case, has_case, like_case, if_primary, if_name_bare, has_if_case, init_case, if_init_case}

-- ---- what a tree with places is without them, as the forms above have it

node_is : {X Y : Type 0} (S : Rule Y) (fy : Y → Form) (y : Y) (fx : X → Form) (wrap : Located → Form) (src : List ℕ) (ts : List Lexeme) (x : X) → bare fy y ≡ wrap (unlocated (located fx (placed src ts x))) → NodeOf S fy (wrap (at None (bare fx x))) → NodeOf S fy (bare fy y)
node_is S fy y fx wrap src ts x is h = subst (λ a. NodeOf S fy a) (sym (is ∙ ap wrap (placed_here fx src ts x))) h

two_is : {X Y Z : Type 0} (S : Rule Z) (fz : Z → Form) (z : Z) (fx : X → Form) (fy : Y → Form) (wrap : Located → Located → Form) (src : List ℕ) (ts us : List Lexeme) (x : X) (y : Y)
    → bare fz z ≡ wrap (unlocated (located fx (placed src ts x))) (unlocated (located fy (placed src us y))) → NodeOf S fz (wrap (at None (bare fx x)) (at None (bare fy y))) → NodeOf S fz (bare fz z)
two_is S fz z fx fy wrap src ts us x y is h = subst (λ a. NodeOf S fz a) (sym (is ∙ ap₂ wrap (placed_here fx src ts x) (placed_here fy src us y))) h

three_is : {X Z : Type 0} (S : Rule Z) (fz : Z → Form) (z : Z) (fx : X → Form) (wrap : Located → Located → Located → Form) (src : List ℕ) (ts us vs : List Lexeme) (x y w : X)
    → bare fz z ≡ wrap (unlocated (located fx (placed src ts x))) (unlocated (located fx (placed src us y))) (unlocated (located fx (placed src vs w))) → NodeOf S fz (wrap (at None (bare fx x)) (at None (bare fx y)) (at None (bare fx w))) → NodeOf S fz (bare fz z)
three_is S fz z fx wrap src ts us vs x y w is h =
    subst (λ a. NodeOf S fz a) (sym (is ∙ ap₂ (λ (a b : Located). wrap a b (unlocated (located fx (placed src vs w)))) (placed_here fx src ts x) (placed_here fx src us y) ∙ ap (λ c. wrap (at None (bare fx x)) (at None (bare fx y)) c) (placed_here fx src vs w))) h

form_is : {Z : Type 0} (S : Rule Z) (fz : Z → Form) (z : Z) (a : Form) → bare fz z ≡ a → NodeOf S fz a → NodeOf S fz (bare fz z)
form_is S fz z a is h = subst (λ a. NodeOf S fz a) (sym is) h

-- ---- the trees that are put together from the forms

only_case : (a : Form) → NodeOf ReadsOr or_form a → NodeOf ReadsExpr expr_form (f.only (at None a))
unfolding unplaced_tree unplaced_tree_form
only_case a h = lifted ReadsOr ReadsExpr or_form expr_form f.only expr_of a (λ src ts x r. l.or_expr r) only_bare refl h

plain_case : (a : Form) → NodeOf ReadsMember member_form a → NodeOf ReadsUnary unary_form (f.unary None (at None a))
unfolding unplaced_tree unplaced_tree_form printed
plain_case a h = lifted ReadsMember ReadsUnary member_form unary_form (f.unary None) (unary_of None) a (λ src ts x r. l.plain r) (unary_bare None) refl h

lone_if : (src : List ℕ) (p : Spot) → unlocated (located primary_form (placed src (one kind.If p) (if_name src p))) ≡ at None if_primary
lone_if src p = if_name_bare src p

has_if_again : (src : List ℕ) (ts us : List Lexeme) (x : Add) (xs : List (Cell MemAccess)) (q : Spot) → NodeOf ReadsRelation relation_form (f.has (at None (bare add_form x)) (at None (lone_sum (f.member (at None if_primary) (bare_accesses xs)))))
    → NodeOf ReadsRelation relation_form (bare relation_form (has_of (placed src ts x) (placed src (one kind.If q ++ us) (lone_add src (one kind.If q ++ us) (member_of (placed src (one kind.If q) (if_name src q)) xs)))))
has_if_again src ts us x xs q h =
    let m = member_of (placed src (one kind.If q) (if_name src q)) xs in
    let y = lone_add src (one kind.If q ++ us) m in
    let e : bare add_form y ≡ lone_sum (f.member (at None if_primary) (bare_accesses xs)) = lone_sum_bare src (one kind.If q ++ us) m ∙ ap lone_sum (member_bare (placed src (one kind.If q) (if_name src q)) xs ∙ ap (λ n. f.member n (bare_accesses xs)) (lone_if src q)) in
    two_is ReadsRelation relation_form _ add_form add_form f.has src ts (one kind.If q ++ us) x y (has_bare (placed src ts x) (placed src (one kind.If q ++ us) y)) (subst (λ b. NodeOf ReadsRelation relation_form (f.has (at None (bare add_form x)) (at None b))) (sym e) h)

if_init_again : (src : List ℕ) (ts : List Lexeme) (p : Spot) (y : Expr) → NodeOf ReadsRecInit init_form (f.init (at None (lone_whole (f.member (at None if_primary) f.none))) (at None (bare expr_form y)))
    → NodeOf ReadsRecInit init_form (bare init_form (rec_init_of (placed src (one kind.If p) (lone_expr src (one kind.If p) (member_of (placed src (one kind.If p) (if_name src p)) []))) (placed src ts y)))
unfolding unlocated_parts
if_init_again src ts p y h =
    let m = member_of (placed src (one kind.If p) (if_name src p)) [] in
    let x = lone_expr src (one kind.If p) m in
    let e : bare expr_form x ≡ lone_whole (f.member (at None if_primary) f.none) = lone_whole_bare src (one kind.If p) m ∙ ap lone_whole (member_bare (placed src (one kind.If p) (if_name src p)) [] ∙ ap (λ n. f.member n f.none) (lone_if src p)) in
    two_is ReadsRecInit init_form _ expr_form expr_form f.init src (one kind.If p) ts x y (init_bare (placed src (one kind.If p) x) (placed src ts y)) (subst (λ b. NodeOf ReadsRecInit init_form (f.init (at None b) (at None (bare expr_form y)))) (sym e) h)

no_access_again : AccessesOf (bare_accesses [])
unfolding unlocated_parts
no_access_again = no_accesses

access_next : (src : List ℕ) (us : List Lexeme) (xs : List (Cell MemAccess)) (x : MemAccess) → AccessesOf (snoc (bare_accesses xs) t.beside (at None (bare access_form x))) → AccessesOf (bare_accesses (xs ++ placed src us x ∷ []))
access_next src us xs x h = subst AccessesOf (ap (λ n. snoc (bare_accesses xs) t.beside n) (sym (placed_here access_form src us x)) ∙ sym (snoc_bare listed_access xs (placed src us x))) h

field_again : (src : List ℕ) (ts : List Lexeme) (i : Ident) → NodeOf ReadsAccess access_form (f.field (there i)) → NodeOf ReadsAccess access_form (bare access_form (accesses.Field (placed src ts i)))
unfolding unlocated_form
field_again src ts i h = form_is ReadsAccess access_form _ _ (ap unlocated_form (form.access_field (placed src ts i))) h

call_again : (xs : List (Cell Expr)) → NodeOf ReadsAccess access_form (f.call (bare_items expr_form xs)) → NodeOf ReadsAccess access_form (bare access_form (accesses.Call xs))
unfolding unlocated_form
call_again xs h = form_is ReadsAccess access_form _ _ (ap unlocated_form (form.access_call xs)) h

index_is : (src : List ℕ) (ts : List Lexeme) (x : Expr) → bare access_form (accesses.Index (placed src ts x)) ≡ f.index (unlocated (located expr_form (placed src ts x)))
unfolding unlocated_form
index_is src ts x = ap unlocated_form (form.access_index (placed src ts x))

literal_again : (src : List ℕ) (ts : List Lexeme) (x : Literal) → NodeOf ReadsPrimary primary_form (f.literal (there (unlocated_literal x))) → NodeOf ReadsPrimary primary_form (bare primary_form (primaries.Literal (placed src ts x)))
unfolding unlocated_form
literal_again src ts x h = form_is ReadsPrimary primary_form _ _ (ap unlocated_form (form.primary_literal (placed src ts x))) h

ref_again : (src : List ℕ) (ts : List Lexeme) (x : Ref) → NodeOf ReadsPrimary primary_form (f.reference (there (unlocated_ref x))) → NodeOf ReadsPrimary primary_form (bare primary_form (primaries.Ref (placed src ts x)))
unfolding unlocated_form
ref_again src ts x h = form_is ReadsPrimary primary_form _ _ (ap unlocated_form (form.primary_ref (placed src ts x))) h

name_again : (src : List ℕ) (ts : List Lexeme) (x : Name) → NodeOf ReadsPrimary primary_form (f.name (there (unlocated_name x))) → NodeOf ReadsPrimary primary_form (bare primary_form (primaries.Name (placed src ts x)))
unfolding unlocated_form
name_again src ts x h = form_is ReadsPrimary primary_form _ _ (ap unlocated_form (form.primary_name (placed src ts x))) h

slot_again : (src : List ℕ) (ts : List Lexeme) (x : Slot) → NodeOf ReadsPrimary primary_form (f.slot (there x)) → NodeOf ReadsPrimary primary_form (bare primary_form (primaries.Slot (placed src ts x)))
unfolding unlocated_form
slot_again src ts x h = form_is ReadsPrimary primary_form _ _ (ap unlocated_form (form.primary_slot (placed src ts x))) h

paren_is : (src : List ℕ) (ts : List Lexeme) (x : Expr) → bare primary_form (primaries.Expr (placed src ts x)) ≡ f.parens (unlocated (located expr_form (placed src ts x)))
unfolding unlocated_form
paren_is src ts x = ap unlocated_form (form.primary_expr (placed src ts x))

set_again : (xs : List (Cell Expr)) → NodeOf ReadsPrimary primary_form (f.set (bare_items expr_form xs)) → NodeOf ReadsPrimary primary_form (bare primary_form (primaries.EList xs))
unfolding unlocated_form
set_again xs h = form_is ReadsPrimary primary_form _ _ (ap unlocated_form (form.primary_list xs)) h

braces_again : (xs : List (Cell RecInit)) → NodeOf ReadsPrimary primary_form (f.record_of (bare_items init_form xs)) → NodeOf ReadsPrimary primary_form (bare primary_form (primaries.RInits xs))
unfolding unlocated_form
braces_again xs h = form_is ReadsPrimary primary_form _ _ (ap unlocated_form (form.primary_inits xs)) h

-- ---- the induction

abbrev comma : TokenText
comma = word kind.Comma (codes ",")

mutual
  pub expr_again : {src : List ℕ} {ts : List Lexeme} {x : Expr} → Leaves → ReadsExpr src ts x → AllSpelled ts → NodeOf ReadsExpr expr_form (bare expr_form x)
  expr_again {src = src} v (l.or_expr {ts = ts} {x = x} r) s =
      node_is ReadsExpr expr_form _ or_form f.only src ts x (only_bare (placed src ts x)) (only_case (bare or_form x) (or_again v r s))
  expr_again {src = src} v (l.if_expr {ts = ts} {us = us} {vs = vs} {c = c} {x = x} {y = y} p q n r i j) s =
      let h = left_of (one kind.If p ++ ts ++ one kind.Then q ++ us) vs kind.Else n s in
      three_is ReadsExpr expr_form _ expr_form f.ite src ts us vs c x y (if_bare (placed src ts c) (placed src us x) (placed src vs y))
      (conditional_case (bare expr_form c) (bare expr_form x) (bare expr_form y) (expr_again v r (second_half (one kind.If p) ts (left_of (one kind.If p ++ ts) us kind.Then q h))) (expr_again v i (right_of (one kind.If p ++ ts) us kind.Then q h))
      (expr_again v j (right_of (one kind.If p ++ ts ++ one kind.Then q ++ us) vs kind.Else n s)))

  or_again : {src : List ℕ} {ts : List Lexeme} {x : Or} → Leaves → ReadsOr src ts x → AllSpelled ts → NodeOf ReadsOr or_form (bare or_form x)
  or_again v (l.or {x = x} {xs = xs} r) s =
      form_is ReadsOr or_form _ _ (or_bare x xs) (chained ReadsAnds ReadsOr and_form or_operand or_form disjunction or_of (bare_row and_form or_operand (x, xs)) (λ src ts x xs r. l.or r) or_bare (ands_again v r s))

  ands_again : {src : List ℕ} {ts : List Lexeme} {x : Cell And} {xs : List (Cell And)} → Leaves → ReadsAnds src ts x xs → AllSpelled ts → RowOf ReadsAnds and_form or_operand (bare_row and_form or_operand (x, xs))
  ands_again {src = src} v (l.one_and {ts = ts} {x = x} r) s =
      subst (RowOf ReadsAnds and_form or_operand) (row_first and_form or_operand src ts x) (first_of_row ReadsAnd ReadsAnds and_form or_operand (bare and_form x) (λ src ts x r. l.one_and r) (and_again v r s))
  ands_again {src = src} v (l.more_and {ts = ts} {us = us} {x = x} {y = y} {xs = xs} p r i) s =
      subst (RowOf ReadsAnds and_form or_operand) (row_next and_form or_operand x xs (λ c. c) t.or_or src us y (λ c. refl))
      (next_of_row ReadsAnd ReadsAnds and_form or_operand (λ c. c) t.or_or (word kind.OrOr (codes "||")) (bare_row and_form or_operand (x, xs)) (bare and_form y) (λ src ts us x xs y p r s. l.more_and p r s) (λ c. refl) refl refl
      (ands_again v r (left_of ts us kind.OrOr p s)) (and_again v i (right_of ts us kind.OrOr p s)))

  and_again : {src : List ℕ} {ts : List Lexeme} {x : And} → Leaves → ReadsAnd src ts x → AllSpelled ts → NodeOf ReadsAnd and_form (bare and_form x)
  and_again v (l.and {x = x} {xs = xs} r) s =
      form_is ReadsAnd and_form _ _ (and_bare x xs) (chained ReadsRelations ReadsAnd relation_form and_operand and_form conjunction and_of (bare_row relation_form and_operand (x, xs)) (λ src ts x xs r. l.and r) and_bare (relations_again v r s))

  relations_again : {src : List ℕ} {ts : List Lexeme} {x : Cell Relation} {xs : List (Cell Relation)} → Leaves → ReadsRelations src ts x xs → AllSpelled ts → RowOf ReadsRelations relation_form and_operand (bare_row relation_form and_operand (x, xs))
  relations_again {src = src} v (l.one_relation {ts = ts} {x = x} r) s =
      subst (RowOf ReadsRelations relation_form and_operand) (row_first relation_form and_operand src ts x) (first_of_row ReadsRelation ReadsRelations relation_form and_operand (bare relation_form x) (λ src ts x r. l.one_relation r) (relation_again v r s))
  relations_again {src = src} v (l.more_relation {ts = ts} {us = us} {x = x} {y = y} {xs = xs} p r i) s =
      subst (RowOf ReadsRelations relation_form and_operand) (row_next relation_form and_operand x xs (λ c. c) t.and_and src us y (λ c. refl))
      (next_of_row ReadsRelation ReadsRelations relation_form and_operand (λ c. c) t.and_and (word kind.AndAnd (codes "&&")) (bare_row relation_form and_operand (x, xs)) (bare relation_form y) (λ src ts us x xs y p r s. l.more_relation p r s) (λ c. refl) refl refl
      (relations_again v r (left_of ts us kind.AndAnd p s)) (relation_again v i (right_of ts us kind.AndAnd p s)))

  relation_again : {src : List ℕ} {ts : List Lexeme} {x : Relation} → Leaves → ReadsRelation src ts x → AllSpelled ts → NodeOf ReadsRelation relation_form (bare relation_form x)
  relation_again v (l.common {x = x} {xs = xs} r) s =
      form_is ReadsRelation relation_form _ _ (common_bare x xs) (chained ReadsAdds ReadsRelation add_form relation_operand relation_form relation common_of (bare_row add_form relation_operand (x, xs)) (λ src ts x xs r. l.common r) common_bare (adds_again v r s))
  relation_again {src = src} v (l.has {ts = ts} {us = us} {x = x} {y = y} p r i) s =
      two_is ReadsRelation relation_form _ add_form add_form f.has src ts us x y (has_bare (placed src ts x) (placed src us y)) (has_case (bare add_form x) (bare add_form y) (add_again v r (left_of ts us kind.Has p s)) (add_again v i (right_of ts us kind.Has p s)))
  relation_again {src = src} v (l.has_if {ts = ts} {us = us} {x = x} {xs = xs} p q r i) s =
      has_if_again src ts us x xs q (has_if_case (bare add_form x) (bare_accesses xs) (add_again v r (left_of ts (one kind.If q ++ us) kind.Has p s)) (accesses_again v i (second_half (one kind.If q) us (right_of ts (one kind.If q ++ us) kind.Has p s))))
  relation_again {src = src} v (l.like {ts = ts} {us = us} {x = x} {y = y} p r i) s =
      two_is ReadsRelation relation_form _ add_form add_form f.like src ts us x y (like_bare (placed src ts x) (placed src us y)) (like_case (bare add_form x) (bare add_form y) (add_again v r (left_of ts us kind.Like p s)) (add_again v i (right_of ts us kind.Like p s)))
  relation_again {src = src} v (l.is {ts = ts} {us = us} {x = x} {y = y} p r i) s =
      two_is ReadsRelation relation_form _ add_form add_form f.is src ts us x y (is_bare (placed src ts x) (placed src us y)) (is_case (bare add_form x) (bare add_form y) (add_again v r (left_of ts us kind.Is p s)) (add_again v i (right_of ts us kind.Is p s)))
  relation_again {src = src} v (l.is_in {ts = ts} {us = us} {vs = vs} {x = x} {y = y} {z = z} p q r i j) s =
      let h = left_of (ts ++ one kind.Is p ++ us) vs kind.In q s in
      three_is ReadsRelation relation_form _ add_form f.is_in src ts us vs x y z (is_in_bare (placed src ts x) (placed src us y) (placed src vs z))
      (is_in_case (bare add_form x) (bare add_form y) (bare add_form z) (add_again v r (left_of ts us kind.Is p h)) (add_again v i (right_of ts us kind.Is p h)) (add_again v j (right_of (ts ++ one kind.Is p ++ us) vs kind.In q s)))

  adds_again : {src : List ℕ} {ts : List Lexeme} {x : Cell Add} {xs : List (RelOp × Cell Add)} → Leaves → ReadsAdds src ts x xs → AllSpelled ts → RowOf ReadsAdds add_form relation_operand (bare_row add_form relation_operand (x, xs))
  adds_again {src = src} v (l.one_add {ts = ts} {x = x} r) s =
      subst (RowOf ReadsAdds add_form relation_operand) (row_first add_form relation_operand src ts x) (first_of_row ReadsAdd ReadsAdds add_form relation_operand (bare add_form x) (λ src ts x r. l.one_add r) (add_again v r s))
  adds_again {src = src} v (l.more_add {ts = ts} {us = us} {k = k} {o = o} {x = x} {y = y} {xs = xs} p r q i) s =
      subst (RowOf ReadsAdds add_form relation_operand) (row_next add_form relation_operand x xs (λ c. (o, c)) (t.compare o) src us y (λ c. refl))
      (next_of_row ReadsAdd ReadsAdds add_form relation_operand (λ c. (o, c)) (t.compare o) (rel_word o) (bare_row add_form relation_operand (x, xs)) (bare add_form y) (λ src ts us x xs y p r s. l.more_add p r (rel_reads o) s) (λ c. refl) (rel_prints o) (rel_spelled o)
      (adds_again v r (left_of ts us k p s)) (add_again v i (right_of ts us k p s)))

  pub add_again : {src : List ℕ} {ts : List Lexeme} {x : Add} → Leaves → ReadsAdd src ts x → AllSpelled ts → NodeOf ReadsAdd add_form (bare add_form x)
  add_again v (l.add {x = x} {xs = xs} r) s =
      form_is ReadsAdd add_form _ _ (add_bare x xs) (chained ReadsMults ReadsAdd mult_form add_operand add_form sum add_of (bare_row mult_form add_operand (x, xs)) (λ src ts x xs r. l.add r) add_bare (mults_again v r s))

  mults_again : {src : List ℕ} {ts : List Lexeme} {x : Cell Mult} {xs : List (AddOp × Cell Mult)} → Leaves → ReadsMults src ts x xs → AllSpelled ts → RowOf ReadsMults mult_form add_operand (bare_row mult_form add_operand (x, xs))
  mults_again {src = src} v (l.one_mult {ts = ts} {x = x} r) s =
      subst (RowOf ReadsMults mult_form add_operand) (row_first mult_form add_operand src ts x) (first_of_row ReadsMult ReadsMults mult_form add_operand (bare mult_form x) (λ src ts x r. l.one_mult r) (mult_again v r s))
  mults_again {src = src} v (l.more_mult {ts = ts} {us = us} {k = k} {o = o} {x = x} {y = y} {xs = xs} p r q i) s =
      subst (RowOf ReadsMults mult_form add_operand) (row_next mult_form add_operand x xs (λ c. (o, c)) (t.add o) src us y (λ c. refl))
      (next_of_row ReadsMult ReadsMults mult_form add_operand (λ c. (o, c)) (t.add o) (add_word o) (bare_row mult_form add_operand (x, xs)) (bare mult_form y) (λ src ts us x xs y p r s. l.more_mult p r (add_reads o) s) (λ c. refl) (add_prints o) (add_spelled o)
      (mults_again v r (left_of ts us k p s)) (mult_again v i (right_of ts us k p s)))

  mult_again : {src : List ℕ} {ts : List Lexeme} {x : Mult} → Leaves → ReadsMult src ts x → AllSpelled ts → NodeOf ReadsMult mult_form (bare mult_form x)
  mult_again v (l.mult {x = x} {xs = xs} r) s =
      form_is ReadsMult mult_form _ _ (mult_bare x xs) (chained ReadsUnaries ReadsMult unary_form mult_operand mult_form product mult_of (bare_row unary_form mult_operand (x, xs)) (λ src ts x xs r. l.mult r) mult_bare (unaries_again v r s))

  unaries_again : {src : List ℕ} {ts : List Lexeme} {x : Cell Unary} {xs : List (MultOp × Cell Unary)} → Leaves → ReadsUnaries src ts x xs → AllSpelled ts → RowOf ReadsUnaries unary_form mult_operand (bare_row unary_form mult_operand (x, xs))
  unaries_again {src = src} v (l.one_unary {ts = ts} {x = x} r) s =
      subst (RowOf ReadsUnaries unary_form mult_operand) (row_first unary_form mult_operand src ts x) (first_of_row ReadsUnary ReadsUnaries unary_form mult_operand (bare unary_form x) (λ src ts x r. l.one_unary r) (unary_again v r s))
  unaries_again {src = src} v (l.more_unary {ts = ts} {us = us} {k = k} {o = o} {x = x} {y = y} {xs = xs} p r q i) s =
      subst (RowOf ReadsUnaries unary_form mult_operand) (row_next unary_form mult_operand x xs (λ c. (o, c)) (t.multiply o) src us y (λ c. refl))
      (next_of_row ReadsUnary ReadsUnaries unary_form mult_operand (λ c. (o, c)) (t.multiply o) (mult_word o) (bare_row unary_form mult_operand (x, xs)) (bare unary_form y) (λ src ts us x xs y p r s. l.more_unary p r (mult_reads o) s) (λ c. refl) (mult_prints o) (mult_spelled o)
      (unaries_again v r (left_of ts us k p s)) (unary_again v i (right_of ts us k p s)))

  unary_again : {src : List ℕ} {ts : List Lexeme} {x : Unary} → Leaves → ReadsUnary src ts x → AllSpelled ts → NodeOf ReadsUnary unary_form (bare unary_form x)
  unary_again {src = src} v (l.plain {ts = ts} {x = x} r) s = node_is ReadsUnary unary_form _ member_form (f.unary None) src ts x (unary_bare None (placed src ts x)) (plain_case (bare member_form x) (member_again v r s))
  unary_again {src = src} v (l.banged {ts = ts} {us = us} {n = n} {x = x} b r) s =
      node_is ReadsUnary unary_form _ member_form (f.unary (Some (bangs_of n))) src us x (unary_bare (Some (bangs_of n)) (placed src us x))
      (signed (word kind.Bang (codes "!")) bangs_of n (bare member_form x) refl (banged n (some_signs b)) (λ src ts us m x i j. l.banged i j) (member_again v r (second_half ts us s)))
  unary_again {src = src} v (l.dashed {ts = ts} {us = us} {n = n} {x = x} b r) s =
      node_is ReadsUnary unary_form _ member_form (f.unary (Some (dashes_of n))) src us x (unary_bare (Some (dashes_of n)) (placed src us x))
      (signed (word kind.Minus (codes "-")) dashes_of n (bare member_form x) refl (dashed n (some_signs b)) (λ src ts us m x i j. l.dashed i j) (member_again v r (second_half ts us s)))

  member_again : {src : List ℕ} {ts : List Lexeme} {x : Member} → Leaves → ReadsMember src ts x → AllSpelled ts → NodeOf ReadsMember member_form (bare member_form x)
  member_again {src = src} v (l.member {ts = ts} {us = us} {x = x} {xs = xs} r i) s =
      node_is ReadsMember member_form _ primary_form (λ n. f.member n (bare_accesses xs)) src ts x (member_bare (placed src ts x) xs) (member_case (bare primary_form x) (bare_accesses xs) (primary_again v r (first_half ts us s)) (accesses_again v i (second_half ts us s)))

  accesses_again : {src : List ℕ} {ts : List Lexeme} {xs : List (Cell MemAccess)} → Leaves → ReadsAccesses src ts xs → AllSpelled ts → AccessesOf (bare_accesses xs)
  accesses_again v l.no_access s = no_access_again
  accesses_again {src = src} v (l.more_access {ts = ts} {us = us} {xs = xs} {x = x} r i) s =
      access_next src us xs x (next_access (bare_accesses xs) (bare access_form x) (accesses_again v r (first_half ts us s)) (access_again v i (second_half ts us s)))

  access_again : {src : List ℕ} {ts : List Lexeme} {x : MemAccess} → Leaves → ReadsAccess src ts x → AllSpelled ts → NodeOf ReadsAccess access_form (bare access_form x)
  access_again {src = src} v (l.field {ts = ts} {i = i} p r) s = field_again src ts i (field_case i (v.any r (second_half (one kind.Dot p) ts s)))
  access_again v (l.call {ts = ts} {xs = xs} p q r) s = call_again xs (call_case (bare_items expr_form xs) (exprs_again v r (inside kind.OpenParen kind.CloseParen p q ts s)))
  access_again {src = src} v (l.index {ts = ts} {x = x} p q r) s = node_is ReadsAccess access_form _ expr_form f.index src ts x (index_is src ts x) (index_case (bare expr_form x) (expr_again v r (inside kind.OpenBracket kind.CloseBracket p q ts s)))

  pub primary_again : {src : List ℕ} {ts : List Lexeme} {x : Primary} → Leaves → ReadsPrimary src ts x → AllSpelled ts → NodeOf ReadsPrimary primary_form (bare primary_form x)
  primary_again {src = src} v (l.literally {ts = ts} {x = x} r) s = literal_again src ts x (literal_case (unlocated_literal x) (v.literal r s))
  primary_again {src = src} v (l.referred {ts = ts} {x = x} r) s = ref_again src ts x (ref_case (unlocated_ref x) (v.reference r s))
  primary_again {src = src} v (l.named {ts = ts} {x = x} r) s = name_again src ts x (name_case (unlocated_name x) (v.name r s))
  primary_again {src = src} v (l.slotted {k = k} {x = x} p r) s = slot_again src (one k p) x (slot_case r s.0)
  primary_again {src = src} v (l.paren {ts = ts} {x = x} p q r) s = node_is ReadsPrimary primary_form _ expr_form f.parens src ts x (paren_is src ts x) (paren_case (bare expr_form x) (expr_again v r (inside kind.OpenParen kind.CloseParen p q ts s)))
  primary_again v (l.set {ts = ts} {xs = xs} p q r) s = set_again xs (set_case (bare_items expr_form xs) (exprs_again v r (inside kind.OpenBracket kind.CloseBracket p q ts s)))
  primary_again v (l.in_braces {ts = ts} {xs = xs} p q r) s = braces_again xs (braces_case (bare_items init_form xs) (inits_again v r (inside kind.OpenBrace kind.CloseBrace p q ts s)))

  exprs_again : {src : List ℕ} {ts : List Lexeme} {xs : List (Cell Expr)} → Leaves → ReadsExprs src ts xs → AllSpelled ts → ListOf ReadsExprs expr_form xs
  exprs_again v l.no_expr s = no_items ReadsExprs expr_form (λ src. l.no_expr)
  exprs_again v (l.exprs {xs = xs} r) s = some_items ReadsExprItems ReadsExprs expr_form xs (λ src ts xs r. l.exprs r) (expr_items_again v r s)
  exprs_again v (l.exprs_comma {ts = ts} {xs = xs} p r) s = some_items ReadsExprItems ReadsExprs expr_form xs (λ src ts xs r. l.exprs r) (expr_items_again v r (first_half ts (one kind.Comma p) s))

  expr_items_again : {src : List ℕ} {ts : List Lexeme} {xs : List (Cell Expr)} → Leaves → ReadsExprItems src ts xs → AllSpelled ts → ItemsOf ReadsExprItems expr_form xs
  expr_items_again {src = src} v (l.one_expr {ts = ts} {x = x} r) s = first_of_list ReadsExpr ReadsExprItems expr_form src ts x (λ src ts x r. l.one_expr r) (expr_again v r s)
  expr_items_again {src = src} v (l.more_exprs {ts = ts} {us = us} {xs = xs} {y = y} p r i) s =
      next_of_list ReadsExpr ReadsExprItems expr_form comma src us xs y (λ src ts us xs y p r s. l.more_exprs p r s) refl refl (expr_items_again v r (left_of ts us kind.Comma p s)) (expr_again v i (right_of ts us kind.Comma p s))

  inits_again : {src : List ℕ} {ts : List Lexeme} {xs : List (Cell RecInit)} → Leaves → ReadsRecInits src ts xs → AllSpelled ts → ListOf ReadsRecInits init_form xs
  inits_again v l.no_init s = no_items ReadsRecInits init_form (λ src. l.no_init)
  inits_again v (l.inits {xs = xs} r) s = some_items ReadsInitItems ReadsRecInits init_form xs (λ src ts xs r. l.inits r) (init_items_again v r s)
  inits_again v (l.inits_comma {ts = ts} {xs = xs} p r) s = some_items ReadsInitItems ReadsRecInits init_form xs (λ src ts xs r. l.inits r) (init_items_again v r (first_half ts (one kind.Comma p) s))

  init_items_again : {src : List ℕ} {ts : List Lexeme} {xs : List (Cell RecInit)} → Leaves → ReadsInitItems src ts xs → AllSpelled ts → ItemsOf ReadsInitItems init_form xs
  init_items_again {src = src} v (l.one_init {ts = ts} {x = x} r) s = first_of_list ReadsRecInit ReadsInitItems init_form src ts x (λ src ts x r. l.one_init r) (init_again v r s)
  init_items_again {src = src} v (l.more_inits {ts = ts} {us = us} {xs = xs} {y = y} p r i) s =
      next_of_list ReadsRecInit ReadsInitItems init_form comma src us xs y (λ src ts us xs y p r s. l.more_inits p r s) refl refl (init_items_again v r (left_of ts us kind.Comma p s)) (init_again v i (right_of ts us kind.Comma p s))

  init_again : {src : List ℕ} {ts : List Lexeme} {x : RecInit} → Leaves → ReadsRecInit src ts x → AllSpelled ts → NodeOf ReadsRecInit init_form (bare init_form x)
  init_again {src = src} v (l.rec_init {ts = ts} {us = us} {x = x} {y = y} p r i) s =
      two_is ReadsRecInit init_form _ expr_form expr_form f.init src ts us x y (init_bare (placed src ts x) (placed src us y)) (init_case (bare expr_form x) (bare expr_form y) (expr_again v r (left_of ts us kind.Colon p s)) (expr_again v i (right_of ts us kind.Colon p s)))
  init_again {src = src} v (l.if_init {ts = ts} {y = y} p q r) s = if_init_again src ts p y (if_init_case (bare expr_form y) (expr_again v r (right_of (one kind.If p) ts kind.Colon q s)))
