-- What the rules of expressions read is read again from its printed words: a form for each rule.
use Rattle.std.proofs.Common.{◌≡◌, ℕ, zero, suc, ◌+◌, ◌<◌, Bool, true, false, List, [], ◌∷◌, ◌++◌, map, Option, Some, None, codes, refl, sym, ap, ap₂, ◌∙◌, arith}
use Rattle.std.specs.Prelude.{replicate, cond, nat_le}
use Rattle.cedar_lexer.specs.Spelling.{Spells}
use Rattle.cedar_lexer.specs.Token.{Lexeme}
use Rattle.cedar_lexer.specs.declared.token.TokenKind.{TokenKind}
use Rattle.cedar_lexer.specs.declared.token.TokenKind.TheVariants as kind
use Rattle.cedar_expressions.specs.declared.operators.AddOp.{AddOp}
use Rattle.cedar_expressions.specs.declared.operators.AddOp.TheVariants as sums
use Rattle.cedar_syntax.specs.declared.cst.Expr.{Expr}
use Rattle.cedar_syntax.specs.declared.cst.Or.{Or}
use Rattle.cedar_syntax.specs.declared.cst.And.{And}
use Rattle.cedar_syntax.specs.declared.cst.RelOp.{RelOp}
use Rattle.cedar_syntax.specs.declared.cst.RelOp.TheVariants as rel
use Rattle.cedar_syntax.specs.declared.cst.Relation.{Relation}
use Rattle.cedar_syntax.specs.declared.cst.Add.{Add}
use Rattle.cedar_syntax.specs.declared.cst.MultOp.{MultOp}
use Rattle.cedar_syntax.specs.declared.cst.MultOp.TheVariants as products
use Rattle.cedar_syntax.specs.declared.cst.Mult.{Mult}
use Rattle.cedar_syntax.specs.declared.cst.NegOp.{NegOp}
use Rattle.cedar_syntax.specs.declared.cst.NegOp.TheVariants as neg
use Rattle.cedar_syntax.specs.declared.cst.Unary.{Unary}
use Rattle.cedar_syntax.specs.declared.cst.Member.{Member}
use Rattle.cedar_syntax.specs.declared.cst.MemAccess.{MemAccess}
use Rattle.cedar_syntax.specs.declared.cst.Primary.{Primary}
use Rattle.cedar_syntax.specs.declared.cst.Expr.TheViews.{out-roll-Or, out-roll-Add, out-roll-Mult, out-roll-Unary}
use Rattle.cedar_syntax.specs.trees.Forms.{located, parts_of, expr_form, or_form, and_form, relation_form, add_form, mult_form, unary_form, member_form, primary_form, init_form, or_operand, and_operand, relation_operand, add_operand, mult_operand, listed_access}
use Rattle.cedar_grammar.specs.grammar.Grammar.{Rule}
use Rattle.cedar_syntax.specs.trees.Located as f
use Rattle.cedar_syntax.specs.trees.Located.{Located, Form, at}
use Rattle.cedar_grammar.specs.grammar.LooseExpressions as l
use Rattle.cedar_grammar.specs.grammar.LooseExpressions.{ReadsUnary, ReadsMember, ReadsRelOp, ReadsMultOp, lone_add, lone_expr}
use Rattle.cedar_grammar.specs.grammar.Place.{placed}
use Rattle.cedar_syntax.specs.printing.Printed.{Texts, printed, neg_op_texts, operator_texts}
use Rattle.cedar_syntax.specs.tokens.Signs.{ReadsSigns, ReadsAddOp, one_sign, more_signs, sign_limit}
use Rattle.cedar_syntax.specs.tokens.Signs as signs
use Rattle.cedar_syntax.specs.tokens.Tokens.{Spot, one}
use Rattle.cedar_syntax.specs.trees.Tree as t
use Rattle.cedar_syntax.specs.trees.Tree.{Operator, Level, disjunction, conjunction, relation, sum, product}
use Rattle.cedar_syntax.specs.trees.Trees.{Cell, bangs_of, dashes_of, expr_of, if_of, or_of, and_of, common_of, has_of, like_of, is_of, add_of, mult_of, unary_of, member_of, rec_init_of}
use Rattle.cedar_syntax.specs.trees.Unlocated.{unlocated, unlocated_form, unlocated_parts}
use Rattle.cedar_syntax.specs.trees.Unplaced.{unplaced_tree, unplaced_tree_form}
use Rattle.cedar_syntax.proofs.FormLevels as form
use Rattle.cedar_grammar.proofs.MadeExpressions.{expr_made, if_made}
use Rattle.cedar_lexer.specs.Words.{TokenText, texts_of, AreSpelled}
use Rattle.cedar_grammar.specs.printing.SameWords.{Again}
use Rattle.cedar_grammar.proofs.again.Rereading.{texts-append, both_spelled, same_as, infix_as, beside_as, bracket_as, Reworded}
use Rattle.cedar_grammar.proofs.again.Chains.{print_form, bare, placed_here, Row, bare_row, RowRule, NodeOf, RowOf, signs_as}

abbrev pub word : TokenKind → List ℕ → TokenText
word k text = record { kind = k; text = text }

-- ---- rules that take one part's tokens, or two parts with a token between them

pub lifted : {X Y : Type 0} (R : Rule X) (S : Rule Y) (fx : X → Form) (fy : Y → Form) (wrap : Located → Form) (make : Cell X → Y) (a : Form)
    → ((src : List ℕ) (ts : List Lexeme) (x : X) → R src ts x → S src ts (make (placed src ts x))) → ((c : Cell X) → bare fy (make c) ≡ wrap (unlocated (located fx c)))
    → print_form (wrap (at None a)) ≡ print_form a → NodeOf R fx a → NodeOf S fy (wrap (at None a))
lifted R S fx fy wrap make a rule is prints h = record {
  words = h.words;
  spelled = h.spelled;
  prints = h.prints ∙ sym prints;
  again = same_as (λ src ts x. record { tree = make (placed src ts x.tree); reads = rule src ts x.tree x.reads; same = is (placed src ts x.tree) ∙ ap wrap (placed_here fx src ts x.tree ∙ ap (at None) x.same) }) h.again;
}

pub joined : {X Y Z : Type 0} (R : Rule X) (S : Rule Y) (T : Rule Z) (fx : X → Form) (fy : Y → Form) (fz : Z → Form) (wrap : Located → Located → Form) (make : Cell X → Cell Y → Z) (w : TokenText) (a b : Form)
    → ((src : List ℕ) (ts us : List Lexeme) (x : X) (y : Y) (p : Spot) → R src ts x → S src us y → T src (ts ++ one w.kind p ++ us) (make (placed src ts x) (placed src us y)))
    → ((c : Cell X) (d : Cell Y) → bare fz (make c d) ≡ wrap (unlocated (located fx c)) (unlocated (located fy d)))
    → print_form (wrap (at None a) (at None b)) ≡ print_form a ++ (w.text ∷ print_form b) → Spells w.kind w.text → NodeOf R fx a → NodeOf S fy b → NodeOf T fz (wrap (at None a) (at None b))
joined R S T fx fy fz wrap make w a b rule is prints s h k = record {
  words = h.words ++ (w ∷ k.words);
  spelled = both_spelled h.words (w ∷ k.words) h.spelled (s, k.spelled);
  prints = texts-append h.words (w ∷ k.words) ∙ ap₂ (λ (xs ys : Texts). xs ++ (w.text ∷ ys)) h.prints k.prints ∙ sym prints;
  again = infix_as w (λ src ts us p e x y. record {
    tree = make (placed src ts x.tree) (placed src us y.tree);
    reads = rule src ts us x.tree y.tree p x.reads y.reads;
    same = is (placed src ts x.tree) (placed src us y.tree) ∙ ap₂ wrap (placed_here fx src ts x.tree ∙ ap (at None) x.same) (placed_here fy src us y.tree ∙ ap (at None) y.same);
  }) h.again k.again;
}

-- a row that ends as a chain
pub chained : {X P Y : Type 0} (S : RowRule X P) (T : Rule Y) (fx : X → Form) (part : P → Operator × Located) (fy : Y → Form) (level : Level) (make : Cell X → List P → Y) (r : Row)
    → ((src : List ℕ) (ts : List Lexeme) (x : Cell X) (xs : List P) → S src ts x xs → T src ts (make x xs)) → ((x : Cell X) (xs : List P) → bare fy (make x xs) ≡ f.chain level (bare_row fx part (x, xs)).0 (bare_row fx part (x, xs)).1)
    → RowOf S fx part r → NodeOf T fy (f.chain level r.0 r.1)
unfolding unplaced_tree unplaced_tree_form printed
chained S T fx part fy level make r rule is h = record {
  words = h.words;
  spelled = h.spelled;
  prints = h.prints;
  again = same_as (λ src ts a. record { tree = make a.tree.0 a.tree.1; reads = rule src ts a.tree.0 a.tree.1 a.reads; same = is a.tree.0 a.tree.1 ∙ ap (λ (q : Row). f.chain level q.0 q.1) a.same }) h.again;
}

-- a part between brackets, or items
pub bracketed : {X Z F : Type 0} (R : Rule X) (T : Rule Z) (bx : X → F) (px : F → Texts) (fz : Z → Form) (w v : TokenText) (a : F) (c : Form)
    → ((src : List ℕ) (ts : List Lexeme) (x : X) (l m : Spot) → R src ts x → bx x ≡ a → Again T (bare fz) c src (one w.kind l ++ ts ++ one v.kind m))
    → print_form c ≡ w.text ∷ (px a ++ (v.text ∷ [])) → Spells w.kind w.text → Spells v.kind v.text → Reworded R bx px a → NodeOf T fz c
bracketed R T bx px fz w v a c rule prints s u h = record {
  words = w ∷ (h.words ++ (v ∷ []));
  spelled = (s, both_spelled h.words (v ∷ []) h.spelled (u, tt));
  prints = ap (λ xs. w.text ∷ xs) (texts-append h.words (v ∷ []) ∙ ap (λ xs. xs ++ (v.text ∷ [])) h.prints) ∙ sym prints;
  again = bracket_as w v (λ src ts p q d e x. rule src ts x.tree p q x.reads x.same) h.again;
}

-- ---- each tree without its places

pub or_bare : (x : Cell And) (xs : List (Cell And)) → bare or_form (or_of x xs) ≡ f.chain disjunction (bare_row and_form or_operand (x, xs)).0 (bare_row and_form or_operand (x, xs)).1
unfolding unlocated_form
or_bare x xs = ap unlocated_form (form.or_out (or_of x xs) ∙ ap (λ r. f.chain disjunction (located and_form r.initial) (parts_of (map or_operand r.extended))) (out-roll-Or record { initial = x; extended = xs }))

pub and_bare : (x : Cell Relation) (xs : List (Cell Relation)) → bare and_form (and_of x xs) ≡ f.chain conjunction (bare_row relation_form and_operand (x, xs)).0 (bare_row relation_form and_operand (x, xs)).1
unfolding unlocated_form
and_bare x xs = ap unlocated_form (form.and_out (and_of x xs))

pub common_bare : (x : Cell Add) (xs : List (RelOp × Cell Add)) → bare relation_form (common_of x xs) ≡ f.chain relation (bare_row add_form relation_operand (x, xs)).0 (bare_row add_form relation_operand (x, xs)).1
unfolding unlocated_form
common_bare x xs = ap unlocated_form (form.relation_common x xs)

pub add_bare : (x : Cell Mult) (xs : List (AddOp × Cell Mult)) → bare add_form (add_of x xs) ≡ f.chain sum (bare_row mult_form add_operand (x, xs)).0 (bare_row mult_form add_operand (x, xs)).1
unfolding unlocated_form
add_bare x xs = ap unlocated_form (form.add_out (add_of x xs) ∙ ap (λ r. f.chain sum (located mult_form r.initial) (parts_of (map add_operand r.extended))) (out-roll-Add record { initial = x; extended = xs }))

pub mult_bare : (x : Cell Unary) (xs : List (MultOp × Cell Unary)) → bare mult_form (mult_of x xs) ≡ f.chain product (bare_row unary_form mult_operand (x, xs)).0 (bare_row unary_form mult_operand (x, xs)).1
unfolding unlocated_form
mult_bare x xs = ap unlocated_form (form.mult_out (mult_of x xs) ∙ ap (λ r. f.chain product (located unary_form r.initial) (parts_of (map mult_operand r.extended))) (out-roll-Mult record { initial = x; extended = xs }))

pub unary_bare : (o : Option NegOp) (c : Cell Member) → bare unary_form (unary_of o c) ≡ f.unary o (unlocated (located member_form c))
unfolding unlocated_form
unary_bare o c = ap unlocated_form (form.unary_out (unary_of o c) ∙ ap (λ r. f.unary r.op (located member_form r.item)) (out-roll-Unary record { op = o; item = c }))

pub member_bare : (c : Cell Primary) (xs : List (Cell MemAccess)) → bare member_form (member_of c xs) ≡ f.member (unlocated (located primary_form c)) (unlocated_parts (parts_of (map listed_access xs)))
unfolding unlocated_form
member_bare c xs = ap unlocated_form (form.member_out (member_of c xs))

pub init_bare : (c d : Cell Expr) → bare init_form (rec_init_of c d) ≡ f.init (unlocated (located expr_form c)) (unlocated (located expr_form d))
unfolding unlocated_form
init_bare c d = ap unlocated_form (form.init_out (rec_init_of c d))

pub only_bare : (c : Cell Or) → bare expr_form (expr_of c) ≡ f.only (unlocated (located or_form c))
unfolding unlocated_form
only_bare c = ap unlocated_form (expr_made c)

pub if_bare : (a b c : Cell Expr) → bare expr_form (if_of a b c) ≡ f.ite (unlocated (located expr_form a)) (unlocated (located expr_form b)) (unlocated (located expr_form c))
unfolding unlocated_form
if_bare a b c = ap unlocated_form (if_made a b c)

pub has_bare : (a b : Cell Add) → bare relation_form (has_of a b) ≡ f.has (unlocated (located add_form a)) (unlocated (located add_form b))
unfolding unlocated_form
has_bare a b = ap unlocated_form (form.relation_has a b)

pub like_bare : (a b : Cell Add) → bare relation_form (like_of a b) ≡ f.like (unlocated (located add_form a)) (unlocated (located add_form b))
unfolding unlocated_form
like_bare a b = ap unlocated_form (form.relation_like a b)

pub is_bare : (a b : Cell Add) → bare relation_form (is_of a b None) ≡ f.is (unlocated (located add_form a)) (unlocated (located add_form b))
unfolding unlocated_form
is_bare a b = ap unlocated_form (form.relation_is a b)

pub is_in_bare : (a b c : Cell Add) → bare relation_form (is_of a b (Some c)) ≡ f.is_in (unlocated (located add_form a)) (unlocated (located add_form b)) (unlocated (located add_form c))
unfolding unlocated_form
is_in_bare a b c = ap unlocated_form (form.relation_is_in a b c)

-- a member alone, as a sum and as an expression
abbrev pub alone : Level → Form → Form
alone level a = f.chain level (at None a) f.none

abbrev pub lone_sum : Form → Form
lone_sum a = alone sum (alone product (f.unary None (at None a)))

abbrev pub lone_whole : Form → Form
lone_whole a = f.only (at None (alone disjunction (alone conjunction (alone relation (lone_sum a)))))

pub lone_sum_bare : (src : List ℕ) (ts : List Lexeme) (x : Member) → bare add_form (lone_add src ts x) ≡ lone_sum (bare member_form x)
unfolding unlocated_parts unlocated
lone_sum_bare src ts x =
    add_bare (placed src ts (mult_of (placed src ts (unary_of None (placed src ts x))) [])) []
    ∙ ap (λ a. alone sum a) (mult_bare (placed src ts (unary_of None (placed src ts x))) [] ∙ ap (λ a. alone product a) (unary_bare None (placed src ts x)))

pub lone_whole_bare : (src : List ℕ) (ts : List Lexeme) (x : Member) → bare expr_form (lone_expr src ts x) ≡ lone_whole (bare member_form x)
unfolding unlocated_parts unlocated
lone_whole_bare src ts x =
    let r = common_of (placed src ts (lone_add src ts x)) [] in
    let a = and_of (placed src ts r) [] in
    let o = or_of (placed src ts a) [] in
    only_bare (placed src ts o)
    ∙ ap (λ b. f.only (at None b)) (or_bare (placed src ts a) [] ∙ ap (λ b. alone disjunction b) (and_bare (placed src ts r) [] ∙ ap (λ b. alone conjunction b) (common_bare (placed src ts (lone_add src ts x)) [] ∙ ap (λ b. alone relation b) (lone_sum_bare src ts x))))

-- ---- operators

unfoldable pub rel_word : RelOp → TokenText
rel_word rel.Less = word kind.Less (codes "<")
rel_word rel.LessEq = word kind.LessEq (codes "<=")
rel_word rel.GreaterEq = word kind.GreaterEq (codes ">=")
rel_word rel.Greater = word kind.Greater (codes ">")
rel_word rel.NotEq = word kind.NotEq (codes "!=")
rel_word rel.Eq = word kind.EqEq (codes "==")
rel_word rel.In = word kind.In (codes "in")
rel_word rel.InvalidSingleEq = word kind.Eq (codes "=")

pub rel_spelled : (o : RelOp) → Spells (rel_word o).kind (rel_word o).text
unfolding rel_word
rel_spelled rel.Less = refl
rel_spelled rel.LessEq = refl
rel_spelled rel.GreaterEq = refl
rel_spelled rel.Greater = refl
rel_spelled rel.NotEq = refl
rel_spelled rel.Eq = refl
rel_spelled rel.In = refl
rel_spelled rel.InvalidSingleEq = refl

pub rel_prints : (o : RelOp) → operator_texts (t.compare o) ≡ (rel_word o).text ∷ []
unfolding rel_word
rel_prints rel.Less = refl
rel_prints rel.LessEq = refl
rel_prints rel.GreaterEq = refl
rel_prints rel.Greater = refl
rel_prints rel.NotEq = refl
rel_prints rel.Eq = refl
rel_prints rel.In = refl
rel_prints rel.InvalidSingleEq = refl

pub rel_reads : (o : RelOp) → ReadsRelOp (rel_word o).kind o
unfolding rel_word
rel_reads rel.Less = l.less
rel_reads rel.LessEq = l.less_eq
rel_reads rel.GreaterEq = l.greater_eq
rel_reads rel.Greater = l.greater
rel_reads rel.NotEq = l.not_eq
rel_reads rel.Eq = l.equal
rel_reads rel.In = l.within
rel_reads rel.InvalidSingleEq = l.single_eq

unfoldable pub add_word : AddOp → TokenText
add_word sums.Plus = word kind.Plus (codes "+")
add_word sums.Minus = word kind.Minus (codes "-")

pub add_spelled : (o : AddOp) → Spells (add_word o).kind (add_word o).text
unfolding add_word
add_spelled sums.Plus = refl
add_spelled sums.Minus = refl

pub add_prints : (o : AddOp) → operator_texts (t.add o) ≡ (add_word o).text ∷ []
unfolding add_word
add_prints sums.Plus = refl
add_prints sums.Minus = refl

pub add_reads : (o : AddOp) → ReadsAddOp (add_word o).kind o
unfolding add_word
add_reads sums.Plus = signs.plus
add_reads sums.Minus = signs.minus

unfoldable pub mult_word : MultOp → TokenText
mult_word products.Times = word kind.Star (codes "*")
mult_word products.Divide = word kind.Slash (codes "/")
mult_word products.Mod = word kind.Percent (codes "%")

pub mult_spelled : (o : MultOp) → Spells (mult_word o).kind (mult_word o).text
unfolding mult_word
mult_spelled products.Times = refl
mult_spelled products.Divide = refl
mult_spelled products.Mod = refl

pub mult_prints : (o : MultOp) → operator_texts (t.multiply o) ≡ (mult_word o).text ∷ []
unfolding mult_word
mult_prints products.Times = refl
mult_prints products.Divide = refl
mult_prints products.Mod = refl

pub mult_reads : (o : MultOp) → ReadsMultOp (mult_word o).kind o
unfolding mult_word
mult_reads products.Times = l.times
mult_reads products.Divide = l.divide
mult_reads products.Mod = l.modulo

-- ---- signs: more than the limit are one more than it

pub record Signed (of : ℕ → NegOp) (text : List ℕ) (n : ℕ) : Type 0 where
  pub written_as : ℕ
  pub same : of (written_as + 1) ≡ of n
  pub prints : replicate (written_as + 1) text ≡ neg_op_texts (of n)

pub banged : (n : ℕ) → 0 < n → Signed bangs_of (codes "!") n
banged zero h = absurd (omega arith)
banged (suc n) h = go (nat_le (suc n) sign_limit) refl
  where
    go : (b : Bool) → nat_le (suc n) sign_limit ≡ b → Signed bangs_of (codes "!") (suc n)
    go true e = let g : n + 1 ≡ suc n = omega arith in record { written_as = n; same = ap bangs_of g; prints = ap (λ m. replicate m (codes "!")) g ∙ ap (λ b. neg_op_texts (cond b (neg.Bang (suc n)) neg.OverBang)) (sym e) }
    go false e = record { written_as = sign_limit; same = ap (λ b. cond b (neg.Bang (suc n)) neg.OverBang) (sym e); prints = ap (λ b. neg_op_texts (cond b (neg.Bang (suc n)) neg.OverBang)) (sym e) }

pub dashed : (n : ℕ) → 0 < n → Signed dashes_of (codes "-") n
dashed zero h = absurd (omega arith)
dashed (suc n) h = go (nat_le (suc n) sign_limit) refl
  where
    go : (b : Bool) → nat_le (suc n) sign_limit ≡ b → Signed dashes_of (codes "-") (suc n)
    go true e = let g : n + 1 ≡ suc n = omega arith in record { written_as = n; same = ap dashes_of g; prints = ap (λ m. replicate m (codes "-")) g ∙ ap (λ b. neg_op_texts (cond b (neg.Dash (suc n)) neg.OverDash)) (sym e) }
    go false e = record { written_as = sign_limit; same = ap (λ b. cond b (neg.Dash (suc n)) neg.OverDash) (sym e); prints = ap (λ b. neg_op_texts (cond b (neg.Dash (suc n)) neg.OverDash)) (sym e) }

signs_texts : (w : TokenText) (n : ℕ) → texts_of (replicate n w) ≡ replicate n w.text
signs_texts w zero = refl
signs_texts w (suc n) = ap (λ xs. w.text ∷ xs) (signs_texts w n)

signs_spelled : (w : TokenText) (n : ℕ) → Spells w.kind w.text → AreSpelled (replicate n w)
signs_spelled w zero s = tt
signs_spelled w (suc n) s = (s, signs_spelled w n s)

pub some_signs : {k : TokenKind} {ts : List Lexeme} {n : ℕ} → ReadsSigns k ts n → 0 < n
some_signs (one_sign p) = omega arith
some_signs (more_signs p r) = omega arith

pub signed : (w : TokenText) (of : ℕ → NegOp) (n : ℕ) (a : Form) → Spells w.kind w.text → Signed of w.text n
    → ((src : List ℕ) (ts us : List Lexeme) (m : ℕ) (x : Member) → ReadsSigns w.kind ts m → ReadsMember src us x → ReadsUnary src (ts ++ us) (unary_of (Some (of m)) (placed src us x)))
    → NodeOf ReadsMember member_form a → NodeOf ReadsUnary unary_form (f.unary (Some (of n)) (at None a))
unfolding unplaced_tree unplaced_tree_form printed
signed w of n a e s rule k =
    let ws = replicate (s.written_as + 1) w in
    let g : suc s.written_as ≡ s.written_as + 1 = omega arith in
    record {
      words = ws ++ k.words;
      spelled = both_spelled ws k.words (signs_spelled w (s.written_as + 1) e) k.spelled;
      prints = texts-append ws k.words ∙ ap₂ (λ (xs ys : Texts). xs ++ ys) (signs_texts w (s.written_as + 1) ∙ s.prints) k.prints;
      again = beside_as (λ src ts us x y. record {
        tree = unary_of (Some (of x.tree)) (placed src us y.tree);
        reads = rule src ts us x.tree y.tree x.reads y.reads;
        same = unary_bare (Some (of x.tree)) (placed src us y.tree) ∙ ap₂ (λ (m : ℕ) (n : Located). f.unary (Some (of m)) n) x.same (placed_here member_form src us y.tree ∙ ap (at None) y.same)
            ∙ ap (λ o. f.unary (Some o) (at None a)) (ap of g ∙ s.same);
      }) (signs_as w s.written_as) k.again;
    }
