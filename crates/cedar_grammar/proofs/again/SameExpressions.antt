-- What tokens are read as by the rules of expressions, others with the same words are read as too:
-- the induction.
use Rattle.std.proofs.Common.{◌≡◌, ℕ, ◌+◌, List, [], ◌∷◌, ◌++◌, Option, Some, None, refl, sym, ap, ap₂, ◌∙◌, subst}
use Rattle.cedar_lexer.specs.Token.{Lexeme}
use Rattle.cedar_lexer.specs.declared.token.TokenKind.{TokenKind}
use Rattle.cedar_lexer.specs.declared.token.TokenKind.TheVariants as kind
use Rattle.cedar_expressions.specs.declared.operators.AddOp.{AddOp}
use Rattle.cedar_syntax.specs.declared.cst.Expr.{Expr}
use Rattle.cedar_syntax.specs.declared.cst.Or.{Or}
use Rattle.cedar_syntax.specs.declared.cst.And.{And}
use Rattle.cedar_syntax.specs.declared.cst.RelOp.{RelOp}
use Rattle.cedar_syntax.specs.declared.cst.Relation.{Relation}
use Rattle.cedar_syntax.specs.declared.cst.Add.{Add}
use Rattle.cedar_syntax.specs.declared.cst.MultOp.{MultOp}
use Rattle.cedar_syntax.specs.declared.cst.Mult.{Mult}
use Rattle.cedar_syntax.specs.declared.cst.NegOp.{NegOp}
use Rattle.cedar_syntax.specs.declared.cst.Unary.{Unary}
use Rattle.cedar_syntax.specs.declared.cst.Member.{Member}
use Rattle.cedar_syntax.specs.declared.cst.MemAccess.{MemAccess}
use Rattle.cedar_syntax.specs.declared.cst.MemAccess.TheVariants as accesses
use Rattle.cedar_syntax.specs.declared.cst.Primary.{Primary}
use Rattle.cedar_syntax.specs.declared.cst.Primary.TheVariants as primaries
use Rattle.cedar_syntax.specs.declared.cst.Literal.{Literal}
use Rattle.cedar_syntax.specs.declared.cst.Slot.{Slot}
use Rattle.cedar_syntax.specs.declared.cst.Ident.{Ident}
use Rattle.cedar_syntax.specs.declared.cst.Name.{Name}
use Rattle.cedar_syntax.specs.declared.cst.Ref.{Ref}
use Rattle.cedar_syntax.specs.declared.cst.RecInit.{RecInit}
use Rattle.cedar_syntax.specs.declared.node.Node.{Node}
use Rattle.cedar_syntax.specs.trees.Forms.{located, expr_form, or_form, and_form, relation_form, add_form, mult_form, unary_form, member_form, access_form, primary_form, init_form, or_operand, and_operand, relation_operand, add_operand, mult_operand, listed_access}
use Rattle.cedar_grammar.specs.grammar.Grammar.{Rule}
use Rattle.cedar_syntax.specs.trees.Located as f
use Rattle.cedar_syntax.specs.trees.Located.{Located, Form, Parts, at, none, more}
use Rattle.cedar_grammar.specs.grammar.LooseExpressions as l
use Rattle.cedar_grammar.specs.grammar.LooseExpressions.{ReadsExpr, ReadsOr, ReadsAnds, ReadsAnd, ReadsRelations, ReadsRelation, ReadsAdds, ReadsAdd, ReadsMults, ReadsMult, ReadsUnaries, ReadsUnary, ReadsMember, ReadsAccesses, ReadsAccess, ReadsPrimary, ReadsExprs, ReadsExprItems, ReadsRecInits, ReadsInitItems, ReadsRecInit, ReadsSlot, lone_add, lone_expr, if_name}
use Rattle.cedar_grammar.specs.grammar.LooseWords.{ReadsAny, ReadsLiteral, ReadsName, ReadsRef}
use Rattle.cedar_grammar.specs.grammar.Place.{placed}
use Rattle.cedar_syntax.specs.tokens.Signs.{ReadsSigns, one_sign, more_signs}
use Rattle.cedar_syntax.specs.tokens.Tokens.{Spot, one}
use Rattle.cedar_syntax.specs.trees.Tree as t
use Rattle.cedar_syntax.specs.trees.Tree.{Operator, Level, disjunction, conjunction, relation, sum, product, beside}
use Rattle.cedar_syntax.specs.trees.Trees.{Cell, bangs_of, dashes_of, expr_of, if_of, or_of, and_of, common_of, has_of, like_of, is_of, add_of, mult_of, unary_of, member_of, rec_init_of}
use Rattle.cedar_syntax.specs.trees.Unlocated.{unlocated, unlocated_form, unlocated_parts, unlocated_literal, unlocated_name, unlocated_ref}
use Rattle.cedar_syntax.proofs.FormLevels as form
use Rattle.cedar_grammar.proofs.again.Rereading.{ReadAs, same_as, token_as, prefix_as}
use Rattle.cedar_grammar.proofs.again.Chains.{bare, placed_here, Row, bare_row, RowRule, rowed, snoc, snoc_bare, one_part, more_parts, bare_items, row_first, row_next, signs_rule, count}
use Rattle.cedar_grammar.proofs.again.Expressions.{or_bare, and_bare, common_bare, add_bare, mult_bare, unary_bare, member_bare, init_bare, only_bare, if_bare, has_bare, like_bare, is_bare, is_in_bare, lone_sum, lone_whole, lone_sum_bare, lone_whole_bare}
use Rattle.cedar_grammar.proofs.again.Cases.{there, bare_accesses, if_primary, if_name_bare, ReadsGuard, guard, ReadsThen, both, ReadsTyped, typed, ReadsIfMember, if_member, ReadsIfKey, if_key, conditional_read, typed_in_read, has_if_read, if_init_read, two_bare, pair_is}
use Rattle.cedar_grammar.proofs.again.SameWords.{at_spot, around, Same, infix_same, beside_same, suffix_same, bracket_same, nothing_same, any_same, literal_same, name_same, ref_same}

-- ---- forms that rules have in common

node_same : {X : Type 0} (form : X → Form) (src other : List ℕ) (ts us : List Lexeme) (x y : X) → bare form x ≡ bare form y → unlocated (located form (placed src ts x)) ≡ unlocated (located form (placed other us y))
node_same form src other ts us x y e = placed_here form src ts x ∙ ap (at None) e ∙ sym (placed_here form other us y)

-- a rule that takes one part's tokens
lifted_same : {X Y : Type 0} (R : Rule X) (S : Rule Y) (fx : X → Form) (fy : Y → Form) (wrap : Located → Form) (make : Cell X → Y) (src : List ℕ) (ts : List Lexeme) (x : X)
    → ((src : List ℕ) (ts : List Lexeme) (x : X) → R src ts x → S src ts (make (placed src ts x))) → ((c : Cell X) → bare fy (make c) ≡ wrap (unlocated (located fx c)))
    → Same R (bare fx) (bare fx x) ts → Same S (bare fy) (bare fy (make (placed src ts x))) ts
lifted_same R S fx fy wrap make src ts x rule is h =
    same_as {S = S} {by = bare fy} {b = bare fy (make (placed src ts x))} (λ other us a. record {
      tree = make (placed other us a.tree);
      reads = rule other us a.tree a.reads;
      same = is (placed other us a.tree) ∙ ap wrap (node_same fx other src us ts a.tree x a.same) ∙ sym (is (placed src ts x));
    }) h

-- two parts' tokens with one between
joined_same : {X Y Z : Type 0} (R : Rule X) (S : Rule Y) (T : Rule Z) (fx : X → Form) (fy : Y → Form) (fz : Z → Form) (wrap : Located → Located → Form) (make : Cell X → Cell Y → Z) (k : TokenKind) (p : Spot) (src : List ℕ) (ts us : List Lexeme) (x : X) (y : Y)
    → ((src : List ℕ) (ts us : List Lexeme) (x : X) (y : Y) (p : Spot) → R src ts x → S src us y → T src (ts ++ one k p ++ us) (make (placed src ts x) (placed src us y)))
    → ((c : Cell X) (d : Cell Y) → bare fz (make c d) ≡ wrap (unlocated (located fx c)) (unlocated (located fy d)))
    → Same R (bare fx) (bare fx x) ts → Same S (bare fy) (bare fy y) us → Same T (bare fz) (bare fz (make (placed src ts x) (placed src us y))) (ts ++ one k p ++ us)
joined_same R S T fx fy fz wrap make k p src ts us x y rule is h j =
    infix_same {T = T} {bz = bare fz} {c = bare fz (make (placed src ts x) (placed src us y))} k p ts us (λ other vs ws q e a b. record {
      tree = make (placed other vs a.tree) (placed other ws b.tree);
      reads = rule other vs ws a.tree b.tree q a.reads b.reads;
      same = is (placed other vs a.tree) (placed other ws b.tree) ∙ ap₂ wrap (node_same fx other src vs ts a.tree x a.same) (node_same fy other src ws us b.tree y b.same) ∙ sym (is (placed src ts x) (placed src us y));
    }) h j

-- a row that ends as a chain
chained_same : {X P Y : Type 0} (S : RowRule X P) (T : Rule Y) (fx : X → Form) (part : P → Operator × Located) (fy : Y → Form) (level : Level) (make : Cell X → List P → Y) (ts : List Lexeme) (x : Cell X) (xs : List P)
    → ((src : List ℕ) (ts : List Lexeme) (x : Cell X) (xs : List P) → S src ts x xs → T src ts (make x xs)) → ((x : Cell X) (xs : List P) → bare fy (make x xs) ≡ f.chain level (bare_row fx part (x, xs)).0 (bare_row fx part (x, xs)).1)
    → Same (rowed S) (bare_row fx part) (bare_row fx part (x, xs)) ts → Same T (bare fy) (bare fy (make x xs)) ts
chained_same S T fx part fy level make ts x xs rule is h =
    same_as {S = T} {by = bare fy} {b = bare fy (make x xs)}
    (λ src ts a. record { tree = make a.tree.0 a.tree.1; reads = rule src ts a.tree.0 a.tree.1 a.reads; same = is a.tree.0 a.tree.1 ∙ ap (λ (q : Row). f.chain level q.0 q.1) a.same ∙ sym (is x xs) }) h

first_same : {X P : Type 0} (R : Rule X) (S : RowRule X P) (form : X → Form) (part : P → Operator × Located) (src : List ℕ) (ts : List Lexeme) (x : X) → ((src : List ℕ) (ts : List Lexeme) (x : X) → R src ts x → S src ts (placed src ts x) [])
    → Same R (bare form) (bare form x) ts → Same (rowed S) (bare_row form part) (bare_row form part (placed src ts x, [])) ts
first_same R S form part src ts x rule h = subst (λ r. Same (rowed S) (bare_row form part) r ts) (row_first form part src ts x) (one_part R S form part rule h)

next_same : {X P : Type 0} (R : Rule X) (S : RowRule X P) (form : X → Form) (part : P → Operator × Located) (make : Cell X → P) (op : Operator) (k : TokenKind) (p : Spot) (src : List ℕ) (ts us : List Lexeme) (x : Cell X) (xs : List P) (y : X)
    → ((src : List ℕ) (ts us : List Lexeme) (x : Cell X) (xs : List P) (y : X) (p : Spot) → S src ts x xs → R src us y → S src (ts ++ one k p ++ us) x (xs ++ make (placed src us y) ∷ []))
    → ((c : Cell X) → part (make c) ≡ (op, located form c))
    → Same (rowed S) (bare_row form part) (bare_row form part (x, xs)) ts → Same R (bare form) (bare form y) us → Same (rowed S) (bare_row form part) (bare_row form part (x, xs ++ make (placed src us y) ∷ [])) (ts ++ one k p ++ us)
next_same R S form part make op k p src ts us x xs y rule is h j =
    subst (λ r. Same (rowed S) (bare_row form part) r (ts ++ one k p ++ us)) (row_next form part x xs make op src us y is)
    (subst (λ ws. ReadAs (rowed S) (bare_row form part) ((bare_row form part (x, xs)).0, snoc (bare_row form part (x, xs)).1 op (at None (bare form y))) ws) (around k p ts us)
    (more_parts R S form part make op (at_spot k p) rule is h j))

-- lists
item_same : {X : Type 0} (R : Rule X) (S : Rule (List (Cell X))) (form : X → Form) (src : List ℕ) (ts : List Lexeme) (x : X) → ((src : List ℕ) (ts : List Lexeme) (x : X) → R src ts x → S src ts (placed src ts x ∷ []))
    → Same R (bare form) (bare form x) ts → Same S (bare_items form) (bare_items form (placed src ts x ∷ [])) ts
unfolding unlocated_parts
item_same R S form src ts x rule h =
    same_as {S = S} {by = bare_items form} {b = bare_items form (placed src ts x ∷ [])}
    (λ other us a. record { tree = placed other us a.tree ∷ []; reads = rule other us a.tree a.reads; same = ap (λ l. more beside l none) (node_same form other src us ts a.tree x a.same) }) h

next_item_same : {X : Type 0} (R : Rule X) (S : Rule (List (Cell X))) (form : X → Form) (p : Spot) (src : List ℕ) (ts us : List Lexeme) (xs : List (Cell X)) (y : X)
    → ((src : List ℕ) (ts us : List Lexeme) (xs : List (Cell X)) (y : X) (p : Spot) → S src ts xs → R src us y → S src (ts ++ one kind.Comma p ++ us) (xs ++ placed src us y ∷ []))
    → Same S (bare_items form) (bare_items form xs) ts → Same R (bare form) (bare form y) us → Same S (bare_items form) (bare_items form (xs ++ placed src us y ∷ [])) (ts ++ one kind.Comma p ++ us)
next_item_same {X = X} R S form p src ts us xs y rule h j =
    infix_same {T = S} {bz = bare_items form} {c = bare_items form (xs ++ placed src us y ∷ [])} kind.Comma p ts us (λ other vs ws q e a b. record {
      tree = a.tree ++ placed other ws b.tree ∷ [];
      reads = rule other vs ws a.tree b.tree q a.reads b.reads;
      same = snoc_bare (λ (n : Cell X). (beside, located form n)) a.tree (placed other ws b.tree) ∙ ap₂ (λ (ps : Parts) (l : Located). snoc ps beside l) a.same (node_same form other src ws us b.tree y b.same) ∙ sym (snoc_bare (λ (n : Cell X). (beside, located form n)) xs (placed src us y));
    }) h j

-- a list's items alone, and with a comma behind the last
list_same : {X : Type 0} (S L : Rule (List (Cell X))) (form : X → Form) (ts : List Lexeme) (xs : List (Cell X)) → ((src : List ℕ) (ts : List Lexeme) (xs : List (Cell X)) → S src ts xs → L src ts xs)
    → Same S (bare_items form) (bare_items form xs) ts → Same L (bare_items form) (bare_items form xs) ts
list_same S L form ts xs rule h = same_as {S = L} {by = bare_items form} {b = bare_items form xs} (λ src us a. record { tree = a.tree; reads = rule src us a.tree a.reads; same = a.same }) h

comma_same : {X : Type 0} (S L : Rule (List (Cell X))) (form : X → Form) (p : Spot) (ts : List Lexeme) (xs : List (Cell X)) → ((src : List ℕ) (ts : List Lexeme) (xs : List (Cell X)) (p : Spot) → S src ts xs → L src (ts ++ one kind.Comma p) xs)
    → Same S (bare_items form) (bare_items form xs) ts → Same L (bare_items form) (bare_items form xs) (ts ++ one kind.Comma p)
comma_same S L form p ts xs rule h =
    suffix_same {T = L} {bz = bare_items form} {c = bare_items form xs} kind.Comma p ts (λ src us q e a. record { tree = a.tree; reads = rule src us a.tree q a.reads; same = a.same }) h

-- a list's items between brackets
enclosed_same : {X Z : Type 0} (L : Rule (List (Cell X))) (T : Rule Z) (form : X → Form) (fz : Z → Form) (wrap : Parts → Form) (make : List (Cell X) → Z) (j k : TokenKind) (p q : Spot) (ts : List Lexeme) (xs : List (Cell X))
    → ((src : List ℕ) (ts : List Lexeme) (xs : List (Cell X)) (p q : Spot) → L src ts xs → T src (one j p ++ ts ++ one k q) (make xs)) → ((xs : List (Cell X)) → bare fz (make xs) ≡ wrap (bare_items form xs))
    → Same L (bare_items form) (bare_items form xs) ts → Same T (bare fz) (bare fz (make xs)) (one j p ++ ts ++ one k q)
enclosed_same L T form fz wrap make j k p q ts xs rule is h =
    bracket_same {T = T} {bz = bare fz} {c = bare fz (make xs)} j k p q ts (λ src us l m a. record { tree = make a.tree; reads = rule src us a.tree l m a.reads; same = is a.tree ∙ ap wrap a.same ∙ sym (is xs) }) h

-- an expression between brackets
inner_same : {Z : Type 0} (T : Rule Z) (fz : Z → Form) (wrap : Located → Form) (make : Cell Expr → Z) (j k : TokenKind) (p q : Spot) (src : List ℕ) (ts : List Lexeme) (x : Expr)
    → ((src : List ℕ) (ts : List Lexeme) (x : Expr) (p q : Spot) → ReadsExpr src ts x → T src (one j p ++ ts ++ one k q) (make (placed src ts x))) → ((c : Cell Expr) → bare fz (make c) ≡ wrap (unlocated (located expr_form c)))
    → Same ReadsExpr (bare expr_form) (bare expr_form x) ts → Same T (bare fz) (bare fz (make (placed src ts x))) (one j p ++ ts ++ one k q)
inner_same T fz wrap make j k p q src ts x rule is h =
    bracket_same {T = T} {bz = bare fz} {c = bare fz (make (placed src ts x))} j k p q ts (λ other us l m a. record {
      tree = make (placed other us a.tree);
      reads = rule other us a.tree l m a.reads;
      same = is (placed other us a.tree) ∙ ap wrap (node_same expr_form other src us ts a.tree x a.same) ∙ sym (is (placed src ts x));
    }) h

-- what holds no expression, as a primary
held_same : {X : Type 0} (R : Rule X) (bx : X → X) (wrap : Node (Option X) → Form) (make : Cell X → Primary) (src : List ℕ) (ts : List Lexeme) (x : X)
    → ((src : List ℕ) (ts : List Lexeme) (x : X) → R src ts x → ReadsPrimary src ts (make (placed src ts x))) → ((src : List ℕ) (ts : List Lexeme) (x : X) → bare primary_form (make (placed src ts x)) ≡ wrap (there (bx x)))
    → Same R bx (bx x) ts → Same ReadsPrimary (bare primary_form) (bare primary_form (make (placed src ts x))) ts
held_same R bx wrap make src ts x rule is h =
    same_as {S = ReadsPrimary} {by = bare primary_form} {b = bare primary_form (make (placed src ts x))}
    (λ other us a. record { tree = make (placed other us a.tree); reads = rule other us a.tree a.reads; same = is other us a.tree ∙ ap (λ b. wrap (there b)) a.same ∙ sym (is src ts x) }) h

-- ---- trees without their places

literal_bare : (src : List ℕ) (ts : List Lexeme) (x : Literal) → bare primary_form (primaries.Literal (placed src ts x)) ≡ f.literal (there (unlocated_literal x))
unfolding unlocated_form
literal_bare src ts x = ap unlocated_form (form.primary_literal (placed src ts x))

ref_bare : (src : List ℕ) (ts : List Lexeme) (x : Ref) → bare primary_form (primaries.Ref (placed src ts x)) ≡ f.reference (there (unlocated_ref x))
unfolding unlocated_form
ref_bare src ts x = ap unlocated_form (form.primary_ref (placed src ts x))

name_bare : (src : List ℕ) (ts : List Lexeme) (x : Name) → bare primary_form (primaries.Name (placed src ts x)) ≡ f.name (there (unlocated_name x))
unfolding unlocated_form
name_bare src ts x = ap unlocated_form (form.primary_name (placed src ts x))

slot_bare : (src : List ℕ) (ts : List Lexeme) (x : Slot) → bare primary_form (primaries.Slot (placed src ts x)) ≡ f.slot (there x)
unfolding unlocated_form
slot_bare src ts x = ap unlocated_form (form.primary_slot (placed src ts x))

paren_bare : (c : Cell Expr) → bare primary_form (primaries.Expr c) ≡ f.parens (unlocated (located expr_form c))
unfolding unlocated_form
paren_bare c = ap unlocated_form (form.primary_expr c)

set_bare : (xs : List (Cell Expr)) → bare primary_form (primaries.EList xs) ≡ f.set (bare_items expr_form xs)
unfolding unlocated_form
set_bare xs = ap unlocated_form (form.primary_list xs)

braces_bare : (xs : List (Cell RecInit)) → bare primary_form (primaries.RInits xs) ≡ f.record_of (bare_items init_form xs)
unfolding unlocated_form
braces_bare xs = ap unlocated_form (form.primary_inits xs)

field_bare : (src : List ℕ) (ts : List Lexeme) (i : Ident) → bare access_form (accesses.Field (placed src ts i)) ≡ f.field (there i)
unfolding unlocated_form
field_bare src ts i = ap unlocated_form (form.access_field (placed src ts i))

call_bare : (xs : List (Cell Expr)) → bare access_form (accesses.Call xs) ≡ f.call (bare_items expr_form xs)
unfolding unlocated_form
call_bare xs = ap unlocated_form (form.access_call xs)

index_bare : (c : Cell Expr) → bare access_form (accesses.Index c) ≡ f.index (unlocated (located expr_form c))
unfolding unlocated_form
index_bare c = ap unlocated_form (form.access_index c)

if_member_bare : (src : List ℕ) (us : List Lexeme) (q : Spot) (xs : List (Cell MemAccess)) → bare add_form (lone_add src (one kind.If q ++ us) (member_of (placed src (one kind.If q) (if_name src q)) xs)) ≡ lone_sum (f.member (at None if_primary) (bare_accesses xs))
if_member_bare src us q xs =
    let m = member_of (placed src (one kind.If q) (if_name src q)) xs in
    lone_sum_bare src (one kind.If q ++ us) m ∙ ap lone_sum (member_bare (placed src (one kind.If q) (if_name src q)) xs ∙ ap (λ n. f.member n (bare_accesses xs)) (if_name_bare src q))

if_key_bare : (src : List ℕ) (p : Spot) → bare expr_form (lone_expr src (one kind.If p) (member_of (placed src (one kind.If p) (if_name src p)) [])) ≡ lone_whole (f.member (at None if_primary) f.none)
unfolding unlocated_parts
if_key_bare src p =
    let m = member_of (placed src (one kind.If p) (if_name src p)) [] in
    lone_whole_bare src (one kind.If p) m ∙ ap lone_whole (member_bare (placed src (one kind.If p) (if_name src p)) [] ∙ ap (λ n. f.member n f.none) (if_name_bare src p))

-- ---- signs

signs_same : {k : TokenKind} {ts : List Lexeme} {n : ℕ} → ReadsSigns k ts n → Same (signs_rule k) count n ts
signs_same {k = k} (one_sign p) = token_as {T = signs_rule k} {bz = count} {c = 1} (at_spot k p) (λ src q e. record { tree = 1; reads = one_sign q; same = refl })
signs_same {k = k} (more_signs {ts = ts} {n = n} p r) = suffix_same {T = signs_rule k} {bz = count} {c = n + 1} k p ts (λ src us q e a. record { tree = a.tree + 1; reads = more_signs q a.reads; same = ap (λ m. m + 1) a.same }) (signs_same r)

signed_same : (k : TokenKind) (of : ℕ → NegOp) (n : ℕ) (src : List ℕ) (ts us : List Lexeme) (x : Member)
    → ((src : List ℕ) (ts us : List Lexeme) (m : ℕ) (x : Member) → ReadsSigns k ts m → ReadsMember src us x → ReadsUnary src (ts ++ us) (unary_of (Some (of m)) (placed src us x)))
    → ReadsSigns k ts n → Same ReadsMember (bare member_form) (bare member_form x) us → Same ReadsUnary (bare unary_form) (bare unary_form (unary_of (Some (of n)) (placed src us x))) (ts ++ us)
signed_same k of n src ts us x rule r h =
    beside_same {T = ReadsUnary} {bz = bare unary_form} {c = bare unary_form (unary_of (Some (of n)) (placed src us x))} ts us (λ other vs ws a b. record {
      tree = unary_of (Some (of a.tree)) (placed other ws b.tree);
      reads = rule other vs ws a.tree b.tree a.reads b.reads;
      same = unary_bare (Some (of a.tree)) (placed other ws b.tree) ∙ ap₂ (λ (m : ℕ) (n : Located). f.unary (Some (of m)) n) a.same (node_same member_form other src ws us b.tree x b.same) ∙ sym (unary_bare (Some (of n)) (placed src us x));
    }) (signs_same r) h

-- ---- rules of three parts

abbrev node_bare : {X : Type 0} → (X → Form) → Cell X → Located
node_bare form c = unlocated (located form c)

guard_same : (p : Spot) (src : List ℕ) (ts : List Lexeme) (x : Expr) → Same ReadsExpr (bare expr_form) (bare expr_form x) ts → Same ReadsGuard (node_bare expr_form) (node_bare expr_form (placed src ts x)) (one kind.If p ++ ts)
guard_same p src ts x h =
    prefix_as {T = ReadsGuard} {bz = node_bare expr_form} {c = node_bare expr_form (placed src ts x)} (at_spot kind.If p)
    (λ other us q e a. record { tree = placed other us a.tree; reads = guard q a.reads; same = node_same expr_form other src us ts a.tree x a.same }) h

then_same : (p q : Spot) (src : List ℕ) (ts us : List Lexeme) (c x : Expr) → Same ReadsExpr (bare expr_form) (bare expr_form c) ts → Same ReadsExpr (bare expr_form) (bare expr_form x) us
    → Same ReadsThen (two_bare expr_form) (two_bare expr_form (placed src ts c, placed src us x)) (one kind.If p ++ ts ++ one kind.Then q ++ us)
then_same p q src ts us c x h j =
    infix_same {T = ReadsThen} {bz = two_bare expr_form} {c = two_bare expr_form (placed src ts c, placed src us x)} kind.Then q (one kind.If p ++ ts) us
    (λ other vs ws r e a b. record { tree = (a.tree, placed other ws b.tree); reads = both r a.reads b.reads; same = pair_is a.same (node_same expr_form other src ws us b.tree x b.same) }) (guard_same p src ts c h) j

conditional_same : (p q n : Spot) (src : List ℕ) (ts us vs : List Lexeme) (c x y : Expr) → Same ReadsExpr (bare expr_form) (bare expr_form c) ts → Same ReadsExpr (bare expr_form) (bare expr_form x) us → Same ReadsExpr (bare expr_form) (bare expr_form y) vs
    → Same ReadsExpr (bare expr_form) (bare expr_form (if_of (placed src ts c) (placed src us x) (placed src vs y))) (one kind.If p ++ ts ++ one kind.Then q ++ us ++ one kind.Else n ++ vs)
conditional_same p q n src ts us vs c x y h i j =
    infix_same {T = ReadsExpr} {bz = bare expr_form} {c = bare expr_form (if_of (placed src ts c) (placed src us x) (placed src vs y))} kind.Else n (one kind.If p ++ ts ++ one kind.Then q ++ us) vs (λ other ws zs r e a b. record {
      tree = if_of a.tree.0 a.tree.1 (placed other zs b.tree);
      reads = conditional_read r a.reads b.reads;
      same = if_bare a.tree.0 a.tree.1 (placed other zs b.tree) ∙ ap₂ (λ (q : Located × Located) (n : Located). f.ite q.0 q.1 n) a.same (node_same expr_form other src zs vs b.tree y b.same) ∙ sym (if_bare (placed src ts c) (placed src us x) (placed src vs y));
    }) (then_same p q src ts us c x h i) j

typed_same : (p : Spot) (src : List ℕ) (ts us : List Lexeme) (x y : Add) → Same ReadsAdd (bare add_form) (bare add_form x) ts → Same ReadsAdd (bare add_form) (bare add_form y) us
    → Same ReadsTyped (two_bare add_form) (two_bare add_form (placed src ts x, placed src us y)) (ts ++ one kind.Is p ++ us)
typed_same p src ts us x y h j =
    infix_same {T = ReadsTyped} {bz = two_bare add_form} {c = two_bare add_form (placed src ts x, placed src us y)} kind.Is p ts us
    (λ other vs ws r e a b. record { tree = (placed other vs a.tree, placed other ws b.tree); reads = typed r a.reads b.reads; same = pair_is (node_same add_form other src vs ts a.tree x a.same) (node_same add_form other src ws us b.tree y b.same) }) h j

typed_in_same : (p q : Spot) (src : List ℕ) (ts us vs : List Lexeme) (x y z : Add) → Same ReadsAdd (bare add_form) (bare add_form x) ts → Same ReadsAdd (bare add_form) (bare add_form y) us → Same ReadsAdd (bare add_form) (bare add_form z) vs
    → Same ReadsRelation (bare relation_form) (bare relation_form (is_of (placed src ts x) (placed src us y) (Some (placed src vs z)))) (ts ++ one kind.Is p ++ us ++ one kind.In q ++ vs)
typed_in_same p q src ts us vs x y z h i j =
    infix_same {T = ReadsRelation} {bz = bare relation_form} {c = bare relation_form (is_of (placed src ts x) (placed src us y) (Some (placed src vs z)))} kind.In q (ts ++ one kind.Is p ++ us) vs (λ other ws zs r e a b. record {
      tree = is_of a.tree.0 a.tree.1 (Some (placed other zs b.tree));
      reads = typed_in_read r a.reads b.reads;
      same = is_in_bare a.tree.0 a.tree.1 (placed other zs b.tree) ∙ ap₂ (λ (q : Located × Located) (n : Located). f.is_in q.0 q.1 n) a.same (node_same add_form other src zs vs b.tree z b.same) ∙ sym (is_in_bare (placed src ts x) (placed src us y) (placed src vs z));
    }) (typed_same p src ts us x y h i) j

if_member_same : (q : Spot) (src : List ℕ) (us : List Lexeme) (xs : List (Cell MemAccess)) → Same ReadsAccesses bare_accesses (bare_accesses xs) us
    → Same ReadsIfMember (bare add_form) (bare add_form (lone_add src (one kind.If q ++ us) (member_of (placed src (one kind.If q) (if_name src q)) xs))) (one kind.If q ++ us)
if_member_same q src us xs h =
    prefix_as {T = ReadsIfMember} {bz = bare add_form} {c = bare add_form (lone_add src (one kind.If q ++ us) (member_of (placed src (one kind.If q) (if_name src q)) xs))} (at_spot kind.If q) (λ other vs r e a. record {
      tree = lone_add other (one kind.If r ++ vs) (member_of (placed other (one kind.If r) (if_name other r)) a.tree);
      reads = if_member r a.reads;
      same = if_member_bare other vs r a.tree ∙ ap (λ ps. lone_sum (f.member (at None if_primary) ps)) a.same ∙ sym (if_member_bare src us q xs);
    }) h

if_key_same : (p : Spot) (src : List ℕ) → Same ReadsIfKey (bare expr_form) (bare expr_form (lone_expr src (one kind.If p) (member_of (placed src (one kind.If p) (if_name src p)) []))) (one kind.If p)
if_key_same p src =
    token_as {T = ReadsIfKey} {bz = bare expr_form} {c = bare expr_form (lone_expr src (one kind.If p) (member_of (placed src (one kind.If p) (if_name src p)) []))} (at_spot kind.If p)
    (λ other q e. record { tree = lone_expr other (one kind.If q) (member_of (placed other (one kind.If q) (if_name other q)) []); reads = if_key q; same = if_key_bare other q ∙ sym (if_key_bare src p) })

-- ---- members and accesses

member_same_as : (src : List ℕ) (ts us : List Lexeme) (x : Primary) (xs : List (Cell MemAccess)) → Same ReadsPrimary (bare primary_form) (bare primary_form x) ts → Same ReadsAccesses bare_accesses (bare_accesses xs) us
    → Same ReadsMember (bare member_form) (bare member_form (member_of (placed src ts x) xs)) (ts ++ us)
member_same_as src ts us x xs h j =
    beside_same {T = ReadsMember} {bz = bare member_form} {c = bare member_form (member_of (placed src ts x) xs)} ts us (λ other vs ws a b. record {
      tree = member_of (placed other vs a.tree) b.tree;
      reads = l.member a.reads b.reads;
      same = member_bare (placed other vs a.tree) b.tree ∙ ap₂ f.member (node_same primary_form other src vs ts a.tree x a.same) b.same ∙ sym (member_bare (placed src ts x) xs);
    }) h j

no_access_same : Same ReadsAccesses bare_accesses (bare_accesses []) []
no_access_same = nothing_same {T = ReadsAccesses} {bz = bare_accesses} {c = bare_accesses []} (λ src. record { tree = []; reads = l.no_access; same = refl })

next_access_same : (src : List ℕ) (ts us : List Lexeme) (xs : List (Cell MemAccess)) (x : MemAccess) → Same ReadsAccesses bare_accesses (bare_accesses xs) ts → Same ReadsAccess (bare access_form) (bare access_form x) us
    → Same ReadsAccesses bare_accesses (bare_accesses (xs ++ placed src us x ∷ [])) (ts ++ us)
next_access_same src ts us xs x h j =
    beside_same {T = ReadsAccesses} {bz = bare_accesses} {c = bare_accesses (xs ++ placed src us x ∷ [])} ts us (λ other vs ws a b. record {
      tree = a.tree ++ placed other ws b.tree ∷ [];
      reads = l.more_access a.reads b.reads;
      same = snoc_bare listed_access a.tree (placed other ws b.tree) ∙ ap₂ (λ (ps : Parts) (n : Located). snoc ps beside n) a.same (node_same access_form other src ws us b.tree x b.same) ∙ sym (snoc_bare listed_access xs (placed src us x));
    }) h j

field_same : (p : Spot) (src : List ℕ) (ts : List Lexeme) (i : Ident) → ReadsAny ts i → Same ReadsAccess (bare access_form) (bare access_form (accesses.Field (placed src ts i))) (one kind.Dot p ++ ts)
field_same p src ts i r =
    prefix_as {T = ReadsAccess} {bz = bare access_form} {c = bare access_form (accesses.Field (placed src ts i))} (at_spot kind.Dot p)
    (λ other us q e a. record { tree = accesses.Field (placed other us a.tree); reads = l.field q a.reads; same = field_bare other us a.tree ∙ ap (λ j. f.field (there j)) a.same ∙ sym (field_bare src ts i) }) (any_same r)

slotted_same : (k : TokenKind) (p : Spot) (src : List ℕ) (x : Slot) → ReadsSlot k p.text x → Same ReadsPrimary (bare primary_form) (bare primary_form (primaries.Slot (placed src (one k p) x))) (one k p)
slotted_same k p src x r =
    token_as {T = ReadsPrimary} {bz = bare primary_form} {c = bare primary_form (primaries.Slot (placed src (one k p) x))} (at_spot k p)
    (λ other q e. record { tree = primaries.Slot (placed other (one k q) x); reads = l.slotted q (subst (λ u. ReadsSlot k u x) (sym e) r); same = slot_bare other (one k q) x ∙ sym (slot_bare src (one k p) x) })

-- ---- the induction

abbrev pub SameForm : {X : Type 0} → Rule X → (X → Form) → List Lexeme → X → Type 0
SameForm R form ts x = Same R (bare form) (bare form x) ts

abbrev SameRow : {X P : Type 0} → RowRule X P → (X → Form) → (P → Operator × Located) → List Lexeme → Cell X → List P → Type 0
SameRow S form part ts x xs = Same (rowed S) (bare_row form part) (bare_row form part (x, xs)) ts

abbrev SameItems : {X : Type 0} → Rule (List (Cell X)) → (X → Form) → List Lexeme → List (Cell X) → Type 0
SameItems L form ts xs = Same L (bare_items form) (bare_items form xs) ts

mutual
  pub expr_same : {src : List ℕ} {ts : List Lexeme} {x : Expr} → ReadsExpr src ts x → SameForm ReadsExpr expr_form ts x
  expr_same {src = src} (l.or_expr {ts = ts} {x = x} r) = lifted_same ReadsOr ReadsExpr or_form expr_form f.only expr_of src ts x (λ src ts x r. l.or_expr r) only_bare (or_same r)
  expr_same {src = src} (l.if_expr {ts = ts} {us = us} {vs = vs} {c = c} {x = x} {y = y} p q n r i j) = conditional_same p q n src ts us vs c x y (expr_same r) (expr_same i) (expr_same j)

  or_same : {src : List ℕ} {ts : List Lexeme} {x : Or} → ReadsOr src ts x → SameForm ReadsOr or_form ts x
  or_same (l.or {ts = ts} {x = x} {xs = xs} r) = chained_same ReadsAnds ReadsOr and_form or_operand or_form disjunction or_of ts x xs (λ src ts x xs r. l.or r) or_bare (ands_same r)

  ands_same : {src : List ℕ} {ts : List Lexeme} {x : Cell And} {xs : List (Cell And)} → ReadsAnds src ts x xs → SameRow ReadsAnds and_form or_operand ts x xs
  ands_same {src = src} (l.one_and {ts = ts} {x = x} r) = first_same ReadsAnd ReadsAnds and_form or_operand src ts x (λ src ts x r. l.one_and r) (and_same r)
  ands_same {src = src} (l.more_and {ts = ts} {us = us} {x = x} {y = y} {xs = xs} p r i) =
      next_same ReadsAnd ReadsAnds and_form or_operand (λ c. c) t.or_or kind.OrOr p src ts us x xs y (λ src ts us x xs y p r s. l.more_and p r s) (λ c. refl) (ands_same r) (and_same i)

  and_same : {src : List ℕ} {ts : List Lexeme} {x : And} → ReadsAnd src ts x → SameForm ReadsAnd and_form ts x
  and_same (l.and {ts = ts} {x = x} {xs = xs} r) = chained_same ReadsRelations ReadsAnd relation_form and_operand and_form conjunction and_of ts x xs (λ src ts x xs r. l.and r) and_bare (relations_same r)

  relations_same : {src : List ℕ} {ts : List Lexeme} {x : Cell Relation} {xs : List (Cell Relation)} → ReadsRelations src ts x xs → SameRow ReadsRelations relation_form and_operand ts x xs
  relations_same {src = src} (l.one_relation {ts = ts} {x = x} r) = first_same ReadsRelation ReadsRelations relation_form and_operand src ts x (λ src ts x r. l.one_relation r) (relation_same r)
  relations_same {src = src} (l.more_relation {ts = ts} {us = us} {x = x} {y = y} {xs = xs} p r i) =
      next_same ReadsRelation ReadsRelations relation_form and_operand (λ c. c) t.and_and kind.AndAnd p src ts us x xs y (λ src ts us x xs y p r s. l.more_relation p r s) (λ c. refl) (relations_same r) (relation_same i)

  relation_same : {src : List ℕ} {ts : List Lexeme} {x : Relation} → ReadsRelation src ts x → SameForm ReadsRelation relation_form ts x
  relation_same (l.common {ts = ts} {x = x} {xs = xs} r) = chained_same ReadsAdds ReadsRelation add_form relation_operand relation_form relation common_of ts x xs (λ src ts x xs r. l.common r) common_bare (adds_same r)
  relation_same {src = src} (l.has {ts = ts} {us = us} {x = x} {y = y} p r i) =
      joined_same ReadsAdd ReadsAdd ReadsRelation add_form add_form relation_form f.has has_of kind.Has p src ts us x y (λ src ts us x y p r s. l.has p r s) has_bare (add_same r) (add_same i)
  relation_same {src = src} (l.has_if {ts = ts} {us = us} {x = x} {xs = xs} p q r i) =
      joined_same ReadsAdd ReadsIfMember ReadsRelation add_form add_form relation_form f.has has_of kind.Has p src ts (one kind.If q ++ us) x (lone_add src (one kind.If q ++ us) (member_of (placed src (one kind.If q) (if_name src q)) xs)) (λ src ts us x y p r s. has_if_read p r s) has_bare
      (add_same r) (if_member_same q src us xs (accesses_same i))
  relation_same {src = src} (l.like {ts = ts} {us = us} {x = x} {y = y} p r i) =
      joined_same ReadsAdd ReadsAdd ReadsRelation add_form add_form relation_form f.like like_of kind.Like p src ts us x y (λ src ts us x y p r s. l.like p r s) like_bare (add_same r) (add_same i)
  relation_same {src = src} (l.is {ts = ts} {us = us} {x = x} {y = y} p r i) =
      joined_same ReadsAdd ReadsAdd ReadsRelation add_form add_form relation_form f.is (λ c d. is_of c d None) kind.Is p src ts us x y (λ src ts us x y p r s. l.is p r s) is_bare (add_same r) (add_same i)
  relation_same {src = src} (l.is_in {ts = ts} {us = us} {vs = vs} {x = x} {y = y} {z = z} p q r i j) = typed_in_same p q src ts us vs x y z (add_same r) (add_same i) (add_same j)

  adds_same : {src : List ℕ} {ts : List Lexeme} {x : Cell Add} {xs : List (RelOp × Cell Add)} → ReadsAdds src ts x xs → SameRow ReadsAdds add_form relation_operand ts x xs
  adds_same {src = src} (l.one_add {ts = ts} {x = x} r) = first_same ReadsAdd ReadsAdds add_form relation_operand src ts x (λ src ts x r. l.one_add r) (add_same r)
  adds_same {src = src} (l.more_add {ts = ts} {us = us} {k = k} {o = o} {x = x} {y = y} {xs = xs} p r q i) =
      next_same ReadsAdd ReadsAdds add_form relation_operand (λ c. (o, c)) (t.compare o) k p src ts us x xs y (λ src ts us x xs y p r s. l.more_add p r q s) (λ c. refl) (adds_same r) (add_same i)

  pub add_same : {src : List ℕ} {ts : List Lexeme} {x : Add} → ReadsAdd src ts x → SameForm ReadsAdd add_form ts x
  add_same (l.add {ts = ts} {x = x} {xs = xs} r) = chained_same ReadsMults ReadsAdd mult_form add_operand add_form sum add_of ts x xs (λ src ts x xs r. l.add r) add_bare (mults_same r)

  mults_same : {src : List ℕ} {ts : List Lexeme} {x : Cell Mult} {xs : List (AddOp × Cell Mult)} → ReadsMults src ts x xs → SameRow ReadsMults mult_form add_operand ts x xs
  mults_same {src = src} (l.one_mult {ts = ts} {x = x} r) = first_same ReadsMult ReadsMults mult_form add_operand src ts x (λ src ts x r. l.one_mult r) (mult_same r)
  mults_same {src = src} (l.more_mult {ts = ts} {us = us} {k = k} {o = o} {x = x} {y = y} {xs = xs} p r q i) =
      next_same ReadsMult ReadsMults mult_form add_operand (λ c. (o, c)) (t.add o) k p src ts us x xs y (λ src ts us x xs y p r s. l.more_mult p r q s) (λ c. refl) (mults_same r) (mult_same i)

  mult_same : {src : List ℕ} {ts : List Lexeme} {x : Mult} → ReadsMult src ts x → SameForm ReadsMult mult_form ts x
  mult_same (l.mult {ts = ts} {x = x} {xs = xs} r) = chained_same ReadsUnaries ReadsMult unary_form mult_operand mult_form product mult_of ts x xs (λ src ts x xs r. l.mult r) mult_bare (unaries_same r)

  unaries_same : {src : List ℕ} {ts : List Lexeme} {x : Cell Unary} {xs : List (MultOp × Cell Unary)} → ReadsUnaries src ts x xs → SameRow ReadsUnaries unary_form mult_operand ts x xs
  unaries_same {src = src} (l.one_unary {ts = ts} {x = x} r) = first_same ReadsUnary ReadsUnaries unary_form mult_operand src ts x (λ src ts x r. l.one_unary r) (unary_same r)
  unaries_same {src = src} (l.more_unary {ts = ts} {us = us} {k = k} {o = o} {x = x} {y = y} {xs = xs} p r q i) =
      next_same ReadsUnary ReadsUnaries unary_form mult_operand (λ c. (o, c)) (t.multiply o) k p src ts us x xs y (λ src ts us x xs y p r s. l.more_unary p r q s) (λ c. refl) (unaries_same r) (unary_same i)

  unary_same : {src : List ℕ} {ts : List Lexeme} {x : Unary} → ReadsUnary src ts x → SameForm ReadsUnary unary_form ts x
  unary_same {src = src} (l.plain {ts = ts} {x = x} r) = lifted_same ReadsMember ReadsUnary member_form unary_form (f.unary None) (unary_of None) src ts x (λ src ts x r. l.plain r) (unary_bare None) (member_same r)
  unary_same {src = src} (l.banged {ts = ts} {us = us} {n = n} {x = x} b r) = signed_same kind.Bang bangs_of n src ts us x (λ src ts us m x i j. l.banged i j) b (member_same r)
  unary_same {src = src} (l.dashed {ts = ts} {us = us} {n = n} {x = x} b r) = signed_same kind.Minus dashes_of n src ts us x (λ src ts us m x i j. l.dashed i j) b (member_same r)

  member_same : {src : List ℕ} {ts : List Lexeme} {x : Member} → ReadsMember src ts x → SameForm ReadsMember member_form ts x
  member_same {src = src} (l.member {ts = ts} {us = us} {x = x} {xs = xs} r i) = member_same_as src ts us x xs (primary_same r) (accesses_same i)

  accesses_same : {src : List ℕ} {ts : List Lexeme} {xs : List (Cell MemAccess)} → ReadsAccesses src ts xs → Same ReadsAccesses bare_accesses (bare_accesses xs) ts
  accesses_same l.no_access = no_access_same
  accesses_same {src = src} (l.more_access {ts = ts} {us = us} {xs = xs} {x = x} r i) = next_access_same src ts us xs x (accesses_same r) (access_same i)

  access_same : {src : List ℕ} {ts : List Lexeme} {x : MemAccess} → ReadsAccess src ts x → SameForm ReadsAccess access_form ts x
  access_same {src = src} (l.field {ts = ts} {i = i} p r) = field_same p src ts i r
  access_same (l.call {ts = ts} {xs = xs} p q r) = enclosed_same ReadsExprs ReadsAccess expr_form access_form f.call accesses.Call kind.OpenParen kind.CloseParen p q ts xs (λ src ts xs p q r. l.call p q r) call_bare (exprs_same r)
  access_same {src = src} (l.index {ts = ts} {x = x} p q r) = inner_same ReadsAccess access_form f.index accesses.Index kind.OpenBracket kind.CloseBracket p q src ts x (λ src ts x p q r. l.index p q r) index_bare (expr_same r)

  pub primary_same : {src : List ℕ} {ts : List Lexeme} {x : Primary} → ReadsPrimary src ts x → SameForm ReadsPrimary primary_form ts x
  primary_same {src = src} (l.literally {ts = ts} {x = x} r) = held_same ReadsLiteral unlocated_literal f.literal primaries.Literal src ts x (λ src ts x r. l.literally r) literal_bare (literal_same r)
  primary_same {src = src} (l.referred {ts = ts} {x = x} r) = held_same ReadsRef unlocated_ref f.reference primaries.Ref src ts x (λ src ts x r. l.referred r) ref_bare (ref_same r)
  primary_same {src = src} (l.named {ts = ts} {x = x} r) = held_same ReadsName unlocated_name f.name primaries.Name src ts x (λ src ts x r. l.named r) name_bare (name_same r)
  primary_same {src = src} (l.slotted {k = k} {x = x} p r) = slotted_same k p src x r
  primary_same {src = src} (l.paren {ts = ts} {x = x} p q r) = inner_same ReadsPrimary primary_form f.parens primaries.Expr kind.OpenParen kind.CloseParen p q src ts x (λ src ts x p q r. l.paren p q r) paren_bare (expr_same r)
  primary_same (l.set {ts = ts} {xs = xs} p q r) = enclosed_same ReadsExprs ReadsPrimary expr_form primary_form f.set primaries.EList kind.OpenBracket kind.CloseBracket p q ts xs (λ src ts xs p q r. l.set p q r) set_bare (exprs_same r)
  primary_same (l.in_braces {ts = ts} {xs = xs} p q r) = enclosed_same ReadsRecInits ReadsPrimary init_form primary_form f.record_of primaries.RInits kind.OpenBrace kind.CloseBrace p q ts xs (λ src ts xs p q r. l.in_braces p q r) braces_bare (inits_same r)

  exprs_same : {src : List ℕ} {ts : List Lexeme} {xs : List (Cell Expr)} → ReadsExprs src ts xs → SameItems ReadsExprs expr_form ts xs
  exprs_same l.no_expr = nothing_same {T = ReadsExprs} {bz = bare_items expr_form} {c = bare_items expr_form []} (λ src. record { tree = []; reads = l.no_expr; same = refl })
  exprs_same (l.exprs {ts = ts} {xs = xs} r) = list_same ReadsExprItems ReadsExprs expr_form ts xs (λ src ts xs r. l.exprs r) (expr_items_same r)
  exprs_same (l.exprs_comma {ts = ts} {xs = xs} p r) = comma_same ReadsExprItems ReadsExprs expr_form p ts xs (λ src ts xs p r. l.exprs_comma p r) (expr_items_same r)

  expr_items_same : {src : List ℕ} {ts : List Lexeme} {xs : List (Cell Expr)} → ReadsExprItems src ts xs → SameItems ReadsExprItems expr_form ts xs
  expr_items_same {src = src} (l.one_expr {ts = ts} {x = x} r) = item_same ReadsExpr ReadsExprItems expr_form src ts x (λ src ts x r. l.one_expr r) (expr_same r)
  expr_items_same {src = src} (l.more_exprs {ts = ts} {us = us} {xs = xs} {y = y} p r i) =
      next_item_same ReadsExpr ReadsExprItems expr_form p src ts us xs y (λ src ts us xs y p r s. l.more_exprs p r s) (expr_items_same r) (expr_same i)

  inits_same : {src : List ℕ} {ts : List Lexeme} {xs : List (Cell RecInit)} → ReadsRecInits src ts xs → SameItems ReadsRecInits init_form ts xs
  inits_same l.no_init = nothing_same {T = ReadsRecInits} {bz = bare_items init_form} {c = bare_items init_form []} (λ src. record { tree = []; reads = l.no_init; same = refl })
  inits_same (l.inits {ts = ts} {xs = xs} r) = list_same ReadsInitItems ReadsRecInits init_form ts xs (λ src ts xs r. l.inits r) (init_items_same r)
  inits_same (l.inits_comma {ts = ts} {xs = xs} p r) = comma_same ReadsInitItems ReadsRecInits init_form p ts xs (λ src ts xs p r. l.inits_comma p r) (init_items_same r)

  init_items_same : {src : List ℕ} {ts : List Lexeme} {xs : List (Cell RecInit)} → ReadsInitItems src ts xs → SameItems ReadsInitItems init_form ts xs
  init_items_same {src = src} (l.one_init {ts = ts} {x = x} r) = item_same ReadsRecInit ReadsInitItems init_form src ts x (λ src ts x r. l.one_init r) (init_same r)
  init_items_same {src = src} (l.more_inits {ts = ts} {us = us} {xs = xs} {y = y} p r i) =
      next_item_same ReadsRecInit ReadsInitItems init_form p src ts us xs y (λ src ts us xs y p r s. l.more_inits p r s) (init_items_same r) (init_same i)

  init_same : {src : List ℕ} {ts : List Lexeme} {x : RecInit} → ReadsRecInit src ts x → SameForm ReadsRecInit init_form ts x
  init_same {src = src} (l.rec_init {ts = ts} {us = us} {x = x} {y = y} p r i) =
      joined_same ReadsExpr ReadsExpr ReadsRecInit expr_form expr_form init_form f.init rec_init_of kind.Colon p src ts us x y (λ src ts us x y p r s. l.rec_init p r s) init_bare (expr_same r) (expr_same i)
  init_same {src = src} (l.if_init {ts = ts} {y = y} p q r) =
      joined_same ReadsIfKey ReadsExpr ReadsRecInit expr_form expr_form init_form f.init rec_init_of kind.Colon q src (one kind.If p) ts (lone_expr src (one kind.If p) (member_of (placed src (one kind.If p) (if_name src p)) [])) y (λ src ts us x y p r s. if_init_read p r s) init_bare
      (if_key_same p src) (expr_same r)
