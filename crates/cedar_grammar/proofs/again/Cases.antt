-- What the rules of expressions read is read again from its printed words.
use Rattle.std.proofs.Common.{◌≡◌, ℕ, List, [], ◌∷◌, ◌++◌, map, Option, Some, None, codes, refl, sym, ap, ap₂, ◌∙◌, subst, append_assoc, append-nil}
use Rattle.cedar_lexer.specs.Spelling.{Spells}
use Rattle.cedar_lexer.specs.Token.{Lexeme}
use Rattle.cedar_lexer.specs.declared.token.TokenKind.{TokenKind}
use Rattle.cedar_lexer.specs.declared.token.TokenKind.TheVariants as kind
use Rattle.cedar_syntax.specs.declared.cst.Expr.{Expr}
use Rattle.cedar_syntax.specs.declared.cst.Add.{Add}
use Rattle.cedar_syntax.specs.declared.cst.MemAccess.{MemAccess}
use Rattle.cedar_syntax.specs.declared.cst.MemAccess.TheVariants as accesses
use Rattle.cedar_syntax.specs.declared.cst.Primary.{Primary}
use Rattle.cedar_syntax.specs.declared.cst.Primary.TheVariants as primaries
use Rattle.cedar_syntax.specs.declared.cst.Literal.{Literal}
use Rattle.cedar_syntax.specs.declared.cst.Slot.{Slot}
use Rattle.cedar_syntax.specs.declared.cst.Ident.{Ident}
use Rattle.cedar_syntax.specs.declared.cst.Ident.TheVariants as ident
use Rattle.cedar_syntax.specs.declared.cst.Name.{Name}
use Rattle.cedar_syntax.specs.declared.cst.Ref.{Ref}
use Rattle.cedar_syntax.specs.declared.node.Node.{Node}
use Rattle.cedar_syntax.specs.trees.Forms.{located, parts_of, expr_form, relation_form, add_form, member_form, access_form, primary_form, init_form, listed_access}
use Rattle.cedar_grammar.specs.grammar.Grammar.{Rule}
use Rattle.cedar_syntax.specs.trees.Located as f
use Rattle.cedar_syntax.specs.trees.Located.{Located, Form, Parts, at}
use Rattle.cedar_grammar.specs.grammar.LooseExpressions as l
use Rattle.cedar_grammar.specs.grammar.LooseExpressions.{ReadsExpr, ReadsRelation, ReadsAdd, ReadsMember, ReadsAccesses, ReadsAccess, ReadsPrimary, ReadsExprs, ReadsRecInits, ReadsRecInit, ReadsSlot, lone_add, lone_expr, if_name}
use Rattle.cedar_grammar.specs.grammar.LooseWords.{ReadsAny, ReadsLiteral, ReadsName, ReadsRef}
use Rattle.cedar_grammar.specs.grammar.Place.{placed}
use Rattle.cedar_syntax.specs.printing.Printed.{Texts, printed, in_order, ident_texts, slot_texts}
use Rattle.cedar_syntax.specs.tokens.Tokens.{Spot, one}
use Rattle.cedar_syntax.specs.trees.Tree as t
use Rattle.cedar_syntax.specs.trees.Tree.{Level, disjunction, conjunction, relation, sum, product}
use Rattle.cedar_syntax.specs.trees.Trees.{Cell, if_of, has_of, like_of, is_of, member_of, rec_init_of, name_of}
use Rattle.cedar_syntax.specs.trees.Unlocated.{unlocated, unlocated_form, unlocated_parts, unlocated_literal, unlocated_name, unlocated_ref}
use Rattle.cedar_syntax.specs.trees.Unplaced.{unplaced_tree, unplaced_tree_form, unplaced_tree_parts, literal_tree, name_tree, ref_tree}
use Rattle.cedar_syntax.proofs.FormLevels as form
use Rattle.cedar_lexer.specs.Words.{TokenText, words_of}
use Rattle.cedar_grammar.specs.printing.SameWords.{Again}
use Rattle.cedar_grammar.proofs.again.Rereading.{AllSpelled, texts-append, both_spelled, same_as, infix_as, beside_as, token_as, prefix_as, Reworded}
use Rattle.cedar_grammar.proofs.again.Chains.{print_node, print_form, print_order, print_items, bare, placed_here, snoc, snoc_bare, snoc_order, NodeOf, bare_items}
use Rattle.cedar_grammar.proofs.again.Expressions.{word, joined, bracketed, member_bare, init_bare, if_bare, has_bare, like_bare, is_bare, is_in_bare, alone, lone_sum, lone_whole, lone_sum_bare, lone_whole_bare}

-- ---- what holds no expression

abbrev pub any_rule : Rule Ident
any_rule src ts i = ReadsAny ts i

abbrev pub by_itself : {X : Type 0} → X → X
by_itself x = x

abbrev pub literal_texts : Literal → Texts
literal_texts x = printed (literal_tree x)

abbrev pub name_texts : Name → Texts
name_texts x = printed (name_tree x)

abbrev pub ref_texts : Ref → Texts
ref_texts x = printed (ref_tree x)

-- what is known of words, literals, names and entity literals
pub record Leaves : Type 0 where
  pub any : {ts : List Lexeme} {i : Ident} → ReadsAny ts i → AllSpelled ts → Reworded any_rule by_itself ident_texts i
  pub literal : {src : List ℕ} {ts : List Lexeme} {x : Literal} → ReadsLiteral src ts x → AllSpelled ts → Reworded ReadsLiteral unlocated_literal literal_texts (unlocated_literal x)
  pub name : {src : List ℕ} {ts : List Lexeme} {x : Name} → ReadsName src ts x → AllSpelled ts → Reworded ReadsName unlocated_name name_texts (unlocated_name x)
  pub reference : {src : List ℕ} {ts : List Lexeme} {x : Ref} → ReadsRef src ts x → AllSpelled ts → Reworded ReadsRef unlocated_ref ref_texts (unlocated_ref x)

abbrev pub there : {X : Type 0} → X → Node (Option X)
there x = record { node = Some x; loc = None }

-- a form that holds one of them
held : {X : Type 0} (R : Rule X) (bx : X → X) (px : X → Texts) (wrap : Node (Option X) → Form) (make : Cell X → Primary) (a : X)
    → ((src : List ℕ) (ts : List Lexeme) (x : X) → R src ts x → ReadsPrimary src ts (make (placed src ts x))) → ((src : List ℕ) (ts : List Lexeme) (x : X) → bare primary_form (make (placed src ts x)) ≡ wrap (there (bx x)))
    → print_form (wrap (there a)) ≡ px a → Reworded R bx px a → NodeOf ReadsPrimary primary_form (wrap (there a))
held R bx px wrap make a rule is prints h = record {
  words = h.words;
  spelled = h.spelled;
  prints = h.prints ∙ sym prints;
  again = same_as (λ src ts x. record { tree = make (placed src ts x.tree); reads = rule src ts x.tree x.reads; same = is src ts x.tree ∙ ap (λ b. wrap (there b)) x.same }) h.again;
}

pub literal_case : (a : Literal) → Reworded ReadsLiteral unlocated_literal literal_texts a → NodeOf ReadsPrimary primary_form (f.literal (there a))
unfolding unlocated_form unplaced_tree_form
literal_case a h = held ReadsLiteral unlocated_literal literal_texts f.literal primaries.Literal a (λ src ts x r. l.literally r) (λ src ts x. ap unlocated_form (form.primary_literal (placed src ts x))) refl h

pub name_case : (a : Name) → Reworded ReadsName unlocated_name name_texts a → NodeOf ReadsPrimary primary_form (f.name (there a))
unfolding unlocated_form unplaced_tree_form
name_case a h = held ReadsName unlocated_name name_texts f.name primaries.Name a (λ src ts x r. l.named r) (λ src ts x. ap unlocated_form (form.primary_name (placed src ts x))) refl h

pub ref_case : (a : Ref) → Reworded ReadsRef unlocated_ref ref_texts a → NodeOf ReadsPrimary primary_form (f.reference (there a))
unfolding unlocated_form unplaced_tree_form
ref_case a h = held ReadsRef unlocated_ref ref_texts f.reference primaries.Ref a (λ src ts x r. l.referred r) (λ src ts x. ap unlocated_form (form.primary_ref (placed src ts x))) refl h

some_text : {s u : List ℕ} → Some s ≡ Some u → s ≡ u
some_text e = cc

slot_prints : {k : TokenKind} {text : List ℕ} {x : Slot} → ReadsSlot k text x → Spells k text → text ∷ [] ≡ slot_texts x
slot_prints l.principal_slot s = ap (λ u. u ∷ []) (sym (some_text s))
slot_prints l.resource_slot s = ap (λ u. u ∷ []) (sym (some_text s))
slot_prints l.other_slot s = refl

pub slot_case : {k : TokenKind} {text : List ℕ} {x : Slot} → ReadsSlot k text x → Spells k text → NodeOf ReadsPrimary primary_form (f.slot (there x))
unfolding unlocated_form unplaced_tree_form printed
slot_case {k = k} {text = text} {x = x} r s = record {
  words = word k text ∷ [];
  spelled = (s, tt);
  prints = slot_prints r s;
  again = token_as (word k text) (λ src p e. record { tree = primaries.Slot (placed src (one k p) x); reads = l.slotted p (subst (λ u. ReadsSlot k u x) (sym e) r); same = ap unlocated_form (form.primary_slot (placed src (one k p) x)) });
}

-- ---- accesses

pub field_case : (i : Ident) → Reworded any_rule by_itself ident_texts i → NodeOf ReadsAccess access_form (f.field (there i))
unfolding unlocated_form unplaced_tree_form printed
field_case i h = record {
  words = word kind.Dot (codes ".") ∷ h.words;
  spelled = (refl, h.spelled);
  prints = ap (λ xs. codes "." ∷ xs) h.prints;
  again = prefix_as (word kind.Dot (codes ".")) (λ src ts p e x. record {
    tree = accesses.Field (placed src ts x.tree);
    reads = l.field p x.reads;
    same = ap unlocated_form (form.access_field (placed src ts x.tree)) ∙ ap (λ j. f.field (there j)) x.same;
  }) h.again;
}

pub call_case : (ps : Parts) → Reworded ReadsExprs (bare_items expr_form) print_items ps → NodeOf ReadsAccess access_form (f.call ps)
unfolding unlocated_form unplaced_tree_form printed
call_case ps h =
    bracketed ReadsExprs ReadsAccess (bare_items expr_form) print_items access_form (word kind.OpenParen (codes "(")) (word kind.CloseParen (codes ")")) ps (f.call ps)
    (λ src ts xs p q r e. record { tree = accesses.Call xs; reads = l.call p q r; same = ap unlocated_form (form.access_call xs) ∙ ap f.call e }) refl refl refl h

pub index_case : (a : Form) → NodeOf ReadsExpr expr_form a → NodeOf ReadsAccess access_form (f.index (at None a))
unfolding unlocated_form unplaced_tree_form unplaced_tree printed
index_case a h =
    bracketed ReadsExpr ReadsAccess (bare expr_form) print_form access_form (word kind.OpenBracket (codes "[")) (word kind.CloseBracket (codes "]")) a (f.index (at None a))
    (λ src ts x p q r e. record { tree = accesses.Index (placed src ts x); reads = l.index p q r; same = ap unlocated_form (form.access_index (placed src ts x)) ∙ ap f.index (placed_here expr_form src ts x ∙ ap (at None) e) }) refl refl refl h

abbrev pub bare_accesses : List (Cell MemAccess) → Parts
bare_accesses xs = unlocated_parts (parts_of (map listed_access xs))

abbrev pub AccessesOf : Parts → Type 0
AccessesOf ps = Reworded ReadsAccesses bare_accesses print_order ps

pub no_accesses : AccessesOf f.none
unfolding unlocated_parts in_order unplaced_tree_parts
no_accesses = record { words = []; spelled = tt; prints = refl; again = λ src us e. empty src us e }
  where
    empty : (src : List ℕ) (us : List Lexeme) → words_of us ≡ [] → Again ReadsAccesses bare_accesses f.none src us
    empty src [] e = record { tree = []; reads = l.no_access; same = refl }
    empty src (u ∷ us) e = absurd (cc)

pub next_access : (ps : Parts) (a : Form) → AccessesOf ps → NodeOf ReadsAccess access_form a → AccessesOf (snoc ps t.beside (at None a))
unfolding unplaced_tree unplaced_tree_form
next_access ps a h k = record {
  words = h.words ++ k.words;
  spelled = both_spelled h.words k.words h.spelled k.spelled;
  prints = texts-append h.words k.words ∙ ap₂ (λ (xs ys : Texts). xs ++ ys) h.prints k.prints ∙ sym (snoc_order ps t.beside (at None a));
  again = beside_as (λ src ts us x y. record {
    tree = x.tree ++ placed src us y.tree ∷ [];
    reads = l.more_access x.reads y.reads;
    same = snoc_bare listed_access x.tree (placed src us y.tree) ∙ ap₂ (λ (ps : Parts) (n : Located). snoc ps t.beside n) x.same (placed_here access_form src us y.tree ∙ ap (at None) y.same);
  }) h.again k.again;
}

pub member_case : (a : Form) (ps : Parts) → NodeOf ReadsPrimary primary_form a → AccessesOf ps → NodeOf ReadsMember member_form (f.member (at None a) ps)
unfolding unplaced_tree unplaced_tree_form printed
member_case a ps h k = record {
  words = h.words ++ k.words;
  spelled = both_spelled h.words k.words h.spelled k.spelled;
  prints = texts-append h.words k.words ∙ ap₂ (λ (xs ys : Texts). xs ++ ys) h.prints k.prints;
  again = beside_as (λ src ts us x y. record {
    tree = member_of (placed src ts x.tree) y.tree;
    reads = l.member x.reads y.reads;
    same = member_bare (placed src ts x.tree) y.tree ∙ ap₂ f.member (placed_here primary_form src ts x.tree ∙ ap (at None) x.same) y.same;
  }) h.again k.again;
}

-- ---- brackets

pub paren_case : (a : Form) → NodeOf ReadsExpr expr_form a → NodeOf ReadsPrimary primary_form (f.parens (at None a))
unfolding unlocated_form unplaced_tree_form unplaced_tree printed
paren_case a h =
    bracketed ReadsExpr ReadsPrimary (bare expr_form) print_form primary_form (word kind.OpenParen (codes "(")) (word kind.CloseParen (codes ")")) a (f.parens (at None a))
    (λ src ts x p q r e. record { tree = primaries.Expr (placed src ts x); reads = l.paren p q r; same = ap unlocated_form (form.primary_expr (placed src ts x)) ∙ ap f.parens (placed_here expr_form src ts x ∙ ap (at None) e) }) refl refl refl h

pub set_case : (ps : Parts) → Reworded ReadsExprs (bare_items expr_form) print_items ps → NodeOf ReadsPrimary primary_form (f.set ps)
unfolding unlocated_form unplaced_tree_form printed
set_case ps h =
    bracketed ReadsExprs ReadsPrimary (bare_items expr_form) print_items primary_form (word kind.OpenBracket (codes "[")) (word kind.CloseBracket (codes "]")) ps (f.set ps)
    (λ src ts xs p q r e. record { tree = primaries.EList xs; reads = l.set p q r; same = ap unlocated_form (form.primary_list xs) ∙ ap f.set e }) refl refl refl h

pub braces_case : (ps : Parts) → Reworded ReadsRecInits (bare_items init_form) print_items ps → NodeOf ReadsPrimary primary_form (f.record_of ps)
unfolding unlocated_form unplaced_tree_form printed
braces_case ps h =
    bracketed ReadsRecInits ReadsPrimary (bare_items init_form) print_items primary_form (word kind.OpenBrace (codes "{")) (word kind.CloseBrace (codes "}")) ps (f.record_of ps)
    (λ src ts xs p q r e. record { tree = primaries.RInits xs; reads = l.in_braces p q r; same = ap unlocated_form (form.primary_inits xs) ∙ ap f.record_of e }) refl refl refl h

-- ---- relations, conditionals, pairs

abbrev pub if_word : TokenText
if_word = word kind.If (codes "if")

-- parts of rules, as rules of their own

pub data ReadsGuard (src : List ℕ) : List Lexeme → Cell Expr → Type 0 where
  guard : {ts : List Lexeme} {x : Expr} (p : Spot) → ReadsExpr src ts x → ReadsGuard src (one kind.If p ++ ts) (placed src ts x)

pub data ReadsThen (src : List ℕ) : List Lexeme → Cell Expr × Cell Expr → Type 0 where
  both : {ts us : List Lexeme} {c : Cell Expr} {x : Expr} (p : Spot) → ReadsGuard src ts c → ReadsExpr src us x → ReadsThen src (ts ++ one kind.Then p ++ us) (c, placed src us x)

pub data ReadsTyped (src : List ℕ) : List Lexeme → Cell Add × Cell Add → Type 0 where
  typed : {ts us : List Lexeme} {x y : Add} (p : Spot) → ReadsAdd src ts x → ReadsAdd src us y → ReadsTyped src (ts ++ one kind.Is p ++ us) (placed src ts x, placed src us y)

pub data ReadsIfMember (src : List ℕ) : List Lexeme → Add → Type 0 where
  if_member : {us : List Lexeme} {xs : List (Cell MemAccess)} (q : Spot) → ReadsAccesses src us xs → ReadsIfMember src (one kind.If q ++ us) (lone_add src (one kind.If q ++ us) (member_of (placed src (one kind.If q) (if_name src q)) xs))

pub data ReadsIfKey (src : List ℕ) : List Lexeme → Expr → Type 0 where
  if_key : (p : Spot) → ReadsIfKey src (one kind.If p) (lone_expr src (one kind.If p) (member_of (placed src (one kind.If p) (if_name src p)) []))

pub conditional_read : {src : List ℕ} {ts us : List Lexeme} {p : Cell Expr × Cell Expr} {y : Expr} (n : Spot) → ReadsThen src ts p → ReadsExpr src us y → ReadsExpr src (ts ++ one kind.Else n ++ us) (if_of p.0 p.1 (placed src us y))
conditional_read n (both m (guard k r) s) u = l.if_expr k m n r s u

typed_read : {src : List ℕ} {ts : List Lexeme} {p : Cell Add × Cell Add} → ReadsTyped src ts p → ReadsRelation src ts (is_of p.0 p.1 None)
typed_read (typed p r s) = l.is p r s

pub typed_in_read : {src : List ℕ} {ts us : List Lexeme} {p : Cell Add × Cell Add} {z : Add} (q : Spot) → ReadsTyped src ts p → ReadsAdd src us z → ReadsRelation src (ts ++ one kind.In q ++ us) (is_of p.0 p.1 (Some (placed src us z)))
typed_in_read q (typed p r s) u = l.is_in p q r s u

pub has_if_read : {src : List ℕ} {ts us : List Lexeme} {x y : Add} (p : Spot) → ReadsAdd src ts x → ReadsIfMember src us y → ReadsRelation src (ts ++ one kind.Has p ++ us) (has_of (placed src ts x) (placed src us y))
has_if_read p r (if_member q s) = l.has_if p q r s

pub if_init_read : {src : List ℕ} {ts us : List Lexeme} {x y : Expr} (q : Spot) → ReadsIfKey src ts x → ReadsExpr src us y → ReadsRecInit src (ts ++ one kind.Colon q ++ us) (rec_init_of (placed src ts x) (placed src us y))
if_init_read q (if_key p) r = l.if_init p q r

-- two nodes
abbrev pub two_bare : {X : Type 0} → (X → Form) → Cell X × Cell X → Located × Located
two_bare form p = (unlocated (located form p.0), unlocated (located form p.1))

pub pair_is : {x y u v : Located} → x ≡ u → y ≡ v → ◌≡◌ {A = Located × Located} (x, y) (u, v)
pair_is e g = ap₂ (λ (a b : Located). (a, b)) e g

conditional_texts : Located × Located → Texts
conditional_texts q = codes "if" ∷ (print_node q.0 ++ (codes "then" ∷ print_node q.1))

typed_texts : Located × Located → Texts
typed_texts q = print_node q.0 ++ (codes "is" ∷ print_node q.1)

guard_case : (a : Form) → NodeOf ReadsExpr expr_form a → Reworded ReadsGuard (λ c. unlocated (located expr_form c)) (λ n. codes "if" ∷ print_node n) (at None a)
unfolding unplaced_tree
guard_case a h = record {
  words = if_word ∷ h.words;
  spelled = (refl, h.spelled);
  prints = ap (λ xs. codes "if" ∷ xs) h.prints;
  again = prefix_as if_word (λ src ts p e x. record { tree = placed src ts x.tree; reads = guard p x.reads; same = placed_here expr_form src ts x.tree ∙ ap (at None) x.same }) h.again;
}

then_case : (a b : Form) → NodeOf ReadsExpr expr_form a → NodeOf ReadsExpr expr_form b → Reworded ReadsThen (two_bare expr_form) conditional_texts (at None a, at None b)
unfolding unplaced_tree conditional_texts
then_case a b h k =
    let g = guard_case a h in
    let w = word kind.Then (codes "then") in
    record {
      words = g.words ++ (w ∷ k.words);
      spelled = both_spelled g.words (w ∷ k.words) g.spelled (refl, k.spelled);
      prints = texts-append g.words (w ∷ k.words) ∙ ap₂ (λ (xs ys : Texts). xs ++ (codes "then" ∷ ys)) g.prints k.prints;
      again = infix_as w (λ src ts us p e x y. record { tree = (x.tree, placed src us y.tree); reads = both p x.reads y.reads; same = pair_is x.same (placed_here expr_form src us y.tree ∙ ap (at None) y.same) }) g.again k.again;
    }

pub conditional_case : (a b c : Form) → NodeOf ReadsExpr expr_form a → NodeOf ReadsExpr expr_form b → NodeOf ReadsExpr expr_form c → NodeOf ReadsExpr expr_form (f.ite (at None a) (at None b) (at None c))
unfolding unplaced_tree unplaced_tree_form printed conditional_texts
conditional_case a b c h j k =
    let g = then_case a b h j in
    let w = word kind.Else (codes "else") in
    record {
      words = g.words ++ (w ∷ k.words);
      spelled = both_spelled g.words (w ∷ k.words) g.spelled (refl, k.spelled);
      prints = texts-append g.words (w ∷ k.words) ∙ ap₂ (λ (xs ys : Texts). xs ++ (codes "else" ∷ ys)) g.prints k.prints
          ∙ ap (λ xs. codes "if" ∷ xs) (append_assoc (print_form a) (codes "then" ∷ print_form b) (codes "else" ∷ print_form c));
      again = infix_as w (λ src ts us p e x y. record {
        tree = if_of x.tree.0 x.tree.1 (placed src us y.tree);
        reads = conditional_read p x.reads y.reads;
        same = if_bare x.tree.0 x.tree.1 (placed src us y.tree) ∙ ap₂ (λ (q : Located × Located) (n : Located). f.ite q.0 q.1 n) x.same (placed_here expr_form src us y.tree ∙ ap (at None) y.same);
      }) g.again k.again;
    }

typed_case : (a b : Form) → NodeOf ReadsAdd add_form a → NodeOf ReadsAdd add_form b → Reworded ReadsTyped (two_bare add_form) typed_texts (at None a, at None b)
unfolding unplaced_tree typed_texts
typed_case a b h k =
    let w = word kind.Is (codes "is") in
    record {
      words = h.words ++ (w ∷ k.words);
      spelled = both_spelled h.words (w ∷ k.words) h.spelled (refl, k.spelled);
      prints = texts-append h.words (w ∷ k.words) ∙ ap₂ (λ (xs ys : Texts). xs ++ (codes "is" ∷ ys)) h.prints k.prints;
      again = infix_as w (λ src ts us p e x y. record { tree = (placed src ts x.tree, placed src us y.tree); reads = typed p x.reads y.reads; same = pair_is (placed_here add_form src ts x.tree ∙ ap (at None) x.same) (placed_here add_form src us y.tree ∙ ap (at None) y.same) }) h.again k.again;
    }

pub is_case : (a b : Form) → NodeOf ReadsAdd add_form a → NodeOf ReadsAdd add_form b → NodeOf ReadsRelation relation_form (f.is (at None a) (at None b))
unfolding unplaced_tree unplaced_tree_form printed typed_texts
is_case a b h k =
    let g = typed_case a b h k in
    record {
      words = g.words;
      spelled = g.spelled;
      prints = g.prints;
      again = same_as (λ src ts x. record { tree = is_of x.tree.0 x.tree.1 None; reads = typed_read x.reads; same = is_bare x.tree.0 x.tree.1 ∙ ap (λ (q : Located × Located). f.is q.0 q.1) x.same }) g.again;
    }

pub is_in_case : (a b c : Form) → NodeOf ReadsAdd add_form a → NodeOf ReadsAdd add_form b → NodeOf ReadsAdd add_form c → NodeOf ReadsRelation relation_form (f.is_in (at None a) (at None b) (at None c))
unfolding unplaced_tree unplaced_tree_form printed typed_texts
is_in_case a b c h j k =
    let g = typed_case a b h j in
    let w = word kind.In (codes "in") in
    record {
      words = g.words ++ (w ∷ k.words);
      spelled = both_spelled g.words (w ∷ k.words) g.spelled (refl, k.spelled);
      prints = texts-append g.words (w ∷ k.words) ∙ ap₂ (λ (xs ys : Texts). xs ++ (codes "in" ∷ ys)) g.prints k.prints
          ∙ append_assoc (print_form a) (codes "is" ∷ print_form b) (codes "in" ∷ print_form c);
      again = infix_as w (λ src ts us p e x y. record {
        tree = is_of x.tree.0 x.tree.1 (Some (placed src us y.tree));
        reads = typed_in_read p x.reads y.reads;
        same = is_in_bare x.tree.0 x.tree.1 (placed src us y.tree) ∙ ap₂ (λ (q : Located × Located) (n : Located). f.is_in q.0 q.1 n) x.same (placed_here add_form src us y.tree ∙ ap (at None) y.same);
      }) g.again k.again;
    }

pub has_case : (a b : Form) → NodeOf ReadsAdd add_form a → NodeOf ReadsAdd add_form b → NodeOf ReadsRelation relation_form (f.has (at None a) (at None b))
unfolding unplaced_tree unplaced_tree_form printed
has_case a b h k = joined ReadsAdd ReadsAdd ReadsRelation add_form add_form relation_form f.has has_of (word kind.Has (codes "has")) a b (λ src ts us x y p r s. l.has p r s) has_bare refl refl h k

pub like_case : (a b : Form) → NodeOf ReadsAdd add_form a → NodeOf ReadsAdd add_form b → NodeOf ReadsRelation relation_form (f.like (at None a) (at None b))
unfolding unplaced_tree unplaced_tree_form printed
like_case a b h k = joined ReadsAdd ReadsAdd ReadsRelation add_form add_form relation_form f.like like_of (word kind.Like (codes "like")) a b (λ src ts us x y p r s. l.like p r s) like_bare refl refl h k

-- the word `if` alone as a name
abbrev pub if_primary : Form
if_primary = f.name (there (name_of [] (there ident.If)))

pub if_name_bare : (src : List ℕ) (p : Spot) → unlocated (located primary_form (placed src (one kind.If p) (if_name src p))) ≡ at None if_primary
unfolding unlocated unlocated_form
if_name_bare src p = placed_here primary_form src (one kind.If p) (if_name src p) ∙ ap (λ a. at None (unlocated_form a)) (form.primary_name (placed src (one kind.If p) (name_of [] (placed src (one kind.If p) ident.If))))

lone_prints : (level : Level) (a : Form) → print_form (alone level a) ≡ print_form a
unfolding unplaced_tree unplaced_tree_form unplaced_tree_parts printed in_order
lone_prints level a = append-nil (print_form a)

lone_sum_prints : (a : Form) → print_form (lone_sum a) ≡ print_form a
unfolding unplaced_tree unplaced_tree_form printed
lone_sum_prints a = lone_prints sum (alone product (f.unary None (at None a))) ∙ lone_prints product (f.unary None (at None a))

lone_whole_prints : (a : Form) → print_form (lone_whole a) ≡ print_form a
unfolding unplaced_tree unplaced_tree_form
lone_whole_prints a =
    lone_prints disjunction (alone conjunction (alone relation (lone_sum a))) ∙ lone_prints conjunction (alone relation (lone_sum a)) ∙ lone_prints relation (lone_sum a) ∙ lone_sum_prints a

if_member_case : (ps : Parts) → AccessesOf ps → NodeOf ReadsIfMember add_form (lone_sum (f.member (at None if_primary) ps))
unfolding unplaced_tree unplaced_tree_form printed
if_member_case ps h = record {
  words = if_word ∷ h.words;
  spelled = (refl, h.spelled);
  prints = ap (λ xs. codes "if" ∷ xs) h.prints ∙ sym (lone_sum_prints (f.member (at None if_primary) ps));
  again = prefix_as if_word (λ src ts p e x. record {
    tree = lone_add src (one kind.If p ++ ts) (member_of (placed src (one kind.If p) (if_name src p)) x.tree);
    reads = if_member p x.reads;
    same = lone_sum_bare src (one kind.If p ++ ts) (member_of (placed src (one kind.If p) (if_name src p)) x.tree)
        ∙ ap lone_sum (member_bare (placed src (one kind.If p) (if_name src p)) x.tree ∙ ap₂ f.member (if_name_bare src p) x.same);
  }) h.again;
}

pub has_if_case : (a : Form) (ps : Parts) → NodeOf ReadsAdd add_form a → AccessesOf ps → NodeOf ReadsRelation relation_form (f.has (at None a) (at None (lone_sum (f.member (at None if_primary) ps))))
unfolding unplaced_tree unplaced_tree_form printed
has_if_case a ps h k =
    joined ReadsAdd ReadsIfMember ReadsRelation add_form add_form relation_form f.has has_of (word kind.Has (codes "has")) a (lone_sum (f.member (at None if_primary) ps)) (λ src ts us x y p r s. has_if_read p r s) has_bare refl refl h (if_member_case ps k)

if_key_case : NodeOf ReadsIfKey expr_form (lone_whole (f.member (at None if_primary) f.none))
unfolding unplaced_tree unplaced_tree_form unplaced_tree_parts printed in_order unlocated_parts
if_key_case = record {
  words = if_word ∷ [];
  spelled = (refl, tt);
  prints = sym (lone_whole_prints (f.member (at None if_primary) f.none));
  again = token_as if_word (λ src p e. record {
    tree = lone_expr src (one kind.If p) (member_of (placed src (one kind.If p) (if_name src p)) []);
    reads = if_key p;
    same = lone_whole_bare src (one kind.If p) (member_of (placed src (one kind.If p) (if_name src p)) []) ∙ ap lone_whole (member_bare (placed src (one kind.If p) (if_name src p)) [] ∙ ap (λ n. f.member n f.none) (if_name_bare src p));
  });
}

abbrev colon : TokenText
colon = word kind.Colon (codes ":")

pub init_case : (a b : Form) → NodeOf ReadsExpr expr_form a → NodeOf ReadsExpr expr_form b → NodeOf ReadsRecInit init_form (f.init (at None a) (at None b))
unfolding unplaced_tree unplaced_tree_form printed
init_case a b h k = joined ReadsExpr ReadsExpr ReadsRecInit expr_form expr_form init_form f.init rec_init_of colon a b (λ src ts us x y p r s. l.rec_init p r s) init_bare refl refl h k

pub if_init_case : (b : Form) → NodeOf ReadsExpr expr_form b → NodeOf ReadsRecInit init_form (f.init (at None (lone_whole (f.member (at None if_primary) f.none))) (at None b))
unfolding unplaced_tree unplaced_tree_form printed
if_init_case b k =
    joined ReadsIfKey ReadsExpr ReadsRecInit expr_form expr_form init_form f.init rec_init_of colon (lone_whole (f.member (at None if_primary) f.none)) b (λ src ts us x y p r s. if_init_read p r s) init_bare refl refl if_key_case k
