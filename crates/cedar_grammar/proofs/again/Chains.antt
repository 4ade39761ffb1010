-- Rows of parts behind operators, and lists of items: what their words are read as, and what they
-- print.
use Rattle.std.proofs.Common.{◌≡◌, ℕ, zero, suc, ◌+◌, List, [], ◌∷◌, ◌++◌, map, None, codes, refl, sym, ap, ap₂, ◌∙◌, subst, append_assoc, append-nil, arith}
use Rattle.std.specs.Prelude.{replicate}
use Rattle.std.proofs.lemmas.List.{replicate_more}
use Rattle.cedar_lexer.specs.declared.token.TokenKind.{TokenKind}
use Rattle.cedar_lexer.specs.Spelling.{Spells}
use Rattle.cedar_lexer.specs.Token.{Lexeme}
use Rattle.cedar_syntax.specs.trees.Forms.{located, parts_of}
use Rattle.cedar_grammar.specs.grammar.Grammar.{Rule}
use Rattle.cedar_syntax.specs.trees.Located.{Located, Form, Parts, at, none, more}
use Rattle.cedar_grammar.specs.grammar.Place.{placed}
use Rattle.cedar_syntax.specs.printing.Printed.{Texts, operator_texts, printed, in_order, item_texts, each_behind}
use Rattle.cedar_syntax.specs.tokens.Signs.{ReadsSigns, one_sign, more_signs}
use Rattle.cedar_syntax.specs.tokens.Tokens.{Spot, one}
use Rattle.cedar_syntax.specs.trees.Tree.{Operator, beside}
use Rattle.cedar_syntax.specs.trees.Trees.{Cell}
use Rattle.cedar_syntax.specs.trees.Unlocated.{unlocated, unlocated_form, unlocated_parts}
use Rattle.cedar_syntax.specs.trees.Unplaced.{unplaced_tree, unplaced_tree_form, unplaced_tree_parts}
use Rattle.cedar_lexer.specs.Words.{TokenText, words_of, texts_of, AreSpelled}
use Rattle.cedar_grammar.specs.printing.SameWords.{Again}
use Rattle.cedar_grammar.proofs.again.Rereading.{texts-append, both_spelled, ReadAs, same_as, infix_as, token_as, suffix_as, Reworded}

-- ---- what is printed of trees with places

abbrev pub print_node : Located → Texts
print_node n = printed (unplaced_tree n)

abbrev pub print_form : Form → Texts
print_form f = printed (unplaced_tree_form f)

abbrev pub print_order : Parts → Texts
print_order ps = in_order (unplaced_tree_parts ps)

abbrev pub print_behind : List ℕ → Parts → Texts
print_behind mark ps = each_behind mark (unplaced_tree_parts ps)

abbrev pub print_items : Parts → Texts
print_items ps = item_texts (unplaced_tree_parts ps)

-- ---- trees without places

abbrev pub bare : {X : Type 0} → (X → Form) → X → Form
bare form x = unlocated_form (form x)

pub placed_is : {X : Type 0} (form : X → Form) (src : List ℕ) (ts : List Lexeme) (x : X) (f : Form) → bare form x ≡ f → unlocated (located form (placed src ts x)) ≡ at None f
unfolding unlocated
placed_is form src ts x f e = ap (at None) e

-- a first part and others
abbrev pub Row : Type 0
Row = Located × Parts

abbrev pub bare_row : {X P : Type 0} → (X → Form) → (P → Operator × Located) → Cell X × List P → Row
bare_row form part p = (unlocated (located form p.0), unlocated_parts (parts_of (map part p.1)))

abbrev pub row_texts : Row → Texts
row_texts r = print_node r.0 ++ print_order r.1

abbrev pub list_texts : Row → Texts
list_texts r = print_node r.0 ++ print_behind (codes ",") r.1

-- one more part at the end
unfoldable pub snoc : Parts → Operator → Located → Parts
snoc none op n = more op n none
snoc (more o m ps) op n = more o m (snoc ps op n)

pub snoc_bare : {P : Type 0} (part : P → Operator × Located) (xs : List P) (x : P) → unlocated_parts (parts_of (map part (xs ++ x ∷ []))) ≡ snoc (unlocated_parts (parts_of (map part xs))) (part x).0 (unlocated (part x).1)
unfolding snoc unlocated_parts
snoc_bare part [] x = refl
snoc_bare part (y ∷ ys) x = ap (more (part y).0 (unlocated (part y).1)) (snoc_bare part ys x)

pub snoc_order : (ps : Parts) (op : Operator) (n : Located) → print_order (snoc ps op n) ≡ print_order ps ++ (operator_texts op ++ print_node n)
unfolding snoc in_order unplaced_tree_parts
snoc_order none op n = ap (λ xs. operator_texts op ++ xs) (append-nil (print_node n))
snoc_order (more o m ps) op n =
    ap (λ xs. operator_texts o ++ (print_node m ++ xs)) (snoc_order ps op n)
    ∙ ap (λ xs. operator_texts o ++ xs) (sym (append_assoc (print_node m) (print_order ps) (operator_texts op ++ print_node n)))
    ∙ sym (append_assoc (operator_texts o) (print_node m ++ print_order ps) (operator_texts op ++ print_node n))

pub snoc_behind : (mark : List ℕ) (ps : Parts) (op : Operator) (n : Located) → print_behind mark (snoc ps op n) ≡ print_behind mark ps ++ (mark ∷ print_node n)
unfolding snoc each_behind unplaced_tree_parts
snoc_behind mark none op n = ap (λ xs. mark ∷ xs) (append-nil (print_node n))
snoc_behind mark (more o m ps) op n =
    ap (λ xs. mark ∷ (print_node m ++ xs)) (snoc_behind mark ps op n) ∙ ap (λ xs. mark ∷ xs) (sym (append_assoc (print_node m) (print_behind mark ps) (mark ∷ print_node n)))

-- ---- rows

abbrev pub RowRule : Type 0 → Type 0 → Type 1
RowRule X P = List ℕ → List Lexeme → Cell X → List P → Type 0

abbrev pub rowed : {X P : Type 0} → RowRule X P → Rule (Cell X × List P)
rowed S src ts p = S src ts p.0 p.1

-- one part alone
pub one_part : {X P : Type 0} (R : Rule X) (S : RowRule X P) (form : X → Form) (part : P → Operator × Located) {f : Form} {ws : List TokenText}
    → ((src : List ℕ) (ts : List Lexeme) (x : X) → R src ts x → S src ts (placed src ts x) [])
    → ReadAs R (bare form) f ws → ReadAs (rowed S) (bare_row form part) (at None f, none) ws
unfolding unlocated_parts
one_part R S form part {f = f} rule h =
    same_as {by = bare_row form part} {b = (at None f, none)}
    (λ src ts a. record { tree = (placed src ts a.tree, []); reads = rule src ts a.tree a.reads; same = ap (λ l. (l, none)) (placed_is form src ts a.tree f a.same) }) h

-- one more behind a token
pub more_parts : {X P : Type 0} (R : Rule X) (S : RowRule X P) (form : X → Form) (part : P → Operator × Located) (make : Cell X → P) (op : Operator) (w : TokenText) {r : Row} {f : Form} {ws vs : List TokenText}
    → ((src : List ℕ) (ts us : List Lexeme) (x : Cell X) (xs : List P) (y : X) (p : Spot) → S src ts x xs → R src us y → S src (ts ++ one w.kind p ++ us) x (xs ++ make (placed src us y) ∷ []))
    → ((c : Cell X) → part (make c) ≡ (op, located form c))
    → ReadAs (rowed S) (bare_row form part) r ws → ReadAs R (bare form) f vs → ReadAs (rowed S) (bare_row form part) (r.0, snoc r.1 op (at None f)) (ws ++ (w ∷ vs))
more_parts {X = X} {P = P} R S form part make op w {r = r} {f = f} rule is h k =
    infix_as {bz = bare_row form part} {c = (r.0, snoc r.1 op (at None f))} w (λ src ts us p e a b. record {
      tree = (a.tree.0, a.tree.1 ++ make (placed src us b.tree) ∷ []);
      reads = rule src ts us a.tree.0 a.tree.1 b.tree p a.reads b.reads;
      same = last src us a.tree b.tree a.same b.same;
    }) h k
  where
    last : (src : List ℕ) (us : List Lexeme) (a : Cell X × List P) (b : X) → bare_row form part a ≡ r → bare form b ≡ f → bare_row form part (a.0, a.1 ++ make (placed src us b) ∷ []) ≡ (r.0, snoc r.1 op (at None f))
    last src us a b e g =
        let tail : unlocated_parts (parts_of (map part (a.1 ++ make (placed src us b) ∷ []))) ≡ snoc r.1 op (at None f) =
        snoc_bare part a.1 (make (placed src us b))
        ∙ ap (λ (q : Operator × Located). snoc (unlocated_parts (parts_of (map part a.1))) q.0 (unlocated q.1)) (is (placed src us b))
        ∙ ap₂ (λ (ps : Parts) (l : Located). snoc ps op l) (ap (λ (q : Row). q.1) e) (placed_is form src us b f g) in
        ap₂ (λ (l : Located) (ps : Parts). (l, ps)) (ap (λ (q : Row). q.0) e) tail

pub one_part_prints : (f : Form) (ws : List TokenText) → texts_of ws ≡ print_form f → texts_of ws ≡ row_texts (at None f, none)
unfolding printed unplaced_tree unplaced_tree_form in_order unplaced_tree_parts
one_part_prints f ws h = h ∙ sym (append-nil (print_form f))

pub more_parts_print : (op : Operator) (w : TokenText) (r : Row) (f : Form) (ws vs : List TokenText) → operator_texts op ≡ w.text ∷ [] → texts_of ws ≡ row_texts r → texts_of vs ≡ print_form f
    → texts_of (ws ++ (w ∷ vs)) ≡ row_texts (r.0, snoc r.1 op (at None f))
unfolding printed unplaced_tree unplaced_tree_form
more_parts_print op w r f ws vs texts h k =
    texts-append ws (w ∷ vs) ∙ ap₂ (λ (xs ys : Texts). xs ++ (w.text ∷ ys)) h k
    ∙ append_assoc (print_node r.0) (print_order r.1) (w.text ∷ print_form f)
    ∙ ap (λ xs. print_node r.0 ++ (print_order r.1 ++ (xs ++ print_form f))) (sym texts)
    ∙ ap (λ xs. print_node r.0 ++ xs) (sym (snoc_order r.1 op (at None f)))

-- ---- lists: a first item and the others

-- a list that has an item, seen as a row
abbrev pub bare_items : {X : Type 0} → (X → Form) → List (Cell X) → Parts
bare_items form xs = unlocated_parts (parts_of (map (λ n. (beside, located form n)) xs))

abbrev pub whole : Row → Parts
whole r = more beside r.0 r.1

pub one_of_list : {X : Type 0} (R : Rule X) (S : Rule (List (Cell X))) (form : X → Form) {f : Form} {ws : List TokenText} → ((src : List ℕ) (ts : List Lexeme) (x : X) → R src ts x → S src ts (placed src ts x ∷ []))
    → ReadAs R (bare form) f ws → ReadAs S (bare_items form) (whole (at None f, none)) ws
unfolding unlocated_parts
one_of_list R S form {f = f} rule h =
    same_as {by = bare_items form} {b = whole (at None f, none)} (λ src ts a. record { tree = placed src ts a.tree ∷ []; reads = rule src ts a.tree a.reads; same = ap (λ l. more beside l none) (placed_is form src ts a.tree f a.same) }) h

pub more_of_list : {X : Type 0} (R : Rule X) (S : Rule (List (Cell X))) (form : X → Form) (w : TokenText) {r : Row} {f : Form} {ws vs : List TokenText}
    → ((src : List ℕ) (ts us : List Lexeme) (xs : List (Cell X)) (y : X) (p : Spot) → S src ts xs → R src us y → S src (ts ++ one w.kind p ++ us) (xs ++ placed src us y ∷ []))
    → ReadAs S (bare_items form) (whole r) ws → ReadAs R (bare form) f vs → ReadAs S (bare_items form) (whole (r.0, snoc r.1 beside (at None f))) (ws ++ (w ∷ vs))
unfolding snoc
more_of_list {X = X} R S form w {r = r} {f = f} rule h k =
    infix_as {bz = bare_items form} {c = whole (r.0, snoc r.1 beside (at None f))} w (λ src ts us p e a b. record {
      tree = a.tree ++ placed src us b.tree ∷ [];
      reads = rule src ts us a.tree b.tree p a.reads b.reads;
      same = snoc_bare (λ n. (beside, located form n)) a.tree (placed src us b.tree) ∙ ap₂ (λ (ps : Parts) (l : Located). snoc ps beside l) a.same (placed_is form src us b.tree f b.same);
    }) h k

pub one_of_list_prints : (f : Form) (ws : List TokenText) → texts_of ws ≡ print_form f → texts_of ws ≡ list_texts (at None f, none)
unfolding printed unplaced_tree unplaced_tree_form each_behind unplaced_tree_parts
one_of_list_prints f ws h = h ∙ sym (append-nil (print_form f))

pub more_of_list_print : (w : TokenText) (r : Row) (f : Form) (ws vs : List TokenText) → w.text ≡ codes "," → texts_of ws ≡ list_texts r → texts_of vs ≡ print_form f → texts_of (ws ++ (w ∷ vs)) ≡ list_texts (r.0, snoc r.1 beside (at None f))
unfolding printed unplaced_tree unplaced_tree_form
more_of_list_print w r f ws vs comma h k =
    texts-append ws (w ∷ vs) ∙ ap₂ (λ (xs ys : Texts). xs ++ (w.text ∷ ys)) h k
    ∙ append_assoc (print_node r.0) (print_behind (codes ",") r.1) (w.text ∷ print_form f)
    ∙ ap (λ t. print_node r.0 ++ (print_behind (codes ",") r.1 ++ (t ∷ print_form f))) comma
    ∙ ap (λ xs. print_node r.0 ++ xs) (sym (snoc_behind (codes ",") r.1 beside (at None f)))

-- ---- signs

abbrev pub signs_rule : TokenKind → Rule ℕ
signs_rule k src ts n = ReadsSigns k ts n

abbrev pub count : ℕ → ℕ
count n = n

pub signs_as : (w : TokenText) (m : ℕ) → ReadAs (signs_rule w.kind) count (suc m) (replicate (m + 1) w)
signs_as w zero = token_as {T = signs_rule w.kind} {bz = count} w (λ src p e. record { tree = 1; reads = one_sign p; same = refl })
signs_as w (suc m) =
    subst (λ ws. ReadAs (signs_rule w.kind) count (suc (suc m)) ws) (replicate_more (m + 1) w ∙ ap (λ n. replicate n w) (omega arith))
    (suffix_as {T = signs_rule w.kind} {bz = count} w (λ src ts p e a. record { tree = a.tree + 1; reads = more_signs p a.reads; same = omega (arith, a.same) }) (signs_as w m))

-- ---- rows and lists of words that print them

abbrev pub NodeOf : {X : Type 0} → Rule X → (X → Form) → Form → Type 0
NodeOf R form f = Reworded R (bare form) print_form f

abbrev pub RowOf : {X P : Type 0} → RowRule X P → (X → Form) → (P → Operator × Located) → Row → Type 0
RowOf S form part r = Reworded (rowed S) (bare_row form part) row_texts r

pub first_of_row : {X P : Type 0} (R : Rule X) (S : RowRule X P) (form : X → Form) (part : P → Operator × Located) (f : Form) → ((src : List ℕ) (ts : List Lexeme) (x : X) → R src ts x → S src ts (placed src ts x) [])
    → NodeOf R form f → RowOf S form part (at None f, none)
first_of_row R S form part f rule h = record { words = h.words; spelled = h.spelled; prints = one_part_prints f h.words h.prints; again = one_part R S form part rule h.again }

pub next_of_row : {X P : Type 0} (R : Rule X) (S : RowRule X P) (form : X → Form) (part : P → Operator × Located) (make : Cell X → P) (op : Operator) (w : TokenText) (r : Row) (f : Form)
    → ((src : List ℕ) (ts us : List Lexeme) (x : Cell X) (xs : List P) (y : X) (p : Spot) → S src ts x xs → R src us y → S src (ts ++ one w.kind p ++ us) x (xs ++ make (placed src us y) ∷ []))
    → ((c : Cell X) → part (make c) ≡ (op, located form c)) → operator_texts op ≡ w.text ∷ [] → Spells w.kind w.text
    → RowOf S form part r → NodeOf R form f → RowOf S form part (r.0, snoc r.1 op (at None f))
next_of_row R S form part make op w r f rule is texts s h k = record {
  words = h.words ++ (w ∷ k.words);
  spelled = both_spelled h.words (w ∷ k.words) h.spelled (s, k.spelled);
  prints = more_parts_print op w r f h.words k.words texts h.prints k.prints;
  again = more_parts R S form part make op w rule is h.again k.again;
}

-- a list that has an item
pub record ItemsOf {X : Type 0} (S : Rule (List (Cell X))) (form : X → Form) (xs : List (Cell X)) : Type 0 where
  pub row : Row
  pub is : whole row ≡ bare_items form xs
  pub words : List TokenText
  pub spelled : AreSpelled words
  pub prints : texts_of words ≡ list_texts row
  pub again : ReadAs S (bare_items form) (whole row) words

pub placed_here : {X : Type 0} (form : X → Form) (src : List ℕ) (ts : List Lexeme) (x : X) → unlocated (located form (placed src ts x)) ≡ at None (bare form x)
placed_here form src ts x = placed_is form src ts x (bare form x) refl

pub first_of_list : {X : Type 0} (R : Rule X) (S : Rule (List (Cell X))) (form : X → Form) (src : List ℕ) (ts : List Lexeme) (x : X) → ((src : List ℕ) (ts : List Lexeme) (x : X) → R src ts x → S src ts (placed src ts x ∷ []))
    → NodeOf R form (bare form x) → ItemsOf S form (placed src ts x ∷ [])
unfolding unlocated_parts
first_of_list R S form src ts x rule h = record {
  row = (at None (bare form x), none);
  is = ap (λ l. more beside l none) (sym (placed_here form src ts x));
  words = h.words;
  spelled = h.spelled;
  prints = one_of_list_prints (bare form x) h.words h.prints;
  again = one_of_list R S form rule h.again;
}

pub next_of_list : {X : Type 0} (R : Rule X) (S : Rule (List (Cell X))) (form : X → Form) (w : TokenText) (src : List ℕ) (us : List Lexeme) (xs : List (Cell X)) (y : X)
    → ((src : List ℕ) (ts us : List Lexeme) (xs : List (Cell X)) (y : X) (p : Spot) → S src ts xs → R src us y → S src (ts ++ one w.kind p ++ us) (xs ++ placed src us y ∷ [])) → w.text ≡ codes "," → Spells w.kind w.text
    → ItemsOf S form xs → NodeOf R form (bare form y) → ItemsOf S form (xs ++ placed src us y ∷ [])
unfolding snoc
next_of_list R S form w src us xs y rule comma s g k = record {
  row = (g.row.0, snoc g.row.1 beside (at None (bare form y)));
  is = ap₂ (λ (ps : Parts) (l : Located). snoc ps beside l) g.is (sym (placed_here form src us y)) ∙ sym (snoc_bare (λ n. (beside, located form n)) xs (placed src us y));
  words = g.words ++ (w ∷ k.words);
  spelled = both_spelled g.words (w ∷ k.words) g.spelled (s, k.spelled);
  prints = more_of_list_print w g.row (bare form y) g.words k.words comma g.prints k.prints;
  again = more_of_list R S form w rule g.again k.again;
}

-- with nothing, and with or without a comma behind the last
abbrev pub ListOf : {X : Type 0} → Rule (List (Cell X)) → (X → Form) → List (Cell X) → Type 0
ListOf L form xs = Reworded L (bare_items form) print_items (bare_items form xs)

pub no_items : {X : Type 0} (L : Rule (List (Cell X))) (form : X → Form) → ((src : List ℕ) → L src [] []) → ListOf L form []
unfolding unlocated_parts item_texts unplaced_tree_parts
no_items L form rule = record { words = []; spelled = tt; prints = refl; again = λ src us e. empty src us e }
  where
    empty : (src : List ℕ) (us : List Lexeme) → words_of us ≡ [] → Again L (bare_items form) (bare_items form []) src us
    empty src [] e = record { tree = []; reads = rule src; same = refl }
    empty src (t ∷ ts) e = absurd (cc)

pub some_items : {X : Type 0} (S L : Rule (List (Cell X))) (form : X → Form) (xs : List (Cell X)) → ((src : List ℕ) (ts : List Lexeme) (xs : List (Cell X)) → S src ts xs → L src ts xs) → ItemsOf S form xs → ListOf L form xs
unfolding item_texts unplaced_tree_parts
some_items S L form xs rule g =
    subst (λ ps. Reworded L (bare_items form) print_items ps) g.is record {
      words = g.words;
      spelled = g.spelled;
      prints = g.prints;
      again = same_as {by = bare_items form} {b = whole g.row} (λ src ts a. record { tree = a.tree; reads = rule src ts a.tree a.reads; same = a.same }) g.again;
    }

-- what is read, as a row
pub row_first : {X P : Type 0} (form : X → Form) (part : P → Operator × Located) (src : List ℕ) (ts : List Lexeme) (x : X) → (at None (bare form x), none) ≡ bare_row form part (placed src ts x, [])
unfolding unlocated_parts
row_first form part src ts x = ap (λ l. (l, none)) (sym (placed_here form src ts x))

pub row_next : {X P : Type 0} (form : X → Form) (part : P → Operator × Located) (x : Cell X) (xs : List P) (make : Cell X → P) (op : Operator) (src : List ℕ) (us : List Lexeme) (y : X) → ((c : Cell X) → part (make c) ≡ (op, located form c))
    → ((bare_row form part (x, xs)).0, snoc (bare_row form part (x, xs)).1 op (at None (bare form y))) ≡ bare_row form part (x, xs ++ make (placed src us y) ∷ [])
row_next form part x xs make op src us y is =
    ap (λ (ps : Parts). ((bare_row form part (x, xs)).0, ps))
    (ap (λ l. snoc (bare_row form part (x, xs)).1 op l) (sym (placed_here form src us y))
    ∙ ap (λ (q : Operator × Located). snoc (bare_row form part (x, xs)).1 q.0 (unlocated q.1)) (sym (is (placed src us y)))
    ∙ sym (snoc_bare part xs (make (placed src us y))))
