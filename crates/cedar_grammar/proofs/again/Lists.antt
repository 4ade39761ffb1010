-- Lists of items, and entity literals.
use Rattle.std.proofs.Common.{◌≡◌, ℕ, List, [], ◌∷◌, ◌++◌, codes, refl, sym, ap, ap₂, ◌∙◌, subst, append_assoc, append-nil}
use Rattle.cedar_lexer.specs.Spelling.{Spells}
use Rattle.cedar_lexer.specs.Token.{Lexeme}
use Rattle.cedar_lexer.specs.declared.token.TokenKind.TheVariants as kind
use Rattle.cedar_syntax.specs.declared.cst.Literal.{Literal}
use Rattle.cedar_syntax.specs.declared.cst.Ident.{Ident}
use Rattle.cedar_syntax.specs.declared.cst.Name.{Name}
use Rattle.cedar_syntax.specs.declared.cst.Ref.{Ref}
use Rattle.cedar_grammar.specs.grammar.Grammar.{Rule}
use Rattle.cedar_grammar.specs.grammar.LooseWords as w
use Rattle.cedar_grammar.specs.grammar.LooseWords.{ReadsItems, ReadsList, ReadsPath, ReadsRefInit, ReadsRef}
use Rattle.cedar_grammar.specs.grammar.Place.{placed}
use Rattle.cedar_syntax.specs.printing.Printed.{Texts, printed, item_texts, each_behind, quoted_text}
use Rattle.cedar_syntax.specs.tokens.Tokens.{Spot, one, between_quotes}
use Rattle.cedar_syntax.specs.trees.Trees.{Cell, name_of, ref_init_of}
use Rattle.cedar_syntax.specs.trees.Unlocated.{unlocated_literal, unlocated_ref, unlocated_ref_init}
use Rattle.cedar_lexer.specs.Words.{TokenText, words_of, texts_of, AreSpelled}
use Rattle.cedar_grammar.specs.printing.SameWords.{Again}
use Rattle.cedar_grammar.proofs.again.Rereading.{AllSpelled, texts-append, both_spelled, halves, left_of, right_of, ReadAs, same_as, infix_as, token_as, bracket_as, Reworded}
use Rattle.std.proofs.lemmas.List.{map-append}
use Rattle.cedar_syntax.specs.declared.cst.Str.TheVariants as str
use Rattle.cedar_syntax.specs.declared.cst.Ref.TheVariants as refs
use Rattle.cedar_syntax.specs.declared.cst.RefInit.{RefInit}
use Rattle.cedar_syntax.specs.trees.Tree.{Tree}
use Rattle.cedar_syntax.specs.trees.Unplaced.{unplaced_node, content, ref_init_tree}
use Rattle.cedar_grammar.proofs.again.Expressions.{word}
use Rattle.cedar_grammar.proofs.again.Cases.{Leaves, ref_texts, there}
use Rattle.cedar_syntax.specs.trees.UnlocatedTrees.{bare_cell, bare_cells, rest_cells}
use Rattle.cedar_grammar.proofs.again.Leaves.{AnyOf, any_again, LiteralOf, literal_read_again, Path, bare_path, PathOf, path_again, name_again, quoted, colons}

-- ---- items separated by commas, of any rule: what they hold without places, and what is printed
-- of it

abbrev pub cells_print : {F : Type 0} → (F → Tree) → List (Cell F) → Texts
cells_print tree cs = item_texts (rest_cells tree cs)

-- a first item and others
abbrev pub row_print : {F : Type 0} → (F → Tree) → F → List (Cell F) → Texts
row_print tree a cs = printed (tree a) ++ each_behind (codes ",") (rest_cells tree cs)

cells_snoc : {F : Type 0} (tree : F → Tree) (cs : List (Cell F)) (a : F) → each_behind (codes ",") (rest_cells tree (cs ++ there a ∷ [])) ≡ each_behind (codes ",") (rest_cells tree cs) ++ (codes "," ∷ printed (tree a))
unfolding each_behind
cells_snoc tree [] a = ap (λ xs. codes "," ∷ xs) (append-nil (printed (tree a)))
cells_snoc tree (c ∷ cs) a =
    ap (λ xs. codes "," ∷ (printed (content (unplaced_node tree c)) ++ xs)) (cells_snoc tree cs a)
    ∙ ap (λ xs. codes "," ∷ xs) (sym (append_assoc (printed (content (unplaced_node tree c))) (each_behind (codes ",") (rest_cells tree cs)) (codes "," ∷ printed (tree a))))

-- rules for a fixed source, as `ReadsList` takes them
abbrev pub ListRule : {X : Type 0} → Rule X → Rule (List (Cell X))
ListRule R src ts xs = ReadsList src (R src) ts xs

abbrev pub ItemsRule : {X : Type 0} → Rule X → Rule (List (Cell X))
ItemsRule R src ts xs = ReadsItems src (R src) ts xs

pub record SomeItems {X F : Type 0} (R : Rule X) (bare : X → F) (tree : F → Tree) (xs : List (Cell X)) : Type 0 where
  pub first : F
  pub others : List (Cell F)
  pub is : there first ∷ others ≡ bare_cells bare xs
  pub words : List TokenText
  pub spelled : AreSpelled words
  pub prints : texts_of words ≡ row_print tree first others
  pub again : ReadAs (ItemsRule R) (bare_cells bare) (there first ∷ others) words

abbrev comma : TokenText
comma = word kind.Comma (codes ",")

one_of : {X F : Type 0} (R : Rule X) (bare : X → F) (tree : F → Tree) (src : List ℕ) (ts : List Lexeme) (x : X) → Reworded R bare (λ a. printed (tree a)) (bare x) → SomeItems R bare tree (placed src ts x ∷ [])
unfolding each_behind
one_of R bare tree src ts x h = record {
  first = bare x;
  others = [];
  is = refl;
  words = h.words;
  spelled = h.spelled;
  prints = h.prints ∙ sym (append-nil (printed (tree (bare x))));
  again = same_as {by = bare_cells bare} {b = there (bare x) ∷ []} (λ src ts a. record { tree = placed src ts a.tree ∷ []; reads = w.one_item a.reads; same = ap (λ b. there b ∷ []) a.same }) h.again;
}

next_of : {X F : Type 0} (R : Rule X) (bare : X → F) (tree : F → Tree) (src : List ℕ) (us : List Lexeme) (xs : List (Cell X)) (y : X) → SomeItems R bare tree xs → Reworded R bare (λ a. printed (tree a)) (bare y) → SomeItems R bare tree (xs ++ placed src us y ∷ [])
next_of {X = X} {F = F} R bare tree src us xs y g k = record {
  first = g.first;
  others = g.others ++ there (bare y) ∷ [];
  is = ap (λ cs. cs ++ there (bare y) ∷ []) g.is ∙ sym (map-append (bare_cell bare) xs (placed src us y ∷ []));
  words = g.words ++ (comma ∷ k.words);
  spelled = both_spelled g.words (comma ∷ k.words) g.spelled (refl, k.spelled);
  prints = texts-append g.words (comma ∷ k.words) ∙ ap₂ (λ (xs ys : Texts). xs ++ (codes "," ∷ ys)) g.prints k.prints
      ∙ append_assoc (printed (tree g.first)) (each_behind (codes ",") (rest_cells tree g.others)) (codes "," ∷ printed (tree (bare y)))
      ∙ ap (λ xs. printed (tree g.first) ++ xs) (sym (cells_snoc tree g.others (bare y)));
  again = infix_as {bz = bare_cells bare} {c = there g.first ∷ (g.others ++ there (bare y) ∷ [])} comma (λ src ts us p e a b. record {
    tree = a.tree ++ placed src us b.tree ∷ [];
    reads = w.more_items p a.reads b.reads;
    same = map-append (bare_cell bare) a.tree (placed src us b.tree ∷ []) ∙ ap₂ (λ (cs : List (Cell F)) (d : F). cs ++ there d ∷ []) a.same b.same;
  }) g.again k.again;
}

abbrev pub ListOf : {X F : Type 0} → Rule X → (X → F) → (F → Tree) → List (Cell X) → Type 0
ListOf R bare tree xs = Reworded (ListRule R) (bare_cells bare) (cells_print tree) (bare_cells bare xs)

none_of : {X F : Type 0} (R : Rule X) (bare : X → F) (tree : F → Tree) → ListOf R bare tree []
unfolding item_texts
none_of R bare tree = record { words = []; spelled = tt; prints = refl; again = λ src us e. empty src us e }
  where
    empty : (src : List ℕ) (us : List Lexeme) → words_of us ≡ [] → Again (ListRule R) (bare_cells bare) [] src us
    empty src [] e = record { tree = []; reads = w.no_item; same = refl }
    empty src (u ∷ us) e = absurd (cc)

some_of : {X F : Type 0} (R : Rule X) (bare : X → F) (tree : F → Tree) (xs : List (Cell X)) → SomeItems R bare tree xs → ListOf R bare tree xs
unfolding item_texts
some_of R bare tree xs g =
    subst (λ cs. Reworded (ListRule R) (bare_cells bare) (cells_print tree) cs) g.is record {
      words = g.words;
      spelled = g.spelled;
      prints = g.prints;
      again = same_as {by = bare_cells bare} {b = there g.first ∷ g.others} (λ src ts a. record { tree = a.tree; reads = w.items a.reads; same = a.same }) g.again;
    }

-- each item that is read is read again
abbrev pub EachAgain : {X F : Type 0} → Rule X → (X → F) → (F → Tree) → List ℕ → Type 0
EachAgain {X = X} R bare tree src = (ts : List Lexeme) (x : X) → R src ts x → AllSpelled ts → Reworded R bare (λ a. printed (tree a)) (bare x)

items_again : {X F : Type 0} (R : Rule X) (bare : X → F) (tree : F → Tree) {src : List ℕ} → EachAgain R bare tree src → {ts : List Lexeme} {xs : List (Cell X)} → ReadsItems src (R src) ts xs → AllSpelled ts → SomeItems R bare tree xs
items_again R bare tree {src = src} each (w.one_item {ts = ts} {x = x} r) s = one_of R bare tree src ts x (each ts x r s)
items_again R bare tree {src = src} each (w.more_items {ts = ts} {us = us} {xs = xs} {y = y} p r q) s =
    next_of R bare tree src us xs y (items_again R bare tree each r (left_of ts us kind.Comma p s)) (each us y q (right_of ts us kind.Comma p s))

pub list_again : {X F : Type 0} (R : Rule X) (bare : X → F) (tree : F → Tree) {src : List ℕ} → EachAgain R bare tree src → {ts : List Lexeme} {xs : List (Cell X)} → ReadsList src (R src) ts xs → AllSpelled ts → ListOf R bare tree xs
list_again R bare tree each w.no_item s = none_of R bare tree
list_again R bare tree each (w.items {xs = xs} r) s = some_of R bare tree xs (items_again R bare tree each r s)
list_again R bare tree each (w.items_comma {ts = ts} {xs = xs} p r) s = some_of R bare tree xs (items_again R bare tree each r (halves ts (one kind.Comma p) s).0)

-- ---- entity literals

abbrev colon : TokenText
colon = word kind.Colon (codes ":")

abbrev InitOf : RefInit → Type 0
InitOf a = Reworded ReadsRefInit unlocated_ref_init (λ b. printed (ref_init_tree b)) a

init_of : (i : Ident) (a : Literal) → AnyOf i → LiteralOf a → InitOf (ref_init_of (there i) (there a))
unfolding printed
init_of i a h k = record {
  words = h.words ++ (colon ∷ k.words);
  spelled = both_spelled h.words (colon ∷ k.words) h.spelled (refl, k.spelled);
  prints = texts-append h.words (colon ∷ k.words) ∙ ap₂ (λ (xs ys : Texts). xs ++ (codes ":" ∷ ys)) h.prints k.prints;
  again = infix_as colon (λ src ts us p e x y. record { tree = ref_init_of (placed src ts x.tree) (placed src us y.tree); reads = w.ref_init p x.reads y.reads; same = ap₂ (λ (j : Ident) (b : Literal). ref_init_of (there j) (there b)) x.same y.same }) h.again k.again;
}

init_again : (src : List ℕ) (ts : List Lexeme) (x : RefInit) → ReadsRefInit src ts x → AllSpelled ts → InitOf (unlocated_ref_init x)
init_again src _ _ (w.ref_init {ts = ts} {us = us} {i = i} {x = x} p r q) s = init_of i (unlocated_literal x) (any_again r (left_of ts us kind.Colon p s)) (literal_read_again q (right_of ts us kind.Colon p s))

-- what stands behind the path, as rules of their own

pub data ReadsId (src : List ℕ) : List Lexeme → List ℕ → Type 0 where
  id : (q : Spot) → ReadsId src (one kind.StringLit q) (between_quotes q.text)

pub data ReadsBraces (src : List ℕ) : List Lexeme → List (Cell RefInit) → Type 0 where
  braces : {us : List Lexeme} {ys : List (Cell RefInit)} (l m : Spot) → ReadsList src (ReadsRefInit src) us ys → ReadsBraces src (one kind.OpenBrace l ++ us ++ one kind.CloseBrace m) ys

pub uid_read : {src : List ℕ} {ts us : List Lexeme} {xs : List (Cell Ident)} {x : Cell Ident} {raw : List ℕ} (p : Spot) → ReadsPath src ts xs x → ReadsId src us raw → ReadsRef src (ts ++ one kind.ColonColon p ++ us) (refs.Uid (placed src ts (name_of xs x)) (placed src us (str.String raw)))
uid_read p r (id q) = w.uid p q r

pub regrouped : (ts a b us c : List Lexeme) → ts ++ a ++ b ++ us ++ c ≡ ts ++ a ++ (b ++ us ++ c)
regrouped ts a b us c = append_assoc (ts ++ a ++ b) us c ∙ append_assoc (ts ++ a) b (us ++ c) ∙ ap (λ xs. ts ++ a ++ xs) (sym (append_assoc b us c))

pub braces_read : {src : List ℕ} {ts us : List Lexeme} {xs : List (Cell Ident)} {x : Cell Ident} {ys : List (Cell RefInit)} (p : Spot) → ReadsPath src ts xs x → ReadsBraces src us ys → ReadsRef src (ts ++ one kind.ColonColon p ++ us) (refs.Ref (placed src ts (name_of xs x)) ys)
braces_read {src = src} {ts = ts} {xs = xs} {x = x} p r (braces {us = us} {ys = ys} l m q) =
    subst (λ v. ReadsRef src v (refs.Ref (placed src ts (name_of xs x)) ys)) (regrouped ts (one kind.ColonColon p) (one kind.OpenBrace l) us (one kind.CloseBrace m)) (w.with_inits p l m r q)

abbrev RefOf : Ref → Type 0
RefOf a = Reworded ReadsRef unlocated_ref ref_texts a

abbrev pub name_at : Path → Cell Name
name_at q = there (name_of q.0 q.1)

pub id_again : (text : List ℕ) → Spells kind.StringLit text → Reworded ReadsId (λ r. r) (λ r. quoted_text r ∷ []) (between_quotes text)
id_again text s = record {
  words = word kind.StringLit text ∷ [];
  spelled = (s, tt);
  prints = ap (λ u. u ∷ []) (quoted text s);
  again = token_as {bz = λ (r : List ℕ). r} (word kind.StringLit text) (λ src q e. record { tree = between_quotes q.text; reads = id q; same = ap between_quotes e });
}

uid_again : (q : Path) (raw : List ℕ) → PathOf q → Reworded ReadsId (λ r. r) (λ r. quoted_text r ∷ []) raw → RefOf (refs.Uid (name_at q) (there (str.String raw)))
unfolding printed
uid_again q raw h k = record {
  words = h.words ++ (colons ∷ k.words);
  spelled = both_spelled h.words (colons ∷ k.words) h.spelled (refl, k.spelled);
  prints = texts-append h.words (colons ∷ k.words) ∙ ap₂ (λ (xs ys : Texts). xs ++ (codes "::" ∷ ys)) h.prints k.prints;
  again = infix_as colons (λ src ts us p e x y. record {
    tree = refs.Uid (placed src ts (name_of x.tree.0 x.tree.1)) (placed src us (str.String y.tree));
    reads = uid_read p x.reads y.reads;
    same = ap₂ (λ (r : Path) (v : List ℕ). refs.Uid (name_at r) (there (str.String v))) x.same y.same;
  }) h.again k.again;
}

abbrev inits_print : List (Cell RefInit) → Texts
inits_print cs = codes "{" ∷ (cells_print ref_init_tree cs ++ (codes "}" ∷ []))

braces_again : (cs : List (Cell RefInit)) → Reworded (ListRule ReadsRefInit) (bare_cells unlocated_ref_init) (cells_print ref_init_tree) cs → Reworded ReadsBraces (bare_cells unlocated_ref_init) inits_print cs
braces_again cs h =
    let a = word kind.OpenBrace (codes "{") in
    let b = word kind.CloseBrace (codes "}") in
    record {
      words = a ∷ (h.words ++ (b ∷ []));
      spelled = (refl, both_spelled h.words (b ∷ []) h.spelled (refl, tt));
      prints = ap (λ xs. codes "{" ∷ xs) (texts-append h.words (b ∷ []) ∙ ap (λ xs. xs ++ (codes "}" ∷ [])) h.prints);
      again = bracket_as {bz = bare_cells unlocated_ref_init} a b (λ src ts l m d e x. record { tree = x.tree; reads = braces l m x.reads; same = x.same }) h.again;
    }

fields_again : (q : Path) (cs : List (Cell RefInit)) → PathOf q → Reworded ReadsBraces (bare_cells unlocated_ref_init) inits_print cs → RefOf (refs.Ref (name_at q) cs)
unfolding printed
fields_again q cs h k = record {
  words = h.words ++ (colons ∷ k.words);
  spelled = both_spelled h.words (colons ∷ k.words) h.spelled (refl, k.spelled);
  prints = texts-append h.words (colons ∷ k.words) ∙ ap₂ (λ (xs ys : Texts). xs ++ (codes "::" ∷ ys)) h.prints k.prints;
  again = infix_as colons (λ src ts us p e x y. record {
    tree = refs.Ref (placed src ts (name_of x.tree.0 x.tree.1)) y.tree;
    reads = braces_read p x.reads y.reads;
    same = ap₂ (λ (r : Path) (v : List (Cell RefInit)). refs.Ref (name_at r) v) x.same y.same;
  }) h.again k.again;
}

pub ref_again : {src : List ℕ} {ts : List Lexeme} {x : Ref} → ReadsRef src ts x → AllSpelled ts → RefOf (unlocated_ref x)
ref_again (w.uid {ts = ts} {xs = xs} {x = x} p q r) s =
    uid_again (bare_path (xs, x)) (between_quotes q.text) (path_again r (left_of ts (one kind.StringLit q) kind.ColonColon p s)) (id_again q.text (right_of ts (one kind.StringLit q) kind.ColonColon p s).0)
ref_again {src = src} (w.with_inits {ts = ts} {us = us} {xs = xs} {x = x} {ys = ys} p l m r q) s =
    let h : AllSpelled (ts ++ one kind.ColonColon p ++ (one kind.OpenBrace l ++ us ++ one kind.CloseBrace m)) = subst AllSpelled (regrouped ts (one kind.ColonColon p) (one kind.OpenBrace l) us (one kind.CloseBrace m)) s in
    let inner = right_of ts (one kind.OpenBrace l ++ us ++ one kind.CloseBrace m) kind.ColonColon p h in
    let items = (halves (one kind.OpenBrace l) us (halves (one kind.OpenBrace l ++ us) (one kind.CloseBrace m) inner).0).1 in
    fields_again (bare_path (xs, x)) (bare_cells unlocated_ref_init ys) (path_again r (left_of ts (one kind.OpenBrace l ++ us ++ one kind.CloseBrace m) kind.ColonColon p h)) (braces_again (bare_cells unlocated_ref_init ys) (list_again ReadsRefInit unlocated_ref_init ref_init_tree (init_again src) q items))

-- ---- all that holds no expression

pub leaves : Leaves
leaves = record { any = any_again; literal = literal_read_again; name = name_again; reference = ref_again }
