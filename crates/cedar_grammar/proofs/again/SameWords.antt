-- What tokens are read as, others with the same words are read as too: the forms that rules have
-- in common, and words, literals, names and entity literals.
use Rattle.std.proofs.Common.{◌≡◌, ℕ, List, [], ◌∷◌, ◌++◌, Some, refl, sym, ap, ap₂, ◌∙◌, subst, append_assoc}
use Rattle.std.specs.Prelude.{IsTrue}
use Rattle.std.proofs.lemmas.List.{map-append}
use Rattle.cedar_lexer.specs.Token.{Lexeme}
use Rattle.cedar_lexer.specs.declared.token.TokenKind.{TokenKind}
use Rattle.cedar_lexer.specs.declared.token.TokenKind.TheVariants as kind
use Rattle.cedar_syntax.specs.declared.cst.Ident.{Ident}
use Rattle.cedar_syntax.specs.declared.cst.Literal.{Literal}
use Rattle.cedar_syntax.specs.declared.cst.Literal.TheVariants as lit
use Rattle.cedar_syntax.specs.declared.cst.Name.{Name}
use Rattle.cedar_syntax.specs.declared.cst.Ref.{Ref}
use Rattle.cedar_syntax.specs.declared.cst.Ref.TheVariants as refs
use Rattle.cedar_syntax.specs.declared.cst.RefInit.{RefInit}
use Rattle.cedar_syntax.specs.declared.cst.Str.TheVariants as str
use Rattle.cedar_grammar.specs.grammar.Grammar.{Rule}
use Rattle.cedar_grammar.specs.grammar.LooseWords as w
use Rattle.cedar_grammar.specs.grammar.LooseWords.{ReadsItems, ReadsList, ReadsLiteral, ReadsAny, ReadsPath, ReadsName, ReadsRefInit, ReadsRef, is_common}
use Rattle.cedar_grammar.specs.grammar.Place.{placed}
use Rattle.cedar_syntax.specs.tokens.Tokens.{Spot, one, number_of, fits, between_quotes, any_of}
use Rattle.cedar_syntax.specs.trees.Trees.{Cell, name_of, ref_init_of}
use Rattle.cedar_syntax.specs.trees.Unlocated.{unlocated_literal, unlocated_name, unlocated_ref, unlocated_ref_init}
use Rattle.cedar_syntax.specs.trees.UnlocatedTrees.{bare_cell, bare_cells}
use Rattle.cedar_lexer.specs.Words.{TokenText, words_of}
use Rattle.cedar_grammar.specs.printing.SameWords.{Again}
use Rattle.cedar_grammar.proofs.again.Rereading.{words-append, ReadAs, same_as, infix_as, beside_as, token_as, suffix_as, bracket_as}
use Rattle.cedar_grammar.proofs.again.Cases.{any_rule, by_itself, there}
use Rattle.cedar_grammar.proofs.again.Leaves.{Path, path_rule, bare_path, bare_longer}
use Rattle.cedar_grammar.proofs.again.Lists.{ListRule, ItemsRule, ReadsId, id, ReadsBraces, braces, uid_read, braces_read, regrouped, name_at}

-- ---- a token, and tokens around it

abbrev pub at_spot : TokenKind → Spot → TokenText
at_spot k p = record { kind = k; text = p.text }

pub around : (k : TokenKind) (p : Spot) (ts us : List Lexeme) → words_of ts ++ (at_spot k p ∷ words_of us) ≡ words_of (ts ++ one k p ++ us)
around k p ts us = sym (words-append (ts ++ one k p) us ∙ ap (λ ws. ws ++ words_of us) (words-append ts (one k p)) ∙ append_assoc (words_of ts) (at_spot k p ∷ []) (words_of us))

-- tokens with the words of these have a tree of this content
abbrev pub Same : {X F : Type 0} → Rule X → (X → F) → F → List Lexeme → Type 0
Same R bare f ts = ReadAs R bare f (words_of ts)

pub infix_same : {X Y Z F G H : Type 0} {R : Rule X} {S : Rule Y} {T : Rule Z} {bx : X → F} {by : Y → G} {bz : Z → H} {a : F} {b : G} {c : H} (k : TokenKind) (p : Spot) (ts us : List Lexeme)
    → ((src : List ℕ) (ts us : List Lexeme) (q : Spot) → q.text ≡ p.text → Again R bx a src ts → Again S by b src us → Again T bz c src (ts ++ one k q ++ us))
    → Same R bx a ts → Same S by b us → Same T bz c (ts ++ one k p ++ us)
infix_same {T = T} {bz = bz} {c = c} k p ts us rule h j = subst (λ ws. ReadAs T bz c ws) (around k p ts us) (infix_as {T = T} {bz = bz} {c = c} (at_spot k p) rule h j)

pub beside_same : {X Y Z F G H : Type 0} {R : Rule X} {S : Rule Y} {T : Rule Z} {bx : X → F} {by : Y → G} {bz : Z → H} {a : F} {b : G} {c : H} (ts us : List Lexeme)
    → ((src : List ℕ) (ts us : List Lexeme) → Again R bx a src ts → Again S by b src us → Again T bz c src (ts ++ us))
    → Same R bx a ts → Same S by b us → Same T bz c (ts ++ us)
beside_same {T = T} {bz = bz} {c = c} ts us rule h j = subst (λ ws. ReadAs T bz c ws) (sym (words-append ts us)) (beside_as {T = T} {bz = bz} {c = c} rule h j)

pub suffix_same : {X Z F H : Type 0} {R : Rule X} {T : Rule Z} {bx : X → F} {bz : Z → H} {a : F} {c : H} (k : TokenKind) (p : Spot) (ts : List Lexeme)
    → ((src : List ℕ) (ts : List Lexeme) (q : Spot) → q.text ≡ p.text → Again R bx a src ts → Again T bz c src (ts ++ one k q))
    → Same R bx a ts → Same T bz c (ts ++ one k p)
suffix_same {T = T} {bz = bz} {c = c} k p ts rule h = subst (λ ws. ReadAs T bz c ws) (sym (words-append ts (one k p))) (suffix_as {T = T} {bz = bz} {c = c} (at_spot k p) rule h)

pub bracket_same : {X Z F H : Type 0} {R : Rule X} {T : Rule Z} {bx : X → F} {bz : Z → H} {a : F} {c : H} (j k : TokenKind) (p q : Spot) (ts : List Lexeme)
    → ((src : List ℕ) (ts : List Lexeme) (l m : Spot) → Again R bx a src ts → Again T bz c src (one j l ++ ts ++ one k m))
    → Same R bx a ts → Same T bz c (one j p ++ ts ++ one k q)
bracket_same {T = T} {bz = bz} {c = c} j k p q ts rule h =
    subst (λ ws. ReadAs T bz c ws) (ap (λ ws. at_spot j p ∷ ws) (sym (words-append ts (one k q)))) (bracket_as {T = T} {bz = bz} {c = c} (at_spot j p) (at_spot k q) (λ src ts l m d e x. rule src ts l m x) h)

pub nothing_same : {Z H : Type 0} {T : Rule Z} {bz : Z → H} {c : H} → ((src : List ℕ) → Again T bz c src []) → Same T bz c []
nothing_same rule src [] e = rule src
nothing_same rule src (u ∷ us) e = absurd (cc)

-- ---- words and literals

pub any_same : {ts : List Lexeme} {i : Ident} → ReadsAny ts i → Same any_rule by_itself i ts
any_same (w.any {k = k} {i = i} p h) = token_as {T = any_rule} {bz = by_itself} {c = i} (at_spot k p) (λ src q e. record { tree = i; reads = w.any q (subst (λ u. any_of k u ≡ Some i) (sym e) h); same = refl })

pub literal_same : {src : List ℕ} {ts : List Lexeme} {x : Literal} → ReadsLiteral src ts x → Same ReadsLiteral unlocated_literal (unlocated_literal x) ts
literal_same (w.truth p) = token_as (at_spot kind.True p) (λ src q e. record { tree = lit.True; reads = w.truth q; same = refl })
literal_same (w.falsity p) = token_as (at_spot kind.False p) (λ src q e. record { tree = lit.False; reads = w.falsity q; same = refl })
literal_same (w.number p f) = token_as (at_spot kind.Number p) (λ src q e. record { tree = lit.Num (number_of q.text); reads = w.number q (subst (λ u. IsTrue (fits u)) (sym e) f); same = ap (λ u. lit.Num (number_of u)) e })
literal_same (w.string p) =
    token_as (at_spot kind.StringLit p) (λ src q e. record { tree = lit.Str (placed src (one kind.StringLit q) (str.String (between_quotes q.text))); reads = w.string q; same = ap (λ u. lit.Str (there (str.String (between_quotes u)))) e })

-- ---- paths and names

pub path_same : {src : List ℕ} {ts : List Lexeme} {xs : List (Cell Ident)} {x : Cell Ident} → ReadsPath src ts xs x → Same path_rule bare_path (bare_path (xs, x)) ts
path_same (w.one_word {i = i} r) = same_as {by = bare_path} {b = ([], there i)} (λ src ts x. record { tree = ([], placed src ts x.tree); reads = w.one_word x.reads; same = ap (λ j. ([], there j)) x.same }) (any_same r)
path_same {src = src} (w.more_words {ts = ts} {us = us} {xs = xs} {x = x} {i = i} p r q) =
    infix_same {T = path_rule} {bz = bare_path} {c = bare_path (xs ++ x ∷ [], placed src us i)} kind.ColonColon p ts us (λ src' ts' us' p' e a b. record {
      tree = (a.tree.0 ++ a.tree.1 ∷ [], placed src' us' b.tree);
      reads = w.more_words p' a.reads b.reads;
      same = bare_longer a.tree (bare_path (xs, x)) src' us' b.tree i a.same b.same ∙ sym (bare_longer (xs, x) (bare_path (xs, x)) src us i i refl refl);
    }) (path_same r) (any_same q)

pub name_same : {src : List ℕ} {ts : List Lexeme} {x : Name} → ReadsName src ts x → Same ReadsName unlocated_name (unlocated_name x) ts
name_same (w.common {i = i} r c) =
    same_as {S = ReadsName} {by = unlocated_name} {b = name_of [] (there i)}
    (λ src ts x. record { tree = name_of [] (placed src ts x.tree); reads = w.common x.reads (subst (λ j. IsTrue (is_common j)) (sym x.same) c); same = ap (λ j. name_of [] (there j)) x.same }) (any_same r)
name_same {src = src} (w.qualified {ts = ts} {us = us} {xs = xs} {x = x} {i = i} p r q) =
    infix_same {T = ReadsName} {bz = unlocated_name} {c = unlocated_name (name_of (xs ++ x ∷ []) (placed src us i))} kind.ColonColon p ts us (λ src' ts' us' p' e a b. record {
      tree = name_of (a.tree.0 ++ a.tree.1 ∷ []) (placed src' us' b.tree);
      reads = w.qualified p' a.reads b.reads;
      same = ap (λ (r : Path). name_of r.0 r.1) (bare_longer a.tree (bare_path (xs, x)) src' us' b.tree i a.same b.same ∙ sym (bare_longer (xs, x) (bare_path (xs, x)) src us i i refl refl));
    }) (path_same r) (any_same q)

-- ---- lists of any rule

abbrev pub EachSame : {X F : Type 0} → Rule X → (X → F) → List ℕ → Type 0
EachSame {X = X} R bare src = (ts : List Lexeme) (x : X) → R src ts x → Same R bare (bare x) ts

pub items_same : {X F : Type 0} (R : Rule X) (bare : X → F) {src : List ℕ} → EachSame R bare src → {ts : List Lexeme} {xs : List (Cell X)} → ReadsItems src (R src) ts xs → Same (ItemsRule R) (bare_cells bare) (bare_cells bare xs) ts
items_same R bare each (w.one_item {ts = ts} {x = x} r) =
    same_as {S = ItemsRule R} {by = bare_cells bare} {b = there (bare x) ∷ []} (λ src ts a. record { tree = placed src ts a.tree ∷ []; reads = w.one_item a.reads; same = ap (λ b. there b ∷ []) a.same }) (each ts x r)
items_same {F = F} R bare {src = src} each (w.more_items {ts = ts} {us = us} {xs = xs} {y = y} p r q) =
    infix_same {T = ItemsRule R} {bz = bare_cells bare} {c = bare_cells bare (xs ++ placed src us y ∷ [])} kind.Comma p ts us (λ src' ts' us' p' e a b. record {
      tree = a.tree ++ placed src' us' b.tree ∷ [];
      reads = w.more_items p' a.reads b.reads;
      same = map-append (bare_cell bare) a.tree (placed src' us' b.tree ∷ []) ∙ ap₂ (λ (cs : List (Cell F)) (d : F). cs ++ there d ∷ []) a.same b.same ∙ sym (map-append (bare_cell bare) xs (placed src us y ∷ []));
    }) (items_same R bare each r) (each us y q)

pub list_same : {X F : Type 0} (R : Rule X) (bare : X → F) {src : List ℕ} → EachSame R bare src → {ts : List Lexeme} {xs : List (Cell X)} → ReadsList src (R src) ts xs → Same (ListRule R) (bare_cells bare) (bare_cells bare xs) ts
list_same R bare each w.no_item = nothing_same {T = ListRule R} {bz = bare_cells bare} {c = []} (λ src. record { tree = []; reads = w.no_item; same = refl })
list_same R bare each (w.items {xs = xs} r) =
    same_as {S = ListRule R} {by = bare_cells bare} {b = bare_cells bare xs} (λ src ts a. record { tree = a.tree; reads = w.items a.reads; same = a.same }) (items_same R bare each r)
list_same R bare each (w.items_comma {ts = ts} {xs = xs} p r) =
    suffix_same {T = ListRule R} {bz = bare_cells bare} {c = bare_cells bare xs} kind.Comma p ts (λ src ts q e a. record { tree = a.tree; reads = w.items_comma q a.reads; same = a.same }) (items_same R bare each r)

-- ---- entity literals

init_same : (src : List ℕ) (ts : List Lexeme) (x : RefInit) → ReadsRefInit src ts x → Same ReadsRefInit unlocated_ref_init (unlocated_ref_init x) ts
init_same src _ _ (w.ref_init {ts = ts} {us = us} {i = i} {x = x} p r q) =
    infix_same {T = ReadsRefInit} {bz = unlocated_ref_init} {c = ref_init_of (there i) (there (unlocated_literal x))} kind.Colon p ts us (λ src ts us p e a b. record {
      tree = ref_init_of (placed src ts a.tree) (placed src us b.tree);
      reads = w.ref_init p a.reads b.reads;
      same = ap₂ (λ (j : Ident) (b : Literal). ref_init_of (there j) (there b)) a.same b.same;
    }) (any_same r) (literal_same q)

abbrev pub raw_text : List ℕ → List ℕ
raw_text r = r

pub id_same : (q : Spot) → Same ReadsId raw_text (between_quotes q.text) (one kind.StringLit q)
id_same q = token_as {T = ReadsId} {bz = raw_text} {c = between_quotes q.text} (at_spot kind.StringLit q) (λ src p e. record { tree = between_quotes p.text; reads = id p; same = ap between_quotes e })

braces_same : {src : List ℕ} {us : List Lexeme} {ys : List (Cell RefInit)} (l m : Spot) → ReadsList src (ReadsRefInit src) us ys → Same ReadsBraces (bare_cells unlocated_ref_init) (bare_cells unlocated_ref_init ys) (one kind.OpenBrace l ++ us ++ one kind.CloseBrace m)
braces_same {src = src} {us = us} {ys = ys} l m q =
    bracket_same {T = ReadsBraces} {bz = bare_cells unlocated_ref_init} {c = bare_cells unlocated_ref_init ys} kind.OpenBrace kind.CloseBrace l m us (λ src ts l m a. record { tree = a.tree; reads = braces l m a.reads; same = a.same })
    (list_same ReadsRefInit unlocated_ref_init (init_same src) q)

pub ref_same : {src : List ℕ} {ts : List Lexeme} {x : Ref} → ReadsRef src ts x → Same ReadsRef unlocated_ref (unlocated_ref x) ts
ref_same (w.uid {ts = ts} {xs = xs} {x = x} p q r) =
    infix_same {T = ReadsRef} {bz = unlocated_ref} {c = refs.Uid (name_at (bare_path (xs, x))) (there (str.String (between_quotes q.text)))} kind.ColonColon p ts (one kind.StringLit q) (λ src ts us p e a b. record {
      tree = refs.Uid (placed src ts (name_of a.tree.0 a.tree.1)) (placed src us (str.String b.tree));
      reads = uid_read p a.reads b.reads;
      same = ap₂ (λ (r : Path) (v : List ℕ). refs.Uid (name_at r) (there (str.String v))) a.same b.same;
    }) (path_same r) (id_same q)
ref_same (w.with_inits {ts = ts} {us = us} {xs = xs} {x = x} {ys = ys} p l m r q) =
    let c = refs.Ref (name_at (bare_path (xs, x))) (bare_cells unlocated_ref_init ys) in
    subst (λ vs. Same ReadsRef unlocated_ref c vs) (sym (regrouped ts (one kind.ColonColon p) (one kind.OpenBrace l) us (one kind.CloseBrace m)))
    (infix_same {T = ReadsRef} {bz = unlocated_ref} {c = c} kind.ColonColon p ts (one kind.OpenBrace l ++ us ++ one kind.CloseBrace m) (λ src ts us p e a b. record {
      tree = refs.Ref (placed src ts (name_of a.tree.0 a.tree.1)) b.tree;
      reads = braces_read p a.reads b.reads;
      same = ap₂ (λ (r : Path) (v : List (Cell RefInit)). refs.Ref (name_at r) v) a.same b.same;
    }) (path_same r) (braces_same l m q))
