-- Complete: the machines of paths and of entity literals come to each path and entity literal.
use Rattle.std.proofs.Common.{◌≡◌, ℕ, List, [], ◌∷◌, ◌++◌, Option, Some, refl, sym, ◌∙◌, ap, append_assoc}
use Rattle.cedar_lexer.specs.Token.{Lexeme}
use Rattle.cedar_lexer.specs.declared.token.TokenKind.{TokenKind}
use Rattle.cedar_lexer.specs.declared.token.TokenKind.TheVariants as kind
use Rattle.cedar_syntax.specs.declared.cst.Ident.{Ident}
use Rattle.cedar_syntax.specs.declared.cst.Name.{Name}
use Rattle.cedar_syntax.specs.declared.cst.Ref.{Ref}
use Rattle.cedar_syntax.specs.declared.cst.Ref.TheVariants as ref
use Rattle.cedar_syntax.specs.declared.cst.RefInit.{RefInit}
use Rattle.cedar_syntax.specs.declared.cst.Literal.{Literal}
use Rattle.cedar_syntax.specs.declared.cst.Str.{Str}
use Rattle.cedar_syntax.specs.declared.cst.Str.TheVariants as str
use Rattle.cedar_grammar.specs.declared.reading.extent.Extent.{Extent}
use Rattle.cedar_expression_machine.specs.declared.words.state.Path.{Path}
use Rattle.cedar_expression_machine.specs.declared.words.state.PathState.TheVariants as path
use Rattle.cedar_expression_machine.specs.declared.words.state.Entity.{Entity}
use Rattle.cedar_expression_machine.specs.declared.words.state.OpenEntity.{OpenEntity}
use Rattle.cedar_expression_machine.specs.declared.words.state.InitPlace.{InitPlace}
use Rattle.cedar_expression_machine.specs.declared.words.state.InitPlace.TheVariants as place
use Rattle.cedar_expression_machine.specs.declared.words.state.WordsState.{WordsState}
use Rattle.cedar_expression_machine.specs.declared.words.state.WordsState.TheVariants as state
use Rattle.cedar_expression_machine.specs.declared.words.state.Words.{Words}
use Rattle.cedar_expression_machine.specs.declared.words.state.Words.TheVariants as words
use Rattle.cedar_grammar.specs.grammar.Place.{extent, node_at, placed}
use Rattle.cedar_syntax.specs.tokens.Tokens.{Spot, one, between_quotes, any_of}
use Rattle.cedar_syntax.specs.trees.Trees.{Cell, name_of, ref_init_of}
use Rattle.cedar_grammar.specs.grammar.LooseWords.{ReadsItems, one_item, more_items, ReadsList, no_item, items, items_comma, ReadsLiteral, truth, falsity, number, string, any, ReadsPath, one_word, more_words, ReadsRefInit, ref_init, ReadsRef, uid, with_inits}
use Rattle.cedar_grammar.specs.machines.Machine.{answer_state, steps, Comes, RunsTo, option_image}
use Rattle.cedar_expression_machine.specs.declared.words.state.PathAct.TheVariants as path_acts
use Rattle.cedar_expression_machine.specs.declared.words.state.InitAct.TheVariants as init_acts
use Rattle.cedar_expression_machine.specs.declared.words.state.WordsAct.TheVariants as words_acts
use Rattle.cedar_expression_machine.specs.machines.Words.{word_node, one_word_path, with_word, path_extent, path_begun, path_longer, path_reader, paths, path_node, entity_with_extent, open_entity, inits_at, inits_named, number_valued, words_reader, words_machine}
use Rattle.cedar_expression_machine.specs.machines.WordsRead.{word_at, ReadsWholePath, first, further, ReadsWords, a_path, an_entity}
use Rattle.cedar_grammar.proofs.machines.Laws.{some_is, then_steps}
use Rattle.cedar_grammar.proofs.machines.Extents.{at, spans, from_to}
use Rattle.cedar_grammar.proofs.machines.Readers.{takes}
use Rattle.cedar_grammar.proofs.machines.SingleTokens.{planned_any}
use Rattle.cedar_expression_machine.proofs.machines.WordPlans.{planned_more, planned_item}

-- ---- a path of the grammar, and a path as it is read

pub record PathAs (src : List ℕ) (ts : List Lexeme) (xs : List (Cell Ident)) (x : Cell Ident) : Type 0 where
  pub path : Path
  pub reads : ReadsWholePath src ts path
  pub before : path.before ≡ xs
  pub last : word_node src path.last ≡ x

pub spanned : {src : List ℕ} {ts : List Lexeme} {q : Path} → ReadsWholePath src ts q → extent ts ≡ Some (path_extent q)
spanned (first p e) = refl
spanned (further {ts = ts} {q = q} k p r s e) = spans ts (one kind.ColonColon p) k r (path_extent q) (spanned s)

pub before_more : (src : List ℕ) (ts : List Lexeme) (xs : List (Cell Ident)) (x : Cell Ident) (h : PathAs src ts xs x) → h.path.before ++ word_node src h.path.last ∷ [] ≡ xs ++ x ∷ []
before_more src ts xs x h = ap (λ w. w ++ word_node src h.path.last ∷ []) h.before ∙ ap (λ w. xs ++ w ∷ []) h.last

one_more : (src : List ℕ) (ts : List Lexeme) (xs : List (Cell Ident)) (x : Cell Ident) (k : TokenKind) (i : Ident) (p r : Spot) → any_of k r.text ≡ Some i → PathAs src ts xs x →
    PathAs src (ts ++ one kind.ColonColon p ++ one k r) (xs ++ x ∷ []) (placed src (one k r) i)
one_more src ts xs x k i p r e h = record {
  path = with_word src h.path (word_at i r);
  reads = further k p r h.reads e;
  before = before_more src ts xs x h;
  last = refl;
}

pub path_as : {src : List ℕ} {ts : List Lexeme} {xs : List (Cell Ident)} {x : Cell Ident} → ReadsPath src ts xs x → PathAs src ts xs x
path_as (one_word (any {i = i} p e)) = record { path = one_word_path (word_at i p); reads = first p e; before = refl; last = refl }
path_as {src = src} (more_words {ts = ts} {xs = xs} {x = x} p r (any {k = k} {i = i} q e)) = one_more src ts xs x k i p q e (path_as r)

pub as_path : {src : List ℕ} {ts : List Lexeme} {q : Path} → ReadsWholePath src ts q → ReadsPath src ts q.before (word_node src q.last)
as_path (first p e) = one_word (any p e)
as_path (further k p r s e) = more_words p (as_path s) (any r e)

-- the name that a path is
pub named_is : (src : List ℕ) (ts : List Lexeme) (q : Path) → ReadsWholePath src ts q → path_node src q ≡ placed src ts (name_of q.before (word_node src q.last))
named_is src ts q r = ap (λ e. node_at src e (name_of q.before (word_node src q.last))) (sym (spanned r))

pub named_as : (src : List ℕ) (ts : List Lexeme) (xs : List (Cell Ident)) (x : Cell Ident) (h : PathAs src ts xs x) → path_node src h.path ≡ placed src ts (name_of xs x)
named_as src ts xs x h = named_is src ts h.path h.reads ∙ ap (λ w. placed src ts (name_of w (word_node src h.path.last))) h.before ∙ ap (λ w. placed src ts (name_of xs w)) h.last

-- ---- complete: paths

-- a token of this kind there
abbrev pub token : TokenKind → Spot → Lexeme
token k p = record { kind = k; start = p.start; end = p.end; text = p.text }

path_runs : {src : List ℕ} {ts : List Lexeme} {q : Path} → ReadsWholePath src ts q → Comes (paths src) ts (path.Have q)
path_runs {src = src} (first {k = k} {i = i} p e) =
    ap (λ a. answer_state a) (takes src path_reader path.Start (path.Have (one_word_path (word_at i p))) path_acts.First (token k p) (planned_any k p.text path_acts.First i e) (ap (λ o. path_begun o (at p)) e))
path_runs {src = src} (further {ts = ts} {q = q} {i = i} k p r s e) =
    then_steps (paths src) (Some path.Start) (Some (path.Behind q)) _ (ts ++ one kind.ColonColon p) (one k r)
    (then_steps (paths src) (Some path.Start) (Some (path.Have q)) _ ts (one kind.ColonColon p) (path_runs s) refl)
    (ap (λ a. answer_state a)
    (takes src path_reader (path.Behind q) (path.Have (with_word src q (word_at i r))) path_acts.More (token k r) (planned_any k r.text path_acts.More i e) (ap (λ o. path_longer src (path.Behind q) o (at r)) e)))

pub words_run : {src : List ℕ} {ts : List Lexeme} {q : Path} → ReadsWholePath src ts q → Comes (words_machine src) ts (state.Path (path.Have q))
words_run {src = src} (first {k = k} {i = i} p e) =
    ap (λ a. answer_state a)
    (takes src words_reader (state.Path path.Start) (state.Path (path.Have (one_word_path (word_at i p)))) (words_acts.Path path_acts.First) (token k p) (planned_any k p.text (words_acts.Path path_acts.First) i e)
    (ap (λ o. option_image (λ s. state.Path s) (path_begun o (at p))) e))
words_run {src = src} (further {ts = ts} {q = q} {i = i} k p r s e) =
    then_steps (words_machine src) (Some (state.Path path.Start)) (Some (state.Path (path.Behind q))) _ (ts ++ one kind.ColonColon p) (one k r)
    (then_steps (words_machine src) (Some (state.Path path.Start)) (Some (state.Path (path.Have q))) _ ts (one kind.ColonColon p) (words_run s) refl)
    (ap (λ a. answer_state a)
    (takes src words_reader (state.Path (path.Behind q)) (state.Path (path.Have (with_word src q (word_at i r)))) (words_acts.Path path_acts.More) (token k r) (planned_more k r.text i e)
    (ap (λ o. option_image (λ s. state.Path s) (path_longer src (path.Behind q) o (at r))) e)))

-- ---- complete: entity literals

abbrev Goes : List ℕ → Cell Name → ℕ → List (Cell RefInit) → InitPlace → List Lexeme → List (Cell RefInit) → InitPlace → Type 0
Goes src x n ys p us zs q = steps (words_machine src) (Some (inits_at (open_entity x n ys) p)) us ≡ Some (inits_at (open_entity x n zs) q)

value_runs : (src : List ℕ) (x : Cell Name) (n : ℕ) (ys : List (Cell RefInit)) (k : TokenKind) (p q : Spot) (i : Ident) {us : List Lexeme} {v : Literal} → ReadsLiteral src us v →
    Goes src x n ys (place.Value (word_at i p)) us (ys ++ placed src (one k p ++ one kind.Colon q ++ us) (ref_init_of (placed src (one k p) i) (placed src us v)) ∷ []) place.Behind
value_runs src x n ys k p q i (truth r) = refl
value_runs src x n ys k p q i (falsity r) = refl
value_runs src x n ys k p q i (number r e) =
    let b : OpenEntity = open_entity x n ys in
    ap (λ a. answer_state a)
    (takes src words_reader (inits_at b (place.Value (word_at i p))) _ (words_acts.Init init_acts.Number) (token kind.Number r) refl (ap (λ b. number_valued src (open_entity x n ys) (place.Value (word_at i p)) b (token kind.Number r)) e))
value_runs src x n ys k p q i (string r) = refl

init_runs : (src : List ℕ) (x : Cell Name) (n : ℕ) (ys : List (Cell RefInit)) {us : List Lexeme} {y : RefInit} → ReadsRefInit src us y → Goes src x n ys place.Item us (ys ++ placed src us y ∷ []) place.Behind
init_runs src x n ys (ref_init {us = us} q (any {k = k} {i = i} p e) r) =
    let m = words_machine src in
    let b : OpenEntity = open_entity x n ys in
    then_steps m (Some (inits_at (open_entity x n ys) place.Item)) (Some (inits_at (open_entity x n ys) (place.Value (word_at i p)))) _ (one k p ++ one kind.Colon q) us
    (ap (λ a. steps m (answer_state a) (one kind.Colon q))
    (takes src words_reader (inits_at b place.Item) (inits_at b (place.Key (word_at i p))) (words_acts.Init init_acts.Key) (token k p) (ap (λ o. option_image (λ a. words_acts.Init a) o) (planned_item k p.text i e)) (ap (λ o. inits_named b o (at p)) e)))
    (value_runs src x n ys k p q i r)

items_run : (src : List ℕ) (x : Cell Name) (n : ℕ) {us : List Lexeme} {ys : List (Cell RefInit)} → ReadsItems src (ReadsRefInit src) us ys → Goes src x n [] place.Item us ys place.Behind
items_run src x n (one_item r) = init_runs src x n [] r
items_run src x n (more_items {ts = ts} {us = us} {xs = xs} p r s) =
    let m = words_machine src in
    let begun : Option WordsState = Some (inits_at (open_entity x n []) place.Item) in
    then_steps m begun (Some (inits_at (open_entity x n xs) place.Item)) _ (ts ++ one kind.Comma p) us
    (then_steps m begun (Some (inits_at (open_entity x n xs) place.Behind)) _ ts (one kind.Comma p) (items_run src x n r) refl) (init_runs src x n xs s)

abbrev pub closed_entity : List ℕ → Cell Name → ℕ → List (Cell RefInit) → Spot → Entity
closed_entity src x n ys p = entity_with_extent src (ref.Ref x ys) record { start = n; end = p.end }

pub list_runs : (src : List ℕ) (x : Cell Name) (n : ℕ) (m : Spot) {us : List Lexeme} {ys : List (Cell RefInit)} → ReadsList src (ReadsRefInit src) us ys →
    steps (words_machine src) (Some (inits_at (open_entity x n []) place.Item)) (us ++ one kind.CloseBrace m) ≡ Some (state.Entity (closed_entity src x n ys m))
list_runs src x n m no_item = refl
list_runs src x n m (items {ts = ts} r) = then_steps (words_machine src) _ _ _ ts (one kind.CloseBrace m) (items_run src x n r) refl
list_runs src x n m (items_comma {ts = ts} {xs = xs} p r) =
    then_steps (words_machine src) (Some (inits_at (open_entity x n []) place.Item)) (Some (inits_at (open_entity x n xs) place.Item)) _ (ts ++ one kind.Comma p) (one kind.CloseBrace m)
    (then_steps (words_machine src) _ _ _ ts (one kind.Comma p) (items_run src x n r) refl) refl

-- ---- complete: a path or an entity literal

behind_path : (src : List ℕ) (ts : List Lexeme) (q : Path) (p : Spot) → ReadsWholePath src ts q → Comes (words_machine src) (ts ++ one kind.ColonColon p) (state.Path (path.Behind q))
behind_path src ts q p r = then_steps (words_machine src) _ _ _ ts (one kind.ColonColon p) (words_run r) refl

-- the state behind an entity literal
pub record EntityAs (src : List ℕ) (ts : List Lexeme) (x : Ref) : Type 0 where
  pub extent_is : Extent
  pub spans_it : extent ts ≡ Some extent_is
  pub goes : Comes (words_machine src) ts (state.Entity (entity_with_extent src x extent_is))

entity_as : (src : List ℕ) (ts : List Lexeme) (x y : Ref) (e : Extent) → x ≡ y → extent ts ≡ Some e → Comes (words_machine src) ts (state.Entity (entity_with_extent src x e)) → EntityAs src ts y
entity_as src ts x y e f g h = record { extent_is = e; spans_it = g; goes = h ∙ ap (λ x. Some (state.Entity (entity_with_extent src x e))) f }

uid_runs : (src : List ℕ) (ts : List Lexeme) (xs : List (Cell Ident)) (x : Cell Ident) (p r : Spot) → PathAs src ts xs x →
    EntityAs src (ts ++ one kind.ColonColon p ++ one kind.StringLit r) (ref.Uid (placed src ts (name_of xs x)) (placed src (one kind.StringLit r) (str.String (between_quotes r.text))))
uid_runs src ts xs x p r h =
    let us : List Lexeme = ts ++ one kind.ColonColon p ++ one kind.StringLit r in
    let s : Cell Str = node_at src (Some (at r)) (str.String (between_quotes r.text)) in
    entity_as src us (ref.Uid (path_node src h.path) s) (ref.Uid (placed src ts (name_of xs x)) s) (from_to (path_extent h.path) (at r)) (ap (λ w. ref.Uid w s) (named_as src ts xs x h))
    (spans ts (one kind.ColonColon p) kind.StringLit r (path_extent h.path) (spanned h.reads))
    (then_steps (words_machine src) _ _ _ (ts ++ one kind.ColonColon p) (one kind.StringLit r) (behind_path src ts h.path p h.reads) refl)

inits_run : (src : List ℕ) (ts : List Lexeme) (xs : List (Cell Ident)) (x : Cell Ident) (p l m : Spot) {us : List Lexeme} {ys : List (Cell RefInit)} → PathAs src ts xs x → ReadsList src (ReadsRefInit src) us ys →
    EntityAs src (ts ++ one kind.ColonColon p ++ one kind.OpenBrace l ++ us ++ one kind.CloseBrace m) (ref.Ref (placed src ts (name_of xs x)) ys)
inits_run src ts xs x p l m {us = us} {ys = ys} h r =
    let w = words_machine src in
    entity_as src (ts ++ one kind.ColonColon p ++ one kind.OpenBrace l ++ us ++ one kind.CloseBrace m) (ref.Ref (path_node src h.path) ys) (ref.Ref (placed src ts (name_of xs x)) ys) (from_to (path_extent h.path) (at m))
    (ap (λ w. ref.Ref w ys) (named_as src ts xs x h))
    (ap (λ v. extent v) (moved_back ts (one kind.ColonColon p) (one kind.OpenBrace l) us (one kind.CloseBrace m)) ∙ spans ts (one kind.ColonColon p ++ one kind.OpenBrace l ++ us) kind.CloseBrace m (path_extent h.path) (spanned h.reads))
    (ap (λ v. steps w (Some (state.Path path.Start)) v) (append_assoc (ts ++ one kind.ColonColon p ++ one kind.OpenBrace l) us (one kind.CloseBrace m)) ∙
    then_steps w (Some (state.Path path.Start)) _ _ (ts ++ one kind.ColonColon p ++ one kind.OpenBrace l) (us ++ one kind.CloseBrace m)
    (then_steps w _ _ _ (ts ++ one kind.ColonColon p) (one kind.OpenBrace l) (behind_path src ts h.path p h.reads) refl) (list_runs src (path_node src h.path) h.path.start m r))
  where
    moved_back : (ts vs ws us xs : List Lexeme) → ts ++ vs ++ ws ++ us ++ xs ≡ ts ++ (vs ++ ws ++ us) ++ xs
    moved_back ts vs ws us xs = simp append_assoc

pub entity_runs : {src : List ℕ} {ts : List Lexeme} {x : Ref} → ReadsRef src ts x → EntityAs src ts x
entity_runs {src = src} (uid {ts = ts} {xs = xs} {x = x} p r s) = uid_runs src ts xs x p r (path_as s)
entity_runs {src = src} (with_inits {ts = ts} {xs = xs} {x = x} p l m r s) = inits_run src ts xs x p l m (path_as r) s

pub complete : (src : List ℕ) (ts : List Lexeme) (x : Words) → ReadsWords src ts x → RunsTo (words_machine src) ts x
complete src ts _ (a_path {q = q} r) = record { last = state.Path (path.Have q); goes = words_run r; ends = refl }
complete src ts _ (an_entity {x = x} e f r) =
    let h = entity_runs r in
    record { last = state.Entity (entity_with_extent src x h.extent_is); goes = h.goes; ends = ap (λ e. Some (words.Entity (entity_with_extent src x e))) (some_is (sym h.spans_it ∙ f)) }

pub path_complete : (src : List ℕ) (ts : List Lexeme) (x : Path) → ReadsWholePath src ts x → RunsTo (paths src) ts x
path_complete src ts x r = record { last = path.Have x; goes = path_runs r; ends = refl }
