-- Names, entity literals and identifiers alone: their machines are parsers, in the
-- grammar's words.
use Rattle.std.proofs.Common.{◌≡◌, ℕ, List, [], ◌∷◌, ◌++◌, Option, Some, None, Bool, true, false, IsTrue, cond, IfSome, refl, sym, ◌∙◌, ap, subst}
use Rattle.cedar_lexer.specs.Token.{Lexeme}
use Rattle.cedar_lexer.specs.declared.token.TokenKind.{TokenKind}
use Rattle.cedar_lexer.specs.declared.token.TokenKind.TheVariants as kind
use Rattle.cedar_syntax.specs.declared.cst.Ident.{Ident}
use Rattle.cedar_syntax.specs.declared.cst.Name.{Name}
use Rattle.cedar_syntax.specs.declared.cst.Ref.{Ref}
use Rattle.cedar_grammar.specs.declared.reading.extent.Extent.{Extent}
use Rattle.cedar_expression_machine.specs.declared.words.state.Word.{Word}
use Rattle.cedar_expression_machine.specs.declared.words.state.Path.{Path}
use Rattle.cedar_expression_machine.specs.declared.words.state.PathState.{PathState}
use Rattle.cedar_expression_machine.specs.declared.words.state.PathState.TheVariants as path
use Rattle.cedar_expression_machine.specs.declared.words.state.InitPlace.{InitPlace}
use Rattle.cedar_expression_machine.specs.declared.words.state.InitPlace.TheVariants as place
use Rattle.cedar_expression_machine.specs.declared.words.state.WordsState.{WordsState}
use Rattle.cedar_expression_machine.specs.declared.words.state.WordsState.TheVariants as state
use Rattle.cedar_expression_machine.specs.declared.words.state.Words.{Words}
use Rattle.cedar_expression_machine.specs.declared.words.state.Words.TheVariants as words
use Rattle.cedar_expression_machine.specs.declared.words.state.IdentState.{IdentState}
use Rattle.cedar_expression_machine.specs.declared.words.state.IdentState.TheVariants as one_ident
use Rattle.cedar_grammar.specs.grammar.Grammar.{IsNodeOf}
use Rattle.cedar_grammar.specs.grammar.Place.{extent, extent_of, node_at, placed, placed_or_start}
use Rattle.cedar_syntax.specs.tokens.Tokens.{Spot, one, any_of}
use Rattle.cedar_syntax.specs.trees.Trees.{Cell, name_of}
use Rattle.cedar_grammar.specs.grammar.LooseWords.{ReadsAny, any, is_common, ReadsName, common, qualified, ReadsRef, ReadsIdent}
use Rattle.cedar_expression_machine.specs.declared.words.state.OpenEntity.{OpenEntity}
use Rattle.cedar_grammar.specs.machines.Machine.{answer_state, Comes, RunsTo, Completed, IsParser, option_image}
use Rattle.cedar_expression_machine.specs.machines.Words.{word_of, word_node, one_word_path, with_word, path_extent, path_reader, path_node, entity_with_extent, inits_at, words_reader, is_name_among, path_as_name, name_ends, words_as_ref, ref_ends, names, refs, ident_act, ident_end, ident_reader, idents}
use Rattle.cedar_expression_machine.specs.machines.WordsRead.{word_at, ReadsWholePath, first, further, ReadsWords, a_path, an_entity}
use Rattle.cedar_grammar.proofs.machines.Laws.{some_is, none_some, some_token}
use Rattle.cedar_grammar.proofs.machines.Extents.{at}
use Rattle.cedar_grammar.proofs.machines.ByActs.{keeps}
use Rattle.cedar_grammar.proofs.machines.Readers.{takes, answers_by}
use Rattle.cedar_grammar.proofs.machines.SingleTokens.{planned_any, any_case}
use Rattle.cedar_expression_machine.proofs.machines.Words.{token, entity_runs, PathAs, path_as, as_path, spanned, before_more}
use Rattle.cedar_expression_machine.proofs.machines.WordsParser.{words_parser, paths_parser, nameless}
use Rattle.cedar_expression_machine.proofs.machines.WordShapes.{idents_outlined}
use Rattle.cedar_expression_machine.proofs.machines.Keeping.{Kept, kept_parser, parser_as}

-- the place of tokens of which there are some
pub at_their_place : {T : Type 0} (src : List ℕ) (ts : List Lexeme) (e : Extent) (x : T) → extent ts ≡ Some e → node_at src (Some e) x ≡ placed_or_start src ts x
at_their_place src [] e x h = cc
at_their_place src (t ∷ ts) e x h = ap (λ o. node_at src o x) (sym h)

-- ---- names

-- a path of more than one word is one
among_more : (xs : List (Cell Ident)) (x : Cell Ident) (i : Ident) → is_name_among (xs ++ x ∷ []) i ≡ true
among_more [] x i = refl
among_more (y ∷ xs) x i = refl

pub name_more : (src : List ℕ) (q : Path) (w : Word) → path_as_name src (with_word src q w) ≡ Some (path_node src (with_word src q w))
name_more src q w = ap (λ b. cond b (Some (path_node src (with_word src q w))) None) (among_more q.before (word_node src q.last) w.ident)

alone_is : (src : List ℕ) (p : Path) (b : Bool) (y : Cell Name) → cond b (Some (path_node src p)) None ≡ Some y → (IsTrue b) × (path_node src p ≡ y)
alone_is src p true y e = (refl, some_is e)
alone_is src p false y e = absurd (none_some refl e)

-- a name of the grammar, as a path that has been read
pub as_name : {src : List ℕ} {ts : List Lexeme} {q : Path} {y : Cell Name} → ReadsWholePath src ts q → path_as_name src q ≡ Some y → IsNodeOf ReadsName src ts y
as_name {src = src} (first {i = i} p e) h =
    let a = alone_is src (one_word_path (word_at i p)) (is_common i) _ h in
    record { tree = name_of [] (word_node src (word_at i p)); reads = common (any p e) a.0; is = sym a.1 }
as_name {src = src} (further {ts = ts} {q = q} {i = i} k p r s e) h =
    let w : Path = with_word src q (word_at i r) in record {
      tree = name_of w.before (word_node src w.last);
      reads = qualified p (as_path s) (any r e);
      is = sym (some_is (sym (name_more src q (word_at i r)) ∙ h)) ∙
          at_their_place src (ts ++ one kind.ColonColon p ++ one k r) (path_extent w) (name_of w.before (word_node src w.last)) (spanned (further k p r s e));
    }

-- and back
pub record NameAs (src : List ℕ) (ts : List Lexeme) (x : Name) : Type 0 where
  pub path : Path
  pub reads : ReadsWholePath src ts path
  pub is : path_as_name src path ≡ Some (placed_or_start src ts x)

alone_as : (src : List ℕ) (k : TokenKind) (p : Spot) (i : Ident) → any_of k p.text ≡ Some i → IsTrue (is_common i) → NameAs src (one k p) (name_of [] (placed src (one k p) i))
alone_as src k p i e c = record { path = one_word_path (word_at i p); reads = first p e; is = ap (λ b. cond b (Some (path_node src (one_word_path (word_at i p)))) None) c }

qualified_as : (src : List ℕ) (ts : List Lexeme) (xs : List (Cell Ident)) (x : Cell Ident) (k : TokenKind) (i : Ident) (p r : Spot) → any_of k r.text ≡ Some i → PathAs src ts xs x →
    NameAs src (ts ++ one kind.ColonColon p ++ one k r) (name_of (xs ++ x ∷ []) (placed src (one k r) i))
qualified_as src ts xs x k i p r e h =
    let us : List Lexeme = ts ++ one kind.ColonColon p ++ one k r in
    let w : Path = with_word src h.path (word_at i r) in record {
      path = w;
      reads = further k p r h.reads e;
      is = name_more src h.path (word_at i r) ∙
          ap (λ y. Some y) (at_their_place src us (path_extent w) (name_of w.before (word_node src w.last)) (spanned (further k p r h.reads e)) ∙ ap (λ v. placed_or_start src us (name_of v (placed src (one k r) i))) (before_more src ts xs x h));
    }

pub name_as : {src : List ℕ} {ts : List Lexeme} {x : Name} → ReadsName src ts x → NameAs src ts x
name_as {src = src} (common (any {k = k} {i = i} p e) c) = alone_as src k p i e c
name_as {src = src} (qualified {ts = ts} {xs = xs} {x = x} p r (any {k = k} {i = i} q e)) = qualified_as src ts xs x k i p q e (path_as r)

name_completed : (src : List ℕ) (q : Path) (o : Option (Cell Name)) → path_as_name src q ≡ o → Completed (names src) (path.Have q)
name_completed src q (Some y) e = record { more = []; last = path.Have q; tree = y; goes = refl; ends = e }
name_completed src q None e =
    let w : Path = with_word src q nameless in
    record { more = some_token kind.ColonColon ∷ some_token kind.Identifier ∷ []; last = path.Have w; tree = path_node src w; goes = refl; ends = name_more src q nameless }

names_completed : (src : List ℕ) (s : PathState) → Completed (names src) s
names_completed src path.Start = record { more = some_token kind.Identifier ∷ []; last = path.Have (one_word_path nameless); tree = path_node src (one_word_path nameless); goes = refl; ends = refl }
names_completed src (path.Have q) = name_completed src q (path_as_name src q) refl
names_completed src (path.Behind q) =
    let w : Path = with_word src q nameless in
    record { more = some_token kind.Identifier ∷ []; last = path.Have w; tree = path_node src w; goes = refl; ends = name_more src q nameless }

pub names_parser : (src : List ℕ) → IsParser (names src) (IsNodeOf ReadsName src)
names_parser src =
    parser_as (λ ts y h. let n = name_as h.reads in record { tree = n.path; reads = n.reads; is = n.is ∙ ap (λ w. Some w) (sym h.is) }) (λ ts y k. as_name k.reads k.is)
    (kept_parser src (λ src p. path_as_name src p) (λ s. name_ends s) path_reader (ReadsWholePath src) (paths_parser src) (λ s. names_completed src s))

-- ---- entity literals

as_ref : (src : List ℕ) (ts : List Lexeme) (x : Words) (y : Cell Ref) → ReadsWords src ts x → words_as_ref x ≡ Some y → IsNodeOf ReadsRef src ts y
as_ref src ts _ y (a_path r) h = absurd (none_some refl h)
as_ref src ts _ y (an_entity {x = x} e f r) h = record { tree = x; reads = r; is = sym (some_is h) ∙ at_their_place src ts e x f }

kept_ref : (src : List ℕ) (ts : List Lexeme) (y : Cell Ref) → IsNodeOf ReadsRef src ts y → Kept (ReadsWords src) (λ x. words_as_ref x) ts y
kept_ref src ts y h =
    let r = entity_runs h.reads in
    let e : Extent = r.extent_is in
    record { tree = words.Entity (entity_with_extent src h.tree e); reads = an_entity e r.spans_it h.reads; is = ap (λ w. Some w) (at_their_place src ts e h.tree r.spans_it ∙ sym h.is) }

ref_inits_completed : (src : List ℕ) (b : OpenEntity) (h : InitPlace) → Completed (refs src) (inits_at b h)
ref_inits_completed src b place.Item = record { more = some_token kind.CloseBrace ∷ []; last = _; tree = _; goes = refl; ends = refl }
ref_inits_completed src b (place.Key w) = record { more = some_token kind.Colon ∷ some_token kind.True ∷ some_token kind.CloseBrace ∷ []; last = _; tree = _; goes = refl; ends = refl }
ref_inits_completed src b (place.Value w) = record { more = some_token kind.True ∷ some_token kind.CloseBrace ∷ []; last = _; tree = _; goes = refl; ends = refl }
ref_inits_completed src b place.Behind = record { more = some_token kind.CloseBrace ∷ []; last = _; tree = _; goes = refl; ends = refl }

refs_completed : (src : List ℕ) (s : WordsState) → Completed (refs src) s
refs_completed src (state.Path path.Start) = record { more = some_token kind.Identifier ∷ some_token kind.ColonColon ∷ some_token kind.StringLit ∷ []; last = _; tree = _; goes = refl; ends = refl }
refs_completed src (state.Path (path.Have q)) = record { more = some_token kind.ColonColon ∷ some_token kind.StringLit ∷ []; last = _; tree = _; goes = refl; ends = refl }
refs_completed src (state.Path (path.Behind q)) = record { more = some_token kind.StringLit ∷ []; last = _; tree = _; goes = refl; ends = refl }
refs_completed src (state.Inits s) = ref_inits_completed src s.begun s.place
refs_completed src (state.Entity e) = record { more = []; last = state.Entity e; tree = e.node; goes = refl; ends = refl }

pub refs_parser : (src : List ℕ) → IsParser (refs src) (IsNodeOf ReadsRef src)
refs_parser src =
    parser_as (λ ts y h. kept_ref src ts y h) (λ ts y k. as_ref src ts k.tree y k.reads k.is) (kept_parser src (λ src x. words_as_ref x) (λ s. ref_ends s) words_reader (ReadsWords src) (words_parser src) (λ s. refs_completed src s))

-- ---- identifiers

ident_runs : (src : List ℕ) (k : TokenKind) (p : Spot) (i : Ident) → any_of k p.text ≡ Some i → Comes (idents src) (one k p) (one_ident.Have (word_at i p))
ident_runs src k p i e =
    ap (λ a. answer_state a) (takes src ident_reader one_ident.Start (one_ident.Have (word_at i p)) tt (token k p) (planned_any k p.text tt i e) (ap (λ o. option_image (λ i. one_ident.Have (word_of i (at p))) o) e))

ident_complete : (src : List ℕ) (ts : List Lexeme) (i : Ident) (y : Cell Ident) → ReadsAny ts i → y ≡ placed_or_start src ts i → RunsTo (idents src) ts y
ident_complete src ts i y (any {k = k} p e) h = record { last = one_ident.Have (word_at i p); goes = ident_runs src k p i e; ends = ap (λ w. Some w) (sym h) }

data IdentBegun : List Lexeme → IdentState → Type 0 where
  at_start : IdentBegun [] one_ident.Start
  has : {k : TokenKind} {i : Ident} (p : Spot) → any_of k p.text ≡ Some i → IdentBegun (one k p) (one_ident.Have (word_at i p))

ident_begun : {ts : List Lexeme} {s : IdentState} → IdentBegun ts s → (t : Lexeme) (a : Unit {0}) → ident_reader.plan s t.kind ≡ Some a → IfSome (ident_act t) (λ q. IdentBegun (ts ++ t ∷ []) q)
ident_begun at_start t a e =
    any_case (λ a. IfSome (ident_act t) (λ q. IdentBegun (t ∷ []) q)) t.kind t.text tt a e
    (λ i f. subst (λ o. IfSome (option_image (λ i. one_ident.Have (word_of i (extent_of t))) o) (λ q. IdentBegun (t ∷ []) q)) (sym f) (has record { start = t.start; end = t.end; text = t.text } f))
ident_begun (has p f) t a e = absurd (none_some refl e)

ident_ended : {src : List ℕ} {ts : List Lexeme} {s : IdentState} (y : Cell Ident) → IdentBegun ts s → ident_end src s ≡ Some y → IsNodeOf ReadsIdent src ts y
ident_ended y at_start e = absurd (none_some refl e)
ident_ended y (has {i = i} p f) e = record { tree = i; reads = any p f; is = sym (some_is e) }

ident_sound : (src : List ℕ) (ts : List Lexeme) (s : IdentState) (y : Cell Ident) → Comes (idents src) ts s → ident_end src s ≡ Some y → IsNodeOf ReadsIdent src ts y
ident_sound src ts s y f e = ident_ended y (keeps src ident_reader (λ ts s. IdentBegun ts s) at_start (λ ts s t a h e. ident_begun h t a e) ts s f) e

ident_completed : (src : List ℕ) (s : IdentState) → Completed (idents src) s
ident_completed src one_ident.Start = record { more = some_token kind.Identifier ∷ []; last = one_ident.Have nameless; tree = word_node src nameless; goes = refl; ends = refl }
ident_completed src (one_ident.Have w) = record { more = []; last = one_ident.Have w; tree = word_node src w; goes = refl; ends = refl }

pub idents_parser : (src : List ℕ) → IsParser (idents src) (IsNodeOf ReadsIdent src)
idents_parser src = record {
  complete = λ ts y h. ident_complete src ts h.tree y h.reads h.is;
  sound = λ ts s y f e. ident_sound src ts s y f e;
  viable = λ s. ident_completed src s;
  answers = λ s t. answers_by (idents_outlined src) s t;
}
