-- Words, with trees as expressions take them: their machine is a parser, how they end and
-- go on, and the outline.
use Rattle.std.proofs.Common.{◌≡◌, ℕ, List, [], ◌∷◌, ◌++◌, Option, Some, None, true, false, refl, sym, ◌∙◌, ap, subst}
use Rattle.cedar_lexer.specs.Token.{Lexeme}
use Rattle.cedar_lexer.specs.declared.token.TokenKind.{TokenKind}
use Rattle.cedar_lexer.specs.declared.token.TokenKind.TheVariants as kind
use Rattle.cedar_syntax.specs.declared.cst.Ident.{Ident}
use Rattle.cedar_syntax.specs.declared.cst.Ident.TheVariants as ident
use Rattle.cedar_syntax.specs.declared.cst.Name.{Name}
use Rattle.cedar_syntax.specs.declared.cst.Ref.{Ref}
use Rattle.cedar_grammar.specs.declared.reading.extent.Extent.{Extent}
use Rattle.cedar_expression_machine.specs.declared.expression.state.SingleWord.{SingleWord}
use Rattle.cedar_expression_machine.specs.declared.expression.state.SingleWord.TheVariants as single
use Rattle.cedar_expression_machine.specs.declared.expression.state.Spanned.{Spanned}
use Rattle.cedar_expression_machine.specs.declared.words.state.Path.{Path}
use Rattle.cedar_expression_machine.specs.declared.words.state.PathState.TheVariants as path
use Rattle.cedar_expression_machine.specs.declared.words.state.Words.{Words}
use Rattle.cedar_expression_machine.specs.declared.words.state.Words.TheVariants as words
use Rattle.cedar_expression_machine.specs.declared.words.state.WordsState.{WordsState}
use Rattle.cedar_expression_machine.specs.declared.words.state.WordsState.TheVariants as state
use Rattle.cedar_grammar.specs.grammar.LooseWords.{ReadsRef}
use Rattle.cedar_grammar.specs.grammar.Place.{extent, node_at, placed}
use Rattle.cedar_syntax.specs.tokens.Tokens.{Spot, one}
use Rattle.cedar_syntax.specs.trees.Trees.{Cell, name_of}
use Rattle.cedar_expression_machine.specs.machines.Closing.{spanned_tree}
use Rattle.cedar_expression_machine.specs.machines.Keeping.{kept_end}
use Rattle.cedar_grammar.specs.machines.Machine.{ended, IsParser, IsOutline, is_some, option_image}
use Rattle.cedar_expression_machine.specs.machines.Expressions.{single_word, single_word_is_if, named_is_if}
use Rattle.cedar_expression_machine.specs.machines.Named.{NameOrEntity, ReadsNamed, words_tree, named_reader, named_words, joins_words, IsLonger, IsWords}
use Rattle.cedar_expression_machine.specs.machines.Named as named
use Rattle.cedar_expression_machine.specs.machines.NamedShapes.{is_if_alone, named_outline}
use Rattle.cedar_expression_machine.specs.machines.Words.{word_of, word_node, with_word, path_extent, entity_with_extent, words_end, words_reader}
use Rattle.cedar_expression_machine.specs.machines.WordsRead.{ReadsWords, a_path, an_entity}
use Rattle.cedar_expression_machine.specs.machines.WordShapes.{PathKind, truth, condition, a_name, kind_among, WordsKind, words_shape, words_kind}
use Rattle.cedar_expression_machine.specs.machines.WordShapes as shaped
use Rattle.cedar_grammar.proofs.machines.Laws.{some_is, none_some}
use Rattle.cedar_grammar.proofs.machines.Extents.{at}
use Rattle.cedar_grammar.proofs.machines.Readers.{leaves_tree}
use Rattle.cedar_expression_machine.proofs.machines.Keeping.{Kept, kept_parser, kept_completed, parser_as}
use Rattle.cedar_expression_machine.proofs.machines.WordShapes.{words_outlined}
use Rattle.cedar_expression_machine.proofs.machines.Words.{entity_runs, PathAs, path_as, as_path, spanned}
use Rattle.cedar_expression_machine.proofs.machines.WordsParser.{words_parser, unplanned_words}

-- ---- a parser

abbrev Image : List ℕ → List Lexeme → NameOrEntity → Type 0
Image src ts y = Kept (ReadsWords src) (λ x. Some (words_tree src x)) ts y

named_path : (src : List ℕ) (o q : Option Extent) (xs ys : List (Cell Ident)) (x y : Cell Ident) → q ≡ o → xs ≡ ys → x ≡ y → Some (named.path (spanned_tree o (name_of xs x))) ≡ Some (named.path (spanned_tree q (name_of ys y)))
named_path src o q xs ys x y e f g = ap (λ q. Some (named.path (spanned_tree q (name_of xs x)))) (sym e) ∙ ap (λ v. Some (named.path (spanned_tree q (name_of v x)))) f ∙ ap (λ v. Some (named.path (spanned_tree q (name_of ys v)))) g

path_image : (src : List ℕ) (ts : List Lexeme) (xs : List (Cell Ident)) (x : Cell Ident) → PathAs src ts xs x → Image src ts (named.path (spanned_tree (extent ts) (name_of xs x)))
path_image src ts xs x h = record {
  tree = words.Path h.path;
  reads = a_path h.reads;
  is = named_path src (Some (path_extent h.path)) (extent ts) h.path.before xs (word_node src h.path.last) x (spanned h.reads) h.before h.last;
}

named_entity : (src : List ℕ) (ts : List Lexeme) (e : Extent) (x : Ref) → extent ts ≡ Some e → words_tree src (words.Entity (entity_with_extent src x e)) ≡ named.entity (spanned_tree (extent ts) (placed src ts x))
named_entity src ts e x h = ap (λ o. named.entity (spanned_tree o (node_at src o x))) (sym h)

entity_image : (src : List ℕ) (ts : List Lexeme) (x : Ref) → ReadsRef src ts x → Image src ts (named.entity (spanned_tree (extent ts) (placed src ts x)))
entity_image src ts x r =
    let h = entity_runs r in
    record { tree = words.Entity (entity_with_extent src x h.extent_is); reads = an_entity h.extent_is h.spans_it r; is = ap (λ y. Some y) (named_entity src ts h.extent_is x h.spans_it) }

image_of : {src : List ℕ} {ts : List Lexeme} {y : NameOrEntity} → ReadsNamed src ts y → Image src ts y
image_of {src = src} (named.a_path {ts = ts} {xs = xs} {x = x} r) = path_image src ts xs x (path_as r)
image_of {src = src} (named.a_ref {ts = ts} {x = x} r) = entity_image src ts x r

as_named : {src : List ℕ} {ts : List Lexeme} {x : Words} (y : NameOrEntity) → ReadsWords src ts x → words_tree src x ≡ y → ReadsNamed src ts y
as_named {src = src} {ts = ts} y (a_path {q = q} r) e =
    subst (λ y. ReadsNamed src ts y) (some_is (named_path src (extent ts) (Some (path_extent q)) q.before q.before (word_node src q.last) (word_node src q.last) (sym (spanned r)) refl refl) ∙ e) (named.a_path (as_path r))
as_named {src = src} {ts = ts} y (an_entity {x = x} e f r) g = subst (λ y. ReadsNamed src ts y) (sym (named_entity src ts e x f) ∙ g) (named.a_ref r)

pub named_parser : (src : List ℕ) → IsParser (named_words src) (ReadsNamed src)
named_parser src =
    parser_as (λ ts y r. image_of r) (λ ts y k. as_named y k.reads (some_is k.is))
    (kept_parser src (λ src x. Some (words_tree src x)) (λ s. is_some (words_end s)) words_reader (ReadsWords src) (words_parser src)
    (λ s. kept_completed src (λ src x. words_tree src x) (λ s. is_some (words_end s)) words_reader s ((words_parser src).viable s)))

-- ---- how words end, and how they go on

not_joined : (k : TokenKind) → joins_words k ≡ false → k ≡ kind.ColonColon → ⊥
not_joined k e f = false_true (sym e ∙ ap (λ k. joins_words k) f)
  where
    false_true : false ≡ true → ⊥
    false_true e = cc

tree_there : (src : List ℕ) (o : Option Words) (x : NameOrEntity) → kept_end (λ x. Some (words_tree src x)) o ≡ Some x → (y : Words) × (o ≡ Some y)
tree_there src (Some y) x e = (y, refl)
tree_there src None x e = absurd (none_some refl e)

words_ended : (src : List ℕ) (s : WordsState) (x : NameOrEntity) (t : Lexeme) → joins_words t.kind ≡ false → (named_words src).finish s ≡ Some x → (named_words src).step s t ≡ ended x
words_ended src s x t e f =
    let y = tree_there src (words_end s) x f in
    leaves_tree src named_reader s t x (unplanned_words s y.0 t.kind (not_joined t.kind e) y.1) f

abbrev longer_by : List ℕ → Path → Spot → Path
longer_by src p q = with_word src p (word_of (ident.Ident q.text) (at q))

no_path : (r : Spanned (Cell Ref)) (x : Spanned Name) → Some (named.entity r) ≡ Some (named.path x) → ⊥
no_path r x e = cc

words_longer : (src : List ℕ) (s : WordsState) (x : Spanned Name) (p q : Spot) → (named_words src).finish s ≡ Some (named.path x) → IsLonger (named_words src) s (one kind.ColonColon p ++ one kind.Identifier q)
words_longer src (state.Path path.Start) x p q e = absurd (none_some refl e)
words_longer src (state.Path (path.Have w)) x p q e = record {
  last = state.Path (path.Have (longer_by src w q));
  longer = spanned_tree (Some (path_extent (longer_by src w q))) (name_of (longer_by src w q).before (word_node src (longer_by src w q).last));
  before = w.before;
  word = word_node src w.last;
  goes = refl;
  ends = refl;
  joined = refl;
}
words_longer src (state.Path (path.Behind w)) x p q e = absurd (none_some refl e)
words_longer src (state.Inits s) x p q e = absurd (none_some refl e)
words_longer src (state.Entity w) x p q e = absurd (no_path (spanned_tree (Some w.extent) w.node) x e)

pub named_are_words : (src : List ℕ) → IsWords (named_words src)
named_are_words src = record { ends = λ s x t e f. words_ended src s x t e f; longer = λ s x p q e. words_longer src s x p q e }

-- ---- the outline

abbrev alone_kind : SingleWord → PathKind
alone_kind single.True = truth
alone_kind single.False = truth
alone_kind single.If = condition
alone_kind single.Name = a_name

abbrev pub named_kind : NameOrEntity → WordsKind
named_kind (named.path x) = shaped.a_path (alone_kind (single_word x.tree.path x.tree.name))
named_kind (named.entity x) = shaped.an_entity

alone_alike : (src : List ℕ) (e : Extent) (xs : List (Cell Ident)) (i : Ident) → alone_kind (single_word xs (node_at src (Some e) i)) ≡ kind_among xs i
alone_alike src e (x ∷ xs) i = refl
alone_alike src e [] ident.True = refl
alone_alike src e [] ident.False = refl
alone_alike src e [] ident.If = refl
alone_alike src e [] _ = refl

kinds_alike : (src : List ℕ) (x : Words) → named_kind (words_tree src x) ≡ words_kind x
kinds_alike src (words.Path p) = ap (λ c. shaped.a_path c) (alone_alike src p.last.extent p.before p.last.ident)
kinds_alike src (words.Entity e) = refl

ifs_alike : (a : SingleWord) → is_if_alone (shaped.a_path (alone_kind a)) ≡ single_word_is_if a
ifs_alike single.True = refl
ifs_alike single.False = refl
ifs_alike single.If = refl
ifs_alike single.Name = refl

-- whether they are the word `if` alone
pub named_ifs : (x : NameOrEntity) → is_if_alone (named_kind x) ≡ named_is_if x
named_ifs (named.path x) = ifs_alike (single_word x.tree.path x.tree.name)
named_ifs (named.entity x) = refl

named_end : (src : List ℕ) (o : Option Words) → option_image words_kind o ≡ option_image named_kind (kept_end (λ x. Some (words_tree src x)) o)
named_end src (Some x) = ap (λ c. Some c) (sym (kinds_alike src x))
named_end src None = refl

pub named_outlined : (src : List ℕ) → IsOutline src named_reader named_outline.outline words_shape named_kind
named_outlined src =
    let o = words_outlined src in record {
      starts = o.starts;
      plans = o.plans;
      acts = o.acts;
      done = o.done;
      ends = o.ends;
      finishes = λ s. o.finishes s ∙ named_end src (words_end s);
    }
