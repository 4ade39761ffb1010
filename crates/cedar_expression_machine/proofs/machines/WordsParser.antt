-- The machines of paths and of entity literals are parsers.
use Rattle.std.proofs.Common.{◌≡◌, ℕ, List, [], ◌∷◌, Some, None, true, refl, sym, ◌∙◌, ap}
use Rattle.cedar_lexer.specs.declared.token.TokenKind.{TokenKind}
use Rattle.cedar_lexer.specs.declared.token.TokenKind.TheVariants as kind
use Rattle.cedar_syntax.specs.declared.cst.Ident.TheVariants as ident
use Rattle.cedar_grammar.specs.declared.reading.extent.Extent.{Extent}
use Rattle.cedar_expression_machine.specs.declared.words.state.Word.{Word}
use Rattle.cedar_expression_machine.specs.declared.words.state.PathState.{PathState}
use Rattle.cedar_expression_machine.specs.declared.words.state.PathState.TheVariants as path
use Rattle.cedar_expression_machine.specs.declared.words.state.PathAct.TheVariants as path_acts
use Rattle.cedar_expression_machine.specs.declared.words.state.InitPlace.{InitPlace}
use Rattle.cedar_expression_machine.specs.declared.words.state.InitPlace.TheVariants as place
use Rattle.cedar_expression_machine.specs.declared.words.state.OpenEntity.{OpenEntity}
use Rattle.cedar_expression_machine.specs.declared.words.state.WordsState.{WordsState}
use Rattle.cedar_expression_machine.specs.declared.words.state.WordsState.TheVariants as state
use Rattle.cedar_expression_machine.specs.declared.words.state.WordsAct.TheVariants as words_acts
use Rattle.cedar_expression_machine.specs.declared.words.state.Words.{Words}
use Rattle.cedar_expression_machine.specs.declared.words.state.Words.TheVariants as words
use Rattle.cedar_syntax.specs.tokens.Tokens.{any_of}
use Rattle.cedar_grammar.specs.machines.Machine.{Completed, IsParser, IsOutside, is_some}
use Rattle.cedar_expression_machine.specs.machines.Words.{word_of, one_word_path, with_word, paths, inits_at, words_end, words_reader, words_machine}
use Rattle.cedar_expression_machine.specs.machines.WordsRead.{ReadsWholePath, ReadsWords}
use Rattle.cedar_expression_machine.specs.machines.WordShapes as shaped
use Rattle.cedar_expression_machine.specs.machines.WordShapes.{PathShape, had_plan, WordsShape, words_shape, words_outline, name_outline}
use Rattle.cedar_grammar.proofs.machines.Laws.{some_token}
use Rattle.cedar_grammar.proofs.machines.Readers.{answers_by, leaves_tree, leaves_none}
use Rattle.cedar_grammar.proofs.machines.SingleTokens.{unplanned_any}
use Rattle.cedar_expression_machine.proofs.machines.Words.{complete, path_complete}
use Rattle.cedar_expression_machine.proofs.machines.WordShapes.{paths_outlined, words_outlined}
use Rattle.cedar_expression_machine.proofs.machines.WordsSound.{sound, path_sound}

-- ---- each state can be completed

abbrev pub nowhere : Extent
nowhere = record { start = 0; end = 0 }

-- an identifier of no letters
abbrev pub nameless : Word
nameless = word_of (ident.Ident []) nowhere

inits_completed : (src : List ℕ) (b : OpenEntity) (h : InitPlace) → Completed (words_machine src) (inits_at b h)
inits_completed src b place.Item = record { more = some_token kind.CloseBrace ∷ []; last = _; tree = _; goes = refl; ends = refl }
inits_completed src b (place.Key w) = record { more = some_token kind.Colon ∷ some_token kind.True ∷ some_token kind.CloseBrace ∷ []; last = _; tree = _; goes = refl; ends = refl }
inits_completed src b (place.Value w) = record { more = some_token kind.True ∷ some_token kind.CloseBrace ∷ []; last = _; tree = _; goes = refl; ends = refl }
inits_completed src b place.Behind = record { more = some_token kind.CloseBrace ∷ []; last = _; tree = _; goes = refl; ends = refl }

words_completed : (src : List ℕ) (s : WordsState) → Completed (words_machine src) s
words_completed src (state.Path path.Start) =
    record { more = some_token kind.Identifier ∷ []; last = state.Path (path.Have (one_word_path nameless)); tree = words.Path (one_word_path nameless); goes = refl; ends = refl }
words_completed src (state.Path (path.Have q)) = record { more = []; last = state.Path (path.Have q); tree = words.Path q; goes = refl; ends = refl }
words_completed src (state.Path (path.Behind q)) =
    record { more = some_token kind.Identifier ∷ []; last = state.Path (path.Have (with_word src q nameless)); tree = words.Path (with_word src q nameless); goes = refl; ends = refl }
words_completed src (state.Inits s) = inits_completed src s.begun s.place
words_completed src (state.Entity e) = record { more = []; last = state.Entity e; tree = words.Entity e; goes = refl; ends = refl }

-- ---- parsers

pub words_parser : (src : List ℕ) → IsParser (words_machine src) (ReadsWords src)
words_parser src = record {
  complete = λ ts x r. complete src ts x r;
  sound = λ ts s x f e. sound src ts s x f e;
  viable = λ s. words_completed src s;
  answers = λ s t. answers_by (words_outlined src) s t;
}

path_completed : (src : List ℕ) (s : PathState) → Completed (paths src) s
path_completed src path.Start = record { more = some_token kind.Identifier ∷ []; last = path.Have (one_word_path nameless); tree = one_word_path nameless; goes = refl; ends = refl }
path_completed src (path.Have q) = record { more = []; last = path.Have q; tree = q; goes = refl; ends = refl }
path_completed src (path.Behind q) = record { more = some_token kind.Identifier ∷ []; last = path.Have (with_word src q nameless); tree = with_word src q nameless; goes = refl; ends = refl }

pub paths_parser : (src : List ℕ) → IsParser (paths src) (ReadsWholePath src)
paths_parser src = record {
  complete = λ ts x r. path_complete src ts x r;
  sound = λ ts s x f e. path_sound src ts s x f e;
  viable = λ s. path_completed src s;
  answers = λ s t. answers_by (paths_outlined src) s t;
}

-- ---- what a machine above reads behind a path or an entity literal: any kind but `::`, and
-- behind an entity literal each kind

unhad : {A : Type 0} (a : A) (k : TokenKind) → (k ≡ kind.ColonColon → ⊥) → had_plan a k ≡ None
unhad a kind.ColonColon n = absurd (n refl)
unhad a _ n = refl

-- nothing is planned with such a kind where words can end, nor where a name can

pub unplanned_shape : (u : WordsShape) (k : TokenKind) → (k ≡ kind.ColonColon → ⊥) → is_some (words_outline.finish u) ≡ true → words_outline.plan u k ≡ None
unplanned_shape (shaped.in_path shaped.at_start) k n e = absurd (cc)
unplanned_shape (shaped.in_path (shaped.have c)) k n e = unhad (words_acts.Path path_acts.Colons) k n
unplanned_shape (shaped.in_path shaped.behind_colons) k n e = absurd (cc)
unplanned_shape (shaped.in_inits i) k n e = absurd (cc)
unplanned_shape shaped.behind_entity k n e = refl

pub unplanned_name : (u : PathShape) (k : TokenKind) → (k ≡ kind.ColonColon → ⊥) → is_some (name_outline.finish u) ≡ true → name_outline.plan u k ≡ None
unplanned_name shaped.at_start k n e = absurd (cc)
unplanned_name (shaped.have c) k n e = unhad path_acts.Colons k n
unplanned_name shaped.behind_colons k n e = absurd (cc)

pub unplanned_words : (s : WordsState) (x : Words) (k : TokenKind) → (k ≡ kind.ColonColon → ⊥) → words_end s ≡ Some x → words_reader.plan s k ≡ None
unplanned_words s x k n e = unplanned_shape (words_shape s) k n (sym ((words_outlined []).ends s) ∙ ap (λ o. is_some o) e)

-- a kind that is no identifier and not `::`
pub words_outside : (src : List ℕ) (k : TokenKind) → ((v : List ℕ) → any_of k v ≡ None) → (k ≡ kind.ColonColon → ⊥) → IsOutside (words_machine src) k
words_outside src k a n = record {
  behind = λ s x t i e. leaves_tree src words_reader s t x (unplanned_words s x t.kind (λ h. n (sym i ∙ h)) e) e;
  before = λ t i. leaves_none src words_reader (state.Path path.Start) t (unplanned_any t.kind t.text (words_acts.Path path_acts.First) (ap (λ k. any_of k t.text) i ∙ a t.text)) refl;
}
