-- The outlines of paths, entity literals, names and identifiers go as their readers do.
use Rattle.std.proofs.Common.{◌≡◌, ℕ, List, [], ◌∷◌, ◌++◌, Option, Some, None, Bool, true, false, cond, refl, sym, ◌∙◌, ap, subst, IfSome}
use Rattle.cedar_lexer.specs.Token.{Lexeme}
use Rattle.cedar_lexer.specs.declared.token.TokenKind.{TokenKind}
use Rattle.cedar_lexer.specs.declared.token.TokenKind.TheVariants as kind
use Rattle.cedar_syntax.specs.declared.cst.Ident.{Ident}
use Rattle.cedar_syntax.specs.declared.cst.Ident.TheVariants as ident
use Rattle.cedar_expression_machine.specs.declared.words.state.Path.{Path}
use Rattle.cedar_expression_machine.specs.declared.words.state.Word.{Word}
use Rattle.cedar_expression_machine.specs.declared.words.state.PathState.{PathState}
use Rattle.cedar_expression_machine.specs.declared.words.state.PathState.TheVariants as path
use Rattle.cedar_expression_machine.specs.declared.words.state.PathAct.{PathAct}
use Rattle.cedar_expression_machine.specs.declared.words.state.PathAct.TheVariants as path_acts
use Rattle.cedar_expression_machine.specs.declared.words.state.InitPlace.{InitPlace}
use Rattle.cedar_expression_machine.specs.declared.words.state.InitPlace.TheVariants as place
use Rattle.cedar_expression_machine.specs.declared.words.state.InitAct.{InitAct}
use Rattle.cedar_expression_machine.specs.declared.words.state.OpenEntity.{OpenEntity}
use Rattle.cedar_expression_machine.specs.declared.words.state.WordsState.{WordsState}
use Rattle.cedar_expression_machine.specs.declared.words.state.WordsState.TheVariants as state
use Rattle.cedar_expression_machine.specs.declared.words.state.WordsAct.{WordsAct}
use Rattle.cedar_expression_machine.specs.declared.words.state.WordsAct.TheVariants as words_acts
use Rattle.cedar_expression_machine.specs.declared.words.state.Words.{Words}
use Rattle.cedar_expression_machine.specs.declared.words.state.Words.TheVariants as words
use Rattle.cedar_expression_machine.specs.declared.words.state.IdentState.{IdentState}
use Rattle.cedar_expression_machine.specs.declared.words.state.IdentState.TheVariants as one_ident
use Rattle.cedar_grammar.specs.grammar.Place.{extent_of}
use Rattle.cedar_syntax.specs.tokens.Tokens.{Spot, fits, any_of}
use Rattle.cedar_syntax.specs.trees.Trees.{Cell}
use Rattle.cedar_grammar.specs.grammar.LooseWords.{is_common}
use Rattle.cedar_grammar.specs.machines.Machine.{Shapes, is_some, option_image, IsDone, IsOutline, no_tree}
use Rattle.cedar_expression_machine.specs.machines.Words.{path_begun, path_longer, path_act, word_of, word_node, one_word_path, with_word, path_end, path_reader, paths, inits_at, number_valued, words_act, words_end, words_reader, words_machine, is_name_among, is_name, path_as_name, path_node, name_reader, names, words_as_ref, ref_reader, refs, ident_act, ident_end, ident_reader, idents}
use Rattle.cedar_expression_machine.specs.machines.WordShapes.{a_name, ident_kind, kind_among, path_kind, PathShape, have, path_shape, first_shape, path_act_shape, path_outline, path_shapes, in_path, in_inits, key, behind_item, words_shape, words_kind, init_shape, init_plan, words_act_shape, words_outline, words_shapes, name_kind, name_outline, name_shapes, entity_kind, ref_outline, ref_shapes, ident_shape, ident_outline, ident_shapes}
use Rattle.cedar_grammar.proofs.machines.Laws.{some_is, none_some, image_some}
use Rattle.cedar_grammar.proofs.machines.Readers.{shaped_by}
use Rattle.cedar_expression_machine.proofs.machines.Keeping.{kept_outlined}
use Rattle.cedar_grammar.proofs.machines.SingleTokens.{no_number, any_case}
use Rattle.cedar_expression_machine.proofs.machines.WordPlans.{had_case, more_case, item_case, key_case, value_case, item_had_case, image_case}
use Rattle.cedar_expression_machine.proofs.machines.Words.{token}

abbrev spot : Lexeme → Spot
spot t = record { start = t.start; end = t.end; text = t.text }

-- ---- what a kind says of an identifier

-- what the shape of a first identifier is hangs on its kind alone
first_shaped : (k : TokenKind) (text : List ℕ) (i : Ident) → any_of k text ≡ Some i → first_shape (any_of k []) ≡ have (ident_kind i)
first_shaped k text i e = same_first k text ∙ ap (λ o. first_shape o) e
  where
    same_first : (k : TokenKind) (text : List ℕ) → first_shape (any_of k []) ≡ first_shape (any_of k text)
    same_first kind.True text = refl
    same_first _ text = refl

pub kind_more : (xs : List (Cell Ident)) (x : Cell Ident) (i : Ident) → kind_among (xs ++ x ∷ []) i ≡ a_name
kind_more [] x i = refl
kind_more (y ∷ xs) x i = refl

-- ---- what an act owes: it is done unless a number doesn't fit, and its shape is the outline's

abbrev IsActed : {S U : Type 0} → (S → U) → U → Lexeme → Option S → Type 0
IsActed f u t o = IsDone t o × IfSome o (λ q. f q ≡ u)

-- one that makes a state of an identifier
any_acted : {S U : Type 0} (f : S → U) (u : U) (k : TokenKind) (p : Spot) (g : Ident → S) (i : Ident) → any_of k p.text ≡ Some i → f (g i) ≡ u → IsActed f u (token k p) (option_image g (any_of k p.text))
any_acted f u k p g i e h = subst (λ o. IsActed f u (token k p) (option_image g o)) (sym e) ((λ n. absurd (no_number k p.text i e n)), h)

acted_shape : {S U : Type 0} (f : S → U) (u : U) (t : Lexeme) (o : Option S) (q : S) → IsActed f u t o → o ≡ Some q → f q ≡ u
acted_shape f u t (Some s) q h e = ap (λ s. f s) (sym (some_is e)) ∙ h.1
acted_shape f u t None q h e = absurd (none_some refl e)

ended_alike : {T V : Type 0} (g : T → V) (o : Option T) (c : Option V) → c ≡ option_image g o → is_some o ≡ is_some c
ended_alike g o c e = sym (ap (λ c. is_some c) e ∙ image_some g o)

-- ---- paths

abbrev PathActed : List ℕ → PathState → TokenKind → Spot → PathAct → Type 0
PathActed src s k p a = IsActed path_shape (path_act_shape a k) (token k p) (path_act src s a (token k p))

first_word_acted : (t : Lexeme) (i : Ident) → any_of t.kind t.text ≡ Some i → IsActed path_shape (first_shape (any_of t.kind [])) t (path_begun (any_of t.kind t.text) (extent_of t))
first_word_acted t i e = any_acted path_shape (first_shape (any_of t.kind [])) t.kind (spot t) (λ i. path.Have (one_word_path (word_of i (extent_of t)))) i e (sym (first_shaped t.kind t.text i e))

further_acted : (src : List ℕ) (q : Path) (t : Lexeme) (i : Ident) → any_of t.kind t.text ≡ Some i → IsActed path_shape (have a_name) t (path_longer src (path.Behind q) (any_of t.kind t.text) (extent_of t))
further_acted src q t i e = any_acted path_shape (have a_name) t.kind (spot t) (λ i. path.Have (with_word src q (word_of i (extent_of t)))) i e (ap (λ c. have c) (kind_more q.before (word_node src q.last) i))

path_acted : (src : List ℕ) (s : PathState) (t : Lexeme) (a : PathAct) → path_reader.plan s t.kind ≡ Some a → PathActed src s t.kind (spot t) a
path_acted src path.Start t a e = any_case (λ a. PathActed src path.Start t.kind (spot t) a) t.kind t.text path_acts.First a e (λ i f. first_word_acted t i f)
path_acted src (path.Have q) t a e = had_case (λ k a. PathActed src (path.Have q) k (spot t) a) t.kind path_acts.Colons a e ((λ n. absurd (cc)), refl)
path_acted src (path.Behind q) t a e = any_case (λ a. PathActed src (path.Behind q) t.kind (spot t) a) t.kind t.text path_acts.More a e (λ i f. further_acted src q t i f)

path_ends : (s : PathState) → path_outline.finish (path_shape s) ≡ option_image path_kind (path_end s)
path_ends path.Start = refl
path_ends (path.Have p) = refl
path_ends (path.Behind p) = refl

pub paths_outlined : (src : List ℕ) → IsOutline src path_reader path_outline path_shape path_kind
paths_outlined src = record {
  starts = refl;
  plans = λ s k. refl;
  acts = λ s q a t e f. acted_shape path_shape (path_act_shape a t.kind) t (path_act src s a t) q (path_acted src s t a e) f;
  done = λ s a t e. (path_acted src s t a e).0;
  ends = λ s. ended_alike path_kind (path_end s) (path_outline.finish (path_shape s)) (path_ends s);
  finishes = path_ends;
}

pub paths_shaped : (src : List ℕ) → Shapes (paths src) path_shapes path_shape path_kind
paths_shaped src = shaped_by (paths_outlined src)

-- ---- paths and entity literals

abbrev WordsActed : List ℕ → WordsState → TokenKind → Spot → WordsAct → Type 0
WordsActed src s k p a = IsActed words_shape (words_act_shape a k) (token k p) (words_act src s a (token k p))

in_path_acted : (k : TokenKind) (p : Spot) (u : PathShape) (o : Option PathState) → IsActed path_shape u (token k p) o → IsActed words_shape (in_path u) (token k p) (option_image (λ s. state.Path s) o)
in_path_acted k p u (Some s) h = (h.0, ap (λ u. in_path u) h.1)
in_path_acted k p u None h = h

first_acted : (src : List ℕ) (t : Lexeme) (a : WordsAct) → words_reader.plan (state.Path path.Start) t.kind ≡ Some a → WordsActed src (state.Path path.Start) t.kind (spot t) a
first_acted src t a e =
    any_case (λ a. WordsActed src (state.Path path.Start) t.kind (spot t) a) t.kind t.text (words_acts.Path path_acts.First) a e
    (λ i f. in_path_acted t.kind (spot t) (first_shape (any_of t.kind [])) (path_begun (any_of t.kind t.text) (extent_of t)) (first_word_acted t i f))

more_acted : (src : List ℕ) (q : Path) (t : Lexeme) (a : WordsAct) → words_reader.plan (state.Path (path.Behind q)) t.kind ≡ Some a → WordsActed src (state.Path (path.Behind q)) t.kind (spot t) a
more_acted src q t a e =
    more_case (λ k a. WordsActed src (state.Path (path.Behind q)) k (spot t) a) t.kind t.text a e ((λ n. absurd (cc)), refl) ((λ n. absurd (cc)), refl)
    (λ i f. in_path_acted t.kind (spot t) (have a_name) (path_longer src (path.Behind q) (any_of t.kind t.text) (extent_of t)) (further_acted src q t i f))

path_words_acted : (src : List ℕ) (s : PathState) (t : Lexeme) (a : WordsAct) → words_reader.plan (state.Path s) t.kind ≡ Some a → WordsActed src (state.Path s) t.kind (spot t) a
path_words_acted src path.Start t a e = first_acted src t a e
path_words_acted src (path.Have q) t a e = had_case (λ k a. WordsActed src (state.Path (path.Have q)) k (spot t) a) t.kind (words_acts.Path path_acts.Colons) a e ((λ n. absurd (cc)), refl)
path_words_acted src (path.Behind q) t a e = more_acted src q t a e

abbrev InitActed : List ℕ → OpenEntity → InitPlace → TokenKind → Spot → InitAct → Type 0
InitActed src b p k r a = WordsActed src (inits_at b p) k r (words_acts.Init a)

number_acted : (src : List ℕ) (b : OpenEntity) (w : Word) (p : Spot) (c : Bool) → fits p.text ≡ c → IsActed words_shape (in_inits behind_item) (token kind.Number p) (number_valued src b (place.Value w) c (token kind.Number p))
number_acted src b w p true e = ((λ n. e), refl)
number_acted src b w p false e = ((refl, e), tt)

inits_acted : (src : List ℕ) (b : OpenEntity) (p : InitPlace) (t : Lexeme) (a : InitAct) → init_plan (init_shape p) t.kind ≡ Some a → InitActed src b p t.kind (spot t) a
inits_acted src b place.Item t a e =
    item_case (λ k a. InitActed src b place.Item k (spot t) a) t.kind t.text a e ((λ n. absurd (cc)), refl) (λ i f. any_acted words_shape (in_inits key) t.kind (spot t) (λ i. inits_at b (place.Key (word_of i (extent_of t)))) i f refl)
inits_acted src b (place.Key w) t a e = key_case (λ k a. InitActed src b (place.Key w) k (spot t) a) t.kind a e ((λ n. absurd (cc)), refl)
inits_acted src b (place.Value w) t a e =
    value_case (λ k a. InitActed src b (place.Value w) k (spot t) a) t.kind a e ((λ n. absurd (cc)), refl) ((λ n. absurd (cc)), refl) (number_acted src b w (spot t) (fits t.text) refl) ((λ n. absurd (cc)), refl)
inits_acted src b place.Behind t a e = item_had_case (λ k a. InitActed src b place.Behind k (spot t) a) t.kind a e ((λ n. absurd (cc)), refl) ((λ n. absurd (cc)), refl)

words_acted : (src : List ℕ) (s : WordsState) (t : Lexeme) (a : WordsAct) → words_reader.plan s t.kind ≡ Some a → WordsActed src s t.kind (spot t) a
words_acted src (state.Path s) t a e = path_words_acted src s t a e
words_acted src (state.Inits s) t a e =
    image_case (λ a. words_acts.Init a) (λ a. WordsActed src (state.Inits s) t.kind (spot t) a) (init_plan (init_shape s.place) t.kind) a e (λ a f. inits_acted src s.begun s.place t a f)
words_acted src (state.Entity d) t a e = absurd (none_some refl e)

words_ends : (s : WordsState) → words_outline.finish (words_shape s) ≡ option_image words_kind (words_end s)
words_ends (state.Path path.Start) = refl
words_ends (state.Path (path.Have p)) = refl
words_ends (state.Path (path.Behind p)) = refl
words_ends (state.Inits s) = refl
words_ends (state.Entity e) = refl

pub words_outlined : (src : List ℕ) → IsOutline src words_reader words_outline words_shape words_kind
words_outlined src = record {
  starts = refl;
  plans = λ s k. refl;
  acts = λ s q a t e f. acted_shape words_shape (words_act_shape a t.kind) t (words_act src s a t) q (words_acted src s t a e) f;
  done = λ s a t e. (words_acted src s t a e).0;
  ends = λ s. ended_alike words_kind (words_end s) (words_outline.finish (words_shape s)) (words_ends s);
  finishes = words_ends;
}

pub words_shaped : (src : List ℕ) → Shapes (words_machine src) words_shapes words_shape words_kind
words_shaped src = shaped_by (words_outlined src)

-- ---- names, entity literals and identifiers alone

common_kind : (i : Ident) → is_common i ≡ is_some (name_kind (ident_kind i))
common_kind ident.True = refl
common_kind ident.False = refl
common_kind ident.If = refl
common_kind _ = refl

name_among_kind : (xs : List (Cell Ident)) (i : Ident) → is_name_among xs i ≡ is_some (name_kind (kind_among xs i))
name_among_kind [] i = common_kind i
name_among_kind (x ∷ xs) i = refl

name_can_end : (s : PathState) → name_reader.ends s ≡ is_some (name_outline.finish (path_shape s))
name_can_end path.Start = refl
name_can_end (path.Have p) = name_among_kind p.before p.last.ident
name_can_end (path.Behind p) = refl

kept_unit : {T : Type 0} (b : Bool) (o : Option (Unit {0})) (x : T) → b ≡ is_some o → o ≡ option_image no_tree (cond b (Some x) None)
kept_unit true (Some tt) x e = refl
kept_unit false None x e = refl
kept_unit true None x e = absurd (cc)
kept_unit false (Some y) x e = absurd (cc)

pub names_outlined : (src : List ℕ) → IsOutline src name_reader name_outline path_shape no_tree
names_outlined src =
    kept_outlined (λ src p. path_as_name src p) name_reader.ends name_kind no_tree (λ p. kept_unit (is_name p) (name_kind (path_kind p)) (path_node src p) (name_among_kind p.before p.last.ident)) name_can_end (paths_outlined src)

pub names_shaped : (src : List ℕ) → Shapes (names src) name_shapes path_shape no_tree
names_shaped src = shaped_by (names_outlined src)

ref_kind : (x : Words) → entity_kind (words_kind x) ≡ option_image no_tree (words_as_ref x)
ref_kind (words.Path p) = refl
ref_kind (words.Entity e) = refl

ref_can_end : (s : WordsState) → ref_reader.ends s ≡ is_some (ref_outline.finish (words_shape s))
ref_can_end (state.Path path.Start) = refl
ref_can_end (state.Path (path.Have p)) = refl
ref_can_end (state.Path (path.Behind p)) = refl
ref_can_end (state.Inits s) = refl
ref_can_end (state.Entity e) = refl

pub refs_outlined : (src : List ℕ) → IsOutline src ref_reader ref_outline words_shape no_tree
refs_outlined src = kept_outlined (λ src x. words_as_ref x) ref_reader.ends entity_kind no_tree ref_kind ref_can_end (words_outlined src)

pub refs_shaped : (src : List ℕ) → Shapes (refs src) ref_shapes words_shape no_tree
refs_shaped src = shaped_by (refs_outlined src)

ident_acted : (s : IdentState) (t : Lexeme) (a : Unit {0}) → ident_reader.plan s t.kind ≡ Some a → IsActed ident_shape true t (ident_act t)
ident_acted one_ident.Start t a e =
    any_case (λ a. IsActed ident_shape true t (ident_act t)) t.kind t.text tt a e (λ i f. any_acted ident_shape true t.kind (spot t) (λ i. one_ident.Have (word_of i (extent_of t))) i f refl)
ident_acted (one_ident.Have w) t a e = absurd (none_some refl e)

ident_ends : (src : List ℕ) (s : IdentState) → ident_outline.finish (ident_shape s) ≡ option_image no_tree (ident_end src s)
ident_ends src one_ident.Start = refl
ident_ends src (one_ident.Have w) = refl

ident_can_end : (s : IdentState) → ident_reader.ends s ≡ is_some (ident_outline.finish (ident_shape s))
ident_can_end one_ident.Start = refl
ident_can_end (one_ident.Have w) = refl

pub idents_outlined : (src : List ℕ) → IsOutline src ident_reader ident_outline ident_shape no_tree
idents_outlined src = record {
  starts = refl;
  plans = λ s k. refl;
  acts = λ s q a t e f. acted_shape ident_shape true t (ident_act t) q (ident_acted s t a e) f;
  done = λ s a t e. (ident_acted s t a e).0;
  ends = ident_can_end;
  finishes = λ s. ident_ends src s;
}

pub idents_shaped : (src : List ℕ) → Shapes (idents src) ident_shapes ident_shape no_tree
idents_shaped src = shaped_by (idents_outlined src)
