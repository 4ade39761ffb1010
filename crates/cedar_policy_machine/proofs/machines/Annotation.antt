-- The machine of annotations is a parser.
use Rattle.std.proofs.Common.{◌≡◌, ℕ, List, [], ◌∷◌, ◌++◌, Option, Some, None, true, refl, sym, ◌∙◌, ap, subst, IfSome}
use Rattle.cedar_lexer.specs.Token.{Lexeme}
use Rattle.cedar_lexer.specs.declared.token.TokenKind.{TokenKind}
use Rattle.cedar_lexer.specs.declared.token.TokenKind.TheVariants as kind
use Rattle.cedar_syntax.specs.declared.cst.Ident.{Ident}
use Rattle.cedar_syntax.specs.declared.cst.Annotation.{Annotation}
use Rattle.cedar_policy_machine.specs.declared.annotation.AnnotationState.{AnnotationState}
use Rattle.cedar_policy_machine.specs.declared.annotation.AnnotationState.TheVariants as annotation
use Rattle.cedar_policy_machine.specs.declared.annotation.AnnotationAct.{AnnotationAct}
use Rattle.cedar_policy_machine.specs.declared.annotation.AnnotationAct.TheVariants as act
use Rattle.cedar_syntax.specs.tokens.Tokens.{Spot, one, any_of}
use Rattle.cedar_grammar.specs.grammar.Place.{placed}
use Rattle.cedar_syntax.specs.trees.Trees.{Cell, annotation_of}
use Rattle.cedar_grammar.specs.grammar.LooseWords.{ReadsAny, any}
use Rattle.cedar_grammar.specs.grammar.LoosePolicies.{ReadsAnnotation, key_alone, with_value}
use Rattle.cedar_grammar.specs.machines.Machine.{next, answer_state, steps, Comes, RunsTo, Completed, IsParser, IsDone, is_taken, is_some, option_image, planned_answer}
use Rattle.cedar_grammar.specs.machines.SingleTokens.{token_node, string_node, if_any}
use Rattle.cedar_policy_machine.specs.machines.Annotation.{any_node, AnnotationShape, no_annotation, behind_at, has_key, wants_value, has_value, whole_annotation, annotation_shape, annotation_mark_plan, annotation_open_plan, annotation_value_plan, annotation_close_plan, annotation_plan, annotation_act, annotation_finish, annotation_reader, annotations}
use Rattle.cedar_grammar.proofs.machines.ByActs.{keeps}
use Rattle.cedar_grammar.proofs.machines.Laws.{some_is, some_token}
use Rattle.cedar_grammar.proofs.machines.Marked.{word_fits}
use Rattle.cedar_grammar.proofs.machines.Readers.{takes, leaves_tree, leaves_none}
use Rattle.cedar_grammar.proofs.machines.Ending.{EndsAt, Refuses, Begins, IsWord, spot_of, token_at}
use Rattle.cedar_grammar.proofs.machines.Rightly.{EndsRightly, DoesRightly, answers_from}
use Rattle.cedar_grammar.proofs.machines.SingleTokens.{planned_any, any_case}

-- ---- words

-- the node that a word is
pub word_node_is : (src : List ℕ) (t : Lexeme) (i : Ident) → any_of t.kind t.text ≡ Some i → any_node src t ≡ Some (token_node src t i)
word_node_is src t i e = ap (λ o. option_image (λ i. token_node src t i) o) e

-- what is made of a planned word
pub word_made : {A : Type 0} (src : List ℕ) (t : Lexeme) (a b : A) (x : Cell Ident) → if_any t.kind a ≡ Some b → ((i : Ident) → any_of t.kind t.text ≡ Some i → x ≡ token_node src t i) → any_node src t ≡ Some x
word_made src t a b x e h = any_case (λ b. any_node src t ≡ Some x) t.kind t.text a b e (λ i g. word_node_is src t i g ∙ ap (λ x. Some x) (sym (h i g)))

pub word_kept : {S : Type 0} (src : List ℕ) (t : Lexeme) (f : Cell Ident → S) (P : S → Type 0) → ((i : Ident) → any_of t.kind t.text ≡ Some i → P (f (token_node src t i))) → IfSome (option_image f (any_node src t)) P
word_kept src t f P h = go (any_of t.kind t.text) refl
  where
    go : (o : Option Ident) → any_of t.kind t.text ≡ o → IfSome (option_image f (option_image (λ i. token_node src t i) o)) P
    go (Some i) e = h i e
    go None e = tt

pub word_does : {S A : Type 0} (src : List ℕ) (t : Lexeme) (f : Cell Ident → S) (a b : A) → if_any t.kind a ≡ Some b → IsDone t (option_image f (any_node src t))
word_does src t f a b e =
    any_case (λ b. IsDone t (option_image f (any_node src t))) t.kind t.text a b e
    (λ i g. subst (λ o. IsDone t (option_image f (option_image (λ i. token_node src t i) o))) (sym g) (word_fits t i g))

-- ---- complete

key_taken : (src : List ℕ) (k : TokenKind) (q : Spot) (i : Ident) → any_of k q.text ≡ Some i → (annotations src).step annotation.At (token_at k q) ≡ next (annotation.Key (placed src (one k q) i))
key_taken src k q i e =
    takes src annotation_reader annotation.At (annotation.Key (placed src (one k q) i)) act.Key (token_at k q) (planned_any k q.text act.Key i e)
    (ap (λ o. option_image (λ i. annotation.Key i) o) (word_node_is src (token_at k q) i e))

annotation_complete : (src : List ℕ) {ts : List Lexeme} {x : Annotation} → ReadsAnnotation src ts x → RunsTo (annotations src) ts x
annotation_complete src (key_alone p (any {k = k} {i = i} q e)) = record {
  last = annotation.Key (placed src (one k q) i);
  goes = ap (λ a. answer_state a) (key_taken src k q i e);
  ends = refl;
}
annotation_complete src (with_value p l q m (any {k = k} {i = i} r e)) = record {
  last = annotation.Closed (placed src (one k r) i) (string_node src (token_at kind.StringLit q));
  goes = ap (λ a. steps (annotations src) (answer_state a) (one kind.OpenParen l ++ one kind.StringLit q ++ one kind.CloseParen m)) (key_taken src k r i e);
  ends = refl;
}

-- ---- what is planned

pub data AnnotationPlanned : AnnotationShape → TokenKind → AnnotationAct → Type 0 where
  marks : AnnotationPlanned no_annotation kind.At act.Mark
  keys : {k : TokenKind} → if_any k act.Key ≡ Some act.Key → AnnotationPlanned behind_at k act.Key
  opens : AnnotationPlanned has_key kind.OpenParen act.Open
  fills : AnnotationPlanned wants_value kind.StringLit act.Value
  closes : AnnotationPlanned has_value kind.CloseParen act.Close

mark_planned : (k : TokenKind) (a : AnnotationAct) → annotation_mark_plan k ≡ Some a → AnnotationPlanned no_annotation k a
mark_planned kind.At a e = subst (λ a. AnnotationPlanned no_annotation kind.At a) (some_is e) marks
mark_planned _ a e = absurd (cc)

open_planned : (k : TokenKind) (a : AnnotationAct) → annotation_open_plan k ≡ Some a → AnnotationPlanned has_key k a
open_planned kind.OpenParen a e = subst (λ a. AnnotationPlanned has_key kind.OpenParen a) (some_is e) opens
open_planned _ a e = absurd (cc)

value_planned : (k : TokenKind) (a : AnnotationAct) → annotation_value_plan k ≡ Some a → AnnotationPlanned wants_value k a
value_planned kind.StringLit a e = subst (λ a. AnnotationPlanned wants_value kind.StringLit a) (some_is e) fills
value_planned _ a e = absurd (cc)

close_planned : (k : TokenKind) (a : AnnotationAct) → annotation_close_plan k ≡ Some a → AnnotationPlanned has_value k a
close_planned kind.CloseParen a e = subst (λ a. AnnotationPlanned has_value kind.CloseParen a) (some_is e) closes
close_planned _ a e = absurd (cc)

any_planned : (k : TokenKind) (a b : AnnotationAct) → if_any k a ≡ Some b → a ≡ b
any_planned k a b e = any_case (λ b. a ≡ b) k [] a b e (λ i g. refl)

pub annotation_planned : (u : AnnotationShape) (k : TokenKind) (a : AnnotationAct) → annotation_plan u k ≡ Some a → AnnotationPlanned u k a
annotation_planned no_annotation k a e = mark_planned k a e
annotation_planned behind_at k a e = let h = any_planned k act.Key a e in subst (λ a. AnnotationPlanned behind_at k a) h (keys (e ∙ ap (λ a. Some a) (sym h)))
annotation_planned has_key k a e = open_planned k a e
annotation_planned wants_value k a e = value_planned k a e
annotation_planned has_value k a e = close_planned k a e
annotation_planned whole_annotation k a e = absurd (cc)

-- ---- sound

data AnnotationRead (src : List ℕ) : List Lexeme → AnnotationState → Type 0 where
  is_start : AnnotationRead src [] annotation.Start
  is_at : (p : Spot) → AnnotationRead src (one kind.At p) annotation.At
  is_key : {ts : List Lexeme} {i : Ident} (p : Spot) → ReadsAny ts i → AnnotationRead src (one kind.At p ++ ts) (annotation.Key (placed src ts i))
  is_open : {ts : List Lexeme} {i : Ident} (p l : Spot) → ReadsAny ts i → AnnotationRead src (one kind.At p ++ ts ++ one kind.OpenParen l) (annotation.Open (placed src ts i))
  is_value : {ts : List Lexeme} {i : Ident} (p l q : Spot) → ReadsAny ts i →
      AnnotationRead src (one kind.At p ++ ts ++ one kind.OpenParen l ++ one kind.StringLit q) (annotation.Value (placed src ts i) (string_node src (token_at kind.StringLit q)))
  is_closed : {ts : List Lexeme} {i : Ident} (p l q m : Spot) → ReadsAny ts i →
      AnnotationRead src (one kind.At p ++ ts ++ one kind.OpenParen l ++ one kind.StringLit q ++ one kind.CloseParen m)
      (annotation.Closed (placed src ts i) (string_node src (token_at kind.StringLit q)))

one_kept : (src : List ℕ) (ts : List Lexeme) (s : AnnotationState) (k : TokenKind) (a : AnnotationAct) (p : Spot) → AnnotationRead src ts s → AnnotationPlanned (annotation_shape s) k a →
    IfSome (annotation_act src s a (token_at k p)) (λ q. AnnotationRead src (ts ++ one k p) q)
one_kept src ts s k a p is_start marks = is_at p
one_kept src ts s k a p (is_at m) (keys h) = word_kept src (token_at k p) (λ i. annotation.Key i) (λ q. AnnotationRead src (one kind.At m ++ one k p) q) (λ i e. is_key m (any p e))
one_kept src ts s k a p (is_key m r) opens = is_open m p r
one_kept src ts s k a p (is_open m l r) fills = is_value m l p r
one_kept src ts s k a p (is_value m l v r) closes = is_closed m l v p r
one_kept src ts s k a p (is_closed m l v w r) h = elim h [ ]

annotation_kept : (src : List ℕ) (ts : List Lexeme) (s : AnnotationState) → Comes (annotations src) ts s → AnnotationRead src ts s
annotation_kept src =
    keeps src annotation_reader (λ ts s. AnnotationRead src ts s) is_start (λ ts s t a r e. one_kept src ts s t.kind a (spot_of t) r (annotation_planned (annotation_shape s) t.kind a e))

annotation_sound : (src : List ℕ) {ts : List Lexeme} {s : AnnotationState} (x : Annotation) → AnnotationRead src ts s → annotation_finish s ≡ Some x → ReadsAnnotation src ts x
annotation_sound src x is_start e = absurd (cc)
annotation_sound src x (is_at p) e = absurd (cc)
annotation_sound src x (is_key {ts = ts} p r) e = subst (λ x. ReadsAnnotation src (one kind.At p ++ ts) x) (some_is e) (key_alone p r)
annotation_sound src x (is_open p l r) e = absurd (cc)
annotation_sound src x (is_value p l q r) e = absurd (cc)
annotation_sound src x (is_closed {ts = ts} p l q m r) e =
    subst (λ x. ReadsAnnotation src (one kind.At p ++ ts ++ one kind.OpenParen l ++ one kind.StringLit q ++ one kind.CloseParen m) x) (some_is e) (with_value p l q m r)

-- ---- viable

annotation_viable : (src : List ℕ) (s : AnnotationState) → Completed (annotations src) s
annotation_viable src annotation.Start = record { more = some_token kind.At ∷ some_token kind.Identifier ∷ []; last = _; tree = _; goes = refl; ends = refl }
annotation_viable src annotation.At = record { more = some_token kind.Identifier ∷ []; last = _; tree = _; goes = refl; ends = refl }
annotation_viable src (annotation.Key i) = record { more = []; last = annotation.Key i; tree = annotation_of i None; goes = refl; ends = refl }
annotation_viable src (annotation.Open i) = record { more = some_token kind.StringLit ∷ some_token kind.CloseParen ∷ []; last = _; tree = _; goes = refl; ends = refl }
annotation_viable src (annotation.Value i x) = record { more = some_token kind.CloseParen ∷ []; last = annotation.Closed i x; tree = annotation_of i (Some x); goes = refl; ends = refl }
annotation_viable src (annotation.Closed i x) = record { more = []; last = annotation.Closed i x; tree = annotation_of i (Some x); goes = refl; ends = refl }

-- ---- answers

pub annotation_right : (src : List ℕ) → EndsRightly src annotation_reader
annotation_right src annotation.Start = refl
annotation_right src annotation.At = refl
annotation_right src (annotation.Key i) = refl
annotation_right src (annotation.Open i) = refl
annotation_right src (annotation.Value i x) = refl
annotation_right src (annotation.Closed i x) = refl

one_does : (src : List ℕ) (s : AnnotationState) (k : TokenKind) (a : AnnotationAct) (p : Spot) → AnnotationPlanned (annotation_shape s) k a → IsDone (token_at k p) (annotation_act src s a (token_at k p))
one_does src annotation.Start k a p marks = λ e. absurd (cc)
one_does src annotation.At k a p (keys h) = word_does src (token_at k p) (λ i. annotation.Key i) act.Key act.Key h
one_does src (annotation.Key i) k a p opens = λ e. absurd (cc)
one_does src (annotation.Open i) k a p fills = λ e. absurd (cc)
one_does src (annotation.Value i x) k a p closes = λ e. absurd (cc)
one_does src (annotation.Closed i x) k a p h = elim h [ ]

pub annotation_does : (src : List ℕ) → DoesRightly src annotation_reader
annotation_does src s a t e = one_does src s t.kind a (spot_of t) (annotation_planned (annotation_shape s) t.kind a e)

pub annotation_parser : (src : List ℕ) → IsParser (annotations src) (ReadsAnnotation src)
annotation_parser src = record {
  complete = λ ts x r. annotation_complete src r;
  sound = λ ts s x f e. annotation_sound src x (annotation_kept src ts s f) e;
  viable = annotation_viable src;
  answers = answers_from src annotation_reader (annotation_does src);
}

-- ---- where one ends

-- behind a key what begins one isn't planned, nor is a word
key_ended : (k : TokenKind) → is_some (annotation_mark_plan k) ≡ true → annotation_open_plan k ≡ None
key_ended kind.OpenParen h = absurd (cc)
key_ended _ h = refl

key_ended_by : (k : TokenKind) (text : List ℕ) (i : Ident) → any_of k text ≡ Some i → annotation_open_plan k ≡ None
key_ended_by kind.OpenParen text i h = absurd (cc)
key_ended_by _ text i h = refl

start_refuses : (k : TokenKind) (text : List ℕ) (i : Ident) → any_of k text ≡ Some i → annotation_mark_plan k ≡ None
start_refuses kind.At text i h = absurd (cc)
start_refuses _ text i h = refl

-- so one that can end is ended by what isn't planned behind a key
ends_where : (src : List ℕ) (P : Lexeme → Type 0) → ((t : Lexeme) → P t → annotation_open_plan t.kind ≡ None) → EndsAt (annotations src) P
ends_where src P h annotation.Start x t p e = absurd (cc)
ends_where src P h annotation.At x t p e = absurd (cc)
ends_where src P h (annotation.Key i) x t p e = leaves_tree src annotation_reader (annotation.Key i) t x (h t p) e
ends_where src P h (annotation.Open i) x t p e = absurd (cc)
ends_where src P h (annotation.Value i y) x t p e = absurd (cc)
ends_where src P h (annotation.Closed i y) x t p e = leaves_tree src annotation_reader (annotation.Closed i y) t x refl e

taken_mark : (src : List ℕ) (t : Lexeme) (o : Option AnnotationAct) → is_taken {T = Annotation} (planned_answer (λ a. annotation_act src annotation.Start a t) None o) ≡ true → is_some o ≡ true
taken_mark src t (Some a) h = refl
taken_mark src t None h = absurd (cc)

pub annotation_ends_itself : (src : List ℕ) → EndsAt (annotations src) (Begins (annotations src))
annotation_ends_itself src = ends_where src (Begins (annotations src)) (λ t p. key_ended t.kind (taken_mark src t (annotation_mark_plan t.kind) p))

pub annotation_ends_at_words : (src : List ℕ) → EndsAt (annotations src) IsWord
annotation_ends_at_words src = ends_where src IsWord (λ t p. key_ended_by t.kind t.text p.0 p.1)

pub annotation_refuses_words : (src : List ℕ) → Refuses (annotations src) IsWord
annotation_refuses_words src t p = leaves_none src annotation_reader annotation.Start t (start_refuses t.kind t.text p.0 p.1) refl
