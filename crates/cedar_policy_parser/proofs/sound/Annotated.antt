-- Annotations are held of their tokens, and their keys are all different.
use Rattle.std.proofs.Common.{◌≡◌, ℕ, false, List, [], ◌∷◌, ◌++◌, map, Option, Some, None, Ok, unwrap_or, refl, sym, ap, ◌∙◌, codes}
use Rattle.std.specs.FinMap.{FinMap, empty, insert}
use Rattle.std.specs.List.{fold}
use Rattle.cedar_lexer.specs.Token.{Lexeme}
use Rattle.cedar_lexer.specs.declared.token.TokenKind.{TokenKind}
use Rattle.cedar_lexer.specs.declared.token.TokenKind.TheVariants as kind
use Rattle.cedar_expressions.specs.Keys.{repeats_key}
use Rattle.cedar_expressions.specs.Path.{is_identifier}
use Rattle.cedar_expressions.proofs.Repeats.{still-single}
use Rattle.cedar_policy_store.specs.declared.annotation.Annotation.{Annotation as Kept}
use Rattle.cedar_policy_store.specs.PlaceFree.{annotation_value as value_of, with_values}
use Rattle.cedar_policy_store.specs.TextMap.{text_order}
use Rattle.cedar_syntax.specs.declared.loc.Loc.{Loc}
use Rattle.cedar_syntax.specs.declared.cst.Annotation.{Annotation}
use Rattle.cedar_syntax.specs.declared.cst.Ident.{Ident}
use Rattle.cedar_syntax.specs.declared.cst.Str.TheVariants as str
use Rattle.cedar_grammar.specs.grammar.LoosePolicies as l
use Rattle.cedar_grammar.specs.grammar.LoosePolicies.{ReadsAnnotation, ReadsMany}
use Rattle.cedar_grammar.specs.grammar.LooseWords as lw
use Rattle.cedar_grammar.specs.grammar.LooseWords.{ReadsAny}
use Rattle.cedar_grammar.specs.grammar.Place.{placed}
use Rattle.cedar_syntax.specs.tokens.Tokens.{Spot, one, any_of, between_quotes}
use Rattle.cedar_syntax.specs.trees.Trees.{Cell}
use Rattle.cedar_policy_conversion.specs.AnnotationKeys.{AnnotationContent, annotation_at, annotation_map, annotation_outcome, gathering_with_node, gathering, has_key, with_annotation, kept_annotation, converted_key, empty_gathering, key_value_outcome, value_text_outcome, with_new_key}
use Rattle.cedar_conversion.specs.parts.Names.{any_ident, any_ident_of, content_outcome}
use Rattle.cedar_conversion.specs.outcome.Outcome.{Outcome, both, next, item_more}
use Rattle.cedar_conversion.specs.parts.Strings.{text_outcome}
use Rattle.cedar_policy_parser.specs.meaning.StrictPolicy as m
use Rattle.cedar_policy_parser.specs.meaning.StrictPolicy.{AreAnnotations, IsAnnotation, IsAnyWord, by_key}
use Rattle.cedar_conversion.specs.strict.StrictWords as w
use Rattle.cedar_conversion.proofs.Inverted.{ok_is, next_ok, both_ok, if_ok, unless_ok}
use Rattle.cedar_conversion.proofs.Loops.{map_snoc}
use Rattle.cedar_policy_conversion.proofs.MappedValues.{fold_snoc, with-empty, with-insert}
use Rattle.cedar_policy_parser.proofs.sound.Words.{string_is_text}

-- ---- keys

word_as : {ts : List Lexeme} (a b : List ℕ) → a ≡ b → IsAnyWord ts a → IsAnyWord ts b
word_as a b h i = rw (← h) i

any_kind : (k : TokenKind) (p : Spot) (place : Option Loc) (key : List ℕ) → next (content_outcome place (any_of k p.text)) (any_ident_of place) ≡ Ok key → IsAnyWord (one k p) key
any_kind kind.True p place key h = word_as (codes "true") key (ok_is h) (m.reserved p m.true_word)
any_kind kind.False p place key h = word_as (codes "false") key (ok_is h) (m.reserved p m.false_word)
any_kind kind.If p place key h = word_as (codes "if") key (ok_is h) (m.reserved p m.if_word)
any_kind kind.Then p place key h = word_as (codes "then") key (ok_is h) (m.reserved p m.then_word)
any_kind kind.Else p place key h = word_as (codes "else") key (ok_is h) (m.reserved p m.else_word)
any_kind kind.In p place key h = word_as (codes "in") key (ok_is h) (m.reserved p m.in_word)
any_kind kind.Is p place key h = word_as (codes "is") key (ok_is h) (m.reserved p m.is_word)
any_kind kind.Has p place key h = word_as (codes "has") key (ok_is h) (m.reserved p m.has_word)
any_kind kind.Like p place key h = word_as (codes "like") key (ok_is h) (m.reserved p m.like_word)
any_kind kind.Principal p place key h = word_as (codes "principal") key (ok_is h) (m.unreserved (w.variable_word p w.principal))
any_kind kind.Action p place key h = word_as (codes "action") key (ok_is h) (m.unreserved (w.variable_word p w.action))
any_kind kind.Resource p place key h = word_as (codes "resource") key (ok_is h) (m.unreserved (w.variable_word p w.resource))
any_kind kind.Context p place key h = word_as (codes "context") key (ok_is h) (m.unreserved (w.variable_word p w.context))
any_kind kind.Permit p place key h = word_as (codes "permit") key (ok_is h) (m.unreserved (w.permit p))
any_kind kind.Forbid p place key h = word_as (codes "forbid") key (ok_is h) (m.unreserved (w.forbid p))
any_kind kind.When p place key h = word_as (codes "when") key (ok_is h) (m.unreserved (w.when p))
any_kind kind.Unless p place key h = word_as (codes "unless") key (ok_is h) (m.unreserved (w.unless p))
any_kind kind.Identifier p place key h =
    let d = if_ok (is_identifier p.text) (Ok p.text) _ key h in
    word_as p.text key (ok_is d.1) (m.any_identifier p d.0)
any_kind _ p place key h = cc

any_word : (src : List ℕ) {ts : List Lexeme} {i : Ident} (key : List ℕ) → ReadsAny ts i → any_ident (placed src ts i) ≡ Ok key → IsAnyWord ts key
any_word src {ts = ts} {i = i} key (lw.any {k = k} p h) g = any_kind k p (placed src ts i).loc key (ap (λ o. next (content_outcome (placed src ts i).loc o) (any_ident_of (placed src ts i).loc)) h ∙ g)

-- ---- one annotation

-- an annotation's text, which is empty where there is no string
abbrev pub text_in : AnnotationContent → List ℕ
text_in a = unwrap_or a.text []

annotation_as : {ts : List Lexeme} (a b : AnnotationContent) → a ≡ b → IsAnnotation ts a.key (text_in a) → IsAnnotation ts b.key (text_in b)
annotation_as a b h i = rw (← h) i

annotation_meant : {src : List ℕ} {ts : List Lexeme} {x : Annotation} (place : Option Loc) (a : AnnotationContent) → ReadsAnnotation src ts x → key_value_outcome place x ≡ Ok a → IsAnnotation ts a.key (text_in a)
annotation_meant {src = src} place a (l.key_alone {ts = ts} {i = i} p r) h =
    let b = next_ok (both (any_ident (placed src ts i)) (Ok None)) _ a h in
    let c = both_ok (any_ident (placed src ts i)) (Ok None) b.0 b.1 in
    let none : None ≡ b.0.1 = ok_is c.1 in
    annotation_as (annotation_at place (b.0.0, None)) a (ap (λ t. annotation_at place (b.0.0, t)) none ∙ ok_is b.2) (m.key_alone p (any_word src b.0.0 r c.0))
annotation_meant {src = src} place a (l.with_value {ts = ts} {i = i} p o q e r) h =
    let string = placed src (one kind.StringLit q) (str.String (between_quotes q.text)) in
    let b = next_ok (both (any_ident (placed src ts i)) (value_text_outcome place (Some string))) _ a h in
    let c = both_ok (any_ident (placed src ts i)) (value_text_outcome place (Some string)) b.0 b.1 in
    let t = next_ok (text_outcome place (between_quotes q.text)) _ b.0.1 c.1 in
    annotation_as (annotation_at place (b.0.0, Some t.0)) a (ap (λ u. annotation_at place (b.0.0, u)) (ok_is t.2) ∙ ok_is b.2) (m.with_text p o e (any_word src b.0.0 r c.0) (string_is_text place q t.0 t.1))

-- ---- all of a policy

-- keys with their texts
abbrev pub texts : List AnnotationContent → List (List ℕ × List ℕ)
texts all = map (λ a. (a.key, text_in a)) all

abbrev pub annotation_keys : List AnnotationContent → List (List ℕ)
annotation_keys all = map (λ a. a.key) all

pub record AnnotationsMeant (ts : List Lexeme) (keys : List (List ℕ)) (all : List AnnotationContent) : Type 0 where
  pub mean : AreAnnotations ts (texts all)
  pub same_keys : keys ≡ annotation_keys all
  pub differ : repeats_key (annotation_keys all) ≡ false

more_ok : {X : Type 0} (o : Outcome (List X)) (x : Outcome X) (zs : List X) → item_more o x ≡ Ok zs → (ys : List X) × (y : X) × (o ≡ Ok ys) × (x ≡ Ok y) × (zs ≡ ys ++ y ∷ [])
more_ok o x zs h =
    let a = next_ok (both o x) _ zs h in
    let b = both_ok o x a.0 a.1 in
    (a.0.0, a.0.1, b.0, b.1, sym (ok_is a.2))

new_key : (keys : List (List ℕ)) (a b : AnnotationContent) → with_new_key keys a ≡ Ok b → (has_key keys a.key ≡ false) × (a ≡ b)
new_key keys a b h = let d = unless_ok (has_key keys a.key) (Ok a) _ b h in (d.0, ok_is d.1)

meant_more : {ts us : List Lexeme} (keys : List (List ℕ)) (o : Outcome AnnotationContent) (ys all : List AnnotationContent) (a : AnnotationContent) → AnnotationsMeant ts keys ys → o ≡ Ok a → has_key keys a.key ≡ false → IsAnnotation us a.key (text_in a) → all ≡ ys ++ a ∷ []
    → AnnotationsMeant (ts ++ us) (keys ++ converted_key o) all
meant_more keys o ys all a d e new i same =
    let more = map_snoc {Y = List ℕ × List ℕ} (λ b. (b.key, text_in b)) ys a in
    let more_keys = map_snoc (λ b. b.key) ys a in
    let single = still-single (annotation_keys ys) a.key d.differ (rw (← d.same_keys) new) in
    rw (same, e) (record {
      mean = rw more (m.more_annotations d.mean i);
      same_keys = rw (d.same_keys, more_keys) refl;
      differ = rw more_keys single;
    })

pub annotations_meant : {src : List ℕ} {ts : List Lexeme} {xs : List (Cell Annotation)} (all : List AnnotationContent) → ReadsMany src (ReadsAnnotation src) ts xs → (gathering xs).all ≡ Ok all → AnnotationsMeant ts (gathering xs).keys all
annotations_meant all l.none h = rw (← ok_is h) (record { mean = m.no_annotation; same_keys = refl; differ = refl })
annotations_meant {src = src} all (l.more {ts = ts} {us = us} {xs = xs} {y = y} r s) h =
    let n = placed src us y in
    let step = fold_snoc gathering_with_node empty_gathering xs n in
    let last : (gathering_with_node (gathering xs) n).all ≡ Ok all = sym (ap (λ g. g.all) step) ∙ h in
    let d = more_ok (gathering xs).all (next (annotation_outcome n) (with_new_key (gathering xs).keys)) all last in
    let c = next_ok (annotation_outcome n) (with_new_key (gathering xs).keys) d.1 d.3 in
    let new = new_key (gathering xs).keys c.0 d.1 c.2 in
    let there = annotations_meant d.0 r d.2 in
    rw step (meant_more (gathering xs).keys (annotation_outcome n) d.0 all c.0 there c.1 new.0 (annotation_meant n.loc c.0 s c.1) (d.4 ∙ ap (λ b. d.0 ++ b ∷ []) (sym new.1)))

-- ---- as a policy keeps them

kept_text : (a : AnnotationContent) → value_of (kept_annotation a) ≡ text_in a
kept_text a = refl

keep_more : (f : FinMap text_order (List ℕ)) (g : FinMap text_order Kept) (all : List AnnotationContent) → with_values value_of g ≡ f → with_values value_of (fold with_annotation g all) ≡ fold (λ n p. insert n p.0 p.1) f (texts all)
keep_more f g [] h = h
keep_more f g (a ∷ all) h = keep_more (insert f a.key (text_in a)) (with_annotation g a) all (with-insert value_of g a.key (kept_annotation a) ∙ ap (λ n. insert n a.key (text_in a)) h)

pub kept_by_key : (all : List AnnotationContent) → with_values value_of (annotation_map all) ≡ by_key (texts all)
kept_by_key all = keep_more empty empty all (with-empty value_of)
