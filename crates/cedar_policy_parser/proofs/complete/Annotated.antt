-- Annotations whose keys are all different have trees that give them.
use Rattle.std.proofs.Common.{◌≡◌, ℕ, Bool, true, false, ◌||◌, ◌&&◌, List, [], ◌∷◌, ◌++◌, Option, Some, None, Ok, unwrap_or, refl, sym, ap, ◌∙◌}
use Rattle.std.specs.List.{list_any}
use Rattle.std.specs.Str.{bytes_eq}
use Rattle.std.specs.Map.{keys_of}
use Rattle.cedar_lexer.specs.Token.{Lexeme}
use Rattle.cedar_lexer.specs.declared.token.TokenKind.TheVariants as kind
use Rattle.cedar_expressions.specs.Keys.{repeats_key}
use Rattle.cedar_expressions.specs.Path.{is_identifier, is_unreserved_identifier, is_valid_identifier}
use Rattle.cedar_expressions.proofs.Repeats.{repeats-push}
use Rattle.cedar_syntax.specs.declared.loc.Loc.{Loc}
use Rattle.cedar_syntax.specs.declared.cst.Annotation.{Annotation}
use Rattle.cedar_syntax.specs.declared.cst.Ident.{Ident}
use Rattle.cedar_syntax.specs.declared.cst.Ident.TheVariants as ident
use Rattle.cedar_syntax.specs.declared.cst.Str.TheVariants as str
use Rattle.cedar_grammar.specs.grammar.LoosePolicies as l
use Rattle.cedar_grammar.specs.grammar.LoosePolicies.{ReadsAnnotation, ReadsMany}
use Rattle.cedar_grammar.specs.grammar.LooseWords as lw
use Rattle.cedar_grammar.specs.grammar.LooseWords.{ReadsAny}
use Rattle.cedar_grammar.specs.grammar.Place.{placed}
use Rattle.cedar_syntax.specs.tokens.Tokens.{Spot, one, between_quotes}
use Rattle.cedar_syntax.specs.trees.Trees.{Cell, annotation_of}
use Rattle.cedar_policy_conversion.specs.AnnotationKeys.{AnnotationContent, annotation_at, annotation_outcome, gathering_with_node, gathering, has_key, converted_key, empty_gathering, key_value_outcome, with_new_key}
use Rattle.cedar_conversion.specs.parts.Names.{any_ident, any_ident_of}
use Rattle.cedar_conversion.specs.outcome.Outcome.{Outcome, both, next, item_more}
use Rattle.cedar_policy_parser.specs.meaning.StrictPolicy as m
use Rattle.cedar_policy_parser.specs.meaning.StrictPolicy.{AreAnnotations, IsAnnotation, IsAnyWord}
use Rattle.cedar_conversion.specs.strict.StrictWords as w
use Rattle.cedar_conversion.proofs.Loops.{map_snoc}
use Rattle.cedar_policy_conversion.proofs.MappedValues.{fold_snoc}
use Rattle.cedar_conversion.proofs.Quoted.{text_expected}
use Rattle.cedar_policy_parser.proofs.sound.Annotated.{text_in, texts}

-- ---- keys

record AnyRead (ts : List Lexeme) (key : List ℕ) : Type 0 where
  word : Ident
  reads : ReadsAny ts word
  gives : (place : Option Loc) → any_ident_of place word ≡ Ok key

first_true : (a b : Bool) → (a && b) ≡ true → a ≡ true
first_true true b h = refl
first_true false b h = cc

any_identifier_read : (p : Spot) → is_identifier p.text ≡ true → AnyRead (one kind.Identifier p) p.text
any_identifier_read p h = record { word = ident.Ident p.text; reads = lw.any p refl; gives = λ place. rw h refl }

-- an identifier that a name may hold is spelled as one
spelled : (text : List ℕ) → is_unreserved_identifier text ≡ true → is_identifier text ≡ true
spelled text h = first_true (is_identifier text) _ (first_true (is_valid_identifier text) _ h)

any_read : {ts : List Lexeme} {key : List ℕ} → IsAnyWord ts key → AnyRead ts key
any_read (m.reserved p m.true_word) = record { word = ident.True; reads = lw.any p refl; gives = λ place. refl }
any_read (m.reserved p m.false_word) = record { word = ident.False; reads = lw.any p refl; gives = λ place. refl }
any_read (m.reserved p m.if_word) = record { word = ident.If; reads = lw.any p refl; gives = λ place. refl }
any_read (m.reserved p m.then_word) = record { word = ident.Then; reads = lw.any p refl; gives = λ place. refl }
any_read (m.reserved p m.else_word) = record { word = ident.Else; reads = lw.any p refl; gives = λ place. refl }
any_read (m.reserved p m.in_word) = record { word = ident.In; reads = lw.any p refl; gives = λ place. refl }
any_read (m.reserved p m.is_word) = record { word = ident.Is; reads = lw.any p refl; gives = λ place. refl }
any_read (m.reserved p m.has_word) = record { word = ident.Has; reads = lw.any p refl; gives = λ place. refl }
any_read (m.reserved p m.like_word) = record { word = ident.Like; reads = lw.any p refl; gives = λ place. refl }
any_read (m.unreserved (w.variable_word p w.principal)) = record { word = ident.Principal; reads = lw.any p refl; gives = λ place. refl }
any_read (m.unreserved (w.variable_word p w.action)) = record { word = ident.Action; reads = lw.any p refl; gives = λ place. refl }
any_read (m.unreserved (w.variable_word p w.resource)) = record { word = ident.Resource; reads = lw.any p refl; gives = λ place. refl }
any_read (m.unreserved (w.variable_word p w.context)) = record { word = ident.Context; reads = lw.any p refl; gives = λ place. refl }
any_read (m.unreserved (w.permit p)) = record { word = ident.Permit; reads = lw.any p refl; gives = λ place. refl }
any_read (m.unreserved (w.forbid p)) = record { word = ident.Forbid; reads = lw.any p refl; gives = λ place. refl }
any_read (m.unreserved (w.when p)) = record { word = ident.When; reads = lw.any p refl; gives = λ place. refl }
any_read (m.unreserved (w.unless p)) = record { word = ident.Unless; reads = lw.any p refl; gives = λ place. refl }
any_read (m.unreserved (w.identifier p h)) = any_identifier_read p (spelled p.text h)
any_read (m.any_identifier p h) = any_identifier_read p h

-- ---- one annotation

record AnnotationRead (src : List ℕ) (ts : List Lexeme) (key text : List ℕ) : Type 0 where
  tree : Annotation
  reads : ReadsAnnotation src ts tree
  string : Option (List ℕ)
  same : unwrap_or string [] ≡ text
  gives : (place : Option Loc) → key_value_outcome place tree ≡ Ok (annotation_at place (key, string))

pair_alone : (place : Option Loc) (o : Outcome (List ℕ)) (key : List ℕ) → o ≡ Ok key → next (both o (Ok None)) (λ p. Ok (annotation_at place p)) ≡ Ok (annotation_at place (key, None))
pair_alone place o key h = rw h refl

pair_with : (place : Option Loc) (o q : Outcome (List ℕ)) (key text : List ℕ) → o ≡ Ok key → q ≡ Ok text → next (both o (next q (λ t. Ok (Some t)))) (λ p. Ok (annotation_at place p)) ≡ Ok (annotation_at place (key, Some text))
pair_with place o q key text h k = rw (h, k) refl

annotation_read : (src : List ℕ) {ts : List Lexeme} {key text : List ℕ} → IsAnnotation ts key text → AnnotationRead src ts key text
annotation_read src (m.key_alone {ts = ts} {key = key} p i) =
    let d = any_read i in
    let n = placed src ts d.word in
    record { tree = annotation_of n None; reads = l.key_alone p d.reads; string = None; same = refl; gives = λ place. pair_alone place (any_ident n) key (d.gives n.loc) }
annotation_read src (m.with_text {ts = ts} {key = key} p o e i (w.string {text = text} q u)) =
    let d = any_read i in
    let n = placed src ts d.word in
    let y = placed src (one kind.StringLit q) (str.String (between_quotes q.text)) in
    record {
      tree = annotation_of n (Some y);
      reads = l.with_value p o q e d.reads;
      string = Some text;
      same = refl;
      gives = λ place. pair_with place (any_ident n) _ key text (d.gives n.loc) (text_expected place (between_quotes q.text) text u);
    }

-- ---- all of a policy

pub record AnnotationsRead (src : List ℕ) (ts : List Lexeme) (pairs : List (List ℕ × List ℕ)) : Type 0 where
  pub cells : List (Cell Annotation)
  pub reads : ReadsMany src (ReadsAnnotation src) ts cells
  pub all : List AnnotationContent
  pub gives : (gathering cells).all ≡ Ok all
  pub same_keys : (gathering cells).keys ≡ keys_of pairs
  pub same : texts all ≡ pairs

or_none : (a b : Bool) → (a || b) ≡ false → (a ≡ false) × (b ≡ false)
or_none true b h = cc
or_none false b h = (refl, h)

more_given : (o : Outcome (List AnnotationContent)) (x : Outcome AnnotationContent) (keys : List (List ℕ)) (ys : List AnnotationContent) (y : AnnotationContent) → o ≡ Ok ys → x ≡ Ok y → has_key keys y.key ≡ false → item_more o (next x (with_new_key keys)) ≡ Ok (ys ++ y ∷ [])
more_given o x keys ys y h k new = rw (h, k, new) refl

key_more : (keys : List (List ℕ)) (x : Outcome AnnotationContent) (y : AnnotationContent) → x ≡ Ok y → keys ++ converted_key x ≡ keys ++ y.key ∷ []
key_more keys x y h = rw h refl

last_text : (xs ys : List (List ℕ × List ℕ)) (key a b : List ℕ) → xs ≡ ys → a ≡ b → xs ++ (key, a) ∷ [] ≡ ys ++ (key, b) ∷ []
last_text xs ys key a b h k = rw (h, k) refl

pub annotations_read : (src : List ℕ) {ts : List Lexeme} {pairs : List (List ℕ × List ℕ)} → AreAnnotations ts pairs → repeats_key (keys_of pairs) ≡ false → AnnotationsRead src ts pairs
annotations_read src m.no_annotation differ = record { cells = []; reads = l.none; all = []; gives = refl; same_keys = refl; same = refl }
annotations_read src (m.more_annotations {us = us} {all = pairs} {key = key} {text = text} i j) differ =
    let keys = map_snoc (λ p. p.0) pairs (key, text) in
    let apart = or_none (repeats_key (keys_of pairs)) (list_any (bytes_eq key) (keys_of pairs)) (sym (ap repeats_key keys ∙ repeats-push (keys_of pairs) key) ∙ differ) in
    let c = annotations_read src i apart.0 in
    let d = annotation_read src j in
    let n = placed src us d.tree in
    let y = annotation_at n.loc (key, d.string) in
    let step = fold_snoc gathering_with_node empty_gathering c.cells n in
    let new : has_key (gathering c.cells).keys key ≡ false = ap (λ ks. has_key ks key) c.same_keys ∙ apart.1 in
    record {
      cells = c.cells ++ n ∷ [];
      reads = l.more c.reads d.reads;
      all = c.all ++ y ∷ [];
      gives = ap (λ g. g.all) step ∙ more_given (gathering c.cells).all (annotation_outcome n) (gathering c.cells).keys c.all y c.gives (d.gives n.loc) new;
      same_keys = ap (λ g. g.keys) step ∙ key_more (gathering c.cells).keys (annotation_outcome n) y (d.gives n.loc) ∙ ap (λ ks. ks ++ key ∷ []) c.same_keys ∙ sym keys;
      same = map_snoc (λ a. (a.key, text_in a)) c.all y ∙ last_text (texts c.all) pairs key (text_in y) text c.same d.same;
    }
