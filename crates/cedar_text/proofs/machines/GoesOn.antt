-- A text that is laid out into tokens with which a sentence begins goes on behind a line feed,
-- with spellings of the kinds with which the sentence does.
use Rattle.std.proofs.Common.{◌≡◌, ℕ, ◌+◌, List, [], ◌∷◌, ◌++◌, Option, Some, length, drop, take, refl, sym, ◌∙◌, ap, subst, arith}
use Rattle.std.specs.Str.{IsUtf8}
use Rattle.std.proofs.lemmas.List.{length-append, drop-drop, drop_at, take_at}
use Rattle.std.proofs.lemmas.Str.{IsUtf8-append, IsUtf8-take, encode_ascii}
use Rattle.cedar_lexer.specs.Cut.{IsSkip, space, IsSkipAt, Layout, skip, Cuts}
use Rattle.cedar_lexer.specs.Token.{Lexeme}
use Rattle.cedar_lexer.specs.declared.token.TokenKind.{TokenKind}
use Rattle.cedar_lexer.proofs.Cuts.{laid_on}
use Rattle.cedar_lexer.proofs.Runs.{stand_in_order}
use Rattle.cedar_grammar.specs.grammar.Grammar.{Rule, IsNodeOf}
use Rattle.cedar_grammar.specs.grammar.Place.{placed_or_start}
use Rattle.cedar_grammar.specs.grammar.Sentences.{kinds, Starts}
use Rattle.cedar_syntax.specs.trees.Trees.{Cell}
use Rattle.cedar_grammar.specs.machines.Machine.{Answer, next, ended, refused, too_large, Machine, answer_state, steps, AnswersRightly, IsParser, Shapes}
use Rattle.cedar_grammar.proofs.machines.Laws.{none_some, steps-none, kinds-append, comes}
use Rattle.cedar_text.specs.GoesOn.{GoesOnInText}
use Rattle.cedar_lexer.proofs.Joints.{laid_bytes, laid_end, laid_stands, laid_stays}
use Rattle.cedar_text.proofs.KindTexts.{NumbersFit, ascii_text, text_of, text_utf8, tokens_from, text_laid, kinds_are, all_fit}
use Rattle.cedar_text.proofs.machines.StandsInText.{Ends, shapes_end, has_tree}

-- ---- the text

-- behind the line feed stand spellings of the kinds
lines : (source : List ℕ) (i : ℕ) (front : List ℕ) (ks : List TokenKind) → source ≡ front ++ 10 ∷ text_of ks → i ≡ length front → Layout source i (tokens_from (i + 1) ks) (length source)
lines source i front ks is size =
    let here : drop i source ≡ 10 ∷ text_of ks = ap (drop i) is ∙ drop_at front (10 ∷ text_of ks) i (sym size) in
    let next : drop (i + 1) source ≡ text_of ks = sym (drop-drop 1 i source) ∙ ap (drop 1) here in
    let feed : IsSkipAt source i (i + 1) = record {
      text = 10 ∷ [];
      after = text_of ks;
      stands = here;
      skips = subst (λ xs. IsSkip xs (text_of ks)) (encode_ascii 10 (omega arith)) (space 10 refl);
      ends = refl;
    } in
    skip feed (text_laid source ks (i + 1) next (omega (arith, size, ap length is, length-append front (10 ∷ text_of ks))))

goes_behind : (text : List ℕ) (ts : List Lexeme) (place : ℕ) (ks : List TokenKind) → IsUtf8 text → (l : Layout text 0 ts place) → Cuts (take place text ++ 10 ∷ text_of ks) (ts ++ tokens_from (place + 1) ks)
goes_behind text ts place ks u l =
    let size : place ≡ length (laid_bytes l) = omega (arith, laid_end l) in
    let front : take place text ≡ laid_bytes l = ap (take place) (laid_stands l) ∙ take_at (laid_bytes l) (drop place text) place (sym size) in
    let is : take place text ++ 10 ∷ text_of ks ≡ laid_bytes l ++ 10 ∷ text_of ks = ap (λ xs. xs ++ 10 ∷ text_of ks) front in
    laid_on (laid_stays l u (take place text ++ 10 ∷ text_of ks) (text_of ks) is) (lines (take place text ++ 10 ∷ text_of ks) place (laid_bytes l) ks is size)

behind_utf8 : (text : List ℕ) (ts : List Lexeme) (place : ℕ) (ks : List TokenKind) → IsUtf8 text → Layout text 0 ts place → IsUtf8 (take place text ++ 10 ∷ text_of ks)
behind_utf8 text ts place ks u l =
    IsUtf8-append (take place text) (10 ∷ text_of ks) (IsUtf8-take text place u (stand_in_order text ts place u l).1) (IsUtf8-append (10 ∷ []) (text_of ks) (ascii_text (10 ∷ []) refl) (text_utf8 ks))

-- ---- its tree

one_fits : {S T : Type 0} (m : Machine Lexeme S T) (t : Lexeme) (ts : List Lexeme) (r : S) (a : Answer S T) (o : Option T) → AnswersRightly t a o → ((s : S) → steps m (Some s) ts ≡ Some r → NumbersFit ts) →
    steps m (answer_state a) ts ≡ Some r → NumbersFit (t ∷ ts)
one_fits m t ts r (next s) o v more e = (v, more s e)
one_fits m t ts r (ended x) o v more e = absurd (none_some (steps-none m ts) e)
one_fits m t ts r refused o v more e = absurd (none_some (steps-none m ts) e)
one_fits m t ts r too_large o v more e = absurd (none_some (steps-none m ts) e)

-- numbers that are taken fit
taken_fit : {S T : Type 0} {m : Machine Lexeme S T} {R : List Lexeme → T → Type 0} → IsParser m R → (ts : List Lexeme) (s r : S) → steps m (Some s) ts ≡ Some r → NumbersFit ts
taken_fit d [] s r e = tt
taken_fit {m = m} d (t ∷ ts) s r e = one_fits m t ts r (m.step s t) (m.finish s) (d.answers s t) (λ s e. taken_fit d ts s r e) e

both_fit : (ts us : List Lexeme) → NumbersFit ts → NumbersFit us → NumbersFit (ts ++ us)
both_fit [] us f g = g
both_fit (t ∷ ts) us f g = (f.0, both_fit ts us f.1 g)

starts_node : {T : Type 0} (R : Rule T) (src : List ℕ) (ts : List Lexeme) → Starts (R src) ts → Starts (IsNodeOf R src) ts
starts_node R src ts h = (h.0, (placed_or_start src (ts ++ h.0) h.1.0, record { tree = h.1.0; reads = h.1.1; is = refl }))

pub goes_on : {S T U V : Type 0} {R : Rule T} (m : List ℕ → Machine Lexeme S (Cell T)) (n : Machine TokenKind U V) (f : S → U) (g : Cell T → V) → ((src : List ℕ) → IsParser (m src) (IsNodeOf R src)) →
    ((src : List ℕ) → Shapes (m src) n f g) → GoesOnInText R
goes_on {R = R} m n f g d i text ts place ks u l st h =
    let us = tokens_from (place + 1) ks in
    let source = take place text ++ 10 ∷ text_of ks in
    let c = comes (d text) ts (starts_node R text ts st) in
    let fit : NumbersFit (ts ++ us) = both_fit ts us (taken_fit (d text) ts (m text).start c.0 c.1) (all_fit (place + 1) ks) in
    let same : kinds (ts ++ us) ≡ kinds ts ++ ks = kinds-append ts us ∙ ap (λ ks. kinds ts ++ ks) (kinds_are (place + 1) ks) in
    let e : Ends n (kinds h.tokens) = shapes_end f g (d text) (i text) h.tokens (placed_or_start text h.tokens h.tree) record { tree = h.tree; reads = h.reads; is = refl } in
    let k = has_tree f g (d source) (i source) (ts ++ us) fit (subst (Ends n) (h.spelled ∙ sym same) e) in
    record { rest = 10 ∷ text_of ks; utf8 = behind_utf8 text ts place ks u l; behind = us; cut = goes_behind text ts place ks u l; spelled = kinds_are (place + 1) ks; tree = (k.1.tree, k.1.reads) }
