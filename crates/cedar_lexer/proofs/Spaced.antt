-- Spellings with one space between two are cut into just these.
use Rattle.std.proofs.Common.{◌≡◌, ℕ, ◌+◌, List, [], ◌∷◌, ◌++◌, length, drop, refl, sym, ap, ◌∙◌, subst, arith, append_assoc, append-nil}
use Rattle.std.proofs.lemmas.List.{length-append, drop-drop, drop_at}
use Rattle.std.proofs.lemmas.Str.{encode_ascii}
use Rattle.cedar_lexer.specs.declared.token.TokenKind.{TokenKind}
use Rattle.cedar_lexer.specs.Token.{Lexeme}
use Rattle.cedar_lexer.specs.Cut.{IsSkip, space, IsSkipAt, Layout, nothing, skip, token, Cuts}
use Rattle.cedar_lexer.specs.Words.{TokenText, words_of, texts_of, AreSpelled, spaced_tokens, tokens_text}
use Rattle.cedar_lexer.proofs.Ends.{EndsToken, at_end, broken, space_breaks, scan_ends, scanned}

-- the token of a word, from here on
abbrev pub token_of : ℕ → TokenText → Lexeme
token_of i w = record { kind = w.kind; start = i; end = i + length w.text; text = w.text }

-- and the tokens of words with a space before each but the first
pub tokens_from : ℕ → List TokenText → List Lexeme
tokens_from i [] = []
tokens_from i (w ∷ ws) = token_of i w ∷ tokens_from (i + length w.text + 1) ws

pub words_are : (i : ℕ) (ws : List TokenText) → words_of (tokens_from i ws) ≡ ws
unfolding tokens_from
words_are i [] = refl
words_are i (w ∷ ws) = ap (λ vs. w ∷ vs) (words_are (i + length w.text + 1) ws)

pub behind : (source : List ℕ) (i : ℕ) (text after : List ℕ) → drop i source ≡ text ++ after → drop (i + length text) source ≡ after
behind source i text after stands = sym (drop-drop (length text) i source) ∙ (ap (drop (length text)) stands ∙ drop_at text after (length text) refl)

pub space_at : (source : List ℕ) (i : ℕ) (rest : List ℕ) → drop i source ≡ 32 ∷ rest → IsSkipAt source i (i + 1)
space_at source i rest stands = record {
  text = 32 ∷ [];
  after = rest;
  stands = stands;
  skips = subst (λ xs. IsSkip xs rest) (encode_ascii 32 (omega arith)) (space 32 refl);
  ends = refl;
}

-- what stands behind a word ends it
ends_word : (k : TokenKind) (ts : List (List ℕ)) (after : List ℕ) → ((j : TokenKind) → EndsToken j after) → EndsToken k (spaced_tokens ts ++ after)
ends_word k [] after e = e k
ends_word k (t ∷ ts) after e = broken 32 (t ++ spaced_tokens ts ++ after) space_breaks

-- the words, and then something that ends the last
pub words_laid : (source : List ℕ) (w : TokenText) (ws : List TokenText) (i : ℕ) (after : List ℕ) → AreSpelled (w ∷ ws) → ((j : TokenKind) → EndsToken j after) → drop i source ≡ w.text ++ (spaced_tokens (texts_of ws) ++ after)
    → Layout source i (tokens_from i (w ∷ ws)) (i + length (w.text ++ spaced_tokens (texts_of ws)))
unfolding tokens_from
words_laid source w [] i after s e stands =
    subst (Layout source i (token_of i w ∷ [])) (ap (λ t. i + length t) (sym (append-nil w.text)))
    (token (scanned source i (token_of i w) after stands s.0 (scan_ends w.kind w.text after s.0 (e w.kind)) refl refl) nothing)
words_laid source w (v ∷ vs) i after s e stands =
    let rest = v.text ++ (spaced_tokens (texts_of vs) ++ after) in
    let next : drop (i + length w.text) source ≡ 32 ∷ (v.text ++ spaced_tokens (texts_of vs)) ++ after = behind source i w.text (32 ∷ (v.text ++ spaced_tokens (texts_of vs)) ++ after) stands in
    let feed : drop (i + length w.text) source ≡ 32 ∷ rest = next ∙ ap (λ xs. 32 ∷ xs) (append_assoc v.text (spaced_tokens (texts_of vs)) after) in
    let on : drop (i + length w.text + 1) source ≡ rest = behind source (i + length w.text) (32 ∷ []) rest feed in
    let far : i + length w.text + 1 + length (v.text ++ spaced_tokens (texts_of vs)) ≡ i + length (w.text ++ (32 ∷ (v.text ++ spaced_tokens (texts_of vs)))) =
    omega (arith, length-append w.text (32 ∷ (v.text ++ spaced_tokens (texts_of vs)))) in
    subst (Layout source i (tokens_from i (w ∷ v ∷ vs))) far
    (token (scanned source i (token_of i w) (spaced_tokens (texts_of (v ∷ vs)) ++ after) stands s.0 (scan_ends w.kind w.text (spaced_tokens (texts_of (v ∷ vs)) ++ after) s.0 (ends_word w.kind (texts_of (v ∷ vs)) after e)) refl refl)
    (skip (space_at source (i + length w.text) rest feed) (words_laid source v vs (i + length w.text + 1) after s.1 e on)))

pub words_cut : (ws : List TokenText) → AreSpelled ws → Cuts (tokens_text (texts_of ws)) (tokens_from 0 ws)
unfolding tokens_from
words_cut [] s = nothing
words_cut (w ∷ ws) s =
    let text = w.text ++ spaced_tokens (texts_of ws) in
    subst (Layout text 0 (tokens_from 0 (w ∷ ws))) (omega arith)
    (words_laid text w ws 0 [] s (λ j. at_end) (ap (λ xs. w.text ++ xs) (sym (append-nil (spaced_tokens (texts_of ws))))))

pub words_are_cut : (ws : List TokenText) → AreSpelled ws → (ts : List Lexeme) × Cuts (tokens_text (texts_of ws)) ts × (words_of ts ≡ ws)
words_are_cut ws s = (tokens_from 0 ws, words_cut ws s, words_are 0 ws)

-- some words or none
pub some_laid : (source : List ℕ) (ws : List TokenText) (i : ℕ) (after : List ℕ) → AreSpelled ws → ((j : TokenKind) → EndsToken j after) → drop i source ≡ tokens_text (texts_of ws) ++ after → Layout source i (tokens_from i ws) (i + length (tokens_text (texts_of ws)))
unfolding tokens_from
some_laid source [] i after s e stands = subst (Layout source i []) (omega arith) nothing
some_laid source (w ∷ ws) i after s e stands = words_laid source w ws i after s e (stands ∙ append_assoc w.text (spaced_tokens (texts_of ws)) after)

-- a line feed
pub feed_at : (source : List ℕ) (i : ℕ) (rest : List ℕ) → drop i source ≡ 10 ∷ rest → IsSkipAt source i (i + 1)
feed_at source i rest stands = record {
  text = 10 ∷ [];
  after = rest;
  stands = stands;
  skips = subst (λ xs. IsSkip xs rest) (encode_ascii 10 (omega arith)) (space 10 refl);
  ends = refl;
}
