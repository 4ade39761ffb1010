-- A text for each list of kinds: a spelling of each kind, with a space behind it.
use Rattle.std.proofs.Common.{◌≡◌, ℕ, ◌+◌, ◌<◌, true, List, [], ◌∷◌, ◌++◌, codes, length, drop, take, refl, sym, ap, ◌∙◌, subst, arith, Some}
use Rattle.std.specs.List.{list_all}
use Rattle.std.specs.Char.{is_ascii}
use Rattle.std.specs.Str.{IsUtf8}
use Rattle.std.proofs.lemmas.Bool.{ltb-true}
use Rattle.std.proofs.lemmas.List.{length-append, drop-drop, drop_at, take_at}
use Rattle.std.proofs.lemmas.List.Elements.{All-weaker}
use Rattle.std.proofs.lemmas.List.Sums.{AllPass-from_list_all}
use Rattle.std.proofs.lemmas.Str.{IsUtf8-from_ascii, IsUtf8-append, encode_ascii}
use Rattle.std.proofs.lemmas.Str.Ascii.{IsAscii-from_all}
use Rattle.cedar_lexer.specs.Cut.{IsSkip, space, IsSkipAt, IsTokenAt, Layout, nothing, skip, token}
use Rattle.cedar_lexer.specs.Scan.{spelling}
use Rattle.cedar_lexer.specs.Token.{Lexeme}
use Rattle.cedar_lexer.specs.declared.token.TokenKind.{TokenKind}
use Rattle.cedar_lexer.specs.declared.token.TokenKind.TheVariants as kind
use Rattle.cedar_lexer.proofs.Cuts.{token_found}
use Rattle.cedar_grammar.specs.grammar.Sentences.{kinds}
use Rattle.cedar_syntax.specs.tokens.Tokens.{fits}

-- ---- one kind

-- a text which the scan takes for this kind where a space stands behind it
record SpelledBy (k : TokenKind) : Type 0 where
  text : List ℕ
  ascii : list_all is_ascii text ≡ true
  scanned : (rest : List ℕ) → spelling (text ++ 32 ∷ rest) ≡ Some (k, length text)

abbrev by : {k : TokenKind} (text : List ℕ) → list_all is_ascii text ≡ true → ((rest : List ℕ) → spelling (text ++ 32 ∷ rest) ≡ Some (k, length text)) → SpelledBy k
by text a s = record { text = text; ascii = a; scanned = s }

abbrev spelled_by : (k : TokenKind) → SpelledBy k
spelled_by kind.True = by (codes "true") refl (λ rest. refl)
spelled_by kind.False = by (codes "false") refl (λ rest. refl)
spelled_by kind.If = by (codes "if") refl (λ rest. refl)
spelled_by kind.Permit = by (codes "permit") refl (λ rest. refl)
spelled_by kind.Forbid = by (codes "forbid") refl (λ rest. refl)
spelled_by kind.When = by (codes "when") refl (λ rest. refl)
spelled_by kind.Unless = by (codes "unless") refl (λ rest. refl)
spelled_by kind.In = by (codes "in") refl (λ rest. refl)
spelled_by kind.Has = by (codes "has") refl (λ rest. refl)
spelled_by kind.Like = by (codes "like") refl (λ rest. refl)
spelled_by kind.Is = by (codes "is") refl (λ rest. refl)
spelled_by kind.Then = by (codes "then") refl (λ rest. refl)
spelled_by kind.Else = by (codes "else") refl (λ rest. refl)
spelled_by kind.Principal = by (codes "principal") refl (λ rest. refl)
spelled_by kind.Action = by (codes "action") refl (λ rest. refl)
spelled_by kind.Resource = by (codes "resource") refl (λ rest. refl)
spelled_by kind.Context = by (codes "context") refl (λ rest. refl)
spelled_by kind.PrincipalSlot = by (codes "?principal") refl (λ rest. refl)
spelled_by kind.ResourceSlot = by (codes "?resource") refl (λ rest. refl)
spelled_by kind.OtherSlot = by (codes "?a") refl (λ rest. refl)
spelled_by kind.Identifier = by (codes "a") refl (λ rest. refl)
spelled_by kind.Number = by (codes "0") refl (λ rest. refl)
spelled_by kind.StringLit = by (codes "\"\"") refl (λ rest. refl)
spelled_by kind.At = by (codes "@") refl (λ rest. refl)
spelled_by kind.Dot = by (codes ".") refl (λ rest. refl)
spelled_by kind.Comma = by (codes ",") refl (λ rest. refl)
spelled_by kind.Semicolon = by (codes ";") refl (λ rest. refl)
spelled_by kind.Colon = by (codes ":") refl (λ rest. refl)
spelled_by kind.ColonColon = by (codes "::") refl (λ rest. refl)
spelled_by kind.OpenParen = by (codes "(") refl (λ rest. refl)
spelled_by kind.CloseParen = by (codes ")") refl (λ rest. refl)
spelled_by kind.OpenBrace = by (codes "{") refl (λ rest. refl)
spelled_by kind.CloseBrace = by (codes "}") refl (λ rest. refl)
spelled_by kind.OpenBracket = by (codes "[") refl (λ rest. refl)
spelled_by kind.CloseBracket = by (codes "]") refl (λ rest. refl)
spelled_by kind.EqEq = by (codes "==") refl (λ rest. refl)
spelled_by kind.NotEq = by (codes "!=") refl (λ rest. refl)
spelled_by kind.Less = by (codes "<") refl (λ rest. refl)
spelled_by kind.LessEq = by (codes "<=") refl (λ rest. refl)
spelled_by kind.GreaterEq = by (codes ">=") refl (λ rest. refl)
spelled_by kind.Greater = by (codes ">") refl (λ rest. refl)
spelled_by kind.Eq = by (codes "=") refl (λ rest. refl)
spelled_by kind.OrOr = by (codes "||") refl (λ rest. refl)
spelled_by kind.AndAnd = by (codes "&&") refl (λ rest. refl)
spelled_by kind.Plus = by (codes "+") refl (λ rest. refl)
spelled_by kind.Minus = by (codes "-") refl (λ rest. refl)
spelled_by kind.Star = by (codes "*") refl (λ rest. refl)
spelled_by kind.Slash = by (codes "/") refl (λ rest. refl)
spelled_by kind.Percent = by (codes "%") refl (λ rest. refl)
spelled_by kind.Bang = by (codes "!") refl (λ rest. refl)

number_fits : (k : TokenKind) → k ≡ kind.Number → fits (spelled_by k).text ≡ true
number_fits k e = subst (λ k. fits (spelled_by k).text ≡ true) (sym e) refl

pub ascii_text : (text : List ℕ) → list_all is_ascii text ≡ true → IsUtf8 text
ascii_text text h = IsUtf8-from_ascii text (IsAscii-from_all text (All-weaker (λ b. is_ascii b ≡ true) (λ b. b < 128) (λ b t. ltb-true b 128 t) text (AllPass-from_list_all is_ascii text h)))

-- ---- many

pub text_of : List TokenKind → List ℕ
text_of [] = []
text_of (k ∷ ks) = (spelled_by k).text ++ 32 ∷ text_of ks

-- the token of this kind from here on, and those of these kinds
abbrev lexeme : (k : TokenKind) → ℕ → SpelledBy k → Lexeme
lexeme k i s = record { kind = k; start = i; end = i + length s.text; text = s.text }

pub tokens_from : ℕ → List TokenKind → List Lexeme
tokens_from i [] = []
tokens_from i (k ∷ ks) = lexeme k i (spelled_by k) ∷ tokens_from (i + length (spelled_by k).text + 1) ks

utf8_spaced : (text rest : List ℕ) → IsUtf8 text → IsUtf8 rest → IsUtf8 (text ++ 32 ∷ rest)
utf8_spaced text rest t r = IsUtf8-append text (32 ∷ rest) t (IsUtf8-append (32 ∷ []) rest (ascii_text (32 ∷ []) refl) r)

pub text_utf8 : (ks : List TokenKind) → IsUtf8 (text_of ks)
unfolding text_of
text_utf8 [] = ascii_text [] refl
text_utf8 (k ∷ ks) = utf8_spaced (spelled_by k).text (text_of ks) (ascii_text (spelled_by k).text (spelled_by k).ascii) (text_utf8 ks)

-- the source behind a front that stands at i
behind : (source : List ℕ) (i : ℕ) (text after : List ℕ) → drop i source ≡ text ++ after → drop (i + length text) source ≡ after
behind source i text after stands = sym (drop-drop (length text) i source) ∙ (ap (drop (length text)) stands ∙ drop_at text after (length text) refl)

-- a spelling with a space behind it is a token
token_at : (source : List ℕ) (i : ℕ) (k : TokenKind) (s : SpelledBy k) (rest : List ℕ) → IsUtf8 rest → drop i source ≡ s.text ++ 32 ∷ rest → IsTokenAt source i (lexeme k i s)
token_at source i k s rest u stands =
    let text : take (length s.text) (drop i source) ≡ s.text = ap (take (length s.text)) stands ∙ take_at s.text (32 ∷ rest) (length s.text) refl in
    let utf8 : IsUtf8 (drop i source) = subst IsUtf8 (sym stands) (utf8_spaced s.text rest (ascii_text s.text s.ascii) u) in
    subst (λ x. IsTokenAt source i record { kind = k; start = i; end = i + length s.text; text = x }) text
    (token_found source i k (length s.text) utf8 (ap spelling stands ∙ s.scanned rest))

-- and the space is a skip
space_at : (source : List ℕ) (i : ℕ) (rest : List ℕ) → drop i source ≡ 32 ∷ rest → IsSkipAt source i (i + 1)
space_at source i rest stands = record {
  text = 32 ∷ [];
  after = rest;
  stands = stands;
  skips = subst (λ xs. IsSkip xs rest) (encode_ascii 32 (omega arith)) (space 32 refl);
  ends = refl;
}

one_more : (source : List ℕ) (i : ℕ) (k : TokenKind) (s : SpelledBy k) (rest : List ℕ) (ts : List Lexeme) → IsUtf8 rest → drop i source ≡ s.text ++ 32 ∷ rest → length source ≡ i + length (s.text ++ 32 ∷ rest) →
    (drop (i + length s.text + 1) source ≡ rest → length source ≡ i + length s.text + 1 + length rest → Layout source (i + length s.text + 1) ts (length source)) → Layout source i (lexeme k i s ∷ ts) (length source)
one_more source i k s rest ts u stands size more =
    let next : drop (i + length s.text) source ≡ 32 ∷ rest = behind source i s.text (32 ∷ rest) stands in
    let onward = more (behind source (i + length s.text) (32 ∷ []) rest next) (omega (arith, size, length-append s.text (32 ∷ rest))) in
    token (token_at source i k s rest u stands) (skip (space_at source (i + length s.text) rest next) onward)

pub text_laid : (source : List ℕ) (ks : List TokenKind) (i : ℕ) → drop i source ≡ text_of ks → length source ≡ i + length (text_of ks) → Layout source i (tokens_from i ks) (length source)
unfolding text_of tokens_from
text_laid source [] i stands size = subst (Layout source i []) (omega (arith, size)) nothing
text_laid source (k ∷ ks) i stands size = one_more source i k (spelled_by k) (text_of ks) (tokens_from (i + length (spelled_by k).text + 1) ks) (text_utf8 ks) stands size (λ at more. text_laid source ks (i + length (spelled_by k).text + 1) at more)

pub kinds_are : (i : ℕ) (ks : List TokenKind) → kinds (tokens_from i ks) ≡ ks
unfolding tokens_from
kinds_are i [] = refl
kinds_are i (k ∷ ks) = ap (λ ks. k ∷ ks) (kinds_are (i + length (spelled_by k).text + 1) ks)

-- 64 bits hold each number among these tokens
abbrev pub NumbersFit : List Lexeme → Type 0
NumbersFit [] = Unit {0}
NumbersFit (t ∷ ts) = (t.kind ≡ kind.Number → fits t.text ≡ true) × NumbersFit ts

pub all_fit : (i : ℕ) (ks : List TokenKind) → NumbersFit (tokens_from i ks)
unfolding tokens_from
all_fit i [] = tt
all_fit i (k ∷ ks) = (number_fits k, all_fit (i + length (spelled_by k).text + 1) ks)
