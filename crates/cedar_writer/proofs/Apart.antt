-- Tokens taken apart where their words are: what holds of all tokens with these words.
use Rattle.std.proofs.Common.{◌≡◌, ℕ, List, [], ◌∷◌, ◌++◌, refl, sym, ap, ap₂, ◌∙◌, subst}
use Rattle.cedar_lexer.specs.declared.token.TokenKind.{TokenKind}
use Rattle.cedar_lexer.specs.Token.{Lexeme}
use Rattle.cedar_lexer.specs.Words.{TokenText, words_of}
use Rattle.cedar_syntax.specs.tokens.Tokens.{Spot, one}
use Rattle.cedar_writer.specs.WrittenWords.{alone}

pub record Halves (us : List Lexeme) (ws vs : List TokenText) : Type 0 where
  pub front : List Lexeme
  pub back : List Lexeme
  pub is : us ≡ front ++ back
  pub before : words_of front ≡ ws
  pub behind : words_of back ≡ vs

first_is : {w v : TokenText} {ws vs : List TokenText} → w ∷ ws ≡ v ∷ vs → w ≡ v
first_is e = cc

rest_is : {w v : TokenText} {ws vs : List TokenText} → w ∷ ws ≡ v ∷ vs → ws ≡ vs
rest_is e = cc

split : (ws vs : List TokenText) (us : List Lexeme) → words_of us ≡ ws ++ vs → Halves us ws vs
split [] vs us e = record { front = []; back = us; is = refl; before = refl; behind = e }
split (w ∷ ws) vs [] e = absurd (cc)
split (w ∷ ws) vs (t ∷ ts) e =
    let h = split ws vs ts (rest_is e) in
    record { front = t ∷ h.front; back = h.back; is = ap (λ xs. t ∷ xs) h.is; before = ap₂ (λ (a : TokenText) (b : List TokenText). a ∷ b) (first_is e) h.before; behind = h.behind }

record Single (us : List Lexeme) (k : TokenKind) (text : List ℕ) : Type 0 where
  spot : Spot
  is : us ≡ one k spot
  reads : spot.text ≡ text

single : (k : TokenKind) (text : List ℕ) (us : List Lexeme) → words_of us ≡ alone k text → Single us k text
single k text [] e = absurd (cc)
single k text (t ∷ []) e = record {
  spot = record { start = t.start; end = t.end; text = t.text };
  is = ap (λ j. record { kind = j; start = t.start; end = t.end; text = t.text } ∷ []) (ap (λ (v : TokenText). v.kind) (first_is e));
  reads = ap (λ (v : TokenText). v.text) (first_is e);
}
single k text (t ∷ u ∷ ts) e = absurd (cc)

abbrev pub Read : List TokenText → (List Lexeme → Type 0) → Type 0
Read ws P = (us : List Lexeme) → words_of us ≡ ws → P us

-- no word
pub nothing : (R : List Lexeme → Type 0) → R [] → Read [] R
nothing R r [] e = r
nothing R r (t ∷ ts) e = absurd (cc)

-- one word
pub token : (R : List Lexeme → Type 0) (k : TokenKind) (text : List ℕ) → ((p : Spot) → p.text ≡ text → R (one k p)) → Read (alone k text) R
token R k text rule us e = let t = single k text us e in subst R (sym t.is) (rule t.spot t.reads)

-- words, and others behind them
pub beside : (R Q : List Lexeme → Type 0) {ws vs : List TokenText} → Read vs Q → Read ws (λ xs. (ys : List Lexeme) → Q ys → R (xs ++ ys)) → Read (ws ++ vs) R
beside R Q {ws = ws} {vs = vs} q r us e =
    let s = split ws vs us e in
    subst R (sym s.is) (r s.front s.before s.back (q s.back s.behind))

-- words, and one word behind them
pub put : (R : List Lexeme → Type 0) {ws : List TokenText} (k : TokenKind) (text : List ℕ) → Read ws (λ xs. (p : Spot) → p.text ≡ text → R (xs ++ one k p)) → Read (ws ++ alone k text) R
put R {ws = ws} k text r us e =
    let s = split ws (alone k text) us e in
    let t = single k text s.back s.behind in
    subst R (sym (s.is ∙ ap (λ ys. s.front ++ ys) t.is)) (r s.front s.before t.spot t.reads)
