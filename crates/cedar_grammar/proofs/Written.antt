-- How the lexer's tokens are written: as their kind asks.
use Rattle.std.proofs.Common.{◌≡◌, ℕ, suc, ◌+◌, ◌<◌, ◌≤◌, true, List, [], ◌∷◌, ◌++◌, length, drop, codes, refl, sym, ap, ◌∙◌, append_assoc, arith}
use Rattle.std.specs.Char.{encode_utf8, digit_value, is_ascii_digit}
use Rattle.std.specs.List.{AllPass}
use Rattle.std.specs.Str.{IsUtf8}
use Rattle.std.specs.Str.Parse.{AllDigits, IsNumeral}
use Rattle.std.specs.Prelude.{nat_le}
use Rattle.std.proofs.lemmas.Bool.{and_parts, leb-true}
use Rattle.std.proofs.lemmas.Str.{digit_value_digit}
use Rattle.cedar_lexer.specs.Token.{Lexeme}
use Rattle.cedar_lexer.specs.declared.token.TokenKind.{TokenKind}
use Rattle.cedar_lexer.specs.declared.token.TokenKind.TheVariants as kind
use Rattle.cedar_lexer.specs.Spelling.{Spells, IsNumber, IsStringText, IsStringTail, closing, plain, escaped}
use Rattle.cedar_lexer.specs.Cut.{Layout, nothing, skip, token}
use Rattle.cedar_lexer.proofs.Cuts.{behind_skip, behind_token}
use Rattle.cedar_grammar.specs.grammar.WrittenTokens.{Written, IsWritten}

below : (d b : ℕ) → d + 48 ≡ b → b ≤ 57 → d < 10
below d b e h = omega arith

digit : (b : ℕ) → is_ascii_digit b ≡ true → digit_value b < 10
digit b h =
    let m = and_parts (nat_le 48 b) (nat_le b 57) h in
    below (digit_value b) b (digit_value_digit b (leb-true 48 b m.0, leb-true b 57 m.1)) (leb-true b 57 m.1)

digits : (bs : List ℕ) → AllPass is_ascii_digit bs → AllDigits 10 bs
digits [] h = tt
digits (b ∷ bs) h = (digit b (h 0 b (omega arith)), digits bs (λ k d l. h (suc k) d (omega arith)))

number_written : (text : List ℕ) → IsNumber text → IsNumeral 10 text
number_written [] h = absurd h
number_written (b ∷ bs) h = (omega arith, (digit b h.0, digits bs h.1))

tail_raw : {bs : List ℕ} → IsStringTail bs → (raw : List ℕ) × (bs ≡ raw ++ codes "\"")
tail_raw closing = ([], refl)
tail_raw (plain c bs s n m t) = let r = tail_raw t in (encode_utf8 c ++ r.0, ap (λ w. encode_utf8 c ++ w) r.1 ∙ sym (append_assoc (encode_utf8 c) r.0 (codes "\"")))
tail_raw (escaped c bs s t) =
    let r = tail_raw t in
    (codes "\\" ++ encode_utf8 c ++ r.0, ap (λ w. codes "\\" ++ encode_utf8 c ++ w) r.1 ∙ sym (append_assoc (codes "\\" ++ encode_utf8 c) r.0 (codes "\"")))

string_written : (text : List ℕ) → IsStringText text → (raw : List ℕ) × (text ≡ codes "\"" ++ raw ++ codes "\"")
string_written [] h = absurd h
string_written (b ∷ bs) h = let r = tail_raw h.1 in (r.0, ap (λ w. w ∷ bs) h.0 ∙ ap (λ w. codes "\"" ++ w) r.1)

spelled_written : (k : TokenKind) (text : List ℕ) → Spells k text → Written k text
spelled_written kind.Number text h = number_written text h
spelled_written kind.StringLit text h = string_written text h
spelled_written _ text h = tt

abbrev pub AllWritten : List Lexeme → Type 0
AllWritten [] = Unit {0}
AllWritten (t ∷ ts) = IsWritten t × AllWritten ts

pub all_written : {src : List ℕ} {i k : ℕ} {ts : List Lexeme} → Layout src i ts k → AllWritten ts
all_written nothing = tt
all_written (skip s more) = all_written more
all_written (token {t = t} s more) = (spelled_written t.kind t.text s.spelled.spells, all_written more)

-- one token alone
pub one_bounds : {src : List ℕ} {i k : ℕ} {t : Lexeme} → Layout src i (t ∷ []) k → i ≤ length src → IsUtf8 (drop i src) → (i < t.end) × (t.end ≤ length src)
one_bounds {src = src} (skip {i = i} {j = j} s more) h u =
    let b = behind_skip src i j u s in
    let c = one_bounds more b.2 b.0 in
    let a = b.1 in let d = c.0 in
    (omega arith, c.1)
one_bounds {src = src} (token {i = i} {t = t} s more) h u = let b = behind_token src i t u s in (b.1, b.2)
