-- White space or a comment straight before a token, and parentheses around tokens: the other
-- tokens keep their words.
use Rattle.std.proofs.Common.{◌≡◌, ℕ, ◌+◌, true, List, [], ◌∷◌, ◌++◌, map, length, drop, refl, sym, ap, ap₂, ◌∙◌, subst, arith, append_assoc, Some, inl, inr, ◌<◌, ◌≤◌}
use Rattle.std.specs.Str.{IsUtf8}
use Rattle.std.specs.Prelude.{IsTrue}
use Rattle.std.proofs.lemmas.List.{length-append, drop_at}
use Rattle.cedar_lexer.specs.Cut.{is_line_end, EndsLine, IsSkip, space, comment, IsTokenAt, Layout, nothing, skip, token, Cuts}
use Rattle.cedar_lexer.specs.Scan.{spelling}
use Rattle.cedar_lexer.specs.Spelling.{Spells}
use Rattle.cedar_lexer.specs.Token.{Lexeme}
use Rattle.cedar_lexer.specs.declared.token.TokenKind.{TokenKind}
use Rattle.cedar_lexer.specs.declared.token.TokenKind.TheVariants as kind
use Rattle.cedar_lexer.proofs.Cuts.{behind_skip, behind_token, laid_on}
use Rattle.cedar_lexer.specs.Words.{TokenText, written, words_of, open_word, close_word}
use Rattle.cedar_lexer.proofs.Ends.{Breaks, EndsToken, broken, slashed, scan_ends, scanned}
use Rattle.std.specs.Char.{encode_utf8, is_whitespace}
use Rattle.std.specs.List.{All}
use Rattle.std.proofs.lemmas.Bool.{cases_lt}
use Rattle.std.proofs.lemmas.Bool.Decides.{nat_tests}
use Rattle.std.proofs.lemmas.List.Elements.{All-head}
use Rattle.std.proofs.lemmas.Str.{encode_ascii, length-encode, len_utf8_bounds}
use Rattle.cedar_lexer.proofs.Bytes.{encode_high, same_front}
use Rattle.cedar_lexer.proofs.Found.{visible}
use Rattle.cedar_lexer.proofs.Skips.{spelling_some}
use Rattle.cedar_lexer.specs.Varied as varied
use Rattle.cedar_lexer.specs.Varied.{IsPadding, BeginsAt, NoSlashBefore, FitsBefore, last_end}
use Rattle.cedar_lexer.proofs.Joints.{same, scan_alike, scan_here, laid_bytes, laid_end, laid_stands, behind}

-- ---- tokens further on

abbrev pub moved : ℕ → Lexeme → Lexeme
moved n t = record { kind = t.kind; start = t.start + n; end = t.end + n; text = t.text }

abbrev pub all_moved : ℕ → List Lexeme → List Lexeme
all_moved n ts = map (moved n) ts

pub moved_words : (n : ℕ) (ts : List Lexeme) → words_of (all_moved n ts) ≡ words_of ts
moved_words n [] = refl
moved_words n (t ∷ ts) = ap (λ ws. written t ∷ ws) (moved_words n ts)

pub shifted : {source : List ℕ} {ts : List Lexeme} {i k : ℕ} → Layout source i ts k → (target : List ℕ) (n : ℕ) → drop (i + n) target ≡ drop i source → Layout target (i + n) (all_moved n ts) (k + n)
shifted nothing target n e = nothing
shifted {source = source} (skip {i = i} {j = j} s more) target n e =
    let here : drop (i + n) target ≡ s.text ++ s.after = e ∙ s.stands in
    let ends : j + n ≡ i + n + length s.text = omega (arith, s.ends) in
    skip record { text = s.text; after = s.after; stands = here; skips = s.skips; ends = ends }
    (shifted more target n (behind target (i + n) (j + n) s.text s.after here ends ∙ sym (behind source i j s.text s.after s.stands s.ends)))
shifted {source = source} (token {i = i} {t = t} s more) target n e =
    let here : drop (i + n) target ≡ t.text ++ s.after = e ∙ s.stands in
    let ends : t.end + n ≡ i + n + length t.text = omega (arith, s.ends) in
    token record { after = s.after; stands = here; spelled = s.spelled; longest = λ k text rest h g. s.longest k text rest (sym e ∙ h) g; starts = omega (arith, s.starts); ends = ends }
    (shifted more target n (behind target (i + n) (t.end + n) t.text s.after here ends ∙ sym (behind source i t.end t.text s.after s.stands s.ends)))

-- ---- tokens before a place where other bytes stand

token_before : (k : TokenKind) (text inner old new : List ℕ) → Spells k text → (inner ≡ [] → EndsToken k new) → spelling (text ++ (inner ++ old)) ≡ Some (k, length text) → spelling (text ++ (inner ++ new)) ≡ Some (k, length text)
token_before k text [] old new s b e = scan_ends k text new s (b refl)
token_before k text (y ∷ ys) old new s b e = scan_alike k text (y ∷ ys ++ old) (y ∷ ys ++ new) s (same y) e

line_before : (inner old new : List ℕ) → (inner ≡ [] → EndsLine old → EndsLine new) → EndsLine (inner ++ old) → EndsLine (inner ++ new)
line_before [] old new fresh e = fresh refl e
line_before (y ∷ ys) old new fresh e = e

skip_before : {text a : List ℕ} (inner old new : List ℕ) → (inner ≡ [] → EndsLine old → EndsLine new) → a ≡ inner ++ old → IsSkip text a → IsSkip text (inner ++ new)
skip_before inner old new fresh e (space c white) = space c white
skip_before inner old new fresh e (comment line inside ends) = comment line inside (line_before inner old new fresh (subst EndsLine e ends))

-- what stands last in a layout would end too where `new` stands behind it in the place of `old`
abbrev pub EndsBefore : {source : List ℕ} {ts : List Lexeme} {i j : ℕ} → Layout source i ts j → List ℕ → List ℕ → Type 0
EndsBefore nothing old new = Unit {0}
EndsBefore (skip s more) old new = (laid_bytes more ≡ [] → EndsLine old → EndsLine new) × EndsBefore more old new
EndsBefore (token {t = t} s more) old new = (laid_bytes more ≡ [] → EndsToken t.kind new) × EndsBefore more old new

-- what is laid out up to a place stays so where such bytes stand there
pub stays : {source : List ℕ} {ts : List Lexeme} {i j : ℕ} (l : Layout source i ts j) → IsUtf8 (drop i source) → (target new : List ℕ) → EndsBefore l (drop j source) new → drop i target ≡ laid_bytes l ++ new → Layout target i ts j
unfolding laid_bytes
stays nothing u target new b e = nothing
stays {source = source} {j = k} (skip {i = i} {j = j} s more) u target new b e =
    let stands : drop i target ≡ s.text ++ (laid_bytes more ++ new) = e ∙ append_assoc s.text (laid_bytes more) new in
    let old : s.after ≡ laid_bytes more ++ drop k source = sym (behind source i j s.text s.after s.stands s.ends) ∙ laid_stands more in
    skip record { text = s.text; after = laid_bytes more ++ new; stands = stands; skips = skip_before (laid_bytes more) (drop k source) new b.0 old s.skips; ends = s.ends }
    (stays more (behind_skip source i j u s).0 target new b.1 (behind target i j s.text (laid_bytes more ++ new) stands s.ends))
stays {source = source} {j = k} (token {i = i} {t = t} s more) u target new b e =
    let stands : drop i target ≡ t.text ++ (laid_bytes more ++ new) = e ∙ append_assoc t.text (laid_bytes more) new in
    let old : s.after ≡ laid_bytes more ++ drop k source = sym (behind source i t.end t.text s.after s.stands s.ends) ∙ laid_stands more in
    let scan : spelling (t.text ++ (laid_bytes more ++ drop k source)) ≡ Some (t.kind, length t.text) = ap (λ a. spelling (t.text ++ a)) (sym old) ∙ scan_here source i t u s in
    token (scanned target i t (laid_bytes more ++ new) stands s.spelled.spells (token_before t.kind t.text (laid_bytes more) (drop k source) new s.spelled.spells b.0 scan) s.starts s.ends)
    (stays more (behind_token source i t u s).0 target new b.1 (behind target i t.end t.text (laid_bytes more ++ new) stands s.ends))

pub laid_utf8 : {source : List ℕ} {ts : List Lexeme} {i j : ℕ} → Layout source i ts j → IsUtf8 (drop i source) → IsUtf8 (drop j source)
laid_utf8 nothing u = u
laid_utf8 {source = source} (skip {i = i} {j = j} s more) u = laid_utf8 more (behind_skip source i j u s).0
laid_utf8 {source = source} (token {i = i} {t = t} s more) u = laid_utf8 more (behind_token source i t u s).0

-- the bytes that are laid out between two places
pub laid_are : {source : List ℕ} {ts : List Lexeme} {i j : ℕ} (l : Layout source i ts j) (text rest : List ℕ) → drop i source ≡ text ++ rest → j ≡ i + length text → laid_bytes l ≡ text
laid_are {source = source} {j = j} l text rest e size = same_front (laid_bytes l) text (drop j source) rest (sym (laid_stands l) ∙ e) (omega (arith, laid_end l, size))

-- no line ends where a token begins
no_line : (bs : List ℕ) (k : TokenKind) (n : ℕ) → spelling bs ≡ Some (k, n) → EndsLine bs → ⊥
no_line [] k n e ends = cc
no_line (b ∷ bs) k n e ends = let v = visible b bs k n e in dark b v.0 ends
  where
    dark : (b : ℕ) → 32 < b → IsTrue (is_line_end b) → ⊥
    dark b low ends = grind (arith, nat_tests)

pub no_line_at : (source : List ℕ) (i : ℕ) (t : Lexeme) → IsUtf8 (drop i source) → IsTokenAt source i t → EndsLine (drop i source) → ⊥
no_line_at source i t u s = no_line (drop i source) t.kind (length t.text) (ap spelling s.stands ∙ scan_here source i t u s)

-- each token that ends at the place would end before such bytes
abbrev pub EndEach : List ℕ → ℕ → List Lexeme → Type 0
EndEach new place [] = Unit {0}
EndEach new place (t ∷ ts) = (t.end ≡ place → EndsToken t.kind new) × EndEach new place ts

pub ends_all : (new : List ℕ) (place : ℕ) (ts : List Lexeme) → ((k : TokenKind) → EndsToken k new) → EndEach new place ts
ends_all new place [] e = tt
ends_all new place (t ∷ ts) e = (λ at. e t.kind, ends_all new place ts e)

-- up to where a token begins
pub ends_before : {source : List ℕ} {ts : List Lexeme} {i j : ℕ} (l : Layout source i ts j) (old new : List ℕ) → (EndsLine old → ⊥) → EndEach new j ts → EndsBefore l old new
unfolding laid_bytes
ends_before nothing old new fresh e = tt
ends_before (skip s more) old new fresh e = (λ none ends. absurd (fresh ends), ends_before more old new fresh e)
ends_before {j = k} (token {t = t} s more) old new fresh e = (λ none. e.0 (omega (arith, laid_end more, ap length none)), ends_before more old new fresh e.1)

-- ---- tokens up to one of them, and up to the end of one

first_is : {t u : Lexeme} {ts us : List Lexeme} → t ∷ ts ≡ u ∷ us → t ≡ u
first_is e = cc

rest_is : {t u : Lexeme} {ts us : List Lexeme} → t ∷ ts ≡ u ∷ us → ts ≡ us
rest_is e = cc

pub record UpTo (source : List ℕ) (i k : ℕ) (before : List Lexeme) (t : Lexeme) (after : List Lexeme) : Type 0 where
  pub laid : Layout source i before t.start
  pub here : IsTokenAt source t.start t
  pub behind : Layout source t.end after k

here_first : {source : List ℕ} {i k : ℕ} {u : Lexeme} {us : List Lexeme} → IsTokenAt source i u → Layout source u.end us k → UpTo source i k [] u us
here_first {source = source} {i = i} {u = u} s more = record { laid = subst (Layout source i []) (sym s.starts) nothing; here = subst (λ x. IsTokenAt source x u) (sym s.starts) s; behind = more }

pub up_to : {source : List ℕ} {us : List Lexeme} {i k : ℕ} → Layout source i us k → (before : List Lexeme) (t : Lexeme) (after : List Lexeme) → us ≡ before ++ t ∷ after → UpTo source i k before t after
up_to nothing [] t after e = absurd (cc)
up_to nothing (b ∷ bs) t after e = absurd (cc)
up_to (skip s more) before t after e = let h = up_to more before t after e in record { laid = skip s h.laid; here = h.here; behind = h.behind }
up_to {source = source} {k = k} (token {i = i} {t = u} {ts = us} s more) [] t after e =
    subst (λ a. UpTo source i k [] t a) (rest_is e) (subst (λ x. UpTo source i k [] x us) (first_is e) (here_first s more))
up_to {source = source} {k = k} (token {i = i} {t = u} {ts = us} s more) (b ∷ bs) t after e =
    let h = up_to more bs t after (rest_is e) in
    subst (λ x. UpTo source i k (x ∷ bs) t after) (first_is e) (record { laid = token s h.laid; here = h.here; behind = h.behind })

pub record UpToEnd (source : List ℕ) (i k : ℕ) (front after : List Lexeme) : Type 0 where
  pub place : ℕ
  pub ends : place ≡ last_end front
  pub laid : Layout source i front place
  pub some : 0 < length (laid_bytes laid)
  pub stay : (old new : List ℕ) → ((j : TokenKind) → EndsToken j new) → EndsBefore laid old new
  pub behind : Layout source place after k

last_here : {source : List ℕ} {i k : ℕ} {u : Lexeme} {us : List Lexeme} → IsTokenAt source i u → Layout source u.end us k → UpToEnd source i k (u ∷ []) us
unfolding laid_bytes
last_here {u = u} s more = record {
  place = u.end;
  ends = refl;
  laid = token s nothing;
  some = omega (arith, spelling_some u.kind u.text s.spelled.spells, length-append u.text []);
  stay = λ old new e. (λ none. e u.kind, tt);
  behind = more;
}

pub up_to_end : {source : List ℕ} {us : List Lexeme} {i k : ℕ} → Layout source i us k → (t : Lexeme) (ts after : List Lexeme) → us ≡ t ∷ (ts ++ after) → UpToEnd source i k (t ∷ ts) after
unfolding laid_bytes
up_to_end nothing t ts after e = absurd (cc)
up_to_end (skip s more) t ts after e =
    let h = up_to_end more t ts after e in
    record {
      place = h.place;
      ends = h.ends;
      laid = skip s h.laid;
      some = omega (arith, h.some, length-append s.text (laid_bytes h.laid));
      stay = λ old new f. (λ none. absurd (omega (arith, h.some, ap length none)), h.stay old new f);
      behind = h.behind;
    }
up_to_end {source = source} {k = k} (token {i = i} {t = u} {ts = us} s more) t [] after e =
    subst (λ a. UpToEnd source i k (t ∷ []) a) (rest_is e) (subst (λ x. UpToEnd source i k (x ∷ []) us) (first_is e) (last_here s more))
up_to_end {source = source} {k = k} (token {i = i} {t = u} {ts = us} s more) t (v ∷ vs) after e =
    let h = up_to_end more v vs after (rest_is e) in
    subst (λ x. UpToEnd source i k (x ∷ v ∷ vs) after) (first_is e) (record {
      place = h.place;
      ends = h.ends;
      laid = token s h.laid;
      some = omega (arith, h.some, length-append u.text (laid_bytes h.laid));
      stay = λ old new f. (λ none. absurd (omega (arith, h.some, ap length none)), h.stay old new f);
      behind = h.behind;
    })

-- the token that begins at a place, in a list
record Begun (place : ℕ) (ts : List Lexeme) : Type 0 where
  before : List Lexeme
  first : Lexeme
  after : List Lexeme
  is : ts ≡ before ++ first ∷ after
  starts : first.start ≡ place

begun : (place : ℕ) (ts : List Lexeme) → BeginsAt place ts → Begun place ts
begun place [] b = absurd b
begun place (t ∷ ts) (inl e) = record { before = []; first = t; after = ts; is = refl; starts = e }
begun place (t ∷ ts) (inr b) = let h = begun place ts b in record { before = t ∷ h.before; first = h.first; after = h.after; is = ap (λ xs. t ∷ xs) h.is; starts = h.starts }

-- ---- padding straight before a token

pub words_join : (ts us : List Lexeme) → words_of (ts ++ us) ≡ words_of ts ++ words_of us
words_join [] us = refl
words_join (t ∷ ts) us = ap (λ ws. written t ∷ ws) (words_join ts us)

-- white space ends each token
near : (c : ℕ) → c < 128 → is_whitespace c ≡ true → Breaks c
near c low white = record { part = grind (arith, nat_tests); digit = grind (arith, nat_tests); colon = grind (arith, nat_tests); equal = grind (arith, nat_tests); bar = grind (arith, nat_tests); ampersand = grind (arith, nat_tests); slash = grind (arith, nat_tests) }

far : (c : ℕ) → 128 ≤ c → Breaks c
far c high = record { part = grind (arith, nat_tests); digit = grind (arith, nat_tests); colon = grind (arith, nat_tests); equal = grind (arith, nat_tests); bar = grind (arith, nat_tests); ampersand = grind (arith, nat_tests); slash = grind (arith, nat_tests) }

far_ends : (k : TokenKind) (bs rest : List ℕ) → 0 < length bs → All (λ b. 128 ≤ b) bs → EndsToken k (bs ++ rest)
far_ends k [] rest some high = absurd (omega (arith, some))
far_ends k (b ∷ bs) rest some high = broken b (bs ++ rest) (far b (All-head (λ x. 128 ≤ x) b bs high))

space_ends : (c : ℕ) (rest : List ℕ) → IsTrue (is_whitespace c) → (k : TokenKind) → EndsToken k (encode_utf8 c ++ rest)
space_ends c rest white k = elim (cases_lt c 128) [
  | inl low ↦ subst (λ xs. EndsToken k (xs ++ rest)) (sym (encode_ascii c low)) (broken c rest (near c low white))
  | inr high ↦ far_ends k (encode_utf8 c) rest (omega (arith, length-encode c, len_utf8_bounds c)) (encode_high c high)
]

slash_ends : (rest : List ℕ) (place : ℕ) (ts after : List Lexeme) → NoSlashBefore place (ts ++ after) → EndEach (47 ∷ rest) place ts
slash_ends rest place [] after n = tt
slash_ends rest place (t ∷ ts) after n = (λ e. slashed rest (n.0 e), slash_ends rest place ts after n.1)

padding_ends : {padding : List ℕ} (p : IsPadding padding) (rest : List ℕ) (place : ℕ) (ts after : List Lexeme) → FitsBefore p place (ts ++ after) → EndEach (padding ++ rest) place ts
padding_ends (varied.space c white) rest place ts after f = ends_all (encode_utf8 c ++ rest) place ts (space_ends c rest white)
padding_ends (varied.comment line end inside ends) rest place ts after f = slash_ends (47 ∷ ((line ++ (end ∷ [])) ++ rest)) place ts after f

line_end_white : (b : ℕ) → IsTrue (is_line_end b) → (b < 128) × (is_whitespace b ≡ true)
line_end_white b e = (grind (arith, nat_tests), grind (arith, nat_tests))

-- it is skipped
skipped : {padding : List ℕ} → IsPadding padding → (target : List ℕ) (i : ℕ) (rest : List ℕ) → drop i target ≡ padding ++ rest → Layout target i [] (i + length padding)
skipped (varied.space c white) target i rest e = skip record { text = encode_utf8 c; after = rest; stands = e; skips = space c white; ends = refl } nothing
skipped (varied.comment line end inside ends) target i rest e =
    let slashes = 47 ∷ 47 ∷ line in
    let w = line_end_white end ends in
    let here : drop i target ≡ slashes ++ (end ∷ rest) = e ∙ ap (λ xs. 47 ∷ 47 ∷ xs) (append_assoc line (end ∷ []) rest) in
    let next : drop (i + length slashes) target ≡ end ∷ rest = behind target i (i + length slashes) slashes (end ∷ rest) here refl in
    let far : i + length slashes + 1 ≡ i + length (47 ∷ 47 ∷ (line ++ (end ∷ []))) = omega (arith, length-append line (end ∷ [])) in
    subst (Layout target i []) far
    (skip record { text = slashes; after = end ∷ rest; stands = here; skips = comment line inside ends; ends = refl }
    (skip record { text = end ∷ []; after = rest; stands = next; skips = subst (λ xs. IsSkip xs rest) (encode_ascii end w.0) (space end w.1); ends = refl } nothing))

-- a text with padding straight before a token has the cut of the text, with the same words
pub padded_cut : (front padding rest : List ℕ) (ts : List Lexeme) → IsUtf8 (front ++ rest) → Cuts (front ++ rest) ts → BeginsAt (length front) ts → (p : IsPadding padding) → FitsBefore p (length front) ts
    → (us : List Lexeme) × Cuts (front ++ (padding ++ rest)) us × (words_of us ≡ words_of ts)
padded_cut front padding rest ts u c b p fits =
    let source = front ++ rest in
    let target = front ++ (padding ++ rest) in
    let place = length front in
    let g = begun place ts b in
    let h = up_to c g.before g.first g.after g.is in
    let l : Layout source 0 g.before place = subst (Layout source 0 g.before) g.starts h.laid in
    let t : IsTokenAt source place g.first = subst (λ x. IsTokenAt source x g.first) g.starts h.here in
    let rests : drop place source ≡ rest = drop_at front rest place refl in
    let each : EndEach (padding ++ rest) place g.before = padding_ends p rest place g.before (g.first ∷ g.after) (subst (FitsBefore p place) g.is fits) in
    let bytes : laid_bytes l ≡ front = laid_are l front rest refl (omega arith) in
    let first = stays l u target (padding ++ rest) (ends_before l (drop place source) (padding ++ rest) (no_line_at source place g.first (laid_utf8 l u) t) each) (ap (λ xs. xs ++ (padding ++ rest)) (sym bytes)) in
    let there : drop place target ≡ padding ++ rest = drop_at front (padding ++ rest) place refl in
    let on : drop (place + length padding) target ≡ rest = behind target place (place + length padding) padding rest there refl in
    let n = length padding in
    let last = shifted (token t h.behind) target n (on ∙ sym rests) in
    let size : length source + n ≡ length target = omega (arith, length-append front rest, length-append front (padding ++ rest), length-append padding rest) in
    let us = all_moved n (g.first ∷ g.after) in (
      g.before ++ us,
      subst (Layout target 0 (g.before ++ us)) size (laid_on first (laid_on (skipped p target place rest there) last)),
      words_join g.before us ∙ ap (λ ws. words_of g.before ++ ws) (moved_words n (g.first ∷ g.after)) ∙ sym (words_join g.before (g.first ∷ g.after)) ∙ ap words_of (sym g.is),
    )

-- ---- parentheses around tokens

pub open_breaks : Breaks 40
open_breaks = record { part = refl; digit = refl; colon = refl; equal = refl; bar = refl; ampersand = refl; slash = refl }

pub close_breaks : Breaks 41
close_breaks = record { part = refl; digit = refl; colon = refl; equal = refl; bar = refl; ampersand = refl; slash = refl }

-- a token of one byte, here
abbrev lone_token : TokenKind → ℕ → ℕ → Lexeme
lone_token k b i = record { kind = k; start = i; end = i + 1; text = b ∷ [] }

open_at : (target : List ℕ) (i : ℕ) (rest : List ℕ) → drop i target ≡ 40 ∷ rest → IsTokenAt target i (lone_token kind.OpenParen 40 i)
open_at target i rest e = scanned target i (lone_token kind.OpenParen 40 i) rest e refl refl refl refl

close_at : (target : List ℕ) (i : ℕ) (rest : List ℕ) → drop i target ≡ 41 ∷ rest → IsTokenAt target i (lone_token kind.CloseParen 41 i)
close_at target i rest e = scanned target i (lone_token kind.CloseParen 41 i) rest e refl refl refl refl

-- parentheses put around the bytes of some tokens: the cut has two tokens more
pub enclosed_cut : (front middle rest : List ℕ) (before : List Lexeme) (t : Lexeme) (ts after : List Lexeme) → IsUtf8 (front ++ (middle ++ rest)) → Cuts (front ++ (middle ++ rest)) (before ++ t ∷ (ts ++ after))
    → t.start ≡ length front → last_end (t ∷ ts) ≡ length front + length middle
    → (us : List Lexeme) × Cuts (front ++ (40 ∷ (middle ++ (41 ∷ rest)))) us × (words_of us ≡ words_of before ++ (open_word ∷ (words_of (t ∷ ts) ++ (close_word ∷ words_of after))))
enclosed_cut front middle rest before t ts after u c starts ends =
    let source = front ++ (middle ++ rest) in
    let inner = front ++ (middle ++ (41 ∷ rest)) in
    let target = front ++ (40 ∷ (middle ++ (41 ∷ rest))) in
    let p = length front in
    let vs = t ∷ ts in
    let h = up_to c before t (ts ++ after) refl in
    let l : Layout source 0 before p = subst (Layout source 0 before) starts h.laid in
    let s : IsTokenAt source p t = subst (λ x. IsTokenAt source x t) starts h.here in
    let g = up_to_end (token s h.behind) t ts after refl in
    let q = g.place in
    let far : q ≡ p + length middle = g.ends ∙ ends in
    let here : drop p source ≡ middle ++ rest = drop_at front (middle ++ rest) p refl in
    let new = 40 ∷ (middle ++ (41 ∷ rest)) in
    let up : IsUtf8 (drop p source) = laid_utf8 l u in
    let first : Layout target 0 before p = stays l u target new (ends_before l (drop p source) new (no_line_at source p t up s) (ends_all new p before (λ k. broken 40 (middle ++ (41 ∷ rest)) open_breaks)))
    (ap (λ xs. xs ++ new) (sym (laid_are l front (middle ++ rest) refl (omega arith)))) in
    let bytes : laid_bytes g.laid ≡ middle = laid_are g.laid middle rest here far in
    let within : drop p inner ≡ middle ++ (41 ∷ rest) = drop_at front (middle ++ (41 ∷ rest)) p refl in
    let kept : Layout inner p vs q = stays g.laid up inner (41 ∷ rest) (g.stay (drop q source) (41 ∷ rest) (λ k. broken 41 rest close_breaks)) (within ∙ ap (λ xs. xs ++ (41 ∷ rest)) (sym bytes)) in
    let opens : drop p target ≡ 40 ∷ (middle ++ (41 ∷ rest)) = drop_at front new p refl in
    let on : drop (p + 1) target ≡ middle ++ (41 ∷ rest) = behind target p (p + 1) (40 ∷ []) (middle ++ (41 ∷ rest)) opens refl in
    let middles : Layout target (p + 1) (all_moved 1 vs) (q + 1) = shifted kept target 1 (on ∙ sym within) in
    let closes : drop (q + 1) target ≡ 41 ∷ rest = behind target (p + 1) (q + 1) middle (41 ∷ rest) on (omega (arith, far)) in
    let two : q + 1 + 1 ≡ q + 2 = omega arith in
    let left : drop (q + 2) target ≡ rest = behind target (q + 1) (q + 2) (41 ∷ []) rest closes (sym two) in
    let over : drop q source ≡ rest = behind source p q middle rest here far in
    let last : Layout target (q + 2) (all_moved 2 after) (length source + 2) = shifted g.behind target 2 (left ∙ sym over) in
    let ended : Layout target (q + 1 + 1) (all_moved 2 after) (length source + 2) = subst (λ x. Layout target x (all_moved 2 after) (length source + 2)) (sym two) last in
    let o = lone_token kind.OpenParen 40 p in
    let m = lone_token kind.CloseParen 41 (q + 1) in
    let us = o ∷ (all_moved 1 vs ++ (m ∷ all_moved 2 after)) in
    let size : length source + 2 ≡ length target = omega (arith, length-append front (middle ++ rest), length-append middle rest, length-append front new, length-append middle (41 ∷ rest)) in (
      before ++ us,
      subst (Layout target 0 (before ++ us)) size (laid_on first (token (open_at target p (middle ++ (41 ∷ rest)) opens) (laid_on middles (token (close_at target (q + 1) rest closes) ended)))),
      words_join before us ∙ ap (λ ws. words_of before ++ (open_word ∷ ws))
          (words_join (all_moved 1 vs) (m ∷ all_moved 2 after) ∙ ap₂ (λ (a b : List TokenText). a ++ (close_word ∷ b)) (moved_words 1 vs) (moved_words 2 after)),
    )
