-- Skips: where one starts, no other and no spelling does; and whether one starts.
use Rattle.std.proofs.Common.{◌≡◌, ℕ, suc, ◌+◌, ◌<◌, true, false, List, [], ◌∷◌, ◌++◌, length, get_or, drop, refl, sym, ap, ◌∙◌, subst, arith, inl, inr, one-add}
use Rattle.std.specs.Prelude.{◌==◌, ◌⊎◌}
use Rattle.std.specs.List.{AllPass, prefix_len, take_while}
use Rattle.std.specs.Char.{encode_utf8, is_whitespace}
use Rattle.std.specs.Str.{IsUtf8, encode_utf8_all}
use Rattle.std.proofs.lemmas.Bool.{cases_Bool, eqb-true, cases_eq, or_cases, not-false, both_ways}
use Rattle.std.proofs.lemmas.List.{take-append-drop, length-append, get_or_at, drop_at}
use Rattle.std.proofs.lemmas.List.Elements.{All-head, All-tail}
use Rattle.std.proofs.lemmas.Str.{encode_same, char_from_byte, length-encode, len_utf8_bounds, IsUtf8-past_char, IsUtf8-nil, IsUtf8-drop, IsCharBoundary-before_ascii}
use Rattle.cedar_lexer.specs.declared.token.TokenKind.{TokenKind}
use Rattle.cedar_lexer.specs.Spelling.{Spells}
use Rattle.cedar_lexer.specs.Cut.{is_line_end, is_in_line, EndsLine, IsSkip, space, comment, IsSpelled}
use Rattle.cedar_lexer.proofs.Bytes.{take_while-passes}
use Rattle.cedar_lexer.proofs.Fronts.{reaches, exact}
use Rattle.cedar_lexer.proofs.Found.{no_space}

-- a slash is no white space
no_slash : {c : ℕ} → c ≡ 47 → is_whitespace c ≡ true → ⊥
no_slash e white = let h : is_whitespace 47 ≡ true = subst (λ x. is_whitespace x ≡ true) e white in absurd (cc)

slash_space : (c : ℕ) (bs after : List ℕ) → 47 ∷ bs ≡ encode_utf8 c ++ after → is_whitespace c ≡ true → ⊥
slash_space c bs after e white = no_slash (char_from_byte (47 ∷ bs) after c e (omega arith) (omega arith)) white

-- a line in front of what ends it is as long as the run of bytes that end none
line_len : (line after : List ℕ) → AllPass is_in_line line → EndsLine after → prefix_len is_in_line (line ++ after) ≡ length line
line_len [] [] p q = refl
line_len [] (b ∷ bs) p q = rw q refl
line_len (b ∷ bs) after p q = rw (All-head (λ x. is_in_line x ≡ true) b bs p, line_len bs after (All-tail (λ x. is_in_line x ≡ true) b bs p) q) (omega arith)

pub line_ends : (bs : List ℕ) → EndsLine (drop (prefix_len is_in_line bs) bs)
line_ends [] = tt
line_ends (b ∷ bs) = elim (cases_Bool (is_in_line b)) [
  | inl inside ↦ rw (inside, one-add) (line_ends bs)
  | inr end ↦ rw end (not-false (is_line_end b) end)
]

-- two skips at one place are equally long
pub skip_same : {s t a b : List ℕ} → IsSkip s a → IsSkip t b → s ++ a ≡ t ++ b → length s ≡ length t
skip_same {a = a} {b = b} (space c white) (space d grey) e = ap (λ x. length (encode_utf8 x)) (encode_same c d a b e).0
skip_same {a = a} {b = b} (space c white) (comment line p q) e = absurd (slash_space c (47 ∷ line ++ b) a (sym e) white)
skip_same {a = a} {b = b} (comment line p q) (space c white) e = absurd (slash_space c (47 ∷ line ++ a) b e white)
skip_same {a = a} {b = b} (comment line p q) (comment other r s) e =
    let same : line ++ a ≡ other ++ b = behind e in
    omega (arith, sym (line_len line a p q) ∙ (ap (prefix_len is_in_line) same ∙ line_len other b r s))
  where
    behind : {x y v w : ℕ} {xs ys : List ℕ} → x ∷ y ∷ xs ≡ v ∷ w ∷ ys → xs ≡ ys
    behind e = cc

-- no spelling starts where a skip does
pub skip_or_spelling : {s a : List ℕ} (kind : TokenKind) (t b : List ℕ) → IsSkip s a → IsSpelled kind t b → s ++ a ≡ t ++ b → ⊥
skip_or_spelling {a = a} kind t b (space c white) s e = let h = reaches kind t b s in no_space (t ++ b) a c h.kind h.size (sym e) white h.finds
skip_or_spelling {a = a} kind t b (comment line p q) s e = s.apart (line ++ a) (sym e)

-- neither is empty
pub skip_some : {s a : List ℕ} → IsSkip s a → 0 < length s
skip_some (space c white) = rw (length-encode c) (omega (arith, len_utf8_bounds c))
skip_some (comment line p q) = omega arith

pub spelling_some : (kind : TokenKind) (t : List ℕ) → Spells kind t → 0 < length t
spelling_some kind [] s = let h = exact kind [] s in absurd (cc)
spelling_some kind (b ∷ bs) s = omega arith

-- ---- whether a skip starts

-- a skip at the front of bs, or none
pub data SkipOrNone (bs : List ℕ) : Type 0 where
  skip_here : (text after : List ℕ) → bs ≡ text ++ after → IsSkip text after → SkipOrNone bs
  none_here : ((text after : List ℕ) → bs ≡ text ++ after → IsSkip text after → ⊥) → SkipOrNone bs

pub comment_here : (bs : List ℕ) → IsSkip (47 ∷ 47 ∷ take_while is_in_line bs) (drop (prefix_len is_in_line bs) bs)
comment_here bs = comment (take_while is_in_line bs) (take_while-passes is_in_line bs) (line_ends bs)

-- neither a character of white space nor two slashes
pub no_skip_here : (c : ℕ) (bs rest : List ℕ) → bs ≡ encode_utf8 c ++ rest → is_whitespace c ≡ false → ((more : List ℕ) → bs ≡ 47 ∷ 47 ∷ more → ⊥) →
    (text after : List ℕ) → bs ≡ text ++ after → IsSkip text after → ⊥
no_skip_here c bs rest e dark apart text after stands (space d white) =
    let same : c ≡ d = (encode_same c d rest after (sym e ∙ stands)).0 in
    let h : is_whitespace c ≡ true = subst (λ x. is_whitespace x ≡ true) (sym same) white in
    both_ways (is_whitespace c) dark h
no_skip_here c bs rest e dark apart text after stands (comment line p q) = apart (line ++ after) stands

pub no_skip_in_empty : (text after : List ℕ) → [] ≡ text ++ after → IsSkip text after → ⊥
no_skip_in_empty text after stands s =
    let some = skip_some s in
    let none : length (text ++ after) ≡ 0 = ap length (sym stands) in
    absurd (omega (arith, length-append text after))

-- two slashes stand at the front, or they don't
two_slashes : (bs : List ℕ) → ((more : List ℕ) × (bs ≡ 47 ∷ 47 ∷ more)) ⊎ ((more : List ℕ) → bs ≡ 47 ∷ 47 ∷ more → ⊥)
two_slashes [] = inr (λ more e. absurd (cc))
two_slashes (b ∷ []) = inr (λ more e. let h : 1 ≡ suc (suc (length more)) = ap length e in absurd (omega arith))
two_slashes (b ∷ c ∷ cs) = elim (cases_eq b 47) [
  | inl first ↦ elim (cases_eq c 47) [
    | inl second ↦ inl (cs, ap (λ x. x ∷ c ∷ cs) first ∙ ap (λ x. 47 ∷ x ∷ cs) second)
    | inr apart ↦ inr (λ more e. apart (ap (λ xs. get_or xs 1 0) e))
  ]
  | inr apart ↦ inr (λ more e. apart (ap (λ xs. get_or xs 0 0) e))
]

skip_by_chars : (cs : List ℕ) → SkipOrNone (encode_utf8_all cs)
skip_by_chars [] = none_here (no_skip_in_empty)
skip_by_chars (c ∷ cs) = elim (cases_Bool (is_whitespace c)) [
  | inl white ↦ skip_here (encode_utf8 c) (encode_utf8_all cs) refl (space c white)
  | inr dark ↦ elim (two_slashes (encode_utf8 c ++ encode_utf8_all cs)) [
    | inl (more, e) ↦ skip_here (47 ∷ 47 ∷ take_while is_in_line more) (drop (prefix_len is_in_line more) more)
        (e ∙ ap (λ xs. 47 ∷ 47 ∷ xs) (sym (take-append-drop (prefix_len is_in_line more) more))) (comment_here more)
    | inr apart ↦ none_here (no_skip_here c (encode_utf8 c ++ encode_utf8_all cs) (encode_utf8_all cs) refl dark apart)
  ]
]

pub skip_or_none : (bs : List ℕ) → IsUtf8 bs → SkipOrNone bs
skip_or_none bs (cs, (scalars, spelled)) = subst SkipOrNone spelled (skip_by_chars cs)

-- ---- what stands behind a skip is a text

line_end_ascii : (b : ℕ) → is_line_end b ≡ true → b < 128
line_end_ascii b e = elim (or_cases (b == 10) (b == 13) e) [
  | inl h ↦ omega (arith, eqb-true b 10 h)
  | inr h ↦ omega (arith, eqb-true b 13 h)
]

behind_line : (bs text after : List ℕ) → IsUtf8 bs → bs ≡ text ++ after → EndsLine after → IsUtf8 after
behind_line bs text [] u stands ends = IsUtf8-nil
behind_line bs text (b ∷ rest) u stands ends =
    let n : length bs ≡ length text + suc (length rest) = ap length stands ∙ length-append text (b ∷ rest) in
    let small : b < 128 = line_end_ascii b ends in
    let here : get_or bs (length text) 0 ≡ b = ap (λ xs. get_or xs (length text) 0) stands ∙ get_or_at text b rest 0 (length text) refl in
    subst IsUtf8 (ap (drop (length text)) stands ∙ drop_at text (b ∷ rest) (length text) refl)
    (IsUtf8-drop bs (length text) u (IsCharBoundary-before_ascii bs (length text) (omega arith) (omega arith)))

pub skip_rest : (source : List ℕ) (i : ℕ) {text after : List ℕ} → IsUtf8 (drop i source) → drop i source ≡ text ++ after → IsSkip text after → IsUtf8 after
skip_rest source i {after = after} u stands (space c white) = IsUtf8-past_char (drop i source) after c u stands
skip_rest source i {after = after} u stands (comment line p q) = behind_line (drop i source) (47 ∷ 47 ∷ line) after u stands q
