-- The steps of the lexer's code, over plain variables.
use Rattle.std.proofs.Common.{◌≡◌, ◌≢◌, ℕ, suc, ◌+◌, ◌-◌, ◌<◌, ◌≤◌, Bool, true, false, List, [], ◌∷◌, ◌++◌, length, get_or, take, drop, refl, sym, ap, ◌∙◌, subst, arith, Some}
use Rattle.std.specs.List.{prefix_len}
use Rattle.std.specs.Char.{encode_utf8, is_whitespace}
use Rattle.std.specs.Str.{IsUtf8, IsCharBoundary}
use Rattle.std.proofs.lemmas.List.{length-append, take-append-drop, length-take-le, take_at, drop_at, get_or_past}
use Rattle.std.proofs.lemmas.List.Sums.{prefix_len-le-length}
use Rattle.std.proofs.lemmas.Str.{length-encode, len_utf8_bounds, encode_ascii, IsUtf8-drop, IsCharBoundary-from_drop}
use Rattle.cedar_lexer.specs.declared.token.TokenKind.{TokenKind}
use Rattle.std.specs.Iterator.{MakesProgress, size}
use Rattle.cedar_lexer.specs.declared.token.Token.{Token}
use Rattle.cedar_lexer.specs.Token.{lexeme_of}
use Rattle.cedar_lexer.specs.Cut.{is_in_line, IsSkip, space, IsSkipAt, IsTokenAt, Layout, nothing, skip, token, StopsFrom}
use Rattle.cedar_lexer.specs.Scan.{IsSkipLen, NoSkip, NoSpelling, spelling}
use Rattle.cedar_lexer.specs.LexerState.{LexerState, IsNextToken, lexer_at, lexer_end, answer_limit}
use Rattle.cedar_lexer.proofs.Skips.{no_skip_here, no_skip_in_empty, comment_here}
use Rattle.cedar_lexer.proofs.Cuts.{laid_on, behind_skip, behind_token, token_found}

-- ---- how long a skip is

front_skip : (text front rest : List ℕ) → text ≡ front ++ rest → IsSkip front rest → 0 < length front → IsSkipLen text (length front)
front_skip text front rest e s some = record {
  within = omega (arith, ap length e, length-append front rest);
  some = λ _. subst (λ xs. IsSkip xs (drop (length front) text)) (sym (ap (take (length front)) e ∙ take_at front rest (length front) refl))
      (subst (IsSkip front) (sym (ap (drop (length front)) e ∙ drop_at front rest (length front) refl)) s);
  none = λ n. absurd (omega arith);
}

pub space_here : (text rest : List ℕ) (c : ℕ) → text ≡ encode_utf8 c ++ rest → is_whitespace c ≡ true → IsSkipLen text (length (encode_utf8 c))
space_here text rest c e white = front_skip text (encode_utf8 c) rest e (space c white) (rw (length-encode c) (omega (arith, len_utf8_bounds c)))

no_skip_len : (text : List ℕ) → NoSkip text → IsSkipLen text 0
no_skip_len text n = record { within = omega arith; some = λ l. absurd (omega arith); none = λ _. n }

pub dark_here : (text rest : List ℕ) (c : ℕ) → 128 ≤ get_or text 0 0 → text ≡ encode_utf8 c ++ rest → is_whitespace c ≡ false → IsSkipLen text 0
dark_here text rest c high e dark = no_skip_len text (no_skip_here c text rest e dark (λ more s. let h : get_or text 0 0 ≡ 47 = ap (λ xs. get_or xs 0 0) s in absurd (omega arith)))

pub wide_has_char : (text : List ℕ) → 128 ≤ get_or text 0 0 → length text ≡ 0 → ⊥
wide_has_char text high none = absurd (omega (arith, get_or_past text 0 0 (omega arith)))

pub near_space_here : (text : List ℕ) → get_or text 0 0 < 128 → is_whitespace (get_or text 0 0) ≡ true → IsSkipLen text 1
near_space_here [] small white = absurd (cc)
near_space_here (b ∷ bs) small white =
    front_skip (b ∷ bs) (b ∷ []) bs refl (subst (λ xs. IsSkip xs bs) (encode_ascii b small) (space b white)) (omega arith)

pub near_dark_here : (text : List ℕ) → get_or text 0 0 < 128 → is_whitespace (get_or text 0 0) ≡ false → (get_or text 0 0 ≡ 47 → get_or text 1 0 ≡ 47 → ⊥) → IsSkipLen text 0
near_dark_here [] small dark apart = no_skip_len [] no_skip_in_empty
near_dark_here (b ∷ bs) small dark apart =
    no_skip_len (b ∷ bs) (no_skip_here b (b ∷ bs) bs (ap (λ xs. xs ++ bs) (sym (encode_ascii b small))) dark
    (λ more s. apart (ap (λ xs. get_or xs 0 0) s) (ap (λ xs. get_or xs 1 0) s)))

slashes_here : (bs : List ℕ) (n : ℕ) → n ≡ prefix_len is_in_line bs → IsSkipLen (47 ∷ 47 ∷ bs) (2 + n)
slashes_here bs n e = record {
  within = omega (arith, prefix_len-le-length is_in_line bs);
  some = λ _. subst (λ m. IsSkip (take m (47 ∷ 47 ∷ bs)) (drop m (47 ∷ 47 ∷ bs))) counted (comment_here bs);
  none = λ z. absurd (omega arith);
}
  where
    counted : suc (suc (prefix_len is_in_line bs)) ≡ 2 + n
    counted = omega arith

pub comment_skip : (text : List ℕ) (n : ℕ) → get_or text 0 0 ≡ 47 → get_or text 1 0 ≡ 47 → n ≡ prefix_len is_in_line (drop 2 text) → IsSkipLen text (2 + n)
comment_skip [] n p q e = absurd (cc)
comment_skip (b ∷ []) n p q e = absurd (cc)
comment_skip (b ∷ c ∷ bs) n p q e =
    subst (λ x. IsSkipLen (x ∷ c ∷ bs) (2 + n)) (sym p) (subst (λ x. IsSkipLen (47 ∷ x ∷ bs) (2 + n)) (sym q) (slashes_here bs n e))

-- ---- over the skips

pub boundary : (source : List ℕ) (i : ℕ) → i ≤ length source → IsUtf8 (drop i source) → IsCharBoundary source i
boundary source i l u = IsCharBoundary-from_drop source i l u

-- what the loop keeps: skips from the start to here, where a character begins
pub record Passed (source : List ℕ) (start at : ℕ) : Type 0 where
  pub laid : Layout source start [] at
  pub onward : start ≤ at
  pub boundary : IsCharBoundary source at

pub passed_skip : (source : List ℕ) (start at n : ℕ) → IsUtf8 source → Passed source start at → IsSkipLen (drop at source) n → 0 < n → Passed source start (at + n)
passed_skip source start at n u p s some =
    let here : IsSkipAt source at (at + n) = record {
      text = take n (drop at source);
      after = drop n (drop at source);
      stands = sym (take-append-drop n (drop at source));
      skips = s.some some;
      ends = ap (λ m. at + m) (sym (length-take-le n (drop at source) s.within));
    } in
    let h = behind_skip source at (at + n) (IsUtf8-drop source at u p.boundary) here in
    record { laid = laid_on p.laid (skip here nothing); onward = omega (arith, p.onward); boundary = boundary source (at + n) h.2 h.0 }

-- ---- the token at a place

pub record TokenBounds (source : List ℕ) (i j : ℕ) : Type 0 where
  pub more : i < j
  pub boundary : IsCharBoundary source j

pub token_bounds : (source : List ℕ) (i : ℕ) (kind : TokenKind) (n : ℕ) → IsUtf8 source → IsCharBoundary source i → spelling (drop i source) ≡ Some (kind, n) → TokenBounds source i (i + n)
token_bounds source i kind n u b e =
    let rest = IsUtf8-drop source i u b in
    let h = behind_token source i record { kind = kind; start = i; end = i + n; text = take n (drop i source) } rest (token_found source i kind n rest e) in
    record { more = h.1; boundary = boundary source (i + n) h.2 h.0 }

pub token_text : (source : List ℕ) (i : ℕ) (kind : TokenKind) (n : ℕ) (text : List ℕ) → IsUtf8 source → IsCharBoundary source i → spelling (drop i source) ≡ Some (kind, n) →
    text ≡ take (i + n - i) (drop i source) → IsTokenAt source i record { kind = kind; start = i; end = i + n; text = text }
token_text source i kind n text u b e t =
    let same : take n (drop i source) ≡ text = ap (λ m. take m (drop i source)) (omega arith) ∙ sym t in
    subst (λ x. IsTokenAt source i record { kind = kind; start = i; end = i + n; text = x }) same (token_found source i kind n (IsUtf8-drop source i u b) e)

-- ---- one call

-- a lexer of these fields
abbrev pub reading : List ℕ → ℕ → Bool → LexerState
reading source i ended = record { source = source; offset = i; ended = ended }

-- the answer is a token, which stands behind the skips
pub steps_token : (source : List ℕ) (i start : ℕ) (ended : Bool) (s : LexerState) (t : Token) → reading source i ended ≡ s → ended ≡ false → Layout source i [] start → IsTokenAt source start (lexeme_of t) →
    (s.ended ≡ false) × IsNextToken s.source s.offset (lexeme_of t) × (reading source t.end ended ≡ lexer_at s t.end)
steps_token source i start ended s t same going l at = (
  sym (ap (λ (r : LexerState). r.ended) same) ∙ going,
  subst (λ (r : LexerState). IsNextToken r.source r.offset (lexeme_of t)) same (laid_on l (token at nothing)),
  ap (λ b. reading source t.end b) going ∙ ap (λ r. lexer_at r t.end) same,
)

-- or the invalid token, where nothing starts
pub steps_stop : (source : List ℕ) (i start : ℕ) (ended : Bool) (s : LexerState) → reading source i ended ≡ s → ended ≡ false → Layout source i [] start →
    start ≤ length source → start ≢ length source → NoSkip (drop start source) → NoSpelling (drop start source) →
    (s.ended ≡ false) × StopsFrom s.source s.offset [] start × (reading source i true ≡ lexer_end s)
steps_stop source i start ended s same going l within apart no_skip no_spelling = (
  sym (ap (λ (r : LexerState). r.ended) same) ∙ going,
  subst (λ (r : LexerState). StopsFrom r.source r.offset [] start) same (l, omega arith, record { no_skip = no_skip; no_spelling = no_spelling }),
  ap lexer_end same,
)

-- fewer answers are left
pub progress : {A : Type 0} (can : LexerState → Type 0) (s u : LexerState) (x : A) → can u → size (answer_limit u) < size (answer_limit s) → MakesProgress can answer_limit s (Some x) u
progress can s u x may less = record {
  on = λ _. (may, tt, less);
  keeps = may;
  rests = λ _. tt;
}

pub fewer_behind : (source : List ℕ) (i j : ℕ) (ended : Bool) (s : LexerState) → reading source i ended ≡ s → ended ≡ false → i < j → j ≤ length source →
    size (answer_limit (reading source j ended)) < size (answer_limit s)
fewer_behind source i j ended s same going more within =
    subst (λ (r : LexerState). size (answer_limit (reading source j ended)) < size (answer_limit r)) same (rw going (omega arith))

pub fewer_ended : (source : List ℕ) (i : ℕ) (ended : Bool) (s : LexerState) → reading source i ended ≡ s → ended ≡ false → i < length source →
    size (answer_limit (reading source i true)) < size (answer_limit s)
fewer_ended source i ended s same going more =
    subst (λ (r : LexerState). size (answer_limit (reading source i true)) < size (answer_limit r)) same (rw going (omega arith))
