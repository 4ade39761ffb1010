-- The first piece that is read is the one piece of the table with which the text begins.
use Rattle.std.proofs.Common.{◌≡◌, ◌≢◌, ℕ, ◌+◌, ◌*◌, ◌<◌, ◌≤◌, min, Bool, true, false, cond, ◌&&◌, ◌||◌, not, ◌==◌, nat_lt, nat_le, List, [], ◌∷◌, ◌++◌, length, Option, Some, None, if◌then◌else◌, refl, sym, ap, ◌∙◌, subst, arith, append_assoc, append-nil, length-append, inl, inr}
use Rattle.std.specs.List.{list_all}
use Rattle.std.specs.Char.{digit_value}
use Rattle.std.specs.Cmp.Derive.{both_true}
use Rattle.std.proofs.lemmas.Bool.{ltb-true, ltb-false, lt-ltb, le-ltb, eqb-true, eqb-false, ne_eqb, cases_lt, le-leb, lt-leb}
use Rattle.std.proofs.lemmas.List.Elements.{filter-append}
use Rattle.std.proofs.lemmas.List.Folds.{list_all-append}
use Rattle.std.proofs.lemmas.List.Sums.{fold-append}
use Rattle.std.proofs.Math.Utf8.{scalar, scalar_cases, low_scalar}
use Rattle.cedar_syntax.specs.declared.err.escape.EscapeError.TheVariants.{BareCarriageReturn, EscapeOnlyChar, TooShortHexEscape, InvalidCharInHexEscape, OutOfRangeHexEscape, NoBraceInUnicodeEscape, InvalidCharInUnicodeEscape, EmptyUnicodeEscape, UnclosedUnicodeEscape, LeadingUnderscoreUnicodeEscape, OverlongUnicodeEscape, LoneSurrogateUnicodeEscape, OutOfRangeUnicodeEscape}
use Rattle.cedar_syntax.specs.declared.unescape.piece.PieceValue.{PieceValue}
use Rattle.cedar_syntax.specs.declared.unescape.piece.PieceValue.TheVariants.{Nothing, Character, Fault}
use Rattle.cedar_syntax.specs.strings.Piece.{Piece, plain, bare_quote, bare_return, lone_slash, short, line_end, hex, large_hex, short_hex, bad_hex, no_brace_but_end, no_brace, empty_braces, leading_underscore, unclosed, bad_inside, unicode, overlong, out_of_range, lone_surrogate, invalid, short_escape, is_blank, EndsBlanks, is_hex, is_no_underscore, is_hex_or_underscore, digits, hex_number, BeginsNumber}
use Rattle.cedar_syntax.specs.strings.PieceAhead.{BeginsWithPiece, PieceAhead, piece_ahead, faulty, first_of, hex_digit, unskipped_text, ascii, low_digit, behind_high, high_digit, hex_escape, Tally, tally, with_digit, scalar_outcome, as_char, brace_outcome, inside_braces, first_digit, behind_brace, unicode_escape, short_outcome, escape, first_piece}

moved : {whole whole' : List ℕ} {r r' : PieceAhead} → whole ≡ whole' → r ≡ r' → BeginsWithPiece whole r → BeginsWithPiece whole' r'
moved {whole} {whole'} {r} {r'} e f b = subst (λ (w : List ℕ). BeginsWithPiece w r') e (subst (λ (s : PieceAhead). BeginsWithPiece whole s) f b)

-- hex escapes

begins_value : (a b : ℕ) (cs : List ℕ) → is_hex a ≡ true → is_hex b ≡ true → (t : Bool) → nat_lt 0x7F (digit_value a * 16 + digit_value b) ≡ t
    → BeginsWithPiece (92 ∷ 120 ∷ a ∷ b ∷ cs) (if t then faulty OutOfRangeHexEscape cs else piece_ahead (Character (digit_value a * 16 + digit_value b)) cs)
begins_value a b cs p q true e = record { text = 92 ∷ 120 ∷ a ∷ b ∷ []; stands = refl; is_piece = large_hex a b p q (ltb-true 0x7F (digit_value a * 16 + digit_value b) e) }
begins_value a b cs p q false e = record { text = 92 ∷ 120 ∷ a ∷ b ∷ []; stands = refl; is_piece = hex a b p q (ltb-false 0x7F (digit_value a * 16 + digit_value b) e) }

begins_low : (a b : ℕ) (cs : List ℕ) → is_hex a ≡ true → (t : Bool) → is_hex b ≡ t
    → BeginsWithPiece (92 ∷ 120 ∷ a ∷ b ∷ cs) (low_digit (digit_value a) cs (if t then Some (digit_value b) else None))
begins_low a b cs p false e = record { text = 92 ∷ 120 ∷ a ∷ b ∷ []; stands = refl; is_piece = bad_hex (a ∷ []) b (both_true p refl) (omega arith) e }
begins_low a b cs p true e = begins_value a b cs p e (nat_lt 0x7F (digit_value a * 16 + digit_value b)) refl

begins_high : (a : ℕ) (cs : List ℕ) (t : Bool) → is_hex a ≡ t
    → BeginsWithPiece (92 ∷ 120 ∷ a ∷ cs) (high_digit cs (if t then Some (digit_value a) else None))
begins_high a cs false e = record { text = 92 ∷ 120 ∷ a ∷ []; stands = refl; is_piece = bad_hex [] a refl (omega arith) e }
begins_high a [] true e = record { text = 92 ∷ 120 ∷ a ∷ []; stands = refl; is_piece = short_hex (a ∷ []) (both_true e refl) (omega arith) }
begins_high a (b ∷ cs) true e = begins_low a b cs e (is_hex b) refl

begins_hex : (cs : List ℕ) → BeginsWithPiece (92 ∷ 120 ∷ cs) (hex_escape (first_of cs))
begins_hex [] = record { text = 92 ∷ 120 ∷ []; stands = refl; is_piece = short_hex [] refl (omega arith) }
begins_hex (a ∷ cs) = begins_high a cs (is_hex a) refl

-- the number between braces

abbrev inside_tally : List ℕ → Tally
inside_tally inside = tally (length (digits inside)) (hex_number (digits inside))

hex_is_no : (d k : ℕ) → is_hex d ≡ true → is_hex k ≡ false → (t : Bool) → (d == k) ≡ t → t ≡ false
hex_is_no d k p q false e = refl
hex_is_no d k p q true e =
    let same : d ≡ k = eqb-true d k e in
    let no : is_hex d ≡ false = subst (λ (x : ℕ). is_hex x ≡ false) (sym same) q in
    cc

digits_grow : (inside : List ℕ) (c : ℕ) (t : Bool) → (c == 95) ≡ t → digits (inside ++ c ∷ []) ≡ digits inside ++ (cond (not t) (c ∷ []) [])
digits_grow inside c t e = filter-append is_no_underscore inside (c ∷ []) ∙ ap (λ (b : Bool). digits inside ++ cond (not b) (c ∷ []) []) e

same_tally : (a b m n : ℕ) → min a 7 ≡ min b 7 → min m 0x11_0000 ≡ min n 0x11_0000 → tally a m ≡ tally b n
same_tally a b m n e f = cc

tally_underscore : (inside : List ℕ) (c : ℕ) → (c == 95) ≡ true → inside_tally (inside ++ c ∷ []) ≡ inside_tally inside
tally_underscore inside c e = ap (λ (ds : List ℕ). tally (length ds) (hex_number ds)) (digits_grow inside c true e ∙ append-nil (digits inside))

tally_digit : (inside : List ℕ) (c : ℕ) → (c == 95) ≡ false → inside_tally (inside ++ c ∷ []) ≡ with_digit (inside_tally inside) (digit_value c)
tally_digit inside c e =
    let n : length (digits (inside ++ c ∷ [])) ≡ length (digits inside) + 1 = ap length (digits_grow inside c false e) ∙ length-append (digits inside) (c ∷ []) in
    let v : hex_number (digits (inside ++ c ∷ [])) ≡ hex_number (digits inside) * 16 + digit_value c = ap hex_number (digits_grow inside c false e) ∙ fold-append (λ (n d : ℕ). n * 16 + digit_value d) 0 (digits inside) (c ∷ []) in
    ap (λ (k : ℕ). tally k (hex_number (digits (inside ++ c ∷ [])))) n
    ∙ ap (λ (k : ℕ). tally (length (digits inside) + 1) k) v
    ∙ same_tally (length (digits inside) + 1) (min (length (digits inside)) 7 + 1) (hex_number (digits inside) * 16 + digit_value c) (min (hex_number (digits inside)) 0x11_0000 * 16 + digit_value c) (capped_count (length (digits inside))) (capped_number (hex_number (digits inside)) (digit_value c))
  where
    capped_count : (n : ℕ) → min (n + 1) 7 ≡ min (min n 7 + 1) 7
    capped_count n = omega arith

    capped_number : (v d : ℕ) → min (v * 16 + d) 0x11_0000 ≡ min (min v 0x11_0000 * 16 + d) 0x11_0000
    capped_number v d = omega arith

-- what the digits stand for at the closing brace

if_true : {A : Type 0} (b : Bool) (x y : A) → b ≡ true → (if b then x else y) ≡ x
if_true b x y e = ap (λ (t : Bool). if t then x else y) e

if_false : {A : Type 0} (b : Bool) (x y : A) → b ≡ false → (if b then x else y) ≡ y
if_false b x y e = ap (λ (t : Bool). if t then x else y) e

closed_overlong : (n v : ℕ) → 6 < n → brace_outcome (tally n v) ≡ Fault OverlongUnicodeEscape
closed_overlong n v h = if_true (nat_lt 6 (min n 7)) (Fault OverlongUnicodeEscape) (scalar_outcome (min v 0x11_0000) (as_char (min v 0x11_0000))) (lt-ltb 6 (min n 7) (omega arith))

closed_short : (n v : ℕ) → n ≤ 6 → brace_outcome (tally n v) ≡ scalar_outcome (min v 0x11_0000) (as_char (min v 0x11_0000))
closed_short n v h = if_false (nat_lt 6 (min n 7)) (Fault OverlongUnicodeEscape) (scalar_outcome (min v 0x11_0000) (as_char (min v 0x11_0000))) (le-ltb 6 (min n 7) (omega arith))

closed_large : (n v : ℕ) → n ≤ 6 → 0x10FFFF < v → brace_outcome (tally n v) ≡ Fault OutOfRangeUnicodeEscape
closed_large n v h l =
    let e : min v 0x11_0000 ≡ 0x11_0000 = omega arith in
    closed_short n v h ∙ ap (λ (m : ℕ). scalar_outcome m (as_char m)) e

closed_scalar : (n v : ℕ) → n ≤ 6 → v ≤ 0x10FFFF → scalar v ≡ true → brace_outcome (tally n v) ≡ Character v
closed_scalar n v h l s =
    let e : min v 0x11_0000 ≡ v = omega arith in
    closed_short n v h ∙ ap (λ (m : ℕ). scalar_outcome m (as_char m)) e ∙ ap (λ (t : Bool). scalar_outcome v (if t then Some v else None)) s

closed_surrogate : (n v : ℕ) → n ≤ 6 → v ≤ 0x10FFFF → scalar v ≡ false → brace_outcome (tally n v) ≡ Fault LoneSurrogateUnicodeEscape
closed_surrogate n v h l s =
    let e : min v 0x11_0000 ≡ v = omega arith in
    closed_short n v h ∙ ap (λ (m : ℕ). scalar_outcome m (as_char m)) e ∙ ap (λ (t : Bool). scalar_outcome v (if t then Some v else None)) s
    ∙ if_false (nat_lt 0x10FFFF v) (Fault OutOfRangeUnicodeEscape) (Fault LoneSurrogateUnicodeEscape) (le-ltb 0x10FFFF v l)

scalar_fits : (v : ℕ) → scalar v ≡ true → v ≤ 0x10FFFF
scalar_fits v s = elim (scalar_cases v s) [ inl h ↦ omega arith | inr h ↦ omega arith ]

surrogate_no_scalar : (v : ℕ) → 0xD800 ≤ v → v ≤ 0xDFFF → scalar v ≡ false
surrogate_no_scalar v l h =
    ap (λ (t : Bool). cond t true (nat_le 57344 v && nat_lt v 1114112)) (le-ltb v 55296 l)
    ∙ ap (λ (t : Bool). t && nat_lt v 1114112) (lt-leb 57344 v (omega arith))

either_true : (b c : Bool) → c ≡ true → cond b true c ≡ true
either_true true c e = refl
either_true false c e = e

no_scalar_surrogate : (v : ℕ) → v ≤ 0x10FFFF → scalar v ≡ false → (0xD800 ≤ v) × (v ≤ 0xDFFF)
no_scalar_surrogate v h s = (elim (cases_lt v 0xD800) [ inl l ↦ absurd (no_way (low_scalar v l)) | inr g ↦ g ], elim (cases_lt 0xDFFF v) [ inl g ↦ absurd (no_way (high g)) | inr l ↦ l ])
  where
    no_way : scalar v ≡ true → ⊥
    no_way e = cc

    high : 0xDFFF < v → scalar v ≡ true
    high g = either_true (nat_lt v 55296) (nat_le 57344 v && nat_lt v 1114112) (both_true (le-leb 57344 v (omega arith)) (lt-ltb v 1114112 (omega arith)))

-- the piece of a closed brace
few_digits : (inside after : List ℕ) → BeginsNumber inside → 0 < length (digits inside) → length (digits inside) ≤ 6 → hex_number (digits inside) ≤ 0x10FFFF → (t : Bool) → scalar (hex_number (digits inside)) ≡ t
    → Piece (92 ∷ 117 ∷ 123 ∷ (inside ++ 125 ∷ [])) after (brace_outcome (inside_tally inside))
few_digits inside after b more few low true s =
    let P : PieceValue → Type 0 = λ (o : PieceValue). Piece (92 ∷ 117 ∷ 123 ∷ (inside ++ 125 ∷ [])) after o in
    subst P (sym (closed_scalar (length (digits inside)) (hex_number (digits inside)) few low s)) (unicode inside b more few s)
few_digits inside after b more few low false s =
    let P : PieceValue → Type 0 = λ (o : PieceValue). Piece (92 ∷ 117 ∷ 123 ∷ (inside ++ 125 ∷ [])) after o in
    let r : (0xD800 ≤ hex_number (digits inside)) × (hex_number (digits inside) ≤ 0xDFFF) = no_scalar_surrogate (hex_number (digits inside)) low s in
    subst P (sym (closed_surrogate (length (digits inside)) (hex_number (digits inside)) few low s)) (lone_surrogate inside b few r.0 r.1)

closed_piece : (inside after : List ℕ) → BeginsNumber inside → 0 < length (digits inside) → Piece (92 ∷ 117 ∷ 123 ∷ (inside ++ 125 ∷ [])) after (brace_outcome (inside_tally inside))
closed_piece inside after b more =
    let P : PieceValue → Type 0 = λ (o : PieceValue). Piece (92 ∷ 117 ∷ 123 ∷ (inside ++ 125 ∷ [])) after o in
    elim (cases_lt 6 (length (digits inside))) [
      | inl l ↦ subst P (sym (closed_overlong (length (digits inside)) (hex_number (digits inside)) l)) (overlong inside b l)
      | inr few ↦ elim (cases_lt 0x10FFFF (hex_number (digits inside))) [
        | inl h ↦ subst P (sym (closed_large (length (digits inside)) (hex_number (digits inside)) few h)) (out_of_range inside b few h)
        | inr low ↦ few_digits inside after b more few low (scalar (hex_number (digits inside))) refl
      ]
    ]

digits_some : (d : ℕ) (more : List ℕ) → is_hex d ≡ true → 0 < length (digits (d ∷ more))
digits_some d more p =
    let e : digits (d ∷ more) ≡ d ∷ digits more = ap (λ (t : Bool). cond (not t) (d ∷ digits more) (digits more)) (hex_is_no d 95 p refl (d == 95) refl) in
    omega (arith, ap length e)

-- an underscore or a digit more
inside_grows : (more : List ℕ) (c : ℕ) → list_all is_hex_or_underscore more ≡ true → is_hex_or_underscore c ≡ true → list_all is_hex_or_underscore (more ++ c ∷ []) ≡ true
inside_grows more c p q = list_all-append is_hex_or_underscore more (c ∷ []) ∙ both_true p (both_true q refl)

or_right : (b c : Bool) → c ≡ true → (b || c) ≡ true
or_right true c e = refl
or_right false c e = e

or_left : (b c : Bool) → b ≡ true → (b || c) ≡ true
or_left b c e = ap (λ (t : Bool). t || c) e

or_neither : (b c : Bool) → b ≡ false → c ≡ false → (b || c) ≡ false
or_neither b c e f = ap (λ (t : Bool). t || c) e ∙ f

-- the text from the first digit on, where `more` was read and `cs` stands behind it
abbrev braced : ℕ → List ℕ → List ℕ → List ℕ
braced d more cs = 92 ∷ 117 ∷ 123 ∷ d ∷ (more ++ cs)

braced_grows : (d c : ℕ) (more cs : List ℕ) → braced d (more ++ c ∷ []) cs ≡ braced d more (c ∷ cs)
braced_grows d c more cs = ap (λ (xs : List ℕ). 92 ∷ 117 ∷ 123 ∷ d ∷ xs) (append_assoc more (c ∷ []) cs)

begins_inside : (d : ℕ) → is_hex d ≡ true → (cs more : List ℕ) → list_all is_hex_or_underscore more ≡ true → BeginsWithPiece (braced d more cs) (inside_braces (inside_tally (d ∷ more)) cs)
begins_inside d p [] more q = record { text = 92 ∷ 117 ∷ 123 ∷ d ∷ more; stands = refl; is_piece = unclosed (d ∷ more) (p, q) }
begins_inside d p (c ∷ cs) more q = go (begins_inside d p cs (more ++ c ∷ [])) (c == 95) (c == 125) (is_hex c) refl refl refl
  where
    go : (list_all is_hex_or_underscore (more ++ c ∷ []) ≡ true → BeginsWithPiece (braced d (more ++ c ∷ []) cs) (inside_braces (inside_tally (d ∷ (more ++ c ∷ []))) cs)) → (a b h : Bool) → (c == 95) ≡ a → (c == 125) ≡ b → is_hex c ≡ h
        → BeginsWithPiece (braced d more (c ∷ cs)) (if a then inside_braces (inside_tally (d ∷ more)) cs else (if b then piece_ahead (brace_outcome (inside_tally (d ∷ more))) cs else (if h then inside_braces (with_digit (inside_tally (d ∷ more)) (digit_value c)) cs else faulty InvalidCharInUnicodeEscape cs)))
    go rest true b h e f g =
        moved (braced_grows d c more cs) (ap (λ (t : Tally). inside_braces t cs) (tally_underscore (d ∷ more) c e))
        (rest (inside_grows more c q (or_right (is_hex c) (c == 95) e)))
    go rest false true h e f g = record {
      text = 92 ∷ 117 ∷ 123 ∷ ((d ∷ more) ++ 125 ∷ []);
      stands = ap (λ (x : ℕ). 92 ∷ 117 ∷ 123 ∷ d ∷ (more ++ x ∷ cs)) (eqb-true c 125 f) ∙ ap (λ (xs : List ℕ). 92 ∷ 117 ∷ 123 ∷ d ∷ xs) (sym (append_assoc more (125 ∷ []) cs));
      is_piece = closed_piece (d ∷ more) cs (p, q) (digits_some d more p);
    }
    go rest false false true e f g =
        moved (braced_grows d c more cs) (ap (λ (t : Tally). inside_braces t cs) (tally_digit (d ∷ more) c e))
        (rest (inside_grows more c q (or_left (is_hex c) (c == 95) g)))
    go rest false false false e f g = record {
      text = 92 ∷ 117 ∷ 123 ∷ ((d ∷ more) ++ c ∷ []);
      stands = ap (λ (xs : List ℕ). 92 ∷ 117 ∷ 123 ∷ d ∷ xs) (sym (append_assoc more (c ∷ []) cs));
      is_piece = bad_inside (d ∷ more) c (p, q) (or_neither (is_hex c) (c == 95) g e) (eqb-false c 125 f);
    }

one_digit : (d : ℕ) → is_hex d ≡ true → inside_tally (d ∷ []) ≡ tally 1 (digit_value d)
one_digit d p = ap (λ (t : Bool). tally (length (cond (not t) (d ∷ []) [])) (hex_number (cond (not t) (d ∷ []) []))) (hex_is_no d 95 p refl (d == 95) refl) ∙ ap (λ (v : ℕ). tally 1 v) (plain_value (digit_value d))
  where
    plain_value : (v : ℕ) → 0 * 16 + v ≡ v
    plain_value v = omega arith

begins_digit : (d : ℕ) (cs : List ℕ) (t u h : Bool) → (d == 95) ≡ t → (d == 125) ≡ u → is_hex d ≡ h
    → BeginsWithPiece (92 ∷ 117 ∷ 123 ∷ d ∷ cs) (if t then faulty LeadingUnderscoreUnicodeEscape cs else (if u then faulty EmptyUnicodeEscape cs else first_digit cs (if h then Some (digit_value d) else None)))
begins_digit d cs true u h e f g = record { text = 92 ∷ 117 ∷ 123 ∷ 95 ∷ []; stands = ap (λ (x : ℕ). 92 ∷ 117 ∷ 123 ∷ x ∷ cs) (eqb-true d 95 e); is_piece = leading_underscore }
begins_digit d cs false true h e f g = record { text = 92 ∷ 117 ∷ 123 ∷ 125 ∷ []; stands = ap (λ (x : ℕ). 92 ∷ 117 ∷ 123 ∷ x ∷ cs) (eqb-true d 125 f); is_piece = empty_braces }
begins_digit d cs false false true e f g = moved refl (ap (λ (t : Tally). inside_braces t cs) (one_digit d g)) (begins_inside d g cs [] refl)
begins_digit d cs false false false e f g = record { text = 92 ∷ 117 ∷ 123 ∷ d ∷ []; stands = refl; is_piece = bad_inside [] d tt (or_neither (is_hex d) (d == 95) g e) (eqb-false d 125 f) }

begins_brace : (cs : List ℕ) → BeginsWithPiece (92 ∷ 117 ∷ 123 ∷ cs) (behind_brace (first_of cs))
begins_brace [] = record { text = 92 ∷ 117 ∷ 123 ∷ []; stands = refl; is_piece = unclosed [] tt }
begins_brace (d ∷ cs) = begins_digit d cs (d == 95) (d == 125) (is_hex d) refl refl refl

begins_unicode : (cs : List ℕ) → BeginsWithPiece (92 ∷ 117 ∷ cs) (unicode_escape (first_of cs))
begins_unicode [] = record { text = 92 ∷ 117 ∷ []; stands = refl; is_piece = no_brace_but_end }
begins_unicode (c ∷ cs) = go (c == 123) refl
  where
    go : (t : Bool) → (c == 123) ≡ t → BeginsWithPiece (92 ∷ 117 ∷ c ∷ cs) (if t then behind_brace (first_of cs) else faulty NoBraceInUnicodeEscape cs)
    go true e = moved (ap (λ (x : ℕ). 92 ∷ 117 ∷ x ∷ cs) (sym (eqb-true c 123 e))) refl (begins_brace cs)
    go false e = record { text = 92 ∷ 117 ∷ c ∷ []; stands = refl; is_piece = no_brace c (eqb-false c 123 e) }

-- a backslash and a line feed

pub record Skips (cs : List ℕ) : Type 0 where
  pub blanks : List ℕ
  pub stands : cs ≡ blanks ++ unskipped_text cs
  pub all_blank : list_all is_blank blanks ≡ true
  pub ends : EndsBlanks (unskipped_text cs)

skips : (cs : List ℕ) → Skips cs
skips [] = record { blanks = []; stands = refl; all_blank = refl; ends = tt }
skips (c ∷ cs) = go (skips cs) (is_blank c) refl
  where
    go : Skips cs → (t : Bool) → is_blank c ≡ t → Skips (c ∷ cs)
    go s true e =
        let u : unskipped_text (c ∷ cs) ≡ unskipped_text cs = if_true (is_blank c) (unskipped_text cs) (c ∷ cs) e in
        record {
          blanks = c ∷ s.blanks;
          stands = ap (λ (xs : List ℕ). c ∷ xs) (s.stands ∙ ap (λ (xs : List ℕ). s.blanks ++ xs) (sym u));
          all_blank = both_true e s.all_blank;
          ends = subst EndsBlanks (sym u) s.ends;
        }
    go s false e =
        let u : unskipped_text (c ∷ cs) ≡ c ∷ cs = if_false (is_blank c) (unskipped_text cs) (c ∷ cs) e in
        record { blanks = []; stands = sym u; all_blank = refl; ends = subst EndsBlanks (sym u) e }

-- a backslash and one character

begins_short : (c : ℕ) (cs : List ℕ) (m : Option ℕ) → short_escape c ≡ m → c ≢ 120 → c ≢ 117 → c ≢ 10 → BeginsWithPiece (92 ∷ c ∷ cs) (piece_ahead (short_outcome m) cs)
begins_short c cs (Some m) e p q r = record { text = 92 ∷ c ∷ []; stands = refl; is_piece = short c m e }
begins_short c cs None e p q r = record { text = 92 ∷ c ∷ []; stands = refl; is_piece = invalid c e r p q }

begins_escape : (cs : List ℕ) → BeginsWithPiece (92 ∷ cs) (escape (first_of cs))
begins_escape [] = record { text = 92 ∷ []; stands = refl; is_piece = lone_slash }
begins_escape (c ∷ cs) = go (c == 120) (c == 117) (c == 10) refl refl refl
  where
    go : (a b n : Bool) → (c == 120) ≡ a → (c == 117) ≡ b → (c == 10) ≡ n
        → BeginsWithPiece (92 ∷ c ∷ cs) (if a then hex_escape (first_of cs) else (if b then unicode_escape (first_of cs) else (if n then piece_ahead Nothing (unskipped_text cs) else piece_ahead (short_outcome (short_escape c)) cs)))
    go true b n e f g = moved (ap (λ (x : ℕ). 92 ∷ x ∷ cs) (sym (eqb-true c 120 e))) refl (begins_hex cs)
    go false true n e f g = moved (ap (λ (x : ℕ). 92 ∷ x ∷ cs) (sym (eqb-true c 117 f))) refl (begins_unicode cs)
    go false false true e f g =
        let s : Skips cs = skips cs in
        record {
          text = 92 ∷ 10 ∷ s.blanks;
          stands = ap (λ (x : ℕ). 92 ∷ x ∷ cs) (eqb-true c 10 g) ∙ ap (λ (xs : List ℕ). 92 ∷ 10 ∷ xs) s.stands;
          is_piece = line_end s.blanks s.all_blank s.ends;
        }
    go false false false e f g = begins_short c cs (short_escape c) refl (eqb-false c 120 e) (eqb-false c 117 f) (eqb-false c 10 g)

-- the text begins with the piece that is read
pub begins : (c : ℕ) (cs : List ℕ) → BeginsWithPiece (c ∷ cs) (first_piece c cs)
begins c cs = go (c == 92) (c == 34) (c == 13) refl refl refl
  where
    go : (a b r : Bool) → (c == 92) ≡ a → (c == 34) ≡ b → (c == 13) ≡ r
        → BeginsWithPiece (c ∷ cs) (if a then escape (first_of cs) else (if b then faulty EscapeOnlyChar cs else (if r then faulty BareCarriageReturn cs else piece_ahead (Character c) cs)))
    go true b r e f g = moved (ap (λ (x : ℕ). x ∷ cs) (sym (eqb-true c 92 e))) refl (begins_escape cs)
    go false true r e f g = record { text = 34 ∷ []; stands = ap (λ (x : ℕ). x ∷ cs) (eqb-true c 34 f); is_piece = bare_quote }
    go false false true e f g = record { text = 13 ∷ []; stands = ap (λ (x : ℕ). x ∷ cs) (eqb-true c 13 g); is_piece = bare_return }
    go false false false e f g = record { text = c ∷ []; stands = refl; is_piece = plain c (eqb-false c 34 f) (eqb-false c 92 e) (eqb-false c 13 g) }

-- ---- a piece of the table is the one that is read

both_left : (b c : Bool) → (b && c) ≡ true → b ≡ true
both_left true c e = refl
both_left false c e = e

both_right : (b c : Bool) → (b && c) ≡ true → c ≡ true
both_right true c e = e
both_right false c e = absurd (no e)
  where
    no : false ≡ true → ⊥
    no h = cc

either_left : (b c : Bool) → (b || c) ≡ true → c ≡ false → b ≡ true
either_left true c p e = refl
either_left false c p e = absurd (no (sym e ∙ p))
  where
    no : false ≡ true → ⊥
    no h = cc

neither_left : (b c : Bool) → (b || c) ≡ false → b ≡ false
neither_left true c e = e
neither_left false c e = refl

neither_right : (b c : Bool) → (b || c) ≡ false → c ≡ false
neither_right true c e = absurd (no e)
  where
    no : true ≡ false → ⊥
    no h = cc
neither_right false c e = e

abbrev pub read_text : List ℕ → Option PieceAhead
read_text [] = None
read_text (c ∷ cs) = Some (first_piece c cs)

-- the tests that a first character passes
unlike : (c k : ℕ) → c ≢ k → (c == k) ≡ false
unlike c k n = ne_eqb c k n

reads_plain : (c : ℕ) (cs : List ℕ) → c ≢ 34 → c ≢ 92 → c ≢ 13 → first_piece c cs ≡ piece_ahead (Character c) cs
reads_plain c cs q b r =
    if_false (c == 92) (escape (first_of cs)) (if c == 34 then faulty EscapeOnlyChar cs else (if c == 13 then faulty BareCarriageReturn cs else piece_ahead (Character c) cs)) (unlike c 92 b)
    ∙ if_false (c == 34) (faulty EscapeOnlyChar cs) (if c == 13 then faulty BareCarriageReturn cs else piece_ahead (Character c) cs) (unlike c 34 q)
    ∙ if_false (c == 13) (faulty BareCarriageReturn cs) (piece_ahead (Character c) cs) (unlike c 13 r)

reads_other : (c : ℕ) (cs : List ℕ) → (c == 120) ≡ false → (c == 117) ≡ false → (c == 10) ≡ false → escape (Some (c, cs)) ≡ piece_ahead (short_outcome (short_escape c)) cs
reads_other c cs x u n =
    if_false (c == 120) (hex_escape (first_of cs)) (if c == 117 then unicode_escape (first_of cs) else (if c == 10 then piece_ahead Nothing (unskipped_text cs) else piece_ahead (short_outcome (short_escape c)) cs)) x
    ∙ if_false (c == 117) (unicode_escape (first_of cs)) (if c == 10 then piece_ahead Nothing (unskipped_text cs) else piece_ahead (short_outcome (short_escape c)) cs) u
    ∙ if_false (c == 10) (piece_ahead Nothing (unskipped_text cs)) (piece_ahead (short_outcome (short_escape c)) cs) n

-- a character that stands for one with a backslash is none that stands for none
short_is_no : (c k m : ℕ) → short_escape c ≡ Some m → short_escape k ≡ None → (t : Bool) → (c == k) ≡ t → t ≡ false
short_is_no c k m p q false e = refl
short_is_no c k m p q true e =
    let same : c ≡ k = eqb-true c k e in
    let no : short_escape c ≡ None = subst (λ (x : ℕ). short_escape x ≡ None) (sym same) q in
    let clash : Some m ≡ None = sym p ∙ no in
    cc

reads_blanks : (blanks after : List ℕ) → list_all is_blank blanks ≡ true → EndsBlanks after → unskipped_text (blanks ++ after) ≡ after
reads_blanks [] [] p q = refl
reads_blanks [] (c ∷ after) p q = if_false (is_blank c) (unskipped_text after) (c ∷ after) q
reads_blanks (b ∷ blanks) after p q =
    if_true (is_blank b) (unskipped_text (blanks ++ after)) (b ∷ (blanks ++ after)) (both_left (is_blank b) (list_all is_blank blanks) p)
    ∙ reads_blanks blanks after (both_right (is_blank b) (list_all is_blank blanks) p) q

-- two hex digits
reads_high : (a : ℕ) (cs : List ℕ) → is_hex a ≡ true → hex_escape (Some (a, cs)) ≡ behind_high (digit_value a) (first_of cs)
reads_high a cs p = ap (λ (t : Bool). high_digit cs (if t then Some (digit_value a) else None)) p

reads_low : (a b : ℕ) (cs : List ℕ) → is_hex a ≡ true → is_hex b ≡ true → hex_escape (Some (a, b ∷ cs)) ≡ ascii (digit_value a * 16 + digit_value b) cs
reads_low a b cs p q = reads_high a (b ∷ cs) p ∙ ap (λ (t : Bool). low_digit (digit_value a) cs (if t then Some (digit_value b) else None)) q

reads_short_hex : (ds : List ℕ) → list_all is_hex ds ≡ true → length ds ≤ 1 → hex_escape (first_of (ds ++ [])) ≡ faulty TooShortHexEscape []
reads_short_hex [] p h = refl
reads_short_hex (a ∷ []) p h = reads_high a [] (both_left (is_hex a) true p)
reads_short_hex (a ∷ b ∷ ds) p h = absurd (omega arith)

reads_bad_hex : (ds : List ℕ) (c : ℕ) (after : List ℕ) → list_all is_hex ds ≡ true → length ds ≤ 1 → is_hex c ≡ false → hex_escape (first_of ((ds ++ c ∷ []) ++ after)) ≡ faulty InvalidCharInHexEscape after
reads_bad_hex [] c after p h q = ap (λ (t : Bool). high_digit after (if t then Some (digit_value c) else None)) q
reads_bad_hex (a ∷ []) c after p h q = reads_high a (c ∷ after) (both_left (is_hex a) true p) ∙ ap (λ (t : Bool). low_digit (digit_value a) after (if t then Some (digit_value c) else None)) q
reads_bad_hex (a ∷ b ∷ ds) c after p h q = absurd (omega arith)

reads_one : (before : List ℕ) (c : ℕ) (cs : List ℕ) → is_hex_or_underscore c ≡ true → (t : Bool) → (c == 95) ≡ t → inside_braces (inside_tally before) (c ∷ cs) ≡ inside_braces (inside_tally (before ++ c ∷ [])) cs
reads_one before c cs p true e =
    ap (λ (t : Bool). if t then inside_braces (inside_tally before) cs else (if c == 125 then piece_ahead (brace_outcome (inside_tally before)) cs else (if is_hex c then inside_braces (with_digit (inside_tally before) (digit_value c)) cs else faulty InvalidCharInUnicodeEscape cs))) e
    ∙ ap (λ (t : Tally). inside_braces t cs) (sym (tally_underscore before c e))
reads_one before c cs p false e =
    let h : is_hex c ≡ true = either_left (is_hex c) (c == 95) p e in
    if_false (c == 95) (inside_braces (inside_tally before) cs) (if c == 125 then piece_ahead (brace_outcome (inside_tally before)) cs else (if is_hex c then inside_braces (with_digit (inside_tally before) (digit_value c)) cs else faulty InvalidCharInUnicodeEscape cs)) e
    ∙ if_false (c == 125) (piece_ahead (brace_outcome (inside_tally before)) cs) (if is_hex c then inside_braces (with_digit (inside_tally before) (digit_value c)) cs else faulty InvalidCharInUnicodeEscape cs) (hex_is_no c 125 h refl (c == 125) refl)
    ∙ if_true (is_hex c) (inside_braces (with_digit (inside_tally before) (digit_value c)) cs) (faulty InvalidCharInUnicodeEscape cs) h
    ∙ ap (λ (t : Tally). inside_braces t cs) (sym (tally_digit before c e))

-- digits and underscores between braces
reads_run : (before more tail : List ℕ) → list_all is_hex_or_underscore more ≡ true → inside_braces (inside_tally before) (more ++ tail) ≡ inside_braces (inside_tally (before ++ more)) tail
reads_run before [] tail p = ap (λ (xs : List ℕ). inside_braces (inside_tally xs) tail) (sym (append-nil before))
reads_run before (c ∷ more) tail p =
    reads_one before c (more ++ tail) (both_left (is_hex_or_underscore c) (list_all is_hex_or_underscore more) p) (c == 95) refl
    ∙ reads_run (before ++ c ∷ []) more tail (both_right (is_hex_or_underscore c) (list_all is_hex_or_underscore more) p)
    ∙ ap (λ (xs : List ℕ). inside_braces (inside_tally xs) tail) (append_assoc before (c ∷ []) more)

-- a whole number between braces, and what stands behind it
reads_number : (d : ℕ) (more tail : List ℕ) → is_hex d ≡ true → list_all is_hex_or_underscore more ≡ true → behind_brace (Some (d, more ++ tail)) ≡ inside_braces (inside_tally (d ∷ more)) tail
reads_number d more tail p q =
    if_false (d == 95) (faulty LeadingUnderscoreUnicodeEscape (more ++ tail)) (if d == 125 then faulty EmptyUnicodeEscape (more ++ tail) else first_digit (more ++ tail) (hex_digit d)) (hex_is_no d 95 p refl (d == 95) refl)
    ∙ if_false (d == 125) (faulty EmptyUnicodeEscape (more ++ tail)) (first_digit (more ++ tail) (hex_digit d)) (hex_is_no d 125 p refl (d == 125) refl)
    ∙ ap (λ (t : Bool). first_digit (more ++ tail) (if t then Some (digit_value d) else None)) p
    ∙ ap (λ (t : Tally). inside_braces t (more ++ tail)) (sym (one_digit d p))
    ∙ reads_run (d ∷ []) more tail q

reads_unclosed : (inside : List ℕ) → BeginsNumber inside → behind_brace (first_of (inside ++ [])) ≡ faulty UnclosedUnicodeEscape []
reads_unclosed [] b = refl
reads_unclosed (d ∷ more) b = reads_number d more [] b.0 b.1

reads_bad : (t : Tally) (c : ℕ) (after : List ℕ) → is_hex_or_underscore c ≡ false → c ≢ 125 → inside_braces t (c ∷ after) ≡ faulty InvalidCharInUnicodeEscape after
reads_bad t c after p n =
    if_false (c == 95) (inside_braces t after) (if c == 125 then piece_ahead (brace_outcome t) after else (if is_hex c then inside_braces (with_digit t (digit_value c)) after else faulty InvalidCharInUnicodeEscape after)) (neither_right (is_hex c) (c == 95) p)
    ∙ if_false (c == 125) (piece_ahead (brace_outcome t) after) (if is_hex c then inside_braces (with_digit t (digit_value c)) after else faulty InvalidCharInUnicodeEscape after) (unlike c 125 n)
    ∙ if_false (is_hex c) (inside_braces (with_digit t (digit_value c)) after) (faulty InvalidCharInUnicodeEscape after) (neither_left (is_hex c) (c == 95) p)

reads_bad_inside : (inside : List ℕ) (c : ℕ) (after : List ℕ) → BeginsNumber inside → is_hex_or_underscore c ≡ false → c ≢ 125 → behind_brace (first_of ((inside ++ c ∷ []) ++ after)) ≡ faulty InvalidCharInUnicodeEscape after
reads_bad_inside [] c after b p n =
    if_false (c == 95) (faulty LeadingUnderscoreUnicodeEscape after) (if c == 125 then faulty EmptyUnicodeEscape after else first_digit after (hex_digit c)) (neither_right (is_hex c) (c == 95) p)
    ∙ if_false (c == 125) (faulty EmptyUnicodeEscape after) (first_digit after (hex_digit c)) (unlike c 125 n)
    ∙ ap (λ (t : Bool). first_digit after (if t then Some (digit_value c) else None)) (neither_left (is_hex c) (c == 95) p)
reads_bad_inside (d ∷ more) c after b p n =
    ap (λ (xs : List ℕ). behind_brace (Some (d, xs))) (append_assoc more (c ∷ []) after)
    ∙ reads_number d more (c ∷ after) b.0 b.1
    ∙ reads_bad (inside_tally (d ∷ more)) c after p n

reads_closed : (inside after : List ℕ) → BeginsNumber inside → 0 < length (digits inside) → behind_brace (first_of ((inside ++ 125 ∷ []) ++ after)) ≡ piece_ahead (brace_outcome (inside_tally inside)) after
reads_closed [] after b h = absurd (omega arith)
reads_closed (d ∷ more) after b h =
    ap (λ (xs : List ℕ). behind_brace (Some (d, xs))) (append_assoc more (125 ∷ []) after)
    ∙ reads_number d more (125 ∷ after) b.0 b.1

closes : (inside after : List ℕ) (o : PieceValue) → BeginsNumber inside → 0 < length (digits inside) → brace_outcome (inside_tally inside) ≡ o → read_text ((92 ∷ 117 ∷ 123 ∷ (inside ++ 125 ∷ [])) ++ after) ≡ Some (piece_ahead o after)
closes inside after o b h e = ap (λ (r : PieceAhead). Some r) (reads_closed inside after b h) ∙ ap (λ (x : PieceValue). Some (piece_ahead x after)) e

some_digits : (inside : List ℕ) → 0 < hex_number (digits inside) → 0 < length (digits inside)
some_digits inside h = go (digits inside) h
  where
    go : (ds : List ℕ) → 0 < hex_number ds → 0 < length ds
    go [] h = h
    go (d ∷ ds) h = omega arith

-- the table's piece is the one that is read
pub piece_is_read : (text after : List ℕ) (o : PieceValue) → Piece text after o → read_text (text ++ after) ≡ Some (piece_ahead o after)
piece_is_read _ after _ (plain c q b r) = ap (λ (x : PieceAhead). Some x) (reads_plain c after q b r)
piece_is_read _ _ _ bare_quote = refl
piece_is_read _ _ _ bare_return = refl
piece_is_read _ _ _ lone_slash = refl
piece_is_read _ after _ (short c m e) =
    ap (λ (x : PieceAhead). Some x) (reads_other c after (short_is_no c 120 m e refl (c == 120) refl) (short_is_no c 117 m e refl (c == 117) refl) (short_is_no c 10 m e refl (c == 10) refl))
    ∙ ap (λ (x : Option ℕ). Some (piece_ahead (short_outcome x) after)) e
piece_is_read _ after _ (line_end blanks p q) = ap (λ (xs : List ℕ). Some (piece_ahead Nothing xs)) (reads_blanks blanks after p q)
piece_is_read _ after _ (hex a b p q l) =
    ap (λ (x : PieceAhead). Some x) (reads_low a b after p q ∙ if_false (nat_lt 0x7F (digit_value a * 16 + digit_value b)) (faulty OutOfRangeHexEscape after) (piece_ahead (Character (digit_value a * 16 + digit_value b)) after) (le-ltb 0x7F (digit_value a * 16 + digit_value b) l))
piece_is_read _ after _ (large_hex a b p q l) =
    ap (λ (x : PieceAhead). Some x) (reads_low a b after p q ∙ if_true (nat_lt 0x7F (digit_value a * 16 + digit_value b)) (faulty OutOfRangeHexEscape after) (piece_ahead (Character (digit_value a * 16 + digit_value b)) after) (lt-ltb 0x7F (digit_value a * 16 + digit_value b) l))
piece_is_read _ _ _ (short_hex ds p l) = ap (λ (x : PieceAhead). Some x) (reads_short_hex ds p l)
piece_is_read _ after _ (bad_hex ds c p l q) = ap (λ (x : PieceAhead). Some x) (reads_bad_hex ds c after p l q)
piece_is_read _ _ _ no_brace_but_end = refl
piece_is_read _ after _ (no_brace c n) = ap (λ (x : PieceAhead). Some x) (if_false (c == 123) (behind_brace (first_of after)) (faulty NoBraceInUnicodeEscape after) (unlike c 123 n))
piece_is_read _ _ _ empty_braces = refl
piece_is_read _ _ _ leading_underscore = refl
piece_is_read _ _ _ (unclosed inside b) = ap (λ (x : PieceAhead). Some x) (reads_unclosed inside b)
piece_is_read _ after _ (bad_inside inside c b p n) = ap (λ (x : PieceAhead). Some x) (reads_bad_inside inside c after b p n)
piece_is_read _ after _ (unicode inside b some few s) = closes inside after _ b some (closed_scalar (length (digits inside)) (hex_number (digits inside)) few (scalar_fits (hex_number (digits inside)) s) s)
piece_is_read _ after _ (overlong inside b many) = closes inside after _ b (omega arith) (closed_overlong (length (digits inside)) (hex_number (digits inside)) many)
piece_is_read _ after _ (out_of_range inside b few l) = closes inside after _ b (some_digits inside (omega arith)) (closed_large (length (digits inside)) (hex_number (digits inside)) few l)
piece_is_read _ after _ (lone_surrogate inside b few l h) = closes inside after _ b (some_digits inside (omega arith)) (closed_surrogate (length (digits inside)) (hex_number (digits inside)) few (omega arith) (surrogate_no_scalar (hex_number (digits inside)) l h))
piece_is_read _ after _ (invalid c e n x u) =
    ap (λ (r : PieceAhead). Some r) (reads_other c after (unlike c 120 x) (unlike c 117 u) (unlike c 10 n)) ∙ ap (λ (m : Option ℕ). Some (piece_ahead (short_outcome m) after)) e

pub piece_is_first : (c : ℕ) (text after cs : List ℕ) (o : PieceValue) → Piece text after o → text ++ after ≡ c ∷ cs → first_piece c cs ≡ piece_ahead o after
piece_is_first c text after cs o p e =
    let read : Some (first_piece c cs) ≡ Some (piece_ahead o after) = ap read_text (sym e) ∙ piece_is_read text after o p in
    cc
