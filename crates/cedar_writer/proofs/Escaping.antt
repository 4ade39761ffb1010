-- What is escaped stands for the text, or the pattern, that was escaped, and is a string's text.
use Rattle.std.proofs.Common.{◌≡◌, ◌≢◌, ℕ, ◌+◌, ◌-◌, ◌*◌, ◌/◌, ◌%◌, ◌<◌, ◌≤◌, Bool, true, false, List, [], ◌∷◌, ◌++◌, length, take, drop, refl, sym, ap, ap₂, ◌∙◌, subst, codes, arith, append_assoc}
use Rattle.std.specs.Prelude.{◌&&◌, ◌||◌, ◌==◌, nat_lt, not}
use Rattle.std.specs.Char.{IsScalar, encode_utf8, digit_char, digit_value}
use Rattle.std.specs.Str.{IsUtf8, chars, encode_utf8_all, all_scalars}
use Rattle.std.specs.Cmp.Derive.{both_true}
use Rattle.std.proofs.Math.Seq.{take-append_seam}
use Rattle.std.proofs.Math.Utf8.{low_scalar}
use Rattle.std.proofs.lemmas.Bool.{cond_both, and_parts, eqb-true, eqb-false, ne_eqb, lt-ltb, ltb-true, ltb-false}
use Rattle.std.proofs.lemmas.List.{length-append}
use Rattle.std.proofs.lemmas.Nat.{div-add-mod', mod_below}
use Rattle.std.proofs.lemmas.Str.{chars-encodes, encodes-chars, scalars-chars, encode_ascii, digit_value-digit_char}
use Rattle.cedar_lexer.specs.Spelling.{IsStringTail, closing, plain as plain_tail, escaped as escaped_tail, Spells}
use Rattle.cedar_lexer.specs.declared.token.TokenKind.TheVariants as kind
use Rattle.cedar_expressions.specs.declared.atoms.PatternElem.{PatternElem}
use Rattle.cedar_expressions.specs.declared.atoms.PatternElem.TheVariants.{Char, Wildcard}
use Rattle.cedar_syntax.specs.declared.err.escape.EscapeError.TheVariants.{InvalidEscape}
use Rattle.cedar_syntax.specs.declared.err.escape.UnescapeError.{UnescapeError}
use Rattle.cedar_syntax.specs.declared.unescape.piece.PieceValue.{PieceValue}
use Rattle.cedar_syntax.specs.declared.unescape.piece.PieceValue.TheVariants.{Character, Fault}
use Rattle.cedar_syntax.specs.strings.Piece.{Piece, plain, short, unicode, invalid, Placed, PieceLayout, end_of_text, piece, piece_at, bytes_len, IsUnescaped, piece_faults, unescaped_pieces, is_hex, is_no_underscore, is_hex_or_underscore, digits, hex_number, BeginsNumber}
use Rattle.cedar_syntax.specs.strings.Pattern.{IsPattern, elem_of, pattern_fault_of, pattern_faults, pattern_pieces}
use Rattle.cedar_syntax.specs.tokens.Tokens.{between_quotes}
use Rattle.cedar_expressions.specs.Escapes.{is_hidden, hex_digits, code_escape, escaped_scalar, escaped_elem, escaped_chars, escaped_elems, escaped_text, escaped_pattern, quoted}
use Rattle.cedar_writer.specs.Writable.{IsWritablePattern}

-- ---- how a character is written, by cases

by_escape : (P : ℕ → List ℕ → Type 0) (c : ℕ) → P 34 (codes "\\\"") → P 92 (codes "\\\\") → P 10 (codes "\\n") → P 13 (codes "\\r") → P 9 (codes "\\t") → P 0 (codes "\\0")
    → (c < 0x1_0000 → P c (code_escape c)) → (c ≢ 34 → c ≢ 92 → c ≢ 13 → P c (c ∷ [])) → P c (escaped_scalar c)
by_escape P c q b n r t z u p =
    cond_both (c == 34) _ _ (P c) (λ e. subst (λ x. P x (codes "\\\"")) (sym (eqb-true c 34 e)) q) (λ no_quote.
    cond_both (c == 92) _ _ (P c) (λ e. subst (λ x. P x (codes "\\\\")) (sym (eqb-true c 92 e)) b) (λ no_slash.
    cond_both (c == 10) _ _ (P c) (λ e. subst (λ x. P x (codes "\\n")) (sym (eqb-true c 10 e)) n) (λ no_feed.
    cond_both (c == 13) _ _ (P c) (λ e. subst (λ x. P x (codes "\\r")) (sym (eqb-true c 13 e)) r) (λ no_return.
    cond_both (c == 9) _ _ (P c) (λ e. subst (λ x. P x (codes "\\t")) (sym (eqb-true c 9 e)) t) (λ no_tab.
    cond_both (c == 0) _ _ (P c) (λ e. subst (λ x. P x (codes "\\0")) (sym (eqb-true c 0 e)) z) (λ no_zero.
    cond_both (nat_lt c 0x1_0000 && is_hidden c) _ _ (P c) (λ e. u (ltb-true c 0x1_0000 (and_parts _ _ e).0))
    (λ e. p (eqb-false c 34 no_quote) (eqb-false c 92 no_slash) (eqb-false c 13 no_return))))))))

-- ---- four hex digits

record HexDigit (d : ℕ) : Type 0 where
  hex : is_hex (digit_char d) ≡ true
  no_underscore : is_no_underscore (digit_char d) ≡ true
  value : digit_value (digit_char d) ≡ d
  low : digit_char d < 123
  no_quote : digit_char d ≢ 34
  no_slash : digit_char d ≢ 92

record Glyph (x : ℕ) : Type 0 where
  low : x < 123
  no_quote : x ≢ 34
  no_slash : x ≢ 92
  no_underscore : x ≢ 95

glyph : (d : ℕ) → d < 16 → Glyph (digit_char d)
glyph d h = cond_both (nat_lt d 10) (48 + d) (87 + d) Glyph
    (λ e. let l : d < 10 = ltb-true d 10 e in record { low = omega (arith, l); no_quote = λ q. omega (arith, q); no_slash = λ q. omega (arith, q, l); no_underscore = λ q. omega (arith, q, l) })
    (λ e. let l : 10 ≤ d = ltb-false d 10 e in record { low = omega (arith, h); no_quote = λ q. omega (arith, q); no_slash = λ q. omega (arith, q, l); no_underscore = λ q. omega (arith, q, l) })

hex_digit_is : (d : ℕ) → d < 16 → HexDigit d
hex_digit_is d h =
    let v : digit_value (digit_char d) ≡ d = digit_value-digit_char d (omega (arith, h)) in
    let g = glyph d h in
    record {
      hex = ap (λ x. nat_lt x 16) v ∙ lt-ltb d 16 h;
      no_underscore = ap not (ne_eqb (digit_char d) 95 g.no_underscore);
      value = v;
      low = g.low;
      no_quote = g.no_quote;
      no_slash = g.no_slash;
    }

record Four (c : ℕ) : Type 0 where
  a : HexDigit (c / 16 / 16 / 16)
  b : HexDigit (c / 16 / 16 % 16)
  d : HexDigit (c / 16 % 16)
  e : HexDigit (c % 16)

four : (c : ℕ) → c < 0x1_0000 → Four c
four c h =
    let x : c / 16 * 16 + c % 16 ≡ c = div-add-mod' c 16 in
    let y : c / 16 / 16 * 16 + c / 16 % 16 ≡ c / 16 = div-add-mod' (c / 16) 16 in
    let z : c / 16 / 16 / 16 * 16 + c / 16 / 16 % 16 ≡ c / 16 / 16 = div-add-mod' (c / 16 / 16) 16 in
    record {
      a = hex_digit_is (c / 16 / 16 / 16) (omega (arith, x, y, z, h));
      b = hex_digit_is (c / 16 / 16 % 16) (mod_below (c / 16 / 16) 16 (omega arith));
      d = hex_digit_is (c / 16 % 16) (mod_below (c / 16) 16 (omega arith));
      e = hex_digit_is (c % 16) (mod_below c 16 (omega arith));
    }

kept : (x : ℕ) (xs ys : List ℕ) → is_no_underscore x ≡ true → digits xs ≡ ys → digits (x ∷ xs) ≡ x ∷ ys
kept x xs ys h e = rw h (ap (λ t. x ∷ t) e)

four_digits : (c : ℕ) → Four c → digits (hex_digits c) ≡ hex_digits c
four_digits c f =
    kept (digit_char (c / 16 / 16 / 16)) (digit_char (c / 16 / 16 % 16) ∷ digit_char (c / 16 % 16) ∷ digit_char (c % 16) ∷ []) (digit_char (c / 16 / 16 % 16) ∷ digit_char (c / 16 % 16) ∷ digit_char (c % 16) ∷ []) f.a.no_underscore
    (kept (digit_char (c / 16 / 16 % 16)) (digit_char (c / 16 % 16) ∷ digit_char (c % 16) ∷ []) (digit_char (c / 16 % 16) ∷ digit_char (c % 16) ∷ []) f.b.no_underscore
    (kept (digit_char (c / 16 % 16)) (digit_char (c % 16) ∷ []) (digit_char (c % 16) ∷ []) f.d.no_underscore
    (kept (digit_char (c % 16)) [] [] f.e.no_underscore refl)))

four_number : (c : ℕ) → Four c → hex_number (hex_digits c) ≡ c
four_number c f =
    let x : c / 16 * 16 + c % 16 ≡ c = div-add-mod' c 16 in
    let y : c / 16 / 16 * 16 + c / 16 % 16 ≡ c / 16 = div-add-mod' (c / 16) 16 in
    let z : c / 16 / 16 / 16 * 16 + c / 16 / 16 % 16 ≡ c / 16 / 16 = div-add-mod' (c / 16 / 16) 16 in
    omega (arith, x, y, z, f.a.value, f.b.value, f.d.value, f.e.value)

or_true : (a b : Bool) → a ≡ true → (a || b) ≡ true
or_true a b e = rw e refl

hex_or : (x : ℕ) → is_hex x ≡ true → is_hex_or_underscore x ≡ true
hex_or x h = or_true (is_hex x) (x == 95) h

four_begin : (c : ℕ) → Four c → BeginsNumber (hex_digits c)
four_begin c f = (f.a.hex, both_true (hex_or (digit_char (c / 16 / 16 % 16)) f.b.hex) (both_true (hex_or (digit_char (c / 16 % 16)) f.d.hex) (both_true (hex_or (digit_char (c % 16)) f.e.hex) refl)))

unicode_piece : (c : ℕ) (after : List ℕ) → IsScalar c → c < 0x1_0000 → Piece (code_escape c) after (Character c)
unicode_piece c after s h =
    let f = four c h in
    let n : hex_number (digits (hex_digits c)) ≡ c = ap hex_number (four_digits c f) ∙ four_number c f in
    let l : length (digits (hex_digits c)) ≡ 4 = ap length (four_digits c f) in
    subst (λ x. Piece (code_escape c) after (Character x)) n
    (unicode (hex_digits c) (four_begin c f) (omega (arith, l)) (omega (arith, l)) (subst IsScalar (sym n) s))

-- ---- one character: its piece, its characters, and its part of a string

char_piece : (c : ℕ) (after : List ℕ) → IsScalar c → Piece (escaped_scalar c) after (Character c)
char_piece c after s =
    by_escape (λ x text. Piece text after (Character x)) c
    (short 34 34 refl) (short 92 92 refl) (short 110 10 refl) (short 114 13 refl) (short 116 9 refl) (short 48 0 refl)
    (λ h. unicode_piece c after s h) (λ q b r. plain c q b r)

low : (x : ℕ) → x < 123 → IsScalar x
low x h = low_scalar x (omega (arith, h))

char_scalars : (c : ℕ) → IsScalar c → all_scalars (escaped_scalar c) ≡ true
char_scalars c s =
    by_escape (λ x text. all_scalars text ≡ true) c refl refl refl refl refl refl
    (λ h. let f = four c h in both_true (low (digit_char (c / 16 / 16 / 16)) f.a.low) (both_true (low (digit_char (c / 16 / 16 % 16)) f.b.low) (both_true (low (digit_char (c / 16 % 16)) f.d.low) (both_true (low (digit_char (c % 16)) f.e.low) refl))))
    (λ q b r. both_true s refl)

scalars_join : (xs ys : List ℕ) → all_scalars xs ≡ true → all_scalars ys ≡ true → all_scalars (xs ++ ys) ≡ true
scalars_join [] ys h k = k
scalars_join (x ∷ xs) ys h k = let p = and_parts _ _ h in both_true p.0 (scalars_join xs ys p.1 k)

-- these characters and a quote are the tail of a string
abbrev Tail : List ℕ → Type 0
Tail cs = IsStringTail (encode_utf8_all cs ++ codes "\"")

slash_tail : (x : ℕ) (rest : List ℕ) → IsScalar x → Tail rest → Tail (92 ∷ x ∷ rest)
slash_tail x rest s t =
    subst IsStringTail (sym (ap (λ a. (a ++ (encode_utf8 x ++ encode_utf8_all rest)) ++ codes "\"") (encode_ascii 92 (omega arith)) ∙ ap (λ a. 92 ∷ a) (append_assoc (encode_utf8 x) (encode_utf8_all rest) (codes "\""))))
    (escaped_tail x (encode_utf8_all rest ++ codes "\"") s t)

plain_char_tail : (x : ℕ) (rest : List ℕ) → IsScalar x → x ≢ 34 → x ≢ 92 → Tail rest → Tail (x ∷ rest)
plain_char_tail x rest s q b t =
    subst IsStringTail (sym (append_assoc (encode_utf8 x) (encode_utf8_all rest) (codes "\"")))
    (plain_tail x (encode_utf8_all rest ++ codes "\"") s q b t)

glyph_tail : (d : ℕ) (rest : List ℕ) → HexDigit d → Tail rest → Tail (digit_char d ∷ rest)
glyph_tail d rest h t = plain_char_tail (digit_char d) rest (low _ h.low) h.no_quote h.no_slash t

no_34 : (k : ℕ) → 34 < k → k ≢ 34
no_34 k h e = omega (arith, h, e)

brace_tail : (rest : List ℕ) → Tail rest → Tail (125 ∷ rest)
brace_tail rest t = plain_char_tail 125 rest refl (λ e. omega (arith, e)) (λ e. omega (arith, e)) t

open_tail : (rest : List ℕ) → Tail rest → Tail (92 ∷ 117 ∷ 123 ∷ rest)
open_tail rest t = slash_tail 117 (123 ∷ rest) refl (plain_char_tail 123 rest refl (λ e. omega (arith, e)) (λ e. omega (arith, e)) t)

char_tail : (c : ℕ) (rest : List ℕ) → IsScalar c → Tail rest → Tail (escaped_scalar c ++ rest)
char_tail c rest s t =
    by_escape (λ x text. Tail (text ++ rest)) c
    (slash_tail 34 rest refl t) (slash_tail 92 rest refl t) (slash_tail 110 rest refl t) (slash_tail 114 rest refl t) (slash_tail 116 rest refl t) (slash_tail 48 rest refl t)
    (λ h. let f = four c h in open_tail (digit_char (c / 16 / 16 / 16) ∷ digit_char (c / 16 / 16 % 16) ∷ digit_char (c / 16 % 16) ∷ digit_char (c % 16) ∷ 125 ∷ rest) (glyph_tail (c / 16 / 16 / 16) (digit_char (c / 16 / 16 % 16) ∷ digit_char (c / 16 % 16) ∷ digit_char (c % 16) ∷ 125 ∷ rest) f.a (glyph_tail (c / 16 / 16 % 16) (digit_char (c / 16 % 16) ∷ digit_char (c % 16) ∷ 125 ∷ rest) f.b (glyph_tail (c / 16 % 16) (digit_char (c % 16) ∷ 125 ∷ rest) f.d (glyph_tail (c % 16) (125 ∷ rest) f.e (brace_tail rest t))))))
    (λ q b r. plain_char_tail c rest s q b t)

end_tail : Tail []
end_tail = closing

-- ---- texts

record Laid (start : ℕ) (cs : List ℕ) : Type 0 where
  pieces : List Placed
  laid : PieceLayout start (escaped_chars cs) pieces
  faultless : (raw : List ℕ) → piece_faults raw pieces ≡ []
  text : unescaped_pieces pieces ≡ encode_utf8_all cs

laid_chars : (start : ℕ) (cs : List ℕ) → all_scalars cs ≡ true → Laid start cs
laid_chars start [] s = record { pieces = []; laid = end_of_text; faultless = λ raw. refl; text = refl }
laid_chars start (c ∷ cs) s =
    let p = and_parts _ _ s in
    let more = laid_chars (start + bytes_len (escaped_scalar c)) cs p.1 in
    record {
      pieces = piece_at start (escaped_scalar c) (Character c) ∷ more.pieces;
      laid = piece (escaped_scalar c) (escaped_chars cs) (Character c) refl (char_piece c (escaped_chars cs) p.0) more.laid;
      faultless = more.faultless;
      text = ap (λ t. encode_utf8 c ++ t) more.text;
    }

chars_scalars : (cs : List ℕ) → all_scalars cs ≡ true → all_scalars (escaped_chars cs) ≡ true
chars_scalars [] s = refl
chars_scalars (c ∷ cs) s = let p = and_parts _ _ s in scalars_join (escaped_scalar c) (escaped_chars cs) (char_scalars c p.0) (chars_scalars cs p.1)

chars_tail : (cs : List ℕ) → all_scalars cs ≡ true → Tail (escaped_chars cs)
chars_tail [] s = end_tail
chars_tail (c ∷ cs) s = let p = and_parts _ _ s in char_tail c (escaped_chars cs) p.0 (chars_tail cs p.1)

pub unescapes : (text : List ℕ) → IsUtf8 text → IsUnescaped (escaped_text text) text
unescapes text u =
    let s : all_scalars (chars text) ≡ true = scalars-chars text u in
    let l = laid_chars 0 (chars text) s in
    record {
      pieces = l.pieces;
      laid_out = subst (λ cs. PieceLayout 0 cs l.pieces) (sym (chars-encodes (escaped_chars (chars text)) (chars_scalars (chars text) s))) l.laid;
      faultless = l.faultless (escaped_text text);
      unescaped = l.text ∙ encodes-chars text u;
    }

pub string_spelled : (text : List ℕ) → IsUtf8 text → Spells kind.StringLit (quoted (escaped_text text))
string_spelled text u = (refl, chars_tail (chars text) (scalars-chars text u))

-- ---- patterns

record Elem (e : PatternElem) : Type 0 where
  outcome : PieceValue
  is_piece : (after : List ℕ) → Piece (escaped_elem e) after outcome
  faultless : (raw : List ℕ) (start : ℕ) → pattern_fault_of raw (piece_at start (escaped_elem e) outcome) outcome ≡ []
  stands : (start : ℕ) → elem_of (piece_at start (escaped_elem e) outcome) outcome ≡ e ∷ []
  scalars : all_scalars (escaped_elem e) ≡ true
  tail : (rest : List ℕ) → Tail rest → Tail (escaped_elem e ++ rest)

abbrev elem_text : ℕ → List ℕ → Type 0
elem_text c text = (outcome : PieceValue) × ((after : List ℕ) → Piece text after outcome) × ((raw : List ℕ) (start : ℕ) → pattern_fault_of raw (piece_at start text outcome) outcome ≡ [])
    × ((start : ℕ) → elem_of (piece_at start text outcome) outcome ≡ Char c ∷ []) × (all_scalars text ≡ true) × ((rest : List ℕ) → Tail rest → Tail (text ++ rest))

star_text : elem_text 42 (codes "\\*")
star_text = (Fault InvalidEscape, (λ after. invalid 42 refl (λ e. omega (arith, e)) (λ e. omega (arith, e)) (λ e. omega (arith, e))), (λ raw start. refl), (λ start. refl), refl, (λ rest t. slash_tail 42 rest refl t))

char_text : (c : ℕ) → IsScalar c → (c == 42) ≡ false → elem_text c (escaped_scalar c)
char_text c s n = (Character c, (λ after. char_piece c after s), (λ raw start. refl), (λ start. rw n refl), char_scalars c s, (λ rest t. char_tail c rest s t))

char_elem_text : (c : ℕ) → IsScalar c → elem_text c (escaped_elem (Char c))
char_elem_text c s = cond_both (c == 42) (codes "\\*") (escaped_scalar c) (elem_text c)
    (λ e. subst (λ x. elem_text x (codes "\\*")) (sym (eqb-true c 42 e)) star_text)
    (λ e. char_text c s e)

char_elem : (c : ℕ) → IsScalar c → Elem (Char c)
char_elem c s =
    let t = char_elem_text c s in
    record { outcome = t.0; is_piece = t.1; faultless = t.2; stands = t.3; scalars = t.4; tail = t.5 }

wild_elem : Elem Wildcard
wild_elem = record {
  outcome = Character 42;
  is_piece = λ after. plain 42 (λ e. omega (arith, e)) (λ e. omega (arith, e)) (λ e. omega (arith, e));
  faultless = λ raw start. refl;
  stands = λ start. refl;
  scalars = refl;
  tail = λ rest t. plain_char_tail 42 rest refl (λ e. omega (arith, e)) (λ e. omega (arith, e)) t;
}

record LaidElems (start : ℕ) (es : List PatternElem) : Type 0 where
  pieces : List Placed
  laid : PieceLayout start (escaped_elems es) pieces
  faultless : (raw : List ℕ) → pattern_faults raw pieces ≡ []
  parts : pattern_pieces pieces ≡ es
  scalars : all_scalars (escaped_elems es) ≡ true
  tail : Tail (escaped_elems es)

laid_one : (start : ℕ) (e : PatternElem) (es : List PatternElem) → Elem e → ((start : ℕ) → LaidElems start es) → LaidElems start (e ∷ es)
laid_one start e es h rest =
    let more = rest (start + bytes_len (escaped_elem e)) in
    record {
      pieces = piece_at start (escaped_elem e) h.outcome ∷ more.pieces;
      laid = piece (escaped_elem e) (escaped_elems es) h.outcome refl (h.is_piece (escaped_elems es)) more.laid;
      faultless = λ raw. ap₂ (λ (a b : List UnescapeError). a ++ b) (h.faultless raw start) (more.faultless raw);
      parts = ap₂ (λ (a b : List PatternElem). a ++ b) (h.stands start) more.parts;
      scalars = scalars_join (escaped_elem e) (escaped_elems es) h.scalars more.scalars;
      tail = h.tail (escaped_elems es) more.tail;
    }

laid_elems : (es : List PatternElem) → IsWritablePattern es → (start : ℕ) → LaidElems start es
laid_elems [] w start = record { pieces = []; laid = end_of_text; faultless = λ raw. refl; parts = refl; scalars = refl; tail = end_tail }
laid_elems (Char c ∷ es) w start = laid_one start (Char c) es (char_elem c w.0) (laid_elems es w.1)
laid_elems (Wildcard ∷ es) w start = laid_one start Wildcard es wild_elem (laid_elems es w)

pub is_pattern : (es : List PatternElem) → IsWritablePattern es → IsPattern (escaped_pattern es) es
is_pattern es w =
    let l = laid_elems es w 0 in
    record {
      pieces = l.pieces;
      laid_out = subst (λ cs. PieceLayout 0 cs l.pieces) (sym (chars-encodes (escaped_elems es) l.scalars)) l.laid;
      faultless = l.faultless (escaped_pattern es);
      parts = l.parts;
    }

pub pattern_spelled : (es : List PatternElem) → IsWritablePattern es → Spells kind.StringLit (quoted (escaped_pattern es))
pattern_spelled es w = (refl, (laid_elems es w 0).tail)

-- ---- between quotes

pub inside : (raw : List ℕ) → between_quotes (quoted raw) ≡ raw
inside raw =
    let n : length (34 ∷ (raw ++ 34 ∷ [])) - 1 ≡ length (34 ∷ raw) = omega (arith, length-append raw (34 ∷ [])) in
    ap (λ k. drop 1 (take k (34 ∷ (raw ++ 34 ∷ [])))) n ∙ ap (drop 1) (take-append_seam (34 ∷ raw) (34 ∷ []))

pub text_stands : (text : List ℕ) → IsUtf8 text → IsUnescaped (between_quotes (quoted (escaped_text text))) text
text_stands text u = subst (λ raw. IsUnescaped raw text) (sym (inside (escaped_text text))) (unescapes text u)

pub pattern_stands : (ps : List PatternElem) → IsWritablePattern ps → IsPattern (between_quotes (quoted (escaped_pattern ps))) ps
pattern_stands ps w = subst (λ raw. IsPattern raw ps) (sym (inside (escaped_pattern ps))) (is_pattern ps w)
