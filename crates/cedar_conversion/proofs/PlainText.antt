-- A raw text of characters that stand for themselves is what it stands for.
use Rattle.std.proofs.Common.{◌≡◌, ◌≢◌, ◌+◌, ◌&&◌, ℕ, Bool, true, false, List, [], ◌∷◌, ◌++◌, encode_utf8, encode_utf8_all, chars, IsUtf8, refl, sym, ap, ◌∙◌, subst}
use lib.Utf8.{encode}
use Rattle.std.specs.List.{list_all}
use Rattle.std.proofs.lemmas.List.Folds.{list_all-append}
use Rattle.std.proofs.lemmas.Str.{encodes-chars}
use Rattle.cedar_syntax.specs.declared.unescape.piece.PieceValue.TheVariants.{Character}
use Rattle.cedar_syntax.specs.strings.Piece.{Placed, PieceLayout, IsUnescaped, end_of_text, piece, piece_at, plain, bytes_len, piece_faults, unescaped_pieces}
use Rattle.cedar_conversion.specs.machines.PlainTexts.{stands_for_itself}

-- the pieces, one for each character
abbrev pieces_of : ℕ → List ℕ → List Placed
pieces_of start [] = []
pieces_of start (c ∷ cs) = piece_at start (c ∷ []) (Character c) ∷ pieces_of (start + bytes_len (c ∷ [])) cs

abbrev AllPlain : List ℕ → Type 0
AllPlain bytes = list_all stands_for_itself bytes ≡ true

no_quote : AllPlain (encode_utf8 34) → ⊥
unfolding encode
no_quote h = cc

no_backslash : AllPlain (encode_utf8 92) → ⊥
unfolding encode
no_backslash h = cc

no_return : AllPlain (encode_utf8 13) → ⊥
unfolding encode
no_return h = cc

is_other : (c k : ℕ) → AllPlain (encode_utf8 c) → (AllPlain (encode_utf8 k) → ⊥) → c ≢ k
is_other c k h never e = never (subst (λ (x : ℕ). AllPlain (encode_utf8 x)) e h)

first_true : (a b : Bool) → (a && b) ≡ true → a ≡ true
first_true true b e = refl
first_true false b e = cc

second_true : (a b : Bool) → (a && b) ≡ true → b ≡ true
second_true true b e = e
second_true false b e = cc

each_stands : (c : ℕ) (cs : List ℕ) → AllPlain (encode_utf8_all (c ∷ cs))
    → (list_all stands_for_itself (encode_utf8 c) && list_all stands_for_itself (encode_utf8_all cs)) ≡ true
each_stands c cs h = sym (list_all-append stands_for_itself (encode_utf8 c) (encode_utf8_all cs)) ∙ h

laid_out : (start : ℕ) (cs : List ℕ) → AllPlain (encode_utf8_all cs) → PieceLayout start cs (pieces_of start cs)
laid_out start [] h = end_of_text
laid_out start (c ∷ cs) h =
    let both = each_stands c cs h in
    let here = first_true (list_all stands_for_itself (encode_utf8 c)) (list_all stands_for_itself (encode_utf8_all cs)) both in
    let behind = second_true (list_all stands_for_itself (encode_utf8 c)) (list_all stands_for_itself (encode_utf8_all cs)) both in
    piece (c ∷ []) cs (Character c) refl (plain c (is_other c 34 here no_quote) (is_other c 92 here no_backslash) (is_other c 13 here no_return)) (laid_out (start + bytes_len (c ∷ [])) cs behind)

given : (start : ℕ) (cs : List ℕ) → unescaped_pieces (pieces_of start cs) ≡ encode_utf8_all cs
given start [] = refl
given start (c ∷ cs) = ap (λ (bs : List ℕ). encode_utf8 c ++ bs) (given (start + bytes_len (c ∷ [])) cs)

told : (raw : List ℕ) (start : ℕ) (cs : List ℕ) → piece_faults raw (pieces_of start cs) ≡ []
told raw start [] = refl
told raw start (c ∷ cs) = told raw (start + bytes_len (c ∷ [])) cs

pub plain_is_itself : (raw : List ℕ) → IsUtf8 raw → AllPlain raw → IsUnescaped raw raw
plain_is_itself raw u h =
    let same : encode_utf8_all (chars raw) ≡ raw = encodes-chars raw u in
    record {
      pieces = pieces_of 0 (chars raw);
      laid_out = laid_out 0 (chars raw) (subst AllPlain (sym same) h);
      faultless = told raw 0 (chars raw);
      unescaped = given 0 (chars raw) ∙ same;
    }
