-- All words of a text on one line, with a space before each, take less than twice its bytes.
use Rattle.std.proofs.Common.{◌≡◌, ℕ, ◌+◌, ◌≤◌, ◌<◌, ◌^◌, Bool, true, false, List, [], ◌∷◌, length, refl, ap, ◌∙◌, arith, Option, Some, None}
use Rattle.std.proofs.lemmas.Bool.Decides.{nat_tests}
use Rattle.cedar_lexer.specs.Cut.{Layout, nothing, skip, token}
use Rattle.cedar_lexer.specs.Token.{Lexeme}
use Rattle.cedar_lexer.specs.Words.{TokenText, words_of}
use Rattle.cedar_lexer.specs.declared.token.TokenKind.{TokenKind}
use Rattle.cedar_lexer.proofs.Skips.{spelling_some}
use Rattle.cedar_layout.specs.declared.brackets.Bracket.{Bracket}
use Rattle.cedar_layout.specs.declared.spots.Spot.{Spot}
use Rattle.cedar_layout.specs.Brackets.{brackets_behind}
use Rattle.cedar_layout.specs.Hugs.{first_flag, rest_flags, hugs_of}
use Rattle.cedar_layout.specs.Laid.{words_in}
use Rattle.cedar_layout.specs.Pieces.{Item, word, beside, below, SpacedItem, items_of, IsReadAs}
use Rattle.cedar_layout.specs.Columns.{byte_width, width_of}
use Rattle.cedar_layout.specs.Spots.{spots_from, spots_of}
use Rattle.cedar_layout.proofs.Stood.{words_read}

abbrev pub extent : List Spot → ℕ
extent [] = 0
extent (s ∷ ss) = s.columns + 1 + extent ss

abbrev words_extent : List TokenText → ℕ
words_extent [] = 0
words_extent (w ∷ ws) = width_of w.text + 1 + words_extent ws

spots_extent : (is : List Item) (bs : List Bracket) (before last : Option TokenKind) (led commented : Bool) (told : List Bool) → extent (spots_from bs before last led commented told is) ≡ words_extent (words_in is)
spots_extent [] bs before last led commented told = refl
spots_extent (word w ∷ is) bs before last led commented told = ap (λ n. width_of w.text + 1 + n) (spots_extent is (brackets_behind bs before w.kind (first_flag told)) last (Some w.kind) commented false (rest_flags told))
spots_extent (beside c ∷ is) bs before last led commented told = spots_extent is bs before last led true told
spots_extent (below c ∷ is) bs before last led commented told = spots_extent is bs before last led true told

byte_small : (b : ℕ) → byte_width b ≤ 1
byte_small b = grind (arith, nat_tests)

width_small : (bs : List ℕ) → width_of bs ≤ length bs
width_small [] = omega arith
width_small (b ∷ bs) = omega (arith, byte_small b, width_small bs)

laid_extent : {source : List ℕ} {ts : List Lexeme} {i k : ℕ} → Layout source i ts k → words_extent (words_of ts) + (i + i) ≤ k + k
laid_extent nothing = omega arith
laid_extent (skip s more) = omega (arith, s.ends, laid_extent more)
laid_extent (token {t = t} s more) = omega (arith, s.ends, width_small t.text, spelling_some t.kind t.text s.spelled.spells, laid_extent more)

pub text_extent : (source : List ℕ) (ps : List SpacedItem) → IsReadAs source ps → length source < 2 ^ 63 → extent (spots_of (items_of ps)) < 2 ^ 64
text_extent source ps (ts, cut, is) small =
    let e : extent (spots_of (items_of ps)) ≡ words_extent (words_of ts) = spots_extent (items_of ps) [] None None false false (hugs_of (items_of ps)) ∙ ap words_extent (words_read source ts ps is) in
    omega (arith, e, laid_extent cut, small)
