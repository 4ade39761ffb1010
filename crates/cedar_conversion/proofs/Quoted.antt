-- A string's raw text, laid out in its one way.
use Rattle.std.proofs.Common.{◌≡◌, ℕ, zero, suc, ◌+◌, ◌-◌, ◌<◌, ◌≤◌, List, [], ◌∷◌, ◌++◌, length, take, Option, Ok, Err, refl, sym, ap, ◌∙◌, subst, arith, length-append}
use Rattle.std.specs.Str.{chars}
use Rattle.std.proofs.Math.Seq.{take-append_seam}
use Rattle.cedar_expressions.specs.declared.atoms.Literal.TheVariants as literals
use Rattle.cedar_expressions.specs.Value as v
use Rattle.cedar_expressions.specs.Value.{Value}
use Rattle.cedar_syntax.specs.faults.NonEmpty.{list_of}
use Rattle.cedar_syntax.specs.declared.loc.Loc.{Loc}
use Rattle.cedar_syntax.specs.declared.err.escape.UnescapeError.{UnescapeError}
use Rattle.cedar_syntax.specs.declared.err.non_empty.NonEmpty.{NonEmpty}
use Rattle.cedar_expressions.specs.declared.atoms.PatternElem.{PatternElem}
use Rattle.cedar_syntax.specs.strings.Pattern.{IsPattern, HasPatternFaults, pattern_faults, pattern_pieces}
use Rattle.cedar_syntax.specs.declared.unescape.piece.PieceValue.{PieceValue}
use Rattle.cedar_syntax.specs.strings.Piece.{Piece, Placed, bytes_len, piece_at, PieceLayout, end_of_text, piece, IsLaidOut, IsUnescaped, HasEscapeFaults}
use Rattle.cedar_syntax.specs.strings.PieceAhead.{BeginsWithPiece, first_piece}
use Rattle.cedar_syntax.proofs.FirstPiece.{begins}
use Rattle.cedar_syntax.proofs.Layouts.{laid_once}
use Rattle.cedar_conversion.specs.outcome.Held.{text_value}
use Rattle.cedar_conversion.specs.outcome.Outcome.{next}
use Rattle.cedar_conversion.specs.parts.Strings.{taken, pieces_from, layout, escape_faults, unescaped, string_faults, unless_faulty, text_outcome, pattern_outcome}

-- ---- the layout

some_text : {after : List ℕ} {o : PieceValue} (text : List ℕ) → Piece text after o → 0 < length text
some_text [] p = absurd (elim p [ ])
some_text (c ∷ text) p = omega arith

taken_is : (cs text rest : List ℕ) → cs ≡ text ++ rest → take (length cs - length rest) cs ≡ text
taken_is cs text rest h =
    let e : length cs ≡ length text + length rest = ap length h ∙ length-append text rest in
    let n : length cs - length rest ≡ length text = omega arith in
    ap (λ m. take m cs) n ∙ ap (take (length text)) h ∙ take-append_seam text rest

pieces_laid : (n start : ℕ) (cs : List ℕ) → length cs ≤ n → PieceLayout start cs (pieces_from n start cs)
pieces_laid zero start [] h = end_of_text
pieces_laid zero start (c ∷ cs) h = absurd (omega arith)
pieces_laid (suc n) start [] h = end_of_text
pieces_laid (suc n) start (c ∷ cs) h =
    let b : BeginsWithPiece (c ∷ cs) (first_piece c cs) = begins c cs in
    let r : List ℕ = (first_piece c cs).rest in
    let same : taken (c ∷ cs) (first_piece c cs) ≡ b.text = taken_is (c ∷ cs) b.text r b.stands in
    let longer : 0 < length b.text = some_text b.text b.is_piece in
    let whole : suc (length cs) ≡ length b.text + length r = ap length b.stands ∙ length-append b.text r in
    subst (λ text. PieceLayout start (c ∷ cs) (piece_at start text (first_piece c cs).outcome ∷ pieces_from n (start + bytes_len text) r)) (sym same)
    (piece b.text r (first_piece c cs).outcome b.stands b.is_piece (pieces_laid n (start + bytes_len b.text) r (omega arith)))

pub layout_laid : (raw : List ℕ) → IsLaidOut raw (layout raw)
unfolding layout
layout_laid raw = pieces_laid (length (chars raw)) 0 (chars raw) (omega arith)

is_layout : (raw : List ℕ) (ps : List Placed) → IsLaidOut raw ps → ps ≡ layout raw
is_layout raw ps l = laid_once 0 (chars raw) ps (layout raw) l (layout_laid raw)

faultless : (raw text : List ℕ) → IsUnescaped raw text → escape_faults raw ≡ []
faultless raw text u = rw (sym (is_layout raw u.pieces u.laid_out)) u.faultless

stands_for : (raw text : List ℕ) → IsUnescaped raw text → unescaped raw ≡ text
stands_for raw text u = rw (sym (is_layout raw u.pieces u.laid_out)) u.unescaped

pub text_expected : (place : Option Loc) (raw text : List ℕ) → IsUnescaped raw text → text_outcome place raw ≡ Ok text
text_expected place raw text u = rw (faultless raw text u, stands_for raw text u) refl

pub faults_expected : (place : Option Loc) (raw : List ℕ) (faults : NonEmpty UnescapeError) → HasEscapeFaults raw (list_of faults) → text_outcome place raw ≡ Err (string_faults place (list_of faults))
faults_expected place raw faults f =
    let same : escape_faults raw ≡ list_of faults = rw (sym (is_layout raw f.pieces f.laid_out)) f.told in
    rw same refl

-- what a string's value says of its raw text
abbrev pub StandsFor : List ℕ → Value → Type 0
StandsFor raw w = (text : List ℕ) × IsUnescaped raw text × (w ≡ v.val (literals.String text))

value_meant : (place : Option Loc) (raw : List ℕ) (w : Value) (faults : List UnescapeError) → escape_faults raw ≡ faults → next (unless_faulty place faults (unescaped raw)) text_value ≡ Ok w → StandsFor raw w
value_meant place raw w [] none e = (unescaped raw, record { pieces = layout raw; laid_out = layout_laid raw; faultless = none; unescaped = refl }, cc)
value_meant place raw w (fault ∷ faults) some e = cc

pub string_meant : (place : Option Loc) (raw : List ℕ) (w : Value) → next (text_outcome place raw) text_value ≡ Ok w → StandsFor raw w
string_meant place raw w e = value_meant place raw w (escape_faults raw) refl e

-- ---- patterns

pattern_faultless : (raw : List ℕ) (elems : List PatternElem) → IsPattern raw elems → pattern_faults raw (layout raw) ≡ []
pattern_faultless raw elems u = rw (sym (is_layout raw u.pieces u.laid_out)) u.faultless

stands_for_pattern : (raw : List ℕ) (elems : List PatternElem) → IsPattern raw elems → pattern_pieces (layout raw) ≡ elems
stands_for_pattern raw elems u = rw (sym (is_layout raw u.pieces u.laid_out)) u.parts

pub pattern_expected : (place : Option Loc) (raw : List ℕ) (elems : List PatternElem) → IsPattern raw elems → pattern_outcome place raw ≡ Ok elems
pattern_expected place raw elems u = rw (pattern_faultless raw elems u, stands_for_pattern raw elems u) refl

pub pattern_faults_expected : (place : Option Loc) (raw : List ℕ) (faults : NonEmpty UnescapeError) → HasPatternFaults raw (list_of faults) → pattern_outcome place raw ≡ Err (string_faults place (list_of faults))
pattern_faults_expected place raw faults f =
    let same : pattern_faults raw (layout raw) ≡ list_of faults = rw (sym (is_layout raw f.pieces f.laid_out)) f.told in
    rw same refl

-- ---- what a given text or pattern says of its raw text

unless_ok : {X : Type 0} (place : Option Loc) (faults : List UnescapeError) (x y : X) → unless_faulty place faults x ≡ Ok y → (faults ≡ []) × (x ≡ y)
unless_ok place [] x y e = (refl, cc)
unless_ok place (fault ∷ faults) x y e = cc

-- a text that a raw text at a place stands for
pub text_meant : (place : Option Loc) (raw text : List ℕ) → text_outcome place raw ≡ Ok text → IsUnescaped raw text
text_meant place raw text e =
    let h = unless_ok place (escape_faults raw) (unescaped raw) text e in
    record { pieces = layout raw; laid_out = layout_laid raw; faultless = h.0; unescaped = h.1 }

pub pattern_meant : (place : Option Loc) (raw : List ℕ) (pattern : List PatternElem) → pattern_outcome place raw ≡ Ok pattern → IsPattern raw pattern
pattern_meant place raw pattern e =
    let h = unless_ok place (pattern_faults raw (layout raw)) (pattern_pieces (layout raw)) pattern e in
    record { pieces = layout raw; laid_out = layout_laid raw; faultless = h.0; parts = h.1 }
