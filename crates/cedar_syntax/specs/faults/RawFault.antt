-- The parts of a fault of a text, as it is recorded: its variant, its bytes, its token, the kinds
-- that were expected there.
use Rattle.std.specs.Prelude.{ℕ, List, [], Option, Some, None, ◌-◌}
use Rattle.std.specs.Option.{option_map}
use Rattle.cedar_lexer.specs.declared.token.TokenKind.{TokenKind}
use Rattle.cedar_syntax.specs.places.Span.{Span}
use Rattle.cedar_syntax.specs.declared.loc.Loc.{Loc}
use Rattle.cedar_syntax.specs.declared.err.to_cst.RawFault.{RawFault}
use Rattle.cedar_syntax.specs.declared.err.to_cst.RawFault.TheVariants.{InvalidToken, UnrecognizedToken, UnrecognizedEof, User, ExtraToken}

-- which of the five it is
abbrev pub variant_number : RawFault → ℕ
variant_number (InvalidToken location) = 0
variant_number (UnrecognizedToken start end token expected) = 1
variant_number (UnrecognizedEof location expected) = 2
variant_number (User error) = 3
variant_number (ExtraToken start end token) = 4

-- from where to where; the parser's own words have a place instead
abbrev pub byte_range : RawFault → ℕ × ℕ
byte_range (InvalidToken location) = (location, location)
byte_range (UnrecognizedToken start end token expected) = (start, end)
byte_range (UnrecognizedEof location expected) = (location, location)
byte_range (User error) = (0, 0)
byte_range (ExtraToken start end token) = (start, end)

-- the refused token, or the parser's own words
abbrev pub text_of : RawFault → List ℕ
text_of (InvalidToken location) = []
text_of (UnrecognizedToken start end token expected) = token
text_of (UnrecognizedEof location expected) = []
text_of (User error) = error.node
text_of (ExtraToken start end token) = token

-- the kinds of token that could have stood there
abbrev pub expected_of : RawFault → List TokenKind
expected_of (InvalidToken location) = []
expected_of (UnrecognizedToken start end token expected) = expected
expected_of (UnrecognizedEof location expected) = expected
expected_of (User error) = []
expected_of (ExtraToken start end token) = []

-- the place of the parser's own words
abbrev pub own_words_place : RawFault → Option Loc
own_words_place (InvalidToken location) = None
own_words_place (UnrecognizedToken start end token expected) = None
own_words_place (UnrecognizedEof location expected) = None
own_words_place (User error) = error.loc
own_words_place (ExtraToken start end token) = None

-- the bytes at which it stands: an invalid token and the end take no bytes
abbrev pub span_of_raw : RawFault → Option Span
span_of_raw (InvalidToken location) = Some (record { offset = location; len = 0 })
span_of_raw (UnrecognizedToken start end token expected) =
    Some (record { offset = start; len = end - start })
span_of_raw (UnrecognizedEof location expected) = Some (record { offset = location; len = 0 })
span_of_raw (User error) = option_map (λ loc. loc.span) error.loc
span_of_raw (ExtraToken start end token) = Some (record { offset = start; len = end - start })
