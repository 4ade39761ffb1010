-- The words of identifiers, names, strings and numbers.
use Rattle.std.specs.Prelude.{ℕ, List, [], ◌∷◌, ◌++◌, codes, if◌then◌else◌}
use Rattle.std.specs.Fmt.{decimal}
use Rattle.std.specs.Str.{bytes_eq}
use Rattle.cedar_lexer.specs.declared.token.TokenKind.{TokenKind}
use Rattle.cedar_lexer.specs.declared.token.TokenKind.TheVariants as kind
use Rattle.cedar_lexer.specs.Words.{TokenText}
use Rattle.cedar_expressions.specs.declared.entity.EntityUID.{EntityUID}
use Rattle.cedar_expressions.specs.declared.atoms.PatternElem.{PatternElem}
use Rattle.cedar_expressions.specs.Path.{Path, is_unreserved_identifier}
use Rattle.cedar_expressions.specs.Escapes.{escaped_text, escaped_pattern, quoted}

abbrev pub alone : TokenKind → List ℕ → List TokenText
alone k text = record { kind = k; text = text } ∷ []

-- the words that are identifiers too
abbrev pub word_kinds : List (List ℕ × TokenKind)
word_kinds =
    (codes "principal", kind.Principal) ∷ (codes "action", kind.Action)
    ∷ (codes "resource", kind.Resource) ∷ (codes "context", kind.Context)
    ∷ (codes "permit", kind.Permit) ∷ (codes "forbid", kind.Forbid) ∷ (codes "when", kind.When)
    ∷ (codes "unless", kind.Unless) ∷ []

abbrev pub kind_in : List (List ℕ × TokenKind) → List ℕ → TokenKind
kind_in [] text = kind.Identifier
kind_in (w ∷ ws) text = if bytes_eq text w.0 then w.1 else kind_in ws text

abbrev pub identifier_words : List ℕ → List TokenText
identifier_words id = alone (kind_in word_kinds id) id

-- identifiers behind others, each behind a mark
abbrev pub marked_words : List TokenText → List TokenText → List (List ℕ) → List TokenText
marked_words acc mark [] = acc
marked_words acc mark (id ∷ ids) = marked_words (acc ++ mark ++ identifier_words id) mark ids

abbrev pub colons : List TokenText
colons = alone kind.ColonColon (codes "::")

abbrev pub dot : List TokenText
dot = alone kind.Dot (codes ".")

-- a name: identifiers before the last one, and the last one
abbrev pub path_words : List (List ℕ) → List ℕ → List TokenText
path_words [] id = identifier_words id
path_words (first ∷ ids) id =
    marked_words (identifier_words first) colons ids ++ colons ++ identifier_words id

abbrev pub name_words : Path → List TokenText
name_words name = path_words name.path name.id

abbrev pub text_words : List ℕ → List TokenText
text_words text = alone kind.StringLit (quoted (escaped_text text))

abbrev pub pattern_words : List PatternElem → List TokenText
pattern_words elems = alone kind.StringLit (quoted (escaped_pattern elems))

abbrev pub number_words : ℕ → List TokenText
number_words n = alone kind.Number (decimal n)

abbrev pub entity_words : EntityUID → List TokenText
entity_words e = name_words e.entity_type.name ++ colons ++ text_words e.eid.text

-- an attribute's name, or a key: an identifier, else a string
abbrev pub key_words : List ℕ → List TokenText
key_words key = if is_unreserved_identifier key then identifier_words key else text_words key

-- right of `has`
abbrev pub sought_words : List ℕ → List (List ℕ) → List TokenText
sought_words id [] = key_words id
sought_words id (next ∷ ids) = marked_words (identifier_words id) dot (next ∷ ids)

abbrev pub access_words : List ℕ → List TokenText → List TokenText
access_words attr target =
    if is_unreserved_identifier attr then target ++ dot ++ identifier_words attr
    else target ++ alone kind.OpenBracket (codes "[") ++ text_words attr
    ++ alone kind.CloseBracket (codes "]")
