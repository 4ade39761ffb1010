-- Identifiers and names, as contracts see them: texts as their bytes.
use Rattle.std.specs.Prelude.{ℕ, List, [], ◌∷◌, ◌++◌, Bool, false, ◌&&◌, ◌||◌, ◌==◌, not, codes}
use Rattle.std.specs.List.{list_all, list_any, flat_map}
use Rattle.std.specs.Char.{is_ascii_alphabetic, is_ascii_alphanumeric}
use Rattle.std.specs.Str.{byte, bytes_eq}

-- a name: the identifiers before the last one, and the last one
pub record Path : Type 0 where
  pub path : List (List ℕ)
  pub id : List ℕ

-- what an identifier begins with, a letter or `_`, and what it goes on with, also a digit
abbrev pub begins_identifier : ℕ → Bool
begins_identifier b = is_ascii_alphabetic b || b == byte "_"

abbrev pub continues_identifier : ℕ → Bool
continues_identifier b = is_ascii_alphanumeric b || b == byte "_"

-- the spelling of an identifier; the words of the language are spelled so too
abbrev pub is_identifier : List ℕ → Bool
is_identifier [] = false
is_identifier (b ∷ bs) = begins_identifier b && list_all continues_identifier bs

-- the words that no name may hold
abbrev pub reserved_words : List (List ℕ)
reserved_words =
    codes "if" ∷ codes "true" ∷ codes "false" ∷ codes "then" ∷ codes "else" ∷ codes "in" ∷ codes
    "is" ∷ codes "has" ∷ codes "like" ∷ []

abbrev pub is_reserved_word : List ℕ → Bool
is_reserved_word text = list_any (bytes_eq text) reserved_words

-- an identifier that a name may hold
abbrev pub is_valid_identifier : List ℕ → Bool
is_valid_identifier text = is_identifier text && not (is_reserved_word text)

-- the identifier that is kept for the language's own names
abbrev pub is_reserved_namespace : List ℕ → Bool
is_reserved_namespace text = bytes_eq text (codes "__cedar")

abbrev pub is_unreserved_identifier : List ℕ → Bool
is_unreserved_identifier text = is_valid_identifier text && not (is_reserved_namespace text)

-- whether an identifier of the name is that one
abbrev pub has_reserved_namespace : Path → Bool
has_reserved_namespace name =
    list_any is_reserved_namespace name.path || is_reserved_namespace name.id

-- identifiers, each with `::` behind it
abbrev pub namespace_text : List (List ℕ) → List ℕ
namespace_text ids = flat_map (λ id. id ++ codes "::") ids

-- how a name is written: its identifiers joined by `::`
abbrev pub name_text : Path → List ℕ
name_text name = namespace_text name.path ++ name.id
