-- The functions and methods of Cedar's own extensions, as its documentation lists them: those of
-- IP addresses (`ip`), of decimal numbers (`decimal`), and of dates and spans of time (`datetime`,
-- `duration`).
use Rattle.std.specs.Prelude.{ℕ, Bool, true, false, List, [], ◌∷◌, ◌&&◌, codes}
use Rattle.std.specs.List.{list_any}
use Rattle.std.specs.Str.{bytes_eq}
use Rattle.cedar_expressions.specs.Path.{Path}
use Rattle.cedar_conversion.specs.strict.Extensions.{Extensions}

abbrev pub cedar_functions : List (List ℕ)
cedar_functions = codes "ip" ∷ codes "decimal" ∷ codes "datetime" ∷ codes "duration" ∷ []

-- the methods of IP addresses; of decimal numbers; of dates; of spans of time
abbrev pub cedar_methods : List (List ℕ)
cedar_methods =
    codes "isIpv4" ∷ codes "isIpv6" ∷ codes "isLoopback" ∷ codes "isMulticast"
    ∷ codes "isInRange"
    ∷ codes "lessThan" ∷ codes "lessThanOrEqual" ∷ codes "greaterThan"
    ∷ codes "greaterThanOrEqual"
    ∷ codes "offset" ∷ codes "durationSince" ∷ codes "toDate" ∷ codes "toTime"
    ∷ codes "toMilliseconds" ∷ codes "toSeconds" ∷ codes "toMinutes" ∷ codes "toHours"
    ∷ codes "toDays" ∷ []

-- what stands before the last identifier of a name that is one word
abbrev pub is_empty_namespace : List (List ℕ) → Bool
is_empty_namespace [] = true
is_empty_namespace (id ∷ ids) = false

-- a name is this word, with no identifier before it
abbrev pub is_word_alone : Path → List ℕ → Bool
is_word_alone name word = is_empty_namespace name.path && bytes_eq name.id word

-- the table of these functions and methods, and of no others
abbrev pub cedar_extensions : Extensions
cedar_extensions = record {
  functions = λ name. list_any (is_word_alone name) cedar_functions;
  methods = λ id. list_any (bytes_eq id) cedar_methods;
}
