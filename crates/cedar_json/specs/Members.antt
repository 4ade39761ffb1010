-- The members of an object, in any order.
use Rattle.std.specs.Prelude.{ℕ, Bool, true, cond, not, ◌&&◌, List, [], ◌∷◌, Option, Some, None, option_and_then}
use Rattle.std.specs.List.{list_any, filter}
use Rattle.std.specs.Str.{bytes_eq}
use Rattle.json.specs.Json.{Json, null, boolean, number, string, array, object, Members, no_members, member}

-- the members' keys are among these, each once
abbrev pub are_among : List (List ℕ) → List (List ℕ) → Bool
are_among keys [] = true
are_among keys (k ∷ ks) =
    list_any (bytes_eq k) keys && are_among (filter (λ key. not (bytes_eq key k)) keys) ks

abbrev pub member_keys : Members → List (List ℕ)
member_keys no_members = []
member_keys (member key j ms) = key ∷ member_keys ms

abbrev pub json_at : List ℕ → Members → Option Json
json_at key no_members = None
json_at key (member k j ms) = cond (bytes_eq k key) (Some j) (json_at key ms)

abbrev pub string_from : Json → Option (List ℕ)
string_from null = None
string_from (boolean b) = None
string_from (number s) = None
string_from (string s) = Some s
string_from (array js) = None
string_from (object ms) = None

abbrev pub text_at : List ℕ → Members → Option (List ℕ)
text_at key ms = option_and_then string_from (json_at key ms)

-- an object's members
abbrev pub members_from : Json → Option Members
members_from null = None
members_from (boolean b) = None
members_from (number s) = None
members_from (string s) = None
members_from (array js) = None
members_from (object ms) = Some ms

-- the members of an object whose keys are among these, each once
abbrev pub members_among : List (List ℕ) → Json → Option Members
members_among keys j =
    option_and_then (λ ms. cond (are_among keys (member_keys ms)) (Some ms) None) (members_from j)
