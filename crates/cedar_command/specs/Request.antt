-- What the words of a run ask for: the command, and the extension functions and methods that a
-- text may call.
use Rattle.std.specs.Prelude.{◌≡◌, ◌≢◌, ℕ, Bool, true, false, List, [], ◌∷◌, ◌++◌, ◌&&◌, Option, MatchOption, String, string_bytes, codes}
use Rattle.std.specs.List.{AllByRecursion, list_all, list_any}
use Rattle.std.specs.Str.{byte, bytes_eq}
use Rattle.cedar_expressions.specs.Path.{Path, name_text, is_unreserved_identifier}
use Rattle.cedar_conversion.specs.strict.Extensions.{Extensions}
use Rattle.cedar_command.specs.declared.request.Command.{Command}
use Rattle.cedar_command.specs.declared.request.Command.TheVariants.{Expression, Policies, Format}

-- a name none of whose identifiers is reserved
abbrev pub is_unreserved_name : Path → Bool
is_unreserved_name name =
    list_all is_unreserved_identifier name.path && is_unreserved_identifier name.id

-- whether a word names this function: it is `fn:` and the name's identifiers, joined by `::`
abbrev pub names_function : Path → List ℕ → Bool
names_function name word =
    is_unreserved_name name && bytes_eq (codes "fn:" ++ name_text name) word

-- whether a word names this method: it is `method:` and the identifier
abbrev pub word_names_method : List ℕ → List ℕ → Bool
word_names_method id word = is_unreserved_identifier id && bytes_eq (codes "method:" ++ id) word

-- a word that names a function or a method
pub data IsStyle (word : List ℕ) : Type 0 where
  function : (name : Path) → names_function name word ≡ true → IsStyle word
  method : (id : List ℕ) → word_names_method id word ≡ true → IsStyle word

-- the word that a command has
abbrev pub command_word : Command → List ℕ
command_word Expression = codes "expr"
command_word Policies = codes "policies"
command_word Format = codes "format"

-- The words ask for a command: its word comes first, and each word behind it names a function or a
-- method.
abbrev pub AsksFor : {A : Type 0} → Command → List (String A) → Type 0
AsksFor command [] = ⊥
AsksFor command (word ∷ words) =
    (string_bytes word ≡ command_word command)
    × AllByRecursion (λ word. IsStyle (string_bytes word)) words

abbrev pub AsksForNothing : {A : Type 0} → List (String A) → Type 0
AsksForNothing words = (command : Command) → ¬ AsksFor command words

-- the two sets of names: the functions and the methods that the words name
abbrev pub styles_of : {A : Type 0} → List (String A) → Extensions
styles_of words = record {
  functions = λ name. list_any (λ word. names_function name (string_bytes word)) words;
  methods = λ id. list_any (λ word. word_names_method id (string_bytes word)) words;
}

-- ---- what the calls say that take a word apart

-- what was found is named, and nothing is named where none was found
abbrev pub IsFoundName : {N : Type 0} → (N → Bool) → Option N → Type 0
IsFoundName {N} names found =
    MatchOption found ((name : N) → names name ≡ false) (λ name. names name ≡ true)

-- a text that a name without reserved identifiers is written as
abbrev pub SpellsName : List ℕ → Type 0
SpellsName text = (name : Path) × (is_unreserved_name name ≡ true) × (name_text name ≡ text)

-- bytes without a colon
abbrev pub HasNoColon : List ℕ → Type 0
HasNoColon bytes = AllByRecursion (λ b. b ≢ byte ":") bytes

-- a text is cut in two by `::`, and no colon stands before that
abbrev pub IsCut : List ℕ → List ℕ → List ℕ → Type 0
IsCut text part behind = HasNoColon part × (text ≡ part ++ (codes "::" ++ behind))

-- no cut of a text is there
abbrev pub IsUncut : List ℕ → Type 0
IsUncut text = (part behind : List ℕ) → ¬ IsCut text part behind
