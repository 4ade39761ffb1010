-- Which of the expected kinds of token a fault shows, and how: by a table of names, as the Rust
-- crate has it.
use Rattle.std.specs.Prelude.{◌≡◌, ◌≢◌, ℕ, Bool, true, not, ◌&&◌, ◌==◌, List, [], ◌∷◌, ◌++◌, map, filter, codes, chars, encode_utf8_all, bytes_eq, Option, unwrap_or, if◌then◌else◌, MatchOption}
use Rattle.std.specs.Ordering.{nat_cmp}
use Rattle.std.specs.Option.{option_map}
use Rattle.std.specs.List.{list_any, list_all}
use Rattle.std.specs.List.Sorted.{IsStrictlySortedBy}
use Rattle.std.specs.Cmp.Lexicographic.{slice_cmp}
use Rattle.std.specs.Map.{lookup}
use Rattle.std.specs.declared.hash.FoldHasher.{FoldHasher}
use Rattle.std.specs.declared.hash.BuildHasherDefault.{BuildHasherDefault}
use Rattle.std.specs.HashMap.{HashMap}
use Rattle.std.specs.HashSet.{HashSet}
use Rattle.std.specs.HashMap as hash
use Rattle.std.specs.HashSet as bag
use Rattle.std.specs.Borrow.{Bor}
use Rattle.cedar_syntax.specs.messages.Conjoined.{list_text}
use Rattle.cedar_syntax.specs.declared.err.expected.ExpectedTokenConfig.{ExpectedTokenConfig}

-- the name under which a kind of token is recorded
abbrev pub TokenName : Type 0
TokenName = List ℕ

-- a token table as rules: how a name is shown, three sets of names, and the two names whose
-- presence tells that an identifier could stand there and that an expression could begin there
pub record TokenRules : Type 0 where
  pub friendly : TokenName → Option (List ℕ)
  pub impossible : TokenName → Bool
  pub special : TokenName → Bool
  pub identifier : TokenName
  pub first_words : TokenName → Bool
  pub first_set : TokenName

abbrev pub is_among : List TokenName → TokenName → Bool
is_among names name = list_any (bytes_eq name) names

-- ---- a table's sets and its map, by the bytes of names

abbrev pub is_in : HashSet (Bor TokenName) (BuildHasherDefault FoldHasher) → TokenName → Bool
is_in set name = bag.contains_by (λ key. bytes_eq name key.now) set

abbrev pub friendly_of : HashMap (Bor TokenName) (Bor (List ℕ)) (BuildHasherDefault FoldHasher)
    → TokenName → Option (List ℕ)
friendly_of map name =
    option_map (λ shown. shown.now) (hash.get_by (λ key. bytes_eq name key.now) map)

abbrev pub rules_of : ExpectedTokenConfig → TokenRules
rules_of config = record {
  friendly = friendly_of config.friendly_token_names;
  impossible = is_in config.impossible_tokens;
  special = is_in config.special_identifier_tokens;
  identifier = config.identifier_sentinel.now;
  first_words = is_in config.first_set_identifier_tokens;
  first_set = config.first_set_sentinel.now;
}

-- a table of names as texts
abbrev pub table_texts : List (Bor TokenName × Bor (List ℕ)) → List (TokenName × List ℕ)
table_texts pairs = map (λ pair. (pair.0.now, pair.1.now)) pairs

-- no name stands twice
abbrev pub are_distinct : List (Bor TokenName) → Bool
are_distinct [] = true
are_distinct (x ∷ xs) = list_all (λ y. not (bytes_eq x.now y.now)) xs && are_distinct xs

-- ---- Cedar's own table

-- words and slots are shown as they are written, the three classes in plain words
abbrev pub friendly_names : List (TokenName × List ℕ)
friendly_names =
    (codes "TRUE", codes "`true`") ∷ (codes "FALSE", codes "`false`") ∷ (codes "IF", codes "`if`")
    ∷ (codes "PERMIT", codes "`permit`") ∷ (codes "FORBID", codes "`forbid`")
    ∷ (codes "WHEN", codes "`when`") ∷ (codes "UNLESS", codes "`unless`")
    ∷ (codes "IN", codes "`in`") ∷ (codes "HAS", codes "`has`")
    ∷ (codes "LIKE", codes "`like`") ∷ (codes "IS", codes "`is`")
    ∷ (codes "THEN", codes "`then`") ∷ (codes "ELSE", codes "`else`")
    ∷ (codes "PRINCIPAL", codes "`principal`") ∷ (codes "ACTION", codes "`action`")
    ∷ (codes "RESOURCE", codes "`resource`") ∷ (codes "CONTEXT", codes "`context`")
    ∷ (codes "PRINCIPAL_SLOT", codes "`?principal`") ∷ (codes "RESOURCE_SLOT", codes "`?resource`")
    ∷ (codes "IDENTIFIER", codes "identifier") ∷ (codes "NUMBER", codes "number")
    ∷ (codes "STRINGLIT", codes "string literal") ∷ []

-- operators and slots that every later step refuses
abbrev pub impossible_names : List TokenName
impossible_names = codes "\"=\"" ∷ codes "\"%\"" ∷ codes "\"/\"" ∷ codes "OTHER_SLOT" ∷ []

-- words that are identifiers everywhere
abbrev pub special_names : List TokenName
special_names =
    codes "PERMIT" ∷ codes "FORBID" ∷ codes "WHEN" ∷ codes "UNLESS" ∷ codes "IN" ∷ codes "HAS"
    ∷ codes "LIKE" ∷ codes "IS" ∷ codes "THEN" ∷ codes "ELSE" ∷ codes "PRINCIPAL" ∷ codes "ACTION"
    ∷ codes "RESOURCE" ∷ codes "CONTEXT" ∷ []

-- words that are something else where an expression begins
abbrev pub first_names : List TokenName
first_names = codes "TRUE" ∷ codes "FALSE" ∷ codes "IF" ∷ []

abbrev pub policy_rules : TokenRules
policy_rules = record {
  friendly = λ name. lookup (bytes_eq name) friendly_names;
  impossible = is_among impossible_names;
  special = is_among special_names;
  identifier = codes "IDENTIFIER";
  first_words = is_among first_names;
  first_set = codes "\"!\"";
}

-- ---- what is kept, and how it is shown

-- the names that aren't in a set
abbrev pub without : (TokenName → Bool) → List TokenName → List TokenName
without drops names = filter (λ name. not (drops name)) names

-- No impossible name is kept; where an identifier could stand, none of the words that are
-- identifiers too, and, unless an expression can begin there, none of those that begin one.
abbrev pub kept_token_names : TokenRules → List TokenName → List TokenName
kept_token_names rules names =
    let possible = without rules.impossible names in
    let general = without rules.special possible in
    if is_among possible rules.identifier
    then (if is_among general rules.first_set then general
    else without rules.first_words general)
    else possible

-- the names in byte order, each once
pub record AreInOrder (names shown : List TokenName) : Type 0 where
  pub ascend : IsStrictlySortedBy (slice_cmp nat_cmp) shown
  pub same : (name : TokenName) → is_among shown name ≡ is_among names name

-- a text with a backquote in place of each double quote
abbrev pub with_backquotes : List ℕ → List ℕ
with_backquotes text =
    encode_utf8_all (map (λ character. if character == 34 then 96 else character) (chars text))

-- a name's friendly form, or the name itself with backquotes
abbrev pub shown_name : TokenRules → TokenName → List ℕ
shown_name rules name = unwrap_or (rules.friendly name) (with_backquotes name)

abbrev pub expected_text : TokenRules → List TokenName → List ℕ
expected_text rules [] = []
expected_text rules (first ∷ more) =
    codes "expected " ++ list_text (codes "or") (shown_name rules first)
    (map (shown_name rules) more)

-- what is said of expected names: nothing exactly if none is kept, else the kept ones
abbrev pub SaysExpected : TokenRules → List TokenName → Option (List ℕ) → Type 0
SaysExpected rules names said = MatchOption said (kept_token_names rules names ≡ []) (λ text.
    (kept_token_names rules names ≢ [])
    × ((shown : List TokenName)
    × AreInOrder (kept_token_names rules names) shown × (text ≡ expected_text rules shown)))
