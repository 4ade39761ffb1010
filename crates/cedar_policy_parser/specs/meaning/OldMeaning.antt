-- What a text meant while no more than four signs in a row were counted.
use Rattle.std.specs.Prelude.{ℕ, List}
use Rattle.cedar_lexer.specs.Token.{Lexeme}
use Rattle.cedar_policy_store.specs.PlaceFree.{Policies}
use Rattle.cedar_conversion.specs.strict.Extensions.{Extensions}
use Rattle.cedar_policy_parser.specs.meaning.StrictPolicy.{IsPolicySet}

-- the limit before it was raised, which is the original's
abbrev pub old_limit : ℕ
old_limit = 4

-- tokens meant this set
abbrev pub IsOldPolicySet : Extensions → List Lexeme → Policies → Type 0
IsOldPolicySet table ts set = IsPolicySet table old_limit ts set
