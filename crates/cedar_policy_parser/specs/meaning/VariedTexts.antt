-- The law of added space and parentheses: a text with padding straight before a token, or with
-- parentheses around the whole expression of a condition or around an entity or a slot of a scope,
-- means what the text means.
use Rattle.std.specs.Prelude.{◌≡◌, ℕ, ◌+◌, List, ◌++◌, length, codes, Some}
use Rattle.cedar_lexer.specs.Cut.{Cuts}
use Rattle.cedar_lexer.specs.Token.{Lexeme}
use Rattle.cedar_policy_store.specs.PlaceFree.{Policies}
use Rattle.cedar_grammar.specs.grammar.Place.{extent}
use Rattle.cedar_lexer.specs.Varied.{IsPadding, BeginsAt}
use Rattle.cedar_conversion.specs.strict.Extensions.{Extensions}
use Rattle.cedar_policy_parser.specs.meaning.StandsWhole.{StandsWhole}
use Rattle.cedar_policy_parser.specs.meaning.StrictPolicy.{IsPolicySet}

-- what a text means stays what it means with white space, or a comment and its line end, straight
-- before any of its tokens
abbrev pub SpacesKeep : Extensions → ℕ → List ℕ → Policies → Type 0
SpacesKeep table limit text set = (front padding rest : List ℕ) (ts : List Lexeme) → text ≡ front
    ++ rest → Cuts text ts → BeginsAt (length front) ts → IsPadding padding
    → (us : List Lexeme) × Cuts (front ++ (padding ++ rest)) us × IsPolicySet table limit us set

-- and with parentheses put around the bytes of tokens that stand so
abbrev pub ParenthesesKeep : Extensions → ℕ → List ℕ → Policies → Type 0
ParenthesesKeep table limit text set = (front middle rest : List ℕ)
    (before vs after : List Lexeme) (meant : Policies) → text ≡ front ++ (middle ++ rest)
    → Cuts text (before ++ vs ++ after)
    → extent vs ≡ Some (record { start = length front; end = length front + length middle })
    → StandsWhole table limit before vs after meant
    → (us : List Lexeme) × Cuts (front ++ (codes "(" ++ (middle ++ (codes ")" ++ rest)))) us
    × IsPolicySet table limit us set
