-- A text of policies, and what the answers of `parse_policyset` and of `format_policies` say of
-- its meaning.
use Rattle.std.proofs.Common.{◌≡◌, ℕ, List, String, string_bytes, Result, Ok, Err, IfOk, IfErr, MatchResult}
use Rattle.cedar_lexer.specs.Cut.{Cuts}
use Rattle.cedar_lexer.specs.Token.{Lexeme}
use Rattle.cedar_policy_store.specs.PlaceFree.{Policies}
use Rattle.cedar_syntax.specs.tokens.Signs.{sign_limit}
use Rattle.cedar_syntax.specs.declared.err.faults.Failure.{Failure}
use Rattle.cedar_syntax.specs.faults.ParseErrors.{IsMemory}
use Rattle.cedar_conversion.specs.strict.Extensions.{Extensions}
use Rattle.cedar_policy_parser.specs.meaning.Formatted.{Formats, MeanTheSame}
use Rattle.cedar_policy_parser.specs.meaning.StrictPolicy.{IsPolicySet}
use Rattle.cedar_command.specs.declared.request.Command.TheVariants as command
use Rattle.cedar_command.specs.Ends.{IsMeant}

-- a set that is answered is what the text means under the table
pub set_meant : {S : Type 0} (table : Extensions) (src : List ℕ) (meaning : S → Policies) (r : Result S Failure)
    → IfOk r (λ set. (ts : List Lexeme) × Cuts src ts × IsPolicySet table sign_limit ts (meaning set)) → IfOk r (λ set. IsMeant command.Policies table src)
set_meant table src meaning (Ok set) h = (meaning set, h)
set_meant table src meaning (Err f) h = tt

-- a text that means a set is refused for want of memory alone
pub set_only : {S : Type 0} (table : Extensions) (src : List ℕ) (meaning : S → Policies) (r : Result S Failure)
    → ((ts : List Lexeme) (set : Policies) → Cuts src ts → IsPolicySet table sign_limit ts set → MatchResult r (λ s. meaning s ≡ set) IsMemory)
    → IsMeant command.Policies table src → IfErr r IsMemory
set_only table src meaning (Ok s) only meant = tt
set_only table src meaning (Err f) only (set, (ts, cut, means)) = only ts set cut means

-- the same of a text that is formatted
pub lines_meant : {B : Type 0} (table : Extensions) (src : List ℕ) (r : Result (String B) Failure)
    → IfOk r (λ lines. MeanTheSame table src (string_bytes lines)) → IfOk r (λ lines. IsMeant command.Format table src)
lines_meant table src (Ok lines) h = (h.0, h.1)
lines_meant table src (Err f) h = tt

pub lines_only : {B : Type 0} (table : Extensions) (src : List ℕ) (r : Result (String B) Failure)
    → Formats table src r → IsMeant command.Format table src → IfErr r IsMemory
lines_only table src r formats meant = formats.only meant.0 meant.1
