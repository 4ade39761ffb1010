-- The text that is written of the set that a text means: it means that set too.
use Rattle.std.proofs.Common.{◌<◌, ◌≤◌, ◌+◌, ◌^◌, ℕ, List, length, subst, arith}
use Rattle.cedar_lexer.specs.Cut.{Layout}
use Rattle.cedar_lexer.specs.Cut as cut
use Rattle.cedar_lexer.specs.Token.{Lexeme}
use Rattle.cedar_lexer.proofs.Skips.{spelling_some}
use Rattle.cedar_policy_store.specs.PlaceFree.{set_meaning}
use Rattle.cedar_policy_store.specs.PolicyMaps.{PolicyMaps}
use Rattle.cedar_syntax.specs.tokens.Signs.{sign_limit}
use Rattle.cedar_conversion.specs.strict.Extensions.{Extensions}
use Rattle.cedar_policy_conversion.specs.StrictPolicy.{IsPolicySet}
use Rattle.cedar_policy_parser.specs.meaning.Formatted.{MeansSet}
use Rattle.cedar_writer.specs.WrittenTexts.{IsTextOfAll, IsTextOfSet, templates_lent}
use Rattle.cedar_writer.proofs.NumberedSets.{set_itself}
use Rattle.cedar_writer.proofs.SetsOfTexts.{numbered_set}

-- a text has no more tokens than bytes
tokens_within : {source : List ℕ} {i k : ℕ} {ts : List Lexeme} → Layout source i ts k → i + length ts ≤ k
tokens_within cut.nothing = omega arith
tokens_within (cut.skip s more) = omega (arith, s.ends, tokens_within more)
tokens_within (cut.token {t = t} s more) = omega (arith, s.ends, spelling_some t.kind t.text s.spelled.spells, tokens_within more)

pub means_the_same : (table : Extensions) (text out : List ℕ) (set : PolicyMaps) → length text < 2 ^ 63 → MeansSet table text (set_meaning set) → IsTextOfSet table sign_limit set out → MeansSet table out (set_meaning set)
means_the_same table text out set small means written =
    let few : length means.0 < 2 ^ 64 = omega (arith, small, tokens_within means.1) in
    let is = numbered_set table sign_limit means.0 set few means.2 in
    let read : IsTextOfAll table sign_limit (templates_lent written.0) out = written.3 in
    (read.0, read.1, subst (IsPolicySet table sign_limit read.0) (set_itself set written.0 is written.1) read.2)
