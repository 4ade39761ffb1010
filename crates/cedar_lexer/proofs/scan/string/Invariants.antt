-- What is read so far leaves the answer to what is left; nothing is left where the last backslash
-- has no byte behind it.
use Rattle.std.proofs.Common.{◌≡◌, ◌+◌, ◌-◌, ◌<◌, ◌≤◌, false, None, length, drop}
use Rattle.cedar_lexer.specs.Scan as spec
use Rattle.cedar_lexer.proofs.scan.string.Given as goal

abbrev pub invariant-loop-byte : goal.invariant-loop-byte
invariant-loop-byte l =
    (l.at ≤ length l.text → spec.string_len false l.text 1 ≡ spec.string_len false (drop l.at l.text) (l.at + 1))
    × (length l.text < l.at → spec.string_len false l.text 1 ≡ None)

abbrev pub decreases-loop-byte : goal.decreases-loop-byte
decreases-loop-byte l = length l.text + 1 - l.at
