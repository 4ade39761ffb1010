use Rattle.std.proofs.Common.{◌≡◌, ◌≤◌, length}
use denote.Text.{Utf8}
use denote.Shadow.{shadow}
use Rattle.cedar_syntax.specs.strings.EscapeFaults.{found_faults}
use Rattle.cedar_syntax.proofs.Answering.{pattern_gives, pattern_tells}
use Rattle.cedar_syntax.proofs.Layouts.{Continues}
use Rattle.cedar_syntax.proofs.unescape.to_pattern.Given as goal

abbrev pub invariant-loop-first : goal.invariant-loop-first
invariant-loop-first l =
    shadow (Utf8 l.rest) × (length l.rest ≤ length l.raw) × (l.faults.raw.now ≡ l.raw)
    × Continues pattern_gives (pattern_tells l.raw) l.raw l.rest l.pattern.items (found_faults l.faults)

abbrev pub decreases-loop-first : goal.decreases-loop-first
decreases-loop-first l = length l.rest
