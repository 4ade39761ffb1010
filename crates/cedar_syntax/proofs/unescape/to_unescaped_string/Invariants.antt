use Rattle.std.proofs.Common.{◌≡◌, ◌≤◌, length, string_bytes}
use denote.Text.{Utf8}
use denote.Shadow.{shadow}
use Rattle.cedar_syntax.specs.strings.EscapeFaults.{found_faults}
use Rattle.cedar_syntax.proofs.Answering.{text_gives, text_tells}
use Rattle.cedar_syntax.proofs.Layouts.{Continues}
use Rattle.cedar_syntax.proofs.unescape.to_unescaped_string.Given as goal

abbrev pub invariant-loop-first : goal.invariant-loop-first
invariant-loop-first l =
    shadow (Utf8 l.rest) × (length l.rest ≤ length l.raw) × (l.faults.raw.now ≡ l.raw)
    × Continues text_gives (text_tells l.raw) l.raw l.rest (string_bytes l.text) (found_faults l.faults)

abbrev pub decreases-loop-first : goal.decreases-loop-first
decreases-loop-first l = length l.rest
