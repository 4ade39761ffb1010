use Rattle.std.proofs.Common.{◌≡◌, ◌≤◌, ◌+◌, take}
use Rattle.cedar_syntax.specs.places.Position.{line_behind, column_behind}
use Rattle.cedar_syntax.proofs.position.behind_all.Given as goal

-- the position is that behind the bytes so far; neither number is past theirs and one
abbrev pub invariant-loop-byte : goal.invariant-loop-byte
invariant-loop-byte l =
    (l.position.line ≡ line_behind (take l.byte-index l.bytes))
    × (l.position.column ≡ column_behind (take l.byte-index l.bytes))
    × (l.position.line ≤ l.byte-index + 1)
    × (l.position.column ≤ l.byte-index + 1)
