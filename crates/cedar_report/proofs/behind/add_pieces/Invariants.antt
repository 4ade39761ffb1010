use Rattle.std.proofs.Common.{◌≡◌, ◌++◌, List, take}
use Rattle.cedar_conversion.specs.strict.Table.{table_of}
use Rattle.cedar_report.specs.declared.finding.Finding.{Finding}
use Rattle.cedar_report.specs.Behind.{TellsPieces}
use Rattle.cedar_report.proofs.behind.add_pieces.Given as goal

-- what is told of the pieces so far is added
abbrev pub invariant-loop-piece : goal.invariant-loop-piece
invariant-loop-piece l =
    (rest : List Finding) × (l.findings.items ≡ l.initial.findings.items ++ rest) × TellsPieces (table_of l.styles) l.lines.text.now (take l.piece-index l.pieces) rest
