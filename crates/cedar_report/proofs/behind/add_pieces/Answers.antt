use Rattle.std.proofs.Common.{refl, arith}
use Rattle.cedar_conversion.specs.strict.Table.{table_of}
use Rattle.cedar_report.proofs.Pieces.{none_told, one_told}
use Rattle.cedar_report.proofs.behind.add_pieces.Goals as goal

pub loop-piece-init : goal.loop-piece-init
loop-piece-init c = none_told (table_of c.args.styles.now) c.args.lines.now.text.now c.args.findings.now.items

pub loop-piece-preserved : goal.loop-piece-preserved
loop-piece-preserved c =
    one_told (table_of c.args.styles.now) c.args.lines.now.text.now c.args.pieces.now c.loop-piece.piece-index _ _ c.args.findings.now.items c.loop-piece.findings.items c.add_piece.new.findings.items (omega arith) refl c.loop-piece.invariant c.in_ok-add_piece.ensures
