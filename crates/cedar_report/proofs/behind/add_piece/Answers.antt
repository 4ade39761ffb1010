use Rattle.cedar_conversion.specs.strict.Table.{table_of}
use Rattle.cedar_report.proofs.Pieces.{nothing_told, faults_told}
use Rattle.cedar_report.proofs.behind.add_piece.Goals as goal

pub returns-in_default : goal.returns-in_default
returns-in_default c =
    nothing_told (table_of c.args.styles.now) c.args.lines.now.text.now c.args.piece.now c.in_ok-faults.field-0 c.args.findings.now.items c.in_ok-faults.ensures c.in_default.is

pub returns : goal.returns
returns c =
    faults_told c.add_moved.result (table_of c.args.styles.now) c.args.lines.now.text.now c.args.piece.now c.in_ok-faults.field-0 c.in-Some.faults c.in_ok-told.told.findings.items c.args.findings.now.items c.add_moved.new.findings.items
    c.in_ok-faults.ensures c.in-Some.is c.in_ok-told.ensures.told c.add_moved.ensures
