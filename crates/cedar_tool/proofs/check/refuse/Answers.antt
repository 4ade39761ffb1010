use Rattle.cedar_conversion.specs.strict.Table.{table_of}
use Rattle.cedar_tool.proofs.Judging.{told_faults}
use Rattle.cedar_tool.proofs.check.refuse.Goals as goal

pub returns-in_ok-tell-in-Errors-clause-told : goal.returns-in_ok-tell-in-Errors-clause-told
returns-in_ok-tell-in-Errors-clause-told g c =
    let r = c.args.request.now in
    let s = c.args.source.now in
    let report = c.in_ok-report-in-Errors.ensures in
    told_faults g.O.Write.contents r.task r.format (table_of r.styles) _ s.name.now s.text.now c.args.failure.now _ _ c.args.console.now c.tell.new.console c.in-Errors.is report.name report.tells
    c.in_ok-tell-in-Errors.ensures.told
