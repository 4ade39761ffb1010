use Rattle.std.proofs.Common.{refl}
use Rattle.cedar_conversion.specs.strict.Table.{table_of}
use Rattle.cedar_tool.specs.declared.request.Task.TheVariants as task
use Rattle.cedar_tool.proofs.Serving.{judged_by}
use Rattle.cedar_tool.proofs.serve.serve_text.Goals as goal

pub returns-in-Check-clause-served : goal.returns-in-Check-clause-served
returns-in-Check-clause-served g c =
    let r = c.args.request.now in
    let s = c.args.source.now in
    rw c.in-Check.is (judged_by g.D.Disk.files task.Check r.format (table_of r.styles) s.name.now s.text.now c.args.disk.now c.args.disk.now c.check.result _ refl c.check.ensures.judged)

pub returns-in-List-clause-served : goal.returns-in-List-clause-served
returns-in-List-clause-served g c =
    let r = c.args.request.now in
    let s = c.args.source.now in
    rw c.in-List.is (judged_by g.D.Disk.files task.List r.format (table_of r.styles) s.name.now s.text.now c.args.disk.now c.args.disk.now c.list.result _ refl c.list.ensures.judged)

pub returns-in-Format-clause-served : goal.returns-in-Format-clause-served
returns-in-Format-clause-served g c =
    c.format.ensures.served
