use Rattle.std.proofs.Common.{OnOk, refl, ap, subst}
use Rattle.cedar_conversion.specs.strict.Table.{table_of}
use Rattle.cedar_tool.specs.declared.request.Task.{Task}
use Rattle.cedar_tool.specs.declared.request.Task.TheVariants as task
use Rattle.cedar_tool.specs.Streams.{output_writer}
use Rattle.cedar_tool.specs.Told.{TellsRefusal}
use Rattle.cedar_tool.proofs.Judging.{refused_by}
use Rattle.cedar_tool.proofs.Serving.{judged_by, printed_by, compared_by, rewritten_by, denied}
use Rattle.cedar_tool.proofs.Speaking as speaking
use Rattle.cedar_tool.proofs.format.format.Goals as goal

pub returns-in-Print-clause-served : goal.returns-in-Print-clause-served
returns-in-Print-clause-served g c =
    let l = c.args.layout.now in
    let s = c.args.source.now in
    rw (c.requires, c.in-Print.is)
    (printed_by g.D.Disk.files l.options l.request.now.format (table_of l.request.now.styles) s.name.now s.text.now c.as_str.result.now c.args.disk.now c.args.disk.now _ _ c.print.result refl
    (rw c.as_str.ensures.value c.in-Ok.ensures.laid) c.print.ensures.verdict c.print.ensures.written)

pub returns-in-Check-clause-served : goal.returns-in-Check-clause-served
returns-in-Check-clause-served g c =
    let l = c.args.layout.now in
    let s = c.args.source.now in
    rw (c.requires, c.in-Check.is)
    (compared_by g.D.Disk.files g.O.Write.contents l.options l.request.now.format (table_of l.request.now.styles) s.name.now s.text.now c.as_str-in-Check.result.now c.args.disk.now c.args.disk.now
    c.args.console.now c.compare.new.console c.compare.result refl (rw c.as_str-in-Check.ensures.value c.in-Ok.ensures.laid) c.compare.ensures.compared)

pub returns-in-Ok-clause-served : goal.returns-in-Ok-clause-served
returns-in-Ok-clause-served g c =
    let l = c.args.layout.now in
    let s = c.args.source.now in
    rw (c.requires, c.in-Write.is)
    (rewritten_by g.D.Disk.files l.options l.request.now.format (table_of l.request.now.styles) s.name.now s.text.now c.as_str-in-Write.result.now c.args.disk.now c.rewrite.new.disk _ _ c.rewrite.result
    (ap (λ o. g.O.Write.contents (output_writer o)) c.rewrite.ensures.output) (rw c.as_str-in-Write.ensures.value c.in-Ok.ensures.laid) c.rewrite.ensures.rewritten)

pub returns-clause-served : goal.returns-clause-served
returns-clause-served g c =
    let l = c.args.layout.now in
    let r = l.request.now in
    let s = c.args.source.now in
    let t = task.Format l.options l.purpose in
    let P : Task → Type 0 = λ t. OnOk c.refuse.result (TellsRefusal g.O.Write.contents t r.format (table_of r.styles) s.name.now s.text.now c.in-Err.failure c.args.console.now c.refuse.new.console) in
    rw c.requires
    (judged_by g.D.Disk.files t r.format (table_of r.styles) s.name.now s.text.now c.args.disk.now c.args.disk.now c.refuse.result _ refl
    (refused_by g.O.Write.contents t r.format (table_of r.styles) s.name.now s.text.now c.args.console.now c.refuse.new.console c.in-Err.failure c.refuse.result
    (λ some. denied l.options l.purpose (table_of r.styles) s.text.now (λ has. some (c.in-Err.ensures.only has))) c.in-Err.ensures.refused c.refuse.ensures.verdict
    (subst P c.requires c.refuse.ensures.told)))

pub returns-in-Print-clause-said : goal.returns-in-Print-clause-said
returns-in-Print-clause-said g c =
    speaking.accepted c.args.layout.now.request.now.format c.args.console.now.errors c.print.new.console.errors c.print.result c.print.ensures.verdict c.print.ensures.quiet

pub returns-in-Check-clause-said : goal.returns-in-Check-clause-said
returns-in-Check-clause-said g c =
    speaking.compared_by g.O.Write.contents c.args.layout.now.request.now.format _ _ _ c.args.console.now c.compare.new.console c.compare.result c.compare.ensures.compared

pub returns-in-Ok-clause-said : goal.returns-in-Ok-clause-said
returns-in-Ok-clause-said g c =
    speaking.rewritten_by g.D.Disk.files c.args.layout.now.request.now.format _ _ _ c.args.disk.now c.rewrite.new.disk _ _ c.rewrite.result c.rewrite.ensures.rewritten c.rewrite.ensures.quiet c.rewrite.ensures.said

pub returns-clause-said : goal.returns-clause-said
returns-clause-said g c =
    speaking.refused_by g.O.Write.contents _ c.args.layout.now.request.now.format _ _ _ _ c.args.console.now c.refuse.new.console _ c.refuse.result c.refuse.ensures.verdict c.refuse.ensures.told
