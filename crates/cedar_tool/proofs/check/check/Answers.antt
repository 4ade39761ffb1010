use Rattle.std.proofs.Common.{OnOk, refl, subst}
use Rattle.cedar_conversion.specs.strict.Table.{table_of}
use Rattle.cedar_tool.specs.declared.request.Task.{Task}
use Rattle.cedar_tool.specs.declared.request.Task.TheVariants as task
use Rattle.cedar_tool.specs.Told.{TellsRefusal}
use Rattle.cedar_tool.proofs.Judging.{silent, refused_by}
use Rattle.cedar_tool.proofs.Speaking as speaking
use Rattle.cedar_tool.proofs.check.check.Goals as goal

pub returns-in-Ok-clause-judged : goal.returns-in-Ok-clause-judged
returns-in-Ok-clause-judged g c =
    rw c.accept.ensures (silent task.Check c.args.request.now.format (table_of c.args.request.now.styles) c.args.source.now.name.now c.args.source.now.text.now _ _ refl (c.in-Ok.ensures.meant, refl))

pub returns-in-Err-clause-judged : goal.returns-in-Err-clause-judged
returns-in-Err-clause-judged g c =
    let r = c.args.request.now in
    let s = c.args.source.now in
    let P : Task → Type 0 = λ t. OnOk c.refuse.result (TellsRefusal g.O.Write.contents t r.format (table_of r.styles) s.name.now s.text.now c.in-Err.failure c.args.console.now c.refuse.new.console) in
    refused_by g.O.Write.contents task.Check r.format (table_of r.styles) s.name.now s.text.now _ _ c.in-Err.failure c.refuse.result
    (λ some meant. some (c.in-Err.ensures.only meant)) c.in-Err.ensures.refused c.refuse.ensures.verdict (subst P c.requires c.refuse.ensures.told)

pub returns-in-Ok-clause-said : goal.returns-in-Ok-clause-said
returns-in-Ok-clause-said g c = rw c.accept.ensures refl

pub returns-in-Err-clause-said : goal.returns-in-Err-clause-said
returns-in-Err-clause-said g c =
    speaking.refused_by g.O.Write.contents _ c.args.request.now.format _ _ _ _ c.args.console.now c.refuse.new.console _ c.refuse.result c.refuse.ensures.verdict c.refuse.ensures.told
