use Rattle.std.proofs.Common.{refl}
use Rattle.cedar_conversion.specs.strict.Table.{table_of}
use Rattle.cedar_tool.proofs.Serving.{no_text_by}
use Rattle.cedar_tool.proofs.Speaking.{told, told_by}
use Rattle.cedar_tool.proofs.serve.serve_bytes.Goals as goal

pub returns-in-Ok-clause-served : goal.returns-in-Ok-clause-served
returns-in-Ok-clause-served g c = rw (← c.in-Ok.ensures.cases.0) c.serve_text.ensures.served

pub returns-in-Err-clause-served : goal.returns-in-Err-clause-served
returns-in-Err-clause-served g c =
    let r = c.args.request.now in
    let n = c.args.named.now in
    no_text_by g.D.Disk.files g.O.Write.contents r.task r.format (table_of r.styles) n.name.now n.bytes.now c.args.disk.now c.args.disk.now c.args.console.now c.tell_not_utf8.new.console
    c.tell_not_utf8.result refl c.in-Err.ensures.cases.0 c.tell_not_utf8.ensures.verdict c.tell_not_utf8.ensures.told

pub tell_not_utf8-requires : goal.tell_not_utf8-requires
tell_not_utf8-requires g c = c.in-Err.ensures.cases.0

pub returns-in-Err-clause-said : goal.returns-in-Err-clause-said
returns-in-Err-clause-said g c =
    let format = c.args.request.now.format in
    let new = c.tell_not_utf8.new.console in
    told_by format c.args.console.now.errors new.errors _ c.tell_not_utf8.result
    (λ (shown, findings, tells, t). told g.O.Write.contents format c.args.named.now.name.now findings c.args.console.now new t) c.tell_not_utf8.ensures.verdict c.tell_not_utf8.ensures.told
