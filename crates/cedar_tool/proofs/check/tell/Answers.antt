use Rattle.std.proofs.Common.{[], string_bytes, refl, subst}
use Rattle.cedar_tool.specs.declared.request.Format.{Format}
use Rattle.cedar_tool.specs.Told.{AddsReport}
use Rattle.cedar_tool.proofs.Judging.{told_json}
use Rattle.cedar_tool.proofs.check.tell.Goals as goal

pub returns-in-Json-clause-told : goal.returns-in-Json-clause-told
returns-in-Json-clause-told g c =
    let r = c.args.report.now in
    let a = c.args.console.now.errors in
    let P : Format → Type 0 = λ f. AddsReport f r.name.now r.findings.items [] (string_bytes c.in_ok-told.told) in
    rw c.in-Json.is (told_json r.name.now r.findings.items a a (string_bytes c.in_ok-told.told) _ c.write.result refl (subst P c.in-Json.is c.in_ok-told.ensures) c.write.ensures.written)
