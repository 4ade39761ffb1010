use Rattle.cedar_conversion.specs.outcome.Outcome.{expression_construction_error}
use Rattle.cedar_conversion.specs.machines.Views.{plain}
use Rattle.cedar_conversion.proofs.Outcomes.{gives_at, refuses_with}
use Rattle.cedar_conversion.proofs.Parts.{record_made, record_refused}
use Rattle.cedar_conversion.proofs.primaries.collections.record_from.Goals as goal

pub returns-in-Ok : goal.returns-in-Ok
returns-in-Ok g c ps h =
    let m = g.B.ExprBuilderInfallibleBuild.meaning in
    gives_at (plain m) c.expr_at.result _ _ (record_made m c.args.loc.now ps c.in_ok-pairs.field-0.items _ (rw c.in_ok-pairs.was at h) c.in-Ok.ensures.ok.0 c.in-Ok.ensures.ok.1) c.expr_at.ensures

pub returns-in-Err-Construction : goal.returns-in-Err-Construction
returns-in-Err-Construction g c ps h =
    let m = g.B.ExprBuilderInfallibleBuild.meaning in
    let due = rw c.in-Err-Construction.field-0-is at c.in-Err-Construction.ensures.err in
    refuses_with c.refusal.result _ expression_construction_error c.args.loc.now _ (record_refused m c.args.loc.now ps c.in_ok-pairs.field-0.items _ (rw c.in_ok-pairs.was at h) due.0 due.1) c.refusal.ensures
