use Rattle.std.proofs.Common.{length, rules}
use Rattle.std.proofs.lemmas.Iterator.Consumers.{YieldsList-from_first, YieldsList-turn, YieldsList-end}
use Rattle.cedar_syntax.specs.faults.NonEmpty.{remaining_items}
use Rattle.cedar_syntax.specs.faults.ParseErrors.{faults_of}
use Rattle.cedar_report.proofs.Telling.{told_more, told_whole}
use Rattle.cedar_report.proofs.report.findings.Goals as goal

pub loop-fault-preserved : goal.loop-fault-preserved
loop-fault-preserved c =
    let faults = faults_of c.args.faults.now in
    let t = YieldsList-turn (YieldsList-from_first (λ x. x.now) remaining_items {s = c.into_iter-fault-iterator.result} faults (cc)) c.loop-fault.yielded c.loop-fault.fault-iterator c.loop-fault.yielded_by c.next.result c.next.new.self c.in-Some.fault c.in-Some.is c.next.ensures.steps in
    told_more c.args.sources.now.lines.text.now faults c.loop-fault.yielded c.in-Some.fault c.in-Some.fault.now c.loop-fault.findings.items _ _ t.0 t.1 c.loop-fault.invariant c.in_ok-tell.ensures (search rules)

pub returns : goal.returns
returns c =
    let faults = faults_of c.args.faults.now in
    let t = YieldsList-end (YieldsList-from_first (λ x. x.now) remaining_items {s = c.into_iter-fault-iterator.result} faults (cc)) c.loop-fault.yielded c.loop-fault.fault-iterator c.loop-fault.yielded_by c.next.result c.next.new.self c.in-None.is c.next.ensures.steps in
    told_whole c.args.sources.now.lines.text.now faults (length c.loop-fault.yielded) c.loop-fault.findings.items t.1 c.loop-fault.invariant
