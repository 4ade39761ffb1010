use Rattle.std.proofs.Common.{length}
use Rattle.std.proofs.lemmas.Iterator.Consumers.{YieldsList-from_first, YieldsList-turn, YieldsList-end}
use Rattle.std.proofs.lemmas.List.{length_push}
use Rattle.cedar_syntax.specs.faults.NonEmpty.{remaining_items}
use Rattle.cedar_syntax.specs.faults.ParseErrors.{faults_of}
use Rattle.cedar_command.proofs.WrittenAnswers.{line_more, lines_whole}
use Rattle.cedar_command.proofs.run.print_faults.Goals as goal

pub loop-fault-preserved : goal.loop-fault-preserved
loop-fault-preserved g c =
    let faults = faults_of c.args.faults.now in
    let t = YieldsList-turn (YieldsList-from_first (λ x. x.now) remaining_items {s = c.into_iter-fault-iterator.result} faults (cc)) c.loop-fault.yielded c.loop-fault.fault-iterator c.loop-fault.yielded_by c.next.result c.next.new.self c.in-Some.fault c.in-Some.is c.next.ensures.steps in
    rw (length_push c.loop-fault.yielded c.in-Some.fault) (line_more faults (length c.loop-fault.yielded) c.in-Some.fault.now _ _ _ t.0 t.1 c.loop-fault.invariant c.in_ok-print_fault.ensures.written)

pub returns-clause-written : goal.returns-clause-written
returns-clause-written g c =
    let faults = faults_of c.args.faults.now in
    let t = YieldsList-end (YieldsList-from_first (λ x. x.now) remaining_items {s = c.into_iter-fault-iterator.result} faults (cc)) c.loop-fault.yielded c.loop-fault.fault-iterator c.loop-fault.yielded_by c.next.result c.next.new.self c.in-None.is c.next.ensures.steps in
    lines_whole faults (length c.loop-fault.yielded) _ _ t.1 c.loop-fault.invariant
