use Rattle.std.proofs.Common.{length}
use Rattle.std.proofs.lemmas.Iterator.Consumers.{YieldsList-from_first, YieldsList-turn, YieldsList-end}
use Rattle.std.proofs.lemmas.List.{length_push}
use Rattle.cedar_syntax.specs.faults.NonEmpty.{remaining_items}
use Rattle.cedar_syntax.specs.faults.ParseErrors.{faults_of}
use Rattle.cedar_policy_conversion.proofs.PolicyLists.{static_more, static_whole}
use Rattle.cedar_policy_conversion.proofs.templates.static_faults.Goals as goal

pub loop-fault-preserved : goal.loop-fault-preserved
loop-fault-preserved c =
    let faults = faults_of c.args.faults.now in
    let t = YieldsList-turn (YieldsList-from_first (λ x. x.now) remaining_items {s = c.into_iter-fault-iterator.result} faults (cc)) c.loop-fault.yielded c.loop-fault.fault-iterator c.loop-fault.yielded_by c.next.result c.next.new.self c.in-Some.fault c.in-Some.is c.next.ensures.steps in
    rw (length_push c.loop-fault.yielded c.in-Some.fault) (static_more faults (length c.loop-fault.yielded) c.in-Some.fault.now c.loop-fault.more.items c.add_static_fault.new.more.items t.0 t.1 c.loop-fault.invariant c.in_ok-add_static_fault.ensures)

pub returns : goal.returns
returns c =
    let faults = faults_of c.args.faults.now in
    let t = YieldsList-end (YieldsList-from_first (λ x. x.now) remaining_items {s = c.into_iter-fault-iterator.result} faults (cc)) c.loop-fault.yielded c.loop-fault.fault-iterator c.loop-fault.yielded_by c.next.result c.next.new.self c.in-None.is c.next.ensures.steps in
    static_whole faults (length c.loop-fault.yielded) c.loop-fault.more.items t.1 c.loop-fault.invariant
