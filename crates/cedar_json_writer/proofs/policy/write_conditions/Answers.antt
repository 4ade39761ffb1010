use Rattle.cedar_json_writer.specs.machines.Outputs.{Checks}
use Rattle.cedar_json_writer.proofs.Conditions.{apart, apart_called, handed_on, none_parted, parted_more, parted_refused, less_left, last_tokens, last_called}
use Rattle.cedar_json_writer.proofs.policy.write_conditions.Goals as goal

pub loop-both-init : goal.loop-both-init
loop-both-init c = none_parted c.args.out.now c.args.condition.now

pub loop-both-preserved : goal.loop-both-preserved
loop-both-preserved c =
    parted_more c.args.out.now c.loop-both.out c.write_condition.new.out c.args.condition.now c.loop-both.left.now c.in-Some.both.now.0 c.in-Some.both.now.1 c.in-Some.ensures c.loop-both.invariant c.in_ok-write_condition.ensures.tokens c.in_ok-write_condition.ensures.called

pub loop-both-smaller : goal.loop-both-smaller
loop-both-smaller c = less_left c.loop-both.left.now c.in-Some.both.now.0 c.in-Some.both.now.1 c.in-Some.ensures

pub returns-in_err-write_condition-clause-called : goal.returns-in_err-write_condition-clause-called
returns-in_err-write_condition-clause-called c =
    let why = c.in_err-write_condition.field-0.0 in
    handed_on c.from_residual.result why (λ r. Checks (apart_called (apart c.args.condition.now)) r) c.from_residual.ensures.1
    (parted_refused c.args.out.now c.loop-both.out c.args.condition.now c.loop-both.left.now c.in-Some.both.now.0 c.in-Some.both.now.1 why c.in-Some.ensures c.loop-both.invariant c.in_err-write_condition.ensures.called)

pub returns-clause-tokens : goal.returns-clause-tokens
returns-clause-tokens c =
    last_tokens c.write_condition-2.result c.args.out.now c.loop-both.out c.write_condition-2.new.out c.args.condition.now c.loop-both.left.now c.in_default.ensures c.loop-both.invariant c.write_condition-2.ensures.tokens

pub returns-clause-called : goal.returns-clause-called
returns-clause-called c =
    last_called c.write_condition-2.result c.args.out.now c.loop-both.out c.args.condition.now c.loop-both.left.now c.in_default.ensures c.loop-both.invariant c.write_condition-2.ensures.called
