use Rattle.std.proofs.Common.{◌∷◌, ◌∙◌, ap, sym}
use Rattle.std.specs.FinMap.{values}
use Rattle.json.specs.Token.{Token}
use Rattle.cedar_json_writer.specs.machines.Outputs.{Checks}
use Rattle.cedar_json_writer.proofs.Conditions.{handed_on}
use Rattle.cedar_json_writer.proofs.Policies.{called_by, none_named, named_more, named_refused, named_end, none_called}
use Rattle.cedar_json_writer.proofs.Steps.{written}
use Rattle.cedar_json_writer.proofs.policy.write_static_policies.Goals as goal

pub loop-policy-init : goal.loop-policy-init
loop-policy-init c = none_named c.begin_object.new.self (values c.args.set.now.policies) c.into_iter-policy-iterator.result (c.into_iter-policy-iterator.ensures.into_iter_gives ∙ c.static_policies-policy-items.ensures)

pub loop-policy-preserved : goal.loop-policy-preserved
loop-policy-preserved c =
    named_more c.begin_object.new.self c.loop-policy.out c.write_named.new.out (values c.args.set.now.policies) c.loop-policy.policy-iterator c.next.new.self c.as_template.result.now (c.in-Some.ensures.steps ∙ ap (λ t. t ∷ c.next.new.self) (sym c.as_template.ensures.same)) c.loop-policy.invariant c.in_ok-write_named.ensures.tokens c.in_ok-write_named.ensures.called

pub returns-in_err-write_named-clause-called : goal.returns-in_err-write_named-clause-called
returns-in_err-write_named-clause-called c =
    let why = c.in_err-write_named.field-0.0 in
    handed_on c.from_residual-in_err-write_named.result why (λ r. Checks (called_by (values c.args.set.now.policies)) r) c.from_residual-in_err-write_named.ensures.1
    (named_refused c.begin_object.new.self c.loop-policy.out (values c.args.set.now.policies) c.loop-policy.policy-iterator c.next.new.self c.as_template.result.now why (c.in-Some.ensures.steps ∙ ap (λ t. t ∷ c.next.new.self) (sym c.as_template.ensures.same)) c.loop-policy.invariant c.in_err-write_named.ensures.called)

pub returns-clause-tokens : goal.returns-clause-tokens
returns-clause-tokens c =
    named_end c.args.out.now c.begin_object.new.self c.loop-policy.out c.end_object.new.self (values c.args.set.now.policies) c.loop-policy.policy-iterator c.in-None.ensures.steps.0 (written c.args.out.now c.begin_object.new.self Token.begin_object c.in_ok-begin_object.ensures) c.loop-policy.invariant (written c.loop-policy.out c.end_object.new.self Token.end_object c.in_ok-end_object.ensures)

pub returns-clause-called : goal.returns-clause-called
returns-clause-called c = none_called c.begin_object.new.self c.loop-policy.out (values c.args.set.now.policies) c.loop-policy.policy-iterator c.in-None.ensures.steps.0 c.loop-policy.invariant
