use Rattle.std.proofs.Common.{[]}
use Rattle.cedar_expressions.specs.Meaning.{unplaced}
use Rattle.cedar_conversion.specs.strict.Table.{table_of}
use Rattle.cedar_syntax.specs.tokens.Signs.{sign_limit}
use Rattle.cedar_writer.specs.WrittenPolicies.{conditions_in, conditions_words, AreWritableConditions}
use Rattle.cedar_writer.specs.machines.Policies.{AreUnwritable, Writes}
use Rattle.cedar_writer.proofs.PolicyParts.{conditioned_first, conditioned_on, joint_refused, last_written, later_is_less}
use Rattle.cedar_writer.proofs.Refusals.{handed_on}
use Rattle.cedar_writer.proofs.policy.write_conditions.Goals as goal

pub loop-both-init : goal.loop-both-init
loop-both-init c = conditioned_first (table_of c.args.styles.now) sign_limit c.args.out.now c.args.condition.now

pub loop-both-preserved : goal.loop-both-preserved
loop-both-preserved c =
    conditioned_on (table_of c.args.styles.now) sign_limit c.args.out.now c.loop-both.out c.write_condition.new.out c.args.condition.now c.loop-both.left.now
    c.in-Some.both.now.0 c.in-Some.both.now.1 c.in-Some.ensures c.loop-both.invariant c.in_ok-write_condition.ensures.0 c.in_ok-write_condition.ensures.1

pub loop-both-smaller : goal.loop-both-smaller
loop-both-smaller c = later_is_less c.loop-both.left.now c.in-Some.both.now.0 c.in-Some.both.now.1 c.in-Some.ensures

pub returns-in_err-write_condition : goal.returns-in_err-write_condition
returns-in_err-write_condition c =
    let table = table_of c.args.styles.now in
    let all = conditions_in (unplaced c.args.condition.now) in
    handed_on c.from_residual.result c.in_err-write_condition.field-0.0
    (λ r. Writes (conditions_words table all []) (AreWritableConditions table sign_limit all) (AreUnwritable table sign_limit all) r c.args.out.now c.write_condition.new.out) c.from_residual.ensures.1
    (joint_refused table sign_limit c.args.out.now c.loop-both.out c.write_condition.new.out c.args.condition.now c.loop-both.left.now
    c.in_err-write_condition.field-0.0 c.in-Some.both.now.0 c.in-Some.both.now.1 c.in-Some.ensures c.loop-both.invariant c.in_err-write_condition.ensures)

pub returns : goal.returns
returns c =
    last_written (table_of c.args.styles.now) sign_limit c.args.out.now c.loop-both.out c.write_condition-2.new.out c.args.condition.now c.loop-both.left.now
    c.write_condition-2.result c.in_default.ensures c.loop-both.invariant c.write_condition-2.ensures
