use Rattle.std.proofs.Common.{[], codes, ap, sym}
use Rattle.json.specs.Tree.{json_tokens}
use Rattle.cedar_expressions.specs.Meaning.{unplaced}
use Rattle.cedar_json_writer.specs.FunctionKeys.{keys_called}
use Rattle.cedar_json_writer.specs.PolicyForms.{body_json, condition_json}
use Rattle.cedar_json_writer.proofs.Conditions.{now_unless, now_when, now_unless_called, checks_same}
use Rattle.cedar_json_writer.proofs.Steps.{same_added}
use Rattle.cedar_json_writer.proofs.policy.write_condition.Goals as goal

pub returns-in-Some-clause-tokens : goal.returns-in-Some-clause-tokens
returns-in-Some-clause-tokens c =
    same_added c.write_body.result c.args.out.now c.write_body.new.out (json_tokens (body_json (codes "unless") (unplaced c.in-Some.body.now))) (json_tokens (condition_json (unplaced c.args.condition.now)))
    (ap json_tokens (sym (now_unless c.args.condition.now c.in-Some.body.now c.in-Some.ensures))) c.write_body.ensures.tokens

pub returns-in-Some-clause-called : goal.returns-in-Some-clause-called
returns-in-Some-clause-called c =
    checks_same c.write_body.result (keys_called (unplaced c.in-Some.body.now) []) (keys_called (unplaced c.args.condition.now) []) (now_unless_called c.args.condition.now c.in-Some.body.now c.in-Some.ensures) c.write_body.ensures.called

pub returns-in-None-clause-tokens : goal.returns-in-None-clause-tokens
returns-in-None-clause-tokens c =
    same_added c.write_body-in-None.result c.args.out.now c.write_body-in-None.new.out (json_tokens (body_json (codes "when") (unplaced c.args.condition.now))) (json_tokens (condition_json (unplaced c.args.condition.now)))
    (ap json_tokens (sym (now_when c.args.condition.now c.in-None.ensures))) c.write_body-in-None.ensures.tokens
