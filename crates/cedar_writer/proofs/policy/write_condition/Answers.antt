use Rattle.cedar_conversion.specs.strict.Table.{table_of}
use Rattle.cedar_syntax.specs.tokens.Signs.{sign_limit}
use Rattle.cedar_writer.proofs.PolicyParts.{unless_written, when_written}
use Rattle.cedar_writer.proofs.policy.write_condition.Goals as goal

pub returns-in_ok-word-in-Some : goal.returns-in_ok-word-in-Some
returns-in_ok-word-in-Some c =
    unless_written (table_of c.args.styles.now) sign_limit c.write_body.result c.args.out.now c.word.new.self c.write_body.new.out c.args.condition.now c.in-Some.a.now c.in-Some.ensures c.in_ok-word-in-Some.ensures c.write_body.ensures

pub returns-in_ok-word-in-None : goal.returns-in_ok-word-in-None
returns-in_ok-word-in-None c =
    when_written (table_of c.args.styles.now) sign_limit c.write_body-in-None.result c.args.out.now c.word-in-None.new.self c.write_body-in-None.new.out c.args.condition.now c.in-None.ensures c.in_ok-word-in-None.ensures c.write_body-in-None.ensures
