use Rattle.std.specs.FinMap.{entries}
use Rattle.json.specs.Token.{Token}
use Rattle.cedar_json_writer.proofs.Policies.{text_more, texts_end}
use Rattle.cedar_json_writer.proofs.Steps.{written}
use Rattle.cedar_json_writer.proofs.policy.write_annotations.Goals as goal

pub loop-key-preserved : goal.loop-key-preserved
loop-key-preserved c =
    text_more c.args.out.now c.loop-key.out c.key.new.self c.string.new.self (entries c.args.annotations.now) c.loop-key.key-iterator c.next.new.self c.as_str.result.now c.as_str-in-loop-key.result.now c.in-Some.key.now c.in-Some.annotation.now
    c.in-Some.ensures.steps c.as_str.ensures.same c.as_str-in-loop-key.ensures c.loop-key.invariant
    (written c.loop-key.out c.key.new.self (Token.key c.as_str.result.now) c.in_ok-key.ensures) (written c.key.new.self c.string.new.self (Token.string c.as_str-in-loop-key.result.now) c.in_ok-string.ensures)

pub returns : goal.returns
returns c = texts_end c.end_object.result c.args.out.now c.loop-key.out c.end_object.new.self (entries c.args.annotations.now) c.loop-key.key-iterator c.in-None.ensures.steps.0 c.loop-key.invariant c.end_object.ensures
