use Rattle.std.proofs.Common.{[], ◌∷◌, codes}
use Rattle.json.specs.Token.{Token}
use Rattle.cedar_json_writer.proofs.Policies.{without_annotations, with_annotations}
use Rattle.cedar_json_writer.proofs.Steps.{written, in_turn}
use Rattle.cedar_json_writer.proofs.policy.write_annotations_member.Goals as goal

pub returns-then-is_empty : goal.returns-then-is_empty
returns-then-is_empty c =
    without_annotations c.end_object.result c.args.out.now c.end_object.new.self c.args.annotations.now (c.is_empty.ensures.0 c.if-is_empty.true) c.end_object.ensures

pub returns : goal.returns
returns c =
    let key : Token = Token.key (codes "annotations") in
    with_annotations c.end_object-2.result c.args.out.now c.begin_object.new.self c.write_annotations.new.out c.end_object-2.new.self c.args.annotations.now c.is_empty.result c.is_empty.ensures.1 c.if-is_empty.false
    (in_turn c.args.out.now c.key.new.self c.begin_object.new.self (key ∷ []) (Token.begin_object ∷ []) (written c.args.out.now c.key.new.self key c.in_ok-key.ensures) (written c.key.new.self c.begin_object.new.self Token.begin_object c.in_ok-begin_object.ensures))
    c.in_ok-write_annotations.ensures c.end_object-2.ensures
