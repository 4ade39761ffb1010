use Rattle.std.proofs.Common.{[], ◌∷◌, codes}
use Rattle.json.specs.Token.{Token}
use Rattle.cedar_json_writer.proofs.Steps.{written, in_turn, finish_one}
use Rattle.cedar_json_writer.proofs.policy.write_no_links.Goals as goal

pub returns : goal.returns
returns c =
    let key : Token = Token.key (codes "templateLinks") in
    finish_one c.end_object.result c.args.out.now c.end_array.new.self c.end_object.new.self (key ∷ Token.begin_array ∷ Token.end_array ∷ []) Token.end_object
    (in_turn c.args.out.now c.begin_array.new.self c.end_array.new.self (key ∷ Token.begin_array ∷ []) (Token.end_array ∷ [])
    (in_turn c.args.out.now c.key.new.self c.begin_array.new.self (key ∷ []) (Token.begin_array ∷ []) (written c.args.out.now c.key.new.self key c.in_ok-key.ensures) (written c.key.new.self c.begin_array.new.self Token.begin_array c.in_ok-begin_array.ensures))
    (written c.begin_array.new.self c.end_array.new.self Token.end_array c.in_ok-end_array.ensures)) c.end_object.ensures
