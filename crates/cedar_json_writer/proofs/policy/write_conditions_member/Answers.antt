use Rattle.std.proofs.Common.{[], ◌∷◌, codes}
use Rattle.std.specs.Option.{option_copied, option_map}
use Rattle.json.specs.Token.{Token}
use Rattle.cedar_expressions.specs.Meaning.{unplaced}
use Rattle.cedar_json_writer.specs.PolicyForms.{conditions_listed}
use Rattle.cedar_json_writer.proofs.Conditions.{array_written}
use Rattle.cedar_json_writer.proofs.Steps.{written, in_turn}
use Rattle.cedar_json_writer.proofs.policy.write_conditions_member.Goals as goal

pub returns-clause-tokens : goal.returns-clause-tokens
returns-clause-tokens c =
    let key : Token = Token.key (codes "conditions") in
    array_written c.args.out.now c.begin_array.new.self c.write_condition_list.new.out c.end_array.new.self (conditions_listed (option_map unplaced (option_copied c.args.condition)))
    (in_turn c.args.out.now c.key.new.self c.begin_array.new.self (key ∷ []) (Token.begin_array ∷ []) (written c.args.out.now c.key.new.self key c.in_ok-key.ensures) (written c.key.new.self c.begin_array.new.self Token.begin_array c.in_ok-begin_array.ensures))
    c.in_ok-write_condition_list.ensures.tokens (written c.write_condition_list.new.out c.end_array.new.self Token.end_array c.in_ok-end_array.ensures)
