use Rattle.std.proofs.Common.{[], ◌∷◌, ◌++◌, codes, subst, OnOk}
use Rattle.json.specs.Token.{Token}
use Rattle.cedar_expressions.specs.Path.{Path, name_text}
use Rattle.cedar_json_writer.specs.machines.Outputs.{op_tokens}
use Rattle.cedar_json_writer.proofs.Steps.{Added, written, in_turn, finish}
use Rattle.cedar_json_writer.proofs.scope.write_type.Goals as goal

pub returns : goal.returns
returns c =
    let key : Token = Token.key (codes "entity_type") in
    finish c.write_name.result c.args.out.now c.key.new.self c.write_name.new.out (op_tokens (codes "is") ++ key ∷ []) (Token.string (name_text c.args.entity_type.now.name) ∷ [])
    (in_turn c.args.out.now c.write_op.new.out c.key.new.self (op_tokens (codes "is")) (key ∷ []) c.in_ok-write_op.ensures (written c.write_op.new.out c.key.new.self key c.in_ok-key.ensures))
    (subst (λ (name : Path). OnOk c.write_name.result (Added c.key.new.self c.write_name.new.out (Token.string (name_text name) ∷ []))) c.name.ensures c.write_name.ensures)
