use Rattle.std.proofs.Common.{ap, sym, ◌∙◌, codes}
use Rattle.std.proofs.lemmas.Result.{on_ok_weaker}
use Rattle.json.specs.Json.{string}
use Rattle.cedar_expressions.specs.Meaning.{expr_meaning}
use Rattle.cedar_json_writer.specs.Forms.{value_json}
use Rattle.cedar_json_writer.specs.FunctionKeys.{keys_called}
use Rattle.cedar_json_writer.specs.machines.Pending.{all_tokens, all_weights, all_called, weight}
use Rattle.cedar_json_writer.proofs.Openings as opened
use Rattle.cedar_json_writer.proofs.attributes.open_attribute.Goals as goal

pub returns : goal.returns
unfolding value_json weight keys_called
returns c =
    let a = expr_meaning c.args.a.now in
    let old = c.args.todo.now in
    on_ok_weaker c.put_all.result (λ p. (
      ap all_tokens p ∙ sym (opened.beside_tokens (codes ".") (codes "attr") (value_json a) (string c.args.attr.now) (all_tokens old)),
      opened.beside_less (weight a) (all_weights old) _ (ap all_weights p),
      ap all_called p,
    )) c.put_all.ensures
