use Rattle.std.proofs.Common.{ap, sym, ◌∙◌, map}
use Rattle.std.proofs.lemmas.Result.{on_ok_weaker}
use Rattle.cedar_expressions.specs.Meaning.{expr_meaning}
use Rattle.cedar_expressions.specs.Value.{terms}
use Rattle.cedar_json_writer.specs.Forms.{value_json}
use Rattle.cedar_json_writer.specs.FunctionKeys.{keys_called}
use Rattle.cedar_json_writer.specs.machines.Pending.{all_tokens, all_weights, all_called, weight, term_value}
use Rattle.cedar_json_writer.proofs.Openings as opened
use Rattle.cedar_json_writer.proofs.chains.open_sum.Goals as goal

pub returns : goal.returns
unfolding value_json weight keys_called
returns c = on_ok_weaker c.put_all.result (λ p. (
  ap all_tokens p ∙ sym (opened.summed (value_json (expr_meaning c.args.first.now)) (terms (map term_value c.args.rest.now)) (all_tokens c.args.todo.now)),
  opened.sum_less (weight (expr_meaning c.args.first.now)) c.args.rest.now (all_weights c.args.todo.now) _ (ap all_weights p),
  ap all_called p,
)) c.put_all.ensures
