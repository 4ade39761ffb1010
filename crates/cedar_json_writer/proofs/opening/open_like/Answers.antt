use Rattle.std.proofs.Common.{ap, sym, ◌∙◌, [], codes}
use Rattle.std.proofs.lemmas.Result.{on_ok_weaker}
use Rattle.cedar_expressions.specs.Meaning.{expr_meaning}
use Rattle.cedar_json_writer.specs.Forms.{value_json, pattern_items}
use Rattle.cedar_json_writer.specs.FunctionKeys.{keys_called}
use Rattle.cedar_json_writer.specs.machines.Pending.{all_tokens, all_weights, all_called, weight}
use Rattle.cedar_json_writer.proofs.Openings as opened
use Rattle.cedar_json_writer.proofs.opening.open_like.Goals as goal

pub returns : goal.returns
unfolding value_json weight keys_called
returns c = on_ok_weaker c.put_all.result (λ p. (
  ap all_tokens p ∙ sym (opened.array_tokens (codes "like") (codes "pattern") (value_json (expr_meaning c.args.a.now)) (pattern_items [] c.args.pattern.now) (all_tokens c.args.todo.now)),
  opened.array_less (weight (expr_meaning c.args.a.now)) (all_weights c.args.todo.now) _ (ap all_weights p),
  ap all_called p,
)) c.put_all.ensures
