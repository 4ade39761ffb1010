use Rattle.std.proofs.Common.{ap, sym, ◌∙◌, codes}
use Rattle.std.proofs.lemmas.Result.{on_ok_weaker}
use Rattle.cedar_expressions.specs.Meaning.{expr_meaning}
use Rattle.cedar_json_writer.specs.Forms.{value_json}
use Rattle.cedar_json_writer.specs.FunctionKeys.{keys_called}
use Rattle.cedar_json_writer.specs.machines.Pending.{all_tokens, all_weights, all_called, weight}
use Rattle.cedar_json_writer.proofs.Openings as opened
use Rattle.cedar_json_writer.proofs.opening.open_conditional.Goals as goal

pub returns : goal.returns
unfolding value_json weight keys_called
returns c = on_ok_weaker c.put_all.result (λ p. (
  ap all_tokens p ∙ sym (opened.three_tokens (codes "if-then-else") (codes "if") (codes "then") (codes "else") (value_json (expr_meaning c.args.parts.now.0)) (value_json (expr_meaning c.args.parts.now.1)) (value_json (expr_meaning c.args.parts.now.2)) (all_tokens c.args.todo.now)),
  opened.three_less (weight (expr_meaning c.args.parts.now.0)) (weight (expr_meaning c.args.parts.now.1)) (weight (expr_meaning c.args.parts.now.2)) (all_weights c.args.todo.now) _ (ap all_weights p),
  ap all_called p,
)) c.put_all.ensures
