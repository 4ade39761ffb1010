use Rattle.std.proofs.Common.{ap, sym, ◌∙◌, ◌++◌, ◌+◌, ◌<◌, ℕ, List, codes, subst}
use Rattle.std.proofs.lemmas.Result.{on_ok_weaker}
use Rattle.json.specs.Json.{Json}
use Rattle.json.specs.Tree.{json_tokens}
use Rattle.cedar_expressions.specs.Meaning.{expr_meaning}
use Rattle.cedar_json_writer.specs.Forms.{value_json, beside}
use Rattle.cedar_json_writer.specs.FunctionKeys.{keys_called}
use Rattle.cedar_json_writer.specs.machines.Pending.{all_tokens, all_weights, all_called, weight}
use Rattle.cedar_json_writer.proofs.Openings as opened
use Rattle.cedar_json_writer.proofs.opening.open_between.Goals as goal

pub returns : goal.returns
unfolding value_json weight keys_called
returns c = on_ok_weaker c.put_all.result (λ p. (
  ap all_tokens p ∙ sym (opened.beside_tokens c.binary_key.result.now (codes "right") (value_json (expr_meaning c.args.a.now)) (value_json (expr_meaning c.args.b.now)) (all_tokens c.args.todo.now))
      ∙ ap (λ (k : List ℕ). json_tokens (beside k (value_json (expr_meaning c.args.a.now)) (codes "right") (value_json (expr_meaning c.args.b.now))) ++ (all_tokens c.args.todo.now)) c.binary_key.ensures
      ∙ sym (ap (λ (j : Json). json_tokens j ++ (all_tokens c.args.todo.now)) (opened.between_json c.args.op (expr_meaning c.args.a.now) (expr_meaning c.args.b.now))),
  subst (λ (n : ℕ). all_weights c.put_all.new.todo < n + (all_weights c.args.todo.now)) (sym (opened.between_load c.args.op (expr_meaning c.args.a.now) (expr_meaning c.args.b.now))) (opened.two_less (weight (expr_meaning c.args.a.now)) (weight (expr_meaning c.args.b.now)) (all_weights c.args.todo.now) _ (ap all_weights p)),
  ap all_called p ∙ sym (opened.between_called c.args.op (expr_meaning c.args.a.now) (expr_meaning c.args.b.now) (all_called c.args.todo.now)),
)) c.put_all.ensures
