use Rattle.std.proofs.Common.{ap, sym, ◌∙◌, ◌++◌, codes}
use Rattle.std.proofs.lemmas.Result.{on_ok_weaker}
use Rattle.json.specs.Json.{string, object, member, no_members}
use Rattle.json.specs.Tree.{json_tokens}
use Rattle.cedar_expressions.specs.Meaning.{expr_meaning}
use Rattle.cedar_expressions.specs.Path.{Path, name_text}
use Rattle.cedar_json_writer.specs.Forms.{value_json, wrapped}
use Rattle.cedar_json_writer.specs.FunctionKeys.{keys_called}
use Rattle.cedar_json_writer.specs.machines.Pending.{all_tokens, all_weights, all_called, weight}
use Rattle.cedar_json_writer.proofs.Openings as opened
use Rattle.cedar_json_writer.proofs.opening.open_typed_in.Goals as goal

pub returns : goal.returns
unfolding value_json weight keys_called
returns c = on_ok_weaker c.put_all.result (λ p. (
  ap all_tokens p ∙ sym (opened.three_tokens (codes "is") (codes "left") (codes "entity_type") (codes "in") (value_json (expr_meaning c.args.a.now)) (string (name_text c.name.result.now)) (value_json (expr_meaning c.args.b.now)) (all_tokens c.args.todo.now))
      ∙ ap (λ (n : Path). json_tokens (wrapped (codes "is") (object (member (codes "left") (value_json (expr_meaning c.args.a.now)) (member (codes "entity_type") (string (name_text n)) (member (codes "in") (value_json (expr_meaning c.args.b.now)) no_members))))) ++ (all_tokens c.args.todo.now)) c.name.ensures,
  opened.typed_less (weight (expr_meaning c.args.a.now)) (weight (expr_meaning c.args.b.now)) (all_weights c.args.todo.now) _ (ap all_weights p),
  ap all_called p,
)) c.put_all.ensures
