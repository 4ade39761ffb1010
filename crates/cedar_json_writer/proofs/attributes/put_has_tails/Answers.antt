use Rattle.std.proofs.Common.{◌+◌, ◌++◌, ◌∷◌, ℕ, List, take, drop, ap, ◌∙◌, arith}
use Rattle.std.proofs.lemmas.Result.{on_ok_weaker}
use Rattle.cedar_expressions.specs.Meaning.{expr_meaning}
use Rattle.cedar_json_writer.specs.Forms.{value_json}
use Rattle.cedar_json_writer.specs.FunctionKeys.{keys_called}
use Rattle.cedar_json_writer.specs.machines.Pending.{has_tails, found_by, all_tokens, all_weights, all_called, weight}
use Rattle.cedar_json_writer.proofs.Listed as listed
use Rattle.cedar_json_writer.proofs.attributes.put_has_tails.Goals as goal

pub returns : goal.returns
returns c =
    let a = expr_meaning c.args.a.now in
    let j = value_json a in
    let rest = c.args.rest.now in
    let n = c.args.done in
    let attr = c.as_str-2.result.now in
    on_ok_weaker c.put_all.result (λ p.
    listed.has_some j (weight a) (λ xs. keys_called a xs) c.args.first.now attr rest n (n + 1) c.args.todo.now _ c.if-done-rest.false (omega arith) c.index-rest-done.result (c.as_str-2.ensures ∙ c.index-rest-done.is)
    (ap all_tokens p ∙ ap (λ (first : List ℕ). listed.asked_tokens j (n + 1) first (take n rest) attr (has_tails (found_by (c.args.first.now ∷ take (n + 1) rest) j) (drop (n + 1) rest) ++ all_tokens c.args.todo.now)) c.as_str.ensures)
    (ap all_weights p) (ap all_called p)) c.put_all.ensures
