use Rattle.std.proofs.Common.{ap, sym, ◌∙◌, ◌++◌, ◌+◌, ◌<◌, ℕ, List, length, map, subst}
use Rattle.std.proofs.lemmas.Result.{on_ok_weaker}
use Rattle.json.specs.Json.{Json}
use Rattle.json.specs.Tree.{json_tokens}
use Rattle.cedar_expressions.specs.Meaning.{expr_meaning}
use Rattle.cedar_expressions.specs.Value.{values}
use Rattle.cedar_json_writer.specs.Forms.{value_json, chain_key}
use Rattle.cedar_json_writer.specs.machines.Pending.{heads, tails, all_tokens, all_weights, all_called, weight}
use Rattle.cedar_json_writer.proofs.Openings as opened
use Rattle.cedar_json_writer.proofs.chains.open_nary.Goals as goal

pub returns : goal.returns
returns c =
    let old = c.args.todo.now in
    let a = expr_meaning c.args.first.now in
    let es = c.args.rest.now in
    on_ok_weaker c.put_all.result (λ p. (
      ap all_tokens p
          ∙ ap (λ (k : List ℕ). heads k (length es) ++ (json_tokens (value_json a) ++ (tails (values (map expr_meaning es)) ++ all_tokens old))) c.nary_key.ensures
          ∙ sym (ap (λ (j : Json). json_tokens j ++ all_tokens old) (opened.nary_json c.args.op a (values (map expr_meaning es))) ∙ opened.chained (chain_key c.args.op) (value_json a) es (all_tokens old)),
      subst (λ (n : ℕ). all_weights c.put_all.new.todo < n + all_weights old) (sym (opened.nary_load c.args.op a (values (map expr_meaning es)))) (opened.chain_less (weight a) es (all_weights old) _ (ap all_weights p)),
      ap all_called p ∙ sym (opened.nary_called c.args.op a (values (map expr_meaning es)) (all_called old)),
    )) c.put_all.ensures
