use Rattle.std.proofs.Common.{ap}
use Rattle.std.proofs.lemmas.Result.{on_ok_weaker}
use Rattle.cedar_json_writer.specs.machines.Pending.{all_tokens, all_weights, all_called}
use Rattle.cedar_json_writer.proofs.Listed as listed
use Rattle.cedar_json_writer.proofs.chains.put_sum_heads.Goals as goal

pub returns-in-Some : goal.returns-in-Some
returns-in-Some c = on_ok_weaker c.put_all.result (λ p. listed.sum_heads_some c.sum_key.result.now c.args.terms.now c.in-Some.last.now c.in-Some.rest.now c.args.todo.now _ c.sum_key.ensures c.in-Some.ensures.cases.0 (ap all_tokens p) (ap all_weights p) (ap all_called p)) c.put_all.ensures
