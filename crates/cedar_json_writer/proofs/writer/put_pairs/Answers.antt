use Rattle.std.proofs.Common.{ap}
use Rattle.std.proofs.lemmas.Result.{on_ok_weaker}
use Rattle.cedar_json_writer.specs.machines.Pending.{all_tokens, all_weights, all_called}
use Rattle.cedar_json_writer.proofs.Listed as listed
use Rattle.cedar_json_writer.proofs.writer.put_pairs.Goals as goal

pub returns-in-None : goal.returns-in-None
returns-in-None c = on_ok_weaker c.put_all.result (λ p. listed.pairs_none c.args.pairs.now c.args.todo.now _ c.in-None.ensures.cases (ap all_tokens p) (ap all_weights p) (ap all_called p)) c.put_all.ensures

pub returns-in-Some : goal.returns-in-Some
returns-in-Some c = on_ok_weaker c.put_all-in-Some.result (λ p. listed.pairs_some c.as_str.result.now c.args.pairs.now c.in-Some.first.now c.in-Some.rest.now c.args.todo.now _ c.as_str.ensures c.in-Some.ensures.cases.0 (ap all_tokens p) (ap all_weights p) (ap all_called p)) c.put_all-in-Some.ensures
