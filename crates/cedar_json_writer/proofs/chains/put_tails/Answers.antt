use Rattle.std.proofs.Common.{ap}
use Rattle.std.proofs.lemmas.Result.{on_ok_weaker}
use Rattle.cedar_json_writer.specs.machines.Pending.{all_tokens, all_weights, all_called}
use Rattle.cedar_json_writer.proofs.Listed as listed
use Rattle.cedar_json_writer.proofs.chains.put_tails.Goals as goal

pub returns-in-Some : goal.returns-in-Some
returns-in-Some c = on_ok_weaker c.put_all.result (λ p. listed.tails_some c.args.exprs.now c.in-Some.first.now c.in-Some.rest.now c.args.todo.now _ c.in-Some.ensures.cases.0 (ap all_tokens p) (ap all_weights p) (ap all_called p)) c.put_all.ensures
