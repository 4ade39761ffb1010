use Rattle.std.proofs.Common.{ap}
use Rattle.std.proofs.lemmas.Result.{on_ok_weaker}
use Rattle.cedar_json_writer.specs.machines.Pending.{all_tokens, all_weights, all_called}
use Rattle.cedar_json_writer.proofs.Listed as listed
use Rattle.cedar_json_writer.proofs.attributes.put_get_tails.Goals as goal

pub returns-in-Some : goal.returns-in-Some
returns-in-Some c = on_ok_weaker c.put_all.result (λ p. listed.gets_some c.as_str.result.now c.args.attrs.now c.in-Some.attr.now c.in-Some.attrs.now c.args.todo.now _ c.as_str.ensures c.in-Some.ensures.cases.0 (ap all_tokens p) (ap all_weights p) (ap all_called p)) c.put_all.ensures
