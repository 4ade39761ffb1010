use Rattle.std.proofs.Common.{ap, arith}
use Rattle.std.proofs.lemmas.Result.{on_ok_weaker}
use Rattle.cedar_json_writer.specs.machines.Pending.{all_tokens, all_weights, all_called}
use Rattle.cedar_json_writer.proofs.Listed as listed
use Rattle.cedar_json_writer.proofs.chains.put_heads.Goals as goal

pub returns : goal.returns
returns c = on_ok_weaker c.put_all.result (λ p. listed.heads_some c.args.key.now c.args.count _ c.args.todo.now _ (omega arith) (ap all_tokens p) (ap all_weights p) (ap all_called p)) c.put_all.ensures
