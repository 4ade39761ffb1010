-- What was written and what is still to be written are all that was to be written, and no function
-- of what was written is called by an operator's key.
use Rattle.std.proofs.Common.{◌≡◌, ◌++◌}
use Rattle.cedar_json_writer.specs.machines.Pending.{all_tokens, all_weights, all_called}
use Rattle.cedar_json_writer.proofs.writer.write_all.Given as goal

abbrev pub invariant-loop-next : goal.invariant-loop-next
invariant-loop-next l = record {
  before : l.out.before ≡ l.fn.out.before;
  tokens : l.out.tokens ++ all_tokens l.todo ≡ l.fn.out.tokens ++ all_tokens l.fn.todo;
  called : all_called l.todo ≡ all_called l.fn.todo;
}

abbrev pub decreases-loop-next : goal.decreases-loop-next
decreases-loop-next l = all_weights l.todo
