-- What was put is all but those that are left.
use Rattle.std.proofs.Common.{◌≡◌, ◌++◌}
use Rattle.cedar_writer.specs.machines.Todos.{todos_seen}
use Rattle.cedar_writer.proofs.todo.put_all.Given as goal

abbrev pub invariant-loop-item : goal.invariant-loop-item
invariant-loop-item l =
    todos_seen l.item-iterator.iter.rest.now ++ todos_seen l.todo
    ≡ todos_seen l.initial.items ++ todos_seen l.initial.todo
