-- What was written and what is left make up all that was to be written.
use Rattle.cedar_conversion.specs.strict.Table.{table_of}
use Rattle.cedar_writer.specs.machines.Pending.{all_loads}
use Rattle.cedar_writer.specs.machines.Stepping.{Runs}
use Rattle.cedar_writer.specs.machines.Todos.{todos_seen}
use Rattle.cedar_writer.proofs.writer.write_all.Given as goal

abbrev pub invariant-loop-next : goal.invariant-loop-next
invariant-loop-next l =
    Runs (table_of l.styles) (todos_seen l.fn.todo) l.fn.out l.out (todos_seen l.todo)

abbrev pub decreases-loop-next : goal.decreases-loop-next
decreases-loop-next l = all_loads (todos_seen l.todo)
