use Rattle.std.proofs.Common.{[], codes}
use Rattle.cedar_expressions.specs.Meaning.{expr_meaning}
use Rattle.cedar_expressions.specs.Value as v
use Rattle.cedar_writer.specs.machines.Pending.{method_todo}
use Rattle.cedar_writer.specs.machines.Todos.{todos_seen}
use Rattle.cedar_writer.proofs.Told.{puts_turn}
use Rattle.cedar_writer.proofs.opening.open_unary.Goals as goal

pub returns-in-IsEmpty : goal.returns-in-IsEmpty
returns-in-IsEmpty c = λ table.
    rw c.in-IsEmpty.is (puts_turn table (method_todo (expr_meaning c.args.a.now) (codes "isEmpty") []) (v.is_empty (expr_meaning c.args.a.now))
    c.open_method.result (todos_seen c.args.todo.now) (todos_seen c.open_method.new.todo) tt c.open_method.ensures)
