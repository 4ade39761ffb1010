use Rattle.std.proofs.Common.{◌≡◌, ◌+◌, ◌<◌, [], ◌∷◌, ap, subst, arith}
use Rattle.cedar_conversion.specs.strict.Table.{table_of}
use Rattle.cedar_writer.specs.machines.Pending.{todo_load, all_loads}
use Rattle.cedar_writer.specs.machines.Stepping.{Runs, WritesAll}
use Rattle.cedar_writer.specs.machines.Todos.{todo_seen, todos_seen}
use Rattle.cedar_writer.proofs.Refusals.{handed_on}
use Rattle.cedar_writer.proofs.Turning.{runs_first, runs_on, runs_out, runs_refused}
use Rattle.cedar_writer.proofs.writer.write_all.Goals as goal

pub loop-next-init : goal.loop-next-init
loop-next-init c = runs_first (table_of c.args.styles.now) (todos_seen c.args.todo.now) c.args.out.now

pub loop-next-preserved : goal.loop-next-preserved
loop-next-preserved c =
    let table = table_of c.args.styles.now in
    let whole : todos_seen c.loop-next.todo ≡ todo_seen c.in-Some.next ∷ todos_seen c.pop.new.self = ap todos_seen c.in-Some.ensures in
    runs_on table (todos_seen c.args.todo.now) c.args.out.now c.loop-next.out c.write_next.new.out (todo_seen c.in-Some.next) (todos_seen c.pop.new.self) (todos_seen c.write_next.new.todo)
    (subst (Runs table (todos_seen c.args.todo.now) c.args.out.now c.loop-next.out) whole c.loop-next.invariant)
    c.in_ok-write_next.ensures

pub loop-next-smaller : goal.loop-next-smaller
loop-next-smaller c =
    let whole : todos_seen c.loop-next.todo ≡ todo_seen c.in-Some.next ∷ todos_seen c.pop.new.self = ap todos_seen c.in-Some.ensures in
    let sum : all_loads (todos_seen c.loop-next.todo) ≡ todo_load (todo_seen c.in-Some.next) + all_loads (todos_seen c.pop.new.self) = ap all_loads whole in
    let less : all_loads (todos_seen c.write_next.new.todo) < todo_load (todo_seen c.in-Some.next) + all_loads (todos_seen c.pop.new.self) = c.in_ok-write_next.ensures.lighter in
    omega (arith, sum, less)

pub returns : goal.returns
returns c =
    let table = table_of c.args.styles.now in
    let none : todos_seen c.loop-next.todo ≡ [] = ap todos_seen c.in_default.ensures.0 in
    runs_out table (todos_seen c.args.todo.now) c.args.out.now c.loop-next.out
    (subst (Runs table (todos_seen c.args.todo.now) c.args.out.now c.loop-next.out) none c.loop-next.invariant)

pub returns-in_err-write_next : goal.returns-in_err-write_next
returns-in_err-write_next c =
    let table = table_of c.args.styles.now in
    let whole : todos_seen c.loop-next.todo ≡ todo_seen c.in-Some.next ∷ todos_seen c.pop.new.self = ap todos_seen c.in-Some.ensures in
    handed_on c.from_residual.result c.in_err-write_next.field-0.0 (λ r. WritesAll table (todos_seen c.args.todo.now) r c.args.out.now c.write_next.new.out) c.from_residual.ensures.1
    (runs_refused table (todos_seen c.args.todo.now) c.args.out.now c.loop-next.out c.write_next.new.out (todo_seen c.in-Some.next) (todos_seen c.pop.new.self) (todos_seen c.write_next.new.todo) c.in_err-write_next.field-0.0
    (subst (Runs table (todos_seen c.args.todo.now) c.args.out.now c.loop-next.out) whole c.loop-next.invariant)
    c.in_err-write_next.ensures)
