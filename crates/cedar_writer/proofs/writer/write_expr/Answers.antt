use Rattle.std.proofs.Common.{◌≡◌, List, [], ◌∷◌, ap, ◌∙◌, subst}
use Rattle.cedar_conversion.specs.strict.Strict as s
use Rattle.cedar_conversion.specs.strict.Table.{table_of}
use Rattle.cedar_expressions.specs.Meaning.{expr_meaning}
use Rattle.cedar_writer.specs.machines.Pending as p
use Rattle.cedar_writer.specs.machines.Stepping.{WritesAll}
use Rattle.cedar_writer.specs.machines.Todos.{todos_seen}
use Rattle.cedar_writer.proofs.Turning.{value_written}
use Rattle.cedar_writer.proofs.writer.write_expr.Goals as goal

pub returns : goal.returns
returns c =
    let table = table_of c.args.styles.now in
    let value = expr_meaning c.args.expr.now in
    let alone : todos_seen c.push.new.self ≡ p.operand s.expression value ∷ [] =
    ap todos_seen c.in_ok-push.ensures.ok
    ∙ ap (λ (ts : List p.Todo). p.operand s.expression value ∷ ts) (ap todos_seen c.new-todo.ensures) in
    value_written table value c.write_all.result c.args.out.now c.write_all.new.out
    (subst (λ ts. WritesAll table ts c.write_all.result c.args.out.now c.write_all.new.out) alone c.write_all.ensures)
