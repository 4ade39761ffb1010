use Rattle.std.proofs.Common.{map}
use Rattle.cedar_expressions.specs.Meaning.{expr_meaning}
use Rattle.cedar_expressions.specs.Value.{values, terms, fields}
use Rattle.cedar_conversion.specs.strict.Table.{table_of}
use Rattle.cedar_writer.specs.machines.Todos.{sort_seen, todos_seen, term_meaning, field_meaning}
use Rattle.cedar_writer.proofs.Turning.{operand_steps, negated_steps, behind_steps, terms_steps, pairs_steps}
use Rattle.cedar_writer.proofs.writer.write_next.Goals as goal

pub returns-in-Operand : goal.returns-in-Operand
returns-in-Operand c =
    rw c.in-Operand.is (operand_steps (table_of c.args.styles.now) c.args.out.now (todos_seen c.args.todo.now) (todos_seen c.put_operand.new.todo)
    (sort_seen c.in-Operand.wanted) (expr_meaning c.in-Operand.expr.now) c.put_operand.result c.put_operand.ensures)

pub returns-in-Negated : goal.returns-in-Negated
returns-in-Negated c =
    rw c.in-Negated.is (negated_steps (table_of c.args.styles.now) c.args.out.now (todos_seen c.args.todo.now) (todos_seen c.put_negated.new.todo)
    (expr_meaning c.in-Negated.expr.now) c.put_negated.result c.put_negated.ensures)

pub returns-in-Behind : goal.returns-in-Behind
returns-in-Behind c =
    rw c.in-Behind.is (behind_steps (table_of c.args.styles.now) c.args.out.now (todos_seen c.args.todo.now) (todos_seen c.put_behind.new.todo)
    c.in-Behind.kind c.in-Behind.text.now (sort_seen c.in-Behind.wanted) (values (map expr_meaning c.in-Behind.exprs.now)) c.put_behind.result c.put_behind.ensures)

pub returns-in-Terms : goal.returns-in-Terms
returns-in-Terms c =
    rw c.in-Terms.is (terms_steps (table_of c.args.styles.now) c.args.out.now (todos_seen c.args.todo.now) (todos_seen c.put_terms.new.todo)
    (terms (map term_meaning c.in-Terms.terms.now)) c.put_terms.result c.put_terms.ensures)

pub returns-in-Pairs : goal.returns-in-Pairs
returns-in-Pairs c =
    rw c.in-Pairs.is (pairs_steps (table_of c.args.styles.now) c.args.out.now (todos_seen c.args.todo.now) (todos_seen c.put_pairs.new.todo)
    (fields (map field_meaning c.in-Pairs.pairs.now)) c.put_pairs.result c.put_pairs.ensures)
