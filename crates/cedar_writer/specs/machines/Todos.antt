-- What the program has still to write, as the definitions see it.
use Rattle.std.specs.Prelude.{ℕ, List, map}
use Rattle.cedar_expressions.specs.Meaning.{expr_meaning}
use Rattle.cedar_expressions.specs.declared.expr.Expr.{Expr}
use Rattle.cedar_expressions.specs.declared.operators.AddOp.{AddOp}
use Rattle.cedar_expressions.specs.Value.{Value, values, terms, fields}
use Rattle.cedar_conversion.specs.strict.Strict as s
use Rattle.cedar_writer.specs.declared.sort.Sort.{Sort}
use Rattle.cedar_writer.specs.declared.sort.Sort.TheVariants as sorts
use Rattle.cedar_writer.specs.declared.todo.Todo.{Todo}
use Rattle.cedar_writer.specs.declared.todo.Todo.TheVariants as todo
use Rattle.cedar_writer.specs.machines.Pending as p

abbrev pub sort_seen : Sort → s.Sort
sort_seen sorts.Expression = s.expression
sort_seen sorts.Disjunction = s.disjunction
sort_seen sorts.Conjunction = s.conjunction
sort_seen sorts.Relation = s.relation
sort_seen sorts.Sum = s.sum
sort_seen sorts.Product = s.product
sort_seen sorts.Signed = s.signed
sort_seen sorts.Member = s.member
sort_seen sorts.Primary = s.primary

abbrev pub term_meaning : AddOp × Expr → AddOp × Value
term_meaning t = (t.0, expr_meaning t.1)

abbrev pub field_meaning : List ℕ × Expr → List ℕ × Value
field_meaning f = (f.0, expr_meaning f.1)

abbrev pub todo_seen : Todo → p.Todo
todo_seen (todo.Word k text) = p.word k text.now
todo_seen (todo.Identifier id) = p.identifier id.now
todo_seen (todo.Name n) = p.name n.now
todo_seen (todo.Text text) = p.string text.now
todo_seen (todo.Pattern elems) = p.pattern elems.now
todo_seen (todo.Number n) = p.number n
todo_seen (todo.Key text) = p.key text.now
todo_seen (todo.Attributes id ids) = p.attributes id.now ids.now
todo_seen (todo.Operand wanted e) = p.operand (sort_seen wanted) (expr_meaning e.now)
todo_seen (todo.Negated e) = p.negated (expr_meaning e.now)
todo_seen (todo.Behind k text wanted es) =
    p.behind k text.now (sort_seen wanted) (values (map expr_meaning es.now))
todo_seen (todo.Terms ts) = p.terms_behind (terms (map term_meaning ts.now))
todo_seen (todo.Pairs ps) = p.pairs_behind (fields (map field_meaning ps.now))

abbrev pub todos_seen : List Todo → List p.Todo
todos_seen ts = map todo_seen ts
