use Rattle.std.proofs.Common.{[], ◌∷◌, codes}
use Rattle.cedar_lexer.specs.declared.token.TokenKind.TheVariants as kind
use Rattle.cedar_expressions.specs.Meaning.{expr_meaning}
use Rattle.cedar_expressions.specs.Value as v
use Rattle.cedar_writer.specs.machines.Pending.{infix_todo, method_todo, whole_todo}
use Rattle.cedar_writer.specs.machines.Todos.{todos_seen}
use Rattle.cedar_writer.proofs.Told.{puts_turn}
use Rattle.cedar_writer.proofs.opening.open_between.Goals as goal

pub returns-in-Less : goal.returns-in-Less
returns-in-Less c = λ table.
    rw c.in-Less.is (puts_turn table (infix_todo kind.Less (codes "<") (expr_meaning c.args.a.now) (expr_meaning c.args.b.now)) (v.less (expr_meaning c.args.a.now) (expr_meaning c.args.b.now))
    c.open_infix.result (todos_seen c.args.todo.now) (todos_seen c.open_infix.new.todo) tt c.open_infix.ensures)

pub returns-in-LessEq : goal.returns-in-LessEq
returns-in-LessEq c = λ table.
    rw c.in-LessEq.is (puts_turn table (infix_todo kind.LessEq (codes "<=") (expr_meaning c.args.a.now) (expr_meaning c.args.b.now)) (v.lesseq (expr_meaning c.args.a.now) (expr_meaning c.args.b.now))
    c.open_infix-in-LessEq.result (todos_seen c.args.todo.now) (todos_seen c.open_infix-in-LessEq.new.todo) tt c.open_infix-in-LessEq.ensures)

pub returns-in-Greater : goal.returns-in-Greater
returns-in-Greater c = λ table.
    rw c.in-Greater.is (puts_turn table (infix_todo kind.Greater (codes ">") (expr_meaning c.args.a.now) (expr_meaning c.args.b.now)) (v.greater (expr_meaning c.args.a.now) (expr_meaning c.args.b.now))
    c.open_infix-in-Greater.result (todos_seen c.args.todo.now) (todos_seen c.open_infix-in-Greater.new.todo) tt c.open_infix-in-Greater.ensures)

pub returns-in-GreaterEq : goal.returns-in-GreaterEq
returns-in-GreaterEq c = λ table.
    rw c.in-GreaterEq.is (puts_turn table (infix_todo kind.GreaterEq (codes ">=") (expr_meaning c.args.a.now) (expr_meaning c.args.b.now)) (v.greatereq (expr_meaning c.args.a.now) (expr_meaning c.args.b.now))
    c.open_infix-in-GreaterEq.result (todos_seen c.args.todo.now) (todos_seen c.open_infix-in-GreaterEq.new.todo) tt c.open_infix-in-GreaterEq.ensures)

pub returns-in-Eq : goal.returns-in-Eq
returns-in-Eq c = λ table.
    rw c.in-Eq.is (puts_turn table (infix_todo kind.EqEq (codes "==") (expr_meaning c.args.a.now) (expr_meaning c.args.b.now)) (v.is_eq (expr_meaning c.args.a.now) (expr_meaning c.args.b.now))
    c.open_infix-in-Eq.result (todos_seen c.args.todo.now) (todos_seen c.open_infix-in-Eq.new.todo) tt c.open_infix-in-Eq.ensures)

pub returns-in-NotEq : goal.returns-in-NotEq
returns-in-NotEq c = λ table.
    rw c.in-NotEq.is (puts_turn table (infix_todo kind.NotEq (codes "!=") (expr_meaning c.args.a.now) (expr_meaning c.args.b.now)) (v.noteq (expr_meaning c.args.a.now) (expr_meaning c.args.b.now))
    c.open_infix-in-NotEq.result (todos_seen c.args.todo.now) (todos_seen c.open_infix-in-NotEq.new.todo) tt c.open_infix-in-NotEq.ensures)

pub returns-in-In : goal.returns-in-In
returns-in-In c = λ table.
    rw c.in-In.is (puts_turn table (infix_todo kind.In (codes "in") (expr_meaning c.args.a.now) (expr_meaning c.args.b.now)) (v.is_in (expr_meaning c.args.a.now) (expr_meaning c.args.b.now))
    c.open_infix-in-In.result (todos_seen c.args.todo.now) (todos_seen c.open_infix-in-In.new.todo) tt c.open_infix-in-In.ensures)

pub returns-in-Contains : goal.returns-in-Contains
returns-in-Contains c = λ table.
    rw c.in-Contains.is (puts_turn table (method_todo (expr_meaning c.args.a.now) (codes "contains") (whole_todo (expr_meaning c.args.b.now) ∷ [])) (v.contains (expr_meaning c.args.a.now) (expr_meaning c.args.b.now))
    c.open_method_of.result (todos_seen c.args.todo.now) (todos_seen c.open_method_of.new.todo) tt c.open_method_of.ensures)

pub returns-in-ContainsAll : goal.returns-in-ContainsAll
returns-in-ContainsAll c = λ table.
    rw c.in-ContainsAll.is (puts_turn table (method_todo (expr_meaning c.args.a.now) (codes "containsAll") (whole_todo (expr_meaning c.args.b.now) ∷ [])) (v.contains_all (expr_meaning c.args.a.now) (expr_meaning c.args.b.now))
    c.open_method_of-in-ContainsAll.result (todos_seen c.args.todo.now) (todos_seen c.open_method_of-in-ContainsAll.new.todo) tt c.open_method_of-in-ContainsAll.ensures)

pub returns-in-ContainsAny : goal.returns-in-ContainsAny
returns-in-ContainsAny c = λ table.
    rw c.in-ContainsAny.is (puts_turn table (method_todo (expr_meaning c.args.a.now) (codes "containsAny") (whole_todo (expr_meaning c.args.b.now) ∷ [])) (v.contains_any (expr_meaning c.args.a.now) (expr_meaning c.args.b.now))
    c.open_method_of-in-ContainsAny.result (todos_seen c.args.todo.now) (todos_seen c.open_method_of-in-ContainsAny.new.todo) tt c.open_method_of-in-ContainsAny.ensures)

pub returns-in-GetTag : goal.returns-in-GetTag
returns-in-GetTag c = λ table.
    rw c.in-GetTag.is (puts_turn table (method_todo (expr_meaning c.args.a.now) (codes "getTag") (whole_todo (expr_meaning c.args.b.now) ∷ [])) (v.get_tag (expr_meaning c.args.a.now) (expr_meaning c.args.b.now))
    c.open_method_of-in-GetTag.result (todos_seen c.args.todo.now) (todos_seen c.open_method_of-in-GetTag.new.todo) tt c.open_method_of-in-GetTag.ensures)

pub returns-in-HasTag : goal.returns-in-HasTag
returns-in-HasTag c = λ table.
    rw c.in-HasTag.is (puts_turn table (method_todo (expr_meaning c.args.a.now) (codes "hasTag") (whole_todo (expr_meaning c.args.b.now) ∷ [])) (v.has_tag (expr_meaning c.args.a.now) (expr_meaning c.args.b.now))
    c.open_method_of-in-HasTag.result (todos_seen c.args.todo.now) (todos_seen c.open_method_of-in-HasTag.new.todo) tt c.open_method_of-in-HasTag.ensures)
