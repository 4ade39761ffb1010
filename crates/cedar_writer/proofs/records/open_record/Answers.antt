use Rattle.std.proofs.Common.{ℕ, List, [], ◌∷◌, ◌++◌, map, refl, ap, ◌∙◌, subst, codes}
use Rattle.cedar_lexer.specs.declared.token.TokenKind.TheVariants as kind
use Rattle.cedar_expressions.specs.declared.expr.Expr.{Expr}
use Rattle.cedar_expressions.specs.Keys.{repeats_key}
use Rattle.cedar_expressions.specs.Value as v
use Rattle.cedar_expressions.specs.Value.{fields}
use Rattle.cedar_writer.specs.machines.Pending.{Todo, word, pairs}
use Rattle.cedar_writer.specs.machines.Todos.{todos_seen, field_meaning}
use Rattle.cedar_writer.specs.machines.Turns.{Stacks}
use Rattle.cedar_writer.proofs.RecordsOpened.{keys_repeat, keys_are_apart}
use Rattle.cedar_writer.proofs.Told.{puts_turn}
use Rattle.cedar_writer.proofs.records.open_record.Goals as goal

abbrev items : List (List ℕ × Expr) → List Todo
items ps = word kind.OpenBrace (codes "{") ∷ (pairs (fields (map field_meaning ps)) ++ word kind.CloseBrace (codes "}") ∷ [])

pub returns-then-branch : goal.returns-then-branch
returns-then-branch c = λ table. (keys_repeat c.args.entries.now c.in_ok-repeats_key.field-0 (c.in_ok-repeats_key.ensures ∙ ap (λ ps. repeats_key (map (λ p. p.0) ps)) c.as_slice-all.ensures) c.if-branch.true, refl)

pub returns : goal.returns
returns c = λ table.
    puts_turn table (items c.args.entries.now) (v.«record» (fields (map field_meaning c.args.entries.now))) c.put_pairs.result (todos_seen c.args.todo.now) (todos_seen c.put_pairs.new.todo)
    (keys_are_apart c.args.entries.now c.in_ok-repeats_key.field-0 (c.in_ok-repeats_key.ensures ∙ ap (λ ps. repeats_key (map (λ p. p.0) ps)) c.as_slice-all.ensures) c.if-branch.false)
    (subst (λ ps. Stacks (items ps) c.put_pairs.result (todos_seen c.args.todo.now) (todos_seen c.put_pairs.new.todo)) c.as_slice-all.ensures c.put_pairs.ensures)
