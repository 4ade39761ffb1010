use Rattle.std.proofs.Common.{◌≡◌, arith, subst, w64, of_z, to_z, to_z-of_z}
use Rattle.cedar_expressions.specs.declared.atoms.Literal.TheVariants as literals
use Rattle.cedar_expressions.specs.Value as v
use Rattle.cedar_writer.specs.machines.Todos.{todos_seen}
use Rattle.cedar_writer.specs.machines.Turns.{Opens}
use Rattle.cedar_writer.proofs.opening.open_literal.Goals as goal

pub returns-in-Long : goal.returns-in-Long
returns-in-Long c =
    let same : to_z w64 (of_z w64 c.in-Long.number) ≡ c.in-Long.number = grind (arith, to_z-of_z) in
    λ table. rw c.in-Long.is (subst (λ z. Opens table (v.val (literals.Long z)) c.open_number.result (todos_seen c.args.todo.now) (todos_seen c.open_number.new.todo)) same (c.open_number.ensures table))
