use Rattle.std.proofs.Common.{◌≡◌, ap, sym, ◌∙◌, subst, List, ℕ}
use Rattle.cedar_json_writer.specs.Texts.{TellsFirst}
use Rattle.cedar_json_writer.specs.machines.Outputs.{Checks}
use Rattle.cedar_json_writer.specs.machines.Pending.{all_called, todo_called}
use Rattle.cedar_json_writer.proofs.Conditions.{handed_on, next_refused}
use Rattle.cedar_json_writer.proofs.writer.write_all.Goals as goal

pub returns-in_err-refuse_operator_key-clause-called : goal.returns-in_err-refuse_operator_key-clause-called
returns-in_err-refuse_operator_key-clause-called c =
    let why = c.in_err-refuse_operator_key.field-0.0 in
    let whole : all_called c.args.todo.now ≡ todo_called c.in-Some.next (all_called c.pop.new.self) = sym c.loop-next.invariant.called ∙ ap all_called c.in-Some.ensures in
    handed_on c.from_residual.result why (λ r. Checks (all_called c.args.todo.now) r) c.from_residual.ensures.1
    (subst (λ (ks : List (List ℕ)). TellsFirst ks why) (sym whole) (next_refused c.in-Some.next (all_called c.pop.new.self) why c.in_err-refuse_operator_key.ensures))
