use Rattle.std.proofs.Common.{sym, ◌∙◌}
use Rattle.std.proofs.Output.{has_written_of_eq}
use Rattle.cedar_expressions.proofs.ShownAt.{of_val, of_var, of_slot}
use Rattle.cedar_expressions.proofs.show.ExprDisplay.fmt.Goals as goal

pub returns-in-Val-clause-writes : goal.returns-in-Val-clause-writes
returns-in-Val-clause-writes g c = λ plain ok.
    has_written_of_eq g.W.Write.write_str_gives _ _ _ _ (of_val c.args.self.now c.in-Val.literal (sym c.kind.ensures ∙ c.in-Val.is)) (c.fmt.ensures.writes plain ok)

pub returns-in-Var-clause-writes : goal.returns-in-Var-clause-writes
returns-in-Var-clause-writes g c = λ plain ok.
    has_written_of_eq g.W.Write.write_str_gives _ _ _ _ (of_var c.args.self.now c.in-Var.var (sym c.kind.ensures ∙ c.in-Var.is)) (c.fmt-in-Var.ensures.writes plain ok)

pub returns-in-Slot-clause-writes : goal.returns-in-Slot-clause-writes
returns-in-Slot-clause-writes g c = λ plain ok.
    has_written_of_eq g.W.Write.write_str_gives _ _ _ _ (of_slot c.args.self.now c.in-Slot.id (sym c.kind.ensures ∙ c.in-Slot.is)) (c.fmt-in-Slot.ensures.writes plain ok)
