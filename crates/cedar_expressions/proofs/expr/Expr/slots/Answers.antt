use Rattle.std.proofs.Common.{◌++◌, sym, ap, ◌∙◌}
use Rattle.std.specs.List.{flat_map}
use Rattle.cedar_expressions.specs.Slots.{slots_in}
use Rattle.cedar_expressions.specs.Walks.{shown}
use Rattle.cedar_expressions.proofs.PartsAt.{found_on}
use Rattle.cedar_expressions.proofs.expr.Expr.slots.Goals as goal

pub loop-expr-preserved : goal.loop-expr-preserved
loop-expr-preserved c =
    found_on c.loop-expr.found.items c.push_slot.new.found.items (slots_in c.args.self.now) c.in-Some.expr.now c.slot_here.result (shown c.pop.new.self) (shown c.push_parts.new.rest)
    (ap (λ r. c.loop-expr.found.items ++ flat_map slots_in (shown r)) (sym c.in-Some.ensures) ∙ c.loop-expr.invariant)
    c.slot_here.ensures c.in_ok-push_slot.ensures c.in_ok-push_parts.ensures
