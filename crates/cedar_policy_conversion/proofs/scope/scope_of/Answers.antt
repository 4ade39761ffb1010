use Rattle.std.proofs.Common.{option_copied}
use Rattle.cedar_conversion.specs.strict.Table.{table_of}
use Rattle.cedar_policy_conversion.proofs.ScopeParts.{elements_given, got}
use Rattle.cedar_policy_conversion.proofs.scope.scope_of.Goals as goal

pub returns : goal.returns
returns c =
    let ns = c.args.elements.now in
    elements_given (table_of c.args.styles.now) c.args.place.now c.place_behind-behind_first.result.now c.place_behind-behind_second.result.now
    (option_copied c.get-first.result) (option_copied c.get-second.result) (option_copied c.get-third.result) c.others.result.now ns c.join_elements.result
    (got ns 0 c.get-first.result c.get-first.ensures.lookup) (got ns 1 c.get-second.result c.get-second.ensures.lookup) (got ns 2 c.get-third.result c.get-third.ensures.lookup)
    c.others.ensures c.place_behind-behind_first.ensures c.place_behind-behind_second.ensures
    (c.join_elements.ensures _ _ _ _ c.principal.ensures c.action.ensures c.resource.ensures c.refuse_extra.ensures)
