use Rattle.std.proofs.Common.{◌∙◌}
use Rattle.std.specs.declared.cmp.Ordering.TheVariants.{Less, Equal, Greater}
use Rattle.cedar_policy_store.proofs.Numbers.{by_digits}
use Rattle.cedar_policy_store.proofs.id_order.compare_numbers.Goals as goal

pub returns-in-Less : goal.returns-in-Less
returns-in-Less c =
    by_digits c.args.a.now c.args.b.now c.without_zeros-a.result.now c.without_zeros-b.result.now c.requires.digits_first c.requires.digits_second c.without_zeros-a.ensures c.without_zeros-b.ensures Less c.in-Less.ensures

pub returns-in-Equal : goal.returns-in-Equal
returns-in-Equal c =
    c.cmp-in-Equal.ensures
    ∙ by_digits c.args.a.now c.args.b.now c.without_zeros-a.result.now c.without_zeros-b.result.now c.requires.digits_first c.requires.digits_second c.without_zeros-a.ensures c.without_zeros-b.ensures Equal c.in-Equal.ensures

pub returns-in-Greater : goal.returns-in-Greater
returns-in-Greater c =
    by_digits c.args.a.now c.args.b.now c.without_zeros-a.result.now c.without_zeros-b.result.now c.requires.digits_first c.requires.digits_second c.without_zeros-a.ensures c.without_zeros-b.ensures Greater c.in-Greater.ensures
