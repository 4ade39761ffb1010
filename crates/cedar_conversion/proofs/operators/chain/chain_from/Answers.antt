use Rattle.std.proofs.Common.{◌<◌, length, arith, ◌∙◌}
use Rattle.std.proofs.lemmas.Grind.{common_steps}
use Rattle.cedar_conversion.specs.machines.Views.{plain, rest_view, empty_view}
use Rattle.cedar_conversion.proofs.Outcomes.{both_gives, both_refused, both_given, given_next, refused_next, passed_on, gives_at}
use Rattle.cedar_conversion.proofs.Parts.{joined_some}
use Rattle.cedar_conversion.proofs.operators.chain.chain_from.Goals as goal

pub returns-in_err-first : goal.returns-in_err-first
returns-in_err-first g c x ps u h k l =
    let m = g.B.ExprBuilderInfallibleBuild.meaning in
    let parts = both_gives (plain m) (rest_view g.O.Joins.operator m) c.args.first c.args.rest c.flatten_tuple_2-parts.result x ps c.flatten_tuple_2-parts.ensures.both c.flatten_tuple_2-parts.ensures.faults h k in
    let all = both_refused _ empty_view c.flatten_tuple_2-parts.result c.args.allowed _ u c.in_err-first.field-0.0 parts l c.in_err-first.ensures.faults in
    passed_on (plain m) c.from_residual.result c.in_err-first.field-0.0 _ c.from_residual.ensures.1 (refused_next c.in_err-first.field-0.0 _ _ all)

pub returns-in_err-first-2 : goal.returns-in_err-first-2
returns-in_err-first-2 g c x ps u h k l =
    let m = g.B.ExprBuilderInfallibleBuild.meaning in
    let parts = both_gives (plain m) (rest_view g.O.Joins.operator m) c.args.first c.args.rest c.flatten_tuple_2-parts.result x ps c.flatten_tuple_2-parts.ensures.both c.flatten_tuple_2-parts.ensures.faults h k in
    let all = both_given _ empty_view c.flatten_tuple_2-parts.result c.args.allowed _ u _ _ parts l c.in_ok-first.ensures.both.0 c.in_ok-first.ensures.both.1 in
    let some : 0 < length c.in_ok-first.rest.items = grind (arith, common_steps) in
    gives_at (plain m) c.from_residual-in_err-first-2.result _ _ (given_next _ _ _ all ∙ joined_some g.O.Joins.level c.args.loc.now _ _ c.in_ok-first.rest.items some)
    (passed_on (plain m) c.from_residual-in_err-first-2.result c.in_err-first-2.field-0.0 _ c.from_residual-in_err-first-2.ensures.1 (refused_next c.in_err-first-2.field-0.0 _ _ c.in_err-first-2.ensures))

pub returns : goal.returns
returns g c x ps u h k l =
    let m = g.B.ExprBuilderInfallibleBuild.meaning in
    let parts = both_gives (plain m) (rest_view g.O.Joins.operator m) c.args.first c.args.rest c.flatten_tuple_2-parts.result x ps c.flatten_tuple_2-parts.ensures.both c.flatten_tuple_2-parts.ensures.faults h k in
    let all = both_given _ empty_view c.flatten_tuple_2-parts.result c.args.allowed _ u _ _ parts l c.in_ok-first.ensures.both.0 c.in_ok-first.ensures.both.1 in
    let some : 0 < length c.in_ok-first.rest.items = grind (arith, common_steps) in
    gives_at (plain m) c.combine.result _ _ (given_next _ _ _ all ∙ joined_some g.O.Joins.level c.args.loc.now _ _ c.in_ok-first.rest.items some ∙ given_next _ _ _ c.in_ok-first-2.ensures) c.combine.ensures
