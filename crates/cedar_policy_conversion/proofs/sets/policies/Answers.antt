use Rattle.std.proofs.Common.{◌≡◌, Some, subst, sym}
use Rattle.cedar_conversion.specs.strict.Table.{table_of}
use Rattle.cedar_policy_conversion.specs.GeneratedIds.{GivesNext, named_policies, remaining_nodes}
use Rattle.cedar_policy_conversion.specs.Policies.{policies_from}
use Rattle.cedar_policy_conversion.proofs.NumberedSets.{first_kept, next_free, next_kept, whole_kept}
use Rattle.cedar_policy_conversion.proofs.SetSteps.{meant_alone, placed_alone}
use Rattle.cedar_policy_conversion.proofs.sets.policies.Goals as goal

pub loop-item-init : goal.loop-item-init
loop-item-init c =
    first_kept (table_of c.args.styles.now) c.args.nodes.now c.into_iter-item-iterator.result c.new-set.result
    (subst (λ ids. remaining_nodes ids ≡ named_policies 0 c.args.nodes.now) (sym c.into_iter-item-iterator.ensures.into_iter_gives) c.new-item-items.ensures) c.new-set.ensures

pub one_more-all-requires : goal.one_more-all-requires
one_more-all-requires c =
    let ids = c.loop-item.item-iterator in
    let is = subst (λ r. GivesNext ids (Some r) c.next.new.self) c.in_ok-id.was c.in-Some.ensures.steps in
    next_free (table_of c.args.styles.now) c.args.nodes.now c.requires ids c.next.new.self c.loop-item.set c.loop-item.all c.loop-item.invariant c.in_ok-id.id c.in_ok-id.node.now is c.static_or_template.result c.static_or_template.ensures

pub loop-item-preserved : goal.loop-item-preserved
loop-item-preserved c =
    let ids = c.loop-item.item-iterator in
    let is = subst (λ r. GivesNext ids (Some r) c.next.new.self) c.in_ok-id.was c.in-Some.ensures.steps in
    next_kept (table_of c.args.styles.now) c.args.nodes.now c.requires ids c.next.new.self c.loop-item.set c.loop-item.all c.loop-item.invariant c.in_ok-id.id c.in_ok-id.node.now is c.static_or_template.result c.static_or_template.ensures
    c.one_more-all.new.set c.one_more-all.result c.one_more-all.ensures.named c.one_more-all.ensures.told

pub returns-clause-meant : goal.returns-clause-meant
returns-clause-meant c =
    meant_alone c.filled.result (policies_from (table_of c.args.styles.now) 0 c.args.nodes.now) (
    c.filled.ensures _ (whole_kept (table_of c.args.styles.now) c.args.nodes.now c.loop-item.item-iterator c.loop-item.set c.loop-item.all c.loop-item.invariant c.in-None.ensures.steps.0))

pub returns-clause-placed : goal.returns-clause-placed
returns-clause-placed c =
    placed_alone c.filled.result (policies_from (table_of c.args.styles.now) 0 c.args.nodes.now) (
    c.filled.ensures _ (whole_kept (table_of c.args.styles.now) c.args.nodes.now c.loop-item.item-iterator c.loop-item.set c.loop-item.all c.loop-item.invariant c.in-None.ensures.steps.0))
