use Rattle.std.proofs.Common.{◌∙◌}
use Rattle.cedar_conversion.specs.strict.Table.{table_of}
use Rattle.cedar_conversion.specs.machines.Nested.{nested}
use Rattle.cedar_syntax.specs.trees.Forms.{located, add_form}
use Rattle.cedar_conversion.proofs.Gathered.{lone_side}
use Rattle.cedar_conversion.proofs.Outcomes.{given_in, gives_at}
use Rattle.cedar_conversion.proofs.Taken.{made, next_taken, lone_behind}
use Rattle.cedar_conversion.proofs.Nodes as node
use Rattle.cedar_conversion.proofs.Nested as inner
use Rattle.cedar_conversion.proofs.levels.relation_chain.Goals as goal

pub returns-in-None : goal.returns-in-None
returns-in-None g c = c.comparisons.ensures _ _ c.in-Common.is

pub returns-in-Some : goal.returns-in-Some
returns-in-Some g c =
    let alone = rw (c.as_slice.ensures, c.in-Some.is) at c.only_one.ensures in
    made (inner.common _ _ _ c.in-Common.is ∙ lone_behind _ (λ p. nested (located add_form p.1)) _ _ alone) (next_taken c.add.ensures (λ p. c.add-in-Some.ensures))
    (λ p. gives_at _ _ _ _ (node.common_node (table_of c.args.site.styles.now) c.args.site.loc.now c.args.relation.now _ _ c.in-Common.is ∙ lone_side _ _ _ _ _ alone)
    (c.comparison_in.ensures _ _ (given_in _ _ _ _ c.take-first.ensures p.0) p.1))

pub returns-in-Has : goal.returns-in-Has
returns-in-Has g c = c.has.ensures _ _ c.in-Has.is

pub returns-in-Like : goal.returns-in-Like
returns-in-Like g c = c.like.ensures _ _ c.in-Like.is

pub returns-in-IsIn : goal.returns-in-IsIn
returns-in-IsIn g c = c.is_in.ensures _ _ _ c.in-IsIn.is
