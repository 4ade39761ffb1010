use Rattle.std.proofs.Common.{ap, ◌∙◌, Some}
use Rattle.cedar_conversion.specs.strict.Table.{table_of}
use Rattle.cedar_syntax.specs.trees.Forms.{access_form}
use Rattle.cedar_conversion.proofs.Outcomes.{gives_left, refuses}
use Rattle.cedar_conversion.proofs.Taken.{untaken, made}
use Rattle.cedar_conversion.proofs.Nodes as node
use Rattle.cedar_conversion.proofs.Nested as inner
use Rattle.cedar_conversion.proofs.primaries.access.Goals as goal

pub returns-in-None : goal.returns-in-None
returns-in-None g c =
    made (inner.none access_form c.args.node.now c.in-None.is) (untaken {X = Unit {0}} tt)
    (λ p. rw c.put-in-None.ensures (refuses c.empty_node.result _ _ _ (node.no_access_node (table_of c.args.styles.now) c.args.node.now c.in-None.is) c.empty_node.ensures))

pub returns-in-Some-Field : goal.returns-in-Some-Field
returns-in-Some-Field g c =
    made (inner.level access_form c.args.node.now _ c.in-Some-Field.is ∙ inner.field _ _ (rw c.in-Some-Field.is at c.in-Some-Field.field-0-is)) (untaken {X = Unit {0}} tt)
    (λ p. gives_left _ _ _ _ _ c.put.ensures (node.field_node (table_of c.args.styles.now) c.args.node.now _ _ c.in-Some-Field.is (rw c.in-Some-Field.is at c.in-Some-Field.field-0-is)) (c.field_from.ensures g.B.ExprBuilderInfallibleBuild.meaning))

pub returns-in-Some-Index : goal.returns-in-Some-Index
returns-in-Some-Index g c =
    made (inner.level access_form c.args.node.now _ c.in-Some-Index.is ∙ inner.index _ _ (rw c.in-Some-Index.is at c.in-Some-Index.field-0-is)) c.answer.ensures
    (λ p. gives_left _ _ _ _ _ c.put-in-Some-Index.ensures (node.index_node (table_of c.args.styles.now) c.args.node.now _ _ c.in-Some-Index.is (rw c.in-Some-Index.is at c.in-Some-Index.field-0-is)) (c.index_from.ensures _ (rw c.take-index.ensures p)))

pub returns-in-Some-Call : goal.returns-in-Some-Call
returns-in-Some-Call g c = c.arguments.ensures _ (c.in-Some-Call.is ∙ ap Some (rw c.in-Some-Call.is at c.in-Some-Call.field-0-is))
