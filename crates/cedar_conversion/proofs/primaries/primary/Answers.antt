use Rattle.std.proofs.Common.{ap, ◌∙◌, Some}
use Rattle.cedar_conversion.specs.strict.Table.{table_of}
use Rattle.cedar_syntax.specs.trees.Forms.{primary_form}
use Rattle.cedar_conversion.proofs.Outcomes.{gives_at}
use Rattle.cedar_conversion.proofs.Taken.{untaken, made}
use Rattle.cedar_conversion.proofs.Nodes as node
use Rattle.cedar_conversion.proofs.Nested as inner
use Rattle.cedar_conversion.proofs.primaries.primary.Goals as goal

pub returns-in-Some-Expr : goal.returns-in-Some-Expr
returns-in-Some-Expr g c =
    made (inner.level primary_form c.args.node.now _ c.in-Some-Expr.is ∙ inner.parens _ _ (rw c.in-Some-Expr.is at c.in-Some-Expr.field-0-is)) c.parens.ensures
    (λ h. gives_at _ _ _ _ (node.parens_node (table_of c.args.styles.now) c.args.node.now _ _ c.in-Some-Expr.is (rw c.in-Some-Expr.is at c.in-Some-Expr.field-0-is)) h)

pub returns-in-Some-Literal : goal.returns-in-Some-Literal
returns-in-Some-Literal g c =
    made (inner.level primary_form c.args.node.now _ c.in-Some-Literal.is ∙ inner.literal _ _ (rw c.in-Some-Literal.is at c.in-Some-Literal.field-0-is)) (untaken c.literal.ensures)
    (λ h. gives_at _ c.literal.new.answer _ _ (node.literal_node (table_of c.args.styles.now) c.args.node.now _ _ c.in-Some-Literal.is (rw c.in-Some-Literal.is at c.in-Some-Literal.field-0-is)) h)

pub returns-in-Some-Name : goal.returns-in-Some-Name
returns-in-Some-Name g c =
    made (inner.level primary_form c.args.node.now _ c.in-Some-Name.is ∙ inner.name _ _ (rw c.in-Some-Name.is at c.in-Some-Name.field-0-is)) (untaken c.variable_or_name.ensures)
    (λ h. gives_at _ c.variable_or_name.new.answer _ _ (node.name_node (table_of c.args.styles.now) c.args.node.now _ _ c.in-Some-Name.is (rw c.in-Some-Name.is at c.in-Some-Name.field-0-is)) h)

pub returns-in-Some-Slot : goal.returns-in-Some-Slot
returns-in-Some-Slot g c =
    made (inner.level primary_form c.args.node.now _ c.in-Some-Slot.is ∙ inner.slot _ _ (rw c.in-Some-Slot.is at c.in-Some-Slot.field-0-is)) (untaken c.slot_in.ensures)
    (λ h. gives_at _ c.slot_in.new.answer _ _ (node.slot_node (table_of c.args.styles.now) c.args.node.now _ _ c.in-Some-Slot.is (rw c.in-Some-Slot.is at c.in-Some-Slot.field-0-is)) h)

pub returns-in-Some-Ref : goal.returns-in-Some-Ref
returns-in-Some-Ref g c =
    made (inner.level primary_form c.args.node.now _ c.in-Some-Ref.is ∙ inner.reference _ _ (rw c.in-Some-Ref.is at c.in-Some-Ref.field-0-is)) (untaken (rw c.as_ref.ensures at c.entity_in.ensures))
    (λ h. gives_at _ c.entity_in.new.answer _ _ (node.ref_node (table_of c.args.styles.now) c.args.node.now _ _ c.in-Some-Ref.is (rw c.in-Some-Ref.is at c.in-Some-Ref.field-0-is)) h)

pub returns-in-Some-EList : goal.returns-in-Some-EList
returns-in-Some-EList g c = c.set.ensures _ (c.in-Some-EList.is ∙ ap Some (rw c.in-Some-EList.is at c.in-Some-EList.field-0-is))

pub returns-in-Some-RInits : goal.returns-in-Some-RInits
returns-in-Some-RInits g c = c.record.ensures _ (c.in-Some-RInits.is ∙ ap Some (rw c.in-Some-RInits.is at c.in-Some-RInits.field-0-is))

pub returns-in-None : goal.returns-in-None
returns-in-None g c =
    made (inner.none primary_form c.args.node.now c.in-None.is) (untaken c.empty_node_in.ensures) (λ h. gives_at _ c.empty_node_in.new.answer _ _ (node.empty (table_of c.args.styles.now) primary_form c.args.node.now c.in-None.is) h)
