use Rattle.cedar_conversion.specs.outcome.Seen.{itself}
use Rattle.cedar_conversion.proofs.Outcomes.{gives_at, refuses, refuses_with}
use Rattle.cedar_policy_conversion.proofs.ReferredNodes as node
use Rattle.cedar_policy_conversion.proofs.to_ref_or_refs.referred_at.Goals as goal

pub returns-in-Some-Ref : goal.returns-in-Some-Ref
returns-in-Some-Ref g c = gives_at itself c.entity_found.result _ _ (node.ref_referred g.T.RefKind.kind c.args.var c.args.node.now _ _ c.in-Some-Ref.is (rw c.in-Some-Ref.is at c.in-Some-Ref.field-0-is)) (rw c.as_ref.ensures at c.entity_found.ensures)

pub returns-in-Some-Slot : goal.returns-in-Some-Slot
returns-in-Some-Slot g c = gives_at itself c.slot_found.result _ _ (node.slot_referred g.T.RefKind.kind c.args.var c.args.node.now _ _ c.in-Some-Slot.is (rw c.in-Some-Slot.is at c.in-Some-Slot.field-0-is)) c.slot_found.ensures

pub returns-in-Some-EList : goal.returns-in-Some-EList
returns-in-Some-EList g c = gives_at itself c.create_multiple_refs.result _ _ (node.list_referred g.T.RefKind.kind c.args.var c.args.node.now _ _ c.in-Some-EList.is (rw c.in-Some-EList.is at c.in-Some-EList.field-0-is)) (rw c.as_slice.ensures at c.create_multiple_refs.ensures)

pub returns-in-Some-Literal : goal.returns-in-Some-Literal
returns-in-Some-Literal g c = refuses_with c.literal_found.result _ _ _ _ (node.literal_referred g.T.RefKind.kind c.args.var c.args.node.now _ _ c.in-Some-Literal.is (rw c.in-Some-Literal.is at c.in-Some-Literal.field-0-is)) c.literal_found.ensures

pub returns-in-Some-Name : goal.returns-in-Some-Name
returns-in-Some-Name g c = refuses c.name_found.result _ _ _ (node.name_referred g.T.RefKind.kind c.args.var c.args.node.now _ _ c.in-Some-Name.is (rw c.in-Some-Name.is at c.in-Some-Name.field-0-is)) c.name_found.ensures

pub returns-in-Some-RInits : goal.returns-in-Some-RInits
returns-in-Some-RInits g c = refuses c.record_found.result _ _ _ (node.inits_referred g.T.RefKind.kind c.args.var c.args.node.now _ _ c.in-Some-RInits.is (rw c.in-Some-RInits.is at c.in-Some-RInits.field-0-is)) c.record_found.ensures

pub returns-in-Some-Expr : goal.returns-in-Some-Expr
returns-in-Some-Expr g c = refuses c.record_found-in-Some-Expr.result _ _ _ (node.parens_referred g.T.RefKind.kind c.args.var c.args.node.now _ _ c.in-Some-Expr.is (rw c.in-Some-Expr.is at c.in-Some-Expr.field-0-is)) c.record_found-in-Some-Expr.ensures

pub returns-in-None : goal.returns-in-None
returns-in-None g c = refuses c.empty_node.result _ _ _ (node.nothing_referred g.T.RefKind.kind c.args.var c.args.node.now c.in-None.is) c.empty_node.ensures
