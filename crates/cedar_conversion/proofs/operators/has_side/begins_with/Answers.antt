use Rattle.std.proofs.Common.{map}
use Rattle.cedar_syntax.specs.trees.Forms.{listed_access, parts_of}
use Rattle.cedar_conversion.specs.machines.Applied.{seen_attributes}
use Rattle.cedar_conversion.proofs.Outcomes.{gives_at, refuses}
use Rattle.cedar_conversion.proofs.RightSides.{literal_begins, name_begins, ref_begins, slot_begins, parens_begin, list_begins, inits_begin, no_primary}
use Rattle.cedar_conversion.proofs.operators.has_side.begins_with.Goals as goal

pub returns-in-Some-Literal : goal.returns-in-Some-Literal
returns-in-Some-Literal g c = gives_at seen_attributes c.attributes_from.result _ _ (literal_begins c.args.side.loc.now (parts_of (map listed_access c.args.accesses.now)) c.args.node.now _ _ c.in-Some-Literal.is (rw c.in-Some-Literal.is at c.in-Some-Literal.field-0-is)) (c.attributes_from.ensures _ c.literal.ensures)

pub returns-in-Some-Name : goal.returns-in-Some-Name
returns-in-Some-Name g c = gives_at seen_attributes c.attributes_from-in-Some-Name.result _ _ (name_begins c.args.side.loc.now (parts_of (map listed_access c.args.accesses.now)) c.args.node.now _ _ c.in-Some-Name.is (rw c.in-Some-Name.is at c.in-Some-Name.field-0-is)) (c.attributes_from-in-Some-Name.ensures _ c.variable_or_name.ensures)

pub returns-in-Some-Ref : goal.returns-in-Some-Ref
returns-in-Some-Ref g c = refuses c.invalid_has_rhs.result _ _ _ (ref_begins c.args.side.loc.now (parts_of (map listed_access c.args.accesses.now)) c.args.node.now _ _ c.in-Some-Ref.is (rw c.in-Some-Ref.is at c.in-Some-Ref.field-0-is)) c.invalid_has_rhs.ensures

pub returns-in-Some-Slot : goal.returns-in-Some-Slot
returns-in-Some-Slot g c = refuses c.invalid_has_rhs-in-Some-Slot.result _ _ _ (slot_begins c.args.side.loc.now (parts_of (map listed_access c.args.accesses.now)) c.args.node.now _ _ c.in-Some-Slot.is (rw c.in-Some-Slot.is at c.in-Some-Slot.field-0-is)) c.invalid_has_rhs-in-Some-Slot.ensures

pub returns-in-Some-Expr : goal.returns-in-Some-Expr
returns-in-Some-Expr g c = refuses c.invalid_has_rhs-in-Some-Expr.result _ _ _ (parens_begin c.args.side.loc.now (parts_of (map listed_access c.args.accesses.now)) c.args.node.now _ _ c.in-Some-Expr.is (rw c.in-Some-Expr.is at c.in-Some-Expr.field-0-is)) c.invalid_has_rhs-in-Some-Expr.ensures

pub returns-in-Some-EList : goal.returns-in-Some-EList
returns-in-Some-EList g c = refuses c.invalid_has_rhs-in-Some-EList.result _ _ _ (list_begins c.args.side.loc.now (parts_of (map listed_access c.args.accesses.now)) c.args.node.now _ _ c.in-Some-EList.is (rw c.in-Some-EList.is at c.in-Some-EList.field-0-is)) c.invalid_has_rhs-in-Some-EList.ensures

pub returns-in-Some-RInits : goal.returns-in-Some-RInits
returns-in-Some-RInits g c = refuses c.invalid_has_rhs-in-Some-RInits.result _ _ _ (inits_begin c.args.side.loc.now (parts_of (map listed_access c.args.accesses.now)) c.args.node.now _ _ c.in-Some-RInits.is (rw c.in-Some-RInits.is at c.in-Some-RInits.field-0-is)) c.invalid_has_rhs-in-Some-RInits.ensures

pub returns-in-None : goal.returns-in-None
returns-in-None g c = refuses c.empty_node.result _ _ _ (no_primary c.args.side.loc.now (parts_of (map listed_access c.args.accesses.now)) c.args.node.now c.in-None.is) c.empty_node.ensures
