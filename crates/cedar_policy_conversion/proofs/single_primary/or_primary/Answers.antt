use Rattle.cedar_syntax.specs.trees.Forms.{or_form, and_form, relation_form, add_form, mult_form, unary_form, member_form}
use Rattle.cedar_policy_conversion.proofs.LonePrimaries as lone
use Rattle.cedar_policy_conversion.proofs.single_primary.or_primary.Goals as goal

pub returns-in_err-and : goal.returns-in_err-and
returns-in_err-and c = lone.comes_to_none or_form lone.or_level c.args.node.now _ c.in_err-and.field-0.0 c.from_residual.ensures.1 c.in_err-and.ensures

pub returns-in_err-relation : goal.returns-in_err-relation
returns-in_err-relation c =
    lone.comes_by or_form and_form c.args.node.now c.in_ok-and.and.now c.from_residual-in_err-relation.result c.in_ok-and.ensures
    (lone.comes_to_none and_form lone.and_level c.in_ok-and.and.now _ c.in_err-relation.field-0.0 c.from_residual-in_err-relation.ensures.1 c.in_err-relation.ensures)

pub returns-in_err-add : goal.returns-in_err-add
returns-in_err-add c =
    lone.comes_by or_form and_form c.args.node.now c.in_ok-and.and.now c.from_residual-in_err-add.result c.in_ok-and.ensures
    (lone.comes_by and_form relation_form c.in_ok-and.and.now c.in_ok-relation.relation.now c.from_residual-in_err-add.result c.in_ok-relation.ensures
    (lone.comes_to_none relation_form lone.relation_level c.in_ok-relation.relation.now _ c.in_err-add.field-0.0 c.from_residual-in_err-add.ensures.1 c.in_err-add.ensures))

pub returns-in_err-mult : goal.returns-in_err-mult
returns-in_err-mult c =
    lone.comes_by or_form and_form c.args.node.now c.in_ok-and.and.now c.from_residual-in_err-mult.result c.in_ok-and.ensures
    (lone.comes_by and_form relation_form c.in_ok-and.and.now c.in_ok-relation.relation.now c.from_residual-in_err-mult.result c.in_ok-relation.ensures
    (lone.comes_by relation_form add_form c.in_ok-relation.relation.now c.in_ok-add.add.now c.from_residual-in_err-mult.result c.in_ok-add.ensures
    (lone.comes_to_none add_form lone.add_level c.in_ok-add.add.now _ c.in_err-mult.field-0.0 c.from_residual-in_err-mult.ensures.1 c.in_err-mult.ensures)))

pub returns-in_err-unary : goal.returns-in_err-unary
returns-in_err-unary c =
    lone.comes_by or_form and_form c.args.node.now c.in_ok-and.and.now c.from_residual-in_err-unary.result c.in_ok-and.ensures
    (lone.comes_by and_form relation_form c.in_ok-and.and.now c.in_ok-relation.relation.now c.from_residual-in_err-unary.result c.in_ok-relation.ensures
    (lone.comes_by relation_form add_form c.in_ok-relation.relation.now c.in_ok-add.add.now c.from_residual-in_err-unary.result c.in_ok-add.ensures
    (lone.comes_by add_form mult_form c.in_ok-add.add.now c.in_ok-mult.mult.now c.from_residual-in_err-unary.result c.in_ok-mult.ensures
    (lone.comes_to_none mult_form lone.mult_level c.in_ok-mult.mult.now _ c.in_err-unary.field-0.0 c.from_residual-in_err-unary.ensures.1 c.in_err-unary.ensures))))

pub returns-in_err-member : goal.returns-in_err-member
returns-in_err-member c =
    lone.comes_by or_form and_form c.args.node.now c.in_ok-and.and.now c.from_residual-in_err-member.result c.in_ok-and.ensures
    (lone.comes_by and_form relation_form c.in_ok-and.and.now c.in_ok-relation.relation.now c.from_residual-in_err-member.result c.in_ok-relation.ensures
    (lone.comes_by relation_form add_form c.in_ok-relation.relation.now c.in_ok-add.add.now c.from_residual-in_err-member.result c.in_ok-add.ensures
    (lone.comes_by add_form mult_form c.in_ok-add.add.now c.in_ok-mult.mult.now c.from_residual-in_err-member.result c.in_ok-mult.ensures
    (lone.comes_by mult_form unary_form c.in_ok-mult.mult.now c.in_ok-unary.unary.now c.from_residual-in_err-member.result c.in_ok-unary.ensures
    (lone.comes_to_none unary_form lone.unary_level c.in_ok-unary.unary.now _ c.in_err-member.field-0.0 c.from_residual-in_err-member.ensures.1 c.in_err-member.ensures)))))

pub returns : goal.returns
returns c =
    lone.comes_by or_form and_form c.args.node.now c.in_ok-and.and.now c.child_of-7.result c.in_ok-and.ensures
    (lone.comes_by and_form relation_form c.in_ok-and.and.now c.in_ok-relation.relation.now c.child_of-7.result c.in_ok-relation.ensures
    (lone.comes_by relation_form add_form c.in_ok-relation.relation.now c.in_ok-add.add.now c.child_of-7.result c.in_ok-add.ensures
    (lone.comes_by add_form mult_form c.in_ok-add.add.now c.in_ok-mult.mult.now c.child_of-7.result c.in_ok-mult.ensures
    (lone.comes_by mult_form unary_form c.in_ok-mult.mult.now c.in_ok-unary.unary.now c.child_of-7.result c.in_ok-unary.ensures
    (lone.comes_by unary_form member_form c.in_ok-unary.unary.now c.in_ok-member.member.now c.child_of-7.result c.in_ok-member.ensures
    (lone.comes_at_last member_form lone.member_level c.in_ok-member.member.now c.child_of-7.result c.child_of-7.ensures))))))
