use Rattle.std.proofs.Common.{◌++◌, ap, sym, ◌∙◌}
use Rattle.cedar_syntax.specs.declared.cst.Relation as R
use Rattle.cedar_syntax.specs.trees.Inside.{add_inside, all_inside, node_inside, operand_inside, option_inside}
use Rattle.cedar_syntax.proofs.Copying.{three_held, two_held}
use Rattle.cedar_syntax.proofs.InsideForms.{relation_common, relation_has, relation_is, relation_like}
use Rattle.cedar_syntax.proofs.copy.expressions.RelationHolds.copy.Goals as goal

pub returns-in_ok-initial-in-Common-2 : goal.returns-in_ok-initial-in-Common-2
returns-in_ok-initial-in-Common-2 c rest e =
    let one = c.in_ok-initial-in-Common in
    let two = c.in_ok-initial-in-Common-2 in
    let t = two_held (node_inside add_inside c.in-Common.initial) (all_inside (operand_inside add_inside) c.in-Common.extended) rest c.args.copies.now c.copy.new.copies c.copy-in-Common.new.copies c.copy-in-Common.result one.initial two.initial two.extended c.in-Common.extended one.ensures two.ensures c.copy-in-Common.ensures (e ∙ ap (λ l. l ++ rest) (relation_common _ _ _ c.in-Common.is)) in
    ((λ i. R.Common ((t.1 ∙ t.0) i) (t.2 i)) ∙ sym c.in-Common.is, t.3)

pub returns-in_ok-target-in-Has-2 : goal.returns-in_ok-target-in-Has-2
returns-in_ok-target-in-Has-2 c rest e =
    let one = c.in_ok-target-in-Has in
    let two = c.in_ok-target-in-Has-2 in
    let t = two_held (node_inside add_inside c.in-Has.target) (node_inside add_inside c.in-Has.field) rest c.args.copies.now c.copy-in-Has.new.copies c.copy-in-Has-2.new.copies c.copy-in-Has-2.result one.target two.target two.field c.in-Has.field one.ensures two.ensures c.copy-in-Has-2.ensures (e ∙ ap (λ l. l ++ rest) (relation_has _ _ _ c.in-Has.is)) in
    ((λ i. R.Has ((t.1 ∙ t.0) i) (t.2 i)) ∙ sym c.in-Has.is, t.3)

pub returns-in_ok-target-in-Like-2 : goal.returns-in_ok-target-in-Like-2
returns-in_ok-target-in-Like-2 c rest e =
    let one = c.in_ok-target-in-Like in
    let two = c.in_ok-target-in-Like-2 in
    let t = two_held (node_inside add_inside c.in-Like.target) (node_inside add_inside c.in-Like.pattern) rest c.args.copies.now c.copy-in-Like.new.copies c.copy-in-Like-2.new.copies c.copy-in-Like-2.result one.target two.target two.pattern c.in-Like.pattern one.ensures two.ensures c.copy-in-Like-2.ensures (e ∙ ap (λ l. l ++ rest) (relation_like _ _ _ c.in-Like.is)) in
    ((λ i. R.Like ((t.1 ∙ t.0) i) (t.2 i)) ∙ sym c.in-Like.is, t.3)

pub returns-in_ok-target-in-IsIn-2 : goal.returns-in_ok-target-in-IsIn-2
returns-in_ok-target-in-IsIn-2 c rest e =
    let one = c.in_ok-target-in-IsIn in
    let two = c.in_ok-parts-in-IsIn in
    let three = c.in_ok-target-in-IsIn-2 in
    let t = three_held (node_inside add_inside c.in-IsIn.target) (node_inside add_inside c.in-IsIn.entity_type) (option_inside (node_inside add_inside) c.in-IsIn.in_entity) rest c.args.copies.now c.copy-in-IsIn.new.copies c.copy-in-IsIn-2.new.copies c.copy-in-IsIn-3.new.copies
    c.copy-in-IsIn-2.result one.target two.parts.0 two.parts.1 c.in-IsIn.entity_type c.copy-in-IsIn-3.result (three.target, three.entity_type) three.in_entity c.in-IsIn.in_entity
    one.ensures two.ensures c.copy-in-IsIn-2.ensures three.ensures c.copy-in-IsIn-3.ensures (e ∙ ap (λ l. l ++ rest) (relation_is _ _ _ _ c.in-IsIn.is)) in
    ((λ i. R.IsIn ((ap (λ p. p.0) t.3 ∙ t.1 ∙ t.0) i) ((ap (λ p. p.1) t.3 ∙ t.2) i) (t.4 i)) ∙ sym c.in-IsIn.is, t.5)
