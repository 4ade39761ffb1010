use Rattle.cedar_syntax.specs.declared.cst.Unary.{out-Unary}
use Rattle.cedar_conversion.specs.strict.Table.{table_of}
use Rattle.cedar_conversion.specs.outcome.Conversion.{outcome}
use Rattle.cedar_syntax.specs.trees.Forms.{located, member_form}
use Rattle.cedar_conversion.proofs.Outcomes.{given_in, gives_left}
use Rattle.cedar_conversion.proofs.Taken.{untaken, made}
use Rattle.cedar_conversion.proofs.Nodes as node
use Rattle.cedar_conversion.proofs.Nested as inner
use Rattle.cedar_conversion.proofs.levels.signs.Goals as goal

pub returns-in-Some : goal.returns-in-Some
returns-in-Some g c =
    made (inner.unasked c.args.unary.now (rw c.bare_number-bare.ensures at c.in-Some.ensures.unasked)) (untaken {X = Unit {0}} tt)
    (λ p. gives_left _ _ _ _ _ c.put.ensures (node.unary_node (table_of c.args.site.styles.now) c.args.site.loc.now c.args.unary.now)
    (rw c.bare_number-bare.ensures at (c.in-Some.ensures.given (outcome (table_of c.args.site.styles.now) (located member_form (out-Unary c.args.unary.now).item)))))

pub returns-in-None : goal.returns-in-None
returns-in-None g c =
    made (inner.counted c.args.unary.now c.in-None.ensures.given) c.member.ensures
    (λ p. gives_left _ _ _ _ _ c.put-in-None.ensures (node.unary_node (table_of c.args.site.styles.now) c.args.site.loc.now c.args.unary.now) (rw c.bare_number-bare.ensures at (c.signed_from.ensures _ (given_in _ _ _ _ c.take-item.ensures p))))
