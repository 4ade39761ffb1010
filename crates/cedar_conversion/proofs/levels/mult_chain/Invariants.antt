use Rattle.std.proofs.Common.{◌++◌, map, take}
use Rattle.std.specs.List.{flat_map}
use Rattle.cedar_syntax.specs.trees.Forms.{located, parts_of, unary_form, mult_operand}
use Rattle.cedar_syntax.specs.trees.Tree.{multiply}
use Rattle.cedar_syntax.specs.declared.cst.Mult.{out-Mult}
use Rattle.cedar_conversion.specs.outcome.Conversion.{outcome, operands}
use Rattle.cedar_conversion.specs.machines.Views.{rest_view, plain}
use Rattle.cedar_conversion.specs.outcome.Seen.{Gives}
use Rattle.cedar_conversion.specs.strict.Table.{table_of}
use Rattle.cedar_conversion.specs.machines.Nested.{nested}
use Rattle.cedar_conversion.specs.machines.Taking.{Taking}
use Rattle.cedar_conversion.proofs.levels.mult_chain.Given as goal

abbrev pub invariant-loop-op : goal.invariant-loop-op
invariant-loop-op g l =
    Taking (g.N.Nests.waits (table_of l.site.styles.now)) l.fn.answers.nested
    (nested (located unary_form (out-Mult l.fn.mult).initial) ++ flat_map (λ p. nested (located unary_form p.1)) (take l.op-index l.op-items)) l.answers.nested
    (Gives (plain g.B.ExprBuilderInfallibleBuild.meaning) l.first (outcome (table_of l.site.styles.now) (located unary_form (out-Mult l.fn.mult).initial))
    × Gives (rest_view multiply g.B.ExprBuilderInfallibleBuild.meaning) l.rest (operands (table_of l.site.styles.now) l.site.loc.now (parts_of (map mult_operand (take l.op-index l.op-items)))))
