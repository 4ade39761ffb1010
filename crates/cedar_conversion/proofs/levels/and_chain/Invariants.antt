use Rattle.std.proofs.Common.{◌++◌, map, take}
use Rattle.std.specs.List.{flat_map}
use Rattle.cedar_syntax.specs.trees.Forms.{located, parts_of, relation_form, and_operand}
use Rattle.cedar_syntax.specs.trees.Tree.{and_and}
use Rattle.cedar_conversion.specs.outcome.Conversion.{outcome, operands}
use Rattle.cedar_conversion.specs.machines.Views.{alike_view, plain}
use Rattle.cedar_conversion.specs.outcome.Seen.{Gives}
use Rattle.cedar_conversion.specs.strict.Table.{table_of}
use Rattle.cedar_conversion.specs.machines.Nested.{nested}
use Rattle.cedar_conversion.specs.machines.Taking.{Taking}
use Rattle.cedar_conversion.proofs.levels.and_chain.Given as goal

abbrev pub invariant-loop-part : goal.invariant-loop-part
invariant-loop-part g l =
    Taking (g.N.Nests.waits (table_of l.site.styles.now)) l.fn.answers.nested
    (nested (located relation_form l.fn.and.initial) ++ flat_map (λ n. nested (located relation_form n)) (take l.part-index l.part-items)) l.answers.nested
    (Gives (plain g.B.ExprBuilderInfallibleBuild.meaning) l.first (outcome (table_of l.site.styles.now) (located relation_form l.fn.and.initial))
    × Gives (alike_view and_and g.B.ExprBuilderInfallibleBuild.meaning) l.rest (operands (table_of l.site.styles.now) l.site.loc.now (parts_of (map and_operand (take l.part-index l.part-items)))))
