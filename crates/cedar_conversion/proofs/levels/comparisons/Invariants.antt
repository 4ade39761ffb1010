use Rattle.std.proofs.Common.{◌++◌, map, take}
use Rattle.std.specs.List.{flat_map}
use Rattle.cedar_syntax.specs.trees.Forms.{located, parts_of, relation_form, add_form, relation_operand}
use Rattle.cedar_syntax.specs.trees.Tree.{compare}
use Rattle.cedar_conversion.specs.outcome.Conversion.{outcome, operands}
use Rattle.cedar_conversion.specs.machines.Views.{rest_view, plain}
use Rattle.cedar_conversion.proofs.Nested.{first_in}
use Rattle.cedar_conversion.specs.outcome.Seen.{Gives}
use Rattle.cedar_conversion.specs.strict.Table.{table_of}
use Rattle.cedar_conversion.specs.machines.Nested.{nested}
use Rattle.cedar_conversion.specs.machines.Taking.{Taking}
use Rattle.cedar_conversion.proofs.levels.comparisons.Given as goal

abbrev pub invariant-loop-op : goal.invariant-loop-op
invariant-loop-op g l =
    Taking (g.N.Nests.waits (table_of l.site.styles.now)) l.fn.answers.nested
    (nested (first_in (relation_form l.fn.relation)) ++ flat_map (λ p. nested (located add_form p.1)) (take l.op-index l.op-items)) l.answers.nested
    (Gives (plain g.B.ExprBuilderInfallibleBuild.meaning) l.first (outcome (table_of l.site.styles.now) (first_in (relation_form l.fn.relation)))
    × Gives (rest_view compare g.B.ExprBuilderInfallibleBuild.meaning) l.rest (operands (table_of l.site.styles.now) l.site.loc.now (parts_of (map relation_operand (take l.op-index l.op-items)))))
