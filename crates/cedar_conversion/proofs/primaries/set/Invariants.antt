use Rattle.std.proofs.Common.{map, take}
use Rattle.cedar_syntax.specs.trees.Forms.{located, parts_of, expr_form, listed_expr}
use Rattle.cedar_syntax.specs.trees.Tree.{beside}
use Rattle.cedar_conversion.specs.outcome.Conversion.{operands}
use Rattle.cedar_conversion.specs.machines.Views.{alike_view}
use Rattle.cedar_conversion.specs.outcome.Seen.{Gives}
use Rattle.cedar_conversion.specs.strict.Table.{table_of}
use Rattle.cedar_conversion.specs.machines.Taking.{Taking}
use Rattle.cedar_conversion.proofs.primaries.set.Given as goal

abbrev pub invariant-loop-part : goal.invariant-loop-part
invariant-loop-part g l =
    Taking (g.N.Nests.waits (table_of l.styles)) l.fn.answers.nested (map (located expr_form) (take l.part-index l.part-items)) l.answers.nested
    (Gives (alike_view beside g.B.ExprBuilderInfallibleBuild.meaning) l.all (operands (table_of l.styles) l.node.loc (parts_of (map listed_expr (take l.part-index l.part-items)))))
