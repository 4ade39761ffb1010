use Rattle.std.proofs.Common.{List, length}
use Rattle.cedar_syntax.specs.trees.Located.{Located}
use Rattle.cedar_conversion.specs.strict.Table.{table_of}
use Rattle.cedar_conversion.specs.machines.Nested.{lent_nodes}
use Rattle.cedar_conversion.specs.machines.Taking.{LeadTo, Waits}
use Rattle.cedar_conversion.proofs.convert.answers_of.Given as goal

abbrev pub invariant-loop-node : goal.invariant-loop-node
invariant-loop-node g l =
    (xs : List Located) × Waits g.B.ExprBuilderInfallibleBuild.meaning (table_of l.styles) l.answers.nested xs
    × LeadTo (lent_nodes l.order) xs (lent_nodes l.fn.nested)

abbrev pub decreases-loop-node : goal.decreases-loop-node
decreases-loop-node g l = length l.order
