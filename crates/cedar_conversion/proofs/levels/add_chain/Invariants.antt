use Rattle.std.proofs.Common.{◌++◌, map, take}
use Rattle.std.specs.List.{flat_map}
use Rattle.cedar_syntax.specs.trees.Forms.{located, parts_of, mult_form, add_operand}
use Rattle.cedar_syntax.specs.trees.Tree.{add}
use Rattle.cedar_syntax.specs.declared.cst.Add.{out-Add}
use Rattle.cedar_conversion.specs.outcome.Conversion.{outcome, operands}
use Rattle.cedar_conversion.specs.machines.Views.{rest_view, plain}
use Rattle.cedar_conversion.specs.outcome.Seen.{Gives}
use Rattle.cedar_conversion.specs.strict.Table.{table_of}
use Rattle.cedar_conversion.specs.machines.Nested.{nested}
use Rattle.cedar_conversion.specs.machines.Taking.{Taking}
use Rattle.cedar_conversion.proofs.levels.add_chain.Given as goal

abbrev pub invariant-loop-op : goal.invariant-loop-op
invariant-loop-op g l =
    Taking (g.N.Nests.waits (table_of l.site.styles.now)) l.fn.answers.nested
    (nested (located mult_form (out-Add l.fn.add).initial) ++ flat_map (λ p. nested (located mult_form p.1)) (take l.op-index l.op-items)) l.answers.nested
    (Gives (plain g.B.ExprBuilderInfallibleBuild.meaning) l.first (outcome (table_of l.site.styles.now) (located mult_form (out-Add l.fn.add).initial))
    × Gives (rest_view add g.B.ExprBuilderInfallibleBuild.meaning) l.rest (operands (table_of l.site.styles.now) l.site.loc.now (parts_of (map add_operand (take l.op-index l.op-items)))))
