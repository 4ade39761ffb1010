use Rattle.std.proofs.Common.{map, take}
use Rattle.std.specs.List.{flat_map}
use Rattle.cedar_syntax.specs.trees.Forms.{located, parts_of, init_form, listed_init}
use Rattle.cedar_conversion.specs.outcome.Conversion.{pairs_outcome}
use Rattle.cedar_conversion.specs.machines.Applied.{seen_pairs}
use Rattle.cedar_conversion.specs.outcome.Seen.{Gives}
use Rattle.cedar_conversion.specs.strict.Table.{table_of}
use Rattle.cedar_conversion.specs.machines.Nested.{nested}
use Rattle.cedar_conversion.specs.machines.Taking.{Taking}
use Rattle.cedar_conversion.proofs.primaries.record.Given as goal

abbrev pub invariant-loop-part : goal.invariant-loop-part
invariant-loop-part g l =
    Taking (g.N.Nests.waits (table_of l.styles)) l.fn.answers.nested (flat_map (λ n. nested (located init_form n)) (take l.part-index l.part-items)) l.answers.nested
    (Gives (seen_pairs g.B.ExprBuilderInfallibleBuild.meaning) l.all (pairs_outcome (table_of l.styles) (parts_of (map listed_init (take l.part-index l.part-items)))))
