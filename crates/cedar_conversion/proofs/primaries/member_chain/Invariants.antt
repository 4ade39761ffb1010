use Rattle.std.proofs.Common.{◌++◌, map, take}
use Rattle.std.specs.List.{flat_map}
use Rattle.cedar_syntax.specs.trees.Forms.{located, parts_of, primary_form, access_form, listed_access}
use Rattle.cedar_conversion.specs.outcome.Conversion.{outcome, accesses_outcome}
use Rattle.cedar_conversion.specs.machines.Applied.{seen_accesses}
use Rattle.cedar_conversion.specs.machines.Views.{plain}
use Rattle.cedar_conversion.specs.outcome.Seen.{Gives}
use Rattle.cedar_conversion.specs.strict.Table.{table_of}
use Rattle.cedar_conversion.specs.machines.Nested.{nested}
use Rattle.cedar_conversion.specs.machines.Taking.{Taking}
use Rattle.cedar_conversion.proofs.primaries.member_chain.Given as goal

abbrev pub invariant-loop-part : goal.invariant-loop-part
invariant-loop-part g l =
    Taking (g.N.Nests.waits (table_of l.site.styles.now)) l.fn.answers.nested
    (nested (located primary_form l.fn.member.item) ++ flat_map (λ n. nested (located access_form n)) (take l.part-index l.part-items)) l.answers.nested
    (Gives (plain g.B.ExprBuilderInfallibleBuild.meaning) l.item (outcome (table_of l.site.styles.now) (located primary_form l.fn.member.item))
    × Gives (seen_accesses g.B.ExprBuilderInfallibleBuild.meaning) l.all (accesses_outcome (table_of l.site.styles.now) (parts_of (map listed_access (take l.part-index l.part-items)))))
