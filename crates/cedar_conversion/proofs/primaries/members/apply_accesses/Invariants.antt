use Rattle.std.proofs.Common.{◌≡◌, length}
use Rattle.cedar_conversion.specs.parts.Members.{accesses_of}
use Rattle.cedar_conversion.specs.strict.Table.{table_of}
use Rattle.cedar_conversion.specs.machines.Applied.{seen_accesses}
use Rattle.cedar_conversion.proofs.Accesses.{left_to}
use Rattle.cedar_conversion.proofs.primaries.members.apply_accesses.Given as goal

abbrev pub invariant-loop-access : goal.invariant-loop-access
invariant-loop-access g l =
    accesses_of (table_of l.site.styles.now) l.site.loc.now (g.B.ExprBuilderInfallibleBuild.meaning l.fn.value) (seen_accesses g.B.ExprBuilderInfallibleBuild.meaning l.fn.accesses)
    ≡ left_to (table_of l.site.styles.now) l.site.loc.now g.B.ExprBuilderInfallibleBuild.meaning l.fn.accesses.items (length l.yielded) (g.B.ExprBuilderInfallibleBuild.meaning l.value) l.field
