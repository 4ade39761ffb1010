use Rattle.std.proofs.Common.{ap}
use Rattle.cedar_conversion.specs.strict.Table.{table_of}
use Rattle.cedar_conversion.specs.machines.Applied.{seen_access, seen_accesses}
use Rattle.cedar_conversion.proofs.Accesses.{field_of_name}
use Rattle.cedar_conversion.proofs.primaries.members.of_name.Goals as goal

pub returns-in-Field : goal.returns-in-Field
returns-in-Field g c =
    let m = g.B.ExprBuilderInfallibleBuild.meaning in
    let called = rw c.as_slice.ensures.value at (c.begins_call-is_called.ensures m) in
    field_of_name (table_of c.args.site.styles.now) c.args.site.loc.now c.args.name (seen_access m c.args.first) c.in-Field.id (seen_accesses m c.args.rest) c.begins_call-is_called.result c.field_of_name.result (ap (seen_access m) c.in-Field.is) called c.field_of_name.ensures
