use Rattle.std.proofs.Common.{refl, []}
use Rattle.cedar_conversion.specs.parts.Members.{field, index}
use Rattle.cedar_conversion.specs.strict.Table.{table_of}
use Rattle.cedar_conversion.proofs.Accesses.{as_value}
use Rattle.cedar_conversion.proofs.Outcomes.{gives_left}
use Rattle.cedar_conversion.proofs.primaries.members.lone_accessed_in.Goals as goal

pub returns-in-Field : goal.returns-in-Field
returns-in-Field g c x h = rw c.in-Field.is (gives_left _ _ _ _ _ c.put.ensures (as_value (table_of c.args.site.styles.now) c.args.site.loc.now g.B.ExprBuilderInfallibleBuild.meaning _ x (field c.in-Field.id) [] (cc) refl h) (rw c.into_text.ensures at (c.attribute.ensures x h)))

pub returns-in-Index : goal.returns-in-Index
returns-in-Index g c x h = rw c.in-Index.is (gives_left _ _ _ _ _ c.put-in-Index.ensures (as_value (table_of c.args.site.styles.now) c.args.site.loc.now g.B.ExprBuilderInfallibleBuild.meaning _ x (index c.in-Index.text) [] (cc) refl h) (c.attribute-in-Index.ensures x h))

pub returns-in-Call : goal.returns-in-Call
returns-in-Call g c x h = rw c.in-Call.is (c.listed_in-in-Call.ensures x h)
