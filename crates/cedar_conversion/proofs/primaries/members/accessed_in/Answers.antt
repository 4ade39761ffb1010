use Rattle.std.proofs.Common.{◌<◌, ◌≤◌, length, map, ◌∷◌, ap, arith}
use Rattle.std.proofs.lemmas.Grind.{common_steps}
use Rattle.cedar_conversion.specs.parts.Members.{member_outcome, some_accesses}
use Rattle.cedar_conversion.specs.outcome.Outcome.{next}
use Rattle.cedar_conversion.specs.strict.Table.{table_of}
use Rattle.cedar_conversion.specs.machines.Applied.{seen_access}
use Rattle.cedar_conversion.proofs.Accesses.{not_value, nothing_in, some_first, without_accesses}
use Rattle.cedar_conversion.proofs.Outcomes.{given_in, gives_at}
use Rattle.cedar_conversion.proofs.primaries.members.accessed_in.Goals as goal

pub returns-then-is_empty : goal.returns-then-is_empty
returns-then-is_empty g c x h =
    let few : length c.args.accesses.items ≤ 0 = grind (arith, common_steps) in
    rw (c.put.ensures, nothing_in c.args.accesses.items few) (gives_at _ _ _ _ (without_accesses x) (given_in _ _ _ _ c.take.ensures h))

pub returns-then-is_value : goal.returns-then-is_value
returns-then-is_value g c x h =
    let some : 0 < length c.args.accesses.items = grind (arith, common_steps) in
    let parts = some_first c.args.accesses.items some in
    gives_at _ _ _ _ (ap (λ xs. next x (λ k. member_outcome (table_of c.args.site.styles.now) c.args.site.loc.now k (map (seen_access g.B.ExprBuilderInfallibleBuild.meaning) xs))) parts.2)
    (c.valued_in.ensures x (seen_access g.B.ExprBuilderInfallibleBuild.meaning parts.0) (map (seen_access g.B.ExprBuilderInfallibleBuild.meaning) parts.1) h (ap (map (seen_access g.B.ExprBuilderInfallibleBuild.meaning)) parts.2))

pub returns-else-is_value : goal.returns-else-is_value
returns-else-is_value g c x h =
    let some : 0 < length c.args.accesses.items = grind (arith, common_steps) in
    let parts = some_first c.args.accesses.items some in
    gives_at _ _ _ _ (ap (λ xs. next x (λ k. member_outcome (table_of c.args.site.styles.now) c.args.site.loc.now k (map (seen_access g.B.ExprBuilderInfallibleBuild.meaning) xs))) parts.2)
    (not_value g.B.ExprBuilderInfallibleBuild.meaning _ x (λ k. some_accesses (table_of c.args.site.styles.now) c.args.site.loc.now k (seen_access g.B.ExprBuilderInfallibleBuild.meaning parts.0 ∷ map (seen_access g.B.ExprBuilderInfallibleBuild.meaning) parts.1)) _ (cc) h
    (λ own name k. c.named_in.ensures.name own name (seen_access g.B.ExprBuilderInfallibleBuild.meaning parts.0) (map (seen_access g.B.ExprBuilderInfallibleBuild.meaning) parts.1) k (ap (map (seen_access g.B.ExprBuilderInfallibleBuild.meaning)) parts.2)) (λ failure k. c.named_in.ensures.failure failure k))
