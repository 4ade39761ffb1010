use Rattle.std.proofs.Common.{◌≡◌, ◌∙◌, length, map, None, Some, refl}
use Rattle.std.proofs.lemmas.Iterator.Adapters.{YieldsList-from_vec}
use Rattle.std.proofs.lemmas.Iterator.Consumers.{YieldsList-turn}
use Rattle.std.proofs.lemmas.List.{length_push}
use Rattle.cedar_conversion.specs.strict.Table.{table_of}
use Rattle.cedar_conversion.specs.parts.Members.{call, field, index}
use Rattle.cedar_conversion.specs.machines.Applied.{seen_access}
use Rattle.cedar_conversion.proofs.Accesses.{access_given, call_refused, called, indexed, kept}
use Rattle.cedar_conversion.proofs.Outcomes.{gives_at, passed_on}
use Rattle.cedar_conversion.proofs.primaries.members.apply_accesses.Goals as goal

pub loop-access-preserved-in-Call : goal.loop-access-preserved-in-Call
loop-access-preserved-in-Call g c =
    let m = g.B.ExprBuilderInfallibleBuild.meaning in
    let b = c.into_iter-access-iterator.ensures.into_iter_gives in
    let t = YieldsList-turn (YieldsList-from_vec {s = c.into_iter-access-iterator.result} c.args.accesses.items b.0 (b.1 ∙ c.args.accesses.ok.0)) c.loop-access.yielded c.loop-access.access-iterator c.loop-access.yielded_by c.next.result c.next.new.self c.in-Some.access c.in-Some.is c.next.ensures.steps in
    let is_call : seen_access m c.in-Some.access ≡ call (map m c.in-Call.args.items) = rw c.in-Call.is refl in
    rw (length_push c.loop-access.yielded c.in-Some.access) (c.loop-access.invariant
    ∙ access_given (table_of c.args.site.styles.now) c.args.site.loc.now m c.args.accesses.items (length c.loop-access.yielded) c.in-Some.access (m c.loop-access.value) (m c.in_ok-value-in-Call.value) c.loop-access.field None t.0 t.1
    (rw is_call (called (table_of c.args.site.styles.now) c.args.site.loc.now (map m c.in-Call.args.items) (m c.loop-access.value) (m c.in_ok-value-in-Call.value) c.loop-access.field c.in_ok-value-in-Call.ensures)))

pub loop-access-preserved-in-Field : goal.loop-access-preserved-in-Field
loop-access-preserved-in-Field g c =
    let m = g.B.ExprBuilderInfallibleBuild.meaning in
    let b = c.into_iter-access-iterator.ensures.into_iter_gives in
    let t = YieldsList-turn (YieldsList-from_vec {s = c.into_iter-access-iterator.result} c.args.accesses.items b.0 (b.1 ∙ c.args.accesses.ok.0)) c.loop-access.yielded c.loop-access.access-iterator c.loop-access.yielded_by c.next.result c.next.new.self c.in-Some.access c.in-Some.is c.next.ensures.steps in
    let is_field : seen_access m c.in-Some.access ≡ field c.in-Field.id = rw c.in-Field.is refl in
    rw (length_push c.loop-access.yielded c.in-Some.access) (c.loop-access.invariant
    ∙ access_given (table_of c.args.site.styles.now) c.args.site.loc.now m c.args.accesses.items (length c.loop-access.yielded) c.in-Some.access (m c.loop-access.value) (m c.in_ok-value-in-Field.value) c.loop-access.field (Some c.in-Field.id) t.0 t.1
    (rw is_field (kept (table_of c.args.site.styles.now) c.args.site.loc.now c.in-Field.id (m c.loop-access.value) (m c.in_ok-value-in-Field.value) c.loop-access.field c.in_ok-value-in-Field.ensures)))

pub loop-access-preserved : goal.loop-access-preserved
loop-access-preserved g c =
    let m = g.B.ExprBuilderInfallibleBuild.meaning in
    let b = c.into_iter-access-iterator.ensures.into_iter_gives in
    let t = YieldsList-turn (YieldsList-from_vec {s = c.into_iter-access-iterator.result} c.args.accesses.items b.0 (b.1 ∙ c.args.accesses.ok.0)) c.loop-access.yielded c.loop-access.access-iterator c.loop-access.yielded_by c.next.result c.next.new.self c.in-Some.access c.in-Some.is c.next.ensures.steps in
    let is_index : seen_access m c.in-Some.access ≡ index c.in-Index.text = rw c.in-Index.is refl in
    rw (length_push c.loop-access.yielded c.in-Some.access) (c.loop-access.invariant
    ∙ access_given (table_of c.args.site.styles.now) c.args.site.loc.now m c.args.accesses.items (length c.loop-access.yielded) c.in-Some.access (m c.loop-access.value) (m c.in_ok-value-in-Index.value) c.loop-access.field None t.0 t.1
    (rw is_index (indexed (table_of c.args.site.styles.now) c.args.site.loc.now c.in-Index.text (m c.loop-access.value) (m c.in_ok-whole-in-Index.whole) (m c.in_ok-value-in-Index.value) c.loop-access.field c.in_ok-whole-in-Index.ensures c.in_ok-value-in-Index.ensures)))

pub returns-in_err-value-in-Call : goal.returns-in_err-value-in-Call
returns-in_err-value-in-Call g c =
    let m = g.B.ExprBuilderInfallibleBuild.meaning in
    let b = c.into_iter-access-iterator.ensures.into_iter_gives in
    let t = YieldsList-turn (YieldsList-from_vec {s = c.into_iter-access-iterator.result} c.args.accesses.items b.0 (b.1 ∙ c.args.accesses.ok.0)) c.loop-access.yielded c.loop-access.access-iterator c.loop-access.yielded_by c.next.result c.next.new.self c.in-Some.access c.in-Some.is c.next.ensures.steps in
    gives_at _ c.from_residual.result _ _ c.loop-access.invariant
    (passed_on _ c.from_residual.result c.in_err-value-in-Call.field-0.0 _ c.from_residual.ensures.1
    (call_refused (table_of c.args.site.styles.now) c.args.site.loc.now m c.args.accesses.items (length c.loop-access.yielded) c.in-Some.access (map m c.in-Call.args.items) (m c.loop-access.value) c.loop-access.field c.in_err-value-in-Call.field-0.0 t.0 t.1 (rw c.in-Call.is refl) c.in_err-value-in-Call.ensures))
