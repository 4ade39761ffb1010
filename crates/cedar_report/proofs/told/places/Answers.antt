use Rattle.std.proofs.Common.{sym, ◌∙◌}
use Rattle.cedar_report.proofs.Placing.{some_bytes, some_cause, none_bytes, none_cause, none_related}
use Rattle.cedar_report.proofs.told.places.Goals as goal

pub returns-in-Some-clause-bytes : goal.returns-in-Some-clause-bytes
returns-in-Some-clause-bytes c =
    some_bytes c.placed.result c.args.sources.now.lines.text.now _ c.in-Some.span _ _ (sym c.primary_source_span.ensures ∙ c.in-Some.is)
    (c.of-sight.ensures.start ∙ c.offset.ensures) (c.of-sight.ensures.end ∙ c.end.ensures) c.placed.ensures.bytes

pub returns-in-Some-clause-cause : goal.returns-in-Some-clause-cause
returns-in-Some-clause-cause c =
    some_cause c.placed.result c.args.sources.now.lines.text.now _ c.in-Some.span (sym c.primary_source_span.ensures ∙ c.in-Some.is) c.placed.ensures.cause

pub returns-in-None-clause-bytes : goal.returns-in-None-clause-bytes
returns-in-None-clause-bytes c =
    none_bytes c.unplaced.result c.args.sources.now.lines.text.now _ (sym c.primary_source_span.ensures ∙ c.in-None.is) c.unplaced.ensures

pub returns-in-None-clause-cause : goal.returns-in-None-clause-cause
returns-in-None-clause-cause c =
    none_cause c.unplaced.result c.args.sources.now.lines.text.now _ (sym c.primary_source_span.ensures ∙ c.in-None.is) c.unplaced.ensures

pub returns-in-None-clause-related : goal.returns-in-None-clause-related
returns-in-None-clause-related c = none_related c.unplaced.result c.args.sources.now.lines.text.now c.unplaced.ensures
