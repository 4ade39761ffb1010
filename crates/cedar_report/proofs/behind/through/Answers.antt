use Rattle.std.proofs.Common.{sym, ◌∙◌, arith}
use Rattle.std.proofs.lemmas.Str.{IsCharBoundary-past_char, IsUtf8-drop}
use Rattle.cedar_report.proofs.behind.through.Goals as goal

pub range-requires-clause-end_boundary : goal.range-requires-clause-end_boundary
range-requires-clause-end_boundary c =
    rw c.len_utf8.ensures.value (IsCharBoundary-past_char c.args.text.now _ c.args.place c.in-Some.c (omega arith) (IsUtf8-drop c.args.text.now c.args.place c.utf8.text c.requires.boundary)
    (sym c.range_from.ensures.value ∙ sym c.chars.ensures.rest ∙ c.in-Some.ensures.steps.0))
