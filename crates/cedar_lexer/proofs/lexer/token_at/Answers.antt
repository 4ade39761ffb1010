-- The scan decides which token stands here.
use Rattle.std.proofs.Common.{ap, sym, ◌∙◌, arith}
use Rattle.cedar_lexer.specs.Scan.{spelling}
use Rattle.cedar_lexer.proofs.Cuts.{none_starts}
use Rattle.cedar_lexer.proofs.Steps.{token_bounds, token_text}
use Rattle.cedar_lexer.proofs.lexer.token_at.Goals as goal

pub returns-in_default-clause-none : goal.returns-in_default-clause-none
returns-in_default-clause-none c =
    none_starts _ (sym (c.spelling.ensures ∙ ap spelling (c.as_bytes.ensures.value ∙ c.range_from.ensures.value)) ∙ c.in_default.is)

pub overflow_add-end : goal.overflow_add-end
overflow_add-end c =
    let b = token_bounds c.args.text.now c.args.start c.in-Some.kind c.in-Some.len c.utf8.text c.requires
    (sym (c.spelling.ensures ∙ ap spelling (c.as_bytes.ensures.value ∙ c.range_from.ensures.value)) ∙ c.in-Some.is) in
    omega (arith, b.boundary.0)

pub range-requires-clause-end_boundary : goal.range-requires-clause-end_boundary
range-requires-clause-end_boundary c =
    (token_bounds c.args.text.now c.args.start c.in-Some.kind c.in-Some.len c.utf8.text c.requires
    (sym (c.spelling.ensures ∙ ap spelling (c.as_bytes.ensures.value ∙ c.range_from.ensures.value)) ∙ c.in-Some.is)).boundary

pub returns-clause-token : goal.returns-clause-token
returns-clause-token c =
    token_text c.args.text.now c.args.start c.in-Some.kind c.in-Some.len c.range.result.now c.utf8.text c.requires
    (sym (c.spelling.ensures ∙ ap spelling (c.as_bytes.ensures.value ∙ c.range_from.ensures.value)) ∙ c.in-Some.is) c.range.ensures.value

pub returns-clause-bounds : goal.returns-clause-bounds
returns-clause-bounds c =
    let b = token_bounds c.args.text.now c.args.start c.in-Some.kind c.in-Some.len c.utf8.text c.requires
    (sym (c.spelling.ensures ∙ ap spelling (c.as_bytes.ensures.value ∙ c.range_from.ensures.value)) ∙ c.in-Some.is) in
    (b.more, b.boundary)
