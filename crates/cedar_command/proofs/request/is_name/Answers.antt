use Rattle.std.proofs.Common.{sym, ◌∙◌, true≢false, rules}
use Rattle.cedar_command.proofs.Spelled.{onward, back, last_part, one_part}
use Rattle.cedar_command.proofs.request.is_name.Goals as goal

pub returns-then-not-is_spelled : goal.returns-then-not-is_spelled
returns-then-not-is_spelled c =
    let l = c.loop-part in (
      λ f. absurd (true≢false (sym f)),
      λ s. sym c.if-not-is_spelled.true ∙ c.is_spelled.ensures ∙ (back l.rest.now c.in-Some.part.now c.in-Some.behind.now c.in-Some.ensures (l.invariant.1.0 s)).0,
    )

pub loop-part-preserved : goal.loop-part-preserved
loop-part-preserved c =
    let l = c.loop-part in
    let ok = sym c.is_spelled.ensures ∙ c.if-not-is_spelled.false in (
      search rules,
      (
        λ s. (back l.rest.now c.in-Some.part.now c.in-Some.behind.now c.in-Some.ensures (l.invariant.1.0 s)).1,
        λ s. l.invariant.1.1 (onward l.rest.now c.in-Some.part.now c.in-Some.behind.now c.in-Some.ensures ok s),
      ),
    )

pub returns : goal.returns
returns c =
    let l = c.loop-part in (
      λ t. l.invariant.1.1 (one_part l.rest.now (sym c.is_spelled-2.ensures ∙ t)),
      λ s. c.is_spelled-2.ensures ∙ last_part l.rest.now c.in_default.ensures (l.invariant.1.0 s),
    )
