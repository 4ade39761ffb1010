use Rattle.std.proofs.Common.{sym, ap, ◌∙◌}
use Rattle.std.specs.Option.{option_copied}
use Rattle.cedar_answers.specs.Places.{node_range}
use Rattle.cedar_answers.proofs.Placing.{placed}
use Rattle.cedar_answers.proofs.policy.place_of.Goals as goal

pub returns-in-Some : goal.returns-in-Some
returns-in-Some c =
    let text = c.args.lines.now.text.now in
    let there = sym c.loc.ensures ∙ ap option_copied c.in-Some.is in
    c.range_of.ensures ∙ placed text c.of.result c.in-Some.loc.now (c.of.ensures.start ∙ c.start.ensures) (c.of.ensures.end ∙ c.end.ensures) c.of.ensures.seen ∙ ap (node_range text) (sym there)
