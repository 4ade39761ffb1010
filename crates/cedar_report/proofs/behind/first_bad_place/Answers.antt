use Rattle.std.proofs.Common.{◌∙◌, ap, Some}
use Rattle.cedar_report.proofs.Reading.{not_begun, one_more, stops, ends, between}
use Rattle.cedar_report.proofs.behind.first_bad_place.Goals as goal

pub loop-token-init : goal.loop-token-init
loop-token-init c = not_begun c.args.text.now c.into_iter-token-iterator.result cc

pub loop-token-preserved : goal.loop-token-preserved
loop-token-preserved c =
    one_more c.args.text.now c.loop-token.token-iterator c.next.new.self c.next.result c.in-Ok.field-0 c.loop-token.invariant c.next.ensures.steps (c.in-Some.is ∙ ap Some c.in-Ok.is)

pub returns-in-Err : goal.returns-in-Err
returns-in-Err c =
    let s = stops c.args.text.now c.loop-token.token-iterator c.next.new.self c.next.result c.in-Err.invalid c.loop-token.invariant c.next.ensures.steps (c.in-Some.is ∙ ap Some c.in-Err.is) in
    record { cut = s; within = between c.args.text.now s.0 c.in-Err.invalid.location c.utf8.text s.1 }

pub returns : goal.returns
returns c = record {
  cut = ends c.args.text.now c.loop-token.token-iterator c.next.new.self c.next.result c.loop-token.invariant c.next.ensures.steps c.in-None.is;
  within = tt;
}
