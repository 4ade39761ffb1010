use Rattle.std.proofs.Common.{◌++◌, sym}
use Rattle.cedar_syntax.specs.printing.Pieces.{exprs_in}
use Rattle.cedar_syntax.proofs.InsideWeights.{smaller}
use Rattle.cedar_syntax.proofs.Printing.{after, as_texts}
use Rattle.cedar_syntax.proofs.Unfolding.{all_written, gone_into}
use Rattle.cedar_syntax.proofs.print.unfolded.write_unfolded.Goals as goal

pub returns-in-None : goal.returns-in-None
returns-in-None g c =
    let took = g.W.Write.write_str_gives in
    let so = c.exprs.invariant in
    let more = c.in_ok-now.ensures.texts in
    as_texts took (sym (all_written so.0 more.0 c.in_ok-now.next c.exprs.rest c.write_leaves.new.rest so.2 more.2 c.in-None.is c.in_ok-now.ensures.ended)) (after took so.1 more.1)

pub exprs-smaller : goal.exprs-smaller
exprs-smaller g c = smaller c.in_ok-now.next c.in-Some.expr c.inner.result.now c.as_ref.result.now (exprs_in c.exprs.rest) (exprs_in c.unfold-in-Some.new.rest) (exprs_in c.write_leaves.new.rest) c.in_ok-now.ensures.exprs c.in-Some.is c.inner.ensures c.as_ref.ensures c.in_ok-unfold-in-Some.ensures.exprs

pub exprs-preserved : goal.exprs-preserved
exprs-preserved g c =
    let took = g.W.Write.write_str_gives in
    let so = c.exprs.invariant in
    let more = c.in_ok-now.ensures.texts in (
      so.0 ++ more.0,
      after took so.1 more.1,
      gone_into so.0 more.0 c.in_ok-now.next c.in-Some.expr c.inner.result.now c.as_ref.result.now c.exprs.rest c.write_leaves.new.rest c.unfold-in-Some.new.rest so.2 more.2 c.in-Some.is c.inner.ensures c.as_ref.ensures c.in_ok-unfold-in-Some.ensures.texts,
    )
