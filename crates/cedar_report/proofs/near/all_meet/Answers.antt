use Rattle.std.proofs.Common.{length}
use Rattle.std.proofs.lemmas.Slice.Zip.{zip_turn, zip_end}
use Rattle.cedar_report.proofs.Meeting.{not_met, met, all_met}
use Rattle.cedar_report.proofs.near.all_meet.Goals as goal

pub returns-then-not-fits : goal.returns-then-not-fits
returns-then-not-fits c =
    let t = zip_turn c.args.signs.now c.args.words.now c.loop-sign.yielded c.into_iter-sign-iterator.result c.loop-sign.sign-iterator c.next.new.self c.next.result (cc) (cc) c.loop-sign.yielded_by _ c.in-Some.is c.next.ensures.steps in
    not_met c.args.signs.now c.args.words.now (length c.loop-sign.yielded) _ _ t.0 t.1 (t.2 _) (t.3 _) (cc) c.loop-sign.invariant

pub loop-sign-preserved : goal.loop-sign-preserved
loop-sign-preserved c =
    let t = zip_turn c.args.signs.now c.args.words.now c.loop-sign.yielded c.into_iter-sign-iterator.result c.loop-sign.sign-iterator c.next.new.self c.next.result (cc) (cc) c.loop-sign.yielded_by _ c.in-Some.is c.next.ensures.steps in
    met c.args.signs.now c.args.words.now c.loop-sign.yielded _ _ _ t.0 t.1 (t.2 _) (t.3 _) (cc) c.loop-sign.invariant

pub returns : goal.returns
returns c =
    all_met c.args.signs.now c.args.words.now (length c.loop-sign.yielded) (zip_end c.args.signs.now c.args.words.now c.loop-sign.yielded c.into_iter-sign-iterator.result c.loop-sign.sign-iterator c.next.new.self c.next.result (cc) (cc) c.loop-sign.yielded_by c.in-None.is c.next.ensures.steps) c.loop-sign.invariant
