use Rattle.cedar_policy_conversion.proofs.FilledMaps.{kept_more, refused_more}
use Rattle.cedar_policy_conversion.proofs.annotations.one_more.Goals as goal

pub returns-in-Ok-clause-filled : goal.returns-in-Ok-clause-filled
returns-in-Ok-clause-filled g c so_far ordered filled =
    let given = c.in-Ok.ensures in
    kept_more g.F.Fn c.args.f.now so_far c.args.node.now _ _ c.args.all c.keep.result given.0 _ _ given.1 given.2 given.3 c.keep.ensures.memory (c.keep.ensures.known ordered) (c.keep.ensures.new ordered) filled

pub returns-in-Err-clause-filled : goal.returns-in-Err-clause-filled
returns-in-Err-clause-filled g c so_far ordered filled =
    refused_more g.F.Fn c.args.f.now so_far c.args.node.now _ c.args.all c.add_refusal.result c.in-Err.failure c.in-Err.ensures c.add_refusal.ensures.memory c.add_refusal.ensures.told filled
