use Rattle.std.proofs.Common.{refl}
use Rattle.cedar_policy_conversion.proofs.FreeNames.{adds_none, adds_one}
use Rattle.cedar_policy_conversion.proofs.SetSteps.{kept_more, refused_more}
use Rattle.cedar_policy_conversion.proofs.sets.one_more.Goals as goal

pub keep-requires : goal.keep-requires
keep-requires c = rw c.in-Ok.is at c.requires

pub returns-in-Ok-keep-clause-told : goal.returns-in-Ok-keep-clause-told
returns-in-Ok-keep-clause-told c o x h k = kept_more c.args.set.now c.keep.new.set c.in-Ok.policy c.args.all c.args.next o x c.in-Ok.is c.in-Ok-keep.ensures.added h k

pub returns-in-Ok-keep-clause-named : goal.returns-in-Ok-keep-clause-named
returns-in-Ok-keep-clause-named c = adds_one c.args.set.now c.keep.new.set c.in-Ok.policy c.args.next c.in-Ok.is c.in-Ok-keep.ensures.added

pub returns-in-Err-keep-clause-named : goal.returns-in-Err-keep-clause-named
returns-in-Err-keep-clause-named c = adds_none c.args.set.now c.keep.new.set c.args.next c.in-Err-keep.ensures.unchanged

pub returns-in-Err-clause-told : goal.returns-in-Err-clause-told
returns-in-Err-clause-told c o x h k = refused_more c.args.set.now c.args.set.now c.in-Err.failure c.args.all c.add_refusal.result c.args.next o x c.in-Err.is h k c.add_refusal.ensures.told

pub returns-in-Err-clause-named : goal.returns-in-Err-clause-named
returns-in-Err-clause-named c = adds_none c.args.set.now c.args.set.now c.args.next refl
