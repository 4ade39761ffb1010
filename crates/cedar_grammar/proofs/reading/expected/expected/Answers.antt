use Rattle.std.proofs.Common.{◌≡◌, IfOk, subst}
use Rattle.cedar_grammar.specs.faults.Expected.{by_name}
use Rattle.cedar_grammar.specs.machines.Machine.{allowed_by}
use Rattle.cedar_grammar.specs.machines.Judged.{picked_kinds}
use Rattle.cedar_grammar.proofs.reading.expected.expected.Goals as goal

pub returns : goal.returns
returns g c = subst (λ b. IfOk c.allowed_among.result (λ kinds. kinds ≡ picked_kinds b (allowed_by g.E.PushParser.reader c.args.state.now) by_name)) c.is_narrowed-narrowed.ensures c.allowed_among.ensures
