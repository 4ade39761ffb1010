use Rattle.std.proofs.Common.{◌≡◌, ◌++◌, drop}
use Rattle.cedar_grammar.specs.machines.Machine.{allowed_by}
use Rattle.cedar_grammar.specs.machines.Judged.{picked_kinds}
use Rattle.cedar_grammar.proofs.reading.expected.allowed_among.Given as goal

-- those of the kinds before this one are there
abbrev pub invariant-loop-kind : goal.invariant-loop-kind
invariant-loop-kind g l = l.allowed.items ++ picked_kinds l.narrowed (allowed_by g.E.PushParser.reader l.state) (drop l.kind-index l.kinds) ≡ picked_kinds l.narrowed (allowed_by g.E.PushParser.reader l.state) l.kinds
