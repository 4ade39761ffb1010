use Rattle.std.proofs.Common.{◌≡◌, Some, drop}
use Rattle.cedar_grammar.specs.machines.Machine.{allowed_by}
use Rattle.cedar_grammar.specs.machines.Judged.{any_closer}
use Rattle.cedar_grammar.proofs.reading.expected.allows_closer.Given as goal

-- none of the kinds before this one closes something
abbrev pub invariant-loop-kind : goal.invariant-loop-kind
invariant-loop-kind g l = any_closer (λ k. allowed_by g.E.PushParser.reader l.state (Some k)) (drop l.kind-index l.kinds) ≡ any_closer (λ k. allowed_by g.E.PushParser.reader l.state (Some k)) l.kinds
