use Rattle.std.proofs.Common.{◌≡◌, map, take}
use Rattle.cedar_lexer.specs.Names.{kind_name}
use Rattle.cedar_answers.proofs.faults.kind_names.Given as goal

abbrev pub invariant-loop-kind : goal.invariant-loop-kind
invariant-loop-kind l = map (λ name. name.now) l.names.items ≡ map kind_name (take l.kind-index l.kinds)
