use Rattle.std.proofs.Common.{◌≡◌, map, take, string_bytes}
use Rattle.cedar_syntax.specs.messages.Kept.{rules_of, shown_name}
use Rattle.cedar_syntax.proofs.err.expected.shown_texts.Given as goal

abbrev pub invariant-loop-name : goal.invariant-loop-name
invariant-loop-name l = map (λ text. string_bytes text) l.texts.items ≡ map (λ name. shown_name (rules_of l.config) name.now) (take l.name-index l.names)
