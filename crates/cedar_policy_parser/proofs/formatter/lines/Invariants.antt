use Rattle.std.proofs.Common.{◌≡◌, string_bytes, take}
use Rattle.cedar_grammar.specs.printing.Formatted.{lines_text}
use Rattle.cedar_policy_parser.proofs.formatter.lines.Given as goal

abbrev pub invariant-loop-policy : goal.invariant-loop-policy
invariant-loop-policy l = string_bytes l.text ≡ lines_text (take l.policy-index l.policies)
