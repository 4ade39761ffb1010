use Rattle.std.proofs.Common.{◌↔◌, drop, string_bytes}
use Rattle.std.specs.List.{AllByRecursion}
use Rattle.cedar_command.specs.Request.{IsStyle}
use Rattle.cedar_command.proofs.request.are_styles.Given as goal

-- all words name something exactly if those that are left do
abbrev pub invariant-loop-word : goal.invariant-loop-word
invariant-loop-word l =
    AllByRecursion (λ word. IsStyle (string_bytes word)) l.words
    ↔ AllByRecursion (λ word. IsStyle (string_bytes word)) (drop l.word-index l.words)
