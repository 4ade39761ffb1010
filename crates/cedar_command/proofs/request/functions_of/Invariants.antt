use Rattle.std.proofs.Common.{◌≡◌, take, string_bytes}
use Rattle.std.specs.BTreeSet.{contains}
use Rattle.std.specs.List.{list_any}
use Rattle.cedar_expressions.specs.Path.{Path}
use Rattle.cedar_expressions.specs.contracts.names.NameOrd.TheImpl as name_order
use Rattle.cedar_command.specs.Request.{names_function}
use Rattle.cedar_command.proofs.request.functions_of.Given as goal

-- the set holds what the words so far name
abbrev pub invariant-loop-word : goal.invariant-loop-word
invariant-loop-word l =
    (name : Path) → contains name_order.ghosts.cmp l.functions name ≡ list_any (λ word. names_function name (string_bytes word)) (take l.word-index l.words)
