use Rattle.std.proofs.Common.{◌≡◌, List, ℕ, take, string_bytes}
use Rattle.std.specs.BTreeSet.{contains}
use Rattle.std.specs.List.{list_any}
use Rattle.cedar_expressions.specs.contracts.ids.UnreservedIdOrd.TheImpl as id_order
use Rattle.cedar_command.specs.Request.{word_names_method}
use Rattle.cedar_command.proofs.request.methods_of.Given as goal

-- the set holds what the words so far name
abbrev pub invariant-loop-word : goal.invariant-loop-word
invariant-loop-word l =
    (id : List ℕ) → contains id_order.ghosts.cmp l.methods id ≡ list_any (λ word. word_names_method id (string_bytes word)) (take l.word-index l.words)
