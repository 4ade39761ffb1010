use Rattle.std.proofs.Common.{◌≡◌, ◌&&◌, ℕ, List, take}
use Rattle.std.specs.BTreeSet.{contains}
use Rattle.std.specs.List.{list_any}
use Rattle.std.specs.Str.{bytes_eq}
use Rattle.cedar_expressions.specs.Path.{is_unreserved_identifier}
use Rattle.cedar_expressions.specs.contracts.ids.UnreservedIdOrd.TheImpl as id_order
use Rattle.cedar_conversion.proofs.styles.methods_named.Given as goal

-- the set holds the words so far
abbrev pub invariant-loop-word : goal.invariant-loop-word
invariant-loop-word l =
    (id : List ℕ) → contains id_order.ghosts.cmp l.methods id ≡ list_any (λ word. is_unreserved_identifier word.now && bytes_eq id word.now) (take l.word-index l.words)
