use Rattle.std.proofs.Common.{◌≡◌, ◌&&◌, take}
use Rattle.std.specs.BTreeSet.{contains}
use Rattle.std.specs.List.{list_any}
use Rattle.cedar_expressions.specs.Path.{Path, is_unreserved_identifier}
use Rattle.cedar_expressions.specs.contracts.names.NameOrd.TheImpl as name_order
use Rattle.cedar_conversion.specs.strict.CedarExtensions.{is_word_alone}
use Rattle.cedar_conversion.proofs.styles.functions_named.Given as goal

-- the set holds the words so far
abbrev pub invariant-loop-word : goal.invariant-loop-word
invariant-loop-word l =
    (name : Path) → contains name_order.ghosts.cmp l.functions name ≡ list_any (λ word. is_unreserved_identifier word.now && is_word_alone name word.now) (take l.word-index l.words)
