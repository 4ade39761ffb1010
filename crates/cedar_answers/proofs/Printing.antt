-- A node that holds nothing prints nothing.
use Rattle.std.proofs.Common.{◌≡◌, ℕ, List, [], Option, None, option_map, sym, ap, ◌∙◌}
use Rattle.cedar_syntax.specs.printing.Printed.{printed, tokens_text}
use Rattle.cedar_syntax.specs.trees.Tree.{Tree}
use Rattle.cedar_syntax.specs.trees.Trees.{Cell}
use Rattle.cedar_syntax.specs.trees.Unplaced.{or_missing}
use Rattle.cedar_grammar.specs.printing.PrintLaw.{node_text}

pub nothing_printed : {T : Type 0} (tree : T → Tree) (n : Cell T) (text : List ℕ) → n.node ≡ None → text ≡ [] → text ≡ node_text tree n
unfolding printed
nothing_printed {T = T} tree n text none is = is ∙ ap (λ (o : Option T). tokens_text (printed (or_missing (option_map tree o)))) (sym none)
