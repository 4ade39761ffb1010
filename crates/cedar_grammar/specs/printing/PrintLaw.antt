-- The print law: the printed text of a tree that a text has cuts into tokens that have a tree
-- which is the same up to places, and no other.
use Rattle.std.specs.Prelude.{◌≡◌, ℕ, List, option_map}
use Rattle.cedar_grammar.specs.grammar.Grammar.{Rule, IsTreeOf}
use Rattle.cedar_syntax.specs.printing.Printed.{tokens_text, printed}
use Rattle.cedar_syntax.specs.trees.Tree.{Tree}
use Rattle.cedar_syntax.specs.trees.Trees.{Cell}
use Rattle.cedar_syntax.specs.trees.Unplaced.{tree_at}

-- equal once every place is taken out, by what takes them out of the trees of a rule
abbrev pub SameUpToPlaces : {T F : Type 0} → (T → F) → Cell T → Cell T → Type 0
SameUpToPlaces bare n m = option_map bare n.node ≡ option_map bare m.node

-- the text has a tree by the rule that is this one up to places, and no other
pub record HasSameTree {T F : Type 0} (R : Rule T) (bare : T → F) (node : Cell T)
    (text : List ℕ) : Type 0 where
  pub again : Cell T
  pub stands : IsTreeOf R text again
  pub same : SameUpToPlaces bare again node
  pub only : (other : Cell T) → IsTreeOf R text other → other ≡ again

-- the printed text of a node
abbrev pub node_text : {T : Type 0} → (T → Tree) → Cell T → List ℕ
node_text tree n = tokens_text (printed (tree_at tree n))

abbrev pub PrintLaw : {T F : Type 0} → Rule T → (T → F) → (T → Tree) → Type 0
PrintLaw {T = T} R bare tree = (text : List ℕ) (node : Cell T) → IsTreeOf R text node →
    HasSameTree R bare node (node_text tree node)
