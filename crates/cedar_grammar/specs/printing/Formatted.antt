-- Policies in lines: each policy's printed text, in order, a line feed behind each.
use Rattle.std.specs.Prelude.{ℕ, List, [], ◌∷◌, ◌++◌, codes, Option, Some, None}
use Rattle.cedar_syntax.specs.declared.cst.Policies.{Policies}
use Rattle.cedar_syntax.specs.declared.cst.Policy.{Policy}
use Rattle.cedar_grammar.specs.printing.PrintLaw.{node_text}
use Rattle.cedar_syntax.specs.trees.Trees.{Cell}
use Rattle.cedar_syntax.specs.trees.Unplaced.{policy_tree}

abbrev pub lines_text : List (Cell Policy) → List ℕ
lines_text [] = []
lines_text (p ∷ ps) = node_text policy_tree p ++ (codes "\n" ++ lines_text ps)

abbrev pub formatted_in : Option Policies → List ℕ
formatted_in (Some ps) = lines_text ps.0
formatted_in None = []

abbrev pub formatted : Cell Policies → List ℕ
formatted n = formatted_in n.node
