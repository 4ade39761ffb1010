-- How deep a tree nests: the most brackets and `if`s, together, that an expression of it stands
-- in. It is a figure that bounds a text; what is done with a tree takes no more stack for it.
use Rattle.std.specs.Prelude.{ℕ, ◌+◌, ◌≤◌, max, List}
use Rattle.cedar_grammar.specs.grammar.Grammar.{Rule, IsTreeOf}
use Rattle.cedar_syntax.specs.trees.Tree.{Tree, Rest, ite, chain, has, like, is, is_in, unary, member, call, index, parens, set, record_of, init, variable_def, condition, policy, policies, none, more}
use Rattle.cedar_syntax.specs.trees.Trees.{Cell}
use Rattle.cedar_syntax.specs.trees.Unplaced.{tree_at}
use Rattle.cedar_text.specs.Nesting.{IsNesting}

abbrev mutual
  pub tree_depth : Tree → ℕ
  tree_depth (ite guard first second) =
      max (max (tree_depth guard) (tree_depth first)) (tree_depth second) + 1
  tree_depth (call arguments) = rest_depth arguments + 1
  tree_depth (index key) = tree_depth key + 1
  tree_depth (parens inner) = tree_depth inner + 1
  tree_depth (set elements) = rest_depth elements + 1
  tree_depth (record_of pairs) = rest_depth pairs + 1
  tree_depth (condition word body) = tree_depth body + 1
  tree_depth (policy annotations effect variables conditions) =
      max (rest_depth variables + 1) (rest_depth conditions)
  tree_depth (chain level first others) = max (tree_depth first) (rest_depth others)
  tree_depth (has target right) = max (tree_depth target) (tree_depth right)
  tree_depth (like target pattern) = max (tree_depth target) (tree_depth pattern)
  tree_depth (is target type) = max (tree_depth target) (tree_depth type)
  tree_depth (is_in target type within) =
      max (max (tree_depth target) (tree_depth type)) (tree_depth within)
  tree_depth (unary sign operand) = tree_depth operand
  tree_depth (member primary accesses) = max (tree_depth primary) (rest_depth accesses)
  tree_depth (init key value) = max (tree_depth key) (tree_depth value)
  tree_depth (variable_def variable name type constraint) =
      max (rest_depth type) (rest_depth constraint)
  tree_depth (policies all) = rest_depth all
  -- words, literals, names, slots and entities hold no expression
  tree_depth _ = 0

  pub rest_depth : Rest → ℕ
  rest_depth none = 0
  rest_depth (more operator part others) = max (tree_depth part) (rest_depth others)

-- a law of a rule: where a text has a tree, that nests no deeper than is told of the text
abbrev pub NestsAsTold : {T : Type 0} → Rule T → (T → Tree) → Type 0
NestsAsTold {T} R f =
    (text : List ℕ) (n : ℕ) (node : Cell T) → IsNesting text n → IsTreeOf R text node →
    tree_depth (tree_at f node) ≤ n
