-- The policies of a tree, told node by node.
use Rattle.std.proofs.Common.{◌≡◌, ◌≤◌, ◌<◌, ◌+◌, ℕ, suc, List, [], ◌∷◌, ◌++◌, length, take, get_or, Option, sym, ap, ◌∙◌, append_assoc, append-nil, arith}
use Rattle.std.proofs.lemmas.List.{length-take-le}
use Rattle.cedar_policy_store.specs.PolicyMaps.{PolicyMaps}
use Rattle.cedar_syntax.specs.declared.cst.Policy.{Policy}
use Rattle.cedar_syntax.specs.trees.Trees.{Cell}
use Rattle.cedar_conversion.proofs.Loops.{take_next, take_whole}
use Rattle.cedar_answers.specs.Told.{PolicyTold, as_list, numbered_told, told_from}

module _ (text : List ℕ) (set : PolicyMaps) where
  -- one node more at the end
  told_snoc : (n k : ℕ) (nodes : List (Cell Policy)) (node : Cell Policy) → k ≡ n + length nodes → told_from text set n (nodes ++ node ∷ []) ≡ told_from text set n nodes ++ as_list (numbered_told text set k node)
  told_snoc n k [] node e =
      let same : n ≡ k = omega (arith, e) in
      append-nil (as_list (numbered_told text set n node)) ∙ ap (λ i. as_list (numbered_told text set i node)) same
  told_snoc n k (m ∷ ms) node e =
      let next : k ≡ suc n + length ms = omega (arith, e) in
      ap (λ r. as_list (numbered_told text set n m) ++ r) (told_snoc (suc n) k ms node next) ∙ sym (append_assoc (as_list (numbered_told text set n m)) (told_from text set (suc n) ms) (as_list (numbered_told text set k node)))

  pub told_next : (nodes : List (Cell Policy)) (i n : ℕ) (node : Cell Policy) (before after : List PolicyTold) (made : Option PolicyTold) → i < length nodes → node ≡ get_or nodes i node → n ≡ i → before ≡ told_from text set 0 (take i nodes)
      → made ≡ numbered_told text set n node → after ≡ before ++ as_list made → after ≡ told_from text set 0 (take (i + 1) nodes)
  told_next nodes i n node before after made more at counted so_far is grown =
      let long : i ≡ 0 + length (take i nodes) = omega (arith, length-take-le i nodes (omega (arith, more))) in
      let number : made ≡ numbered_told text set i node = is ∙ ap (λ k. numbered_told text set k node) counted in
      grown ∙ ap (λ b. b ++ as_list made) so_far ∙ ap (λ m. told_from text set 0 (take i nodes) ++ as_list m) number
      ∙ sym (ap (told_from text set 0) (take_next nodes i node more at) ∙ told_snoc 0 i (take i nodes) node long)

  -- all of them
  pub told_whole : (nodes : List (Cell Policy)) (i : ℕ) (all : List PolicyTold) → length nodes ≤ i → all ≡ told_from text set 0 (take i nodes) → all ≡ told_from text set 0 nodes
  told_whole nodes i all done so_far = so_far ∙ ap (told_from text set 0) (take_whole nodes i done)
