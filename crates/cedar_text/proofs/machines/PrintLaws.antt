-- The print law of each rule, of which tokens have at most one tree.
use Rattle.std.specs.Prelude.{IfOk}
use Rattle.std.proofs.Common.{ℕ, List, Result, Ok, Err}
use Rattle.cedar_grammar.specs.faults.FirstFault.{HasOneTree}
use Rattle.cedar_grammar.specs.grammar.Grammar.{Rule, IsTreeOf}
use Rattle.cedar_grammar.specs.grammar.LooseExpressions.{ReadsExpr, ReadsPrimary}
use Rattle.cedar_grammar.specs.grammar.LoosePolicies.{ReadsPolicies, ReadsPolicy}
use Rattle.cedar_grammar.specs.grammar.LooseWords.{ReadsIdent, ReadsName, ReadsRef}
use Rattle.cedar_grammar.specs.printing.PrintLaw.{PrintLaw, HasSameTree, node_text}
use Rattle.cedar_syntax.specs.trees.Tree.{Tree}
use Rattle.cedar_syntax.specs.trees.Trees.{Cell}
use Rattle.cedar_syntax.specs.trees.Unlocated.{unlocated_name, unlocated_ref}
use Rattle.cedar_syntax.specs.trees.UnlocatedTrees.{unlocated_expr, unlocated_ident, unlocated_primary, unlocated_policy, unlocated_policies}
use Rattle.cedar_syntax.specs.trees.Unplaced.{expr_tree, primary_tree, name_tree, ref_tree, ident_tree, policy_tree, policies_tree}
use Rattle.cedar_grammar.proofs.again.Law as again
use Rattle.cedar_grammar.proofs.machines.Told.{follows, one_tree}
use Rattle.cedar_expression_machine.proofs.machines.NamesRead.{names_read, refs_read, idents_read}
use Rattle.cedar_text.proofs.machines.PolicyParts.{all_policies_read, one_policy_read}
use Rattle.cedar_expression_machine.proofs.machines.WholeExpressions.{expressions_read, primaries_read}

-- of a call's answer
pub printed_clause : {T F E : Type 0} (R : Rule T) (bare : T → F) (tree : T → Tree) → PrintLaw R bare tree → (text : List ℕ) (r : Result (Cell T) E) → IfOk r (λ x. IsTreeOf R text x) → IfOk r (λ x. HasSameTree R bare x (node_text tree x))
printed_clause R bare tree law text (Ok x) h = law text x h
printed_clause R bare tree law text (Err e) h = tt

pub one_policies_tree : HasOneTree ReadsPolicies
one_policies_tree = λ src ts x y r s. one_tree (follows (all_policies_read src)) ts x y r s

pub policies_printed : PrintLaw ReadsPolicies unlocated_policies policies_tree
policies_printed = again.policies one_policies_tree

pub single_policies_printed : PrintLaw ReadsPolicy unlocated_policy policy_tree
single_policies_printed = again.single_policies (λ src ts x y r s. one_tree (follows (one_policy_read src)) ts x y r s)

pub expressions_printed : PrintLaw ReadsExpr unlocated_expr expr_tree
expressions_printed = again.expressions (λ src ts x y r s. one_tree (follows (expressions_read src)) ts x y r s)

pub primaries_printed : PrintLaw ReadsPrimary unlocated_primary primary_tree
primaries_printed = again.primaries (λ src ts x y r s. one_tree (follows (primaries_read src)) ts x y r s)

pub entity_literals_printed : PrintLaw ReadsRef unlocated_ref ref_tree
entity_literals_printed = again.entity_literals (λ src ts x y r s. one_tree (follows (refs_read src)) ts x y r s)

pub names_printed : PrintLaw ReadsName unlocated_name name_tree
names_printed = again.names (λ src ts x y r s. one_tree (follows (names_read src)) ts x y r s)

pub identifiers_printed : PrintLaw ReadsIdent unlocated_ident ident_tree
identifiers_printed = again.identifiers (λ src ts x y r s. one_tree (follows (idents_read src)) ts x y r s)
