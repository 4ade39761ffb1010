-- A rule is one of whole texts where a reader reads by it whose machine has shapes.
use Rattle.std.proofs.Common.{ℕ, List}
use Rattle.cedar_lexer.specs.declared.token.TokenKind.{TokenKind}
use Rattle.cedar_syntax.specs.trees.Trees.{Cell}
use Rattle.cedar_grammar.specs.declared.reading.expected.ClosersOnly.{ClosersOnly}
use Rattle.cedar_grammar.specs.grammar.Grammar.{Rule, IsNodeOf}
use Rattle.cedar_grammar.specs.machines.Judged.{ReadsBy}
use Rattle.cedar_grammar.specs.machines.Machine.{Machine, Reader, Shapes, machine_of}
use Rattle.cedar_grammar.proofs.machines.Told as told
use Rattle.cedar_text.specs.TextRules.{IsTextRule}
use Rattle.cedar_text.proofs.machines.GoesOn.{goes_on}
use Rattle.cedar_text.proofs.machines.StandsInText.{stands}

pub text_rule : {S A T U V : Type 0} (R : Rule T) (n : ClosersOnly) (r : Reader S A (Cell T)) (shapes : Machine TokenKind U V) (f : S → U) (g : Cell T → V) → ((src : List ℕ) → ReadsBy src r (IsNodeOf R src)) →
    ((src : List ℕ) → Shapes (machine_of src r) shapes f g) → IsTextRule R n
text_rule R n r shapes f g w i = record {
  one_tree = λ src ts x y a b. told.one_tree (told.follows (w src)) ts x y a b;
  tree_or_fault = λ src ts bad. told.tree_or_fault (told.follows (w src)) n ts bad;
  one_fault = λ src ts bad x y a b. told.one_fault (told.follows (w src)) n ts bad x y a b;
  not_both = λ src ts raw t h. told.not_both_of (told.follows (w src)) n ts raw t h;
  stands_in_text = stands (λ src. machine_of src r) shapes f g (λ src. (w src).parser) i;
  goes_on_in_text = goes_on (λ src. machine_of src r) shapes f g (λ src. (w src).parser) i;
}
