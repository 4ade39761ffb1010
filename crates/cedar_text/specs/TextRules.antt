-- What holds of each rule by which a whole text is read: one tree, or one first fault; each
-- sentence stands in a text, and goes on behind each text that begins it.
use Rattle.cedar_grammar.specs.declared.reading.expected.ClosersOnly.{ClosersOnly}
use Rattle.cedar_grammar.specs.faults.FirstFault.{HasOneTree, HasTreeOrFault, HasOneFault, HasNotBoth}
use Rattle.cedar_grammar.specs.grammar.Grammar.{Rule}
use Rattle.cedar_text.specs.GoesOn.{GoesOnInText}
use Rattle.cedar_text.specs.StandsInText.{StandsInText}

-- tokens have at most one tree; they have one, or a first fault and then just one, never both; and
-- each sentence stands in a text, and goes on behind each text that begins it
pub record IsTextRule {T : Type 0} (R : Rule T) (n : ClosersOnly) : Type 0 where
  pub one_tree : HasOneTree R
  pub tree_or_fault : HasTreeOrFault R n
  pub one_fault : HasOneFault R n
  pub not_both : HasNotBoth R n
  pub stands_in_text : StandsInText R
  pub goes_on_in_text : GoesOnInText R
