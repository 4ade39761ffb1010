use Rattle.cedar_layout.proofs.Clean.{layout_clean, layout_ends}
use Rattle.cedar_layout.proofs.Kept.{read_again, pieces_again, keeps_words, keeps_items, stays_laid_out}
use Rattle.cedar_layout.proofs.laws.layouts_keep.Goals as goal

pub returns-clause-cuts : goal.returns-clause-cuts
returns-clause-cuts c = λ layout source ps r. (pieces_again layout ps, read_again layout source ps r)

pub returns-clause-words : goal.returns-clause-words
returns-clause-words c = keeps_words

pub returns-clause-items : goal.returns-clause-items
returns-clause-items c = keeps_items

pub returns-clause-stays : goal.returns-clause-stays
returns-clause-stays c = stays_laid_out

pub returns-clause-clean : goal.returns-clause-clean
returns-clause-clean c = layout_clean

pub returns-clause-ended : goal.returns-clause-ended
returns-clause-ended c = layout_ends
