use Rattle.std.proofs.Common.{subst}
use Rattle.cedar_lexer.specs.Cut.{Cuts}
use Rattle.cedar_writer.specs.WrittenWords.{entity_words}
use Rattle.cedar_writer.proofs.EntitiesShown.{entity_shown}
use Rattle.cedar_writer.proofs.Leaves.{entity}
use Rattle.cedar_writer.proofs.LinesCut.{line_cuts}
use Rattle.cedar_writer.proofs.Spelled.{entity_spelled}
use Rattle.cedar_writer.proofs.laws.entity_texts_stand.Goals as goal

pub returns-clause-shown : goal.returns-clause-shown
returns-clause-shown c = entity_shown

pub returns-clause-cut : goal.returns-clause-cut
returns-clause-cut c = λ uid h.
    let cut = line_cuts (entity_words uid) (entity_spelled uid h.0 h.1) in
    (cut.0, subst (λ text. Cuts text cut.0) (entity_shown uid) cut.1, entity uid h.0 h.1 cut.0 cut.2)
