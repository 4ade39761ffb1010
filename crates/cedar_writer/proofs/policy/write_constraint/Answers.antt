use Rattle.cedar_conversion.proofs.Walked.{on_ok}
use Rattle.cedar_writer.proofs.WordsAdded.{then}
use Rattle.cedar_writer.proofs.policy.write_constraint.Goals as goal

pub returns-in_ok-word-in-IsIn-clause-words : goal.returns-in_ok-word-in-IsIn-clause-words
returns-in_ok-word-in-IsIn-clause-words c =
    rw c.in-IsIn.is (on_ok c.write_reference-in-IsIn.result (λ last. then (then c.in_ok-write_type-in-IsIn.ensures.words c.in_ok-word-in-IsIn.ensures) last) c.write_reference-in-IsIn.ensures.words)
