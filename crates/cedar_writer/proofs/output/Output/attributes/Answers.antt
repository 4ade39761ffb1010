use Rattle.std.proofs.Common.{◌++◌, ap, ◌∙◌}
use Rattle.cedar_conversion.proofs.Loops.{take_whole}
use Rattle.cedar_writer.specs.WrittenWords.{dot, identifier_words, marked_words}
use Rattle.cedar_writer.specs.machines.Lines.{accesses_words}
use Rattle.cedar_writer.proofs.NamesWritten.{attributes_are, accesses_more}
use Rattle.cedar_writer.proofs.WordsAdded.{same_added}
use Rattle.cedar_writer.proofs.output.Output.attributes.Goals as goal

pub loop-id-preserved : goal.loop-id-preserved
loop-id-preserved c =
    accesses_more c.args.self.now c.loop-id.self c.word.new.self c.identifier-in-loop-id.new.self (identifier_words c.args.first.now) c.args.rest.now c.loop-id.id-index c.id-item.result c.as_str.result.now
    c.loop-id-test.true c.id-item.is c.as_str.ensures c.loop-id.invariant c.in_ok-word.ensures c.in_ok-identifier-2.ensures

pub returns : goal.returns
returns c =
    let first = identifier_words c.args.first.now in
    same_added c.args.self.now c.loop-id.self _ (marked_words first dot c.args.rest.now)
    (ap (λ ids. first ++ accesses_words ids) (take_whole c.args.rest.now c.loop-id.id-index c.loop-id-test.false) ∙ attributes_are first c.args.rest.now)
    c.loop-id.invariant
