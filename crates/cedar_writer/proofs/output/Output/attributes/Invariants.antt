-- The first identifier was written, and of the others those so far, each behind a dot.
use Rattle.std.proofs.Common.{◌++◌, take}
use Rattle.cedar_writer.specs.WrittenWords.{identifier_words}
use Rattle.cedar_writer.specs.machines.Lines.{accesses_words}
use Rattle.cedar_writer.specs.machines.Outputs.{Adds}
use Rattle.cedar_writer.proofs.output.Output.attributes.Given as goal

abbrev pub invariant-loop-id : goal.invariant-loop-id
invariant-loop-id l =
    Adds l.fn.self l.self (identifier_words l.first ++ accesses_words (take l.id-index l.rest))
