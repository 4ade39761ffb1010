-- The identifiers so far were written, each with `::` behind it, and none of them is reserved.
use Rattle.std.proofs.Common.{◌≡◌, true, take}
use Rattle.std.specs.List.{list_all}
use Rattle.cedar_expressions.specs.Path.{is_valid_identifier}
use Rattle.cedar_writer.specs.machines.Lines.{namespace_words}
use Rattle.cedar_writer.specs.machines.Outputs.{Adds}
use Rattle.cedar_writer.proofs.output.Output.name.Given as goal

abbrev pub invariant-loop-id : goal.invariant-loop-id
invariant-loop-id l =
    Adds l.fn.self l.self (namespace_words (take l.id-index l.id-items))
    × (list_all is_valid_identifier (take l.id-index l.id-items) ≡ true)
