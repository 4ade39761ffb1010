-- The entities so far were written, each behind a comma.
use Rattle.std.proofs.Common.{take}
use Rattle.cedar_writer.specs.WrittenPolicies.{AreWritableEntities}
use Rattle.cedar_writer.specs.machines.Lines.{later_entities_words}
use Rattle.cedar_writer.specs.machines.Outputs.{Adds}
use Rattle.cedar_writer.proofs.policy.write_later_entities.Given as goal

abbrev pub invariant-loop-entity : goal.invariant-loop-entity
invariant-loop-entity l =
    Adds l.fn.out l.out (later_entities_words (take l.entity-index l.entities))
    × AreWritableEntities (take l.entity-index l.entities)
