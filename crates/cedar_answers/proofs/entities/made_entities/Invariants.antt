use Rattle.std.proofs.Common.{◌≡◌, map, take}
use Rattle.cedar_answers.specs.Made.{entities_made}
use Rattle.cedar_answers.specs.Told.{entity_told}
use Rattle.cedar_answers.proofs.entities.made_entities.Given as goal

abbrev pub invariant-loop-entity : goal.invariant-loop-entity
invariant-loop-entity l = entities_made l.all.items ≡ map entity_told (take l.entity-index l.entities)
