use Rattle.std.proofs.Common.{◌+◌, arith}
use Rattle.cedar_json_writer.proofs.Steps.{none_wrote}
use Rattle.cedar_json_writer.proofs.Scopes.{entity_more, entities_end, list_tokens}
use Rattle.cedar_json_writer.proofs.scope.write_entities.Goals as goal

pub loop-entity-init : goal.loop-entity-init
loop-entity-init c = none_wrote c.args.out.now (list_tokens c.args.entities.now)

pub loop-entity-preserved : goal.loop-entity-preserved
loop-entity-preserved c =
    entity_more c.args.out.now c.loop-entity.out c.write_entity.new.out c.args.entities.now c.loop-entity.entity-index (c.loop-entity.entity-index + 1) c.entity-item.result c.loop-entity-test.true (omega arith) c.entity-item.is c.loop-entity.invariant c.in_ok-write_entity.ensures

pub returns : goal.returns
returns c = entities_end c.end_array.result c.args.out.now c.loop-entity.out c.end_array.new.self c.args.entities.now c.loop-entity.entity-index c.loop-entity-test.false c.loop-entity.invariant c.end_array.ensures
