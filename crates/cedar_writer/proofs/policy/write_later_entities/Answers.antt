use Rattle.cedar_writer.proofs.EntitiesWritten.{later_on, later_writable}
use Rattle.cedar_writer.proofs.policy.write_later_entities.Goals as goal

pub loop-entity-preserved : goal.loop-entity-preserved
loop-entity-preserved c = (
  later_on c.args.out.now c.loop-entity.out c.word.new.self c.write_entity.new.out c.args.entities.now c.loop-entity.entity-index c.entity-item.result c.loop-entity-test.true c.entity-item.is c.loop-entity.invariant.0 c.in_ok-word.ensures c.in_ok-write_entity.ensures.words,
  later_writable c.args.entities.now c.loop-entity.entity-index c.entity-item.result c.loop-entity-test.true c.entity-item.is c.loop-entity.invariant.1 c.in_ok-write_entity.ensures.writable,
)
