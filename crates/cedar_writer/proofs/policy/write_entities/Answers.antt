use Rattle.cedar_conversion.proofs.Walked.{on_ok}
use Rattle.cedar_writer.proofs.EntitiesWritten.{no_entities, none_unwritable, entities_added, entities_writable}
use Rattle.cedar_writer.proofs.policy.write_entities.Goals as goal

pub returns-in-None-clause-words : goal.returns-in-None-clause-words
returns-in-None-clause-words c = no_entities c.args.out.now c.args.entities.now c.in-None.ensures.cases

pub returns-in-None-clause-writable : goal.returns-in-None-clause-writable
returns-in-None-clause-writable c = none_unwritable c.args.entities.now c.in-None.ensures.cases

pub returns-in_ok-write_entity-in-Some-clause-words : goal.returns-in_ok-write_entity-in-Some-clause-words
returns-in_ok-write_entity-in-Some-clause-words c =
    on_ok c.write_later_entities.result
    (λ last. entities_added c.args.out.now c.write_entity.new.out c.write_later_entities.new.out c.args.entities.now c.in-Some.first.now c.in-Some.rest.now c.in-Some.ensures.cases.0 c.in_ok-write_entity-in-Some.ensures.words last)
    c.write_later_entities.ensures.words

pub returns-in_ok-write_entity-in-Some-clause-writable : goal.returns-in_ok-write_entity-in-Some-clause-writable
returns-in_ok-write_entity-in-Some-clause-writable c =
    on_ok c.write_later_entities.result
    (λ last. entities_writable c.args.entities.now c.in-Some.first.now c.in-Some.rest.now c.in-Some.ensures.cases.0 c.in_ok-write_entity-in-Some.ensures.writable last)
    c.write_later_entities.ensures.writable
