use Rattle.cedar_lexer.specs.Token.{lexeme_of}
use Rattle.cedar_policy_machine.specs.machines.Policies.{sections}
use Rattle.cedar_policy_machine.specs.machines.Scope.{readers_of}
use Rattle.cedar_policy_machine.proofs.machines.PolicyActs.{annotation_planned, element_planned, condition_planned, annotations_end, scope_ends, conditions_end, scope_closed}
use Rattle.cedar_policy_machine.proofs.policy.PolicyStateAnnotationSequenceElementSequenceConditionSequencePushParserPolicy.act.Goals as goal

pub act_many-requires-clause-is_planned : goal.act_many-requires-clause-is_planned
act_many-requires-clause-is_planned g c = condition_planned (readers_of g.N.PushParser.reader g.S.PushParser.reader g.E.PushParser.reader) c.args.self.now c.args.token.now.kind c.args.act c.in-Condition.act c.requires.is_planned c.in-Condition.is

pub act_many-requires-in-Element-clause-is_planned : goal.act_many-requires-in-Element-clause-is_planned
act_many-requires-in-Element-clause-is_planned g c = element_planned (readers_of g.N.PushParser.reader g.S.PushParser.reader g.E.PushParser.reader) c.args.self.now c.args.token.now.kind c.args.act c.in-Element.act c.requires.is_planned c.in-Element.is

pub act_many-requires-in-Annotation-clause-is_planned : goal.act_many-requires-in-Annotation-clause-is_planned
act_many-requires-in-Annotation-clause-is_planned g c = annotation_planned (readers_of g.N.PushParser.reader g.S.PushParser.reader g.E.PushParser.reader) c.args.self.now c.args.token.now.kind c.args.act c.in-Annotation.act c.requires.is_planned c.in-Annotation.is

pub name-requires-clause-ended : goal.name-requires-clause-ended
name-requires-clause-ended g c = annotations_end (readers_of g.N.PushParser.reader g.S.PushParser.reader g.E.PushParser.reader) c.args.self.now c.args.token.now.kind c.args.act c.requires.is_planned c.in-Effect.is

pub end_item-requires : goal.end_item-requires
end_item-requires g c = scope_ends (readers_of g.N.PushParser.reader g.S.PushParser.reader g.E.PushParser.reader) c.args.self.now c.args.token.now.kind c.args.act c.requires.is_planned c.in-Close.is

pub end_item-requires-in-Shut : goal.end_item-requires-in-Shut
end_item-requires-in-Shut g c = conditions_end (readers_of g.N.PushParser.reader g.S.PushParser.reader g.E.PushParser.reader) c.args.self.now c.args.token.now.kind c.args.act c.requires.is_planned c.in-Shut.is

pub returns-in_ok-end_item-in-Close : goal.returns-in_ok-end_item-in-Close
returns-in_ok-end_item-in-Close g c = scope_closed (sections (readers_of g.N.PushParser.reader g.S.PushParser.reader g.E.PushParser.reader)) c.args.builder.source.now c.args.self.now c.end_item.new.self c.args.act (lexeme_of c.args.token.now) c.in-Close.is c.in_ok-end_item-in-Close.ensures
