use Rattle.cedar_policy_machine.specs.machines.Policies.{one_policy_reader}
use Rattle.cedar_policy_machine.specs.machines.Scope.{readers_of}
use Rattle.cedar_policy_machine.proofs.machines.SequenceShapes.{many_planned}
use Rattle.cedar_policy_machine.proofs.policies.PolicySequencePushParserItemsNodeOptionPolicy.act.Goals as goal

pub act_many-requires-clause-is_planned : goal.act_many-requires-clause-is_planned
act_many-requires-clause-is_planned g c = many_planned (one_policy_reader (readers_of g.N.PushParser.reader g.S.PushParser.reader g.E.PushParser.reader)) c.args.self.now.begun c.args.token.now.kind c.args.act c.requires.is_planned
