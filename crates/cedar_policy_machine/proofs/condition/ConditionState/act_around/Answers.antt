use Rattle.std.proofs.Common.{Some, ◌∙◌, ap}
use Rattle.cedar_lexer.specs.Token.{lexeme_of}
use Rattle.cedar_policy_machine.proofs.machines.Condition.{condition_word_made}
use Rattle.cedar_policy_machine.proofs.condition.ConditionState.act_around.Goals as goal

pub returns-in_ok-ident_node-in-Word : goal.returns-in_ok-ident_node-in-Word
returns-in_ok-ident_node-in-Word g c =
    ap (λ x. Some x) c.name.ensures
    ∙ condition_word_made c.args.builder.source.now g.E.PushParser.reader c.args.self.now c.args.act (lexeme_of c.args.token.now) c.in_ok-ident_node-in-Word.field-0 c.in-Word.is c.requires.is_planned c.in_ok-ident_node-in-Word.ensures
