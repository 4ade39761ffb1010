use Rattle.std.proofs.Common.{Some, ◌∙◌, ap}
use Rattle.cedar_lexer.specs.Token.{lexeme_of}
use Rattle.cedar_policy_machine.specs.machines.Scope.{readers_of}
use Rattle.cedar_policy_machine.proofs.machines.ElementPlans.{variable_made}
use Rattle.cedar_policy_machine.proofs.scope.ElementStatePushParserVariableDef.act.Goals as goal

pub returns-in_ok-ident_node-in-Variable : goal.returns-in_ok-ident_node-in-Variable
returns-in_ok-ident_node-in-Variable g c =
    ap (λ x. Some x) c.name.ensures
    ∙ variable_made c.args.builder.source.now (readers_of g.N.PushParser.reader g.S.PushParser.reader g.E.PushParser.reader) c.args.self.now c.args.act (lexeme_of c.args.token.now) c.in_ok-ident_node-in-Variable.field-0 c.in-Variable.is c.requires.is_planned c.in_ok-ident_node-in-Variable.ensures
