use Rattle.std.proofs.Common.{ap, ◌∙◌, Option, Some}
use Rattle.cedar_lexer.specs.Token.{lexeme_of}
use Rattle.cedar_grammar.specs.declared.reading.extent.Extent.{Extent}
use Rattle.cedar_expression_machine.specs.declared.expression.state.State.{State}
use Rattle.cedar_expression_machine.specs.machines.Closing.{if_key}
use Rattle.cedar_expression_machine.specs.machines.ExpressionModes.{words_extent}
use Rattle.cedar_expression_machine.specs.machines.Having.{value_beginning}
use Rattle.cedar_expression_machine.proofs.expressions.Acted.{key_acted}
use Rattle.cedar_expression_machine.proofs.expressions.PlannedActs.{is_key}
use Rattle.cedar_expression_machine.proofs.expression.state.State.close_if_key.Goals as goal

pub begin_value-requires-clause-record : goal.begin_value-requires-clause-record
begin_value-requires-clause-record c = (is_key c.args.self.now c.args.token.now.kind c.requires).1

pub returns : goal.returns
returns c =
    let src = c.args.builder.source.now in
    let s = c.args.self.now in
    let i = is_key s c.args.token.now.kind c.requires in
    let h = i.1 in
    let x = c.in_ok-tree.tree in
    ap (λ (q : State). Some q) (c.begin_value.ensures h.0 h.1 h.2)
    ∙ ap (λ (e : Option Extent). Some (value_beginning h.1 h.0 x e c.token_extent.result)) c.words_extent-extent.ensures
    ∙ ap (λ (e : Extent). Some (value_beginning h.1 h.0 x (words_extent s.mode) e)) c.token_extent.ensures
    ∙ key_acted src s x (lexeme_of c.args.token.now) i.0 h
    (c.in_ok-tree.ensures ∙ ap (λ (e : Option Extent). if_key src e) c.words_extent-extent.ensures)
