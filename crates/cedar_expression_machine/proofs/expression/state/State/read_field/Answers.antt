use Rattle.std.proofs.Common.{◌≡◌, ap, ◌∙◌, Some, inl, inr}
use Rattle.cedar_lexer.specs.Token.{lexeme_of}
use Rattle.cedar_grammar.specs.declared.reading.extent.Extent.{Extent}
use Rattle.cedar_grammar.specs.grammar.Place.{joint_extent}
use Rattle.cedar_expression_machine.proofs.expressions.Acted.{field_read}
use Rattle.cedar_expression_machine.proofs.expressions.PlannedActs.{is_field}
use Rattle.cedar_expression_machine.proofs.expression.state.State.read_field.Goals as goal

pub unreachable-requires : goal.unreachable-requires
unreachable-requires c =
    let i = is_field c.args.self.now c.args.token.now.kind c.requires in
    elim c.in-Want.is [ inl w ↦ cc | inr w ↦ cc ]

pub returns : goal.returns
returns c =
    let s = c.args.self.now in
    let i = is_field s c.args.token.now.kind c.requires in
    let d : c.in-Have.dot ≡ Some i.1 = cc in
    field_read c.args.builder.source.now s.stack s.levels s.mode c.in-Have.operand c.push.new.self i.1 c.in-Have.dot c.join_extents-extent.result (lexeme_of c.args.token.now) i.2 c.in_ok-field-in-Have.field
    c.in-Have.is d i.4
    (c.join_extents-extent.ensures ∙ ap (λ (x : Extent). joint_extent c.in-Have.dot (Some x)) c.token_extent.ensures)
    c.in_ok-field-in-Have.ensures c.in_ok-push-in-Have.ensures
