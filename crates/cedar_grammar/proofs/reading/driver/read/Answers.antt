use Rattle.std.proofs.Common.{Some, sym, ◌∙◌, ap, subst}
use Rattle.std.specs.Str.{IsUtf8}
use Rattle.cedar_lexer.specs.LexerState.{fresh_lexer}
use Rattle.cedar_lexer.specs.Token.{lexeme_of}
use Rattle.cedar_grammar.proofs.machines.Driving.{at_start, given, token_written, takes, stops_at_token, stops_at_number, stops_badly, one_more, concluded}
use Rattle.cedar_grammar.proofs.reading.driver.read.Goals as goal

pub loop-token-init : goal.loop-token-init
loop-token-init g c =
    at_start _ _ _ _ (subst (λ t. IsUtf8 t) (sym c.requires) c.utf8.text) c.start-state.ensures
    (c.new-lexer.ensures ∙ ap (λ t. fresh_lexer t) (sym c.requires))

pub returns-in_default : goal.returns-in_default
returns-in_default g c = stops_at_token _ _ c.in-Some-Ok.token c.refuse.result c.loop-token.invariant (given _ _ _ _ c.next.ensures.steps (c.in-Some-Ok.is ∙ ap Some (rw c.in-Some-Ok.is at c.in-Some-Ok.field-0-is))) c.refuse.ensures

pub act-requires-clause-written : goal.act-requires-clause-written
act-requires-clause-written g c = token_written c.in-Some-Ok.token c.loop-token.invariant (given _ _ _ _ c.next.ensures.steps (c.in-Some-Ok.is ∙ ap Some (rw c.in-Some-Ok.is at c.in-Some-Ok.field-0-is)))

pub returns-in-TooLarge : goal.returns-in-TooLarge
returns-in-TooLarge g c =
    stops_at_token _ _ c.in-Some-Ok.token c.refuse_number.result c.loop-token.invariant (given _ _ _ _ c.next.ensures.steps (c.in-Some-Ok.is ∙ ap Some (rw c.in-Some-Ok.is at c.in-Some-Ok.field-0-is)))
    (stops_at_number g.E.PushParser.reader _ c.args.source.now c.loop-token.state _ c.in-Some.act (lexeme_of c.in-Some-Ok.token) c.in_ok-act-in-Some-Ok.field-0 _ (sym c.plan.ensures ∙ c.in-Some.is) c.in_ok-act-in-Some-Ok.ensures c.in-TooLarge.is c.refuse_number.ensures)

pub loop-token-preserved : goal.loop-token-preserved
loop-token-preserved g c =
    one_more c.in-Some-Ok.token c.loop-token.invariant (given _ _ _ _ c.next.ensures.steps (c.in-Some-Ok.is ∙ ap Some (rw c.in-Some-Ok.is at c.in-Some-Ok.field-0-is)))
    (takes g.E.PushParser.reader c.args.source.now c.loop-token.state _ c.in-Some.act (lexeme_of c.in-Some-Ok.token) c.in_ok-act-in-Some-Ok.field-0 (sym c.plan.ensures ∙ c.in-Some.is) c.in_ok-act-in-Some-Ok.ensures c.in-Done.is)

pub returns-in-Some-Err : goal.returns-in-Some-Err
returns-in-Some-Err g c = stops_badly _ _ c.in-Some-Err.bad c.failure.result c.loop-token.invariant (given _ _ _ _ c.next.ensures.steps (c.in-Some-Err.is ∙ ap Some (rw c.in-Some-Err.is at c.in-Some-Err.field-0-is))) c.failure.ensures

pub returns-in-None : goal.returns-in-None
returns-in-None g c = concluded _ _ _ _ c.loop-token.invariant (given _ _ _ _ c.next.ensures.steps c.in-None.is) c.conclude.ensures
