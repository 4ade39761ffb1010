use Rattle.std.proofs.Common.{Some, None, sym, ◌∙◌, ap, subst}
use Rattle.std.specs.Str.{IsUtf8}
use Rattle.cedar_lexer.specs.LexerState.{fresh_lexer}
use Rattle.cedar_grammar.proofs.machines.Driving.{given}
use Rattle.cedar_grammar.proofs.machines.Mending.{begun_stage, at_start, token_written, one_more, concluded}
use Rattle.cedar_grammar.proofs.reading.mending.read.Goals as goal

pub loop-token-init : goal.loop-token-init
loop-token-init g c =
    at_start _ _ _ _ _ _ (subst (λ t. IsUtf8 t) (sym c.requires) c.utf8.text)
    (begun_stage _ _ c.begin-run.ensures.rest.2 c.begin-run.ensures.rest.1 c.begin-run.ensures.rest.0 c.begin-run.ensures.state)
    (c.new-lexer.ensures ∙ ap (λ t. fresh_lexer t) (sym c.requires))

pub step-requires : goal.step-requires
step-requires g c = token_written c.in-Some-Ok.token c.loop-token.invariant (given _ _ _ _ c.next.ensures.steps (c.in-Some-Ok.is ∙ ap Some (rw c.in-Some-Ok.is at c.in-Some-Ok.field-0-is)))

pub loop-token-preserved : goal.loop-token-preserved
loop-token-preserved g c = one_more c.in-Some-Ok.token c.loop-token.invariant (given _ _ _ _ c.next.ensures.steps (c.in-Some-Ok.is ∙ ap Some (rw c.in-Some-Ok.is at c.in-Some-Ok.field-0-is))) c.in_ok-step-in-Some-Ok.ensures

pub returns-in-Some-Err : goal.returns-in-Some-Err
returns-in-Some-Err g c =
    concluded _ _ _ _ _ (Some c.in-Some-Err.bad.location) _ c.loop-token.invariant (given _ _ _ _ c.next.ensures.steps (c.in-Some-Err.is ∙ ap Some (rw c.in-Some-Err.is at c.in-Some-Err.field-0-is)))
    c.conclude.ensures.tree c.conclude.ensures.faults

pub returns-in-None : goal.returns-in-None
returns-in-None g c =
    concluded _ _ _ _ _ None _ c.loop-token.invariant (given _ _ _ _ c.next.ensures.steps c.in-None.is)
    c.conclude-in-None.ensures.tree c.conclude-in-None.ensures.faults
