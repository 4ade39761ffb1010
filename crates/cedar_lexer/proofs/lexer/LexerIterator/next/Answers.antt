-- The call's answer is the cut's, and fewer are left.
use Rattle.std.proofs.Common.{arith}
use Rattle.cedar_lexer.proofs.Steps.{steps_token, progress, fewer_behind, fewer_ended}
use Rattle.cedar_lexer.proofs.lexer.LexerIterator.next.Goals as goal

pub returns-in-Some-clause-steps : goal.returns-in-Some-clause-steps
returns-in-Some-clause-steps c =
    steps_token c.self.inside.text.now c.self.inside.offset c.skips_end-start.result c.self.inside.ended c.args.self.now c.in-Some.token c.self.view_is c.if-self.false
    c.skips_end-start.ensures.laid c.in-Some.ensures.token

pub returns-in-Some-clause-goes : goal.returns-in-Some-clause-goes
returns-in-Some-clause-goes c =
    progress _ _ _ _ tt (fewer_behind c.self.inside.text.now c.self.inside.offset c.in-Some.token.end c.self.inside.ended c.args.self.now c.self.view_is c.if-self.false
    (omega (arith, c.skips_end-start.ensures.onward, c.in-Some.ensures.bounds.0)) c.in-Some.ensures.bounds.1.0)

pub returns-in-None-clause-goes : goal.returns-in-None-clause-goes
returns-in-None-clause-goes c =
    progress _ _ _ _ tt (fewer_ended c.self.inside.text.now c.self.inside.offset c.self.inside.ended c.args.self.now c.self.view_is c.if-self.false
    (omega (arith, c.skips_end-start.ensures.onward, c.skips_end-start.ensures.boundary.0, c.if-start-text.false)))
