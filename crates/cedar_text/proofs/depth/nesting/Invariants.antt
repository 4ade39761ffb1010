use Rattle.cedar_text.proofs.Counting.{Counted}
use Rattle.cedar_text.proofs.depth.nesting.Given as goal

-- the tokens before the lexer's place are counted
abbrev pub invariant-loop-answer : goal.invariant-loop-answer
invariant-loop-answer l = Counted l.text l.answer-iterator l.depth l.deepest
