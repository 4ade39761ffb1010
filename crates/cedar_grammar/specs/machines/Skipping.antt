-- What is done behind a fault with one token that is skipped.
use Rattle.std.specs.Prelude.{List, [], ◌∷◌, ◌++◌}
use Rattle.cedar_lexer.specs.Token.{Lexeme}
use Rattle.cedar_grammar.specs.declared.reading.mark.Mark.{Mark}
use Rattle.cedar_grammar.specs.declared.reading.mark.Mark.TheVariants as mark
use Rattle.cedar_grammar.specs.declared.reading.recovery.RecoveryWay.{RecoveryWay}
use Rattle.cedar_grammar.specs.declared.reading.recovery.RecoveryWay.TheVariants as way
use Rattle.cedar_grammar.specs.declared.reading.recovery.Skipping.{Skipping}
use Rattle.cedar_grammar.specs.declared.reading.recovery.Skipping.TheVariants as skipping
use Rattle.cedar_grammar.specs.machines.Recovery as recovery
use Rattle.cedar_grammar.specs.machines.Recovery.{Recovery}

-- more is skipped, from the state that the fault left; reading goes on in this state; or the parse
-- stops
pub data Skipped (S : Type 0) : Type 0 where
  on : S → Skipped S
  over : S → Skipped S
  stop : Skipped S

-- `c` closes the condition's braces, `e` ends the policy
abbrev pub skip : {S : Type 0} → (S → S) → (S → S) → RecoveryWay → S → Mark → Skipped S
skip c e way.ToBrace s mark.CloseBrace = over (c s)
skip c e way.ToBrace s mark.Semicolon = over (e s)
skip c e way.ToBrace s _ = on s
skip c e way.ToEnd s mark.Semicolon = over (e s)
skip c e way.ToEnd s _ = on s
skip c e way.Stop s k = stop

-- what a skipping step that left this state answered
abbrev pub skip_answer : {S : Type 0} → Skipping → S → Skipped S
skip_answer skipping.On s = on s
skip_answer skipping.Over s = over s
skip_answer skipping.Stop s = stop

-- what the parser that recovers is then at, with the faults so far and the one in hand
abbrev pub behind_skip : {S F : Type 0} → List F → RecoveryWay → F → Lexeme → Skipped S
    → Recovery S F
behind_skip xs w x t (on s) = recovery.skipping xs w s x
behind_skip xs w x t (over s) = recovery.reading (xs ++ x ∷ []) t.end s
behind_skip xs w x t stop = recovery.stopped xs x
