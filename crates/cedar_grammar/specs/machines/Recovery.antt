-- A machine that goes on behind a fault, over any machine that reads: it skips to the `}` or `;`
-- that ends what is faulty, closes the braces or ends the policy that is begun, and reads on from
-- that state. The rule that it follows is that of `Mended`.
use Rattle.std.specs.Prelude.{ℕ, List, [], ◌∷◌, ◌++◌, Option, Some, None}
use Rattle.cedar_lexer.specs.Token.{Lexeme}
use Rattle.cedar_grammar.specs.declared.reading.mark.Mark.{Mark}
use Rattle.cedar_grammar.specs.declared.reading.mark.Mark.TheVariants as mark
use Rattle.cedar_grammar.specs.declared.reading.recovery.RecoveryWay.{RecoveryWay}
use Rattle.cedar_grammar.specs.declared.reading.recovery.RecoveryWay.TheVariants as way
use Rattle.cedar_grammar.specs.machines.Machine.{Machine, Answer, next, ended, refused, too_large}
use Rattle.cedar_grammar.specs.machines.Marks.{mark_of}

-- what a state does with a fault
pub record Recovers (S F : Type 0) : Type 0 where
  -- how it is left
  pub way : S → RecoveryWay
  -- the state with its condition's braces closed, and with its policy ended
  pub close : S → S
  pub end : S → S
  -- the fault of a token, or of the end behind a last token that ends there
  pub tell : S → ℕ → Option Lexeme → F
  pub large : Lexeme → F

-- the faults so far, and what is done: tokens are read, the last of which ends there; tokens are
-- skipped, with the fault in hand that is told once they are; nothing is done any more
pub data Recovery (S F : Type 0) : Type 0 where
  reading : List F → ℕ → S → Recovery S F
  skipping : List F → RecoveryWay → S → F → Recovery S F
  stopped : List F → F → Recovery S F

abbrev pub skip_step : {S F : Type 0} → Recovers S F → List F → RecoveryWay → S → F → Lexeme →
    Mark →
    Recovery S F
skip_step r xs way.ToBrace s x t mark.CloseBrace = reading (xs ++ x ∷ []) t.end (r.close s)
skip_step r xs way.ToBrace s x t mark.Semicolon = reading (xs ++ x ∷ []) t.end (r.end s)
skip_step r xs way.ToBrace s x t _ = skipping xs way.ToBrace s x
skip_step r xs way.ToEnd s x t mark.Semicolon = reading (xs ++ x ∷ []) t.end (r.end s)
skip_step r xs way.ToEnd s x t _ = skipping xs way.ToEnd s x
skip_step r xs way.Stop s x t c = stopped xs x

abbrev pub judgment : {S T F : Type 0} → Recovers S F → List F → ℕ → S → Lexeme → Answer S T →
    Recovery S F
judgment r xs l s t (next q) = reading xs t.end q
judgment r xs l s t (ended x) = skip_step r xs (r.way s) s (r.tell s l (Some t)) t (mark_of t.kind)
judgment r xs l s t refused = skip_step r xs (r.way s) s (r.tell s l (Some t)) t (mark_of t.kind)
judgment r xs l s t too_large = stopped xs (r.large t)

abbrev pub recovery_step : {S T F : Type 0} → Machine Lexeme S T → Recovers S F → Recovery S F
    → Lexeme → Recovery S F
recovery_step m r (reading xs l s) t = judgment r xs l s t (m.step s t)
recovery_step m r (skipping xs w s x) t = skip_step r xs w s x t (mark_of t.kind)
recovery_step m r (stopped xs x) t = stopped xs x

abbrev pub recovery_of_all : {S T F : Type 0} → Machine Lexeme S T → Recovers S F → Recovery S F →
    List Lexeme → Recovery S F
recovery_of_all m r q [] = q
recovery_of_all m r q (t ∷ ts) = recovery_of_all m r (recovery_step m r q t) ts

-- the faults that are mended, and the one at which the parse stops
pub record RunFaults (F : Type 0) : Type 0 where
  pub mended : List F
  pub last : Option F

abbrev pub run_faults : {F : Type 0} → List F → Option F → RunFaults F
run_faults xs y = record { mended = xs; last = y }

abbrev pub told_reading : {T F : Type 0} → List F → F → Option T → RunFaults F
told_reading xs x None = run_faults xs (Some x)
told_reading xs x (Some y) = run_faults xs None

-- at the end
abbrev pub told_end : {S T F : Type 0} → Machine Lexeme S T → Recovers S F → Recovery S F
    → RunFaults F
told_end m r (reading xs l s) = told_reading xs (r.tell s l None) (m.finish s)
told_end m r (skipping xs w s x) = run_faults xs (Some x)
told_end m r (stopped xs x) = run_faults xs (Some x)

-- at a bad place: the fault in hand is given up
abbrev pub told_bad : {S F : Type 0} → Recovery S F → F → RunFaults F
told_bad (reading xs l s) bad = run_faults xs (Some bad)
told_bad (skipping xs w s x) bad = run_faults xs (Some bad)
told_bad (stopped xs x) bad = run_faults xs (Some x)

abbrev pub told_all : {S T F : Type 0} → Machine Lexeme S T → Recovers S F → Recovery S F →
    List Lexeme → RunFaults F
told_all m r q ts = told_end m r (recovery_of_all m r q ts)
