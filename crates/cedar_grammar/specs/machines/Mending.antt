-- Runs of the parser that recovers, by what its states allow, and the faults that they tell of a
-- text.
use Rattle.std.specs.Prelude.{◌≡◌, ℕ, Bool, cond, List, [], ◌∷◌, ◌++◌, Option, Some, None}
use Rattle.cedar_lexer.specs.Token.{Lexeme}
use Rattle.cedar_lexer.specs.LexerState.{IsCutOrStop}
use Rattle.cedar_lexer.specs.declared.token.TokenKind.{TokenKind}
use Rattle.cedar_syntax.specs.faults.NonEmpty.{list_of}
use Rattle.cedar_syntax.specs.faults.ParseErrors.{faults_of}
use Rattle.cedar_syntax.specs.declared.err.faults.Failure.{Failure}
use Rattle.cedar_syntax.specs.declared.err.faults.Failure.TheVariants.{Memory, Errors}
use Rattle.cedar_syntax.specs.declared.err.faults.ParseError.{ParseError}
use Rattle.cedar_syntax.specs.declared.err.to_cst.RawFault.{RawFault}
use Rattle.cedar_syntax.specs.declared.err.to_cst.RawFault.TheVariants as fault
use Rattle.cedar_grammar.specs.declared.reading.expected.ClosersOnly.TheVariants as narrowing
use Rattle.cedar_grammar.specs.declared.reading.mending.Phase.{Phase}
use Rattle.cedar_grammar.specs.declared.reading.mending.Phase.TheVariants as phase
use Rattle.cedar_grammar.specs.declared.reading.mending.Refusal.{Refusal}
use Rattle.cedar_grammar.specs.declared.reading.mending.Refusal.TheVariants as refusal
use Rattle.cedar_grammar.specs.declared.reading.mending.Run.{Run}
use Rattle.cedar_grammar.specs.declared.reading.recovery.RecoveryWay.{RecoveryWay}
use Rattle.cedar_grammar.specs.faults.FirstFault.{unexpected_fault, early_at, large_at}
use Rattle.cedar_grammar.specs.faults.MendedFaults.{fault_of, faults_with_last}
use Rattle.cedar_grammar.specs.machines.Machine.{Machine, Answer, next, ended, refused, too_large}
use Rattle.cedar_grammar.specs.machines.Judged.{wanted_kinds}
use Rattle.cedar_grammar.specs.machines.Marks.{mark_of}
use Rattle.cedar_grammar.specs.machines.Recovery.{Recovers, Recovery, reading, skipping, stopped}
use Rattle.cedar_grammar.specs.machines.Skipping.{skip, behind_skip}

-- `o` says what is told of a fault of a text

abbrev pub bad_fault : {F : Type 0} → (List ℕ → RawFault → F) → List ℕ → ℕ → F
bad_fault o src place = o src (fault.InvalidToken place)

-- a bad place gives up the fault in hand
abbrev pub bad_or : {F : Type 0} → (List ℕ → RawFault → F) → List ℕ → Option ℕ → F → F
bad_or o src None x = x
bad_or o src (Some place) x = bad_fault o src place

-- the fault of a token, or of the end behind a last token that ends there, in a state that allows
-- these kinds
abbrev pub refused_fault : {F : Type 0} → (List ℕ → RawFault → F) → (Option TokenKind → Bool) →
    List ℕ → ℕ → Option Lexeme → F
refused_fault o p src l (Some t) =
    o src (unexpected_fault t (wanted_kinds p narrowing.Tokens (Some t.kind)))
refused_fault o p src l None = o src (early_at l (wanted_kinds p narrowing.Tokens None))

-- `p` says what a state allows, `w` how a fault is left in it, and `c` and `e` what a `}` and a
-- `;` make of it that end skipping
abbrev pub recovers_of : {S F : Type 0} → (S → Option TokenKind → Bool) → (S → RecoveryWay) →
    (S → S) →
    (S → S) → (List ℕ → RawFault → F) → List ℕ → Recovers S F
recovers_of p w c e o src = record {
  way = w;
  close = c;
  end = e;
  tell = λ s l t. refused_fault o (p s) src l t;
  large = λ t. o src (large_at src t);
}

-- what is being done
abbrev pub stage : {S F : Type 0} → Phase F → List F → ℕ → S → Recovery S F
stage phase.Reading xs l s = reading xs l s
stage (phase.Skipping w) xs l s = skipping xs w.way s w.fault
stage (phase.Stopped x) xs l s = stopped xs x

abbrev pub stage_of : {S F : Type 0} → Run S F → Recovery S F
stage_of r = stage r.phase r.mended r.end r.state

-- ---- the parser that recovers, by what its states allow

-- a token that is allowed is taken, or is a number that doesn't fit
abbrev pub taken_stage : {S T F : Type 0} → Recovers S F → List F → Lexeme → Answer S T →
    Recovery S F
taken_stage r xs t (next q) = reading xs t.end q
taken_stage r xs t (ended x) = stopped xs (r.large t)
taken_stage r xs t refused = stopped xs (r.large t)
taken_stage r xs t too_large = stopped xs (r.large t)

abbrev pub skip_step_by : {S F : Type 0} → (S → S) → (S → S) → List F → RecoveryWay → S → F →
    Lexeme →
    Recovery S F
skip_step_by c e xs w s x t = behind_skip xs w x t (skip c e w s (mark_of t.kind))

abbrev pub judgment_by : {S T F : Type 0} → Bool → Recovers S F → List F → ℕ → S → Lexeme →
    Answer S T → Recovery S F
judgment_by b r xs l s t a = cond b (taken_stage r xs t a)
    (skip_step_by r.close r.end xs (r.way s) s (r.tell s l (Some t)) t)

abbrev pub recovery_step_by : {S T F : Type 0} → Machine Lexeme S T
    → (S → Option TokenKind → Bool) → Recovers S F → Recovery S F → Lexeme → Recovery S F
recovery_step_by m p r (reading xs l s) t = judgment_by (p s (Some t.kind)) r xs l s t (m.step s t)
recovery_step_by m p r (skipping xs w s x) t = skip_step_by r.close r.end xs w s x t
recovery_step_by m p r (stopped xs x) t = stopped xs x

abbrev pub recovery_of_all_by : {S T F : Type 0} → Machine Lexeme S T
    → (S → Option TokenKind → Bool) → Recovers S F → Recovery S F → List Lexeme → Recovery S F
recovery_of_all_by m p r q [] = q
recovery_of_all_by m p r q (t ∷ ts) = recovery_of_all_by m p r (recovery_step_by m p r q t) ts

-- the faults that are mended
abbrev pub mended_faults : {S F : Type 0} → Recovery S F → List F
mended_faults (reading xs l s) = xs
mended_faults (skipping xs w s x) = xs
mended_faults (stopped xs x) = xs

-- the one at which the parse stops, at the end or at a bad place, where the fault in hand is given
-- up
abbrev pub last_of : {S F : Type 0} → (S → Option TokenKind → Bool) → Recovers S F → (ℕ → F) →
    Recovery S F → Option ℕ → Option F
last_of p r b (reading xs l s) None = cond (p s None) None (Some (r.tell s l None))
last_of p r b (reading xs l s) (Some place) = Some (b place)
last_of p r b (skipping xs w s x) None = Some x
last_of p r b (skipping xs w s x) (Some place) = Some (b place)
last_of p r b (stopped xs x) o = Some x

-- and the one list of both
abbrev pub met_faults : {S F : Type 0} → (S → Option TokenKind → Bool) → Recovers S F → (ℕ → F) →
    Recovery S F → Option ℕ → List F
met_faults p r b q o = faults_with_last (last_of p r b q o) (mended_faults q)

-- ---- a text

-- all faults of a text
pub record AreAllFaults {S T F : Type 0} (m : Machine Lexeme S T) (p : S → Option TokenKind → Bool)
    (r : Recovers S F) (b : ℕ → F) (text : List ℕ) (xs : List F) : Type 0 where
  pub tokens : List Lexeme
  pub bad : Option ℕ
  pub cut : IsCutOrStop text 0 tokens bad
  pub is : xs ≡ met_faults p r b (recovery_of_all_by m p r (reading [] 0 m.start) tokens) bad

-- these faults, or want of memory
abbrev pub RefusesWith : {F : Type 0} → List F → Refusal F → Type 0
RefusesWith xs (refusal.Memory e) = Unit {0}
RefusesWith xs (refusal.Faults faults) = list_of faults ≡ xs

abbrev pub IsToldBy : {S T F : Type 0} → Machine Lexeme S T → (S → Option TokenKind → Bool) →
    Recovers S F → (ℕ → F) → List ℕ → Refusal F → Type 0
IsToldBy m p r b text (refusal.Memory e) = Unit {0}
IsToldBy m p r b text (refusal.Faults faults) = AreAllFaults m p r b text (list_of faults)

abbrev pub IsTold : {S T : Type 0} → Machine Lexeme S T → (S → Option TokenKind → Bool) →
    Recovers S ParseError → List ℕ → Failure → Type 0
IsTold m p r text (Memory e) = Unit {0}
IsTold m p r text (Errors errors) =
    AreAllFaults m p r (bad_fault fault_of text) text (faults_of errors)

-- ---- what a token makes of a run that is skipping

-- a fault is in hand, which is told behind the first token that ends skipping
abbrev pub IsSkipping : {F : Type 0} → Phase F → Type 0
IsSkipping (phase.Skipping w) = Unit {0}
IsSkipping phase.Reading = ⊥
IsSkipping (phase.Stopped x) = ⊥

-- and it is left by this way
abbrev pub IsSkippingBy : {F : Type 0} → RecoveryWay → Phase F → Type 0
IsSkippingBy way (phase.Skipping w) = w.way ≡ way
IsSkippingBy way phase.Reading = ⊥
IsSkippingBy way (phase.Stopped x) = ⊥

-- where skipping is over, reading goes on behind this place, and the fault in hand is mended
abbrev pub mended_phase : {S F : Type 0} → Phase F → List F → ℕ → S → Recovery S F
mended_phase (phase.Skipping w) xs l s = reading (xs ++ w.fault ∷ []) l s
mended_phase phase.Reading xs l s = reading xs l s
mended_phase (phase.Stopped x) xs l s = stopped xs x

abbrev pub mended_stage : {S F : Type 0} → Run S F → ℕ → Recovery S F
mended_stage r l = mended_phase r.phase r.mended l r.state

-- where skipping stops, the fault in hand is the last
abbrev pub stopped_phase : {S F : Type 0} → Phase F → List F → ℕ → S → Recovery S F
stopped_phase (phase.Skipping w) xs l s = stopped xs w.fault
stopped_phase phase.Reading xs l s = reading xs l s
stopped_phase (phase.Stopped x) xs l s = stopped xs x

abbrev pub stopped_stage : {S F : Type 0} → Run S F → Recovery S F
stopped_stage r = stopped_phase r.phase r.mended r.end r.state
