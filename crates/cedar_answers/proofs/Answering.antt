-- What is told of a text, from what a reading of it gave.
use Rattle.std.proofs.Common.{◌≡◌, ℕ, List, [], Result, Ok, Err, IfOk, IfErr, sym, subst}
use Rattle.std.specs.Str.{IsUtf8}
use Rattle.cedar_syntax.specs.declared.err.faults.Failure.{Failure}
use Rattle.cedar_syntax.specs.declared.err.faults.Failure.TheVariants.{Errors}
use Rattle.cedar_syntax.specs.declared.err.faults.ParseErrors.{ParseErrors}
use Rattle.cedar_syntax.specs.faults.ParseErrors.{IsMemory, faults_of}
use Rattle.cedar_answers.specs.Answers.{AnswersHost, TellsFailure, TellsNothing, TellsText}
use Rattle.cedar_answers.specs.Faults.{AreFaultsTold}
use Rattle.cedar_answers.specs.declared.answer.CedarAnswer.{CedarAnswer}
use Rattle.cedar_answers.specs.declared.answer.CedarFault.{CedarFault}

-- a failure's faults, where the text isn't what was asked for; else there was no memory
pub told_failure : {Meant : Type 0} {Tells : CedarAnswer → Type 0} (Refuses : Failure → List ℕ → Type 0) (text : List ℕ) (failure : Failure) (answer : CedarAnswer) → IsUtf8 text → (Meant → IsMemory failure) → Refuses failure text
    → TellsFailure text failure answer → AnswersHost Meant Tells Refuses text answer
told_failure Refuses text failure answer utf8 only refuses (TellsFailure.faults errors is status told policies written) =
    AnswersHost.refused status (λ meant. subst IsMemory is (only meant))
    (record { errors = errors; refused = subst (λ f. Refuses f text) is refuses; faults = told; policies = policies; written = written })
told_failure Refuses text failure answer utf8 only refuses (TellsFailure.memory status nothing) = AnswersHost.no_memory status utf8 nothing

-- a text that was made of the text
pub told_text : {Meant : Type 0} {Refuses : Failure → List ℕ → Type 0} (Is : List ℕ → Type 0) (text made : List ℕ) (answer : CedarAnswer) → answer.status ≡ 0 → Meant → Is made → TellsText (λ told. told ≡ made) answer
    → AnswersHost Meant (TellsText Is) Refuses text answer
told_text Is text made answer status meant is told =
    AnswersHost.accepted status meant (record { written = subst Is (sym told.written) is; policies = told.policies; faults = told.faults })

-- faults that were handed out, or that there was no memory for them
pub told_or_memory : {T E : Type 0} (text : List ℕ) (failure : Failure) (errors : ParseErrors) (r : Result T E) (now : T → List CedarFault) (answer : CedarAnswer) → failure ≡ Errors errors → IfOk r (λ told. AreFaultsTold text (faults_of errors) (now told))
    → IfOk r (λ told. (answer.status ≡ 1) × (answer.faults.now ≡ now told) × (answer.policies.now ≡ []) × (answer.text.now ≡ [])) → IfErr r (λ error. (answer.status ≡ 3) × TellsNothing answer) → TellsFailure text failure answer
told_or_memory text failure errors (Ok told) now answer is faults ok err = TellsFailure.faults errors is ok.0 (subst (AreFaultsTold text (faults_of errors)) (sym ok.1) faults) ok.2 ok.3
told_or_memory text failure errors (Err error) now answer is faults ok err = TellsFailure.memory err.0 err.1
