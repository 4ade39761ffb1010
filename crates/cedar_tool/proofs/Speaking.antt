-- What is said on the stream of errors, from what the calls say.
use Rattle.std.proofs.Common.{◌≡◌, ℕ, List, Option, None, MatchOption, Result, Ok, Err, IfOk, OnOk, refl, ap, subst, ◌∙◌}
use Rattle.std.specs.declared.io.Error.{Error}
use Rattle.cedar_tool.specs.declared.ending.Verdict.{Verdict}
use Rattle.cedar_tool.specs.declared.ending.Verdict.TheVariants.{Accepted, Refused, Failed}
use Rattle.cedar_conversion.specs.strict.Extensions.{Extensions}
use Rattle.cedar_report.specs.declared.finding.Finding.{Finding}
use Rattle.cedar_syntax.specs.declared.err.faults.Failure.{Failure}
use Rattle.cedar_tool.specs.declared.request.Task.{Task}
use Rattle.cedar_tool.specs.declared.request.Format.{Format}
use Rattle.cedar_tool.specs.declared.request.Format.TheVariants.{Human, Plain, Json}
use Rattle.cedar_tool.specs.declared.streams.Console.{Console}
use Rattle.cedar_tool.specs.declared.streams.Output.{Output}
use Rattle.cedar_tool.specs.declared.streams.WriterState.TheVariants.{Written}
use Rattle.cedar_tool.specs.Answers.{worse}
use Rattle.cedar_tool.specs.Disks.{Files}
use Rattle.cedar_tool.specs.Layouts.{Compares, Rewrites}
use Rattle.cedar_tool.specs.Streams.{SpeaksOf, output_state}
use Rattle.cedar_tool.specs.Told.{IsToldOn, TellsRefusal}

-- what is said of no value
pub none_said : {A : Type 0} (o : Option A) (P : Type 0) (Q : A → Type 0) → o ≡ None → MatchOption o P Q → P
none_said o P Q is said = subst (λ x. MatchOption x P Q) is said

-- nothing is said of an accepted text
pub accepted : {E : Type 0} (format : Format) (old new : Output E) (r : Result Verdict Error) → IfOk r (λ v. v ≡ Accepted) → new ≡ old → IfOk r (λ v. SpeaksOf v format old new)
accepted format old new (Ok v) is same = rw is same
accepted format old new (Err e) is same = tt

-- what is told of a refused one is said, but as JSON
pub told : {O E : Type 0} (contents : O → Option (List ℕ)) (format : Format) (name : List ℕ) (findings : List Finding) (old new : Console O E) → IsToldOn contents format name findings old new → SpeaksOf Refused format old.errors new.errors
told contents Json name findings old new (same, wrote) = same
told contents Plain name findings old new (same, said) = said
told contents (Human colours) name findings old new (same, said) = said

pub told_by : {E : Type 0} (format : Format) (old new : Output E) (T : Type 0) (r : Result Verdict Error) → (T → SpeaksOf Refused format old new) → IfOk r (λ v. v ≡ Refused) → OnOk r T → IfOk r (λ v. SpeaksOf v format old new)
told_by format old new T (Ok v) speaks is t = rw is (speaks t)
told_by format old new T (Err e) speaks is t = tt

pub refused_by : {O E : Type 0} (contents : O → Option (List ℕ)) (t : Task) (format : Format) (table : Extensions) (name text : List ℕ) (failure : Failure) (old new : Console O E) (P : Type 0) (r : Result Verdict Error) → IfOk r (λ v. (v ≡ Refused) × P)
    → OnOk r (TellsRefusal contents t format table name text failure old new) → IfOk r (λ v. SpeaksOf v format old.errors new.errors)
refused_by contents t format table name text failure old new P (Ok v) is tells = rw is.0 (told contents format name tells.findings old new tells.told)
refused_by contents t format table name text failure old new P (Err e) is tells = tt

-- why a text can't be had is said
pub failed_by : {E : Type 0} (format : Format) (old new : Output E) (P : Type 0) (r : Result Verdict Error) → IfOk r (λ v. (v ≡ Failed) × P) → OnOk r (output_state new ≡ Written) → IfOk r (λ v. SpeaksOf v format old new)
failed_by format old new P (Ok v) is said = rw is.0 said
failed_by format old new P (Err e) is said = tt

-- where two texts part is told
compared : {O E : Type 0} (contents : O → Option (List ℕ)) (format : Format) (name text laid : List ℕ) (old new : Console O E) (v : Verdict) → Compares contents format name text laid old new v → SpeaksOf v format old.errors new.errors
compared contents format name text laid old new Accepted c = ap (λ o. o.errors) c.1
compared contents format name text laid old new Refused c = told contents format name c.1.0 old new c.1.2
compared contents format name text laid old new Failed c = absurd c

pub compared_by : {O E : Type 0} (contents : O → Option (List ℕ)) (format : Format) (name text laid : List ℕ) (old new : Console O E) (r : Result Verdict Error) → IfOk r (Compares contents format name text laid old new)
    → IfOk r (λ v. SpeaksOf v format old.errors new.errors)
compared_by contents format name text laid old new (Ok v) c = compared contents format name text laid old new v c
compared_by contents format name text laid old new (Err e) c = tt

-- why a file can't be written is said
rewritten : {D E : Type 0} (files : D → Option Files) (format : Format) (name text laid : List ℕ) (disk after : D) (old new : Output E) (v : Verdict) → Rewrites files name text laid disk after v → (v ≡ Accepted → new ≡ old)
    → (v ≡ Failed → output_state new ≡ Written) → SpeaksOf v format old new
rewritten files format name text laid disk after old new Accepted does quiet said = quiet refl
rewritten files format name text laid disk after old new Refused does quiet said = absurd does
rewritten files format name text laid disk after old new Failed does quiet said = said refl

pub rewritten_by : {D E : Type 0} (files : D → Option Files) (format : Format) (name text laid : List ℕ) (disk after : D) (old new : Output E) (r : Result Verdict Error) → IfOk r (Rewrites files name text laid disk after)
    → IfOk r (λ v. v ≡ Accepted → new ≡ old) → IfOk r (λ v. v ≡ Failed → output_state new ≡ Written) → IfOk r (λ v. SpeaksOf v format old new)
rewritten_by files format name text laid disk after old new (Ok v) does quiet said =
    rewritten files format name text laid disk after old new v does quiet said
rewritten_by files format name text laid disk after old new (Err e) does quiet said = tt

-- what is said of texts and of one more is said of all
pub one_more : {E : Type 0} (format : Format) (v w : Verdict) (old between new : Output E) → SpeaksOf v format old between → SpeaksOf w format between new → SpeaksOf (worse v w) format old new
one_more format Accepted w old between new same more = subst (λ o. SpeaksOf w format o new) same more
one_more Json Refused Accepted old between new same more = more ∙ same
one_more Json Refused Refused old between new same more = more ∙ same
one_more Json Refused Failed old between new same more = more
one_more Plain Refused Accepted old between new said more = ap output_state more ∙ said
one_more Plain Refused Refused old between new said more = more
one_more Plain Refused Failed old between new said more = more
one_more (Human colours) Refused Accepted old between new said more = ap output_state more ∙ said
one_more (Human colours) Refused Refused old between new said more = more
one_more (Human colours) Refused Failed old between new said more = more
one_more format Failed Accepted old between new said more = ap output_state more ∙ said
one_more Json Failed Refused old between new said more = ap output_state more ∙ said
one_more Plain Failed Refused old between new said more = more
one_more (Human colours) Failed Refused old between new said more = more
one_more format Failed Failed old between new said more = more
