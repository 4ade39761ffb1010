-- What is said of a refusal that is handed on.
use Rattle.std.proofs.Common.{◌≡◌, Result, Ok, Err, sym, subst, IfErr}
use Rattle.std.specs.Result.{IsErrAnd}
use Rattle.cedar_writer.specs.declared.refusal.NotWritten.{NotWritten}

pub handed_on : {T : Type 0} (r : Result T NotWritten) (f : NotWritten) (P : Result T NotWritten → Type 0) → IsErrAnd r (λ e. e ≡ f) → P (Err f) → P r
handed_on (Ok x) f P is p = absurd is
handed_on (Err e) f P is p = subst (λ x. P (Err x)) (sym is) p

pub err_on : {T : Type 0} (r : Result T NotWritten) (f : NotWritten) (Q : NotWritten → Type 0) → IsErrAnd r (λ e. e ≡ f) → Q f → IfErr r Q
err_on (Ok x) f Q is q = tt
err_on (Err e) f Q is q = subst Q (sym is) q
