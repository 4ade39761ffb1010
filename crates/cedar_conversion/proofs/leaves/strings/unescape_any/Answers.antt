use Rattle.std.proofs.Common.{sym, ap, ◌∙◌, Ok, Err}
use Rattle.std.specs.String.{string_bytes}
use Rattle.cedar_conversion.proofs.Quoted.{text_expected, faults_expected}
use Rattle.cedar_conversion.proofs.Outcomes.{kept_refusal}
use Rattle.cedar_conversion.proofs.leaves.strings.unescape_any.Goals as goal

pub returns-in_ok-from_string-in-Ok : goal.returns-in_ok-from_string-in-Ok
returns-in_ok-from_string-in-Ok c = text_expected c.args.loc.now c.args.raw.now (string_bytes c.in-Ok.text) (rw c.as_str.ensures at c.in-Ok.ensures.unescaped) ∙ ap Ok (sym c.in_ok-from_string-in-Ok.ensures)

pub returns-in_ok-escape_faults-in-Err-Errors : goal.returns-in_ok-escape_faults-in-Err-Errors
returns-in_ok-escape_faults-in-Err-Errors c =
    kept_refusal c.of_errors.result _ _ c.of_errors.ensures
    (faults_expected c.args.loc.now c.args.raw.now c.in-Err-Errors.faults (rw (c.in-Err-Errors.field-0-is, c.as_str.ensures) at c.in-Err-Errors.ensures.told) ∙ ap Err (sym c.in_ok-escape_faults-in-Err-Errors.ensures))
