use Rattle.std.proofs.Common.{inr, refl, sym, true≢false}
use Rattle.cedar_command.proofs.Endings.{no_text}
use Rattle.cedar_command.proofs.streams.Input.text.Goals as goal

pub returns-in-Err-from_utf8-clause-err : goal.returns-in-Err-from_utf8-clause-err
returns-in-Err-from_utf8-clause-err g c =
    let byte = c.valid_up_to.ensures in
    let cause = c.utf8_error.ensures in
    let valid = c.in-Err-from_utf8.ensures.valid_len in
    inr (c.valid_up_to.result, refl, no_text _ c.new-bytes.result.items c.read_to_end.new.buf.items c.valid_up_to.result c.new-bytes.ensures.items c.in_default-read_to_end.ensures.bytes (λ u. true≢false (sym (c.in-Err-from_utf8.ensures.succeeds u))) (cc))
