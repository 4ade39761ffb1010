use Rattle.std.proofs.Common.{◌≡◌, None, arith}
use Rattle.std.proofs.lemmas.Str.Pattern.{strip_prefix_char, split_parts}
use Rattle.cedar_command.proofs.Spelled.{uncut_without, uncut_at, cut_at}
use Rattle.cedar_command.proofs.request.first_part.Goals as goal

pub returns-in_err-part : goal.returns-in_err-part
returns-in_err-part c =
    let none = rw c.in_err-part.was at (split_parts 58 c.args.text.now c.split_once.result c.split_once.ensures.cases (omega arith)) in
    let gone : c.from_residual.result ≡ None = grind arith in
    rw gone (uncut_without c.args.text.now none)

pub returns-in_err-strip_prefix : goal.returns-in_err-strip_prefix
returns-in_err-strip_prefix c =
    let cut = rw c.in_ok-part.was at (split_parts 58 c.args.text.now c.split_once.result c.split_once.ensures.cases (omega arith)) in
    let other = rw c.in_err-strip_prefix.was at (strip_prefix_char 58 c.in_ok-part.behind.now c.strip_prefix.result c.strip_prefix.ensures.cases (omega arith)) in
    let gone : c.from_residual-in_err-strip_prefix.result ≡ None = grind arith in
    rw gone (uncut_at c.args.text.now c.in_ok-part.part.now c.in_ok-part.behind.now cut.0 cut.1 other)

pub returns : goal.returns
returns c =
    let cut = rw c.in_ok-part.was at (split_parts 58 c.args.text.now c.split_once.result c.split_once.ensures.cases (omega arith)) in
    let next = rw c.in_ok-strip_prefix.was at (strip_prefix_char 58 c.in_ok-part.behind.now c.strip_prefix.result c.strip_prefix.ensures.cases (omega arith)) in
    cut_at c.args.text.now c.in_ok-part.part.now c.in_ok-part.behind.now c.in_ok-strip_prefix.field-0.now cut.0 cut.1 next
