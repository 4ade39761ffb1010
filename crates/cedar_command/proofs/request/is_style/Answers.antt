use Rattle.std.proofs.Common.{codes, sym, ◌∙◌, true≢false}
use Rattle.cedar_command.proofs.Naming.{stripped, style_of_function, function_style, style_of_method, method_style, no_style}
use Rattle.cedar_command.proofs.request.is_style.Goals as goal

pub returns-in-Some : goal.returns-in-Some
returns-in-Some c =
    let word = c.args.word.now in
    let is = stripped (codes "fn:") word c.in-Some.name.now c.in-Some.ensures.cases in
    (λ t. style_of_function word c.in-Some.name.now is (c.is_name.ensures.0 t), λ s. c.is_name.ensures.1 (function_style word c.in-Some.name.now is s))

pub returns-in-Some-strip_prefix : goal.returns-in-Some-strip_prefix
returns-in-Some-strip_prefix c =
    let word = c.args.word.now in
    let id = c.in-Some-strip_prefix.id.now in
    let is = stripped (codes "method:") word id c.in-Some-strip_prefix.ensures.cases in
    (λ t. style_of_method word id is (sym c.is_spelled.ensures ∙ t), λ s. c.is_spelled.ensures ∙ method_style word id c.in-None.ensures.cases is s)

pub returns-in-None-strip_prefix : goal.returns-in-None-strip_prefix
returns-in-None-strip_prefix c =
    (λ f. absurd (true≢false (sym f)), λ s. absurd (no_style c.args.word.now c.in-None.ensures.cases c.in-None-strip_prefix.ensures.cases s))
