use Rattle.cedar_syntax.specs.messages.Kept.{rules_of}
use Rattle.cedar_syntax.proofs.KeptLemmas.{texts, order_of, forms_of, says_nothing, says_text, no_names}
use Rattle.cedar_syntax.proofs.err.expected.expected_to_string.Goals as goal

pub returns-in_default : goal.returns-in_default
returns-in_default c =
    let rules = rules_of c.args.config.now in
    let o = order_of rules (texts c.args.expected.now) _ _ c.in_ok-names.names.items c.as_slice.ensures.value c.in_ok-kept.ensures c.in_ok-names.ensures in
    says_nothing rules _ _ o (no_names rules _ _ c.in_ok-shown.shown.items _ c.as_slice-2.ensures.value c.in_ok-shown.ensures c.as_slice-3.ensures.value c.in_default.ensures.cases)

pub returns : goal.returns
returns c =
    let rules = rules_of c.args.config.now in
    let o = order_of rules (texts c.args.expected.now) _ _ c.in_ok-names.names.items c.as_slice.ensures.value c.in_ok-kept.ensures c.in_ok-names.ensures in
    says_text rules _ _ o _ _ _
    (forms_of rules _ c.in_ok-names.names.items c.in_ok-shown.shown.items _ _ _ c.as_slice-2.ensures.value c.in_ok-shown.ensures c.as_slice-3.ensures.value c.in-Some.ensures.cases.0)
    c.in_ok-format.ensures.ok
