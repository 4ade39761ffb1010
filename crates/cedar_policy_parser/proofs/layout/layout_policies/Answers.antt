use Rattle.std.proofs.Common.{string_bytes}
use Rattle.cedar_policy_parser.proofs.meaning.LayingOut.{no_layout, kept, left_alone, never_refused}
use Rattle.cedar_policy_parser.proofs.layout.layout_policies.Goals as goal

pub returns-in_err-tree-clause-lays_out : goal.returns-in_err-tree-clause-lays_out
returns-in_err-tree-clause-lays_out c = no_layout c.args.options.now c.args.text.now c.from_residual.result c.in_err-tree.field-0.0 c.from_residual.ensures.1 c.in_err-tree.ensures.only

pub unreachable-requires : goal.unreachable-requires
unreachable-requires c = never_refused c.args.text.now c.lay_out.result c.in-Err-InvalidToken.field-0 c.in-Err-InvalidToken.field-0-0 c.in_ok-tree.tree c.in_ok-tree.ensures.found c.lay_out.ensures.refuses c.in-Err-InvalidToken.is c.in-Err-InvalidToken.field-0-is

pub returns-in-Ok-clause-keeps : goal.returns-in-Ok-clause-keeps
returns-in-Ok-clause-keeps c =
    let laws = c.same_words_are_the_same_policies.ensures in
    let laid = c.in-Ok.ensures in
    kept laws.tree laws.meaning c.args.text.now (string_bytes c.in-Ok.lines) c.in_ok-tree.tree c.in_ok-tree.ensures.found laid.cuts laid.words laid.entries laid.items

pub returns-in-Ok-clause-again : goal.returns-in-Ok-clause-again
returns-in-Ok-clause-again c =
    let laid = c.in-Ok.ensures in
    left_alone c.args.options.now c.args.text.now c.in-Ok.lines c.in_ok-tree.tree c.in_ok-tree.ensures.found c.same_words_are_the_same_policies.ensures.tree laid.cuts laid.words laid.stays
