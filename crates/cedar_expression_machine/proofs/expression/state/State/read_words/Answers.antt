use Rattle.std.proofs.Common.{◌≡◌, subst, Some, inl, inr}
use Rattle.cedar_expression_machine.specs.declared.words.state.WordsState.{WordsState}
use Rattle.cedar_expression_machine.specs.machines.WordShapes.{words_plan, words_shape}
use Rattle.cedar_expression_machine.proofs.expressions.PlannedActs.{words_go_on}
use Rattle.cedar_expression_machine.proofs.expression.state.State.read_words.Goals as goal

pub act_words-requires-clause-is_planned : goal.act_words-requires-clause-is_planned
act_words-requires-clause-is_planned c =
    let i = words_go_on c.args.self.now c.args.token.now.kind c.args.act c.requires.is_planned in
    let e : i.2 ≡ c.in-Word.words = cc in
    subst (λ (s : WordsState). words_plan (words_shape s) c.args.token.now.kind ≡ Some c.args.act) e i.4

pub unreachable-requires : goal.unreachable-requires
unreachable-requires c =
    let i = words_go_on c.args.self.now c.args.token.now.kind c.args.act c.requires.is_planned in
    elim c.in-Want.is [ inl w ↦ cc | inr w ↦ cc ]
