-- The state behind the next word, which is the first of those that are left.
use Rattle.std.proofs.Common.{◌≡◌, IfOk, List, [], ◌∷◌, ap, sym, ◌∙◌, subst, Option, Some, None}
use Rattle.cedar_lexer.specs.Words.{TokenText}
use Rattle.cedar_layout.specs.declared.gaps.Gap.{Gap}
use Rattle.cedar_layout.specs.declared.measures.MeasuredWord.{MeasuredWord}
use Rattle.cedar_layout.specs.declared.options.LayoutOptions.{LayoutOptions}
use Rattle.cedar_layout.specs.Measures.{words_now, first_word, rest_words}
use Rattle.cedar_layout.specs.Pieces.{word}
use Rattle.cedar_layout.specs.Style as spec
use Rattle.cedar_layout.specs.Style.{State, past_word, next_gap, state_past}
use Rattle.cedar_layout.proofs.style.next_word.Goals as goal

past_first : (o : LayoutOptions) (t : State) (x : TokenText) (ws : List MeasuredWord) (w : MeasuredWord) → first_word ws ≡ Some w → past_word o t w (next_gap (rest_words ws)).rule ≡ state_past o t (word x) ws
past_first o t x [] w e = absurd (cc)
past_first o t x (v ∷ vs) w e = let same : v ≡ w = cc in ap (λ q. past_word o t q (next_gap vs).rule) (sym same)

pub returns-in-Some-clause-state : goal.returns-in-Some-clause-state
returns-in-Some-clause-state c = λ x.
    let o = c.args.options in
    let t = spec.state_now c.args.state.now in
    let ws = words_now c.args.words.now in
    let gap = c.next_gap-gap.ensures ∙ ap next_gap c.next_measured.ensures.rest in
    subst (λ u. IfOk c.read_word.result (λ _. spec.state_now c.read_word.new.state ≡ u))
    (ap (λ (g : Gap). past_word o t c.in-Some.next g.rule) gap ∙ past_first o t x ws c.in-Some.next (sym c.next_measured.ensures.word ∙ c.in-Some.is)) c.read_word.ensures.state
