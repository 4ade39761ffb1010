-- The words that are kept decide what all of them do.
use Rattle.std.proofs.Common.{◌≡◌, IfOk, ap, ap₂, ◌∙◌, subst, List}
use Rattle.cedar_layout.specs.declared.measures.Measure.{Measure}
use Rattle.cedar_layout.specs.declared.spots.Spot.{Spot}
use Rattle.cedar_layout.specs.Measures.{words_kept, kept_measures, words_measured}
use Rattle.cedar_layout.specs.Read.{items_now}
use Rattle.cedar_layout.specs.Spots.{spots_of}
use Rattle.cedar_layout.specs.Style.{planned, first_state}
use Rattle.cedar_layout.proofs.KeptMeasures.{kept_planned}
use Rattle.cedar_layout.proofs.style.style.Goals as goal

pub returns : goal.returns
returns c =
    let o = c.args.options in
    let is = items_now c.args.pieces.now in
    let words = c.in_ok-words.words in
    let kept = c.in_ok-words.ensures in
    let spots = kept.spots ∙ c.in_ok-spots.ensures in
    let measures = kept.measures ∙ ap (λ (ss : List Spot). kept_measures (words_measured ss)) c.in_ok-spots.ensures in
    subst (λ ds. IfOk c.plan.result (λ decisions. decisions.items ≡ ds))
    (ap₂ (λ (ss : List Spot) (ms : List Measure). planned o first_state is (words_kept ss ms)) spots measures ∙ kept_planned o first_state is (spots_of is))
    c.plan.ensures
