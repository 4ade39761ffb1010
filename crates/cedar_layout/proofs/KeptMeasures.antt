-- A word whose measure isn't kept needs none: no line begins at it, and no bracket opens.
use Rattle.std.proofs.Common.{◌≡◌, ℕ, Bool, true, false, cond, List, [], ◌∷◌, refl, sym, ap, ap₂, ◌∙◌, subst, inl, inr, Option, Some, None}
use Rattle.std.specs.Prelude.{◌&&◌, ◌||◌, not, nat_lt}
use Rattle.std.proofs.lemmas.Bool.{cases_Bool}
use Rattle.cedar_layout.specs.declared.decisions.BlankRule.{BlankRule}
use Rattle.cedar_layout.specs.declared.decisions.Decision.{Decision}
use Rattle.cedar_layout.specs.declared.frames.Frame.{Frame}
use Rattle.cedar_layout.specs.declared.gaps.Gap.{Gap}
use Rattle.cedar_layout.specs.declared.levels.Level.{Level}
use Rattle.cedar_layout.specs.declared.levels.Level.TheVariants.{Listed, Branched, Disjoined, Conjoined, Related, Added, Multiplied, Chained, Packed, Filled, Fixed}
use Rattle.cedar_layout.specs.declared.measures.Measure.{Measure}
use Rattle.cedar_layout.specs.declared.measures.MeasuredWord.{MeasuredWord}
use Rattle.cedar_layout.specs.declared.options.LayoutOptions.{LayoutOptions}
use Rattle.cedar_layout.specs.declared.spots.Spot.{Spot}
use Rattle.cedar_layout.specs.Frames.{breaks_level}
use Rattle.cedar_layout.specs.Kinds.{opens, closes}
use Rattle.cedar_layout.specs.Layouts.{undecided}
use Rattle.cedar_layout.specs.Levels.{rank}
use Rattle.cedar_layout.specs.Measures.{plus, ones, words_measured, is_measured, kept_measures, no_measure, first_measure, rest_measures, words_kept}
use Rattle.cedar_layout.specs.Pieces.{Item, word, beside, below}
use Rattle.cedar_layout.specs.Style.{State, first_frame, without_frame, is_loose, breaks_loosely, begins, word_decision, comment_decision, at_word, opened_frame, behind_word, past_comment, next_gap, planned}
use Rattle.cedar_layout.proofs.LineWidths.{fixed_stays, fixed_holds}

-- ---- a word without a measure

record Plain (a b c d : Bool) : Type 0 where
  commented : a ≡ false
  unended : b ≡ false
  fixed : c ≡ false
  unopened : d ≡ false

plain_parts : (a b c d : Bool) → a || b || c || d ≡ false → Plain a b c d
plain_parts true b c d e = absurd (cc)
plain_parts false true c d e = absurd (cc)
plain_parts false false true d e = absurd (cc)
plain_parts false false false d e = record { commented = refl; unended = refl; fixed = refl; unopened = e }

plain : (s : Spot) → is_measured s ≡ false → Plain s.commented s.gap.begins_line (nat_lt (rank s.gap.level) 10) (opens s.kind)
plain s e = plain_parts s.commented s.gap.begins_line (nat_lt (rank s.gap.level) 10) (opens s.kind) e

is_fixed : (l : Level) → nat_lt (rank l) 10 ≡ false → l ≡ Fixed
is_fixed Listed e = absurd (cc)
is_fixed Branched e = absurd (cc)
is_fixed Disjoined e = absurd (cc)
is_fixed Conjoined e = absurd (cc)
is_fixed Related e = absurd (cc)
is_fixed Added e = absurd (cc)
is_fixed Multiplied e = absurd (cc)
is_fixed Chained e = absurd (cc)
is_fixed Packed e = absurd (cc)
is_fixed Filled e = absurd (cc)
is_fixed Fixed e = refl

all_false : (a b c d : Bool) → a ≡ false → b ≡ false → c ≡ false → d ≡ false → a || b || c || d ≡ false
all_false true b c d ea eb ec ed = absurd (cc)
all_false false true c d ea eb ec ed = absurd (cc)
all_false false false true d ea eb ec ed = absurd (cc)
all_false false false false d ea eb ec ed = ed

plain_begins : (o : LayoutOptions) (f : Option Frame) (c : ℕ) (s : Spot) (m : Measure) → is_measured s ≡ false → begins o f c s m ≡ false
plain_begins o f c s m e =
    let p = plain s e in
    let fixed = is_fixed s.gap.level p.fixed in
    all_false s.commented s.gap.begins_line (breaks_level f s.gap.level) (breaks_loosely o f c s m) p.commented p.unended
    (ap (breaks_level f) fixed ∙ fixed_stays f)
    (fixed_holds o f c s m (ap is_loose fixed))

-- ---- words alike but for the measures of those that need none

abbrev decided_by : LayoutOptions → State → Spot → Measure → Decision
decided_by o t s m = word_decision o (first_frame t.frames) t.rule (begins o (first_frame t.frames) t.column s m) s.gap

abbrev past_by : LayoutOptions → State → BlankRule → Spot → Measure → State
past_by o t rule s m = behind_word o (at_word o (begins o (first_frame t.frames) t.column s m) t s m) s m rule

plain_decided : (o : LayoutOptions) (t : State) (s : Spot) (m n : Measure) → is_measured s ≡ false → decided_by o t s m ≡ decided_by o t s n
plain_decided o t s m n e =
    ap (λ b. word_decision o (first_frame t.frames) t.rule b s.gap)
    (plain_begins o (first_frame t.frames) t.column s m e ∙ sym (plain_begins o (first_frame t.frames) t.column s n e))

unopened : (b : Bool) (f g : Frame) (fs gs : List Frame) → b ≡ false → cond b (f ∷ fs) gs ≡ cond b (g ∷ fs) gs
unopened true f g fs gs e = absurd (cc)
unopened false f g fs gs e = refl

abbrev on_line : State → Spot → BlankRule → List Frame → State
on_line t s rule frames = record {
  frames = frames;
  column = plus (plus t.column (ones s.gap.spaced)) s.columns;
  depth = t.depth;
  rule = rule;
}

plain_past : (o : LayoutOptions) (t : State) (rule : BlankRule) (s : Spot) (m n : Measure) → is_measured s ≡ false → past_by o t rule s m ≡ past_by o t rule s n
plain_past o t rule s m n e =
    let column = plus t.column (ones s.gap.spaced) in
    let stays = λ (q : Measure). ap (λ b. behind_word o (at_word o b t s q) s q rule) (plain_begins o (first_frame t.frames) t.column s q e) in
    stays m
    ∙ (ap (on_line t s rule) (unopened (opens s.kind) (opened_frame o column t.depth m) (opened_frame o column t.depth n) t.frames (cond (closes s.kind) (without_frame t.frames) t.frames) (plain s e).unopened)
    ∙ sym (stays n))

abbrev Alike : List MeasuredWord → List MeasuredWord → Type 0
Alike [] [] = Unit {0}
Alike [] (w ∷ ws) = ⊥
Alike (v ∷ vs) [] = ⊥
Alike (v ∷ vs) (w ∷ ws) = (v.spot ≡ w.spot) × (is_measured w.spot ≡ true → v.measure ≡ w.measure) × Alike vs ws

same_by : {A : Type 0} (f : Spot → Measure → A) (s r : Spot) (m n : Measure) → s ≡ r → (is_measured r ≡ true → m ≡ n) → (is_measured r ≡ false → f r m ≡ f r n) → f s m ≡ f r n
same_by f s r m n same kept else = ap (λ q. f q m) same ∙ elim (cases_Bool (is_measured r)) [
  | inl needed ↦ ap (f r) (kept needed)
  | inr free ↦ else free
]

gap_alike : (vs ws : List MeasuredWord) → Alike vs ws → next_gap vs ≡ next_gap ws
gap_alike [] [] h = refl
gap_alike [] (w ∷ ws) h = absurd h
gap_alike (v ∷ vs) [] h = absurd h
gap_alike (v ∷ vs) (w ∷ ws) (same, kept, more) = ap (λ (s : Spot). s.gap) same

planned_alike : (o : LayoutOptions) (t : State) (is : List Item) (vs ws : List MeasuredWord) → Alike vs ws → planned o t is vs ≡ planned o t is ws
planned_alike o t [] vs ws h = refl
planned_alike o t (beside c ∷ is) vs ws h = ap (λ ds. undecided ∷ ds) (planned_alike o t is vs ws h)
planned_alike o t (below c ∷ is) vs ws h =
    ap₂ (λ (g : Gap) (ds : List Decision). comment_decision o (first_frame t.frames) t.rule g ∷ ds) (gap_alike vs ws h) (planned_alike o (past_comment t) is vs ws h)
planned_alike o t (word x ∷ is) [] [] h = refl
planned_alike o t (word x ∷ is) [] (w ∷ ws) h = absurd h
planned_alike o t (word x ∷ is) (v ∷ vs) [] h = absurd h
planned_alike o t (word x ∷ is) (v ∷ vs) (w ∷ ws) (same, kept, more) =
    let rule = (next_gap ws).rule in
    let past : past_by o t (next_gap vs).rule v.spot v.measure ≡ past_by o t rule w.spot w.measure = ap (λ (g : Gap). past_by o t g.rule v.spot v.measure) (gap_alike vs ws more)
    ∙ same_by (past_by o t rule) v.spot w.spot v.measure w.measure same kept (plain_past o t rule w.spot v.measure w.measure) in
    ap₂ (λ (d : Decision) (ds : List Decision). d ∷ ds)
    (same_by (decided_by o t) v.spot w.spot v.measure w.measure same kept (plain_decided o t w.spot v.measure w.measure))
    (ap (λ u. planned o u is vs) past ∙ planned_alike o (past_by o t rule w.spot w.measure) is vs ws more)

-- ---- the measures that are kept

abbrev spots_in : List MeasuredWord → List Spot
spots_in [] = []
spots_in (w ∷ ws) = w.spot ∷ spots_in ws

measured_spots : (ss : List Spot) → spots_in (words_measured ss) ≡ ss
measured_spots [] = refl
measured_spots (s ∷ ss) = ap (λ rs. s ∷ rs) (measured_spots ss)

first_kept : (b : Bool) (m : Measure) (ms : List Measure) → b ≡ true → cond b (first_measure (cond b (m ∷ ms) ms)) no_measure ≡ m
first_kept true m ms e = refl
first_kept false m ms e = absurd (cc)

rest_kept : (b : Bool) (m : Measure) (ms : List Measure) → cond b (rest_measures (cond b (m ∷ ms) ms)) (cond b (m ∷ ms) ms) ≡ ms
rest_kept true m ms = refl
rest_kept false m ms = refl

kept_alike : (ws : List MeasuredWord) → Alike (words_kept (spots_in ws) (kept_measures ws)) ws
kept_alike [] = tt
kept_alike (w ∷ ws) = (
  refl,
  first_kept (is_measured w.spot) w.measure (kept_measures ws),
  subst (λ ms. Alike (words_kept (spots_in ws) ms) ws) (sym (rest_kept (is_measured w.spot) w.measure (kept_measures ws))) (kept_alike ws),
)

pub kept_planned : (o : LayoutOptions) (t : State) (is : List Item) (ss : List Spot) → planned o t is (words_kept ss (kept_measures (words_measured ss))) ≡ planned o t is (words_measured ss)
kept_planned o t is ss =
    subst (λ rs. planned o t is (words_kept rs (kept_measures (words_measured ss))) ≡ planned o t is (words_measured ss)) (measured_spots ss)
    (planned_alike o t is (words_kept (spots_in (words_measured ss)) (kept_measures (words_measured ss))) (words_measured ss) (kept_alike (words_measured ss)))
