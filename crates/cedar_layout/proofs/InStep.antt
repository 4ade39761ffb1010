-- Lines begin in step.
use Rattle.std.proofs.Common.{◌≡◌, ℕ, ◌+◌, ◌≤◌, ◌<◌, ◌^◌, ◌⊎◌, Bool, true, false, cond, List, [], ◌∷◌, refl, sym, ap, ◌∙◌, subst, arith, inl, inr, Option, Some, None}
use Rattle.std.specs.Prelude.{not, nat_lt, nat_le, ◌&&◌}
use Rattle.std.proofs.lemmas.Bool.{cases_Bool}
use Rattle.std.proofs.lemmas.Bool.Decides.{nat_tests}
use Rattle.cedar_lexer.specs.Words.{TokenText}
use Rattle.cedar_lexer.specs.declared.token.TokenKind.{TokenKind}
use Rattle.cedar_layout.specs.declared.brackets.Bracket.{Bracket}
use Rattle.cedar_layout.specs.declared.decisions.BlankRule.{BlankRule}
use Rattle.cedar_layout.specs.declared.frames.Frame.{Frame}
use Rattle.cedar_layout.specs.declared.gaps.Gap.{Gap}
use Rattle.cedar_layout.specs.declared.levels.Level.{Level}
use Rattle.cedar_layout.specs.declared.levels.Level.TheVariants.{Listed, Branched, Disjoined, Conjoined, Related, Added, Multiplied, Chained, Packed, Filled, Fixed}
use Rattle.cedar_layout.specs.declared.measures.Ahead.{Ahead}
use Rattle.cedar_layout.specs.declared.measures.Measure.{Measure}
use Rattle.cedar_layout.specs.declared.options.LayoutOptions.{LayoutOptions}
use Rattle.cedar_layout.specs.declared.spots.Spot.{Spot}
use Rattle.cedar_layout.specs.Brackets.{innermost_of, brackets_behind}
use Rattle.cedar_layout.specs.Frames.{new_frame, depth_of_level, held_within, line_depth, comment_depth, step_if, conjoined_behind, stepped_listed, stepped_branched, operand_base, term_base, begun_operand, begun_outer, line_begun_at}
use Rattle.cedar_layout.specs.Hugs.{first_flag, rest_flags, hugs_of}
use Rattle.cedar_layout.specs.Kinds.{opens, closes, is_if}
use Rattle.cedar_layout.specs.Laid.{Separator, nothing, space, line, LaidItem, Before, start, behind_word, behind_comment, then_behind}
use Rattle.cedar_layout.specs.Layouts.{undecided, has_blank, begun_line, separate, laid_items, laid_out}
use Rattle.cedar_layout.specs.Measures.{plus, ones, fits_from, stands_before, words_measured}
use Rattle.cedar_layout.specs.Pieces.{Item, word, beside, below, SpacedItem, items_of, IsReadAs}
use Rattle.cedar_layout.specs.Spots.{spot_at, spots_from, spots_of}
use Rattle.cedar_layout.specs.Steps.{AreSteps, no_step, one_more, IsStepsDeeper, IsInStep, WhereLine, depth_on, without_outer, outers_past, BeginsInStep, BeginInStep, KeepsSteps}
use Rattle.cedar_layout.specs.Style as style
use Rattle.cedar_layout.specs.Style.{State, first_frame, without_frame, line_frames, begins, word_decision, comment_decision, at_word, past_comment, first_state, next_gap, planned}
use Rattle.cedar_layout.proofs.Kept.{laid_stand, laid_same}
use Rattle.cedar_layout.proofs.Stood.{read_stands}
use Rattle.cedar_layout.proofs.KnownGaps.{AreAsMany, as_many_begun, as_many_behind, Ends, NoneBefore, gap_ends}
use Rattle.cedar_layout.proofs.LineWidths.{Linked, begun_separator, joined_separator, measured, state_if}

-- ---- depths

steps_plus : {i a b : ℕ} → AreSteps i a → AreSteps i b → AreSteps i (a + b)
steps_plus {a = a} h (no_step i) = subst (AreSteps i) (omega arith) h
steps_plus {i = i} {a = a} h (one_more {spaces = d} g) = subst (AreSteps i) (omega arith) (one_more (steps_plus h g))

-- before it is held within the width
abbrev IsDeep : LayoutOptions → ℕ → Type 0
IsDeep o d = (o.width ≤ d) ⊎ AreSteps o.indent d

at_most : (n m : ℕ) → nat_le n m ≡ true → n ≤ m
at_most n m e = grind (arith, nat_tests)

above : (n m : ℕ) → nat_le n m ≡ false → m < n
above n m e = grind (arith, nat_tests)

deep_plus : (o : LayoutOptions) (a b : ℕ) → o.width < 2 ^ 64 → IsDeep o a → IsDeep o b → IsDeep o (plus a b)
deep_plus o a b small (inl far) g = inl (omega (arith, small, far))
deep_plus o a b small (inr h) (inl far) = inl (omega (arith, small, far))
deep_plus o a b small (inr h) (inr g) = elim (cases_Bool (nat_le (a + b) 18446744073709551615)) [
  | inl e ↦ let le = at_most (a + b) 18446744073709551615 e in inr (subst (AreSteps o.indent) (omega (arith, le)) (steps_plus h g))
  | inr e ↦ let over = above (a + b) 18446744073709551615 e in inl (omega (arith, small, over))
]

-- and from a line on
abbrev IsDeeper : LayoutOptions → ℕ → ℕ → Type 0
IsDeeper o base d = (o.width ≤ d) ⊎ IsStepsDeeper o.indent base d

deeper_plus : (o : LayoutOptions) (base a b : ℕ) → o.width < 2 ^ 64 → IsDeeper o base a → IsDeep o b → IsDeeper o base (plus a b)
deeper_plus o base a b small (inl far) g = inl (omega (arith, small, far))
deeper_plus o base a b small (inr h) (inl far) = inl (omega (arith, small, far))
deeper_plus o base a b small (inr (n, h, e)) (inr g) = elim (cases_Bool (nat_le (a + b) 18446744073709551615)) [
  | inl f ↦ let le = at_most (a + b) 18446744073709551615 f in inr (n + b, steps_plus h g, omega (arith, e, le))
  | inr f ↦ let over = above (a + b) 18446744073709551615 f in inl (omega (arith, small, over))
]

deeper_base : (o : LayoutOptions) (d : ℕ) → o.width < 2 ^ 64 → IsDeeper o (d + o.indent) (plus d o.indent)
deeper_base o d small = elim (cases_Bool (nat_le (d + o.indent) 18446744073709551615)) [
  | inl f ↦ let le = at_most (d + o.indent) 18446744073709551615 f in inr (0, no_step o.indent, omega (arith, le))
  | inr f ↦ let over = above (d + o.indent) 18446744073709551615 f in inl (omega (arith, small, over))
]

deep_none : (o : LayoutOptions) → IsDeep o 0
deep_none o = inr (no_step o.indent)

deep_one : (o : LayoutOptions) → IsDeep o o.indent
deep_one o = inr (subst (AreSteps o.indent) (omega arith) (one_more (no_step o.indent)))

deep_step : (o : LayoutOptions) (b : Bool) → IsDeep o (step_if o b)
deep_step o true = deep_one o
deep_step o false = deep_none o

deeper_either : (o : LayoutOptions) (base : ℕ) (b : Bool) (x y : ℕ) → IsDeeper o base x → IsDeeper o base y → IsDeeper o base (cond b x y)
deeper_either o base true x y h g = h
deeper_either o base false x y h g = g

below_width : (n m : ℕ) → m ≤ n → nat_lt n m ≡ true → ⊥
below_width n m le e = grind (arith, nat_tests)

held_deeper : (o : LayoutOptions) (base d : ℕ) → IsDeeper o base d → (held_within o d ≡ o.width) ⊎ IsStepsDeeper o.indent base (held_within o d)
held_deeper o base d h = each (nat_lt d o.width) (λ e. e) h
  where
    each : (b : Bool) → (b ≡ true → nat_lt d o.width ≡ true) → IsDeeper o base d → (cond b d o.width ≡ o.width) ⊎ IsStepsDeeper o.indent base (cond b d o.width)
    each true e (inl far) = absurd (below_width d o.width far (e refl))
    each true e (inr h) = inr h
    each false e h = inl refl

held_same : (o : LayoutOptions) (d : ℕ) → d ≤ o.width → held_within o d ≡ d
held_same o d le = elim (cases_Bool (nat_lt d o.width)) [
  | inl inside ↦ ap (λ x. cond x d o.width) inside
  | inr reached ↦ ap (λ x. cond x d o.width) reached ∙ at_width d o.width reached le
]
  where
    at_width : (n m : ℕ) → nat_lt n m ≡ false → n ≤ m → m ≡ n
    at_width n m e le = grind (arith, nat_tests)

held_most : (o : LayoutOptions) (d : ℕ) → held_within o d ≤ o.width
held_most o d = each (nat_lt d o.width) (λ e. less_most d o.width e)
  where
    less_most : (n m : ℕ) → nat_lt n m ≡ true → n ≤ m
    less_most n m e = grind (arith, nat_tests)

    each : (b : Bool) → (b ≡ true → d ≤ o.width) → cond b d o.width ≤ o.width
    each true f = f refl
    each false f = omega arith

-- ---- the open brackets

-- of a bracket that opens on a line of this depth
record DeepFrame (o : LayoutOptions) (outer : ℕ) (f : Frame) : Type 0 where
  same : f.outer ≡ outer
  within : outer ≤ o.width
  inner : IsDeeper o (outer + o.indent) f.inner
  branched : IsDeep o f.branched
  disjoined : IsDeep o f.disjoined
  conjoined : IsDeep o f.conjoined
  related : IsDeeper o (outer + o.indent) f.related
  added : IsDeeper o (outer + o.indent) f.added
  multiplied : IsDeeper o (outer + o.indent) f.multiplied
  chained : IsDeeper o (outer + o.indent) f.chained

deep_level : (o : LayoutOptions) (x : ℕ) (f : Frame) (l : Level) → o.width < 2 ^ 64 → DeepFrame o x f → IsDeeper o (x + o.indent) (depth_of_level f l)
deep_level o x f Listed small h = h.inner
deep_level o x f Branched small h = deeper_plus o (x + o.indent) f.inner f.branched small h.inner h.branched
deep_level o x f Disjoined small h = deeper_plus o (x + o.indent) f.inner f.disjoined small h.inner h.disjoined
deep_level o x f Conjoined small h = deeper_plus o (x + o.indent) f.inner f.conjoined small h.inner h.conjoined
deep_level o x f Related small h = h.related
deep_level o x f Added small h = h.added
deep_level o x f Multiplied small h = h.multiplied
deep_level o x f Chained small h = h.chained
deep_level o x f Packed small h = h.inner
deep_level o x f Filled small h = h.related
deep_level o x f Fixed small h = h.chained

abbrev AllDeep : LayoutOptions → List ℕ → List Frame → Type 0
AllDeep o [] [] = Unit {0}
AllDeep o [] (f ∷ fs) = ⊥
AllDeep o (x ∷ xs) [] = ⊥
AllDeep o (x ∷ xs) (f ∷ fs) = DeepFrame o x f × AllDeep o xs fs

line_here : (o : LayoutOptions) (x : ℕ) (xs : List ℕ) (f : Frame) (level : Level) (closing : Bool) → o.width < 2 ^ 64 → DeepFrame o x f → IsInStep o (x ∷ xs) closing (held_within o (cond closing f.outer (depth_of_level f level)))
line_here o x xs f level true small h = ap (held_within o) h.same ∙ held_same o x h.within
line_here o x xs f level false small h = held_deeper o (x + o.indent) (depth_of_level f level) (deep_level o x f level small h)

line_in_step : (o : LayoutOptions) (xs : List ℕ) (fs : List Frame) (kind : TokenKind) (g : Gap) → o.width < 2 ^ 64 → AllDeep o xs fs → Ends fs kind g → IsInStep o xs (closes kind) (line_depth o (first_frame fs) g)
line_in_step o [] [] kind g small h ends = refl
line_in_step o [] (f ∷ fs) kind g small h ends = absurd h
line_in_step o (x ∷ xs) [] kind g small h ends = absurd h
line_in_step o (x ∷ xs) (f ∷ fs) kind g small h ends = subst (λ b. IsInStep o (x ∷ xs) b (line_depth o (Some f) g)) (sym ends) (line_here o x xs f g.level g.closing small h.0)

comment_in_step : (o : LayoutOptions) (xs : List ℕ) (fs : List Frame) (g : Gap) → o.width < 2 ^ 64 → AllDeep o xs fs → IsInStep o xs false (comment_depth o (first_frame fs) g)
comment_in_step o [] [] g small h = refl
comment_in_step o [] (f ∷ fs) g small h = absurd h
comment_in_step o (x ∷ xs) [] g small h = absurd h
comment_in_step o (x ∷ xs) (f ∷ fs) g small h =
    held_deeper o (x + o.indent) (cond g.closing f.inner (depth_of_level f g.level)) (deeper_either o (x + o.indent) g.closing f.inner (depth_of_level f g.level) h.0.inner (deep_level o x f g.level small h.0))

conjoined_deep : (o : LayoutOptions) (m : Measure) (d : ℕ) → o.width < 2 ^ 64 → IsDeep o d → IsDeep o (conjoined_behind o m d)
conjoined_deep o m d small h = deep_plus o d (step_if o (stands_before m.ahead.conjoined m.ahead.disjoined)) small h (deep_step o (stands_before m.ahead.conjoined m.ahead.disjoined))

listed_deep : (o : LayoutOptions) (x : ℕ) (f : Frame) (s : Spot) (m : Measure) → o.width < 2 ^ 64 → DeepFrame o x f → DeepFrame o x (stepped_listed o f s m)
listed_deep o x f s m small h =
    let second = step_if o (stands_before m.ahead.disjoined m.ahead.branched) in
    let deep = deep_step o (stands_before m.ahead.disjoined m.ahead.branched) in
    record {
      same = h.same;
      within = h.within;
      inner = h.inner;
      branched = deep_step o (not (is_if s.kind));
      disjoined = deep;
      conjoined = conjoined_deep o m second small deep;
      related = h.related;
      added = h.added;
      multiplied = h.multiplied;
      chained = h.chained;
    }

branched_deep : (o : LayoutOptions) (x : ℕ) (f : Frame) (m : Measure) → o.width < 2 ^ 64 → DeepFrame o x f → DeepFrame o x (stepped_branched o f m)
branched_deep o x f m small h =
    let second = plus f.branched o.indent in
    let deep = deep_plus o f.branched o.indent small h.branched (deep_one o) in
    record {
      same = h.same;
      within = h.within;
      inner = h.inner;
      branched = h.branched;
      disjoined = deep;
      conjoined = conjoined_deep o m second small deep;
      related = h.related;
      added = h.added;
      multiplied = h.multiplied;
      chained = h.chained;
    }

one_deeper : (o : LayoutOptions) (base d : ℕ) → o.width < 2 ^ 64 → IsDeeper o base d → IsDeeper o base (plus d o.indent)
one_deeper o base d small h = deeper_plus o base d o.indent small h (deep_one o)

term_deep : (o : LayoutOptions) (a : Ahead) (base d : ℕ) → o.width < 2 ^ 64 → IsDeeper o base d → IsDeeper o base (term_base o a d)
term_deep o a base d small h = deeper_plus o base d (step_if o (stands_before a.multiplied a.added)) small h (deep_step o (stands_before a.multiplied a.added))

operand_deep : (o : LayoutOptions) (x : ℕ) (f : Frame) (d from : ℕ) (l : Level) (m : Measure) → o.width < 2 ^ 64 → DeepFrame o x f → IsDeeper o (x + o.indent) d → IsDeeper o (x + o.indent) from → DeepFrame o x (begun_operand o f d from l m)
operand_deep o x f d from l m small h deep begun =
    let base = x + o.indent in
    record {
      same = h.same;
      within = h.within;
      inner = h.inner;
      branched = h.branched;
      disjoined = h.disjoined;
      conjoined = h.conjoined;
      related = one_deeper o base from small begun;
      added = one_deeper o base from small begun;
      multiplied = one_deeper o base (term_base o m.ahead from) small (term_deep o m.ahead base from small begun);
      chained = one_deeper o base from small begun;
    }

outer_deep : (o : LayoutOptions) (x : ℕ) (f : Frame) (d : ℕ) (l : Level) (m : Measure) → o.width < 2 ^ 64 → DeepFrame o x f → IsDeeper o (x + o.indent) d → DeepFrame o x (begun_outer o f d l m)
outer_deep o x f d l m small h deep =
    let base = x + o.indent in
    let or_else = deeper_either o base (stands_before m.ahead.conjoined m.ahead.disjoined) (plus f.inner f.disjoined) d (deeper_plus o base f.inner f.disjoined small h.inner h.disjoined) deep in
    let from =
    deeper_either o base (stands_before m.ahead.related m.ahead.conjoined) (plus f.inner f.conjoined) (cond (stands_before m.ahead.conjoined m.ahead.disjoined) (plus f.inner f.disjoined) d)
    (deeper_plus o base f.inner f.conjoined small h.inner h.conjoined) or_else in
    operand_deep o x f d (operand_base f d m.ahead) l m small h deep from

begun_deep : (o : LayoutOptions) (x : ℕ) (f : Frame) (d : ℕ) (s : Spot) (m : Measure) (l : Level) → o.width < 2 ^ 64 → DeepFrame o x f → IsDeeper o (x + o.indent) d → DeepFrame o x (line_begun_at o f d s m l)
begun_deep o x f d s m Listed small h deep = outer_deep o x (stepped_listed o f s m) d Listed m small (listed_deep o x f s m small h) deep
begun_deep o x f d s m Branched small h deep = outer_deep o x (stepped_branched o f m) d Branched m small (branched_deep o x f m small h) deep
begun_deep o x f d s m Disjoined small h deep = outer_deep o x f d Disjoined m small h deep
begun_deep o x f d s m Conjoined small h deep = operand_deep o x f d d Conjoined m small h deep deep
begun_deep o x f d s m Related small h deep =
    let base = x + o.indent in
    let deeper = one_deeper o base d small deep in
    record {
      same = h.same;
      within = h.within;
      inner = h.inner;
      branched = h.branched;
      disjoined = h.disjoined;
      conjoined = h.conjoined;
      related = h.related;
      added = deeper;
      multiplied = one_deeper o base (term_base o m.ahead d) small (term_deep o m.ahead base d small deep);
      chained = deeper;
    }
begun_deep o x f d s m Added small h deep =
    let deeper = one_deeper o (x + o.indent) d small deep in
    record {
      same = h.same;
      within = h.within;
      inner = h.inner;
      branched = h.branched;
      disjoined = h.disjoined;
      conjoined = h.conjoined;
      related = h.related;
      added = h.added;
      multiplied = deeper;
      chained = deeper;
    }
begun_deep o x f d s m Multiplied small h deep =
    record {
      same = h.same;
      within = h.within;
      inner = h.inner;
      branched = h.branched;
      disjoined = h.disjoined;
      conjoined = h.conjoined;
      related = h.related;
      added = h.added;
      multiplied = h.multiplied;
      chained = one_deeper o (x + o.indent) d small deep;
    }
begun_deep o x f d s m Chained small h deep =
    record {
      same = h.same;
      within = h.within;
      inner = h.inner;
      branched = h.branched;
      disjoined = h.disjoined;
      conjoined = h.conjoined;
      related = h.related;
      added = h.added;
      multiplied = h.multiplied;
      chained = h.chained;
    }
begun_deep o x f d s m Packed small h deep = h
begun_deep o x f d s m Filled small h deep = h
begun_deep o x f d s m Fixed small h deep = h

from_line : (o : LayoutOptions) (x : ℕ) (xs : List ℕ) (d : ℕ) → IsInStep o (x ∷ xs) false d → IsDeeper o (x + o.indent) d
from_line o x xs d (inl e) = inl (omega (arith, e))
from_line o x xs d (inr h) = inr h

lines_deep : (o : LayoutOptions) (xs : List ℕ) (fs : List Frame) (s : Spot) (m : Measure) → o.width < 2 ^ 64 → AllDeep o xs fs → AllDeep o xs (line_frames o (line_depth o (first_frame fs) s.gap) fs s m)
lines_deep o [] [] s m small h = tt
lines_deep o [] (f ∷ fs) s m small h = absurd h
lines_deep o (x ∷ xs) [] s m small h = absurd h
lines_deep o (x ∷ xs) (f ∷ fs) s m small (h, more) = (chosen s.gap.closing, more)
  where
    chosen : (b : Bool) → DeepFrame o x (cond b f (line_begun_at o f (held_within o (cond b f.outer (depth_of_level f s.gap.level))) s m s.gap.level))
    chosen true = h
    chosen false =
        begun_deep o x f (held_within o (depth_of_level f s.gap.level)) s m s.gap.level small h (from_line o x xs (held_within o (depth_of_level f s.gap.level)) (line_here o x xs f s.gap.level false small h))

left_deep : (o : LayoutOptions) (xs : List ℕ) (fs : List Frame) → AllDeep o xs fs → AllDeep o (without_outer xs) (without_frame fs)
left_deep o [] [] h = tt
left_deep o [] (f ∷ fs) h = absurd h
left_deep o (x ∷ xs) [] h = absurd h
left_deep o (x ∷ xs) (f ∷ fs) h = h.1

bracket_deep : (o : LayoutOptions) (ok ck flat : Bool) (d : ℕ) (xs : List ℕ) (fs : List Frame) → o.width < 2 ^ 64 → d ≤ o.width → AllDeep o xs fs
    → AllDeep o (cond ok (d ∷ xs) (cond ck (without_outer xs) xs)) (cond ok (new_frame flat d (plus d o.indent) (plus (plus d o.indent) o.indent) ∷ fs) (cond ck (without_frame fs) fs))
bracket_deep o true ck flat d xs fs small le h =
    let inner = deeper_base o d small in
    let deeper = one_deeper o (d + o.indent) (plus d o.indent) small inner in (
      record {
        same = refl;
        within = le;
        inner = inner;
        branched = deep_none o;
        disjoined = deep_none o;
        conjoined = deep_none o;
        related = deeper;
        added = deeper;
        multiplied = deeper;
        chained = deeper;
      },
      h,
    )
bracket_deep o false true flat d xs fs small le h = left_deep o xs fs h
bracket_deep o false false flat d xs fs small le h = h

-- ---- all items

-- all that is known before an item
record Sofar (o : LayoutOptions) (xs : List ℕ) (depth : ℕ) (bs : List Bracket) (last : Option TokenKind) (commented : Bool) (t : State) (b : Before) : Type 0 where
  frames : AllDeep o xs t.frames
  stands : t.depth ≡ depth
  within : depth ≤ o.width
  linked : Linked b last commented
  many : AreAsMany t.frames bs
  begun : NoneBefore last bs

line_most : (o : LayoutOptions) (f : Option Frame) (g : Gap) → line_depth o f g ≤ o.width
line_most o None g = omega arith
line_most o (Some f) g = held_most o (cond g.closing f.outer (depth_of_level f g.level))

-- what is known behind a word
word_sofar : (x : Bool) (o : LayoutOptions) (xs : List ℕ) (depth : ℕ) (bs : List Bracket) (before last : Option TokenKind) (kind : TokenKind) (commented hug : Bool) (s : Spot) (ss : List Spot) (t : State) (b : Before)
    → s.kind ≡ kind → o.width < 2 ^ 64 → Sofar o xs depth bs last commented t b
    → Sofar o (outers_past kind (cond x (line_depth o (first_frame t.frames) s.gap) depth) xs) (cond x (line_depth o (first_frame t.frames) s.gap) depth) (brackets_behind bs before kind hug) (Some kind) false (state_if o x t s ss) (behind_word kind)
word_sofar x o xs depth bs before last kind commented hug s ss t b is small h =
    let m = (measured s ss).measure in
    let u = at_word o x t s m in
    let at : u.depth ≡ cond x (line_depth o (first_frame t.frames) s.gap) depth = there x in
    let most : u.depth ≤ o.width = reach x in
    let opened = fits_from o.width u.column m.from m.whole in
    record {
      frames =
          subst (λ d. AllDeep o (outers_past kind d xs) (state_if o x t s ss).frames) at
          (subst (λ k. AllDeep o (outers_past k u.depth xs) (state_if o x t s ss).frames) is
          (bracket_deep o (opens s.kind) (closes s.kind) opened u.depth xs u.frames small most (frames x)));
      stands = at;
      within = subst (λ d. d ≤ o.width) at most;
      linked = (refl, refl);
      many = subst (λ k. AreAsMany (state_if o x t s ss).frames (brackets_behind bs before k hug)) is (as_many_behind (opens s.kind) (closes s.kind) u.frames bs _ _ (many x));
      begun = tt;
    }
  where
    there : (x : Bool) → (at_word o x t s (measured s ss).measure).depth ≡ cond x (line_depth o (first_frame t.frames) s.gap) depth
    there true = refl
    there false = h.stands

    reach : (x : Bool) → (at_word o x t s (measured s ss).measure).depth ≤ o.width
    reach true = line_most o (first_frame t.frames) s.gap
    reach false = subst (λ d. d ≤ o.width) (sym h.stands) h.within

    frames : (x : Bool) → AllDeep o xs (at_word o x t s (measured s ss).measure).frames
    frames true = lines_deep o xs t.frames s (measured s ss).measure small h.frames
    frames false = h.frames

    many : (x : Bool) → AreAsMany (at_word o x t s (measured s ss).measure).frames bs
    many true = as_many_begun o (line_depth o (first_frame t.frames) s.gap) t.frames bs s (measured s ss).measure h.many
    many false = h.many

abbrev laid_word : TokenText → Separator → LaidItem
laid_word w p = record { separator = p; item = word w }

-- one word begins in step where those behind it do
word_in_step : (x : Bool) (o : LayoutOptions) (xs : List ℕ) (depth : ℕ) (bs : List Bracket) (before last : Option TokenKind) (led commented : Bool) (w : TokenText) (hug blank : Bool) (ss : List Spot) (t : State) (b : Before) (rest : State → Before → List LaidItem)
    → o.width < 2 ^ 64 → Sofar o xs depth bs last commented t b
    → begins o (first_frame t.frames) t.column (spot_at (innermost_of bs) before last led commented w) (measured (spot_at (innermost_of bs) before last led commented w) ss).measure ≡ x
    → ((xs : List ℕ) (depth : ℕ) (t : State) (b : Before) → Sofar o xs depth (brackets_behind bs before w.kind hug) (Some w.kind) false t b → BeginInStep o depth xs (rest t b))
    → BeginInStep o depth xs (laid_word w (separate b (word_decision o (first_frame t.frames) t.rule x (spot_at (innermost_of bs) before last led commented w).gap) blank (word w)) ∷ rest (state_if o x t (spot_at (innermost_of bs) before last led commented w) ss) (behind_word w.kind))
word_in_step true o xs depth bs before last led commented w hug blank ss t b rest small h e more =
    let s = spot_at (innermost_of bs) before last led commented w in
    let separator = begun_separator o (first_frame t.frames) t.column (innermost_of bs) before last led commented w (measured s ss).measure b t.rule blank h.linked e in
    let d = line_depth o (first_frame t.frames) s.gap in
    subst (λ p. BeginInStep o depth xs (laid_word w p ∷ rest (state_if o true t s ss) (behind_word w.kind))) (sym separator) (
      line_in_step o xs t.frames w.kind s.gap small h.frames (gap_ends t.frames bs commented led before last w.kind w.text h.many h.begun),
      more (outers_past w.kind d xs) d (state_if o true t s ss) (behind_word w.kind) (word_sofar true o xs depth bs before last w.kind commented hug s ss t b refl small h),
    )
word_in_step false o xs depth bs before last led commented w hug blank ss t b rest small h e more =
    let s = spot_at (innermost_of bs) before last led commented w in
    let separator = joined_separator o (first_frame t.frames) t.column (innermost_of bs) before last led commented w (measured s ss).measure b blank h.linked e in
    subst (λ p. BeginInStep o depth xs (laid_word w p ∷ rest (state_if o false t s ss) (behind_word w.kind))) (sym separator)
    (joined s.gap.spaced _ (more (outers_past w.kind depth xs) depth (state_if o false t s ss) (behind_word w.kind) (word_sofar false o xs depth bs before last w.kind commented hug s ss t b refl small h)))
  where
    joined : (spaced : Bool) (ls : List LaidItem) → BeginInStep o depth (outers_past w.kind depth xs) ls → BeginInStep o depth xs (laid_word w (cond spaced space nothing) ∷ ls)
    joined true ls more = (tt, more)
    joined false ls more = (tt, more)

abbrev InStep : LayoutOptions → List SpacedItem → Type 0
InStep o ps =
    (xs : List ℕ) (depth : ℕ) (bs : List Bracket) (before last : Option TokenKind) (led commented : Bool) (told : List Bool) (t : State) (b : Before) → Sofar o xs depth bs last commented t b
    → BeginInStep o depth xs (laid_items b (planned o t (items_of ps) (words_measured (spots_from bs before last led commented told (items_of ps)))) ps)

comment_begins : (o : LayoutOptions) (xs : List ℕ) (b : Before) (f : Option Frame) (rule : BlankRule) (g : Gap) (blank : Bool) (c : List ℕ) → IsInStep o xs false (comment_depth o f g) → BeginsInStep o xs (below c) (separate b (comment_decision o f rule g) blank (below c))
comment_begins o xs start f rule g blank c h = tt
comment_begins o xs (behind_word kind) f rule g blank c h = h
comment_begins o xs behind_comment f rule g blank c h = h

item_in_step : (o : LayoutOptions) (i : Item) (blank : Bool) (ps : List SpacedItem) → o.width < 2 ^ 64 → InStep o ps → InStep o (record { blank = blank; item = i } ∷ ps)
item_in_step o (word w) blank ps small more xs depth bs before last led commented told t b h =
    let hug = first_flag told in
    let ss = spots_from (brackets_behind bs before w.kind hug) last (Some w.kind) commented false (rest_flags told) (items_of ps) in
    let s = spot_at (innermost_of bs) before last led commented w in
    let x = begins o (first_frame t.frames) t.column s (measured s ss).measure in
    word_in_step x o xs depth bs before last led commented w hug blank ss t b (λ t b. laid_items b (planned o t (items_of ps) (words_measured ss)) ps) small h refl
    (λ xs depth t b h. more xs depth (brackets_behind bs before w.kind hug) last (Some w.kind) commented false (rest_flags told) t b h)
item_in_step o (beside c) blank ps small more xs depth bs before last led commented told t b h = (
  tt,
  more xs depth bs before last led true told t behind_comment (record { frames = h.frames; stands = h.stands; within = h.within; linked = refl; many = h.many; begun = h.begun }),
)
item_in_step o (below c) blank ps small more xs depth bs before last led commented told t b h =
    let ws = words_measured (spots_from bs before last led true told (items_of ps)) in (
      comment_begins o xs b (first_frame t.frames) t.rule (next_gap ws) blank c (comment_in_step o xs t.frames (next_gap ws) small h.frames),
      more xs depth bs before last led true told (past_comment t) behind_comment (record { frames = h.frames; stands = h.stands; within = h.within; linked = refl; many = h.many; begun = h.begun }),
    )

in_step : (o : LayoutOptions) (ps : List SpacedItem) → o.width < 2 ^ 64 → InStep o ps
in_step o [] small = λ xs depth bs before last led commented told t b h. tt
in_step o (p ∷ ps) small = item_in_step o p.item p.blank ps small (in_step o ps small)

style_in_step : (o : LayoutOptions) (ps : List SpacedItem) → o.width < 2 ^ 64 → BeginInStep o 0 [] (laid_items start (style.style o (items_of ps)) ps)
style_in_step o ps small = in_step o ps small [] 0 [] None None false false (hugs_of (items_of ps)) first_state start (record {
  frames = tt;
  stands = refl;
  within = omega arith;
  linked = (refl, refl);
  many = tt;
  begun = tt;
})

pub keeps_steps : (o : LayoutOptions) (source : List ℕ) (ps : List SpacedItem) → IsReadAs source ps → o.width < 2 ^ 64 → KeepsSteps o ps (laid_out (style.style o) ps)
keeps_steps o source ps r small =
    let ds = style.style o (items_of ps) in
    (laid_items start ds ps, laid_stand start ds ps (read_stands source ps r), laid_same start ds ps, refl, style_in_step o ps small)
