-- In an operand that fits no line begins.
use Rattle.std.proofs.Common.{◌≡◌, ℕ, ◌≤◌, ◌<◌, ◌^◌, Bool, true, false, cond, List, [], ◌∷◌, length, refl, sym, ap, ◌∙◌, subst, arith, inl, inr, Option, Some, None}
use Rattle.std.specs.Prelude.{◌&&◌, ◌||◌, not, nat_lt}
use Rattle.std.proofs.lemmas.Bool.{cases_Bool, and_parts}
use Rattle.std.proofs.lemmas.Bool.Decides.{nat_tests}
use Rattle.cedar_lexer.specs.Words.{TokenText}
use Rattle.cedar_lexer.specs.declared.token.TokenKind.{TokenKind}
use Rattle.cedar_layout.specs.declared.brackets.Bracket.{Bracket}
use Rattle.cedar_layout.specs.declared.frames.Frame.{Frame}
use Rattle.cedar_layout.specs.declared.gaps.Gap.{Gap}
use Rattle.cedar_layout.specs.declared.levels.Level.{Level}
use Rattle.cedar_layout.specs.declared.levels.Level.TheVariants.{Listed, Branched, Disjoined, Conjoined, Related, Added, Multiplied, Chained, Packed, Filled, Fixed}
use Rattle.cedar_layout.specs.declared.measures.Ahead.{Ahead}
use Rattle.cedar_layout.specs.declared.measures.Distance.{Distance}
use Rattle.cedar_layout.specs.declared.measures.Measure.{Measure}
use Rattle.cedar_layout.specs.declared.options.LayoutOptions.{LayoutOptions}
use Rattle.cedar_layout.specs.declared.spots.Spot.{Spot}
use Rattle.cedar_layout.specs.Brackets.{innermost_of, brackets_behind}
use Rattle.cedar_layout.specs.Frames.{new_frame, first_fitting, line_begun_at, breaks_level, is_fine, line_depth}
use Rattle.cedar_layout.specs.Hugs.{first_flag, rest_flags, hugs_of}
use Rattle.cedar_layout.specs.Kinds.{opens, closes}
use Rattle.cedar_layout.specs.Laid.{Separator, nothing, space, line, Before, start, behind_word, behind_comment}
use Rattle.cedar_layout.specs.Layouts.{separate, laid_items, laid_out}
use Rattle.cedar_layout.specs.Levels.{rank}
use Rattle.cedar_layout.specs.Measures.{plus, ones, fits_from, nearer, ends_line, past_gap, the_end, before_text, first_ahead, at_opening, whole_of, without_first, measure_at, ahead_at, place_before, scanned, words_measured}
use Rattle.cedar_layout.specs.Measures as measures
use Rattle.cedar_layout.specs.Pieces.{Item, word, beside, below, SpacedItem, items_of, IsReadAs}
use Rattle.cedar_layout.specs.Spots.{spot_at, spots_from, spots_of}
use Rattle.cedar_layout.specs.Style as style
use Rattle.cedar_layout.specs.Style.{State, first_frame, without_frame, line_frames, is_loose, next_column, fills, operand_breaks_at, breaks_loosely, begins, word_decision, at_word, past_comment, first_state, planned}
use Rattle.cedar_layout.specs.Whole.{is_line, is_outer, operand_fits, fits_past, OperandsStay, KeepsOperands}
use Rattle.cedar_layout.specs.Widths.{column_at, separators_of}
use Rattle.cedar_layout.proofs.Extents.{extent, text_extent}
use Rattle.cedar_layout.proofs.Kept.{laid_stand, laid_same}
use Rattle.cedar_layout.proofs.Stood.{read_stands}
use Rattle.cedar_layout.proofs.Fitting.{Far, far_same, far_on, Within, within_fits, fits_within, within_nearer, within_on, Step, aheads_at, nearer_far, both_nearer, ends_more, or_left, back_from, place_far, room, less, word_step, gap_step, comment_step, word_far, scan_ordered, Ordered, Holds, Above, Moves, both_false}
use Rattle.cedar_layout.proofs.KnownGaps.{Known, Closing, gap_known, gap_closing, not_true}
use Rattle.cedar_layout.proofs.Begun.{Measuring, begun_flat}
use Rattle.cedar_layout.proofs.Wholes.{flats, whole_here}
use Rattle.cedar_layout.proofs.LineWidths.{begun_separator, joined_separator, joined_column, Sofar, measured, state_if, word_sofar}

-- ---- what is ahead of an operand

record Reached (p : Distance) (a : Ahead) : Type 0 where
  ending : Far p a.ending
  chained : Far a.ending a.chained
  multiplied : Far a.chained a.multiplied
  added : Far a.multiplied a.added
  related : Far a.added a.related

abbrev AllReached : Distance → List Ahead → Type 0
AllReached p [] = Unit {0}
AllReached p (a ∷ ahead) = Reached p a × AllReached a.ending ahead

reached_from : {p q : Distance} {a : Ahead} → Far p q → Reached q a → Reached p a
reached_from f r = record { ending = far_on f r.ending; chained = r.chained; multiplied = r.multiplied; added = r.added; related = r.related }

all_from : {p q : Distance} (ahead : List Ahead) → Far p q → AllReached q ahead → AllReached p ahead
all_from [] f h = tt
all_from (a ∷ ahead) f (r, h) = (reached_from f r, h)

word_reached : (o c : Bool) (p : Distance) (a : Ahead) (bs : List Ahead) → AllReached p (a ∷ bs) → AllReached p (aheads_at o c a bs)
word_reached true c p a [] (r, h) = (r, tt)
word_reached true c p a (b ∷ bs) (r, (s, h)) = (record { ending = r.ending; chained = far_on s.ending s.chained; multiplied = s.multiplied; added = s.added; related = s.related }, all_from bs s.ending h)
word_reached false true p a bs (r, h) = (
  r,
  (record { ending = far_same a.ending; chained = r.chained; multiplied = r.multiplied; added = r.added; related = r.related }, h),
)
word_reached false false p a bs (r, h) = (r, h)

past_reached : (g : Gap) (commented : Bool) (p q : Distance) (a : Ahead) (ahead : List Ahead) → Far p q → AllReached q (a ∷ ahead) → AllReached p (past_gap g commented p a ∷ ahead)
past_reached g commented p q a ahead f (r, h) =
    let line = g.begins_line in
    let k = rank g.level in
    let ending = far_on f r.ending in
    let chained = far_on ending r.chained in
    let multiplied = far_on chained r.multiplied in
    let added = far_on multiplied r.added in
    let related = far_on added r.related in (
      record {
        ending = nearer_far (ends_line g Fixed || commented) ending;
        chained = both_nearer (ends_line g Fixed || commented) (ends_line g Chained) (λ e. or_left (ends_line g Fixed) commented (ends_more line k 7 10 (omega arith) e)) chained r.chained;
        multiplied = both_nearer (ends_line g Chained) (ends_line g Multiplied) (ends_more line k 6 7 (omega arith)) multiplied r.multiplied;
        added = both_nearer (ends_line g Multiplied) (ends_line g Added) (ends_more line k 5 6 (omega arith)) added r.added;
        related = both_nearer (ends_line g Added) (ends_line g Related) (ends_more line k 4 5 (omega arith)) related r.related;
      },
      all_from ahead (back_from (ends_line g Fixed || commented) ending) h,
    )

scan_reached : (ss : List Spot) → extent ss < 2 ^ 64 → AllReached (scanned ss).place ((scanned ss).ahead ∷ (scanned ss).behind)
scan_reached [] small = (record { ending = far_same the_end; chained = far_same the_end; multiplied = far_same the_end; added = far_same the_end; related = far_same the_end }, tt)
scan_reached (s ∷ ss) small =
    let u = scanned ss in
    past_reached s.gap s.commented (place_before s u.place) u.place _ _ (place_far s ss u.place small (room ss (less s ss small)))
    (word_reached (opens s.kind) (closes s.kind) u.place u.ahead u.behind (scan_reached ss (less s ss small)))

to_related : {p : Distance} {a : Ahead} → Reached p a → Far a.ending a.related
to_related r = far_on (far_on (far_on r.chained r.multiplied) r.added) r.related

-- ---- what is known of the operands of open brackets

-- no gap but those of outer levels ends lines whatever fits
abbrev is_tame : Frame → Bool
is_tame f = f.flat || not (nat_lt 4 (rank f.fitting))

record Tame (w c : ℕ) (p : Distance) (fit : Bool) (f : Frame) (a : Ahead) : Type 0 where
  tame : fit ≡ true → is_tame f ≡ true
  fits : fit ≡ true → Within w c p a.related

-- where an operand fits, brackets in it are flat
abbrev Around : ℕ → ℕ → Distance → Frame → List Bool → List Frame → List Ahead → Type 0
Around w c p f [] gs ahead = Unit {0}
Around w c p f (fit ∷ fits) [] ahead = ⊥
Around w c p f (fit ∷ fits) (g ∷ gs) [] = Unit {0}
Around w c p f (fit ∷ fits) (g ∷ gs) (a ∷ ahead) = (fit ≡ true → f.flat ≡ true) × Tame w c p fit g a × Around w c p g fits gs ahead

abbrev Operands : ℕ → ℕ → Distance → List Bool → List Frame → List Ahead → Type 0
Operands w c p [] fs ahead = Unit {0}
Operands w c p (fit ∷ fits) [] ahead = ⊥
Operands w c p (fit ∷ fits) (f ∷ fs) [] = Unit {0}
Operands w c p (fit ∷ fits) (f ∷ fs) (a ∷ ahead) = Tame w c p fit f a × Around w c p f fits fs ahead

tame_moved : (w c d : ℕ) (p q : Distance) (fit : Bool) (f : Frame) (a : Ahead) → Moves w c p d q → Reached q a → Tame w c p fit f a → Tame w d q fit f a
tame_moved w c d p q fit f a move r h = record { tame = h.tame; fits = λ e. move a.related (far_on r.ending (to_related r)) (h.fits e) }

around_moved : (w c d : ℕ) (p q : Distance) (f : Frame) (fits : List Bool) (fs : List Frame) (ahead : List Ahead) → Moves w c p d q → AllReached q ahead → Around w c p f fits fs ahead → Around w d q f fits fs ahead
around_moved w c d p q f [] gs ahead move r h = tt
around_moved w c d p q f (fit ∷ fits) [] ahead move r h = absurd h
around_moved w c d p q f (fit ∷ fits) (g ∷ gs) [] move r h = tt
around_moved w c d p q f (fit ∷ fits) (g ∷ gs) (a ∷ ahead) move (r, rs) (flat, tame, more) = (flat, tame_moved w c d p q fit g a move r tame, around_moved w c d p q g fits gs ahead move (all_from ahead r.ending rs) more)

operands_moved : (w c d : ℕ) (p q : Distance) (fits : List Bool) (fs : List Frame) (ahead : List Ahead) → Moves w c p d q → AllReached q ahead → Operands w c p fits fs ahead → Operands w d q fits fs ahead
operands_moved w c d p q [] fs ahead move r h = tt
operands_moved w c d p q (fit ∷ fits) [] ahead move r h = absurd h
operands_moved w c d p q (fit ∷ fits) (f ∷ fs) [] move r h = tt
operands_moved w c d p q (fit ∷ fits) (f ∷ fs) (a ∷ ahead) move (r, rs) (tame, more) = (tame_moved w c d p q fit f a move r tame, around_moved w c d p q f fits fs ahead move (all_from ahead r.ending rs) more)

-- around a bracket that isn't flat no operand fits
around_void : (w c d : ℕ) (p q : Distance) (f g : Frame) (fits : List Bool) (fs : List Frame) (ahead : List Ahead) → f.flat ≡ false → Above w c p f fs ahead → Around w c p f fits fs ahead → Around w d q g fits fs ahead
around_void w c d p q f g [] fs ahead loose above h = tt
around_void w c d p q f g (fit ∷ fits) [] ahead loose above h = absurd h
around_void w c d p q f g (fit ∷ fits) (k ∷ ks) [] loose above h = tt
around_void w c d p q f g (fit ∷ fits) (k ∷ ks) (a ∷ ahead) loose (only, (good, above)) (flat, tame, more) =
    let never : fit ≡ true → ⊥ = λ e. not_true f.flat (flat e) loose in (
      λ e. absurd (never e),
      record { tame = λ e. absurd (never e); fits = λ e. absurd (never e) },
      around_void w c d p q k k fits ks ahead (loose_too k (only loose)) above more,
    )
  where
    loose_too : (k : Frame) → is_fine k ≡ false → k.flat ≡ false
    loose_too k e = first k.flat (nat_lt (rank k.fitting) 4) e
      where
        first : (x y : Bool) → x || y ≡ false → x ≡ false
        first true y e = absurd (cc)
        first false y e = refl

-- ---- in an operand that fits

record Unbroken (a b c d : Bool) : Type 0 where
  commented : a ≡ false
  unended : b ≡ false
  breaks : c ≡ false

none_of : (a b c d : Bool) → a || b || c || d ≡ false → Unbroken a b c d
none_of true b c d e = absurd (cc)
none_of false true c d e = absurd (cc)
none_of false false true d e = absurd (cc)
none_of false false false d e = record { commented = refl; unended = refl; breaks = refl }

all_false : (a b c d : Bool) → a ≡ false → b ≡ false → c ≡ false → d ≡ false → a || b || c || d ≡ false
all_false true b c d ea eb ec ed = absurd (cc)
all_false false true c d ea eb ec ed = absurd (cc)
all_false false false true d ea eb ec ed = absurd (cc)
all_false false false false d ea eb ec ed = ed

tame_breaks : (flat : Bool) (n m : ℕ) → flat || not (nat_lt 4 m) ≡ true → nat_lt n 4 ≡ false → not flat && nat_lt n m ≡ false
tame_breaks true n m tame inner = refl
tame_breaks false n m tame inner = above (nat_lt 4 m) tame (λ e. beyond n m inner e)
  where
    above : (b : Bool) → not b ≡ true → (b ≡ false → nat_lt n m ≡ false) → nat_lt n m ≡ false
    above true e f = absurd (cc)
    above false e f = f refl

    beyond : (n m : ℕ) → nat_lt n 4 ≡ false → nat_lt 4 m ≡ false → nat_lt n m ≡ false
    beyond n m e f = grind (arith, nat_tests)

held : (x y z : Bool) → z ≡ false → not x && y && z ≡ false
held true y z e = refl
held false true z e = e
held false false z e = refl

stopped : (x y : Bool) → x ≡ true → not x && y ≡ false
stopped true y e = refl
stopped false y e = absurd (cc)

unbroken_at : (o : LayoutOptions) (depth c : ℕ) (m : Measure) (l : Level) → fits_from o.width c m.from m.ahead.related ≡ true → fits_from o.width c m.from m.ahead.added ≡ true → fits_from o.width c m.from m.ahead.multiplied ≡ true → fits_from o.width c m.from m.ahead.chained ≡ true
    → operand_breaks_at o depth c m l ≡ false
unbroken_at o depth c m Listed r a t h = refl
unbroken_at o depth c m Branched r a t h = refl
unbroken_at o depth c m Disjoined r a t h = refl
unbroken_at o depth c m Conjoined r a t h = refl
unbroken_at o depth c m Related r a t h = stopped (fits_from o.width c m.from m.ahead.related) _ r
unbroken_at o depth c m Added r a t h = stopped (fits_from o.width c m.from m.ahead.added) _ a
unbroken_at o depth c m Multiplied r a t h = stopped (fits_from o.width c m.from m.ahead.multiplied) _ t
unbroken_at o depth c m Chained r a t h = stopped (fits_from o.width c m.from m.ahead.chained) _ h
unbroken_at o depth c m Packed r a t h = refl
unbroken_at o depth c m Filled r a t h = refl
unbroken_at o depth c m Fixed r a t h = refl

both_hold : (x y : Bool) → x ≡ true → y ≡ false → not x || y ≡ false
both_hold true y e f = f
both_hold false y e f = absurd (cc)

abbrev measure : Spot → Distance → Ahead → Distance → Measure
measure s p a whole = record { from = before_text p s.columns; ahead = a; whole = whole }

-- the operand's end isn't at a gap within it
still_ahead : (w c : ℕ) (s : Spot) (p : Distance) (a : Ahead) → s.gap.begins_line ≡ false → is_outer s.gap.level ≡ false → Within w c (place_before s p) (past_gap s.gap s.commented (place_before s p) a).related → Within w c (place_before s p) a.related
still_ahead w c s p a unended inner h = subst (λ b. Within w c (place_before s p) (nearer b (place_before s p) a.related)) (both_false s.gap.begins_line (is_outer s.gap.level) unended inner) h

tame_stays : (o : LayoutOptions) (f : Frame) (c : ℕ) (s : Spot) (ss : List Spot) (p : Distance) (a : Ahead) (whole : Distance) → Measuring s ss p → Reached (before_text p s.columns) a → Tame o.width c (place_before s p) true f (past_gap s.gap s.commented (place_before s p) a) → s.gap.begins_line ≡ false → is_outer s.gap.level ≡ false
    → begins o (Some f) c s (measure s p a whole) ≡ false
tame_stays o f c s ss p a whole k r h unended inner =
    let fits = still_ahead o.width c s p a unended inner (h.fits refl) in
    elim (cases_Bool s.commented) [
      | inl commented ↦
          let less : p.comments < (place_before s p).comments = comment_step s ss p k.small k.room commented in
          let far = far_on r.ending (to_related r) in
          absurd (omega (arith, less, fits.comments, far.comments))
      | inr plain ↦
          let m = measure s p a whole in
          let there : Within o.width (next_column c s) (before_text p s.columns) a.related = within_on fits (gap_step s ss p k.small k.room plain) (far_on r.ending (to_related r)) in
          let chained = far_on r.ending r.chained in
          let multiplied = far_on chained r.multiplied in
          let added = far_on multiplied r.added in
          let near : (q : Distance) → Far (before_text p s.columns) q → Far q a.related → fits_from o.width (next_column c s) (before_text p s.columns) q ≡ true = λ q f g. within_fits o.width (next_column c s) (before_text p s.columns) q (within_nearer there f g) in
          all_false s.commented s.gap.begins_line (breaks_level (Some f) s.gap.level) (breaks_loosely o (Some f) c s m) plain unended
          (tame_breaks f.flat (rank s.gap.level) (rank f.fitting) (h.tame refl) inner)
          (held (is_fine f) (is_loose s.gap.level) (not (fills o c s m) || operand_breaks_at o (line_depth o (Some f) s.gap) (next_column c s) m s.gap.level)
          (both_hold (fills o c s m) (operand_breaks_at o (line_depth o (Some f) s.gap) (next_column c s) m s.gap.level) (near a.ending r.ending (to_related r))
          (unbroken_at o (line_depth o (Some f) s.gap) (next_column c s) m s.gap.level (near a.related (far_on added r.related) (far_same a.related)) (near a.added added r.related) (near a.multiplied multiplied (far_on r.added r.related)) (near a.chained chained (far_on (far_on r.multiplied r.added) r.related)))))
    ]

-- ---- from one word to the next

abbrev fit_here : ℕ → ℕ → Bool → Spot → Measure → Bool
fit_here w c fit s m = cond (is_outer s.gap.level) (not s.gap.closing && fits_from w c m.from m.ahead.related) fit

tame_none : (w c : ℕ) (p : Distance) (f : Frame) (a : Ahead) → Tame w c p false f a
tame_none w c p f a = record { tame = λ e. absurd (not_true false e refl); fits = λ e. absurd (not_true false e refl) }

-- a line goes on
tame_passed : (w c : ℕ) (f : Frame) (s : Spot) (ss : List Spot) (p : Distance) (a : Ahead) (whole : Distance) (fit : Bool) → Measuring s ss p → Reached (before_text p s.columns) a → s.commented ≡ false → s.gap.begins_line ≡ false → breaks_level (Some f) s.gap.level ≡ false
    → Tame w c (place_before s p) fit f (past_gap s.gap s.commented (place_before s p) a) → Tame w (next_column c s) (before_text p s.columns) (fit_here w (next_column c s) fit s (measure s p a whole)) f a
tame_passed w c f s ss p a whole fit k r plain unended breaks h = elim (cases_Bool (is_outer s.gap.level)) [
  | inl outside ↦
      subst (λ b. Tame w (next_column c s) (before_text p s.columns) (cond b (not s.gap.closing && fits_from w (next_column c s) (before_text p s.columns) a.related) fit) f a) (sym outside) (record {
        tame = λ e. narrow f.flat (rank s.gap.level) (rank f.fitting) breaks outside;
        fits = λ e. fits_within w (next_column c s) (before_text p s.columns) a.related (and_parts (not s.gap.closing) (fits_from w (next_column c s) (before_text p s.columns) a.related) e).1;
      })
  | inr inside ↦
      subst (λ b. Tame w (next_column c s) (before_text p s.columns) (cond b (not s.gap.closing && fits_from w (next_column c s) (before_text p s.columns) a.related) fit) f a) (sym inside) (record {
        tame = h.tame;
        fits = λ e. within_on (still_ahead w c s p a unended inside (h.fits e)) (gap_step s ss p k.small k.room plain) (far_on r.ending (to_related r));
      })
]
  where
    under : (n m : ℕ) → nat_lt n m ≡ false → nat_lt n 4 ≡ true → nat_lt 4 m ≡ false
    under n m e f = grind (arith, nat_tests)

    narrow : (flat : Bool) (n m : ℕ) → not flat && nat_lt n m ≡ false → nat_lt n 4 ≡ true → flat || not (nat_lt 4 m) ≡ true
    narrow true n m e outer = refl
    narrow false n m e outer = ap not (under n m e outer)

abbrev fits_here : ℕ → ℕ → List Bool → Spot → Measure → List Bool
fits_here w c [] s m = []
fits_here w c (fit ∷ fits) s m = fit_here w c fit s m ∷ fits

operands_on : (o : LayoutOptions) (fits : List Bool) (fs : List Frame) (c : ℕ) (s : Spot) (ss : List Spot) (p : Distance) (a : Ahead) (ahead : List Ahead) (whole : Distance) → Measuring s ss p → AllReached (before_text p s.columns) (a ∷ ahead) → begins o (first_frame fs) c s (measure s p a whole) ≡ false
    → Operands o.width c (place_before s p) fits fs (past_gap s.gap s.commented (place_before s p) a ∷ ahead) → Operands o.width (next_column c s) (before_text p s.columns) (fits_here o.width (next_column c s) fits s (measure s p a whole)) fs (a ∷ ahead)
operands_on o [] fs c s ss p a ahead whole k r e h = tt
operands_on o (fit ∷ fits) [] c s ss p a ahead whole k r e h = absurd h
operands_on o (fit ∷ fits) (f ∷ fs) c s ss p a ahead whole k (r, rs) e (tame, more) =
    let n = none_of s.commented s.gap.begins_line (breaks_level (Some f) s.gap.level) (breaks_loosely o (Some f) c s (measure s p a whole)) e in (
      tame_passed o.width c f s ss p a whole fit k r n.commented n.unended n.breaks tame,
      around_moved o.width c (next_column c s) (place_before s p) (before_text p s.columns) f fits fs ahead (λ q far within. within_on within (gap_step s ss p k.small k.room n.commented) far) (all_from ahead r.ending rs) more,
    )

-- a line begins
first_tame : (o : LayoutOptions) (d : ℕ) (r : Level) (m : Measure) → nat_lt 4 (rank (first_fitting o d r m)) ≡ false
first_tame o d r m =
    each (nat_lt (rank r) (rank Branched) && fits_from o.width d m.from m.ahead.branched) (nat_lt (rank r) (rank Disjoined) && fits_from o.width d m.from m.ahead.disjoined) (nat_lt (rank r) (rank Conjoined) && fits_from o.width d m.from m.ahead.conjoined)
  where
    each : (x y z : Bool) → nat_lt 4 (rank (cond x Branched (cond y Disjoined (cond z Conjoined Related)))) ≡ false
    each true y z = refl
    each false true z = refl
    each false false true = refl
    each false false false = refl

or_not : (x y : Bool) → y ≡ false → x || not y ≡ true
or_not true y e = refl
or_not false true e = absurd (cc)
or_not false false e = refl

begun_tame : (o : LayoutOptions) (f : Frame) (d : ℕ) (s : Spot) (m : Measure) (l : Level) → is_outer l ≡ true → is_tame (line_begun_at o f d s m l) ≡ true
begun_tame o f d s m Listed e = or_not f.flat (nat_lt 4 (rank (first_fitting o d Listed m))) (first_tame o d Listed m)
begun_tame o f d s m Branched e = or_not f.flat (nat_lt 4 (rank (first_fitting o d Branched m))) (first_tame o d Branched m)
begun_tame o f d s m Disjoined e = or_not f.flat (nat_lt 4 (rank (first_fitting o d Disjoined m))) (first_tame o d Disjoined m)
begun_tame o f d s m Conjoined e = or_not f.flat (nat_lt 4 (rank (first_fitting o d Conjoined m))) (first_tame o d Conjoined m)
begun_tame o f d s m Related e = absurd (cc)
begun_tame o f d s m Added e = absurd (cc)
begun_tame o f d s m Multiplied e = absurd (cc)
begun_tame o f d s m Chained e = absurd (cc)
begun_tame o f d s m Packed e = absurd (cc)
begun_tame o f d s m Filled e = absurd (cc)
begun_tame o f d s m Fixed e = absurd (cc)

tame_begun : (o : LayoutOptions) (f : Frame) (d : ℕ) (s : Spot) (p : Distance) (a : Ahead) (whole : Distance) (fit outer closing : Bool) → is_outer s.gap.level ≡ outer → (outer ≡ false → fit ≡ true → ⊥)
    → Tame o.width d (before_text p s.columns) (cond outer (not closing && fits_from o.width d (before_text p s.columns) a.related) fit) (cond closing f (line_begun_at o f d s (measure s p a whole) s.gap.level)) a
tame_begun o f d s p a whole fit false closing e never = record { tame = λ t. absurd (never refl t); fits = λ t. absurd (never refl t) }
tame_begun o f d s p a whole fit true true e never = tame_none o.width d (before_text p s.columns) f a
tame_begun o f d s p a whole fit true false e never =
    record { tame = λ t. begun_tame o f d s (measure s p a whole) s.gap.level e; fits = λ t. fits_within o.width d (before_text p s.columns) a.related t }

operands_begun : (o : LayoutOptions) (fits : List Bool) (fs : List Frame) (c d : ℕ) (s : Spot) (ss : List Spot) (p : Distance) (a : Ahead) (ahead : List Ahead) (whole : Distance) → Measuring s ss p → AllReached (before_text p s.columns) (a ∷ ahead) → Known fs s.gap → begins o (first_frame fs) c s (measure s p a whole) ≡ true
    → (first_flag (flats fs) ≡ true → ⊥)
    → Holds o.width c (place_before s p) fs (past_gap s.gap s.commented (place_before s p) a ∷ ahead)
    → Operands o.width c (place_before s p) fits fs (past_gap s.gap s.commented (place_before s p) a ∷ ahead) → Operands o.width d (before_text p s.columns) (fits_here o.width d fits s (measure s p a whole)) (line_frames o d fs s (measure s p a whole)) (a ∷ ahead)
operands_begun o [] fs c d s ss p a ahead whole k r known e loose holds h = tt
operands_begun o (fit ∷ fits) [] c d s ss p a ahead whole k r known e loose holds h = absurd h
operands_begun o (fit ∷ fits) (f ∷ fs) c d s ss p a ahead whole k (r, rs) known e loose (good, above) (tame, more) = (
  tame_begun o f d s p a whole fit (is_outer s.gap.level) s.gap.closing refl (λ inner t.
      not_true (begins o (Some f) c s (measure s p a whole)) e (tame_stays o f c s ss p a whole k r (subst (λ b. Tame o.width c (place_before s p) b f (past_gap s.gap s.commented (place_before s p) a)) t tame) known inner)),
  around_void o.width c d (place_before s p) (before_text p s.columns) f (cond s.gap.closing f (line_begun_at o f d s (measure s p a whole) s.gap.level)) fits fs ahead (not_flat f.flat loose) above more,
)
  where
    not_flat : (b : Bool) → (b ≡ true → ⊥) → b ≡ false
    not_flat true g = absurd (g refl)
    not_flat false g = refl

-- behind a word
popped_operands : (w c : ℕ) (p : Distance) (f : Frame) (fits : List Bool) (fs : List Frame) (ahead : List Ahead) → Around w c p f fits fs ahead → Operands w c p fits fs ahead
popped_operands w c p f [] fs ahead h = tt
popped_operands w c p f (fit ∷ fits) [] ahead h = absurd h
popped_operands w c p f (fit ∷ fits) (g ∷ gs) [] h = tt
popped_operands w c p f (fit ∷ fits) (g ∷ gs) (a ∷ ahead) (flat, tame, more) = (tame, more)

abbrev fits_if : Bool → Bool → List Bool → List Bool
fits_if ok ck fits = cond ok (false ∷ fits) (cond ck (rest_flags fits) fits)

bracket_operands : (ok ck : Bool) (w d depth inner deeper : ℕ) (from p : Distance) (n : ℕ) (fits : List Bool) (fs : List Frame) (a : Ahead) (bs : List Ahead) → Step from p n → Far from p → AllReached p (a ∷ bs) → Operands w d from fits fs (aheads_at ok ck a bs)
    → Operands w (plus d n) p (fits_if ok ck fits) (cond ok (new_frame (fits_from w d from (whole_of (first_ahead bs))) depth inner deeper ∷ fs) (cond ck (without_frame fs) fs)) (a ∷ bs)
bracket_operands true ck w d depth inner deeper from p n fits fs a bs step near (r, rs) h = (tame_none w (plus d n) p _ a, around fits fs bs rs h)
  where
    around : (fits : List Bool) (fs : List Frame) (bs : List Ahead) → AllReached a.ending bs → Operands w d from fits fs (aheads_at true ck a bs) → Around w (plus d n) p (new_frame (fits_from w d from (whole_of (first_ahead bs))) depth inner deeper) fits fs bs
    around [] fs bs rs h = tt
    around (fit ∷ fits) [] bs rs h = absurd h
    around (fit ∷ fits) (g ∷ gs) [] rs h = tt
    around (fit ∷ fits) (g ∷ gs) (b ∷ bs) (s, rs) (tame, more) =
        let ending = far_on near (far_on r.ending s.ending) in
        let move : Moves w d from (plus d n) p = λ q far within. within_on within step far in (
          λ e. within_fits w d from b.ending (within_nearer (tame.fits e) ending (to_related s)),
          record { tame = tame.tame; fits = λ e. move b.related (far_on (far_on r.ending s.ending) (to_related s)) (tame.fits e) },
          around_moved w d (plus d n) from p g fits gs bs move (all_from bs (far_on r.ending s.ending) rs) more,
        )
bracket_operands false true w d depth inner deeper from p n [] fs a bs step near r h = tt
bracket_operands false true w d depth inner deeper from p n (fit ∷ fits) [] a bs step near r h = absurd h
bracket_operands false true w d depth inner deeper from p n (fit ∷ fits) (f ∷ fs) a bs step near r (tame, more) =
    operands_moved w d (plus d n) from p fits fs (a ∷ bs) (λ q far within. within_on within step far) r (popped_operands w d from f fits fs (a ∷ bs) more)
bracket_operands false false w d depth inner deeper from p n fits fs a bs step near r h = operands_moved w d (plus d n) from p fits fs (a ∷ bs) (λ q far within. within_on within step far) r h

-- ---- all words

fits_same : (w c : ℕ) (fits : List Bool) (s : Spot) (ss : List Spot) → operand_fits w c fits (measured s ss) ≡ fits_here w c fits s (measured s ss).measure
fits_same w c [] s ss = refl
fits_same w c (fit ∷ fits) s ss = refl

abbrev OperandsHold : LayoutOptions → List Bool → State → List Spot → Type 0
OperandsHold o fits t ss = Operands o.width t.column (scanned ss).place fits t.frames ((scanned ss).ahead ∷ (scanned ss).behind)

at_operands : (x : Bool) (o : LayoutOptions) (t : State) (s : Spot) (ss : List Spot) (fits : List Bool) → Measuring s ss (scanned ss).place → Ordered (scanned ss).place ((scanned ss).ahead ∷ (scanned ss).behind)
    → AllReached (before_text (scanned ss).place s.columns) (aheads_at (opens s.kind) (closes s.kind) (scanned ss).ahead (scanned ss).behind) → Known t.frames s.gap
    → Holds o.width t.column (scanned (s ∷ ss)).place t.frames ((scanned (s ∷ ss)).ahead ∷ (scanned (s ∷ ss)).behind)
    → begins o (first_frame t.frames) t.column s (measured s ss).measure ≡ x → OperandsHold o fits t (s ∷ ss)
    → Operands o.width (at_word o x t s (measured s ss).measure).column (measured s ss).measure.from (fits_here o.width (at_word o x t s (measured s ss).measure).column fits s (measured s ss).measure) (at_word o x t s (measured s ss).measure).frames (aheads_at (opens s.kind) (closes s.kind) (scanned ss).ahead (scanned ss).behind)
at_operands true o t s ss fits k order at known holds e operands =
    let u = scanned ss in
    operands_begun o fits t.frames t.column (line_depth o (first_frame t.frames) s.gap) s ss u.place (ahead_at s.kind (first_ahead u.behind) u.ahead) (measures.behind_word s.kind u.behind u.ahead) (whole_of (first_ahead u.behind)) k at known e
    (whole_here o t.frames t.column s ss u.place u.ahead u.behind k order known holds e) holds operands
at_operands false o t s ss fits k order at known holds e operands =
    let u = scanned ss in
    operands_on o fits t.frames t.column s ss u.place (ahead_at s.kind (first_ahead u.behind) u.ahead) (measures.behind_word s.kind u.behind u.ahead) (whole_of (first_ahead u.behind)) k at e operands

word_operands : (x : Bool) (o : LayoutOptions) (bs : List Bracket) (before last : Option TokenKind) (led commented : Bool) (w : TokenText) (ss : List Spot) (t : State) (b : Before) (choice : Bool) (fits : List Bool)
    → Sofar o (spot_at (innermost_of bs) before last led commented w ∷ ss) bs last commented t b choice
    → begins o (first_frame t.frames) t.column (spot_at (innermost_of bs) before last led commented w) (measured (spot_at (innermost_of bs) before last led commented w) ss).measure ≡ x
    → OperandsHold o fits t (spot_at (innermost_of bs) before last led commented w ∷ ss)
    → OperandsHold o (fits_past w.kind (operand_fits o.width (at_word o x t (spot_at (innermost_of bs) before last led commented w) (measured (spot_at (innermost_of bs) before last led commented w) ss).measure).column fits (measured (spot_at (innermost_of bs) before last led commented w) ss))) (state_if o x t (spot_at (innermost_of bs) before last led commented w) ss) ss
word_operands x o bs before last led commented w ss t b choice fits h e operands =
    let s = spot_at (innermost_of bs) before last led commented w in
    let u = scanned ss in
    let m = (measured s ss).measure in
    let v = at_word o x t s m in
    let k : Measuring s ss u.place = record { small = h.small; room = room ss (less s ss h.small) } in
    let reached = scan_reached ss (less s ss h.small) in
    let order = scan_ordered ss (less s ss h.small) in
    let at = all_from (aheads_at (opens s.kind) (closes s.kind) u.ahead u.behind) (word_far s ss u.place k.small k.room) (word_reached (opens s.kind) (closes s.kind) u.place u.ahead u.behind reached) in
    let known = gap_known t.frames bs commented led before last w.kind w.text h.many in
    subst (λ fits. Operands o.width (state_if o x t s ss).column u.place (fits_past w.kind fits) (state_if o x t s ss).frames (u.ahead ∷ u.behind)) (sym (fits_same o.width v.column fits s ss))
    (bracket_operands (opens s.kind) (closes s.kind) o.width v.column v.depth (plus v.depth o.indent) (plus (plus v.depth o.indent) o.indent) m.from u.place s.columns (fits_here o.width v.column fits s m) v.frames u.ahead u.behind
    (word_step s ss u.place k.small k.room) (word_far s ss u.place k.small k.room) reached (at_operands x o t s ss fits k order at known h.holds e operands))

-- where the operand fits no line begins within it
no_line : (o : LayoutOptions) (fits : List Bool) (fs : List Frame) (c : ℕ) (s : Spot) (ss : List Spot) (p : Distance) (a : Ahead) (ahead : List Ahead) (whole : Distance) → Measuring s ss p → AllReached (before_text p s.columns) (a ∷ ahead) → Known fs s.gap → begins o (first_frame fs) c s (measure s p a whole) ≡ true
    → Operands o.width c (place_before s p) fits fs (past_gap s.gap s.commented (place_before s p) a ∷ ahead) → first_flag fits && not (is_outer s.gap.level) ≡ true → ⊥
no_line o [] fs c s ss p a ahead whole k r known e h fit = absurd (not_true false fit refl)
no_line o (fit ∷ fits) [] c s ss p a ahead whole k r known e h holds = absurd h
no_line o (fit ∷ fits) (f ∷ fs) c s ss p a ahead whole k (r, rs) known e (tame, more) holds =
    let parts = and_parts fit (not (is_outer s.gap.level)) holds in
    not_true (begins o (Some f) c s (measure s p a whole)) e
    (tame_stays o f c s ss p a whole k r (subst (λ b. Tame o.width c (place_before s p) b f (past_gap s.gap s.commented (place_before s p) a)) parts.0 tame) known (not_outer (is_outer s.gap.level) parts.1))
  where
    not_outer : (b : Bool) → not b ≡ true → b ≡ false
    not_outer true e = absurd (cc)
    not_outer false e = refl

word_stays : (x : Bool) (o : LayoutOptions) (bs : List Bracket) (before last : Option TokenKind) (led commented : Bool) (w : TokenText) (hug blank : Bool) (ss : List Spot) (t : State) (b : Before) (fits : List Bool) (rest : State → Before → List Separator)
    → Sofar o (spot_at (innermost_of bs) before last led commented w ∷ ss) bs last commented t b false
    → begins o (first_frame t.frames) t.column (spot_at (innermost_of bs) before last led commented w) (measured (spot_at (innermost_of bs) before last led commented w) ss).measure ≡ x
    → OperandsHold o fits t (spot_at (innermost_of bs) before last led commented w ∷ ss)
    → ((t : State) (b : Before) (fits : List Bool) → Sofar o ss (brackets_behind bs before w.kind hug) (Some w.kind) false t b false → OperandsHold o fits t ss → OperandsStay o.width t.column fits (rest t b) (words_measured ss))
    → OperandsStay o.width t.column fits (separate b (word_decision o (first_frame t.frames) t.rule x (spot_at (innermost_of bs) before last led commented w).gap) blank (word w) ∷ rest (state_if o x t (spot_at (innermost_of bs) before last led commented w) ss) (behind_word w.kind)) (measured (spot_at (innermost_of bs) before last led commented w) ss ∷ words_measured ss)
word_stays true o bs before last led commented w hug blank ss t b fits rest h e operands more =
    let s = spot_at (innermost_of bs) before last led commented w in
    let u = scanned ss in
    let k : Measuring s ss u.place = record { small = h.small; room = room ss (less s ss h.small) } in
    let at = all_from (aheads_at (opens s.kind) (closes s.kind) u.ahead u.behind) (word_far s ss u.place k.small k.room) (word_reached (opens s.kind) (closes s.kind) u.place u.ahead u.behind (scan_reached ss (less s ss h.small))) in
    let known = gap_known t.frames bs commented led before last w.kind w.text h.many in
    let separator = begun_separator o (first_frame t.frames) t.column (innermost_of bs) before last led commented w (measured s ss).measure b t.rule blank h.linked e in
    subst (λ p. OperandsStay o.width t.column fits (p ∷ rest (state_if o true t s ss) (behind_word w.kind)) (measured s ss ∷ words_measured ss)) (sym separator) (
      λ fit. absurd (no_line o fits t.frames t.column s ss u.place (ahead_at s.kind (first_ahead u.behind) u.ahead) (measures.behind_word s.kind u.behind u.ahead) (whole_of (first_ahead u.behind)) k at known e operands fit),
      more (state_if o true t s ss) (behind_word w.kind) (fits_past w.kind (operand_fits o.width (line_depth o (first_frame t.frames) s.gap) fits (measured s ss))) (word_sofar true o bs before last led commented w hug ss t b false false h e (λ none. absurd (not_true false none refl)))
          (word_operands true o bs before last led commented w ss t b false fits h e operands),
    )
word_stays false o bs before last led commented w hug blank ss t b fits rest h e operands more =
    let s = spot_at (innermost_of bs) before last led commented w in
    let separator = joined_separator o (first_frame t.frames) t.column (innermost_of bs) before last led commented w (measured s ss).measure b blank h.linked e in
    let next =
    more (state_if o false t s ss) (behind_word w.kind) (fits_past w.kind (operand_fits o.width (plus t.column (ones s.gap.spaced)) fits (measured s ss))) (word_sofar false o bs before last led commented w hug ss t b false false h e (λ none. absurd (not_true false none refl)))
    (word_operands false o bs before last led commented w ss t b false fits h e operands) in
    subst (λ p. OperandsStay o.width t.column fits (p ∷ rest (state_if o false t s ss) (behind_word w.kind)) (measured s ss ∷ words_measured ss)) (sym separator) (
      λ fit. joined s.gap.spaced,
      subst (λ c. OperandsStay o.width (plus c s.columns) (fits_past w.kind (operand_fits o.width c fits (measured s ss))) (rest (state_if o false t s ss) (behind_word w.kind)) (words_measured ss)) (sym (joined_column s.gap.spaced t.column h.column)) next,
    )
  where
    joined : (spaced : Bool) → is_line (cond spaced space nothing) ≡ false
    joined true = refl
    joined false = refl

abbrev Stays : LayoutOptions → List SpacedItem → Type 0
Stays o ps =
    (bs : List Bracket) (before last : Option TokenKind) (led commented : Bool) (told : List Bool) (t : State) (b : Before) (fits : List Bool) → Sofar o (spots_from bs before last led commented told (items_of ps)) bs last commented t b false
    → OperandsHold o fits t (spots_from bs before last led commented told (items_of ps))
    → OperandsStay o.width t.column fits (separators_of (laid_items b (planned o t (items_of ps) (words_measured (spots_from bs before last led commented told (items_of ps)))) ps)) (words_measured (spots_from bs before last led commented told (items_of ps)))

item_stays : (o : LayoutOptions) (i : Item) (blank : Bool) (ps : List SpacedItem) → Stays o ps → Stays o (record { blank = blank; item = i } ∷ ps)
item_stays o (word w) blank ps more bs before last led commented told t b fits h operands =
    let hug = first_flag told in
    let ss = spots_from (brackets_behind bs before w.kind hug) last (Some w.kind) commented false (rest_flags told) (items_of ps) in
    let s = spot_at (innermost_of bs) before last led commented w in
    let x = begins o (first_frame t.frames) t.column s (measured s ss).measure in
    word_stays x o bs before last led commented w hug blank ss t b fits (λ t b. separators_of (laid_items b (planned o t (items_of ps) (words_measured ss)) ps)) h refl operands
    (more (brackets_behind bs before w.kind hug) last (Some w.kind) commented false (rest_flags told))
item_stays o (beside c) blank ps more bs before last led commented told t b fits h operands =
    more bs before last led true told t behind_comment fits (record { small = h.small; column = h.column; linked = refl; many = h.many; holds = h.holds; until = h.until }) operands
item_stays o (below c) blank ps more bs before last led commented told t b fits h operands =
    more bs before last led true told (past_comment t) behind_comment fits (record { small = h.small; column = h.column; linked = refl; many = h.many; holds = h.holds; until = h.until }) operands

stays : (o : LayoutOptions) (ps : List SpacedItem) → Stays o ps
stays o [] = λ bs before last led commented told t b fits h operands. tt
stays o (p ∷ ps) = item_stays o p.item p.blank ps (stays o ps)

style_stays : (o : LayoutOptions) (ps : List SpacedItem) → extent (spots_of (items_of ps)) < 2 ^ 64 → OperandsStay o.width 0 [] (separators_of (laid_items start (style.style o (items_of ps)) ps)) (words_measured (spots_of (items_of ps)))
style_stays o ps small = stays o ps [] None None false false (hugs_of (items_of ps)) first_state start [] (record {
  small = small;
  column = omega arith;
  linked = (refl, refl);
  many = tt;
  holds = tt;
  until = λ none. absurd (not_true false none refl);
}) tt

pub keeps_operands : (o : LayoutOptions) (source : List ℕ) (ps : List SpacedItem) → IsReadAs source ps → length source < 2 ^ 63 → KeepsOperands o.width ps (laid_out (style.style o) ps)
keeps_operands o source ps r small =
    let ds = style.style o (items_of ps) in
    (laid_items start ds ps, laid_stand start ds ps (read_stands source ps r), laid_same start ds ps, refl, style_stays o ps (text_extent source ps r small))
