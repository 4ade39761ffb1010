-- Where a line goes on and where it begins, and what is known of the brackets then.
use Rattle.std.proofs.Common.{◌≡◌, ℕ, ◌≤◌, ◌<◌, ◌^◌, Bool, true, false, cond, List, [], ◌∷◌, refl, sym, ap, ◌∙◌, subst, arith, inl, inr, Option, Some}
use Rattle.std.specs.Prelude.{◌&&◌, ◌||◌, not, nat_lt}
use Rattle.std.proofs.lemmas.Bool.{cases_Bool, and_parts}
use Rattle.std.proofs.lemmas.Bool.Decides.{nat_tests}
use Rattle.cedar_lexer.specs.declared.token.TokenKind.{TokenKind}
use Rattle.cedar_lexer.specs.declared.token.TokenKind.TheVariants.{OpenParen, OpenBrace, OpenBracket}
use Rattle.cedar_layout.specs.declared.frames.Frame.{Frame}
use Rattle.cedar_layout.specs.declared.levels.Level.{Level}
use Rattle.cedar_layout.specs.declared.levels.Level.TheVariants.{Listed, Branched, Disjoined, Conjoined, Related, Added, Multiplied, Chained, Packed, Filled, Fixed}
use Rattle.cedar_layout.specs.declared.measures.Ahead.{Ahead}
use Rattle.cedar_layout.specs.declared.measures.Distance.{Distance}
use Rattle.cedar_layout.specs.declared.measures.Measure.{Measure}
use Rattle.cedar_layout.specs.declared.options.LayoutOptions.{LayoutOptions}
use Rattle.cedar_layout.specs.declared.spots.Spot.{Spot}
use Rattle.cedar_layout.specs.Frames.{new_frame, line_begun_at, first_fitting, breaks_level, is_fine, line_depth}
use Rattle.cedar_layout.specs.Kinds.{opens, closes}
use Rattle.cedar_layout.specs.Levels.{rank}
use Rattle.cedar_layout.specs.Measures.{plus, fits_from, ones, before_text, past_gap, nearer, ends_line, first_ahead, at_opening, whole_of, ahead_at, measure_at, place_before}
use Rattle.cedar_layout.specs.Measures as measures
use Rattle.cedar_layout.specs.Style.{State, first_frame, without_frame, line_frames, is_loose, next_column, fills, operand_breaks_at, breaks_loosely, begins, at_word}
use Rattle.cedar_layout.specs.Widths.{may_end_line}
use Rattle.cedar_layout.proofs.Extents.{extent}
use Rattle.cedar_layout.proofs.Fitting.{Far, far_on, Within, within_fits, fits_within, within_nearer, within_on, Step, Reaches, Ordered, sooner, far_next, aheads_at, word_ordered, Room, word_step, gap_step, comment_step, word_far, LevelFits, Good, is_narrow, or_left, Above, Holds, Moves, good_moved, above_moved, holds_moved, good_passed, inner_level, level_passed, both_false}
use Rattle.cedar_layout.proofs.KnownGaps.{Closing, Known, not_true}

-- ---- why a line begins

record Unbroken (a b c d : Bool) : Type 0 where
  commented : a ≡ false
  unended : b ≡ false
  breaks : c ≡ false
  loosely : d ≡ false

none_of : (a b c d : Bool) → a || b || c || d ≡ false → Unbroken a b c d
none_of true b c d e = absurd (cc)
none_of false true c d e = absurd (cc)
none_of false false true d e = absurd (cc)
none_of false false false d e = record { commented = refl; unended = refl; breaks = refl; loosely = e }

all_false : (a b c d : Bool) → a ≡ false → b ≡ false → c ≡ false → d ≡ false → a || b || c || d ≡ false
all_false true b c d ea eb ec ed = absurd (cc)
all_false false true c d ea eb ec ed = absurd (cc)
all_false false false true d ea eb ec ed = absurd (cc)
all_false false false false d ea eb ec ed = ed

or_right : (a b : Bool) → b ≡ true → a || b ≡ true
or_right true b e = refl
or_right false b e = e

-- what is known of a word where it is measured
pub record Measuring (s : Spot) (ss : List Spot) (p : Distance) : Type 0 where
  pub small : extent (s ∷ ss) < 2 ^ 64
  pub room : Room ss p

abbrev pub measure : Spot → Distance → Ahead → Distance → Measure
measure s p a whole = record { from = before_text p s.columns; ahead = a; whole = whole }

-- what fits up to a place behind the next gap at which the line may end isn't broken
stays : (o : LayoutOptions) (f : Frame) (c : ℕ) (s : Spot) (ss : List Spot) (p : Distance) (a : Ahead) (whole r : Distance) → Measuring s ss p → Far (before_text p s.columns) a.ending → Far a.ending r → Within o.width c (place_before s p) r → s.gap.begins_line ≡ false → breaks_level (Some f) s.gap.level ≡ false → is_fine f ≡ true
    → begins o (Some f) c s (measure s p a whole) ≡ false
stays o f c s ss p a whole r k near far h unended unbroken fine = elim (cases_Bool s.commented) [
  | inl commented ↦
      let less : p.comments < (place_before s p).comments = comment_step s ss p k.small k.room commented in
      absurd (omega (arith, less, h.comments, near.comments, far.comments))
  | inr plain ↦
      let m = measure s p a whole in
      all_false s.commented s.gap.begins_line (breaks_level (Some f) s.gap.level) (breaks_loosely o (Some f) c s m) plain unended unbroken
      (held (is_fine f) (is_loose s.gap.level) (not (fills o c s m) || operand_breaks_at o (line_depth o (Some f) s.gap) (next_column c s) m s.gap.level) fine)
]
  where
    held : (x y z : Bool) → x ≡ true → not x && y && z ≡ false
    held true y z e = refl
    held false y z e = absurd (cc)

-- ---- where a line goes on

loose_at : (n m : ℕ) → 4 ≤ m → nat_lt n m ≡ false → nat_lt n 10 ≡ true → not (nat_lt n 4) && nat_lt n 10 ≡ true
loose_at n m le inner may = both (nat_lt n 4) (nat_lt n 10) (tight n m le inner) may
  where
    tight : (n m : ℕ) → 4 ≤ m → nat_lt n m ≡ false → nat_lt n 4 ≡ false
    tight n m le inner = grind (arith, nat_tests)

    both : (x y : Bool) → x ≡ false → y ≡ true → not x && y ≡ true
    both true y e f = absurd (cc)
    both false y e f = f

fills_there : (x y z v : Bool) → x ≡ false → y ≡ true → not x && y && (not z || v) ≡ false → z ≡ true
fills_there true y z v e f g = absurd (cc)
fills_there false false z v e f g = absurd (cc)
fills_there false true true v e f g = refl
fills_there false true false v e f g = absurd (cc)

level_choice : (w c : ℕ) (p : Distance) (a : Ahead) (level l : Level) → Reaches p a → LevelFits w c p a l → nat_lt (rank level) (rank l) ≡ false → may_end_line level ≡ true → (is_narrow l ≡ false → is_loose level ≡ true → Within w c p a.ending) → Within w c p a.ending
level_choice w c p a level Listed r h inner may loose = absurd h
level_choice w c p a level Branched r h inner may loose = within_nearer h r.ending (far_on (far_on r.conjoined r.disjoined) r.branched)
level_choice w c p a level Disjoined r h inner may loose = within_nearer h r.ending (far_on r.conjoined r.disjoined)
level_choice w c p a level Conjoined r h inner may loose = within_nearer h r.ending r.conjoined
level_choice w c p a level Related r h inner may loose = loose refl (loose_at (rank level) 4 (omega arith) inner may)
level_choice w c p a level Added r h inner may loose = loose refl (loose_at (rank level) 5 (omega arith) inner may)
level_choice w c p a level Multiplied r h inner may loose = loose refl (loose_at (rank level) 6 (omega arith) inner may)
level_choice w c p a level Chained r h inner may loose = loose refl (loose_at (rank level) 7 (omega arith) inner may)
level_choice w c p a level Packed r h inner may loose = loose refl (loose_at (rank level) 8 (omega arith) inner may)
level_choice w c p a level Filled r h inner may loose = loose refl (loose_at (rank level) 9 (omega arith) inner may)
level_choice w c p a level Fixed r h inner may loose = loose refl (loose_at (rank level) 10 (omega arith) inner may)

choice_fits : (o : LayoutOptions) (f : Frame) (c : ℕ) (s : Spot) (p : Distance) (a : Ahead) (whole n : Distance) → Reaches (before_text p s.columns) a → Far a.ending n → Good o.width (plus c (ones s.gap.spaced)) (before_text p s.columns) f a n → may_end_line s.gap.level ≡ true
    → Unbroken s.commented s.gap.begins_line (breaks_level (Some f) s.gap.level) (breaks_loosely o (Some f) c s (measure s p a whole)) → Within o.width (plus c (ones s.gap.spaced)) (before_text p s.columns) a.ending
choice_fits o f c s p a whole n r far h may e = elim (cases_Bool f.flat) [
  | inl flat ↦ within_nearer (h.flat flat) r.ending far
  | inr broken ↦
      level_choice o.width (plus c (ones s.gap.spaced)) (before_text p s.columns) a s.gap.level f.fitting r (h.level broken) (inner_level f s.gap.level broken e.breaks) may
      (λ wide loose. fits_within o.width (plus c (ones s.gap.spaced)) (before_text p s.columns) a.ending
      (fills_there (is_fine f) (is_loose s.gap.level) (fills o c s (measure s p a whole)) (operand_breaks_at o (line_depth o (Some f) s.gap) (next_column c s) (measure s p a whole) s.gap.level)
      (both_false f.flat (is_narrow f.fitting) broken wide) loose e.loosely))
]

goes_on_there : (o : LayoutOptions) (fs : List Frame) (c : ℕ) (s : Spot) (ss : List Spot) (p : Distance) (a : Ahead) (ahead : List Ahead) (whole : Distance) → Measuring s ss p → Ordered (before_text p s.columns) (a ∷ ahead) → begins o (first_frame fs) c s (measure s p a whole) ≡ false
    → Holds o.width c (place_before s p) fs (past_gap s.gap s.commented (place_before s p) a ∷ ahead) → Holds o.width (plus c (ones s.gap.spaced)) (before_text p s.columns) fs (a ∷ ahead)
goes_on_there o [] c s ss p a ahead whole k order e h = tt
goes_on_there o (f ∷ fs) c s ss p a ahead whole k order e (good, above) =
    let n = none_of s.commented s.gap.begins_line (breaks_level (Some f) s.gap.level) (breaks_loosely o (Some f) c s (measure s p a whole)) e in
    holds_moved o.width c (plus c (ones s.gap.spaced)) (place_before s p) (before_text p s.columns) (f ∷ fs) (a ∷ ahead)
    (λ r far within. within_on within (gap_step s ss p k.small k.room n.commented) far) order
    (good_passed o.width c (place_before s p) s.gap s.commented f a (whole_of (first_ahead ahead)) n.unended n.breaks good, above)

-- ---- where a line begins

or_false : (a b : Bool) → a || b ≡ false → (a ≡ false) × (b ≡ false)
or_false true b e = absurd (cc)
or_false false b e = (refl, e)

void_level : (w c : ℕ) (p : Distance) (a : Ahead) (l : Level) → is_narrow l ≡ false → LevelFits w c p a l
void_level w c p a Listed e = absurd (cc)
void_level w c p a Branched e = absurd (cc)
void_level w c p a Disjoined e = absurd (cc)
void_level w c p a Conjoined e = absurd (cc)
void_level w c p a Related e = tt
void_level w c p a Added e = tt
void_level w c p a Multiplied e = tt
void_level w c p a Chained e = tt
void_level w c p a Packed e = tt
void_level w c p a Filled e = tt
void_level w c p a Fixed e = tt

-- around a bracket that isn't flat nothing need be known
void_above : (w c d : ℕ) (p q : Distance) (f : Frame) (fs : List Frame) (ahead : List Ahead) → f.flat ≡ false → Above w c p f fs ahead → Above w d q f fs ahead
void_above w c d p q f [] ahead loose h = tt
void_above w c d p q f (g ∷ gs) [] loose h = tt
void_above w c d p q f (g ∷ gs) (a ∷ ahead) loose (only, (good, above)) =
    let e = or_false g.flat (is_narrow g.fitting) (only loose) in (
      only,
      (
        record { flat = λ flat. absurd (not_true g.flat flat e.0); level = λ other. void_level w d q a g.fitting e.1 },
        void_above w c d p q g gs ahead e.0 above,
      ),
    )

picked : (w c : ℕ) (p : Distance) (a : Ahead) (x y z : Bool) → (x ≡ true → Within w c p a.branched) → (y ≡ true → Within w c p a.disjoined) → (z ≡ true → Within w c p a.conjoined) → LevelFits w c p a (cond x Branched (cond y Disjoined (cond z Conjoined Related)))
picked w c p a true y z f g h = f refl
picked w c p a false true z f g h = g refl
picked w c p a false false true f g h = h refl
picked w c p a false false false f g h = tt

fitting_fits : (o : LayoutOptions) (depth : ℕ) (r : Level) (m : Measure) → LevelFits o.width depth m.from m.ahead (first_fitting o depth r m)
fitting_fits o depth r m =
    let outer = λ (l : Level). nat_lt (rank r) (rank l) in
    let there = λ (q : Distance). fits_from o.width depth m.from q in
    picked o.width depth m.from m.ahead (outer Branched && there m.ahead.branched) (outer Disjoined && there m.ahead.disjoined) (outer Conjoined && there m.ahead.conjoined)
    (λ e. fits_within o.width depth m.from m.ahead.branched (and_parts (outer Branched) (there m.ahead.branched) e).1)
    (λ e. fits_within o.width depth m.from m.ahead.disjoined (and_parts (outer Disjoined) (there m.ahead.disjoined) e).1)
    (λ e. fits_within o.width depth m.from m.ahead.conjoined (and_parts (outer Conjoined) (there m.ahead.conjoined) e).1)

-- in a flat bracket no line begins
flat_stays : (o : LayoutOptions) (f : Frame) (c : ℕ) (s : Spot) (ss : List Spot) (p : Distance) (a : Ahead) (whole n : Distance) → Measuring s ss p → Far (before_text p s.columns) a.ending → Far a.ending n → f.flat ≡ true → Within o.width c (place_before s p) n → s.gap.begins_line ≡ false
    → begins o (Some f) c s (measure s p a whole) ≡ false
flat_stays o f c s ss p a whole n k near far flat h unended = stays o f c s ss p a whole n k near far h unended (ap (λ b. not b && nat_lt (rank s.gap.level) (rank f.fitting)) flat) (or_left f.flat (is_narrow f.fitting) flat)

-- where all up to the next gap of an outer level fits, a line doesn't begin at another gap
inner_stays : (o : LayoutOptions) (f : Frame) (c : ℕ) (s : Spot) (ss : List Spot) (p : Distance) (a : Ahead) (whole : Distance) (l : Level) → Measuring s ss p → Reaches (before_text p s.columns) a → is_narrow l ≡ true → nat_lt (rank s.gap.level) (rank l) ≡ false → LevelFits o.width c (place_before s p) a l
    → s.gap.begins_line ≡ false → breaks_level (Some f) s.gap.level ≡ false → is_fine f ≡ true → begins o (Some f) c s (measure s p a whole) ≡ false
inner_stays o f c s ss p a whole Listed k r narrow inner h unended unbroken fine = absurd h
inner_stays o f c s ss p a whole Branched k r narrow inner h unended unbroken fine = stays o f c s ss p a whole a.branched k r.ending (far_on (far_on r.conjoined r.disjoined) r.branched) h unended unbroken fine
inner_stays o f c s ss p a whole Disjoined k r narrow inner h unended unbroken fine = stays o f c s ss p a whole a.disjoined k r.ending (far_on r.conjoined r.disjoined) h unended unbroken fine
inner_stays o f c s ss p a whole Conjoined k r narrow inner h unended unbroken fine = stays o f c s ss p a whole a.conjoined k r.ending r.conjoined h unended unbroken fine
inner_stays o f c s ss p a whole Related k r narrow inner h unended unbroken fine = absurd (not_true false narrow refl)
inner_stays o f c s ss p a whole Added k r narrow inner h unended unbroken fine = absurd (not_true false narrow refl)
inner_stays o f c s ss p a whole Multiplied k r narrow inner h unended unbroken fine = absurd (not_true false narrow refl)
inner_stays o f c s ss p a whole Chained k r narrow inner h unended unbroken fine = absurd (not_true false narrow refl)
inner_stays o f c s ss p a whole Packed k r narrow inner h unended unbroken fine = absurd (not_true false narrow refl)
inner_stays o f c s ss p a whole Filled k r narrow inner h unended unbroken fine = absurd (not_true false narrow refl)
inner_stays o f c s ss p a whole Fixed k r narrow inner h unended unbroken fine = absurd (not_true false narrow refl)

-- a line goes on in the bracket as before where it begins at a gap of no level
same_frame : (o : LayoutOptions) (f : Frame) (c d : ℕ) (s : Spot) (ss : List Spot) (p q : Distance) (a : Ahead) (whole n : Distance) → Measuring s ss p → Reaches (before_text p s.columns) a → nat_lt (rank s.gap.level) 4 ≡ false → f.flat ≡ false → s.gap.begins_line ≡ false → begins o (Some f) c s (measure s p a whole) ≡ true
    → Good o.width c (place_before s p) f (past_gap s.gap s.commented (place_before s p) a) n → Good o.width d q f a n
same_frame o f c d s ss p q a whole n k r filled loose unended e h = record {
  flat = λ flat. absurd (not_true f.flat flat loose);
  level = λ other. elim (cases_Bool (is_narrow f.fitting)) [
    | inl narrow ↦
        let inner = below_narrow (rank s.gap.level) (rank f.fitting) filled narrow in
        absurd (not_true (begins o (Some f) c s (measure s p a whole)) e
        (inner_stays o f c s ss p a whole f.fitting k r narrow inner
        (level_passed o.width c (place_before s p) s.gap s.commented a f.fitting unended inner (h.level loose)) unended
        (unbroken f.flat (nat_lt (rank s.gap.level) (rank f.fitting)) inner) (or_right f.flat (is_narrow f.fitting) narrow)))
    | inr wide ↦ void_level o.width d q a f.fitting wide
  ];
}
  where
    below_narrow : (n m : ℕ) → nat_lt n 4 ≡ false → nat_lt m 4 ≡ true → nat_lt n m ≡ false
    below_narrow n m e f = grind (arith, nat_tests)

    unbroken : (x y : Bool) → y ≡ false → not x && y ≡ false
    unbroken true y e = refl
    unbroken false y e = e

begun_good : (o : LayoutOptions) (f : Frame) (c d : ℕ) (s : Spot) (ss : List Spot) (p : Distance) (a : Ahead) (whole n : Distance) (l : Level) → s.gap.level ≡ l → Measuring s ss p → Reaches (before_text p s.columns) a → f.flat ≡ false → s.gap.begins_line ≡ false → begins o (Some f) c s (measure s p a whole) ≡ true
    → Good o.width c (place_before s p) f (past_gap s.gap s.commented (place_before s p) a) n → Good o.width d (before_text p s.columns) (line_begun_at o f d s (measure s p a whole) l) a n
begun_good o f c d s ss p a whole n Listed is k r loose unended e h = record { flat = λ flat. absurd (not_true f.flat flat loose); level = λ other. fitting_fits o d Listed (measure s p a whole) }
begun_good o f c d s ss p a whole n Branched is k r loose unended e h = record { flat = λ flat. absurd (not_true f.flat flat loose); level = λ other. fitting_fits o d Branched (measure s p a whole) }
begun_good o f c d s ss p a whole n Disjoined is k r loose unended e h = record { flat = λ flat. absurd (not_true f.flat flat loose); level = λ other. fitting_fits o d Disjoined (measure s p a whole) }
begun_good o f c d s ss p a whole n Conjoined is k r loose unended e h = record { flat = λ flat. absurd (not_true f.flat flat loose); level = λ other. fitting_fits o d Conjoined (measure s p a whole) }
begun_good o f c d s ss p a whole n Related is k r loose unended e h = record { flat = λ flat. absurd (not_true f.flat flat loose); level = λ other. tt }
begun_good o f c d s ss p a whole n Added is k r loose unended e h = record { flat = λ flat. absurd (not_true f.flat flat loose); level = λ other. tt }
begun_good o f c d s ss p a whole n Multiplied is k r loose unended e h = record { flat = λ flat. absurd (not_true f.flat flat loose); level = λ other. tt }
begun_good o f c d s ss p a whole n Chained is k r loose unended e h = record { flat = λ flat. absurd (not_true f.flat flat loose); level = λ other. tt }
begun_good o f c d s ss p a whole n Packed is k r loose unended e h = same_frame o f c d s ss p (before_text p s.columns) a whole n k r (ap (λ l. nat_lt (rank l) 4) is) loose unended e h
begun_good o f c d s ss p a whole n Filled is k r loose unended e h = same_frame o f c d s ss p (before_text p s.columns) a whole n k r (ap (λ l. nat_lt (rank l) 4) is) loose unended e h
begun_good o f c d s ss p a whole n Fixed is k r loose unended e h = same_frame o f c d s ss p (before_text p s.columns) a whole n k r (ap (λ l. nat_lt (rank l) 4) is) loose unended e h

pub begun_flat : (o : LayoutOptions) (f : Frame) (d : ℕ) (s : Spot) (m : Measure) (l : Level) → (line_begun_at o f d s m l).flat ≡ f.flat
begun_flat o f d s m Listed = refl
begun_flat o f d s m Branched = refl
begun_flat o f d s m Disjoined = refl
begun_flat o f d s m Conjoined = refl
begun_flat o f d s m Related = refl
begun_flat o f d s m Added = refl
begun_flat o f d s m Multiplied = refl
begun_flat o f d s m Chained = refl
begun_flat o f d s m Packed = refl
begun_flat o f d s m Filled = refl
begun_flat o f d s m Fixed = refl

-- around another bracket that isn't flat either
above_same : (w c : ℕ) (p : Distance) (f g : Frame) (fs : List Frame) (ahead : List Ahead) → f.flat ≡ g.flat → Above w c p f fs ahead → Above w c p g fs ahead
above_same w c p f g [] ahead e h = tt
above_same w c p f g (x ∷ xs) [] e h = tt
above_same w c p f g (x ∷ xs) (a ∷ ahead) e (only, rest) = (λ loose. only (e ∙ loose), rest)

-- ---- behind a word

move_on : (w d : ℕ) (from p : Distance) (n : ℕ) → Step from p n → Moves w d from (plus d n) p
move_on w d from p n step r far h = within_on h step far

level_same : (w d : ℕ) (p : Distance) (a : Ahead) (e : Distance) (l : Level) → LevelFits w d p (record { branched = a.branched; disjoined = a.disjoined; conjoined = a.conjoined; related = a.related; added = a.added; multiplied = a.multiplied; chained = a.chained; packed = a.packed; ending = e }) l → LevelFits w d p a l
level_same w d p a e Listed h = h
level_same w d p a e Branched h = h
level_same w d p a e Disjoined h = h
level_same w d p a e Conjoined h = h
level_same w d p a e Related h = h
level_same w d p a e Added h = h
level_same w d p a e Multiplied h = h
level_same w d p a e Chained h = h
level_same w d p a e Packed h = h
level_same w d p a e Filled h = h
level_same w d p a e Fixed h = h

-- where a line of a bracket stands on one line, so does all of a bracket in it
narrow_fits : (w d : ℕ) (p : Distance) (a : Ahead) (l : Level) → Far p a.ending → Reaches a.ending a → is_narrow l ≡ true → LevelFits w d p a l → Within w d p a.ending
narrow_fits w d p a Listed near r e h = absurd h
narrow_fits w d p a Branched near r e h = within_nearer h near (far_on (far_on r.conjoined r.disjoined) r.branched)
narrow_fits w d p a Disjoined near r e h = within_nearer h near (far_on r.conjoined r.disjoined)
narrow_fits w d p a Conjoined near r e h = within_nearer h near r.conjoined
narrow_fits w d p a Related near r e h = absurd (not_true false e refl)
narrow_fits w d p a Added near r e h = absurd (not_true false e refl)
narrow_fits w d p a Multiplied near r e h = absurd (not_true false e refl)
narrow_fits w d p a Chained near r e h = absurd (not_true false e refl)
narrow_fits w d p a Packed near r e h = absurd (not_true false e refl)
narrow_fits w d p a Filled near r e h = absurd (not_true false e refl)
narrow_fits w d p a Fixed near r e h = absurd (not_true false e refl)

-- what is ahead behind a bracket ends where it does
ends_there : (p : Distance) (a : Ahead) → Reaches p a → Reaches a.ending a
ends_there p a r = record { ending = record { comments = omega arith; columns = omega arith }; conjoined = r.conjoined; disjoined = r.disjoined; branched = r.branched }

fine_fits : (w d : ℕ) (p : Distance) (g : Frame) (a : Ahead) (n : Distance) → Far p a.ending → Reaches a.ending a → Far a.ending n → is_fine g ≡ true → Good w d p g a n → Within w d p a.ending
fine_fits w d p g a n near r far fine h = elim (cases_Bool g.flat) [
  | inl flat ↦ within_nearer (h.flat flat) near far
  | inr loose ↦ narrow_fits w d p a g.fitting near r (narrow g.flat (is_narrow g.fitting) loose fine) (h.level loose)
]
  where
    narrow : (x y : Bool) → x ≡ false → x || y ≡ true → y ≡ true
    narrow true y e f = absurd (cc)
    narrow false y e f = f

popped : (w d : ℕ) (p : Distance) (f : Frame) (fs : List Frame) (ahead : List Ahead) → Above w d p f fs ahead → Holds w d p fs ahead
popped w d p f [] ahead h = tt
popped w d p f (g ∷ gs) [] h = tt
popped w d p f (g ∷ gs) (a ∷ ahead) (only, rest) = rest

bracket_holds : (ok ck : Bool) (w d depth inner deeper : ℕ) (from p : Distance) (n : ℕ) (fs : List Frame) (a : Ahead) (bs : List Ahead) → Step from p n → Far from p → Ordered p (a ∷ bs) → Holds w d from fs (aheads_at ok ck a bs)
    → Holds w (plus d n) p (cond ok (new_frame (fits_from w d from (whole_of (first_ahead bs))) depth inner deeper ∷ fs) (cond ck (without_frame fs) fs)) (a ∷ bs)
bracket_holds true ck w d depth inner deeper from p n fs a bs step behind order h = (opened, around fs bs order h)
  where
    opened : Good w (plus d n) p (new_frame (fits_from w d from (whole_of (first_ahead bs))) depth inner deeper) a (whole_of (first_ahead bs))
    opened = record {
      flat = λ e. within_on (fits_within w d from (whole_of (first_ahead bs)) e) step (far_on order.0.ending (far_next bs order.1));
      level = λ e. tt;
    }

    around : (fs : List Frame) (bs : List Ahead) → Ordered p (a ∷ bs) → Holds w d from fs (aheads_at true ck a bs) → Above w (plus d n) p (new_frame (fits_from w d from (whole_of (first_ahead bs))) depth inner deeper) fs bs
    around [] bs order h = tt
    around (g ∷ gs) [] order h = tt
    around (g ∷ gs) (b ∷ bs) (r, (q, order)) (good, above) =
        let mine : Good w d from g b (whole_of (first_ahead bs)) = record { flat = good.flat; level = λ e. level_same w d from b a.ending g.fitting (good.level e) } in
        let near : Far p b.ending = far_on r.ending q.ending in (
          λ broken. elim (cases_Bool (is_fine g)) [
            | inl fine ↦ absurd (not_true (fits_from w d from b.ending)
                (within_fits w d from b.ending (fine_fits w d from g b (whole_of (first_ahead bs)) (far_on behind near) (ends_there a.ending b q) (far_next bs order) fine mine)) broken)
            | inr other ↦ other
          ],
          (
            good_moved w d (plus d n) from p g b (whole_of (first_ahead bs)) (move_on w d from p n step)
                (record { ending = near; conjoined = q.conjoined; disjoined = q.disjoined; branched = q.branched }) (far_on near (far_next bs order)) mine,
            above_moved w d (plus d n) from p g gs bs (move_on w d from p n step) (sooner bs near order) above,
          ),
        )
bracket_holds false true w d depth inner deeper from p n [] a bs step behind order h = tt
bracket_holds false true w d depth inner deeper from p n (f ∷ fs) a bs step behind order (good, above) =
    holds_moved w d (plus d n) from p fs (a ∷ bs) (move_on w d from p n step) order (popped w d from f fs (a ∷ bs) above)
bracket_holds false false w d depth inner deeper from p n fs a bs step behind order h = holds_moved w d (plus d n) from p fs (a ∷ bs) (move_on w d from p n step) order h

-- ---- one word

closes_only : (kind : TokenKind) → closes kind ≡ true → opens kind ≡ false
closes_only OpenParen e = absurd (not_true false e refl)
closes_only OpenBrace e = absurd (not_true false e refl)
closes_only OpenBracket e = absurd (not_true false e refl)
closes_only kind e = refl

abbrev pub ahead_if : Bool → Ahead → List Ahead → Ahead
ahead_if ok a bs = cond ok (at_opening (first_ahead bs) a) a

abbrev pub behind_if : Bool → Bool → Ahead → List Ahead → List Ahead
behind_if ok ck a bs = cond ok (measures.without_first bs) (cond ck (a ∷ bs) bs)

-- behind a word with which a bracket opens or closes, or neither, in a line that the frames are of
abbrev frames_if : LayoutOptions → Bool → Bool → ℕ → ℕ → Spot → Distance → List Ahead → List Frame → List Frame
frames_if o ok ck d depth s p bs fs =
    cond ok (new_frame (fits_from o.width d (before_text p s.columns) (whole_of (first_ahead bs))) depth (plus depth o.indent) (plus (plus depth o.indent) o.indent) ∷ fs) (cond ck (without_frame fs) fs)

pub at_word_ordered : (ok ck : Bool) (s : Spot) (ss : List Spot) (p : Distance) (a : Ahead) (bs : List Ahead) → Measuring s ss p → Ordered p (a ∷ bs) → Ordered (before_text p s.columns) (ahead_if ok a bs ∷ behind_if ok ck a bs)
at_word_ordered ok ck s ss p a bs k order = sooner (aheads_at ok ck a bs) (word_far s ss p k.small k.room) (word_ordered ok ck p a bs order)

-- in a bracket that is flat the word begins no line
pub whole_stays : (ok ck : Bool) (o : LayoutOptions) (f : Frame) (fs : List Frame) (c : ℕ) (s : Spot) (ss : List Spot) (p : Distance) (a : Ahead) (bs : List Ahead) → Measuring s ss p → Ordered p (a ∷ bs) → s.gap.begins_line ≡ false → f.flat ≡ true
    → Holds o.width c (place_before s p) (f ∷ fs) (past_gap s.gap s.commented (place_before s p) (ahead_if ok a bs) ∷ behind_if ok ck a bs)
    → begins o (Some f) c s (measure s p (ahead_if ok a bs) (whole_of (first_ahead bs))) ≡ false
whole_stays ok ck o f fs c s ss p a bs k order unended flat (good, above) =
    let at = at_word_ordered ok ck s ss p a bs k order in
    flat_stays o f c s ss p (ahead_if ok a bs) (whole_of (first_ahead bs)) (whole_of (first_ahead (behind_if ok ck a bs))) k at.0.ending (far_next (behind_if ok ck a bs) at.1) flat (good.flat flat) unended

-- where the word begins a line
begun_holds : (ok ck cl : Bool) (o : LayoutOptions) (f : Frame) (fs : List Frame) (c d depth : ℕ) (s : Spot) (ss : List Spot) (p : Distance) (a : Ahead) (bs : List Ahead) → Measuring s ss p → Ordered p (a ∷ bs) → s.gap.begins_line ≡ false → (cl ≡ true → (ok ≡ false) × (ck ≡ true))
    → begins o (Some f) c s (measure s p (ahead_if ok a bs) (whole_of (first_ahead bs))) ≡ true
    → Holds o.width c (place_before s p) (f ∷ fs) (past_gap s.gap s.commented (place_before s p) (ahead_if ok a bs) ∷ behind_if ok ck a bs)
    → Holds o.width (plus d s.columns) p (frames_if o ok ck d depth s p bs (cond cl f (line_begun_at o f d s (measure s p (ahead_if ok a bs) (whole_of (first_ahead bs))) s.gap.level) ∷ fs)) (a ∷ bs)
begun_holds ok ck cl o f fs c d depth s ss p a bs k order unended closing e (good, above) =
    let at = at_word_ordered ok ck s ss p a bs k order in
    let whole = whole_of (first_ahead bs) in
    elim (cases_Bool f.flat) [
      | inl flat ↦ absurd (not_true (begins o (Some f) c s (measure s p (ahead_if ok a bs) whole)) e
          (flat_stays o f c s ss p (ahead_if ok a bs) whole (whole_of (first_ahead (behind_if ok ck a bs))) k at.0.ending (far_next (behind_if ok ck a bs) at.1) flat (good.flat flat) unended))
      | inr loose ↦ opened ok ck cl closing at e good above loose
    ]
  where
    n : Distance
    n = place_before s p

    opened : (ok ck cl : Bool) → (cl ≡ true → (ok ≡ false) × (ck ≡ true)) → Ordered (before_text p s.columns) (ahead_if ok a bs ∷ behind_if ok ck a bs) → begins o (Some f) c s (measure s p (ahead_if ok a bs) (whole_of (first_ahead bs))) ≡ true
        → Good o.width c (place_before s p) f (past_gap s.gap s.commented (place_before s p) (ahead_if ok a bs)) (whole_of (first_ahead (behind_if ok ck a bs))) → Above o.width c (place_before s p) f fs (behind_if ok ck a bs) → f.flat ≡ false
        → Holds o.width (plus d s.columns) p (frames_if o ok ck d depth s p bs (cond cl f (line_begun_at o f d s (measure s p (ahead_if ok a bs) (whole_of (first_ahead bs))) s.gap.level) ∷ fs)) (a ∷ bs)
    opened true ck true closing at e good above loose = absurd (not_true true refl (closing refl).0)
    opened false false true closing at e good above loose = absurd (not_true false (closing refl).1 refl)
    opened false true true closing at e good above loose = popped o.width (plus d s.columns) p f fs (a ∷ bs) (void_above o.width c (plus d s.columns) (place_before s p) p f fs (a ∷ bs) loose above)
    opened ok ck false closing at e good above loose =
        let m = measure s p (ahead_if ok a bs) (whole_of (first_ahead bs)) in
        let g = line_begun_at o f d s m s.gap.level in
        bracket_holds ok ck o.width d depth (plus depth o.indent) (plus (plus depth o.indent) o.indent) (before_text p s.columns) p s.columns (g ∷ fs) a bs (word_step s ss p k.small k.room) (word_far s ss p k.small k.room) order (
          begun_good o f c d s ss p (ahead_if ok a bs) (whole_of (first_ahead bs)) (whole_of (first_ahead (behind_if ok ck a bs))) s.gap.level refl k at.0 loose unended e good,
          above_same o.width d (before_text p s.columns) f g fs (behind_if ok ck a bs) (sym (begun_flat o f d s m s.gap.level))
              (void_above o.width c d (place_before s p) (before_text p s.columns) f fs (behind_if ok ck a bs) loose above),
        )

-- behind a word, on its line or on a new one
pub word_holds : (b : Bool) (o : LayoutOptions) (t : State) (s : Spot) (ss : List Spot) (p : Distance) (a : Ahead) (bs : List Ahead) → Measuring s ss p → Ordered p (a ∷ bs) → Known t.frames s.gap → Closing s.kind s.gap
    → begins o (first_frame t.frames) t.column s (measure_at s (first_ahead bs) a p) ≡ b
    → Holds o.width t.column (place_before s p) t.frames (past_gap s.gap s.commented (place_before s p) (ahead_at s.kind (first_ahead bs) a) ∷ measures.behind_word s.kind bs a)
    → Holds o.width (plus (at_word o b t s (measure_at s (first_ahead bs) a p)).column s.columns) p
    (frames_if o (opens s.kind) (closes s.kind) (at_word o b t s (measure_at s (first_ahead bs) a p)).column (at_word o b t s (measure_at s (first_ahead bs) a p)).depth s p bs (at_word o b t s (measure_at s (first_ahead bs) a p)).frames) (a ∷ bs)
word_holds false o t s ss p a bs k order known closing e h =
    let at = at_word_ordered (opens s.kind) (closes s.kind) s ss p a bs k order in
    bracket_holds (opens s.kind) (closes s.kind) o.width (plus t.column (ones s.gap.spaced)) t.depth (plus t.depth o.indent) (plus (plus t.depth o.indent) o.indent) (before_text p s.columns) p s.columns t.frames a bs (word_step s ss p k.small k.room) (word_far s ss p k.small k.room) order
    (goes_on_there o t.frames t.column s ss p (ahead_if (opens s.kind) a bs) (behind_if (opens s.kind) (closes s.kind) a bs) (whole_of (first_ahead bs)) k at e h)
word_holds true o t s ss p a bs k order known closing e h = framed t.frames known e h
  where
    m : Measure
    m = measure_at s (first_ahead bs) a p

    framed : (fs : List Frame) → Known fs s.gap → begins o (first_frame fs) t.column s (measure_at s (first_ahead bs) a p) ≡ true
        → Holds o.width t.column (place_before s p) fs (past_gap s.gap s.commented (place_before s p) (ahead_at s.kind (first_ahead bs) a) ∷ measures.behind_word s.kind bs a)
        → Holds o.width (plus (line_depth o (first_frame fs) s.gap) s.columns) p
        (frames_if o (opens s.kind) (closes s.kind) (line_depth o (first_frame fs) s.gap) (line_depth o (first_frame fs) s.gap) s p bs (line_frames o (line_depth o (first_frame fs) s.gap) fs s (measure_at s (first_ahead bs) a p))) (a ∷ bs)
    framed [] known e h =
        bracket_holds (opens s.kind) (closes s.kind) o.width 0 0 (plus 0 o.indent) (plus (plus 0 o.indent) o.indent) (before_text p s.columns) p s.columns [] a bs (word_step s ss p k.small k.room) (word_far s ss p k.small k.room) order tt
    framed (f ∷ fs) known e h =
        begun_holds (opens s.kind) (closes s.kind) s.gap.closing o f fs t.column (line_depth o (Some f) s.gap) (line_depth o (Some f) s.gap) s ss p a bs k order known
        (λ c. (closes_only s.kind (closing c), closing c)) e h

-- ---- whether a line could have ended

pub ending_same : (ok : Bool) (a : Ahead) (bs : List Ahead) → (ahead_if ok a bs).ending ≡ a.ending
ending_same true a [] = refl
ending_same true a (b ∷ bs) = refl
ending_same false a bs = refl

-- behind a gap of its line at which it could have ended, what follows up to the next such gap fits
pub choice_on : (o : LayoutOptions) (fs : List Frame) (c : ℕ) (s : Spot) (ss : List Spot) (p : Distance) (a : Ahead) (ahead : List Ahead) (whole : Distance) (before : Bool) → Measuring s ss p → Ordered (before_text p s.columns) (a ∷ ahead) → Known fs s.gap → begins o (first_frame fs) c s (measure s p a whole) ≡ false
    → Holds o.width c (place_before s p) fs (past_gap s.gap s.commented (place_before s p) a ∷ ahead)
    → (before ≡ true → Within o.width c (place_before s p) (past_gap s.gap s.commented (place_before s p) a).ending)
    → before || may_end_line s.gap.level ≡ true → Within o.width (plus c (ones s.gap.spaced)) (before_text p s.columns) a.ending
choice_on o fs c s ss p a ahead whole before k order known e h until choice = elim (cases_Bool (may_end_line s.gap.level)) [
  | inl may ↦ here fs known e h may
  | inr fixed ↦
      let n = none_of s.commented s.gap.begins_line (breaks_level (first_frame fs) s.gap.level) (breaks_loosely o (first_frame fs) c s (measure s p a whole)) e in
      let ends_not : ends_line s.gap Fixed || s.commented ≡ false = both_false (ends_line s.gap Fixed) s.commented (both_false s.gap.begins_line (may_end_line s.gap.level) n.unended fixed) n.commented in
      within_on (subst (λ b. Within o.width c (place_before s p) (nearer b (place_before s p) a.ending)) ends_not (until (one_of before (may_end_line s.gap.level) choice fixed))) (gap_step s ss p k.small k.room n.commented) order.0.ending
]
  where
    one_of : (x y : Bool) → x || y ≡ true → y ≡ false → x ≡ true
    one_of true y e f = refl
    one_of false y e f = absurd (not_true y e f)

    here : (fs : List Frame) → Known fs s.gap → begins o (first_frame fs) c s (measure s p a whole) ≡ false → Holds o.width c (place_before s p) fs (past_gap s.gap s.commented (place_before s p) a ∷ ahead) → may_end_line s.gap.level ≡ true → Within o.width (plus c (ones s.gap.spaced)) (before_text p s.columns) a.ending
    here [] known e h may = absurd (not_true (may_end_line s.gap.level) may known)
    here (f ∷ fs) known e h may =
        choice_fits o f c s p a whole (whole_of (first_ahead ahead)) order.0 (far_next ahead order.1) (goes_on_there o (f ∷ fs) c s ss p a ahead whole k order e h).0 may
        (none_of s.commented s.gap.begins_line (breaks_level (Some f) s.gap.level) (breaks_loosely o (Some f) c s (measure s p a whole)) e)
