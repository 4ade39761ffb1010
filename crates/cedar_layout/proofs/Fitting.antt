-- No word passes the width behind a gap of its line at which that may end.
use Rattle.std.proofs.Common.{◌≡◌, ℕ, ◌+◌, ◌-◌, ◌≤◌, ◌<◌, ◌^◌, Bool, true, false, cond, List, [], ◌∷◌, refl, ap, ◌∙◌, subst, arith, Some}
use Rattle.std.specs.Prelude.{◌&&◌, ◌||◌, ◌==◌, not, nat_lt, nat_le}
use Rattle.std.proofs.lemmas.Bool.{and_parts}
use Rattle.std.proofs.lemmas.Bool.Decides.{nat_tests}
use Rattle.cedar_layout.specs.declared.frames.Frame.{Frame}
use Rattle.cedar_layout.specs.declared.gaps.Gap.{Gap}
use Rattle.cedar_layout.specs.declared.levels.Level.{Level}
use Rattle.cedar_layout.specs.declared.levels.Level.TheVariants.{Listed, Branched, Disjoined, Conjoined, Related, Added, Multiplied, Chained, Packed, Filled, Fixed}
use Rattle.cedar_layout.specs.declared.measures.Ahead.{Ahead}
use Rattle.cedar_layout.specs.declared.measures.Distance.{Distance}
use Rattle.cedar_layout.specs.declared.spots.Spot.{Spot}
use Rattle.cedar_layout.specs.Frames.{breaks_level, is_fine}
use Rattle.cedar_layout.specs.Kinds.{opens, closes}
use Rattle.cedar_layout.specs.Levels.{rank}
use Rattle.cedar_layout.specs.Measures.{plus, fits_from, the_end, ones, before_text, ends_line, nearer, past_gap, first_ahead, at_opening, whole_of, without_first, place_before, scanned}
use Rattle.cedar_layout.proofs.Extents.{extent}

-- ---- distances

-- the second place isn't before the first
pub record Far (near far : Distance) : Type 0 where
  pub comments : far.comments ≤ near.comments
  pub columns : far.columns ≤ near.columns

pub far_same : (p : Distance) → Far p p
far_same p = record { comments = omega arith; columns = omega arith }

pub far_on : {p q r : Distance} → Far p q → Far q r → Far p r
far_on a b = record { comments = omega (arith, a.comments, b.comments); columns = omega (arith, a.columns, b.columns) }

-- what stands up to a place fits, as a proposition
pub record Within (width column : ℕ) (from to : Distance) : Type 0 where
  pub comments : from.comments ≡ to.comments
  pub columns : plus column (from.columns - to.columns) ≤ width

pub within_fits : (w c : ℕ) (p q : Distance) → Within w c p q → fits_from w c p q ≡ true
within_fits w c p q h = grind (arith, nat_tests, h.comments, h.columns)

pub fits_within : (w c : ℕ) (p q : Distance) → fits_from w c p q ≡ true → Within w c p q
fits_within w c p q e = let h = and_parts (p.comments == q.comments) (nat_le (plus c (p.columns - q.columns)) w) e in record { comments = grind (arith, nat_tests, h.0); columns = grind (arith, nat_tests, h.1) }

-- a nearer place fits too
pub within_nearer : {w c : ℕ} {p q r : Distance} → Within w c p r → Far p q → Far q r → Within w c p q
within_nearer h a b = record { comments = omega (arith, h.comments, a.comments, b.comments); columns = omega (arith, h.columns, a.columns, b.columns) }

-- and further on the same fits
pub record Step (p q : Distance) (n : ℕ) : Type 0 where
  pub comments : p.comments ≡ q.comments
  pub columns : p.columns ≡ q.columns + n

pub within_on : {w c : ℕ} {p q r : Distance} {n : ℕ} → Within w c p r → Step p q n → Far q r → Within w (plus c n) q r
within_on h s f = record { comments = omega (arith, h.comments, s.comments); columns = omega (arith, h.columns, s.columns, f.columns) }

-- what stands up to there is short enough itself
pub within_end : {w c : ℕ} {p q r : Distance} {n : ℕ} → Within w c p r → Step p q n → Far q r → plus c n ≤ w
within_end h s f = omega (arith, h.columns, s.columns, f.columns)

-- ---- what is ahead of a place

pub record Reaches (p : Distance) (a : Ahead) : Type 0 where
  pub ending : Far p a.ending
  pub conjoined : Far a.ending a.conjoined
  pub disjoined : Far a.conjoined a.disjoined
  pub branched : Far a.disjoined a.branched

-- in the innermost bracket, and in those around it behind the ends of the brackets in them
abbrev pub Ordered : Distance → List Ahead → Type 0
Ordered p [] = Unit {0}
Ordered p (a ∷ ahead) = Reaches p a × Ordered a.ending ahead

pub sooner : {p q : Distance} (ahead : List Ahead) → Far p q → Ordered q ahead → Ordered p ahead
sooner [] f h = tt
sooner (a ∷ ahead) f (r, h) = (record { ending = far_on f r.ending; conjoined = r.conjoined; disjoined = r.disjoined; branched = r.branched }, h)

pub far_next : {p : Distance} (ahead : List Ahead) → Ordered p ahead → Far p (whole_of (first_ahead ahead))
far_next [] h = record { comments = omega arith; columns = omega arith }
far_next (a ∷ ahead) h = h.0.ending

abbrev pub aheads_at : Bool → Bool → Ahead → List Ahead → List Ahead
aheads_at o c a bs = cond o (at_opening (first_ahead bs) a) a ∷ cond o (without_first bs) (cond c (a ∷ bs) bs)

pub word_ordered : (o c : Bool) (p : Distance) (a : Ahead) (bs : List Ahead) → Ordered p (a ∷ bs) → Ordered p (aheads_at o c a bs)
word_ordered true c p a [] (r, h) = (r, tt)
word_ordered true c p a (b ∷ bs) (r, (s, h)) = (
  record { ending = r.ending; conjoined = far_on s.ending s.conjoined; disjoined = s.disjoined; branched = s.branched },
  sooner bs s.ending h,
)
word_ordered false true p a bs (r, h) = (r, (record { ending = far_same a.ending; conjoined = r.conjoined; disjoined = r.disjoined; branched = r.branched }, h))
word_ordered false false p a bs (r, h) = (r, h)

pub nearer_far : (c : Bool) {p x : Distance} → Far p x → Far p (nearer c p x)
nearer_far true {p = p} f = far_same p
nearer_far false f = f

pub both_nearer : (d c : Bool) {p x y : Distance} → (c ≡ true → d ≡ true) → Far p y → Far x y → Far (nearer d p x) (nearer c p y)
both_nearer true true {p = p} i f g = far_same p
both_nearer true false i f g = f
both_nearer false true i f g = absurd (differ (i refl))
  where
    differ : false ≡ true → ⊥
    differ e = cc
both_nearer false false i f g = g

pub ends_more : (line : Bool) (r m n : ℕ) → m ≤ n → line || nat_lt r m ≡ true → line || nat_lt r n ≡ true
ends_more true r m n le e = refl
ends_more false r m n le e = grind (arith, nat_tests)

pub or_left : (a b : Bool) → a ≡ true → a || b ≡ true
or_left true b e = refl
or_left false b e = absurd (cc)

pub back_from : (c : Bool) {p x : Distance} → Far p x → Far (nearer c p x) x
back_from true f = f
back_from false {x = x} f = far_same x

pub past_ordered : (g : Gap) (commented : Bool) (p q : Distance) (a : Ahead) (ahead : List Ahead) → Far p q → Ordered q (a ∷ ahead) → Ordered p (past_gap g commented p a ∷ ahead)
past_ordered g commented p q a ahead f (r, h) =
    let line = g.begins_line in
    let k = rank g.level in
    let ending = far_on f r.ending in
    let conjoined = far_on ending r.conjoined in
    let disjoined = far_on conjoined r.disjoined in
    let branched = far_on disjoined r.branched in (
      record {
        ending = nearer_far (ends_line g Fixed || commented) ending;
        conjoined = both_nearer (ends_line g Fixed || commented) (ends_line g Conjoined) (λ e. or_left (ends_line g Fixed) commented (ends_more line k 3 10 (omega arith) e)) conjoined r.conjoined;
        disjoined = both_nearer (ends_line g Conjoined) (ends_line g Disjoined) (ends_more line k 2 3 (omega arith)) disjoined r.disjoined;
        branched = both_nearer (ends_line g Disjoined) (ends_line g Branched) (ends_more line k 1 2 (omega arith)) branched r.branched;
      },
      sooner ahead (back_from (ends_line g Fixed || commented) ending) h,
    )

-- ---- from one word to the next

pub ones_small : (b : Bool) → ones b ≤ 1
ones_small true = omega arith
ones_small false = omega arith

-- all distances of a text that isn't too long
pub record Room (ss : List Spot) (p : Distance) : Type 0 where
  pub comments : p.comments ≤ extent ss
  pub columns : p.columns ≤ extent ss

pub room_more : (s : Spot) (ss : List Spot) (p : Distance) → extent (s ∷ ss) < 2 ^ 64 → Room ss p → Room (s ∷ ss) (place_before s p)
room_more s ss p small h = record {
  comments = omega (arith, h.comments, ones_small s.commented);
  columns = omega (arith, h.columns, ones_small s.gap.spaced);
}

pub less : (s : Spot) (ss : List Spot) → extent (s ∷ ss) < 2 ^ 64 → extent ss < 2 ^ 64
less s ss small = omega (arith, small)

pub room : (ss : List Spot) → extent ss < 2 ^ 64 → Room ss (scanned ss).place
room [] small = record { comments = omega arith; columns = omega arith }
room (s ∷ ss) small = room_more s ss (scanned ss).place small (room ss (less s ss small))

pub word_step : (s : Spot) (ss : List Spot) (p : Distance) → extent (s ∷ ss) < 2 ^ 64 → Room ss p → Step (before_text p s.columns) p s.columns
word_step s ss p small h = record { comments = refl; columns = omega (arith, h.columns, small) }

pub gap_step : (s : Spot) (ss : List Spot) (p : Distance) → extent (s ∷ ss) < 2 ^ 64 → Room ss p → s.commented ≡ false → Step (place_before s p) (before_text p s.columns) (ones s.gap.spaced)
gap_step s ss p small h plain = record {
  comments = ap (λ b. plus p.comments (ones b)) plain ∙ omega (arith, h.comments, small);
  columns = omega (arith, h.columns, small, ones_small s.gap.spaced);
}

pub comment_step : (s : Spot) (ss : List Spot) (p : Distance) → extent (s ∷ ss) < 2 ^ 64 → Room ss p → s.commented ≡ true → p.comments < (place_before s p).comments
comment_step s ss p small h commented =
    let e : plus p.comments (ones s.commented) ≡ plus p.comments 1 = ap (λ b. plus p.comments (ones b)) commented in
    omega (arith, e, h.comments, small)

pub word_far : (s : Spot) (ss : List Spot) (p : Distance) → extent (s ∷ ss) < 2 ^ 64 → Room ss p → Far (before_text p s.columns) p
word_far s ss p small h = record { comments = omega arith; columns = omega (arith, h.columns, small) }

pub place_far : (s : Spot) (ss : List Spot) (p : Distance) → extent (s ∷ ss) < 2 ^ 64 → Room ss p → Far (place_before s p) p
place_far s ss p small h = record { comments = omega (arith, h.comments, small, ones_small s.commented); columns = omega (arith, h.columns, small, ones_small s.gap.spaced) }

pub scan_ordered : (ss : List Spot) → extent ss < 2 ^ 64 → Ordered (scanned ss).place ((scanned ss).ahead ∷ (scanned ss).behind)
scan_ordered [] small = (record { ending = far_same the_end; conjoined = far_same the_end; disjoined = far_same the_end; branched = far_same the_end }, tt)
scan_ordered (s ∷ ss) small =
    let u = scanned ss in
    past_ordered s.gap s.commented (place_before s u.place) u.place _ _ (place_far s ss u.place small (room ss (less s ss small)))
    (word_ordered (opens s.kind) (closes s.kind) u.place u.ahead u.behind (scan_ordered ss (less s ss small)))

-- ---- what is known of the open brackets

-- the gaps of a line in a bracket are of no level outside of this one, or it needn't be known
abbrev pub LevelFits : ℕ → ℕ → Distance → Ahead → Level → Type 0
LevelFits w c p a Listed = ⊥
LevelFits w c p a Branched = Within w c p a.branched
LevelFits w c p a Disjoined = Within w c p a.disjoined
LevelFits w c p a Conjoined = Within w c p a.conjoined
LevelFits w c p a Related = Unit {0}
LevelFits w c p a Added = Unit {0}
LevelFits w c p a Multiplied = Unit {0}
LevelFits w c p a Chained = Unit {0}
LevelFits w c p a Packed = Unit {0}
LevelFits w c p a Filled = Unit {0}
LevelFits w c p a Fixed = Unit {0}

pub record Good (w c : ℕ) (p : Distance) (f : Frame) (a : Ahead) (next : Distance) : Type 0 where
  pub flat : f.flat ≡ true → Within w c p next
  pub level : f.flat ≡ false → LevelFits w c p a f.fitting

abbrev pub is_narrow : Level → Bool
is_narrow l = nat_lt (rank l) (rank Related)

-- where a bracket isn't flat, no line of those around it stands on one line
abbrev pub Above : ℕ → ℕ → Distance → Frame → List Frame → List Ahead → Type 0
Above w c p f [] ahead = Unit {0}
Above w c p f (g ∷ gs) [] = Unit {0}
Above w c p f (g ∷ gs) (a ∷ ahead) = (f.flat ≡ false → is_fine g ≡ false) × (Good w c p g a (whole_of (first_ahead ahead)) × Above w c p g gs ahead)

abbrev pub Holds : ℕ → ℕ → Distance → List Frame → List Ahead → Type 0
Holds w c p [] ahead = Unit {0}
Holds w c p (f ∷ fs) [] = Unit {0}
Holds w c p (f ∷ fs) (a ∷ ahead) = Good w c p f a (whole_of (first_ahead ahead)) × Above w c p f fs ahead

-- ---- a line goes on

abbrev pub Moves : ℕ → ℕ → Distance → ℕ → Distance → Type 0
Moves w c p d q = (r : Distance) → Far q r → Within w c p r → Within w d q r

pub level_moved : (w c d : ℕ) (p q : Distance) (a : Ahead) (l : Level) → Moves w c p d q → Reaches q a → LevelFits w c p a l → LevelFits w d q a l
level_moved w c d p q a Listed move r h = h
level_moved w c d p q a Branched move r h = move a.branched (far_on (far_on (far_on r.ending r.conjoined) r.disjoined) r.branched) h
level_moved w c d p q a Disjoined move r h = move a.disjoined (far_on (far_on r.ending r.conjoined) r.disjoined) h
level_moved w c d p q a Conjoined move r h = move a.conjoined (far_on r.ending r.conjoined) h
level_moved w c d p q a Related move r h = tt
level_moved w c d p q a Added move r h = tt
level_moved w c d p q a Multiplied move r h = tt
level_moved w c d p q a Chained move r h = tt
level_moved w c d p q a Packed move r h = tt
level_moved w c d p q a Filled move r h = tt
level_moved w c d p q a Fixed move r h = tt

pub good_moved : (w c d : ℕ) (p q : Distance) (f : Frame) (a : Ahead) (n : Distance) → Moves w c p d q → Reaches q a → Far q n → Good w c p f a n → Good w d q f a n
good_moved w c d p q f a n move r far h = record {
  flat = λ e. move n far (h.flat e);
  level = λ e. level_moved w c d p q a f.fitting move r (h.level e);
}

pub above_moved : (w c d : ℕ) (p q : Distance) (f : Frame) (fs : List Frame) (ahead : List Ahead) → Moves w c p d q → Ordered q ahead → Above w c p f fs ahead → Above w d q f fs ahead
above_moved w c d p q f [] ahead move o h = tt
above_moved w c d p q f (g ∷ gs) [] move o h = tt
above_moved w c d p q f (g ∷ gs) (a ∷ ahead) move (r, o) (only, (good, above)) = (
  only,
  (
    good_moved w c d p q g a (whole_of (first_ahead ahead)) move r (far_on r.ending (far_next ahead o)) good,
    above_moved w c d p q g gs ahead move (sooner ahead r.ending o) above,
  ),
)

pub holds_moved : (w c d : ℕ) (p q : Distance) (fs : List Frame) (ahead : List Ahead) → Moves w c p d q → Ordered q ahead → Holds w c p fs ahead → Holds w d q fs ahead
holds_moved w c d p q [] ahead move o h = tt
holds_moved w c d p q (f ∷ fs) [] move o h = tt
holds_moved w c d p q (f ∷ fs) (a ∷ ahead) move (r, o) (good, above) = (
  good_moved w c d p q f a (whole_of (first_ahead ahead)) move r (far_on r.ending (far_next ahead o)) good,
  above_moved w c d p q f fs ahead move (sooner ahead r.ending o) above,
)

-- ---- at a gap

pub both_false : (a b : Bool) → a ≡ false → b ≡ false → a || b ≡ false
both_false true b e f = absurd (cc)
both_false false b e f = f

-- what is ahead before a gap that doesn't end the line is ahead behind it
pub level_passed : (w c : ℕ) (p : Distance) (g : Gap) (commented : Bool) (a : Ahead) (l : Level) → g.begins_line ≡ false → nat_lt (rank g.level) (rank l) ≡ false → LevelFits w c p (past_gap g commented p a) l → LevelFits w c p a l
level_passed w c p g commented a Listed line inner h = h
level_passed w c p g commented a Branched line inner h = subst (λ b. Within w c p (nearer b p a.branched)) (both_false g.begins_line (nat_lt (rank g.level) 1) line inner) h
level_passed w c p g commented a Disjoined line inner h = subst (λ b. Within w c p (nearer b p a.disjoined)) (both_false g.begins_line (nat_lt (rank g.level) 2) line inner) h
level_passed w c p g commented a Conjoined line inner h = subst (λ b. Within w c p (nearer b p a.conjoined)) (both_false g.begins_line (nat_lt (rank g.level) 3) line inner) h
level_passed w c p g commented a Related line inner h = tt
level_passed w c p g commented a Added line inner h = tt
level_passed w c p g commented a Multiplied line inner h = tt
level_passed w c p g commented a Chained line inner h = tt
level_passed w c p g commented a Packed line inner h = tt
level_passed w c p g commented a Filled line inner h = tt
level_passed w c p g commented a Fixed line inner h = tt

pub inner_level : (f : Frame) (l : Level) → f.flat ≡ false → breaks_level (Some f) l ≡ false → nat_lt (rank l) (rank f.fitting) ≡ false
inner_level f l loose e = right f.flat (nat_lt (rank l) (rank f.fitting)) loose e
  where
    right : (x y : Bool) → x ≡ false → not x && y ≡ false → y ≡ false
    right true y e h = absurd (cc)
    right false y e h = h

pub good_passed : (w c : ℕ) (p : Distance) (g : Gap) (commented : Bool) (f : Frame) (a : Ahead) (n : Distance) → g.begins_line ≡ false → breaks_level (Some f) g.level ≡ false → Good w c p f (past_gap g commented p a) n → Good w c p f a n
good_passed w c p g commented f a n line unbroken h = record {
  flat = h.flat;
  level = λ loose. level_passed w c p g commented a f.fitting line (inner_level f g.level loose unbroken) (h.level loose);
}
