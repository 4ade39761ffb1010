-- The style keeps the width.
use Rattle.std.proofs.Common.{◌≡◌, ℕ, ◌≤◌, ◌<◌, ◌^◌, Bool, true, false, cond, List, [], ◌∷◌, length, refl, sym, ap, subst, arith, Option, Some, None}
use Rattle.std.specs.Prelude.{◌&&◌, ◌||◌, not, nat_lt, slice_index}
use Rattle.cedar_lexer.specs.Words.{TokenText}
use Rattle.cedar_lexer.specs.declared.token.TokenKind.{TokenKind}
use Rattle.cedar_layout.specs.declared.brackets.Bracket.{Bracket}
use Rattle.cedar_layout.specs.declared.decisions.BlankRule.{BlankRule}
use Rattle.cedar_layout.specs.declared.decisions.Form.TheVariants.{Joined, Apart}
use Rattle.cedar_layout.specs.declared.frames.Frame.{Frame}
use Rattle.cedar_layout.specs.declared.levels.Level.{Level}
use Rattle.cedar_layout.specs.declared.levels.Level.TheVariants.{Listed, Branched, Disjoined, Conjoined, Related, Added, Multiplied, Chained, Packed, Filled, Fixed}
use Rattle.cedar_layout.specs.declared.measures.Measure.{Measure}
use Rattle.cedar_layout.specs.declared.measures.MeasuredWord.{MeasuredWord}
use Rattle.cedar_layout.specs.declared.options.LayoutOptions.{LayoutOptions}
use Rattle.cedar_layout.specs.declared.spots.Spot.{Spot}
use Rattle.cedar_layout.specs.Brackets.{innermost_of, brackets_behind}
use Rattle.cedar_layout.specs.Frames.{breaks_level, is_fine, line_depth}
use Rattle.cedar_layout.specs.Gaps.{gap_at, gap_between}
use Rattle.cedar_layout.specs.Hugs.{first_flag, rest_flags, hugs_of}
use Rattle.cedar_layout.specs.Kinds.{opens, closes}
use Rattle.cedar_layout.specs.Laid.{Separator, nothing, space, Before, start, behind_word, behind_comment, goes_on}
use Rattle.cedar_layout.specs.Layouts.{begun_line, separate, between_words, laid_items, laid_out}
use Rattle.cedar_layout.specs.Levels.{rank}
use Rattle.cedar_layout.specs.Measures.{plus, ones, before_text, first_ahead, whole_of, measure_at, scanned, words_measured}
use Rattle.cedar_layout.specs.Pieces.{Item, word, beside, below, SpacedItem, items_of, IsReadAs}
use Rattle.cedar_layout.specs.Spots.{spot_at, spots_from, spots_of}
use Rattle.cedar_layout.specs.Style as style
use Rattle.cedar_layout.specs.Style.{State, first_frame, is_loose, next_column, fills, operand_breaks_at, breaks_loosely, begins, begun_decision, joined_decision, word_decision, at_word, past_comment, first_state, planned, next_gap}
use Rattle.cedar_layout.specs.Widths.{may_end_line, column_at, has_choice, separators_of, StaysWithin, KeepsWidth}
use Rattle.cedar_layout.proofs.Extents.{extent, text_extent}
use Rattle.cedar_layout.proofs.Kept.{laid_stand, laid_same}
use Rattle.cedar_layout.proofs.Stood.{read_stands}
use Rattle.cedar_layout.proofs.Fitting.{Within, within_on, within_end, less, room, word_step, scan_ordered, Holds}
use Rattle.cedar_layout.proofs.KnownGaps.{AreAsMany, as_many_begun, as_many_behind, gap_closing, gap_known, not_true}
use Rattle.cedar_layout.proofs.Begun.{Measuring, ahead_if, at_word_ordered, behind_if, choice_on, ending_same, word_holds}

-- ---- what is written before a word

-- nothing, a word of this kind or a comment stood before, as the spots say
abbrev pub Linked : Before → Option TokenKind → Bool → Type 0
Linked start last commented = (last ≡ None) × (commented ≡ false)
Linked (behind_word kind) last commented = (last ≡ Some kind) × (commented ≡ false)
Linked behind_comment last commented = commented ≡ true

pub fixed_stays : (f : Option Frame) → breaks_level f Fixed ≡ false
fixed_stays None = refl
fixed_stays (Some f) = inside f.flat f.fitting
  where
    inside : (b : Bool) (l : Level) → not b && nat_lt 10 (rank l) ≡ false
    inside true l = refl
    inside false Listed = refl
    inside false Branched = refl
    inside false Disjoined = refl
    inside false Conjoined = refl
    inside false Related = refl
    inside false Added = refl
    inside false Multiplied = refl
    inside false Chained = refl
    inside false Packed = refl
    inside false Filled = refl
    inside false Fixed = refl

pub fixed_holds : (o : LayoutOptions) (f : Option Frame) (c : ℕ) (s : Spot) (m : Measure) → is_loose s.gap.level ≡ false → breaks_loosely o f c s m ≡ false
fixed_holds o None c s m e = refl
fixed_holds o (Some f) c s m e = held (not (is_fine f)) (is_loose s.gap.level) (not (fills o c s m) || operand_breaks_at o (line_depth o (Some f) s.gap) (next_column c s) m s.gap.level) e
  where
    held : (x y z : Bool) → y ≡ false → x && y && z ≡ false
    held true true z e = absurd (cc)
    held true false z e = refl
    held false y z e = refl

first_stays : (o : LayoutOptions) (f : Option Frame) (c : ℕ) (bracket : Option Bracket) (before : Option TokenKind) (led : Bool) (w : TokenText) (m : Measure) → begins o f c (spot_at bracket before None led false w) m ≡ false
first_stays o f c bracket before led w m = rw (fixed_stays f) (fixed_holds o f c (spot_at bracket before None led false w) m refl)

pub begun_separator : (o : LayoutOptions) (f : Option Frame) (c : ℕ) (bracket : Option Bracket) (before last : Option TokenKind) (led commented : Bool) (w : TokenText) (m : Measure) (b : Before) (rule : BlankRule) (blank : Bool) → Linked b last commented → begins o f c (spot_at bracket before last led commented w) m ≡ true
    → separate b (begun_decision o f rule (spot_at bracket before last led commented w).gap) blank (word w) ≡ begun_line (begun_decision o f rule (spot_at bracket before last led commented w).gap) blank
begun_separator o f c bracket before last led commented w m start rule blank (none, plain) e =
    absurd (not_true _ (subst (λ q. begins o f c (spot_at bracket before q led false w) m ≡ true) none (subst (λ q. begins o f c (spot_at bracket before last led q w) m ≡ true) plain e)) (first_stays o f c bracket before led w m))
begun_separator o f c bracket before last led commented w m (behind_word kind) rule blank l e = refl
begun_separator o f c bracket before last led commented w m behind_comment rule blank l e = refl

pub joined_separator : (o : LayoutOptions) (f : Option Frame) (c : ℕ) (bracket : Option Bracket) (before last : Option TokenKind) (led commented : Bool) (w : TokenText) (m : Measure) (b : Before) (blank : Bool) → Linked b last commented → begins o f c (spot_at bracket before last led commented w) m ≡ false
    → separate b (joined_decision (spot_at bracket before last led commented w).gap) blank (word w) ≡ cond (spot_at bracket before last led commented w).gap.spaced space nothing
joined_separator o f c bracket before last led commented w m start blank (none, plain) e = ap (λ q. cond (gap_at bracket commented led before q w.kind w.text).spaced space nothing) (sym none)
joined_separator o f c bracket before last led commented w m (behind_word kind) blank (some, plain) e =
    subst (λ q. separate (behind_word kind) (joined_decision (gap_at bracket commented led before q w.kind w.text)) blank (word w) ≡ cond (gap_at bracket commented led before q w.kind w.text).spaced space nothing) (sym some)
    (between (gap_between bracket commented (led && not commented) before kind w.kind).spaced (goes_on kind (slice_index w.text 0)) (begun_line (joined_decision (gap_at bracket commented led before (Some kind) w.kind w.text)) blank))
  where
    between : (x y : Bool) (begun : Separator) → between_words (cond (x || y) Apart Joined) (not y) begun ≡ cond (x || y) space nothing
    between true y begun = refl
    between false true begun = refl
    between false false begun = refl
joined_separator o f c bracket before last led commented w m behind_comment blank l e = absurd (not_true true refl (subst (λ q. begins o f c (spot_at bracket before last led q w) m ≡ false) l e))

-- ---- all words

plus_small : (a b : ℕ) → plus a b < 2 ^ 64
plus_small a b = omega arith

pub joined_column : (spaced : Bool) (c : ℕ) → c < 2 ^ 64 → column_at (cond spaced space nothing) c ≡ plus c (ones spaced)
joined_column true c small = refl
joined_column false c small = omega (arith, small)

joined_choice : (spaced : Bool) (l : Level) (before : Bool) → has_choice (cond spaced space nothing) l before ≡ before || may_end_line l
joined_choice true l before = refl
joined_choice false l before = refl

-- all that is known before an item
pub record Sofar (o : LayoutOptions) (ss : List Spot) (bs : List Bracket) (last : Option TokenKind) (commented : Bool) (t : State) (b : Before) (choice : Bool) : Type 0 where
  pub small : extent ss < 2 ^ 64
  pub column : t.column < 2 ^ 64
  pub linked : Linked b last commented
  pub many : AreAsMany t.frames bs
  pub holds : Holds o.width t.column (scanned ss).place t.frames ((scanned ss).ahead ∷ (scanned ss).behind)
  pub until : choice ≡ true → Within o.width t.column (scanned ss).place (scanned ss).ahead.ending

abbrev pub measured : Spot → List Spot → MeasuredWord
measured s ss = record { spot = s; measure = measure_at s (first_ahead (scanned ss).behind) (scanned ss).ahead (scanned ss).place }

abbrev pub state_if : LayoutOptions → Bool → State → Spot → List Spot → State
state_if o x t s ss = style.behind_word o (at_word o x t s (measured s ss).measure) s (measured s ss).measure (next_gap (words_measured ss)).rule

many_at : (x : Bool) (o : LayoutOptions) (t : State) (s : Spot) (m : Measure) (bs : List Bracket) → AreAsMany t.frames bs → AreAsMany (at_word o x t s m).frames bs
many_at true o t s m bs h = as_many_begun o (line_depth o (first_frame t.frames) s.gap) t.frames bs s m h
many_at false o t s m bs h = h

-- what is known behind a word
pub word_sofar : (x : Bool) (o : LayoutOptions) (bs : List Bracket) (before last : Option TokenKind) (led commented : Bool) (w : TokenText) (hug : Bool) (ss : List Spot) (t : State) (b : Before) (choice next : Bool)
    → Sofar o (spot_at (innermost_of bs) before last led commented w ∷ ss) bs last commented t b choice
    → begins o (first_frame t.frames) t.column (spot_at (innermost_of bs) before last led commented w) (measured (spot_at (innermost_of bs) before last led commented w) ss).measure ≡ x
    → (next ≡ true → Within o.width (at_word o x t (spot_at (innermost_of bs) before last led commented w) (measured (spot_at (innermost_of bs) before last led commented w) ss).measure).column (before_text (scanned ss).place (spot_at (innermost_of bs) before last led commented w).columns) (scanned ss).ahead.ending)
    → Sofar o ss (brackets_behind bs before w.kind hug) (Some w.kind) false (state_if o x t (spot_at (innermost_of bs) before last led commented w) ss) (behind_word w.kind) next
word_sofar x o bs before last led commented w hug ss t b choice next h e until =
    let s = spot_at (innermost_of bs) before last led commented w in
    let u = scanned ss in
    let k : Measuring s ss u.place = record { small = h.small; room = room ss (less s ss h.small) } in
    let order = scan_ordered ss (less s ss h.small) in
    record {
      small = less s ss h.small;
      column = plus_small (at_word o x t s (measured s ss).measure).column s.columns;
      linked = (refl, refl);
      many = as_many_behind (opens w.kind) (closes w.kind) (at_word o x t s (measured s ss).measure).frames bs _ _ (many_at x o t s (measured s ss).measure bs h.many);
      holds = word_holds x o t s ss u.place u.ahead u.behind k order (gap_known t.frames bs commented led before last w.kind w.text h.many) (gap_closing (innermost_of bs) commented led before last w.kind w.text) e h.holds;
      until = λ c. within_on (until c) (word_step s ss u.place k.small k.room) order.0.ending;
    }

-- one word stays within the width where those behind it do
word_kept : (x : Bool) (o : LayoutOptions) (bs : List Bracket) (before last : Option TokenKind) (led commented : Bool) (w : TokenText) (hug blank : Bool) (ss : List Spot) (t : State) (b : Before) (choice : Bool) (rest : State → Before → List Separator)
    → Sofar o (spot_at (innermost_of bs) before last led commented w ∷ ss) bs last commented t b choice
    → begins o (first_frame t.frames) t.column (spot_at (innermost_of bs) before last led commented w) (measured (spot_at (innermost_of bs) before last led commented w) ss).measure ≡ x
    → ((t : State) (b : Before) (choice : Bool) → Sofar o ss (brackets_behind bs before w.kind hug) (Some w.kind) false t b choice → StaysWithin o.width t.column choice (rest t b) ss)
    → StaysWithin o.width t.column choice (separate b (word_decision o (first_frame t.frames) t.rule x (spot_at (innermost_of bs) before last led commented w).gap) blank (word w) ∷ rest (state_if o x t (spot_at (innermost_of bs) before last led commented w) ss) (behind_word w.kind)) (spot_at (innermost_of bs) before last led commented w ∷ ss)
word_kept true o bs before last led commented w hug blank ss t b choice rest h e more =
    let s = spot_at (innermost_of bs) before last led commented w in
    let separator = begun_separator o (first_frame t.frames) t.column (innermost_of bs) before last led commented w (measured s ss).measure b t.rule blank h.linked e in
    subst (λ p. StaysWithin o.width t.column choice (p ∷ rest (state_if o true t s ss) (behind_word w.kind)) (s ∷ ss)) (sym separator) (
      λ none. absurd (not_true false none refl),
      more (state_if o true t s ss) (behind_word w.kind) false (word_sofar true o bs before last led commented w hug ss t b choice false h e (λ none. absurd (not_true false none refl))),
    )
word_kept false o bs before last led commented w hug blank ss t b choice rest h e more =
    let s = spot_at (innermost_of bs) before last led commented w in
    let u = scanned ss in
    let k : Measuring s ss u.place = record { small = h.small; room = room ss (less s ss h.small) } in
    let order = scan_ordered ss (less s ss h.small) in
    let at = at_word_ordered (opens s.kind) (closes s.kind) s ss u.place u.ahead u.behind k order in
    let separator = joined_separator o (first_frame t.frames) t.column (innermost_of bs) before last led commented w (measured s ss).measure b blank h.linked e in
    let next = choice || may_end_line s.gap.level in
    let until : next ≡ true → Within o.width (plus t.column (ones s.gap.spaced)) (before_text u.place s.columns) u.ahead.ending = λ c.
    subst (Within o.width (plus t.column (ones s.gap.spaced)) (before_text u.place s.columns)) (ending_same (opens s.kind) u.ahead u.behind)
    (choice_on o t.frames t.column s ss u.place (ahead_if (opens s.kind) u.ahead u.behind) (behind_if (opens s.kind) (closes s.kind) u.ahead u.behind) (whole_of (first_ahead u.behind)) choice k at (gap_known t.frames bs commented led before last w.kind w.text h.many) e h.holds h.until c) in
    subst (λ p. StaysWithin o.width t.column choice (p ∷ rest (state_if o false t s ss) (behind_word w.kind)) (s ∷ ss)) (sym separator)
    (joined o.width t.column s.columns s.gap.spaced s.gap.level choice (rest (state_if o false t s ss) (behind_word w.kind)) ss h.column
    (λ c. within_end (until c) (word_step s ss u.place k.small k.room) order.0.ending)
    (more (state_if o false t s ss) (behind_word w.kind) next (word_sofar false o bs before last led commented w hug ss t b choice next h e until)))
  where
    joined : (w c n : ℕ) (spaced : Bool) (l : Level) (choice : Bool) (ps : List Separator) (ss : List Spot) → c < 2 ^ 64 → (choice || may_end_line l ≡ true → plus (plus c (ones spaced)) n ≤ w) → StaysWithin w (plus (plus c (ones spaced)) n) (choice || may_end_line l) ps ss
        → (has_choice (cond spaced space nothing) l choice ≡ true → plus (column_at (cond spaced space nothing) c) n ≤ w) × StaysWithin w (plus (column_at (cond spaced space nothing) c) n) (has_choice (cond spaced space nothing) l choice) ps ss
    joined w c n true l choice ps ss small f g = (f, g)
    joined w c n false l choice ps ss small f g =
        let e : plus c 0 ≡ c = omega (arith, small) in
        subst (λ x. (choice || may_end_line l ≡ true → plus x n ≤ w) × StaysWithin w (plus x n) (choice || may_end_line l) ps ss) e (f, g)

-- all items
abbrev Keeps : LayoutOptions → List SpacedItem → Type 0
Keeps o ps =
    (bs : List Bracket) (before last : Option TokenKind) (led commented : Bool) (told : List Bool) (t : State) (b : Before) (choice : Bool) → Sofar o (spots_from bs before last led commented told (items_of ps)) bs last commented t b choice
    → StaysWithin o.width t.column choice (separators_of (laid_items b (planned o t (items_of ps) (words_measured (spots_from bs before last led commented told (items_of ps)))) ps)) (spots_from bs before last led commented told (items_of ps))

item_kept : (o : LayoutOptions) (i : Item) (blank : Bool) (ps : List SpacedItem) → Keeps o ps → Keeps o (record { blank = blank; item = i } ∷ ps)
item_kept o (word w) blank ps more bs before last led commented told t b choice h =
    let hug = first_flag told in
    let ss = spots_from (brackets_behind bs before w.kind hug) last (Some w.kind) commented false (rest_flags told) (items_of ps) in
    let s = spot_at (innermost_of bs) before last led commented w in
    let x = begins o (first_frame t.frames) t.column s (measured s ss).measure in
    word_kept x o bs before last led commented w hug blank ss t b choice (λ t b. separators_of (laid_items b (planned o t (items_of ps) (words_measured ss)) ps)) h refl
    (more (brackets_behind bs before w.kind hug) last (Some w.kind) commented false (rest_flags told))
item_kept o (beside c) blank ps more bs before last led commented told t b choice h =
    more bs before last led true told t behind_comment choice (record { small = h.small; column = h.column; linked = refl; many = h.many; holds = h.holds; until = h.until })
item_kept o (below c) blank ps more bs before last led commented told t b choice h =
    more bs before last led true told (past_comment t) behind_comment choice (record { small = h.small; column = h.column; linked = refl; many = h.many; holds = h.holds; until = h.until })

kept : (o : LayoutOptions) (ps : List SpacedItem) → Keeps o ps
kept o [] = λ bs before last led commented told t b choice h. tt
kept o (p ∷ ps) = item_kept o p.item p.blank ps (kept o ps)

style_keeps : (o : LayoutOptions) (ps : List SpacedItem) → extent (spots_of (items_of ps)) < 2 ^ 64 → StaysWithin o.width 0 false (separators_of (laid_items start (style.style o (items_of ps)) ps)) (spots_of (items_of ps))
style_keeps o ps small = kept o ps [] None None false false (hugs_of (items_of ps)) first_state start false (record {
  small = small;
  column = omega arith;
  linked = (refl, refl);
  many = tt;
  holds = tt;
  until = λ none. absurd (not_true false none refl);
})

pub keeps_width : (o : LayoutOptions) (source : List ℕ) (ps : List SpacedItem) → IsReadAs source ps → length source < 2 ^ 63 → KeepsWidth o.width ps (laid_out (style.style o) ps)
keeps_width o source ps r small =
    let ds = style.style o (items_of ps) in
    (laid_items start ds ps, laid_stand start ds ps (read_stands source ps r), laid_same start ds ps, refl, style_keeps o ps (text_extent source ps r small))
