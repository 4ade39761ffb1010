-- The style breaks no bracket that fits.
use Rattle.std.proofs.Common.{◌≡◌, ℕ, ◌<◌, ◌^◌, Bool, true, false, cond, List, [], ◌∷◌, length, refl, sym, ap, ◌∙◌, subst, arith, Option, Some, None}
use Rattle.cedar_lexer.specs.Words.{TokenText}
use Rattle.cedar_lexer.specs.declared.token.TokenKind.{TokenKind}
use Rattle.cedar_layout.specs.declared.brackets.Bracket.{Bracket}
use Rattle.cedar_layout.specs.declared.frames.Frame.{Frame}
use Rattle.cedar_layout.specs.declared.measures.Ahead.{Ahead}
use Rattle.cedar_layout.specs.declared.measures.Distance.{Distance}
use Rattle.cedar_layout.specs.declared.measures.Measure.{Measure}
use Rattle.cedar_layout.specs.declared.options.LayoutOptions.{LayoutOptions}
use Rattle.cedar_layout.specs.declared.spots.Spot.{Spot}
use Rattle.cedar_layout.specs.Brackets.{innermost_of, brackets_behind}
use Rattle.cedar_layout.specs.Frames.{new_frame, line_begun_at, line_depth}
use Rattle.cedar_layout.specs.Hugs.{first_flag, rest_flags, hugs_of}
use Rattle.cedar_layout.specs.Kinds.{opens, closes}
use Rattle.cedar_layout.specs.Laid.{Separator, nothing, space, Before, start, behind_word, behind_comment}
use Rattle.cedar_layout.specs.Layouts.{separate, laid_items, laid_out}
use Rattle.cedar_layout.specs.Measures.{plus, ones, fits_from, first_ahead, measure_at, past_gap, ahead_at, place_before, scanned, words_measured}
use Rattle.cedar_layout.specs.Measures as measures
use Rattle.cedar_layout.specs.Pieces.{Item, word, beside, below, SpacedItem, items_of, IsReadAs}
use Rattle.cedar_layout.specs.Spots.{spot_at, spots_from, spots_of}
use Rattle.cedar_layout.specs.Style as style
use Rattle.cedar_layout.specs.Style.{State, first_frame, without_frame, line_frames, begins, word_decision, at_word, past_comment, first_state, planned}
use Rattle.cedar_layout.specs.Whole.{is_line, fits_behind, StaysWhole, KeepsWhole}
use Rattle.cedar_layout.specs.Widths.{column_at, separators_of}
use Rattle.cedar_layout.proofs.Extents.{extent, text_extent}
use Rattle.cedar_layout.proofs.Kept.{laid_stand, laid_same}
use Rattle.cedar_layout.proofs.Stood.{read_stands}
use Rattle.cedar_layout.proofs.Fitting.{Ordered, less, room, scan_ordered, Holds}
use Rattle.cedar_layout.proofs.KnownGaps.{Known, gap_known, not_true}
use Rattle.cedar_layout.proofs.Begun.{Measuring, begun_flat, whole_stays}
use Rattle.cedar_layout.proofs.LineWidths.{begun_separator, joined_separator, joined_column, Sofar, measured, state_if, word_sofar}

-- of each open bracket whether it is flat
abbrev pub flats : List Frame → List Bool
flats [] = []
flats (f ∷ fs) = f.flat ∷ flats fs

flats_begun : (o : LayoutOptions) (d : ℕ) (fs : List Frame) (s : Spot) (m : Measure) → flats (line_frames o d fs s m) ≡ flats fs
flats_begun o d [] s m = refl
flats_begun o d (f ∷ fs) s m = ap (λ b. b ∷ flats fs) (chosen s.gap.closing)
  where
    chosen : (b : Bool) → (cond b f (line_begun_at o f d s m s.gap.level)).flat ≡ f.flat
    chosen true = refl
    chosen false = begun_flat o f d s m s.gap.level

flats_left : (fs : List Frame) → flats (without_frame fs) ≡ rest_flags (flats fs)
flats_left [] = refl
flats_left (f ∷ fs) = refl

abbrev fits_if : Bool → Bool → Bool → List Bool → List Bool
fits_if ok ck fit flags = cond ok (fit ∷ flags) (cond ck (rest_flags flags) flags)

flats_behind : (ok ck fit : Bool) (d i k : ℕ) (fs : List Frame) → flats (cond ok (new_frame fit d i k ∷ fs) (cond ck (without_frame fs) fs)) ≡ fits_if ok ck fit (flats fs)
flats_behind true ck fit d i k fs = refl
flats_behind false true fit d i k fs = flats_left fs
flats_behind false false fit d i k fs = refl

-- behind a word
flats_past : (x : Bool) (o : LayoutOptions) (t : State) (s : Spot) (ss : List Spot) → flats (state_if o x t s ss).frames ≡ fits_behind o.width (at_word o x t s (measured s ss).measure).column (flats t.frames) (measured s ss)
flats_past x o t s ss =
    let m = (measured s ss).measure in
    let u = at_word o x t s m in
    let fit = fits_from o.width u.column m.from m.whole in
    flats_behind (opens s.kind) (closes s.kind) fit u.depth (plus u.depth o.indent) (plus (plus u.depth o.indent) o.indent) u.frames ∙ ap (fits_if (opens s.kind) (closes s.kind) fit) (same x)
  where
    same : (x : Bool) → flats (at_word o x t s (measured s ss).measure).frames ≡ flats t.frames
    same true = flats_begun o (line_depth o (first_frame t.frames) s.gap) t.frames s (measured s ss).measure
    same false = refl

-- in a bracket that fits no line begins
pub whole_here : (o : LayoutOptions) (fs : List Frame) (c : ℕ) (s : Spot) (ss : List Spot) (p : Distance) (a : Ahead) (bs : List Ahead) → Measuring s ss p → Ordered p (a ∷ bs) → Known fs s.gap → Holds o.width c (place_before s p) fs (past_gap s.gap s.commented (place_before s p) (ahead_at s.kind (first_ahead bs) a) ∷ measures.behind_word s.kind bs a)
    → begins o (first_frame fs) c s (measure_at s (first_ahead bs) a p) ≡ true → first_flag (flats fs) ≡ true → ⊥
whole_here o [] c s ss p a bs k order known h e flat = absurd (not_true false flat refl)
whole_here o (f ∷ fs) c s ss p a bs k order known h e flat =
    not_true (begins o (Some f) c s (measure_at s (first_ahead bs) a p)) e (whole_stays (opens s.kind) (closes s.kind) o f fs c s ss p a bs k order known flat h)

word_whole : (x : Bool) (o : LayoutOptions) (bs : List Bracket) (before last : Option TokenKind) (led commented : Bool) (w : TokenText) (hug blank : Bool) (ss : List Spot) (t : State) (b : Before) (rest : State → Before → List Separator)
    → Sofar o (spot_at (innermost_of bs) before last led commented w ∷ ss) bs last commented t b false
    → begins o (first_frame t.frames) t.column (spot_at (innermost_of bs) before last led commented w) (measured (spot_at (innermost_of bs) before last led commented w) ss).measure ≡ x
    → ((t : State) (b : Before) → Sofar o ss (brackets_behind bs before w.kind hug) (Some w.kind) false t b false → StaysWhole o.width t.column (flats t.frames) (rest t b) (words_measured ss))
    → StaysWhole o.width t.column (flats t.frames) (separate b (word_decision o (first_frame t.frames) t.rule x (spot_at (innermost_of bs) before last led commented w).gap) blank (word w) ∷ rest (state_if o x t (spot_at (innermost_of bs) before last led commented w) ss) (behind_word w.kind)) (measured (spot_at (innermost_of bs) before last led commented w) ss ∷ words_measured ss)
word_whole true o bs before last led commented w hug blank ss t b rest h e more =
    let s = spot_at (innermost_of bs) before last led commented w in
    let u = scanned ss in
    let k : Measuring s ss u.place = record { small = h.small; room = room ss (less s ss h.small) } in
    let order = scan_ordered ss (less s ss h.small) in
    let separator = begun_separator o (first_frame t.frames) t.column (innermost_of bs) before last led commented w (measured s ss).measure b t.rule blank h.linked e in
    let next = more (state_if o true t s ss) (behind_word w.kind) (word_sofar true o bs before last led commented w hug ss t b false false h e (λ none. absurd (not_true false none refl))) in
    subst (λ p. StaysWhole o.width t.column (flats t.frames) (p ∷ rest (state_if o true t s ss) (behind_word w.kind)) (measured s ss ∷ words_measured ss)) (sym separator) (
      λ flat. absurd (whole_here o t.frames t.column s ss u.place u.ahead u.behind k order (gap_known t.frames bs commented led before last w.kind w.text h.many) h.holds e flat),
      subst (λ flags. StaysWhole o.width (state_if o true t s ss).column flags (rest (state_if o true t s ss) (behind_word w.kind)) (words_measured ss)) (flats_past true o t s ss) next,
    )
word_whole false o bs before last led commented w hug blank ss t b rest h e more =
    let s = spot_at (innermost_of bs) before last led commented w in
    let separator = joined_separator o (first_frame t.frames) t.column (innermost_of bs) before last led commented w (measured s ss).measure b blank h.linked e in
    let next = more (state_if o false t s ss) (behind_word w.kind) (word_sofar false o bs before last led commented w hug ss t b false false h e (λ none. absurd (not_true false none refl))) in
    subst (λ p. StaysWhole o.width t.column (flats t.frames) (p ∷ rest (state_if o false t s ss) (behind_word w.kind)) (measured s ss ∷ words_measured ss)) (sym separator) (
      λ flat. joined s.gap.spaced,
      subst (λ c. StaysWhole o.width (plus c s.columns) (fits_behind o.width c (flats t.frames) (measured s ss)) (rest (state_if o false t s ss) (behind_word w.kind)) (words_measured ss)) (sym (joined_column s.gap.spaced t.column h.column))
          (subst (λ flags. StaysWhole o.width (state_if o false t s ss).column flags (rest (state_if o false t s ss) (behind_word w.kind)) (words_measured ss)) (flats_past false o t s ss) next),
    )
  where
    joined : (spaced : Bool) → is_line (cond spaced space nothing) ≡ false
    joined true = refl
    joined false = refl

-- all items
abbrev Whole : LayoutOptions → List SpacedItem → Type 0
Whole o ps =
    (bs : List Bracket) (before last : Option TokenKind) (led commented : Bool) (told : List Bool) (t : State) (b : Before) → Sofar o (spots_from bs before last led commented told (items_of ps)) bs last commented t b false
    → StaysWhole o.width t.column (flats t.frames) (separators_of (laid_items b (planned o t (items_of ps) (words_measured (spots_from bs before last led commented told (items_of ps)))) ps)) (words_measured (spots_from bs before last led commented told (items_of ps)))

item_whole : (o : LayoutOptions) (i : Item) (blank : Bool) (ps : List SpacedItem) → Whole o ps → Whole o (record { blank = blank; item = i } ∷ ps)
item_whole o (word w) blank ps more bs before last led commented told t b h =
    let hug = first_flag told in
    let ss = spots_from (brackets_behind bs before w.kind hug) last (Some w.kind) commented false (rest_flags told) (items_of ps) in
    let s = spot_at (innermost_of bs) before last led commented w in
    let x = begins o (first_frame t.frames) t.column s (measured s ss).measure in
    word_whole x o bs before last led commented w hug blank ss t b (λ t b. separators_of (laid_items b (planned o t (items_of ps) (words_measured ss)) ps)) h refl
    (more (brackets_behind bs before w.kind hug) last (Some w.kind) commented false (rest_flags told))
item_whole o (beside c) blank ps more bs before last led commented told t b h =
    more bs before last led true told t behind_comment (record { small = h.small; column = h.column; linked = refl; many = h.many; holds = h.holds; until = h.until })
item_whole o (below c) blank ps more bs before last led commented told t b h =
    more bs before last led true told (past_comment t) behind_comment (record { small = h.small; column = h.column; linked = refl; many = h.many; holds = h.holds; until = h.until })

whole : (o : LayoutOptions) (ps : List SpacedItem) → Whole o ps
whole o [] = λ bs before last led commented told t b h. tt
whole o (p ∷ ps) = item_whole o p.item p.blank ps (whole o ps)

style_whole : (o : LayoutOptions) (ps : List SpacedItem) → extent (spots_of (items_of ps)) < 2 ^ 64 → StaysWhole o.width 0 [] (separators_of (laid_items start (style.style o (items_of ps)) ps)) (words_measured (spots_of (items_of ps)))
style_whole o ps small = whole o ps [] None None false false (hugs_of (items_of ps)) first_state start (record {
  small = small;
  column = omega arith;
  linked = (refl, refl);
  many = tt;
  holds = tt;
  until = λ none. absurd (not_true false none refl);
})

pub keeps_whole : (o : LayoutOptions) (source : List ℕ) (ps : List SpacedItem) → IsReadAs source ps → length source < 2 ^ 63 → KeepsWhole o.width ps (laid_out (style.style o) ps)
keeps_whole o source ps r small =
    let ds = style.style o (items_of ps) in
    (laid_items start ds ps, laid_stand start ds ps (read_stands source ps r), laid_same start ds ps, refl, style_whole o ps (text_extent source ps r small))
