-- The style: at which gaps lines end, and how deep they begin.
use Rattle.std.specs.Prelude.{ℕ, nat_lt, Bool, true, false, cond, not, ◌&&◌, ◌||◌, List, [], ◌∷◌, Option, Some, None}
use Rattle.cedar_lexer.specs.declared.token.TokenKind.{TokenKind}
use Rattle.cedar_layout.specs.Pieces.{Item, word, beside, below}
use Rattle.cedar_layout.specs.declared.decisions.Form.TheVariants.{Joined, Apart, Broken}
use Rattle.cedar_layout.specs.declared.decisions.BlankRule.{BlankRule}
use Rattle.cedar_layout.specs.declared.decisions.BlankRule.TheVariants.{Kept}
use Rattle.cedar_layout.specs.declared.decisions.Decision.{Decision}
use Rattle.cedar_layout.specs.declared.levels.Level.{Level}
use Rattle.cedar_layout.specs.declared.levels.Level.TheVariants.{Related, Added, Multiplied, Chained, Fixed}
use Rattle.cedar_layout.specs.declared.gaps.Gap.{Gap}
use Rattle.cedar_layout.specs.declared.spots.Spot.{Spot}
use Rattle.cedar_layout.specs.declared.measures.Distance.{Distance}
use Rattle.cedar_layout.specs.declared.measures.Measure.{Measure}
use Rattle.cedar_layout.specs.declared.measures.MeasuredWord.{MeasuredWord}
use Rattle.cedar_layout.specs.declared.options.LayoutOptions.{LayoutOptions}
use Rattle.cedar_layout.specs.declared.frames.Frame.{Frame}
use Rattle.cedar_layout.specs.declared.style.State as code
use Rattle.cedar_layout.specs.Layouts.{LayoutRule, undecided}
use Rattle.cedar_layout.specs.Frames.{new_frame, line_depth, comment_depth, line_begun_at, breaks_level, is_fine}
use Rattle.cedar_layout.specs.Gaps.{line_gap, line_rule}
use Rattle.cedar_layout.specs.Kinds.{opens, closes}
use Rattle.cedar_layout.specs.Levels.{rank}
use Rattle.cedar_layout.specs.Measures.{plus, fits_from, stands_before, ones, words_measured}
use Rattle.cedar_layout.specs.Spots.{spots_of}

-- ---- whether a line begins at the gap before a word

-- at gaps of this level it does where what follows doesn't fit
abbrev pub is_loose : Level → Bool
is_loose level = not (nat_lt (rank level) (rank Related)) && nat_lt (rank level) (rank Fixed)

-- where the word begins if its line goes on
abbrev pub next_column : ℕ → Spot → ℕ
next_column column s = plus column (ones s.gap.spaced)

abbrev pub fills : LayoutOptions → ℕ → Spot → Measure → Bool
fills o column s m = fits_from o.width (next_column column s) m.from m.ahead.ending

-- an operand that begins in a column doesn't fit up to its end, but would on a line of its own, or
-- can be parted itself
abbrev pub operand_breaks : LayoutOptions → ℕ → ℕ → Measure → Distance → Bool
operand_breaks o depth column m end =
    not (fits_from o.width column m.from end)
    && (fits_from o.width depth m.from end || stands_before m.ahead.packed end)

-- an operand behind a gap of this level
abbrev pub operand_breaks_at : LayoutOptions → ℕ → ℕ → Measure → Level → Bool
operand_breaks_at o depth column m Related = operand_breaks o depth column m m.ahead.related
operand_breaks_at o depth column m Added = operand_breaks o depth column m m.ahead.added
operand_breaks_at o depth column m Multiplied = operand_breaks o depth column m m.ahead.multiplied
operand_breaks_at o depth column m Chained = operand_breaks o depth column m m.ahead.chained
operand_breaks_at o depth column m level = false

abbrev pub breaks_loosely : LayoutOptions → Option Frame → ℕ → Spot → Measure → Bool
breaks_loosely o None column s m = false
breaks_loosely o (Some f) column s m =
    not (is_fine f) && is_loose s.gap.level
    && (not (fills o column s m)
    || operand_breaks_at o (line_depth o (Some f) s.gap) (next_column column s) m s.gap.level)

abbrev pub begins : LayoutOptions → Option Frame → ℕ → Spot → Measure → Bool
begins o f column s m =
    s.commented || s.gap.begins_line || breaks_level f s.gap.level
    || breaks_loosely o f column s m

-- ---- the decisions

abbrev pub begun_decision : LayoutOptions → Option Frame → BlankRule → Gap → Decision
begun_decision o f rule g = record {
  form = Broken;
  depth = line_depth o f g;
  rule = line_rule rule g;
}

abbrev pub joined_decision : Gap → Decision
joined_decision g = record { form = cond g.spaced Apart Joined; depth = 0; rule = Kept }

abbrev pub word_decision : LayoutOptions → Option Frame → BlankRule → Bool → Gap → Decision
word_decision o f rule true g = begun_decision o f rule g
word_decision o f rule false g = joined_decision g

abbrev pub comment_decision : LayoutOptions → Option Frame → BlankRule → Gap → Decision
comment_decision o f rule g =
    record { form = Broken; depth = comment_depth o f g; rule = rule }

-- ---- the state: the open brackets, the innermost first, where the line stands and how deep it
-- began, and what becomes of a blank line before the next item

pub record State : Type 0 where
  pub frames : List Frame
  pub column : ℕ
  pub depth : ℕ
  pub rule : BlankRule

abbrev pub state_now : code.State → State
state_now t = record { frames = t.frames.items; column = t.column; depth = t.depth; rule = t.rule }

abbrev pub first_state : State
first_state = record { frames = []; column = 0; depth = 0; rule = Kept }

abbrev pub first_frame : List Frame → Option Frame
first_frame [] = None
first_frame (f ∷ fs) = Some f

abbrev pub without_frame : List Frame → List Frame
without_frame [] = []
without_frame (f ∷ fs) = fs

abbrev pub line_frames : LayoutOptions → ℕ → List Frame → Spot → Measure → List Frame
line_frames o depth [] s m = []
line_frames o depth (f ∷ fs) s m =
    cond s.gap.closing f (line_begun_at o f depth s m s.gap.level) ∷ fs

-- where the word begins
abbrev pub at_word : LayoutOptions → Bool → State → Spot → Measure → State
at_word o true t s m = record {
  frames = line_frames o (line_depth o (first_frame t.frames) s.gap) t.frames s m;
  column = line_depth o (first_frame t.frames) s.gap;
  depth = line_depth o (first_frame t.frames) s.gap;
  rule = t.rule;
}
at_word o false t s m = record {
  frames = t.frames;
  column = plus t.column (ones s.gap.spaced);
  depth = t.depth;
  rule = t.rule;
}

-- the frame of a bracket that opens in a column of a line
abbrev pub opened_frame : LayoutOptions → ℕ → ℕ → Measure → Frame
opened_frame o column depth m =
    new_frame (fits_from o.width column m.from m.whole) depth (plus depth o.indent)
    (plus (plus depth o.indent) o.indent)

-- a bracket opens or closes with a word, or none does
abbrev pub frames_behind : List Frame → TokenKind → Frame → List Frame
frames_behind frames kind opened =
    cond (opens kind) (opened ∷ frames) (cond (closes kind) (without_frame frames) frames)

-- and behind it, where this is the rule of the gap that follows
abbrev pub behind_word : LayoutOptions → State → Spot → Measure → BlankRule → State
behind_word o t s m rule = record {
  frames = frames_behind t.frames s.kind (opened_frame o t.column t.depth m);
  column = plus t.column s.columns;
  depth = t.depth;
  rule = rule;
}

abbrev pub begins_at : LayoutOptions → State → MeasuredWord → Bool
begins_at o t w = begins o (first_frame t.frames) t.column w.spot w.measure

abbrev pub decided : LayoutOptions → State → MeasuredWord → Decision
decided o t w = word_decision o (first_frame t.frames) t.rule (begins_at o t w) w.spot.gap

abbrev pub past_word : LayoutOptions → State → MeasuredWord → BlankRule → State
past_word o t w rule =
    behind_word o (at_word o (begins_at o t w) t w.spot w.measure) w.spot w.measure rule

abbrev pub past_comment : State → State
past_comment t = record { frames = t.frames; column = t.column; depth = t.depth; rule = Kept }

-- ---- all items

abbrev pub next_gap : List MeasuredWord → Gap
next_gap [] = line_gap Kept
next_gap (w ∷ ws) = w.spot.gap

-- one item: what is decided, the state behind it, and the words that are left
abbrev pub decision_at : LayoutOptions → State → Item → List MeasuredWord → Decision
decision_at o t (beside c) ws = undecided
decision_at o t (below c) ws =
    comment_decision o (first_frame t.frames) t.rule (next_gap ws)
decision_at o t (word x) [] = undecided
decision_at o t (word x) (w ∷ ws) = decided o t w

abbrev pub state_past : LayoutOptions → State → Item → List MeasuredWord → State
state_past o t (beside c) ws = t
state_past o t (below c) ws = past_comment t
state_past o t (word x) [] = t
state_past o t (word x) (w ∷ ws) = past_word o t w (next_gap ws).rule

abbrev pub words_past : Item → List MeasuredWord → List MeasuredWord
words_past (beside c) ws = ws
words_past (below c) ws = ws
words_past (word x) [] = []
words_past (word x) (w ∷ ws) = ws

abbrev pub planned : LayoutOptions → State → List Item → List MeasuredWord → List Decision
planned o t [] ws = []
planned o t (i ∷ is) ws =
    decision_at o t i ws ∷ planned o (state_past o t i ws) is (words_past i ws)

abbrev pub style : LayoutOptions → LayoutRule
style o is = planned o first_state is (words_measured (spots_of is))
