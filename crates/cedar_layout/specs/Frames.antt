-- The open brackets of a line, and how deep lines begin in them.
use Rattle.std.specs.Prelude.{ℕ, Bool, true, false, cond, not, ◌&&◌, ◌||◌, ◌==◌, nat_lt, Option, Some, None}
use Rattle.cedar_layout.specs.declared.levels.Level.{Level}
use Rattle.cedar_layout.specs.declared.levels.Level.TheVariants.{Listed, Branched, Disjoined, Conjoined, Related, Added, Multiplied, Chained, Packed, Filled, Fixed}
use Rattle.cedar_layout.specs.declared.gaps.Gap.{Gap}
use Rattle.cedar_layout.specs.declared.spots.Spot.{Spot}
use Rattle.cedar_layout.specs.declared.measures.Ahead.{Ahead}
use Rattle.cedar_layout.specs.declared.measures.Measure.{Measure}
use Rattle.cedar_layout.specs.declared.options.LayoutOptions.{LayoutOptions}
use Rattle.cedar_layout.specs.declared.frames.Frame.{Frame}
use Rattle.cedar_layout.specs.Kinds.{is_if}
use Rattle.cedar_layout.specs.Levels.{rank}
use Rattle.cedar_layout.specs.Measures.{plus, fits_from, stands_before}

abbrev pub new_frame : Bool → ℕ → ℕ → ℕ → Frame
new_frame flat outer inner deeper = record {
  flat = flat;
  outer = outer;
  inner = inner;
  fitting = Related;
  branched = 0;
  disjoined = 0;
  conjoined = 0;
  related = deeper;
  added = deeper;
  multiplied = deeper;
  chained = deeper;
}

-- ---- how deep lines begin

abbrev pub depth_of_level : Frame → Level → ℕ
depth_of_level f Listed = f.inner
depth_of_level f Branched = plus f.inner f.branched
depth_of_level f Disjoined = plus f.inner f.disjoined
depth_of_level f Conjoined = plus f.inner f.conjoined
depth_of_level f Related = f.related
depth_of_level f Added = f.added
depth_of_level f Multiplied = f.multiplied
depth_of_level f Chained = f.chained
depth_of_level f Packed = f.inner
depth_of_level f Filled = f.related
depth_of_level f Fixed = f.chained

-- no line begins further on than lines are long: so the text grows with the words alone, however
-- deep they nest
abbrev pub held_within : LayoutOptions → ℕ → ℕ
held_within o depth = cond (nat_lt depth o.width) depth o.width

-- a line at a gap, in the innermost open bracket or in none, and a comment in the gap
abbrev pub line_depth : LayoutOptions → Option Frame → Gap → ℕ
line_depth o None g = 0
line_depth o (Some f) g = held_within o (cond g.closing f.outer (depth_of_level f g.level))

abbrev pub comment_depth : LayoutOptions → Option Frame → Gap → ℕ
comment_depth o None g = 0
comment_depth o (Some f) g = held_within o (cond g.closing f.inner (depth_of_level f g.level))

-- ---- a line begins in a bracket

-- behind a gap of a level, at which it begins: the outermost level whose gaps need not end it
abbrev pub first_fitting : LayoutOptions → ℕ → Level → Measure → Level
first_fitting o depth r m =
    cond (nat_lt (rank r) (rank Branched) && fits_from o.width depth m.from m.ahead.branched)
    Branched
    (cond (nat_lt (rank r) (rank Disjoined) && fits_from o.width depth m.from m.ahead.disjoined)
    Disjoined
    (cond (nat_lt (rank r) (rank Conjoined) && fits_from o.width depth m.from m.ahead.conjoined)
    Conjoined
    Related))

abbrev pub step_if : LayoutOptions → Bool → ℕ
step_if o true = o.indent
step_if o false = 0

-- `&&` stands one step deeper where a `||` is ahead
abbrev pub conjoined_behind : LayoutOptions → Measure → ℕ → ℕ
conjoined_behind o m deep =
    plus deep (step_if o (stands_before m.ahead.conjoined m.ahead.disjoined))

-- lines begin so much deeper before `then` and `else`, behind `||` and behind `&&`
abbrev pub stepped : Frame → ℕ → ℕ → ℕ → Frame
stepped f first second third = record {
  flat = f.flat;
  outer = f.outer;
  inner = f.inner;
  fitting = f.fitting;
  branched = first;
  disjoined = second;
  conjoined = third;
  related = f.related;
  added = f.added;
  multiplied = f.multiplied;
  chained = f.chained;
}

-- behind a comma or a bracket
abbrev pub stepped_listed : LayoutOptions → Frame → Spot → Measure → Frame
stepped_listed o f s m =
    stepped f
    (step_if o (not (is_if s.kind)))
    (step_if o (stands_before m.ahead.disjoined m.ahead.branched))
    (conjoined_behind o m (step_if o (stands_before m.ahead.disjoined m.ahead.branched)))

-- before `then` or `else`
abbrev pub stepped_branched : LayoutOptions → Frame → Measure → Frame
stepped_branched o f m =
    stepped f f.branched (plus f.branched o.indent)
    (conjoined_behind o m (plus f.branched o.indent))

-- what an operand goes on deeper than: the lines behind the `&&` or the `||` that is ahead, or its
-- own line
abbrev pub operand_base : Frame → ℕ → Ahead → ℕ
operand_base f depth a =
    cond (stands_before a.related a.conjoined) (plus f.inner f.conjoined)
    (cond (stands_before a.conjoined a.disjoined) (plus f.inner f.disjoined)
    depth)

-- one step deeper where a `+` is ahead
abbrev pub term_base : LayoutOptions → Ahead → ℕ → ℕ
term_base o a base = plus base (step_if o (stands_before a.multiplied a.added))

-- a frame whose lines go on so deep, the outermost level whose gaps need not end a line being told
abbrev pub goes_on_at : Frame → Level → ℕ → ℕ → ℕ → ℕ → Frame
goes_on_at f fitting related added multiplied chained = record {
  flat = f.flat;
  outer = f.outer;
  inner = f.inner;
  fitting = fitting;
  branched = f.branched;
  disjoined = f.disjoined;
  conjoined = f.conjoined;
  related = related;
  added = added;
  multiplied = multiplied;
  chained = chained;
}

-- from the base of a line's operand on
abbrev pub stepped_operand : LayoutOptions → Frame → ℕ → Ahead → Frame
stepped_operand o f base a =
    goes_on_at f f.fitting
    (plus base o.indent)
    (plus base o.indent)
    (plus (term_base o a base) o.indent)
    (plus base o.indent)

abbrev pub refitted : LayoutOptions → Frame → ℕ → Level → Measure → Frame
refitted o f depth level m =
    goes_on_at f (first_fitting o depth level m) f.related f.added f.multiplied f.chained

-- with an operand of the outer levels
abbrev pub begun_operand : LayoutOptions → Frame → ℕ → ℕ → Level → Measure → Frame
begun_operand o f depth base level m =
    stepped_operand o (refitted o f depth level m) base m.ahead

abbrev pub begun_outer : LayoutOptions → Frame → ℕ → Level → Measure → Frame
begun_outer o f depth level m = begun_operand o f depth (operand_base f depth m.ahead) level m

-- behind a relation, `+` or `*`, or before a dot: from now on the gaps of that level end lines, as
-- do those outside of it
abbrev pub begun_related : LayoutOptions → Frame → ℕ → Measure → Frame
begun_related o f depth m =
    goes_on_at f Added f.related (plus depth o.indent)
    (plus (term_base o m.ahead depth) o.indent)
    (plus depth o.indent)

abbrev pub begun_added : LayoutOptions → Frame → ℕ → Frame
begun_added o f depth =
    goes_on_at f Multiplied f.related f.added (plus depth o.indent) (plus depth o.indent)

abbrev pub begun_multiplied : LayoutOptions → Frame → ℕ → Frame
begun_multiplied o f depth =
    goes_on_at f Chained f.related f.added f.multiplied (plus depth o.indent)

abbrev pub begun_chained : Frame → Frame
begun_chained f = goes_on_at f Packed f.related f.added f.multiplied f.chained

abbrev pub line_begun_at : LayoutOptions → Frame → ℕ → Spot → Measure → Level → Frame
line_begun_at o f depth s m Listed = begun_outer o (stepped_listed o f s m) depth Listed m
line_begun_at o f depth s m Branched = begun_outer o (stepped_branched o f m) depth Branched m
line_begun_at o f depth s m Disjoined = begun_outer o f depth Disjoined m
line_begun_at o f depth s m Conjoined = begun_operand o f depth depth Conjoined m
line_begun_at o f depth s m Related = begun_related o f depth m
line_begun_at o f depth s m Added = begun_added o f depth
line_begun_at o f depth s m Multiplied = begun_multiplied o f depth
line_begun_at o f depth s m Chained = begun_chained f
line_begun_at o f depth s m Packed = f
line_begun_at o f depth s m Filled = f
line_begun_at o f depth s m Fixed = f

-- lines end at the gaps of a level, in the innermost open bracket or in none
abbrev pub breaks_level : Option Frame → Level → Bool
breaks_level None level = false
breaks_level (Some f) level = not f.flat && nat_lt (rank level) (rank f.fitting)

-- what a bracket's line holds up to its next gap of an outer level stands on one line, so that none
-- ends at another gap
abbrev pub is_fine : Frame → Bool
is_fine f = f.flat || nat_lt (rank f.fitting) (rank Related)
