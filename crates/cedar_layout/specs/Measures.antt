-- How far it is from each word to the gaps at which its line can end.
use Rattle.std.specs.Prelude.{ℕ, ◌+◌, ◌-◌, ◌^◌, min, Bool, true, false, cond, ◌&&◌, ◌||◌, ◌==◌, nat_lt, nat_le, List, [], ◌∷◌, Option, Some, None}
use Rattle.cedar_lexer.specs.declared.token.TokenKind.{TokenKind}
use Rattle.cedar_layout.specs.declared.gaps.Gap.{Gap}
use Rattle.cedar_layout.specs.declared.spots.Spot.{Spot}
use Rattle.cedar_layout.specs.declared.measures.Distance.{Distance}
use Rattle.cedar_layout.specs.declared.measures.Ahead.{Ahead}
use Rattle.cedar_layout.specs.declared.measures.Measure.{Measure}
use Rattle.cedar_layout.specs.declared.measures.MeasuredWord.{MeasuredWord}
use Rattle.cedar_layout.specs.declared.measures.Words as code
use Rattle.cedar_layout.specs.declared.levels.Level.{Level}
use Rattle.cedar_layout.specs.declared.levels.Level.TheVariants.{Branched, Disjoined, Conjoined, Related, Added, Multiplied, Chained, Packed, Fixed}
use Rattle.cedar_layout.specs.Kinds.{opens, closes}
use Rattle.cedar_layout.specs.Levels.{rank}

-- numbers end at the largest `usize`
abbrev pub plus : ℕ → ℕ → ℕ
plus a b = min (a + b) (2 ^ 64 - 1)

-- from one place up to another one no comment stands, and what stands there fits behind a column
abbrev pub fits_from : ℕ → ℕ → Distance → Distance → Bool
fits_from width column from to =
    from.comments == to.comments && nat_le (plus column (from.columns - to.columns)) width

-- one place stands before another one
abbrev pub stands_before : Distance → Distance → Bool
stands_before a b =
    nat_lt b.comments a.comments || a.comments == b.comments && nat_lt b.columns a.columns

-- read from the end to here: where the word before ends, what is ahead, what is ahead behind each
-- bracket whose end has been read, and the words so far
pub record Scan : Type 0 where
  pub place : Distance
  pub ahead : Ahead
  pub behind : List Ahead
  pub words : List MeasuredWord

abbrev pub scan_of : Distance → Ahead → List Ahead → List MeasuredWord → Scan
scan_of place ahead behind words = record {
  place = place;
  ahead = ahead;
  behind = behind;
  words = words;
}

abbrev pub the_end : Distance
the_end = record { comments = 0; columns = 0 }

abbrev pub end_ahead : Ahead
end_ahead = record {
  branched = the_end;
  disjoined = the_end;
  conjoined = the_end;
  related = the_end;
  added = the_end;
  multiplied = the_end;
  chained = the_end;
  packed = the_end;
  ending = the_end;
}

abbrev pub end_scan : Scan
end_scan = scan_of the_end end_ahead [] []

abbrev pub ones : Bool → ℕ
ones true = 1
ones false = 0

abbrev pub before_text : Distance → ℕ → Distance
before_text place columns =
    record { comments = place.comments; columns = plus place.columns columns }

abbrev pub before_gap : Distance → Bool → Bool → Distance
before_gap place commented spaced = record {
  comments = plus place.comments (ones commented);
  columns = plus place.columns (ones spaced);
}

-- a line begins at the gap, or its level is outside of the other one
abbrev pub ends_line : Gap → Level → Bool
ends_line g level = g.begins_line || nat_lt (rank g.level) (rank level)

abbrev pub nearer : Bool → Distance → Distance → Distance
nearer here place ahead = cond here place ahead

-- what is ahead before a gap that ends there
abbrev pub past_gap : Gap → Bool → Distance → Ahead → Ahead
past_gap g commented place ahead = record {
  branched = nearer (ends_line g Branched) place ahead.branched;
  disjoined = nearer (ends_line g Disjoined) place ahead.disjoined;
  conjoined = nearer (ends_line g Conjoined) place ahead.conjoined;
  related = nearer (ends_line g Related) place ahead.related;
  added = nearer (ends_line g Added) place ahead.added;
  multiplied = nearer (ends_line g Multiplied) place ahead.multiplied;
  chained = nearer (ends_line g Chained) place ahead.chained;
  packed = nearer (ends_line g Packed) place ahead.packed;
  ending = nearer (ends_line g Fixed || commented) place ahead.ending;
}

abbrev pub first_ahead : List Ahead → Option Ahead
first_ahead [] = None
first_ahead (ahead ∷ aheads) = Some ahead

-- at an opening bracket it is what is ahead behind the bracket; but the line may end in it
abbrev pub at_opening : Option Ahead → Ahead → Ahead
at_opening None ahead = ahead
at_opening (Some behind) ahead = record {
  branched = behind.branched;
  disjoined = behind.disjoined;
  conjoined = behind.conjoined;
  related = behind.related;
  added = behind.added;
  multiplied = behind.multiplied;
  chained = behind.chained;
  packed = behind.packed;
  ending = ahead.ending;
}

abbrev pub whole_of : Option Ahead → Distance
whole_of None = the_end
whole_of (Some ahead) = ahead.ending

abbrev pub without_first : List Ahead → List Ahead
without_first [] = []
without_first (ahead ∷ aheads) = aheads

abbrev pub behind_word : TokenKind → List Ahead → Ahead → List Ahead
behind_word kind behind ahead =
    cond (opens kind) (without_first behind) (cond (closes kind) (ahead ∷ behind) behind)

abbrev pub ahead_at : TokenKind → Option Ahead → Ahead → Ahead
ahead_at kind behind ahead = cond (opens kind) (at_opening behind ahead) ahead

abbrev pub measure_at : Spot → Option Ahead → Ahead → Distance → Measure
measure_at spot behind ahead place = record {
  from = before_text place spot.columns;
  ahead = ahead_at spot.kind behind ahead;
  whole = whole_of behind;
}

abbrev pub place_before : Spot → Distance → Distance
place_before spot place =
    before_gap (before_text place spot.columns) spot.commented spot.gap.spaced

abbrev pub scan_before : Spot → Scan → Scan
scan_before spot s = record {
  place = place_before spot s.place;
  ahead = past_gap spot.gap spot.commented (place_before spot s.place)
      (ahead_at spot.kind (first_ahead s.behind) s.ahead);
  behind = behind_word spot.kind s.behind s.ahead;
  words = record {
    spot = spot;
    measure = measure_at spot (first_ahead s.behind) s.ahead s.place;
  } ∷ s.words;
}

abbrev pub scanned : List Spot → Scan
scanned [] = end_scan
scanned (spot ∷ spots) = scan_before spot (scanned spots)

abbrev pub words_measured : List Spot → List MeasuredWord
words_measured spots = (scanned spots).words

-- ---- the measures that are kept

-- only where a line may begin or a bracket opens is a word's measure asked for
abbrev pub is_measured : Spot → Bool
is_measured s =
    s.commented || s.gap.begins_line || nat_lt (rank s.gap.level) (rank Fixed) || opens s.kind

abbrev pub kept_with : MeasuredWord → List Measure → List Measure
kept_with w ms = cond (is_measured w.spot) (w.measure ∷ ms) ms

abbrev pub kept_measures : List MeasuredWord → List Measure
kept_measures [] = []
kept_measures (w ∷ ws) = kept_with w (kept_measures ws)

-- the words with these gaps, to which these measures are given in order; the others have none
abbrev pub no_measure : Measure
no_measure = record { from = the_end; ahead = end_ahead; whole = the_end }

abbrev pub first_measure : List Measure → Measure
first_measure [] = no_measure
first_measure (m ∷ ms) = m

abbrev pub rest_measures : List Measure → List Measure
rest_measures [] = []
rest_measures (m ∷ ms) = ms

abbrev pub measured_by : Spot → List Measure → MeasuredWord
measured_by s ms =
    record { spot = s; measure = cond (is_measured s) (first_measure ms) no_measure }

abbrev pub measures_past : Spot → List Measure → List Measure
measures_past s ms = cond (is_measured s) (rest_measures ms) ms

abbrev pub words_kept : List Spot → List Measure → List MeasuredWord
words_kept [] ms = []
words_kept (s ∷ ss) ms = measured_by s ms ∷ words_kept ss (measures_past s ms)

abbrev pub words_now : code.Words → List MeasuredWord
words_now w = words_kept w.spots.items w.measures.items

abbrev pub first_word : List MeasuredWord → Option MeasuredWord
first_word [] = None
first_word (w ∷ ws) = Some w

abbrev pub rest_words : List MeasuredWord → List MeasuredWord
rest_words [] = []
rest_words (w ∷ ws) = ws
