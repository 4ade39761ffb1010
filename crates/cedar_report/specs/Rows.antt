-- When a row of the table fits, and which row is told.
use Rattle.std.specs.Prelude.{List, [], ◌∷◌, Bool, true, false, not, ◌&&◌, Option, Some, None, if◌then◌else◌}
use Rattle.std.specs.List.{list_any}
use Rattle.cedar_lexer.specs.declared.token.TokenKind.{TokenKind}
use Rattle.cedar_report.specs.declared.rows.Row.{Row}
use Rattle.cedar_report.specs.declared.rows.Look.{Look}
use Rattle.cedar_report.specs.declared.rows.Look.TheVariants.{Start, Operator, Name}
use Rattle.cedar_report.specs.declared.near.Near.{Near}
use Rattle.cedar_report.specs.declared.fit.Clues.{Clues}
use Rattle.cedar_report.specs.Signs.{all_meet, is_one_of}

-- the token that a row looks at, with those beside it
abbrev pub near_looked : Look → Clues → Option Near
near_looked Start clues = Some clues.start
near_looked Operator clues = clues.operator
near_looked Name clues = clues.name

abbrev pub is_near : Row → Option Near → Bool
is_near row (Some near) = all_meet row.near.now near.words
is_near row None = false

-- a kind is among these; no kind always is
abbrev pub can_stand : (TokenKind → TokenKind → Bool) → List TokenKind → Option TokenKind → Bool
can_stand eq kinds None = true
can_stand eq kinds (Some kind) = list_any (λ other. eq other kind) kinds

-- a kind is among these; no kind never is
abbrev pub does_stand : (TokenKind → TokenKind → Bool) → List TokenKind → Option TokenKind → Bool
does_stand eq kinds None = false
does_stand eq kinds (Some kind) = list_any (λ other. eq other kind) kinds

-- a fault is the mistake of a row: it is of one of its kinds, what the row expects could have stood
-- there, what it lacks could not, and the words are what it asks
abbrev pub row_fits : (TokenKind → TokenKind → Bool) → Clues → Row → Bool
row_fits eq clues row = is_one_of row.codes.now clues.code.now
    && can_stand eq clues.kinds.now row.expects
    && not (does_stand eq clues.kinds.now row.lacks)
    && is_near row (near_looked row.look clues)

-- the first that passes a test
abbrev pub first_that : {A : Type 0} → (A → Bool) → List A → Option A
first_that test [] = None
first_that test (x ∷ xs) = if test x then Some x else first_that test xs
