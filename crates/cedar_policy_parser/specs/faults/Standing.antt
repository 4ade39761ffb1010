-- Where the faults of a conversion stand: within the place of what is converted.
use Rattle.std.specs.Prelude.{◌≢◌, ◌≤◌, ℕ, List, [], ◌++◌, Option, Some, Ok, Err, ◌≡◌}
use Rattle.std.specs.List.{All}
use Rattle.cedar_lexer.specs.Cut.{Cuts}
use Rattle.cedar_lexer.specs.Token.{Lexeme}
use Rattle.cedar_syntax.specs.declared.loc.Loc.{Loc}
use Rattle.cedar_syntax.specs.places.Span.{end_of}
use Rattle.cedar_conversion.specs.outcome.Outcome.{Outcome, NamedFault, empty_node, invalid_identifier}

-- both places are known and of the same text, and the bytes of the second are some of the first's
abbrev pub LiesWithin : Option Loc → Option Loc → Type 0
LiesWithin (Some outer) (Some loc) =
    (loc.src ≡ outer.src) × (outer.span.offset ≤ loc.span.offset)
    × (end_of loc.span ≤ end_of outer.span)
LiesWithin _ _ = ⊥

-- a fault at a place within another; a node that is read is never empty, and an identifier that is
-- read is spelled as one
abbrev pub FaultWithin : Option Loc → NamedFault → Type 0
FaultWithin outer fault =
    (fault.0 ≢ empty_node) × (fault.0 ≢ invalid_identifier) × LiesWithin outer fault.1

-- where nothing is given there are faults, each within a place
abbrev pub StandWithin : {Y : Type 0} → Option Loc → Outcome Y → Type 0
StandWithin outer (Ok y) = Unit {0}
StandWithin outer (Err faults) = (faults ≢ []) × All (FaultWithin outer) faults

-- tokens that stand one behind the other among those of a text
abbrev pub AreTokensOf : List ℕ → List Lexeme → Type 0
AreTokensOf text ts =
    (before : List Lexeme) × (after : List Lexeme) × Cuts text (before ++ ts ++ after)
