use Rattle.std.proofs.Common.{◌≡◌, drop}
use Rattle.cedar_lexer.specs.contracts.token.TokenKindPartialEq.TheImpl as kind_eq
use Rattle.cedar_report.specs.Rows.{first_that, row_fits}
use Rattle.cedar_report.proofs.fit.look_up.Given as goal

-- none of the rows so far fits
abbrev pub invariant-loop-row : goal.invariant-loop-row
invariant-loop-row l =
    first_that (row_fits kind_eq.ghosts.eq l.clues) (drop l.row-index l.rows)
    ≡ first_that (row_fits kind_eq.ghosts.eq l.clues) l.rows
