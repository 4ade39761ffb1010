-- What a list of faults holds once the loan of what is in it ends.
use Rattle.std.specs.Borrow.{Lends, MutBor, Fml}
use Rattle.cedar_syntax.specs.declared.err.non_empty.NonEmpty.{NonEmpty}
use Rattle.cedar_syntax.specs.declared.err.faults.ParseError.{ParseError}
use Rattle.cedar_syntax.specs.declared.err.faults.ParseErrors.{ParseErrors}
use Rattle.cedar_syntax.specs.contracts.err.faults.ParseErrors.{the_row}
use Rattle.cedar_syntax.specs.contracts.err.faults.ParseError as fault
use Rattle.cedar_syntax.specs.contracts.err.non_empty.NonEmpty as list

-- the faults end as the list last written
abbrev pub LendsFaults : MutBor ParseErrors → MutBor (NonEmpty ParseError) → Fml
LendsFaults errors lent = Lends the_row (list.the_row fault.the_row) errors lent
    (λ written. record errors.now { faults = written })
