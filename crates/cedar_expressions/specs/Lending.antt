-- What a `Boxed` ends as, where the value that it holds was lent to be changed.
use Rattle.std.specs.Borrow.{Lends, Fml, RattleType, MutBor}
use Rattle.cedar_expressions.specs.contracts.boxed.Boxed as boxed

-- once the loan ends, the box holds what was last written through it
abbrev pub lends_boxed : (T : RattleType) → MutBor T.Denot → MutBor T.Denot → Fml
lends_boxed T b r = Lends (boxed.the_row T) T b r (λ w. w)
