-- What a stack holds once the loan of its newest element ends.
use Rattle.std.specs.Prelude.{List, [], ◌∷◌, Option}
use Rattle.std.specs.Borrow.{LendsIf, RattleType, MutBor, Fml}
use Rattle.cedar_syntax.specs.contracts.stack.Stack as stack

-- a stack with another element as its newest
abbrev pub with_top : {T : Type 0} → List T → T → List T
with_top [] written = []
with_top (x ∷ xs) written = written ∷ xs

-- the stack ends with the element last written as its newest
abbrev pub lends_top : (T : RattleType) → MutBor (List T.Denot) → Option (MutBor T.Denot) → Fml
lends_top T elements lent = LendsIf (stack.the_row T) T elements lent
    (λ written. with_top elements.now written) elements.now
