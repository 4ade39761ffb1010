-- Trees of which no node is empty, each within the place of the node that it is a part of, with
-- the operators of its level between operands.
use Rattle.std.proofs.Common.{◌≡◌, Option, Some, None}
use Rattle.cedar_syntax.specs.declared.loc.Loc.{Loc}
use Rattle.cedar_syntax.specs.trees.Located.{Located, Form, Parts, missing, at, only, ite, chain, has, like, is, is_in, unary, member, field, call, index, literal, name, slot, reference, parens, set, record_of, init, none, more}
use Rattle.cedar_syntax.specs.trees.Tree.{Level, Operator, disjunction, conjunction, relation, sum, product, or_or, and_and, compare, add, multiply, beside}
use Rattle.cedar_policy_parser.specs.faults.Standing.{LiesWithin}
use Rattle.cedar_policy_parser.proofs.standing.Standing.{parsed}
use Rattle.cedar_policy_parser.proofs.tidy.Tidy.{FormTidy, IdentTidy}

-- the operators of a level
abbrev pub IsOfLevel : Level → Operator → Type 0
IsOfLevel disjunction or_or = Unit {0}
IsOfLevel conjunction and_and = Unit {0}
IsOfLevel relation (compare op) = Unit {0}
IsOfLevel sum (add op) = Unit {0}
IsOfLevel product (multiply op) = Unit {0}
IsOfLevel _ _ = ⊥

-- what stands before a part of a level, and that nothing stands before an item of a list
abbrev pub IsBefore : Option Level → Operator → Type 0
IsBefore (Some level) op = IsOfLevel level op
IsBefore None op = op ≡ beside

abbrev mutual
  pub Nested : Option Loc → Located → Type 0
  Nested w (missing p) = ⊥
  Nested w (at p u) = LiesWithin w p × FormNested p u

  pub FormNested : Option Loc → Form → Type 0
  FormNested p (only n) = Nested p n
  FormNested p (ite a b c) = Nested p a × Nested p b × Nested p c
  FormNested p (chain level first others) = Nested p first × PartsNested p (Some level) others
  FormNested p (has m n) = Nested p m × Nested p n
  FormNested p (like m n) = Nested p m × Nested p n
  FormNested p (is m n) = Nested p m × Nested p n
  FormNested p (is_in m n i) = Nested p m × Nested p n × Nested p i
  FormNested p (unary op n) = Nested p n
  FormNested p (member n accesses) = Nested p n × AccessesNested p accesses
  FormNested p (literal n) = FormTidy (parsed p) (literal n)
  FormNested p (name n) = FormTidy (parsed p) (name n)
  FormNested p (slot n) = FormTidy (parsed p) (slot n)
  FormNested p (reference n) = FormTidy (parsed p) (reference n)
  FormNested p (parens n) = Nested p n
  FormNested p (set items) = PartsNested p None items
  FormNested p (record_of inits) = PairsNested p inits
  FormNested p _ = ⊥

  -- of a level, or of a list
  pub PartsNested : Option Loc → Option Level → Parts → Type 0
  PartsNested p level none = Unit {0}
  PartsNested p level (more op n others) = IsBefore level op × Nested p n × PartsNested p level others

  pub AccessesNested : Option Loc → Parts → Type 0
  AccessesNested p none = Unit {0}
  AccessesNested p (more op n others) = AccessNested p n × AccessesNested p others

  pub AccessNested : Option Loc → Located → Type 0
  AccessNested w (missing p) = ⊥
  AccessNested w (at p u) = LiesWithin w p × AccessFormNested p u

  pub AccessFormNested : Option Loc → Form → Type 0
  AccessFormNested p (field n) = IdentTidy (parsed p) n
  AccessFormNested p (call items) = PartsNested p None items
  AccessFormNested p (index n) = Nested p n
  AccessFormNested p _ = ⊥

  pub PairsNested : Option Loc → Parts → Type 0
  PairsNested p none = Unit {0}
  PairsNested p (more op n others) = PairNested p n × PairsNested p others

  pub PairNested : Option Loc → Located → Type 0
  PairNested w (missing p) = ⊥
  PairNested w (at p u) = LiesWithin w p × PairFormNested p u

  pub PairFormNested : Option Loc → Form → Type 0
  PairFormNested p (init m n) = Nested p m × Nested p n
  PairFormNested p _ = ⊥
