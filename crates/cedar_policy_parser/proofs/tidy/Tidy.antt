-- Trees of which no node is empty, each within one place, and each identifier one that a name may
-- hold; of a tree by hand nothing is asked.
use Rattle.std.proofs.Common.{◌≡◌, ℕ, true, List, [], ◌∷◌, Option, Some, None}
use Rattle.cedar_expressions.specs.Path.{is_valid_identifier}
use Rattle.cedar_syntax.specs.declared.node.Node.{Node}
use Rattle.cedar_syntax.specs.declared.cst.Ident.{Ident}
use Rattle.cedar_syntax.specs.declared.cst.Ident.TheVariants as words
use Rattle.cedar_syntax.specs.declared.cst.Literal.{Literal}
use Rattle.cedar_syntax.specs.declared.cst.Literal.TheVariants as lit
use Rattle.cedar_syntax.specs.declared.cst.Name.{Name}
use Rattle.cedar_syntax.specs.declared.cst.Ref.{Ref}
use Rattle.cedar_syntax.specs.declared.cst.Ref.TheVariants as refs
use Rattle.cedar_syntax.specs.trees.Located.{Located, Form, Parts, missing, at, only, ite, chain, has, like, is, is_in, unary, member, field, call, index, literal, name, slot, reference, parens, set, record_of, init, none, more}
use Rattle.cedar_policy_parser.proofs.standing.Standing.{Origin, by_hand, parsed, ByHand, LiesIn, Anything}

-- ---- nodes

abbrev pub Holding : {X : Type 0} → Origin → (X → Type 0) → Option X → Type 0
Holding o P None = ByHand o
Holding o P (Some x) = P x

abbrev pub NodeTidy : {X : Type 0} → Origin → (X → Type 0) → Node (Option X) → Type 0
NodeTidy o P n = LiesIn o n.loc × Holding o P n.node

abbrev pub Each : {X : Type 0} → (X → Type 0) → List X → Type 0
Each P [] = Unit {0}
Each P (x ∷ xs) = P x × Each P xs

-- ---- leaves

-- the text of one that is read is one that a name may hold
abbrev pub IsValid : Origin → List ℕ → Type 0
IsValid by_hand text = Unit {0}
IsValid (parsed outer) text = is_valid_identifier text ≡ true

abbrev pub IdentHeld : Origin → Ident → Type 0
IdentHeld o (words.Ident text) = IsValid o text
IdentHeld o (words.Invalid text) = ByHand o
IdentHeld o _ = Unit {0}

abbrev pub IdentTidy : Origin → Node (Option Ident) → Type 0
IdentTidy o n = NodeTidy o (IdentHeld o) n

abbrev pub NameTidy : Origin → Name → Type 0
NameTidy o m = Each (IdentTidy o) m.path × IdentTidy o m.name

abbrev pub LiteralTidy : Origin → Literal → Type 0
LiteralTidy o lit.True = Unit {0}
LiteralTidy o lit.False = Unit {0}
LiteralTidy o (lit.Num n) = Unit {0}
LiteralTidy o (lit.Str s) = NodeTidy o Anything s

-- a form with braces is refused as it is
abbrev pub RefTidy : Origin → Ref → Type 0
RefTidy o (refs.Uid path eid) = NodeTidy o (NameTidy o) path × NodeTidy o Anything eid
RefTidy o (refs.Ref path inits) = Unit {0}

-- ---- expressions: accesses and a record's pairs stand in their own places alone

abbrev mutual
  pub Tidy : Origin → Located → Type 0
  Tidy o (missing place) = ByHand o
  Tidy o (at place form) = LiesIn o place × FormTidy o form

  pub FormTidy : Origin → Form → Type 0
  FormTidy o (only n) = Tidy o n
  FormTidy o (ite a b c) = Tidy o a × Tidy o b × Tidy o c
  FormTidy o (chain level first others) = Tidy o first × PartsTidy o others
  FormTidy o (has target right) = Tidy o target × Tidy o right
  FormTidy o (like target pattern) = Tidy o target × Tidy o pattern
  FormTidy o (is target type) = Tidy o target × Tidy o type
  FormTidy o (is_in target type within) = Tidy o target × Tidy o type × Tidy o within
  FormTidy o (unary op item) = Tidy o item
  FormTidy o (member item accesses) = Tidy o item × AccessesTidy o accesses
  FormTidy o (field n) = ByHand o
  FormTidy o (call items) = ByHand o
  FormTidy o (index n) = ByHand o
  FormTidy o (literal n) = NodeTidy o (LiteralTidy o) n
  FormTidy o (name n) = NodeTidy o (NameTidy o) n
  FormTidy o (slot n) = NodeTidy o Anything n
  FormTidy o (reference n) = NodeTidy o (RefTidy o) n
  FormTidy o (parens n) = Tidy o n
  FormTidy o (set items) = PartsTidy o items
  FormTidy o (record_of items) = PairsTidy o items
  FormTidy o (init key value) = ByHand o

  pub PartsTidy : Origin → Parts → Type 0
  PartsTidy o none = Unit {0}
  PartsTidy o (more op n others) = Tidy o n × PartsTidy o others

  pub AccessesTidy : Origin → Parts → Type 0
  AccessesTidy o none = Unit {0}
  AccessesTidy o (more op n others) = AccessTidy o n × AccessesTidy o others

  pub AccessTidy : Origin → Located → Type 0
  AccessTidy o (missing place) = ByHand o
  AccessTidy o (at place form) = LiesIn o place × AccessFormTidy o form

  pub AccessFormTidy : Origin → Form → Type 0
  AccessFormTidy o (field n) = IdentTidy o n
  AccessFormTidy o (call items) = PartsTidy o items
  AccessFormTidy o (index n) = Tidy o n
  AccessFormTidy o _ = ByHand o

  pub PairsTidy : Origin → Parts → Type 0
  PairsTidy o none = Unit {0}
  PairsTidy o (more op n others) = PairTidy o n × PairsTidy o others

  pub PairTidy : Origin → Located → Type 0
  PairTidy o (missing place) = ByHand o
  PairTidy o (at place form) = LiesIn o place × PairFormTidy o form

  pub PairFormTidy : Origin → Form → Type 0
  PairFormTidy o (init key value) = Tidy o key × Tidy o value
  PairFormTidy o _ = ByHand o
