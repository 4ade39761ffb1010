-- The sites of an expression's tree, at which a rule of the conversion may refuse it: a node by
-- itself, a node as what is wanted where it stands, a name, an identifier; and which sites are
-- right below which.
use Rattle.std.specs.Prelude.{◌≡◌, ℕ, suc, Bool, true, false, List, Option, Some, None, Ok, if◌then◌else◌}
use Rattle.std.specs.List.{Contains}
use Rattle.cedar_expressions.specs.Path.{Path}
use Rattle.cedar_expressions.specs.declared.atoms.Var.{Var}
use Rattle.cedar_syntax.specs.declared.cst.Ident.{Ident}
use Rattle.cedar_syntax.specs.declared.cst.Literal.{Literal}
use Rattle.cedar_syntax.specs.declared.cst.Literal.TheVariants as lit
use Rattle.cedar_syntax.specs.declared.cst.Name.{Name}
use Rattle.cedar_syntax.specs.declared.cst.NegOp.{NegOp}
use Rattle.cedar_syntax.specs.declared.cst.NegOp.TheVariants as sign
use Rattle.cedar_syntax.specs.declared.cst.Ref.TheVariants as refs
use Rattle.cedar_syntax.specs.declared.cst.Ref.{Ref}
use Rattle.cedar_syntax.specs.declared.cst.Str.{Str}
use Rattle.cedar_syntax.specs.declared.cst.Str.TheVariants as str
use Rattle.cedar_syntax.specs.declared.loc.Loc.{Loc}
use Rattle.cedar_syntax.specs.declared.node.Node.{Node}
use Rattle.cedar_syntax.specs.trees.Located as f
use Rattle.cedar_syntax.specs.trees.Located.{Located, Form, Parts, at, none, more}
use Rattle.cedar_syntax.specs.trees.Tree.{Level, Operator}
use Rattle.cedar_policy_parser.specs.faults.Alone.{ComesTo}
use Rattle.cedar_conversion.specs.outcome.Conversion.{tree_place}
use Rattle.cedar_conversion.specs.parts.HasSide.{no_sign}
use Rattle.cedar_conversion.specs.parts.Literals.{number_in, lone_literal}
use Rattle.cedar_conversion.specs.parts.Names.{name_outcome, named_variable}

-- what is wanted where a node stands: an expression and nothing else; attributes right of `has`; a
-- pattern right of `like`; an entity type right of `is`; a string inside an index; a key before a
-- record's `:`
pub data Role : Type 0 where
  expression : Role
  attributes : Role
  pattern : Role
  entity_type : Role
  string : Role
  key : Role

pub data Site : Type 0 where
  -- a node, whatever is wanted there
  node : Located → Site
  -- a node as what is wanted there
  wanted : Role → Located → Site
  name : Node (Option Name) → Site
  -- an identifier of a name, or a field's
  identifier : Node (Option Ident) → Site

abbrev pub site_place : Site → Option Loc
site_place (node n) = tree_place n
site_place (wanted role n) = tree_place n
site_place (name n) = n.loc
site_place (identifier n) = n.loc

-- ---- nodes that are one leaf and no more

-- a name
abbrev pub IsNameNode : Located → Node (Option Name) → Type 0
IsNameNode n m = (p : Option Loc) × ComesTo n (at p (f.name m))

abbrev pub IsNameSite : Located → Type 0
IsNameSite n = (m : Node (Option Name)) × IsNameNode n m

-- `principal`, `action`, `resource` or `context`
abbrev pub IsVariableSite : Located → Type 0
IsVariableSite n =
    (m : Node (Option Name)) × IsNameNode n m × (x : Var) × (named_variable m.node ≡ Some x)

-- another name, of which no identifier is refused
abbrev pub IsNamed : Located → Path → Type 0
IsNamed n path =
    (m : Node (Option Name)) × IsNameNode n m × (named_variable m.node ≡ None)
    × (name_outcome m ≡ Ok path)

abbrev pub IsLiteral : Located → Option Literal → Type 0
IsLiteral n c =
    (m : Node (Option Literal)) × (p : Option Loc) × ComesTo n (at p (f.literal m)) × (m.node ≡ c)

-- `true` or `false`
abbrev pub IsTruth : Option Literal → Type 0
IsTruth (Some lit.True) = Unit {0}
IsTruth (Some lit.False) = Unit {0}
IsTruth _ = ⊥

abbrev pub IsTruthValue : Located → Type 0
IsTruthValue n = (c : Option Literal) × IsLiteral n c × IsTruth c

-- a string, as it is written
abbrev pub IsQuoted : Option Literal → List ℕ → Type 0
IsQuoted (Some (lit.Str s)) raw = s.node ≡ Some (str.String raw)
IsQuoted _ raw = ⊥

abbrev pub IsString : Located → List ℕ → Type 0
IsString n raw = (c : Option Literal) × IsLiteral n c × IsQuoted c raw

abbrev pub IsAnyString : Located → Type 0
IsAnyString n = (raw : List ℕ) × IsString n raw

-- ---- right of `has`

-- the head and the accesses of the member that a node is, if it is one without operators or signs
abbrev pub one_member : Located → Option (Located × Parts)
one_member (at p (f.chain level n none)) = one_member n
one_member (at p (f.unary op n)) = if no_sign op then one_member n else None
one_member (at p (f.member n accesses)) = Some (n, accesses)
one_member _ = None

-- a literal or a name, which alone may begin attributes
abbrev pub IsBeginning : Located → Type 0
IsBeginning (at p (f.literal m)) = Unit {0}
IsBeginning (at p (f.name m)) = Unit {0}
IsBeginning _ = ⊥

abbrev pub IsFieldForm : Form → Type 0
IsFieldForm (f.field n) = Unit {0}
IsFieldForm _ = ⊥

abbrev pub IsFieldNode : Located → Type 0
IsFieldNode (at p form) = IsFieldForm form
IsFieldNode _ = ⊥

-- whether a node is read by itself where this is wanted: a string right of `like` is read as a
-- pattern, and a right side of `has` by a rule of its own
abbrev pub is_read_itself : Role → Bool
is_read_itself attributes = false
is_read_itself pattern = false
is_read_itself _ = true

-- ---- what is right below a site

-- a node among parts, behind this operator
pub data IsAmong : Operator → Located → Parts → Type 0 where
  first : {op : Operator} {n : Located} {others : Parts} → IsAmong op n (more op n others)
  later : {op oq : Operator} {m n : Located} {others : Parts} → IsAmong op n others
      → IsAmong op n (more oq m others)

-- a number behind `-`, which is one literal with its sign
abbrev pub is_negated : Option NegOp → Option ℕ → Bool
is_negated (Some (sign.Dash (suc n))) (Some k) = true
is_negated _ _ = false

-- The first is right below the second. A level of the grammar with one part gives itself over to
-- it. Of a right side of `has` its rule reads just what begins the one member, and the fields
-- behind a name.
pub data IsPart : Site → Site → Type 0 where
  itself : {role : Role} {n : Located} → is_read_itself role ≡ true
      → IsPart (node n) (wanted role n)
  beginning : {n m : Located} {accesses : Parts} → one_member n ≡ Some (m, accesses)
      → IsBeginning m → IsPart (node m) (wanted attributes n)
  attribute : {p : Option Loc} {op : Operator} {m : Node (Option Name)} {n i : Located}
      {accesses : Parts} → one_member n ≡ Some (at p (f.name m), accesses)
      → IsAmong op i accesses → IsFieldNode i → IsPart (node i) (wanted attributes n)
  no_string : {n : Located} → ¬ (IsAnyString n) → IsPart (node n) (wanted pattern n)
  through_only : {p : Option Loc} {n : Located} → IsPart (node n) (node (at p (f.only n)))
  through_chain : {p : Option Loc} {level : Level} {n : Located}
      → IsPart (node n) (node (at p (f.chain level n none)))
  through_unary : {p : Option Loc} {op : Option NegOp} {n : Located} → no_sign op ≡ true
      → IsPart (node n) (node (at p (f.unary op n)))
  guard : {p : Option Loc} {a b c : Located}
      → IsPart (wanted expression a) (node (at p (f.ite a b c)))
  if_so : {p : Option Loc} {a b c : Located}
      → IsPart (wanted expression b) (node (at p (f.ite a b c)))
  if_not : {p : Option Loc} {a b c : Located}
      → IsPart (wanted expression c) (node (at p (f.ite a b c)))
  first_operand : {p : Option Loc} {level : Level} {op : Operator} {n m : Located} {others : Parts}
      → IsPart (wanted expression n) (node (at p (f.chain level n (more op m others))))
  operand : {p : Option Loc} {level : Level} {op : Operator} {n m : Located} {others : Parts}
      → IsAmong op m others → IsPart (wanted expression m) (node (at p (f.chain level n others)))
  signed : {p : Option Loc} {op : Option NegOp} {n : Located} → no_sign op ≡ false
      → is_negated op (number_in (lone_literal n)) ≡ false
      → IsPart (wanted expression n) (node (at p (f.unary op n)))
  left_of_has : {p : Option Loc} {m n : Located}
      → IsPart (wanted expression m) (node (at p (f.has m n)))
  right_of_has : {p : Option Loc} {m n : Located}
      → IsPart (wanted attributes n) (node (at p (f.has m n)))
  left_of_like : {p : Option Loc} {m n : Located}
      → IsPart (wanted expression m) (node (at p (f.like m n)))
  right_of_like : {p : Option Loc} {m n : Located}
      → IsPart (wanted pattern n) (node (at p (f.like m n)))
  left_of_is : {p : Option Loc} {m n : Located}
      → IsPart (wanted expression m) (node (at p (f.is m n)))
  right_of_is : {p : Option Loc} {m n : Located}
      → IsPart (wanted entity_type n) (node (at p (f.is m n)))
  left_of_is_in : {p : Option Loc} {m n i : Located}
      → IsPart (wanted expression m) (node (at p (f.is_in m n i)))
  right_of_is_in : {p : Option Loc} {m n i : Located}
      → IsPart (wanted entity_type n) (node (at p (f.is_in m n i)))
  behind_in : {p : Option Loc} {m n i : Located}
      → IsPart (wanted expression i) (node (at p (f.is_in m n i)))
  -- a primary and its accesses
  head : {p : Option Loc} {n : Located} {accesses : Parts}
      → IsPart (node n) (node (at p (f.member n accesses)))
  access : {p : Option Loc} {op : Operator} {n m : Located} {accesses : Parts}
      → IsAmong op m accesses → IsPart (node m) (node (at p (f.member n accesses)))
  argument : {p : Option Loc} {op : Operator} {n : Located} {items : Parts} → IsAmong op n items
      → IsPart (wanted expression n) (node (at p (f.call items)))
  in_index : {p : Option Loc} {n : Located} → IsPart (wanted string n) (node (at p (f.index n)))
  in_parens : {p : Option Loc} {n : Located}
      → IsPart (wanted expression n) (node (at p (f.parens n)))
  item : {p : Option Loc} {op : Operator} {n : Located} {items : Parts} → IsAmong op n items
      → IsPart (wanted expression n) (node (at p (f.set items)))
  pair : {p : Option Loc} {op : Operator} {n : Located} {inits : Parts} → IsAmong op n inits
      → IsPart (node n) (node (at p (f.record_of inits)))
  key_of : {p : Option Loc} {m n : Located} → IsPart (wanted key m) (node (at p (f.init m n)))
  value : {p : Option Loc} {m n : Located}
      → IsPart (wanted expression n) (node (at p (f.init m n)))
  its_name : {p : Option Loc} {n : Node (Option Name)} → IsPart (name n) (node (at p (f.name n)))
  its_identifier : {p : Option Loc} {n : Node (Option Ident)}
      → IsPart (identifier n) (node (at p (f.field n)))
  its_type : {p : Option Loc} {n : Node (Option Ref)} {path : Node (Option Name)}
      {eid : Node (Option Str)} → n.node ≡ Some (refs.Uid path eid)
      → IsPart (name path) (node (at p (f.reference n)))
  last_identifier : {n : Node (Option Name)} {m : Name} → n.node ≡ Some m
      → IsPart (identifier m.name) (name n)
  before_last : {n : Node (Option Name)} {m : Name} {i : Node (Option Ident)} → n.node ≡ Some m
      → Contains m.path i → IsPart (identifier i) (name n)

-- a site of a tree: the tree itself, or a site of what is right below it
pub data IsSiteOf : Site → Site → Type 0 where
  itself : {s : Site} → IsSiteOf s s
  below : {r s t : Site} → IsPart s t → IsSiteOf r s → IsSiteOf r t
