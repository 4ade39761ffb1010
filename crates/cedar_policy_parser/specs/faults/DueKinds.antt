-- Which kinds of fault are due at which site of an expression's tree: those of the rule by which
-- Cedar's conversion refuses a site of this form, whatever its parts give. A case for each case of
-- the rules that names a kind; of faults that are joined, and of their order, nothing is said. At
-- one site no two kinds are due, but at a product that has both a `/` and a `%`.
use Rattle.std.specs.Prelude.{◌≡◌, ◌≢◌, ℕ, suc, nat_le, true, false, List, [], ◌∷◌, Option, Some, None, Ok, Err}
use Rattle.std.specs.List.{All}
use Rattle.std.specs.Map.{keys_of}
use Rattle.cedar_expressions.specs.Keys.{repeats_key}
use Rattle.cedar_expressions.specs.Path.{Path, is_valid_identifier, is_reserved_namespace, has_reserved_namespace}
use Rattle.cedar_expressions.specs.Value.{Value}
use Rattle.cedar_syntax.specs.declared.cst.Ident.{Ident}
use Rattle.cedar_syntax.specs.declared.cst.Ident.TheVariants as words
use Rattle.cedar_syntax.specs.declared.cst.Literal.{Literal}
use Rattle.cedar_syntax.specs.declared.cst.Literal.TheVariants as lit
use Rattle.cedar_syntax.specs.declared.cst.MultOp.TheVariants as mul
use Rattle.cedar_syntax.specs.declared.cst.Name.{Name}
use Rattle.cedar_syntax.specs.declared.cst.NegOp.TheVariants as sign
use Rattle.cedar_syntax.specs.declared.cst.Ref.{Ref}
use Rattle.cedar_syntax.specs.declared.cst.Ref.TheVariants as refs
use Rattle.cedar_syntax.specs.declared.cst.RefInit.{RefInit}
use Rattle.cedar_syntax.specs.declared.cst.RelOp.TheVariants as rel
use Rattle.cedar_syntax.specs.declared.cst.Slot.{Slot}
use Rattle.cedar_syntax.specs.declared.cst.Slot.TheVariants as slots
use Rattle.cedar_syntax.specs.declared.cst.Str.{Str}
use Rattle.cedar_syntax.specs.declared.cst.Str.TheVariants as str
use Rattle.cedar_syntax.specs.declared.loc.Loc.{Loc}
use Rattle.cedar_syntax.specs.declared.node.Node.{Node}
use Rattle.cedar_syntax.specs.trees.Located as f
use Rattle.cedar_syntax.specs.trees.Located.{Located, Form, Parts, at, none, more}
use Rattle.cedar_syntax.specs.strings.Pattern.{pattern_faults}
use Rattle.cedar_syntax.specs.trees.Tree.{Operator, relation, product, compare, multiply}
use Rattle.cedar_conversion.specs.declared.primaries.methods.Standard.{Standard}
use Rattle.cedar_policy_parser.specs.faults.Alone.{ArePairs}
use Rattle.cedar_conversion.specs.strict.Extensions.{Extensions}
use Rattle.cedar_conversion.specs.parts.Literals.{number_in, lone_literal}
use Rattle.cedar_conversion.specs.parts.Members.{arity, takes_one, plain_name}
use Rattle.cedar_conversion.specs.parts.Names.{name_outcome, named_variable, valid_ident, unreserved_ident, identifiers, path_of}
use Rattle.cedar_conversion.specs.outcome.Outcome as k
use Rattle.cedar_conversion.specs.outcome.Outcome.{Kind, NamedFault, Outcome}
use Rattle.cedar_policy_parser.specs.faults.Sites.{Role, Site, node, wanted, name, identifier, expression, attributes, pattern, entity_type, string, key, site_place, IsSiteOf, IsAmong, one_member, IsFieldNode, IsNameSite, IsVariableSite, IsNamed, IsTruth, IsTruthValue, IsQuoted, IsString, IsAnyString}
use Rattle.cedar_policy_parser.specs.faults.Standing.{LiesWithin}
use Rattle.cedar_conversion.specs.strict.Strict.{largest}
use Rattle.cedar_conversion.specs.strict.StrictCalls.{standard_method, names_method}
use Rattle.cedar_conversion.specs.parts.Strings.{layout, escape_faults}

-- ---- identifiers

-- `if true false then else in is has like`
abbrev pub IsReservedIdent : Ident → Type 0
IsReservedIdent words.If = Unit {0}
IsReservedIdent words.True = Unit {0}
IsReservedIdent words.False = Unit {0}
IsReservedIdent words.Then = Unit {0}
IsReservedIdent words.Else = Unit {0}
IsReservedIdent words.In = Unit {0}
IsReservedIdent words.Is = Unit {0}
IsReservedIdent words.Has = Unit {0}
IsReservedIdent words.Like = Unit {0}
IsReservedIdent _ = ⊥

-- no text is spelled so
abbrev pub IsMisspelled : Ident → Type 0
IsMisspelled (words.Ident text) = is_valid_identifier text ≡ false
IsMisspelled (words.Invalid text) = Unit {0}
IsMisspelled _ = ⊥

-- ---- right of `has`

abbrev pub AreFields : Parts → Type 0
AreFields none = Unit {0}
AreFields (more op n others) = IsFieldNode n × AreFields others

-- a string alone, or a name and fields
abbrev pub NamesAttributes : Option (Located × Parts) → Type 0
NamesAttributes (Some (at p (f.literal m), none)) = (raw : List ℕ) × IsQuoted m.node raw
NamesAttributes (Some (at p (f.name m), accesses)) = AreFields accesses
NamesAttributes _ = ⊥

abbrev pub BeginsWithTruth : Option (Located × Parts) → Type 0
BeginsWithTruth (Some (at p (f.literal m), accesses)) = IsTruth m.node
BeginsWithTruth _ = ⊥

-- a name of more than one identifier, of which none is refused
abbrev pub BeginsWithPath : Option (Located × Parts) → Type 0
BeginsWithPath (Some (at p (f.name m), accesses)) =
    (named_variable m.node ≡ None)
    × (path : Path) × (name_outcome m ≡ Ok path) × (path.path ≢ [])
BeginsWithPath _ = ⊥

-- due for a right side, by the one member that it is, if it is one
pub data IsDueRight : Kind → Option (Located × Parts) → Type 0 where
  truth : {one : Option (Located × Parts)} → BeginsWithTruth one
      → IsDueRight k.reserved_identifier one
  path : {one : Option (Located × Parts)} → BeginsWithPath one
      → IsDueRight k.path_as_attribute one
  other : {one : Option (Located × Parts)} → ¬ (BeginsWithTruth one) → ¬ (BeginsWithPath one)
      → ¬ (NamesAttributes one) → IsDueRight k.invalid_has_rhs one

-- ---- calls

-- how many parts
abbrev pub count : Parts → ℕ
count none = 0
count (more op n others) = suc (count others)

-- due for a method's name with so many arguments
pub data IsDueMethod (e : Extensions) (id : List ℕ) (arguments : ℕ) : Kind → Type 0 where
  other_number : (method : Standard) → standard_method id ≡ Some method
      → arguments ≢ arity (takes_one method) → IsDueMethod e id arguments k.wrong_arity
  a_function : standard_method id ≡ None → e.methods id ≡ false
      → e.functions (plain_name id) ≡ true
      → IsDueMethod e id arguments k.method_call_on_function
  no_method : standard_method id ≡ None → e.methods id ≡ false
      → e.functions (plain_name id) ≡ false → IsDueMethod e id arguments k.unknown_method

-- due for a function's name
pub data IsDueFunction (e : Extensions) (path : Path) : Kind → Type 0 where
  a_method : names_method e path.path path.id ≡ true
      → IsDueFunction e path k.function_call_on_method
  no_function : names_method e path.path path.id ≡ false → e.functions path ≡ false
      → IsDueFunction e path k.unknown_function

-- ---- accesses

abbrev pub IsCallForm : Form → Type 0
IsCallForm (f.call items) = Unit {0}
IsCallForm _ = ⊥

abbrev pub BeginsWithCall : Parts → Type 0
BeginsWithCall (more op (at p form) others) = IsCallForm form
BeginsWithCall _ = ⊥

-- the second accesses stand behind the first link of the first: an index, a field that isn't
-- called, or a field and a call that are a method's
pub data IsBehindLink (e : Extensions) : Parts → Parts → Type 0 where
  index_link : {op : Operator} {p : Option Loc} {m : Located} {rest : Parts}
      → IsBehindLink e (more op (at p (f.index m)) rest) rest
  field_link : {op : Operator} {p : Option Loc} {m : Node (Option Ident)} {rest : Parts}
      → ¬ (BeginsWithCall rest) → IsBehindLink e (more op (at p (f.field m)) rest) rest
  method_link : {op oq : Operator} {p q : Option Loc} {m : Node (Option Ident)}
      {items rest : Parts} {id : List ℕ} → unreserved_ident m ≡ Ok id
      → ((kind : Kind) → ¬ (IsDueMethod e id (count items) kind))
      → IsBehindLink e (more op (at p (f.field m)) (more oq (at q (f.call items)) rest)) rest

-- The second accesses, some of the first, stand behind a value: behind a head that is no name, or
-- a variable; behind a call of a name that is a function's; or behind a link of such accesses.
pub data OnValue (e : Extensions) (n : Located) (all : Parts) : Parts → Type 0 where
  no_name : ¬ (IsNameSite n) → OnValue e n all all
  variable : IsVariableSite n → ¬ (BeginsWithCall all) → OnValue e n all all
  behind_function : {path : Path} {op : Operator} {p : Option Loc} {items rest : Parts}
      → IsNamed n path → ((kind : Kind) → ¬ (IsDueFunction e path kind))
      → all ≡ more op (at p (f.call items)) rest → OnValue e n all rest
  behind_link : {rest others : Parts} → OnValue e n all rest → IsBehindLink e rest others
      → OnValue e n all others

-- due for accesses that stand behind a value
pub data IsDueBehind (e : Extensions) : Parts → Kind → Type 0 where
  value_called : {rest : Parts} → BeginsWithCall rest → IsDueBehind e rest k.expression_call
  method_called : {kind : Kind} {op oq : Operator} {p q : Option Loc} {m : Node (Option Ident)}
      {items rest : Parts} {id : List ℕ} → unreserved_ident m ≡ Ok id
      → IsDueMethod e id (count items) kind
      → IsDueBehind e (more op (at p (f.field m)) (more oq (at q (f.call items)) rest)) kind

-- due for a head and its accesses, from the left
pub data IsDueMember (e : Extensions) (n : Located) (all : Parts) : Kind → Type 0 where
  -- first behind a variable
  variable_called : IsVariableSite n → BeginsWithCall all → IsDueMember e n all k.variable_call
  -- first behind another name
  name_indexed : {path : Path} {op : Operator} {p : Option Loc} {m : Located} {rest : Parts}
      → IsNamed n path → all ≡ more op (at p (f.index m)) rest
      → IsDueMember e n all k.invalid_index
  name_field_called : {path : Path} {op : Operator} {p : Option Loc} {m : Node (Option Ident)}
      {rest : Parts} → IsNamed n path → all ≡ more op (at p (f.field m)) rest
      → BeginsWithCall rest → IsDueMember e n all k.no_methods
  name_field : {path : Path} {op : Operator} {p : Option Loc} {m : Node (Option Ident)}
      {rest : Parts} → IsNamed n path → all ≡ more op (at p (f.field m)) rest
      → ¬ (BeginsWithCall rest) → IsDueMember e n all k.invalid_access
  name_called : {kind : Kind} {path : Path} → IsNamed n path → BeginsWithCall all
      → IsDueFunction e path kind → IsDueMember e n all kind
  -- anywhere else
  behind_value : {kind : Kind} {rest : Parts} → OnValue e n all rest → IsDueBehind e rest kind
      → IsDueMember e n all kind

-- ---- due kinds

pub data IsDue (e : Extensions) : Kind → Site → Type 0 where
  -- identifiers of names and fields; `__cedar`
  reserved_word : {n : Node (Option Ident)} {i : Ident} → n.node ≡ Some i → IsReservedIdent i
      → IsDue e k.reserved_identifier (identifier n)
  misspelled : {n : Node (Option Ident)} {i : Ident} → n.node ≡ Some i → IsMisspelled i
      → IsDue e k.invalid_identifier (identifier n)
  cedar_in_name : {n : Node (Option Name)} {m : Name} {ids : List ℕ × List (List ℕ)}
      → n.node ≡ Some m → identifiers m ≡ Ok ids → has_reserved_namespace (path_of ids) ≡ true
      → IsDue e k.reserved_namespace (name n)
  cedar_as_field : {p : Option Loc} {n : Node (Option Ident)} {id : List ℕ}
      → valid_ident n ≡ Ok id → is_reserved_namespace id ≡ true
      → IsDue e k.reserved_namespace (node (at p (f.field n)))
  -- a name alone that is no variable
  no_variable : {n : Located} {path : Path} → IsNamed n path
      → IsDue e k.arbitrary_variable (wanted expression n)
  -- literals; a number and the last `-` before it are one. No text gives the last of these.
  large_number : {p : Option Loc} {m : Node (Option Literal)} {n : ℕ} → m.node ≡ Some (lit.Num n)
      → nat_le largest n ≡ true → IsDue e k.integer_literal_too_large (node (at p (f.literal m)))
  large_negative : {p : Option Loc} {signs number : ℕ} {n : Located}
      → number_in (lone_literal n) ≡ Some number → nat_le number largest ≡ false
      → IsDue e k.integer_literal_too_large
      (node (at p (f.unary (Some (sign.Dash (suc signs))) n)))
  faulty_string : {p : Option Loc} {m : Node (Option Literal)} (raw : List ℕ) → IsQuoted m.node raw
      → escape_faults raw ≢ [] → IsDue e k.unescape (node (at p (f.literal m)))
  no_string : {p : Option Loc} {m : Node (Option Literal)} {s : Node (Option Str)} {raw : List ℕ}
      → m.node ≡ Some (lit.Str s) → s.node ≡ Some (str.Invalid raw)
      → IsDue e k.invalid_string (node (at p (f.literal m)))
  -- more signs than may stand before an operand
  bangs : {p : Option Loc} {n : Located}
      → IsDue e k.unary_op_limit (node (at p (f.unary (Some sign.OverBang) n)))
  dashes : {p : Option Loc} {n : Located}
      → IsDue e k.unary_op_limit (node (at p (f.unary (Some sign.OverDash) n)))
  -- operators: `/`, `%`, two or more in a relation, just one that is `=`
  division : {p : Option Loc} {m n : Located} {others : Parts}
      → IsAmong (multiply mul.Divide) m others
      → IsDue e k.unsupported_division (node (at p (f.chain product n others)))
  remainder : {p : Option Loc} {m n : Located} {others : Parts}
      → IsAmong (multiply mul.Mod) m others
      → IsDue e k.unsupported_modulo (node (at p (f.chain product n others)))
  two_operators : {p : Option Loc} {op oq : Operator} {a b c : Located} {others : Parts}
      → IsDue e k.ambiguous_operators
      (node (at p (f.chain relation a (more op b (more oq c others)))))
  single_eq : {p : Option Loc} {a b : Located}
      → IsDue e k.invalid_single_eq
      (node (at p (f.chain relation a (more (compare rel.InvalidSingleEq) b none))))
  -- right of `has`, of `like` and of `is`, and inside an index
  no_attributes : {kind : Kind} {n : Located} → IsDueRight kind (one_member n)
      → IsDue e kind (wanted attributes n)
  no_pattern : {n : Located} → ¬ (IsAnyString n) → IsDue e k.invalid_pattern (wanted pattern n)
  faulty_pattern : {n : Located} (raw : List ℕ) → IsString n raw
      → pattern_faults raw (layout raw) ≢ [] → IsDue e k.unescape (wanted pattern n)
  no_type : {n : Located} → ¬ (IsNameSite n) → IsDue e k.invalid_is_type (wanted entity_type n)
  no_text : {n : Located} → ¬ (IsAnyString n) → IsDue e k.invalid_string (wanted string n)
  -- accesses and calls
  accesses : {kind : Kind} {p : Option Loc} {n : Located} {all : Parts} → IsDueMember e n all kind
      → IsDue e kind (node (at p (f.member n all)))
  -- a record's keys: one that is no name, truth value or string; `true` and `false`; a path; two
  -- that are the same
  no_key : {n : Located} → ¬ (IsNameSite n) → ¬ (IsTruthValue n) → ¬ (IsAnyString n)
      → IsDue e k.invalid_attribute (wanted key n)
  truth_as_key : {n : Located} → IsTruthValue n → IsDue e k.reserved_identifier (wanted key n)
  path_as_key : {n : Located} {path : Path} → IsNamed n path → path.path ≢ []
      → IsDue e k.path_as_attribute (wanted key n)
  repeated_key : {p : Option Loc} {inits : Parts} (pairs : List (List ℕ × Value))
      → ArePairs e inits pairs → repeats_key (keys_of pairs) ≡ true
      → IsDue e k.expression_construction_error (node (at p (f.record_of inits)))
  -- entities, by their form and their id (of which no text gives the last), and slots
  braces : {p : Option Loc} {n : Node (Option Ref)} {path : Node (Option Name)}
      {inits : List (Node (Option RefInit))} → n.node ≡ Some (refs.Ref path inits)
      → IsDue e k.invalid_entity_literal (node (at p (f.reference n)))
  faulty_id : {p : Option Loc} {n : Node (Option Ref)} {path : Node (Option Name)}
      {eid : Node (Option Str)} {raw : List ℕ} → n.node ≡ Some (refs.Uid path eid)
      → eid.node ≡ Some (str.String raw) → escape_faults raw ≢ []
      → IsDue e k.unescape (node (at p (f.reference n)))
  no_id : {p : Option Loc} {n : Node (Option Ref)} {path : Node (Option Name)}
      {eid : Node (Option Str)} {raw : List ℕ} → n.node ≡ Some (refs.Uid path eid)
      → eid.node ≡ Some (str.Invalid raw) → IsDue e k.invalid_string (node (at p (f.reference n)))
  other_slot : {p : Option Loc} {n : Node (Option Slot)} {text : List ℕ}
      → n.node ≡ Some (slots.Other text) → IsDue e k.invalid_slot (node (at p (f.slot n)))

-- ---- faults

-- a fault's kind is due at a site whose place holds the fault's
abbrev pub IsDueIn : Extensions → Site → NamedFault → Type 0
IsDueIn e s fault =
    (m : Site) × IsSiteOf m s × IsDue e fault.0 m × LiesWithin (site_place m) fault.1

-- each of the faults
abbrev pub AreDueIn : {Y : Type 0} → Extensions → Site → Outcome Y → Type 0
AreDueIn e s (Ok y) = Unit {0}
AreDueIn e s (Err faults) = All (IsDueIn e s) faults

-- ---- what is not due

-- all kinds that the rules name at a node of this form
abbrev pub kinds_of_form : Form → List Kind
kinds_of_form (f.chain relation n others) = k.ambiguous_operators ∷ k.invalid_single_eq ∷ []
kinds_of_form (f.chain product n others) = k.unsupported_division ∷ k.unsupported_modulo ∷ []
kinds_of_form (f.unary op n) = k.unary_op_limit ∷ k.integer_literal_too_large ∷ []
kinds_of_form (f.member n all) =
    k.variable_call ∷ k.no_methods ∷ k.invalid_access ∷ k.invalid_index ∷ k.expression_call
    ∷ k.function_call_on_method ∷ k.unknown_function ∷ k.wrong_arity
    ∷ k.method_call_on_function ∷ k.unknown_method ∷ []
kinds_of_form (f.field n) = k.reserved_namespace ∷ []
kinds_of_form (f.literal n) =
    k.integer_literal_too_large ∷ k.unescape ∷ k.invalid_string ∷ []
kinds_of_form (f.slot n) = k.invalid_slot ∷ []
kinds_of_form (f.reference n) = k.invalid_entity_literal ∷ k.unescape ∷ k.invalid_string ∷ []
kinds_of_form (f.record_of inits) = k.expression_construction_error ∷ []
kinds_of_form _ = []

abbrev pub kinds_of_role : Role → List Kind
kinds_of_role expression = k.arbitrary_variable ∷ []
kinds_of_role attributes =
    k.reserved_identifier ∷ k.path_as_attribute ∷ k.invalid_has_rhs ∷ []
kinds_of_role pattern = k.invalid_pattern ∷ k.unescape ∷ []
kinds_of_role entity_type = k.invalid_is_type ∷ []
kinds_of_role string = k.invalid_string ∷ []
kinds_of_role key = k.reserved_identifier ∷ k.path_as_attribute ∷ k.invalid_attribute ∷ []

abbrev pub kinds_of_site : Site → List Kind
kinds_of_site (node (at p form)) = kinds_of_form form
kinds_of_site (wanted role n) = kinds_of_role role
kinds_of_site (name n) = k.reserved_namespace ∷ []
kinds_of_site (identifier n) = k.reserved_identifier ∷ k.invalid_identifier ∷ []
kinds_of_site _ = []

abbrev pub IsProduct : Site → Type 0
IsProduct (node (at p (f.chain product n others))) = Unit {0}
IsProduct _ = ⊥
