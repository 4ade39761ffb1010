-- Identifiers and names: what an identifier's node and a name's node give, a text or why it is
-- none. The words that no name may hold, and `__cedar`, are those of `cedar_expressions` (`Path`).
-- An identifier with a text is never a word, whatever its text.
use Rattle.std.specs.Prelude.{ℕ, List, [], ◌∷◌, Option, Some, None, Ok, if◌then◌else◌, codes}
use Rattle.cedar_syntax.specs.declared.loc.Loc.{Loc}
use Rattle.cedar_syntax.specs.declared.node.Node.{Node}
use Rattle.cedar_syntax.specs.declared.cst.Ident.{Ident}
use Rattle.cedar_syntax.specs.declared.cst.Ident.TheVariants as words
use Rattle.cedar_syntax.specs.declared.cst.Name.{Name}
use Rattle.cedar_expressions.specs.declared.atoms.Var.{Var}
use Rattle.cedar_expressions.specs.declared.atoms.Var.TheVariants as vars
use Rattle.cedar_expressions.specs.Path.{Path, is_identifier, is_valid_identifier, is_reserved_namespace, has_reserved_namespace}
use Rattle.cedar_conversion.specs.outcome.Detail as detail
use Rattle.cedar_conversion.specs.outcome.Outcome.{Outcome, fault_outcome, detailed_outcome, both, next, empty_node, reserved_identifier, invalid_identifier, reserved_namespace}

-- what a node holds
abbrev pub content_outcome : {X : Type 0} → Option Loc → Option X → Outcome X
content_outcome place (Some x) = Ok x
content_outcome place None = fault_outcome empty_node place

-- all of them, joined
abbrev pub all_of : {X Y : Type 0} → (X → Outcome Y) → List X → Outcome (List Y)
all_of f [] = Ok []
all_of f (x ∷ xs) = next (both (f x) (all_of f xs)) (λ p. Ok (p.0 ∷ p.1))

-- ---- identifiers

-- an identifier's spelling, the words' too
abbrev pub spelling_outcome : Option Loc → List ℕ → Outcome (List ℕ)
spelling_outcome place text =
    if is_identifier text then Ok text
    else detailed_outcome invalid_identifier place (detail.spelling text)

-- an identifier that a name may hold
abbrev pub valid_text : Option Loc → List ℕ → Outcome (List ℕ)
valid_text place text =
    if is_valid_identifier text then Ok text
    else detailed_outcome invalid_identifier place (detail.spelling text)

-- the nine reserved words are refused
abbrev pub valid_ident_of : Option Loc → Ident → Outcome (List ℕ)
valid_ident_of place words.Principal = Ok (codes "principal")
valid_ident_of place words.Action = Ok (codes "action")
valid_ident_of place words.Resource = Ok (codes "resource")
valid_ident_of place words.Context = Ok (codes "context")
valid_ident_of place words.Permit = Ok (codes "permit")
valid_ident_of place words.Forbid = Ok (codes "forbid")
valid_ident_of place words.When = Ok (codes "when")
valid_ident_of place words.Unless = Ok (codes "unless")
valid_ident_of place (words.Ident text) = valid_text place text
valid_ident_of place (words.Invalid text) =
    detailed_outcome invalid_identifier place (detail.spelling text)
valid_ident_of place i = detailed_outcome reserved_identifier place (detail.word i)

abbrev pub valid_ident : Node (Option Ident) → Outcome (List ℕ)
valid_ident n = next (content_outcome n.loc n.node) (valid_ident_of n.loc)

-- any identifier, the nine words too
abbrev pub any_ident_of : Option Loc → Ident → Outcome (List ℕ)
any_ident_of place words.True = Ok (codes "true")
any_ident_of place words.False = Ok (codes "false")
any_ident_of place words.If = Ok (codes "if")
any_ident_of place words.Then = Ok (codes "then")
any_ident_of place words.Else = Ok (codes "else")
any_ident_of place words.In = Ok (codes "in")
any_ident_of place words.Is = Ok (codes "is")
any_ident_of place words.Has = Ok (codes "has")
any_ident_of place words.Like = Ok (codes "like")
any_ident_of place (words.Ident text) = spelling_outcome place text
any_ident_of place i = valid_ident_of place i

abbrev pub any_ident : Node (Option Ident) → Outcome (List ℕ)
any_ident n = next (content_outcome n.loc n.node) (any_ident_of n.loc)

abbrev pub unreserved : Option Loc → List ℕ → Outcome (List ℕ)
unreserved place id =
    if is_reserved_namespace id
    then detailed_outcome reserved_namespace place (detail.name (record { path = []; id = id }))
    else Ok id

-- an identifier that a field, a method or an attribute may be
abbrev pub unreserved_ident : Node (Option Ident) → Outcome (List ℕ)
unreserved_ident n = next (valid_ident n) (unreserved n.loc)

-- ---- names

abbrev pub unreserved_name : Option Loc → Path → Outcome Path
unreserved_name place name =
    if has_reserved_namespace name
    then detailed_outcome reserved_namespace place (detail.name name) else Ok name

abbrev pub path_of : List ℕ × List (List ℕ) → Path
path_of p = record { path = p.1; id = p.0 }

-- the last identifier and then those before it, joined
abbrev pub identifiers : Name → Outcome (List ℕ × List (List ℕ))
identifiers m = both (valid_ident m.name) (all_of valid_ident m.path)

-- the identifiers, and then no `__cedar` among them
abbrev pub path_outcome : Option Loc → Name → Outcome Path
path_outcome place m = next (identifiers m) (λ p. unreserved_name place (path_of p))

abbrev pub name_outcome : Node (Option Name) → Outcome Path
name_outcome n = next (content_outcome n.loc n.node) (path_outcome n.loc)

-- ---- variables

abbrev pub variable_of : Ident → Option Var
variable_of words.Principal = Some vars.Principal
variable_of words.Action = Some vars.Action
variable_of words.Resource = Some vars.Resource
variable_of words.Context = Some vars.Context
variable_of _ = None

abbrev pub variable_in : Option Ident → Option Var
variable_in (Some i) = variable_of i
variable_in None = None

abbrev pub lone_variable : {A : Type 0} → List A → Option Ident → Option Var
lone_variable [] i = variable_in i
lone_variable (_ ∷ _) i = None

-- the variable that a name is: one word alone
abbrev pub named_variable : Option Name → Option Var
named_variable (Some m) = lone_variable m.path m.name.node
named_variable None = None
