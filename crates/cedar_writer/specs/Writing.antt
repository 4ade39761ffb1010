-- The words of a value, level by level as in the strict grammar: an operand that stands looser
-- than its place wants is put in parentheses.
use Rattle.std.specs.Prelude.{ℕ, suc, Bool, true, false, ◌&&◌, nat_le, List, [], ◌∷◌, ◌++◌, codes, pos, negsuc, if◌then◌else◌}
use Rattle.std.specs.Option.{is_none}
use Rattle.cedar_lexer.specs.declared.token.TokenKind.{TokenKind}
use Rattle.cedar_lexer.specs.declared.token.TokenKind.TheVariants as kind
use Rattle.cedar_lexer.specs.Words.{TokenText}
use Rattle.cedar_expressions.specs.declared.operators.AddOp.{AddOp}
use Rattle.cedar_expressions.specs.declared.operators.AddOp.TheVariants as op
use Rattle.cedar_expressions.specs.declared.atoms.Literal.{Literal}
use Rattle.cedar_expressions.specs.declared.atoms.Literal.TheVariants as literals
use Rattle.cedar_expressions.specs.declared.atoms.Var.{Var}
use Rattle.cedar_expressions.specs.declared.atoms.Var.TheVariants as vars
use Rattle.cedar_expressions.specs.declared.atoms.SlotId.{SlotId}
use Rattle.cedar_expressions.specs.declared.atoms.SlotId.TheVariants as slots
use Rattle.cedar_expressions.specs.Path.{Path}
use Rattle.cedar_expressions.specs.Value as v
use Rattle.cedar_expressions.specs.Value.{Value, Values, Terms, Fields}
use Rattle.cedar_conversion.specs.strict.Extensions.{Extensions}
use Rattle.cedar_conversion.specs.strict.Strict as s
use Rattle.cedar_conversion.specs.strict.Strict.{Sort, largest}
use Rattle.cedar_conversion.specs.strict.StrictCalls.{standard_method}
use Rattle.cedar_writer.specs.WrittenWords.{alone, dot, identifier_words, name_words, text_words, pattern_words, number_words, entity_words, key_words, sought_words, access_words}

-- ---- levels

-- from the loosest sort to the tightest
abbrev pub tightness : Sort → ℕ
tightness s.expression = 0
tightness s.disjunction = 1
tightness s.conjunction = 2
tightness s.relation = 3
tightness s.sum = 4
tightness s.product = 5
tightness s.signed = 6
tightness s.member = 7
tightness s.primary = 8

abbrev pub literal_sort : Literal → Sort
literal_sort (literals.Bool b) = s.primary
literal_sort (literals.Long (pos n)) = s.primary
literal_sort (literals.Long (negsuc n)) = s.signed
literal_sort (literals.String text) = s.primary
literal_sort (literals.EntityUID uid) = s.primary

-- the tightest sort that a value's words are read as
abbrev pub sort_of : Value → Sort
sort_of (v.val literal) = literal_sort literal
sort_of (v.var x) = s.primary
sort_of (v.slot x) = s.primary
sort_of (v.ite a b c) = s.expression
sort_of (v.not a) = s.signed
sort_of (v.neg a) = s.signed
sort_of (v.and a b) = s.expression
sort_of (v.or_nary a bs) = s.disjunction
sort_of (v.and_naryl a bs) = s.conjunction
sort_of (v.add_nary a ts) = s.sum
sort_of (v.mul_nary a bs) = s.product
sort_of (v.less a b) = s.relation
sort_of (v.lesseq a b) = s.relation
sort_of (v.greater a b) = s.relation
sort_of (v.greatereq a b) = s.relation
sort_of (v.is_eq a b) = s.relation
sort_of (v.noteq a b) = s.relation
sort_of (v.is_in a b) = s.relation
sort_of (v.like a pattern) = s.relation
sort_of (v.is_entity_type a t) = s.relation
sort_of (v.is_in_entity_type a t b) = s.relation
sort_of (v.extended_has_attr a first rest) = s.relation
sort_of (v.get_attr a attr) = s.member
sort_of (v.contains a b) = s.member
sort_of (v.contains_all a b) = s.member
sort_of (v.contains_any a b) = s.member
sort_of (v.is_empty a) = s.member
sort_of (v.get_tag a b) = s.member
sort_of (v.has_tag a b) = s.member
sort_of (v.call_extension_fn name args) = s.member
sort_of (v.set items) = s.primary
sort_of (v.«record» pairs) = s.primary

-- words of one sort where another is wanted
abbrev pub suits : Sort → Sort → Bool
suits wanted sort = nat_le (tightness wanted) (tightness sort)

abbrev pub in_parens : List TokenText → List TokenText
in_parens ws = alone kind.OpenParen (codes "(") ++ ws ++ alone kind.CloseParen (codes ")")

abbrev pub fitted : Sort → Sort → List TokenText → List TokenText
fitted wanted sort ws = if suits wanted sort then ws else in_parens ws

-- behind a `-` a number would be one literal with it
abbrev pub is_natural_literal : Literal → Bool
is_natural_literal (literals.Bool b) = false
is_natural_literal (literals.Long (pos n)) = true
is_natural_literal (literals.Long (negsuc n)) = false
is_natural_literal (literals.String text) = false
is_natural_literal (literals.EntityUID uid) = false

abbrev pub is_natural : Value → Bool
is_natural (v.val literal) = is_natural_literal literal
is_natural a = false

abbrev pub behind_minus : Bool → Sort → List TokenText → List TokenText
behind_minus natural sort ws = if natural then in_parens ws else fitted s.member sort ws

-- the word of a variable, which no function's name is
abbrev pub is_variable_kind : TokenKind → Bool
is_variable_kind kind.Principal = true
is_variable_kind kind.Action = true
is_variable_kind kind.Resource = true
is_variable_kind kind.Context = true
is_variable_kind k = false

abbrev pub is_variable_words : List TokenText → Bool
is_variable_words [] = false
is_variable_words (w ∷ []) = is_variable_kind w.kind
is_variable_words (w ∷ u ∷ ws) = false

-- ---- leaves

abbrev pub minus : List TokenText
minus = alone kind.Minus (codes "-")

abbrev pub comma : List TokenText
comma = alone kind.Comma (codes ",")

abbrev pub colon : List TokenText
colon = alone kind.Colon (codes ":")

abbrev pub function_words : List TokenText → List TokenText → List TokenText
function_words name args =
    name ++ alone kind.OpenParen (codes "(") ++ args ++ alone kind.CloseParen (codes ")")

abbrev pub literal_words : Literal → List TokenText
literal_words (literals.Bool true) = alone kind.True (codes "true")
literal_words (literals.Bool false) = alone kind.False (codes "false")
literal_words (literals.Long (pos n)) = number_words n
literal_words (literals.Long (negsuc n)) = minus ++ number_words (suc n)
literal_words (literals.String text) = text_words text
literal_words (literals.EntityUID uid) = entity_words uid

abbrev pub var_words : Var → List TokenText
var_words vars.Principal = alone kind.Principal (codes "principal")
var_words vars.Action = alone kind.Action (codes "action")
var_words vars.Resource = alone kind.Resource (codes "resource")
var_words vars.Context = alone kind.Context (codes "context")

abbrev pub slot_words : SlotId → List TokenText
slot_words slots.Principal = alone kind.PrincipalSlot (codes "?principal")
slot_words slots.Resource = alone kind.ResourceSlot (codes "?resource")

abbrev pub op_words : AddOp → List TokenText
op_words op.Plus = alone kind.Plus (codes "+")
op_words op.Minus = minus

abbrev pub calls_by : Extensions → List (List ℕ) → List ℕ → Bool
calls_by table [] id = is_none (standard_method id) && table.methods id
calls_by table (first ∷ ids) id = false

-- what is called as a method of its first argument: a method of the table by one identifier
abbrev pub calls_method : Extensions → Path → Bool
calls_method table name = calls_by table name.path name.id

-- ---- values

-- around an operator, both operands on the same level
abbrev pub infix_words : List TokenText → List TokenText → List TokenText → List TokenText
infix_words mark left right = left ++ mark ++ right

-- `.`, a method's name and its arguments
abbrev pub method_words : List TokenText → List ℕ → List TokenText → List TokenText
method_words target id args =
    target ++ dot ++ identifier_words id ++ alone kind.OpenParen (codes "(") ++ args
    ++ alone kind.CloseParen (codes ")")

unfoldable mutual
  pub words : Extensions → Value → List TokenText
  words table (v.val literal) = literal_words literal
  words table (v.var x) = var_words x
  words table (v.slot x) = slot_words x.id
  words table (v.ite a b c) =
      alone kind.If (codes "if") ++ words table a
      ++ alone kind.Then (codes "then") ++ words table b
      ++ alone kind.Else (codes "else") ++ words table c
  words table (v.not a) =
      alone kind.Bang (codes "!") ++ fitted s.member (sort_of a) (words table a)
  words table (v.neg a) = minus ++ behind_minus (is_natural a) (sort_of a) (words table a)
  words table (v.and a b) = words table a ++ words table b
  words table (v.or_nary a bs) =
      joined_words table bs (alone kind.OrOr (codes "||")) s.conjunction
      (fitted s.conjunction (sort_of a) (words table a))
  words table (v.and_naryl a bs) =
      joined_words table bs (alone kind.AndAnd (codes "&&")) s.relation
      (fitted s.relation (sort_of a) (words table a))
  words table (v.mul_nary a bs) =
      joined_words table bs (alone kind.Star (codes "*")) s.signed
      (fitted s.signed (sort_of a) (words table a))
  words table (v.add_nary a ts) =
      terms_words table ts (fitted s.product (sort_of a) (words table a))
  words table (v.less a b) =
      infix_words (alone kind.Less (codes "<")) (fitted s.sum (sort_of a) (words table a))
      (fitted s.sum (sort_of b) (words table b))
  words table (v.lesseq a b) =
      infix_words (alone kind.LessEq (codes "<=")) (fitted s.sum (sort_of a) (words table a))
      (fitted s.sum (sort_of b) (words table b))
  words table (v.greater a b) =
      infix_words (alone kind.Greater (codes ">")) (fitted s.sum (sort_of a) (words table a))
      (fitted s.sum (sort_of b) (words table b))
  words table (v.greatereq a b) =
      infix_words (alone kind.GreaterEq (codes ">=")) (fitted s.sum (sort_of a) (words table a))
      (fitted s.sum (sort_of b) (words table b))
  words table (v.is_eq a b) =
      infix_words (alone kind.EqEq (codes "==")) (fitted s.sum (sort_of a) (words table a))
      (fitted s.sum (sort_of b) (words table b))
  words table (v.noteq a b) =
      infix_words (alone kind.NotEq (codes "!=")) (fitted s.sum (sort_of a) (words table a))
      (fitted s.sum (sort_of b) (words table b))
  words table (v.is_in a b) =
      infix_words (alone kind.In (codes "in")) (fitted s.sum (sort_of a) (words table a))
      (fitted s.sum (sort_of b) (words table b))
  words table (v.like a pattern) =
      fitted s.sum (sort_of a) (words table a)
      ++ alone kind.Like (codes "like") ++ pattern_words pattern
  words table (v.is_entity_type a t) =
      fitted s.sum (sort_of a) (words table a) ++ alone kind.Is (codes "is") ++ name_words t.name
  words table (v.is_in_entity_type a t b) =
      fitted s.sum (sort_of a) (words table a) ++ alone kind.Is (codes "is") ++ name_words t.name
      ++ alone kind.In (codes "in") ++ fitted s.sum (sort_of b) (words table b)
  words table (v.extended_has_attr a first rest) =
      fitted s.sum (sort_of a) (words table a)
      ++ alone kind.Has (codes "has") ++ sought_words first rest
  words table (v.get_attr a attr) =
      access_words attr (fitted s.member (sort_of a) (words table a))
  words table (v.contains a b) =
      method_words (fitted s.member (sort_of a) (words table a)) (codes "contains") (words table b)
  words table (v.contains_all a b) =
      method_words (fitted s.member (sort_of a) (words table a)) (codes "containsAll")
      (words table b)
  words table (v.contains_any a b) =
      method_words (fitted s.member (sort_of a) (words table a)) (codes "containsAny")
      (words table b)
  words table (v.get_tag a b) =
      method_words (fitted s.member (sort_of a) (words table a)) (codes "getTag") (words table b)
  words table (v.has_tag a b) =
      method_words (fitted s.member (sort_of a) (words table a)) (codes "hasTag") (words table b)
  words table (v.is_empty a) =
      method_words (fitted s.member (sort_of a) (words table a)) (codes "isEmpty") []
  words table (v.call_extension_fn name args) = call_words table args name
  words table (v.set items) =
      alone kind.OpenBracket (codes "[") ++ listed_words table items
      ++ alone kind.CloseBracket (codes "]")
  words table (v.«record» pairs) =
      alone kind.OpenBrace (codes "{") ++ entries_words table pairs
      ++ alone kind.CloseBrace (codes "}")

  -- a call: of a method of the first argument, or of a function by its name
  pub call_words : Extensions → Values → Path → List TokenText
  call_words table v.none name = function_words (name_words name) []
  call_words table (v.more a args) name =
      if calls_method table name
      then method_words (fitted s.member (sort_of a) (words table a)) name.id
      (listed_words table args)
      else function_words (name_words name)
      (joined_words table args comma s.expression (words table a))

  -- values behind others, each behind a mark
  pub joined_words : Extensions → Values → List TokenText → Sort → List TokenText → List TokenText
  joined_words table v.none mark wanted acc = acc
  joined_words table (v.more b bs) mark wanted acc =
      joined_words table bs mark wanted (acc ++ mark ++ fitted wanted (sort_of b) (words table b))

  -- values with a comma between two
  pub listed_words : Extensions → Values → List TokenText
  listed_words table v.none = []
  listed_words table (v.more a bs) = joined_words table bs comma s.expression (words table a)

  pub terms_words : Extensions → Terms → List TokenText → List TokenText
  terms_words table v.no_terms acc = acc
  terms_words table (v.term o b ts) acc =
      terms_words table ts (acc ++ op_words o ++ fitted s.product (sort_of b) (words table b))

  pub entries_words : Extensions → Fields → List TokenText
  entries_words table v.no_fields = []
  entries_words table (v.field key a fs) =
      more_entries_words table fs (key_words key ++ colon ++ words table a)

  pub more_entries_words : Extensions → Fields → List TokenText → List TokenText
  more_entries_words table v.no_fields acc = acc
  more_entries_words table (v.field key a fs) acc =
      more_entries_words table fs (acc ++ comma ++ (key_words key ++ colon ++ words table a))
