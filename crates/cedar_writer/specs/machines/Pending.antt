-- What a writer without recursion has still to write, and what stands in the place of a value that
-- is next. Only private functions' contracts speak of it.
use Rattle.std.specs.Prelude.{ℕ, ◌+◌, suc, true, false, List, [], ◌∷◌, ◌++◌, codes, pos, negsuc, if◌then◌else◌}
use Rattle.std.specs.List.{flat_map}
use Rattle.std.specs.Str.{IsUtf8}
use Rattle.cedar_lexer.specs.declared.token.TokenKind.{TokenKind}
use Rattle.cedar_lexer.specs.declared.token.TokenKind.TheVariants as kind
use Rattle.cedar_lexer.specs.Words.{TokenText}
use Rattle.cedar_expressions.specs.declared.atoms.Literal.{Literal}
use Rattle.cedar_expressions.specs.declared.atoms.Literal.TheVariants as literals
use Rattle.cedar_expressions.specs.declared.atoms.Var.{Var}
use Rattle.cedar_expressions.specs.declared.atoms.Var.TheVariants as vars
use Rattle.cedar_expressions.specs.declared.atoms.SlotId.{SlotId}
use Rattle.cedar_expressions.specs.declared.atoms.SlotId.TheVariants as slots
use Rattle.cedar_expressions.specs.declared.atoms.PatternElem.{PatternElem}
use Rattle.cedar_expressions.specs.declared.entity.EntityUID.{EntityUID}
use Rattle.cedar_expressions.specs.declared.operators.AddOp.{AddOp}
use Rattle.cedar_expressions.specs.declared.operators.AddOp.TheVariants as op
use Rattle.cedar_expressions.specs.Path.{Path, is_unreserved_identifier}
use Rattle.cedar_expressions.specs.Value as v
use Rattle.cedar_expressions.specs.Value.{Value, Values, Terms, Fields}
use Rattle.cedar_conversion.specs.strict.Extensions.{Extensions}
use Rattle.cedar_conversion.specs.strict.Strict as s
use Rattle.cedar_conversion.specs.strict.Strict.{Sort}
use Rattle.cedar_writer.specs.Parts.{values_in, terms_of, field_values, IsPartOf}
use Rattle.cedar_writer.specs.Writable.{IsWritableName, IsWritablePattern, IsWritable, AreWritable, AreWritableTerms, AreWritableFields}
use Rattle.cedar_writer.specs.WrittenWords.{alone, dot, identifier_words, marked_words, name_words, text_words, pattern_words, number_words, key_words}
use Rattle.cedar_writer.specs.Writing.{words, joined_words, terms_words, more_entries_words, sort_of, suits, fitted, behind_minus, is_natural, calls_method}

pub data Todo : Type 0 where
  word : TokenKind → List ℕ → Todo
  identifier : List ℕ → Todo
  name : Path → Todo
  string : List ℕ → Todo
  pattern : List PatternElem → Todo
  number : ℕ → Todo
  key : List ℕ → Todo
  attributes : List ℕ → List (List ℕ) → Todo
  operand : Sort → Value → Todo
  negated : Value → Todo
  -- values, each behind a token
  behind : TokenKind → List ℕ → Sort → Values → Todo
  terms_behind : Terms → Todo
  pairs_behind : Fields → Todo

abbrev pub todo_words : Extensions → Todo → List TokenText
todo_words table (word k text) = alone k text
todo_words table (identifier id) = identifier_words id
todo_words table (name n) = name_words n
todo_words table (string text) = text_words text
todo_words table (pattern elems) = pattern_words elems
todo_words table (number n) = number_words n
todo_words table (key text) = key_words text
todo_words table (attributes id ids) = marked_words (identifier_words id) dot ids
todo_words table (operand wanted a) = fitted wanted (sort_of a) (words table a)
todo_words table (negated a) = behind_minus (is_natural a) (sort_of a) (words table a)
todo_words table (behind k text wanted bs) = joined_words table bs (alone k text) wanted []
todo_words table (terms_behind ts) = terms_words table ts []
todo_words table (pairs_behind fs) = more_entries_words table fs []

abbrev pub all_words : Extensions → List Todo → List TokenText
all_words table ts = flat_map (todo_words table) ts

-- ---- which of them some text means

abbrev pub IsFree : Extensions → ℕ → Todo → Type 0
IsFree table limit (word k text) = Unit {0}
IsFree table limit (identifier id) = Unit {0}
IsFree table limit (name n) = IsWritableName n
IsFree table limit (string text) = IsUtf8 text
IsFree table limit (pattern elems) = IsWritablePattern elems
IsFree table limit (number n) = Unit {0}
IsFree table limit (key text) = IsUtf8 text
IsFree table limit (attributes id ids) = Unit {0}
IsFree table limit (operand wanted a) = IsWritable table limit a
IsFree table limit (negated a) = IsWritable table limit a
IsFree table limit (behind k text wanted bs) = AreWritable table limit bs
IsFree table limit (terms_behind ts) = AreWritableTerms table limit ts
IsFree table limit (pairs_behind fs) = AreWritableFields table limit fs

abbrev pub AreFree : Extensions → ℕ → List Todo → Type 0
AreFree table limit [] = Unit {0}
AreFree table limit (t ∷ ts) = IsFree table limit t × AreFree table limit ts

-- ---- which of them are parts of a value

abbrev pub ArePartsOf : Value → List Value → Type 0
ArePartsOf whole [] = Unit {0}
ArePartsOf whole (x ∷ xs) = IsPartOf whole x × ArePartsOf whole xs

abbrev pub StandsIn : Value → Todo → Type 0
StandsIn whole (word k text) = Unit {0}
StandsIn whole (identifier id) = Unit {0}
StandsIn whole (name n) = Unit {0}
StandsIn whole (string text) = Unit {0}
StandsIn whole (pattern elems) = Unit {0}
StandsIn whole (number n) = Unit {0}
StandsIn whole (key text) = Unit {0}
StandsIn whole (attributes id ids) = Unit {0}
StandsIn whole (operand wanted a) = IsPartOf whole a
StandsIn whole (negated a) = IsPartOf whole a
StandsIn whole (behind k text wanted bs) = ArePartsOf whole (values_in bs)
StandsIn whole (terms_behind ts) = ArePartsOf whole (terms_of ts)
StandsIn whole (pairs_behind fs) = ArePartsOf whole (field_values fs)

abbrev pub StandIn : Value → List Todo → Type 0
StandIn whole [] = Unit {0}
StandIn whole (t ∷ ts) = StandsIn whole t × StandIn whole ts

-- ---- what stands in the place of a value

abbrev pub whole_todo : Value → Todo
whole_todo a = operand s.expression a

abbrev pub open_paren : Todo
open_paren = word kind.OpenParen (codes "(")

abbrev pub close_paren : Todo
close_paren = word kind.CloseParen (codes ")")

abbrev pub entity_todo : EntityUID → List Todo
entity_todo uid =
    name uid.entity_type.name ∷ word kind.ColonColon (codes "::") ∷ string uid.eid.text ∷ []

abbrev pub literal_todo : Literal → List Todo
literal_todo (literals.Bool true) = word kind.True (codes "true") ∷ []
literal_todo (literals.Bool false) = word kind.False (codes "false") ∷ []
literal_todo (literals.Long (pos n)) = number n ∷ []
literal_todo (literals.Long (negsuc n)) = word kind.Minus (codes "-") ∷ number (suc n) ∷ []
literal_todo (literals.String text) = string text ∷ []
literal_todo (literals.EntityUID uid) = entity_todo uid

abbrev pub var_todo : Var → Todo
var_todo vars.Principal = word kind.Principal (codes "principal")
var_todo vars.Action = word kind.Action (codes "action")
var_todo vars.Resource = word kind.Resource (codes "resource")
var_todo vars.Context = word kind.Context (codes "context")

abbrev pub slot_todo : SlotId → Todo
slot_todo slots.Principal = word kind.PrincipalSlot (codes "?principal")
slot_todo slots.Resource = word kind.ResourceSlot (codes "?resource")

abbrev pub op_todo : AddOp → Todo
op_todo op.Plus = word kind.Plus (codes "+")
op_todo op.Minus = word kind.Minus (codes "-")

abbrev pub items_todo : Values → List Todo
items_todo v.none = []
items_todo (v.more a bs) = whole_todo a ∷ behind kind.Comma (codes ",") s.expression bs ∷ []

abbrev pub pairs : Fields → List Todo
pairs v.no_fields = []
pairs (v.field text a fs) =
    key text ∷ word kind.Colon (codes ":") ∷ whole_todo a ∷ pairs_behind fs ∷ []

abbrev pub sought : List ℕ → List (List ℕ) → Todo
sought id [] = key id
sought id (next ∷ ids) = attributes id (next ∷ ids)

abbrev pub access : List ℕ → List Todo
access attr =
    if is_unreserved_identifier attr then word kind.Dot (codes ".") ∷ identifier attr ∷ []
    else word kind.OpenBracket (codes "[") ∷ string attr
    ∷ word kind.CloseBracket (codes "]") ∷ []

abbrev pub function_todo : Path → List Todo → List Todo
function_todo n args = name n ∷ open_paren ∷ (args ++ close_paren ∷ [])

abbrev pub method_todo : Value → List ℕ → List Todo → List Todo
method_todo a id args =
    operand s.member a ∷ word kind.Dot (codes ".") ∷ identifier id ∷ open_paren
    ∷ (args ++ close_paren ∷ [])

abbrev pub call_todo : Extensions → Path → Values → List Todo
call_todo table n v.none = function_todo n []
call_todo table n (v.more a args) =
    if calls_method table n then method_todo a n.id (items_todo args)
    else function_todo n (items_todo (v.more a args))

abbrev pub infix_todo : TokenKind → List ℕ → Value → Value → List Todo
infix_todo k text a b = operand s.sum a ∷ word k text ∷ operand s.sum b ∷ []

-- a value without parentheses around it
abbrev pub opened_todo : Extensions → Value → List Todo
opened_todo table (v.val literal) = literal_todo literal
opened_todo table (v.var x) = var_todo x ∷ []
opened_todo table (v.slot x) = slot_todo x.id ∷ []
opened_todo table (v.ite a b c) =
    word kind.If (codes "if") ∷ whole_todo a ∷ word kind.Then (codes "then") ∷ whole_todo b
    ∷ word kind.Else (codes "else") ∷ whole_todo c ∷ []
opened_todo table (v.not a) = word kind.Bang (codes "!") ∷ operand s.member a ∷ []
opened_todo table (v.neg a) = word kind.Minus (codes "-") ∷ negated a ∷ []
opened_todo table (v.and a b) = whole_todo a ∷ whole_todo b ∷ []
opened_todo table (v.or_nary a bs) =
    operand s.conjunction a ∷ behind kind.OrOr (codes "||") s.conjunction bs ∷ []
opened_todo table (v.and_naryl a bs) =
    operand s.relation a ∷ behind kind.AndAnd (codes "&&") s.relation bs ∷ []
opened_todo table (v.mul_nary a bs) =
    operand s.signed a ∷ behind kind.Star (codes "*") s.signed bs ∷ []
opened_todo table (v.add_nary a ts) = operand s.product a ∷ terms_behind ts ∷ []
opened_todo table (v.less a b) = infix_todo kind.Less (codes "<") a b
opened_todo table (v.lesseq a b) = infix_todo kind.LessEq (codes "<=") a b
opened_todo table (v.greater a b) = infix_todo kind.Greater (codes ">") a b
opened_todo table (v.greatereq a b) = infix_todo kind.GreaterEq (codes ">=") a b
opened_todo table (v.is_eq a b) = infix_todo kind.EqEq (codes "==") a b
opened_todo table (v.noteq a b) = infix_todo kind.NotEq (codes "!=") a b
opened_todo table (v.is_in a b) = infix_todo kind.In (codes "in") a b
opened_todo table (v.like a elems) =
    operand s.sum a ∷ word kind.Like (codes "like") ∷ pattern elems ∷ []
opened_todo table (v.is_entity_type a t) =
    operand s.sum a ∷ word kind.Is (codes "is") ∷ name t.name ∷ []
opened_todo table (v.is_in_entity_type a t b) =
    operand s.sum a ∷ word kind.Is (codes "is") ∷ name t.name ∷ word kind.In (codes "in")
    ∷ operand s.sum b ∷ []
opened_todo table (v.extended_has_attr a first rest) =
    operand s.sum a ∷ word kind.Has (codes "has") ∷ sought first rest ∷ []
opened_todo table (v.get_attr a attr) = operand s.member a ∷ access attr
opened_todo table (v.contains a b) = method_todo a (codes "contains") (whole_todo b ∷ [])
opened_todo table (v.contains_all a b) = method_todo a (codes "containsAll") (whole_todo b ∷ [])
opened_todo table (v.contains_any a b) = method_todo a (codes "containsAny") (whole_todo b ∷ [])
opened_todo table (v.is_empty a) = method_todo a (codes "isEmpty") []
opened_todo table (v.get_tag a b) = method_todo a (codes "getTag") (whole_todo b ∷ [])
opened_todo table (v.has_tag a b) = method_todo a (codes "hasTag") (whole_todo b ∷ [])
opened_todo table (v.call_extension_fn n args) = call_todo table n args
opened_todo table (v.set items) =
    word kind.OpenBracket (codes "[")
    ∷ (items_todo items ++ word kind.CloseBracket (codes "]") ∷ [])
opened_todo table (v.«record» fs) =
    word kind.OpenBrace (codes "{") ∷ (pairs fs ++ word kind.CloseBrace (codes "}") ∷ [])

abbrev pub enclosed : List Todo → List Todo
enclosed ts = open_paren ∷ (ts ++ close_paren ∷ [])

-- a value where a sort is wanted; the operand of a `-`
abbrev pub placed_todo : Extensions → Sort → Value → List Todo
placed_todo table wanted a =
    if suits wanted (sort_of a) then opened_todo table a else enclosed (opened_todo table a)

abbrev pub negated_todo : Extensions → Value → List Todo
negated_todo table a =
    if is_natural a then enclosed (opened_todo table a) else placed_todo table s.member a

-- the first of those that stand behind something, and the others
abbrev pub behind_todo : TokenKind → List ℕ → Sort → Values → List Todo
behind_todo k text wanted v.none = []
behind_todo k text wanted (v.more b bs) =
    word k text ∷ operand wanted b ∷ behind k text wanted bs ∷ []

abbrev pub terms_todo : Terms → List Todo
terms_todo v.no_terms = []
terms_todo (v.term o b ts) = op_todo o ∷ operand s.product b ∷ terms_behind ts ∷ []

abbrev pub pairs_todo : Fields → List Todo
pairs_todo v.no_fields = []
pairs_todo (v.field text a fs) =
    word kind.Comma (codes ",") ∷ key text ∷ word kind.Colon (codes ":") ∷ whole_todo a
    ∷ pairs_behind fs ∷ []

-- ---- how much is still to be done

unfoldable mutual
  pub load : Value → ℕ
  load (v.val literal) = 20
  load (v.var x) = 20
  load (v.slot x) = 20
  load (v.ite a b c) = load a + load b + load c + 20
  load (v.not a) = load a + 20
  load (v.neg a) = load a + 20
  load (v.and a b) = load a + load b + 20
  load (v.or_nary a bs) = load a + loads bs + 20
  load (v.and_naryl a bs) = load a + loads bs + 20
  load (v.add_nary a ts) = load a + term_loads ts + 20
  load (v.mul_nary a bs) = load a + loads bs + 20
  load (v.less a b) = load a + load b + 20
  load (v.lesseq a b) = load a + load b + 20
  load (v.greater a b) = load a + load b + 20
  load (v.greatereq a b) = load a + load b + 20
  load (v.is_eq a b) = load a + load b + 20
  load (v.noteq a b) = load a + load b + 20
  load (v.is_in a b) = load a + load b + 20
  load (v.like a elems) = load a + 20
  load (v.is_entity_type a t) = load a + 20
  load (v.is_in_entity_type a t b) = load a + load b + 20
  load (v.extended_has_attr a first rest) = load a + 20
  load (v.get_attr a attr) = load a + 20
  load (v.contains a b) = load a + load b + 20
  load (v.contains_all a b) = load a + load b + 20
  load (v.contains_any a b) = load a + load b + 20
  load (v.is_empty a) = load a + 20
  load (v.get_tag a b) = load a + load b + 20
  load (v.has_tag a b) = load a + load b + 20
  load (v.call_extension_fn n args) = loads args + 20
  load (v.set items) = loads items + 20
  load (v.«record» fs) = field_loads fs + 20

  pub loads : Values → ℕ
  loads v.none = 0
  loads (v.more b bs) = load b + loads bs + 2

  pub term_loads : Terms → ℕ
  term_loads v.no_terms = 0
  term_loads (v.term o b ts) = load b + term_loads ts + 2

  pub field_loads : Fields → ℕ
  field_loads v.no_fields = 0
  field_loads (v.field text a fs) = load a + field_loads fs + 4

abbrev pub todo_load : Todo → ℕ
todo_load (word k text) = 1
todo_load (identifier id) = 1
todo_load (name n) = 1
todo_load (string text) = 1
todo_load (pattern elems) = 1
todo_load (number n) = 1
todo_load (key text) = 1
todo_load (attributes id ids) = 1
todo_load (operand wanted a) = load a
todo_load (negated a) = load a
todo_load (behind k text wanted bs) = suc (loads bs)
todo_load (terms_behind ts) = suc (term_loads ts)
todo_load (pairs_behind fs) = suc (field_loads fs)

abbrev pub all_loads : List Todo → ℕ
all_loads [] = 0
all_loads (t ∷ ts) = todo_load t + all_loads ts
