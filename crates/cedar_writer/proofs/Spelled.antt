-- The words of a writable value are spelled.
use Rattle.std.proofs.Common.{◌≡◌, ℕ, ◌^◌, ◌<◌, suc, Bool, true, false, List, [], ◌∷◌, ◌++◌, refl, sym, ap, subst, codes, arith, pos, negsuc, Some}
use Rattle.std.specs.Prelude.{◌&&◌, ◌||◌, not}
use Rattle.std.specs.Fmt.{decimal}
use Rattle.std.specs.List.{AllPass}
use Rattle.std.specs.Char.{digit_value, is_ascii_digit}
use Rattle.std.specs.Str.{IsUtf8, bytes_eq}
use Rattle.std.specs.Str.Parse.{AllDigits, IsNumeral}
use Rattle.std.specs.Cmp.Derive.{both_true}
use Rattle.std.proofs.lemmas.Bool.{cond_both, and_parts}
use Rattle.std.proofs.lemmas.Bool.Decides.{nat_tests}
use Rattle.std.proofs.lemmas.Fmt.{decimal_is_IsNumeral}
use Rattle.std.proofs.lemmas.List.Elements.{All-nil, All-cons}
use Rattle.std.proofs.lemmas.List.Sums.{AllPass-from_list_all}
use Rattle.std.proofs.lemmas.Str.Parse.{digit_from_value}
use Rattle.cedar_lexer.specs.Spelling.{Spells, IsNumber, IsIdentifierText, one_text}
use Rattle.cedar_lexer.specs.Words.{TokenText, AreSpelled}
use Rattle.cedar_lexer.specs.declared.token.TokenKind.{TokenKind}
use Rattle.cedar_lexer.specs.declared.token.TokenKind.TheVariants as kind
use Rattle.cedar_expressions.specs.declared.operators.AddOp.{AddOp}
use Rattle.cedar_expressions.specs.declared.operators.AddOp.TheVariants as op
use Rattle.cedar_expressions.specs.declared.entity.EntityUID.{EntityUID}
use Rattle.cedar_expressions.specs.declared.atoms.Literal.{Literal}
use Rattle.cedar_expressions.specs.declared.atoms.Literal.TheVariants as literals
use Rattle.cedar_expressions.specs.declared.atoms.Var.{Var}
use Rattle.cedar_expressions.specs.declared.atoms.Var.TheVariants as vars
use Rattle.cedar_expressions.specs.declared.atoms.SlotId.{SlotId}
use Rattle.cedar_expressions.specs.declared.atoms.SlotId.TheVariants as slots
use Rattle.cedar_expressions.specs.Path.{Path, is_unreserved_identifier, is_valid_identifier, is_identifier, is_reserved_word, is_reserved_namespace, continues_identifier}
use Rattle.cedar_expressions.specs.Value as v
use Rattle.cedar_expressions.specs.Value.{Value, Values, Terms, Fields}
use Rattle.cedar_conversion.specs.strict.Extensions.{Extensions}
use Rattle.cedar_conversion.specs.strict.Strict as s
use Rattle.cedar_conversion.specs.strict.Strict.{Sort}
use Rattle.cedar_writer.specs.WrittenWords.{word_kinds, kind_in, alone, dot, colons, identifier_words, marked_words, path_words, name_words, text_words, pattern_words, number_words, entity_words, key_words, sought_words, access_words}
use Rattle.cedar_writer.specs.Writing.{words, call_words, joined_words, listed_words, terms_words, entries_words, more_entries_words, literal_words, var_words, slot_words, sort_of, suits, fitted, in_parens, is_natural, behind_minus, comma, colon, op_words, calls_method, function_words, method_words}
use Rattle.cedar_writer.specs.Writable.{AreIdentifiers, IsWritableName, IsWritableLiteral, IsWritableSought, IsWritable, AreWritable, AreWritableTerms, AreWritableFields, IsWritableOf, IsWritableCall, IsWritableFunction}
use Rattle.cedar_writer.proofs.Escaping.{string_spelled, pattern_spelled}
use Rattle.cedar_writer.proofs.Leaves.{same_bytes}

pub join : (ws vs : List TokenText) → AreSpelled ws → AreSpelled vs → AreSpelled (ws ++ vs)
join [] vs h k = k
join (w ∷ ws) vs h k = (h.0, join ws vs h.1 k)

-- ---- identifiers

abbrev pub is_word : List (List ℕ × TokenKind) → List ℕ → Bool
is_word [] id = false
is_word (x ∷ xs) id = bytes_eq id x.0 || is_word xs id

abbrev is_plain : List ℕ → Bool
is_plain id = is_unreserved_identifier id && not (is_word word_kinds id)

clash : (t id : List ℕ) → Some t ≡ Some id → is_plain t ≡ false → is_plain id ≡ true → ⊥
clash t id e f h =
    let same : t ≡ id = cc in
    let no : is_plain id ≡ false = subst (λ x. is_plain x ≡ false) same f in
    cc

no_own_kind : (k : TokenKind) (id : List ℕ) → one_text k ≡ Some id → is_plain id ≡ true → ⊥
no_own_kind kind.True id e h = clash (codes "true") id e refl h
no_own_kind kind.False id e h = clash (codes "false") id e refl h
no_own_kind kind.If id e h = clash (codes "if") id e refl h
no_own_kind kind.Permit id e h = clash (codes "permit") id e refl h
no_own_kind kind.Forbid id e h = clash (codes "forbid") id e refl h
no_own_kind kind.When id e h = clash (codes "when") id e refl h
no_own_kind kind.Unless id e h = clash (codes "unless") id e refl h
no_own_kind kind.In id e h = clash (codes "in") id e refl h
no_own_kind kind.Has id e h = clash (codes "has") id e refl h
no_own_kind kind.Like id e h = clash (codes "like") id e refl h
no_own_kind kind.Is id e h = clash (codes "is") id e refl h
no_own_kind kind.Then id e h = clash (codes "then") id e refl h
no_own_kind kind.Else id e h = clash (codes "else") id e refl h
no_own_kind kind.Principal id e h = clash (codes "principal") id e refl h
no_own_kind kind.Action id e h = clash (codes "action") id e refl h
no_own_kind kind.Resource id e h = clash (codes "resource") id e refl h
no_own_kind kind.Context id e h = clash (codes "context") id e refl h
no_own_kind kind.PrincipalSlot id e h = clash (codes "?principal") id e refl h
no_own_kind kind.ResourceSlot id e h = clash (codes "?resource") id e refl h
no_own_kind kind.OtherSlot id e h = cc
no_own_kind kind.Identifier id e h = cc
no_own_kind kind.Number id e h = cc
no_own_kind kind.StringLit id e h = cc
no_own_kind kind.At id e h = clash (codes "@") id e refl h
no_own_kind kind.Dot id e h = clash (codes ".") id e refl h
no_own_kind kind.Comma id e h = clash (codes ",") id e refl h
no_own_kind kind.Semicolon id e h = clash (codes ";") id e refl h
no_own_kind kind.Colon id e h = clash (codes ":") id e refl h
no_own_kind kind.ColonColon id e h = clash (codes "::") id e refl h
no_own_kind kind.OpenParen id e h = clash (codes "(") id e refl h
no_own_kind kind.CloseParen id e h = clash (codes ")") id e refl h
no_own_kind kind.OpenBrace id e h = clash (codes "{") id e refl h
no_own_kind kind.CloseBrace id e h = clash (codes "}") id e refl h
no_own_kind kind.OpenBracket id e h = clash (codes "[") id e refl h
no_own_kind kind.CloseBracket id e h = clash (codes "]") id e refl h
no_own_kind kind.EqEq id e h = clash (codes "==") id e refl h
no_own_kind kind.NotEq id e h = clash (codes "!=") id e refl h
no_own_kind kind.Less id e h = clash (codes "<") id e refl h
no_own_kind kind.LessEq id e h = clash (codes "<=") id e refl h
no_own_kind kind.GreaterEq id e h = clash (codes ">=") id e refl h
no_own_kind kind.Greater id e h = clash (codes ">") id e refl h
no_own_kind kind.Eq id e h = clash (codes "=") id e refl h
no_own_kind kind.OrOr id e h = clash (codes "||") id e refl h
no_own_kind kind.AndAnd id e h = clash (codes "&&") id e refl h
no_own_kind kind.Plus id e h = clash (codes "+") id e refl h
no_own_kind kind.Minus id e h = clash (codes "-") id e refl h
no_own_kind kind.Star id e h = clash (codes "*") id e refl h
no_own_kind kind.Slash id e h = clash (codes "/") id e refl h
no_own_kind kind.Percent id e h = clash (codes "%") id e refl h
no_own_kind kind.Bang id e h = clash (codes "!") id e refl h

pub identifier_text : (id : List ℕ) → is_identifier id ≡ true → IsIdentifierText id
identifier_text [] h = cc
identifier_text (b ∷ bs) h = let p = and_parts _ _ h in (p.0, AllPass-from_list_all continues_identifier bs p.1)

spelled_plainly : (id : List ℕ) → is_unreserved_identifier id ≡ true → is_word word_kinds id ≡ false → Spells kind.Identifier id
spelled_plainly id h n =
    let a = and_parts (is_valid_identifier id) (not (is_reserved_namespace id)) h in
    let b = and_parts (is_identifier id) (not (is_reserved_word id)) a.0 in
    (identifier_text id b.0, λ own. no_own_kind own.0 id own.1 (both_true h (ap not n)))

abbrev Each : List (List ℕ × TokenKind) → List ℕ → Type 0
Each [] id = Unit {0}
Each (x ∷ xs) id = (id ≡ x.0 → Spells x.1 id) × Each xs id

pub or_left : (a b c : Bool) → a ≡ false → b ≡ c → (a || b) ≡ c
or_left a b c e f = rw e f

kind_spelled : (ks : List (List ℕ × TokenKind)) (id : List ℕ) → Each ks id → (is_word ks id ≡ false → Spells kind.Identifier id) → Spells (kind_in ks id) id
kind_spelled [] id h f = f refl
kind_spelled (x ∷ xs) id h f =
    cond_both (bytes_eq id x.0) x.1 (kind_in xs id) (λ k. Spells k id) (λ e. h.0 (same_bytes id x.0 e))
    (λ e. kind_spelled xs id h.1 (λ n. f (or_left (bytes_eq id x.0) (is_word xs id) false e n)))

identifier_spelled : (id : List ℕ) → is_unreserved_identifier id ≡ true → AreSpelled (identifier_words id)
identifier_spelled id h =
    (kind_spelled word_kinds id ((λ e. ap Some (sym e)), ((λ e. ap Some (sym e)), ((λ e. ap Some (sym e)), ((λ e. ap Some (sym e)), ((λ e. ap Some (sym e)), ((λ e. ap Some (sym e)), ((λ e. ap Some (sym e)), ((λ e. ap Some (sym e)), tt)))))))) (spelled_plainly id h), tt)

marked_spelled : (ids : List (List ℕ)) (acc mark : List TokenText) → AreIdentifiers ids → AreSpelled acc → AreSpelled mark → AreSpelled (marked_words acc mark ids)
marked_spelled [] acc mark hs a m = a
marked_spelled (id ∷ ids) acc mark hs a m = marked_spelled ids (acc ++ mark ++ identifier_words id) mark hs.1 (join (acc ++ mark) (identifier_words id) (join acc mark a m) (identifier_spelled id hs.0)) m

path_spelled : (ids : List (List ℕ)) (id : List ℕ) → AreIdentifiers ids → is_unreserved_identifier id ≡ true → AreSpelled (path_words ids id)
path_spelled [] id hs h = identifier_spelled id h
path_spelled (x ∷ ids) id hs h =
    join (marked_words (identifier_words x) colons ids ++ colons) (identifier_words id)
    (join (marked_words (identifier_words x) colons ids) colons (marked_spelled ids (identifier_words x) colons hs.1 (identifier_spelled x hs.0) (refl, tt)) (refl, tt)) (identifier_spelled id h)

pub name_spelled : (n : Path) → IsWritableName n → AreSpelled (name_words n)
name_spelled n h = path_spelled n.path n.id h.0 h.1

pub text_spelled : (text : List ℕ) → IsUtf8 text → AreSpelled (text_words text)
text_spelled text u = (string_spelled text u, tt)

key_spelled : (text : List ℕ) → IsUtf8 text → AreSpelled (key_words text)
key_spelled text u = cond_both (is_unreserved_identifier text) (identifier_words text) (text_words text) AreSpelled (λ h. identifier_spelled text h) (λ h. text_spelled text u)

sought_spelled : (id : List ℕ) (ids : List (List ℕ)) → IsWritableSought id ids → AreSpelled (sought_words id ids)
sought_spelled id [] u = key_spelled id u
sought_spelled id (y ∷ ys) hs = marked_spelled (y ∷ ys) (identifier_words id) dot hs.1 (identifier_spelled id hs.0) (refl, tt)

access_spelled : (attr : List ℕ) (ws : List TokenText) → IsUtf8 attr → AreSpelled ws → AreSpelled (access_words attr ws)
access_spelled attr ws u h =
    cond_both (is_unreserved_identifier attr) (ws ++ dot ++ identifier_words attr) (ws ++ alone kind.OpenBracket (codes "[") ++ text_words attr ++ alone kind.CloseBracket (codes "]")) AreSpelled
    (λ i. join (ws ++ dot) (identifier_words attr) (join ws dot h (refl, tt)) (identifier_spelled attr i))
    (λ i. join (ws ++ alone kind.OpenBracket (codes "[") ++ text_words attr) (alone kind.CloseBracket (codes "]"))
    (join (ws ++ alone kind.OpenBracket (codes "[")) (text_words attr) (join ws (alone kind.OpenBracket (codes "[")) h (refl, tt)) (text_spelled attr u)) (refl, tt))

-- ---- literals

digit_is : (b : ℕ) → digit_value b < 10 → is_ascii_digit b ≡ true
digit_is b h = let r = digit_from_value b h in grind (arith, nat_tests)

digits_are : (bs : List ℕ) → AllDigits 10 bs → AllPass is_ascii_digit bs
digits_are [] h = All-nil (λ x. is_ascii_digit x ≡ true)
digits_are (b ∷ bs) h = All-cons (λ x. is_ascii_digit x ≡ true) b bs (digit_is b h.0) (digits_are bs h.1)

number_text : (text : List ℕ) → IsNumeral 10 text → IsNumber text
number_text [] h = absurd (omega (arith, h.0))
number_text (b ∷ bs) h = (digit_is b h.1.0, digits_are bs h.1.1)

number_spelled : (n : ℕ) → n < 2 ^ 64 → AreSpelled (number_words n)
number_spelled n h = (number_text (decimal n) (decimal_is_IsNumeral n h).0, tt)

pub entity_spelled : (uid : EntityUID) → IsWritableName uid.entity_type.name → IsUtf8 uid.eid.text → AreSpelled (entity_words uid)
entity_spelled uid h u = join (name_words uid.entity_type.name ++ colons) (text_words uid.eid.text) (join (name_words uid.entity_type.name) colons (name_spelled uid.entity_type.name h) (refl, tt)) (text_spelled uid.eid.text u)

literal_spelled : (l : Literal) → IsWritableLiteral l → AreSpelled (literal_words l)
literal_spelled (literals.Bool true) h = (refl, tt)
literal_spelled (literals.Bool false) h = (refl, tt)
literal_spelled (literals.Long (pos n)) h = number_spelled n (omega (arith, h))
literal_spelled (literals.Long (negsuc n)) h = (refl, number_spelled (suc n) (omega (arith, h)))
literal_spelled (literals.String text) h = text_spelled text h
literal_spelled (literals.EntityUID uid) h = entity_spelled uid h.0 h.1

var_spelled : (x : Var) → AreSpelled (var_words x)
var_spelled vars.Principal = (refl, tt)
var_spelled vars.Action = (refl, tt)
var_spelled vars.Resource = (refl, tt)
var_spelled vars.Context = (refl, tt)

slot_spelled : (x : SlotId) → AreSpelled (slot_words x)
slot_spelled slots.Principal = (refl, tt)
slot_spelled slots.Resource = (refl, tt)

op_spelled : (o : AddOp) → AreSpelled (op_words o)
op_spelled op.Plus = (refl, tt)
op_spelled op.Minus = (refl, tt)

-- ---- forms

parens_spelled : (ws : List TokenText) → AreSpelled ws → AreSpelled (in_parens ws)
parens_spelled ws h = (refl, join ws (alone kind.CloseParen (codes ")")) h (refl, tt))

placed_spelled : (wanted sort : Sort) (ws : List TokenText) → AreSpelled ws → AreSpelled (fitted wanted sort ws)
placed_spelled wanted sort ws h = cond_both (suits wanted sort) ws (in_parens ws) AreSpelled (λ e. h) (λ e. parens_spelled ws h)

minus_spelled : (natural : Bool) (sort : Sort) (ws : List TokenText) → AreSpelled ws → AreSpelled (behind_minus natural sort ws)
minus_spelled natural sort ws h = cond_both natural (in_parens ws) (fitted s.member sort ws) AreSpelled (λ e. parens_spelled ws h) (λ e. placed_spelled s.member sort ws h)

pub around : (ws mark vs : List TokenText) → AreSpelled ws → AreSpelled mark → AreSpelled vs → AreSpelled (ws ++ mark ++ vs)
around ws mark vs h m k = join (ws ++ mark) vs (join ws mark h m) k

method_spelled : (ws : List TokenText) (id : List ℕ) (args : List TokenText) → is_unreserved_identifier id ≡ true → AreSpelled ws → AreSpelled args → AreSpelled (method_words ws id args)
method_spelled ws id args i h k =
    join (ws ++ dot ++ identifier_words id ++ alone kind.OpenParen (codes "(") ++ args) (alone kind.CloseParen (codes ")"))
    (join (ws ++ dot ++ identifier_words id ++ alone kind.OpenParen (codes "(")) args
    (join (ws ++ dot ++ identifier_words id) (alone kind.OpenParen (codes "("))
    (around ws dot (identifier_words id) h (refl, tt) (identifier_spelled id i)) (refl, tt)) k) (refl, tt)

function_spelled : (table : Extensions) (n : Path) (args : List TokenText) → IsWritableFunction table n → AreSpelled args → AreSpelled (function_words (name_words n) args)
function_spelled table n args h k =
    join (name_words n ++ alone kind.OpenParen (codes "(") ++ args) (alone kind.CloseParen (codes ")"))
    (around (name_words n) (alone kind.OpenParen (codes "(")) args (name_spelled n h.0) (refl, tt) k) (refl, tt)

enclosed : (k j : TokenKind) (t u : List ℕ) (ws : List TokenText) → AreSpelled (alone k t) → AreSpelled ws → AreSpelled (alone j u) → AreSpelled (alone k t ++ ws ++ alone j u)
enclosed k j t u ws a h b = join (alone k t ++ ws) (alone j u) (join (alone k t) ws a h) b

mutual
  unfolding words IsWritable

  pub spelled : (table : Extensions) (limit : ℕ) (value : Value) → IsWritable table limit value → AreSpelled (words table value)
  spelled table limit (v.val l) h = literal_spelled l h.0
  spelled table limit (v.var x) h = var_spelled x
  spelled table limit (v.slot x) h = slot_spelled x.id
  spelled table limit (v.ite a b c) h =
      around (alone kind.If (codes "if") ++ words table a ++ alone kind.Then (codes "then") ++ words table b) (alone kind.Else (codes "else")) (words table c)
      (around (alone kind.If (codes "if") ++ words table a) (alone kind.Then (codes "then")) (words table b)
      (join (alone kind.If (codes "if")) (words table a) (refl, tt) (spelled table limit a h.0)) (refl, tt) (spelled table limit b h.1)) (refl, tt) (spelled table limit c h.2)
  spelled table limit (v.not a) h = (refl, placed_spelled s.member (sort_of a) (words table a) (spelled table limit a h.1))
  spelled table limit (v.neg a) h = (refl, minus_spelled (is_natural a) (sort_of a) (words table a) (spelled table limit a h.1))
  spelled table limit (v.and a b) h = absurd h
  spelled table limit (v.or_nary a bs) h = joined_spelled table limit bs h.2 (alone kind.OrOr (codes "||")) s.conjunction (fitted s.conjunction (sort_of a) (words table a)) (refl, tt) (placed_spelled s.conjunction (sort_of a) (words table a) (spelled table limit a h.0))
  spelled table limit (v.and_naryl a bs) h = joined_spelled table limit bs h.2 (alone kind.AndAnd (codes "&&")) s.relation (fitted s.relation (sort_of a) (words table a)) (refl, tt) (placed_spelled s.relation (sort_of a) (words table a) (spelled table limit a h.0))
  spelled table limit (v.mul_nary a bs) h = joined_spelled table limit bs h.2 (alone kind.Star (codes "*")) s.signed (fitted s.signed (sort_of a) (words table a)) (refl, tt) (placed_spelled s.signed (sort_of a) (words table a) (spelled table limit a h.0))
  spelled table limit (v.add_nary a ts) h = terms_spelled table limit ts h.2 (fitted s.product (sort_of a) (words table a)) (placed_spelled s.product (sort_of a) (words table a) (spelled table limit a h.0))
  spelled table limit (v.less a b) h = around (fitted s.sum (sort_of a) (words table a)) (alone kind.Less (codes "<")) (fitted s.sum (sort_of b) (words table b)) (placed_spelled s.sum (sort_of a) (words table a) (spelled table limit a h.0)) (refl, tt) (placed_spelled s.sum (sort_of b) (words table b) (spelled table limit b h.1))
  spelled table limit (v.lesseq a b) h = around (fitted s.sum (sort_of a) (words table a)) (alone kind.LessEq (codes "<=")) (fitted s.sum (sort_of b) (words table b)) (placed_spelled s.sum (sort_of a) (words table a) (spelled table limit a h.0)) (refl, tt) (placed_spelled s.sum (sort_of b) (words table b) (spelled table limit b h.1))
  spelled table limit (v.greater a b) h = around (fitted s.sum (sort_of a) (words table a)) (alone kind.Greater (codes ">")) (fitted s.sum (sort_of b) (words table b)) (placed_spelled s.sum (sort_of a) (words table a) (spelled table limit a h.0)) (refl, tt) (placed_spelled s.sum (sort_of b) (words table b) (spelled table limit b h.1))
  spelled table limit (v.greatereq a b) h = around (fitted s.sum (sort_of a) (words table a)) (alone kind.GreaterEq (codes ">=")) (fitted s.sum (sort_of b) (words table b)) (placed_spelled s.sum (sort_of a) (words table a) (spelled table limit a h.0)) (refl, tt) (placed_spelled s.sum (sort_of b) (words table b) (spelled table limit b h.1))
  spelled table limit (v.is_eq a b) h = around (fitted s.sum (sort_of a) (words table a)) (alone kind.EqEq (codes "==")) (fitted s.sum (sort_of b) (words table b)) (placed_spelled s.sum (sort_of a) (words table a) (spelled table limit a h.0)) (refl, tt) (placed_spelled s.sum (sort_of b) (words table b) (spelled table limit b h.1))
  spelled table limit (v.noteq a b) h = around (fitted s.sum (sort_of a) (words table a)) (alone kind.NotEq (codes "!=")) (fitted s.sum (sort_of b) (words table b)) (placed_spelled s.sum (sort_of a) (words table a) (spelled table limit a h.0)) (refl, tt) (placed_spelled s.sum (sort_of b) (words table b) (spelled table limit b h.1))
  spelled table limit (v.is_in a b) h = around (fitted s.sum (sort_of a) (words table a)) (alone kind.In (codes "in")) (fitted s.sum (sort_of b) (words table b)) (placed_spelled s.sum (sort_of a) (words table a) (spelled table limit a h.0)) (refl, tt) (placed_spelled s.sum (sort_of b) (words table b) (spelled table limit b h.1))
  spelled table limit (v.like a ps) h = around (fitted s.sum (sort_of a) (words table a)) (alone kind.Like (codes "like")) (pattern_words ps) (placed_spelled s.sum (sort_of a) (words table a) (spelled table limit a h.0)) (refl, tt) (pattern_spelled ps h.1, tt)
  spelled table limit (v.is_entity_type a t) h = around (fitted s.sum (sort_of a) (words table a)) (alone kind.Is (codes "is")) (name_words t.name) (placed_spelled s.sum (sort_of a) (words table a) (spelled table limit a h.0)) (refl, tt) (name_spelled t.name h.1)
  spelled table limit (v.is_in_entity_type a t b) h =
      around ((fitted s.sum (sort_of a) (words table a)) ++ alone kind.Is (codes "is") ++ name_words t.name) (alone kind.In (codes "in")) (fitted s.sum (sort_of b) (words table b))
      (around (fitted s.sum (sort_of a) (words table a)) (alone kind.Is (codes "is")) (name_words t.name) (placed_spelled s.sum (sort_of a) (words table a) (spelled table limit a h.0)) (refl, tt) (name_spelled t.name h.1)) (refl, tt) (placed_spelled s.sum (sort_of b) (words table b) (spelled table limit b h.2))
  spelled table limit (v.extended_has_attr a first rest) h = around (fitted s.sum (sort_of a) (words table a)) (alone kind.Has (codes "has")) (sought_words first rest) (placed_spelled s.sum (sort_of a) (words table a) (spelled table limit a h.0)) (refl, tt) (sought_spelled first rest h.1)
  spelled table limit (v.get_attr a attr) h = access_spelled attr (fitted s.member (sort_of a) (words table a)) h.1 (placed_spelled s.member (sort_of a) (words table a) (spelled table limit a h.0))
  spelled table limit (v.contains a b) h = method_spelled (fitted s.member (sort_of a) (words table a)) (codes "contains") (words table b) refl (placed_spelled s.member (sort_of a) (words table a) (spelled table limit a h.0)) (spelled table limit b h.1)
  spelled table limit (v.contains_all a b) h = method_spelled (fitted s.member (sort_of a) (words table a)) (codes "containsAll") (words table b) refl (placed_spelled s.member (sort_of a) (words table a) (spelled table limit a h.0)) (spelled table limit b h.1)
  spelled table limit (v.contains_any a b) h = method_spelled (fitted s.member (sort_of a) (words table a)) (codes "containsAny") (words table b) refl (placed_spelled s.member (sort_of a) (words table a) (spelled table limit a h.0)) (spelled table limit b h.1)
  spelled table limit (v.get_tag a b) h = method_spelled (fitted s.member (sort_of a) (words table a)) (codes "getTag") (words table b) refl (placed_spelled s.member (sort_of a) (words table a) (spelled table limit a h.0)) (spelled table limit b h.1)
  spelled table limit (v.has_tag a b) h = method_spelled (fitted s.member (sort_of a) (words table a)) (codes "hasTag") (words table b) refl (placed_spelled s.member (sort_of a) (words table a) (spelled table limit a h.0)) (spelled table limit b h.1)
  spelled table limit (v.is_empty a) h = method_spelled (fitted s.member (sort_of a) (words table a)) (codes "isEmpty") [] refl (placed_spelled s.member (sort_of a) (words table a) (spelled table limit a h)) tt
  spelled table limit (v.call_extension_fn n args) h = call_spelled table limit args n h
  spelled table limit (v.set items) h = enclosed kind.OpenBracket kind.CloseBracket (codes "[") (codes "]") (listed_words table items) (refl, tt) (listed_spelled table limit items h) (refl, tt)
  spelled table limit (v.«record» pairs) h = enclosed kind.OpenBrace kind.CloseBrace (codes "{") (codes "}") (entries_words table pairs) (refl, tt) (entries_spelled table limit pairs h.0) (refl, tt)

  call_spelled : (table : Extensions) (limit : ℕ) (args : Values) (n : Path) → IsWritableOf table limit args n → AreSpelled (call_words table args n)
  call_spelled table limit v.none n h = function_spelled table n [] h tt
  call_spelled table limit (v.more a args) n h =
      cond_both (calls_method table n) (method_words (fitted s.member (sort_of a) (words table a)) n.id (listed_words table args)) (function_words (name_words n) (joined_words table args comma s.expression (words table a))) AreSpelled
      (λ e. method_spelled (fitted s.member (sort_of a) (words table a)) n.id (listed_words table args) (subst (λ b. IsWritableCall b table n) e h.2).1 (placed_spelled s.member (sort_of a) (words table a) (spelled table limit a h.0)) (listed_spelled table limit args h.1))
      (λ e. function_spelled table n (joined_words table args comma s.expression (words table a)) (subst (λ b. IsWritableCall b table n) e h.2) (joined_spelled table limit args h.1 comma s.expression (words table a) (refl, tt) (spelled table limit a h.0)))

  joined_spelled : (table : Extensions) (limit : ℕ) (bs : Values) → AreWritable table limit bs → (mark : List TokenText) (wanted : Sort) (acc : List TokenText) → AreSpelled mark → AreSpelled acc → AreSpelled (joined_words table bs mark wanted acc)
  joined_spelled table limit v.none h mark wanted acc m k = k
  joined_spelled table limit (v.more b bs) h mark wanted acc m k =
      joined_spelled table limit bs h.1 mark wanted (acc ++ mark ++ fitted wanted (sort_of b) (words table b)) m
      (around acc mark (fitted wanted (sort_of b) (words table b)) k m (placed_spelled wanted (sort_of b) (words table b) (spelled table limit b h.0)))

  listed_spelled : (table : Extensions) (limit : ℕ) (bs : Values) → AreWritable table limit bs → AreSpelled (listed_words table bs)
  listed_spelled table limit v.none h = tt
  listed_spelled table limit (v.more a bs) h = joined_spelled table limit bs h.1 comma s.expression (words table a) (refl, tt) (spelled table limit a h.0)

  terms_spelled : (table : Extensions) (limit : ℕ) (ts : Terms) → AreWritableTerms table limit ts → (acc : List TokenText) → AreSpelled acc → AreSpelled (terms_words table ts acc)
  terms_spelled table limit v.no_terms h acc k = k
  terms_spelled table limit (v.term o b ts) h acc k =
      terms_spelled table limit ts h.1 (acc ++ op_words o ++ fitted s.product (sort_of b) (words table b))
      (around acc (op_words o) (fitted s.product (sort_of b) (words table b)) k (op_spelled o) (placed_spelled s.product (sort_of b) (words table b) (spelled table limit b h.0)))

  entries_spelled : (table : Extensions) (limit : ℕ) (fs : Fields) → AreWritableFields table limit fs → AreSpelled (entries_words table fs)
  entries_spelled table limit v.no_fields h = tt
  entries_spelled table limit (v.field text a fs) h =
      more_spelled table limit fs h.2 (key_words text ++ colon ++ words table a) (around (key_words text) colon (words table a) (key_spelled text h.0) (refl, tt) (spelled table limit a h.1))

  more_spelled : (table : Extensions) (limit : ℕ) (fs : Fields) → AreWritableFields table limit fs → (acc : List TokenText) → AreSpelled acc → AreSpelled (more_entries_words table fs acc)
  more_spelled table limit v.no_fields h acc k = k
  more_spelled table limit (v.field text a fs) h acc k =
      more_spelled table limit fs h.2 (acc ++ comma ++ (key_words text ++ colon ++ words table a))
      (around acc comma (key_words text ++ colon ++ words table a) k (refl, tt) (around (key_words text) colon (words table a) (key_spelled text h.0) (refl, tt) (spelled table limit a h.1)))
