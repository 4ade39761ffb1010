-- What stands in the place of something that is still to be written has the same words.
use Rattle.std.proofs.Common.{◌≡◌, ℕ, Bool, true, false, cond, List, [], ◌∷◌, ◌++◌, refl, sym, ap, ◌∙◌, codes, append_assoc, append-nil, pos, negsuc}
use Rattle.std.proofs.lemmas.List.Concat.{flat_map-append}
use Rattle.cedar_lexer.specs.declared.token.TokenKind.{TokenKind}
use Rattle.cedar_lexer.specs.declared.token.TokenKind.TheVariants as kind
use Rattle.cedar_lexer.specs.Words.{TokenText}
use Rattle.cedar_expressions.specs.declared.atoms.Literal.{Literal}
use Rattle.cedar_expressions.specs.declared.atoms.Literal.TheVariants as literals
use Rattle.cedar_expressions.specs.declared.atoms.Var.{Var}
use Rattle.cedar_expressions.specs.declared.atoms.Var.TheVariants as vars
use Rattle.cedar_expressions.specs.declared.atoms.SlotId.{SlotId}
use Rattle.cedar_expressions.specs.declared.atoms.SlotId.TheVariants as slots
use Rattle.cedar_expressions.specs.declared.operators.AddOp.{AddOp}
use Rattle.cedar_expressions.specs.declared.operators.AddOp.TheVariants as op
use Rattle.cedar_expressions.specs.Path.{Path, is_unreserved_identifier}
use Rattle.cedar_expressions.specs.Value as v
use Rattle.cedar_expressions.specs.Value.{Value, Values, Terms, Fields}
use Rattle.cedar_conversion.specs.strict.Extensions.{Extensions}
use Rattle.cedar_conversion.specs.strict.Strict as s
use Rattle.cedar_conversion.specs.strict.Strict.{Sort}
use Rattle.cedar_writer.specs.WrittenWords.{alone, dot, colons, identifier_words, name_words, text_words, pattern_words, key_words, sought_words, access_words}
use Rattle.cedar_writer.specs.Writing.{literal_words, var_words, slot_words, words, call_words, joined_words, listed_words, terms_words, entries_words, more_entries_words, sort_of, suits, fitted, in_parens, behind_minus, is_natural, op_words, comma, colon, calls_method, method_words, function_words}
use Rattle.cedar_writer.specs.machines.Pending.{Todo, word, identifier, string, operand, negated, behind, terms_behind, pairs_behind, todo_words, all_words, whole_todo, items_todo, pairs, access, sought, literal_todo, var_todo, slot_todo, op_todo, function_todo, method_todo, call_todo, opened_todo, enclosed, placed_todo, negated_todo, behind_todo, terms_todo, pairs_todo}

-- ---- lists that grow are appended to

joined_acc : (table : Extensions) (bs : Values) (mark : List TokenText) (wanted : Sort) (acc : List TokenText) → joined_words table bs mark wanted acc ≡ acc ++ joined_words table bs mark wanted []
unfolding words
joined_acc table v.none mark wanted acc = sym (append-nil acc)
joined_acc table (v.more b bs) mark wanted acc =
    let p = fitted wanted (sort_of b) (words table b) in
    joined_acc table bs mark wanted (acc ++ mark ++ p) ∙ ap (λ t. t ++ joined_words table bs mark wanted []) (append_assoc acc mark p)
    ∙ append_assoc acc (mark ++ p) (joined_words table bs mark wanted []) ∙ ap (λ t. acc ++ t) (sym (joined_acc table bs mark wanted (mark ++ p)))

terms_acc : (table : Extensions) (ts : Terms) (acc : List TokenText) → terms_words table ts acc ≡ acc ++ terms_words table ts []
unfolding words
terms_acc table v.no_terms acc = sym (append-nil acc)
terms_acc table (v.term o b ts) acc =
    let p = fitted s.product (sort_of b) (words table b) in
    terms_acc table ts (acc ++ op_words o ++ p) ∙ ap (λ t. t ++ terms_words table ts []) (append_assoc acc (op_words o) p)
    ∙ append_assoc acc (op_words o ++ p) (terms_words table ts []) ∙ ap (λ t. acc ++ t) (sym (terms_acc table ts (op_words o ++ p)))

fields_acc : (table : Extensions) (fs : Fields) (acc : List TokenText) → more_entries_words table fs acc ≡ acc ++ more_entries_words table fs []
unfolding words
fields_acc table v.no_fields acc = sym (append-nil acc)
fields_acc table (v.field text a fs) acc =
    let p = key_words text ++ colon ++ words table a in
    fields_acc table fs (acc ++ comma ++ p) ∙ ap (λ t. t ++ more_entries_words table fs []) (append_assoc acc comma p)
    ∙ append_assoc acc (comma ++ p) (more_entries_words table fs []) ∙ ap (λ t. acc ++ t) (sym (fields_acc table fs (comma ++ p)))

-- ---- a value, and what is wanted of it

pub loose : (sort : Sort) (ws : List TokenText) → fitted s.expression sort ws ≡ ws
loose s.expression ws = refl
loose s.disjunction ws = refl
loose s.conjunction ws = refl
loose s.relation ws = refl
loose s.sum ws = refl
loose s.product ws = refl
loose s.signed ws = refl
loose s.member ws = refl
loose s.primary ws = refl

-- words of several things, joined from the right and from the left
three : (a b c : List TokenText) → a ++ (b ++ (c ++ [])) ≡ a ++ b ++ c
three a b c = simp (append_assoc, append-nil) refl

two : (a b : List TokenText) → a ++ (b ++ []) ≡ a ++ b
two a b = simp (append-nil) refl

five : (a b c d e : List TokenText) → a ++ (b ++ (c ++ (d ++ (e ++ [])))) ≡ a ++ b ++ c ++ d ++ e
five a b c d e = simp (append_assoc, append-nil) refl

six : (a b c d e f : List TokenText) → a ++ (b ++ (c ++ (d ++ (e ++ (f ++ []))))) ≡ a ++ b ++ c ++ d ++ e ++ f
six a b c d e f = simp (append_assoc, append-nil) refl

between : (table : Extensions) (j k : TokenKind) (front back : List ℕ) (ts : List Todo) → all_words table (word j front ∷ (ts ++ word k back ∷ [])) ≡ alone j front ++ all_words table ts ++ alone k back
between table j k front back ts =
    ap (λ t. alone j front ++ t) (flat_map-append (todo_words table) ts (word k back ∷ []))
    ∙ sym (append_assoc (alone j front) (all_words table ts) (alone k back))

listed_is : (table : Extensions) (bs : Values) → all_words table (items_todo bs) ≡ listed_words table bs
unfolding words
listed_is table v.none = refl
listed_is table (v.more a bs) =
    rw (loose (sort_of a) (words table a)) (two (words table a) (joined_words table bs comma s.expression []))
    ∙ sym (joined_acc table bs comma s.expression (words table a))

pairs_is : (table : Extensions) (fs : Fields) → all_words table (pairs fs) ≡ entries_words table fs
unfolding words
pairs_is table v.no_fields = refl
pairs_is table (v.field text a fs) =
    rw (loose (sort_of a) (words table a)) (four (key_words text) colon (words table a) (more_entries_words table fs []))
    ∙ sym (fields_acc table fs (key_words text ++ colon ++ words table a))
  where
    four : (k c w m : List TokenText) → k ++ (c ++ (w ++ (m ++ []))) ≡ (k ++ c ++ w) ++ m
    four k c w m = simp (append_assoc, append-nil) refl

one_arg : (table : Extensions) (b : Value) → all_words table (whole_todo b ∷ []) ≡ words table b
one_arg table b = append-nil (fitted s.expression (sort_of b) (words table b)) ∙ loose (sort_of b) (words table b)

method_is : (table : Extensions) (a : Value) (id : List ℕ) (args : List Todo) (ws : List TokenText) → all_words table args ≡ ws → all_words table (method_todo a id args) ≡ method_words (fitted s.member (sort_of a) (words table a)) id ws
method_is table a id args ws e =
    ap (λ t. fitted s.member (sort_of a) (words table a) ++ (dot ++ (identifier_words id ++ t))) (between table kind.OpenParen kind.CloseParen (codes "(") (codes ")") args ∙ ap (λ t. alone kind.OpenParen (codes "(") ++ t ++ alone kind.CloseParen (codes ")")) e)
    ∙ left (fitted s.member (sort_of a) (words table a)) dot (identifier_words id) (alone kind.OpenParen (codes "(")) ws (alone kind.CloseParen (codes ")"))
  where
    left : (a b c d e f : List TokenText) → a ++ (b ++ (c ++ (d ++ e ++ f))) ≡ a ++ b ++ c ++ d ++ e ++ f
    left a b c d e f = simp append_assoc refl

function_is : (table : Extensions) (n : Path) (args : List Todo) (ws : List TokenText) → all_words table args ≡ ws → all_words table (function_todo n args) ≡ function_words (name_words n) ws
function_is table n args ws e =
    ap (λ t. name_words n ++ t) (between table kind.OpenParen kind.CloseParen (codes "(") (codes ")") args ∙ ap (λ t. alone kind.OpenParen (codes "(") ++ t ++ alone kind.CloseParen (codes ")")) e)
    ∙ left (name_words n) (alone kind.OpenParen (codes "(")) ws (alone kind.CloseParen (codes ")"))
  where
    left : (a b c d : List TokenText) → a ++ (b ++ c ++ d) ≡ a ++ b ++ c ++ d
    left a b c d = simp append_assoc refl

access_is : (table : Extensions) (attr : List ℕ) (t : List TokenText) → t ++ all_words table (access attr) ≡ access_words attr t
access_is table attr t = pick (is_unreserved_identifier attr)
  where
    pick : (b : Bool) → t ++ all_words table (cond b (word kind.Dot (codes ".") ∷ identifier attr ∷ []) (word kind.OpenBracket (codes "[") ∷ string attr ∷ word kind.CloseBracket (codes "]") ∷ []))
        ≡ cond b (t ++ dot ++ identifier_words attr) (t ++ alone kind.OpenBracket (codes "[") ++ text_words attr ++ alone kind.CloseBracket (codes "]"))
    pick true = three t dot (identifier_words attr)
    pick false = simp (append_assoc, append-nil) refl

call_is : (table : Extensions) (n : Path) (args : Values) → all_words table (call_todo table n args) ≡ call_words table args n
unfolding words
call_is table n v.none = function_is table n [] [] refl
call_is table n (v.more a args) = pick (calls_method table n)
  where
    pick : (b : Bool) → all_words table (cond b (method_todo a n.id (items_todo args)) (function_todo n (items_todo (v.more a args))))
        ≡ cond b (method_words (fitted s.member (sort_of a) (words table a)) n.id (listed_words table args)) (function_words (name_words n) (joined_words table args comma s.expression (words table a)))
    pick true = method_is table a n.id (items_todo args) (listed_words table args) (listed_is table args)
    pick false = function_is table n (items_todo (v.more a args)) (listed_words table (v.more a args)) (listed_is table (v.more a args))

literal_is : (table : Extensions) (l : Literal) → all_words table (literal_todo l) ≡ literal_words l
literal_is table (literals.Bool true) = refl
literal_is table (literals.Bool false) = refl
literal_is table (literals.Long (pos n)) = refl
literal_is table (literals.Long (negsuc n)) = refl
literal_is table (literals.String text) = refl
literal_is table (literals.EntityUID uid) = three (name_words uid.entity_type.name) colons (text_words uid.eid.text)

var_is : (table : Extensions) (x : Var) → todo_words table (var_todo x) ≡ var_words x
var_is table vars.Principal = refl
var_is table vars.Action = refl
var_is table vars.Resource = refl
var_is table vars.Context = refl

slot_is : (table : Extensions) (x : SlotId) → todo_words table (slot_todo x) ≡ slot_words x
slot_is table slots.Principal = refl
slot_is table slots.Resource = refl

op_is : (table : Extensions) (o : AddOp) → todo_words table (op_todo o) ≡ op_words o
op_is table op.Plus = refl
op_is table op.Minus = refl

sought_is : (table : Extensions) (first : List ℕ) (rest : List (List ℕ)) → todo_words table (sought first rest) ≡ sought_words first rest
sought_is table first [] = refl
sought_is table first (x ∷ xs) = refl

pub opened_is : (table : Extensions) (a : Value) → all_words table (opened_todo table a) ≡ words table a
unfolding words
opened_is table (v.val l) = literal_is table l
opened_is table (v.var x) = append-nil (todo_words table (var_todo x)) ∙ var_is table x
opened_is table (v.slot x) = append-nil (todo_words table (slot_todo x.id)) ∙ slot_is table x.id
opened_is table (v.ite a b c) = rw (loose (sort_of a) (words table a), loose (sort_of b) (words table b), loose (sort_of c) (words table c)) (six (alone kind.If (codes "if")) (words table a) (alone kind.Then (codes "then")) (words table b) (alone kind.Else (codes "else")) (words table c))
opened_is table (v.not a) = two (alone kind.Bang (codes "!")) (fitted s.member (sort_of a) (words table a))
opened_is table (v.neg a) = two (alone kind.Minus (codes "-")) (behind_minus (is_natural a) (sort_of a) (words table a))
opened_is table (v.and a b) = rw (loose (sort_of a) (words table a), loose (sort_of b) (words table b)) (two (words table a) (words table b))
opened_is table (v.or_nary a bs) = two (fitted s.conjunction (sort_of a) (words table a)) (joined_words table bs (alone kind.OrOr (codes "||")) s.conjunction []) ∙ sym (joined_acc table bs (alone kind.OrOr (codes "||")) s.conjunction (fitted s.conjunction (sort_of a) (words table a)))
opened_is table (v.and_naryl a bs) = two (fitted s.relation (sort_of a) (words table a)) (joined_words table bs (alone kind.AndAnd (codes "&&")) s.relation []) ∙ sym (joined_acc table bs (alone kind.AndAnd (codes "&&")) s.relation (fitted s.relation (sort_of a) (words table a)))
opened_is table (v.mul_nary a bs) = two (fitted s.signed (sort_of a) (words table a)) (joined_words table bs (alone kind.Star (codes "*")) s.signed []) ∙ sym (joined_acc table bs (alone kind.Star (codes "*")) s.signed (fitted s.signed (sort_of a) (words table a)))
opened_is table (v.add_nary a ts) = two (fitted s.product (sort_of a) (words table a)) (terms_words table ts []) ∙ sym (terms_acc table ts (fitted s.product (sort_of a) (words table a)))
opened_is table (v.less a b) = three (fitted s.sum (sort_of a) (words table a)) (alone kind.Less (codes "<")) (fitted s.sum (sort_of b) (words table b))
opened_is table (v.lesseq a b) = three (fitted s.sum (sort_of a) (words table a)) (alone kind.LessEq (codes "<=")) (fitted s.sum (sort_of b) (words table b))
opened_is table (v.greater a b) = three (fitted s.sum (sort_of a) (words table a)) (alone kind.Greater (codes ">")) (fitted s.sum (sort_of b) (words table b))
opened_is table (v.greatereq a b) = three (fitted s.sum (sort_of a) (words table a)) (alone kind.GreaterEq (codes ">=")) (fitted s.sum (sort_of b) (words table b))
opened_is table (v.is_eq a b) = three (fitted s.sum (sort_of a) (words table a)) (alone kind.EqEq (codes "==")) (fitted s.sum (sort_of b) (words table b))
opened_is table (v.noteq a b) = three (fitted s.sum (sort_of a) (words table a)) (alone kind.NotEq (codes "!=")) (fitted s.sum (sort_of b) (words table b))
opened_is table (v.is_in a b) = three (fitted s.sum (sort_of a) (words table a)) (alone kind.In (codes "in")) (fitted s.sum (sort_of b) (words table b))
opened_is table (v.like a ps) = three (fitted s.sum (sort_of a) (words table a)) (alone kind.Like (codes "like")) (pattern_words ps)
opened_is table (v.is_entity_type a t) = three (fitted s.sum (sort_of a) (words table a)) (alone kind.Is (codes "is")) (name_words t.name)
opened_is table (v.is_in_entity_type a t b) = five (fitted s.sum (sort_of a) (words table a)) (alone kind.Is (codes "is")) (name_words t.name) (alone kind.In (codes "in")) (fitted s.sum (sort_of b) (words table b))
opened_is table (v.extended_has_attr a first rest) = three (fitted s.sum (sort_of a) (words table a)) (alone kind.Has (codes "has")) (todo_words table (sought first rest)) ∙ ap (λ x. fitted s.sum (sort_of a) (words table a) ++ alone kind.Has (codes "has") ++ x) (sought_is table first rest)
opened_is table (v.get_attr a attr) = access_is table attr (fitted s.member (sort_of a) (words table a))
opened_is table (v.contains a b) = method_is table a (codes "contains") (whole_todo b ∷ []) (words table b) (one_arg table b)
opened_is table (v.contains_all a b) = method_is table a (codes "containsAll") (whole_todo b ∷ []) (words table b) (one_arg table b)
opened_is table (v.contains_any a b) = method_is table a (codes "containsAny") (whole_todo b ∷ []) (words table b) (one_arg table b)
opened_is table (v.get_tag a b) = method_is table a (codes "getTag") (whole_todo b ∷ []) (words table b) (one_arg table b)
opened_is table (v.has_tag a b) = method_is table a (codes "hasTag") (whole_todo b ∷ []) (words table b) (one_arg table b)
opened_is table (v.is_empty a) = method_is table a (codes "isEmpty") [] [] refl
opened_is table (v.call_extension_fn n args) = call_is table n args
opened_is table (v.set items) = between table kind.OpenBracket kind.CloseBracket (codes "[") (codes "]") (items_todo items) ∙ ap (λ x. alone kind.OpenBracket (codes "[") ++ x ++ alone kind.CloseBracket (codes "]")) (listed_is table items)
opened_is table (v.«record» fs) = between table kind.OpenBrace kind.CloseBrace (codes "{") (codes "}") (pairs fs) ∙ ap (λ x. alone kind.OpenBrace (codes "{") ++ x ++ alone kind.CloseBrace (codes "}")) (pairs_is table fs)

enclosed_is : (table : Extensions) (a : Value) → all_words table (enclosed (opened_todo table a)) ≡ in_parens (words table a)
enclosed_is table a = between table kind.OpenParen kind.CloseParen (codes "(") (codes ")") (opened_todo table a) ∙ ap in_parens (opened_is table a)

picked : (table : Extensions) (b : Bool) (xs ys : List Todo) (ws vs : List TokenText) → all_words table xs ≡ ws → all_words table ys ≡ vs → all_words table (cond b xs ys) ≡ cond b ws vs
picked table true xs ys ws vs e f = e
picked table false xs ys ws vs e f = f

pub placed_is : (table : Extensions) (wanted : Sort) (a : Value) → all_words table (placed_todo table wanted a) ≡ todo_words table (operand wanted a)
placed_is table wanted a = picked table (suits wanted (sort_of a)) (opened_todo table a) (enclosed (opened_todo table a)) (words table a) (in_parens (words table a)) (opened_is table a) (enclosed_is table a)

pub negated_is : (table : Extensions) (a : Value) → all_words table (negated_todo table a) ≡ todo_words table (negated a)
negated_is table a = picked table (is_natural a) (enclosed (opened_todo table a)) (placed_todo table s.member a) (in_parens (words table a)) (fitted s.member (sort_of a) (words table a)) (enclosed_is table a) (placed_is table s.member a)

pub behind_is : (table : Extensions) (k : TokenKind) (text : List ℕ) (wanted : Sort) (bs : Values) → all_words table (behind_todo k text wanted bs) ≡ todo_words table (behind k text wanted bs)
unfolding words
behind_is table k text wanted v.none = refl
behind_is table k text wanted (v.more b bs) = three (alone k text) (fitted wanted (sort_of b) (words table b)) (joined_words table bs (alone k text) wanted []) ∙ sym (joined_acc table bs (alone k text) wanted (alone k text ++ fitted wanted (sort_of b) (words table b)))

pub terms_is : (table : Extensions) (ts : Terms) → all_words table (terms_todo ts) ≡ todo_words table (terms_behind ts)
unfolding words
terms_is table v.no_terms = refl
terms_is table (v.term o b ts) =
    ap (λ x. x ++ (fitted s.product (sort_of b) (words table b) ++ (terms_words table ts [] ++ []))) (op_is table o)
    ∙ three (op_words o) (fitted s.product (sort_of b) (words table b)) (terms_words table ts []) ∙ sym (terms_acc table ts (op_words o ++ fitted s.product (sort_of b) (words table b)))

pub pairs_behind_is : (table : Extensions) (fs : Fields) → all_words table (pairs_todo fs) ≡ todo_words table (pairs_behind fs)
unfolding words
pairs_behind_is table v.no_fields = refl
pairs_behind_is table (v.field text a fs) =
    rw (loose (sort_of a) (words table a)) (parts comma (key_words text) colon (words table a) (more_entries_words table fs [])) ∙ sym (fields_acc table fs (comma ++ (key_words text ++ colon ++ words table a)))
  where
    parts : (c k o w m : List TokenText) → c ++ (k ++ (o ++ (w ++ (m ++ [])))) ≡ (c ++ (k ++ o ++ w)) ++ m
    parts c k o w m = simp (append_assoc, append-nil) refl
