-- What stands in the place of a value: it is free and the value's own node fit exactly where the
-- value is writable, and it is less to do.
use Rattle.std.proofs.Common.{◌≡◌, ℕ, ◌+◌, ◌<◌, ◌≤◌, suc, Bool, true, false, cond, List, [], ◌∷◌, ◌++◌, refl, codes, arith, pos, negsuc}
use Rattle.std.specs.Str.{IsUtf8}
use Rattle.std.proofs.lemmas.Bool.{cond_both}
use Rattle.cedar_lexer.specs.declared.token.TokenKind.{TokenKind}
use Rattle.cedar_lexer.specs.declared.token.TokenKind.TheVariants as kind
use Rattle.cedar_expressions.specs.declared.atoms.Literal.{Literal}
use Rattle.cedar_expressions.specs.declared.atoms.Literal.TheVariants as literals
use Rattle.cedar_expressions.specs.declared.atoms.Var.{Var}
use Rattle.cedar_expressions.specs.declared.atoms.Var.TheVariants as vars
use Rattle.cedar_expressions.specs.declared.atoms.SlotId.{SlotId}
use Rattle.cedar_expressions.specs.declared.atoms.SlotId.TheVariants as slots
use Rattle.cedar_expressions.specs.declared.operators.AddOp.{AddOp}
use Rattle.cedar_expressions.specs.declared.operators.AddOp.TheVariants as op
use Rattle.cedar_expressions.specs.Path.{Path, is_unreserved_identifier}
use Rattle.cedar_expressions.specs.Value as v
use Rattle.cedar_expressions.specs.Value.{Value, Values, Terms, Fields}
use Rattle.cedar_conversion.specs.strict.Extensions.{Extensions}
use Rattle.cedar_conversion.specs.strict.Strict as s
use Rattle.cedar_conversion.specs.strict.Strict.{Sort}
use Rattle.cedar_writer.specs.Fitness.{IsFit, IsFitLiteral, IsFitSought, IsFitBy, IsFitCall}
use Rattle.cedar_writer.specs.Writable.{IsWritable, AreWritable, AreWritableTerms, AreWritableFields, IsWritableLiteral, SignFits, IsWritableSought, IsWritableCall, IsWritableOf}
use Rattle.cedar_writer.specs.Writing.{sort_of, suits, is_natural, calls_method}
use Rattle.cedar_writer.specs.machines.Pending.{Todo, word, identifier, string, operand, IsFree, AreFree, whole_todo, items_todo, pairs, access, sought, literal_todo, var_todo, slot_todo, op_todo, function_todo, method_todo, call_todo, opened_todo, enclosed, close_paren, placed_todo, negated_todo, behind_todo, terms_todo, pairs_todo, load, loads, term_loads, field_loads, todo_load, all_loads}
use Rattle.cedar_writer.proofs.Meant.{ascii_id}

-- ---- lists

pub both_free : (table : Extensions) (limit : ℕ) (xs ys : List Todo) → AreFree table limit xs → AreFree table limit ys → AreFree table limit (xs ++ ys)
both_free table limit [] ys h k = k
both_free table limit (x ∷ xs) ys h k = (h.0, both_free table limit xs ys h.1 k)

pub first_free : (table : Extensions) (limit : ℕ) (xs ys : List Todo) → AreFree table limit (xs ++ ys) → AreFree table limit xs
first_free table limit [] ys h = tt
first_free table limit (x ∷ xs) ys h = (h.0, first_free table limit xs ys h.1)

pub rest_free : (table : Extensions) (limit : ℕ) (xs ys : List Todo) → AreFree table limit (xs ++ ys) → AreFree table limit ys
rest_free table limit [] ys h = h
rest_free table limit (x ∷ xs) ys h = rest_free table limit xs ys h.1

pub all_loads-append : (xs ys : List Todo) → all_loads (xs ++ ys) ≡ all_loads xs + all_loads ys
all_loads-append [] ys = omega arith
all_loads-append (x ∷ xs) ys = omega (arith, all_loads-append xs ys)

-- ---- what is free is writable

module _ (table : Extensions) (limit : ℕ) where
  literal_forth : (l : Literal) → IsFitLiteral limit l → AreFree table limit (literal_todo l) → IsWritableLiteral l × SignFits limit l
  literal_forth (literals.Bool true) f h = (tt, tt)
  literal_forth (literals.Bool false) f h = (tt, tt)
  literal_forth (literals.Long (pos n)) f h = (f, tt)
  literal_forth (literals.Long (negsuc n)) f h = (f.0, f.1)
  literal_forth (literals.String text) f h = (h.0, tt)
  literal_forth (literals.EntityUID uid) f h = ((h.0, h.1.1.0), tt)

  sought_forth : (first : List ℕ) (rest : List (List ℕ)) → IsFitSought first rest → IsFree table limit (sought first rest) → IsWritableSought first rest
  sought_forth first [] f h = h
  sought_forth first (x ∷ xs) f h = f

  access_forth : (attr : List ℕ) → AreFree table limit (access attr) → IsUtf8 attr
  access_forth attr =
      cond_both (is_unreserved_identifier attr) (word kind.Dot (codes ".") ∷ identifier attr ∷ []) (word kind.OpenBracket (codes "[") ∷ string attr ∷ word kind.CloseBracket (codes "]") ∷ []) (λ ts. AreFree table limit ts → IsUtf8 attr)
      (λ e h. ascii_id attr e)
      (λ e h. h.1.0)

  listed_forth : (bs : Values) → AreFree table limit (items_todo bs) → AreWritable table limit bs
  unfolding IsWritable
  listed_forth v.none h = tt
  listed_forth (v.more a bs) h = (h.0, h.1.0)

  pairs_forth : (fs : Fields) → AreFree table limit (pairs fs) → AreWritableFields table limit fs
  unfolding IsWritable
  pairs_forth v.no_fields h = tt
  pairs_forth (v.field text a fs) h = (h.0, h.1.1.0, h.1.1.1.0)

  call_forth : (n : Path) (args : Values) → IsFitCall table n args → AreFree table limit (call_todo table n args) → IsWritableOf table limit args n
  unfolding IsWritable
  call_forth n v.none f h = (h.0, f.0, f.1)
  call_forth n (v.more a args) f h = pick (calls_method table n) f h
    where
      pick : (b : Bool) → IsFitBy b table n → AreFree table limit (cond b (method_todo a n.id (items_todo args)) (function_todo n (items_todo (v.more a args)))) → IsWritable table limit a × AreWritable table limit args × IsWritableCall b table n
      pick true f h = (h.0, listed_forth args (first_free table limit (items_todo args) (close_paren ∷ []) h.1.1.1.1), f)
      pick false f h = (h.1.1.0, h.1.1.1.0, (h.0, f.0, f.1))

  pub forth : (a : Value) → IsFit table limit a → AreFree table limit (opened_todo table a) → IsWritable table limit a
  unfolding IsWritable
  forth (v.val l) f h = literal_forth l f h
  forth (v.var x) f h = tt
  forth (v.slot x) f h = tt
  forth (v.ite a b c) f h = (h.1.0, h.1.1.1.0, h.1.1.1.1.1.0)
  forth (v.not a) f h = (f, h.1.0)
  forth (v.neg a) f h = (f, h.1.0)
  forth (v.and a b) f h = f
  forth (v.or_nary a bs) f h = (h.0, f, h.1.0)
  forth (v.and_naryl a bs) f h = (h.0, f, h.1.0)
  forth (v.add_nary a ts) f h = (h.0, f, h.1.0)
  forth (v.mul_nary a bs) f h = (h.0, f, h.1.0)
  forth (v.less a b) f h = (h.0, h.1.1.0)
  forth (v.lesseq a b) f h = (h.0, h.1.1.0)
  forth (v.greater a b) f h = (h.0, h.1.1.0)
  forth (v.greatereq a b) f h = (h.0, h.1.1.0)
  forth (v.is_eq a b) f h = (h.0, h.1.1.0)
  forth (v.noteq a b) f h = (h.0, h.1.1.0)
  forth (v.is_in a b) f h = (h.0, h.1.1.0)
  forth (v.like a ps) f h = (h.0, h.1.1.0)
  forth (v.is_entity_type a t) f h = (h.0, h.1.1.0)
  forth (v.is_in_entity_type a t b) f h = (h.0, h.1.1.0, h.1.1.1.1.0)
  forth (v.extended_has_attr a first rest) f h = (h.0, sought_forth first rest f h.1.1.0)
  forth (v.get_attr a attr) f h = (h.0, access_forth attr h.1)
  forth (v.contains a b) f h = (h.0, h.1.1.1.1.0)
  forth (v.contains_all a b) f h = (h.0, h.1.1.1.1.0)
  forth (v.contains_any a b) f h = (h.0, h.1.1.1.1.0)
  forth (v.is_empty a) f h = h.0
  forth (v.get_tag a b) f h = (h.0, h.1.1.1.1.0)
  forth (v.has_tag a b) f h = (h.0, h.1.1.1.1.0)
  forth (v.call_extension_fn n args) f h = call_forth n args f h
  forth (v.set items) f h = listed_forth items (first_free table limit (items_todo items) (word kind.CloseBracket (codes "]") ∷ []) h.1)
  forth (v.«record» fs) f h = (pairs_forth fs (first_free table limit (pairs fs) (word kind.CloseBrace (codes "}") ∷ []) h.1), f)

  -- ---- what is writable is fit, and what stands in its place is free

  literal_back : (l : Literal) → IsWritableLiteral l → SignFits limit l → IsFitLiteral limit l × AreFree table limit (literal_todo l)
  literal_back (literals.Bool true) h k = (tt, (tt, tt))
  literal_back (literals.Bool false) h k = (tt, (tt, tt))
  literal_back (literals.Long (pos n)) h k = (h, (tt, tt))
  literal_back (literals.Long (negsuc n)) h k = ((h, k), (tt, (tt, tt)))
  literal_back (literals.String text) h k = (tt, (h, tt))
  literal_back (literals.EntityUID uid) h k = (tt, (h.0, (tt, (h.1, tt))))

  var_free : (x : Var) → IsFree table limit (var_todo x)
  var_free vars.Principal = tt
  var_free vars.Action = tt
  var_free vars.Resource = tt
  var_free vars.Context = tt

  slot_free : (x : SlotId) → IsFree table limit (slot_todo x)
  slot_free slots.Principal = tt
  slot_free slots.Resource = tt

  pub op_free : (o : AddOp) → IsFree table limit (op_todo o)
  op_free op.Plus = tt
  op_free op.Minus = tt

  sought_back : (first : List ℕ) (rest : List (List ℕ)) → IsWritableSought first rest → IsFitSought first rest × IsFree table limit (sought first rest)
  sought_back first [] h = (tt, h)
  sought_back first (x ∷ xs) h = (h, tt)

  access_back : (attr : List ℕ) → IsUtf8 attr → AreFree table limit (access attr)
  access_back attr u =
      cond_both (is_unreserved_identifier attr) (word kind.Dot (codes ".") ∷ identifier attr ∷ []) (word kind.OpenBracket (codes "[") ∷ string attr ∷ word kind.CloseBracket (codes "]") ∷ []) (λ ts. AreFree table limit ts)
      (λ e. (tt, (tt, tt)))
      (λ e. (tt, (u, (tt, tt))))

  listed_back : (bs : Values) → AreWritable table limit bs → AreFree table limit (items_todo bs)
  unfolding IsWritable
  listed_back v.none h = tt
  listed_back (v.more a bs) h = (h.0, (h.1, tt))

  pairs_back : (fs : Fields) → AreWritableFields table limit fs → AreFree table limit (pairs fs)
  unfolding IsWritable
  pairs_back v.no_fields h = tt
  pairs_back (v.field text a fs) h = (h.0, (tt, (h.1, (h.2, tt))))

  call_back : (n : Path) (args : Values) → IsWritableOf table limit args n → IsFitCall table n args × AreFree table limit (call_todo table n args)
  unfolding IsWritable
  call_back n v.none h = ((h.1, h.2), (h.0, (tt, (tt, tt))))
  call_back n (v.more a args) h = pick (calls_method table n) h
    where
      pick : (b : Bool) → IsWritable table limit a × AreWritable table limit args × IsWritableCall b table n → IsFitBy b table n × AreFree table limit (cond b (method_todo a n.id (items_todo args)) (function_todo n (items_todo (v.more a args))))
      pick true h = (h.2, (h.0, (tt, (tt, (tt, both_free table limit (items_todo args) (close_paren ∷ []) (listed_back args h.1) (tt, tt))))))
      pick false h = ((h.2.1, h.2.2), (h.2.0, (tt, (h.0, (h.1, (tt, tt))))))

  infix_back : (a b : Value) → IsWritable table limit a → IsWritable table limit b → (k : TokenKind) (t : List ℕ) → AreFree table limit (operand s.sum a ∷ word k t ∷ operand s.sum b ∷ [])
  infix_back a b h i k t = (h, (tt, (i, tt)))

  method_back : (a b : Value) (id : List ℕ) → IsWritable table limit a → IsWritable table limit b → AreFree table limit (method_todo a id (whole_todo b ∷ []))
  method_back a b id h i = (h, (tt, (tt, (tt, (i, (tt, tt))))))

  pub back : (a : Value) → IsWritable table limit a → IsFit table limit a × AreFree table limit (opened_todo table a)
  unfolding IsWritable
  back (v.val l) h = literal_back l h.0 h.1
  back (v.var x) h = (tt, (var_free x, tt))
  back (v.slot x) h = (tt, (slot_free x.id, tt))
  back (v.ite a b c) h = (tt, (tt, (h.0, (tt, (h.1, (tt, (h.2, tt)))))))
  back (v.not a) h = (h.0, (tt, (h.1, tt)))
  back (v.neg a) h = (h.0, (tt, (h.1, tt)))
  back (v.and a b) h = absurd h
  back (v.or_nary a bs) h = (h.1, (h.0, (h.2, tt)))
  back (v.and_naryl a bs) h = (h.1, (h.0, (h.2, tt)))
  back (v.add_nary a ts) h = (h.1, (h.0, (h.2, tt)))
  back (v.mul_nary a bs) h = (h.1, (h.0, (h.2, tt)))
  back (v.less a b) h = (tt, infix_back a b h.0 h.1 kind.Less (codes "<"))
  back (v.lesseq a b) h = (tt, infix_back a b h.0 h.1 kind.LessEq (codes "<="))
  back (v.greater a b) h = (tt, infix_back a b h.0 h.1 kind.Greater (codes ">"))
  back (v.greatereq a b) h = (tt, infix_back a b h.0 h.1 kind.GreaterEq (codes ">="))
  back (v.is_eq a b) h = (tt, infix_back a b h.0 h.1 kind.EqEq (codes "=="))
  back (v.noteq a b) h = (tt, infix_back a b h.0 h.1 kind.NotEq (codes "!="))
  back (v.is_in a b) h = (tt, infix_back a b h.0 h.1 kind.In (codes "in"))
  back (v.like a ps) h = (tt, (h.0, (tt, (h.1, tt))))
  back (v.is_entity_type a t) h = (tt, (h.0, (tt, (h.1, tt))))
  back (v.is_in_entity_type a t b) h = (tt, (h.0, (tt, (h.1, (tt, (h.2, tt))))))
  back (v.extended_has_attr a first rest) h = let r = sought_back first rest h.1 in (r.0, (h.0, (tt, (r.1, tt))))
  back (v.get_attr a attr) h = (tt, (h.0, access_back attr h.1))
  back (v.contains a b) h = (tt, method_back a b (codes "contains") h.0 h.1)
  back (v.contains_all a b) h = (tt, method_back a b (codes "containsAll") h.0 h.1)
  back (v.contains_any a b) h = (tt, method_back a b (codes "containsAny") h.0 h.1)
  back (v.is_empty a) h = (tt, (h, (tt, (tt, (tt, (tt, tt))))))
  back (v.get_tag a b) h = (tt, method_back a b (codes "getTag") h.0 h.1)
  back (v.has_tag a b) h = (tt, method_back a b (codes "hasTag") h.0 h.1)
  back (v.call_extension_fn n args) h = call_back n args h
  back (v.set items) h = (tt, (tt, both_free table limit (items_todo items) (word kind.CloseBracket (codes "]") ∷ []) (listed_back items h) (tt, tt)))
  back (v.«record» fs) h = (h.1, (tt, both_free table limit (pairs fs) (word kind.CloseBrace (codes "}") ∷ []) (pairs_back fs h.0) (tt, tt)))

  -- ---- in parentheses or not

  enclosed_forth : (a : Value) → AreFree table limit (enclosed (opened_todo table a)) → AreFree table limit (opened_todo table a)
  enclosed_forth a h = first_free table limit (opened_todo table a) (close_paren ∷ []) h.1

  enclosed_back : (a : Value) → AreFree table limit (opened_todo table a) → AreFree table limit (enclosed (opened_todo table a))
  enclosed_back a h = (tt, both_free table limit (opened_todo table a) (close_paren ∷ []) h (tt, tt))

  pub placed_forth : (wanted : Sort) (a : Value) → AreFree table limit (placed_todo table wanted a) → AreFree table limit (opened_todo table a)
  placed_forth wanted a =
      cond_both (suits wanted (sort_of a)) (opened_todo table a) (enclosed (opened_todo table a)) (λ ts. AreFree table limit ts → AreFree table limit (opened_todo table a))
      (λ e h. h) (λ e h. enclosed_forth a h)

  pub placed_back : (wanted : Sort) (a : Value) → AreFree table limit (opened_todo table a) → AreFree table limit (placed_todo table wanted a)
  placed_back wanted a h =
      cond_both (suits wanted (sort_of a)) (opened_todo table a) (enclosed (opened_todo table a)) (λ ts. AreFree table limit ts)
      (λ e. h) (λ e. enclosed_back a h)

  pub negated_forth : (a : Value) → AreFree table limit (negated_todo table a) → AreFree table limit (opened_todo table a)
  negated_forth a =
      cond_both (is_natural a) (enclosed (opened_todo table a)) (placed_todo table s.member a) (λ ts. AreFree table limit ts → AreFree table limit (opened_todo table a))
      (λ e h. enclosed_forth a h) (λ e h. placed_forth s.member a h)

  pub negated_back : (a : Value) → AreFree table limit (opened_todo table a) → AreFree table limit (negated_todo table a)
  negated_back a h =
      cond_both (is_natural a) (enclosed (opened_todo table a)) (placed_todo table s.member a) (λ ts. AreFree table limit ts)
      (λ e. enclosed_back a h) (λ e. placed_back s.member a h)

  -- ---- those that stand behind others

  pub behind_forth : (k : TokenKind) (text : List ℕ) (wanted : Sort) (bs : Values) → AreFree table limit (behind_todo k text wanted bs) → AreWritable table limit bs
  unfolding IsWritable
  behind_forth k text wanted v.none h = tt
  behind_forth k text wanted (v.more b bs) h = (h.1.0, h.1.1.0)

  pub behind_back : (k : TokenKind) (text : List ℕ) (wanted : Sort) (bs : Values) → AreWritable table limit bs → AreFree table limit (behind_todo k text wanted bs)
  unfolding IsWritable
  behind_back k text wanted v.none h = tt
  behind_back k text wanted (v.more b bs) h = (tt, (h.0, (h.1, tt)))

  pub terms_forth : (ts : Terms) → AreFree table limit (terms_todo ts) → AreWritableTerms table limit ts
  unfolding IsWritable
  terms_forth v.no_terms h = tt
  terms_forth (v.term o b ts) h = (h.1.0, h.1.1.0)

  pub terms_back : (ts : Terms) → AreWritableTerms table limit ts → AreFree table limit (terms_todo ts)
  unfolding IsWritable
  terms_back v.no_terms h = tt
  terms_back (v.term o b ts) h = (op_free o, (h.0, (h.1, tt)))

  pub pairs_behind_forth : (fs : Fields) → AreFree table limit (pairs_todo fs) → AreWritableFields table limit fs
  unfolding IsWritable
  pairs_behind_forth v.no_fields h = tt
  pairs_behind_forth (v.field text a fs) h = (h.1.0, h.1.1.1.0, h.1.1.1.1.0)

  pub pairs_behind_back : (fs : Fields) → AreWritableFields table limit fs → AreFree table limit (pairs_todo fs)
  unfolding IsWritable
  pairs_behind_back v.no_fields h = tt
  pairs_behind_back (v.field text a fs) h = (tt, (h.0, (tt, (h.1, (h.2, tt)))))

-- ---- there is less to do

literal_light : (l : Literal) → all_loads (literal_todo l) + 2 < 20
literal_light (literals.Bool true) = omega arith
literal_light (literals.Bool false) = omega arith
literal_light (literals.Long (pos n)) = omega arith
literal_light (literals.Long (negsuc n)) = omega arith
literal_light (literals.String text) = omega arith
literal_light (literals.EntityUID uid) = omega arith

var_load : (x : Var) → todo_load (var_todo x) ≡ 1
var_load vars.Principal = refl
var_load vars.Action = refl
var_load vars.Resource = refl
var_load vars.Context = refl

slot_load : (x : SlotId) → todo_load (slot_todo x) ≡ 1
slot_load slots.Principal = refl
slot_load slots.Resource = refl

op_load : (o : AddOp) → todo_load (op_todo o) ≡ 1
op_load op.Plus = refl
op_load op.Minus = refl

sought_load : (first : List ℕ) (rest : List (List ℕ)) → todo_load (sought first rest) ≡ 1
sought_load first [] = refl
sought_load first (x ∷ xs) = refl

access_light : (attr : List ℕ) → all_loads (access attr) ≤ 3
access_light attr =
    cond_both (is_unreserved_identifier attr) (word kind.Dot (codes ".") ∷ identifier attr ∷ []) (word kind.OpenBracket (codes "[") ∷ string attr ∷ word kind.CloseBracket (codes "]") ∷ []) (λ ts. all_loads ts ≤ 3)
    (λ e. omega arith) (λ e. omega arith)

listed_light : (bs : Values) → all_loads (items_todo bs) ≤ loads bs
unfolding load
listed_light v.none = omega arith
listed_light (v.more a bs) = omega arith

pairs_light : (fs : Fields) → all_loads (pairs fs) ≤ field_loads fs
unfolding load
pairs_light v.no_fields = omega arith
pairs_light (v.field text a fs) = omega arith

call_light : (table : Extensions) (n : Path) (args : Values) → all_loads (call_todo table n args) + 2 < loads args + 20
unfolding load
call_light table n v.none = omega arith
call_light table n (v.more a args) =
    cond_both (calls_method table n) (method_todo a n.id (items_todo args)) (function_todo n (items_todo (v.more a args))) (λ ts. all_loads ts + 2 < loads (v.more a args) + 20)
    (λ e. omega (arith, listed_light args, all_loads-append (items_todo args) (close_paren ∷ [])))
    (λ e. omega arith)

opened_light : (table : Extensions) (a : Value) → all_loads (opened_todo table a) + 2 < load a
unfolding load
opened_light table (v.val l) = literal_light l
opened_light table (v.var x) = omega (arith, var_load x)
opened_light table (v.slot x) = omega (arith, slot_load x.id)
opened_light table (v.ite a b c) = omega arith
opened_light table (v.not a) = omega arith
opened_light table (v.neg a) = omega arith
opened_light table (v.and a b) = omega arith
opened_light table (v.or_nary a bs) = omega arith
opened_light table (v.and_naryl a bs) = omega arith
opened_light table (v.add_nary a ts) = omega arith
opened_light table (v.mul_nary a bs) = omega arith
opened_light table (v.less a b) = omega arith
opened_light table (v.lesseq a b) = omega arith
opened_light table (v.greater a b) = omega arith
opened_light table (v.greatereq a b) = omega arith
opened_light table (v.is_eq a b) = omega arith
opened_light table (v.noteq a b) = omega arith
opened_light table (v.is_in a b) = omega arith
opened_light table (v.like a ps) = omega arith
opened_light table (v.is_entity_type a t) = omega arith
opened_light table (v.is_in_entity_type a t b) = omega arith
opened_light table (v.extended_has_attr a first rest) = omega (arith, sought_load first rest)
opened_light table (v.get_attr a attr) = omega (arith, access_light attr)
opened_light table (v.contains a b) = omega arith
opened_light table (v.contains_all a b) = omega arith
opened_light table (v.contains_any a b) = omega arith
opened_light table (v.is_empty a) = omega arith
opened_light table (v.get_tag a b) = omega arith
opened_light table (v.has_tag a b) = omega arith
opened_light table (v.call_extension_fn n args) = call_light table n args
opened_light table (v.set items) = omega (arith, listed_light items, all_loads-append (items_todo items) (word kind.CloseBracket (codes "]") ∷ []))
opened_light table (v.«record» fs) = omega (arith, pairs_light fs, all_loads-append (pairs fs) (word kind.CloseBrace (codes "}") ∷ []))

enclosed_light : (table : Extensions) (a : Value) → all_loads (enclosed (opened_todo table a)) < load a
enclosed_light table a = omega (arith, opened_light table a, all_loads-append (opened_todo table a) (close_paren ∷ []))

bare_light : (table : Extensions) (a : Value) → all_loads (opened_todo table a) < load a
bare_light table a = omega (arith, opened_light table a)

pub placed_light : (table : Extensions) (wanted : Sort) (a : Value) → all_loads (placed_todo table wanted a) < load a
placed_light table wanted a =
    cond_both (suits wanted (sort_of a)) (opened_todo table a) (enclosed (opened_todo table a)) (λ ts. all_loads ts < load a)
    (λ e. bare_light table a) (λ e. enclosed_light table a)

pub negated_light : (table : Extensions) (a : Value) → all_loads (negated_todo table a) < load a
negated_light table a =
    cond_both (is_natural a) (enclosed (opened_todo table a)) (placed_todo table s.member a) (λ ts. all_loads ts < load a)
    (λ e. enclosed_light table a) (λ e. placed_light table s.member a)

pub behind_light : (k : TokenKind) (text : List ℕ) (wanted : Sort) (bs : Values) → all_loads (behind_todo k text wanted bs) < suc (loads bs)
unfolding load
behind_light k text wanted v.none = omega arith
behind_light k text wanted (v.more b bs) = omega arith

pub terms_light : (ts : Terms) → all_loads (terms_todo ts) < suc (term_loads ts)
unfolding load
terms_light v.no_terms = omega arith
terms_light (v.term o b ts) = omega (arith, op_load o)

pub pairs_behind_light : (fs : Fields) → all_loads (pairs_todo fs) < suc (field_loads fs)
unfolding load
pairs_behind_light v.no_fields = omega arith
pairs_behind_light (v.field text a fs) = omega arith
