-- What stands in the place of a part of a value are parts of it.
use Rattle.std.proofs.Common.{ℕ, true, false, List, [], ◌∷◌, ◌++◌, refl, codes, pos, negsuc, inl, inr}
use Rattle.std.proofs.lemmas.Bool.{cond_both}
use Rattle.cedar_lexer.specs.declared.token.TokenKind.{TokenKind}
use Rattle.cedar_lexer.specs.declared.token.TokenKind.TheVariants as kind
use Rattle.cedar_expressions.specs.declared.atoms.Literal.{Literal}
use Rattle.cedar_expressions.specs.declared.atoms.Literal.TheVariants as literals
use Rattle.cedar_expressions.specs.declared.atoms.Var.{Var}
use Rattle.cedar_expressions.specs.declared.atoms.Var.TheVariants as vars
use Rattle.cedar_expressions.specs.declared.atoms.SlotId.{SlotId}
use Rattle.cedar_expressions.specs.declared.atoms.SlotId.TheVariants as slots
use Rattle.cedar_expressions.specs.declared.operators.AddOp.{AddOp}
use Rattle.cedar_expressions.specs.declared.operators.AddOp.TheVariants as op
use Rattle.cedar_expressions.specs.Path.{Path, is_unreserved_identifier}
use Rattle.cedar_expressions.specs.Value as v
use Rattle.cedar_expressions.specs.Value.{Value, Values, Terms, Fields}
use Rattle.cedar_conversion.specs.strict.Extensions.{Extensions}
use Rattle.cedar_conversion.specs.strict.Strict as s
use Rattle.cedar_conversion.specs.strict.Strict.{Sort}
use Rattle.cedar_writer.specs.Parts.{values_in, terms_of, field_values, parts_in, StandsAmong, IsPartOf, inside}
use Rattle.cedar_writer.specs.Writing.{sort_of, suits, is_natural, calls_method}
use Rattle.cedar_writer.specs.machines.Pending.{Todo, word, identifier, string, StandsIn, StandIn, ArePartsOf, items_todo, pairs, access, sought, literal_todo, var_todo, slot_todo, op_todo, function_todo, method_todo, call_todo, opened_todo, enclosed, close_paren, placed_todo, negated_todo, behind_todo, terms_todo, pairs_todo}

all_parts : (whole : Value) (xs : List Value) → ((b : Value) → StandsAmong b xs → IsPartOf whole b) → ArePartsOf whole xs
all_parts whole [] f = tt
all_parts whole (x ∷ xs) f = (f x (inl refl), all_parts whole xs (λ b i. f b (inr i)))

all_inside : (whole a : Value) → IsPartOf whole a → ArePartsOf whole (parts_in a)
all_inside whole a h = all_parts whole (parts_in a) (λ b i. inside h i)

pub both_stand : (whole : Value) (xs ys : List Todo) → StandIn whole xs → StandIn whole ys → StandIn whole (xs ++ ys)
both_stand whole [] ys h k = k
both_stand whole (x ∷ xs) ys h k = (h.0, both_stand whole xs ys h.1 k)

module _ (whole : Value) where
  literal_stands : (l : Literal) → StandIn whole (literal_todo l)
  literal_stands (literals.Bool true) = (tt, tt)
  literal_stands (literals.Bool false) = (tt, tt)
  literal_stands (literals.Long (pos n)) = (tt, tt)
  literal_stands (literals.Long (negsuc n)) = (tt, (tt, tt))
  literal_stands (literals.String text) = (tt, tt)
  literal_stands (literals.EntityUID uid) = (tt, (tt, (tt, tt)))

  var_stands : (x : Var) → StandsIn whole (var_todo x)
  var_stands vars.Principal = tt
  var_stands vars.Action = tt
  var_stands vars.Resource = tt
  var_stands vars.Context = tt

  slot_stands : (x : SlotId) → StandsIn whole (slot_todo x)
  slot_stands slots.Principal = tt
  slot_stands slots.Resource = tt

  op_stands : (o : AddOp) → StandsIn whole (op_todo o)
  op_stands op.Plus = tt
  op_stands op.Minus = tt

  sought_stands : (first : List ℕ) (rest : List (List ℕ)) → StandsIn whole (sought first rest)
  sought_stands first [] = tt
  sought_stands first (x ∷ xs) = tt

  access_stands : (attr : List ℕ) → StandIn whole (access attr)
  access_stands attr =
      cond_both (is_unreserved_identifier attr) (word kind.Dot (codes ".") ∷ identifier attr ∷ []) (word kind.OpenBracket (codes "[") ∷ string attr ∷ word kind.CloseBracket (codes "]") ∷ []) (λ ts. StandIn whole ts)
      (λ e. (tt, (tt, tt)))
      (λ e. (tt, (tt, (tt, tt))))

  listed_stand : (bs : Values) → ArePartsOf whole (values_in bs) → StandIn whole (items_todo bs)
  listed_stand v.none h = tt
  listed_stand (v.more a bs) h = (h.0, (h.1, tt))

  pairs_stand : (fs : Fields) → ArePartsOf whole (field_values fs) → StandIn whole (pairs fs)
  pairs_stand v.no_fields h = tt
  pairs_stand (v.field text a fs) h = (tt, (tt, (h.0, (h.1, tt))))

  call_stands : (table : Extensions) (n : Path) (args : Values) → ArePartsOf whole (values_in args) → StandIn whole (call_todo table n args)
  call_stands table n v.none h = (tt, (tt, (tt, tt)))
  call_stands table n (v.more a args) h =
      cond_both (calls_method table n) (method_todo a n.id (items_todo args)) (function_todo n (items_todo (v.more a args))) (λ ts. StandIn whole ts)
      (λ e. (h.0, (tt, (tt, (tt, both_stand whole (items_todo args) (close_paren ∷ []) (listed_stand args h.1) (tt, tt))))))
      (λ e. (tt, (tt, (h.0, (h.1, (tt, tt))))))

  opened_stand : (table : Extensions) (a : Value) → ArePartsOf whole (parts_in a) → StandIn whole (opened_todo table a)
  opened_stand table (v.val l) h = literal_stands l
  opened_stand table (v.var x) h = (var_stands x, tt)
  opened_stand table (v.slot x) h = (slot_stands x.id, tt)
  opened_stand table (v.ite a b c) h = (tt, (h.0, (tt, (h.1.0, (tt, (h.1.1.0, tt))))))
  opened_stand table (v.not a) h = (tt, (h.0, tt))
  opened_stand table (v.neg a) h = (tt, (h.0, tt))
  opened_stand table (v.and a b) h = (h.0, (h.1.0, tt))
  opened_stand table (v.or_nary a bs) h = (h.0, (h.1, tt))
  opened_stand table (v.and_naryl a bs) h = (h.0, (h.1, tt))
  opened_stand table (v.add_nary a ts) h = (h.0, (h.1, tt))
  opened_stand table (v.mul_nary a bs) h = (h.0, (h.1, tt))
  opened_stand table (v.less a b) h = (h.0, (tt, (h.1.0, tt)))
  opened_stand table (v.lesseq a b) h = (h.0, (tt, (h.1.0, tt)))
  opened_stand table (v.greater a b) h = (h.0, (tt, (h.1.0, tt)))
  opened_stand table (v.greatereq a b) h = (h.0, (tt, (h.1.0, tt)))
  opened_stand table (v.is_eq a b) h = (h.0, (tt, (h.1.0, tt)))
  opened_stand table (v.noteq a b) h = (h.0, (tt, (h.1.0, tt)))
  opened_stand table (v.is_in a b) h = (h.0, (tt, (h.1.0, tt)))
  opened_stand table (v.like a ps) h = (h.0, (tt, (tt, tt)))
  opened_stand table (v.is_entity_type a t) h = (h.0, (tt, (tt, tt)))
  opened_stand table (v.is_in_entity_type a t b) h = (h.0, (tt, (tt, (tt, (h.1.0, tt)))))
  opened_stand table (v.extended_has_attr a first rest) h = (h.0, (tt, (sought_stands first rest, tt)))
  opened_stand table (v.get_attr a attr) h = (h.0, access_stands attr)
  opened_stand table (v.contains a b) h = (h.0, (tt, (tt, (tt, (h.1.0, (tt, tt))))))
  opened_stand table (v.contains_all a b) h = (h.0, (tt, (tt, (tt, (h.1.0, (tt, tt))))))
  opened_stand table (v.contains_any a b) h = (h.0, (tt, (tt, (tt, (h.1.0, (tt, tt))))))
  opened_stand table (v.is_empty a) h = (h.0, (tt, (tt, (tt, (tt, tt)))))
  opened_stand table (v.get_tag a b) h = (h.0, (tt, (tt, (tt, (h.1.0, (tt, tt))))))
  opened_stand table (v.has_tag a b) h = (h.0, (tt, (tt, (tt, (h.1.0, (tt, tt))))))
  opened_stand table (v.call_extension_fn n args) h = call_stands table n args h
  opened_stand table (v.set items) h = (tt, both_stand whole (items_todo items) (word kind.CloseBracket (codes "]") ∷ []) (listed_stand items h) (tt, tt))
  opened_stand table (v.«record» fs) h = (tt, both_stand whole (pairs fs) (word kind.CloseBrace (codes "}") ∷ []) (pairs_stand fs h) (tt, tt))

  enclosed_stand : (ts : List Todo) → StandIn whole ts → StandIn whole (enclosed ts)
  enclosed_stand ts h = (tt, both_stand whole ts (close_paren ∷ []) h (tt, tt))

pub placed_parts : (table : Extensions) (wanted : Sort) (a whole : Value) → IsPartOf whole a → StandIn whole (placed_todo table wanted a)
placed_parts table wanted a whole h =
    let i = opened_stand whole table a (all_inside whole a h) in
    cond_both (suits wanted (sort_of a)) (opened_todo table a) (enclosed (opened_todo table a)) (λ ts. StandIn whole ts)
    (λ e. i) (λ e. enclosed_stand whole (opened_todo table a) i)

pub negated_parts : (table : Extensions) (a whole : Value) → IsPartOf whole a → StandIn whole (negated_todo table a)
negated_parts table a whole h =
    cond_both (is_natural a) (enclosed (opened_todo table a)) (placed_todo table s.member a) (λ ts. StandIn whole ts)
    (λ e. enclosed_stand whole (opened_todo table a) (opened_stand whole table a (all_inside whole a h))) (λ e. placed_parts table s.member a whole h)

pub behind_parts : (k : TokenKind) (text : List ℕ) (wanted : Sort) (bs : Values) (whole : Value) → ArePartsOf whole (values_in bs) → StandIn whole (behind_todo k text wanted bs)
behind_parts k text wanted v.none whole h = tt
behind_parts k text wanted (v.more b bs) whole h = (tt, (h.0, (h.1, tt)))

pub terms_parts : (ts : Terms) (whole : Value) → ArePartsOf whole (terms_of ts) → StandIn whole (terms_todo ts)
terms_parts v.no_terms whole h = tt
terms_parts (v.term o b ts) whole h = (op_stands whole o, (h.0, (h.1, tt)))

pub pairs_parts : (fs : Fields) (whole : Value) → ArePartsOf whole (field_values fs) → StandIn whole (pairs_todo fs)
pairs_parts v.no_fields whole h = tt
pairs_parts (v.field text a fs) whole h = (tt, (tt, (tt, (h.0, (h.1, tt)))))
