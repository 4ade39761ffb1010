-- What was read of what was written is written as the same, and read of that as itself.
use Rattle.std.proofs.Common.{◌≡◌, ℕ, List, [], ◌∷◌, codes, inl, inr, refl, ap, ap₂, sym, ◌∙◌}
use Rattle.json.specs.Json.{Json, array, object, string, Items, item, Members, member, no_members}
use Rattle.cedar_expressions.specs.declared.operators.AddOp.{AddOp}
use Rattle.cedar_expressions.specs.Path.{name_text}
use Rattle.cedar_expressions.specs.Value as v
use Rattle.cedar_expressions.specs.Value.{Value, Values, Terms, Fields}
use Rattle.cedar_json_writer.specs.Forms.{value_json, chain, sum, items_json, members_json, arg, two, beside, wrapped, sum_key, pattern_items, get_json, has_json, sought_json}
use Rattle.cedar_json.specs.AsRead.{as_read, chain_as_read, sum_as_read, all_as_read, fields_as_read, sought_with}
use Rattle.cedar_json.specs.Readings.{and_with, or_with, mul_with, add_with, with_operand, with_term}
use Rattle.cedar_json.proofs.Joining.{Joins, Adds, or_joins, and_joins, mul_joins, add_joins}

-- ---- an operand more

chain_last : (f : Value → Value → Value) (a : Value) (bs : Values) (b : Value) → chain_as_read f a (with_operand bs b) ≡ f (chain_as_read f a bs) (as_read b)
unfolding as_read
chain_last f a v.none b = refl
chain_last f a (v.more x xs) b = chain_last f (f a (as_read x)) xs b

sum_last : (a : Value) (ts : Terms) (o : AddOp) (b : Value) → sum_as_read a (with_term ts o b) ≡ add_with o (sum_as_read a ts) (as_read b)
unfolding as_read
sum_last a v.no_terms o b = refl
sum_last a (v.term p x ts) o b = sum_last (add_with p a (as_read x)) ts o b

form_last : (key : List ℕ) (j : Json) (bs : Values) (b : Value) → chain key j (with_operand bs b) ≡ two key (chain key j bs) (value_json b)
unfolding value_json
form_last key j v.none b = refl
form_last key j (v.more x xs) b = form_last key (two key j (value_json x)) xs b

sum_form_last : (j : Json) (ts : Terms) (o : AddOp) (b : Value) → sum j (with_term ts o b) ≡ two (sum_key o) (sum j ts) (value_json b)
unfolding value_json
sum_form_last j v.no_terms o b = refl
sum_form_last j (v.term p x ts) o b = sum_form_last (two (sum_key p) j (value_json x)) ts o b

-- ---- operators that join

-- an operator of operands of any number: its values, how an operand is joined, and its key
record Operator (all : Value → Values → Value) (join : Value → Value → Value) (key : List ℕ) : Type 0 where
  joins : (p : Value) → Joins all join p
  more : (a : Value) (bs : Values) (q : Value) → join (all a bs) q ≡ all a (with_operand bs q)
  read : (a : Value) (bs : Values) → as_read (all a bs) ≡ chain_as_read join (as_read a) bs
  form : (a : Value) (bs : Values) → value_json (all a bs) ≡ chain key (value_json a) bs

or_operator : Operator v.or_nary or_with (codes "||")
unfolding as_read value_json
or_operator = record { joins = or_joins; more = λ a bs q. refl; read = λ a bs. refl; form = λ a bs. refl }

and_operator : Operator v.and_naryl and_with (codes "&&")
unfolding as_read value_json
and_operator = record { joins = and_joins; more = λ a bs q. refl; read = λ a bs. refl; form = λ a bs. refl }

mul_operator : Operator v.mul_nary mul_with (codes "*")
unfolding as_read value_json
mul_operator = record { joins = mul_joins; more = λ a bs q. refl; read = λ a bs. refl; form = λ a bs. refl }

module _ {all : Value → Values → Value} {join : Value → Value → Value} {key : List ℕ} (op : Operator all join key) where
  joined_fixed : (p q : Value) → Joins all join p → as_read p ≡ p → as_read q ≡ q → as_read (join p q) ≡ join p q
  unfolding as_read
  joined_fixed p q (inl (a, bs, e)) hp hq =
      let whole : chain_as_read join (as_read a) bs ≡ all a bs = sym (op.read a bs) ∙ ap as_read (sym e) ∙ hp ∙ e in
      ap (λ (x : Value). as_read (join x q)) e
      ∙ ap as_read (op.more a bs q)
      ∙ op.read a (with_operand bs q)
      ∙ chain_last join (as_read a) bs q
      ∙ ap₂ join whole hq
      ∙ ap (λ (x : Value). join x q) (sym e)
  joined_fixed p q (inr h) hp hq = ap as_read (h q) ∙ op.read p (v.more q v.none) ∙ ap₂ join hp hq

  joined_form : (p q : Value) → Joins all join p → value_json (join p q) ≡ two key (value_json p) (value_json q)
  unfolding value_json
  joined_form p q (inl (a, bs, e)) =
      ap (λ (x : Value). value_json (join x q)) e
      ∙ ap value_json (op.more a bs q)
      ∙ op.form a (with_operand bs q)
      ∙ form_last key (value_json a) bs q
      ∙ ap (λ (j : Json). two key j (value_json q)) (sym (op.form a bs) ∙ ap value_json (sym e))
  joined_form p q (inr h) = ap value_json (h q) ∙ op.form p (v.more q v.none)

added_fixed : (o : AddOp) (p q : Value) → Adds p → as_read p ≡ p → as_read q ≡ q → as_read (add_with o p q) ≡ add_with o p q
unfolding as_read
added_fixed o p q (inl (a, ts, e)) hp hq =
    let whole : sum_as_read (as_read a) ts ≡ v.add_nary a ts = ap as_read (sym e) ∙ hp ∙ e in
    ap (λ (x : Value). as_read (add_with o x q)) e
    ∙ sum_last (as_read a) ts o q
    ∙ ap₂ (add_with o) whole hq
    ∙ ap (λ (x : Value). add_with o x q) (sym e)
added_fixed o p q (inr h) hp hq = ap as_read (h o q) ∙ ap₂ (add_with o) hp hq

added_form : (o : AddOp) (p q : Value) → Adds p → value_json (add_with o p q) ≡ two (sum_key o) (value_json p) (value_json q)
unfolding value_json
added_form o p q (inl (a, ts, e)) =
    ap (λ (x : Value). value_json (add_with o x q)) e
    ∙ sum_form_last (value_json a) ts o q
    ∙ ap (λ (j : Json). two (sum_key o) j (value_json q)) (ap value_json (sym e))
added_form o p q (inr h) = ap value_json (h o q)

-- ---- `has` of several attributes

sought_fixed : (asked a : Value) (attrs : List (List ℕ)) → as_read asked ≡ asked → as_read a ≡ a → as_read (sought_with asked a attrs) ≡ sought_with asked a attrs
unfolding as_read
sought_fixed asked a [] hq ha = hq
sought_fixed asked a (attr ∷ attrs) hq ha =
    let question : Value = v.extended_has_attr a attr [] in
    sought_fixed (and_with asked question) (v.get_attr a attr) attrs
    (joined_fixed and_operator asked question (and_joins asked) hq (ap (λ (x : Value). v.extended_has_attr x attr []) ha))
    (ap (λ (x : Value). v.get_attr x attr) ha)

sought_form : (asked a : Value) (attrs : List (List ℕ)) → value_json (sought_with asked a attrs) ≡ sought_json (value_json asked) (value_json a) attrs
unfolding value_json
sought_form asked a [] = refl
sought_form asked a (attr ∷ attrs) =
    let question : Value = v.extended_has_attr a attr [] in
    sought_form (and_with asked question) (v.get_attr a attr) attrs
    ∙ ap (λ (j : Json). sought_json j (get_json (value_json a) attr) attrs) (joined_form and_operator asked question (and_joins asked))

-- ---- twice

mutual
  unfolding as_read

  pub twice : (a : Value) → as_read (as_read a) ≡ as_read a
  twice (v.val literal) = refl
  twice (v.var x) = refl
  twice (v.slot x) = refl
  twice (v.ite a b c) = ap₂ (λ (x y : Value). v.ite x y (as_read (as_read c))) (twice a) (twice b) ∙ ap (v.ite (as_read a) (as_read b)) (twice c)
  twice (v.not a) = ap v.not (twice a)
  twice (v.neg a) = ap v.neg (twice a)
  twice (v.and a b) = joined_fixed and_operator (as_read a) (as_read b) (and_joins (as_read a)) (twice a) (twice b)
  twice (v.or_nary a bs) = chain_twice or_operator (as_read a) bs (twice a)
  twice (v.and_naryl a bs) = chain_twice and_operator (as_read a) bs (twice a)
  twice (v.mul_nary a bs) = chain_twice mul_operator (as_read a) bs (twice a)
  twice (v.add_nary a ts) = sum_twice (as_read a) ts (twice a)
  twice (v.less a b) = ap₂ v.less (twice a) (twice b)
  twice (v.lesseq a b) = ap₂ v.lesseq (twice a) (twice b)
  twice (v.greater a b) = ap₂ v.greater (twice a) (twice b)
  twice (v.greatereq a b) = ap₂ v.greatereq (twice a) (twice b)
  twice (v.is_eq a b) = ap₂ v.is_eq (twice a) (twice b)
  twice (v.noteq a b) = ap₂ v.noteq (twice a) (twice b)
  twice (v.is_in a b) = ap₂ v.is_in (twice a) (twice b)
  twice (v.contains a b) = ap₂ v.contains (twice a) (twice b)
  twice (v.contains_all a b) = ap₂ v.contains_all (twice a) (twice b)
  twice (v.contains_any a b) = ap₂ v.contains_any (twice a) (twice b)
  twice (v.get_tag a b) = ap₂ v.get_tag (twice a) (twice b)
  twice (v.has_tag a b) = ap₂ v.has_tag (twice a) (twice b)
  twice (v.like a pattern) = ap (λ (x : Value). v.like x pattern) (twice a)
  twice (v.is_entity_type a t) = ap (λ (x : Value). v.is_entity_type x t) (twice a)
  twice (v.is_in_entity_type a t b) = ap₂ (λ (x y : Value). v.is_in_entity_type x t y) (twice a) (twice b)
  twice (v.extended_has_attr a first rest) = sought_fixed (v.extended_has_attr (as_read a) first []) (v.get_attr (as_read a) first) rest (ap (λ (x : Value). v.extended_has_attr x first []) (twice a)) (ap (λ (x : Value). v.get_attr x first) (twice a))
  twice (v.get_attr a attr) = ap (λ (x : Value). v.get_attr x attr) (twice a)
  twice (v.is_empty a) = ap v.is_empty (twice a)
  twice (v.call_extension_fn name args) = ap (v.call_extension_fn name) (all_twice args)
  twice (v.set items) = ap v.set (all_twice items)
  twice (v.«record» pairs) = ap v.«record» (fields_twice pairs)

  chain_twice : {all : Value → Values → Value} {join : Value → Value → Value} {key : List ℕ} → Operator all join key → (p : Value) (bs : Values) → as_read p ≡ p → as_read (chain_as_read join p bs) ≡ chain_as_read join p bs
  chain_twice op p v.none h = h
  chain_twice {all} {join} op p (v.more b bs) h = chain_twice op (join p (as_read b)) bs (joined_fixed op p (as_read b) (op.joins p) h (twice b))

  sum_twice : (p : Value) (ts : Terms) → as_read p ≡ p → as_read (sum_as_read p ts) ≡ sum_as_read p ts
  sum_twice p v.no_terms h = h
  sum_twice p (v.term o b ts) h = sum_twice (add_with o p (as_read b)) ts (added_fixed o p (as_read b) (add_joins p) h (twice b))

  all_twice : (bs : Values) → all_as_read (all_as_read bs) ≡ all_as_read bs
  all_twice v.none = refl
  all_twice (v.more a bs) = ap₂ v.more (twice a) (all_twice bs)

  fields_twice : (fs : Fields) → fields_as_read (fields_as_read fs) ≡ fields_as_read fs
  fields_twice v.no_fields = refl
  fields_twice (v.field key a fs) = ap₂ (v.field key) (twice a) (fields_twice fs)

-- ---- the same form

mutual
  unfolding as_read value_json

  pub same_form : (a : Value) → value_json (as_read a) ≡ value_json a
  same_form (v.val literal) = refl
  same_form (v.var x) = refl
  same_form (v.slot x) = refl
  same_form (v.ite a b c) =
      ap₂ (λ (j k : Json). wrapped (codes "if-then-else") (object (member (codes "if") j (member (codes "then") k (member (codes "else") (value_json (as_read c)) no_members))))) (same_form a) (same_form b)
      ∙ ap (λ (k : Json). wrapped (codes "if-then-else") (object (member (codes "if") (value_json a) (member (codes "then") (value_json b) (member (codes "else") k no_members))))) (same_form c)
  same_form (v.not a) = ap (arg (codes "!")) (same_form a)
  same_form (v.neg a) = ap (arg (codes "neg")) (same_form a)
  same_form (v.is_empty a) = ap (arg (codes "isEmpty")) (same_form a)
  same_form (v.and a b) = joined_form and_operator (as_read a) (as_read b) (and_joins (as_read a)) ∙ ap₂ (two (codes "&&")) (same_form a) (same_form b)
  same_form (v.or_nary a bs) = chain_form or_operator (as_read a) (value_json a) bs (same_form a)
  same_form (v.and_naryl a bs) = chain_form and_operator (as_read a) (value_json a) bs (same_form a)
  same_form (v.mul_nary a bs) = chain_form mul_operator (as_read a) (value_json a) bs (same_form a)
  same_form (v.add_nary a ts) = sum_form (as_read a) (value_json a) ts (same_form a)
  same_form (v.less a b) = ap₂ (two (codes "<")) (same_form a) (same_form b)
  same_form (v.lesseq a b) = ap₂ (two (codes "<=")) (same_form a) (same_form b)
  same_form (v.greater a b) = ap₂ (two (codes ">")) (same_form a) (same_form b)
  same_form (v.greatereq a b) = ap₂ (two (codes ">=")) (same_form a) (same_form b)
  same_form (v.is_eq a b) = ap₂ (two (codes "==")) (same_form a) (same_form b)
  same_form (v.noteq a b) = ap₂ (two (codes "!=")) (same_form a) (same_form b)
  same_form (v.is_in a b) = ap₂ (two (codes "in")) (same_form a) (same_form b)
  same_form (v.contains a b) = ap₂ (two (codes "contains")) (same_form a) (same_form b)
  same_form (v.contains_all a b) = ap₂ (two (codes "containsAll")) (same_form a) (same_form b)
  same_form (v.contains_any a b) = ap₂ (two (codes "containsAny")) (same_form a) (same_form b)
  same_form (v.get_tag a b) = ap₂ (two (codes "getTag")) (same_form a) (same_form b)
  same_form (v.has_tag a b) = ap₂ (two (codes "hasTag")) (same_form a) (same_form b)
  same_form (v.like a pattern) = ap (λ (j : Json). beside (codes "like") j (codes "pattern") (array (pattern_items [] pattern))) (same_form a)
  same_form (v.is_entity_type a t) = ap (λ (j : Json). beside (codes "is") j (codes "entity_type") (string (name_text t.name))) (same_form a)
  same_form (v.is_in_entity_type a t b) = ap₂ (λ (j k : Json). wrapped (codes "is") (object (member (codes "left") j (member (codes "entity_type") (string (name_text t.name)) (member (codes "in") k no_members))))) (same_form a) (same_form b)
  same_form (v.extended_has_attr a first rest) =
      sought_form (v.extended_has_attr (as_read a) first []) (v.get_attr (as_read a) first) rest
      ∙ ap (λ (j : Json). sought_json (has_json j first) (get_json j first) rest) (same_form a)
  same_form (v.get_attr a attr) = ap (λ (j : Json). get_json j attr) (same_form a)
  same_form (v.call_extension_fn name args) = ap (λ (js : Items). wrapped (name_text name) (array js)) (same_items args)
  same_form (v.set items) = ap (λ (js : Items). wrapped (codes "Set") (array js)) (same_items items)
  same_form (v.«record» pairs) = ap (λ (ms : Members). wrapped (codes "Record") (object ms)) (same_members pairs)

  chain_form : {all : Value → Values → Value} {join : Value → Value → Value} {key : List ℕ} → Operator all join key → (p : Value) (j : Json) (bs : Values) → value_json p ≡ j → value_json (chain_as_read join p bs) ≡ chain key j bs
  chain_form op p j v.none h = h
  chain_form {all} {join} {key} op p j (v.more b bs) h =
      chain_form op (join p (as_read b)) (two key j (value_json b)) bs (joined_form op p (as_read b) (op.joins p) ∙ ap₂ (two key) h (same_form b))

  sum_form : (p : Value) (j : Json) (ts : Terms) → value_json p ≡ j → value_json (sum_as_read p ts) ≡ sum j ts
  sum_form p j v.no_terms h = h
  sum_form p j (v.term o b ts) h =
      sum_form (add_with o p (as_read b)) (two (sum_key o) j (value_json b)) ts (added_form o p (as_read b) (add_joins p) ∙ ap₂ (two (sum_key o)) h (same_form b))

  same_items : (bs : Values) → items_json (all_as_read bs) ≡ items_json bs
  same_items v.none = refl
  same_items (v.more a bs) = ap₂ item (same_form a) (same_items bs)

  same_members : (fs : Fields) → members_json (fields_as_read fs) ≡ members_json fs
  same_members v.no_fields = refl
  same_members (v.field key a fs) = ap₂ (member key) (same_form a) (same_members fs)
