-- What a value is written as doesn't depend on the places of its slots.
use Rattle.std.proofs.Common.{◌≡◌, ℕ, List, [], ◌∷◌, codes, refl, ap, ap₂, ◌∙◌}
use Rattle.json.specs.Json.{Json, array, object, string, Items, item, Members, member, no_members}
use Rattle.cedar_expressions.specs.Path.{name_text}
use Rattle.cedar_expressions.specs.Value as v
use Rattle.cedar_expressions.specs.Value.{Value, Values, Terms, Fields}
use Rattle.cedar_expressions.specs.WithoutPlaces.{without_places, all_without_places, terms_without_places, fields_without_places}
use Rattle.cedar_json_writer.specs.Forms.{value_json, chain, sum, items_json, members_json, arg, two, beside, wrapped, sum_key, pattern_items, get_json, has_json, sought_json}
use Rattle.cedar_json_writer.specs.FunctionKeys.{keys_called, keys_in_all, keys_in_terms, keys_in_fields, key_before, as_often}

mutual
  unfolding value_json without_places

  pub same_form : (a : Value) → value_json (without_places a) ≡ value_json a
  same_form (v.val literal) = refl
  same_form (v.var x) = refl
  same_form (v.slot x) = refl
  same_form (v.ite a b c) =
      ap₂ (λ (j k : Json). wrapped (codes "if-then-else") (object (member (codes "if") j (member (codes "then") k (member (codes "else") (value_json (without_places c)) no_members))))) (same_form a) (same_form b)
      ∙ ap (λ (k : Json). wrapped (codes "if-then-else") (object (member (codes "if") (value_json a) (member (codes "then") (value_json b) (member (codes "else") k no_members))))) (same_form c)
  same_form (v.not a) = ap (arg (codes "!")) (same_form a)
  same_form (v.neg a) = ap (arg (codes "neg")) (same_form a)
  same_form (v.is_empty a) = ap (arg (codes "isEmpty")) (same_form a)
  same_form (v.and a b) = ap₂ (two (codes "&&")) (same_form a) (same_form b)
  same_form (v.less a b) = ap₂ (two (codes "<")) (same_form a) (same_form b)
  same_form (v.lesseq a b) = ap₂ (two (codes "<=")) (same_form a) (same_form b)
  same_form (v.greater a b) = ap₂ (two (codes ">")) (same_form a) (same_form b)
  same_form (v.greatereq a b) = ap₂ (two (codes ">=")) (same_form a) (same_form b)
  same_form (v.is_eq a b) = ap₂ (two (codes "==")) (same_form a) (same_form b)
  same_form (v.noteq a b) = ap₂ (two (codes "!=")) (same_form a) (same_form b)
  same_form (v.is_in a b) = ap₂ (two (codes "in")) (same_form a) (same_form b)
  same_form (v.contains a b) = ap₂ (two (codes "contains")) (same_form a) (same_form b)
  same_form (v.contains_all a b) = ap₂ (two (codes "containsAll")) (same_form a) (same_form b)
  same_form (v.contains_any a b) = ap₂ (two (codes "containsAny")) (same_form a) (same_form b)
  same_form (v.get_tag a b) = ap₂ (two (codes "getTag")) (same_form a) (same_form b)
  same_form (v.has_tag a b) = ap₂ (two (codes "hasTag")) (same_form a) (same_form b)
  same_form (v.or_nary a bs) = ap (λ (j : Json). chain (codes "||") j (all_without_places bs)) (same_form a) ∙ same_chain (codes "||") (value_json a) bs
  same_form (v.and_naryl a bs) = ap (λ (j : Json). chain (codes "&&") j (all_without_places bs)) (same_form a) ∙ same_chain (codes "&&") (value_json a) bs
  same_form (v.mul_nary a bs) = ap (λ (j : Json). chain (codes "*") j (all_without_places bs)) (same_form a) ∙ same_chain (codes "*") (value_json a) bs
  same_form (v.add_nary a ts) = ap (λ (j : Json). sum j (terms_without_places ts)) (same_form a) ∙ same_sum (value_json a) ts
  same_form (v.like a pattern) = ap (λ (j : Json). beside (codes "like") j (codes "pattern") (array (pattern_items [] pattern))) (same_form a)
  same_form (v.is_entity_type a t) = ap (λ (j : Json). beside (codes "is") j (codes "entity_type") (string (name_text t.name))) (same_form a)
  same_form (v.is_in_entity_type a t b) = ap₂ (λ (j k : Json). wrapped (codes "is") (object (member (codes "left") j (member (codes "entity_type") (string (name_text t.name)) (member (codes "in") k no_members))))) (same_form a) (same_form b)
  same_form (v.extended_has_attr a first rest) = ap (λ (j : Json). sought_json (has_json j first) (get_json j first) rest) (same_form a)
  same_form (v.get_attr a attr) = ap (λ (j : Json). get_json j attr) (same_form a)
  same_form (v.call_extension_fn name args) = ap (λ (js : Items). wrapped (name_text name) (array js)) (same_items args)
  same_form (v.set items) = ap (λ (js : Items). wrapped (codes "Set") (array js)) (same_items items)
  same_form (v.«record» pairs) = ap (λ (ms : Members). wrapped (codes "Record") (object ms)) (same_members pairs)

  same_chain : (key : List ℕ) (j : Json) (bs : Values) → chain key j (all_without_places bs) ≡ chain key j bs
  same_chain key j v.none = refl
  same_chain key j (v.more b bs) = ap (λ (k : Json). chain key (two key j k) (all_without_places bs)) (same_form b) ∙ same_chain key (two key j (value_json b)) bs

  same_sum : (j : Json) (ts : Terms) → sum j (terms_without_places ts) ≡ sum j ts
  same_sum j v.no_terms = refl
  same_sum j (v.term o b ts) = ap (λ (k : Json). sum (two (sum_key o) j k) (terms_without_places ts)) (same_form b) ∙ same_sum (two (sum_key o) j (value_json b)) ts

  same_items : (bs : Values) → items_json (all_without_places bs) ≡ items_json bs
  same_items v.none = refl
  same_items (v.more a bs) = ap₂ item (same_form a) (same_items bs)

  same_members : (fs : Fields) → members_json (fields_without_places fs) ≡ members_json fs
  same_members v.no_fields = refl
  same_members (v.field key a fs) = ap₂ (member key) (same_form a) (same_members fs)

often_same : {A : Type 0} (texts : List (List ℕ)) (f g : A → A) (x : A) → ((y : A) → f y ≡ g y) → as_often texts f x ≡ as_often texts g x
often_same [] f g x same = refl
often_same (text ∷ texts) f g x same = same (as_often texts f x) ∙ ap g (often_same texts f g x same)

mutual
  unfolding keys_called without_places

  pub same_keys : (a : Value) (others : List (List ℕ)) → keys_called (without_places a) others ≡ keys_called a others
  same_keys (v.val literal) others = refl
  same_keys (v.var x) others = refl
  same_keys (v.slot x) others = refl
  same_keys (v.ite a b c) others =
      same_keys a (keys_called (without_places b) (keys_called (without_places c) others))
      ∙ ap (λ xs. keys_called a xs) (same_keys b (keys_called (without_places c) others) ∙ ap (λ xs. keys_called b xs) (same_keys c others))
  same_keys (v.not a) others = same_keys a others
  same_keys (v.neg a) others = same_keys a others
  same_keys (v.is_empty a) others = same_keys a others
  same_keys (v.and a b) others = same_keys a (keys_called (without_places b) others) ∙ ap (λ xs. keys_called a xs) (same_keys b others)
  same_keys (v.less a b) others = same_keys a (keys_called (without_places b) others) ∙ ap (λ xs. keys_called a xs) (same_keys b others)
  same_keys (v.lesseq a b) others = same_keys a (keys_called (without_places b) others) ∙ ap (λ xs. keys_called a xs) (same_keys b others)
  same_keys (v.greater a b) others = same_keys a (keys_called (without_places b) others) ∙ ap (λ xs. keys_called a xs) (same_keys b others)
  same_keys (v.greatereq a b) others = same_keys a (keys_called (without_places b) others) ∙ ap (λ xs. keys_called a xs) (same_keys b others)
  same_keys (v.is_eq a b) others = same_keys a (keys_called (without_places b) others) ∙ ap (λ xs. keys_called a xs) (same_keys b others)
  same_keys (v.noteq a b) others = same_keys a (keys_called (without_places b) others) ∙ ap (λ xs. keys_called a xs) (same_keys b others)
  same_keys (v.is_in a b) others = same_keys a (keys_called (without_places b) others) ∙ ap (λ xs. keys_called a xs) (same_keys b others)
  same_keys (v.contains a b) others = same_keys a (keys_called (without_places b) others) ∙ ap (λ xs. keys_called a xs) (same_keys b others)
  same_keys (v.contains_all a b) others = same_keys a (keys_called (without_places b) others) ∙ ap (λ xs. keys_called a xs) (same_keys b others)
  same_keys (v.contains_any a b) others = same_keys a (keys_called (without_places b) others) ∙ ap (λ xs. keys_called a xs) (same_keys b others)
  same_keys (v.get_tag a b) others = same_keys a (keys_called (without_places b) others) ∙ ap (λ xs. keys_called a xs) (same_keys b others)
  same_keys (v.has_tag a b) others = same_keys a (keys_called (without_places b) others) ∙ ap (λ xs. keys_called a xs) (same_keys b others)
  same_keys (v.or_nary a bs) others = same_keys a (keys_in_all (all_without_places bs) others) ∙ ap (λ xs. keys_called a xs) (same_keys_in bs others)
  same_keys (v.and_naryl a bs) others = same_keys a (keys_in_all (all_without_places bs) others) ∙ ap (λ xs. keys_called a xs) (same_keys_in bs others)
  same_keys (v.mul_nary a bs) others = same_keys a (keys_in_all (all_without_places bs) others) ∙ ap (λ xs. keys_called a xs) (same_keys_in bs others)
  same_keys (v.add_nary a ts) others = same_keys a (keys_in_terms (terms_without_places ts) others) ∙ ap (λ xs. keys_called a xs) (same_in_terms ts others)
  same_keys (v.like a pattern) others = same_keys a others
  same_keys (v.is_entity_type a t) others = same_keys a others
  same_keys (v.is_in_entity_type a t b) others = same_keys a (keys_called (without_places b) others) ∙ ap (λ xs. keys_called a xs) (same_keys b others)
  same_keys (v.extended_has_attr a first rest) others =
      same_keys a (as_often rest (λ xs. keys_called (without_places a) xs) others)
      ∙ ap (λ xs. keys_called a xs) (often_same rest (λ xs. keys_called (without_places a) xs) (λ xs. keys_called a xs) others (λ xs. same_keys a xs))
  same_keys (v.get_attr a attr) others = same_keys a others
  same_keys (v.call_extension_fn name args) others = ap (key_before (name_text name)) (same_keys_in args others)
  same_keys (v.set items) others = same_keys_in items others
  same_keys (v.«record» pairs) others = same_in_fields pairs others

  same_keys_in : (bs : Values) (others : List (List ℕ)) → keys_in_all (all_without_places bs) others ≡ keys_in_all bs others
  same_keys_in v.none others = refl
  same_keys_in (v.more a bs) others = same_keys a (keys_in_all (all_without_places bs) others) ∙ ap (λ xs. keys_called a xs) (same_keys_in bs others)

  same_in_terms : (ts : Terms) (others : List (List ℕ)) → keys_in_terms (terms_without_places ts) others ≡ keys_in_terms ts others
  same_in_terms v.no_terms others = refl
  same_in_terms (v.term o a ts) others = same_keys a (keys_in_terms (terms_without_places ts) others) ∙ ap (λ xs. keys_called a xs) (same_in_terms ts others)

  same_in_fields : (fs : Fields) (others : List (List ℕ)) → keys_in_fields (fields_without_places fs) others ≡ keys_in_fields fs others
  same_in_fields v.no_fields others = refl
  same_in_fields (v.field key a fs) others = same_keys a (keys_in_fields (fields_without_places fs) others) ∙ ap (λ xs. keys_called a xs) (same_in_fields fs others)
