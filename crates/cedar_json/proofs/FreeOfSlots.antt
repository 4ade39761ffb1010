-- What is read of a value without slots has none.
use Rattle.std.proofs.Common.{◌≡◌, ℕ, List, [], ◌∷◌, ◌++◌, inl, inr, refl, ap, ap₂, sym, ◌∙◌}
use Rattle.cedar_expressions.specs.declared.operators.AddOp.{AddOp}
use Rattle.cedar_expressions.specs.Slots.{Slots, slots_of, slots_of_all, slots_of_terms, slots_of_fields}
use Rattle.cedar_expressions.specs.Value as v
use Rattle.cedar_expressions.specs.Value.{Value, Values, Terms, Fields}
use Rattle.cedar_json.specs.AsRead.{as_read, chain_as_read, sum_as_read, all_as_read, fields_as_read, sought_with}
use Rattle.cedar_json.specs.Readings.{and_with, or_with, mul_with, add_with, with_operand, with_term}
use Rattle.cedar_json.proofs.Joining.{Joins, Adds, or_joins, and_joins, mul_joins, add_joins}

nil_both : (xs ys : Slots) → xs ++ ys ≡ [] → (xs ≡ []) × (ys ≡ [])
nil_both [] ys e = (refl, e)
nil_both (x ∷ xs) ys e = cc

none_in : (xs ys : Slots) → xs ≡ [] → ys ≡ [] → xs ++ ys ≡ []
none_in xs ys e h = ap₂ (λ (p q : Slots). p ++ q) e h

last_free : (bs : Values) (q : Value) → slots_of_all bs ≡ [] → slots_of q ≡ [] → slots_of_all (with_operand bs q) ≡ []
unfolding slots_of
last_free v.none q e h = none_in (slots_of q) [] h refl
last_free (v.more x xs) q e h = let s = nil_both (slots_of x) (slots_of_all xs) e in none_in _ _ s.0 (last_free xs q s.1 h)

last_term_free : (ts : Terms) (o : AddOp) (q : Value) → slots_of_terms ts ≡ [] → slots_of q ≡ [] → slots_of_terms (with_term ts o q) ≡ []
unfolding slots_of
last_term_free v.no_terms o q e h = none_in (slots_of q) [] h refl
last_term_free (v.term p x ts) o q e h = let s = nil_both (slots_of x) (slots_of_terms ts) e in none_in _ _ s.0 (last_term_free ts o q s.1 h)

-- an operator of operands of any number
record Operator (all : Value → Values → Value) (join : Value → Value → Value) : Type 0 where
  joins : (p : Value) → Joins all join p
  more : (a : Value) (bs : Values) (q : Value) → join (all a bs) q ≡ all a (with_operand bs q)
  slots : (a : Value) (bs : Values) → slots_of (all a bs) ≡ slots_of a ++ slots_of_all bs

or_operator : Operator v.or_nary or_with
unfolding slots_of
or_operator = record { joins = or_joins; more = λ a bs q. refl; slots = λ a bs. refl }

and_operator : Operator v.and_naryl and_with
unfolding slots_of
and_operator = record { joins = and_joins; more = λ a bs q. refl; slots = λ a bs. refl }

mul_operator : Operator v.mul_nary mul_with
unfolding slots_of
mul_operator = record { joins = mul_joins; more = λ a bs q. refl; slots = λ a bs. refl }

joined_free : {all : Value → Values → Value} {join : Value → Value → Value} → Operator all join → (p q : Value) → Joins all join p → slots_of p ≡ [] → slots_of q ≡ [] → slots_of (join p q) ≡ []
unfolding slots_of
joined_free {all} {join} op p q (inl (a, bs, e)) hp hq =
    let s = nil_both (slots_of a) (slots_of_all bs) (sym (op.slots a bs) ∙ ap slots_of (sym e) ∙ hp) in
    ap (λ (x : Value). slots_of (join x q)) e
    ∙ ap slots_of (op.more a bs q)
    ∙ op.slots a (with_operand bs q)
    ∙ none_in _ _ s.0 (last_free bs q s.1 hq)
joined_free op p q (inr h) hp hq = ap slots_of (h q) ∙ op.slots p (v.more q v.none) ∙ none_in _ _ hp (none_in (slots_of q) [] hq refl)

added_free : (o : AddOp) (p q : Value) → Adds p → slots_of p ≡ [] → slots_of q ≡ [] → slots_of (add_with o p q) ≡ []
unfolding slots_of
added_free o p q (inl (a, ts, e)) hp hq =
    let s = nil_both (slots_of a) (slots_of_terms ts) (ap slots_of (sym e) ∙ hp) in
    ap (λ (x : Value). slots_of (add_with o x q)) e
    ∙ none_in _ _ s.0 (last_term_free ts o q s.1 hq)
added_free o p q (inr h) hp hq = ap slots_of (h o q) ∙ none_in _ _ hp (none_in (slots_of q) [] hq refl)

sought_free : (asked a : Value) (attrs : List (List ℕ)) → slots_of asked ≡ [] → slots_of a ≡ [] → slots_of (sought_with asked a attrs) ≡ []
unfolding slots_of
sought_free asked a [] hq ha = hq
sought_free asked a (attr ∷ attrs) hq ha =
    sought_free (and_with asked (v.extended_has_attr a attr [])) (v.get_attr a attr) attrs
    (joined_free and_operator asked (v.extended_has_attr a attr []) (and_joins asked) hq ha) ha

mutual
  unfolding slots_of as_read

  pub free_read : (a : Value) → slots_of a ≡ [] → slots_of (as_read a) ≡ []
  free_read (v.val literal) h = refl
  free_read (v.var x) h = refl
  free_read (v.slot x) h = cc
  free_read (v.ite a b c) h =
      let s = nil_both (slots_of a ++ slots_of b) (slots_of c) h in
      let t = nil_both (slots_of a) (slots_of b) s.0 in
      none_in _ _ (none_in _ _ (free_read a t.0) (free_read b t.1)) (free_read c s.1)
  free_read (v.not a) h = free_read a h
  free_read (v.neg a) h = free_read a h
  free_read (v.and a b) h =
      let s = nil_both (slots_of a) (slots_of b) h in
      joined_free and_operator (as_read a) (as_read b) (and_joins (as_read a)) (free_read a s.0) (free_read b s.1)
  free_read (v.or_nary a bs) h =
      let s = nil_both (slots_of a) (slots_of_all bs) h in
      free_chain or_operator (as_read a) bs (free_read a s.0) s.1
  free_read (v.and_naryl a bs) h =
      let s = nil_both (slots_of a) (slots_of_all bs) h in
      free_chain and_operator (as_read a) bs (free_read a s.0) s.1
  free_read (v.mul_nary a bs) h =
      let s = nil_both (slots_of a) (slots_of_all bs) h in
      free_chain mul_operator (as_read a) bs (free_read a s.0) s.1
  free_read (v.add_nary a ts) h =
      let s = nil_both (slots_of a) (slots_of_terms ts) h in
      free_sum (as_read a) ts (free_read a s.0) s.1
  free_read (v.less a b) h =
      let s = nil_both (slots_of a) (slots_of b) h in none_in _ _ (free_read a s.0) (free_read b s.1)
  free_read (v.lesseq a b) h =
      let s = nil_both (slots_of a) (slots_of b) h in none_in _ _ (free_read a s.0) (free_read b s.1)
  free_read (v.greater a b) h =
      let s = nil_both (slots_of a) (slots_of b) h in none_in _ _ (free_read a s.0) (free_read b s.1)
  free_read (v.greatereq a b) h =
      let s = nil_both (slots_of a) (slots_of b) h in none_in _ _ (free_read a s.0) (free_read b s.1)
  free_read (v.is_eq a b) h =
      let s = nil_both (slots_of a) (slots_of b) h in none_in _ _ (free_read a s.0) (free_read b s.1)
  free_read (v.noteq a b) h =
      let s = nil_both (slots_of a) (slots_of b) h in none_in _ _ (free_read a s.0) (free_read b s.1)
  free_read (v.is_in a b) h =
      let s = nil_both (slots_of a) (slots_of b) h in none_in _ _ (free_read a s.0) (free_read b s.1)
  free_read (v.contains a b) h =
      let s = nil_both (slots_of a) (slots_of b) h in none_in _ _ (free_read a s.0) (free_read b s.1)
  free_read (v.contains_all a b) h =
      let s = nil_both (slots_of a) (slots_of b) h in none_in _ _ (free_read a s.0) (free_read b s.1)
  free_read (v.contains_any a b) h =
      let s = nil_both (slots_of a) (slots_of b) h in none_in _ _ (free_read a s.0) (free_read b s.1)
  free_read (v.get_tag a b) h =
      let s = nil_both (slots_of a) (slots_of b) h in none_in _ _ (free_read a s.0) (free_read b s.1)
  free_read (v.has_tag a b) h =
      let s = nil_both (slots_of a) (slots_of b) h in none_in _ _ (free_read a s.0) (free_read b s.1)
  free_read (v.like a pattern) h = free_read a h
  free_read (v.is_entity_type a t) h = free_read a h
  free_read (v.is_in_entity_type a t b) h =
      let s = nil_both (slots_of a) (slots_of b) h in none_in _ _ (free_read a s.0) (free_read b s.1)
  free_read (v.extended_has_attr a first rest) h =
      sought_free (v.extended_has_attr (as_read a) first []) (v.get_attr (as_read a) first) rest (free_read a h) (free_read a h)
  free_read (v.get_attr a attr) h = free_read a h
  free_read (v.is_empty a) h = free_read a h
  free_read (v.call_extension_fn name args) h = free_all args h
  free_read (v.set items) h = free_all items h
  free_read (v.«record» pairs) h = free_fields pairs h

  free_chain : {all : Value → Values → Value} {join : Value → Value → Value} → Operator all join → (p : Value) (bs : Values) → slots_of p ≡ [] → slots_of_all bs ≡ [] → slots_of (chain_as_read join p bs) ≡ []
  free_chain op p v.none hp h = hp
  free_chain {all} {join} op p (v.more b bs) hp h =
      let s = nil_both (slots_of b) (slots_of_all bs) h in
      free_chain op (join p (as_read b)) bs (joined_free op p (as_read b) (op.joins p) hp (free_read b s.0)) s.1

  free_sum : (p : Value) (ts : Terms) → slots_of p ≡ [] → slots_of_terms ts ≡ [] → slots_of (sum_as_read p ts) ≡ []
  free_sum p v.no_terms hp h = hp
  free_sum p (v.term o b ts) hp h =
      let s = nil_both (slots_of b) (slots_of_terms ts) h in
      free_sum (add_with o p (as_read b)) ts (added_free o p (as_read b) (add_joins p) hp (free_read b s.0)) s.1

  free_all : (bs : Values) → slots_of_all bs ≡ [] → slots_of_all (all_as_read bs) ≡ []
  free_all v.none h = refl
  free_all (v.more a bs) h =
      let s = nil_both (slots_of a) (slots_of_all bs) h in none_in _ _ (free_read a s.0) (free_all bs s.1)

  free_fields : (fs : Fields) → slots_of_fields fs ≡ [] → slots_of_fields (fields_as_read fs) ≡ []
  free_fields v.no_fields h = refl
  free_fields (v.field key a fs) h =
      let s = nil_both (slots_of a) (slots_of_fields fs) h in none_in _ _ (free_read a s.0) (free_fields fs s.1)
