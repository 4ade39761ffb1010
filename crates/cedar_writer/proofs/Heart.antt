-- The heart: tokens with the words of a writable value mean it, by induction over the value.
use Rattle.std.proofs.Common.{◌≡◌, ℕ, ◌<◌, true, List, [], ◌∷◌, ◌++◌, length, map, refl, sym, ap, ap₂, ◌∙◌, subst, codes, arith, append_assoc, append-nil, Option, Some, None}
use Rattle.std.specs.Option.{is_none}
use Rattle.std.specs.Map.{keys_of}
use Rattle.std.specs.Str.{IsUtf8}
use Rattle.std.proofs.lemmas.Bool.{cond_both, and_parts}
use Rattle.std.proofs.lemmas.List.{map-append}
use Rattle.cedar_lexer.specs.declared.token.TokenKind.{TokenKind}
use Rattle.cedar_lexer.specs.declared.token.TokenKind.TheVariants as kind
use Rattle.cedar_lexer.specs.Token.{Lexeme}
use Rattle.cedar_lexer.specs.Words.{TokenText}
use Rattle.cedar_expressions.specs.declared.operators.AddOp.{AddOp}
use Rattle.cedar_expressions.specs.declared.operators.AddOp.TheVariants as op
use Rattle.cedar_expressions.specs.Keys.{repeats_key}
use Rattle.cedar_expressions.specs.Path.{Path, is_unreserved_identifier}
use Rattle.cedar_expressions.specs.WithoutPlaces.{without_places, all_without_places, terms_without_places, fields_without_places}
use Rattle.cedar_expressions.specs.Value as v
use Rattle.cedar_expressions.specs.Value.{Value, Values, Terms, Fields, values, terms, fields}
use Rattle.cedar_syntax.specs.tokens.Signs.{ReadsAddOp, one_sign, plus, minus as less_op}
use Rattle.cedar_conversion.specs.strict.Extensions.{Extensions}
use Rattle.cedar_conversion.specs.strict.Strict as s
use Rattle.cedar_conversion.specs.strict.Strict.{Sort, Means, Joined, Added, Listed, Entries, JoinedEntries, Entry, Relates}
use Rattle.cedar_conversion.specs.strict.StrictCalls as call
use Rattle.cedar_conversion.specs.strict.StrictCalls.{CallsMethod, standard_method}
use Rattle.cedar_writer.specs.WrittenWords.{alone, dot, identifier_words, name_words, text_words, key_words, access_words}
use Rattle.cedar_writer.specs.Writing.{is_variable_words, words, call_words, joined_words, listed_words, terms_words, entries_words, more_entries_words, sort_of, fitted, comma, colon, op_words, calls_by, calls_method, function_words, method_words, infix_words}
use Rattle.cedar_writer.specs.Writable.{IsWritable, AreWritable, AreWritableTerms, AreWritableFields, IsWritableOf, IsWritableCall, IsWritableFunction, HasMore, HasTerms, keys_in}
use Rattle.cedar_writer.proofs.Apart.{Read, nothing, token, beside, put}
use Rattle.cedar_writer.proofs.Levels.{M, mean, free, frees, at, Negated, negated}
use Rattle.cedar_writer.proofs.Leaves.{Id, identifier, Name, name, no_variable, IsTextOf, string, key, Sought, sought, literal, var, slot_read, pattern}

-- ---- lists of values

list_of : Values → List Value
list_of v.none = []
list_of (v.more a bs) = a ∷ list_of bs

values-list_of : (bs : Values) → values (list_of bs) ≡ bs
unfolding list_of
values-list_of v.none = refl
values-list_of (v.more a bs) = ap (v.more a) (values-list_of bs)

some_more : (bs : Values) → HasMore bs → 0 < length (list_of bs)
unfolding list_of
some_more v.none h = absurd h
some_more (v.more a bs) h = omega arith

term_list : Terms → List (AddOp × Value)
term_list v.no_terms = []
term_list (v.term o a ts) = (o, a) ∷ term_list ts

terms-term_list : (ts : Terms) → terms (term_list ts) ≡ ts
unfolding term_list
terms-term_list v.no_terms = refl
terms-term_list (v.term o a ts) = ap (v.term o a) (terms-term_list ts)

some_terms : (ts : Terms) → HasTerms ts → 0 < length (term_list ts)
unfolding term_list
some_terms v.no_terms h = absurd h
some_terms (v.term o a ts) h = omega arith

field_list : Fields → List (List ℕ × Value)
field_list v.no_fields = []
field_list (v.field key a fs) = (key, a) ∷ field_list fs

fields-field_list : (fs : Fields) → fields (field_list fs) ≡ fs
unfolding field_list
fields-field_list v.no_fields = refl
fields-field_list (v.field key a fs) = ap (v.field key a) (fields-field_list fs)

keys-field_list : (fs : Fields) → keys_of (field_list fs) ≡ keys_in fs
unfolding field_list
keys-field_list v.no_fields = refl
keys-field_list (v.field key a fs) = ap (λ ks. key ∷ ks) (keys-field_list fs)

-- ---- places aside

cong₂ : {A B C : Type 0} (f : A → B → C) {x x' : A} {y y' : B} → x ≡ x' → y ≡ y' → f x y ≡ f x' y'
cong₂ {A = A} {B = B} f p q = ap₂ (λ (a : A) (b : B). f a b) p q

cong₃ : {A B C D : Type 0} (f : A → B → C → D) {x x' : A} {y y' : B} {z z' : C} → x ≡ x' → y ≡ y' → z ≡ z' → f x y z ≡ f x' y' z'
cong₃ {A = A} {B = B} f {z = z} {z' = z'} p q r = ap₂ (λ (a : A) (b : B). f a b z) p q ∙ ap (f _ _) r

abbrev bare : List Value → List Value
bare xs = map without_places xs

abbrev bare_term : AddOp × Value → AddOp × Value
bare_term t = (t.0, without_places t.1)

abbrev bare_field : List ℕ × Value → List ℕ × Value
bare_field t = (t.0, without_places t.1)

all_values : (xs : List Value) → all_without_places (values xs) ≡ values (bare xs)
unfolding without_places
all_values [] = refl
all_values (x ∷ xs) = ap (v.more (without_places x)) (all_values xs)

all_terms : (xs : List (AddOp × Value)) → terms_without_places (terms xs) ≡ terms (map bare_term xs)
unfolding without_places
all_terms [] = refl
all_terms (x ∷ xs) = ap (v.term x.0 (without_places x.1)) (all_terms xs)

all_fields : (xs : List (List ℕ × Value)) → fields_without_places (fields xs) ≡ fields (map bare_field xs)
unfolding without_places
all_fields [] = refl
all_fields (x ∷ xs) = ap (v.field x.0 (without_places x.1)) (all_fields xs)

same_values : (xs : List Value) (bs : Values) → bare xs ≡ bare (list_of bs) → all_without_places (values xs) ≡ all_without_places bs
same_values xs bs e = all_values xs ∙ ap values e ∙ sym (all_values (list_of bs)) ∙ ap all_without_places (values-list_of bs)

same_terms : (xs : List (AddOp × Value)) (ts : Terms) → map bare_term xs ≡ map bare_term (term_list ts) → terms_without_places (terms xs) ≡ terms_without_places ts
same_terms xs ts e = all_terms xs ∙ ap terms e ∙ sym (all_terms (term_list ts)) ∙ ap terms_without_places (terms-term_list ts)

same_fields : (xs : List (List ℕ × Value)) (fs : Fields) → map bare_field xs ≡ map bare_field (field_list fs) → fields_without_places (fields xs) ≡ fields_without_places fs
same_fields xs fs e = all_fields xs ∙ ap fields e ∙ sym (all_fields (field_list fs)) ∙ ap fields_without_places (fields-field_list fs)

map_keys : (xs : List (List ℕ × Value)) → keys_of (map bare_field xs) ≡ keys_of xs
map_keys [] = refl
map_keys (x ∷ xs) = ap (λ ks. x.0 ∷ ks) (map_keys xs)

same_keys : (xs : List (List ℕ × Value)) (fs : Fields) → map bare_field xs ≡ map bare_field (field_list fs) → keys_of xs ≡ keys_in fs
same_keys xs fs e = sym (map_keys xs) ∙ ap keys_of e ∙ map_keys (field_list fs) ∙ keys-field_list fs

same_length : {X : Type 0} (f : X → X) (xs ys : List X) → map f xs ≡ map f ys → 0 < length ys → 0 < length xs
same_length f [] [] e h = h
same_length f [] (y ∷ ys) e h = absurd (cc)
same_length f (x ∷ xs) ys e h = omega arith

grown : {X : Type 0} (f : X → X) (xs ys : List X) (x y : X) → map f xs ≡ map f ys → f x ≡ f y → map f (xs ++ x ∷ []) ≡ map f (ys ++ y ∷ [])
grown {X = X} f xs ys x y e g = map-append f xs (x ∷ []) ∙ ap₂ (λ (a : List X) (b : List X). a ++ b) e (ap (λ c. c ∷ []) g) ∙ sym (map-append f ys (y ∷ []))

-- ---- the forms, over what stands in them

record J (table : Extensions) (limit : ℕ) (k : TokenKind) (sort : Sort) (a : Value) (bs : List Value) (us : List Lexeme) : Type 0 where
  first : Value
  rest : List Value
  is : Joined table limit k sort us first rest
  same : without_places first ≡ without_places a
  all : bare rest ≡ bare bs

record A (table : Extensions) (limit : ℕ) (a : Value) (bs : List (AddOp × Value)) (us : List Lexeme) : Type 0 where
  first : Value
  rest : List (AddOp × Value)
  is : Added table limit us first rest
  same : without_places first ≡ without_places a
  all : map bare_term rest ≡ map bare_term bs

record L (table : Extensions) (limit : ℕ) (xs : List Value) (us : List Lexeme) : Type 0 where
  items : List Value
  is : Listed table limit us items
  all : bare items ≡ bare xs

record JE (table : Extensions) (limit : ℕ) (fs : List (List ℕ × Value)) (us : List Lexeme) : Type 0 where
  pairs : List (List ℕ × Value)
  is : JoinedEntries table limit us pairs
  all : map bare_field pairs ≡ map bare_field fs

record ES (table : Extensions) (limit : ℕ) (fs : List (List ℕ × Value)) (us : List Lexeme) : Type 0 where
  pairs : List (List ℕ × Value)
  is : Entries table limit us pairs
  all : map bare_field pairs ≡ map bare_field fs

record E (table : Extensions) (limit : ℕ) (key : List ℕ) (a : Value) (us : List Lexeme) : Type 0 where
  value : Value
  is : Entry table limit us key value
  same : without_places value ≡ without_places a

first_part : {table : Extensions} {limit : ℕ} {k : TokenKind} {sort : Sort} {a : Value} {us : List Lexeme} → M table limit sort a us → J table limit k sort a [] us
first_part m = record { first = m.value; rest = []; is = s.one_part m.is; same = m.same; all = refl }

-- one more behind a mark
joined_one : {table : Extensions} {limit : ℕ} {acc ws : List TokenText} {a b : Value} {cs : List Value} (k : TokenKind) (text : List ℕ) (wanted : Sort) → Read acc (J table limit k wanted a cs) → Read ws (M table limit wanted b) → Read (acc ++ alone k text ++ ws) (J table limit k wanted a (cs ++ b ∷ []))
joined_one {table = table} {limit = limit} {a = a} {b = b} {cs = cs} k text wanted r q =
    beside (J table limit k wanted a (cs ++ b ∷ [])) (M table limit wanted b) q (put _ k text (λ us e p f ys m.
    let j = r us e in
    record { first = j.first; rest = j.rest ++ m.value ∷ []; is = s.more_parts p j.is m.is; same = j.same; all = grown without_places j.rest cs m.value b j.all m.same }))

entry_of : {table : Extensions} {limit : ℕ} {ws : List TokenText} {a : Value} (text : List ℕ) (sort : Sort) → IsUtf8 text → Read ws (M table limit sort a) → Read (key_words text ++ colon ++ ws) (E table limit text a)
entry_of {table = table} {limit = limit} {a = a} text sort u q =
    beside (E table limit text a) (M table limit sort a) q (put _ kind.Colon (codes ":") (λ us e p f ys m. record { value = m.value; is = s.entry p (key text u us e) (frees sort m.is); same = m.same }))

entries_one : {table : Extensions} {limit : ℕ} {acc ws : List TokenText} {a : Value} {fs : List (List ℕ × Value)} (text : List ℕ) → Read acc (JE table limit fs) → Read ws (E table limit text a) → Read (acc ++ comma ++ ws) (JE table limit (fs ++ (text, a) ∷ []))
entries_one {table = table} {limit = limit} {a = a} {fs = fs} text r q =
    beside (JE table limit (fs ++ (text, a) ∷ [])) (E table limit text a) q (put _ kind.Comma (codes ",") (λ us e p f ys m.
    let j = r us e in
    record { pairs = j.pairs ++ (text, m.value) ∷ []; is = s.more_entries p j.is m.is; all = grown bare_field j.pairs fs (text, m.value) (text, a) j.all (ap (λ x. (text, x)) m.same) }))

added_by : {table : Extensions} {limit : ℕ} {acc ws : List TokenText} {a b : Value} {cs : List (AddOp × Value)} (k : TokenKind) (text : List ℕ) (o : AddOp) → ReadsAddOp k o → Read acc (A table limit a cs) → Read ws (M table limit s.product b) → Read (acc ++ alone k text ++ ws) (A table limit a (cs ++ (o, b) ∷ []))
added_by {table = table} {limit = limit} {a = a} {b = b} {cs = cs} k text o h r q =
    beside (A table limit a (cs ++ (o, b) ∷ [])) (M table limit s.product b) q (put _ k text (λ us e p f ys m.
    let j = r us e in
    record { first = j.first; rest = j.rest ++ (o, m.value) ∷ []; is = s.more_terms p j.is h m.is; same = j.same; all = grown bare_term j.rest cs (o, m.value) (o, b) j.all (ap (λ x. (o, x)) m.same) }))

added_one : {table : Extensions} {limit : ℕ} {acc ws : List TokenText} {a b : Value} {cs : List (AddOp × Value)} (o : AddOp) → Read acc (A table limit a cs) → Read ws (M table limit s.product b) → Read (acc ++ op_words o ++ ws) (A table limit a (cs ++ (o, b) ∷ []))
added_one op.Plus r q = added_by kind.Plus (codes "+") op.Plus plus r q
added_one op.Minus r q = added_by kind.Minus (codes "-") op.Minus less_op r q

-- a builder call of two values, places aside
Splits : (Value → Value → Value) → Type 0
Splits f = (a b : Value) → without_places (f a b) ≡ f (without_places a) (without_places b)

splits : (f : Value → Value → Value) → Splits f → (a a' b b' : Value) → without_places a' ≡ without_places a → without_places b' ≡ without_places b → without_places (f a' b') ≡ without_places (f a b)
unfolding Splits
splits f h a a' b b' p q = h a' b' ∙ cong₂ f p q ∙ sym (h a b)

relation : {table : Extensions} {limit : ℕ} {ws vs : List TokenText} {a b : Value} (k : TokenKind) (text : List ℕ) (f : Value → Value → Value) → ((x y : Value) → Relates k x y (f x y)) → Splits f → Read ws (M table limit s.sum a) → Read vs (M table limit s.sum b) → Read (infix_words (alone k text) ws vs) (M table limit s.relation (f a b))
relation {table = table} {limit = limit} {a = a} {b = b} k text f h i r q =
    beside (M table limit s.relation (f a b)) (M table limit s.sum b) q (put _ k text (λ us e p g ys m.
    let n = r us e in
    (mean (f n.value m.value) (s.related p n.is (h n.value m.value) m.is) (splits f i a n.value b m.value n.same m.same))))

-- what a method's name makes of a value and of what stands between the parentheses
record Does (table : Extensions) (limit : ℕ) (id : List ℕ) (a' c : Value) (vs : List Lexeme) : Type 0 where
  args : List Value
  value : Value
  listed : Listed table limit vs args
  calls : CallsMethod table id a' args value
  same : without_places value ≡ without_places c

method : {table : Extensions} {limit : ℕ} {ws vs : List TokenText} {a c : Value} (Q : List Lexeme → Type 0) (id : List ℕ) → is_unreserved_identifier id ≡ true → ((a' : Value) → without_places a' ≡ without_places a → (ys : List Lexeme) → Q ys → Does table limit id a' c ys) → Read ws (M table limit s.member a) → Read vs Q → Read (method_words ws id vs) (M table limit s.member c)
method {table = table} {limit = limit} {c = c} Q id i h r q =
    put (M table limit s.member c) kind.CloseParen (codes ")")
    (beside _ Q q
    (put _ kind.OpenParen (codes "(")
    (beside _ (Id id) (identifier id i)
    (put _ kind.Dot (codes ".") (λ us e p f ys j l g zs n m x.
    let o = r us e in
    let d = h o.value o.same zs n in
    (mean d.value (s.method p l m o.is j d.listed d.calls) d.same))))))

one_method : {table : Extensions} {limit : ℕ} {ws vs : List TokenText} {a b : Value} (f : Value → Value → Value) (id : List ℕ) (sort : Sort) → is_unreserved_identifier id ≡ true → ((x y : Value) → CallsMethod table id x (y ∷ []) (f x y)) → Splits f → Read ws (M table limit s.member a) → Read vs (M table limit sort b) → Read (method_words ws id vs) (M table limit s.member (f a b))
one_method {table = table} {limit = limit} {a = a} {b = b} f id sort i h g r q =
    method (M table limit sort b) id i (λ a' e ys m. record { args = m.value ∷ []; value = f a' m.value; listed = s.items (s.one_part (frees sort m.is)); calls = h a' m.value; same = splits f g a a' b m.value e m.same }) r q

function : {table : Extensions} {limit : ℕ} {vs : List TokenText} (n : Path) (args : Values) → IsWritableFunction table n → Read vs (L table limit (list_of args)) → Read (function_words (name_words n) vs) (M table limit s.member (v.call_extension_fn n args))
unfolding without_places
function {table = table} {limit = limit} n args h q =
    put (M table limit s.member (v.call_extension_fn n args)) kind.CloseParen (codes ")")
    (beside _ (L table limit (list_of args)) q
    (put _ kind.OpenParen (codes "(") (λ us e l f ys j m g. (mean (v.call_extension_fn n (values j.items)) (s.called l m (name n h.0 us e) (no_variable us (ap is_variable_words e ∙ h.2)) h.1 j.is) (ap (v.call_extension_fn n) (same_values j.items args j.all))))))

access : {table : Extensions} {limit : ℕ} {ws : List TokenText} {a : Value} (attr : List ℕ) → IsUtf8 attr → Read ws (M table limit s.member a) → Read (access_words attr ws) (M table limit s.member (v.get_attr a attr))
unfolding without_places
access {table = table} {limit = limit} {ws = ws} {a = a} attr u r =
    cond_both (is_unreserved_identifier attr) (ws ++ dot ++ identifier_words attr) (ws ++ alone kind.OpenBracket (codes "[") ++ text_words attr ++ alone kind.CloseBracket (codes "]"))
    (λ xs. Read xs (M table limit s.member (v.get_attr a attr)))
    (λ i. beside (M table limit s.member (v.get_attr a attr)) (Id attr) (identifier attr i) (put _ kind.Dot (codes ".") (λ us e p f ys j. let m = r us e in (mean (v.get_attr m.value attr) (s.attribute p m.is j) (ap (λ x. v.get_attr x attr) m.same)))))
    (λ i. put (M table limit s.member (v.get_attr a attr)) kind.CloseBracket (codes "]") (beside _ (IsTextOf attr) (string attr u) (put _ kind.OpenBracket (codes "[") (λ us e l f ys j m g. let n = r us e in (mean (v.get_attr n.value attr) (s.indexed l m n.is j) (ap (λ x. v.get_attr x attr) n.same))))))

-- a call by the table's method
none_of : {T : Type 0} (o : Option T) → is_none o ≡ true → o ≡ None
none_of None e = refl
none_of (Some x) e = absurd (cc)

record ByMethod (table : Extensions) (ids : List (List ℕ)) (id : List ℕ) : Type 0 where
  bare : ids ≡ []
  own : standard_method id ≡ None
  has : table.methods id ≡ true

by_method : (table : Extensions) (ids : List (List ℕ)) (id : List ℕ) → calls_by table ids id ≡ true → ByMethod table ids id
by_method table [] id e = let p = and_parts _ _ e in record { bare = refl; own = none_of (standard_method id) p.0; has = p.1 }
by_method table (x ∷ ids) id e = absurd (cc)

as_bare : (n : Path) → n.path ≡ [] → record { path = []; id = n.id } ≡ n
as_bare n e = ap (λ (p : List (List ℕ)). record { path = p; id = n.id }) (sym e)

bare_named : {table : Extensions} (n : Path) → n.path ≡ [] → (a : Value) (args : List Value) → CallsMethod table n.id a args (v.call_extension_fn (record { path = []; id = n.id }) (values (a ∷ args))) → CallsMethod table n.id a args (v.call_extension_fn n (values (a ∷ args)))
bare_named {table = table} n e a args h = subst (λ (m : Path). CallsMethod table n.id a args (v.call_extension_fn m (values (a ∷ args)))) (as_bare n e) h

by_the_table : {table : Extensions} {limit : ℕ} (n : Path) (a : Value) (args : Values) → calls_method table n ≡ true → (a' : Value) → without_places a' ≡ without_places a → (ys : List Lexeme) → L table limit (list_of args) ys → Does table limit n.id a' (v.call_extension_fn n (v.more a args)) ys
unfolding without_places
by_the_table {table = table} n a args e a' f ys l =
    let h = by_method table n.path n.id e in
    record {
      args = l.items;
      value = v.call_extension_fn n (values (a' ∷ l.items));
      listed = l.is;
      calls = bare_named n h.bare a' l.items (call.by_table h.own h.has);
      same = ap (v.call_extension_fn n) (cong₂ v.more f (same_values l.items args l.all));
    }

-- ---- values

mutual
  unfolding words IsWritable without_places list_of term_list field_list Splits

  pub reads : (table : Extensions) (limit : ℕ) (value : Value) → IsWritable table limit value → Read (words table value) (M table limit (sort_of value) value)
  reads table limit (v.val l) h = literal l h.0 h.1
  reads table limit (v.var x) h = var x
  reads table limit (v.slot x) h = slot_read x
  reads table limit (v.ite a b c) h =
      beside (M table limit s.expression (v.ite a b c)) (M table limit (sort_of c) c) (reads table limit c h.2)
      (put _ kind.Else (codes "else")
      (beside _ (M table limit (sort_of b) b) (reads table limit b h.1)
      (put _ kind.Then (codes "then")
      (beside _ (M table limit (sort_of a) a) (reads table limit a h.0)
      (token _ kind.If (codes "if") (λ l x ts m n y us o p z vs q. (mean (v.ite m.value o.value q.value) (s.conditional l n p (frees (sort_of a) m.is) (frees (sort_of b) o.is) (frees (sort_of c) q.is)) (cong₃ v.ite m.same o.same q.same))))))))
  reads table limit (v.not a) h =
      beside (M table limit s.signed (v.not a)) (M table limit s.member a) (at s.member (sort_of a) (reads table limit a h.1))
      (token _ kind.Bang (codes "!") (λ p x us m. (mean (v.not m.value) (s.negated {n = 1} (one_sign p) h.0 m.is) (ap v.not m.same))))
  reads table limit (v.neg a) h =
      beside (M table limit s.signed (v.neg a)) (Negated table limit a) (negated a (reads table limit a h.1))
      (token _ kind.Minus (codes "-") (λ p x us m. (mean (v.neg m.1.value) (s.opposite {n = 1} (one_sign p) h.0 m.0 m.1.is) (ap v.neg m.1.same))))
  reads table limit (v.and a b) h = absurd h
  reads table limit (v.or_nary a bs) h = λ us e.
      let j = joined table limit bs h.2 kind.OrOr (codes "||") s.conjunction a [] (fitted s.conjunction (sort_of a) (words table a)) (λ vs f. first_part (at s.conjunction (sort_of a) (reads table limit a h.0) vs f)) us e in
      (mean (v.or_nary j.first (values j.rest)) (s.disjoined j.is (same_length without_places j.rest (list_of bs) j.all (some_more bs h.1))) (cong₂ v.or_nary j.same (same_values j.rest bs j.all)))
  reads table limit (v.and_naryl a bs) h = λ us e.
      let j = joined table limit bs h.2 kind.AndAnd (codes "&&") s.relation a [] (fitted s.relation (sort_of a) (words table a)) (λ vs f. first_part (at s.relation (sort_of a) (reads table limit a h.0) vs f)) us e in
      (mean (v.and_naryl j.first (values j.rest)) (s.conjoined j.is (same_length without_places j.rest (list_of bs) j.all (some_more bs h.1))) (cong₂ v.and_naryl j.same (same_values j.rest bs j.all)))
  reads table limit (v.mul_nary a bs) h = λ us e.
      let j = joined table limit bs h.2 kind.Star (codes "*") s.signed a [] (fitted s.signed (sort_of a) (words table a)) (λ vs f. first_part (at s.signed (sort_of a) (reads table limit a h.0) vs f)) us e in
      (mean (v.mul_nary j.first (values j.rest)) (s.multiplied j.is (same_length without_places j.rest (list_of bs) j.all (some_more bs h.1))) (cong₂ v.mul_nary j.same (same_values j.rest bs j.all)))
  reads table limit (v.add_nary a ts) h = λ us e.
      let j = added table limit ts h.2 a [] (fitted s.product (sort_of a) (words table a)) (λ vs f. let m = at s.product (sort_of a) (reads table limit a h.0) vs f in record { first = m.value; rest = []; is = s.one_term m.is; same = m.same; all = refl }) us e in
      (mean (v.add_nary j.first (terms j.rest)) (s.added_up j.is (same_length bare_term j.rest (term_list ts) j.all (some_terms ts h.1))) (cong₂ v.add_nary j.same (same_terms j.rest ts j.all)))
  reads table limit (v.less a b) h = relation kind.Less (codes "<") v.less (λ x y. s.less) (λ x y. refl) (at s.sum (sort_of a) (reads table limit a h.0)) (at s.sum (sort_of b) (reads table limit b h.1))
  reads table limit (v.lesseq a b) h = relation kind.LessEq (codes "<=") v.lesseq (λ x y. s.less_eq) (λ x y. refl) (at s.sum (sort_of a) (reads table limit a h.0)) (at s.sum (sort_of b) (reads table limit b h.1))
  reads table limit (v.greater a b) h = relation kind.Greater (codes ">") v.greater (λ x y. s.greater) (λ x y. refl) (at s.sum (sort_of a) (reads table limit a h.0)) (at s.sum (sort_of b) (reads table limit b h.1))
  reads table limit (v.greatereq a b) h = relation kind.GreaterEq (codes ">=") v.greatereq (λ x y. s.greater_eq) (λ x y. refl) (at s.sum (sort_of a) (reads table limit a h.0)) (at s.sum (sort_of b) (reads table limit b h.1))
  reads table limit (v.is_eq a b) h = relation kind.EqEq (codes "==") v.is_eq (λ x y. s.equal) (λ x y. refl) (at s.sum (sort_of a) (reads table limit a h.0)) (at s.sum (sort_of b) (reads table limit b h.1))
  reads table limit (v.noteq a b) h = relation kind.NotEq (codes "!=") v.noteq (λ x y. s.not_eq) (λ x y. refl) (at s.sum (sort_of a) (reads table limit a h.0)) (at s.sum (sort_of b) (reads table limit b h.1))
  reads table limit (v.is_in a b) h = relation kind.In (codes "in") v.is_in (λ x y. s.within) (λ x y. refl) (at s.sum (sort_of a) (reads table limit a h.0)) (at s.sum (sort_of b) (reads table limit b h.1))
  reads table limit (v.like a ps) h =
      put (M table limit s.relation (v.like a ps)) kind.StringLit _
      (put _ kind.Like (codes "like") (λ us e p f q g. let m = at s.sum (sort_of a) (reads table limit a h.0) us e in (mean (v.like m.value ps) (s.like p q m.is (pattern ps h.1 q g)) (ap (λ x. v.like x ps) m.same))))
  reads table limit (v.is_entity_type a t) h =
      beside (M table limit s.relation (v.is_entity_type a t)) (Name t.name.path t.name.id) (name t.name h.1)
      (put _ kind.Is (codes "is") (λ us e p f ys n. let m = at s.sum (sort_of a) (reads table limit a h.0) us e in (mean (v.is_entity_type m.value t) (s.is p m.is n) (ap (λ x. v.is_entity_type x t) m.same))))
  reads table limit (v.is_in_entity_type a t b) h =
      beside (M table limit s.relation (v.is_in_entity_type a t b)) (M table limit s.sum b) (at s.sum (sort_of b) (reads table limit b h.2))
      (put _ kind.In (codes "in")
      (beside _ (Name t.name.path t.name.id) (name t.name h.1)
      (put _ kind.Is (codes "is") (λ us e p f ys n q g zs m. let o = at s.sum (sort_of a) (reads table limit a h.0) us e in (mean (v.is_in_entity_type o.value t m.value) (s.is_in p q o.is n m.is) (cong₂ (λ x y. v.is_in_entity_type x t y) o.same m.same))))))
  reads table limit (v.extended_has_attr a first rest) h =
      beside (M table limit s.relation (v.extended_has_attr a first rest)) (Sought first rest) (sought first rest h.1)
      (put _ kind.Has (codes "has") (λ us e p f ys n. let m = at s.sum (sort_of a) (reads table limit a h.0) us e in (mean (v.extended_has_attr m.value first rest) (s.has p m.is n) (ap (λ x. v.extended_has_attr x first rest) m.same))))
  reads table limit (v.get_attr a attr) h = access attr h.1 (at s.member (sort_of a) (reads table limit a h.0))
  reads table limit (v.contains a b) h = one_method v.contains (codes "contains") (sort_of b) refl (λ x y. call.contains) (λ x y. refl) (at s.member (sort_of a) (reads table limit a h.0)) (reads table limit b h.1)
  reads table limit (v.contains_all a b) h = one_method v.contains_all (codes "containsAll") (sort_of b) refl (λ x y. call.contains_all) (λ x y. refl) (at s.member (sort_of a) (reads table limit a h.0)) (reads table limit b h.1)
  reads table limit (v.contains_any a b) h = one_method v.contains_any (codes "containsAny") (sort_of b) refl (λ x y. call.contains_any) (λ x y. refl) (at s.member (sort_of a) (reads table limit a h.0)) (reads table limit b h.1)
  reads table limit (v.get_tag a b) h = one_method v.get_tag (codes "getTag") (sort_of b) refl (λ x y. call.get_tag) (λ x y. refl) (at s.member (sort_of a) (reads table limit a h.0)) (reads table limit b h.1)
  reads table limit (v.has_tag a b) h = one_method v.has_tag (codes "hasTag") (sort_of b) refl (λ x y. call.has_tag) (λ x y. refl) (at s.member (sort_of a) (reads table limit a h.0)) (reads table limit b h.1)
  reads table limit (v.is_empty a) h =
      method (λ us. Listed table limit us []) (codes "isEmpty") refl (λ a' e ys l. record { args = []; value = v.is_empty a'; listed = l; calls = call.is_empty; same = ap v.is_empty e }) (at s.member (sort_of a) (reads table limit a h)) (nothing (λ us. Listed table limit us []) s.no_items)
  reads table limit (v.call_extension_fn n args) h = calls table limit args n h
  reads table limit (v.set items) h =
      put (M table limit s.primary (v.set items)) kind.CloseBracket (codes "]")
      (beside _ (L table limit (list_of items)) (listed table limit items h)
      (token _ kind.OpenBracket (codes "[") (λ l x ts m n y. (mean (v.set (values m.items)) (s.set l n m.is) (ap v.set (same_values m.items items m.all))))))
  reads table limit (v.«record» pairs) h =
      put (M table limit s.primary (v.«record» pairs)) kind.CloseBrace (codes "}")
      (beside _ (ES table limit (field_list pairs)) (entries table limit pairs h.0)
      (token _ kind.OpenBrace (codes "{") (λ l x ts m n y. (mean (v.«record» (fields m.pairs)) (s.in_braces l n m.is (ap repeats_key (same_keys m.pairs pairs m.all) ∙ h.1)) (ap v.«record» (same_fields m.pairs pairs m.all))))))

  calls : (table : Extensions) (limit : ℕ) (args : Values) (n : Path) → IsWritableOf table limit args n → Read (call_words table args n) (M table limit s.member (v.call_extension_fn n args))
  calls table limit v.none n h = function n v.none h (nothing (L table limit []) (record { items = []; is = s.no_items; all = refl }))
  calls table limit (v.more a args) n h =
      cond_both (calls_method table n) (method_words (fitted s.member (sort_of a) (words table a)) n.id (listed_words table args)) (function_words (name_words n) (joined_words table args comma s.expression (words table a)))
      (λ ws. Read ws (M table limit s.member (v.call_extension_fn n (v.more a args))))
      (λ e. method (L table limit (list_of args)) n.id (subst (λ b. IsWritableCall b table n) e h.2).1 (by_the_table n a args e) (at s.member (sort_of a) (reads table limit a h.0)) (listed table limit args h.1))
      (λ e. function n (v.more a args) (subst (λ b. IsWritableCall b table n) e h.2) (λ us f.
      let j = joined table limit args h.1 kind.Comma (codes ",") s.expression a [] (words table a) (λ vs g. first_part (free (sort_of a) (reads table limit a h.0 vs g))) us f in
      record { items = j.first ∷ j.rest; is = s.items j.is; all = cong₂ (λ x xs. x ∷ xs) j.same j.all }))

  joined : (table : Extensions) (limit : ℕ) (bs : Values) → AreWritable table limit bs → (k : TokenKind) (text : List ℕ) (wanted : Sort) (a : Value) (cs : List Value) (acc : List TokenText) → Read acc (J table limit k wanted a cs) → Read (joined_words table bs (alone k text) wanted acc) (J table limit k wanted a (cs ++ list_of bs))
  joined table limit v.none h k text wanted a cs acc r = λ us e. subst (λ xs. J table limit k wanted a xs us) (sym (append-nil cs)) (r us e)
  joined table limit (v.more b bs) h k text wanted a cs acc r =
      subst (λ xs. Read (joined_words table bs (alone k text) wanted (acc ++ alone k text ++ fitted wanted (sort_of b) (words table b))) (J table limit k wanted a xs)) (append_assoc cs (b ∷ []) (list_of bs))
      (joined table limit bs h.1 k text wanted a (cs ++ b ∷ []) (acc ++ alone k text ++ fitted wanted (sort_of b) (words table b))
      (joined_one k text wanted r (at wanted (sort_of b) (reads table limit b h.0))))

  listed : (table : Extensions) (limit : ℕ) (bs : Values) → AreWritable table limit bs → Read (listed_words table bs) (L table limit (list_of bs))
  listed table limit v.none h = nothing (L table limit []) (record { items = []; is = s.no_items; all = refl })
  listed table limit (v.more a bs) h = λ us e.
      let j = joined table limit bs h.1 kind.Comma (codes ",") s.expression a [] (words table a) (λ vs f. first_part (free (sort_of a) (reads table limit a h.0 vs f))) us e in
      record { items = j.first ∷ j.rest; is = s.items j.is; all = cong₂ (λ x xs. x ∷ xs) j.same j.all }

  added : (table : Extensions) (limit : ℕ) (ts : Terms) → AreWritableTerms table limit ts → (a : Value) (cs : List (AddOp × Value)) (acc : List TokenText) → Read acc (A table limit a cs) → Read (terms_words table ts acc) (A table limit a (cs ++ term_list ts))
  added table limit v.no_terms h a cs acc r = λ us e. subst (λ xs. A table limit a xs us) (sym (append-nil cs)) (r us e)
  added table limit (v.term o b ts) h a cs acc r =
      subst (λ xs. Read (terms_words table ts (acc ++ op_words o ++ fitted s.product (sort_of b) (words table b))) (A table limit a xs)) (append_assoc cs ((o, b) ∷ []) (term_list ts))
      (added table limit ts h.1 a (cs ++ (o, b) ∷ []) (acc ++ op_words o ++ fitted s.product (sort_of b) (words table b))
      (added_one o r (at s.product (sort_of b) (reads table limit b h.0))))

  entries : (table : Extensions) (limit : ℕ) (fs : Fields) → AreWritableFields table limit fs → Read (entries_words table fs) (ES table limit (field_list fs))
  entries table limit v.no_fields h = nothing (ES table limit []) (record { pairs = []; is = s.no_entries; all = refl })
  entries table limit (v.field text a fs) h = λ us e.
      let j = more_entries table limit fs h.2 ((text, a) ∷ []) (key_words text ++ colon ++ words table a)
      (λ vs f. let m = entry_of text (sort_of a) h.0 (reads table limit a h.1) vs f in record { pairs = (text, m.value) ∷ []; is = s.one_entry m.is; all = ap (λ x. (text, x) ∷ []) m.same }) us e in
      record { pairs = j.pairs; is = s.entries j.is; all = j.all }

  more_entries : (table : Extensions) (limit : ℕ) (fs : Fields) → AreWritableFields table limit fs → (done : List (List ℕ × Value)) (acc : List TokenText) → Read acc (JE table limit done) → Read (more_entries_words table fs acc) (JE table limit (done ++ field_list fs))
  more_entries table limit v.no_fields h done acc r = λ us e. subst (λ xs. JE table limit xs us) (sym (append-nil done)) (r us e)
  more_entries table limit (v.field text a fs) h done acc r =
      subst (λ xs. Read (more_entries_words table fs (acc ++ comma ++ (key_words text ++ colon ++ words table a))) (JE table limit xs)) (append_assoc done ((text, a) ∷ []) (field_list fs))
      (more_entries table limit fs h.2 (done ++ (text, a) ∷ []) (acc ++ comma ++ (key_words text ++ colon ++ words table a))
      (entries_one text r (entry_of text (sort_of a) h.0 (reads table limit a h.1))))
