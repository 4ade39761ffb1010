-- What a word names: one function or one method, and the sets of what words name.
use Rattle.std.proofs.Common.{drop-cons, add-one, ◌≡◌, ◌≢◌, ◌↔◌, ◌<◌, ◌+◌, ℕ, suc, eqb, subst, Bool, true, false, ◌||◌, cond, List, [], ◌∷◌, ◌++◌, length, take, drop, get_or, Option, Some, None, Result, Ok, Err, IfOk, MatchOption, refl, sym, ap, ◌∙◌, true≢false, codes, bytes_eq, is_eq}
use Rattle.std.specs.Bool.{one_answer}
use Rattle.std.specs.List.{AllByRecursion, list_any}
use Rattle.std.specs.Str.Pattern.{StripsPrefix, FindsTextPrefix, LacksTextAt}
use Rattle.std.proofs.lemmas.List.{take_more}
use Rattle.std.proofs.lemmas.List.Folds.{list_any-append}
use Rattle.cedar_expressions.specs.Path.{Path, name_text, is_unreserved_identifier}
use Rattle.cedar_expressions.specs.contracts.names.NameOrd.TheImpl as name_order
use Rattle.cedar_expressions.specs.contracts.names.NameOrd.TheImpl.Laws as name_laws
use Rattle.cedar_expressions.specs.contracts.names.NamePartialEq.TheImpl as name_eq
use Rattle.cedar_expressions.specs.contracts.ids.UnreservedIdOrd.TheImpl as id_order
use Rattle.cedar_expressions.specs.contracts.ids.UnreservedIdOrd.TheImpl.Laws as id_laws
use Rattle.cedar_expressions.specs.contracts.ids.UnreservedIdPartialEq.TheImpl as id_eq
use Rattle.cedar_expressions.proofs.EqualParts as equal
use Rattle.cedar_conversion.specs.strict.Extensions.{Extensions}
use Rattle.cedar_command.specs.Request.{IsFoundName, IsStyle, SpellsName, is_unreserved_name, names_function, word_names_method}
use Rattle.cedar_command.proofs.Spelled.{left, right, both, tail_of, name_once}

-- ---- behind a prefix

prefix_once : (n x y : List ℕ) → n ++ x ≡ n ++ y → x ≡ y
prefix_once [] x y e = e
prefix_once (b ∷ n) x y e = prefix_once n x y (tail_of b b (n ++ x) (n ++ y) e)

pub stripped : (n s x : List ℕ) → StripsPrefix (FindsTextPrefix n) s x → s ≡ n ++ x
stripped n s x (k, found, same, rest) = found.1 ∙ ap (λ r. n ++ r) (sym same)

not_true : (b : Bool) → (b ≡ true → ⊥) → b ≡ false
not_true true h = absurd (h refl)
not_true false h = refl

-- ---- methods

named_method : (word text id : List ℕ) → word ≡ codes "method:" ++ text → word_names_method id word ≡ true → (id ≡ text) × (is_unreserved_identifier id ≡ true)
named_method word text id is h = (
  prefix_once (codes "method:") id text ((equal.text (codes "method:" ++ id) word).0 (right (is_unreserved_identifier id) (bytes_eq (codes "method:" ++ id) word) h) ∙ is),
  left (is_unreserved_identifier id) (bytes_eq (codes "method:" ++ id) word) h,
)

pub names_it : (word text : List ℕ) → word ≡ codes "method:" ++ text → is_unreserved_identifier text ≡ true → word_names_method text word ≡ true
names_it word text is ok = both (is_unreserved_identifier text) (bytes_eq (codes "method:" ++ text) word) ok ((equal.text (codes "method:" ++ text) word).1 (sym is))

pub found_method : {E : Type 0} (word text : List ℕ) (r : Result (Option (List ℕ)) E) → word ≡ codes "method:" ++ text
    → IfOk r (λ found. MatchOption found (is_unreserved_identifier text ≡ false) (λ id. (id ≡ text) × (is_unreserved_identifier text ≡ true)))
    → IfOk r (λ found. IsFoundName (λ id. word_names_method id word) found)
found_method word text (Err e) is h = tt
found_method word text (Ok None) is h = λ id. not_true (word_names_method id word) (λ k. let m = named_method word text id is k in true≢false (sym m.1 ∙ ap is_unreserved_identifier m.0 ∙ h))
found_method word text (Ok (Some id)) is h = ap (λ i. word_names_method i word) h.0 ∙ names_it word text is h.1

pub no_method : (word : List ℕ) → LacksTextAt (codes "method:") word 0 → (id : List ℕ) → word_names_method id word ≡ false
no_method word h id =
    not_true (word_names_method id word) (λ k. h id (sym ((equal.text (codes "method:" ++ id) word).0 (right (is_unreserved_identifier id) (bytes_eq (codes "method:" ++ id) word) k))))

method_once : (word m n : List ℕ) → word_names_method m word ≡ true → word_names_method n word ≡ true → m ≡ n
method_once word m n h k =
    let a = (equal.text (codes "method:" ++ m) word).0 (right (is_unreserved_identifier m) (bytes_eq (codes "method:" ++ m) word) h) in
    let b = (equal.text (codes "method:" ++ n) word).0 (right (is_unreserved_identifier n) (bytes_eq (codes "method:" ++ n) word) k) in
    prefix_once (codes "method:") m n (a ∙ sym b)

-- ---- functions

word_of : (word : List ℕ) (name : Path) → names_function name word ≡ true → codes "fn:" ++ name_text name ≡ word
word_of word name h = (equal.text (codes "fn:" ++ name_text name) word).0 (right (is_unreserved_name name) (bytes_eq (codes "fn:" ++ name_text name) word) h)

pub spells : (word text : List ℕ) (name : Path) → word ≡ codes "fn:" ++ text → names_function name word ≡ true → SpellsName text
spells word text name is h = (name, left (is_unreserved_name name) (bytes_eq (codes "fn:" ++ name_text name) word) h, prefix_once (codes "fn:") (name_text name) text (word_of word name h ∙ is))

pub names_that : (word text : List ℕ) (name : Path) → word ≡ codes "fn:" ++ text → is_unreserved_name name ≡ true → name_text name ≡ text → names_function name word ≡ true
names_that word text name is ok e =
    both (is_unreserved_name name) (bytes_eq (codes "fn:" ++ name_text name) word) ok ((equal.text (codes "fn:" ++ name_text name) word).1 (ap (λ t. codes "fn:" ++ t) e ∙ sym is))

pub found_function : {E : Type 0} (word text : List ℕ) (r : Result (Option Path) E) → word ≡ codes "fn:" ++ text
    → IfOk r (λ found. MatchOption found (¬ SpellsName text) (λ name. (is_unreserved_name name ≡ true) × (name_text name ≡ text)))
    → IfOk r (λ found. IsFoundName (λ name. names_function name word) found)
found_function word text (Err e) is h = tt
found_function word text (Ok None) is h = λ name. not_true (names_function name word) (λ k. h (spells word text name is k))
found_function word text (Ok (Some name)) is h = names_that word text name is h.0 h.1

pub no_function : (word : List ℕ) → LacksTextAt (codes "fn:") word 0 → (name : Path) → names_function name word ≡ false
no_function word h name = not_true (names_function name word) (λ k. h (name_text name) (sym (word_of word name k)))

function_once : (word : List ℕ) (m n : Path) → names_function m word ≡ true → names_function n word ≡ true → m ≡ n
function_once word m n h k =
    name_once m n (left (is_unreserved_name m) (bytes_eq (codes "fn:" ++ name_text m) word) h) (left (is_unreserved_name n) (bytes_eq (codes "fn:" ++ name_text n) word) k)
    (prefix_once (codes "fn:") (name_text m) (name_text n) (word_of word m h ∙ sym (word_of word n k)))

-- ---- a word is a function's, a method's or neither

pub style_of_function : (word text : List ℕ) → word ≡ codes "fn:" ++ text → SpellsName text → IsStyle word
style_of_function word text is (name, ok, e) = IsStyle.function name (names_that word text name is ok e)

-- `fn:` and `method:` begin otherwise
abbrev first : List ℕ → ℕ
first [] = 0
first (b ∷ bs) = b

other_begin : (text id : List ℕ) → codes "fn:" ++ text ≢ codes "method:" ++ id
other_begin text id e = true≢false (ap (λ l. eqb (first l) 102) e)

pub function_style : (word text : List ℕ) → word ≡ codes "fn:" ++ text → IsStyle word → SpellsName text
function_style word text is (IsStyle.function name h) = spells word text name is h
function_style word text is (IsStyle.method id h) =
    absurd (other_begin text id (sym is ∙ sym ((equal.text (codes "method:" ++ id) word).0 (right (is_unreserved_identifier id) (bytes_eq (codes "method:" ++ id) word) h))))

pub style_of_method : (word text : List ℕ) → word ≡ codes "method:" ++ text → is_unreserved_identifier text ≡ true → IsStyle word
style_of_method word text is ok = IsStyle.method text (names_it word text is ok)

pub method_style : (word text : List ℕ) → LacksTextAt (codes "fn:") word 0 → word ≡ codes "method:" ++ text → IsStyle word → is_unreserved_identifier text ≡ true
method_style word text other is (IsStyle.function name h) = absurd (true≢false (sym h ∙ no_function word other name))
method_style word text other is (IsStyle.method id h) = let m = named_method word text id is h in ap is_unreserved_identifier (sym m.0) ∙ m.1

pub no_style : (word : List ℕ) → LacksTextAt (codes "fn:") word 0 → LacksTextAt (codes "method:") word 0 → ¬ IsStyle word
no_style word other nor (IsStyle.function name h) = true≢false (sym h ∙ no_function word other name)
no_style word other nor (IsStyle.method id h) = true≢false (sym h ∙ no_method word nor id)

-- ---- the sets of what words name

or_true : (a : Bool) → (a || true) ≡ true
or_true true = refl
or_true false = refl

or_false : (a : Bool) → (a || false) ≡ a
or_false true = refl
or_false false = refl

or_last : (at old : Bool) → cond at true old ≡ (old || at)
or_last true old = sym (or_true old)
or_last false old = sym (or_false old)

any_more : {X : Type 0} (f : X → Bool) (xs : List X) (i : ℕ) (x : X) → i < length xs → x ≡ get_or xs i x → list_any f (take (i + 1) xs) ≡ (list_any f (take i xs) || f x)
any_more f xs i x low e =
    ap (list_any f) (take_more xs i x low) ∙ list_any-append f (take i xs) (get_or xs i x ∷ []) ∙ ap (λ z. list_any f (take i xs) || (f z || false)) (sym e)
    ∙ ap (λ z. list_any f (take i xs) || z) (or_false (f x))

-- a word that names none of the kind
pub none_more : {X : Type 0} (f : X → Bool) (xs : List X) (i : ℕ) (x : X) (held : Bool) → i < length xs → x ≡ get_or xs i x → f x ≡ false → held ≡ list_any f (take i xs) → held ≡ list_any f (take (i + 1) xs)
none_more f xs i x held low e fails h =
    h ∙ sym (any_more f xs i x low e ∙ ap (λ z. list_any f (take i xs) || z) fails ∙ or_false (list_any f (take i xs)))

-- a word that names one, which is put into the set
one_more : {X : Type 0} (f : X → Bool) (xs : List X) (i : ℕ) (x : X) (at old new : Bool) → i < length xs → x ≡ get_or xs i x → at ≡ f x → new ≡ cond at true old → old ≡ list_any f (take i xs) → new ≡ list_any f (take (i + 1) xs)
one_more f xs i x at old new low e same put h =
    put ∙ or_last at old ∙ ap (λ z. z || at) h ∙ ap (λ z. list_any f (take i xs) || z) same ∙ sym (any_more f xs i x low e)

same_function : (word : List ℕ) (name q : Path) → names_function name word ≡ true → is_eq (name_order.ghosts.cmp name q) ≡ names_function q word
same_function word name q h =
    sym (name_laws.matches_eq-law name q)
    ∙ one_answer (name_eq.ghosts.eq name q) (names_function q word) (equal.name name q) (λ k. function_once word name q h k, λ e. ap (λ m. names_function m word) (sym e) ∙ h)

same_method : (word id q : List ℕ) → word_names_method id word ≡ true → is_eq (id_order.ghosts.cmp id q) ≡ word_names_method q word
same_method word id q h =
    sym (id_laws.matches_eq-law id q)
    ∙ one_answer (id_eq.ghosts.eq id q) (word_names_method q word) (equal.text id q) (λ k. method_once word id q h k, λ e. ap (λ m. word_names_method m word) (sym e) ∙ h)

pub function_more : {X : Type 0} (bytes : X → List ℕ) (xs : List X) (i : ℕ) (x : X) (name q : Path) (old new : Bool) → i < length xs → x ≡ get_or xs i x → names_function name (bytes x) ≡ true
    → new ≡ cond (is_eq (name_order.ghosts.cmp name q)) true old → old ≡ list_any (λ w. names_function q (bytes w)) (take i xs) → new ≡ list_any (λ w. names_function q (bytes w)) (take (i + 1) xs)
function_more bytes xs i x name q old new low e h put before =
    one_more (λ w. names_function q (bytes w)) xs i x (is_eq (name_order.ghosts.cmp name q)) old new low e (same_function (bytes x) name q h) put before

pub method_more : {X : Type 0} (bytes : X → List ℕ) (xs : List X) (i : ℕ) (x : X) (id q : List ℕ) (old new : Bool) → i < length xs → x ≡ get_or xs i x → word_names_method id (bytes x) ≡ true
    → new ≡ cond (is_eq (id_order.ghosts.cmp id q)) true old → old ≡ list_any (λ w. word_names_method q (bytes w)) (take i xs) → new ≡ list_any (λ w. word_names_method q (bytes w)) (take (i + 1) xs)
method_more bytes xs i x id q old new low e h put before =
    one_more (λ w. word_names_method q (bytes w)) xs i x (is_eq (id_order.ghosts.cmp id q)) old new low e (same_method (bytes x) id q h) put before

-- ---- all words behind the command

left_step : {X : Type 0} (xs : List X) (i : ℕ) (x : X) → i < length xs → x ≡ get_or xs i x → drop i xs ≡ x ∷ drop (i + 1) xs
left_step xs i x low e = drop-cons xs i x low ∙ ap (λ y. y ∷ drop (suc i) xs) (sym e) ∙ ap (λ n. x ∷ drop n xs) (sym (add-one i))

-- a word that fails, where all pass exactly if those that are left do
pub one_fails : {X : Type 0} (P : X → Type 0) (xs : List X) (i : ℕ) (x : X) → i < length xs → x ≡ get_or xs i x → (AllByRecursion P xs ↔ AllByRecursion P (drop i xs)) → ¬ P x → ¬ AllByRecursion P xs
one_fails P xs i x low e all_left fails all = fails (subst (AllByRecursion P) (left_step xs i x low e) (all_left.0 all)).0

-- a word that passes
pub one_passes : {X : Type 0} (P : X → Type 0) (xs : List X) (i : ℕ) (x : X) → i < length xs → x ≡ get_or xs i x → (AllByRecursion P xs ↔ AllByRecursion P (drop i xs)) → P x
    → AllByRecursion P xs ↔ AllByRecursion P (drop (i + 1) xs)
one_passes P xs i x low e all_left passes =
    (λ all. (subst (AllByRecursion P) (left_step xs i x low e) (all_left.0 all)).1, λ rest. all_left.1 (subst (AllByRecursion P) (sym (left_step xs i x low e)) (passes, rest)))

-- tables of the same functions and methods
pub same_table : (table named : Extensions) → ((name : Path) → table.functions name ≡ named.functions name) → ((id : List ℕ) → table.methods id ≡ named.methods id) → table ≡ named
same_table table named h k = λ i. record { functions = λ name. h name i; methods = λ id. k id i }
