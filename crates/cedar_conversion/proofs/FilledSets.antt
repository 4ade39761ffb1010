-- A set that a loop fills from words: what it holds behind one word more.
use Rattle.std.proofs.Common.{◌≡◌, ◌<◌, ◌+◌, ℕ, Bool, true, false, ◌&&◌, ◌||◌, cond, List, [], ◌∷◌, length, take, get_or, Decides, refl, sym, ap, ◌∙◌, true≢false, bytes_eq, is_eq}
use Rattle.std.specs.Bool.{one_answer}
use Rattle.std.specs.List.{list_any}
use Rattle.std.proofs.lemmas.List.{take_more}
use Rattle.std.proofs.lemmas.List.Folds.{list_any-append}
use Rattle.cedar_expressions.specs.Path.{Path, is_unreserved_identifier}
use Rattle.cedar_expressions.specs.contracts.names.NameOrd.TheImpl as name_order
use Rattle.cedar_expressions.specs.contracts.names.NameOrd.TheImpl.Laws as name_laws
use Rattle.cedar_expressions.specs.contracts.names.NamePartialEq.TheImpl as name_eq
use Rattle.cedar_expressions.specs.contracts.ids.UnreservedIdOrd.TheImpl as id_order
use Rattle.cedar_expressions.specs.contracts.ids.UnreservedIdOrd.TheImpl.Laws as id_laws
use Rattle.cedar_expressions.specs.contracts.ids.UnreservedIdPartialEq.TheImpl as id_eq
use Rattle.cedar_expressions.proofs.Deciding.{both, through}
use Rattle.cedar_expressions.proofs.EqualParts as equal
use Rattle.cedar_conversion.specs.strict.CedarExtensions.{is_empty_namespace, is_word_alone}

-- ---- lists of tests

or_true : (a : Bool) → (a || true) ≡ true
or_true true = refl
or_true false = refl

or_false : (a : Bool) → (a || false) ≡ a
or_false true = refl
or_false false = refl

or_last : (at old : Bool) → cond at true old ≡ (old || at)
or_last true old = sym (or_true old)
or_last false old = sym (or_false old)

any_more : {X : Type 0} (f : X → Bool) (xs : List X) (i : ℕ) (x : X) → i < length xs → list_any f (take (i + 1) xs) ≡ (list_any f (take i xs) || f (get_or xs i x))
any_more f xs i x low =
    ap (list_any f) (take_more xs i x low) ∙ list_any-append f (take i xs) (get_or xs i x ∷ []) ∙ ap (λ z. list_any f (take i xs) || z) (or_false (f (get_or xs i x)))

-- a word that isn't put into the set
pub none_more : {X : Type 0} (f : X → Bool) (xs : List X) (i : ℕ) (x : X) (held : Bool) → i < length xs → f (get_or xs i x) ≡ false → held ≡ list_any f (take i xs)
    → held ≡ list_any f (take (i + 1) xs)
none_more f xs i x held low fails h =
    h ∙ sym (any_more f xs i x low ∙ ap (λ z. list_any f (take i xs) || z) fails ∙ or_false (list_any f (take i xs)))

-- a word that is put into it
pub one_more : {X : Type 0} (f : X → Bool) (xs : List X) (i : ℕ) (x : X) (at old new : Bool) → i < length xs → at ≡ f (get_or xs i x) → new ≡ cond at true old
    → old ≡ list_any f (take i xs) → new ≡ list_any f (take (i + 1) xs)
one_more f xs i x at old new low same put h =
    put ∙ or_last at old ∙ ap (λ z. z || at) h ∙ ap (λ z. list_any f (take i xs) || z) same ∙ sym (any_more f xs i x low)

-- ---- what a word names

empty : (ids : List (List ℕ)) → Decides (is_empty_namespace ids) ([] ≡ ids)
empty [] = (λ h. refl, λ e. refl)
empty (id ∷ ids) = (λ h. absurd (true≢false (sym h)), λ e. sym (ap is_empty_namespace e))

alone : (word : List ℕ) (q : Path) → Decides (is_word_alone q word) (record { path = []; id = word } ≡ q)
alone word q =
    through (λ e i. record { path = e.0 i; id = (sym e.1) i }) (λ e. (λ i. (e i).path, sym (λ i. (e i).id)))
    (both (is_empty_namespace q.path) (bytes_eq q.id word) (empty q.path) (equal.text q.id word))

pub same_function : (word : List ℕ) (q : Path) → is_unreserved_identifier word ≡ true
    → is_eq (name_order.ghosts.cmp (record { path = []; id = word }) q) ≡ (is_unreserved_identifier word && is_word_alone q word)
same_function word q ok =
    let name : Path = record { path = []; id = word } in
    sym (name_laws.matches_eq-law name q) ∙ one_answer (name_eq.ghosts.eq name q) (is_word_alone q word) (equal.name name q) (alone word q)
    ∙ ap (λ b. b && is_word_alone q word) (sym ok)

flipped : (word q : List ℕ) → Decides (bytes_eq q word) (word ≡ q)
flipped word q = through (λ e. sym e) (λ e. sym e) (equal.text q word)

pub same_method : (word q : List ℕ) → is_unreserved_identifier word ≡ true
    → is_eq (id_order.ghosts.cmp word q) ≡ (is_unreserved_identifier word && bytes_eq q word)
same_method word q ok =
    sym (id_laws.matches_eq-law word q) ∙ one_answer (id_eq.ghosts.eq word q) (bytes_eq q word) (equal.text word q) (flipped word q)
    ∙ ap (λ b. b && bytes_eq q word) (sym ok)
