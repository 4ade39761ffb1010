-- Kept names, of texts as the code holds them.
use Rattle.std.proofs.Common.{◌≡◌, ◌≢◌, ℕ, refl, ap, ap₂, sym, ◌∙◌, Bool, true, false, cond, not, ◌||◌, subst, true≢false, List, [], ◌∷◌, ◌++◌, map, filter, bytes_eq, Bor, Some, codes, string_bytes, String, length}
use Rattle.std.proofs.lemmas.List.{nil_from_length}
use Rattle.std.specs.List.{list_any, AllByRecursion}
use Rattle.std.specs.BTreeSet.{BTreeSet, IsFromIterResult}
use Rattle.std.specs.declared.cmp.Ordering.TheVariants.{Less}
use Rattle.std.specs.Ordering.{nat_cmp, is_eq}
use Rattle.std.specs.Cmp.Lexicographic.{nat_list_eq_equiv, slice_cmp}
use Rattle.std.specs.List.Sorted.{IsStrictlySortedBy}
use Rattle.std.proofs.lemmas.Map.Text.{is_eq-slice_cmp}
use Rattle.cedar_syntax.specs.messages.Kept.{TokenName, TokenRules, is_among, without, kept_token_names, AreInOrder, SaysExpected, shown_name}
use Rattle.cedar_syntax.specs.messages.Conjoined.{list_text}

abbrev pub texts : List (Bor (List ℕ)) → List TokenName
texts names = map (λ name. name.now) names

pick : {A B : Type 0} (f : A → B) (b : Bool) (x y : A) → f (cond b x y) ≡ cond b (f x) (f y)
pick f true x y = refl
pick f false x y = refl

chosen : {A : Type 0} {b : Bool} (x y : A) → b ≡ true → cond b x y ≡ x
chosen x y e = ap (λ b. cond b x y) e

other : {A : Type 0} {b : Bool} (x y : A) → b ≡ false → cond b x y ≡ y
other x y e = ap (λ b. cond b x y) e

is_among-texts : (names : List (Bor (List ℕ))) (name : TokenName) → list_any (λ y. bytes_eq y.now name) names ≡ is_among (texts names) name
is_among-texts [] name = refl
is_among-texts (x ∷ xs) name = ap₂ (λ a b. a || b) (nat_list_eq_equiv.symm x.now name) (is_among-texts xs name)

without-texts : (drops : TokenName → Bool) (names : List (Bor (List ℕ))) → texts (filter (λ name. not (drops name.now)) names) ≡ without drops (texts names)
without-texts drops [] = refl
without-texts drops (x ∷ xs) =
    let rest = filter (λ name. not (drops name.now)) xs in
    pick texts (not (drops x.now)) (x ∷ rest) rest ∙ ap (λ l. cond (not (drops x.now)) (x.now ∷ l) l) (without-texts drops xs)

-- what is left after names were dropped, and whether a name is among it
module _ (drops : TokenName → Bool) (names : List (Bor (List ℕ))) (left : List (Bor (List ℕ))) (e : left ≡ filter (λ name. not (drops name.now)) names) where
  pub left-texts : texts left ≡ without drops (texts names)
  left-texts = ap texts e ∙ without-texts drops names

  pub is_among-left : (name : TokenName) (b : Bool) → list_any (λ y. bytes_eq y.now name) left ≡ b → is_among (without drops (texts names)) name ≡ b
  is_among-left name b h = ap (λ l. is_among l name) (sym left-texts) ∙ sym (is_among-texts left name) ∙ h

-- the three ends of the dropping
module _ (rules : TokenRules) (names possible : List (Bor (List ℕ))) (e : possible ≡ filter (λ name. not (rules.impossible name.now)) names) where
  pub kept-possible : list_any (λ y. bytes_eq y.now rules.identifier) possible ≡ false → texts possible ≡ kept_token_names rules (texts names)
  kept-possible h = left-texts rules.impossible names possible e ∙ sym (other _ _ (is_among-left rules.impossible names possible e rules.identifier false h))

  module _ (general : List (Bor (List ℕ))) (h : list_any (λ y. bytes_eq y.now rules.identifier) possible ≡ true) (e' : general ≡ filter (λ name. not (rules.special name.now)) possible) where
    same : without rules.special (texts possible) ≡ without rules.special (without rules.impossible (texts names))
    same = ap (without rules.special) (left-texts rules.impossible names possible e)

    general-texts : texts general ≡ without rules.special (without rules.impossible (texts names))
    general-texts = left-texts rules.special possible general e' ∙ same

    is_among-general : (b : Bool) → list_any (λ y. bytes_eq y.now rules.first_set) general ≡ b → is_among (without rules.special (without rules.impossible (texts names))) rules.first_set ≡ b
    is_among-general b i = ap (λ l. is_among l rules.first_set) (sym same) ∙ is_among-left rules.special possible general e' rules.first_set b i

    identifies : is_among (without rules.impossible (texts names)) rules.identifier ≡ true
    identifies = is_among-left rules.impossible names possible e rules.identifier true h

    pub kept-general : list_any (λ y. bytes_eq y.now rules.first_set) general ≡ true → texts general ≡ kept_token_names rules (texts names)
    kept-general i = general-texts ∙ sym (chosen _ _ identifies ∙ chosen _ _ (is_among-general true i))

    pub kept-rest : (rest : List (Bor (List ℕ))) → list_any (λ y. bytes_eq y.now rules.first_set) general ≡ false
        → rest ≡ filter (λ name. not (rules.first_words name.now)) general → texts rest ≡ kept_token_names rules (texts names)
    kept-rest rest i e'' =
        left-texts rules.first_words general rest e'' ∙ ap (without rules.first_words) general-texts
        ∙ sym (chosen _ _ identifies ∙ other _ _ (is_among-general false i))

-- ---- in byte order

is_among-set : (name : TokenName) (q : Bor (List ℕ)) (names : List (Bor (List ℕ))) → q.now ≡ name → list_any (λ k. is_eq (slice_cmp nat_cmp q.now k.now)) names ≡ is_among (texts names) name
is_among-set name q [] e = refl
is_among-set name q (x ∷ xs) e = ap₂ (λ a b. a || b) (is_eq-slice_cmp q.now x.now ∙ ap (λ n. bytes_eq n x.now) e) (is_among-set name q xs e)

-- ---- what is said

bytes_eq-refl : (name : TokenName) → bytes_eq name name ≡ true
bytes_eq-refl name = nat_list_eq_equiv.refl name

none_kept : (names : List TokenName) → AreInOrder names [] → names ≡ []
none_kept [] o = refl
none_kept (x ∷ xs) o = absurd (true≢false (sym (ap (λ b. b || is_among xs x) (bytes_eq-refl x)) ∙ sym (o.same x)))

some_kept : (x : TokenName) (xs names : List TokenName) → AreInOrder names (x ∷ xs) → names ≢ []
some_kept x xs names o e = true≢false (sym (ap (λ b. b || is_among xs x) (bytes_eq-refl x)) ∙ o.same x ∙ ap (λ l. is_among l x) e)

module _ (rules : TokenRules) (names shown : List TokenName) (o : AreInOrder (kept_token_names rules names) shown) where
  pub says_nothing : shown ≡ [] → kept_token_names rules names ≡ []
  says_nothing e = none_kept (kept_token_names rules names) (subst (AreInOrder (kept_token_names rules names)) e o)

  -- texts are the shown forms of the names
  pub says_text : (first : List ℕ) (others : List (List ℕ)) (text : List ℕ) → first ∷ others ≡ map (shown_name rules) shown
      → text ≡ codes "expected " ++ list_text (codes "or") first others → SaysExpected rules names (Some text)
  says_text first others text e h = said shown o e
    where
      starts : List (List ℕ) → Bool
      starts [] = false
      starts (x ∷ xs) = true

      said_of : List (List ℕ) → List ℕ
      said_of [] = []
      said_of (x ∷ xs) = codes "expected " ++ list_text (codes "or") x xs

      said : (list : List TokenName) → AreInOrder (kept_token_names rules names) list → first ∷ others ≡ map (shown_name rules) list → SaysExpected rules names (Some text)
      said [] o' e' = absurd (true≢false (ap starts e'))
      said (x ∷ xs) o' e' = (some_kept x xs _ o', (x ∷ xs, o', h ∙ ap said_of e'))

abbrev at_name : List ℕ → Bor (List ℕ)
at_name name = record { ref_ptr = (0, 0); now = name }

ascend-texts : (keys : List (Bor (List ℕ))) → IsStrictlySortedBy (λ x y. slice_cmp nat_cmp x.now y.now) keys → IsStrictlySortedBy (slice_cmp nat_cmp) (texts keys)
unfolding IsStrictlySortedBy
ascend-texts [] s = tt
ascend-texts (x ∷ xs) s = (below xs s.0, ascend-texts xs s.1)
  where
    below : (ys : List (Bor (List ℕ))) → AllByRecursion (λ y. slice_cmp nat_cmp x.now y.now ≡ Less) ys → AllByRecursion (λ name. slice_cmp nat_cmp x.now name ≡ Less) (texts ys)
    below [] h = tt
    below (y ∷ ys) h = (h.0, below ys h.1)

-- the keys of a set made of names
pub in_order_texts : (names : List (Bor (List ℕ))) (set : BTreeSet (Bor (List ℕ))) → IsFromIterResult (λ x y. slice_cmp nat_cmp x.now y.now) names set → AreInOrder (texts names) (texts set.keys)
in_order_texts names set h = record {
  ascend = ascend-texts set.keys h.1;
  same = λ name. sym (is_among-set name (at_name name) set.keys refl) ∙ h.0 (at_name name) ∙ is_among-set name (at_name name) names refl;
}

module _ (rules : TokenRules) where
  -- the kept names in order, where the code holds them in a `Vec` that lends a slice
  pub order_of : (names : List TokenName) (slice items shown : List (Bor (List ℕ))) → slice ≡ items → texts items ≡ kept_token_names rules names → AreInOrder (texts slice) (texts shown) → AreInOrder (kept_token_names rules names) (texts shown)
  order_of names slice items shown e h o = subst (λ (l : List TokenName). AreInOrder l (texts shown)) (ap texts e ∙ h) o

  each_shown : (names : List (Bor (List ℕ))) → map (λ name. shown_name rules name.now) names ≡ map (shown_name rules) (texts names)
  each_shown [] = refl
  each_shown (x ∷ xs) = ap (λ l. shown_name rules x.now ∷ l) (each_shown xs)

  module _ {A : Type 0} (slice names : List (Bor (List ℕ))) (strings lent : List (String A)) where
    -- the shown forms, whose first is taken apart
    pub forms_of : (first : String A) (others : List (String A)) → slice ≡ names → map (λ text. string_bytes text) strings ≡ map (λ name. shown_name rules name.now) slice
        → lent ≡ strings → lent ≡ first ∷ others → string_bytes first ∷ map (λ text. string_bytes text) others ≡ map (shown_name rules) (texts names)
    forms_of first others e h f g = ap (map (λ text. string_bytes text)) (sym g ∙ f) ∙ h ∙ ap (map (λ name. shown_name rules name.now)) e ∙ each_shown names

    pub no_names : slice ≡ names → map (λ text. string_bytes text) strings ≡ map (λ name. shown_name rules name.now) slice → lent ≡ strings → length lent ≡ 0 → texts names ≡ []
    no_names e h f g = none names (ap (map (λ text. string_bytes text)) (sym (nil_from_length lent g) ∙ f) ∙ h ∙ ap (map (λ name. shown_name rules name.now)) e)
      where
        is_empty : List (List ℕ) → Bool
        is_empty [] = true
        is_empty (x ∷ xs) = false

        none : (list : List (Bor (List ℕ))) → [] ≡ map (λ name. shown_name rules name.now) list → texts list ≡ []
        none [] t = refl
        none (x ∷ xs) t = absurd (true≢false (ap is_empty t))
