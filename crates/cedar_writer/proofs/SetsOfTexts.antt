-- The set that a text means is numbered: its policies stand under the names that they were given,
-- and these are listed in the order in which they were given.
use Rattle.std.proofs.Common.{◌≡◌, ◌<◌, ◌≤◌, ◌+◌, ◌^◌, ℕ, zero, suc, Bool, true, false, List, [], ◌∷◌, ◌++◌, map, fold, length, length-append, sum_by, get_or, is_lt, Bor, Ordering, Less, Equal, Greater, IsPermutation, refl, sym, ap, ◌∙◌, subst, arith}
use Rattle.std.specs.Cmp.Lexicographic.{nat_list_cmp_total}
use Rattle.std.specs.FinMap.{entries, entries-insert, insert, put}
use Rattle.std.specs.FinMap.Entries.{by_order}
use Rattle.std.specs.List.{AllByRecursion}
use Rattle.std.specs.Map.{keys_of}
use Rattle.std.proofs.lemmas.List.{length_push, map_push}
use Rattle.std.proofs.lemmas.List.Sorted.{IsPermutation-append_left, IsPermutation-append_right, IsPermutation-cons, IsPermutation-map, IsPermutation-middle, IsPermutation-refl, IsPermutation-sym, IsPermutation-to_front, IsPermutation-trans, ranks_by, sorted_far, sum_by-IsPermutation}
use Rattle.either.specs.declared.Either.{Either}
use Rattle.either.specs.declared.Either.TheVariants.{Left, Right}
use Rattle.cedar_lexer.specs.Token.{Lexeme}
use Rattle.cedar_lexer.specs.declared.token.TokenKind.TheVariants as kind
use Rattle.cedar_policy_store.specs.declared.template.Template.{Template}
use Rattle.cedar_policy_store.specs.IdOrder.{id_order}
use Rattle.cedar_policy_store.specs.Listing.{IsListing, all_lent, all_policies, lent_id}
use Rattle.cedar_policy_store.specs.PlaceFree.{Policies, Policy, at_value, has_slot_in_scope, set_meaning, template_meaning}
use Rattle.cedar_policy_store.specs.PolicyMaps.{PolicyMaps, StandByName, either_id}
use Rattle.cedar_policy_store.specs.TextMap.{text_order}
use Rattle.cedar_policy_store.proofs.EqualPolicies.{entries-with_values}
use Rattle.cedar_policy_store.proofs.Listed.{id_order_total}
use Rattle.cedar_policy_store.proofs.MapsByText.{tied_texts}
use Rattle.cedar_syntax.specs.tokens.Tokens.{one}
use Rattle.cedar_conversion.specs.strict.Extensions.{Extensions}
use Rattle.cedar_policy_conversion.specs.PolicyMeaning.{no_policies, policy_id, set_with_policy, with_policy}
use Rattle.cedar_policy_conversion.specs.StrictPolicy.{ArePolicies, IsPolicy, IsPolicySet}
use Rattle.cedar_policy_conversion.specs.StrictPolicy as strict
use Rattle.cedar_policy_conversion.proofs.MappedValues.{fold_snoc}
use Rattle.cedar_writer.specs.NumberedSets.{AreNumbered, IsNumberedSet, IsToldByScope}
use Rattle.cedar_writer.specs.WrittenTexts.{template_lent, templates_lent}
use Rattle.cedar_writer.proofs.ByKey.{nothing_in}
use Rattle.cedar_writer.proofs.NamesInOrder.{IsNumbered, by_number, named_number, number, one_number, sorted_rise}
use Rattle.cedar_writer.proofs.NumberedSets.{back, front, joined, moved, unmapped}
use Rattle.cedar_writer.proofs.SameNumbers.{SameSums, count_rises, count_up, one_more, same_numbers}

-- ---- an entry more, under a name that none has

module _ {X : Type 0} (key : List ℕ) (x : X) where
  abbrev IsFree : List (List ℕ × X) → Type 0
  IsFree es = AllByRecursion (λ k. k ≡ key → ⊥) (keys_of es)

  keys_by : (e : List ℕ × X) (es : List (List ℕ × X)) (r : Ordering) → text_order key e.0 ≡ r → (e.0 ≡ key → ⊥) → IsPermutation (key ∷ keys_of es) (keys_of (put text_order key x es))
      → IsPermutation (key ∷ e.0 ∷ keys_of es) (keys_of (by_order r ((key, x) ∷ e ∷ es) ((e.0, x) ∷ es) (e ∷ put text_order key x es)))
  keys_by e es Less t other h = IsPermutation-refl (key ∷ e.0 ∷ keys_of es)
  keys_by e es Equal t other h = absurd (other (sym (tied_texts key e.0 t)))
  keys_by e es Greater t other h =
      IsPermutation-trans (key ∷ e.0 ∷ keys_of es) (e.0 ∷ key ∷ keys_of es) (e.0 ∷ keys_of (put text_order key x es))
      (IsPermutation-sym (e.0 ∷ key ∷ keys_of es) (key ∷ e.0 ∷ keys_of es) (IsPermutation-middle (e.0 ∷ []) key (keys_of es)))
      (IsPermutation-cons e.0 (key ∷ keys_of es) (keys_of (put text_order key x es)) h)

  keys_put : (es : List (List ℕ × X)) → IsFree es → IsPermutation (key ∷ keys_of es) (keys_of (put text_order key x es))
  keys_put [] free = IsPermutation-refl (key ∷ [])
  keys_put (e ∷ es) free = keys_by e es (text_order key e.0) refl free.0 (keys_put es free.1)

  module _ (P : List ℕ × X → Type 0) (new : P (key, x)) where
    each_by : (e : List ℕ × X) (es : List (List ℕ × X)) (r : Ordering) → text_order key e.0 ≡ r → (e.0 ≡ key → ⊥) → AllByRecursion P (e ∷ es) → AllByRecursion P (put text_order key x es)
        → AllByRecursion P (by_order r ((key, x) ∷ e ∷ es) ((e.0, x) ∷ es) (e ∷ put text_order key x es))
    each_by e es Less t other h more = (new, h)
    each_by e es Equal t other h more = absurd (other (sym (tied_texts key e.0 t)))
    each_by e es Greater t other h more = (h.0, more)

    each_put : (es : List (List ℕ × X)) → IsFree es → AllByRecursion P es → AllByRecursion P (put text_order key x es)
    each_put [] free h = (new, tt)
    each_put (e ∷ es) free h = each_by e es (text_order key e.0) refl free.0 h (each_put es free.1 h.1)

-- ---- sets of policies that were named by their numbers

-- the first names, as many
abbrev names_below : ℕ → List (List ℕ)
names_below n = map policy_id (count_up 0 n)

next_name : (n : ℕ) → names_below (suc n) ≡ names_below n ++ policy_id n ∷ []
next_name n = ap (map policy_id) (one_more 0 n ∙ ap (λ k. count_up 0 n ++ k ∷ []) (omega arith)) ∙ map_push policy_id (count_up 0 n) n

others : (n k i : ℕ) → i + k ≤ n → n < 2 ^ 64 → AllByRecursion (λ id. id ≡ policy_id n → ⊥) (map policy_id (count_up i k))
others n zero i l small = tt
others n (suc k) i l small =
    let not_it : i ≡ n → ⊥ = λ e. omega (arith, e, l) in
    ((λ same. not_it (one_number i n (omega (arith, l, small)) small same)), others n k (i + 1) (omega (arith, l)) small)

-- it stands under its own name, with a slot in its scope or without
abbrev Stands : Bool → List ℕ × Policy → Type 0
Stands b e = (e.1.id ≡ e.0) × (has_slot_in_scope e.1 ≡ b)

abbrev names : Policies → List (List ℕ)
names set = keys_of (entries set.policies) ++ keys_of (entries set.templates)

record IsFilled (n : ℕ) (set : Policies) : Type 0 where
  named : IsPermutation (names_below n) (names set)
  policies : AllByRecursion (Stands false) (entries set.policies)
  templates : AllByRecursion (Stands true) (entries set.templates)

none_filled : IsFilled 0 no_policies
none_filled = record {
  named = subst (IsPermutation []) (sym (λ i. keys_of (nothing_in Policy i) ++ keys_of (nothing_in Policy i))) (IsPermutation-refl []);
  policies = subst (AllByRecursion (Stands false)) (sym (nothing_in Policy)) tt;
  templates = subst (AllByRecursion (Stands true)) (sym (nothing_in Policy)) tt;
}

module _ (n : ℕ) (small : n < 2 ^ 64) (set : Policies) (p : Policy) (name : p.id ≡ policy_id n) (filled : IsFilled n set) where
  free : AllByRecursion (λ k. k ≡ p.id → ⊥) (names set)
  free = subst (λ id. AllByRecursion (λ k. k ≡ id → ⊥) (names set)) (sym name) (moved (λ k. k ≡ policy_id n → ⊥) (names_below n) (names set) filled.named (others n n 0 (omega arith) small))

  all_named : (ids : List (List ℕ)) → IsPermutation (p.id ∷ names set) ids → IsPermutation (names_below (suc n)) ids
  all_named ids h =
      subst (λ ns. IsPermutation ns ids) (sym (next_name n))
      (IsPermutation-trans (names_below n ++ policy_id n ∷ []) (policy_id n ∷ names_below n) ids
      (IsPermutation-to_front (names_below n) (policy_id n))
      (IsPermutation-trans (policy_id n ∷ names_below n) (policy_id n ∷ names set) ids
      (IsPermutation-cons (policy_id n) (names_below n) (names set) filled.named)
      (subst (λ id. IsPermutation (id ∷ names set) ids) name h)))

  filled_by : (b : Bool) → has_slot_in_scope p ≡ b → IsFilled (suc n) (set_with_policy b set p)
  filled_by false none =
      let here : IsFree p.id p (entries set.policies) = front (λ k. k ≡ p.id → ⊥) (keys_of (entries set.policies)) (keys_of (entries set.templates)) free in
      let is = entries-insert nat_list_cmp_total set.policies p.id p in
      record {
        named = all_named (keys_of (entries (insert set.policies p.id p)) ++ keys_of (entries set.templates))
            (subst (λ es. IsPermutation (p.id ∷ names set) (keys_of es ++ keys_of (entries set.templates))) (sym is)
            (IsPermutation-append_left (keys_of (entries set.templates)) (p.id ∷ keys_of (entries set.policies)) (keys_of (put text_order p.id p (entries set.policies))) (keys_put p.id p (entries set.policies) here)));
        policies = subst (AllByRecursion (Stands false)) (sym is) (each_put p.id p (Stands false) (refl, none) (entries set.policies) here filled.policies);
        templates = filled.templates;
      }
  filled_by true some =
      let here : IsFree p.id p (entries set.templates) = back (λ k. k ≡ p.id → ⊥) (keys_of (entries set.policies)) (keys_of (entries set.templates)) free in
      let is = entries-insert nat_list_cmp_total set.templates p.id p in
      record {
        named = all_named (keys_of (entries set.policies) ++ keys_of (entries (insert set.templates p.id p)))
            (subst (λ es. IsPermutation (p.id ∷ names set) (keys_of (entries set.policies) ++ keys_of es)) (sym is)
            (IsPermutation-trans (p.id ∷ names set) (keys_of (entries set.policies) ++ p.id ∷ keys_of (entries set.templates)) (keys_of (entries set.policies) ++ keys_of (put text_order p.id p (entries set.templates)))
            (IsPermutation-sym (keys_of (entries set.policies) ++ p.id ∷ keys_of (entries set.templates)) (p.id ∷ names set) (IsPermutation-middle (keys_of (entries set.policies)) p.id (keys_of (entries set.templates))))
            (IsPermutation-append_right (keys_of (entries set.policies)) (p.id ∷ keys_of (entries set.templates)) (keys_of (put text_order p.id p (entries set.templates))) (keys_put p.id p (entries set.templates) here))));
        policies = filled.policies;
        templates = subst (AllByRecursion (Stands true)) (sym is) (each_put p.id p (Stands true) (refl, some) (entries set.templates) here filled.templates);
      }

  filled_more : IsFilled (suc n) (with_policy set p)
  filled_more = filled_by (has_slot_in_scope p) refl

-- ---- what tokens mean

module _ {table : Extensions} {limit : ℕ} where
  has_name : {id : List ℕ} {ts : List Lexeme} {p : Policy} → IsPolicy table limit id ts p → p.id ≡ id
  has_name (strict.policy p l m e a r f s c) = refl

  has_tokens : {id : List ℕ} {ts : List Lexeme} {p : Policy} → IsPolicy table limit id ts p → 0 < length ts
  has_tokens (strict.policy {ts = ts} {us = us} {vs = vs} {k = k} p l m e a r f s c) =
      omega (arith, length_push (ts ++ one k p ++ one kind.OpenParen l ++ us ++ one kind.CloseParen m ++ vs) (record { kind = kind.Semicolon; start = e.start; end = e.end; text = e.text }))

  all_filled : {ts : List Lexeme} {ps : List Policy} → ArePolicies table limit ts ps → length ts < 2 ^ 64 → (length ps ≤ length ts) × IsFilled (length ps) (fold with_policy no_policies ps)
  all_filled strict.no_policy h = (omega arith, none_filled)
  all_filled (strict.more_policies {ts = ts} {us = us} {ps = ps} {p = p} rest is) h =
      let long = length-append ts us in
      let some = has_tokens is in
      let so_far = all_filled rest (omega (arith, long, h)) in
      let one_longer : suc (length ps) ≡ length (ps ++ p ∷ []) = omega (arith, length_push ps p) in
      let small : length ps < 2 ^ 64 = omega (arith, so_far.0, long, h) in (
        omega (arith, one_longer, so_far.0, long, some),
        subst (λ n. IsFilled n (fold with_policy no_policies (ps ++ p ∷ []))) one_longer
            (subst (IsFilled (suc (length ps))) (sym (fold_snoc with_policy no_policies ps p))
            (filled_more (length ps) small (fold with_policy no_policies ps) p (has_name is) so_far.1)),
      )

  set_filled : {ts : List Lexeme} {set : Policies} → IsPolicySet table limit ts set → length ts < 2 ^ 64 → (n : ℕ) × (n < 2 ^ 64) × IsFilled n set
  set_filled (strict.policy_set {ps = ps} h) small = let all = all_filled h small in (length ps, omega (arith, all.0, small), all.1)

-- ---- a set whose meaning is such a one

by_name : (b : Bool) (es : List (List ℕ × Template)) → AllByRecursion (Stands b) (map (at_value template_meaning) es) → StandByName es
by_name b [] h = tt
by_name b (e ∷ es) h = (h.0.0, by_name b es h.1)

statics_told : (es : List (List ℕ × Template)) → AllByRecursion (Stands false) (map (at_value template_meaning) es) → AllByRecursion IsToldByScope (map (λ t. Left t) (map (λ e. e.1) es))
statics_told [] h = tt
statics_told (e ∷ es) h = (h.0.1, statics_told es h.1)

templates_told : (es : List (List ℕ × Template)) → AllByRecursion (Stands true) (map (at_value template_meaning) es) → AllByRecursion IsToldByScope (map (λ t. Right t) (map (λ e. e.1) es))
templates_told [] h = tt
templates_told (e ∷ es) h = (h.0.1, templates_told es h.1)

static_ids : (es : List (List ℕ × Template)) (rest : List (Either Template Template)) → StandByName es → map either_id (map (λ t. Left t) (map (λ e. e.1) es) ++ rest) ≡ keys_of (map (at_value template_meaning) es) ++ map either_id rest
static_ids [] rest h = refl
static_ids (e ∷ es) rest h = λ i. h.0 i ∷ static_ids es rest h.1 i

template_ids : (es : List (List ℕ × Template)) → StandByName es → map either_id (map (λ t. Right t) (map (λ e. e.1) es)) ≡ keys_of (map (at_value template_meaning) es)
template_ids [] h = refl
template_ids (e ∷ es) h = λ i. h.0 i ∷ template_ids es h.1 i

-- ---- its listing

numbers_again : (i k : ℕ) → i + k ≤ 2 ^ 64 → map number (map policy_id (count_up i k)) ≡ count_up i k
numbers_again i zero l = refl
numbers_again i (suc k) l = λ t. named_number i (omega (arith, l)) t ∷ numbers_again (i + 1) k (omega (arith, l)) t

all_numbered : (i k : ℕ) → i + k ≤ 2 ^ 64 → AllByRecursion IsNumbered (map policy_id (count_up i k))
all_numbered i zero l = tt
all_numbered i (suc k) l = ((i, omega (arith, l), refl), all_numbered (i + 1) k (omega (arith, l)))

lent_ids : (all : List (Either (Bor Template) (Bor Template))) → map either_id (all_lent all) ≡ map lent_id all
lent_ids [] = refl
lent_ids (p ∷ all) = ap (λ ids. lent_id p ∷ ids) (lent_ids all)

lent_name : (p : Either (Bor Template) (Bor Template)) → (template_lent p).id ≡ lent_id p
lent_name (Left t) = refl
lent_name (Right t) = refl

are_numbered : (i k : ℕ) (all : List (Either (Bor Template) (Bor Template))) → AllByRecursion IsNumbered (map lent_id all) → map number (map lent_id all) ≡ count_up i k → AreNumbered i (templates_lent all)
are_numbered i k [] h e = tt
are_numbered i zero (p ∷ all) h e = cc
are_numbered i (suc k) (p ∷ all) h e =
    let first : number (lent_id p) ≡ i = cc in
    (lent_name p ∙ by_number (lent_id p) h.0 ∙ ap policy_id first, are_numbered (i + 1) k all h.1 cc)

module _ (n : ℕ) (small : n < 2 ^ 64) (all : List (Either (Bor Template) (Bor Template))) (same : IsPermutation (names_below n) (map lent_id all)) where
  listed_names : AllByRecursion IsNumbered (map lent_id all)
  listed_names = moved IsNumbered (names_below n) (map lent_id all) same (all_numbered 0 n (omega (arith, small)))

  same_sums : SameSums (map number (map lent_id all)) (count_up 0 n)
  same_sums f =
      sum_by-IsPermutation f (map number (names_below n)) (map number (map lent_id all)) (IsPermutation-map number (names_below n) (map lent_id all) same)
      ∙ ap (sum_by f) (numbers_again 0 n (omega (arith, small)))

  in_order : ((i j : ℕ) (d : Either (Bor Template) (Bor Template)) → i ≤ j → j < length all → is_lt (id_order (lent_id (get_or all j d)) (lent_id (get_or all i d))) ≡ false) → AreNumbered 0 (templates_lent all)
  in_order sorted =
      are_numbered 0 n all listed_names
      (same_numbers (map number (map lent_id all)) (count_up 0 n)
      (sorted_rise lent_id all (unmapped IsNumbered lent_id all listed_names) sorted) (count_rises 0 n) same_sums)

module _ (set : PolicyMaps) (n : ℕ) (small : n < 2 ^ 64) (filled : IsFilled n (set_meaning set)) where
  policies_stand : AllByRecursion (Stands false) (map (at_value template_meaning) (entries set.policies))
  policies_stand = subst (AllByRecursion (Stands false)) (entries-with_values template_meaning set.policies) filled.policies

  templates_stand : AllByRecursion (Stands true) (map (at_value template_meaning) (entries set.templates))
  templates_stand = subst (AllByRecursion (Stands true)) (entries-with_values template_meaning set.templates) filled.templates

  own_names : names (set_meaning set) ≡ map either_id (all_policies set)
  own_names =
      (λ i. keys_of (entries-with_values template_meaning set.policies i) ++ keys_of (entries-with_values template_meaning set.templates i))
      ∙ ap (λ ids. keys_of (map (at_value template_meaning) (entries set.policies)) ++ ids) (sym (template_ids (entries set.templates) (by_name true (entries set.templates) templates_stand)))
      ∙ sym (static_ids (entries set.policies) (map (λ t. Right t) (map (λ e. e.1) (entries set.templates))) (by_name false (entries set.policies) policies_stand))

  listed_ids : (all : List (Either (Bor Template) (Bor Template))) → IsListing set all → IsPermutation (names_below n) (map lent_id all)
  listed_ids all listed =
      IsPermutation-trans (names_below n) (map either_id (all_policies set)) (map lent_id all)
      (subst (IsPermutation (names_below n)) own_names filled.named)
      (subst (IsPermutation (map either_id (all_policies set))) (lent_ids all) (IsPermutation-map either_id (all_policies set) (all_lent all) listed.0))

  set_numbered : IsNumberedSet set
  set_numbered = record {
    policies = by_name false (entries set.policies) policies_stand;
    templates = by_name true (entries set.templates) templates_stand;
    told = joined IsToldByScope (map (λ t. Left t) (map (λ e. e.1) (entries set.policies))) (map (λ t. Right t) (map (λ e. e.1) (entries set.templates)))
        (statics_told (entries set.policies) policies_stand) (templates_told (entries set.templates) templates_stand);
    numbered = λ all listed. in_order n small all (listed_ids all listed) (sorted_far (λ x y. is_lt (id_order (lent_id x) (lent_id y))) (ranks_by id_order_total lent_id) all listed.1);
  }

pub numbered_set : (table : Extensions) (limit : ℕ) (ts : List Lexeme) (set : PolicyMaps) → length ts < 2 ^ 64 → IsPolicySet table limit ts (set_meaning set) → IsNumberedSet set
numbered_set table limit ts set small means =
    let filled = set_filled means small in
    set_numbered set filled.0 filled.1 filled.2
