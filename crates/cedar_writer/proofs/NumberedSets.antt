-- What is read of the text of a set whose policies are named as a text's are is the set itself.
use Rattle.std.proofs.Common.{◌≡◌, ℕ, ◌+◌, Bool, true, false, List, [], ◌∷◌, ◌++◌, map, fold, inl, inr, Some, refl, sym, ap, ◌∙◌, true≢false, Bor, IsPermutation, All}
use Rattle.std.specs.List.{AllByRecursion}
use Rattle.std.specs.FinMap.{empty, entries, get, insert, values}
use Rattle.std.proofs.lemmas.List.Elements.{All-from_recursion, All-head, All-tail}
use Rattle.std.proofs.lemmas.List.Sorted.{All-permutation, IsPermutation-sym}
use Rattle.either.specs.declared.Either.{Either}
use Rattle.either.specs.declared.Either.TheVariants.{Left, Right}
use Rattle.cedar_policy_store.specs.declared.template.Template.{Template}
use Rattle.cedar_policy_store.specs.Listing.{IsListing, all_policies, all_lent}
use Rattle.cedar_policy_store.specs.PlaceFree.{Policies, template_meaning, set_meaning, with_values}
use Rattle.cedar_policy_store.specs.PolicyMaps.{PolicyMaps, StandByName}
use Rattle.cedar_policy_conversion.specs.PolicyMeaning.{no_policies, policy_id, with_policy, set_with_policy}
use Rattle.cedar_writer.specs.NumberedSets.{AreNumbered, IsToldByScope, IsNumberedSet}
use Rattle.cedar_writer.specs.WrittenPolicies.{numbered_policies}
use Rattle.cedar_writer.specs.WrittenTexts.{all_parts, templates_lent, numbered}
use Rattle.cedar_writer.proofs.PoliciesWritten.{parts_are}
use Rattle.cedar_writer.proofs.RefilledMaps.{Among, all_among, of_all, got_among, StandUnderNames, all_held, put_named, refilled}

-- ---- static policies and templates in a list of both

abbrev own : Either Template Template → Template
own (Left t) = t
own (Right t) = t

abbrev is_left : Either Template Template → Bool
is_left (Left t) = true
is_left (Right t) = false

abbrev lefts : List (Either Template Template) → List Template
lefts [] = []
lefts (Left t ∷ es) = t ∷ lefts es
lefts (Right t ∷ es) = lefts es

abbrev rights : List (Either Template Template) → List Template
rights [] = []
rights (Left t ∷ es) = rights es
rights (Right t ∷ es) = t ∷ rights es

left_among : (t : Template) (es : List (Either Template Template)) → Among (Left t) es → Among t (lefts es)
left_among t [] a = absurd a
left_among t (Left s ∷ es) (inl e) = inl (ap own e)
left_among t (Left s ∷ es) (inr a) = inr (left_among t es a)
left_among t (Right s ∷ es) (inl e) = absurd (true≢false (sym (ap is_left e)))
left_among t (Right s ∷ es) (inr a) = left_among t es a

right_among : (t : Template) (es : List (Either Template Template)) → Among (Right t) es → Among t (rights es)
right_among t [] a = absurd a
right_among t (Right s ∷ es) (inl e) = inl (ap own e)
right_among t (Right s ∷ es) (inr a) = inr (right_among t es a)
right_among t (Left s ∷ es) (inl e) = absurd (true≢false (ap is_left e))
right_among t (Left s ∷ es) (inr a) = right_among t es a

-- ---- what a set holds

abbrev IsHeld : PolicyMaps → Either Template Template → Type 0
IsHeld set (Left t) = get set.policies t.id ≡ Some t
IsHeld set (Right t) = get set.templates t.id ≡ Some t

lefts_held : (set : PolicyMaps) (es : List (Either Template Template)) → AllByRecursion (IsHeld set) es → AllByRecursion (λ t. get set.policies t.id ≡ Some t) (lefts es)
lefts_held set [] h = tt
lefts_held set (Left t ∷ es) h = (h.0, lefts_held set es h.1)
lefts_held set (Right t ∷ es) h = lefts_held set es h.1

rights_held : (set : PolicyMaps) (es : List (Either Template Template)) → AllByRecursion (IsHeld set) es → AllByRecursion (λ t. get set.templates t.id ≡ Some t) (rights es)
rights_held set [] h = tt
rights_held set (Left t ∷ es) h = rights_held set es h.1
rights_held set (Right t ∷ es) h = (h.0, rights_held set es h.1)

mapped : {A B : Type 0} (P : B → Type 0) (f : A → B) (xs : List A) → AllByRecursion (λ x. P (f x)) xs → AllByRecursion P (map f xs)
mapped P f [] h = tt
mapped P f (x ∷ xs) h = (h.0, mapped P f xs h.1)

pub joined : {A : Type 0} (P : A → Type 0) (xs ys : List A) → AllByRecursion P xs → AllByRecursion P ys → AllByRecursion P (xs ++ ys)
joined P [] ys h k = k
joined P (x ∷ xs) ys h k = (h.0, joined P xs ys h.1 k)

pub front : {A : Type 0} (P : A → Type 0) (xs ys : List A) → AllByRecursion P (xs ++ ys) → AllByRecursion P xs
front P [] ys h = tt
front P (x ∷ xs) ys h = (h.0, front P xs ys h.1)

pub back : {A : Type 0} (P : A → Type 0) (xs ys : List A) → AllByRecursion P (xs ++ ys) → AllByRecursion P ys
back P [] ys h = h
back P (x ∷ xs) ys h = back P xs ys h.1

pub unmapped : {A B : Type 0} (P : B → Type 0) (f : A → B) (xs : List A) → AllByRecursion P (map f xs) → AllByRecursion (λ x. P (f x)) xs
unmapped P f [] h = tt
unmapped P f (x ∷ xs) h = (h.0, unmapped P f xs h.1)

by_recursion : {A : Type 0} (P : A → Type 0) (xs : List A) → All P xs → AllByRecursion P xs
by_recursion P [] h = tt
by_recursion P (x ∷ xs) h = (All-head P x xs h, by_recursion P xs (All-tail P x xs h))

pub moved : {A : Type 0} (P : A → Type 0) (xs ys : List A) → IsPermutation xs ys → AllByRecursion P xs → AllByRecursion P ys
moved P xs ys p h = by_recursion P ys (All-permutation P xs ys p (All-from_recursion P xs h))

named_so : (es : List (List ℕ × Template)) → StandByName es → StandUnderNames (λ t. t.id) es
named_so [] h = tt
named_so (e ∷ es) h = (h.0, named_so es h.1)

module _ (set : PolicyMaps) (is : IsNumberedSet set) where
  all_are_held : AllByRecursion (IsHeld set) (all_policies set)
  all_are_held =
      joined (IsHeld set) (map (λ t. Left t) (values set.policies)) (map (λ t. Right t) (values set.templates))
      (mapped (IsHeld set) (λ t. Left t) (values set.policies) (all_held (λ t. t.id) set.policies (named_so (entries set.policies) is.policies)))
      (mapped (IsHeld set) (λ t. Right t) (values set.templates) (all_held (λ t. t.id) set.templates (named_so (entries set.templates) is.templates)))

  module _ (es : List (Either Template Template)) (same : IsPermutation (all_policies set) es) where
    among_es : AllByRecursion (λ y. Among y es) (all_policies set)
    among_es = moved (λ y. Among y es) es (all_policies set) (IsPermutation-sym (all_policies set) es same) (all_among es)

    left_there : (q : List ℕ) (t : Template) → get set.policies q ≡ Some t → Among t (lefts es)
    left_there q t h =
        left_among t es
        (of_all (λ x. Among (Left x) es) t (values set.policies)
        (unmapped (λ y. Among y es) (λ x. Left x) (values set.policies) (front (λ y. Among y es) (map (λ x. Left x) (values set.policies)) (map (λ x. Right x) (values set.templates)) among_es))
        (got_among set.policies q t h))

    right_there : (q : List ℕ) (t : Template) → get set.templates q ≡ Some t → Among t (rights es)
    right_there q t h =
        right_among t es
        (of_all (λ x. Among (Right x) es) t (values set.templates)
        (unmapped (λ y. Among y es) (λ x. Right x) (values set.templates) (back (λ y. Among y es) (map (λ x. Left x) (values set.policies)) (map (λ x. Right x) (values set.templates)) among_es))
        (got_among set.templates q t h))

    statics_again : fold (put_named (λ t. t.id) template_meaning) empty (lefts es) ≡ with_values template_meaning set.policies
    statics_again = refilled (λ t. t.id) template_meaning set.policies (named_so (entries set.policies) is.policies) (lefts es) (lefts_held set es (moved (IsHeld set) (all_policies set) es same all_are_held)) left_there

    templates_again : fold (put_named (λ t. t.id) template_meaning) empty (rights es) ≡ with_values template_meaning set.templates
    templates_again = refilled (λ t. t.id) template_meaning set.templates (named_so (entries set.templates) is.templates) (rights es) (rights_held set es (moved (IsHeld set) (all_policies set) es same all_are_held)) right_there

-- ---- policies one behind another

apart : (es : List (Either Template Template)) (s : Policies) → AllByRecursion IsToldByScope es
    → fold with_policy s (map (λ e. template_meaning (own e)) es)
    ≡ record { policies = fold (put_named (λ t. t.id) template_meaning) s.policies (lefts es); templates = fold (put_named (λ t. t.id) template_meaning) s.templates (rights es) }
apart [] s h = refl
apart (Left t ∷ es) s h =
    ap (λ b. fold with_policy (set_with_policy b s (template_meaning t)) (map (λ e. template_meaning (own e)) es)) h.0
    ∙ apart es (record s { policies = insert s.policies t.id (template_meaning t) }) h.1
apart (Right t ∷ es) s h =
    ap (λ b. fold with_policy (set_with_policy b s (template_meaning t)) (map (λ e. template_meaning (own e)) es)) h.0
    ∙ apart es (record s { templates = insert s.templates t.id (template_meaning t) }) h.1

by_number : (n : ℕ) (ts : List Template) → AreNumbered n ts → numbered_policies n (all_parts ts) ≡ map template_meaning ts
by_number n [] h = refl
by_number n (t ∷ ts) h =
    ap (λ p. p ∷ numbered_policies (n + 1) (all_parts ts)) (parts_are t (policy_id n) ∙ ap (λ id. record (template_meaning t) { id = id }) (sym h.0))
    ∙ ap (λ ps. template_meaning t ∷ ps) (by_number (n + 1) ts h.1)

as_lent : (all : List (Either (Bor Template) (Bor Template))) → map template_meaning (templates_lent all) ≡ map (λ e. template_meaning (own e)) (all_lent all)
as_lent [] = refl
as_lent (Left t ∷ all) = ap (λ ps. template_meaning t.now ∷ ps) (as_lent all)
as_lent (Right t ∷ all) = ap (λ ps. template_meaning t.now ∷ ps) (as_lent all)

pub set_itself : (set : PolicyMaps) (all : List (Either (Bor Template) (Bor Template))) → IsNumberedSet set → IsListing set all → numbered (templates_lent all) ≡ set_meaning set
set_itself set all is listed =
    let told = moved IsToldByScope (all_policies set) (all_lent all) listed.0 is.told in
    ap (λ ps. fold with_policy no_policies ps) (by_number 0 (templates_lent all) (is.numbered all listed) ∙ as_lent all)
    ∙ apart (all_lent all) no_policies told
    ∙ (λ i. record { policies = statics_again set is (all_lent all) listed.0 i; templates = templates_again set is (all_lent all) listed.0 i })
