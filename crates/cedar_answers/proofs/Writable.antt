-- What a text means can be written: no policy of its set is refused for what no text means.
use Rattle.std.proofs.Common.{◌≡◌, ℕ, List, [], ◌∷◌, ◌++◌, map, length, Bool, true, false, inl, inr, refl, sym, ap, subst, ◌∙◌, arith}
use denote.Ref.{Bor}
use Rattle.std.specs.declared.cmp.Ordering.{Ordering}
use Rattle.std.specs.declared.cmp.Ordering.TheVariants.{Less, Equal, Greater}
use Rattle.std.specs.Cmp.Lexicographic.{nat_list_cmp_total}
use Rattle.std.specs.FinMap.{FinMap, empty, entries, entries-insert, insert, len-empty, len-entries, put, values}
use Rattle.std.specs.FinMap.Entries.{by_order}
use Rattle.std.specs.List.{AllByRecursion, fold}
use Rattle.std.specs.List.Sorted.{IsPermutation}
use Rattle.std.proofs.lemmas.List.Elements.{All-from_recursion, recursion_from_All}
use Rattle.std.proofs.lemmas.Map.Views.{All-map-IsPermutation}
use Rattle.either.specs.declared.Either.{Either}
use Rattle.either.specs.declared.Either.TheVariants.{Left, Right}
use Rattle.cedar_lexer.specs.Cut.{Layout}
use Rattle.cedar_lexer.specs.Cut as cut
use Rattle.cedar_lexer.specs.Token.{Lexeme}
use Rattle.cedar_lexer.specs.Words.{AreSpelled, words_of}
use Rattle.cedar_policy_store.specs.declared.template.Template.{Template}
use Rattle.cedar_policy_store.specs.Listing.{all_lent, all_policies}
use Rattle.cedar_policy_store.specs.PlaceFree.{Policies, Policy, at_value, has_slot_in_scope, set_meaning, template_meaning, with_values}
use Rattle.cedar_policy_store.specs.PolicyMaps.{PolicyMaps}
use Rattle.cedar_policy_store.specs.TextMap.{text_order}
use Rattle.cedar_policy_store.proofs.EqualPolicies.{entries-with_values}
use Rattle.cedar_syntax.specs.tokens.Signs.{sign_limit}
use Rattle.cedar_grammar.proofs.again.Rereading.{halves}
use Rattle.cedar_conversion.specs.strict.Extensions.{Extensions}
use Rattle.cedar_policy_conversion.specs.PolicyMeaning.{no_policies, policy_id, set_with_policy, with_policy}
use Rattle.cedar_policy_conversion.specs.StrictPolicy.{ArePolicies, IsPolicy, IsPolicySet}
use Rattle.cedar_policy_conversion.specs.StrictPolicy as strict
use Rattle.cedar_policy_conversion.proofs.MappedValues.{fold_snoc}
use Rattle.cedar_policy_parser.specs.meaning.Formatted.{MeansSet}
use Rattle.cedar_writer.specs.WrittenTexts.{HasNoPolicyText, HasNoTextOfSet, OneHasNoText, called, templates_lent}
use Rattle.cedar_writer.specs.declared.refusal.NotWritable.{NotWritable as Reason}
use Rattle.cedar_writer.specs.declared.refusal.NotWritten.{NotWritten}
use Rattle.cedar_writer.specs.declared.refusal.NotWritten.TheVariants.{NotWritable}

-- ---- tokens of a text are spelled

spelled_tokens : {source : List ℕ} {i k : ℕ} {ts : List Lexeme} → Layout source i ts k → AreSpelled (words_of ts)
spelled_tokens cut.nothing = tt
spelled_tokens (cut.skip s more) = spelled_tokens more
spelled_tokens (cut.token t more) = (t.spelled.spells, spelled_tokens more)

-- ---- values of a map, one more

module _ {X : Type 0} (P : X → Type 0) where
  abbrev Each : List (List ℕ × X) → Type 0
  Each es = AllByRecursion P (map (λ e. e.1) es)

  by_each : (r : Ordering) (a b c : List (List ℕ × X)) → Each a → Each b → Each c → Each (by_order r a b c)
  by_each Less a b c h j k = h
  by_each Equal a b c h j k = j
  by_each Greater a b c h j k = k

  each_put : (key : List ℕ) (x : X) (es : List (List ℕ × X)) → P x → Each es → Each (put text_order key x es)
  each_put key x [] p h = (p, tt)
  each_put key x (e ∷ es) p h = by_each (text_order key e.0) ((key, x) ∷ e ∷ es) ((e.0, x) ∷ es) (e ∷ put text_order key x es) (p, h) (p, h.1) (h.0, each_put key x es p h.1)

  each_insert : (m : FinMap text_order X) (key : List ℕ) (x : X) → P x → Each (entries m) → Each (entries (insert m key x))
  each_insert m key x p h = subst Each (sym (entries-insert nat_list_cmp_total m key x)) (each_put key x (entries m) p h)

  each_of_none : (es : List (List ℕ × X)) → length es ≡ 0 → Each es
  each_of_none [] h = tt
  each_of_none (e ∷ es) h = absurd (omega (arith, h))

  each_empty : Each (entries (empty {X = X} {R = text_order}))
  each_empty = each_of_none (entries (empty {X = X} {R = text_order})) (sym (len-entries (empty {X = X} {R = text_order})) ∙ len-empty text_order X)

-- ---- what tokens mean, policy by policy

module _ (table : Extensions) (limit : ℕ) where
  -- spelled tokens mean the policy
  abbrev IsMeant : Policy → Type 0
  IsMeant p = (ts : List Lexeme) × (id : List ℕ) × AreSpelled (words_of ts) × IsPolicy table limit id ts p

  -- of both maps
  abbrev AreMeant : Policies → Type 0
  AreMeant set = Each IsMeant (entries set.policies) × Each IsMeant (entries set.templates)

  meant_more : (b : Bool) (set : Policies) (p : Policy) → IsMeant p → AreMeant set → AreMeant (set_with_policy b set p)
  meant_more true set p is h = (h.0, each_insert IsMeant set.templates p.id p is h.1)
  meant_more false set p is h = (each_insert IsMeant set.policies p.id p is h.0, h.1)

  all_meant : {ts : List Lexeme} {ps : List Policy} → ArePolicies table limit ts ps → AreSpelled (words_of ts) → AreMeant (fold with_policy no_policies ps)
  all_meant strict.no_policy h = (each_empty IsMeant, each_empty IsMeant)
  all_meant (strict.more_policies {ts = ts} {us = us} {ps = ps} {p = p} rest is) h =
      let both = halves ts us h in
      subst AreMeant (sym (fold_snoc with_policy no_policies ps p))
      (meant_more (has_slot_in_scope p) (fold with_policy no_policies ps) p (us, policy_id (length ps), both.1, is) (all_meant rest both.0))

  set_meant : {ts : List Lexeme} {set : Policies} → IsPolicySet table limit ts set → AreSpelled (words_of ts) → AreMeant set
  set_meant (strict.policy_set h) spelled = all_meant h spelled

  -- ---- a set's own policies, and those that it lends

  abbrev IsMeantTemplate : Template → Type 0
  IsMeantTemplate t = IsMeant (template_meaning t)

  own_values : (es : List (List ℕ × Template)) → Each IsMeant (map (at_value template_meaning) es) → AllByRecursion IsMeantTemplate (map (λ e. e.1) es)
  own_values [] h = tt
  own_values (e ∷ es) h = (h.0, own_values es h.1)

  own_meant : (m : FinMap text_order Template) → Each IsMeant (entries (with_values template_meaning m)) → AllByRecursion IsMeantTemplate (values m)
  own_meant m h = own_values (entries m) (subst (Each IsMeant) (entries-with_values template_meaning m) h)

  abbrev either_template : Either Template Template → Template
  either_template (Left t) = t
  either_template (Right t) = t

  abbrev IsMeantEither : Either Template Template → Type 0
  IsMeantEither p = IsMeantTemplate (either_template p)

  templates_too : (ts : List Template) → AllByRecursion IsMeantTemplate ts → AllByRecursion IsMeantEither (map (λ t. Right t) ts)
  templates_too [] h = tt
  templates_too (t ∷ ts) h = (h.0, templates_too ts h.1)

  policies_too : (ts : List Template) (rest : List (Either Template Template)) → AllByRecursion IsMeantTemplate ts → AllByRecursion IsMeantEither rest → AllByRecursion IsMeantEither (map (λ t. Left t) ts ++ rest)
  policies_too [] rest h k = k
  policies_too (t ∷ ts) rest h k = (h.0, policies_too ts rest h.1 k)

  both_meant : (set : PolicyMaps) → AreMeant (set_meaning set) → AllByRecursion IsMeantEither (all_policies set)
  both_meant set h = policies_too (values set.policies) (map (λ t. Right t) (values set.templates)) (own_meant set.policies h.0) (templates_too (values set.templates) (own_meant set.templates h.1))

  same_list : {X : Type 0} (xs : List X) → map (λ x. x) xs ≡ xs
  same_list [] = refl
  same_list (x ∷ xs) = ap (λ ys. x ∷ ys) (same_list xs)

  permuted : (xs ys : List (Either Template Template)) → IsPermutation xs ys → AllByRecursion IsMeantEither xs → AllByRecursion IsMeantEither ys
  permuted xs ys p h =
      subst (AllByRecursion IsMeantEither) (same_list ys)
      (recursion_from_All IsMeantEither (map (λ x. x) ys)
      (All-map-IsPermutation (λ x. x) IsMeantEither xs ys p (All-from_recursion IsMeantEither (map (λ x. x) xs) (subst (AllByRecursion IsMeantEither) (sym (same_list xs)) h))))

  lent_meant : (all : List (Either (Bor Template) (Bor Template))) → AllByRecursion IsMeantEither (all_lent all) → AllByRecursion IsMeantTemplate (templates_lent all)
  lent_meant [] h = tt
  lent_meant (Left t ∷ all) h = (h.0, lent_meant all h.1)
  lent_meant (Right t ∷ all) h = (h.0, lent_meant all h.1)

  -- ---- none is refused

  called_so : {id : List ℕ} {ts : List Lexeme} {p : Policy} → IsPolicy table limit id ts p → called id p ≡ p
  called_so (strict.policy p l m e a r f s c) = refl

  not_refused : (t : Template) (what : Reason) → IsMeantTemplate t → HasNoPolicyText table limit (template_meaning t) (NotWritable what) → ⊥
  not_refused t what meant refused =
      refused.1 meant.0 meant.1 meant.2 (subst (IsPolicy table limit meant.1 meant.0) (sym (called_so meant.3)) meant.3)

  none_refused : (ts : List Template) (what : Reason) → AllByRecursion IsMeantTemplate ts → OneHasNoText table limit ts (NotWritable what) → ⊥
  none_refused [] what h refused = refused
  none_refused (t ∷ ts) what h (inl refused) = not_refused t what h.0 refused
  none_refused (t ∷ ts) what h (inr refused) = none_refused ts what h.1 refused

-- the set that a text means isn't refused
pub meant_is_written : (table : Extensions) (text : List ℕ) (set : PolicyMaps) (why : NotWritten) (what : Reason) → MeansSet table text (set_meaning set) → why ≡ NotWritable what → HasNoTextOfSet table sign_limit set why → ⊥
meant_is_written table text set why what means is why_refused =
    let refused : HasNoTextOfSet table sign_limit set (NotWritable what) = subst (HasNoTextOfSet table sign_limit set) is why_refused in
    let meant = set_meant table sign_limit means.2 (spelled_tokens means.1) in
    let lent = lent_meant table sign_limit refused.0 (permuted table sign_limit (all_policies set) (all_lent refused.0) refused.1.0 (both_meant table sign_limit set meant)) in
    none_refused table sign_limit (templates_lent refused.0) what lent refused.2
