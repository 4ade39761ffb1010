-- Names in the order in which a set lists them, and what is listed.
use Rattle.std.proofs.Common.{◌≡◌, List, [], ◌∷◌, ◌++◌, map, refl, ap, Bor}
use Rattle.std.proofs.lemmas.Cmp.{nat_cmp_total, nat_list_cmp_total, on_total, then_total}
use Rattle.std.specs.Cmp.{IsTotalOrder}
use Rattle.either.specs.declared.Either.{Either}
use Rattle.either.specs.declared.Either.TheVariants.{Left, Right}
use Rattle.cedar_policy_store.specs.declared.template.Template.{Template}
use Rattle.cedar_policy_store.specs.IdOrder.{trailing_digits, stem, digits_value, id_order}
use Rattle.cedar_policy_store.specs.Listing.{lent_policy, all_lent}

pub id_order_total : IsTotalOrder id_order
id_order_total = then_total (on_total stem nat_list_cmp_total) (then_total (on_total (λ id. digits_value (trailing_digits id)) nat_cmp_total) nat_list_cmp_total)

-- ---- what is listed

abbrev pub as_policies : List Template → List (Either Template Template)
as_policies ts = map (λ t. Left t) ts

abbrev pub as_templates : List Template → List (Either Template Template)
as_templates ts = map (λ t. Right t) ts

abbrev pub lent_policies : List (Bor Template) → List (Either Template Template)
lent_policies ts = map (λ (t : Bor Template). Left t.now) ts

abbrev pub lent_templates : List (Bor Template) → List (Either Template Template)
lent_templates ts = map (λ (t : Bor Template). Right t.now) ts

-- one more at the end
pub lent_last : (ps : List (Either (Bor Template) (Bor Template))) (p : Either (Bor Template) (Bor Template)) → all_lent (ps ++ p ∷ []) ≡ all_lent ps ++ lent_policy p ∷ []
lent_last [] p = refl
lent_last (q ∷ ps) p = ap (λ t. lent_policy q ∷ t) (lent_last ps p)

pub policies_last : (ts : List (Bor Template)) (t : Bor Template) → lent_policies ts ++ Left t.now ∷ [] ≡ lent_policies (ts ++ t ∷ [])
policies_last [] t = refl
policies_last (x ∷ ts) t = ap (λ l. Left x.now ∷ l) (policies_last ts t)

pub templates_last : (ts : List (Bor Template)) (t : Bor Template) → lent_templates ts ++ Right t.now ∷ [] ≡ lent_templates (ts ++ t ∷ [])
templates_last [] t = refl
templates_last (x ∷ ts) t = ap (λ l. Right x.now ∷ l) (templates_last ts t)

-- as they are themselves
pub policies_now : (ts : List (Bor Template)) → lent_policies ts ≡ as_policies (map (λ (t : Bor Template). t.now) ts)
policies_now [] = refl
policies_now (t ∷ ts) = ap (λ l. Left t.now ∷ l) (policies_now ts)

pub templates_now : (ts : List (Bor Template)) → lent_templates ts ≡ as_templates (map (λ (t : Bor Template). t.now) ts)
templates_now [] = refl
templates_now (t ∷ ts) = ap (λ l. Right t.now ∷ l) (templates_now ts)
