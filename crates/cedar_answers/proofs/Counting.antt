-- The set that a tree gives has a policy for each of the tree's nodes.
use Rattle.std.proofs.Common.{◌≡◌, ◌+◌, ◌<◌, ◌||◌, ℕ, zero, suc, Bool, true, false, cond, is_some, List, [], ◌∷◌, ◌++◌, map, length, Option, Some, None, Ok, option_map, refl, sym, ap, ◌∙◌, subst, arith}
use Rattle.std.proofs.lemmas.List.{length-map}
use Rattle.std.proofs.lemmas.Map.Text.{is_eq-slice_cmp}
use Rattle.std.proofs.lemmas.Slice.Eq.{bytes_eq-Decides}
use Rattle.std.specs.Cmp.Lexicographic.{nat_list_cmp_total}
use Rattle.std.specs.FinMap.{FinMap, contains_key, get, insert, get-insert}
use Rattle.std.specs.List.{fold}
use Rattle.std.specs.Ordering.{eq_by_cmp}
use Rattle.cedar_policy_store.specs.declared.template.Template.{Template}
use Rattle.cedar_policy_store.specs.PlaceFree as free
use Rattle.cedar_policy_store.specs.PlaceFree.{has_slot_in_scope, set_meaning, template_meaning, with_values}
use Rattle.cedar_policy_store.specs.PolicyMaps.{PolicyMaps, or_template, policy_named}
use Rattle.cedar_policy_store.specs.TextMap.{text_order}
use Rattle.cedar_policy_store.proofs.EqualPolicies.{get-with_values}
use Rattle.cedar_syntax.specs.declared.cst.Policies.{Policies}
use Rattle.cedar_syntax.specs.declared.cst.Policy.{Policy}
use Rattle.cedar_syntax.specs.declared.cst.Policy.TheVariants as trees
use Rattle.cedar_syntax.specs.declared.loc.Loc.{Loc}
use Rattle.cedar_syntax.specs.trees.Trees.{Cell}
use Rattle.cedar_conversion.specs.outcome.Conversion.{with_first}
use Rattle.cedar_conversion.specs.outcome.Outcome.{both}
use Rattle.cedar_conversion.specs.parts.Names.{content_outcome}
use Rattle.cedar_conversion.specs.strict.Extensions.{Extensions}
use Rattle.cedar_conversion.proofs.Inverted.{both_ok, next_ok, ok_is}
use Rattle.cedar_policy_conversion.specs.Policies.{Given, TemplateParts, given_parts, meaning_of, parts_outcome, policies_from, policies_outcome, set_of, set_outcome, template_of, template_outcome, with_parts}
use Rattle.cedar_policy_conversion.specs.PolicyMeaning.{no_policies, policy_id, set_with_policy}
use Rattle.cedar_answers.specs.Told.{PolicyTold, HasNumbered, as_list, nodes_of, side_told, told_from}

-- ---- names in a map, one more

still : {X : Type 0} (b : Bool) (o : Option X) (x : X) → is_some o ≡ true → is_some (cond b (Some x) o) ≡ true
still true o x h = refl
still false o x h = h

module _ {X : Type 0} where
  still_there : (m : FinMap text_order X) (k q : List ℕ) (x : X) → contains_key m q ≡ true → contains_key (insert m k x) q ≡ true
  still_there m k q x h = ap is_some (get-insert nat_list_cmp_total m k x q) ∙ still (eq_by_cmp text_order q k) (get m q) x h

  now_there : (m : FinMap text_order X) (k : List ℕ) (x : X) → contains_key (insert m k x) k ≡ true
  now_there m k x =
      ap is_some (get-insert nat_list_cmp_total m k x k)
      ∙ ap (λ b. is_some (cond b (Some x) (get m k))) (is_eq-slice_cmp k k ∙ (bytes_eq-Decides k k).1 refl)

-- ---- names in a set, one more

abbrev Has : free.Policies → List ℕ → Type 0
Has set q = (contains_key set.policies q || contains_key set.templates q) ≡ true

in_first : (a b : Bool) → a ≡ true → (a || b) ≡ true
in_first true b h = refl
in_first false b h = cc

in_second : (a b : Bool) → b ≡ true → (a || b) ≡ true
in_second true b h = refl
in_second false b h = h

wider_first : (a b c : Bool) → (a ≡ true → c ≡ true) → (a || b) ≡ true → (c || b) ≡ true
wider_first true b c f h = in_first c b (f refl)
wider_first false b c f h = in_second c b h

wider_second : (a b c : Bool) → (b ≡ true → c ≡ true) → (a || b) ≡ true → (a || c) ≡ true
wider_second true b c f h = refl
wider_second false b c f h = f h

kept_one : (b : Bool) (set : free.Policies) (p : free.Policy) (q : List ℕ) → Has set q → Has (set_with_policy b set p) q
kept_one true set p q h = wider_second (contains_key set.policies q) (contains_key set.templates q) (contains_key (insert set.templates p.id p) q) (still_there set.templates p.id q p) h
kept_one false set p q h = wider_first (contains_key set.policies q) (contains_key set.templates q) (contains_key (insert set.policies p.id p) q) (still_there set.policies p.id q p) h

added_one : (b : Bool) (set : free.Policies) (p : free.Policy) → Has (set_with_policy b set p) p.id
added_one true set p = in_second (contains_key set.policies p.id) (contains_key (insert set.templates p.id p) p.id) (now_there set.templates p.id p)
added_one false set p = in_first (contains_key (insert set.policies p.id p) p.id) (contains_key set.templates p.id) (now_there set.policies p.id p)

kept_all : (ts : List TemplateParts) (set : free.Policies) (q : List ℕ) → Has set q → Has (fold with_parts set ts) q
kept_all [] set q h = h
kept_all (t ∷ ts) set q h = kept_all ts (with_parts set t) q (kept_one (has_slot_in_scope (meaning_of t)) set (meaning_of t) q h)

-- ---- the names of what a tree gives

given_named : (id : List ℕ) (place : Option Loc) (g : Given) (t : TemplateParts) → given_parts id place g ≡ t → t.id ≡ id
given_named id place ((effect, annotations), ((principal, action, resource), conditions)) t h = sym (ap (λ u. u.id) h)

tree_named : (e : Extensions) (id : List ℕ) (place : Option Loc) (p : Policy) (t : TemplateParts) → template_of e id place p ≡ Ok t → t.id ≡ id
tree_named e id place (trees.Policy p) t h =
    let a = next_ok (parts_outcome e p) (λ g. Ok (given_parts id place g)) t h in
    given_named id place a.0 t (ok_is a.2)

node_named : (e : Extensions) (id : List ℕ) (n : Cell Policy) (t : TemplateParts) → template_outcome e id n ≡ Ok t → t.id ≡ id
node_named e id n t h =
    let a = next_ok (content_outcome n.loc n.node) (template_of e id n.loc) t h in
    tree_named e id n.loc a.0 t a.2

-- so many, each with its number's name
abbrev AreNumbered : ℕ → ℕ → List TemplateParts → Type 0
AreNumbered i zero ts = Unit {0}
AreNumbered i (suc count) [] = ⊥
AreNumbered i (suc count) (t ∷ ts) = (t.id ≡ policy_id i) × AreNumbered (suc i) count ts

all_named : (e : Extensions) (i : ℕ) (ns : List (Cell Policy)) (ts : List TemplateParts) → policies_from e i ns ≡ Ok ts → AreNumbered i (length ns) ts
all_named e i [] ts h = tt
all_named e i (n ∷ ns) ts h =
    let a = next_ok (both (template_outcome e (policy_id i) n) (policies_from e (suc i) ns)) with_first ts h in
    let b = both_ok (template_outcome e (policy_id i) n) (policies_from e (suc i) ns) a.0 a.1 in
    subst (AreNumbered i (suc (length ns))) (ok_is a.2) (node_named e (policy_id i) n a.0.0 b.0, all_named e (suc i) ns a.0.1 b.1)

plus_zero : (n : ℕ) → n ≡ n + zero
plus_zero n = omega arith

plus_suc : (i k : ℕ) → suc i + k ≡ i + suc k
plus_suc i k = omega arith

there : (i count k : ℕ) (ts : List TemplateParts) (set : free.Policies) → AreNumbered i count ts → k < count → Has (fold with_parts set ts) (policy_id (i + k))
there i zero k ts set h less = absurd (omega (arith, less))
there i (suc count) k [] set h less = absurd h
there i (suc count) zero (t ∷ ts) set h less =
    subst (λ q. Has (fold with_parts (with_parts set t) ts) q) (h.0 ∙ ap policy_id (plus_zero i))
    (kept_all ts (with_parts set t) t.id (added_one (has_slot_in_scope (meaning_of t)) set (meaning_of t)))
there i (suc count) (suc k) (t ∷ ts) set h less =
    let fewer : k < count = omega (arith, less) in
    subst (λ n. Has (fold with_parts (with_parts set t) ts) (policy_id n)) (plus_suc i k) (there (suc i) count k ts (with_parts set t) h.1 fewer)

-- ---- what stands under a name

mapped : {X Y : Type 0} (f : X → Y) (o : Option X) → is_some (option_map f o) ≡ is_some o
mapped f None = refl
mapped f (Some x) = refl

same_names : (m : FinMap text_order Template) (q : List ℕ) → contains_key (with_values template_meaning m) q ≡ contains_key m q
same_names m q = ap is_some (get-with_values template_meaning m q) ∙ mapped template_meaning (get m q)

either_one : (o p : Option Template) → is_some (or_template o p) ≡ (is_some o || is_some p)
either_one (Some t) p = refl
either_one None (Some t) = refl
either_one None None = refl

found : (set : PolicyMaps) (q : List ℕ) → Has (set_meaning set) q → is_some (policy_named set q) ≡ true
found set q h =
    either_one (get set.policies q) (get set.templates q)
    ∙ sym (ap (λ b. b || contains_key set.templates q) (same_names set.policies q))
    ∙ sym (ap (λ b. contains_key (with_values template_meaning set.policies) q || b) (same_names set.templates q))
    ∙ h

content : (place : Option Loc) (node : Option Policies) (ps : Policies) → content_outcome place node ≡ Ok ps → nodes_of node ≡ ps.0
content place (Some qs) ps h = ap (λ r. r.0) (ok_is h)
content place None ps h = cc

zero_plus : (n : ℕ) → 0 + n ≡ n
zero_plus n = omega arith

pub has_each : (e : Extensions) (set : PolicyMaps) (tree : Cell Policies) → policies_outcome e tree ≡ Ok (set_meaning set) → HasNumbered set (length (nodes_of tree.node))
has_each e set tree h n less =
    let a = next_ok (content_outcome tree.loc tree.node) (λ ps. set_outcome e ps.0) (set_meaning set) h in
    let b = next_ok (policies_from e 0 a.0.0) (λ ts. Ok (set_of ts)) (set_meaning set) a.2 in
    let few : n < length a.0.0 = subst (λ ns. n < length ns) (content tree.loc tree.node a.0 a.1) less in
    let held : Has (set_of b.0) (policy_id (0 + n)) = there 0 (length a.0.0) n b.0 no_policies (all_named e 0 a.0.0 b.0 b.1) few in
    found set (policy_id n) (subst (λ s. Has s (policy_id n)) (ok_is b.2) (subst (λ k. Has (set_of b.0) (policy_id k)) (zero_plus n) held))

-- ---- so each is told

one_told : {X Y : Type 0} (f : X → Y) (o : Option X) (rest : List Y) → is_some o ≡ true → length (as_list (option_map f o) ++ rest) ≡ suc (length rest)
one_told f None rest h = cc
one_told f (Some x) rest h = refl

told_each : (text : List ℕ) (set : PolicyMaps) (n : ℕ) (nodes : List (Cell Policy)) → ((k : ℕ) → k < length nodes → is_some (policy_named set (policy_id (n + k))) ≡ true) → length (told_from text set n nodes) ≡ length nodes
told_each text set n [] h = refl
told_each text set n (node ∷ nodes) h =
    let first : is_some (policy_named set (policy_id n)) ≡ true = ap (λ k. is_some (policy_named set (policy_id k))) (plus_zero n) ∙ h 0 (omega arith) in
    one_told (side_told text node) (policy_named set (policy_id n)) (told_from text set (suc n) nodes) first
    ∙ ap suc (told_each text set (suc n) nodes (λ k less. ap (λ j. is_some (policy_named set (policy_id j))) (plus_suc n k) ∙ h (suc k) (omega (arith, less))))

pub each_told : {X : Type 0} (text : List ℕ) (set : PolicyMaps) (nodes : List (Cell Policy)) (read : X → PolicyTold) (all : List X) → HasNumbered set (length nodes) → map read all ≡ told_from text set 0 nodes → length all ≡ length nodes
each_told text set nodes read all has told =
    sym (length-map all read) ∙ ap length told ∙ told_each text set 0 nodes (λ k less. ap (λ j. is_some (policy_named set (policy_id j))) (zero_plus k) ∙ has k less)
