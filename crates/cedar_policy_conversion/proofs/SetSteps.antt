-- Sets of policies, one policy more.
use Rattle.std.proofs.Common.{◌≡◌, ◌+◌, ◌<◌, ◌≤◌, ℕ, zero, suc, true, false, List, [], ◌∷◌, ◌++◌, take, length, get_or, Option, Result, Ok, Err, refl, sym, ap, subst, ◌∙◌, arith}
use Rattle.std.specs.FinMap.{empty}
use Rattle.std.specs.List.{enumerate_from}
use Rattle.std.proofs.lemmas.List.FromFn.{get_or-enumerate_from, length-enumerate_from}
use Rattle.either.specs.declared.Either.{Either}
use Rattle.either.specs.declared.Either.TheVariants.{Left, Right}
use Rattle.cedar_policy_store.specs.declared.template.Template.{Template}
use Rattle.cedar_policy_store.specs.PlaceFree.{has_slot_in_scope, set_meaning, template_meaning}
use Rattle.cedar_policy_store.specs.PolicyMaps.{PolicyMaps}
use Rattle.cedar_syntax.specs.faults.ParseErrors.{faults_of}
use Rattle.cedar_syntax.specs.declared.cst.Policy.{Policy}
use Rattle.cedar_syntax.specs.declared.err.faults.Failure.{Failure}
use Rattle.cedar_syntax.specs.declared.err.faults.Failure.TheVariants.{Memory, Errors}
use Rattle.cedar_syntax.specs.declared.node.Node.{Node}
use Rattle.cedar_syntax.specs.trees.Trees.{Cell}
use Rattle.cedar_conversion.specs.strict.Extensions.{Extensions}
use Rattle.cedar_conversion.specs.outcome.Outcome.{Outcome, both, next, item_more}
use Rattle.cedar_policy_conversion.specs.Policies as k
use Rattle.cedar_policy_conversion.specs.Policies.{TemplateParts, either_parts, meaning_of, no_placed, placed_on, placed_set, scope_slots, set_parts, side_outcome, policy_side, template_parts, with_parts, with_placed}
use Rattle.cedar_policy_conversion.specs.PolicyMeaning.{set_with_policy, no_policies, policy_id}
use Rattle.cedar_conversion.specs.outcome.Seen.{Gives, Refuses, named_faults}
use Rattle.cedar_policy_conversion.specs.machines.Filled.{IsAdded, SeenSet, maps_with_policy, seen_outcome, seen_policies, seen_set, set_view}
use Rattle.cedar_conversion.specs.machines.Views.{empty_view}
use Rattle.cedar_conversion.proofs.Inverted.{ok_is}
use Rattle.cedar_conversion.proofs.Loops.{take_next}
use Rattle.cedar_conversion.proofs.Outcomes.{then_gives}
use Rattle.cedar_policy_conversion.proofs.MappedValues.{fold_snoc, with-empty, with-insert}
use Rattle.cedar_policy_conversion.proofs.PolicySides.{is_left, is_right, side_of}
use Rattle.cedar_conversion.specs.outcome.Conversion.{with_first}
use Rattle.cedar_conversion.proofs.Gathered.{last, shifted}

-- ---- a policy that is added

added_meant : (set : PolicyMaps) (policy : Either Template Template) (t : TemplateParts) → policy_side (scope_slots t) t ≡ either_parts policy → with_parts (set_meaning set) t ≡ set_meaning (maps_with_policy set policy)
added_meant set (Left p) t h =
    let d = is_left (has_slot_in_scope (meaning_of t)) t (template_parts p) (sym (side_of t) ∙ h) in
    ap (λ b. set_with_policy b (set_meaning set) (meaning_of t)) d.0
    ∙ ap (λ u. set_with_policy false (set_meaning set) (meaning_of u)) d.1
    ∙ ap (λ m. record { policies = m; templates = (set_meaning set).templates }) (sym (with-insert template_meaning set.policies p.id p))
added_meant set (Right p) t h =
    let d = is_right (has_slot_in_scope (meaning_of t)) t (template_parts p) (sym (side_of t) ∙ h) in
    ap (λ b. set_with_policy b (set_meaning set) (meaning_of t)) d.0
    ∙ ap (λ u. set_with_policy true (set_meaning set) (meaning_of u)) d.1
    ∙ ap (λ m. record { policies = (set_meaning set).policies; templates = m }) (sym (with-insert template_meaning set.templates p.id p))

-- the same with its places
added_placed : (set : PolicyMaps) (policy : Either Template Template) (t : TemplateParts) → policy_side (scope_slots t) t ≡ either_parts policy → with_placed (set_parts set) t ≡ set_parts (maps_with_policy set policy)
added_placed set (Left p) t h =
    let d = is_left (has_slot_in_scope (meaning_of t)) t (template_parts p) (sym (side_of t) ∙ h) in
    ap (λ b. placed_on b (set_parts set) t) d.0
    ∙ ap (λ u. placed_on false (set_parts set) u) d.1
    ∙ ap (λ m. record { policies = m; templates = (set_parts set).templates }) (sym (with-insert template_parts set.policies p.id p))
added_placed set (Right p) t h =
    let d = is_right (has_slot_in_scope (meaning_of t)) t (template_parts p) (sym (side_of t) ∙ h) in
    ap (λ b. placed_on b (set_parts set) t) d.0
    ∙ ap (λ u. placed_on true (set_parts set) u) d.1
    ∙ ap (λ m. record { policies = (set_parts set).policies; templates = m }) (sym (with-insert template_parts set.templates p.id p))

both_at : {X Y : Type 0} {a b : X} {c d : Y} → a ≡ b → c ≡ d → ◌≡◌ {A = X × Y} (a, c) (b, d)
both_at h k = λ i. (h i, k i)

-- ---- the outcome of one policy more

-- where all before is there, what is added is one policy more; and what is refused stays so
kept_step : (set : PolicyMaps) (policy : Either Template Template) (all : Result (Unit {0}) Failure) (o : Outcome (List TemplateParts)) (x : Outcome TemplateParts) → Gives (set_view set) all (seen_outcome o) → side_outcome x ≡ Ok (either_parts policy)
    → Gives (set_view (maps_with_policy set policy)) all (seen_outcome (item_more o x))
kept_step set policy (Ok u) (Ok ts) (Ok t) h j = ap Ok (both_at (fold_snoc with_parts no_policies ts t ∙ ap (λ (s : SeenSet). with_parts s.0 t) (ok_is h) ∙ added_meant set policy t (ok_is j)) (fold_snoc with_placed no_placed ts t ∙ ap (λ (s : SeenSet). with_placed s.1 t) (ok_is h) ∙ added_placed set policy t (ok_is j)))
kept_step set policy (Ok u) (Err fs) (Ok t) h j = cc
kept_step set policy (Err (Memory e)) o (Ok t) h j = tt
kept_step set policy (Err (Errors es)) (Ok ts) (Ok t) h j = cc
kept_step set policy (Err (Errors es)) (Err fs) (Ok t) h j = h
kept_step set policy all o (Err gs) h j = cc

pub kept_more : (set after : PolicyMaps) (policy : Either Template Template) (all : Result (Unit {0}) Failure) (next_one : Result (Either Template Template) Failure) (o : Outcome (List TemplateParts)) (x : Outcome TemplateParts)
    → next_one ≡ Ok policy → IsAdded set policy after → Gives (set_view set) all (seen_outcome o) → Gives either_parts next_one (side_outcome x) → Gives (set_view after) all (seen_outcome (item_more o x))
kept_more set after policy all next_one o x given is h j =
    subst (λ s. Gives (set_view s) all (seen_outcome (item_more o x))) (sym is)
    (kept_step set policy all o x h (subst (λ r. Gives either_parts r (side_outcome x)) given j))

-- ---- one that is refused

abbrev nothing : {X : Type 0} → Outcome X → Outcome (Unit {0})
nothing o = next o (λ _. Ok tt)

forget : (v : SeenSet) (all : Result (Unit {0}) Failure) (o : Outcome (List TemplateParts)) → Gives (λ _. v) all (seen_outcome o) → Gives empty_view all (nothing o)
forget v (Ok u) (Ok ts) h = refl
forget v (Ok u) (Err fs) h = cc
forget v (Err (Memory e)) o h = tt
forget v (Err (Errors es)) (Ok ts) h = cc
forget v (Err (Errors es)) (Err fs) h = let same : fs ≡ named_faults (faults_of es) = cc in ap Err same

forget_side : (f : Failure) (x : Outcome TemplateParts) → Refuses f (side_outcome x) → Refuses f (nothing x)
forget_side (Memory e) x h = tt
forget_side (Errors es) (Ok t) h = cc
forget_side (Errors es) (Err fs) h = let same : fs ≡ named_faults (faults_of es) = cc in ap Err same

-- what a failure tells, or nothing
abbrev tells : Failure → Outcome (Unit {0})
tells (Memory e) = Err []
tells (Errors es) = Err (named_faults (faults_of es))

tells_own : (f : Failure) → Refuses f (tells f)
tells_own (Memory e) = tt
tells_own (Errors es) = refl

never : (p : Outcome (Unit {0})) (f : Failure) (P : Type 0) → nothing (both p (tells f)) ≡ Ok tt → P
never (Ok u) (Memory e) P h = cc
never (Ok u) (Errors es) P h = cc
never (Err fs) (Memory e) P h = cc
never (Err fs) (Errors es) P h = cc

refuses_set : (v : SeenSet) (f : Failure) (o : Outcome (List TemplateParts)) (x : Outcome TemplateParts) → Refuses f (nothing (both (nothing o) (nothing x))) → Refuses f (seen_outcome (item_more o x))
refuses_set v (Memory e) o x h = tt
refuses_set v (Errors es) (Ok ts) (Ok t) h = cc
refuses_set v (Errors es) (Ok ts) (Err gs) h = let same : gs ≡ named_faults (faults_of es) = cc in ap Err same
refuses_set v (Errors es) (Err fs) (Ok t) h = let same : fs ≡ named_faults (faults_of es) = cc in ap Err same
refuses_set v (Errors es) (Err fs) (Err gs) h = let same : fs ++ gs ≡ named_faults (faults_of es) = cc in ap Err same

joined_step : (v : SeenSet) (f : Failure) (r : Result (Unit {0}) Failure) (p : Outcome (Unit {0})) (o : Outcome (List TemplateParts)) (x : Outcome TemplateParts) → Gives empty_view r (nothing (both p (tells f))) → Gives empty_view r (nothing (both (nothing o) (nothing x)))
    → Gives (λ _. v) r (seen_outcome (item_more o x))
joined_step v f (Ok u) p o x h j = never p f _ h
joined_step v f (Err g) p o x h j = refuses_set v g o x j

pub refused_more : (set after : PolicyMaps) (f : Failure) (all r : Result (Unit {0}) Failure) (next_one : Result (Either Template Template) Failure) (o : Outcome (List TemplateParts)) (x : Outcome TemplateParts)
    → next_one ≡ Err f → Gives (set_view set) all (seen_outcome o) → Gives either_parts next_one (side_outcome x)
    → ((p q : Outcome (Unit {0})) → Gives empty_view all p → Refuses f q → Gives empty_view r (nothing (both p q)))
    → Gives (set_view after) r (seen_outcome (item_more o x))
refused_more set after f all r next_one o x given h j joins =
    let refused : Refuses f (side_outcome x) = subst (λ n. Gives either_parts n (side_outcome x)) given j in
    let before : Gives empty_view all (nothing o) = forget (seen_set set) all o h in
    joined_step (seen_set after) f r (nothing o) o x (joins (nothing o) (tells f) before (tells_own f)) (joins (nothing o) (nothing x) before (forget_side f x refused))

-- ---- one node more

plus-zero : (n : ℕ) → n + zero ≡ n
plus-zero n = omega arith

pub zero-plus : (n : ℕ) → 0 + n ≡ n
zero-plus n = omega arith

plus-suc : (m n : ℕ) → suc m + n ≡ m + suc n
plus-suc m n = omega arith

pub numbered_snoc : (e : Extensions) (i : ℕ) (ps : List (Cell Policy)) (p : Cell Policy) → k.policies_from e i (ps ++ p ∷ []) ≡ item_more (k.policies_from e i ps) (k.template_outcome e (policy_id (i + length ps)) p)
numbered_snoc e i [] p = rw (plus-zero i) (last (k.template_outcome e (policy_id i) p))
numbered_snoc e i (q ∷ ps) p =
    ap (λ o. next (both (k.template_outcome e (policy_id i) q) o) with_first) (numbered_snoc e (suc i) ps p ∙ ap (λ j. item_more (k.policies_from e (suc i) ps) (k.template_outcome e (policy_id j) p)) (plus-suc i (length ps)))
    ∙ shifted (k.template_outcome e (policy_id i) q) (k.policies_from e (suc i) ps) (k.template_outcome e (policy_id (i + suc (length ps))) p)

many_taken : {X : Type 0} (xs : List X) (i : ℕ) → i ≤ length xs → length (take i xs) ≡ i
many_taken xs zero h = refl
many_taken [] (suc i) h = absurd (omega arith)
many_taken (x ∷ xs) (suc i) h = ap suc (many_taken xs i (omega arith))

-- the set's outcome of one policy more
pub set_next : (e : Extensions) (ns : List (Node (Option Policy))) (i : ℕ) (n : Node (Option Policy)) → i < length ns → n ≡ get_or ns i n
    → seen_policies e (take (i + 1) ns) ≡ seen_outcome (item_more (k.policies_from e 0 (take i ns)) (k.template_outcome e (policy_id i) n))
set_next e ns i n more is =
    let count : 0 + length (take i ns) ≡ i = zero-plus (length (take i ns)) ∙ many_taken ns i (omega arith) in
    ap (λ ms. seen_outcome (k.policies_from e 0 ms)) (take_next ns i n more is)
    ∙ ap seen_outcome (numbered_snoc e 0 (take i ns) n)
    ∙ ap (λ j. seen_outcome (item_more (k.policies_from e 0 (take i ns)) (k.template_outcome e (policy_id j) n))) count

-- what a numbered list yields next: how many it yielded, and the item there
pub numbered_next : {X : Type 0} (xs : List X) (i : ℕ) (p : ℕ × X) → i < length (enumerate_from 0 xs) → p ≡ get_or (enumerate_from 0 xs) i p → (i < length xs) × (p.0 ≡ i) × (p.1 ≡ get_or xs i p.1)
numbered_next xs i p more is =
    let few : i < length xs = omega (arith, more, length-enumerate_from 0 xs) in
    let at = is ∙ get_or-enumerate_from 0 xs i p few in
    (few, ap (λ q. q.0) at ∙ zero-plus i, ap (λ q. q.1) at)

-- ---- the first and the last

none_kept : (set : PolicyMaps) → set ≡ record { policies = empty; templates = empty } → no_policies ≡ set_meaning set
none_kept set h = sym (ap set_meaning h ∙ (λ i. record { policies = with-empty template_meaning i; templates = with-empty template_meaning i }))

none_placed : (set : PolicyMaps) → set ≡ record { policies = empty; templates = empty } → no_placed ≡ set_parts set
none_placed set h = sym (ap set_parts h ∙ (λ i. record { policies = with-empty template_parts i; templates = with-empty template_parts i }))

pub nothing_kept : (e : Extensions) (set : PolicyMaps) → set ≡ record { policies = empty; templates = empty } → Gives (set_view set) (Ok tt) (seen_policies e [])
nothing_kept e set h = ap Ok (both_at (none_kept set h) (none_placed set h))

pub all_kept : (set : PolicyMaps) (all : Result (Unit {0}) Failure) (u : Unit {0}) (o : Outcome SeenSet) → all ≡ Ok u → Gives (set_view set) all o → o ≡ Ok (seen_set set)
all_kept set all u o is h = subst (λ r. Gives (set_view set) r o) is h

pub all_refused : (set : PolicyMaps) (all : Result (Unit {0}) Failure) (f : Failure) (o : Outcome SeenSet) → all ≡ Err f → Gives (set_view set) all o → Refuses f o
all_refused set all f o is h = subst (λ r. Gives (set_view set) r o) is h

-- ---- what is seen of a set, each for itself

pub meant_alone : (r : Result PolicyMaps Failure) (o : Outcome (List TemplateParts)) → Gives seen_set r (seen_outcome o) → Gives set_meaning r (k.parts_set_outcome o)
meant_alone r (Ok ts) h = then_gives seen_set (λ (p : SeenSet). p.0) r (seen_outcome (Ok ts)) h
meant_alone r (Err fs) h = then_gives seen_set (λ (p : SeenSet). p.0) r (seen_outcome (Err fs)) h

pub placed_alone : (r : Result PolicyMaps Failure) (o : Outcome (List TemplateParts)) → Gives seen_set r (seen_outcome o) → Gives set_parts r (next o (λ ts. Ok (placed_set ts)))
placed_alone r (Ok ts) h = then_gives seen_set (λ (p : SeenSet). p.1) r (seen_outcome (Ok ts)) h
placed_alone r (Err fs) h = then_gives seen_set (λ (p : SeenSet). p.1) r (seen_outcome (Err fs)) h
