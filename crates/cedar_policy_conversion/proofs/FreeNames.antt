-- The names of a set that is filled: those of numbers are different, so the next one is free.
use Rattle.std.proofs.Common.{◌≡◌, ◌≢◌, ◌^◌, ◌<◌, ◌≤◌, ◌||◌, ◌↔◌, IsTrue, ℕ, suc, Bool, true, false, cond, is_some, List, [], ◌∷◌, Option, Some, Result, Ok, Err, IfOk, IfErr, codes, bytes_eq, refl, sym, ap, ◌∙◌, subst, arith, lt_irrefl}
use Rattle.std.proofs.lemmas.Fmt.{decimal_injective}
use Rattle.std.proofs.lemmas.List.{append_cancel_left}
use Rattle.std.proofs.lemmas.Map.Text.{is_eq-slice_cmp}
use Rattle.std.proofs.lemmas.Slice.Eq.{bytes_eq-Decides}
use Rattle.std.specs.Cmp.Lexicographic.{nat_list_cmp_total}
use Rattle.std.specs.FinMap.{FinMap, contains_key, empty, get, insert, get-empty, get-insert}
use Rattle.std.specs.Fmt.{decimal}
use Rattle.either.specs.declared.Either.{Either}
use Rattle.either.specs.declared.Either.TheVariants.{Left, Right}
use Rattle.cedar_expressions.specs.declared.place.Slot.{Slot}
use Rattle.cedar_policy_store.specs.declared.policy_set.PolicySetError.{PolicySetError}
use Rattle.cedar_policy_store.specs.declared.policy_set.PolicySetError.TheVariants as refusals
use Rattle.cedar_policy_store.specs.declared.template.Template.{Template}
use Rattle.cedar_policy_store.specs.PolicyMaps.{IsRefusalOf, PolicyMaps, holds_id}
use Rattle.cedar_policy_store.specs.TextMap.{text_order}
use Rattle.cedar_syntax.specs.declared.cst.Policy.{Policy}
use Rattle.cedar_syntax.specs.declared.cst.Policy.TheVariants as trees
use Rattle.cedar_syntax.specs.declared.err.faults.Failure.{Failure}
use Rattle.cedar_syntax.specs.declared.loc.Loc.{Loc}
use Rattle.cedar_syntax.specs.declared.node.Node.{Node}
use Rattle.cedar_conversion.specs.strict.Extensions.{Extensions}
use Rattle.cedar_conversion.specs.parts.Names.{content_outcome}
use Rattle.cedar_conversion.specs.outcome.Seen.{Gives}
use Rattle.cedar_policy_conversion.specs.Policies.{Given, TemplateParts, either_outcome, either_parts, given_parts, parts_outcome, policy_side, scope_slots, template_of, template_outcome}
use Rattle.cedar_policy_conversion.specs.PolicyMeaning.{policy_id}
use Rattle.cedar_policy_conversion.specs.machines.Filled.{AddsAtMost, IsAdded, IsFreeFor, WantsMemoryAlone, id_of, maps_with_policy}
use Rattle.cedar_conversion.proofs.Inverted.{next_ok, ok_is}

-- ---- one policy more

missed : {X : Type 0} (b : Bool) (o : Option X) (x : X) → (b ≡ true → ⊥) → is_some o ≡ false → is_some (cond b (Some x) o) ≡ false
missed true o x other h = absurd (other refl)
missed false o x other h = h

still_free : (m : FinMap text_order Template) (key q : List ℕ) (t : Template) → (q ≡ key → ⊥) → contains_key m q ≡ false → contains_key (insert m key t) q ≡ false
still_free m key q t other h =
    ap is_some (get-insert nat_list_cmp_total m key t q)
    ∙ ap (λ b. is_some (cond b (Some t) (get m q))) (is_eq-slice_cmp q key)
    ∙ missed (bytes_eq q key) (get m q) t (λ same. other ((bytes_eq-Decides q key).0 same)) h

neither : (a b : Bool) → (a || b) ≡ false → (a ≡ false) × (b ≡ false)
neither true b h = cc
neither false b h = (refl, h)

nor : (a b : Bool) → a ≡ false → b ≡ false → (a || b) ≡ false
nor a b h k = rw (h, k) refl

free_beside : (set : PolicyMaps) (policy : Either Template Template) (q : List ℕ) → (q ≡ id_of policy → ⊥) → holds_id set q ≡ false → holds_id (maps_with_policy set policy) q ≡ false
free_beside set (Left t) q other h =
    let apart = neither (contains_key set.policies q) (contains_key set.templates q) h in
    nor (contains_key (insert set.policies t.id t) q) (contains_key set.templates q) (still_free set.policies t.id q t other apart.0) apart.1
free_beside set (Right t) q other h =
    let apart = neither (contains_key set.policies q) (contains_key set.templates q) h in
    nor (contains_key set.policies q) (contains_key (insert set.templates t.id t) q) apart.0 (still_free set.templates t.id q t other apart.1)

-- where the name is free, what refuses it is want of memory
pub refused_alone : (set : PolicyMaps) (id : List ℕ) (r : Result (Unit {0}) PolicySetError) → holds_id set id ≡ false → (r ≡ Err (refusals.Occupied id)) ↔ IsTrue (holds_id set id) → IfErr r (IsRefusalOf id) → IfErr r WantsMemoryAlone
refused_alone set id (Ok u) free known h = tt
refused_alone set id (Err (refusals.Memory e)) free known h = tt
refused_alone set id (Err (refusals.Occupied other)) free known h = let taken = known.0 (ap (λ i. Err (refusals.Occupied i)) h) in cc

pub adds_one : (set after : PolicyMaps) (policy : Either Template Template) (next : Result (Either Template Template) Failure) → next ≡ Ok policy → IsAdded set policy after → AddsAtMost next set after
adds_one set after policy next given is id free other =
    subst (λ s. holds_id s id ≡ false) (sym is)
    (free_beside set policy id (subst (λ r. IfOk r (λ p. id ≢ id_of p)) given other) free)

pub adds_none : (set after : PolicyMaps) (next : Result (Either Template Template) Failure) → after ≡ set → AddsAtMost next set after
adds_none set after next is id free other = subst (λ s. holds_id s id ≡ false) (sym is) free

-- ---- the names of numbers

-- the set has none of the names from this number on
abbrev pub IsFreeFrom : PolicyMaps → ℕ → Type 0
IsFreeFrom set n = (i : ℕ) → n ≤ i → i < 2 ^ 64 → holds_id set (policy_id i) ≡ false

-- a policy, if there is one, has this name
abbrev pub HasName : Result (Either Template Template) Failure → List ℕ → Type 0
HasName next id = IfOk next (λ policy. id_of policy ≡ id)

numbered_alike : (i j : ℕ) → i < 2 ^ 64 → j < 2 ^ 64 → policy_id i ≡ policy_id j → i ≡ j
numbered_alike i j h k same = decimal_injective i j h k (append_cancel_left (codes "policy") (decimal i) (decimal j) same)

apart : (next : Result (Either Template Template) Failure) (i n : ℕ) → (policy_id i ≡ policy_id n → ⊥) → HasName next (policy_id n) → IfOk next (λ policy. policy_id i ≢ id_of policy)
apart (Err f) i n other h = tt
apart (Ok policy) i n other h = λ same. other (same ∙ h)

-- behind the policy of a number the names from the next one on are free
pub free_behind : (set after : PolicyMaps) (next : Result (Either Template Template) Failure) (n : ℕ) → n < 2 ^ 64 → HasName next (policy_id n) → AddsAtMost next set after → IsFreeFrom set n → IsFreeFrom after (suc n)
free_behind set after next n small named adds free i more fits =
    adds (policy_id i) (free i (omega arith) fits)
    (apart next i n (λ same. lt_irrefl n (omega (arith, more, numbered_alike i n fits small same))) named)

-- a set without policies has every name free
pub free_first : (set : PolicyMaps) → set ≡ record { policies = empty; templates = empty } → IsFreeFrom set 0
free_first set h i more fits =
    ap (λ s. holds_id s (policy_id i)) h
    ∙ nor (contains_key (empty {X = Template} {R = text_order}) (policy_id i)) (contains_key (empty {X = Template} {R = text_order}) (policy_id i)) (ap is_some (get-empty text_order (policy_id i))) (ap is_some (get-empty text_order (policy_id i)))

-- ---- the name of what a tree gives

given_named : (id : List ℕ) (place : Option Loc) (g : Given) (t : TemplateParts) → given_parts id place g ≡ t → t.id ≡ id
given_named id place ((effect, annotations), ((principal, action, resource), conditions)) t h = sym (ap (λ u. u.id) h)

tree_named : (e : Extensions) (id : List ℕ) (place : Option Loc) (p : Policy) (t : TemplateParts) → template_of e id place p ≡ Ok t → t.id ≡ id
tree_named e id place (trees.Policy p) t h =
    let a = next_ok (parts_outcome e p) (λ g. Ok (given_parts id place g)) t h in
    given_named id place a.0 t (ok_is a.2)

template_named : (e : Extensions) (id : List ℕ) (n : Node (Option Policy)) (t : TemplateParts) → template_outcome e id n ≡ Ok t → t.id ≡ id
template_named e id n t h =
    let a = next_ok (content_outcome n.loc n.node) (template_of e id n.loc) t h in
    tree_named e id n.loc a.0 t a.2

abbrev side_name : Either TemplateParts TemplateParts → List ℕ
side_name (Left t) = t.id
side_name (Right t) = t.id

side_named : (slots : List Slot) (t : TemplateParts) → side_name (policy_side slots t) ≡ t.id
side_named [] t = refl
side_named (s ∷ ss) t = refl

held_name : (policy : Either Template Template) → side_name (either_parts policy) ≡ id_of policy
held_name (Left t) = refl
held_name (Right t) = refl

-- a policy has the name that it was to have
pub named : (e : Extensions) (id : List ℕ) (n : Node (Option Policy)) (r : Result (Either Template Template) Failure) → Gives either_parts r (either_outcome e id n) → HasName r id
named e id n (Err f) h = tt
named e id n (Ok policy) h =
    let a = next_ok (template_outcome e id n) (λ t. Ok (policy_side (scope_slots t) t)) (either_parts policy) h in
    sym (held_name policy) ∙ ap side_name (sym (ok_is a.2)) ∙ side_named (scope_slots a.0) a.0 ∙ template_named e id n a.0 a.1

-- so its name is free
pub free_for : (set : PolicyMaps) (n : ℕ) (next : Result (Either Template Template) Failure) → n < 2 ^ 64 → IsFreeFrom set n → HasName next (policy_id n) → IsFreeFor set next
free_for set n (Err f) small free h = tt
free_for set n (Ok policy) small free h = ap (holds_id set) h ∙ free n (omega arith) small
