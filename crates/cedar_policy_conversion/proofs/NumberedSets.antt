-- A set that a loop over the policies and their names fills.
use Rattle.std.proofs.Common.{◌≡◌, ◌^◌, ◌+◌, ◌<◌, ℕ, suc, List, [], ◌∷◌, ◌++◌, append-nil, append_assoc, length, length-append, Option, Result, Ok, refl, sym, ap, subst, ◌∙◌, arith}
use Rattle.std.specs.FinMap.{empty}
use Rattle.std.proofs.lemmas.List.{length_push}
use Rattle.either.specs.declared.Either.{Either}
use Rattle.cedar_policy_store.specs.declared.template.Template.{Template}
use Rattle.cedar_policy_store.specs.PolicyMaps.{PolicyMaps}
use Rattle.cedar_syntax.specs.declared.cst.Policy.{Policy}
use Rattle.cedar_syntax.specs.declared.err.faults.Failure.{Failure}
use Rattle.cedar_syntax.specs.declared.node.Node.{Node}
use Rattle.cedar_conversion.specs.strict.Extensions.{Extensions}
use Rattle.cedar_conversion.specs.outcome.Outcome.{Outcome, item_more}
use Rattle.cedar_conversion.specs.outcome.Seen.{Gives}
use Rattle.cedar_policy_conversion.specs.declared.policy_ids.GeneratedPolicyIds.{GeneratedPolicyIds}
use Rattle.cedar_policy_conversion.specs.GeneratedIds.{NamedPolicy, named_policies, remaining_nodes}
use Rattle.cedar_policy_conversion.specs.Policies as k
use Rattle.cedar_policy_conversion.specs.PolicyMeaning.{policy_id}
use Rattle.cedar_policy_conversion.specs.machines.Filled.{AddsAtMost, IsFreeFor, seen_outcome, seen_policies, set_view}
use Rattle.cedar_conversion.proofs.Outcomes.{gives_at}
use Rattle.cedar_policy_conversion.proofs.FreeNames.{HasName, IsFreeFrom, free_behind, free_first, free_for, named}
use Rattle.cedar_policy_conversion.proofs.SetSteps.{nothing_kept, numbered_snoc, zero-plus}

abbrev Cells : Type 0
Cells = List (Node (Option Policy))

abbrev Sided : Type 0
Sided = Result (Either Template Template) Failure

-- the policies before those to come are kept, and no name to come is taken
abbrev pub AreKept : Extensions → Cells → GeneratedPolicyIds → PolicyMaps → Result (Unit {0}) Failure → Type 0
AreKept e nodes ids set all =
    (before : Cells) × (after : Cells) × (nodes ≡ before ++ after) × (remaining_nodes ids ≡ named_policies (length before) after)
    × IsFreeFrom set (length before) × Gives (set_view set) all (seen_policies e before)

pub first_kept : (e : Extensions) (nodes : Cells) (ids : GeneratedPolicyIds) (set : PolicyMaps) → remaining_nodes ids ≡ named_policies 0 nodes → set ≡ record { policies = empty; templates = empty } → AreKept e nodes ids set (Ok tt)
first_kept e nodes ids set all none = ([], nodes, refl, all, free_first set none, nothing_kept e set none)

-- ---- the next policy

next_named : (i : ℕ) (ns : Cells) (id : List ℕ) (n : Node (Option Policy)) (rest : List NamedPolicy) → named_policies i ns ≡ (id, n) ∷ rest → (ms : Cells) × (ns ≡ n ∷ ms) × (id ≡ policy_id i) × (rest ≡ named_policies (suc i) ms)
next_named i [] id n rest h = cc
next_named i (m ∷ ms) id n rest h =
    let first : ◌≡◌ {A = NamedPolicy} (policy_id i, m) (id, n) = cc in
    let others : named_policies (suc i) ms ≡ rest = cc in
    (ms, ap (λ p. p.1 ∷ ms) first, sym (ap (λ p. p.0) first), sym others)

counted : (before after nodes : Cells) (n : Node (Option Policy)) → nodes ≡ before ++ n ∷ after → length nodes < 2 ^ 64 → length before < 2 ^ 64
counted before after nodes n whole fits = omega (arith, fits, ap length whole, length-append before (n ∷ after))

abbrev IsNext : GeneratedPolicyIds → List ℕ → Node (Option Policy) → GeneratedPolicyIds → Type 0
IsNext ids id n later = remaining_nodes ids ≡ (id, n) ∷ remaining_nodes later

module _ (e : Extensions) (nodes : Cells) (fits : length nodes < 2 ^ 64) (ids later : GeneratedPolicyIds) (set : PolicyMaps) (all : Result (Unit {0}) Failure) (kept : AreKept e nodes ids set all) (id : List ℕ) (n : Node (Option Policy)) (is : IsNext ids id n later) (next : Sided) (gives : Gives k.either_parts next (k.either_outcome e id n)) where
  found : (ms : Cells) × (kept.1 ≡ n ∷ ms) × (id ≡ policy_id (length kept.0)) × (remaining_nodes later ≡ named_policies (suc (length kept.0)) ms)
  found = next_named (length kept.0) kept.1 id n (remaining_nodes later) (sym kept.3 ∙ is)

  whole : nodes ≡ kept.0 ++ n ∷ found.0
  whole = kept.2 ∙ ap (λ ms. kept.0 ++ ms) found.1

  small : length kept.0 < 2 ^ 64
  small = counted kept.0 found.0 nodes n whole fits

  has_name : HasName next (policy_id (length kept.0))
  has_name = subst (HasName next) found.2 (named e id n next gives)

  -- its name is free
  pub next_free : IsFreeFor set next
  next_free = free_for set (length kept.0) next small kept.4 has_name

  pub next_kept : (after : PolicyMaps) (r : Result (Unit {0}) Failure) → AddsAtMost next set after
      → ((o : Outcome (List k.TemplateParts)) (x : Outcome k.TemplateParts) → Gives (set_view set) all (seen_outcome o) → Gives k.either_parts next (k.side_outcome x) → Gives (set_view after) r (seen_outcome (item_more o x)))
      → AreKept e nodes later after r
  next_kept after r adds told =
      let longer : suc (length kept.0) ≡ length (kept.0 ++ n ∷ []) = omega (arith, length_push kept.0 n) in
      let name : id ≡ policy_id (0 + length kept.0) = found.2 ∙ ap policy_id (sym (zero-plus (length kept.0))) in
      let part : Gives k.either_parts next (k.either_outcome e (policy_id (0 + length kept.0)) n) = subst (λ i. Gives k.either_parts next (k.either_outcome e i n)) name gives in (
        kept.0 ++ n ∷ [],
        found.0,
        whole ∙ sym (append_assoc kept.0 (n ∷ []) found.0),
        found.3 ∙ ap (λ j. named_policies j found.0) longer,
        subst (IsFreeFrom after) longer (free_behind set after next (length kept.0) small has_name adds kept.4),
        gives_at (set_view after) r _ _ (ap seen_outcome (numbered_snoc e 0 kept.0 n))
            (told (k.policies_from e 0 kept.0) (k.template_outcome e (policy_id (0 + length kept.0)) n) kept.5 part),
      )

-- ---- the end

none_named : (i : ℕ) (ns : Cells) → named_policies i ns ≡ [] → ns ≡ []
none_named i [] h = refl
none_named i (n ∷ ns) h = cc

-- nothing is to come, so all of them are kept
pub whole_kept : (e : Extensions) (nodes : Cells) (ids : GeneratedPolicyIds) (set : PolicyMaps) (all : Result (Unit {0}) Failure) → AreKept e nodes ids set all → remaining_nodes ids ≡ [] → Gives (set_view set) all (seen_policies e nodes)
whole_kept e nodes ids set all kept none =
    gives_at (set_view set) all _ _
    (ap (seen_policies e) (kept.2 ∙ ap (λ ms. kept.0 ++ ms) (none_named (length kept.0) kept.1 (sym kept.3 ∙ none)) ∙ append-nil kept.0)) kept.5
