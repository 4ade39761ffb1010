-- The names that a set gives its policies: `policy` and how many stand before one.
use Rattle.std.specs.Prelude.{◌≡◌, ℕ, suc, List, [], ◌∷◌, drop, Option, Ok, Result, MatchOption, MatchResult}
use Rattle.std.specs.declared.alloc.AllocError.{AllocError}
use denote.Ref.{Bor}
use Rattle.cedar_syntax.specs.declared.cst.Policies.{Policies}
use Rattle.cedar_syntax.specs.declared.cst.Policy.{Policy}
use Rattle.cedar_syntax.specs.declared.node.Node.{Node}
use Rattle.cedar_policy_conversion.specs.declared.policy_ids.GeneratedPolicyIds.{GeneratedPolicyIds}
use Rattle.cedar_conversion.specs.parts.Names.{content_outcome}
use Rattle.cedar_conversion.specs.outcome.Outcome.{Outcome, next}
use Rattle.cedar_policy_conversion.specs.PolicyMeaning.{policy_id}

abbrev pub NamedPolicy : Type 0
NamedPolicy = List ℕ × Node (Option Policy)

-- each node with its name, counted from a number on
abbrev pub named_policies : ℕ → List (Node (Option Policy)) → List NamedPolicy
named_policies i [] = []
named_policies i (n ∷ ns) = (policy_id i, n) ∷ named_policies (suc i) ns

abbrev pub named_outcome : Node (Option Policies) → Outcome (List NamedPolicy)
named_outcome n = next (content_outcome n.loc n.node) (λ ps. Ok (named_policies 0 ps.0))

-- what is still to come
abbrev pub remaining_nodes : GeneratedPolicyIds → List NamedPolicy
remaining_nodes ids = named_policies ids.count (drop ids.count ids.nodes.now)

-- the next node with its name, or want of memory, behind which nothing comes
abbrev pub GivesNext : GeneratedPolicyIds
    → Option (Result (List ℕ × Bor (Node (Option Policy))) AllocError) → GeneratedPolicyIds
    → Type 0
GivesNext ids answer after =
    MatchOption answer ((remaining_nodes ids ≡ []) × (remaining_nodes after ≡ []))
    (λ item. MatchResult item (λ p. remaining_nodes ids ≡ (p.0, p.1.now) ∷ remaining_nodes after)
    (λ error. remaining_nodes after ≡ []))
