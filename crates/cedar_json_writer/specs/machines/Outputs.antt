-- What is being written.
use Rattle.std.specs.Prelude.{◌≡◌, ℕ, List, [], ◌∷◌, ◌++◌, codes, OnOk, Result, MatchResult}
use Rattle.json.specs.Token.{Token}
use Rattle.json.specs.Tree.{json_tokens}
use Rattle.json.specs.Written.{Written}
use Rattle.cedar_expressions.specs.declared.entity.EntityType.{EntityType}
use Rattle.cedar_expressions.specs.Path.{name_text}
use Rattle.cedar_expressions.specs.declared.atoms.SlotId.TheVariants as slots
use Rattle.cedar_policy_store.specs.PlaceFree.{Policy}
use Rattle.cedar_policy_store.specs.PolicyText.{effect_text}
use Rattle.cedar_json_writer.specs.PolicyForms.{action_json, constraint_json}
use Rattle.cedar_json_writer.specs.declared.refusal.ToJsonError.{ToJsonError}
use Rattle.cedar_json_writer.specs.Texts.{TellsFirst}

-- these tokens were written
abbrev pub Appends : {E : Type 0} → Result (Unit {0}) E → Written → Written → List Token → Type 0
Appends r out out' ts = OnOk r ((out'.before ≡ out.before) × (out'.tokens ≡ out.tokens ++ ts))

-- characters of a pattern that stand together, if there are any
abbrev pub run_tokens : List ℕ → List Token
run_tokens [] = []
run_tokens (c ∷ cs) =
    Token.begin_object ∷ Token.key (codes "Literal") ∷ Token.string (c ∷ cs)
    ∷ Token.end_object ∷ []

-- what opens an object of a scope
abbrev pub op_tokens : List ℕ → List Token
op_tokens op = Token.begin_object ∷ Token.key (codes "op") ∷ Token.string op ∷ []

abbrev pub is_tokens : EntityType → List Token
is_tokens t =
    Token.begin_object ∷ Token.key (codes "op") ∷ Token.string (codes "is")
    ∷ Token.key (codes "entity_type") ∷ Token.string (name_text t.name) ∷ []

-- a policy up to its conditions
abbrev pub scope_tokens : Policy → List Token
scope_tokens p =
    Token.begin_object ∷ Token.key (codes "effect") ∷ Token.string (effect_text p.effect)
    ∷ Token.key (codes "principal") ∷ (json_tokens (constraint_json slots.Principal p.principal)
    ++ Token.key (codes "action") ∷ (json_tokens (action_json p.action)
    ++ Token.key (codes "resource") ∷ json_tokens (constraint_json slots.Resource p.resource)))

-- no function is called by an operator's key, or the first of those that are is told
abbrev pub Checks : List (List ℕ) → Result (Unit {0}) ToJsonError → Type 0
Checks called r = MatchResult r (λ _. called ≡ []) (TellsFirst called)
