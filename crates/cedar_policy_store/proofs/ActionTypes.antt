-- Lists of entities of action types, and of others.
use Rattle.std.proofs.Common.{◌≡◌, ◌<◌, Bool, true, false, not, ◌&&◌, cond, List, [], ◌∷◌, length, refl, sym, true≢false, arith}
use Rattle.std.specs.List.{list_all}
use Rattle.cedar_expressions.specs.declared.entity.EntityUID.{EntityUID}
use Rattle.cedar_policy_store.specs.Actions.{is_action, but_actions}

all_but : (b : Bool) (e : EntityUID) (es : List EntityUID) → (b && list_all is_action es) ≡ true → (list_all is_action es ≡ true → but_actions es ≡ []) → cond (not b) (e ∷ but_actions es) (but_actions es) ≡ []
all_but true e es h next = next h
all_but false e es h next = absurd (true≢false (sym h))

pub none_but : (es : List EntityUID) → list_all is_action es ≡ true → but_actions es ≡ []
none_but [] h = refl
none_but (e ∷ es) h = all_but (is_action e) e es h (none_but es)

some_of : (b : Bool) (e : EntityUID) (es : List EntityUID) → (b && list_all is_action es) ≡ false → (list_all is_action es ≡ false → 0 < length (but_actions es)) → 0 < length (cond (not b) (e ∷ but_actions es) (but_actions es))
some_of true e es h next = next h
some_of false e es h next = omega arith

pub some_but : (es : List EntityUID) → list_all is_action es ≡ false → 0 < length (but_actions es)
some_but [] h = absurd (true≢false h)
some_but (e ∷ es) h = some_of (is_action e) e es h (some_but es)
