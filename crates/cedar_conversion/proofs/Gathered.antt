-- Accesses and pairs, one longer at the end; one access alone, one side alone.
use Rattle.std.proofs.Common.{◌≡◌, ◌<◌, ◌+◌, ℕ, List, [], ◌∷◌, ◌++◌, append_assoc, map, take, length, get_or, Option, Ok, Err, refl, sym, ap, ◌∙◌}
use Rattle.cedar_syntax.specs.trees.Forms.{parts_of}
use Rattle.cedar_syntax.specs.trees.Located.{Located}
use Rattle.cedar_syntax.specs.trees.Tree.{Operator, compare, relation}
use Rattle.cedar_syntax.specs.trees.Forms.{located, add_form, relation_operand}
use Rattle.cedar_syntax.specs.declared.cst.Add.{Add}
use Rattle.cedar_syntax.specs.declared.cst.RelOp.{RelOp}
use Rattle.cedar_syntax.specs.declared.loc.Loc.{Loc}
use Rattle.cedar_syntax.specs.declared.node.Node.{Node}
use Rattle.cedar_conversion.specs.outcome.Held.{Held}
use Rattle.cedar_conversion.specs.parts.Members.{Access, member_outcome, some_accesses}
use Rattle.cedar_conversion.specs.machines.Views.{sides_outcome}
use Rattle.cedar_conversion.specs.outcome.Conversion.{accesses_outcome, access_outcome, chain_outcome, operands, pairs_outcome, pair_outcome, value_outcome, with_first}
use Rattle.cedar_conversion.specs.strict.Extensions.{Extensions}
use Rattle.cedar_conversion.specs.outcome.Outcome.{Outcome, both, next, item_more}
use Rattle.cedar_conversion.proofs.Loops.{take_next, map_snoc}
use Rattle.cedar_conversion.proofs.Outcomes.{settled}
use Rattle.cedar_conversion.proofs.Parts.{pair_chain}

pub last : {X : Type 0} (x : Outcome X) → next (both x (Ok [])) with_first ≡ item_more (Ok []) x
last (Ok v) = refl
last (Err fs) = refl

pub shifted : {X : Type 0} (x : Outcome X) (o : Outcome (List X)) (y : Outcome X) → next (both x (item_more o y)) with_first ≡ item_more (next (both x o) with_first) y
shifted (Ok x) (Ok o) (Ok y) = refl
shifted (Ok x) (Ok o) (Err hs) = refl
shifted (Ok x) (Err gs) (Ok y) = refl
shifted (Ok x) (Err gs) (Err hs) = refl
shifted (Err fs) (Ok o) (Ok y) = refl
shifted (Err fs) (Ok o) (Err hs) = refl
shifted (Err fs) (Err gs) (Ok y) = refl
shifted (Err fs) (Err gs) (Err hs) = ap Err (sym (append_assoc fs gs hs))

pub no_access : (e : Extensions) → accesses_outcome e (parts_of []) ≡ Ok []
unfolding accesses_outcome
no_access e = refl

accesses_snoc : (e : Extensions) (ps : List (Operator × Located)) (p : Operator × Located)
    → accesses_outcome e (parts_of (ps ++ p ∷ [])) ≡ item_more (accesses_outcome e (parts_of ps)) (access_outcome e p.1)
unfolding accesses_outcome
accesses_snoc e [] p = last (access_outcome e p.1)
accesses_snoc e (q ∷ ps) p =
    ap (λ o. next (both (access_outcome e q.1) o) with_first) (accesses_snoc e ps p)
    ∙ shifted (access_outcome e q.1) (accesses_outcome e (parts_of ps)) (access_outcome e p.1)

-- one access more than those that a loop has gone over
pub access_next : {X : Type 0} (e : Extensions) (g : X → Operator × Located) (xs : List X) (i : ℕ) (x : X) → i < length xs → x ≡ get_or xs i x
    → accesses_outcome e (parts_of (map g (take (i + 1) xs))) ≡ item_more (accesses_outcome e (parts_of (map g (take i xs)))) (access_outcome e (g x).1)
access_next e g xs i x h k = rw (take_next xs i x h k, map_snoc g (take i xs) x) (accesses_snoc e (map g (take i xs)) (g x))

pub no_pair : (e : Extensions) → pairs_outcome e (parts_of []) ≡ Ok []
unfolding pairs_outcome
no_pair e = refl

pairs_snoc : (e : Extensions) (ps : List (Operator × Located)) (p : Operator × Located)
    → pairs_outcome e (parts_of (ps ++ p ∷ [])) ≡ item_more (pairs_outcome e (parts_of ps)) (pair_outcome e p.1)
unfolding pairs_outcome
pairs_snoc e [] p = last (pair_outcome e p.1)
pairs_snoc e (q ∷ ps) p =
    ap (λ o. next (both (pair_outcome e q.1) o) with_first) (pairs_snoc e ps p)
    ∙ shifted (pair_outcome e q.1) (pairs_outcome e (parts_of ps)) (pair_outcome e p.1)

-- one pair more than those that a loop has gone over
pub pair_next : {X : Type 0} (e : Extensions) (g : X → Operator × Located) (xs : List X) (i : ℕ) (x : X) → i < length xs → x ≡ get_or xs i x
    → pairs_outcome e (parts_of (map g (take (i + 1) xs))) ≡ item_more (pairs_outcome e (parts_of (map g (take i xs)))) (pair_outcome e (g x).1)
pair_next e g xs i x h k = rw (take_next xs i x h k, map_snoc g (take i xs) x) (pairs_snoc e (map g (take i xs)) (g x))

-- ---- one alone

one_access : (e : Extensions) (place : Option Loc) (x : Outcome Held) (a : Outcome Access)
    → next (both x (next (both a (Ok [])) with_first)) (λ p. member_outcome e place p.0 p.1) ≡ next (both x a) (λ p. some_accesses e place p.0 (p.1 ∷ []))
one_access e place (Ok h) (Ok a) = refl
one_access e place (Ok h) (Err gs) = refl
one_access e place (Err fs) (Ok a) = refl
one_access e place (Err fs) (Err gs) = refl

-- a primary with one access alone
pub lone_access : {X : Type 0} (e : Extensions) (place : Option Loc) (g : X → Operator × Located) (xs : List X) (part : X) (x : Outcome Held) → xs ≡ part ∷ []
    → next (both x (accesses_outcome e (parts_of (map g xs)))) (λ p. member_outcome e place p.0 p.1) ≡ next (both x (access_outcome e (g part).1)) (λ p. some_accesses e place p.0 (p.1 ∷ []))
unfolding accesses_outcome
lone_access e place g xs part x h = rw h (one_access e place x (access_outcome e (g part).1))

-- a comparison of two sides alone
pub lone_side : (e : Extensions) (place : Option Loc) (xs : List (RelOp × Node (Option Add))) (side : RelOp × Node (Option Add)) (x : Outcome Held) → xs ≡ side ∷ []
    → chain_outcome relation place (parts_of (map relation_operand xs)) x (operands e place (parts_of (map relation_operand xs))) ≡ next (both x (value_outcome e (located add_form side.1))) (sides_outcome place side.0)
unfolding operands
lone_side e place xs side x h =
    rw (h, settled place (compare side.0) (value_outcome e (located add_form side.1)) (λ v. refl)) (pair_chain place side.0 (parts_of (map relation_operand (side ∷ []))) x (value_outcome e (located add_form side.1)) refl)
