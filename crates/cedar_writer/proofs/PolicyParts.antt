-- What is said of a part of a policy that was written, said otherwise, and of what stands around it.
use Rattle.std.proofs.Common.{◌≡◌, ℕ, ◌+◌, ◌<◌, Bool, true, false, arith, List, [], ◌∷◌, ◌++◌, length, refl, sym, ap, ◌∙◌, subst, codes, Result, Ok, Err, inl, inr}
use Rattle.std.specs.Prelude.{◌==◌}
use Rattle.std.proofs.lemmas.Bool.{eqb-true}
use Rattle.cedar_lexer.specs.Words.{TokenText}
use Rattle.cedar_lexer.specs.declared.token.TokenKind.TheVariants as kind
use Rattle.cedar_expressions.specs.declared.expr.Expr.{Expr}
use Rattle.cedar_expressions.specs.Meaning.{expr_meaning, unplaced}
use Rattle.cedar_expressions.specs.Slots.{Slots, slots_of, slots_in}
use Rattle.cedar_expressions.specs.Value as v
use Rattle.cedar_expressions.specs.Value.{Value}
use Rattle.cedar_expressions.specs.WithoutPlaces.{without_places}
use Rattle.cedar_conversion.specs.strict.Extensions.{Extensions}
use Rattle.cedar_syntax.specs.tokens.Signs.{sign_limit}
use Rattle.cedar_policy_conversion.proofs.SlotFree.{no_place, none_hidden}
use Rattle.cedar_writer.specs.declared.output.Output.{Output}
use Rattle.cedar_writer.specs.declared.refusal.NotWritable.{NotWritable}
use Rattle.cedar_writer.specs.declared.refusal.NotWritable.TheVariants as what
use Rattle.cedar_writer.specs.declared.refusal.NotWritten.{NotWritten}
use Rattle.cedar_writer.specs.declared.refusal.NotWritten.TheVariants as w
use Rattle.cedar_writer.specs.declared.refusal.NotWritten.TheVariants.{Memory}
use Rattle.cedar_writer.specs.Fitness.{HasUnfit, IsUnfitCondition, HasUnfitCondition}
use Rattle.cedar_writer.specs.Parts.{IsPartOf, itself, inside}
use Rattle.cedar_writer.specs.Writable.{IsWritable}
use Rattle.cedar_writer.specs.Writing.{words}
use Rattle.cedar_writer.specs.WrittenPolicies.{conditions_in, condition_words, conditions_words, IsWritableCondition, AreWritableConditions}
use Rattle.cedar_writer.specs.WrittenWords.{alone}
use Rattle.cedar_writer.specs.machines.Outputs.{Adds}
use Rattle.cedar_writer.specs.machines.Pending.{load}
use Rattle.cedar_writer.specs.machines.Policies.{IsFreeBody, IsUnwritableBody, IsUnwritableCondition, AreUnwritable, Writes}
use Rattle.cedar_writer.specs.machines.Shapes.{is_logical_not, is_joint}
use Rattle.cedar_writer.specs.machines.Stepping.{WritesValue}
use Rattle.cedar_writer.proofs.PoliciesWritten.{when_words, when_writable, when_was_writable, alone_in, joint_in, conditions_on, conditions_left, both_conditions, later_conditions}
use Rattle.cedar_writer.proofs.WordsAdded.{nothing_added, both_added, same_added}

-- ---- what was written

module _ {T : Type 0} (r : Result T NotWritten) where
  -- the same words, what else holds, and what is told of a refusal
  pub told_as : (a b : Output) (ws vs : List TokenText) (H K : Type 0) (R Q : NotWritable → Type 0) → ws ≡ vs → (H → K) → ((k : NotWritable) → R k → Q k) → Writes ws H R r a b → Writes vs K Q r a b
  told_as = by r
    where
      by : (x : Result T NotWritten) (a b : Output) (ws vs : List TokenText) (H K : Type 0) (R Q : NotWritable → Type 0) → ws ≡ vs → (H → K) → ((k : NotWritable) → R k → Q k) → Writes ws H R x a b → Writes vs K Q x a b
      by (Ok x) a b ws vs H K R Q e f g h = (same_added a b ws vs e h.0, f h.1)
      by (Err Memory) a b ws vs H K R Q e f g h = tt
      by (Err (w.NotWritable k)) a b ws vs H K R Q e f g h = g k h

  -- words before it
  pub behind : (a b c : Output) (ws vs : List TokenText) (H : Type 0) (R : NotWritable → Type 0) → Adds a b ws → Writes vs H R r b c → Writes (ws ++ vs) H R r a c
  behind = by r
    where
      by : (x : Result T NotWritten) (a b c : Output) (ws vs : List TokenText) (H : Type 0) (R : NotWritable → Type 0) → Adds a b ws → Writes vs H R x b c → Writes (ws ++ vs) H R x a c
      by (Ok x) a b c ws vs H R h k = (both_added a b c ws vs h k.0, k.1)
      by (Err Memory) a b c ws vs H R h k = tt
      by (Err (w.NotWritable k)) a b c ws vs H R h i = i

-- ---- the body of a condition

-- a value without slots is itself, its places aside
bare : (e : Expr) → slots_in e ≡ [] → unplaced e ≡ expr_meaning e
unfolding unplaced slots_in
bare e h = no_place (expr_meaning e) h

pub bare_free : (table : Extensions) (limit : ℕ) (e : Expr) → slots_in e ≡ [] → IsWritable table limit (expr_meaning e) → IsFreeBody table limit (unplaced e)
unfolding unplaced slots_in
bare_free table limit e h i = (subst (IsWritable table limit) (sym (bare e h)) i, ap slots_of (bare e h) ∙ h)

pub bare_words : (table : Extensions) (e : Expr) → slots_in e ≡ [] → words table (expr_meaning e) ≡ words table (unplaced e)
bare_words table e h = ap (words table) (sym (bare e h))

pub slot_found : (table : Extensions) (limit : ℕ) (e : Expr) → (slots_in e ≡ [] → ⊥) → IsUnwritableBody table limit (unplaced e) what.SlotInCondition
unfolding unplaced slots_in
slot_found table limit e n = (inl (refl, λ h. n (none_hidden (expr_meaning e) h)), λ f. n (none_hidden (expr_meaning e) f.1))

pub body_refused : (table : Extensions) (limit : ℕ) (e : Expr) (k : NotWritable) → slots_in e ≡ [] → (IsWritable table limit (expr_meaning e) → ⊥) → HasUnfit table limit (expr_meaning e) k → IsUnwritableBody table limit (unplaced e) k
body_refused table limit e k h never unfit = (inr (subst (λ a. HasUnfit table limit a k) (sym (bare e h)) unfit), λ f. never (subst (IsWritable table limit) (bare e h) f.0))

-- ---- one condition

within : {whole a b : Value} → IsPartOf whole a → IsPartOf a b → IsPartOf whole b
within p itself = p
within p (inside q i) = inside (within p q) i

unfit_negated : (table : Extensions) (limit : ℕ) (a : Value) (k : NotWritable) → IsUnfitCondition table limit a k → IsUnfitCondition table limit (v.not a) k
unfolding slots_of
unfit_negated table limit a k (inl h) = inl h
unfit_negated table limit a k (inr h) = inr (h.0, within (inside itself (inl refl)) h.1, h.2)

negated_bare : (c a : Expr) → expr_meaning c ≡ v.not (expr_meaning a) → unplaced c ≡ v.not (unplaced a)
unfolding unplaced without_places
negated_bare c a e = ap without_places e

module _ {T : Type 0} (table : Extensions) (limit : ℕ) (r : Result T NotWritten) (before mid out : Output) where
  pub unless_written : (c a : Expr) → expr_meaning c ≡ v.not (expr_meaning a) → Adds before mid (alone kind.Unless (codes "unless"))
      → Writes (alone kind.OpenBrace (codes "{") ++ words table (unplaced a) ++ alone kind.CloseBrace (codes "}")) (IsFreeBody table limit (unplaced a)) (IsUnwritableBody table limit (unplaced a)) r mid out
      → Writes (condition_words table (unplaced c)) (IsWritableCondition table limit (unplaced c)) (IsUnwritableCondition table limit (unplaced c)) r before out
  unless_written c a e adds h =
      let is : unplaced c ≡ v.not (unplaced a) = negated_bare c a e in
      told_as r before out _ (condition_words table (unplaced c)) (IsFreeBody table limit (unplaced a)) (IsWritableCondition table limit (unplaced c)) (IsUnwritableBody table limit (unplaced a)) (IsUnwritableCondition table limit (unplaced c))
      (ap (condition_words table) (sym is))
      (λ f. subst (IsWritableCondition table limit) (sym is) f)
      (λ k n. (subst (λ x. IsUnfitCondition table limit x k) (sym is) (unfit_negated table limit (unplaced a) k n.0), λ f. n.1 (subst (IsWritableCondition table limit) is f)))
      (behind r before mid out (alone kind.Unless (codes "unless")) _ (IsFreeBody table limit (unplaced a)) (IsUnwritableBody table limit (unplaced a)) adds h)

  pub when_written : (c : Expr) → is_logical_not (expr_meaning c) ≡ false → Adds before mid (alone kind.When (codes "when"))
      → Writes (alone kind.OpenBrace (codes "{") ++ words table (unplaced c) ++ alone kind.CloseBrace (codes "}")) (IsFreeBody table limit (unplaced c)) (IsUnwritableBody table limit (unplaced c)) r mid out
      → Writes (condition_words table (unplaced c)) (IsWritableCondition table limit (unplaced c)) (IsUnwritableCondition table limit (unplaced c)) r before out
  unfolding unplaced
  when_written c e adds h =
      told_as r before out _ (condition_words table (unplaced c)) (IsFreeBody table limit (unplaced c)) (IsWritableCondition table limit (unplaced c)) (IsUnwritableBody table limit (unplaced c)) (IsUnwritableCondition table limit (unplaced c))
      (sym (when_words table (expr_meaning c) e))
      (λ f. when_writable table limit (expr_meaning c) e f)
      (λ k n. (n.0, λ f. n.1 (when_was_writable table limit (expr_meaning c) e f)))
      (behind r before mid out (alone kind.When (codes "when")) _ (IsFreeBody table limit (unplaced c)) (IsUnwritableBody table limit (unplaced c)) adds h)

-- ---- conditions that were joined

unfit_later : (table : Extensions) (limit : ℕ) (cs ds : List Value) (k : NotWritable) → HasUnfitCondition table limit ds k → HasUnfitCondition table limit (cs ++ ds) k
unfit_later table limit [] ds k h = h
unfit_later table limit (c ∷ cs) ds k h = inr (unfit_later table limit cs ds k h)

unwritable_later : (table : Extensions) (limit : ℕ) (all cs rest : List Value) (c : Value) (k : NotWritable) → all ≡ cs ++ c ∷ rest → IsUnwritableCondition table limit c k → AreUnwritable table limit all k
unwritable_later table limit all cs rest c k e n = (
  subst (λ xs. HasUnfitCondition table limit xs k) (sym e) (unfit_later table limit cs (c ∷ rest) k (inl n.0)),
  λ f. n.1 (later_conditions table limit cs (c ∷ rest) (subst (AreWritableConditions table limit) e f)).0,
)

module _ (table : Extensions) (limit : ℕ) where
  -- the conditions so far were written
  pub record Conditioned (a b : Output) (whole left : Expr) : Type 0 where
    pub done : List Value
    pub adds : Adds a b (conditions_words table done [])
    pub writable : AreWritableConditions table limit done
    pub is : conditions_in (unplaced whole) ≡ done ++ conditions_in (unplaced left)

  joint_now : (left x y : Expr) → expr_meaning left ≡ v.and (expr_meaning x) (expr_meaning y) → conditions_in (unplaced left) ≡ unplaced x ∷ conditions_in (unplaced y)
  unfolding unplaced
  joint_now left x y e = joint_in (expr_meaning left) (expr_meaning x) (expr_meaning y) e

  alone_now : (left : Expr) → is_joint (expr_meaning left) ≡ false → conditions_in (unplaced left) ≡ unplaced left ∷ []
  unfolding unplaced
  alone_now left e = alone_in (expr_meaning left) e

  pub conditioned_first : (a : Output) (e : Expr) → Conditioned a a e e
  conditioned_first a e = record { done = []; adds = nothing_added a; writable = tt; is = refl }

  module _ (a b c : Output) (whole left : Expr) where
    pub conditioned_on : (x y : Expr) → expr_meaning left ≡ v.and (expr_meaning x) (expr_meaning y) → Conditioned a b whole left → Adds b c (condition_words table (unplaced x)) → IsWritableCondition table limit (unplaced x) → Conditioned a c whole y
    conditioned_on x y e h adds free = record {
      done = h.done ++ unplaced x ∷ [];
      adds = conditions_on table a b c h.done (unplaced x) h.adds adds;
      writable = both_conditions table limit h.done (unplaced x ∷ []) h.writable (free, tt);
      is = conditions_left (conditions_in (unplaced whole)) h.done (conditions_in (unplaced left)) (conditions_in (unplaced y)) (unplaced x) h.is (joint_now left x y e);
    }

    pub joint_refused : (why : NotWritten) (x y : Expr) → expr_meaning left ≡ v.and (expr_meaning x) (expr_meaning y) → Conditioned a b whole left
        → Writes (condition_words table (unplaced x)) (IsWritableCondition table limit (unplaced x)) (IsUnwritableCondition table limit (unplaced x)) {T = Unit {0}} (Err why) b c
        → Writes (conditions_words table (conditions_in (unplaced whole)) []) (AreWritableConditions table limit (conditions_in (unplaced whole))) (AreUnwritable table limit (conditions_in (unplaced whole))) {T = Unit {0}} (Err why) a c
    joint_refused Memory x y e h n = tt
    joint_refused (w.NotWritable k) x y e h n = unwritable_later table limit (conditions_in (unplaced whole)) h.done (conditions_in (unplaced y)) (unplaced x) k (h.is ∙ ap (λ xs. h.done ++ xs) (joint_now left x y e)) n

    pub last_written : {T : Type 0} (r : Result T NotWritten) → is_joint (expr_meaning left) ≡ false → Conditioned a b whole left
        → Writes (condition_words table (unplaced left)) (IsWritableCondition table limit (unplaced left)) (IsUnwritableCondition table limit (unplaced left)) r b c
        → Writes (conditions_words table (conditions_in (unplaced whole)) []) (AreWritableConditions table limit (conditions_in (unplaced whole))) (AreUnwritable table limit (conditions_in (unplaced whole))) r a c
    last_written (Ok x) e h n =
        let is : conditions_in (unplaced whole) ≡ h.done ++ unplaced left ∷ [] = h.is ∙ ap (λ xs. h.done ++ xs) (alone_now left e) in (
          same_added a c _ (conditions_words table (conditions_in (unplaced whole)) []) (ap (λ cs. conditions_words table cs []) (sym is)) (conditions_on table a b c h.done (unplaced left) h.adds n.0),
          subst (AreWritableConditions table limit) (sym is) (both_conditions table limit h.done (unplaced left ∷ []) h.writable (n.1, tt)),
        )
    last_written (Err Memory) e h n = tt
    last_written (Err (w.NotWritable k)) e h n = unwritable_later table limit (conditions_in (unplaced whole)) h.done [] (unplaced left) k (h.is ∙ ap (λ xs. h.done ++ xs) (alone_now left e)) n

-- the later of two conditions is less to write
pub later_is_less : (left x y : Expr) → expr_meaning left ≡ v.and (expr_meaning x) (expr_meaning y) → load (expr_meaning y) < load (expr_meaning left)
unfolding load
later_is_less left x y e =
    let sum : load (expr_meaning left) ≡ load (expr_meaning x) + load (expr_meaning y) + 20 = ap load e in
    omega (arith, sum)

-- ---- the slots of a body

true_false : true ≡ false → ⊥
true_false e = cc

abbrev is_there : Slots → Bool
is_there [] = false
is_there (x ∷ xs) = true

pub some_slots : (xs ys : Slots) → (length xs == 0) ≡ false → xs ≡ ys → ys ≡ [] → ⊥
some_slots [] ys h e f = true_false h
some_slots (x ∷ xs) ys h e f = true_false (ap is_there (e ∙ f))

pub no_slots : (xs ys : Slots) → (length xs == 0) ≡ true → xs ≡ ys → ys ≡ []
no_slots [] ys h e = sym e
no_slots (x ∷ xs) ys h e = absurd (omega (arith, eqb-true (length (x ∷ xs)) 0 h))

pub body_unwritten : (table : Extensions) (e : Expr) (why : NotWritten) (ws : List TokenText) (a b c d : Output) → slots_in e ≡ []
    → WritesValue table (expr_meaning e) {T = Unit {0}} (Err why) a b → Writes ws (IsFreeBody table sign_limit (unplaced e)) (IsUnwritableBody table sign_limit (unplaced e)) {T = Unit {0}} (Err why) c d
body_unwritten table e Memory ws a b c d h n = tt
body_unwritten table e (w.NotWritable k) ws a b c d h n = body_refused table sign_limit e k h n.0 n.1
