-- A policy's words from those of its parts, and what is told of it from what is told of them; and
-- one policy more.
use Rattle.std.proofs.Common.{◌≡◌, ℕ, List, [], ◌∷◌, ◌++◌, map, refl, sym, ap, ◌∙◌, subst, append_assoc, append-nil, codes, Option, Err, inl, inr}
use Rattle.std.specs.FinMap.{entries}
use Rattle.std.specs.Option.{option_map}
use Rattle.cedar_lexer.specs.Words.{TokenText}
use Rattle.cedar_lexer.specs.declared.token.TokenKind.TheVariants as kind
use Rattle.cedar_expressions.specs.declared.expr.Expr.{Expr}
use Rattle.cedar_expressions.specs.Meaning.{unplaced}
use Rattle.cedar_conversion.specs.strict.Extensions.{Extensions}
use Rattle.cedar_policy_store.specs.declared.constraints.ActionConstraint.{ActionConstraint}
use Rattle.cedar_policy_store.specs.declared.template.Template.{Template}
use Rattle.cedar_policy_store.specs.PlaceFree.{Constraint, at_value, annotation_value}
use Rattle.cedar_writer.specs.declared.output.Output.{Output}
use Rattle.cedar_writer.specs.declared.refusal.NotWritable.{NotWritable}
use Rattle.cedar_writer.specs.declared.refusal.NotWritten.{NotWritten}
use Rattle.cedar_writer.specs.declared.refusal.NotWritten.TheVariants as w
use Rattle.cedar_writer.specs.declared.refusal.NotWritten.TheVariants.{Memory}
use Rattle.cedar_writer.specs.Fitness.{IsUnfitAction}
use Rattle.cedar_writer.specs.WrittenPolicies.{Parts, annotations_words, asks_words, action_words, scope_words, conditions_of, conditions_words, effect_words, policy_words, policies_words, AreWritableAnnotations, IsWritableConstraint, IsWritableAction, AreWritableConditions, IsWritablePolicy, AreWritablePolicies}
use Rattle.cedar_writer.specs.WrittenTexts.{written_parts, all_parts}
use Rattle.cedar_writer.specs.WrittenWords.{alone}
use Rattle.cedar_writer.specs.Writing.{comma}
use Rattle.cedar_writer.specs.machines.Outputs.{Adds}
use Rattle.cedar_writer.specs.machines.Policies.{AreUnwritable, IsUnwritable, IsOneUnwritable, Writes}
use Rattle.cedar_writer.proofs.ByKey.{keys_differ}
use Rattle.cedar_writer.proofs.PoliciesWritten.{keys_are_apart, policies_on}
use Rattle.cedar_writer.proofs.WordsAdded.{nothing_added, then}

-- ---- the scope

pub scope_added : (p r : Constraint) (x : ActionConstraint) {a b c d e f g h i : Output}
    → Adds a b (alone kind.Principal (codes "principal")) → Adds b c (asks_words kind.PrincipalSlot (codes "?principal") p)
    → Adds c d comma → Adds d e (alone kind.Action (codes "action")) → Adds e f (action_words x)
    → Adds f g comma → Adds g h (alone kind.Resource (codes "resource")) → Adds h i (asks_words kind.ResourceSlot (codes "?resource") r)
    → Adds a i (scope_words p x r)
scope_added p r x s1 s2 s3 s4 s5 s6 s7 s8 = then (then (then (then (then s1 s2) s3) (then s4 s5)) s6) (then s7 s8)

-- ---- a policy

abbrev pub Scoped : Template → Type 0
Scoped t = IsWritableConstraint (written_parts t).principal × IsWritableAction (written_parts t).action × IsWritableConstraint (written_parts t).resource

module _ (table : Extensions) (limit : ℕ) (t : Template) (o : Option Expr) where
  conditions_now : o ≡ t.condition → conditions_of (option_map unplaced o) ≡ conditions_of (written_parts t).condition
  conditions_now is = ap (λ (x : Option Expr). conditions_of (option_map unplaced x)) is

  pub policy_added : {a b c d e f g h : Output} → o ≡ t.condition
      → Adds a b (annotations_words (map (at_value annotation_value) (entries t.annotations)) []) → Adds b c (effect_words t.effect)
      → Adds c d (alone kind.OpenParen (codes "(")) → Adds d e (scope_words (written_parts t).principal (written_parts t).action (written_parts t).resource)
      → Adds e f (alone kind.CloseParen (codes ")")) → Adds f g (conditions_words table (conditions_of (option_map unplaced o)) [])
      → Adds g h (alone kind.Semicolon (codes ";")) → Adds a h (policy_words table (written_parts t))
  policy_added {f = f} {g = g} is s1 s2 s3 s4 s5 s6 s7 =
      then (then (then (then (then (then s1 s2) s3) s4) s5) (subst (λ cs. Adds f g (conditions_words table cs [])) (conditions_now is) s6)) s7

  pub policy_writable : o ≡ t.condition → AreWritableAnnotations (map (at_value annotation_value) (entries t.annotations)) → Scoped t
      → AreWritableConditions table limit (conditions_of (option_map unplaced o)) → IsWritablePolicy table limit (written_parts t)
  policy_writable is notes scope conditions = record {
    annotations = notes;
    keys_differ = keys_differ (map (at_value annotation_value) (entries t.annotations)) (keys_are_apart t);
    principal = scope.0;
    action = scope.1;
    resource = scope.2;
    conditions = subst (AreWritableConditions table limit) (conditions_now is) conditions;
  }

  module _ (a b c : Output) where
    pub scope_refused : (why : NotWritten) (ws : List TokenText)
        → Writes ws (Scoped t) (IsUnfitAction (written_parts t).action) {T = Unit {0}} (Err why) b c
        → Writes (policy_words table (written_parts t)) (IsWritablePolicy table limit (written_parts t)) (IsUnwritable table limit (written_parts t)) {T = Unit {0}} (Err why) a c
    scope_refused Memory ws h = tt
    scope_refused (w.NotWritable k) ws h = (inl h, λ f g. h.1 f)

    pub conditions_refused : (why : NotWritten) (ws : List TokenText) → o ≡ t.condition
        → Writes ws (AreWritableConditions table limit (conditions_of (option_map unplaced o))) (AreUnwritable table limit (conditions_of (option_map unplaced o))) {T = Unit {0}} (Err why) b c
        → Writes (policy_words table (written_parts t)) (IsWritablePolicy table limit (written_parts t)) (IsUnwritable table limit (written_parts t)) {T = Unit {0}} (Err why) a c
    conditions_refused Memory ws is h = tt
    conditions_refused (w.NotWritable k) ws is h =
        let now = subst (λ cs. AreUnwritable table limit cs k) (conditions_now is) h in
        (inr now.0, λ f g. now.1 g)

-- ---- one policy more

parts_last : (ts : List Template) (t : Template) → all_parts (ts ++ t ∷ []) ≡ all_parts ts ++ written_parts t ∷ []
parts_last [] t = refl
parts_last (x ∷ xs) t = ap (λ ys. written_parts x ∷ ys) (parts_last xs t)

-- all but those that are left were written
pub record Sofar (table : Extensions) (limit : ℕ) (a b : Output) (all left : List Template) : Type 0 where
  pub done : List Template
  pub is : all ≡ done ++ left
  pub adds : Adds a b (policies_words table (all_parts done) [])
  pub writable : AreWritablePolicies table limit (all_parts done)

module _ (table : Extensions) (limit : ℕ) where
  both_policies : (xs : List Parts) (x : Parts) → AreWritablePolicies table limit xs → IsWritablePolicy table limit x → AreWritablePolicies table limit (xs ++ x ∷ [])
  both_policies [] x h k = (k, tt)
  both_policies (y ∷ ys) x h k = (h.0, both_policies ys x h.1 k)

  pub none_yet : (a : Output) (all left : List Template) → all ≡ left → Sofar table limit a a all left
  none_yet a all left e = record { done = []; is = e; adds = nothing_added a; writable = tt }

  pub next_added : (a b c : Output) (all left rest : List Template) (t : Template) → left ≡ t ∷ rest → Sofar table limit a b all left
      → Adds b c (policy_words table (written_parts t)) × IsWritablePolicy table limit (written_parts t) → Sofar table limit a c all rest
  next_added a b c all left rest t e h k =
      let more = sym (parts_last h.done t) in record {
        done = h.done ++ t ∷ [];
        is = h.is ∙ ap (λ y. h.done ++ y) e ∙ sym (append_assoc h.done (t ∷ []) rest);
        adds = subst (λ xs. Adds a c (policies_words table xs [])) more (policies_on table a b c (all_parts h.done) (written_parts t) h.adds k.0);
        writable = subst (AreWritablePolicies table limit) more (both_policies (all_parts h.done) (written_parts t) h.writable k.1);
      }

  pub all_added : (a b : Output) (all left : List Template) → left ≡ [] → Sofar table limit a b all left
      → Adds a b (policies_words table (all_parts all) []) × AreWritablePolicies table limit (all_parts all)
  all_added a b all left e h =
      let done : h.done ≡ all = sym (h.is ∙ ap (λ y. h.done ++ y) e ∙ append-nil h.done) in
      (subst (λ ts. Adds a b (policies_words table (all_parts ts) [])) done h.adds, subst (λ ts. AreWritablePolicies table limit (all_parts ts)) done h.writable)

  one_unwritable : (done : List Template) (t : Template) (rest : List Template) (k : NotWritable) → IsUnwritable table limit (written_parts t) k → IsOneUnwritable table limit (all_parts (done ++ t ∷ rest)) k
  one_unwritable [] t rest k h = inl h
  one_unwritable (x ∷ xs) t rest k h = inr (one_unwritable xs t rest k h)

  pub next_refused : (a b c : Output) (all left rest : List Template) (t : Template) (why : NotWritten) → left ≡ t ∷ rest → Sofar table limit a b all left
      → Writes (policy_words table (written_parts t)) (IsWritablePolicy table limit (written_parts t)) (IsUnwritable table limit (written_parts t)) {T = Unit {0}} (Err why) b c
      → Writes (policies_words table (all_parts all) []) (AreWritablePolicies table limit (all_parts all)) (IsOneUnwritable table limit (all_parts all)) {T = Unit {0}} (Err why) a c
  next_refused a b c all left rest t Memory e h k = tt
  next_refused a b c all left rest t (w.NotWritable what) e h k = subst (λ ts. IsOneUnwritable table limit (all_parts ts) what) (sym (h.is ∙ ap (λ y. h.done ++ y) e)) (one_unwritable h.done t rest what k)
