-- States of one shape recover alike.
use Rattle.std.proofs.Common.{◌≡◌, ℕ, List, [], ◌∷◌, Option, Some, None, refl, sym, ◌∙◌, ap, subst}
use Rattle.cedar_lexer.specs.Token.{Lexeme}
use Rattle.cedar_lexer.specs.declared.token.TokenKind.{TokenKind}
use Rattle.cedar_grammar.specs.declared.reading.mark.Mark.{Mark}
use Rattle.cedar_grammar.specs.declared.reading.mark.Mark.TheVariants as mark
use Rattle.cedar_grammar.specs.declared.reading.recovery.RecoveryWay.{RecoveryWay}
use Rattle.cedar_grammar.specs.declared.reading.recovery.RecoveryWay.TheVariants as way
use Rattle.cedar_grammar.specs.machines.Machine.{Machine, Answer, next, ended, refused, too_large, AnswersRightly, IsParser, is_some, is_taken, Shapes, no_tree}
use Rattle.cedar_grammar.specs.machines.Marks.{mark_of}
use Rattle.cedar_grammar.specs.machines.Recovery.{Recovers, Recovery, reading, skipping, stopped, skip_step, judgment, recovery_step, run_faults, told_reading, told_end, told_all}
use Rattle.cedar_grammar.proofs.machines.Laws.{false_true, ends_alike}
use Rattle.cedar_policy_machine.proofs.machines.SequenceShapes.{IsShapeBy}

-- what recovery does with a state hangs on its shape alone
pub record IsByShape {S F V : Type 0} (r : Recovers S F) (f : S → V) : Type 0 where
  pub ways : (s q : S) → f s ≡ f q → r.way s ≡ r.way q
  pub closes : (s q : S) → f s ≡ f q → f (r.close s) ≡ f (r.close q)
  pub ends : (s q : S) → f s ≡ f q → f (r.end s) ≡ f (r.end q)
  pub tells : (s q : S) (l : ℕ) (o : Option Lexeme) → f s ≡ f q → r.tell s l o ≡ r.tell q l o

data Alike {S F V : Type 0} (f : S → V) : Recovery S F → Recovery S F → Type 0 where
  reads : {xs : List F} {l : ℕ} {s q : S} → f s ≡ f q → Alike f (reading xs l s) (reading xs l q)
  skips : {xs : List F} {w : RecoveryWay} {x : F} {s q : S} → f s ≡ f q → Alike f (skipping xs w s x) (skipping xs w q x)
  stops : {xs : List F} {x : F} → Alike f (stopped xs x) (stopped xs x)

skipped_alike : {S F V : Type 0} (r : Recovers S F) (f : S → V) → IsByShape r f → (xs : List F) (w : RecoveryWay) (s q : S) (x : F) (t : Lexeme) (c : Mark) → f s ≡ f q → Alike f (skip_step r xs w s x t c) (skip_step r xs w q x t c)
skipped_alike r f h xs way.ToBrace s q x t mark.CloseBrace e = reads (h.closes s q e)
skipped_alike r f h xs way.ToBrace s q x t mark.Semicolon e = reads (h.ends s q e)
skipped_alike r f h xs way.ToBrace s q x t _ e = skips e
skipped_alike r f h xs way.ToEnd s q x t mark.Semicolon e = reads (h.ends s q e)
skipped_alike r f h xs way.ToEnd s q x t _ e = skips e
skipped_alike r f h xs way.Stop s q x t c e = stops

-- two refusals
refused_alike : {S F V : Type 0} (r : Recovers S F) (f : S → V) → IsByShape r f → (xs : List F) (l : ℕ) (s q : S) (t : Lexeme) → f s ≡ f q →
    Alike f (skip_step r xs (r.way s) s (r.tell s l (Some t)) t (mark_of t.kind)) (skip_step r xs (r.way q) q (r.tell q l (Some t)) t (mark_of t.kind))
refused_alike r f h xs l s q t e =
    subst (λ w. Alike f (skip_step r xs (r.way s) s (r.tell s l (Some t)) t (mark_of t.kind)) (skip_step r xs w q (r.tell q l (Some t)) t (mark_of t.kind))) (h.ways s q e)
    (subst (λ x. Alike f (skip_step r xs (r.way s) s (r.tell s l (Some t)) t (mark_of t.kind)) (skip_step r xs (r.way s) q x t (mark_of t.kind))) (h.tells s q l (Some t) e)
    (skipped_alike r f h xs (r.way s) s q (r.tell s l (Some t)) t (mark_of t.kind) e))

next_is : {V : Type 0} {c : Answer V (Unit {0})} {u v : V} → c ≡ next u → c ≡ next v → u ≡ v
next_is e f = cc

judged_alike : {S T F V : Type 0} (r : Recovers S F) (f : S → V) → IsByShape r f → (xs : List F) (l : ℕ) (s q : S) (t : Lexeme) (a b : Answer S T) (c : Answer V (Unit {0})) (o p : Option T) → f s ≡ f q → IsShapeBy f a c → IsShapeBy f b c →
    AnswersRightly t a o → AnswersRightly t b p → Alike f (judgment r xs l s t a) (judgment r xs l q t b)
judged_alike r f h xs l s q t (next u) (next v) c o p e i j a b = reads (next_is i j)
judged_alike r f h xs l s q t (next u) (ended x) c o p e i j a b = absurd (cc)
judged_alike r f h xs l s q t (next u) refused c o p e i j a b = absurd (cc)
judged_alike r f h xs l s q t (next u) too_large c o p e i j a b = absurd (false_true b.1 (a b.0))
judged_alike r f h xs l s q t (ended x) (next v) c o p e i j a b = absurd (cc)
judged_alike r f h xs l s q t (ended x) (ended y) c o p e i j a b = refused_alike r f h xs l s q t e
judged_alike r f h xs l s q t (ended x) refused c o p e i j a b = refused_alike r f h xs l s q t e
judged_alike r f h xs l s q t (ended x) too_large c o p e i j a b = absurd (false_true (ap (λ c. is_taken c) i) j)
judged_alike r f h xs l s q t refused (next v) c o p e i j a b = absurd (cc)
judged_alike r f h xs l s q t refused (ended y) c o p e i j a b = refused_alike r f h xs l s q t e
judged_alike r f h xs l s q t refused refused c o p e i j a b = refused_alike r f h xs l s q t e
judged_alike r f h xs l s q t refused too_large c o p e i j a b = absurd (false_true (ap (λ c. is_taken c) i) j)
judged_alike r f h xs l s q t too_large (next v) c o p e i j a b = absurd (false_true a.1 (b a.0))
judged_alike r f h xs l s q t too_large (ended y) c o p e i j a b = absurd (false_true (ap (λ c. is_taken c) j) i)
judged_alike r f h xs l s q t too_large refused c o p e i j a b = absurd (false_true (ap (λ c. is_taken c) j) i)
judged_alike r f h xs l s q t too_large too_large c o p e i j a b = stops

recover_alike : {S T F V : Type 0} {m : Machine Lexeme S T} {n : Machine TokenKind V (Unit {0})} {R : List Lexeme → T → Type 0} (r : Recovers S F) (f : S → V) → IsByShape r f → IsParser m R → Shapes m n f no_tree → {a b : Recovery S F} (t : Lexeme) → Alike f a b →
    Alike f (recovery_step m r a t) (recovery_step m r b t)
recover_alike {m = m} {n = n} r f h d i t (reads {xs = xs} {l = l} {s = s} {q = q} e) =
    judged_alike r f h xs l s q t (m.step s t) (m.step q t) (n.step (f s) t.kind) (m.finish s) (m.finish q) e (i.steps s t) (subst (λ u. IsShapeBy f (m.step q t) (n.step u t.kind)) (sym e) (i.steps q t)) (d.answers s t) (d.answers q t)
recover_alike r f h d i t (skips {xs = xs} {w = w} {x = x} {s = s} {q = q} e) = skipped_alike r f h xs w s q x t (mark_of t.kind) e
recover_alike r f h d i t stops = stops

end_alike : {T F : Type 0} (xs : List F) (x y : F) (o p : Option T) → x ≡ y → is_some o ≡ is_some p → told_reading xs x o ≡ told_reading xs y p
end_alike xs x y None None e h = ap (λ x. run_faults xs (Some x)) e
end_alike xs x y (Some u) (Some v) e h = refl
end_alike xs x y None (Some v) e h = absurd (cc)
end_alike xs x y (Some u) None e h = absurd (cc)

ends_told : {S T F V : Type 0} {m : Machine Lexeme S T} {n : Machine TokenKind V (Unit {0})} (r : Recovers S F) (f : S → V) → IsByShape r f → Shapes m n f no_tree → {a b : Recovery S F} → Alike f a b → told_end m r a ≡ told_end m r b
ends_told {m = m} {n = n} r f h i (reads {xs = xs} {l = l} {s = s} {q = q} e) =
    end_alike xs (r.tell s l None) (r.tell q l None) (m.finish s) (m.finish q) (h.tells s q l None e) (sym (ends_alike f no_tree i s) ∙ ap (λ u. is_some (n.finish u)) e ∙ ends_alike f no_tree i q)
ends_told r f h i (skips e) = refl
ends_told r f h i stops = refl

all_alike : {S T F V : Type 0} {m : Machine Lexeme S T} {n : Machine TokenKind V (Unit {0})} {R : List Lexeme → T → Type 0} (r : Recovers S F) (f : S → V) → IsByShape r f → IsParser m R → Shapes m n f no_tree → {a b : Recovery S F} (ts : List Lexeme) → Alike f a b →
    told_all m r a ts ≡ told_all m r b ts
all_alike r f h d i [] e = ends_told r f h i e
all_alike r f h d i (t ∷ ts) e = all_alike r f h d i ts (recover_alike r f h d i t e)

-- two states of one shape
pub states_alike : {S T F V : Type 0} {m : Machine Lexeme S T} {n : Machine TokenKind V (Unit {0})} {R : List Lexeme → T → Type 0} (r : Recovers S F) (f : S → V) → IsByShape r f → IsParser m R → Shapes m n f no_tree → (xs : List F) (l : ℕ) (s q : S) (ts : List Lexeme) →
    f s ≡ f q → told_all m r (reading xs l s) ts ≡ told_all m r (reading xs l q) ts
states_alike r f h d i xs l s q ts e = all_alike r f h d i ts (reads e)
