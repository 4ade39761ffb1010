-- What a plan makes of a machine, and what of it hangs on a state's shape alone.
use Rattle.std.proofs.Common.{◌≡◌, ℕ, List, [], ◌∷◌, Option, Some, None, Bool, true, refl, sym, ◌∙◌, ap, subst}
use Rattle.std.specs.Prelude.{◌||◌, ◌&&◌, not, cond}
use Rattle.cedar_lexer.specs.Token.{Lexeme}
use Rattle.cedar_lexer.specs.declared.token.TokenKind.{TokenKind}
use Rattle.cedar_lexer.specs.declared.token.TokenKind.TheVariants as kind
use Rattle.cedar_syntax.specs.declared.err.to_cst.RawFault.{RawFault}
use Rattle.cedar_grammar.specs.declared.reading.expected.ClosersOnly.{ClosersOnly}
use Rattle.cedar_grammar.specs.declared.reading.expected.ClosersOnly.TheVariants as narrowing
use Rattle.cedar_grammar.specs.faults.Expected.{by_name, is_closer, can_narrow}
use Rattle.cedar_grammar.specs.faults.FirstFault.{tokens_end, unexpected_fault, early_at}
use Rattle.cedar_grammar.specs.machines.Machine.{Machine, next, ended, refused, too_large, AnswersRightly, Reader, done_answer, end_answer, planned_answer, machine_of, allowed_by, allows, Outline, outline_machine, IsDone, IsOutline, IsShape, option_image, Shapes, is_some, is_taken, IsParser}
use Rattle.cedar_grammar.specs.machines.Judged.{may_take, ReadsBy, any_closer, is_narrowed, picks, picked_kinds, wanted_kinds, large_fault, stop_fault}
use Rattle.cedar_grammar.specs.machines.Mending.{refused_fault}
use Rattle.cedar_grammar.proofs.machines.Laws.{exactly, ends_alike}

-- ---- what is planned, and done

pub record IsTaken {S A T : Type 0} (src : List ℕ) (r : Reader S A T) (s : S) (t : Lexeme) (q : S) : Type 0 where
  pub what : A
  pub planned : r.plan s t.kind ≡ Some what
  pub made : r.act src s what t ≡ Some q

-- a number that doesn't fit
pub record IsTooLarge {S A T : Type 0} (src : List ℕ) (r : Reader S A T) (s : S) (t : Lexeme) : Type 0 where
  pub what : A
  pub planned : r.plan s t.kind ≡ Some what
  pub made : r.act src s what t ≡ None

-- by what is planned, and what the act makes

pub takes : {S A T : Type 0} (src : List ℕ) (r : Reader S A T) (s q : S) (a : A) (t : Lexeme) → r.plan s t.kind ≡ Some a → r.act src s a t ≡ Some q → (machine_of src r).step s t ≡ next q
takes src r s q a t e f = ap (λ o. planned_answer (λ a. r.act src s a t) (r.finish src s) o) e ∙ ap (λ o. done_answer o) f

pub stops : {S A T : Type 0} (src : List ℕ) (r : Reader S A T) (s : S) (a : A) (t : Lexeme) → r.plan s t.kind ≡ Some a → r.act src s a t ≡ None → (machine_of src r).step s t ≡ too_large
stops src r s a t e f = ap (λ o. planned_answer (λ a. r.act src s a t) (r.finish src s) o) e ∙ ap (λ o. done_answer o) f

pub leaves : {S A T : Type 0} (src : List ℕ) (r : Reader S A T) (s : S) (t : Lexeme) → r.plan s t.kind ≡ None → (machine_of src r).step s t ≡ end_answer (r.finish src s)
leaves src r s t e = ap (λ o. planned_answer (λ a. r.act src s a t) (r.finish src s) o) e

pub leaves_tree : {S A T : Type 0} (src : List ℕ) (r : Reader S A T) (s : S) (t : Lexeme) (x : T) → r.plan s t.kind ≡ None → r.finish src s ≡ Some x → (machine_of src r).step s t ≡ ended x
leaves_tree src r s t x e f = leaves src r s t e ∙ ap (λ o. end_answer o) f

pub leaves_none : {S A T : Type 0} (src : List ℕ) (r : Reader S A T) (s : S) (t : Lexeme) → r.plan s t.kind ≡ None → r.finish src s ≡ None → (machine_of src r).step s t ≡ refused
leaves_none src r s t e f = leaves src r s t e ∙ ap (λ o. end_answer o) f

-- ---- by the answer

done_next : {S T : Type 0} (o : Option S) (q : S) → done_answer {T = T} o ≡ next q → o ≡ Some q
done_next (Some s) q e = cc
done_next None q e = absurd (cc)

done_large : {S T : Type 0} (o : Option S) → done_answer {T = T} o ≡ too_large → o ≡ None
done_large (Some s) e = absurd (cc)
done_large None e = refl

not_ended : {S T : Type 0} (o : Option S) (x : T) → done_answer o ≡ ended x → ⊥
not_ended (Some s) x e = cc
not_ended None x e = cc

not_refused : {S T : Type 0} (o : Option S) → done_answer {T = T} o ≡ refused → ⊥
not_refused (Some s) e = cc
not_refused None e = cc

end_tree : {S T : Type 0} (o : Option T) (x : T) → end_answer {S = S} o ≡ ended x → o ≡ Some x
end_tree (Some y) x e = cc
end_tree None x e = absurd (cc)

end_none : {S T : Type 0} (o : Option T) → end_answer {S = S} o ≡ refused → o ≡ None
end_none (Some y) e = absurd (cc)
end_none None e = refl

not_next : {S T : Type 0} (o : Option T) (q : S) → end_answer o ≡ next q → ⊥
not_next (Some y) q e = cc
not_next None q e = cc

not_large : {S T : Type 0} (o : Option T) → end_answer {S = S} o ≡ too_large → ⊥
not_large (Some y) e = cc
not_large None e = cc

pub taken_by : {S A T : Type 0} (src : List ℕ) (r : Reader S A T) (s q : S) (t : Lexeme) → (machine_of src r).step s t ≡ next q → IsTaken src r s t q
taken_by {A = A} src r s q t e = go (r.plan s t.kind) refl e
  where
    go : (o : Option A) → r.plan s t.kind ≡ o → planned_answer (λ a. r.act src s a t) (r.finish src s) o ≡ next q → IsTaken src r s t q
    go (Some a) h e = record { what = a; planned = h; made = done_next (r.act src s a t) q e }
    go None h e = absurd (not_next (r.finish src s) q e)

pub large_by : {S A T : Type 0} (src : List ℕ) (r : Reader S A T) (s : S) (t : Lexeme) → (machine_of src r).step s t ≡ too_large → IsTooLarge src r s t
large_by {A = A} src r s t e = go (r.plan s t.kind) refl e
  where
    go : (o : Option A) → r.plan s t.kind ≡ o → planned_answer (λ a. r.act src s a t) (r.finish src s) o ≡ too_large → IsTooLarge src r s t
    go (Some a) h e = record { what = a; planned = h; made = done_large (r.act src s a t) e }
    go None h e = absurd (not_large (r.finish src s) e)

pub ended_by : {S A T : Type 0} (src : List ℕ) (r : Reader S A T) (s : S) (t : Lexeme) (x : T) → (machine_of src r).step s t ≡ ended x → (r.plan s t.kind ≡ None) × (r.finish src s ≡ Some x)
ended_by {A = A} src r s t x e = go (r.plan s t.kind) refl e
  where
    go : (o : Option A) → r.plan s t.kind ≡ o → planned_answer (λ a. r.act src s a t) (r.finish src s) o ≡ ended x → (r.plan s t.kind ≡ None) × (r.finish src s ≡ Some x)
    go (Some a) h e = absurd (not_ended (r.act src s a t) x e)
    go None h e = (h, end_tree (r.finish src s) x e)

pub refused_by : {S A T : Type 0} (src : List ℕ) (r : Reader S A T) (s : S) (t : Lexeme) → (machine_of src r).step s t ≡ refused → (r.plan s t.kind ≡ None) × (r.finish src s ≡ None)
refused_by {A = A} src r s t e = go (r.plan s t.kind) refl e
  where
    go : (o : Option A) → r.plan s t.kind ≡ o → planned_answer (λ a. r.act src s a t) (r.finish src s) o ≡ refused → (r.plan s t.kind ≡ None) × (r.finish src s ≡ None)
    go (Some a) h e = absurd (not_refused (r.act src s a t) e)
    go None h e = (h, end_none (r.finish src s) e)

-- what is planned is taken, or is a number that doesn't fit

planned_may : {S A T : Type 0} (act : A → Option S) (tree : Option T) (o : Option A) → may_take (planned_answer act tree o) ≡ is_some o
planned_may act (Some x) None = refl
planned_may act None None = refl
planned_may {T = T} act tree (Some a) = done_may T (act a)
  where
    done_may : {S : Type 0} (T : Type 0) (o : Option S) → may_take (done_answer {T = T} o) ≡ true
    done_may T (Some s) = refl
    done_may T None = refl

pub may_by : {S A T : Type 0} (src : List ℕ) (r : Reader S A T) (s : S) (t : Lexeme) → may_take ((machine_of src r).step s t) ≡ allowed_by r s (Some t.kind)
may_by src r s t = planned_may (λ a. r.act src s a t) (r.finish src s) (r.plan s t.kind)

-- ---- the outline

shaped_at : {S A T U V : Type 0} (src : List ℕ) (r : Reader S A T) (n : Outline U A V) (f : S → U) (g : T → V) → IsOutline src r n f g → (s : S) (t : Lexeme) (o : Option A) → r.plan s t.kind ≡ o →
    IsShape f g (planned_answer (λ a. r.act src s a t) (r.finish src s) o) (planned_answer (λ a. Some (n.act (f s) a t.kind)) (option_image g (r.finish src s)) o)
shaped_at {S = S} {U = U} src r n f g i s t (Some a) h = go (r.act src s a t) refl
  where
    go : (o : Option S) → r.act src s a t ≡ o → IsShape f g (done_answer o) (next (n.act (f s) a t.kind))
    go (Some q) e = ap (λ u. next u) (sym (i.acts s q a t h e))
    go None e = refl
shaped_at src r n f g i s t None h = left f g (r.finish src s)
  where
    left : {S T U V : Type 0} (f : S → U) (g : T → V) (o : Option T) → IsShape f g (end_answer o) (end_answer (option_image g o))
    left f g (Some x) = refl
    left f g None = refl

pub shaped_by : {S A T U V : Type 0} {src : List ℕ} {r : Reader S A T} {n : Outline U A V} {f : S → U} {g : T → V} → IsOutline src r n f g → Shapes (machine_of src r) (outline_machine n) f g
shaped_by {S = S} {src = src} {r = r} {n = n} {f = f} {g = g} i = record {
  starts = i.starts;
  steps = λ s t. subst (λ c. IsShape f g ((machine_of src r).step s t) c) (sym (step_is s t)) (shaped_at src r n f g i s t (r.plan s t.kind) refl);
  finishes = i.finishes;
}
  where
    step_is : (s : S) (t : Lexeme) → (outline_machine n).step (f s) t.kind ≡ planned_answer (λ a. Some (n.act (f s) a t.kind)) (option_image g (r.finish src s)) (r.plan s t.kind)
    step_is s t = ap (λ o. planned_answer (λ a. Some (n.act (f s) a t.kind)) (n.finish (f s)) o) (sym (i.plans s t.kind)) ∙ ap (λ x. planned_answer (λ a. Some (n.act (f s) a t.kind)) x (r.plan s t.kind)) (i.finishes s)

answers_at : {S A T U V : Type 0} (src : List ℕ) (r : Reader S A T) (n : Outline U A V) (f : S → U) (g : T → V) → IsOutline src r n f g → (s : S) (t : Lexeme) (o : Option A) → r.plan s t.kind ≡ o →
    AnswersRightly t (planned_answer (λ a. r.act src s a t) (r.finish src s) o) (r.finish src s)
answers_at src r n f g i s t (Some a) h = done t (r.act src s a t) (r.finish src s) (i.done s a t h)
  where
    done : {S T : Type 0} (t : Lexeme) (o : Option S) (x : Option T) → IsDone t o → AnswersRightly t (done_answer o) x
    done t (Some q) x w = w
    done t None x w = w
answers_at {S = S} src r n f g i s t None h = left_rightly S t (r.finish src s)
  where
    left_rightly : (S : Type 0) {T : Type 0} (t : Lexeme) (o : Option T) → AnswersRightly t (end_answer {S = S} o) o
    left_rightly S t (Some x) = refl
    left_rightly S t None = refl

pub answers_by : {S A T U V : Type 0} {src : List ℕ} {r : Reader S A T} {n : Outline U A V} {f : S → U} {g : T → V} → IsOutline src r n f g → (s : S) (t : Lexeme) → AnswersRightly t ((machine_of src r).step s t) (r.finish src s)
answers_by {src = src} {r = r} {n = n} {f = f} {g = g} i s t = answers_at src r n f g i s t (r.plan s t.kind) refl

-- ---- what is allowed

planned_taken : {U A V : Type 0} (act : A → U) (tree : Option V) (o : Option A) → is_some o ≡ is_taken (planned_answer (λ a. Some (act a)) tree o)
planned_taken act tree (Some a) = refl
planned_taken act (Some x) None = refl
planned_taken act None None = refl

-- what is allowed goes by the outline
pub allowed_as : {S A T U V : Type 0} {src : List ℕ} {r : Reader S A T} {n : Outline U A V} {f : S → U} {g : T → V} → IsOutline src r n f g → (s : S) (after : Option TokenKind) → allowed_by r s after ≡ allows (outline_machine n) (f s) after
allowed_as {r = r} {n = n} {f = f} i s (Some k) = ap (λ o. is_some o) (i.plans s k) ∙ planned_taken (λ a. n.act (f s) a k) (n.finish (f s)) (n.plan (f s) k)
allowed_as i s None = i.ends s

-- so states of one shape allow the same
pub allowed_alike : {S A T U V : Type 0} {src : List ℕ} {r : Reader S A T} {n : Outline U A V} {f : S → U} {g : T → V} → IsOutline src r n f g → (s q : S) → f s ≡ f q → (after : Option TokenKind) → allowed_by r s after ≡ allowed_by r q after
allowed_alike {n = n} i s q e after = allowed_as i s after ∙ ap (λ u. allows (outline_machine n) u after) e ∙ sym (allowed_as i q after)

-- a form that its outline goes with is read by the rule that its machine parses
pub reads_by : {S A T U V : Type 0} {src : List ℕ} {r : Reader S A T} {n : Outline U A V} {f : S → U} {g : T → V} {R : List Lexeme → T → Type 0} → IsOutline src r n f g → IsParser (machine_of src r) R → ReadsBy src r R
reads_by {src = src} {r = r} {f = f} {g = g} i d = record {
  parser = d;
  ends = λ s. sym (ends_alike f g (shaped_by i) s) ∙ sym (i.ends s);
  exact = λ ts s after c.
      let e = exactly f g d (shaped_by i) ts s after c in
      (λ h. e.0 (sym (allowed_as i s after) ∙ h), λ a. allowed_as i s after ∙ e.1 a);
}

-- ---- what is expected hangs on what is allowed alone

abbrev pub AllowSame : (Option TokenKind → Bool) → (Option TokenKind → Bool) → Type 0
AllowSame p q = (after : Option TokenKind) → p after ≡ q after

closer_same : (p q : Option TokenKind → Bool) → AllowSame p q → (ks : List TokenKind) → any_closer (λ k. p (Some k)) ks ≡ any_closer (λ k. q (Some k)) ks
closer_same p q e [] = refl
closer_same p q e (k ∷ ks) = ap (λ b. (is_closer k && b) || any_closer (λ k. p (Some k)) ks) (e (Some k)) ∙ ap (λ b. (is_closer k && q (Some k)) || b) (closer_same p q e ks)

narrowed_same : (p q : Option TokenKind → Bool) → AllowSame p q → (n : ClosersOnly) (after : Option TokenKind) → is_narrowed p n after ≡ is_narrowed q n after
narrowed_same p q e n after =
    ap (λ b. can_narrow n after && ((b || p (Some kind.AndAnd)) && any_closer (λ k. p (Some k)) by_name)) (e (Some kind.Star)) ∙
    (ap (λ b. can_narrow n after && ((q (Some kind.Star) || b) && any_closer (λ k. p (Some k)) by_name)) (e (Some kind.AndAnd)) ∙ ap (λ b. can_narrow n after && ((q (Some kind.Star) || q (Some kind.AndAnd)) && b)) (closer_same p q e by_name))

picked_same : (b : Bool) (p q : Option TokenKind → Bool) → AllowSame p q → (ks : List TokenKind) → picked_kinds b p ks ≡ picked_kinds b q ks
picked_same b p q e [] = refl
picked_same b p q e (k ∷ ks) = ap (λ c. cond ((not b || is_closer k) && c) (k ∷ picked_kinds b p ks) (picked_kinds b p ks)) (e (Some k)) ∙ ap (λ us. cond (picks b q k) (k ∷ us) us) (picked_same b p q e ks)

pub wanted_same : (p q : Option TokenKind → Bool) → AllowSame p q → (n : ClosersOnly) (after : Option TokenKind) → wanted_kinds p n after ≡ wanted_kinds q n after
wanted_same p q e n after = ap (λ b. picked_kinds b p by_name) (narrowed_same p q e n after) ∙ picked_same (is_narrowed q n after) p q e by_name

-- and so are the faults that are told of it

pub refused_same : {F : Type 0} (o : List ℕ → RawFault → F) (p q : Option TokenKind → Bool) → AllowSame p q → (src : List ℕ) (l : ℕ) (t : Option Lexeme) → refused_fault o p src l t ≡ refused_fault o q src l t
refused_same o p q e src l (Some t) = ap (λ ks. o src (unexpected_fault t ks)) (wanted_same p q e narrowing.Tokens (Some t.kind))
refused_same o p q e src l None = ap (λ ks. o src (early_at l ks)) (wanted_same p q e narrowing.Tokens None)

pub stop_same : {S T : Type 0} (m : Machine Lexeme S T) (p q : S → Option TokenKind → Bool) (n : ClosersOnly) (src : List ℕ) (s : S) → AllowSame (p s) (q s) → (ts us : List Lexeme) (bad : Option ℕ) → stop_fault m p n src s ts us bad ≡ stop_fault m q n src s ts us bad
stop_same m p q n src s e ts (t ∷ us) bad =
    ap (λ b. cond b (large_fault src (m.step s t) t) (Some (unexpected_fault t (wanted_kinds (p s) n (Some t.kind))))) (e (Some t.kind)) ∙ ap (λ ks. cond (q s (Some t.kind)) (large_fault src (m.step s t) t) (Some (unexpected_fault t ks))) (wanted_same (p s) (q s) e n (Some t.kind))
stop_same m p q n src s e ts [] None =
    ap (λ b. cond b None (Some (early_at (tokens_end ts) (wanted_kinds (p s) n None)))) (e None) ∙ ap (λ ks. cond (q s None) None (Some (early_at (tokens_end ts) ks))) (wanted_same (p s) (q s) e n None)
stop_same m p q n src s e ts [] (Some place) = refl

-- two states of one shape tell the same fault
pub same_fault : {S A T U V F : Type 0} {src : List ℕ} {r : Reader S A T} {n : Outline U A V} {f : S → U} {g : T → V} → IsOutline src r n f g → (o : List ℕ → RawFault → F) (s q : S) → f s ≡ f q → (text : List ℕ) (l : ℕ) (t : Option Lexeme) →
    refused_fault o (allowed_by r s) text l t ≡ refused_fault o (allowed_by r q) text l t
same_fault {r = r} i o s q e text l t = refused_same o (allowed_by r s) (allowed_by r q) (allowed_alike i s q e) text l t
