-- Readers that tell rightly whether their tree can end, and do what they plan.
use Rattle.std.proofs.Common.{◌≡◌, ℕ, List, Option, Some, None, true, refl, sym, ◌∙◌, ap, subst, IfSome}
use Rattle.cedar_lexer.specs.Token.{Lexeme}
use Rattle.cedar_lexer.specs.declared.token.TokenKind.{TokenKind}
use Rattle.cedar_grammar.specs.machines.Machine.{AnswersRightly, Reader, done_answer, end_answer, planned_answer, machine_of, Outline, IsDone, IsOutline, option_image, is_some}
use Rattle.cedar_grammar.proofs.machines.Laws.{some_is}
pub use Rattle.cedar_grammar.proofs.machines.Laws.{image_some}
use Rattle.cedar_grammar.proofs.machines.Readers.{leaves_tree}
use Rattle.cedar_grammar.proofs.machines.Ending.{EndsAt, IsKind}

-- `ends` and `finish` agree
abbrev pub EndsRightly : {S A T : Type 0} → List ℕ → Reader S A T → Type 0
EndsRightly {S = S} src r = (s : S) → r.ends s ≡ is_some (r.finish src s)

-- a planned act fails at numbers alone that don't fit
abbrev pub DoesRightly : {S A T : Type 0} → List ℕ → Reader S A T → Type 0
DoesRightly {S = S} {A = A} src r = (s : S) (a : A) (t : Lexeme) → r.plan s t.kind ≡ Some a → IsDone t (r.act src s a t)

-- ---- options

pub image_of : {A B : Type 0} (f : A → B) (o : Option A) (y : B) → option_image f o ≡ Some y → (x : A) × (o ≡ Some x) × (f x ≡ y)
image_of f None y e = absurd (cc)
image_of f (Some x) y e = (x, refl, some_is e)

pub tree_there : {A : Type 0} (o : Option A) → is_some o ≡ true → (x : A) × (o ≡ Some x)
tree_there None e = absurd (cc)
tree_there (Some x) e = (x, refl)

-- ---- whether it ends

pub ends_by : {S A T U V : Type 0} {src : List ℕ} {r : Reader S A T} {n : Outline U A V} {f : S → U} {g : T → V} → IsOutline src r n f g → EndsRightly src r
ends_by {src = src} {r = r} {g = g} i s = i.ends s ∙ ap (λ o. is_some o) (i.finishes s) ∙ image_some g (r.finish src s)

pub can_end : {S A T : Type 0} (src : List ℕ) (r : Reader S A T) → EndsRightly src r → (s : S) (x : T) → r.finish src s ≡ Some x → r.ends s ≡ true
can_end src r h s x e = h s ∙ ap (λ o. is_some o) e

pub has_tree : {S A T : Type 0} (src : List ℕ) (r : Reader S A T) → EndsRightly src r → (s : S) → r.ends s ≡ true → (x : T) × (r.finish src s ≡ Some x)
has_tree src r h s e = tree_there (r.finish src s) (sym (h s) ∙ e)

-- what isn't planned where a tree can end ends it
pub ends_at_kind : {S A T U V : Type 0} {src : List ℕ} {r : Reader S A T} {n : Outline U A V} {f : S → U} {g : T → V} → IsOutline src r n f g → (k : TokenKind) → ((u : U) → is_some (n.finish u) ≡ true → n.plan u k ≡ None) → EndsAt (machine_of src r) (IsKind k)
ends_at_kind {src = src} {r = r} {n = n} {f = f} {g = g} i k h s x t p e =
    leaves_tree src r s t x (i.plans s t.kind ∙ ap (λ k. n.plan (f s) k) p ∙ h (f s) (ap (λ o. is_some o) (i.finishes s ∙ ap (λ o. option_image g o) e))) e

-- ---- what it does

answers_done : {S T : Type 0} (t : Lexeme) (o : Option S) (x : Option T) → AnswersRightly t (done_answer o) x → IsDone t o
answers_done t (Some s) x h = h
answers_done t None x h = h

done_answers : {S T : Type 0} (t : Lexeme) (o : Option S) (x : Option T) → IsDone t o → AnswersRightly t (done_answer o) x
done_answers t (Some s) x h = h
done_answers t None x h = h

end_answers : (S : Type 0) {T : Type 0} (t : Lexeme) (x : Option T) → AnswersRightly t (end_answer {S = S} x) x
end_answers S t (Some x) = refl
end_answers S t None = refl

pub does_by : {S A T : Type 0} (src : List ℕ) (r : Reader S A T) → ((s : S) (t : Lexeme) → AnswersRightly t ((machine_of src r).step s t) (r.finish src s)) → DoesRightly src r
does_by src r h s a t e =
    answers_done t (r.act src s a t) (r.finish src s) (subst (λ o. AnswersRightly t (planned_answer (λ a. r.act src s a t) (r.finish src s) o) (r.finish src s)) e (h s t))

pub answers_from : {S A T : Type 0} (src : List ℕ) (r : Reader S A T) → DoesRightly src r → (s : S) (t : Lexeme) → AnswersRightly t ((machine_of src r).step s t) (r.finish src s)
answers_from {S = S} {A = A} src r h s t = go (r.plan s t.kind) refl
  where
    go : (o : Option A) → r.plan s t.kind ≡ o → AnswersRightly t (planned_answer (λ a. r.act src s a t) (r.finish src s) o) (r.finish src s)
    go (Some a) e = done_answers t (r.act src s a t) (r.finish src s) (h s a t e)
    go None e = end_answers S t (r.finish src s)

-- a part's act, put where the part stands

pub image_done : {A B : Type 0} (f : A → B) (t : Lexeme) (o : Option A) → IsDone t o → IsDone t (option_image f o)
image_done f t (Some x) h = h
image_done f t None h = h

pub images_done : {A B C : Type 0} (g : B → C) (f : A → B) (t : Lexeme) (o : Option A) → IsDone t o → IsDone t (option_image g (option_image f o))
images_done g f t (Some x) h = h
images_done g f t None h = h

pub image_kept : {A B : Type 0} (f : A → B) (P : B → Type 0) (o : Option A) → ((x : A) → o ≡ Some x → P (f x)) → IfSome (option_image f o) P
image_kept f P None h = tt
image_kept f P (Some x) h = h x refl

pub images_kept : {A B C : Type 0} (g : B → C) (f : A → B) (P : C → Type 0) (o : Option A) → ((x : A) → o ≡ Some x → P (g (f x))) → IfSome (option_image g (option_image f o)) P
images_kept g f P None h = tt
images_kept g f P (Some x) h = h x refl
