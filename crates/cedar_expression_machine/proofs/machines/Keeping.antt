-- A form whose trees are some of another's: a parser and its outline, from the other's.
use Rattle.std.proofs.Common.{◌≡◌, ℕ, List, [], ◌∷◌, Option, Some, None, Bool, refl, sym, ◌∙◌, ap}
use Rattle.cedar_lexer.specs.Token.{Lexeme}
use Rattle.cedar_grammar.specs.machines.Machine.{answer_state, step_from, steps, Completed, AnswersRightly, Machine, Reader, done_answer, end_answer, planned_answer, machine_of, Outline, IsOutline, IsParser, is_some, option_image}
use Rattle.cedar_expression_machine.specs.machines.Keeping.{kept_end, kept_reader, kept_outline}
use Rattle.cedar_grammar.proofs.machines.Laws.{none_some}

-- tokens that have a tree which is one of these
pub record Kept {T U : Type 0} (R : List Lexeme → T → Type 0) (h : T → Option U) (ts : List Lexeme) (y : U) : Type 0 where
  pub tree : T
  pub reads : R ts tree
  pub is : h tree ≡ Some y

-- ---- what is taken hangs on no tree

done_alike : (T U : Type 0) {S : Type 0} (o : Option S) → answer_state (done_answer {T = U} o) ≡ answer_state (done_answer {T = T} o)
done_alike T U (Some s) = refl
done_alike T U None = refl

end_alike : (S : Type 0) {T U : Type 0} (x : Option T) (y : Option U) → answer_state (end_answer {S = S} y) ≡ answer_state (end_answer {S = S} x)
end_alike S (Some x) (Some y) = refl
end_alike S (Some x) None = refl
end_alike S None (Some y) = refl
end_alike S None None = refl

taken_alike : {S A T U : Type 0} (act : A → Option S) (x : Option T) (y : Option U) (o : Option A) → answer_state (planned_answer act y o) ≡ answer_state (planned_answer act x o)
taken_alike {T = T} {U = U} act x y (Some a) = done_alike T U (act a)
taken_alike {S = S} act x y None = end_alike S x y

step_alike : {S A T U : Type 0} (src : List ℕ) (h : List ℕ → T → Option U) (e : S → Bool) (r : Reader S A T) (o : Option S) (t : Lexeme) → step_from (machine_of src (kept_reader h e r)) o t ≡ step_from (machine_of src r) o t
step_alike src h e r None t = refl
step_alike src h e r (Some s) t = taken_alike (λ a. r.act src s a t) (r.finish src s) (kept_end (h src) (r.finish src s)) (r.plan s t.kind)

steps_alike : {S A T U : Type 0} (src : List ℕ) (h : List ℕ → T → Option U) (e : S → Bool) (r : Reader S A T) (o : Option S) (ts : List Lexeme) → steps (machine_of src (kept_reader h e r)) o ts ≡ steps (machine_of src r) o ts
steps_alike src h e r o [] = refl
steps_alike src h e r o (t ∷ ts) = ap (λ o. steps (machine_of src (kept_reader h e r)) o ts) (step_alike src h e r o t) ∙ steps_alike src h e r (step_from (machine_of src r) o t) ts

-- ---- a parser

kept_ended : {T U : Type 0} (h : T → Option U) (o : Option T) (y : U) → kept_end h o ≡ Some y → (x : T) × (o ≡ Some x) × (h x ≡ Some y)
kept_ended h (Some x) y e = (x, refl, e)
kept_ended h None y e = absurd (none_some refl e)

done_rightly : {S T U : Type 0} (t : Lexeme) (o : Option S) (x : Option T) (y : Option U) → AnswersRightly t (done_answer o) x → AnswersRightly t (done_answer o) y
done_rightly t (Some s) x y e = e
done_rightly t None x y e = e

end_rightly : (S : Type 0) {U : Type 0} (t : Lexeme) (y : Option U) → AnswersRightly t (end_answer {S = S} y) y
end_rightly S t (Some y) = refl
end_rightly S t None = refl

kept_rightly : {S A T U : Type 0} (t : Lexeme) (act : A → Option S) (x : Option T) (y : Option U) (o : Option A) → AnswersRightly t (planned_answer act x o) x → AnswersRightly t (planned_answer act y o) y
kept_rightly t act x y (Some a) e = done_rightly t (act a) x y e
kept_rightly {S = S} t act x y None e = end_rightly S t y

pub kept_parser : {S A T U : Type 0} (src : List ℕ) (h : List ℕ → T → Option U) (e : S → Bool) (r : Reader S A T) (R : List Lexeme → T → Type 0) → IsParser (machine_of src r) R → ((s : S) → Completed (machine_of src (kept_reader h e r)) s) →
    IsParser (machine_of src (kept_reader h e r)) (Kept R (h src))
kept_parser src h e r R d v = record {
  complete = λ ts y k.
      let w = d.complete ts k.tree k.reads in
      record { last = w.last; goes = steps_alike src h e r (Some r.start) ts ∙ w.goes; ends = ap (λ o. kept_end (h src) o) w.ends ∙ k.is };
  sound = λ ts s y f g.
      let k = kept_ended (h src) (r.finish src s) y g in
      record { tree = k.0; reads = d.sound ts s k.0 (sym (steps_alike src h e r (Some r.start) ts) ∙ f) k.1; is = k.2 };
  viable = v;
  answers = λ s t. kept_rightly t (λ a. r.act src s a t) (r.finish src s) (kept_end (h src) (r.finish src s)) (r.plan s t.kind) (d.answers s t);
}

-- where each tree is kept, each state can be completed
pub kept_completed : {S A T U : Type 0} (src : List ℕ) (h : List ℕ → T → U) (e : S → Bool) (r : Reader S A T) (s : S) → Completed (machine_of src r) s → Completed (machine_of src (kept_reader (λ src x. Some (h src x)) e r)) s
kept_completed src h e r s c = record {
  more = c.more;
  last = c.last;
  tree = h src c.tree;
  goes = steps_alike src (λ src x. Some (h src x)) e r (Some s) c.more ∙ c.goes;
  ends = ap (λ o. kept_end (λ x. Some (h src x)) o) c.ends;
}

-- another relation that says the same
pub parser_as : {S T : Type 0} {m : Machine Lexeme S T} {R Q : List Lexeme → T → Type 0} → ((ts : List Lexeme) (x : T) → Q ts x → R ts x) → ((ts : List Lexeme) (x : T) → R ts x → Q ts x) → IsParser m R → IsParser m Q
parser_as f g d = record {
  complete = λ ts x r. d.complete ts x (f ts x r);
  sound = λ ts s x a e. g ts x (d.sound ts s x a e);
  viable = d.viable;
  answers = d.answers;
}

-- ---- the outline

kept_ends : {T U V W : Type 0} (g : T → V) (h : T → Option U) (i : V → Option W) (j : U → W) → ((x : T) → i (g x) ≡ option_image j (h x)) → (o : Option T) → kept_end i (option_image g o) ≡ option_image j (kept_end h o)
kept_ends g h i j w (Some x) = w x
kept_ends g h i j w None = refl

pub kept_outlined : {S A T U P V W : Type 0} {src : List ℕ} {r : Reader S A T} {n : Outline P A V} {f : S → P} {g : T → V} (h : List ℕ → T → Option U) (e : S → Bool) (i : V → Option W) (j : U → W) → ((x : T) → i (g x) ≡ option_image j (h src x)) →
    ((s : S) → e s ≡ is_some (kept_end i (n.finish (f s)))) → IsOutline src r n f g → IsOutline src (kept_reader h e r) (kept_outline i n) f j
kept_outlined {src = src} {r = r} {g = g} h e i j w v o = record {
  starts = o.starts;
  plans = o.plans;
  acts = o.acts;
  done = o.done;
  ends = v;
  finishes = λ s. ap (λ x. kept_end i x) (o.finishes s) ∙ kept_ends g (h src) i j w (r.finish src s);
}
