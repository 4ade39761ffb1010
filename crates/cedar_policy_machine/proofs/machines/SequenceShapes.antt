-- The outlines of placed trees and of sequences, from those of their items.
use Rattle.std.proofs.Common.{◌≡◌, ℕ, List, Option, Some, None, Bool, true, false, refl, sym, ◌∙◌, ap, subst}
use Rattle.cedar_lexer.specs.Token.{Lexeme}
use Rattle.cedar_lexer.specs.declared.token.TokenKind.{TokenKind}
use Rattle.cedar_lexer.specs.declared.token.TokenKind.TheVariants as kind
use Rattle.cedar_grammar.specs.declared.reading.extent.Extent.{Extent}
use Rattle.cedar_policy_machine.specs.declared.sequence.Sequence.{Sequence}
use Rattle.cedar_policy_machine.specs.declared.sequence.SequenceAct.{SequenceAct}
use Rattle.cedar_policy_machine.specs.declared.sequence.SequenceAct.TheVariants as act
use Rattle.cedar_grammar.specs.machines.Machine.{Answer, is_some, IsShape, option_image, Reader, Outline, IsDone, IsOutline, no_tree}
use Rattle.cedar_policy_machine.specs.machines.Placing.{spanned_by, node_if, placing_reader}
use Rattle.cedar_policy_machine.specs.machines.Sequences.{sequence, begun_many_plan, many_plan, begun_list_plan, comma_plan, list_plan, items_with_last, sequence_end, sequence_ends, item_begun, next_item, items_ended, item_act, many_reader, list_reader, IsSequencePlan}
use Rattle.cedar_policy_machine.specs.machines.SequenceShapes.{spanned_shape, sequence_shape, sequence_shape_end, sequence_shape_act, many_outline, list_outline}
use Rattle.cedar_grammar.proofs.machines.Laws.{some_is}
use Rattle.cedar_grammar.proofs.machines.Rightly.{EndsRightly, image_of, image_done, ends_by}

-- the second is the shape of the first, whose trees have none
abbrev pub IsShapeBy : {S T U : Type 0} → (S → U) → Answer S T → Answer U (Unit {0}) → Type 0
IsShapeBy f a c = IsShape f no_tree a c

-- an outline of which the form above asks only whether there is a tree
abbrev pub IsOutlineBy : {S A T U : Type 0} → List ℕ → Reader S A T → Outline U A (Unit {0}) → (S → U) → Type 0
IsOutlineBy src r n f = IsOutline src r n f no_tree

-- ---- nodes

node_end_shaped : {T : Type 0} (src : List ℕ) (e : Option Extent) (o : Option T) → option_image no_tree o ≡ option_image no_tree (node_if src e o)
node_end_shaped src e None = refl
node_end_shaped src e (Some x) = refl

pub nodes_outlined : {S A T U : Type 0} (src : List ℕ) (r : Reader S A T) (n : Outline U A (Unit {0})) (f : S → U) → IsOutlineBy src r n f → IsOutlineBy src (placing_reader r) n (spanned_shape f)
nodes_outlined src r n f i = record {
  starts = i.starts;
  plans = λ s k. i.plans s.state k;
  acts = λ s q a t p e.
      let w = image_of (λ q. spanned_by s.extent t q) (r.act src s.state a t) q e in
      ap (λ q. f q.state) (sym w.2) ∙ i.acts s.state w.0 a t p w.1;
  done = λ s a t p. image_done (λ q. spanned_by s.extent t q) t (r.act src s.state a t) (i.done s.state a t p);
  ends = λ s. i.ends s.state;
  finishes = λ s. i.finishes s.state ∙ node_end_shaped src s.extent (r.finish src s.state);
}

-- ---- sequences

last_there : {T : Type 0} (xs : List T) (o : Option T) → is_some o ≡ is_some (items_with_last xs o)
last_there xs None = refl
last_there xs (Some x) = refl

ends_there : {S A T : Type 0} (src : List ℕ) (r : Reader S A T) → EndsRightly src r → (xs : List T) (b : Option S) → sequence_ends r.ends b ≡ is_some (sequence_end (r.finish src) xs b)
ends_there src r i xs None = refl
ends_there src r i xs (Some s) = i s ∙ last_there xs (r.finish src s)

pub many_right : {S A T : Type 0} (src : List ℕ) (r : Reader S A T) → EndsRightly src r → EndsRightly src (many_reader r)
many_right src r i s = ends_there src r i s.done s.begun

pub list_right : {S A T : Type 0} (src : List ℕ) (r : Reader S A T) → EndsRightly src r → EndsRightly src (list_reader r)
list_right src r i s = ends_there src r i s.done s.begun

-- what is planned

firsts : {S A T : Type 0} (r : Reader S A T) (k : TokenKind) (o : Option A) (a : SequenceAct A) → r.plan r.start k ≡ o → option_image (λ a. act.First a) o ≡ Some a → IsSequencePlan r None k a
firsts r k (Some c) (act.First a) e h = (refl, e ∙ first_is h)
  where
    first_is : {A : Type 0} {a c : A} → Some (act.First c) ≡ Some (act.First a) → Some c ≡ Some a
    first_is h = cc
firsts r k (Some c) (act.On a) e h = absurd (cc)
firsts r k (Some c) (act.Next a) e h = absurd (cc)
firsts r k (Some c) act.Comma e h = absurd (cc)
firsts r k None a e h = absurd (cc)

on_is : {A : Type 0} {a c : A} → Some (act.On c) ≡ Some (act.On a) → Some c ≡ Some a
on_is h = cc

next_is : {A : Type 0} {a c : A} → Some (act.Next c) ≡ Some (act.Next a) → Some c ≡ Some a
next_is h = cc

begun_on : {S A T : Type 0} (r : Reader S A T) (k : TokenKind) (s : S) (c : A) (a : SequenceAct A) → r.plan s k ≡ Some c → Some (act.On c) ≡ Some a → IsSequencePlan r (Some s) k a
begun_on r k s c (act.On a) e h = e ∙ on_is h
begun_on r k s c (act.First a) e h = absurd (cc)
begun_on r k s c (act.Next a) e h = absurd (cc)
begun_on r k s c act.Comma e h = absurd (cc)

nexts : {S A T : Type 0} (r : Reader S A T) (k : TokenKind) (s : S) (o : Option A) (a : SequenceAct A) → r.ends s ≡ true → r.plan r.start k ≡ o → option_image (λ a. act.Next a) o ≡ Some a → IsSequencePlan r (Some s) k a
nexts r k s (Some c) (act.Next a) i e h = (i, e ∙ next_is h)
nexts r k s (Some c) (act.On a) i e h = absurd (cc)
nexts r k s (Some c) (act.First a) i e h = absurd (cc)
nexts r k s (Some c) act.Comma i e h = absurd (cc)
nexts r k s None a i e h = absurd (cc)

many_begun : {S A T : Type 0} (r : Reader S A T) (k : TokenKind) (s : S) (o : Option A) (b : Bool) (a : SequenceAct A) → r.plan s k ≡ o → r.ends s ≡ b → begun_many_plan o b (r.plan r.start k) ≡ Some a → IsSequencePlan r (Some s) k a
many_begun r k s (Some c) b a e i h = begun_on r k s c a e h
many_begun r k s None true a e i h = nexts r k s (r.plan r.start k) a i refl h
many_begun r k s None false a e i h = absurd (cc)

pub many_planned : {S A T : Type 0} (r : Reader S A T) (b : Option S) (k : TokenKind) (a : SequenceAct A) → many_plan (λ k. r.plan r.start k) r.plan r.ends b k ≡ Some a → IsSequencePlan r b k a
many_planned r None k a h = firsts r k (r.plan r.start k) a refl h
many_planned r (Some s) k a h = many_begun r k s (r.plan s k) (r.ends s) a refl refl h

comma_planned : {A : Type 0} (k : TokenKind) (a : SequenceAct A) → comma_plan k ≡ Some a → (k ≡ kind.Comma) × (a ≡ act.Comma)
comma_planned kind.Comma a h = (refl, sym (some_is h))
comma_planned _ a h = absurd (cc)

list_begun : {S A T : Type 0} (r : Reader S A T) (k : TokenKind) (s : S) (o : Option A) (b : Bool) (a : SequenceAct A) → r.plan s k ≡ o → r.ends s ≡ b → begun_list_plan o b k ≡ Some a → IsSequencePlan r (Some s) k a
list_begun r k s (Some c) b a e i h = begun_on r k s c a e h
list_begun r k s None true a e i h = let w = comma_planned k a h in subst (λ a. IsSequencePlan r (Some s) k a) (sym w.1) (w.0, i)
list_begun r k s None false a e i h = absurd (cc)

pub list_planned : {S A T : Type 0} (r : Reader S A T) (b : Option S) (k : TokenKind) (a : SequenceAct A) → list_plan (λ k. r.plan r.start k) r.plan r.ends b k ≡ Some a → IsSequencePlan r b k a
list_planned r None k a h = firsts r k (r.plan r.start k) a refl h
list_planned r (Some s) k a h = list_begun r k s (r.plan s k) (r.ends s) a refl refl h

-- plans go by the shape

first_shaped : {S A T U : Type 0} (src : List ℕ) (r : Reader S A T) (n : Outline U A (Unit {0})) (f : S → U) → IsOutlineBy src r n f → (k : TokenKind) → r.plan r.start k ≡ n.plan n.start k
first_shaped src r n f i k = i.plans r.start k ∙ ap (λ u. n.plan u k) i.starts

many_plans : {S A T U : Type 0} (src : List ℕ) (r : Reader S A T) (n : Outline U A (Unit {0})) (f : S → U) → IsOutlineBy src r n f → (b : Option S) (k : TokenKind) →
    many_plan (λ k. r.plan r.start k) r.plan r.ends b k ≡ many_plan (λ k. n.plan n.start k) n.plan (λ u. is_some (n.finish u)) (option_image f b) k
many_plans src r n f i None k = ap (λ o. option_image (λ a. act.First a) o) (first_shaped src r n f i k)
many_plans src r n f i (Some s) k =
    ap (λ o. begun_many_plan o (r.ends s) (r.plan r.start k)) (i.plans s k) ∙ ap (λ b. begun_many_plan (n.plan (f s) k) b (r.plan r.start k)) (i.ends s)
    ∙ ap (λ o. begun_many_plan (n.plan (f s) k) (is_some (n.finish (f s))) o) (first_shaped src r n f i k)

list_plans : {S A T U : Type 0} (src : List ℕ) (r : Reader S A T) (n : Outline U A (Unit {0})) (f : S → U) → IsOutlineBy src r n f → (b : Option S) (k : TokenKind) →
    list_plan (λ k. r.plan r.start k) r.plan r.ends b k ≡ list_plan (λ k. n.plan n.start k) n.plan (λ u. is_some (n.finish u)) (option_image f b) k
list_plans src r n f i None k = ap (λ o. option_image (λ a. act.First a) o) (first_shaped src r n f i k)
list_plans src r n f i (Some s) k = ap (λ o. begun_list_plan o (r.ends s) k) (i.plans s k) ∙ ap (λ b. begun_list_plan (n.plan (f s) k) b k) (i.ends s)

-- and so do acts

begun_acts : {S A T U : Type 0} (src : List ℕ) (r : Reader S A T) (n : Outline U A (Unit {0})) (f : S → U) → IsOutlineBy src r n f → (xs : List T) (s : S) (a : A) (t : Lexeme) (q : Sequence S T) →
    r.plan s t.kind ≡ Some a → item_begun xs (r.act src s a t) ≡ Some q → option_image f q.begun ≡ Some (n.act (f s) a t.kind)
begun_acts src r n f i xs s a t q p e =
    let w = image_of (λ s. sequence xs (Some s)) (r.act src s a t) q e in
    ap (λ q. option_image f q.begun) (sym w.2) ∙ ap (λ u. Some u) (i.acts s w.0 a t p w.1)

start_acts : {S A T U : Type 0} (src : List ℕ) (r : Reader S A T) (n : Outline U A (Unit {0})) (f : S → U) → IsOutlineBy src r n f → (xs : List T) (a : A) (t : Lexeme) (q : Sequence S T) →
    r.plan r.start t.kind ≡ Some a → item_begun xs (r.act src r.start a t) ≡ Some q → option_image f q.begun ≡ Some (n.act n.start a t.kind)
start_acts src r n f i xs a t q p e = begun_acts src r n f i xs r.start a t q p e ∙ ap (λ u. Some (n.act u a t.kind)) i.starts

next_acts : {S A T U : Type 0} (src : List ℕ) (r : Reader S A T) (n : Outline U A (Unit {0})) (f : S → U) → IsOutlineBy src r n f → (o : Option (List T)) (a : A) (t : Lexeme) (q : Sequence S T) →
    r.plan r.start t.kind ≡ Some a → next_item o (r.act src r.start a t) ≡ Some q → option_image f q.begun ≡ Some (n.act n.start a t.kind)
next_acts src r n f i (Some xs) a t q p e = start_acts src r n f i xs a t q p e
next_acts src r n f i None a t q p e = absurd (cc)

comma_acts : {S T U : Type 0} (f : S → U) (o : Option (List T)) (q : Sequence S T) → items_ended o ≡ Some q → option_image f q.begun ≡ None
comma_acts f (Some xs) q e = ap (λ q. option_image f q.begun) (sym (some_is e))
comma_acts f None q e = absurd (cc)

sequence_acts : {S A T U : Type 0} (src : List ℕ) (r : Reader S A T) (n : Outline U A (Unit {0})) (f : S → U) → IsOutlineBy src r n f → (xs : List T) (b : Option S) (o : Option (List T)) (a : SequenceAct A) (t : Lexeme) (q : Sequence S T) →
    IsSequencePlan r b t.kind a → item_act r src xs b o a t ≡ Some q → option_image f q.begun ≡ sequence_shape_act n (option_image f b) a t.kind
sequence_acts src r n f i xs (Some s) o (act.On a) t q p e = begun_acts src r n f i xs s a t q p e
sequence_acts src r n f i xs None o (act.On a) t q p e = absurd p
sequence_acts src r n f i xs b o (act.First a) t q p e = start_acts src r n f i xs a t q p.1 e
sequence_acts src r n f i xs b o (act.Next a) t q p e = next_acts src r n f i o a t q p.1 e
sequence_acts src r n f i xs b o act.Comma t q p e = comma_acts f o q e

-- each is done, but for numbers that don't fit

next_done : {S T : Type 0} (t : Lexeme) (o : Option (List T)) (b : Bool) (p : Option S) → b ≡ is_some o → b ≡ true → IsDone t p → IsDone t (next_item o p)
next_done t (Some xs) b p e h i = image_done (λ s. sequence xs (Some s)) t p i
next_done t None b p e h i = absurd (cc)

comma_done : (S : Type 0) {T : Type 0} (t : Lexeme) (o : Option (List T)) (b : Bool) → b ≡ is_some o → b ≡ true → t.kind ≡ kind.Comma → IsDone {S = Sequence S T} t (items_ended o)
comma_done S t (Some xs) b e h k = λ g. absurd (apart (sym k ∙ g))
  where
    apart : kind.Comma ≡ kind.Number → ⊥
    apart e = cc
comma_done S t None b e h k = absurd (cc)

sequence_done : {S A T U : Type 0} (src : List ℕ) (r : Reader S A T) (n : Outline U A (Unit {0})) (f : S → U) → IsOutlineBy src r n f → (xs : List T) (b : Option S) (a : SequenceAct A) (t : Lexeme) → IsSequencePlan r b t.kind a →
    IsDone t (item_act r src xs b (sequence_end (r.finish src) xs b) a t)
sequence_done src r n f i xs (Some s) (act.On a) t p = image_done (λ s. sequence xs (Some s)) t (r.act src s a t) (i.done s a t p)
sequence_done src r n f i xs None (act.On a) t p = absurd p
sequence_done src r n f i xs b (act.First a) t p = image_done (λ s. sequence xs (Some s)) t (r.act src r.start a t) (i.done r.start a t p.1)
sequence_done src r n f i xs b (act.Next a) t p =
    next_done t (sequence_end (r.finish src) xs b) (sequence_ends r.ends b) (r.act src r.start a t) (ends_there src r (ends_by i) xs b) p.0 (i.done r.start a t p.1)
sequence_done {S = S} src r n f i xs b act.Comma t p =
    comma_done S t (sequence_end (r.finish src) xs b) (sequence_ends r.ends b) (ends_there src r (ends_by i) xs b) p.1 p.0

-- ends

last_shaped : {T : Type 0} (xs : List T) (o : Option T) → option_image no_tree o ≡ option_image no_tree (items_with_last xs o)
last_shaped xs None = refl
last_shaped xs (Some x) = refl

finishes_shaped : {S A T U : Type 0} (src : List ℕ) (r : Reader S A T) (n : Outline U A (Unit {0})) (f : S → U) → IsOutlineBy src r n f → (xs : List T) (b : Option S) →
    sequence_shape_end n.finish (option_image f b) ≡ option_image no_tree (sequence_end (r.finish src) xs b)
finishes_shaped src r n f i xs None = refl
finishes_shaped src r n f i xs (Some s) = i.finishes s ∙ last_shaped xs (r.finish src s)

ends_shaped : {S A T U : Type 0} (src : List ℕ) (r : Reader S A T) (n : Outline U A (Unit {0})) (f : S → U) → IsOutlineBy src r n f → (b : Option S) → sequence_ends r.ends b ≡ is_some (sequence_shape_end n.finish (option_image f b))
ends_shaped src r n f i None = refl
ends_shaped src r n f i (Some s) = i.ends s

pub many_outlined : {S A T U : Type 0} (src : List ℕ) (r : Reader S A T) (n : Outline U A (Unit {0})) (f : S → U) → IsOutlineBy src r n f → IsOutlineBy src (many_reader r) (many_outline n) (sequence_shape f)
many_outlined src r n f i = record {
  starts = refl;
  plans = λ s k. many_plans src r n f i s.begun k;
  acts = λ s q a t p e. sequence_acts src r n f i s.done s.begun (sequence_end (r.finish src) s.done s.begun) a t q (many_planned r s.begun t.kind a p) e;
  done = λ s a t p. sequence_done src r n f i s.done s.begun a t (many_planned r s.begun t.kind a p);
  ends = λ s. ends_shaped src r n f i s.begun;
  finishes = λ s. finishes_shaped src r n f i s.done s.begun;
}

pub list_outlined : {S A T U : Type 0} (src : List ℕ) (r : Reader S A T) (n : Outline U A (Unit {0})) (f : S → U) → IsOutlineBy src r n f → IsOutlineBy src (list_reader r) (list_outline n) (sequence_shape f)
list_outlined src r n f i = record {
  starts = refl;
  plans = λ s k. list_plans src r n f i s.begun k;
  acts = λ s q a t p e. sequence_acts src r n f i s.done s.begun (sequence_end (r.finish src) s.done s.begun) a t q (list_planned r s.begun t.kind a p) e;
  done = λ s a t p. sequence_done src r n f i s.done s.begun a t (list_planned r s.begun t.kind a p);
  ends = λ s. ends_shaped src r n f i s.begun;
  finishes = λ s. finishes_shaped src r n f i s.done s.begun;
}
