-- The parser, the outline and the runs of a form whose tree is another's, put in another way.
use Rattle.std.proofs.Common.{◌≡◌, ℕ, List, [], ◌∷◌, Option, Some, None, refl, sym, ◌∙◌, ap, subst}
use Rattle.cedar_lexer.specs.Token.{Lexeme}
use Rattle.cedar_syntax.specs.declared.cst.Policy.{Policy}
use Rattle.cedar_syntax.specs.declared.cst.Policies.{Policies}
use Rattle.cedar_grammar.specs.declared.reading.extent.Extent.{Extent}
use Rattle.cedar_policy_machine.specs.declared.sequence.SpannedState.{SpannedState}
use Rattle.cedar_grammar.specs.grammar.Grammar.{IsNodeOf}
use Rattle.cedar_grammar.specs.grammar.LoosePolicies.{ReadsMany, ReadsPolicy, ReadsPolicies}
use Rattle.cedar_grammar.specs.grammar.LoosePolicies as loose
use Rattle.cedar_grammar.specs.grammar.Place.{joint_extent, extent_of, extent, loc_at, placed, placed_or_start}
use Rattle.cedar_syntax.specs.trees.Trees.{Cell, policies_of}
use Rattle.cedar_grammar.specs.machines.Machine.{steps, Comes, IsParser, option_image, Reader, machine_of, Outline, no_tree}
use Rattle.cedar_policy_machine.specs.machines.Placing.{loc_or_start, policies_node, AsNode, as_node, spanned_state, placing_reader, mapped_reader}
use Rattle.cedar_grammar.proofs.machines.Laws.{some_is}
use Rattle.cedar_grammar.proofs.machines.Holding as holding
use Rattle.cedar_grammar.proofs.machines.Holding.{held}
use Rattle.cedar_grammar.proofs.machines.Readers.{takes, taken_by}
use Rattle.cedar_policy_machine.proofs.machines.Lifted.{Holds}
use Rattle.cedar_policy_machine.proofs.machines.Placing.{forth, back}
use Rattle.cedar_grammar.proofs.machines.Rightly.{EndsRightly, DoesRightly, image_of, image_some, does_by, answers_from, image_done}
use Rattle.cedar_policy_machine.proofs.machines.SequenceShapes.{IsOutlineBy}

-- one state holds the other, and nothing else
pub record IsWrapped {S H : Type 0} (out : H → S) (into : S → H) : Type 0 where
  pub there : (s : S) → out (into s) ≡ s
  pub back : (h : H) → into (out h) ≡ h

-- runs

puts_in : {S H A T Z : Type 0} (src : List ℕ) (out : H → S) (into : S → H) (g : List ℕ → T → Z) (r : Reader S A T) → IsWrapped out into → holding.Holds (machine_of src r) (machine_of src (mapped_reader out into g r)) into
puts_in src out into g r w s q t e =
    let p = taken_by src r s q t e in
    takes src (mapped_reader out into g r) (into s) (into q) p.what t (ap (λ s. r.plan s t.kind) (w.there s) ∙ p.planned) (ap (λ s. option_image into (r.act src s p.what t)) (w.there s) ∙ ap (λ o. option_image into o) p.made)

takes_out : {S H A T Z : Type 0} (src : List ℕ) (out : H → S) (into : S → H) (g : List ℕ → T → Z) (r : Reader S A T) → IsWrapped out into → holding.Holds (machine_of src (mapped_reader out into g r)) (machine_of src r) out
takes_out src out into g r w s q t e =
    let p = taken_by src (mapped_reader out into g r) s q t e in
    let o = image_of into (r.act src (out s) p.what t) q p.made in
    takes src r (out s) (out q) p.what t p.planned (o.1 ∙ ap (λ q. Some q) (sym (w.there o.0) ∙ ap out o.2))

pub mapped_forth : {S H A T Z : Type 0} (src : List ℕ) (out : H → S) (into : S → H) (g : List ℕ → T → Z) (r : Reader S A T) → IsWrapped out into → (ts : List Lexeme) (s : S) → Comes (machine_of src r) ts s → Comes (machine_of src (mapped_reader out into g r)) ts (into s)
mapped_forth src out into g r w ts s c = held (machine_of src r) (machine_of src (mapped_reader out into g r)) into (puts_in src out into g r w) ts r.start s c

pub mapped_back : {S H A T Z : Type 0} (src : List ℕ) (out : H → S) (into : S → H) (g : List ℕ → T → Z) (r : Reader S A T) → IsWrapped out into → (ts : List Lexeme) (h : H) → Comes (machine_of src (mapped_reader out into g r)) ts h → Comes (machine_of src r) ts (out h)
mapped_back src out into g r w ts h c =
    ap (λ s. steps (machine_of src r) (Some s) ts) (sym (w.there r.start)) ∙ held (machine_of src (mapped_reader out into g r)) (machine_of src r) out (takes_out src out into g r w) ts (into r.start) h c

-- the parser

pub mapped_right : {S H A T Z : Type 0} (src : List ℕ) (out : H → S) (into : S → H) (g : List ℕ → T → Z) (r : Reader S A T) → EndsRightly src r → EndsRightly src (mapped_reader out into g r)
mapped_right src out into g r i h = i (out h) ∙ sym (image_some (g src) (r.finish src (out h)))

mapped_does : {S H A T Z : Type 0} (src : List ℕ) (out : H → S) (into : S → H) (g : List ℕ → T → Z) (r : Reader S A T) → DoesRightly src r → DoesRightly src (mapped_reader out into g r)
mapped_does src out into g r i h a t p = image_done into t (r.act src (out h) a t) (i (out h) a t p)

mapped_sound : {T Z : Type 0} (g : T → Z) (R : T → Type 0) (Q : Z → Type 0) (z : Z) (o : Option T) → ((x : T) → o ≡ Some x → R x) → ((x : T) → R x → Q (g x)) → option_image g o ≡ Some z → Q z
mapped_sound g R Q z None h k e = absurd (cc)
mapped_sound g R Q z (Some x) h k e = subst Q (some_is e) (k x (h x refl))

pub mapped_parser : {S H A T Z : Type 0} (src : List ℕ) (out : H → S) (into : S → H) (g : List ℕ → T → Z) (r : Reader S A T) → IsWrapped out into → (R : List Lexeme → T → Type 0) (Q : List Lexeme → Z → Type 0) → IsParser (machine_of src r) R → ((ts : List Lexeme) (x : T) → R ts x → Q ts (g src x)) →
    ((ts : List Lexeme) (z : Z) → Q ts z → (x : T) × R ts x × (g src x ≡ z)) → IsParser (machine_of src (mapped_reader out into g r)) Q
mapped_parser src out into g r w R Q d to of = record {
  complete = λ ts z q. let v = of ts z q in let h = d.complete ts v.0 v.1 in
      record { last = into h.last; goes = mapped_forth src out into g r w ts h.last h.goes; ends = ap (λ s. option_image (g src) (r.finish src s)) (w.there h.last) ∙ ap (λ o. option_image (g src) o) h.ends ∙ ap (λ z. Some z) v.2 };
  sound = λ ts h z c e. mapped_sound (g src) (λ x. R ts x) (λ z. Q ts z) z (r.finish src (out h)) (λ x f. d.sound ts (out h) x (mapped_back src out into g r w ts h c) f) (λ x v. to ts x v) e;
  viable = λ h. let c = d.viable (out h) in
      record {
        more = c.more;
        last = into c.last;
        tree = g src c.tree;
        goes = ap (λ q. steps (machine_of src (mapped_reader out into g r)) (Some q) c.more) (sym (w.back h)) ∙ held (machine_of src r) (machine_of src (mapped_reader out into g r)) into (puts_in src out into g r w) c.more (out h) c.last c.goes;
        ends = ap (λ s. option_image (g src) (r.finish src s)) (w.there c.last) ∙ ap (λ o. option_image (g src) o) c.ends;
      };
  answers = answers_from src (mapped_reader out into g r) (mapped_does src out into g r (does_by src r d.answers));
}

-- the outline

image_mapped : {T Z : Type 0} (g : T → Z) (o : Option T) → option_image no_tree o ≡ option_image no_tree (option_image g o)
image_mapped g None = refl
image_mapped g (Some x) = refl

pub mapped_outlined : {S H A T Z U : Type 0} (src : List ℕ) (out : H → S) (into : S → H) (g : List ℕ → T → Z) (r : Reader S A T) → IsWrapped out into → (n : Outline U A (Unit {0})) (f : S → U) → IsOutlineBy src r n f → IsOutlineBy src (mapped_reader out into g r) n (λ h. f (out h))
mapped_outlined src out into g r w n f i = record {
  starts = ap f (w.there r.start) ∙ i.starts;
  plans = λ h k. i.plans (out h) k;
  acts = λ h q a t p e.
      let o = image_of into (r.act src (out h) a t) q e in
      ap (λ q. f (out q)) (sym o.2) ∙ ap f (w.there o.0) ∙ i.acts (out h) o.0 a t p o.1;
  done = λ h a t p. image_done into t (r.act src (out h) a t) (i.done (out h) a t p);
  ends = λ h. i.ends (out h);
  finishes = λ h. i.finishes (out h) ∙ image_mapped (g src) (r.finish src (out h));
}

-- what a form holds whose tree is put as a node
pub placed_holds : {S H A T Z : Type 0} (src : List ℕ) (out : H → SpannedState S) (into : SpannedState S → H) (g : List ℕ → Cell T → Z) (r : Reader S A T) → IsWrapped out into → Holds (machine_of src r) (machine_of src (mapped_reader out into g (placing_reader r))) (λ h. (out h).state)
placed_holds src out into g r w = record {
  down = λ ts h c. (back src r None r.start ts (out h) (mapped_back src out into g (placing_reader r) w ts h c)).goes;
  up = λ ts s c. (into (spanned_state (extent ts) s), mapped_forth src out into g (placing_reader r) w ts (spanned_state (extent ts) s) (forth src r None r.start s ts c), ap (λ q. q.state) (w.there (spanned_state (extent ts) s)));
}

-- policies

policies_placed : (src : List ℕ) (ts : List Lexeme) (xs : List (Cell Policy)) → policies_node src (placed src ts xs) ≡ placed_or_start src ts (policies_of xs)
policies_placed src [] xs = refl
policies_placed src (t ∷ ts) xs = ap (λ l. record { node = Some (policies_of xs); loc = l }) (some_loc (extent ts))
  where
    some_loc : (o : Option Extent) → loc_or_start src (loc_at src (joint_extent (Some (extent_of t)) o)) ≡ loc_at src (joint_extent (Some (extent_of t)) o)
    some_loc None = refl
    some_loc (Some e) = refl

pub policies_nodes : (src : List ℕ) (ts : List Lexeme) (x : Cell (List (Cell Policy))) → AsNode src (ReadsMany src (ReadsPolicy src)) ts x → IsNodeOf ReadsPolicies src ts (policies_node src x)
policies_nodes src ts x (as_node {x = xs} r) = record { tree = policies_of xs; reads = loose.policies r; is = policies_placed src ts xs }

pub nodes_policies : (src : List ℕ) (ts : List Lexeme) (z : Cell Policies) → IsNodeOf ReadsPolicies src ts z → (x : Cell (List (Cell Policy))) × AsNode src (ReadsMany src (ReadsPolicy src)) ts x × (policies_node src x ≡ z)
nodes_policies src ts z h = go h.tree h.reads h.is
  where
    go : (y : Policies) → ReadsPolicies src ts y → z ≡ placed_or_start src ts y → (x : Cell (List (Cell Policy))) × AsNode src (ReadsMany src (ReadsPolicy src)) ts x × (policies_node src x ≡ z)
    go y (loose.policies {xs = xs} r) e = (placed src ts xs, as_node r, policies_placed src ts xs ∙ sym e)
