-- A form whose tree is put as a node has a parser, since that form has.
use Rattle.std.proofs.Common.{◌≡◌, ℕ, List, [], ◌∷◌, Option, Some, None, refl, sym, ◌∙◌, ap, subst}
use Rattle.cedar_lexer.specs.Token.{Lexeme}
use Rattle.cedar_grammar.specs.declared.reading.extent.Extent.{Extent}
use Rattle.cedar_policy_machine.specs.declared.sequence.SpannedState.{SpannedState}
use Rattle.cedar_grammar.specs.grammar.Place.{joint_extent, extent_of, extent, node_at}
use Rattle.cedar_syntax.specs.trees.Trees.{Cell}
use Rattle.cedar_grammar.specs.machines.Machine.{Machine, Answer, next, ended, refused, too_large, answer_state, steps, RunsTo, AnswersRightly, IsParser, is_taken, is_some, Reader, machine_of, done_answer, end_answer, planned_answer, option_image}
use Rattle.cedar_policy_machine.specs.machines.Placing.{AsNode, as_node, spanned_state, spanned_by, node_if, placing_reader, placing}
use Rattle.cedar_grammar.proofs.machines.Laws.{some_is, none_some, steps-none}
use Rattle.cedar_grammar.proofs.machines.Ending.{NotEmpty, EndsAt, Refuses, Begins}
use Rattle.cedar_grammar.proofs.machines.Rightly.{EndsRightly}

pub join-none : (e : Option Extent) → joint_extent e None ≡ e
join-none None = refl
join-none (Some a) = refl

pub join-assoc : (e f g : Option Extent) → joint_extent (joint_extent e f) g ≡ joint_extent e (joint_extent f g)
join-assoc None f g = refl
join-assoc (Some a) None g = refl
join-assoc (Some a) (Some b) None = refl
join-assoc (Some a) (Some b) (Some c) = refl

-- a step, told by what the machine inside answers

abbrev pub spanned_answer : {S T : Type 0} → List ℕ → Option Extent → Lexeme → Answer S T → Answer (SpannedState S) (Cell T)
spanned_answer src e t (next s) = next (spanned_by e t s)
spanned_answer src e t (ended x) = ended (node_at src e x)
spanned_answer src e t refused = refused
spanned_answer src e t too_large = too_large

done_told : {S T : Type 0} (src : List ℕ) (e : Option Extent) (t : Lexeme) (o : Option S) → ◌≡◌ {A = Answer (SpannedState S) (Cell T)} (done_answer (option_image (λ q. spanned_by e t q) o)) (spanned_answer src e t (done_answer o))
done_told src e t (Some q) = refl
done_told src e t None = refl

end_told : {S T : Type 0} (src : List ℕ) (e : Option Extent) (t : Lexeme) (o : Option T) → ◌≡◌ {A = Answer (SpannedState S) (Cell T)} (end_answer (node_if src e o)) (spanned_answer src e t (end_answer o))
end_told src e t (Some x) = refl
end_told src e t None = refl

pub placed_told : {S A T : Type 0} (src : List ℕ) (r : Reader S A T) (s : SpannedState S) (t : Lexeme) → (placing src r).step s t ≡ spanned_answer src s.extent t ((machine_of src r).step s.state t)
placed_told {S = S} {A = A} {T = T} src r s t = go (r.plan s.state t.kind)
  where
    go : (o : Option A) → planned_answer {S = SpannedState S} (λ a. option_image (λ q. spanned_by s.extent t q) (r.act src s.state a t)) (node_if src s.extent (r.finish src s.state)) o ≡ spanned_answer src s.extent t (planned_answer (λ a. r.act src s.state a t) (r.finish src s.state) o)
    go (Some a) = done_told src s.extent t (r.act src s.state a t)
    go None = end_told src s.extent t (r.finish src s.state)

node_there : {T : Type 0} (src : List ℕ) (e : Option Extent) (o : Option T) → is_some o ≡ is_some (node_if src e o)
node_there src e (Some x) = refl
node_there src e None = refl

pub placed_right : {S A T : Type 0} (src : List ℕ) (r : Reader S A T) → EndsRightly src r → EndsRightly src (placing_reader r)
placed_right src r i s = i s.state ∙ node_there src s.extent (r.finish src s.state)

-- runs, there and back

forth_by : {S A T : Type 0} (src : List ℕ) (r : Reader S A T) (e : Option Extent) (s l : S) (t : Lexeme) (ts : List Lexeme) (a : Answer S T) → steps (machine_of src r) (answer_state a) ts ≡ Some l →
    ((q : S) → steps (machine_of src r) (Some q) ts ≡ Some l → steps (placing src r) (Some (spanned_by e t q)) ts ≡ Some (spanned_state (joint_extent (joint_extent e (Some (extent_of t))) (extent ts)) l)) →
    steps (placing src r) (answer_state (spanned_answer src e t a)) ts ≡ Some (spanned_state (joint_extent e (extent (t ∷ ts))) l)
forth_by src r e s l t ts (next q) h go = go q h ∙ ap (λ w. Some (spanned_state w l)) (join-assoc e (Some (extent_of t)) (extent ts))
forth_by src r e s l t ts (ended x) h go = absurd (none_some (steps-none (machine_of src r) ts) h)
forth_by src r e s l t ts refused h go = absurd (none_some (steps-none (machine_of src r) ts) h)
forth_by src r e s l t ts too_large h go = absurd (none_some (steps-none (machine_of src r) ts) h)

pub forth : {S A T : Type 0} (src : List ℕ) (r : Reader S A T) (e : Option Extent) (s l : S) (ts : List Lexeme) → steps (machine_of src r) (Some s) ts ≡ Some l →
    steps (placing src r) (Some (spanned_state e s)) ts ≡ Some (spanned_state (joint_extent e (extent ts)) l)
forth src r e s l [] h = ap (λ s. Some (spanned_state e s)) (some_is h) ∙ ap (λ w. Some (spanned_state w l)) (sym (join-none e))
forth src r e s l (t ∷ ts) h =
    ap (λ a. steps (placing src r) (answer_state a) ts) (placed_told src r (spanned_state e s) t) ∙ forth_by src r e s l t ts ((machine_of src r).step s t) h (λ q g. forth src r (joint_extent e (Some (extent_of t))) q l ts g)

-- behind these tokens the machine inside has come to the same state, and the extent is theirs
pub record Inside {S T : Type 0} (m : Machine Lexeme S T) (e : Option Extent) (s : S) (ts : List Lexeme) (r : SpannedState S) : Type 0 where
  pub goes : steps m (Some s) ts ≡ Some r.state
  pub span : r.extent ≡ joint_extent e (extent ts)

back_by : {S A T : Type 0} (src : List ℕ) (r : Reader S A T) (e : Option Extent) (s : S) (t : Lexeme) (ts : List Lexeme) (l : SpannedState S) (a : Answer S T) → (machine_of src r).step s t ≡ a →
    ((q : S) → steps (placing src r) (Some (spanned_by e t q)) ts ≡ Some l → Inside (machine_of src r) (joint_extent e (Some (extent_of t))) q ts l) →
    steps (placing src r) (answer_state (spanned_answer src e t a)) ts ≡ Some l → Inside (machine_of src r) e s (t ∷ ts) l
back_by src r e s t ts l (next q) w go h = record { goes = ap (λ a. steps (machine_of src r) (answer_state a) ts) w ∙ (go q h).goes; span = (go q h).span ∙ join-assoc e (Some (extent_of t)) (extent ts) }
back_by src r e s t ts l (ended x) w go h = absurd (none_some (steps-none (placing src r) ts) h)
back_by src r e s t ts l refused w go h = absurd (none_some (steps-none (placing src r) ts) h)
back_by src r e s t ts l too_large w go h = absurd (none_some (steps-none (placing src r) ts) h)

pub back : {S A T : Type 0} (src : List ℕ) (r : Reader S A T) (e : Option Extent) (s : S) (ts : List Lexeme) (l : SpannedState S) → steps (placing src r) (Some (spanned_state e s)) ts ≡ Some l → Inside (machine_of src r) e s ts l
back src r e s [] l h = record { goes = ap (λ q. Some q.state) (some_is h); span = ap (λ q. q.extent) (sym (some_is h)) ∙ sym (join-none e) }
back src r e s (t ∷ ts) l h =
    back_by src r e s t ts l ((machine_of src r).step s t) refl (λ q g. back src r (joint_extent e (Some (extent_of t))) q ts l g)
    (ap (λ a. steps (placing src r) (answer_state a) ts) (sym (placed_told src r (spanned_state e s) t)) ∙ h)

-- the parser

node_complete : {S A T : Type 0} (src : List ℕ) (r : Reader S A T) {R : List Lexeme → T → Type 0} → IsParser (machine_of src r) R → {ts : List Lexeme} {c : Cell T} → AsNode src R ts c → RunsTo (placing src r) ts c
node_complete src r d (as_node {ts = ts} {x = x} w) =
    let h = d.complete ts x w in
    record { last = spanned_state (extent ts) h.last; goes = forth src r None r.start h.last ts h.goes; ends = ap (λ o. node_if src (extent ts) o) h.ends }

node_sound : {S A T : Type 0} (src : List ℕ) (r : Reader S A T) (R : List Lexeme → T → Type 0) → IsParser (machine_of src r) R → (ts : List Lexeme) (l : SpannedState S) (c : Cell T) (o : Option T) →
    Inside (machine_of src r) None r.start ts l → r.finish src l.state ≡ o → node_if src l.extent o ≡ Some c → AsNode src R ts c
node_sound src r R d ts l c None i e h = absurd (cc)
node_sound src r R d ts l c (Some x) i e h =
    subst (λ c. AsNode src R ts c) (ap (λ w. node_at src w x) (sym i.span) ∙ some_is h) (as_node (d.sound ts l.state x i.goes e))

node_answers : {S T : Type 0} (src : List ℕ) (e : Option Extent) (t : Lexeme) (a : Answer S T) (o : Option T) → AnswersRightly t a o → AnswersRightly t (spanned_answer src e t a) (node_if src e o)
node_answers src e t (next s) o h = h
node_answers src e t (ended x) o h = ap (λ o. node_if src e o) h
node_answers src e t refused o h = ap (λ o. node_if src e o) h
node_answers src e t too_large o h = h

pub node_parser : {S A T : Type 0} (src : List ℕ) (r : Reader S A T) (R : List Lexeme → T → Type 0) → IsParser (machine_of src r) R → IsParser (placing src r) (AsNode src R)
node_parser src r R d = record {
  complete = λ ts c w. node_complete src r d w;
  sound = λ ts s c f e. node_sound src r R d ts s c (r.finish src s.state) (back src r None r.start ts s f) refl e;
  viable = λ s. let c = d.viable s.state in
      record { more = c.more; last = spanned_state (joint_extent s.extent (extent c.more)) c.last; tree = node_at src (joint_extent s.extent (extent c.more)) c.tree; goes = forth src r s.extent s.state c.last c.more c.goes; ends = ap (λ o. node_if src (joint_extent s.extent (extent c.more)) o) c.ends };
  answers = λ s t. subst (λ a. AnswersRightly t a (node_if src s.extent (r.finish src s.state))) (sym (placed_told src r s t)) (node_answers src s.extent t ((machine_of src r).step s.state t) (r.finish src s.state) (d.answers s.state t));
}

-- where it ends

pub placed_not_empty : {S A T : Type 0} (src : List ℕ) (r : Reader S A T) → NotEmpty (machine_of src r) → NotEmpty (placing src r)
placed_not_empty src r h = ap (λ o. node_if src None o) h

placed_ended : {S T : Type 0} (src : List ℕ) (e : Option Extent) (t : Lexeme) (a : Answer S T) (o : Option T) (c : Cell T) → ((x : T) → o ≡ Some x → a ≡ ended x) → node_if src e o ≡ Some c → spanned_answer src e t a ≡ ended c
placed_ended src e t a None c h f = absurd (cc)
placed_ended src e t a (Some x) c h f = ap (λ a. spanned_answer src e t a) (h x refl) ∙ ap (λ c. ended c) (some_is f)

pub placed_ends : {S A T : Type 0} (src : List ℕ) (r : Reader S A T) (P : Lexeme → Type 0) → EndsAt (machine_of src r) P → EndsAt (placing src r) P
placed_ends src r P h s c t p e = placed_told src r s t ∙ placed_ended src s.extent t ((machine_of src r).step s.state t) (r.finish src s.state) c (λ x f. h s.state x t p f) e

pub placed_refuses : {S A T : Type 0} (src : List ℕ) (r : Reader S A T) (P : Lexeme → Type 0) → Refuses (machine_of src r) P → Refuses (placing src r) P
placed_refuses src r P h t p = placed_told src r (spanned_state None r.start) t ∙ ap (λ a. spanned_answer src None t a) (h t p)

placed_taken : {S T : Type 0} (src : List ℕ) (e : Option Extent) (t : Lexeme) (a : Answer S T) → is_taken (spanned_answer src e t a) ≡ is_taken a
placed_taken src e t (next s) = refl
placed_taken src e t (ended x) = refl
placed_taken src e t refused = refl
placed_taken src e t too_large = refl

placed_begins : {S A T : Type 0} (src : List ℕ) (r : Reader S A T) (t : Lexeme) → is_taken ((placing src r).step (placing src r).start t) ≡ is_taken ((machine_of src r).step r.start t)
placed_begins src r t = ap (λ a. is_taken a) (placed_told src r (spanned_state None r.start) t) ∙ placed_taken src None t ((machine_of src r).step r.start t)

pub placed_ends_itself : {S A T : Type 0} (src : List ℕ) (r : Reader S A T) → EndsAt (machine_of src r) (Begins (machine_of src r)) → EndsAt (placing src r) (Begins (placing src r))
placed_ends_itself src r h s c t p e = placed_ends src r (Begins (machine_of src r)) h s c t (sym (placed_begins src r t) ∙ p) e
