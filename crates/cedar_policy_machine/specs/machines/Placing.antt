-- A form whose tree is put as a node, at the place of the tokens that it has read; and one whose
-- tree is another's, put in another way.
use Rattle.std.specs.Prelude.{ℕ, List, Option, Some, None}
use Rattle.cedar_lexer.specs.Token.{Lexeme}
use Rattle.cedar_syntax.specs.declared.cst.Policies.{Policies}
use Rattle.cedar_syntax.specs.declared.cst.Policy.{Policy}
use Rattle.cedar_syntax.specs.declared.loc.Loc.{Loc}
use Rattle.cedar_grammar.specs.declared.reading.extent.Extent.{Extent}
use Rattle.cedar_policy_machine.specs.declared.sequence.SpannedState.{SpannedState}
use Rattle.cedar_grammar.specs.grammar.Place.{joint_extent, extent_of, loc_at, node_at, placed}
use Rattle.cedar_syntax.specs.trees.Trees.{Cell, policies_of}
use Rattle.cedar_grammar.specs.machines.Machine.{Machine, Reader, machine_of, option_image}

-- the tree that the relation gives, as a node at the place of the tokens
pub data AsNode {T : Type 0} (src : List ℕ) (R : List Lexeme → T → Type 0) : List Lexeme → Cell T →
    Type 0 where
  as_node : {ts : List Lexeme} {x : T} → R ts x → AsNode src R ts (placed src ts x)

abbrev pub spanned_state : {S : Type 0} → Option Extent → S → SpannedState S
spanned_state e s = record { extent = e; state = s }

-- the same, and one token more
abbrev pub spanned_by : {S : Type 0} → Option Extent → Lexeme → S → SpannedState S
spanned_by e t s = spanned_state (joint_extent e (Some (extent_of t))) s

abbrev pub node_if : {T : Type 0} → List ℕ → Option Extent → Option T → Option (Cell T)
node_if src e None = None
node_if src e (Some x) = Some (node_at src e x)

abbrev pub placing_reader : {S A T : Type 0} → Reader S A T → Reader (SpannedState S) A (Cell T)
placing_reader r = record {
  start = spanned_state None r.start;
  plan = λ s k. r.plan s.state k;
  act = λ src s a t. option_image (λ q. spanned_by s.extent t q) (r.act src s.state a t);
  ends = λ s. r.ends s.state;
  finish = λ src s. node_if src s.extent (r.finish src s.state);
}

abbrev pub placing : {S A T : Type 0} → List ℕ → Reader S A T →
    Machine Lexeme (SpannedState S) (Cell T)
placing src r = machine_of src (placing_reader r)

-- the state is held in another, which `out` takes it out of and `into` puts it into
abbrev pub mapped_reader : {S H A T Z : Type 0} → (H → S) → (S → H) → (List ℕ → T → Z)
    → Reader S A T → Reader H A Z
mapped_reader out into g r = record {
  start = into r.start;
  plan = λ h k. r.plan (out h) k;
  act = λ src h a t. option_image into (r.act src (out h) a t);
  ends = λ h. r.ends (out h);
  finish = λ src h. option_image (g src) (r.finish src (out h));
}

-- no tokens stand at 0..0
abbrev pub loc_or_start : List ℕ → Option Loc → Option Loc
loc_or_start src None = loc_at src (Some record { start = 0; end = 0 })
loc_or_start src (Some l) = Some l

-- policies at their place, or as a tree without a node where the list has none
abbrev pub policies_node : List ℕ → Cell (List (Cell Policy)) → Cell Policies
policies_node src x = record {
  node = option_image (λ xs. policies_of xs) x.node;
  loc = loc_or_start src x.loc;
}
