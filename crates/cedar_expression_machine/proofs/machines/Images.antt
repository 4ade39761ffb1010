-- A form whose trees are images of another's: a parser and its outline, from the other's.
use Rattle.std.proofs.Common.{◌≡◌, ℕ, List, Option, Some, None, refl, ◌∙◌}
use Rattle.cedar_lexer.specs.Token.{Lexeme}
use Rattle.cedar_grammar.specs.machines.Machine.{Reader, machine_of, IsParser, Outline, IsOutline, option_image, no_tree}
use Rattle.cedar_expression_machine.specs.machines.Keeping.{kept_end, kept_reader}
use Rattle.cedar_expression_machine.proofs.machines.Keeping.{Kept, kept_parser, kept_completed}

-- each tree turned into another
abbrev pub image_reader : {S A T U : Type 0} → (List ℕ → T → U) → Reader S A T → Reader S A U
image_reader h r = kept_reader (λ src x. Some (h src x)) r.ends r

pub image_parser : {S A T U : Type 0} (src : List ℕ) (h : List ℕ → T → U) (r : Reader S A T) (R : List Lexeme → T → Type 0) → IsParser (machine_of src r) R → IsParser (machine_of src (image_reader h r)) (Kept R (λ x. Some (h src x)))
image_parser src h r R d = kept_parser src (λ src x. Some (h src x)) r.ends r R d (λ s. kept_completed src h r.ends r s (d.viable s))

image_ends : {T U : Type 0} (h : T → U) (o : Option T) → option_image no_tree o ≡ option_image no_tree (kept_end (λ x. Some (h x)) o)
image_ends h None = refl
image_ends h (Some x) = refl

-- what is said of the images is said of the trees
pub image_outlined : {S A T U V : Type 0} {src : List ℕ} {r : Reader S A T} {n : Outline V A (Unit {0})} {f : S → V} (h : List ℕ → T → U) → IsOutline src r n f no_tree → IsOutline src (image_reader h r) n f no_tree
image_outlined {src = src} {r = r} h o = record {
  starts = o.starts;
  plans = o.plans;
  acts = o.acts;
  done = o.done;
  ends = o.ends;
  finishes = λ s. o.finishes s ∙ image_ends (h src) (r.finish src s);
}
