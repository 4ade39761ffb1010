-- What a primary gives where a string is wanted and nothing else.
use Rattle.std.proofs.Common.{◌≡◌, Option, Some, None, refl, ap}
use Rattle.cedar_syntax.specs.declared.node.Node.{Node}
use Rattle.cedar_syntax.specs.declared.cst.Primary.{Primary}
use Rattle.cedar_syntax.specs.trees.Forms.{located, primary_form}
use Rattle.cedar_syntax.specs.trees.Located as f
use Rattle.cedar_syntax.specs.trees.Located.{Form}
use Rattle.cedar_conversion.specs.parts.Literals.{string_outcome}
use Rattle.cedar_conversion.specs.outcome.Outcome.{fault_outcome, empty_node}

-- a primary of this form
pub string_at : (n : Node (Option Primary)) (d : Primary) (t : Form) → n.node ≡ Some d → primary_form d ≡ t → string_outcome (located primary_form n) ≡ string_outcome (f.at n.loc t)
string_at n d t h k = rw h (ap (λ u. string_outcome (f.at n.loc u)) k)

pub no_string : (n : Node (Option Primary)) → n.node ≡ None → string_outcome (located primary_form n) ≡ fault_outcome empty_node n.loc
no_string n h = rw h refl
