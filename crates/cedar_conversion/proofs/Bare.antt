-- Which nodes are a literal and no more.
use Rattle.std.proofs.Common.{◌≡◌, refl, ap, map, Option, Some, None}
use Rattle.cedar_syntax.specs.declared.loc.Loc.{Loc}
use Rattle.cedar_syntax.specs.declared.node.Node.{Node}
use Rattle.cedar_syntax.specs.declared.cst.Member.{Member}
use Rattle.cedar_syntax.specs.declared.cst.Primary.{Primary}
use Rattle.cedar_syntax.specs.trees.Forms.{located, parts_of, primary_form, member_form, listed_access}
use Rattle.cedar_syntax.specs.trees.Located as f
use Rattle.cedar_syntax.specs.trees.Located.{Located, Form, Parts}
use Rattle.cedar_syntax.proofs.FormLevels.{member_out}
use Rattle.cedar_conversion.specs.outcome.Conversion.{literal_alone, lone_literal}
use Rattle.cedar_conversion.specs.outcome.LonePart.{lone_part}
use Rattle.cedar_conversion.proofs.LoneParts.{through, to_none, to_part}

-- a primary of this form
pub alone_at : (n : Node (Option Primary)) (d : Primary) (t : Form) → n.node ≡ Some d → primary_form d ≡ t → literal_alone (located primary_form n) ≡ literal_alone (f.at n.loc t)
alone_at n d t h k = rw h (ap (λ u. literal_alone (f.at n.loc u)) k)

by_member : (place : Option Loc) (a : Located) (ps : Parts) → lone_literal (f.at place (f.member a ps)) ≡ through literal_alone None (lone_part (f.member a ps))
by_member place a f.none = refl
by_member place a (f.more op n others) = refl

lone_at : (n : Node (Option Member)) (d : Member) → n.node ≡ Some d → lone_literal (located member_form n) ≡ through literal_alone None (lone_part (member_form d))
lone_at n d h = rw h (rw (member_out d) (by_member n.loc (located primary_form d.item) (parts_of (map listed_access d.access))))

pub bare : (n : Node (Option Member)) (d : Member) (a : Located) → n.node ≡ Some d → Some a ≡ lone_part (member_form d) → lone_literal (located member_form n) ≡ literal_alone a
bare n d a h k = to_part literal_alone None _ (lone_part (member_form d)) a (lone_at n d h) k

pub accessed : (n : Node (Option Member)) (d : Member) → n.node ≡ Some d → None ≡ lone_part (member_form d) → lone_literal (located member_form n) ≡ None
accessed n d h k = to_none literal_alone None _ (lone_part (member_form d)) (lone_at n d h) k
