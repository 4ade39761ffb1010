-- The expressions that are nested in a tree and are converted before it, in order, those within
-- these left out. None is right of `has`, nor behind more signs than are counted: what stands
-- there isn't converted.
use Rattle.std.specs.Prelude.{Bool, true, false, List, [], ◌∷◌, ◌++◌, Option, Some, None, map, if◌then◌else◌}
use denote.Ref.{Bor}
use Rattle.cedar_syntax.specs.declared.cst.Add.{Add}
use Rattle.cedar_syntax.specs.declared.cst.Expr.{Expr}
use Rattle.cedar_syntax.specs.declared.cst.NegOp.{NegOp}
use Rattle.cedar_syntax.specs.declared.cst.NegOp.TheVariants as sign
use Rattle.cedar_syntax.specs.declared.node.Node.{Node}
use Rattle.cedar_syntax.specs.trees.Forms.{located, expr_form, add_form}
use Rattle.cedar_syntax.specs.trees.Located as f
use Rattle.cedar_syntax.specs.trees.Located.{Located, Form, Parts}

-- whether signs are counted, so that their operand is converted
abbrev pub is_counted : Option NegOp → Bool
is_counted (Some sign.OverBang) = false
is_counted (Some sign.OverDash) = false
is_counted _ = true

-- the items of a list
abbrev pub listed_nodes : Parts → List Located
listed_nodes f.none = []
listed_nodes (f.more op n others) = n ∷ listed_nodes others

unfoldable mutual
  pub nested : Located → List Located
  nested (f.missing place) = []
  nested (f.at place form) = nested_in form

  pub nested_in : Form → List Located
  nested_in (f.only n) = nested n
  nested_in (f.ite a b c) = a ∷ b ∷ c ∷ []
  nested_in (f.chain level first others) = nested first ++ nested_parts others
  nested_in (f.has target right) = nested target
  nested_in (f.like target pattern) = nested target ++ nested pattern
  nested_in (f.is target entity_type) = nested target ++ nested entity_type
  nested_in (f.is_in target entity_type within) =
      nested target ++ (nested entity_type ++ nested within)
  nested_in (f.unary op item) = if is_counted op then nested item else []
  nested_in (f.member item accesses) = nested item ++ nested_parts accesses
  nested_in (f.field n) = []
  nested_in (f.call items) = listed_nodes items
  nested_in (f.index n) = n ∷ []
  nested_in (f.literal n) = []
  nested_in (f.name n) = []
  nested_in (f.slot n) = []
  nested_in (f.reference n) = []
  nested_in (f.parens n) = n ∷ []
  nested_in (f.set items) = listed_nodes items
  nested_in (f.record_of inits) = nested_parts inits
  nested_in (f.init key value) = key ∷ value ∷ []

  pub nested_parts : Parts → List Located
  nested_parts f.none = []
  nested_parts (f.more op n others) = nested n ++ nested_parts others

-- those of what stands behind the `in` of an `is`
abbrev pub nested_within : Option (Node (Option Add)) → List Located
nested_within None = []
nested_within (Some n) = nested (located add_form n)

-- expressions that are lent
abbrev pub lent_nodes : List (Bor (Node (Option Expr))) → List Located
lent_nodes ns = map (λ n. located expr_form n.now) ns
