-- Which levels are one part alone: chains without operators, operands without signs, members
-- without accesses. What such a level means is what its part means, as the grammar of Cedar's
-- expressions has it.
use Rattle.std.specs.Prelude.{zero, Bool, true, false, Option, Some, None, if◌then◌else◌}
use Rattle.cedar_syntax.specs.declared.cst.NegOp.{NegOp}
use Rattle.cedar_syntax.specs.declared.cst.NegOp.TheVariants as sign
use Rattle.cedar_syntax.specs.trees.Located as f
use Rattle.cedar_syntax.specs.trees.Located.{Located, Form}

-- whether nothing is to be applied
abbrev pub no_sign : Option NegOp → Bool
no_sign None = true
no_sign (Some (sign.Bang zero)) = true
no_sign (Some (sign.Dash zero)) = true
no_sign _ = false

-- the one part, where a level is that part alone
abbrev pub lone_part : Form → Option Located
lone_part (f.only n) = Some n
lone_part (f.chain level n f.none) = Some n
lone_part (f.unary op n) = if no_sign op then Some n else None
lone_part (f.member n f.none) = Some n
lone_part _ = None
