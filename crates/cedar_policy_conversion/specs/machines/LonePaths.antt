-- The primary to which a node comes down through levels that are one part alone, parentheses
-- unopened, or why it comes to none.
use Rattle.std.specs.Prelude.{◌≡◌, Option, Some, None, Result, Ok, Err}
use denote.Ref.{Bor}
use Rattle.cedar_syntax.specs.declared.cst.Primary.{Primary}
use Rattle.cedar_syntax.specs.declared.err.faults.Failure.{Failure}
use Rattle.cedar_syntax.specs.declared.loc.Loc.{Loc}
use Rattle.cedar_syntax.specs.declared.node.Node.{Node}
use Rattle.cedar_syntax.specs.trees.Forms.{located, primary_form}
use Rattle.cedar_syntax.specs.trees.Located as f
use Rattle.cedar_syntax.specs.trees.Located.{Located}
use Rattle.cedar_conversion.specs.machines.Nested.{nested}
use Rattle.cedar_conversion.specs.outcome.LonePart.{lone_part}
use Rattle.cedar_conversion.specs.outcome.Outcome.{Outcome, fault_outcome, empty_node, wrong_node}
use Rattle.cedar_conversion.specs.outcome.Seen.{Refuses}
use Rattle.cedar_policy_conversion.specs.References.{lone}

abbrev pub ComesToPrimary : Located → Result (Bor (Node (Option Primary))) Failure → Type 0
ComesToPrimary n (Ok p) =
    (lone n ≡ lone (located primary_form p.now)) × (nested n ≡ nested (located primary_form p.now))
ComesToPrimary n (Err failure) = Refuses failure (lone n)

-- the one part that a node is, else why it isn't one part alone
abbrev pub child_at : Option Loc → Option Located → Outcome Located
child_at place (Some part) = Ok part
child_at place None = fault_outcome wrong_node place

abbrev pub child_outcome : Located → Outcome Located
child_outcome (f.missing place) = fault_outcome empty_node place
child_outcome (f.at place form) = child_at place (lone_part form)
