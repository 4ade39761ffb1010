use Rattle.std.proofs.Common.{subst}
use Rattle.cedar_syntax.specs.faults.NonEmpty.{list_of}
use Rattle.cedar_grammar.specs.faults.MendedFaults.{fault_of}
use Rattle.cedar_grammar.specs.machines.Machine.{machine_of, allowed_by}
use Rattle.cedar_grammar.specs.machines.Mending.{bad_fault, recovers_of, AreAllFaults, IsToldBy}
use Rattle.cedar_grammar.proofs.reading.mending.parse_on.Goals as goal

pub returns : goal.returns
returns g c =
    subst
    (λ src. AreAllFaults (machine_of src g.E.PushParser.reader) (allowed_by g.E.PushParser.reader) (recovers_of (allowed_by g.E.PushParser.reader) g.E.Recovering.left g.E.Recovering.closed g.E.Recovering.over fault_of src) (bad_fault fault_of src) src (list_of c.in-Err-Faults.faults))
    c.in_ok-source.ensures
    (subst
    (λ f. IsToldBy (machine_of c.in_ok-source.source g.E.PushParser.reader) (allowed_by g.E.PushParser.reader) (recovers_of (allowed_by g.E.PushParser.reader) g.E.Recovering.left g.E.Recovering.closed g.E.Recovering.over fault_of c.in_ok-source.source) (bad_fault fault_of c.in_ok-source.source) c.in_ok-source.source f)
    c.in-Err-Faults.field-0-is c.in-Err-Faults.ensures)
