use Rattle.cedar_policy_parser.proofs.due.OneKind.{named_kind, one_kind}
use Rattle.cedar_policy_parser.proofs.laws.other_kinds_are_not_due.Goals as goal

pub returns-clause-named : goal.returns-clause-named
returns-clause-named c = named_kind

pub returns-clause-alone : goal.returns-clause-alone
returns-clause-alone c = one_kind
