use Rattle.std.proofs.Common.{rules}
use Rattle.cedar_report.proofs.told.tell.Goals as goal

pub returns : goal.returns
returns c = record {
  code = c.code_of.ensures;
  bytes = c.in_ok-places.ensures.bytes;
  cause = c.in_ok-places.ensures.cause;
  message = search rules;
  expected = c.in_ok-expected.ensures;
  related = c.in_ok-places.ensures.related;
}
