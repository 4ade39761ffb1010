use Rattle.std.proofs.Common.{List, ℕ, rules, subst}
use Rattle.cedar_report.specs.Findings.{IsSeen}
use Rattle.cedar_tool.proofs.Parting.{seen_at}
use Rattle.cedar_tool.proofs.remark.not_laid_out.Goals as goal

pub returns-clause-tells : goal.returns-clause-tells
returns-clause-tells c =
    let text = c.args.text.now in
    let at = c.of-at.result in
    let byte = c.common-byte.result in
    let P : List ℕ → Type 0 = λ t. IsSeen t at in
    let seen : IsSeen text at = subst P c.in_ok-lines.ensures c.of-at.ensures.seen in
    let said = c.in_ok-finding.ensures in
    record {
      place = byte;
      first = search rules;
      finding = c.in_ok-finding.field-0;
      alone = search rules;
      code = search rules;
      range = seen_at text byte _ at said.range c.of-at.ensures.start c.of-at.ensures.end seen;
      cause = seen_at text byte _ at said.cause c.of-at.ensures.start c.of-at.ensures.end seen;
      label = search rules;
      expected = search rules;
      related = search rules;
      follows = search rules;
    }
