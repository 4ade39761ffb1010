use Rattle.std.proofs.Common.{rules, ◌∙◌}
use Rattle.cedar_report.proofs.Telling.{seen_at}
use Rattle.cedar_report.proofs.encoding.broken.Goals as goal

pub returns-clause-told : goal.returns-clause-told
returns-clause-told c =
    let text = c.in_ok-lines.lines.text.now in
    let at = c.of-at.result in
    record {
      no_text = c.requires.no_text;
      place = c.args.end;
      first = c.requires.first;
      shown = c.in_ok-lines.ensures ∙ c.text_before-text.ensures;
      finding = c.in_ok-encoding_finding.field-0;
      alone = search rules;
      code = c.in_ok-encoding_finding.ensures.code;
      range = seen_at text c.args.end c.args.end _ at c.in_ok-encoding_finding.ensures.range c.of-at.ensures.start c.of-at.ensures.end c.of-at.ensures.seen;
      cause = seen_at text c.args.end c.args.end _ at c.in_ok-encoding_finding.ensures.cause c.of-at.ensures.start c.of-at.ensures.end c.of-at.ensures.seen;
      label = c.in_ok-encoding_finding.ensures.label;
      expected = c.in_ok-encoding_finding.ensures.expected;
      related = c.in_ok-encoding_finding.ensures.related;
      follows = c.in_ok-encoding_finding.ensures.follows;
    }
