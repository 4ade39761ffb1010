use Rattle.cedar_report.proofs.JsonShape.{text_is, reads_back, one_line}
use Rattle.cedar_report.proofs.finding.Finding.json.Goals as goal

pub returns-clause-text : goal.returns-clause-text
returns-clause-text c = text_is c.to_string.result _ c.args.name.now c.args.self.now c.in_ok-to_value.ensures c.to_string.ensures.text

pub returns-clause-reads_back : goal.returns-clause-reads_back
returns-clause-reads_back c = reads_back c.to_string.result _ c.args.name.now c.args.self.now c.in_ok-to_value.ensures c.to_string.ensures.reads_back

pub returns-clause-one_line : goal.returns-clause-one_line
returns-clause-one_line c = one_line c.to_string.result c.args.name.now c.args.self.now (returns-clause-text c)
