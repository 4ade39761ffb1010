use Rattle.cedar_tool.proofs.Written.{added_by}
use Rattle.cedar_tool.proofs.remark.written.Goals as goal

pub returns-in-Json : goal.returns-in-Json
returns-in-Json c = rw c.in-Json.is (added_by _ _ _ c.write_json.result c.write_json.ensures)

pub returns-in-Plain : goal.returns-in-Plain
returns-in-Plain c = rw c.in-Plain.is (added_by _ _ _ c.write_plain.result c.write_plain.ensures)
