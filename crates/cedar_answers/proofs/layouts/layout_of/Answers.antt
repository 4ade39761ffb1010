use Rattle.cedar_answers.proofs.Reading.{laid_read, laid_for, laid_only}
use Rattle.cedar_answers.proofs.layouts.layout_of.Goals as goal

pub returns-clause-read : goal.returns-clause-read
returns-clause-read c = laid_read c.args.options.now c.args.text.now c.layout_policies.result c.layout_policies.ensures.lays_out

pub returns-clause-laid : goal.returns-clause-laid
returns-clause-laid c =
    laid_for c.args.options.now c.args.text.now c.layout_policies.result c.layout_policies.ensures.lays_out c.layout_policies.ensures.keeps c.layout_policies.ensures.lines c.layout_policies.ensures.width

pub returns-clause-only : goal.returns-clause-only
returns-clause-only c = laid_only c.args.options.now c.args.text.now c.layout_policies.result c.layout_policies.ensures.lays_out

pub returns-clause-refused : goal.returns-clause-refused
returns-clause-refused c = c.layout_policies.ensures.refused
