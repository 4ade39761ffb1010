use Rattle.std.proofs.Common.{sym, subst}
use Rattle.cedar_conversion.specs.strict.Table.{table_of}
use Rattle.cedar_policy_parser.specs.faults.Refused.{RefusesSet}
use Rattle.cedar_answers.specs.Answers.{AnswersHost, ArePoliciesOf}
use Rattle.cedar_answers.proofs.Answering.{told_failure}
use Rattle.cedar_answers.proofs.policies.answer_under.Goals as goal

pub returns-in-Ok : goal.returns-in-Ok
returns-in-Ok c =
    let e = table_of c.args.styles.now in
    AnswersHost.accepted c.with_policies.ensures.status c.in-Ok.ensures.meant
    (record {
      policies = subst (ArePoliciesOf e c.args.text.now) (sym c.with_policies.ensures.policies) c.in-Ok.ensures.told;
      faults = c.with_policies.ensures.faults;
      written = c.with_policies.ensures.text;
    })

pub returns-in-Err : goal.returns-in-Err
returns-in-Err c =
    told_failure (RefusesSet (table_of c.args.styles.now)) c.args.text.now c.in-Err.failure c.refused.result c.utf8.text c.in-Err.ensures.only c.in-Err.ensures.refused c.refused.ensures
