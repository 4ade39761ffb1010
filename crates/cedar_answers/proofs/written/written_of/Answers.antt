use Rattle.std.proofs.Common.{◌<◌, ◌^◌, length, rules, string_bytes}
use Rattle.cedar_syntax.specs.faults.ParseErrors.{IsMemory}
use Rattle.cedar_policy_store.specs.PlaceFree.{set_meaning}
use Rattle.cedar_conversion.specs.strict.Table.{table_of}
use Rattle.cedar_policy_parser.specs.faults.Refused.{RefusesSet}
use Rattle.cedar_policy_parser.proofs.Parsed.{err_on}
use Rattle.cedar_answers.proofs.Rewritten.{means_the_same}
use Rattle.cedar_answers.proofs.written.written_of.Goals as goal

pub set_text-requires : goal.set_text-requires
set_text-requires c = (c.args.text.now, c.in_ok-set.ensures.value)

pub returns-clause-meant : goal.returns-clause-meant
returns-clause-meant c = (set_meaning c.in_ok-set.set, c.in_ok-set.ensures.value)

pub returns-clause-written : goal.returns-clause-written
returns-clause-written c =
    let small : length c.args.text.now < 2 ^ 63 = search rules in
    let set = c.in_ok-set.set in
    record {
      set = set;
      meant = c.in_ok-set.ensures.value;
      written = c.in_ok-written.ensures;
      same = means_the_same (table_of c.args.styles.now) c.args.text.now (string_bytes c.in_ok-written.written) set small c.in_ok-set.ensures.value c.in_ok-written.ensures;
    }

pub returns-in_err-set-clause-only : goal.returns-in_err-set-clause-only
returns-in_err-set-clause-only c meant =
    err_on c.from_residual.result c.in_err-set.field-0.0 IsMemory c.from_residual.ensures.1 (c.in_err-set.ensures.only meant.1.0 meant.0 meant.1.1 meant.1.2)

pub returns-in_err-set-clause-refused : goal.returns-in_err-set-clause-refused
returns-in_err-set-clause-refused c =
    err_on c.from_residual.result c.in_err-set.field-0.0 (λ f. RefusesSet (table_of c.args.styles.now) f c.args.text.now) c.from_residual.ensures.1 c.in_err-set.ensures.refused
