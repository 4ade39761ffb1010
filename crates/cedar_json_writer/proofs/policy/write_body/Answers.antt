use Rattle.std.proofs.Common.{[], ℕ, List, sym, ◌∙◌, subst}
use Rattle.json.specs.Token.{Token}
use Rattle.cedar_expressions.specs.Meaning.{unplaced}
use Rattle.cedar_json_writer.specs.FunctionKeys.{keys_called}
use Rattle.cedar_json_writer.specs.Texts.{TellsFirst}
use Rattle.cedar_json_writer.specs.machines.Outputs.{Checks}
use Rattle.cedar_json_writer.proofs.Conditions.{handed_on, called_unplaced, body_written}
use Rattle.cedar_json_writer.proofs.Steps.{written}
use Rattle.cedar_json_writer.proofs.policy.write_body.Goals as goal

pub returns-in_err-write_expr-clause-called : goal.returns-in_err-write_expr-clause-called
returns-in_err-write_expr-clause-called c =
    let why = c.in_err-write_expr.field-0.0 in
    handed_on c.from_residual-in_err-write_expr.result why (λ r. Checks (keys_called (unplaced c.args.body.now) []) r) c.from_residual-in_err-write_expr.ensures.1
    (subst (λ (ks : List (List ℕ)). TellsFirst ks why) (sym (called_unplaced c.args.body.now)) c.in_err-write_expr.ensures.called)

pub returns-clause-tokens : goal.returns-clause-tokens
returns-clause-tokens c =
    body_written c.args.out.now c.write_kind.new.out c.write_expr.new.out c.end_object.new.self c.args.kind.now c.args.body.now c.in_ok-write_kind.ensures c.in_ok-write_expr.ensures.tokens (written c.write_expr.new.out c.end_object.new.self Token.end_object c.in_ok-end_object.ensures)

pub returns-clause-called : goal.returns-clause-called
returns-clause-called c = called_unplaced c.args.body.now ∙ c.in_ok-write_expr.ensures.called
