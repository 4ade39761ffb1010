use Rattle.std.proofs.Common.{◌+◌, ◌*◌, ◌<◌, ◌++◌, ◌∷◌, ℕ, List, length, ap, ap₂, sym, ◌∙◌, codes, subst}
use Rattle.std.proofs.lemmas.Result.{on_ok_weaker}
use Rattle.json.specs.Token.{Token}
use Rattle.json.specs.Tree.{json_tokens}
use Rattle.cedar_expressions.specs.Meaning.{expr_meaning}
use Rattle.cedar_json_writer.specs.Forms.{value_json, get_json}
use Rattle.cedar_json_writer.specs.FunctionKeys.{keys_called, as_often}
use Rattle.cedar_json_writer.specs.machines.Pending.{heads, has_tails, has_weights, all_tokens, all_weights, all_called, weight}
use Rattle.cedar_json_writer.proofs.Openings as opened
use Rattle.cedar_json_writer.proofs.attributes.open_has.Goals as goal

pub returns : goal.returns
unfolding value_json weight keys_called
returns c =
    let a = expr_meaning c.args.a.now in
    let j = value_json a in
    let old = c.args.todo.now in
    on_ok_weaker c.put_all.result (λ p. (
      ap all_tokens p
          ∙ ap₂ (λ (rest : List (List ℕ)) (first : List ℕ). heads (codes "&&") (length rest) ++ (Token.begin_object ∷ Token.key (codes "has") ∷ Token.begin_object ∷ Token.key (codes "left") ∷ (json_tokens j ++ (Token.key (codes "attr") ∷ Token.string first ∷ Token.end_object ∷ Token.end_object ∷ (has_tails (get_json j c.args.first.now) rest ++ all_tokens old))))) c.as_slice-rest.ensures c.as_str.ensures
          ∙ sym (opened.has_tokens j c.args.first.now c.args.rest.now (all_tokens old)),
      subst (λ (rest : List (List ℕ)). all_weights c.put_all.new.todo < weight a + 5 * length rest + has_weights (weight a) rest + 20 + all_weights old) c.as_slice-rest.ensures (opened.has_less (weight a) c.as_slice-rest.result.now (all_weights old) _ (ap all_weights p)),
      ap all_called p ∙ ap (λ (rest : List (List ℕ)). keys_called a (as_often rest (λ xs. keys_called a xs) (all_called old))) c.as_slice-rest.ensures,
    )) c.put_all.ensures
