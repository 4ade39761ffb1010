-- Lists of entities, one entity after another.
use Rattle.std.proofs.Common.{◌≡◌, ℕ, ◌<◌, ◌≤◌, suc, List, [], ◌∷◌, ◌++◌, ap, sym, ◌∙◌, length, drop, get_or, Result, false, codes}
use Rattle.std.proofs.Math.Seq.{drop-cons}
use Rattle.std.proofs.lemmas.List.{drop_all}
use Rattle.json.specs.Token.{Token}
use Rattle.std.specs.Bool.{◌==◌}
use Rattle.json.specs.Json.{array, member, no_members}
use Rattle.json.specs.Written.{Written, Writes}
use Rattle.json.specs.Tree.{json_tokens, items_tokens}
use Rattle.cedar_expressions.specs.declared.entity.EntityUID.{EntityUID}
use Rattle.cedar_json_writer.specs.Forms.{entity_json}
use Rattle.cedar_json_writer.specs.PolicyForms.{entity_items, entities_member}
use Rattle.cedar_json_writer.specs.machines.Outputs.{Appends}
use Rattle.cedar_json_writer.proofs.Steps.{Wrote, wrote_more, wrote_last}

abbrev pub list_tokens : List EntityUID → List Token
list_tokens uids = items_tokens (entity_items uids)

pub entity_more : (first out next : Written) (uids : List EntityUID) (i j : ℕ) (uid : EntityUID) → i < length uids → j ≡ suc i → uid ≡ get_or uids i uid → Wrote first out (list_tokens uids) (list_tokens (drop i uids)) → (next.before ≡ out.before) × (next.tokens ≡ out.tokens ++ json_tokens (entity_json uid)) → Wrote first next (list_tokens uids) (list_tokens (drop j uids))
entity_more first out next uids i j uid lt step is w h =
    let here : drop i uids ≡ uid ∷ drop (suc i) uids = drop-cons uids i uid lt ∙ ap (λ (x : EntityUID). x ∷ drop (suc i) uids) (sym is) in
    wrote_more first out next (list_tokens uids) (list_tokens (drop i uids)) (json_tokens (entity_json uid)) (list_tokens (drop j uids))
    (ap list_tokens here ∙ ap (λ (k : ℕ). json_tokens (entity_json uid) ++ list_tokens (drop k uids)) (sym step)) w h

pub entities_end : {E : Type 0} (r : Result (Unit {0}) E) (first out next : Written) (uids : List EntityUID) (i : ℕ) → length uids ≤ i → Wrote first out (list_tokens uids) (list_tokens (drop i uids)) → Writes r out next Token.end_array → Appends r first next (list_tokens uids)
entities_end r first out next uids i past w h =
    wrote_last r first out next (list_tokens uids) (list_tokens (drop i uids)) Token.end_array (ap list_tokens (drop_all i uids past)) w h

-- more than one are a list
pub several : (uids : List EntityUID) (uid : EntityUID) (others : List EntityUID) → uids ≡ uid ∷ others → (length others == 0) ≡ false → member (codes "entities") (array (entity_items uids)) no_members ≡ entities_member uids
several uids uid [] e some = cc
several uids uid (next ∷ more) e some =
    ap (λ (xs : List EntityUID). member (codes "entities") (array (entity_items xs)) no_members) e ∙ sym (ap entities_member e)
