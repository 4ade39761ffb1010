-- The key that a record's refusal names is the one that its outcome tells.
use Rattle.std.proofs.Common.{◌≡◌, ℕ, Bool, true, false, List, [], ◌∷◌, ◌++◌, Some, append-nil, append_assoc, refl, sym, ap, ◌∙◌}
use Rattle.std.specs.List.{list_any}
use Rattle.std.specs.Str.{bytes_eq}
use Rattle.std.proofs.lemmas.Bool.{both_ways, or_parts}
use Rattle.cedar_expressions.specs.Keys.{repeats_key, StandsAgain}
use Rattle.cedar_expressions.proofs.Repeats.{repeats-more, repeats-push}
use Rattle.cedar_conversion.specs.outcome.Conversion.{key_again}

-- of keys that all differ, one isn't among those before it
new_key : (seen : List (List ℕ)) (key : List ℕ) (more : List (List ℕ)) → repeats_key ((seen ++ key ∷ []) ++ more) ≡ false → list_any (bytes_eq key) seen ≡ false
new_key seen key more apart = go (repeats_key (seen ++ key ∷ [])) refl
  where
    go : (b : Bool) → repeats_key (seen ++ key ∷ []) ≡ b → list_any (bytes_eq key) seen ≡ false
    go true e = absurd (both_ways (repeats_key ((seen ++ key ∷ []) ++ more)) apart (repeats-more (seen ++ key ∷ []) more e))
    go false e = (or_parts (repeats_key seen) (list_any (bytes_eq key) seen) (sym (repeats-push seen key) ∙ e)).1

again_behind : (seen before after : List (List ℕ)) (key : List ℕ) → list_any (bytes_eq key) (seen ++ before) ≡ true → repeats_key (seen ++ before) ≡ false → key_again seen (before ++ key ∷ after) ≡ Some key
again_behind seen [] after key again apart =
    let here : list_any (bytes_eq key) seen ≡ true = ap (list_any (bytes_eq key)) (sym (append-nil seen)) ∙ again in
    rw here refl
again_behind seen (k ∷ before) after key again apart =
    let same = append_assoc seen (k ∷ []) before in
    let new = new_key seen k before (ap repeats_key same ∙ apart) in
    rw new (again_behind (seen ++ k ∷ []) before after key (ap (list_any (bytes_eq key)) same ∙ again) (ap repeats_key same ∙ apart))

pub first_again : (key : List ℕ) (keys : List (List ℕ)) → StandsAgain key keys → key_again [] keys ≡ Some key
first_again key keys (before, after, is, again, apart) = ap (key_again []) is ∙ again_behind [] before after key again apart
