-- Parts of a text.
use Rattle.std.proofs.Common.{◌≡◌, ◌≤◌, ℕ, List, length, take, drop, sym, ap, ◌∙◌, arith}
use Rattle.std.proofs.lemmas.List.{length-take, take-take, take_all}
use Rattle.cedar_report.specs.Parts.{IsPartAt}

-- a text from its first byte on
pub whole_is_part : (text : List ℕ) → IsPartAt text 0 text
whole_is_part text = sym (take_all (length text) text (omega arith))

-- what is cut out of a text
pub cut_is_part : (text part : List ℕ) (start many : ℕ) → part ≡ take many (drop start text) → IsPartAt text start part
cut_is_part text part start many e =
    let short : length part ≤ many = omega (arith, ap length e ∙ length-take many (drop start text)) in
    sym (take_all (length part) part (omega arith)) ∙ ap (take (length part)) e ∙ take-take (length part) many (drop start text) short

-- the beginning of a part
pub part_of_part : (text rest part : List ℕ) (start : ℕ) → IsPartAt text start rest → IsPartAt rest 0 part → IsPartAt text start part
part_of_part text rest part start p q =
    let short : length part ≤ length rest = omega (arith, ap length q ∙ length-take (length part) rest) in
    q ∙ ap (take (length part)) p ∙ take-take (length part) (length rest) (drop start text) short
