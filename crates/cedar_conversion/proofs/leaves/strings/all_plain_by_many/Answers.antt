-- None of the three bytes stands in the text.
use Rattle.std.proofs.Common.{◌≡◌, ℕ, Bool, true, false, ◌&&◌, ◌||◌, not, nat_eq, List, [], ◌∷◌, refl, sym, ap, ◌∙◌}
use Rattle.std.specs.List.{list_all, list_any}
use Rattle.cedar_conversion.specs.machines.PlainTexts.{stands_for_itself}
use Rattle.cedar_conversion.proofs.leaves.strings.all_plain_by_many.Goals as goal

-- of the first byte and of the others: each is none of three
none_of_three : (p q r a b c : Bool) → not ((q || b) || ((p || a) || (r || c))) ≡ ((not p && not q && not r) && not (b || (a || c)))
none_of_three true true r a b c = refl
none_of_three true false r a true c = refl
none_of_three true false r a false c = refl
none_of_three false true r a b c = refl
none_of_three false false true a true c = refl
none_of_three false false false a true c = refl
none_of_three false false true true false c = refl
none_of_three false false true false false c = refl
none_of_three false false false a false c = refl

abbrev is_there : ℕ → List ℕ → Bool
is_there wanted bytes = list_any (λ y. nat_eq y wanted) bytes

none_is_there : (bytes : List ℕ) → not (is_there 92 bytes || (is_there 34 bytes || is_there 13 bytes)) ≡ list_all stands_for_itself bytes
none_is_there [] = refl
none_is_there (b ∷ bs) =
    none_of_three (nat_eq b 34) (nat_eq b 92) (nat_eq b 13) (is_there 34 bs) (is_there 92 bs) (is_there 13 bs)
    ∙ ap (λ x. stands_for_itself b && x) (none_is_there bs)

-- with what is known of the backslash
known : (bytes : List ℕ) (slash : Bool) → slash ≡ is_there 92 bytes → not (slash || (is_there 34 bytes || is_there 13 bytes)) ≡ list_all stands_for_itself bytes
known bytes slash e = ap (λ x. not (x || (is_there 34 bytes || is_there 13 bytes))) e ∙ none_is_there bytes

pub returns-then-contains : goal.returns-then-contains
returns-then-contains c = known c.args.bytes.now true (sym c.if-contains.true ∙ c.contains.ensures.value)

pub returns : goal.returns
returns c =
    rw (c.contains-2.ensures.value, c.contains-3.ensures.value) (known c.args.bytes.now false (sym c.if-contains.false ∙ c.contains.ensures.value))
