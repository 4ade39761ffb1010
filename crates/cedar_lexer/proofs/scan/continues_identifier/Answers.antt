-- The table says of each of the 256 bytes what the definition says, which is computed.
use Rattle.std.proofs.Common.{◌≡◌, ℕ, zero, suc, ◌<◌, Bool, true, false, ◌&&◌, not, nat_eq, get_or, refl, arith, inl, inr}
use Rattle.std.specs.Bool.{beq}
use Rattle.std.proofs.lemmas.Bool.{cases_eq}
use Rattle.cedar_lexer.specs.declared.scan.TheConstants.{PARTS}
use Rattle.cedar_lexer.specs.Spelling.{is_identifier_part}
use Rattle.cedar_lexer.proofs.scan.continues_identifier.Goals as goal

-- what the table says of a byte
is_at_its_place : ℕ → Bool
is_at_its_place b = not (nat_eq (get_or PARTS b 0) 46)

-- both say the same of each byte below n
same_below : ℕ → Bool
same_below zero = true
same_below (suc n) = same_below n && beq (is_at_its_place n) (is_identifier_part n)

last_same : (x y earlier : Bool) → (earlier && beq x y) ≡ true → (earlier ≡ true) × (x ≡ y)
last_same true true true h = (refl, refl)
last_same false false true h = (refl, refl)
last_same true false true h = cc
last_same false true true h = cc
last_same x y false h = cc

same_at : (n b : ℕ) → same_below n ≡ true → b < n → is_at_its_place b ≡ is_identifier_part b
unfolding same_below
same_at zero b h less = absurd (omega arith)
same_at (suc n) b h less =
    let both = last_same (is_at_its_place n) (is_identifier_part n) (same_below n) h in
    elim (cases_eq b n) [ inl same ↦ rw same both.1 | inr other ↦ same_at n b both.0 (omega arith) ]

all_same : same_below 256 ≡ true
unfolding same_below is_at_its_place
all_same = refl

pub returns : goal.returns
unfolding is_at_its_place
returns c = same_at 256 c.args.byte all_same (omega arith)
