-- Which values an operator is joined to: those that it has made already, and all others.
use Rattle.std.proofs.Common.{◌≡◌, inl, inr, refl}
use Rattle.std.specs.Prelude.{◌⊎◌}
use Rattle.cedar_expressions.specs.declared.operators.AddOp.{AddOp}
use Rattle.cedar_expressions.specs.Value as v
use Rattle.cedar_expressions.specs.Value.{Value, Values, Terms}
use Rattle.cedar_json.specs.Readings.{and_with, or_with, mul_with, add_with}

abbrev pub Joins : (Value → Values → Value) → (Value → Value → Value) → Value → Type 0
Joins all join p =
    ((a : Value) × (bs : Values) × (p ≡ all a bs))
    ⊎ ((q : Value) → join p q ≡ all p (v.more q v.none))

abbrev pub Adds : Value → Type 0
Adds p =
    ((a : Value) × (ts : Terms) × (p ≡ v.add_nary a ts))
    ⊎ ((o : AddOp) (q : Value) → add_with o p q ≡ v.add_nary p (v.term o q v.no_terms))

pub or_joins : (p : Value) → Joins v.or_nary or_with p
or_joins (v.or_nary a bs) = inl (a, bs, refl)
or_joins p = inr (λ q. refl)

pub and_joins : (p : Value) → Joins v.and_naryl and_with p
and_joins (v.and_naryl a bs) = inl (a, bs, refl)
and_joins p = inr (λ q. refl)

pub mul_joins : (p : Value) → Joins v.mul_nary mul_with p
mul_joins (v.mul_nary a bs) = inl (a, bs, refl)
mul_joins p = inr (λ q. refl)

pub add_joins : (p : Value) → Adds p
add_joins (v.add_nary a ts) = inl (a, ts, refl)
add_joins p = inr (λ o q. refl)
