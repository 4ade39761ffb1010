-- The keys of a record, as the program sees them and as the value has them; and lists with more.
use Rattle.std.proofs.Common.{◌≡◌, ℕ, arith, Bool, true, false, List, [], ◌∷◌, length, map, refl, sym, ap, ◌∙◌}
use Rattle.std.specs.Prelude.{◌==◌}
use Rattle.std.specs.Cmp.Derive.{both_true}
use Rattle.std.specs.List.{list_all}
use Rattle.std.proofs.lemmas.Bool.{and_parts, eqb-true}
use Rattle.cedar_expressions.specs.declared.expr.Expr.{Expr}
use Rattle.cedar_expressions.specs.declared.operators.AddOp.{AddOp}
use Rattle.cedar_expressions.specs.Keys.{repeats_key}
use Rattle.cedar_expressions.specs.Path.{is_unreserved_identifier}
use Rattle.cedar_expressions.specs.Meaning.{expr_meaning}
use Rattle.cedar_expressions.specs.Value.{values, terms, fields}
use Rattle.cedar_writer.specs.Fitness.{IsFitSought}
use Rattle.cedar_writer.specs.Writable.{AreIdentifiers, keys_in, HasMore, HasTerms}
use Rattle.cedar_writer.specs.machines.Pending.{key, attributes, sought}
use Rattle.cedar_writer.specs.machines.Todos.{term_meaning, field_meaning}

true_false : true ≡ false → ⊥
true_false e = cc

keys_seen : (ps : List (List ℕ × Expr)) → keys_in (fields (map field_meaning ps)) ≡ map (λ p. p.0) ps
keys_seen [] = refl
keys_seen (p ∷ ps) = ap (λ ks. p.0 ∷ ks) (keys_seen ps)

pub keys_repeat : (ps : List (List ℕ × Expr)) (b : Bool) → b ≡ repeats_key (map (λ p. p.0) ps) → b ≡ true → repeats_key (keys_in (fields (map field_meaning ps))) ≡ false → ⊥
keys_repeat ps b is e f = true_false (sym e ∙ is ∙ sym (ap repeats_key (keys_seen ps)) ∙ f)

pub keys_are_apart : (ps : List (List ℕ × Expr)) (b : Bool) → b ≡ repeats_key (map (λ p. p.0) ps) → b ≡ false → repeats_key (keys_in (fields (map field_meaning ps))) ≡ false
keys_are_apart ps b is e = ap repeats_key (keys_seen ps) ∙ sym is ∙ e

-- a list that isn't empty has more
pub has_more : (es : List Expr) → (length es == 0) ≡ false → HasMore (values (map expr_meaning es))
has_more [] h = true_false h
has_more (e ∷ es) h = tt

pub has_terms : (ts : List (AddOp × Expr)) → (length ts == 0) ≡ false → HasTerms (terms (map term_meaning ts))
has_terms [] h = true_false h
has_terms (t ∷ ts) h = tt

-- ---- right of `has`

all_are : (ids : List (List ℕ)) → list_all is_unreserved_identifier ids ≡ true → AreIdentifiers ids
all_are [] h = tt
all_are (x ∷ xs) h = let p = and_parts (is_unreserved_identifier x) (list_all is_unreserved_identifier xs) h in (p.0, all_are xs p.1)

were_all : (ids : List (List ℕ)) → AreIdentifiers ids → list_all is_unreserved_identifier ids ≡ true
were_all [] h = refl
were_all (x ∷ xs) h = both_true h.0 (were_all xs h.1)

pub key_sought : (first : List ℕ) (rest : List (List ℕ)) → (length rest == 0) ≡ true → (key first ≡ sought first rest) × IsFitSought first rest
key_sought first [] h = (refl, tt)
key_sought first (x ∷ xs) h = absurd (omega (arith, eqb-true (length (x ∷ xs)) 0 h))

pub path_sought : (first : List ℕ) (rest : List (List ℕ)) → (length rest == 0) ≡ false → list_all is_unreserved_identifier (first ∷ rest) ≡ true → (attributes first rest ≡ sought first rest) × IsFitSought first rest
path_sought first [] h i = absurd (true_false h)
path_sought first (x ∷ xs) h i = (refl, all_are (first ∷ x ∷ xs) i)

pub no_path : (first : List ℕ) (rest : List (List ℕ)) → (length rest == 0) ≡ false → list_all is_unreserved_identifier (first ∷ rest) ≡ false → IsFitSought first rest → ⊥
no_path first [] h i f = true_false h
no_path first (x ∷ xs) h i f = true_false (sym (were_all (first ∷ x ∷ xs) f) ∙ i)
