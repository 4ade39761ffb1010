-- Bytes that are read up to a limit, and bytes that are written.
use Rattle.std.proofs.Common.{◌≡◌, ◌≤◌, ◌+◌, ℕ, List, [], ◌++◌, length, take, min, Option, Some, None, option_map, IfSome, sym, ap, subst, ◌∙◌, append-nil, arith}
use Rattle.std.proofs.lemmas.List.{take_all, length-take}
use Rattle.std.proofs.KnownBytes.{Appends-trans}
use Rattle.std.specs.Io.KnownBytes.{Appends}

-- what is less than the limit is all that a reader gives
within : (known : Option (List ℕ)) (limit n : ℕ) (start items : List ℕ) → start ≡ [] → limit ≡ n + 1 → IfSome (option_map (take limit) known) (λ xs. items ≡ start ++ xs) → length items ≤ n
    → IfSome known (λ k. items ≡ k)
within None limit n start items none more is few = tt
within (Some k) limit n start items none more is few =
    let all : items ≡ take limit k = is ∙ ap (λ s. s ++ take limit k) none in
    let shown : length items ≡ min limit (length k) = ap length all ∙ length-take limit k in
    all ∙ take_all limit k (omega arith)

pub whole : {R : Type 0} (remaining : R → Option (List ℕ)) (reader inner : R) (limit n : ℕ) (start items : List ℕ) → IfSome (option_map (take limit) (remaining inner)) (λ xs. items ≡ start ++ xs)
    → start ≡ [] → limit ≡ n + 1 → inner ≡ reader → length items ≤ n → IfSome (remaining reader) (λ k. items ≡ k)
whole remaining reader inner limit n start items is none more same few =
    subst (λ r. IfSome (remaining r) (λ k. items ≡ k)) same (within (remaining inner) limit n start items none more is few)

-- nothing was written
pub unchanged : (known : Option (List ℕ)) → Appends known known []
unchanged None = tt
unchanged (Some xs) = sym (append-nil xs)

pub nothing_written : (a b : Option (List ℕ)) → b ≡ a → Appends a b []
nothing_written a b same = rw same (unchanged a)

-- what is written grows
pub grown : (a b c : Option (List ℕ)) (bytes : List ℕ) → ((lines : List ℕ) × Appends a b lines) → Appends b c bytes → (lines : List ℕ) × Appends a c lines
grown a b c bytes (lines, h) k = (lines ++ bytes, Appends-trans a b c lines bytes h k)
