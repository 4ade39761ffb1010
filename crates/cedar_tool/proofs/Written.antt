-- What a report adds to a text.
use Rattle.std.proofs.Common.{◌≡◌, ℕ, List, [], ◌∷◌, ◌++◌, string_bytes, Result, Ok, Err, OnOk, sym, ap, ◌∙◌, append_assoc, append-nil}
use Rattle.std.specs.Prelude.{String}
use Rattle.std.specs.List.{FoldsTo, concat}
use Rattle.std.specs.Fmt.{WritesInCalls}

-- a call adds a text to another one
abbrev pub Adds : {A : Type 0} → String A → List ℕ → String A → Type 0
Adds s more t = string_bytes t ≡ string_bytes s ++ more

adds_all : {A : Type 0} (s : String A) (parts : List (List ℕ)) (t : String A) → FoldsTo Adds s parts t → string_bytes t ≡ string_bytes s ++ concat parts
adds_all s [] t same = sym (ap string_bytes same) ∙ sym (append-nil (string_bytes s))
adds_all s (part ∷ parts) t (between, one, rest) =
    adds_all between parts t rest ∙ ap (λ b. b ++ concat parts) one ∙ append_assoc (string_bytes s) part (concat parts)

-- and some calls add what they write together
pub added : {A : Type 0} (s : String A) (more : List ℕ) (t : String A) → WritesInCalls Adds s more t → string_bytes t ≡ string_bytes s ++ more
added s more t calls = adds_all s calls.parts t calls.calls ∙ ap (λ b. string_bytes s ++ b) calls.whole

pub added_by : {A E X : Type 0} (s : String A) (more : List ℕ) (t : String A) (r : Result X E) → OnOk r (WritesInCalls Adds s more t) → OnOk r (string_bytes t ≡ string_bytes s ++ more)
added_by s more t (Ok d) calls = added s more t calls
added_by s more t (Err e) calls = tt
