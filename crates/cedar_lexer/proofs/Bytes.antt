-- Bytes: fronts that pass a test, and the bytes of a character.
use Rattle.std.proofs.Common.{◌≡◌, ℕ, ◌<◌, ◌≤◌, Bool, true, false, List, [], ◌∷◌, ◌++◌, length, get_or, take, refl, sym, ap, ◌∙◌, arith, inl, inr, append-nil}
use Rattle.std.specs.List.{All, AllPass, prefix_len, take_while}
use Rattle.std.specs.Char.{encode_utf8, is_ascii_digit}
use Rattle.std.proofs.lemmas.Bool.{cases_lt, cases_Bool}
use Rattle.std.proofs.lemmas.Bool.Decides.{nat_tests}
use Rattle.std.proofs.lemmas.List.{take_at}
use Rattle.std.proofs.lemmas.List.Elements.{All-nil, All-cons, All-head, All-tail, All-from_get_or}
use Rattle.std.proofs.lemmas.List.Sums.{take_while-cons}
use Rattle.std.proofs.lemmas.Str.{inside_one}
use Rattle.cedar_lexer.specs.Spelling.{is_identifier_start, is_identifier_part}

-- the bytes that pass, all of them, and how many they are
pub take_while-passes : (p : ℕ → Bool) (bs : List ℕ) → AllPass p (take_while p bs)
take_while-passes p [] = All-nil (λ x. p x ≡ true)
take_while-passes p (b ∷ bs) = elim (cases_Bool (p b)) [
  | inl passes ↦ rw (take_while-cons p b bs, passes) (All-cons (λ x. p x ≡ true) b (take_while p bs) passes (take_while-passes p bs))
  | inr fails ↦ rw (take_while-cons p b bs, fails) (All-nil (λ x. p x ≡ true))
]

-- the bytes that pass go on behind a front that passes
pub prefix_len-passed : (p : ℕ → Bool) (xs ys : List ℕ) → AllPass p xs → length xs ≤ prefix_len p (xs ++ ys)
prefix_len-passed p [] ys h = omega arith
prefix_len-passed p (x ∷ xs) ys h = rw (All-head (λ b. p b ≡ true) x xs h) (omega (arith, prefix_len-passed p xs ys (All-tail (λ b. p b ≡ true) x xs h)))

-- where all pass, they are the whole list
pub prefix_len-all : (p : ℕ → Bool) (xs : List ℕ) → AllPass p xs → prefix_len p xs ≡ length xs
prefix_len-all p [] h = refl
prefix_len-all p (x ∷ xs) h = rw (All-head (λ b. p b ≡ true) x xs h, prefix_len-all p xs (All-tail (λ b. p b ≡ true) x xs h)) (omega arith)

-- the bytes of a character past ASCII are past ASCII
pub encode_high : (c : ℕ) → 128 ≤ c → All (λ b. 128 ≤ b) (encode_utf8 c)
encode_high c big = All-from_get_or (λ b. 128 ≤ b) (encode_utf8 c) 0 (λ k below. elim (cases_lt (get_or (encode_utf8 c) k 0) 128) [
  | inl low ↦ absurd (omega (arith, inside_one c [] (encode_utf8 c) k (sym (append-nil _)) below low))
  | inr h ↦ h
])

-- a first byte of an identifier also continues one, and is no digit
pub begins_continues : (b : ℕ) → is_identifier_start b ≡ true → is_identifier_part b ≡ true
begins_continues b h = grind (arith, nat_tests)

pub digit_begins_none : (b : ℕ) → is_ascii_digit b ≡ true → is_identifier_start b ≡ false
digit_begins_none b h = grind (arith, nat_tests)

pub continues_ascii : (b : ℕ) → is_identifier_part b ≡ true → b < 128
continues_ascii b h = grind (arith, nat_tests)

pub begins_visible : (b : ℕ) → is_identifier_start b ≡ true → (32 < b) × (b < 127)
begins_visible b h = grind (arith, nat_tests)

pub digit_visible : (b : ℕ) → is_ascii_digit b ≡ true → (32 < b) × (b < 127)
digit_visible b h = grind (arith, nat_tests)

-- two fronts of one list, equally long, are one
pub same_front : (s t a b : List ℕ) → s ++ a ≡ t ++ b → length s ≡ length t → s ≡ t
same_front s t a b e l = sym (take_at s a (length s) refl) ∙ (ap (take (length s)) e ∙ take_at t b (length s) (sym l))
