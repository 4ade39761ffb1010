-- What a row of the table asks of a token's spelling; no token has the empty one.
use Rattle.std.specs.Prelude.{ℕ, List, [], ◌∷◌, Bool, true, false, ◌&&◌, ◌||◌, ◌==◌, nat_le, bytes_eq, nat_eq}
use Rattle.std.specs.List.{list_any, starts_with}
use Rattle.std.specs.Borrow.{Bor}
use Rattle.cedar_report.specs.declared.sign.Sign.{Sign}
use Rattle.cedar_report.specs.declared.sign.Sign.TheVariants.{Any, Nothing, Is, OneOf, Starts, Foreign, Digits, Quoted, Word, Value}

abbrev pub is_empty : List ℕ → Bool
is_empty [] = true
is_empty (byte ∷ bytes) = false

-- the first byte, or 0
abbrev pub first_byte : List ℕ → ℕ
first_byte [] = 0
first_byte (byte ∷ bytes) = byte

abbrev pub is_digit : ℕ → Bool
is_digit byte = nat_le 48 byte && nat_le byte 57

abbrev pub is_letter : ℕ → Bool
is_letter byte = (nat_le 65 byte && nat_le byte 90) || (nat_le 97 byte && nat_le byte 122)

abbrev pub begins_word : List ℕ → Bool
begins_word word = is_letter (first_byte word) || (first_byte word == 95)

-- a word, a number, a string, or a bracket that closes
abbrev pub is_value_end : List ℕ → Bool
is_value_end word = begins_word word || is_digit (first_byte word) || (first_byte word == 34)
    || (first_byte word == 41) || (first_byte word == 93) || (first_byte word == 125)

abbrev pub is_one_of : List (Bor (List ℕ)) → List ℕ → Bool
is_one_of list word = list_any (λ wanted. bytes_eq word wanted.now) list

abbrev pub meets : Sign → List ℕ → Bool
meets Any word = true
meets Nothing word = is_empty word
meets (Is wanted) word = bytes_eq word wanted.now
meets (OneOf list) word = is_one_of list.now word
meets (Starts front) word = starts_with nat_eq word front.now
meets Foreign word = nat_le 128 (first_byte word)
meets Digits word = is_digit (first_byte word)
meets Quoted word = first_byte word == 34
meets Word word = begins_word word
meets Value word = is_value_end word

-- each word is what is asked of it, as far as there are both
abbrev pub all_meet : List Sign → List (Bor (List ℕ)) → Bool
all_meet [] words = true
all_meet (sign ∷ signs) [] = true
all_meet (sign ∷ signs) (word ∷ words) = meets sign word.now && all_meet signs words
