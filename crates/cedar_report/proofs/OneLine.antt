-- A JSON text has no line feed: what is in its strings is escaped.
use Rattle.std.proofs.Common.{◌≡◌, ℕ, zero, suc, ◌+◌, ◌/◌, ◌%◌, ◌<◌, List, [], ◌∷◌, ◌++◌, Bool, true, false, cond, ⊎_elim, ℤ, pos, negsuc, subst, arith}
use Rattle.std.specs.Prelude.{◌==◌, ◌||◌, nat_lt}
use Rattle.std.specs.List.{AllByRecursion}
use Rattle.std.specs.Fmt.{digits, digits_onto, digit_glyph, decimal, signed_decimal}
use Rattle.std.specs.Char.{digit_char}
use Rattle.std.proofs.lemmas.Bool.{cases_lt}
use Rattle.json.specs.Print.{escape_letter, escape_byte, escape, quoted}
use Rattle.serde_json.specs.Data.{Num, unsigned, negative, float, Data, null, boolean, number, string, array, object, Items, no_items, item, Members, no_members, member}
use Rattle.serde_json.specs.Written.{number_text, compact_text, items_text, members_text, comma_if}

abbrev pub NoFeed : List ℕ → Type 0
NoFeed bytes = AllByRecursion (λ byte. ¬ (byte ≡ 10)) bytes

join : (xs ys : List ℕ) → NoFeed xs → NoFeed ys → NoFeed (xs ++ ys)
join [] ys h k = k
join (x ∷ xs) ys h k = (h.0, join xs ys h.1 k)

either : (b : Bool) (xs ys : List ℕ) → NoFeed xs → NoFeed ys → NoFeed (cond b xs ys)
either true xs ys h k = h
either false xs ys h k = k

either_byte : (b : Bool) (x y : ℕ) → ¬ (x ≡ 10) → ¬ (y ≡ 10) → ¬ (cond b x y ≡ 10)
either_byte true x y h k = h
either_byte false x y h k = k

above : (n : ℕ) → 10 < n → ¬ (n ≡ 10)
above n h e = omega arith

glyph_is_none : (d : ℕ) → ¬ (digit_glyph false d ≡ 10)
glyph_is_none d = either_byte (nat_lt d 10) (48 + d) (87 + d) (above _ (omega arith)) (above _ (omega arith))

digits_have_none : (k base n : ℕ) (more : List ℕ) → NoFeed more → NoFeed (digits_onto k base false n more)
digits_have_none zero base n more h = h
digits_have_none (suc k) base n more h =
    let one : NoFeed (digit_glyph false (n % base) ∷ more) = (glyph_is_none (n % base), h) in
    either (n / base == 0) _ _ one (digits_have_none k base (n / base) _ one)

decimal_has_none : (n : ℕ) → NoFeed (decimal n)
unfolding digits
decimal_has_none n = digits_have_none 64 10 n [] tt

signed_has_none : (z : ℤ) → NoFeed (signed_decimal z)
signed_has_none (pos n) = decimal_has_none n
signed_has_none (negsuc n) = (above 45 (omega arith), decimal_has_none (suc n))

number_has_none : (n : Num) → NoFeed (number_text n)
number_has_none (unsigned n) = decimal_has_none n
number_has_none (negative z) = signed_has_none z
number_has_none (float x) = tt

char_is_none : (d : ℕ) → ¬ (digit_char d ≡ 10)
char_is_none d = either_byte (nat_lt d 10) (48 + d) (87 + d) (above _ (omega arith)) (above _ (omega arith))

letter_is_none : (x : ℕ) → ¬ (x ≡ 10) → ¬ (escape_letter x ≡ 10)
letter_is_none x h =
    either_byte ((x == 34) || (x == 92)) _ _ h
    (either_byte (x == 8) _ _ (above 98 (omega arith)) (either_byte (x == 12) _ _ (above 102 (omega arith))
    (either_byte (x == 10) _ _ (above 110 (omega arith)) (either_byte (x == 13) _ _ (above 114 (omega arith))
    (either_byte (x == 9) _ _ (above 116 (omega arith)) (λ e. omega arith))))))

other_has_none : (x : ℕ) → ¬ (x ≡ 10) → NoFeed (escape_byte x)
unfolding escape_byte
other_has_none x h =
    either (nat_lt 0 (escape_letter x)) _ _ (above 92 (omega arith), (letter_is_none x h, tt))
    (either (nat_lt x 32) _ _
    (above 92 (omega arith), (above 117 (omega arith), (above 48 (omega arith), (above 48 (omega arith), (char_is_none (x / 16), (char_is_none (x % 16), tt))))))
    (h, tt))

feed_has_none : NoFeed (escape_byte 10)
unfolding escape_byte
feed_has_none = (above 92 (omega arith), (above 110 (omega arith), tt))

byte_has_none : (x : ℕ) → NoFeed (escape_byte x)
byte_has_none x =
    ⊎_elim (λ l. other_has_none x (λ e. omega arith))
    (λ g. ⊎_elim (λ l. other_has_none x (λ e. omega arith))
    (λ m. let P : ℕ → Type 0 = λ y. NoFeed (escape_byte y) in subst P (omega arith) feed_has_none) (cases_lt 10 x))
    (cases_lt x 10)

escape_has_none : (s : List ℕ) → NoFeed (escape s)
escape_has_none [] = tt
escape_has_none (x ∷ s) = join (escape_byte x) (escape s) (byte_has_none x) (escape_has_none s)

quoted_has_none : (s : List ℕ) → NoFeed (quoted s)
quoted_has_none s = (above 34 (omega arith), join (escape s) _ (escape_has_none s) (above 34 (omega arith), tt))

comma_has_none : (later : Bool) → NoFeed (comma_if later)
comma_has_none true = (above 44 (omega arith), tt)
comma_has_none false = tt

mutual
  pub text_has_none : (d : Data) → NoFeed (compact_text d)
  text_has_none null = (above 110 (omega arith), (above 117 (omega arith), (above 108 (omega arith), (above 108 (omega arith), tt))))
  text_has_none (boolean true) = (above 116 (omega arith), (above 114 (omega arith), (above 117 (omega arith), (above 101 (omega arith), tt))))
  text_has_none (boolean false) = (above 102 (omega arith), (above 97 (omega arith), (above 108 (omega arith), (above 115 (omega arith), (above 101 (omega arith), tt)))))
  text_has_none (number n) = number_has_none n
  text_has_none (string s) = quoted_has_none s
  text_has_none (array ds) = (above 91 (omega arith), items_have_none false ds)
  text_has_none (object ms) = (above 123 (omega arith), members_have_none false ms)

  items_have_none : (later : Bool) (ds : Items) → NoFeed (items_text later ds)
  items_have_none later no_items = (above 93 (omega arith), tt)
  items_have_none later (item d ds) = join (comma_if later) _ (comma_has_none later) (join (compact_text d) _ (text_has_none d) (items_have_none true ds))

  members_have_none : (later : Bool) (ms : Members) → NoFeed (members_text later ms)
  members_have_none later no_members = (above 125 (omega arith), tt)
  members_have_none later (member k d ms) =
      join (comma_if later) _ (comma_has_none later) (join (quoted k) _ (quoted_has_none k)
      (above 58 (omega arith), join (compact_text d) _ (text_has_none d) (members_have_none true ms)))
