-- A string, read byte by byte, is laid out of pieces.
use Rattle.std.proofs.Common.{◌≡◌, ◌≢◌, ℕ, ◌+◌, ◌<◌, ◌≤◌, Bool, true, false, List, [], ◌∷◌, ◌++◌, length, refl, sym, ap, ◌∙◌, subst, arith, inl, inr, append_assoc, ne_eqb, Some}
use Rattle.std.specs.List.{All}
use Rattle.std.specs.Char.{encode_utf8, IsScalar}
use Rattle.std.specs.Str.{encode_utf8_all, all_scalars, IsUtf8}
use Rattle.std.proofs.lemmas.Bool.{cases_lt, cases_eq, and_parts}
use Rattle.std.proofs.lemmas.List.{length-append}
use Rattle.std.proofs.lemmas.List.Elements.{All-head, All-tail}
use Rattle.std.proofs.lemmas.Str.{encode_ascii, length-encode, len_utf8_bounds, IsUtf8-append, IsUtf8-encode}
use Rattle.cedar_lexer.specs.Spelling.{IsStringTail, closing, plain, escaped}
use Rattle.cedar_lexer.specs.Scan.{string_len}
use Rattle.cedar_lexer.proofs.Bytes.{encode_high}

-- bytes past ASCII neither close a string nor escape a byte
passed_high : (xs ys : List ℕ) (n : ℕ) → All (λ b. 128 ≤ b) xs → string_len false (xs ++ ys) n ≡ string_len false ys (n + length xs)
passed_high [] ys n h = ap (string_len false ys) (omega arith)
passed_high (x ∷ xs) ys n h =
    let high : 128 ≤ x = All-head (λ b. 128 ≤ b) x xs h in
    rw (ne_eqb x 34 (λ e. omega arith), ne_eqb x 92 (λ e. omega arith))
    (passed_high xs ys (n + 1) (All-tail (λ b. 128 ≤ b) x xs h) ∙ ap (string_len false ys) (omega arith))

taken_high : (xs ys : List ℕ) (n : ℕ) → 0 < length xs → All (λ b. 128 ≤ b) xs → string_len true (xs ++ ys) n ≡ string_len false ys (n + length xs)
taken_high [] ys n l h = absurd (omega arith)
taken_high (x ∷ xs) ys n l h = passed_high xs ys (n + 1) (All-tail (λ b. 128 ≤ b) x xs h) ∙ ap (string_len false ys) (omega arith)

-- a character that is a piece, and one behind a backslash
plain_char : (c : ℕ) (bs : List ℕ) (n : ℕ) → c ≢ 34 → c ≢ 92 → string_len false (encode_utf8 c ++ bs) n ≡ string_len false bs (n + length (encode_utf8 c))
plain_char c bs n quote slash = elim (cases_lt c 128) [
  | inl small ↦ rw (encode_ascii c small, ne_eqb c 34 quote, ne_eqb c 92 slash) refl
  | inr big ↦ passed_high (encode_utf8 c) bs n (encode_high c big)
]

some_bytes : (c : ℕ) → 0 < length (encode_utf8 c)
some_bytes c = rw (length-encode c) (omega (arith, len_utf8_bounds c))

escaped_char : (c : ℕ) (bs : List ℕ) (n : ℕ) → string_len true (encode_utf8 c ++ bs) n ≡ string_len false bs (n + length (encode_utf8 c))
escaped_char c bs n = elim (cases_lt c 128) [
  | inl small ↦ rw (encode_ascii c small) refl
  | inr big ↦ taken_high (encode_utf8 c) bs n (some_bytes c) (encode_high c big)
]

-- what is laid out of pieces and a quote is read to its end
pub closes : {tail : List ℕ} (after : List ℕ) (n : ℕ) → IsStringTail tail → string_len false (tail ++ after) n ≡ Some (n + length tail)
closes after n closing = refl
closes after n (plain c bs s quote slash rest) =
    rw (append_assoc (encode_utf8 c) bs after)
    (plain_char c (bs ++ after) n quote slash ∙ (closes after (n + length (encode_utf8 c)) rest ∙ ap Some (omega (arith, length-append (encode_utf8 c) bs))))
closes after n (escaped c bs s rest) =
    rw (append_assoc (encode_utf8 c) bs after)
    (escaped_char c (bs ++ after) (n + 1) ∙ (closes after (n + 1 + length (encode_utf8 c)) rest ∙ ap Some (omega (arith, length-append (encode_utf8 c) bs))))

-- such a text is UTF-8
ascii_utf8 : (b : ℕ) → b < 128 → IsScalar b → IsUtf8 (b ∷ [])
ascii_utf8 b small s = subst IsUtf8 (encode_ascii b small) (IsUtf8-encode b s)

pub tail_utf8 : {tail : List ℕ} → IsStringTail tail → IsUtf8 tail
tail_utf8 closing = ascii_utf8 34 (omega arith) refl
tail_utf8 (plain c bs s quote slash rest) = IsUtf8-append (encode_utf8 c) bs (IsUtf8-encode c s) (tail_utf8 rest)
tail_utf8 (escaped c bs s rest) = IsUtf8-append (92 ∷ []) (encode_utf8 c ++ bs) (ascii_utf8 92 (omega arith) refl) (IsUtf8-append (encode_utf8 c) bs (IsUtf8-encode c s) (tail_utf8 rest))

-- what stands behind a quote, or behind a quote's last backslash
abbrev pub behind : Bool → List ℕ → List ℕ
behind true bs = 92 ∷ bs
behind false bs = bs

-- a front of the text is laid out so, from n read bytes to m
pub record Closed (escaping : Bool) (bs : List ℕ) (n m : ℕ) : Type 0 where
  pub tail : List ℕ
  pub after : List ℕ
  pub stands : bs ≡ tail ++ after
  pub laid : IsStringTail (behind escaping tail)
  pub ends : m ≡ n + length tail

some_same : {m n : ℕ} → Some m ≡ Some n → n ≡ m
some_same e = cc

closed_quote : (c : ℕ) (bs : List ℕ) (n m : ℕ) → c ≡ 34 → string_len false (encode_utf8 c ++ bs) n ≡ Some m → Closed false (encode_utf8 c ++ bs) n m
closed_quote c bs n m is e =
    let spelled : encode_utf8 c ≡ 34 ∷ [] = encode_ascii c (omega arith) ∙ ap (λ b. b ∷ []) is in
    record {
      tail = 34 ∷ [];
      after = bs;
      stands = rw spelled refl;
      laid = closing;
      ends = some_same (rw spelled at e);
    }

closed_slash : (c : ℕ) (bs : List ℕ) (n m : ℕ) → c ≡ 92 → (string_len true bs (n + 1) ≡ Some m → Closed true bs (n + 1) m) → string_len false (encode_utf8 c ++ bs) n ≡ Some m → Closed false (encode_utf8 c ++ bs) n m
closed_slash c bs n m is more e =
    let spelled : encode_utf8 c ≡ 92 ∷ [] = encode_ascii c (omega arith) ∙ ap (λ b. b ∷ []) is in
    let h = more (rw spelled at e) in
    record {
      tail = 92 ∷ h.tail;
      after = h.after;
      stands = ap (λ xs. xs ++ bs) spelled ∙ ap (λ xs. 92 ∷ xs) h.stands;
      laid = h.laid;
      ends = omega (arith, h.ends);
    }

closed_plain : (c : ℕ) (bs : List ℕ) (n m : ℕ) → IsScalar c → c ≢ 34 → c ≢ 92 → ((k : ℕ) → string_len false bs k ≡ Some m → Closed false bs k m) → string_len false (encode_utf8 c ++ bs) n ≡ Some m → Closed false (encode_utf8 c ++ bs) n m
closed_plain c bs n m s quote slash more e =
    let h = more (n + length (encode_utf8 c)) (sym (plain_char c bs n quote slash) ∙ e) in
    record {
      tail = encode_utf8 c ++ h.tail;
      after = h.after;
      stands = ap (λ xs. encode_utf8 c ++ xs) h.stands ∙ sym (append_assoc (encode_utf8 c) h.tail h.after);
      laid = plain c h.tail s quote slash h.laid;
      ends = omega (arith, h.ends, length-append (encode_utf8 c) h.tail);
    }

closed_escaped : (c : ℕ) (bs : List ℕ) (n m : ℕ) → IsScalar c → ((k : ℕ) → string_len false bs k ≡ Some m → Closed false bs k m) → string_len true (encode_utf8 c ++ bs) n ≡ Some m → Closed true (encode_utf8 c ++ bs) n m
closed_escaped c bs n m s more e =
    let h = more (n + length (encode_utf8 c)) (sym (escaped_char c bs n) ∙ e) in
    record {
      tail = encode_utf8 c ++ h.tail;
      after = h.after;
      stands = ap (λ xs. encode_utf8 c ++ xs) h.stands ∙ sym (append_assoc (encode_utf8 c) h.tail h.after);
      laid = escaped c h.tail s h.laid;
      ends = omega (arith, h.ends, length-append (encode_utf8 c) h.tail);
    }

closed : (escaping : Bool) (cs : List ℕ) (n m : ℕ) → all_scalars cs ≡ true → string_len escaping (encode_utf8_all cs) n ≡ Some m → Closed escaping (encode_utf8_all cs) n m
closed true [] n m s e = absurd (cc)
closed false [] n m s e = absurd (cc)
closed true (c ∷ cs) n m s e =
    let h = and_parts _ _ s in
    closed_escaped c (encode_utf8_all cs) n m h.0 (λ k. closed false cs k m h.1) e
closed false (c ∷ cs) n m s e =
    let h = and_parts _ _ s in
    elim (cases_eq c 34) [
      | inl quote ↦ closed_quote c (encode_utf8_all cs) n m quote e
      | inr quote ↦ elim (cases_eq c 92) [
        | inl slash ↦ closed_slash c (encode_utf8_all cs) n m slash (closed true cs (n + 1) m h.1) e
        | inr slash ↦ closed_plain c (encode_utf8_all cs) n m h.0 quote slash (λ k. closed false cs k m h.1) e
      ]
    ]

-- what is read to a closing quote is laid out of pieces
pub read_closed : (bs : List ℕ) (n m : ℕ) → IsUtf8 bs → string_len false bs n ≡ Some m → Closed false bs n m
read_closed bs n m (cs, (scalars, spelled)) e = subst (λ xs. Closed false xs n m) spelled (closed false cs n m scalars (ap (λ xs. string_len false xs n) spelled ∙ e))
