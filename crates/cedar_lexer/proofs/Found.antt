-- What the scan finds is a spelling at the front of the text, and a visible character begins it.
use Rattle.std.proofs.Common.{◌≡◌, ◌≢◌, ℕ, ◌+◌, ◌<◌, ◌≤◌, Bool, true, false, List, [], ◌∷◌, ◌++◌, length, get_or, take, drop, refl, sym, ap, ◌∙◌, subst, arith, inl, inr, Option, Some, None, one-add}
use Rattle.std.specs.Prelude.{◌==◌}
use Rattle.std.specs.List.{AllPass, prefix_len, take_while}
use Rattle.std.specs.Char.{is_ascii_digit, encode_utf8, is_whitespace}
use Rattle.std.specs.Str.{IsUtf8}
use Rattle.std.proofs.lemmas.Bool.{eqb-true, cond-true}
use Rattle.std.proofs.lemmas.Bool.Decides.{nat_tests}
use Rattle.std.proofs.lemmas.List.{take-append-drop, length-take-le}
use Rattle.std.proofs.lemmas.List.Elements.{All-nil, All-cons, All-weaker}
use Rattle.std.proofs.lemmas.List.Sums.{prefix_len-le-length, take_while-cons}
use Rattle.std.proofs.lemmas.Str.{IsUtf8-from_ascii, char_from_byte, IsUtf8-append, IsUtf8-past_char, encode_ascii}
use Rattle.std.proofs.lemmas.Str.Ascii.{IsAscii-from_all}
use Rattle.cedar_lexer.specs.declared.token.TokenKind.{TokenKind}
use Rattle.cedar_lexer.specs.declared.token.TokenKind.TheVariants.{OtherSlot, Identifier, Number, StringLit}
use Rattle.cedar_lexer.specs.Spelling.{is_identifier_start, is_identifier_part, one_text, IsIdentifierText, IsNumber, IsSlot, IsStringText, Spells}
use Rattle.cedar_lexer.specs.Cut.{IsSpelled}
use Rattle.cedar_lexer.specs.Scan.{spelling, KindAndLength, word, number, slot, kind_with_text, words, slots, string_len, string_of, mark}
use Rattle.cedar_lexer.proofs.Bytes.{take_while-passes, begins_continues, begins_visible, digit_visible, continues_ascii}
use Rattle.cedar_lexer.proofs.Strings.{read_closed, tail_utf8}
use Rattle.cedar_lexer.proofs.Fixed.{fixed}
use Rattle.cedar_lexer.proofs.Fronts.{among, spells_own, identifier_scan, slot_scan}
use Rattle.cedar_lexer.proofs.Marks.{IsMark, lone, pair, marked, pick, found_same}

-- a spelling of the kind, n bytes long, at the front of bs
pub record Front (bs : List ℕ) (kind : TokenKind) (n : ℕ) : Type 0 where
  pub text : List ℕ
  pub after : List ℕ
  pub stands : bs ≡ text ++ after
  pub size : length text ≡ n
  pub spelled : IsSpelled kind text after

-- a front of n bytes, behind a first byte that is no slash
by_front : (b : ℕ) (bs : List ℕ) (kind : TokenKind) (n : ℕ) → n ≤ length (b ∷ bs) → b ≢ 47 → Spells kind (take n (b ∷ bs)) → Front (b ∷ bs) kind n
by_front b bs kind n within apart spells = record {
  text = take n (b ∷ bs);
  after = drop n (b ∷ bs);
  stands = sym (take-append-drop n (b ∷ bs));
  size = length-take-le n (b ∷ bs) within;
  spelled = record {
    spells = spells;
    apart = λ more e. apart (first_same (b ∷ bs) b 47 bs (47 ∷ more) refl (sym (take-append-drop n (b ∷ bs)) ∙ e));
  };
}
  where
    first_same : (xs : List ℕ) (x y : ℕ) (ys zs : List ℕ) → xs ≡ x ∷ ys → xs ≡ y ∷ zs → x ≡ y
    first_same xs x y ys zs p q = cc

-- the kind that the scan gives an identifier, and a slot, is one that it spells
word_spelled : (text : List ℕ) → IsIdentifierText text → Spells (kind_with_text words text Identifier) text
word_spelled text i = elim (among words text Identifier) [
  | inl e ↦ spells_own (kind_with_text words text Identifier) text e
  | inr same ↦ subst (λ k. Spells k text) (sym same) (
    i,
    (λ (kind, e).
        let h = (found_same kind (kind_with_text words text Identifier) _ _ (sym (fixed kind text e).exact ∙ identifier_scan text i)).0 in
        absurd (none_own (h ∙ same) e)),
  )
]
  where
    none_own : {kind : TokenKind} {t : List ℕ} → kind ≡ Identifier → one_text kind ≡ Some t → ⊥
    none_own same e = let none : None ≡ Some _ = sym (ap one_text same) ∙ e in absurd (cc)

slot_spelled : (text : List ℕ) → IsSlot text → Spells (kind_with_text slots text OtherSlot) text
slot_spelled text i = elim (among slots text OtherSlot) [
  | inl e ↦ spells_own (kind_with_text slots text OtherSlot) text e
  | inr same ↦ subst (λ k. Spells k text) (sym same) (
    i,
    (λ (kind, e).
        let h = (found_same kind (kind_with_text slots text OtherSlot) _ _ (sym (fixed kind text e).exact ∙ slot_scan text i)).0 in
        absurd (none_own (h ∙ same) e)),
  )
]
  where
    none_own : {kind : TokenKind} {t : List ℕ} → kind ≡ OtherSlot → one_text kind ≡ Some t → ⊥
    none_own same e = let none : None ≡ Some _ = sym (ap one_text same) ∙ e in absurd (cc)

-- the bytes of an identifier at the front of a text are one
identifier_front : (b : ℕ) (bs : List ℕ) → is_identifier_start b ≡ true → IsIdentifierText (take_while is_identifier_part (b ∷ bs))
identifier_front b bs begins =
    subst IsIdentifierText (sym (take_while-cons is_identifier_part b bs ∙ cond-true (is_identifier_part b) (b ∷ take_while is_identifier_part bs) [] (begins_continues b begins)))
    (begins, take_while-passes is_identifier_part bs)

number_text : (b : ℕ) (bs : List ℕ) → is_ascii_digit b ≡ true → IsNumber (take_while is_ascii_digit (b ∷ bs))
number_text b bs digit =
    subst IsNumber (sym (take_while-cons is_ascii_digit b bs ∙ cond-true (is_ascii_digit b) (b ∷ take_while is_ascii_digit bs) [] digit))
    (digit, take_while-passes is_ascii_digit bs)

front_word : (b : ℕ) (bs : List ℕ) → is_identifier_start b ≡ true →
    Front (b ∷ bs) (kind_with_text words (take_while is_identifier_part (b ∷ bs)) Identifier) (prefix_len is_identifier_part (b ∷ bs))
front_word b bs begins =
    by_front b bs (kind_with_text words (take_while is_identifier_part (b ∷ bs)) Identifier) (prefix_len is_identifier_part (b ∷ bs))
    (prefix_len-le-length is_identifier_part (b ∷ bs))
    (λ e. absurd (no_slash (subst (λ x. is_identifier_start x ≡ true) e begins)))
    (word_spelled (take_while is_identifier_part (b ∷ bs)) (identifier_front b bs begins))
  where
    no_slash : is_identifier_start 47 ≡ true → ⊥
    no_slash e = absurd (cc)

front_number : (b : ℕ) (bs : List ℕ) → is_ascii_digit b ≡ true → Front (b ∷ bs) Number (prefix_len is_ascii_digit (b ∷ bs))
front_number b bs digit =
    by_front b bs Number (prefix_len is_ascii_digit (b ∷ bs))
    (prefix_len-le-length is_ascii_digit (b ∷ bs))
    (λ e. absurd (no_slash (subst (λ x. is_ascii_digit x ≡ true) e digit)))
    (number_text b bs digit)
  where
    no_slash : is_ascii_digit 47 ≡ true → ⊥
    no_slash e = absurd (cc)

front_slot : (c : ℕ) (cs : List ℕ) → is_identifier_start c ≡ true →
    Front (63 ∷ c ∷ cs) (kind_with_text slots (take (1 + prefix_len is_identifier_part (c ∷ cs)) (63 ∷ c ∷ cs)) OtherSlot) (1 + prefix_len is_identifier_part (c ∷ cs))
front_slot c cs begins =
    by_front 63 (c ∷ cs) (kind_with_text slots (take (1 + prefix_len is_identifier_part (c ∷ cs)) (63 ∷ c ∷ cs)) OtherSlot) (1 + prefix_len is_identifier_part (c ∷ cs))
    (omega (arith, prefix_len-le-length is_identifier_part (c ∷ cs)))
    (λ e. omega arith)
    (slot_spelled (take (1 + prefix_len is_identifier_part (c ∷ cs)) (63 ∷ c ∷ cs))
    (subst IsSlot (sym (more 63 (c ∷ cs) (prefix_len is_identifier_part (c ∷ cs)))) (refl, identifier_front c cs begins)))
  where
    more : (x : ℕ) (xs : List ℕ) (n : ℕ) → take (1 + n) (x ∷ xs) ≡ x ∷ take n xs
    more x xs n = rw one-add refl

-- the same find at an equal kind and length
moved : (bs : List ℕ) (j k : TokenKind) (m n : ℕ) → Front bs j m → ◌≡◌ {A = Option KindAndLength} (Some (j, m)) (Some (k, n)) → Front bs k n
moved bs j k m n f e =
    let h = found_same j k m n e in
    subst (λ x. Front bs x n) h.0 (subst (λ x. Front bs j x) (sym h.1) f)

-- ---- by the first byte

-- what the scan found, by the class of the first byte
data ByFirst (b : ℕ) (bs : List ℕ) (r : Option KindAndLength) : Type 0 where
  is_word : is_identifier_start b ≡ true → word (b ∷ bs) ≡ r → ByFirst b bs r
  is_number : is_ascii_digit b ≡ true → number (b ∷ bs) ≡ r → ByFirst b bs r
  is_slot : b ≡ 63 → slot (b ∷ bs) ≡ r → ByFirst b bs r
  is_string : b ≡ 34 → string_of (string_len false bs 1) ≡ r → ByFirst b bs r
  is_mark : mark b (get_or bs 0 0) ≡ r → ByFirst b bs r

by_first : (b : ℕ) (bs : List ℕ) (r : Option KindAndLength) → spelling (b ∷ bs) ≡ r → ByFirst b bs r
by_first b bs r e = elim (pick (is_identifier_start b) _ _ _ e) [
  | inl (begins, found) ↦ is_word begins found
  | inr (_, e) ↦ elim (pick (is_ascii_digit b) _ _ _ e) [
    | inl (digit, found) ↦ is_number digit found
    | inr (_, e) ↦ elim (pick (b == 63) _ _ _ e) [
      | inl (question, found) ↦ is_slot (eqb-true b 63 question) found
      | inr (_, e) ↦ elim (pick (b == 34) _ _ _ e) [
        | inl (quote, found) ↦ is_string (eqb-true b 34 quote) found
        | inr (_, found) ↦ is_mark found
      ]
    ]
  ]
]

slot_found : (bs : List ℕ) (kind : TokenKind) (n : ℕ) → slot (63 ∷ bs) ≡ Some (kind, n) → Front (63 ∷ bs) kind n
slot_found [] kind n e = absurd (cc)
slot_found (c ∷ cs) kind n e = elim (pick (is_identifier_start c) _ _ _ e) [
  | inl (begins, found) ↦ moved (63 ∷ c ∷ cs) _ kind _ n (front_slot c cs begins) found
  | inr (_, found) ↦ absurd (cc)
]

rest_utf8 : (b : ℕ) (bs : List ℕ) → b < 128 → IsUtf8 (b ∷ bs) → IsUtf8 bs
rest_utf8 b bs small u = IsUtf8-past_char (b ∷ bs) bs b u (ap (λ xs. xs ++ bs) (sym (encode_ascii b small)))

string_found : (bs : List ℕ) (kind : TokenKind) (n : ℕ) (o : Option ℕ) → IsUtf8 bs → string_len false bs 1 ≡ o → string_of o ≡ Some (kind, n) → Front (34 ∷ bs) kind n
string_found bs kind n None u e found = absurd (cc)
string_found bs kind n (Some m) u e found =
    let h = read_closed bs 1 m u e in
    moved (34 ∷ bs) StringLit kind m n record {
      text = 34 ∷ h.tail;
      after = h.after;
      stands = ap (λ xs. 34 ∷ xs) h.stands;
      size = omega (arith, h.ends);
      spelled = record { spells = (refl, h.laid); apart = λ more e. let x : 34 ≡ 47 = first e in absurd (omega arith) };
    } found
  where
    first : {x y : ℕ} {xs ys : List ℕ} → x ∷ xs ≡ y ∷ ys → x ≡ y
    first e = cc

mark_found : (b : ℕ) (bs : List ℕ) (kind : TokenKind) (n : ℕ) → IsMark b (get_or bs 0 0) kind n → Front (b ∷ bs) kind n
mark_found b bs kind n (lone seen text one slash) = record {
  text = b ∷ [];
  after = bs;
  stands = refl;
  size = sym one;
  spelled = record { spells = spells_own kind (b ∷ []) text; apart = λ more e. slash (first e) (second bs (47 ∷ more) (rest e)) };
}
  where
    first : {x y : ℕ} {xs ys : List ℕ} → x ∷ xs ≡ y ∷ ys → x ≡ y
    first e = cc

    rest : {x y : ℕ} {xs ys : List ℕ} → x ∷ xs ≡ y ∷ ys → xs ≡ ys
    rest e = cc

    second : (xs ys : List ℕ) → xs ≡ ys → get_or xs 0 0 ≡ get_or ys 0 0
    second xs ys e = ap (λ zs. get_or zs 0 0) e
mark_found b [] kind n (pair seen text two some apart) = absurd (omega arith)
mark_found b (c ∷ cs) kind n (pair seen text two some apart) = record {
  text = b ∷ c ∷ [];
  after = cs;
  stands = refl;
  size = sym two;
  spelled = record { spells = spells_own kind (b ∷ c ∷ []) text; apart = λ more e. apart (first e) };
}
  where
    first : {x y : ℕ} {xs ys : List ℕ} → x ∷ xs ≡ y ∷ ys → x ≡ y
    first e = cc

-- what the scan finds stands at the front
pub found : (bs : List ℕ) (kind : TokenKind) (n : ℕ) → IsUtf8 bs → spelling bs ≡ Some (kind, n) → Front bs kind n
found [] kind n u e = absurd (cc)
found (b ∷ bs) kind n u e = elim (by_first b bs _ e) [
  | is_word begins f ↦ moved (b ∷ bs) _ kind _ n (front_word b bs begins) f
  | is_number digit f ↦ moved (b ∷ bs) Number kind _ n (front_number b bs digit) f
  | is_slot question f ↦ subst (λ x. Front (x ∷ bs) kind n) (sym question) (slot_found bs kind n (subst (λ x. slot (x ∷ bs) ≡ Some (kind, n)) question f))
  | is_string quote f ↦ subst (λ x. Front (x ∷ bs) kind n) (sym quote) (string_found bs kind n _ (rest_utf8 b bs (omega arith) u) refl f)
  | is_mark f ↦ mark_found b bs kind n (marked b _ kind n f)
]

-- its first byte is visible
seen_mark : {b c : ℕ} {kind : TokenKind} {n : ℕ} → IsMark b c kind n → (32 < b) × (b < 127)
seen_mark (lone seen text one slash) = seen
seen_mark (pair seen text two some apart) = seen

pub visible : (b : ℕ) (bs : List ℕ) (kind : TokenKind) (n : ℕ) → spelling (b ∷ bs) ≡ Some (kind, n) → (32 < b) × (b < 127)
visible b bs kind n e = elim (by_first b bs _ e) [
  | is_word begins f ↦ begins_visible b begins
  | is_number digit f ↦ digit_visible b digit
  | is_slot question f ↦ (omega arith, omega arith)
  | is_string quote f ↦ (omega arith, omega arith)
  | is_mark f ↦ seen_mark (marked b _ kind n f)
]

-- so no character of white space begins a spelling
not_space : (b : ℕ) → 32 < b → b < 127 → is_whitespace b ≡ true → ⊥
not_space b low high e = grind (arith, nat_tests)

pub no_space : (bs after : List ℕ) (c : ℕ) (kind : TokenKind) (n : ℕ) → bs ≡ encode_utf8 c ++ after → is_whitespace c ≡ true → spelling bs ≡ Some (kind, n) → ⊥
no_space [] after c kind n e white f = absurd (cc)
no_space (b ∷ bs) after c kind n e white f =
    let v = visible b bs kind n f in
    let same : c ≡ b = char_from_byte (b ∷ bs) after c e (omega arith) (omega arith) in
    not_space b v.0 v.1 (subst (λ x. is_whitespace x ≡ true) same white)

-- ---- a spelling is UTF-8

ascii_all : (b : ℕ) (bs : List ℕ) (p : ℕ → Bool) → ((x : ℕ) → p x ≡ true → x < 128) → b < 128 → AllPass p bs → IsUtf8 (b ∷ bs)
ascii_all b bs p low first rest =
    IsUtf8-from_ascii (b ∷ bs) (IsAscii-from_all (b ∷ bs) (All-cons (λ x. x < 128) b bs first (All-weaker (λ x. p x ≡ true) (λ x. x < 128) low bs rest)))

identifier_utf8 : (text : List ℕ) → IsIdentifierText text → IsUtf8 text
identifier_utf8 [] i = absurd i
identifier_utf8 (b ∷ bs) (begins, rest) = ascii_all b bs is_identifier_part continues_ascii (continues_ascii b (begins_continues b begins)) rest

number_utf8 : (text : List ℕ) → IsNumber text → IsUtf8 text
number_utf8 [] i = absurd i
number_utf8 (b ∷ bs) (digit, rest) = ascii_all b bs is_ascii_digit (λ x d. omega (arith, digit_visible x d)) (omega (arith, digit_visible b digit)) rest

one_byte : (b : ℕ) → b < 128 → IsUtf8 (b ∷ [])
one_byte b small = ascii_all b [] is_ascii_digit (λ x d. omega (arith, digit_visible x d)) small (All-nil (λ x. is_ascii_digit x ≡ true))

slot_utf8 : (text : List ℕ) → IsSlot text → IsUtf8 text
slot_utf8 [] i = absurd i
slot_utf8 (b ∷ bs) (question, i) = IsUtf8-append (b ∷ []) bs (one_byte b (omega arith)) (identifier_utf8 bs i)

string_utf8 : (text : List ℕ) → IsStringText text → IsUtf8 text
string_utf8 [] i = absurd i
string_utf8 (b ∷ bs) (quote, laid) = IsUtf8-append (b ∷ []) bs (one_byte b (omega arith)) (tail_utf8 laid)

pub spelled_utf8 : (kind : TokenKind) (text : List ℕ) → Spells kind text → IsUtf8 text
spelled_utf8 Identifier text s = identifier_utf8 text s.0
spelled_utf8 OtherSlot text s = slot_utf8 text s.0
spelled_utf8 Number text s = number_utf8 text s
spelled_utf8 StringLit text s = string_utf8 text s
spelled_utf8 kind text e = (fixed kind text e).ascii
