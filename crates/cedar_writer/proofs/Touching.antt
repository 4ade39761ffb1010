-- The scan looks at one byte behind a spelling: a byte with which its token doesn't go on ends it.
use Rattle.std.proofs.Common.{◌≡◌, ℕ, suc, ◌+◌, Bool, true, false, cond, List, [], ◌∷◌, ◌++◌, get_or, length, take, refl, sym, ap, ap₂, ◌∙◌, subst, arith, inl, inr, Option, Some, None, append-nil}
use Rattle.std.specs.Prelude.{◌==◌}
use Rattle.std.specs.List.{prefix_len}
use Rattle.std.specs.Char.{is_ascii_digit}
use Rattle.std.proofs.lemmas.List.{take_at}
use Rattle.std.proofs.lemmas.Bool.{eqb-true, cond-true, cond-false, cases_Bool}
use Rattle.cedar_lexer.specs.Spelling.{is_identifier_start, is_identifier_part, Spells, one_text}
use Rattle.cedar_lexer.specs.Scan.{spelling, KindAndLength, word, words, number, slot, slots, kind_with_text, is_given_text, string_len, string_of, mark}
use Rattle.cedar_lexer.specs.declared.token.TokenKind.{TokenKind}
use Rattle.cedar_lexer.specs.declared.token.TokenKind.TheVariants as kind
use Rattle.cedar_lexer.proofs.Fronts.{exact}
use Rattle.cedar_lexer.proofs.Marks.{found_same, pick}
use Rattle.cedar_lexer.proofs.Skips.{spelling_some}
use Rattle.cedar_lexer.proofs.Strings.{closes}
use Rattle.cedar_writer.specs.Spacing.{runs_on_with}

-- ---- runs

one_longer : (q : Bool) (m n k : ℕ) → (m ≡ k → n ≡ k) → cond q (1 + m) 0 ≡ suc k → cond q (1 + n) 0 ≡ suc k
one_longer true m n k go e = omega (arith, go (omega (arith, e)))
one_longer false m n k go e = absurd (omega (arith, e))

run_ends : (p : ℕ → Bool) (text : List ℕ) (c : ℕ) (rest : List ℕ) → p c ≡ false → prefix_len p (text ++ []) ≡ length text → prefix_len p (text ++ (c ∷ rest)) ≡ length text
run_ends p [] c rest stops e = rw stops refl
run_ends p (x ∷ text) c rest stops e = one_longer (p x) (prefix_len p (text ++ [])) (prefix_len p (text ++ (c ∷ rest))) (length text) (run_ends p text c rest stops) e

-- ---- words and slots go on as identifiers do

abbrev AllGoOn : ℕ → List TokenKind → Type 0
AllGoOn c [] = Unit {0}
AllGoOn c (k ∷ ks) = (runs_on_with k c ≡ is_identifier_part c) × AllGoOn c ks

chosen : (c : ℕ) (q : Bool) (k j : TokenKind) → runs_on_with k c ≡ is_identifier_part c → runs_on_with j c ≡ is_identifier_part c → runs_on_with (cond q k j) c ≡ is_identifier_part c
chosen c true k j e f = e
chosen c false k j e f = f

kind_goes_on : (c : ℕ) (ks : List TokenKind) (text : List ℕ) (other : TokenKind) → AllGoOn c ks → runs_on_with other c ≡ is_identifier_part c → runs_on_with (kind_with_text ks text other) c ≡ is_identifier_part c
kind_goes_on c [] text other all e = e
kind_goes_on c (k ∷ ks) text other all e = chosen c (is_given_text (one_text k) text) k (kind_with_text ks text other) all.0 (kind_goes_on c ks text other all.1 e)

word_goes_on : (c : ℕ) (text : List ℕ) → runs_on_with (kind_with_text words text kind.Identifier) c ≡ is_identifier_part c
word_goes_on c text = kind_goes_on c words text kind.Identifier (refl, (refl, (refl, (refl, (refl, (refl, (refl, (refl, (refl, (refl, (refl, (refl, (refl, (refl, (refl, (refl, (refl, tt))))))))))))))))) refl

slot_goes_on : (c : ℕ) (text : List ℕ) → runs_on_with (kind_with_text slots text kind.OtherSlot) c ≡ is_identifier_part c
slot_goes_on c text = kind_goes_on c slots text kind.OtherSlot (refl, (refl, tt)) refl

word_is : (k : TokenKind) (text b : List ℕ) (n : ℕ) → n ≡ length text → kind_with_text words text kind.Identifier ≡ k → ◌≡◌ {A = Option KindAndLength} (Some (kind_with_text words (take n (text ++ b)) kind.Identifier, n)) (Some (k, length text))
word_is k text b n e h = rw (e, take_at text b (length text) refl, h) refl

word_ends : (k : TokenKind) (text : List ℕ) (c : ℕ) (rest : List ℕ) → runs_on_with k c ≡ false → word (text ++ []) ≡ Some (k, length text) → word (text ++ (c ∷ rest)) ≡ Some (k, length text)
word_ends k text c rest stops e =
    let h = found_same _ k (prefix_len is_identifier_part (text ++ [])) (length text) e in
    let front : take (prefix_len is_identifier_part (text ++ [])) (text ++ []) ≡ text = take_at text [] _ h.1 in
    let is : kind_with_text words text kind.Identifier ≡ k = ap (λ t. kind_with_text words t kind.Identifier) (sym front) ∙ h.0 in
    let part : is_identifier_part c ≡ false = sym (word_goes_on c text) ∙ (ap (λ q. runs_on_with q c) is ∙ stops) in
    word_is k text (c ∷ rest) (prefix_len is_identifier_part (text ++ (c ∷ rest))) (run_ends is_identifier_part text c rest part (sym h.1)) is

number_ends : (k : TokenKind) (text : List ℕ) (c : ℕ) (rest : List ℕ) → runs_on_with k c ≡ false → number (text ++ []) ≡ Some (k, length text) → number (text ++ (c ∷ rest)) ≡ Some (k, length text)
number_ends k text c rest stops e =
    let h = found_same kind.Number k (prefix_len is_ascii_digit (text ++ [])) (length text) e in
    let digit : is_ascii_digit c ≡ false = ap (λ q. runs_on_with q c) h.0 ∙ stops in
    ap₂ (λ (q : TokenKind) (n : ℕ). Some (q, n)) h.0 (run_ends is_ascii_digit text c rest digit (sym h.1))

slot_is : (k : TokenKind) (text b : List ℕ) (n : ℕ) → n ≡ length text → kind_with_text slots text kind.OtherSlot ≡ k → ◌≡◌ {A = Option KindAndLength} (Some (kind_with_text slots (take n (text ++ b)) kind.OtherSlot, n)) (Some (k, length text))
slot_is k text b n e h = rw (e, take_at text b (length text) refl, h) refl

slot_ends : (k : TokenKind) (y : ℕ) (ys : List ℕ) (c : ℕ) (rest : List ℕ) → runs_on_with k c ≡ false → slot (63 ∷ y ∷ ys ++ []) ≡ Some (k, length (63 ∷ y ∷ ys)) → slot (63 ∷ y ∷ ys ++ (c ∷ rest)) ≡ Some (k, length (63 ∷ y ∷ ys))
slot_ends k y ys c rest stops e = elim (pick (is_identifier_start y) _ _ _ e) [
  | inl (begins, f) ↦
      let h = found_same _ k (1 + prefix_len is_identifier_part (y ∷ ys ++ [])) (length (63 ∷ y ∷ ys)) f in
      let front : take (1 + prefix_len is_identifier_part (y ∷ ys ++ [])) (63 ∷ y ∷ ys ++ []) ≡ 63 ∷ y ∷ ys = take_at (63 ∷ y ∷ ys) [] _ h.1 in
      let is : kind_with_text slots (63 ∷ y ∷ ys) kind.OtherSlot ≡ k = ap (λ t. kind_with_text slots t kind.OtherSlot) (sym front) ∙ h.0 in
      let part : is_identifier_part c ≡ false = sym (slot_goes_on c (63 ∷ y ∷ ys)) ∙ (ap (λ q. runs_on_with q c) is ∙ stops) in
      let more : prefix_len is_identifier_part (y ∷ ys ++ (c ∷ rest)) ≡ length (y ∷ ys) = run_ends is_identifier_part (y ∷ ys) c rest part (omega (arith, h.1)) in
      rw begins (slot_is k (63 ∷ y ∷ ys) (c ∷ rest) (1 + prefix_len is_identifier_part (y ∷ ys ++ (c ∷ rest))) (omega (arith, more)) is)
  | inr (_, f) ↦ absurd (cc)
]

-- ---- strings and marks

string_kind : (k : TokenKind) (n : ℕ) (o : Option ℕ) → string_of o ≡ Some (k, n) → k ≡ kind.StringLit
string_kind k n None e = absurd (cc)
string_kind k n (Some m) e = sym (found_same kind.StringLit k m n e).0

string_ends : (k : TokenKind) (x : ℕ) (xs b : List ℕ) → k ≡ kind.StringLit → Spells k (x ∷ xs) → string_of (string_len false (xs ++ b) 1) ≡ Some (k, length (x ∷ xs))
string_ends k x xs b is s =
    let t : Spells kind.StringLit (x ∷ xs) = subst (λ q. Spells q (x ∷ xs)) is s in
    ap string_of (closes b 1 t.1) ∙ ap₂ (λ (q : TokenKind) (n : ℕ). Some (q, n)) (sym is) (omega arith)

-- a mark that may have a second byte stays without where another byte stands behind it
mark_kind : (own k : TokenKind) (x y : ℕ) → (x == y) ≡ true → mark y 0 ≡ Some (own, 1) → mark x 0 ≡ Some (k, 1) → own ≡ k
mark_kind own k x y is a e = (found_same own k 1 1 (sym a ∙ subst (λ z. mark z 0 ≡ Some (k, 1)) (eqb-true x y is) e)).0

mark_at : (own k : TokenKind) (x y c : ℕ) → (x == y) ≡ true → own ≡ k → mark y c ≡ Some (own, 1) → mark x c ≡ Some (k, 1)
mark_at own k x y c is same a = ap (λ z. mark z c) (eqb-true x y is) ∙ (a ∙ ap (λ j. Some (j, 1)) same)

mark_alone : (k : TokenKind) (x c : ℕ) → runs_on_with k c ≡ false → mark x 0 ≡ Some (k, 1) → mark x c ≡ Some (k, 1)
mark_alone k x c stops e = elim (cases_Bool (x == 58)) [
  | inl is ↦
      let same = mark_kind kind.Colon k x 58 is refl e in
      let other : (c == 58) ≡ false = ap (λ q. runs_on_with q c) same ∙ stops in
      mark_at kind.Colon k x 58 c is same (rw other refl)
  | inr colon ↦ elim (cases_Bool (x == 61)) [
    | inl is ↦
        let same = mark_kind kind.Eq k x 61 is refl e in
        let other : (c == 61) ≡ false = ap (λ q. runs_on_with q c) same ∙ stops in
        mark_at kind.Eq k x 61 c is same (rw other refl)
    | inr equal ↦ elim (cases_Bool (x == 33)) [
      | inl is ↦
          let same = mark_kind kind.Bang k x 33 is refl e in
          let other : (c == 61) ≡ false = ap (λ q. runs_on_with q c) same ∙ stops in
          mark_at kind.Bang k x 33 c is same (rw other refl)
      | inr bang ↦ elim (cases_Bool (x == 60)) [
        | inl is ↦
            let same = mark_kind kind.Less k x 60 is refl e in
            let other : (c == 61) ≡ false = ap (λ q. runs_on_with q c) same ∙ stops in
            mark_at kind.Less k x 60 c is same (rw other refl)
        | inr less ↦ elim (cases_Bool (x == 62)) [
          | inl is ↦
              let same = mark_kind kind.Greater k x 62 is refl e in
              let other : (c == 61) ≡ false = ap (λ q. runs_on_with q c) same ∙ stops in
              mark_at kind.Greater k x 62 c is same (rw other refl)
          | inr greater ↦ elim (cases_Bool (x == 47)) [
            | inl is ↦
                let same = mark_kind kind.Slash k x 47 is refl e in
                let other : (c == 47) ≡ false = ap (λ q. runs_on_with q c) same ∙ stops in
                mark_at kind.Slash k x 47 c is same (rw other refl)
            | inr slash ↦ elim (cases_Bool (x == 124)) [
              | inl is ↦ absurd (no_lone 124 k refl (subst (λ z. mark z 0 ≡ Some (k, 1)) (eqb-true x 124 is) e))
              | inr bar ↦ elim (cases_Bool (x == 38)) [
                | inl is ↦ absurd (no_lone 38 k refl (subst (λ z. mark z 0 ≡ Some (k, 1)) (eqb-true x 38 is) e))
                | inr ampersand ↦ rw (colon, equal, bang, less, greater, slash, bar, ampersand) (rw (colon, equal, bang, less, greater, slash, bar, ampersand) at e)
              ]
            ]
          ]
        ]
      ]
    ]
  ]
]
  where
    no_lone : (z : ℕ) (k : TokenKind) → mark z 0 ≡ None → mark z 0 ≡ Some (k, 1) → ⊥
    no_lone z k a e = some_none k (sym a ∙ e)
      where
        some_none : (k : TokenKind) → ◌≡◌ {A = Option KindAndLength} None (Some (k, 1)) → ⊥
        some_none k e = cc

mark_ends : (k : TokenKind) (x : ℕ) (xs : List ℕ) (c : ℕ) (rest : List ℕ) → runs_on_with k c ≡ false → mark x (get_or (xs ++ []) 0 0) ≡ Some (k, length (x ∷ xs)) → mark x (get_or (xs ++ (c ∷ rest)) 0 0) ≡ Some (k, length (x ∷ xs))
mark_ends k x [] c rest stops e = mark_alone k x c stops e
mark_ends k x (y ∷ ys) c rest stops e = e

-- ---- all

no_slot : (k : TokenKind) (n : ℕ) → spelling (63 ∷ []) ≡ Some (k, n) → ⊥
no_slot k n e = cc

at_question : (k : TokenKind) (xs : List ℕ) (c : ℕ) (rest : List ℕ) → Spells k (63 ∷ xs) → runs_on_with k c ≡ false → slot (63 ∷ xs ++ []) ≡ Some (k, length (63 ∷ xs)) → slot (63 ∷ xs ++ (c ∷ rest)) ≡ Some (k, length (63 ∷ xs))
at_question k [] c rest s stops e = absurd (no_slot k _ (exact k (63 ∷ []) s))
at_question k (y ∷ ys) c rest s stops e = slot_ends k y ys c rest stops e

scan_from : (k : TokenKind) (text : List ℕ) (c : ℕ) (rest : List ℕ) → Spells k text → runs_on_with k c ≡ false → spelling (text ++ []) ≡ Some (k, length text) → spelling (text ++ (c ∷ rest)) ≡ Some (k, length text)
scan_from k [] c rest s stops e = absurd (omega (arith, spelling_some k [] s))
scan_from k (x ∷ xs) c rest s stops e = elim (pick (is_identifier_start x) _ _ _ e) [
  | inl (begins, f) ↦ rw begins (word_ends k (x ∷ xs) c rest stops f)
  | inr (w, e) ↦ elim (pick (is_ascii_digit x) _ _ _ e) [
    | inl (digit, f) ↦ cond-false (is_identifier_start x) _ _ w ∙ cond-true (is_ascii_digit x) _ _ digit ∙ number_ends k (x ∷ xs) c rest stops f
    | inr (n, e) ↦ elim (pick (x == 63) _ _ _ e) [
      | inl (question, f) ↦ rw (w, n, question)
          (subst (λ y. slot (y ∷ xs ++ (c ∷ rest)) ≡ Some (k, length (y ∷ xs))) (sym (eqb-true x 63 question))
          (at_question k xs c rest (subst (λ y. Spells k (y ∷ xs)) (eqb-true x 63 question) s) stops (subst (λ y. slot (y ∷ xs ++ []) ≡ Some (k, length (y ∷ xs))) (eqb-true x 63 question) f)))
      | inr (q, e) ↦ elim (pick (x == 34) _ _ _ e) [
        | inl (quote, f) ↦ rw (w, n, q, quote) (string_ends k x xs (c ∷ rest) (string_kind k _ _ f) s)
        | inr (o, f) ↦ rw (w, n, q, o) (mark_ends k x xs c rest stops f)
      ]
    ]
  ]
]

-- a spelling is what the scan finds before a byte with which its token doesn't go on
pub scan_touches : (k : TokenKind) (text : List ℕ) (c : ℕ) (rest : List ℕ) → Spells k text → runs_on_with k c ≡ false → spelling (text ++ (c ∷ rest)) ≡ Some (k, length text)
scan_touches k text c rest s stops = scan_from k text c rest s stops (ap spelling (append-nil text) ∙ exact k text s)
