-- What the scan makes of a mark or an operator is one.
use Rattle.std.proofs.Common.{◌≡◌, ◌≢◌, ℕ, ◌<◌, Bool, true, false, cond, [], ◌∷◌, refl, sym, ap, ◌∙◌, subst, arith, ap₂, lit<, inl, inr, Option, Some, None, nat_lt}
use Rattle.std.specs.Prelude.{◌==◌, ◌&&◌, ◌⊎◌, not}
use Rattle.std.proofs.lemmas.Bool.{eqb-true, eqb-false, ltb-true, and_parts, not-true}
use Rattle.cedar_lexer.specs.declared.token.TokenKind.{TokenKind}
use Rattle.cedar_lexer.specs.declared.token.TokenKind.TheVariants.{At, Dot, Comma, Semicolon, Colon, ColonColon, OpenParen, CloseParen, OpenBrace, CloseBrace, OpenBracket, CloseBracket, EqEq, NotEq, Less, LessEq, GreaterEq, Greater, Eq, OrOr, AndAnd, Plus, Minus, Star, Slash, Percent, Bang}
use Rattle.cedar_lexer.specs.Spelling.{one_text}
use Rattle.cedar_lexer.specs.Scan.{mark, KindAndLength, one_byte_long, two_bytes_long}

-- the first byte is a visible one; the mark has this byte alone, or the next one too
pub data IsMark (b c : ℕ) (kind : TokenKind) (n : ℕ) : Type 0 where
  lone : (32 < b) × (b < 127) → one_text kind ≡ Some (b ∷ []) → n ≡ 1 → (b ≡ 47 → c ≢ 47) → IsMark b c kind n
  pair : (32 < b) × (b < 127) → one_text kind ≡ Some (b ∷ c ∷ []) → n ≡ 2 → 0 < c → b ≢ 47 → IsMark b c kind n

-- the same find has the same kind and size
pub found_same : (k j : TokenKind) (m n : ℕ) → ◌≡◌ {A = Option KindAndLength} (Some (k, m)) (Some (j, n)) → (k ≡ j) × (n ≡ m)
found_same k j m n e =
    let pairs : ◌≡◌ {A = KindAndLength} (k, m) (j, n) = cc in
    (ap (λ (p : KindAndLength). p.0) pairs, sym (ap (λ (p : KindAndLength). p.1) pairs))

-- a choice that gave z
pub pick : {X : Type 0} (c : Bool) (x y z : X) → cond c x y ≡ z → ((c ≡ true) × (x ≡ z)) ⊎ ((c ≡ false) × (y ≡ z))
pick true x y z e = inl (refl, e)
pick false x y z e = inr (refl, e)

abbrev pub is_visible : ℕ → Bool
is_visible x = (nat_lt 32 x && nat_lt x 127) && not (x == 47)

seen : (x : ℕ) → is_visible x ≡ true → (32 < x) × (x < 127) × (x ≢ 47)
seen x v =
    let h = and_parts _ _ v in
    let g = and_parts _ _ h.0 in
    (ltb-true 32 x g.0, ltb-true x 127 g.1, eqb-false x 47 (not-true _ h.1))

lone_row : (b c x : ℕ) (own kind : TokenKind) (n : ℕ) → b ≡ x → is_visible x ≡ true → one_text own ≡ Some (x ∷ []) → one_byte_long own ≡ Some (kind, n) → IsMark b c kind n
lone_row b c x own kind n is v text e =
    let h = seen x v in
    let same = found_same own kind 1 n e in
    lone (omega (arith, h.0, h.1)) (subst (λ k. one_text k ≡ Some (b ∷ [])) same.0 (text ∙ ap (λ y. Some (y ∷ [])) (sym is))) same.1 (λ at47. absurd (h.2 (sym is ∙ at47)))

pair_row : (b c x y : ℕ) (own kind : TokenKind) (n : ℕ) → b ≡ x → c ≡ y → is_visible x ≡ true → 0 < y → one_text own ≡ Some (x ∷ y ∷ []) → two_bytes_long own ≡ Some (kind, n) → IsMark b c kind n
pair_row b c x y own kind n is next v some text e =
    let h = seen x v in
    let same = found_same own kind 2 n e in
    pair (omega (arith, h.0, h.1)) (subst (λ k. one_text k ≡ Some (b ∷ c ∷ [])) same.0 (text ∙ ap₂ (λ (p q : ℕ). Some (p ∷ q ∷ [])) (sym is) (sym next))) same.1 (omega arith) (λ at47. h.2 (sym is ∙ at47))

-- a row of the table: a mark of one byte; one that may have a second; one that must; the slash
at_single : (b c x : ℕ) (own kind : TokenKind) (n : ℕ) (rest : Option KindAndLength) → is_visible x ≡ true → one_text own ≡ Some (x ∷ []) →
    cond (b == x) (one_byte_long own) rest ≡ Some (kind, n) → (rest ≡ Some (kind, n) → IsMark b c kind n) → IsMark b c kind n
at_single b c x own kind n rest v text e more = elim (pick (b == x) _ _ _ e) [
  | inl (is, found) ↦ lone_row b c x own kind n (eqb-true b x is) v text found
  | inr (apart, found) ↦ more found
]

at_either : (b c x y : ℕ) (longer own kind : TokenKind) (n : ℕ) (rest : Option KindAndLength) → is_visible x ≡ true → 0 < y → one_text longer ≡ Some (x ∷ y ∷ []) → one_text own ≡ Some (x ∷ []) →
    cond (b == x) (cond (c == y) (two_bytes_long longer) (one_byte_long own)) rest ≡ Some (kind, n) → (rest ≡ Some (kind, n) → IsMark b c kind n) → IsMark b c kind n
at_either b c x y longer own kind n rest v some long_text text e more = elim (pick (b == x) _ _ _ e) [
  | inl (is, found) ↦ elim (pick (c == y) _ _ _ found) [
    | inl (next, g) ↦ pair_row b c x y longer kind n (eqb-true b x is) (eqb-true c y next) v some long_text g
    | inr (apart, g) ↦ lone_row b c x own kind n (eqb-true b x is) v text g
  ]
  | inr (apart, found) ↦ more found
]

at_pair : (b c x y : ℕ) (longer kind : TokenKind) (n : ℕ) (rest : Option KindAndLength) → is_visible x ≡ true → 0 < y → one_text longer ≡ Some (x ∷ y ∷ []) →
    cond (b == x) (cond (c == y) (two_bytes_long longer) None) rest ≡ Some (kind, n) → (rest ≡ Some (kind, n) → IsMark b c kind n) → IsMark b c kind n
at_pair b c x y longer kind n rest v some long_text e more = elim (pick (b == x) _ _ _ e) [
  | inl (is, found) ↦ elim (pick (c == y) _ _ _ found) [
    | inl (next, g) ↦ pair_row b c x y longer kind n (eqb-true b x is) (eqb-true c y next) v some long_text g
    | inr (apart, g) ↦ absurd (cc)
  ]
  | inr (apart, found) ↦ more found
]

at_slash : (b c : ℕ) (kind : TokenKind) (n : ℕ) → cond (b == 47) (cond (c == 47) None (one_byte_long Slash)) None ≡ Some (kind, n) → IsMark b c kind n
at_slash b c kind n e = elim (pick (b == 47) _ _ _ e) [
  | inl (is, found) ↦ elim (pick (c == 47) _ _ _ found) [
    | inl (next, g) ↦ absurd (cc)
    | inr (apart, g) ↦
        let at47 : b ≡ 47 = eqb-true b 47 is in
        let same = found_same Slash kind 1 n g in
        lone (omega arith) (subst (λ k. one_text k ≡ Some (b ∷ [])) same.0 (ap (λ y. Some (y ∷ [])) (sym at47))) same.1 (λ h. eqb-false c 47 apart)
  ]
  | inr (apart, found) ↦ absurd (cc)
]

pub marked : (b c : ℕ) (kind : TokenKind) (n : ℕ) → mark b c ≡ Some (kind, n) → IsMark b c kind n
marked b c kind n e =
    at_single b c 64 At kind n _ refl refl e (λ e1.
    at_single b c 46 Dot kind n _ refl refl e1 (λ e2.
    at_single b c 44 Comma kind n _ refl refl e2 (λ e3.
    at_single b c 59 Semicolon kind n _ refl refl e3 (λ e4.
    at_single b c 40 OpenParen kind n _ refl refl e4 (λ e5.
    at_single b c 41 CloseParen kind n _ refl refl e5 (λ e6.
    at_single b c 123 OpenBrace kind n _ refl refl e6 (λ e7.
    at_single b c 125 CloseBrace kind n _ refl refl e7 (λ e8.
    at_single b c 91 OpenBracket kind n _ refl refl e8 (λ e9.
    at_single b c 93 CloseBracket kind n _ refl refl e9 (λ e10.
    at_single b c 43 Plus kind n _ refl refl e10 (λ e11.
    at_single b c 45 Minus kind n _ refl refl e11 (λ e12.
    at_single b c 42 Star kind n _ refl refl e12 (λ e13.
    at_single b c 37 Percent kind n _ refl refl e13 (λ e14.
    at_either b c 58 58 ColonColon Colon kind n _ refl (lit< tt) refl refl e14 (λ e15.
    at_either b c 61 61 EqEq Eq kind n _ refl (lit< tt) refl refl e15 (λ e16.
    at_either b c 33 61 NotEq Bang kind n _ refl (lit< tt) refl refl e16 (λ e17.
    at_either b c 60 61 LessEq Less kind n _ refl (lit< tt) refl refl e17 (λ e18.
    at_either b c 62 61 GreaterEq Greater kind n _ refl (lit< tt) refl refl e18 (λ e19.
    at_pair b c 124 124 OrOr kind n _ refl (lit< tt) refl e19 (λ e20.
    at_pair b c 38 38 AndAnd kind n _ refl (lit< tt) refl e20 (λ e21.
    at_slash b c kind n e21)))))))))))))))))))))
