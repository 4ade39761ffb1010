-- The kinds with one text: the scan finds that text, and nothing shorter where it stands.
use Rattle.std.proofs.Common.{◌≡◌, ◌≢◌, ℕ, ◌+◌, ◌<◌, ◌≤◌, true, false, cond, List, [], ◌∷◌, ◌++◌, length, get_or, take, refl, sym, ap, ◌∙◌, subst, arith, inl, inr, Some}
use Rattle.std.specs.Prelude.{◌==◌, ◌⊎◌}
use Rattle.std.specs.List.{list_all, prefix_len}
use Rattle.std.specs.Char.{is_ascii}
use Rattle.std.specs.Str.{IsUtf8}
use Rattle.std.proofs.lemmas.Bool.{cases_Bool, eqb-true, ltb-true}
use Rattle.std.proofs.lemmas.List.Elements.{All-cons, All-weaker}
use Rattle.std.proofs.lemmas.List.Sums.{AllPass-from_list_all}
use Rattle.std.proofs.lemmas.Str.{IsUtf8-from_ascii}
use Rattle.std.proofs.lemmas.Str.Ascii.{IsAscii-from_all}
use Rattle.cedar_lexer.specs.declared.token.TokenKind.{TokenKind}
use Rattle.cedar_lexer.specs.declared.token.TokenKind.TheVariants.{True, False, If, Permit, Forbid, When, Unless, In, Has, Like, Is, Then, Else, Principal, Action, Resource, Context, PrincipalSlot, ResourceSlot, OtherSlot, Identifier, Number, StringLit, At, Dot, Comma, Semicolon, Colon, ColonColon, OpenParen, CloseParen, OpenBrace, CloseBrace, OpenBracket, CloseBracket, EqEq, NotEq, Less, LessEq, GreaterEq, Greater, Eq, OrOr, AndAnd, Plus, Minus, Star, Slash, Percent, Bang}
use Rattle.cedar_lexer.specs.Spelling.{is_identifier_start, is_identifier_part, one_text, IsIdentifierText, IsSlot}
use Rattle.cedar_lexer.specs.Scan.{spelling, kind_with_text, words, slots}
use Rattle.cedar_lexer.proofs.Bytes.{prefix_len-passed, begins_continues}

-- the scan finds a spelling of at least so many bytes
pub record FindsAtLeast (bs : List ℕ) (least : ℕ) : Type 0 where
  pub kind : TokenKind
  pub size : ℕ
  pub finds : spelling bs ≡ Some (kind, size)
  pub enough : least ≤ size

-- an identifier, and a slot, at the front of a text
pub reaches_identifier : (text after : List ℕ) → IsIdentifierText text → FindsAtLeast (text ++ after) (length text)
reaches_identifier [] after h = absurd h
reaches_identifier (b ∷ bs) after (begins, continues) = record {
  kind = kind_with_text words (take (prefix_len is_identifier_part (b ∷ bs ++ after)) (b ∷ bs ++ after)) Identifier;
  size = prefix_len is_identifier_part (b ∷ bs ++ after);
  finds = rw begins refl;
  enough = prefix_len-passed is_identifier_part (b ∷ bs) after (All-cons (λ x. is_identifier_part x ≡ true) b bs (begins_continues b begins) continues);
}

-- what the scan makes of the one text of a kind: alone, and with more behind it
pub record Fixed (kind : TokenKind) (text : List ℕ) : Type 0 where
  pub exact : spelling text ≡ Some (kind, length text)
  pub reaches : (after : List ℕ) → ((more : List ℕ) → text ++ after ≢ 47 ∷ 47 ∷ more) → FindsAtLeast (text ++ after) (length text)
  pub ascii : IsUtf8 text

some_same : {x y : List ℕ} → Some x ≡ Some y → x ≡ y
some_same e = cc

ascii_text : (text : List ℕ) → list_all is_ascii text ≡ true → IsUtf8 text
ascii_text text h = IsUtf8-from_ascii text (IsAscii-from_all text (All-weaker (λ b. is_ascii b ≡ true) (λ b. b < 128) (λ b t. ltb-true b 128 t) text (AllPass-from_list_all is_ascii text h)))

word : (kind : TokenKind) (b : ℕ) (bs text : List ℕ) → Some (b ∷ bs) ≡ Some text → is_identifier_start b ≡ true → list_all is_identifier_part bs ≡ true →
    list_all is_ascii (b ∷ bs) ≡ true → spelling (b ∷ bs) ≡ Some (kind, length (b ∷ bs)) → Fixed kind text
word kind b bs text e begins continues ascii exact = subst (Fixed kind) (some_same e) record {
  exact = exact;
  reaches = λ after apart. reaches_identifier (b ∷ bs) after (begins, AllPass-from_list_all is_identifier_part bs continues);
  ascii = ascii_text (b ∷ bs) ascii;
}

-- a slot: the byte `?` and an identifier
pub reaches_slot : (text after : List ℕ) → IsSlot text → FindsAtLeast (text ++ after) (length text)
reaches_slot [] after h = absurd h
reaches_slot (b ∷ []) after h = absurd h.1
reaches_slot (b ∷ c ∷ cs) after (mark, (begins, continues)) =
    subst (λ x. FindsAtLeast (x ∷ c ∷ cs ++ after) (length (x ∷ c ∷ cs))) (sym mark) record {
      kind = kind_with_text slots (take (1 + prefix_len is_identifier_part (c ∷ cs ++ after)) (63 ∷ c ∷ cs ++ after)) OtherSlot;
      size = 1 + prefix_len is_identifier_part (c ∷ cs ++ after);
      finds = rw begins refl;
      enough = omega (arith, prefix_len-passed is_identifier_part (c ∷ cs) after (All-cons (λ x. is_identifier_part x ≡ true) c cs (begins_continues c begins) continues));
    }

slot : (kind : TokenKind) (c : ℕ) (cs text : List ℕ) → Some (63 ∷ c ∷ cs) ≡ Some text → is_identifier_start c ≡ true → list_all is_identifier_part cs ≡ true →
    list_all is_ascii (63 ∷ c ∷ cs) ≡ true → spelling (63 ∷ c ∷ cs) ≡ Some (kind, length (63 ∷ c ∷ cs)) → Fixed kind text
slot kind c cs text e begins continues ascii exact = subst (Fixed kind) (some_same e) record {
  exact = exact;
  reaches = λ after apart. reaches_slot (63 ∷ c ∷ cs) after (refl, (begins, AllPass-from_list_all is_identifier_part cs continues));
  ascii = ascii_text (63 ∷ c ∷ cs) ascii;
}

-- a mark of one byte, with which nothing longer begins
single : (kind : TokenKind) (b : ℕ) (text : List ℕ) → Some (b ∷ []) ≡ Some text → list_all is_ascii (b ∷ []) ≡ true →
    ((after : List ℕ) → spelling (b ∷ after) ≡ Some (kind, 1)) → Fixed kind text
single kind b text e ascii finds = subst (Fixed kind) (some_same e) record {
  exact = finds [];
  reaches = λ after apart. record { kind = kind; size = 1; finds = finds after; enough = omega arith };
  ascii = ascii_text (b ∷ []) ascii;
}

-- a mark of two bytes
double : (kind : TokenKind) (b c : ℕ) (text : List ℕ) → Some (b ∷ c ∷ []) ≡ Some text → list_all is_ascii (b ∷ c ∷ []) ≡ true →
    ((after : List ℕ) → spelling (b ∷ c ∷ after) ≡ Some (kind, 2)) → Fixed kind text
double kind b c text e ascii finds = subst (Fixed kind) (some_same e) record {
  exact = finds [];
  reaches = λ after apart. record { kind = kind; size = 2; finds = finds after; enough = omega arith };
  ascii = ascii_text (b ∷ c ∷ []) ascii;
}

-- a mark of one byte, with which a mark of two begins
shorter : (kind longer : TokenKind) (b c : ℕ) (text : List ℕ) → Some (b ∷ []) ≡ Some text → list_all is_ascii (b ∷ []) ≡ true →
    spelling (b ∷ []) ≡ Some (kind, 1) → ((after : List ℕ) → spelling (b ∷ after) ≡ cond (get_or after 0 0 == c) (Some (longer, 2)) (Some (kind, 1))) → Fixed kind text
shorter kind longer b c text e ascii exact finds = subst (Fixed kind) (some_same e) record {
  exact = exact;
  reaches = λ after apart. at_least after (cases_Bool (get_or after 0 0 == c));
  ascii = ascii_text (b ∷ []) ascii;
}
  where
    at_least : (after : List ℕ) → ((get_or after 0 0 == c) ≡ true) ⊎ ((get_or after 0 0 == c) ≡ false) → FindsAtLeast (b ∷ after) 1
    at_least after (inl same) = record { kind = longer; size = 2; finds = finds after ∙ rw same refl; enough = omega arith }
    at_least after (inr other) = record { kind = kind; size = 1; finds = finds after ∙ rw other refl; enough = omega arith }

-- the slash, straight behind which no other stands
slash : (text : List ℕ) → Some (47 ∷ []) ≡ Some text → Fixed Slash text
slash text e = subst (Fixed Slash) (some_same e) record {
  exact = refl;
  reaches = at_least;
  ascii = ascii_text (47 ∷ []) refl;
}
  where
    at_least : (after : List ℕ) → ((more : List ℕ) → 47 ∷ after ≢ 47 ∷ 47 ∷ more) → FindsAtLeast (47 ∷ after) 1
    at_least [] apart = record { kind = Slash; size = 1; finds = refl; enough = omega arith }
    at_least (b ∷ bs) apart = elim (cases_Bool (b == 47)) [
      | inl same ↦ absurd (apart bs (ap (λ x. 47 ∷ x ∷ bs) (eqb-true b 47 same)))
      | inr other ↦ record { kind = Slash; size = 1; finds = rw other refl; enough = omega arith }
    ]

pub fixed : (kind : TokenKind) (text : List ℕ) → one_text kind ≡ Some text → Fixed kind text
fixed True text e = word True _ _ text e refl refl refl refl
fixed False text e = word False _ _ text e refl refl refl refl
fixed If text e = word If _ _ text e refl refl refl refl
fixed Permit text e = word Permit _ _ text e refl refl refl refl
fixed Forbid text e = word Forbid _ _ text e refl refl refl refl
fixed When text e = word When _ _ text e refl refl refl refl
fixed Unless text e = word Unless _ _ text e refl refl refl refl
fixed In text e = word In _ _ text e refl refl refl refl
fixed Has text e = word Has _ _ text e refl refl refl refl
fixed Like text e = word Like _ _ text e refl refl refl refl
fixed Is text e = word Is _ _ text e refl refl refl refl
fixed Then text e = word Then _ _ text e refl refl refl refl
fixed Else text e = word Else _ _ text e refl refl refl refl
fixed Principal text e = word Principal _ _ text e refl refl refl refl
fixed Action text e = word Action _ _ text e refl refl refl refl
fixed Resource text e = word Resource _ _ text e refl refl refl refl
fixed Context text e = word Context _ _ text e refl refl refl refl
fixed PrincipalSlot text e = slot PrincipalSlot _ _ text e refl refl refl refl
fixed ResourceSlot text e = slot ResourceSlot _ _ text e refl refl refl refl
fixed OtherSlot text e = absurd (cc)
fixed Identifier text e = absurd (cc)
fixed Number text e = absurd (cc)
fixed StringLit text e = absurd (cc)
fixed At text e = single At _ text e refl (λ after. refl)
fixed Dot text e = single Dot _ text e refl (λ after. refl)
fixed Comma text e = single Comma _ text e refl (λ after. refl)
fixed Semicolon text e = single Semicolon _ text e refl (λ after. refl)
fixed Colon text e = shorter Colon ColonColon _ 58 text e refl refl (λ after. refl)
fixed ColonColon text e = double ColonColon _ _ text e refl (λ after. refl)
fixed OpenParen text e = single OpenParen _ text e refl (λ after. refl)
fixed CloseParen text e = single CloseParen _ text e refl (λ after. refl)
fixed OpenBrace text e = single OpenBrace _ text e refl (λ after. refl)
fixed CloseBrace text e = single CloseBrace _ text e refl (λ after. refl)
fixed OpenBracket text e = single OpenBracket _ text e refl (λ after. refl)
fixed CloseBracket text e = single CloseBracket _ text e refl (λ after. refl)
fixed EqEq text e = double EqEq _ _ text e refl (λ after. refl)
fixed NotEq text e = double NotEq _ _ text e refl (λ after. refl)
fixed Less text e = shorter Less LessEq _ 61 text e refl refl (λ after. refl)
fixed LessEq text e = double LessEq _ _ text e refl (λ after. refl)
fixed GreaterEq text e = double GreaterEq _ _ text e refl (λ after. refl)
fixed Greater text e = shorter Greater GreaterEq _ 61 text e refl refl (λ after. refl)
fixed Eq text e = shorter Eq EqEq _ 61 text e refl refl (λ after. refl)
fixed OrOr text e = double OrOr _ _ text e refl (λ after. refl)
fixed AndAnd text e = double AndAnd _ _ text e refl (λ after. refl)
fixed Plus text e = single Plus _ text e refl (λ after. refl)
fixed Minus text e = single Minus _ text e refl (λ after. refl)
fixed Star text e = single Star _ text e refl (λ after. refl)
fixed Slash text e = slash text e
fixed Percent text e = single Percent _ text e refl (λ after. refl)
fixed Bang text e = shorter Bang NotEq _ 61 text e refl refl (λ after. refl)
