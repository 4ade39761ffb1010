-- The scan finds the longest spelling that starts a text, and nothing where none does.
use Rattle.std.proofs.Common.{◌≡◌, ◌≢◌, ℕ, ◌+◌, true, List, [], ◌∷◌, ◌++◌, length, take, refl, sym, ap, ◌∙◌, subst, arith, inl, inr, Option, Some, None, append-nil}
use Rattle.std.specs.Prelude.{◌⊎◌}
use Rattle.std.specs.List.{AllPass, prefix_len}
use Rattle.std.specs.Char.{is_ascii_digit}
use Rattle.std.proofs.lemmas.Bool.{cases_Bool, cond-true, cond-false}
use Rattle.std.proofs.lemmas.List.{take_all}
use Rattle.std.proofs.lemmas.List.Elements.{All-cons}
use Rattle.std.proofs.lemmas.Slice.Eq.{bytes_eq-Decides}
use Rattle.cedar_lexer.specs.declared.token.TokenKind.{TokenKind}
use Rattle.cedar_lexer.specs.declared.token.TokenKind.TheVariants.{OtherSlot, Identifier, Number, StringLit}
use Rattle.cedar_lexer.specs.Spelling.{is_identifier_start, is_identifier_part, one_text, IsIdentifierText, IsNumber, IsSlot, IsStringText, IsStringTail, Spells}
use Rattle.cedar_lexer.specs.Cut.{IsSpelled}
use Rattle.cedar_lexer.specs.Scan.{spelling, KindAndLength, is_given_text, word, number, kind_with_text, words, slots, string_of, mark}
use Rattle.cedar_lexer.proofs.Bytes.{prefix_len-passed, prefix_len-all, begins_continues, digit_begins_none}
use Rattle.cedar_lexer.proofs.Strings.{closes}
use Rattle.cedar_lexer.proofs.Fixed.{FindsAtLeast, fixed, reaches_identifier, reaches_slot}
use Rattle.cedar_lexer.proofs.Marks.{found_same}

-- a kind that has just this text is spelled by it
pub spells_own : (kind : TokenKind) (text : List ℕ) → one_text kind ≡ Some text → Spells kind text
spells_own Identifier text e = absurd (cc)
spells_own OtherSlot text e = absurd (cc)
spells_own Number text e = absurd (cc)
spells_own StringLit text e = absurd (cc)
spells_own kind text e = e

given_text : (given : Option (List ℕ)) (text : List ℕ) → is_given_text given text ≡ true → given ≡ Some text
given_text None text e = absurd (cc)
given_text (Some given) text e = ap Some (sym ((bytes_eq-Decides text given).0 e))

-- one of the kinds has just this text and is the answer, or the answer is `other`
pub among : (kinds : List TokenKind) (text : List ℕ) (other : TokenKind) → (one_text (kind_with_text kinds text other) ≡ Some text) ⊎ (kind_with_text kinds text other ≡ other)
among [] text other = inr refl
among (k ∷ ks) text other = elim (cases_Bool (is_given_text (one_text k) text)) [
  | inl same ↦ rw same (inl (given_text (one_text k) text same))
  | inr apart ↦ rw apart (among ks text other)
]

-- ---- a text that is one spelling: the scan finds just that

word_exact : (text : List ℕ) (n : ℕ) → n ≡ length text →
    ◌≡◌ {A = Option KindAndLength} (Some (kind_with_text words (take n text) Identifier, n)) (Some (kind_with_text words text Identifier, length text))
word_exact text n e = rw (e, take_all (length text) text (omega arith)) refl

slot_exact : (text : List ℕ) (n : ℕ) → n ≡ length text →
    ◌≡◌ {A = Option KindAndLength} (Some (kind_with_text slots (take n text) OtherSlot, n)) (Some (kind_with_text slots text OtherSlot, length text))
slot_exact text n e = rw (e, take_all (length text) text (omega arith)) refl

all_continue : (b : ℕ) (bs : List ℕ) → is_identifier_start b ≡ true → AllPass is_identifier_part bs → AllPass is_identifier_part (b ∷ bs)
all_continue b bs begins rest = All-cons (λ x. is_identifier_part x ≡ true) b bs (begins_continues b begins) rest

pub identifier_scan : (text : List ℕ) → IsIdentifierText text → spelling text ≡ Some (kind_with_text words text Identifier, length text)
identifier_scan [] i = absurd i
identifier_scan (b ∷ bs) (begins, rest) =
    cond-true (is_identifier_start b) (word (b ∷ bs)) _ begins
    ∙ word_exact (b ∷ bs) (prefix_len is_identifier_part (b ∷ bs)) (prefix_len-all is_identifier_part (b ∷ bs) (all_continue b bs begins rest))

question_scan : (c : ℕ) (cs : List ℕ) → is_identifier_start c ≡ true → AllPass is_identifier_part cs → spelling (63 ∷ c ∷ cs) ≡ Some (kind_with_text slots (63 ∷ c ∷ cs) OtherSlot, length (63 ∷ c ∷ cs))
question_scan c cs begins rest =
    cond-true (is_identifier_start c) _ None begins
    ∙ slot_exact (63 ∷ c ∷ cs) (1 + prefix_len is_identifier_part (c ∷ cs)) (omega (arith, prefix_len-all is_identifier_part (c ∷ cs) (all_continue c cs begins rest)))

pub slot_scan : (text : List ℕ) → IsSlot text → spelling text ≡ Some (kind_with_text slots text OtherSlot, length text)
slot_scan [] i = absurd i
slot_scan (b ∷ []) i = absurd i.1
slot_scan (b ∷ c ∷ cs) (mark, (begins, rest)) =
    subst (λ x. spelling (x ∷ c ∷ cs) ≡ Some (kind_with_text slots (x ∷ c ∷ cs) OtherSlot, length (x ∷ c ∷ cs))) (sym mark) (question_scan c cs begins rest)

-- a number at the front of a text, and one alone
number_front : (b : ℕ) (bs : List ℕ) → is_ascii_digit b ≡ true → spelling (b ∷ bs) ≡ Some (Number, prefix_len is_ascii_digit (b ∷ bs))
number_front b bs digit = cond-false (is_identifier_start b) (word (b ∷ bs)) _ (digit_begins_none b digit) ∙ cond-true (is_ascii_digit b) (number (b ∷ bs)) _ digit

number_scan : (text : List ℕ) → IsNumber text → spelling text ≡ Some (Number, length text)
number_scan [] i = absurd i
number_scan (b ∷ bs) (digit, rest) =
    number_front b bs digit
    ∙ ap (λ n. Some (Number, n)) (prefix_len-all is_ascii_digit (b ∷ bs) (All-cons (λ x. is_ascii_digit x ≡ true) b bs digit rest))

-- a string at the front of a text
string_front : (bs after : List ℕ) → IsStringTail bs → spelling (34 ∷ bs ++ after) ≡ Some (StringLit, length (34 ∷ bs))
string_front bs after laid = ap string_of (closes after 1 laid ∙ ap Some (omega arith))

string_scan : (text : List ℕ) → IsStringText text → spelling text ≡ Some (StringLit, length text)
string_scan [] i = absurd i
string_scan (b ∷ bs) (quote, laid) =
    subst (λ x. spelling (x ∷ bs) ≡ Some (StringLit, length (x ∷ bs))) (sym quote)
    (ap (λ xs. spelling (34 ∷ xs)) (sym (append-nil bs)) ∙ string_front bs [] laid)

pub exact : (kind : TokenKind) (text : List ℕ) → Spells kind text → spelling text ≡ Some (kind, length text)
exact Identifier text (i, own) = elim (among words text Identifier) [
  | inl e ↦ absurd (own (kind_with_text words text Identifier, e))
  | inr same ↦ identifier_scan text i ∙ ap (λ k. Some (k, length text)) same
]
exact OtherSlot text (i, own) = elim (among slots text OtherSlot) [
  | inl e ↦ absurd (own (kind_with_text slots text OtherSlot, e))
  | inr same ↦ slot_scan text i ∙ ap (λ k. Some (k, length text)) same
]
exact Number text i = number_scan text i
exact StringLit text i = string_scan text i
exact kind text e = (fixed kind text e).exact

-- a text is spelled by one kind at most
pub one_kind : (j k : TokenKind) (text : List ℕ) → Spells j text → Spells k text → j ≡ k
one_kind j k text p q = (found_same j k (length text) (length text) (sym (exact j text p) ∙ exact k text q)).0

-- ---- a spelling at the front of a text: the scan finds it, or a longer one

reached : (kind : TokenKind) (text after : List ℕ) → Spells kind text → ((more : List ℕ) → text ++ after ≢ 47 ∷ 47 ∷ more) → FindsAtLeast (text ++ after) (length text)
reached Identifier text after s apart = reaches_identifier text after s.0
reached OtherSlot text after s apart = reaches_slot text after s.0
reached Number [] after s apart = absurd s
reached Number (b ∷ bs) after (digit, rest) apart = record {
  kind = Number;
  size = prefix_len is_ascii_digit (b ∷ bs ++ after);
  finds = number_front b (bs ++ after) digit;
  enough = prefix_len-passed is_ascii_digit (b ∷ bs) after (All-cons (λ x. is_ascii_digit x ≡ true) b bs digit rest);
}
reached StringLit [] after s apart = absurd s
reached StringLit (b ∷ bs) after (quote, laid) apart = subst (λ x. FindsAtLeast (x ∷ bs ++ after) (length (x ∷ bs))) (sym quote) record {
  kind = StringLit;
  size = length (34 ∷ bs);
  finds = string_front bs after laid;
  enough = omega arith;
}
reached kind text after e apart = (fixed kind text e).reaches after apart

pub reaches : (kind : TokenKind) (text after : List ℕ) → IsSpelled kind text after → FindsAtLeast (text ++ after) (length text)
reaches kind text after s = reached kind text after s.spells s.apart
