-- An operand that is a number and no more, and one that is none.
use Rattle.std.proofs.Common.{◌≡◌, ℕ, List, [], ◌∷◌, ◌++◌, append-nil, Option, Some, None, refl, sym, ap, ◌∙◌}
use Rattle.cedar_lexer.specs.Token.{Lexeme}
use Rattle.cedar_lexer.specs.declared.token.TokenKind.{TokenKind}
use Rattle.cedar_lexer.specs.declared.token.TokenKind.TheVariants as kind
use Rattle.cedar_syntax.specs.declared.loc.Loc.{Loc}
use Rattle.cedar_syntax.specs.declared.cst.Ident.{Ident}
use Rattle.cedar_syntax.specs.declared.cst.Literal.{Literal}
use Rattle.cedar_syntax.specs.declared.cst.Member.{Member}
use Rattle.cedar_syntax.specs.declared.cst.MemAccess.{MemAccess}
use Rattle.cedar_syntax.specs.declared.cst.Name.{Name}
use Rattle.cedar_syntax.specs.declared.cst.Primary.{Primary}
use Rattle.cedar_syntax.specs.declared.cst.Ref.{Ref}
use Rattle.cedar_syntax.specs.declared.cst.Slot.{Slot}
use Rattle.cedar_syntax.specs.trees.Forms.{member_form, primary_form}
use Rattle.cedar_syntax.specs.trees.Located.{at}
use Rattle.cedar_grammar.specs.grammar.Place.{placed}
use Rattle.cedar_grammar.specs.grammar.LooseExpressions as l
use Rattle.cedar_grammar.specs.grammar.LooseExpressions.{ReadsSlot, ReadsMember, ReadsPrimary, ReadsAccesses, ReadsAccess}
use Rattle.cedar_grammar.specs.grammar.LooseWords as lw
use Rattle.cedar_grammar.specs.grammar.LooseWords.{ReadsAny, ReadsLiteral, ReadsName, ReadsRef}
use Rattle.cedar_syntax.specs.tokens.Tokens.{Spot, one, number_of, any_of}
use Rattle.cedar_syntax.specs.trees.Trees.{Cell, member_of}
use Rattle.cedar_conversion.specs.outcome.Conversion.{number_in, lone_literal, literal_alone}
use Rattle.cedar_conversion.specs.strict.Strict.{IsNumeral}
use Rattle.cedar_policy_parser.proofs.Made.{lone_member, lone_accessed, lone_literally, lone_named, lone_slot, lone_referred, lone_paren, lone_set, lone_braces}
use Rattle.cedar_policy_parser.proofs.sound.Leaves.{path_head}

-- what a bare number says of the operand's tokens
abbrev pub IsBareAs : Option ℕ → List Lexeme → Type 0
IsBareAs (Some k) us = (p : Spot) × (us ≡ one kind.Number p) × (number_of p.text ≡ k)
IsBareAs None us = IsNumeral us → ⊥

-- tokens that begin by one
abbrev Begun : List Lexeme → Type 0
Begun ts = (t : Lexeme) × (rest : List Lexeme) × (ts ≡ t ∷ rest)

-- ---- two tokens are no number

two_apart : (t : Lexeme) (rest vs : List Lexeme) (u : Lexeme) (more : List Lexeme) → IsNumeral ((t ∷ rest) ++ (vs ++ (u ∷ more))) → ⊥
two_apart t [] [] u more h = h
two_apart t [] (w ∷ vs) u more h = h
two_apart t (w ∷ rest) vs u more h = h

apart : (ts vs us : List Lexeme) → Begun ts → Begun us → IsNumeral (ts ++ (vs ++ us)) → ⊥
apart ts vs us b d h = two_apart b.0 b.1 vs d.0 d.1 (rw (b.2, d.2) at h)

two_beside : (t : Lexeme) (rest : List Lexeme) (u : Lexeme) (more vs : List Lexeme) → IsNumeral ((t ∷ rest) ++ (u ∷ more) ++ vs) → ⊥
two_beside t [] u more vs h = h
two_beside t (w ∷ rest) u more vs h = h

beside_path : (ts : List Lexeme) (p : Spot) (vs : List Lexeme) → Begun ts → IsNumeral (ts ++ one kind.ColonColon p ++ vs) → ⊥
beside_path ts p vs b h = two_beside b.0 b.1 record { kind = kind.ColonColon; start = p.start; end = p.end; text = p.text } [] vs (rw b.2 at h)

three_beside : (t : Lexeme) (rest : List Lexeme) (u : Lexeme) (vs ws xs : List Lexeme) → IsNumeral ((t ∷ rest) ++ (u ∷ []) ++ vs ++ ws ++ xs) → ⊥
three_beside t [] u vs ws xs h = h
three_beside t (w ∷ rest) u vs ws xs h = h

beside_braces : (ts : List Lexeme) (p : Spot) (vs ws xs : List Lexeme) → Begun ts → IsNumeral (ts ++ one kind.ColonColon p ++ vs ++ ws ++ xs) → ⊥
beside_braces ts p vs ws xs b h = three_beside b.0 b.1 record { kind = kind.ColonColon; start = p.start; end = p.end; text = p.text } vs ws xs (rw b.2 at h)

-- ---- what begins an operand and an access

begun_by : (ts us : List Lexeme) → Begun ts → Begun (ts ++ us)
begun_by ts us b = (b.0, b.1 ++ us, ap (λ xs. xs ++ us) b.2)

name_begun : {src : List ℕ} {ts : List Lexeme} {x : Name} → ReadsName src ts x → Begun ts
name_begun (lw.common (lw.any p h) fine) = (_, [], refl)
name_begun (lw.qualified {ts = ts} {us = us} p r s) = begun_by (ts ++ one kind.ColonColon p) us (begun_by ts (one kind.ColonColon p) (path_head r))

ref_begun : {src : List ℕ} {ts : List Lexeme} {x : Ref} → ReadsRef src ts x → Begun ts
ref_begun (lw.uid {ts = ts} p q r) = begun_by (ts ++ one kind.ColonColon p) (one kind.StringLit q) (begun_by ts (one kind.ColonColon p) (path_head r))
ref_begun (lw.with_inits {ts = ts} {us = us} p a b r s) = begun_by (ts ++ one kind.ColonColon p ++ one kind.OpenBrace a ++ us) (one kind.CloseBrace b) (begun_by (ts ++ one kind.ColonColon p ++ one kind.OpenBrace a) us
    (begun_by (ts ++ one kind.ColonColon p) (one kind.OpenBrace a) (begun_by ts (one kind.ColonColon p) (path_head r))))

literal_begun : {src : List ℕ} {ts : List Lexeme} {x : Literal} → ReadsLiteral src ts x → Begun ts
literal_begun (lw.truth p) = (_, [], refl)
literal_begun (lw.falsity p) = (_, [], refl)
literal_begun (lw.number p fits) = (_, [], refl)
literal_begun (lw.string p) = (_, [], refl)

primary_begun : {src : List ℕ} {ts : List Lexeme} {x : Primary} → ReadsPrimary src ts x → Begun ts
primary_begun (l.literally r) = literal_begun r
primary_begun (l.referred r) = ref_begun r
primary_begun (l.named r) = name_begun r
primary_begun (l.slotted p r) = (_, [], refl)
primary_begun (l.paren a b r) = (_, _, refl)
primary_begun (l.set a b r) = (_, _, refl)
primary_begun (l.in_braces a b r) = (_, _, refl)

access_begun : {src : List ℕ} {ts : List Lexeme} {x : MemAccess} → ReadsAccess src ts x → Begun ts
access_begun (l.field p r) = (_, _, refl)
access_begun (l.call a b r) = (_, _, refl)
access_begun (l.index a b r) = (_, _, refl)

-- ---- a number alone

none_is : (o : Option Literal) (k : ℕ) → o ≡ None → number_in o ≡ Some k → ⊥
none_is None k e h = cc
none_is (Some x) k e h = cc

literal_number : {src : List ℕ} {ts : List Lexeme} {x : Literal} (k : ℕ) → ReadsLiteral src ts x → number_in (Some x) ≡ Some k → IsBareAs (Some k) ts
literal_number k (lw.truth p) h = cc
literal_number k (lw.falsity p) h = cc
literal_number k (lw.number p fits) h = (p, refl, cc)
literal_number k (lw.string p) h = cc

primary_number : {src : List ℕ} {ts : List Lexeme} {x : Primary} (place : Option Loc) (k : ℕ) → ReadsPrimary src ts x → number_in (literal_alone (at place (primary_form x))) ≡ Some k → IsBareAs (Some k) ts
primary_number {src = src} place k (l.literally {ts = ts} {x = x} r) h = literal_number k r (sym (ap number_in (lone_literally place (placed src ts x))) ∙ h)
primary_number {src = src} place k (l.referred {ts = ts} {x = x} r) h = absurd (none_is _ k (lone_referred place (placed src ts x)) h)
primary_number {src = src} place k (l.named {ts = ts} {x = x} r) h = absurd (none_is _ k (lone_named place (placed src ts x)) h)
primary_number {src = src} place k (l.slotted {k = t} {x = x} p r) h = absurd (none_is _ k (lone_slot place (placed src (one t p) x)) h)
primary_number {src = src} place k (l.paren {ts = ts} {x = x} a b r) h = absurd (none_is _ k (lone_paren place (placed src ts x)) h)
primary_number place k (l.set {xs = xs} a b r) h = absurd (none_is _ k (lone_set place xs) h)
primary_number place k (l.in_braces {xs = xs} a b r) h = absurd (none_is _ k (lone_braces place xs) h)

accessed : (place : Option Loc) (x : Cell Primary) (xs : List (Cell MemAccess)) (y : Cell MemAccess) → lone_literal (at place (member_form (member_of x (xs ++ y ∷ [])))) ≡ None
accessed place x [] y = lone_accessed place x y []
accessed place x (z ∷ xs) y = lone_accessed place x z (xs ++ y ∷ [])

bare_at : (k : ℕ) (ts us : List Lexeme) → ts ≡ us → IsBareAs (Some k) ts → IsBareAs (Some k) us
bare_at k ts us h b = (b.0, sym h ∙ b.1, b.2)

number_read : {src : List ℕ} {ts : List Lexeme} {x : Member} (place : Option Loc) (k : ℕ) → ReadsMember src ts x → number_in (lone_literal (at place (member_form x))) ≡ Some k → IsBareAs (Some k) ts
number_read {src = src} place k (l.member {ts = ts} {x = x} r l.no_access) h =
    bare_at k ts (ts ++ []) (sym (append-nil ts)) (primary_number (placed src ts x).loc k r (sym (ap number_in (lone_member place (placed src ts x))) ∙ h))
number_read {src = src} place k (l.member {ts = ts} {x = x} r (l.more_access {us = us} {xs = xs} {x = y} s t)) h = absurd (none_is _ k (accessed place (placed src ts x) xs (placed src us y)) h)

-- ---- no number

numeral_head : (t : Lexeme) (ts : List Lexeme) → IsNumeral (t ∷ ts) → t.kind ≡ kind.Number
numeral_head t [] h = h
numeral_head t (u ∷ ts) h = absurd h

literal_none : {src : List ℕ} {ts : List Lexeme} {x : Literal} → ReadsLiteral src ts x → number_in (Some x) ≡ None → IsNumeral ts → ⊥
literal_none (lw.truth p) e h = cc
literal_none (lw.falsity p) e h = cc
literal_none (lw.number p fits) e h = cc
literal_none (lw.string p) e h = cc

number_word : (text : List ℕ) (i : Ident) → any_of kind.Number text ≡ Some i → ⊥
number_word text i h = cc

name_none : {src : List ℕ} {ts : List Lexeme} {x : Name} → ReadsName src ts x → IsNumeral ts → ⊥
name_none (lw.common (lw.any {i = i} p g) fine) h = number_word p.text i (rw h at g)
name_none (lw.qualified {ts = ts} {us = us} p r s) h = beside_path ts p us (path_head r) h

ref_none : {src : List ℕ} {ts : List Lexeme} {x : Ref} → ReadsRef src ts x → IsNumeral ts → ⊥
ref_none (lw.uid {ts = ts} p q r) h = beside_path ts p (one kind.StringLit q) (path_head r) h
ref_none (lw.with_inits {ts = ts} {us = us} p a b r s) h = beside_braces ts p (one kind.OpenBrace a) us (one kind.CloseBrace b) (path_head r) h

slot_none : {k : TokenKind} {text : List ℕ} {x : Slot} → ReadsSlot k text x → k ≡ kind.Number → ⊥
slot_none l.principal_slot h = cc
slot_none l.resource_slot h = cc
slot_none l.other_slot h = cc

bracket_none : (k : TokenKind) (p : Spot) (ts us : List Lexeme) → (k ≡ kind.Number → ⊥) → IsNumeral (one k p ++ ts ++ us) → ⊥
bracket_none k p ts us other h = other (numeral_head record { kind = k; start = p.start; end = p.end; text = p.text } (ts ++ us) h)

primary_none : {src : List ℕ} {ts : List Lexeme} {x : Primary} (place : Option Loc) → ReadsPrimary src ts x → number_in (literal_alone (at place (primary_form x))) ≡ None → IsNumeral ts → ⊥
primary_none {src = src} place (l.literally {ts = ts} {x = x} r) e h = literal_none r (sym (ap number_in (lone_literally place (placed src ts x))) ∙ e) h
primary_none place (l.referred r) e h = ref_none r h
primary_none place (l.named r) e h = name_none r h
primary_none place (l.slotted p r) e h = slot_none r h
primary_none place (l.paren {ts = ts} a b r) e h = bracket_none kind.OpenParen a ts (one kind.CloseParen b) (λ f. cc) h
primary_none place (l.set {ts = ts} a b r) e h = bracket_none kind.OpenBracket a ts (one kind.CloseBracket b) (λ f. cc) h
primary_none place (l.in_braces {ts = ts} a b r) e h = bracket_none kind.OpenBrace a ts (one kind.CloseBrace b) (λ f. cc) h

numeral_at : (ts us : List Lexeme) → ts ≡ us → IsNumeral ts → IsNumeral us
numeral_at ts us h i = rw (← h) i

no_numeral : {src : List ℕ} {ts : List Lexeme} {x : Member} (place : Option Loc) → ReadsMember src ts x → number_in (lone_literal (at place (member_form x))) ≡ None → IsNumeral ts → ⊥
no_numeral {src = src} place (l.member {ts = ts} {x = x} r l.no_access) e h =
    primary_none (placed src ts x).loc r (sym (ap number_in (lone_member place (placed src ts x))) ∙ e) (numeral_at (ts ++ []) ts (append-nil ts) h)
no_numeral place (l.member {ts = ts} r (l.more_access {ts = vs} {us = us} s t)) e h = apart ts vs us (primary_begun r) (access_begun t) h

-- what stands behind signs: a number alone, or not
pub bare_as : {src : List ℕ} {us : List Lexeme} {x : Member} (place : Option Loc) (bare : Option ℕ) → ReadsMember src us x → number_in (lone_literal (at place (member_form x))) ≡ bare → IsBareAs bare us
bare_as place (Some k) r h = number_read place k r h
bare_as place None r h = no_numeral place r h
