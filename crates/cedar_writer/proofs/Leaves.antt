-- Identifiers, names, strings and numbers are read as what was written.
use Rattle.std.proofs.Common.{rules, None, neg_ℤ, ◌≡◌, ℕ, ◌<◌, ◌^◌, suc, true, false, List, [], ◌∷◌, ◌++◌, refl, sym, ap, ◌∙◌, subst, codes, arith, append_assoc, append-nil, pos, negsuc}
use Rattle.std.specs.Str.{IsUtf8, bytes_eq}
use Rattle.std.specs.Fmt.{decimal}
use Rattle.std.proofs.lemmas.Fmt.{decimal_is_IsNumeral}
use Rattle.std.proofs.lemmas.Bool.{cond_both}
use Rattle.std.proofs.lemmas.Slice.Eq.{bytes_eq-Decides}
use Rattle.cedar_lexer.specs.declared.token.TokenKind.{TokenKind}
use Rattle.cedar_lexer.specs.declared.token.TokenKind.TheVariants as kind
use Rattle.cedar_lexer.specs.Token.{Lexeme}
use Rattle.cedar_lexer.specs.Words.{TokenText, words_of}
use Rattle.cedar_expressions.specs.declared.entity.EntityUID.{EntityUID}
use Rattle.cedar_expressions.specs.declared.atoms.PatternElem.{PatternElem}
use Rattle.cedar_expressions.specs.declared.atoms.Literal.{Literal}
use Rattle.cedar_expressions.specs.declared.atoms.Literal.TheVariants as literals
use Rattle.cedar_expressions.specs.declared.atoms.Var.{Var}
use Rattle.cedar_expressions.specs.declared.atoms.Var.TheVariants as vars
use Rattle.cedar_expressions.specs.declared.atoms.SlotId.{SlotId}
use Rattle.cedar_expressions.specs.declared.atoms.SlotId.TheVariants as slots
use Rattle.cedar_expressions.specs.declared.place.Slot.{Slot}
use Rattle.cedar_expressions.specs.WithoutPlaces.{without_places}
use Rattle.cedar_expressions.specs.Path.{Path, is_unreserved_identifier}
use Rattle.cedar_expressions.specs.Value as v
use Rattle.cedar_expressions.specs.Value.{Value}
use Rattle.cedar_syntax.specs.strings.Piece.{IsUnescaped}
use Rattle.cedar_syntax.specs.strings.Pattern.{IsPattern}
use Rattle.cedar_syntax.specs.tokens.Signs.{one_sign}
use Rattle.cedar_syntax.specs.tokens.Tokens.{Spot, one, number_of, between_quotes}
use Rattle.cedar_conversion.specs.strict.Extensions.{Extensions}
use Rattle.cedar_conversion.specs.strict.Strict as s
use Rattle.cedar_conversion.specs.strict.Strict.{Means, slot_there}
use Rattle.cedar_conversion.specs.strict.StrictWords as w
use Rattle.cedar_conversion.specs.strict.StrictWords.{IsVariable, IsVariableWord, IsIdentifier, IsName, IsText, IsSought, IsKey, IsEntity, AreAttributes}
use Rattle.cedar_expressions.specs.Escapes.{escaped_text, escaped_pattern, quoted}
use Rattle.cedar_writer.specs.WrittenWords.{word_kinds, kind_in, identifier_words, marked_words, colons, dot, path_words, name_words, text_words, entity_words, key_words, sought_words}
use Rattle.cedar_writer.specs.Writing.{literal_words, literal_sort, var_words, slot_words, is_variable_kind, is_variable_words}
use Rattle.cedar_writer.specs.Writable.{AreIdentifiers, IsWritableName, IsWritableLiteral, SignFits, IsWritablePattern, IsWritableSought}
use Rattle.cedar_writer.proofs.Apart.{Read, token, beside, put}
use Rattle.cedar_writer.proofs.Levels.{M, mean, exactly}
use Rattle.cedar_writer.proofs.Escaping.{text_stands, pattern_stands}

-- ---- identifiers

abbrev pub Each : (TokenKind → Type 0) → List (List ℕ × TokenKind) → List ℕ → Type 0
Each P [] id = Unit {0}
Each P (x ∷ xs) id = (id ≡ x.0 → P x.1) × Each P xs id

pub same_bytes : (xs ys : List ℕ) → bytes_eq xs ys ≡ true → xs ≡ ys
same_bytes xs ys e = search (rules, bytes_eq-Decides xs ys, e)

-- the kind of an identifier's word: one of those that are words too, or it is none of them
pub kind_by : (P : TokenKind → Type 0) (ks : List (List ℕ × TokenKind)) (id : List ℕ) → Each P ks id → P kind.Identifier → P (kind_in ks id)
kind_by P [] id h k = k
kind_by P (x ∷ xs) id h k = cond_both (bytes_eq id x.0) x.1 (kind_in xs id) P (λ e. h.0 (same_bytes id x.0 e)) (λ e. kind_by P xs id h.1 k)

abbrev ReadsId : List ℕ → TokenKind → Type 0
ReadsId id k = (p : Spot) → p.text ≡ id → IsIdentifier (one k p) id

moved : {k : TokenKind} {id text : List ℕ} → ((p : Spot) → IsIdentifier (one k p) text) → id ≡ text → ReadsId id k
moved {k = k} f e p g = subst (IsIdentifier (one k p)) (sym e) (f p)

identifier_kind : (id : List ℕ) → is_unreserved_identifier id ≡ true → ReadsId id (kind_in word_kinds id)
identifier_kind id h =
    kind_by (ReadsId id) word_kinds id (
      moved (λ p. w.variable_word p w.principal),
      (
        moved (λ p. w.variable_word p w.action),
        (
          moved (λ p. w.variable_word p w.resource),
          (
            moved (λ p. w.variable_word p w.context),
            (moved w.permit, (moved w.forbid, (moved w.when, (moved w.unless, tt)))),
          ),
        ),
      ),
    )
    (λ p f. subst (IsIdentifier (one kind.Identifier p)) f (w.identifier p (subst (λ t. is_unreserved_identifier t ≡ true) (sym f) h)))

abbrev pub Id : List ℕ → List Lexeme → Type 0
Id id us = IsIdentifier us id

pub identifier : (id : List ℕ) → is_unreserved_identifier id ≡ true → Read (identifier_words id) (Id id)
identifier id h = token (Id id) (kind_in word_kinds id) id (identifier_kind id h)

-- ---- names

abbrev pub Name : List (List ℕ) → List ℕ → List Lexeme → Type 0
Name ids id us = IsName us ids id

names : (ids : List (List ℕ)) (id : List ℕ) → AreIdentifiers ids → is_unreserved_identifier id ≡ true → (acc : List TokenText) (done : List (List ℕ)) (x : List ℕ) → Read acc (Name done x)
    → Read (marked_words acc colons ids ++ colons ++ identifier_words id) (Name (done ++ x ∷ ids) id)
names [] id hs h acc done x r =
    beside (Name (done ++ x ∷ []) id) (Id id) (identifier id h) (put _ kind.ColonColon (codes "::") (λ us e p f ys i. w.more_identifiers p (r us e) i))
names (y ∷ ys) id hs h acc done x r =
    subst (λ xs. Read (marked_words (acc ++ colons ++ identifier_words y) colons ys ++ colons ++ identifier_words id) (Name xs id)) (append_assoc done (x ∷ []) (y ∷ ys))
    (names ys id hs.1 h (acc ++ colons ++ identifier_words y) (done ++ x ∷ []) y
    (beside (Name (done ++ x ∷ []) y) (Id y) (identifier y hs.0) (put _ kind.ColonColon (codes "::") (λ us e p f zs i. w.more_identifiers p (r us e) i))))

pub path : (ids : List (List ℕ)) (id : List ℕ) → AreIdentifiers ids → is_unreserved_identifier id ≡ true → Read (path_words ids id) (Name ids id)
path [] id hs h = λ us e. w.one_identifier (identifier id h us e)
path (x ∷ ids) id hs h = names ids id hs.1 h (identifier_words x) [] x (λ us e. w.one_identifier (identifier x hs.0 us e))

pub name : (n : Path) → IsWritableName n → Read (name_words n) (Name n.path n.id)
name n h = path n.path n.id h.0 h.1

true_false : true ≡ false → ⊥
true_false e = cc

variable_kind : {k : TokenKind} {x : Var} → IsVariable k x → is_variable_kind k ≡ true
variable_kind w.principal = refl
variable_kind w.action = refl
variable_kind w.resource = refl
variable_kind w.context = refl

pub no_variable : (us : List Lexeme) → is_variable_words (words_of us) ≡ false → IsVariableWord us → ⊥
no_variable [] e h = h
no_variable (t ∷ []) e h = true_false (sym (variable_kind h.1) ∙ e)
no_variable (t ∷ u ∷ us) e h = h

-- ---- strings

abbrev pub IsTextOf : List ℕ → List Lexeme → Type 0
IsTextOf text us = IsText us text

pub string : (text : List ℕ) → IsUtf8 text → Read (text_words text) (IsTextOf text)
string text u = token (IsTextOf text) kind.StringLit (quoted (escaped_text text)) (λ p e. w.string p (subst (λ q. IsUnescaped (between_quotes q) text) (sym e) (text_stands text u)))

abbrev pub Key : List ℕ → List Lexeme → Type 0
Key key us = IsKey us key

pub key : (text : List ℕ) → IsUtf8 text → Read (key_words text) (Key text)
key text u =
    cond_both (is_unreserved_identifier text) (identifier_words text) (text_words text) (λ ws. Read ws (Key text))
    (λ h us e. w.word (identifier text h us e))
    (λ h us e. w.text (string text u us e))

abbrev pub Attributes : List ℕ → List (List ℕ) → List Lexeme → Type 0
Attributes id ids us = AreAttributes us id ids

attributes : (ids : List (List ℕ)) → AreIdentifiers ids → (id : List ℕ) (acc : List TokenText) (done : List (List ℕ)) → Read acc (Attributes id done) → Read (marked_words acc dot ids) (Attributes id (done ++ ids))
attributes [] hs id acc done r = λ us e. subst (AreAttributes us id) (sym (append-nil done)) (r us e)
attributes (y ∷ ys) hs id acc done r =
    subst (λ xs. Read (marked_words (acc ++ dot ++ identifier_words y) dot ys) (Attributes id xs)) (append_assoc done (y ∷ []) ys)
    (attributes ys hs.1 id (acc ++ dot ++ identifier_words y) (done ++ y ∷ [])
    (beside (Attributes id (done ++ y ∷ [])) (Id y) (identifier y hs.0) (put _ kind.Dot (codes ".") (λ us e p f zs i. w.more_attributes p (r us e) i))))

abbrev pub Sought : List ℕ → List (List ℕ) → List Lexeme → Type 0
Sought id ids us = IsSought us id ids

pub sought : (id : List ℕ) (ids : List (List ℕ)) → IsWritableSought id ids → Read (sought_words id ids) (Sought id ids)
sought id [] u =
    cond_both (is_unreserved_identifier id) (identifier_words id) (text_words id) (λ ws. Read ws (Sought id []))
    (λ h us e. w.attributes (w.one_attribute (identifier id h us e)))
    (λ h us e. w.text (string id u us e))
sought id (y ∷ ys) hs = λ us e. w.attributes (attributes (y ∷ ys) hs.1 id (identifier_words id) [] (λ us e. w.one_attribute (identifier id hs.0 us e)) us e)

-- ---- literals

abbrev pub Entity : EntityUID → List Lexeme → Type 0
Entity uid us = IsEntity us uid

pub entity : (uid : EntityUID) → IsWritableName uid.entity_type.name → IsUtf8 uid.eid.text → Read (entity_words uid) (Entity uid)
entity uid h u =
    beside (Entity uid) (IsTextOf uid.eid.text) (string uid.eid.text u)
    (put _ kind.ColonColon (codes "::") (λ us e p f ys t. w.entity p (name uid.entity_type.name h us e) t))

number : (n : ℕ) → n < 2 ^ 64 → (p : Spot) → p.text ≡ decimal n → number_of p.text ≡ n
number n h p e = ap number_of e ∙ (decimal_is_IsNumeral n h).1

pub literal : {table : Extensions} {limit : ℕ} (l : Literal) → IsWritableLiteral l → SignFits limit l → Read (literal_words l) (M table limit (literal_sort l) (v.val l))
literal {table = table} {limit = limit} (literals.Bool true) h g = token (M table limit s.primary (v.val (literals.Bool true))) kind.True (codes "true") (λ p e. exactly (s.truth p))
literal {table = table} {limit = limit} (literals.Bool false) h g = token (M table limit s.primary (v.val (literals.Bool false))) kind.False (codes "false") (λ p e. exactly (s.falsity p))
literal {table = table} {limit = limit} (literals.Long (pos n)) h g =
    token (M table limit s.primary (v.val (literals.Long (pos n)))) kind.Number (decimal n)
    (λ p e. let is = number n (omega (arith, h)) p e in
    exactly (subst (λ m. Means table limit s.primary (one kind.Number p) (v.val (literals.Long (pos m)))) is (s.numeral p (omega (arith, h, is)))))
literal {table = table} {limit = limit} (literals.Long (negsuc n)) h g =
    put (M table limit s.signed (v.val (literals.Long (negsuc n)))) kind.Number (decimal (suc n))
    (token _ kind.Minus (codes "-") (λ q f p e.
    let is = number (suc n) (omega (arith, h)) p e in
    exactly (subst (λ m. Means table limit s.signed (one kind.Minus q ++ one kind.Number p) (v.val (literals.Long (neg_ℤ (pos m))))) is
    (s.negative 0 p (one_sign q) g (omega (arith, h, is))))))
literal (literals.String text) h g = λ us e. exactly (s.text (string text h us e))
literal (literals.EntityUID uid) h g = λ us e. exactly (s.entity (entity uid h.0 h.1 us e))

pub var : {table : Extensions} {limit : ℕ} (x : Var) → Read (var_words x) (M table limit s.primary (v.var x))
var {table = table} {limit = limit} vars.Principal = token (M table limit s.primary (v.var vars.Principal)) kind.Principal (codes "principal") (λ p e. exactly (s.variable p w.principal))
var {table = table} {limit = limit} vars.Action = token (M table limit s.primary (v.var vars.Action)) kind.Action (codes "action") (λ p e. exactly (s.variable p w.action))
var {table = table} {limit = limit} vars.Resource = token (M table limit s.primary (v.var vars.Resource)) kind.Resource (codes "resource") (λ p e. exactly (s.variable p w.resource))
var {table = table} {limit = limit} vars.Context = token (M table limit s.primary (v.var vars.Context)) kind.Context (codes "context") (λ p e. exactly (s.variable p w.context))

slot : (x : Slot) (id : SlotId) → x.id ≡ id → (p : Spot) → without_places (slot_there id p) ≡ without_places (v.slot x)
unfolding without_places
slot x id e p = ap (λ i. v.slot (record { id = i; place = None })) (sym e)

slot_by : {table : Extensions} {limit : ℕ} (x : Slot) (id : SlotId) → x.id ≡ id → Read (slot_words id) (M table limit s.primary (v.slot x))
slot_by {table = table} {limit = limit} x slots.Principal e = token (M table limit s.primary (v.slot x)) kind.PrincipalSlot (codes "?principal") (λ p f. (mean (slot_there slots.Principal p) (s.principal_slot p) (slot x slots.Principal e p)))
slot_by {table = table} {limit = limit} x slots.Resource e = token (M table limit s.primary (v.slot x)) kind.ResourceSlot (codes "?resource") (λ p f. (mean (slot_there slots.Resource p) (s.resource_slot p) (slot x slots.Resource e p)))

pub slot_read : {table : Extensions} {limit : ℕ} (x : Slot) → Read (slot_words x.id) (M table limit s.primary (v.slot x))
slot_read x = slot_by x x.id refl

pub pattern : (ps : List PatternElem) → IsWritablePattern ps → (p : Spot) → p.text ≡ quoted (escaped_pattern ps) → IsPattern (between_quotes p.text) ps
pattern ps h p e = subst (λ q. IsPattern (between_quotes q) ps) (sym e) (pattern_stands ps h)
