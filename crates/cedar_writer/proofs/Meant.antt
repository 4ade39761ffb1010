-- What tokens mean is writable, if they are spelled.
use Rattle.std.proofs.Common.{◌≡◌, ℕ, ◌+◌, ◌*◌, ◌^◌, ◌<◌, ◌≤◌, zero, suc, Bool, true, false, List, [], ◌∷◌, ◌++◌, length, refl, sym, ap, ◌∙◌, subst, codes, arith, append_assoc, pos, neg_ℤ, Some, None, Option}
use Rattle.std.specs.Prelude.{◌&&◌, ◌||◌, ◌==◌, not}
use Rattle.std.specs.Option.{is_none, is_some}
use Rattle.std.specs.List.{list_all}
use Rattle.std.specs.Map.{keys_of}
use Rattle.std.proofs.lemmas.Bool.Decides.{nat_tests}
use Rattle.std.specs.Char.{IsScalar, encode_utf8, digit_value}
use Rattle.std.specs.Str.{IsUtf8, all_scalars}
use Rattle.std.specs.Cmp.Derive.{both_true}
use Rattle.std.proofs.Math.Utf8.{low_scalar}
use Rattle.std.proofs.lemmas.Bool.{cond_both, and_parts, eqb-true}
use Rattle.std.proofs.lemmas.Str.{scalars-chars, IsUtf8-append, IsUtf8-encode, IsUtf8-nil, encode_ascii}
use Rattle.cedar_lexer.specs.Spelling.{IsStringTail, closing, plain as plain_tail, escaped as escaped_tail, Spells, one_text}
use Rattle.cedar_lexer.specs.Token.{Lexeme}
use Rattle.cedar_lexer.specs.Words.{TokenText, words_of, AreSpelled}
use Rattle.cedar_lexer.specs.declared.token.TokenKind.{TokenKind}
use Rattle.cedar_lexer.specs.declared.token.TokenKind.TheVariants as kind
use Rattle.cedar_expressions.specs.declared.operators.AddOp.{AddOp}
use Rattle.cedar_expressions.specs.declared.entity.EntityUID.{EntityUID}
use Rattle.cedar_expressions.specs.declared.atoms.Literal.TheVariants as literals
use Rattle.cedar_expressions.specs.declared.atoms.PatternElem.{PatternElem}
use Rattle.cedar_expressions.specs.declared.atoms.PatternElem.TheVariants.{Char, Wildcard}
use Rattle.cedar_expressions.specs.Keys.{repeats_key}
use Rattle.cedar_expressions.specs.Path.{Path, is_unreserved_identifier, is_valid_identifier, is_reserved_namespace, is_reserved_word, is_identifier, continues_identifier, begins_identifier}
use Rattle.cedar_expressions.specs.Value as v
use Rattle.cedar_expressions.specs.Value.{Value, Values, Terms, Fields, values, terms, fields}
use Rattle.cedar_syntax.specs.declared.unescape.piece.PieceValue.{PieceValue}
use Rattle.cedar_syntax.specs.declared.unescape.piece.PieceValue.TheVariants.{Nothing, Character, Fault}
use Rattle.cedar_syntax.specs.strings.Piece as pc
use Rattle.cedar_syntax.specs.strings.Piece.{Piece, Placed, PieceLayout, end_of_text, piece, IsUnescaped, unescaped_pieces, unescaped_piece, short_escape}
use Rattle.cedar_syntax.specs.strings.Pattern.{IsPattern, pattern_pieces, elem_of, is_escaped_star}
use Rattle.cedar_syntax.specs.tokens.Tokens.{Spot, one, number_of, between_quotes}
use Rattle.cedar_conversion.specs.strict.Extensions.{Extensions}
use Rattle.cedar_conversion.specs.strict.Strict as s
use Rattle.cedar_conversion.specs.strict.Strict.{Sort, Means, Joined, Added, Listed, Entries, JoinedEntries, Entry, Relates, iteration}
use Rattle.cedar_conversion.specs.strict.StrictCalls as call
use Rattle.cedar_conversion.specs.strict.StrictCalls.{CallsMethod, IsFunction, standard_method, names_method}
use Rattle.cedar_conversion.specs.strict.StrictWords as w
use Rattle.cedar_conversion.specs.strict.StrictWords.{IsVariable, IsVariableWord, IsIdentifier, IsName, AreAttributes, IsText, IsSought, IsKey, IsEntity, path_value}
use Rattle.cedar_expressions.specs.Escapes.{quoted}
use Rattle.cedar_writer.specs.WrittenWords.{alone, word_kinds, kind_in, identifier_words, marked_words, path_words, colons}
use Rattle.cedar_writer.specs.Writing.{calls_by, calls_method, is_variable_kind, is_variable_words}
use Rattle.cedar_writer.specs.Writable.{AreIdentifiers, IsWritableName, IsWritablePattern, IsWritableSought, IsWritableFunction, IsWritableCall, IsWritable, AreWritable, AreWritableTerms, AreWritableFields, HasMore, HasTerms, keys_in}
use Rattle.cedar_writer.proofs.Escaping.{inside}
use Rattle.cedar_writer.proofs.Leaves.{kind_by}

-- ---- spelled tokens, taken apart

abbrev pub Spelled : List Lexeme → Type 0
Spelled ts = AreSpelled (words_of ts)

halves : (ts us : List Lexeme) → Spelled (ts ++ us) → Spelled ts × Spelled us
halves [] us h = (tt, h)
halves (t ∷ ts) us h = let r = halves ts us h.1 in ((h.0, r.0), r.1)

pub fore : (ts us : List Lexeme) → Spelled (ts ++ us) → Spelled ts
fore ts us h = (halves ts us h).0

pub aft : (ts us : List Lexeme) → Spelled (ts ++ us) → Spelled us
aft ts us h = (halves ts us h).1

-- around one token
pub left : (ts us : List Lexeme) (k : TokenKind) (p : Spot) → Spelled (ts ++ one k p ++ us) → Spelled ts
left ts us k p h = fore ts (one k p) (fore (ts ++ one k p) us h)

pub right : (ts us : List Lexeme) (k : TokenKind) (p : Spot) → Spelled (ts ++ one k p ++ us) → Spelled us
right ts us k p h = aft (ts ++ one k p) us h

pub within : (j k : TokenKind) (p q : Spot) (ts : List Lexeme) → Spelled (one j p ++ ts ++ one k q) → Spelled ts
within j k p q ts h = aft (one j p) ts (fore (one j p ++ ts) (one k q) h)

-- ---- strings

record Raw (tail : List ℕ) : Type 0 where
  raw : List ℕ
  is : tail ≡ raw ++ codes "\""
  utf8 : IsUtf8 raw

slash_utf8 : IsUtf8 (92 ∷ [])
slash_utf8 = subst IsUtf8 (encode_ascii 92 (omega arith)) (IsUtf8-encode 92 refl)

raw_of : {tail : List ℕ} → IsStringTail tail → Raw tail
raw_of closing = record { raw = []; is = refl; utf8 = IsUtf8-nil }
raw_of (plain_tail c bs s q b t) =
    let r = raw_of t in
    record { raw = encode_utf8 c ++ r.raw; is = ap (λ x. encode_utf8 c ++ x) r.is ∙ sym (append_assoc (encode_utf8 c) r.raw (codes "\"")); utf8 = IsUtf8-append (encode_utf8 c) r.raw (IsUtf8-encode c s) r.utf8 }
raw_of (escaped_tail c bs s t) =
    let r = raw_of t in
    record { raw = 92 ∷ (encode_utf8 c ++ r.raw); is = ap (λ x. 92 ∷ (encode_utf8 c ++ x)) r.is ∙ ap (λ x. 92 ∷ x) (sym (append_assoc (encode_utf8 c) r.raw (codes "\""))); utf8 = IsUtf8-append (92 ∷ []) (encode_utf8 c ++ r.raw) slash_utf8 (IsUtf8-append (encode_utf8 c) r.raw (IsUtf8-encode c s) r.utf8) }

raw_utf8 : (text : List ℕ) → Spells kind.StringLit text → IsUtf8 (between_quotes text)
raw_utf8 [] h = absurd h
raw_utf8 (b ∷ bs) h =
    let r = raw_of h.1 in
    let is : b ∷ bs ≡ quoted r.raw = ap (λ x. x ∷ bs) h.0 ∙ ap (λ x. 34 ∷ x) r.is in
    subst IsUtf8 (sym (ap between_quotes is ∙ inside r.raw)) r.utf8

abbrev Sound : PieceValue → Type 0
Sound Nothing = Unit {0}
Sound (Character c) = IsScalar c
Sound (Fault kind) = Unit {0}

abbrev SoundOption : Option ℕ → Type 0
SoundOption None = Unit {0}
SoundOption (Some c) = IsScalar c

or_cases : (c : ℕ) → ((c == 34) || (c == 92) || (c == 39)) ≡ true → IsScalar c
or_cases c h = cond_both (c == 34) true false (λ b. IsScalar c) (λ e. subst IsScalar (sym (eqb-true c 34 e)) refl) (λ e.
    cond_both (c == 92) true false (λ b. IsScalar c) (λ f. subst IsScalar (sym (eqb-true c 92 f)) refl) (λ f.
    subst IsScalar (sym (eqb-true c 39 (third (c == 34) (c == 92) (c == 39) e f h))) refl))
  where
    third : (a b d : Bool) → a ≡ false → b ≡ false → (a || b || d) ≡ true → d ≡ true
    third true b d e f g = absurd (cc)
    third false true d e f g = absurd (cc)
    third false false d e f g = g

short_sound : (c : ℕ) → SoundOption (short_escape c)
short_sound c =
    cond_both ((c == 34) || (c == 92) || (c == 39)) _ _ SoundOption (λ e. or_cases c e) (λ e0.
    cond_both (c == 110) _ _ SoundOption (λ e. refl) (λ e1.
    cond_both (c == 114) _ _ SoundOption (λ e. refl) (λ e2.
    cond_both (c == 116) _ _ SoundOption (λ e. refl) (λ e3.
    cond_both (c == 48) _ _ SoundOption (λ e. refl) (λ e4. tt)))))

piece_sound : {text after : List ℕ} {outcome : PieceValue} → Piece text after outcome → all_scalars text ≡ true → Sound outcome
piece_sound (pc.plain c q b r) s = (and_parts _ _ s).0
piece_sound pc.bare_quote s = tt
piece_sound pc.bare_return s = tt
piece_sound pc.lone_slash s = tt
piece_sound (pc.short c meant e) s = subst SoundOption e (short_sound c)
piece_sound (pc.line_end blanks a b) s = tt
piece_sound (pc.hex a b p q l) s = low_scalar (digit_value a * 16 + digit_value b) (omega (arith, l))
piece_sound (pc.large_hex a b p q l) s = tt
piece_sound (pc.short_hex ds a l) s = tt
piece_sound (pc.bad_hex ds c a l n) s = tt
piece_sound pc.no_brace_but_end s = tt
piece_sound (pc.no_brace c n) s = tt
piece_sound pc.empty_braces s = tt
piece_sound pc.leading_underscore s = tt
piece_sound (pc.unclosed i b) s = tt
piece_sound (pc.bad_inside i c b n m) s = tt
piece_sound (pc.unicode i b l m sc) s = sc
piece_sound (pc.overlong i b l) s = tt
piece_sound (pc.out_of_range i b l m) s = tt
piece_sound (pc.lone_surrogate i b l m n) s = tt
piece_sound (pc.invalid c e n x u) s = tt

scalars_fore : (xs ys : List ℕ) → all_scalars (xs ++ ys) ≡ true → (all_scalars xs ≡ true) × (all_scalars ys ≡ true)
scalars_fore [] ys h = (refl, h)
scalars_fore (x ∷ xs) ys h = let p = and_parts _ _ h in let r = scalars_fore xs ys p.1 in (both_true p.0 r.0, r.1)

piece_utf8 : (o : PieceValue) → Sound o → IsUtf8 (unescaped_piece o)
piece_utf8 Nothing h = IsUtf8-nil
piece_utf8 (Character c) h = IsUtf8-encode c h
piece_utf8 (Fault k) h = IsUtf8-nil

layout_utf8 : {start : ℕ} {cs : List ℕ} {ps : List Placed} → PieceLayout start cs ps → all_scalars cs ≡ true → IsUtf8 (unescaped_pieces ps)
layout_utf8 end_of_text s = IsUtf8-nil
layout_utf8 (piece text after outcome e p l) s =
    let r = scalars_fore text after (ap all_scalars (sym e) ∙ s) in
    IsUtf8-append (unescaped_piece outcome) _ (piece_utf8 outcome (piece_sound p r.0)) (layout_utf8 l r.1)

text_utf8 : (raw text : List ℕ) → IsUtf8 raw → IsUnescaped raw text → IsUtf8 text
text_utf8 raw text u h = subst IsUtf8 h.unescaped (layout_utf8 h.laid_out (scalars-chars raw u))

patterns_join : (xs ys : List PatternElem) → IsWritablePattern xs → IsWritablePattern ys → IsWritablePattern (xs ++ ys)
patterns_join [] ys h k = k
patterns_join (Char c ∷ xs) ys h k = (h.0, patterns_join xs ys h.1 k)
patterns_join (Wildcard ∷ xs) ys h k = patterns_join xs ys h k

elem_writable : (p : Placed) (o : PieceValue) → Sound o → IsWritablePattern (elem_of p o)
elem_writable p Nothing h = tt
elem_writable p (Character c) h = cond_both (c == 42) Wildcard (Char c) (λ e. IsWritablePattern (e ∷ [])) (λ e. tt) (λ e. (h, tt))
elem_writable p (Fault k) h = cond_both (is_escaped_star p.text) (Char 42 ∷ []) [] IsWritablePattern (λ e. (refl, tt)) (λ e. tt)

layout_writable : {start : ℕ} {cs : List ℕ} {ps : List Placed} → PieceLayout start cs ps → all_scalars cs ≡ true → IsWritablePattern (pattern_pieces ps)
layout_writable end_of_text s = tt
layout_writable {start = start} (piece text after outcome e p l) s =
    let r = scalars_fore text after (ap all_scalars (sym e) ∙ s) in
    patterns_join (elem_of (pc.piece_at start text outcome) outcome) _ (elem_writable (pc.piece_at start text outcome) outcome (piece_sound p r.0)) (layout_writable l r.1)

pattern_writable : (raw : List ℕ) (ps : List PatternElem) → IsUtf8 raw → IsPattern raw ps → IsWritablePattern ps
pattern_writable raw ps u h = subst IsWritablePattern h.parts (layout_writable h.laid_out (scalars-chars raw u))

-- ---- words

pub identifier : {ts : List Lexeme} {id : List ℕ} → IsIdentifier ts id → is_unreserved_identifier id ≡ true
identifier (w.variable_word p w.principal) = refl
identifier (w.variable_word p w.action) = refl
identifier (w.variable_word p w.resource) = refl
identifier (w.variable_word p w.context) = refl
identifier (w.permit p) = refl
identifier (w.forbid p) = refl
identifier (w.when p) = refl
identifier (w.unless p) = refl
identifier (w.identifier p h) = h

ids_join : (xs ys : List (List ℕ)) → AreIdentifiers xs → AreIdentifiers ys → AreIdentifiers (xs ++ ys)
ids_join [] ys h k = k
ids_join (x ∷ xs) ys h k = (h.0, ids_join xs ys h.1 k)

pub name : {ts : List Lexeme} {ids : List (List ℕ)} {id : List ℕ} → IsName ts ids id → IsWritableName (path_value ids id)
name (w.one_identifier i) = (tt, identifier i)
name (w.more_identifiers {ids = ids} {id = id} p n i) = let h = name n in (ids_join ids (id ∷ []) h.0 (h.1, tt), identifier i)

pub text : {ts : List Lexeme} {t : List ℕ} → IsText ts t → Spelled ts → IsUtf8 t
text (w.string {text = t} p u) h = text_utf8 (between_quotes p.text) t (raw_utf8 p.text h.0) u

low_byte : (b : ℕ) → continues_identifier b ≡ true → b < 128
low_byte b h = grind (arith, nat_tests)

begins_low : (b : ℕ) → begins_identifier b ≡ true → b < 128
begins_low b h = grind (arith, nat_tests)

byte_utf8 : (b : ℕ) → b < 128 → IsUtf8 (b ∷ [])
byte_utf8 b h = subst IsUtf8 (encode_ascii b h) (IsUtf8-encode b (low_scalar b (omega (arith, h))))

bytes_utf8 : (bs : List ℕ) → list_all continues_identifier bs ≡ true → IsUtf8 bs
bytes_utf8 [] h = IsUtf8-nil
bytes_utf8 (b ∷ bs) h = let p = and_parts (continues_identifier b) (list_all continues_identifier bs) h in IsUtf8-append (b ∷ []) bs (byte_utf8 b (low_byte b p.0)) (bytes_utf8 bs p.1)

identifier_utf8 : (id : List ℕ) → is_identifier id ≡ true → IsUtf8 id
identifier_utf8 [] h = IsUtf8-nil
identifier_utf8 (b ∷ bs) h = let p = and_parts (begins_identifier b) (list_all continues_identifier bs) h in IsUtf8-append (b ∷ []) bs (byte_utf8 b (begins_low b p.0)) (bytes_utf8 bs p.1)

pub ascii_id : (id : List ℕ) → is_unreserved_identifier id ≡ true → IsUtf8 id
ascii_id id h = identifier_utf8 id (and_parts (is_identifier id) (not (is_reserved_word id)) (and_parts (is_valid_identifier id) (not (is_reserved_namespace id)) h).0).0

attributes : {ts : List Lexeme} {id : List ℕ} {ids : List (List ℕ)} → AreAttributes ts id ids → (is_unreserved_identifier id ≡ true) × AreIdentifiers ids
attributes (w.one_attribute i) = (identifier i, tt)
attributes (w.more_attributes {id = id} {ids = ids} p a i) = let h = attributes a in (h.0, ids_join ids (id ∷ []) h.1 (identifier i, tt))

sought_ids : (id : List ℕ) (ids : List (List ℕ)) → is_unreserved_identifier id ≡ true → AreIdentifiers ids → IsWritableSought id ids
sought_ids id [] h hs = ascii_id id h
sought_ids id (x ∷ xs) h hs = (h, hs)

sought : {ts : List Lexeme} {id : List ℕ} {ids : List (List ℕ)} → IsSought ts id ids → Spelled ts → IsWritableSought id ids
sought (w.attributes {id = id} {ids = ids} a) h = let r = attributes a in sought_ids id ids r.0 r.1
sought (w.text t) h = text t h

key : {ts : List Lexeme} {k : List ℕ} → IsKey ts k → Spelled ts → IsUtf8 k
key (w.word {key = k} i) h = ascii_id k (identifier i)
key (w.text t) h = text t h

pub entity : {ts : List Lexeme} {uid : EntityUID} → IsEntity ts uid → Spelled ts → IsWritableName uid.entity_type.name × IsUtf8 uid.eid.text
entity (w.entity {ts = ts} {us = us} p n t) h = (name n, text t (right ts us kind.ColonColon p h))

-- ---- no function's name is a variable's

two_words : (xs : List TokenText) (k : TokenKind) (t : List ℕ) → is_variable_words (xs ++ colons ++ alone k t) ≡ false
two_words [] k t = refl
two_words (x ∷ []) k t = refl
two_words (x ∷ y ∷ xs) k t = refl

long_name : (xs : List (List ℕ)) (x id : List ℕ) → is_variable_words (path_words (xs ++ x ∷ []) id) ≡ false
long_name [] x id = two_words (marked_words (identifier_words x) colons []) (kind_in word_kinds id) id
long_name (y ∷ ys) x id = two_words (marked_words (identifier_words y) colons (ys ++ x ∷ [])) (kind_in word_kinds id) id

own_word : {A : Type 0} (k : TokenKind) (t id : List ℕ) → one_text k ≡ Some t → id ≡ t → Spells kind.Identifier id → A
own_word k t id o e h = absurd (h.1 (k, o ∙ ap Some (sym e)))

single_name : {ts : List Lexeme} {id : List ℕ} → IsIdentifier ts id → Spelled ts → (IsVariableWord ts → ⊥) → is_variable_words (identifier_words id) ≡ false
single_name (w.variable_word {x = x} p y) h n = absurd (n (x, y))
single_name (w.permit p) h n = refl
single_name (w.forbid p) h n = refl
single_name (w.when p) h n = refl
single_name (w.unless p) h n = refl
single_name (w.identifier p i) h n =
    kind_by (λ k. is_variable_kind k ≡ false) word_kinds p.text (
      (λ e. own_word kind.Principal (codes "principal") p.text refl e h.0),
      (
        (λ e. own_word kind.Action (codes "action") p.text refl e h.0),
        (
          (λ e. own_word kind.Resource (codes "resource") p.text refl e h.0),
          (
            (λ e. own_word kind.Context (codes "context") p.text refl e h.0),
            ((λ e. refl), ((λ e. refl), ((λ e. refl), ((λ e. refl), tt)))),
          ),
        ),
      ),
    ) refl

function_name : {ts : List Lexeme} {ids : List (List ℕ)} {id : List ℕ} → IsName ts ids id → Spelled ts → (IsVariableWord ts → ⊥) → is_variable_words (path_words ids id) ≡ false
function_name (w.one_identifier i) h n = single_name i h n
function_name (w.more_identifiers {ids = ids} {id = id} {last = last} p m i) h n = long_name ids id last

no_method : (table : Extensions) (ids : List (List ℕ)) (id : List ℕ) → names_method table ids id ≡ false → calls_by table ids id ≡ false
no_method table [] id h = neither (is_some (standard_method id)) (table.methods id) h
  where
    neither : (a b : Bool) → (a || b) ≡ false → (not a && b) ≡ false
    neither true b e = refl
    neither false b e = e
no_method table (x ∷ ids) id h = refl

-- ---- values

grown : (table : Extensions) (limit : ℕ) (bs : List Value) (b : Value) → AreWritable table limit (values bs) → IsWritable table limit b → AreWritable table limit (values (bs ++ b ∷ []))
unfolding IsWritable
grown table limit [] b h k = (k, tt)
grown table limit (x ∷ xs) b h k = (h.0, grown table limit xs b h.1 k)

grown_terms : (table : Extensions) (limit : ℕ) (bs : List (AddOp × Value)) (o : AddOp) (b : Value) → AreWritableTerms table limit (terms bs) → IsWritable table limit b → AreWritableTerms table limit (terms (bs ++ (o, b) ∷ []))
unfolding IsWritable
grown_terms table limit [] o b h k = (k, tt)
grown_terms table limit (x ∷ xs) o b h k = (h.0, grown_terms table limit xs o b h.1 k)

grown_fields : (table : Extensions) (limit : ℕ) (fs : List (List ℕ × Value)) (t : List ℕ) (b : Value) → AreWritableFields table limit (fields fs) → IsUtf8 t → IsWritable table limit b → AreWritableFields table limit (fields (fs ++ (t, b) ∷ []))
unfolding IsWritable
grown_fields table limit [] t b h u k = (u, k, tt)
grown_fields table limit (x ∷ xs) t b h u k = (h.0, h.1, grown_fields table limit xs t b h.2 u k)

keys-fields : (fs : List (List ℕ × Value)) → keys_in (fields fs) ≡ keys_of fs
keys-fields [] = refl
keys-fields (x ∷ xs) = ap (λ ks. x.0 ∷ ks) (keys-fields xs)

has_more : (bs : List Value) → 0 < length bs → HasMore (values bs)
has_more [] h = absurd (omega (arith, h))
has_more (b ∷ bs) h = tt

has_terms : (bs : List (AddOp × Value)) → 0 < length bs → HasTerms (terms bs)
has_terms [] h = absurd (omega (arith, h))
has_terms (b ∷ bs) h = tt

nots : (table : Extensions) (limit n : ℕ) (a : Value) → n ≤ limit → IsWritable table limit a → IsWritable table limit (iteration n v.not a)
unfolding IsWritable
nots table limit zero a l h = h
nots table limit (suc n) a l h = (omega (arith, l), nots table limit n a (omega (arith, l)) h)

negs : (table : Extensions) (limit n : ℕ) (a : Value) → n ≤ limit → IsWritable table limit a → IsWritable table limit (iteration n v.neg a)
unfolding IsWritable
negs table limit zero a l h = h
negs table limit (suc n) a l h = (omega (arith, l), negs table limit n a (omega (arith, l)) h)

negative : (table : Extensions) (limit k : ℕ) → 1 ≤ limit → k ≤ 2 ^ 63 → IsWritable table limit (v.val (literals.Long (neg_ℤ (pos k))))
unfolding IsWritable
negative table limit zero l h = (omega arith, tt)
negative table limit (suc k) l h = (omega (arith, h), l)

related : (table : Extensions) (limit : ℕ) {k : TokenKind} {a b c : Value} → Relates k a b c → IsWritable table limit a → IsWritable table limit b → IsWritable table limit c
unfolding IsWritable
related table limit s.less h k = (h, k)
related table limit s.less_eq h k = (h, k)
related table limit s.greater_eq h k = (h, k)
related table limit s.greater h k = (h, k)
related table limit s.not_eq h k = (h, k)
related table limit s.equal h k = (h, k)
related table limit s.within h k = (h, k)

called : (table : Extensions) (limit : ℕ) (n : Path) (args : List Value) → IsWritableFunction table n → calls_method table n ≡ false → AreWritable table limit (values args) → IsWritable table limit (v.call_extension_fn n (values args))
unfolding IsWritable
called table limit n [] h e k = h
called table limit n (a ∷ args) h e k = (k.0, k.1, subst (λ b. IsWritableCall b table n) (sym e) h)

method : (table : Extensions) (limit : ℕ) {id : List ℕ} {a c : Value} {args : List Value} → is_unreserved_identifier id ≡ true → CallsMethod table id a args c → IsWritable table limit a → AreWritable table limit (values args) → IsWritable table limit c
unfolding IsWritable
method table limit i call.contains h k = (h, k.0)
method table limit i call.contains_all h k = (h, k.0)
method table limit i call.contains_any h k = (h, k.0)
method table limit i call.is_empty h k = h
method table limit i call.get_tag h k = (h, k.0)
method table limit i call.has_tag h k = (h, k.0)
method table limit {id = id} i (call.by_table e m) h k = (h, k, subst (λ b. IsWritableCall b table (path_value [] id)) (sym (both_true (ap is_none e) m)) (tt, i))

mutual
  unfolding IsWritable

  pub writable : {table : Extensions} {limit : ℕ} {sort : Sort} {ts : List Lexeme} {a : Value} → Means table limit sort ts a → Spelled ts → IsWritable table limit a
  writable (s.conditional {ts = ts} {us = us} {vs = vs} l m n a b c) h =
      let x = left (one kind.If l ++ ts ++ one kind.Then m ++ us) vs kind.Else n h in
      (writable a (aft (one kind.If l) ts (left (one kind.If l ++ ts) us kind.Then m x)), writable b (right (one kind.If l ++ ts) us kind.Then m x), writable c (right (one kind.If l ++ ts ++ one kind.Then m ++ us) vs kind.Else n h))
  writable (s.one_disjunction m) h = writable m h
  writable (s.disjoined {bs = bs} j n) h = let r = joined j h in (r.0, has_more bs n, r.1)
  writable (s.one_conjunction m) h = writable m h
  writable (s.conjoined {bs = bs} j n) h = let r = joined j h in (r.0, has_more bs n, r.1)
  writable (s.one_relation m) h = writable m h
  writable {table = table} {limit = limit} (s.related {ts = ts} {us = us} {k = k} p a r b) h = related table limit r (writable a (left ts us k p h)) (writable b (right ts us k p h))
  writable (s.has {ts = ts} {us = us} p a x) h = (writable a (left ts us kind.Has p h), sought x (right ts us kind.Has p h))
  writable (s.like {ts = ts} {pattern = ps} p q a x) h = (writable a (left ts (one kind.StringLit q) kind.Like p h), pattern_writable (between_quotes q.text) ps (raw_utf8 q.text (right ts (one kind.StringLit q) kind.Like p h).0) x)
  writable (s.is {ts = ts} {us = us} p a n) h = (writable a (left ts us kind.Is p h), name n)
  writable (s.is_in {ts = ts} {us = us} {vs = vs} p q a n b) h = (writable a (left ts us kind.Is p (left (ts ++ one kind.Is p ++ us) vs kind.In q h)), name n, writable b (right (ts ++ one kind.Is p ++ us) vs kind.In q h))
  writable (s.one_sum m) h = writable m h
  writable (s.added_up {bs = bs} j n) h = let r = added j h in (r.0, has_terms bs n, r.1)
  writable (s.one_product m) h = writable m h
  writable (s.multiplied {bs = bs} j n) h = let r = joined j h in (r.0, has_more bs n, r.1)
  writable (s.one_signed m) h = writable m h
  writable {table = table} {limit = limit} (s.negated {ts = ts} {us = us} {a = a} {n = n} r l m) h = nots table limit n a l (writable m (aft ts us h))
  writable {table = table} {limit = limit} (s.negative n p r l f) h = negs table limit n _ (omega (arith, l)) (negative table limit (number_of p.text) (omega (arith, l)) f)
  writable {table = table} {limit = limit} (s.opposite {ts = ts} {us = us} {a = a} {n = n} r l x m) h = negs table limit n a l (writable m (aft ts us h))
  writable (s.unsigned m) h = writable m h
  writable (s.bare m) h = writable m h
  writable {table = table} {limit = limit} (s.called {ts = ts} {us = us} {ids = ids} {id = id} {args = args} l m n x f j) h =
      let y = fore (ts ++ one kind.OpenParen l ++ us) (one kind.CloseParen m) h in
      called table limit (path_value ids id) args (name n, f, function_name n (left ts us kind.OpenParen l y) x) (no_method table ids id f.0) (listed j (right ts us kind.OpenParen l y))
  writable (s.attribute {ts = ts} {us = us} {id = id} p m i) h = (writable m (left ts us kind.Dot p h), ascii_id id (identifier i))
  writable (s.indexed {ts = ts} {us = us} l m a t) h =
      let y = fore (ts ++ one kind.OpenBracket l ++ us) (one kind.CloseBracket m) h in
      (writable a (left ts us kind.OpenBracket l y), text t (right ts us kind.OpenBracket l y))
  writable {table = table} {limit = limit} (s.method {ts = ts} {us = us} {vs = vs} p l m a i j c) h =
      let y = fore (ts ++ one kind.Dot p ++ us ++ one kind.OpenParen l ++ vs) (one kind.CloseParen m) h in
      method table limit (identifier i) c (writable a (left ts us kind.Dot p (left (ts ++ one kind.Dot p ++ us) vs kind.OpenParen l y))) (listed j (right (ts ++ one kind.Dot p ++ us) vs kind.OpenParen l y))
  writable (s.truth p) h = (tt, tt)
  writable (s.falsity p) h = (tt, tt)
  writable (s.numeral p f) h = (f, tt)
  writable (s.text t) h = (text t h, tt)
  writable (s.variable p x) h = tt
  writable (s.principal_slot p) h = tt
  writable (s.resource_slot p) h = tt
  writable (s.entity x) h = (entity x h, tt)
  writable (s.parenthesized {ts = ts} l m a) h = writable a (within kind.OpenParen kind.CloseParen l m ts h)
  writable (s.set {ts = ts} l m j) h = listed j (within kind.OpenBracket kind.CloseBracket l m ts h)
  writable (s.in_braces {ts = ts} {entries = es} l m j d) h = (entries j (within kind.OpenBrace kind.CloseBrace l m ts h), ap repeats_key (keys-fields es) ∙ d)

  joined : {table : Extensions} {limit : ℕ} {k : TokenKind} {sort : Sort} {ts : List Lexeme} {a : Value} {bs : List Value} → Joined table limit k sort ts a bs → Spelled ts → IsWritable table limit a × AreWritable table limit (values bs)
  joined (s.one_part m) h = (writable m h, tt)
  joined {table = table} {limit = limit} (s.more_parts {k = k} {ts = ts} {us = us} {b = b} {bs = bs} p j m) h = let r = joined j (left ts us k p h) in (r.0, grown table limit bs b r.1 (writable m (right ts us k p h)))

  added : {table : Extensions} {limit : ℕ} {ts : List Lexeme} {a : Value} {bs : List (AddOp × Value)} → Added table limit ts a bs → Spelled ts → IsWritable table limit a × AreWritableTerms table limit (terms bs)
  added (s.one_term m) h = (writable m h, tt)
  added {table = table} {limit = limit} (s.more_terms {ts = ts} {us = us} {b = b} {k = k} {op = o} {bs = bs} p j r m) h = let r = added j (left ts us k p h) in (r.0, grown_terms table limit bs o b r.1 (writable m (right ts us k p h)))

  listed : {table : Extensions} {limit : ℕ} {ts : List Lexeme} {xs : List Value} → Listed table limit ts xs → Spelled ts → AreWritable table limit (values xs)
  listed s.no_items h = tt
  listed (s.items j) h = joined j h
  listed (s.items_comma {ts = ts} p j) h = joined j (fore ts (one kind.Comma p) h)

  entries : {table : Extensions} {limit : ℕ} {ts : List Lexeme} {fs : List (List ℕ × Value)} → Entries table limit ts fs → Spelled ts → AreWritableFields table limit (fields fs)
  entries s.no_entries h = tt
  entries (s.entries j) h = joined_entries j h
  entries (s.entries_comma {ts = ts} p j) h = joined_entries j (fore ts (one kind.Comma p) h)

  joined_entries : {table : Extensions} {limit : ℕ} {ts : List Lexeme} {fs : List (List ℕ × Value)} → JoinedEntries table limit ts fs → Spelled ts → AreWritableFields table limit (fields fs)
  joined_entries (s.one_entry e) h = let r = entry e h in (r.0, r.1, tt)
  joined_entries {table = table} {limit = limit} (s.more_entries {ts = ts} {us = us} {fs = fs} {key = k} {a = a} p j e) h = let r = entry e (right ts us kind.Comma p h) in grown_fields table limit fs k a (joined_entries j (left ts us kind.Comma p h)) r.0 r.1

  entry : {table : Extensions} {limit : ℕ} {ts : List Lexeme} {k : List ℕ} {a : Value} → Entry table limit ts k a → Spelled ts → IsUtf8 k × IsWritable table limit a
  entry (s.entry {ts = ts} {us = us} p k m) h = (key k (left ts us kind.Colon p h), writable m (right ts us kind.Colon p h))
