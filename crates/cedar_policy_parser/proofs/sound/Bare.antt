-- What a node gives while it is converted, held against its tokens: an expression means something,
-- and what is bare is one word, name or string.
use Rattle.std.proofs.Common.{◌≡◌, ℕ, List, [], ◌∷◌, Option, Ok, refl, sym, ap, ◌∙◌}
use Rattle.cedar_lexer.specs.Token.{Lexeme}
use Rattle.cedar_lexer.specs.declared.token.TokenKind.{TokenKind}
use Rattle.cedar_lexer.specs.declared.token.TokenKind.TheVariants as kind
use Rattle.cedar_expressions.specs.declared.entity.EntityType.{EntityType}
use Rattle.cedar_expressions.specs.declared.atoms.PatternElem.{PatternElem}
use Rattle.cedar_expressions.specs.declared.atoms.Var.{Var}
use Rattle.cedar_expressions.specs.declared.atoms.Literal.TheVariants as literals
use Rattle.cedar_expressions.specs.Value as v
use Rattle.cedar_expressions.specs.Value.{Value}
use Rattle.cedar_expressions.specs.Written.{var_text}
use Rattle.cedar_syntax.specs.declared.loc.Loc.{Loc}
use Rattle.cedar_syntax.specs.tokens.Signs.{sign_limit}
use Rattle.cedar_syntax.specs.strings.Pattern.{IsPattern}
use Rattle.cedar_syntax.specs.tokens.Tokens.{Spot, one, between_quotes}
use Rattle.cedar_conversion.specs.strict.Extensions.{Extensions}
use Rattle.cedar_conversion.specs.outcome.Held.{Held, expression, variable, bare_name, bare_truth, bare_string, as_expression, as_pattern, as_entity_type, as_string, as_attribute, unqualified}
use Rattle.cedar_conversion.specs.strict.Strict as m
use Rattle.cedar_conversion.specs.strict.Strict.{Sort, Means}
use Rattle.cedar_conversion.specs.strict.StrictWords as w
use Rattle.cedar_conversion.specs.strict.StrictWords.{IsVariable, IsVariableWord, IsIdentifier, IsName, IsText, IsKey, path_value}
use Rattle.cedar_conversion.proofs.Inverted.{ok_is}
use Rattle.cedar_policy_parser.proofs.Lists.{no_snoc}
use Rattle.cedar_conversion.proofs.Quoted.{string_meant, pattern_meant}
use Rattle.cedar_policy_parser.proofs.sound.Words.{string_is_text}

-- what tokens mean under a table and the limit that there is
abbrev pub Meant : Extensions → Sort → List Lexeme → Value → Type 0
Meant e s ts x = Means e sign_limit s ts x

pub means_at : {e : Extensions} {s : Sort} {ts : List Lexeme} {x y : Value} → x ≡ y → Meant e s ts y → Meant e s ts x
means_at h i = rw h i

-- what is held of tokens at a level
abbrev pub HeldAs : Extensions → Sort → List Lexeme → Held → Type 0
HeldAs e s ts (expression place x) = Meant e s ts x
HeldAs e s ts (variable place x) = (k : TokenKind) × (p : Spot) × IsVariable k x × (ts ≡ one k p)
HeldAs e s ts (bare_name place name) = IsName ts name.path name.id × (IsVariableWord ts → ⊥)
HeldAs e s ts (bare_truth place b) = Meant e m.primary ts (v.val (literals.Bool b))
HeldAs e s ts (bare_string place raw) = (p : Spot) × (raw ≡ between_quotes p.text) × (ts ≡ one kind.StringLit p)

-- a primary at each level above
to_signed : {e : Extensions} {ts : List Lexeme} {x : Value} → Meant e m.primary ts x → Meant e m.signed ts x
to_signed h = m.unsigned (m.bare h)

to_sum : {e : Extensions} {ts : List Lexeme} {x : Value} → Meant e m.primary ts x → Meant e m.sum ts x
to_sum h = m.one_product (m.one_signed (to_signed h))

to_conjunction : {e : Extensions} {ts : List Lexeme} {x : Value} → Meant e m.primary ts x → Meant e m.conjunction ts x
to_conjunction h = m.one_relation (m.one_sum (to_sum h))

pub raised : {e : Extensions} {ts : List Lexeme} {x : Value} (s : Sort) → Meant e m.primary ts x → Meant e s ts x
raised m.expression h = m.one_disjunction (m.one_conjunction (to_conjunction h))
raised m.disjunction h = m.one_conjunction (to_conjunction h)
raised m.conjunction h = to_conjunction h
raised m.relation h = m.one_sum (to_sum h)
raised m.sum h = to_sum h
raised m.product h = m.one_signed (to_signed h)
raised m.signed h = to_signed h
raised m.member h = m.bare h
raised m.primary h = h

-- what is held at one level is held at another, if an expression's meaning is
pub held_up : (e : Extensions) {ts : List Lexeme} (s t : Sort) (h : Held) → ((x : Value) → Meant e s ts x → Meant e t ts x) → HeldAs e s ts h → HeldAs e t ts h
held_up e s t (expression place x) up i = up x i
held_up e s t (variable place x) up i = i
held_up e s t (bare_name place name) up i = i
held_up e s t (bare_truth place b) up i = i
held_up e s t (bare_string place raw) up i = i

string_text : {ts : List Lexeme} (place : Option Loc) (p : Spot) (raw text : List ℕ) → raw ≡ between_quotes p.text → ts ≡ one kind.StringLit p → as_string (bare_string place raw) ≡ Ok text → IsText ts text
string_text place p raw text same there h = rw there (string_is_text place p text (ap (λ r. as_string (bare_string place r)) (sym same) ∙ h))

-- ---- where an expression is wanted

pub held_means : (e : Extensions) {ts : List Lexeme} (s : Sort) (h : Held) (x : Value) → HeldAs e s ts h → as_expression h ≡ Ok x → Meant e s ts x
held_means e s (expression place y) x i h = means_at (sym (ok_is h)) i
held_means e s (variable place y) x i h = means_at (sym (ok_is h)) (rw i.3 (raised s (m.variable i.1 i.2)))
held_means e s (bare_name place name) x i h = cc
held_means e s (bare_truth place b) x i h = means_at (sym (ok_is h)) (raised s i)
held_means e s (bare_string place raw) x i h =
    let same : raw ≡ between_quotes i.0.text = i.1 in
    let d = string_meant place (between_quotes i.0.text) x (ap (λ r. as_expression (bare_string place r)) (sym same) ∙ h) in
    means_at d.2 (rw i.2 (raised s (m.text (w.string i.0 d.1))))

-- ---- where something else is wanted

pub held_pattern : (e : Extensions) {ts : List Lexeme} (s : Sort) (h : Held) (pattern : List PatternElem) → HeldAs e s ts h → as_pattern h ≡ Ok pattern → (q : Spot) × (ts ≡ one kind.StringLit q) × IsPattern (between_quotes q.text) pattern
held_pattern e s (expression place y) x i h = cc
held_pattern e s (variable place y) x i h = cc
held_pattern e s (bare_name place name) x i h = cc
held_pattern e s (bare_truth place b) x i h = cc
held_pattern e s (bare_string place raw) x i h = (i.0, i.2, pattern_meant place (between_quotes i.0.text) x (ap (λ r. as_pattern (bare_string place r)) (sym i.1) ∙ h))

variable_identifier : {ts : List Lexeme} {k : TokenKind} {x : Var} (p : Spot) → IsVariable k x → ts ≡ one k p → IsIdentifier ts (var_text x)
variable_identifier {x = x} p i there = rw there (w.variable_word p i)

pub held_word : (e : Extensions) {ts : List Lexeme} (s : Sort) (place : Option Loc) (x : Var) → HeldAs e s ts (variable place x) → IsIdentifier ts (var_text x)
held_word e s place x i = variable_identifier i.1 i.2 i.3

-- a name of one identifier
word_alone : {ts : List Lexeme} (ids : List (List ℕ)) (id : List ℕ) → IsName ts ids id → ids ≡ [] → IsIdentifier ts id
word_alone _ id (w.one_identifier i) h = i
word_alone _ id (w.more_identifiers {ids = ids} {id = k} p n i) h = absurd (no_snoc ids k h)

word_as : {ts : List Lexeme} (a b : List ℕ) → a ≡ b → IsIdentifier ts a → IsIdentifier ts b
word_as a b h i = rw (← h) i

pub unqualified_word : {ts : List Lexeme} (place : Option Loc) (ids : List (List ℕ)) (id text : List ℕ) → IsName ts ids id → unqualified place ids id ≡ Ok text → IsIdentifier ts text
unqualified_word place [] id text n h = word_as id text (ok_is h) (word_alone [] id n refl)
unqualified_word place (x ∷ ids) id text n h = cc

-- the type that is named, by its identifiers
pub held_type : (e : Extensions) {ts : List Lexeme} (s : Sort) (h : Held) (t : EntityType) → HeldAs e s ts h → as_entity_type h ≡ Ok t → (ids : List (List ℕ)) × (id : List ℕ) × IsName ts ids id × (t ≡ record { name = path_value ids id })
held_type e s (expression place y) t i h = cc
held_type e s (variable place y) t i h = ([], var_text y, w.one_identifier (held_word e s place y i), sym (ok_is h))
held_type e s (bare_name place name) t i h = (name.path, name.id, i.0, sym (ok_is h))
held_type e s (bare_truth place b) t i h = cc
held_type e s (bare_string place raw) t i h = cc

pub held_string : (e : Extensions) {ts : List Lexeme} (s : Sort) (h : Held) (text : List ℕ) → HeldAs e s ts h → as_string h ≡ Ok text → IsText ts text
held_string e s (expression place y) x i h = cc
held_string e s (variable place y) x i h = cc
held_string e s (bare_name place name) x i h = cc
held_string e s (bare_truth place b) x i h = cc
held_string e s (bare_string place raw) x i h = string_text place i.0 raw x i.1 i.2 h

pub held_key : (e : Extensions) {ts : List Lexeme} (s : Sort) (h : Held) (key : List ℕ) → HeldAs e s ts h → as_attribute h ≡ Ok key → IsKey ts key
held_key e s (expression place y) x i h = cc
held_key e s (variable place y) x i h = rw (← ok_is h) (w.word (held_word e s place y i))
held_key e s (bare_name place name) x i h = w.word (unqualified_word place name.path name.id x i.0 h)
held_key e s (bare_truth place b) x i h = cc
held_key e s (bare_string place raw) x i h = w.text (string_text place i.0 raw x i.1 i.2 h)
