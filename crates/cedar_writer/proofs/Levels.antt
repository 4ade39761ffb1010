-- Tokens of one sort where a looser one is wanted, and any value in parentheses.
use Rattle.std.proofs.Common.{◌≡◌, ℕ, Bool, true, false, List, [], ◌∷◌, ◌++◌, refl, sym, ap, ◌∙◌, codes, pos, negsuc}
use Rattle.cedar_lexer.specs.declared.token.TokenKind.{TokenKind}
use Rattle.std.proofs.lemmas.Bool.{cond_both}
use Rattle.cedar_lexer.specs.declared.token.TokenKind.TheVariants as kind
use Rattle.cedar_lexer.specs.Token.{Lexeme}
use Rattle.cedar_lexer.specs.Words.{TokenText, words_of}
use Rattle.cedar_expressions.specs.Value.{Value}
use Rattle.cedar_expressions.specs.WithoutPlaces.{without_places}
use Rattle.cedar_conversion.specs.strict.Extensions.{Extensions}
use Rattle.cedar_conversion.specs.strict.Strict as s
use Rattle.cedar_conversion.specs.strict.Strict.{Sort, Means, IsNumeral}
use Rattle.cedar_expressions.specs.declared.atoms.Literal.{Literal}
use Rattle.cedar_expressions.specs.declared.atoms.Literal.TheVariants as literals
use Rattle.cedar_expressions.specs.declared.atoms.Var.{Var}
use Rattle.cedar_expressions.specs.declared.atoms.Var.TheVariants as vars
use Rattle.cedar_expressions.specs.declared.atoms.SlotId.{SlotId}
use Rattle.cedar_expressions.specs.declared.atoms.SlotId.TheVariants as slots
use Rattle.cedar_expressions.specs.Path.{Path, is_unreserved_identifier}
use Rattle.cedar_expressions.specs.Value as v
use Rattle.cedar_expressions.specs.Value.{Values}
use Rattle.cedar_writer.specs.WrittenWords.{alone, dot, identifier_words, name_words, text_words, access_words}
use Rattle.cedar_writer.specs.Writing.{suits, fitted, in_parens, behind_minus, is_natural, is_natural_literal, words, sort_of, literal_words, var_words, slot_words, call_words, calls_method, method_words, function_words, listed_words, joined_words, entries_words, comma}
use Rattle.cedar_writer.proofs.Apart.{Read, token, beside, put}

abbrev K : Extensions → ℕ → Sort → Value → List Lexeme → Type 0
K table limit sort a us = Means table limit sort us a

-- the tokens mean the value, but for the places of slots
pub record M (table : Extensions) (limit : ℕ) (sort : Sort) (a : Value) (us : List Lexeme) : Type 0 where
  pub value : Value
  pub is : Means table limit sort us value
  pub same : without_places value ≡ without_places a

pub mean : {table : Extensions} {limit : ℕ} {sort : Sort} {a : Value} {us : List Lexeme} (b : Value) → Means table limit sort us b → without_places b ≡ without_places a → M table limit sort a us
mean b m e = record { value = b; is = m; same = e }

pub exactly : {table : Extensions} {limit : ℕ} {us : List Lexeme} {sort : Sort} {a : Value} → Means table limit sort us a → M table limit sort a us
exactly {a = a} m = mean a m refl

to_member : {table : Extensions} {limit : ℕ} {us : List Lexeme} {a : Value} (sort : Sort) → suits s.member sort ≡ true → K table limit sort a us → K table limit s.member a us
to_member s.expression h m = absurd (cc)
to_member s.disjunction h m = absurd (cc)
to_member s.conjunction h m = absurd (cc)
to_member s.relation h m = absurd (cc)
to_member s.sum h m = absurd (cc)
to_member s.product h m = absurd (cc)
to_member s.signed h m = absurd (cc)
to_member s.member h m = m
to_member s.primary h m = s.bare m

to_signed : {table : Extensions} {limit : ℕ} {us : List Lexeme} {a : Value} (sort : Sort) → suits s.signed sort ≡ true → K table limit sort a us → K table limit s.signed a us
to_signed s.expression h m = absurd (cc)
to_signed s.disjunction h m = absurd (cc)
to_signed s.conjunction h m = absurd (cc)
to_signed s.relation h m = absurd (cc)
to_signed s.sum h m = absurd (cc)
to_signed s.product h m = absurd (cc)
to_signed s.signed h m = m
to_signed s.member h m = s.unsigned (to_member s.member refl m)
to_signed s.primary h m = s.unsigned (to_member s.primary refl m)

to_product : {table : Extensions} {limit : ℕ} {us : List Lexeme} {a : Value} (sort : Sort) → suits s.product sort ≡ true → K table limit sort a us → K table limit s.product a us
to_product s.expression h m = absurd (cc)
to_product s.disjunction h m = absurd (cc)
to_product s.conjunction h m = absurd (cc)
to_product s.relation h m = absurd (cc)
to_product s.sum h m = absurd (cc)
to_product s.product h m = m
to_product s.signed h m = s.one_signed (to_signed s.signed refl m)
to_product s.member h m = s.one_signed (to_signed s.member refl m)
to_product s.primary h m = s.one_signed (to_signed s.primary refl m)

to_sum : {table : Extensions} {limit : ℕ} {us : List Lexeme} {a : Value} (sort : Sort) → suits s.sum sort ≡ true → K table limit sort a us → K table limit s.sum a us
to_sum s.expression h m = absurd (cc)
to_sum s.disjunction h m = absurd (cc)
to_sum s.conjunction h m = absurd (cc)
to_sum s.relation h m = absurd (cc)
to_sum s.sum h m = m
to_sum s.product h m = s.one_product (to_product s.product refl m)
to_sum s.signed h m = s.one_product (to_product s.signed refl m)
to_sum s.member h m = s.one_product (to_product s.member refl m)
to_sum s.primary h m = s.one_product (to_product s.primary refl m)

to_relation : {table : Extensions} {limit : ℕ} {us : List Lexeme} {a : Value} (sort : Sort) → suits s.relation sort ≡ true → K table limit sort a us → K table limit s.relation a us
to_relation s.expression h m = absurd (cc)
to_relation s.disjunction h m = absurd (cc)
to_relation s.conjunction h m = absurd (cc)
to_relation s.relation h m = m
to_relation s.sum h m = s.one_sum (to_sum s.sum refl m)
to_relation s.product h m = s.one_sum (to_sum s.product refl m)
to_relation s.signed h m = s.one_sum (to_sum s.signed refl m)
to_relation s.member h m = s.one_sum (to_sum s.member refl m)
to_relation s.primary h m = s.one_sum (to_sum s.primary refl m)

to_conjunction : {table : Extensions} {limit : ℕ} {us : List Lexeme} {a : Value} (sort : Sort) → suits s.conjunction sort ≡ true → K table limit sort a us → K table limit s.conjunction a us
to_conjunction s.expression h m = absurd (cc)
to_conjunction s.disjunction h m = absurd (cc)
to_conjunction s.conjunction h m = m
to_conjunction s.relation h m = s.one_relation (to_relation s.relation refl m)
to_conjunction s.sum h m = s.one_relation (to_relation s.sum refl m)
to_conjunction s.product h m = s.one_relation (to_relation s.product refl m)
to_conjunction s.signed h m = s.one_relation (to_relation s.signed refl m)
to_conjunction s.member h m = s.one_relation (to_relation s.member refl m)
to_conjunction s.primary h m = s.one_relation (to_relation s.primary refl m)

to_disjunction : {table : Extensions} {limit : ℕ} {us : List Lexeme} {a : Value} (sort : Sort) → suits s.disjunction sort ≡ true → K table limit sort a us → K table limit s.disjunction a us
to_disjunction s.expression h m = absurd (cc)
to_disjunction s.disjunction h m = m
to_disjunction s.conjunction h m = s.one_conjunction (to_conjunction s.conjunction refl m)
to_disjunction s.relation h m = s.one_conjunction (to_conjunction s.relation refl m)
to_disjunction s.sum h m = s.one_conjunction (to_conjunction s.sum refl m)
to_disjunction s.product h m = s.one_conjunction (to_conjunction s.product refl m)
to_disjunction s.signed h m = s.one_conjunction (to_conjunction s.signed refl m)
to_disjunction s.member h m = s.one_conjunction (to_conjunction s.member refl m)
to_disjunction s.primary h m = s.one_conjunction (to_conjunction s.primary refl m)

to_expression : {table : Extensions} {limit : ℕ} {us : List Lexeme} {a : Value} (sort : Sort) → suits s.expression sort ≡ true → K table limit sort a us → K table limit s.expression a us
to_expression s.expression h m = m
to_expression s.disjunction h m = s.one_disjunction (to_disjunction s.disjunction refl m)
to_expression s.conjunction h m = s.one_disjunction (to_disjunction s.conjunction refl m)
to_expression s.relation h m = s.one_disjunction (to_disjunction s.relation refl m)
to_expression s.sum h m = s.one_disjunction (to_disjunction s.sum refl m)
to_expression s.product h m = s.one_disjunction (to_disjunction s.product refl m)
to_expression s.signed h m = s.one_disjunction (to_disjunction s.signed refl m)
to_expression s.member h m = s.one_disjunction (to_disjunction s.member refl m)
to_expression s.primary h m = s.one_disjunction (to_disjunction s.primary refl m)

to_primary : {table : Extensions} {limit : ℕ} {us : List Lexeme} {a : Value} (sort : Sort) → suits s.primary sort ≡ true → K table limit sort a us → K table limit s.primary a us
to_primary s.expression h m = absurd (cc)
to_primary s.disjunction h m = absurd (cc)
to_primary s.conjunction h m = absurd (cc)
to_primary s.relation h m = absurd (cc)
to_primary s.sum h m = absurd (cc)
to_primary s.product h m = absurd (cc)
to_primary s.signed h m = absurd (cc)
to_primary s.member h m = absurd (cc)
to_primary s.primary h m = m

climbs : {table : Extensions} {limit : ℕ} {us : List Lexeme} {a : Value} (wanted sort : Sort) → suits wanted sort ≡ true → K table limit sort a us → K table limit wanted a us
climbs s.expression sort h m = to_expression sort h m
climbs s.disjunction sort h m = to_disjunction sort h m
climbs s.conjunction sort h m = to_conjunction sort h m
climbs s.relation sort h m = to_relation sort h m
climbs s.sum sort h m = to_sum sort h m
climbs s.product sort h m = to_product sort h m
climbs s.signed sort h m = to_signed sort h m
climbs s.member sort h m = to_member sort h m
climbs s.primary sort h m = to_primary sort h m

pub climb : {table : Extensions} {limit : ℕ} {us : List Lexeme} {a : Value} (wanted sort : Sort) → suits wanted sort ≡ true → M table limit sort a us → M table limit wanted a us
climb wanted sort h m = mean m.value (climbs wanted sort h m.is) m.same

primary_fits : (wanted : Sort) → suits wanted s.primary ≡ true
primary_fits s.expression = refl
primary_fits s.disjunction = refl
primary_fits s.conjunction = refl
primary_fits s.relation = refl
primary_fits s.sum = refl
primary_fits s.product = refl
primary_fits s.signed = refl
primary_fits s.member = refl
primary_fits s.primary = refl

expression_fits : (sort : Sort) → suits s.expression sort ≡ true
expression_fits s.expression = refl
expression_fits s.disjunction = refl
expression_fits s.conjunction = refl
expression_fits s.relation = refl
expression_fits s.sum = refl
expression_fits s.product = refl
expression_fits s.signed = refl
expression_fits s.member = refl
expression_fits s.primary = refl

-- as an expression
pub frees : {table : Extensions} {limit : ℕ} {us : List Lexeme} {a : Value} (sort : Sort) → K table limit sort a us → K table limit s.expression a us
frees sort m = climbs s.expression sort (expression_fits sort) m

pub free : {table : Extensions} {limit : ℕ} {us : List Lexeme} {a : Value} (sort : Sort) → M table limit sort a us → M table limit s.expression a us
free sort m = climb s.expression sort (expression_fits sort) m

pub parens : {table : Extensions} {limit : ℕ} {a : Value} {ws : List TokenText} (wanted sort : Sort) → Read ws (M table limit sort a) → Read (in_parens ws) (M table limit wanted a)
parens {table = table} {limit = limit} {a = a} {ws = ws} wanted sort r =
    put (M table limit wanted a) kind.CloseParen (codes ")")
    (beside _ (M table limit sort a) r
    (token _ kind.OpenParen (codes "(") (λ l x ts m n y. mean m.value (climbs wanted s.primary (primary_fits wanted) (s.parenthesized l n (frees sort m.is))) m.same)))

-- where this sort is wanted
pub at : {table : Extensions} {limit : ℕ} {a : Value} {ws : List TokenText} (wanted sort : Sort) → Read ws (M table limit sort a) → Read (fitted wanted sort ws) (M table limit wanted a)
at {table = table} {limit = limit} {a = a} {ws = ws} wanted sort r =
    cond_both (suits wanted sort) ws (in_parens ws) (λ xs. Read xs (M table limit wanted a))
    (λ e us f. climb wanted sort e (r us f))
    (λ e. parens wanted sort r)

-- ---- behind a `-`

abbrev is_number_kind : TokenKind → Bool
is_number_kind kind.Number = true
is_number_kind k = false

abbrev is_number : List TokenText → Bool
is_number [] = false
is_number (w ∷ []) = is_number_kind w.kind
is_number (w ∷ u ∷ ws) = false

true_false : true ≡ false → ⊥
true_false e = cc

no_numeral : (us : List Lexeme) → is_number (words_of us) ≡ false → IsNumeral us → ⊥
no_numeral [] e h = h
no_numeral (t ∷ []) e h = true_false (sym (ap is_number_kind h) ∙ e)
no_numeral (t ∷ u ∷ us) e h = h

parens_no_number : (ws : List TokenText) → is_number (in_parens ws) ≡ false
parens_no_number [] = refl
parens_no_number (w ∷ ws) = refl

-- two words at the end, or one that is no number
two_behind : (ws : List TokenText) (x y : TokenText) → is_number ((ws ++ x ∷ []) ++ y ∷ []) ≡ false
two_behind [] x y = refl
two_behind (w ∷ []) x y = refl
two_behind (w ∷ v ∷ ws) x y = refl

one_behind : (ws : List TokenText) (k : TokenKind) (t : List ℕ) → is_number_kind k ≡ false → is_number (ws ++ alone k t) ≡ false
one_behind [] k t e = e
one_behind (w ∷ []) k t e = refl
one_behind (w ∷ v ∷ ws) k t e = refl

access_no_number : (attr : List ℕ) (ws : List TokenText) → is_number (access_words attr ws) ≡ false
access_no_number attr ws =
    cond_both (is_unreserved_identifier attr) (ws ++ dot ++ identifier_words attr) (ws ++ alone kind.OpenBracket (codes "[") ++ text_words attr ++ alone kind.CloseBracket (codes "]")) (λ xs. is_number xs ≡ false)
    (λ e. two_behind ws _ _)
    (λ e. one_behind (ws ++ alone kind.OpenBracket (codes "[") ++ text_words attr) kind.CloseBracket (codes "]") refl)

call_no_number : (table : Extensions) (args : Values) (name : Path) → is_number (call_words table args name) ≡ false
unfolding words
call_no_number table v.none name = one_behind (name_words name ++ alone kind.OpenParen (codes "(") ++ []) kind.CloseParen (codes ")") refl
call_no_number table (v.more a args) name =
    cond_both (calls_method table name) (method_words (fitted s.member (sort_of a) (words table a)) name.id (listed_words table args)) (function_words (name_words name) (joined_words table args comma s.expression (words table a))) (λ xs. is_number xs ≡ false)
    (λ e. one_behind (fitted s.member (sort_of a) (words table a) ++ dot ++ identifier_words name.id ++ alone kind.OpenParen (codes "(") ++ listed_words table args) kind.CloseParen (codes ")") refl)
    (λ e. one_behind (name_words name ++ alone kind.OpenParen (codes "(") ++ joined_words table args comma s.expression (words table a)) kind.CloseParen (codes ")") refl)

method_no_number : (target : List TokenText) (id : List ℕ) (args : List TokenText) → is_number (method_words target id args) ≡ false
method_no_number target id args = one_behind (target ++ dot ++ identifier_words id ++ alone kind.OpenParen (codes "(") ++ args) kind.CloseParen (codes ")") refl

literal_no_number : (l : Literal) → is_natural_literal l ≡ false → is_number (literal_words l) ≡ false
literal_no_number (literals.Bool true) n = refl
literal_no_number (literals.Bool false) n = refl
literal_no_number (literals.Long (pos k)) n = absurd (true_false n)
literal_no_number (literals.Long (negsuc k)) n = refl
literal_no_number (literals.String text) n = refl
literal_no_number (literals.EntityUID uid) n = two_behind (name_words uid.entity_type.name) _ _

var_no_number : (x : Var) → is_number (var_words x) ≡ false
var_no_number vars.Principal = refl
var_no_number vars.Action = refl
var_no_number vars.Resource = refl
var_no_number vars.Context = refl

slot_no_number : (x : SlotId) → is_number (slot_words x) ≡ false
slot_no_number slots.Principal = refl
slot_no_number slots.Resource = refl

-- what stands bare behind a `-` and is no natural number is no NUMBER alone
pub no_number : (table : Extensions) (a : Value) → is_natural a ≡ false → suits s.member (sort_of a) ≡ true → is_number (words table a) ≡ false
unfolding words
no_number table (v.val l) n f = literal_no_number l n
no_number table (v.var x) n f = var_no_number x
no_number table (v.slot x) n f = slot_no_number x.id
no_number table (v.get_attr a attr) n f = access_no_number attr (fitted s.member (sort_of a) (words table a))
no_number table (v.contains a b) n f = method_no_number (fitted s.member (sort_of a) (words table a)) (codes "contains") (words table b)
no_number table (v.contains_all a b) n f = method_no_number (fitted s.member (sort_of a) (words table a)) (codes "containsAll") (words table b)
no_number table (v.contains_any a b) n f = method_no_number (fitted s.member (sort_of a) (words table a)) (codes "containsAny") (words table b)
no_number table (v.get_tag a b) n f = method_no_number (fitted s.member (sort_of a) (words table a)) (codes "getTag") (words table b)
no_number table (v.has_tag a b) n f = method_no_number (fitted s.member (sort_of a) (words table a)) (codes "hasTag") (words table b)
no_number table (v.is_empty a) n f = method_no_number (fitted s.member (sort_of a) (words table a)) (codes "isEmpty") []
no_number table (v.call_extension_fn name args) n f = call_no_number table args name
no_number table (v.set items) n f = one_behind (alone kind.OpenBracket (codes "[") ++ listed_words table items) kind.CloseBracket (codes "]") refl
no_number table (v.«record» pairs) n f = one_behind (alone kind.OpenBrace (codes "{") ++ entries_words table pairs) kind.CloseBrace (codes "}") refl
no_number table (v.ite a b c) n f = absurd (true_false (sym f))
no_number table (v.not a) n f = absurd (true_false (sym f))
no_number table (v.neg a) n f = absurd (true_false (sym f))
no_number table (v.and a b) n f = absurd (true_false (sym f))
no_number table (v.or_nary a bs) n f = absurd (true_false (sym f))
no_number table (v.and_naryl a bs) n f = absurd (true_false (sym f))
no_number table (v.add_nary a ts) n f = absurd (true_false (sym f))
no_number table (v.mul_nary a bs) n f = absurd (true_false (sym f))
no_number table (v.less a b) n f = absurd (true_false (sym f))
no_number table (v.lesseq a b) n f = absurd (true_false (sym f))
no_number table (v.greater a b) n f = absurd (true_false (sym f))
no_number table (v.greatereq a b) n f = absurd (true_false (sym f))
no_number table (v.is_eq a b) n f = absurd (true_false (sym f))
no_number table (v.noteq a b) n f = absurd (true_false (sym f))
no_number table (v.is_in a b) n f = absurd (true_false (sym f))
no_number table (v.like a ps) n f = absurd (true_false (sym f))
no_number table (v.is_entity_type a t) n f = absurd (true_false (sym f))
no_number table (v.is_in_entity_type a t b) n f = absurd (true_false (sym f))
no_number table (v.extended_has_attr a first rest) n f = absurd (true_false (sym f))

abbrev pub Negated : Extensions → ℕ → Value → List Lexeme → Type 0
Negated table limit a us = (IsNumeral us → ⊥) × M table limit s.member a us

negated_by : {table : Extensions} {limit : ℕ} {a : Value} (ws : List TokenText) → is_number ws ≡ false → Read ws (M table limit s.member a) → Read ws (Negated table limit a)
negated_by ws h r us e = (no_numeral us (ap is_number e ∙ h), r us e)

bare_no_number : (sort : Sort) (ws : List TokenText) → (suits s.member sort ≡ true → is_number ws ≡ false) → is_number (fitted s.member sort ws) ≡ false
bare_no_number sort ws h = cond_both (suits s.member sort) ws (in_parens ws) (λ xs. is_number xs ≡ false) h (λ e. parens_no_number ws)

pub negated : {table : Extensions} {limit : ℕ} (a : Value) → Read (words table a) (M table limit (sort_of a) a) → Read (behind_minus (is_natural a) (sort_of a) (words table a)) (Negated table limit a)
negated {table = table} {limit = limit} a r =
    cond_both (is_natural a) (in_parens (words table a)) (fitted s.member (sort_of a) (words table a)) (λ xs. Read xs (Negated table limit a))
    (λ e. negated_by (in_parens (words table a)) (parens_no_number (words table a)) (parens s.member (sort_of a) r))
    (λ e. negated_by (fitted s.member (sort_of a) (words table a)) (bare_no_number (sort_of a) (words table a) (no_number table a e)) (at s.member (sort_of a) r))
