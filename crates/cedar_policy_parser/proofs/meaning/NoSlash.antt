-- Tokens that mean a set hold no `/`.
use Rattle.std.proofs.Common.{◌≡◌, ℕ, Bool, true, false, List, [], ◌∷◌, ◌++◌, refl}
use Rattle.cedar_lexer.specs.Token.{Lexeme}
use Rattle.cedar_lexer.specs.declared.token.TokenKind.{TokenKind}
use Rattle.cedar_lexer.specs.declared.token.TokenKind.TheVariants as kind
use Rattle.cedar_expressions.specs.Value.{Value}
use Rattle.cedar_expressions.specs.declared.entity.EntityUID.{EntityUID}
use Rattle.cedar_expressions.specs.declared.atoms.Var.{Var}
use Rattle.cedar_expressions.specs.declared.operators.AddOp.{AddOp}
use Rattle.cedar_policy_store.specs.declared.constraints.ActionConstraint.{ActionConstraint}
use Rattle.cedar_policy_store.specs.declared.effect.Effect.{Effect}
use Rattle.cedar_policy_store.specs.PlaceFree.{Constraint, Reference, Policy, Policies}
use Rattle.cedar_syntax.specs.tokens.Signs.{ReadsSigns, one_sign, more_signs, ReadsAddOp, plus, minus}
use Rattle.cedar_syntax.specs.tokens.Tokens.{Spot, one}
use Rattle.cedar_conversion.specs.strict.Extensions.{Extensions}
use Rattle.cedar_conversion.specs.strict.Strict as m
use Rattle.cedar_conversion.specs.strict.Strict.{Sort, Means, Joined, Added, Listed, Entries, JoinedEntries, Entry, Relates}
use Rattle.cedar_policy_parser.specs.meaning.StrictPolicy as p
use Rattle.cedar_policy_parser.specs.meaning.StrictPolicy.{IsReservedWord, IsAnyWord, IsAnnotation, AreAnnotations, IsCondition, AreConditions, IsEffect, IsPolicy, ArePolicies, IsPolicySet}
use Rattle.cedar_policy_parser.specs.meaning.StrictScope as s
use Rattle.cedar_policy_parser.specs.meaning.StrictScope.{IsEntityAlone, IsReference, AreEntities, IsEntityList, AreActions, Asks, AsksAction, IsLastComma, IsScope}
use Rattle.cedar_conversion.specs.strict.StrictWords as w
use Rattle.cedar_conversion.specs.strict.StrictWords.{IsVariable, IsIdentifier, IsName, AreAttributes, IsText, IsSought, IsKey, IsEntity}

abbrev pub is_slash : TokenKind → Bool
is_slash kind.Slash = true
is_slash _ = false

abbrev pub NoneIsSlash : List Lexeme → Type 0
NoneIsSlash [] = Unit {0}
NoneIsSlash (t ∷ ts) = (is_slash t.kind ≡ false) × NoneIsSlash ts

pub record NoSlash (ts : List Lexeme) : Type 0 where
  pub none : NoneIsSlash ts

both_none : (ts us : List Lexeme) → NoneIsSlash ts → NoneIsSlash us → NoneIsSlash (ts ++ us)
both_none [] us h k = k
both_none (t ∷ ts) us h k = (h.0, both_none ts us h.1 k)

empty : NoSlash []
empty = record { none = tt }

it : (k : TokenKind) (q : Spot) → is_slash k ≡ false → NoSlash (one k q)
it k q h = record { none = (h, tt) }

app : {ts us : List Lexeme} → NoSlash ts → NoSlash us → NoSlash (ts ++ us)
app {ts = ts} {us = us} h k = record { none = both_none ts us h.none k.none }

around : {ts : List Lexeme} (j k : TokenKind) (l n : Spot) → is_slash j ≡ false → is_slash k ≡ false → NoSlash ts → NoSlash (one j l ++ ts ++ one k n)
around j k l n g h i = app (app (it j l g) i) (it k n h)

between : {ts us : List Lexeme} (k : TokenKind) (q : Spot) → is_slash k ≡ false → NoSlash ts → NoSlash us → NoSlash (ts ++ one k q ++ us)
between k q h i j = app (app i (it k q h)) j

variable : {k : TokenKind} {x : Var} → IsVariable k x → is_slash k ≡ false
variable w.principal = refl
variable w.action = refl
variable w.resource = refl
variable w.context = refl

identifier : {ts : List Lexeme} {id : List ℕ} → IsIdentifier ts id → NoSlash ts
identifier (w.variable_word {k = k} q v) = it k q (variable v)
identifier (w.permit q) = it kind.Permit q refl
identifier (w.forbid q) = it kind.Forbid q refl
identifier (w.when q) = it kind.When q refl
identifier (w.unless q) = it kind.Unless q refl
identifier (w.identifier q h) = it kind.Identifier q refl

name : {ts : List Lexeme} {ids : List (List ℕ)} {id : List ℕ} → IsName ts ids id → NoSlash ts
name (w.one_identifier i) = identifier i
name (w.more_identifiers q n i) = between kind.ColonColon q refl (name n) (identifier i)

attributes : {ts : List Lexeme} {id : List ℕ} {ids : List (List ℕ)} → AreAttributes ts id ids → NoSlash ts
attributes (w.one_attribute i) = identifier i
attributes (w.more_attributes q a i) = between kind.Dot q refl (attributes a) (identifier i)

text : {ts : List Lexeme} {t : List ℕ} → IsText ts t → NoSlash ts
text (w.string q u) = it kind.StringLit q refl

sought : {ts : List Lexeme} {id : List ℕ} {ids : List (List ℕ)} → IsSought ts id ids → NoSlash ts
sought (w.attributes a) = attributes a
sought (w.text t) = text t

key : {ts : List Lexeme} {k : List ℕ} → IsKey ts k → NoSlash ts
key (w.word i) = identifier i
key (w.text t) = text t

entity : {ts : List Lexeme} {uid : EntityUID} → IsEntity ts uid → NoSlash ts
entity (w.entity q n t) = between kind.ColonColon q refl (name n) (text t)

relates : {k : TokenKind} {a b c : Value} → Relates k a b c → is_slash k ≡ false
relates m.less = refl
relates m.less_eq = refl
relates m.greater_eq = refl
relates m.greater = refl
relates m.not_eq = refl
relates m.equal = refl
relates m.within = refl

signs : {k : TokenKind} {ts : List Lexeme} {n : ℕ} → is_slash k ≡ false → ReadsSigns k ts n → NoSlash ts
signs {k = k} h (one_sign q) = it k q h
signs {k = k} h (more_signs q r) = app (signs h r) (it k q h)

add_op : {k : TokenKind} {o : AddOp} → ReadsAddOp k o → is_slash k ≡ false
add_op plus = refl
add_op minus = refl

mutual
  means : {e : Extensions} {limit : ℕ} {s : Sort} {ts : List Lexeme} {a : Value} → Means e limit s ts a → NoSlash ts
  means (m.conditional l n o a b c) = between kind.Else o refl (between kind.Then n refl (app (it kind.If l refl) (means a)) (means b)) (means c)
  means (m.one_disjunction a) = means a
  means (m.disjoined j n) = joined refl j
  means (m.one_conjunction a) = means a
  means (m.conjoined j n) = joined refl j
  means (m.one_relation a) = means a
  means (m.related {k = k} q a r b) = between k q (relates r) (means a) (means b)
  means (m.has q a s) = between kind.Has q refl (means a) (sought s)
  means (m.like q r a s) = between kind.Like q refl (means a) (it kind.StringLit r refl)
  means (m.is q a n) = between kind.Is q refl (means a) (name n)
  means (m.is_in q r a n b) = between kind.In r refl (between kind.Is q refl (means a) (name n)) (means b)
  means (m.one_sum a) = means a
  means (m.added_up j n) = added j
  means (m.one_product a) = means a
  means (m.multiplied j n) = joined refl j
  means (m.one_signed a) = means a
  means (m.negated s n a) = app (signs refl s) (means a)
  means (m.negative n q s l f) = app (signs refl s) (it kind.Number q refl)
  means (m.opposite s n x a) = app (signs refl s) (means a)
  means (m.unsigned a) = means a
  means (m.bare a) = means a
  means (m.called l n i v f a) = app (app (app (name i) (it kind.OpenParen l refl)) (listed a)) (it kind.CloseParen n refl)
  means (m.attribute q a i) = between kind.Dot q refl (means a) (identifier i)
  means (m.indexed l n a t) = app (app (app (means a) (it kind.OpenBracket l refl)) (text t)) (it kind.CloseBracket n refl)
  means (m.method q l n a i b c) = app (app (app (between kind.Dot q refl (means a) (identifier i)) (it kind.OpenParen l refl)) (listed b)) (it kind.CloseParen n refl)
  means (m.truth q) = it kind.True q refl
  means (m.falsity q) = it kind.False q refl
  means (m.numeral q f) = it kind.Number q refl
  means (m.text t) = text t
  means (m.variable {k = k} q v) = it k q (variable v)
  means (m.principal_slot q) = it kind.PrincipalSlot q refl
  means (m.resource_slot q) = it kind.ResourceSlot q refl
  means (m.entity t) = entity t
  means (m.parenthesized l n a) = around kind.OpenParen kind.CloseParen l n refl refl (means a)
  means (m.set l n a) = around kind.OpenBracket kind.CloseBracket l n refl refl (listed a)
  means (m.in_braces l n a d) = around kind.OpenBrace kind.CloseBrace l n refl refl (entries a)

  joined : {e : Extensions} {limit : ℕ} {k : TokenKind} {s : Sort} {ts : List Lexeme} {a : Value} {bs : List Value} → is_slash k ≡ false → Joined e limit k s ts a bs → NoSlash ts
  joined h (m.one_part a) = means a
  joined {k = k} h (m.more_parts q j a) = between k q h (joined h j) (means a)

  added : {e : Extensions} {limit : ℕ} {ts : List Lexeme} {a : Value} {bs : List (AddOp × Value)} → Added e limit ts a bs → NoSlash ts
  added (m.one_term a) = means a
  added (m.more_terms {k = k} q j o a) = between k q (add_op o) (added j) (means a)

  listed : {e : Extensions} {limit : ℕ} {ts : List Lexeme} {xs : List Value} → Listed e limit ts xs → NoSlash ts
  listed m.no_items = empty
  listed (m.items j) = joined refl j
  listed (m.items_comma q j) = app (joined refl j) (it kind.Comma q refl)

  entries : {e : Extensions} {limit : ℕ} {ts : List Lexeme} {fs : List (List ℕ × Value)} → Entries e limit ts fs → NoSlash ts
  entries m.no_entries = empty
  entries (m.entries j) = joined_entries j
  entries (m.entries_comma q j) = app (joined_entries j) (it kind.Comma q refl)

  joined_entries : {e : Extensions} {limit : ℕ} {ts : List Lexeme} {fs : List (List ℕ × Value)} → JoinedEntries e limit ts fs → NoSlash ts
  joined_entries (m.one_entry a) = entry a
  joined_entries (m.more_entries q j a) = between kind.Comma q refl (joined_entries j) (entry a)

  entry : {e : Extensions} {limit : ℕ} {ts : List Lexeme} {k : List ℕ} {a : Value} → Entry e limit ts k a → NoSlash ts
  entry (m.entry q k a) = between kind.Colon q refl (key k) (means a)

-- ---- scopes

entity_alone : {ts : List Lexeme} {uid : EntityUID} → IsEntityAlone ts uid → NoSlash ts
entity_alone (s.bare_entity i) = entity i
entity_alone (s.entity_in_parentheses l n i) = around kind.OpenParen kind.CloseParen l n refl refl (entity_alone i)

reference : {slot : TokenKind} {ts : List Lexeme} {r : Reference} → is_slash slot ≡ false → IsReference slot ts r → NoSlash ts
reference h (s.to_entity i) = entity i
reference {slot = slot} h (s.to_slot q) = it slot q h
reference h (s.in_parentheses l n i) = around kind.OpenParen kind.CloseParen l n refl refl (reference h i)

are_entities : {ts : List Lexeme} {uids : List EntityUID} → AreEntities ts uids → NoSlash ts
are_entities (s.first_entity i) = entity_alone i
are_entities (s.more_entities q j i) = between kind.Comma q refl (are_entities j) (entity_alone i)

entity_list : {ts : List Lexeme} {uids : List EntityUID} → IsEntityList ts uids → NoSlash ts
entity_list s.no_entities = empty
entity_list (s.listed i) = are_entities i
entity_list (s.listed_comma q i) = app (are_entities i) (it kind.Comma q refl)

actions : {ts : List Lexeme} {uids : List EntityUID} → AreActions ts uids → NoSlash ts
actions (s.one_action i) = entity i
actions (s.action_set l n i) = around kind.OpenBracket kind.CloseBracket l n refl refl (entity_list i)
actions (s.actions_in_parentheses l n i) = around kind.OpenParen kind.CloseParen l n refl refl (actions i)

asks : {slot : TokenKind} {ts : List Lexeme} {c : Constraint} → is_slash slot ≡ false → Asks slot ts c → NoSlash ts
asks h s.nothing = empty
asks h (s.to_be q i) = app (it kind.EqEq q refl) (reference h i)
asks h (s.to_be_in q i) = app (it kind.In q refl) (reference h i)
asks h (s.to_be_of_type q n) = app (it kind.Is q refl) (name n)
asks h (s.to_be_of_type_in q o n i) = between kind.In o refl (app (it kind.Is q refl) (name n)) (reference h i)

asks_action : {ts : List Lexeme} {c : ActionConstraint} → AsksAction ts c → NoSlash ts
asks_action s.nothing = empty
asks_action (s.to_be q i t) = app (it kind.EqEq q refl) (entity_alone i)
asks_action (s.to_be_in q i t) = app (it kind.In q refl) (actions i)

last_comma : {ts : List Lexeme} → IsLastComma ts → NoSlash ts
last_comma s.no_comma = empty
last_comma (s.last_comma q) = it kind.Comma q refl

scope : {ts : List Lexeme} {c d : Constraint} {e : ActionConstraint} → IsScope ts c e d → NoSlash ts
scope (s.scope p l q n r i j k c) =
    app (between kind.Comma n refl (between kind.Comma l refl (app (it kind.Principal p refl) (asks refl i)) (app (it kind.Action q refl) (asks_action j))) (app (it kind.Resource r refl) (asks refl k))) (last_comma c)

-- ---- policies

reserved : {k : TokenKind} {t : List ℕ} → IsReservedWord k t → is_slash k ≡ false
reserved p.true_word = refl
reserved p.false_word = refl
reserved p.if_word = refl
reserved p.then_word = refl
reserved p.else_word = refl
reserved p.in_word = refl
reserved p.is_word = refl
reserved p.has_word = refl
reserved p.like_word = refl

any_word : {ts : List Lexeme} {t : List ℕ} → IsAnyWord ts t → NoSlash ts
any_word (p.reserved {k = k} q r) = it k q (reserved r)
any_word (p.unreserved i) = identifier i
any_word (p.any_identifier q h) = it kind.Identifier q refl

annotation : {ts : List Lexeme} {k t : List ℕ} → IsAnnotation ts k t → NoSlash ts
annotation (p.key_alone q i) = app (it kind.At q refl) (any_word i)
annotation (p.with_text q l n i t) = app (app (app (app (it kind.At q refl) (any_word i)) (it kind.OpenParen l refl)) (text t)) (it kind.CloseParen n refl)

annotations : {ts : List Lexeme} {all : List (List ℕ × List ℕ)} → AreAnnotations ts all → NoSlash ts
annotations p.no_annotation = empty
annotations (p.more_annotations a b) = app (annotations a) (annotation b)

condition : {e : Extensions} {limit : ℕ} {ts : List Lexeme} {a : Value} → IsCondition e limit ts a → NoSlash ts
condition (p.when q l n a s) = app (app (app (it kind.When q refl) (it kind.OpenBrace l refl)) (means a)) (it kind.CloseBrace n refl)
condition (p.unless q l n a s) = app (app (app (it kind.Unless q refl) (it kind.OpenBrace l refl)) (means a)) (it kind.CloseBrace n refl)

conditions : {e : Extensions} {limit : ℕ} {ts : List Lexeme} {cs : List Value} → AreConditions e limit ts cs → NoSlash ts
conditions p.no_condition = empty
conditions (p.more_conditions cs c) = app (conditions cs) (condition c)

effect : {k : TokenKind} {x : Effect} → IsEffect k x → is_slash k ≡ false
effect p.permit = refl
effect p.forbid = refl

policy : {e : Extensions} {limit : ℕ} {id : List ℕ} {ts : List Lexeme} {x : Policy} → IsPolicy e limit id ts x → NoSlash ts
policy (p.policy {k = k} q l n z a d f i c) = app (app (app (app (app (app (annotations a) (it k q (effect f))) (it kind.OpenParen l refl)) (scope i)) (it kind.CloseParen n refl)) (conditions c)) (it kind.Semicolon z refl)

policies : {e : Extensions} {limit : ℕ} {ts : List Lexeme} {xs : List Policy} → ArePolicies e limit ts xs → NoSlash ts
policies p.no_policy = empty
policies (p.more_policies xs x) = app (policies xs) (policy x)

pub no_slash : {e : Extensions} {limit : ℕ} {ts : List Lexeme} {set : Policies} → IsPolicySet e limit ts set → NoSlash ts
no_slash (p.policy_set xs) = policies xs
