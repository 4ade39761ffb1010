-- `has`, `like`, `is`, `is .. in` and `if`, of what their sides give.
use Rattle.std.proofs.Common.{◌≡◌, ℕ, List, ◌++◌, Option, Ok}
use Rattle.cedar_lexer.specs.Token.{Lexeme}
use Rattle.cedar_lexer.specs.declared.token.TokenKind.TheVariants as kind
use Rattle.cedar_expressions.specs.declared.entity.EntityType.{EntityType}
use Rattle.cedar_expressions.specs.declared.atoms.PatternElem.{PatternElem}
use Rattle.cedar_expressions.specs.Value as v
use Rattle.cedar_expressions.specs.Value.{Value}
use Rattle.cedar_syntax.specs.declared.loc.Loc.{Loc}
use Rattle.cedar_syntax.specs.strings.Pattern.{IsPattern}
use Rattle.cedar_syntax.specs.tokens.Tokens.{Spot, one, between_quotes}
use Rattle.cedar_conversion.specs.outcome.Conversion.{match_outcome, beside_type, type_test_outcome, type_within_outcome, with_attributes, conditional_outcome}
use Rattle.cedar_conversion.specs.strict.Extensions.{Extensions}
use Rattle.cedar_conversion.specs.parts.HasSide.{Attributes}
use Rattle.cedar_conversion.specs.outcome.Held.{Held, as_pattern, as_entity_type}
use Rattle.cedar_conversion.specs.outcome.Outcome.{Outcome, both, next}
use Rattle.cedar_conversion.specs.strict.Strict as m
use Rattle.cedar_conversion.specs.strict.StrictWords.{IsName, IsSought, path_value}
use Rattle.cedar_conversion.proofs.Inverted.{ok_is, next_ok, both_ok}
use Rattle.cedar_policy_parser.proofs.sound.Bare.{Meant, HeldAs, held_pattern, held_type}
use Rattle.cedar_policy_parser.proofs.sound.Leaves.{held_as}

pub has_held : (e : Extensions) (ts us : List Lexeme) (p : Spot) (place : Option Loc) (side : Outcome Attributes) (x : Outcome Value) (h : Held) → ((r : Attributes) → side ≡ Ok r → IsSought us r.0 r.1) → ((a : Value) → x ≡ Ok a → Meant e m.sum ts a)
    → next side (λ r. next x (with_attributes place r)) ≡ Ok h → HeldAs e m.relation (ts ++ one kind.Has p ++ us) h
has_held e ts us p place side x h sought i k =
    let a = next_ok side _ h k in
    let b = next_ok x (with_attributes place a.0) h a.2 in
    held_as e m.relation _ _ h (ok_is b.2) (m.has p (i b.0 b.1) (sought a.0 a.1))

like_at : (e : Extensions) (ts us : List Lexeme) (p q : Spot) (a : Value) (pattern : List PatternElem) → us ≡ one kind.StringLit q → Meant e m.sum ts a → IsPattern (between_quotes q.text) pattern → Meant e m.relation (ts ++ one kind.Like p ++ us) (v.like a pattern)
like_at e ts us p q a pattern there i j = rw there (m.like p q i j)

pub like_held : (e : Extensions) (ts us : List Lexeme) (p : Spot) (place : Option Loc) (side : Outcome Held) (x : Outcome Value) (h : Held) → ((s : Held) → side ≡ Ok s → HeldAs e m.sum us s) → ((a : Value) → x ≡ Ok a → Meant e m.sum ts a)
    → next side (λ s. next (both x (as_pattern s)) (match_outcome place)) ≡ Ok h → HeldAs e m.relation (ts ++ one kind.Like p ++ us) h
like_held e ts us p place side x h right i k =
    let a = next_ok side _ h k in
    let b = next_ok (both x (as_pattern a.0)) (match_outcome place) h a.2 in
    let c = both_ok x (as_pattern a.0) b.0 b.1 in
    let d = held_pattern e m.sum a.0 b.0.1 (right a.0 a.1) c.1 in
    held_as e m.relation _ _ h (ok_is b.2) (like_at e ts us p d.0 b.0.0 b.0.1 d.1 (i b.0.0 c.0) d.2)

-- a value and a type beside it
pub beside_held : (e : Extensions) (us : List Lexeme) (side : Outcome Held) (x : Outcome Value) (q : Value × EntityType) → ((s : Held) → side ≡ Ok s → HeldAs e m.sum us s) → next side (beside_type x) ≡ Ok q
    → (ids : List (List ℕ)) × (id : List ℕ) × IsName us ids id × (q.1 ≡ record { name = path_value ids id }) × (x ≡ Ok q.0)
beside_held e us side x q right k =
    let a = next_ok side (beside_type x) q k in
    let c = both_ok x (as_entity_type a.0) q a.2 in
    let d = held_type e m.sum a.0 q.1 (right a.0 a.1) c.1 in
    (d.0, d.1, d.2, d.3, c.0)

is_at : (e : Extensions) (ts us : List Lexeme) (p : Spot) (a : Value) (ids : List (List ℕ)) (id : List ℕ) (t : EntityType) → t ≡ record { name = path_value ids id } → Meant e m.sum ts a → IsName us ids id → Meant e m.relation (ts ++ one kind.Is p ++ us) (v.is_entity_type a t)
is_at e ts us p a ids id t same i n = rw same (m.is p i n)

pub is_held : (e : Extensions) (ts us : List Lexeme) (p : Spot) (place : Option Loc) (side : Outcome Held) (x : Outcome Value) (h : Held) → ((s : Held) → side ≡ Ok s → HeldAs e m.sum us s) → ((a : Value) → x ≡ Ok a → Meant e m.sum ts a)
    → next (next side (beside_type x)) (type_test_outcome place) ≡ Ok h → HeldAs e m.relation (ts ++ one kind.Is p ++ us) h
is_held e ts us p place side x h right i k =
    let a = next_ok (next side (beside_type x)) (type_test_outcome place) h k in
    let d = beside_held e us side x a.0 right a.1 in
    held_as e m.relation _ _ h (ok_is a.2) (is_at e ts us p a.0.0 d.0 d.1 a.0.1 d.3 (i a.0.0 d.4) d.2)

is_in_at : (e : Extensions) (ts us vs : List Lexeme) (p q : Spot) (a b : Value) (ids : List (List ℕ)) (id : List ℕ) (t : EntityType) → t ≡ record { name = path_value ids id } → Meant e m.sum ts a → IsName us ids id → Meant e m.sum vs b
    → Meant e m.relation (ts ++ one kind.Is p ++ us ++ one kind.In q ++ vs) (v.is_in_entity_type a t b)
is_in_at e ts us vs p q a b ids id t same i n j = rw same (m.is_in p q i n j)

pub is_in_held : (e : Extensions) (ts us vs : List Lexeme) (p q : Spot) (place : Option Loc) (side : Outcome Held) (x y : Outcome Value) (h : Held) → ((s : Held) → side ≡ Ok s → HeldAs e m.sum us s) → ((a : Value) → x ≡ Ok a → Meant e m.sum ts a)
    → ((b : Value) → y ≡ Ok b → Meant e m.sum vs b) → next (next side (beside_type x)) (λ t. next y (type_within_outcome place t)) ≡ Ok h → HeldAs e m.relation (ts ++ one kind.Is p ++ us ++ one kind.In q ++ vs) h
is_in_held e ts us vs p q place side x y h right i j k =
    let a = next_ok (next side (beside_type x)) _ h k in
    let b = next_ok y (type_within_outcome place a.0) h a.2 in
    let d = beside_held e us side x a.0 right a.1 in
    held_as e m.relation _ _ h (ok_is b.2) (is_in_at e ts us vs p q a.0.0 b.0 d.0 d.1 a.0.1 d.3 (i a.0.0 d.4) d.2 (j b.0 b.1))

pub if_held : (e : Extensions) (ts us vs : List Lexeme) (l n o : Spot) (place : Option Loc) (x y z : Outcome Value) (h : Held) → ((a : Value) → x ≡ Ok a → Meant e m.expression ts a) → ((a : Value) → y ≡ Ok a → Meant e m.expression us a)
    → ((a : Value) → z ≡ Ok a → Meant e m.expression vs a) → next (both (both x y) z) (conditional_outcome place) ≡ Ok h → HeldAs e m.expression (one kind.If l ++ ts ++ one kind.Then n ++ us ++ one kind.Else o ++ vs) h
if_held e ts us vs l n o place x y z h i j r k =
    let a = next_ok (both (both x y) z) (conditional_outcome place) h k in
    let b = both_ok (both x y) z a.0 a.1 in
    let c = both_ok x y a.0.0 b.0 in
    held_as e m.expression _ _ h (ok_is a.2) (m.conditional l n o (i a.0.0.0 c.0) (j a.0.0.1 c.1) (r a.0.1 b.1))
