-- Accesses and a record's pairs, one more at the end, and what is made of the items of a set or a
-- record.
use Rattle.std.proofs.Common.{◌≡◌, ℕ, List, [], ◌∷◌, ◌++◌, Option, Ok, refl, sym, ap, ◌∙◌}
use Rattle.std.specs.Map.{keys_of}
use Rattle.cedar_lexer.specs.Token.{Lexeme}
use Rattle.cedar_lexer.specs.declared.token.TokenKind.TheVariants as kind
use Rattle.cedar_expressions.specs.Keys.{repeats_key}
use Rattle.cedar_expressions.specs.Value.{Value, fields}
use Rattle.cedar_expressions.specs.Value as v
use Rattle.cedar_syntax.specs.declared.loc.Loc.{Loc}
use Rattle.cedar_syntax.specs.tokens.Signs.{sign_limit}
use Rattle.cedar_syntax.specs.trees.Forms.{parts_of}
use Rattle.cedar_syntax.specs.trees.Located.{Located}
use Rattle.cedar_syntax.specs.trees.Tree.{Operator}
use Rattle.cedar_syntax.specs.tokens.Tokens.{Spot, one}
use Rattle.cedar_conversion.specs.outcome.Conversion.{Part, bodies, accesses_outcome, access_outcome, pairs_outcome, pair_outcome, with_first, set_value_outcome, record_outcome}
use Rattle.cedar_conversion.specs.strict.Extensions.{Extensions}
use Rattle.cedar_conversion.specs.outcome.Held.{Held, expression}
use Rattle.cedar_conversion.specs.parts.Members.{Access}
use Rattle.cedar_conversion.specs.outcome.Outcome.{Outcome, both, next}
use Rattle.cedar_conversion.specs.strict.Strict as m
use Rattle.cedar_conversion.specs.strict.Strict.{Listed, Entries}
use Rattle.cedar_conversion.proofs.Inverted.{ok_is, next_ok, both_ok, unless_ok}
use Rattle.cedar_policy_parser.proofs.sound.Bare.{HeldAs}
use Rattle.cedar_policy_parser.proofs.sound.Leaves.{held_as}

-- a list that is given, one by one
pub with_more : {X : Type 0} (o : Outcome X) (r : Outcome (List X)) (x : X) (xs : List X) → o ≡ Ok x → r ≡ Ok xs → next (both o r) with_first ≡ Ok (x ∷ xs)
with_more o r x xs h k = rw (h, k) refl

pub first_of : {X : Type 0} (o : Outcome X) (r : Outcome (List X)) (zs : List X) → next (both o r) with_first ≡ Ok zs → (x : X) × (xs : List X) × (o ≡ Ok x) × (r ≡ Ok xs) × (zs ≡ x ∷ xs)
first_of o r zs h =
    let a = next_ok (both o r) with_first zs h in
    let b = both_ok o r a.0 a.1 in
    (a.0.0, a.0.1, b.0, b.1, sym (ok_is a.2))

pub accesses_snoc : (e : Extensions) (ps : List (Operator × Located)) (p : Operator × Located) (zs : List Access) → accesses_outcome e (parts_of (ps ++ p ∷ [])) ≡ Ok zs
    → (as_given : List Access) × (a : Access) × (accesses_outcome e (parts_of ps) ≡ Ok as_given) × (access_outcome e p.1 ≡ Ok a) × (zs ≡ as_given ++ a ∷ [])
unfolding accesses_outcome
accesses_snoc e [] p zs h =
    let d = first_of (access_outcome e p.1) (Ok []) zs h in
    ([], d.0, refl, d.2, d.4 ∙ ap (λ xs. d.0 ∷ xs) (sym (ok_is d.3)))
accesses_snoc e (q ∷ ps) p zs h =
    let d = first_of (access_outcome e q.1) (accesses_outcome e (parts_of (ps ++ p ∷ []))) zs h in
    let c = accesses_snoc e ps p d.1 d.3 in
    (d.0 ∷ c.0, c.1, with_more (access_outcome e q.1) (accesses_outcome e (parts_of ps)) d.0 c.0 d.2 c.2, c.3, d.4 ∙ ap (λ xs. d.0 ∷ xs) c.4)

pub pairs_snoc : (e : Extensions) (ps : List (Operator × Located)) (p : Operator × Located) (zs : List (List ℕ × Value)) → pairs_outcome e (parts_of (ps ++ p ∷ [])) ≡ Ok zs
    → (before : List (List ℕ × Value)) × (a : List ℕ × Value) × (pairs_outcome e (parts_of ps) ≡ Ok before) × (pair_outcome e p.1 ≡ Ok a) × (zs ≡ before ++ a ∷ [])
unfolding pairs_outcome
pairs_snoc e [] p zs h =
    let d = first_of (pair_outcome e p.1) (Ok []) zs h in
    ([], d.0, refl, d.2, d.4 ∙ ap (λ xs. d.0 ∷ xs) (sym (ok_is d.3)))
pairs_snoc e (q ∷ ps) p zs h =
    let d = first_of (pair_outcome e q.1) (pairs_outcome e (parts_of (ps ++ p ∷ []))) zs h in
    let c = pairs_snoc e ps p d.1 d.3 in
    (d.0 ∷ c.0, c.1, with_more (pair_outcome e q.1) (pairs_outcome e (parts_of ps)) d.0 c.0 d.2 c.2, c.3, d.4 ∙ ap (λ xs. d.0 ∷ xs) c.4)

-- ---- sets and records

pub set_held : (e : Extensions) (ts : List Lexeme) (l n : Spot) (place : Option Loc) (r : Outcome (List Part)) (h : Held) → ((ps : List Part) → r ≡ Ok ps → Listed e sign_limit ts (bodies ps))
    → next r (set_value_outcome place) ≡ Ok h → HeldAs e m.primary (one kind.OpenBracket l ++ ts ++ one kind.CloseBracket n) h
set_held e ts l n place r h items k =
    let a = next_ok r (set_value_outcome place) h k in
    held_as e m.primary _ _ h (ok_is a.2) (m.set l n (items a.0 a.1))

pub braces_held : (e : Extensions) (ts : List Lexeme) (l n : Spot) (place : Option Loc) (r : Outcome (List (List ℕ × Value))) (h : Held) → ((fs : List (List ℕ × Value)) → r ≡ Ok fs → Entries e sign_limit ts fs)
    → next r (record_outcome place) ≡ Ok h → HeldAs e m.primary (one kind.OpenBrace l ++ ts ++ one kind.CloseBrace n) h
braces_held e ts l n place r h items k =
    let a = next_ok r (record_outcome place) h k in
    let b = unless_ok (repeats_key (keys_of a.0)) (Ok (expression place (v.«record» (fields a.0)))) _ h a.2 in
    held_as e m.primary _ _ h (ok_is b.1) (m.in_braces l n (items a.0 a.1) b.0)
