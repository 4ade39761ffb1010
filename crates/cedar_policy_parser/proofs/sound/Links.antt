-- Accesses behind a primary, from the left: what they give is what the links mean.
use Rattle.std.proofs.Common.{◌≡◌, ℕ, List, [], ◌∷◌, ◌++◌, append_assoc, append-nil, Option, Ok, refl, sym, ap, ◌∙◌}
use Rattle.cedar_lexer.specs.Token.{Lexeme}
use Rattle.cedar_lexer.specs.declared.token.TokenKind.TheVariants as kind
use Rattle.cedar_expressions.specs.declared.atoms.Var.{Var}
use Rattle.cedar_expressions.specs.Path.{Path}
use Rattle.cedar_expressions.specs.Value as v
use Rattle.cedar_expressions.specs.Value.{Value, values}
use Rattle.cedar_syntax.specs.declared.loc.Loc.{Loc}
use Rattle.cedar_syntax.specs.tokens.Signs.{sign_limit}
use Rattle.cedar_syntax.specs.tokens.Tokens.{Spot, one}
use Rattle.cedar_conversion.specs.strict.Extensions.{Extensions}
use Rattle.cedar_conversion.specs.outcome.Held.{Held, expression, variable, bare_name, bare_truth, bare_string, as_expression}
use Rattle.cedar_conversion.specs.parts.Members.{Access, field, call, index, accesses_of, name_accesses, some_accesses, member_outcome, method_outcome, function_outcome}
use Rattle.cedar_conversion.specs.outcome.Outcome.{next}
use Rattle.cedar_conversion.specs.strict.Strict as m
use Rattle.cedar_conversion.specs.strict.Strict.{Listed}
use Rattle.cedar_conversion.specs.strict.StrictWords.{IsIdentifier, IsText, IsName, IsVariableWord}
use Rattle.cedar_conversion.proofs.Inverted.{ok_is, next_ok}
use Rattle.cedar_policy_parser.proofs.sound.Bare.{Meant, HeldAs, means_at, held_means, held_up}
use Rattle.cedar_policy_parser.proofs.sound.Calls.{method_meant, function_meant}

-- the tokens of an access
pub data IsLink (e : Extensions) : List Lexeme → Access → Type 0 where
  is_field : {ts : List Lexeme} {id : List ℕ} (p : Spot) → IsIdentifier ts id → IsLink e (one kind.Dot p ++ ts) (field id)
  is_call : {ts : List Lexeme} {args : List Value} (l m : Spot) → Listed e sign_limit ts args → IsLink e (one kind.OpenParen l ++ ts ++ one kind.CloseParen m) (call args)
  is_index : {ts : List Lexeme} {text : List ℕ} (l m : Spot) → IsText ts text → IsLink e (one kind.OpenBracket l ++ ts ++ one kind.CloseBracket m) (index text)

-- and of accesses one behind another, from the first
pub data AreLinks (e : Extensions) : List Lexeme → List Access → Type 0 where
  no_link : AreLinks e [] []
  links : {ts us : List Lexeme} {a : Access} {rest : List Access} → IsLink e ts a → AreLinks e us rest → AreLinks e (ts ++ us) (a ∷ rest)

links_at : {e : Extensions} {ts us : List Lexeme} {rest : List Access} → us ≡ ts → AreLinks e us rest → AreLinks e ts rest
links_at h i = rw (← h) i

-- one more at the end
pub links_snoc : {e : Extensions} {ts us : List Lexeme} {a : Access} {rest : List Access} → AreLinks e ts rest → IsLink e us a → AreLinks e (ts ++ us) (rest ++ a ∷ [])
links_snoc {us = us} no_link i = links_at (append-nil us) (links i no_link)
links_snoc {us = vs} (links {ts = ts} {us = us} j k) i = links_at (sym (append_assoc ts us vs)) (links j (links_snoc k i))

meant_at : {e : Extensions} {ts us : List Lexeme} {x : Value} → us ≡ ts → Meant e m.member us x → Meant e m.member ts x
meant_at h i = rw (← h) i

-- what an expression gives behind its accesses
abbrev IsGiven : Extensions → List Lexeme → Held → Type 0
IsGiven e ts h = HeldAs e m.member ts h

given_at : (e : Extensions) {ts us : List Lexeme} (h : Held) → us ≡ ts → IsGiven e us h → IsGiven e ts h
given_at e h k i = rw (← k) i

held_at : (e : Extensions) (ts : List Lexeme) (h k : Held) → h ≡ k → IsGiven e ts h → IsGiven e ts k
held_at e ts h k same i = rw (← same) i

pub bracketed : (ts os vs cs : List Lexeme) → ts ++ os ++ vs ++ cs ≡ ts ++ (os ++ vs ++ cs)
bracketed ts os vs cs = ap (λ xs. xs ++ cs) (append_assoc ts os vs) ∙ append_assoc ts (os ++ vs) cs

pub dotted : (ts ds us os vs cs : List Lexeme) → ts ++ ds ++ us ++ os ++ vs ++ cs ≡ ts ++ (ds ++ us) ++ (os ++ vs ++ cs)
dotted ts ds us os vs cs = ap (λ xs. xs ++ os ++ vs ++ cs) (append_assoc ts ds us) ∙ bracketed (ts ++ (ds ++ us)) os vs cs

-- a method: its name, and its arguments behind it
method_links : {e : Extensions} {ts us vs : List Lexeme} {id : List ℕ} {args : List Value} (x y : Value) (place : Option Loc) → Meant e m.member ts x → IsLink e us (field id) → IsLink e vs (call args) → method_outcome e place id x args ≡ Ok y
    → Meant e m.member (ts ++ us ++ vs) y
method_links {e = e} {ts = ts} x y place h (is_field {ts = us} p i) (is_call {ts = vs} l n j) k =
    meant_at (dotted ts (one kind.Dot p) us (one kind.OpenParen l) vs (one kind.CloseParen n)) (m.method p l n h i j (method_meant e place _ x _ y k))

field_link : {e : Extensions} {ts us : List Lexeme} {id : List ℕ} {x : Value} → Meant e m.member ts x → IsLink e us (field id) → Meant e m.member (ts ++ us) (v.get_attr x id)
field_link {ts = ts} h (is_field {ts = us} p i) = meant_at (append_assoc ts (one kind.Dot p) us) (m.attribute p h i)

index_link : {e : Extensions} {ts us : List Lexeme} {id : List ℕ} {x : Value} → Meant e m.member ts x → IsLink e us (index id) → Meant e m.member (ts ++ us) (v.get_attr x id)
index_link {ts = ts} h (is_index {ts = us} l n i) = meant_at (bracketed ts (one kind.OpenBracket l) us (one kind.CloseBracket n)) (m.indexed l n h i)

call_link : {e : Extensions} {ts us : List Lexeme} {args : List Value} (place : Option Loc) (name : Path) (y : Value) → IsName ts name.path name.id → (IsVariableWord ts → ⊥) → IsLink e us (call args) → function_outcome e place name args ≡ Ok y → Meant e m.member (ts ++ us) y
call_link {e = e} {ts = ts} place name y i other (is_call {ts = us} l n j) k =
    let d = function_meant e place name _ y k in
    means_at (sym d.1) (meant_at (bracketed ts (one kind.OpenParen l) us (one kind.CloseParen n)) (m.called l n i other d.0 j))

pub links_meant : {e : Extensions} {ts us : List Lexeme} {rest : List Access} (place : Option Loc) (x : Value) (h : Held) → Meant e m.member ts x → AreLinks e us rest → accesses_of e place x rest ≡ Ok h → IsGiven e (ts ++ us) h
links_meant {ts = ts} place x h i no_link k = held_at _ _ _ h (ok_is k) (meant_at (sym (append-nil ts)) i)
links_meant place x h i (links {a = call args} j rest) k = cc
links_meant {ts = ts} place x h i (links {ts = us} {us = vs} {a = index text} j rest) k = given_at _ h (append_assoc ts us vs) (links_meant place (v.get_attr x text) h (index_link i j) rest k)
links_meant {ts = ts} place x h i (links {ts = us} {a = field id} j no_link) k = held_at _ _ _ h (ok_is k) (meant_at (ap (λ xs. ts ++ xs) (sym (append-nil us))) (field_link i j))
links_meant {e = e} {ts = ts} place x h i (links {ts = us} {a = field id} j (links {ts = vs} {us = ws} {a = call args} n rest)) k =
    let d = next_ok (method_outcome e place id x args) _ h k in
    given_at _ h (append_assoc (ts ++ us) vs ws ∙ append_assoc ts us (vs ++ ws)) (links_meant place d.0 h (method_links x d.0 place i j n d.1) rest d.2)
links_meant {ts = ts} place x h i (links {ts = us} {us = vs} {a = field id} j (links {a = field other} n rest)) k = given_at _ h (append_assoc ts us vs) (links_meant place (v.get_attr x id) h (field_link i j) (links n rest) k)
links_meant {ts = ts} place x h i (links {ts = us} {us = vs} {a = field id} j (links {a = index other} n rest)) k = given_at _ h (append_assoc ts us vs) (links_meant place (v.get_attr x id) h (field_link i j) (links n rest) k)

-- a primary that is an expression, and its accesses
expression_links : {e : Extensions} (ts : List Lexeme) {us : List Lexeme} {rest : List Access} (place : Option Loc) (held h : Held) → HeldAs e m.primary ts held → AreLinks e us rest → next (as_expression held) (λ x. accesses_of e place x rest) ≡ Ok h → IsGiven e (ts ++ us) h
expression_links ts place held h i j k =
    let d = next_ok (as_expression held) _ h k in
    links_meant place d.0 h (m.bare (held_means _ m.primary held d.0 i d.1)) j d.2

variable_links : {e : Extensions} (ts : List Lexeme) {us : List Lexeme} {rest : List Access} (place own : Option Loc) (x : Var) (h : Held) → HeldAs e m.primary ts (variable own x) → AreLinks e us rest → accesses_of e place (v.var x) rest ≡ Ok h → IsGiven e (ts ++ us) h
variable_links ts place own x h i j k = links_meant place (v.var x) h (m.bare (held_means _ m.primary (variable own x) (v.var x) i refl)) j k

name_links : {e : Extensions} {ts us : List Lexeme} {rest : List Access} (place : Option Loc) (name : Path) (h : Held) → IsName ts name.path name.id → (IsVariableWord ts → ⊥) → AreLinks e us rest → name_accesses e place name rest ≡ Ok h → IsGiven e (ts ++ us) h
name_links place name h i other no_link k = cc
name_links {e = e} {ts = ts} place name h i other (links {ts = us} {us = vs} {a = call args} j rest) k =
    let d = next_ok (function_outcome e place name args) _ h k in
    given_at _ h (append_assoc ts us vs) (links_meant place d.0 h (call_link place name d.0 i other j d.1) rest d.2)
name_links place name h i other (links {a = index text} j rest) k = cc
name_links place name h i other (links {a = field id} j no_link) k = cc
name_links place name h i other (links {a = field id} j (links {a = call args} n rest)) k = cc
name_links place name h i other (links {a = field id} j (links {a = field text} n rest)) k = cc
name_links place name h i other (links {a = field id} j (links {a = index text} n rest)) k = cc

some_links : {e : Extensions} (ts : List Lexeme) {us : List Lexeme} {a : Access} {rest : List Access} (place : Option Loc) (held h : Held) → HeldAs e m.primary ts held → AreLinks e us (a ∷ rest) → some_accesses e place held (a ∷ rest) ≡ Ok h → IsGiven e (ts ++ us) h
some_links ts place (expression own x) h i j k = expression_links ts place (expression own x) h i j k
some_links ts {a = call args} place (variable own x) h i j k = cc
some_links ts {a = field id} place (variable own x) h i j k = variable_links ts place own x h i j k
some_links ts {a = index id} place (variable own x) h i j k = variable_links ts place own x h i j k
some_links ts place (bare_name own name) h i j k = name_links place name h i.0 i.1 j k
some_links ts place (bare_truth own b) h i j k = expression_links ts place (bare_truth own b) h i j k
some_links ts place (bare_string own raw) h i j k = expression_links ts place (bare_string own raw) h i j k

-- a primary and its accesses
pub member_meant : {e : Extensions} (ts : List Lexeme) {us : List Lexeme} (rest : List Access) (place : Option Loc) (held h : Held) → HeldAs e m.primary ts held → AreLinks e us rest → member_outcome e place held rest ≡ Ok h → IsGiven e (ts ++ us) h
member_meant ts [] place held h i no_link k = held_at _ _ held h (ok_is k) (given_at _ held (sym (append-nil ts)) (held_up _ m.primary m.member held (λ x n. m.bare n) i))
member_meant ts (a ∷ rest) place held h i j k = some_links ts place held h i j k
