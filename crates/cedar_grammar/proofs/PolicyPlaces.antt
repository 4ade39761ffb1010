-- The places in the trees of policies.
use Rattle.std.proofs.Common.{◌≡◌, ℕ, List, [], ◌∷◌, ◌++◌, Option, Some, refl, sym, subst, arith}
use Rattle.std.specs.List.{flat_map}
use Rattle.std.specs.Str.{IsUtf8}
use Rattle.std.proofs.lemmas.List.Elements.{All-cons}
use Rattle.std.proofs.lemmas.Str.{IsCharBoundary-from_drop}
use Rattle.cedar_lexer.specs.Token.{Lexeme}
use Rattle.cedar_lexer.specs.declared.token.TokenKind.TheVariants as kind
use Rattle.cedar_syntax.specs.declared.loc.Loc.{Loc}
use Rattle.cedar_syntax.specs.declared.cst.Add.{Add}
use Rattle.cedar_syntax.specs.declared.cst.Annotation.{Annotation}
use Rattle.cedar_syntax.specs.declared.cst.Cond.{Cond}
use Rattle.cedar_syntax.specs.declared.cst.Expr.{Expr}
use Rattle.cedar_syntax.specs.declared.cst.Name.{Name}
use Rattle.cedar_syntax.specs.declared.cst.Policies.{Policies}
use Rattle.cedar_syntax.specs.declared.cst.Policy.{Policy}
use Rattle.cedar_syntax.specs.declared.cst.RelOp.{RelOp}
use Rattle.cedar_syntax.specs.declared.cst.Str.TheVariants as str
use Rattle.cedar_syntax.specs.declared.cst.VariableDef.{VariableDef}
use Rattle.cedar_grammar.specs.grammar.Grammar.{IsTreeOf}
use Rattle.cedar_grammar.specs.grammar.Place.{loc_at, placed, placed_or_start}
use Rattle.cedar_syntax.specs.tokens.Tokens.{one, between_quotes}
use Rattle.cedar_syntax.specs.trees.Trees.{Cell}
use Rattle.cedar_syntax.specs.trees.TreePlaces.{IsPlace, node_places, ident_places, str_places, name_places, add_places, expr_places, optional_places, annotation_places, constraint_places, variable_def_places, cond_places, policy_places, policies_places}
use Rattle.cedar_grammar.specs.grammar.LoosePolicies.{ReadsMany, none, more, ReadsAnnotation, key_alone, with_value, ReadsTypeName, no_type_name, type_name, ReadsEntityType, no_entity_type, entity_type, ReadsConstraint, no_constraint, constraint, ReadsVariableDef, variable_def, ReadsBody, no_body, body, ReadsCond, cond, ReadsPolicy, policy, ReadsPolicies, policies}
use Rattle.cedar_grammar.proofs.Lying.{Some_of, some_append}
use Rattle.cedar_grammar.proofs.WordPlaces.{Lie, Stand, parts, node_lies, more_lie, any_some, no_places, ident_lies, list_lies, whole_lies, stand_of}
use Rattle.cedar_grammar.proofs.ExpressionTokens.{add_some, expr_some}
use Rattle.cedar_grammar.proofs.ExpressionPlaces.{both, name_lies, add_holds, expr_holds}

-- ---- which forms have tokens

some_behind : (ts us : List Lexeme) → Some_of us → Some_of (ts ++ us)
some_behind [] us h = h
some_behind (t ∷ ts) us h = tt

annotation_some : {src : List ℕ} {ts : List Lexeme} {x : Annotation} → ReadsAnnotation src ts x → Some_of ts
annotation_some (key_alone p r) = tt
annotation_some (with_value p l q m r) = tt

variable_def_some : {src : List ℕ} {ts : List Lexeme} {x : VariableDef} → ReadsVariableDef src ts x → Some_of ts
variable_def_some (variable_def {ts = ts} {us = us} {vs = vs} {ws = ws} r a b c) = some_append ts (us ++ (vs ++ ws)) (any_some r)

cond_some : {src : List ℕ} {ts : List Lexeme} {x : Cond} → ReadsCond src ts x → Some_of ts
cond_some (cond {ts = ts} {us = us} l m r b) = some_behind (ts ++ one kind.OpenBrace l ++ us) (one kind.CloseBrace m) tt

pub policy_some : {src : List ℕ} {ts : List Lexeme} {x : Policy} → ReadsPolicy src ts x → Some_of ts
policy_some (policy {ts = ts} {us = us} {vs = vs} {ws = ws} l m e a r b c) =
    some_behind (ts ++ us ++ one kind.OpenParen l ++ vs ++ one kind.CloseParen m ++ ws) (one kind.Semicolon e) tt

-- ---- places

many_lie : {T : Type 0} (src : List ℕ) (R : List Lexeme → T → Type 0) (f : T → List (Option Loc)) → ((ts : List Lexeme) (x : T) → R ts x → Some_of ts) → ((ts : List Lexeme) (x : T) → R ts x → Stand src ts → Lie src (f x)) →
    {ts : List Lexeme} {xs : List (Cell T)} → ReadsMany src R ts xs → Stand src ts → Lie src (flat_map (node_places f) xs)
many_lie src R f s l none h = no_places src
many_lie src R f s l (more {ts = ts} {us = us} {xs = xs} {y = y} r q) h =
    let w = parts src ts us h in
    more_lie src f xs (placed src us y) (many_lie src R f s l r w.0) (node_lies src f us y w.1 (s us y q) (l us y q w.1))

annotation_lies : {src : List ℕ} {ts : List Lexeme} {x : Annotation} → ReadsAnnotation src ts x → Stand src ts → Lie src (annotation_places x)
annotation_lies {src = src} (key_alone {ts = ts} {i = i} p r) h =
    both src (node_places ident_places (placed src ts i)) [] (ident_lies r (parts src (one kind.At p) ts h).1) (no_places src)
annotation_lies {src = src} (with_value {ts = ts} {i = i} p l q m r) h =
    let w = (parts src (one kind.At p ++ ts ++ one kind.OpenParen l ++ one kind.StringLit q) (one kind.CloseParen m) h).0 in
    let v = parts src (one kind.At p ++ ts ++ one kind.OpenParen l) (one kind.StringLit q) w in
    let u = (parts src (one kind.At p ++ ts) (one kind.OpenParen l) v.0).0 in
    both src (node_places ident_places (placed src ts i)) (node_places str_places (placed src (one kind.StringLit q) (str.String (between_quotes q.text)))) (ident_lies r (parts src (one kind.At p) ts u).1)
    (node_lies src str_places (one kind.StringLit q) (str.String (between_quotes q.text)) v.1 tt (no_places src))

type_name_lies : {src : List ℕ} {ts : List Lexeme} {x : Option (Cell Name)} → ReadsTypeName src ts x → Stand src ts → Lie src (optional_places name_places x)
type_name_lies {src = src} no_type_name h = no_places src
type_name_lies {src = src} (type_name {ts = ts} p r) h = name_lies r (parts src (one kind.Colon p) ts h).1

entity_type_lies : {src : List ℕ} {ts : List Lexeme} {x : Option (Cell Add)} → ReadsEntityType src ts x → Stand src ts → Lie src (optional_places add_places x)
entity_type_lies {src = src} no_entity_type h = no_places src
entity_type_lies {src = src} (entity_type {ts = ts} {x = x} p r) h =
    let w = (parts src (one kind.Is p) ts h).1 in
    node_lies src add_places ts x w (add_some r) (add_holds r w)

constraint_lies : {src : List ℕ} {ts : List Lexeme} {x : Option (RelOp × Cell Expr)} → ReadsConstraint src ts x → Stand src ts → Lie src (constraint_places x)
constraint_lies {src = src} no_constraint h = no_places src
constraint_lies {src = src} (constraint {ts = ts} {k = k} {x = x} p o r) h =
    let w = (parts src (one k p) ts h).1 in
    node_lies src expr_places ts x w (expr_some r) (expr_holds r w)

variable_def_lies : {src : List ℕ} {ts : List Lexeme} {x : VariableDef} → ReadsVariableDef src ts x → Stand src ts → Lie src (variable_def_places x)
variable_def_lies {src = src} (variable_def {ts = ts} {us = us} {vs = vs} {ws = ws} {i = i} {x = x} {y = y} {z = z} r a b c) h =
    let w = parts src ts (us ++ (vs ++ ws)) h in
    let v = parts src us (vs ++ ws) w.1 in
    let u = parts src vs ws v.1 in
    both src (node_places ident_places (placed src ts i)) (optional_places name_places x ++ (optional_places add_places y ++ constraint_places z)) (ident_lies r w.0)
    (both src (optional_places name_places x) (optional_places add_places y ++ constraint_places z) (type_name_lies a v.0)
    (both src (optional_places add_places y) (constraint_places z) (entity_type_lies b u.0) (constraint_lies c u.1)))

body_lies : {src : List ℕ} {ts : List Lexeme} {x : Option (Cell Expr)} → ReadsBody src ts x → Stand src ts → Lie src (optional_places expr_places x)
body_lies {src = src} no_body h = no_places src
body_lies {src = src} (body {ts = ts} {x = x} r) h = node_lies src expr_places ts x h (expr_some r) (expr_holds r h)

cond_lies : {src : List ℕ} {ts : List Lexeme} {x : Cond} → ReadsCond src ts x → Stand src ts → Lie src (cond_places x)
cond_lies {src = src} (cond {ts = ts} {us = us} {i = i} {x = x} l m r b) h =
    let w = (parts src (ts ++ one kind.OpenBrace l ++ us) (one kind.CloseBrace m) h).0 in
    let v = parts src (ts ++ one kind.OpenBrace l) us w in
    both src (node_places ident_places (placed src ts i)) (optional_places expr_places x) (ident_lies r (parts src ts (one kind.OpenBrace l) v.0).0) (body_lies b v.1)

policy_lies : {src : List ℕ} {ts : List Lexeme} {x : Policy} → ReadsPolicy src ts x → Stand src ts → Lie src (policy_places x)
policy_lies {src = src} (policy {ts = ts} {us = us} {vs = vs} {ws = ws} {xs = xs} {i = i} {ys = ys} {zs = zs} l m e a r b c) h =
    let w = parts src (ts ++ us ++ one kind.OpenParen l ++ vs ++ one kind.CloseParen m) ws (parts src (ts ++ us ++ one kind.OpenParen l ++ vs ++ one kind.CloseParen m ++ ws) (one kind.Semicolon e) h).0 in
    let v = parts src (ts ++ us ++ one kind.OpenParen l) vs (parts src (ts ++ us ++ one kind.OpenParen l ++ vs) (one kind.CloseParen m) w.0).0 in
    let u = parts src ts us (parts src (ts ++ us) (one kind.OpenParen l) v.0).0 in
    both src (flat_map (node_places annotation_places) xs) (node_places ident_places (placed src us i) ++ (flat_map (node_places variable_def_places) ys ++ flat_map (node_places cond_places) zs))
    (many_lie src (ReadsAnnotation src) annotation_places (λ ts x r. annotation_some r) (λ ts x r h. annotation_lies r h) a u.0)
    (both src (node_places ident_places (placed src us i)) (flat_map (node_places variable_def_places) ys ++ flat_map (node_places cond_places) zs) (ident_lies r u.1)
    (both src (flat_map (node_places variable_def_places) ys) (flat_map (node_places cond_places) zs)
    (list_lies src (ReadsVariableDef src) variable_def_places (λ ts x r. variable_def_some r) (λ ts x r h. variable_def_lies r h) b v.1)
    (many_lie src (ReadsCond src) cond_places (λ ts x r. cond_some r) (λ ts x r h. cond_lies r h) c w.1)))

policies_lie : {src : List ℕ} {ts : List Lexeme} {x : Policies} → ReadsPolicies src ts x → Stand src ts → Lie src (policies_places x)
policies_lie {src = src} (policies m) h = many_lie src (ReadsPolicy src) policy_places (λ ts x r. policy_some r) (λ ts x r h. policy_lies r h) m h

-- ---- the node of a whole text

pub policy_places_lie : (text : List ℕ) (y : Cell Policy) → IsUtf8 text → IsTreeOf ReadsPolicy text y → Lie text (node_places policy_places y)
policy_places_lie text y u g = whole_lies text policy_places g.tokens g.stands.tree y (stand_of text y u g) (policy_some g.stands.reads) (policy_lies g.stands.reads (stand_of text y u g)) g.stands.is

-- no tokens stand at the start of the text
start_lies : (text : List ℕ) → IsUtf8 text → IsPlace text (loc_at text (Some record { start = 0; end = 0 }))
start_lies text u = let b = IsCharBoundary-from_drop text 0 (omega arith) u in (refl, b, b)

pub policies_places_lie : (text : List ℕ) (y : Cell Policies) → IsUtf8 text → IsTreeOf ReadsPolicies text y → Lie text (node_places policies_places y)
policies_places_lie text y u g = go g.tokens g.stands.tree (stand_of text y u g) (policies_lie g.stands.reads (stand_of text y u g)) g.stands.is
  where
    go : (ts : List Lexeme) (x : Policies) → Stand text ts → Lie text (policies_places x) → y ≡ placed_or_start text ts x → Lie text (node_places policies_places y)
    go [] x h l e = subst (λ y. Lie text (node_places policies_places y)) (sym e) (All-cons (IsPlace text) (loc_at text (Some record { start = 0; end = 0 })) (policies_places x) (start_lies text u) l)
    go (t ∷ ts) x h l e = subst (λ y. Lie text (node_places policies_places y)) (sym e) (node_lies text policies_places (t ∷ ts) x h tt l)
