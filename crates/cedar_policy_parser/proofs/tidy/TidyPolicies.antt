-- Trees of policies of which no node is empty, each within one place; those that are read from
-- tokens are so.
use Rattle.std.proofs.Common.{ℕ, List, [], ◌∷◌, ◌++◌, Option, Some, None}
use Rattle.cedar_lexer.specs.Token.{Lexeme}
use Rattle.cedar_lexer.specs.declared.token.TokenKind.TheVariants as kind
use Rattle.cedar_syntax.specs.declared.node.Node.{Node}
use Rattle.cedar_syntax.specs.declared.cst.Add.{Add}
use Rattle.cedar_syntax.specs.declared.cst.Annotation.{Annotation}
use Rattle.cedar_syntax.specs.declared.cst.Cond.{Cond}
use Rattle.cedar_syntax.specs.declared.cst.Expr.{Expr}
use Rattle.cedar_syntax.specs.declared.cst.Name.{Name}
use Rattle.cedar_syntax.specs.declared.cst.Policies.{Policies}
use Rattle.cedar_syntax.specs.declared.cst.Policy.{Policy}
use Rattle.cedar_syntax.specs.declared.cst.Policy.TheVariants as trees
use Rattle.cedar_syntax.specs.declared.cst.RelOp.{RelOp}
use Rattle.cedar_syntax.specs.declared.cst.VariableDef.{VariableDef}
use Rattle.cedar_syntax.specs.trees.Forms.{located, add_form, expr_form}
use Rattle.cedar_grammar.specs.grammar.Place.{placed}
use Rattle.cedar_syntax.specs.tokens.Tokens.{one}
use Rattle.cedar_syntax.specs.trees.Trees.{Cell}
use Rattle.cedar_grammar.specs.grammar.LooseWords.{ReadsItems, one_item, more_items, ReadsList, no_item, items, items_comma}
use Rattle.cedar_grammar.specs.grammar.LoosePolicies.{ReadsMany, none, more, ReadsAnnotation, key_alone, with_value, ReadsTypeName, no_type_name, type_name, ReadsEntityType, no_entity_type, entity_type, ReadsConstraint, no_constraint, constraint, ReadsVariableDef, variable_def, ReadsBody, no_body, body, ReadsCond, cond, ReadsPolicy, policy, ReadsPolicies, policies}
use Rattle.cedar_grammar.proofs.ExpressionTokens.{expr_some, add_some}
use Rattle.cedar_grammar.proofs.Lying.{Some_of, some_append}
use Rattle.cedar_grammar.proofs.WordPlaces.{any_some}
use Rattle.cedar_policy_parser.proofs.standing.Standing.{Origin, parsed, Anything}
use Rattle.cedar_policy_parser.proofs.standing.Fitting.{Fits, parts, around, within, own_fit}
use Rattle.cedar_policy_parser.proofs.tidy.Tidy.{NodeTidy, Each, IdentTidy, NameTidy, Tidy}
use Rattle.cedar_policy_parser.proofs.tidy.TidyWords.{ident_tidy, name_tidy, each_more}
use Rattle.cedar_policy_parser.proofs.tidy.TidyTrees.{sits, expr_holds, add_holds}

-- ---- trees

-- what may be missing
abbrev pub IfThere : {X : Type 0} → (X → Type 0) → Option X → Type 0
IfThere P None = Unit {0}
IfThere P (Some x) = P x

abbrev pub ExprTidy : Origin → Node (Option Expr) → Type 0
ExprTidy w n = Tidy w (located expr_form n)

abbrev pub AddTidy : Origin → Node (Option Add) → Type 0
AddTidy w n = Tidy w (located add_form n)

abbrev pub ConstraintTidy : Origin → RelOp × Node (Option Expr) → Type 0
ConstraintTidy w p = ExprTidy w p.1

abbrev pub AnnotationTidy : Origin → Annotation → Type 0
AnnotationTidy w a = IdentTidy w a.key × IfThere (NodeTidy w Anything) a.value

abbrev pub ElementTidy : Origin → VariableDef → Type 0
ElementTidy w d =
    IdentTidy w d.variable × IfThere (NodeTidy w (NameTidy w)) d.unused_type_name × IfThere (AddTidy w) d.entity_type × IfThere (ConstraintTidy w) d.ineq

abbrev pub CondTidy : Origin → Cond → Type 0
CondTidy w c = IdentTidy w c.cond × IfThere (ExprTidy w) c.expr

abbrev pub PolicyTidy : Origin → Policy → Type 0
PolicyTidy w (trees.Policy p) =
    Each (NodeTidy w (AnnotationTidy w)) p.annotations × IdentTidy w p.effect × Each (NodeTidy w (ElementTidy w)) p.variables × Each (NodeTidy w (CondTidy w)) p.conds

abbrev pub PoliciesTidy : Origin → Policies → Type 0
PoliciesTidy w ps = Each (NodeTidy w (PolicyTidy w)) ps.0

-- ---- some tokens

some_behind : (ts us : List Lexeme) → Some_of us → Some_of (ts ++ us)
some_behind [] us h = h
some_behind (t ∷ ts) us h = tt

annotation_some : {src : List ℕ} {ts : List Lexeme} {x : Annotation} → ReadsAnnotation src ts x → Some_of ts
annotation_some (key_alone p r) = tt
annotation_some (with_value p l q m r) = tt

element_some : {src : List ℕ} {ts : List Lexeme} {x : VariableDef} → ReadsVariableDef src ts x → Some_of ts
element_some (variable_def {ts = ts} {us = us} {vs = vs} {ws = ws} r a b c) = some_append ts (us ++ (vs ++ ws)) (any_some r)

pub cond_some : {src : List ℕ} {ts : List Lexeme} {x : Cond} → ReadsCond src ts x → Some_of ts
cond_some (cond {ts = ts} {us = us} l m r b) = some_behind (ts ++ one kind.OpenBrace l ++ us) (one kind.CloseBrace m) tt

pub policy_some : {src : List ℕ} {ts : List Lexeme} {x : Policy} → ReadsPolicy src ts x → Some_of ts
policy_some (policy {ts = ts} {us = us} {vs = vs} {ws = ws} l m e a r b c) =
    some_behind (ts ++ us ++ one kind.OpenParen l ++ vs ++ one kind.CloseParen m ++ ws) (one kind.Semicolon e) tt

-- ---- what is read

-- items, each of some tokens
many_tidy : {T : Type 0} (w : Origin) (src : List ℕ) (R : List Lexeme → T → Type 0) (P : T → Type 0) → ((ts : List Lexeme) (x : T) → R ts x → Some_of ts) → ((ts : List Lexeme) (x : T) → R ts x → Fits w src ts → P x) →
    {ts : List Lexeme} {xs : List (Cell T)} → ReadsMany src R ts xs → Fits w src ts → Each (NodeTidy w P) xs
many_tidy w src R P s l none h = tt
many_tidy w src R P s l (more {ts = ts} {us = us} {xs = xs} {y = y} r q) h =
    let a = parts w src ts us h in
    each_more (NodeTidy w P) xs (placed src us y) (many_tidy w src R P s l r a.0) (within w src us a.1 (s us y q), l us y q a.1)

items_tidy : {T : Type 0} (w : Origin) (src : List ℕ) (R : List Lexeme → T → Type 0) (P : T → Type 0) → ((ts : List Lexeme) (x : T) → R ts x → Some_of ts) → ((ts : List Lexeme) (x : T) → R ts x → Fits w src ts → P x) →
    {ts : List Lexeme} {xs : List (Cell T)} → ReadsItems src R ts xs → Fits w src ts → Each (NodeTidy w P) xs
items_tidy w src R P s l (one_item {ts = ts} {x = x} q) h = ((within w src ts h (s ts x q), l ts x q h), tt)
items_tidy w src R P s l (more_items {ts = ts} {us = us} {xs = xs} {y = y} p r q) h =
    let a = around w src ts us kind.Comma p h in
    each_more (NodeTidy w P) xs (placed src us y) (items_tidy w src R P s l r a.0) (within w src us a.1 (s us y q), l us y q a.1)

list_tidy : {T : Type 0} (w : Origin) (src : List ℕ) (R : List Lexeme → T → Type 0) (P : T → Type 0) → ((ts : List Lexeme) (x : T) → R ts x → Some_of ts) → ((ts : List Lexeme) (x : T) → R ts x → Fits w src ts → P x) →
    {ts : List Lexeme} {xs : List (Cell T)} → ReadsList src R ts xs → Fits w src ts → Each (NodeTidy w P) xs
list_tidy w src R P s l no_item h = tt
list_tidy w src R P s l (items r) h = items_tidy w src R P s l r h
list_tidy w src R P s l (items_comma {ts = ts} p r) h = items_tidy w src R P s l r (parts w src ts (one kind.Comma p) h).0

annotation_tidy : {w : Origin} {src : List ℕ} {ts : List Lexeme} {x : Annotation} → ReadsAnnotation src ts x → Fits w src ts → AnnotationTidy w x
annotation_tidy {w = w} {src = src} (key_alone {ts = ts} p r) h = (ident_tidy r (parts w src (one kind.At p) ts h).1, tt)
annotation_tidy {w = w} {src = src} (with_value {ts = ts} p l q m r) h =
    let a = (parts w src (one kind.At p ++ ts ++ one kind.OpenParen l ++ one kind.StringLit q) (one kind.CloseParen m) h).0 in
    let b = parts w src (one kind.At p ++ ts ++ one kind.OpenParen l) (one kind.StringLit q) a in
    let c = (parts w src (one kind.At p ++ ts) (one kind.OpenParen l) b.0).0 in
    (ident_tidy r (parts w src (one kind.At p) ts c).1, (within w src (one kind.StringLit q) b.1 tt, tt))

type_name_tidy : {w : Origin} {src : List ℕ} {ts : List Lexeme} {x : Option (Cell Name)} → ReadsTypeName src ts x → Fits w src ts → IfThere (NodeTidy w (NameTidy w)) x
type_name_tidy no_type_name h = tt
type_name_tidy {w = w} {src = src} (type_name {ts = ts} p r) h = name_tidy r (parts w src (one kind.Colon p) ts h).1

entity_type_tidy : {w : Origin} {src : List ℕ} {ts : List Lexeme} {x : Option (Cell Add)} → ReadsEntityType src ts x → Fits w src ts → IfThere (AddTidy w) x
entity_type_tidy no_entity_type h = tt
entity_type_tidy {w = w} {src = src} (entity_type {ts = ts} {x = x} p r) h = let a = (parts w src (one kind.Is p) ts h).1 in sits w src add_form ts x a (add_some r) (add_holds r a)

constraint_tidy : {w : Origin} {src : List ℕ} {ts : List Lexeme} {x : Option (RelOp × Cell Expr)} → ReadsConstraint src ts x → Fits w src ts → IfThere (ConstraintTidy w) x
constraint_tidy no_constraint h = tt
constraint_tidy {w = w} {src = src} (constraint {ts = ts} {k = k} {x = x} p o r) h = let a = (parts w src (one k p) ts h).1 in sits w src expr_form ts x a (expr_some r) (expr_holds r a)

element_tidy : {w : Origin} {src : List ℕ} {ts : List Lexeme} {x : VariableDef} → ReadsVariableDef src ts x → Fits w src ts → ElementTidy w x
element_tidy {w = w} {src = src} (variable_def {ts = ts} {us = us} {vs = vs} {ws = ws} r a b c) h =
    let d = parts w src ts (us ++ (vs ++ ws)) h in
    let e = parts w src us (vs ++ ws) d.1 in
    let g = parts w src vs ws e.1 in
    (ident_tidy r d.0, type_name_tidy a e.0, entity_type_tidy b g.0, constraint_tidy c g.1)

body_tidy : {w : Origin} {src : List ℕ} {ts : List Lexeme} {x : Option (Cell Expr)} → ReadsBody src ts x → Fits w src ts → IfThere (ExprTidy w) x
body_tidy no_body h = tt
body_tidy {w = w} {src = src} (body {ts = ts} {x = x} r) h = sits w src expr_form ts x h (expr_some r) (expr_holds r h)

cond_tidy : {w : Origin} {src : List ℕ} {ts : List Lexeme} {x : Cond} → ReadsCond src ts x → Fits w src ts → CondTidy w x
cond_tidy {w = w} {src = src} (cond {ts = ts} {us = us} l m r b) h =
    let a = (parts w src (ts ++ one kind.OpenBrace l ++ us) (one kind.CloseBrace m) h).0 in
    let c = parts w src (ts ++ one kind.OpenBrace l) us a in
    (ident_tidy r (parts w src ts (one kind.OpenBrace l) c.0).0, body_tidy b c.1)

pub policy_tidy : {w : Origin} {src : List ℕ} {ts : List Lexeme} {x : Policy} → ReadsPolicy src ts x → Fits w src ts → PolicyTidy w x
policy_tidy {w = w} {src = src} (policy {ts = ts} {us = us} {vs = vs} {ws = ws} l m e a r b c) h =
    let d = parts w src (ts ++ us ++ one kind.OpenParen l ++ vs ++ one kind.CloseParen m) ws (parts w src (ts ++ us ++ one kind.OpenParen l ++ vs ++ one kind.CloseParen m ++ ws) (one kind.Semicolon e) h).0 in
    let g = parts w src (ts ++ us ++ one kind.OpenParen l) vs (parts w src (ts ++ us ++ one kind.OpenParen l ++ vs) (one kind.CloseParen m) d.0).0 in
    let i = parts w src ts us (parts w src (ts ++ us) (one kind.OpenParen l) g.0).0 in (
      many_tidy w src (ReadsAnnotation src) (AnnotationTidy w) (λ ts x r. annotation_some r) (λ ts x r h. annotation_tidy r h) a i.0,
      ident_tidy r i.1,
      list_tidy w src (ReadsVariableDef src) (ElementTidy w) (λ ts x r. element_some r) (λ ts x r h. element_tidy r h) b g.1,
      many_tidy w src (ReadsCond src) (CondTidy w) (λ ts x r. cond_some r) (λ ts x r h. cond_tidy r h) c d.1,
    )

pub policies_tidy : {w : Origin} {src : List ℕ} {ts : List Lexeme} {x : Policies} → ReadsPolicies src ts x → Fits w src ts → PoliciesTidy w x
policies_tidy {w = w} {src = src} (policies m) h = many_tidy w src (ReadsPolicy src) (PolicyTidy w) (λ ts x r. policy_some r) (λ ts x r h. policy_tidy r h) m h

-- each within its own place
abbrev pub Own : {T : Type 0} → (Origin → T → Type 0) → Node (Option T) → Type 0
Own P n = NodeTidy (parsed n.loc) (P (parsed n.loc)) n

pub many_own : {T : Type 0} (w : Origin) (src : List ℕ) (R : List Lexeme → T → Type 0) (P : Origin → T → Type 0) → ((ts : List Lexeme) (x : T) → R ts x → Some_of ts) → ((v : Origin) (ts : List Lexeme) (x : T) → R ts x → Fits v src ts → P v x) →
    {ts : List Lexeme} {xs : List (Cell T)} → ReadsMany src R ts xs → Fits w src ts → Each (Own P) xs
many_own w src R P s l none h = tt
many_own w src R P s l (more {ts = ts} {us = us} {xs = xs} {y = y} r q) h =
    let a = parts w src ts us h in
    let b = own_fit w src us a.1 (s us y q) in
    let c : Cell _ = placed src us y in
    each_more (Own P) xs c (many_own w src R P s l r a.0) (within (parsed c.loc) src us b (s us y q), l (parsed c.loc) us y q b)

-- the annotations and the conditions of a policy, each within its own place
abbrev pub PartsOwn : Policy → Type 0
PartsOwn (trees.Policy p) = Each (Own AnnotationTidy) p.annotations × Each (Own CondTidy) p.conds

pub parts_own : {w : Origin} {src : List ℕ} {ts : List Lexeme} {x : Policy} → ReadsPolicy src ts x → Fits w src ts → PartsOwn x
parts_own {w = w} {src = src} (policy {ts = ts} {us = us} {vs = vs} {ws = ws} l m e a r b c) h =
    let d = parts w src (ts ++ us ++ one kind.OpenParen l ++ vs ++ one kind.CloseParen m) ws (parts w src (ts ++ us ++ one kind.OpenParen l ++ vs ++ one kind.CloseParen m ++ ws) (one kind.Semicolon e) h).0 in
    let g = parts w src (ts ++ us ++ one kind.OpenParen l) vs (parts w src (ts ++ us ++ one kind.OpenParen l ++ vs) (one kind.CloseParen m) d.0).0 in
    let i = parts w src ts us (parts w src (ts ++ us) (one kind.OpenParen l) g.0).0 in (
      many_own w src (ReadsAnnotation src) AnnotationTidy (λ ts x r. annotation_some r) (λ v ts x r h. annotation_tidy r h) a i.0,
      many_own w src (ReadsCond src) CondTidy (λ ts x r. cond_some r) (λ v ts x r h. cond_tidy r h) c d.1,
    )

-- a policy that is tidy, and its parts within their places
abbrev pub WholeTidy : Origin → Policy → Type 0
WholeTidy w x = PolicyTidy w x × PartsOwn x

pub policies_own : {w : Origin} {src : List ℕ} {ts : List Lexeme} {x : Policies} → ReadsPolicies src ts x → Fits w src ts → Each (Own WholeTidy) x.0
policies_own {w = w} {src = src} (policies m) h = many_own w src (ReadsPolicy src) WholeTidy (λ ts x r. policy_some r) (λ v ts x r h. (policy_tidy r h, parts_own r h)) m h
