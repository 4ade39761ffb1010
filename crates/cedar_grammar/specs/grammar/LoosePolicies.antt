-- The loose grammar of policies: which token lists have which tree, one case for each rule.
use Rattle.std.specs.Prelude.{ℕ, List, [], ◌∷◌, ◌++◌, Option, Some, None}
use Rattle.cedar_lexer.specs.Token.{Lexeme}
use Rattle.cedar_lexer.specs.declared.token.TokenKind.{TokenKind}
use Rattle.cedar_lexer.specs.declared.token.TokenKind.TheVariants as kind
use Rattle.cedar_syntax.specs.declared.cst.Expr.{Expr}
use Rattle.cedar_syntax.specs.declared.cst.Add.{Add}
use Rattle.cedar_syntax.specs.declared.cst.RelOp.{RelOp}
use Rattle.cedar_syntax.specs.declared.cst.Ident.{Ident}
use Rattle.cedar_syntax.specs.declared.cst.Name.{Name}
use Rattle.cedar_syntax.specs.declared.cst.Str.TheVariants as str
use Rattle.cedar_syntax.specs.declared.cst.Annotation.{Annotation}
use Rattle.cedar_syntax.specs.declared.cst.VariableDef.{VariableDef}
use Rattle.cedar_syntax.specs.declared.cst.Cond.{Cond}
use Rattle.cedar_syntax.specs.declared.cst.Policy.{Policy}
use Rattle.cedar_syntax.specs.declared.cst.Policies.{Policies}
use Rattle.cedar_grammar.specs.grammar.Place.{placed}
use Rattle.cedar_syntax.specs.tokens.Tokens.{Spot, one, between_quotes}
use Rattle.cedar_syntax.specs.trees.Trees.{Cell, annotation_of, variable_def_of, cond_of, policy_of, policies_of}
use Rattle.cedar_grammar.specs.grammar.LooseWords.{ReadsAny, ReadsName, ReadsList}
use Rattle.cedar_grammar.specs.grammar.LooseExpressions.{ReadsRelOp, ReadsExpr, ReadsAdd}

-- items that stand one behind the other, none or more
pub data ReadsMany {T : Type 0} (src : List ℕ) (R : List Lexeme → T → Type 0) : List Lexeme →
    List (Cell T) → Type 0 where
  none : ReadsMany src R [] []
  more : {ts us : List Lexeme} {xs : List (Cell T)} {y : T} → ReadsMany src R ts xs → R us y →
      ReadsMany src R (ts ++ us) (xs ++ placed src us y ∷ [])

-- Annotation = "@" Any ["(" STRINGLIT ")"]
pub data ReadsAnnotation (src : List ℕ) : List Lexeme → Annotation → Type 0 where
  key_alone : {ts : List Lexeme} {i : Ident} (p : Spot) → ReadsAny ts i →
      ReadsAnnotation src (one kind.At p ++ ts) (annotation_of (placed src ts i) None)
  with_value : {ts : List Lexeme} {i : Ident} (p l q m : Spot) → ReadsAny ts i →
      ReadsAnnotation src (one kind.At p ++ ts ++ one kind.OpenParen l ++ one kind.StringLit q
      ++ one kind.CloseParen m)
      (annotation_of (placed src ts i)
      (Some (placed src (one kind.StringLit q) (str.String (between_quotes q.text)))))

-- [":" Name]
pub data ReadsTypeName (src : List ℕ) : List Lexeme → Option (Cell Name) → Type 0 where
  no_type_name : ReadsTypeName src [] None
  type_name : {ts : List Lexeme} {x : Name} (p : Spot) → ReadsName src ts x →
      ReadsTypeName src (one kind.Colon p ++ ts) (Some (placed src ts x))

-- [IS Add]
pub data ReadsEntityType (src : List ℕ) : List Lexeme → Option (Cell Add) → Type 0 where
  no_entity_type : ReadsEntityType src [] None
  entity_type : {ts : List Lexeme} {x : Add} (p : Spot) → ReadsAdd src ts x →
      ReadsEntityType src (one kind.Is p ++ ts) (Some (placed src ts x))

-- [RelOp Expr]
pub data ReadsConstraint (src : List ℕ) : List Lexeme → Option (RelOp × Cell Expr) → Type 0 where
  no_constraint : ReadsConstraint src [] None
  constraint : {ts : List Lexeme} {k : TokenKind} {o : RelOp} {x : Expr} (p : Spot) →
      ReadsRelOp k o → ReadsExpr src ts x →
      ReadsConstraint src (one k p ++ ts) (Some (o, placed src ts x))

-- VariableDef = Any [":" Name] [IS Add] [RelOp Expr]
pub data ReadsVariableDef (src : List ℕ) : List Lexeme → VariableDef → Type 0 where
  variable_def : {ts us vs ws : List Lexeme} {i : Ident} {x : Option (Cell Name)}
      {y : Option (Cell Add)} {z : Option (RelOp × Cell Expr)} →
      ReadsAny ts i → ReadsTypeName src us x → ReadsEntityType src vs y →
      ReadsConstraint src ws z →
      ReadsVariableDef src (ts ++ (us ++ (vs ++ ws))) (variable_def_of (placed src ts i) x y z)

-- [Expr]
pub data ReadsBody (src : List ℕ) : List Lexeme → Option (Cell Expr) → Type 0 where
  no_body : ReadsBody src [] None
  body : {ts : List Lexeme} {x : Expr} → ReadsExpr src ts x →
      ReadsBody src ts (Some (placed src ts x))

-- Cond = Any "{" [Expr] "}"
pub data ReadsCond (src : List ℕ) : List Lexeme → Cond → Type 0 where
  cond : {ts us : List Lexeme} {i : Ident} {x : Option (Cell Expr)} (l m : Spot) → ReadsAny ts i →
      ReadsBody src us x →
      ReadsCond src (ts ++ one kind.OpenBrace l ++ us ++ one kind.CloseBrace m)
      (cond_of (placed src ts i) x)

-- Policy = Annotation* Any "(" List(VariableDef) ")" Cond* ";"
pub data ReadsPolicy (src : List ℕ) : List Lexeme → Policy → Type 0 where
  policy : {ts us vs ws : List Lexeme} {xs : List (Cell Annotation)} {i : Ident}
      {ys : List (Cell VariableDef)} {zs : List (Cell Cond)} (l m e : Spot) →
      ReadsMany src (ReadsAnnotation src) ts xs → ReadsAny us i →
      ReadsList src (ReadsVariableDef src) vs ys → ReadsMany src (ReadsCond src) ws zs →
      ReadsPolicy src (ts ++ us ++ one kind.OpenParen l ++ vs ++ one kind.CloseParen m ++ ws
      ++ one kind.Semicolon e)
      (policy_of xs (placed src us i) ys zs)

-- Policies = Policy*
pub data ReadsPolicies (src : List ℕ) : List Lexeme → Policies → Type 0 where
  policies : {ts : List Lexeme} {xs : List (Cell Policy)} → ReadsMany src (ReadsPolicy src) ts xs →
      ReadsPolicies src ts (policies_of xs)
