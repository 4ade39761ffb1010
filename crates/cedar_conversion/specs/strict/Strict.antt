-- The strict grammar: which tokens mean which expression. There is no tree and no fault in it. Its
-- levels, from the loosest operator to the tightest, and what each form means are those of the
-- grammar and of the operators' pages in Cedar's reference: a relation has one operator at most,
-- `/` and `%` mean nothing, so many signs at most as `limit` says stand before an operand, a
-- literal number fits 64 bits with its sign, the keys of a record are all different. Six methods,
-- as `contains`, can be called in every policy; what else can be, `table` has. A `Value` is what
-- an expression means as syntax, before it is evaluated.
use Rattle.std.specs.Prelude.{◌≡◌, ◌≤◌, ◌<◌, ◌^◌, ◌+◌, ◌-◌, ℕ, zero, suc, true, false, List, [], ◌∷◌, ◌++◌, length, Some, pos, neg_ℤ}
use Rattle.std.specs.Map.{keys_of}
use Rattle.cedar_lexer.specs.Token.{Lexeme}
use Rattle.cedar_lexer.specs.declared.token.TokenKind.{TokenKind}
use Rattle.cedar_lexer.specs.declared.token.TokenKind.TheVariants as kind
use Rattle.cedar_expressions.specs.declared.operators.AddOp.{AddOp}
use Rattle.cedar_expressions.specs.declared.entity.EntityUID.{EntityUID}
use Rattle.cedar_expressions.specs.declared.atoms.Var.{Var}
use Rattle.cedar_expressions.specs.declared.atoms.SlotId.{SlotId}
use Rattle.cedar_expressions.specs.declared.atoms.SlotId.TheVariants as slots
use Rattle.cedar_expressions.specs.declared.atoms.PatternElem.{PatternElem}
use Rattle.cedar_expressions.specs.declared.atoms.Literal.TheVariants as literals
use Rattle.cedar_expressions.specs.Keys.{repeats_key}
use Rattle.cedar_expressions.specs.Value as v
use Rattle.cedar_expressions.specs.Value.{Value, values, terms, fields}
use Rattle.cedar_syntax.specs.strings.Pattern.{IsPattern}
use Rattle.cedar_syntax.specs.tokens.Signs.{ReadsSigns, ReadsAddOp}
use Rattle.cedar_syntax.specs.tokens.Tokens.{Spot, one, number_of, between_quotes}
use Rattle.cedar_conversion.specs.strict.Extensions.{Extensions}
use Rattle.cedar_conversion.specs.strict.StrictCalls.{IsFunction, CallsMethod}
use Rattle.cedar_conversion.specs.strict.StrictWords.{IsVariable, IsVariableWord, IsIdentifier, IsName, IsText, IsSought, IsKey, IsEntity, path_value}

-- a sign applied as often as it stands there
abbrev pub iteration : ℕ → (Value → Value) → Value → Value
iteration zero f x = x
iteration (suc n) f x = f (iteration n f x)

-- 9223372036854775808, the first number that is no literal but behind a `-`
abbrev pub largest : ℕ
largest = 2 ^ 63

-- a slot where a token stands
abbrev pub slot_there : SlotId → Spot → Value
slot_there id p =
    v.slot (record { id = id; place = Some record { offset = p.start; length = p.end - p.start } })

-- What tokens are read as, from the loosest to the tightest. Tokens that mean something as one
-- sort mean the same as the sort before it.
pub data Sort : Type 0 where
  expression : Sort
  disjunction : Sort
  conjunction : Sort
  relation : Sort
  sum : Sort
  product : Sort
  signed : Sort
  member : Sort
  primary : Sort

-- a NUMBER and no more
abbrev pub IsNumeral : List Lexeme → Type 0
IsNumeral [] = ⊥
IsNumeral (t ∷ []) = t.kind ≡ kind.Number
IsNumeral (t ∷ u ∷ ts) = ⊥

-- the relation that an operator makes of two values; `=` makes none
pub data Relates : TokenKind → Value → Value → Value → Type 0 where
  less : {a b : Value} → Relates kind.Less a b (v.less a b)
  less_eq : {a b : Value} → Relates kind.LessEq a b (v.lesseq a b)
  greater_eq : {a b : Value} → Relates kind.GreaterEq a b (v.greatereq a b)
  greater : {a b : Value} → Relates kind.Greater a b (v.greater a b)
  not_eq : {a b : Value} → Relates kind.NotEq a b (v.noteq a b)
  equal : {a b : Value} → Relates kind.EqEq a b (v.is_eq a b)
  within : {a b : Value} → Relates kind.In a b (v.is_in a b)

-- under a table of what may be called, and a limit of signs in a row
module _ (table : Extensions) (limit : ℕ) where
  mutual
    pub data Means : Sort → List Lexeme → Value → Type 0 where
      conditional : {ts us vs : List Lexeme} {a b c : Value} (l m n : Spot) → Means expression ts a
          → Means expression us b → Means expression vs c
          → Means expression
          (one kind.If l ++ ts ++ one kind.Then m ++ us ++ one kind.Else n ++ vs) (v.ite a b c)
      one_disjunction : {ts : List Lexeme} {a : Value} → Means disjunction ts a
          → Means expression ts a
      -- two or more parts joined by `||`
      disjoined : {ts : List Lexeme} {a : Value} {bs : List Value}
          → Joined kind.OrOr conjunction ts a bs → 0 < length bs
          → Means disjunction ts (v.or_nary a (values bs))
      one_conjunction : {ts : List Lexeme} {a : Value} → Means conjunction ts a
          → Means disjunction ts a
      -- two or more parts joined by `&&`
      conjoined : {ts : List Lexeme} {a : Value} {bs : List Value}
          → Joined kind.AndAnd relation ts a bs → 0 < length bs
          → Means conjunction ts (v.and_naryl a (values bs))
      one_relation : {ts : List Lexeme} {a : Value} → Means relation ts a → Means conjunction ts a
      -- two sums around one operator
      related : {ts us : List Lexeme} {a b c : Value} {k : TokenKind} (p : Spot) → Means sum ts a
          → Relates k a b c → Means sum us b → Means relation (ts ++ one k p ++ us) c
      -- a sum, `has`, and what is sought
      has : {ts us : List Lexeme} {a : Value} {id : List ℕ} {ids : List (List ℕ)} (p : Spot)
          → Means sum ts a → IsSought us id ids
          → Means relation (ts ++ one kind.Has p ++ us) (v.extended_has_attr a id ids)
      -- a sum, `like`, and a string that is read as a pattern
      like : {ts : List Lexeme} {a : Value} {pattern : List PatternElem} (p q : Spot)
          → Means sum ts a → IsPattern (between_quotes q.text) pattern
          → Means relation (ts ++ one kind.Like p ++ one kind.StringLit q) (v.like a pattern)
      -- a sum, `is`, and the name of a type
      is : {ts us : List Lexeme} {a : Value} {ids : List (List ℕ)} {id : List ℕ} (p : Spot)
          → Means sum ts a → IsName us ids id
          → Means relation (ts ++ one kind.Is p ++ us)
          (v.is_entity_type a (record { name = path_value ids id }))
      -- the same, `in`, and another sum
      is_in : {ts us vs : List Lexeme} {a b : Value} {ids : List (List ℕ)} {id : List ℕ}
          (p q : Spot) → Means sum ts a → IsName us ids id → Means sum vs b
          → Means relation (ts ++ one kind.Is p ++ us ++ one kind.In q ++ vs)
          (v.is_in_entity_type a (record { name = path_value ids id }) b)
      one_sum : {ts : List Lexeme} {a : Value} → Means sum ts a → Means relation ts a
      -- two or more parts joined by `+` and `-`
      added_up : {ts : List Lexeme} {a : Value} {bs : List (AddOp × Value)} → Added ts a bs
          → 0 < length bs → Means sum ts (v.add_nary a (terms bs))
      one_product : {ts : List Lexeme} {a : Value} → Means product ts a → Means sum ts a
      -- two or more parts joined by `*`
      multiplied : {ts : List Lexeme} {a : Value} {bs : List Value}
          → Joined kind.Star signed ts a bs → 0 < length bs
          → Means product ts (v.mul_nary a (values bs))
      one_signed : {ts : List Lexeme} {a : Value} → Means signed ts a → Means product ts a
      -- signs `!` up to the limit apply `not` as often
      negated : {ts us : List Lexeme} {a : Value} {n : ℕ} → ReadsSigns kind.Bang ts n → n ≤ limit
          → Means member us a → Means signed (ts ++ us) (iteration n v.not a)
      -- behind one or more `-`, up to the limit, a NUMBER that is the whole operand is one literal
      -- with the last of them; each `-` before that one applies `neg`
      negative : {ts : List Lexeme} (n : ℕ) (p : Spot) → ReadsSigns kind.Minus ts (n + 1)
          → n < limit → number_of p.text ≤ largest
          → Means signed (ts ++ one kind.Number p)
          (iteration n v.neg (v.val (literals.Long (neg_ℤ (pos (number_of p.text))))))
      -- before any other operand each `-` up to the limit applies `neg`
      opposite : {ts us : List Lexeme} {a : Value} {n : ℕ} → ReadsSigns kind.Minus ts n → n ≤ limit
          → (IsNumeral us → ⊥) → Means member us a → Means signed (ts ++ us) (iteration n v.neg a)
      unsigned : {ts : List Lexeme} {a : Value} → Means member ts a → Means signed ts a
      -- a member is a primary or a call of a function, and links behind it, from the left
      bare : {ts : List Lexeme} {a : Value} → Means primary ts a → Means member ts a
      -- a function's name, which is no variable, and its arguments
      called : {ts us : List Lexeme} {ids : List (List ℕ)} {id : List ℕ} {args : List Value}
          (l m : Spot) → IsName ts ids id → (IsVariableWord ts → ⊥) → IsFunction table ids id
          → Listed us args
          → Means member (ts ++ one kind.OpenParen l ++ us ++ one kind.CloseParen m)
          (v.call_extension_fn (path_value ids id) (values args))
      -- `.` and an identifier: an attribute, since no call stands behind it
      attribute : {ts us : List Lexeme} {a : Value} {id : List ℕ} (p : Spot) → Means member ts a
          → IsIdentifier us id → Means member (ts ++ one kind.Dot p ++ us) (v.get_attr a id)
      -- a string in brackets is an attribute too
      indexed : {ts us : List Lexeme} {a : Value} {id : List ℕ} (l m : Spot) → Means member ts a
          → IsText us id
          → Means member (ts ++ one kind.OpenBracket l ++ us ++ one kind.CloseBracket m)
          (v.get_attr a id)
      -- `.`, a method's name and its arguments
      method : {ts us vs : List Lexeme} {a b : Value} {id : List ℕ} {args : List Value}
          (p l m : Spot) → Means member ts a → IsIdentifier us id → Listed vs args
          → CallsMethod table id a args b
          → Means member
          (ts ++ one kind.Dot p ++ us ++ one kind.OpenParen l ++ vs ++ one kind.CloseParen m) b
      truth : (p : Spot) → Means primary (one kind.True p) (v.val (literals.Bool true))
      falsity : (p : Spot) → Means primary (one kind.False p) (v.val (literals.Bool false))
      numeral : (p : Spot) → number_of p.text < largest
          → Means primary (one kind.Number p) (v.val (literals.Long (pos (number_of p.text))))
      text : {ts : List Lexeme} {text : List ℕ} → IsText ts text
          → Means primary ts (v.val (literals.String text))
      variable : {k : TokenKind} {x : Var} (p : Spot) → IsVariable k x
          → Means primary (one k p) (v.var x)
      -- the two slots of a template, each where its token stands
      principal_slot : (p : Spot)
          → Means primary (one kind.PrincipalSlot p) (slot_there slots.Principal p)
      resource_slot : (p : Spot)
          → Means primary (one kind.ResourceSlot p) (slot_there slots.Resource p)
      entity : {ts : List Lexeme} {uid : EntityUID} → IsEntity ts uid
          → Means primary ts (v.val (literals.EntityUID uid))
      parenthesized : {ts : List Lexeme} {a : Value} (l m : Spot) → Means expression ts a
          → Means primary (one kind.OpenParen l ++ ts ++ one kind.CloseParen m) a
      set : {ts : List Lexeme} {items : List Value} (l m : Spot) → Listed ts items
          → Means primary (one kind.OpenBracket l ++ ts ++ one kind.CloseBracket m)
          (v.set (values items))
      -- a record's keys are all different
      in_braces : {ts : List Lexeme} {entries : List (List ℕ × Value)} (l m : Spot)
          → Entries ts entries → repeats_key (keys_of entries) ≡ false
          → Means primary (one kind.OpenBrace l ++ ts ++ one kind.CloseBrace m)
          (v.«record» (fields entries))

    -- a first part, and those behind an operator of this kind
    pub data Joined : TokenKind → Sort → List Lexeme → Value → List Value → Type 0 where
      one_part : {k : TokenKind} {s : Sort} {ts : List Lexeme} {a : Value} → Means s ts a
          → Joined k s ts a []
      more_parts : {k : TokenKind} {s : Sort} {ts us : List Lexeme} {a b : Value}
          {bs : List Value} (p : Spot) → Joined k s ts a bs → Means s us b
          → Joined k s (ts ++ one k p ++ us) a (bs ++ b ∷ [])

    -- a first part, and those behind a `+` or a `-`, each with its operator
    pub data Added : List Lexeme → Value → List (AddOp × Value) → Type 0 where
      one_term : {ts : List Lexeme} {a : Value} → Means product ts a → Added ts a []
      more_terms : {ts us : List Lexeme} {a b : Value} {k : TokenKind} {op : AddOp}
          {bs : List (AddOp × Value)} (p : Spot) → Added ts a bs → ReadsAddOp k op
          → Means product us b → Added (ts ++ one k p ++ us) a (bs ++ (op, b) ∷ [])

    -- what stands between brackets: nothing, or expressions joined by `,` and one more `,` or none
    pub data Listed : List Lexeme → List Value → Type 0 where
      no_items : Listed [] []
      items : {ts : List Lexeme} {a : Value} {bs : List Value}
          → Joined kind.Comma expression ts a bs → Listed ts (a ∷ bs)
      items_comma : {ts : List Lexeme} {a : Value} {bs : List Value} (p : Spot)
          → Joined kind.Comma expression ts a bs → Listed (ts ++ one kind.Comma p) (a ∷ bs)

    -- the same of a record's keys and values
    pub data Entries : List Lexeme → List (List ℕ × Value) → Type 0 where
      no_entries : Entries [] []
      entries : {ts : List Lexeme} {fs : List (List ℕ × Value)} → JoinedEntries ts fs
          → Entries ts fs
      entries_comma : {ts : List Lexeme} {fs : List (List ℕ × Value)} (p : Spot)
          → JoinedEntries ts fs → Entries (ts ++ one kind.Comma p) fs

    pub data JoinedEntries : List Lexeme → List (List ℕ × Value) → Type 0 where
      one_entry : {ts : List Lexeme} {key : List ℕ} {a : Value} → Entry ts key a
          → JoinedEntries ts ((key, a) ∷ [])
      more_entries : {ts us : List Lexeme} {fs : List (List ℕ × Value)} {key : List ℕ}
          {a : Value} (p : Spot) → JoinedEntries ts fs → Entry us key a
          → JoinedEntries (ts ++ one kind.Comma p ++ us) (fs ++ (key, a) ∷ [])

    -- a key, `:` and an expression
    pub data Entry : List Lexeme → List ℕ → Value → Type 0 where
      entry : {ts us : List Lexeme} {key : List ℕ} {a : Value} (p : Spot) → IsKey ts key
          → Means expression us a → Entry (ts ++ one kind.Colon p ++ us) key a
