-- What an expression means: the builder calls that make it, without the places of its nodes. A
-- slot alone has its place, since it is refused there where none may stand.
use Rattle.std.specs.Prelude.{ℕ, List, [], ◌∷◌}
use Rattle.cedar_expressions.specs.declared.operators.AddOp.{AddOp}
use Rattle.cedar_expressions.specs.declared.atoms.Literal.{Literal}
use Rattle.cedar_expressions.specs.declared.atoms.Var.{Var}
use Rattle.cedar_expressions.specs.declared.place.Slot.{Slot}
use Rattle.cedar_expressions.specs.declared.atoms.PatternElem.{PatternElem}
use Rattle.cedar_expressions.specs.declared.entity.EntityType.{EntityType}
use Rattle.cedar_expressions.specs.Path.{Path}

-- each constructor is named after its call and takes what the call takes; a text is its bytes
mutual
  pub data Value : Type 0 where
    val : Literal → Value
    var : Var → Value
    slot : Slot → Value
    ite : Value → Value → Value → Value
    not : Value → Value
    neg : Value → Value
    and : Value → Value → Value
    or_nary : Value → Values → Value
    and_naryl : Value → Values → Value
    add_nary : Value → Terms → Value
    mul_nary : Value → Values → Value
    less : Value → Value → Value
    lesseq : Value → Value → Value
    greater : Value → Value → Value
    greatereq : Value → Value → Value
    is_eq : Value → Value → Value
    noteq : Value → Value → Value
    is_in : Value → Value → Value
    like : Value → List PatternElem → Value
    is_entity_type : Value → EntityType → Value
    is_in_entity_type : Value → EntityType → Value → Value
    extended_has_attr : Value → List ℕ → List (List ℕ) → Value
    get_attr : Value → List ℕ → Value
    contains : Value → Value → Value
    contains_all : Value → Value → Value
    contains_any : Value → Value → Value
    is_empty : Value → Value
    get_tag : Value → Value → Value
    has_tag : Value → Value → Value
    call_extension_fn : Path → Values → Value
    set : Values → Value
    «record» : Fields → Value

  -- the values of a list
  pub data Values : Type 0 where
    none : Values
    more : Value → Values → Values

  -- the later operands of a sum, each behind its operator
  pub data Terms : Type 0 where
    no_terms : Terms
    term : AddOp → Value → Terms → Terms

  -- the pairs of a record as they were written
  pub data Fields : Type 0 where
    no_fields : Fields
    field : List ℕ → Value → Fields → Fields

abbrev pub values : List Value → Values
values [] = none
values (x ∷ xs) = more x (values xs)

abbrev pub terms : List (AddOp × Value) → Terms
terms [] = no_terms
terms (t ∷ ts) = term t.0 t.1 (terms ts)

abbrev pub fields : List (List ℕ × Value) → Fields
fields [] = no_fields
fields (f ∷ fs) = field f.0 f.1 (fields fs)
