-- The parts of an expression that hold no expression are equal by `==` exactly if they are the
-- same.
use Rattle.std.proofs.Common.{◌≡◌, ℕ, Bool, Decides, List, nat_eq, int_eq}
use Rattle.std.specs.Cmp.{unsigned_Decides, signed_Decides, booleans_Decides}
use Rattle.std.specs.Bool.{beq}
use Rattle.std.specs.Cmp.Lexicographic.{pointwise, pointwise_decides}
use Rattle.cedar_expressions.proofs.Deciding.{both, through, bare, enum, one, two, none}
use Rattle.cedar_expressions.specs.Path.{Path}
use Rattle.cedar_expressions.specs.declared.entity.Eid.{Eid}
use Rattle.cedar_expressions.specs.declared.entity.EntityType.{EntityType}
use Rattle.cedar_expressions.specs.declared.entity.EntityUID.{EntityUID}
use Rattle.cedar_expressions.specs.declared.atoms.Literal.{Literal}
use Rattle.cedar_expressions.specs.declared.atoms.PatternElem.{PatternElem}
use Rattle.cedar_expressions.specs.declared.expr.UnaryCall.{UnaryCall}
use Rattle.cedar_expressions.specs.declared.expr.BinaryCall.{BinaryCall}
use Rattle.cedar_expressions.specs.declared.expr.ListCall.{ListCall}
use Rattle.cedar_expressions.specs.contracts.names.NamePartialEq.TheImpl as name_eq
use Rattle.cedar_expressions.specs.contracts.entity.EidPartialEq.TheImpl as eid_eq
use Rattle.cedar_expressions.specs.contracts.entity.EntityTypePartialEq.TheImpl as type_eq
use Rattle.cedar_expressions.specs.contracts.entity.EntityUIDPartialEq.TheImpl as entity_eq
use Rattle.cedar_expressions.specs.contracts.atoms.LiteralPartialEq.TheImpl as literal_eq
use Rattle.cedar_expressions.specs.contracts.atoms.PatternElemPartialEq.TheImpl as pattern_eq
use Rattle.cedar_expressions.specs.contracts.operators.UnaryOpPartialEq.TheImpl as operator_eq
use Rattle.cedar_expressions.specs.contracts.expr.UnaryCallPartialEq.TheImpl as unary_eq
use Rattle.cedar_expressions.specs.contracts.expr.BinaryCallPartialEq.TheImpl as binary_eq
use Rattle.cedar_expressions.specs.contracts.expr.BinaryOpPartialEq.TheImpl as between_eq
use Rattle.cedar_expressions.specs.contracts.expr.ListCallPartialEq.TheImpl as list_eq
use Rattle.cedar_expressions.specs.contracts.atoms.Literal as literal
use Rattle.cedar_expressions.specs.contracts.atoms.PatternElem as pattern
use Rattle.cedar_expressions.specs.contracts.operators.UnaryOp as operator
use Rattle.cedar_expressions.specs.contracts.expr.UnaryCall as unary
use Rattle.cedar_expressions.specs.contracts.expr.BinaryOp as between
use Rattle.cedar_expressions.specs.contracts.expr.BinaryCall as binary
use Rattle.cedar_expressions.specs.contracts.expr.ListCall as list

abbrev pub text_eq : List ℕ → List ℕ → Bool
text_eq = pointwise nat_eq

pub text : (x y : List ℕ) → Decides (text_eq x y) (x ≡ y)
text = pointwise_decides unsigned_Decides

pub name : (x y : Path) → Decides (name_eq.ghosts.eq x y) (x ≡ y)
name x y =
    through (λ e i. record { path = e.0 i; id = e.1 i }) (λ e. (λ i. (e i).path, λ i. (e i).id))
    (both (pointwise text_eq x.path y.path) (text_eq x.id y.id) (pointwise_decides text x.path y.path) (text x.id y.id))

pub entity_type : (x y : EntityType) → Decides (type_eq.ghosts.eq x y) (x ≡ y)
entity_type x y = through (λ e i. record { name = e i }) (λ e i. (e i).name) (name x.name y.name)

eid : (x y : Eid) → Decides (eid_eq.ghosts.eq x y) (x ≡ y)
eid x y = through (λ e i. record { text = e i }) (λ e i. (e i).text) (text x.text y.text)

entity : (x y : EntityUID) → Decides (entity_eq.ghosts.eq x y) (x ≡ y)
entity x y =
    through (λ e i. record { entity_type = e.0 i; eid = e.1 i }) (λ e. (λ i. (e i).entity_type, λ i. (e i).eid))
    (both (type_eq.ghosts.eq x.entity_type y.entity_type) (eid_eq.ghosts.eq x.eid y.eid) (entity_type x.entity_type y.entity_type) (eid x.eid y.eid))

pub literals : (x y : Literal) → Decides (literal_eq.ghosts.eq x y) (x ≡ y)
literals = enum literal.enum _ (one beq booleans_Decides, (one int_eq signed_Decides, (one text_eq text, (one entity_eq.ghosts.eq entity, tt))))

patterns : (x y : PatternElem) → Decides (pattern_eq.ghosts.eq x y) (x ≡ y)
patterns = enum pattern.enum _ (one nat_eq unsigned_Decides, (none, tt))

pub unary_calls : (x y : UnaryCall) → Decides (unary_eq.ghosts.eq x y) (x ≡ y)
unary_calls = enum unary.enum _ (
  one operator_eq.ghosts.eq (bare operator.the_type tt),
  (
    none,
    (
      one (pointwise pattern_eq.ghosts.eq) (pointwise_decides patterns),
      (
        one type_eq.ghosts.eq entity_type,
        (
          one text_eq text,
          (two text_eq text (pointwise text_eq) (pointwise_decides text), tt),
        ),
      ),
    ),
  ),
)

pub binary_calls : (x y : BinaryCall) → Decides (binary_eq.ghosts.eq x y) (x ≡ y)
binary_calls = enum binary.enum _ (one between_eq.ghosts.eq (bare between.the_type tt), (one type_eq.ghosts.eq entity_type, tt))

pub list_calls : (x y : ListCall) → Decides (list_eq.ghosts.eq x y) (x ≡ y)
list_calls = enum list.enum _ (none, (one name_eq.ghosts.eq name, tt))
