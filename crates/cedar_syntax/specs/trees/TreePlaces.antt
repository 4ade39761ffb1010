-- The places of a tree, and what a place of a text is.
use Rattle.std.specs.Prelude.{◌≡◌, ℕ, ◌+◌, List, [], ◌∷◌, ◌++◌, Option, Some, None}
use Rattle.std.specs.List.{flat_map}
use Rattle.std.specs.Str.{IsCharBoundary}
use Rattle.cedar_syntax.specs.declared.loc.Loc.{Loc}
use Rattle.cedar_syntax.specs.declared.cst.Add.{Add}
use Rattle.cedar_syntax.specs.declared.cst.Annotation.{Annotation}
use Rattle.cedar_syntax.specs.declared.cst.Cond.{Cond}
use Rattle.cedar_syntax.specs.declared.cst.Ident.{Ident}
use Rattle.cedar_syntax.specs.declared.cst.Name.{Name}
use Rattle.cedar_syntax.specs.declared.cst.Policies.{Policies}
use Rattle.cedar_syntax.specs.declared.cst.Policy.{Policy}
use Rattle.cedar_syntax.specs.declared.cst.Policy.TheVariants as policy
use Rattle.cedar_syntax.specs.declared.cst.Ref.{Ref}
use Rattle.cedar_syntax.specs.declared.cst.Ref.TheVariants as ref
use Rattle.cedar_syntax.specs.declared.cst.RefInit.{RefInit}
use Rattle.cedar_syntax.specs.declared.cst.RelOp.{RelOp}
use Rattle.cedar_syntax.specs.declared.cst.Literal.{Literal}
use Rattle.cedar_syntax.specs.declared.cst.Literal.TheVariants as lit
use Rattle.cedar_syntax.specs.declared.cst.Str.{Str}
use Rattle.cedar_syntax.specs.declared.cst.Slot.{Slot}
use Rattle.cedar_syntax.specs.declared.cst.Expr.{Expr}
use Rattle.cedar_syntax.specs.declared.cst.Primary.{Primary}
use Rattle.cedar_syntax.specs.declared.cst.VariableDef.{VariableDef}
use Rattle.cedar_syntax.specs.trees.Located.{Located, Form, Parts, missing, at, only, ite, chain, has, like, is, is_in, unary, member, field, call, index, literal, name, slot, reference, parens, set, record_of, init, none, more}
use Rattle.cedar_syntax.specs.trees.Forms.{expr_form, add_form, primary_form}
use Rattle.cedar_syntax.specs.trees.Trees.{Cell}

-- a range of the text whose ends are boundaries of characters, with the whole text as its source
abbrev pub IsPlace : List ℕ → Option Loc → Type 0
IsPlace src None = ⊥
IsPlace src (Some l) =
    (l.src ≡ src) × IsCharBoundary src l.span.offset ×
    IsCharBoundary src (l.span.offset + l.span.len)

-- a node's own place, and those of what is in it
abbrev pub places_in : {T : Type 0} → (T → List (Option Loc)) → Option T → List (Option Loc)
places_in f None = []
places_in f (Some x) = f x

abbrev pub node_places : {T : Type 0} → (T → List (Option Loc)) → Cell T → List (Option Loc)
node_places f c = c.loc ∷ places_in f c.node

abbrev pub ident_places : Ident → List (Option Loc)
ident_places i = []

abbrev pub str_places : Str → List (Option Loc)
str_places s = []

abbrev pub name_places : Name → List (Option Loc)
name_places n = flat_map (node_places ident_places) n.path ++ node_places ident_places n.name

abbrev pub literal_places : Literal → List (Option Loc)
literal_places lit.True = []
literal_places lit.False = []
literal_places (lit.Num n) = []
literal_places (lit.Str s) = node_places str_places s

abbrev pub ref_init_places : RefInit → List (Option Loc)
ref_init_places r = node_places ident_places r.0 ++ node_places literal_places r.1

abbrev pub ref_places : Ref → List (Option Loc)
ref_places (ref.Uid p e) = node_places name_places p ++ node_places str_places e
ref_places (ref.Ref p rs) = node_places name_places p ++ flat_map (node_places ref_init_places) rs

abbrev pub slot_places : Slot → List (Option Loc)
slot_places s = []

-- ---- expressions, by their located trees

abbrev mutual
  pub located_places : Located → List (Option Loc)
  located_places (missing place) = place ∷ []
  located_places (at place f) = place ∷ form_places f

  pub form_places : Form → List (Option Loc)
  form_places (only n) = located_places n
  form_places (ite a b c) = located_places a ++ located_places b ++ located_places c
  form_places (chain level first others) = located_places first ++ parts_places others
  form_places (has target right) = located_places target ++ located_places right
  form_places (like target pattern) = located_places target ++ located_places pattern
  form_places (is target type) = located_places target ++ located_places type
  form_places (is_in target type within) =
      located_places target ++ located_places type ++ located_places within
  form_places (unary op item) = located_places item
  form_places (member item accesses) = located_places item ++ parts_places accesses
  form_places (field n) = node_places ident_places n
  form_places (call items) = parts_places items
  form_places (index n) = located_places n
  form_places (literal n) = node_places literal_places n
  form_places (name n) = node_places name_places n
  form_places (slot n) = node_places slot_places n
  form_places (reference n) = node_places ref_places n
  form_places (parens n) = located_places n
  form_places (set items) = parts_places items
  form_places (record_of items) = parts_places items
  form_places (init key value) = located_places key ++ located_places value

  pub parts_places : Parts → List (Option Loc)
  parts_places none = []
  parts_places (more op n others) = located_places n ++ parts_places others

abbrev pub expr_places : Expr → List (Option Loc)
expr_places x = form_places (expr_form x)

abbrev pub primary_places : Primary → List (Option Loc)
primary_places x = form_places (primary_form x)

abbrev pub add_places : Add → List (Option Loc)
add_places x = form_places (add_form x)

-- ---- policies

-- the places of a node that may be missing
abbrev pub optional_places : {T : Type 0} → (T → List (Option Loc)) → Option (Cell T)
    → List (Option Loc)
optional_places f None = []
optional_places f (Some c) = node_places f c

abbrev pub annotation_places : Annotation → List (Option Loc)
annotation_places a = node_places ident_places a.key ++ optional_places str_places a.value

abbrev pub constraint_places : Option (RelOp × Cell Expr) → List (Option Loc)
constraint_places None = []
constraint_places (Some (o, c)) = node_places expr_places c

abbrev pub variable_def_places : VariableDef → List (Option Loc)
variable_def_places v =
    node_places ident_places v.variable ++ (optional_places name_places v.unused_type_name ++
    (optional_places add_places v.entity_type ++ constraint_places v.ineq))

abbrev pub cond_places : Cond → List (Option Loc)
cond_places c = node_places ident_places c.cond ++ optional_places expr_places c.expr

abbrev pub policy_places : Policy → List (Option Loc)
policy_places (policy.Policy p) =
    flat_map (node_places annotation_places) p.annotations ++
    (node_places ident_places p.effect ++
    (flat_map (node_places variable_def_places) p.variables ++
    flat_map (node_places cond_places) p.conds))

abbrev pub policies_places : Policies → List (Option Loc)
policies_places x = flat_map (node_places policy_places) x.0
