-- A `Located` tree with every place taken out, and the same of names, literals and references: two
-- trees are the same up to places where these are equal.
use Rattle.std.specs.Prelude.{map, Option, None, option_map}
use Rattle.cedar_syntax.specs.declared.node.Node.{Node}
use Rattle.cedar_syntax.specs.declared.cst.Literal.{Literal}
use Rattle.cedar_syntax.specs.declared.cst.Literal.TheVariants as lit
use Rattle.cedar_syntax.specs.declared.cst.Name.{Name}
use Rattle.cedar_syntax.specs.declared.cst.Ref.{Ref}
use Rattle.cedar_syntax.specs.declared.cst.Ref.TheVariants as refs
use Rattle.cedar_syntax.specs.declared.cst.RefInit.{RefInit}
use Rattle.cedar_syntax.specs.trees.Located.{Located, Form, Parts, missing, at, only, ite, chain, has, like, is, is_in, unary, member, field, call, index, literal, name, slot, reference, parens, set, record_of, init, none, more}

-- a node without its place, and without those of what it holds
abbrev pub unlocated_cell : {X : Type 0} → (X → X) → Node (Option X) → Node (Option X)
unlocated_cell f n = record { node = option_map f n.node; loc = None }

-- what it holds has none
abbrev pub unlocated_node : {X : Type 0} → Node (Option X) → Node (Option X)
unlocated_node n = record { node = n.node; loc = None }

abbrev pub unlocated_literal : Literal → Literal
unlocated_literal lit.True = lit.True
unlocated_literal lit.False = lit.False
unlocated_literal (lit.Num n) = lit.Num n
unlocated_literal (lit.Str s) = lit.Str (unlocated_node s)

abbrev pub unlocated_name : Name → Name
unlocated_name n = record { path = map unlocated_node n.path; name = unlocated_node n.name }

abbrev pub unlocated_ref_init : RefInit → RefInit
unlocated_ref_init i = record { 0 = unlocated_node i.0; 1 = unlocated_cell unlocated_literal i.1 }

abbrev pub unlocated_ref : Ref → Ref
unlocated_ref (refs.Uid path eid) =
    refs.Uid (unlocated_cell unlocated_name path) (unlocated_node eid)
unlocated_ref (refs.Ref path inits) =
    refs.Ref (unlocated_cell unlocated_name path) (map (unlocated_cell unlocated_ref_init) inits)

unfoldable mutual
  pub unlocated : Located → Located
  unlocated (missing place) = missing None
  unlocated (at place f) = at None (unlocated_form f)

  pub unlocated_form : Form → Form
  unlocated_form (only n) = only (unlocated n)
  unlocated_form (ite a b c) = ite (unlocated a) (unlocated b) (unlocated c)
  unlocated_form (chain level first others) =
      chain level (unlocated first) (unlocated_parts others)
  unlocated_form (has target right) = has (unlocated target) (unlocated right)
  unlocated_form (like target pattern) = like (unlocated target) (unlocated pattern)
  unlocated_form (is target type) = is (unlocated target) (unlocated type)
  unlocated_form (is_in target type within) =
      is_in (unlocated target) (unlocated type) (unlocated within)
  unlocated_form (unary op item) = unary op (unlocated item)
  unlocated_form (member item accesses) = member (unlocated item) (unlocated_parts accesses)
  unlocated_form (field n) = field (unlocated_node n)
  unlocated_form (call items) = call (unlocated_parts items)
  unlocated_form (index n) = index (unlocated n)
  unlocated_form (literal n) = literal (unlocated_cell unlocated_literal n)
  unlocated_form (name n) = name (unlocated_cell unlocated_name n)
  unlocated_form (slot n) = slot (unlocated_node n)
  unlocated_form (reference n) = reference (unlocated_cell unlocated_ref n)
  unlocated_form (parens n) = parens (unlocated n)
  unlocated_form (set items) = set (unlocated_parts items)
  unlocated_form (record_of inits) = record_of (unlocated_parts inits)
  unlocated_form (init key value) = init (unlocated key) (unlocated value)

  pub unlocated_parts : Parts → Parts
  unlocated_parts none = none
  unlocated_parts (more op n others) = more op (unlocated n) (unlocated_parts others)
