-- The table that an `ExtStyles` holds, whoever made it: which functions and methods it has.
use Rattle.std.specs.BTreeSet.{contains}
use Rattle.cedar_expressions.specs.contracts.ids.UnreservedIdOrd.TheImpl as id_order
use Rattle.cedar_expressions.specs.contracts.names.NameOrd.TheImpl as name_order
use Rattle.cedar_conversion.specs.declared.styles.ExtStyles.{ExtStyles}
use Rattle.cedar_conversion.specs.strict.Extensions.{Extensions}

abbrev pub table_of : ExtStyles → Extensions
table_of styles = record {
  functions = λ name. contains name_order.ghosts.cmp styles.functions name;
  methods = λ id. contains id_order.ghosts.cmp styles.methods id;
}
