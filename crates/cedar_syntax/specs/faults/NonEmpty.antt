-- Lists of one element or more.
use Rattle.std.specs.Prelude.{List, ◌∷◌, ◌++◌}
use Rattle.std.specs.Option.{option_to_list, option_copied}
use Rattle.std.specs.Vec.Iter.{into_iter_items}
use Rattle.cedar_syntax.specs.declared.err.non_empty.NonEmpty.{NonEmpty}
use Rattle.cedar_syntax.specs.declared.err.non_empty.Iter.{Iter}
use Rattle.cedar_syntax.specs.declared.err.non_empty.IntoIter.{IntoIter}

-- the elements in order, the first before the rest
abbrev pub list_of : {T : Type 0} → NonEmpty T → List T
list_of list = list.head ∷ list.tail

-- the elements that an iterator is still to give
abbrev pub remaining_items : {T : Type 0} → Iter T → List T
remaining_items items = option_to_list (option_copied items.first) ++ items.rest.now

abbrev pub remaining_elements : {T : Type 0} → IntoIter T → List T
remaining_elements items = option_to_list items.first ++ into_iter_items items.rest
