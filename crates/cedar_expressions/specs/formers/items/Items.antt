-- Where a list keeps its elements.
--
-- A tree that holds a list of trees holds itself through `Items`. The check then has to know at
-- which places of an `Items` its elements lie: all of them in the one `Vec` inside, in order, and
-- none anywhere else.

use base.Stored.{code_map}
use denote.Hole.Carrier.{listed, list-listed}
use denote.Hole.Fix.{over}
use denote.HoleLaws.{Alike}
use denote.HolePlaces.{Recodes, struct_places, laid}
use denote.Model.Placed.{view_places}
use denote.Param.Weighed.{Weighed, w_list}
use denote.RattleType.{RattleType}
use mathlib.Core.Former.{Former, this, list, via, children}
use mathlib.Core.List.{List, []}
use mathlib.Core.Path.{◌≡◌, refl, sym}
use Rattle.cedar_expressions.specs.contracts.items.Items as whole
use Rattle.cedar_expressions.specs.contracts.items.Items.TheInside as inner
use Rattle.cedar_expressions.specs.declared.items.Items.TheInside.{Inside}
use Rattle.cedar_expressions.specs.declared.items.Items.TheView.{view, invariant}
use Rattle.std.specs.contracts.alloc.Global as global
use Rattle.std.specs.contracts.impls.GlobalAllocator.TheImpl.{ghosts}
use Rattle.std.specs.declared.alloc.Global.{Global}
use Rattle.std.specs.formers.vec.Vec as vec

-- contracts see a list, and a list is as heavy as its heaviest element
abbrev pub the_former : Former {0} → Former {0}
the_former element = list element

abbrev pub the_weighed : {element : Former {0}} → Weighed element → Weighed (the_former element)
the_weighed weighed = w_list weighed

-- a tree may end here: no list needs an element
pub the_empty : List ⊥
the_empty = []

-- the elements in order are the list that contracts see
abbrev pub the_items : (Element : Type 0) → List Element → List Element
the_items Element seen = seen

pub the_items_listed : (Element : Type 0) (seen : List Element)
    → listed _ (children (the_former this) Element seen) ≡ the_items Element seen
the_items_listed Element seen = list-listed Element seen

-- the struct's one field, as the `Vec` splits into its elements and the rest
abbrev the_field : Former {0}
the_field =
    via (vec.the_former this Global) Inside
    (λ Element struct. struct.items)
    (λ Element field. record { items = field })
    (λ Element struct. refl)
    (λ Element field. refl)

-- one type of element in another's stead
module _ (Old New : RattleType) (renewed : Old.Denot → New.Denot) where
  abbrev map_of : List Old.Denot → List New.Denot
  map_of = (the_former this).map Old.Denot New.Denot renewed

  -- the memory is laid out, owned and lent as before
  pub the_places : Alike Old New renewed → Alike (whole.the_row Old) (whole.the_row New) map_of
  the_places alike =
      view_places the_field (list this) view
      (λ X Y f struct. refl) (λ X struct. refl)
      Old.Denot New.Denot renewed
      (whole.the_row Old).coded (whole.the_row New).coded
      (invariant Old.Denot) (invariant New.Denot)
      (λ struct one other. refl) (λ struct one other. refl)
      (λ struct holds. tt) (λ struct holds. tt)
      (over (inner.the_row Old)) (over (inner.the_row New))
      (struct_places (inner.the_type Old) (inner.the_type New)
      (vec.mapped renewed, tt) _ (λ struct. refl) refl
      (laid _ _ _ (vec.the_places global.the_row ghosts Old New renewed alike), tt))

  -- and a list's code is that of its elements' codes
  pub the_codes_placed : Recodes Old New renewed
      → Recodes (whole.the_row Old) (whole.the_row New) map_of
  the_codes_placed recoded seen =
      sym (code_map Old.coded.code New.coded.code renewed (λ element. sym (recoded element)) seen)
