-- Where a box keeps its value.
--
-- A tree that holds a boxed tree holds itself through `Boxed`. The check then has to know where
-- the one value of a `Boxed` lies: in the memory of the `Box` inside. Its pointer and its
-- allocator hold nothing of it.

use base.Fml.{ftrue}
use base.Stored.{gnil}
use denote.Hole.Fix.{over}
use denote.HoleLaws.{Alike}
use denote.HolePlaces.{Recodes, struct_places, laid, one_value}
use denote.Memory.{part_of}
use denote.Model.Placed.{view_places}
use denote.Param.Weighed.{Weighed}
use denote.RattleType.{RattleType}
use denote.RawPtr.{Ptr}
use denote.Sharing.{nothing}
use mathlib.Core.Former.{Former, this, const, pair, via}
use mathlib.Core.Path.{refl}
use Rattle.cedar_expressions.specs.contracts.boxed.Boxed as whole
use Rattle.cedar_expressions.specs.contracts.boxed.Boxed.TheInside as inner
use Rattle.cedar_expressions.specs.declared.boxed.Boxed.TheInside.{Inside}
use Rattle.cedar_expressions.specs.declared.boxed.Boxed.TheView.{view, invariant}
use Rattle.std.specs.contracts.alloc.Global as global
use Rattle.std.specs.contracts.boxed.Box as box
use Rattle.std.specs.contracts.impls.GlobalAllocator.TheImpl.{ghosts}
use Rattle.std.specs.declared.alloc.Global.{Global}
use Rattle.std.specs.declared.boxed.Box.{Box}

-- contracts see the value itself, which weighs what it weighs
abbrev pub the_former : Former {0} → Former {0}
the_former value = value

abbrev pub the_weighed : {value : Former {0}} → Weighed value → Weighed (the_former value)
the_weighed weighed = weighed

-- the struct's one field, as a pointer with its allocator, and the value
abbrev the_field : Former {0}
the_field =
    via (pair (const (Ptr × Global)) this) Inside
    (λ Value struct. ((struct.inner.ptr, struct.inner.alloc), struct.inner.value))
    (λ Value parts. record {
      inner = record {
        ptr = parts.0.0;
        alloc = parts.0.1;
        value = parts.1;
      };
    })
    (λ Value struct. refl)
    (λ Value parts. refl)

-- the same memory with another value in it
abbrev refilled : {Old New : Type 0} → Box Old Global → New → Box New Global
refilled filled value = record { ptr = filled.ptr; alloc = filled.alloc; value = value }

abbrev std_box : RattleType → RattleType
std_box Value = box.the_row Value global.the_row ghosts

-- one type of value in another's stead
module _ (Old New : RattleType) (renewed : Old.Denot → New.Denot) where
  abbrev map_of : Old.Denot → New.Denot
  map_of = (the_former this).map Old.Denot New.Denot renewed

  abbrev refill : Box Old.Denot Global → Box New.Denot Global
  refill filled = refilled filled (renewed filled.value)

  -- the standard box is laid out, owned and lent as before: each of the three follows the value's
  -- own
  std_box_places : Alike Old New renewed → Alike (std_box Old) (std_box New) refill
  unfolding part_of
  std_box_places alike = record {
    mir_same = λ i. (std_box (one_value Old (alike.mir_same i) (λ _. ftrue)
        (λ _ _. nothing) gnil)).mir;
    own_same = λ filled i.
        (std_box (one_value Old (alike.mir_same i) (alike.own_same filled.value i)
        (alike.shr_same filled.value i) gnil)).own_val (refilled filled tt);
    shr_same = λ filled i.
        (std_box (one_value Old (alike.mir_same i) (alike.own_same filled.value i)
        (alike.shr_same filled.value i) gnil)).shr_at (refilled filled tt);
  }

  -- and so is the struct around it
  pub the_places : Alike Old New renewed → Alike (whole.the_row Old) (whole.the_row New) map_of
  the_places alike =
      view_places the_field this view
      (λ X Y f struct. refl) (λ X struct. refl)
      Old.Denot New.Denot renewed
      (whole.the_row Old).coded (whole.the_row New).coded
      (invariant Old.Denot) (invariant New.Denot)
      (λ struct one other. refl) (λ struct one other. refl)
      (λ struct holds. tt) (λ struct holds. tt)
      (over (inner.the_row Old)) (over (inner.the_row New))
      (struct_places (inner.the_type Old) (inner.the_type New)
      (refill, tt) _ (λ struct. refl) refl
      (laid _ _ _ (std_box_places alike), tt))

  -- and a box has its value's code
  pub the_codes_placed : Recodes Old New renewed
      → Recodes (whole.the_row Old) (whole.the_row New) map_of
  the_codes_placed recoded seen = recoded seen
