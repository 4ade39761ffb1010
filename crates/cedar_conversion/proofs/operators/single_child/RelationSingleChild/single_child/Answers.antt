use Rattle.cedar_conversion.proofs.LoneParts.{common_below, has_none, is_none, like_none, only_of_common}
use Rattle.cedar_conversion.proofs.operators.single_child.RelationSingleChild.single_child.Goals as goal

pub returns-in-Common-clause-part : goal.returns-in-Common-clause-part
returns-in-Common-clause-part c = only_of_common c.args.self.now _ _ c.in-Common.is c.only.result (rw c.as_slice.ensures at c.only.ensures)

pub returns-in-Common-clause-below : goal.returns-in-Common-clause-below
returns-in-Common-clause-below c = common_below c.args.self.now _ _ c.in-Common.is c.only.result (rw c.as_slice.ensures at c.only.ensures)

pub returns-in-Has-clause-part : goal.returns-in-Has-clause-part
returns-in-Has-clause-part c = has_none c.args.self.now _ _ c.in-Has.is

pub returns-in-Like-clause-part : goal.returns-in-Like-clause-part
returns-in-Like-clause-part c = like_none c.args.self.now _ _ c.in-Like.is

pub returns-in-IsIn-clause-part : goal.returns-in-IsIn-clause-part
returns-in-IsIn-clause-part c = is_none c.args.self.now _ _ _ c.in-IsIn.is
