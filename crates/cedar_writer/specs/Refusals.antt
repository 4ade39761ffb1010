-- What is shown of why a value isn't written. The texts are this repository's own.
use Rattle.std.specs.Prelude.{ℕ, List, ◌++◌, codes}
use Rattle.cedar_writer.specs.declared.refusal.NotWritable.{NotWritable}
use Rattle.cedar_writer.specs.declared.refusal.NotWritable.TheVariants as part
use Rattle.cedar_writer.specs.declared.refusal.NotWritten.{NotWritten}
use Rattle.cedar_writer.specs.declared.refusal.NotWritten.TheVariants as refusal

-- what of a value no text means
abbrev pub unwritable_text : NotWritable → List ℕ
unwritable_text part.Conjunction = codes "an `and` of two outside of a policy's conditions"
unwritable_text part.LonePart = codes "an operator of any number with one operand alone"
unwritable_text part.Call = codes "a call that no text makes under this table"
unwritable_text part.Attributes = codes "a `has` of attributes of which one is no identifier"
unwritable_text part.RepeatedKey = codes "a record with a key that stands twice"
unwritable_text part.SlotInCondition = codes "a slot in a condition"
unwritable_text part.NoAction = codes "an action whose type isn't an action's"

abbrev pub refusal_text : NotWritten → List ℕ
refusal_text refusal.Memory = codes "want of memory"
refusal_text (refusal.NotWritable unwritable) =
    codes "no text means " ++ unwritable_text unwritable
