-- What is called by a name, as the program answers it.
use Rattle.std.specs.Prelude.{◌≡◌, Bool, true, false}
use Rattle.cedar_expressions.specs.Path.{Path}
use Rattle.cedar_conversion.specs.strict.Extensions.{Extensions}
use Rattle.cedar_writer.specs.declared.calls.Callee.{Callee}
use Rattle.cedar_writer.specs.declared.calls.Callee.TheVariants.{Method, Function, Nothing}
use Rattle.cedar_writer.specs.Fitness.{IsFitFunction}
use Rattle.cedar_writer.specs.Writable.{IsWritableName}
use Rattle.cedar_writer.specs.Writing.{calls_method}

abbrev pub Names : Extensions → Path → Callee → Type 0
Names table n Method =
    (calls_method table n ≡ true) × IsWritableName n × (IsFitFunction table n → ⊥)
Names table n Function = (calls_method table n ≡ false) × IsFitFunction table n
Names table n Nothing = (calls_method table n ≡ false) × (IsFitFunction table n → ⊥)

-- a function, exactly if this holds
abbrev pub Is : Callee → Bool → Type 0
Is Method b = ⊥
Is Function b = b ≡ true
Is Nothing b = b ≡ false
