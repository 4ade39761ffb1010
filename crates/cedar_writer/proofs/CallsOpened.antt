-- What stands in the place of a call, by what its name names.
use Rattle.std.proofs.Common.{◌≡◌, true, false, cond, List, ◌++◌, refl, sym, ap, ◌∙◌, subst, Result, Ok, Err}
use Rattle.cedar_expressions.specs.Path.{Path}
use Rattle.cedar_expressions.specs.Value as v
use Rattle.cedar_expressions.specs.Value.{Value, Values}
use Rattle.cedar_conversion.specs.strict.Extensions.{Extensions}
use Rattle.cedar_syntax.specs.tokens.Signs.{sign_limit}
use Rattle.cedar_writer.specs.declared.calls.Callee.TheVariants.{Method, Function, Nothing}
use Rattle.cedar_writer.specs.declared.refusal.NotWritable.TheVariants as what
use Rattle.cedar_writer.specs.declared.refusal.NotWritten.{NotWritten}
use Rattle.cedar_writer.specs.declared.refusal.NotWritten.TheVariants.{Memory, NotWritable}
use Rattle.cedar_writer.specs.Fitness.{IsFitBy, IsFitCall, IsUnfit}
use Rattle.cedar_writer.specs.Writing.{calls_method}
use Rattle.cedar_writer.specs.machines.Calls.{Names}
use Rattle.cedar_writer.specs.machines.Pending.{Todo, items_todo, function_todo, method_todo, call_todo}
use Rattle.cedar_writer.specs.machines.Turns.{Opens, Stacks}

module _ (table : Extensions) (n : Path) where
  nothing_called : (args : Values) → Names table n Nothing → IsFitCall table n args → ⊥
  nothing_called v.none h f = h.1 f
  nothing_called (v.more a args) h f = h.1 (subst (λ b. IsFitBy b table n) h.0 f)

  pub nothing_unfit : (args : Values) → Names table n Nothing → IsUnfit table sign_limit (v.call_extension_fn n args) what.Call
  nothing_unfit args h = (nothing_called args h, refl)

  pub method_unfit : Names table n Method → IsUnfit table sign_limit (v.call_extension_fn n v.none) what.Call
  method_unfit h = (h.2, refl)

  as_function : (args : Values) → calls_method table n ≡ false → call_todo table n args ≡ function_todo n (items_todo args)
  as_function v.none e = refl
  as_function (v.more a args) e = ap (λ b. cond b (method_todo a n.id (items_todo args)) (function_todo n (items_todo (v.more a args)))) e

  as_method : (a : Value) (args : Values) → calls_method table n ≡ true → call_todo table n (v.more a args) ≡ method_todo a n.id (items_todo args)
  as_method a args e = ap (λ b. cond b (method_todo a n.id (items_todo args)) (function_todo n (items_todo (v.more a args)))) e

  function_fits : (args : Values) → Names table n Function → IsFitCall table n args
  function_fits v.none h = h.1
  function_fits (v.more a args) h = subst (λ b. IsFitBy b table n) (sym h.0) h.1

  pub function_opens : (args : Values) → Names table n Function → {T : Type 0} (r : Result T NotWritten) (old new : List Todo) → Stacks (function_todo n (items_todo args)) r old new → Opens table (v.call_extension_fn n args) r old new
  function_opens args h (Ok x) old new p = (p ∙ ap (λ ts. ts ++ old) (sym (as_function args h.0)), function_fits args h)
  function_opens args h (Err Memory) old new p = tt
  function_opens args h (Err (NotWritable k)) old new p = absurd p

  pub method_opens : (a : Value) (args : Values) → Names table n Method → {T : Type 0} (r : Result T NotWritten) (old new : List Todo) → Stacks (method_todo a n.id (items_todo args)) r old new → Opens table (v.call_extension_fn n (v.more a args)) r old new
  method_opens a args h (Ok x) old new p = (p ∙ ap (λ ts. ts ++ old) (sym (as_method a args h.0)), subst (λ b. IsFitBy b table n) (sym h.0) h.1)
  method_opens a args h (Err Memory) old new p = tt
  method_opens a args h (Err (NotWritable k)) old new p = absurd p
