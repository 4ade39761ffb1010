-- What a name names when it is called: under a path only functions, else what the word is.
use Rattle.std.proofs.Common.{◌≡◌, ◌≢◌, ℕ, Bool, true, false, List, [], ◌∷◌, ◌++◌, refl, sym, ap, ◌∙◌, Option, Some, None}
use Rattle.std.specs.Prelude.{◌&&◌, ◌||◌, not}
use Rattle.std.specs.Option.{is_none, is_some}
use Rattle.std.specs.Cmp.Derive.{both_true}
use Rattle.std.proofs.lemmas.Bool.{and_parts, not-true}
use Rattle.cedar_lexer.specs.Words.{TokenText}
use Rattle.cedar_expressions.specs.Path.{is_unreserved_identifier}
use Rattle.cedar_conversion.specs.strict.Extensions.{Extensions}
use Rattle.cedar_conversion.specs.strict.StrictCalls.{standard_method}
use Rattle.cedar_conversion.specs.strict.StrictWords.{path_value}
use Rattle.cedar_writer.specs.declared.calls.Callee.{Callee}
use Rattle.cedar_writer.specs.declared.calls.Callee.TheVariants.{Method, Function, Nothing}
use Rattle.cedar_writer.specs.WrittenWords.{colons, word_kinds, kind_in, identifier_words, marked_words}
use Rattle.cedar_writer.specs.Writing.{is_variable_kind, is_variable_words}
use Rattle.cedar_writer.specs.machines.Calls.{Names, Is}

true_false : true ≡ false → ⊥
true_false e = cc

two_behind : (ws : List TokenText) (x y : TokenText) → is_variable_words ((ws ++ x ∷ []) ++ y ∷ []) ≡ false
two_behind [] x y = refl
two_behind (w ∷ []) x y = refl
two_behind (w ∷ v ∷ ws) x y = refl

-- ---- under a path

pub far_names : (table : Extensions) (ids : List (List ℕ)) (id : List ℕ) (b : Bool) (r : Callee) → ids ≢ [] → b ≡ table.functions (path_value ids id) → Is r b → Names table (path_value ids id) r
far_names table [] id b r far is h = absurd (far refl)
far_names table (x ∷ ids) id b Method far is h = absurd h
far_names table (x ∷ ids) id b Function far is h = (refl, ((refl, sym is ∙ h), two_behind (marked_words (identifier_words x) colons ids) _ _))
far_names table (x ∷ ids) id b Nothing far is h = (refl, λ f. true_false (sym f.0.1 ∙ (sym is ∙ h)))

-- ---- alone

is_not_none : {T : Type 0} (o : Option T) → is_some o ≡ true → is_none o ≡ false
is_not_none None e = absurd (true_false (sym e))
is_not_none (Some x) e = refl

is_none_then : {T : Type 0} (o : Option T) → is_some o ≡ false → is_none o ≡ true
is_none_then None e = refl
is_none_then (Some x) e = absurd (true_false e)

pub standard_names : (table : Extensions) (ids : List (List ℕ)) (id : List ℕ) → ids ≡ [] → is_some (standard_method id) ≡ true → Names table (path_value ids id) Nothing
standard_names table [] id near own = (
  ap (λ b. b && table.methods id) (is_not_none (standard_method id) own),
  λ f. true_false (sym (ap (λ b. b || table.methods id) own) ∙ f.0.0),
)
standard_names table (x ∷ ids) id near own = absurd (cc)

or_last : (a b : Bool) → b ≡ true → (a || b) ≡ true
or_last true b e = refl
or_last false b e = e

pub method_names : (table : Extensions) (ids : List (List ℕ)) (id : List ℕ) → ids ≡ [] → is_some (standard_method id) ≡ false → table.methods id ≡ true → is_unreserved_identifier id ≡ true → Names table (path_value ids id) Method
method_names table [] id near own has spelled = (
  both_true (is_none_then (standard_method id) own) has,
  (tt, spelled),
  λ f. true_false (sym (or_last (is_some (standard_method id)) (table.methods id) has) ∙ f.0.0),
)
method_names table (x ∷ ids) id near own has spelled = absurd (cc)

neither : (a b : Bool) → a ≡ false → b ≡ false → (a || b) ≡ false
neither a b e f = ap (λ x. x || b) e ∙ f

calls_none : (a b : Bool) → b ≡ false → (a && b) ≡ false
calls_none true b e = e
calls_none false b e = refl

pub plain_names : (table : Extensions) (ids : List (List ℕ)) (id : List ℕ) (b v : Bool) (r : Callee) → ids ≡ [] → is_some (standard_method id) ≡ false → table.methods id ≡ false → v ≡ is_variable_kind (kind_in word_kinds id) → b ≡ (table.functions (path_value ids id) && not v) → Is r b → Names table (path_value ids id) r
plain_names table (x ∷ ids) id b v r near own lacks word is h = absurd (cc)
plain_names table [] id b v Method near own lacks word is h = absurd h
plain_names table [] id b v Function near own lacks word is h =
    let p = and_parts (table.functions (path_value [] id)) (not v) (sym is ∙ h) in (
      calls_none (is_none (standard_method id)) (table.methods id) lacks,
      ((neither (is_some (standard_method id)) (table.methods id) own lacks, p.0), sym word ∙ not-true v p.1),
    )
plain_names table [] id b v Nothing near own lacks word is h = (
  calls_none (is_none (standard_method id)) (table.methods id) lacks,
  λ f. true_false (sym (both_true f.0.1 (ap not (word ∙ f.1))) ∙ (sym is ∙ h)),
)
