-- What is shown of a list so far, one more, and all of it.
use Rattle.std.proofs.Common.{◌≡◌, ℕ, List, [], ◌∷◌, ◌++◌, codes, refl, sym, ap, ◌∙◌, subst, append_assoc, append-nil}
use Rattle.std.specs.Fmt.{HasWritten, WritesInCalls, IsPlainFormatter}
use Rattle.std.specs.List.{flat_map}
use Rattle.std.specs.declared.fmt.Formatter.{Formatter}
use Rattle.std.proofs.Output.{has_written_append, has_written_of_eq, writes_in_calls_nil}
use Rattle.std.proofs.lemmas.List.Concat.{flat_map-append}
use Rattle.cedar_expressions.specs.Escapes.{escaped_text}
use Rattle.cedar_policy_store.specs.declared.annotation.Annotation.{Annotation}
use Rattle.cedar_policy_store.specs.PolicyText.{annotation_text}

-- of all that stands in a list all but those that are left are shown
pub record ShownSoFar {A W : Type 0} (took : W → List ℕ → W → Type 0) (text : A → List ℕ) (f g : Formatter W) (all left : List A) : Type 0 where
  pub done : List A
  pub is : all ≡ done ++ left
  pub writes : IsPlainFormatter f → HasWritten took f (flat_map text done) g

module _ {A W : Type 0} (took : W → List ℕ → W → Type 0) (text : A → List ℕ) where
  pub none_shown : (f : Formatter W) (all : List A) → ShownSoFar took text f f all all
  none_shown f all = record {
    done = [];
    is = refl;
    writes = λ plain. record { wrote = writes_in_calls_nil took f.writer; plain = plain };
  }

  pub one_shown : (f g h : Formatter W) (all left rest : List A) (x : A) → ShownSoFar took text f g all left → left ≡ x ∷ rest → (IsPlainFormatter g → HasWritten took g (text x) h) → ShownSoFar took text f h all rest
  one_shown f g h all left rest x so e more = record {
    done = so.done ++ x ∷ [];
    is = so.is ∙ ap (λ y. so.done ++ y) e ∙ sym (append_assoc so.done (x ∷ []) rest);
    writes = λ plain.
        let before = so.writes plain in
        has_written_of_eq took _ _ _ _ (sym (flat_map-append text so.done (x ∷ []) ∙ ap (λ t. flat_map text so.done ++ t) (append-nil (text x))))
        (has_written_append took _ _ _ _ _ before (more before.plain));
  }

  pub all_shown : (f g : Formatter W) (all left : List A) → left ≡ [] → ShownSoFar took text f g all left → IsPlainFormatter f → HasWritten took f (flat_map text all) g
  all_shown f g all left e so plain =
      has_written_of_eq took _ _ _ _ (ap (flat_map text) (sym (so.is ∙ ap (λ y. so.done ++ y) e ∙ append-nil so.done))) (so.writes plain)

-- an annotation as it is written at once
pub annotation_written : (key : List ℕ) (x : Annotation) → codes "@" ++ (key ++ (codes "(\"" ++ (escaped_text x.value ++ codes "\") "))) ≡ annotation_text (key, x)
annotation_written key x = ap (λ t. codes "@" ++ (key ++ (codes "(\"" ++ t))) (sym (append_assoc (escaped_text x.value) (codes "\"") (codes ") ")))
