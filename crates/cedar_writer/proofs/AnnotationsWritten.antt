-- One annotation more.
use Rattle.std.proofs.Common.{◌≡◌, ℕ, true, List, [], ◌∷◌, ◌++◌, map, refl, sym, ap, ◌∙◌, subst, append_assoc, append-nil}
use Rattle.std.specs.Str.{IsUtf8}
use Rattle.cedar_lexer.specs.Words.{TokenText}
use Rattle.cedar_expressions.specs.Path.{is_identifier}
use Rattle.cedar_policy_store.specs.declared.annotation.Annotation.{Annotation}
use Rattle.cedar_policy_store.specs.PlaceFree.{at_value, annotation_value}
use Rattle.cedar_writer.specs.declared.output.Output.{Output}
use Rattle.cedar_writer.specs.WrittenPolicies.{annotations_words, annotation_words, AreWritableAnnotations}
use Rattle.cedar_writer.specs.machines.Outputs.{Adds}
use Rattle.cedar_writer.proofs.WordsAdded.{nothing_added, both_added, same_added}

abbrev shown : List (List ℕ × Annotation) → List (List ℕ × List ℕ)
shown es = map (at_value annotation_value) es

-- all but those that are left were written
pub record Noted (a b : Output) (all left : List (List ℕ × Annotation)) : Type 0 where
  pub done : List (List ℕ × Annotation)
  pub is : all ≡ done ++ left
  pub adds : Adds a b (annotations_words (shown done) [])
  pub writable : AreWritableAnnotations (shown done)

shown_more : (es : List (List ℕ × Annotation)) (key : List ℕ) (x : Annotation) → shown (es ++ (key, x) ∷ []) ≡ shown es ++ (key, x.value) ∷ []
shown_more [] key x = refl
shown_more (e ∷ es) key x = ap (λ ys. at_value annotation_value e ∷ ys) (shown_more es key x)

words_more : (es : List (List ℕ × List ℕ)) (key text : List ℕ) (acc : List TokenText) → annotations_words (es ++ (key, text) ∷ []) acc ≡ annotations_words es acc ++ annotation_words key text
words_more [] key text acc = refl
words_more (e ∷ es) key text acc = words_more es key text (acc ++ annotation_words e.0 e.1)

writable_more : (es : List (List ℕ × List ℕ)) (key text : List ℕ) → AreWritableAnnotations es → is_identifier key ≡ true → IsUtf8 text → AreWritableAnnotations (es ++ (key, text) ∷ [])
writable_more [] key text h i u = (i, u, tt)
writable_more (e ∷ es) key text h i u = (h.0, h.1, writable_more es key text h.2 i u)

pub noted_first : (a : Output) (all : List (List ℕ × Annotation)) → Noted a a all all
noted_first a all = record { done = []; is = refl; adds = nothing_added a; writable = tt }

pub noted_on : (a b c : Output) (all left rest : List (List ℕ × Annotation)) (key : List ℕ) (x : Annotation) → Noted a b all left → left ≡ (key, x) ∷ rest → Adds b c (annotation_words key x.value) → is_identifier key ≡ true → IsUtf8 x.value → Noted a c all rest
noted_on a b c all left rest key x h e adds i u =
    let more = shown_more h.done key x in record {
      done = h.done ++ (key, x) ∷ [];
      is = h.is ∙ ap (λ y. h.done ++ y) e ∙ sym (append_assoc h.done ((key, x) ∷ []) rest);
      adds =
          same_added a c (annotations_words (shown h.done) [] ++ annotation_words key x.value) (annotations_words (shown (h.done ++ (key, x) ∷ [])) [])
          (sym (words_more (shown h.done) key x.value []) ∙ ap (λ y. annotations_words y []) (sym more))
          (both_added a b c (annotations_words (shown h.done) []) (annotation_words key x.value) h.adds adds);
      writable = subst AreWritableAnnotations (sym more) (writable_more (shown h.done) key x.value h.writable i u);
    }

all_done : (a b : Output) (all left : List (List ℕ × Annotation)) → left ≡ [] → (h : Noted a b all left) → all ≡ h.done
all_done a b all left e h = h.is ∙ ap (λ y. h.done ++ y) e ∙ append-nil h.done

pub noted_words : (a b : Output) (all left : List (List ℕ × Annotation)) → left ≡ [] → Noted a b all left → Adds a b (annotations_words (shown all) [])
noted_words a b all left e h = same_added a b (annotations_words (shown h.done) []) (annotations_words (shown all) []) (ap (λ y. annotations_words (shown y) []) (sym (all_done a b all left e h))) h.adds

pub noted_writable : (a b : Output) (all left : List (List ℕ × Annotation)) → left ≡ [] → Noted a b all left → AreWritableAnnotations (shown all)
noted_writable a b all left e h = subst (λ y. AreWritableAnnotations (shown y)) (sym (all_done a b all left e h)) h.writable
