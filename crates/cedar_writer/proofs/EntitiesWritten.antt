-- Entities, each behind a comma.
use Rattle.std.proofs.Common.{◌≡◌, ℕ, ◌+◌, ◌<◌, arith, List, [], ◌∷◌, ◌++◌, length, take, get_or, sym, ap, ◌∙◌, subst, append_assoc, append-nil}
use Rattle.std.proofs.lemmas.List.{take_more}
use Rattle.std.proofs.lemmas.List.Concat.{flat_map-append}
use Rattle.cedar_lexer.specs.Words.{TokenText}
use Rattle.cedar_expressions.specs.declared.entity.EntityUID.{EntityUID}
use Rattle.cedar_writer.specs.declared.output.Output.{Output}
use Rattle.cedar_writer.specs.WrittenPolicies.{more_entities_words, entities_words, IsWritableEntity, AreWritableEntities}
use Rattle.cedar_writer.specs.WrittenWords.{entity_words}
use Rattle.cedar_writer.specs.Writing.{comma}
use Rattle.cedar_writer.specs.machines.Lines.{behind_comma, later_entities_words}
use Rattle.cedar_writer.specs.machines.Outputs.{Adds}
use Rattle.cedar_writer.proofs.WordsAdded.{nothing_added, both_added, same_added}

later_are : (us : List EntityUID) (acc : List TokenText) → acc ++ later_entities_words us ≡ more_entities_words us acc
later_are [] acc = append-nil acc
later_are (u ∷ us) acc = sym (append_assoc acc (behind_comma u) (later_entities_words us)) ∙ ap (λ t. t ++ later_entities_words us) (sym (append_assoc acc comma (entity_words u))) ∙ later_are us (acc ++ comma ++ entity_words u)

pub no_entities : (a : Output) (us : List EntityUID) → length us ≡ 0 → Adds a a (entities_words us)
no_entities a [] e = nothing_added a
no_entities a (u ∷ us) e = absurd (omega (arith, e))

pub none_unwritable : (us : List EntityUID) → length us ≡ 0 → AreWritableEntities us
none_unwritable [] e = tt
none_unwritable (u ∷ us) e = absurd (omega (arith, e))

pub entities_added : (a b c : Output) (all : List EntityUID) (u : EntityUID) (us : List EntityUID) → all ≡ u ∷ us → Adds a b (entity_words u) → Adds b c (later_entities_words us) → Adds a c (entities_words all)
entities_added a b c all u us e h k =
    same_added a c (entity_words u ++ later_entities_words us) (entities_words all) (later_are us (entity_words u) ∙ ap entities_words (sym e)) (both_added a b c (entity_words u) (later_entities_words us) h k)

pub entities_writable : (all : List EntityUID) (u : EntityUID) (us : List EntityUID) → all ≡ u ∷ us → IsWritableEntity u → AreWritableEntities us → AreWritableEntities all
entities_writable all u us e h k = subst AreWritableEntities (sym e) (h, k)

-- ---- one more

one_more : (us : List EntityUID) (i : ℕ) (u : EntityUID) → i < length us → u ≡ get_or us i u → take (i + 1) us ≡ take i us ++ u ∷ []
one_more us i u h e = take_more us i u h ∙ ap (λ y. take i us ++ y ∷ []) (sym e)

pub later_on : (a b c d : Output) (us : List EntityUID) (i : ℕ) (u : EntityUID) → i < length us → u ≡ get_or us i u → Adds a b (later_entities_words (take i us)) → Adds b c comma → Adds c d (entity_words u) → Adds a d (later_entities_words (take (i + 1) us))
later_on a b c d us i u h e before mark entity =
    same_added a d (later_entities_words (take i us) ++ behind_comma u) (later_entities_words (take (i + 1) us))
    (sym (ap later_entities_words (one_more us i u h e) ∙ flat_map-append behind_comma (take i us) (u ∷ []) ∙ ap (λ t. later_entities_words (take i us) ++ t) (append-nil (behind_comma u))))
    (both_added a b d (later_entities_words (take i us)) (behind_comma u) before (both_added b c d comma (entity_words u) mark entity))

both : (us : List EntityUID) (u : EntityUID) → AreWritableEntities us → IsWritableEntity u → AreWritableEntities (us ++ u ∷ [])
both [] u h k = (k, tt)
both (x ∷ xs) u h k = (h.0, both xs u h.1 k)

pub later_writable : (us : List EntityUID) (i : ℕ) (u : EntityUID) → i < length us → u ≡ get_or us i u → AreWritableEntities (take i us) → IsWritableEntity u → AreWritableEntities (take (i + 1) us)
later_writable us i u h e before entity = subst AreWritableEntities (sym (one_more us i u h e)) (both (take i us) u before entity)
