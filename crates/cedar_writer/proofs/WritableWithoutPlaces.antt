-- Whether a value is writable doesn't depend on the places of its slots.
use Rattle.std.proofs.Common.{◌≡◌, ℕ, false, ◌∷◌, refl, sym, ap, ◌∙◌, subst}
use Rattle.cedar_expressions.specs.Keys.{repeats_key}
use Rattle.cedar_expressions.specs.Path.{Path}
use Rattle.cedar_expressions.specs.Value as v
use Rattle.cedar_expressions.specs.Value.{Value, Values, Terms, Fields}
use Rattle.cedar_expressions.specs.WithoutPlaces.{without_places, all_without_places, terms_without_places, fields_without_places}
use Rattle.cedar_conversion.specs.strict.Extensions.{Extensions}
use Rattle.cedar_writer.specs.Writable.{IsWritable, AreWritable, AreWritableTerms, AreWritableFields, IsWritableOf, HasMore, HasTerms, keys_in}

record Alike (X Y : Type 0) : Type 0 where
  to : X → Y
  from : Y → X

as_is : {X : Type 0} → Alike X X
as_is = record { to = λ x. x; from = λ x. x }

beside : {X X' Y Y' : Type 0} → Alike X X' → Alike Y Y' → Alike (X × Y) (X' × Y')
beside p q = record { to = λ h. (p.to h.0, q.to h.1); from = λ h. (p.from h.0, q.from h.1) }

three : {X X' Y Y' Z Z' : Type 0} → Alike X X' → Alike Y Y' → Alike Z Z' → Alike (X × Y × Z) (X' × Y' × Z')
three p q r = record { to = λ h. (p.to h.0, q.to h.1, r.to h.2); from = λ h. (p.from h.0, q.from h.1, r.from h.2) }

more_alike : (bs : Values) → Alike (HasMore (all_without_places bs)) (HasMore bs)
unfolding without_places
more_alike v.none = as_is
more_alike (v.more b bs) = as_is

terms_alike : (ts : Terms) → Alike (HasTerms (terms_without_places ts)) (HasTerms ts)
unfolding without_places
terms_alike v.no_terms = as_is
terms_alike (v.term o b ts) = as_is

keys_alike : (fs : Fields) → keys_in (fields_without_places fs) ≡ keys_in fs
unfolding without_places
keys_alike v.no_fields = refl
keys_alike (v.field text a fs) = ap (λ ks. text ∷ ks) (keys_alike fs)

keys_differ : (fs : Fields) → Alike (repeats_key (keys_in (fields_without_places fs)) ≡ false) (repeats_key (keys_in fs) ≡ false)
keys_differ fs = record {
  to = λ h. sym (ap repeats_key (keys_alike fs)) ∙ h;
  from = λ h. ap repeats_key (keys_alike fs) ∙ h;
}

module _ (table : Extensions) (limit : ℕ) where
  mutual
    unfolding IsWritable without_places

    alike : (a : Value) → Alike (IsWritable table limit (without_places a)) (IsWritable table limit a)
    alike (v.val l) = as_is
    alike (v.var x) = as_is
    alike (v.slot x) = as_is
    alike (v.ite a b c) = three (alike a) (alike b) (alike c)
    alike (v.not a) = beside as_is (alike a)
    alike (v.neg a) = beside as_is (alike a)
    alike (v.and a b) = as_is
    alike (v.or_nary a bs) = three (alike a) (more_alike bs) (all_alike bs)
    alike (v.and_naryl a bs) = three (alike a) (more_alike bs) (all_alike bs)
    alike (v.add_nary a ts) = three (alike a) (terms_alike ts) (added_alike ts)
    alike (v.mul_nary a bs) = three (alike a) (more_alike bs) (all_alike bs)
    alike (v.less a b) = beside (alike a) (alike b)
    alike (v.lesseq a b) = beside (alike a) (alike b)
    alike (v.greater a b) = beside (alike a) (alike b)
    alike (v.greatereq a b) = beside (alike a) (alike b)
    alike (v.is_eq a b) = beside (alike a) (alike b)
    alike (v.noteq a b) = beside (alike a) (alike b)
    alike (v.is_in a b) = beside (alike a) (alike b)
    alike (v.like a ps) = beside (alike a) as_is
    alike (v.is_entity_type a t) = beside (alike a) as_is
    alike (v.is_in_entity_type a t b) = three (alike a) as_is (alike b)
    alike (v.extended_has_attr a first rest) = beside (alike a) as_is
    alike (v.get_attr a attr) = beside (alike a) as_is
    alike (v.contains a b) = beside (alike a) (alike b)
    alike (v.contains_all a b) = beside (alike a) (alike b)
    alike (v.contains_any a b) = beside (alike a) (alike b)
    alike (v.is_empty a) = alike a
    alike (v.get_tag a b) = beside (alike a) (alike b)
    alike (v.has_tag a b) = beside (alike a) (alike b)
    alike (v.call_extension_fn n args) = call_alike args n
    alike (v.set items) = all_alike items
    alike (v.«record» fs) = beside (fields_alike fs) (keys_differ fs)

    call_alike : (args : Values) (n : Path) → Alike (IsWritableOf table limit (all_without_places args) n) (IsWritableOf table limit args n)
    call_alike v.none n = as_is
    call_alike (v.more a args) n = three (alike a) (all_alike args) as_is

    all_alike : (bs : Values) → Alike (AreWritable table limit (all_without_places bs)) (AreWritable table limit bs)
    all_alike v.none = as_is
    all_alike (v.more a bs) = beside (alike a) (all_alike bs)

    added_alike : (ts : Terms) → Alike (AreWritableTerms table limit (terms_without_places ts)) (AreWritableTerms table limit ts)
    added_alike v.no_terms = as_is
    added_alike (v.term o a ts) = beside (alike a) (added_alike ts)

    fields_alike : (fs : Fields) → Alike (AreWritableFields table limit (fields_without_places fs)) (AreWritableFields table limit fs)
    fields_alike v.no_fields = as_is
    fields_alike (v.field text a fs) = three as_is (alike a) (fields_alike fs)

  pub unplaced_writable : (a b : Value) → without_places a ≡ without_places b → IsWritable table limit a → IsWritable table limit b
  unplaced_writable a b e h = (alike b).to (subst (IsWritable table limit) e ((alike a).from h))

  pub bare_writable : (a : Value) → IsWritable table limit (without_places a) → IsWritable table limit a
  bare_writable a h = (alike a).to h
