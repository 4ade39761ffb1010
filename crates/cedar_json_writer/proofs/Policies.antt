-- The policies of a set, one after another; and the annotations of a policy.
use Rattle.std.proofs.Common.{◌≡◌, ℕ, List, [], ◌∷◌, ◌++◌, map, refl, ap, ap₂, sym, ◌∙◌, append_assoc, Result, subst, Bool, true, false, codes, length}
use Rattle.std.specs.FinMap.{FinMap, entries, len, len-entries}
use Rattle.std.proofs.lemmas.List.{nil_from_length}
use Rattle.std.proofs.lemmas.Result.{on_ok_weaker}
use Rattle.std.specs.List.{flat_map}
use Rattle.json.specs.Token.{Token}
use Rattle.json.specs.Written.{Written, Writes}
use Rattle.json.specs.Tree.{json_tokens, members_tokens}
use Rattle.cedar_policy_store.specs.declared.annotation.Annotation.{Annotation}
use Rattle.cedar_policy_store.specs.declared.template.Template.{Template}
use Rattle.cedar_policy_store.specs.PlaceFree.{at_value, annotation_value, template_meaning}
use Rattle.cedar_policy_store.specs.TextMap.{text_order}
use Rattle.cedar_json_writer.specs.declared.refusal.ToJsonError.{ToJsonError}
use Rattle.cedar_json_writer.specs.PolicyForms.{policy_json, policy_members, text_members, annotations_member, keys_called_by}
use Rattle.cedar_json_writer.specs.Texts.{TellsFirst}
use Rattle.cedar_json_writer.specs.machines.Outputs.{Appends}
use Rattle.cedar_json_writer.proofs.Conditions.{told_before, true_false}
use Rattle.cedar_json_writer.proofs.Steps.{Wrote, wrote_more, wrote_all, wrote_last, Added, in_turn, finish_one, same_added}

-- ---- annotations

abbrev pub texts : List (List ℕ × Annotation) → List (List ℕ × List ℕ)
texts es = map (at_value annotation_value) es

abbrev pub texts_tokens : List (List ℕ × Annotation) → List Token
texts_tokens es = members_tokens (text_members (texts es))

pub text_more : (first out mid next : Written) (all left rest : List (List ℕ × Annotation)) (key text : List ℕ) (k : List ℕ) (a : Annotation) → left ≡ (k, a) ∷ rest → key ≡ k → text ≡ a.value → Wrote first out (texts_tokens all) (texts_tokens left) → (mid.before ≡ out.before) × (mid.tokens ≡ out.tokens ++ Token.key key ∷ []) → (next.before ≡ mid.before) × (next.tokens ≡ mid.tokens ++ Token.string text ∷ []) → Wrote first next (texts_tokens all) (texts_tokens rest)
text_more first out mid next all left rest key text k a e ek et w h g =
    wrote_more first out next (texts_tokens all) (texts_tokens left) (Token.key key ∷ Token.string text ∷ []) (texts_tokens rest)
    (ap texts_tokens e ∙ ap₂ (λ (x y : List ℕ). Token.key x ∷ Token.string y ∷ texts_tokens rest) (sym ek) (sym et)) w
    (g.0 ∙ h.0, g.1 ∙ ap (λ (ts : List Token). ts ++ Token.string text ∷ []) h.1 ∙ append_assoc out.tokens (Token.key key ∷ []) (Token.string text ∷ []))

-- ---- policies

abbrev pub named_tokens : List Template → List Token
named_tokens ts = members_tokens (policy_members (map template_meaning ts))

abbrev pub called_by : List Template → List (List ℕ)
called_by ts = flat_map keys_called_by (map template_meaning ts)

pub record Named (first out : Written) (all left : List Template) : Type 0 where
  pub wrote : Wrote first out (named_tokens all) (named_tokens left)
  pub called : called_by all ≡ called_by left

pub named_more : (first out next : Written) (all left rest : List Template) (t : Template) → left ≡ t ∷ rest → Named first out all left → (next.before ≡ out.before) × (next.tokens ≡ out.tokens ++ (Token.key t.id ∷ json_tokens (policy_json (template_meaning t)))) → keys_called_by (template_meaning t) ≡ [] → Named first next all rest
named_more first out next all left rest t e n h free = record {
  wrote = wrote_more first out next (named_tokens all) (named_tokens left) (Token.key t.id ∷ json_tokens (policy_json (template_meaning t))) (named_tokens rest) (ap named_tokens e) n.wrote h;
  called = n.called ∙ ap called_by e ∙ ap (λ (ks : List (List ℕ)). ks ++ called_by rest) free;
}

pub named_refused : (first out : Written) (all left rest : List Template) (t : Template) (why : ToJsonError) → left ≡ t ∷ rest → Named first out all left → TellsFirst (keys_called_by (template_meaning t)) why → TellsFirst (called_by all) why
named_refused first out all left rest t why e n h =
    told_before (called_by all) (keys_called_by (template_meaning t)) (called_by rest) why (n.called ∙ ap called_by e) h

-- ---- two after one another

pub flat_both : (ps ts : List Template) → called_by (ps ++ ts) ≡ called_by ps ++ called_by ts
flat_both [] ts = refl
flat_both (p ∷ ps) ts =
    ap (λ (ks : List (List ℕ)). keys_called_by (template_meaning p) ++ ks) (flat_both ps ts)
    ∙ sym (append_assoc (keys_called_by (template_meaning p)) (called_by ps) (called_by ts))

-- ---- the parts of a policy

pub scope_in_turn : (front principal action resource : List Token) (k l : Token) → ((((front ++ principal) ++ k ∷ []) ++ action) ++ l ∷ []) ++ resource ≡ front ++ (principal ++ k ∷ (action ++ l ∷ resource))
scope_in_turn front principal action resource k l =
    append_assoc (((front ++ principal) ++ k ∷ []) ++ action) (l ∷ []) resource
    ∙ append_assoc ((front ++ principal) ++ k ∷ []) action (l ∷ resource)
    ∙ append_assoc (front ++ principal) (k ∷ []) (action ++ l ∷ resource)
    ∙ append_assoc front principal (k ∷ (action ++ l ∷ resource))

pub policy_in_turn : (front principal action resource items more : List Token) (k l m n : Token) → ((front ++ (principal ++ k ∷ (action ++ l ∷ resource))) ++ m ∷ n ∷ items) ++ more ≡ front ++ (principal ++ k ∷ (action ++ l ∷ (resource ++ m ∷ n ∷ (items ++ more))))
policy_in_turn front principal action resource items more k l m n =
    let last : List Token = m ∷ n ∷ (items ++ more) in
    append_assoc (front ++ (principal ++ k ∷ (action ++ l ∷ resource))) (m ∷ n ∷ items) more
    ∙ append_assoc front (principal ++ k ∷ (action ++ l ∷ resource)) last
    ∙ ap (λ (ts : List Token). front ++ ts) (append_assoc principal (k ∷ (action ++ l ∷ resource)) last ∙ ap (λ (ts : List Token). principal ++ k ∷ ts) (append_assoc action (l ∷ resource) last))

-- ---- ends

pub none_named : (out : Written) (all left : List Template) → left ≡ all → Named out out all left
none_named out all left e = record {
  wrote = record { before = refl; tokens = ap (λ (ts : List Template). out.tokens ++ named_tokens ts) e };
  called = sym (ap called_by e);
}

pub named_end : (a first out next : Written) (all left : List Template) → left ≡ [] → Added a first (Token.begin_object ∷ []) → Named first out all left → Added out next (Token.end_object ∷ []) → Added a next (Token.begin_object ∷ named_tokens all)
named_end a first out next all left e front n h =
    let whole : Wrote first next (named_tokens all) [] = wrote_more first out next (named_tokens all) (named_tokens left) (Token.end_object ∷ []) [] (ap named_tokens e) n.wrote h in
    in_turn a first next (Token.begin_object ∷ []) (named_tokens all) front (wrote_all first next (named_tokens all) [] refl whole)

pub none_called : (first out : Written) (all left : List Template) → left ≡ [] → Named first out all left → called_by all ≡ []
none_called first out all left e n = n.called ∙ ap called_by e

pub texts_end : {E : Type 0} (r : Result (Unit {0}) E) (first out next : Written) (all left : List (List ℕ × Annotation)) → left ≡ [] → Wrote first out (texts_tokens all) (texts_tokens left) → Writes r out next Token.end_object → Appends r first next (texts_tokens all)
texts_end r first out next all left e w h = wrote_last r first out next (texts_tokens all) (texts_tokens left) Token.end_object (ap texts_tokens e) w h

no_entry : (m : FinMap text_order Annotation) → len m ≡ 0 → entries m ≡ []
no_entry m e = nil_from_length (entries m) (sym (len-entries m) ∙ e)

-- no annotations, and some
pub without_annotations : {E : Type 0} (r : Result (Unit {0}) E) (out next : Written) (m : FinMap text_order Annotation) → len m ≡ 0 → Writes r out next Token.end_object → Appends r out next (members_tokens (annotations_member (texts (entries m))))
without_annotations r out next m e h =
    subst (λ (es : List (List ℕ × Annotation)). Appends r out next (members_tokens (annotations_member (texts es)))) (sym (no_entry m e)) (on_ok_weaker r (λ w. (h.room.0, w)) h.ok)

some_texts : (es : List (List ℕ × Annotation)) → (es ≡ [] → ⊥) → members_tokens (annotations_member (texts es)) ≡ (Token.key (codes "annotations") ∷ Token.begin_object ∷ []) ++ (texts_tokens es ++ Token.end_object ∷ [])
some_texts [] some = absurd (some refl)
some_texts (e ∷ es) some = refl

some_entry : (m : FinMap text_order Annotation) (b : Bool) → (len m ≡ 0 → b ≡ true) → b ≡ false → entries m ≡ [] → ⊥
some_entry m b back no_more none = true_false (sym (back (len-entries m ∙ ap length none)) ∙ no_more)

pub with_annotations : {E : Type 0} (r : Result (Unit {0}) E) (a b c d : Written) (m : FinMap text_order Annotation) (empty : Bool) → (len m ≡ 0 → empty ≡ true) → empty ≡ false → Added a b (Token.key (codes "annotations") ∷ Token.begin_object ∷ []) → Added b c (texts_tokens (entries m)) → Writes r c d Token.end_object → Appends r a d (members_tokens (annotations_member (texts (entries m))))
with_annotations r a b c d m empty back no_more h g w =
    let front : List Token = Token.key (codes "annotations") ∷ Token.begin_object ∷ [] in
    same_added r a d ((front ++ texts_tokens (entries m)) ++ Token.end_object ∷ []) (members_tokens (annotations_member (texts (entries m))))
    (append_assoc front (texts_tokens (entries m)) (Token.end_object ∷ []) ∙ sym (some_texts (entries m) (some_entry m empty back no_more)))
    (finish_one r a c d (front ++ texts_tokens (entries m)) Token.end_object (in_turn a b c front (texts_tokens (entries m)) h g) w)

pub set_in_turn : (front policies templates links : List Token) (k : Token) → (((front ++ policies) ++ k ∷ []) ++ templates) ++ links ≡ front ++ (policies ++ k ∷ (templates ++ links))
set_in_turn front policies templates links k =
    append_assoc ((front ++ policies) ++ k ∷ []) templates links
    ∙ append_assoc (front ++ policies) (k ∷ []) (templates ++ links)
    ∙ append_assoc front policies (k ∷ (templates ++ links))
