use Rattle.std.proofs.Common.{◌≡◌, ℕ, ◌+◌, ◌<◌, List, [], ◌∷◌, ◌++◌, length, take, get_or, refl, sym, ap, ◌∙◌, subst, append_assoc, append-nil}
use Rattle.std.specs.String.{string_bytes}
use Rattle.std.specs.Str.{encode_utf8_all}
use Rattle.std.proofs.lemmas.List.{take_more}
use Rattle.std.proofs.lemmas.List.Concat.{flat_map-append}
use Rattle.std.proofs.lemmas.Str.{encodes-append, chars-nil}
use Rattle.cedar_conversion.proofs.Loops.{take_whole}
use Rattle.cedar_expressions.specs.Escapes.{escaped_text, escaped_chars, escaped_elem, escaped_elems, escaped_pattern}
use Rattle.cedar_expressions.specs.declared.atoms.PatternElem.{PatternElem}
use Rattle.cedar_expressions.specs.declared.atoms.PatternElem.TheVariants.{Char, Wildcard}
use Rattle.cedar_writer.specs.Writable.{IsWritablePattern}
use Rattle.cedar_writer.proofs.pattern.push_pattern.Goals as goal

one_more : (es : List PatternElem) (x : PatternElem) → escaped_elems (es ++ x ∷ []) ≡ escaped_elems es ++ escaped_elem x
one_more es x = flat_map-append escaped_elem es (x ∷ []) ∙ ap (λ t. escaped_elems es ++ t) (append-nil (escaped_elem x))

-- the text so far, and of one part more
written : (first so_far next : List ℕ) (es : List PatternElem) (i : ℕ) (x : PatternElem) → i < length es → so_far ≡ first ++ escaped_pattern (take i es) → next ≡ so_far ++ encode_utf8_all (escaped_elem (get_or es i x)) → next ≡ first ++ escaped_pattern (take (i + 1) es)
written first so_far next es i x h e f =
    let y = get_or es i x in
    f ∙ ap (λ t. t ++ encode_utf8_all (escaped_elem y)) e ∙ append_assoc first (escaped_pattern (take i es)) (encode_utf8_all (escaped_elem y))
    ∙ ap (λ t. first ++ t) (sym (encodes-append (escaped_elems (take i es)) (escaped_elem y)) ∙ ap encode_utf8_all (sym (one_more (take i es) y)) ∙ ap escaped_pattern (sym (take_more es i x h)))

both : (es : List PatternElem) (x : PatternElem) → IsWritablePattern es → IsWritablePattern (x ∷ []) → IsWritablePattern (es ++ x ∷ [])
both [] x h k = k
both (Char c ∷ es) x h k = (h.0, both es x h.1 k)
both (Wildcard ∷ es) x h k = both es x h k

writable : (es : List PatternElem) (i : ℕ) (x : PatternElem) → i < length es → IsWritablePattern (take i es) → IsWritablePattern (get_or es i x ∷ []) → IsWritablePattern (take (i + 1) es)
writable es i x h e f = subst IsWritablePattern (sym (take_more es i x h)) (both (take i es) (get_or es i x) e f)

nothing : (first plain : List ℕ) → plain ≡ [] → first ++ escaped_text plain ≡ first ++ escaped_pattern []
nothing first plain e = ap (λ t. first ++ escaped_text t) e ∙ ap (λ cs. first ++ encode_utf8_all (escaped_chars cs)) chars-nil

pub loop-elem-init : goal.loop-elem-init
loop-elem-init c = (nothing (string_bytes c.args.out.now) (string_bytes c.new-plain.result) c.new-plain.ensures.bytes, tt)

pub loop-elem-preserved : goal.loop-elem-preserved
loop-elem-preserved c = (
  written (string_bytes c.args.out.now) (string_bytes c.loop-elem.out ++ escaped_text (string_bytes c.loop-elem.plain)) (string_bytes c.push_elem.new.out ++ escaped_text (string_bytes c.push_elem.new.plain)) c.args.elems.now c.loop-elem.elem-index _ c.loop-elem-test.true c.loop-elem.invariant.0 c.in_ok-push_elem.ensures.written,
  writable c.args.elems.now c.loop-elem.elem-index _ c.loop-elem-test.true c.loop-elem.invariant.1 c.in_ok-push_elem.ensures.writable,
)
