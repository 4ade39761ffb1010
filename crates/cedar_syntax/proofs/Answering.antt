-- What a call answers, from the one layout of its raw text.
use Rattle.std.proofs.Common.{◌≡◌, ◌≢◌, ℕ, List, [], Option, Some, None, Result, Ok, Err, MatchOption, MatchResult, IfOk, IfErr, refl, sym, ap, ◌∙◌, subst}
use Rattle.std.specs.List.{flat_map}
use Rattle.std.specs.Str.{chars}
use Rattle.cedar_expressions.specs.declared.atoms.PatternElem.{PatternElem}
use Rattle.cedar_syntax.specs.declared.err.escape.UnescapeError.{UnescapeError}
use Rattle.cedar_syntax.specs.declared.err.escape.UnescapeFailure.{UnescapeFailure}
use Rattle.cedar_syntax.specs.declared.err.escape.UnescapeFailure.TheVariants.{Memory, Errors}
use Rattle.cedar_syntax.specs.declared.err.non_empty.NonEmpty.{NonEmpty}
use Rattle.cedar_syntax.specs.faults.NonEmpty.{list_of}
use Rattle.cedar_syntax.specs.strings.UnescapeFailure.{Tells, LacksMemory}
use Rattle.cedar_syntax.specs.strings.EscapeFaults.{found_list}
use Rattle.cedar_syntax.specs.strings.Pattern.{IsPattern, HasPatternFaults, elem_of, pattern_fault_of}
use Rattle.cedar_syntax.specs.strings.Piece.{Placed, IsUnescaped, HasEscapeFaults, unescaped_piece, piece_value_faults}
use Rattle.cedar_syntax.proofs.Layouts.{Whole, laid_once}

whole_same : {A : Type 0} (gives : Placed → List A) (tells : Placed → List UnescapeError) (raw : List ℕ) (got got' : List A) (found found' : List UnescapeError) → Whole gives tells raw got found → Whole gives tells raw got' found' → (got ≡ got') × (found ≡ found')
whole_same gives tells raw got got' found found' w v =
    let same : w.pieces ≡ v.pieces = laid_once 0 (chars raw) w.pieces v.pieces w.laid v.laid in
    (sym w.given ∙ ap (flat_map gives) same ∙ v.given, sym w.told ∙ ap (flat_map tells) same ∙ v.told)

no_faults : (faults : NonEmpty UnescapeError) → list_of faults ≡ [] → ⊥
no_faults faults e = cc

module _ {T A : Type 0} (items : T → List A) (gives : Placed → List A) (tells : Placed → List UnescapeError) (raw : List ℕ) where
  -- the clauses of a call, said of the layout of the raw text
  pub record Answered (r : Result T UnescapeFailure) : Type 0 where
    pub ok : IfOk r (λ t. Whole gives tells raw (items t) [])
    pub err : IfErr r (λ failure. Tells failure (λ found. (got : List A) × Whole gives tells raw got found))
    pub succeeds : (got : List A) → Whole gives tells raw got [] → MatchResult r (λ t. items t ≡ got) LacksMemory
    pub fails : (got : List A) (found : List UnescapeError) → Whole gives tells raw got found → found ≢ [] → MatchResult r (λ t. ⊥) (λ failure. Tells failure (λ all. all ≡ found))

  pub answered : (t : T) (found : Option (NonEmpty UnescapeError)) (r : Result T UnescapeFailure) → MatchOption found (r ≡ Ok t) (λ f. r ≡ Err (Errors f)) → Whole gives tells raw (items t) (found_list found) → Answered r
  answered t None r e w = subst Answered (sym e) (record {
    ok = w;
    err = tt;
    succeeds = λ got v. (whole_same gives tells raw (items t) got [] [] w v).0;
    fails = λ got found v some. some (sym (whole_same gives tells raw (items t) got [] found w v).1);
  })
  answered t (Some f) r e w = subst Answered (sym e) (record {
    ok = tt;
    err = (items t, w);
    succeeds = λ got v. absurd (no_faults f (whole_same gives tells raw (items t) got (list_of f) [] w v).1);
    fails = λ got found v some. (whole_same gives tells raw (items t) got (list_of f) found w v).1;
  })

ok_then : {T E : Type 0} (P Q : T → Type 0) (r : Result T E) → ((t : T) → P t → Q t) → IfOk r P → IfOk r Q
ok_then P Q (Ok t) f h = f t h
ok_then P Q (Err e) f h = h

err_then : {T : Type 0} (P Q : List UnescapeError → Type 0) (r : Result T UnescapeFailure) → ((found : List UnescapeError) → P found → Q found) → IfErr r (λ failure. Tells failure P) → IfErr r (λ failure. Tells failure Q)
err_then P Q (Ok t) f h = h
err_then P Q (Err (Memory e)) f h = h
err_then P Q (Err (Errors faults)) f h = f (list_of faults) h

-- strings

abbrev pub text_gives : Placed → List ℕ
text_gives p = unescaped_piece p.outcome

abbrev pub text_tells : List ℕ → Placed → List UnescapeError
text_tells raw p = piece_value_faults raw p p.outcome

pub text_ok : {T : Type 0} (items : T → List ℕ) (raw : List ℕ) (r : Result T UnescapeFailure) → Answered items text_gives (text_tells raw) raw r → IfOk r (λ t. IsUnescaped raw (items t))
text_ok items raw r a = ok_then (λ t. Whole text_gives (text_tells raw) raw (items t) []) (λ t. IsUnescaped raw (items t)) r (λ t w. record { pieces = w.pieces; laid_out = w.laid; faultless = w.told; unescaped = w.given }) a.ok

pub text_err : {T : Type 0} (items : T → List ℕ) (raw : List ℕ) (r : Result T UnescapeFailure) → Answered items text_gives (text_tells raw) raw r → IfErr r (λ failure. Tells failure (HasEscapeFaults raw))
text_err items raw r a = err_then (λ found. (got : List ℕ) × Whole text_gives (text_tells raw) raw got found) (HasEscapeFaults raw) r (λ found w. record { pieces = w.1.pieces; laid_out = w.1.laid; told = w.1.told }) a.err

pub text_succeeds : {T : Type 0} (items : T → List ℕ) (raw : List ℕ) (r : Result T UnescapeFailure) → Answered items text_gives (text_tells raw) raw r → (text : List ℕ) → IsUnescaped raw text → MatchResult r (λ t. items t ≡ text) LacksMemory
text_succeeds items raw r a text u = a.succeeds text (record { pieces = u.pieces; laid = u.laid_out; given = u.unescaped; told = u.faultless })

pub text_fails : {T : Type 0} (items : T → List ℕ) (raw : List ℕ) (r : Result T UnescapeFailure) → Answered items text_gives (text_tells raw) raw r → (found : List UnescapeError) → HasEscapeFaults raw found → found ≢ [] → MatchResult r (λ t. ⊥) (λ failure. Tells failure (λ all. all ≡ found))
text_fails items raw r a found u some = a.fails (flat_map text_gives u.pieces) found (record { pieces = u.pieces; laid = u.laid_out; given = refl; told = u.told }) some

-- patterns

abbrev pub pattern_gives : Placed → List PatternElem
pattern_gives p = elem_of p p.outcome

abbrev pub pattern_tells : List ℕ → Placed → List UnescapeError
pattern_tells raw p = pattern_fault_of raw p p.outcome

pub pattern_ok : {T : Type 0} (items : T → List PatternElem) (raw : List ℕ) (r : Result T UnescapeFailure) → Answered items pattern_gives (pattern_tells raw) raw r → IfOk r (λ t. IsPattern raw (items t))
pattern_ok items raw r a = ok_then (λ t. Whole pattern_gives (pattern_tells raw) raw (items t) []) (λ t. IsPattern raw (items t)) r (λ t w. record { pieces = w.pieces; laid_out = w.laid; faultless = w.told; parts = w.given }) a.ok

pub pattern_err : {T : Type 0} (items : T → List PatternElem) (raw : List ℕ) (r : Result T UnescapeFailure) → Answered items pattern_gives (pattern_tells raw) raw r → IfErr r (λ failure. Tells failure (HasPatternFaults raw))
pattern_err items raw r a = err_then (λ found. (got : List PatternElem) × Whole pattern_gives (pattern_tells raw) raw got found) (HasPatternFaults raw) r (λ found w. record { pieces = w.1.pieces; laid_out = w.1.laid; told = w.1.told }) a.err

pub pattern_succeeds : {T : Type 0} (items : T → List PatternElem) (raw : List ℕ) (r : Result T UnescapeFailure) → Answered items pattern_gives (pattern_tells raw) raw r → (elems : List PatternElem) → IsPattern raw elems → MatchResult r (λ t. items t ≡ elems) LacksMemory
pattern_succeeds items raw r a elems u = a.succeeds elems (record { pieces = u.pieces; laid = u.laid_out; given = u.parts; told = u.faultless })

pub pattern_fails : {T : Type 0} (items : T → List PatternElem) (raw : List ℕ) (r : Result T UnescapeFailure) → Answered items pattern_gives (pattern_tells raw) raw r → (found : List UnescapeError) → HasPatternFaults raw found → found ≢ [] → MatchResult r (λ t. ⊥) (λ failure. Tells failure (λ all. all ≡ found))
pattern_fails items raw r a found u some = a.fails (flat_map pattern_gives u.pieces) found (record { pieces = u.pieces; laid = u.laid_out; given = refl; told = u.told }) some
