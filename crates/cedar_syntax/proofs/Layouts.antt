-- A raw text is laid out of pieces in exactly one way, and a loop that reads one piece after the
-- other finds it.
use Rattle.std.proofs.Common.{◌≡◌, ℕ, Bool, true, false, ◌&&◌, ◌==◌, suc, zero, ◌+◌, ◌-◌, ◌<◌, ◌≤◌, List, [], ◌∷◌, ◌++◌, length, Some, None, refl, sym, ap, ◌∙◌, subst, arith, append_assoc, append-nil, length-append}
use Rattle.std.specs.List.{flat_map}
use Rattle.std.specs.Str.{chars, IsUtf8, encode_utf8_all}
use Rattle.std.proofs.lemmas.Bool.{eqb-true}
use Rattle.std.proofs.lemmas.List.{append_cancel_right}
use Rattle.std.proofs.lemmas.Str.{encodes-append, encodes-chars, length-le-encodes}
use Rattle.cedar_syntax.specs.declared.err.escape.UnescapeError.{UnescapeError}
use Rattle.cedar_syntax.specs.declared.err.escape.EscapeError.{EscapeError}
use Rattle.cedar_syntax.specs.declared.err.escape.EscapeError.TheVariants.{InvalidEscape}
use Rattle.cedar_syntax.specs.declared.unescape.piece.PieceValue.{PieceValue}
use Rattle.cedar_syntax.specs.declared.unescape.piece.PieceValue.TheVariants.{Fault}
use Rattle.cedar_syntax.specs.strings.Pattern.{is_escaped_star}
use Rattle.cedar_syntax.specs.strings.Piece.{Piece, Placed, bytes_len, piece_at, PieceLayout, end_of_text, piece, IsLaidOut}
use Rattle.cedar_syntax.specs.strings.PieceAhead.{BeginsWithPiece, PieceAhead, piece_ahead, faulty, first_of, first_piece, begins_escaped_star}
use Rattle.cedar_syntax.proofs.FirstPiece.{begins, read_text, piece_is_read}

no_clash : {A : Type 0} (x : A) → None ≡ Some x → ⊥
no_clash x e = cc

-- no piece is empty
piece_some : (text after : List ℕ) (o : PieceValue) → Piece text after o → text ++ after ≡ [] → ⊥
piece_some text after o p e = no_clash (piece_ahead o after) (ap read_text (sym e) ∙ piece_is_read text after o p)

piece_longer : (text after : List ℕ) (o : PieceValue) → Piece text after o → 0 < length text
piece_longer [] after o p = absurd (no_empty p)
  where
    no_empty : Piece [] after o → ⊥
    no_empty q = elim q [ ]
piece_longer (c ∷ text) after o p = omega arith

-- ---- at most one layout

record Next (start : ℕ) (text after : List ℕ) (o : PieceValue) (ps : List Placed) : Type 0 where
  more : List Placed
  is_next : piece_at start text o ∷ more ≡ ps
  laid : PieceLayout (start + bytes_len text) after more

next_piece : (start : ℕ) (text after : List ℕ) (o : PieceValue) → Piece text after o → (cs : List ℕ) (ps : List Placed) → PieceLayout start cs ps → cs ≡ text ++ after → Next start text after o ps
next_piece start text after o p _ _ end_of_text e = absurd (piece_some text after o p (sym e))
next_piece start text after o p cs _ (piece {ps = more} text' after' o' f q l) e =
    let both : text ++ after ≡ text' ++ after' = sym e ∙ f in
    let read : Some (piece_ahead o after) ≡ Some (piece_ahead o' after') = sym (piece_is_read text after o p) ∙ ap read_text both ∙ piece_is_read text' after' o' q in
    let same : piece_ahead o after ≡ piece_ahead o' after' = cc in
    let same_outcome : o ≡ o' = ap (λ (r : PieceAhead). r.outcome) same in
    let same_after : after ≡ after' = ap (λ (r : PieceAhead). r.rest) same in
    let same_text : text ≡ text' = append_cancel_right text text' after' (subst (λ (a : List ℕ). text ++ a ≡ text' ++ after') same_after both) in
    record {
      more = more;
      is_next = cc;
      laid = subst (λ (a : List ℕ). PieceLayout (start + bytes_len text) a more) (sym same_after) (subst (λ (t : List ℕ). PieceLayout (start + bytes_len t) after' more) (sym same_text) l);
    }

no_piece : (start : ℕ) (cs : List ℕ) (ps : List Placed) → PieceLayout start cs ps → cs ≡ [] → [] ≡ ps
no_piece start _ _ end_of_text e = refl
no_piece start cs _ (piece text after o f q l) e = absurd (piece_some text after o q (sym f ∙ e))

pub laid_once : (start : ℕ) (cs : List ℕ) (ps qs : List Placed) → PieceLayout start cs ps → PieceLayout start cs qs → ps ≡ qs
laid_once start _ _ qs end_of_text m = no_piece start [] qs m refl
laid_once start cs _ qs (piece {ps = more} text after o e p l) m =
    let n : Next start text after o qs = next_piece start text after o p cs qs m e in
    ap (λ (xs : List Placed). piece_at start text o ∷ xs) (laid_once (start + bytes_len text) after more n.more l n.laid) ∙ n.is_next

-- ---- a layout

laid_out_of : (n start : ℕ) (cs : List ℕ) → length cs ≤ n → (ps : List Placed) × PieceLayout start cs ps
laid_out_of n start [] h = ([], end_of_text)
laid_out_of zero start (c ∷ cs) h = absurd (omega arith)
laid_out_of (suc n) start (c ∷ cs) h =
    let b : BeginsWithPiece (c ∷ cs) (first_piece c cs) = begins c cs in
    let r : List ℕ = (first_piece c cs).rest in
    let longer : 0 < length b.text = piece_longer b.text r (first_piece c cs).outcome b.is_piece in
    let whole : suc (length cs) ≡ length b.text + length r = ap length b.stands ∙ length-append b.text r in
    let l : (ps : List Placed) × PieceLayout (start + bytes_len b.text) r ps = laid_out_of n (start + bytes_len b.text) r (omega arith) in
    (piece_at start b.text (first_piece c cs).outcome ∷ l.0, piece b.text r (first_piece c cs).outcome b.stands b.is_piece l.1)

pub laid_out : (start : ℕ) (cs : List ℕ) → (ps : List Placed) × PieceLayout start cs ps
laid_out start cs = laid_out_of (length cs) start cs (omega arith)

-- ---- a loop that reads one piece after the other

-- the whole raw text is laid out of pieces that give this and tell these faults
pub record Whole {A : Type 0} (gives : Placed → List A) (tells : Placed → List UnescapeError) (raw : List ℕ) (got : List A) (found : List UnescapeError) : Type 0 where
  pub pieces : List Placed
  pub laid : IsLaidOut raw pieces
  pub given : flat_map gives pieces ≡ got
  pub told : flat_map tells pieces ≡ found

-- so much of the raw text is read that, however the rest of it is laid out, the whole is, with
-- what was got and found so far before that of the rest
abbrev pub Continues : {A : Type 0} → (Placed → List A) → (Placed → List UnescapeError) → List ℕ → List ℕ → List A → List UnescapeError → Type 0
Continues gives tells raw rest got found = (ps : List Placed) → PieceLayout (length raw - length rest) (chars rest) ps → Whole gives tells raw (got ++ flat_map gives ps) (found ++ flat_map tells ps)

pub begin : {A : Type 0} (gives : Placed → List A) (tells : Placed → List UnescapeError) (raw : List ℕ) → Continues gives tells raw raw [] []
begin gives tells raw = λ ps l.
    let none : length raw - length raw ≡ 0 = omega arith in
    record { pieces = ps; laid = subst (λ (n : ℕ). PieceLayout n (chars raw) ps) none l; given = refl; told = refl }

pub finish : {A : Type 0} (gives : Placed → List A) (tells : Placed → List UnescapeError) (raw rest : List ℕ) (got : List A) (found : List UnescapeError) → chars rest ≡ [] → Continues gives tells raw rest got found → Whole gives tells raw got found
finish gives tells raw rest got found e k =
    let w : Whole gives tells raw (got ++ []) (found ++ []) = k [] (subst (λ (cs : List ℕ). PieceLayout (length raw - length rest) cs []) (sym e) end_of_text) in
    record { pieces = w.pieces; laid = w.laid; given = w.given ∙ append-nil got; told = w.told ∙ append-nil found }

-- the piece between what was left of the raw text and what is left now
abbrev pub placed_between : List ℕ → List ℕ → List ℕ → List ℕ → PieceValue → Placed
placed_between raw rest rest' text o = record { text = text; outcome = o; start = length raw - length rest; end = length raw - length rest' }

pub record Step {A : Type 0} (gives : Placed → List A) (tells : Placed → List UnescapeError) (raw rest rest' : List ℕ) (o : PieceValue) (got : List A) (found : List UnescapeError) : Type 0 where
  pub text : List ℕ
  pub stands : chars rest ≡ text ++ chars rest'
  pub shorter : length rest' < length rest
  pub goes_on : Continues gives tells raw rest' (got ++ gives (placed_between raw rest rest' text o)) (found ++ tells (placed_between raw rest rest' text o))

bytes_of_chars : (bs : List ℕ) → IsUtf8 bs → bytes_len (chars bs) ≡ length bs
bytes_of_chars bs u = ap length (encodes-chars bs u)

bytes_len-append : (xs ys : List ℕ) → bytes_len (xs ++ ys) ≡ bytes_len xs + bytes_len ys
bytes_len-append xs ys = ap length (encodes-append xs ys) ∙ length-append (encode_utf8_all xs) (encode_utf8_all ys)

pub first_of-some : (xs : List ℕ) (c : ℕ) (cs : List ℕ) → first_of xs ≡ Some (c, cs) → xs ≡ c ∷ cs
first_of-some [] c cs e = absurd (no_clash (c, cs) e)
first_of-some (x ∷ xs) c cs e =
    let same : (x, xs) ≡ (c, cs) = cc in
    ap (λ (p : ℕ × List ℕ). p.0 ∷ p.1) same

pub step : {A : Type 0} (gives : Placed → List A) (tells : Placed → List UnescapeError) (raw rest rest' : List ℕ) (c : ℕ) (cs : List ℕ) (o : PieceValue) (got : List A) (found : List UnescapeError)
    → IsUtf8 rest → IsUtf8 rest' → length rest ≤ length raw → first_of (chars rest) ≡ Some (c, cs) → piece_ahead o (chars rest') ≡ first_piece c cs
    → Continues gives tells raw rest got found → Step gives tells raw rest rest' o got found
step gives tells raw rest rest' c cs o got found u v fits first f k =
    let e : chars rest ≡ c ∷ cs = first_of-some (chars rest) c cs first in
    let b : BeginsWithPiece (c ∷ cs) (piece_ahead o (chars rest')) = subst (λ (r : PieceAhead). BeginsWithPiece (c ∷ cs) r) (sym f) (begins c cs) in
    let stands : chars rest ≡ b.text ++ chars rest' = e ∙ b.stands in
    let long : length rest ≡ bytes_len b.text + length rest' = sym (bytes_of_chars rest u) ∙ ap bytes_len stands ∙ bytes_len-append b.text (chars rest') ∙ ap (λ (n : ℕ). bytes_len b.text + n) (bytes_of_chars rest' v) in
    let ends : length raw - length rest + bytes_len b.text ≡ length raw - length rest' = omega arith in
    record {
      text = b.text;
      stands = stands;
      shorter = omega (arith, piece_longer b.text (chars rest') o b.is_piece, length-le-encodes b.text);
      goes_on = λ ps l.
          let p : Placed = placed_between raw rest rest' b.text o in
          let here : piece_at (length raw - length rest) b.text o ≡ p = ap (λ (n : ℕ). record { text = b.text; outcome = o; start = length raw - length rest; end = n }) ends in
          let laid : PieceLayout (length raw - length rest) (chars rest) (piece_at (length raw - length rest) b.text o ∷ ps) = piece b.text (chars rest') o stands b.is_piece (subst (λ (n : ℕ). PieceLayout n (chars rest') ps) (sym ends) l) in
          let w : Whole gives tells raw (got ++ flat_map gives (p ∷ ps)) (found ++ flat_map tells (p ∷ ps)) = k (p ∷ ps) (subst (λ (q : Placed). PieceLayout (length raw - length rest) (chars rest) (q ∷ ps)) here laid) in
          record {
            pieces = w.pieces;
            laid = w.laid;
            given = w.given ∙ sym (append_assoc got (gives p) (flat_map gives ps));
            told = w.told ∙ sym (append_assoc found (tells p) (flat_map tells ps));
          };
    }

pub goes_on_as : {A : Type 0} (gives : Placed → List A) (tells : Placed → List UnescapeError) (raw rest : List ℕ) (got got' : List A) (found found' : List UnescapeError) → got ≡ got' → found ≡ found' → Continues gives tells raw rest got found → Continues gives tells raw rest got' found'
goes_on_as {A} gives tells raw rest got got' found found' e f k = subst (λ (g : List A). Continues gives tells raw rest g found') e (subst (λ (x : List UnescapeError). Continues gives tells raw rest got x) f k)

-- ---- the piece `\*`

both_left : (b c : Bool) → (b && c) ≡ true → b ≡ true
both_left true c e = refl
both_left false c e = e

both_right : (b c : Bool) → (b && c) ≡ true → c ≡ true
both_right true c e = e
both_right false c e = absurd (no e)
  where
    no : false ≡ true → ⊥
    no h = cc

star_rest : (r : List ℕ) (c d : ℕ) (ds : List ℕ) (k : EscapeError) → piece_ahead (Fault k) r ≡ first_piece c (d ∷ ds) → c ≡ 92 → d ≡ 42 → ds ≡ r
star_rest r c d ds k f g h =
    let read : first_piece c (d ∷ ds) ≡ faulty InvalidEscape ds = ap (λ (x : ℕ). first_piece x (d ∷ ds)) g ∙ ap (λ (y : ℕ). first_piece 92 (y ∷ ds)) h in
    sym (ap (λ (x : PieceAhead). x.rest) (f ∙ read))

no_star : (text r : List ℕ) (c d : ℕ) (ds : List ℕ) → c ∷ d ∷ ds ≡ text ++ r → (c == 92 && d == 42) ≡ false → is_escaped_star text ≡ false
no_star [] r c d ds e h = refl
no_star (x ∷ []) r c d ds e h = refl
no_star (x ∷ y ∷ []) r c d ds e h =
    let p : c ≡ x = cc in
    let q : d ≡ y = cc in
    ap (λ (a : ℕ). a == 92 && y == 42) (sym p) ∙ ap (λ (b : ℕ). c == 92 && b == 42) (sym q) ∙ h
no_star (x ∷ y ∷ z ∷ zs) r c d ds e h = refl

-- a fault's piece is `\*` just if the text begins so
pub escaped_star : (text r : List ℕ) (c : ℕ) (cs : List ℕ) (k : EscapeError) → c ∷ cs ≡ text ++ r → piece_ahead (Fault k) r ≡ first_piece c cs → is_escaped_star text ≡ begins_escaped_star c (first_of cs)
escaped_star [] r c [] k e f = refl
escaped_star (x ∷ []) r c [] k e f = refl
escaped_star (x ∷ y ∷ []) r c [] k e f = absurd (omega (arith, ap length e))
escaped_star (x ∷ y ∷ z ∷ zs) r c [] k e f = refl
escaped_star text r c (d ∷ ds) k e f = go (c == 92 && d == 42) refl
  where
    go : (t : Bool) → (c == 92 && d == 42) ≡ t → is_escaped_star text ≡ (c == 92 && d == 42)
    go true h =
        let rest : ds ≡ r = star_rest r c d ds k f (eqb-true c 92 (both_left (c == 92) (d == 42) h)) (eqb-true d 42 (both_right (c == 92) (d == 42) h)) in
        let same : c ∷ d ∷ [] ≡ text = append_cancel_right (c ∷ d ∷ []) text r (ap (λ (xs : List ℕ). c ∷ d ∷ xs) (sym rest) ∙ e) in
        sym (ap is_escaped_star same)
    go false h = no_star text r c d ds e h ∙ sym h
