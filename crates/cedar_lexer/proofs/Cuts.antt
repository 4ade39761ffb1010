-- A text has one cut or one bad place, and each of its beginnings that is laid out is the
-- beginning of that.
use Rattle.std.proofs.Common.{◌≡◌, ℕ, zero, suc, ◌+◌, ◌-◌, ◌<◌, ◌≤◌, List, [], ◌∷◌, ◌++◌, length, take, drop, refl, sym, ap, ◌∙◌, subst, arith, append_assoc, append-nil, Option, Some, None}
use Rattle.std.specs.Char.{encode_utf8}
use Rattle.std.specs.Str.{IsUtf8, encode_utf8_all}
use Rattle.std.proofs.lemmas.List.{length-append, length-drop, drop-drop, drop_at, drop_all, take_at}
use Rattle.std.proofs.lemmas.Str.{IsUtf8-past_char}
use Rattle.cedar_lexer.specs.declared.token.TokenKind.{TokenKind}
use Rattle.cedar_lexer.specs.Token.{Lexeme}
use Rattle.cedar_lexer.specs.Spelling.{Spells}
use Rattle.cedar_lexer.specs.Cut.{IsSpelled, NothingStarts, IsSkipAt, IsTokenAt, Layout, nothing, skip, token}
use Rattle.cedar_lexer.specs.Scan.{spelling, KindAndLength}
use Rattle.cedar_lexer.proofs.Bytes.{same_front}
use Rattle.cedar_lexer.proofs.Marks.{found_same}
use Rattle.cedar_lexer.proofs.Fronts.{reaches, one_kind}
use Rattle.cedar_lexer.proofs.Found.{Front, found, spelled_utf8}
use Rattle.cedar_lexer.proofs.Skips.{skip_same, skip_or_spelling, skip_some, spelling_some, SkipOrNone, skip_here, none_here, skip_or_none, skip_rest, no_skip_in_empty}

-- ---- one place

-- the bytes of the source behind a front that stands at i
behind : (source : List ℕ) (i : ℕ) (text after : List ℕ) → drop i source ≡ text ++ after → drop (i + length text) source ≡ after
behind source i text after stands = sym (drop-drop (length text) i source) ∙ (ap (drop (length text)) stands ∙ drop_at text after (length text) refl)

within : (source : List ℕ) (i : ℕ) (text after : List ℕ) → drop i source ≡ text ++ after → 0 < length text → i + length text ≤ length source
within source i text after stands some =
    let n : length source - i ≡ length (text ++ after) = sym (length-drop i source) ∙ ap length stands in
    omega (arith, length-append text after)

abbrev lexeme : TokenKind → ℕ → ℕ → List ℕ → Lexeme
lexeme k i j text = record { kind = k; start = i; end = j; text = text }

same_lexeme : (t u : Lexeme) → t.kind ≡ u.kind → t.start ≡ u.start → t.end ≡ u.end → t.text ≡ u.text → t ≡ u
same_lexeme t u k s e x =
    let kinds : t ≡ lexeme u.kind t.start t.end t.text = ap (λ v. lexeme v t.start t.end t.text) k in
    let starts : lexeme u.kind t.start t.end t.text ≡ lexeme u.kind u.start t.end t.text = ap (λ v. lexeme u.kind v t.end t.text) s in
    let ends : lexeme u.kind u.start t.end t.text ≡ lexeme u.kind u.start u.end t.text = ap (λ v. lexeme u.kind u.start v t.text) e in
    let texts : lexeme u.kind u.start u.end t.text ≡ u = ap (λ v. lexeme u.kind u.start u.end v) x in
    kinds ∙ (starts ∙ (ends ∙ texts))

-- one token stands at a place
one_token : (source : List ℕ) (i : ℕ) (t u : Lexeme) → IsTokenAt source i t → IsTokenAt source i u → t ≡ u
one_token source i t u p q =
    let shorter = p.longest u.kind u.text q.after q.stands q.spelled in
    let longer = q.longest t.kind t.text p.after p.stands p.spelled in
    let text : t.text ≡ u.text = same_front t.text u.text p.after q.after (sym p.stands ∙ q.stands) (omega arith) in
    same_lexeme t u (one_kind t.kind u.kind u.text (subst (Spells t.kind) text p.spelled.spells) q.spelled.spells)
    (p.starts ∙ sym q.starts) (omega (arith, p.ends, q.ends, ap length text)) text

one_skip : (source : List ℕ) (i j k : ℕ) → IsSkipAt source i j → IsSkipAt source i k → j ≡ k
one_skip source i j k p q = omega (arith, p.ends, q.ends, skip_same p.skips q.skips (sym p.stands ∙ q.stands))

not_both : (source : List ℕ) (i j : ℕ) (t : Lexeme) → IsSkipAt source i j → IsTokenAt source i t → ⊥
not_both source i j t p q = skip_or_spelling t.kind t.text q.after p.skips q.spelled (sym p.stands ∙ q.stands)

-- ---- beginnings

-- a beginning that stops where nothing starts goes on from each other beginning
pub record Onward (source : List ℕ) (ts us : List Lexeme) (m q : ℕ) : Type 0 where
  pub rest : List Lexeme
  pub is : us ≡ ts ++ rest
  pub laid : Layout source m rest q

pub onward : {source : List ℕ} {ts us : List Lexeme} {i m q : ℕ} → Layout source i ts m → Layout source i us q → NothingStarts (drop q source) → Onward source ts us m q
onward nothing l n = record { rest = _; is = refl; laid = l }
onward (skip s more) nothing n = absurd (n.no_skip s.text s.after s.stands s.skips)
onward {source = source} {us = us} {q = q} (skip {i = i} {j = j} s more) (skip {j = k} s' more') n =
    onward more (subst (λ x. Layout source x us q) (sym (one_skip source i j k s s')) more') n
onward {source = source} (skip {i = i} {j = j} s more) (token {t = t} s' more') n = absurd (not_both source i j t s s')
onward (token {t = t} s more) nothing n = absurd (n.no_spelling t.kind t.text s.after s.stands s.spelled)
onward {source = source} (token {i = i} {t = t} s more) (skip {j = j} s' more') n = absurd (not_both source i j t s' s)
onward {source = source} {q = q} (token {i = i} {t = t} s more) (token {t = u} {ts = us} s' more') n =
    let same = one_token source i t u s s' in
    let h = onward more (subst (λ x. Layout source x us q) (sym (ap (λ (x : Lexeme). x.end) same)) more') n in
    record { rest = h.rest; is = ap (λ x. x ∷ us) (sym same) ∙ ap (λ xs. t ∷ xs) h.is; laid = h.laid }

-- two beginnings one after the other
pub laid_on : {source : List ℕ} {ts us : List Lexeme} {i j k : ℕ} → Layout source i ts j → Layout source j us k → Layout source i (ts ++ us) k
laid_on nothing l = l
laid_on (skip s more) l = skip s (laid_on more l)
laid_on (token s more) l = token s (laid_on more l)

-- where nothing starts, nothing more is laid out
stopped : {source : List ℕ} {ts : List Lexeme} {i j : ℕ} → Layout source i ts j → NothingStarts (drop i source) → (ts ≡ []) × (i ≡ j)
stopped nothing n = (refl, refl)
stopped (skip s more) n = absurd (n.no_skip s.text s.after s.stands s.skips)
stopped (token {t = t} s more) n = absurd (n.no_spelling t.kind t.text s.after s.stands s.spelled)

pub one_end : {source : List ℕ} {ts us : List Lexeme} {i m q : ℕ} → Layout source i ts m → NothingStarts (drop m source) → Layout source i us q → NothingStarts (drop q source) → (ts ≡ us) × (m ≡ q)
one_end {ts = ts} l n k p =
    let h = onward l k p in
    let s = stopped h.laid n in
    (sym (h.is ∙ (ap (λ xs. ts ++ xs) s.0 ∙ append-nil ts)), s.1)

-- nothing starts at the end
nothing_in_empty : NothingStarts []
nothing_in_empty = record {
  no_skip = no_skip_in_empty;
  no_spelling = λ kind text after stands s.
      let some = spelling_some kind text s.spells in
      let none : length (text ++ after) ≡ 0 = ap length (sym stands) in
      absurd (omega (arith, length-append text after));
}

pub nothing_at_end : (source : List ℕ) → NothingStarts (drop (length source) source)
nothing_at_end source = subst NothingStarts (sym (drop_all (length source) source (omega arith))) nothing_in_empty

-- ---- what starts at a place

-- behind a text that begins another
rest_of : (cs after : List ℕ) → IsUtf8 (encode_utf8_all cs ++ after) → IsUtf8 after
rest_of [] after u = u
rest_of (c ∷ cs) after u =
    rest_of cs after (IsUtf8-past_char (encode_utf8_all (c ∷ cs) ++ after) (encode_utf8_all cs ++ after) c u (append_assoc (encode_utf8 c) (encode_utf8_all cs) after))

utf8_rest : (text after : List ℕ) → IsUtf8 text → IsUtf8 (text ++ after) → IsUtf8 after
utf8_rest text after (cs, (scalars, spelled)) u = rest_of cs after (subst (λ xs. IsUtf8 (xs ++ after)) (sym spelled) u)

pub behind_skip : (source : List ℕ) (i j : ℕ) → IsUtf8 (drop i source) → IsSkipAt source i j → (IsUtf8 (drop j source)) × (i < j) × (j ≤ length source)
behind_skip source i j u s =
    let place : drop j source ≡ s.after = ap (λ n. drop n source) s.ends ∙ behind source i s.text s.after s.stands in
    let some = skip_some s.skips in
    (subst IsUtf8 (sym place) (skip_rest source i u s.stands s.skips), omega (arith, s.ends), omega (arith, s.ends, within source i s.text s.after s.stands some))

pub behind_token : (source : List ℕ) (i : ℕ) (t : Lexeme) → IsUtf8 (drop i source) → IsTokenAt source i t → (IsUtf8 (drop t.end source)) × (i < t.end) × (t.end ≤ length source)
behind_token source i t u s =
    let place : drop t.end source ≡ s.after = ap (λ n. drop n source) s.ends ∙ behind source i t.text s.after s.stands in
    let some = spelling_some t.kind t.text s.spelled.spells in (
      subst IsUtf8 (sym place) (utf8_rest t.text s.after (spelled_utf8 t.kind t.text s.spelled.spells) (subst IsUtf8 s.stands u)),
      omega (arith, s.ends),
      omega (arith, s.ends, within source i t.text s.after s.stands some),
    )

-- where the scan finds nothing, no spelling starts
pub none_starts : (bs : List ℕ) → spelling bs ≡ None → (kind : TokenKind) (text after : List ℕ) → bs ≡ text ++ after → IsSpelled kind text after → ⊥
none_starts bs e kind text after stands s =
    let h = reaches kind text after s in
    let f : spelling (text ++ after) ≡ None = ap spelling (sym stands) ∙ e in
    no_find (sym h.finds ∙ f)
  where
    no_find : {x : KindAndLength} → Some x ≡ None → ⊥
    no_find e = absurd (cc)

-- where it finds a spelling, that is the token
token_here : (source : List ℕ) (i : ℕ) (kind : TokenKind) (n : ℕ) → spelling (drop i source) ≡ Some (kind, n) → (f : Front (drop i source) kind n) →
    IsTokenAt source i record { kind = kind; start = i; end = i + n; text = f.text }
token_here source i kind n e f = record {
  after = f.after;
  stands = f.stands;
  spelled = f.spelled;
  longest = λ k text rest stands s. longest k text rest stands s;
  starts = refl;
  ends = ap (λ m. i + m) (sym f.size);
}
  where
    longest : (k : TokenKind) (text rest : List ℕ) → drop i source ≡ text ++ rest → IsSpelled k text rest → length text ≤ length f.text
    longest k text rest stands s =
        let h = reaches k text rest s in
        let same = (found_same h.kind kind h.size n (sym h.finds ∙ (ap spelling (sym stands) ∙ e))).1 in
        omega (arith, f.size, h.enough)

pub token_found : (source : List ℕ) (i : ℕ) (kind : TokenKind) (n : ℕ) → IsUtf8 (drop i source) → spelling (drop i source) ≡ Some (kind, n) →
    IsTokenAt source i record { kind = kind; start = i; end = i + n; text = take n (drop i source) }
token_found source i kind n u e =
    let f = found (drop i source) kind n u e in
    let text : f.text ≡ take n (drop i source) = sym (ap (take n) f.stands ∙ take_at f.text f.after n f.size) in
    subst (λ x. IsTokenAt source i record { kind = kind; start = i; end = i + n; text = x }) text (token_here source i kind n e f)

-- ---- every text cuts, or stops somewhere

-- a beginning from i that cannot go on
pub record Stopped (source : List ℕ) (i : ℕ) : Type 0 where
  pub tokens : List Lexeme
  pub place : ℕ
  pub laid : Layout source i tokens place
  pub within : place ≤ length source
  pub stops : NothingStarts (drop place source)

stops_at : (source : List ℕ) (i : ℕ) → i ≤ length source → NothingStarts (drop i source) → Stopped source i
stops_at source i l n = record { tokens = []; place = i; laid = nothing; within = l; stops = n }

stops_behind_skip : (source : List ℕ) (i j : ℕ) → IsSkipAt source i j → Stopped source j → Stopped source i
stops_behind_skip source i j s h = record { tokens = h.tokens; place = h.place; laid = skip s h.laid; within = h.within; stops = h.stops }

stops_behind_token : (source : List ℕ) (i : ℕ) (t : Lexeme) → IsTokenAt source i t → Stopped source t.end → Stopped source i
stops_behind_token source i t s h = record { tokens = t ∷ h.tokens; place = h.place; laid = token s h.laid; within = h.within; stops = h.stops }

stops_on : (fuel : ℕ) (source : List ℕ) (i : ℕ) → length source ≤ i + suc fuel → i ≤ length source → IsUtf8 (drop i source) →
    ((j : ℕ) → length source ≤ j + fuel → j ≤ length source → IsUtf8 (drop j source) → Stopped source j) →
    SkipOrNone (drop i source) → (o : Option KindAndLength) → spelling (drop i source) ≡ o → Stopped source i
stops_on fuel source i enough l u more (skip_here text after stands s) o e =
    let at : IsSkipAt source i (i + length text) = record { text = text; after = after; stands = stands; skips = s; ends = refl } in
    let h = behind_skip source i (i + length text) u at in
    stops_behind_skip source i (i + length text) at (more (i + length text) (omega (arith, h.1)) h.2 h.0)
stops_on fuel source i enough l u more (none_here no_skip) None e =
    stops_at source i l record { no_skip = no_skip; no_spelling = none_starts (drop i source) e }
stops_on fuel source i enough l u more (none_here no_skip) (Some (kind, n)) e =
    let at = token_found source i kind n u e in
    let h = behind_token source i record { kind = kind; start = i; end = i + n; text = take n (drop i source) } u at in
    stops_behind_token source i record { kind = kind; start = i; end = i + n; text = take n (drop i source) } at (more (i + n) (omega (arith, h.1)) h.2 h.0)

pub stops : (fuel : ℕ) (source : List ℕ) (i : ℕ) → length source ≤ i + fuel → i ≤ length source → IsUtf8 (drop i source) → Stopped source i
stops zero source i enough l u = stops_at source i l (subst (λ n. NothingStarts (drop n source)) (omega arith) (nothing_at_end source))
stops (suc fuel) source i enough l u =
    stops_on fuel source i enough l u (λ j. stops fuel source j) (skip_or_none (drop i source) u) (spelling (drop i source)) refl

-- ---- places

-- along a beginning, texts begin where it does and stop where it does
pub laid_utf8 : {source : List ℕ} {ts : List Lexeme} {i j : ℕ} → Layout source i ts j → i ≤ length source → IsUtf8 (drop i source) → IsUtf8 (drop j source) × (i ≤ j) × (j ≤ length source)
laid_utf8 nothing l u = (u, omega arith, l)
laid_utf8 {source = source} (skip {i = i} {j = j} s more) l u =
    let h = behind_skip source i j u s in
    let g = laid_utf8 more h.2 h.0 in
    (g.0, omega (arith, g.1, h.1), g.2)
laid_utf8 {source = source} (token {i = i} {t = t} s more) l u =
    let h = behind_token source i t u s in
    let g = laid_utf8 more h.2 h.0 in
    (g.0, omega (arith, g.1, h.1), g.2)
