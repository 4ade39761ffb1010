-- Tokens of a cut stand one behind the other, so that the place of some of them lies within that
-- of all; and each is spelled as its kind is.
use Rattle.std.proofs.Common.{◌≡◌, ℕ, ◌≤◌, List, [], ◌∷◌, ◌++◌, Some, refl, sym, ap, subst, arith}
use Rattle.cedar_lexer.specs.Token.{Lexeme}
use Rattle.cedar_lexer.specs.declared.token.TokenKind.{TokenKind}
use Rattle.cedar_lexer.specs.Cut.{Layout, nothing, skip, token}
use Rattle.cedar_lexer.specs.Spelling.{Spells}
use Rattle.cedar_grammar.specs.declared.reading.extent.Extent.{Extent}
use Rattle.cedar_grammar.specs.grammar.Place.{joint_extent, extent_of, extent, loc_at}
use Rattle.cedar_syntax.specs.tokens.Tokens.{Spot, one}
use Rattle.cedar_grammar.proofs.Lying.{Some_of}
use Rattle.cedar_policy_parser.proofs.standing.Standing.{Origin, parsed, LiesIn}

-- each token is spelled as its kind is
abbrev pub Spelled : List Lexeme → Type 0
Spelled [] = Unit {0}
Spelled (t ∷ ts) = Spells t.kind t.text × Spelled ts

spelled_parts : (ts us : List Lexeme) → Spelled (ts ++ us) → Spelled ts × Spelled us
spelled_parts [] us h = (tt, h)
spelled_parts (t ∷ ts) us h = let r = spelled_parts ts us h.1 in ((h.0, r.0), r.1)

pub laid_spelled : {src : List ℕ} {i k : ℕ} {ts : List Lexeme} → Layout src i ts k → Spelled ts
laid_spelled nothing = tt
laid_spelled (skip s more) = laid_spelled more
laid_spelled (token s more) = (s.spelled.spells, laid_spelled more)

-- from i to k tokens stand one behind the other
abbrev pub InOrder : ℕ → List Lexeme → ℕ → Type 0
InOrder i [] k = i ≤ k
InOrder i (t ∷ ts) k = (i ≤ t.start) × (t.start ≤ t.end) × InOrder t.end ts k

earlier : (i j : ℕ) (ts : List Lexeme) (k : ℕ) → i ≤ j → InOrder j ts k → InOrder i ts k
earlier i j [] k h r = omega arith
earlier i j (t ∷ ts) k h r = let a = r.0 in (omega arith, r.1, r.2)

pub laid_in_order : {src : List ℕ} {i k : ℕ} {ts : List Lexeme} → Layout src i ts k → InOrder i ts k
laid_in_order nothing = omega arith
laid_in_order {k = k} {ts = ts} (skip {i = i} {j = j} s more) = let a = s.ends in earlier i j ts k (omega arith) (laid_in_order more)
laid_in_order (token {i = i} {t = t} s more) = let a = s.starts in let b = s.ends in (omega arith, omega arith, laid_in_order more)

split : (i : ℕ) (ts us : List Lexeme) (k : ℕ) → InOrder i (ts ++ us) k → (j : ℕ) × InOrder i ts j × InOrder j us k
split i [] us k h = (i, omega arith, h)
split i (t ∷ ts) us k h = let r = split t.end ts us k h.2 in (r.0, (h.0, h.1, r.1), r.2)

-- the bytes that tokens take
record Bytes (i : ℕ) (ts : List Lexeme) (k : ℕ) : Type 0 where
  pub bytes : Extent
  pub is : extent ts ≡ Some bytes
  pub from : i ≤ bytes.start
  pub goes : bytes.start ≤ bytes.end
  pub to : bytes.end ≤ k
  pub order : InOrder bytes.start ts bytes.end

taken : (i : ℕ) (ts : List Lexeme) (k : ℕ) → InOrder i ts k → Some_of ts → Bytes i ts k
taken i [] k h s = absurd s
taken i (t ∷ []) k h s = let a = h.1 in record { bytes = extent_of t; is = refl; from = h.0; goes = h.1; to = h.2; order = (omega arith, h.1, omega arith) }
taken i (t ∷ u ∷ ts) k h s =
    let r = taken t.end (u ∷ ts) k h.2 tt in
    let a = h.1 in let b = r.from in let c = r.goes in
    record {
      bytes = record { start = t.start; end = r.bytes.end };
      is = ap (λ q. joint_extent (Some (extent_of t)) q) r.is;
      from = h.0;
      goes = omega arith;
      to = r.to;
      order = (omega arith, h.1, earlier t.end r.bytes.start (u ∷ ts) r.bytes.end r.from r.order);
    }

-- tokens among those that stand from `low` to `high`, whose place is w
pub record Fits (w : Origin) (src : List ℕ) (ts : List Lexeme) : Type 0 where
  pub low : ℕ
  pub high : ℕ
  pub is : w ≡ parsed (loc_at src (Some record { start = low; end = high }))
  pub from : ℕ
  pub to : ℕ
  pub above : low ≤ from
  pub below : to ≤ high
  pub order : InOrder from ts to
  pub spelled : Spelled ts

on : (i : ℕ) (ts : List Lexeme) (k : ℕ) → InOrder i ts k → i ≤ k
on i [] k h = h
on i (t ∷ ts) k h = let e = on t.end ts k h.2 in let a = h.0 in let b = h.1 in omega arith

pub parts : (w : Origin) (src : List ℕ) (ts us : List Lexeme) → Fits w src (ts ++ us) → Fits w src ts × Fits w src us
parts w src ts us h =
    let s = split h.from ts us h.to h.order in
    let v = spelled_parts ts us h.spelled in
    let a = h.above in let b = h.below in let c = on h.from ts s.0 s.1 in let d = on s.0 us h.to s.2 in (
      record { low = h.low; high = h.high; is = h.is; from = h.from; to = s.0; above = h.above; below = omega arith; order = s.1; spelled = v.0 },
      record { low = h.low; high = h.high; is = h.is; from = s.0; to = h.to; above = omega arith; below = h.below; order = s.2; spelled = v.1 },
    )

-- tokens before an operator, and behind it
pub around : (w : Origin) (src : List ℕ) (ts us : List Lexeme) (k : TokenKind) (p : Spot) → Fits w src (ts ++ one k p ++ us) → Fits w src ts × Fits w src us
around w src ts us k p h = let a = parts w src (ts ++ one k p) us h in ((parts w src ts (one k p) a.0).0, a.1)

-- and in brackets
pub inside : (w : Origin) (src : List ℕ) (ts : List Lexeme) (k j : TokenKind) (l m : Spot) → Fits w src (one k l ++ ts ++ one j m) → Fits w src ts
inside w src ts k j l m h = (parts w src (one k l) ts (parts w src (one k l ++ ts) (one j m) h).0).1

inner : (src : List ℕ) (low high : ℕ) (b : Extent) → low ≤ b.start → b.start ≤ b.end → b.end ≤ high → LiesIn (parsed (loc_at src (Some record { start = low; end = high }))) (loc_at src (Some b))
inner src low high b h g k = (refl, h, omega arith)

-- their place lies within
pub within : (w : Origin) (src : List ℕ) (ts : List Lexeme) → Fits w src ts → Some_of ts → LiesIn w (loc_at src (extent ts))
within w src ts h s =
    let r = taken h.from ts h.to h.order s in
    let a = h.above in let b = h.below in let c = r.from in let d = r.to in
    subst (λ v. LiesIn v (loc_at src (extent ts))) (sym h.is)
    (subst (λ e. LiesIn (parsed (loc_at src (Some record { start = h.low; end = h.high }))) (loc_at src e)) (sym r.is) (inner src h.low h.high r.bytes (omega arith) r.goes (omega arith)))

-- tokens within their own place
own_place : (src : List ℕ) (i k : ℕ) (ts : List Lexeme) → InOrder i ts k → Spelled ts → Some_of ts → Fits (parsed (loc_at src (extent ts))) src ts
own_place src i k ts h v s =
    let r = taken i ts k h s in
    record {
      low = r.bytes.start;
      high = r.bytes.end;
      is = ap (λ e. parsed (loc_at src e)) r.is;
      from = r.bytes.start;
      to = r.bytes.end;
      above = omega arith;
      below = omega arith;
      order = r.order;
      spelled = v;
    }

pub own_fit : (w : Origin) (src : List ℕ) (ts : List Lexeme) → Fits w src ts → Some_of ts → Fits (parsed (loc_at src (extent ts))) src ts
own_fit w src ts h s = own_place src h.from h.to ts h.order h.spelled s

-- all tokens of a cut, of which there are some
pub all_fit : (src : List ℕ) (i k : ℕ) (ts : List Lexeme) → Layout src i ts k → Some_of ts → Fits (parsed (loc_at src (extent ts))) src ts
all_fit src i k ts h s = own_place src i k ts (laid_in_order h) (laid_spelled h) s
