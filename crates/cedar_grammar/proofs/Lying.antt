-- Where tokens stand: one behind the other, on boundaries of characters, so that the bytes of some
-- of them are a place of the text.
use Rattle.std.proofs.Common.{◌≡◌, ℕ, ◌+◌, ◌-◌, ◌≤◌, List, [], ◌∷◌, ◌++◌, Option, Some, length, drop, refl, sym, ap, subst, arith}
use Rattle.std.specs.Str.{IsUtf8, IsCharBoundary}
use Rattle.std.proofs.lemmas.Str.{IsCharBoundary-from_drop}
use Rattle.cedar_lexer.specs.Token.{Lexeme}
use Rattle.cedar_lexer.specs.Cut.{Layout, nothing, skip, token}
use Rattle.cedar_lexer.proofs.Cuts.{behind_skip, behind_token}
use Rattle.cedar_grammar.specs.declared.reading.extent.Extent.{Extent}
use Rattle.cedar_grammar.specs.grammar.Place.{joint_extent, extent_of, extent, loc_at}
use Rattle.cedar_syntax.specs.trees.TreePlaces.{IsPlace}

-- from i to k tokens stand one behind the other, on boundaries of characters
abbrev pub Lies : List ℕ → ℕ → List Lexeme → ℕ → Type 0
Lies src i [] k = i ≤ k
Lies src i (t ∷ ts) k = (i ≤ t.start) × (t.start ≤ t.end) × IsCharBoundary src t.start × IsCharBoundary src t.end × Lies src t.end ts k

-- there are tokens
abbrev pub Some_of : List Lexeme → Type 0
Some_of [] = ⊥
Some_of (t ∷ ts) = Unit {0}

pub some_append : (ts us : List Lexeme) → Some_of ts → Some_of (ts ++ us)
some_append [] us h = absurd h
some_append (t ∷ ts) us h = tt

pub split : (src : List ℕ) (i : ℕ) (ts us : List Lexeme) (k : ℕ) → Lies src i (ts ++ us) k → (j : ℕ) × Lies src i ts j × Lies src j us k
split src i [] us k h = (i, omega arith, h)
split src i (t ∷ ts) us k h = let r = split src t.end ts us k h.4 in (r.0, (h.0, h.1, h.2, h.3, r.1), r.2)

pub record Spans (src : List ℕ) (i : ℕ) (o : Option Extent) (k : ℕ) : Type 0 where
  pub bytes : Extent
  pub is : o ≡ Some bytes
  pub from : i ≤ bytes.start
  pub goes : bytes.start ≤ bytes.end
  pub to : bytes.end ≤ k
  pub begins : IsCharBoundary src bytes.start
  pub ends : IsCharBoundary src bytes.end

pub lies_on : (src : List ℕ) (i : ℕ) (ts : List Lexeme) (k : ℕ) → Lies src i ts k → i ≤ k
lies_on src i [] k h = h
lies_on src i (t ∷ ts) k h = let e = lies_on src t.end ts k h.4 in let a = h.0 in let b = h.1 in omega arith

pub spans : (src : List ℕ) (i : ℕ) (ts : List Lexeme) (k : ℕ) → Lies src i ts k → Some_of ts → Spans src i (extent ts) k
spans src i [] k h s = absurd s
spans src i (t ∷ []) k h s = record { bytes = extent_of t; is = refl; from = h.0; goes = h.1; to = h.4; begins = h.2; ends = h.3 }
spans src i (t ∷ u ∷ ts) k h s =
    let r = spans src t.end (u ∷ ts) k h.4 tt in
    let a = h.1 in let b = r.from in let c = r.goes in
    record {
      bytes = record { start = t.start; end = r.bytes.end };
      is = ap (λ q. joint_extent (Some (extent_of t)) q) r.is;
      from = h.0;
      goes = omega arith;
      to = r.to;
      begins = h.2;
      ends = r.ends;
    }

pub place_of : (src : List ℕ) (i : ℕ) (o : Option Extent) (k : ℕ) → Spans src i o k → IsPlace src (loc_at src o)
place_of src i o k s = subst (λ q. IsPlace src (loc_at src q)) (sym s.is) (refl, s.begins, subst (λ n. IsCharBoundary src n) (there s.bytes.start s.bytes.end s.goes) s.ends)
  where
    there : (a b : ℕ) → a ≤ b → b ≡ a + (b - a)
    there a b h = omega arith

pub stands : (src : List ℕ) (i : ℕ) (ts : List Lexeme) (k : ℕ) → Lies src i ts k → Some_of ts → IsPlace src (loc_at src (extent ts))
stands src i ts k h s = place_of src i (extent ts) k (spans src i ts k h s)

-- the lexer's tokens stand so

lies_earlier : (src : List ℕ) (i j : ℕ) (ts : List Lexeme) (k : ℕ) → i ≤ j → Lies src j ts k → Lies src i ts k
lies_earlier src i j [] k h r = omega arith
lies_earlier src i j (t ∷ ts) k h r = let a = r.0 in (omega arith, r.1, r.2, r.3, r.4)

pub laid_lies : {src : List ℕ} {i k : ℕ} {ts : List Lexeme} → Layout src i ts k → i ≤ length src → IsUtf8 (drop i src) → Lies src i ts k
laid_lies nothing h u = omega arith
laid_lies {src = src} {k = k} {ts = ts} (skip {i = i} {j = j} s more) h u =
    let b = behind_skip src i j u s in
    let a = b.1 in
    lies_earlier src i j ts k (omega arith) (laid_lies more b.2 b.0)
laid_lies {src = src} (token {i = i} {t = t} s more) h u =
    let b = behind_token src i t u s in
    let a = b.1 in
    let c = s.starts in
    (omega arith, omega arith, subst (λ n. IsCharBoundary src n) (sym s.starts) (IsCharBoundary-from_drop src i h u), IsCharBoundary-from_drop src t.end b.2 b.0, laid_lies more b.2 b.0)
