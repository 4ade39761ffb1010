-- The pieces of a text, and what is told of them, one by one.
use Rattle.std.proofs.Common.{◌≡◌, ◌<◌, ℕ, suc, ◌+◌, ◌-◌, List, [], ◌∷◌, ◌++◌, append-nil, append_assoc, sym, ap, subst, ◌∙◌, Option, Some, None, Result, Ok, Err, IfSome, OnOk, MatchOption, arith, length, take, get_or}
use Rattle.std.specs.List.{AllZip}
use Rattle.std.specs.Option.{option_map}
use Rattle.std.proofs.lemmas.List.{take_more}
use Rattle.std.proofs.lemmas.List.Elements.{AllZip-push}
use Rattle.cedar_syntax.specs.faults.ParseErrors.{faults_of}
use Rattle.cedar_syntax.specs.declared.err.faults.ParseErrors.{ParseErrors}
use Rattle.cedar_conversion.specs.strict.Extensions.{Extensions}
use Rattle.cedar_report.specs.declared.behind.Piece.{Piece}
use Rattle.cedar_report.specs.declared.finding.Finding.{Finding}
use Rattle.cedar_report.specs.Findings.{AreTold}
use Rattle.cedar_report.specs.Behind.{MeansOrRefuses, IsMoved, IsNextPolicy, IsPiece, ArePieces, whole, ended, next, TellsPiece, meant, refused, TellsPieces, nothing, more}

-- how many bytes stand behind a place, or one more
abbrev pub left_behind : ℕ → Option ℕ → ℕ
left_behind end None = 0
left_behind end (Some place) = suc (end - place)

-- the pieces so far, and whatever pieces stand behind the last
abbrev pub ArePiecesSoFar : List ℕ → Option ℕ → List Piece → Option ℕ → Type 0
ArePiecesSoFar text first pieces place = (rest : List Piece) → ArePieces text place rest → ArePieces text first (pieces ++ rest)

-- what is found behind a place: the next piece, or none
abbrev pub IsFound : List ℕ → ℕ → Option Piece → Type 0
IsFound text place found = MatchOption found (IsNextPolicy text place None) (λ piece. IsNextPolicy text place (Some piece.start) × IsPiece text piece)

pub one_piece : (text : List ℕ) (first : Option ℕ) (pieces all : List Piece) (bad : Option ℕ) (place : ℕ) (found : Option Piece) (piece : Piece) (behind : Option ℕ) → ArePiecesSoFar text first pieces bad → bad ≡ Some place
    → IsFound text place found → found ≡ Some piece → behind ≡ option_map (λ bad. piece.start + bad) piece.bad_place → all ≡ pieces ++ piece ∷ [] → ArePiecesSoFar text first all behind
one_piece text first pieces all bad place found piece behind so_far b f i e a = λ rest are.
    let here : IsFound text place (Some piece) = subst (λ (x : Option Piece). IsFound text place x) i f in
    let on : ArePiecesSoFar text first pieces (Some place) = subst (λ (x : Option ℕ). ArePiecesSoFar text first pieces x) b so_far in
    let whole : all ++ rest ≡ pieces ++ (piece ∷ rest) = ap (λ x. x ++ rest) a ∙ append_assoc pieces (piece ∷ []) rest in
    subst (λ (x : List Piece). ArePieces text first x) (sym whole) (on (piece ∷ rest) (next here.0 here.1 (subst (λ (x : Option ℕ). ArePieces text x rest) e are)))

pieces_end : (text : List ℕ) (first : Option ℕ) (pieces : List Piece) (place : Option ℕ) → ArePiecesSoFar text first pieces place → ArePieces text place [] → ArePieces text first pieces
pieces_end text first pieces place so_far e = subst (λ (x : List Piece). ArePieces text first x) (append-nil pieces) (so_far [] e)

-- no policy begins behind the last bad place
pub no_piece : (text : List ℕ) (first : Option ℕ) (pieces : List Piece) (bad : Option ℕ) (place : ℕ) (found : Option Piece) → ArePiecesSoFar text first pieces bad → bad ≡ Some place → IsFound text place found → found ≡ None → ArePieces text first pieces
no_piece text first pieces bad place found so_far b f i =
    pieces_end text first pieces bad so_far (subst (λ (x : Option ℕ). ArePieces text x []) (sym b) (ended (subst (λ (x : Option Piece). IsFound text place x) i f)))

-- there is no other bad place
pub no_bad_place : (text : List ℕ) (first : Option ℕ) (pieces : List Piece) (bad : Option ℕ) → ArePiecesSoFar text first pieces bad → bad ≡ None → ArePieces text first pieces
no_bad_place text first pieces bad so_far b = pieces_end text first pieces bad so_far (subst (λ (x : Option ℕ). ArePieces text x []) (sym b) whole)

left_of : (end start : ℕ) (bad : Option ℕ) (place : ℕ) → place < start → IfSome bad (λ b. start + b < end) → left_behind end (option_map (λ b. start + b) bad) < suc (end - place)
left_of end start (Some b) place l h = omega (arith, h)
left_of end start None place l h = omega arith

-- each piece leaves less behind it
pub less_behind : (end : ℕ) (bad : Option ℕ) (place : ℕ) (found : Option Piece) (piece : Piece) (behind : Option ℕ) → bad ≡ Some place → found ≡ Some piece → IfSome found (λ p. place < p.start) → IfSome found (λ p. IfSome p.bad_place (λ b. p.start + b < end))
    → behind ≡ option_map (λ b. piece.start + b) piece.bad_place → left_behind end behind < left_behind end bad
less_behind end bad place found piece behind b f o w e =
    let onward : place < piece.start = subst (λ (x : Option Piece). IfSome x (λ p. place < p.start)) f o in
    let within : IfSome piece.bad_place (λ b. piece.start + b < end) = subst (λ (x : Option Piece). IfSome x (λ p. IfSome p.bad_place (λ b. p.start + b < end))) f w in
    rw (e, b) (left_of end piece.start piece.bad_place place onward within)

-- one finding more of a piece
pub moved_more : (text : List ℕ) (start : ℕ) (first before now told : List Finding) (from to : Finding) → (moved : List Finding) × (before ≡ first ++ moved) × AllZip (IsMoved text start) told moved → IsMoved text start from to
    → now ≡ before ++ to ∷ [] → (moved : List Finding) × (now ≡ first ++ moved) × AllZip (IsMoved text start) (told ++ from ∷ []) moved
moved_more text start first before now told from to h m e = (
  h.0 ++ to ∷ [],
  e ∙ ap (λ x. x ++ to ∷ []) h.1 ∙ append_assoc first h.0 (to ∷ []),
  AllZip-push (IsMoved text start) told h.0 from to h.2 m,
)

-- what is told of a piece that means policies, and of one that is refused
pub nothing_told : (table : Extensions) (text : List ℕ) (piece : Piece) (found : Option ParseErrors) (first : List Finding) → MeansOrRefuses table piece.text.now found → found ≡ None
    → (rest : List Finding) × (first ≡ first ++ rest) × TellsPiece table text piece rest
nothing_told table text piece found first h e =
    ([], sym (append-nil first), meant (subst (λ (x : Option ParseErrors). MeansOrRefuses table piece.text.now x) e h))

pub faults_told : {E : Type 0} (answer : Result (Unit {0}) E) (table : Extensions) (text : List ℕ) (piece : Piece) (found : Option ParseErrors) (faults : ParseErrors) (told first all : List Finding)
    → MeansOrRefuses table piece.text.now found → found ≡ Some faults → AreTold piece.text.now (faults_of faults) told
    → OnOk answer ((moved : List Finding) × (all ≡ first ++ moved) × AllZip (IsMoved text piece.start) told moved)
    → OnOk answer ((rest : List Finding) × (all ≡ first ++ rest) × TellsPiece table text piece rest)
faults_told (Ok x) table text piece found faults told first all h e t m =
    (m.0, m.1, refused faults told (subst (λ (x : Option ParseErrors). MeansOrRefuses table piece.text.now x) e h) t m.2)
faults_told (Err x) table text piece found faults told first all h e t m = tt

-- what is told behind the pieces so far
told_push : {table : Extensions} {text : List ℕ} {pieces : List Piece} {before : List Finding} (piece : Piece) (told : List Finding) → TellsPieces table text pieces before → TellsPiece table text piece told → TellsPieces table text (pieces ++ piece ∷ []) (before ++ told)
told_push {table = table} {text = text} piece told nothing t = subst (λ (x : List Finding). TellsPieces table text (piece ∷ []) x) (append-nil told) (more t nothing)
told_push {table = table} {text = text} piece told (more {piece = p} {pieces = ps} {first = first} {rest = rest} h k) t =
    subst (λ (x : List Finding). TellsPieces table text (p ∷ (ps ++ piece ∷ [])) x) (sym (append_assoc first rest told)) (more h (told_push piece told k t))

pub none_told : (table : Extensions) (text : List ℕ) (first : List Finding) → (rest : List Finding) × (first ≡ first ++ rest) × TellsPieces table text [] rest
none_told table text first = ([], sym (append-nil first), nothing)

pub one_told : (table : Extensions) (text : List ℕ) (pieces : List Piece) (i : ℕ) (piece default : Piece) (first before now : List Finding) → i < length pieces → piece ≡ get_or pieces i default
    → (rest : List Finding) × (before ≡ first ++ rest) × TellsPieces table text (take i pieces) rest → (told : List Finding) × (now ≡ before ++ told) × TellsPiece table text piece told
    → (rest : List Finding) × (now ≡ first ++ rest) × TellsPieces table text (take (i + 1) pieces) rest
one_told table text pieces i piece default first before now l e h t =
    let taken : take i pieces ++ piece ∷ [] ≡ take (i + 1) pieces = ap (λ x. take i pieces ++ x ∷ []) e ∙ sym (take_more pieces i default l) in (
      h.0 ++ t.0,
      t.1 ∙ ap (λ x. x ++ t.0) h.1 ∙ append_assoc first h.0 t.0,
      subst (λ (x : List Piece). TellsPieces table text x (h.0 ++ t.0)) taken (told_push piece t.0 h.2 t.2),
    )
