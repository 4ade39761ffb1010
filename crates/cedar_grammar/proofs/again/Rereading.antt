-- What a list of words is read as, wherever its tokens stand: the forms that rules have in common.
use Rattle.std.proofs.Common.{◌≡◌, ℕ, List, [], ◌∷◌, ◌++◌, refl, sym, ap, ap₂, ◌∙◌, subst, append_assoc}
use Rattle.cedar_lexer.specs.declared.token.TokenKind.{TokenKind}
use Rattle.cedar_lexer.specs.Token.{Lexeme}
use Rattle.cedar_grammar.specs.grammar.Grammar.{Rule}
use Rattle.cedar_syntax.specs.printing.Printed.{Texts, printed}
use Rattle.cedar_syntax.specs.trees.Tree.{Tree}
use Rattle.cedar_syntax.specs.tokens.Tokens.{Spot, one}
use Rattle.cedar_lexer.specs.Words.{TokenText, written, words_of, texts_of, AreSpelled}
use Rattle.cedar_grammar.specs.printing.SameWords.{Again}

abbrev pub AllSpelled : List Lexeme → Type 0
AllSpelled ts = AreSpelled (words_of ts)

-- a tree's printed words are spellings, and tokens with these words have a tree that is the same
-- up to places
pub record PrintsAgain {X F : Type 0} (R : Rule X) (bare : X → F) (tree : X → Tree) (x : X) : Type 0 where
  pub words : List TokenText
  pub spelled : AreSpelled words
  pub prints : texts_of words ≡ printed (tree x)
  pub again : (src : List ℕ) (us : List Lexeme) → words_of us ≡ words → Again R bare (bare x) src us

-- ---- words and tokens

pub words-append : (ts us : List Lexeme) → words_of (ts ++ us) ≡ words_of ts ++ words_of us
words-append [] us = refl
words-append (t ∷ ts) us = ap (λ ws. written t ∷ ws) (words-append ts us)

pub texts-append : (ws vs : List TokenText) → texts_of (ws ++ vs) ≡ texts_of ws ++ texts_of vs
texts-append [] vs = refl
texts-append (w ∷ ws) vs = ap (λ xs. w.text ∷ xs) (texts-append ws vs)

pub both_spelled : (ws vs : List TokenText) → AreSpelled ws → AreSpelled vs → AreSpelled (ws ++ vs)
both_spelled [] vs h k = k
both_spelled (w ∷ ws) vs h k = (h.0, both_spelled ws vs h.1 k)

pub halves : (ts us : List Lexeme) → AreSpelled (words_of (ts ++ us)) → AreSpelled (words_of ts) × AreSpelled (words_of us)
halves [] us h = (tt, h)
halves (t ∷ ts) us h = let r = halves ts us h.1 in ((h.0, r.0), r.1)

-- what stands around an operator, and in brackets

pub first_half : (ts us : List Lexeme) → AllSpelled (ts ++ us) → AllSpelled ts
first_half ts us s = (halves ts us s).0

pub second_half : (ts us : List Lexeme) → AllSpelled (ts ++ us) → AllSpelled us
second_half ts us s = (halves ts us s).1

pub left_of : (ts us : List Lexeme) (k : TokenKind) (p : Spot) → AllSpelled (ts ++ one k p ++ us) → AllSpelled ts
left_of ts us k p s = first_half ts (one k p) (first_half (ts ++ one k p) us s)

pub right_of : (ts us : List Lexeme) (k : TokenKind) (p : Spot) → AllSpelled (ts ++ one k p ++ us) → AllSpelled us
right_of ts us k p s = second_half (ts ++ one k p) us s

pub inside : (j k : TokenKind) (p q : Spot) (ts : List Lexeme) → AllSpelled (one j p ++ ts ++ one k q) → AllSpelled ts
inside j k p q ts s = second_half (one j p) ts (first_half (one j p ++ ts) (one k q) s)

-- tokens taken apart where their words are
pub record Halves (us : List Lexeme) (ws vs : List TokenText) : Type 0 where
  pub front : List Lexeme
  pub back : List Lexeme
  pub is : us ≡ front ++ back
  pub before : words_of front ≡ ws
  pub behind : words_of back ≡ vs

first_is : {w v : TokenText} {ws vs : List TokenText} → w ∷ ws ≡ v ∷ vs → w ≡ v
first_is e = cc

rest_is : {w v : TokenText} {ws vs : List TokenText} → w ∷ ws ≡ v ∷ vs → ws ≡ vs
rest_is e = cc

pub split : (ws vs : List TokenText) (us : List Lexeme) → words_of us ≡ ws ++ vs → Halves us ws vs
split [] vs us e = record { front = []; back = us; is = refl; before = refl; behind = e }
split (w ∷ ws) vs [] e = absurd (cc)
split (w ∷ ws) vs (t ∷ ts) e =
    let h = split ws vs ts (rest_is e) in
    record { front = t ∷ h.front; back = h.back; is = ap (λ xs. t ∷ xs) h.is; before = ap₂ (λ (a : TokenText) (b : List TokenText). a ∷ b) (first_is e) h.before; behind = h.behind }

-- one token, and those behind it
pub record First (us : List Lexeme) (w : TokenText) (vs : List TokenText) : Type 0 where
  pub spot : Spot
  pub back : List Lexeme
  pub is : us ≡ one w.kind spot ++ back
  pub text : spot.text ≡ w.text
  pub behind : words_of back ≡ vs

abbrev token : Lexeme → TokenKind → Lexeme
token t k = record { kind = k; start = t.start; end = t.end; text = t.text }

pub first : (w : TokenText) (vs : List TokenText) (us : List Lexeme) → words_of us ≡ w ∷ vs → First us w vs
first w vs [] e = absurd (cc)
first w vs (t ∷ ts) e = record {
  spot = record { start = t.start; end = t.end; text = t.text };
  back = ts;
  is = ap (λ k. token t k ∷ ts) (ap (λ (v : TokenText). v.kind) (first_is e));
  text = ap (λ (v : TokenText). v.text) (first_is e);
  behind = rest_is e;
}

none_left : (us : List Lexeme) → words_of us ≡ [] → us ≡ []
none_left [] e = refl
none_left (t ∷ ts) e = absurd (cc)

-- ---- what words are read as

abbrev pub ReadAs : {X F : Type 0} → Rule X → (X → F) → F → List TokenText → Type 0
ReadAs R bare f ws = (src : List ℕ) (us : List Lexeme) → words_of us ≡ ws → Again R bare f src us

-- by a rule that takes the same tokens
pub same_as : {X Y F G : Type 0} {R : Rule X} {S : Rule Y} {bx : X → F} {by : Y → G} {a : F} {b : G} {ws : List TokenText}
    → ((src : List ℕ) (ts : List Lexeme) → Again R bx a src ts → Again S by b src ts) → ReadAs R bx a ws → ReadAs S by b ws
same_as rule h src us e = rule src us (h src us e)

-- two parts with a token between them
pub infix_as : {X Y Z F G H : Type 0} {R : Rule X} {S : Rule Y} {T : Rule Z} {bx : X → F} {by : Y → G} {bz : Z → H} {a : F} {b : G} {c : H} {ws vs : List TokenText} (w : TokenText)
    → ((src : List ℕ) (ts us : List Lexeme) (p : Spot) → p.text ≡ w.text → Again R bx a src ts → Again S by b src us → Again T bz c src (ts ++ one w.kind p ++ us))
    → ReadAs R bx a ws → ReadAs S by b vs → ReadAs T bz c (ws ++ (w ∷ vs))
infix_as {T = T} {bz = bz} {c = c} {ws = ws} {vs = vs} w rule h k src us e =
    let s = split ws (w ∷ vs) us e in
    let t = first w vs s.back s.behind in
    let is : s.front ++ one w.kind t.spot ++ t.back ≡ us = append_assoc s.front (one w.kind t.spot) t.back ∙ ap (λ xs. s.front ++ xs) (sym t.is) ∙ sym s.is in
    subst (λ xs. Again T bz c src xs) is (rule src s.front t.back t.spot t.text (h src s.front s.before) (k src t.back t.behind))

-- two parts one behind the other
pub beside_as : {X Y Z F G H : Type 0} {R : Rule X} {S : Rule Y} {T : Rule Z} {bx : X → F} {by : Y → G} {bz : Z → H} {a : F} {b : G} {c : H} {ws vs : List TokenText}
    → ((src : List ℕ) (ts us : List Lexeme) → Again R bx a src ts → Again S by b src us → Again T bz c src (ts ++ us))
    → ReadAs R bx a ws → ReadAs S by b vs → ReadAs T bz c (ws ++ vs)
beside_as {T = T} {bz = bz} {c = c} {ws = ws} {vs = vs} rule h k src us e =
    let s = split ws vs us e in
    subst (λ xs. Again T bz c src xs) (sym s.is) (rule src s.front s.back (h src s.front s.before) (k src s.back s.behind))

-- one token alone
pub token_as : {Z H : Type 0} {T : Rule Z} {bz : Z → H} {c : H} (w : TokenText) → ((src : List ℕ) (p : Spot) → p.text ≡ w.text → Again T bz c src (one w.kind p)) → ReadAs T bz c (w ∷ [])
token_as {T = T} {bz = bz} {c = c} w rule src us e =
    let t = first w [] us e in
    let is : one w.kind t.spot ≡ us = ap (λ xs. one w.kind t.spot ++ xs) (sym (none_left t.back t.behind)) ∙ sym t.is in
    subst (λ xs. Again T bz c src xs) is (rule src t.spot t.text)

-- a part behind a token
pub prefix_as : {X Z F H : Type 0} {R : Rule X} {T : Rule Z} {bx : X → F} {bz : Z → H} {a : F} {c : H} {ws : List TokenText} (w : TokenText)
    → ((src : List ℕ) (ts : List Lexeme) (p : Spot) → p.text ≡ w.text → Again R bx a src ts → Again T bz c src (one w.kind p ++ ts))
    → ReadAs R bx a ws → ReadAs T bz c (w ∷ ws)
prefix_as {T = T} {bz = bz} {c = c} {ws = ws} w rule h src us e =
    let t = first w ws us e in
    subst (λ xs. Again T bz c src xs) (sym t.is) (rule src t.back t.spot t.text (h src t.back t.behind))

-- and before one
pub suffix_as : {X Z F H : Type 0} {R : Rule X} {T : Rule Z} {bx : X → F} {bz : Z → H} {a : F} {c : H} {ws : List TokenText} (w : TokenText)
    → ((src : List ℕ) (ts : List Lexeme) (p : Spot) → p.text ≡ w.text → Again R bx a src ts → Again T bz c src (ts ++ one w.kind p))
    → ReadAs R bx a ws → ReadAs T bz c (ws ++ (w ∷ []))
suffix_as {T = T} {bz = bz} {c = c} {ws = ws} w rule h src us e =
    let s = split ws (w ∷ []) us e in
    let t = first w [] s.back s.behind in
    let is : s.front ++ one w.kind t.spot ≡ us = ap (λ xs. s.front ++ (one w.kind t.spot ++ xs)) (sym (none_left t.back t.behind)) ∙ ap (λ xs. s.front ++ xs) (sym t.is) ∙ sym s.is in
    subst (λ xs. Again T bz c src xs) is (rule src s.front t.spot t.text (h src s.front s.before))

-- between two tokens
pub bracket_as : {X Z F H : Type 0} {R : Rule X} {T : Rule Z} {bx : X → F} {bz : Z → H} {a : F} {c : H} {ws : List TokenText} (w v : TokenText)
    → ((src : List ℕ) (ts : List Lexeme) (l m : Spot) → l.text ≡ w.text → m.text ≡ v.text → Again R bx a src ts → Again T bz c src (one w.kind l ++ ts ++ one v.kind m))
    → ReadAs R bx a ws → ReadAs T bz c (w ∷ (ws ++ (v ∷ [])))
bracket_as {T = T} {bz = bz} {c = c} {ws = ws} w v rule h src us e =
    let t = first w (ws ++ (v ∷ [])) us e in
    let s = split ws (v ∷ []) t.back t.behind in
    let u = first v [] s.back s.behind in
    let inner : s.front ++ one v.kind u.spot ≡ t.back = ap (λ xs. s.front ++ (one v.kind u.spot ++ xs)) (sym (none_left u.back u.behind)) ∙ ap (λ xs. s.front ++ xs) (sym u.is) ∙ sym s.is in
    let is : one w.kind t.spot ++ s.front ++ one v.kind u.spot ≡ us = ap (λ xs. one w.kind t.spot ++ xs) inner ∙ sym t.is in
    subst (λ xs. Again T bz c src xs) is (rule src s.front t.spot u.spot t.text u.text (h src s.front s.before))

-- ---- words that print a content and are read as it

pub record Reworded {X F : Type 0} (R : Rule X) (bare : X → F) (print : F → Texts) (f : F) : Type 0 where
  pub words : List TokenText
  pub spelled : AreSpelled words
  pub prints : texts_of words ≡ print f
  pub again : ReadAs R bare f words
