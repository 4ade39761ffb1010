-- Sound: what a path or an entity literal has begun has read the tokens so far.
use Rattle.std.proofs.Common.{◌≡◌, ℕ, List, [], ◌∷◌, ◌++◌, Some, Bool, true, false, refl, sym, ◌∙◌, ap, subst, append_assoc, IfSome}
use Rattle.std.proofs.lemmas.List.{append-nil}
use Rattle.cedar_lexer.specs.Token.{Lexeme}
use Rattle.cedar_lexer.specs.declared.token.TokenKind.{TokenKind}
use Rattle.cedar_lexer.specs.declared.token.TokenKind.TheVariants as kind
use Rattle.cedar_syntax.specs.declared.cst.Ident.{Ident}
use Rattle.cedar_syntax.specs.declared.cst.Ref.{Ref}
use Rattle.cedar_syntax.specs.declared.cst.Ref.TheVariants as ref
use Rattle.cedar_syntax.specs.declared.cst.RefInit.{RefInit}
use Rattle.cedar_syntax.specs.declared.cst.Literal.{Literal}
use Rattle.cedar_syntax.specs.declared.cst.Str.TheVariants as str
use Rattle.cedar_grammar.specs.declared.reading.extent.Extent.{Extent}
use Rattle.cedar_expression_machine.specs.declared.words.state.Path.{Path}
use Rattle.cedar_expression_machine.specs.declared.words.state.PathState.{PathState}
use Rattle.cedar_expression_machine.specs.declared.words.state.PathState.TheVariants as path
use Rattle.cedar_expression_machine.specs.declared.words.state.InitPlace.{InitPlace}
use Rattle.cedar_expression_machine.specs.declared.words.state.InitPlace.TheVariants as place
use Rattle.cedar_expression_machine.specs.declared.words.state.WordsState.{WordsState}
use Rattle.cedar_expression_machine.specs.declared.words.state.WordsState.TheVariants as state
use Rattle.cedar_expression_machine.specs.declared.words.state.Words.{Words}
use Rattle.cedar_grammar.specs.grammar.Place.{extent, node_at, placed}
use Rattle.cedar_syntax.specs.tokens.Tokens.{Spot, one, fits, between_quotes, any_of}
use Rattle.cedar_syntax.specs.trees.Trees.{Cell, ref_init_of}
use Rattle.cedar_grammar.specs.grammar.LooseWords.{ReadsItems, one_item, more_items, ReadsList, no_item, items, items_comma, ReadsLiteral, truth, falsity, number, string, any, ReadsRefInit, ref_init, ReadsRef, uid, with_inits}
use Rattle.cedar_expression_machine.specs.declared.words.state.PathAct.{PathAct}
use Rattle.cedar_expression_machine.specs.declared.words.state.PathAct.TheVariants as path_acts
use Rattle.cedar_expression_machine.specs.declared.words.state.InitAct.{InitAct}
use Rattle.cedar_expression_machine.specs.declared.words.state.InitAct.TheVariants as init_acts
use Rattle.cedar_expression_machine.specs.declared.words.state.WordsAct.{WordsAct}
use Rattle.cedar_expression_machine.specs.declared.words.state.WordsAct.TheVariants as words_acts
use Rattle.cedar_grammar.specs.machines.Machine.{option_image, Comes}
use Rattle.cedar_expression_machine.specs.machines.Words.{path_extent, path_begun, path_longer, path_act, path_end, path_reader, paths, path_node, entity_with_extent, uid_of, open_entity, inits_at, inits_named, number_valued, words_act, words_end, words_reader, words_machine}
use Rattle.cedar_expression_machine.specs.machines.WordsRead.{word_at, ReadsWholePath, first, further, ReadsWords, a_path, an_entity}
use Rattle.cedar_expression_machine.specs.machines.WordShapes.{init_plan, init_shape}
use Rattle.cedar_grammar.proofs.machines.Laws.{none_some, if_some}
use Rattle.cedar_grammar.proofs.machines.Extents.{at, spans, from_to}
use Rattle.cedar_grammar.proofs.machines.ByActs.{keeps}
use Rattle.cedar_grammar.proofs.machines.SingleTokens.{any_case}
use Rattle.cedar_expression_machine.proofs.machines.WordPlans.{had_case, more_case, item_case, key_case, value_case, item_had_case, image_case}
use Rattle.cedar_expression_machine.proofs.machines.Words.{token, spanned, as_path, named_is, closed_entity}

-- the tokens behind an entity literal's open brace
data BegunInits (src : List ℕ) : List Lexeme → List (Cell RefInit) → InitPlace → Type 0 where
  no_more : BegunInits src [] [] place.Item
  behind_comma : {us : List Lexeme} {ys : List (Cell RefInit)} (p : Spot) → ReadsItems src (ReadsRefInit src) us ys → BegunInits src (us ++ one kind.Comma p) ys place.Item
  key : {us : List Lexeme} {ys : List (Cell RefInit)} {i : Ident} (k : TokenKind) (p : Spot) → BegunInits src us ys place.Item → any_of k p.text ≡ Some i → BegunInits src (us ++ one k p) ys (place.Key (word_at i p))
  value : {us : List Lexeme} {ys : List (Cell RefInit)} {i : Ident} (k : TokenKind) (p q : Spot) → BegunInits src us ys place.Item → any_of k p.text ≡ Some i →
      BegunInits src (us ++ one k p ++ one kind.Colon q) ys (place.Value (word_at i p))
  behind_item : {us : List Lexeme} {ys : List (Cell RefInit)} → ReadsItems src (ReadsRefInit src) us ys → BegunInits src us ys place.Behind

data Begun (src : List ℕ) : List Lexeme → WordsState → Type 0 where
  at_start : Begun src [] (state.Path path.Start)
  has : {ts : List Lexeme} {q : Path} → ReadsWholePath src ts q → Begun src ts (state.Path (path.Have q))
  behind : {ts : List Lexeme} {q : Path} (p : Spot) → ReadsWholePath src ts q → Begun src (ts ++ one kind.ColonColon p) (state.Path (path.Behind q))
  braced : {ts us : List Lexeme} {q : Path} {ys : List (Cell RefInit)} {h : InitPlace} (p l : Spot) → ReadsWholePath src ts q → BegunInits src us ys h →
      Begun src (ts ++ one kind.ColonColon p ++ one kind.OpenBrace l ++ us) (inits_at (open_entity (path_node src q) q.start ys) h)
  whole : {ts : List Lexeme} {x : Ref} (e : Extent) → extent ts ≡ Some e → ReadsRef src ts x → Begun src ts (state.Entity (entity_with_extent src x e))

moved : {src : List ℕ} {ts us : List Lexeme} {s : WordsState} → ts ≡ us → Begun src ts s → Begun src us s
moved {src = src} {s = s} e h = subst (λ w. Begun src w s) e h

-- what an act with a token makes of a state has read the token too
abbrev After : List ℕ → List Lexeme → WordsState → TokenKind → Spot → WordsAct → Type 0
After src ts s k p a = IfSome (words_act src s a (token k p)) (λ q. Begun src ts q)

-- paths

start_begun : (src : List ℕ) (k : TokenKind) (p : Spot) (i : Ident) → any_of k p.text ≡ Some i → After src (one k p) (state.Path path.Start) k p (words_acts.Path path_acts.First)
start_begun src k p i e = subst (λ o. IfSome (option_image (λ s. state.Path s) (path_begun o (at p))) (λ q. Begun src (one k p) q)) (sym e) (has (first p e))

further_begun : {src : List ℕ} {ts : List Lexeme} {q : Path} (p : Spot) → ReadsWholePath src ts q → (k : TokenKind) (r : Spot) (i : Ident) → any_of k r.text ≡ Some i →
    After src (ts ++ one kind.ColonColon p ++ one k r) (state.Path (path.Behind q)) k r (words_acts.Path path_acts.More)
further_begun {src = src} {ts = ts} {q = q} p s k r i e =
    subst (λ o. IfSome (option_image (λ s. state.Path s) (path_longer src (path.Behind q) o (at r))) (λ q. Begun src (ts ++ one kind.ColonColon p ++ one k r) q)) (sym e) (has (further k p r s e))

uid_begun : {src : List ℕ} {ts : List Lexeme} {q : Path} (p r : Spot) → ReadsWholePath src ts q →
    Begun src (ts ++ one kind.ColonColon p ++ one kind.StringLit r) (state.Entity (uid_of src q (token kind.StringLit r)))
uid_begun {src = src} {ts = ts} {q = q} p r s =
    subst (λ w. Begun src (ts ++ one kind.ColonColon p ++ one kind.StringLit r) (state.Entity (entity_with_extent src (ref.Uid w (node_at src (Some (at r)) (str.String (between_quotes r.text)))) (from_to (path_extent q) (at r)))))
    (sym (named_is src ts q s))
    (whole (from_to (path_extent q) (at r)) (spans ts (one kind.ColonColon p) kind.StringLit r (path_extent q) (spanned s)) (uid p r (as_path s)))

more_begun : {src : List ℕ} {ts : List Lexeme} {q : Path} (p : Spot) → ReadsWholePath src ts q → (k : TokenKind) (r : Spot) (a : WordsAct) → words_reader.plan (state.Path (path.Behind q)) k ≡ Some a →
    After src (ts ++ one kind.ColonColon p ++ one k r) (state.Path (path.Behind q)) k r a
more_begun {src = src} {ts = ts} {q = q} p s k r a e =
    more_case (λ k a. After src (ts ++ one kind.ColonColon p ++ one k r) (state.Path (path.Behind q)) k r a) k r.text a e (uid_begun p r s)
    (moved (append-nil (ts ++ one kind.ColonColon p ++ one kind.OpenBrace r)) (braced p r s no_more)) (λ i f. further_begun p s k r i f)

-- braces

-- an item behind what stands before it
item_behind : {src : List ℕ} {us vs : List Lexeme} {ys : List (Cell RefInit)} {y : RefInit} → BegunInits src us ys place.Item → ReadsRefInit src vs y → BegunInits src (us ++ vs) (ys ++ placed src vs y ∷ []) place.Behind
item_behind no_more r = behind_item (one_item r)
item_behind (behind_comma p h) r = behind_item (more_items p h r)

-- the list of them
list_of : {src : List ℕ} {us : List Lexeme} {ys : List (Cell RefInit)} → BegunInits src us ys place.Item → ReadsList src (ReadsRefInit src) us ys
list_of no_more = no_item
list_of (behind_comma p h) = items_comma p h

closes : {src : List ℕ} {ts us : List Lexeme} {q : Path} {ys : List (Cell RefInit)} (p l m : Spot) → ReadsWholePath src ts q → ReadsList src (ReadsRefInit src) us ys →
    Begun src (ts ++ one kind.ColonColon p ++ one kind.OpenBrace l ++ us ++ one kind.CloseBrace m) (state.Entity (closed_entity src (path_node src q) q.start ys m))
closes {src = src} {ts = ts} {us = us} {q = q} {ys = ys} p l m r h =
    subst (λ w. Begun src (ts ++ one kind.ColonColon p ++ one kind.OpenBrace l ++ us ++ one kind.CloseBrace m) (state.Entity (entity_with_extent src (ref.Ref w ys) (from_to (path_extent q) (at m))))) (sym (named_is src ts q r))
    (whole (from_to (path_extent q) (at m)) (ap (λ v. extent v) (moved_back ts (one kind.ColonColon p) (one kind.OpenBrace l) us (one kind.CloseBrace m)) ∙ spans ts (one kind.ColonColon p ++ one kind.OpenBrace l ++ us) kind.CloseBrace m (path_extent q) (spanned r))
    (with_inits p l m (as_path r) h))
  where
    moved_back : (ts vs ws us xs : List Lexeme) → ts ++ vs ++ ws ++ us ++ xs ≡ ts ++ (vs ++ ws ++ us) ++ xs
    moved_back ts vs ws us xs = simp append_assoc

-- what stands in braces, behind all that is before it
abbrev Braced : List ℕ → List Lexeme → Spot → Spot → List Lexeme → WordsState → Type 0
Braced src ts p l us s = Begun src (ts ++ one kind.ColonColon p ++ one kind.OpenBrace l ++ us) s

abbrev AfterBrace : List ℕ → List Lexeme → Spot → Spot → List Lexeme → WordsState → TokenKind → Spot → InitAct → Type 0
AfterBrace src ts p l us s k r a = IfSome (words_act src s (words_acts.Init a) (token k r)) (λ q. Braced src ts p l us q)

named_begun : {src : List ℕ} {ts us : List Lexeme} {q : Path} {ys : List (Cell RefInit)} (p l : Spot) → ReadsWholePath src ts q → BegunInits src us ys place.Item → (k : TokenKind) (r : Spot) (i : Ident) → any_of k r.text ≡ Some i →
    AfterBrace src ts p l (us ++ one k r) (inits_at (open_entity (path_node src q) q.start ys) place.Item) k r init_acts.Key
named_begun {src = src} {ts = ts} {us = us} {q = q} {ys = ys} p l s h k r i e =
    subst (λ o. IfSome (inits_named (open_entity (path_node src q) q.start ys) o (at r)) (λ q. Braced src ts p l (us ++ one k r) q)) (sym e) (braced p l s (key k r h e))

wanted_begun : {src : List ℕ} {ts us : List Lexeme} {q : Path} {ys : List (Cell RefInit)} (p l : Spot) → ReadsWholePath src ts q → BegunInits src us ys place.Item → (k : TokenKind) (r : Spot) (a : InitAct) → init_plan (init_shape place.Item) k ≡ Some a →
    AfterBrace src ts p l (us ++ one k r) (inits_at (open_entity (path_node src q) q.start ys) place.Item) k r a
wanted_begun {src = src} {ts = ts} {us = us} {q = q} {ys = ys} p l s h k r a e =
    item_case (λ k a. AfterBrace src ts p l (us ++ one k r) (inits_at (open_entity (path_node src q) q.start ys) place.Item) k r a) k r.text a e
    (moved (append_assoc (ts ++ one kind.ColonColon p ++ one kind.OpenBrace l) us (one kind.CloseBrace r)) (closes p l r s (list_of h))) (λ i f. named_begun p l s h k r i f)

parted_begun : {src : List ℕ} {ts us : List Lexeme} {q : Path} {ys : List (Cell RefInit)} {i : Ident} (p l : Spot) → ReadsWholePath src ts q → (k : TokenKind) (r : Spot) → BegunInits src us ys place.Item → any_of k r.text ≡ Some i → (c : TokenKind) (m : Spot) (a : InitAct) →
    init_plan (init_shape (place.Key (word_at i r))) c ≡ Some a → AfterBrace src ts p l (us ++ one k r ++ one c m) (inits_at (open_entity (path_node src q) q.start ys) (place.Key (word_at i r))) c m a
parted_begun {src = src} {ts = ts} {us = us} {q = q} {ys = ys} {i = i} p l s k r h e c m a f =
    key_case (λ c a. AfterBrace src ts p l (us ++ one k r ++ one c m) (inits_at (open_entity (path_node src q) q.start ys) (place.Key (word_at i r))) c m a) c a f (braced p l s (value k r m h e))

put_begun : {src : List ℕ} {ts us vs : List Lexeme} {q : Path} {ys : List (Cell RefInit)} {i : Ident} {v : Literal} (p l : Spot) → ReadsWholePath src ts q → (k : TokenKind) (r c : Spot) → BegunInits src us ys place.Item → any_of k r.text ≡ Some i →
    ReadsLiteral src vs v →
    Begun src (ts ++ one kind.ColonColon p ++ one kind.OpenBrace l ++ (us ++ one k r ++ one kind.Colon c ++ vs)) (inits_at (open_entity (path_node src q) q.start (ys ++ placed src (one k r ++ one kind.Colon c ++ vs) (ref_init_of (placed src (one k r) i) (placed src vs v)) ∷ [])) place.Behind)
put_begun {src = src} {ts = ts} {us = us} {vs = vs} p l s k r c h e w =
    moved (ap (λ z. ts ++ one kind.ColonColon p ++ one kind.OpenBrace l ++ z) (simp append_assoc)) (braced p l s (item_behind h (ref_init c (any r e) w)))

number_begun : {src : List ℕ} {ts us : List Lexeme} {q : Path} {ys : List (Cell RefInit)} {i : Ident} (p l : Spot) → ReadsWholePath src ts q → (k : TokenKind) (r c : Spot) → BegunInits src us ys place.Item → any_of k r.text ≡ Some i → (m : Spot) (b : Bool) →
    fits m.text ≡ b → IfSome (number_valued src (open_entity (path_node src q) q.start ys) (place.Value (word_at i r)) b (token kind.Number m)) (λ q. Braced src ts p l (us ++ one k r ++ one kind.Colon c ++ one kind.Number m) q)
number_begun p l s k r c h e m true f = put_begun p l s k r c h e (number m f)
number_begun p l s k r c h e m false f = tt

value_begun : {src : List ℕ} {ts us : List Lexeme} {q : Path} {ys : List (Cell RefInit)} {i : Ident} (p l : Spot) → ReadsWholePath src ts q → (k : TokenKind) (r c : Spot) → BegunInits src us ys place.Item → any_of k r.text ≡ Some i → (d : TokenKind) (m : Spot) (a : InitAct) →
    init_plan (init_shape (place.Value (word_at i r))) d ≡ Some a → AfterBrace src ts p l (us ++ one k r ++ one kind.Colon c ++ one d m) (inits_at (open_entity (path_node src q) q.start ys) (place.Value (word_at i r))) d m a
value_begun {src = src} {ts = ts} {us = us} {q = q} {ys = ys} {i = i} p l s k r c h e d m a f =
    value_case (λ d a. AfterBrace src ts p l (us ++ one k r ++ one kind.Colon c ++ one d m) (inits_at (open_entity (path_node src q) q.start ys) (place.Value (word_at i r))) d m a) d a f
    (put_begun p l s k r c h e (truth m)) (put_begun p l s k r c h e (falsity m)) (number_begun p l s k r c h e m (fits m.text) refl) (put_begun p l s k r c h e (string m))

item_begun : {src : List ℕ} {ts us : List Lexeme} {q : Path} {ys : List (Cell RefInit)} (p l : Spot) → ReadsWholePath src ts q → ReadsItems src (ReadsRefInit src) us ys → (k : TokenKind) (r : Spot) (a : InitAct) → init_plan (init_shape place.Behind) k ≡ Some a →
    AfterBrace src ts p l (us ++ one k r) (inits_at (open_entity (path_node src q) q.start ys) place.Behind) k r a
item_begun {src = src} {ts = ts} {us = us} {q = q} {ys = ys} p l s h k r a e =
    item_had_case (λ k a. AfterBrace src ts p l (us ++ one k r) (inits_at (open_entity (path_node src q) q.start ys) place.Behind) k r a) k a e (braced p l s (behind_comma r h))
    (moved (append_assoc (ts ++ one kind.ColonColon p ++ one kind.OpenBrace l) us (one kind.CloseBrace r)) (closes p l r s (items h)))

abbrev spot : Lexeme → Spot
spot t = record { start = t.start; end = t.end; text = t.text }

inits_begun : {src : List ℕ} {ts us : List Lexeme} {q : Path} {ys : List (Cell RefInit)} {h : InitPlace} (p l : Spot) → ReadsWholePath src ts q → BegunInits src us ys h → (t : Lexeme) (a : InitAct) → init_plan (init_shape h) t.kind ≡ Some a →
    AfterBrace src ts p l (us ++ t ∷ []) (inits_at (open_entity (path_node src q) q.start ys) h) t.kind (spot t) a
inits_begun p l s no_more t a f = wanted_begun p l s no_more t.kind (spot t) a f
inits_begun p l s (behind_comma r h) t a f = wanted_begun p l s (behind_comma r h) t.kind (spot t) a f
inits_begun p l s (key k r h e) t a f = parted_begun p l s k r h e t.kind (spot t) a f
inits_begun p l s (value k r c h e) t a f = value_begun p l s k r c h e t.kind (spot t) a f
inits_begun p l s (behind_item h) t a f = item_begun p l s h t.kind (spot t) a f

-- a token

abbrev AfterToken : List ℕ → List Lexeme → WordsState → Lexeme → WordsAct → Type 0
AfterToken src ts s t a = IfSome (words_act src s a t) (λ q. Begun src (ts ++ t ∷ []) q)

braced_begun : {src : List ℕ} {ts us : List Lexeme} {q : Path} {ys : List (Cell RefInit)} {h : InitPlace} (p l : Spot) → ReadsWholePath src ts q → BegunInits src us ys h → (t : Lexeme) (a : InitAct) → init_plan (init_shape h) t.kind ≡ Some a →
    AfterToken src (ts ++ one kind.ColonColon p ++ one kind.OpenBrace l ++ us) (inits_at (open_entity (path_node src q) q.start ys) h) t (words_acts.Init a)
braced_begun {src = src} {ts = ts} {us = us} {q = q} {ys = ys} {h = h} p l r g t a f =
    subst (λ w. IfSome (words_act src (inits_at (open_entity (path_node src q) q.start ys) h) (words_acts.Init a) t) (λ q. Begun src w q)) (simp append_assoc) (inits_begun p l r g t a f)

act_begun : {src : List ℕ} {ts : List Lexeme} {s : WordsState} → Begun src ts s → (t : Lexeme) (a : WordsAct) → words_reader.plan s t.kind ≡ Some a → AfterToken src ts s t a
act_begun {src = src} at_start t a e = any_case (λ a. AfterToken src [] (state.Path path.Start) t a) t.kind t.text (words_acts.Path path_acts.First) a e (λ i f. start_begun src t.kind (spot t) i f)
act_begun {src = src} (has {ts = ts} {q = q} r) t a e = had_case (λ k a. After src (ts ++ one k (spot t)) (state.Path (path.Have q)) k (spot t) a) t.kind (words_acts.Path path_acts.Colons) a e (behind (spot t) r)
act_begun (behind p r) t a e = more_begun p r t.kind (spot t) a e
act_begun {src = src} (braced {ts = ts} {us = us} {q = q} {ys = ys} {h = h} p l r g) t a e =
    image_case (λ a. words_acts.Init a) (λ a. AfterToken src (ts ++ one kind.ColonColon p ++ one kind.OpenBrace l ++ us) (inits_at (open_entity (path_node src q) q.start ys) h) t a) (init_plan (init_shape h) t.kind) a e
    (λ a f. braced_begun p l r g t a f)
act_begun (whole e f r) t a g = absurd (none_some refl g)

finish_begun : {src : List ℕ} {ts : List Lexeme} {s : WordsState} → Begun src ts s → IfSome (words_end s) (λ x. ReadsWords src ts x)
finish_begun at_start = tt
finish_begun (has r) = a_path r
finish_begun (behind p r) = tt
finish_begun (braced p l r h) = tt
finish_begun (whole e f r) = an_entity e f r

pub sound : (src : List ℕ) (ts : List Lexeme) (s : WordsState) (x : Words) → Comes (words_machine src) ts s → words_end s ≡ Some x → ReadsWords src ts x
sound src ts s x f e = if_some (λ x. ReadsWords src ts x) (words_end s) x (finish_begun (keeps src words_reader (λ ts s. Begun src ts s) at_start (λ ts s t a h e. act_begun h t a e) ts s f)) e

-- paths

data PathBegun (src : List ℕ) : List Lexeme → PathState → Type 0 where
  at_start : PathBegun src [] path.Start
  has : {ts : List Lexeme} {q : Path} → ReadsWholePath src ts q → PathBegun src ts (path.Have q)
  behind : {ts : List Lexeme} {q : Path} (p : Spot) → ReadsWholePath src ts q → PathBegun src (ts ++ one kind.ColonColon p) (path.Behind q)

abbrev AfterPath : List ℕ → List Lexeme → PathState → TokenKind → Spot → PathAct → Type 0
AfterPath src ts s k p a = IfSome (path_act src s a (token k p)) (λ q. PathBegun src ts q)

path_started : (src : List ℕ) (k : TokenKind) (p : Spot) (i : Ident) → any_of k p.text ≡ Some i → AfterPath src (one k p) path.Start k p path_acts.First
path_started src k p i e = subst (λ o. IfSome (path_begun o (at p)) (λ q. PathBegun src (one k p) q)) (sym e) (has (first p e))

path_further : {src : List ℕ} {ts : List Lexeme} {q : Path} (p : Spot) → ReadsWholePath src ts q → (k : TokenKind) (r : Spot) (i : Ident) → any_of k r.text ≡ Some i → AfterPath src (ts ++ one kind.ColonColon p ++ one k r) (path.Behind q) k r path_acts.More
path_further {src = src} {ts = ts} {q = q} p s k r i e = subst (λ o. IfSome (path_longer src (path.Behind q) o (at r)) (λ q. PathBegun src (ts ++ one kind.ColonColon p ++ one k r) q)) (sym e) (has (further k p r s e))

path_acted : {src : List ℕ} {ts : List Lexeme} {s : PathState} → PathBegun src ts s → (t : Lexeme) (a : PathAct) → path_reader.plan s t.kind ≡ Some a → AfterPath src (ts ++ t ∷ []) s t.kind (spot t) a
path_acted {src = src} at_start t a e = any_case (λ a. AfterPath src (t ∷ []) path.Start t.kind (spot t) a) t.kind t.text path_acts.First a e (λ i f. path_started src t.kind (spot t) i f)
path_acted {src = src} (has {ts = ts} {q = q} r) t a e = had_case (λ k a. AfterPath src (ts ++ one k (spot t)) (path.Have q) k (spot t) a) t.kind path_acts.Colons a e (behind (spot t) r)
path_acted {src = src} (behind {ts = ts} {q = q} p r) t a e =
    any_case (λ a. AfterPath src (ts ++ one kind.ColonColon p ++ t ∷ []) (path.Behind q) t.kind (spot t) a) t.kind t.text path_acts.More a e (λ i f. path_further p r t.kind (spot t) i f)

path_ended : {src : List ℕ} {ts : List Lexeme} {s : PathState} → PathBegun src ts s → IfSome (path_end s) (λ x. ReadsWholePath src ts x)
path_ended at_start = tt
path_ended (has r) = r
path_ended (behind p r) = tt

pub path_sound : (src : List ℕ) (ts : List Lexeme) (s : PathState) (x : Path) → Comes (paths src) ts s → path_end s ≡ Some x → ReadsWholePath src ts x
path_sound src ts s x f e = if_some (λ x. ReadsWholePath src ts x) (path_end s) x (path_ended (keeps src path_reader (λ ts s. PathBegun src ts s) at_start (λ ts s t a h e. path_acted h t a e) ts s f)) e
