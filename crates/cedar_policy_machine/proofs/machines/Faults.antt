-- Recovery in place tells the faults of the mended tokens, and no others; and each list of tokens
-- has its faults.
use Rattle.std.specs.Prelude.{◌↔◌}
use Rattle.std.proofs.lemmas.List.{append-nil}
use Rattle.std.proofs.Common.{◌≡◌, ℕ, List, [], ◌∷◌, ◌++◌, Option, Some, None, Bool, true, false, refl, sym, ◌∙◌, ap, subst}
use Rattle.cedar_lexer.specs.Token.{Lexeme}
use Rattle.cedar_lexer.specs.declared.token.TokenKind.{TokenKind}
use Rattle.cedar_lexer.specs.declared.token.TokenKind.TheVariants as kind
use Rattle.cedar_grammar.specs.declared.reading.recovery.RecoveryWay.{RecoveryWay}
use Rattle.cedar_grammar.specs.declared.reading.recovery.RecoveryWay.TheVariants as way
use Rattle.cedar_syntax.specs.tokens.Tokens.{fits}
use Rattle.cedar_grammar.specs.grammar.Sentences.{kinds, Allowed, IsFirstRefused, first}
use Rattle.cedar_grammar.specs.faults.Mended.{Mended, head, Faults, no_fault, too_large, last_fault, more_faults}
use Rattle.cedar_grammar.specs.machines.Machine.{Machine, Answer, next, ended, refused, answer_state, steps, Comes, AnswersRightly, IsParser, is_taken, is_some, allows, Shapes, no_tree}
use Rattle.cedar_grammar.specs.machines.Machine as parser
use Rattle.cedar_grammar.specs.machines.Recovery.{Recovers, reading, skipping, stopped, judgment, RunFaults, run_faults, told_reading, told_all}
use Rattle.cedar_grammar.proofs.machines.Laws.{false_true, starts_from, comes, exactly, stops_at, ends_alike}
use Rattle.cedar_grammar.proofs.machines.Holding.{snoc_assoc, one_more}
use Rattle.cedar_policy_machine.proofs.machines.Alike.{states_alike}
use Rattle.cedar_policy_machine.proofs.machines.SequenceShapes.{IsShapeBy}
use Rattle.cedar_policy_machine.proofs.machines.Recovery.{end_from, Recoverable, reads, stays, is_stop, Skips, skips_on, braced, skips, skips_out, no_stop, fault_told, Search, found_none, found, search, stop_at, Resumed, resumed}

-- what a definition says of a fault, recovery tells

-- no sentence goes on so, by the shape
stops_there : {S T V : Type 0} {m : Machine Lexeme S T} {n : Machine TokenKind V (Unit {0})} {R : List Lexeme → T → Type 0} (f : S → V) → IsParser m R → Shapes m n f no_tree → (ts : List Lexeme) (s : S) (o : Option TokenKind) → Comes m ts s → ¬ (Allowed R (kinds ts) o) → allows n (f s) o ≡ false
stops_there {n = n} f d i ts s o c h = not_true (allows n (f s) o) (λ e. h ((exactly f no_tree d i ts s o c).0 e))
  where
    not_true : (b : Bool) → (b ≡ true → ⊥) → b ≡ false
    not_true true h = absurd (h refl)
    not_true false h = refl

-- a number that doesn't fit, where one may stand
large_told : {S T F V : Type 0} (r : Recovers S F) (f : S → V) (xs : List F) (l : ℕ) (s : S) (t : Lexeme) (a : Answer S T) (c : Answer V (Unit {0})) (o : Option T) → IsShapeBy f a c → is_taken c ≡ true → AnswersRightly t a o → t.kind ≡ kind.Number → fits t.text ≡ false →
    judgment r xs l s t a ≡ stopped xs (r.large t)
large_told r f xs l s t (next q) c o i e h k g = absurd (false_true g (h k))
large_told r f xs l s t (ended x) c o i e h k g = absurd (false_true (ap (λ c. is_taken c) i) e)
large_told r f xs l s t refused c o i e h k g = absurd (false_true (ap (λ c. is_taken c) i) e)
large_told r f xs l s t parser.too_large c o i e h k g = refl

skipped_last : {S T F V : Type 0} {src : List ℕ} {m : Machine Lexeme S T} {R : List Lexeme → T → Type 0} {W : List Lexeme → Type 0} {U : List Lexeme → Option Lexeme → F → Type 0} {L : Lexeme → F → Type 0} {r : Recovers S F} {n : Machine TokenKind V (Unit {0})} {f : S → V} →
    Recoverable src m R W U L r n f → (before : List Lexeme) (s : S) (xs : List F) (x : F) (w : RecoveryWay) (b : Bool) → r.way s ≡ w → skips_on w ≡ b → Comes m before s → {us : List Lexeme} → Search (braced w) us → ((vs : List Lexeme) → ¬ (Mended src W before us vs)) →
    told_all m r (skipping xs w s x) us ≡ run_faults xs (Some x)
skipped_last {m = m} {r = r} d before s xs x w true h i c (found_none {ts = us} k) none = skips_out m r xs w s x us i k
skipped_last {src = src} {W = W} {r = r} d before s xs x w true h i c (found vs t ws k j) none =
    let g = stop_at d before s vs ws t c (ap (λ w. skips_on w) h ∙ i) (subst (λ w. Skips (braced w) vs) (sym h) k) (ap (λ w. is_stop (braced w) t.kind) h ∙ j) in
    absurd (none (g.front ++ ws) g.mended)
skipped_last {m = m} {r = r} d before s xs x w false h i c {us = us} k none = never w i us
  where
    never : (w : RecoveryWay) → skips_on w ≡ false → (us : List Lexeme) → told_all m r (skipping xs w s x) us ≡ run_faults xs (Some x)
    never way.ToBrace e us = absurd (cc)
    never way.ToEnd e us = absurd (cc)
    never way.Stop e [] = refl
    never way.Stop e (t ∷ us) = stays m r xs x us

-- at a fault behind these tokens
at_fault : {S T F V : Type 0} {src : List ℕ} {m : Machine Lexeme S T} {R : List Lexeme → T → Type 0} {W : List Lexeme → Type 0} {U : List Lexeme → Option Lexeme → F → Type 0} {L : Lexeme → F → Type 0} {r : Recovers S F} {n : Machine TokenKind V (Unit {0})} {f : S → V} →
    Recoverable src m R W U L r n f → (xs : List F) (ts us : List Lexeme) (s : S) (x : F) → Comes m ts s → ¬ (Allowed R (kinds ts) (first us)) → U ts (head us) x →
    told_all m r (reading xs 0 m.start) (ts ++ us) ≡ told_all m r (skipping xs (r.way s) s x) us
at_fault {m = m} {r = r} {n = n} {f = f} d xs ts us s x c h u =
    reads m r xs 0 m.start s ts us c ∙ fault_told r f d.shaped xs (end_from 0 ts) s us (stops_there f d.parser d.shaped ts s (first us) c h)
    ∙ ap (λ x. told_all m r (skipping xs (r.way s) s x) us) ((d.tells ts s (head us) x c).0 u)

again : {S T F V : Type 0} {m : Machine Lexeme S T} {r : Recovers S F} {f : S → V} {s : S} {rest mended : List Lexeme} (xs : List F) (x : F) → (g : Resumed m r f s rest mended) →
    told_all m r (skipping xs (r.way s) s x) rest ≡ told_all m r (reading (xs ++ x ∷ []) g.stop.end g.to) g.after
again {m = m} {r = r} {s = s} xs x g =
    ap (λ w. told_all m r (skipping xs (r.way s) s x) w) g.parts ∙ skips m r xs (r.way s) s x g.skips (g.stop ∷ g.after) g.goes_on g.skipping ∙ ap (λ q. told_all m r q g.after) (g.resumes xs x)

in_place : {S T F V : Type 0} {src : List ℕ} {m : Machine Lexeme S T} {R : List Lexeme → T → Type 0} {W : List Lexeme → Type 0} {U : List Lexeme → Option Lexeme → F → Type 0} {L : Lexeme → F → Type 0} {r : Recovers S F} {n : Machine TokenKind V (Unit {0})} {f : S → V} →
    Recoverable src m R W U L r n f → {ts : List Lexeme} {ys : List F} {y : Option F} → Faults src R W U L ts ys y → (xs : List F) → told_all m r (reading xs 0 m.start) ts ≡ run_faults (xs ++ ys) y
in_place {m = m} {r = r} d (no_fault {ts = ts} h) xs =
    let c = d.parser.complete ts h.0 h.1 in
    ap (λ w. told_all m r (reading xs 0 m.start) w) (sym (append-nil ts)) ∙ reads m r xs 0 m.start c.last ts [] c.goes ∙ ap (λ o. told_reading xs (r.tell c.last (end_from 0 ts) None) o) c.ends ∙ ap (λ xs. run_faults xs None) (sym (append-nil xs))
in_place {m = m} {r = r} {n = n} {f = f} d (too_large ts us {t = t} {x = x} h a k e l) xs =
    let c = comes d.parser ts h in
    let i : is_taken (n.step (f c.0) t.kind) ≡ true = ap (λ k. is_taken (n.step (f c.0) k)) k ∙ (exactly f no_tree d.parser d.shaped ts c.0 (Some kind.Number) c.1).1 a in
    reads m r xs 0 m.start c.0 ts (t ∷ us) c.1
    ∙ ap (λ q. told_all m r q us) (large_told r f xs (end_from 0 ts) c.0 t (m.step c.0 t) (n.step (f c.0) t.kind) (m.finish c.0) (d.shaped.steps c.0 t) i (d.parser.answers c.0 t) k e)
    ∙ stays m r xs (r.large t) us ∙ ap (λ x. run_faults xs (Some x)) ((d.larges t x).0 l) ∙ ap (λ xs. run_faults xs (Some x)) (sym (append-nil xs))
in_place {r = r} d (last_fault ts us {x = x} h u none) xs =
    let c = comes d.parser ts h.starts in
    at_fault d xs ts us c.0 x c.1 h.refuses u ∙ skipped_last d ts c.0 xs x (r.way c.0) (skips_on (r.way c.0)) refl refl c.1 (search (braced (r.way c.0)) us) none ∙ ap (λ xs. run_faults xs (Some x)) (sym (append-nil xs))
in_place {m = m} {r = r} {f = f} d (more_faults ts us {vs = vs} {x = x} {xs = ys} {y = y} h u e w) xs =
    let c = comes d.parser ts h.starts in
    let g = resumed d c.0 e c.1 in
    let zs = xs ++ x ∷ [] in
    at_fault d xs ts us c.0 x c.1 h.refuses u ∙ again xs x g ∙ states_alike r f d.by_shape d.parser d.shaped zs g.stop.end g.to g.state g.after g.alike
    ∙ ap (λ l. told_all m r (reading zs l g.state) g.after) (sym g.last) ∙ sym (reads m r zs 0 m.start g.state g.front g.after g.comes)
    ∙ ap (λ ts. told_all m r (reading zs 0 m.start) ts) (sym g.mends) ∙ in_place d w zs ∙ ap (λ xs. run_faults xs y) (snoc_assoc xs x ys)

-- each list of tokens has faults, or a tree: the list of mended tokens comes to an end

-- of all shorter ends of a list
abbrev Below : (List Lexeme → Type 0) → List Lexeme → Type 0
Below P [] = Unit {0}
Below P (t ∷ ts) = P ts × Below P ts

with_below : (P : List Lexeme → Type 0) → ((ts : List Lexeme) → Below P ts → P ts) → (ts : List Lexeme) → P ts × Below P ts
with_below P h [] = (h [] tt, tt)
with_below P h (t ∷ ts) = let b = with_below P h ts in (h (t ∷ ts) b, b)

below_at : (P : List Lexeme → Type 0) (vs : List Lexeme) (t : Lexeme) (ws : List Lexeme) → Below P (vs ++ t ∷ ws) → P ws
below_at P [] t ws b = b.0
below_at P (v ∷ vs) t ws b = below_at P vs t ws b.1

pub record HasFaults {T F : Type 0} (src : List ℕ) (R : List Lexeme → T → Type 0) (W : List Lexeme → Type 0) (U : List Lexeme → Option Lexeme → F → Type 0) (L : Lexeme → F → Type 0) (ts : List Lexeme) : Type 0 where
  pub mended : List F
  pub last : Option F
  pub stands : Faults src R W U L ts mended last

-- behind all tokens that the machine takes
abbrev Behind : {S T F : Type 0} → List ℕ → Machine Lexeme S T → (List Lexeme → T → Type 0) → (List Lexeme → Type 0) → (List Lexeme → Option Lexeme → F → Type 0) → (Lexeme → F → Type 0) → List Lexeme → Type 0
Behind {S = S} src m R W U L ts = (before : List Lexeme) (s : S) → Comes m before s → HasFaults src R W U L (before ++ ts)

-- where nothing ends the skipping, nothing is mended
unmended : {S T F V : Type 0} {src : List ℕ} {m : Machine Lexeme S T} {R : List Lexeme → T → Type 0} {W : List Lexeme → Type 0} {U : List Lexeme → Option Lexeme → F → Type 0} {L : Lexeme → F → Type 0} {r : Recovers S F} {n : Machine TokenKind V (Unit {0})} {f : S → V} →
    Recoverable src m R W U L r n f → (before us : List Lexeme) (s : S) → Comes m before s → (skips_on (r.way s) ≡ true → Skips (braced (r.way s)) us) → (vs : List Lexeme) → ¬ (Mended src W before us vs)
unmended {r = r} d before us s c h vs e =
    let g = resumed d s e c in
    no_stop (braced (r.way s)) g.skips g.after g.stop g.is_one (subst (λ w. Skips (braced (r.way s)) w) g.parts (h g.goes_on))

refused_faults : {S T F V : Type 0} {src : List ℕ} {m : Machine Lexeme S T} {R : List Lexeme → T → Type 0} {W : List Lexeme → Type 0} {U : List Lexeme → Option Lexeme → F → Type 0} {L : Lexeme → F → Type 0} {r : Recovers S F} {n : Machine TokenKind V (Unit {0})} {f : S → V} →
    Recoverable src m R W U L r n f → (before : List Lexeme) (s : S) (b : Bool) → skips_on (r.way s) ≡ b → Comes m before s → {us : List Lexeme} → IsFirstRefused R before (first us) → Search (braced (r.way s)) us → Below (Behind src m R W U L) us →
    HasFaults src R W U L (before ++ us)
refused_faults {r = r} d before s b e c {us = us} h (found_none k) w =
    let x = r.tell s (end_from 0 before) (head us) in
    record { mended = []; last = Some x; stands = last_fault before us h ((d.tells before s (head us) x c).1 refl) (unmended d before us s c (λ i. k)) }
refused_faults {src = src} {m = m} {R = R} {W = W} {U = U} {L = L} {r = r} d before s true e c h (found vs t ws k j) w =
    let us = vs ++ t ∷ ws in
    let x = r.tell s (end_from 0 before) (head us) in
    let g = stop_at d before s vs ws t c e k j in
    let o = below_at (Behind src m R W U L) vs t ws w g.front g.state g.comes in
    record { mended = x ∷ o.mended; last = o.last; stands = more_faults before us h ((d.tells before s (head us) x c).1 refl) g.mended o.stands }
refused_faults {r = r} d before s false e c h (found vs t ws k j) w =
    let us = vs ++ t ∷ ws in
    let x = r.tell s (end_from 0 before) (head us) in
    record { mended = []; last = Some x; stands = last_fault before us h ((d.tells before s (head us) x c).1 refl) (unmended d before us s c (λ i. absurd (false_true e i))) }

end_faults : {S T F V : Type 0} {src : List ℕ} {m : Machine Lexeme S T} {R : List Lexeme → T → Type 0} {W : List Lexeme → Type 0} {U : List Lexeme → Option Lexeme → F → Type 0} {L : Lexeme → F → Type 0} {r : Recovers S F} {n : Machine TokenKind V (Unit {0})} {f : S → V} →
    Recoverable src m R W U L r n f → (before : List Lexeme) (s : S) (o : Option T) → Comes m before s → m.finish s ≡ o → HasFaults src R W U L (before ++ [])
end_faults {src = src} {R = R} {W = W} {U = U} {L = L} d before s (Some x) c e = record { mended = []; last = None; stands = subst (λ ts. Faults src R W U L ts [] None) (sym (append-nil before)) (no_fault (x, d.parser.sound before s x c e)) }
end_faults {r = r} {f = f} d before s None c e =
    refused_faults d before s (skips_on (r.way s)) refl c (stops_at f no_tree d.parser d.shaped before s None c (ends_alike f no_tree d.shaped s ∙ ap (λ o. is_some o) e)) (found_none tt) tt

one_faults : {S T F V : Type 0} {src : List ℕ} {m : Machine Lexeme S T} {R : List Lexeme → T → Type 0} {W : List Lexeme → Type 0} {U : List Lexeme → Option Lexeme → F → Type 0} {L : Lexeme → F → Type 0} {r : Recovers S F} {n : Machine TokenKind V (Unit {0})} {f : S → V} →
    Recoverable src m R W U L r n f → (t : Lexeme) (ts : List Lexeme) → Below (Behind src m R W U L) (t ∷ ts) → (before : List Lexeme) (s : S) (a : Answer S T) → Comes m before s → m.step s t ≡ a → IsShapeBy f a (n.step (f s) t.kind) → AnswersRightly t a (m.finish s) →
    HasFaults src R W U L (before ++ t ∷ ts)
one_faults {src = src} {m = m} {R = R} {W = W} {U = U} {L = L} d t ts b before s (next q) c e i h =
    subst (λ ts. HasFaults src R W U L ts) (snoc_assoc before t ts) (b.0 (before ++ t ∷ []) q (one_more m before s q t c e))
one_faults {r = r} {f = f} d t ts b before s (ended x) c e i h =
    refused_faults d before s (skips_on (r.way s)) refl c (stops_at f no_tree d.parser d.shaped before s (Some t.kind) c (ap (λ c. is_taken c) i)) (search (braced (r.way s)) (t ∷ ts)) b
one_faults {r = r} {f = f} d t ts b before s refused c e i h =
    refused_faults d before s (skips_on (r.way s)) refl c (stops_at f no_tree d.parser d.shaped before s (Some t.kind) c (ap (λ c. is_taken c) i)) (search (braced (r.way s)) (t ∷ ts)) b
one_faults {R = R} {r = r} {f = f} d t ts b before s parser.too_large c e i h = record {
  mended = [];
  last = Some (r.large t);
  stands = too_large before ts (starts_from d.parser before s c) (subst (λ k. Allowed R (kinds before) (Some k)) h.0 ((exactly f no_tree d.parser d.shaped before s (Some t.kind) c).0 i)) h.0 h.1 ((d.larges t (r.large t)).1 refl);
}

all_faults : {S T F V : Type 0} {src : List ℕ} {m : Machine Lexeme S T} {R : List Lexeme → T → Type 0} {W : List Lexeme → Type 0} {U : List Lexeme → Option Lexeme → F → Type 0} {L : Lexeme → F → Type 0} {r : Recovers S F} {n : Machine TokenKind V (Unit {0})} {f : S → V} →
    Recoverable src m R W U L r n f → (ts : List Lexeme) → Below (Behind src m R W U L) ts → Behind src m R W U L ts
all_faults {m = m} d [] b = λ before s c. end_faults d before s (m.finish s) c refl
all_faults {m = m} {n = n} {f = f} d (t ∷ ts) b = λ before s c. one_faults d t ts b before s (m.step s t) c refl (d.shaped.steps s t) (d.parser.answers s t)

pub has_faults : {S T F V : Type 0} {src : List ℕ} {m : Machine Lexeme S T} {R : List Lexeme → T → Type 0} {W : List Lexeme → Type 0} {U : List Lexeme → Option Lexeme → F → Type 0} {L : Lexeme → F → Type 0} {r : Recovers S F} {n : Machine TokenKind V (Unit {0})} {f : S → V} →
    Recoverable src m R W U L r n f → (ts : List Lexeme) → HasFaults src R W U L ts
has_faults {src = src} {m = m} {R = R} {W = W} {U = U} {L = L} d ts = (with_below (Behind src m R W U L) (λ ts b. all_faults d ts b) ts).0 [] m.start refl

-- both ways

mended_is : {F : Type 0} {a b : RunFaults F} → a ≡ b → a.mended ≡ b.mended
mended_is e = ap (λ a. a.mended) e

pub faults_exactly : {S T F V : Type 0} {src : List ℕ} {m : Machine Lexeme S T} {R : List Lexeme → T → Type 0} {W : List Lexeme → Type 0} {U : List Lexeme → Option Lexeme → F → Type 0} {L : Lexeme → F → Type 0} {r : Recovers S F} {n : Machine TokenKind V (Unit {0})} {f : S → V} →
    Recoverable src m R W U L r n f → (ts : List Lexeme) (ys : List F) (y : Option F) → Faults src R W U L ts ys y ↔ (told_all m r (reading [] 0 m.start) ts ≡ run_faults ys y)
faults_exactly {src = src} {R = R} {W = W} {U = U} {L = L} d ts ys y = (
  λ h. in_place d h [],
  λ e. let a = has_faults d ts in
      let same = sym (in_place d a.stands []) ∙ e in
      subst (λ y. Faults src R W U L ts ys y) (ap (λ a. a.last) same) (subst (λ ys. Faults src R W U L ts ys a.last) (mended_is same) a.stands),
)
