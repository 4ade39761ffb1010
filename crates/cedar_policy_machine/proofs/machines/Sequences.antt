-- Forms that read one item after the other have parsers, since one item has.
use Rattle.std.proofs.Common.{◌≡◌, ℕ, List, [], ◌∷◌, ◌++◌, Option, Some, None, Bool, true, false, refl, sym, ◌∙◌, ap, subst, append_assoc, IfSome}
use Rattle.cedar_lexer.specs.Token.{Lexeme}
use Rattle.cedar_lexer.specs.declared.token.TokenKind.{TokenKind}
use Rattle.cedar_lexer.specs.declared.token.TokenKind.TheVariants as kind
use Rattle.cedar_grammar.specs.declared.reading.mark.Mark.{Mark}
use Rattle.cedar_grammar.specs.declared.reading.mark.Mark.TheVariants as mark
use Rattle.cedar_policy_machine.specs.declared.sequence.Sequence.{Sequence}
use Rattle.cedar_policy_machine.specs.declared.sequence.SequenceAct.TheVariants as act
use Rattle.cedar_syntax.specs.tokens.Tokens.{Spot, one, fits}
use Rattle.cedar_grammar.specs.grammar.Place.{placed}
use Rattle.cedar_syntax.specs.trees.Trees.{Cell}
use Rattle.cedar_grammar.specs.grammar.LooseWords.{ReadsItems, one_item, more_items, ReadsList, no_item, items, items_comma}
use Rattle.cedar_grammar.specs.grammar.LoosePolicies.{ReadsMany, none, more}
use Rattle.cedar_grammar.specs.machines.Machine.{Machine, Answer, next, ended, refused, too_large, answer_state, steps, Comes, RunsTo, Completed, AnswersRightly, IsParser, is_taken, is_some, Reader, machine_of, done_answer, planned_answer, option_image}
use Rattle.cedar_grammar.specs.machines.Marks.{mark_of}
use Rattle.cedar_policy_machine.specs.machines.Placing.{AsNode, as_node}
use Rattle.cedar_policy_machine.specs.machines.Sequences.{sequence, begun_many_plan, begun_list_plan, comma_plan, items_with_last, sequence_end, item_begun, item_act, many, comma_list}
use Rattle.cedar_grammar.proofs.machines.Laws.{some_is, none_some, then_steps}
use Rattle.cedar_grammar.proofs.machines.Holding.{Holds, held, entered, one_more, kept}
use Rattle.cedar_grammar.proofs.machines.Ending.{NotEmpty, EndsAt, Refuses, Begins, IsKind}
use Rattle.cedar_grammar.proofs.machines.Rightly.{EndsRightly}
use Rattle.cedar_grammar.proofs.machines.Marked.{IsMarked, comma, marked}

abbrev pub item_at : {S T : Type 0} → List T → S → Sequence S T
item_at xs s = sequence xs (Some s)

-- ---- a step, told by what the machine of one item answers

-- an item begins, or the items have ended
abbrev item_beginning : {S T : Type 0} → List T → Answer S T → Answer (Sequence S T) (List T)
item_beginning xs (next s) = next (sequence xs (Some s))
item_beginning xs (ended x) = ended xs
item_beginning xs refused = ended xs
item_beginning xs too_large = too_large

abbrev many_answer : {S T : Type 0} → Machine Lexeme S T → List T → Lexeme → Answer S T → Answer (Sequence S T) (List T)
many_answer m xs t (next s) = next (sequence xs (Some s))
many_answer m xs t (ended x) = item_beginning (xs ++ x ∷ []) (m.step m.start t)
many_answer m xs t refused = refused
many_answer m xs t too_large = too_large

abbrev pub many_step : {S T : Type 0} → Machine Lexeme S T → List T → Option S → Lexeme → Answer (Sequence S T) (List T)
many_step m xs None t = item_beginning xs (m.step m.start t)
many_step m xs (Some s) t = many_answer m xs t (m.step s t)

abbrev pub behind_item : {S T : Type 0} → List T → Mark → Answer (Sequence S T) (List T)
behind_item xs mark.Comma = next (sequence xs None)
behind_item xs _ = ended xs

abbrev listed_answer : {S T : Type 0} → List T → Mark → Answer S T → Answer (Sequence S T) (List T)
listed_answer xs c (next s) = next (sequence xs (Some s))
listed_answer xs c (ended x) = behind_item (xs ++ x ∷ []) c
listed_answer xs c refused = refused
listed_answer xs c too_large = too_large

abbrev listed_step : {S T : Type 0} → Machine Lexeme S T → List T → Option S → Lexeme → Answer (Sequence S T) (List T)
listed_step m xs None t = item_beginning xs (m.step m.start t)
listed_step m xs (Some s) t = listed_answer xs (mark_of t.kind) (m.step s t)

begun_told : {S T : Type 0} (xs : List T) (o : Option S) → done_answer (item_begun xs o) ≡ item_beginning xs (done_answer o)
begun_told xs (Some q) = refl
begun_told xs None = refl

first_told : {S A T : Type 0} (src : List ℕ) (r : Reader S A T) (xs : List T) (t : Lexeme) (o : Option A) (tree : Option T) →
    planned_answer (λ a. item_act r src xs None (Some xs) a t) (Some xs) (option_image (λ a. act.First a) o) ≡ item_beginning xs (planned_answer (λ a. r.act src r.start a t) tree o)
first_told src r xs t (Some a) tree = begun_told xs (r.act src r.start a t)
first_told src r xs t None (Some x) = refl
first_told src r xs t None None = refl

next_told : {S A T : Type 0} (src : List ℕ) (r : Reader S A T) (xs ys : List T) (s : S) (t : Lexeme) (o : Option A) (tree : Option T) →
    planned_answer (λ a. item_act r src xs (Some s) (Some ys) a t) (Some ys) (option_image (λ a. act.Next a) o) ≡ item_beginning ys (planned_answer (λ a. r.act src r.start a t) tree o)
next_told src r xs ys s t (Some a) tree = begun_told ys (r.act src r.start a t)
next_told src r xs ys s t None (Some x) = refl
next_told src r xs ys s t None None = refl

going_told : {S T : Type 0} (m : Machine Lexeme S T) (xs : List T) (t : Lexeme) (o : Option S) → done_answer (item_begun xs o) ≡ many_answer m xs t (done_answer o)
going_told m xs t (Some q) = refl
going_told m xs t None = refl

many_item_told : {S A T : Type 0} (src : List ℕ) (r : Reader S A T) (xs : List T) (s : S) (t : Lexeme) (p : Option A) (b : Bool) (o : Option T) → b ≡ is_some o →
    planned_answer (λ a. item_act r src xs (Some s) (items_with_last xs o) a t) (items_with_last xs o) (begun_many_plan p b (r.plan r.start t.kind)) ≡ many_answer (machine_of src r) xs t (planned_answer (λ a. r.act src s a t) o p)
many_item_told src r xs s t (Some a) b o e = going_told (machine_of src r) xs t (r.act src s a t)
many_item_told src r xs s t None true (Some x) e = next_told src r xs (xs ++ x ∷ []) s t (r.plan r.start t.kind) (r.finish src r.start)
many_item_told src r xs s t None false None e = refl
many_item_told src r xs s t None true None e = absurd (cc)
many_item_told src r xs s t None false (Some x) e = absurd (cc)

pub many_told : {S A T : Type 0} (src : List ℕ) (r : Reader S A T) → EndsRightly src r → (s : Sequence S T) (t : Lexeme) → (many src r).step s t ≡ many_step (machine_of src r) s.done s.begun t
many_told {S = S} {T = T} src r i s t = go s.done s.begun
  where
    go : (xs : List T) (b : Option S) → (many src r).step (sequence xs b) t ≡ many_step (machine_of src r) xs b t
    go xs None = first_told src r xs t (r.plan r.start t.kind) (r.finish src r.start)
    go xs (Some q) = many_item_told src r xs q t (r.plan q t.kind) (r.ends q) (r.finish src q) (i q)

comma_told : {S A T : Type 0} (src : List ℕ) (r : Reader S A T) (xs ys : List T) (s : S) (t : Lexeme) (k : TokenKind) →
    planned_answer (λ a. item_act r src xs (Some s) (Some ys) a t) (Some ys) (comma_plan k) ≡ behind_item ys (mark_of k)
comma_told src r xs ys s t kind.Comma = refl
comma_told src r xs ys s t _ = refl

listing_told : {S T : Type 0} (xs : List T) (c : Mark) (o : Option S) → done_answer (item_begun xs o) ≡ listed_answer xs c (done_answer o)
listing_told xs c (Some q) = refl
listing_told xs c None = refl

listed_item_told : {S A T : Type 0} (src : List ℕ) (r : Reader S A T) (xs : List T) (s : S) (t : Lexeme) (p : Option A) (b : Bool) (o : Option T) → b ≡ is_some o →
    planned_answer (λ a. item_act r src xs (Some s) (items_with_last xs o) a t) (items_with_last xs o) (begun_list_plan p b t.kind) ≡ listed_answer xs (mark_of t.kind) (planned_answer (λ a. r.act src s a t) o p)
listed_item_told src r xs s t (Some a) b o e = listing_told xs (mark_of t.kind) (r.act src s a t)
listed_item_told src r xs s t None true (Some x) e = comma_told src r xs (xs ++ x ∷ []) s t t.kind
listed_item_told src r xs s t None false None e = refl
listed_item_told src r xs s t None true None e = absurd (cc)
listed_item_told src r xs s t None false (Some x) e = absurd (cc)

listed_told : {S A T : Type 0} (src : List ℕ) (r : Reader S A T) → EndsRightly src r → (s : Sequence S T) (t : Lexeme) → (comma_list src r).step s t ≡ listed_step (machine_of src r) s.done s.begun t
listed_told {S = S} {T = T} src r i s t = go s.done s.begun
  where
    go : (xs : List T) (b : Option S) → (comma_list src r).step (sequence xs b) t ≡ listed_step (machine_of src r) xs b t
    go xs None = first_told src r xs t (r.plan r.start t.kind) (r.finish src r.start)
    go xs (Some q) = listed_item_told src r xs q t (r.plan q t.kind) (r.ends q) (r.finish src q) (i q)

-- ---- one item from a state in which one may begin

pub item_runs : {S T : Type 0} (m : Machine Lexeme S T) (n : Machine Lexeme (Sequence S T) (List T)) (xs : List T) → NotEmpty m → Holds m n (λ q. item_at xs q) → (u : Sequence S T) → ((t : Lexeme) (q : S) → m.step m.start t ≡ next q → n.step u t ≡ next (item_at xs q)) →
    (ts : List Lexeme) (s : S) (x : T) → Comes m ts s → m.finish s ≡ Some x → steps n (Some u) ts ≡ Some (item_at xs s)
item_runs m n xs z h u i [] s x f e = absurd (none_some (ap (λ s. m.finish s) (sym (some_is f)) ∙ z) e)
item_runs m n xs z h u i (t ∷ ts) s x f e = entered m n (λ q. item_at xs q) h u t (λ q w. i t q w) ts s f

begin_answers : {S T : Type 0} (t : Lexeme) (xs : List T) (a : Answer S T) (o : Option T) → AnswersRightly t a o → AnswersRightly t (item_beginning xs a) (Some xs)
begin_answers t xs (next s) o h = h
begin_answers t xs (ended x) o h = refl
begin_answers t xs refused o h = refl
begin_answers t xs too_large o h = h

finished : {T : Type 0} (xs : List T) (o : Option T) (ys : List T) → items_with_last xs o ≡ Some ys → (x : T) × (o ≡ Some x) × (xs ++ x ∷ [] ≡ ys)
finished xs None ys e = absurd (cc)
finished xs (Some x) ys e = (x, refl, some_is e)

-- ---- items that stand one behind the other

pub many_holds : {S A T : Type 0} (src : List ℕ) (r : Reader S A T) → EndsRightly src r → (xs : List T) → Holds (machine_of src r) (many src r) (λ q. item_at xs q)
many_holds src r i xs s q t e = many_told src r i (item_at xs s) t ∙ ap (λ a. many_answer (machine_of src r) xs t a) e

many_next_by : {S T : Type 0} (m : Machine Lexeme S T) → EndsAt m (Begins m) → (done : List T) (b : Option S) (xs : List T) → sequence_end m.finish done b ≡ Some xs → (t : Lexeme) (q : S) → m.step m.start t ≡ next q →
    many_step m done b t ≡ next (item_at xs q)
many_next_by m h done None xs e t q w = ap (λ a. item_beginning done a) w ∙ ap (λ xs. next (item_at xs q)) (some_is e)
many_next_by m h done (Some s) xs e t q w =
    let f = finished done (m.finish s) xs e in
    ap (λ a. many_answer m done t a) (h s f.0 t (ap (λ a. is_taken a) w) f.1) ∙ ap (λ a. item_beginning (done ++ f.0 ∷ []) a) w ∙ ap (λ xs. next (item_at xs q)) f.2

pub many_next : {S A T : Type 0} (src : List ℕ) (r : Reader S A T) → EndsRightly src r → EndsAt (machine_of src r) (Begins (machine_of src r)) → (u : Sequence S T) (xs : List T) → (many src r).finish u ≡ Some xs → (t : Lexeme) (q : S) →
    (machine_of src r).step (machine_of src r).start t ≡ next q → (many src r).step u t ≡ next (item_at xs q)
many_next src r i h u xs e t q w = many_told src r i u t ∙ many_next_by (machine_of src r) h u.done u.begun xs e t q w

many_one_more : {S A T : Type 0} (src : List ℕ) (r : Reader S A (Cell T)) (R : List Lexeme → T → Type 0) → IsParser (machine_of src r) (AsNode src R) → EndsRightly src r → NotEmpty (machine_of src r) → EndsAt (machine_of src r) (Begins (machine_of src r)) →
    (ts us : List Lexeme) (xs : List (Cell T)) (y : Cell T) → RunsTo (many src r) ts xs → AsNode src R us y → RunsTo (many src r) (ts ++ us) (xs ++ y ∷ [])
many_one_more src r R d i z h ts us xs y g w =
    let m = machine_of src r in
    let c = d.complete us y w in
    record {
      last = item_at xs c.last;
      goes = then_steps (many src r) (Some (many src r).start) (Some g.last) _ ts us g.goes
          (item_runs m (many src r) xs z (many_holds src r i xs) g.last (λ t q w. many_next src r i h g.last xs g.ends t q w) us c.last y c.goes c.ends);
      ends = ap (λ o. items_with_last xs o) c.ends;
    }

many_complete : {S A T : Type 0} (src : List ℕ) (r : Reader S A (Cell T)) (R : List Lexeme → T → Type 0) → IsParser (machine_of src r) (AsNode src R) → EndsRightly src r → NotEmpty (machine_of src r) → EndsAt (machine_of src r) (Begins (machine_of src r)) →
    {ts : List Lexeme} {xs : List (Cell T)} → ReadsMany src R ts xs → RunsTo (many src r) ts xs
many_complete src r R d i z h none = record { last = sequence [] None; goes = refl; ends = refl }
many_complete src r R d i z h (more {ts = ts} {us = us} {xs = xs} {y = y} w v) = many_one_more src r R d i z h ts us xs (placed src us y) (many_complete src r R d i z h w) (as_node v)

pub data ManyRead {S T : Type 0} (src : List ℕ) (m : Machine Lexeme S (Cell T)) (R : List Lexeme → T → Type 0) : List Lexeme → Sequence S (Cell T) → Type 0 where
  is_between : {ts : List Lexeme} {xs : List (Cell T)} → ReadsMany src R ts xs → ManyRead src m R ts (sequence xs None)
  is_begun : {ts : List Lexeme} (us : List Lexeme) {xs : List (Cell T)} {s : S} → ReadsMany src R ts xs → Comes m us s → ManyRead src m R (ts ++ us) (item_at xs s)

pub many_more : {T : Type 0} {src : List ℕ} {R : List Lexeme → T → Type 0} {ts us : List Lexeme} {xs : List (Cell T)} {y : Cell T} → ReadsMany src R ts xs → AsNode src R us y → ReadsMany src R (ts ++ us) (xs ++ y ∷ [])
many_more r (as_node i) = more r i

many_begins : {S T : Type 0} {src : List ℕ} (m : Machine Lexeme S (Cell T)) (R : List Lexeme → T → Type 0) {ts : List Lexeme} {xs : List (Cell T)} → ReadsMany src R ts xs → (t : Lexeme) (a : Answer S (Cell T)) → m.step m.start t ≡ a →
    IfSome (answer_state (item_beginning xs a)) (λ q. ManyRead src m R (ts ++ t ∷ []) q)
many_begins m R r t (next q) e = is_begun (t ∷ []) r (ap (λ a. answer_state a) e)
many_begins m R r t (ended x) e = tt
many_begins m R r t refused e = tt
many_begins m R r t too_large e = tt

many_goes : {S T : Type 0} {src : List ℕ} {m : Machine Lexeme S (Cell T)} {R : List Lexeme → T → Type 0} → IsParser m (AsNode src R) → {ts : List Lexeme} (us : List Lexeme) {xs : List (Cell T)} {s : S} → ReadsMany src R ts xs → Comes m us s →
    (t : Lexeme) (a : Answer S (Cell T)) → m.step s t ≡ a → AnswersRightly t a (m.finish s) → IfSome (answer_state (many_answer m xs t a)) (λ q. ManyRead src m R ((ts ++ us) ++ t ∷ []) q)
many_goes {src = src} {m = m} {R = R} d {ts = ts} us {xs = xs} {s = s} r c t (next q) e i = subst (λ w. ManyRead src m R w (item_at xs q)) (assoc ts us t) (is_begun (us ++ t ∷ []) r (one_more m us s q t c e))
  where
    assoc : (ts us : List Lexeme) (t : Lexeme) → ts ++ (us ++ t ∷ []) ≡ (ts ++ us) ++ t ∷ []
    assoc ts us t = simp append_assoc
many_goes {m = m} {R = R} d us {s = s} r c t (ended x) e i = many_begins m R (many_more r (d.sound us s x c i)) t (m.step m.start t) refl
many_goes d us r c t refused e i = tt
many_goes d us r c t too_large e i = tt

many_stays : {S T : Type 0} {src : List ℕ} {m : Machine Lexeme S (Cell T)} {R : List Lexeme → T → Type 0} → IsParser m (AsNode src R) → (ts : List Lexeme) (s : Sequence S (Cell T)) (t : Lexeme) → ManyRead src m R ts s →
    IfSome (answer_state (many_step m s.done s.begun t)) (λ q. ManyRead src m R (ts ++ t ∷ []) q)
many_stays {m = m} {R = R} d ts s t (is_between r) = many_begins m R r t (m.step m.start t) refl
many_stays {m = m} d ts s t (is_begun us {s = q} r c) = many_goes d us r c t (m.step q t) refl (d.answers q t)

many_keeps : {S A T : Type 0} (src : List ℕ) (r : Reader S A (Cell T)) (R : List Lexeme → T → Type 0) → IsParser (machine_of src r) (AsNode src R) → EndsRightly src r → (ts : List Lexeme) (s : Sequence S (Cell T)) (t : Lexeme) → ManyRead src (machine_of src r) R ts s →
    IfSome (answer_state ((many src r).step s t)) (λ q. ManyRead src (machine_of src r) R (ts ++ t ∷ []) q)
many_keeps src r R d i ts s t h = subst (λ a. IfSome (answer_state a) (λ q. ManyRead src (machine_of src r) R (ts ++ t ∷ []) q)) (sym (many_told src r i s t)) (many_stays d ts s t h)

pub many_read : {S A T : Type 0} (src : List ℕ) (r : Reader S A (Cell T)) (R : List Lexeme → T → Type 0) → IsParser (machine_of src r) (AsNode src R) → EndsRightly src r → (ts : List Lexeme) (s : Sequence S (Cell T)) → Comes (many src r) ts s → ManyRead src (machine_of src r) R ts s
many_read src r R d i ts s f = kept (many src r) (λ ts s. ManyRead src (machine_of src r) R ts s) (is_between none) (λ ts s t h. many_keeps src r R d i ts s t h) ts s f

many_sound : {S T : Type 0} {src : List ℕ} {m : Machine Lexeme S (Cell T)} {R : List Lexeme → T → Type 0} → IsParser m (AsNode src R) → {ts : List Lexeme} {s : Sequence S (Cell T)} (xs : List (Cell T)) → ManyRead src m R ts s →
    sequence_end m.finish s.done s.begun ≡ Some xs → ReadsMany src R ts xs
many_sound {src = src} {R = R} d {ts = ts} ys (is_between r) e = subst (λ xs. ReadsMany src R ts xs) (some_is e) r
many_sound {src = src} {m = m} {R = R} d ys (is_begun {ts = ts} us {xs = xs} {s = s} r c) e =
    let f = finished xs (m.finish s) ys e in subst (λ xs. ReadsMany src R (ts ++ us) xs) f.2 (many_more r (d.sound us s f.0 c f.1))

many_viable : {S A T : Type 0} (src : List ℕ) (r : Reader S A T) (R : List Lexeme → T → Type 0) → IsParser (machine_of src r) R → EndsRightly src r → (xs : List T) (b : Option S) → Completed (many src r) (sequence xs b)
many_viable src r R d i xs None = record { more = []; last = sequence xs None; tree = xs; goes = refl; ends = refl }
many_viable src r R d i xs (Some s) =
    let c = d.viable s in
    record { more = c.more; last = item_at xs c.last; tree = xs ++ c.tree ∷ []; goes = held (machine_of src r) (many src r) (λ q. item_at xs q) (many_holds src r i xs) c.more s c.last c.goes; ends = ap (λ o. items_with_last xs o) c.ends }

many_item_answers : {S T : Type 0} {m : Machine Lexeme S T} {R : List Lexeme → T → Type 0} → IsParser m R → (t : Lexeme) (xs : List T) (a : Answer S T) (o : Option T) → AnswersRightly t a o →
    AnswersRightly t (many_answer m xs t a) (items_with_last xs o)
many_item_answers d t xs (next s) o h = h
many_item_answers {m = m} d t xs (ended x) o h =
    subst (λ o. AnswersRightly t (item_beginning (xs ++ x ∷ []) (m.step m.start t)) (items_with_last xs o)) (sym h) (begin_answers t (xs ++ x ∷ []) (m.step m.start t) (m.finish m.start) (d.answers m.start t))
many_item_answers d t xs refused o h = ap (λ o. items_with_last xs o) h
many_item_answers d t xs too_large o h = h

many_answers : {S T : Type 0} {m : Machine Lexeme S T} {R : List Lexeme → T → Type 0} → IsParser m R → (xs : List T) (b : Option S) (t : Lexeme) → AnswersRightly t (many_step m xs b t) (sequence_end m.finish xs b)
many_answers {m = m} d xs None t = begin_answers t xs (m.step m.start t) (m.finish m.start) (d.answers m.start t)
many_answers {m = m} d xs (Some s) t = many_item_answers d t xs (m.step s t) (m.finish s) (d.answers s t)

pub many_parser : {S A T : Type 0} (src : List ℕ) (r : Reader S A (Cell T)) (R : List Lexeme → T → Type 0) → IsParser (machine_of src r) (AsNode src R) → EndsRightly src r → NotEmpty (machine_of src r) → EndsAt (machine_of src r) (Begins (machine_of src r)) →
    IsParser (many src r) (ReadsMany src R)
many_parser src r R d i z h = record {
  complete = λ ts xs w. many_complete src r R d i z h w;
  sound = λ ts s xs f e. many_sound d xs (many_read src r R d i ts s f) e;
  viable = λ s. many_viable src r (AsNode src R) d i s.done s.begun;
  answers = λ s t. subst (λ a. AnswersRightly t a (sequence_end (r.finish src) s.done s.begun)) (sym (many_told src r i s t)) (many_answers d s.done s.begun t);
}

-- ---- items separated by commas

listed_holds : {S A T : Type 0} (src : List ℕ) (r : Reader S A T) → EndsRightly src r → (xs : List T) → Holds (machine_of src r) (comma_list src r) (λ q. item_at xs q)
listed_holds src r i xs s q t e = listed_told src r i (item_at xs s) t ∙ ap (λ a. listed_answer xs (mark_of t.kind) a) e

-- items, of which the last is held
record ItemsAt {S A T : Type 0} (src : List ℕ) (r : Reader S A T) (ts : List Lexeme) (xs : List T) : Type 0 where
  before : List T
  last : S
  item : T
  goes : Comes (comma_list src r) ts (item_at before last)
  ends : r.finish src last ≡ Some item
  is : before ++ item ∷ [] ≡ xs

comma_taken : {S A T : Type 0} (src : List ℕ) (r : Reader S A T) → EndsRightly src r → EndsAt (machine_of src r) (IsKind kind.Comma) → {ts : List Lexeme} {xs : List T} (p : Spot) → ItemsAt src r ts xs → Comes (comma_list src r) (ts ++ one kind.Comma p) (sequence xs None)
comma_taken src r i h {ts = ts} p g =
    let t : Lexeme = record { kind = kind.Comma; start = p.start; end = p.end; text = p.text } in
    then_steps (comma_list src r) (Some (comma_list src r).start) (Some (item_at g.before g.last)) _ ts (one kind.Comma p) g.goes
    (ap (λ a. answer_state a) (listed_told src r i (item_at g.before g.last) t ∙ ap (λ a. listed_answer g.before mark.Comma a) (h g.last g.item t refl g.ends)) ∙ ap (λ xs. Some (sequence xs None)) g.is)

listed_item : {S A T : Type 0} (src : List ℕ) (r : Reader S A (Cell T)) (R : List Lexeme → T → Type 0) → IsParser (machine_of src r) (AsNode src R) → EndsRightly src r → NotEmpty (machine_of src r) → (ts us : List Lexeme) (xs : List (Cell T)) (y : Cell T) →
    Comes (comma_list src r) ts (sequence xs None) → AsNode src R us y → ItemsAt src r (ts ++ us) (xs ++ y ∷ [])
listed_item src r R d i z ts us xs y g w =
    let m = machine_of src r in
    let c = d.complete us y w in
    record {
      before = xs;
      last = c.last;
      item = y;
      goes = then_steps (comma_list src r) (Some (comma_list src r).start) (Some (sequence xs None)) _ ts us g
          (item_runs m (comma_list src r) xs z (listed_holds src r i xs) (sequence xs None) (λ t q w. listed_told src r i (sequence xs None) t ∙ ap (λ a. item_beginning xs a) w) us c.last y c.goes c.ends);
      ends = c.ends;
      is = refl;
    }

items_run : {S A T : Type 0} (src : List ℕ) (r : Reader S A (Cell T)) (R : List Lexeme → T → Type 0) → IsParser (machine_of src r) (AsNode src R) → EndsRightly src r → NotEmpty (machine_of src r) → EndsAt (machine_of src r) (IsKind kind.Comma) → {ts : List Lexeme} {xs : List (Cell T)} →
    ReadsItems src R ts xs → ItemsAt src r ts xs
items_run src r R d i z h (one_item {ts = ts} {x = x} w) = listed_item src r R d i z [] ts [] (placed src ts x) refl (as_node w)
items_run src r R d i z h (more_items {ts = ts} {us = us} {xs = xs} {y = y} p w v) =
    listed_item src r R d i z (ts ++ one kind.Comma p) us xs (placed src us y) (comma_taken src r i h p (items_run src r R d i z h w)) (as_node v)

listed_complete : {S A T : Type 0} (src : List ℕ) (r : Reader S A (Cell T)) (R : List Lexeme → T → Type 0) → IsParser (machine_of src r) (AsNode src R) → EndsRightly src r → NotEmpty (machine_of src r) → EndsAt (machine_of src r) (IsKind kind.Comma) → {ts : List Lexeme} {xs : List (Cell T)} →
    ReadsList src R ts xs → RunsTo (comma_list src r) ts xs
listed_complete src r R d i z h no_item = record { last = sequence [] None; goes = refl; ends = refl }
listed_complete src r R d i z h (items w) = let g = items_run src r R d i z h w in record { last = item_at g.before g.last; goes = g.goes; ends = ap (λ o. items_with_last g.before o) g.ends ∙ ap (λ xs. Some xs) g.is }
listed_complete src r R d i z h (items_comma {xs = xs} p w) = record { last = sequence xs None; goes = comma_taken src r i h p (items_run src r R d i z h w); ends = refl }

-- what stands before an item
data Before {T : Type 0} (src : List ℕ) (R : List Lexeme → T → Type 0) : List Lexeme → List (Cell T) → Type 0 where
  nothing : Before src R [] []
  a_comma : {ts : List Lexeme} {xs : List (Cell T)} (p : Spot) → ReadsItems src R ts xs → Before src R (ts ++ one kind.Comma p) xs

data ListRead {S T : Type 0} (src : List ℕ) (m : Machine Lexeme S (Cell T)) (R : List Lexeme → T → Type 0) : List Lexeme → Sequence S (Cell T) → Type 0 where
  wants_item : {ts : List Lexeme} {xs : List (Cell T)} → Before src R ts xs → ListRead src m R ts (sequence xs None)
  has_item : {ts : List Lexeme} (us : List Lexeme) {xs : List (Cell T)} {s : S} → Before src R ts xs → Comes m us s → ListRead src m R (ts ++ us) (item_at xs s)

items_with : {T : Type 0} {src : List ℕ} {R : List Lexeme → T → Type 0} {ts us : List Lexeme} {xs : List (Cell T)} {y : Cell T} → Before src R ts xs → AsNode src R us y → ReadsItems src R (ts ++ us) (xs ++ y ∷ [])
items_with nothing (as_node i) = one_item i
items_with (a_comma p r) (as_node i) = more_items p r i

list_before : {T : Type 0} {src : List ℕ} {R : List Lexeme → T → Type 0} {ts : List Lexeme} {xs : List (Cell T)} → Before src R ts xs → ReadsList src R ts xs
list_before nothing = no_item
list_before (a_comma p r) = items_comma p r

list_begins : {S T : Type 0} {src : List ℕ} (m : Machine Lexeme S (Cell T)) (R : List Lexeme → T → Type 0) {ts : List Lexeme} {xs : List (Cell T)} → Before src R ts xs → (t : Lexeme) (a : Answer S (Cell T)) → m.step m.start t ≡ a →
    IfSome (answer_state (item_beginning xs a)) (λ q. ListRead src m R (ts ++ t ∷ []) q)
list_begins m R r t (next q) e = has_item (t ∷ []) r (ap (λ a. answer_state a) e)
list_begins m R r t (ended x) e = tt
list_begins m R r t refused e = tt
list_begins m R r t too_large e = tt

list_behind : {S T : Type 0} {src : List ℕ} (m : Machine Lexeme S (Cell T)) (R : List Lexeme → T → Type 0) {ts : List Lexeme} {xs : List (Cell T)} → ReadsItems src R ts xs → (c : Mark) (k : TokenKind) (p : Spot) → IsMarked c k →
    IfSome (answer_state (behind_item {S = S} xs c)) (λ q. ListRead src m R (ts ++ one k p) q)
list_behind m R r mark.Comma k p comma = wants_item (a_comma p r)
list_behind m R r _ k p i = tt

list_goes : {S T : Type 0} {src : List ℕ} {m : Machine Lexeme S (Cell T)} {R : List Lexeme → T → Type 0} → IsParser m (AsNode src R) → {ts : List Lexeme} (us : List Lexeme) {xs : List (Cell T)} {s : S} → Before src R ts xs → Comes m us s →
    (t : Lexeme) (a : Answer S (Cell T)) → m.step s t ≡ a → AnswersRightly t a (m.finish s) → IfSome (answer_state (listed_answer xs (mark_of t.kind) a)) (λ q. ListRead src m R ((ts ++ us) ++ t ∷ []) q)
list_goes {src = src} {m = m} {R = R} d {ts = ts} us {xs = xs} {s = s} r c t (next q) e i = subst (λ w. ListRead src m R w (item_at xs q)) (assoc ts us t) (has_item (us ++ t ∷ []) r (one_more m us s q t c e))
  where
    assoc : (ts us : List Lexeme) (t : Lexeme) → ts ++ (us ++ t ∷ []) ≡ (ts ++ us) ++ t ∷ []
    assoc ts us t = simp append_assoc
list_goes {m = m} {R = R} d us {s = s} r c t (ended x) e i = list_behind m R (items_with r (d.sound us s x c i)) (mark_of t.kind) t.kind record { start = t.start; end = t.end; text = t.text } (marked t.kind)
list_goes d us r c t refused e i = tt
list_goes d us r c t too_large e i = tt

list_stays : {S T : Type 0} {src : List ℕ} {m : Machine Lexeme S (Cell T)} {R : List Lexeme → T → Type 0} → IsParser m (AsNode src R) → (ts : List Lexeme) (s : Sequence S (Cell T)) (t : Lexeme) → ListRead src m R ts s →
    IfSome (answer_state (listed_step m s.done s.begun t)) (λ q. ListRead src m R (ts ++ t ∷ []) q)
list_stays {m = m} {R = R} d ts s t (wants_item r) = list_begins m R r t (m.step m.start t) refl
list_stays {m = m} d ts s t (has_item us {s = q} r c) = list_goes d us r c t (m.step q t) refl (d.answers q t)

list_keeps : {S A T : Type 0} (src : List ℕ) (r : Reader S A (Cell T)) (R : List Lexeme → T → Type 0) → IsParser (machine_of src r) (AsNode src R) → EndsRightly src r → (ts : List Lexeme) (s : Sequence S (Cell T)) (t : Lexeme) → ListRead src (machine_of src r) R ts s →
    IfSome (answer_state ((comma_list src r).step s t)) (λ q. ListRead src (machine_of src r) R (ts ++ t ∷ []) q)
list_keeps src r R d i ts s t h = subst (λ a. IfSome (answer_state a) (λ q. ListRead src (machine_of src r) R (ts ++ t ∷ []) q)) (sym (listed_told src r i s t)) (list_stays d ts s t h)

list_sound : {S T : Type 0} {src : List ℕ} {m : Machine Lexeme S (Cell T)} {R : List Lexeme → T → Type 0} → IsParser m (AsNode src R) → {ts : List Lexeme} {s : Sequence S (Cell T)} (xs : List (Cell T)) → ListRead src m R ts s →
    sequence_end m.finish s.done s.begun ≡ Some xs → ReadsList src R ts xs
list_sound {src = src} {R = R} d {ts = ts} ys (wants_item r) e = subst (λ xs. ReadsList src R ts xs) (some_is e) (list_before r)
list_sound {src = src} {m = m} {R = R} d ys (has_item {ts = ts} us {xs = xs} {s = s} r c) e =
    let f = finished xs (m.finish s) ys e in subst (λ xs. ReadsList src R (ts ++ us) xs) f.2 (items (items_with r (d.sound us s f.0 c f.1)))

listed_viable : {S A T : Type 0} (src : List ℕ) (r : Reader S A T) (R : List Lexeme → T → Type 0) → IsParser (machine_of src r) R → EndsRightly src r → (xs : List T) (b : Option S) → Completed (comma_list src r) (sequence xs b)
listed_viable src r R d i xs None = record { more = []; last = sequence xs None; tree = xs; goes = refl; ends = refl }
listed_viable src r R d i xs (Some s) =
    let c = d.viable s in
    record { more = c.more; last = item_at xs c.last; tree = xs ++ c.tree ∷ []; goes = held (machine_of src r) (comma_list src r) (λ q. item_at xs q) (listed_holds src r i xs) c.more s c.last c.goes; ends = ap (λ o. items_with_last xs o) c.ends }

comma_answers : (S : Type 0) {T : Type 0} (xs : List T) (c : Mark) (t : Lexeme) → IsMarked c t.kind → AnswersRightly t (behind_item {S = S} xs c) (Some xs)
comma_answers S xs mark.Comma t i = not_number i
  where
    not_number : {k : TokenKind} → IsMarked mark.Comma k → (k ≡ kind.Number) → fits t.text ≡ true
    not_number comma e = absurd (cc)
comma_answers S xs _ t i = refl

listed_item_answers : {S T : Type 0} (t : Lexeme) (xs : List T) (a : Answer S T) (o : Option T) → AnswersRightly t a o → AnswersRightly t (listed_answer xs (mark_of t.kind) a) (items_with_last xs o)
listed_item_answers t xs (next s) o h = h
listed_item_answers {S = S} t xs (ended x) o h = subst (λ o. AnswersRightly t (behind_item {S = S} (xs ++ x ∷ []) (mark_of t.kind)) (items_with_last xs o)) (sym h) (comma_answers S (xs ++ x ∷ []) (mark_of t.kind) t (marked t.kind))
listed_item_answers t xs refused o h = ap (λ o. items_with_last xs o) h
listed_item_answers t xs too_large o h = h

listed_answers : {S T : Type 0} {m : Machine Lexeme S T} {R : List Lexeme → T → Type 0} → IsParser m R → (xs : List T) (b : Option S) (t : Lexeme) → AnswersRightly t (listed_step m xs b t) (sequence_end m.finish xs b)
listed_answers {m = m} d xs None t = begin_answers t xs (m.step m.start t) (m.finish m.start) (d.answers m.start t)
listed_answers {m = m} d xs (Some s) t = listed_item_answers t xs (m.step s t) (m.finish s) (d.answers s t)

pub listed_parser : {S A T : Type 0} (src : List ℕ) (r : Reader S A (Cell T)) (R : List Lexeme → T → Type 0) → IsParser (machine_of src r) (AsNode src R) → EndsRightly src r → NotEmpty (machine_of src r) → EndsAt (machine_of src r) (IsKind kind.Comma) →
    IsParser (comma_list src r) (ReadsList src R)
listed_parser src r R d i z h = record {
  complete = λ ts xs w. listed_complete src r R d i z h w;
  sound = λ ts s xs f e. list_sound d xs (kept (comma_list src r) (λ ts s. ListRead src (machine_of src r) R ts s) (wants_item nothing) (λ ts s t h. list_keeps src r R d i ts s t h) ts s f) e;
  viable = λ s. listed_viable src r (AsNode src R) d i s.done s.begun;
  answers = λ s t. subst (λ a. AnswersRightly t a (sequence_end (r.finish src) s.done s.begun)) (sym (listed_told src r i s t)) (listed_answers d s.done s.begun t);
}

-- ---- where sequences end

beginning_ends : {S T : Type 0} (xs : List T) (a : Answer S T) → a ≡ refused → item_beginning xs a ≡ ended xs
beginning_ends xs a e = ap (λ a. item_beginning xs a) e

many_ends_by : {S T : Type 0} (m : Machine Lexeme S T) {P : Lexeme → Type 0} → EndsAt m P → Refuses m P → (done : List T) (b : Option S) (xs : List T) (t : Lexeme) → P t → sequence_end m.finish done b ≡ Some xs → many_step m done b t ≡ ended xs
many_ends_by m h r done None xs t p e = beginning_ends done (m.step m.start t) (r t p) ∙ ap (λ xs. ended xs) (some_is e)
many_ends_by m h r done (Some s) xs t p e =
    let f = finished done (m.finish s) xs e in
    ap (λ a. many_answer m done t a) (h s f.0 t p f.1) ∙ beginning_ends (done ++ f.0 ∷ []) (m.step m.start t) (r t p) ∙ ap (λ xs. ended xs) f.2

pub many_ends : {S A T : Type 0} (src : List ℕ) (r : Reader S A T) → EndsRightly src r → {P : Lexeme → Type 0} → EndsAt (machine_of src r) P → Refuses (machine_of src r) P → EndsAt (many src r) P
many_ends src r i h w s xs t p e = many_told src r i s t ∙ many_ends_by (machine_of src r) h w s.done s.begun xs t p e

listed_ends_by : {S T : Type 0} (m : Machine Lexeme S T) {P : Lexeme → Type 0} → EndsAt m P → Refuses m P → ((t : Lexeme) → P t → (xs : List T) → behind_item {S = S} xs (mark_of t.kind) ≡ ended xs) →
    (done : List T) (b : Option S) (xs : List T) (t : Lexeme) → P t → sequence_end m.finish done b ≡ Some xs → listed_step m done b t ≡ ended xs
listed_ends_by m h r g done None xs t p e = beginning_ends done (m.step m.start t) (r t p) ∙ ap (λ xs. ended xs) (some_is e)
listed_ends_by m h r g done (Some s) xs t p e =
    let f = finished done (m.finish s) xs e in
    ap (λ a. listed_answer done (mark_of t.kind) a) (h s f.0 t p f.1) ∙ g t p (done ++ f.0 ∷ []) ∙ ap (λ xs. ended xs) f.2

pub listed_ends : {S A T : Type 0} (src : List ℕ) (r : Reader S A T) → EndsRightly src r → {P : Lexeme → Type 0} → EndsAt (machine_of src r) P → Refuses (machine_of src r) P →
    ((t : Lexeme) → P t → (xs : List T) → behind_item {S = S} xs (mark_of t.kind) ≡ ended xs) → EndsAt (comma_list src r) P
listed_ends src r i h w g s xs t p e = listed_told src r i s t ∙ listed_ends_by (machine_of src r) h w g s.done s.begun xs t p e
