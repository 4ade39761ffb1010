-- A map that annotations fill: one more, be it new, known or refused.
use Rattle.std.proofs.Common.{◌≡◌, ◌⊎◌, inl, inr, ◌<◌, ◌+◌, ◌||◌, ℕ, Bool, true, false, cond, is_some, List, [], ◌∷◌, ◌++◌, append-nil, take, length, get_or, Option, Some, Result, Ok, Err, IsErrAnd, bytes_eq, refl, sym, ap, ◌∙◌, subst}
use Rattle.std.specs.List.{fold}
use Rattle.std.specs.BTreeMap.{BTreeMap, IsOrdered, insert_entry}
use Rattle.std.specs.FinMap.{FinMap, insert, empty, get, contains_key, get-insert, get-empty}
use Rattle.std.specs.Cmp.Lexicographic.{nat_list_cmp_total}
use Rattle.std.proofs.lemmas.Map.Text.{is_eq-slice_cmp}
use Rattle.std.proofs.lemmas.Slice.Eq.{bytes_eq-Decides}
use Rattle.std.proofs.lemmas.List.Folds.{list_any-append}
use denote.Ref.{Bor}
use denote.Param.Members.{Shared}
use Rattle.std.specs.declared.alloc.Global.{Global}
use Rattle.std.specs.declared.string.String.{String}
use Rattle.cedar_policy_store.specs.TextMap.{map_in, text_order}
use Rattle.cedar_policy_store.proofs.MapsByText.{map_in-insert}
use Rattle.cedar_syntax.specs.faults.ParseErrors.{faults_of, IsMemory}
use Rattle.cedar_syntax.specs.declared.cst.Annotation.{Annotation}
use Rattle.cedar_syntax.specs.declared.err.faults.Failure.{Failure}
use Rattle.cedar_syntax.specs.declared.err.faults.Failure.TheVariants.{Memory, Errors}
use Rattle.cedar_syntax.specs.declared.loc.Loc.{Loc}
use Rattle.cedar_syntax.specs.declared.node.Node.{Node}
use Rattle.cedar_syntax.specs.faults.Joined.{WantsMemory}
use Rattle.cedar_policy_conversion.specs.AnnotationKeys.{AnnotationContent, Answers, AnswersEach, Gathering, GivesByKey, annotation_at, annotation_outcome, gathering_with, gathering_with_node, gathering, has_key, with_pair, empty_gathering, key_value_outcome, paired_keys, with_new_key}
use Rattle.cedar_conversion.specs.parts.Names.{content_outcome}
use Rattle.cedar_conversion.specs.outcome.Detail.{spelling}
use Rattle.cedar_conversion.specs.outcome.Outcome.{NamedFault, Outcome, both, next, duplicate_annotation, item_more, faults_outcome}
use Rattle.cedar_conversion.specs.outcome.Seen.{Gives, Refuses, named_faults}
use Rattle.cedar_policy_conversion.specs.machines.Filled.{HoldsSoFar, HasKeys, HoldsAll}
use Rattle.cedar_conversion.specs.machines.Views.{empty_view}
use Rattle.cedar_conversion.proofs.Inverted.{next_ok, ok_is}
use Rattle.cedar_conversion.proofs.Loops.{take_next}

-- a map that has one entry more
pub with_entry : {X : Type 0} (m n : BTreeMap (List ℕ) X) (k : List ℕ) (v : X) → IsOrdered text_order m → IsOrdered text_order n
    → n.entries ≡ insert_entry text_order m.entries k v → map_in n ≡ insert (map_in m) k v
with_entry m n k v = map_in-insert m n k v

-- ---- keys

found_or : {X : Type 0} (b c : Bool) (o : Option X) (x : X) → is_some o ≡ c → is_some (cond b (Some x) o) ≡ (c || (b || false))
found_or true true o x h = refl
found_or true false o x h = refl
found_or false true o x h = h
found_or false false o x h = h

again : (b c : Bool) → (b ≡ true → c ≡ true) → c ≡ (c || (b || false))
again true true h = refl
again true false h = h refl
again false true h = refl
again false false h = refl

keys_more : {T : Type 0} (m : FinMap text_order T) (keys : List (List ℕ)) (key : List ℕ) (t : T) → HasKeys m keys → HasKeys (insert m key t) (keys ++ key ∷ [])
keys_more m keys key t h q =
    ap is_some (get-insert nat_list_cmp_total m key t q)
    ∙ ap (λ b. is_some (cond b (Some t) (get m q))) (is_eq-slice_cmp q key)
    ∙ found_or (bytes_eq q key) (has_key keys q) (get m q) t (h q)
    ∙ sym (list_any-append (bytes_eq q) keys (key ∷ []))

keys_again : {T : Type 0} (m : FinMap text_order T) (keys : List (List ℕ)) (key : List ℕ) → contains_key m key ≡ true → HasKeys m keys → HasKeys m (keys ++ key ∷ [])
keys_again m keys key known h q =
    let here : has_key keys key ≡ true = sym (h key) ∙ known in
    h q
    ∙ again (bytes_eq q key) (has_key keys q) (λ same. subst (λ p. has_key keys p ≡ true) (sym ((bytes_eq-Decides q key).0 same)) here)
    ∙ sym (list_any-append (bytes_eq q) keys (key ∷ []))

-- ---- what is given of an annotation

-- it stands where its node stands
pub placed : (n : Node (Option Annotation)) (a : AnnotationContent) → annotation_outcome n ≡ Ok a → n.loc ≡ a.place
placed n a e =
    let inner = next_ok (content_outcome n.loc n.node) (key_value_outcome n.loc) a e in
    let pair = next_ok _ (λ p. Ok (annotation_at n.loc p)) a inner.2 in
    ap (λ x. x.place) (ok_is pair.2)

new_given : (keys : List (List ℕ)) (all : List AnnotationContent) (o : Outcome (List AnnotationContent)) (a : AnnotationContent) → o ≡ Ok all → has_key keys a.key ≡ false → item_more o (with_new_key keys a) ≡ Ok (all ++ a ∷ [])
new_given keys all o a e h = rw (e, h) refl

new_refused : (keys : List (List ℕ)) (fs : List NamedFault) (o : Outcome (List AnnotationContent)) (a : AnnotationContent) → o ≡ Err fs → has_key keys a.key ≡ false → item_more o (with_new_key keys a) ≡ Err fs
new_refused keys fs o a e h = rw (e, h) refl

known_first : (keys : List (List ℕ)) (all : List AnnotationContent) (o : Outcome (List AnnotationContent)) (a : AnnotationContent) → o ≡ Ok all → has_key keys a.key ≡ true → item_more o (with_new_key keys a) ≡ Err ((duplicate_annotation, a.place, spelling a.key) ∷ [])
known_first keys all o a e h = rw (e, h) refl

known_behind : (keys : List (List ℕ)) (fs : List NamedFault) (o : Outcome (List AnnotationContent)) (a : AnnotationContent) → o ≡ Err fs → has_key keys a.key ≡ true → item_more o (with_new_key keys a) ≡ Err (fs ++ (duplicate_annotation, a.place, spelling a.key) ∷ [])
known_behind keys fs o a e h = rw (e, h) refl

-- faults of an outcome of any kind
abbrev failed : (X : Type 0) → List NamedFault → Outcome X
failed X fs = Err fs

as_all : (fs gs : List NamedFault) → failed (Unit {0}) fs ≡ failed (Unit {0}) gs → failed (List AnnotationContent) fs ≡ failed (List AnnotationContent) gs
as_all fs gs e = let same : fs ≡ gs = cc in ap (failed (List AnnotationContent)) same

-- ---- values by their keys

module _ {F T : Type 0} (g : Shared F (Option (String Global) × (Option (Bor Loc) × Unit {0})) T) (f : F) where
  each_more : (all : List AnnotationContent) (made : List T) (a : AnnotationContent) (t : T) → AnswersEach g f all made → Answers g f a t → AnswersEach g f (all ++ a ∷ []) (made ++ t ∷ [])
  each_more [] [] a t e h = (h, tt)
  each_more [] (u ∷ made) a t e h = absurd e
  each_more (b ∷ all) [] a t e h = absurd e
  each_more (b ∷ all) (u ∷ made) a t e h = (e.0, each_more all made a t e.1 h)

  keyed_more : (m : FinMap text_order T) (all : List AnnotationContent) (made : List T) (a : AnnotationContent) (t : T) → AnswersEach g f all made
      → fold with_pair m (paired_keys (all ++ a ∷ []) (made ++ t ∷ [])) ≡ insert (fold with_pair m (paired_keys all made)) a.key t
  keyed_more m [] [] a t e = refl
  keyed_more m [] (u ∷ made) a t e = absurd e
  keyed_more m (b ∷ all) [] a t e = absurd e
  keyed_more m (b ∷ all) (u ∷ made) a t e = keyed_more (insert m b.key u) all made a t e.1

  -- nothing yet
  pub filled_first : (m : FinMap text_order T) → m ≡ empty → HoldsSoFar g f empty_gathering m (Ok tt)
  filled_first m e = rw e ((λ key. ap is_some (get-empty text_order key)), ([], [], refl, tt, refl))

  wanted : (so_far : Gathering) (m : FinMap text_order T) (r : Result (Unit {0}) Failure) → WantsMemory r → HoldsSoFar g f so_far m r
  wanted so_far m (Ok u) h = absurd h
  wanted so_far m (Err (Memory e)) h = tt
  wanted so_far m (Err (Errors es)) h = absurd h

  new_more : (so_far : Gathering) (m : FinMap text_order T) (all : Result (Unit {0}) Failure) (a : AnnotationContent) (t : T) → contains_key m a.key ≡ false → Answers g f a t → HoldsSoFar g f so_far m all
      → HoldsSoFar g f (gathering_with so_far (Ok a)) (insert m a.key t) all
  new_more so_far m (Ok u) a t fresh says h =
      let is_new = sym (h.0 a.key) ∙ fresh in
      let held = h.1 in
      (keys_more m so_far.keys a.key t h.0, (held.0 ++ a ∷ [], held.1 ++ t ∷ [], new_given so_far.keys held.0 so_far.all a held.2 is_new, each_more held.0 held.1 a t held.3 says, ap (λ x. insert x a.key t) held.4 ∙ sym (keyed_more empty held.0 held.1 a t held.3)))
  new_more so_far m (Err (Memory e)) a t fresh says h = tt
  new_more so_far m (Err (Errors es)) a t fresh says h =
      (keys_more m so_far.keys a.key t h.0, new_refused so_far.keys (named_faults (faults_of es)) so_far.all a h.1 (sym (h.0 a.key) ∙ fresh))

  new_kept : (so_far : Gathering) (m n : FinMap text_order T) (all r : Result (Unit {0}) Failure) (a : AnnotationContent) (t : T) → contains_key m a.key ≡ false → Answers g f a t → HoldsSoFar g f so_far m all
      → WantsMemory r ⊎ ((r ≡ all) × (n ≡ insert m a.key t)) → HoldsSoFar g f (gathering_with so_far (Ok a)) n r
  new_kept so_far m n all r a t fresh says h (inl w) = wanted (gathering_with so_far (Ok a)) n r w
  new_kept so_far m n all r a t fresh says h (inr p) = rw (p.0, p.1) (new_more so_far m all a t fresh says h)

  known_more : (so_far : Gathering) (m : FinMap text_order T) (all r : Result (Unit {0}) Failure) (a : AnnotationContent) → contains_key m a.key ≡ true → (WantsMemory all → WantsMemory r)
      → ((faults : List NamedFault) → Gives empty_view all (faults_outcome faults) → Gives empty_view r (faults_outcome (faults ++ (duplicate_annotation, a.place, spelling a.key) ∷ [])))
      → HoldsSoFar g f so_far m all → HoldsSoFar g f (gathering_with so_far (Ok a)) m r
  known_more so_far m (Ok u) (Ok v) a known w tells h = let impossible = tells [] refl in cc
  known_more so_far m (Ok u) (Err (Memory e)) a known w tells h = tt
  known_more so_far m (Ok u) (Err (Errors es)) a known w tells h =
      (keys_again m so_far.keys a.key known h.0, known_first so_far.keys h.1.0 so_far.all a h.1.2 (sym (h.0 a.key) ∙ known) ∙ as_all _ (named_faults (faults_of es)) (tells [] refl))
  known_more so_far m (Err (Memory e)) (Ok v) a known w tells h = absurd (w tt)
  known_more so_far m (Err (Memory e)) (Err (Memory e2)) a known w tells h = tt
  known_more so_far m (Err (Memory e)) (Err (Errors es)) a known w tells h = absurd (w tt)
  known_more so_far m (Err (Errors gs)) (Ok v) a known w tells h = let impossible = tells (named_faults (faults_of gs)) refl in cc
  known_more so_far m (Err (Errors gs)) (Err (Memory e)) a known w tells h = tt
  known_more so_far m (Err (Errors gs)) (Err (Errors es)) a known w tells h =
      (keys_again m so_far.keys a.key known h.0, known_behind so_far.keys (named_faults (faults_of gs)) so_far.all a h.1 (sym (h.0 a.key) ∙ known) ∙ as_all _ (named_faults (faults_of es)) (tells (named_faults (faults_of gs)) refl))

  -- an annotation that converts
  by_key : (b : Bool) (so_far : Gathering) (m n : FinMap text_order T) (all r : Result (Unit {0}) Failure) (a : AnnotationContent) (t : T) → contains_key m a.key ≡ b → Answers g f a t → (WantsMemory all → WantsMemory r)
      → (contains_key m a.key ≡ true → (n ≡ m) × ((faults : List NamedFault) → Gives empty_view all (faults_outcome faults) → Gives empty_view r (faults_outcome (faults ++ (duplicate_annotation, a.place, spelling a.key) ∷ []))))
      → (contains_key m a.key ≡ false → WantsMemory r ⊎ ((r ≡ all) × (n ≡ insert m a.key t)))
      → HoldsSoFar g f so_far m all → HoldsSoFar g f (gathering_with so_far (Ok a)) n r
  by_key true so_far m n all r a t is says w known new h = let k = known is in rw k.0 (known_more so_far m all r a is w k.1 h)
  by_key false so_far m n all r a t is says w known new h = new_kept so_far m n all r a t is says h (new is)

  pub kept_more : (so_far : Gathering) (x : Node (Option Annotation)) (m n : FinMap text_order T) (all r : Result (Unit {0}) Failure) (a : AnnotationContent) (key : List ℕ) (t : T)
      → annotation_outcome x ≡ Ok a → a.key ≡ key → Answers g f a t → (WantsMemory all → WantsMemory r)
      → (contains_key m key ≡ true → (n ≡ m) × ((faults : List NamedFault) → Gives empty_view all (faults_outcome faults) → Gives empty_view r (faults_outcome (faults ++ (duplicate_annotation, x.loc, spelling key) ∷ []))))
      → (contains_key m key ≡ false → WantsMemory r ⊎ ((r ≡ all) × (n ≡ insert m key t)))
      → HoldsSoFar g f so_far m all → HoldsSoFar g f (gathering_with_node so_far x) n r
  kept_more so_far x m n all r a key t e same says w known new h =
      let here = subst (λ k. contains_key m k ≡ true → (n ≡ m) × ((faults : List NamedFault) → Gives empty_view all (faults_outcome faults) → Gives empty_view r (faults_outcome (faults ++ (duplicate_annotation, x.loc, spelling k) ∷ [])))) (sym same) known in
      let there = subst (λ p. contains_key m a.key ≡ true → (n ≡ m) × ((faults : List NamedFault) → Gives empty_view all (faults_outcome faults) → Gives empty_view r (faults_outcome (faults ++ (duplicate_annotation, p, spelling a.key) ∷ [])))) (placed x a e) here in
      let fresh = subst (λ k. contains_key m k ≡ false → WantsMemory r ⊎ ((r ≡ all) × (n ≡ insert m k t))) (sym same) new in
      subst (λ o. HoldsSoFar g f (gathering_with so_far o) n r) (sym e) (by_key (contains_key m a.key) so_far m n all r a t refl says w there fresh h)

  -- one that doesn't
  refused_as : (so_far : Gathering) (m : FinMap text_order T) (all r : Result (Unit {0}) Failure) (hs : List NamedFault) → (WantsMemory all → WantsMemory r)
      → ((o : Outcome (Unit {0})) → Gives empty_view all o → Gives empty_view r (next (both o (failed (Unit {0}) hs)) (λ _. Ok tt)))
      → HoldsSoFar g f so_far m all → HoldsSoFar g f (gathering_with so_far (Err hs)) m r
  refused_as so_far m (Ok u) (Ok v) hs w tells h = let impossible = tells (Ok tt) refl in cc
  refused_as so_far m (Ok u) (Err (Memory e)) hs w tells h = tt
  refused_as so_far m (Ok u) (Err (Errors es)) hs w tells h =
      (subst (HasKeys m) (sym (append-nil so_far.keys)) h.0, ap (λ o. item_more o (failed AnnotationContent hs)) h.1.2 ∙ as_all _ (named_faults (faults_of es)) (tells (Ok tt) refl))
  refused_as so_far m (Err (Memory e)) (Ok v) hs w tells h = absurd (w tt)
  refused_as so_far m (Err (Memory e)) (Err (Memory e2)) hs w tells h = tt
  refused_as so_far m (Err (Memory e)) (Err (Errors es)) hs w tells h = absurd (w tt)
  refused_as so_far m (Err (Errors gs)) (Ok v) hs w tells h = let impossible = tells (Err (named_faults (faults_of gs))) refl in cc
  refused_as so_far m (Err (Errors gs)) (Err (Memory e)) hs w tells h = tt
  refused_as so_far m (Err (Errors gs)) (Err (Errors es)) hs w tells h =
      (subst (HasKeys m) (sym (append-nil so_far.keys)) h.0, ap (λ o. item_more o (failed AnnotationContent hs)) h.1 ∙ as_all _ (named_faults (faults_of es)) (tells (Err (named_faults (faults_of gs))) refl))

  pub refused_more : (so_far : Gathering) (x : Node (Option Annotation)) (m : FinMap text_order T) (all r : Result (Unit {0}) Failure) (failure : Failure) → Refuses failure (annotation_outcome x)
      → (WantsMemory all ⊎ IsMemory failure → WantsMemory r)
      → ((o p : Outcome (Unit {0})) → Gives empty_view all o → Refuses failure p → Gives empty_view r (next (both o p) (λ _. Ok tt)))
      → HoldsSoFar g f so_far m all → HoldsSoFar g f (gathering_with_node so_far x) m r
  refused_more so_far x m all r (Memory e) is w tells h = wanted (gathering_with_node so_far x) m r (w (inr tt))
  refused_more so_far x m all r (Errors es) is w tells h =
      subst (λ o. HoldsSoFar g f (gathering_with so_far o) m r) (sym is) (refused_as so_far m all r (named_faults (faults_of es)) (λ k. w (inl k)) (λ o k. tells o (Err (named_faults (faults_of es))) k refl) h)

  -- ---- the end

  -- what `?` passes on
  pub refused_on : (r : Result (BTreeMap (List ℕ) T) Failure) (failure : Failure) (o : Outcome (List AnnotationContent)) → IsErrAnd r (λ e. e ≡ failure) → Refuses failure o → GivesByKey g f r o
  refused_on (Ok x) failure o is h = absurd is
  refused_on (Err e) failure o is h = rw is h

  pub filled_err : (so_far : Gathering) (m : FinMap text_order T) (all : Result (Unit {0}) Failure) (failure : Failure) → all ≡ Err failure → HoldsSoFar g f so_far m all → Refuses failure so_far.all
  filled_err so_far m all (Memory e) is h = tt
  filled_err so_far m all (Errors es) is h = let k : HoldsSoFar g f so_far m (Err (Errors es)) = subst (HoldsSoFar g f so_far m) is h in k.1

  pub filled_ok : (so_far : Gathering) (m : FinMap text_order T) (all : Result (Unit {0}) Failure) (u : Unit {0}) → all ≡ Ok u → HoldsSoFar g f so_far m all → HoldsAll g f so_far m
  filled_ok so_far m all u is h = let k : HoldsSoFar g f so_far m (Ok u) = subst (HoldsSoFar g f so_far m) is h in k.1

-- one node more
gathered_from : (so_far : Gathering) (xs : List (Node (Option Annotation))) (x : Node (Option Annotation)) → fold gathering_with_node so_far (xs ++ x ∷ []) ≡ gathering_with_node (fold gathering_with_node so_far xs) x
gathered_from so_far [] x = refl
gathered_from so_far (y ∷ xs) x = gathered_from (gathering_with_node so_far y) xs x

pub gathered_next : (xs : List (Node (Option Annotation))) (i : ℕ) (x : Node (Option Annotation)) → i < length xs → x ≡ get_or xs i x → gathering (take (i + 1) xs) ≡ gathering_with_node (gathering (take i xs)) x
gathered_next xs i x more is = ap gathering (take_next xs i x more is) ∙ gathered_from empty_gathering (take i xs) x
