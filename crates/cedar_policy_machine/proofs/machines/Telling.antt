-- What a run tells of a text is the list of its faults.
use Rattle.std.specs.Prelude.{◌↔◌, cond}
use Rattle.std.proofs.Common.{◌≡◌, ℕ, List, [], ◌∷◌, Option, Some, None, Bool, true, false, refl, sym, ◌∙◌, ap, subst, inl, inr}
use Rattle.cedar_lexer.specs.Token.{Lexeme}
use Rattle.cedar_lexer.specs.declared.token.TokenKind.{TokenKind}
use Rattle.cedar_syntax.specs.declared.err.faults.Failure.{Failure}
use Rattle.cedar_syntax.specs.declared.err.faults.Failure.TheVariants.{Memory, Errors}
use Rattle.cedar_syntax.specs.declared.err.faults.ParseError.{ParseError}
use Rattle.cedar_grammar.specs.declared.reading.expected.ClosersOnly.TheVariants as narrowing
use Rattle.cedar_grammar.specs.faults.Expected.{IsExpected}
use Rattle.cedar_grammar.specs.faults.FirstFault.{end_at, tokens_end, unexpected_fault, early_at}
use Rattle.cedar_syntax.specs.faults.ParseErrors.{faults_of}
use Rattle.cedar_grammar.specs.grammar.Grammar.{Rule, IsNodeOf}
use Rattle.cedar_syntax.specs.trees.Trees.{Cell}
use Rattle.cedar_grammar.specs.faults.MendedFaults.{fault_of, Unallowed, a_token, the_end, IsLarge, faults_with_last, IsListed, IsFaultList, IsMendedRefusal}
use Rattle.cedar_grammar.specs.declared.reading.extent.Extent.{Extent}
use Rattle.cedar_grammar.specs.grammar.Place.{joint_extent, extent_of, extent}
use Rattle.cedar_grammar.specs.grammar.Sentences.{kinds}
use Rattle.cedar_grammar.specs.machines.Machine.{Machine, Answer, next, ended, refused, too_large, Comes, is_some, Reader, machine_of, allowed_by}
use Rattle.cedar_grammar.specs.machines.Judged.{may_take, wanted_kinds, ReadsBy}
use Rattle.cedar_grammar.specs.machines.Marks.{mark_of}
use Rattle.cedar_grammar.specs.machines.Mending.{refused_fault, bad_fault, judgment_by, recovery_step_by, recovery_of_all_by, met_faults, AreAllFaults, IsTold}
use Rattle.cedar_grammar.specs.machines.Recovery.{Recovers, Recovery, reading, skipping, stopped, judgment, recovery_step, recovery_of_all, told_reading, told_end}
use Rattle.cedar_grammar.proofs.machines.Expected.{expected_is, one_list}
use Rattle.cedar_policy_machine.proofs.machines.Faults.{has_faults, faults_exactly}
use Rattle.cedar_grammar.proofs.machines.Readers.{may_by}
use Rattle.cedar_policy_machine.proofs.machines.Recovery.{end_from, Recoverable}
use Rattle.cedar_grammar.proofs.machines.Skipping.{as_skipped}
use Rattle.cedar_grammar.proofs.machines.Rightly.{EndsRightly}
use Rattle.cedar_policy_machine.proofs.machines.Stopped.{TellsApart, IsWell, all_well, listed_at_bad}

-- ---- what states allow is what the machine takes

judged_same : {S T F : Type 0} (b : Bool) (r : Recovers S F) (xs : List F) (l : ℕ) (s : S) (t : Lexeme) (a : Answer S T) → may_take a ≡ b → judgment_by b r xs l s t a ≡ judgment r xs l s t a
judged_same true r xs l s t (next q) e = refl
judged_same true r xs l s t (ended x) e = absurd (cc)
judged_same true r xs l s t refused e = absurd (cc)
judged_same true r xs l s t too_large e = refl
judged_same false r xs l s t (next q) e = absurd (cc)
judged_same false r xs l s t (ended x) e = as_skipped r xs (r.way s) s (r.tell s l (Some t)) t (mark_of t.kind)
judged_same false r xs l s t refused e = as_skipped r xs (r.way s) s (r.tell s l (Some t)) t (mark_of t.kind)
judged_same false r xs l s t too_large e = absurd (cc)

recover_same : {S A T F : Type 0} (src : List ℕ) (p : Reader S A T) (r : Recovers S F) (q : Recovery S F) (t : Lexeme) → recovery_step_by (machine_of src p) (allowed_by p) r q t ≡ recovery_step (machine_of src p) r q t
recover_same src p r (reading xs l s) t = judged_same (is_some (p.plan s t.kind)) r xs l s t ((machine_of src p).step s t) (may_by src p s t)
recover_same src p r (skipping xs w s x) t = as_skipped r xs w s x t (mark_of t.kind)
recover_same src p r (stopped xs x) t = refl

all_same : {S A T F : Type 0} (src : List ℕ) (p : Reader S A T) (r : Recovers S F) (q : Recovery S F) (ts : List Lexeme) → recovery_of_all_by (machine_of src p) (allowed_by p) r q ts ≡ recovery_of_all (machine_of src p) r q ts
all_same src p r q [] = refl
all_same src p r q (t ∷ ts) = ap (λ q. recovery_of_all_by (machine_of src p) (allowed_by p) r q ts) (recover_same src p r q t) ∙ all_same src p r (recovery_step (machine_of src p) r q t) ts

-- ---- what is told at last

end_list : {T F : Type 0} (xs : List F) (y : F) (o : Option T) (b : Bool) → is_some o ≡ b → faults_with_last (cond b None (Some y)) xs ≡ faults_with_last (told_reading xs y o).last (told_reading xs y o).mended
end_list xs y None true e = absurd (cc)
end_list xs y None false e = refl
end_list xs y (Some x) true e = refl
end_list xs y (Some x) false e = absurd (cc)

told_list : {S A T V : Type 0} {R : Rule T} (W : List ℕ → List Lexeme → Type 0) {r : Recovers S ParseError} {n : Machine TokenKind V (Unit {0})} {f : S → V} (src : List ℕ) (p : Reader S A (Cell T)) → EndsRightly src p →
    Recoverable src (machine_of src p) (IsNodeOf R src) (W src) (Unallowed (IsNodeOf R src) narrowing.Tokens src) (IsLarge src) r n f → TellsApart r → (ts : List Lexeme) (q : Recovery S ParseError) → IsWell q →
    q ≡ recovery_of_all (machine_of src p) r (reading [] 0 (machine_of src p).start) ts → (bad : Option ℕ) →
    IsListed R W src ts bad (told_end (machine_of src p) r q).mended (told_end (machine_of src p) r q).last (met_faults (allowed_by p) r (bad_fault fault_of src) q bad)
told_list W {r = r} src p i d a ts (reading xs l s) w at None = end_list xs (r.tell s l None) (p.finish src s) (p.ends s) (sym (i s))
told_list W src p i d a ts (reading xs l s) w at (Some place) = listed_at_bad W d a ts place (reading xs l s) w at
told_list W src p i d a ts (skipping xs v s x) w at None = refl
told_list W src p i d a ts (skipping xs v s x) w at (Some place) = listed_at_bad W d a ts place (skipping xs v s x) w at
told_list W src p i d a ts (stopped xs x) w at None = refl
told_list W src p i d a ts (stopped xs x) w at (Some place) = listed_at_bad W d a ts place (stopped xs x) w at

tells_list : {S A T V : Type 0} {R : Rule T} {W : List ℕ → List Lexeme → Type 0} {r : Recovers S ParseError} {n : Machine TokenKind V (Unit {0})} {f : S → V} (text : List ℕ) (p : Reader S A (Cell T)) → EndsRightly text p →
    Recoverable text (machine_of text p) (IsNodeOf R text) (W text) (Unallowed (IsNodeOf R text) narrowing.Tokens text) (IsLarge text) r n f → TellsApart r → (xs : List ParseError) → AreAllFaults (machine_of text p) (allowed_by p) r (bad_fault fault_of text) text xs → IsFaultList R W text xs
tells_list {R = R} {W = W} {r = r} text p i d apart xs h =
    let m = machine_of text p in
    let a = has_faults d h.tokens in
    let q = recovery_of_all m r (reading [] 0 m.start) h.tokens in
    let e = (faults_exactly d h.tokens a.mended a.last).0 a.stands in
    let same : xs ≡ met_faults (allowed_by p) r (bad_fault fault_of text) q h.bad = h.is ∙ ap (λ q. met_faults (allowed_by p) r (bad_fault fault_of text) q h.bad) (all_same text p r (reading [] 0 m.start) h.tokens) in
    record {
      tokens = h.tokens;
      bad = h.bad;
      cut = h.cut;
      mended = a.mended;
      last = a.last;
      stands = a.stands;
      is = subst (λ a. IsListed R W text h.tokens h.bad a.mended a.last xs) e
          (subst (λ xs. IsListed R W text h.tokens h.bad (told_end m r q).mended (told_end m r q).last xs) (sym same) (told_list W text p i d apart h.tokens q (all_well m r (reading [] 0 m.start) h.tokens tt) refl h.bad));
    }

pub refused_list : {S A T V : Type 0} {R : Rule T} {r : Recovers S ParseError} {n : Machine TokenKind V (Unit {0})} {f : S → V} (W : List ℕ → List Lexeme → Type 0) (text : List ℕ) (p : Reader S A (Cell T)) → EndsRightly text p →
    Recoverable text (machine_of text p) (IsNodeOf R text) (W text) (Unallowed (IsNodeOf R text) narrowing.Tokens text) (IsLarge text) r n f → TellsApart r → (e : Failure) → IsTold (machine_of text p) (allowed_by p) r text e → IsMendedRefusal R W text e
refused_list W text p i d a (Memory e) h = tt
refused_list W text p i d a (Errors errors) h = tells_list text p i d a (faults_of errors) h

-- ---- a fault is told as it is recorded

end_on : (a b : Extent) (o : Option Extent) → end_at (joint_extent (Some a) (joint_extent (Some b) o)) ≡ end_at (joint_extent (Some b) o)
end_on a b None = refl
end_on a b (Some c) = refl

last_end : (t : Lexeme) (ts : List Lexeme) → tokens_end (t ∷ ts) ≡ end_from t.end ts
last_end t [] = refl
last_end t (u ∷ us) = end_on (extent_of t) (extent_of u) (extent us) ∙ last_end u us

pub end_is : (ts : List Lexeme) → tokens_end ts ≡ end_from 0 ts
end_is [] = refl
end_is (t ∷ ts) = last_end t ts

pub tells_exactly : {S A T : Type 0} {p : Reader S A T} {R : List Lexeme → T → Type 0} {src : List ℕ} → ReadsBy src p R → (ts : List Lexeme) (s : S) (o : Option Lexeme) (x : ParseError) → Comes (machine_of src p) ts s →
    Unallowed R narrowing.Tokens src ts o x ↔ (refused_fault fault_of (allowed_by p s) src (end_from 0 ts) o ≡ x)
tells_exactly {p = p} {R = R} {src = src} h ts s o x c = (λ g. there o x g, λ e. subst (λ x. Unallowed R narrowing.Tokens src ts o x) e (back o))
  where
    expects : (after : Option TokenKind) → IsExpected R narrowing.Tokens (kinds ts) after (wanted_kinds (allowed_by p s) narrowing.Tokens after)
    expects after = expected_is R (kinds ts) (allowed_by p s) narrowing.Tokens after (λ k. h.exact ts s (Some k) c)

    there : (o : Option Lexeme) (x : ParseError) → Unallowed R narrowing.Tokens src ts o x → refused_fault fault_of (allowed_by p s) src (end_from 0 ts) o ≡ x
    there (Some t) x (a_token g) = ap (λ ks. fault_of src (unexpected_fault t ks)) (one_list (expects (Some t.kind)) g)
    there None x (the_end {ks = ks} g) = ap (λ ks. fault_of src (early_at (end_from 0 ts) ks)) (one_list (expects None) g) ∙ ap (λ l. fault_of src (early_at l ks)) (sym (end_is ts))

    back : (o : Option Lexeme) → Unallowed R narrowing.Tokens src ts o (refused_fault fault_of (allowed_by p s) src (end_from 0 ts) o)
    back (Some t) = a_token (expects (Some t.kind))
    back None = subst (λ l. Unallowed R narrowing.Tokens src ts None (fault_of src (early_at l (wanted_kinds (allowed_by p s) narrowing.Tokens None)))) (end_is ts) (the_end (expects None))
