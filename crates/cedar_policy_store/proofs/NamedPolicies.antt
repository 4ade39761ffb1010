-- Policies that stand under their own names.
use Rattle.std.proofs.Common.{◌≡◌, ℕ, Bool, true, false, ◌||◌, ◌&&◌, cond, Result, Ok, Err, IsOkAnd, IfOk, subst, List, [], ◌∷◌, Option, Some, None, IfSome, refl, sym, ◌∙◌, Bor}
use Rattle.std.specs.declared.cmp.Ordering.{Ordering}
use Rattle.std.specs.declared.cmp.Ordering.TheVariants.{Less, Equal, Greater}
use Rattle.std.specs.Ordering.{is_eq, match_ordering}
use Rattle.std.specs.Option.{option_copied}
use Rattle.std.specs.Map.{lookup, remove_entry}
use Rattle.std.specs.BTreeMap.{is_at, insert_entry}
use Rattle.cedar_policy_store.specs.declared.template.Template.{Template}
use Rattle.cedar_policy_store.specs.PolicyMaps.{StandByName}
use Rattle.cedar_policy_store.specs.TextMap.{text_order}
use Rattle.cedar_policy_store.proofs.MapsByText.{tied_texts}

abbrev Entries : Type 0
Entries = List (List ℕ × Template)

put_named : (r : Ordering) (k : List ℕ) (v : Template) (e : List ℕ × Template) (es rest : Entries) → text_order k e.0 ≡ r → v.id ≡ k → StandByName (e ∷ es) → StandByName rest → StandByName (match_ordering r ((k, v) ∷ e ∷ es) ((e.0, v) ∷ es) (e ∷ rest))
put_named Less k v e es rest tie own named next = (own, named)
put_named Equal k v e es rest tie own named next = (own ∙ tied_texts k e.0 tie, named.1)
put_named Greater k v e es rest tie own named next = (named.0, next)

-- one more, under its own name
pub named-insert : (es : Entries) (k : List ℕ) (v : Template) → v.id ≡ k → StandByName es → StandByName (insert_entry text_order es k v)
named-insert [] k v own named = (own, tt)
named-insert (e ∷ es) k v own named = put_named (text_order k e.0) k v e es (insert_entry text_order es k v) refl own named (named-insert es k v own named.1)

kept_named : (b : Bool) (e : List ℕ × Template) (es rest : Entries) → StandByName (e ∷ es) → StandByName rest → StandByName (cond b es (e ∷ rest))
kept_named true e es rest named next = named.1
kept_named false e es rest named next = (named.0, next)

-- one less
pub named-remove : (test : List ℕ → Bool) (es : Entries) → StandByName es → StandByName (remove_entry test es)
named-remove test [] named = tt
named-remove test (e ∷ es) named = kept_named (test e.0) e es (remove_entry test es) named (named-remove test es named.1)

own_name : (r : Ordering) (q : List ℕ) (e : List ℕ × Template) (rest : Option Template) → text_order q e.0 ≡ r → e.1.id ≡ e.0 → IfSome rest (λ v. v.id ≡ q) → IfSome (cond (is_eq r) (Some e.1) rest) (λ v. v.id ≡ q)
own_name Less q e rest tie own next = next
own_name Equal q e rest tie own next = own ∙ sym (tied_texts q e.0 tie)
own_name Greater q e rest tie own next = next

-- what is found under a name has that name
pub named-lookup : (es : Entries) (q : List ℕ) → StandByName es → IfSome (lookup (is_at (text_order q)) es) (λ v. v.id ≡ q)
named-lookup [] q named = tt
named-lookup (e ∷ es) q named = own_name (text_order q e.0) q e (lookup (is_at (text_order q)) es) refl named.0 (named-lookup es q named.1)

pub lent_name : (r : Option (Bor Template)) (q : List ℕ) → IfSome (option_copied r) (λ v. v.id ≡ q) → IfSome r (λ v. v.now.id ≡ q)
lent_name None q h = tt
lent_name (Some b) q h = h

pub or_first : (a b r : Bool) → r ≡ a → r ≡ true → r ≡ (a || b)
or_first true b r e h = e
or_first false b r e h = cc

pub or_second : (a b r s : Bool) → r ≡ a → r ≡ false → s ≡ b → s ≡ (a || b)
or_second true b r s e h f = cc
or_second false b r s e h f = f

pub and_second : (a b r s : Bool) → r ≡ a → r ≡ true → s ≡ b → s ≡ (a && b)
and_second true b r s e h f = f
and_second false b r s e h f = cc

pub and_first : (a b r : Bool) → r ≡ a → r ≡ false → r ≡ (a && b)
and_first true b r e h = cc
and_first false b r e h = e

-- what was done with a copy was done with what it is a copy of
pub with_copy : {E : Type 0} (P : List ℕ → Type 0) (r : Result (List ℕ) E) (k : List ℕ) → IsOkAnd r P → IfOk r (λ copy. copy ≡ k) → P k
with_copy P (Ok x) k p e = subst P e p
with_copy P (Err x) k p e = absurd p
