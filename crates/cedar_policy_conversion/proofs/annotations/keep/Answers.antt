-- The map has the key where its entry is occupied, and no key where it is vacant.
use Rattle.std.proofs.Common.{rules, inr, ◌≡◌, ◌++◌, ◌∷◌, [], Some, None, Option, true, is_some, refl, sym, ap, ◌∙◌, subst}
use Rattle.std.proofs.lemmas.Bool.{false≢true}
use Rattle.std.specs.Prelude.{IsSome}
use Rattle.std.specs.declared.cmp.Ordering.TheVariants.{Equal}
use Rattle.std.specs.BTreeMap as tree
use Rattle.std.specs.BTreeMap.Entry.{MatchEntry, entry_key}
use Rattle.cedar_policy_store.specs.TextMap.{text_order}
use Rattle.cedar_policy_store.proofs.MapsByText.{contains-map_in, tied_texts}
use Rattle.cedar_conversion.specs.outcome.Detail.{spelling}
use Rattle.cedar_conversion.specs.outcome.Outcome.{duplicate_annotation, faults_outcome}
use Rattle.cedar_conversion.specs.outcome.Seen.{Gives}
use Rattle.cedar_conversion.specs.machines.Views.{empty_view}
use Rattle.cedar_policy_conversion.proofs.FilledMaps.{with_entry}
use Rattle.cedar_policy_conversion.proofs.annotations.keep.Goals as goal

some_is : {T : Type 0} (o : Option T) → IsSome o → is_some o ≡ true
some_is (Some x) h = refl
some_is None h = cc

-- the entry's key is that which was asked for
pub returns-in-Occupied-clause-known : goal.returns-in-Occupied-clause-known
returns-in-Occupied-clause-known g c ordered known =
    let at = subst (λ e. text_order c.args.pair.0 (entry_key e) ≡ Equal) c.in-Occupied.is c.in_ok-known.ensures.same_key in
    let key : c.key.result.now ≡ c.args.pair.0 = c.key.ensures ∙ sym (tied_texts _ _ at) in
    (search rules, λ faults h. subst (λ k. Gives empty_view c.add_fault.result (faults_outcome (faults ++ (duplicate_annotation, c.args.loc.now, spelling k) ∷ []))) key (c.add_fault.ensures.told faults _ h c.duplicate.ensures))

pub returns-in-Occupied-clause-new : goal.returns-in-Occupied-clause-new
returns-in-Occupied-clause-new g c ordered fresh =
    let found = subst (λ e. MatchEntry e (tree.ContainsKey text_order c.args.map.now c.args.pair.0 × (tree.get_key text_order c.args.map.now c.args.pair.0 ≡ Some (entry_key e))) (tree.get text_order c.args.map.now c.args.pair.0 ≡ None)) c.in-Occupied.is c.in_ok-known.ensures.found in
    absurd (false≢true (sym fresh ∙ contains-map_in c.args.map.now c.args.pair.0 ordered ∙ some_is _ found.0))

pub returns-in-Vacant-clause-known : goal.returns-in-Vacant-clause-known
returns-in-Vacant-clause-known g c ordered known =
    let missed = subst (λ e. MatchEntry e (tree.ContainsKey text_order c.args.map.now c.args.pair.0 × (tree.get_key text_order c.args.map.now c.args.pair.0 ≡ Some (entry_key e))) (tree.get text_order c.args.map.now c.args.pair.0 ≡ None)) c.in-Vacant.is c.in_ok-known.ensures.found in
    absurd (false≢true (sym (ap is_some missed) ∙ sym (contains-map_in c.args.map.now c.args.pair.0 ordered) ∙ known))

pub returns-in-Vacant-clause-new : goal.returns-in-Vacant-clause-new
returns-in-Vacant-clause-new g c ordered fresh = inr (refl, search (rules, with_entry))
