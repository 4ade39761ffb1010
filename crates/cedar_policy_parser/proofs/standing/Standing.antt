-- Where the faults of what is joined stand, of where those of the parts do.
use Rattle.std.proofs.Common.{◌≡◌, ◌≢◌, Bool, true, false, cond, List, [], ◌∷◌, ◌++◌, Option, Some, None, Ok, Err, refl, ◌∙◌, subst, arith}
use Rattle.std.specs.List.{All}
use Rattle.std.proofs.lemmas.List.Elements.{All-nil, All-cons, All-append, All-weaker}
use Rattle.cedar_syntax.specs.declared.loc.Loc.{Loc}
use Rattle.cedar_conversion.specs.outcome.Detail.{Detail}
use Rattle.cedar_conversion.specs.outcome.Outcome.{Kind, NamedFault, Outcome, both, next, empty_node, invalid_identifier, duplicate_policy_id, duplicate_template_id, membership_invariant_violation, missing_scope_variable, extra_scope_element}
use Rattle.cedar_policy_parser.specs.faults.Standing.{LiesWithin, FaultWithin, StandWithin}

-- which tree: any, by hand too; or one that is read from tokens and stands within a place
pub data Origin : Type 0 where
  by_hand : Origin
  parsed : Option Loc → Origin

-- what no tree has that is read
abbrev pub ByHand : Origin → Type 0
ByHand by_hand = Unit {0}
ByHand (parsed outer) = ⊥

abbrev pub LiesIn : Origin → Option Loc → Type 0
LiesIn by_hand place = Unit {0}
LiesIn (parsed outer) place = LiesWithin outer place

-- what lies within a place lies within itself
pub self_within : (w p : Option Loc) → LiesWithin w p → LiesWithin p p
self_within None None h = h
self_within None (Some loc) h = absurd h
self_within (Some outer) None h = h
self_within (Some outer) (Some loc) h = (refl, omega arith, omega arith)

pub within_within : (a b c : Option Loc) → LiesWithin a b → LiesWithin b c → LiesWithin a c
within_within (Some a) (Some b) (Some c) h g = let x = h.1 in let y = h.2 in let z = g.1 in let w = g.2 in (g.0 ∙ h.0, omega arith, omega arith)
within_within (Some a) (Some b) None h g = absurd g
within_within (Some a) None c h g = absurd h
within_within None b c h g = absurd h

pub anywhere : (o : Origin) (place : Option Loc) → ByHand o → LiesIn o place
anywhere by_hand place h = tt
anywhere (parsed outer) place h = absurd h

-- the kinds of fault of such a tree
abbrev pub Kinds : Type 1
Kinds = Origin → Kind → Type 0

-- a fault of such a kind within a place
abbrev pub KindWithin : Kinds → Origin → NamedFault → Type 0
KindWithin K o fault = K o fault.0 × LiesIn o fault.1

-- faults, each such a one
abbrev pub FaultsWithin : Kinds → Origin → List NamedFault → Type 0
FaultsWithin K o fs = (fs ≢ []) × All (KindWithin K o) fs

-- what is given has a property; else the faults are of such kinds and stand within a place
abbrev pub Stands : {Y : Type 0} → Kinds → Origin → (Y → Type 0) → Outcome Y → Type 0
Stands K o Q (Ok y) = Q y
Stands K o Q (Err fs) = FaultsWithin K o fs

abbrev pub Anything : {Y : Type 0} → Y → Type 0
Anything y = Unit {0}

abbrev pub BothHold : {X Y : Type 0} → (X → Type 0) → (Y → Type 0) → X × Y → Type 0
BothHold Q R p = Q p.0 × R p.1

-- ---- kinds

-- the kinds of a policy: no name that another policy has, nor what stands for a fault of a text;
-- and of one that is read no empty node and no identifier's spelling
abbrev pub IsTold : Kinds
IsTold o empty_node = ByHand o
IsTold o invalid_identifier = ByHand o
IsTold o duplicate_policy_id = ⊥
IsTold o duplicate_template_id = ⊥
IsTold o membership_invariant_violation = ⊥
IsTold o _ = Unit {0}

-- and those of an expression or an element of the scope: nothing is missing there, and nothing is
-- too much
abbrev pub IsPlain : Kinds
IsPlain o empty_node = ByHand o
IsPlain o invalid_identifier = ByHand o
IsPlain o duplicate_policy_id = ⊥
IsPlain o duplicate_template_id = ⊥
IsPlain o membership_invariant_violation = ⊥
IsPlain o missing_scope_variable = ⊥
IsPlain o extra_scope_element = ⊥
IsPlain o _ = Unit {0}

plain_told : (o : Origin) (kind : Kind) → IsPlain o kind → IsTold o kind
plain_told o empty_node h = h
plain_told o invalid_identifier h = h
plain_told o duplicate_policy_id h = h
plain_told o duplicate_template_id h = h
plain_told o membership_invariant_violation h = h
plain_told o missing_scope_variable h = tt
plain_told o extra_scope_element h = tt
plain_told o kind h = tt

not_empty : (outer : Option Loc) (kind : Kind) → IsTold (parsed outer) kind → kind ≢ empty_node
not_empty outer kind h e = subst (IsTold (parsed outer)) e h

not_misspelled : (outer : Option Loc) (kind : Kind) → IsTold (parsed outer) kind → kind ≢ invalid_identifier
not_misspelled outer kind h e = subst (IsTold (parsed outer)) e h

pub no_policy_name : (o : Origin) (kind : Kind) → IsTold o kind → kind ≢ duplicate_policy_id
no_policy_name o kind h e = subst (IsTold o) e h

pub no_template_name : (o : Origin) (kind : Kind) → IsTold o kind → kind ≢ duplicate_template_id
no_template_name o kind h e = subst (IsTold o) e h

pub no_text_fault : (o : Origin) (kind : Kind) → IsTold o kind → kind ≢ membership_invariant_violation
no_text_fault o kind h e = subst (IsTold o) e h

-- ---- a fault alone

more_faults : (f : NamedFault) (fs : List NamedFault) → (f ∷ fs) ≢ []
more_faults f fs e = cc

pub alone : (K : Kinds) (o : Origin) (kind : Kind) (place : Option Loc) {d : Detail} → K o kind → LiesIn o place → FaultsWithin K o ((kind, place, d) ∷ [])
alone K o kind place {d} k h = (more_faults _ _, All-cons (KindWithin K o) (kind, place, d) [] (k, h) (All-nil (KindWithin K o)))

-- one fault before others
pub one_before : (K : Kinds) (o : Origin) (kind : Kind) (place : Option Loc) (d : Detail) (fs : List NamedFault) → K o kind → LiesIn o place → All (KindWithin K o) fs → All (KindWithin K o) ((kind, place, d) ∷ fs)
one_before K o kind place d fs k h all = All-cons (KindWithin K o) (kind, place, d) fs (k, h) all

pub some_faults : (K : Kinds) (o : Origin) (f : NamedFault) (fs : List NamedFault) → All (KindWithin K o) (f ∷ fs) → FaultsWithin K o (f ∷ fs)
some_faults K o f fs all = (more_faults f fs, all)

pub no_faults : (K : Kinds) (o : Origin) → All (KindWithin K o) []
no_faults K o = All-nil (KindWithin K o)

-- ---- the joins

some_append : (fs gs : List NamedFault) → fs ≢ [] → (fs ++ gs) ≢ []
some_append [] gs h e = h refl
some_append (f ∷ fs) gs h e = cc

pub more_within : (K : Kinds) (o : Origin) (fs gs : List NamedFault) → FaultsWithin K o fs → All (KindWithin K o) gs → FaultsWithin K o (fs ++ gs)
more_within K o fs gs h k = (some_append fs gs h.0, All-append (KindWithin K o) fs gs h.1 k)

pub both_stand : {X Y : Type 0} (K : Kinds) (o : Origin) (Q : X → Type 0) (R : Y → Type 0) (x : Outcome X) (y : Outcome Y) → Stands K o Q x → Stands K o R y → Stands K o (BothHold Q R) (both x y)
both_stand K o Q R (Ok x) (Ok y) a b = (a, b)
both_stand K o Q R (Ok x) (Err gs) a b = b
both_stand K o Q R (Err fs) (Ok y) a b = a
both_stand K o Q R (Err fs) (Err gs) a b = more_within K o fs gs a b.1

pub next_stands : {X Y : Type 0} (K : Kinds) (o : Origin) (Q : X → Type 0) (R : Y → Type 0) (x : Outcome X) (f : X → Outcome Y) → Stands K o Q x → ((y : X) → Q y → Stands K o R (f y)) → Stands K o R (next x f)
next_stands K o Q R (Ok x) f a k = k x a
next_stands K o Q R (Err fs) f a k = a

-- the same where nothing is known of what is given
pub both_any : {X Y : Type 0} (K : Kinds) (o : Origin) (x : Outcome X) (y : Outcome Y) → Stands K o Anything x → Stands K o Anything y → Stands K o Anything (both x y)
both_any K o (Ok x) (Ok y) a b = tt
both_any K o (Ok x) (Err gs) a b = b
both_any K o (Err fs) (Ok y) a b = a
both_any K o (Err fs) (Err gs) a b = more_within K o fs gs a b.1

pub then_stands : {X Y : Type 0} (K : Kinds) (o : Origin) (R : Y → Type 0) (x : Outcome X) (f : X → Outcome Y) → Stands K o Anything x → ((y : X) → Stands K o R (f y)) → Stands K o R (next x f)
then_stands K o R (Ok x) f a k = k x
then_stands K o R (Err fs) f a k = a

pub if_stands : {X : Type 0} (K : Kinds) (o : Origin) (Q : X → Type 0) (b : Bool) (x y : Outcome X) → Stands K o Q x → Stands K o Q y → Stands K o Q (cond b x y)
if_stands K o Q true x y h k = h
if_stands K o Q false x y h k = k

-- ---- what is told

pub weaker : {X : Type 0} (o : Origin) (Q : X → Type 0) (x : Outcome X) → Stands IsPlain o Q x → Stands IsTold o Q x
weaker o Q (Ok x) a = a
weaker o Q (Err fs) a = (a.0, All-weaker (KindWithin IsPlain o) (KindWithin IsTold o) (λ f h. (plain_told o f.0 h.0, h.1)) fs a.1)

pub stand_within : {X : Type 0} (outer : Option Loc) (x : Outcome X) → Stands IsTold (parsed outer) Anything x → StandWithin outer x
stand_within outer (Ok x) a = tt
stand_within outer (Err fs) a = (a.0, All-weaker (KindWithin IsTold (parsed outer)) (FaultWithin outer) (λ f h. (not_empty outer f.0 h.0, not_misspelled outer f.0 h.0, h.1)) fs a.1)

-- what is refused is told
pub some_told : {X : Type 0} (o : Origin) (x : Outcome X) (fs : List NamedFault) → Stands IsTold o Anything x → x ≡ Err fs → fs ≢ []
some_told o x fs h e = (subst (Stands IsTold o Anything) e h).0
