-- What holds of each fault of what is joined, of what holds of each fault of the parts.
use Rattle.std.proofs.Common.{◌≡◌, ◌≢◌, ℕ, Bool, true, false, cond, List, [], ◌∷◌, Option, Ok, Err, refl}
use Rattle.std.specs.List.{All}
use Rattle.std.proofs.lemmas.List.Elements.{All-nil, All-cons, All-append, All-weaker}
use Rattle.cedar_syntax.specs.declared.err.escape.UnescapeError.{UnescapeError}
use Rattle.cedar_syntax.specs.declared.loc.Loc.{Loc}
use Rattle.cedar_policy_parser.specs.faults.DueKinds.{IsDue, IsDueIn, AreDueIn}
use Rattle.cedar_conversion.specs.strict.Extensions.{Extensions}
use Rattle.cedar_conversion.specs.outcome.Detail.{Detail, nothing, escape}
use Rattle.cedar_conversion.specs.outcome.Outcome.{Kind, NamedFault, Outcome, both, next}
use Rattle.cedar_policy_parser.specs.faults.Sites as site
use Rattle.cedar_policy_parser.specs.faults.Sites.{Site, IsPart, IsSiteOf, site_place}
use Rattle.cedar_policy_parser.specs.faults.Standing.{LiesWithin}
use Rattle.cedar_conversion.specs.parts.Strings.{string_faults, unless_faulty, text_outcome, escape_faults, unescaped}
use Rattle.cedar_conversion.specs.outcome.Outcome as k
use Rattle.cedar_policy_parser.proofs.standing.Standing.{Anything, BothHold}

-- ---- joins

-- a fault without what it tells beside its kind and its place
abbrev pub Sited : Type 0
Sited = Kind × Option Loc

abbrev pub Told : (Sited → Type 0) → NamedFault → Type 0
Told P fault = P (fault.0, fault.1)

abbrev pub Tells : {Y : Type 0} → (Sited → Type 0) → (Y → Type 0) → Outcome Y → Type 0
Tells P Q (Ok y) = Q y
Tells P Q (Err fs) = All (Told P) fs

pub one : (P : Sited → Type 0) (kind : Kind) (p : Option Loc) (d : Detail) → P (kind, p) → All (Told P) ((kind, p, d) ∷ [])
one P kind p d h = All-cons (Told P) (kind, p, d) [] h (All-nil (Told P))

pub both_tell : {X Y : Type 0} (P : Sited → Type 0) (Q : X → Type 0) (R : Y → Type 0) (x : Outcome X) (y : Outcome Y) → Tells P Q x → Tells P R y → Tells P (BothHold Q R) (both x y)
both_tell P Q R (Ok x) (Ok y) a b = (a, b)
both_tell P Q R (Ok x) (Err gs) a b = b
both_tell P Q R (Err fs) (Ok y) a b = a
both_tell P Q R (Err fs) (Err gs) a b = All-append (Told P) fs gs a b

pub next_tells : {X Y : Type 0} (P : Sited → Type 0) (Q : X → Type 0) (R : Y → Type 0) (x : Outcome X) (f : X → Outcome Y) → Tells P Q x → ((y : X) → x ≡ Ok y → Q y → Tells P R (f y)) → Tells P R (next x f)
next_tells P Q R (Ok x) f a k = k x refl a
next_tells P Q R (Err fs) f a k = a

-- the same of what is told elsewhere, where it implies what is to be told here
pub lift : {X : Type 0} (P R : Sited → Type 0) (Q : X → Type 0) (x : Outcome X) → ((f : Sited) → P f → R f) → Tells P Q x → Tells R Q x
lift P R Q (Ok x) g a = a
lift P R Q (Err fs) g a = All-weaker (Told P) (Told R) (λ f. g (f.0, f.1)) fs a

pub forget : {X : Type 0} (P : Sited → Type 0) (Q : X → Type 0) (x : Outcome X) → Tells P Q x → Tells P Anything x
forget P Q (Ok x) a = tt
forget P Q (Err fs) a = a

pub if_tells : {X : Type 0} (P : Sited → Type 0) (Q : X → Type 0) (b : Bool) (x y : Outcome X) → (b ≡ true → Tells P Q x) → (b ≡ false → Tells P Q y) → Tells P Q (cond b x y)
if_tells P Q true x y h k = h refl
if_tells P Q false x y h k = k refl

-- ---- due faults

abbrev pub Due : Extensions → Site → Sited → Type 0
Due e s fault = IsDueIn e s (fault.0, fault.1, nothing)

pub in_part : (e : Extensions) (s t : Site) → IsPart s t → (fault : Sited) → Due e s fault → Due e t fault
in_part e s t i fault d = (d.0, site.below i d.1, d.2, d.3)

pub here : (e : Extensions) (s : Site) (kind : Kind) (p : Option Loc) → IsDue e kind s → LiesWithin (site_place s) p → Due e s (kind, p)
here e s kind p d h = (s, site.itself, d, h)

-- a part's faults are the whole's
pub up : {X : Type 0} (e : Extensions) (s t : Site) (Q : X → Type 0) (x : Outcome X) → IsPart s t → Tells (Due e s) Q x → Tells (Due e t) Q x
up e s t Q x i a = lift (Due e s) (Due e t) Q x (in_part e s t i) a

pub are_due : {X : Type 0} (e : Extensions) (s : Site) (Q : X → Type 0) (x : Outcome X) → Tells (Due e s) Q x → AreDueIn e s x
are_due e s Q (Ok x) a = tt
are_due e s Q (Err fs) a = a

-- ---- strings

abbrev Faults : Type 0
Faults = List UnescapeError

told : (P : Sited → Type 0) (p : Option Loc) (faults : Faults) → P (k.unescape, p) → All (Told P) (string_faults p faults)
told P p [] h = All-nil (Told P)
told P p (fault ∷ faults) h = All-cons (Told P) (k.unescape, p, escape fault) (string_faults p faults) h (told P p faults h)

some : (fault : UnescapeError) (faults : Faults) → (fault ∷ faults) ≢ []
some fault faults e = cc

pub unless_tells : {X : Type 0} (P : Sited → Type 0) (p : Option Loc) (faults : Faults) (x : X) → (faults ≢ [] → P (k.unescape, p)) → Tells P Anything (unless_faulty p faults x)
unless_tells P p [] x h = tt
unless_tells P p (fault ∷ faults) x h = told P p (fault ∷ faults) (h (some fault faults))

pub text_tells : (P : Sited → Type 0) (p : Option Loc) (raw : List ℕ) → (escape_faults raw ≢ [] → P (k.unescape, p)) → Tells P Anything (text_outcome p raw)
text_tells P p raw h = unless_tells P p (escape_faults raw) (unescaped raw) h
