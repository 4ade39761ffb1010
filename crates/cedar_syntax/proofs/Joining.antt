-- Results joined one behind another.
use Rattle.std.proofs.Common.{◌≡◌, List, [], ◌∷◌, ◌++◌, Result, Ok, Err, IfOk, IfErr, IsErrAnd, refl}
use Rattle.std.proofs.lemmas.List.{append-nil}
use Rattle.cedar_syntax.specs.faults.ParseErrors.{faults_of}
use Rattle.cedar_syntax.specs.declared.err.faults.Failure.{Failure}
use Rattle.cedar_syntax.specs.declared.err.faults.Failure.TheVariants.{Memory, Errors}
use Rattle.cedar_syntax.specs.faults.Joined.{failures, IsJoined}

-- a part that fails, and then parts whose joined failure this is
two_or_more : (f x g : Failure) (ys : List Failure) → IsJoined g ys → IsJoined f (x ∷ g ∷ []) →
    IsJoined f (x ∷ ys)
two_or_more f x g [] is joined = elim is [ ]
two_or_more f x g (y ∷ []) is joined = rw (← is) joined
two_or_more (Memory e) x g (y ∷ z ∷ ys) is joined = tt
two_or_more (Errors es) (Memory d) g (y ∷ z ∷ ys) is joined = cc
two_or_more (Errors es) (Errors xs) (Memory e) (y ∷ z ∷ ys) is joined = cc
two_or_more (Errors es) (Errors xs) (Errors gs) (y ∷ z ∷ ys) is joined =
    rw (is, ← append-nil (faults_of gs)) joined

-- a part, and behind it others that are joined
pub joined_behind : {T U : Type 0} (first : Result T Failure) (others : Result U Failure)
    (ys : List Failure) (f : Failure) → IfOk others (λ all. ys ≡ []) →
    IfErr others (λ g. IsJoined g ys) → IsJoined f (failures first ++ failures others) →
    IsJoined f (failures first ++ ys)
joined_behind first (Ok all) ys f none some joined = rw none joined
joined_behind (Ok v) (Err g) ys f none some joined = rw joined some
joined_behind (Err x) (Err g) ys f none some joined = two_or_more f x g ys some joined

-- parts that are there have no failure
pub three_there : {T U V : Type 0} (first : Result T Failure) (second : Result U Failure)
    (third : Result V Failure) (all : Result (T × U × V) Failure) →
    IfOk all (λ v. (first ≡ Ok v.0) × (second ≡ Ok v.1) × (third ≡ Ok v.2)) →
    IfOk all (λ v. failures first ++ (failures second ++ failures third) ≡ [])
three_there first second third (Ok v) there = rw (there.0, there.1, there.2) refl
three_there first second third (Err f) there = tt

-- a failure that `?` passes on
pub passed : {T : Type 0} (answer : Result T Failure) (f : Failure) (Q : Failure → Type 0) →
    IsErrAnd answer (λ g. g ≡ f) → Q f → IfErr answer Q
passed (Ok v) f Q is q = tt
passed (Err g) f Q is q = rw is q
