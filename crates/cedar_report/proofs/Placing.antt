-- Where a fault with a place stands, and one without.
use Rattle.std.proofs.Common.{◌≡◌, ℕ, List, [], Option, Some, None, Result, Ok, Err, IfOk, subst, arith}
use Rattle.cedar_syntax.specs.places.Span.{Span, end_of}
use Rattle.cedar_report.specs.declared.told.Standing.{Standing}
use Rattle.cedar_report.specs.Findings.{HasBytes, HasCause, IsSeenAt, IsSeenSomewhere, AreRelatedSeen}

pub some_bytes : {E : Type 0} (r : Result Standing E) (text : List ℕ) (o : Option Span) (s : Span) (a b : ℕ) → o ≡ Some s → a ≡ s.offset → b ≡ end_of s → IfOk r (λ p. IsSeenAt text a b p.extent) → IfOk r (λ p. HasBytes text o p.extent)
some_bytes (Ok p) text o s a b e m n h =
    let P : ℕ → Type 0 = λ x. IsSeenAt text x b p.extent in
    let Q : ℕ → Type 0 = λ y. IsSeenAt text s.offset y p.extent in
    rw e (subst Q n (subst P m h))
some_bytes (Err x) text o s a b e m n h = tt

pub some_cause : {E : Type 0} (r : Result Standing E) (text : List ℕ) (o : Option Span) (s : Span) → o ≡ Some s → IfOk r (λ p. IsSeenSomewhere text p.cause) → IfOk r (λ p. HasCause text o p.cause)
some_cause (Ok p) text o s e h = rw e h
some_cause (Err x) text o s e h = tt

pub none_bytes : {E : Type 0} (r : Result Standing E) (text : List ℕ) (o : Option Span) → o ≡ None → IfOk r (λ p. (p.extent ≡ None) × (p.cause ≡ None) × (p.related.items ≡ [])) → IfOk r (λ p. HasBytes text o p.extent)
none_bytes (Ok p) text o e h = rw e (rw h.0 tt)
none_bytes (Err x) text o e h = tt

pub none_cause : {E : Type 0} (r : Result Standing E) (text : List ℕ) (o : Option Span) → o ≡ None → IfOk r (λ p. (p.extent ≡ None) × (p.cause ≡ None) × (p.related.items ≡ [])) → IfOk r (λ p. HasCause text o p.cause)
none_cause (Ok p) text o e h = rw e (rw h.1 tt)
none_cause (Err x) text o e h = tt

pub none_related : {E : Type 0} (r : Result Standing E) (text : List ℕ) → IfOk r (λ p. (p.extent ≡ None) × (p.cause ≡ None) × (p.related.items ≡ [])) → IfOk r (λ p. AreRelatedSeen text p.related.items)
none_related (Ok p) text h = rw h.2 (λ k d l. absurd (omega (arith, l)))
none_related (Err x) text h = tt
