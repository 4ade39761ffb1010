-- Answers held against outcomes that are joined.
use Rattle.std.proofs.Common.{append-nil, ◌≡◌, ◌<◌, ◌+◌, ℕ, List, [], ◌∷◌, ◌++◌, append_assoc, map, take, length, get_or, Option, Result, Ok, Err, IfOk, IfErr, IsOkAnd, IsErrAnd, MatchResult, alloc_error, refl, sym, ap, ◌∙◌}
use Rattle.cedar_expressions.specs.Value.{Value}
use Rattle.std.specs.declared.alloc.AllocError.{AllocError}
use Rattle.std.specs.declared.alloc.Global.{Global}
use Rattle.std.specs.declared.vec.Vec.{Vec}
use Rattle.cedar_syntax.specs.faults.ParseErrors.{faults_of}
use Rattle.cedar_syntax.specs.declared.loc.Loc.{Loc}
use Rattle.cedar_syntax.specs.declared.err.faults.Failure.{Failure}
use Rattle.cedar_syntax.specs.declared.err.faults.Failure.TheVariants.{Memory, Errors}
use Rattle.cedar_syntax.specs.declared.err.faults.ParseError.{ParseError}
use Rattle.cedar_syntax.specs.declared.err.to_ast.ToASTErrorKind.{ToASTErrorKind}
use Rattle.cedar_syntax.specs.trees.Forms.{parts_of}
use Rattle.cedar_syntax.specs.trees.Located.{Located, none}
use Rattle.cedar_syntax.specs.trees.Tree.{Operator}
use Rattle.cedar_syntax.specs.faults.Joined.{TellsBoth, TellsFaults, WantsMemory}
use Rattle.cedar_conversion.specs.outcome.Conversion.{Part, operands, with_part, factor, value_outcome}
use Rattle.cedar_conversion.specs.strict.Extensions.{Extensions}
use Rattle.cedar_conversion.specs.outcome.Detail.{Detail, nothing}
use Rattle.cedar_conversion.specs.outcome.Outcome.{Kind, NamedFault, Outcome, both, next, fault_outcome, detailed_outcome, item_more}
use Rattle.cedar_conversion.specs.outcome.Seen.{Refuses, Gives, itself, detail_of, kind_of, named_faults, named_fault}
use Rattle.cedar_conversion.specs.machines.Views.{TellsAlone, TellsOne, Grows, alike_view, refused, one_more, rest_view}
use Rattle.cedar_conversion.proofs.Loops.{take_next, map_snoc}

-- ---- faults

pub told-append : (fs gs : List ParseError) → named_faults (fs ++ gs) ≡ named_faults fs ++ named_faults gs
told-append [] gs = refl
told-append (f ∷ fs) gs = ap (λ hs. named_fault f ∷ hs) (told-append fs gs)

-- one fault alone is a refusal with it
pub refused_at : (Y : Type 0) (f : Failure) (kind : Kind) (place : Option Loc) → TellsAlone f kind place → Refuses {Y = Y} f (fault_outcome kind place)
refused_at Y (Memory e) kind place h = tt
refused_at Y (Errors es) kind place h = ap Err (sym h)

-- the same of a fault that tells more than its kind
pub refused_with : (Y : Type 0) (f : Failure) (kind : Kind) (place : Option Loc) (detail : Detail) → TellsOne f (kind, place, detail) → Refuses {Y = Y} f (detailed_outcome kind place detail)
refused_with Y (Memory e) kind place detail h = tt
refused_with Y (Errors es) kind place detail h = ap Err (sym h)

-- an outcome that is one fault refuses with what tells it
pub refuses : {Y : Type 0} (f : Failure) (o : Outcome Y) (kind : Kind) (place : Option Loc) → o ≡ fault_outcome kind place → TellsAlone f kind place → Refuses f o
refuses {Y = Y} f o kind place e h = rw e (refused_at Y f kind place h)

pub refuses_with : {Y : Type 0} (f : Failure) (o : Outcome Y) (kind : Kind) (place : Option Loc) (detail : Detail) → o ≡ detailed_outcome kind place detail → TellsOne f (kind, place, detail) → Refuses f o
refuses_with {Y = Y} f o kind place detail e h = rw e (refused_with Y f kind place detail h)

-- faults, or want of memory for them, refuse what the faults refuse
pub kept_refusal : {Y : Type 0} (f : Failure) (faults : List ParseError) (o : Outcome Y) → TellsFaults f faults → o ≡ Err (named_faults faults) → Refuses f o
kept_refusal (Memory e) faults o t h = tt
kept_refusal (Errors es) faults o t h = h ∙ ap (λ fs. Err (named_faults fs)) (sym t)

-- one fault alone, or want of memory for it
pub told_alone : (f : Failure) (faults : List ParseError) (fault : NamedFault) → TellsFaults f faults → named_faults faults ≡ fault ∷ [] → TellsOne f fault
told_alone (Memory e) faults fault t h = tt
told_alone (Errors es) faults fault t h = ap named_faults t ∙ h

-- a kind of the program's is this one and tells this beside itself
abbrev pub Tells : Kind → Detail → ToASTErrorKind → Type 0
Tells kind detail made = (kind_of made ≡ kind) × (detail_of made ≡ detail)

-- what a constructor makes of what memory was asked for is of the constructor's kind
pub made_of_kind : {T : Type 0} (given : Result T AllocError) (made : Result ToASTErrorKind AllocError) (make : T → ToASTErrorKind) (kind : Kind) → ((x : T) → Tells kind nothing (make x)) →
    MatchResult given (λ x. IsOkAnd made (λ y. y ≡ make x)) (λ e. made ≡ Err e) → IfOk made (Tells kind nothing)
made_of_kind (Ok x) (Ok y) make kind h m = (ap kind_of m ∙ (h x).0, ap detail_of m ∙ (h x).1)
made_of_kind (Ok x) (Err e) make kind h m = tt
made_of_kind (Err e) (Ok y) make kind h m = cc
made_of_kind (Err e) (Err d) make kind h m = tt

-- and tells of what is given what it tells of what that is
pub made_telling : {T : Type 0} (given : Result T AllocError) (made : Result ToASTErrorKind AllocError) (make : T → ToASTErrorKind) (whole : T) (kind : Kind) (detail : Detail) → IfOk given (λ x. x ≡ whole) → Tells kind detail (make whole) →
    MatchResult given (λ x. IsOkAnd made (λ y. y ≡ make x)) (λ e. made ≡ Err e) → IfOk made (Tells kind detail)
made_telling (Ok x) (Ok y) make whole kind detail same h m = (ap kind_of m ∙ ap (λ z. kind_of (make z)) same ∙ h.0, ap detail_of m ∙ ap (λ z. detail_of (make z)) same ∙ h.1)
made_telling (Ok x) (Err e) make whole kind detail same h m = tt
made_telling (Err e) (Ok y) make whole kind detail same h m = cc
made_telling (Err e) (Err d) make whole kind detail same h m = tt

-- ---- what is joined

-- what refuses what is wanted first refuses all that comes next
pub refused_next : {X Y : Type 0} (f : Failure) (x : Outcome X) (g : X → Outcome Y) → Refuses f x → Refuses f (next x g)
refused_next (Memory e) x g h = tt
refused_next (Errors es) (Ok x) g h = cc
refused_next (Errors es) (Err fs) g h = let same : fs ≡ named_faults (faults_of es) = cc in ap Err same

pub given_next : {X Y : Type 0} (o : Outcome X) (x : X) (g : X → Outcome Y) → o ≡ Ok x → next o g ≡ g x
given_next o x g e = rw e refl

pub next_next : {X Y Z : Type 0} (o : Outcome X) (f : X → Outcome Y) (g : Y → Outcome Z) → next o (λ x. next (f x) g) ≡ next (next o f) g
next_next (Ok x) f g = refl
next_next (Err fs) f g = refl

pub both_with : {X Y Z : Type 0} (x : Outcome X) (y : Y) (f : X × Y → Outcome Z) → next (both x (Ok y)) f ≡ next x (λ h. f (h, y))
both_with (Ok h) y f = refl
both_with (Err fs) y f = refl

joined_faults : (es fs gs : List ParseError) → es ≡ fs ++ gs → named_faults fs ++ named_faults gs ≡ named_faults es
joined_faults es fs gs e = sym (told-append fs gs) ∙ ap named_faults (sym e)

-- the failure of two parts refuses both
pub both_refused : {A B X Y : Type 0} (u : A → X) (v : B → Y) (a : Result A Failure) (b : Result B Failure) (x : Outcome X) (y : Outcome Y) (f : Failure) → Gives u a x → Gives v b y → TellsBoth f a b
    → Refuses f (both x y)
both_refused u v a b x y (Memory e) h k t = tt
both_refused u v (Ok a) (Ok b) x y (Errors es) h k t = let impossible = t.0 in cc
both_refused u v (Ok a) (Err (Memory e)) x y (Errors es) h k t = absurd (t.2 tt)
both_refused u v (Err (Memory e)) b x y (Errors es) h k t = absurd (t.1 tt)
both_refused u v (Ok a) (Err (Errors gs)) x y (Errors es) h k t = rw (h, k) (ap (λ fs. Err (named_faults fs)) (sym t.0))
both_refused u v (Err (Errors gs)) (Ok b) x y (Errors es) h k t = rw (h, k) (ap (λ fs. Err (named_faults fs)) (sym (t.0 ∙ append-nil (faults_of gs))))
both_refused u v (Err (Errors gs)) (Err (Memory e)) x y (Errors es) h k t = absurd (t.2 tt)
both_refused u v (Err (Errors fs)) (Err (Errors gs)) x y (Errors es) h k t = rw (h, k) (ap Err (joined_faults (faults_of es) (faults_of fs) (faults_of gs) t.0))

-- the same of a failure behind a part
pub behind_refused : {A X Y : Type 0} (u : A → X) (a : Result A Failure) (failure : Failure) (x : Outcome X) (y : Outcome Y) (f : Failure) → Gives u a x → Refuses failure y → TellsBoth f a (refused failure)
    → Refuses f (both x y)
behind_refused u a g x y (Memory e) h k t = tt
behind_refused u (Ok a) (Memory e) x y (Errors es) h k t = absurd (t.2 tt)
behind_refused u (Ok a) (Errors gs) x y (Errors es) h k t = rw (h, k) (ap (λ fs. Err (named_faults fs)) (sym t.0))
behind_refused u (Err (Memory e)) g x y (Errors es) h k t = absurd (t.1 tt)
behind_refused u (Err (Errors fs)) (Memory e) x y (Errors es) h k t = absurd (t.2 tt)
behind_refused u (Err (Errors fs)) (Errors gs) x y (Errors es) h k t = rw (h, k) (ap Err (joined_faults (faults_of es) (faults_of fs) (faults_of gs) t.0))

pub both_given : {A B X Y : Type 0} (u : A → X) (v : B → Y) (a : Result A Failure) (b : Result B Failure) (x : Outcome X) (y : Outcome Y) (p : A) (q : B) → Gives u a x → Gives v b y → a ≡ Ok p → b ≡ Ok q
    → both x y ≡ Ok (u p, v q)
both_given u v a b x y p q h k e f =
    let first : x ≡ Ok (u p) = rw e at h in
    let second : y ≡ Ok (v q) = rw f at k in
    rw (first, second) refl

-- two results joined are the outcomes joined
pub both_gives : {A B X Y : Type 0} (u : A → X) (v : B → Y) (a : Result A Failure) (b : Result B Failure) (r : Result (A × B) Failure) (x : Outcome X) (y : Outcome Y)
    → IfOk r (λ p. (a ≡ Ok p.0) × (b ≡ Ok p.1)) → IfErr r (λ f. TellsBoth f a b) → Gives u a x → Gives v b y → Gives (λ p. (u p.0, v p.1)) r (both x y)
both_gives u v a b (Ok p) x y ok err h k = both_given u v a b x y p.0 p.1 h k ok.0 ok.1
both_gives u v a b (Err f) x y ok err h k = both_refused u v a b x y f h k err

-- what is made of a value
pub then_gives : {X Y Z : Type 0} (u : X → Y) (f : Y → Z) (r : Result X Failure) (o : Outcome Y) → Gives u r o → Gives (λ x. f (u x)) r (next o (λ y. Ok (f y)))
then_gives u f (Ok x) o h = rw h refl
then_gives u f (Err e) o h = refused_next e o (λ y. Ok (f y)) h

-- what `?` passes on
pub passed_on : {X Y : Type 0} (u : X → Y) (r : Result X Failure) (f : Failure) (o : Outcome Y) → IsErrAnd r (λ e. e ≡ f) → Refuses f o → Gives u r o
passed_on u (Ok x) f o is h = absurd is
passed_on u (Err e) f o is h = rw is h

-- want of memory, which `?` passes on
pub wanting : {X Y : Type 0} (u : X → Y) (r : Result X Failure) (o : Outcome Y) → IsErrAnd r (λ e. e ≡ Memory alloc_error) → Gives u r o
wanting u (Ok x) o is = absurd is
wanting u (Err e) o is = rw is tt

pub wants : {X : Type 0} (r : Result X Failure) → IsErrAnd r (λ e. e ≡ Memory alloc_error) → WantsMemory r
wants (Ok x) is = absurd is
wants (Err (Memory e)) is = tt
wants (Err (Errors es)) is = cc

-- an outcome in other words
pub gives_at : {X Y : Type 0} (u : X → Y) (r : Result X Failure) (o p : Outcome Y) → o ≡ p → Gives u r p → Gives u r o
gives_at u r o p e h = rw e h

-- the same of an answer that is left in its place
pub gives_left : {X Y : Type 0} (u : X → Y) (place r : Result X Failure) (o p : Outcome Y) → place ≡ r → o ≡ p → Gives u r p → Gives u place o
gives_left u place r o p i e h = rw (i, e) h

-- the same of an answer that was taken from its place
pub given_in : {X Y : Type 0} (u : X → Y) (r place : Result X Failure) (o : Outcome Y) → r ≡ place → Gives u place o → Gives u r o
given_in u r place o i h = rw i h

-- what refuses what is given is want of memory, and so refuses anything
pub nothing_refused : {X Y : Type 0} (f : Failure) (x : X) (o : Outcome Y) → Refuses {Y = X} f (Ok x) → Refuses f o
nothing_refused (Memory e) x o h = tt
nothing_refused (Errors es) x o h = cc

-- ---- lists that grow

-- a list that has grown is the outcome with one item more
pub grown_gives : {T X : Type 0} (u : T → X) (all : Result (Vec T Global) Failure) (item : Result T Failure) (grown : Result (Vec T Global) Failure) (xs : Outcome (List X)) (x : Outcome X)
    → Gives (λ v. map u v.items) all xs → Gives u item x → Grows all item grown → Gives (λ v. map u v.items) grown (item_more xs x)
grown_gives u (Ok a) (Ok t) (Ok g) xs x h k l = rw (h, k) (ap Ok (sym (ap (λ ts. map u ts) l ∙ map_snoc u a.items t)))
grown_gives u (Ok a) (Err f) (Ok g) xs x h k l = absurd l
grown_gives u (Err f) item (Ok g) xs x h k l = absurd l
grown_gives u all item (Err f) xs x h k l = refused_next f (both xs x) (λ p. Ok (p.0 ++ p.1 ∷ [])) (both_refused (λ v. map u v.items) u all item xs x f h k l)

-- the same of items that are seen as they are
pub items_grown : {T : Type 0} (all : Result (Vec T Global) Failure) (item : Result T Failure) (grown : Result (Vec T Global) Failure) (xs : Outcome (List T)) (x : Outcome T)
    → Gives (λ v. v.items) all xs → Gives itself item x → Grows all item grown → Gives (λ v. v.items) grown (item_more xs x)
items_grown (Ok a) (Ok t) (Ok g) xs x h k l = rw (h, k) (ap Ok (sym l))
items_grown (Ok a) (Err f) (Ok g) xs x h k l = absurd l
items_grown (Err f) item (Ok g) xs x h k l = absurd l
items_grown all item (Err f) xs x h k l = refused_next f (both xs x) (λ p. Ok (p.0 ++ p.1 ∷ [])) (both_refused (λ v. v.items) itself all item xs x f h k l)

item_behind : (op : Operator) (ps : Outcome (List Part)) (x : Outcome Value) → item_more ps (next x (λ v. Ok (op, v))) ≡ one_more op ps x
item_behind op (Ok ps) (Ok v) = refl
item_behind op (Ok ps) (Err gs) = refl
item_behind op (Err fs) (Ok v) = refl
item_behind op (Err fs) (Err gs) = refl

-- the same of a value behind the one operator of all
pub alike_grown : {E : Type 0} (op : Operator) (m : E → Value) (all : Result (Vec E Global) Failure) (e : Result E Failure) (grown : Result (Vec E Global) Failure) (ps : Outcome (List Part)) (x : Outcome Value)
    → Gives (alike_view op m) all ps → Gives m e x → Grows all e grown → Gives (alike_view op m) grown (one_more op ps x)
alike_grown op m all e grown ps x h k l =
    gives_at (alike_view op m) grown (one_more op ps x) (item_more ps (next x (λ v. Ok (op, v)))) (sym (item_behind op ps x))
    (grown_gives (λ e. (op, m e)) all e grown ps (next x (λ v. Ok (op, v))) h (then_gives m (λ v. (op, v)) e x k) l)

-- a list with nothing in it yet
pub empty_gives : {T X : Type 0} (u : T → X) (r : Result (Vec T Global) Failure) → Gives (λ v. v.items) r (Ok []) → Gives (λ v. map u v.items) r (Ok [])
empty_gives u (Ok v) h = let none : v.items ≡ [] = cc in rw none refl
empty_gives {T} {X} u (Err f) h = nothing_refused {X = List T} {Y = List X} f [] (Ok []) h

-- the same of a value behind an operator
pub value_grown : {O E : Type 0} (operator : O → Operator) (m : E → Value) (all : Result (Vec (O × E) Global) Failure) (op : O) (e : E) (grown : Result (Vec (O × E) Global) Failure) (ps : Outcome (List Part)) (x : Outcome Value)
    → Gives (rest_view operator m) all ps → x ≡ Ok (m e) → Grows all (Ok (op, e)) grown → Gives (rest_view operator m) grown (one_more (operator op) ps x)
value_grown {O} {E} operator m all op e grown ps x h k l =
    let u : O × E → Part = λ p. (operator p.0, m p.1) in
    gives_at (rest_view operator m) grown (one_more (operator op) ps x) (item_more ps (Ok (operator op, m e)))
    (ap (λ y. one_more (operator op) ps y) k ∙ sym (item_behind (operator op) ps (Ok (m e))))
    (grown_gives u all (Ok (op, e)) grown ps (Ok (operator op, m e)) h refl l)

-- and of what refuses the value
pub refusal_grown : {O E : Type 0} (operator : O → Operator) (m : E → Value) (all : Result (Vec (O × E) Global) Failure) (op : O) (f : Failure) (grown : Result (Vec (O × E) Global) Failure) (ps : Outcome (List Part)) (x : Outcome Value)
    → Gives (rest_view operator m) all ps → Refuses f x → Grows all (Err f) grown → Gives (rest_view operator m) grown (one_more (operator op) ps x)
refusal_grown {O} {E} operator m all op f grown ps x h k l =
    let u : O × E → Part = λ p. (operator p.0, m p.1) in
    let part : Value → Outcome Part = λ v. Ok (operator op, v) in
    gives_at (rest_view operator m) grown (one_more (operator op) ps x) (item_more ps (next x part)) (sym (item_behind (operator op) ps x))
    (grown_gives u all (Err f) grown ps (next x part) h (refused_next f x part k) l)

-- what `?` passes on is the failure of both
pub grown_refused : {T : Type 0} (all : Result (Vec T Global) Failure) (item : Result T Failure) (grown : Result (Vec T Global) Failure) (f : Failure) → IsErrAnd grown (λ e. e ≡ f) → TellsBoth f all item → Grows all item grown
grown_refused all item (Ok g) f is h = absurd is
grown_refused all item (Err e) f is h = rw is h

-- ---- operands, from the last

pub none_yet : (e : Extensions) (place : Option Loc) → operands e place none ≡ Ok []
unfolding operands
none_yet e place = refl

last : (op : Operator) (x : Outcome Value) → next (both x (Ok [])) (with_part op) ≡ one_more op (Ok []) x
last op (Ok v) = refl
last op (Err fs) = refl

shifted : (a b : Operator) (x : Outcome Value) (o : Outcome (List Part)) (y : Outcome Value) → next (both x (one_more b o y)) (with_part a) ≡ one_more b (next (both x o) (with_part a)) y
shifted a b (Ok x) (Ok o) (Ok y) = refl
shifted a b (Ok x) (Ok o) (Err hs) = refl
shifted a b (Ok x) (Err gs) (Ok y) = refl
shifted a b (Ok x) (Err gs) (Err hs) = refl
shifted a b (Err fs) (Ok o) (Ok y) = refl
shifted a b (Err fs) (Ok o) (Err hs) = refl
shifted a b (Err fs) (Err gs) (Ok y) = refl
shifted a b (Err fs) (Err gs) (Err hs) = ap Err (sym (append_assoc fs gs hs))

-- a part's value where its operator lets it stand
abbrev pub operand : Extensions → Option Loc → Operator × Located → Outcome Value
operand e place p = next (value_outcome e p.1) (factor place p.0)

pub operands_snoc : (e : Extensions) (place : Option Loc) (ps : List (Operator × Located)) (p : Operator × Located)
    → operands e place (parts_of (ps ++ p ∷ [])) ≡ one_more p.0 (operands e place (parts_of ps)) (operand e place p)
unfolding operands
operands_snoc e place [] p = last p.0 (operand e place p)
operands_snoc e place (q ∷ ps) p =
    ap (λ o. next (both (operand e place q) o) (with_part q.0)) (operands_snoc e place ps p)
    ∙ shifted q.0 p.0 (operand e place q) (operands e place (parts_of ps)) (operand e place p)

-- one part more than those that a loop has gone over
pub part_more : {X : Type 0} (e : Extensions) (place : Option Loc) (g : X → Operator × Located) (xs : List X) (i : ℕ) (x : X) → i < length xs → x ≡ get_or xs i x
    → operands e place (parts_of (map g (take (i + 1) xs))) ≡ one_more (g x).0 (operands e place (parts_of (map g (take i xs)))) (operand e place (g x))
part_more e place g xs i x h k = rw (take_next xs i x h k, map_snoc g (take i xs) x) (operands_snoc e place (map g (take i xs)) (g x))

-- an operator that lets every value stand
pub settled : (place : Option Loc) (op : Operator) (x : Outcome Value) → ((v : Value) → factor place op v ≡ Ok v) → next x (factor place op) ≡ x
settled place op (Ok v) h = h v
settled place op (Err fs) h = refl

-- the same where every value may stand behind the operator
pub plain_more : {X : Type 0} (e : Extensions) (place : Option Loc) (g : X → Operator × Located) (xs : List X) (i : ℕ) (x : X) → i < length xs → x ≡ get_or xs i x
    → ((v : Value) → factor place (g x).0 v ≡ Ok v)
    → operands e place (parts_of (map g (take (i + 1) xs))) ≡ one_more (g x).0 (operands e place (parts_of (map g (take i xs)))) (value_outcome e (g x).1)
plain_more e place g xs i x h k stands =
    part_more e place g xs i x h k ∙ ap (λ v. one_more (g x).0 (operands e place (parts_of (map g (take i xs)))) v) (settled place (g x).0 (value_outcome e (g x).1) stands)
