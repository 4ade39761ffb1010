-- Policies in lines: what they mean, and that they stay as they are.
use Rattle.std.proofs.Common.{◌≡◌, if◌then◌else◌, is_ok, OnOk, option_map, ◌<◌, ℕ, ◌+◌, List, ◌++◌, codes, length, get_or, take, Option, None, IsErrAnd, Result, Ok, Err, MatchResult, IfOk, IfErr, String, string_bytes, sym, ap, subst, ◌∙◌}
use Rattle.std.specs.Result.{result_and}
use Rattle.cedar_policy_store.specs.PlaceFree as free
use Rattle.cedar_grammar.proofs.again.Lines.{lines_snoc}
use Rattle.cedar_syntax.specs.declared.cst.Policies.{Policies}
use Rattle.cedar_syntax.specs.declared.cst.Policy.{Policy}
use Rattle.cedar_syntax.specs.declared.err.faults.Failure.{Failure}
use Rattle.cedar_syntax.specs.faults.ParseErrors.{IsMemory}
use Rattle.cedar_grammar.specs.printing.Formatted.{formatted, lines_text}
use Rattle.cedar_grammar.specs.grammar.Grammar.{IsTreeOf}
use Rattle.cedar_grammar.specs.grammar.LoosePolicies.{ReadsPolicies}
use Rattle.cedar_grammar.specs.printing.PrintLaw.{HasSameTree, SameUpToPlaces, node_text}
use Rattle.cedar_syntax.specs.trees.Trees.{Cell}
use Rattle.cedar_syntax.specs.trees.UnlocatedTrees.{BarePolicy, unlocated_policies}
use Rattle.cedar_syntax.specs.printing.Printed.{tokens_text, printed}
use Rattle.cedar_syntax.specs.trees.Unplaced.{or_missing, policy_tree}
use Rattle.cedar_conversion.specs.outcome.Outcome.{Outcome}
use Rattle.cedar_conversion.specs.outcome.Seen.{Gives, Refuses}
use Rattle.cedar_conversion.specs.strict.Extensions.{Extensions}
use Rattle.cedar_policy_parser.specs.meaning.Formatted.{MeansSet, MeanTheSame, IsInLines, Formats}
use Rattle.cedar_policy_conversion.specs.Policies.{policies_outcome}
use Rattle.cedar_policy_parser.proofs.independent.IndependentSets.{sets_same}
use Rattle.cedar_conversion.proofs.Loops.{take_next}
use Rattle.cedar_policy_parser.proofs.ParsedSets.{tree_found, tree_meant}

-- ---- one line more

-- a node that holds no policy is a line feed alone
pub empty_line : {A E : Type 0} (n : Cell Policy) (before after : List ℕ) (r : Result A E) → n.node ≡ None → after ≡ (if is_ok r then before ++ codes "\n" else before) → OnOk r (after ≡ before ++ (node_text policy_tree n ++ codes "\n"))
unfolding printed
empty_line n before after (Ok done) none is = is ∙ ap (λ (o : Option Policy). before ++ (tokens_text (printed (or_missing (option_map policy_tree o))) ++ codes "\n")) (sym none)
empty_line n before after (Err e) none is = tt

pub line_next : (ps : List (Cell Policy)) (i : ℕ) (p : Cell Policy) (before after : List ℕ) → i < length ps → p ≡ get_or ps i p → before ≡ lines_text (take i ps) → after ≡ before ++ (node_text policy_tree p ++ codes "\n") → after ≡ lines_text (take (i + 1) ps)
line_next ps i p before after more is so_far grown = grown ∙ ap (λ t. t ++ (node_text policy_tree p ++ codes "\n")) so_far ∙ sym (ap lines_text (take_next ps i p more is) ∙ lines_snoc (take i ps) p)

-- ---- the whole

-- the law of texts in lines, and the law of trees that are the same up to places
abbrev pub LinesLaw : Type 0
LinesLaw = (text : List ℕ) (x : Cell Policies) → IsTreeOf ReadsPolicies text x → HasSameTree ReadsPolicies unlocated_policies x (formatted x)

abbrev pub StaysLaw : Type 0
StaysLaw = (x y : Cell Policies) → SameUpToPlaces unlocated_policies x y → formatted x ≡ formatted y

-- the tree of a text that means a set is converted to it
converted : (e : Extensions) (text : List ℕ) (x : Cell Policies) (set : free.Policies) → ((y : Cell Policies) → IsTreeOf ReadsPolicies text y → x ≡ y) → MeansSet e text set → policies_outcome e x ≡ Ok set
converted e text x set only (ts, cut, means) =
    let d = tree_found e text ts set cut means in
    ap (λ n. policies_outcome e n) (only d.tree d.stands) ∙ d.gives

-- a refusal, which is want of memory where the text means a set
pub no_lines : {A : Type 0} (e : Extensions) (text : List ℕ) (r : Result (String A) Failure) (f : Failure) → IsErrAnd r (λ g. g ≡ f) → ((set : free.Policies) → MeansSet e text set → IsMemory f) → Formats e text r
no_lines e text (Ok s) f is none = absurd is
no_lines e text (Err g) f is none = record {
  lines = tt;
  only = λ set means. subst IsMemory (sym is) (none set means);
}

-- ---- a tree that is converted, and the set let go

pub value_of : {S U : Type 0} (meaning : S → free.Policies) (answer : Result S Failure) (done : Result U Failure) (nothing : U) (o : Outcome free.Policies)
    → Gives meaning answer o → done ≡ result_and answer (Ok nothing) → IfOk done (λ none. (set : free.Policies) × (o ≡ Ok set))
value_of meaning (Ok x) done nothing o gives is = rw is (meaning x, gives)
value_of meaning (Err f) done nothing o gives is = rw is tt

pub refusal_of : {S U : Type 0} (meaning : S → free.Policies) (answer : Result S Failure) (done : Result U Failure) (nothing : U) (o : Outcome free.Policies)
    → Gives meaning answer o → done ≡ result_and answer (Ok nothing) → IfErr done (λ f. Refuses f o)
refusal_of meaning (Ok x) done nothing o gives is = rw is tt
refusal_of meaning (Err f) done nothing o gives is = rw is gives

-- the lines of a tree mean what the tree is converted to
lines_mean : (e : Extensions) (text : List ℕ) (x : Cell Policies) (set : free.Policies) → HasSameTree ReadsPolicies unlocated_policies x text → policies_outcome e x ≡ Ok set → MeansSet e text set
lines_mean e text x set a h =
    let same = ap (λ (o : Option (List (Cell BarePolicy))). record { node = o; loc = None }) (sym a.same) in
    (a.stands.tokens, a.stands.cut, tree_meant e text a.again set a.stands (sets_same e x a.again set same h))

pub mean_the_same : (e : Extensions) (text lines : List ℕ) (x : Cell Policies) (set : free.Policies) → LinesLaw → IsTreeOf ReadsPolicies text x → ((y : Cell Policies) → IsTreeOf ReadsPolicies text y → x ≡ y) → MeansSet e text set → lines ≡ formatted x
    → MeanTheSame e text lines
mean_the_same e text lines x set law g only means is =
    (set, means, subst (λ t. MeansSet e t set) (sym is) (lines_mean e (formatted x) x set (law text x g) (converted e text x set only means)))

pub stay : (text lines : List ℕ) (x : Cell Policies) → LinesLaw → StaysLaw → IsTreeOf ReadsPolicies text x → lines ≡ formatted x → IsInLines lines
stay text lines x law stays g is y h =
    let a = law text x g in
    let same : y ≡ a.again = a.only y (subst (λ t. IsTreeOf ReadsPolicies t y) is h) in
    ap formatted same ∙ stays a.again x a.same ∙ sym is

-- a second call on lines that mean a set answers these lines, or want of memory
pub once_more : {A : Type 0} (e : Extensions) (text lines : List ℕ) → IsInLines lines → MeanTheSame e text lines → (second : Result (String A) Failure) → Formats e lines second → MatchResult second (λ t. string_bytes t ≡ lines) IsMemory
once_more e text lines stays means (Ok t) f = let l = f.lines in l.2 ∙ stays l.0 l.1
once_more e text lines stays means (Err g) f = f.only means.0 means.2
