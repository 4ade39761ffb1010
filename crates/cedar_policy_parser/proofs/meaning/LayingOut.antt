-- Texts with the same words have the same tree and mean the same; so does a text that is laid out,
-- and is left as it is where it is laid out again.
use Rattle.std.proofs.Common.{◌≡◌, ℕ, false, List, [], ◌∷◌, Some, Result, Ok, Err, IfErr, IsErrAnd, String, string_bytes, refl, sym, ap, ap₂, ◌∙◌, subst}
use Rattle.std.specs.Prelude.{option_map}
use Rattle.cedar_lexer.specs.Cut.{Cuts}
use Rattle.cedar_lexer.specs.Token.{Lexeme}
use Rattle.cedar_lexer.specs.Words.{words_of}
use Rattle.cedar_lexer.specs.declared.token.InvalidToken.{InvalidToken}
use Rattle.cedar_lexer.proofs.Runs.{not_both}
use Rattle.cedar_layout.specs.declared.options.LayoutOptions.{LayoutOptions}
use Rattle.cedar_layout.specs.declared.reading.LayoutError.{LayoutError}
use Rattle.cedar_layout.specs.declared.reading.LayoutError.TheVariants as refusal
use Rattle.cedar_layout.specs.Entries.{entries_of}
use Rattle.cedar_layout.specs.Layouts.{laid_out}
use Rattle.cedar_layout.specs.Pieces.{SpacedItem, IsReadAs, items_of, pieces_behind}
use Rattle.cedar_layout.specs.Read.{IsNotRead}
use Rattle.cedar_layout.specs.Style.{style}
use Rattle.cedar_policy_store.specs.PlaceFree as free
use Rattle.cedar_syntax.specs.declared.cst.Policies.{Policies}
use Rattle.cedar_syntax.specs.declared.err.faults.Failure.{Failure}
use Rattle.cedar_syntax.specs.faults.ParseErrors.{IsMemory}
use Rattle.cedar_syntax.specs.trees.Trees.{Cell}
use Rattle.cedar_syntax.specs.trees.UnlocatedTrees.{unlocated_policies}
use Rattle.cedar_grammar.specs.faults.FirstFault.{HasOneTree}
use Rattle.cedar_grammar.specs.grammar.Grammar.{IsTreeOf}
use Rattle.cedar_grammar.specs.grammar.LoosePolicies.{ReadsPolicies}
use Rattle.cedar_grammar.specs.grammar.Place.{placed_or_start}
use Rattle.cedar_grammar.specs.printing.PrintLaw.{SameUpToPlaces}
use Rattle.cedar_grammar.proofs.again.Law.{one_cut}
use Rattle.cedar_grammar.proofs.again.SamePolicies.{policies_same}
use Rattle.cedar_conversion.specs.strict.Extensions.{Extensions}
use Rattle.cedar_policy_parser.specs.meaning.Formatted.{MeansSet}
use Rattle.cedar_policy_parser.specs.meaning.LaidOut.{HaveSameWords, KeepsTree, KeepsMeaning, Keeps, LaysOut, IsLeftAlone}
use Rattle.cedar_policy_parser.proofs.meaning.VariedTexts.{same_words_mean}

-- ---- texts with the same words

-- whole texts' trees of the same content are the same up to places
placed_same : (text other : List ℕ) (ts us : List Lexeme) (x y : Policies) → unlocated_policies y ≡ unlocated_policies x → SameUpToPlaces unlocated_policies (placed_or_start other us y) (placed_or_start text ts x)
placed_same text other [] [] x y e = ap Some e
placed_same text other [] (u ∷ us) x y e = ap Some e
placed_same text other (t ∷ ts) [] x y e = ap Some e
placed_same text other (t ∷ ts) (u ∷ us) x y e = ap Some e

pub same_tree : HasOneTree ReadsPolicies → (text other : List ℕ) → HaveSameWords text other → KeepsTree text other
same_tree one text other (ts, us, cut, cuts, words) node g =
    let own : g.tokens ≡ ts = one_cut text g.tokens ts g.cut cut in
    let a = policies_same g.stands.reads other us (words ∙ ap words_of (sym own)) in
    record {
      again = placed_or_start other us a.tree;
      stands = record { tokens = us; cut = cuts; stands = record { tree = a.tree; reads = a.reads; is = refl } };
      same = placed_same text other g.tokens us g.stands.tree a.tree a.same ∙ ap (λ (n : Cell Policies). option_map unlocated_policies n.node) (sym g.stands.is);
      only = λ n h.
          let theirs : h.tokens ≡ us = one_cut other h.tokens us h.cut cuts in
          let tree : h.stands.tree ≡ a.tree = one other us h.stands.tree a.tree (subst (λ vs. ReadsPolicies other vs h.stands.tree) theirs h.stands.reads) a.reads in
          h.stands.is ∙ ap₂ (λ (vs : List Lexeme) (z : Policies). placed_or_start other vs z) theirs tree;
    }

meant_by_other : (text other : List ℕ) → HaveSameWords text other → (table : Extensions) (set : free.Policies) → MeansSet table text set → MeansSet table other set
meant_by_other text other (ts, us, cut, cuts, words) table set (vs, own, h) =
    (us, cuts, same_words_mean table vs us set h (words ∙ ap words_of (one_cut text ts vs cut own)))

turned : (text other : List ℕ) → HaveSameWords text other → HaveSameWords other text
turned text other (ts, us, cut, cuts, words) = (us, ts, cuts, cut, sym words)

pub same_meaning : (text other : List ℕ) → HaveSameWords text other → KeepsMeaning text other
same_meaning text other h table set = (meant_by_other text other h table set, meant_by_other other text (turned text other h) table set)

-- ---- a text laid out

-- the text cuts into tokens
abbrev pub HasCut : List ℕ → Type 0
HasCut text = (ts : List Lexeme) × Cuts text ts

-- what the layout tells of words, of comments and of both: of the cuts of a text and of what it
-- makes of it, and of how they are read
abbrev pub WordsStay : List ℕ → List ℕ → Type 0
WordsStay text out = (ts us : List Lexeme) → Cuts text ts → Cuts out us → words_of us ≡ words_of ts

abbrev pub EntriesStay : List ℕ → List ℕ → Type 0
EntriesStay text out = (ts us : List Lexeme) (cut : Cuts text ts) (again : Cuts out us) → entries_of again ≡ entries_of cut

abbrev pub ItemsStay : List ℕ → List ℕ → Type 0
ItemsStay text out = (ps qs : List SpacedItem) → IsReadAs text ps → IsReadAs out qs → items_of qs ≡ items_of ps

-- texts with the same words have the same tree, and mean the same
abbrev pub TreeLaw : Type 0
TreeLaw = (text other : List ℕ) → HaveSameWords text other → KeepsTree text other

abbrev pub MeaningLaw : Type 0
MeaningLaw = (text other : List ℕ) → HaveSameWords text other → KeepsMeaning text other

words_kept : (text out : List ℕ) → HasCut text → HasCut out → WordsStay text out → HaveSameWords text out
words_kept text out (ts, cut) (us, again) h = (ts, us, cut, again, h ts us cut again)

pub kept : TreeLaw → MeaningLaw → (text out : List ℕ) (tree : Cell Policies) → IsTreeOf ReadsPolicies text tree → HasCut out → WordsStay text out → EntriesStay text out → ItemsStay text out → Keeps text out
kept trees meanings text out tree g (us, again) stay entries items =
    let ts = g.tokens in
    let cut = g.cut in
    let words = words_kept text out (ts, cut) (us, again) stay in
    let ps = pieces_behind text false 0 ts in
    let qs = pieces_behind out false 0 us in
    record {
      words = words;
      comments = (ts, us, cut, again, entries ts us cut again);
      items = (ps, qs, (ts, cut, refl), (us, again, refl), items ps qs (ts, cut, refl) (us, again, refl));
      tree = trees text out words;
      meaning = meanings text out words;
    }

-- a text that has a tree, laid out again
pub left_alone : {A : Type 0} (options : LayoutOptions) (text : List ℕ) (out : String A) (tree : Cell Policies) → IsTreeOf ReadsPolicies text tree → TreeLaw → HasCut (string_bytes out) → WordsStay text (string_bytes out)
    → ((qs : List SpacedItem) → IsReadAs (string_bytes out) qs → laid_out (style options) qs ≡ string_bytes out) → IsLeftAlone options out
left_alone options text out tree g trees again words stays (Ok more) f = let (qs, s, is) = f.laid in is ∙ stays qs s
left_alone options text out tree g trees again words stays (Err failure) f =
    let h = trees text (string_bytes out) (words_kept text (string_bytes out) (g.tokens, g.cut) again words) tree g in
    f.only h.again h.stands

-- ---- a text that isn't laid out

pub no_layout : {A : Type 0} (options : LayoutOptions) (text : List ℕ) (r : Result (String A) Failure) (f : Failure) → IsErrAnd r (λ g. g ≡ f) → ((y : Cell Policies) → IsTreeOf ReadsPolicies text y → IsMemory f) → LaysOut options text r
no_layout options text (Ok out) f is none = absurd is
no_layout options text (Err g) f is none = record { laid = tt; read = tt; only = λ tree h. subst IsMemory (sym is) (none tree h) }

-- a text that has a tree has no bad place
pub never_refused : {A : Type 0} (text : List ℕ) (r : Result A LayoutError) (e : LayoutError) (bad : InvalidToken) (tree : Cell Policies) → IsTreeOf ReadsPolicies text tree → IfErr r (IsNotRead text) → r ≡ Err e → e ≡ refusal.InvalidToken bad → ⊥
never_refused {A = A} text r e bad tree g h is of =
    let (us, stops) = subst (IsNotRead text) of (subst (λ (q : Result A LayoutError). IfErr q (IsNotRead text)) is h) in
    not_both text g.tokens us bad.location g.cut stops
