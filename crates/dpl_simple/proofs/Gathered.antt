-- The values at the indices of a domain, as the words of an array that are written one by one.
-- Each lemma has what is gathered at the indices that are left on its left side.
use Rattle.std.proofs.Common.{◌≡◌, ℤ, pos, List, [], ◌∷◌, ◌++◌, length, map, Result, Ok, Err, refl, sym, subst, ap, ◌∙◌, arith}
use Rattle.std.proofs.lemmas.List.{append_assoc, length-map, length-append}
use Rattle.dpl_sets.specs.TextRanges.{TextRange}
use Rattle.dpl_sets.specs.TextDomains.{values_of}
use Rattle.dpl_array.specs.Rows.{IsDistinct}
use Rattle.dpl_language.specs.Values.{Value, kept_number, Index, Fault}
use Rattle.dpl_language.specs.Ranges.{indices_in}
use Rattle.dpl_language.specs.Outcome.{with_ok, naming_value}
use Rattle.dpl_language.specs.Declarations.{gathered}
use Rattle.dpl_memory.specs.Memory.{Held, whole_held, with_word, held_with}
use Rattle.dpl_contents.specs.Domains.{AreWritten}
use Rattle.dpl_frame.specs.Faults.{fault_view}
use Rattle.dpl_loop.specs.declared.stop.RunStop.{RunStop}
use Rattle.dpl_loop.specs.declared.stop.RunStop.TheVariants as stop
use Rattle.dpl_simple.specs.Runs.{Names, Gathers}
use Rattle.dpl_values.proofs.Listed.{indices_in-distinct, with_word-behind}

-- the array whose words are some, and behind them those of values; or the fault
abbrev pub behind_words : List TextRange → List ℤ → Result (List Value) Fault → Result Held Fault
behind_words rs ws g = with_ok g (λ vs. Ok (whole_held rs (ws ++ map kept_number vs)))

-- what holds while some indices are left: the others have their words, and what is gathered in all is what is gathered
-- at those that are left, behind them
pub record AreGathered (value : Index → Result Value Fault) (rs : List TextRange) (left : List Index) (a : Held) : Type 0 where
  pub before : List Index
  pub words : List ℤ
  pub rest : List ℤ
  pub listed : indices_in rs ≡ before ++ left
  pub long : length words ≡ length before
  pub waits : length rest ≡ length left
  pub ranges : a.ranges ≡ rs
  pub keys : a.keys ≡ indices_in rs
  pub held : a.words ≡ words ++ rest
  pub ends : behind_words rs words (gathered value left) ≡ behind_words rs [] (gathered value (indices_in rs))

behind_words-next : (rs : List TextRange) (ws : List ℤ) (v : Value) (w : ℤ) (g : Result (List Value) Fault) → kept_number v ≡ w
    → behind_words rs ws (with_ok g (λ vs. Ok (v ∷ vs))) ≡ behind_words rs (ws ++ w ∷ []) g
behind_words-next rs ws v w (Ok vs) e =
    ap (λ n. Ok (whole_held rs (ws ++ n ∷ map kept_number vs))) e ∙ ap (λ us. Ok (whole_held rs us)) (sym (append_assoc ws (w ∷ []) (map kept_number vs)))
behind_words-next rs ws v w (Err f) e = refl

-- a value that has a word
behind_words-value : (rs : List TextRange) (ws : List ℤ) (w : ℤ) (r : Result Value Fault) (g : Result (List Value) Fault) → with_ok r (λ v. Ok (kept_number v)) ≡ Ok w
    → behind_words rs ws (with_ok r (λ v. with_ok g (λ vs. Ok (v ∷ vs)))) ≡ behind_words rs (ws ++ w ∷ []) g
behind_words-value rs ws w (Ok v) g e = let same : kept_number v ≡ w = let is : Ok (kept_number v) ≡ Ok w = e in cc in behind_words-next rs ws v w g same
behind_words-value rs ws w (Err f) g e = absurd (let no : Err f ≡ Ok w = e in cc)

behind_words-fault : (rs : List TextRange) (ws : List ℤ) (g : Result (List Value) Fault) (f : Fault) → behind_words rs ws g ≡ Err f → g ≡ Err f
behind_words-fault rs ws (Ok vs) f e = absurd (let no : Ok (whole_held rs (ws ++ map kept_number vs)) ≡ Err f = e in cc)
behind_words-fault rs ws (Err h) f e = let same : h ≡ f = let is : Err h ≡ Err f = e in cc in ap Err same

held-is : (a : Held) (rs : List TextRange) (ws : List ℤ) → a.ranges ≡ rs → a.keys ≡ indices_in rs → a.words ≡ ws → a ≡ whole_held rs ws
held-is a rs ws ranges keys words =
    ap {A = List TextRange} {B = Held} (λ x. record { ranges = x; keys = a.keys; words = a.words }) ranges
    ∙ ap {A = List Index} {B = Held} (λ x. record { ranges = rs; keys = x; words = a.words }) keys ∙ ap {A = List ℤ} {B = Held} (λ x. whole_held rs x) words

no_words : (ws : List ℤ) → length ws ≡ 0 → ws ≡ []
no_words [] none = refl
no_words (w ∷ ws) none = absurd (omega (arith, none))

module _ (value : Index → Result Value Fault) (rs : List TextRange) where
  -- at first nothing is gathered
  pub gathered-first : (left : List Index) (a : Held) → left ≡ indices_in rs → a ≡ whole_held rs (map (λ t. pos 0) (indices_in rs)) → AreGathered value rs left a
  gathered-first left a is zeros = record {
    before = [];
    words = [];
    rest = map (λ t. pos 0) (indices_in rs);
    listed = sym is;
    long = refl;
    waits = length-map (indices_in rs) (λ t. pos 0) ∙ ap length (sym is);
    ranges = ap (λ (h : Held). h.ranges) zeros;
    keys = ap (λ (h : Held). h.keys) zeros;
    held = ap (λ (h : Held). h.words) zeros;
    ends = ap (λ ts. behind_words rs [] (gathered value ts)) is;
  }

  -- the word of the next index is written
  module _ (t : Index) (left : List Index) (w : ℤ) (a : Held) (written : AreWritten (values_of rs)) (so_far : AreGathered value rs (t ∷ left) a) where
    next-word : (u : ℤ) (rest : List ℤ) → so_far.rest ≡ u ∷ rest → (held_with t w a).words ≡ so_far.words ++ w ∷ rest
    next-word u rest is =
        let distinct : IsDistinct (so_far.before ++ t ∷ left) = subst IsDistinct so_far.listed (indices_in-distinct rs written) in
        ap (λ ts. with_word t w ts a.words) (so_far.keys ∙ so_far.listed)
        ∙ ap (λ ws. with_word t w (so_far.before ++ t ∷ left) ws) (so_far.held ∙ ap (λ ws. so_far.words ++ ws) is)
        ∙ with_word-behind t w u so_far.before left so_far.words rest distinct so_far.long

    next-with : (rest : List ℤ) → so_far.rest ≡ rest → with_ok (naming_value t (value t)) (λ v. Ok (kept_number v)) ≡ Ok w → AreGathered value rs left (held_with t w a)
    next-with [] is e = absurd (let none = ap length is in let some = so_far.waits in omega (arith, none, some))
    next-with (u ∷ rest) is e = record {
      before = so_far.before ++ t ∷ [];
      words = so_far.words ++ w ∷ [];
      rest = rest;
      listed = so_far.listed ∙ sym (append_assoc so_far.before (t ∷ []) left);
      long = let one = length-append so_far.words (w ∷ []) in let other = length-append so_far.before (t ∷ []) in let same = so_far.long in omega (arith, one, other, same);
      waits = let whole = ap length is in let some = so_far.waits in omega (arith, whole, some);
      ranges = so_far.ranges;
      keys = so_far.keys;
      held = next-word u rest is ∙ sym (append_assoc so_far.words (w ∷ []) rest);
      ends = sym (behind_words-value rs so_far.words w (naming_value t (value t)) (gathered value left) e) ∙ so_far.ends;
    }

    pub gathered-next : (may : Type 0) → Names may (Ok w) (naming_value t (value t)) → AreGathered value rs left (held_with t w a)
    gathered-next may e = next-with so_far.rest refl e

  -- a fault there is the fault of all
  pub gathered-halts : (may more : Type 0) (t : Index) (left : List Index) (a : Held) (h : RunStop) → (may → more) → AreGathered value rs (t ∷ left) a → Names may (Err h) (naming_value t (value t))
      → Gathers more (Err h) rs (gathered value (indices_in rs))
  gathered-halts may more t left a (stop.Fault f) go so_far e =
      behind_words-fault rs [] (gathered value (indices_in rs)) (fault_view f)
      (sym so_far.ends ∙ ap (λ r. behind_words rs so_far.words (with_ok r (λ v. with_ok (gathered value left) (λ vs. Ok (v ∷ vs))))) e)
  gathered-halts may more t left a stop.Memory go so_far e = tt
  gathered-halts may more t left a stop.Thread go so_far e = tt
  gathered-halts may more t left a stop.Gate go so_far e = go e

  -- with no index left it is the array of all words
  pub gathered-last : (may : Type 0) (a : Held) → AreGathered value rs [] a → Gathers may (Ok a) rs (gathered value (indices_in rs))
  gathered-last may a so_far =
      let none : so_far.rest ≡ [] = no_words so_far.rest so_far.waits in
      sym so_far.ends
      ∙ ap Ok (sym (held-is a rs (so_far.words ++ []) so_far.ranges so_far.keys (so_far.held ∙ ap (λ ws. so_far.words ++ ws) none)))
