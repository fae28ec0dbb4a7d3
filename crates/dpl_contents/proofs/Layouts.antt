-- What is printed of an array, part by part.
use Rattle.std.proofs.Common.{◌≡◌, ◌<◌, ℕ, zero, suc, ◌+◌, ◌*◌, List, [], ◌∷◌, ◌++◌, ℤ, length, map, take, drop, refl, ap, sym, ◌∙◌, arith, append-nil, append_assoc}
use Rattle.std.proofs.Math.Nat.{suc-mul}
use Rattle.std.proofs.lemmas.List.{length-map, drop-drop, drop-take, drop-map}
use Rattle.dpl_sets.specs.TextRanges.{TextRange}
use Rattle.dpl_language.specs.Tree.{Kind}
use Rattle.dpl_language.specs.Values.{Value}
use Rattle.dpl_language.specs.Ranges.{count_in, size_in}
use Rattle.dpl_language.specs.Printing.{printed, printed_array, joined, pieces, between, laid_out}
use Rattle.dpl_memory.specs.Memory.{Held, element_as}
use Rattle.dpl_array.specs.Elements.{Elements}
use Rattle.dpl_contents.specs.Arrays.{words_of}
use Rattle.dpl_contents.specs.Layout.{texts_of, first_laid_out, gap_before}

-- PIECES OF A LIST
-- one more of them
pieces-last : {A : Type 0} (k n : ℕ) (xs : List A) → pieces (suc k) n xs ≡ pieces k n xs ++ take n (drop (k * n) xs) ∷ []
pieces-last zero n xs = let none : 0 ≡ 0 * n = omega arith in ap (λ m. take n (drop m xs) ∷ []) none
pieces-last (suc k) n xs =
    let more : n + k * n ≡ suc k * n = omega (arith, suc-mul k n) in
    ap (λ ps. take n xs ∷ ps) (pieces-last k n (drop n xs))
    ∙ ap (λ ys. take n xs ∷ (pieces k n (drop n xs) ++ take n ys ∷ [])) (drop-drop (k * n) n xs ∙ ap (λ m. drop m xs) more)

length-pieces : {A : Type 0} (k n : ℕ) (xs : List A) → length (pieces k n xs) ≡ k
length-pieces zero n xs = refl
length-pieces (suc k) n xs = ap suc (length-pieces k n (drop n xs))

-- so many elements of the list are looked at
take-front : {A : Type 0} (n m : ℕ) (xs : List A) → take n (take (n + m) xs) ≡ take n xs
take-front zero m xs = refl
take-front (suc n) m [] = let e : suc n + m ≡ suc (n + m) = omega arith in rw e refl
take-front (suc n) m (x ∷ xs) = let e : suc n + m ≡ suc (n + m) = omega arith in rw e (ap (λ ys. x ∷ ys) (take-front n m xs))

pieces-take : {A : Type 0} (k n : ℕ) (xs : List A) → pieces k n (take (k * n) xs) ≡ pieces k n xs
pieces-take zero n xs = refl
pieces-take (suc k) n xs =
    let more : suc k * n ≡ n + k * n = omega (arith, suc-mul k n) in
    ap (λ m. pieces (suc k) n (take m xs)) more
    ∙ ap (λ ps. ps ∷ pieces k n (drop n (take (n + k * n) xs))) (take-front n (k * n) xs)
    ∙ ap (λ ys. take n xs ∷ pieces k n ys) (drop-take n (k * n) xs)
    ∙ ap (λ ps. take n xs ∷ ps) (pieces-take k n (drop n xs))

-- TEXTS WITH ANOTHER BETWEEN EACH TWO
joined-last : (gap : List ℕ) (ts : List (List ℕ)) (t : List ℕ) → joined gap (ts ++ t ∷ []) ≡ joined gap ts ++ gap_before (length ts) gap ++ t
joined-last gap [] t = refl
joined-last gap (u ∷ []) t = refl
joined-last gap (u ∷ v ∷ ts) t =
    ap (λ rest. u ++ gap ++ rest) (joined-last gap (v ∷ ts) t)
    ∙ sym (append_assoc (u ++ gap) (joined gap (v ∷ ts) ++ gap) t)
    ∙ ap (λ front. front ++ t) (sym (append_assoc (u ++ gap) (joined gap (v ∷ ts)) gap))

map-last : {A B : Type 0} (f : A → B) (xs : List A) (x : A) → map f (xs ++ x ∷ []) ≡ map f xs ++ f x ∷ []
map-last f [] x = refl
map-last f (y ∷ ys) x = ap (λ zs. f y ∷ zs) (map-last f ys x)

-- PARTS OF AN ARRAY
-- one more of them
first_laid_out-more : (k : ℕ) (rs : List TextRange) (ts : List (List ℕ)) → first_laid_out (suc k) rs ts ≡ first_laid_out k rs ts ++ gap_before k (between rs) ++ laid_out rs (take (size_in rs) (drop (k * size_in rs) ts))
first_laid_out-more k rs ts =
    let part = take (size_in rs) (drop (k * size_in rs) ts) in
    let before = map (laid_out rs) (pieces k (size_in rs) ts) in
    let many : length before ≡ k = length-map (pieces k (size_in rs) ts) (laid_out rs) ∙ length-pieces k (size_in rs) ts in
    ap (λ ps. joined (between rs) (map (laid_out rs) ps)) (pieces-last k (size_in rs) ts)
    ∙ ap (joined (between rs)) (map-last (laid_out rs) (pieces k (size_in rs) ts) part)
    ∙ joined-last (between rs) before (laid_out rs part)
    ∙ ap (λ n. joined (between rs) before ++ gap_before n (between rs) ++ laid_out rs part) many

-- behind what was printed before
first_laid_out-next : (k : ℕ) (rs : List TextRange) (ts : List (List ℕ)) (before text : List ℕ) → text ≡ laid_out rs (take (size_in rs) (drop (k * size_in rs) ts))
    → before ++ first_laid_out k rs ts ++ gap_before k (between rs) ++ text ≡ before ++ first_laid_out (k + 1) rs ts
first_laid_out-next k rs ts before text is =
    let e : suc k ≡ k + 1 = omega arith in
    ap (λ t. before ++ first_laid_out k rs ts ++ gap_before k (between rs) ++ t) is
    ∙ ap (λ front. front ++ laid_out rs (take (size_in rs) (drop (k * size_in rs) ts))) (append_assoc before (first_laid_out k rs ts) (gap_before k (between rs)))
    ∙ append_assoc before (first_laid_out k rs ts ++ gap_before k (between rs)) (laid_out rs (take (size_in rs) (drop (k * size_in rs) ts)))
    ∙ ap (λ t. before ++ t) (sym (first_laid_out-more k rs ts))
    ∙ ap (λ n. before ++ first_laid_out n rs ts) e

-- a part is laid out by its own elements
laid_out-take : (r : TextRange) (rs : List TextRange) (ts : List (List ℕ)) → laid_out (r ∷ rs) (take (size_in (r ∷ rs)) ts) ≡ laid_out (r ∷ rs) ts
laid_out-take r rs ts = ap (λ ps. joined (between rs) (map (laid_out rs) ps)) (pieces-take (count_in r) (size_in rs) ts)

-- WHAT IS LEFT OF A WALK
texts_of-drop : (kind : Kind) (n : ℕ) (es : Elements ℤ) → texts_of kind (words_of (drop n es)) ≡ drop n (texts_of kind (words_of es))
texts_of-drop kind n es =
    ap (λ ws. map printed (map (element_as kind) ws)) (sym (drop-map (λ (e : List ℤ × ℤ). e.1) n es))
    ∙ ap (map printed) (sym (drop-map (element_as kind) n (words_of es)))
    ∙ sym (drop-map printed n (map (element_as kind) (words_of es)))

-- the part that stands behind the first k
pub laid_out-part : (kind : Kind) (k : ℕ) (r : TextRange) (rs : List TextRange) (es : Elements ℤ)
    → laid_out (r ∷ rs) (texts_of kind (words_of (drop (k * size_in (r ∷ rs)) es))) ≡ laid_out (r ∷ rs) (take (size_in (r ∷ rs)) (drop (k * size_in (r ∷ rs)) (texts_of kind (words_of es))))
laid_out-part kind k r rs es =
    ap (laid_out (r ∷ rs)) (texts_of-drop kind (k * size_in (r ∷ rs)) es)
    ∙ sym (laid_out-take r rs (drop (k * size_in (r ∷ rs)) (texts_of kind (words_of es))))

pub laid_out-next : (kind : Kind) (k : ℕ) (es : Elements ℤ) → laid_out [] (texts_of kind (words_of (take 1 (drop (k * 1) es)))) ≡ laid_out [] (take 1 (drop (k * 1) (texts_of kind (words_of es))))
laid_out-next kind k es = ap (laid_out []) (one (drop (k * 1) es) ∙ ap (take 1) (texts_of-drop kind (k * 1) es))
  where
    one : (fs : Elements ℤ) → texts_of kind (words_of (take 1 fs)) ≡ take 1 (texts_of kind (words_of fs))
    one [] = refl
    one (f ∷ fs) = refl

-- the walk behind one more part
pub drop-part : {A : Type 0} (k n : ℕ) (xs : List A) → drop n (drop (k * n) xs) ≡ drop ((k + 1) * n) xs
drop-part k n xs = let more : k * n + n ≡ (k + 1) * n = omega (arith, suc-mul k n, ap (λ m. m * n) k-more) in drop-drop n (k * n) xs ∙ ap (λ m. drop m xs) more
  where
    k-more : suc k ≡ k + 1
    k-more = omega arith

-- A LOOP OVER THE PARTS: what is printed before the first one, and behind one more
pub none-laid_out : (rs : List TextRange) (ts : List (List ℕ)) (before : List ℕ) → before ≡ before ++ first_laid_out 0 rs ts
none-laid_out rs ts before = sym (append-nil before)

pub one-more : (k : ℕ) (rs : List TextRange) (ts : List (List ℕ)) (before out parted text after : List ℕ) → out ≡ before ++ first_laid_out k rs ts → parted ≡ out ++ gap_before k (between rs) → after ≡ parted ++ text
    → text ≡ laid_out rs (take (size_in rs) (drop (k * size_in rs) ts)) → after ≡ before ++ first_laid_out (k + 1) rs ts
one-more k rs ts before out parted text after first gap last is =
    last
    ∙ ap (λ o. o ++ text) (gap ∙ ap (λ o. o ++ gap_before k (between rs)) first)
    ∙ first_laid_out-next k rs ts before text is

-- THE WHOLE ARRAY
pub printed_array-none : (rs : List TextRange) (vs : List Value) → length vs ≡ 0 → printed_array rs vs ≡ []
printed_array-none rs [] none = refl
printed_array-none rs (v ∷ vs) none = absurd (omega (arith, none))

printed_array-some : (rs : List TextRange) (vs : List Value) → 0 < length vs → laid_out rs (map printed vs) ≡ printed_array rs vs
printed_array-some rs [] some = absurd (omega (arith, some))
printed_array-some rs (v ∷ vs) some = refl

pub laid_out-whole : (kind : Kind) (h : Held) (rs : List TextRange) (ws : List ℤ) (size : ℕ) → rs ≡ h.ranges → ws ≡ h.words → length h.words ≡ size → (size ≡ 0 → ⊥)
    → laid_out rs (texts_of kind ws) ≡ printed_array h.ranges (map (element_as kind) h.words)
laid_out-whole kind h rs ws size ranges words long some =
    ap (λ qs. laid_out qs (texts_of kind ws)) ranges
    ∙ ap (λ vs. laid_out h.ranges (texts_of kind vs)) words
    ∙ printed_array-some h.ranges (map (element_as kind) h.words) (omega (arith, length-map h.words (element_as kind)))
