-- The dump, variable by variable: what one adds, and then the others; and the elements of an array, each behind a space.
use Rattle.std.proofs.Common.{◌≡◌, ℕ, zero, suc, ◌+◌, ℤ, List, [], ◌∷◌, ◌++◌, refl, sym, ap, ◌∙◌, map, take, drop, Some, None, append_assoc}
use Rattle.std.specs.Prelude.{slice_get, codes}
use Rattle.std.proofs.lemmas.List.{append-nil, drop-drop}
use Rattle.std.proofs.lemmas.Option.{none-some}
use Rattle.dpl_language.specs.Tree.{Kind}
use Rattle.dpl_language.specs.Printing.{printed}
use Rattle.dpl_language.specs.Names.{Entry, Frame}
use Rattle.dpl_memory.specs.Memory.{element_as}
use Rattle.dpl_contents.specs.Layout.{texts_of, spaced}
use Rattle.dpl_says.specs.Dump.{elements_text, line_of, dumped}

pub spaced_elements : (kind : Kind) (words : List ℤ) → spaced (texts_of kind words) ≡ elements_text (map (element_as kind) words)
spaced_elements kind [] = refl
spaced_elements kind (w ∷ ws) = ap (λ t. 32 ∷ printed (element_as kind w) ++ t) (spaced_elements kind ws)

dumped-parts : (es : Frame) → dumped (take 1 es) ++ dumped (drop 1 es) ≡ dumped es
dumped-parts [] = refl
dumped-parts (e ∷ es) = ap (λ t. t ++ dumped es) (append-nil (line_of e.name e.content))

-- an array's line
line-parts : (text name list : List ℕ) → (((text ++ name) ++ 32 ∷ 61 ∷ []) ++ list) ++ 10 ∷ [] ≡ text ++ (name ++ codes " =" ++ list ++ 10 ∷ [])
line-parts text name list = simp append_assoc

pub array_line : (text name : List ℕ) (kind : Kind) (words : List ℤ)
    → (((text ++ name) ++ 32 ∷ 61 ∷ []) ++ spaced (texts_of kind words)) ++ 10 ∷ [] ≡ text ++ (name ++ codes " =" ++ elements_text (map (element_as kind) words) ++ 10 ∷ [])
array_line text name kind words =
    ap (λ list. (((text ++ name) ++ 32 ∷ 61 ∷ []) ++ list) ++ 10 ∷ []) (spaced_elements kind words)
    ∙ line-parts text name (elements_text (map (element_as kind) words))

-- one more variable
pub dumped_next : (text : List ℕ) (k : ℕ) (es : Frame) → (text ++ dumped (take 1 (drop k es))) ++ dumped (drop (k + 1) es) ≡ text ++ dumped (drop k es)
dumped_next text k es =
    append_assoc text (dumped (take 1 (drop k es))) (dumped (drop (k + 1) es))
    ∙ ap (λ rest. text ++ (dumped (take 1 (drop k es)) ++ dumped rest)) (sym (drop-drop 1 k es))
    ∙ ap (λ t. text ++ t) (dumped-parts (drop k es))

-- the variable with a number, and none
dumped-some : (es : Frame) (k : ℕ) (e : Entry) → slice_get es k ≡ Some e → dumped (take 1 (drop k es)) ≡ line_of e.name e.content
dumped-some [] k e at = absurd (none-some e at)
dumped-some (f ∷ es) zero e at =
    let same : f ≡ e = cc in
    append-nil (line_of f.name f.content) ∙ ap (λ (e : Entry). line_of e.name e.content) same
dumped-some (f ∷ es) (suc k) e at = dumped-some es k e at

dumped-none : (es : Frame) (k : ℕ) → slice_get es k ≡ None → dumped (take 1 (drop k es)) ≡ []
dumped-none [] zero at = refl
dumped-none [] (suc k) at = refl
dumped-none (f ∷ es) zero at = absurd (none-some f (sym at))
dumped-none (f ∷ es) (suc k) at = dumped-none es k at

pub numbered_some : (text : List ℕ) (es : Frame) (k : ℕ) (e : Entry) → Some e ≡ slice_get es k → text ++ line_of e.name e.content ≡ text ++ dumped (take 1 (drop k es))
numbered_some text es k e at = ap (λ t. text ++ t) (sym (dumped-some es k e (sym at)))

pub numbered_none : (text : List ℕ) (es : Frame) (k : ℕ) → None ≡ slice_get es k → text ≡ text ++ dumped (take 1 (drop k es))
numbered_none text es k at = sym (append-nil text) ∙ ap (λ t. text ++ t) (sym (dumped-none es k (sym at)))
