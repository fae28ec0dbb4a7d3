-- What workers have still while their pieces are taken out, and arrays that come back one after another.
use Rattle.std.proofs.Common.{◌≡◌, ℕ, List, [], ◌∷◌, ◌++◌, map, get_or, refl, sym, ap, subst, ◌∙◌}
use Rattle.std.specs.List.{AllByRecursion}
use Rattle.dpl_memory.specs.Memory.{Held, Memory, with_array}
use Rattle.dpl_contents.specs.Parted.{Parted, whole_of}
use Rattle.dpl_frame.specs.Frames.{Framed, with_memory}
use Rattle.dpl_frame.specs.Shares.{Plain}
use Rattle.dpl_frame.specs.declared.share.Share.{Share}
use Rattle.dpl_frame.specs.declared.share.Share.TheVariants.{Lent}
use Rattle.dpl_workers.specs.declared.job.Worked.{Worked}
use Rattle.dpl_workers.specs.declared.taken.Taken.{Taken}
use Rattle.dpl_workers.specs.Taken.{IsPieceShare, ArePieces, put_in, all_put, given_back, Stays, AllStay}

-- nothing was taken out,
stays-same : (w : Worked) → Stays w w
stays-same w = record { locale = refl; words = refl; ended = refl; pieces = λ slot is. refl }

pub all-stay-same : (ws : List Worked) → AllStay ws ws
all-stay-same [] = tt
all-stay-same (w ∷ ws) = (stays-same w, all-stay-same ws)

-- or more was, and then still more.
stays-then : (w v u : Worked) → Stays w v → Stays v u → Stays w u
stays-then w v u first then = record {
  locale = then.locale ∙ first.locale;
  words = then.words ∙ first.words;
  ended = then.ended ∙ first.ended;
  pieces = λ slot is. let same = then.pieces slot is in same ∙ first.pieces slot (subst IsPieceShare same is);
}

pub all-stay-then : (ws vs us : List Worked) → AllStay ws vs → AllStay vs us → AllStay ws us
all-stay-then [] [] [] first then = tt
all-stay-then [] [] (u ∷ us) first then = absurd then
all-stay-then [] (v ∷ vs) us first then = absurd first
all-stay-then (w ∷ ws) [] us first then = absurd first
all-stay-then (w ∷ ws) (v ∷ vs) [] first then = absurd then
all-stay-then (w ∷ ws) (v ∷ vs) (u ∷ us) first then = (stays-then w v u first.0 then.0, all-stay-then ws vs us first.1 then.1)

-- the workers are the same ones, with the same words
pub stay-locales : (ws vs : List Worked) → AllStay ws vs → map (λ (w : Worked). w.locale) vs ≡ map (λ (w : Worked). w.locale) ws
stay-locales [] [] stay = refl
stay-locales [] (v ∷ vs) stay = absurd stay
stay-locales (w ∷ ws) [] stay = absurd stay
stay-locales (w ∷ ws) (v ∷ vs) stay = ap (λ l. l ∷ map (λ (w : Worked). w.locale) vs) stay.0.locale ∙ ap (λ ls. w.locale ∷ ls) (stay-locales ws vs stay.1)

pub stay-words : (ws vs : List Worked) → AllStay ws vs → map (λ (w : Worked). w.words) vs ≡ map (λ (w : Worked). w.words) ws
stay-words [] [] stay = refl
stay-words [] (v ∷ vs) stay = absurd stay
stay-words (w ∷ ws) [] stay = absurd stay
stay-words (w ∷ ws) (v ∷ vs) stay = ap (λ (p : Plain). p ∷ map (λ (w : Worked). w.words) vs) stay.0.words ∙ ap (λ (ps : List Plain). w.words ∷ ps) (stay-words ws vs stay.1)

-- and the pieces that they have still are those that they had
module _ (slot : ℕ) where
  abbrev share : Worked → Share
  share w = get_or w.own.items slot Lent

  pieces-before : (ws vs : List Worked) → AllStay ws vs → ArePieces vs slot → ArePieces ws slot
  pieces-before [] [] stay are = tt
  pieces-before [] (v ∷ vs) stay are = absurd stay
  pieces-before (w ∷ ws) [] stay are = absurd stay
  pieces-before (w ∷ ws) (v ∷ vs) stay are = (subst IsPieceShare (stay.0.pieces slot are.0) are.0, pieces-before ws vs stay.1 are.1)

  put-before : (ws vs : List Worked) (p : Parted) → AllStay ws vs → ArePieces vs slot → all_put slot vs p ≡ all_put slot ws p
  put-before [] [] p stay are = refl
  put-before [] (v ∷ vs) p stay are = absurd stay
  put-before (w ∷ ws) [] p stay are = absurd stay
  put-before (w ∷ ws) (v ∷ vs) p stay are =
      ap (λ l. all_put slot vs (put_in l (share v) p)) stay.0.locale
      ∙ ap (λ s. all_put slot vs (put_in w.locale s p)) (stay.0.pieces slot are.0)
      ∙ put-before ws vs (put_in w.locale (share w) p) stay.1 are.1

-- ONE ARRAY MORE comes back
given-next : (ts : List Taken) (t : Taken) (ws : List Worked) (m : Memory) → given_back (ts ++ t ∷ []) ws m ≡ with_array t.slot (whole_of (all_put t.slot ws t.pieces)) (given_back ts ws m)
given-next [] t ws m = refl
given-next (s ∷ ts) t ws m = given-next ts t ws (with_array s.slot (whole_of (all_put s.slot ws s.pieces)) m)

each-next : {A : Type 0} (P : A → Type 0) (xs : List A) (x : A) → AllByRecursion P xs → P x → AllByRecursion P (xs ++ x ∷ [])
each-next P [] x all one = (one, tt)
each-next P (y ∷ ys) x all one = (all.0, each-next P ys x all.1 one)

module _ (ts : List Taken) (t : Taken) (taken : List Taken) (popped : taken ≡ ts ++ t ∷ []) (ws vs : List Worked) (stay : AllStay ws vs) (are : ArePieces vs t.slot) where
  pub given-more : (f n : Framed) (p : Parted) (a : Held) → n ≡ with_memory (given_back ts ws f.memory) f → p ≡ all_put t.slot vs t.pieces → a ≡ whole_of p
      → with_memory (with_array t.slot a n.memory) n ≡ with_memory (given_back taken ws f.memory) f
  given-more f n p a before put made =
      ap (λ (n : Framed). with_memory (with_array t.slot a n.memory) n) before
      ∙ ap (λ (a : Held). with_memory (with_array t.slot a (given_back ts ws f.memory)) f) (made ∙ ap whole_of (put ∙ put-before t.slot ws vs t.pieces stay are))
      ∙ ap (λ m. with_memory m f) (sym (given-next ts t ws f.memory) ∙ ap (λ ts. given_back ts ws f.memory) (sym popped))

  pub pieces-more : AllByRecursion (λ (t : Taken). ArePieces ws t.slot) ts → AllByRecursion (λ (t : Taken). ArePieces ws t.slot) taken
  pieces-more all =
      subst (AllByRecursion (λ (t : Taken). ArePieces ws t.slot)) (sym popped)
      (each-next (λ (t : Taken). ArePieces ws t.slot) ts t all (pieces-before t.slot ws vs stay are))
