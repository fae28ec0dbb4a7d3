-- The jobs of locales: their parts, and what each worker begins with.
use Rattle.std.proofs.Common.{◌≡◌, ℕ, zero, suc, ◌+◌, ◌-◌, ◌<◌, ◌≤◌, Bool, true, false, List, [], ◌∷◌, ◌++◌, length, map, take, get_or, Option, Some, None, Result, Ok, Err, IfOk, refl, sym, subst, ap, ◌∙◌, arith}
use Rattle.std.specs.List.{AllByRecursion}
use Rattle.dpl_sets.specs.Ranges.{RangeValue}
use Rattle.dpl_map.specs.Maps.{AxisValue, owner}
use Rattle.dpl_map.specs.Parts.{part}
use Rattle.dpl_language.specs.Tree.{Op}
use Rattle.dpl_language.specs.Values.{Index}
use Rattle.dpl_memory.specs.Memory.{Held, Memory, no_array, is_among}
use Rattle.dpl_memory.specs.Pieces.{owned_if, shares_from}
use Rattle.dpl_apart.specs.Memories.{Changes}
use Rattle.dpl_apart.specs.Workers.{worker_memory, HaveWorkers}
use Rattle.dpl_apart.proofs.Collected.{workers-skip, workers-next}
use Rattle.dpl_frame.specs.Frames.{Framed, with_memory}
use Rattle.dpl_frame.specs.declared.share.Share.{Share}
use Rattle.dpl_frame.specs.declared.share.Share.TheVariants.{Lent}
use Rattle.dpl_frame.specs.Shares.{share_in, own_before}
use Rattle.dpl_frame.proofs.OwnShares.{own_shares}
use Rattle.dpl_workers.specs.declared.job.Job.{Job}
use Rattle.dpl_workers.specs.declared.parts.Part.{Part}
use Rattle.dpl_workers.specs.declared.taken.Taken.{Taken}
use Rattle.dpl_workers.specs.Formed.{begun_with, with_units}
use Rattle.dpl_workers.specs.Taken.{emptied, taken_from, AreTaken, AreThere, share_of, lacking}
use Rattle.dpl_workers.specs.Parts.{IsPart, AreParts, IsJob, IsBegun, part_in}
use Rattle.dpl_workers.proofs.TakenApart.{emptied-arrays, emptied-length, emptied-other, there-before, share-before, taken-share, lent-share}

-- WHAT A WORKER BEGINS WITH
module _ (axes : List AxisValue) (written : List ℕ) (m : Memory) (l : ℕ) (own : List Share)
    (shares : (slot : ℕ) → get_or own slot Lent ≡ share_of l slot (map (taken_from axes m) written)) (there : AreThere l (map (taken_from axes m) written)) where
  abbrev lent : List Held
  lent = (emptied written m).arrays

  -- in each slot its own piece, or the array that it is lent
  share-is : (k : ℕ) → share_in (get_or own k Lent) lent k ≡ owned_if (is_among k written) (owner axes) l (get_or m.arrays k no_array)
  share-is k = by (is_among k written) refl where
    by : (c : Bool) → is_among k written ≡ c → share_in (get_or own k Lent) lent k ≡ owned_if c (owner axes) l (get_or m.arrays k no_array)
    by true e = ap (λ s. share_in s lent k) (shares k ∙ taken-share axes m l k written there e)
    by false e = ap (λ s. share_in s lent k) (shares k ∙ lent-share axes m l k written e) ∙ emptied-other written m k e

  own-is : own_before own lent ≡ shares_from 0 written (owner axes) l m.arrays
  own-is = own_shares written (owner axes) l 0 own lent m.arrays (emptied-length written m)
      (λ k below. let here : k ≡ 0 + k = omega arith in share-is k ∙ ap (λ slot. owned_if (is_among slot written) (owner axes) l (get_or m.arrays k no_array)) here)

  pub begun-memory : (h : Changes) → h.written ≡ written → begun_with h.reduced own (emptied written m) ≡ worker_memory h (owner axes) l m
  begun-memory h same =
      ap (λ (e : Memory). with_units h.reduced (record e { arrays = own_before own lent })) (emptied-arrays written m)
      ∙ ap (λ (hs : List Held). with_units h.reduced (record m { arrays = hs })) (own-is ∙ ap (λ slots. shares_from 0 slots (owner axes) l m.arrays) (sym same))

-- THE JOBS THAT ARE BEGUN
-- a list with its last one
firsts-last : {X : Type 0} (xs : List X) (n : ℕ) (x : X) → length xs ≡ n + 1 → x ≡ get_or xs n x → take n xs ++ x ∷ [] ≡ xs
firsts-last [] n x long is = absurd (omega (arith, long))
firsts-last (y ∷ []) zero x long is = ap (λ z. z ∷ []) is
firsts-last (y ∷ z ∷ zs) zero x long is = absurd (omega (arith, long))
firsts-last (y ∷ ys) (suc n) x long is = ap (λ zs. y ∷ zs) (firsts-last ys n x (omega (arith, long)) is)

pub with-last : {X : Type 0} (xs : List X) (x : X) → 1 ≤ length xs → x ≡ get_or xs (length xs - 1) x → take (length xs - 1) xs ++ x ∷ [] ≡ xs
with-last xs x some is = firsts-last xs (length xs - 1) x (omega (arith, some)) is

-- of more parts
get_or-first : {X : Type 0} (xs : List X) (x : X) (k : ℕ) (d : X) → k < length xs → get_or (xs ++ x ∷ []) k d ≡ get_or xs k d
get_or-first [] x k d below = absurd (omega (arith, below))
get_or-first (y ∷ xs) x zero d below = refl
get_or-first (y ∷ xs) x (suc k) d below = get_or-first xs x k d (omega (arith, below))

get_or-last : {X : Type 0} (xs : List X) (x d : X) → get_or (xs ++ x ∷ []) (length xs) d ≡ x
get_or-last [] x d = refl
get_or-last (y ∷ xs) x d = get_or-last xs x d

pub longer : {X : Type 0} (xs : List X) (x : X) → length (xs ++ x ∷ []) ≡ length xs + 1
longer [] x = omega arith
longer (y ∷ xs) x = let rest = longer xs x in omega (arith, rest)

module _ (ps : List (ℕ × Op)) (parts : List (Option Part)) (ts : List Taken) (f : Framed) where
  begun-still : (p : Option Part) (j : Job) → IsBegun ps parts ts f j → IsBegun ps (parts ++ p ∷ []) ts f j
  begun-still p j begun = record {
    below = let more = longer parts p in let below = begun.below in omega (arith, more, below);
    part = get_or-first parts p j.locale None begun.below ∙ begun.part;
    own = begun.own;
    shares = begun.shares;
    there = begun.there;
    frame = begun.frame;
  }

  pub all-still : (p : Option Part) (js : List Job) → AllByRecursion (IsBegun ps parts ts f) js → AllByRecursion (IsBegun ps (parts ++ p ∷ []) ts f) js
  all-still p [] all = tt
  all-still p (j ∷ js) all = (begun-still p j all.0, all-still p js all.1)

  -- and one more
  pub begun-last : (d : Part) (j : Job) (ls : List ℕ) (own : List Share) (l : ℕ) (left : List Taken) → j.locale ≡ l → l ≡ length parts → j.part.now ≡ d → left ≡ map (lacking ls) ts
      → ((slot : ℕ) → get_or own slot Lent ≡ share_of l slot left) → AreThere l left → j.frame ≡ with_memory (begun_with ps own f.memory) f → IsBegun ps (parts ++ Some d ∷ []) ts f j
  begun-last d j ls own l left here last is same shares there frame =
      let is_there : AreThere j.locale (map (lacking ls) ts) = subst (λ l. AreThere l (map (lacking ls) ts)) (sym here) (subst (AreThere l) same there) in
      record {
        below = let more = longer parts (Some d) in omega (arith, more, here, last);
        part = ap (λ l. get_or (parts ++ Some d ∷ []) l None) (here ∙ last) ∙ get_or-last parts (Some d) None ∙ ap Some (sym is);
        own = own;
        shares = λ slot.
            shares slot ∙ ap (share_of l slot) same ∙ ap (λ l. share_of l slot (map (lacking ls) ts)) (sym here)
            ∙ share-before ls j.locale slot ts is_there;
        there = there-before ls j.locale ts is_there;
        frame = frame;
      }

pub all-next : {X : Type 0} (P : X → Type 0) (xs : List X) (x : X) → AllByRecursion P xs → P x → AllByRecursion P (xs ++ x ∷ [])
all-next P [] x all one = (one, tt)
all-next P (y ∷ xs) x all one = (all.0, all-next P xs x all.1 one)

pub locales-next : (js : List Job) (j : Job) → map (λ (j : Job). j.locale) (js ++ j ∷ []) ≡ map (λ (j : Job). j.locale) js ++ j.locale ∷ []
locales-next [] j = refl
locales-next (i ∷ js) j = ap (λ ls. i.locale ∷ ls) (locales-next js j)

-- THEIR LOCALES
pub workers-same : (f g : ℕ → List Index) (n : ℕ) (ls : List ℕ) → ((l : ℕ) → l < n → f l ≡ g l) → HaveWorkers f n ls → HaveWorkers g n ls
workers-same f g n ls same have = record {
  once = have.once;
  below = have.below;
  there = λ l less some. have.there l less (λ none. some (sym (same l less) ∙ none));
}

abbrev pub indices_at : List RangeValue → List AxisValue → List (Option Part) → ℕ → List Index
indices_at whole axes parts l = part_in whole axes l (get_or parts l None)

module _ (whole : List RangeValue) (axes : List AxisValue) (parts : List (Option Part)) (p : Option Part) (ls : List ℕ) (have : HaveWorkers (indices_at whole axes parts) (length parts) ls) where
  have-still : HaveWorkers (indices_at whole axes (parts ++ p ∷ [])) (length parts) ls
  have-still = workers-same (indices_at whole axes parts) (indices_at whole axes (parts ++ p ∷ [])) (length parts) ls (λ l less. ap (part_in whole axes l) (sym (get_or-first parts p l None less))) have

  pub have-skip : p ≡ None → HaveWorkers (indices_at whole axes (parts ++ p ∷ [])) (length (parts ++ p ∷ [])) ls
  have-skip none =
      subst (λ n. HaveWorkers (indices_at whole axes (parts ++ p ∷ [])) n ls) (sym (longer parts p))
      (workers-skip (indices_at whole axes (parts ++ p ∷ [])) (length parts) ls have-still (ap (part_in whole axes (length parts)) (get_or-last parts p None ∙ none)))

  pub have-next : (l : ℕ) → l ≡ length parts → HaveWorkers (indices_at whole axes (parts ++ p ∷ [])) (length (parts ++ p ∷ [])) (ls ++ l ∷ [])
  have-next l last =
      subst (λ n. HaveWorkers (indices_at whole axes (parts ++ p ∷ [])) n (ls ++ l ∷ [])) (sym (longer parts p))
      (subst (λ l. HaveWorkers (indices_at whole axes (parts ++ p ∷ [])) (length parts + 1) (ls ++ l ∷ [])) (sym last) (workers-next (indices_at whole axes (parts ++ p ∷ [])) (length parts) ls have-still))

-- OF A LOOP
module _ (whole : List RangeValue) (axes : List AxisValue) (parts : List (Option Part)) (are : AreParts whole axes parts) where
  part-is : (l : ℕ) (p : Option Part) → IsPart whole axes l p → part_in whole axes l p ≡ part whole axes l
  part-is l None is = sym is
  part-is l (Some p) is = is

  pub parts-have : (ls : List ℕ) → HaveWorkers (indices_at whole axes parts) (length parts) ls → HaveWorkers (part whole axes) (length parts) ls
  parts-have ls have = workers-same (indices_at whole axes parts) (part whole axes) (length parts) ls (λ l less. part-is l (get_or parts l None) (are.each l less)) have

  pub begun-job : (h : Changes) (m : Memory) (ts : List Taken) (f : Framed) (j : Job) → AreTaken axes h.written m ts f.memory → IsBegun h.reduced parts ts f j → IsJob h whole axes m f j
  begun-job h m ts f j taken begun = record {
    part = ap (part_in whole axes j.locale) (sym begun.part) ∙ part-is j.locale (get_or parts j.locale None) (are.each j.locale begun.below);
    frame =
        begun.frame
        ∙ ap (λ (e : Memory). with_memory (begun_with h.reduced begun.own e) f) taken.stays
        ∙ ap (λ (e : Memory). with_memory e f)
        (begun-memory axes h.written m j.locale begun.own (λ slot. begun.shares slot ∙ ap (share_of j.locale slot) taken.taken) (subst (AreThere j.locale) taken.taken begun.there) h refl);
  }

  pub begun-jobs : (h : Changes) (m : Memory) (ts : List Taken) (f : Framed) (js : List Job) → AreTaken axes h.written m ts f.memory → AllByRecursion (IsBegun h.reduced parts ts f) js → AllByRecursion (IsJob h whole axes m f) js
  begun-jobs h m ts f [] taken all = tt
  begun-jobs h m ts f (j ∷ js) taken all = (begun-job h m ts f j taken all.0, begun-jobs h m ts f js taken all.1)

pub jobs-begun : {V E : Type 0} (items : V → List Job) (r : Result V E) (h : Changes) (parts : List (Option Part)) (ts : List Taken) (f : Framed)
    → IfOk r (λ js. AllByRecursion (IsBegun h.reduced parts ts f) (items js))
    → IfOk r (λ js. (whole : List RangeValue) (axes : List AxisValue) (m : Memory) → AreParts whole axes parts → AreTaken axes h.written m ts f.memory → AllByRecursion (IsJob h whole axes m f) (items js))
jobs-begun items (Ok js) h parts ts f begun = λ whole axes m are taken. begun-jobs whole axes parts are h m ts f (items js) taken begun
jobs-begun items (Err e) h parts ts f begun = tt

pub jobs-have : {V E : Type 0} (items : V → List Job) (r : Result V E) (parts : List (Option Part))
    → IfOk r (λ js. (whole : List RangeValue) (axes : List AxisValue) → HaveWorkers (indices_at whole axes parts) (length parts) (map (λ (j : Job). j.locale) (items js)))
    → IfOk r (λ js. (whole : List RangeValue) (axes : List AxisValue) → AreParts whole axes parts → HaveWorkers (part whole axes) (length parts) (map (λ (j : Job). j.locale) (items js)))
jobs-have items (Ok js) parts have = λ whole axes are. parts-have whole axes parts are (map (λ (j : Job). j.locale) (items js)) (have whole axes)
jobs-have items (Err e) parts have = tt
