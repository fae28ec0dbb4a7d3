-- What stands between tokens: each piece has one end, and so has a gap.
use Rattle.std.proofs.Common.{◌≡◌, inl, inr, ℕ, zero, suc, ◌+◌, ◌-◌, ◌<◌, ◌≤◌, Bool, true, false, not, ◌&&◌, List, [], ◌∷◌, ◌++◌, length, take, drop, get_or, Option, Some, None, refl, sym, ap, subst, ◌∙◌, append_assoc, arith}
use Rattle.std.specs.Prelude.{eqb}
use Rattle.std.proofs.lemmas.Bool.{eqb-true, and_parts, or_cases}
use Rattle.std.proofs.Math.Bool.{or-true}
use Rattle.std.proofs.lemmas.List.{take-append-drop, append-nil}
use Rattle.std.proofs.Math.Numerals.{add-one, sub-one}
use Rattle.dpl_syntax.specs.Gaps.{is_space, on_line, all_are, next_is, begins_with, ends_there, opens_line, opens_block, opens_comment, after_comments, is_block, IsPiece, joined, IsGap}
use Rattle.dpl_lexer.specs.Scan.{IsDark, IsPieceAt}
use Rattle.dpl_lexer.proofs.ByteTests.{no_further}
use Rattle.dpl_lexer.proofs.Fronts.{same_split, same_front, same_rest}

-- what ends just there leaves nothing
pub ends_there_is : (o : Option (List ℕ)) → ends_there o ≡ true → o ≡ Some []
ends_there_is None h = absurd cc
ends_there_is (Some []) h = refl
ends_there_is (Some (c ∷ cs)) h = absurd cc

-- ---- two bytes

pub begins_with-append : (a b : ℕ) (u w : List ℕ) → begins_with a b u ≡ true → begins_with a b (u ++ w) ≡ true
begins_with-append a b [] w h = absurd cc
begins_with-append a b (c ∷ []) w h = absurd cc ((and_parts (eqb c a) false h).1)
begins_with-append a b (c ∷ d ∷ u) w h = h

pub record TwoBytes (a b : ℕ) (text : List ℕ) : Type 0 where
  pub rest : List ℕ
  pub is : text ≡ a ∷ b ∷ rest

pub two_bytes_are : (a b : ℕ) (text : List ℕ) → begins_with a b text ≡ true → TwoBytes a b text
two_bytes_are a b [] h = absurd cc
two_bytes_are a b (c ∷ []) h = let p = and_parts (eqb c a) false h in absurd cc
two_bytes_are a b (c ∷ d ∷ text) h =
    let p = and_parts (eqb c a) (eqb d b) h in
    record { rest = text; is = ap (λ (x : ℕ). x ∷ d ∷ text) (eqb-true c a p.0) ∙ ap (λ (x : ℕ). a ∷ x ∷ text) (eqb-true d b p.1) }

-- ---- comments

-- what two bytes do to n + 1 open comments
pub one_more : (n c d : ℕ) (cs : List ℕ) → (eqb c 47 && eqb d 42) ≡ true → after_comments (suc n) (c ∷ d ∷ cs) ≡ after_comments (suc (suc n)) cs
one_more n c d cs opens = rw opens refl

pub one_less : (n c d : ℕ) (cs : List ℕ) → (eqb c 47 && eqb d 42) ≡ false → (eqb c 42 && eqb d 47) ≡ true → after_comments (suc n) (c ∷ d ∷ cs) ≡ after_comments n cs
one_less n c d cs not ends = rw (not, ends) refl

pub as_many : (n c d : ℕ) (cs : List ℕ) → (eqb c 47 && eqb d 42) ≡ false → (eqb c 42 && eqb d 47) ≡ false → after_comments (suc n) (c ∷ d ∷ cs) ≡ after_comments (suc n) (d ∷ cs)
as_many n c d cs not neither = rw (not, neither) refl

-- the same at the front of a text, with n open comments

pub step_opens : (n : ℕ) (text : List ℕ) → 0 < n → begins_with 47 42 text ≡ true → (after_comments n text ≡ after_comments (n + 1) (drop 2 text)) × (2 ≤ length text)
step_opens zero text some h = absurd (omega arith)
step_opens (suc n) [] some h = absurd cc
step_opens (suc n) (c ∷ []) some h = let p = and_parts (eqb c 47) false h in absurd cc
step_opens (suc n) (c ∷ d ∷ cs) some h = (rw add-one (one_more n c d cs h), omega arith)

pub step_ends : (n : ℕ) (text : List ℕ) → 0 < n → begins_with 47 42 text ≡ false → begins_with 42 47 text ≡ true → (after_comments n text ≡ after_comments (n - 1) (drop 2 text)) × (2 ≤ length text)
step_ends zero text some h k = absurd (omega arith)
step_ends (suc n) [] some h k = absurd cc
step_ends (suc n) (c ∷ []) some h k = let p = and_parts (eqb c 42) false k in absurd cc
step_ends (suc n) (c ∷ d ∷ cs) some h k = (rw sub-one (one_less n c d cs h k), omega arith)

pub step_goes_on : (n : ℕ) (text : List ℕ) → 0 < n → begins_with 47 42 text ≡ false → begins_with 42 47 text ≡ false → after_comments n text ≡ after_comments n (drop 1 text)
step_goes_on zero text some h k = absurd (omega arith)
step_goes_on (suc n) [] some h k = refl
step_goes_on (suc n) (c ∷ []) some h k = refl
step_goes_on (suc n) (c ∷ d ∷ cs) some h k = as_many n c d cs h k

pub none_left : (n : ℕ) → 0 < n → after_comments n [] ≡ None
none_left zero some = absurd (omega arith)
none_left (suc n) some = refl

-- bytes behind the end of comments don't matter
pub after_comments-append : (n : ℕ) (u l w : List ℕ) → after_comments n u ≡ Some l → after_comments n (u ++ w) ≡ Some (l ++ w)
after_comments-append zero u l w h = let same : u ≡ l = cc in ap (λ (x : List ℕ). Some (x ++ w)) same
after_comments-append (suc n) [] l w h = absurd cc
after_comments-append (suc n) (c ∷ []) l w h = absurd cc
after_comments-append (suc n) (c ∷ d ∷ cs) l w h = at (eqb c 47 && eqb d 42) refl (eqb c 42 && eqb d 47) refl
    (after_comments-append (suc (suc n)) cs l w) (after_comments-append n cs l w) (after_comments-append (suc n) (d ∷ cs) l w)
  where
    at : (a : Bool) → (eqb c 47 && eqb d 42) ≡ a → (b : Bool) → (eqb c 42 && eqb d 47) ≡ b
        → (after_comments (suc (suc n)) cs ≡ Some l → after_comments (suc (suc n)) (cs ++ w) ≡ Some (l ++ w))
        → (after_comments n cs ≡ Some l → after_comments n (cs ++ w) ≡ Some (l ++ w))
        → (after_comments (suc n) (d ∷ cs) ≡ Some l → after_comments (suc n) (d ∷ cs ++ w) ≡ Some (l ++ w))
        → after_comments (suc n) (c ∷ d ∷ cs ++ w) ≡ Some (l ++ w)
    at true ha b hb more less same = one_more n c d (cs ++ w) ha ∙ more (sym (one_more n c d cs ha) ∙ h)
    at false ha true hb more less same = one_less n c d (cs ++ w) ha hb ∙ less (sym (one_less n c d cs ha hb) ∙ h)
    at false ha false hb more less same = as_many n c d (cs ++ w) ha hb ∙ same (sym (as_many n c d cs ha hb) ∙ h)

-- the bytes before what comments leave, with whose last one they end
pub record Closed (n : ℕ) (text l : List ℕ) : Type 0 where
  pub used : List ℕ
  pub is : text ≡ used ++ l
  pub closes : after_comments n used ≡ Some []

pub after_comments_used : (n : ℕ) (text l : List ℕ) → after_comments n text ≡ Some l → Closed n text l
after_comments_used zero text l h = let same : text ≡ l = cc in record { used = []; is = same; closes = refl }
after_comments_used (suc n) [] l h = absurd cc
after_comments_used (suc n) (c ∷ []) l h = absurd cc
after_comments_used (suc n) (c ∷ d ∷ cs) l h = at (eqb c 47 && eqb d 42) refl (eqb c 42 && eqb d 47) refl
    (after_comments_used (suc (suc n)) cs l) (after_comments_used n cs l) (after_comments_used (suc n) (d ∷ cs) l)
  where
    further : (u : List ℕ) → d ∷ cs ≡ u ++ l → after_comments (suc n) u ≡ Some [] → (eqb c 47 && eqb d 42) ≡ false → (eqb c 42 && eqb d 47) ≡ false → Closed (suc n) (c ∷ d ∷ cs) l
    further [] e k ha hb = absurd cc
    further (x ∷ []) e k ha hb = absurd cc
    further (x ∷ y ∷ u) e k ha hb =
        let same : d ≡ x = cc in
        record {
          used = c ∷ x ∷ y ∷ u;
          is = ap (λ (r : List ℕ). c ∷ r) e;
          closes = as_many n c x (y ∷ u) (ap (λ z. eqb c 47 && eqb z 42) (sym same) ∙ ha) (ap (λ z. eqb c 42 && eqb z 47) (sym same) ∙ hb) ∙ k;
        }

    at : (a : Bool) → (eqb c 47 && eqb d 42) ≡ a → (b : Bool) → (eqb c 42 && eqb d 47) ≡ b
        → (after_comments (suc (suc n)) cs ≡ Some l → Closed (suc (suc n)) cs l) → (after_comments n cs ≡ Some l → Closed n cs l) → (after_comments (suc n) (d ∷ cs) ≡ Some l → Closed (suc n) (d ∷ cs) l)
        → Closed (suc n) (c ∷ d ∷ cs) l
    at true ha b hb more less same =
        let k = more (sym (one_more n c d cs ha) ∙ h) in
        record { used = c ∷ d ∷ k.used; is = ap (λ (r : List ℕ). c ∷ d ∷ r) k.is; closes = one_more n c d k.used ha ∙ k.closes }
    at false ha true hb more less same =
        let k = less (sym (one_less n c d cs ha hb) ∙ h) in
        record { used = c ∷ d ∷ k.used; is = ap (λ (r : List ℕ). c ∷ d ∷ r) k.is; closes = one_less n c d k.used ha hb ∙ k.closes }
    at false ha false hb more less same =
        let k = same (sym (as_many n c d cs ha hb) ∙ h) in
        further k.used k.is k.closes ha hb

block_text : (cs l : List ℕ) → after_comments 1 cs ≡ Some l → is_block (47 ∷ 42 ∷ cs) ≡ ends_there (Some l)
block_text cs l h = rw h refl

-- the comment at the front, by what is left behind it
pub block_piece : (text : List ℕ) (n : ℕ) → opens_block text ≡ true → 2 ≤ n → n ≤ length text → after_comments 1 (drop 2 text) ≡ Some (drop n text) → is_block (take n text) ≡ true
block_piece text n h two within left =
    let t = two_bytes_are 47 42 text h in
    let begun : drop 2 text ≡ t.rest = ap (drop 2) t.is in
    let k = after_comments_used 1 t.rest (drop n text) (ap (after_comments 1) (sym begun) ∙ left) in
    let whole : take n text ++ drop n text ≡ (47 ∷ 42 ∷ k.used) ++ drop n text = take-append-drop n text ∙ t.is ∙ ap (λ (r : List ℕ). 47 ∷ 42 ∷ r) k.is in
    let used : take n text ≡ 47 ∷ 42 ∷ k.used = same_front (take n text) (47 ∷ 42 ∷ k.used) (drop n text) whole in
    ap is_block used ∙ block_text k.used [] k.closes

-- ---- pieces

block_left : (u w : List ℕ) → is_block u ≡ true → after_comments 1 (drop 2 (u ++ w)) ≡ Some w
block_left u w h =
    let p = and_parts (opens_block u) (ends_there (after_comments 1 (drop 2 u))) h in
    let t = two_bytes_are 47 42 u p.0 in
    let closes : after_comments 1 t.rest ≡ Some [] = ap (λ (r : List ℕ). after_comments 1 (drop 2 r)) (sym t.is) ∙ ends_there_is (after_comments 1 (drop 2 u)) p.1 in
    ap (λ (r : List ℕ). after_comments 1 (drop 2 (r ++ w))) t.is ∙ after_comments-append 1 t.rest [] w closes

block_opens : (u : List ℕ) → is_block u ≡ true → opens_block u ≡ true
block_opens u h = (and_parts (opens_block u) (ends_there (after_comments 1 (drop 2 u))) h).0

pub slash_first : (c : ℕ) (cs : List ℕ) → opens_comment (c ∷ cs) ≡ true → c ≡ 47
slash_first c cs h =
    elim (or_cases (opens_line (c ∷ cs)) (opens_block (c ∷ cs)) h)
    [ inl line ↦ eqb-true c 47 ((and_parts (eqb c 47) (next_is (λ d. eqb d 47) cs) line).0) | inr block ↦ eqb-true c 47 ((and_parts (eqb c 47) (next_is (λ d. eqb d 42) cs) block).0) ]

line_opens : (u : List ℕ) → opens_line u ≡ true → opens_comment u ≡ true
line_opens u h = rw h refl

pub block_opens_comment : (u : List ℕ) → opens_block u ≡ true → opens_comment u ≡ true
block_opens_comment u h = rw h (or-true (opens_line u))

pub some_is : (a b : List ℕ) → ◌≡◌ {A = Option (List ℕ)} (Some a) (Some b) → a ≡ b
some_is a b e = cc

-- no piece stands where none does
pub dark_no_piece : (text u w : List ℕ) → IsDark text → text ≡ u ++ w → IsPiece u w → ⊥
dark_no_piece text u w dark e (inl (c, is, space)) =
    let no : is_space c ≡ false = ap (λ (r : List ℕ). next_is is_space (r ++ w)) (sym is) ∙ ap (next_is is_space) (sym e) ∙ dark.no_space in
    absurd (cc (space, no))
dark_no_piece text u w dark e (inr (inl (opens, _, _))) =
    let here : opens_line text ≡ true = ap opens_line e ∙ begins_with-append 47 47 u w opens in
    absurd (cc (here, dark.no_line))
dark_no_piece text u w dark e (inr (inr block)) =
    let here : opens_block text ≡ true = ap opens_block e ∙ begins_with-append 47 42 u w (block_opens u block) in
    let some : after_comments 1 (drop 2 text) ≡ Some w = ap (λ (r : List ℕ). after_comments 1 (drop 2 r)) e ∙ block_left u w block in
    absurd (cc (some, dark.no_block here))

-- a piece of white space, and no comment
space_alone : (c : ℕ) (w v x : List ℕ) → is_space c ≡ true → (c ∷ []) ++ w ≡ v ++ x → opens_comment v ≡ true → ⊥
space_alone c w [] x space e opens = absurd cc
space_alone c w (d ∷ v) x space e opens =
    let same : c ≡ d = cc in
    let slash : d ≡ 47 = slash_first d v opens in
    let no : is_space d ≡ false = ap is_space slash in
    absurd (cc (space, no, ap is_space same))

pub both_open : (text : List ℕ) → opens_line text ≡ true → opens_block text ≡ true → ⊥
both_open text h k =
    let a = two_bytes_are 47 47 text h in
    let b = two_bytes_are 47 42 text k in
    let e : 47 ∷ 47 ∷ a.rest ≡ 47 ∷ 42 ∷ b.rest = sym a.is ∙ b.is in
    absurd (omega (arith, ap (λ (l : List ℕ). get_or l 1 0) e))

-- lines that end before the same text are the same
same_line : (u w v x : List ℕ) → u ++ w ≡ v ++ x → all_are on_line u ≡ true → all_are on_line v ≡ true → next_is on_line w ≡ false → next_is on_line x ≡ false → (u ≡ v) × (w ≡ x)
same_line u w v x e hu hv stop halt =
    let le = no_further on_line u w v x stop hv e in
    let ge = no_further on_line v x u w halt hu (sym e) in
    same_split u w v x e (omega (arith, le, ge))

-- two pieces at one place are the same
pub same_piece : (u w v x : List ℕ) → u ++ w ≡ v ++ x → IsPiece u w → IsPiece v x → (u ≡ v) × (w ≡ x)
same_piece u w v x e (inl (c, iu, _)) (inl (d, iv, _)) = same_split u w v x e (ap (length {A = ℕ}) iu ∙ sym (ap (length {A = ℕ}) iv))
same_piece u w v x e (inl (c, iu, space)) (inr (inl (opens, _, _))) = absurd (space_alone c w v x space (ap (λ (l : List ℕ). l ++ w) (sym iu) ∙ e) (line_opens v opens))
same_piece u w v x e (inl (c, iu, space)) (inr (inr block)) = absurd (space_alone c w v x space (ap (λ (l : List ℕ). l ++ w) (sym iu) ∙ e) (block_opens_comment v (block_opens v block)))
same_piece u w v x e (inr (inl (opens, _, _))) (inl (d, iv, space)) = absurd (space_alone d x u w space (ap (λ (l : List ℕ). l ++ x) (sym iv) ∙ sym e) (line_opens u opens))
same_piece u w v x e (inr (inl (_, hu, stop))) (inr (inl (_, hv, halt))) = same_line u w v x e hu hv stop halt
same_piece u w v x e (inr (inl (opens, _, _))) (inr (inr block)) =
    absurd (both_open (u ++ w) (begins_with-append 47 47 u w opens) (ap opens_block e ∙ begins_with-append 47 42 v x (block_opens v block)))
same_piece u w v x e (inr (inr block)) (inl (d, iv, space)) = absurd (space_alone d x u w space (ap (λ (l : List ℕ). l ++ x) (sym iv) ∙ sym e) (block_opens_comment u (block_opens u block)))
same_piece u w v x e (inr (inr block)) (inr (inl (opens, _, _))) =
    absurd (both_open (v ++ x) (begins_with-append 47 47 v x opens) (ap opens_block (sym e) ∙ begins_with-append 47 42 u w (block_opens u block)))
same_piece u w v x e (inr (inr bu)) (inr (inr bv)) =
    let left : w ≡ x = some_is w x (sym (block_left u w bu) ∙ ap (λ (l : List ℕ). after_comments 1 (drop 2 l)) e ∙ block_left v x bv) in
    (same_rest u w v x e left, left)

-- ---- gaps

-- two gaps before what is no piece are the same
pub same_gap : (us : List (List ℕ)) (a : List ℕ) (vs : List (List ℕ)) (b : List ℕ) → joined us ++ a ≡ joined vs ++ b → IsGap us a → IsGap vs b → IsDark a → IsDark b → (us ≡ vs) × (a ≡ b)
same_gap [] a [] b e gs hs na nb = (refl, e)
same_gap [] a (v ∷ vs) b e gs hs na nb = absurd (dark_no_piece a v (joined vs ++ b) na (e ∙ append_assoc v (joined vs) b) hs.0)
same_gap (u ∷ us) a [] b e gs hs na nb = absurd (dark_no_piece b u (joined us ++ a) nb (sym e ∙ append_assoc u (joined us) a) gs.0)
same_gap (u ∷ us) a (v ∷ vs) b e gs hs na nb =
    let whole : u ++ (joined us ++ a) ≡ v ++ (joined vs ++ b) = sym (append_assoc u (joined us) a) ∙ e ∙ append_assoc v (joined vs) b in
    let piece = same_piece u (joined us ++ a) v (joined vs ++ b) whole gs.0 hs.0 in
    let ih = same_gap us a vs b piece.1 gs.1 hs.1 na nb in
    (cc (piece.0, ih.0), ih.1)

-- one more piece behind a gap
pub joined-append : (us vs : List (List ℕ)) → joined (us ++ vs) ≡ joined us ++ joined vs
joined-append [] vs = refl
joined-append (u ∷ us) vs = ap (λ (l : List ℕ). u ++ l) (joined-append us vs) ∙ sym (append_assoc u (joined us) (joined vs))

pub joined_one : (us : List (List ℕ)) (v : List ℕ) → joined (us ++ v ∷ []) ≡ joined us ++ v
joined_one us v = joined-append us (v ∷ []) ∙ ap (λ (l : List ℕ). joined us ++ l) (append-nil v)

pub gap_grows : (us : List (List ℕ)) (v rest : List ℕ) → IsGap us (v ++ rest) → IsPiece v rest → IsGap (us ++ v ∷ []) rest
gap_grows [] v rest gap piece = (piece, tt)
gap_grows (u ∷ us) v rest gap piece =
    let same : joined us ++ (v ++ rest) ≡ joined (us ++ v ∷ []) ++ rest = sym (append_assoc (joined us) v rest) ∙ ap (λ (l : List ℕ). l ++ rest) (sym (joined_one us v)) in
    (subst (IsPiece u) same gap.0, gap_grows us v rest gap.1 piece)

-- ---- what the lexer finds

pub line_found : (text : List ℕ) (n : ℕ) → opens_line text ≡ true → n ≤ length text → all_are on_line (take n text) ≡ true → next_is on_line (drop n text) ≡ false → IsPieceAt text n
line_found [] n opens within all ended = absurd cc
line_found (c ∷ []) n opens within all ended = let p = and_parts (eqb c 47) false opens in absurd cc
line_found (c ∷ d ∷ cs) zero opens within all ended = let slash = slash_first c (d ∷ cs) (line_opens (c ∷ d ∷ cs) opens) in absurd (cc (ended, ap on_line slash))
line_found (c ∷ d ∷ cs) (suc zero) opens within all ended =
    let slash : d ≡ 47 = eqb-true d 47 ((and_parts (eqb c 47) (eqb d 47) opens).1) in
    absurd (cc (ended, ap on_line slash))
line_found (c ∷ d ∷ cs) (suc (suc n)) opens within all ended = record { some = omega arith; within = within; piece = inr (inl (opens, all, ended)) }

pub block_found : (text : List ℕ) (n : ℕ) → opens_block text ≡ true → 2 ≤ n → n ≤ length text → after_comments 1 (drop 2 text) ≡ Some (drop n text) → IsPieceAt text n
block_found text n opens two within left = record { some = omega arith; within = within; piece = inr (inr (block_piece text n opens two within left)) }
