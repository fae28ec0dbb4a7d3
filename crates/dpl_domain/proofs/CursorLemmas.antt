-- The steps of a walk over the indices, and the indices as what a walk goes over.
use Rattle.std.proofs.Common.{◌≡◌, ℕ, zero, suc, ◌<◌, List, [], ◌∷◌, ◌++◌, length, refl, ap, sym, ◌∙◌, arith, ℤ, pos, drop, All, map, flat_map, subst}
use Rattle.std.proofs.lemmas.List.{map-append, append-nil}
use Rattle.dpl_sets.specs.Ranges.{RangeValue, members_of}
use Rattle.dpl_domain.specs.declared.walk.Track.{Track}
use Rattle.dpl_domain.specs.declared.walk.Cursor.TheInside.{Inside}
use Rattle.dpl_domain.specs.Cursor.{terms_of, rest_of, IsCursor}
use Rattle.dpl_sets.specs.Indices.{tuples, indices}
use Rattle.dpl_domain.specs.Progression.{progression, line_of, plane_of, space_of}
use Rattle.dpl_domain.specs.Ranks.{last_of, point, IsPadded}
use Rattle.dpl_domain.proofs.TupleLemmas.{members-point}

-- what a track has left
terms-none : (t : Track) → t.left ≡ 0 → terms_of t ≡ []
terms-none t none = ap (progression t.next t.step) none

terms-some : (t : Track) → 0 < t.left → terms_of t ≡ t.next ∷ drop 1 (terms_of t)
terms-some t some = go t.next t.step t.left some
  where
    go : (next step : ℤ) (n : ℕ) → 0 < n → progression next step n ≡ next ∷ drop 1 (progression next step n)
    go next step zero some = absurd (omega arith)
    go next step (suc n) some = refl

-- what holds of all holds of the first and of the rest
All-first : (P : ℤ → Type 0) (t : Track) → 0 < t.left → All P (terms_of t) → P t.next
All-first P t some all = let h = subst (λ is. All P is) (terms-some t some) all in h 0 (pos 0) (omega arith)

All-rest : (P : ℤ → Type 0) (t : Track) → 0 < t.left → All P (terms_of t) → All P (drop 1 (terms_of t))
All-rest P t some all = let h = subst (λ is. All P is) (terms-some t some) all in λ k d within. h (suc k) d (omega arith)

-- a cursor that stands at a line with something left
pub record IsReady (c : Inside) (v : List (List ℤ)) : Type 0 where
  pub same : rest_of c ≡ v
  pub cursor : IsCursor c
  pub some : 0 < c.inner.left

-- one whose line is gone over, with a line left in its plane
pub record IsAtLine (c : Inside) (v : List (List ℤ)) : Type 0 where
  pub same : rest_of c ≡ v
  pub cursor : IsCursor c
  pub none : c.inner.left ≡ 0
  pub some : 0 < c.middle.left

abbrev pub to_plane : Inside → ℤ → Track → Inside
to_plane c taken rest = record c { outer_at = taken; outer = rest; middle = c.lines }

abbrev pub to_line : Inside → ℤ → Track → Inside
to_line c taken rest = record c { middle_at = taken; middle = rest; inner = c.line }

-- what is left, by what is left of the line, of the plane and of the whole
abbrev left_of : ℕ → ℤ → ℤ → List ℤ → List ℤ → List ℤ → List ℤ → List ℤ → List (List ℤ)
left_of rank x y inner middle outer lines line = line_of rank x y inner ++ plane_of rank x middle line ++ space_of rank outer lines line

pub IsAtLine-to_plane : (c : Inside) (taken : ℤ) (rest : Track) → IsCursor c → c.inner.left ≡ 0 → c.middle.left ≡ 0 → 0 < c.outer.left → taken ≡ c.outer.next → terms_of rest ≡ drop 1 (terms_of c.outer) → IsAtLine (to_plane c taken rest) (rest_of c)
IsAtLine-to_plane c taken rest cursor no_inner no_middle some at after =
    record {
      same =
          ap (λ is. left_of c.rank taken c.middle_at is (terms_of c.lines) (terms_of rest) (terms_of c.lines) (terms_of c.line)) (terms-none c.inner no_inner)
          ∙ ap (λ os. left_of c.rank taken c.middle_at [] (terms_of c.lines) os (terms_of c.lines) (terms_of c.line)) after
          ∙ ap (λ x. left_of c.rank x c.middle_at [] (terms_of c.lines) (drop 1 (terms_of c.outer)) (terms_of c.lines) (terms_of c.line)) at
          ∙ sym (ap (λ is. left_of c.rank c.outer_at c.middle_at is (terms_of c.middle) (terms_of c.outer) (terms_of c.lines) (terms_of c.line)) (terms-none c.inner no_inner)
          ∙ ap (λ ms. left_of c.rank c.outer_at c.middle_at [] ms (terms_of c.outer) (terms_of c.lines) (terms_of c.line)) (terms-none c.middle no_middle)
          ∙ ap (λ os. left_of c.rank c.outer_at c.middle_at [] [] os (terms_of c.lines) (terms_of c.line)) (terms-some c.outer some));
      cursor = record {
        from_one = cursor.from_one;
        to_three = cursor.to_three;
        outer_unused = λ below. at ∙ All-first (λ x. x ≡ pos 0) c.outer some (cursor.outer_terms below);
        outer_terms = λ below. subst (λ is. All (λ x. x ≡ pos 0) is) (sym after) (All-rest (λ x. x ≡ pos 0) c.outer some (cursor.outer_terms below));
        middle_unused = cursor.middle_unused;
        middle_terms = cursor.lines_terms;
        lines_terms = cursor.lines_terms;
        lines_come = λ _. cursor.lines_come some;
        line_comes = λ _. cursor.line_comes some;
        line_of_plane = λ _. cursor.line_comes some;
      };
      none = no_inner;
      some = cursor.lines_come some;
    }

pub IsReady-to_line : (c : Inside) (v : List (List ℤ)) (taken : ℤ) (rest : Track) → IsAtLine c v → taken ≡ c.middle.next → terms_of rest ≡ drop 1 (terms_of c.middle) → IsReady (to_line c taken rest) v
IsReady-to_line c v taken rest at_line at after =
    record {
      same =
          ap (λ ms. left_of c.rank c.outer_at taken (terms_of c.line) ms (terms_of c.outer) (terms_of c.lines) (terms_of c.line)) after
          ∙ ap (λ y. left_of c.rank c.outer_at y (terms_of c.line) (drop 1 (terms_of c.middle)) (terms_of c.outer) (terms_of c.lines) (terms_of c.line)) at
          ∙ sym (ap (λ is. left_of c.rank c.outer_at c.middle_at is (terms_of c.middle) (terms_of c.outer) (terms_of c.lines) (terms_of c.line)) (terms-none c.inner at_line.none)
          ∙ ap (λ ms. left_of c.rank c.outer_at c.middle_at [] ms (terms_of c.outer) (terms_of c.lines) (terms_of c.line)) (terms-some c.middle at_line.some))
          ∙ at_line.same;
      cursor = record {
        from_one = at_line.cursor.from_one;
        to_three = at_line.cursor.to_three;
        outer_unused = at_line.cursor.outer_unused;
        outer_terms = at_line.cursor.outer_terms;
        middle_unused = λ below. at ∙ All-first (λ y. y ≡ pos 0) c.middle at_line.some (at_line.cursor.middle_terms below);
        middle_terms = λ below. subst (λ is. All (λ y. y ≡ pos 0) is) (sym after) (All-rest (λ y. y ≡ pos 0) c.middle at_line.some (at_line.cursor.middle_terms below));
        lines_terms = at_line.cursor.lines_terms;
        lines_come = at_line.cursor.lines_come;
        line_comes = at_line.cursor.line_comes;
        line_of_plane = λ _. at_line.cursor.line_of_plane at_line.some;
      };
      some = at_line.cursor.line_of_plane at_line.some;
    }

-- a cursor with nothing left anywhere is at the end
pub rest-none : (c : Inside) → c.inner.left ≡ 0 → c.middle.left ≡ 0 → c.outer.left ≡ 0 → rest_of c ≡ []
rest-none c no_inner no_middle no_outer =
    ap (λ is. left_of c.rank c.outer_at c.middle_at is (terms_of c.middle) (terms_of c.outer) (terms_of c.lines) (terms_of c.line)) (terms-none c.inner no_inner)
    ∙ ap (λ ms. left_of c.rank c.outer_at c.middle_at [] ms (terms_of c.outer) (terms_of c.lines) (terms_of c.line)) (terms-none c.middle no_middle)
    ∙ ap (λ os. left_of c.rank c.outer_at c.middle_at [] [] os (terms_of c.lines) (terms_of c.line)) (terms-none c.outer no_outer)

-- the next index, and what is left after it
pub rest-next : (c : Inside) → 0 < c.inner.left → rest_of c ≡ last_of c.rank c.outer_at c.middle_at c.inner.next ∷ (line_of c.rank c.outer_at c.middle_at (drop 1 (terms_of c.inner)) ++ plane_of c.rank c.outer_at (terms_of c.middle) (terms_of c.line) ++ space_of c.rank (terms_of c.outer) (terms_of c.lines) (terms_of c.line))
rest-next c some =
    ap (λ is. line_of c.rank c.outer_at c.middle_at is ++ plane_of c.rank c.outer_at (terms_of c.middle) (terms_of c.line) ++ space_of c.rank (terms_of c.outer) (terms_of c.lines) (terms_of c.line)) (terms-some c.inner some)

-- the indices of a domain are what a walk over its three ranges goes over
map-flat_map : {A : Type 0} (f : List ℤ → A) (g : ℤ → List (List ℤ)) (is : List ℤ) → map f (flat_map g is) ≡ flat_map (λ i. map f (g i)) is
map-flat_map f g [] = refl
map-flat_map f g (i ∷ is) = map-append f (g i) (flat_map g is) ∙ ap (λ ts. map f (g i) ++ ts) (map-flat_map f g is)

flat_map-alike : (f g : ℤ → List (List ℤ)) (is : List ℤ) → ((i : ℤ) → f i ≡ g i) → flat_map f is ≡ flat_map g is
flat_map-alike f g [] alike = refl
flat_map-alike f g (i ∷ is) alike = ap (λ ts. ts ++ flat_map f is) (alike i) ∙ ap (λ ts. g i ++ ts) (flat_map-alike f g is alike)

map-line : (f : List ℤ → List ℤ) (is : List ℤ) → map f (tuples (is ∷ [])) ≡ map (λ z. f (z ∷ [])) is
map-line f [] = refl
map-line f (i ∷ is) = ap (λ ts. f (i ∷ []) ∷ ts) (map-line f is)

map-map : (f : List ℤ → List ℤ) (g : ℤ → List ℤ) (is : List ℤ) → map f (map g is) ≡ map (λ z. f (g z)) is
map-map f g [] = refl
map-map f g (i ∷ is) = ap (λ ts. f (g i) ∷ ts) (map-map f g is)

tuples-line : (is : List ℤ) → tuples (is ∷ []) ≡ map (λ z. z ∷ []) is
tuples-line [] = refl
tuples-line (i ∷ is) = ap (λ ts. (i ∷ []) ∷ ts) (tuples-line is)

point-members : (r : RangeValue) → r ≡ point → members_of r ≡ pos 0 ∷ []
point-members r is = ap members_of is ∙ members-point

pub zeros-point : (r : RangeValue) → r ≡ point → All (λ x. x ≡ pos 0) (members_of r)
zeros-point r is = subst (λ xs. All (λ x. x ≡ pos 0) xs) (sym (point-members r is)) zeros
  where
    zeros : All (λ x. x ≡ pos 0) (pos 0 ∷ [])
    zeros zero d within = refl
    zeros (suc k) d within = absurd (omega arith)

pub space-indices : (rank : ℕ) (o m i : RangeValue) → IsPadded point rank o m → space_of rank (members_of o) (members_of m) (members_of i) ≡ indices (last_of rank o m i)
unfolding indices
space-indices zero o m i padded = absurd (omega (arith, padded.from_one))
space-indices (suc zero) o m i padded =
    ap (λ os. space_of 1 os (members_of m) (members_of i)) (point-members o (padded.first (omega arith)))
    ∙ ap (λ ms. space_of 1 (pos 0 ∷ []) ms (members_of i)) (point-members m (padded.second (omega arith)))
    ∙ append-nil (line_of 1 (pos 0) (pos 0) (members_of i) ++ [])
    ∙ append-nil (line_of 1 (pos 0) (pos 0) (members_of i))
    ∙ sym (tuples-line (members_of i))
space-indices (suc (suc zero)) o m i padded =
    ap (λ os. space_of 2 os (members_of m) (members_of i)) (point-members o (padded.first (omega arith)))
    ∙ append-nil (plane_of 2 (pos 0) (members_of m) (members_of i))
    ∙ flat_map-alike (λ y. line_of 2 (pos 0) y (members_of i)) (λ y. map (λ t. y ∷ t) (tuples (members_of i ∷ []))) (members_of m)
    (λ y. sym (map-line (λ t. y ∷ t) (members_of i)))
space-indices (suc (suc (suc zero))) o m i padded =
    flat_map-alike (λ x. plane_of 3 x (members_of m) (members_of i)) (λ x. map (λ t. x ∷ t) (tuples (members_of m ∷ members_of i ∷ []))) (members_of o)
    (λ x.
    flat_map-alike (λ y. line_of 3 x y (members_of i)) (λ y. map (λ t. x ∷ t) (map (λ t. y ∷ t) (tuples (members_of i ∷ [])))) (members_of m)
    (λ y. sym (ap (map (λ t. x ∷ t)) (map-line (λ t. y ∷ t) (members_of i)) ∙ map-map (λ t. x ∷ t) (λ z. y ∷ z ∷ []) (members_of i)))
    ∙ sym (map-flat_map (λ t. x ∷ t) (λ y. map (λ t. y ∷ t) (tuples (members_of i ∷ []))) (members_of m)))
space-indices (suc (suc (suc (suc n)))) o m i padded = absurd (omega (arith, padded.to_three))

-- no list of no length has an element
pub length-zero : {X : Type 0} (xs : List X) → length xs ≡ 0 → [] ≡ xs
length-zero [] none = refl
length-zero (x ∷ xs) none = absurd (omega arith)

-- the coordinates that a cursor stands at are padded
pub IsPadded-cursor : (c : Inside) → IsCursor c → IsPadded (pos 0) c.rank c.outer_at c.middle_at
IsPadded-cursor c cursor =
    record { from_one = cursor.from_one; to_three = cursor.to_three; first = cursor.outer_unused; second = cursor.middle_unused }
