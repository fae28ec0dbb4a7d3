-- Worked rows: which entries the reductions of an expression ask for.
-- `A` is the array in slot 3.
use Rattle.std.proofs.Common.{ℕ, pos}
use Rattle.dpl_map.specs.Maps.{owner}
use Rattle.dpl_memory.specs.Memory.{array_at}
use Rattle.dpl_nodes.specs.declared.fold.IntFold.TheVariants.{Sum}
use Rattle.dpl_nodes.specs.declared.tree.RangeMethod.TheVariants.{Size}
use Rattle.dpl_nodes.specs.declared.tree.IntExpr.{Number, Sum', OfRange', Reduced'}
use Rattle.dpl_nodes.specs.declared.tree.RangeExpr.{Between'}
use Rattle.dpl_nodes.specs.declared.tree.Stride.{Absent}
use Rattle.dpl_nodes.specs.declared.tree.Dots.TheVariants.{Closed}
use Rattle.dpl_nodes.specs.declared.tree.PromotedInt.{Scalar', Element}
use Rattle.dpl_frame.specs.Frames.{Framed, owned_by}
use Rattle.dpl_loop.specs.Entries.{MayRefuse}
use Rattle.dpl_values.specs.Reductions.{MayRefuseReduction, EachInInt}

module _ (may : ℕ → ℕ → Type 0) (f : Framed) where
  abbrev entry_of_A : Type 0
  entry_of_A = MayRefuse may (owned_by f 3) (array_at 3 f.memory).ranges

  -- `1 + 2` is never refused
  nothing-row : (p q : _) → MayRefuseReduction may f (EachInInt (Sum' p (Number (pos 1)) q (Number (pos 2)))) → ⊥
  nothing-row p q (some, asked) = asked (tt, tt)

  -- `1 + (+ reduce A)` may be refused where an entry of A may be, and nowhere else
  asked-row : (p q r at from : _) → entry_of_A → MayRefuseReduction may f (EachInInt (Sum' p (Number (pos 1)) q (Reduced' Sum r (Element 3 at) from)))
  asked-row p q r at from (place, t, is, refuses) = ((owner (owned_by f 3) t, place, refuses), λ all. all.1.0 (place, t, is, refuses))

  open-row : (p q r at from : _) → (entry_of_A → ⊥) → MayRefuseReduction may f (EachInInt (Sum' p (Number (pos 1)) q (Reduced' Sum r (Element 3 at) from))) → ⊥
  open-row p q r at from none (some, asked) = asked (tt, (none, tt))

  -- and so may `(1..+ reduce A).size`, behind a bound
  bound-row : (o p q r at from dots name : _) → (entry_of_A → ⊥) → MayRefuseReduction may f (EachInInt (OfRange' Size o (Between' p (Number (pos 1)) dots Closed q (Reduced' Sum r (Element 3 at) from) Absent) name)) → ⊥
  bound-row o p q r at from dots name none (some, asked) = asked (tt, (none, tt), tt)

  -- a reduction of no array, which no checked program has, asks nothing by itself
  scalar-row : (p r from : _) → MayRefuseReduction may f (EachInInt (Reduced' Sum p (Scalar' r (Number (pos 1))) from)) → ⊥
  scalar-row p r from (some, asked) = asked (tt, tt)
