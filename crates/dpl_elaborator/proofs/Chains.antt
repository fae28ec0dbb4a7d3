-- Chains: that they nest is seen in the lowered tree as in the tree; and one more operand of a chain.
-- The lemma on an operand is stated of the chain so far, by what is left of it.
use Rattle.std.proofs.Common.{◌≡◌, true, Option, refl, ap, ◌∙◌}
use Rattle.std.specs.Prelude.{◌&&◌}
use Rattle.dpl_syntax.specs.declared.place.Place.{Place}
use Rattle.dpl_language.specs.Tree.{ExprTree, Infix, Chain, Links, NoLinks, Link}
use Rattle.dpl_language.specs.Arithmetic.{divides}
use Rattle.dpl_language.specs.Names.{Text}
use Rattle.dpl_agreement.specs.Renamed.{renamed_links}
use Rattle.dpl_rules.specs.Sights.{Scopes}
use Rattle.dpl_lowered.specs.Known.{Known}
use Rattle.dpl_lowered.specs.Shapes.{kept, two, grouped, passes_on, all_pass_on, nests, nested}
use Rattle.dpl_lowered.specs.LoweredExpressions.{Times, lowered_links}
use Rattle.dpl_memory.specs.Memory.{Variable, known_variable}
use Rattle.dpl_nodes.specs.Spots.{IsNear}
use Rattle.dpl_spelling.specs.Spelt.{ExprSpelt}
use Rattle.dpl_typed.specs.declared.typed.Typed.{Typed}
use Rattle.dpl_typed.specs.Leaves.{leaf_in, IsFound}
use Rattle.dpl_typed.specs.Simple.{IsSimple}
use Rattle.dpl_typed.specs.Lowered.{leaves_of, links_leaves}
use Rattle.dpl_typed.specs.Stands.{StandsFor}
use Rattle.dpl_typed.proofs.Standing.{stands-same}
use Rattle.dpl_elaborator.specs.SoFar.{IsChainSoFar}

-- ---- chains that nest
module _ {M N : Type 0} (known : N → Known) (m : Times) (f : M → N) where
  all_pass_on-lowered : (op : Infix) (ls : Links M) → all_pass_on op (lowered_links known m (renamed_links f ls)) ≡ all_pass_on op ls
  all_pass_on-lowered op NoLinks = refl
  all_pass_on-lowered op (Link at next e rest) = ap (λ b. passes_on op next && b) (all_pass_on-lowered next rest)

  pub nests-lowered : (ls : Links M) → nests (lowered_links known m (renamed_links f ls)) ≡ nests ls
  nests-lowered NoLinks = refl
  nests-lowered (Link at op e rest) = all_pass_on-lowered op rest

-- a chain that nests is grouped
pub grouped-nested : {N : Type 0} (a : ExprTree N) (ls : Links N) → nests ls ≡ true → grouped a ls ≡ nested a ls
grouped-nested a ls e = rw e refl

-- ---- one more operand
module _ (scopes : Scopes) where
  pub chain-step : (first : Option Typed) (all : Links Text) (t next : Option Typed) (at : Place) (op : Infix) (e : ExprTree Text) (rest : Links Text)
      → IsChainSoFar scopes first all t (Link at op e rest)
      → ((f : Times → ExprTree Variable) → StandsFor t f → IsNear at → IsSimple (IsFound scopes) e → ExprSpelt IsNear ⊥ e
      → StandsFor next (λ m. two (f m) (kept (divides op) at) op (leaves_of scopes m e)))
      → IsChainSoFar scopes first all next rest
  chain-step first all t next at op e rest so_far made = λ f h simple near.
      let so = so_far f h simple near in
      record {
        tree = λ m. two (so.tree m) (kept (divides op) at) op (leaves_of scopes m e);
        stands = made so.tree so.stands so.near.0 so.simple.0 so.near.1;
        same = so.same;
        simple = so.simple.1;
        near = so.near.2;
      }

  -- a whole chain
  pub chain-whole : (r : Option Typed) (e : ExprTree Text) (ls : Links Text) → nests ls ≡ true
      → StandsFor r (λ m. grouped (leaves_of scopes m e) (links_leaves scopes m ls)) → StandsFor r (λ m. leaves_of scopes m (Chain e ls))
  chain-whole r e ls nest h =
      stands-same r (λ m. grouped (leaves_of scopes m e) (links_leaves scopes m ls)) (λ m. leaves_of scopes m (Chain e ls))
      (λ m. grouped-nested (leaves_of scopes m e) (links_leaves scopes m ls) (nests-lowered known_variable m (leaf_in scopes) ls ∙ nest)) h
