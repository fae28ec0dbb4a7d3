-- Chains as indices: one of three operands or more is none.
use Rattle.std.proofs.Common.{◌≡◌, ◌≤◌, List, [], ◌∷◌, length, refl, arith}
use Rattle.dpl_language.specs.Tree.{ExprTree, Chain}
use Rattle.dpl_language.specs.Names.{Text}
use Rattle.dpl_tree.specs.declared.expression.Link.{Link as LinkNode}
use Rattle.dpl_tree.specs.View.{links_of}
use Rattle.dpl_rules.specs.Sights.{Scopes}
use Rattle.dpl_rules.specs.Deeds.{Elsewhere, index_of}

pub index_of-longer : (scopes : Scopes) (e : ExprTree Text) (links : List LinkNode) → 2 ≤ length links → index_of scopes (Chain e (links_of links)) ≡ Elsewhere
index_of-longer scopes e [] h = absurd (omega (arith, h))
index_of-longer scopes e (l ∷ []) h = absurd (omega (arith, h))
index_of-longer scopes e (l ∷ m ∷ links) h = refl
