-- Calm statements do the same whatever is to come to them where they stand, and in those without foralls nothing is noted.
use Rattle.std.proofs.Common.{◌≡◌, Option, refl, ap, ◌∙◌}
use Rattle.dpl_language.specs.Tree.{ExprTree, ItemTree, StmtTree, Stmts}
use Rattle.dpl_language.specs.Values.{Index}
use Rattle.dpl_language.specs.Outcome.{Deeds, Done, Run}
use Rattle.dpl_language.specs.Environment.{Content, Limits}
use Rattle.dpl_language.specs.Expressions.{value_of, item_of}
use Rattle.dpl_language.specs.Statements.{exec, exec_all}
use Rattle.dpl_memory.specs.Memory.{Variable, Coming, Memory, declared, in_memory}
use Rattle.dpl_coming.specs.Calm.{CalmIf, AllCalmIf, IsCalm, AreCalm}
use Rattle.dpl_coming.specs.Noting.{Note, noting}
use Rattle.dpl_coming.specs.Walks.{Site, Outside, InTurn, InTask, with_rest, end_with_rest}
use Rattle.dpl_coming.proofs.Coming.{declare-kept, exec-coming, exec_all-coming, value-coming, item-coming}
use Rattle.dpl_coming.proofs.Unnoted.{exec-unnoted, exec_all-unnoted}

pub declare-unseen : (site : Site) (rest : Coming) (x : Variable) (c : Content Variable) (s : Memory) → declared x c (with_rest site rest s) ≡ with_rest site rest (declared x c s)
declare-unseen Outside rest x c s = declare-kept rest x c s
declare-unseen InTurn rest x c s = refl
declare-unseen InTask rest x c s = declare-kept rest x c s

pub end_with_rest-done : (site : Site) (rest : Coming) (s : Memory) (done : Deeds) → end_with_rest site rest (Done s done) ≡ Done (with_rest site rest s) done
end_with_rest-done Outside rest s done = refl
end_with_rest-done InTurn rest s done = refl
end_with_rest-done InTask rest s done = refl

module _ (limits : Limits) (site : Site) (rest : Coming) where
  pub value-unseen : (e : ExprTree Variable) (t : Option Index) (s : Memory) → value_of limits in_memory e t (with_rest site rest s) ≡ value_of limits in_memory e t s
  value-unseen e t s = by-site site
    where
      by-site : (site : Site) → value_of limits in_memory e t (with_rest site rest s) ≡ value_of limits in_memory e t s
      by-site InTurn = refl
      by-site _ = value-coming ⊥ rest limits e t s

  pub item-unseen : (i : ItemTree Variable) (t : Option Index) (s : Memory) → item_of limits in_memory i t (with_rest site rest s) ≡ item_of limits in_memory i t s
  item-unseen i t s = by-site site
    where
      by-site : (site : Site) → item_of limits in_memory i t (with_rest site rest s) ≡ item_of limits in_memory i t s
      by-site InTurn = refl
      by-site _ = item-coming ⊥ rest limits i t s

  pub exec-unseen : (foralls : Type 0) (t : StmtTree Variable) (s : Memory) (done : Deeds) → CalmIf foralls t → exec limits in_memory t (with_rest site rest s) done ≡ end_with_rest site rest (exec limits in_memory t s done)
  exec-unseen foralls t s done calm = by-site site
    where
      by-site : (site : Site) → exec limits in_memory t (with_rest site rest s) done ≡ end_with_rest site rest (exec limits in_memory t s done)
      by-site InTurn = refl
      by-site _ = exec-coming foralls rest limits t s done calm

  pub exec_all-unseen : (foralls : Type 0) (ts : Stmts Variable) (s : Memory) (done : Deeds) → AllCalmIf foralls ts → exec_all limits in_memory ts (with_rest site rest s) done ≡ end_with_rest site rest (exec_all limits in_memory ts s done)
  exec_all-unseen foralls ts s done calm = by-site site
    where
      by-site : (site : Site) → exec_all limits in_memory ts (with_rest site rest s) done ≡ end_with_rest site rest (exec_all limits in_memory ts s done)
      by-site InTurn = refl
      by-site _ = exec_all-coming foralls rest limits ts s done calm

  -- and nothing is noted
  module _ (note : Note) where
    pub exec-calm : (t : StmtTree Variable) (s : Memory) (done : Deeds) → IsCalm t → exec limits (noting note) t (with_rest site rest s) done ≡ end_with_rest site rest (exec limits in_memory t s done)
    exec-calm t s done calm = ap (λ (a : Run Memory). a (with_rest site rest s) done) (exec-unnoted limits note t calm) ∙ exec-unseen ⊥ t s done calm

    pub exec_all-calm : (ts : Stmts Variable) (s : Memory) (done : Deeds) → AreCalm ts → exec_all limits (noting note) ts (with_rest site rest s) done ≡ end_with_rest site rest (exec_all limits in_memory ts s done)
    exec_all-calm ts s done calm = ap (λ (a : Run Memory). a (with_rest site rest s) done) (exec_all-unnoted limits note ts calm) ∙ exec_all-unseen ⊥ ts s done calm

    -- one that is done
    pub exec-calm-done : (t : StmtTree Variable) (s1 s2 : Memory) (done : Deeds) → IsCalm t → exec limits in_memory t s1 done ≡ Done s2 done → exec limits (noting note) t (with_rest site rest s1) done ≡ Done (with_rest site rest s2) done
    exec-calm-done t s1 s2 done calm made = exec-calm t s1 done calm ∙ ap (end_with_rest site rest) made ∙ end_with_rest-done site rest s2 done
