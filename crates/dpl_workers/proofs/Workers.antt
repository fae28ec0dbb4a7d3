-- Workers of a forall: what a part's gate refuses, and jobs that are done one after another.
use Rattle.std.proofs.Common.{◌≡◌, ℕ, List, [], ◌∷◌, ◌++◌, sym, subst, ◌∙◌}
use Rattle.std.proofs.lemmas.Option.{same_Some}
use Rattle.dpl_sets.specs.Ranges.{RangeValue}
use Rattle.dpl_sets.specs.Indices.{indices}
use Rattle.dpl_map.specs.Maps.{AxisValue, owner}
use Rattle.dpl_language.specs.Values.{Index}
use Rattle.dpl_language.specs.Outcome.{Run}
use Rattle.dpl_language.specs.Environment.{Limits}
use Rattle.dpl_memory.specs.Memory.{Memory}
use Rattle.dpl_workers.specs.declared.job.Job.{Job}
use Rattle.dpl_workers.specs.declared.job.Worked.{Worked}
use Rattle.dpl_loop.specs.Entries.{MayRefuseIn}
use Rattle.dpl_loop.specs.Values.{MayRefuseAmong}
use Rattle.dpl_workers.specs.Workers.{HasDone, HaveDone}

-- an entry that the gate of a part may refuse is one of the whole domain that the gate may refuse
pub refuses-whole : (may : ℕ → ℕ → Type 0) (part whole : List RangeValue) (map : List AxisValue) → MayRefuseAmong (MayRefuseIn may part whole) map (indices part) → MayRefuseAmong may map (indices whole)
refuses-whole may part whole map h =
    let same = same_Some h.1 h.3.0 (sym h.2 ∙ h.3.2) in
    (h.3.1, h.3.0, h.3.3, subst (λ t. may (owner map t) h.3.1) same h.3.4)

-- one job more
module _ (may : Type 0) (turn : Limits → Index → Run Memory) (whole : List RangeValue) (axes : List AxisValue) where
  pub done-next : (js : List Job) (ws : List Worked) (j : Job) (w : Worked) → HaveDone may turn whole axes js ws → HasDone may turn whole axes j w → HaveDone may turn whole axes (js ++ j ∷ []) (ws ++ w ∷ [])
  done-next [] [] j w all one = (one, tt)
  done-next [] (v ∷ ws) j w all one = absurd all
  done-next (i ∷ js) [] j w all one = absurd all
  done-next (i ∷ js) (v ∷ ws) j w all one = (all.0, done-next js ws j w all.1 one)

  pub done-more : (js : List Job) (ws : List Worked) (j : Job) (w : Worked) (jobs : List Job) (done : List Worked) → jobs ≡ js ++ j ∷ [] → done ≡ ws ++ w ∷ []
      → HaveDone may turn whole axes js ws → HasDone may turn whole axes j w → HaveDone may turn whole axes jobs done
  done-more js ws j w jobs done popped pushed all one =
      subst (λ jobs. HaveDone may turn whole axes jobs done) (sym popped) (subst (λ done. HaveDone may turn whole axes (js ++ j ∷ []) done) (sym pushed) (done-next js ws j w all one))
