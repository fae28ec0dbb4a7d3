-- The jobs of the first locales, and that of the last one, if it has a part.
use Rattle.std.proofs.Common.{◌≡◌, ℕ, ◌-◌, ◌++◌, List, [], ◌∷◌, Option, Some, map, length, take, sym, subst, ap, ◌∙◌}
use Rattle.std.specs.List.{AllByRecursion}
use Rattle.dpl_memory.specs.Memory.{intents_by_slot}
use Rattle.dpl_nodes.specs.Steps.{intent_view}
use Rattle.dpl_apart.specs.Workers.{HaveWorkers}
use Rattle.dpl_workers.specs.declared.job.Job.{Job}
use Rattle.dpl_workers.specs.declared.parts.Part.{Part}
use Rattle.dpl_workers.specs.Parts.{IsBegun}
use Rattle.dpl_workers.specs.Taken.{lacking}
use Rattle.dpl_workers.proofs.JobShares.{with-last, all-still, begun-last, all-next, locales-next, indices_at, have-skip, have-next}
use Rattle.dpl_workers.proofs.TakenApart.{lacking-next, lacking-none}
use Rattle.dpl_workers.proofs.jobs.+begin_all.Goals as goal

abbrev locales : List Job → List ℕ
locales js = map (λ (j : Job). j.locale) js

pub returns-in_default-clause-taken : goal.returns-in_default-clause-taken
returns-in_default-clause-taken t c = sym (ap (λ js. map (lacking (locales js)) c.args.taken.now) c.new.ensures.items ∙ lacking-none c.args.taken.now)

-- the last locale has no part
pub returns-in_default-part-clause-jobs : goal.returns-in_default-part-clause-jobs
returns-in_default-part-clause-jobs t c =
    let ps = intents_by_slot (map intent_view c.args.intents.now) in
    let parts = c.args.parts.now in
    let p = c.part-item.result in
    let js = c.in_ok-jobs.jobs.items in
    subst (λ (parts : List (Option Part)). AllByRecursion (IsBegun ps parts c.args.taken.now c.args.frame.now) js) (with-last parts p c.in-len1-up.len_at_least c.part-item.is)
    (all-still ps (take (length parts - 1) parts) c.args.taken.now c.args.frame.now p js c.in_ok-jobs.ensures.jobs)

pub returns-in_default-part-clause-locales : goal.returns-in_default-part-clause-locales
returns-in_default-part-clause-locales t c whole axes =
    let parts = c.args.parts.now in
    let p = c.part-item.result in
    let ls = locales c.in_ok-jobs.jobs.items in
    subst (λ (parts : List (Option Part)). HaveWorkers (indices_at whole axes parts) (length parts) ls) (with-last parts p c.in-len1-up.len_at_least c.part-item.is)
    (have-skip whole axes (take (length parts - 1) parts) p ls (c.in_ok-jobs.ensures.locales whole axes) c.in_default-part.is)

-- or it has one
pub returns-clause-jobs : goal.returns-clause-jobs
returns-clause-jobs t c =
    let ps = intents_by_slot (map intent_view c.args.intents.now) in
    let parts = c.args.parts.now in
    let firsts = take (length parts - 1) parts in
    let p = c.part-item.result in
    let ts = c.args.taken.now in
    let f = c.args.frame.now in
    let js = c.in_ok-jobs.jobs.items in
    let job = c.in_ok-job.job in
    let all : firsts ++ Some c.in-Some.part ∷ [] ≡ parts = ap (λ p. firsts ++ p ∷ []) (sym c.in-Some.is) ∙ with-last parts p c.in-len1-up.len_at_least c.part-item.is in
    let still = all-still ps firsts ts f (Some c.in-Some.part) js c.in_ok-jobs.ensures.jobs in
    let one = begun-last ps firsts ts f c.in-Some.part job (locales js) c.in_ok-own.own.items c.in-Ok.locale c.begin_all.new.taken
    c.in_ok-job.ensures.0 c.in-Ok.ensures.1 c.in_ok-job.ensures.1 c.in_ok-jobs.ensures.taken c.in_ok-own.ensures.own c.in_ok-own.ensures.there c.in_ok-job.ensures.2 in
    subst (λ (js : List Job). AllByRecursion (IsBegun ps parts ts f) js) (sym c.in_ok-push.ensures.items)
    (subst (λ (parts : List (Option Part)). AllByRecursion (IsBegun ps parts ts f) (js ++ job ∷ [])) all
    (all-next (IsBegun ps (firsts ++ Some c.in-Some.part ∷ []) ts f) js job still one))

pub returns-clause-locales : goal.returns-clause-locales
returns-clause-locales t c whole axes =
    let parts = c.args.parts.now in
    let firsts = take (length parts - 1) parts in
    let p = c.part-item.result in
    let js = c.in_ok-jobs.jobs.items in
    let job = c.in_ok-job.job in
    let pushed = ap locales c.in_ok-push.ensures.items ∙ locales-next js job in
    subst (λ (ls : List ℕ). HaveWorkers (indices_at whole axes parts) (length parts) ls) (sym pushed)
    (subst (λ (parts : List (Option Part)). HaveWorkers (indices_at whole axes parts) (length parts) (locales js ++ job.locale ∷ [])) (with-last parts p c.in-len1-up.len_at_least c.part-item.is)
    (have-next whole axes firsts p (locales js) (c.in_ok-jobs.ensures.locales whole axes) job.locale (c.in_ok-job.ensures.0 ∙ c.in-Ok.ensures.1)))

pub returns-clause-taken : goal.returns-clause-taken
returns-clause-taken t c =
    let ts = c.args.taken.now in
    let l = c.in-Ok.locale in
    let js = c.in_ok-jobs.jobs.items in
    let job = c.in_ok-job.job in
    let pushed = ap locales c.in_ok-push.ensures.items ∙ locales-next js job in
    c.in_ok-own.ensures.taken
    ∙ ap (map (lacking (l ∷ []))) c.in_ok-jobs.ensures.taken
    ∙ lacking-next (locales js) l ts
    ∙ ap (λ (ls : List ℕ). map (lacking ls) ts) (ap (λ l. locales js ++ l ∷ []) (sym c.in_ok-job.ensures.0) ∙ sym pushed)
