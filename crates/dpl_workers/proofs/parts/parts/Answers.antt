-- The next locale's part is one domain, or what the locale owns; or it has none.
use Rattle.std.proofs.Common.{◌≡◌, ◌+◌, ◌<◌, ℕ, [], ◌∷◌, None, get_or, length, sym, subst, ap, ◌∙◌}
use Rattle.std.specs.Prelude.{◌++◌}
use Rattle.dpl_sets.specs.Indices.{indices}
use Rattle.dpl_map.specs.Cuts.{AreCut}
use Rattle.dpl_map.specs.Parts.{part}
use Rattle.dpl_workers.specs.Parts.{IsPart}
use Rattle.dpl_workers.proofs.SoleParts.{one-longer, one-more}
use Rattle.dpl_workers.proofs.parts.parts.Goals as goal

pub loop-locale-preserved : goal.loop-locale-preserved
loop-locale-preserved c =
    let whole = c.args.whole.now in
    let axes = c.args.map.now in
    let before = c.loop-locale.parts.items in
    let long = c.loop-locale.invariant.long in
    let pushed : c.push.new.self.items ≡ before ++ c.told.result ∷ [] = c.in_ok-push.ensures.items in
    let cut = subst (AreCut indices (part whole axes c.loop-locale.locale)) (sym c.deref.ensures.value) c.in-Ok.ensures.cut in
    let told : IsPart whole axes c.loop-locale.locale c.told.result = c.told.ensures whole axes c.loop-locale.locale cut in
    let each = one-more (λ k p. IsPart whole axes k p) None before c.told.result c.loop-locale.invariant.each (subst (λ k. IsPart whole axes k c.told.result) (sym long) told) in
    record {
      long = ap length pushed ∙ one-longer before c.told.result ∙ ap (λ n. n + 1) long;
      each = subst (λ (ps : _). (k : ℕ) → k < length ps → IsPart whole axes k (get_or ps k None)) (sym pushed) each;
    }
