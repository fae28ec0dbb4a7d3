-- A declaration is as deep as its scope, but one that was made where no scope was open.
use Rattle.std.proofs.Common.{◌∙◌, ap, sym, max, nat_eq, reverse}
use Rattle.dpl_rules.specs.Sights.{lookup, declared_here}
use Rattle.dpl_scopes.specs.View.{declared_view}
use Rattle.dpl_scopes.proofs.Marks.{declared_here-found}
use Rattle.dpl_scopes.proofs.scopes.Scopes.declared_here.Goals as goal

pub returns-in-Some : goal.returns-in-Some
returns-in-Some c =
    let marks = reverse c.self.inside.marks.items in
    let d = declared_view c.in-Some.declared in
    let found = c.in-Some.ensures.declared ∙ ap (λ ss. lookup ss c.args.name.now) (sym c.self.view_is) in
    ap (λ n. nat_eq n c.self.inside.depth) c.max.ensures
    ∙ ap (nat_eq (max d.origin.depth 1)) c.self.invariant.deep
    ∙ declared_here-found marks c.self.invariant.kept c.args.name.now d found
    ∙ ap (λ ss. declared_here ss c.args.name.now) c.self.view_is
