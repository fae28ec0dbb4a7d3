-- An item, or a created domain, which has its map with it.
-- Each stands for what is written.
use Rattle.std.proofs.Common.{◌≡◌, None, sym, ap, subst}
use Rattle.std.specs.Prelude.{IfOk}
use Rattle.dpl_tree.specs.Declarations.{init_view, created_view}
use Rattle.dpl_bound.specs.Sights.{AreKnownScopes}
use Rattle.dpl_declarations.specs.Plain.{IsPlainInit}
use Rattle.dpl_declarations.specs.Made.{IsGivenBy}
use Rattle.dpl_declarations.proofs.Beside.{created-given}
use Rattle.dpl_declarations.proofs.initial.untyped.Goals as goal

pub returns-in-Item-clause-node : goal.returns-in-Item-clause-node
returns-in-Item-clause-node c =
    let ss = c.args.scopes.now in
    subst (λ i. IfOk c.untyped_item.result (λ g. c.untyped_item.new.first ≡ None → AreKnownScopes ss → IsPlainInit ss i → IsGivenBy ss i g)) (sym (ap init_view c.in-Item.is))
    c.untyped_item.ensures.node

pub returns-in-Ok-clause-node : goal.returns-in-Ok-clause-node
returns-in-Ok-clause-node c = λ none known plain.
    created-given c.args.scopes.now (init_view c.args.written.now) (created_view c.in-Create.create) (record { at = c.in-Create.create.at; found = c.in-Ok.found }) c.created-placing.result
    (ap init_view c.in-Create.is) c.created-placing.ensures c.in-Ok.ensures.node plain
