-- Each form is as its type, or as none.
-- What is known of it is known of the declaration.
use Rattle.std.proofs.Common.{◌≡◌, Option, Some, None, sym, ap, subst, ◌∙◌}
use Rattle.dpl_syntax.specs.declared.refusal.Breach.{Breach}
use Rattle.dpl_language.specs.Declarations.{type_of}
use Rattle.dpl_language.specs.Names.{Text}
use Rattle.dpl_language.specs.Tree.{TypeTree, DeclareTree}
use Rattle.dpl_tree.specs.Declarations.{optional, typed_view, type_view, declare_view}
use Rattle.dpl_rules.specs.Sights.{Scopes}
use Rattle.dpl_typed.proofs.Standing.{if_ok}
use Rattle.dpl_declarations.specs.declared.found.Found.{Found}
use Rattle.dpl_declarations.specs.Plain.{IsPlainAs}
use Rattle.dpl_declarations.specs.Trees.{IsFoundAs}
use Rattle.dpl_declarations.proofs.names.name.Goals as goal

abbrev NodeAs : Scopes → DeclareTree Text → Option Breach → Found → Option (TypeTree Text) → Type 0
NodeAs ss d new f y = new ≡ None → IsPlainAs ss d y → IsFoundAs ss d y f

pub returns-in-None-clause-node : goal.returns-in-None-clause-node
returns-in-None-clause-node c =
    let type = ap (λ w. type_of (optional typed_view w)) c.in-None.is in
    if_ok c.untyped_name.result (λ f h. subst (NodeAs c.args.scopes.now (declare_view c.args.written.now) c.untyped_name.new.first f) (sym type) h) c.untyped_name.ensures.node

pub returns-in-Scalar-clause-node : goal.returns-in-Scalar-clause-node
returns-in-Scalar-clause-node c =
    let type = ap (λ w. type_of (optional typed_view w)) c.in-Some.is ∙ ap (λ y. Some (type_view y)) c.in-Scalar.is in
    if_ok c.scalar_name.result (λ f h. subst (NodeAs c.args.scopes.now (declare_view c.args.written.now) c.scalar_name.new.first f) (sym type) (h _)) c.scalar_name.ensures.node

pub returns-in-Domain-clause-node : goal.returns-in-Domain-clause-node
returns-in-Domain-clause-node c =
    let type = ap (λ w. type_of (optional typed_view w)) c.in-Some.is ∙ ap (λ y. Some (type_view y)) c.in-Domain.is in
    if_ok c.domain_name.result (λ f h. subst (NodeAs c.args.scopes.now (declare_view c.args.written.now) c.domain_name.new.first f) (sym type) h) c.domain_name.ensures.node

pub returns-in-Array-clause-node : goal.returns-in-Array-clause-node
returns-in-Array-clause-node c =
    let type = ap (λ w. type_of (optional typed_view w)) c.in-Some.is ∙ ap (λ y. Some (type_view y)) c.in-Array.is in
    if_ok c.array_name.result (λ f h. subst (NodeAs c.args.scopes.now (declare_view c.args.written.now) c.array_name.new.first f) (sym type) h) c.array_name.ensures.node
