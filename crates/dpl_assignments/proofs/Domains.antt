-- A domain that is assigned a domain by `=`.
-- What stands for the domain that is given is the same, however often it is evaluated.
use Rattle.std.proofs.Common.{◌≡◌, ℕ, Bool, true, Result, Ok, Err, sym, ap, ◌∙◌}
use Rattle.std.specs.Prelude.{IfOk}
use Rattle.std.specs.Borrow.{Bor}
use Rattle.dpl_syntax.specs.declared.place.Place.{Place}
use Rattle.dpl_language.specs.Tree.{Assign, Set, One}
use Rattle.dpl_rules.specs.Types.{is_domain_of}
use Rattle.dpl_rules.specs.Sights.{Scopes}
use Rattle.dpl_memory.specs.Memory.{DomainKind}
use Rattle.dpl_nodes.specs.declared.step.Step.{Step}
use Rattle.dpl_nodes.specs.declared.tree.DomainExpr.{DomainExpr}
use Rattle.dpl_nodes.specs.Spots.{IsNear}
use Rattle.dpl_nodes.specs.Steps.{step_view}
use Rattle.dpl_nodes.specs.Typed.{domain_view}
use Rattle.dpl_typed.specs.declared.typed.Typed.{Typed}
use Rattle.dpl_typed.specs.declared.typed.Typed.TheVariants.{Domain}
use Rattle.dpl_typed.specs.Typed.{type_of_typed, typed_item}
use Rattle.dpl_assignments.specs.Made.{given_to}
use Rattle.dpl_assignments.specs.Takes.{domain_by}

pub domain-given : {E : Type 0} (ss : Scopes) (at : Place) (slot : ℕ) (op : Assign) (sign : Place) (value : Typed) (k : ℕ) (strided : Bool) (node : Bor DomainExpr) (r : Result Step E)
    → value ≡ Domain k strided node → op ≡ Set
    → IfOk r (λ s. (sign : Place) → IsNear at → step_view s ≡ given_to ss at DomainKind slot Set sign (λ m. One (domain_view node.now)))
    → IfOk r (λ s. (rank : ℕ) (may_stride : Bool) → is_domain_of rank may_stride (type_of_typed value) ≡ true → domain_by op ≡ true
    → IsNear at → step_view s ≡ given_to ss at DomainKind slot op sign (λ m. typed_item m value))
domain-given ss at slot op sign value k strided node (Ok s) is set h = λ rank may d b near.
    h sign near ∙ ap (λ o. given_to ss at DomainKind slot o sign (λ m. One (domain_view node.now))) (sym set) ∙ ap (λ v. given_to ss at DomainKind slot op sign (λ m. typed_item m v)) (sym is)
domain-given ss at slot op sign value k strided node (Err e) is set h = tt
