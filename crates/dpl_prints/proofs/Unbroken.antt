-- A printed argument that breaks no rule has a type that is printed.
-- No simple expression reads a cell, so that it is told, and typed, as any expression is.
use Rattle.std.proofs.Common.{◌≡◌, Bool, true, false, [], Option, Some, None, refl, sym, ap, subst, ◌∙◌}
use Rattle.std.proofs.lemmas.Option.{none-some}
use Rattle.dpl_syntax.specs.declared.refusal.Breach.{Breach}
use Rattle.dpl_syntax.specs.declared.refusal.Code.TheVariants.{WrongType}
use Rattle.dpl_language.specs.Names.{Text}
use Rattle.dpl_language.specs.Phrases.{bare_name}
use Rattle.dpl_language.specs.Tree.{ExprTree, One, ExprArgument}
use Rattle.dpl_rules.specs.Assignments.{is_printed}
use Rattle.dpl_rules.specs.Breaches.{least_from}
use Rattle.dpl_rules.specs.Sights.{Scopes}
use Rattle.dpl_rules.specs.Types.{ValueType}
use Rattle.dpl_rules.specs.Verdicts.{owed_type, wanted}
use Rattle.dpl_rules.specs.Expressions.{none_where, kind_read, read_or_type, type_of, expr_breaches}
use Rattle.dpl_sound.proofs.Known.{IsTyped, AreKnown, type_of-known}
use Rattle.dpl_lowered.specs.LoweredExpressions.{Once}
use Rattle.dpl_memory.specs.Memory.{VariableKind}
use Rattle.dpl_nodes.specs.declared.step.Argument.{Argument}
use Rattle.dpl_types.specs.declared.want.Want.{Want}
use Rattle.dpl_types.proofs.Unbroken.{unbroken, owed-holds}
use Rattle.dpl_types.specs.Wants.{takes}
use Rattle.dpl_typed.specs.declared.typed.Typed.{Typed}
use Rattle.dpl_typed.specs.declared.part.Part.{Part as PartNode}
use Rattle.dpl_typed.specs.Leaves.{kind_by, IsFound}
use Rattle.dpl_typed.specs.Lowered.{leaves_of}
use Rattle.dpl_typed.specs.Simple.{IsSimple}
use Rattle.dpl_typed.specs.Stands.{IsArgument}
use Rattle.dpl_typed.specs.Typed.{type_of_typed, types_of, part_view}
use Rattle.dpl_bound.specs.Sights.{AreKnownScopes}
use Rattle.dpl_bound.proofs.Sights.{lookup-known}
use Rattle.dpl_assignments.proofs.Sides.{item-unread}
use Rattle.dpl_prints.specs.Told.{argument_part_in, argument_in}
use Rattle.dpl_prints.specs.Made.{shown_of, IsArgumentAs}
use Rattle.dpl_prints.proofs.Showing.{typed-made}

-- ---- names in known scopes have types
kind-typed : (o : Option ValueType) (k : VariableKind) → kind_by o ≡ Some k → IsTyped o
kind-typed None k e = absurd (none-some k e)
kind-typed (Some t) k e = (t, refl)

names-typed : (ss : Scopes) → AreKnownScopes ss → AreKnown ss
names-typed ss h x d e =
    let name = lookup-known ss x h d e in
    kind-typed d.type name.kind name.of_kind

-- ---- a simple expression as an argument
simple-type : (ss : Scopes) (in_task : Bool) (e : ExprTree Text) → IsSimple (IsFound ss) e → (argument_part_in ss in_task e).type ≡ type_of ss e
simple-type ss true e h = refl
simple-type ss false e h = ap (λ r. read_or_type (kind_read ss r) (type_of ss e)) (item-unread ss (One e) h)

simple-told : (ss : Scopes) (in_task : Bool) (e : ExprTree Text) → IsSimple (IsFound ss) e → argument_in ss in_task e ≡ expr_breaches ss e
simple-told ss true e h = refl
simple-told ss false e h = ap (λ r. none_where (kind_read ss r) (expr_breaches ss e)) (item-unread ss (One e) h)

some-found : (found : Option Typed) (u : ValueType) → types_of found ≡ Some u → (v : Typed) × (found ≡ Some v)
some-found None u e = absurd (none-some u e)
some-found (Some v) u e = (v, refl)

pub value-made : (ss : Scopes) (in_task : Bool) (e : ExprTree Text) (part : PartNode) (want : Want) (r : Option Argument) (o p q : Option Breach) → part_view part ≡ argument_part_in ss in_task e
    → p ≡ least_from o (argument_in ss in_task e) → ((t : ValueType) → takes want t ≡ is_printed (bare_name e) t) → q ≡ least_from p (wanted (takes want) (part_view part)) → r ≡ shown_of part.found → q ≡ None → AreKnownScopes ss
    → IsSimple (IsFound ss) e → IsArgument part.found (leaves_of ss Once e) → IsArgumentAs ss (ExprArgument e) r
value-made ss in_task e part want r o p q same told tests fits shown none known simple node =
    let fit = unbroken p (wanted (takes want) (part_view part)) (sym fits ∙ none) in
    let own = unbroken o (argument_in ss in_task e) (sym told ∙ fit.0) in
    let type = type_of-known ss (names-typed ss known) e (sym (simple-told ss in_task e simple) ∙ own.1) in
    let found = some-found part.found type.0 (ap (λ p. p.type) same ∙ simple-type ss in_task e simple ∙ type.1) in
    let is = subst (λ o. IsArgument o (leaves_of ss Once e)) found.1 node in
    let holds = owed-holds (takes want (type_of_typed found.0)) part.at WrongType (subst (λ o. owed_type (takes want) part.at (types_of o) ≡ []) found.1 fit.1) in
    subst (IsArgumentAs ss (ExprArgument e)) (sym (shown ∙ ap shown_of found.1)) (typed-made ss e found.0 is.0 (sym (tests (type_of_typed found.0)) ∙ holds))
