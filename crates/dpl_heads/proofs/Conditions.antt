-- A condition that breaks no rule is a truth value, whose node stands for it.
use Rattle.std.proofs.Common.{◌≡◌, true, false, Bor, Option, Some, None, sym, ap, ◌∙◌, subst, []}
use Rattle.dpl_syntax.specs.declared.refusal.Breach.{Breach}
use Rattle.dpl_syntax.specs.declared.refusal.Code.TheVariants.{WrongType}
use Rattle.dpl_language.specs.Tree.{ExprTree}
use Rattle.dpl_language.specs.Names.{Text}
use Rattle.dpl_rules.specs.Types.{ValueType, has, is_bool}
use Rattle.dpl_rules.specs.Verdicts.{owed_type}
use Rattle.dpl_rules.specs.Places.{first_of}
use Rattle.dpl_rules.specs.Sights.{Scopes}
use Rattle.dpl_rules.specs.Expressions.{type_of, expr_breaches}
use Rattle.dpl_rules.proofs.Admission.{first_empty, second_empty}
use Rattle.dpl_sound.proofs.Known.{type_of-known}
use Rattle.dpl_types.specs.declared.want.Want.TheVariants as want
use Rattle.dpl_lowered.specs.LoweredExpressions.{Once}
use Rattle.dpl_memory.specs.Memory.{Variable}
use Rattle.dpl_nodes.specs.declared.tree.BoolExpr.{BoolExpr}
use Rattle.dpl_typed.specs.declared.typed.Typed.{Typed}
use Rattle.dpl_typed.specs.Typed.{types_of}
use Rattle.dpl_typed.specs.Lowered.{leaves_of}
use Rattle.dpl_typed.specs.Stands.{IsArgument}
use Rattle.dpl_typed.specs.Told.{Tells}
use Rattle.dpl_typed.specs.Where.{WhereSimple}
use Rattle.dpl_heads.specs.Plain.{IsPlainExpr}
use Rattle.dpl_heads.specs.Made.{IsTruth, IsTruthOf}
use Rattle.dpl_heads.specs.Told.{wanted_told}
use Rattle.dpl_types.proofs.Unbroken.{unbroken, owed-holds}
use Rattle.dpl_heads.proofs.Known.{known-types}

truth-found : (found : Option Typed) (r : Option (Bor BoolExpr)) (e : ExprTree Variable) → has is_bool (types_of found) ≡ true → IsArgument found e → IsTruthOf found r → IsTruth e r
truth-found None r e test stands is = absurd (let f : false ≡ true = test in cc)
truth-found (Some t) None e test stands is = absurd (let f : false ≡ true = sym is ∙ test in cc)
truth-found (Some t) (Some b) e test stands is = is ∙ stands.0

pub condition-made : (ss : Scopes) (e : ExprTree Text) (found : Option Typed) (r : Option (Bor BoolExpr)) (o p : Option Breach)
    → Tells (type_of ss e) (wanted_told ss want.Bool e) found o p → WhereSimple ss e (IsArgument found (leaves_of ss Once e)) → IsTruthOf found r
    → p ≡ None → IsPlainExpr ss e → IsTruth (leaves_of ss Once e) r
condition-made ss e found r o p (typed, told) node is none plain =
    let all = unbroken o (wanted_told ss want.Bool e) (sym told ∙ none) in
    let parts = expr_breaches ss e in
    let own = owed_type is_bool (first_of e) (type_of ss e) in
    let type = type_of-known ss (known-types ss plain.known) e (first_empty parts own all.1) in
    let test = owed-holds (is_bool type.0) (first_of e) WrongType (subst (λ (t : Option ValueType). owed_type is_bool (first_of e) t ≡ []) type.1 (second_empty parts own all.1)) in
    truth-found found r (leaves_of ss Once e) (ap (has is_bool) (typed ∙ type.1) ∙ test) (node plain.simple plain.near) is
