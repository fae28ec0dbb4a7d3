-- What is simple, over names that are found, and breaks no rule has a type.
-- It has the type, and the breaches, that it has where declarations without types are left out; there each name has a type.
use Rattle.std.proofs.Common.{◌≡◌, Bool, true, false, [], ◌∷◌, Option, Some, None, refl, sym, ap, subst, ◌∙◌}
use Rattle.std.specs.Prelude.{bytes_eq, if◌then◌else◌}
use Rattle.std.specs.Option.{option_or}
use Rattle.std.proofs.lemmas.Option.{none-some}
use Rattle.dpl_language.specs.Names.{Text}
use Rattle.dpl_language.specs.Tree.{ExprTree, Postfixed, ItemTree, Posts, Exprs}
use Rattle.dpl_rules.specs.Types.{ValueType}
use Rattle.dpl_rules.specs.Verdicts.{all_known}
use Rattle.dpl_rules.specs.Sights.{Declared, Scope, Scopes, find, lookup, type_declared}
use Rattle.dpl_rules.specs.Expressions.{type_of, item_type, expr_parts, expr_breaches, item_breaches, exprs_breaches}
use Rattle.dpl_sound.proofs.Given.{some-same}
use Rattle.dpl_sound.proofs.Known.{IsTyped, AreKnown, type_of-known, item_type-known, exprs-known}
use Rattle.dpl_memory.specs.Memory.{VariableKind}
use Rattle.dpl_typed.specs.Leaves.{kind_by, IsFound}
use Rattle.dpl_typed.specs.Simple.{IsSimple, IsSimpleItem, AreSimplePosts, AreSimpleExprs}
use Rattle.dpl_mapped.proofs.Same.{expr-same, postfixed-same, item-same, exprs-same}

-- ---- scopes without the declarations that have no type
abbrev typed_if : Option ValueType → Declared → Scope → Scope
typed_if None d ds = ds
typed_if (Some t) d ds = d ∷ ds

abbrev typed_scope : Scope → Scope
typed_scope [] = []
typed_scope (d ∷ ds) = typed_if d.type d (typed_scope ds)

abbrev typed_scopes : Scopes → Scopes
typed_scopes [] = []
typed_scopes (s ∷ ss) = typed_scope s ∷ typed_scopes ss

-- what is found there, by whether a name is a declaration's
abbrev found_if : Bool → Declared → Option Declared → Option Declared
found_if b d o = if b then Some d else o

abbrev found_by : Option ValueType → Bool → Declared → Option Declared → Option Declared
found_by None b d o = o
found_by (Some t) b d o = found_if b d o

find-typed_if : (o : Option ValueType) (d : Declared) (ds : Scope) (x : Text) → find (typed_if o d ds) x ≡ found_by o (bytes_eq x d.origin.name) d (find ds x)
find-typed_if None d ds x = refl
find-typed_if (Some t) d ds x = refl

-- ---- in one scope: what is found has a type; what has a type is still found; and nothing else is
found_by-typed : (o : Option ValueType) (b : Bool) (d e : Declared) (p : Option Declared) → d.type ≡ o → (p ≡ Some e → IsTyped e.type) → found_by o b d p ≡ Some e → IsTyped e.type
found_by-typed None b d e p is more h = more h
found_by-typed (Some t) true d e p is more h = subst (λ (d : Declared). IsTyped d.type) (some-same d e h) (t, is)
found_by-typed (Some t) false d e p is more h = more h

find-typed : (s : Scope) (x : Text) (e : Declared) → find (typed_scope s) x ≡ Some e → IsTyped e.type
find-typed [] x e h = absurd (none-some e h)
find-typed (d ∷ ds) x e h =
    found_by-typed d.type (bytes_eq x d.origin.name) d e (find (typed_scope ds) x) refl (find-typed ds x e) (sym (find-typed_if d.type d (typed_scope ds) x) ∙ h)

found_by-none : (o : Option ValueType) (b : Bool) (d : Declared) (p q : Option Declared) → (p ≡ None → q ≡ None) → found_if b d p ≡ None → found_by o b d q ≡ None
found_by-none o true d p q more h = absurd (none-some d (sym h))
found_by-none None false d p q more h = more h
found_by-none (Some t) false d p q more h = more h

find-none : (s : Scope) (x : Text) → find s x ≡ None → find (typed_scope s) x ≡ None
find-none [] x h = refl
find-none (d ∷ ds) x h =
    find-typed_if d.type d (typed_scope ds) x ∙ found_by-none d.type (bytes_eq x d.origin.name) d (find ds x) (find (typed_scope ds) x) (find-none ds x) h

found_by-some : (o : Option ValueType) (b : Bool) (d e : Declared) (p q : Option Declared) → d.type ≡ o → IsTyped e.type → (p ≡ Some e → q ≡ Some e) → found_if b d p ≡ Some e → found_by o b d q ≡ Some e
found_by-some None true d e p q is typed more h = absurd (none-some typed.0 (sym is ∙ ap (λ (d : Declared). d.type) (some-same d e h) ∙ typed.1))
found_by-some None false d e p q is typed more h = more h
found_by-some (Some t) true d e p q is typed more h = h
found_by-some (Some t) false d e p q is typed more h = more h

find-some : (s : Scope) (x : Text) (e : Declared) → IsTyped e.type → find s x ≡ Some e → find (typed_scope s) x ≡ Some e
find-some [] x e typed h = absurd (none-some e h)
find-some (d ∷ ds) x e typed h =
    find-typed_if d.type d (typed_scope ds) x
    ∙ found_by-some d.type (bytes_eq x d.origin.name) d e (find ds x) (find (typed_scope ds) x) refl typed (find-some ds x e typed) h

-- ---- in all scopes
or-typed : (p q : Option Declared) (e : Declared) → (p ≡ Some e → IsTyped e.type) → (q ≡ Some e → IsTyped e.type) → option_or p q ≡ Some e → IsTyped e.type
or-typed None q e here there h = there h
or-typed (Some d) q e here there h = here h

scopes-typed : (ss : Scopes) → AreKnown (typed_scopes ss)
scopes-typed [] x e h = absurd (none-some e h)
scopes-typed (s ∷ ss) x e h = or-typed (find (typed_scope s) x) (lookup (typed_scopes ss) x) e (find-typed s x e) (scopes-typed ss x e) h

or-some : (e : Declared) (p q r o : Option Declared) → (p ≡ None → r ≡ None) → (p ≡ Some e → r ≡ Some e) → (q ≡ Some e → o ≡ Some e) → option_or p q ≡ Some e → option_or r o ≡ Some e
or-some e None q r o none here there h = ap (λ r. option_or r o) (none refl) ∙ there h
or-some e (Some d) q r o none here there h = ap (λ r. option_or r o) (here h)

lookup-some : (ss : Scopes) (x : Text) (e : Declared) → IsTyped e.type → lookup ss x ≡ Some e → lookup (typed_scopes ss) x ≡ Some e
lookup-some [] x e typed h = absurd (none-some e h)
lookup-some (s ∷ ss) x e typed h =
    or-some e (find s x) (lookup ss x) (find (typed_scope s) x) (lookup (typed_scopes ss) x) (find-none s x) (find-some s x e typed) (lookup-some ss x e typed) h

-- ---- names that are found
kind-typed : (o : Option ValueType) (k : VariableKind) → kind_by o ≡ Some k → IsTyped o
kind-typed None k e = absurd (none-some k e)
kind-typed (Some t) k e = (t, refl)

found-declared : (o : Option Declared) (k : VariableKind) → kind_by (type_declared o) ≡ Some k → (d : Declared) × (o ≡ Some d) × IsTyped d.type
found-declared None k e = absurd (none-some k e)
found-declared (Some d) k e = (d, refl, kind-typed d.type k e)

module _ (ss : Scopes) where
  names-same : (x : Text) → IsFound ss x → lookup (typed_scopes ss) x ≡ lookup ss x
  names-same x h =
      let d = found-declared (lookup ss x) h.0 h.2 in
      lookup-some ss x d.0 d.2 d.1 ∙ sym d.1

  -- ---- so what is simple has a type
  pub expr-typed : (e : ExprTree Text) → IsSimple (IsFound ss) e → expr_breaches ss e ≡ [] → IsTyped (type_of ss e)
  expr-typed e simple none =
      let same = expr-same (IsFound ss) ss (typed_scopes ss) names-same e simple in
      subst IsTyped same.0 (type_of-known (typed_scopes ss) (scopes-typed ss) e (same.1 ∙ none))

  pub postfixed-typed : (e : ExprTree Text) (ps : Posts Text) → IsSimple (IsFound ss) e → AreSimplePosts (IsFound ss) ps → expr_breaches ss (Postfixed e ps) ≡ [] → IsTyped (type_of ss (Postfixed e ps))
  postfixed-typed e ps simple posts none =
      let same = postfixed-same (IsFound ss) ss (typed_scopes ss) names-same e ps simple posts in
      subst IsTyped same.0 (type_of-known (typed_scopes ss) (scopes-typed ss) (Postfixed e ps) (same.1 ∙ none))

  pub item-typed : (i : ItemTree Text) → IsSimpleItem (IsFound ss) i → item_breaches ss i ≡ [] → IsTyped (item_type ss i)
  item-typed i simple none =
      let same = item-same (IsFound ss) ss (typed_scopes ss) names-same i simple in
      subst IsTyped same.0 (item_type-known (typed_scopes ss) (scopes-typed ss) i (same.1 ∙ none))

  pub exprs-typed : (es : Exprs Text) → AreSimpleExprs (IsFound ss) es → exprs_breaches ss es ≡ [] → all_known (expr_parts ss es) ≡ true
  exprs-typed es simple none =
      let same = exprs-same (IsFound ss) ss (typed_scopes ss) names-same es simple in
      ap all_known (sym same.0) ∙ exprs-known (typed_scopes ss) (scopes-typed ss) es (same.1 ∙ none)
