-- Names of one slot: what is declared without an array's type is of a kind of its own, and is given a value of that kind.
-- What runs has a type of a kind.
use Rattle.std.proofs.Common.{◌≡◌, true, false, Option, Some, None, refl, sym, ap, ◌∙◌, subst}
use Rattle.std.proofs.lemmas.Option.{none-some}
use Rattle.dpl_language.specs.Tree.{TypeTree, ScalarType, SyncType, DomainType, ArrayType, DeclareTree}
use Rattle.dpl_language.specs.Names.{Text}
use Rattle.dpl_language.specs.Declarations.{type_of}
use Rattle.dpl_rules.specs.Types.{ValueType, Scalar, Domain, Cell}
use Rattle.dpl_rules.specs.Sights.{Scopes, origin_in}
use Rattle.dpl_rules.specs.Declarations.{is_kept, type_given, declaration_breaches, declared_by}
use Rattle.dpl_sound.proofs.Given.{some-same}
use Rattle.dpl_words.specs.Words.{LeafKind}
use Rattle.dpl_memory.specs.Memory.{VariableKind, PlainKind, DomainKind, TupleKind, CellKind, ArrayKind}
use Rattle.dpl_runnable.specs.Kinds.{is_promoted, IsScalarKind, IsDeclaredKind, IsGivenTo}
use Rattle.dpl_typed.specs.Leaves.{value_kind, kind_by}
use Rattle.dpl_runnable.specs.Runnable.{IsRunnableDeclare}
use Rattle.dpl_runnable.specs.InSight.{IsSingleKind, IsNoArrayType}
use Rattle.dpl_runnable.proofs.Scoped.{unless-both, untyped-declared, kept-single}

-- what has a kind has a type
pub some-type : (o : Option ValueType) (k : VariableKind) → kind_by o ≡ Some k → (t : ValueType) × (o ≡ Some t)
some-type None k e = absurd (none-some k e)
some-type (Some t) k e = (t, refl)

-- what is no array's is given a value of its own kind
pub single-kind : (k : VariableKind) → IsDeclaredKind k → is_promoted k ≡ false → IsSingleKind k
single-kind (PlainKind k) h e = tt
single-kind DomainKind h e = tt
single-kind TupleKind h e = absurd h
single-kind (ArrayKind k) h e = absurd (let f : true ≡ false = e in cc)
single-kind (CellKind c) h e = absurd h

pub single-given : (k j : VariableKind) → IsSingleKind k → IsGivenTo k j → j ≡ k
single-given (PlainKind k) j h e = e
single-given DomainKind j h e = e
single-given TupleKind j h e = absurd h
single-given (ArrayKind k) j h e = absurd h
single-given (CellKind c) j h e = absurd h

-- a declaration without an array's type is of no array
single-kept : (ss : Scopes) (d : DeclareTree Text) (t : ValueType) (k : VariableKind) → IsNoArrayType (type_of d.typed) → (declared_by ss d).type ≡ Some t → value_kind t ≡ Some k → is_kept t ≡ true
single-kept ss d t k none e kind = by (type_of d.typed) refl none
  where
    given : type_given ss (origin_in ss d.name.name) (type_of d.typed) d.initial ≡ Some t
    given = (unless-both (declaration_breaches ss d) (type_given ss (origin_in ss d.name.name) (type_of d.typed) d.initial) t e).1

    by : (y : Option (TypeTree Text)) → type_of d.typed ≡ y → IsNoArrayType y → is_kept t ≡ true
    by None is n = untyped-declared ss d t is e
    by (Some (ScalarType at l)) is n = ap is_kept (sym (some-same (Scalar l) t (subst (λ y. type_given ss (origin_in ss d.name.name) y d.initial ≡ Some t) is given)))
    by (Some (SyncType at kind_at l)) is n =
        let cell : Cell l ≡ t = some-same (Cell l) t (subst (λ y. type_given ss (origin_in ss d.name.name) y d.initial ≡ Some t) is given) in
        absurd (none-some k (ap value_kind cell ∙ kind))
    by (Some (DomainType y)) is n = ap is_kept (sym (some-same (Domain y.rank false) t (subst (λ y. type_given ss (origin_in ss d.name.name) y d.initial ≡ Some t) is given)))
    by (Some (ArrayType a)) is n = absurd n

pub declared-single_kind : (ss : Scopes) (d : DeclareTree Text) → IsNoArrayType (type_of d.typed) → (s : IsRunnableDeclare ss d) → IsSingleKind s.kind
declared-single_kind ss d none s =
    let typed = some-type (declared_by ss d).type s.kind s.declared in
    let kind : value_kind typed.0 ≡ Some s.kind = ap kind_by (sym typed.1) ∙ s.declared in
    single-kind s.kind s.kept (kept-single typed.0 s.kind (single-kept ss d typed.0 s.kind none typed.1 kind) kind)

-- what is declared, and configured, is no array
pub declared-single : (k : VariableKind) → IsSingleKind k → is_promoted k ≡ false
declared-single (PlainKind k) h = refl
declared-single DomainKind h = refl
declared-single TupleKind h = absurd h
declared-single (ArrayKind k) h = absurd h
declared-single (CellKind c) h = absurd h

pub scalar-leaf : (k : VariableKind) → IsScalarKind k → (l : LeafKind) × (k ≡ PlainKind l)
scalar-leaf (PlainKind l) h = (l, refl)
scalar-leaf _ h = absurd h
